mod Homes
mod Payloads
mod Reading
mod Encodings
