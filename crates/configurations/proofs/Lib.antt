mod MemberLists
mod Openings
mod Encodings
mod Stores
