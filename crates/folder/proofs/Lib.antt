mod Answering
mod Finding
mod Firsts
mod Opening
mod Places
mod Recording
mod Sources
