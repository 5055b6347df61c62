mod Firsts
mod Maps
