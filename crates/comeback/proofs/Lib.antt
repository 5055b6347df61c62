mod Setting
mod Sources
