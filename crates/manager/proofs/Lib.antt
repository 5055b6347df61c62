mod Members
mod Orders
mod Changes
