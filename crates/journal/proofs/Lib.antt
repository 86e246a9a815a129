mod Goings
mod SameLists
