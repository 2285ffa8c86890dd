mod Decimals
mod Texts
mod Requests
mod Wholes
