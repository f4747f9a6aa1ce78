mod Ordered
mod InParts
mod Copies
mod Maps
mod Places
mod Rows
mod Unlike
