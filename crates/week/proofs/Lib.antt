mod Settles
mod Seen
