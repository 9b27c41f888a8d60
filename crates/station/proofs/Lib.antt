mod Room
mod Reading
mod Conversed
