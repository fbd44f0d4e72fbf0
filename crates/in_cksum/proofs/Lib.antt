mod Words
mod Blocks
mod Wrapped
mod Ranges
mod Rests
mod Numbers
