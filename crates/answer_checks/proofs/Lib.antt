mod Lists
mod Reading
mod Going
mod Pairing
