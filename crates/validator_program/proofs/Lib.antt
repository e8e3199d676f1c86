mod Cut
mod Added
mod Small
mod Alone
mod Running
mod NamedFiles
mod ListedFaults
