mod Lists
mod Texts
mod Bounds
