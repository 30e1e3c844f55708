mod Room
mod Asked
mod None
