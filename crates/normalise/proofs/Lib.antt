mod Places
mod Stages
