mod Answered
mod Places
