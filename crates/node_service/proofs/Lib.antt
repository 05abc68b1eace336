mod Brought
mod Frames
mod Places
