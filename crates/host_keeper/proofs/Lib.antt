mod Asking
mod Tallying
