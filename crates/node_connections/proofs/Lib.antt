mod Journals
mod Own
mod Exchanges
mod Written
mod Replies
