mod Lists
mod Accounting
mod Soonest
mod Telling
mod Whole
mod Playing
