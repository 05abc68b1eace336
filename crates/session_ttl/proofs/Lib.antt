pub mod Starts
pub mod Sorting
pub mod TimesOver
pub mod Among
pub mod Timing
