pub mod Tombs
pub mod Fires
pub mod Writes
pub mod Removals
pub mod Trees
pub mod Commands
pub mod Changes
pub mod Transactions
pub mod FreeingTables
pub mod FreeingNotes
pub mod FreeingSteps
pub mod FreeingMoves
mod Marking
mod Changed
mod NodeFires
mod Quiet
mod RowSteps
mod Keeping
mod Endings
mod Loops
mod KeySteps
mod Makings
mod Settings
pub mod Unbroken
