pub mod TakenTags
pub mod RowPlans
