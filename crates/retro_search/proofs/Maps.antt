-- Maps whose keys are queries.
pub mod Inserted
pub mod Lookups
