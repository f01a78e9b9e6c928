pub mod PointLemmas
pub mod FamilyLemmas
pub mod SchemaLemmas
pub mod RowLemmas
pub mod EmptyLemmas
pub mod ChangeLemmas
pub mod Worked
