pub mod RowLemmas
pub mod CellLemmas
pub mod EnterLemmas
pub mod StandLemmas
pub mod ThereLemmas
pub mod WorkedWritten
