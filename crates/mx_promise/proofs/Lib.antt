pub mod OwnLemmas
pub mod AgainLemmas
pub mod KeptLemmas
pub mod CreatedLemmas
pub mod ReopenedLemmas
pub mod MovedLemmas
pub mod OpenedLemmas
pub mod PrintLemmas
