pub mod FailingLemmas
