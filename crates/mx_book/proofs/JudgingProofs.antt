pub mod AnswerLemmas
pub mod FactsLemmas
pub mod ReleaseLemmas
