pub mod TrialLemmas
