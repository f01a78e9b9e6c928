pub mod NumberLemmas
pub mod SoundLemmas
