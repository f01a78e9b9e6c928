pub mod EndingsProofs
pub mod ExplainedProofs
pub mod PrintedProofs
pub mod QuestionsProofs
pub mod SectorLogProofs
