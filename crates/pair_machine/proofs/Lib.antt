pub mod PairLemmas
pub mod ReplyLemmas
pub mod TranscriptLemmas
pub mod ExactLemmas
