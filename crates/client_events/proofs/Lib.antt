pub mod AnswerLemmas
pub mod CarryingLemmas
pub mod GoingLemmas
pub mod EndLemmas
pub mod TurnLemmas
pub mod WriteLemmas
