pub mod NameLemmas
pub mod ShownLemmas
pub mod RunLemmas
pub mod CoreLemmas
pub mod CarryLemmas
pub mod SpaceLemmas
pub mod MapLemmas
pub mod TableAnswers
pub mod WindowLemmas
mod AdviceLemmas
mod RefusedCalls
mod SameBooks
pub mod CameLemmas
mod SettledCore
pub mod LoadLemmas
pub mod MovedLemmas
pub mod StoreLemmas
pub mod RangeLemmas
mod WindowHalts
mod ReshapeLemmas
mod MovesLemmas
pub mod HaltLemmas
pub mod BareLemmas
pub mod TakenMachine
pub mod AwayLemmas
pub mod FileLemmas
pub mod TakeLemmas
pub mod SeesLemmas
pub mod OnLemmas
pub mod SizeLemmas
mod LookLemmas
mod OutcomeLemmas
