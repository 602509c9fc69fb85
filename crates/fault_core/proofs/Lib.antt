pub mod BeforeLemmas
pub mod ReachLemmas
pub mod TurnLemmas
pub mod EvidenceLemmas
pub mod YieldLemmas
mod FindLemmas
mod UnitLemmas
mod KeptLemmas
pub mod ShowLemmas
pub mod RevealedLemmas
pub mod AskLemmas
mod AccessLemmas
mod LendLemmas
mod RunLemmas
mod FrameLemmas
mod PieceLemmas
mod StoreLemmas
mod LeaveLemmas
mod PlanLemmas
pub mod AllowedLemmas
pub mod AnswerLemmas
mod RestLemmas
mod RangeLemmas
pub mod ForcedLemmas
mod DiscardLemmas
mod KilledLemmas
mod KillLemmas
mod WholeLemmas
mod ActivateLemmas
mod RoomLemmas
mod AttemptLemmas
pub mod ReadyLemmas
pub mod PutLemmas
mod RowLemmas
pub mod StoreReadyLemmas
mod MovedLemmas
pub mod LackLemmas
pub mod NeverBlamesLemmas
mod ReferredLemmas
mod EarlyLemmas
mod OutcomeLemmas
