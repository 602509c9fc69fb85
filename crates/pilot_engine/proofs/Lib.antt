pub mod CountedHalts
pub mod AskLemmas
pub mod RefusalLemmas
pub mod RoomLemmas
pub mod LeadLemmas
pub mod CarryLemmas
pub mod CallLemmas
pub mod StartCrashStates
pub mod RangeCounts
pub mod StartCount
pub mod StartStands
pub mod StartWrites
pub mod StartRuns
pub mod StartFaults
mod StartCosts
pub mod InitialStateLemmas
pub mod FormLemmas
pub mod BeginLemmas
pub mod FreshLemmas
pub mod StepLemmas
pub mod CauseLemmas
pub mod ReasonSteps
pub mod SeesLemmas
pub mod SpaceLeft
pub mod AloneLemmas
pub mod ShedLemmas
pub mod EndLemmas
pub mod WroteLemmas
pub mod ClearedUpTo
pub mod StopLemmas
pub mod TableStops
pub mod CreateLemmas
pub mod CreateStops
pub mod BoundLemmas
pub mod EndCosts
pub mod GrowthLemmas
pub mod SetSizeLemmas
pub mod LiftLemmas
pub mod PassThen
pub mod NextUpTo
pub mod SeenLemmas
pub mod OrderLemmas
pub mod AttributeLemmas
pub mod SettledWider
pub mod AnonymousLemmas
pub mod NewWindow
pub mod OwnLemmas
pub mod WritingLemmas
pub mod LabelLemmas
pub mod ShutLemmas
pub mod ShutBySyncLemmas
pub mod UnsetLemmas
pub mod LackLemmas
pub mod HomeLemmas
pub mod SpaceMisses
pub mod HomeSteps
pub mod EndNeverBlames
pub mod RestLemmas
pub mod ReferLemmas
pub mod SparingLemmas
pub mod SparedCalls
pub mod SparedFiles
pub mod WindowLemmas
mod CameOwn
mod ShownBefore
mod QuietLemmas
mod TryLemmas
mod TriedLemmas
mod SteppedLemmas
mod StoreReadyLemmas
mod SpaceSteps
mod FailSteps
mod AskedSteps
mod EndSteps
mod CallSteps
mod HaltedSteps
