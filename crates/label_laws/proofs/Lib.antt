pub mod PermittedLemmas
pub mod FileLemmas
pub mod CallerLemmas
mod ThereLemmas
mod OrderLemmas
pub mod MixedLemmas
pub mod MarkLemmas
mod UnseenLemmas
mod NeededLemmas
mod MapLemmas
pub mod ShapeLemmas
pub mod VolumeLemmas
pub mod MixedRunLemmas
mod QuietLemmas
mod LeaderLemmas
mod AssemblyLemmas
pub mod SoundLemmas
pub mod PermanentLemmas
mod TemporaryLemmas
mod LabelWriteLemmas
mod PlaceLemmas
pub mod CountLemmas
pub mod TakenLemmas
pub mod PageLemmas
pub mod StayLemmas
