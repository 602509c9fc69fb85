pub mod UnitLemmas
pub mod CrashStateLemmas
pub mod CutLemmas
pub mod SyncLemmas
pub mod DiskSyncLemmas
pub mod TurnLemmas
pub mod PairLemmas
pub mod SteadyLemmas
pub mod StayLemmas
mod ShapeLemmas
mod RestoredLemmas
pub mod RootLemmas
pub mod HonestLemmas
pub mod OwnLemmas
mod NumberLemmas
pub mod SizeLemmas
pub mod ThereLemmas
pub mod CommonLemmas
pub mod FirstLabelLemmas
pub mod ResizedLemmas
mod OneCrashStateLemmas
mod MarkedFirstLemmas
pub mod ApartLemmas
pub mod LeaderWriteLemmas
pub mod LabelsApartLemmas
mod ApartRowLemmas
pub mod ChangeRowLemmas
pub mod PlainFreeLemmas
mod SectorPageLemmas
mod AddedPageLemmas
pub mod AddedZeroLemmas
pub mod NewPageLemmas
pub mod WholeLemmas
mod WholeWriteLemmas
mod ResizeLemmas
mod MixLemmas
mod ExampleLemmas
pub mod OwnRunLemmas
mod RootWriteLemmas
