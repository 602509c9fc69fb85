pub mod FileMapLemmas
mod Filling
pub mod FlagLemmas
mod JudgeLemmas
pub mod MappedLemmas
mod NewSectors
pub mod NewVolume
mod OldLemmas
pub mod RootLemmas
mod RowLemmas
mod TestLemmas
pub mod ThreeFilesLemmas
mod ThreeFilesBits
mod ThreeFilesLabels
mod ThreeFilesMap
mod ThreeFilesTriples
mod SectorRuns
mod MakeLemmas
mod FormatCuts
mod UsedBits
pub mod WrittenLemmas
