-- What may stand on the disk of a run where the power went.
use Rattle.std.specs.Prelude.{◌≡◌, ℕ, ◌+◌, ◌≤◌, List, ◌++◌, length, Some}
use Rattle.labelled_disk.specs.declared.disk.DiskWrite.{DiskWrite}
use Rattle.labelled_disk.specs.Sectors.{Sector}
use Rattle.labelled_disk.specs.State.{DiskState}
use Rattle.cut_laws.specs.Cut.{IsCut}
use Rattle.cut_laws.specs.Honest.{IsBetweenSyncs, IsHonest}

-- Writes and syncs are revealed: after each k of the writes since the disk held d, each cut, where the disk was synced after s
-- of them and not since, has a valid root with the volume's serial, and where its
-- clean flag says that it was closed it is sound, with the files of a crash state.
abbrev pub HonestCuts : List Sector → DiskState → DiskState → Type 0
HonestCuts d old new = (made writes : List DiskWrite) (syncs : List ℕ) → old.writes ≡ Some made
    → new.writes ≡ Some (made ++ writes) → new.syncs ≡ Some syncs
    → (k s : ℕ) (e : List Sector) → k ≤ length writes → IsBetweenSyncs syncs (length made + s) (length made + k)
    → IsCut d writes s k e → IsHonest d writes e
