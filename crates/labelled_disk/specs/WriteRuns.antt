-- Writes in a row.
use Rattle.std.specs.Prelude.{◌≡◌, List, ◌++◌, fold, option_map}
use Rattle.labelled_disk.specs.declared.disk.DiskWrite.{DiskWrite}
use Rattle.labelled_disk.specs.CrashState.{written}
use Rattle.labelled_disk.specs.Sectors.{Sector}
use Rattle.labelled_disk.specs.State.{DiskState}

-- the sectors that these writes, one after the other, make of these
abbrev pub after_writes : List DiskWrite → List Sector → List Sector
after_writes writes d = fold (λ now write. written write now) d writes

-- the disk reveals of these writes more
pub record Appended (writes : List DiskWrite) (old new : DiskState) : Type 0 where
  pub contents : new.contents ≡ option_map (after_writes writes) old.contents
  pub revealed : new.writes ≡ option_map (λ earlier. earlier ++ writes) old.writes
