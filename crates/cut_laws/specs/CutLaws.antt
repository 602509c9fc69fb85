-- What cuts are: each crash state since the last sync is one, and with no write since there is no other.
use Rattle.std.specs.Prelude.{◌≡◌, ◌↔◌, ℕ, ◌+◌, ◌≤◌, List, ◌++◌, length, take, drop}
use Rattle.labelled_disk.specs.declared.disk.DiskWrite.{DiskWrite}
use Rattle.labelled_disk.specs.CrashState.{crash_state}
use Rattle.labelled_disk.specs.Sectors.{Sector}
use Rattle.label_laws.specs.PermittedRuns.{ArePermitted}
use Rattle.cut_laws.specs.Cut.{IsCut, IsCutSince}

-- the writes from number s on, up to number k
abbrev pub between : ℕ → ℕ → List DiskWrite → List DiskWrite
between s k writes = drop s (take k writes)

-- what was written after k is in no cut at k
abbrev pub LaterIsNotThere : Type 0
LaterIsNotThere = (d : List Sector) (first next : List DiskWrite) (s k : ℕ) (e : List Sector) → k ≤ length first
    → IsCut d (first ++ next) s k e ↔ IsCut d first s k e

pub record CutLaws : Type 0 where
  -- all was settled
  pub settled : (d : List Sector) (writes : List DiskWrite) (k : ℕ) (e : List Sector) → IsCut d writes k k e
      → e ≡ crash_state d writes k
  -- a stop is a cut
  pub crash_states : (d : List Sector) (writes : List DiskWrite) (s k j : ℕ) → s ≤ j → j ≤ k
      → IsCut d writes s k (crash_state d writes j)
  -- settled earlier, or written more
  pub wider : (d : List Sector) (writes : List DiskWrite) (r s k l : ℕ) (e : List Sector) → r ≤ s → k ≤ l
      → IsCut d writes s k e → IsCut d writes r l e
  pub later : LaterIsNotThere

-- A cut is a part of the writes since the last sync, made on the disk as it was then: so what is said of such
-- writes is said of each cut.
pub record WindowLaws : Type 0 where
  pub cut : (d : List Sector) (writes : List DiskWrite) (s k : ℕ) (e : List Sector) → s ≤ k → IsCut d writes s k e
      → IsCutSince (crash_state d writes s) (between s k writes) e
  pub crash_states : (d : List Sector) (writes : List DiskWrite) (s k j : ℕ) → s + j ≤ k
      → crash_state (crash_state d writes s) (between s k writes) j ≡ crash_state d writes (s + j)
  pub permitted : (d : List Sector) (writes : List DiskWrite) (s k : ℕ) → ArePermitted d writes
      → ArePermitted (crash_state d writes s) (between s k writes)
