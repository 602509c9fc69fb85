-- The root in a cut. Its label is a unit; magic, version, flag and count are in unit 0 of its page, serial and
-- counter in unit 1.
use Rattle.std.specs.Prelude.{◌≡◌, ◌≢◌, ◌⊎◌, ℕ, ◌≤◌, false, List, [], ◌∷◌, length, drop, slice_get, Some}
use Rattle.labelled_disk.specs.declared.disk.DiskWrite.{DiskWrite}
use Rattle.labelled_disk.specs.declared.disk.DiskWrite.TheVariants.{Whole, LabelOnly, Page}
use Rattle.labelled_disk.specs.Label.{names, root_label, wanted_root}
use Rattle.labelled_disk.specs.CrashState.{crash_state, written}
use Rattle.labelled_disk.specs.Root.{IsRoot, HasMaps, root_page, short_at, serial_of, counter_of}
use Rattle.labelled_disk.specs.Sectors.{Sector}
use Rattle.label_laws.specs.PermittedRuns.{ArePermitted}
use Rattle.cut_laws.specs.Cut.{unit, AtSome, IsCutSince}

-- 1 where the volume was closed
abbrev pub flag_of : List Sector → ℕ
flag_of d = short_at (root_page d) 10

-- the flag is that of one crash state, serial and counter are those of one, and what holds of root and maps in each crash state
-- holds
pub record RootOfCrashStates (d : List Sector) (writes : List DiskWrite) (e : List Sector) : Type 0 where
  pub flag : AtSome 0 (length writes) (λ j. flag_of e ≡ flag_of (crash_state d writes j))
  pub numbers : AtSome 0 (length writes)
      (λ j. (serial_of e ≡ serial_of (crash_state d writes j)) × (counter_of e ≡ counter_of (crash_state d writes j)))
  pub valid : ((j : ℕ) → j ≤ length writes → IsRoot (length d) (slice_get (crash_state d writes j) 0))
      → IsRoot (length d) (slice_get e 0)
  pub maps : ((j : ℕ) → j ≤ length writes → HasMaps (length d) (crash_state d writes j)) → HasMaps (length d) e
  pub none : ((j : ℕ) (s : Sector) → j ≤ length writes → slice_get (crash_state d writes j) 0 ≡ Some s
      → names s.0 wanted_root ≡ false) → (t : Sector) → slice_get e 0 ≡ Some t → names t.0 wanted_root ≡ false

-- a root with the flag 1 is written
abbrev pub SetsFlag : DiskWrite → Type 0
SetsFlag (Whole sector label page) = (sector ≡ 0) × (short_at page 10 ≡ 1)
SetsFlag (LabelOnly sector label) = ⊥
SetsFlag (Page sector wanted page) = ⊥

-- the disks differ in one unit of one page at most
pub record OneUnitApart (i u : ℕ) (d f : List Sector) : Type 0 where
  pub sectors : length f ≡ length d
  pub labels : (j : ℕ) (s t : Sector) → slice_get d j ≡ Some s → slice_get f j ≡ Some t → t.0 ≡ s.0
  pub others : (j v : ℕ) (s t : Sector) → slice_get d j ≡ Some s → slice_get f j ≡ Some t → (j ≢ i) ⊎ (v ≢ u)
      → unit v t.1 ≡ unit v s.1

pub record FlagLaws : Type 0 where
  pub root : (d : List Sector) (writes : List DiskWrite) (e : List Sector) → IsCutSince d writes e
      → RootOfCrashStates d writes e
  -- with no flag set there is none
  pub clear : (d : List Sector) (writes : List DiskWrite) (e : List Sector) → ArePermitted d writes
      → IsCutSince d writes e → flag_of d ≢ 1
      → ((k : ℕ) (write : DiskWrite) → slice_get writes k ≡ Some write → SetsFlag write → ⊥) → flag_of e ≢ 1
  -- one write, of one unit, is there or is not
  pub one_unit : (i u : ℕ) (d : List Sector) (write : DiskWrite) (e : List Sector)
      → OneUnitApart i u d (written write d) → IsCutSince d (write ∷ []) e → (e ≡ d) ⊎ (e ≡ written write d)
  -- so is a root alone that differs in unit 0 at most: whose serial, counter and rest are those that stood there
  pub one_root : (d : List Sector) (old new : List ℕ) (e : List Sector) → slice_get d 0 ≡ Some (root_label, old)
      → drop 16 new ≡ drop 16 old → IsCutSince d (Whole 0 root_label new ∷ []) e
      → (e ≡ d) ⊎ (e ≡ written (Whole 0 root_label new) d)
