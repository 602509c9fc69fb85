-- The sectors that are taken.
use Rattle.std.specs.Prelude.{◌≡◌, ◌⊎◌, ℕ, ◌+◌, ◌≤◌, ◌<◌, true, false, List, length}
use Rattle.alloc_map.specs.Bits.{is_used, AreAll, RevealsMarked}
use Rattle.alloc_map.specs.declared.error.AllocError.{AllocError}
use Rattle.alloc_map.specs.declared.error.AllocError.TheVariants.{NoRoom, Mem}

-- a first sector and a count: 1 to most sectors in a row, from the first data sector on and below the number of sectors
pub record IsDataRun (first sectors most : ℕ) (run : ℕ × ℕ) : Type 0 where
  pub some : 1 ≤ run.1
  pub few : run.1 ≤ most
  pub above : first ≤ run.0
  pub inside : run.0 + run.1 ≤ sectors

-- s is a free one of the sectors from one up to another, or the latter where none is free. Where all before `from` are
-- used, so are all before s.
pub record IsFreeFrom (b : List ℕ) (first from sectors s : ℕ) : Type 0 where
  pub free : s < sectors → is_used b s ≡ false
  pub none : s ≡ sectors → AreAll true b first sectors
  pub lowest : AreAll true b first from → AreAll true b first s

-- s is the lowest free one of the sectors from one up to another
pub record IsLowestFree (b : List ℕ) (first sectors s : ℕ) : Type 0 where
  pub above : first ≤ s
  pub inside : s < sectors
  pub free : is_used b s ≡ false
  pub before : AreAll true b first s

-- the n sectors from s on are free, and there are no more in a row, but for a most and the number of sectors
pub record IsLongestFree (b : List ℕ) (sectors most s n : ℕ) : Type 0 where
  pub free : AreAll false b s (s + n)
  pub longest : n < most → s + n < sectors → is_used b (s + n) ≡ true

-- a memory reveals bytes where the sectors of the run are marked used
abbrev pub RevealsTaken : (List ℕ → Type 0) → List ℕ → ℕ × ℕ → Type 0
RevealsTaken reveals b run = RevealsMarked true reveals b run.0 (run.0 + run.1)

-- a memory reveals bytes where free sectors from one up to another may be marked used, and no other is changed
pub record RevealsSomeTaken (reveals : List ℕ → Type 0) (old : List ℕ) (first sectors : ℕ) : Type 0 where
  pub now : List ℕ
  pub revealed : reveals now
  pub same_length : length now ≡ length old
  pub outside : (s : ℕ) → (s < first) ⊎ (sectors ≤ s) → is_used now s ≡ is_used old s
  pub used : (s : ℕ) → is_used old s ≡ true → is_used now s ≡ true

-- a fact of the memory's error
abbrev pub IfMem : {X : Type 0} → (X → Type 0) → AllocError X → Type 0
IfMem P NoRoom = Unit {0}
IfMem P (Mem error) = P error
