-- The allocation map beside the labels.
use Rattle.std.specs.Prelude.{◌≡◌, ◌≢◌, ◌↔◌, ℕ, ◌-◌, Bool, false, not, ◌||◌, nat_lt, List, [], length, slice_get, Some}
use Rattle.std.specs.Option.{option_map_or}
use Rattle.labelled_disk.specs.declared.label.Label.{Label}
use Rattle.labelled_disk.specs.Label.{is_free}
use Rattle.labelled_disk.specs.Layout.{first_data}
use Rattle.labelled_disk.specs.Sectors.{Sector}
use Rattle.alloc_map.specs.Bits.{is_used}
use Rattle.volume_root.specs.Sound.{map_bytes, HasBits}
use Rattle.volume_view.specs.declared.bit_runs.BitRun.{BitRun}
use Rattle.volume_view.specs.BitRuns.{IsInSome, IsWrongRun, AreBitsApart}

-- the sector is of root or maps, or it is a data sector whose label is not free; the first label is that of sector
-- `first`
abbrev pub taken : ℕ → List Label → ℕ → Bool
taken first labels i = nat_lt i first || option_map_or (λ l. not (is_free l)) (slice_get labels (i - first)) false

-- what root, maps and labels say of a sector of the disk
abbrev pub is_taken : List Sector → ℕ → Bool
is_taken d i = nat_lt i (first_data (length d)) || option_map_or (λ s. not (is_free s.0)) (slice_get d i) false

-- the runs are of exactly the sectors of which the map says something else, ascending, each as long as it can be; there
-- is none
-- exactly where the map has the bits of a sound volume
pub record AreWrongBits (d : List Sector) (runs : List BitRun) : Type 0 where
  pub each : (k : ℕ) (r : BitRun) → slice_get runs k ≡ Some r → IsWrongRun (is_used (map_bytes d)) (is_taken d) r
  pub all : (i : ℕ) → is_used (map_bytes d) i ≢ is_taken d i → IsInSome runs i
  pub apart : AreBitsApart runs
  pub agrees : (runs ≡ []) ↔ HasBits d
