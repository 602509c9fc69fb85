-- Which sectors of a volume are used, by what its data sectors are.
use Rattle.std.specs.Prelude.{◌≡◌, ℕ, ◌+◌, ◌-◌, ◌*◌, ◌≤◌, ◌<◌, ◌||◌, nat_lt, Bool, true, false, List, length, slice_get, Some}
use Rattle.std.specs.Option.{option_map_or}
use Rattle.labelled_disk.specs.Layout.{vam}
use Rattle.alloc_map.specs.Bits.{is_used}
use Rattle.label_survey.specs.declared.sector_state.SectorState.{SectorState}
use Rattle.label_survey.specs.Survey.{is_kept}

-- root and maps, and the data sectors that are kept, the first of them being sector `first`
abbrev pub marks : ℕ → List SectorState → ℕ → Bool
marks first sector_states i = nat_lt i first || option_map_or is_kept (slice_get sector_states (i - first)) false

-- all n sectors are used, but that the first k data sectors are used where they are kept
pub record IsMarkedSoFar (n first : ℕ) (sector_states : List SectorState) (k : ℕ) (bytes : List ℕ) : Type 0 where
  pub size : length bytes ≡ 512 * vam n
  pub low : (s : ℕ) → s < first → is_used bytes s ≡ true
  pub kept : (j : ℕ) (x : SectorState) → j < k → slice_get sector_states j ≡ Some x → is_used bytes (first + j) ≡ is_kept x
  pub rest : (s : ℕ) → first + k ≤ s → s < n → is_used bytes s ≡ true
  pub past : (s : ℕ) → n ≤ s → is_used bytes s ≡ false
