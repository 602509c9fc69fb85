-- Pages of files that a reference is to are pages that windows show there.
use Rattle.std.proofs.Common.{inl, inr, ℕ, ◌/◌, List}
use Rattle.flat_machine.specs.declared.space.Space.{Space}
use Rattle.session_words.specs.CellLaws.{IsTouched}
use Rattle.space_tables.specs.SpaceTables.{IsIntervalAt}
use Rattle.swap_units.specs.declared.interval.Interval.{Interval}
use Rattle.fault_core.specs.Access.{Shows, last_page}
use Rattle.fault_core.specs.Lack.{Sees}
use Rattle.fault_core.specs.Moves.{of_reference}
use Rattle.fault_core.specs.Revealed.{IsIntervalOf}
use Rattle.fault_core.specs.Touch.{Touches}
use Rattle.filer_kernel.specs.View.{View}
use Rattle.fault_core.proofs.AccessLemmas.{first_touched, last_touched}
use Rattle.fault_core.proofs.BeforeLemmas.{touches_wider}
use Rattle.fault_core.proofs.ShowLemmas.{shown_is}

module _ {v : View} {kept : List Interval} {count : ℕ} {ss : List Space} (s : Sees v kept count ss) (x y : Interval) (address bytes : ℕ)
    (first : IsIntervalAt ss (address / 512) x) (last : IsIntervalAt ss (last_page address bytes) y) (low : Shows x (address / 512)) (high : Shows y (last_page address bytes)) where
  -- the page that either interval shows
  referred : (id page : ℕ) → of_reference x y address bytes id page → IsTouched ss address bytes id page
  referred id page one = elim one [
    | inl (same_id, same_page) ↦
        let of : IsIntervalOf ss x = record { xs = first.xs; projection = first.projection; index = first.index; there = first.there } in
        record { k = 0; virtual = address / 512; touched = first_touched (address / 512) (last_page address bytes); shown = rw (same_id, same_page) (shown_is s.tables x of (address / 512) low.holds low.mapped) }
    | inr (same_id, same_page) ↦
        let of : IsIntervalOf ss y = record { xs = last.xs; projection = last.projection; index = last.index; there = last.there } in
        let at = last_touched (address / 512) (last_page address bytes) in
        record { k = at.0; virtual = last_page address bytes; touched = at.1; shown = rw (same_id, same_page) (shown_is s.tables y of (last_page address bytes) high.holds high.mapped) }
  ]

  pub touches_referred : {w u : View} → Touches (of_reference x y address bytes) w u → Touches (IsTouched ss address bytes) w u
  touches_referred h = touches_wider (of_reference x y address bytes) (IsTouched ss address bytes) referred h
