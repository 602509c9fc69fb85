-- Where the projection is one interval that shows nothing, no space is mapped.
use Rattle.std.proofs.Common.{◌≡◌, ℕ, ◌<◌, Bool, true, false, not, List, length, Option, Some, None, refl, sym, ◌∙◌, ap, subst, arith}
use Rattle.std.specs.Prelude.{IfSome, find, slice_get, is_some, option_map, option_and_then, if◌then◌else◌, ◌-◌, ◌+◌}
use Rattle.std.specs.List.{list_any}
use Rattle.std.specs.Option.{option_map_or}
use Rattle.std.proofs.lemmas.Bool.{true≢false, false≢true}
use Rattle.std.proofs.lemmas.Option.{none-some, slice_get_within}
use Rattle.labelled_disk.specs.declared.disk.Disk.{Ghosts}
use Rattle.labelled_disk.specs.Sectors.{Sector}
use Rattle.file_map.specs.FileMap.{Triples}
use Rattle.flat_machine.specs.At.{shown_at, page_through}
use Rattle.flat_machine.specs.declared.space.Space.{Space}
use Rattle.flat_machine.specs.declared.space.Window.{Window}
use Rattle.flat_machine.specs.Machine.{IsSpace, Machine}
use Rattle.flat_machine.specs.Space.{end, has_window, is_mapped, root_pages}
use Rattle.flat_machine.proofs.Lists.{In, all_in, any_not, find_in, not_any}
use Rattle.swap_units.specs.declared.interval.Interval.{Interval}
use Rattle.swap_units.specs.Mode as mode
use Rattle.projection_laws.specs.Sight.{AreIntervals, end_of}
use Rattle.projection_laws.specs.Spaces.{AreSpaces}
use Rattle.projection_laws.proofs.Finds.{last_holds}
use Rattle.projection_laws.proofs.Inside.{found_showing, holds_by, in_the_root}
use Rattle.projection_laws.proofs.OneLemmas.{intervals_are_one}
use Rattle.projection_laws.proofs.RevealLemmas.{intervals_reveal}
use Rattle.swapper_kernel.specs.Homes.{IsLayout}
use Rattle.space_tables.specs.SpaceTables.{IsIntervalAt}
use Rattle.space_tables.specs.Stored.{RevealSpaces}
use Rattle.file_manager.specs.declared.volume.Volume.{Volume}
use Rattle.fault_core.specs.declared.core_over.Core.{Core}
use Rattle.fault_core.specs.Core.{Knows}
use Rattle.running_words.specs.Running.{Runs}
use Rattle.space_calls.proofs.RunLemmas.{knows}
use Rattle.filer_kernel.specs.View.{view_of}

-- ---- A space that is mapped is shown at its first page.

shown_through : (s : Space) → is_mapped s ≡ true → option_map (λ (w : Window). page_through s w s.first) s.window ≡ None → ⊥
shown_through s mapped none = by s.window mapped none
  where
    by : (o : Option Window) → is_some o ≡ true → option_map (λ (w : Window). page_through s w s.first) o ≡ None → ⊥
    by None mapped none = false≢true mapped
    by (Some w) mapped none = none-some (page_through s w s.first) (sym none)

module _ (ss : List Space) (are : AreSpaces ss) where
  first_inside : (s : Space) → In s ss → (s.first < end s) × (s.first < root_pages)
  first_inside s there =
      let some = (all_in (IsSpace ss) ss are.whole s there).not_empty in
      let last = (in_the_root ss are s there).last in
      (omega (arith, some), omega (arith, some, last))

  unmapped : (s : Space) → In s ss → ((page : ℕ) → page < root_pages → shown_at ss page ≡ None) → is_mapped s ≡ false
  unmapped s there nothing = by (is_mapped s) refl
    where
      by : (b : Bool) → is_mapped s ≡ b → is_mapped s ≡ false
      by false e = e
      by true e =
          let inside = first_inside s there in
          let found = found_showing ss are s.first s (record { there = there; mapped = e; holds_it = holds_by s s.first (omega arith) inside.0 }) in
          absurd (shown_through s e (sym (ap (λ (o : Option Space). option_and_then (λ t. option_map (λ w. page_through t w s.first) t.window) o) found) ∙ nothing s.first inside.1))

  pub none_mapped : ((page : ℕ) → page < root_pages → shown_at ss page ≡ None) → list_any is_mapped ss ≡ false
  none_mapped nothing = any_not is_mapped ss (λ s there. unmapped s there nothing)

-- ---- One interval holds each page of the root.

module _ (ss : List Space) (xs : List Interval) (index : ℕ) (x : Interval) (are : AreIntervals ss xs) (single : length xs ≡ 1) (there : slice_get xs index ≡ Some x) where
  is_first : index ≡ 0
  is_first = let within = slice_get_within xs index x there in omega (arith, within, single)

  pub holds_all : x.first ≡ 0 → (page : ℕ) → page < root_pages → page < end_of x
  holds_all begins page inside =
      let here : slice_get xs 0 ≡ Some x = sym (ap (λ (k : ℕ). slice_get xs k) is_first) ∙ there in
      last_holds ss xs 0 page x are inside here (omega (arith, begins)) (λ j e. let within = slice_get_within xs 1 j e in absurd (omega (arith, within, single)))

pub bare_tables : {reveals : List ℕ → Type 0} {count : ℕ} {ss : List Space} → RevealSpaces reveals count ss → (x : Interval) → IsIntervalAt ss 0 x → count ≡ 1 → mode.is_mapped x.mode ≡ false → list_any is_mapped ss ≡ false
bare_tables {ss = ss} revealed x at one bare =
    let are : AreSpaces ss = subst AreSpaces revealed.spaces revealed.right.spaces in
    let intervals : AreIntervals ss revealed.xs = subst (λ (ts : List Space). AreIntervals ts revealed.xs) revealed.spaces revealed.right.intervals in
    let same : at.xs ≡ revealed.xs = intervals_are_one ss at.xs revealed.xs at.projection intervals in
    let single : length at.xs ≡ 1 = ap length same ∙ revealed.counted ∙ one in
    let low = at.holds.0 in
    let begins : x.first ≡ 0 = omega (arith, low) in
    none_mapped ss are (λ page inside.
    let high = holds_all ss at.xs at.index x at.projection single at.there begins page inside in
    (intervals_reveal ss at.xs at.index page x are at.projection at.there (omega (arith, begins), high)).shown
    ∙ ap (λ (b : Bool). if b then Some (record { file = x.id; page = x.page + (page - x.first) }) else None) bare)

-- ---- No window is found.

pub none_windowed : (test : Window → Bool) (ss : List Space) → list_any is_mapped ss ≡ false → find (has_window test) ss ≡ None
none_windowed test ss none = by (find (has_window test) ss) refl
  where
    bare : (o : Option Window) → is_some o ≡ false → option_map_or test o false ≡ true → ⊥
    bare None e passes = false≢true passes
    bare (Some w) e passes = true≢false e

    by : (o : Option Space) → find (has_window test) ss ≡ o → find (has_window test) ss ≡ None
    by None e = e
    by (Some s) e = let found = find_in (has_window test) ss s e in absurd (bare s.window (not_any is_mapped ss none s found.0) found.1)

-- ---- What a core reveals of it.

is_not : (b : Bool) → not b ≡ true → b ≡ false
is_not true e = absurd (false≢true e)
is_not false e = refl

module _ {D A : Type 0} {G : Ghosts D} (c : Core D A G) (layout : IsLayout (view_of c.filer).layout) (size : (view_of c.filer).disk.sectors ≡ (view_of c.filer).layout.sectors) where
  pub bare_core : (volume : Volume) (m : Machine) → Runs c volume m → (x : Interval) (o : Option Interval) → o ≡ Some x → ((memory : List Sector) (named : Triples) (ss : List Space) → Knows c memory named ss → IfSome o (IsIntervalAt ss 0)) → c.intervals ≡ 1
      → not (mode.is_mapped x.mode) ≡ true → list_any is_mapped m.spaces ≡ false
  bare_core volume m r x o is reveals one bare =
      let at : IsIntervalAt m.spaces 0 x = subst (λ (o : Option Interval). IfSome o (IsIntervalAt m.spaces 0)) is (reveals _ _ m.spaces (knows c layout size volume m r)) in
      bare_tables r.tables x at one (is_not (mode.is_mapped x.mode) bare)
