-- The intervals of a mapped space name it.
use Rattle.std.proofs.Common.{◌≡◌, ◌≢◌, ◌⊎◌, inl, inr, ℕ, suc, ◌<◌, ◌≤◌, Bool, true, false, not, List, [], ◌∷◌, length, map, Option, Some, None, refl, sym, ◌∙◌, ap, arith}
use Rattle.std.specs.Prelude.{slice_get, option_and_then, option_map, nat_lt, is_some, ◌&&◌, ◌||◌, ◌==◌, if◌then◌else◌}
use Rattle.std.specs.Option.{option_map_or}
use Rattle.std.proofs.lemmas.Bool.{cases_lt, and_parts, and_from, eq-eqb, ne_eqb, eqb-true, ltb-true, false≢true}
use Rattle.std.proofs.lemmas.Bool.Decides.{nat_tests}
use Rattle.std.proofs.lemmas.Option.{none-some, slice_get_within}
use Rattle.flat_machine.specs.declared.space.Space.{Space}
use Rattle.flat_machine.specs.declared.space.Window.{Window}
use Rattle.flat_machine.specs.Space.{root_pages, end, space_at, holds, overlap, is_mapped, mapped_at}
use Rattle.flat_machine.specs.Machine.{IsSpace}
use Rattle.flat_machine.specs.Projection.{IsProjectionFrom}
use Rattle.flat_machine.proofs.Lists.{In, all_in, find_in, looked_up}
use Rattle.projection_laws.specs.Sight.{Interval, Sight, AreIntervals, end_of, span_of, sight_at, shown_of, id_shown, handle_shown}
use Rattle.projection_laws.specs.Slots.{listed, AreNumbered}
use Rattle.projection_laws.specs.Spaces.{AreSpaces}
use Rattle.projection_laws.proofs.Finds.{firsts_are_ascending}
use Rattle.projection_laws.proofs.RevealLemmas.{intervals_reveal}
use Rattle.projection_laws.specs.Stored.{interval_in}
use Rattle.projection_laws.proofs.Codes.{interval_reads_back}
use Rattle.projection_laws.proofs.Forms.{part_at}
use Rattle.projection_laws.proofs.Inside.{same, inner_found, hold_parts, found_showing, holds_by, in_the_root, mapped_named}
use Rattle.projection_laws.proofs.SlotLemmas.{slot_handle, slot_found}
use Rattle.space_tables.specs.declared.handles.Handles.{Handles}
use Rattle.space_tables.specs.declared.handles.Sought.{Sought}
use Rattle.space_tables.specs.declared.handles.Sought.TheVariants.{Mapped, Showing}
use Rattle.space_tables.specs.declared.scan.Test.TheVariants.{OnPath, Shows}
use Rattle.space_tables.specs.declared.change.Change.TheVariants.{Unit as Fit, Window as Show}
use Rattle.space_tables.specs.Change.{LiesInside}
use Rattle.space_tables.specs.Form.{interval_record}
use Rattle.space_tables.specs.Handles.{handle_for, is_sought, IsOneOf, NameOnly, AreWithin}
use Rattle.space_tables.specs.Scan.{passes, HaveAll}
use Rattle.space_tables.specs.Stored.{AreTables, AreRight}
use Rattle.space_tables.proofs.Right.{in_list, right_reads}

-- each page has an interval
pub covered : (ss : List Space) (page : ℕ) (xs : List Interval) → IsProjectionFrom ss page (map span_of xs) → (p : ℕ) → page ≤ p → p < root_pages → (k : ℕ) × (x : Interval) × (slice_get xs k ≡ Some x) × (x.first ≤ p) × (p < end_of x)
covered ss page [] h p low high = absurd (omega (arith, h, low, high))
covered ss page (x ∷ xs) h p low high = elim (cases_lt p (end_of x)) [
  | inl early ↦ (0, x, refl, omega (arith, h.0.begins, low), early)
  | inr late ↦ let r = covered ss (end_of x) xs h.1 p late high in (suc r.0, r.1, r.2, r.3, r.4)
]

-- an interval at a page that shows what the space of the handle shows there
pub record IsNamedAt (xs : List Interval) (h file p : ℕ) : Type 0 where
  pub index : ℕ
  pub interval : Interval
  pub there : slice_get xs index ≡ Some interval
  pub low : interval.first ≤ p
  pub high : p < end_of interval
  pub mapped : interval.mapped ≡ h
  pub id : interval.id ≡ file
  pub not_root : h ≢ 0
  pub fits : h < 512

module _ (b : List ℕ) (slots : List (Option Space)) (xs : List Interval) (are : AreTables b slots xs) (r : AreRight slots xs) where
  pub named_at : (h : ℕ) (m : Space) (w : Window) → slice_get slots h ≡ Some (Some m) → m.window ≡ Some w → (p : ℕ) → m.first ≤ p → p < end m → IsNamedAt xs h w.file p
  named_at h m w e window p low high =
      let ss = listed slots in
      let i : In m ss = (find_in (λ t. t.handle == h) ss m (in_list slots xs r h m e)).0 in
      let own : m.handle ≡ h = let q = slot_handle 0 slots h m r.numbered e in omega (arith, q) in
      let mapped : is_mapped m ≡ true = ap (λ (o : Option Window). is_some o) window in
      let inside = (in_the_root ss r.spaces m i).last in
      let at = covered ss 0 xs r.intervals.runs p (omega arith) (omega (arith, inside, high)) in
      let part = part_at ss xs at.0 at.1 r.spaces r.intervals at.2 in
      let alike : sight_at ss p ≡ sight_at ss at.1.first = part.one p at.3 at.4 in
      let found : mapped_at ss p ≡ Some m = found_showing ss r.spaces p m (record { there = i; mapped = mapped; holds_it = holds_by m p low high }) in
      let shows : option_map shown_of (mapped_at ss p) ≡ (sight_at ss at.1.first).shown = ap (λ (v : Sight). v.shown) alike in
      let handle : handle_shown (option_map shown_of (mapped_at ss p)) ≡ at.1.mapped = ap handle_shown shows ∙ ap (λ (i : Interval). i.mapped) part.full in
      let id : id_shown (option_map shown_of (mapped_at ss p)) ≡ at.1.id = ap id_shown shows ∙ ap (λ (i : Interval). i.id) part.full in
      let whose : at.1.mapped ≡ m.handle = sym handle ∙ ap (λ (o : Option Space). handle_shown (option_map shown_of o)) found in
      let which : at.1.id ≡ w.file = sym id ∙ ap (λ (o : Option Space). id_shown (option_map shown_of o)) found ∙ ap (λ (o : Option Window). option_map_or (λ (v : Window). v.file) o 0) window in
      let named : m.handle ≢ 0 = mapped_named ss r.spaces m i mapped in
      let fits = (all_in (IsSpace ss) ss r.spaces.whole m i).handle_fits in
      record {
        index = at.0;
        interval = at.1;
        there = at.2;
        low = at.3;
        high = at.4;
        mapped = whose ∙ own;
        id = which;
        not_root = λ z. named (own ∙ z);
        fits = omega (arith, own, fits);
      }

  -- what the record says
  read_at : (sought : Sought) (k : ℕ) (x : Interval) (h : ℕ) → slice_get xs k ≡ Some x → is_sought sought x ≡ true → x.mapped ≡ h → h < 512 → handle_for sought (interval_in (interval_record b k)) ≡ Some h
  read_at sought k x h e is mapped fits =
      let back : interval_in (interval_record b k) ≡ x = ap interval_in (are.projection k x e) ∙ (interval_reads_back x ((right_reads slots xs r).intervals k x e).1).0 in
      let low : nat_lt x.mapped 512 ≡ true = grind (arith, nat_tests, mapped, fits) in
      ap (handle_for sought) back ∙ ap (λ (t : Bool). if t then Some x.mapped else None) (and_from _ _ is low) ∙ ap Some mapped

  -- a window of a space that passes
  window_of : (test : Window → Bool) (o : Option Window) → option_map_or test o false ≡ true → (w : Window) × (o ≡ Some w) × (test w ≡ true)
  window_of test None t = absurd (false≢true t)
  window_of test (Some w) t = (w, refl, t)

  some_pages : (h : ℕ) (m : Space) → slice_get slots h ≡ Some (Some m) → 1 ≤ m.pages
  some_pages h m e = (all_in (IsSpace (listed slots)) (listed slots) r.spaces.whole m (find_in (λ t. t.handle == h) (listed slots) m (in_list slots xs r h m e)).0).not_empty

  -- the spaces that show a file have handles that the intervals name
  pub showing_named : (id : ℕ) (writable_only : Bool) (count : ℕ) (handles : Handles) → length xs ≡ count → NameOnly (Showing id) b 0 count handles → HaveAll (passes (Shows id writable_only)) slots handles
  showing_named id writable_only count handles long names h m e t =
      let w = window_of (λ w. w.file == id && (not writable_only || w.writable)) m.window t in
      let file : w.0.file ≡ id = eqb-true w.0.file id (and_parts (w.0.file == id) _ w.2).0 in
      let pages = some_pages h m e in
      let at = named_at h m w.0 e w.1 m.first (omega arith) (omega (arith, pages)) in
      let is : is_sought (Showing id) at.interval ≡ true = eq-eqb at.interval.id id (at.id ∙ file) in
      names at.index h (omega arith) (let below = slice_get_within xs at.index at.interval at.there in omega (arith, below, long)) (read_at (Showing id) at.index at.interval h at.there is at.mapped at.fits)

  -- the mapped spaces that share a page with a space have handles that the intervals inside it name
  pub path_named : (s : Space) (h : ℕ) (range : ℕ × ℕ) (handles : Handles) → slice_get slots h ≡ Some (Some s) → AreWithin xs s range → NameOnly Mapped b range.0 range.1 handles → HaveAll (passes (OnPath s)) slots handles
  path_named s h range handles own within names k m e t =
      let parts = and_parts (is_mapped m) (overlap s m) t in
      let w = window_of (λ w. true) m.window (mapped_window m.window parts.0) in
      let shared = and_parts (nat_lt s.first (end m)) (nat_lt m.first (end s)) parts.1 in
      let before : s.first < end m = ltb-true s.first (end m) shared.0 in
      let after : m.first < end s = ltb-true m.first (end s) shared.1 in
      let pages = some_pages k m e in
      let some = some_pages h s own in
      by w (cases_lt m.first s.first) before after pages some
    where
      mapped_window : (o : Option Window) → is_some o ≡ true → option_map_or (λ (w : Window). true) o false ≡ true
      mapped_window None q = q
      mapped_window (Some w) q = refl

      at_page : (w : Window) → m.window ≡ Some w → (p : ℕ) → m.first ≤ p → p < end m → s.first ≤ p → p < end s → IsOneOf handles k
      at_page w window p low high from to =
          let at = named_at k m w e window p low high in
          let place = within.all at.index at.interval at.there (let l = at.low in omega (arith, l, to)) (let l = at.high in omega (arith, l, from)) in
          let named : at.interval.mapped ≢ 0 = λ z. at.not_root (sym at.mapped ∙ z) in
          let is : is_sought Mapped at.interval ≡ true = ap not (ne_eqb at.interval.mapped 0 named) in
          names at.index k place.0 place.1 (read_at Mapped at.index at.interval k at.there is at.mapped at.fits)

      by : (w : Window) × (m.window ≡ Some w) × (true ≡ true) → (m.first < s.first) ⊎ (s.first ≤ m.first) → s.first < end m → m.first < end s → 1 ≤ m.pages → 1 ≤ s.pages → IsOneOf handles k
      by w (inl early) before after pages some = at_page w.0 w.1 s.first (omega (arith, early)) before (omega arith) (omega (arith, some))
      by w (inr late) before after pages some = at_page w.0 w.1 m.first (omega arith) (omega (arith, pages)) late after

-- the slot of a space that is found by its handle
pub stands_at : (slots : List (Option Space)) (h : ℕ) (s : Space) → AreNumbered 0 slots → space_at (listed slots) h ≡ Some s → slice_get slots h ≡ Some (Some s)
stands_at slots h s numbered e = by (slice_get slots h) refl (sym (slot_found slots h numbered) ∙ e)
  where
    by : (o : Option (Option Space)) → slice_get slots h ≡ o → option_and_then (λ q. q) o ≡ Some s → slice_get slots h ≡ Some (Some s)
    by None is f = absurd (none-some s f)
    by (Some q) is f = is ∙ ap Some f

-- the intervals of a space begin inside it
pub unit_inside : (ss : List Space) (xs : List Interval) (h u : ℕ) (s : Space) → AreSpaces ss → AreIntervals ss xs → space_at ss h ≡ Some s → LiesInside (Fit h u) s xs
unit_inside ss xs h u s spaces are e k x there touched =
    let pages = (firsts_are_ascending ss xs are).filled k x there in
    let inner = (intervals_reveal ss xs k x.first x spaces are there (omega arith, omega (arith, pages))).innermost_is in
    let is = inner_found ss x.first inner.0 inner.1 in
    let found = looked_up (λ (t : Space). t.handle) ss h s e in
    let one : inner.0.handle ≡ s.handle = sym inner.2 ∙ eqb-true x.space h touched ∙ sym found.1 in
    let same_one : inner.0 ≡ s = same ss spaces inner.0 s is.there found.0 one in
    hold_parts s x.first (ap (λ (t : Space). holds t x.first) (sym same_one) ∙ is.holds_it)

-- the intervals that begin in a space do so
pub window_inside : (xs : List Interval) (s : Space) (w : Option Window) → LiesInside (Show s w) s xs
window_inside xs s w k x there touched = hold_parts s x.first touched
