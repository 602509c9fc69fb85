-- What holds of right tables.
use Rattle.std.proofs.Common.{◌≡◌, ℕ, ◌+◌, ◌^◌, ◌<◌, ◌≤◌, Bool, true, false, not, List, length, Option, Some, None, refl, sym, ◌∙◌, ap, subst, arith, ◌==◌}
use Rattle.std.specs.Prelude.{slice_get, IfSome, option_and_then, nat_le, nat_lt, ◌||◌}
use Rattle.std.specs.Int.{w32, to_be_bytes}
use Rattle.std.proofs.lemmas.Option.{same_Some}
use Rattle.std.proofs.lemmas.Bool.{and_from, true≢false}
use Rattle.std.proofs.lemmas.Bool.Decides.{nat_tests}
use Rattle.byteorder.specs.Endian.{big_bytes}
use Rattle.flat_mem.specs.Memory.{part}
use Rattle.record_table.specs.Table.{entries}
use Rattle.record_table.specs.Look.{IsAnswer}
use Rattle.record_table.specs.declared.look.Look.TheVariants.{Entry, Before}
use Rattle.flat_machine.specs.declared.space.Space.{Space}
use Rattle.flat_machine.specs.declared.space.Window.{Window}
use Rattle.flat_machine.specs.Space.{root_pages, space_at}
use Rattle.flat_machine.specs.Machine.{IsSpace}
use Rattle.flat_machine.proofs.Lists.{In, all_in, find_in}
use Rattle.flat_machine.proofs.SpaceLemmas.{parent_at}
use Rattle.projection_laws.specs.Spaces.{AreSpaces}
use Rattle.projection_laws.specs.Slots.{listed}
use Rattle.projection_laws.specs.Sight.{Interval, AreIntervals, end_of}
use Rattle.projection_laws.specs.Laws.{WindowFits, ShowsInForm, IsFormed}
use Rattle.projection_laws.specs.Stored.{IsTyped, IsTypedSpace, HoldsAt}
use Rattle.projection_laws.proofs.SlotLemmas.{slot_found}
use Rattle.projection_laws.proofs.Forms.{intervals_are_formed}
use Rattle.projection_laws.proofs.Windows.{windows_are_formed}
use Rattle.projection_laws.proofs.StoredLemmas.{entries_rise, looked_up_holds, some_is_looked_up}
use Rattle.projection_laws.proofs.Inside.{in_the_root}
use Rattle.swap_units.specs.Mode.{is_mapped}
use Rattle.space_tables.specs.Form.{lies_in_root, is_unit, may_be_shown, in_form, window_in_form, space_in_form, interval_record}
use Rattle.swap_units.specs.Unit.{has_page}
use Rattle.space_tables.specs.Stored.{AreTables, AreReadable, AreRight}
use Rattle.space_tables.proofs.Entries.{entries_are, entry_of, record_is}

le : (a b : ℕ) → a ≤ b → nat_le a b ≡ true
le a b h = grind (arith, nat_tests)

lt : (a b : ℕ) → a < b → nat_lt a b ≡ true
lt a b h = grind (arith, nat_tests)

shown : (id page pages : ℕ) → 16 ≤ id → page + pages ≤ 2 ^ 32 → may_be_shown id page pages ≡ true
shown id page pages h k = and_from _ _ (le 16 id h) (le (page + pages) (2 ^ 32) k)

in_root : (first pages : ℕ) → 1 ≤ pages → first + pages ≤ root_pages → lies_in_root first pages ≡ true
in_root first pages h k = and_from _ _ (le 1 pages h) (le (first + pages) root_pages k)

unit_fits : (unit : ℕ) → 1 ≤ unit → unit ≤ 16 → is_unit unit ≡ true
unit_fits unit h k = and_from _ _ (le 1 unit h) (le unit 16 k)

is_so : (b : Bool) → not b ≡ false → b ≡ true
is_so true e = refl
is_so false e = absurd (true≢false e)

or_from : (s t : Bool) → (s ≡ false → t ≡ true) → (s || t) ≡ true
or_from true t h = refl
or_from false t h = h refl

-- what stands at a handle is one of the spaces
pub in_list : (slots : List (Option Space)) (xs : List Interval) → AreRight slots xs → (h : ℕ) (s : Space) → slice_get slots h ≡ Some (Some s) → space_at (listed slots) h ≡ Some s
in_list slots xs r h s e = slot_found slots h r.numbered ∙ ap (λ (o : Option (Option Space)). option_and_then (λ q. q) o) e

interval_stands : (x : Interval) → IsFormed x → ShowsInForm x → (in_form x ≡ true) × IsTyped x
interval_stands x f w = (
  and_from _ _ (and_from _ _ (and_from _ _ (and_from _ _ (and_from _ _
      (in_root x.first x.pages f.some_pages f.in_root)
      (unit_fits x.unit f.unit_fits.0 f.unit_fits.1))
      (or_from _ _ (λ e. let p = w.shown (is_so (is_mapped x.mode) e) in shown x.id x.page x.pages p.0 p.1)))
      (le x.space 511 f.handle_fits))
      (le x.mapped 511 f.mapped_fits))
      (le x.start x.first f.starts),
  record {
    first = omega (arith, f.some_pages, f.in_root);
    pages = omega (arith, f.some_pages, f.in_root);
    space = omega (arith, f.handle_fits);
    unit = omega (arith, f.unit_fits.1);
    start = omega (arith, f.some_pages, f.in_root, f.starts);
    id = w.small;
    page = by (is_mapped x.mode) refl;
    mapped = omega (arith, f.mapped_fits);
  },
)
  where
    by : (b : Bool) → is_mapped x.mode ≡ b → x.page < 2 ^ 32
    by false e = omega (arith, (w.bare e).1)
    by true e = omega (arith, (w.shown e).1, f.some_pages)

space_stands : (ss : List Space) (s : Space) → AreSpaces ss → In s ss → IfSome s.window (WindowFits s.pages) → (space_in_form s ≡ true) × IsTypedSpace s
space_stands ss s h i fit =
    let own = all_in (IsSpace ss) ss h.whole s i in
    let inside = (in_the_root ss h s i).last in
    let p = parent_at ss s own in
    let above = all_in (IsSpace ss) ss h.whole p.0 p.1.there in
    let parent : s.parent ≤ 511 = omega (arith, above.handle_fits, p.1.parent) in (
      and_from _ _ (and_from _ _ (and_from _ _
          (in_root s.first s.pages own.not_empty inside)
          (unit_fits s.unit own.unit_fits.0 own.unit_fits.1))
          (le s.parent 511 parent))
          (window s.window fit),
      record {
        parent = omega (arith, parent);
        first = omega (arith, inside, own.not_empty);
        pages = omega (arith, inside);
        unit = omega (arith, own.unit_fits.1);
        window = typed s.window fit own.not_empty;
      },
    )
  where
    window : (o : Option Window) → IfSome o (WindowFits s.pages) → window_in_form s.pages o ≡ true
    window None f = refl
    window (Some w) f = shown w.file w.first s.pages f.above_reserved f.pages_fit

    typed : (o : Option Window) → IfSome o (WindowFits s.pages) → 1 ≤ s.pages → IfSome o (λ w. (w.file < 2 ^ 64) × (w.first < 2 ^ 32))
    typed None f some = tt
    typed (Some w) f some = (f.small, omega (arith, f.pages_fit, some))

-- each record of right tables is read back
pub right_reads : (slots : List (Option Space)) (xs : List Interval) → AreRight slots xs → AreReadable slots xs
right_reads slots xs r = record {
  numbered = r.numbered;
  spaces = λ h s e. let i = (find_in (λ t. t.handle == h) (listed slots) s (in_list slots xs r h s e)).0 in
      space_stands (listed slots) s r.spaces i (all_in (λ s. IfSome s.window (WindowFits s.pages)) (listed slots) r.windows s i);
  intervals = λ k x e. interval_stands x (intervals_are_formed (listed slots) xs k x r.spaces r.intervals e) (windows_are_formed (listed slots) xs k x r.spaces r.windows r.intervals e);
}

-- ---- look-ups

-- the entry that was found is a record of the projection
pub entry_is : (b into key : List ℕ) (count i : ℕ) → count ≤ 1023 → IsAnswer 4 (entries 32 (part b 16384 32768) count) count key into (Entry i) → i < count → into ≡ interval_record b i
entry_is b into key count i few answer below = answer.2 ∙ entry_of (part b 16384 32768) count i below ∙ record_is b i (omega (arith, below, few))

key_is : (page : ℕ) → to_be_bytes w32 page ≡ big_bytes 4 page
key_is page = refl

module _ (b : List ℕ) (slots : List (Option Space)) (xs : List Interval) (are : AreTables b slots xs) (r : AreRight slots xs) (count page : ℕ) (few : count ≤ 1023) (long : length xs ≡ count) (inside : page < root_pages) where
  -- where an entry was found, it is the interval that holds the page
  pub entry_holds : (into : List ℕ) (i : ℕ) (x : Interval) → IsAnswer 4 (entries 32 (part b 16384 32768) count) count (to_be_bytes w32 page) into (Entry i) → slice_get xs i ≡ Some x → has_page page x ≡ true
  entry_holds into i x answer e =
      let same = entries_are b slots xs count are long (omega (arith, few)) in
      let found = looked_up_holds (listed slots) xs page i r.intervals inside ((rw same at answer.3) (entries_rise (listed slots) xs r.intervals)) in
      let is : found.0 ≡ x = same_Some found.0 x (sym found.1 ∙ e) in
      subst (λ (y : Interval). has_page page y ≡ true) is (and_from _ _ (le found.0.first page found.2) (lt page (end_of found.0) found.3))

  -- some entry is found
  pub some_found : (into : List ℕ) → IsAnswer 4 (entries 32 (part b 16384 32768) count) count (to_be_bytes w32 page) into Before → ⊥
  some_found into answer =
      let same = entries_are b slots xs count are long (omega (arith, few)) in
      some_is_looked_up (listed slots) xs page r.intervals inside ((rw same at answer.1) (entries_rise (listed slots) xs r.intervals))

module _ (b : List ℕ) (slots : List (Option Space)) (xs : List Interval) (are : AreTables b slots xs) (ss : List Space) (r : AreIntervals ss xs) (count page : ℕ) (few : count ≤ 1023) (long : length xs ≡ count) (inside : page < root_pages) where
  -- the entry that was found is an interval that holds the page, whatever stands at the handles
  pub found_holds : (into : List ℕ) (i : ℕ) → IsAnswer 4 (entries 32 (part b 16384 32768) count) count (to_be_bytes w32 page) into (Entry i) → HoldsAt xs i page
  found_holds into i answer =
      let same = entries_are b slots xs count are long (omega (arith, few)) in
      looked_up_holds ss xs page i r inside ((rw same at answer.3) (entries_rise ss xs r))

  -- and there is one
  pub one_found : (into : List ℕ) → IsAnswer 4 (entries 32 (part b 16384 32768) count) count (to_be_bytes w32 page) into Before → ⊥
  one_found into answer =
      let same = entries_are b slots xs count are long (omega (arith, few)) in
      some_is_looked_up ss xs page r inside ((rw same at answer.1) (entries_rise ss xs r))
