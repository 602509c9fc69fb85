-- What the intervals of a reference's pages make of it.
use Rattle.std.proofs.Common.{◌≡◌, ℕ, ◌/◌, Bool, true, false, List, Some, Option, refl, sym, ◌∙◌, ap, subst, arith}
use Rattle.std.specs.Prelude.{slice_get, IfSome, find, None, is_none, if◌then◌else◌, ◌==◌, ◌&&◌, option_map, option_and_then}
use Rattle.std.proofs.lemmas.Bool.{true≢false}
use Rattle.std.proofs.lemmas.Bool.Decides.{nat_tests}
use Rattle.std.proofs.lemmas.Option.{none-some}
use Rattle.labelled_disk.specs.Sectors.{Sector}
use Rattle.file_map.specs.FileMap.{Triples}
use Rattle.flat_machine.specs.declared.space.Space.{Space}
use Rattle.flat_machine.specs.declared.space.Window.{Window}
use Rattle.flat_machine.specs.declared.space.FilePage.{FilePage}
use Rattle.flat_machine.specs.Space.{holds, mapped_at, is_mapped}
use Rattle.flat_machine.specs.At.{shown_at, page_through, one_or_two, pages_of}
use Rattle.flat_machine.specs.Refusal.{is_read_only}
use Rattle.swap_units.specs.declared.interval.Interval.{Interval}
use Rattle.swap_units.specs.Mode as mode
use Rattle.swap_units.specs.Unit.{Holds}
use Rattle.space_tables.specs.SpaceTables.{IsIntervalAt}
use Rattle.space_tables.specs.Stored.{RevealSpaces}
use Rattle.space_tables.specs.Form.{BreaksLookUp}
use Rattle.frame_pool.specs.Frames.{Slots}
use Rattle.fault_core.specs.declared.reference.Access.{Access}
use Rattle.fault_core.specs.declared.reference.Access.TheVariants as access
use Rattle.fault_core.specs.declared.reference.Reference.{Reference}
use Rattle.fault_core.specs.declared.reference.Reference.TheVariants as reference
use Rattle.fault_core.specs.Access.{access_of, refused_by, is_load_only, last_page, Shows, IfShown, BreaksFor, outcome}
use Rattle.fault_core.specs.Kept.{IsFormed}
use Rattle.fault_core.specs.Reach.{Reaches}
use Rattle.fault_core.specs.Unit.{IsReady}
use Rattle.fault_core.specs.Moves.{AreSeen}
use Rattle.fault_core.specs.Revealed.{BreaksTables, IsIntervalOf, Revealed}
use Rattle.filer_kernel.specs.View.{View}
use Rattle.fault_core.proofs.KeptLemmas.{find_is}
use Rattle.fault_core.proofs.ShowLemmas.{reveals_page, shown_is, seen_of}
use Rattle.fault_core.proofs.RevealedLemmas.{interval_of}

-- ---- The pages of a reference.

module _ (test : ℕ → Bool) (a b : ℕ) where
  pub found_first : test a ≡ true → find test (one_or_two a b) ≡ Some a
  found_first is = by (a == b) refl
    where
      by : (same : Bool) → (a == b) ≡ same → find test (one_or_two a b) ≡ Some a
      by true e = rw (e, is) refl
      by false e = rw (e, is) refl

  pub found_last : test a ≡ false → test b ≡ true → find test (one_or_two a b) ≡ Some b
  found_last fails is = by (a == b) refl
    where
      by : (same : Bool) → (a == b) ≡ same → find test (one_or_two a b) ≡ Some b
      by true e = let same : a ≡ b = grind (arith, nat_tests, e) in absurd (true≢false (sym is ∙ sym (ap test same) ∙ fails))
      by false e = rw (e, fails, is) refl

  pub found_none : test a ≡ false → test b ≡ false → find test (one_or_two a b) ≡ None
  found_none fails also = by (a == b) refl
    where
      by : (same : Bool) → (a == b) ≡ same → find test (one_or_two a b) ≡ None
      by true e = rw (e, fails) refl
      by false e = rw (e, fails, also) refl

pub first_touched : (a b : ℕ) → slice_get (one_or_two a b) 0 ≡ Some a
first_touched a b = by (a == b) refl
  where
    by : (same : Bool) → (a == b) ≡ same → slice_get (one_or_two a b) 0 ≡ Some a
    by true e = rw e refl
    by false e = rw e refl

pub last_touched : (a b : ℕ) → (k : ℕ) × (slice_get (one_or_two a b) k ≡ Some b)
last_touched a b = by (a == b) refl
  where
    by : (same : Bool) → (a == b) ≡ same → (k : ℕ) × (slice_get (one_or_two a b) k ≡ Some b)
    by true e = let same : a ≡ b = grind (arith, nat_tests, e) in (0, rw e (ap (λ (n : ℕ). Some n) same))
    by false e = (1, rw e refl)

pub breaks_first : (v : View) (count address bytes page : ℕ) → BreaksTables v count (address / 512) page → BreaksFor v count address bytes page
breaks_first v count address bytes page breaks = record { k = 0; asked = address / 512; touched = first_touched (address / 512) (last_page address bytes); breaks = breaks }

pub breaks_last : (v : View) (count address bytes page : ℕ) → BreaksTables v count (last_page address bytes) page → BreaksFor v count address bytes page
breaks_last v count address bytes page breaks =
    let last = last_touched (address / 512) (last_page address bytes) in
    record { k = last.0; asked = last_page address bytes; touched = last.1; breaks = breaks }

-- ---- A page is mapped exactly where a window shows it.

window_there : (s : Space) → is_mapped s ≡ true → (w : Window) × (s.window ≡ Some w)
window_there s mapped = by s.window refl
  where
    by : (o : Option Window) → s.window ≡ o → (w : Window) × (s.window ≡ Some w)
    by None e = absurd (true≢false (sym mapped ∙ rw e refl))
    by (Some w) e = (w, e)

pub unmapped_test : (ss : List Space) (page : ℕ) → shown_at ss page ≡ None → is_none (mapped_at ss page) ≡ true
unmapped_test ss page none = by (mapped_at ss page) refl
  where
    by : (o : Option Space) → mapped_at ss page ≡ o → is_none (mapped_at ss page) ≡ true
    by None e = rw e refl
    by (Some s) e =
        let found = find_is (λ s. is_mapped s && holds s page) ss s e in
        let both = found.2 in
        let mapped : is_mapped s ≡ true = grind (arith, both) in
        let w = window_there s mapped in
        let through : option_map (λ (w : Window). page_through s w page) s.window ≡ Some (page_through s w.0 page) = ap (λ (o : Option Window). option_map (λ (w : Window). page_through s w page) o) w.1 in
        let shown : shown_at ss page ≡ Some (page_through s w.0 page) = ap (λ (o : Option Space). option_and_then (λ s. option_map (λ w. page_through s w page) s.window) o) e ∙ through in
        absurd (none-some (page_through s w.0 page) (sym none ∙ shown))

pub mapped_test : (ss : List Space) (page : ℕ) (u : FilePage) → shown_at ss page ≡ Some u → is_none (mapped_at ss page) ≡ false
mapped_test ss page u shown = by (mapped_at ss page) refl
  where
    by : (o : Option Space) → mapped_at ss page ≡ o → is_none (mapped_at ss page) ≡ false
    by None e = absurd (none-some u (sym (ap (λ (o : Option Space). option_and_then (λ s. option_map (λ w. page_through s w page) s.window) o) e) ∙ shown))
    by (Some s) e = rw e refl

module _ (ss : List Space) (writes : Bool) (address count : ℕ) where
  pub no_map_first : shown_at ss (address / 512) ≡ None → access.NoMap (address / 512) ≡ access_of ss writes address count
  no_map_first none =
      sym (ap (λ (o : Option ℕ). refused_by o (if writes then find (is_read_only ss) (pages_of address count) else None))
      (found_first (λ p. is_none (mapped_at ss p)) (address / 512) (last_page address count) (unmapped_test ss (address / 512) none)))

  pub no_map_last : (u : FilePage) → shown_at ss (address / 512) ≡ Some u → shown_at ss (last_page address count) ≡ None → access.NoMap (last_page address count) ≡ access_of ss writes address count
  no_map_last u shown none =
      sym (ap (λ (o : Option ℕ). refused_by o (if writes then find (is_read_only ss) (pages_of address count) else None))
      (found_last (λ p. is_none (mapped_at ss p)) (address / 512) (last_page address count) (mapped_test ss (address / 512) u shown) (unmapped_test ss (last_page address count) none)))

  all_mapped : (u w : FilePage) → shown_at ss (address / 512) ≡ Some u → shown_at ss (last_page address count) ≡ Some w
      → access_of ss writes address count ≡ refused_by None (if writes then find (is_read_only ss) (pages_of address count) else None)
  all_mapped u w first last =
      ap (λ (o : Option ℕ). refused_by o (if writes then find (is_read_only ss) (pages_of address count) else None))
      (found_none (λ p. is_none (mapped_at ss p)) (address / 512) (last_page address count) (mapped_test ss (address / 512) u first) (mapped_test ss (last_page address count) w last))

  -- the pages that are read-only, by the intervals that show them
  read_only_is : (a b : Bool) → is_read_only ss (address / 512) ≡ a → is_read_only ss (last_page address count) ≡ b
      → find (is_read_only ss) (pages_of address count) ≡ (if a then Some (address / 512) else (if b then Some (last_page address count) else None))
  read_only_is true b first last = found_first (is_read_only ss) (address / 512) (last_page address count) first
  read_only_is false true first last = found_last (is_read_only ss) (address / 512) (last_page address count) first last
  read_only_is false false first last = found_none (is_read_only ss) (address / 512) (last_page address count) first last

  pub access_shown : {reveals : List ℕ → Type 0} {n : ℕ} → RevealSpaces reveals n ss → (x y : Interval) → IsIntervalOf ss x → IsIntervalOf ss y → Shows x (address / 512) → Shows y (last_page address count)
      → (a : Access) → a ≡ refused_by None (if writes then (if is_load_only x then Some (address / 512) else (if is_load_only y then Some (last_page address count) else None)) else None) → a ≡ access_of ss writes address count
  access_shown t x y of_x of_y shows_x shows_y a is =
      let only = read_only_is (is_load_only x) (is_load_only y) (reveals_page t x of_x (address / 512) shows_x.holds).read_only (reveals_page t y of_y (last_page address count) shows_y.holds).read_only in
      let mapped = all_mapped _ _ (shown_is t x of_x (address / 512) shows_x.holds shows_x.mapped) (shown_is t y of_y (last_page address count) shows_y.holds shows_y.mapped) in
      subst (λ (b : Access). a ≡ b) (sym mapped) (subst (λ (o : Option ℕ). a ≡ refused_by None (if writes then o else None)) (sym only) is)

-- ---- A second page is described after the first.

pub breaks_before : (v w : View) → Reaches v w → (n k asked page : ℕ) → k ≡ n → BreaksTables w k asked page → BreaksTables v n asked page
breaks_before v w h n k asked page same g = record {
  in_root = g.in_root;
  breaks = λ b revealed. subst (λ (j : ℕ). BreaksLookUp asked j b page) same (g.breaks b (h.revealed b revealed));
}

pub ready_same : (k l : List Interval) (s t : Slots) (page : ℕ) → l ≡ k → t ≡ s → IsReady k s page → IsReady l t page
ready_same k l s t page kept slots ready = rw (kept, slots) ready

pub shown_some : (P : Interval → Interval → Type 0) (r : Reference) (x y : Interval) → IfShown (λ a b. (a ≡ x) × (b ≡ y)) r → P x y → IfShown P r
shown_some P (reference.Shown a b) x y is p = subst (λ (z : Interval). P z b) (sym is.0) (subst (P x) (sym is.1) p)
shown_some P (reference.NoMap page) x y is p = tt
shown_some P (reference.ReadOnly page) x y is p = tt

-- an interval that a look-up gave
pub shows_of : (o : Option Interval) (x : Interval) (page : ℕ) → o ≡ Some x → IfSome o (λ x. IsFormed x × Holds x page × (mode.is_mapped x.mode ≡ true)) → Shows x page
shows_of o x page is form =
    let own = subst (λ (o : Option Interval). IfSome o (λ x. IsFormed x × Holds x page × (mode.is_mapped x.mode ≡ true))) is form in
    record { formed = own.0; holds = own.1; mapped = own.2 }

pub some_shows : (o : Option Interval) (y : Interval) (page : ℕ) → o ≡ Some y → IfSome o (λ y. Shows y page) → Shows y page
some_shows o y page is shows = subst (λ (o : Option Interval). IfSome o (λ y. Shows y page)) is shows

pub at_of : (ss : List Space) (o : Option Interval) (x : Interval) (page : ℕ) → o ≡ Some x → IfSome o (IsIntervalAt ss page) → IsIntervalAt ss page x
at_of ss o x page is at = subst (λ (o : Option Interval). IfSome o (IsIntervalAt ss page)) is at

-- ---- What a reference gave, at its intervals.

pub at_shown : (P : Interval → Interval → Type 0) (r : Reference) (x y : Interval) → r ≡ reference.Shown x y → IfShown P r → P x y
at_shown P r x y is p = subst (IfShown P) is p

pub came_to : (a : Access) (r s : Reference) → r ≡ s → outcome r ≡ a → outcome s ≡ a
came_to a r s is p = subst (λ (r : Reference). outcome r ≡ a) is p

-- both intervals, where the core is known
pub both_seen : {v : View} {kept : List Interval} {n : ℕ} {m : List Sector} {named : Triples} {ss : List Space} → Revealed v kept n m named ss → (r : Reference) (x y : Interval) (p q : ℕ) → r ≡ reference.Shown x y
    → IfShown (λ x y. Shows x p × Shows y q) r → IfShown (λ x y. IsIntervalAt ss p x × IsIntervalAt ss q y) r → AreSeen ss named m x × AreSeen ss named m y
both_seen {m = m} {named = named} {ss = ss} h r x y p q is form intervals =
    let shows = at_shown (λ x y. Shows x p × Shows y q) r x y is form in
    let at = at_shown (λ x y. IsIntervalAt ss p x × IsIntervalAt ss q y) r x y is intervals in
    (seen_of h.tables x (interval_of ss p x at.0) shows.0.mapped named m h.stored, seen_of h.tables y (interval_of ss q y at.1) shows.1.mapped named m h.stored)
