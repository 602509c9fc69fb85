-- The pages of an interval that are given up are those that a kill gives up.
use Rattle.std.proofs.Common.{◌≡◌, ◌≤◌, ◌<◌, ℕ, ◌+◌, ◌-◌, Bool, true, false, List, Some, Option, refl, sym, ◌∙◌, ap, subst, arith}
use Rattle.std.specs.Prelude.{None, ◌&&◌, ◌==◌, not, if◌then◌else◌, option_map, option_and_then}
use Rattle.std.specs.Option.{option_map_or}
use Rattle.std.proofs.lemmas.Bool.{true≢false, ne_eqb}
use Rattle.std.proofs.lemmas.Bool.Decides.{nat_tests}
use Rattle.std.proofs.lemmas.Option.{same_Some, none-some}
use Rattle.labelled_disk.specs.declared.label.Label.{Label}
use Rattle.labelled_disk.specs.Label.{is_file, is_file_id, names}
use Rattle.labelled_disk.specs.Layout.{first_data}
use Rattle.labelled_disk.specs.Sectors.{Sector}
use Rattle.file_map.specs.FileMap.{Triples}
use Rattle.flat_machine.specs.declared.space.Space.{Space}
use Rattle.flat_machine.specs.declared.space.Window.{Window}
use Rattle.flat_machine.specs.declared.space.FilePage.{FilePage}
use Rattle.flat_machine.specs.Space.{holds, is_mapped, is_writable, mapped_at, shows}
use Rattle.flat_machine.specs.At.{page_through, shown_at}
use Rattle.flat_machine.specs.Refusal.{is_read_only}
use Rattle.flat_machine.specs.Next.{is_writable_within, shows_within}
use Rattle.flat_machine.proofs.Lists.{find_in, in_any}
use Rattle.swap_units.specs.declared.interval.Interval.{Interval}
use Rattle.swap_units.specs.declared.mode.Mode.{Mode}
use Rattle.swap_units.specs.declared.mode.Mode.TheVariants.{Unmapped, Mapped}
use Rattle.swap_units.specs.Mode as mode
use Rattle.swap_units.specs.Unit.{Holds}
use Rattle.swapper_kernel.specs.Differs.{Differs}
use Rattle.swapper_kernel.specs.DiffersLaws.{differs_wider}
use Rattle.swapper_kernel.specs.Homes.{IsLayout}
use Rattle.swapper_kernel.specs.Kinds.{a_file, files_alone, kind_of, the_tables, unused}
use Rattle.swapper_kernel.proofs.KindLemmas.{data_kind}
use Rattle.session_words.specs.CellLaws.{is_killed}
use Rattle.session_words.proofs.FoundLemmas.{above_reserved, file_label}
use Rattle.filer_kernel.specs.PlaceLaws.{data_first}
use Rattle.swapper_kernel.specs.Goes.{Pages}
use Rattle.fault_core.specs.Access.{is_load_only}
use Rattle.fault_core.specs.Kill.{AreWritableSo, LeavesCore, may_store, of_part}
use Rattle.fault_core.specs.Moves.{Leaves}
use Rattle.fault_core.specs.Revealed.{IsIntervalOf, Revealed}
use Rattle.fault_core.specs.Unit.{file_page}
use Rattle.filer_kernel.specs.View.{View}
use Rattle.fault_core.proofs.LeaveLemmas.{revealed_leaves}
use Rattle.fault_core.proofs.ShowLemmas.{shown_is, shown_none, shows_through, reveals_page}

and_both : (a b : Bool) → a ≡ true → b ≡ true → (a && b) ≡ true
and_both a b first next = ap (λ (c : Bool). c && b) first ∙ next

is_so : (b : Bool) → not b ≡ false → b ≡ true
is_so true is = refl
is_so false is = absurd (true≢false is)

-- ---- A page that is shown in the range by a writable window.

module _ (ss : List Space) (range : Space) (p : ℕ) (u : FilePage) (in_range : holds range p ≡ true) where
  shown_within : (s : Space) → holds s p ≡ true → option_map (λ (w : Window). page_through s w p) s.window ≡ Some u → shows_within range u s ≡ true
  shown_within s held is = by s.window refl
    where
      by : (o : Option Window) → s.window ≡ o → shows_within range u s ≡ true
      by None e = absurd (none-some u (sym (ap (λ (o : Option Window). option_map (λ (w : Window). page_through s w p) o) e) ∙ is))
      by (Some w) e =
          let same : page_through s w p ≡ u = same_Some (page_through s w p) u (sym (ap (λ (o : Option Window). option_map (λ (w : Window). page_through s w p) o) e) ∙ is) in
          let first : s.first ≤ p = grind (arith, nat_tests, held) in
          let at : s.first + (w.first + (p - s.first) - w.first) ≡ p = omega (arith, first) in
          let there : holds range (s.first + (w.first + (p - s.first) - w.first)) ≡ true = subst (λ (q : ℕ). holds range q ≡ true) (sym at) in_range in
          subst (λ (u : FilePage). shows_within range u s ≡ true) same
          (ap (λ (o : Option Window). option_map_or (λ (z : Window). shows w.file (w.first + (p - s.first)) s && holds range (s.first + (w.first + (p - s.first) - z.first))) o false) e
          ∙ and_both (shows w.file (w.first + (p - s.first)) s) (holds range (s.first + (w.first + (p - s.first) - w.first))) (shows_through s w p e held) there)

  pub writable_within : shown_at ss p ≡ Some u → is_read_only ss p ≡ false → is_writable_within ss range u ≡ true
  writable_within shown writable = by (mapped_at ss p) refl
    where
      by : (o : Option Space) → mapped_at ss p ≡ o → is_writable_within ss range u ≡ true
      by None e = absurd (none-some u (sym (ap (λ (o : Option Space). option_and_then (λ s. option_map (λ w. page_through s w p) s.window) o) e) ∙ shown))
      by (Some s) e =
          let found = find_in (λ s. is_mapped s && holds s p) ss s e in
          let both = found.1 in
          let held : holds s p ≡ true = grind (arith, both) in
          let writes : is_writable s ≡ true = is_so (is_writable s) (sym (ap (λ (o : Option Space). option_map_or (λ s. not (is_writable s)) o false) e) ∙ writable) in
          let through : option_map (λ (w : Window). page_through s w p) s.window ≡ Some u = sym (ap (λ (o : Option Space). option_and_then (λ s. option_map (λ w. page_through s w p) s.window) o) e) ∙ shown in
          in_any (λ s. is_writable s && shows_within range u s) ss s found.0 (and_both (is_writable s) (shows_within range u s) writes (shown_within s held through))

-- ---- Pages of an interval.

pub stores_of : (x : Interval) → may_store x ≡ true → (mode.is_mapped x.mode ≡ true) × (is_load_only x ≡ false)
stores_of x may = by x.mode may
  where
    by : (m : Mode) → mode.is_writable m ≡ true → (mode.is_mapped m ≡ true) × (mode.is_read_only m ≡ false)
    by Unmapped e = absurd (true≢false (sym e))
    by (Mapped writable anonymous) e = (refl, ap not e)

-- it is unmapped, or may be loaded only
kept_of : (x : Interval) → may_store x ≡ false → mode.is_mapped x.mode ≡ true → is_load_only x ≡ true
kept_of x bare mapped = by x.mode bare mapped
  where
    by : (m : Mode) → mode.is_writable m ≡ false → mode.is_mapped m ≡ true → mode.is_read_only m ≡ true
    by Unmapped w e = absurd (true≢false (sym e))
    by (Mapped writable anonymous) w e = ap not w

-- the label of a sector of a file's page
file_kind : (n k : ℕ) (l : Label) → first_data n ≤ k → is_file_id l.id ≡ true → names l (record { id = l.id; page = l.page }) ≡ true → kind_of n k l ≡ a_file
file_kind n k l from given named =
    let client = above_reserved l.id given in
    let three : (l.id == 3) ≡ false = ne_eqb l.id 3 (omega (arith, client)) in
    data_kind n k l from ∙ ap (λ (b : Bool). if b then the_tables else (if is_file l then a_file else unused)) three ∙ ap (λ (b : Bool). if b then a_file else unused) (file_label l given named)

module _ {v : View} {kept : List Interval} {count : ℕ} {m : List Sector} {named : Triples} {ss : List Space} (is : IsLayout v.layout) (t : Revealed v kept count m named ss) (x : Interval) (of : IsIntervalOf ss x) (page next : ℕ)
    (here : Holds x page) (inside : next ≤ x.first + x.pages) where
  -- where nothing may be stored, no page may
  pub part_kept : (evidence_seen : Pages) → may_store x ≡ false → AreWritableSo evidence_seen ss page next
  part_kept evidence_seen bare p from below u shown writable =
      let first = here.0 in
      let held : Holds x p = (omega (arith, first, from), omega (arith, inside, below)) in
      by (mode.is_mapped x.mode) refl held
    where
      by : (b : Bool) → mode.is_mapped x.mode ≡ b → Holds x p → evidence_seen u.file u.page
      by false e held = absurd (none-some u (sym (shown_none t.tables x of p held e) ∙ shown))
      by true e held =
          let only : is_load_only x ≡ true = kept_of x bare e in
          absurd (true≢false (sym only ∙ sym (reveals_page t.tables x of p held).read_only ∙ writable))

  pub part_stored : (evidence_seen : Pages) → may_store x ≡ true → ((p : ℕ) → page ≤ p → p < next → evidence_seen x.id (file_page x p)) → AreWritableSo evidence_seen ss page next
  part_stored evidence_seen may each p from below u shown writable =
      let first = here.0 in
      let held : Holds x p = (omega (arith, first, from), omega (arith, inside, below)) in
      let same : record { file = x.id; page = file_page x p } ≡ u = same_Some {A = FilePage} (record { file = x.id; page = file_page x p }) u (sym (shown_is t.tables x of p held (stores_of x may).0) ∙ shown) in
      subst (λ (u : FilePage). evidence_seen u.file u.page) same (each p from below)

  pub killed_test : may_store x ≡ true → (range : Space) → range.first ≤ page → next ≤ range.first + range.pages → (k : ℕ) (l : Label) → of_part v.layout.first x page next k l ≡ true → is_killed v.layout.sectors ss range k l ≡ true
  killed_test may range prefix after k l test =
      let first = here.0 in
      let p = page + (l.page - file_page x page) in
      let on : v.layout.first ≤ k = grind (arith, nat_tests, test) in
      let same_id : l.id ≡ x.id = grind (arith, nat_tests, test) in
      let from : file_page x page ≤ l.page = grind (arith, nat_tests, test) in
      let below : l.page < file_page x page + (next - page) = grind (arith, nat_tests, test) in
      let label : names l (record { id = l.id; page = l.page }) ≡ true = grind (arith, nat_tests, test) in
      let held : Holds x p = (omega (arith, first), omega (arith, from, below, inside)) in
      let same_page : file_page x p ≡ l.page = omega (arith, first, from) in
      let in_range : holds range p ≡ true = grind (arith, nat_tests, prefix, after, from, below) in
      let back : x.id ≡ l.id = sym same_id in
      let same : ◌≡◌ {A = FilePage} (record { file = x.id; page = file_page x p }) (record { file = l.id; page = l.page }) = (λ i. record { file = back i; page = same_page i }) in
      let shown : shown_at ss p ≡ Some (record { file = l.id; page = l.page }) = shown_is t.tables x of p held (stores_of x may).0 ∙ ap (λ (u : FilePage). Some u) same in
      let writable : is_read_only ss p ≡ false = (reveals_page t.tables x of p held).read_only ∙ (stores_of x may).1 in
      let given : is_file_id l.id ≡ true = (t.stored p (record { file = l.id; page = l.page }) shown).of_file in
      let since : first_data v.layout.sectors ≤ k = subst (λ (n : ℕ). n ≤ k) (data_first v.layout is) on in
      and_both (files_alone (kind_of v.layout.sectors k l)) (is_writable_within ss range (record { file = l.id; page = l.page })) (ap files_alone (file_kind v.layout.sectors k l since given label))
      (writable_within ss range p (record { file = l.id; page = l.page }) in_range shown writable)

  pub part_left : may_store x ≡ true → (w : View) (range : Space) → range.first ≤ page → next ≤ range.first + range.pages → Leaves (Differs (of_part v.layout.first x page next)) m named t.bytes w
      → LeavesCore (Differs (is_killed v.layout.sectors ss range)) m named ss w kept count
  part_left may w range prefix after l = record {
    memory = l.memory;
    changed = differs_wider (of_part v.layout.first x page next) (is_killed v.layout.sectors ss range) m l.memory (λ k s here fails. fails_too k s.0 fails (of_part v.layout.first x page next k s.0) refl) l.changed;
    revealed = revealed_leaves t l;
  }
    where
      fails_too : (k : ℕ) (l : Label) → is_killed v.layout.sectors ss range k l ≡ false → (b : Bool) → of_part v.layout.first x page next k l ≡ b → of_part v.layout.first x page next k l ≡ false
      fails_too k l fails true test = absurd (true≢false (sym (killed_test may range prefix after k l test) ∙ fails))
      fails_too k l fails false test = test
