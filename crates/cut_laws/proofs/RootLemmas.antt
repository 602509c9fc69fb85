-- The root in a cut.
use Rattle.std.proofs.Common.{◌≡◌, ◌≢◌, ◌⊎◌, inl, inr, ℕ, zero, suc, ◌+◌, ◌*◌, ◌^◌, ◌<◌, ◌≤◌, ◌/◌, ◌%◌, Bool, true, List, [], ◌∷◌, length, take, drop, Option, Some, None, refl, sym, ◌∙◌, ap, subst, arith, get_or}
use Rattle.std.specs.Prelude.{slice_get, slice_set, slice_range, IsSomeAnd, IsTrue}
use Rattle.std.proofs.lemmas.Bool.{cases_eq}
use Rattle.std.proofs.lemmas.List.{get_or-take, get_or-drop, take-take, drop-drop}
use Rattle.std.proofs.lemmas.Option.{same_Some, none-some, slice_get_within, get_or_from_slice_get}
use Rattle.labelled_disk.specs.declared.label.Label.{Label}
use Rattle.labelled_disk.specs.declared.disk.DiskWrite.{DiskWrite}
use Rattle.labelled_disk.specs.declared.disk.DiskWrite.TheVariants as kind
use Rattle.labelled_disk.specs.Label.{names, root_label, wanted_root}
use Rattle.labelled_disk.specs.Permitted.{Permitted}
use Rattle.labelled_disk.specs.Layout.{vam}
use Rattle.labelled_disk.specs.CrashState.{crash_state, written}
use Rattle.labelled_disk.specs.Root.{IsRoot, page_in, root_page, short_at, number_at, serial_of, counter_of}
use Rattle.labelled_disk.specs.Runs.{sector_of}
use Rattle.labelled_disk.specs.Sectors.{Sector}
use Rattle.labelled_disk.proofs.Finds.{get_set_same, get_set_other}
use Rattle.labelled_disk.proofs.WriteLemmas as laws
use Rattle.label_laws.specs.PermittedRuns.{ArePermitted}
use Rattle.label_laws.proofs.PermittedLemmas.{each_permitted}
use Rattle.label_laws.proofs.MixedLemmas.{crash_state_long, written_long, written_other}
use Rattle.cut_words.proofs.NumberLemmas.{number_same, prefix_same}
use Rattle.cut_laws.specs.Cut.{unit, AtSome, IsCutSince}
use Rattle.cut_laws.specs.Roots.{FlagLaws, OneUnitApart, RootOfCrashStates, SetsFlag, flag_of}
use Rattle.cut_laws.proofs.UnitLemmas.{in_unit, same_units}
use Rattle.cut_laws.proofs.CrashStateLemmas.{get_some, history}

-- The root's sector.

module _ (d : List Sector) (writes : List DiskWrite) (e : List Sector) (cut : IsCutSince d writes e) where
  none_earlier : (j : ℕ) → slice_get e 0 ≡ None → slice_get (crash_state d writes j) 0 ≡ None
  none_earlier j none = either (slice_get (crash_state d writes j) 0) refl
    where
      either : (o : Option Sector) → slice_get (crash_state d writes j) 0 ≡ o → slice_get (crash_state d writes j) 0 ≡ None
      either None f = f
      either (Some s) f =
          let t = get_some e 0 (omega (arith, slice_get_within (crash_state d writes j) 0 s f, crash_state_long d writes j, cut.sectors)) in
          absurd (none-some t.0 (sym none ∙ t.1))

  -- what a unit of the root's page reveals is what it revealed in one crash state
  by_unit : (u : ℕ) (P : List Sector → Type 0) → ((j : ℕ) → root_page e ≡ root_page (crash_state d writes j) → P (crash_state d writes j))
      → ((j : ℕ) → unit u (root_page e) ≡ unit u (root_page (crash_state d writes j)) → P (crash_state d writes j)) → AtSome 0 (length writes) (λ j. P (crash_state d writes j))
  by_unit u P same by = either (slice_get e 0) refl
    where
      either : (o : Option Sector) → slice_get e 0 ≡ o → AtSome 0 (length writes) (λ j. P (crash_state d writes j))
      either None f = (0, omega arith, omega arith, same 0 (ap page_in f ∙ sym (ap page_in (none_earlier 0 f))))
      either (Some t) f =
          let part = cut.units 0 u t f in
          (part.0, part.1, part.2, by part.0 (ap (λ (o : Option Sector). unit u (page_in o)) f ∙ sym part.3.2 ∙ sym (ap (λ (o : Option Sector). unit u (page_in o)) part.3.1)))

  flag : AtSome 0 (length writes) (λ j. flag_of e ≡ flag_of (crash_state d writes j))
  flag = by_unit 0 (λ now. flag_of e ≡ flag_of now) (λ j same. ap (λ (l : List ℕ). short_at l 10) same) (λ j same. number_same 0 10 2 (root_page e) (root_page (crash_state d writes j)) (omega arith) same)

  numbers : AtSome 0 (length writes) (λ j. (serial_of e ≡ serial_of (crash_state d writes j)) × (counter_of e ≡ counter_of (crash_state d writes j)))
  numbers =
      by_unit 1 (λ now. (serial_of e ≡ serial_of now) × (counter_of e ≡ counter_of now))
      (λ j same. (ap (λ (l : List ℕ). number_at l 16) same, ap (λ (l : List ℕ). number_at l 20) same))
      (λ j same. (number_same 1 0 4 (root_page e) (root_page (crash_state d writes j)) (omega arith) same, number_same 1 4 4 (root_page e) (root_page (crash_state d writes j)) (omega arith) same))

  -- a label of a sector, where it is so in each crash state
  named : (i : ℕ) (test : Label → Bool) → ((j : ℕ) → j ≤ length writes → IsSomeAnd (slice_get (crash_state d writes j) i) (λ s. IsTrue (test s.0))) → IsSomeAnd (slice_get e i) (λ s. IsTrue (test s.0))
  named i test each = either (slice_get e i) refl
    where
      either : (o : Option Sector) → slice_get e i ≡ o → IsSomeAnd (slice_get e i) (λ s. IsTrue (test s.0))
      either None f = nothing (slice_get d i) refl
        where
          nothing : (o : Option Sector) → slice_get d i ≡ o → IsSomeAnd (slice_get e i) (λ s. IsTrue (test s.0))
          nothing None g = absurd (subst (λ (o : Option Sector). IsSomeAnd o (λ s. IsTrue (test s.0))) g (each 0 (omega arith)))
          nothing (Some s) g = let t = get_some e i (omega (arith, slice_get_within d i s g, cut.sectors)) in absurd (none-some t.0 (sym f ∙ t.1))
      either (Some t) f =
          let part = cut.labels i t f in
          let old = subst (λ (o : Option Sector). IsSomeAnd o (λ s. IsTrue (test s.0))) part.3.1 (each part.0 part.2) in
          subst (λ (o : Option Sector). IsSomeAnd o (λ s. IsTrue (test s.0))) (sym f) (subst (λ (l : Label). IsTrue (test l)) part.3.2 old)

  module _ (n : ℕ) (each : (j : ℕ) → j ≤ length writes → IsRoot n (slice_get (crash_state d writes j) 0)) where
    root_at : (u : ℕ) (t : Sector) → slice_get e 0 ≡ Some t → (s : Sector) × IsRoot n (Some s) × (unit u t.1 ≡ unit u s.1)
    root_at u t here = let part = cut.units 0 u t here in (part.3.0, subst (λ (o : Option Sector). IsRoot n o) part.3.1 (each part.0 part.2), sym part.3.2)

    valid_root : (t : Sector) → slice_get e 0 ≡ Some t → IsRoot n (Some t)
    valid_root t here =
        let low = root_at 0 t here in
        let high = root_at 1 t here in
        record {
          accepted = low.1.accepted;
          label = subst (λ (o : Option Sector). IsSomeAnd o (λ s. IsTrue (names s.0 wanted_root))) here (named 0 (λ l. names l wanted_root) (λ j few. (each j few).label));
          magic = prefix_same t.1 low.0.1 low.2 ∙ low.1.magic;
          version = number_same 0 8 2 t.1 low.0.1 (omega arith) low.2 ∙ low.1.version;
          flag = subst (λ (k : ℕ). k ≤ 1) (sym (number_same 0 10 2 t.1 low.0.1 (omega arith) low.2)) low.1.flag;
          count = number_same 0 12 4 t.1 low.0.1 (omega arith) low.2 ∙ low.1.count;
          serial = subst (λ (k : ℕ). 1 ≤ k) (sym (number_same 1 0 4 t.1 high.0.1 (omega arith) high.2)) high.1.serial;
          counter = subst (λ (k : ℕ). 1 ≤ k) (sym (number_same 1 4 4 t.1 high.0.1 (omega arith) high.2)) high.1.counter;
          rest = λ k b below. zero_byte k b below;
        }
      where
        zero_byte : (k b : ℕ) → k < length (drop 24 t.1) → get_or (drop 24 t.1) k b ≡ 0
        zero_byte k b below =
            let byte = get_some (drop 24 t.1) k below in
            let at : slice_get t.1 (24 + k) ≡ Some byte.0 = sym (laws.get_drop 24 t.1 k) ∙ byte.1 in
            let old = root_at ((24 + k) / 16) t here in
            let there : slice_get (drop 24 old.0.1) k ≡ Some byte.0 =
            laws.get_drop 24 old.0.1 k ∙ sym (in_unit old.0.1 (24 + k)) ∙ ap (λ (l : List ℕ). slice_get l ((24 + k) % 16)) (sym old.2) ∙ in_unit t.1 (24 + k) ∙ at in
            get_or_from_slice_get (drop 24 t.1) k byte.0 b byte.1
            ∙ sym (get_or_from_slice_get (drop 24 old.0.1) k byte.0 b there)
            ∙ old.1.rest k b (slice_get_within (drop 24 old.0.1) k byte.0 there)

    valid : IsRoot n (slice_get e 0)
    valid = either (slice_get e 0) refl
      where
        either : (o : Option Sector) → slice_get e 0 ≡ o → IsRoot n (slice_get e 0)
        either None f = subst (λ (o : Option Sector). IsRoot n o) (none_earlier 0 f ∙ sym f) (each 0 (omega arith))
        either (Some t) f = subst (λ (o : Option Sector). IsRoot n o) (sym f) (valid_root t f)

  root_of_crash_states : RootOfCrashStates d writes e
  root_of_crash_states = record {
    flag = flag;
    numbers = numbers;
    valid = λ each. valid (length d) each;
    none = λ each t here. let part = cut.labels 0 t here in ap (λ (l : Label). names l wanted_root) (sym part.3.2) ∙ each part.0 part.3.0 part.2 part.3.1;
    maps = λ each. record {
      allocation = λ k low. named (1 + k) (λ l. names l (record { id = 1; page = k })) (λ j few. (each j few).allocation k low);
      file_map = λ k low. named (1 + vam (length d) + k) (λ l. names l (record { id = 2; page = k })) (λ j few. (each j few).file_map k low);
    };
  }

  module _ (permitted : ArePermitted d writes) (unset : flag_of d ≢ 1) (none : (k : ℕ) (write : DiskWrite) → slice_get writes k ≡ Some write → SetsFlag write → ⊥) where
    step : (now : List Sector) (write : DiskWrite) (s t : Sector) → Permitted now write → (SetsFlag write → ⊥) → slice_get now 0 ≡ Some s → slice_get (written write now) 0 ≡ Some t → short_at s.1 10 ≢ 1 → short_at t.1 10 ≢ 1
    step now write s t may not here there before = either (cases_eq (sector_of write) 0)
      where
        at : (write : DiskWrite) → Permitted now write → (SetsFlag write → ⊥) → sector_of write ≡ 0 → slice_get (written write now) 0 ≡ Some t → short_at t.1 10 ≢ 1
        at (kind.Whole sector label page) may not is there =
            let new : (label, page) ≡ t =
            same_Some (label, page) t (sym (get_set_same now 0 (label, page) (slice_get_within now 0 s here)) ∙ ap (λ (j : ℕ). slice_get (slice_set now j (label, page)) 0) (sym is) ∙ there) in
            λ set. not (is, ap (λ (v : Sector). short_at v.1 10) new ∙ set)
        at (kind.LabelOnly sector label) may not is there = absurd (omega (arith, may.old.1.is_data, is, laws.first_positive true 0 0 (length now)))
        at (kind.Page sector wanted page) may not is there = absurd (omega (arith, may.not_root, is))

        either : (sector_of write ≡ 0) ⊎ (sector_of write ≢ 0) → short_at t.1 10 ≢ 1
        either (inl is) = at write may not is there
        either (inr apart) = subst (λ (v : Sector). short_at v.1 10 ≢ 1) (same_Some s t (sym here ∙ sym (written_other now write 0 apart) ∙ there)) before

    unset_at : (j : ℕ) → j ≤ length writes → flag_of (crash_state d writes j) ≢ 1
    unset_at j few = either (slice_get (crash_state d writes j) 0) refl
      where
        either : (o : Option Sector) → slice_get (crash_state d writes j) 0 ≡ o → flag_of (crash_state d writes j) ≢ 1
        either (Some t) f =
            subst (λ (o : Option Sector). short_at (page_in o) 10 ≢ 1) (sym f)
            (history (λ k t. short_at t.1 10 ≢ 1) d writes 0 (λ s here. subst (λ (o : Option Sector). short_at (page_in o) 10 ≢ 1) here unset)
            (λ k write s t low is here there after before. step (crash_state d writes k) write s t (each_permitted d writes permitted k write is) (none k write is) here there before) j few t f)
        either None f = subst (λ (o : Option Sector). short_at (page_in o) 10 ≢ 1) (first (slice_get d 0) refl ∙ sym f) unset
          where
            first : (o : Option Sector) → slice_get d 0 ≡ o → slice_get d 0 ≡ None
            first None g = g
            first (Some s) g = let t = get_some (crash_state d writes j) 0 (omega (arith, slice_get_within d 0 s g, crash_state_long d writes j)) in absurd (none-some t.0 (sym f ∙ t.1))

    clear : flag_of e ≢ 1
    clear set = unset_at flag.0 flag.2 (sym flag.3 ∙ set)

-- One write of one unit.

same_disk : (e f : List Sector) → length f ≡ length e → ((j : ℕ) (s t : Sector) → slice_get f j ≡ Some s → slice_get e j ≡ Some t → t ≡ s) → e ≡ f
same_disk e f long each = laws.same_elements true 0 0 e f (λ j. either j (slice_get e j) refl (slice_get f j) refl)
  where
    either : (j : ℕ) (o : Option Sector) → slice_get e j ≡ o → (p : Option Sector) → slice_get f j ≡ p → slice_get e j ≡ slice_get f j
    either j None g None h = g ∙ sym h
    either j (Some t) g (Some s) h = g ∙ ap (λ (v : Sector). Some v) (each j s t h g) ∙ sym h
    either j None g (Some s) h = let t = get_some e j (omega (arith, slice_get_within f j s h, long)) in absurd (none-some t.0 (sym g ∙ t.1))
    either j (Some t) g None h = let s = get_some f j (omega (arith, slice_get_within e j t g, long)) in absurd (none-some s.0 (sym h ∙ s.1))

module _ (i u : ℕ) (d : List Sector) (write : DiskWrite) (e : List Sector) (apart : OneUnitApart i u d (written write d)) (cut : IsCutSince d (write ∷ []) e) where
  -- a crash state is before the write, or after it
  which : (P : List Sector → Type 0) → AtSome 0 1 (λ j. P (crash_state d (write ∷ []) j)) → P d ⊎ P (written write d)
  which P some = either some.0 some.2 some.3
    where
      either : (j : ℕ) → j ≤ 1 → P (crash_state d (write ∷ []) j) → P d ⊎ P (written write d)
      either zero few p = inl p
      either (suc zero) few p = inr p
      either (suc (suc j)) few p = absurd (omega (arith, few))

  label_at : (j : ℕ) (t : Sector) → slice_get e j ≡ Some t → ((s : Sector) → slice_get d j ≡ Some s → t.0 ≡ s.0) × ((s : Sector) → slice_get (written write d) j ≡ Some s → t.0 ≡ s.0)
  label_at j t here = elim (which (λ now. (s : Sector) × (slice_get now j ≡ Some s) × (s.0 ≡ t.0)) (cut.labels j t here)) [
    | inl old ↦ (λ s at. sym old.2 ∙ ap (λ (v : Sector). v.0) (same_Some old.0 s (sym old.1 ∙ at)), λ s at. sym old.2 ∙ sym (apart.labels j old.0 s old.1 at))
    | inr new ↦ (λ s at. sym new.2 ∙ apart.labels j s new.0 at new.1, λ s at. sym new.2 ∙ ap (λ (v : Sector). v.0) (same_Some new.0 s (sym new.1 ∙ at)))
  ]

  -- a unit that is the same before and after is so in the cut
  other_unit : (j v : ℕ) (t : Sector) → (j ≢ i) ⊎ (v ≢ u) → slice_get e j ≡ Some t
      → ((s : Sector) → slice_get d j ≡ Some s → unit v t.1 ≡ unit v s.1) × ((s : Sector) → slice_get (written write d) j ≡ Some s → unit v t.1 ≡ unit v s.1)
  other_unit j v t other here = elim (which (λ now. (s : Sector) × (slice_get now j ≡ Some s) × (unit v s.1 ≡ unit v t.1)) (cut.units j v t here)) [
    | inl old ↦ (λ s at. sym old.2 ∙ ap (λ (w : Sector). unit v w.1) (same_Some old.0 s (sym old.1 ∙ at)), λ s at. sym old.2 ∙ sym (apart.others j v old.0 s old.1 at other))
    | inr new ↦ (λ s at. sym new.2 ∙ apart.others j v s new.0 at new.1 other, λ s at. sym new.2 ∙ ap (λ (w : Sector). unit v w.1) (same_Some new.0 s (sym new.1 ∙ at)))
  ]

  -- all else being the same, that unit decides
  decide : (f : List Sector) → length f ≡ length e → ((j : ℕ) (s t : Sector) → slice_get f j ≡ Some s → slice_get e j ≡ Some t → t.0 ≡ s.0)
      → ((j v : ℕ) (s t : Sector) → (j ≢ i) ⊎ (v ≢ u) → slice_get f j ≡ Some s → slice_get e j ≡ Some t → unit v t.1 ≡ unit v s.1)
      → ((s t : Sector) → slice_get f i ≡ Some s → slice_get e i ≡ Some t → unit u t.1 ≡ unit u s.1) → e ≡ f
  decide f long labels others here = same_disk e f long (λ j s t at there.
      let label : t.0 ≡ s.0 = labels j s t at there in
      let page : t.1 ≡ s.1 = same_units t.1 s.1 (λ v. one j v s t at there (cases_eq j i) (cases_eq v u)) in
      λ x. (label x, page x))
    where
      one : (j v : ℕ) (s t : Sector) → slice_get f j ≡ Some s → slice_get e j ≡ Some t → (j ≡ i) ⊎ (j ≢ i) → (v ≡ u) ⊎ (v ≢ u) → unit v t.1 ≡ unit v s.1
      one j v s t at there (inr off) unit_is = others j v s t (inl off) at there
      one j v s t at there (inl on) (inr off) = others j v s t (inr off) at there
      one j v s t at there (inl on) (inl is) =
          subst (λ (w : ℕ). unit w t.1 ≡ unit w s.1) (sym is) (here s t (ap (λ (n : ℕ). slice_get f n) (sym on) ∙ at) (ap (λ (n : ℕ). slice_get e n) (sym on) ∙ there))

  is_before : ((s t : Sector) → slice_get d i ≡ Some s → slice_get e i ≡ Some t → unit u t.1 ≡ unit u s.1) → e ≡ d
  is_before = decide d (sym cut.sectors) (λ j s t at there. (label_at j t there).0 s at) (λ j v s t other at there. (other_unit j v t other there).0 s at)

  is_after : ((s t : Sector) → slice_get (written write d) i ≡ Some s → slice_get e i ≡ Some t → unit u t.1 ≡ unit u s.1) → e ≡ written write d
  is_after = decide (written write d) (apart.sectors ∙ sym cut.sectors) (λ j s t at there. (label_at j t there).1 s at) (λ j v s t other at there. (other_unit j v t other there).1 s at)

  one_unit : (e ≡ d) ⊎ (e ≡ written write d)
  one_unit = either (slice_get e i) refl
    where
      either : (o : Option Sector) → slice_get e i ≡ o → (e ≡ d) ⊎ (e ≡ written write d)
      either None f = inl (is_before (λ s t at there. absurd (none-some t (sym f ∙ there))))
      either (Some t) f = elim (which (λ now. (s : Sector) × (slice_get now i ≡ Some s) × (unit u s.1 ≡ unit u t.1)) (cut.units i u t f)) [
        | inl old ↦ inl (is_before (λ s v at there. ap (λ (w : Sector). unit u w.1) (same_Some v t (sym there ∙ f)) ∙ sym old.2 ∙ ap (λ (w : Sector). unit u w.1) (same_Some old.0 s (sym old.1 ∙ at))))
        | inr new ↦ inr (is_after (λ s v at there. ap (λ (w : Sector). unit u w.1) (same_Some v t (sym there ∙ f)) ∙ sym new.2 ∙ ap (λ (w : Sector). unit u w.1) (same_Some new.0 s (sym new.1 ∙ at))))
      ]

pub one_root : (d : List Sector) (old new : List ℕ) (e : List Sector) → slice_get d 0 ≡ Some (root_label, old) → drop 16 new ≡ drop 16 old → IsCutSince d (kind.Whole 0 root_label new ∷ []) e
    → (e ≡ d) ⊎ (e ≡ written (kind.Whole 0 root_label new) d)
one_root d old new e here rest = one_unit 0 0 d (kind.Whole 0 root_label new) e (record {
  sectors = written_long d (kind.Whole 0 root_label new);
  labels = λ j s t at there. label j s t at there (cases_eq j 0);
  others = λ j v s t at there other. others j v s t at there other (cases_eq j 0);
})
  where
    put : slice_get (slice_set d 0 (root_label, new)) 0 ≡ Some (root_label, new)
    put = get_set_same d 0 (root_label, new) (slice_get_within d 0 (root_label, old) here)

    stays : (j : ℕ) (s t : Sector) → slice_get d j ≡ Some s → slice_get (slice_set d 0 (root_label, new)) j ≡ Some t → j ≢ 0 → t ≡ s
    stays j s t at there off = same_Some t s (sym there ∙ get_set_other d 0 j (root_label, new) off ∙ at)

    both : (j : ℕ) (s t : Sector) → slice_get d j ≡ Some s → slice_get (slice_set d 0 (root_label, new)) j ≡ Some t → j ≡ 0 → (s ≡ (root_label, old)) × (t ≡ (root_label, new))
    both j s t at there on = (
      same_Some s (root_label, old) (sym at ∙ ap (λ (n : ℕ). slice_get d n) on ∙ here),
      same_Some t (root_label, new) (sym there ∙ ap (λ (n : ℕ). slice_get (slice_set d 0 (root_label, new)) n) on ∙ put),
    )

    label : (j : ℕ) (s t : Sector) → slice_get d j ≡ Some s → slice_get (slice_set d 0 (root_label, new)) j ≡ Some t → (j ≡ 0) ⊎ (j ≢ 0) → t.0 ≡ s.0
    label j s t at there (inr off) = ap (λ (v : Sector). v.0) (stays j s t at there off)
    label j s t at there (inl on) = let b = both j s t at there on in ap (λ (v : Sector). v.0) b.1 ∙ sym (ap (λ (v : Sector). v.0) b.0)

    later : (v : ℕ) → v ≢ 0 → unit v new ≡ unit v old
    later zero off = absurd (off refl)
    later (suc v) off =
        let z : 16 + 16 * v ≡ 16 * suc v = omega arith in
        ap (λ (n : ℕ). take 16 (drop n new)) (sym z) ∙ ap (λ (l : List ℕ). take 16 l) (sym (drop-drop (16 * v) 16 new) ∙ ap (λ (l : List ℕ). drop (16 * v) l) rest ∙ drop-drop (16 * v) 16 old)
        ∙ ap (λ (n : ℕ). take 16 (drop n old)) z

    others : (j v : ℕ) (s t : Sector) → slice_get d j ≡ Some s → slice_get (slice_set d 0 (root_label, new)) j ≡ Some t → (j ≢ 0) ⊎ (v ≢ 0) → (j ≡ 0) ⊎ (j ≢ 0) → unit v t.1 ≡ unit v s.1
    others j v s t at there other (inr off) = ap (λ (w : Sector). unit v w.1) (stays j s t at there off)
    others j v s t at there (inl off) (inl on) = absurd (off on)
    others j v s t at there (inr off) (inl on) = let b = both j s t at there on in ap (λ (w : Sector). unit v w.1) b.1 ∙ later v off ∙ sym (ap (λ (w : Sector). unit v w.1) b.0)

pub flag_laws : FlagLaws
flag_laws = record {
  root = root_of_crash_states;
  clear = λ d writes e permitted cut unset none. clear d writes e cut permitted unset none;
  one_unit = λ i u d write e apart cut. one_unit i u d write e apart cut;
  one_root = one_root;
}
