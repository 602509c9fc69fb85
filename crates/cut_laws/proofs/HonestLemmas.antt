-- In each cut of a run the clean flag is right.
use Rattle.std.proofs.Common.{◌≡◌, ◌≢◌, ◌⊎◌, inl, inr, true, ℕ, zero, suc, ◌+◌, ◌-◌, ◌<◌, ◌≤◌, List, length, take, drop, Option, Some, None, refl, sym, ◌∙◌, ap, subst, arith, length-take}
use Rattle.std.specs.Prelude.{slice_get, slice_set, Contains}
use Rattle.std.proofs.lemmas.Bool.{cases_eq, cases_lt}
use Rattle.std.proofs.lemmas.List.{length-drop}
use Rattle.std.proofs.lemmas.Option.{none-some, same_Some, slice_get_past, slice_get_within}
use Rattle.labelled_disk.specs.declared.disk.DiskWrite.{DiskWrite}
use Rattle.labelled_disk.specs.declared.disk.DiskWrite.TheVariants as kind
use Rattle.labelled_disk.specs.CrashState.{crash_state, written}
use Rattle.labelled_disk.specs.Root.{IsRoot, page_in, number_at, short_at, serial_of, counter_of}
use Rattle.labelled_disk.specs.Sectors.{Sector}
use Rattle.labelled_disk.proofs.Finds.{get_set_same, get_set_other}
use Rattle.labelled_disk.proofs.WriteLemmas.{same_elements}
use Rattle.volume_root.specs.Sound.{Sound}
use Rattle.label_laws.proofs.MixedLemmas.{crash_state_long}
use Rattle.label_laws.proofs.SoundLemmas.{sound_by_parts, sound_when_closed}
use Rattle.cut_laws.specs.Cut.{unit, AtSome, HasLabelAt, HasUnitAt, IsCut}
use Rattle.cut_laws.specs.CutLaws.{between}
use Rattle.cut_laws.specs.Honest.{ClosesAfterSync, CutsAreHonest, IsCrashStateButRoot, IsHonest, OpensAndCloses, RewritesRoot}
use Rattle.cut_laws.specs.Roots.{flag_of, RootOfCrashStates}
use Rattle.cut_laws.proofs.UnitLemmas.{same_units}
use Rattle.cut_laws.proofs.CrashStateLemmas.{crash_state-step, get_some}
use Rattle.cut_laws.proofs.CutLemmas.{settled, window_laws}
use Rattle.cut_laws.proofs.RootLemmas.{flag_laws}

module _ (d : List Sector) (writes : List DiskWrite) (s k : ℕ) (e : List Sector) (cut : IsCut d writes s k e) where
  -- a sector that is the same in each crash state of the window is so in the cut
  at_same : (x : List Sector) (i : ℕ) → length x ≡ length d → ((j : ℕ) → s ≤ j → j ≤ k → slice_get (crash_state d writes j) i ≡ slice_get x i)
      → slice_get e i ≡ slice_get x i
  at_same x i long same = either (cases_lt i (length e))
    where
      either : (i < length e) ⊎ (length e ≤ i) → slice_get e i ≡ slice_get x i
      either (inr high) = slice_get_past e i high ∙ sym (slice_get_past x i (omega (arith, high, cut.sectors, long)))
      either (inl low) =
          let t = get_some e i low in
          let u = get_some x i (omega (arith, low, cut.sectors, long)) in
          let here = cut.labels i t.0 t.1 in
          let label : u.0.0 ≡ t.0.0 = ap (λ (v : Sector). v.0) (same_Some u.0 here.3.0 (sym u.1 ∙ sym (same here.0 here.1 here.2) ∙ here.3.1)) ∙ here.3.2 in
          let page : u.0.1 ≡ t.0.1 = same_units u.0.1 t.0.1 (λ n. one n t.0 u.0 t.1 u.1) in
          let both : u.0 ≡ t.0 = λ x. (label x, page x) in
          t.1 ∙ ap (λ (v : Sector). Some v) (sym both) ∙ sym u.1
        where
          one : (n : ℕ) (t u : Sector) → slice_get e i ≡ Some t → slice_get x i ≡ Some u → unit n u.1 ≡ unit n t.1
          one n t u there at =
              let here = cut.units i n t there in
              ap (λ (v : Sector). unit n v.1) (same_Some u here.3.0 (sym at ∙ sym (same here.0 here.1 here.2) ∙ here.3.1)) ∙ here.3.2

  -- so where all others are, the cut is that disk with another sector 0
  but_first : (x : List Sector) (t : Sector) → length x ≡ length d → 0 < length x → slice_get e 0 ≡ Some t
      → ((i j : ℕ) → i ≢ 0 → s ≤ j → j ≤ k → slice_get (crash_state d writes j) i ≡ slice_get x i) → slice_set x 0 t ≡ e
  but_first x t long some here same = same_elements true 0 0 (slice_set x 0 t) e (λ i. at i (cases_eq i 0))
    where
      at : (i : ℕ) → (i ≡ 0) ⊎ (i ≢ 0) → slice_get (slice_set x 0 t) i ≡ slice_get e i
      at i (inl first) = subst (λ (n : ℕ). slice_get (slice_set x 0 t) n ≡ slice_get e n) (sym first) (get_set_same x 0 t some ∙ sym here)
      at i (inr other) = get_set_other x 0 i t other ∙ sym (at_same x i long (λ j low high. same i j other low high))

  module _ (ordered : s ≤ k) (few : k ≤ length writes) where
    long_window : length (between s k writes) ≡ k - s
    long_window = let rest = length-drop s (take k writes) in let taken = length-take k writes in omega (arith, rest, taken, few)

    -- the root of the cut
    root : RootOfCrashStates (crash_state d writes s) (between s k writes) e
    root = flag_laws.root (crash_state d writes s) (between s k writes) e (window_laws.cut d writes s k e ordered cut)

    state_at : (j : ℕ) → j ≤ length (between s k writes) → crash_state (crash_state d writes s) (between s k writes) j ≡ crash_state d writes (s + j)
    state_at j below = window_laws.crash_states d writes s k j (omega (arith, below, long_window, ordered))

    valid_root : ((j : ℕ) → IsRoot (length d) (slice_get (crash_state d writes j) 0)) → IsRoot (length d) (slice_get e 0)
    valid_root valid =
        subst (λ (n : ℕ). IsRoot n (slice_get e 0)) (crash_state_long d writes s)
        (root.valid (λ j below. subst (λ (n : ℕ). IsRoot n (slice_get (crash_state (crash_state d writes s) (between s k writes) j) 0)) (sym (crash_state_long d writes s))
        (subst (λ (x : List Sector). IsRoot (length d) (slice_get x 0)) (sym (state_at j below)) (valid (s + j)))))

    -- serial and counter are those of one crash state, and the flag is that of one
    numbers : AtSome s k (λ j. (serial_of e ≡ serial_of (crash_state d writes j)) × (counter_of e ≡ counter_of (crash_state d writes j)))
    numbers =
        let n = root.numbers in
        (s + n.0, omega arith, omega (arith, n.2, long_window, ordered), (n.3.0 ∙ ap serial_of (state_at n.0 n.2), n.3.1 ∙ ap counter_of (state_at n.0 n.2)))

    flag_there : AtSome s k (λ j. flag_of e ≡ flag_of (crash_state d writes j))
    flag_there = let f = root.flag in (s + f.0, omega arith, omega (arith, f.2, long_window, ordered), f.3 ∙ ap flag_of (state_at f.0 f.2))

    -- a root is written over another with the same counter
    module _ (right : (j : ℕ) → IsRoot (length d) (slice_get (crash_state d writes j) 0)) (serials : (j : ℕ) → serial_of (crash_state d writes j) ≡ serial_of d)
        (one : k ≡ suc s) (turn : RewritesRoot d writes s) where
      others : (x : ℕ) → s ≤ x → x ≤ k → (i j : ℕ) → i ≢ 0 → s ≤ j → j ≤ k → slice_get (crash_state d writes j) i ≡ slice_get (crash_state d writes x) i
      others x low high i j other from to = first j from to ∙ sym (first x low high)
        where
          step : crash_state d writes (suc s) ≡ written (kind.Whole 0 turn.label turn.page) (crash_state d writes s)
          step = crash_state-step d writes s (kind.Whole 0 turn.label turn.page) turn.here

          first : (j : ℕ) → s ≤ j → j ≤ k → slice_get (crash_state d writes j) i ≡ slice_get (crash_state d writes s) i
          first j from to = elim (cases_eq j s) [
            | inl is ↦ ap (λ (n : ℕ). slice_get (crash_state d writes n) i) is
            | inr isnt ↦
                let is : j ≡ suc s = omega (arith, from, to, one, isnt) in
                ap (λ (n : ℕ). slice_get (crash_state d writes n) i) is ∙ ap (λ (x : List Sector). slice_get x i) step ∙ get_set_other (crash_state d writes s) 0 i (turn.label, turn.page) other
          ]

      counters : (j : ℕ) → s ≤ j → j ≤ k → counter_of (crash_state d writes j) ≡ counter_of (crash_state d writes s)
      counters j from to = elim (cases_eq j s) [
        | inl is ↦ ap (λ (n : ℕ). counter_of (crash_state d writes n)) is
        | inr isnt ↦ let is : j ≡ suc s = omega (arith, from, to, one, isnt) in ap (λ (n : ℕ). counter_of (crash_state d writes n)) is ∙ turn.same_counter
      ]

      -- where one of the two is sound and closed, so is the cut that is closed
      turned_sound : (x : ℕ) → s ≤ x → x ≤ k → Sound (crash_state d writes x) → flag_of e ≡ 1 → Sound e
      turned_sound x low high sound flag = either (slice_get e 0) refl
        where
          now : List Sector
          now = crash_state d writes x

          long : length now ≡ length d
          long = crash_state_long d writes x

          some : 0 < length d
          some = let many = (right 0).accepted.0 in omega (arith, many)

          either : (o : Option Sector) → slice_get e 0 ≡ o → Sound e
          either None none = absurd (none-some (get_some e 0 (omega (arith, some, cut.sectors))).0 (sym none ∙ (get_some e 0 (omega (arith, some, cut.sectors))).1))
          either (Some t) here =
              let page : page_in (slice_get e 0) ≡ t.1 = ap page_in here in
              let is : IsRoot (length d) (Some t) = subst (λ (o : Option Sector). IsRoot (length d) o) here (valid_root right) in
              let n = numbers in
              let serial : serial_of e ≡ serial_of now = n.3.0 ∙ serials n.0 ∙ sym (serials x) in
              let counter : counter_of e ≡ counter_of now = n.3.1 ∙ counters n.0 n.1 n.2 ∙ sym (counters x low high) in
              let own_counter : counter_of now ≡ number_at t.1 20 = sym counter ∙ ap (λ (p : List ℕ). number_at p 20) page in
              let laws = sound_when_closed now ((sound_by_parts now).0 sound).0 in
              subst Sound (but_first now t long (omega (arith, long, some)) here (others x low high))
              (laws.by_sector t (subst (λ (m : ℕ). IsRoot m (Some t)) (sym long) is) (sym (ap (λ (p : List ℕ). number_at p 16) page) ∙ serial)
              (omega (arith, own_counter)) (sym (ap (λ (p : List ℕ). short_at p 10) page) ∙ flag))

      turned_same : (x : ℕ) → s ≤ x → x ≤ k → (i : ℕ) → i ≢ 0 → slice_get e i ≡ slice_get (crash_state d writes x) i
      turned_same x low high i other = at_same (crash_state d writes x) i (crash_state_long d writes x) (λ j from to. others x low high i j other from to)

pub cuts_are_honest : CutsAreHonest
cuts_are_honest d made writes syncs run k s e few since cut = record {
  valid = valid_root d writes s k e cut ordered few run.valid;
  same_serial = let n = numbers d writes s k e cut ordered few in n.3.0 ∙ run.same_serial n.0;
  honest = λ flag. let f = flag_there d writes s k e cut ordered few in by_state flag f.0 f.1 f.2 (sym f.3 ∙ flag) (cases_eq f.0 0) (cases_eq s k);
}
  where
    ordered : s ≤ k
    ordered = let by = since.by_then in omega (arith, by)

    -- no sync lies between
    after : (n : ℕ) → Contains syncs (made + n) → n < k → n ≤ s
    after n has below = elim (cases_lt s n) [
      | inl past ↦ absurd (let none = since.none_between (made + n) has (omega (arith, past)) in omega (arith, none, below))
      | inr low ↦ low
    ]

    same_state : (j : ℕ) → s ≡ k → flag_of e ≡ 1 → Sound e × IsCrashStateButRoot d writes e
    same_state j is flag =
        let whole : e ≡ crash_state d writes k = settled d writes k e (subst (λ (n : ℕ). IsCut d writes n k e) is cut) in
        (subst Sound (sym whole) (run.honest k (sym (ap flag_of whole) ∙ flag)), (k, few, λ i other. ap (λ (x : List Sector). slice_get x i) whole))

    -- a root was written over another, and the flag is that of one of the two crash states
    turned : k ≡ suc s → RewritesRoot d writes s → (i : ℕ) → s ≤ i → i ≤ k → flag_of (crash_state d writes i) ≡ 1 → flag_of e ≡ 1
        → Sound e × IsCrashStateButRoot d writes e
    turned one turn i low high is flag = (
      turned_sound d writes s k e cut ordered few run.valid run.same_serial one turn i low high (run.honest i is) flag,
      (i, omega (arith, high, few), λ n other. turned_same d writes s k e cut ordered few run.valid run.same_serial one turn i low high n other),
    )

    -- the flag is that of crash state i
    by_state : flag_of e ≡ 1 → (i : ℕ) → s ≤ i → i ≤ k → flag_of (crash_state d writes i) ≡ 1 → (i ≡ 0) ⊎ (i ≢ 0) → (s ≡ k) ⊎ (s ≢ k) → Sound e × IsCrashStateButRoot d writes e
    by_state flag i low high is which (inl same) = same_state i same flag
    by_state flag i low high is (inl first) (inr other) =
        let none : s ≡ 0 = omega (arith, low, first) in
        let one : k ≡ suc s = elim run.synced [
          | inl only ↦ omega (arith, none, only, few, other, ordered)
          | inr synced ↦ elim (cases_lt 1 k) [ inl more ↦ absurd (let z = after 1 synced more in omega (arith, z, none)) | inr few ↦ omega (arith, none, few, other, ordered) ]
        ] in
        turned one (subst (RewritesRoot d writes) (sym none) (run.opens (omega (arith, few, one)))) i low high is flag
    by_state flag i low high is (inr later) (inr other) = at_end (cases_lt i (length writes))
      where
        closed : (c : ClosesAfterSync d made writes syncs) → i ≡ length writes → Sound e × IsCrashStateButRoot d writes e
        closed c end =
            let at : k ≡ suc c.earlier = omega (arith, high, few, end, c.last) in
            let back = after c.earlier c.synced (omega (arith, at)) in
            let from : s ≡ c.earlier = omega (arith, back, at, ordered, other) in
            turned (omega (arith, at, from)) (subst (RewritesRoot d writes) (sym from) c.turn) i low high is flag

        clear : flag_of (crash_state d writes i) ≡ 0 → Sound e × IsCrashStateButRoot d writes e
        clear none = absurd (omega (arith, none, is))

        at_end : (i < length writes) ⊎ (length writes ≤ i) → Sound e × IsCrashStateButRoot d writes e
        at_end (inl below) = clear (run.open_flag i (omega (arith, later)) below)
        at_end (inr past) =
            let end : i ≡ length writes = omega (arith, past, high, few) in
            elim run.closes [
              | inl opens ↦ clear (ap (λ (n : ℕ). flag_of (crash_state d writes n)) end ∙ opens (omega (arith, end, later)))
              | inr c ↦ closed c end
            ]
