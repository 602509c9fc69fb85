-- Sectors that are a file's or free in each crash state.
use Rattle.std.proofs.Common.{◌≡◌, ◌⊎◌, inl, inr, ℕ, suc, ◌<◌, ◌≤◌, Bool, true, List, [], length, Some, sym, ◌∙◌, ap, subst, arith, eqb}
use Rattle.std.specs.Prelude.{slice_get}
use Rattle.std.proofs.lemmas.Bool.{true≢false, eqb-true, and_parts}
use Rattle.std.proofs.lemmas.Option.{same_Some}
use Rattle.labelled_disk.specs.declared.label.Label.{Label}
use Rattle.labelled_disk.specs.declared.disk.DiskWrite.{DiskWrite}
use Rattle.labelled_disk.specs.Label.{is_file, is_free}
use Rattle.labelled_disk.specs.Layout.{first_data}
use Rattle.labelled_disk.specs.CrashState.{crash_state}
use Rattle.labelled_disk.specs.Runs.{zero_bytes}
use Rattle.labelled_disk.specs.Sectors.{Sector}
use Rattle.labelled_disk.proofs.SectorWrites as w
use Rattle.label_laws.specs.PermittedRuns.{ArePermitted}
use Rattle.label_laws.specs.Mixed.{gives_label}
use Rattle.label_laws.proofs.FileLemmas.{free_none}
use Rattle.cut_laws.specs.Cut.{unit, AtSome}
use Rattle.cut_laws.specs.OwnBytes.{IsOwnOrFree, OwnBytes, OwnBytesBy, StoodThere, of_file, of_page}
use Rattle.cut_laws.specs.Windows.{FreeIsUnwritten}
use Rattle.cut_laws.proofs.TurnLemmas.{Turn, stays, bytes, fresh, freed, marked, turns, id_of_page}

wider : (P : ℕ → Type 0) (k l : ℕ) → k ≤ l → AtSome 0 k P → AtSome 0 l P
wider P k l few some = (some.0, some.1, omega (arith, few, some.2), some.3)

module _ (test : Label → Bool) (files : (l : Label) → test l ≡ true → is_file l ≡ true) where
  -- what passes is not free
  not_free : (l : Label) → test l ≡ true → is_free l ≡ true → ⊥
  not_free l passes free = true≢false (sym (files l passes) ∙ free_none l free)

  module _ (d : List Sector) (writes : List DiskWrite) (permitted : ArePermitted d writes) (unwritten : FreeIsUnwritten d writes) (i : ℕ) (low : first_data (length d) ≤ i) (own : IsOwnOrFree test d writes i) where
    -- the sector passed in some crash state up to k, with this page
    abbrev Passed : ℕ → List ℕ → Type 0
    Passed k page = AtSome 0 k (λ j. (s : Sector) × (slice_get (crash_state d writes j) i ≡ Some s) × (test s.0 ≡ true) × (s.1 ≡ page))

    more : (k : ℕ) (page : List ℕ) → Passed k page → Passed (suc k) page
    more k page some = wider (λ j. (s : Sector) × (slice_get (crash_state d writes j) i ≡ Some s) × (test s.0 ≡ true) × (s.1 ≡ page)) k (suc k) (omega arith) some

    -- a sector that was free at first, and passes, had zeros when it was taken
    taken_with_zeros : ((s : Sector) → slice_get d i ≡ Some s → is_free s.0 ≡ true) → (k : ℕ) → k ≤ length writes → (s : Sector) → slice_get (crash_state d writes k) i ≡ Some s → test s.0 ≡ true → Passed k zero_bytes
    taken_with_zeros free =
        turns (λ k t. test t.0 ≡ true → Passed k zero_bytes) d writes i permitted low (λ s here passes. absurd (not_free s.0 passes (free s here)))
        (λ k write s t few is now then turn before passes. either k write s t then passes before (own.own_or_free k s (omega (arith, few)) now) turn)
      where
        either : (k : ℕ) (write : DiskWrite) (s t : Sector) → slice_get (crash_state d writes (suc k)) i ≡ Some t → test t.0 ≡ true → (test s.0 ≡ true → Passed k zero_bytes)
            → (test s.0 ≡ true) ⊎ (is_free s.0 ≡ true) → Turn write i s t → Passed (suc k) zero_bytes
        either k write s t then passes before (inl mine) turn = more k zero_bytes (before mine)
        either k write s t then passes before (inr free) (stays e) = absurd (not_free t.0 passes (ap (λ (v : Sector). is_free v.0) e ∙ free))
        either k write s t then passes before (inr free) (bytes wanted is named label) = absurd (not_free t.0 passes (ap is_free label ∙ free))
        either k write s t then passes before (inr free) (fresh is old new page) = (suc k, omega arith, omega arith, (t, then, passes, page))
        either k write s t then passes before (inr free) (freed is new) = absurd (not_free t.0 passes (ap (λ (v : Sector). is_free v.0) new))
        either k write s t then passes before (inr free) (marked is same old new page) = absurd (not_free t.0 passes (ap (λ (n : ℕ). eqb n 0) same ∙ free))

    -- in each crash state the sector passes, or has a page that it had when it passed, or the zeros with which it was free at first
    abbrev HasOwn : ℕ → Sector → Type 0
    HasOwn k t = (test t.0 ≡ true) ⊎ (Passed k t.1 ⊎ ((t.1 ≡ zero_bytes) × ((s : Sector) → slice_get d i ≡ Some s → is_free s.0 ≡ true)))

    has_own : (k : ℕ) → k ≤ length writes → (s : Sector) → slice_get (crash_state d writes k) i ≡ Some s → HasOwn k s
    has_own = turns HasOwn d writes i permitted low start
        (λ k write s t few is now then turn before. step k write s t few is now before (own.own_or_free (suc k) t (omega (arith, few)) then) turn)
      where
        start : (s : Sector) → slice_get d i ≡ Some s → HasOwn 0 s
        start s here = elim (own.own_or_free 0 s (omega arith) here) [
          | inl mine ↦ inl mine
          | inr free ↦ inr (inr (own.zeros s here free, λ t there. ap (λ (v : Sector). is_free v.0) (same_Some t s (sym there ∙ here)) ∙ free))
        ]

        -- the page stays where the sector is given up
        keep : (k : ℕ) (s t : Sector) → slice_get (crash_state d writes k) i ≡ Some s → t.1 ≡ s.1 → HasOwn k s → HasOwn (suc k) t
        keep k s t now page (inl mine) = inr (inl (k, omega arith, omega arith, (s, now, mine, sym page)))
        keep k s t now page (inr (inl some)) = inr (inl (more k t.1 (subst (λ (l : List ℕ). Passed k l) (sym page) some)))
        keep k s t now page (inr (inr zeros)) = inr (inr (page ∙ zeros.0, zeros.1))

        step : (k : ℕ) (write : DiskWrite) (s t : Sector) → k < length writes → slice_get writes k ≡ Some write → slice_get (crash_state d writes k) i ≡ Some s → HasOwn k s
            → (test t.0 ≡ true) ⊎ (is_free t.0 ≡ true) → Turn write i s t → HasOwn (suc k) t
        step k write s t few is now before (inl mine) turn = inl mine
        step k write s t few is now before (inr free) (stays e) = keep k s t now (ap (λ (v : Sector). v.1) e) before
        step k write s t few is now before (inr free) (bytes wanted eq named label) =
            let none : s.0.id ≡ 0 = eqb-true s.0.id 0 (ap is_free (sym label) ∙ free) in
            absurd (unwritten k write is (ap gives_label eq) (id_of_page (crash_state d writes k) write i wanted t.1 s.0 eq named ∙ none))
        step k write s t few is now before (inr free) (fresh eq old new page) = absurd (true≢false (sym free ∙ new))
        step k write s t few is now before (inr free) (freed eq new) = keep k s t now (ap (λ (v : Sector). v.1) new) before
        step k write s t few is now before (inr free) (marked eq same old new page) = keep k s t now page before

  pub own_bytes_by : OwnBytesBy test
  own_bytes_by d writes e permitted cut unwritten each i u t holds passes =
      let low : first_data (length d) ≤ i = subst (λ (n : ℕ). first_data n ≤ i) cut.sectors holds.is_data in
      let label = cut.labels i t holds.here in
      let then : test label.3.0.0 ≡ true = ap test label.3.2 ∙ passes in
      let own : IsOwnOrFree test d writes i = each i label.0 label.3.0 low label.2 label.3.1 then in
      let part = cut.units i u t holds.here in
      stood low own label.0 label.2 label.3.0 label.3.1 then part.0 part.2 part.3.0 part.3.1 part.3.2 (has_own d writes permitted unwritten i low own part.0 part.2 part.3.0 part.3.1)
    where
      stood : (low : first_data (length d) ≤ i) (own : IsOwnOrFree test d writes i) → (k : ℕ) → k ≤ length writes → (v : Sector) → slice_get (crash_state d writes k) i ≡ Some v → test v.0 ≡ true
          → (j : ℕ) → j ≤ length writes → (s : Sector) → slice_get (crash_state d writes j) i ≡ Some s → unit u s.1 ≡ unit u t.1
          → (test s.0 ≡ true) ⊎ (AtSome 0 j (λ j. (v : Sector) × (slice_get (crash_state d writes j) i ≡ Some v) × (test v.0 ≡ true) × (v.1 ≡ s.1))
          ⊎ ((s.1 ≡ zero_bytes) × ((v : Sector) → slice_get d i ≡ Some v → is_free v.0 ≡ true)))
          → AtSome 0 (length writes) (λ j. StoodThere test (crash_state d writes j) i u (unit u t.1))
      stood low own k k_few v v_at v_passes j few s at same (inl mine) = (j, omega arith, few, (s, at, mine, same))
      stood low own k k_few v v_at v_passes j few s at same (inr (inl some)) =
          (some.0, some.1, omega (arith, some.2, few), (some.3.0, some.3.1, some.3.2, ap (unit u) some.3.3 ∙ same))
      stood low own k k_few v v_at v_passes j few s at same (inr (inr zeros)) =
          let some = taken_with_zeros d writes permitted unwritten i low own zeros.1 k k_few v v_at v_passes in
          (some.0, some.1, omega (arith, some.2, k_few), (some.3.0, some.3.1, some.3.2, ap (unit u) (some.3.3 ∙ sym zeros.0) ∙ same))

file_label : (id : ℕ) (l : Label) → of_file id l ≡ true → is_file l ≡ true
file_label id l is = (and_parts (is_file l) (eqb l.id id) is).0

pub own_bytes : (id : ℕ) → OwnBytes id
own_bytes id = record {
  files = own_bytes_by (of_file id) (file_label id);
  pages = λ p. own_bytes_by (of_page id p) (λ l is. file_label id l (w.page_of true id p (l, []) is));
}
