-- The cuts of writes of which the first and the last stand alone between two syncs.
use Rattle.std.proofs.Common.{◌≡◌, ◌⊎◌, inl, inr, ℕ, zero, suc, ◌+◌, ◌-◌, ◌≤◌, List, [], ◌∷◌, ◌++◌, length, take, refl, sym, ◌∙◌, ap, subst, arith}
use Rattle.std.specs.Prelude.{option_map}
use Rattle.std.proofs.lemmas.Bool.{cases_lt}
use Rattle.std.proofs.lemmas.List.{append_cancel_left, length-take}
use Rattle.std.proofs.lemmas.Option.{same_Some}
use Rattle.labelled_disk.specs.declared.disk.DiskWrite.{DiskWrite}
use Rattle.labelled_disk.specs.CrashState.{crash_state, written}
use Rattle.labelled_disk.specs.Sectors.{Sector}
use Rattle.labelled_disk.specs.State.{DiskState}
use Rattle.cut_words.specs.Barriers.{HasBarriers, BarriersLeaveTwoWindows}
use Rattle.cut_words.specs.Between.{IsCutBetween}
use Rattle.cut_words.specs.Cut.{unit, AtSome, HasLabelAt, HasUnitAt, IsCut}
use Rattle.cut_words.specs.Syncs.{IsLastSync}
use Rattle.cut_words.proofs.LastSyncLemmas.{sync_laws}

-- of writes that are cut off later, the crash states before are the same
crash_state-take : (d : List Sector) (writes : List DiskWrite) (m j : ℕ) → j ≤ m → crash_state d (take m writes) j ≡ crash_state d writes j
crash_state-take d writes m zero low = refl
crash_state-take d writes zero (suc j) low = absurd (omega (arith, low))
crash_state-take d [] (suc m) (suc j) low = refl
crash_state-take d (w ∷ ws) (suc m) (suc j) low = crash_state-take (written w d) ws m j (omega (arith, low))

some_longer : (P : List Sector → Type 0) (d : List Sector) (writes : List DiskWrite) (m s k : ℕ) → k ≤ m → AtSome s k (λ j. P (crash_state d (take m writes) j)) → AtSome s k (λ j. P (crash_state d writes j))
some_longer P d writes m s k few some = (some.0, some.1, some.2, subst P (crash_state-take d writes m some.0 (omega (arith, few, some.2))) some.3)

longer : (d : List Sector) (writes : List DiskWrite) (m s k : ℕ) (e : List Sector) → k ≤ m → IsCut d (take m writes) s k e → IsCut d writes s k e
longer d writes m s k e few cut = record {
  sectors = cut.sectors;
  labels = λ i t here. some_longer (λ now. HasLabelAt now i t.0) d writes m s k few (cut.labels i t here);
  units = λ i u t here. some_longer (λ now. HasUnitAt now i u (unit u t.1)) d writes m s k few (cut.units i u t here);
}

wider_some : (P : ℕ → Type 0) (r s k l : ℕ) → r ≤ s → k ≤ l → AtSome s k P → AtSome r l P
wider_some P r s k l low high some = (some.0, omega (arith, low, some.1), omega (arith, high, some.2), some.3)

-- synced earlier, or written more
pub wider : (d : List Sector) (writes : List DiskWrite) (r s k l : ℕ) (e : List Sector) → r ≤ s → k ≤ l → IsCut d writes s k e → IsCut d writes r l e
wider d writes r s k l e low high cut = record {
  sectors = cut.sectors;
  labels = λ i t here. wider_some (λ j. HasLabelAt (crash_state d writes j) i t.0) r s k l low high (cut.labels i t here);
  units = λ i u t here. wider_some (λ j. HasUnitAt (crash_state d writes j) i u (unit u t.1)) r s k l low high (cut.units i u t here);
}

module _ (writes : List DiskWrite) (made : ℕ) (old new : DiskState) (has : HasBarriers writes made old new) (d e : List Sector) (s k : ℕ) (cut : IsCutBetween old new d s k e) where
  same_writes : take made writes ≡ cut.writes
  same_writes =
      append_cancel_left cut.earlier (take made writes) cut.writes
      (same_Some (cut.earlier ++ take made writes) (cut.earlier ++ cut.writes)
      (sym (has.appended.revealed ∙ ap (option_map (λ (l : List DiskWrite). l ++ take made writes)) cut.wrote_before) ∙ cut.wrote))

  few : k ≤ made
  few = omega (arith, cut.made, ap (λ (l : List DiskWrite). length l) same_writes, length-take made writes)

  whole : IsCut d writes s k e
  whole = longer d writes made s k e few (subst (λ (ws : List DiskWrite). IsCut d ws s k e) (sym same_writes) cut.cut)

  is_last : IsLastSync cut.syncs (length cut.earlier + k) (length cut.earlier + s)
  is_last = ((sync_laws cut.syncs (length cut.earlier + k)).revealed (length cut.earlier + s)).0 cut.last

  since_first : (1 ≤ s) ⊎ (2 ≤ k) → 1 ≤ s
  since_first (inl synced) = synced
  since_first (inr more) =
      let there = has.first (omega (arith, more, few)) cut.earlier cut.syncs cut.wrote_before cut.settled in
      omega (arith, is_last.none_between (length cut.earlier + 1) there (omega (arith, more)))

  windows : 1 ≤ s → IsCut d writes 1 (length writes - 1) e ⊎ IsCut d writes (length writes - 1) (length writes) e
  windows first = elim (cases_lt (length writes - 1) k) [
    | inr low ↦ inl (wider d writes 1 s k (length writes - 1) e first low whole)
    | inl high ↦ (
        let all : made ≡ length writes = omega (arith, high, few, has.few) in
        let there = has.last all cut.earlier cut.syncs cut.wrote_before cut.settled in
        let late : length writes - 1 ≤ s = omega (arith, is_last.none_between (length cut.earlier + (length writes - 1)) there (omega (arith, high))) in
        inr (wider d writes (length writes - 1) s k (length writes) e late (omega (arith, few, has.few)) whole))
  ]

pub two_windows : BarriersLeaveTwoWindows
two_windows writes made old new has d e s k cut from = windows writes made old new has d e s k cut (since_first writes made old new has d e s k cut from)
