-- Syncs among the crash states of calls in a row.
use Rattle.std.proofs.Common.{◌≡◌, ◌⊎◌, inl, inr, ℕ, zero, suc, ◌+◌, ◌-◌, ◌<◌, ◌≤◌, true, false, cond, Bool, List, [], ◌∷◌, ◌++◌, length, take, Option, Some, sym, ◌∙◌, ap, subst, arith, refl, length-append}
use Rattle.std.specs.Prelude.{Contains, nat_lt, option_map, slice_get}
use Rattle.std.proofs.lemmas.Bool.{cases_lt}
use Rattle.std.proofs.lemmas.Bool.Decides.{nat_tests}
use Rattle.std.proofs.lemmas.List.{take_all}
use Rattle.std.proofs.lemmas.Option.{get_or_from_slice_get, slice_get_within}
use Rattle.labelled_disk.specs.declared.disk.DiskWrite.{DiskWrite}
use Rattle.labelled_disk.specs.CrashState.{crash_state}
use Rattle.labelled_disk.specs.Sectors.{Sector}
use Rattle.labelled_disk.specs.State.{DiskState}
use Rattle.labelled_disk.specs.Syncing.{RevealsSyncs}
use Rattle.labelled_disk.specs.WriteRuns.{Appended, after_writes}
use Rattle.label_calls.specs.OwnLaws.{revealed_after}
use Rattle.label_calls.specs.SyncedLaws.{kept_at}
use Rattle.swapper_kernel.specs.Goes.{KeepsSyncs}
use Rattle.volume_pair.specs.CrashStates.{CrashStatesOf, IsSyncedNow, SyncedAt, SyncedStatesOf}
use Rattle.volume_pair.proofs.CrashStateLemmas.{joined, joined_early, joined_late}

-- ---- One sync.

-- as the law of disks says of one that is synced
pub synced_now : (disk : DiskState) → RevealsSyncs disk.writes disk.syncs disk.synced → disk.synced ≡ true → IsSyncedNow disk
synced_now disk law synced writes syncs wrote had =
    let last = (law.are writes syncs wrote had).last synced in
    let place : ℕ = length syncs - 1 in
    (place, slice_get_within syncs place (length writes) last, get_or_from_slice_get syncs place (length writes) (length writes) last)

module _ (a b c : DiskState) (n : ℕ) (first : KeepsSyncs a b) (later : KeepsSyncs b c) where
  -- a sync of the first call is there after the second
  pub sync_kept : SyncedAt n a b → SyncedAt n a c
  sync_kept at earlier before syncs wrote had now =
      let between = first before had in
      kept_at b c (length earlier + n) between.0 syncs later between.1 now (at earlier before between.0 wrote had between.1)

  -- and one of the second call is there
  pub sync_after : (ws : List DiskWrite) → Appended ws a b → SyncedAt n b c → SyncedAt (length ws + n) a c
  sync_after ws appended at earlier before syncs wrote had now =
      let between = first before had in
      let is = at (earlier ++ ws) between.0 syncs (revealed_after ws earlier appended wrote) between.1 now in
      let long = length-append earlier ws in
      let place : length (earlier ++ ws) + n ≡ length earlier + (length ws + n) = omega (arith, long) in
      subst (Contains syncs) place is

-- the last one of the second call is there
pub sync_last : {b c : DiskState} (ws : List DiskWrite) → Appended ws b c → IsSyncedNow c → SyncedAt (length ws) b c
sync_last ws appended now earlier before syncs wrote had later =
    let is = now (earlier ++ ws) syncs (revealed_after ws earlier appended wrote) later in
    subst (Contains syncs) (length-append earlier ws) is

-- ---- Calls in a row.

-- no step comes after these
pub synced_then_quiet : {P Q R : ℕ → List Sector → Type 0} {numbers : ℕ → Type 0} {most : ℕ} {a b c : DiskState} → KeepsSyncs a b → KeepsSyncs b c → SyncedStatesOf P most numbers a b → CrashStatesOf Q 0 b c → ((i : ℕ) (e : List Sector) → P i e → R i e) → ((i : ℕ) (e : List Sector) → Q i e → R most e)
    → SyncedStatesOf R most numbers a c
synced_then_quiet {R = R} {most = most} {a = a} {b = b} {c = c} kept kept_too first later early late = record {
  states = joined R first.states later most (λ k. k) (λ k. most) (λ j k le. le) (λ j k le. omega arith) (λ j k few. few) (λ k few. few) (λ k few. omega arith) early late;
  synced = λ j is.
      let s = first.synced j is in
      let steps = joined_early R first.states later most (λ k. k) (λ k. most) (λ j k le. le) (λ j k le. omega arith) (λ j k few. few) (λ k few. few) (λ k few. omega arith) early late s.0 s.1 in
      let low = s.1 in
      let more = s.2 in
      let long = length-append first.states.writes later.writes in
      (s.0, omega (arith, low, long), omega (arith, more, steps), sync_kept a b c s.0 kept kept_too s.3);
}

-- none comes before them
pub synced_after_quiet : {P Q R : ℕ → List Sector → Type 0} {numbers : ℕ → Type 0} {most : ℕ} {a b c : DiskState} → KeepsSyncs a b → KeepsSyncs b c → CrashStatesOf P 0 a b → SyncedStatesOf Q most numbers b c → ((i : ℕ) (e : List Sector) → P i e → R 0 e) → ((i : ℕ) (e : List Sector) → Q i e → R i e)
    → SyncedStatesOf R most numbers a c
synced_after_quiet {R = R} {most = most} {a = a} {b = b} {c = c} kept kept_too first later early late = record {
  states = joined R first later.states most (λ k. 0) (λ k. k) (λ j k le. omega arith) (λ j k le. le) (λ j k few. omega arith) (λ k few. omega arith) (λ k few. few) early late;
  synced = λ j is.
      let s = later.synced j is in
      let steps = joined_late R first later.states most (λ k. 0) (λ k. k) (λ j k le. omega arith) (λ j k le. le) (λ j k few. omega arith) (λ k few. omega arith) (λ k few. few) early late s.0 in
      let low = s.1 in
      let more = s.2 in
      let long = length-append first.writes later.states.writes in
      (length first.writes + s.0, omega (arith, low, long), omega (arith, more, steps), sync_after a b c s.0 kept kept_too first.writes first.appended s.3);
}

-- One call more, whose steps come after those. It may be one of the numbers, the next one: then the disk is synced, and its last step is
-- made.
pub synced_more : {P Q R : ℕ → List Sector → Type 0} {numbers more : ℕ → Type 0} {m : ℕ} {a b c : DiskState} → KeepsSyncs a b → KeepsSyncs b c → SyncedStatesOf P m numbers a b → (later : CrashStatesOf Q 1 b c)
    → ((j : ℕ) → more j → numbers j ⊎ ((j ≡ m) × IsSyncedNow c × (later.steps (length later.writes) ≡ 1))) → ((i : ℕ) (e : List Sector) → P i e → R i e) → ((i : ℕ) (e : List Sector) → Q i e → R (m + i) e) → SyncedStatesOf R (m + 1) more a c
synced_more {P = P} {R = R} {more = more} {m = m} {a = a} {b = b} {c = c} kept kept_too first later last early late = record {
  states = joined R first.states later (m + 1) (λ k. k) (λ k. m + k) (λ j k le. le) (λ j k le. omega (arith, le)) (λ j k few. omega (arith, few)) (λ k few. omega (arith, few)) (λ k few. omega (arith, few)) early late;
  synced = λ j is. elim (last j is) [
    | inl before ↦
        let s = first.synced j before in
        let steps = joined_early R first.states later (m + 1) (λ k. k) (λ k. m + k) (λ j k le. le) (λ j k le. omega (arith, le)) (λ j k few. omega (arith, few)) (λ k few. omega (arith, few)) (λ k few. omega (arith, few)) early late s.0 s.1 in
        let low = s.1 in
        let past = s.2 in
        let long = length-append first.states.writes later.writes in
        (s.0, omega (arith, low, long), omega (arith, past, steps), sync_kept a b c s.0 kept kept_too s.3)
    | inr (same, now, all) ↦
        let n = length later.writes in
        let steps = joined_late R first.states later (m + 1) (λ k. k) (λ k. m + k) (λ j k le. le) (λ j k le. omega (arith, le)) (λ j k few. omega (arith, few)) (λ k few. omega (arith, few)) (λ k few. omega (arith, few)) early late n in
        let long = length-append first.states.writes later.writes in
        (length first.states.writes + n, omega (arith, long), omega (arith, same, all, steps), sync_after a b c n kept kept_too first.states.writes first.states.appended (sync_last later.writes later.appended now))
  ];
}

-- ---- A call whose last step is made.

pub crash_state-past : (d : List Sector) (ws : List DiskWrite) (k : ℕ) → length ws ≤ k → crash_state d ws k ≡ after_writes ws d
crash_state-past d ws k past = ap (λ (l : List DiskWrite). after_writes l d) (take_all k ws past)

-- where the disk ends with the step, it is made with the last write
module _ {P : ℕ → List Sector → Type 0} {b c : DiskState} (h : CrashStatesOf P 1 b c) (final : (e : List Sector) → c.contents ≡ Some e → P 1 e) where
  abbrev made : ℕ → ℕ
  made k = cond (nat_lt k (length h.writes)) (h.steps k) 1

  pub made_low : (k : ℕ) → k < length h.writes → made k ≡ h.steps k
  made_low k low = let a : nat_lt k (length h.writes) ≡ true = grind (arith, nat_tests) in ap (λ (t : Bool). cond t (h.steps k) 1) a

  pub made_high : (k : ℕ) → length h.writes ≤ k → made k ≡ 1
  made_high k high = let a : nat_lt k (length h.writes) ≡ false = grind (arith, nat_tests) in ap (λ (t : Bool). cond t (h.steps k) 1) a

  pub rises : (j k : ℕ) → j ≤ k → made j ≤ made k
  rises j k le = elim (cases_lt k (length h.writes)) [
    | inl low ↦ let more = h.rise j k le in let at = made_low j (omega (arith, low, le)) in let to = made_low k low in omega (arith, more, at, to)
    | inr past ↦ let few = within j in let to = made_high k past in omega (arith, few, to)
  ]
    where
      within : (j : ℕ) → made j ≤ 1
      within j = elim (cases_lt j (length h.writes)) [ inl low ↦ let at = made_low j low in let few = h.within j in omega (arith, at, few) | inr past ↦ let at = made_high j past in omega (arith, at) ]

  abbrev pub ended_states : CrashStatesOf P 1 b c
  ended_states = record {
    writes = h.writes;
    appended = h.appended;
    steps = made;
    rise = rises;
    within = λ k. elim (cases_lt k (length h.writes)) [ inl low ↦ let at = made_low k low in let few = h.within k in omega (arith, at, few) | inr past ↦ let at = made_high k past in omega (arith, at) ];
    each = λ d k revealed. elim (cases_lt k (length h.writes)) [
      | inl low ↦ subst (λ (i : ℕ). P i (crash_state d h.writes k)) (sym (made_low k low)) (h.each d k revealed)
      | inr past ↦ subst (λ (i : ℕ). P i (crash_state d h.writes k)) (sym (made_high k past))
          (subst (P 1) (sym (crash_state-past d h.writes k past)) (final (after_writes h.writes d) (h.appended.contents ∙ ap (option_map (after_writes h.writes)) revealed)))
    ];
  }

  pub ended_step : made (length h.writes) ≡ 1
  ended_step = made_high (length h.writes) (omega arith)
