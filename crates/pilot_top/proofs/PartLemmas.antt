-- Writes of a run, part by part.
use Rattle.std.proofs.Common.{◌≡◌, ◌⊎◌, inl, inr, ℕ, ◌+◌, ◌-◌, ◌<◌, ◌≤◌, List, [], ◌++◌, length, Some, refl, sym, ◌∙◌, ap, subst, arith}
use Rattle.std.proofs.lemmas.Bool.{cases_lt}
use Rattle.std.specs.Prelude.{option_map, slice_get}
use Rattle.std.proofs.lemmas.Option.{none-some}
use Rattle.labelled_disk.specs.declared.disk.DiskWrite.{DiskWrite}
use Rattle.labelled_disk.specs.Calls.{RevealsSame}
use Rattle.labelled_disk.specs.CrashState.{crash_state}
use Rattle.labelled_disk.specs.Sectors.{Sector}
use Rattle.labelled_disk.specs.State.{DiskState}
use Rattle.labelled_disk.specs.WriteRuns.{after_writes}
use Rattle.labelled_disk.proofs.WriteRunLemmas.{appended_no_more, appended_none, appended_then, crash_state-earlier, crash_state-later}
use Rattle.pilot_engine.specs.Writing.{Written}
use Rattle.pilot_top.specs.Parts.{InParts}
use Rattle.pilot_top.proofs.PermittedRuns.{get_append}

-- no write
abbrev pub parts_none : (may : ℕ → List Sector → DiskWrite → Type 0) (last : ℕ) {a b : DiskState} → RevealsSame a b → InParts may last a b
parts_none may last same = record {
  writes = [];
  appended = appended_none same;
  part = λ n. 0;
  rise = λ j k le. omega arith;
  by_last = λ k. omega arith;
  each = λ d earlier k w revealed made at. absurd (none-some w at);
}

pub written_none : (may : List Sector → DiskWrite → Type 0) {a b : DiskState} → RevealsSame a b → Written may a b
written_none may same = record { writes = []; appended = appended_none same; each = λ d earlier k w revealed made at. absurd (none-some w at) }

-- and then nothing is written
abbrev pub parts_still : (may : ℕ → List Sector → DiskWrite → Type 0) (last : ℕ) {a b c : DiskState} → InParts may last a b → RevealsSame b c → InParts may last a c
parts_still may last on same = record {
  writes = on.writes;
  appended = appended_no_more on.writes on.appended same;
  part = on.part;
  rise = on.rise;
  by_last = on.by_last;
  each = on.each;
}

-- all in one part
abbrev pub parts_one : (may : ℕ → List Sector → DiskWrite → Type 0) (j : ℕ) {a b : DiskState} → Written (may j) a b → InParts may j a b
parts_one may j wrote = record {
  writes = wrote.writes;
  appended = wrote.appended;
  part = λ n. j;
  rise = λ k l le. omega arith;
  by_last = λ k. omega arith;
  each = wrote.each;
}

-- other words for the same parts, and more of them
abbrev pub parts_wider : (may more : ℕ → List Sector → DiskWrite → Type 0) (last later : ℕ) {a b : DiskState} → last ≤ later → ((j : ℕ) (d : List Sector) (w : DiskWrite) → j ≤ last → may j d w → more j d w) → InParts may last a b → InParts more later a b
parts_wider may more last later le wider on = record {
  writes = on.writes;
  appended = on.appended;
  part = on.part;
  rise = on.rise;
  by_last = λ k. let by = on.by_last k in omega (arith, by, le);
  each = λ d earlier k w revealed made at. wider (on.part k) (crash_state d on.writes k) w (on.by_last k) (on.each d earlier k w revealed made at);
}

-- Some parts and then others.
module _ (may : ℕ → List Sector → DiskWrite → Type 0) (mid last : ℕ) {a b c : DiskState} (one : InParts may mid a b) (two : InParts may last b c) (low : (n : ℕ) → mid ≤ two.part n) where
  abbrev Where : ℕ → Type 0
  Where n = (n < length one.writes) ⊎ (length one.writes ≤ n)

  abbrev part_at : (n : ℕ) → Where n → ℕ
  part_at n (inl early) = one.part n
  part_at n (inr past) = two.part (n - length one.writes)

  pub rises : (j k : ℕ) → j ≤ k → (s : Where j) (t : Where k) → part_at j s ≤ part_at k t
  rises j k le (inl early) (inl less) = one.rise j k le
  rises j k le (inl early) (inr past) = let first = one.by_last j in let next = low (k - length one.writes) in omega (arith, first, next)
  rises j k le (inr past) (inl early) = absurd (omega (arith, le, past, early))
  rises j k le (inr past) (inr more) = two.rise (j - length one.writes) (k - length one.writes) (omega (arith, le))

  pub ends : (n : ℕ) (s : Where n) → part_at n s ≤ last
  ends n (inl early) = let first = one.by_last n in let next = low 0 in let end = two.by_last 0 in omega (arith, first, next, end)
  ends n (inr past) = two.by_last (n - length one.writes)

  pub holds : (d : List Sector) (earlier : List DiskWrite) (n : ℕ) (w : DiskWrite) → a.contents ≡ Some d → a.writes ≡ Some earlier → slice_get (one.writes ++ two.writes) n ≡ Some w
      → (s : Where n) → may (part_at n s) (crash_state d (one.writes ++ two.writes) n) w
  holds d earlier n w revealed made at (inl early) = elim (get_append one.writes two.writes n w at) [
    | inl (below, here) ↦
        subst (λ (now : List Sector). may (one.part n) now w) (sym (crash_state-earlier d one.writes two.writes n (omega (arith, early)))) (one.each d earlier n w revealed made here)
    | inr (j, past, here) ↦ absurd (omega (arith, past, early))
  ]
  holds d earlier n w revealed made at (inr past) = elim (get_append one.writes two.writes n w at) [
    | inl (below, here) ↦ absurd (omega (arith, past, below))
    | inr (j, is, here) ↦
        let place : n - length one.writes ≡ j = omega (arith, is) in
        let there = two.each (after_writes one.writes d) (earlier ++ one.writes) j w (one.appended.contents ∙ ap (option_map (after_writes one.writes)) revealed)
        (one.appended.revealed ∙ ap (option_map (λ (l : List DiskWrite). l ++ one.writes)) made) here in
        subst (λ (m : ℕ). may (two.part m) (crash_state d (one.writes ++ two.writes) n) w) (sym place)
        (subst (λ (now : List Sector). may (two.part j) now w) (sym (ap (crash_state d (one.writes ++ two.writes)) is ∙ crash_state-later d one.writes two.writes j)) there)
  ]

  abbrev pub parts_then : InParts may last a c
  parts_then = record {
    writes = one.writes ++ two.writes;
    appended = appended_then one.writes two.writes one.appended two.appended;
    part = λ n. part_at n (cases_lt n (length one.writes));
    rise = λ j k le. rises j k le (cases_lt j (length one.writes)) (cases_lt k (length one.writes));
    by_last = λ n. ends n (cases_lt n (length one.writes));
    each = λ d earlier n w revealed made at. holds d earlier n w revealed made at (cases_lt n (length one.writes));
  }

  -- what lies below the parts of both lies below all
  lies_below : (least : ℕ) → ((n : ℕ) → least ≤ one.part n) → ((n : ℕ) → least ≤ two.part n) → (n : ℕ) (s : Where n) → least ≤ part_at n s
  lies_below least first next n (inl early) = first n
  lies_below least first next n (inr past) = next (n - length one.writes)

  pub parts_above : (least : ℕ) → ((n : ℕ) → least ≤ one.part n) → ((n : ℕ) → least ≤ two.part n) → (n : ℕ) → least ≤ parts_then.part n
  parts_above least first next n = lies_below least first next n (cases_lt n (length one.writes))

  -- the parts of the first writes, and of the others
  at_early : (n : ℕ) (w : Where n) → n < length one.writes → part_at n w ≡ one.part n
  at_early n (inl below) is = refl
  at_early n (inr past) is = absurd (omega (arith, past, is))

  at_late : (n k : ℕ) (w : Where k) → k ≡ length one.writes + n → part_at k w ≡ two.part n
  at_late n k (inl below) is = absurd (omega (arith, below, is))
  at_late n k (inr past) is = let place : k - length one.writes ≡ n = omega (arith, is) in ap two.part place

  pub part_early : (n : ℕ) → n < length one.writes → parts_then.part n ≡ one.part n
  part_early n below = at_early n (cases_lt n (length one.writes)) below

  pub part_late : (n : ℕ) → parts_then.part (length one.writes + n) ≡ two.part n
  part_late n = at_late n (length one.writes + n) (cases_lt (length one.writes + n) (length one.writes)) refl
