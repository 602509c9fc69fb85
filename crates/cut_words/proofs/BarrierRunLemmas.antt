-- Three rows of writes with a sync after each, and a stop in each.
use Rattle.std.proofs.Common.{◌≡◌, ℕ, ◌+◌, ◌-◌, ◌≤◌, List, ◌++◌, length, length-append, take, sym, ◌∙◌, ap, subst, arith}
use Rattle.std.proofs.lemmas.List.{take_all, take-append-le}
use Rattle.std.proofs.Math.Seq.{take-append-add}
use Rattle.labelled_disk.specs.declared.disk.DiskWrite.{DiskWrite}
use Rattle.labelled_disk.specs.State.{DiskState}
use Rattle.labelled_disk.specs.WriteRuns.{Appended}
use Rattle.cut_words.specs.Barriers.{HasBarriers}
use Rattle.cut_words.specs.Between.{SyncedAfter}

module _ (first middle last : List DiskWrite) (one : length first ≡ 1) (end : length last ≡ 1) where
  abbrev pub row : List DiskWrite
  row = first ++ (middle ++ last)

  long : length row ≡ 2 + length middle
  long = omega (arith, length-append first (middle ++ last), length-append middle last, one, end)

  pub stopped_first : (k : ℕ) (a b : DiskState) → k ≤ length first → Appended (take k first) a b → HasBarriers row k a b
  stopped_first k a b few made = record {
    few = omega (arith, few, one, long);
    appended = subst (λ (ws : List DiskWrite). Appended ws a b) (sym (take-append-le k first (middle ++ last) few)) made;
    first = λ more. absurd (omega (arith, more, few, one));
    last = λ all. absurd (omega (arith, all, few, one, long));
  }

  pub stopped_middle : (k : ℕ) (a b : DiskState) → k ≤ length middle → Appended (first ++ take k middle) a b → SyncedAfter 1 a b → HasBarriers row (length first + k) a b
  stopped_middle k a b few made synced = record {
    few = omega (arith, few, one, long);
    appended = subst (λ (ws : List DiskWrite). Appended ws a b)
        (sym (take-append-add first (middle ++ last) k ∙ ap (λ (ws : List DiskWrite). first ++ ws) (take-append-le k middle last few))) made;
    first = λ more. synced;
    last = λ all. absurd (omega (arith, all, few, one, long));
  }

  pub stopped_last : (k : ℕ) (a b : DiskState) → k ≤ length last → Appended (first ++ (middle ++ take k last)) a b → SyncedAfter 1 a b → SyncedAfter (length first + length middle) a b
      → HasBarriers row (length first + (length middle + k)) a b
  stopped_last k a b few made synced ready =
      let before : length first + length middle ≡ length row - 1 = omega (arith, one, long) in
      record {
        few = omega (arith, few, one, end, long);
        appended = subst (λ (ws : List DiskWrite). Appended ws a b)
            (sym (take-append-add first (middle ++ last) (length middle + k) ∙ ap (λ (ws : List DiskWrite). first ++ ws) (take-append-add middle last k))) made;
        first = λ more. synced;
        last = λ all. subst (λ (n : ℕ). SyncedAfter n a b) before ready;
      }

  -- all of them
  pub all_rows : (a b : DiskState) → Appended row a b → SyncedAfter 1 a b → SyncedAfter (length first + length middle) a b → HasBarriers row (length row) a b
  all_rows a b made synced ready =
      let before : length first + length middle ≡ length row - 1 = omega (arith, one, long) in
      record {
        few = omega arith;
        appended = subst (λ (ws : List DiskWrite). Appended ws a b) (sym (take_all (length row) row (omega arith))) made;
        first = λ more. synced;
        last = λ all. subst (λ (n : ℕ). SyncedAfter n a b) before ready;
      }
