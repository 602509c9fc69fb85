-- What lies beneath a queue that stops at the first syncing that fails.
use Rattle.std.proofs.Common.{◌≡◌, ℕ, ◌+◌, ◌-◌, ◌*◌, ◌^◌, ◌<◌, ◌≤◌, min, Bool, true, false, List, [], ◌∷◌, Option, Some, None, refl, sym, ◌∙◌, ap, subst, arith}
use Rattle.std.specs.Prelude.{option_map, nat_lt, if◌then◌else◌}
use Rattle.labelled_disk.specs.declared.label.Label.{Label}
use Rattle.labelled_disk.specs.declared.label.Wanted.{Wanted}
use Rattle.labelled_disk.specs.Calls.{Rose}
use Rattle.labelled_disk.specs.Sectors.{Sector}
use Rattle.labelled_disk.specs.State.{DiskState, HasLabel}
use Rattle.write_queue.specs.declared.entry.Entry.{Entry}
use Rattle.write_queue.specs.Entries.{laid}
use Rattle.write_queue.specs.Queue.{queued}
use Rattle.write_queue.specs.RunQueue.{IsOf, LiesBeneath, Starts}
use Rattle.write_queue.specs.Stopping.{stopping}
use Rattle.write_queue.specs.View.{View, Tally, new_tally, new_view}
use Rattle.write_queue.proofs.LaidLemmas.{labels-laid, laid-none}

-- an empty queue reveals what stands beneath
revealed_none : (o : Option (List Sector)) → option_map (laid []) o ≡ o
revealed_none None = refl
revealed_none (Some d) = ap (λ (x : List Sector). Some x) (laid-none d)

-- a queue that was made
pub starts_of : (under : DiskState) (room before : ℕ) (v : View) (t : Tally) → before ≡ under.faults → before < 2 ^ 64 → v ≡ new_view under room → t ≡ new_tally under
    → Starts under (stopping t.begun before t.no_sync (queued v.beneath v.waiting t.transfers v.own))
starts_of under room before v t same few is counts =
    subst (λ (w : View). Starts under (stopping t.begun before t.no_sync (queued w.beneath w.waiting t.transfers w.own))) (sym is)
    (subst (λ (u : Tally). Starts under (stopping u.begun before u.no_sync (queued under [] u.transfers 0))) (sym counts) (record {
      sectors = refl;
      contents = revealed_none under.contents;
      transfers = refl;
      faults = by under.faults same few;
      synced = refl;
      lent = ap (λ (f : ℕ). under.transfers ∷ f ∷ under.lent) same;
    }))
  where
    by : (f : ℕ) → before ≡ f → before < 2 ^ 64 → min (f + 0) (2 ^ 64 - 1) ≡ f
    by f is small = omega (arith, is, small)

-- What lies beneath.
module _ (under : DiskState) (es : List Entry) (transfers own begun before failed : ℕ) (changed : Option (ℕ × Wanted × Label)) where
  fault_beneath : (b : Bool) → (changed ≡ None → own ≡ 0) → (b ≡ true → Rose before (queued under es transfers own).faults)
      → changed ≡ None → Rose before (if b then 2 ^ 64 - 1 else (queued under es transfers own).faults) → Rose before under.faults
  fault_beneath true counted why none rose = let zero = counted none in let there = why refl in omega (arith, zero, there)
  fault_beneath false counted why none rose = let zero = counted none in omega (arith, zero, rose)

  labels_beneath : (k : ℕ) (l : Label) → HasLabel (queued under es transfers own) k l → HasLabel under k l
  labels_beneath k l has d revealed =
      sym (labels-laid es d k) ∙ has (laid es d) (ap (λ (o : Option (List Sector)). option_map (laid es) o) revealed)

  unrevealed_beneath : (o : Option (List Sector)) → option_map (laid es) o ≡ None → o ≡ None
  unrevealed_beneath None is = refl
  unrevealed_beneath (Some d) is = absurd (cc is)

  first_of : (x y : ℕ) (xs ys : List ℕ) → x ∷ xs ≡ y ∷ ys → (x ≡ y) × (xs ≡ ys)
  first_of x y xs ys e = (cc e, cc e)

  pub lies_beneath : (changed ≡ None → own ≡ 0) → (nat_lt 0 failed ≡ true → Rose before (queued under es transfers own).faults) → failed ≤ 1
      → under.transfers ≤ begun + 2 * transfers + failed
      → ((queued under es transfers own).synced ≡ true → (under.contents ≡ (queued under es transfers own).contents) × (under.synced ≡ true))
      → LiesBeneath (stopping begun before failed (queued under es transfers own)) changed under
  lies_beneath counted why once paid synced = record {
    sectors = refl;
    labels = labels_beneath;
    unrevealed = unrevealed_beneath under.contents;
    synced = synced;
    from = λ b f names same.
        let first = first_of begun b (before ∷ under.lent) (f ∷ names) same in
        let second = first_of before f under.lent names first.1 in
        subst (λ (n : ℕ). IsOf n f names (stopping begun before failed (queued under es transfers own)) changed under) first.0
        (subst (λ (n : ℕ). IsOf begun n names (stopping begun before failed (queued under es transfers own)) changed under) second.0
        (record {
          lent = second.1;
          moved = omega (arith, paid, once);
          fault = fault_beneath (nat_lt 0 failed) counted why;
        }));
  }
