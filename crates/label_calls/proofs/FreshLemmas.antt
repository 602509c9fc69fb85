-- Fresh labels in a row, each over a sector that is as it was.
use Rattle.std.proofs.Common.{◌≡◌, ◌⊎◌, inl, inr, ℕ, ◌+◌, ◌≤◌, ◌<◌, List, [], ◌∷◌, ◌++◌, length, Some, refl, sym, ◌∙◌, ap, subst, arith}
use Rattle.std.specs.Prelude.{slice_get, option_map}
use Rattle.std.proofs.lemmas.Bool.{cases_eq}
use Rattle.std.proofs.lemmas.List.{append_cancel_left}
use Rattle.std.proofs.lemmas.List.FromFn.{get_or-map-range_with_len, length-map-range_with_len, take-map-range_with_len}
use Rattle.std.proofs.lemmas.Option.{same_Some, slice_get_within, get_or_from_slice_get}
use Rattle.labelled_disk.specs.declared.label.Label.{Label}
use Rattle.labelled_disk.specs.declared.layout.Layout.{Layout}
use Rattle.labelled_disk.specs.declared.disk.DiskWrite.{DiskWrite}
use Rattle.labelled_disk.specs.declared.disk.DiskWrite.TheVariants as write
use Rattle.labelled_disk.specs.Calls.{RevealsSame, RevealsWrite}
use Rattle.labelled_disk.specs.Runs.{zero_bytes}
use Rattle.labelled_disk.specs.Sectors.{Sector}
use Rattle.labelled_disk.specs.State.{DiskState}
use Rattle.labelled_disk.specs.WriteRuns.{Appended, after_writes}
use Rattle.labelled_disk.proofs.WriteRunLemmas.{appended_no_more, appended_one, appended_then}
use Rattle.frame_pool.specs.Frames.{Slots}
use Rattle.label_calls.specs.Clearing.{IsOverFree, MayBeFresh, WritesFresh}
use Rattle.label_calls.specs.Labels.{HasOne, free_ones}
use Rattle.label_calls.specs.OwnLaws.{revealed_after}
use Rattle.label_calls.proofs.RunLemmas.{IsSoFar, turns, turns_elsewhere, turns_more}
use Rattle.label_calls.proofs.SyncedCalls.{made_between, same_between}

-- the label of a free sector that was read, and what was written then
pub fresh_alone : {a b c : DiskState} (sector : ℕ) (label : Label) → RevealsSame a b → ((d : List Sector) → a.contents ≡ Some d → HasOne free_ones d sector)
    → RevealsSame b c ⊎ RevealsWrite (write.Whole sector label zero_bytes) b c → MayBeFresh sector label a c
fresh_alone sector label same had (inl nothing) = inl (same_between same nothing)
fresh_alone sector label same had (inr made) = inr (made_between same made (record { contents = refl; writes = refl }), had)

module _ (sector : ℕ) (label : ℕ → Label) where
  -- the label of each turn
  abbrev each : ℕ → DiskWrite
  each k = write.Whole (sector + k) (label k) zero_bytes

  -- write k is that of turn k
  turn_is : (n k : ℕ) (w : DiskWrite) → slice_get (turns each n) k ≡ Some w → (k < n) × (w ≡ each k)
  turn_is n k w at =
      let low = slice_get_within (turns each n) k w at in
      let long : length (turns each n) ≡ n = length-map-range_with_len each 0 n in
      let below : k < n = omega (arith, low, long) in
      let start : 0 + k ≡ k = omega arith in
      (below, sym (get_or_from_slice_get (turns each n) k w w at) ∙ get_or-map-range_with_len each 0 n k k w below start)

  -- so many turns
  pub fresh_turns : {old new : DiskState} (pages n : ℕ) → n ≤ pages → Appended (turns each n) old new → ((d : List Sector) → old.contents ≡ Some d → (i : ℕ) → i < n → HasOne free_ones d (sector + i)) → WritesFresh sector pages old new
  fresh_turns pages n few appended found = record {
    fresh = λ d earlier writes revealed was now.
        subst (λ (ws : List DiskWrite). (k : ℕ) (w : DiskWrite) → slice_get ws k ≡ Some w → IsOverFree sector pages d ws k w)
        (append_cancel_left earlier (turns each n) writes (same_Some (earlier ++ turns each n) (earlier ++ writes) (sym (revealed_after (turns each n) earlier appended was) ∙ now)))
        (λ k w at.
        let is = turn_is n k w at in
        let below = is.0 in (
          k,
          label k,
          omega (arith, below, few),
          is.1,
          found d revealed k below,
          λ j to. ap (λ (run : List DiskWrite). slice_get (after_writes run d) (sector + k)) (take-map-range_with_len each 0 n j (omega (arith, below, to)))
              ∙ turns_elsewhere (λ i. sector + i) each (λ i. refl) j d (sector + k) (λ i less same. omega (arith, less, same, to)),
        ));
  }

  -- the turns that are over, and one that may have been made
  pub fresh_stopped : {covered : Type 0} {old mid new : DiskState} {slots pool : Slots} {layout later : Layout} (pages k : ℕ) → k < pages
      → IsSoFar (λ i. sector + i) each (λ i. free_ones) covered old slots layout mid pool later k → MayBeFresh (sector + k) (label k) mid new → WritesFresh sector pages old new
  fresh_stopped pages k below so_far (inl nothing) = fresh_turns pages k (omega (arith, below)) (appended_no_more (turns each k) so_far.appended nothing) so_far.found
  fresh_stopped {old = old} {new = new} pages k below so_far (inr (made, had)) =
      fresh_turns pages (k + 1) (omega (arith, below)) (subst (λ (run : List DiskWrite). Appended run old new) (sym (turns_more each k)) (appended_then (turns each k) (each k ∷ []) so_far.appended (appended_one (each k) made)))
      (λ d revealed i less. elim (cases_eq i k) [
        | inl same ↦ rw same (let one = had (after_writes (turns each k) d) (so_far.appended.contents ∙ ap (option_map (after_writes (turns each k))) revealed) in
            (one.0, sym (so_far.others d (sector + k) (λ j before same_place. omega (arith, before, same_place))) ∙ one.1, one.2))
        | inr other ↦ so_far.found d revealed i (omega (arith, less, other))
      ])
