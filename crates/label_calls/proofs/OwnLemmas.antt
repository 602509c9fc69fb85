-- Labels of one file in a row, each written over the one that was read.
use Rattle.std.proofs.Common.{◌≡◌, ◌≢◌, ℕ, zero, suc, ◌<◌, true, List, [], ◌∷◌, map, refl, sym, ◌∙◌, subst, arith}
use Rattle.std.specs.List.{range_with_len}
use Rattle.std.proofs.lemmas.Bool.Decides.{nat_tests}
use Rattle.std.proofs.lemmas.Option.{same_Some, none-some}
use Rattle.labelled_disk.specs.declared.label.Label.{Label}
use Rattle.labelled_disk.specs.declared.label.Wanted.{Wanted}
use Rattle.labelled_disk.specs.declared.layout.Layout.{Layout}
use Rattle.labelled_disk.specs.declared.disk.DiskWrite.{DiskWrite}
use Rattle.labelled_disk.specs.declared.disk.DiskWrite.TheVariants as write
use Rattle.labelled_disk.specs.Label.{names}
use Rattle.labelled_disk.specs.Sectors.{Sector}
use Rattle.labelled_disk.specs.State.{DiskState}
use Rattle.labelled_disk.specs.WriteRuns.{after_writes}
use Rattle.frame_pool.specs.Frames.{Slots}
use Rattle.label_calls.specs.Labels.{Labels, HasOne}
use Rattle.label_calls.specs.OwnLaws.{AreOverOwn, AreWhole, WroteOwn, one_over, over_then, whole_own}
use Rattle.label_calls.proofs.RunLemmas.{IsSoFar, turns, turns_next, turns_elsewhere}

-- a label that names a page has its file
pub of_page : (wanted : Wanted) (label : Label) → names label wanted ≡ true → label.id ≡ wanted.id
of_page wanted label named = grind (arith, nat_tests)

module _ (place : ℕ → ℕ) (label : Label) where
  -- the label of each turn
  abbrev each : ℕ → DiskWrite
  each k = write.LabelOnly (place k) label

  -- where each place has a label of this identifier, the labels of the turns are written over such
  over_turns : (id : ℕ) (labels : ℕ → Labels) → ((i : ℕ) (l : Label) → labels i l → l.id ≡ id) → (k : ℕ) → ((i : ℕ) → i < k → (j : ℕ) → j < i → place i ≢ place j)
      → (d : List Sector) → ((i : ℕ) → i < k → HasOne (labels i) d (place i)) → AreOverOwn id d (turns each k)
  over_turns id labels of_id zero apart d found = λ k sector l at s here. absurd (none-some (write.LabelOnly sector l) at)
  over_turns id labels of_id (suc k) apart d found =
      subst (AreOverOwn id d) (sym (turns_next each k)) (over_then id d (turns each k) (each k ∷ [])
      (over_turns id labels of_id k (λ i below. apart i (omega (arith, below))) d (λ i below. found i (omega (arith, below))))
      (one_over id (place k) label (after_writes (turns each k) d) (λ s here.
      let one = found k (omega arith) in
      let same : one.0 ≡ s = same_Some one.0 s (sym one.1 ∙ sym (turns_elsewhere place each (λ i. refl) k d (place k) (apart k (omega arith))) ∙ here) in
      of_id k s.0 (subst (λ (t : Sector). labels k t.0) same one.2))))

-- the turns that are over wrote over labels of this identifier
pub so_far_own : (place : ℕ → ℕ) (label : Label) (labels : ℕ → Labels) {covered : Type 0} {old new : DiskState} {slots after : Slots} {layout later : Layout} (id k : ℕ)
    → IsSoFar place (λ i. write.LabelOnly (place i) label) labels covered old slots layout new after later k → ((i : ℕ) (l : Label) → labels i l → l.id ≡ id) → ((i : ℕ) → i < k → (j : ℕ) → j < i → place i ≢ place j) → WroteOwn id old new
so_far_own place label labels id k so_far of_id apart = record {
  writes = turns (λ i. write.LabelOnly (place i) label) k;
  appended = so_far.appended;
  over = λ d before revealed was. over_turns place label id labels of_id k apart d (so_far.found d revealed);
}

turns_whole : (place : ℕ → ℕ) (label : ℕ → Label) (bytes : List ℕ) (is : List ℕ) → AreWhole (map (λ k. write.Whole (place k) (label k) bytes) is)
turns_whole place label bytes [] = tt
turns_whole place label bytes (i ∷ is) = turns_whole place label bytes is

-- the turns that are over wrote pages with their labels
pub so_far_whole : (place : ℕ → ℕ) (label : ℕ → Label) (bytes : List ℕ) (labels : ℕ → Labels) {covered : Type 0} {old new : DiskState} {slots after : Slots} {layout later : Layout} (id k : ℕ)
    → IsSoFar place (λ i. write.Whole (place i) (label i) bytes) labels covered old slots layout new after later k → WroteOwn id old new
so_far_whole place label bytes labels id k so_far = whole_own id (turns_whole place label bytes (range_with_len 0 k)) so_far.makes
