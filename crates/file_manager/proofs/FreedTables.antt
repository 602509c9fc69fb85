-- What bytes are revealed of the space tables stays where labels of another file become free.
use Rattle.std.proofs.Common.{◌≡◌, ◌≢◌, inl, inr, ℕ, ◌+◌, ◌<◌, List, Some, sym, ◌∙◌, ap}
use Rattle.std.specs.Prelude.{slice_get}
use Rattle.std.proofs.lemmas.Option.{same_Some}
use Rattle.labelled_disk.specs.declared.label.Label.{Label}
use Rattle.labelled_disk.specs.declared.layout.Layout.{Layout}
use Rattle.labelled_disk.specs.Runs.{freeing}
use Rattle.labelled_disk.specs.Sectors.{Sector}
use Rattle.labelled_disk.specs.WriteRuns.{after_writes}
use Rattle.swapper_kernel.specs.DiffersLaws.{names_id, other_sector}
use Rattle.swapper_kernel.specs.Stands.{labels_of}
use Rattle.label_calls.specs.Labels.{ones_of}
use Rattle.label_calls.specs.Runs.{HaveOnes}
use Rattle.file_manager.specs.TabledLaws.{KeepsSectors}
use Rattle.file_manager.proofs.FreedSectors.{freed_elsewhere, in_or_not}

-- sectors with labels of the space tables stay, where those whose labels become free had labels of a file
module _ (layout : Layout) (m d : List Sector) (labels : labels_of d ≡ labels_of m) (sector count id : ℕ) (page : ℕ → ℕ) (were : HaveOnes (λ k. ones_of (record { id = id; page = page k })) d sector count) where
  -- a sector of the run has a label of the file
  of_run : (i : ℕ) → i < count → (s : Sector) → slice_get m (sector + i) ≡ Some s → s.0.id ≡ id
  of_run i below s here =
      let one = were i below in
      let was = other_sector m d labels (sector + i) one.0 one.1 in
      let same : was.0 ≡ s = same_Some was.0 s (sym was.1 ∙ here) in
      ap (λ (t : Sector). t.0.id) (sym same) ∙ ap (λ (l : Label). l.id) was.2 ∙ names_id one.0.0 (record { id = id; page = page i }) one.2

  pub freed_keeps : (sectors : List ℕ) → ((j k : ℕ) → slice_get sectors j ≡ Some k → (i : ℕ) × (i < count) × (k ≡ sector + i)) → id ≢ 3 → KeepsSectors layout m (after_writes (freeing sectors) m)
  freed_keeps sectors has other place s from here own = elim (in_or_not sectors place) [
    | inl (j, at) ↦
        let r = has j place at in
        absurd (other (sym (of_run r.0 r.1 s (ap (slice_get m) (sym r.2) ∙ here)) ∙ own))
    | inr none ↦ freed_elsewhere sectors m place none ∙ here
  ]
