-- What a mark that stopped has written, over a memory that is revealed.
use Rattle.std.proofs.Common.{◌≡◌, ◌⊎◌, inl, inr, ℕ, ◌≤◌, List, [], ◌∷◌, Some, sym, ◌∙◌, ap, subst}
use Rattle.std.specs.Prelude.{slice_get, option_map}
use Rattle.std.proofs.lemmas.Option.{same_Some}
use Rattle.labelled_disk.specs.declared.label.Label.{Label}
use Rattle.labelled_disk.specs.declared.layout.Layout.{Layout}
use Rattle.labelled_disk.specs.declared.disk.DiskWrite.TheVariants.{LabelOnly}
use Rattle.labelled_disk.specs.Label.{leader_page}
use Rattle.labelled_disk.specs.Sectors.{Sector}
use Rattle.labelled_disk.specs.State.{DiskState, HasLabel as DiskHasLabel}
use Rattle.frame_pool.specs.Frames.{Slots}
use Rattle.flat_machine.specs.declared.space.Space.{Space}
use Rattle.swapper_kernel.specs.DiffersLaws.{other_sector, sector_of_label}
use Rattle.swapper_kernel.specs.Goes.{Makes, no_page}
use Rattle.swapper_kernel.specs.GoesLaws.{makes_then, makes_wider}
use Rattle.swapper_kernel.specs.Stands.{Stands, labels_of}
use Rattle.session_words.specs.Parts.{Shapes, IsTriple}
use Rattle.session_words.specs.Volume.{volume_page}
use Rattle.filer_kernel.specs.declared.cached.CachedRuns.{CachedRuns}
use Rattle.filer_kernel.specs.Cached.{runs_of}
use Rattle.label_calls.specs.declared.page.Mark.{Mark}
use Rattle.label_calls.specs.Labels.{MayHaveWritten, with_mark}
use Rattle.file_manager.specs.Book.{BooksUpto}
use Rattle.file_manager.specs.Broken.{MarksFirst}
use Rattle.file_manager.proofs.BookLemmas.{leader_reveals}
use Rattle.file_manager.proofs.MarkLemmas.{leader_named}

-- the label that a disk reveals is that of the memory that it makes with its frames
label_on : (disk : DiskState) (slots : Slots) (x : List Sector) (stands : Stands disk slots x) (sector : ℕ) (s : Sector) → slice_get x sector ≡ Some s → (label : Label) → DiskHasLabel disk sector label → label ≡ s.0
label_on disk slots x stands sector s here label has =
    let t = other_sector stands.sectors x stands.merged.labels sector s here in
    same_Some label t.0.0 (sym (has stands.sectors stands.revealed) ∙ ap (option_map (λ (u : Sector). u.0)) t.1) ∙ t.2

-- after a search that wrote no label
module _ {tables : ℕ} (layout : Layout) (old mid new : DiskState) (before between after : Slots) (runs : CachedRuns) (shapes : Shapes) (spaces : List Space) (x : List Sector) (id sector : ℕ) (mark : Mark) (some : 16 ≤ id)
    (books : BooksUpto tables mid between layout runs shapes spaces x) (first : Makes volume_page [] old before mid between) (t : IsTriple (labels_of x) id leader_page sector) (frames : after ≡ between) where
  wrote_none : Makes no_page [] mid between new after → MarksFirst id (with_mark mark) x old before new after
  wrote_none none = inl (makes_then first (makes_wider volume_page (λ i p no. absurd no) none))

  pub marks_first : Makes no_page [] mid between new after ⊎ ((label : Label) × DiskHasLabel mid sector label × MayHaveWritten (LabelOnly sector (with_mark mark label)) mid between new)
      → MarksFirst id (with_mark mark) x old before new after
  marks_first (inl none) = wrote_none none
  marks_first (inr (label, has, inl none)) = wrote_none (subst (λ (q : Slots). Makes no_page [] mid between new q) (sym frames) none)
  marks_first (inr (label, has, inr made)) =
      let b = books.booked in
      let reveals = leader_reveals layout (runs_of layout.sectors runs) shapes x b id sector some t in
      let u = sector_of_label x sector reveals.label reveals.here in
      let same : label ≡ u.0.0 = label_on mid between x books.stands sector u.0 u.1 label has in
      let marked : Makes volume_page (LabelOnly sector (with_mark mark u.0.0) ∷ []) old before new between =
      makes_then first (makes_wider volume_page (λ i p no. absurd no) (subst (λ (l : Label). Makes no_page (LabelOnly sector (with_mark mark l) ∷ []) mid between new between) same made))
      in
      inr (record {
        leader = sector;
        s = u.0;
        here = u.1;
        named = leader_named layout (runs_of layout.sectors runs) shapes x b id some mark sector u.0 u.1 t;
        makes = subst (λ (q : Slots). Makes volume_page (LabelOnly sector (with_mark mark u.0.0) ∷ []) old before new q) (sym frames) marked;
      })
