-- A page of a file, found by the maps and read by its label.
use Rattle.std.proofs.Common.{◌≡◌, inr, ℕ, ◌<◌, ◌≤◌, true, List, [], Some, refl, sym, ◌∙◌, ap, subst, arith}
use Rattle.std.specs.Prelude.{slice_get}
use Rattle.std.proofs.lemmas.Bool.{true≢false}
use Rattle.labelled_disk.specs.declared.evidence.Evidence.{Evidence}
use Rattle.labelled_disk.specs.declared.evidence.Halt.TheVariants as halt
use Rattle.labelled_disk.specs.declared.evidence.Halt.{Halt}
use Rattle.labelled_disk.specs.declared.label.Label.{Label}
use Rattle.labelled_disk.specs.declared.label.Wanted.{Wanted}
use Rattle.labelled_disk.specs.declared.layout.Layout.{Layout}
use Rattle.labelled_disk.specs.Label.{names}
use Rattle.labelled_disk.specs.Sectors.{Sector}
use Rattle.file_map.specs.declared.run.Run.{Run}
use Rattle.file_map.specs.FileMap.{IsNowhere}
use Rattle.label_calls.specs.Bytes.{ReadsPage}
use Rattle.label_calls.specs.Labels.{HasOne, IsUncovered, ones_of}
use Rattle.swapper_kernel.specs.DiffersLaws.{sector_of_label}
use Rattle.swapper_kernel.specs.Stands.{labels_of}
use Rattle.session_words.specs.Parts.{IsTriple, Shape, Shapes}
use Rattle.session_words.proofs.FrameLemmas.{frame_laws}
use Rattle.file_manager.specs.Book.{IsBookedUpto}
use Rattle.file_manager.proofs.FindingLemmas.{below_owned}
use Rattle.filer_kernel.specs.View.{View}
use Rattle.volume_pair.specs.Sides.{HasBooks, HasPageBytes}

-- evidence is no fault of the disk
pub no_fault : {P : Type 0} {evidence : Evidence} → halt.Damaged evidence ≡ halt.Disk → P
no_fault is = absurd (subst at is tt)
  where
    at : Halt → Type 0
    at halt.Disk = ⊥
    at (halt.Damaged e) = Unit {0}

-- the map has a sector for each page of a file
pub nowhere_not : {layout : Layout} {runs : List Run} (shapes : Shapes) (x : List Sector) (b : IsBookedUpto 0 layout runs shapes x) (id page : ℕ) (f : Shape) → shapes id ≡ Some f → page < f.size → IsNowhere b.named id page → ⊥
nowhere_not shapes x b id page f is below nowhere =
    let place = b.labels.pages.all id page (below_owned 0 shapes id page f is below) in
    let named = b.triples.all id page place.place (record { label = place.label; there = place.there; taken = place.taken; same_id = place.same_id; same_page = place.same_page }) in
    true≢false (sym named ∙ nowhere place.place)

-- The sector of a page, in a memory with books.
module _ (v : View) (shapes : Shapes) (x : List Sector) (books : HasBooks v shapes x) (id page sector : ℕ) (client : 16 ≤ id) (t : IsTriple (labels_of x) id page sector) where
  abbrev pub wanted : Wanted
  wanted = record { id = id; page = page }

  pub in_sector : (s : Sector) × (slice_get x sector ≡ Some s) × (s.0 ≡ t.label)
  in_sector = sector_of_label x sector t.label t.there.here

  pub is_named : names in_sector.0.0 (record { id = id; page = page }) ≡ true
  is_named =
      let owned = books.booked.labels.pages.only sector t.label t.there t.taken in
      let here : names t.label (record { id = id; page = page }) ≡ true = subst (λ (w : Wanted). names t.label w ≡ true) (λ i. record { id = t.same_id i; page = t.same_page i }) owned.named in
      ap (λ (l : Label). names l (record { id = id; page = page })) in_sector.2 ∙ here

  pub has_one : HasOne (ones_of (record { id = id; page = page })) x sector
  has_one = (in_sector.0, in_sector.1, is_named)

  -- no frame is over it
  pub uncovered : IsUncovered v.slots sector
  uncovered =
      let own : in_sector.0.0.id ≡ id = ap (λ (l : Label). l.id) in_sector.2 ∙ t.same_id in
      frame_laws.none_over books.stands.sectors v.slots x [] sector in_sector.0 books.stands.merged books.frames in_sector.1 refl (inr (omega (arith, own, client)))

  -- so what is read is what the memory has
  pub page_read : (bytes : List ℕ) → ReadsPage sector (record { id = id; page = page }) bytes v.disk v.slots → HasPageBytes x id page bytes
  page_read bytes reads =
      let p = reads.in_memory uncovered x books.stands in
      record { sector = sector; label = p.label; here = p.here; triple = t }
