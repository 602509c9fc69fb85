-- The sectors of a memory are in form, where those of the disk are and the bytes of each frame are a page's.
use Rattle.std.specs.Prelude.{◌≡◌, ℕ, List, Some, slice_get}
use Rattle.std.proofs.Common.{sym, ◌∙◌, ap, subst, inl, inr}
use Rattle.std.proofs.lemmas.Option.{same_Some}
use Rattle.labelled_disk.specs.declared.label.Label.{Label}
use Rattle.labelled_disk.specs.Sectors.{Sector, IsSector, AreSectors}
use Rattle.labelled_disk.specs.State.{DiskState}
use Rattle.frame_pool.specs.Frames.{Slots, IsPageBytes, ArePages}
use Rattle.swapper_kernel.specs.Stands.{IsHome, Stands}
use Rattle.swapper_kernel.specs.DiffersLaws.{other_sector}
use Rattle.swapper_kernel.specs.OnceLaws.{over_or_clean}

-- another page under a label that fits
other_page : (d : Sector) (label : Label) (page : List ℕ) → d.0 ≡ label → IsSector d → IsPageBytes page → IsSector (label, page)
other_page d label page same is bytes = subst (λ (l : Label). IsSector (l, page)) same (record {
  id_fits = is.id_fits;
  page_fits = is.page_fits;
  kind_fits = is.kind_fits;
  flags_fit = is.flags_fit;
  last_fits = is.last_fits;
  whole_page = bytes.0;
  bytes = bytes.1;
})

pub memory_in_form : (disk : DiskState) (slots : Slots) (m : List Sector) (stands : Stands disk slots m) → AreSectors stands.sectors → ArePages slots → AreSectors m
memory_in_form disk slots m stands sectors pages k s here = elim (over_or_clean slots k) [
  | inl over ↦
      let f = over.frame in
      let home : IsHome m f = stands.merged.frames over.slot f over.has in
      let same : (home.label, f.bytes) ≡ s = same_Some {A = Sector} (home.label, f.bytes) s (sym home.keeps ∙ ap (slice_get m) over.at ∙ here) in
      let d = other_sector stands.sectors m stands.merged.labels k s here in
      let label : d.0.0 ≡ home.label = d.2 ∙ ap (λ (t : Sector). t.0) (sym same) in
      subst IsSector same (other_page d.0 home.label f.bytes label (sectors k d.0 d.1) (pages over.slot f over.has))
  | inr clean ↦ sectors k s (sym (stands.merged.clean k clean) ∙ here)
]
