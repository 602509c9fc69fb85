-- Calls that write no label.
use Rattle.std.proofs.Common.{◌≡◌, ℕ, zero, suc, true, List, [], ◌∷◌, ◌++◌, Some, refl, sym, ◌∙◌, ap, subst}
use Rattle.std.specs.Prelude.{filter, not, option_map, slice_get}
use Rattle.std.proofs.lemmas.List.{append_cancel_left}
use Rattle.std.proofs.lemmas.Option.{none-some, same_Some}
use Rattle.labelled_disk.specs.declared.disk.DiskWrite.{DiskWrite}
use Rattle.labelled_disk.specs.declared.disk.DiskWrite.TheVariants as write
use Rattle.labelled_disk.specs.State.{DiskState}
use Rattle.frame_pool.specs.Frames.{Slots}
use Rattle.swapper_kernel.specs.Goes.{Makes, Pages, is_page_write}
use Rattle.pilot_engine.specs.Labels.{WritesPagesAlone}

-- writes of which none is of a label
only_pages : (ws : List DiskWrite) → filter (λ w. not (is_page_write w)) ws ≡ [] → (k : ℕ) (w : DiskWrite) → slice_get ws k ≡ Some w → is_page_write w ≡ true
only_pages [] none k w at = absurd (none-some w at)
only_pages (write.Whole sector label bytes ∷ ws) none k w at = absurd (cc none)
only_pages (write.LabelOnly sector label ∷ ws) none k w at = absurd (cc none)
only_pages (write.Page sector wanted bytes ∷ ws) none zero w at = ap is_page_write (sym (same_Some (write.Page sector wanted bytes) w at))
only_pages (write.Page sector wanted bytes ∷ ws) none (suc k) w at = only_pages ws none k w at

pub pages_alone : {pages : Pages} {a b : DiskState} {s t : Slots} → Makes pages [] a s b t → WritesPagesAlone a b
pages_alone makes = record {
  pages = λ before writes was is k w at.
      let wrote = makes.wrote in
      let there = sym (wrote.appended.revealed ∙ ap (option_map (λ (earlier : List DiskWrite). earlier ++ wrote.writes)) was) ∙ is in
      let same : wrote.writes ≡ writes = append_cancel_left before wrote.writes writes (same_Some (before ++ wrote.writes) (before ++ writes) there) in
      only_pages wrote.writes wrote.labels k w (subst (λ (ws : List DiskWrite). slice_get ws k ≡ Some w) (sym same) at);
}
