-- Calls in a row that write pages of one file and of the volume's own, over any contents.
use Rattle.std.proofs.Common.{◌≡◌, inl, inr, ℕ, true, List, [], ◌∷◌, ◌++◌, take, refl, sym, ◌∙◌, subst}
use Rattle.std.specs.List.{AllByRecursion}
use Rattle.labelled_disk.specs.declared.disk.DiskWrite.{DiskWrite}
use Rattle.labelled_disk.specs.declared.disk.DiskWrite.TheVariants as write
use Rattle.labelled_disk.specs.Calls.{Moves}
use Rattle.labelled_disk.specs.Label.{is_file_id}
use Rattle.labelled_disk.specs.Runs.{creation}
use Rattle.frame_pool.specs.Frames.{Slots}
use Rattle.label_calls.specs.Bytes.{MayWritePage, WritesPage}
use Rattle.label_calls.specs.Labels.{with_mark}
use Rattle.label_calls.specs.Own.{RelabelsOwn}
use Rattle.label_calls.specs.OwnLaws.{creation_whole, first_whole, relabels_own, whole_own}
use Rattle.swapper_kernel.specs.Goes.{Makes}
use Rattle.swapper_kernel.specs.GoesLaws.{makes_then, makes_wider, same_syncs, wrote_none}
use Rattle.label_calls.specs.declared.page.Mark.{Mark}
use Rattle.filer_kernel.specs.View.{MakesOnly, SwapsOnly, View}
use Rattle.session_words.specs.Volume.{volume_page}
use Rattle.session_words.proofs.FoundLemmas.{above_reserved}
use Rattle.file_manager.specs.Answer.{WritesMark}
use Rattle.file_manager.specs.Making.{CreatesAll, CreatesSome}
use Rattle.volume_pair.specs.declared.fault.PairHalt.{PairHalt}
use Rattle.volume_pair.specs.declared.fault.PairHalt.TheVariants as on
use Rattle.volume_pair.specs.Owned.{this_file}
use Rattle.volume_pair.specs.Pairs.{ShowsSide}
use Rattle.volume_pair.specs.Sides.{IsLookedAt, IsWrittenFor, WritesPages, with_own}
use Rattle.volume_pair.proofs.OwnedLemmas.{IsLabelOf, creation_of, first_of, writes_file, writes_none, writes_pages, writes_then}
use Rattle.volume_pair.proofs.SideLemmas.{why_after}

pub written_then : {file : ℕ} {u v w : View} → IsWrittenFor file u v → IsWrittenFor file v w → IsWrittenFor file u w
written_then h k = record { labels = h.labels ++ k.labels; makes = makes_then h.makes k.makes; layout = k.layout ∙ h.layout; own = writes_then h.own k.own }

pub looked_written : (file : ℕ) {v w : View} → IsLookedAt v w → IsWrittenFor file v w
looked_written file h = record { labels = []; makes = makes_wider (with_own file) (λ id page none. absurd none) h.makes; layout = h.layout; own = writes_none (this_file file) h }

pub own_written : (file : ℕ) (labels : List DiskWrite) (v w : View) → AllByRecursion (IsLabelOf (this_file file)) labels → RelabelsOwn file v.disk w.disk → MakesOnly volume_page labels v w → w.layout ≡ v.layout → IsWrittenFor file v w
own_written file labels v w of own makes layout = record { labels = labels; makes = makes_wider (with_own file) (λ id page own. inl own) makes; layout = layout; own = writes_file file v w (λ id page own. inl own) of makes own }

-- a file was made, or some of it
module _ (file kind pages : ℕ) (v w : View) (of_file : is_file_id file ≡ true) where
  pub all_written : CreatesAll file kind pages v.disk v.slots w.disk w.slots → w.layout ≡ v.layout → IsWrittenFor file v w
  all_written h layout =
      own_written file (creation file kind h.leader h.sectors) v w (creation_of file kind h.leader h.sectors (above_reserved file of_file))
      (relabels_own (whole_own file (creation_whole file kind h.leader h.sectors) h.makes)) h.makes layout

  pub some_written : CreatesSome file kind pages v.disk v.slots w.disk w.slots → w.layout ≡ v.layout → IsWrittenFor file v w
  some_written h layout =
      let all = creation file kind h.leader h.sectors in
      own_written file (take h.count all) v w (first_of (IsLabelOf (this_file file)) h.count all (creation_of file kind h.leader h.sectors (above_reserved file of_file)))
      (relabels_own (whole_own file (first_whole h.count all (creation_whole file kind h.leader h.sectors)) h.makes)) h.makes layout

-- no label was written
pub pages_written : {file : ℕ} {v w : View} → WritesPages file v w → IsWrittenFor file v w
pages_written {file = file} {v = v} {w = w} h = record { labels = []; makes = h.makes; layout = h.layout; own = writes_pages v w (this_file file) (λ id page own. own) h.makes }

pub pages_then : {file : ℕ} {u v w : View} → WritesPages file u v → WritesPages file v w → WritesPages file u w
pages_then h k = record { makes = makes_then h.makes k.makes; layout = k.layout ∙ h.layout }

pub looked_pages : (file : ℕ) {v w : View} → IsLookedAt v w → WritesPages file v w
looked_pages file h = record { makes = makes_wider (with_own file) (λ id page none. absurd none) h.makes; layout = h.layout }

-- the frames are those of before
module _ (file : ℕ) {page sector : ℕ} {bytes : List ℕ} {v w : View} where
  pub page_written : WritesPage sector (record { id = file; page = page }) bytes v.disk v.slots w.disk → w.slots ≡ v.slots → w.layout ≡ v.layout → WritesPages file v w
  page_written h frames layout = record {
    makes = subst (λ (s : Slots). Makes (with_own file) [] v.disk v.slots w.disk s) (sym frames) (makes_wider (with_own file) (λ id p own. inr own.0) h.makes);
    layout = layout;
  }

  pub may_written : MayWritePage sector (record { id = file; page = page }) bytes v.disk v.slots w.disk → Moves v.disk w.disk → w.slots ≡ v.slots → w.layout ≡ v.layout → WritesPages file v w
  may_written (inr h) moves frames layout = page_written h frames layout
  may_written (inl same) moves frames layout = record {
    makes = subst (λ (s : Slots). Makes (with_own file) [] v.disk v.slots w.disk s) (sym frames) (record {
      went = record { sectors = moves.sectors; lent = moves.lent; syncs = same_syncs v.disk w.disk moves.syncs; faults = moves.faults; transfers = moves.transfers.later };
      dirty = λ id page is. inl is;
      wrote = wrote_none (with_own file) v.slots same;
      count = refl;
    });
    layout = layout;
  }

-- pages came and went
pub swaps_for : (file : ℕ) (v w : View) → SwapsOnly v w → w.layout ≡ v.layout → IsWrittenFor file v w
swaps_for file v w swaps layout = record { labels = []; makes = makes_wider (with_own file) (λ id page none. absurd none) swaps.makes; layout = layout; own = writes_pages v w (this_file file) (λ id page none. absurd none) swaps.makes }

-- a leader got a mark, or nothing was written
pub mark_written : (file : ℕ) (mark : Mark) (v w : View) → WritesMark mark v.disk v.slots w.disk w.slots → RelabelsOwn file v.disk w.disk → w.layout ≡ v.layout → IsWrittenFor file v w
mark_written file mark v w (inl none) own layout = own_written file [] v w tt own none layout
mark_written file mark v w (inr (sector, label, made)) own layout = own_written file (write.LabelOnly sector (with_mark mark label) ∷ []) v w (tt, tt) own made layout

-- a halt on one side, after calls on both
pub copied_after : {file : ℕ} {from0 to0 from to : View} (from1 to1 : View) → IsLookedAt from0 from → IsWrittenFor file to0 to → (e : PairHalt) → ShowsSide from to from1 to1 e → ShowsSide from0 to0 from1 to1 e
copied_after from1 to1 first second (on.From e) why = why_after first.makes.went.faults why
copied_after from1 to1 first second (on.To e) why = why_after second.makes.went.faults why
