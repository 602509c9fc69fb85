-- What stops a single call has its reason, where the state before it kept to an initial state.
use Rattle.std.proofs.Common.{◌≡◌, ◌⊎◌, inl, inr, ℕ, true, List, [], sym, subst}
use Rattle.labelled_disk.specs.declared.disk.DiskWrite.{DiskWrite}
use Rattle.labelled_disk.specs.declared.disk.DiskWrite.TheVariants.{LabelOnly}
use Rattle.labelled_disk.specs.declared.evidence.Evidence.TheVariants.{Mismatch, Malformed, Missing}
use Rattle.labelled_disk.specs.declared.evidence.Halt.{Halt}
use Rattle.labelled_disk.specs.declared.evidence.Halt.TheVariants.{Disk, Damaged}
use Rattle.labelled_disk.specs.declared.label.Label.{Label}
use Rattle.labelled_disk.specs.declared.label.Wanted.{Wanted}
use Rattle.labelled_disk.specs.declared.layout.Layout.{Layout}
use Rattle.labelled_disk.specs.State.{DiskState, HasLabel}
use Rattle.frame_pool.specs.declared.home.Home.{Home}
use Rattle.frame_pool.specs.Frames.{Slots}
use Rattle.file_map.specs.declared.run.Run.{Run}
use Rattle.file_map.specs.FileMap.{Triples}
use Rattle.swapper_kernel.specs.declared.manager.Manager.TheVariants.{FileMap}
use Rattle.swapper_kernel.specs.Goes.{Makes, Pages, no_page}
use Rattle.swapper_kernel.specs.Halts.{HasCause, IsOther, held_or}
use Rattle.swapper_kernel.specs.Homes.{home_at}
use Rattle.swapper_kernel.specs.Maps.{IsMapHome}
use Rattle.label_calls.specs.declared.page.Mark.{Mark}
use Rattle.label_calls.specs.Labels.{IsNotOf, MayHaveWritten, with_mark}
use Rattle.filer_kernel.specs.Causes.{CutHalts, IsFaultOrMismatch}
use Rattle.file_manager.specs.Reasons.{InitialState, KeepsTo, IsAtHome, HasReason, ShowsReason}
use Rattle.file_manager.specs.LaterLaws.{at_home_later}
use Rattle.file_manager.specs.ReasonLaws.{label_reasons}

-- Over writes that were made since.
module _ {o : InitialState} {layout : Layout} {kept : List Run} {a : DiskState} {s : Slots} {named : Triples} (k : KeepsTo o layout kept a s named)
    {pages : Pages} {run : List DiskWrite} {b : DiskState} {t : Slots} (makes : Makes pages run a s b t) where
  -- a label in a home of the map, or of a frame
  held_reason : (sector : ℕ) (wanted : Wanted) (found : Label) → IsOther (held_or s (IsMapHome FileMap layout)) a sector wanted found → HasReason o layout b (Mismatch sector wanted found)
  held_reason sector wanted found is = label_reasons k makes (IsMapHome FileMap layout) (λ home own. inl (FileMap, own)) (Damaged (Mismatch sector wanted found)) is

  -- the map is cut
  pub cut_reasons : (halt : Halt) → CutHalts layout a s b t halt → IsFaultOrMismatch halt → ShowsReason o layout b halt
  cut_reasons Disk is right = tt
  cut_reasons (Damaged (Mismatch sector wanted found)) is right = held_reason sector wanted found is
  cut_reasons (Damaged (Malformed structure page)) is right = absurd right
  cut_reasons (Damaged (Missing id page)) is right = absurd is

  -- a label isn't that of a page which the map names there
  pub other_reasons : (place : ℕ) (w : Wanted) → named w.id w.page place ≡ true → (c d e : DiskState) (halt : Halt) → HasCause (IsNotOf place w c) d e halt → ShowsReason o layout b halt
  other_reasons place w is c d e Disk cause = tt
  other_reasons place w is c d e (Damaged (Mismatch sector wanted found)) (at, page, there, other) =
      let home : IsAtHome o b (home_at place w) = at_home_later o makes (home_at place w) (k.homes (home_at place w) is) in
      inr (inl (subst (λ (h : Home). IsAtHome o b h) (λ i. home_at (sym at i) (sym page i)) home))
  other_reasons place w is c d e (Damaged (Malformed structure page)) cause = absurd cause
  other_reasons place w is c d e (Damaged (Missing id page)) cause = absurd cause

-- a mark stops: whatever it wrote, the label isn't that of the leader, which the map names there
pub mark_reasons : {o : InitialState} {layout : Layout} {kept : List Run} {a b : DiskState} {s t : Slots} {named : Triples} → KeepsTo o layout kept a s named → (w : Wanted) (sector : ℕ) (mark : Mark) → named w.id w.page sector ≡ true
    → Makes no_page [] a s b t ⊎ ((label : Label) × HasLabel a sector label × MayHaveWritten (LabelOnly sector (with_mark mark label)) a s b) → (halt : Halt) → HasCause (IsNotOf sector w a) a b halt → ShowsReason o layout b halt
mark_reasons {a = a} {b = b} k w sector mark is (inl none) halt cause = other_reasons k none sector w is a a b halt cause
mark_reasons {a = a} {b = b} k w sector mark is (inr (label, has, inl none)) halt cause = other_reasons k none sector w is a a b halt cause
mark_reasons {a = a} {b = b} k w sector mark is (inr (label, has, inr made)) halt cause = other_reasons k made sector w is a a b halt cause

-- a fault of the disk shows nothing
pub fault_reason : (o : InitialState) (layout : Layout) (b : DiskState) (halt : Halt) → halt ≡ Disk → ShowsReason o layout b halt
fault_reason o layout b halt is = subst (ShowsReason o layout b) (sym is) tt
