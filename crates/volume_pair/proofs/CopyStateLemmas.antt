-- In each crash state of a call that may copy a file the second volume has the list of before, or that with the copy.
use Rattle.std.proofs.Common.{◌≡◌, ℕ, true, false, List, [], Option, Some, None, Ok, Result, refl, sym, ◌∙◌, ap, subst, arith}
use Rattle.std.specs.Option.{option_map_or}
use Rattle.std.proofs.lemmas.Option.{same_Some}
use Rattle.labelled_disk.specs.declared.layout.Layout.{Layout}
use Rattle.labelled_disk.specs.File.{File, file_at}
use Rattle.labelled_disk.specs.FilesOn.{files_on}
use Rattle.labelled_disk.specs.Label.{is_file_id}
use Rattle.labelled_disk.specs.Root.{LabelsRight}
use Rattle.labelled_disk.specs.Sectors.{Sector}
use Rattle.labelled_disk.specs.State.{DiskState}
use Rattle.labelled_disk.proofs.WriteLemmas as laws
use Rattle.swapper_kernel.specs.GoesLaws.{makes_wider}
use Rattle.filer_kernel.specs.View.{View}
use Rattle.session_words.proofs.FoundLemmas.{above_reserved}
use Rattle.session_words.proofs.LooseLemmas.{merged_differs}
use Rattle.file_manager.specs.declared.attributes.Attributes.{Attributes}
use Rattle.file_manager.specs.declared.volume.Volume.{Volume}
use Rattle.file_manager.specs.CreateBroken.{CreatedSome}
use Rattle.file_manager.specs.Making.{CreatedBy}
use Rattle.pair_machine.specs.declared.call.PairCall.{PairCall}
use Rattle.pair_machine.specs.declared.call.PairCall.TheVariants.{Compare, Copy}
use Rattle.pair_machine.specs.declared.call.PairRefusal.{PairRefusal}
use Rattle.pair_machine.specs.Pair.{Pair, next_pair, pair_refusal, with_copy}
use Rattle.volume_root.specs.declared.root.Root.{Root}
use Rattle.volume_pair.specs.Copied.{IsCopying, IsSealing}
use Rattle.volume_pair.specs.Copying.{IsOriginal, Takes}
use Rattle.volume_pair.specs.CrashStates.{ChangesFiles, CrashStatesOf, KeepsVolume, WritesSecond}
use Rattle.volume_pair.specs.Owned.{no_file}
use Rattle.volume_pair.specs.Pairs.{IsPaired}
use Rattle.volume_pair.specs.Sides.{IsLookedAt, IsSide, IsWrittenFor, SyncsSecond, WritesPages, with_own}
use Rattle.volume_pair.specs.declared.fault.PairHalt.{PairHalt}
use Rattle.volume_pair.proofs.AroundLemmas.{looked_around}
use Rattle.volume_pair.proofs.CrashStateLemmas.{last_state, none_states, quiet_on, quiet_then, quiet_wider}
use Rattle.volume_pair.proofs.CreateStateLemmas.{broken_states, created_states}
use Rattle.volume_pair.proofs.DoneLemmas.{few_pages, kept_in_use, sealing_in_use}
use Rattle.volume_pair.proofs.KeepLemmas.{frames_loose, loose_keeps, none_is_zero, pages_keep, volume_then}
use Rattle.volume_pair.proofs.OwnedLemmas.{writes_none}
use Rattle.volume_pair.proofs.WriteLemmas.{looked_written}

-- ---- A volume that is looked at.

-- the disk under the frames keeps the volume
pub under_side : (v : View) (fs : List File) (x : List Sector) (s : IsSide v fs x) → KeepsVolume x s.stands.sectors
under_side v fs x s = loose_keeps x s.stands.sectors (merged_differs [] s.stands.sectors v.slots x s.stands.merged (frames_loose v.slots s.frames)) s.can_open.right

pub looked_states : (v w : View) (fs : List File) (x : List Sector) (s : IsSide v fs x) → IsLookedAt v w → CrashStatesOf (λ k. KeepsVolume s.stands.sectors) 0 v.disk w.disk
looked_states v w fs x s h =
    let d = s.stands.sectors in
    let makes = makes_wider (with_own 0) (λ id page none. absurd none) h.makes in
    quiet_on d s.stands.revealed makes.wrote.writes makes.wrote.appended (pages_keep 0 (λ q. omega (arith, q)) v.disk w.disk v.slots d makes.wrote (frames_loose v.slots s.frames) (under_side v fs x s).stays.right (none_is_zero d))

module _ (from to : View) (volume : Volume) (p : Pair) (h : IsPaired from to volume p) where
  under : KeepsVolume h.second h.to_is.stands.sectors
  under = under_side to p.to h.second h.to_is

  -- nothing is written
  pub untouched_states : (after : List File) → ChangesFiles p.to after volume.root to.disk to.disk
  untouched_states after = none_states (record { contents = refl; writes = refl }) (λ d revealed. kept_in_use from to volume p h d (subst (KeepsVolume h.second) (same_Some h.to_is.stands.sectors d (sym h.to_is.stands.revealed ∙ revealed)) under))

  -- the volume is looked at
  pub asked_states : (w : View) (after : List File) → IsLookedAt to w → ChangesFiles p.to after volume.root to.disk w.disk
  asked_states w after looked = quiet_wider (looked_states to w p.to h.second h.to_is looked) (λ i e keeps. kept_in_use from to volume p h e (volume_then under keeps))

  -- and then it may change
  pub asked_then : (w u : View) (after : List File) → IsLookedAt to w → ChangesFiles p.to after volume.root w.disk u.disk → ChangesFiles p.to after volume.root to.disk u.disk
  asked_then w u after looked more =
      quiet_then (looked_states to w p.to h.second h.to_is looked) more (λ i e keeps. kept_in_use from to volume p h e (volume_then under keeps)) (λ i e is. is)

  -- ---- A copy is made.

  module _ (id : ℕ) (file : Attributes) (original : IsOriginal p.from id (Ok file)) (none : file_at p.to id ≡ None) (takes : Takes volume id file.pages) (of_file : is_file_id id ≡ true) where
    absent : (e : List Sector) → KeepsVolume h.second e → file_at (files_on e) id ≡ None
    absent e keeps = ap (λ (fs : List File). file_at fs id) (keeps.stays.files ∙ h.to_is.files_are) ∙ none

    -- the leader and the pages were made, or some
    pub made_broken : (v : View) → CreatedSome [] id file.kind file.pages h.second to.disk to.slots v.disk v.slots → ChangesFiles p.to (with_copy p id).to volume.root to.disk v.disk
    made_broken v some =
        quiet_wider (broken_states to v p.to h.second h.to_is id file.kind file.pages of_file none (few_pages from to volume p h id file original none takes) h.to_is.stands.sectors h.to_is.stands.revealed some)
        (λ i e keeps. kept_in_use from to volume p h e (volume_then under keeps))

    module _ (v : View) (created : CreatedBy id file.kind file.pages to.disk to.slots to.layout v.disk v.slots v.runs) (c : IsCopying v h.second p.to original.0 false false 0) (w : View) (writes : WritesPages id v w) where
      made : CrashStatesOf (λ k. KeepsVolume h.to_is.stands.sectors) 0 to.disk v.disk
      made = created_states to v p.to h.second h.to_is id file.kind file.pages of_file none (few_pages from to volume p h id file original none takes) h.to_is.stands.sectors h.to_is.stands.revealed created

      after_made : (e : List Sector) × (v.disk.contents ≡ Some e) × KeepsVolume h.to_is.stands.sectors e
      after_made = last_state made h.to_is.stands.sectors h.to_is.stands.revealed

      -- its pages got their bytes, or some
      filled : CrashStatesOf (λ k. KeepsVolume after_made.0) 0 v.disk w.disk
      filled =
          let keeps = volume_then under after_made.2 in
          quiet_on after_made.0 after_made.1 writes.makes.wrote.writes writes.makes.wrote.appended
          (pages_keep id (λ q. (let high = above_reserved id of_file in omega (arith, high, q))) v.disk w.disk v.slots after_made.0 writes.makes.wrote (frames_loose v.slots c.books.frames) keeps.stays.right
          (sym (laws.look_up false 0 0 after_made.0 id) ∙ absent after_made.0 keeps))

      both : CrashStatesOf (λ k. KeepsVolume h.to_is.stands.sectors) 0 to.disk w.disk
      both = quiet_then made filled (λ i e keeps. keeps) (λ i e keeps. volume_then after_made.2 keeps)

      pub filled_broken : ChangesFiles p.to (with_copy p id).to volume.root to.disk w.disk
      filled_broken = quiet_wider both (λ i e keeps. kept_in_use from to volume p h e (volume_then under keeps))

      -- and then it got its marks, or one of them
      module _ {layout : Layout} (u : View) (seals : (d : List Sector) → w.disk.contents ≡ Some d → LabelsRight d → file_at (files_on d) id ≡ None → CrashStatesOf (IsSealing h.second p.to original.0 layout d) 1 w.disk u.disk) where
        pub all_states : ChangesFiles p.to (with_copy p id).to volume.root to.disk u.disk
        all_states =
            let last = last_state both h.to_is.stands.sectors h.to_is.stands.revealed in
            let keeps = volume_then under last.2 in
            let states = seals last.0 last.1 keeps.stays.right (absent last.0 keeps) in
            quiet_then both states (λ i e kept. kept_in_use from to volume p h e (volume_then under kept)) (λ i e sealing. sealing_in_use from to volume p h id file original none takes layout last.0 e i keeps sealing)

-- as the call says it, where it is not refused
pub copy_states : (p : Pair) (id : ℕ) (root : Root) (a b : DiskState) → pair_refusal p (Copy id) ≡ None → ChangesFiles p.to (with_copy p id).to root a b → ChangesFiles p.to (next_pair p (Copy id)).to root a b
copy_states p id root a b is states = subst (λ (q : Pair). ChangesFiles p.to q.to root a b) (sym (ap (λ (o : Option PairRefusal). option_map_or (λ w. p) o (with_copy p id)) is)) states

-- ---- What is written on the second disk.

pub copy_writes : (from to : View) (volume : Volume) (id : ℕ) {T : Type 0} (result : Result T PairHalt) (w : View) → IsWrittenFor id to w → SyncsSecond result to.disk w.disk → ((p : Pair) → IsPaired from to volume p → ChangesFiles p.to (next_pair p (Copy id)).to volume.root to.disk w.disk) → WritesSecond (Copy id) result from to volume w
copy_writes from to volume id result w writes around states = record {
  labels = writes.labels;
  makes = writes.makes;
  layout = writes.layout;
  own = writes.own;
  around = around;
  compares = λ other is. absurd (subst IsCopy is tt);
  crash_states = states;
}
  where
    IsCopy : PairCall → Type 0
    IsCopy (Copy i) = Unit {0}
    IsCopy (Compare i) = ⊥

pub compare_writes : (from to : View) (volume : Volume) (id : ℕ) {T : Type 0} (result : Result T PairHalt) (w : View) → IsLookedAt to w → WritesSecond (Compare id) result from to volume w
compare_writes from to volume id result w looked = record {
  labels = (looked_written id looked).labels;
  makes = (looked_written id looked).makes;
  layout = looked.layout;
  own = writes_none no_file looked;
  around = looked_around result looked;
  compares = λ other is. looked;
  crash_states = λ p h. asked_states from to volume p h w (next_pair p (Compare id)).to looked;
}
