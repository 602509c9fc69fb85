-- In each crash state of a start and of an end the second volume has its files, and where it is closed it is sound.
use Rattle.std.proofs.Common.{◌≡◌, ◌⊎◌, inl, inr, ℕ, ◌<◌, ◌≤◌, ◌^◌, suc, true, false, not, List, [], ◌∷◌, length, Some, refl, sym, ◌∙◌, ap, subst, arith}
use Rattle.std.specs.Prelude.{slice_get, filter, option_map}
use Rattle.std.proofs.lemmas.Option.{same_Some}
use Rattle.labelled_disk.specs.declared.disk.DiskWrite.{DiskWrite}
use Rattle.labelled_disk.specs.declared.disk.DiskWrite.TheVariants as write
use Rattle.labelled_disk.specs.declared.label.Wanted.{Wanted}
use Rattle.labelled_disk.specs.Calls.{ReadsAtMost, RevealsSame, RevealsWrite}
use Rattle.labelled_disk.specs.CrashState.{written}
use Rattle.labelled_disk.specs.File.{File}
use Rattle.labelled_disk.specs.FilesOn.{files_on}
use Rattle.labelled_disk.specs.Label.{root_label}
use Rattle.labelled_disk.specs.Root.{counter_of, number_at, page_in, root_page, serial_of, short_at}
use Rattle.labelled_disk.specs.Sectors.{AreSectors, Sector}
use Rattle.labelled_disk.specs.State.{DiskState}
use Rattle.labelled_disk.specs.WriteRuns.{Appended, after_writes}
use Rattle.labelled_disk.proofs.Finds.{get_set_same}
use Rattle.labelled_disk.proofs.WriteRunLemmas.{appended_one}
use Rattle.frame_pool.specs.Frames.{Slots}
use Rattle.swapper_kernel.specs.Goes.{Makes, is_page_write, no_page}
use Rattle.filer_kernel.specs.View.{View}
use Rattle.label_calls.specs.Labels.{MayHaveWritten}
use Rattle.session_words.specs.Parts.{HasRoot}
use Rattle.volume_root.specs.declared.root.Root.{Root}
use Rattle.volume_root.specs.Flag.{FlagLaws, with_flag}
use Rattle.volume_root.specs.RootPage.{IsValidRoot, root_bytes, root_in, root_write}
use Rattle.volume_root.specs.Sound.{Sound}
use Rattle.volume_root.proofs.FlagLemmas.{flag_keeps_volume}
use Rattle.volume_root.proofs.WrittenLemmas.{counter_read, flag_read, serial_read}
use Rattle.pair_machine.specs.Pair.{Pair}
use Rattle.volume_pair.specs.declared.fault.PairStart.{PairStart}
use Rattle.volume_pair.specs.CrashStates.{HasFilesHonestly, HasFilesInUse, KeepsFiles}
use Rattle.volume_pair.specs.Ends.{HasClosed, HasVolume, IsBare, closed_root, in_use}
use Rattle.volume_pair.specs.Kept.{StartKeeps, StartWrote}
use Rattle.volume_pair.specs.Owned.{IsInUseAs}
use Rattle.volume_pair.specs.Sides.{IsLookedAt, IsSide}
use Rattle.volume_pair.proofs.CopyStateLemmas.{looked_states, under_side}
use Rattle.volume_pair.proofs.CrashStateLemmas.{none_states, one_write, quiet_wider, same_first}
use Rattle.volume_pair.proofs.EndLemmas.{has_closed}
use Rattle.volume_pair.proofs.KeepLemmas.{keeps_in_use, volume_then}
use Rattle.volume_pair.proofs.SideLemmas.{appended_nothing}
use Rattle.volume_pair.proofs.StartLemmas.{reads_written}

-- a volume in use is no closed one
pub in_use_honest : (fs : List File) (serial counter : ℕ) (d : List Sector) → HasFilesInUse fs serial counter d → HasFilesHonestly fs serial counter d
in_use_honest fs serial counter d h = (h.0, λ closed. absurd (let flag = h.1 in omega (arith, flag, closed)))

-- ---- The end.

-- the maps are written
pub map_states : (v w : View) (p : Pair) (root : Root) (y : List Sector) (side : IsSide v p.to y) → HasRoot (length y) (slice_get y 0) root.serial root.counter p.capacity → IsLookedAt v w → KeepsFiles p.to root.serial root.counter v.disk w.disk
map_states v w p root y side has_root looked =
    quiet_wider (looked_states v w p.to y side looked)
    (λ i e keeps. in_use_honest p.to root.serial root.counter e (keeps_in_use y e p.to (length y) root.serial root.counter p.capacity side.files_are has_root (volume_then (under_side v p.to y side) keeps)))

-- then the root is
module _ (p : Pair) (root : Root) (a : DiskState) (h : HasVolume p root a) (valid : IsValidRoot (length h.sectors) root) where
  before : HasFilesHonestly p.to root.serial root.counter h.sectors
  before = in_use_honest p.to root.serial root.counter h.sectors (
    record { files_are = h.files; right = h.can_open.right; same_serial = h.has_root.has_serial; same_counter = h.has_root.has_counter },
    h.has_root.open_flag,
  )

  module _ (b : DiskState) (made : RevealsWrite (root_write (closed_root root)) a b) where
    closed : HasClosed p root (record b { synced = true })
    closed = has_closed p root a h valid b (record b { synced = true }) made refl refl

    at : closed.sectors ≡ written (root_write (closed_root root)) h.sectors
    at = same_Some closed.sectors (written (root_write (closed_root root)) h.sectors) (sym closed.revealed ∙ made.contents ∙ ap (option_map (written (root_write (closed_root root)))) h.revealed)

    after : HasFilesHonestly p.to root.serial root.counter (written (root_write (closed_root root)) h.sectors)
    after = subst (HasFilesHonestly p.to root.serial root.counter) at (
      record { files_are = closed.files; right = closed.sound.labels; same_serial = closed.same_serial; same_counter = closed.same_counter },
      λ flag. closed.sound,
    )

  pub root_states : (b : DiskState) → RevealsSame a b ⊎ RevealsWrite (root_write (closed_root root)) a b → KeepsFiles p.to root.serial root.counter a b
  root_states b (inl same) = none_states same (λ d revealed. subst (HasFilesHonestly p.to root.serial root.counter) (same_Some h.sectors d (sym h.revealed ∙ revealed)) before)
  root_states b (inr made) = one_write h.sectors h.revealed (root_write (closed_root root)) (appended_one (root_write (closed_root root)) made) before (after b made)

-- ---- The start.

-- nothing but labels was written
only_labels : (ws : List DiskWrite) → ((k sector : ℕ) (wanted : Wanted) (bytes : List ℕ) → slice_get ws k ≡ Some (write.Page sector wanted bytes) → ⊥) → filter (λ w. not (is_page_write w)) ws ≡ ws
only_labels [] pages = refl
only_labels (write.Whole sector label bytes ∷ ws) pages = ap (λ (l : List DiskWrite). write.Whole sector label bytes ∷ l) (only_labels ws (λ k s v b at. pages (suc k) s v b at))
only_labels (write.LabelOnly sector label ∷ ws) pages = ap (λ (l : List DiskWrite). write.LabelOnly sector label ∷ l) (only_labels ws (λ k s v b at. pages (suc k) s v b at))
only_labels (write.Page sector wanted bytes ∷ ws) pages = absurd (pages 0 sector wanted bytes refl)

-- where no frame is, the run is all that was written
run_alone : {run : List DiskWrite} {a b : DiskState} {slots after : Slots} → IsBare slots → Makes no_page run a slots b after → Appended run a b
run_alone {a = a} {b = b} bare makes =
    let all = only_labels makes.wrote.writes (λ k sector wanted bytes at. elim (makes.wrote.of_dirty k sector wanted bytes at) [ inl was ↦ bare was.slot was.frame was.has | inr none ↦ none ]) in
    subst (λ (ws : List DiskWrite). Appended ws a b) (sym all ∙ makes.wrote.labels) makes.wrote.appended

-- the root of the volume in use stands there, over any contents
pub in_use_as : (root : Root) {a b c : DiskState} {slots after : Slots} → root.serial < 2 ^ 32 → root.counter < 2 ^ 32 → IsBare slots → Makes no_page (root_write (in_use root) ∷ []) a slots b after → RevealsSame b c → (d e : List Sector) → 1 ≤ length d → a.contents ≡ Some d
    → root ≡ root_in (root_page d) → c.contents ≡ Some e → IsInUseAs d e
in_use_as root serial counter bare makes same d e some revealed is now =
    let r = in_use root in
    let one = run_alone bare makes in
    let last : written (root_write r) d ≡ e = same_Some (written (root_write r) d) e (sym (same.contents ∙ one.contents ∙ ap (option_map (after_writes (root_write r ∷ []))) revealed) ∙ now) in
    let page : root_page e ≡ root_bytes r = ap root_page (sym last) ∙ ap page_in (get_set_same d 0 (root_label, root_bytes r) some) in
    record {
      open_flag = ap (λ (p : List ℕ). short_at p 10) page ∙ flag_read r;
      same_serial = ap (λ (p : List ℕ). number_at p 16) page ∙ serial_read r serial ∙ ap (λ (q : Root). q.serial) is;
      same_counter = ap (λ (p : List ℕ). number_at p 20) page ∙ counter_read r counter ∙ ap (λ (q : Root). q.counter) is;
    }

-- a volume that was closed
pub sound_before : (d : List Sector) → Sound d → HasFilesHonestly (files_on d) (serial_of d) (counter_of d) d
sound_before d sound = (record { files_are = refl; right = sound.labels; same_serial = refl; same_counter = refl }, λ flag. sound)

pub reads_same : {n : ℕ} {a b : DiskState} → ReadsAtMost n a b → RevealsSame a b
reads_same reads = record { contents = reads.only.contents; writes = reads.only.writes }

-- nothing was written
pub early_states : {n : ℕ} {a b : DiskState} → ReadsAtMost n a b → StartKeeps a b
early_states reads d revealed sound =
    none_states (reads_same reads) (λ e here. subst (HasFilesHonestly (files_on d) (serial_of d) (counter_of d)) (same_Some d e (sym revealed ∙ here)) (sound_before d sound))

pub reads_early : {n : ℕ} {a b : DiskState} (why : PairStart) → ReadsAtMost n a b → StartWrote why a b
reads_early why h = record { written = reads_written h; early = λ is. h.only; crash_states = early_states h }

-- the disk was read, and then the volume was put in use
pub started_states : {n : ℕ} {a b c : DiskState} → ReadsAtMost n a b → ((e : List Sector) → b.contents ≡ Some e → Sound e → KeepsFiles (files_on e) (serial_of e) (counter_of e) b c) → StartKeeps a c
started_states reads more e revealed sound = same_first (reads_same reads) (more e (reads.only.contents ∙ revealed) sound)

-- the root is written, or not
module _ (d : List Sector) (sectors : AreSectors d) (sound : Sound d) (root : Root) (same_root : root ≡ root_in (root_page d)) where
  laws : FlagLaws d
  laws = flag_keeps_volume d sectors sound.labels.has_root

  opened : HasFilesHonestly (files_on d) (serial_of d) (counter_of d) (written (root_write (in_use root)) d)
  opened = subst (HasFilesHonestly (files_on d) (serial_of d) (counter_of d)) (ap (λ (r : Root). written (root_write (in_use r)) d) (sym same_root))
      (in_use_honest (files_on d) (serial_of d) (counter_of d) (with_flag false d) (
        record { files_are = laws.files false; right = laws.right false sound.labels; same_serial = laws.has_serial false; same_counter = laws.has_counter false },
        laws.flag false,
      ))

  pub root_made_states : (a b : DiskState) (slots frames : Slots) → a.contents ≡ Some d → IsBare slots → Makes no_page (root_write (in_use root) ∷ []) a slots b frames → KeepsFiles (files_on d) (serial_of d) (counter_of d) a b
  root_made_states a b slots frames revealed bare makes = one_write d revealed (root_write (in_use root)) (run_alone bare makes) (sound_before d sound) opened

  pub may_made_states : (a b : DiskState) (slots : Slots) → a.contents ≡ Some d → IsBare slots → MayHaveWritten (root_write (in_use root)) a slots b → KeepsFiles (files_on d) (serial_of d) (counter_of d) a b
  may_made_states a b slots revealed bare (inl none) = none_states (appended_nothing (run_alone bare none)) (λ e here. subst (HasFilesHonestly (files_on d) (serial_of d) (counter_of d)) (same_Some d e (sym revealed ∙ here)) (sound_before d sound))
  may_made_states a b slots revealed bare (inr made) = root_made_states a b slots slots revealed bare made
