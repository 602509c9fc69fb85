-- A session on a volume that was just made.
use Rattle.std.proofs.Common.{◌≡◌, ℕ, List, [], ◌∷◌, length, Option, Some, Result, Err, refl, sym, ◌∙◌, ap, subst, arith}
use Rattle.std.proofs.lemmas.List.FromFn.{length-map-range_with_len}
use Rattle.labelled_disk.specs.declared.evidence.Halt.{Halt}
use Rattle.labelled_disk.specs.declared.evidence.Halt.TheVariants as halt
use Rattle.labelled_disk.specs.declared.layout.Layout.{Layout}
use Rattle.labelled_disk.specs.declared.layout.RootFault.{RootFault}
use Rattle.labelled_disk.specs.declared.layout.RootFault.TheVariants as fault
use Rattle.labelled_disk.specs.Calls.{OnlyReads}
use Rattle.labelled_disk.specs.Layout.{IsCount, capacity, layout_of}
use Rattle.labelled_disk.specs.Root.{page_in, root_page}
use Rattle.labelled_disk.specs.Sectors.{Sector}
use Rattle.labelled_disk.specs.State.{DiskState}
use Rattle.labelled_disk.proofs.Finds.{get_set_same}
use Rattle.labelled_disk.proofs.WriteRunLemmas.{appended_none}
use Rattle.frame_pool.specs.Frames.{Slots}
use Rattle.flat_machine.specs.Machine.{Machine}
use Rattle.flat_machine.specs.Space.{root}
use Rattle.flat_machine.specs.Start.{opened, start}
use Rattle.swapper_kernel.specs.Goes.{Went}
use Rattle.filer_kernel.specs.Evidence.{ShowsEvidence}
use Rattle.volume_root.specs.declared.root.Root.{Root}
use Rattle.volume_root.specs.Format.{formatted, new_root, new_sector, new_sectors, IsFormatFault}
use Rattle.volume_root.specs.FormatLaws.{IsEmptyVolume}
use Rattle.volume_root.specs.Later.{IsLater}
use Rattle.volume_root.specs.RootPage.{IsValidRoot, root_bytes, root_in}
use Rattle.labelled_disk.specs.Label.{root_label}
use Rattle.volume_root.specs.Sound.{Sound}
use Rattle.volume_root.proofs.NewVolume.{new_is_empty}
use Rattle.volume_root.proofs.WrittenLemmas.{root_read}
use Rattle.pilot_engine.specs.declared.fault.StartFault.{StartFault}
use Rattle.pilot_engine.specs.declared.fault.StartFault.TheVariants.{Root as NoRoot, NoMemory, Halt as Halted}
use Rattle.pilot_engine.specs.Fresh.{BeganVolume, HasFreshCause, IsFreshFault, MadeVolume, WroteOnNew}
use Rattle.pilot_engine.specs.NewCrashStates.{KeepsNew}
use Rattle.pilot_engine.specs.Opening.{IsBare, IsDiskFault, IsEarly, IsOutside, LeavesOpen, StartsSome}
use Rattle.pilot_engine.proofs.StartCrashStates.{files_kept}
use Rattle.pilot_engine.proofs.StartWrites.{start_wrote}

module _ (n : ℕ) (count : IsCount n) where
  made : IsEmptyVolume n 1 1 (formatted n 1 1)
  made = new_is_empty n 1 1 count (omega arith) (omega arith) (omega arith) (omega arith)

  -- its root is the one that was written
  same_root : new_root n 1 1 ≡ root_in (root_page (formatted n 1 1))
  same_root =
      let long = length-map-range_with_len (new_sector (layout_of n)) 0 n in
      let there = get_set_same (new_sectors (layout_of n) n) 0 (root_label, root_bytes (new_root n 1 1)) (let c = count.0 in omega (arith, long, c)) in
      sym (root_read n (new_root n 1 1) (record { version = refl; accepted = count; count = refl; serial = omega arith; counter = omega arith }) (omega arith) (omega arith))
      ∙ ap (λ (s : Option Sector). root_in (page_in s)) (sym there)

  -- and it starts the machine without files
  same_start : start (formatted n 1 1) ≡ opened 1 1 (capacity n)
  same_start = λ i. record {
    files = made.no_files i;
    spaces = root ∷ [];
    serial = made.has_serial i;
    counter = made.has_counter i;
    capacity = capacity (made.sectors i);
    unforced = [];
  }

-- what is so of each sound volume, with its root and the machine that it starts, is so of the new one
pub fresh_volume : (P : Machine → Type 0) (before now : DiskState) (d : List Sector) (r : Root) → length d ≡ before.sectors → IsCount before.sectors → r ≡ new_root before.sectors 1 1
    → now.contents ≡ Some (formatted (length d) 1 1)
    → ((e : List Sector) → now.contents ≡ Some e → Sound e → r ≡ root_in (root_page e) → P (start e)) → P (opened 1 1 (capacity before.sectors))
fresh_volume P before now d r long count is revealed all =
    let n = before.sectors in
    let there : now.contents ≡ Some (formatted n 1 1) = revealed ∙ ap (λ (k : ℕ). Some (formatted k 1 1)) long in
    subst P (same_start n count) (all (formatted n 1 1) there (made n count).sound (is ∙ same_root n count))

-- on a disk that can hold a volume, none is made only where the disk failed
pub failed_alone : (n : ℕ) → IsCount n → (why : RootFault) → IsFormatFault why → ((k : ℕ) → ◌≡◌ {A = Result Layout RootFault} (Err why) (Err (fault.BadCount k)) → (¬ IsCount n) × (k ≡ n)) → ◌≡◌ {A = Result Layout RootFault} (Err why) (Err fault.Disk)
failed_alone n count fault.Disk is bad = refl
failed_alone n count (fault.BadCount k) is bad = absurd ((bad k refl).0 count)
failed_alone n count (fault.NotVolume x) is bad = absurd is
failed_alone n count fault.Unclean is bad = absurd is
failed_alone n count (fault.Version x) is bad = absurd is

-- ---- Before the volume is made.

module _ (n : ℕ) where
  -- a count that no volume has is why none starts
  pub fresh_count : (f : StartFault) → IsFreshFault n f → ¬ IsCount n → f ≡ NoRoot (fault.BadCount n)
  fresh_count (NoRoot why) is none = ap NoRoot is.1
  fresh_count NoMemory is none = absurd (none is)
  fresh_count (Halted why) is none = absurd (none is)

  -- and where one has it, it is the memory
  pub fresh_outside : (f : StartFault) → IsFreshFault n f → IsEarly f → IsCount n → IsOutside f
  fresh_outside (NoRoot why) is early count = absurd (is.0 count)
  fresh_outside NoMemory is early count = tt
  fresh_outside (Halted why) is early count = absurd early

  -- never the disk
  pub fresh_held : (f : StartFault) → IsFreshFault n f → IsEarly f → IsDiskFault f → ⊥
  fresh_held (NoRoot why) is early failed = cc (sym is.1 ∙ failed)
  fresh_held NoMemory is early failed = failed
  fresh_held (Halted why) is early failed = early

pub early_fresh : (old new : DiskState) (f : StartFault) → IsEarly f → HasFreshCause old new f
early_fresh old new (NoRoot why) early = tt
early_fresh old new NoMemory early = tt
early_fresh old new (Halted why) early = absurd early

-- nothing was done
pub reads_none : (d : DiskState) → OnlyReads d d
reads_none d = record { sectors = refl; contents = refl; writes = refl; syncs = refl; lent = refl; faults = omega arith; transfers = omega arith; synced = λ s. s }

pub began_none : (d : DiskState) → BeganVolume d d
began_none d = (0, omega arith, appended_none (record { contents = refl; writes = refl }))

pub later_none : (d : DiskState) → IsLater d d
later_none d = record { sectors = refl; lent = refl; faults = omega arith }

-- ---- And after it.

pub later_begun : {a b c : DiskState} → IsLater a b → Went b c → IsLater a c
later_begun first went = record { sectors = went.sectors ∙ first.sectors; lent = went.lent ∙ first.lent; faults = omega (arith, first.faults, went.faults) }

-- where the disk alone failed no damage is shown
pub disk_evident : (disk : DiskState) (h : Halt) → h ≡ halt.Disk → ShowsEvidence disk h
disk_evident disk h is = subst (λ (x : Halt). ShowsEvidence disk x) (sym is) tt

pub disk_open : (disk : DiskState) (h : Halt) → h ≡ halt.Disk → LeavesOpen disk h
disk_open disk h is = subst (λ (x : Halt). LeavesOpen disk x) (sym is) tt

-- what a start wrote on the volume that was made
pub wrote_on_new : {old made new : DiskState} {s t : Slots} → MadeVolume old made → (root : Root) → root ≡ new_root old.sectors 1 1 → IsBare s → StartsSome root made s new t → WroteOnNew old new
wrote_on_new {made = made} volume root same bare starts = record {
  made = made;
  volume = volume;
  wrote = start_wrote (reads_none made) root bare starts;
  root = same;
}

-- and what stands in each crash state of it
pub keeps_new : {old made_so new : DiskState} {s t : Slots} (d : List Sector) → length d ≡ old.sectors → IsCount old.sectors → old.contents ≡ Some d → MadeVolume old made_so → (root : Root) → root ≡ new_root old.sectors 1 1
    → IsBare s → StartsSome root made_so s new t → KeepsNew old new
keeps_new {old = old} {made_so = made_so} {new = new} {s = s} {t = t} d long count revealed volume root same bare starts =
    let n = old.sectors in
    let empty = made n count in
    let there : made_so.contents ≡ Some (formatted n 1 1) = volume.contents d revealed ∙ ap (λ (k : ℕ). Some (formatted k 1 1)) long in
    let valid : IsValidRoot n (new_root n 1 1) = record { version = refl; accepted = count; count = refl; serial = omega arith; counter = omega arith } in
    let kept = files_kept (formatted n 1 1) empty.sound.labels (new_root n 1 1) (subst (λ (k : ℕ). IsValidRoot k (new_root n 1 1)) (sym empty.sectors) valid) (omega arith) (omega arith) (sym empty.has_serial) (sym empty.has_counter)
    made_so new s t there bare (subst (λ (r : Root). StartsSome r made_so s new t) same starts) in
    record {
      made = made_so;
      volume = volume;
      writes = kept.writes;
      appended = kept.appended;
      right = λ k. (kept.right k).right;
      no_files = λ k. (kept.right k).files ∙ empty.no_files;
      has_serial = λ k. kept.same_serial k ∙ empty.has_serial;
      has_counter = λ k. kept.same_counter k ∙ empty.has_counter;
      opened = kept.opened;
    }
