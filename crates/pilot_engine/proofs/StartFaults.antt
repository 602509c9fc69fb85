-- Why no session starts.
use Rattle.std.proofs.Common.{◌≡◌, ◌⊎◌, inl, inr, ℕ, zero, suc, Bool, true, false, List, length, replicate, Option, Some, None, Result, Ok, Err, refl, sym, ◌∙◌, ap, subst, arith}
use Rattle.std.specs.Prelude.{slice_get, nat_le}
use Rattle.std.specs.Option.{option_map_or}
use Rattle.std.proofs.lemmas.Bool.{true≢false, le-leb, leb-true}
use Rattle.std.proofs.lemmas.List.{length-replicate}
use Rattle.std.proofs.lemmas.Option.{same_Some, none-some}
use Rattle.labelled_disk.specs.declared.layout.Layout.{Layout}
use Rattle.labelled_disk.specs.declared.layout.RootFault.{RootFault}
use Rattle.labelled_disk.specs.declared.layout.RootFault.TheVariants as fault
use Rattle.labelled_disk.specs.Layout.{IsCount}
use Rattle.labelled_disk.specs.Root.{root_page, page_in}
use Rattle.labelled_disk.specs.Sectors.{Sector, AreSectors}
use Rattle.labelled_disk.specs.State.{DiskState}
use Rattle.frame_pool.specs.Frames.{Slots, Frame}
use Rattle.volume_root.specs.declared.root.Root.{Root}
use Rattle.volume_root.specs.Flag.{IsRefused}
use Rattle.volume_root.specs.RootPage.{first_of, judged, root_in, tests, IsUnlessFault, Test}
use Rattle.volume_root.specs.Sound.{Sound}
use Rattle.volume_root.proofs.FlagLemmas.{sound_is_opened}
use Rattle.file_manager.specs.Reasons.{InitialState}
use Rattle.file_manager.proofs.RunStages.{there_is}
use Rattle.pilot_engine.specs.declared.fault.StartFault.{StartFault}
use Rattle.pilot_engine.specs.declared.fault.StartFault.TheVariants.{Root as NoRoot, NoMemory, Halt as Halted}
use Rattle.pilot_engine.specs.Beginning.{HasStartCause}
use Rattle.pilot_engine.specs.Opening.{IsBare, IsEarly, IsOutside, IsRightRefusal, IsSoAtStart, LeavesOpenAtStart}
use Rattle.pilot_engine.specs.Reasons.{ShowsReasonAtStart, NeverBlamesFilesAtStart}

-- empty slots have no frame
pub bare_slots : (n : ℕ) (slots : Slots) → slots ≡ replicate n None → IsBare slots
bare_slots n slots same i f has = none_there n i (sym (ap (λ (l : Slots). slice_get l i) same) ∙ has.is)
  where
    none_there : (n i : ℕ) → ◌≡◌ {A = Option (Option Frame)} (slice_get (replicate n None) i) (Some (Some f)) → ⊥
    none_there zero i e = none-some (Some f) e
    none_there (suc n) zero e = none-some f (same_Some None (Some f) e)
    none_there (suc n) (suc i) e = none_there n i e

-- there are as many of them
pub bare_count : (n : ℕ) (slots : Slots) → slots ≡ replicate n None → length slots ≡ n
bare_count n slots same = ap (λ (l : Slots). length l) same ∙ length-replicate n None

-- a number of sectors can hold a volume, or it can't
count_or_not : (n : ℕ) → IsCount n ⊎ (¬ IsCount n)
count_or_not n = either (nat_le 256 n) refl (nat_le n 1048576) refl
  where
    either : (p : Bool) → nat_le 256 n ≡ p → (q : Bool) → nat_le n 1048576 ≡ q → IsCount n ⊎ (¬ IsCount n)
    either true a true b = inl (leb-true 256 n a, leb-true n 1048576 b)
    either false a q b = inr (λ c. true≢false (sym (le-leb 256 n c.0) ∙ a))
    either true a false b = inr (λ c. true≢false (sym (le-leb n 1048576 c.1) ∙ b))

-- the disk failed, or the answer is the right one
unless : (why : RootFault) (right : Result Root RootFault) → IsUnlessFault (Err why) right → (why ≡ fault.Disk) ⊎ (◌≡◌ {A = Result Root RootFault} (Err why) right)
unless fault.Disk right is = inl refl
unless (fault.NotVolume x) right is = inr is
unless fault.Unclean right is = inr is
unless (fault.Version x) right is = inr is
unless (fault.BadCount x) right is = inr is

abbrev fault_in : Result Root RootFault → RootFault
fault_in (Ok r) = fault.Disk
fault_in (Err why) = why

-- why the root was refused
abbrev root_fault : StartFault → RootFault
root_fault (NoRoot why) = why
root_fault NoMemory = fault.Disk
root_fault (Halted why) = fault.Disk

module _ (n : ℕ) (result : Result Root RootFault) (found : RootFault) (is : result ≡ Err found) where
  -- a count that no volume has is why
  pub count_so : (¬ IsCount n → result ≡ Err (fault.BadCount n)) → ¬ IsCount n → NoRoot found ≡ NoRoot (fault.BadCount n)
  count_so none never = ap NoRoot (ap fault_in (sym is ∙ none never))

  -- and where one is, no volume has it
  pub bad_count_so : ((k : ℕ) → result ≡ Err (fault.BadCount k) → ¬ IsCount n × (k ≡ n)) → (k : ℕ) → NoRoot found ≡ NoRoot (fault.BadCount k) → ¬ IsCount n × (k ≡ n)
  bad_count_so bad k same = bad k (is ∙ ap (λ (f : StartFault). Err (root_fault f)) same)

module _ (d : List Sector) (n : ℕ) (long : length d ≡ n) (result : Result Root RootFault) (none : ¬ IsCount n → result ≡ Err (fault.BadCount n))
    (given : IsCount n → (s : Sector) → slice_get d 0 ≡ Some s → IsUnlessFault result (judged true (length d) s)) where
  module _ (found : RootFault) (is : result ≡ Err found) where
    -- a volume that is refused is refused for this
    pub refused_so : (why : RootFault) → IsRefused d why → (NoRoot found ≡ NoRoot why) ⊎ (NoRoot found ≡ NoRoot fault.Disk)
    refused_so why (inl bad) =
        let never : ¬ IsCount n = subst (λ (m : ℕ). ¬ IsCount m) long bad.0 in
        let same : found ≡ fault.BadCount n = ap fault_in (sym is ∙ none never) in
        inl (ap NoRoot (same ∙ ap fault.BadCount (sym long) ∙ sym bad.1))
    refused_so why (inr bad) =
        let answer = subst (λ (r : Result Root RootFault). IsUnlessFault r (judged true (length d) bad.1)) is (given (subst IsCount long bad.0) bad.1 bad.2) in
        elim (unless found (judged true (length d) bad.1) answer) [
          | inl disk ↦ inr (ap NoRoot disk)
          | inr right ↦ inl (ap NoRoot (ap fault_in (right ∙ bad.3)))
        ]

    -- and what it is refused for is right
    pub right_so : (found ≡ fault.Disk) ⊎ IsRefused d found
    right_so = elim (count_or_not n) [
      | inl count ↦
          let first = there_is d 0 (let c = count.0 in omega (arith, long, c)) in
          let answer = subst (λ (r : Result Root RootFault). IsUnlessFault r (judged true (length d) first.0)) is (given count first.0 first.1) in
          elim (unless found (judged true (length d) first.0) answer) [
            | inl disk ↦ inl disk
            | inr right ↦ inr (inr (subst IsCount (sym long) count, first.0, first.1, sym right))
          ]
      | inr never ↦ inr (inl (subst (λ (m : ℕ). ¬ IsCount m) (sym long) never, ap fault_in (sym is ∙ none never) ∙ ap fault.BadCount (sym long)))
    ]

  -- a root that is read is the one that stands there
  pub root_there : (root : Root) → result ≡ Ok root → IsCount n → root ≡ root_in (root_page d)
  root_there root is count =
      let first = there_is d 0 (let c = count.0 in omega (arith, long, c)) in
      let answer : Ok root ≡ judged true (length d) first.0 = subst (λ (r : Result Root RootFault). IsUnlessFault r (judged true (length d) first.0)) is (given count first.0 first.1) in
      either first.0 root (first_of (tests true (length d) first.0.0 first.0.1)) answer ∙ ap (λ (o : Option Sector). root_in (page_in o)) (sym first.1)
    where
      either : (s : Sector) (root : Root) (t : Test) → Ok root ≡ option_map_or (λ (why : RootFault). Err why) t (Ok (root_in s.1)) → root ≡ root_in s.1
      either s root None e = cc e
      either s root (Some why) e = absurd (cc e)

-- on a sound volume it is the disk or the memory
pub early_outside : (d : List Sector) → AreSectors d → Sound d → (e : StartFault) → IsEarly e → IsRightRefusal d e → IsOutside e
early_outside d sectors sound (NoRoot why) early (inl disk) = disk
early_outside d sectors sound (NoRoot why) early (inr refused) = absurd (sound_is_opened d sectors sound why refused)
early_outside d sectors sound NoMemory early right = tt
early_outside d sectors sound (Halted why) early right = absurd early

-- before the first write nothing shows damage
pub early_so : (disk : DiskState) (f : StartFault) → IsEarly f → IsSoAtStart disk f
early_so disk (NoRoot why) early = tt
early_so disk NoMemory early = tt
early_so disk (Halted why) early = absurd early

pub early_left : (disk : DiskState) (f : StartFault) → IsEarly f → LeavesOpenAtStart disk f
early_left disk (NoRoot why) early = tt
early_left disk NoMemory early = tt
early_left disk (Halted why) early = absurd early

-- no evidence is revealed
pub early_reason : (o : InitialState) (layout : Layout) (disk : DiskState) (f : StartFault) → IsEarly f → ShowsReasonAtStart o layout disk f
early_reason o layout disk (NoRoot why) early = tt
early_reason o layout disk NoMemory early = tt
early_reason o layout disk (Halted why) early = absurd early

-- no page of the space tables is reported as broken, nor one of a file as missing
pub early_never_blames : (f : StartFault) → IsEarly f → NeverBlamesFilesAtStart f
early_never_blames (NoRoot why) early = tt
early_never_blames NoMemory early = tt
early_never_blames (Halted why) early = absurd early

-- nor is there a halt
pub early_cause : (old new : DiskState) (f : StartFault) → IsEarly f → HasStartCause old new f
early_cause old new (NoRoot why) early = tt
early_cause old new NoMemory early = tt
early_cause old new (Halted why) early = absurd early
