-- The roots of both volumes of a `replicate` were looked at.
use Rattle.std.proofs.Common.{◌≡◌, ◌≢◌, ◌⊎◌, inl, inr, ℕ, true, List, length, Option, Some, Result, Ok, Err, refl, sym, ap, ◌∙◌, subst, slice_get, arith}
use Rattle.labelled_disk.proofs.CallLemmas.{only_reads_itself}
use Rattle.labelled_disk.specs.declared.layout.RootFault.{RootFault}
use Rattle.labelled_disk.specs.declared.layout.RootFault.TheVariants as fault
use Rattle.labelled_disk.specs.Calls.{OnlyReads, Rose}
use Rattle.labelled_disk.specs.Layout.{IsCount}
use Rattle.labelled_disk.specs.Sectors.{AreSectors, Sector}
use Rattle.labelled_disk.specs.State.{DiskState}
use Rattle.trace_io.specs.PairReading.{pair_reading}
use Rattle.volume_root.proofs.FlagLemmas.{sound_is_opened}
use Rattle.volume_root.specs.declared.root.Root.{Root}
use Rattle.volume_root.specs.Flag.{IsRefused}
use Rattle.volume_root.specs.RootPage.{IsUnlessFault, judged}
use Rattle.volume_root.specs.Sound.{Sound}
use Rattle.volume_pair.specs.declared.fault.PairStart.{PairStart}
use Rattle.volume_pair.specs.declared.fault.PairStart.TheVariants as unstarted
use Rattle.pair_session.specs.Causes.{IfNotStarted}
use Rattle.pair_session.specs.declared.outcome.Outcome.{Outcome}
use Rattle.pair_session.specs.declared.outcome.Outcome.TheVariants as outcome
use Rattle.pilot_engine.proofs.StartFaults.{refused_so, right_so}
use Rattle.pilot_top.specs.Replicating.{JudgesRoots, RanLines, RefusesRoots, cause_unstarted, status_unstarted}
use Rattle.pilot_top.specs.World.{world}
use Rattle.pilot_top.specs.declared.last.Cause.TheVariants as cause
use Rattle.pilot_top.specs.declared.last.OtherCause.TheVariants as other
use Rattle.pilot_top.specs.declared.status.Status.TheVariants as status
use Rattle.pilot_top.proofs.QueuedRuns.{root_opened}
use Rattle.pilot_top.proofs.ReplicatedStates.{keeps_read, none_replied, none_taken}
use Rattle.pilot_top.proofs.ReplicatingLemmas.{none_permitted, only_read}

-- ---- A root that was looked at.

-- why a volume that is not refused was
pub not_first : (why : RootFault) → why ≢ fault.Disk → (status_unstarted (unstarted.From why) ≡ status.NotOpened) × (cause_unstarted (unstarted.From why) ≡ Some (cause.Root why))
not_first fault.Disk apart = absurd (apart refl)
not_first (fault.NotVolume what) apart = (refl, refl)
not_first fault.Unclean apart = (refl, refl)
not_first (fault.Version v) apart = (refl, refl)
not_first (fault.BadCount n) apart = (refl, refl)

pub not_second : (why : RootFault) → why ≢ fault.Disk → (status_unstarted (unstarted.To why) ≡ status.NotOpened) × (cause_unstarted (unstarted.To why) ≡ Some (cause.Other (other.Root why)))
not_second fault.Disk apart = absurd (apart refl)
not_second (fault.NotVolume what) apart = (refl, refl)
not_second fault.Unclean apart = (refl, refl)
not_second (fault.Version v) apart = (refl, refl)
not_second (fault.BadCount n) apart = (refl, refl)

-- What is known of a root that was read.
pub record HasReadRoot (disk new : DiskState) (result : Result Root RootFault) : Type 0 where
  pub whole : (d : List Sector) → disk.contents ≡ Some d → length d ≡ disk.sectors
  pub form : (d : List Sector) → disk.contents ≡ Some d → AreSectors d
  pub count : ¬ IsCount disk.sectors → result ≡ Err (fault.BadCount disk.sectors)
  pub judges : IsCount disk.sectors → (d : List Sector) → disk.contents ≡ Some d → (s : Sector) → slice_get d 0 ≡ Some s → IsUnlessFault result (judged true (length d) s)
  pub cause : result ≡ Err fault.Disk → Rose disk.faults new.faults
  pub reads : OnlyReads disk new

module _ (disk new : DiskState) (result : Result Root RootFault) (root : HasReadRoot disk new result) where
  module _ (why : RootFault) (is : result ≡ Err why) where
    -- the first test that fails is why, or the disk failed
    right : (d : List Sector) → disk.contents ≡ Some d → (why ≡ fault.Disk) ⊎ IsRefused d why
    right d revealed = right_so d disk.sectors (root.whole d revealed) result root.count (λ count. root.judges count d revealed) why is

    refused_for : (d : List Sector) (w : RootFault) → disk.contents ≡ Some d → IsRefused d w → (why ≡ w) ⊎ (why ≡ fault.Disk)
    refused_for d w revealed refused =
        elim (refused_so d disk.sectors (root.whole d revealed) result root.count (λ count. root.judges count d revealed) why is w refused) [
          | inl same ↦ inl (cc same)
          | inr same ↦ inr (cc same)
        ]

    counted_for : ¬ IsCount disk.sectors → why ≡ fault.BadCount disk.sectors
    counted_for none = let both = sym is ∙ root.count none in cc both

    outside : (d : List Sector) → disk.contents ≡ Some d → Sound d → why ≡ fault.Disk
    outside d revealed sound = elim (right d revealed) [
      | inl disk_failed ↦ disk_failed
      | inr refused ↦ absurd (sound_is_opened d (root.form d revealed) sound why refused)
    ]

    failed_for : why ≡ fault.Disk → Rose disk.faults new.faults
    failed_for failed = root.cause (is ∙ ap (λ (w : RootFault). Err w) failed)

  module _ (found : Root) (is : result ≡ Ok found) (accepted : IsCount disk.sectors) where
    open_for : (d : List Sector) (w : RootFault) → disk.contents ≡ Some d → IsRefused d w → ⊥
    open_for d w revealed refused = root_opened d disk.sectors (root.whole d revealed) result found is accepted (λ count. root.judges count d revealed) w refused

module _ (from to new_from new_to : DiskState) (first : Result Root RootFault) (root : HasReadRoot from new_from first) where
  -- the first volume can't be opened
  pub first_refused : (why : RootFault) → first ≡ Err why → JudgesRoots (Err (unstarted.From why)) from to new_from to
  first_refused why is = record {
    from_reads = root.reads;
    to_reads = only_reads_itself to;
    first = λ d w revealed refused. elim (refused_for from new_from first root why is d w revealed refused) [
      | inl same ↦ inl (ap (λ (x : RootFault). Err (unstarted.From x)) same)
      | inr same ↦ inr (ap (λ (x : RootFault). Err (unstarted.From x)) same)
    ];
    second = λ e w revealed refused. inr (inr (why, refl));
    first_count = λ none. ap (λ (x : RootFault). Err (unstarted.From x)) (counted_for from new_from first root why is none);
    second_count = λ none. inr (why, refl);
    right = λ d e revealed there. right from new_from first root why is d revealed;
    sound = λ d e revealed there sound sound_too. outside from new_from first root why is d revealed sound;
    shown = (tt, failed_for from new_from first root why is);
  }

  module _ (found : Root) (opened : first ≡ Ok found) (accepted : IsCount from.sectors) (second : Result Root RootFault) (root_too : HasReadRoot to new_to second) where
    -- the first can be opened, and the second can't
    pub second_refused : (why : RootFault) → second ≡ Err why → JudgesRoots (Err (unstarted.To why)) from to new_from new_to
    second_refused why is = record {
      from_reads = root.reads;
      to_reads = root_too.reads;
      first = λ d w revealed refused. absurd (open_for from new_from first root found opened accepted d w revealed refused);
      second = λ e w revealed refused. elim (refused_for to new_to second root_too why is e w revealed refused) [
        | inl same ↦ inl (ap (λ (x : RootFault). Err (unstarted.To x)) same)
        | inr same ↦ inr (inl (ap (λ (x : RootFault). Err (unstarted.To x)) same))
      ];
      first_count = λ none. absurd (none accepted);
      second_count = λ none. inl (ap (λ (x : RootFault). Err (unstarted.To x)) (counted_for to new_to second root_too why is none));
      right = λ d e revealed there. right to new_to second root_too why is e there;
      sound = λ d e revealed there sound sound_too. outside to new_to second root_too why is e there sound_too;
      shown = (tt, failed_for to new_to second root_too why is);
    }

    -- both can
    pub both_opened : (found_too : Root) → second ≡ Ok found_too → IsCount to.sectors → JudgesRoots (Ok tt) from to new_from new_to
    both_opened found_too opened_too accepted_too = record {
      from_reads = root.reads;
      to_reads = root_too.reads;
      first = λ d w revealed refused. absurd (open_for from new_from first root found opened accepted d w revealed refused);
      second = λ e w revealed refused. absurd (open_for to new_to second root_too found_too opened_too accepted_too e w revealed refused);
      first_count = λ none. absurd (none accepted);
      second_count = λ none. absurd (none accepted_too);
      right = λ d e revealed there. tt;
      sound = λ d e revealed there sound sound_too. tt;
      shown = tt;
    }

-- ---- No pair started, since a root was refused.

same_why : {why w : PairStart} → ◌≡◌ {A = Result (Unit {0}) PairStart} (Err why) (Err w) → outcome.NotStarted why ≡ outcome.NotStarted w
same_why is = cc is

module _ (from to new_from new_to : DiskState) (why : PairStart) (judges : JudgesRoots (Err why) from to new_from new_to) where
  pub refused_lines : (left : Option (List ℕ)) (source_faults : ℕ) (took : Option (List ℕ)) (sink_faults : ℕ)
      → RanLines (outcome.NotStarted why) (world from left source_faults took sink_faults) (world new_from left source_faults took sink_faults) to new_to
  refused_lines left source_faults took sink_faults = record {
    replies = λ d e b t revealed there sound sound_too source sink. (source, sink, none_replied d e (pair_reading b) why to new_to judges.to_reads there sound_too (judges.sound d e revealed there sound sound_too));
    texts = λ b t source sink. (source, sink, none_taken why (pair_reading b) to new_to judges.to_reads);
    from = only_read judges.from_reads;
    to = record { permitted = none_permitted judges.to_reads; keeps = keeps_read judges.to_reads; early = λ early. judges.to_reads };
    judged = λ d e revealed there. record { none_starts = λ why refused. tt; refused = judges.right d e revealed there; starts = judges.sound d e revealed there; goes_on = λ sound sound_too. tt };
    shown = record { started = judges.shown.1; halted = tt };
    refuses = record {
      first = λ d w revealed refused. elim (judges.first d w revealed refused) [ inl is ↦ inl (inl (same_why is)) | inr is ↦ inr (same_why is) ];
      second = λ e w revealed refused. elim (judges.second e w revealed refused) [
        | inl is ↦ inl (inl (same_why is))
        | inr (inl is) ↦ inr (inl (same_why is))
        | inr (inr (x, is)) ↦ inr (inr (x, same_why is))
      ];
      first_count = λ none. inl (same_why (judges.first_count none));
      second_count = λ none. elim (judges.second_count none) [ inl is ↦ inl (inl (same_why is)) | inr (x, is) ↦ inr (x, same_why is) ];
    };
    reason = record {
      short = λ b source is. absurd (cc is);
      long = λ b source is. absurd (cc is);
      source = λ is. absurd (cc is);
      sink = λ is. absurd (cc is);
      source_later = omega arith;
      sink_later = omega arith;
    };
  }

-- where both can be opened, none is refused
pub none_refused : (how : Outcome) (from to new_from new_to : DiskState) → JudgesRoots (Ok tt) from to new_from new_to → RefusesRoots how from to
none_refused how from to new_from new_to judges = record {
  first = λ d w revealed refused. absurd (elim (judges.first d w revealed refused) [ inl is ↦ cc is | inr is ↦ cc is ]);
  second = λ e w revealed refused. absurd (elim (judges.second e w revealed refused) [ inl is ↦ cc is | inr (inl is) ↦ cc is | inr (inr (x, is)) ↦ cc is ]);
  first_count = λ none. absurd (let is = judges.first_count none in cc is);
  second_count = λ none. absurd (elim (judges.second_count none) [ inl is ↦ cc is | inr (x, is) ↦ cc is ]);
}

-- what holds where no pair started
pub of_unstarted : {P : Type 0} (how : Outcome) → IfNotStarted how (λ why. P) → (why : PairStart) → how ≡ outcome.NotStarted why → P
of_unstarted {P} how holds why is = subst (λ (h : Outcome). IfNotStarted h (λ w. P)) is holds
