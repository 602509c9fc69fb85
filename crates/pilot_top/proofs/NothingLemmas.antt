-- A command for whose words there was no memory did what its record says.
use Rattle.std.proofs.Common.{◌≡◌, inl, inr, ℕ, zero, suc, true, List, [], ◌++◌, refl, sym, ◌∙◌, subst, append-nil, arith}
use Rattle.std.proofs.lemmas.List.{append_cancel_left}
use Rattle.std.proofs.lemmas.Option.{same_Some}
use Rattle.labelled_disk.proofs.CallLemmas.{only_reads_itself}
use Rattle.labelled_disk.specs.declared.disk.DiskWrite.{DiskWrite}
use Rattle.labelled_disk.specs.CrashState.{crash_state}
use Rattle.labelled_disk.specs.Sectors.{Sector}
use Rattle.labelled_disk.specs.State.{DiskState}
use Rattle.labelled_disk.proofs.WriteRunLemmas.{appended_none}
use Rattle.flat_machine.specs.Start.{start}
use Rattle.volume_root.specs.Format.{IsNoneOrNew}
use Rattle.trace_io.specs.Reading.{reading}
use Rattle.scavenger.proofs.BetweenLemmas.{crash_states_of_none}
use Rattle.scavenger.proofs.TopLemmas.{none_cut}
use Rattle.scavenger.specs.Restored.{Survives}
use Rattle.volume_convert.specs.Leaves.{IsOldOrConverted, StaysConvertible}
use Rattle.pilot_top.specs.Converting.{ConvertedBy}
use Rattle.pilot_top.specs.Making.{Formatted}
use Rattle.pilot_top.specs.Processing.{Processed}
use Rattle.pilot_top.specs.Restoring.{Scavenged}
use Rattle.pilot_top.specs.Running.{Ran}
use Rattle.pilot_top.specs.Sparing.{HasSameSectors, Spared}
use Rattle.pilot_engine.specs.Sparing.{HasSameLabels}
use Rattle.flat_machine.specs.After.{TraceLine}
use Rattle.pilot_top.specs.Trying.{Tried}
use Rattle.pilot_top.specs.World.{World}
use Rattle.pilot_top.specs.declared.status.Status.TheVariants as status
use Rattle.pilot_top.proofs.ApartRuns.{apart_none, apart_of_any}
use Rattle.pilot_top.proofs.CostLemmas.{nothing_spent}
use Rattle.pilot_top.proofs.CutLemmas.{nothing_honest}
use Rattle.pilot_top.proofs.RootLemmas.{raises_itself}
use Rattle.volume_root.specs.RootPage.{root_in}
use Rattle.labelled_disk.specs.Root.{root_page}
use Rattle.pilot_top.proofs.ForceLemmas.{keeps_forced}
use Rattle.pilot_top.proofs.OnePlaceLemmas.{cuts_have_files}
use Rattle.pilot_top.specs.Parts.{PartMay}
use Rattle.pilot_top.proofs.PartLemmas.{parts_none}
use Rattle.pilot_top.proofs.PermittedRuns.{lawfully_none}
use Rattle.pilot_top.proofs.ProcessingLemmas.{costs_refused}
use Rattle.pilot_top.proofs.StagedLemmas.{from_nothing, crash_states_before}
use Rattle.pilot_top.proofs.StayLemmas.{nothing_stays, spared_stays}

-- a disk to which nothing was written
old_still : (d : List Sector) (k : ℕ) → IsOldOrConverted d (crash_state d [] k)
old_still d zero = inl (record { sectors = refl; root = refl; files = refl })
old_still d (suc k) = inl (record { sectors = refl; root = refl; files = refl })

never_written : (disk : DiskState) → StaysConvertible disk disk
never_written disk d before writes revealed earlier later k =
    let none : [] ≡ writes = append_cancel_left before [] writes (append-nil before ∙ same_Some before (before ++ writes) (sym earlier ∙ later)) in
    subst (λ (ws : List DiskWrite). IsOldOrConverted d (crash_state d ws k)) none (old_still d k)

same_labels_still : (id : ℕ) (d : List Sector) (k : ℕ) → HasSameLabels id d (crash_state d [] k)
same_labels_still id d zero = λ i above. refl
same_labels_still id d (suc k) = λ i above. refl

same_sectors_still : (id : ℕ) (d : List Sector) (k : ℕ) → HasSameSectors id d (crash_state d [] k)
same_sectors_still id d zero = λ i above. refl
same_sectors_still id d (suc k) = λ i above. refl

none_spared : (id : ℕ) (lines : List TraceLine) (d : List Sector) (disk : DiskState) → Spared id lines d disk disk
none_spared id lines d disk = record {
  writes = [];
  appended = appended_none (record { contents = refl; writes = refl });
  labels = same_labels_still id d;
  sectors = λ none. same_sectors_still id d;
  hidden = λ named map none. same_sectors_still id d;
}

module _ (w : World) where
  pub ran_nothing : Ran status.NoMemory w w
  ran_nothing = record {
    answers = λ d b t revealed sound source sink. (source, sink);
    replied = λ b t source sink. (source, sink);
    closed = λ d b revealed sound source done going. absurd (cc done);
    closed_unheard = λ d b revealed sound source failed held rest closes. absurd (cc failed);
    crash_states = λ d b revealed sound source. crash_states_before (start d) [] (reading b) (from_nothing d sound revealed);
    some_crash_states = λ d revealed sound. ([], from_nothing d sound revealed);
    cuts = λ d revealed sound. nothing_honest d w.disk sound;
    stops = λ b t source sink. parts_none (PartMay (reading b)) 0 (record { contents = refl; writes = refl });
    spares = λ d earlier b id revealed made source file untouched. none_spared id (reading b) d w.disk;
    roots = λ d revealed. (root_in (root_page d), raises_itself (root_in (root_page d)) w.disk);
    stays = λ d earlier b id revealed made source file untouched. spared_stays id (reading b) d (none_spared id (reading b) d w.disk);
    stays_since = λ d earlier b revealed made source. nothing_stays (reading b) d earlier w.disk revealed made;
    forced = λ d b revealed sound source. keeps_forced (start d) (reading b) d (crash_states_before (start d) [] (reading b) (from_nothing d sound revealed)) revealed;
    cut_files = λ d b revealed sound source.
        cuts_have_files (start d) (reading b) d (crash_states_before (start d) [] (reading b) (from_nothing d sound revealed)) revealed (λ made syncs is have. (syncs, have)) (apart_of_any true (apart_none (record { contents = refl; writes = refl })))
        refl (lawfully_none (record { contents = refl; writes = refl })) (root_in (root_page d), raises_itself (root_in (root_page d)) w.disk);
    some_cut_files = λ d revealed sound. (
      [],
      cuts_have_files (start d) [] d (from_nothing d sound revealed) revealed (λ made syncs is have. (syncs, have)) (apart_of_any true (apart_none (record { contents = refl; writes = refl })))
          refl (lawfully_none (record { contents = refl; writes = refl })) (root_in (root_page d), raises_itself (root_in (root_page d)) w.disk),
    );
    stays_open = λ b source early. absurd early;
    untaken = λ b source failed some. absurd (cc failed);
    left_open = λ is. absurd (elim is [ inl long ↦ cc long | inr damaged ↦ cc damaged ]);
    transfers = λ d b revealed sound source. omega arith;
    permitted = lawfully_none (record { contents = refl; writes = refl });
    damage = λ t sink is. absurd (cc is);
    sound = λ d revealed sound. (λ is. cc is, λ is. cc is);
    not_opened = λ d revealed is. absurd (cc is);
    refused = λ d why revealed refused. inr (inr refl);
    refused_unwritten = λ d why revealed refused. only_reads_itself w.disk;
    complete = λ d b revealed sound source short disk_held source_held sink_held. inr refl;
    short = λ b source done. absurd (cc done);
  }

  pub processed_nothing : Processed status.NoMemory w w
  processed_nothing = record {
    answers = λ d b t revealed sound source sink. (source, sink);
    replied = λ b t source sink. (source, sink);
    transfers = λ d b t revealed sound source sink. costs_refused b w.disk w.disk (nothing_spent w.disk);
    permitted = lawfully_none (record { contents = refl; writes = refl });
    left_open = λ is. absurd (elim is [ inl long ↦ cc long | inr damaged ↦ cc damaged ]);
    damage = λ is. absurd (cc is);
    sound = λ d revealed sound. (λ is. cc is, λ is. cc is);
    not_opened = λ d revealed is. absurd (cc is);
    refused = λ d why revealed refused. inr (inr refl);
    refused_unwritten = λ d why revealed refused. only_reads_itself w.disk;
    complete = λ d b revealed sound source short disk_held source_held sink_held. inr refl;
    short = λ b source done. absurd (cc done);
  }

  pub formatted_nothing : (serial counter : ℕ) → Formatted serial counter status.NoMemory w w
  formatted_nothing serial counter = record {
    made = λ ends. absurd (elim ends [ inl done ↦ cc done | inr failed ↦ cc failed ]);
    line = λ done. absurd (cc done);
    part_of_line = λ failed. absurd (cc failed);
    part = λ failed. absurd (cc failed);
    cuts = none_cut (λ d e. IsNoneOrNew w.disk.sectors serial counter e) w.disk w.disk (only_reads_itself w.disk);
    complete = λ count disk_held sink_held. inr refl;
    only_count = λ is. absurd (cc is);
  }

  pub scavenged_nothing : Scavenged status.NoMemory w w
  scavenged_nothing = record {
    restored = λ ends g revealed. absurd (elim ends [ inl done ↦ cc done | inr failed ↦ cc failed ]);
    synced = λ ends. absurd (elim ends [ inl done ↦ cc done | inr failed ↦ cc failed ]);
    revealed = λ done g revealed. absurd (cc done);
    part_of_text = λ failed g revealed. absurd (cc failed);
    some_text = λ done. absurd (cc done);
    some_prefix = λ failed. absurd (cc failed);
    by = λ ends g revealed. absurd (elim ends [ inl done ↦ cc done | inr failed ↦ cc failed ]);
    part = λ failed g revealed. absurd (cc failed);
    part_line = λ failed. absurd (cc failed);
    crash_states = λ g first writes revealed earlier later k. crash_states_of_none g w.disk w.disk first writes earlier later k (record { contents = refl; writes = refl });
    cuts = none_cut Survives w.disk w.disk (only_reads_itself w.disk);
    no_volume = λ g revealed is. absurd (cc is);
    no_volume_refused = λ g why revealed refused. inr (inr refl);
    no_volume_unwritten = λ g why revealed refused. only_reads_itself w.disk;
    complete = λ g revealed opened disk_held sink_held. inr refl;
    right_restored = λ g revealed right. inr (inr (inr refl));
  }

  pub converted_nothing : ConvertedBy status.NoMemory w w
  converted_nothing = record {
    restored = λ ends. absurd (elim ends [ inl done ↦ cc done | inr failed ↦ cc failed ]);
    synced = λ ends. absurd (elim ends [ inl done ↦ cc done | inr failed ↦ cc failed ]);
    line = λ done d revealed. absurd (cc done);
    part_of_line = λ failed d revealed. absurd (cc failed);
    some_line = λ done. absurd (cc done);
    some_prefix = λ failed. absurd (cc failed);
    by = λ ends. absurd (elim ends [ inl done ↦ cc done | inr failed ↦ cc failed ]);
    part = λ failed. absurd (cc failed);
    part_line = λ failed. absurd (cc failed);
    crash_states = never_written w.disk;
    count = λ none. inl refl;
    no_volume = λ d revealed opened. absurd (cc opened);
    no_volume_refused = λ d why revealed refused. inr (inr refl);
    no_volume_unwritten = λ d why revealed refused. only_reads_itself w.disk;
    unfit = λ d revealed unfit. absurd (cc unfit);
    unfit_refused = λ d revealed volume none. inr (inr refl);
    no_room_unwritten = λ d revealed none. only_reads_itself w.disk;
    complete = λ d revealed volume room disk_held sink_held. inr refl;
  }

  pub tried_nothing : (seed calls : ℕ) → Tried seed calls status.NoMemory w w
  tried_nothing seed calls = record {
    line = λ d revealed done. absurd (cc done);
    part_of_line = λ d revealed failed. absurd (cc failed);
    some_line = λ done. absurd (cc done);
    some_prefix = λ failed. absurd (cc failed);
    emptied = λ d revealed ends. absurd (elim ends [ inl done ↦ cc done | inr failed ↦ cc failed ]);
    complete = λ d revealed count disk_held sink_held. inr refl;
    only_count = λ is. absurd (cc is);
    permitted = inl (0, omega arith, appended_none (record { contents = refl; writes = refl }));
    disk_line = λ failed. absurd (cc failed);
    damage_line = λ is. absurd (cc is);
  }
