-- What holds of the state through a reference holds of the state.
use Rattle.std.proofs.Common.{◌≡◌, inl, inr, ℕ, ◌≤◌, List, [], ◌∷◌, ◌++◌, length, Option, sym, ap, subst, drop}
use Rattle.labelled_disk.specs.declared.disk.DiskWrite.{DiskWrite}
use Rattle.labelled_disk.specs.declared.evidence.Evidence.{Evidence}
use Rattle.labelled_disk.specs.declared.evidence.Evidence.TheVariants.{Mismatch, Malformed, Missing}
use Rattle.labelled_disk.specs.declared.layout.Layout.{Layout}
use Rattle.labelled_disk.specs.Calls.{OnlyReads, Rose}
use Rattle.labelled_disk.specs.Layout.{layout_of}
use Rattle.labelled_disk.specs.State.{DiskState, lent_state}
use Rattle.labelled_disk.specs.Sectors.{Sector}
use Rattle.flat_machine.specs.After.{TraceLine}
use Rattle.flat_machine.specs.Machine.{Machine}
use Rattle.flat_machine.specs.Start.{start}
use Rattle.trace_io.specs.Reading.{reading}
use Rattle.volume_root.specs.RootPage.{root_write}
use Rattle.pilot_engine.specs.Closing.{HasShut}
use Rattle.filer_kernel.specs.Evidence.{IsEvident}
use Rattle.file_manager.specs.Reasons.{HasReason, InitialState, initial_state}
use Rattle.pilot_top.specs.Headline.{IsLeftOpen, LeadsTo, Run, RevealsDamage}
use Rattle.pilot_top.specs.Cuts.{HonestCuts}
use Rattle.pilot_top.specs.CrashStates.{Lawfully, CrashStates}
use Rattle.pilot_top.specs.InitialState.{FromInitialState}
use Rattle.pilot_top.specs.Sparing.{Spared}
use Rattle.volume_root.specs.declared.root.Root.{Root}
use Rattle.pilot_top.specs.OnePlace.{CutsHaveFiles}
use Rattle.pilot_top.specs.Parts.{InParts, RaisesRoot, Stops}
use Rattle.pilot_top.specs.Staying.{StaysSinceNamed}
use Rattle.pilot_top.specs.Replied.{AreToFirst, Replied}
use Rattle.pilot_top.specs.Trial.{HasNoFile, TriesLawfully}
use Rattle.pilot_top.specs.declared.status.Status.{Status}
use Rattle.pilot_top.specs.declared.status.Status.TheVariants as status
use Rattle.pilot_top.proofs.RunLemmas.{answering_less}

-- no fault rose through a reference
pub none_rose_after : {D : Type 0} (state : D → DiskState) (before : ℕ) (x y : D) → (Rose before (state x).faults → ⊥) → x ≡ y → Rose before (state y).faults → ⊥
none_rose_after state before x y none same = subst (λ z. Rose before (state z).faults → ⊥) same none

-- another word for the writes
pub Stops-less : (s : Status) (b t : List ℕ) (left took : Option (List ℕ)) (failed : Type 0) (wrote then : ℕ → Type 0) → ((k : ℕ) → wrote k → then k) → Stops s b left t took failed wrote → Stops s b left t took failed then
Stops-less status.Done b t left took failed wrote then less is = less _ is
Stops-less status.DiskFault b t left took failed wrote then less is = (is.0, is.1, less _ is.2, λ none. less 0 (is.3 none))
Stops-less status.Damaged b t left took failed wrote then less is = (is.0, is.1, is.2, less _ is.3, λ none. less 0 (is.4 none))
Stops-less status.Long b t left took failed wrote then less is = (is.0, less _ is.1)
Stops-less status.StreamFault b t left took failed wrote then less (inl is) = inl (is.0, less _ is.1)
Stops-less status.StreamFault b t left took failed wrote then less (inr is) = inr (is.0, less _ is.1)
Stops-less status.NotOpened b t left took failed wrote then less is = less _ is
Stops-less status.NoMemory b t left took failed wrote then less is = less _ is
Stops-less status.Usage b t left took failed wrote then less is = less _ is
Stops-less status.Unfit b t left took failed wrote then less is = less _ is

-- a reason asks only which writes were made
reason_lent : (o : InitialState) (l : Layout) (n : ℕ) (disk : DiskState) (e : Evidence) → HasReason o l (lent_state n disk) e → HasReason o l disk e
reason_lent o l n disk (Mismatch sector wanted found) is = is
reason_lent o l n disk (Malformed structure page) is = is
reason_lent o l n disk (Missing id page) is = is

module _ {D : Type 0} (state : D → DiskState) (x y : D) (same : x ≡ y) where
  pub rose_after : (before : ℕ) → Rose before (state y).faults → Rose before (state x).faults
  rose_after before rose = rw same rose

  -- the volume is closed
  pub shut_after : (m : Machine) (n : ℕ) → HasShut m (lent_state n (state y)) → HasShut m (state x)
  shut_after m n shut = rw same (record {
    reveals = record { sectors = shut.reveals.sectors; revealed = shut.reveals.revealed; shut = shut.reveals.shut };
    synced = shut.synced;
  })

  -- there is a sound volume without a file
  pub no_file_after : (n : ℕ) → HasNoFile (lent_state n (state y)) → HasNoFile (state x)
  no_file_after n left = rw same (record { sectors = left.sectors; revealed = left.revealed; sound = left.sound; no_files = left.no_files; synced = left.synced })

  -- and is left open
  pub open_after : IsLeftOpen (state y) → IsLeftOpen (state x)
  open_after is = rw same is

  -- what evidence says is so
  so_after : (n : ℕ) (e : Evidence) → IsEvident (lent_state n (state y)) e → IsEvident (state y) e
  so_after n (Mismatch sector wanted found) is = is
  so_after n (Malformed structure page) is = is
  so_after n (Missing id page) is = is

  -- so it is there
  pub so_there : (n : ℕ) (e : Evidence) → IsEvident (lent_state n (state y)) e → IsEvident (state x) e
  so_there n e evidence_seen = rw same (so_after n e evidence_seen)

  -- what is reported of damage, and its reason
  module _ {t : List ℕ} {took : Option (List ℕ)} {failed : Type 0} (n : ℕ) (revealed : RevealsDamage t took failed (lent_state n (state y))) where
    abbrev reveals_there : RevealsDamage t took failed (state y)
    reveals_there = record { replies = revealed.replies; evidence = revealed.evidence; evidence_seen = so_after n revealed.evidence revealed.evidence_seen; left_open = revealed.left_open; written = revealed.written }

    pub damage_after : (reasoned : Evidence → Type 0) → reasoned revealed.evidence → (there : RevealsDamage t took failed (state x)) × reasoned there.evidence
    damage_after reasoned reason = subst (λ (z : D). (there : RevealsDamage t took failed (state z)) × reasoned there.evidence) (sym same) (reveals_there, reason)

    first_after : (reasoned : Evidence → Type 0) (lines : List TraceLine) → AreToFirst revealed.replies lines → reasoned revealed.evidence → (there : RevealsDamage t took failed (state x)) × AreToFirst there.replies lines × reasoned there.evidence
    first_after reasoned lines to_first reason =
        subst (λ (z : D). (there : RevealsDamage t took failed (state z)) × AreToFirst there.replies lines × reasoned there.evidence) (sym same) (reveals_there, to_first, reason)

  -- what was replied
  pub replied_after : (s : Status) (b t : List ℕ) (left took : Option (List ℕ)) (failed : Type 0) (n : ℕ) (reasoned : Evidence → Type 0) → Replied s b left t took failed (lent_state n (state y)) reasoned → Replied s b left t took failed (state x) reasoned
  replied_after status.Damaged b t left took failed n reasoned is = first_after n is.0 reasoned (reading b) is.1 is.2
  replied_after status.Done b t left took failed n reasoned is = is
  replied_after status.DiskFault b t left took failed n reasoned is = is
  replied_after status.Long b t left took failed n reasoned is = is
  replied_after status.StreamFault b t left took failed n reasoned is = is
  replied_after status.NotOpened b t left took failed n reasoned is = is
  replied_after status.NoMemory b t left took failed n reasoned is = is
  replied_after status.Usage b t left took failed n reasoned is = is
  replied_after status.Unfit b t left took failed n reasoned is = is

  -- and so many transfers were made
  pub spent_after : (most : ℕ) → (state y).transfers ≤ most → (state x).transfers ≤ most
  spent_after most few = rw same few

  -- a cut is said of what a disk reveals, whatever names it has
  pub cuts_after : (first : DiskState) (d : List Sector) → HonestCuts d first (state y) → HonestCuts d first (state x)
  cuts_after first d honest = subst (λ (z : D). HonestCuts d first (state z)) (sym same) honest

  module _ (first : DiskState) (m n : ℕ) where
    -- evidence that has its reason through the references has it here
    pub from_after : (e : Evidence) → FromInitialState (lent_state m first) (lent_state n (state y)) e → FromInitialState first (state x) e
    from_after e from = subst (λ (z : D). FromInitialState first (state z) e) (sym same) (λ d named ws begun.
        let there = from d named ws (record { contents = begun.contents; writes = begun.writes; map = begun.map }) in
        (there.0, (reason_lent (initial_state d named (ws ++ (root_write there.0 ∷ []))) (layout_of (length d)) n (state y) e there.1.0, there.1.1)))

    pub reads_after : OnlyReads (lent_state m first) (lent_state n (state y)) → OnlyReads first (state x)
    reads_after reads = rw same (record {
      sectors = reads.sectors;
      lent = lent_parts m n first.lent (state y).lent reads.lent;
      contents = reads.contents;
      writes = reads.writes;
      syncs = reads.syncs;
      transfers = reads.transfers;
      faults = reads.faults;
      synced = reads.synced;
    })
      where
        lent_parts : (m n : ℕ) (xs ys : List ℕ) → n ∷ ys ≡ m ∷ xs → ys ≡ xs
        lent_parts m n xs ys e = ap (drop 1) e

    pub crash_states_after : (a : Machine) (lines : List TraceLine) → CrashStates a lines (lent_state m first) (lent_state n (state y)) → CrashStates a lines first (state x)
    crash_states_after a lines on = rw same (record {
      writes = on.writes;
      appended = record { contents = on.appended.contents; revealed = on.appended.revealed };
      line = on.line;
      step = on.step;
      rise = on.rise;
      first = on.first;
      last = on.last;
      each = on.each;
    })

    pub cut_files_after : (a : Machine) (lines : List TraceLine) (d : List Sector) → CutsHaveFiles a lines d (lent_state m first) (lent_state n (state y)) → CutsHaveFiles a lines d first (state x)
    cut_files_after a lines d cuts = rw same (record {
      places = record {
        writes = cuts.places.writes;
        appended = record { contents = cuts.places.appended.contents; revealed = cuts.places.appended.revealed };
        line = cuts.places.line;
        step = cuts.places.step;
        rise = cuts.places.rise;
        first = cuts.places.first;
        last = cuts.places.last;
        each = cuts.places.each;
      };
      files = λ at. cuts.files (record {
        writes = at.writes;
        appended = record { contents = at.appended.contents; revealed = at.appended.revealed };
        line = at.line;
        step = at.step;
        rise = at.rise;
        first = at.first;
        last = at.last;
        each = at.each;
      });
      counter = cuts.counter;
    })

    -- where the writes of a run lead
    leads_after : (a : Machine) (lines : List TraceLine) (k i : ℕ) → LeadsTo a lines (lent_state m first) (lent_state n (state y)) k i → LeadsTo a lines first (state x) k i
    leads_after a lines k i leads = rw same (
      leads.0,
      record {
        writes = leads.1.writes;
        appended = record { contents = leads.1.appended.contents; revealed = leads.1.appended.revealed };
        line = leads.1.line;
        step = leads.1.step;
        rise = leads.1.rise;
        first = leads.1.first;
        last = leads.1.last;
        each = leads.1.each;
      },
      leads.2,
      leads.3,
    )

    pub run_after : (s : Status) (d : List Sector) (b t : List ℕ) (left took : Option (List ℕ)) (failed : Type 0) → Run s d b left t took failed (lent_state m first) (lent_state n (state y)) → Run s d b left t took failed first (state x)
    run_after status.Done d b t left took failed is =
        answering_less status.Done (start d) b left t took failed (LeadsTo (start d) (reading b) (lent_state m first) (lent_state n (state y))) (LeadsTo (start d) (reading b) first (state x)) (leads_after (start d) (reading b)) is
    run_after status.DiskFault d b t left took failed is =
        answering_less status.DiskFault (start d) b left t took failed (LeadsTo (start d) (reading b) (lent_state m first) (lent_state n (state y))) (LeadsTo (start d) (reading b) first (state x)) (leads_after (start d) (reading b)) is
    run_after status.Long d b t left took failed is =
        answering_less status.Long (start d) b left t took failed (LeadsTo (start d) (reading b) (lent_state m first) (lent_state n (state y))) (LeadsTo (start d) (reading b) first (state x)) (leads_after (start d) (reading b)) is
    run_after status.StreamFault d b t left took failed is =
        answering_less status.StreamFault (start d) b left t took failed (LeadsTo (start d) (reading b) (lent_state m first) (lent_state n (state y))) (LeadsTo (start d) (reading b) first (state x)) (leads_after (start d) (reading b)) is
    run_after status.NotOpened d b t left took failed is = is
    run_after status.NoMemory d b t left took failed is = is
    run_after status.Usage d b t left took failed is = absurd is
    run_after status.Damaged d b t left took failed is = absurd is
    run_after status.Unfit d b t left took failed is = absurd is

    pub lawfully_after : Lawfully (lent_state m first) (lent_state n (state y)) → Lawfully first (state x)
    lawfully_after on = rw same (record {
      writes = on.writes;
      appended = record { contents = on.appended.contents; revealed = on.appended.revealed };
      permitted = on.permitted;
      open_flag = on.open_flag;
    })

    -- a file that was spared
    pub spared_after : (id : ℕ) (lines : List TraceLine) (d : List Sector) → Spared id lines d (lent_state m first) (lent_state n (state y)) → Spared id lines d first (state x)
    spared_after id lines d on = rw same (record {
      writes = on.writes;
      appended = record { contents = on.appended.contents; revealed = on.appended.revealed };
      labels = on.labels;
      sectors = on.sectors;
      hidden = on.hidden;
    })

    -- what stays since a line began
    pub stays_after : (lines : List TraceLine) (d : List Sector) → StaysSinceNamed lines d (lent_state m first) (lent_state n (state y)) → StaysSinceNamed lines d first (state x)
    stays_after lines d on = rw same (record {
      parts = record {
        writes = on.parts.writes;
        appended = record { contents = on.parts.appended.contents; revealed = on.parts.appended.revealed };
        part = on.parts.part;
        rise = on.parts.rise;
        by_last = on.parts.by_last;
        each = on.parts.each;
      };
      labels = on.labels;
      sectors = on.sectors;
      hidden = on.hidden;
    })

    -- where a run stopped
    pub stops_after : (s : Status) (b t : List ℕ) (left took : Option (List ℕ)) (failed : Type 0) (may : ℕ → List Sector → DiskWrite → Type 0)
        → Stops s b left t took failed (λ k. InParts may k (lent_state m first) (lent_state n (state y))) → Stops s b left t took failed (λ k. InParts may k first (state x))
    stops_after s b t left took failed may stops = Stops-less s b t left took failed (λ k. InParts may k (lent_state m first) (lent_state n (state y))) (λ k. InParts may k first (state x)) (λ k on. rw same (record {
      writes = on.writes;
      appended = record { contents = on.appended.contents; revealed = on.appended.revealed };
      part = on.part;
      rise = on.rise;
      by_last = on.by_last;
      each = on.each;
    })) stops

    -- the roots that were written
    pub roots_after : (root last : Root) → RaisesRoot root last (lent_state m first) (lent_state n (state y)) → RaisesRoot root last first (state x)
    roots_after root last on = rw same (record {
      roots = record {
        writes = on.roots.writes;
        appended = record { contents = on.roots.appended.contents; revealed = on.roots.appended.revealed };
        part = on.roots.part;
        rise = on.roots.rise;
        by_last = on.roots.by_last;
        each = on.roots.each;
      };
      from = on.from;
    })

    -- what a trial wrote
    pub tries_after : TriesLawfully (lent_state m first) (lent_state n (state y)) → TriesLawfully first (state x)
    tries_after (inl (k, few, part)) = inl (k, few, rw same (record { contents = part.contents; revealed = part.revealed }))
    tries_after (inr (made, wrote, on)) =
        inr (
          made,
          record { contents = wrote.contents; revealed = wrote.revealed },
          rw same (record { writes = on.writes; appended = record { contents = on.appended.contents; revealed = on.appended.revealed }; permitted = on.permitted; open_flag = on.open_flag }),
        )
