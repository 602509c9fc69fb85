-- What a start has written, exit by exit.
use Rattle.std.proofs.Common.{◌≡◌, ◌⊎◌, inl, inr, ℕ, zero, suc, ◌+◌, ◌≤◌, ◌<◌, ◌^◌, false, ◌++◌, List, [], ◌∷◌, length, Some, refl, sym, ◌∙◌, ap, append-nil, subst, arith}
use Rattle.std.specs.Prelude.{option_map, slice_get}
use Rattle.std.proofs.lemmas.Option.{none-some, same_Some}
use Rattle.labelled_disk.specs.declared.disk.DiskWrite.{DiskWrite}
use Rattle.labelled_disk.specs.declared.disk.DiskWrite.TheVariants.{Page}
use Rattle.labelled_disk.specs.declared.label.Wanted.{Wanted}
use Rattle.labelled_disk.specs.declared.layout.Layout.{Layout}
use Rattle.labelled_disk.specs.Calls.{OnlyReads}
use Rattle.labelled_disk.specs.Permitted.{Permitted}
use Rattle.labelled_disk.specs.CrashState.{crash_state, written}
use Rattle.labelled_disk.specs.Root.{LabelsRight, counter_of, root_page, serial_of}
use Rattle.labelled_disk.specs.RootLaws.{StaysRight}
use Rattle.labelled_disk.specs.Runs.{growth, IsWriteInForm}
use Rattle.labelled_disk.specs.Sectors.{Sector}
use Rattle.labelled_disk.specs.State.{DiskState}
use Rattle.labelled_disk.specs.WriteRuns.{after_writes, Appended}
use Rattle.labelled_disk.proofs.WriteRunLemmas.{appended_none, appended_then}
use Rattle.frame_pool.specs.Frames.{Slots}
use Rattle.label_calls.specs.Labels.{MayHaveWritten}
use Rattle.swapper_kernel.specs.declared.manager.Manager.TheVariants.{AllocationMap}
use Rattle.swapper_kernel.specs.Goes.{IsDirty, Makes, Went, no_page}
use Rattle.swapper_kernel.specs.GoesLaws.{makes_then, same_syncs, went_itself, went_then}
use Rattle.swapper_kernel.specs.SyncLaws.{has_sync_later}
use Rattle.swapper_kernel.specs.Window.{Beside}
use Rattle.session_words.specs.Volume.{volume_page}
use Rattle.volume_root.specs.declared.root.Root.{Root}
use Rattle.volume_root.specs.RootPage.{IsValidRoot, root_in, root_write}
use Rattle.file_manager.specs.Making.{MakesAll, MakesSome}
use Rattle.file_manager.proofs.RunLeads.{map_makes, take_all}
use Rattle.pilot_engine.specs.Opening.{in_use, IsBare, StartsSome, SyncsFirst, WroteFirst, KeepsFiles}
use Rattle.running_words.proofs.FlagLemmas.{labels_alone}
use Rattle.pilot_engine.proofs.StartCrashStates.{files_kept}

module _ (root : Root) (a : DiskState) (s : Slots) (bare : IsBare s) where
  -- where no frame is there, no page is written out
  pub alone : {run : List DiskWrite} {b : DiskState} (made : Makes no_page run a s b s) → made.wrote.writes ≡ run
  alone made =
      labels_alone made.wrote.writes (λ k sector wanted bytes here. elim (made.wrote.of_dirty k sector wanted bytes here) [ inl was ↦ bare was.slot was.frame was.has | inr none ↦ none ])
      ∙ made.wrote.labels

  -- no page, so pages of the volume's own at most
  abbrev wider : {run : List DiskWrite} {b : DiskState} → Makes no_page run a s b s → Makes volume_page run a s b s
  wider h = record {
    went = h.went;
    dirty = λ id page is. elim (h.dirty id page is) [ inl was ↦ inl was | inr none ↦ absurd none ];
    wrote = record {
      writes = h.wrote.writes;
      appended = h.wrote.appended;
      form = h.wrote.form;
      permitted = h.wrote.permitted;
      labels = h.wrote.labels;
      of_dirty = λ k sector wanted bytes here. elim (h.wrote.of_dirty k sector wanted bytes here) [ inl was ↦ inl was | inr none ↦ absurd none ];
    };
    count = h.count;
  }

  -- the write of the root failed
  pub root_some : {b : DiskState} → MayHaveWritten (root_write (in_use root)) a s b → StartsSome root a s b s
  root_some (inl none) = record { sectors = []; few = omega arith; count = 0; makes = wider none; first = inl (alone none); syncs = inl (let n = ap length (alone none) in omega (arith, n)) }
  root_some (inr made) = record { sectors = []; few = omega arith; count = 1; makes = wider made; first = inr ([], alone made); syncs = inl (let n = ap length (alone made) in omega (arith, n)) }

  module _ {b : DiskState} (made : Makes no_page (root_write (in_use root) ∷ []) a s b s) where
    pub first_made : Appended (root_write (in_use root) ∷ []) a b
    first_made = subst (λ (ws : List DiskWrite). Appended ws a b) (alone made) made.wrote.appended

    first_here : slice_get made.wrote.writes 0 ≡ Some (root_write (in_use root))
    first_here = ap (λ (ws : List DiskWrite). slice_get ws 0) (alone made)

    -- the write of the root, and then others
    module _ {more : List DiskWrite} {c : DiskState} {t : Slots} (k : Makes volume_page more b s c t) where
      form : (i : ℕ) (w : DiskWrite) → slice_get (root_write (in_use root) ∷ k.wrote.writes) i ≡ Some w → IsWriteInForm w
      form zero w here = subst IsWriteInForm (same_Some (root_write (in_use root)) w here) (made.wrote.form 0 (root_write (in_use root)) first_here)
      form (suc i) w here = k.wrote.form i w here

      permitted : (d : List Sector) (i : ℕ) (w : DiskWrite) → a.contents ≡ Some d → slice_get (root_write (in_use root) ∷ k.wrote.writes) i ≡ Some w → Permitted (crash_state d (root_write (in_use root) ∷ k.wrote.writes) i) w
      permitted d zero w revealed here = subst (Permitted d) (same_Some (root_write (in_use root)) w here) (made.wrote.permitted d 0 (root_write (in_use root)) revealed first_here)
      permitted d (suc i) w revealed here =
          k.wrote.permitted (written (root_write (in_use root)) d) i w (first_made.contents ∙ ap (option_map (after_writes (root_write (in_use root) ∷ []))) revealed) here

      of_dirty : (i sector : ℕ) (wanted : Wanted) (bytes : List ℕ) → slice_get (root_write (in_use root) ∷ k.wrote.writes) i ≡ Some (Page sector wanted bytes) → IsDirty s wanted.id wanted.page ⊎ volume_page wanted.id wanted.page
      of_dirty zero sector wanted bytes here = absurd (cc here)
      of_dirty (suc i) sector wanted bytes here = k.wrote.of_dirty i sector wanted bytes here

      abbrev then_more : Makes volume_page (root_write (in_use root) ∷ more) a s c t
      then_more = record {
        went = went_then made.went k.went;
        dirty = λ id page is. k.dirty id page is;
        wrote = record {
          writes = root_write (in_use root) ∷ k.wrote.writes;
          appended = appended_then (root_write (in_use root) ∷ []) k.wrote.writes first_made k.wrote.appended;
          form = form;
          permitted = permitted;
          labels = ap (λ (ws : List DiskWrite). root_write (in_use root) ∷ ws) k.wrote.labels;
          of_dirty = of_dirty;
        };
        count = k.count ∙ made.count;
      }

    module _ (synced : SyncsFirst a b) {layout later : Layout} {c : DiskState} {t : Slots} (beside : Beside AllocationMap b s layout c t later) where
      synced_still : {d : DiskState} → Went c d → SyncsFirst a d
      synced_still went writes is = has_sync_later (length writes + 1) (went_then (map_makes beside).went went) (synced writes is)

      -- the free sectors were looked for
      pub count_some : StartsSome root a s c t
      count_some = record { sectors = []; few = omega arith; count = 1; makes = then_more (map_makes beside); first = inr (_, refl); syncs = inr (synced_still (went_itself c)) }

      -- the pages of the space tables were made, or some of them
      pub tables_some : {d : DiskState} {u : Slots} → MakesSome 3 0 0 96 c t d u → StartsSome root a s d u
      tables_some some = record { sectors = some.sectors; few = some.few; count = suc some.count; makes = then_more (makes_then (map_makes beside) some.makes); first = inr (_, refl); syncs = inr (synced_still some.makes.went) }

      -- all of them were made, and then bytes of theirs were written
      pub tables_all : {d e : DiskState} {u v : Slots} → MakesAll 3 0 0 96 c t d u → Makes volume_page [] d u e v → StartsSome root a s e v
      tables_all {e = e} {v = v} all bytes = record {
        sectors = all.sectors;
        few = let long = all.long in omega (arith, long);
        count = suc (length (growth 3 0 0 all.sectors));
        makes = then_more (makes_then (map_makes beside)
            (subst (λ (ws : List DiskWrite). Makes volume_page ws c t e v) (append-nil (growth 3 0 0 all.sectors) ∙ sym (take_all (growth 3 0 0 all.sectors))) (makes_then all.makes bytes)));
        first = inr (_, refl);
        syncs = inr (synced_still (went_then all.makes.went bytes.went));
      }

-- After calls that wrote nothing.
module _ {o a : DiskState} (reads : OnlyReads o a) where
  pub appended_later : {b : DiskState} (writes : List DiskWrite) → Appended writes a b → Appended writes o b
  appended_later writes more = record {
    contents = more.contents ∙ ap (option_map (after_writes writes)) reads.contents;
    revealed = more.revealed ∙ ap (option_map (λ earlier. earlier ++ writes)) reads.writes;
  }

  -- nothing was written
  pub read_wrote : WroteFirst o a
  read_wrote = record {
    root = record { version = 3; clean = false; sectors = 0; serial = 0; counter = 0 };
    sectors = [];
    few = omega arith;
    count = 0;
    went = record { sectors = reads.sectors; lent = reads.lent; syncs = same_syncs o a reads.syncs; faults = reads.faults; transfers = reads.transfers };
    wrote = record {
      writes = [];
      appended = appended_none (record { contents = reads.contents; writes = reads.writes });
      form = λ k w here. absurd (none-some w here);
      permitted = λ d k w revealed here. absurd (none-some w here);
      labels = refl;
      of_dirty = λ k sector wanted bytes here. absurd (none-some (Page sector wanted bytes) here);
    };
    first = inl refl;
    syncs = inl (omega arith);
  }

  pub read_keeps : (d : List Sector) → LabelsRight d → KeepsFiles d o a
  read_keeps d right = record {
    writes = [];
    appended = appended_none (record { contents = reads.contents; writes = reads.writes });
    right = λ k. still k;
    same_serial = λ k. ap serial_of (same k);
    same_counter = λ k. ap counter_of (same k);
    opened = λ k. inl (same k);
  }
    where
      same : (k : ℕ) → crash_state d [] k ≡ d
      same zero = refl
      same (suc k) = refl

      still : (k : ℕ) → StaysRight false d (crash_state d [] k)
      still zero = record { files = refl; right = right }
      still (suc k) = record { files = refl; right = right }

  module _ {b : DiskState} {s t : Slots} (root : Root) (bare : IsBare s) (starts : StartsSome root a s b t) where
    -- what a start wrote
    abbrev pub start_wrote : WroteFirst o b
    start_wrote =
        let w = starts.makes.wrote in
        let went = starts.makes.went in
        record {
          root = root;
          sectors = starts.sectors;
          few = starts.few;
          count = starts.count;
          went = record {
            sectors = went.sectors ∙ reads.sectors;
            lent = went.lent ∙ reads.lent;
            syncs = λ syncs is. went.syncs syncs (reads.syncs ∙ is);
            faults = omega (arith, reads.faults, went.faults);
            transfers = omega (arith, reads.transfers, went.transfers);
          };
          wrote = record {
            writes = w.writes;
            appended = appended_later w.writes w.appended;
            form = w.form;
            permitted = λ d k x revealed here. w.permitted d k x (reads.contents ∙ revealed) here;
            labels = w.labels;
            of_dirty = λ k sector wanted bytes here. elim (w.of_dirty k sector wanted bytes here) [ inl was ↦ absurd (bare was.slot was.frame was.has) | inr own ↦ inr own ];
          };
          first = starts.first;
          syncs = elim starts.syncs [ inl few ↦ inl few | inr synced ↦ inr (λ writes is. synced writes (reads.writes ∙ is)) ];
        }

    -- and the files in each crash state of it
    pub start_keeps : (d : List Sector) → o.contents ≡ Some d → LabelsRight d → (n : ℕ) → length d ≡ n → IsValidRoot n root → root.serial < 2 ^ 32 → root.counter < 2 ^ 32 → root ≡ root_in (root_page d) → KeepsFiles d o b
    start_keeps d revealed right n long valid serial counter same =
        let kept = files_kept d right root (subst (λ (m : ℕ). IsValidRoot m root) (sym long) valid) serial counter (ap (λ (r : Root). r.serial) same) (ap (λ (r : Root). r.counter) same) a b s t (reads.contents ∙ revealed) bare starts in
        record { writes = kept.writes; appended = appended_later kept.writes kept.appended; right = kept.right; same_serial = kept.same_serial; same_counter = kept.same_counter; opened = kept.opened }
