-- The clean flag is set after a sync.
use Rattle.std.proofs.Common.{◌≡◌, ◌⊎◌, inl, inr, ℕ, ◌+◌, true, List, [], ◌∷◌, ◌++◌, length, Some, option_map, refl, sym, ◌∙◌, ap, subst, length-append}
use Rattle.std.proofs.lemmas.Option.{same_Some}
use Rattle.labelled_disk.specs.declared.disk.DiskWrite.{DiskWrite}
use Rattle.labelled_disk.specs.Calls.{RevealsSame, RevealsWrite}
use Rattle.labelled_disk.specs.CrashState.{written}
use Rattle.labelled_disk.specs.Root.{counter_of}
use Rattle.labelled_disk.specs.Sectors.{Sector}
use Rattle.labelled_disk.specs.State.{DiskState}
use Rattle.labelled_disk.specs.Syncing.{RevealsSyncs}
use Rattle.labelled_disk.specs.WriteRuns.{after_writes}
use Rattle.labelled_disk.proofs.WriteRunLemmas.{appended_none, appended_one, appended_then, appended_no_more}
use Rattle.flat_machine.specs.Machine.{Machine}
use Rattle.frame_pool.specs.Frames.{Slots}
use Rattle.swapper_kernel.specs.Goes.{Pages, Swaps, Went, no_page}
use Rattle.swapper_kernel.specs.GoesLaws.{wrote_none}
use Rattle.swapper_kernel.specs.SyncLaws.{HasSync, has_sync_later, synced_has}
use Rattle.fault_core.specs.Reach.{Reaches}
use Rattle.filer_kernel.specs.View.{View}
use Rattle.volume_root.specs.declared.root.Root.{Root}
use Rattle.volume_root.specs.RootPage.{IsValidRoot, root_write}
use Rattle.running_words.specs.Session.{WroteIn}
use Rattle.pilot_engine.specs.Closing.{IsReady, MayClose, ShutsBySync, closed_root}
use Rattle.pilot_engine.proofs.EndLemmas.{reveals_shut}
use Rattle.pilot_engine.proofs.ShutLemmas.{writes_open}

pub reveals_itself : (d : DiskState) → RevealsSame d d
reveals_itself d = record { contents = refl; writes = refl }

-- the root that was written has the counter of the one that stood there
pub sets_flag : (m : Machine) (r : Root) (old new : DiskState) → (ready : IsReady m r old) → IsValidRoot (length ready.sectors) r
    → RevealsSame old new ⊎ RevealsWrite (root_write (closed_root r)) old new → MayClose r old new
sets_flag m r old new ready valid (inl same) = inl same
sets_flag m r old new ready valid (inr wrote) = inr (wrote, counts)
  where
    counts : (d : List Sector) → old.contents ≡ Some d → counter_of (written (root_write (closed_root r)) d) ≡ counter_of d
    counts d revealed =
        let same : ready.sectors ≡ d = same_Some ready.sectors d (sym ready.revealed ∙ revealed) in
        let shut = reveals_shut m r old new ready valid wrote in
        let now : List Sector = written (root_write (closed_root r)) d in
        let there : shut.sectors ≡ now = same_Some shut.sectors now (sym shut.revealed ∙ wrote.contents ∙ ap (option_map (written (root_write (closed_root r)))) revealed) in
        let before : counter_of d ≡ m.counter = subst (λ (x : List Sector). counter_of x ≡ m.counter) same ready.closed.root.has_counter in
        ap counter_of (sym there) ∙ shut.shut.same_counter ∙ sym before

-- nothing was written
pub shuts_itself : (a : DiskState) → ShutsBySync a a
shuts_itself a = record { writes = []; appended = appended_none (reveals_itself a); shut = inl tt }

-- no root of a closed volume
pub openly_shut : {pages : Pages} {a b : DiskState} {s t : Slots} → WroteIn pages a s b t → ShutsBySync a b
openly_shut h = record { writes = h.makes.wrote.writes; appended = h.makes.wrote.appended; shut = inl (writes_open h) }

-- calls of a session, of which the last was a sync, and then that root, or not
module _ {pages : Pages} {a b c d : DiskState} {s t : Slots} (h : WroteIn pages a s b t) (reveals : RevealsSyncs b.writes b.syncs b.synced) (synced : b.synced ≡ true) (went : Went b d)
    (root : Root) (same : RevealsSame c d) where
  sync_there : (made : List DiskWrite) → a.writes ≡ Some made → HasSync d (length made + length h.makes.wrote.writes)
  sync_there made is =
      let now : b.writes ≡ Some (made ++ h.makes.wrote.writes) = h.makes.wrote.appended.revealed ∙ ap (option_map (λ (earlier : List DiskWrite). earlier ++ h.makes.wrote.writes)) is in
      subst (λ (n : ℕ). HasSync d n) (length-append made h.makes.wrote.writes) (has_sync_later (length (made ++ h.makes.wrote.writes)) went (synced_has b reveals synced (made ++ h.makes.wrote.writes) now))

  pub sets_shut : MayClose root b c → ShutsBySync a d
  sets_shut (inl none) = record {
    writes = h.makes.wrote.writes;
    appended = appended_no_more h.makes.wrote.writes (appended_no_more h.makes.wrote.writes h.makes.wrote.appended none) same;
    shut = inl (writes_open h);
  }
  sets_shut (inr (made, counts)) =
      let ws = h.makes.wrote.writes in
      let last = root_write (closed_root root) in
      record {
        writes = ws ++ last ∷ [];
        appended = appended_no_more (ws ++ last ∷ []) (appended_then ws (last ∷ []) h.makes.wrote.appended (appended_one last made)) same;
        shut = inr (record {
          earlier = ws;
          root = root;
          is = refl;
          opens = writes_open h;
          synced = sync_there;
          same_counter = λ x revealed. counts (after_writes ws x) (h.makes.wrote.appended.contents ∙ ap (option_map (after_writes ws)) revealed);
        });
      }

-- a call that led on with the same frames, and wrote nothing
pub reached_swaps : (v w : View) → w.slots ≡ v.slots → RevealsSame v.disk w.disk → Reaches v w → Swaps v.disk v.slots w.disk w.slots
reached_swaps v w frames same reaches = subst (λ (slots : Slots). Swaps v.disk v.slots w.disk slots) (sym frames) (record {
  makes = record {
    went = reaches.goes.makes.went;
    dirty = λ id page is. inl is;
    wrote = wrote_none no_page v.slots same;
    count = refl;
  };
  memory = λ m stands. (m, record { sectors = stands.sectors; revealed = same.contents ∙ stands.revealed; merged = stands.merged }, refl);
})
