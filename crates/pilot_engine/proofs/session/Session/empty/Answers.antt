use Rattle.std.proofs.Common.{◌<◌, refl, subst, arith, inl, inr, ◌∙◌}
use Rattle.flat_machine.specs.Machine.{used}
use Rattle.session_words.specs.Parts.{shapes_of}
use Rattle.pilot_engine.proofs.EndCosts.{emptied_cost, files_cost}
use Rattle.pilot_engine.proofs.EndLemmas.{emptied}
use Rattle.running_words.proofs.FlagLemmas.{freeing_open}
use Rattle.running_words.proofs.SessionLemmas.{session_books}
use Rattle.pilot_engine.proofs.WroteLemmas.{wrote_by, wrote_then}
use Rattle.pilot_engine.specs.Closing.{IsOpenStop}
use Rattle.pilot_engine.proofs.StopLemmas.{stop_less, throughout_less, throughout_then}
use Rattle.pilot_engine.proofs.TableStops.{stops_freeing}
use Rattle.fault_core.specs.Core.{state}
use Rattle.filer_kernel.specs.View.{accepted, disk_of, kept_by, view_of}
use Rattle.file_manager.specs.Grounds.{AreTables}
use Rattle.labelled_disk.specs.declared.layout.Layout.{Layout}
use Rattle.file_manager.specs.Reasons.{ShowsReason}
use Rattle.pilot_engine.proofs.EndNeverBlames.{end_blameless, none_no_table}
use Rattle.pilot_engine.proofs.FormLemmas.{cut_form}
use Rattle.pilot_engine.proofs.HomeLemmas.{file_pages}
use Rattle.pilot_engine.proofs.LackLemmas.{cut_misses, tables_lack}
use Rattle.pilot_engine.proofs.SparedCalls.{spares_all}
use Rattle.pilot_engine.proofs.SparedFiles.{spares_freed, spares_some}
use Rattle.pilot_engine.proofs.WritingLemmas.{clears_then, frees_run}
use Rattle.pilot_engine.proofs.FailSteps.{fails_after, fails_wider}
use Rattle.pilot_engine.proofs.LiftLemmas.{still_open}
use Rattle.pilot_engine.proofs.session.Session.empty.Goals as goal

pub returns-in-Ok-free_tables-clause-ends : goal.returns-in-Ok-free_tables-clause-ends
returns-in-Ok-free_tables-clause-ends g c = λ spaces_of m s.
    let h = (c.in-Ok.ensures.ends spaces_of m s).gives in
    let books = session_books spaces_of _ _ _ _ _ h.left h.stands.session in
    let e = c.in-Ok-free_tables.ensures.freed h.stands.session.stands.memory (shapes_of h.left.files) h.left.spaces books in
    record {
      gives = emptied spaces_of _ _ _ _ _ _ _ _ m h (c.in-Ok-free_tables.ensures.freed h.stands.session.stands.memory (shapes_of h.left.files) h.left.spaces books) _ refl;
      sound = tt;
      stops = (throughout_then (IsOpenStop m) ((c.delete_temporary.ensures.ends spaces_of m s).stops) (throughout_less (IsOpenStop h.left) (IsOpenStop m) (stop_less m h.left h.sheds)
          (stops_freeing spaces_of _ _ _ _ h.left h.stands.session.stands (g.met.D.Disk.in_form (disk_of c.delete_temporary.new.self.core.filer)) e.sectors e.were e.leads.goes.makes)));
    }

pub returns-in-Ok-free_tables-clause-clears : goal.returns-in-Ok-free_tables-clause-clears
returns-in-Ok-free_tables-clause-clears g c = record {
  wrote = wrote_then c.delete_temporary.ensures.clears.wrote (wrote_by c.in-Ok-free_tables.ensures.writes.makes (freeing_open c.in-Ok-free_tables.ensures.writes.sectors));
  spares = (clears_then c.delete_temporary.ensures.clears.spares (record {
    spares = spares_all 3 (omega arith) (spares_freed 3 c.in-Ok-free_tables.ensures.writes c.in-Ok-free_tables.ensures.own);
    frees = frees_run c.in-Ok-free_tables.ensures.writes.sectors c.in-Ok-free_tables.ensures.writes.makes;
    root = refl;
  }));
  open_still = still_open _ _ _ _ c.delete_temporary.ensures.clears.open_still c.free_tables.ensures.stays.layout refl;
  layout = c.free_tables.ensures.stays.layout ∙ c.delete_temporary.ensures.clears.layout;
}

pub returns-in-Err-free_tables-clause-ends : goal.returns-in-Err-free_tables-clause-ends
returns-in-Err-free_tables-clause-ends g c = λ spaces_of m s.
    let h = (c.in-Ok.ensures.ends spaces_of m s).gives in
    let books = session_books spaces_of _ _ _ _ _ h.left h.stands.session in
    let e = (c.in-Err-free_tables.ensures.freed h.stands.session.stands.memory (shapes_of h.left.files) h.left.spaces books).1 in
    record {
      gives = tt;
      sound = (c.in-Err-free_tables.ensures.freed h.stands.session.stands.memory (shapes_of h.left.files) h.left.spaces (session_books spaces_of _ _ _ _ _ h.left h.stands.session)).0;
      stops = (throughout_then (IsOpenStop m) ((c.delete_temporary.ensures.ends spaces_of m s).stops) (throughout_less (IsOpenStop h.left) (IsOpenStop m) (stop_less m h.left h.sheds)
          (stops_freeing spaces_of _ _ _ _ h.left h.stands.session.stands (g.met.D.Disk.in_form (disk_of c.delete_temporary.new.self.core.filer)) e.sectors e.were e.makes)));
    }

pub returns-in-Err-free_tables-clause-clears : goal.returns-in-Err-free_tables-clause-clears
returns-in-Err-free_tables-clause-clears g c = record {
  wrote = wrote_then c.delete_temporary.ensures.clears.wrote (wrote_by c.in-Err-free_tables.ensures.writes.makes (freeing_open c.in-Err-free_tables.ensures.writes.sectors));
  spares = (clears_then c.delete_temporary.ensures.clears.spares (record {
    spares = spares_all 3 (omega arith) (spares_some 3 c.in-Err-free_tables.ensures.writes c.in-Err-free_tables.ensures.own);
    frees = frees_run c.in-Err-free_tables.ensures.writes.sectors c.in-Err-free_tables.ensures.writes.makes;
    root = refl;
  }));
  open_still = still_open _ _ _ _ c.delete_temporary.ensures.clears.open_still c.free_tables.ensures.stays.layout refl;
  layout = c.free_tables.ensures.stays.layout ∙ c.delete_temporary.ensures.clears.layout;
}

pub returns-in-Err-clause-cost : goal.returns-in-Err-clause-cost
returns-in-Err-clause-cost g c = λ spaces_of m s.
    let room = c.requires.set_up.opened.room in
    let same = s.session.same_used in
    files_cost (state c.args.self.now.core).layout (accepted c.args.self.now.core.filer) (state c.args.self.now.core).disk.transfers (state c.delete_temporary.new.self.core).disk.transfers (used m) (omega (arith, room, same)) (c.delete_temporary.ensures.cost spaces_of m s)

pub returns-in-Ok-free_tables-clause-cost : goal.returns-in-Ok-free_tables-clause-cost
returns-in-Ok-free_tables-clause-cost g c = λ spaces_of m s.
    let room = c.requires.set_up.opened.room in
    let same = s.session.same_used in
    emptied_cost (state c.args.self.now.core).layout (accepted c.args.self.now.core.filer) (state c.delete_temporary.new.self.core).layout c.delete_temporary.ensures.clears.layout (state c.args.self.now.core).disk.transfers (state c.delete_temporary.new.self.core).disk.transfers (view_of c.free_tables.new.filer).disk.transfers (used m)
    (omega (arith, room, same)) (c.delete_temporary.ensures.cost spaces_of m s) c.free_tables.ensures.cost

pub returns-in-Err-free_tables-clause-cost : goal.returns-in-Err-free_tables-clause-cost
returns-in-Err-free_tables-clause-cost g c = λ spaces_of m s.
    let room = c.requires.set_up.opened.room in
    let same = s.session.same_used in
    emptied_cost (state c.args.self.now.core).layout (accepted c.args.self.now.core.filer) (state c.delete_temporary.new.self.core).layout c.delete_temporary.ensures.clears.layout (state c.args.self.now.core).disk.transfers (state c.delete_temporary.new.self.core).disk.transfers (view_of c.free_tables.new.filer).disk.transfers (used m)
    (omega (arith, room, same)) (c.delete_temporary.ensures.cost spaces_of m s) c.free_tables.ensures.cost

-- ---- Why it failed.

pub returns-in-Err-clause-fails : goal.returns-in-Err-clause-fails
returns-in-Err-clause-fails g c = fails_wider (λ h. (h.0, h.1, inl h.2)) c.in-Err.ensures.fails

pub returns-in-Err-free_tables-clause-fails : goal.returns-in-Err-free_tables-clause-fails
returns-in-Err-free_tables-clause-fails g c = fails_after c.delete_temporary.ensures.clears.wrote.makes.went.faults (λ h. (state c.delete_temporary.new.self.core, (c.delete_temporary.ensures.clears.wrote, c.delete_temporary.ensures.clears.layout), inr h)) c.in-Err-free_tables.ensures.fails

-- ---- What began stays a reason.

pub returns-in-Ok-free_tables-clause-accounts : goal.returns-in-Ok-free_tables-clause-accounts
returns-in-Ok-free_tables-clause-accounts g c = λ o keeps. record {
  keeps_to = let mid = (c.in-Ok.ensures.accounts o keeps).keeps_to in c.in-Ok-free_tables.ensures.accounts o mid.0 mid.1.0 mid.1.1.1;
  reasons = tt;
  sees = λ seen. tt;
}

pub returns-in-Err-free_tables-clause-accounts : goal.returns-in-Err-free_tables-clause-accounts
returns-in-Err-free_tables-clause-accounts g c = λ o keeps.
    let mid = (c.in-Ok.ensures.accounts o keeps).keeps_to in
    record {
      keeps_to = tt;
      reasons = subst (λ (l : Layout). ShowsReason o l (view_of c.free_tables.new.filer).disk c.in-Err-free_tables.halt) c.delete_temporary.ensures.clears.layout ((c.in-Err-free_tables.ensures.accounts o mid.0 mid.1.0 mid.1.1.1 mid.1.1.0).0);
      sees = (λ seen.
          let v = state c.delete_temporary.new.self.core in
          let disk = (view_of c.free_tables.new.filer).disk in
          let halt = c.in-Err-free_tables.halt in
          let cause = c.in-Err-free_tables.ensures.fails.cause in
          let mid = (c.in-Ok.ensures.accounts o keeps).keeps_to in
          end_blameless o disk halt (
            cut_form (AreTables v.slots) v.layout (kept_by v) 3 0 (λ page. page < 96) v.disk v.slots disk halt cause,
            tables_lack (λ page. page < 96) (file_pages o disk) halt (cut_misses (AreTables v.slots) v.layout (kept_by v) 3 0 (λ page. page < 96) v.disk v.slots disk halt cause),
          ) (none_no_table halt ((c.in-Err-free_tables.ensures.accounts o mid.0 mid.1.0 mid.1.1.1 mid.1.1.0).1)));
    }

-- ---- What its first part tells.

pub returns-in-Err-clause-accounts : goal.returns-in-Err-clause-accounts
returns-in-Err-clause-accounts g c = λ o k. record {
  keeps_to = tt;
  reasons = (c.in-Err.ensures.accounts o k).reasons;
  sees = λ seen. (c.in-Err.ensures.accounts o k).sees seen;
}

-- ---- Which files are spared.

pub returns-in-Err-clause-clears : goal.returns-in-Err-clause-clears
returns-in-Err-clause-clears g c = c.delete_temporary.ensures.clears

pub returns-in-Err-clause-ends : goal.returns-in-Err-clause-ends
returns-in-Err-clause-ends g c = λ spaces_of m s. record { gives = tt; sound = (c.in-Err.ensures.ends spaces_of m s).sound; stops = (c.in-Err.ensures.ends spaces_of m s).stops }
