use Rattle.std.proofs.Common.{◌≡◌, ap, length, subst, sym, ◌∙◌, refl, [], ◌∷◌, ◌++◌, false}
use Rattle.volume_root.specs.declared.root.Root.{Root}
use Rattle.flat_machine.specs.Start.{start}
use Rattle.volume_root.specs.RootPage.{root_in, root_write}
use Rattle.pilot_engine.specs.Opening.{SyncsFirst, in_use}
use Rattle.pilot_engine.proofs.StartCosts.{spends_begun, spends_reading}
use Rattle.pilot_engine.proofs.StartFaults.{early_cause, early_left, early_outside, early_reason, early_so, early_never_blames}
use Rattle.pilot_engine.proofs.StartRuns.{begun_fits, runs_over, sees_over, takes_over}
use Rattle.pilot_engine.proofs.StartWrites.{read_wrote, read_keeps, start_wrote, start_keeps}
use Rattle.filer_kernel.specs.View.{accepted, view_of}
use Rattle.labelled_disk.specs.declared.layout.Layout.{Layout}
use Rattle.labelled_disk.specs.Layout.{layout_of}
use Rattle.labelled_disk.specs.Root.{root_page}
use Rattle.file_manager.specs.Creating.{IsMonotone}
use Rattle.file_manager.specs.Reasons.{ShowsReason, initial_state}
use Rattle.pilot_engine.proofs.InitialStateLemmas.{begun_read}
use Rattle.pilot_engine.proofs.SparedCalls.{clean_start}
use Rattle.pilot_engine.proofs.WritingLemmas.{only_begun, only_read}
use Rattle.pilot_engine.proofs.WroteLemmas.{rose_after}
use Rattle.pilot_engine.proofs.session.Session.over.Goals as goal

-- ---- The root was refused, or there is no memory.

-- a root where none was written
some_root : Root
some_root = record { version = 0; clean = false; sectors = 0; serial = 0; counter = 0 }

pub returns-in-Err : goal.returns-in-Err
returns-in-Err g c =
    let f = c.in-Err.fault.0 in
    let old = g.D.Disk.state c.args.disk in
    let left = g.D.Disk.state c.in-Err.fault.1 in
    let e = c.in-Err.ensures in
    record {
      machine = λ d revealed sound. record { stands = tt; sound = early_outside d (g.met.D.Disk.in_form c.args.disk d revealed) sound f e.early (e.refuses.judged d revealed) };
      session = record { takes = tt; frames = tt };
      refuses = record { count = e.refuses.count; bad_count = e.refuses.bad_count; refused = e.refuses.refused; judged = e.refuses.judged };
      fails = record { unwritten = λ early. e.reads.only; counted = e.counted; cause = early_cause old left f e.early; evidence_seen = early_so left f e.early };
      accounts = λ d named ws begun. record {
        keeps_to = tt;
        reasons = (some_root, early_reason (initial_state d named (ws ++ (root_write some_root ∷ []))) (layout_of (length d)) left f e.early);
        sees = early_never_blames f e.early;
      };
      writes = record {
        wrote = read_wrote e.reads.only;
        synced = tt;
        clean = tt;
        left_open = early_left left f e.early;
        root = λ d revealed. only_read (root_in (root_page d)) e.reads.only;
        crash_states = λ d revealed right. read_keeps e.reads.only d right;
      };
      spends = spends_reading e.reads;
    }

-- ---- The session starts.

pub returns-in-Ok-begin-clause-machine : goal.returns-in-Ok-begin-clause-machine
returns-in-Ok-begin-clause-machine g c = λ d revealed sound. record {
  stands = runs_over c.over.result c.begin.new.filer c.in-Ok-begin.volume (start d) c.over.ensures.filer c.over.ensures.kept c.over.ensures.intervals (c.in-Ok-begin.ensures.begun d (c.in-Ok.ensures.reads.only.contents ∙ revealed) sound (c.in-Ok.ensures.read d revealed));
  sound = tt;
}

pub returns-in-Ok-begin-clause-session : goal.returns-in-Ok-begin-clause-session
returns-in-Ok-begin-clause-session g c =
    let e = c.in-Ok-begin.ensures in
    record {
      takes = takes_over c.over.result c.begin.new.filer c.in-Ok-begin.volume c.over.ensures.filer (begun_fits (view_of c.in-Ok.opened.0) (view_of c.begin.new.filer) e.starts.makes.went.sectors e.layout c.in-Ok.ensures.blank.size) e.opened;
      frames = rw c.over.ensures.filer (e.starts.makes.count ∙ c.in-Ok.ensures.frames);
    }

pub returns-in-Ok-begin-clause-refuses : goal.returns-in-Ok-begin-clause-refuses
returns-in-Ok-begin-clause-refuses g c = record { count = c.in-Ok.ensures.refuses.count; bad_count = λ n. tt; refused = c.in-Ok.ensures.refuses.refused; judged = λ d revealed. tt }

pub returns-in-Ok-begin-clause-fails : goal.returns-in-Ok-begin-clause-fails
returns-in-Ok-begin-clause-fails g c = record { unwritten = tt; counted = tt; cause = tt; evidence_seen = tt }

pub returns-in-Ok-begin-clause-accounts : goal.returns-in-Ok-begin-clause-accounts
returns-in-Ok-begin-clause-accounts g c = λ d named ws begun.
    let kept = c.in-Ok-begin.ensures.accounts d named ws (begun_read c.in-Ok.ensures.reads.only begun) in
    record {
      keeps_to = rw c.over.ensures.filer (in_use c.in-Ok.opened.2, kept.keeps_to);
      reasons = tt;
      sees = sees_over c.over.result c.begin.new.filer c.over.ensures.filer c.over.ensures.kept c.over.ensures.intervals kept.sees;
    }

pub returns-in-Ok-begin-clause-writes : goal.returns-in-Ok-begin-clause-writes
returns-in-Ok-begin-clause-writes g c =
    let e = c.in-Ok-begin.ensures in
    let only = c.in-Ok.ensures.reads.only in
    let bare = c.in-Ok.ensures.blank.bare in
    let synced : SyncsFirst (g.D.Disk.state c.args.disk) (view_of c.begin.new.filer).disk = λ writes is. e.synced writes (only.writes ∙ is) in
    record {
      wrote = rw c.over.ensures.filer (start_wrote only c.in-Ok.opened.2 bare e.starts);
      synced = rw c.over.ensures.filer synced;
      clean = rw c.over.ensures.filer (clean_start bare e.starts.makes);
      left_open = rw c.over.ensures.filer e.left_open;
      root = λ d revealed.
          let read = c.in-Ok.ensures.read d revealed in
          let begun = only_begun only e.starts e.numbers.serial e.numbers.counter (root_in (root_page d)) read in
          (subst (λ (r : Root). IsMonotone r c.in-Ok-begin.volume.root) read e.numbers.monotone, rw c.over.ensures.filer begun);
      crash_states = λ d revealed right. rw c.over.ensures.filer (
          start_keeps only c.in-Ok.opened.2 bare e.starts d revealed right (view_of c.in-Ok.opened.0).layout.sectors
          (g.met.D.Disk.whole c.args.disk d revealed ∙ sym only.sectors ∙ c.in-Ok.ensures.blank.size) c.in-Ok.ensures.valid e.numbers.serial e.numbers.counter (c.in-Ok.ensures.read d revealed));
    }

pub returns-in-Ok-begin-clause-spends : goal.returns-in-Ok-begin-clause-spends
returns-in-Ok-begin-clause-spends g c =
    let layout = (view_of c.in-Ok.opened.0).layout in
    let reads = c.in-Ok.ensures.reads in
    rw c.over.ensures.filer (spends_begun layout (accepted c.in-Ok.opened.0) (g.D.Disk.state c.args.disk) (view_of c.in-Ok.opened.0).disk (view_of c.begin.new.filer).disk
    (sym reads.only.sectors ∙ c.in-Ok.ensures.blank.size) reads.moved c.begin.ensures.cost)

-- ---- The start halted.

pub returns-in-Err-begin-clause-machine : goal.returns-in-Err-begin-clause-machine
returns-in-Err-begin-clause-machine g c = λ d revealed sound. record {
  stands = tt;
  sound = c.in-Err-begin.ensures.begun d (c.in-Ok.ensures.reads.only.contents ∙ revealed) sound (c.in-Ok.ensures.read d revealed);
}

pub returns-in-Err-begin-clause-session : goal.returns-in-Err-begin-clause-session
returns-in-Err-begin-clause-session g c = record { takes = tt; frames = tt }

pub returns-in-Err-begin-clause-refuses : goal.returns-in-Err-begin-clause-refuses
returns-in-Err-begin-clause-refuses g c = record {
  count = λ isnt. absurd (c.in-Ok.ensures.refuses.count isnt);
  bad_count = λ n is. absurd (cc is);
  refused = λ d why revealed is. absurd (c.in-Ok.ensures.refuses.refused d why revealed is);
  judged = λ d revealed. tt;
}

pub returns-in-Err-begin-clause-fails : goal.returns-in-Err-begin-clause-fails
returns-in-Err-begin-clause-fails g c =
    let e = c.in-Err-begin.ensures in
    let reads = c.in-Ok.ensures.reads in
    record {
      unwritten = λ early. absurd early;
      counted = rw c.into_disk.ensures (λ is. rose_after _ _ _ reads.only.faults (e.fails.counted is));
      cause = rw c.into_disk.ensures (record {
        root = c.in-Ok.opened.2;
        revealed = c.in-Ok.ensures.read;
        before = view_of c.in-Ok.opened.0;
        read = reads;
        laid = ((accepted c.in-Ok.opened.0), sym c.in-Ok.ensures.blank.size ∙ reads.only.sectors);
        bare = c.in-Ok.ensures.blank.bare;
        no_runs = c.in-Ok.ensures.blank.no_runs (view_of c.in-Ok.opened.0).layout.sectors;
        after = view_of c.begin.new.filer;
        left = refl;
        halts = e.fails.cause;
      });
      evidence_seen = rw c.into_disk.ensures e.fails.evidence_seen;
    }

pub returns-in-Err-begin-clause-accounts : goal.returns-in-Err-begin-clause-accounts
returns-in-Err-begin-clause-accounts g c = λ d named ws begun.
    let layout = (view_of c.in-Ok.opened.0).layout in
    let long = g.met.D.Disk.whole c.args.disk d begun.contents ∙ sym c.in-Ok.ensures.reads.only.sectors ∙ c.in-Ok.ensures.blank.size in
    let same : layout ≡ layout_of (length d) = (accepted c.in-Ok.opened.0).1 ∙ ap layout_of (sym long) in
    let root = in_use c.in-Ok.opened.2 in
    let kept = c.in-Err-begin.ensures.accounts d named ws (begun_read c.in-Ok.ensures.reads.only begun) in
    record {
      keeps_to = tt;
      reasons = rw c.into_disk.ensures (
        root,
        subst (λ (l : Layout). ShowsReason (initial_state d named (ws ++ (root_write root ∷ []))) l (view_of c.begin.new.filer).disk c.in-Err-begin.halt) same kept.reasons,
      );
      sees = kept.sees;
    }

pub returns-in-Err-begin-clause-writes : goal.returns-in-Err-begin-clause-writes
returns-in-Err-begin-clause-writes g c =
    let e = c.in-Err-begin.ensures in
    let only = c.in-Ok.ensures.reads.only in
    let bare = c.in-Ok.ensures.blank.bare in
    record {
      wrote = rw c.into_disk.ensures (start_wrote only c.in-Ok.opened.2 bare e.starts);
      synced = tt;
      clean = tt;
      left_open = rw c.into_disk.ensures e.left_open;
      root = λ d revealed. rw c.into_disk.ensures (only_begun only e.starts e.numbers.serial e.numbers.counter (root_in (root_page d)) (c.in-Ok.ensures.read d revealed));
      crash_states = λ d revealed right. rw c.into_disk.ensures (
          start_keeps only c.in-Ok.opened.2 bare e.starts d revealed right (view_of c.in-Ok.opened.0).layout.sectors
          (g.met.D.Disk.whole c.args.disk d revealed ∙ sym only.sectors ∙ c.in-Ok.ensures.blank.size) c.in-Ok.ensures.valid e.numbers.serial e.numbers.counter (c.in-Ok.ensures.read d revealed));
    }

pub returns-in-Err-begin-clause-spends : goal.returns-in-Err-begin-clause-spends
returns-in-Err-begin-clause-spends g c =
    let layout = (view_of c.in-Ok.opened.0).layout in
    let reads = c.in-Ok.ensures.reads in
    rw c.into_disk.ensures (spends_begun layout (accepted c.in-Ok.opened.0) (g.D.Disk.state c.args.disk) (view_of c.in-Ok.opened.0).disk (view_of c.begin.new.filer).disk
    (sym reads.only.sectors ∙ c.in-Ok.ensures.blank.size) reads.moved c.begin.ensures.cost)
