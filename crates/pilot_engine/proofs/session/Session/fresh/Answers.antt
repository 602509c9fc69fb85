use Rattle.std.proofs.Common.{◌≡◌, inl, inr, ℕ, [], length, refl, sym, ap, ◌∙◌}
use Rattle.labelled_disk.specs.declared.evidence.Halt.TheVariants as halt
use Rattle.labelled_disk.specs.declared.layout.Layout.{Layout}
use Rattle.labelled_disk.specs.Layout.{capacity}
use Rattle.frame_pool.specs.Frames.{Slots}
use Rattle.filer_kernel.specs.Cached.{runs_of}
use Rattle.flat_machine.specs.Start.{opened}
use Rattle.filer_kernel.specs.View.{accepted, view_of}
use Rattle.running_words.specs.Running.{IsRunning}
use Rattle.pilot_engine.specs.Opening.{IsBare}
use Rattle.pilot_engine.proofs.FreshLemmas.{began_none, disk_evident, disk_open, early_fresh, fresh_count, fresh_held, fresh_outside, fresh_volume, keeps_new, later_begun, later_none, reads_none, wrote_on_new}
use Rattle.pilot_engine.proofs.StartFaults.{early_left, early_so}
use Rattle.pilot_engine.proofs.StartRuns.{begun_fits, runs_over, takes_over}
use Rattle.pilot_engine.proofs.WroteLemmas.{rose_after}
use Rattle.pilot_engine.proofs.session.Session.fresh.Goals as goal

-- ---- No volume has so many sectors, or there is no memory.

pub returns-in-Err : goal.returns-in-Err
returns-in-Err g c =
    let f = c.in-Err.fault.0 in
    let old = g.D.Disk.state c.args.disk in
    let left = g.D.Disk.state c.in-Err.fault.1 in
    let n = old.sectors in
    let e = c.in-Err.ensures in
    let why = e.refused in
    record {
      machine = λ d revealed. record { stands = tt; sound = fresh_outside n f why.0 why.1 };
      session = record { takes = tt; frames = tt };
      refuses = record { count = fresh_count n f why.0; refused = why.0 };
      fails = record {
        unwritten = λ early. rw e.back (reads_none old);
        counted = λ failed. absurd (fresh_held n f why.0 why.1 failed);
        cause = early_fresh old left f why.1;
        evidence_seen = early_so left f why.1;
      };
      writes = record {
        wrote = rw e.back (inl (began_none old));
        crash_states = λ d revealed. rw e.back (inl (began_none old));
        left_open = early_left left f why.1;
        later = rw e.back (later_none old);
      };
    }

-- ---- The disk failed while the volume was made.

pub returns-in-Err-make_volume-clause-machine : goal.returns-in-Err-make_volume-clause-machine
returns-in-Err-make_volume-clause-machine g c = λ d revealed. record { stands = tt; sound = λ count. c.in-Err-make_volume.ensures.fault.0 }

pub returns-in-Err-make_volume-clause-session : goal.returns-in-Err-make_volume-clause-session
returns-in-Err-make_volume-clause-session g c = record { takes = tt; frames = tt }

pub returns-in-Err-make_volume-clause-refuses : goal.returns-in-Err-make_volume-clause-refuses
returns-in-Err-make_volume-clause-refuses g c = record { count = λ none. absurd (none c.in-Ok.ensures.count); refused = c.in-Ok.ensures.count }

pub returns-in-Err-make_volume-clause-fails : goal.returns-in-Err-make_volume-clause-fails
returns-in-Err-make_volume-clause-fails g c =
    let given = c.in-Err-make_volume.ensures in
    let rose = rw c.in-Ok.ensures.disk at given.fault.1 in
    let part = rw c.in-Ok.ensures.disk at given.part in
    record {
      unwritten = λ early. absurd early;
      counted = rw c.into_disk.ensures (λ is. rose);
      cause = rw c.into_disk.ensures (inl (given.fault.0, rose, part));
      evidence_seen = disk_evident (g.D.Disk.state c.into_disk.result) c.in-Err-make_volume.halt given.fault.0;
    }

pub returns-in-Err-make_volume-clause-writes : goal.returns-in-Err-make_volume-clause-writes
returns-in-Err-make_volume-clause-writes g c =
    let given = c.in-Err-make_volume.ensures in
    let part = rw c.in-Ok.ensures.disk at given.part in
    let later = rw c.in-Ok.ensures.disk at given.later in
    record {
      wrote = rw c.into_disk.ensures (inl part);
      crash_states = λ d revealed. rw c.into_disk.ensures (inl part);
      left_open = disk_open (g.D.Disk.state c.into_disk.result) c.in-Err-make_volume.halt given.fault.0;
      later = rw c.into_disk.ensures later;
    }

-- ---- The session starts.

pub returns-in-Ok-begin-clause-machine : goal.returns-in-Ok-begin-clause-machine
returns-in-Ok-begin-clause-machine g c = λ d revealed.
    let long = g.met.D.Disk.whole c.args.disk d revealed in
    let contents = (rw c.in-Ok.ensures.disk at c.in-Ok-make_volume.ensures.made).contents d revealed in
    let root = rw c.in-Ok.ensures.disk at c.in-Ok-make_volume.ensures.root in
    let runs = fresh_volume (λ m. IsRunning (view_of c.begin.new.filer) [] 1 c.in-Ok-begin.volume m) (g.D.Disk.state c.args.disk) (view_of c.make_volume.new.filer).disk d c.in-Ok-make_volume.root long c.in-Ok.ensures.count root contents
    c.in-Ok-begin.ensures.begun in
    record {
      stands = runs_over c.over.result c.begin.new.filer c.in-Ok-begin.volume (opened 1 1 (capacity (g.D.Disk.state c.args.disk).sectors)) c.over.ensures.filer c.over.ensures.kept c.over.ensures.intervals runs;
      sound = λ count. tt;
    }

pub returns-in-Ok-begin-clause-session : goal.returns-in-Ok-begin-clause-session
returns-in-Ok-begin-clause-session g c =
    let given = c.in-Ok-make_volume.ensures in
    let e = c.in-Ok-begin.ensures in
    let made = view_of c.make_volume.new.filer in
    let fits = begun_fits (view_of c.in-Ok.opened.0) made given.later.sectors given.stays.layout c.in-Ok.ensures.blank.size in
    record {
      takes = takes_over c.over.result c.begin.new.filer c.in-Ok-begin.volume c.over.ensures.filer (begun_fits made (view_of c.begin.new.filer) e.starts.makes.went.sectors e.layout fits) e.opened;
      frames = rw c.over.ensures.filer (e.starts.makes.count ∙ ap (λ (slots : Slots). length slots) given.stays.frames ∙ c.in-Ok.ensures.frames);
    }

pub returns-in-Ok-begin-clause-refuses : goal.returns-in-Ok-begin-clause-refuses
returns-in-Ok-begin-clause-refuses g c = record { count = λ none. absurd (none c.in-Ok.ensures.count); refused = tt }

pub returns-in-Ok-begin-clause-fails : goal.returns-in-Ok-begin-clause-fails
returns-in-Ok-begin-clause-fails g c = record { unwritten = tt; counted = tt; cause = tt; evidence_seen = tt }

pub returns-in-Ok-begin-clause-writes : goal.returns-in-Ok-begin-clause-writes
returns-in-Ok-begin-clause-writes g c =
    let given = c.in-Ok-make_volume.ensures in
    let root = rw c.in-Ok.ensures.disk at given.root in
    let volume = rw c.in-Ok.ensures.disk at given.made in
    let bare : IsBare (view_of c.make_volume.new.filer).slots = rw given.stays.frames c.in-Ok.ensures.blank.bare in
    let e = c.in-Ok-begin.ensures in
    record {
      wrote = rw c.over.ensures.filer (wrote_on_new volume c.in-Ok-make_volume.root root bare e.starts);
      crash_states = λ d revealed. rw c.over.ensures.filer (keeps_new d (g.met.D.Disk.whole c.args.disk d revealed) c.in-Ok.ensures.count revealed volume c.in-Ok-make_volume.root root bare e.starts);
      left_open = rw c.over.ensures.filer e.left_open;
      later = rw c.over.ensures.filer (later_begun volume.later e.starts.makes.went);
    }

-- ---- The start halted.

pub returns-in-Err-begin-clause-machine : goal.returns-in-Err-begin-clause-machine
returns-in-Err-begin-clause-machine g c = λ d revealed. record {
  stands = tt;
  sound = λ count.
      let long = g.met.D.Disk.whole c.args.disk d revealed in
      let contents = (rw c.in-Ok.ensures.disk at c.in-Ok-make_volume.ensures.made).contents d revealed in
      let root = rw c.in-Ok.ensures.disk at c.in-Ok-make_volume.ensures.root in
      fresh_volume (λ m. c.in-Err-begin.halt ≡ halt.Disk) (g.D.Disk.state c.args.disk) (view_of c.make_volume.new.filer).disk d c.in-Ok-make_volume.root long c.in-Ok.ensures.count root contents
      c.in-Err-begin.ensures.begun;
}

pub returns-in-Err-begin-clause-session : goal.returns-in-Err-begin-clause-session
returns-in-Err-begin-clause-session g c = record { takes = tt; frames = tt }

pub returns-in-Err-begin-clause-refuses : goal.returns-in-Err-begin-clause-refuses
returns-in-Err-begin-clause-refuses g c = record { count = λ none. absurd (none c.in-Ok.ensures.count); refused = c.in-Ok.ensures.count }

pub returns-in-Err-begin-clause-fails : goal.returns-in-Err-begin-clause-fails
returns-in-Err-begin-clause-fails g c =
    let given = c.in-Ok-make_volume.ensures in
    let fails = c.in-Err-begin.ensures.fails in
    let root = rw c.in-Ok.ensures.disk at given.root in
    let volume = rw c.in-Ok.ensures.disk at given.made in
    let bare : IsBare (view_of c.make_volume.new.filer).slots = rw given.stays.frames c.in-Ok.ensures.blank.bare in
    let same : (view_of c.make_volume.new.filer).layout.sectors ≡ (g.D.Disk.state c.args.disk).sectors = ap (λ (l : Layout). l.sectors) given.stays.layout ∙ sym (rw c.in-Ok.ensures.disk at c.in-Ok.ensures.blank.size) in
    let runs : (n : ℕ) → runs_of n c.make_volume.new.filer.runs ≡ [] = rw given.stays.runs c.in-Ok.ensures.blank.no_runs in
    record {
      unwritten = λ early. absurd early;
      counted = rw c.into_disk-in-Err-begin.ensures (λ is. rose_after _ _ _ volume.later.faults (fails.counted is));
      cause = rw c.into_disk-in-Err-begin.ensures (inr (record {
        before = view_of c.make_volume.new.filer;
        volume = volume;
        laid = ((accepted c.make_volume.new.filer), same);
        bare = bare;
        no_runs = runs (view_of c.make_volume.new.filer).layout.sectors;
        after = view_of c.begin.new.filer;
        left = refl;
        halts = rw root at fails.cause;
      }));
      evidence_seen = rw c.into_disk-in-Err-begin.ensures fails.evidence_seen;
    }

pub returns-in-Err-begin-clause-writes : goal.returns-in-Err-begin-clause-writes
returns-in-Err-begin-clause-writes g c =
    let given = c.in-Ok-make_volume.ensures in
    let root = rw c.in-Ok.ensures.disk at given.root in
    let volume = rw c.in-Ok.ensures.disk at given.made in
    let bare : IsBare (view_of c.make_volume.new.filer).slots = rw given.stays.frames c.in-Ok.ensures.blank.bare in
    let e = c.in-Err-begin.ensures in
    record {
      wrote = rw c.into_disk-in-Err-begin.ensures (inr (wrote_on_new volume c.in-Ok-make_volume.root root bare e.starts));
      crash_states = λ d revealed.
          rw c.into_disk-in-Err-begin.ensures (inr (keeps_new d (g.met.D.Disk.whole c.args.disk d revealed) c.in-Ok.ensures.count revealed volume c.in-Ok-make_volume.root root bare e.starts));
      left_open = rw c.into_disk-in-Err-begin.ensures e.left_open;
      later = rw c.into_disk-in-Err-begin.ensures (later_begun volume.later e.starts.makes.went);
    }
