use Rattle.std.proofs.Common.{◌∙◌, ap, subst, sym}
use Rattle.labelled_disk.specs.declared.layout.Layout.{Layout}
use Rattle.labelled_disk.specs.Calls.{ReadsAtMost}
use Rattle.filer_kernel.specs.View.{view_of}
use Rattle.volume_root.specs.declared.root.Root.{Root}
use Rattle.volume_root.specs.RootPage.{IsValidRoot}
use Rattle.volume_pair.specs.Ends.{in_use}
use Rattle.volume_pair.specs.declared.fault.PairStart.TheVariants.{NoMemory}
use Rattle.volume_pair.proofs.EndStateLemmas.{reads_early, started_states}
use Rattle.volume_pair.proofs.StartLemmas.{bare_clean, early_outside, first_side, in_use_valid, paired, read_then}
use Rattle.volume_pair.proofs.pair.Pair.over.Goals as goal

pub returns-in-Err-clause-stands : goal.returns-in-Err-clause-stands
returns-in-Err-clause-stands g c = λ d e first second sound also.
    early_outside d e (g.met.D.Disk.in_form c.args.from d first) (g.met.E.Disk.in_form c.args.to e second) sound also c.in-Err.why c.in-Err.ensures.early (c.in-Err.ensures.read d e first second)

pub returns-in-Err-clause-to : goal.returns-in-Err-clause-to
returns-in-Err-clause-to g c = reads_early _ c.roots.ensures.to_reads

pub returns-in_default-clause-to : goal.returns-in_default-clause-to
returns-in_default-clause-to g c = reads_early _ c.roots.ensures.to_reads

pub returns-in-Err-frames_over-clause-to : goal.returns-in-Err-frames_over-clause-to
returns-in-Err-frames_over-clause-to g c = reads_early _ c.roots.ensures.to_reads

pub returns-in-Err-frames_over-2-clause-to : goal.returns-in-Err-frames_over-2-clause-to
returns-in-Err-frames_over-2-clause-to g c = rw c.in-Err-frames_over-2.ensures.disk (reads_early NoMemory c.roots.ensures.to_reads)

pub returns-in-Ok-put_in_use-clause-stands : goal.returns-in-Ok-put_in_use-clause-stands
returns-in-Ok-put_in_use-clause-stands g c = λ d e first second sound also.
    let v = view_of c.in-Ok-frames_over.filer in
    let root = (c.in-Ok.ensures.read d e first second).0 in
    let started = c.in-Ok-put_in_use.ensures.started e (ap (λ x. (g.E.Disk.state x).contents) c.in-Ok-frames_over-2.ensures.disk ∙ c.roots.ensures.to_reads.only.contents ∙ second) also root in
    let long = g.met.D.Disk.whole c.args.from d first ∙ sym c.in-Ok.ensures.laid.0.1 ∙ ap (λ (l : Layout). l.sectors) (sym c.in-Ok-frames_over.ensures.layout) in
    let side = first_side v d (g.met.D.Disk.in_form c.args.from d first) sound long c.in-Ok-frames_over.ensures.bare (c.in-Ok-frames_over.ensures.no_runs v.layout.sectors)
    (ap (λ x. (g.D.Disk.state x).contents) c.in-Ok-frames_over.ensures.disk ∙ c.roots.ensures.from_reads.only.contents ∙ first) in
    paired v (view_of c.put_in_use.new.filer) c.in-Ok-put_in_use.volume d e c.in-Ok.found.2 c.in-Ok.found.1 side started root c.in-Ok-put_in_use.ensures.volume.1 c.in-Ok-put_in_use.ensures.volume.0 c.in-Ok.ensures.laid.1.0
    (c.in-Ok.ensures.laid.1.1 ∙ sym (g.met.E.Disk.whole c.args.to e second))

pub returns-in-Ok-put_in_use-clause-in_use : goal.returns-in-Ok-put_in_use-clause-in_use
returns-in-Ok-put_in_use-clause-in_use g c =
    let w = view_of c.put_in_use.new.filer in
    let laid = c.put_in_use.ensures.layout ∙ c.in-Ok-frames_over-2.ensures.layout in
    let sectors = ap (λ x. (g.E.Disk.state x).sectors) c.in-Ok-frames_over-2.ensures.disk ∙ c.roots.ensures.to_reads.only.sectors in
    record {
      from_fits = ap (λ x. (g.D.Disk.state x).sectors) c.in-Ok-frames_over.ensures.disk ∙ c.roots.ensures.from_reads.only.sectors ∙ sym c.in-Ok.ensures.laid.0.1 ∙ ap (λ (l : Layout). l.sectors) (sym c.in-Ok-frames_over.ensures.layout);
      to_fits = c.put_in_use.ensures.writes.makes.went.sectors ∙ sectors ∙ sym c.in-Ok.ensures.laid.1.1 ∙ ap (λ (l : Layout). l.sectors) (sym laid);
      clean = bare_clean _ c.in-Ok-frames_over.ensures.bare;
      layout = c.in-Ok-put_in_use.ensures.volume.0 ∙ sym laid;
      valid = subst (λ (r : Root). IsValidRoot w.layout.sectors r) (sym c.in-Ok-put_in_use.ensures.volume.1)
          (in_use_valid w.layout.sectors c.in-Ok.found.2 (subst (λ (l : Layout). IsValidRoot l.sectors c.in-Ok.found.2) (sym laid) (subst (λ n. IsValidRoot n c.in-Ok.found.2) (sym c.in-Ok.ensures.laid.1.1) c.in-Ok.ensures.valid)));
    }

pub returns-in-Ok-put_in_use-clause-to : goal.returns-in-Ok-put_in_use-clause-to
returns-in-Ok-put_in_use-clause-to g c =
    let reads = subst (λ x. ReadsAtMost 1 (g.E.Disk.state c.args.to) (g.E.Disk.state x)) (sym c.in-Ok-frames_over-2.ensures.disk) c.roots.ensures.to_reads in
    record {
      written = read_then (view_of c.in-Ok-frames_over-2.filer) (view_of c.put_in_use.new.filer) reads c.in-Ok-frames_over-2.ensures.bare
          c.put_in_use.ensures.writes;
      in_use = λ d e was now. c.in-Ok-put_in_use.ensures.in_use d e (reads.only.contents ∙ was) (c.in-Ok.ensures.root d was) now;
      clean = c.in-Ok-put_in_use.ensures.clean;
      crash_states = λ e revealed sound. started_states reads (λ d here also. c.put_in_use.ensures.crash_states d here also (c.in-Ok.ensures.root d (sym reads.only.contents ∙ here))) e revealed sound;
    }

pub returns-in-Err-put_in_use-clause-stands : goal.returns-in-Err-put_in_use-clause-stands
returns-in-Err-put_in_use-clause-stands g c = λ d e first second sound also.
    c.in-Err-put_in_use.ensures.started e (ap (λ x. (g.E.Disk.state x).contents) c.in-Ok-frames_over-2.ensures.disk ∙ c.roots.ensures.to_reads.only.contents ∙ second) also (c.in-Ok.ensures.read d e first second).0

pub returns-in-Err-put_in_use-clause-to : goal.returns-in-Err-put_in_use-clause-to
returns-in-Err-put_in_use-clause-to g c =
    let reads = subst (λ x. ReadsAtMost 1 (g.E.Disk.state c.args.to) (g.E.Disk.state x)) (sym c.in-Ok-frames_over-2.ensures.disk) c.roots.ensures.to_reads in
    rw c.into_disk-in-Err-put_in_use-2.ensures (record {
      written = read_then (view_of c.in-Ok-frames_over-2.filer) (view_of c.put_in_use.new.filer) reads c.in-Ok-frames_over-2.ensures.bare
          c.put_in_use.ensures.writes;
      early = λ none. absurd none;
      crash_states = λ e revealed sound. started_states reads (λ d here also. c.put_in_use.ensures.crash_states d here also (c.in-Ok.ensures.root d (sym reads.only.contents ∙ here))) e revealed sound;
    })

pub returns-in-Ok-put_in_use-clause-root : goal.returns-in-Ok-put_in_use-clause-root
returns-in-Ok-put_in_use-clause-root g c = λ d e first second. c.in-Ok-put_in_use.ensures.volume.1 ∙ ap in_use (c.in-Ok.ensures.read d e first second).0

pub returns-in-Ok-put_in_use-clause-refused : goal.returns-in-Ok-put_in_use-clause-refused
returns-in-Ok-put_in_use-clause-refused g c = λ d e first second. let read = c.in-Ok.ensures.read d e first second in (read.1, read.2)
