use Rattle.std.proofs.Common.{rules, ◌≡◌, ◌∙◌, arith, refl, Err}
use Rattle.write_queue.specs.Queue.{view_of}
use Rattle.write_queue.proofs.BeneathLemmas.{meets_later}
use Rattle.write_queue.proofs.WaitLemmas.{none_so_far, part_swept, so_far_more}
use Rattle.write_queue.proofs.queue.QueueOver.empty.Goals as goal

pub returns-in_err-write_first-clause-swept : goal.returns-in_err-write_first-clause-swept
returns-in_err-write_first-clause-swept g c =
    let same : c.from_residual.result ≡ Err c.in_err-write_first.field-0.0 = search rules in
    let old = c.args.self.now in
    let now = c.loop.self in
    let new = c.write_first.new.self in
    rw same (part_swept old.head old.entries.items (g.D.Disk.state old.beneath) old.own now.entries.items now.head (g.D.Disk.state now.beneath) now.own
    c.in_err-write_first.field-0.0 new.entries.items new.head (g.D.Disk.state new.beneath) c.loop.invariant.0 c.in_err-write_first.ensures.out)

pub returns-in_err-write_first-clause-met : goal.returns-in_err-write_first-clause-met
returns-in_err-write_first-clause-met g c =
    let same : c.from_residual.result ≡ Err c.in_err-write_first.field-0.0 = search rules in
    rw same (meets_later (view_of c.args.self.now) (view_of c.loop.self) (view_of c.write_first.new.self) (Err c.in_err-write_first.field-0.0) c.loop.invariant.4 c.in_err-write_first.ensures.met)

pub loop-preserved : goal.loop-preserved
loop-preserved g c =
    let old = c.args.self.now in
    let now = c.loop.self in
    let new = c.write_first.new.self in
    let out = c.in_ok-write_first.ensures.out in
    let before = c.loop.invariant in (
      so_far_more old.head old.entries.items (g.D.Disk.state old.beneath) old.own now.entries.items now.head (g.D.Disk.state now.beneath) now.own
          new.entries.items new.head (g.D.Disk.state new.beneath) new.own before.0 out c.write_first.ensures.revealed c.write_first.ensures.later,
      omega (arith, before.1, out.out.3),
      c.in_ok-write_first.ensures.credit,
      record {
        room = c.write_first.ensures.same.room ∙ before.3.room;
        transfers = c.write_first.ensures.same.transfers ∙ before.3.transfers;
        begun = c.write_first.ensures.same.begun ∙ before.3.begun;
        no_sync = c.write_first.ensures.same.no_sync ∙ before.3.no_sync;
      },
      (c.in_ok-write_first.ensures.met.0.0 ∙ before.4.0, c.in_ok-write_first.ensures.met.0.1 ∙ before.4.1),
    )

pub loop-init : goal.loop-init
loop-init g c =
    let old = c.args.self.now in (
      none_so_far old.head old.entries.items (g.D.Disk.state old.beneath) old.own,
      omega (arith, c.len-end.ensures),
      c.requires.credit,
      record { room = refl; transfers = refl; begun = refl; no_sync = refl },
      (refl, refl),
    )
