use Rattle.std.proofs.Common.{◌∙◌, sym}
use Rattle.pilot_c.proofs.session.pilot_release.Goals as goal

pub returns : goal.returns
returns c = record {
  closed = c.release.ensures.closed;
  disk = c.release.ensures.disk;
  same_halt = rw (sym c.engine-handle.ensures.value) (c.release.ensures.same_halt ∙ c.abandon.ensures.same_halt);
}
