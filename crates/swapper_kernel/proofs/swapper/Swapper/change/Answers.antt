use Rattle.std.proofs.Common.{◌∙◌, ap, length}
use Rattle.frame_pool.specs.Frames.{Frame, Slots}
use Rattle.frame_pool.specs.FrameLaws.{each_filled, length_of_set}
use Rattle.swapper_kernel.specs.Homes.{IsPlaced}
use Rattle.swapper_kernel.proofs.ChangeLemmas.{frame_changes, frame_altered}
use Rattle.swapper_kernel.proofs.PlacedLemmas.{frame_there}
use Rattle.swapper_kernel.proofs.swapper.Swapper.change.Goals as goal

pub returns-clause-goes : goal.returns-clause-goes
returns-clause-goes g c = λ f has. frame_changes _ c.args.self.now.pool _ c.args.slot f c.args.at c.args.bytes.now has c.change.ensures.distinct (c.change.ensures.changed f has)

pub returns-clause-steps : goal.returns-clause-steps
returns-clause-steps g c = λ f has. frame_altered _ c.args.self.now.pool _ c.args.slot f c.args.at c.args.bytes.now has c.change.ensures.distinct (c.change.ensures.changed f has)

pub invariant_of-self : goal.invariant_of-self
invariant_of-self g c =
    let self = c.args.self.now in
    let f = frame_there self.pool c.args.slot c.requires.below c.requires.filled in
    let is = c.change.ensures.changed f.0 f.1 in
    record {
      accepted = self.accepted;
      placed = each_filled (λ (x : Frame). IsPlaced self.layout x.home) self.pool _ c.args.slot _ c.requires.below is self.placed (self.placed c.args.slot f.0 f.1);
      least = rw (ap (λ (l : Slots). length l) is ∙ length_of_set self.pool c.args.slot _) self.least;
    }
