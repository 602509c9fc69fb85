use Rattle.embedded.proofs.MadeLemmas.{scavenges_alike}
use Rattle.embedded.proofs.image.ImageEngine.scavenge.Goals as goal

pub returns : goal.returns
returns c =
    scavenges_alike c.args.self.now.engine c.remember.new.self c.scavenge.new.self c.scavenge.result c.remember.ensures.free c.remember.ensures.same c.remember.ensures.halt
    c.scavenge.ensures
