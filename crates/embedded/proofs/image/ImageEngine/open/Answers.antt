use Rattle.std.proofs.Common.{rules}
use Rattle.embedded.specs.Opened.{IsFrames}
use Rattle.embedded.proofs.OpenLemmas.{opens_alike}
use Rattle.embedded.proofs.image.ImageEngine.open.Goals as goal

pub returns : goal.returns
returns c =
    let are : IsFrames c.args.frames = search rules in
    opens_alike c.args.frames c.args.self.now.engine c.remember.new.self c.open.new.self c.open.result are c.remember.ensures.free c.remember.ensures.same c.open.ensures
