use Rattle.embedded.proofs.OpenLemmas.{abandons_then}
use Rattle.embedded.proofs.image.ImageEngine.abandon.Goals as goal

pub returns : goal.returns
returns c =
    abandons_then c.args.self.now.engine c.abandon.new.self c.write_out.new.self c.in-Ok.ensures c.write_out.ensures.closed c.write_out.ensures.disk c.write_out.ensures.halt
