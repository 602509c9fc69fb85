use Rattle.embedded.proofs.PieceLemmas.{live_same}
use Rattle.embedded.proofs.live.Live.load_ready.Goals as goal

pub returns-clause-same : goal.returns-clause-same
returns-clause-same g c = live_same c.load_ready.new.self c.args.self.now.session c.load_ready.ensures.same _ c.args.self.now.size _ c.args.self.now.opened
