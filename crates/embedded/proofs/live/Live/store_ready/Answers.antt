use Rattle.embedded.proofs.PieceLemmas.{live_same}
use Rattle.embedded.proofs.live.Live.store_ready.Goals as goal

pub returns-clause-left : goal.returns-clause-left
returns-clause-left g c = λ none. live_same c.store_ready.new.self c.args.self.now.session (c.store_ready.ensures.left none) _ c.args.self.now.size _ c.args.self.now.opened
