-- Three numbers were drawn.
use Rattle.trace_maker.proofs.CallLemmas.{three_on}
use Rattle.trace_maker.proofs.maker.TraceMaker.next_call.Goals as goal

pub returns-clause-next : goal.returns-clause-next
returns-clause-next c seed index is =
    three_on seed index c.args.self.now.drawn c.draw-v.new.self.drawn c.draw-w.new.self.drawn c.draw-u.new.self.drawn is c.draw-v.ensures.drawn c.draw-w.ensures.drawn c.draw-u.ensures.drawn
