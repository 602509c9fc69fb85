use Rattle.std.proofs.Common.{rules, ◌≡◌}
use Rattle.trace_io.specs.Held.{progress_of}
use Rattle.trace_io.proofs.PairLineLemmas.{TakesNextPair-held, TakesPairLine-long}
use Rattle.trace_io.proofs.pair_lines.PairLines.next.Goals as goal

pub returns-in-Ok-None-clause-next : goal.returns-in-Ok-None-clause-next
returns-in-Ok-None-clause-next g c going =
    let left = g.S.Source.left in
    let seen : progress_of c.self.inside.reader ≡ c.args.self.now = search rules in
    TakesPairLine-long (left c.args.source.now) (left c.next.new.source) (progress_of c.self.inside.reader) c.args.self.now (progress_of c.next.new.self) c.next.new.self.buffer
    c.in-Ok-None.field-0 c.in-Ok-None.field-0-is seen c.in-Ok-None.ensures.next going

pub returns-clause-next : goal.returns-clause-next
returns-clause-next g c going =
    let left = g.S.Source.left in
    let seen : progress_of c.self.inside.reader ≡ c.args.self.now = search rules in
    TakesNextPair-held (left c.args.source.now) (left c.next.new.source) (progress_of c.self.inside.reader) c.args.self.now (progress_of c.next.new.self) c.next.new.self.buffer
    c.in-Ok-Some.field-0 c.in-Ok-Some.size c.line.result.now c.pair_line_in.result c.in-Ok-Some.field-0-is c.line.ensures c.pair_line_in.ensures seen c.in-Ok-Some.ensures.next going
