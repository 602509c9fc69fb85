use Rattle.std.proofs.Common.{rules, ◌≡◌}
use Rattle.trace_io.specs.Held.{progress_of}
use Rattle.trace_io.proofs.Form.{line-form}
use Rattle.trace_io.proofs.NextLemmas.{TakesLine-long}
use Rattle.trace_io.proofs.lines.Lines.next.Goals as goal

pub returns-in-Ok-None-clause-next : goal.returns-in-Ok-None-clause-next
returns-in-Ok-None-clause-next g c going =
    let left = g.S.Source.left in
    let seen : progress_of c.self.inside.reader ≡ c.args.self.now = search rules in
    TakesLine-long c.next.new.self.buffer c.in-Ok-None.field-0 (left c.args.source.now) (left c.next.new.source) (progress_of c.self.inside.reader) c.args.self.now (progress_of c.next.new.self)
    c.in-Ok-None.field-0-is seen c.in-Ok-None.ensures.next going

pub returns-clause-form : goal.returns-clause-form
returns-clause-form g c going = line-form c.line_of.result c.line.result.now c.line_of.ensures
