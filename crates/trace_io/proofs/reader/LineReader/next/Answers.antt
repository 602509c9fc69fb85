use Rattle.trace_io.specs.Held.{progress_of}
use Rattle.trace_io.proofs.HeldLemmas.{Holds-feed, Holds-last}
use Rattle.trace_io.proofs.reader.LineReader.next.Goals as goal

pub returns-in-Feed-clause-next : goal.returns-in-Feed-clause-next
returns-in-Feed-clause-next g c going =
    let left = g.S.Source.left in
    let holds = Holds-feed c.take_line-scan.new.buffer c.take_line-scan.result (left c.args.source.now) (left c.take_line-scan.new.source) (progress_of c.args.self.now) (progress_of c.advance.new.self)
    c.take_line-scan.array_long c.take_line-scan.ensures.scan c.requires c.in-Feed.is c.advance.ensures.progress in
    rw (c.held.ensures, c.advance.ensures.buffer) holds

pub returns-else-scan-eq0-clause-next : goal.returns-else-scan-eq0-clause-next
returns-else-scan-eq0-clause-next g c going =
    let left = g.S.Source.left in
    let holds = Holds-last c.take_line-scan.new.buffer c.take_line-scan.result (left c.args.source.now) (left c.take_line-scan.new.source) (progress_of c.args.self.now) (progress_of c.advance-in-Source.new.self)
    c.take_line-scan.array_long c.take_line-scan.ensures.scan c.requires c.in-Source.is c.if-scan-eq0.false c.advance-in-Source.ensures.progress in
    rw (c.held-in-Source.ensures, c.advance-in-Source.ensures.buffer) holds
