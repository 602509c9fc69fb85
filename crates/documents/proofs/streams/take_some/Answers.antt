use Rattle.std.proofs.Common.{rules}
use Rattle.documents.proofs.StreamLemmas.{consumed_first}
use Rattle.documents.proofs.streams.take_some.Goals as goal

pub returns-clause-bytes : goal.returns-clause-bytes
returns-clause-bytes g c =
    consumed_first (g.S.Source.left c.args.source.now) (g.S.Source.left c.next.new.self) (g.S.Source.left c.take_before.new.self) c.next.result c.in-Ok-Some.first _ c.take_before.result
    c.args.room.now c.take_before.new.room c.requires c.take_before.ensures.count c.next.ensures.byte (cc (c.in-Ok-Some.is, c.in-Ok-Some.field-0-is)) c.take_before.ensures.bytes
