use Rattle.std.proofs.Common.{rules, arith}
use Rattle.documents.proofs.StreamLemmas.{consumed_more}
use Rattle.documents.proofs.streams.fill.Goals as goal

pub turns-preserved : goal.turns-preserved
turns-preserved g c = record {
  within = search rules;
  width = search rules;
  taken = consumed_more (g.S.Source.left c.args.source.now) (g.S.Source.left c.turns.source) (g.S.Source.left c.take_some.new.source) c.turns.done _ c.in-Ok.count
      c.turns.room c.take_some.new.room c.turns.invariant.within (search rules) c.turns.invariant.taken c.in-Ok.ensures.bytes;
  later = search rules;
}
