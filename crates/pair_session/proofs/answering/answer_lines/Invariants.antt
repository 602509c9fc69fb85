use Rattle.std.proofs.Common.{◌≡◌, ◌⊎◌, ◌-◌, ◌^◌, ◌≤◌, Some, None}
use Rattle.trace_io.specs.declared.progress.Stop.TheVariants as stop
use Rattle.pair_session.specs.Pairs.{GoesOn, MayBeAsked, shown}
use Rattle.pair_session.proofs.GoingLemmas.{Going}
use Rattle.pair_session.proofs.OwnedLemmas.{OwnsEach}
use Rattle.pair_session.proofs.StateLemmas.{KeepsEach}
use Rattle.pair_session.proofs.TurnLemmas.{LeadsEach}
use Rattle.pair_session.proofs.answering.answer_lines.Given as goal

-- so many lines are answered
abbrev pub invariant-turns : goal.invariant-turns
invariant-turns g l = record {
  going : Going (g.S.Source.left l.fn.source) (g.S.Source.left l.source) (g.K.Sink.took l.fn.sink) (g.K.Sink.took l.sink) l.lines
      (λ items replies. LeadsEach (shown l.fn.pair) (shown l.pair) items replies × KeepsEach (shown l.fn.pair) (shown l.pair) items items replies × OwnsEach (shown l.fn.pair) (shown l.pair) items);
  goes : GoesOn (shown l.fn.pair) (shown l.pair);
  asked : MayBeAsked (shown l.pair);
  goes_on : (l.lines.stopped ≡ None) ⊎ (l.lines.stopped ≡ Some stop.End);
  limit : l.lines.limit ≡ 2 ^ 32;
  bound : l.lines.taken ≤ l.lines.limit;
  source : g.S.Source.faults l.fn.source ≤ g.S.Source.faults l.source;
  sink : g.K.Sink.faults l.fn.sink ≤ g.K.Sink.faults l.sink;
}

abbrev pub decreases-turns : goal.decreases-turns
decreases-turns g l = l.lines.limit - l.lines.taken
