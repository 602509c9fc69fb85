use Rattle.std.proofs.Common.{rules, ◌≢◌, List, ℕ, ◌++◌, ap, ◌∙◌, sym, append_assoc}
use Rattle.std.specs.Prelude.{flat_map}
use Rattle.std.specs.Io.KnownBytes.{Appends}
use Rattle.std.proofs.KnownBytes.{Appends-trans}
use Rattle.flat_machine.specs.Text.{text}
use Rattle.flat_machine.specs.declared.call.Reply.TheVariants as reply
use Rattle.trace_io.specs.Stream.{AppendsPrefix}
use Rattle.client_events.specs.Dropped.{dropped_line}
use Rattle.pilot_top.specs.Ending.{end_text}
use Rattle.pilot_top.specs.declared.turn.End.TheVariants as end
use Rattle.pilot_top.proofs.EventLemmas.{end_is_answered}
use Rattle.pilot_top.proofs.clients.put_end.Goals as goal

-- the lines of those who are dropped were cut short
pub returns-then-is_err-clause-part : goal.returns-then-is_err-clause-part
returns-then-is_err-clause-part g c = λ failed.
    let dropped = flat_map dropped_line c.args.clients.items in
    let put : AppendsPrefix (g.K.Sink.took c.args.sink.now) (g.K.Sink.took c.write_dropped_clients.new.sink) dropped = search rules in
    (put.0, (put.1.0 ++ end_text c.args.end, ap (λ (l : List ℕ). l ++ end_text c.args.end) put.1.1 ∙ append_assoc put.0 put.1.0 (end_text c.args.end)), put.2)

-- the reply was
pub returns-then-is_err-2-clause-part : goal.returns-then-is_err-2-clause-part
returns-then-is_err-2-clause-part g c = λ failed.
    let dropped = flat_map dropped_line c.args.clients.items in
    let first : Appends (g.K.Sink.took c.args.sink.now) (g.K.Sink.took c.write_dropped_clients.new.sink) dropped = search rules in
    let put : AppendsPrefix (g.K.Sink.took c.write_dropped_clients.new.sink) (g.K.Sink.took c.write_reply.new.sink) (text reply.Done) = search rules in
    let other : c.args.end ≢ end.Trace = search rules in
    (dropped ++ put.0, (put.1.0, ap (λ (l : List ℕ). dropped ++ l) (end_is_answered c.args.end other ∙ put.1.1) ∙ sym (append_assoc dropped put.0 put.1.0)), Appends-trans (g.K.Sink.took c.args.sink.now) (g.K.Sink.took c.write_dropped_clients.new.sink) (g.K.Sink.took c.write_reply.new.sink) dropped put.0 first put.2)
