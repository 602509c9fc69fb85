use Rattle.trace_io.specs.EventGrammar.{event_of, is_last_event}
use Rattle.trace_io.proofs.ItemLemmas.{items_of-line, items_of-last}
use Rattle.trace_io.proofs.laws.events_are_read_by_lines.Goals as goal

pub returns-clause-line : goal.returns-clause-line
returns-clause-line c line s misses = items_of-line event_of is_last_event line s misses

pub returns-clause-last : goal.returns-clause-last
returns-clause-last c line misses some = items_of-last event_of is_last_event line misses some
