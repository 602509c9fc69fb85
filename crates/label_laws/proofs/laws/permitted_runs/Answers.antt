use Rattle.label_laws.proofs.PermittedLemmas as laws
use Rattle.label_laws.proofs.OrderLemmas as orders
use Rattle.label_laws.proofs.ThereLemmas as there
use Rattle.label_laws.proofs.laws.permitted_runs.Goals as goal

pub returns-clause-rows : goal.returns-clause-rows
returns-clause-rows c = record { appended = laws.permitted_append; split = laws.permitted_split; each = laws.each_permitted; by_each = laws.by_each; form = laws.crash_states_are_sectors }

pub returns-clause-states : goal.returns-clause-states
returns-clause-states c = record {
  same = laws.later_same;
  then_later = laws.later_then;
  one = laws.later_one;
  only_reads = laws.later_reads;
  writes = laws.later_writes;
  writes_data = laws.later_writes_data;
  reveals = laws.later_reveals;
  lent = laws.later_lent;
  given_back = laws.later_given_back;
}

pub returns-clause-orders : goal.returns-clause-orders
returns-clause-orders c = orders.orders_are_permitted

pub returns-clause-there : goal.returns-clause-there
returns-clause-there c = there.there_laws
