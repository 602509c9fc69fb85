use Rattle.trace_io.proofs.ClientLemmas.{asks_one, asks_two}
use Rattle.trace_io.proofs.event_fields.plain_client.Goals as goal

pub returns-then-text-le57 : goal.returns-then-text-le57
returns-then-text-le57 c = asks_one c.args.text.now c.if-text-gt1.true c.if-text-eq32.true c.if-text-ge49.true c.if-text-le57.true

pub returns-then-text-le54 : goal.returns-then-text-le54
returns-then-text-le54 c = asks_two c.args.text.now c.if-text-gt2.true c.if-text-eq32-2.true c.if-text-eq49.true c.if-text-ge48.true c.if-text-le54.true
