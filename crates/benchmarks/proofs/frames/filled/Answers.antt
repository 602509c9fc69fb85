use Rattle.benchmarks.proofs.frames.filled.Goals as goal

-- the page was looked for, and found in no slot
pub put-requires-clause-nowhere : goal.put-requires-clause-nowhere
put-requires-clause-nowhere c = c.find.ensures.nowhere.0 c.in-None.is
