use Rattle.volume_pair.proofs.ending.close_second.Goals as goal

pub returns-in-Err-clause-why : goal.returns-in-Err-clause-why
returns-in-Err-clause-why g c = (c.in-Err.ensures.why.counted, c.in-Err.ensures.why.evidence_seen)
