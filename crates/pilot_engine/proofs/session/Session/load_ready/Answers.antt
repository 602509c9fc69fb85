use Rattle.std.proofs.Common.{refl}
use Rattle.fault_core.specs.Core.{kept, state}
use Rattle.running_words.proofs.RunningLemmas.{running_laws}
use Rattle.space_calls.proofs.CameLemmas.{whole_of}
use Rattle.pilot_engine.proofs.ReferLemmas.{bytes_answered}
use Rattle.pilot_engine.proofs.session.Session.load_ready.Goals as goal

pub returns-clause-machine : goal.returns-clause-machine
returns-clause-machine g c = λ m r.
    bytes_answered (whole_of c.args.self.now.core c.requires.taken.size) r c.args.address c.load_ready.result c.load_ready.new.into c.load_ready.ensures.access c.load_ready.ensures.bytes

pub returns-clause-same : goal.returns-clause-same
returns-clause-same g c = rw c.load_ready.ensures.same refl

pub returns-clause-first : goal.returns-clause-first
returns-clause-first g c = λ m slot r hand some.
    let core = c.args.self.now.core in
    c.load_ready.ensures.first slot hand (running_laws.apart (state core) (kept core) core.intervals c.args.self.now.volume m r) some
