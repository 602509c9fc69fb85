use Rattle.volume_pair.proofs.starting.roots.Goals as goal

pub returns-in-Ok-opened-clause-read : goal.returns-in-Ok-opened-clause-read
returns-in-Ok-opened-clause-read g c = λ d e first second.
    let here = c.in-Ok.ensures.read d first in
    let there = c.in-Ok-opened.ensures.read e second in
    (there.0, here.1, there.1)
