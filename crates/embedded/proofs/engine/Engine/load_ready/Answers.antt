use Rattle.std.proofs.Common.{◌∙◌, refl}
use Rattle.std.proofs.lemmas.Bool.{true≢false}
use Rattle.embedded.proofs.ReferenceLemmas.{replied_at}
use Rattle.embedded.proofs.engine.Engine.load_ready.Goals as goal

pub returns-clause-loaded : goal.returns-clause-loaded
returns-clause-loaded g c = λ m stands.
    replied_at m c.args.address c.load_ready.result c.load_ready.new.into (c.load_ready.ensures.machine m (rw c.in-Session.is at stands).1)

pub returns-clause-closed : goal.returns-clause-closed
returns-clause-closed g c = λ closed. absurd (true≢false (c.if-not-running.ensures ∙ (rw c.in-Session.is at closed)))

pub returns-clause-same : goal.returns-clause-same
returns-clause-same g c = rw (c.load_ready.ensures.same, ← c.in-Session.is) refl
