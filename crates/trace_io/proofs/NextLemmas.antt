-- A line of a trace that is too long to be held.
use Rattle.std.proofs.Common.{◌≡◌, ℕ, List, Option, None, Ok, ap, ◌∙◌, subst}
use Rattle.trace_io.specs.Grammar.{call_of}
use Rattle.trace_io.specs.Progress.{Progress}
use Rattle.trace_io.specs.Lines.{TakesLine}
use Rattle.trace_io.specs.Held.{Holds}
use Rattle.trace_io.proofs.HeldLemmas.{TakesSaid-text}
use Rattle.trace_io.proofs.LongLines.{call_of-long}

-- it is taken, and says nothing
pub TakesLine-long : (buffer : List ℕ) (held : Option ℕ) (a c : Option (List ℕ)) (p now q : Progress) → held ≡ None → p ≡ now → (p.stopped ≡ None → Holds (Ok held) buffer a c p q) → now.stopped ≡ None
    → TakesLine None a c now q
TakesLine-long buffer held a c p now q none same holds going =
    let long = subst (λ (h : Option ℕ). Holds (Ok h) buffer a c p q) none (holds (ap (λ (x : Progress). x.stopped) same ∙ going)) in
    subst (λ (x : Progress). TakesLine None a c x q) same (TakesSaid-text call_of long.0 None a c p q (call_of-long long.0 long.1) long.2)
