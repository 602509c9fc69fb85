use Rattle.std.proofs.Common.{ap, ◌∙◌}
use Rattle.std.specs.Prelude.{◌&&◌}
use Rattle.flat_machine.specs.Space.{space_at, is_mapped, overlap}
use Rattle.flat_machine.specs.Refusal.{lowest_handle}
use Rattle.slow_machine.proofs.TestLemmas.{path_found}
use Rattle.slow_machine.proofs.SlowMachine.path_mapped.Goals as goal

pub returns : goal.returns
returns g c =
    rw (← c.self.view_is)
    (path_found c.self.inside.spaces.items c.args.space c.in_ok-wanted.wanted c.in_ok-handle.handle
    (c.in_ok-wanted.ensures ∙ ap (λ ss. space_at ss c.args.space) c.deref.ensures.value)
    (c.in_ok-handle.ensures ∙ ap (λ ss. lowest_handle (λ t. is_mapped t && overlap c.in_ok-wanted.wanted t) ss) c.deref-2.ensures.value))
