use Rattle.std.proofs.Common.{ap, ◌∙◌}
use Rattle.flat_machine.specs.Next.{change_file, resized}
use Rattle.slow_machine.proofs.FileLemmas.{room_resized_by, ascending_resized_by}
use Rattle.slow_machine.proofs.SlowMachine.set_size.Goals as goal

pub invariant_of-self : goal.invariant_of-self
invariant_of-self g c =
    let e = c.in_ok-resized.ensures ∙ ap (λ fs. change_file c.args.id (resized c.args.pages) fs) c.deref.ensures.value in (
      room_resized_by _ _ _ c.args.id c.args.pages c.self.view_is e c.self.invariant.1 c.requires,
      ascending_resized_by _ c.args.id c.args.pages c.self.inside.files.items e c.self.invariant.1,
      c.self.invariant.2,
    )
