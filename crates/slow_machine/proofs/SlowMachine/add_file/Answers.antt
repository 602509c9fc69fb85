use Rattle.std.proofs.Common.{ap, ◌∙◌}
use Rattle.labelled_disk.proofs.AscendingLemmas.{ascending_put}
use Rattle.flat_machine.specs.File.{size, zero_page}
use Rattle.slow_machine.proofs.RoomLemmas.{room_put, replicated}
use Rattle.slow_machine.proofs.SlowMachine.add_file.Goals as goal

pub invariant_of-self-2 : goal.invariant_of-self-2
invariant_of-self-2 g c = (
  rw c.in_ok-put.ensures.ok
      (room_put c.in_ok-file.file c.self.inside.files.items c.args.pages c.self.inside.capacity
      (ap size c.in_ok-file.ensures ∙ replicated zero_page c.args.pages) (rw (← c.self.view_is) at c.requires.room)),
  rw c.in_ok-put.ensures.ok (ascending_put c.in_ok-file.file c.self.inside.files.items c.self.invariant.1),
  c.self.invariant.2,
)
