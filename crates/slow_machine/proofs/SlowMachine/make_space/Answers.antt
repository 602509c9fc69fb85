use Rattle.std.proofs.Common.{subst, ◌+◌, ◌≤◌, ◌≡◌, length, true}
use Rattle.flat_machine.specs.Space.{root_pages}
use Rattle.flat_machine.specs.Machine.{Machine}
use Rattle.flat_machine.specs.Next.{is_unused}
use Rattle.slow_machine.specs.Lists.{AreSpaces}
use Rattle.slow_machine.proofs.SpaceLemmas.{put_spaces, lowest_is_unused}
use Rattle.slow_machine.proofs.GapLemmas.{made_few, made_inside}
use Rattle.slow_machine.proofs.SlowMachine.make_space.Goals as goal

pub invariant_of-self-2 : goal.invariant_of-self-2
invariant_of-self-2 g c =
    let items = c.self.inside.spaces.items in
    let Kept : Machine → Type 0 = λ m. AreSpaces m.spaces in
    let kept : AreSpaces c.args.self.now.spaces = subst Kept c.self.view_is c.self.invariant.2 in
    let few : length items ≤ 511 = rw (← c.self.view_is) at (made_few c.args.self.now c.args.parent c.args.pages c.args.first c.requires) in
    let inside : c.first_page_for-place.result + c.args.pages ≤ root_pages =
    rw c.first_page_for-place.ensures (made_inside c.args.self.now c.args.parent c.args.pages c.args.first kept c.requires) in
    let unused : is_unused items c.lowest_unused-handle.result ≡ true =
    rw (c.lowest_unused-handle.ensures, c.deref.ensures.value) (lowest_is_unused items c.self.invariant.2) in
    (c.self.invariant.0, c.self.invariant.1, rw c.in_ok-put.ensures.ok (put_spaces _ items c.self.invariant.2 unused few inside))
