use Rattle.std.proofs.Common.{◌≡◌, ◌++◌, take, drop}
use Rattle.flat_machine.specs.Next.{with_any, is_writable_within}
use Rattle.slow_machine.proofs.kill.kill_pages.Given as goal

abbrev pub invariant-loop-index : goal.invariant-loop-index
invariant-loop-index l =
    l.pages ≡ with_any (λ page. is_writable_within l.spaces l.range (record { file = l.file; page = page })) (take l.index l.initial.pages) ++ drop l.index l.initial.pages
