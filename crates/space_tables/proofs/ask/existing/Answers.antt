use Rattle.std.proofs.Common.{rules, ◌≡◌, ℕ, List, Option, Some, None, refl, sym, ◌∙◌, ap, arith}
use Rattle.projection_laws.specs.Tests.{no_space}
use Rattle.space_tables.proofs.Right.{right_reads}
use Rattle.space_tables.proofs.Asks.{no_space_is, space_is, found_at, none_past, from_memory}
use Rattle.space_tables.proofs.ask.existing.Goals as goal

pub returns-then-handle-gt511-clause-answer : goal.returns-then-handle-gt511-clause-answer
returns-then-handle-gt511-clause-answer g c = λ n ss t. (no_space_is ss c.args.handle (none_past (g.M.FlatMem.reveals c.args.mem.now) n ss t c.args.handle (omega (arith, c.if-handle-gt511.true))), tt)

pub returns-in_err-space-clause-answer : goal.returns-in_err-space-clause-answer
returns-in_err-space-clause-answer g c = λ n ss t.
    let m = c.in_err-space.ensures.slot t.slots t.xs t.hold (right_reads t.slots t.xs t.right) in
    let k = from_memory (Unit {0}) (no_space ss c.args.handle) _ m in search (rules, k)

pub returns-in-Some-clause-answer : goal.returns-in-Some-clause-answer
returns-in-Some-clause-answer g c = λ n ss t.
    let at = found_at (g.M.FlatMem.reveals c.args.mem.now) n ss t c.args.handle (Some c.in-Some.space) (c.in_ok-space.ensures.slot t.slots t.xs t.hold (right_reads t.slots t.xs t.right) ∙ ap Some c.in-Some.is) in
    (space_is ss c.args.handle c.in-Some.space at, at)

pub returns-in-None-clause-answer : goal.returns-in-None-clause-answer
returns-in-None-clause-answer g c = λ n ss t.
    let at = found_at (g.M.FlatMem.reveals c.args.mem.now) n ss t c.args.handle None (c.in_ok-space.ensures.slot t.slots t.xs t.hold (right_reads t.slots t.xs t.right) ∙ ap Some c.in-None.is) in
    (no_space_is ss c.args.handle at, tt)
