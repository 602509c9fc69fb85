use Rattle.std.proofs.Common.{◌≡◌, ℕ, ◌+◌, ◌-◌, ◌*◌, inr, List, get_or, ◌∙◌, ap, subst, arith}
use Rattle.flat_mem.specs.Memory.{overwritten}
use Rattle.page_tree.specs.Page.{page_at}
use Rattle.page_tree.proofs.Calls.{works_as, looks_works, works_on}
use Rattle.page_tree.proofs.naming.name_leaf.Goals as goal

pub returns-clause-named : goal.returns-clause-named
returns-clause-named g c = λ b h can.
    let read : c.load.new.page ≡ page_at b (get_or c.args.path.now.pages c.in-Some.level 0) = c.in-Ok.ensures.read b h in
    let written : c.set_key.new.page ≡ overwritten c.load.new.page (8 + g.row.K * (get_or c.args.path.now.index c.in-Some.level 0 - 1)) c.args.key.now = c.set_key.ensures.written in
    let bytes = written ∙ ap (λ (x : List ℕ). overwritten x (8 + g.row.K * (get_or c.args.path.now.index c.in-Some.level 0 - 1)) c.args.key.now) read in
    inr (
      c.in-Some.level,
      c.in-Some.ensures,
      subst (λ (x : List ℕ). g.M.FlatMem.reveals c.store.new.mem (overwritten b (512 * get_or c.args.path.now.pages c.in-Some.level 0) x)) bytes (c.in-Ok-store.ensures.written b (c.load.ensures.looks.unchanged b h)),
    )

pub returns-in-None-clause-works : goal.returns-in-None-clause-works
returns-in-None-clause-works g c = record { kept = g.met.M.FlatMem.beside_itself _; cause = tt; cost = omega arith }

pub returns-in-Err-clause-works : goal.returns-in-Err-clause-works
returns-in-Err-clause-works g c = works_as g.M.FlatMem (looks_works g.M.FlatMem c.load.ensures.looks) c.in-Err.ensures.looks.cause (omega (arith, c.load.ensures.looks.cost))

pub returns-then-page-ne2-clause-works : goal.returns-then-page-ne2-clause-works
returns-then-page-ne2-clause-works g c = works_as g.M.FlatMem (looks_works g.M.FlatMem c.load.ensures.looks) tt (omega (arith, c.load.ensures.looks.cost))

pub returns-in-Err-store-clause-works : goal.returns-in-Err-store-clause-works
returns-in-Err-store-clause-works g c = works_on g.M.FlatMem g.met.M.FlatMem.beside_through g.met.M.FlatMem.beside_itself g.met.M.FlatMem.accounted_wider c.load.ensures.looks.kept c.store.ensures.works c.in-Err-store.ensures.works.cause (omega (arith, c.load.ensures.looks.cost, c.store.ensures.works.cost))

pub returns-clause-works : goal.returns-clause-works
returns-clause-works g c = works_on g.M.FlatMem g.met.M.FlatMem.beside_through g.met.M.FlatMem.beside_itself g.met.M.FlatMem.accounted_wider c.load.ensures.looks.kept c.store.ensures.works tt (omega (arith, c.load.ensures.looks.cost, c.store.ensures.works.cost))
