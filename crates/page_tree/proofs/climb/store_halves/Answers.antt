use Rattle.std.proofs.Common.{◌+◌, ◌*◌, arith, refl}
use Rattle.flat_mem.specs.Memory.{overwritten}
use Rattle.page_tree.proofs.WayLaws.{halves_written}
use Rattle.page_tree.proofs.Calls.{works_as, looks_works, works_on}
use Rattle.page_tree.proofs.climb.store_halves.Goals as goal

pub returns-in-Err-clause-on : goal.returns-in-Err-clause-on
returns-in-Err-clause-on g c = λ e k level t b d h few way met left_kind right_kind. c.in-Err.ensures.on e k level t b d h few way

pub returns-in-Ok-store-2-clause-on : goal.returns-in-Ok-store-2-clause-on
returns-in-Ok-store-2-clause-on g c = λ e k level t b d h few way met left_kind right_kind.
    let long = g.met.M.FlatMem.revealed_length c.args.mem.now d h in (
      overwritten (overwritten d (512 * c.args.at) c.args.left.now) (512 * c.in-Ok.page) c.args.right.now,
      c.in-Ok-store-2.ensures.written _ (c.in-Ok-store.ensures.written d (c.take_page.ensures.looks.unchanged d h)),
      halves_written k b d level (level + 1) t c.in-Ok.page c.take_page.new.header.free c.take_page.new.header.top c.args.at c.args.left.now c.args.right.now (c.in-Ok.ensures.on e k level t b d h few way) refl met c.told-left c.told-right left_kind right_kind
          (omega (arith, long, c.requires.inside)) (omega (arith, long, c.in-Ok.ensures.inside)),
    )

pub returns-in-Err-clause-works : goal.returns-in-Err-clause-works
returns-in-Err-clause-works g c = works_as g.M.FlatMem (looks_works g.M.FlatMem c.take_page.ensures.looks) c.in-Err.ensures.looks.cause (omega (arith, c.take_page.ensures.looks.cost))

pub returns-in-Err-store-clause-works : goal.returns-in-Err-store-clause-works
returns-in-Err-store-clause-works g c = works_on g.M.FlatMem g.met.M.FlatMem.beside_through g.met.M.FlatMem.beside_itself g.met.M.FlatMem.accounted_wider c.take_page.ensures.looks.kept c.store.ensures.works c.in-Err-store.ensures.works.cause (omega (arith, c.take_page.ensures.looks.cost, c.store.ensures.works.cost))

pub returns-in-Ok-store-2-clause-works : goal.returns-in-Ok-store-2-clause-works
returns-in-Ok-store-2-clause-works g c = works_on g.M.FlatMem g.met.M.FlatMem.beside_through g.met.M.FlatMem.beside_itself g.met.M.FlatMem.accounted_wider (g.met.M.FlatMem.beside_through _ _ _ c.take_page.ensures.looks.kept c.store.ensures.works.kept) c.store-2.ensures.works tt (omega (arith, c.take_page.ensures.looks.cost, c.store.ensures.works.cost, c.store-2.ensures.works.cost))

pub returns-in-Err-store-2-clause-works : goal.returns-in-Err-store-2-clause-works
returns-in-Err-store-2-clause-works g c = works_on g.M.FlatMem g.met.M.FlatMem.beside_through g.met.M.FlatMem.beside_itself g.met.M.FlatMem.accounted_wider (g.met.M.FlatMem.beside_through _ _ _ c.take_page.ensures.looks.kept c.store.ensures.works.kept) c.store-2.ensures.works c.in-Err-store-2.ensures.works.cause (omega (arith, c.take_page.ensures.looks.cost, c.store.ensures.works.cost, c.store-2.ensures.works.cost))
