use Rattle.std.proofs.Common.{◌≡◌, ℕ, ◌+◌, ◌*◌, ◌/◌, ◌<◌, ◌≤◌, [], ◌∷◌, length, arith, sym, subst}
use Rattle.flat_mem.specs.Memory.{overwritten}
use Rattle.page_tree.specs.Page.{IsInner}
use Rattle.page_tree.specs.Climb.{child_item, IsClosed}
use Rattle.page_tree.proofs.StepLaws.{can_take}
use Rattle.page_tree.proofs.Grown.{grow_closed, seventh}
use Rattle.page_tree.proofs.Calls.{works_as, looks_works, works_on}
use Rattle.page_tree.proofs.climb.grow.Goals as goal

pub returns-then-header-ge6-clause-grown : goal.returns-then-header-ge6-clause-grown
returns-then-header-ge6-clause-grown g c = λ e b h records level paths index widths capacity at_top climb.
    seventh e g.row.K (g.M.FlatMem.size c.args.mem.now / 512) b records c.args.header.now.levels level paths index c.args.key.now c.args.link c.args.header.now.root c.args.header.now.free c.args.header.now.top climb at_top
    (omega (arith, c.if-header-ge6.true, c.requires.few)) widths (omega (arith, c.requires.sized.small)) capacity

pub returns-clause-grown : goal.returns-clause-grown
returns-clause-grown g c = λ e b h records level paths index widths capacity at_top climb.
    let few : level < 6 = omega (arith, at_top, c.if-header-ge6.false) in
    let can = can_take e g.row.K (g.M.FlatMem.size c.args.mem.now / 512) b c.args.header.now.levels climb.nodes climb.free c.args.header.now.free c.args.header.now.top climb.opened climb.top_below level few climb.room in
    let taken = c.in-Ok.ensures.taken b h climb.free can in
    let small : c.in-Ok.new < g.M.FlatMem.size c.args.mem.now / 512 = c.in-Ok.ensures.inside.1 in
    let inner : IsInner g.row.K c.make_root.new.page (child_item [] c.args.header.now.root ∷ child_item c.args.key.now c.args.link ∷ []) =
    subst (λ (m : ℕ). IsInner g.row.K c.make_root.new.page (child_item [] m ∷ child_item c.args.key.now c.args.link ∷ [])) c.take_page.ensures.keeps.root c.make_root.ensures in
    let size : 512 * (g.M.FlatMem.size c.args.mem.now / 512) ≤ length b = omega (arith, g.met.M.FlatMem.revealed_length c.args.mem.now b h) in
    let closed = grow_closed e g.row.K (g.M.FlatMem.size c.args.mem.now / 512) b records c.args.header.now.levels level paths index c.args.key.now c.args.link c.args.header.now.root c.args.header.now.free c.args.header.now.top climb at_top c.requires.some size
    c.in-Ok.new c.take_page.new.header.top c.take_page.new.header.free taken small c.make_root.new.page c.make_root.array_long inner in
    let same : c.take_page.new.header.levels ≡ c.args.header.now.levels = c.take_page.ensures.keeps.levels in (
      overwritten b (512 * c.in-Ok.new) c.make_root.new.page,
      c.in-Ok-store.ensures.written b (c.take_page.ensures.looks.unchanged b h),
      subst (λ (m : ℕ). IsClosed e g.row.K (g.M.FlatMem.size c.args.mem.now / 512) (overwritten b (512 * c.in-Ok.new) c.make_root.new.page) records (m + 1) c.in-Ok.new c.take_page.new.header.free c.take_page.new.header.top) (sym same) closed,
      omega arith,
      omega (arith, same, at_top, few),
    )

pub returns-in-Err-clause-on : goal.returns-in-Err-clause-on
returns-in-Err-clause-on g c = λ e b d h way six. c.in-Err.ensures.on e g.row.K c.args.header.now.levels c.args.header.now.levels b d h (omega (arith, c.if-header-ge6.false)) way

pub returns-in-Err-clause-works : goal.returns-in-Err-clause-works
returns-in-Err-clause-works g c = works_as g.M.FlatMem (looks_works g.M.FlatMem c.take_page.ensures.looks) c.in-Err.ensures.looks.cause (omega (arith, c.take_page.ensures.looks.cost))

pub returns-in-Err-store-clause-works : goal.returns-in-Err-store-clause-works
returns-in-Err-store-clause-works g c = works_on g.M.FlatMem g.met.M.FlatMem.beside_through g.met.M.FlatMem.beside_itself g.met.M.FlatMem.accounted_wider c.take_page.ensures.looks.kept c.store.ensures.works c.in-Err-store.ensures.works.cause (omega (arith, c.take_page.ensures.looks.cost, c.store.ensures.works.cost))

pub returns-clause-works : goal.returns-clause-works
returns-clause-works g c = works_on g.M.FlatMem g.met.M.FlatMem.beside_through g.met.M.FlatMem.beside_itself g.met.M.FlatMem.accounted_wider c.take_page.ensures.looks.kept c.store.ensures.works tt (omega (arith, c.take_page.ensures.looks.cost, c.store.ensures.works.cost))
