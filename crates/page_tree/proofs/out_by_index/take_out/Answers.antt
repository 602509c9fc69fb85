use Rattle.std.proofs.Common.{◌≡◌, inl, inr, ℕ, ◌+◌, ◌*◌, ◌/◌, ◌<◌, ◌≤◌, length, remove, arith, sym, ◌∙◌, ap, subst}
use Rattle.flat_mem.specs.Memory.{overwritten}
use Rattle.page_tree.specs.Tree.{before}
use Rattle.page_tree.specs.Climb.{IsClosed}
use Rattle.page_tree.proofs.Single.{single_level, single_bare, bare_at}
use Rattle.page_tree.proofs.PlacedLaws.{placed_below}
use Rattle.page_tree.specs.Page.{filled}
use Rattle.page_tree.specs.Broken.{Breaks}
use Rattle.page_tree.proofs.Neighbours.{leaf_room_least}
use Rattle.page_tree.proofs.WayLaws.{from_memory}
use Rattle.page_tree.proofs.RebalancingLaws.{single_underfull}
use Rattle.page_tree.proofs.MetLaws.{met_after}
use Rattle.page_tree.proofs.Calls.{works_as}
use Rattle.page_tree.proofs.out_by_index.take_out.Goals as goal

pub returns-then-header-gt1-clause-out : goal.returns-then-header-gt1-clause-out
returns-then-header-gt1-clause-out g c = λ b h records here i placed.
    let some : 0 < c.args.header.now.levels = omega (arith, c.requires.way.some) in
    let low = single_level g.row.E g.row.K (g.M.FlatMem.size c.args.mem.now / 512) b records c.args.header.now.levels c.args.header.now.root c.args.header.now.free c.args.header.now.top here c.requires.sized.widths some
    c.args.page.now c.args.path.now.pages c.args.path.now.index c.args.place.page placed.home placed.path placed.bytes (sym c.filled_of-count.ensures ∙ c.if-count-eq1.true) in
    absurd (omega (arith, low, c.if-header-gt1.true))

pub returns-in-Ok-clause-out : goal.returns-in-Ok-clause-out
returns-in-Ok-clause-out g c = λ b h records here i placed.
    let some : 0 < c.args.header.now.levels = omega (arith, c.requires.way.some) in
    let given = c.in-Ok.ensures.given b h in
    let long : 512 * (g.M.FlatMem.size c.args.mem.now / 512) ≤ length b = omega (arith, g.met.M.FlatMem.revealed_length c.args.mem.now b h) in
    let below = placed_below g.row.E g.row.K b records c.args.header.now.levels here.nodes here.rooted.tower some c.args.page.now c.args.path.now.pages c.args.path.now.index c.args.place.page placed.home placed.path placed.bytes c.args.place.index placed.below in
    let i_below : i < length records = omega (arith, below, placed.is) in
    let bare = single_bare g.row.E g.row.K (g.M.FlatMem.size c.args.mem.now / 512) b records c.args.header.now.levels c.args.header.now.root c.args.header.now.free c.args.header.now.top here c.requires.sized.widths some
    c.args.page.now c.args.path.now.pages c.args.path.now.index c.args.place.page placed.home placed.path placed.bytes (sym c.filled_of-count.ensures ∙ c.if-count-eq1.true) i i_below given.0 given.1 given.2 given.3 long in (
      overwritten b (512 * c.args.place.page) given.0,
      given.4,
      inr (bare_at g.row.E g.row.K (g.M.FlatMem.size c.args.mem.now / 512) _ _ _ _ _ _ _ _ _ _ (sym c.give_page.ensures.keeps.levels) (sym c.give_page.ensures.keeps.root) (sym c.in-Ok.ensures.free) (sym c.give_page.ensures.top) bare),
    )

pub returns-in-Ok-take_first-clause-out : goal.returns-in-Ok-take_first-clause-out
returns-in-Ok-take_first-clause-out g c = λ b h records here i placed.
    let done = c.in-Ok-take_first.ensures.out b h records here placed.home placed.path placed.bytes in
    let same : before (here.nodes 1) (placed.home 1) + 0 ≡ i = omega (arith, placed.is, c.if-place-eq0.true) in (
      done.0,
      done.1,
      inl (done.3, subst (λ (j : ℕ). IsClosed g.row.E g.row.K (g.M.FlatMem.size c.args.mem.now / 512) done.0 (remove records j) c.take_first.new.header.levels c.take_first.new.header.root c.take_first.new.header.free c.take_first.new.header.top) same done.2),
    )

pub returns-in-Err-take_first-clause-out : goal.returns-in-Err-take_first-clause-out
returns-in-Err-take_first-clause-out g c = λ b h records here i placed. c.in-Err-take_first.ensures.out b h records here placed.home placed.path placed.bytes

pub returns-in-Err-take_later-clause-out : goal.returns-in-Err-take_later-clause-out
returns-in-Err-take_later-clause-out g c = λ b h records here i placed. c.in-Err-take_later.ensures.out b h records here placed.home placed.path placed.bytes

pub returns-clause-out : goal.returns-clause-out
returns-clause-out g c = λ b h records here i placed.
    let done = c.in-Ok-take_later.ensures.out b h records here placed.home placed.path placed.bytes in (
      done.0,
      done.1,
      inl (done.3, subst (λ (j : ℕ). IsClosed g.row.E g.row.K (g.M.FlatMem.size c.args.mem.now / 512) done.0 (remove records j) c.take_later.new.header.levels c.take_later.new.header.root c.take_later.new.header.free c.take_later.new.header.top) (sym placed.is) done.2),
    )

pub returns-then-header-gt1-clause-broken : goal.returns-then-header-gt1-clause-broken
returns-then-header-gt1-clause-broken g c = λ b h levels_is path met read.
    single_underfull g.row.E g.row.K (g.M.FlatMem.size c.args.mem.now / 512) b c.args.header.now.levels c.args.place.page met levels_is c.if-header-gt1.true (omega (arith, ap filled (sym read), c.if-count-eq1.true, c.filled_of-count.ensures)) (leaf_room_least g.row.E c.requires.sized.widths.entry_least c.requires.sized.widths.entry_most).0

pub returns-in-Err-take_first-clause-broken : goal.returns-in-Err-take_first-clause-broken
returns-in-Err-take_first-clause-broken g c = λ b h levels_is path met read. c.in-Err-take_first.ensures.broken c.args.header.now.root b h levels_is path met

pub returns-in-Err-take_later-clause-broken : goal.returns-in-Err-take_later-clause-broken
returns-in-Err-take_later-clause-broken g c = λ b h levels_is path met read. c.in-Err-take_later.ensures.broken c.args.header.now.root b h levels_is path met

pub returns-in-Err-clause-broken : goal.returns-in-Err-clause-broken
returns-in-Err-clause-broken g c = λ b h levels_is path met read. from_memory (Breaks g.row.E g.row.K (g.M.FlatMem.size c.args.mem.now / 512) b) c.in-Err.error (c.in-Err.ensures.given b h)

pub returns-then-header-gt1-clause-named : goal.returns-then-header-gt1-clause-named
returns-then-header-gt1-clause-named g c = λ b h levels_is path met. met_after g.row.K b 1 _ met

pub returns-in-Err-clause-named : goal.returns-in-Err-clause-named
returns-in-Err-clause-named g c = λ b h levels_is path met. from_memory (λ page. 1 ≤ page) c.in-Err.error c.in-Err.ensures.memory

pub returns-in-Err-take_later-clause-named : goal.returns-in-Err-take_later-clause-named
returns-in-Err-take_later-clause-named g c = λ b h levels_is path met. c.in-Err-take_later.ensures.named (λ l above most. met_after g.row.K b l _ (path.met l above most))

pub returns-in-Ok-clause-works : goal.returns-in-Ok-clause-works
returns-in-Ok-clause-works g c = works_as g.M.FlatMem c.give_page.ensures.works tt (omega (arith, c.give_page.ensures.works.cost))

pub returns-in-Err-clause-works : goal.returns-in-Err-clause-works
returns-in-Err-clause-works g c = works_as g.M.FlatMem c.give_page.ensures.works c.in-Err.ensures.works.cause (omega (arith, c.give_page.ensures.works.cost))

pub returns-in-Ok-take_first-clause-works : goal.returns-in-Ok-take_first-clause-works
returns-in-Ok-take_first-clause-works g c = works_as g.M.FlatMem c.take_first.ensures.works tt (omega (arith, c.take_first.ensures.works.cost))

pub returns-in-Err-take_first-clause-works : goal.returns-in-Err-take_first-clause-works
returns-in-Err-take_first-clause-works g c = works_as g.M.FlatMem c.take_first.ensures.works c.in-Err-take_first.ensures.works.cause (omega (arith, c.take_first.ensures.works.cost))

pub returns-clause-works : goal.returns-clause-works
returns-clause-works g c = works_as g.M.FlatMem c.take_later.ensures.works tt (omega (arith, c.take_later.ensures.works.cost))

pub returns-in-Err-take_later-clause-works : goal.returns-in-Err-take_later-clause-works
returns-in-Err-take_later-clause-works g c = works_as g.M.FlatMem c.take_later.ensures.works c.in-Err-take_later.ensures.works.cause (omega (arith, c.take_later.ensures.works.cost))
