use Rattle.std.proofs.Common.{◌≡◌, ℕ, ◌+◌, ◌*◌, ◌/◌, ◌<◌, ◌≤◌, List, length, insert, arith, refl, sym, subst}
use Rattle.flat_mem.specs.Memory.{overwritten}
use Rattle.page_tree.specs.Page.{filled, record_item, IsLeaf}
use Rattle.page_tree.specs.Tree.{node_at, before}
use Rattle.page_tree.specs.Change.{with_record}
use Rattle.page_tree.proofs.SplitLaws.{leaf_with}
use Rattle.page_tree.proofs.Low.{old_leaf, low_after, low_take, low_put, low_split}
use Rattle.page_tree.proofs.Listing.{leaf_lists, leaf_kinds}
use Rattle.page_tree.proofs.adding.put_low.Goals as goal

pub returns-in-Ok-clause-low : goal.returns-in-Ok-clause-low
returns-in-Ok-clause-low g c = λ b h records ready paths index reached.
    let size : 512 * (g.M.FlatMem.size c.args.mem.now / 512) ≤ length b = omega (arith, g.met.M.FlatMem.revealed_length c.args.mem.now b h) in
    let nine : 9 ≤ g.M.FlatMem.size c.args.mem.now / 512 = omega (arith, c.requires.sized.some_pages) in
    let most : c.count_at_most-place.result ≤ filled c.args.page.now = omega (arith, c.count_at_most-place.ensures.below, c.filled_of-count.ensures) in
    let next = λ (more : c.count_at_most-place.result < filled c.args.page.now). c.count_at_most-place.ensures.above (omega (arith, more, c.filled_of-count.ensures)) in
    let leaf = old_leaf g.row.E g.row.K (g.M.FlatMem.size c.args.mem.now / 512) b records c.args.header.now.levels c.args.header.now.root c.args.header.now.free c.args.header.now.top ready c.requires.sized.widths c.requires.levels c.requires.few nine size
    c.args.entry.now c.args.half.now.key c.args.page.now paths index c.requires.same c.args.at reached c.count_at_most-place.result most c.count_at_most-place.ensures.holds next in
    let xs = (node_at (ready.nodes 1) (reached.place 1)).items in
    let put_is : c.put_record.new.page ≡ with_record g.row.E c.args.page.now c.filled_of-count.result c.count_at_most-place.result c.args.entry.now = c.put_record.ensures in
    let put = leaf_with g.row.E g.row.K c.args.page.now xs c.filled_of-count.result c.count_at_most-place.result c.args.entry.now c.requires.sized.widths.entry_least c.requires.sized.widths.entry_most leaf c.told-page c.filled_of-count.ensures c.count_at_most-place.ensures.below c.if-count.true c.told-entry in
    let closed = low_put g.row.E g.row.K (g.M.FlatMem.size c.args.mem.now / 512) b records c.args.header.now.levels c.args.header.now.root c.args.header.now.free c.args.header.now.top ready c.requires.sized.widths c.requires.levels c.requires.few nine size
    c.args.entry.now c.args.half.now.key c.args.page.now paths index c.requires.same c.args.at reached c.count_at_most-place.result most c.count_at_most-place.ensures.holds next
    c.put_record.new.page c.put_record.array_long (subst (λ (x : List ℕ). IsLeaf g.row.E g.row.K x (insert xs c.count_at_most-place.result (record_item g.row.K c.args.entry.now))) (sym put_is) put) in
    let after = low_after g.row.E g.row.K (g.M.FlatMem.size c.args.mem.now / 512) b records c.args.header.now.levels c.args.header.now.root c.args.header.now.free c.args.header.now.top ready c.requires.sized.widths c.requires.levels c.requires.few nine size
    c.args.entry.now c.args.half.now.key c.args.page.now paths index c.requires.same c.args.at reached c.count_at_most-place.result most c.count_at_most-place.ensures.holds next
    (before (ready.nodes 1) (reached.place 1) + c.count_at_most-place.result) refl in
    (before (ready.nodes 1) (reached.place 1) + c.count_at_most-place.result, after, (overwritten b (512 * c.args.at) c.put_record.new.page, c.in-Ok.ensures.written b h, closed))

pub returns-in-Err-store_halves-clause-low : goal.returns-in-Err-store_halves-clause-low
returns-in-Err-store_halves-clause-low g c = λ b h records ready paths index reached.
    let size : 512 * (g.M.FlatMem.size c.args.mem.now / 512) ≤ length b = omega (arith, g.met.M.FlatMem.revealed_length c.args.mem.now b h) in
    let nine : 9 ≤ g.M.FlatMem.size c.args.mem.now / 512 = omega (arith, c.requires.sized.some_pages) in
    let most : c.count_at_most-place.result ≤ filled c.args.page.now = omega (arith, c.count_at_most-place.ensures.below, c.filled_of-count.ensures) in
    let next = λ (more : c.count_at_most-place.result < filled c.args.page.now). c.count_at_most-place.ensures.above (omega (arith, more, c.filled_of-count.ensures)) in
    c.in-Err-store_halves.ensures.halves b h ready.free
    (low_take g.row.E g.row.K (g.M.FlatMem.size c.args.mem.now / 512) b records c.args.header.now.levels c.args.header.now.root c.args.header.now.free c.args.header.now.top ready c.requires.sized.widths c.requires.levels c.requires.few nine size
    c.args.entry.now c.args.half.now.key c.args.page.now paths index c.requires.same c.args.at reached c.count_at_most-place.result most c.count_at_most-place.ensures.holds next)

pub returns-clause-low : goal.returns-clause-low
returns-clause-low g c = λ b h records ready paths index reached.
    let size : 512 * (g.M.FlatMem.size c.args.mem.now / 512) ≤ length b = omega (arith, g.met.M.FlatMem.revealed_length c.args.mem.now b h) in
    let nine : 9 ≤ g.M.FlatMem.size c.args.mem.now / 512 = omega (arith, c.requires.sized.some_pages) in
    let most : c.count_at_most-place.result ≤ filled c.args.page.now = omega (arith, c.count_at_most-place.ensures.below, c.filled_of-count.ensures) in
    let next = λ (more : c.count_at_most-place.result < filled c.args.page.now). c.count_at_most-place.ensures.above (omega (arith, more, c.filled_of-count.ensures)) in
    let leaf = old_leaf g.row.E g.row.K (g.M.FlatMem.size c.args.mem.now / 512) b records c.args.header.now.levels c.args.header.now.root c.args.header.now.free c.args.header.now.top ready c.requires.sized.widths c.requires.levels c.requires.few nine size
    c.args.entry.now c.args.half.now.key c.args.page.now paths index c.requires.same c.args.at reached c.count_at_most-place.result most c.count_at_most-place.ensures.holds next in
    let stored = c.in-Ok-store_halves.ensures.halves b h ready.free
    (low_take g.row.E g.row.K (g.M.FlatMem.size c.args.mem.now / 512) b records c.args.header.now.levels c.args.header.now.root c.args.header.now.free c.args.header.now.top ready c.requires.sized.widths c.requires.levels c.requires.few nine size
    c.args.entry.now c.args.half.now.key c.args.page.now paths index c.requires.same c.args.at reached c.count_at_most-place.result most c.count_at_most-place.ensures.holds next) in
    let halves = c.split_leaf.ensures.halves (node_at (ready.nodes 1) (reached.place 1)).items leaf c.filled_of-count.ensures in
    let climbed = low_split g.row.E g.row.K (g.M.FlatMem.size c.args.mem.now / 512) b records c.args.header.now.levels c.args.header.now.root c.args.header.now.free c.args.header.now.top ready c.requires.sized.widths c.requires.levels c.requires.few nine size
    c.args.entry.now c.args.half.now.key c.args.page.now paths index c.requires.same c.args.at reached c.count_at_most-place.result most c.count_at_most-place.ensures.holds next
    c.split_leaf.new.page c.split_leaf.new.right c.split_leaf.new.key c.split_leaf.array_long c.split_leaf.array_long2 c.in-Ok-store_halves.new c.store_halves.new.header.top c.store_halves.new.header.free stored.1 stored.0 halves in
    let after = low_after g.row.E g.row.K (g.M.FlatMem.size c.args.mem.now / 512) b records c.args.header.now.levels c.args.header.now.root c.args.header.now.free c.args.header.now.top ready c.requires.sized.widths c.requires.levels c.requires.few nine size
    c.args.entry.now c.args.half.now.key c.args.page.now paths index c.requires.same c.args.at reached c.count_at_most-place.result most c.count_at_most-place.ensures.holds next
    (before (ready.nodes 1) (reached.place 1) + c.count_at_most-place.result) refl in
    (before (ready.nodes 1) (reached.place 1) + c.count_at_most-place.result, after, (overwritten (overwritten b (512 * c.args.at) c.split_leaf.new.page) (512 * c.in-Ok-store_halves.new) c.split_leaf.new.right, stored.2, climbed))

pub returns-in-Err-store_halves-clause-on : goal.returns-in-Err-store_halves-clause-on
returns-in-Err-store_halves-clause-on g c = λ b h way met kind.
    let lists = leaf_lists g.row.E g.row.K c.args.page.now (record { kind = kind; some = c.requires.filled.some; most = c.requires.filled.most }) in
    let kinds = leaf_kinds g.row.E g.row.K _ _ _ _ (c.split_leaf.ensures.halves lists.0 lists.1 c.filled_of-count.ensures) in
    c.in-Err-store_halves.ensures.on g.row.E g.row.K 0 0 b b h (omega arith) way met kinds.0 kinds.1

pub returns-clause-on : goal.returns-clause-on
returns-clause-on g c = λ b h way met kind.
    let lists = leaf_lists g.row.E g.row.K c.args.page.now (record { kind = kind; some = c.requires.filled.some; most = c.requires.filled.most }) in
    let kinds = leaf_kinds g.row.E g.row.K _ _ _ _ (c.split_leaf.ensures.halves lists.0 lists.1 c.filled_of-count.ensures) in
    c.in-Ok-store_halves.ensures.on g.row.E g.row.K 0 0 b b h (omega arith) way met kinds.0 kinds.1
