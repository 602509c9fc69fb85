use Rattle.std.proofs.Common.{rules, inl, inr, ◌∙◌, ap, ◌≡◌, ℕ, ◌+◌, ◌-◌, ◌*◌, ◌/◌, ◌<◌, ◌≤◌, List, length, get_or, insert, arith, refl, sym, subst}
use Rattle.flat_mem.specs.Memory.{overwritten}
use Rattle.page_tree.specs.Page.{page_at, filled, IsInner}
use Rattle.page_tree.specs.Tree.{node_at}
use Rattle.page_tree.specs.Open.{CanTake}
use Rattle.page_tree.specs.Change.{with_child}
use Rattle.page_tree.specs.Climb.{child_item}
use Rattle.page_tree.proofs.Inner.{inner_put}
use Rattle.page_tree.proofs.StepLaws.{up_take, up_inner, up_place, up_put, up_split}
use Rattle.page_tree.proofs.Put.{child_named}
use Rattle.page_tree.specs.Broken.{IsInnerForm, StopsInsertion}
use Rattle.page_tree.proofs.WayLaws.{read_again, form_again}
use Rattle.page_tree.proofs.Listing.{inner_lists, inner_kinds}
use Rattle.page_tree.proofs.Calls.{works_as, looks_works, works_on}
use Rattle.page_tree.proofs.climb.put_up.Goals as goal
use Rattle.page_tree.proofs.climb.put_up.Goals.{then-page-ne2-via-then-page-ne2, then-page-ne2-via-else-page-ne2+then-count-eq0, then-page-ne2-via-else-page-ne2+else-count-eq0+then-count, then-page-ne2-via-else-page-ne2+else-count-eq0+else-count+then-place-count}

pub returns-in-Ok-store-clause-step : goal.returns-in-Ok-store-clause-step
returns-in-Ok-store-clause-step g c = λ e b h records climb.
    let at = get_or c.args.path.now.pages (c.args.level + 1) 0 in
    let place = get_or c.args.path.now.index (c.args.level + 1) 0 + 1 in
    let read : c.load.new.page ≡ page_at b (get_or c.args.path.now.pages (c.args.level + 1) 0) = c.in-Ok.ensures.read b h in
    let inner = up_inner e g.row.K (g.M.FlatMem.size c.args.mem.now / 512) b records c.args.header.now.levels c.args.level c.args.path.now.pages c.args.path.now.index c.args.half.now.key c.args.half.now.page c.args.header.now.root c.args.header.now.free c.args.header.now.top climb c.requires.below.some c.requires.below.lower c.requires.below.few c.load.new.page read in
    let within = up_place e g.row.K (g.M.FlatMem.size c.args.mem.now / 512) b records c.args.header.now.levels c.args.level c.args.path.now.pages c.args.path.now.index c.args.half.now.key c.args.half.now.page c.args.header.now.root c.args.header.now.free c.args.header.now.top climb c.requires.below.some c.requires.below.lower c.requires.below.few c.load.new.page read in
    let xs = (node_at (climb.nodes (c.args.level + 1)) (climb.place (c.args.level + 1))).items in
    let count : c.filled_of-count.result ≡ filled c.load.new.page = c.filled_of-count.ensures in
    let fits : get_or c.args.path.now.index (c.args.level + 1) 0 + 1 ≤ c.filled_of-count.result + 1 = omega (arith, within, count) in
    let back : get_or c.args.path.now.index (c.args.level + 1) 0 + 1 - 1 ≡ get_or c.args.path.now.index (c.args.level + 1) 0 + 1 - 1 = refl in
    let named = child_named xs (get_or c.args.path.now.index (c.args.level + 1) 0 + 1) (child_item c.args.half.now.key c.args.half.now.page) (omega arith) (omega (arith, within, inner.count)) in
    let put = inner_put g.row.K c.load.new.page xs c.filled_of-count.result (get_or c.args.path.now.index (c.args.level + 1) 0 + 1 - 1) (get_or c.args.path.now.index (c.args.level + 1) 0 + 1) c.args.half.now.key (child_item c.args.half.now.key c.args.half.now.page)
    c.requires.sized.some_key c.requires.sized.key_most inner c.load.array_long count c.if-count-2.true fits refl (search rules) named (search rules) in
    let put_is : c.put_child.new.page ≡ with_child g.row.K c.load.new.page c.filled_of-count.result (get_or c.args.path.now.index (c.args.level + 1) 0 + 1 - 1) c.args.half.now.key (get_or c.args.path.now.index (c.args.level + 1) 0 + 1) c.args.half.now.page = c.put_child.ensures in
    let size : 512 * (g.M.FlatMem.size c.args.mem.now / 512) ≤ length b = omega (arith, g.met.M.FlatMem.revealed_length c.args.mem.now b h) in
    let closed = up_put e g.row.K (g.M.FlatMem.size c.args.mem.now / 512) b records c.args.header.now.levels c.args.level c.args.path.now.pages c.args.path.now.index c.args.half.now.key c.args.half.now.page c.args.header.now.root c.args.header.now.free c.args.header.now.top climb c.requires.below.some c.requires.below.lower c.requires.below.few c.load.new.page read
    size (get_or c.args.path.now.index (c.args.level + 1) 0 + 1) refl c.put_child.new.page c.put_child.array_long
    (subst (λ (x : List ℕ). IsInner g.row.K x (insert xs (get_or c.args.path.now.index (c.args.level + 1) 0 + 1) (child_item c.args.half.now.key c.args.half.now.page))) (sym put_is) put) in
    (overwritten b (512 * get_or c.args.path.now.pages (c.args.level + 1) 0) c.put_child.new.page, c.in-Ok-store.ensures.written b (c.load.ensures.looks.unchanged b h), closed)

pub returns-clause-step : goal.returns-clause-step
returns-clause-step g c = λ e b h records climb.
    let read : c.load.new.page ≡ page_at b (get_or c.args.path.now.pages (c.args.level + 1) 0) = c.in-Ok.ensures.read b h in
    let inner = up_inner e g.row.K (g.M.FlatMem.size c.args.mem.now / 512) b records c.args.header.now.levels c.args.level c.args.path.now.pages c.args.path.now.index c.args.half.now.key c.args.half.now.page c.args.header.now.root c.args.header.now.free c.args.header.now.top climb c.requires.below.some c.requires.below.lower c.requires.below.few c.load.new.page read in
    let xs = (node_at (climb.nodes (c.args.level + 1)) (climb.place (c.args.level + 1))).items in
    let count : c.filled_of-count.result ≡ filled c.load.new.page = c.filled_of-count.ensures in
    let can = up_take e g.row.K (g.M.FlatMem.size c.args.mem.now / 512) b records c.args.header.now.levels c.args.level c.args.path.now.pages c.args.path.now.index c.args.half.now.key c.args.half.now.page c.args.header.now.root c.args.header.now.free c.args.header.now.top climb c.requires.below.some c.requires.below.lower c.requires.below.few in
    let same = g.met.M.FlatMem.same_size _ _ c.load.ensures.looks.kept in
    let stored = c.in-Ok-store_halves.ensures.halves b (c.load.ensures.looks.unchanged b h) climb.free (subst (λ (s : ℕ). CanTake b climb.free c.args.header.now.free c.args.header.now.top (s / 512)) same can) in
    let halves = c.split_inner.ensures.halves e (c.args.level + 1) xs (omega (arith, c.requires.below.some)) inner count in
    let size : 512 * (g.M.FlatMem.size c.args.mem.now / 512) ≤ length b = omega (arith, g.met.M.FlatMem.revealed_length c.args.mem.now b h) in
    let small : c.in-Ok-store_halves.new < g.M.FlatMem.size c.args.mem.now / 512 = rw same stored.0 in
    let climbed = up_split e g.row.K (g.M.FlatMem.size c.args.mem.now / 512) b records c.args.header.now.levels c.args.level c.args.path.now.pages c.args.path.now.index c.args.half.now.key c.args.half.now.page c.args.header.now.root c.args.header.now.free c.args.header.now.top climb c.requires.below.some c.requires.below.lower c.requires.below.few c.load.new.page read
    size (get_or c.args.path.now.index (c.args.level + 1) 0 + 1) refl c.split_inner.new.page c.split_inner.new.right c.split_inner.new.key c.split_inner.array_long c.split_inner.array_long2 c.in-Ok-store_halves.new c.store_halves.new.header.top c.store_halves.new.header.free stored.1 small halves in
    (overwritten (overwritten b (512 * get_or c.args.path.now.pages (c.args.level + 1) 0) c.split_inner.new.page) (512 * c.in-Ok-store_halves.new) c.split_inner.new.right, stored.2, climbed)

pub returns-in-Err-store_halves-clause-step : goal.returns-in-Err-store_halves-clause-step
returns-in-Err-store_halves-clause-step g c = λ e b h records climb.
    let can = up_take e g.row.K (g.M.FlatMem.size c.args.mem.now / 512) b records c.args.header.now.levels c.args.level c.args.path.now.pages c.args.path.now.index c.args.half.now.key c.args.half.now.page c.args.header.now.root c.args.header.now.free c.args.header.now.top climb c.requires.below.some c.requires.below.lower c.requires.below.few in
    let same = g.met.M.FlatMem.same_size _ _ c.load.ensures.looks.kept in
    c.in-Err-store_halves.ensures.halves b (c.load.ensures.looks.unchanged b h) climb.free (subst (λ (s : ℕ). CanTake b climb.free c.args.header.now.free c.args.header.now.top (s / 512)) same can)

pub returns-then-page-ne2-clause-on : goal.returns-then-page-ne2-clause-on
returns-then-page-ne2-clause-on g c = λ e root b d h way path.
    let read : c.load.new.page ≡ page_at d (get_or c.args.path.now.pages (c.args.level + 1) 0) = c.in-Ok.ensures.read d h in
    elim (read_again e g.row.K (g.M.FlatMem.size c.args.mem.now / 512) b d c.args.header.now.levels c.args.level root c.args.header.now.free c.args.header.now.top c.args.path.now.pages c.args.path.now.index way path c.requires.below.some c.requires.below.lower) [
      | inr broken ↦ StopsInsertion.broken broken
      | inl same ↦
          let again = form_again g.row.K b d c.load.new.page c.args.header.now.levels c.args.level root c.args.path.now.pages c.args.path.now.index path c.requires.below.some c.requires.below.lower read same in
          elim c.then-page-ne2.branch [
            | then-page-ne2-via-then-page-ne2 w ↦ absurd (w.if-page-ne2.true again.0.kind)
            | then-page-ne2-via-else-page-ne2+then-count-eq0 w ↦ absurd (omega (arith, again.0.some, w.if-count-eq0.true, c.filled_of-count.ensures))
            | then-page-ne2-via-else-page-ne2+else-count-eq0+then-count w ↦ absurd (omega (arith, again.0.most, w.if-count.true, c.filled_of-count.ensures))
            | then-page-ne2-via-else-page-ne2+else-count-eq0+else-count+then-place-count w ↦ absurd (omega (arith, again.1, w.if-place-count.true, c.filled_of-count.ensures))
          ]
    ]

pub returns-in-Err-store_halves-clause-on : goal.returns-in-Err-store_halves-clause-on
returns-in-Err-store_halves-clause-on g c = λ e root b d h way path.
    let same = g.met.M.FlatMem.same_size _ _ c.load.ensures.looks.kept in
    let form : IsInnerForm g.row.K c.load.new.page = record { kind = c.if-page-ne2.false; some = omega (arith, c.filled_of-count.ensures); most = omega (arith, c.filled_of-count.ensures) } in
    let lists = inner_lists g.row.K c.load.new.page form in
    let kinds = inner_kinds e g.row.K (c.args.level + 1) _ _ _ _ (omega (arith, c.requires.below.some)) (c.split_inner.ensures.halves e (c.args.level + 1) lists.0 (omega (arith, c.requires.below.some)) lists.1 c.filled_of-count.ensures) in
    rw same (c.in-Err-store_halves.ensures.on e g.row.K c.args.level c.args.level b d (c.load.ensures.looks.unchanged d h) (omega (arith, c.requires.below.lower, c.requires.below.few)) way (path.met (c.args.level + 1) (omega (arith, c.requires.below.some)) (omega (arith, c.requires.below.lower))) kinds.0 kinds.1)

pub returns-clause-on : goal.returns-clause-on
returns-clause-on g c = λ e root b d h way path.
    let form : IsInnerForm g.row.K c.load.new.page = record { kind = c.if-page-ne2.false; some = omega (arith, c.filled_of-count.ensures); most = omega (arith, c.filled_of-count.ensures) } in
    let lists = inner_lists g.row.K c.load.new.page form in
    let kinds = inner_kinds e g.row.K (c.args.level + 1) _ _ _ _ (omega (arith, c.requires.below.some)) (c.split_inner.ensures.halves e (c.args.level + 1) lists.0 (omega (arith, c.requires.below.some)) lists.1 c.filled_of-count.ensures) in
    c.in-Ok-store_halves.ensures.on e g.row.K c.args.level c.args.level b d (c.load.ensures.looks.unchanged d h) (omega (arith, c.requires.below.lower, c.requires.below.few)) way (path.met (c.args.level + 1) (omega (arith, c.requires.below.some)) (omega (arith, c.requires.below.lower))) kinds.0 kinds.1

pub returns-clause-full : goal.returns-clause-full
returns-clause-full g c = λ e root b d h way path no.
    let read : c.load.new.page ≡ page_at d (get_or c.args.path.now.pages (c.args.level + 1) 0) = c.in-Ok.ensures.read d h in
    elim (read_again e g.row.K (g.M.FlatMem.size c.args.mem.now / 512) b d c.args.header.now.levels c.args.level root c.args.header.now.free c.args.header.now.top c.args.path.now.pages c.args.path.now.index way path c.requires.below.some c.requires.below.lower) [
      | inr broken ↦ inr broken
      | inl same ↦ inl (omega (arith, ap filled (read ∙ same), c.filled_of-count.ensures))
    ]

pub returns-in-Err-clause-works : goal.returns-in-Err-clause-works
returns-in-Err-clause-works g c = works_as g.M.FlatMem (looks_works g.M.FlatMem c.load.ensures.looks) c.in-Err.ensures.looks.cause (omega (arith, c.load.ensures.looks.cost))

pub returns-then-page-ne2-clause-works : goal.returns-then-page-ne2-clause-works
returns-then-page-ne2-clause-works g c = works_as g.M.FlatMem (looks_works g.M.FlatMem c.load.ensures.looks) tt (omega (arith, c.load.ensures.looks.cost))

pub returns-in-Ok-store-clause-works : goal.returns-in-Ok-store-clause-works
returns-in-Ok-store-clause-works g c = works_on g.M.FlatMem g.met.M.FlatMem.beside_through g.met.M.FlatMem.beside_itself g.met.M.FlatMem.accounted_wider c.load.ensures.looks.kept c.store.ensures.works tt (omega (arith, c.load.ensures.looks.cost, c.store.ensures.works.cost))

pub returns-in-Err-store-clause-works : goal.returns-in-Err-store-clause-works
returns-in-Err-store-clause-works g c = works_on g.M.FlatMem g.met.M.FlatMem.beside_through g.met.M.FlatMem.beside_itself g.met.M.FlatMem.accounted_wider c.load.ensures.looks.kept c.store.ensures.works c.in-Err-store.ensures.works.cause (omega (arith, c.load.ensures.looks.cost, c.store.ensures.works.cost))

pub returns-in-Err-store_halves-clause-works : goal.returns-in-Err-store_halves-clause-works
returns-in-Err-store_halves-clause-works g c = works_on g.M.FlatMem g.met.M.FlatMem.beside_through g.met.M.FlatMem.beside_itself g.met.M.FlatMem.accounted_wider c.load.ensures.looks.kept c.store_halves.ensures.works c.in-Err-store_halves.ensures.works.cause (omega (arith, c.load.ensures.looks.cost, c.store_halves.ensures.works.cost))

pub returns-clause-works : goal.returns-clause-works
returns-clause-works g c = works_on g.M.FlatMem g.met.M.FlatMem.beside_through g.met.M.FlatMem.beside_itself g.met.M.FlatMem.accounted_wider c.load.ensures.looks.kept c.store_halves.ensures.works tt (omega (arith, c.load.ensures.looks.cost, c.store_halves.ensures.works.cost))
