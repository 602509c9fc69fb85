use Rattle.std.proofs.Common.{◌≡◌, ℕ, ◌+◌, ◌*◌, ◌/◌, ◌<◌, ◌≤◌, List, length, take, slice_set, arith, sym, ◌∙◌, ap, subst}
use Rattle.flat_mem.specs.Memory.{overwritten}
use Rattle.flat_mem.specs.Order.{key_at}
use Rattle.page_tree.specs.Page.{page_at, record_at, leaf_room}
use Rattle.page_tree.specs.Tree.{IsTree}
use Rattle.page_tree.specs.Climb.{IsHead}
use Rattle.page_tree.proofs.Replaced.{sector_state, set_tree}
use Rattle.page_tree.proofs.PlacedLaws.{placed_entry}
use Rattle.page_tree.proofs.IndexedLaws.{written_in_page, record_fits}
use Rattle.page_tree.proofs.Calls.{works_as, looks_works, works_on}
use Rattle.page_tree.proofs.CountLaws.{spends_less}
use Rattle.page_tree.proofs.edit_by_index.set_in.Goals as goal

pub returns-in-Err-clause-set : goal.returns-in-Err-clause-set
returns-in-Err-clause-set g c = λ b h records tree is below same.
    let here = sector_state g.row.E g.row.K (g.M.FlatMem.size c.args.mem.now / 512) b records c.args.header.count c.args.header.root c.args.header.top c.args.header.free c.args.header.levels tree is (omega (arith, c.requires.rooted.some)) in
    c.in-Err.ensures.placed b h records here below

pub returns-in-Ok-store-clause-set : goal.returns-in-Ok-store-clause-set
returns-in-Ok-store-clause-set g c = λ b h records tree is below same.
    let some : 0 < c.args.header.levels = omega (arith, c.requires.rooted.some) in
    let here = sector_state g.row.E g.row.K (g.M.FlatMem.size c.args.mem.now / 512) b records c.args.header.count c.args.header.root c.args.header.top c.args.header.free c.args.header.levels tree is some in
    let placed = c.in-Ok.ensures.placed b h records here below in
    let size : 512 * (g.M.FlatMem.size c.args.mem.now / 512) ≤ length b = omega (arith, g.met.M.FlatMem.revealed_length c.args.mem.now b h) in
    let head : IsHead (page_at b 0) (length records) c.args.header.root c.args.header.top c.args.header.free c.args.header.levels =
    subst (λ (n : ℕ). IsHead (page_at b 0) n c.args.header.root c.args.header.top c.args.header.free c.args.header.levels) (sym is.count_is ∙ tree.header.count_is) is in
    let entry_is = placed_entry g.row.E g.row.K b records c.args.header.levels here.nodes here.rooted.tower some c.find_place.new.page c.find_place.new.path.pages c.find_place.new.path.index c.in-Ok.place.page placed.home placed.path placed.bytes c.in-Ok.place.index placed.below in
    let key_is : take g.row.K c.args.entry.now ≡ take g.row.K (record_at g.row.E c.find_place.new.page c.in-Ok.place.index) = same ∙ ap (key_at g.row.K records) placed.is ∙ sym (ap (take g.row.K) entry_is) in
    let done = set_tree g.row.E g.row.K (g.M.FlatMem.size c.args.mem.now / 512) b records c.args.header.levels c.args.header.root c.args.header.free c.args.header.top here c.requires.sized.widths some
    c.find_place.new.page c.find_place.new.path.pages c.find_place.new.path.index c.in-Ok.place.page placed.home placed.path placed.bytes c.in-Ok.place.index placed.below c.find_place.array_long
    c.args.entry.now c.told-entry key_is c.requires.rooted.begins.levels_most size head tree.header.rest tree.capacity in
    let at_index = subst (λ (i : ℕ). IsTree g.row.E g.row.K (g.M.FlatMem.size c.args.mem.now / 512) (overwritten b (512 * c.in-Ok.place.page) (overwritten c.find_place.new.page (8 + g.row.E * c.in-Ok.place.index) c.args.entry.now)) (slice_set records i c.args.entry.now)) (sym placed.is) done in (
      overwritten b (512 * c.in-Ok.place.page) c.set_record.new.page,
      c.in-Ok-store.ensures.written b (c.find_place.ensures.looks.unchanged b h),
      subst (λ (x : List ℕ). IsTree g.row.E g.row.K (g.M.FlatMem.size c.args.mem.now / 512) (overwritten b (512 * c.in-Ok.place.page) x) (slice_set records c.args.index c.args.entry.now)) (sym c.set_record.ensures) at_index,
    )

pub returns-in-Ok-store-clause-written : goal.returns-in-Ok-store-clause-written
returns-in-Ok-store-clause-written g c = λ b h is.
    let revealed = c.find_place.ensures.looks.unchanged b h in
    let inside = c.in-Ok.ensures.inside in
    let most : c.in-Ok.place.index < leaf_room g.row.E = omega (arith, inside.1, c.in-Ok.ensures.form.most) in
    let page_is : c.set_record.new.page ≡ overwritten (page_at b c.in-Ok.place.page) (8 + g.row.E * c.in-Ok.place.index) c.args.entry.now =
    c.set_record.ensures ∙ ap (λ (p : List ℕ). overwritten p (8 + g.row.E * c.in-Ok.place.index) c.args.entry.now) (c.in-Ok.ensures.read b h) in
    let bytes_are : overwritten b (512 * c.in-Ok.place.page) c.set_record.new.page ≡ overwritten b (512 * c.in-Ok.place.page + (8 + g.row.E * c.in-Ok.place.index)) c.args.entry.now =
    ap (overwritten b (512 * c.in-Ok.place.page)) page_is
    ∙ written_in_page b c.args.entry.now c.in-Ok.place.page (8 + g.row.E * c.in-Ok.place.index) (omega (arith, inside.0, g.met.M.FlatMem.revealed_length c.args.mem.now b h)) (record_fits g.row.E c.in-Ok.place.index c.args.entry.now most c.told-entry) in record {
      page = c.in-Ok.place.page;
      slot = c.in-Ok.place.index;
      place = c.in-Ok.ensures.indexed b h is;
      now = subst (g.M.FlatMem.reveals c.store.new.mem) bytes_are (c.in-Ok-store.ensures.written b revealed);
    }

pub returns-in-Err-clause-works : goal.returns-in-Err-clause-works
returns-in-Err-clause-works g c = works_as g.M.FlatMem (looks_works g.M.FlatMem c.find_place.ensures.looks) c.in-Err.ensures.looks.cause (spends_less _ _ (6 + 11 * (g.M.FlatMem.size c.args.mem.now / 512)) (7 + 11 * (g.M.FlatMem.size c.args.mem.now / 512)) g.M.FlatMem.cost c.find_place.ensures.looks.cost (omega arith))

pub returns-in-Ok-store-clause-works : goal.returns-in-Ok-store-clause-works
returns-in-Ok-store-clause-works g c = works_on g.M.FlatMem g.met.M.FlatMem.beside_through g.met.M.FlatMem.beside_itself g.met.M.FlatMem.accounted_wider c.find_place.ensures.looks.kept c.store.ensures.works tt (spends_less _ _ (6 + 11 * (g.M.FlatMem.size c.args.mem.now / 512) + 1) (7 + 11 * (g.M.FlatMem.size c.args.mem.now / 512)) g.M.FlatMem.cost (omega (arith, c.find_place.ensures.looks.cost, c.store.ensures.works.cost)) (omega arith))

pub returns-in-Err-store-clause-works : goal.returns-in-Err-store-clause-works
returns-in-Err-store-clause-works g c = works_on g.M.FlatMem g.met.M.FlatMem.beside_through g.met.M.FlatMem.beside_itself g.met.M.FlatMem.accounted_wider c.find_place.ensures.looks.kept c.store.ensures.works c.in-Err-store.ensures.works.cause (spends_less _ _ (6 + 11 * (g.M.FlatMem.size c.args.mem.now / 512) + 1) (7 + 11 * (g.M.FlatMem.size c.args.mem.now / 512)) g.M.FlatMem.cost (omega (arith, c.find_place.ensures.looks.cost, c.store.ensures.works.cost)) (omega arith))
