use Rattle.std.proofs.Common.{ℕ, ◌/◌, remove, arith, sym, subst, ◌*◌, ◌+◌}
use Rattle.page_tree.specs.Placed.{IsLeft}
use Rattle.page_tree.proofs.Replaced.{sector_state}
use Rattle.page_tree.proofs.PlacedLaws.{sector_state_at}
use Rattle.page_tree.proofs.WayLaws.{malformed_wider}
use Rattle.page_tree.proofs.Calls.{works_as, looks_works, works_on}
use Rattle.page_tree.proofs.CountLaws.{spends_less}
use Rattle.page_tree.proofs.out_by_index.remove_in.Goals as goal

pub returns-in-Err-clause-out : goal.returns-in-Err-clause-out
returns-in-Err-clause-out g c = λ b h records tree is below.
    let here = sector_state g.row.E g.row.K (g.M.FlatMem.size c.args.mem.now / 512) b records c.args.header.now.count c.args.header.now.root c.args.header.now.top c.args.header.now.free c.args.header.now.levels tree is (omega (arith, c.requires.rooted.some)) in
    c.in-Err.ensures.placed b h records here below

pub returns-in-Ok-take_out-clause-out : goal.returns-in-Ok-take_out-clause-out
returns-in-Ok-take_out-clause-out g c = λ b h records tree is below.
    let here = sector_state g.row.E g.row.K (g.M.FlatMem.size c.args.mem.now / 512) b records c.args.header.now.count c.args.header.now.root c.args.header.now.top c.args.header.now.free c.args.header.now.levels tree is (omega (arith, c.requires.rooted.some)) in
    let size = g.met.M.FlatMem.same_size _ _ c.find_place.ensures.looks.kept in
    let here_now = sector_state_at g.row.E g.row.K _ _ b records c.args.header.now.levels c.args.header.now.root c.args.header.now.free c.args.header.now.top size here in
    let done = c.in-Ok-take_out.ensures.out b (c.find_place.ensures.looks.unchanged b h) records here_now c.args.index (c.in-Ok.ensures.placed b h records here below) in
    subst (λ (s : ℕ). IsLeft g.row.E g.row.K (s / 512) (g.M.FlatMem.reveals c.take_out.new.mem) (remove records c.args.index) c.take_out.new.header.levels c.take_out.new.header.root c.take_out.new.header.free c.take_out.new.header.top) (sym size) done

pub returns-in-Err-take_out-clause-out : goal.returns-in-Err-take_out-clause-out
returns-in-Err-take_out-clause-out g c = λ b h records tree is below.
    let here = sector_state g.row.E g.row.K (g.M.FlatMem.size c.args.mem.now / 512) b records c.args.header.now.count c.args.header.now.root c.args.header.now.top c.args.header.now.free c.args.header.now.levels tree is (omega (arith, c.requires.rooted.some)) in
    let size = g.met.M.FlatMem.same_size _ _ c.find_place.ensures.looks.kept in
    let here_now = sector_state_at g.row.E g.row.K _ _ b records c.args.header.now.levels c.args.header.now.root c.args.header.now.free c.args.header.now.top size here in
    c.in-Err-take_out.ensures.out b (c.find_place.ensures.looks.unchanged b h) records here_now c.args.index (c.in-Ok.ensures.placed b h records here below)

pub returns-in-Err-take_out-clause-broken : goal.returns-in-Err-take_out-clause-broken
returns-in-Err-take_out-clause-broken g c = λ b h is below.
    let size = g.met.M.FlatMem.same_size _ _ c.find_place.ensures.looks.kept in
    let met = c.in-Ok.ensures.met b h is in
    rw size (c.in-Err-take_out.ensures.broken b (c.find_place.ensures.looks.unchanged b h) (sym is.levels_is) met.1 met.0 (c.in-Ok.ensures.read b h))

pub returns-in-Ok-take_out-clause-stood : goal.returns-in-Ok-take_out-clause-stood
returns-in-Ok-take_out-clause-stood g c = λ b h is. (c.in-Ok.place.page, c.in-Ok.place.index, c.in-Ok.ensures.indexed b h is)

pub returns-in-Err-take_out-clause-missing : goal.returns-in-Err-take_out-clause-missing
returns-in-Err-take_out-clause-missing g c = λ b h is.
    let met = c.in-Ok.ensures.met b h is in
    malformed_wider _ _ c.in-Err-take_out.error (λ page some same. absurd (omega (arith, some, same))) (c.in-Err-take_out.ensures.named b (c.find_place.ensures.looks.unchanged b h) (sym is.levels_is) met.1 met.0)

pub returns-in-Err-clause-works : goal.returns-in-Err-clause-works
returns-in-Err-clause-works g c = works_as g.M.FlatMem (looks_works g.M.FlatMem c.find_place.ensures.looks) c.in-Err.ensures.looks.cause (spends_less _ _ (6 + 11 * (g.M.FlatMem.size c.args.mem.now / 512)) (34 + 11 * (g.M.FlatMem.size c.args.mem.now / 512)) g.M.FlatMem.cost c.find_place.ensures.looks.cost (omega arith))

pub returns-in-Ok-take_out-clause-works : goal.returns-in-Ok-take_out-clause-works
returns-in-Ok-take_out-clause-works g c = works_on g.M.FlatMem g.met.M.FlatMem.beside_through g.met.M.FlatMem.beside_itself g.met.M.FlatMem.accounted_wider c.find_place.ensures.looks.kept c.take_out.ensures.works tt (spends_less _ _ (6 + 11 * (g.M.FlatMem.size c.args.mem.now / 512) + 28) (34 + 11 * (g.M.FlatMem.size c.args.mem.now / 512)) g.M.FlatMem.cost (omega (arith, c.find_place.ensures.looks.cost, c.take_out.ensures.works.cost)) (omega arith))

pub returns-in-Err-take_out-clause-works : goal.returns-in-Err-take_out-clause-works
returns-in-Err-take_out-clause-works g c = works_on g.M.FlatMem g.met.M.FlatMem.beside_through g.met.M.FlatMem.beside_itself g.met.M.FlatMem.accounted_wider c.find_place.ensures.looks.kept c.take_out.ensures.works c.in-Err-take_out.ensures.works.cause (spends_less _ _ (6 + 11 * (g.M.FlatMem.size c.args.mem.now / 512) + 28) (34 + 11 * (g.M.FlatMem.size c.args.mem.now / 512)) g.M.FlatMem.cost (omega (arith, c.find_place.ensures.looks.cost, c.take_out.ensures.works.cost)) (omega arith))
