use Rattle.std.proofs.Common.{ℕ, ◌<◌, ◌≤◌, arith, ◌+◌, ◌-◌, ◌/◌}
use Rattle.alloc_map.specs.Pages.{pages_to}
use Rattle.alloc_map.proofs.Spending.{spent_round}
use Rattle.std.proofs.lemmas.Nat.{mul-le}
use Rattle.alloc_map.proofs.search.find_free.Goals as goal

pub returns-in_err-found-2-clause-cost : goal.returns-in_err-found-2-clause-cost
returns-in_err-found-2-clause-cost g c =
    let at : ℕ = c.max-at.result in
    let stop : ℕ = c.page_stop-stop.result in
    let low : c.max-low.result ≤ at = omega (arith, c.max-low.ensures, c.max-at.ensures) in
    let more : stop < c.args.sectors = omega (arith, c.page_stop-stop.ensures.within, c.if-stop-sectors.false) in
    spent_round c.args.first c.max-low.result at stop c.args.sectors g.M.FlatMem.cost _ _ _ _ low (c.page_stop-stop.ensures.whole more) more c.find_free_in_page.ensures.cost c.find.ensures.cost (omega arith)

pub returns-then-found-sectors-clause-cost : goal.returns-then-found-sectors-clause-cost
returns-then-found-sectors-clause-cost g c =
    let at : ℕ = c.max-at.result in
    let stop : ℕ = c.page_stop-stop.result in
    let low : c.max-low.result ≤ at = omega (arith, c.max-low.ensures, c.max-at.ensures) in
    let more : stop < c.args.sectors = omega (arith, c.page_stop-stop.ensures.within, c.if-stop-sectors.false) in
    spent_round c.args.first c.max-low.result at stop c.args.sectors g.M.FlatMem.cost _ _ _ _ low (c.page_stop-stop.ensures.whole more) more c.find_free_in_page.ensures.cost c.find.ensures.cost (omega arith)

pub returns-clause-cost : goal.returns-clause-cost
returns-clause-cost g c =
    let at : ℕ = c.max-at.result in
    let stop : ℕ = c.page_stop-stop.result in
    let low : c.max-low.result ≤ at = omega (arith, c.max-low.ensures, c.max-at.ensures) in
    let more : stop < c.args.sectors = omega (arith, c.page_stop-stop.ensures.within, c.if-stop-sectors.false) in
    spent_round c.args.first c.max-low.result at stop c.args.sectors g.M.FlatMem.cost _ _ _ _ low (c.page_stop-stop.ensures.whole more) more c.find_free_in_page.ensures.cost c.find.ensures.cost c.find_before-2.ensures.cost

pub returns-in_err-found-clause-cost : goal.returns-in_err-found-clause-cost
returns-in_err-found-clause-cost g c = omega (arith, mul-le 1 g.M.FlatMem.cost (pages_to c.args.sectors) g.M.FlatMem.cost (omega (arith, c.requires.order)) (omega arith), c.find_free_in_page.ensures.cost)

pub returns-then-found-stop-clause-cost : goal.returns-then-found-stop-clause-cost
returns-then-found-stop-clause-cost g c = omega (arith, mul-le 1 g.M.FlatMem.cost (pages_to c.args.sectors) g.M.FlatMem.cost (omega (arith, c.requires.order)) (omega arith), c.find_free_in_page.ensures.cost)

pub returns-then-stop-sectors-clause-cost : goal.returns-then-stop-sectors-clause-cost
returns-then-stop-sectors-clause-cost g c =
    let low : c.max-low.result < c.args.sectors = omega (arith, c.max-low.ensures, c.max-at.ensures, c.min.ensures, c.requires.order) in
    let fit : 1 + (c.max-low.result / 4096 - c.args.first / 4096) ≤ pages_to c.args.sectors = omega (arith, low) in
    omega (arith, mul-le (1 + (c.max-low.result / 4096 - c.args.first / 4096)) g.M.FlatMem.cost (pages_to c.args.sectors) g.M.FlatMem.cost fit (omega arith), c.find_free_in_page.ensures.cost, c.find_before.ensures.cost)

pub returns-then-stop-sectors-clause-kept : goal.returns-then-stop-sectors-clause-kept
returns-then-stop-sectors-clause-kept g c = g.met.M.FlatMem.beside_through _ _ _ c.find_free_in_page.ensures.kept c.find_before.ensures.kept

pub returns-in_err-found-2-clause-kept : goal.returns-in_err-found-2-clause-kept
returns-in_err-found-2-clause-kept g c = g.met.M.FlatMem.beside_through _ _ _ c.find_free_in_page.ensures.kept c.find.ensures.kept

pub returns-then-found-sectors-clause-kept : goal.returns-then-found-sectors-clause-kept
returns-then-found-sectors-clause-kept g c = g.met.M.FlatMem.beside_through _ _ _ c.find_free_in_page.ensures.kept c.find.ensures.kept

pub returns-clause-kept : goal.returns-clause-kept
returns-clause-kept g c = g.met.M.FlatMem.beside_through _ _ _ (g.met.M.FlatMem.beside_through _ _ _ c.find_free_in_page.ensures.kept c.find.ensures.kept) c.find_before-2.ensures.kept

pub returns-then-stop-sectors-clause-unchanged : goal.returns-then-stop-sectors-clause-unchanged
returns-then-stop-sectors-clause-unchanged g c = λ b h. c.find_before.ensures.unchanged b (c.find_free_in_page.ensures.unchanged b h)

pub returns-clause-unchanged : goal.returns-clause-unchanged
returns-clause-unchanged g c = λ b h. c.find_before-2.ensures.unchanged b (c.find.ensures.unchanged b (c.find_free_in_page.ensures.unchanged b h))
