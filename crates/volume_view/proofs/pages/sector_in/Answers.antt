use Rattle.std.proofs.Common.{arith}
use Rattle.volume_view.proofs.PlaceLemmas.{other_file, page_before, page_after, place_in}
use Rattle.volume_view.proofs.pages.sector_in.Goals as goal

pub returns-then-run-id : goal.returns-then-run-id
returns-then-run-id c = other_file c.args.run c.args.id c.args.page (λ same. absurd (c.if-run-id.true same))

pub returns-then-page-run : goal.returns-then-page-run
returns-then-page-run c = page_before c.args.run c.args.id c.args.page c.if-page-run.true

pub returns-then-page-run-2 : goal.returns-then-page-run-2
returns-then-page-run-2 c = page_after c.args.run c.args.id c.args.page (omega (arith, c.if-page-run.false, c.if-page-run-2.true))

pub returns : goal.returns
returns c = place_in c.args.run c.args.id c.args.page c.checked_add.result c.if-run-id.false c.if-page-run.false c.if-page-run-2.false c.checked_add.ensures
