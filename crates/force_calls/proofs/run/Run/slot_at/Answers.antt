use Rattle.std.proofs.Common.{◌≡◌, ◌-◌, Bool, sym, ◌∙◌, ap}
use Rattle.force_calls.specs.Run.{look_at}
use Rattle.force_calls.proofs.RunLemmas.{found_look}
use Rattle.force_calls.proofs.run.Run.slot_at.Goals as goal

pub returns-then-by_page-clause-all : goal.returns-then-by_page-clause-all
returns-then-by_page-clause-all g c = λ i f has within look.
    let by_page : f.home.page - c.args.self.now.first ≡ c.args.look = ap (λ (b : Bool). look_at b c.args.self.now.first i f.home) (sym c.if-by_page.true) ∙ look in
    found_look c.args.self.now.id c.args.self.now.first c.args.self.now.pages c.args.look c.args.frames.now c.find.result c.find.ensures.distinct c.find.ensures.found c.find.ensures.nowhere i f has within by_page
