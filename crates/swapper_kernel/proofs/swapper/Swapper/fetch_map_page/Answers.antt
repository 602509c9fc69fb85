use Rattle.std.proofs.Common.{◌≡◌, ◌∙◌, sym, subst}
use Rattle.labelled_disk.specs.declared.layout.Layout.{Layout}
use Rattle.frame_pool.specs.declared.home.Home.{Home}
use Rattle.frame_pool.specs.Frames.{HasPage}
use Rattle.swapper_kernel.specs.Homes.{ArePlaced, IsNamed, no_home}
use Rattle.swapper_kernel.specs.Maps.{map_home}
use Rattle.swapper_kernel.specs.CourseLaws.{steps_wider}
use Rattle.swapper_kernel.specs.HaltLaws.{brings_wider}
use Rattle.swapper_kernel.specs.GoesLaws.{swaps_stands}
use Rattle.swapper_kernel.proofs.PlacedLemmas.{map_placed, map_there, shown_at}
use Rattle.swapper_kernel.proofs.swapper.Swapper.fetch_map_page.Goals as goal

pub fetch-requires-clause-placed : goal.fetch-requires-clause-placed
fetch-requires-clause-placed g c = rw c.home-home.ensures (map_placed c.args.which c.args.self.now.layout c.args.page c.requires.page)

pub returns-clause-there : goal.returns-clause-there
returns-clause-there g c =
    let after = c.fetch.new.self in
    map_there c.args.which c.args.self.now.layout c.args.page after.pool c.fetch.result (subst (λ (l : Layout). ArePlaced after.pool l) c.fetch.ensures.layout after.placed) (rw c.home-home.ensures at c.fetch.ensures.there)

pub returns-clause-pages : goal.returns-clause-pages
returns-clause-pages g c = λ m h.
    let home = c.home-home.result in
    shown_at home.id home.page c.fetch.result (g.D.Disk.state c.fetch.new.self.disk) c.fetch.new.self.pool m (swaps_stands c.fetch.ensures.moves.swaps m h) c.fetch.ensures.there

pub returns-clause-sound : goal.returns-clause-sound
returns-clause-sound g c = λ m h named. c.fetch.ensures.sound m h (subst (IsNamed m) (sym c.home-home.ensures) named)

pub returns-clause-idle : goal.returns-clause-idle
returns-clause-idle g c = λ i has. c.fetch.ensures.idle i (subst (λ (h : Home). HasPage c.args.self.now.pool i h.id h.page) (sym c.home-home.ensures) has)

pub returns-clause-moves : goal.returns-clause-moves
returns-clause-moves g c = record {
  swaps = c.fetch.ensures.moves.swaps;
  steps = steps_wider (λ (h : Home). h ≡ map_home c.args.which c.args.self.now.layout c.args.page) no_home (λ h own. own ∙ c.home-home.ensures) (λ h no. no) c.fetch.ensures.moves.steps;
  brings = brings_wider (λ (h : Home). h ≡ map_home c.args.which c.args.self.now.layout c.args.page) (λ h own. own ∙ c.home-home.ensures) c.fetch.ensures.moves.brings;
}
