use Rattle.std.proofs.Common.{◌≡◌, ℕ, Option, sym, ◌∙◌, ap, subst, arith, length, slice_index_or}
use Rattle.std.proofs.lemmas.Option.{slice_get-get_or}
use Rattle.labelled_disk.specs.Layout.{IsCount}
use Rattle.labelled_disk.specs.Root.{IsRoot, page_in}
use Rattle.labelled_disk.specs.Sectors.{Sector, zero_sector}
use Rattle.volume_root.specs.RootPage.{root_in}
use Rattle.volume_root.proofs.RootLemmas.{valid}
use Rattle.scavenger.proofs.PlanLemmas.{judged_root}
use Rattle.scavenger.proofs.opening.read_any_root.Goals as goal

pub returns-in-Ok-clause-root : goal.returns-in-Ok-clause-root
returns-in-Ok-clause-root g c = λ d revealed.
    let count = c.in-Ok.ensures.valid.accepted in
    let long = g.met.D.Disk.whole c.args.disk.now d revealed in
    let s = slice_index_or d 0 zero_sector in
    let here = slice_get-get_or d 0 zero_sector (omega (arith, long, count.0)) in
    let is = sym (c.in-Ok.ensures.judged count d revealed s here) in (
      judged_root (length d) s c.in-Ok.root is ∙ ap (λ (o : Option Sector). root_in (page_in o)) (sym here),
      subst (IsRoot (length d)) (sym here) (valid (length d) s (subst IsCount (sym long) count) c.in-Ok.root is),
    )
