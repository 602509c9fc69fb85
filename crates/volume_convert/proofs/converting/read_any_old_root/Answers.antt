use Rattle.std.proofs.Common.{Option, false, sym, ◌∙◌, ap, arith, length, slice_index_or}
use Rattle.std.proofs.lemmas.Option.{slice_get-get_or}
use Rattle.labelled_disk.specs.Root.{page_in}
use Rattle.labelled_disk.specs.Sectors.{Sector, zero_sector}
use Rattle.volume_root.specs.OldRoot.{is_old_version}
use Rattle.volume_root.specs.RootPage.{root_in}
use Rattle.volume_root.proofs.RootLemmas.{passed}
use Rattle.volume_convert.proofs.converting.read_any_old_root.Goals as goal

pub returns-in-Ok-clause-root : goal.returns-in-Ok-clause-root
returns-in-Ok-clause-root g c = λ d revealed.
    let count = c.in-Ok.ensures.valid.accepted in
    let long = g.met.D.Disk.whole c.args.disk.now d revealed in
    let s = slice_index_or d 0 zero_sector in
    let here = slice_get-get_or d 0 zero_sector (omega (arith, long, count.0)) in
    (passed (is_old_version s.1) false (length d) s c.in-Ok.root (sym (c.in-Ok.ensures.judged count d revealed s here))).1 ∙ ap (λ (o : Option Sector). root_in (page_in o)) (sym here)
