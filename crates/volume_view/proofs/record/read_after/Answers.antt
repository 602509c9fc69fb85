use Rattle.std.proofs.Common.{◌∙◌, ap, sym, subst}
use Rattle.std.proofs.lemmas.Bool.{false≢true}
use Rattle.file_map.specs.Run.{run_in}
use Rattle.file_map.proofs.Records.{run_back}
use Rattle.volume_view.specs.Records.{Follows}
use Rattle.volume_view.proofs.record.read_after.Goals as goal

pub returns-else-follows-clause-broken : goal.returns-else-follows-clause-broken
returns-else-follows-clause-broken c = λ _ after record_is.
    let same = ap run_in c.in-Some.ensures.same ∙ run_back c.args.sectors c.in-Some.run' c.ranges.sectors.fits c.in-Some.ensures.form in
    false≢true (sym c.if-follows.false ∙ c.follows.ensures.all (subst (Follows c.args.last) same after))
