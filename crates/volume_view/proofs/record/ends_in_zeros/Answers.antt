use Rattle.std.proofs.Common.{eq-eqb, sym, ◌∙◌}
use Rattle.std.proofs.lemmas.Bool.{false≢true, eqb-true}
use Rattle.file_map.proofs.Records.{zero_rest, rest_zero}
use Rattle.volume_view.proofs.record.ends_in_zeros.Goals as goal

pub returns-clause-yes : goal.returns-clause-yes
returns-clause-yes c = λ is. zero_rest c.args.bytes.now c.told-bytes c.fits-bytes (sym c.from_be_bytes.ensures ∙ eqb-true _ 0 is)

pub returns-clause-no : goal.returns-clause-no
returns-clause-no c = λ is zeros. false≢true (sym is ∙ eq-eqb _ 0 (c.from_be_bytes.ensures ∙ rest_zero c.args.bytes.now c.told-bytes zeros))
