use Rattle.std.proofs.Common.{ℕ, ◌+◌, List, map, length, sym, ◌∙◌, ap, arith}
use Rattle.std.specs.Prelude.{slice_get}
use Rattle.scavenger.specs.Reported.{labelled}
use Rattle.scavenger.proofs.PlanLemmas.{imagined, imagined_has, lost_within, all_lost, ok_then}
use Rattle.scavenger.proofs.report.Report.fill.Goals as goal

pub list-requires-clause-within : goal.list-requires-clause-within
list-requires-clause-within g c = λ k i here.
    let n : ℕ = c.args.first + length c.args.labels.now in
    let d = imagined n c.args.labels.now in
    let has = imagined_has n c.args.labels.now (omega (arith, c.requires.first)) in
    let revealed = c.requires.reveals d has in
    lost_within d n c.args.first c.args.labels.now has c.requires.first k i (ap (λ (l : List ℕ). slice_get l k) (sym revealed.lost ∙ sym c.deref.ensures.value) ∙ here)

pub returns : goal.returns
returns g c = ok_then c.list.result c.list.ensures.listed (λ listed d has.
    let revealed = c.requires.reveals d has in
    record {
      files = c.list.ensures.files ∙ revealed.tallies.files;
      pages = c.list.ensures.pages ∙ revealed.tallies.pages;
      freed = c.list.ensures.freed ∙ revealed.tallies.freed;
      lost =
          listed ∙ ap (map (labelled c.args.first c.args.labels.now)) (c.deref.ensures.value ∙ revealed.lost)
          ∙ all_lost d (c.args.first + length c.args.labels.now) c.args.first c.args.labels.now has c.requires.first;
    })
