use Rattle.std.proofs.Common.{◌≡◌, ℕ, List, map, take, ◌∙◌, ap, arith, slice_index_or}
use Rattle.std.proofs.lemmas.List.{take_all}
use Rattle.std.proofs.lemmas.Option.{slice_get-get_or}
use Rattle.scavenger.specs.Reported.{labelled}
use Rattle.scavenger.proofs.PlanLemmas.{listed_more}
use Rattle.scavenger.proofs.report.Report.list.Goals as goal

pub loop-k-preserved : goal.loop-k-preserved
loop-k-preserved g c =
    let x = slice_index_or c.args.lost.now c.loop-k.k 0 in
    let there = slice_get-get_or c.args.lost.now c.loop-k.k 0 c.loop-k-test.true in
    let within = c.requires.within c.loop-k.k x there in
    record {
      listed = listed_more c.args.first c.args.labels.now c.args.lost.now c.loop-k.k c.loop-k.self.lost.items c.push.new.self.items x there (omega (arith, within.0, within.1)) c.loop-k.invariant.listed c.in_ok-push.ensures.items;
      files = c.loop-k.invariant.files;
      pages = c.loop-k.invariant.pages;
      freed = c.loop-k.invariant.freed;
    }

pub returns-clause-listed : goal.returns-clause-listed
returns-clause-listed g c =
    c.loop-k.invariant.listed ∙ ap (map (labelled c.args.first c.args.labels.now)) (take_all c.loop-k.k c.args.lost.now (omega (arith, c.loop-k-test.false)))
