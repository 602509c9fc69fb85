use Rattle.std.proofs.Common.{[], List, subst, arith, slice_index_or}
use Rattle.std.proofs.lemmas.Option.{slice_get-get_or}
use Rattle.std.proofs.lemmas.List.{take_all}
use Rattle.file_map.specs.declared.run.Run.{Run}
use Rattle.file_map.specs.FileMap.{no_run}
use Rattle.label_survey.specs.Runs.{all_triples}
use Rattle.volume_view.specs.Names.{labelled, AddsUnlabelled}
use Rattle.volume_view.proofs.NameLemmas.{next_apart, unlabelled_more, unlabelled_all}
use Rattle.volume_view.proofs.mapped.find_unlabelled.Goals as goal

pub loop-j-preserved : goal.loop-j-preserved
loop-j-preserved g c =
    let runs = c.args.runs.now in
    let j = c.loop-j.j in
    record {
      adds =
          unlabelled_more runs j (slice_index_or runs j no_run) (labelled c.args.first c.args.labels.now) c.args.sectors c.loop-j.left c.in_ok-left.left [] (all_triples c.loop-j.found.items) (all_triples c.add_unlabelled.new.pages.items)
          (slice_get-get_or runs j no_run c.loop-j-test.true) c.loop-j.invariant.adds c.in_ok-left.ensures.adds;
      joined = c.in_ok-left.ensures.joined c.loop-j.invariant.joined;
      once = λ are.
          c.in_ok-left.ensures.once
          (next_apart c.args.sectors runs j c.args.sectors c.loop-j.left (labelled c.args.first c.args.labels.now) (all_triples c.loop-j.found.items) are c.loop-j-test.true c.loop-j.invariant.adds)
          (c.loop-j.invariant.once are);
    }

pub returns-clause-unlabelled : goal.returns-clause-unlabelled
returns-clause-unlabelled g c =
    let said = labelled c.args.first c.args.labels.now in
    let adds = subst (λ (rs : List Run). AddsUnlabelled rs said c.args.sectors c.loop-j.left [] (all_triples c.loop-j.found.items)) (take_all c.loop-j.j c.args.runs.now (omega (arith, c.loop-j-test.false))) c.loop-j.invariant.adds in
    unlabelled_all c.args.sectors c.loop-j.left c.args.runs.now said c.loop-j.found.items c.loop-j.invariant.joined adds
