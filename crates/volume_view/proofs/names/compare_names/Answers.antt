use Rattle.std.proofs.Common.{ℕ, ◌≤◌, ◌∙◌, List, sym, subst, arith}
use Rattle.file_map.specs.declared.run.Run.{Run}
use Rattle.file_map.specs.FileMap.{names_triple, AreRuns}
use Rattle.volume_view.specs.Names.{labelled, NamesIn, IsUnlabelled}
use Rattle.volume_view.specs.Recorded.{AreRecorded}
use Rattle.volume_view.specs.Records.{AreAllInForm}
use Rattle.volume_view.proofs.LayoutLemmas.{of_layout, first_within}
use Rattle.volume_view.proofs.NameLemmas.{compared, unlabelled_named, unlabelled_covers}
use Rattle.volume_view.proofs.names.compare_names.Goals as goal

pub find_unmapped-requires-clause-few : goal.find_unmapped-requires-clause-few
find_unmapped-requires-clause-few g c =
    let parts = of_layout c.args.layout.now c.args.layout.now.sectors c.requires.layout in
    let within = first_within c.args.layout.now.sectors c.requires.counted in
    omega (arith, c.requires.all, parts.first, within)

pub find_unlabelled-requires-clause-form : goal.find_unlabelled-requires-clause-form
find_unlabelled-requires-clause-form g c = subst (AreAllInForm c.args.layout.now.sectors) (sym c.deref.ensures.value) c.in-Ok.ensures.form

pub returns-clause-compared : goal.returns-clause-compared
returns-clause-compared g c = λ named is.
    let n = c.args.layout.now.sectors in
    let said = labelled c.args.layout.now.first c.args.labels.now in
    let some : 1 ≤ n = omega (arith, c.requires.counted.0) in
    let read = c.in-Ok.ensures.read is.runs record { listed = is.listed; form = is.form } in
    let first = c.in-Ok-find_unmapped.ensures.unmapped named (subst (λ (b : List ℕ). NamesIn n b named) (sym c.in-Ok.ensures.same) is) in
    let second = subst (λ (rs : List Run). IsUnlabelled n (names_triple rs) said c.in_ok-unlabelled.unlabelled.items) (c.deref.ensures.value ∙ read) c.in_ok-unlabelled.ensures.unlabelled in
    compared n some named said (record { unmapped = c.in-Ok-find_unmapped.unmapped; unlabelled = c.in_ok-unlabelled.unlabelled }) first
    (unlabelled_named (names_triple is.runs) named (λ id page sector. sym (is.are id page sector)) n said c.in_ok-unlabelled.unlabelled.items second)
    (c.in_ok-unlabelled.ensures.once (subst (AreRuns n) (sym (c.deref.ensures.value ∙ read)) is.form))

pub returns-in-Err-find_unmapped-clause-compared : goal.returns-in-Err-find_unmapped-clause-compared
returns-in-Err-find_unmapped-clause-compared g c = λ named is. c.in-Err-find_unmapped.ensures.unmapped named (subst (λ (b : List ℕ). NamesIn c.args.layout.now.sectors b named) (sym c.in-Ok.ensures.same) is)

pub returns-clause-alike : goal.returns-clause-alike
returns-clause-alike g c = λ none.
    let n = c.args.layout.now.sectors in
    let said = labelled c.args.layout.now.first c.args.labels.now in
    let some : 1 ≤ n = omega (arith, c.requires.counted.0) in
    let unlabelled = subst (λ (rs : List Run). IsUnlabelled n (names_triple rs) said c.in_ok-unlabelled.unlabelled.items) c.deref.ensures.value c.in_ok-unlabelled.ensures.unlabelled in
    record {
      runs = c.in-Ok.runs.items;
      counted = c.in-Ok.ensures.counted;
      form = c.in-Ok.ensures.form;
      stand = c.in-Ok.ensures.stand;
      covered = unlabelled_covers n (names_triple c.in-Ok.runs.items) said c.in_ok-unlabelled.unlabelled.items some unlabelled none.1;
      recorded = subst (λ (b : List ℕ). AreRecorded n b said) c.in-Ok.ensures.same (c.in-Ok-find_unmapped.ensures.recorded none.0);
    }
