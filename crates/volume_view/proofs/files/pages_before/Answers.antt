use Rattle.std.proofs.Common.{◌-◌, ◌≤◌, false, arith, slice_index_or}
use Rattle.std.proofs.lemmas.Option.{slice_get-get_or}
use Rattle.label_survey.specs.declared.triples.Triple.{Triple}
use Rattle.volume_view.proofs.FileLemmas.{pages_none, pages_after, pages_other}
use Rattle.volume_view.proofs.files.pages_before.Goals as goal
use Rattle.volume_view.proofs.files.pages_before.Goals.{else-last-triples-via-then-last-triples+else-last-lt-LEADER, else-last-triples-via-else-last-triples}

abbrev no_triple : Triple
no_triple = record { id = 0; page = 0; sector = 0 }

pub returns-then-k-eq0 : goal.returns-then-k-eq0
returns-then-k-eq0 c = λ d sorted. pages_none d (c.files_are_as_revealed.ensures false d) c.args.triples.now sorted c.args.k c.if-k-eq0.true

pub returns-then-last-lt-LEADER : goal.returns-then-last-lt-LEADER
returns-then-last-lt-LEADER c = λ d sorted.
    let some : 1 ≤ c.args.k = omega (arith, c.if-k-eq0.false) in
    pages_after d (c.files_are_as_revealed.ensures false d) c.args.triples.now sorted c.args.k (slice_index_or c.args.triples.now (c.args.k - 1) no_triple) (slice_index_or c.args.triples.now c.args.k no_triple) some
    (slice_get-get_or c.args.triples.now (c.args.k - 1) no_triple (omega (arith, c.requires))) (slice_get-get_or c.args.triples.now c.args.k no_triple c.requires) c.if-last-triples.true c.if-last-lt-LEADER.true

pub returns-else-last-triples : goal.returns-else-last-triples
returns-else-last-triples c = λ d sorted.
    let some : 1 ≤ c.args.k = omega (arith, c.if-k-eq0.false) in
    pages_other d (c.files_are_as_revealed.ensures false d) c.args.triples.now sorted c.args.k (slice_index_or c.args.triples.now (c.args.k - 1) no_triple) (slice_index_or c.args.triples.now c.args.k no_triple) some
    (slice_get-get_or c.args.triples.now (c.args.k - 1) no_triple (omega (arith, c.requires))) (slice_get-get_or c.args.triples.now c.args.k no_triple c.requires)
    (λ same low. elim c.else-last-triples.branch [
      | else-last-triples-via-then-last-triples+else-last-lt-LEADER w ↦ omega (arith, low, w.if-last-lt-LEADER.false)
      | else-last-triples-via-else-last-triples w ↦ w.if-last-triples.false same
    ])
