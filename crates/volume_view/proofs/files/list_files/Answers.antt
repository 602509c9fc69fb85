use Rattle.std.proofs.Common.{◌+◌, ◌∙◌, false, ap, sym, subst, arith}
use Rattle.volume_view.specs.Listed.{AreLinesTo}
use Rattle.volume_view.proofs.FileLemmas.{lines_same, lines_more, all_lines}
use Rattle.volume_view.proofs.files.list_files.Goals as goal
use Rattle.volume_view.proofs.files.list_files.Goals.{in-Some+in_ok-push-in-Some, in-None}

pub loop-k-preserved : goal.loop-k-preserved
loop-k-preserved g c = λ d from are sorted.
    let revealed = c.files_are_as_revealed.ensures false d in
    let so_far = c.loop-k.invariant d from are sorted in
    elim c.match-line_of.branch [
      | in-Some+in_ok-push-in-Some w ↦
          lines_more d revealed c.args.triples.now sorted c.loop-k.k c.loop-k.files.items so_far w.in-Some.line c.match-line_of.files.items (w.in-Some.ensures d from are sorted) (ap (λ v. v.items) w.files-is ∙ w.in_ok-push-in-Some.ensures.items)
      | in-None w ↦
          subst (AreLinesTo d c.args.triples.now (c.loop-k.k + 1)) (sym (ap (λ v. v.items) w.files-is))
          (lines_same d revealed c.args.triples.now sorted c.loop-k.k c.loop-k.files.items so_far (w.in-None.ensures d from are sorted))
    ]

pub returns : goal.returns
returns g c = λ d from are sorted.
    all_lines d (c.files_are_as_revealed.ensures false d) (c.files_are_looked_up.ensures false d) c.args.triples.now sorted c.loop-k.k c.loop-k.files.items (omega (arith, c.loop-k-test.false)) (c.loop-k.invariant d from are sorted)
