use Rattle.std.proofs.Common.{◌∙◌, ap, sym, slice_index_or, arith}
use Rattle.std.proofs.lemmas.Option.{slice_get-get_or}
use Rattle.labelled_disk.specs.Sectors.{free_label}
use Rattle.label_survey.proofs.EntryLemmas.{collected_file, collected_other}
use Rattle.label_survey.proofs.entries.collect_entries.Goals as goal
use Rattle.label_survey.proofs.entries.collect_entries.Goals.{then-is_file+in_ok-push, else-is_file}

pub loop-i-preserved : goal.loop-i-preserved
loop-i-preserved g c =
    let at = slice_get-get_or c.args.labels.now c.loop-i.i free_label c.loop-i-test.true in
    elim c.if-is_file.branch [
      | then-is_file+in_ok-push w ↦
          ap (λ v. v.items) w.entries-is
          ∙ collected_file c.args.labels.now c.loop-i.i (slice_index_or c.args.labels.now c.loop-i.i free_label) c.loop-i.entries.items w.push.new.self.items w.place_of.result _
          c.loop-i.invariant w.in_ok-push.ensures.items w.place_of.ensures (omega (arith, c.requires.few, c.loop-i-test.true)) (sym c.is_file.ensures ∙ w.if-is_file.true) at
      | else-is_file w ↦
          ap (λ v. v.items) w.entries-is
          ∙ collected_other c.args.labels.now c.loop-i.i (slice_index_or c.args.labels.now c.loop-i.i free_label) c.loop-i.entries.items c.loop-i.invariant (sym c.is_file.ensures ∙ w.if-is_file.false) at
    ]
