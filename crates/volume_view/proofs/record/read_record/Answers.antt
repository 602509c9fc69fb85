use Rattle.std.proofs.Common.{sym}
use Rattle.file_map.proofs.Records.{zeros_at_end, not_record}
use Rattle.volume_view.proofs.record.read_record.Goals as goal
use Rattle.volume_view.proofs.record.read_record.Goals.{else-ends_in_zeros-via-then-ends_in_zeros+else-is_in_form, else-ends_in_zeros-via-else-ends_in_zeros}

pub returns-then-is_in_form-clause-same : goal.returns-then-is_in_form-clause-same
returns-then-is_in_form-clause-same c = sym (c.run_of-run.ensures.written_back (c.ends_in_zeros.ensures.yes c.if-ends_in_zeros.true))

pub returns-clause-broken : goal.returns-clause-broken
returns-clause-broken c = λ _ is. elim c.else-ends_in_zeros.branch [
  | else-ends_in_zeros-via-then-ends_in_zeros+else-is_in_form w ↦ not_record c.args.sectors _ _ c.run_of-run.ensures.value (w.is_in_form.ensures.no w.if-is_in_form.false) is
  | else-ends_in_zeros-via-else-ends_in_zeros w ↦ c.ends_in_zeros.ensures.no w.if-ends_in_zeros.false (zeros_at_end c.args.sectors _ is)
]
