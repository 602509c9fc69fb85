use Rattle.std.proofs.Common.{◌≡◌, false, refl, sym, ◌∙◌}
use Rattle.std.specs.Prelude.{◌&&◌, ◌==◌, is_some, if◌then◌else◌}
use Rattle.record_table.specs.Field.{field}
use Rattle.swap_units.specs.Mode.{mode_in}
use Rattle.projection_laws.specs.Stored.{interval_in}
use Rattle.space_tables.specs.Form.{in_form}
use Rattle.space_tables.proofs.Codes.{passes, fails}
use Rattle.space_tables.proofs.code.read_interval.Goals as goal
use Rattle.space_tables.proofs.code.read_interval.Goals.{else-in_form-via-then-in_form+else-ends_in_zeros, else-in_form-via-else-in_form}

pub returns-then-ends_in_zeros-clause-interval : goal.returns-then-ends_in_zeros-clause-interval
returns-then-ends_in_zeros-clause-interval c =
    passes in_form (is_some (mode_in (field 1 11 c.args.bytes.now))) (field 2 30 c.args.bytes.now == 0) c.in_ok-interval.interval (interval_in c.args.bytes.now)
    (sym c.in_ok-interval.was ∙ c.decoded.ensures) (sym c.in_form.ensures ∙ c.if-in_form.true) (sym c.ends_in_zeros.ensures ∙ c.if-ends_in_zeros.true)

pub returns-else-in_form-clause-interval : goal.returns-else-in_form-clause-interval
returns-else-in_form-clause-interval c =
    let some : (in_form c.in_ok-interval.interval && (field 2 30 c.args.bytes.now == 0)) ≡ false = elim c.else-in_form.branch [
      | else-in_form-via-then-in_form+else-ends_in_zeros w ↦ rw (sym c.in_form.ensures ∙ w.if-in_form.true, sym w.ends_in_zeros.ensures ∙ w.if-ends_in_zeros.false) refl
      | else-in_form-via-else-in_form w ↦ rw (sym c.in_form.ensures ∙ w.if-in_form.false) refl
    ] in
    fails in_form (is_some (mode_in (field 1 11 c.args.bytes.now))) (field 2 30 c.args.bytes.now == 0) c.in_ok-interval.interval (interval_in c.args.bytes.now)
    (sym c.in_ok-interval.was ∙ c.decoded.ensures) some
