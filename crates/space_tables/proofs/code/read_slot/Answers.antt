use Rattle.std.proofs.Common.{◌≢◌, sym, ◌∙◌, ap}
use Rattle.flat_machine.specs.declared.space.Space.{Space}
use Rattle.record_table.specs.Field.{field}
use Rattle.swap_units.specs.Mode.{mode_in}
use Rattle.std.specs.Prelude.{is_some}
use Rattle.projection_laws.specs.Stored.{space_in}
use Rattle.space_tables.proofs.Codes.{byte_at}
use Rattle.space_tables.proofs.Pages.{none_there}
use Rattle.space_tables.proofs.SlotCases.{coded, uncoded_there, space_there, unplain_there, unformed_there}
use Rattle.space_tables.proofs.code.read_slot.Goals as goal
use Rattle.space_tables.proofs.code.read_slot.Goals.{else-has_plain_bytes-via-then-has_plain_bytes+else-space_in_form, else-has_plain_bytes-via-else-has_plain_bytes}

pub returns-then-bytes-eq0-clause-slot : goal.returns-then-bytes-eq0-clause-slot
returns-then-bytes-eq0-clause-slot c = none_there c.args.handle c.args.bytes.now (byte_at c.args.bytes.now 0 ∙ c.if-bytes-eq0.true)

pub returns-in_err-space-clause-slot : goal.returns-in_err-space-clause-slot
returns-in_err-space-clause-slot c =
    let some : field 1 0 c.args.bytes.now ≢ 0 = λ e. c.if-bytes-eq0.false (sym (byte_at c.args.bytes.now 0) ∙ e) in
    rw c.from_residual.ensures (uncoded_there c.args.handle c.args.bytes.now some (sym c.in_err-space.was ∙ c.space_in.ensures))

pub returns-then-space_in_form-clause-slot : goal.returns-then-space_in_form-clause-slot
returns-then-space_in_form-clause-slot c =
    let some : field 1 0 c.args.bytes.now ≢ 0 = λ e. c.if-bytes-eq0.false (sym (byte_at c.args.bytes.now 0) ∙ e) in
    space_there c.args.handle c.args.bytes.now some c.in_ok-space.space (sym c.in_ok-space.was ∙ c.space_in.ensures) (sym c.has_plain_bytes.ensures ∙ c.if-has_plain_bytes.true) (sym c.space_in_form.ensures ∙ c.if-space_in_form.true)

pub returns-then-space_in_form-clause-form : goal.returns-then-space_in_form-clause-form
returns-then-space_in_form-clause-form c =
    let same = (coded (is_some (mode_in (field 1 2 c.args.bytes.now))) c.in_ok-space.space (space_in c.args.handle c.args.bytes.now) (sym c.in_ok-space.was ∙ c.space_in.ensures)).1 in
    (sym c.space_in_form.ensures ∙ c.if-space_in_form.true, ap (λ (s : Space). s.handle) same)

pub returns-else-has_plain_bytes-clause-slot : goal.returns-else-has_plain_bytes-clause-slot
returns-else-has_plain_bytes-clause-slot c =
    let some : field 1 0 c.args.bytes.now ≢ 0 = λ e. c.if-bytes-eq0.false (sym (byte_at c.args.bytes.now 0) ∙ e) in
    let is = sym c.in_ok-space.was ∙ c.space_in.ensures in
    elim c.else-has_plain_bytes.branch [
      | else-has_plain_bytes-via-then-has_plain_bytes+else-space_in_form w ↦ unformed_there c.args.handle c.args.bytes.now some c.in_ok-space.space is (sym w.space_in_form.ensures ∙ w.if-space_in_form.false)
      | else-has_plain_bytes-via-else-has_plain_bytes w ↦ unplain_there c.args.handle c.args.bytes.now some c.in_ok-space.space is (sym c.has_plain_bytes.ensures ∙ w.if-has_plain_bytes.false)
    ]
