use Rattle.std.proofs.Common.{◌≡◌, ℕ, ◌+◌, ◌-◌, ◌*◌, ◌%◌, List, Some, None, sym, ◌∙◌, ap, arith}
use Rattle.std.specs.Prelude.{if◌then◌else◌}
use Rattle.projection_laws.specs.Stored.{slot_in}
use Rattle.flat_mem.specs.Memory.{part}
use Rattle.record_table.specs.Field.{field}
use Rattle.space_tables.specs.Form.{slot_record, is_slot_record}
use Rattle.space_tables.proofs.Pages.{record_on, first_byte, none_there}
use Rattle.space_tables.proofs.records.slot_on.Goals as goal

pub returns-then-page-at-eq0-clause-slot : goal.returns-then-page-at-eq0-clause-slot
returns-then-page-at-eq0-clause-slot c = λ b is.
    none_there c.args.handle (slot_record b c.args.handle)
    (ap (field 1 0) (sym (record_on b c.args.handle c.args.page.now is)) ∙ first_byte c.args.page.now _ ∙ c.if-page-at-eq0.true)

pub returns-clause-slot : goal.returns-clause-slot
returns-clause-slot c = λ b is.
    let at = c.args.handle % 16 * 32 in
    let long : (at + 32) - at ≡ 32 = omega arith in
    let bytes : c.copy_from_slice.new.self ≡ slot_record b c.args.handle = c.copy_from_slice.ensures.after ∙ ap (part c.args.page.now at) long ∙ record_on b c.args.handle c.args.page.now is in
    c.read_slot.ensures.slot ∙ ap (λ (r : List ℕ). if is_slot_record r then Some (slot_in c.args.handle r) else None) bytes
