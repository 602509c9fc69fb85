use Rattle.std.proofs.Common.{◌≡◌, ℕ, ◌+◌, ◌-◌, ◌*◌, ◌%◌, List, Some, None, ◌∙◌, ap, arith}
use Rattle.std.specs.Prelude.{if◌then◌else◌}
use Rattle.flat_mem.specs.Memory.{part}
use Rattle.projection_laws.specs.Stored.{interval_in}
use Rattle.space_tables.specs.Form.{interval_record, is_interval_record}
use Rattle.space_tables.proofs.Pages.{interval_on_page}
use Rattle.space_tables.proofs.records.interval_on.Goals as goal

pub returns-clause-interval : goal.returns-clause-interval
returns-clause-interval c = λ b is.
    let at = c.args.index % 16 * 32 in
    let long : (at + 32) - at ≡ 32 = omega arith in
    let bytes : c.copy_from_slice.new.self ≡ interval_record b c.args.index = c.copy_from_slice.ensures.after ∙ ap (part c.args.page.now at) long ∙ interval_on_page b c.args.index c.args.page.now is in
    c.read_interval.ensures.interval ∙ ap (λ (r : List ℕ). if is_interval_record r then Some (interval_in r) else None) bytes
