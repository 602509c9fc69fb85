use Rattle.std.proofs.Common.{◌≡◌, ℕ, ◌+◌, ◌-◌, ◌*◌, ◌%◌, List, ◌∙◌, ap, arith}
use Rattle.flat_mem.specs.Memory.{part}
use Rattle.projection_laws.specs.Laws.{is_gap}
use Rattle.projection_laws.specs.Stored.{interval_in}
use Rattle.space_tables.specs.Form.{interval_record}
use Rattle.space_tables.proofs.Pages.{interval_on_page}
use Rattle.space_tables.proofs.rooms.gap_at.Goals as goal

pub returns : goal.returns
returns c = record {
  gap = λ b is.
      let at = c.args.index % 16 * 32 in
      let long : (at + 32) - at ≡ 32 = omega arith in
      let bytes : c.copy_from_slice.new.self ≡ interval_record b c.args.index = c.copy_from_slice.ensures.after ∙ ap (part c.args.page.now at) long ∙ interval_on_page b c.args.index c.args.page.now is in
      c.gap_in.ensures ∙ ap (λ (r : List ℕ). is_gap c.args.parent c.args.pages (interval_in r)) bytes;
}
