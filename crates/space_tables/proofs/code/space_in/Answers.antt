use Rattle.std.proofs.Common.{rules, ◌≡◌, Some, sym, ◌∙◌, ap, slice_index_or}
use Rattle.record_table.specs.Field.{field}
use Rattle.swap_units.specs.Mode.{mode_in}
use Rattle.space_tables.proofs.Codes.{space_is}
use Rattle.space_tables.proofs.code.space_in.Goals as goal

pub returns : goal.returns
returns c =
    let byte : field 1 2 c.args.bytes.now ≡ slice_index_or c.args.bytes.now 2 0 = search rules in
    let mode : mode_in (field 1 2 c.args.bytes.now) ≡ Some c.in_ok-mode.mode = ap mode_in byte ∙ sym c.in_ok-mode.ensures.mode in
    space_is c.args.handle c.args.bytes.now c.in_ok-mode.mode c.space_of.result mode c.space_of.ensures
