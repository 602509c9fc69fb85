use Rattle.std.proofs.Common.{◌≡◌, Some, sym, ◌∙◌, ap}
use Rattle.record_table.specs.Field.{field}
use Rattle.swap_units.specs.Mode.{mode_in}
use Rattle.space_tables.proofs.Codes.{byte_at, decoded_is}
use Rattle.space_tables.proofs.code.decoded.Goals as goal

pub returns : goal.returns
returns c =
    let mode : mode_in (field 1 11 c.args.bytes.now) ≡ Some c.in_ok-mode.mode = ap mode_in (byte_at c.args.bytes.now 11) ∙ sym c.in_ok-mode.ensures.mode in
    decoded_is c.args.bytes.now c.in_ok-mode.mode c.interval_of.result mode c.interval_of.ensures
