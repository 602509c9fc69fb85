use Rattle.std.proofs.Common.{sym, ◌∙◌}
use Rattle.space_tables.proofs.Codes.{byte_at}
use Rattle.space_tables.proofs.SlotCases.{read_at, fields_read}
use Rattle.space_tables.proofs.code.space_of.Goals as goal

pub returns : goal.returns
returns c =
    let b = c.args.bytes.now in
    fields_read c.args.handle b c.args.mode _ _ _ _ _ _ _ (c.into.ensures ∙ read_at 2 4 b _ c.field.ensures) (read_at 4 8 b _ c.field-2.ensures) (read_at 4 12 b _ c.field-3.ensures)
    (sym (byte_at b 1)) (read_at 8 16 b _ c.field-4.ensures) (read_at 4 24 b _ c.field-5.ensures) c.window_in.ensures
