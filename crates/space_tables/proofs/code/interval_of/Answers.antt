use Rattle.std.proofs.Common.{sym}
use Rattle.space_tables.proofs.Codes.{byte_at}
use Rattle.space_tables.proofs.SlotCases.{read_at, interval_read}
use Rattle.space_tables.proofs.code.interval_of.Goals as goal

pub returns : goal.returns
returns c =
    let b = c.args.bytes.now in
    interval_read b c.args.mode _ _ _ _ _ _ _ _ (read_at 4 0 b _ c.field.ensures) (read_at 4 4 b _ c.field-2.ensures) (read_at 2 8 b _ c.field-3.ensures) (sym (byte_at b 10))
    (read_at 4 12 b _ c.field-4.ensures) (read_at 8 16 b _ c.field-5.ensures) (read_at 4 24 b _ c.field-6.ensures) (read_at 2 28 b _ c.field-7.ensures)
