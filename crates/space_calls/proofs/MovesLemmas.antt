-- Calls that write no label, in a row.
use Rattle.swapper_kernel.specs.Homes.{IsLayout}
use Rattle.filer_kernel.specs.Tables.{BesideTables}
use Rattle.fault_core.specs.Reach.{Reaches}
use Rattle.filer_kernel.specs.View.{View}
use Rattle.running_words.specs.Moving.{Moves}
use Rattle.running_words.specs.MovingLaws.{moves_of_reaches, moves_then}
use Rattle.space_calls.specs.ReasonLaws.{moves_of_reshapes}
use Rattle.space_calls.proofs.ReshapeLemmas.{reshapes_tables}

-- the tables are accessed alone
pub moves_tables : (v w : View) → BesideTables v.disk v.slots v.layout v.runs w.disk w.slots w.layout w.runs → Moves v w
moves_tables v w h = moves_of_reshapes v w (reshapes_tables v w h)

-- pages were found before
pub moves_after : (u v w : View) → IsLayout u.layout → Reaches u v → Moves v w → Moves u w
moves_after u v w is h k = moves_then u v w is (moves_of_reaches u v h) k

-- pages are found afterwards
pub moves_before : (u v w : View) → IsLayout u.layout → Moves u v → Reaches v w → Moves u w
moves_before u v w is h k = moves_then u v w is h (moves_of_reaches v w k)

-- pages are found, and then others
pub moves_twice : (u v w : View) → IsLayout u.layout → Reaches u v → Reaches v w → Moves u w
moves_twice u v w is h k = moves_after u v w is h (moves_of_reaches v w k)
