-- A session lies in memory of C's.
use Rattle.std.specs.Prelude.{ℕ}
use base.Fml.{Fml, fex, fsep, ftrue}
use base.Fraction.{full_share}
use prog.Memory.{size}
use denote.Memory.{lone}
use denote.RattleType.{RattleType}
use denote.RawPtr.{Ptr, lies_at}
use Rattle.embedded.specs.declared.image.ImageEngine.{ImageEngine}
use Rattle.embedded.specs.contracts.image.ImageEngine.{the_row as engine-row}
use Rattle.embedded.specs.Taking.{IsNew}
use Rattle.std.specs.declared.fs.File as declared
use Rattle.std.specs.contracts.fs.File as contracts

abbrev pub File : Type 0
File = declared.File

abbrev pub file-row : RattleType
file-row = contracts.the_row

-- how many bytes an engine takes: those of the room that `pilot_place` asks for
abbrev pub engine_size : ℕ
engine_size = size (lone engine-row.mir)

-- an engine without a session lies there, and nothing stopped one
abbrev pub placed : Ptr → Fml
placed p = fex ImageEngine (λ e. fsep (lies_at engine-row full_share p e) (fex (IsNew e.engine) (λ _. ftrue)))
