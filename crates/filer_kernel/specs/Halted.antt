-- What an error of the file map is to a session.
use Rattle.std.specs.Prelude.{Ok, Err}
use Rattle.std.specs.declared.result.Result.{Result}
use Rattle.labelled_disk.specs.declared.evidence.Evidence.TheVariants.{Malformed as MalformedPage}
use Rattle.labelled_disk.specs.declared.structure.Structure.TheVariants as structures
use Rattle.labelled_disk.specs.declared.evidence.Halt.{Halt}
use Rattle.labelled_disk.specs.declared.evidence.Halt.TheVariants.{Damaged}
use Rattle.file_map.specs.declared.error.MapError.{MapError}
use Rattle.file_map.specs.declared.error.MapError.TheVariants.{Full, Malformed, Mem}

-- a map that is full, or of which a page breaks its form, is damaged
abbrev pub halt_of : MapError Halt → Halt
halt_of Full = Damaged (MalformedPage structures.FileMap 0)
halt_of (Malformed page) = Damaged (MalformedPage structures.FileMap page)
halt_of (Mem halt) = halt

abbrev pub halted : {T : Type 0} → Result T (MapError Halt) → Result T Halt
halted (Ok x) = Ok x
halted (Err error) = Err (halt_of error)
