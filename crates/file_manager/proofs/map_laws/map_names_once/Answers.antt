use Rattle.filer_kernel.specs.MapOnce.{named_once}
use Rattle.file_manager.proofs.map_laws.map_names_once.Goals as goal

pub returns : goal.returns
returns c = named_once
