-- The files of the example are computed.
use Rattle.std.proofs.Common.{refl}
use Rattle.labelled_disk.specs.FilesOn.{pages_from}
use Rattle.labelled_disk.specs.Layout.{first_data}
use Rattle.convert_laws.specs.Example.{ExampleOldFiles, example}

pub example_old_files : ExampleOldFiles
unfolding ExampleOldFiles example pages_from first_data
example_old_files = (refl, refl, refl)
