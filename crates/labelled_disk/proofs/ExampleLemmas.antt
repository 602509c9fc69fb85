-- The files of the example are computed.
use Rattle.std.proofs.Common.{refl}
use Rattle.labelled_disk.specs.Example.{ExampleFiles, example}
use Rattle.labelled_disk.specs.FilesOn.{pages_from}
use Rattle.labelled_disk.specs.Layout.{first_data}

pub example_files : ExampleFiles
unfolding ExampleFiles example pages_from first_data
example_files = (refl, refl)
