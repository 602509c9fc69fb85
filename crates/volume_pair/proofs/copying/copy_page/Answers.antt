use Rattle.std.proofs.Common.{◌≡◌, false, Some, map}
use Rattle.std.specs.Prelude.{slice_get}
use Rattle.labelled_disk.specs.File.{byte}
use Rattle.labelled_disk.proofs.AscendingLemmas.{at_id}
use Rattle.filer_kernel.specs.View.{view_of}
use Rattle.session_words.specs.Parts.{shape_of, shapes_of}
use Rattle.session_words.specs.PlaceLaws.{with_shape}
use Rattle.volume_pair.specs.Copied.{shape_with}
use Rattle.volume_pair.proofs.SideLemmas.{looked_nothing, shape_of_file, side_books, side_cells, side_then}
use Rattle.volume_pair.proofs.StepLemmas.{copied_here, page_copied}
use Rattle.volume_pair.proofs.WriteLemmas.{looked_pages}
use Rattle.volume_pair.proofs.copying.copy_page.Goals as goal

pub returns-in-Err-clause-copies : goal.returns-in-Err-clause-copies
returns-in-Err-clause-copies g c = λ fs gs x y f from found below copying.
    let read = c.read_file_page.ensures.read x (shapes_of fs) (side_books _ fs x from) in
    let halts = c.in-Err.ensures.read x (shapes_of fs) (side_books _ fs x from) in
    (side_then _ _ fs x from read.0, halts.1 (shape_of f) (shape_of_file fs c.args.id f found) below)

pub returns-in-Ok-write_file_page-clause-copies : goal.returns-in-Ok-write_file_page-clause-copies
returns-in-Ok-write_file_page-clause-copies g c = λ fs gs x y f from found below copying.
    let read = c.in-Ok.ensures.read x (shapes_of fs) (side_books _ fs x from) in
    let has = read.1 (shape_of f) (shape_of_file fs c.args.id f found) below in
    let same = at_id fs c.args.id f found in
    let bytes = c.read_file_page.new.into in
    let own : slice_get f.pages c.args.page ≡ Some (map byte bytes) = side_cells _ fs x c.args.id c.args.page bytes f from found below has in
    let put = c.in-Ok-write_file_page.ensures.puts copying.memory (with_shape (shapes_of gs) f.id (shape_with f false false)) (shape_with f false false) copying.books (copied_here gs f c.args.id false false same) below in
    (side_then _ _ fs x from read.0, page_copied (view_of c.args.to.now) (view_of c.write_file_page.new.filer) gs y f c.args.id c.args.page bytes same copying own put)

pub returns-in-Err-write_file_page-clause-copies : goal.returns-in-Err-write_file_page-clause-copies
returns-in-Err-write_file_page-clause-copies g c = λ fs gs x y f from found below copying.
    let read = c.in-Ok.ensures.read x (shapes_of fs) (side_books _ fs x from) in
    let same = at_id fs c.args.id f found in
    let halts = c.in-Err-write_file_page.ensures.puts copying.memory (with_shape (shapes_of gs) f.id (shape_with f false false)) (shape_with f false false) copying.books (copied_here gs f c.args.id false false same) below in
    (side_then _ _ fs x from read.0, halts)

pub returns-in-Err-clause-to_writes : goal.returns-in-Err-clause-to_writes
returns-in-Err-clause-to_writes g c = looked_pages c.args.id (looked_nothing (view_of c.args.to.now))
