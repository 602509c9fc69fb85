use Rattle.filer_kernel.specs.View.{view_of}
use Rattle.session_words.specs.Parts.{shape_of, shapes_of}
use Rattle.volume_pair.proofs.CompareLemmas.{read_both}
use Rattle.volume_pair.proofs.SideLemmas.{looked_nothing, shape_of_file, side_books, side_then}
use Rattle.volume_pair.proofs.comparing.is_same_page.Goals as goal

pub returns-in-Err-clause-same : goal.returns-in-Err-clause-same
returns-in-Err-clause-same g c = λ fs gs x y from to.
    let read = c.read_file_page.ensures.read x (shapes_of fs) (side_books _ fs x from) in
    let told = c.in-Err.ensures.read x (shapes_of fs) (side_books _ fs x from) in
    (side_then _ _ fs x from read.0, to, λ f g in_from in_to below under. told.1 (shape_of f) (shape_of_file fs c.args.id f in_from) below)

pub returns-in-Err-clause-to_looks : goal.returns-in-Err-clause-to_looks
returns-in-Err-clause-to_looks g c = looked_nothing (view_of c.args.to.now)

pub returns-in-Err-read_file_page-clause-same : goal.returns-in-Err-read_file_page-clause-same
returns-in-Err-read_file_page-clause-same g c = λ fs gs x y from to.
    let read = c.read_file_page.ensures.read x (shapes_of fs) (side_books _ fs x from) in
    let other = c.read_file_page-2.ensures.read y (shapes_of gs) (side_books _ gs y to) in
    let told = c.in-Err-read_file_page.ensures.read y (shapes_of gs) (side_books _ gs y to) in
    (side_then _ _ fs x from read.0, side_then _ _ gs y to other.0, λ f g in_from in_to below under. told.1 (shape_of g) (shape_of_file gs c.args.id g in_to) under)

pub returns-clause-same : goal.returns-clause-same
returns-clause-same g c = λ fs gs x y from to.
    let read = c.in-Ok.ensures.read x (shapes_of fs) (side_books _ fs x from) in
    let other = c.in-Ok-read_file_page.ensures.read y (shapes_of gs) (side_books _ gs y to) in (
      side_then _ _ fs x from read.0,
      side_then _ _ gs y to other.0,
      λ f g in_from in_to below under.
          read_both _ _ fs gs x y c.args.id c.args.page f g _ _ c.are_same.result from to in_from in_to below under
          (read.1 (shape_of f) (shape_of_file fs c.args.id f in_from) below) (other.1 (shape_of g) (shape_of_file gs c.args.id g in_to) under) c.are_same.ensures.same c.are_same.ensures.differ,
    )
