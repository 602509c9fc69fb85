use Rattle.std.proofs.Common.{◌≡◌, ◌<◌, rules}
use Rattle.filer_kernel.specs.View.{view_of}
use Rattle.volume_pair.proofs.CostLemmas.{spends_first, spends_none, spends_page}
use Rattle.volume_pair.proofs.CopyLemmas.{written_fits}
use Rattle.volume_pair.proofs.SideLemmas.{fits_still, looked_nothing, looked_then}
use Rattle.volume_pair.proofs.WriteLemmas.{copied_after, looked_pages, pages_then, pages_written}
use Rattle.volume_pair.proofs.copying.copy_pages.Goals as goal

pub loop-page-init : goal.loop-page-init
loop-page-init g c = (looked_nothing (view_of c.args.from.now), looked_pages c.args.id (looked_nothing (view_of c.args.to.now)), λ fs gs x y f from found all copying. (from, copying), spends_none (view_of c.args.from.now).disk.transfers, spends_none (view_of c.args.to.now).disk.transfers)

pub loop-page-preserved : goal.loop-page-preserved
loop-page-preserved g c =
    let inside : c.loop-page.page < c.args.pages = search rules in (
      looked_then c.loop-page.invariant.0 c.copy_page.ensures.from_looks,
      pages_then c.loop-page.invariant.1 c.copy_page.ensures.to_writes,
      λ fs gs x y f from found all copying.
          let so_far = c.loop-page.invariant.2 fs gs x y f from found all copying in
          c.in-Ok.ensures.copies fs gs x y f so_far.0 found (rw all at inside) so_far.1,
      spends_page _ _ _ c.loop-page.page c.loop-page.invariant.3 c.copy_page.ensures.from_cost,
      spends_page _ _ _ c.loop-page.page c.loop-page.invariant.4 c.copy_page.ensures.to_cost,
    )

pub returns-in-Err-clause-copies : goal.returns-in-Err-clause-copies
returns-in-Err-clause-copies g c = λ fs gs x y f from found all copying.
    let inside : c.loop-page.page < c.args.pages = search rules in
    let so_far = c.loop-page.invariant.2 fs gs x y f from found all copying in
    c.in-Err.ensures.copies fs gs x y f so_far.0 found (rw all at inside) so_far.1

pub returns-clause-copies : goal.returns-clause-copies
returns-clause-copies g c = λ fs gs x y f from found all copying.
    let done : c.loop-page.page ≡ c.args.pages = search rules in
    (rw done at c.loop-page.invariant.2) fs gs x y f from found all copying

pub returns-clause-from_looks : goal.returns-clause-from_looks
returns-clause-from_looks g c = c.loop-page.invariant.0

pub returns-clause-to_writes : goal.returns-clause-to_writes
returns-clause-to_writes g c = c.loop-page.invariant.1

pub copy_page-requires-clause-from_size : goal.copy_page-requires-clause-from_size
copy_page-requires-clause-from_size g c = fits_still c.loop-page.invariant.0 c.requires.from_size

pub copy_page-requires-clause-to_size : goal.copy_page-requires-clause-to_size
copy_page-requires-clause-to_size g c = written_fits (pages_written c.loop-page.invariant.1) c.requires.to_size

pub returns-in-Err-clause-from_looks : goal.returns-in-Err-clause-from_looks
returns-in-Err-clause-from_looks g c = looked_then c.loop-page.invariant.0 c.copy_page.ensures.from_looks

pub returns-in-Err-clause-to_writes : goal.returns-in-Err-clause-to_writes
returns-in-Err-clause-to_writes g c = pages_then c.loop-page.invariant.1 c.copy_page.ensures.to_writes

pub returns-in-Err-clause-why : goal.returns-in-Err-clause-why
returns-in-Err-clause-why g c = copied_after _ _ c.loop-page.invariant.0 (pages_written c.loop-page.invariant.1) c.in-Err.halt c.in-Err.ensures.why

pub returns-in-Err-clause-from_cost : goal.returns-in-Err-clause-from_cost
returns-in-Err-clause-from_cost g c =
    let inside : c.loop-page.page < c.args.pages = search rules in
    spends_first _ _ _ c.loop-page.page c.args.pages c.loop-page.invariant.3 c.copy_page.ensures.from_cost inside

pub returns-clause-from_cost : goal.returns-clause-from_cost
returns-clause-from_cost g c =
    let done : c.loop-page.page ≡ c.args.pages = search rules in
    rw done at c.loop-page.invariant.3

pub returns-in-Err-clause-to_cost : goal.returns-in-Err-clause-to_cost
returns-in-Err-clause-to_cost g c =
    let inside : c.loop-page.page < c.args.pages = search rules in
    spends_first _ _ _ c.loop-page.page c.args.pages c.loop-page.invariant.4 c.copy_page.ensures.to_cost inside

pub returns-clause-to_cost : goal.returns-clause-to_cost
returns-clause-to_cost g c =
    let done : c.loop-page.page ≡ c.args.pages = search rules in
    rw done at c.loop-page.invariant.4
