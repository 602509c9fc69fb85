use Rattle.std.proofs.Common.{◌<◌, ◌≤◌, ◌∙◌, inr, ap, refl, subst, sym}
use Rattle.labelled_disk.specs.declared.label.Wanted.{Wanted}
use Rattle.labelled_disk.specs.declared.layout.Layout.{Layout}
use Rattle.filer_kernel.specs.Evidence.{MayBeIn}
use Rattle.filer_kernel.specs.View.{View, accepted, view_of}
use Rattle.label_calls.proofs.BytesLemmas.{page_form}
use Rattle.file_manager.proofs.Faults.{counted}
use Rattle.file_manager.proofs.SoLemmas.{file_may, so_of_other}
use Rattle.volume_pair.proofs.WriteLemmas.{looked_pages, may_written, page_written, pages_then}
use Rattle.volume_pair.proofs.PageLemmas.{has_one}
use Rattle.volume_pair.proofs.StepLemmas.{put_after}
use Rattle.volume_pair.proofs.pages.write_file_page.Goals as goal

pub returns-in-Err-clause-puts : goal.returns-in-Err-clause-puts
returns-in-Err-clause-puts g c = λ x shapes f books found below. (c.in-Err.ensures.found x shapes books).1 f found below

pub returns-in-Ok-write_page-clause-puts : goal.returns-in-Ok-write_page-clause-puts
returns-in-Ok-write_page-clause-puts g c = λ x shapes f books found below.
    let u = view_of c.sector_of.new.filer in
    let w : View = record u { disk = g.D.Disk.state c.write_page.new.memory.disk; slots = c.write_page.new.memory.pool; layout = c.write_page.new.memory.layout } in
    let has = c.in-Ok.ensures.found x shapes books in
    put_after u w shapes x c.args.id c.args.page c.in-Ok.sector c.args.bytes.now c.requires.client f found has.0 (has.1 f found below) (page_form c.args.bytes.now c.told-bytes c.fits-bytes)
    (rw c.swapper_over-swapper.ensures.value at c.in-Ok-write_page.ensures.written) (rw c.swapper_over-swapper.ensures.value at c.write_page.ensures.frames) (rw c.swapper_over-swapper.ensures.value at c.write_page.ensures.layout) refl

pub returns-in-Err-write_page-clause-puts : goal.returns-in-Err-write_page-clause-puts
returns-in-Err-write_page-clause-puts g c = λ x shapes f books found below.
    let u = view_of c.sector_of.new.filer in
    let has = c.in-Ok.ensures.found x shapes books in
    let sound = rw c.swapper_over-swapper.ensures.value at c.in-Err-write_page.ensures.fails.sound in
    sound x has.0.stands (has_one u shapes x has.0 c.args.id c.args.page c.in-Ok.sector c.requires.client (has.1 f found below))

pub returns-in-Err-clause-writes : goal.returns-in-Err-clause-writes
returns-in-Err-clause-writes g c = looked_pages c.args.id c.sector_of.ensures.looks

pub returns-in-Ok-write_page-clause-writes : goal.returns-in-Ok-write_page-clause-writes
returns-in-Ok-write_page-clause-writes g c =
    pages_then (looked_pages c.args.id c.sector_of.ensures.looks)
    (page_written c.args.id (rw c.swapper_over-swapper.ensures.value at c.in-Ok-write_page.ensures.written) (rw c.swapper_over-swapper.ensures.value at c.write_page.ensures.frames) (rw c.swapper_over-swapper.ensures.value at c.write_page.ensures.layout))

pub returns-in-Err-write_page-clause-writes : goal.returns-in-Err-write_page-clause-writes
returns-in-Err-write_page-clause-writes g c =
    pages_then (looked_pages c.args.id c.sector_of.ensures.looks)
    (may_written c.args.id (rw c.swapper_over-swapper.ensures.value at c.in-Err-write_page.ensures.stopped) (rw c.swapper_over-swapper.ensures.value at c.write_page.ensures.moves) (rw c.swapper_over-swapper.ensures.value at c.write_page.ensures.frames)
    (rw c.swapper_over-swapper.ensures.value at c.write_page.ensures.layout))

pub returns-in-Err-write_page-clause-why : goal.returns-in-Err-write_page-clause-why
returns-in-Err-write_page-clause-why g c =
    let u = view_of c.sector_of.new.filer in
    let w : View = record u { disk = g.D.Disk.state c.write_page.new.memory.disk; slots = c.write_page.new.memory.pool; layout = c.write_page.new.memory.layout } in
    let wanted : Wanted = record { id = c.args.id; page = c.args.page } in
    let moves = rw c.swapper_over-swapper.ensures.value at c.write_page.ensures.moves in
    let lay = c.sector_of.ensures.looks.layout in
    let size = c.sector_of.ensures.looks.makes.went.sectors ∙ c.requires.size ∙ ap (λ (l : Layout). l.sectors) (sym lay) in
    let first = c.in-Ok.ensures.inside.0 in
    let below = c.in-Ok.ensures.inside.1 in
    let may : MayBeIn w.disk.sectors c.in-Ok.sector wanted =
    file_may u.layout w.disk (accepted c.sector_of.new.filer) (moves.sectors ∙ size) c.in-Ok.sector wanted (inr c.requires.client)
    (subst (λ (l : Layout). l.first ≤ c.in-Ok.sector) (sym lay) first) (subst (λ (l : Layout). c.in-Ok.sector < l.sectors) (sym lay) below) in
    record {
      counted = counted _ _ u.disk w.disk _ c.sector_of.ensures.looks.makes.went.faults (rw c.swapper_over-swapper.ensures.value at c.in-Err-write_page.ensures.fails.cause);
      evidence_seen = so_of_other w.disk c.in-Ok.sector wanted may u.disk w.disk c.in-Err-write_page.halt (rw c.swapper_over-swapper.ensures.value at c.in-Err-write_page.ensures.fails.evidence_seen);
    }
