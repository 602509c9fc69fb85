use Rattle.std.proofs.Common.{◌<◌, ◌≤◌, ◌∙◌, inr, ap, refl, subst, sym}
use Rattle.labelled_disk.specs.declared.label.Wanted.{Wanted}
use Rattle.labelled_disk.specs.declared.layout.Layout.{Layout}
use Rattle.filer_kernel.specs.Evidence.{MayBeIn}
use Rattle.filer_kernel.specs.View.{View, accepted, view_of}
use Rattle.file_manager.proofs.Faults.{counted}
use Rattle.file_manager.proofs.SoLemmas.{file_may, so_of_other}
use Rattle.volume_pair.proofs.PageLemmas.{has_one, page_read}
use Rattle.volume_pair.proofs.SideLemmas.{books_read, looked_then}
use Rattle.volume_pair.proofs.pages.read_file_page.Goals as goal

pub returns-in-Ok-read_page-clause-read : goal.returns-in-Ok-read_page-clause-read
returns-in-Ok-read_page-clause-read g c = λ x shapes books.
    let u = view_of c.sector_of.new.filer in
    let w : View = record u { disk = g.D.Disk.state c.read_page.new.memory.disk; slots = c.read_page.new.memory.pool; layout = c.read_page.new.memory.layout } in
    let found = c.sector_of.ensures.found x shapes books in
    let same = rw c.swapper_over-swapper.ensures.value at c.read_page.ensures.same in
    let frames = rw c.swapper_over-swapper.ensures.value at c.read_page.ensures.frames in
    let layout = rw c.swapper_over-swapper.ensures.value at c.read_page.ensures.layout in
    let read = rw c.swapper_over-swapper.ensures.value at c.in-Ok-read_page.ensures.read in (
      books_read u w shapes x found.0 same frames layout refl,
      λ f shape below. page_read u shapes x found.0 c.args.id c.args.page c.in-Ok.sector c.requires.client ((c.in-Ok.ensures.found x shapes books).1 f shape below) _ read,
    )

pub returns-in-Ok-read_page-clause-looks : goal.returns-in-Ok-read_page-clause-looks
returns-in-Ok-read_page-clause-looks g c =
    looked_then c.sector_of.ensures.looks (record { makes = rw c.swapper_over-swapper.ensures.value at c.read_page.ensures.makes; layout = rw c.swapper_over-swapper.ensures.value at c.read_page.ensures.layout })

pub returns-in-Err-read_page-clause-read : goal.returns-in-Err-read_page-clause-read
returns-in-Err-read_page-clause-read g c = λ x shapes books.
    let u = view_of c.sector_of.new.filer in
    let w : View = record u { disk = g.D.Disk.state c.read_page.new.memory.disk; slots = c.read_page.new.memory.pool; layout = c.read_page.new.memory.layout } in
    let found = c.sector_of.ensures.found x shapes books in
    let same = rw c.swapper_over-swapper.ensures.value at c.read_page.ensures.same in
    let frames = rw c.swapper_over-swapper.ensures.value at c.read_page.ensures.frames in
    let layout = rw c.swapper_over-swapper.ensures.value at c.read_page.ensures.layout in
    let sound = rw c.swapper_over-swapper.ensures.value at c.in-Err-read_page.ensures.fails.sound in (
      books_read u w shapes x found.0 same frames layout refl,
      λ f shape below. sound x found.0.stands (has_one u shapes x found.0 c.args.id c.args.page c.in-Ok.sector c.requires.client ((c.in-Ok.ensures.found x shapes books).1 f shape below)),
    )

pub returns-in-Err-read_page-clause-looks : goal.returns-in-Err-read_page-clause-looks
returns-in-Err-read_page-clause-looks g c =
    looked_then c.sector_of.ensures.looks (record { makes = rw c.swapper_over-swapper.ensures.value at c.read_page.ensures.makes; layout = rw c.swapper_over-swapper.ensures.value at c.read_page.ensures.layout })

pub returns-in-Err-read_page-clause-why : goal.returns-in-Err-read_page-clause-why
returns-in-Err-read_page-clause-why g c =
    let u = view_of c.sector_of.new.filer in
    let w : View = record u { disk = g.D.Disk.state c.read_page.new.memory.disk; slots = c.read_page.new.memory.pool; layout = c.read_page.new.memory.layout } in
    let wanted : Wanted = record { id = c.args.id; page = c.args.page } in
    let makes = rw c.swapper_over-swapper.ensures.value at c.read_page.ensures.makes in
    let lay = c.sector_of.ensures.looks.layout in
    let size = c.sector_of.ensures.looks.makes.went.sectors ∙ c.requires.size ∙ ap (λ (l : Layout). l.sectors) (sym lay) in
    let first = c.in-Ok.ensures.inside.0 in
    let below = c.in-Ok.ensures.inside.1 in
    let may : MayBeIn w.disk.sectors c.in-Ok.sector wanted =
    file_may u.layout w.disk (accepted c.sector_of.new.filer) (makes.went.sectors ∙ size) c.in-Ok.sector wanted (inr c.requires.client)
    (subst (λ (l : Layout). l.first ≤ c.in-Ok.sector) (sym lay) first) (subst (λ (l : Layout). c.in-Ok.sector < l.sectors) (sym lay) below) in
    record {
      counted = counted _ _ u.disk w.disk _ c.sector_of.ensures.looks.makes.went.faults (rw c.swapper_over-swapper.ensures.value at c.in-Err-read_page.ensures.fails.cause);
      evidence_seen = so_of_other w.disk c.in-Ok.sector wanted may u.disk w.disk c.in-Err-read_page.halt (rw c.swapper_over-swapper.ensures.value at c.in-Err-read_page.ensures.fails.evidence_seen);
    }
