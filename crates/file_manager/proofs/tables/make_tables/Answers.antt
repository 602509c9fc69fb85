use Rattle.std.proofs.Common.{◌<◌, arith, refl, rules}
use Rattle.std.specs.Prelude.{List}
use Rattle.labelled_disk.specs.Sectors.{Sector, AreSectors}
use Rattle.flat_machine.specs.declared.space.Space.{Space}
use Rattle.file_map.specs.FileMap.{without_from}
use Rattle.swapper_kernel.specs.declared.manager.Manager.TheVariants.{FileMap}
use Rattle.swapper_kernel.specs.FormLaws.{memory_in_form}
use Rattle.swapper_kernel.specs.Goes.{no_page}
use Rattle.swapper_kernel.specs.GoesLaws.{makes_nothing}
use Rattle.swapper_kernel.specs.Stands.{Stands}
use Rattle.filer_kernel.specs.Cached.{runs_of}
use Rattle.filer_kernel.specs.EvidenceLaws.{fits, so_of_cut}
use Rattle.session_words.specs.Parts.{Shapes}
use Rattle.file_manager.specs.Tables.{MayBegin}
use Rattle.file_manager.proofs.CreateStops.{create_of_cut, create_of_make, nothing_after}
use Rattle.file_manager.proofs.Faults.{counted, counted_then}
use Rattle.file_manager.proofs.KeepSteps.{keeps_at}
use Rattle.file_manager.proofs.ReasonCauses.{cut_reasons}
use Rattle.file_manager.proofs.RootCalls.{grew_root, grown_root}
use Rattle.file_manager.specs.KeepLaws.{unframed_untabled}
use Rattle.file_manager.specs.TabledLaws.{untold_leaves}
use Rattle.file_manager.proofs.RootKeeps.{none_left, whole_cut}
use Rattle.file_manager.proofs.RunStages.{map_is, maps_named}
use Rattle.file_manager.proofs.TablesCut.{may_begin_cut, begun_after, tables_unmade, tables_some_after, tables_made_after}
use Rattle.file_manager.proofs.tables.make_tables.Given as given
use Rattle.file_manager.proofs.tables.make_tables.Goals.{After-frames_of}
use Rattle.file_manager.proofs.tables.make_tables.Goals as goal
use Rattle.filer_kernel.specs.View.{accepted, disk_of, swapper_of, view_of}

-- after the cut each memory is in form
formed : (g : given.Over) (c : After-frames_of g) (y : List Sector) → Stands (view_of c.cut.new.self).disk (view_of c.cut.new.self).slots y → AreSectors y
formed g c y stood = memory_in_form _ _ y stood (g.met.D.Disk.in_form (disk_of c.cut.new.self) stood.sectors stood.revealed) c.frames_of.ensures.pages

-- and the pages may still be made
after : (g : given.Over) (c : After-frames_of g) (x : List Sector) (shapes : Shapes) (spaces : List Space)
    → MayBegin (view_of c.args.filer.now).disk (view_of c.args.filer.now).slots (view_of c.args.filer.now).layout c.args.filer.now.runs shapes spaces x
    → (y : List Sector) × MayBegin (view_of c.cut.new.self).disk (view_of c.cut.new.self).slots (view_of c.args.filer.now).layout c.cut.new.self.runs shapes spaces y
after g c x shapes spaces may =
    let layout = (view_of c.args.filer.now).layout in
    let is = (accepted c.args.filer.now) in
    let kept = c.args.filer.now.runs in
    let b = may.books.booked in
    let cut = c.in-Ok.ensures.cut x b.named may.books.stands (map_is layout is (runs_of layout.sectors kept) shapes x b b.named b.map) in
    (cut.memory, may_begin_cut layout is kept shapes spaces x _ _ may _ _ _ c.in-Ok.ensures.beside c.cut.new.self.runs cut (c.in-Ok.ensures.runs layout.sectors) (formed g c))

pub returns-in-Err-clause-made : goal.returns-in-Err-clause-made
returns-in-Err-clause-made g c = λ x shapes spaces may.
    let layout = (view_of c.args.filer.now).layout in
    let is = (accepted c.args.filer.now) in
    let runs = runs_of layout.sectors c.args.filer.now.runs in
    let b = may.books.booked in
    c.in-Err.ensures.sound x b.named may.books.stands (map_is layout is runs shapes x b b.named b.map) (maps_named layout is runs shapes x b FileMap)

pub returns-in-Err-clause-writes : goal.returns-in-Err-clause-writes
returns-in-Err-clause-writes g c = tables_unmade c.in-Err.ensures.beside

pub returns-in-Err-clause-fails : goal.returns-in-Err-clause-fails
returns-in-Err-clause-fails g c =
    let old = (view_of c.args.filer.now).disk in
    let pool = (view_of c.args.filer.now).slots in
    record {
      cause = create_of_cut (view_of c.args.filer.now).layout (accepted c.args.filer.now) 3 (makes_nothing no_page old pool) nothing_after (λ p. p < 96) (view_of c.cut.new.self).disk (view_of c.cut.new.self).slots c.in-Err.halt c.in-Err.ensures.begun c.in-Err.ensures.cause;
      counted = counted _ old.faults old (view_of c.cut.new.self).disk _ (omega arith) c.in-Err.ensures.cause;
      evidence_seen = so_of_cut (fits (swapper_of c.args.filer.now) (search rules)) c.cut.ensures.beside.goes.makes c.in-Err.halt c.in-Err.ensures.cause;
    }

pub returns-in-Err-clause-accounts : goal.returns-in-Err-clause-accounts
returns-in-Err-clause-accounts g c = λ o named h bare untold.
    cut_reasons h c.cut.ensures.beside.goes.makes c.in-Err.halt c.in-Err.ensures.cause (c.in-Err.ensures.right h.memory named h.stands h.map)

pub returns-in-Err-clause-stays : goal.returns-in-Err-clause-stays
returns-in-Err-clause-stays g c = record { root = grew_root {id = 3} (λ same. omega (arith, same)) (returns-in-Err-clause-writes g c); layout = search rules }

pub returns-in-Err-make_pages-clause-made : goal.returns-in-Err-make_pages-clause-made
returns-in-Err-make_pages-clause-made g c = λ x shapes spaces may.
    let now = after g (goal.at.returns-in-Err-make_pages-clause-made g c).After-frames_of x shapes spaces may in
    (rw (c.frames_of.ensures.same, c.in-Ok.ensures.beside.layout) at c.in-Err-make_pages.ensures.made) now.0 shapes spaces now.1

pub returns-in-Err-make_pages-clause-writes : goal.returns-in-Err-make_pages-clause-writes
returns-in-Err-make_pages-clause-writes g c = tables_some_after c.in-Ok.ensures.beside (rw c.frames_of.ensures.same at c.in-Err-make_pages.ensures.writes)

pub returns-in-Err-make_pages-clause-fails : goal.returns-in-Err-make_pages-clause-fails
returns-in-Err-make_pages-clause-fails g c = record {
  cause =
      let layout = (view_of c.args.filer.now).layout in
      let old = (view_of c.args.filer.now).disk in
      let pool = (view_of c.args.filer.now).slots in
      create_of_make layout (accepted c.args.filer.now) 3 (makes_nothing no_page old pool) nothing_after (λ p. p < 96) c.in-Ok.ensures.beside c.in-Ok.ensures.cut (λ p. p < 96) (view_of c.make_pages.new.filer).disk (view_of c.make_pages.new.filer).slots c.in-Err-make_pages.halt (rw (c.frames_of.ensures.same, c.in-Ok.ensures.beside.layout) at c.in-Err-make_pages.ensures.fails.cause);
  counted = counted_then _ _ _ c.in-Ok.ensures.beside.goes.makes.went.faults (rw c.frames_of.ensures.same at c.in-Err-make_pages.ensures.fails.counted);
  evidence_seen = search rules;
}

pub returns-in-Err-make_pages-clause-accounts : goal.returns-in-Err-make_pages-clause-accounts
returns-in-Err-make_pages-clause-accounts g c = λ o named h bare untold.
    let cut = keeps_at c.cut.new.self.runs c.in-Ok.ensures.beside.layout (whole_cut h c.in-Ok.ensures.beside 3 (c.in-Ok.ensures.runs (view_of c.args.filer.now).layout.sectors) (λ home from may same was. absurd (omega (arith, may, same))) (accepted c.args.filer.now) (untold_leaves o 3 untold) (λ tables. unframed_untabled bare) c.in-Ok.ensures.cut) in
    (rw (c.frames_of.ensures.same, c.in-Ok.ensures.beside.layout) at c.in-Err-make_pages.ensures.accounts) o (without_from named 3 0) (rw c.in-Ok.ensures.beside.layout at cut) untold (λ page sector own. none_left named 3 page sector tt)

pub returns-in-Err-make_pages-clause-stays : goal.returns-in-Err-make_pages-clause-stays
returns-in-Err-make_pages-clause-stays g c = record { root = grew_root {id = 3} (λ same. omega (arith, same)) (returns-in-Err-make_pages-clause-writes g c); layout = search rules }

pub returns-clause-made : goal.returns-clause-made
returns-clause-made g c = λ x shapes spaces may.
    let layout = (view_of c.args.filer.now).layout in
    let is = (accepted c.args.filer.now) in
    let kept = c.args.filer.now.runs in
    let b = may.books.booked in
    let at = (goal.at.returns-clause-made g c).After-frames_of in
    let cut = c.in-Ok.ensures.cut x b.named may.books.stands (map_is layout is (runs_of layout.sectors kept) shapes x b b.named b.map) in
    let now = may_begin_cut layout is kept shapes spaces x _ _ may _ _ _ c.in-Ok.ensures.beside c.cut.new.self.runs cut (c.in-Ok.ensures.runs layout.sectors) (formed g at) in
    let begun = (rw (c.frames_of.ensures.same, c.in-Ok.ensures.beside.layout) at c.in-Ok-make_pages.ensures.made) cut.memory shapes spaces now in
    begun_after layout is kept shapes spaces x _ _ may _ _ _ c.in-Ok.ensures.beside c.cut.new.self.runs cut (c.in-Ok.ensures.runs layout.sectors) (formed g at) _ _ _ begun

pub returns-clause-writes : goal.returns-clause-writes
returns-clause-writes g c = tables_made_after c.in-Ok.ensures.beside (rw c.frames_of.ensures.same at c.in-Ok-make_pages.ensures.writes)

pub returns-clause-accounts : goal.returns-clause-accounts
returns-clause-accounts g c = λ o named h bare untold.
    let cut = keeps_at c.cut.new.self.runs c.in-Ok.ensures.beside.layout (whole_cut h c.in-Ok.ensures.beside 3 (c.in-Ok.ensures.runs (view_of c.args.filer.now).layout.sectors) (λ home from may same was. absurd (omega (arith, may, same))) (accepted c.args.filer.now) (untold_leaves o 3 untold) (λ tables. unframed_untabled bare) c.in-Ok.ensures.cut) in
    (rw c.frames_of.ensures.same at c.in-Ok-make_pages.ensures.accounts) o (without_from named 3 0) cut untold (λ page sector own. none_left named 3 page sector tt)

pub returns-clause-stays : goal.returns-clause-stays
returns-clause-stays g c = record { root = grown_root {id = 3} (λ same. omega (arith, same)) (returns-clause-writes g c); layout = search rules }

pub returns-clause-tables : goal.returns-clause-tables
returns-clause-tables g c = λ o named h bare.
    let cut = keeps_at c.cut.new.self.runs c.in-Ok.ensures.beside.layout (whole_cut h c.in-Ok.ensures.beside 3 (c.in-Ok.ensures.runs (view_of c.args.filer.now).layout.sectors) (λ home from may same was. absurd (omega (arith, may, same))) (accepted c.args.filer.now) (λ same. refl) (λ tables. unframed_untabled bare) c.in-Ok.ensures.cut) in
    (rw c.frames_of.ensures.same at c.in-Ok-make_pages.ensures.tables) o (without_from named 3 0) cut (λ page sector own. none_left named 3 page sector tt)
