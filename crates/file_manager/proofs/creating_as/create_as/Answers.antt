use Rattle.std.proofs.Common.{◌∙◌, ◌≤◌, ℕ, ap, rules, sym, true≢false}
use Rattle.std.specs.Prelude.{List}
use Rattle.labelled_disk.specs.Sectors.{Sector, AreSectors}
use Rattle.file_map.specs.FileMap.{Triples, without_from}
use Rattle.swapper_kernel.specs.declared.manager.Manager.TheVariants.{FileMap}
use Rattle.swapper_kernel.specs.FormLaws.{memory_in_form}
use Rattle.swapper_kernel.specs.Goes.{no_page}
use Rattle.swapper_kernel.specs.GoesLaws.{makes_nothing}
use Rattle.swapper_kernel.specs.Stands.{Stands}
use Rattle.filer_kernel.specs.Cached.{runs_of}
use Rattle.filer_kernel.specs.EvidenceLaws.{fits, so_of_cut}
use Rattle.filer_kernel.specs.View.{accepted, disk_of, swapper_of, view_of}
use Rattle.session_words.proofs.FoundLemmas.{above_reserved}
use Rattle.file_manager.specs.Grounds.{IsNewPage}
use Rattle.file_manager.specs.KeepLaws.{client_untabled}
use Rattle.file_manager.specs.Reasons.{InitialState, Keeps, KeepsTo}
use Rattle.file_manager.specs.TabledLaws.{client_leaves}
use Rattle.file_manager.specs.Taking.{NamesNoneOf, every_page}
use Rattle.file_manager.proofs.CreatedFile.{broken_after, create_fails, created_after, cut_makes, cut_stops, made_root, made_some_root, may_create_cut, uncut_broken, uncut_stops}
use Rattle.file_manager.proofs.CreateStops.{create_of_cut, create_of_make, nothing_after}
use Rattle.file_manager.proofs.KeepCut.{tables_left}
use Rattle.file_manager.proofs.KeepSteps.{keeps_at}
use Rattle.file_manager.proofs.ReasonCauses.{cut_reasons}
use Rattle.file_manager.proofs.RootKeeps.{none_left, whole_cut}
use Rattle.file_manager.proofs.RunStages.{map_is, maps_named}
use Rattle.file_manager.proofs.creating_as.create_as.Given as given
use Rattle.file_manager.proofs.creating_as.create_as.Goals.{After-frames_of}
use Rattle.file_manager.proofs.creating_as.create_as.Goals as goal

-- ---- The file map is cut.

-- after the cut each memory is in form
formed : (g : given.Over) (c : After-frames_of g) (y : List Sector) → Stands (view_of c.cut.new.self).disk (view_of c.cut.new.self).slots y → AreSectors y
formed g c y stood = memory_in_form _ _ y stood (g.met.D.Disk.in_form (disk_of c.cut.new.self) stood.sectors stood.revealed) c.frames_of.ensures.pages

-- a map that names no page of the file, cut of it, keeps to what stood at first
cut_keeps : (g : given.Over) (c : After-frames_of g) (o : InitialState) (named : Triples) → Keeps o c.args.filer.now named → NamesNoneOf c.args.id every_page named
    → KeepsTo o (view_of c.cut.new.self).layout (runs_of (view_of c.cut.new.self).layout.sectors c.cut.new.self.runs) (view_of c.cut.new.self).disk (view_of c.cut.new.self).slots (without_from named c.args.id 0)
cut_keeps g c o named h none =
    let client : 16 ≤ c.args.id = above_reserved c.args.id c.requires.of_file in
    keeps_at c.cut.new.self.runs c.in-Ok.ensures.beside.layout
    (whole_cut h c.in-Ok.ensures.beside c.args.id (c.in-Ok.ensures.runs (view_of c.args.filer.now).layout.sectors)
    (λ home from may same was. absurd (true≢false (sym was ∙ ap (λ (n : ℕ). named n home.page home.sector) same ∙ none home.page home.sector tt)))
    (accepted c.args.filer.now) (client_leaves o c.args.id client) (client_untabled c.args.id client) c.in-Ok.ensures.cut)

pub returns-in-Err-clause-created : goal.returns-in-Err-clause-created
returns-in-Err-clause-created g c = λ tables x shapes spaces may.
    let layout = (view_of c.args.filer.now).layout in
    let is = (accepted c.args.filer.now) in
    let runs = runs_of layout.sectors c.args.filer.now.runs in
    let b = may.books.booked in (
      c.in-Err.ensures.sound x b.named may.books.stands (map_is layout is runs shapes x b b.named b.map) (maps_named layout is runs shapes x b FileMap),
      uncut_broken c.args.id c.args.kind c.args.pages c.in-Err.ensures.beside x,
    )

pub returns-in-Err-clause-fails : goal.returns-in-Err-clause-fails
returns-in-Err-clause-fails g c =
    let layout = (view_of c.args.filer.now).layout in
    let old = (view_of c.args.filer.now).disk in
    let pool = (view_of c.args.filer.now).slots in
    create_fails layout c.args.id (IsNewPage c.args.pages) (view_of c.args.filer.now) (view_of c.cut.new.self) c.in-Err.halt
    (create_of_cut layout (accepted c.args.filer.now) c.args.id (makes_nothing no_page old pool) nothing_after (IsNewPage c.args.pages) (view_of c.cut.new.self).disk (view_of c.cut.new.self).slots c.in-Err.halt c.in-Err.ensures.begun c.in-Err.ensures.cause)
    (so_of_cut (fits (swapper_of c.args.filer.now) (search rules)) c.cut.ensures.beside.goes.makes c.in-Err.halt c.in-Err.ensures.cause)

pub returns-in-Err-clause-accounts : goal.returns-in-Err-clause-accounts
returns-in-Err-clause-accounts g c = λ o named h may none.
    cut_reasons h c.cut.ensures.beside.goes.makes c.in-Err.halt c.in-Err.ensures.cause (c.in-Err.ensures.right h.memory named h.stands h.map)

pub returns-in-Err-clause-writes : goal.returns-in-Err-clause-writes
returns-in-Err-clause-writes g c = uncut_stops c.args.id c.args.kind c.args.pages c.in-Err.ensures.beside

pub returns-in-Err-clause-stays : goal.returns-in-Err-clause-stays
returns-in-Err-clause-stays g c = record { root = made_some_root c.args.id c.requires.of_file (returns-in-Err-clause-writes g c); layout = c.in-Err.ensures.beside.layout }

-- ---- Leader and pages are made.

pub returns-in-Err-make_file-clause-created : goal.returns-in-Err-make_file-clause-created
returns-in-Err-make_file-clause-created g c = λ tables x shapes spaces may.
    let layout = (view_of c.args.filer.now).layout in
    let is = (accepted c.args.filer.now) in
    let kept = c.args.filer.now.runs in
    let b = may.books.booked in
    let high = above_reserved c.args.id c.requires.of_file in
    let at = (goal.at.returns-in-Err-make_file-clause-created g c).After-frames_of in
    let cut = c.in-Ok.ensures.cut x b.named may.books.stands (map_is layout is (runs_of layout.sectors kept) shapes x b b.named b.map) in
    let now = may_create_cut layout is kept shapes spaces x _ _ c.args.id c.args.pages high may _ _ _ c.in-Ok.ensures.beside c.cut.new.self.runs cut (c.in-Ok.ensures.runs layout.sectors) (formed g at) in
    let ended = (rw (c.frames_of.ensures.same, c.in-Ok.ensures.beside.layout) at c.in-Err-make_file.ensures.made) tables cut.memory shapes spaces now in (
      ended.0,
      broken_after layout is kept shapes spaces x _ _ c.args.id c.args.pages high may _ _ _ c.in-Ok.ensures.beside c.cut.new.self.runs cut (c.in-Ok.ensures.runs layout.sectors) (formed g at) c.args.kind _ _ ended.1,
    )

pub returns-in-Err-make_file-clause-fails : goal.returns-in-Err-make_file-clause-fails
returns-in-Err-make_file-clause-fails g c =
    let layout = (view_of c.args.filer.now).layout in
    let old = (view_of c.args.filer.now).disk in
    let pool = (view_of c.args.filer.now).slots in
    create_fails layout c.args.id (IsNewPage c.args.pages) (view_of c.args.filer.now) (view_of c.make_file.new.filer) c.in-Err-make_file.halt
    (create_of_make layout (accepted c.args.filer.now) c.args.id (makes_nothing no_page old pool) nothing_after (IsNewPage c.args.pages) c.in-Ok.ensures.beside c.in-Ok.ensures.cut every_page
    (view_of c.make_file.new.filer).disk (view_of c.make_file.new.filer).slots c.in-Err-make_file.halt
    (rw (c.frames_of.ensures.same, c.in-Ok.ensures.beside.layout) at c.in-Err-make_file.ensures.fails.cause))
    c.in-Err-make_file.ensures.fails.evidence_seen

pub returns-in-Err-make_file-clause-accounts : goal.returns-in-Err-make_file-clause-accounts
returns-in-Err-make_file-clause-accounts g c = λ o named h may none.
    let at = (goal.at.returns-in-Err-make_file-clause-accounts g c).After-frames_of in
    (rw (c.frames_of.ensures.same, c.in-Ok.ensures.beside.layout) at c.in-Err-make_file.ensures.accounts) o (without_from named c.args.id 0) (rw c.in-Ok.ensures.beside.layout at (cut_keeps g at o named h none)) may (none_left named c.args.id)

pub returns-in-Err-make_file-clause-writes : goal.returns-in-Err-make_file-clause-writes
returns-in-Err-make_file-clause-writes g c = cut_stops c.args.id c.args.kind c.args.pages c.in-Ok.ensures.beside (rw c.frames_of.ensures.same at c.in-Err-make_file.ensures.writes)

pub returns-in-Err-make_file-clause-stays : goal.returns-in-Err-make_file-clause-stays
returns-in-Err-make_file-clause-stays g c = record { root = made_some_root c.args.id c.requires.of_file (returns-in-Err-make_file-clause-writes g c); layout = (rw c.frames_of.ensures.same at c.make_file.ensures.stays.layout) ∙ c.in-Ok.ensures.beside.layout }

-- ---- All is made.

pub returns-clause-created : goal.returns-clause-created
returns-clause-created g c = λ tables x shapes spaces may.
    let layout = (view_of c.args.filer.now).layout in
    let is = (accepted c.args.filer.now) in
    let kept = c.args.filer.now.runs in
    let b = may.books.booked in
    let high = above_reserved c.args.id c.requires.of_file in
    let at = (goal.at.returns-clause-created g c).After-frames_of in
    let cut = c.in-Ok.ensures.cut x b.named may.books.stands (map_is layout is (runs_of layout.sectors kept) shapes x b b.named b.map) in
    let now = may_create_cut layout is kept shapes spaces x _ _ c.args.id c.args.pages high may _ _ _ c.in-Ok.ensures.beside c.cut.new.self.runs cut (c.in-Ok.ensures.runs layout.sectors) (formed g at) in
    let made = (rw (c.frames_of.ensures.same, c.in-Ok.ensures.beside.layout) at c.in-Ok-make_file.ensures.made) tables cut.memory shapes spaces now in
    created_after layout is kept shapes spaces x _ _ c.args.id c.args.pages high may _ _ _ c.in-Ok.ensures.beside c.cut.new.self.runs cut (c.in-Ok.ensures.runs layout.sectors) (formed g at) c.args.kind _ _ _ made

pub returns-clause-accounts : goal.returns-clause-accounts
returns-clause-accounts g c = λ o named h may none.
    let at = (goal.at.returns-clause-accounts g c).After-frames_of in
    let client : 16 ≤ c.args.id = above_reserved c.args.id c.requires.of_file in
    let later = (rw c.frames_of.ensures.same at c.in-Ok-make_file.ensures.accounts) o (without_from named c.args.id 0) (cut_keeps g at o named h none) may (none_left named c.args.id) in
    (later.0, later.1, λ all. later.2 (tables_left named c.args.id 0 client all))

pub returns-clause-writes : goal.returns-clause-writes
returns-clause-writes g c = cut_makes c.args.id c.args.kind c.args.pages c.in-Ok.ensures.beside (rw c.frames_of.ensures.same at c.in-Ok-make_file.ensures.writes)

pub returns-clause-stays : goal.returns-clause-stays
returns-clause-stays g c = record { root = made_root c.args.id c.requires.of_file (returns-clause-writes g c); layout = (rw c.frames_of.ensures.same at c.make_file.ensures.stays.layout) ∙ c.in-Ok.ensures.beside.layout }
