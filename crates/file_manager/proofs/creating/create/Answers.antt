use Rattle.std.proofs.Common.{◌≡◌, ◌∙◌, subst, arith, sym, rules, inl, ◌<◌, ◌≤◌}
use Rattle.std.specs.Prelude.{List, slice_set}
use Rattle.labelled_disk.specs.Sectors.{Sector, AreSectors}
use Rattle.swapper_kernel.specs.FormLaws.{memory_in_form}
use Rattle.swapper_kernel.specs.Stands.{Stands, labels_of}
use Rattle.flat_machine.specs.declared.space.Space.{Space}
use Rattle.session_words.specs.Parts.{Shapes}
use Rattle.session_words.proofs.FoundLemmas.{above_reserved}
use Rattle.volume_root.specs.RootPage.{root_bytes}
use Rattle.labelled_disk.specs.Label.{root_label}
use Rattle.file_manager.specs.Creating.{counted, next_id}
use Rattle.file_manager.specs.Making.{MayCreate}
use Rattle.file_manager.proofs.CreateBroken.{root_broken, map_broken, file_broken}
use Rattle.file_manager.proofs.NewBooks.{labels_cut, map_rooted, named_rooted, may_cut}
use Rattle.file_manager.proofs.NewFile.{created_as, root_stops, map_stop, file_stops, new_made}
use Rattle.file_manager.proofs.RootForm.{next_is_file, counted_valid, counted_has}
use Rattle.file_manager.proofs.creating.create.Given as given
use Rattle.file_manager.proofs.creating.create.Goals.{After-frames_of}
use Rattle.filer_kernel.specs.EvidenceLaws.{fits, so_of_cut}
use Rattle.file_manager.proofs.SoLemmas.{fault_shows}
use Rattle.file_manager.proofs.CreateStops.{create_of_cut, create_of_make, root_after}
use Rattle.labelled_disk.specs.declared.evidence.Halt.{Halt}
use Rattle.file_manager.specs.Grounds.{CreateHalts, IsNewPage}
use Rattle.file_manager.specs.Taking.{every_page}
use Rattle.file_manager.proofs.RootCalls.{created_root, created_some_root}
use Rattle.file_map.specs.FileMap.{without_from}
use Rattle.file_manager.proofs.KeepSteps.{keeps_at}
use Rattle.file_manager.proofs.ReasonCauses.{cut_reasons}
use Rattle.file_manager.specs.Reasons.{giving}
use Rattle.file_manager.specs.RetoldLaws.{giving_more, giving_shows}
use Rattle.file_manager.specs.KeepLaws.{client_untabled}
use Rattle.file_manager.specs.TabledLaws.{client_leaves}
use Rattle.file_manager.proofs.RootKeeps.{none_left, root_releases, whole_cut}
use Rattle.file_manager.proofs.KeepCut.{tables_left}
use Rattle.file_manager.proofs.creating.create.Goals as goal
use Rattle.filer_kernel.specs.View.{accepted, disk_of, swapper_of, view_of}

pub returns-in-Err-clause-created : goal.returns-in-Err-clause-created
returns-in-Err-clause-created g c = λ x shapes spaces may. (c.in-Err.ensures.fault.0, rw c.in-Err.ensures.stays.frames (root_broken c.args.volume.now.root c.args.kind c.args.pages x c.in-Err.ensures.writes))

pub returns-in-Err-clause-writes : goal.returns-in-Err-clause-writes
returns-in-Err-clause-writes g c = rw c.in-Err.ensures.stays.frames (root_stops c.args.volume.now.root c.args.kind c.args.pages c.in-Err.ensures.writes)

pub write_over-requires-clause-valid : goal.write_over-requires-clause-valid
write_over-requires-clause-valid g c = counted_valid (view_of c.args.filer.now).layout.sectors c.args.volume.now.root c.requires.valid

pub returns-in-Err-cut-clause-writes : goal.returns-in-Err-cut-clause-writes
returns-in-Err-cut-clause-writes g c =
    map_stop c.args.volume.now.root c.args.kind c.args.pages c.in-Ok.ensures.writes.makes (rw (c.in-Ok.ensures.stays.frames, c.in-Ok.ensures.stays.layout) at c.in-Err-cut.ensures.beside)

pub write_over-requires-clause-counter : goal.write_over-requires-clause-counter
write_over-requires-clause-counter g c = let below = c.requires.counter in omega (arith, below)

pub returns-in-Err-cut-clause-created : goal.returns-in-Err-cut-clause-created
returns-in-Err-cut-clause-created g c = λ x shapes spaces may.
    let layout = (view_of c.args.filer.now).layout in
    let is = (accepted c.args.filer.now) in
    let kept = c.args.filer.now.runs in
    let root = c.args.volume.now.root in
    let page = root_bytes (counted c.args.volume.now.root) in
    let books = may.books in
    let now = c.in-Ok.ensures.writes.memory x books.stands in
    let stands : Stands (view_of c.write_over.new.filer).disk (view_of c.args.filer.now).slots (slice_set x 0 (root_label, root_bytes (counted c.args.volume.now.root))) = subst (Stands (view_of c.write_over.new.filer).disk (view_of c.args.filer.now).slots) now.2 now.1 in (
      (rw (c.in-Ok.ensures.stays.frames, c.in-Ok.ensures.stays.layout) at c.in-Err-cut.ensures.sound) (slice_set x 0 (root_label, page)) books.booked.named stands (map_rooted layout is kept shapes spaces x _ _ books page) (named_rooted layout is kept shapes spaces x _ _ books page),
      map_broken c.args.volume.now.root c.args.kind c.args.pages x c.in-Ok.ensures.writes.makes (rw (c.in-Ok.ensures.stays.frames, c.in-Ok.ensures.stays.layout) at c.in-Err-cut.ensures.beside),
    )

-- The root was written and the file map cut: in the memory then, the file may still be made, and of the labels the root's alone is new.
after : (g : given.Over) (c : After-frames_of g) (x : List Sector) (shapes : Shapes) (spaces : List Space)
    → MayCreate (view_of c.args.filer.now).disk (view_of c.args.filer.now).slots (view_of c.args.filer.now).layout c.args.filer.now.runs shapes spaces (next_id c.args.volume.now.root) c.args.pages x
    → (y : List Sector) × (labels_of y ≡ slice_set (labels_of x) 0 root_label) × MayCreate (view_of c.cut.new.self).disk (view_of c.cut.new.self).slots (view_of c.args.filer.now).layout c.cut.new.self.runs shapes spaces (next_id c.args.volume.now.root) c.args.pages y
after g c x shapes spaces may =
    let layout = (view_of c.args.filer.now).layout in
    let is = (accepted c.args.filer.now) in
    let kept = c.args.filer.now.runs in
    let root = c.args.volume.now.root in
    let page = root_bytes (counted c.args.volume.now.root) in
    let books = may.books in
    let now = c.in-Ok.ensures.writes.memory x books.stands in
    let stands : Stands (view_of c.write_over.new.filer).disk (view_of c.args.filer.now).slots (slice_set x 0 (root_label, root_bytes (counted c.args.volume.now.root))) = subst (Stands (view_of c.write_over.new.filer).disk (view_of c.args.filer.now).slots) now.2 now.1 in
    let id : c.next_id-id.result ≡ next_id c.args.volume.now.root = c.next_id-id.ensures.next in
    let high = above_reserved (next_id root) (next_is_file root c.requires.valid.serial c.requires.counter) in
    let beside = rw (c.in-Ok.ensures.stays.frames, c.in-Ok.ensures.stays.layout) at c.in-Ok-cut.ensures.beside in
    let cut = (rw (c.in-Ok.ensures.stays.frames, c.in-Ok.ensures.stays.layout, id) at c.in-Ok-cut.ensures.cut) (slice_set x 0 (root_label, page)) books.booked.named stands (map_rooted layout is kept shapes spaces x _ _ books page) in
    let forgotten = rw (c.in-Ok.ensures.stays.runs, id) at (c.in-Ok-cut.ensures.runs layout.sectors) in
    let in_form : (y : List Sector) → Stands (view_of c.cut.new.self).disk (view_of c.cut.new.self).slots y → AreSectors y =
    λ y stood. memory_in_form _ _ y stood (g.met.D.Disk.in_form (disk_of c.cut.new.self) stood.sectors stood.revealed) c.frames_of.ensures.pages in (
      cut.memory,
      labels_cut layout is kept shapes spaces x _ _ books page (next_id root) high may.none _ _ _ _ beside c.cut.new.self.runs cut forgotten in_form,
      may_cut layout is kept shapes spaces x _ _ books page (next_id root) high may.none _ _ _ _ beside c.cut.new.self.runs cut forgotten in_form c.args.pages may,
    )

pub returns-in-Err-make_file-clause-created : goal.returns-in-Err-make_file-clause-created
returns-in-Err-make_file-clause-created g c = λ x shapes spaces may.
    let id : c.next_id-id.result ≡ next_id c.args.volume.now.root = c.next_id-id.ensures.next in
    let lay : (view_of c.cut.new.self).layout ≡ (view_of c.args.filer.now).layout = c.in-Ok-cut.ensures.beside.layout ∙ c.in-Ok.ensures.stays.layout in
    let now = after g (goal.at.returns-in-Err-make_file-clause-created g c).After-frames_of x shapes spaces may in
    let beside = rw (c.in-Ok.ensures.stays.frames, c.in-Ok.ensures.stays.layout) at c.in-Ok-cut.ensures.beside in (
      ((rw (c.frames_of.ensures.same, lay, id) at c.in-Err-make_file.ensures.made) 96 now.0 shapes spaces now.2).0,
      file_broken c.args.volume.now.root c.args.kind c.args.pages x c.in-Ok.ensures.writes.makes beside now.0 now.1 (((rw (c.frames_of.ensures.same, lay, id) at c.in-Err-make_file.ensures.made) 96 now.0 shapes spaces now.2).1),
    )

pub returns-in-Err-make_file-clause-writes : goal.returns-in-Err-make_file-clause-writes
returns-in-Err-make_file-clause-writes g c =
    let id : c.next_id-id.result ≡ next_id c.args.volume.now.root = c.next_id-id.ensures.next in
    let beside = rw (c.in-Ok.ensures.stays.frames, c.in-Ok.ensures.stays.layout) at c.in-Ok-cut.ensures.beside in
    file_stops c.args.volume.now.root c.args.kind c.args.pages c.in-Ok.ensures.writes.makes beside (rw (c.frames_of.ensures.same, id) at c.in-Err-make_file.ensures.writes)

pub returns-clause-created : goal.returns-clause-created
returns-clause-created g c = λ x shapes spaces may.
    let layout = (view_of c.args.filer.now).layout in
    let is = (accepted c.args.filer.now) in
    let kept = c.args.filer.now.runs in
    let root = c.args.volume.now.root in
    let page = root_bytes (counted c.args.volume.now.root) in
    let books = may.books in
    let now = c.in-Ok.ensures.writes.memory x books.stands in
    let stands : Stands (view_of c.write_over.new.filer).disk (view_of c.args.filer.now).slots (slice_set x 0 (root_label, root_bytes (counted c.args.volume.now.root))) = subst (Stands (view_of c.write_over.new.filer).disk (view_of c.args.filer.now).slots) now.2 now.1 in
    let id : c.next_id-id.result ≡ next_id c.args.volume.now.root = c.next_id-id.ensures.next in
    let high = above_reserved (next_id root) (next_is_file root c.requires.valid.serial c.requires.counter) in
    let beside = rw (c.in-Ok.ensures.stays.frames, c.in-Ok.ensures.stays.layout) at c.in-Ok-cut.ensures.beside in
    let cut = (rw (c.in-Ok.ensures.stays.frames, c.in-Ok.ensures.stays.layout, id) at c.in-Ok-cut.ensures.cut) (slice_set x 0 (root_label, page)) books.booked.named stands (map_rooted layout is kept shapes spaces x _ _ books page) in
    let forgotten = rw (c.in-Ok.ensures.stays.runs, id) at (c.in-Ok-cut.ensures.runs layout.sectors) in
    let lay : (view_of c.cut.new.self).layout ≡ layout = c.in-Ok-cut.ensures.beside.layout ∙ c.in-Ok.ensures.stays.layout in
    let then_may = may_cut layout is kept shapes spaces x _ _ books page (next_id root) high may.none _ _ _ _ beside c.cut.new.self.runs cut forgotten
    (λ y stood. memory_in_form _ _ y stood (g.met.D.Disk.in_form (disk_of c.cut.new.self) stood.sectors stood.revealed) c.frames_of.ensures.pages) c.args.pages may in
    let made = (rw (c.frames_of.ensures.same, lay, id) at c.in-Ok-make_file.ensures.made) 96 cut.memory shapes spaces then_may in
    created_as layout is kept shapes spaces x _ _ books root high may.none _ c.in-Ok.ensures.writes _ _ _ beside c.cut.new.self.runs cut forgotten
    (λ y stood. memory_in_form _ _ y stood (g.met.D.Disk.in_form (disk_of c.cut.new.self) stood.sectors stood.revealed) c.frames_of.ensures.pages)
    (counted_has layout.sectors root c.requires.valid c.next_id-id.ensures.serial c.requires.counter) c.args.kind c.args.pages _ _ _ made

pub returns-clause-writes : goal.returns-clause-writes
returns-clause-writes g c =
    let id : c.next_id-id.result ≡ next_id c.args.volume.now.root = c.next_id-id.ensures.next in
    let beside = rw (c.in-Ok.ensures.stays.frames, c.in-Ok.ensures.stays.layout) at c.in-Ok-cut.ensures.beside in
    new_made c.args.volume.now.root c.args.kind c.args.pages c.in-Ok.ensures.writes.makes beside (rw (c.frames_of.ensures.same, id) at c.in-Ok-make_file.ensures.writes)

pub returns-in-Err-clause-fails : goal.returns-in-Err-clause-fails
returns-in-Err-clause-fails g c = record {
  cause = subst (λ (e : Halt). CreateHalts (view_of c.args.filer.now).layout (next_id c.args.volume.now.root) (IsNewPage c.args.pages) (view_of c.args.filer.now).disk (view_of c.args.filer.now).slots (view_of c.write_over.new.filer).disk (view_of c.write_over.new.filer).slots e) (sym c.in-Err.ensures.fault.0) c.in-Err.ensures.fault.1;
  counted = search rules;
  evidence_seen = fault_shows (view_of c.write_over.new.filer).disk c.in-Err.halt c.in-Err.ensures.fault.0;
}

pub returns-in-Err-cut-clause-fails : goal.returns-in-Err-cut-clause-fails
returns-in-Err-cut-clause-fails g c = record {
  cause =
      let layout = (view_of c.args.filer.now).layout in
      let root = c.args.volume.now.root in
      let id : c.next_id-id.result ≡ next_id root = c.next_id-id.ensures.next in
      let begun = rw (c.in-Ok.ensures.stays.frames, c.in-Ok.ensures.stays.layout, id) at c.in-Err-cut.ensures.begun in
      let why = rw (c.in-Ok.ensures.stays.frames, c.in-Ok.ensures.stays.layout) at c.in-Err-cut.ensures.cause in
      create_of_cut layout (accepted c.args.filer.now) (next_id root) c.in-Ok.ensures.writes.makes (root_after (counted root) c.in-Ok.ensures.writes) (IsNewPage c.args.pages) (view_of c.cut.new.self).disk (view_of c.cut.new.self).slots c.in-Err-cut.halt begun why;
  counted = search rules;
  evidence_seen = so_of_cut (fits (swapper_of c.write_over.new.filer) (search rules)) c.cut.ensures.beside.goes.makes c.in-Err-cut.halt c.in-Err-cut.ensures.cause;
}

pub returns-in-Err-make_file-clause-fails : goal.returns-in-Err-make_file-clause-fails
returns-in-Err-make_file-clause-fails g c = record {
  cause =
      let layout = (view_of c.args.filer.now).layout in
      let root = c.args.volume.now.root in
      let id : c.next_id-id.result ≡ next_id root = c.next_id-id.ensures.next in
      let lay : (view_of c.cut.new.self).layout ≡ layout = c.in-Ok-cut.ensures.beside.layout ∙ c.in-Ok.ensures.stays.layout in
      let beside = rw (c.in-Ok.ensures.stays.frames, c.in-Ok.ensures.stays.layout) at c.in-Ok-cut.ensures.beside in
      let cut = rw (c.in-Ok.ensures.stays.frames, c.in-Ok.ensures.stays.layout, id) at c.in-Ok-cut.ensures.cut in
      create_of_make layout (accepted c.args.filer.now) (next_id root) c.in-Ok.ensures.writes.makes (root_after (counted root) c.in-Ok.ensures.writes) (IsNewPage c.args.pages) beside cut every_page (view_of c.make_file.new.filer).disk (view_of c.make_file.new.filer).slots c.in-Err-make_file.halt (rw (c.frames_of.ensures.same, lay, id) at c.in-Err-make_file.ensures.fails.cause);
  counted = search rules;
  evidence_seen = search rules;
}

pub returns-in-Err-clause-stays : goal.returns-in-Err-clause-stays
returns-in-Err-clause-stays g c = record {
  root = created_some_root c.args.volume.now.root c.next_id-id.ensures.serial c.requires.valid.serial c.requires.counter (view_of c.args.filer.now).layout (accepted c.args.filer.now) (λ d revealed. g.met.D.Disk.whole (disk_of c.args.filer.now) d revealed ∙ c.requires.size) c.args.kind c.args.pages (returns-in-Err-clause-writes g c);
  layout = search rules;
}

pub returns-in-Err-cut-clause-stays : goal.returns-in-Err-cut-clause-stays
returns-in-Err-cut-clause-stays g c = record {
  root = created_some_root c.args.volume.now.root c.next_id-id.ensures.serial c.requires.valid.serial c.requires.counter (view_of c.args.filer.now).layout (accepted c.args.filer.now) (λ d revealed. g.met.D.Disk.whole (disk_of c.args.filer.now) d revealed ∙ c.requires.size) c.args.kind c.args.pages (returns-in-Err-cut-clause-writes g c);
  layout = search rules;
}

pub returns-in-Err-make_file-clause-stays : goal.returns-in-Err-make_file-clause-stays
returns-in-Err-make_file-clause-stays g c = record {
  root = created_some_root c.args.volume.now.root c.next_id-id.ensures.serial c.requires.valid.serial c.requires.counter (view_of c.args.filer.now).layout (accepted c.args.filer.now) (λ d revealed. g.met.D.Disk.whole (disk_of c.args.filer.now) d revealed ∙ c.requires.size) c.args.kind c.args.pages (returns-in-Err-make_file-clause-writes g c);
  layout = search rules;
}

pub returns-clause-stays : goal.returns-clause-stays
returns-clause-stays g c = record {
  root = created_root c.args.volume.now.root c.next_id-id.ensures.serial c.requires.valid.serial c.requires.counter (view_of c.args.filer.now).layout (accepted c.args.filer.now) (λ d revealed. g.met.D.Disk.whole (disk_of c.args.filer.now) d revealed ∙ c.requires.size) c.args.kind c.args.pages (returns-clause-writes g c);
  layout = search rules;
}

pub returns-in-Err-clause-accounts : goal.returns-in-Err-clause-accounts
returns-in-Err-clause-accounts g c = λ o named h not_older. c.in-Err.ensures.reasons o named h

pub returns-in-Err-cut-clause-accounts : goal.returns-in-Err-cut-clause-accounts
returns-in-Err-cut-clause-accounts g c = λ o named h not_older.
    let new = next_id (counted c.args.volume.now.root) in
    let next = not_older.next in
    let rooted = c.in-Ok.ensures.keeps_to (giving o new) named (giving_more new (omega (arith, next)) h) (omega arith) in
    rw c.in-Ok.ensures.stays.layout at
    (giving_shows o new (view_of c.write_over.new.filer).layout (view_of c.cut.new.self).disk c.in-Err-cut.halt
    (cut_reasons rooted c.cut.ensures.beside.goes.makes c.in-Err-cut.halt c.in-Err-cut.ensures.cause (c.in-Err-cut.ensures.right rooted.memory named rooted.stands rooted.map)))

pub returns-in-Err-make_file-clause-accounts : goal.returns-in-Err-make_file-clause-accounts
returns-in-Err-make_file-clause-accounts g c = λ o named h not_older.
    let root = c.args.volume.now.root in
    let new = next_id (counted c.args.volume.now.root) in
    let next = not_older.next in
    let rooted = c.in-Ok.ensures.keeps_to (giving o new) named (giving_more new (omega (arith, next)) h) (omega arith) in
    let lay : (view_of c.cut.new.self).layout ≡ (view_of c.args.filer.now).layout = c.in-Ok-cut.ensures.beside.layout ∙ c.in-Ok.ensures.stays.layout in
    let id = c.next_id-id.result in
    let given_out : id < new = let of = c.next_id-id.ensures.next in omega (arith, of) in
    let client : 16 ≤ id = let of = c.next_id-id.ensures.next in let serial = c.requires.valid.serial in omega (arith, of, serial) in
    let cut = keeps_at c.cut.new.self.runs c.in-Ok-cut.ensures.beside.layout (whole_cut rooted c.in-Ok-cut.ensures.beside id (c.in-Ok-cut.ensures.runs (view_of c.write_over.new.filer).layout.sectors)
    (λ home from may same was. root_releases root (accepted c.args.filer.now) (counted_valid (view_of c.args.filer.now).layout.sectors root c.requires.valid) c.next_id-id.ensures.serial c.requires.counter h not_older c.in-Ok.ensures.writes.makes home (rw c.in-Ok.ensures.stays.layout at from) may (same ∙ c.next_id-id.ensures.next))
    (accepted c.write_over.new.filer) (client_leaves (giving o new) id client) (client_untabled id client) c.in-Ok-cut.ensures.cut) in
    giving_shows o new (view_of c.args.filer.now).layout (view_of c.make_file.new.filer).disk c.in-Err-make_file.halt
    ((rw (c.frames_of.ensures.same, lay) at c.in-Err-make_file.ensures.accounts) (giving o new) (without_from named id 0) (rw lay at cut) (λ many. inl given_out) (none_left named id))

pub returns-clause-accounts : goal.returns-clause-accounts
returns-clause-accounts g c = λ o named h not_older.
    let root = c.args.volume.now.root in
    let new = next_id (counted c.args.volume.now.root) in
    let next = not_older.next in
    let rooted = c.in-Ok.ensures.keeps_to (giving o new) named (giving_more new (omega (arith, next)) h) (omega arith) in
    let id = c.next_id-id.result in
    let given_out : id < new = let of = c.next_id-id.ensures.next in omega (arith, of) in
    let client : 16 ≤ id = let of = c.next_id-id.ensures.next in let serial = c.requires.valid.serial in omega (arith, of, serial) in
    let cut = keeps_at c.cut.new.self.runs c.in-Ok-cut.ensures.beside.layout (whole_cut rooted c.in-Ok-cut.ensures.beside id (c.in-Ok-cut.ensures.runs (view_of c.write_over.new.filer).layout.sectors)
    (λ home from may same was. root_releases root (accepted c.args.filer.now) (counted_valid (view_of c.args.filer.now).layout.sectors root c.requires.valid) c.next_id-id.ensures.serial c.requires.counter h not_older c.in-Ok.ensures.writes.makes home (rw c.in-Ok.ensures.stays.layout at from) may (same ∙ c.next_id-id.ensures.next))
    (accepted c.write_over.new.filer) (client_leaves (giving o new) id client) (client_untabled id client) c.in-Ok-cut.ensures.cut) in
    let later = (rw c.frames_of.ensures.same at c.in-Ok-make_file.ensures.accounts) (giving o new) (without_from named id 0) cut (λ many. inl given_out) (none_left named id) in
    (later.0, later.1, λ all. later.2 (tables_left named id 0 client all))
