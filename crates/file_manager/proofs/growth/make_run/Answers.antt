use Rattle.std.proofs.Common.{◌≡◌, ℕ, ◌+◌, ◌*◌, ◌<◌, ◌≤◌, [], ◌++◌, sym, ◌∙◌, subst, refl, arith, rules}
use Rattle.std.specs.Prelude.{replicate}
use Rattle.labelled_disk.specs.declared.layout.Layout.{Layout}
use Rattle.file_map.specs.Run.{IsRun}
use Rattle.swapper_kernel.specs.declared.manager.Manager.TheVariants.{AllocationMap}
use Rattle.swapper_kernel.specs.FormLaws.{memory_in_form}
use Rattle.filer_kernel.specs.Cached.{runs_of}
use Rattle.session_words.specs.Parts.{is_marked}
use Rattle.file_manager.proofs.RowLemmas.{row_run}
use Rattle.file_manager.proofs.RunStages.{one_free, marks_shown, bits_shown, maps_named, new_run, named_once, named_marked, room_left}
use Rattle.file_manager.proofs.RunLeads.{above_maps, fewer_of_file, map_makes, added_makes, stopped_labels, stopped_after, run_in_form, none_over, ones_free, labelled, map_then, named_then, run_leads, row_was_free, some_labelled}
use Rattle.file_manager.proofs.GrowBroken.{none_grew, labels_grew, all_grew}
use Rattle.file_manager.proofs.Faults.{counted, counted_then}
use Rattle.filer_kernel.specs.EvidenceLaws.{fits, so_of_add}
use Rattle.file_manager.proofs.MadeRun.{maps_come, bytes_revealed, made_run}
use Rattle.file_manager.proofs.MadeRun.{labelled as labelled_so}
use Rattle.file_manager.proofs.MakeStops.{labels_there, take_halts, label_halts, added_halts}
use Rattle.swapper_kernel.specs.HaltLaws.{brings_then}
use Rattle.swapper_kernel.specs.Homes.{Brings}
use Rattle.frame_pool.specs.Frames.{Slots}
use Rattle.swapper_kernel.specs.GoesLaws.{makes_then}
use Rattle.file_manager.specs.Grounds.{IsMapsHome}
use Rattle.file_manager.specs.KeepLaws.{keeps_as}
use Rattle.file_manager.proofs.MadeReasons.{label_reasons_taken, run_keeps, add_reasons, few_none}
use Rattle.file_manager.proofs.TabledRun.{run_tables, run_within, zeros_more}
use Rattle.file_manager.proofs.ClearedRun.{run_cleared, run_costs}
use Rattle.file_manager.specs.Costs.{label_cost}
use Rattle.label_calls.specs.ClearedLaws.{later_after_sync, quiet_after}
use Rattle.file_manager.proofs.growth.make_run.Goals as goal
use Rattle.filer_kernel.specs.View.{accepted, disk_of, swapper_of, view_of}

pub returns-in-Err-clause-made : goal.returns-in-Err-clause-made
returns-in-Err-clause-made g c = λ tables x shapes spaces books hidden unowned some.
    let layout = (view_of c.args.filer.now).layout in
    let is = (accepted c.args.filer.now) in
    let runs = runs_of layout.sectors c.args.filer.now.runs in
    let one = one_free layout is runs shapes x books.booked some in
    c.in-Err.ensures.sound x (marks_shown layout is runs shapes x books.booked) one.0 books.stands (bits_shown layout is runs shapes x books.booked) (maps_named layout is runs shapes x books.booked AllocationMap) one.1 one.2 one.3

pub returns-in-Err-clause-writes : goal.returns-in-Err-clause-writes
returns-in-Err-clause-writes g c = record { sectors = []; few = omega arith; count = 0; makes = map_makes c.in-Err.ensures.stays.kept }

pub returns-in-Err-label_run-clause-made : goal.returns-in-Err-label_run-clause-made
returns-in-Err-label_run-clause-made g c = λ tables x shapes spaces books hidden unowned some.
    let layout = (view_of c.args.filer.now).layout in
    let is = (accepted c.args.filer.now) in
    let kept = c.args.filer.now.runs in
    let runs = runs_of layout.sectors kept in
    let marks = marks_shown layout is runs shapes x books.booked in
    let bits = bits_shown layout is runs shapes x books.booked in
    let run = row_run c.args.id c.args.page c.in-Ok.taken.0 c.in-Ok.taken.1 in
    let run_free = c.in-Ok.ensures.free x marks books.stands bits in
    let taken = c.in-Ok.ensures.taken x marks books.stands bits in
    c.in-Err-label_run.ensures.sound taken.memory taken.stands
    (none_over layout is kept shapes spaces x _ _ books hidden run c.args.most _ _ _ c.in-Ok.ensures.stays.kept c.in-Ok.ensures.form run_free taken)
    (ones_free layout is kept shapes spaces x _ _ books hidden run c.args.most _ _ _ c.in-Ok.ensures.stays.kept c.in-Ok.ensures.form run_free taken)

pub returns-in-Err-label_run-clause-writes : goal.returns-in-Err-label_run-clause-writes
returns-in-Err-label_run-clause-writes g c =
    stopped_labels (record { id = c.args.id; first = c.args.page; pages = c.in-Ok.taken.1; sector = c.in-Ok.taken.0 }) c.args.kind c.in-Ok.ensures.stays.kept c.in-Err-label_run.ensures.stays.frames c.args.most c.in-Ok.ensures.form.few c.in-Err-label_run.ensures.writes

pub take_run-requires-clause-some : goal.take_run-requires-clause-some
take_run-requires-clause-some g c = c.requires.to_make.pages.0

pub label_run-requires-clause-numbers : goal.label_run-requires-clause-numbers
label_run-requires-clause-numbers g c =
    let fits = c.requires.to_make.pages.1 in
    let few = c.in-Ok.ensures.form.few in
    omega (arith, fits, few)

pub label_run-requires-clause-of_file : goal.label_run-requires-clause-of_file
label_run-requires-clause-of_file g c = fewer_of_file c.args.id c.args.kind c.args.page c.args.most c.in-Ok.taken.1 c.in-Ok.ensures.form.few c.requires.to_make.of_file

pub add-requires-clause-form : goal.add-requires-clause-form
add-requires-clause-form g c =
    let lay = c.in-Ok-label_run.ensures.stays.layout ∙ c.in-Ok.ensures.stays.kept.layout in
    subst (λ (l : Layout). IsRun l.sectors (record { id = c.args.id; first = c.args.page; pages = c.in-Ok.taken.1; sector = c.in-Ok.taken.0 })) (sym lay)
    (run_in_form (view_of c.args.filer.now).layout c.args.id c.args.page c.args.most c.in-Ok.taken (accepted c.args.filer.now) c.in-Ok.ensures.form (above_maps c.args.id c.args.kind c.args.page c.args.most c.requires.to_make.of_file) c.ranges.id.fits c.requires.to_make.pages.1)

pub returns-in-Err-add-clause-made : goal.returns-in-Err-add-clause-made
returns-in-Err-add-clause-made g c = λ tables x shapes spaces books hidden unowned some.
    let layout = (view_of c.args.filer.now).layout in
    let is = (accepted c.args.filer.now) in
    let kept = c.args.filer.now.runs in
    let runs = runs_of layout.sectors kept in
    let marks = marks_shown layout is runs shapes x books.booked in
    let bits = bits_shown layout is runs shapes x books.booked in
    let run = row_run c.args.id c.args.page c.in-Ok.taken.0 c.in-Ok.taken.1 in
    let run_free = c.in-Ok.ensures.free x marks books.stands bits in
    let taken = c.in-Ok.ensures.taken x marks books.stands bits in
    let frames = c.in-Ok-label_run.ensures.stays.frames in
    let lay : (view_of c.label_run.new.filer).layout ≡ layout = c.in-Ok-label_run.ensures.stays.layout ∙ c.in-Ok.ensures.stays.kept.layout in
    let made = c.in-Ok-label_run.ensures.writes in
    let mid = labelled layout is kept shapes spaces x _ _ books hidden run c.args.most _ _ _ c.in-Ok.ensures.stays.kept c.in-Ok.ensures.form run_free taken c.args.kind _ made in
    let few = c.in-Ok.ensures.form.few in
    (rw (frames, lay) at c.in-Err-add.ensures.sound) mid.0 books.booked.named (is_marked x) mid.1
    (map_then layout is kept shapes spaces x _ _ books hidden run c.args.most _ _ _ c.in-Ok.ensures.stays.kept c.in-Ok.ensures.form run_free taken c.args.kind _ made)
    (new_run layout is runs shapes x books.booked c.args.id c.args.page c.in-Ok.taken.1 c.in-Ok.taken.0 (λ p above below. unowned p above (omega (arith, below, few))))
    (named_then layout is kept shapes spaces x _ _ books hidden run c.args.most _ _ _ c.in-Ok.ensures.stays.kept c.in-Ok.ensures.form run_free taken c.args.kind _ made)
    (named_once layout is runs shapes x books.booked) (named_marked layout is runs shapes x books.booked) (room_left layout is runs shapes x books.booked some)

pub returns-in-Err-add-clause-writes : goal.returns-in-Err-add-clause-writes
returns-in-Err-add-clause-writes g c =
    stopped_after (record { id = c.args.id; first = c.args.page; pages = c.in-Ok.taken.1; sector = c.in-Ok.taken.0 }) c.args.kind c.in-Ok.ensures.stays.kept c.in-Ok-label_run.ensures.stays.frames c.args.most c.in-Ok.ensures.form.few c.in-Ok-label_run.ensures.writes c.in-Err-add.ensures.beside

pub returns-clause-made : goal.returns-clause-made
returns-clause-made g c = λ tables x shapes spaces books hidden unowned some.
    let layout = (view_of c.args.filer.now).layout in
    let is = (accepted c.args.filer.now) in
    let kept = c.args.filer.now.runs in
    let runs = runs_of layout.sectors kept in
    let marks = marks_shown layout is runs shapes x books.booked in
    let bits = bits_shown layout is runs shapes x books.booked in
    let run = row_run c.args.id c.args.page c.in-Ok.taken.0 c.in-Ok.taken.1 in
    let run_free = c.in-Ok.ensures.free x marks books.stands bits in
    let taken = c.in-Ok.ensures.taken x marks books.stands bits in
    let frames = c.in-Ok-label_run.ensures.stays.frames in
    let lay : (view_of c.label_run.new.filer).layout ≡ layout = c.in-Ok-label_run.ensures.stays.layout ∙ c.in-Ok.ensures.stays.kept.layout in
    let made = c.in-Ok-label_run.ensures.writes in
    let mid = labelled layout is kept shapes spaces x _ _ books hidden run c.args.most _ _ _ c.in-Ok.ensures.stays.kept c.in-Ok.ensures.form run_free taken c.args.kind _ made in
    let few = c.in-Ok.ensures.form.few in
    let added = (rw (frames, lay) at c.in-Ok-add.ensures.added) mid.0 books.booked.named mid.1
    (map_then layout is kept shapes spaces x _ _ books hidden run c.args.most _ _ _ c.in-Ok.ensures.stays.kept c.in-Ok.ensures.form run_free taken c.args.kind _ made)
    (new_run layout is runs shapes x books.booked c.args.id c.args.page c.in-Ok.taken.1 c.in-Ok.taken.0 (λ p above below. unowned p above (omega (arith, below, few)))) in
    rw c.frames_of.ensures.same
    (run_leads layout is kept shapes spaces x _ _ books hidden run c.args.most _ _ _ c.in-Ok.ensures.stays.kept c.in-Ok.ensures.form run_free taken c.args.kind _ made
    _ _ _ c.add.new.self.runs (c.in-Ok-add.ensures.runs ∙ c.in-Ok-label_run.ensures.stays.runs ∙ c.in-Ok.ensures.stays.runs) (rw (frames, lay) at c.in-Ok-add.ensures.beside) added
    (λ y stands. memory_in_form _ _ y stands (g.met.D.Disk.in_form (disk_of c.add.new.self) stands.sectors stands.revealed) c.frames_of.ensures.pages))

pub returns-clause-run : goal.returns-clause-run
returns-clause-run g c =
    let layout = (view_of c.args.filer.now).layout in
    let is = (accepted c.args.filer.now) in
    let run = row_run c.args.id c.args.page c.in-Ok.taken.0 c.in-Ok.taken.1 in
    let kept = c.in-Ok.ensures.stays.kept in
    let lay : (view_of c.label_run.new.filer).layout ≡ layout = c.in-Ok-label_run.ensures.stays.layout ∙ kept.layout in
    let frames = c.in-Ok-label_run.ensures.stays.frames in
    let beside = rw (frames, lay) at c.in-Ok-add.ensures.beside in
    let added = rw (frames, lay) at c.in-Ok-add.ensures.added in (
      record {
        form = run_in_form (view_of c.args.filer.now).layout c.args.id c.args.page c.args.most c.in-Ok.taken (accepted c.args.filer.now) c.in-Ok.ensures.form (above_maps c.args.id c.args.kind c.args.page c.args.most c.requires.to_make.of_file) c.ranges.id.fits c.requires.to_make.pages.1;
        same_id = refl;
        same_first = refl;
        few = c.in-Ok.ensures.form.few;
      },
      λ few m marks stands bits below. (c.in-Ok.ensures.free m marks stands bits).longest few below,
      rw c.frames_of.ensures.same (made_run is run c.args.kind c.args.most c.in-Ok.ensures.form kept c.in-Ok.ensures.taken c.in-Ok-label_run.ensures.writes beside added),
    )

pub returns-clause-writes : goal.returns-clause-writes
returns-clause-writes g c =
    rw c.frames_of.ensures.same
    (added_makes (record { id = c.args.id; first = c.args.page; pages = c.in-Ok.taken.1; sector = c.in-Ok.taken.0 }) c.args.kind c.in-Ok.ensures.stays.kept c.in-Ok-label_run.ensures.stays.frames c.in-Ok-label_run.ensures.writes c.in-Ok-add.ensures.beside)

pub returns-in-Err-clause-broken : goal.returns-in-Err-clause-broken
returns-in-Err-clause-broken g c = λ tables x shapes spaces books hidden unowned some. none_grew c.in-Err.ensures.stays.kept

pub returns-in-Err-label_run-clause-broken : goal.returns-in-Err-label_run-clause-broken
returns-in-Err-label_run-clause-broken g c = λ tables x shapes spaces books hidden unowned some.
    let layout = (view_of c.args.filer.now).layout in
    let is = (accepted c.args.filer.now) in
    let kept = c.args.filer.now.runs in
    let runs = runs_of layout.sectors kept in
    let marks = marks_shown layout is runs shapes x books.booked in
    let bits = bits_shown layout is runs shapes x books.booked in
    let run = row_run c.args.id c.args.page c.in-Ok.taken.0 c.in-Ok.taken.1 in
    let run_free = c.in-Ok.ensures.free x marks books.stands bits in
    let taken = c.in-Ok.ensures.taken x marks books.stands bits in
    labels_grew run c.args.kind c.in-Ok.ensures.stays.kept c.in-Err-label_run.ensures.stays.frames c.in-Ok.ensures.form.few
    (row_was_free layout is kept shapes spaces x _ _ books hidden run c.args.most _ _ _ c.in-Ok.ensures.stays.kept c.in-Ok.ensures.form run_free taken c.args.kind) c.in-Err-label_run.ensures.writes

pub returns-in-Err-add-clause-broken : goal.returns-in-Err-add-clause-broken
returns-in-Err-add-clause-broken g c = λ tables x shapes spaces books hidden unowned some.
    let layout = (view_of c.args.filer.now).layout in
    let is = (accepted c.args.filer.now) in
    let kept = c.args.filer.now.runs in
    let runs = runs_of layout.sectors kept in
    let marks = marks_shown layout is runs shapes x books.booked in
    let bits = bits_shown layout is runs shapes x books.booked in
    let run = row_run c.args.id c.args.page c.in-Ok.taken.0 c.in-Ok.taken.1 in
    let run_free = c.in-Ok.ensures.free x marks books.stands bits in
    let taken = c.in-Ok.ensures.taken x marks books.stands bits in
    all_grew run c.args.kind c.in-Ok.ensures.stays.kept c.in-Ok-label_run.ensures.stays.frames c.in-Ok.ensures.form.few
    (row_was_free layout is kept shapes spaces x _ _ books hidden run c.args.most _ _ _ c.in-Ok.ensures.stays.kept c.in-Ok.ensures.form run_free taken c.args.kind) c.in-Ok-label_run.ensures.writes c.in-Err-add.ensures.beside

pub returns-in-Err-label_run-clause-fails : goal.returns-in-Err-label_run-clause-fails
returns-in-Err-label_run-clause-fails g c = record {
  cause =
      let form = c.in-Ok.ensures.form in
      let pages = λ (p : ℕ). (c.args.page ≤ p) × (p < c.args.page + c.args.most) in
      label_halts c.in-Ok.ensures.stays.kept c.in-Ok.taken.0 c.in-Ok.taken.1 form.above form.inside (λ m marks stands bits. (c.in-Ok.ensures.free m marks stands bits).free) c.args.id pages pages (view_of c.label_run.new.filer).disk (view_of c.label_run.new.filer).slots c.in-Err-label_run.halt c.in-Err-label_run.ensures.fails.cause;
  counted = counted_then _ _ _ c.in-Ok.ensures.stays.kept.goes.makes.went.faults c.in-Err-label_run.ensures.fails.counted;
  evidence_seen = search rules;
}

pub returns-in-Err-add-clause-fails : goal.returns-in-Err-add-clause-fails
returns-in-Err-add-clause-fails g c =
    let layout = (view_of c.args.filer.now).layout in
    let is = (accepted c.args.filer.now) in
    let run = row_run c.args.id c.args.page c.in-Ok.taken.0 c.in-Ok.taken.1 in
    let pages = λ (p : ℕ). (c.args.page ≤ p) × (p < c.args.page + c.args.most) in
    let kept = c.in-Ok.ensures.stays.kept in
    let form = c.in-Ok.ensures.form in
    let fewer = form.few in
    let lay : (view_of c.label_run.new.filer).layout ≡ layout = c.in-Ok-label_run.ensures.stays.layout ∙ kept.layout in
    let frames = c.in-Ok-label_run.ensures.stays.frames in
    let made = c.in-Ok-label_run.ensures.writes in
    let beside = rw (frames, lay) at c.add.ensures.beside in
    let first = c.in-Ok.ensures.stays.kept.goes.makes.went.faults in
    let second = c.in-Ok-label_run.ensures.writes.makes.went.faults in
    record {
      cause = added_halts run c.args.kind pages pages form.some (λ p own. let from = own.0 in let below = own.1 in (from, omega (arith, below, fewer))) (maps_come kept) (makes_then (map_makes kept) (labels_there refl made.makes)) (added_makes run c.args.kind kept refl made beside) (labelled_so is run c.args.kind c.args.most form kept c.in-Ok.ensures.taken made) (bytes_revealed is run c.args.kind c.args.most form kept c.in-Ok.ensures.taken made) beside c.in-Err-add.halt (rw (frames, lay) at c.in-Err-add.ensures.cause) (rw (frames, lay) at c.in-Err-add.ensures.right);
      counted = counted _ _ (view_of c.label_run.new.filer).disk (view_of c.add.new.self).disk _ (omega (arith, first, second)) c.in-Err-add.ensures.cause;
      evidence_seen = so_of_add (fits (swapper_of c.label_run.new.filer) (search rules)) c.add.ensures.beside.goes.makes c.in-Err-add.halt c.in-Err-add.ensures.cause;
    }

pub returns-in-Err-clause-fails : goal.returns-in-Err-clause-fails
returns-in-Err-clause-fails g c = record {
  cause =
      let layout = (view_of c.args.filer.now).layout in
      let pages = λ (p : ℕ). (c.args.page ≤ p) × (p < c.args.page + c.args.most) in
      take_halts layout c.args.id pages pages c.args.page (let some = c.requires.to_make.pages.0 in (omega arith, omega (arith, some))) (view_of c.args.filer.now).disk (view_of c.take_run.new.filer).disk (view_of c.args.filer.now).slots (view_of c.take_run.new.filer).slots c.in-Err.halt c.in-Err.ensures.fails.cause;
  counted = search rules;
  evidence_seen = search rules;
}

pub returns-in-Err-clause-stays : goal.returns-in-Err-clause-stays
returns-in-Err-clause-stays g c = record { come = maps_come c.in-Err.ensures.stays.kept; layout = search rules; runs = search rules }

pub returns-in-Err-label_run-clause-stays : goal.returns-in-Err-label_run-clause-stays
returns-in-Err-label_run-clause-stays g c = record {
  come = subst (λ (s : Slots). Brings (IsMapsHome (view_of c.args.filer.now).layout) (view_of c.args.filer.now).slots s) (sym c.in-Err-label_run.ensures.stays.frames) (maps_come c.in-Ok.ensures.stays.kept);
  layout = search rules;
  runs = search rules;
}

pub returns-in-Err-add-clause-stays : goal.returns-in-Err-add-clause-stays
returns-in-Err-add-clause-stays g c = record {
  come =
      let layout = (view_of c.args.filer.now).layout in
      let lay : (view_of c.label_run.new.filer).layout ≡ layout = c.in-Ok-label_run.ensures.stays.layout ∙ c.in-Ok.ensures.stays.kept.layout in
      brings_then (subst (λ (s : Slots). Brings (IsMapsHome layout) (view_of c.args.filer.now).slots s) (sym c.in-Ok-label_run.ensures.stays.frames) (maps_come c.in-Ok.ensures.stays.kept)) (maps_come (rw lay at c.in-Err-add.ensures.beside));
  layout = search rules;
  runs = search rules;
}

pub returns-clause-stays : goal.returns-clause-stays
returns-clause-stays g c = record {
  come =
      let layout = (view_of c.args.filer.now).layout in
      let lay : (view_of c.label_run.new.filer).layout ≡ layout = c.in-Ok-label_run.ensures.stays.layout ∙ c.in-Ok.ensures.stays.kept.layout in
      rw c.frames_of.ensures.same (brings_then (subst (λ (s : Slots). Brings (IsMapsHome layout) (view_of c.args.filer.now).slots s) (sym c.in-Ok-label_run.ensures.stays.frames) (maps_come c.in-Ok.ensures.stays.kept)) (maps_come (rw lay at c.in-Ok-add.ensures.beside)));
  layout = search rules;
  runs = search rules;
}

pub returns-in-Err-clause-accounts : goal.returns-in-Err-clause-accounts
returns-in-Err-clause-accounts g c = λ o named h nothing. c.in-Err.ensures.reasons o named h

pub returns-in-Err-label_run-clause-accounts : goal.returns-in-Err-label_run-clause-accounts
returns-in-Err-label_run-clause-accounts g c = λ o named h nothing.
    let kept = c.in-Ok.ensures.stays.kept in
    let form = c.in-Ok.ensures.form in
    let run = row_run c.args.id c.args.page c.in-Ok.taken.0 c.in-Ok.taken.1 in
    let some = c.in-Err-label_run.ensures.writes in
    label_reasons_taken h kept run c.args.kind some form.above form.inside (λ m marks stands bits. (c.in-Ok.ensures.free m marks stands bits).free)
    (some_labelled run c.args.kind kept c.in-Err-label_run.ensures.stays.frames some)
    c.in-Err-label_run.halt c.in-Err-label_run.ensures.fails.cause

pub returns-in-Err-add-clause-accounts : goal.returns-in-Err-add-clause-accounts
returns-in-Err-add-clause-accounts g c = λ o named h nothing.
    let layout = (view_of c.args.filer.now).layout in
    let is = (accepted c.args.filer.now) in
    let run = row_run c.args.id c.args.page c.in-Ok.taken.0 c.in-Ok.taken.1 in
    let kept = c.in-Ok.ensures.stays.kept in
    let form = c.in-Ok.ensures.form in
    let lay : (view_of c.label_run.new.filer).layout ≡ layout = c.in-Ok-label_run.ensures.stays.layout ∙ kept.layout in
    let frames = c.in-Ok-label_run.ensures.stays.frames in
    let made = c.in-Ok-label_run.ensures.writes in
    let beside = rw (frames, lay) at c.add.ensures.beside in
    add_reasons h is run c.args.kind c.args.most form kept c.in-Ok.ensures.taken made beside (added_makes run c.args.kind kept refl made beside) (few_none run named c.args.most form.few nothing)
    c.in-Err-add.halt (rw (frames, lay) at c.in-Err-add.ensures.cause) (rw (frames, lay) at c.in-Err-add.ensures.right)

pub returns-clause-accounts : goal.returns-clause-accounts
returns-clause-accounts g c = λ o named h nothing may untold.
    let layout = (view_of c.args.filer.now).layout in
    let is = (accepted c.args.filer.now) in
    let run = row_run c.args.id c.args.page c.in-Ok.taken.0 c.in-Ok.taken.1 in
    let kept = c.in-Ok.ensures.stays.kept in
    let form = c.in-Ok.ensures.form in
    let lay : (view_of c.label_run.new.filer).layout ≡ layout = c.in-Ok-label_run.ensures.stays.layout ∙ kept.layout in
    let frames = c.in-Ok-label_run.ensures.stays.frames in
    let made = c.in-Ok-label_run.ensures.writes in
    let beside = rw (frames, lay) at c.in-Ok-add.ensures.beside in
    let added = rw (frames, lay) at c.in-Ok-add.ensures.added in
    rw c.frames_of.ensures.same (keeps_as (c.in-Ok-add.ensures.beside.layout ∙ lay) (c.in-Ok-add.ensures.runs ∙ c.in-Ok-label_run.ensures.stays.runs ∙ c.in-Ok.ensures.stays.runs)
    (run_keeps h is run c.args.kind c.args.most form kept c.in-Ok.ensures.taken made beside (added_makes run c.args.kind kept refl made beside) (few_none run named c.args.most form.few nothing) may untold added))

pub returns-clause-tables : goal.returns-clause-tables
returns-clause-tables g c = λ o named b tables fits long h nothing.
    let layout = (view_of c.args.filer.now).layout in
    let is = (accepted c.args.filer.now) in
    let run = row_run c.args.id c.args.page c.in-Ok.taken.0 c.in-Ok.taken.1 in
    let kept = c.in-Ok.ensures.stays.kept in
    let form = c.in-Ok.ensures.form in
    let lay : (view_of c.label_run.new.filer).layout ≡ layout = c.in-Ok-label_run.ensures.stays.layout ∙ kept.layout in
    let frames = c.in-Ok-label_run.ensures.stays.frames in
    let made = c.in-Ok-label_run.ensures.writes in
    let beside = rw (frames, lay) at c.in-Ok-add.ensures.beside in
    let added = rw (frames, lay) at c.in-Ok-add.ensures.added in
    let all = b ++ replicate (512 * run.pages) 0 in
    rw c.frames_of.ensures.same (
      all,
      (
        keeps_as (c.in-Ok-add.ensures.beside.layout ∙ lay) (c.in-Ok-add.ensures.runs ∙ c.in-Ok-label_run.ensures.stays.runs ∙ c.in-Ok.ensures.stays.runs)
            (run_tables o b h is run c.args.kind c.args.most form kept c.in-Ok.ensures.taken made beside (added_makes run c.args.kind kept refl made beside) (few_none run named c.args.most form.few nothing)
            tables (run_within c.args.page run.pages c.args.most form.few fits) long added),
        zeros_more b c.args.page run.pages long,
      ),
    )

-- ---- What is on the medium, and what it cost.

pub returns-in-Err-clause-cleared : goal.returns-in-Err-clause-cleared
returns-in-Err-clause-cleared g c = λ clear. quiet_after (map_makes c.in-Err.ensures.stays.kept)

pub returns-in-Err-label_run-clause-cleared : goal.returns-in-Err-label_run-clause-cleared
returns-in-Err-label_run-clause-cleared g c = λ clear. later_after_sync (map_makes c.in-Ok.ensures.stays.kept) c.in-Err-label_run.ensures.writes.makes (c.label_run.ensures.cleared clear)

pub returns-in-Err-add-clause-cleared : goal.returns-in-Err-add-clause-cleared
returns-in-Err-add-clause-cleared g c = λ clear. run_cleared (map_makes c.in-Ok.ensures.stays.kept) c.in-Ok-label_run.ensures.writes.makes (c.label_run.ensures.cleared clear) (map_makes c.in-Err-add.ensures.beside)

pub returns-clause-cleared : goal.returns-clause-cleared
returns-clause-cleared g c = λ clear. rw c.frames_of.ensures.same (run_cleared (map_makes c.in-Ok.ensures.stays.kept) c.in-Ok-label_run.ensures.writes.makes (c.label_run.ensures.cleared clear) (map_makes c.in-Ok-add.ensures.beside))

pub returns-in-Err-label_run-clause-cost : goal.returns-in-Err-label_run-clause-cost
returns-in-Err-label_run-clause-cost g c =
    let t = (view_of c.label_run.new.filer).disk.transfers in
    let most = run_costs (view_of c.args.filer.now).disk.transfers (view_of c.take_run.new.filer).disk.transfers t t (label_cost c.args.clears) c.in-Ok.taken.1 c.args.most (view_of c.args.filer.now).layout.vam c.in-Ok.ensures.form.few c.take_run.ensures.cost c.label_run.ensures.cost (omega arith) in
    (most.0, tt)

pub returns-in-Err-add-clause-cost : goal.returns-in-Err-add-clause-cost
returns-in-Err-add-clause-cost g c =
    let most = run_costs (view_of c.args.filer.now).disk.transfers (view_of c.take_run.new.filer).disk.transfers (view_of c.label_run.new.filer).disk.transfers (view_of c.add.new.self).disk.transfers (label_cost c.args.clears) c.in-Ok.taken.1 c.args.most (view_of c.args.filer.now).layout.vam c.in-Ok.ensures.form.few c.take_run.ensures.cost c.label_run.ensures.cost c.add.ensures.cost in
    (most.0, tt)

pub returns-clause-cost : goal.returns-clause-cost
returns-clause-cost g c =
    rw c.frames_of.ensures.same
    (run_costs (view_of c.args.filer.now).disk.transfers (view_of c.take_run.new.filer).disk.transfers (view_of c.label_run.new.filer).disk.transfers (view_of c.add.new.self).disk.transfers (label_cost c.args.clears) c.in-Ok.taken.1 c.args.most (view_of c.args.filer.now).layout.vam c.in-Ok.ensures.form.few c.take_run.ensures.cost c.label_run.ensures.cost c.add.ensures.cost)
