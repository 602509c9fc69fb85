use Rattle.std.proofs.Common.{◌≡◌, ◌<◌, ◌≤◌, ◌+◌, sym, ◌∙◌, ap, subst, arith, rules, false, true}
use Rattle.labelled_disk.specs.declared.layout.Layout.{Layout}
use Rattle.swapper_kernel.specs.declared.manager.Manager.TheVariants.{AllocationMap, FileMap}
use Rattle.swapper_kernel.specs.Maps.{IsMapHome}
use Rattle.filer_kernel.specs.declared.cached.CachedRuns.{CachedRuns}
use Rattle.filer_kernel.specs.Cached.{runs_of}
use Rattle.filer_kernel.specs.Triples.{AreOf}
use Rattle.filer_kernel.specs.PlaceLaws.{data_first}
use Rattle.file_manager.proofs.ForgottenRun.{IsPrefix, prefix}
use Rattle.file_manager.proofs.FreedRun.{map_makes, none_over, ones, labelled, named_then, run_freed, run_makes, run_stops, all_stop, map_stops}
use Rattle.file_manager.proofs.StoppedFree.{some_none, some_labels, some_run}
use Rattle.file_manager.proofs.Faults.{counted, counted_then}
use Rattle.filer_kernel.specs.EvidenceLaws.{fits, map_homes_placed, so_of_halts}
use Rattle.file_manager.proofs.RunCauses.{at_labels, at_marks, run_kept}
use Rattle.file_manager.specs.Freeing.{run_sectors}
use Rattle.file_manager.proofs.FreedSectors.{row_has, row_at}
use Rattle.file_manager.specs.Grounds.{IsUnframed, KeepsMap}
use Rattle.label_calls.specs.OwnLaws.{relabels_own, wrote_own, own_then, quiet_own}
use Rattle.file_manager.proofs.OwnSteps.{map_own, own_after, same_id}
use Rattle.file_manager.specs.KeepLaws.{keeps_as}
use Rattle.file_manager.proofs.FreedReasons.{labels_reason, released_of_run, marks_reason, marks_keep, marks_released}
use Rattle.file_manager.proofs.LackLemmas.{labels_lack_none, marks_lack_none}
use Rattle.file_manager.proofs.release.free_run.Given as given
use Rattle.label_calls.specs.SyncedLaws.{around_after, quiet_synced, synced_then, syncs_around, wrote_synced}
use Rattle.file_manager.proofs.release.free_run.Goals as goal
use Rattle.file_manager.proofs.release.free_run.Goals.{After-discard_run}
use Rattle.filer_kernel.specs.View.{accepted, swapper_of, view_of}

-- the search, and the frames that were given up
after : (g : given.Over) (c : After-discard_run g) → IsPrefix (view_of c.args.filer.now).layout c.args.id (view_of c.args.filer.now).disk (view_of c.args.filer.now).slots c.args.filer.now.runs c.in-Ok.run'
    (view_of c.discard_run.new.filer).disk (view_of c.discard_run.new.filer).slots (view_of c.discard_run.new.filer).layout c.discard_run.new.filer.runs
after g c =
    prefix (accepted c.args.filer.now) c.requires.of_file c.in-Ok.ensures.part.0.same_id c.part_of.ensures.stays.beside c.part_of.ensures.stays.same (c.part_of.ensures.keeps c.requires.of_file)
    c.in-Ok.ensures.accounts c.discard_run.ensures.forgets (ap g.D.Disk.state c.discard_run.ensures.disk) c.discard_run.ensures.stays.layout c.discard_run.ensures.stays.runs

pub returns-in-Err-clause-freed : goal.returns-in-Err-clause-freed
returns-in-Err-clause-freed g c = λ named spaces m may.
    let all = may.mapped c.args.page (omega arith) (let some = c.requires.some in omega (arith, some)) in (
      c.in-Err.ensures.sound m named all.0 may.stands may.map (may.map_labels FileMap) all.1,
      some_none named c.args.id c.args.page (c.args.page + c.args.most) (omega arith) (map_makes c.part_of.ensures.stays.beside),
    )

pub returns-in-Err-clause-writes : goal.returns-in-Err-clause-writes
returns-in-Err-clause-writes g c = map_stops c.part_of.ensures.stays.beside

pub free_labels-requires-clause-data : goal.free_labels-requires-clause-data
free_labels-requires-clause-data g c =
    let f = after g (goal.at.free_labels-requires-clause-data g c).After-discard_run in
    let first = data_first (view_of c.args.filer.now).layout (accepted c.args.filer.now) in
    let lay : (view_of c.discard_run.new.filer).layout.first ≡ (view_of c.args.filer.now).layout.first = ap (λ (l : Layout). l.first) f.same_layout in
    let from = c.in-Ok.ensures.part.0.form.from_data in
    omega (arith, first, lay, from)

pub returns-in-Err-free_labels-clause-freed : goal.returns-in-Err-free_labels-clause-freed
returns-in-Err-free_labels-clause-freed g c = λ named spaces m may.
    let f = after g (goal.at.returns-in-Err-free_labels-clause-freed g c).After-discard_run in
    let layout = (view_of c.args.filer.now).layout in
    let is = (accepted c.args.filer.now) in
    let all = (c.in-Ok.ensures.named m named may.stands may.map may.kept).0 in
    let booked = f.booked named spaces c.args.page (c.args.page + c.args.most) m may in (
      c.in-Err-free_labels.ensures.sound m booked.0 (none_over layout is named spaces c.args.id c.args.page (c.args.page + c.args.most) c.requires.of_file m _ _ c.args.filer.now.runs may c.in-Ok.run' c.in-Ok.ensures.part.0 all _ _ _ booked.1 booked.0) (ones layout is named spaces c.args.id c.args.page (c.args.page + c.args.most) c.requires.of_file m _ _ c.args.filer.now.runs may c.in-Ok.run' c.in-Ok.ensures.part.0 all _ _ _ booked.1 booked.0),
      some_labels named c.args.id c.args.page (c.args.page + c.args.most) (omega arith) f.makes _ c.in-Ok.run' c.in-Ok.ensures.part.0 all c.in-Err-free_labels.ensures.stays.frames c.in-Err-free_labels.ensures.writes,
    )

pub returns-in-Err-free_labels-clause-writes : goal.returns-in-Err-free_labels-clause-writes
returns-in-Err-free_labels-clause-writes g c =
    let f = after g (goal.at.returns-in-Err-free_labels-clause-writes g c).After-discard_run in
    run_stops c.in-Ok.run' f.makes c.in-Err-free_labels.ensures.stays.frames c.in-Err-free_labels.ensures.writes

pub give-requires-clause-data : goal.give-requires-clause-data
give-requires-clause-data g c =
    let f = after g (goal.at.give-requires-clause-data g c).After-discard_run in
    let first = data_first (view_of c.args.filer.now).layout (accepted c.args.filer.now) in
    let lay : (view_of c.free_labels.new.filer).layout.first ≡ (view_of c.args.filer.now).layout.first = ap (λ (l : Layout). l.first) (c.in-Ok-free_labels.ensures.stays.layout ∙ f.same_layout) in
    let from = c.in-Ok.ensures.part.0.form.from_data in
    omega (arith, first, lay, from)

pub returns-in-Err-give-clause-freed : goal.returns-in-Err-give-clause-freed
returns-in-Err-give-clause-freed g c = λ named spaces m may.
    let f = after g (goal.at.returns-in-Err-give-clause-freed g c).After-discard_run in
    let layout = (view_of c.args.filer.now).layout in
    let is = (accepted c.args.filer.now) in
    let all = (c.in-Ok.ensures.named m named may.stands may.map may.kept).0 in
    let booked = f.booked named spaces c.args.page (c.args.page + c.args.most) m may in
    let frames = c.in-Ok-free_labels.ensures.stays.frames in
    let lay : (view_of c.free_labels.new.filer).layout ≡ layout = c.in-Ok-free_labels.ensures.stays.layout ∙ f.same_layout in
    let made = c.in-Ok-free_labels.ensures.writes.0 in
    let mid = labelled layout is named spaces c.args.id c.args.page (c.args.page + c.args.most) c.requires.of_file m _ _ c.args.filer.now.runs may c.in-Ok.run' c.in-Ok.ensures.part.0 all _ _ _ booked.1 booked.0 _ made in (
      (rw (frames, lay) at c.in-Err-give.ensures.sound) mid.0 mid.1 (named_then layout is named spaces c.args.id c.args.page (c.args.page + c.args.most) c.requires.of_file m _ _ c.args.filer.now.runs may c.in-Ok.run' c.in-Ok.ensures.part.0 all _ _ _ booked.1 booked.0 _ made AllocationMap),
      some_run named c.args.id c.args.page (c.args.page + c.args.most) (omega arith) f.makes _ c.in-Ok.run' c.in-Ok.ensures.part.0 all c.in-Ok-free_labels.ensures.stays.frames c.in-Ok-free_labels.ensures.writes.0 c.in-Err-give.ensures.kept,
    )

pub returns-in-Err-give-clause-writes : goal.returns-in-Err-give-clause-writes
returns-in-Err-give-clause-writes g c =
    let f = after g (goal.at.returns-in-Err-give-clause-writes g c).After-discard_run in
    all_stop (run_makes c.in-Ok.run' f.makes c.in-Ok-free_labels.ensures.stays.frames c.in-Ok-free_labels.ensures.writes.0 c.in-Err-give.ensures.kept)

pub returns-clause-freed : goal.returns-clause-freed
returns-clause-freed g c = λ named spaces m may.
    let f = after g (goal.at.returns-clause-freed g c).After-discard_run in
    let layout = (view_of c.args.filer.now).layout in
    let is = (accepted c.args.filer.now) in
    let all = (c.in-Ok.ensures.named m named may.stands may.map may.kept).0 in
    let booked = f.booked named spaces c.args.page (c.args.page + c.args.most) m may in
    let frames = c.in-Ok-free_labels.ensures.stays.frames in
    let lay : (view_of c.free_labels.new.filer).layout ≡ layout = c.in-Ok-free_labels.ensures.stays.layout ∙ f.same_layout in
    let made = c.in-Ok-free_labels.ensures.writes.0 in
    let mid = labelled layout is named spaces c.args.id c.args.page (c.args.page + c.args.most) c.requires.of_file m _ _ c.args.filer.now.runs may c.in-Ok.run' c.in-Ok.ensures.part.0 all _ _ _ booked.1 booked.0 _ made in
    let kept = (c.part_of.ensures.named m named may.stands may.map may.kept).1 in
    let same_runs : c.give.new.self.runs ≡ c.part_of.new.filer.runs = c.in-Ok-give.ensures.runs ∙ c.in-Ok-free_labels.ensures.stays.runs ∙ c.discard_run.ensures.stays.runs in
    let given = rw (frames, lay) at c.in-Ok-give.ensures.given in
    run_freed layout is named spaces c.args.id c.args.page (c.args.page + c.args.most) c.requires.of_file m _ _ c.args.filer.now.runs may c.in-Ok.run' c.in-Ok.ensures.part.0 all _ _ _ booked.1 booked.0 _ made
    _ _ _ c.give.new.self.runs (subst (λ (r : CachedRuns). AreOf named (runs_of layout.sectors r)) (sym same_runs) kept) (rw (frames, lay) at c.in-Ok-give.ensures.kept)
    (λ marks bits. given mid.0 marks mid.1 bits)

pub returns-clause-writes : goal.returns-clause-writes
returns-clause-writes g c =
    let f = after g (goal.at.returns-clause-writes g c).After-discard_run in
    run_makes c.in-Ok.run' f.makes c.in-Ok-free_labels.ensures.stays.frames c.in-Ok-free_labels.ensures.writes.0 c.in-Ok-give.ensures.kept

pub returns-in-Err-free_labels-clause-fails : goal.returns-in-Err-free_labels-clause-fails
returns-in-Err-free_labels-clause-fails g c = record {
  cause =
      let f = after g (goal.at.returns-in-Err-free_labels-clause-fails g c).After-discard_run in
      let layout = (view_of c.args.filer.now).layout in
      let form = c.in-Ok.ensures.part.0 in
      let keep = f.keeps in
      at_labels (accepted c.args.filer.now) c.requires.of_file c.in-Ok.run' form.form form.same_id keep (λ p. p ≡ c.args.page) c.in-Ok.ensures.part.1 (view_of c.free_labels.new.filer).disk c.in-Err-free_labels.halt c.in-Err-free_labels.ensures.fails.cause;
  counted = let f = after g (goal.at.returns-in-Err-free_labels-clause-fails g c).After-discard_run in counted_then _ _ _ f.makes.went.faults c.in-Err-free_labels.ensures.fails.counted;
  evidence_seen = search rules;
}

pub returns-in-Err-give-clause-fails : goal.returns-in-Err-give-clause-fails
returns-in-Err-give-clause-fails g c =
    let f = after g (goal.at.returns-in-Err-give-clause-fails g c).After-discard_run in
    let layout = (view_of c.args.filer.now).layout in
    let form = c.in-Ok.ensures.part.0 in
    let keep = f.keeps in
    let frames = c.in-Ok-free_labels.ensures.stays.frames in
    let lay : (view_of c.free_labels.new.filer).layout ≡ layout = c.in-Ok-free_labels.ensures.stays.layout ∙ f.same_layout in
    let first = f.makes.went.faults in
    let second = c.in-Ok-free_labels.ensures.writes.0.makes.went.faults in
    record {
      cause = at_marks (accepted c.args.filer.now) c.requires.of_file c.in-Ok.run' form.form form.same_id keep (run_sectors c.in-Ok.run') (λ j k at. let r = row_has c.in-Ok.run'.sector c.in-Ok.run'.pages j k at in (j, r.0, r.1)) c.in-Ok-free_labels.ensures.writes.0 c.in-Ok-free_labels.ensures.writes.1 (λ p. p ≡ c.args.page) (view_of c.give.new.self).disk c.in-Err-give.halt (rw (frames, lay) at c.in-Err-give.ensures.cause);
      counted = counted _ _ (view_of c.free_labels.new.filer).disk (view_of c.give.new.self).disk _ (omega (arith, first, second)) c.in-Err-give.ensures.cause;
      evidence_seen = λ there. so_of_halts (fits (swapper_of c.free_labels.new.filer) (search rules)) c.in-Err-give.ensures.kept.goes.makes c.in-Err-give.halt _ (map_homes_placed AllocationMap _) c.in-Err-give.ensures.cause;
    }

pub returns-in-Err-clause-fails : goal.returns-in-Err-clause-fails
returns-in-Err-clause-fails g c = record { cause = search rules; counted = search rules; evidence_seen = c.in-Err.ensures.fails.evidence_seen }

pub returns-clause-stays : goal.returns-clause-stays
returns-clause-stays g c = record {
  layout = search rules;
  keeps =
      let f = after g (goal.at.returns-clause-stays g c).After-discard_run in
      let layout = (view_of c.args.filer.now).layout in
      let form = c.in-Ok.ensures.part.0 in
      let keep = f.keeps in
      let frames = c.in-Ok-free_labels.ensures.stays.frames in
      let lay : (view_of c.free_labels.new.filer).layout ≡ layout = c.in-Ok-free_labels.ensures.stays.layout ∙ f.same_layout in
      let old = (view_of c.args.filer.now).disk in
      let pool = (view_of c.args.filer.now).slots in
      let same_runs : c.give.new.self.runs ≡ c.discard_run.new.filer.runs = c.in-Ok-give.ensures.runs ∙ c.in-Ok-free_labels.ensures.stays.runs in
      subst (λ (r : CachedRuns). KeepsMap (IsUnframed pool c.args.id) layout c.args.id old pool (runs_of layout.sectors c.args.filer.now.runs) (view_of c.give.new.self).disk (view_of c.give.new.self).slots (runs_of layout.sectors r)) (sym same_runs) (run_kept (accepted c.args.filer.now) c.requires.of_file c.in-Ok.run' form.form form.same_id keep (run_sectors c.in-Ok.run') (λ j k at. let r = row_has c.in-Ok.run'.sector c.in-Ok.run'.pages j k at in (j, r.0, r.1)) c.in-Ok-free_labels.ensures.writes.0 c.in-Ok-free_labels.ensures.writes.1 (rw (frames, lay) at c.in-Ok-give.ensures.kept));
}

pub returns-in-Err-clause-labels : goal.returns-in-Err-clause-labels
returns-in-Err-clause-labels g c = record {
  own = relabels_own (map_own c.args.id c.part_of.ensures.stays.beside);
  around = syncs_around (quiet_synced true c.part_of.ensures.stays.beside.goes.makes);
}

pub returns-in-Err-free_labels-clause-labels : goal.returns-in-Err-free_labels-clause-labels
returns-in-Err-free_labels-clause-labels g c =
    let f = after g (goal.at.returns-in-Err-free_labels-clause-labels g c).After-discard_run in
    record {
      own = own_after (quiet_own c.args.id f.makes) (wrote_own c.in-Err-free_labels.ensures.writes.makes (same_id c.in-Ok.ensures.part.0.same_id c.in-Err-free_labels.ensures.labels.own));
      around = around_after (quiet_synced false f.makes) (wrote_synced c.in-Err-free_labels.ensures.writes.makes c.in-Err-free_labels.ensures.labels.around);
    }

pub returns-in-Err-give-clause-labels : goal.returns-in-Err-give-clause-labels
returns-in-Err-give-clause-labels g c =
    let f = after g (goal.at.returns-in-Err-give-clause-labels g c).After-discard_run in
    record {
      own = own_after (quiet_own c.args.id f.makes) (own_then (wrote_own c.in-Ok-free_labels.ensures.writes.0.makes (same_id c.in-Ok.ensures.part.0.same_id c.in-Ok-free_labels.ensures.labels.own)) (map_own c.args.id c.in-Err-give.ensures.kept));
      around = around_after (quiet_synced false f.makes) (synced_then (wrote_synced c.in-Ok-free_labels.ensures.writes.0.makes c.in-Ok-free_labels.ensures.labels.around) (quiet_synced true c.in-Err-give.ensures.kept.goes.makes));
    }

pub returns-clause-labels : goal.returns-clause-labels
returns-clause-labels g c =
    let f = after g (goal.at.returns-clause-labels g c).After-discard_run in
    record {
      own = own_after (quiet_own c.args.id f.makes) (own_then (wrote_own c.in-Ok-free_labels.ensures.writes.0.makes (same_id c.in-Ok.ensures.part.0.same_id c.in-Ok-free_labels.ensures.labels.own)) (map_own c.args.id c.in-Ok-give.ensures.kept));
      around = around_after (quiet_synced false f.makes) (synced_then (wrote_synced c.in-Ok-free_labels.ensures.writes.0.makes c.in-Ok-free_labels.ensures.labels.around) (quiet_synced false c.in-Ok-give.ensures.kept.goes.makes));
    }

pub returns-in-Err-free_labels-clause-accounts : goal.returns-in-Err-free_labels-clause-accounts
returns-in-Err-free_labels-clause-accounts g c = λ o named h. (
  λ never_blames may.
      let f = after g (goal.at.returns-in-Err-free_labels-clause-accounts g c).After-discard_run in
      let all = (c.in-Ok.ensures.named h.memory named h.stands h.map h.kept).0 in
      labels_reason (f.keeps_to o named h never_blames) (accepted c.args.filer.now) c.in-Ok.run' c.in-Ok.ensures.part.0.form all c.in-Err-free_labels.ensures.writes.makes c.in-Err-free_labels.halt c.in-Err-free_labels.ensures.fails.cause,
  λ sector is.
      let run = c.in-Ok.run' in
      let old = (view_of c.discard_run.new.filer).disk in
      labels_lack_none run.sector run.pages (λ k. record { id = run.id; page = run.first + k }) old old (view_of c.free_labels.new.filer).disk c.in-Err-free_labels.halt c.in-Err-free_labels.ensures.fails.cause,
)

pub returns-in-Err-give-clause-accounts : goal.returns-in-Err-give-clause-accounts
returns-in-Err-give-clause-accounts g c = λ o named h. (
  λ never_blames may.
      let f = after g (goal.at.returns-in-Err-give-clause-accounts g c).After-discard_run in
      let layout = (view_of c.args.filer.now).layout in
      let frames = c.in-Ok-free_labels.ensures.stays.frames in
      let lay : (view_of c.free_labels.new.filer).layout ≡ layout = c.in-Ok-free_labels.ensures.stays.layout ∙ f.same_layout in
      let beside = rw (frames, lay) at c.in-Err-give.ensures.kept in
      marks_reason (f.keeps_to o named h never_blames) (accepted c.args.filer.now) c.in-Ok.run' c.in-Ok.ensures.part.0.form (run_sectors c.in-Ok.run') (λ j k at. let r = row_has c.in-Ok.run'.sector c.in-Ok.run'.pages j k at in (j, r.0, r.1)) (λ i below. (i, row_at c.in-Ok.run'.sector c.in-Ok.run'.pages i below)) c.in-Ok-free_labels.ensures.writes.0 c.in-Ok-free_labels.ensures.writes.1 f.gone (λ same. never_blames (sym c.in-Ok.ensures.part.0.same_id ∙ same)) beside.goes.makes c.in-Err-give.halt (rw (frames, lay) at c.in-Err-give.ensures.cause),
  λ sector is. let old = c.free_labels.new.filer.swapper in marks_lack_none (IsMapHome AllocationMap old.layout) (g.D.Disk.state old.disk) old.pool (view_of c.give.new.self).disk c.in-Err-give.halt c.in-Err-give.ensures.cause,
)

pub returns-clause-accounts : goal.returns-clause-accounts
returns-clause-accounts g c = λ o named h never_blames.
    let f = after g (goal.at.returns-clause-accounts g c).After-discard_run in
    let layout = (view_of c.args.filer.now).layout in
    let frames = c.in-Ok-free_labels.ensures.stays.frames in
    let lay : (view_of c.free_labels.new.filer).layout ≡ layout = c.in-Ok-free_labels.ensures.stays.layout ∙ f.same_layout in
    let beside = rw (frames, lay) at c.in-Ok-give.ensures.kept in
    let given = rw (frames, lay) at c.in-Ok-give.ensures.given in
    let same_runs : c.give.new.self.runs ≡ c.discard_run.new.filer.runs = c.in-Ok-give.ensures.runs ∙ c.in-Ok-free_labels.ensures.stays.runs in
    let run = c.in-Ok.run' in
    let form = c.in-Ok.ensures.part.0 in
    let all = (c.in-Ok.ensures.named h.memory named h.stands h.map h.kept).0 in
    let first = form.same_first in (
      keeps_as beside.layout same_runs (marks_keep (f.keeps_to o named h never_blames) (accepted c.args.filer.now) c.in-Ok.run' c.in-Ok.ensures.part.0.form (run_sectors c.in-Ok.run') (λ j k at. let r = row_has c.in-Ok.run'.sector c.in-Ok.run'.pages j k at in (j, r.0, r.1)) (λ i below. (i, row_at c.in-Ok.run'.sector c.in-Ok.run'.pages i below)) c.in-Ok-free_labels.ensures.writes.0 c.in-Ok-free_labels.ensures.writes.1 f.gone (λ same. never_blames (sym c.in-Ok.ensures.part.0.same_id ∙ same)) beside (λ m marks stands bits. given m marks stands bits)),
      released_of_run o (view_of c.give.new.self).disk named run c.args.id (λ p. (c.args.page ≤ p) × (p < c.args.page + run.pages)) form.same_id (λ p own. let from = own.0 in let below = own.1 in (omega (arith, from, first), omega (arith, below, first))) (marks_released (f.keeps_to o named h never_blames) (accepted c.args.filer.now) run form.form (run_sectors run) (λ j k at. let r = row_has run.sector run.pages j k at in (j, r.0, r.1)) (λ i below. (i, row_at run.sector run.pages i below)) c.in-Ok-free_labels.ensures.writes.0 c.in-Ok-free_labels.ensures.writes.1 f.gone (λ same. never_blames (sym c.in-Ok.ensures.part.0.same_id ∙ same)) beside all),
    )

pub returns-in-Err-clause-accounts : goal.returns-in-Err-clause-accounts
returns-in-Err-clause-accounts g c = λ o named h. (λ never_blames may. (c.in-Err.ensures.accounts o named h).0 may, λ sector is. (c.in-Err.ensures.accounts o named h).1 sector is)

-- ---- None of its pages is reported as missing, where the first one is named.

-- ---- What is on the medium.
