use Rattle.std.proofs.Common.{◌≡◌, ◌<◌, ◌≤◌, inr, ◌-◌, sym, ◌∙◌, ap, subst, arith, rules, inl}
use Rattle.labelled_disk.specs.declared.layout.Layout.{Layout}
use Rattle.swapper_kernel.specs.declared.manager.Manager.TheVariants.{AllocationMap, FileMap}
use Rattle.filer_kernel.specs.declared.cached.CachedRuns.{CachedRuns}
use Rattle.filer_kernel.specs.Cached.{runs_of}
use Rattle.filer_kernel.specs.Triples.{AreOf}
use Rattle.filer_kernel.specs.PlaceLaws.{data_first}
use Rattle.file_manager.proofs.ForgottenRun.{IsPrefix, prefix}
use Rattle.file_manager.proofs.FreedRun.{all_stop, map_stops}
use Rattle.file_manager.proofs.DownRun.{none_over, ones, labelled, named_then, is_named, few_pages, run_freed, down_makes, down_stops, down_broken, none_broken, all_broken}
use Rattle.filer_kernel.specs.EvidenceLaws.{fits, map_homes_placed, so_of_halts}
use Rattle.file_manager.proofs.RunCauses.{at_labels, at_marks, run_kept}
use Rattle.file_manager.specs.Shrinking.{run_down}
use Rattle.file_manager.proofs.DownLemmas.{down_has, down_all}
use Rattle.file_manager.specs.Grounds.{IsUnframed, KeepsMap}
use Rattle.label_calls.specs.OwnLaws.{relabels_own, wrote_own, own_then, quiet_own}
use Rattle.file_manager.proofs.OwnSteps.{map_own, own_after, same_id}
use Rattle.file_manager.specs.KeepLaws.{keeps_as}
use Rattle.file_manager.specs.TabledLaws.{client_leaves}
use Rattle.file_manager.proofs.FreedReasons.{labels_reason, marks_reason, marks_keep, released_of_run, marks_released}
use Rattle.file_manager.proofs.shrinking.free_last.Given as given
use Rattle.file_manager.proofs.shrinking.free_last.Goals as goal
use Rattle.file_manager.proofs.shrinking.free_last.Goals.{After-discard_run}
use Rattle.filer_kernel.specs.View.{accepted, swapper_of, view_of}

-- the search, and the frames that were given up
after : (g : given.Over) (c : After-discard_run g) → IsPrefix (view_of c.args.filer.now).layout c.args.id (view_of c.args.filer.now).disk (view_of c.args.filer.now).slots c.args.filer.now.runs c.in-Ok.run'
    (view_of c.discard_run.new.filer).disk (view_of c.discard_run.new.filer).slots (view_of c.discard_run.new.filer).layout c.discard_run.new.filer.runs
after g c =
    prefix (accepted c.args.filer.now) (inr c.requires.of_file) c.in-Ok.ensures.part.0.same_id c.last_part.ensures.stays.beside c.last_part.ensures.stays.same (c.last_part.ensures.keeps (inr c.requires.of_file))
    c.in-Ok.ensures.accounts c.discard_run.ensures.forgets (ap g.D.Disk.state c.discard_run.ensures.disk) c.discard_run.ensures.stays.layout c.discard_run.ensures.stays.runs

pub returns-in-Err-clause-freed : goal.returns-in-Err-clause-freed
returns-in-Err-clause-freed g c = λ named spaces m may.
    let some = c.requires.some in
    let all = may.mapped (c.args.end - 1) (omega (arith, some)) (omega (arith, some)) in
    (c.in-Err.ensures.sound m named all.0 may.stands may.map (may.map_labels FileMap) all.1, none_broken c.last_part.ensures.stays.beside)

pub returns-in-Err-clause-writes : goal.returns-in-Err-clause-writes
returns-in-Err-clause-writes g c = map_stops c.last_part.ensures.stays.beside

pub free_labels_down-requires-clause-data : goal.free_labels_down-requires-clause-data
free_labels_down-requires-clause-data g c =
    let f = after g (goal.at.free_labels_down-requires-clause-data g c).After-discard_run in
    let first = data_first (view_of c.args.filer.now).layout (accepted c.args.filer.now) in
    let lay : (view_of c.discard_run.new.filer).layout.first ≡ (view_of c.args.filer.now).layout.first = ap (λ (l : Layout). l.first) f.same_layout in
    let from = c.in-Ok.ensures.part.0.form.from_data in
    omega (arith, first, lay, from)

pub returns-in-Err-free_labels_down-clause-freed : goal.returns-in-Err-free_labels_down-clause-freed
returns-in-Err-free_labels_down-clause-freed g c = λ named spaces m may.
    let f = after g (goal.at.returns-in-Err-free_labels_down-clause-freed g c).After-discard_run in
    let layout = (view_of c.args.filer.now).layout in
    let is = (accepted c.args.filer.now) in
    let all = (c.in-Ok.ensures.named m named may.stands may.map may.kept).0 in
    let booked = f.booked named spaces c.args.from c.args.end m may in (
      c.in-Err-free_labels_down.ensures.sound m booked.0 (none_over layout is named spaces c.args.id c.args.from c.args.end c.requires.of_file m _ _ c.args.filer.now.runs may c.in-Ok.run' c.in-Ok.ensures.part.0 all _ _ _ booked.1 booked.0) (ones layout is named spaces c.args.id c.args.from c.args.end c.requires.of_file m _ _ c.args.filer.now.runs may c.in-Ok.run' c.in-Ok.ensures.part.0 all _ _ _ booked.1 booked.0),
      down_broken c.in-Ok.run' f.makes c.in-Err-free_labels_down.ensures.stays.frames (is_named layout is named spaces c.args.id c.args.from c.args.end c.requires.of_file m _ _ c.args.filer.now.runs may c.in-Ok.run' c.in-Ok.ensures.part.0 all _ _ _ booked.1 booked.0) (few_pages layout is named spaces c.args.id c.args.from c.args.end c.requires.of_file m _ _ c.args.filer.now.runs may c.in-Ok.run' c.in-Ok.ensures.part.0 all _ _ _ booked.1 booked.0) c.in-Err-free_labels_down.ensures.writes,
    )

pub returns-in-Err-free_labels_down-clause-writes : goal.returns-in-Err-free_labels_down-clause-writes
returns-in-Err-free_labels_down-clause-writes g c =
    let f = after g (goal.at.returns-in-Err-free_labels_down-clause-writes g c).After-discard_run in
    down_stops c.in-Ok.run' f.makes c.in-Err-free_labels_down.ensures.stays.frames c.in-Err-free_labels_down.ensures.writes

pub give-requires-clause-data : goal.give-requires-clause-data
give-requires-clause-data g c =
    let f = after g (goal.at.give-requires-clause-data g c).After-discard_run in
    let first = data_first (view_of c.args.filer.now).layout (accepted c.args.filer.now) in
    let lay : (view_of c.free_labels_down.new.filer).layout.first ≡ (view_of c.args.filer.now).layout.first = ap (λ (l : Layout). l.first) (c.in-Ok-free_labels_down.ensures.stays.layout ∙ f.same_layout) in
    let from = c.in-Ok.ensures.part.0.form.from_data in
    omega (arith, first, lay, from)

pub returns-in-Err-give-clause-freed : goal.returns-in-Err-give-clause-freed
returns-in-Err-give-clause-freed g c = λ named spaces m may.
    let f = after g (goal.at.returns-in-Err-give-clause-freed g c).After-discard_run in
    let layout = (view_of c.args.filer.now).layout in
    let is = (accepted c.args.filer.now) in
    let all = (c.in-Ok.ensures.named m named may.stands may.map may.kept).0 in
    let booked = f.booked named spaces c.args.from c.args.end m may in
    let frames = c.in-Ok-free_labels_down.ensures.stays.frames in
    let lay : (view_of c.free_labels_down.new.filer).layout ≡ layout = c.in-Ok-free_labels_down.ensures.stays.layout ∙ f.same_layout in
    let made = c.in-Ok-free_labels_down.ensures.writes.0 in
    let mid = labelled layout is named spaces c.args.id c.args.from c.args.end c.requires.of_file m _ _ c.args.filer.now.runs may c.in-Ok.run' c.in-Ok.ensures.part.0 all _ _ _ booked.1 booked.0 _ made in (
      (rw (frames, lay) at c.in-Err-give.ensures.sound) mid.0 mid.1 (named_then layout is named spaces c.args.id c.args.from c.args.end c.requires.of_file m _ _ c.args.filer.now.runs may c.in-Ok.run' c.in-Ok.ensures.part.0 all _ _ _ booked.1 booked.0 _ made AllocationMap),
      all_broken c.in-Ok.run' f.makes c.in-Ok-free_labels_down.ensures.stays.frames (is_named layout is named spaces c.args.id c.args.from c.args.end c.requires.of_file m _ _ c.args.filer.now.runs may c.in-Ok.run' c.in-Ok.ensures.part.0 all _ _ _ booked.1 booked.0) (few_pages layout is named spaces c.args.id c.args.from c.args.end c.requires.of_file m _ _ c.args.filer.now.runs may c.in-Ok.run' c.in-Ok.ensures.part.0 all _ _ _ booked.1 booked.0) c.in-Ok-free_labels_down.ensures.writes.0 c.in-Err-give.ensures.kept,
    )

pub returns-in-Err-give-clause-writes : goal.returns-in-Err-give-clause-writes
returns-in-Err-give-clause-writes g c =
    let f = after g (goal.at.returns-in-Err-give-clause-writes g c).After-discard_run in
    all_stop (down_makes c.in-Ok.run' f.makes c.in-Ok-free_labels_down.ensures.stays.frames c.in-Ok-free_labels_down.ensures.writes.0 c.in-Err-give.ensures.kept)

pub returns-clause-freed : goal.returns-clause-freed
returns-clause-freed g c = λ named spaces m may.
    let f = after g (goal.at.returns-clause-freed g c).After-discard_run in
    let layout = (view_of c.args.filer.now).layout in
    let is = (accepted c.args.filer.now) in
    let all = (c.in-Ok.ensures.named m named may.stands may.map may.kept).0 in
    let booked = f.booked named spaces c.args.from c.args.end m may in
    let frames = c.in-Ok-free_labels_down.ensures.stays.frames in
    let lay : (view_of c.free_labels_down.new.filer).layout ≡ layout = c.in-Ok-free_labels_down.ensures.stays.layout ∙ f.same_layout in
    let made = c.in-Ok-free_labels_down.ensures.writes.0 in
    let mid = labelled layout is named spaces c.args.id c.args.from c.args.end c.requires.of_file m _ _ c.args.filer.now.runs may c.in-Ok.run' c.in-Ok.ensures.part.0 all _ _ _ booked.1 booked.0 _ made in
    let kept = (c.last_part.ensures.named m named may.stands may.map may.kept).1 in
    let same_runs : c.give.new.self.runs ≡ c.last_part.new.filer.runs = c.in-Ok-give.ensures.runs ∙ c.in-Ok-free_labels_down.ensures.stays.runs ∙ c.discard_run.ensures.stays.runs in
    let given = rw (frames, lay) at c.in-Ok-give.ensures.given in
    run_freed layout is named spaces c.args.id c.args.from c.args.end c.requires.of_file m _ _ c.args.filer.now.runs may c.in-Ok.run' c.in-Ok.ensures.part.0 all _ _ _ booked.1 booked.0 _ made
    _ _ _ c.give.new.self.runs (subst (λ (r : CachedRuns). AreOf named (runs_of layout.sectors r)) (sym same_runs) kept) (rw (frames, lay) at c.in-Ok-give.ensures.kept)
    (λ marks bits. given mid.0 marks mid.1 bits)

pub returns-clause-some : goal.returns-clause-some
returns-clause-some g c =
    let form = c.in-Ok.ensures.part.0 in
    let some = form.form.some in
    let above = form.above in
    let reaches = form.reaches in
    (some, omega (arith, above, reaches))

pub returns-clause-writes : goal.returns-clause-writes
returns-clause-writes g c =
    let f = after g (goal.at.returns-clause-writes g c).After-discard_run in
    down_makes c.in-Ok.run' f.makes c.in-Ok-free_labels_down.ensures.stays.frames c.in-Ok-free_labels_down.ensures.writes.0 c.in-Ok-give.ensures.kept

pub returns-in-Err-clause-fails : goal.returns-in-Err-clause-fails
returns-in-Err-clause-fails g c = record { cause = search rules; counted = search rules; evidence_seen = c.in-Err.ensures.fails.evidence_seen (inr c.requires.of_file) }

pub returns-in-Err-give-clause-fails : goal.returns-in-Err-give-clause-fails
returns-in-Err-give-clause-fails g c = record {
  cause =
      let f = after g (goal.at.returns-in-Err-give-clause-fails g c).After-discard_run in
      let layout = (view_of c.args.filer.now).layout in
      let form = c.in-Ok.ensures.part.0 in
      let keep = f.keeps in
      let frames = c.in-Ok-free_labels_down.ensures.stays.frames in
      let lay : (view_of c.free_labels_down.new.filer).layout ≡ layout = c.in-Ok-free_labels_down.ensures.stays.layout ∙ f.same_layout in
      at_marks (accepted c.args.filer.now) (inr c.requires.of_file) c.in-Ok.run' form.form form.same_id keep (run_down c.in-Ok.run') (down_has c.in-Ok.run') c.in-Ok-free_labels_down.ensures.writes.0 c.in-Ok-free_labels_down.ensures.writes.1 (λ p. p ≡ c.args.end - 1) (view_of c.give.new.self).disk c.in-Err-give.halt (rw (frames, lay) at c.in-Err-give.ensures.cause);
  counted = search rules;
  evidence_seen = so_of_halts (fits (swapper_of c.free_labels_down.new.filer) (search rules)) c.in-Err-give.ensures.kept.goes.makes c.in-Err-give.halt _ (map_homes_placed AllocationMap _) c.in-Err-give.ensures.cause;
}

pub returns-in-Err-free_labels_down-clause-fails : goal.returns-in-Err-free_labels_down-clause-fails
returns-in-Err-free_labels_down-clause-fails g c = record {
  cause =
      let f = after g (goal.at.returns-in-Err-free_labels_down-clause-fails g c).After-discard_run in
      let layout = (view_of c.args.filer.now).layout in
      let form = c.in-Ok.ensures.part.0 in
      let keep = f.keeps in
      at_labels (accepted c.args.filer.now) (inr c.requires.of_file) c.in-Ok.run' form.form form.same_id keep (λ p. p ≡ c.args.end - 1) c.in-Ok.ensures.part.1 (view_of c.free_labels_down.new.filer).disk c.in-Err-free_labels_down.halt c.in-Err-free_labels_down.ensures.fails.cause;
  counted = search rules;
  evidence_seen = search rules;
}

pub returns-clause-stays : goal.returns-clause-stays
returns-clause-stays g c = record {
  layout = search rules;
  keeps =
      let f = after g (goal.at.returns-clause-stays g c).After-discard_run in
      let layout = (view_of c.args.filer.now).layout in
      let form = c.in-Ok.ensures.part.0 in
      let keep = f.keeps in
      let frames = c.in-Ok-free_labels_down.ensures.stays.frames in
      let lay : (view_of c.free_labels_down.new.filer).layout ≡ layout = c.in-Ok-free_labels_down.ensures.stays.layout ∙ f.same_layout in
      let old = (view_of c.args.filer.now).disk in
      let pool = (view_of c.args.filer.now).slots in
      let same_runs : c.give.new.self.runs ≡ c.discard_run.new.filer.runs = c.in-Ok-give.ensures.runs ∙ c.in-Ok-free_labels_down.ensures.stays.runs in
      subst (λ (r : CachedRuns). KeepsMap (IsUnframed pool c.args.id) layout c.args.id old pool (runs_of layout.sectors c.args.filer.now.runs) (view_of c.give.new.self).disk (view_of c.give.new.self).slots (runs_of layout.sectors r)) (sym same_runs) (run_kept (accepted c.args.filer.now) (inr c.requires.of_file) c.in-Ok.run' form.form form.same_id keep (run_down c.in-Ok.run') (down_has c.in-Ok.run') c.in-Ok-free_labels_down.ensures.writes.0 c.in-Ok-free_labels_down.ensures.writes.1 (rw (frames, lay) at c.in-Ok-give.ensures.kept));
}

pub returns-in-Err-clause-own : goal.returns-in-Err-clause-own
returns-in-Err-clause-own g c = relabels_own (map_own c.args.id c.last_part.ensures.stays.beside)

pub returns-in-Err-free_labels_down-clause-own : goal.returns-in-Err-free_labels_down-clause-own
returns-in-Err-free_labels_down-clause-own g c =
    let f = after g (goal.at.returns-in-Err-free_labels_down-clause-own g c).After-discard_run in
    own_after (quiet_own c.args.id f.makes) (wrote_own c.in-Err-free_labels_down.ensures.writes.makes (same_id c.in-Ok.ensures.part.0.same_id c.in-Err-free_labels_down.ensures.own))

pub returns-in-Err-give-clause-own : goal.returns-in-Err-give-clause-own
returns-in-Err-give-clause-own g c =
    let f = after g (goal.at.returns-in-Err-give-clause-own g c).After-discard_run in
    own_after (quiet_own c.args.id f.makes) (own_then (wrote_own c.in-Ok-free_labels_down.ensures.writes.0.makes (same_id c.in-Ok.ensures.part.0.same_id c.in-Ok-free_labels_down.ensures.own)) (map_own c.args.id c.in-Err-give.ensures.kept))

pub returns-clause-own : goal.returns-clause-own
returns-clause-own g c =
    let f = after g (goal.at.returns-clause-own g c).After-discard_run in
    own_after (quiet_own c.args.id f.makes) (own_then (wrote_own c.in-Ok-free_labels_down.ensures.writes.0.makes (same_id c.in-Ok.ensures.part.0.same_id c.in-Ok-free_labels_down.ensures.own)) (map_own c.args.id c.in-Ok-give.ensures.kept))

pub returns-in-Err-clause-accounts : goal.returns-in-Err-clause-accounts
returns-in-Err-clause-accounts g c = λ o named h. c.in-Err.ensures.accounts o named h (inl c.requires.of_file)

pub returns-in-Err-free_labels_down-clause-accounts : goal.returns-in-Err-free_labels_down-clause-accounts
returns-in-Err-free_labels_down-clause-accounts g c = λ o named h.
    let f = after g (goal.at.returns-in-Err-free_labels_down-clause-accounts g c).After-discard_run in
    let all = (c.in-Ok.ensures.named h.memory named h.stands h.map h.kept).0 in
    labels_reason (f.keeps_to o named h (client_leaves o c.args.id c.requires.of_file)) (accepted c.args.filer.now) c.in-Ok.run' c.in-Ok.ensures.part.0.form all c.in-Err-free_labels_down.ensures.writes.makes c.in-Err-free_labels_down.halt c.in-Err-free_labels_down.ensures.fails.cause

pub returns-in-Err-give-clause-accounts : goal.returns-in-Err-give-clause-accounts
returns-in-Err-give-clause-accounts g c = λ o named h.
    let f = after g (goal.at.returns-in-Err-give-clause-accounts g c).After-discard_run in
    let layout = (view_of c.args.filer.now).layout in
    let frames = c.in-Ok-free_labels_down.ensures.stays.frames in
    let lay : (view_of c.free_labels_down.new.filer).layout ≡ layout = c.in-Ok-free_labels_down.ensures.stays.layout ∙ f.same_layout in
    let beside = rw (frames, lay) at c.in-Err-give.ensures.kept in
    marks_reason (f.keeps_to o named h (client_leaves o c.args.id c.requires.of_file)) (accepted c.args.filer.now) c.in-Ok.run' c.in-Ok.ensures.part.0.form (run_down c.in-Ok.run') (down_has c.in-Ok.run') (down_all c.in-Ok.run')
    c.in-Ok-free_labels_down.ensures.writes.0 c.in-Ok-free_labels_down.ensures.writes.1 f.gone (λ same. client_leaves o c.args.id c.requires.of_file (sym c.in-Ok.ensures.part.0.same_id ∙ same)) beside.goes.makes c.in-Err-give.halt (rw (frames, lay) at c.in-Err-give.ensures.cause)

pub returns-clause-accounts : goal.returns-clause-accounts
returns-clause-accounts g c = λ o named h.
    let f = after g (goal.at.returns-clause-accounts g c).After-discard_run in
    let layout = (view_of c.args.filer.now).layout in
    let frames = c.in-Ok-free_labels_down.ensures.stays.frames in
    let lay : (view_of c.free_labels_down.new.filer).layout ≡ layout = c.in-Ok-free_labels_down.ensures.stays.layout ∙ f.same_layout in
    let beside = rw (frames, lay) at c.in-Ok-give.ensures.kept in
    let given = rw (frames, lay) at c.in-Ok-give.ensures.given in
    let same_runs : c.give.new.self.runs ≡ c.discard_run.new.filer.runs = c.in-Ok-give.ensures.runs ∙ c.in-Ok-free_labels_down.ensures.stays.runs in
    let run = c.in-Ok.run' in
    let form = c.in-Ok.ensures.part.0 in
    let all = (c.in-Ok.ensures.named h.memory named h.stands h.map h.kept).0 in
    let reaches = form.reaches in (
      keeps_as beside.layout same_runs (marks_keep (f.keeps_to o named h (client_leaves o c.args.id c.requires.of_file)) (accepted c.args.filer.now) c.in-Ok.run' c.in-Ok.ensures.part.0.form (run_down c.in-Ok.run') (down_has c.in-Ok.run') (down_all c.in-Ok.run') c.in-Ok-free_labels_down.ensures.writes.0 c.in-Ok-free_labels_down.ensures.writes.1 f.gone (λ same. client_leaves o c.args.id c.requires.of_file (sym c.in-Ok.ensures.part.0.same_id ∙ same)) beside (λ m marks stands bits. given m marks stands bits)),
      released_of_run o (view_of c.give.new.self).disk named run c.args.id (λ p. (c.args.end - run.pages ≤ p) × (p < c.args.end)) form.same_id (λ p own. let from = own.0 in let below = own.1 in (omega (arith, from, reaches), omega (arith, below, reaches))) (marks_released (f.keeps_to o named h (client_leaves o c.args.id c.requires.of_file)) (accepted c.args.filer.now) run form.form (run_down run) (down_has run) (down_all run) c.in-Ok-free_labels_down.ensures.writes.0 c.in-Ok-free_labels_down.ensures.writes.1 f.gone (λ same. client_leaves o c.args.id c.requires.of_file (sym c.in-Ok.ensures.part.0.same_id ∙ same)) beside all),
    )
