use Rattle.std.proofs.Common.{◌∙◌, inl, inr, ℕ, ◌+◌, ◌≤◌, ◌<◌, [], sym, subst, arith, rules}
use Rattle.labelled_disk.specs.Label.{leader_page}
use Rattle.session_words.proofs.FoundLemmas.{above_reserved}
use Rattle.file_manager.specs.TabledLaws.{file_untold}
use Rattle.file_manager.specs.Making.{sectors_of}
use Rattle.file_manager.proofs.CreateBroken.{leader_broken, pages_broken}
use Rattle.file_manager.proofs.LeaderLemmas.{one_sector, unowned_file, led_by, file_made, file_sound, creates_all, stopped_leader, stopped_pages}
use Rattle.file_manager.proofs.Faults.{counted_then}
use Rattle.file_manager.proofs.MakeStops.{leaves_apart, make_halts_before, make_halts_wider}
use Rattle.file_manager.specs.Grounds.{IsNewPage, LabelsRun}
use Rattle.filer_kernel.specs.PlaceLaws.{data_first}
use Rattle.swapper_kernel.specs.Goes.{Makes}
use Rattle.session_words.specs.Volume.{volume_page}
use Rattle.labelled_disk.specs.Runs.{growth}
use Rattle.file_map.specs.FileMap.{with_run}
use Rattle.file_manager.specs.Taking.{every_page}
use Rattle.file_manager.proofs.MadeReasons.{none_with_run}
use Rattle.file_manager.proofs.KeepCut.{tables_more}
use Rattle.file_manager.proofs.making.make_file.Goals as goal
use Rattle.filer_kernel.specs.View.{accepted, view_of}

pub make_run-requires-clause-to_make : goal.make_run-requires-clause-to_make
make_run-requires-clause-to_make g c = record { pages = (omega arith, omega arith); of_file = inr c.requires.of_file }

pub returns-in-Err-clause-made : goal.returns-in-Err-clause-made
returns-in-Err-clause-made g c = λ tables x shapes spaces may.
    let enough = may.enough in (
      c.in-Err.ensures.made tables x shapes spaces may.books may.hidden (unowned_file tables shapes c.args.id leader_page 1 (above_reserved c.args.id c.requires.of_file) may.none) (omega (arith, enough)),
      leader_broken c.args.id c.args.kind c.args.pages x (c.in-Err.ensures.broken tables x shapes spaces may.books may.hidden (unowned_file tables shapes c.args.id leader_page 1 (above_reserved c.args.id c.requires.of_file) may.none) (omega (arith, enough))),
    )

pub returns-in-Err-clause-writes : goal.returns-in-Err-clause-writes
returns-in-Err-clause-writes g c = stopped_leader c.args.id c.args.kind c.args.pages c.in-Err.ensures.writes

pub returns-in-Err-make_up-clause-made : goal.returns-in-Err-make_up-clause-made
returns-in-Err-make_up-clause-made g c = λ tables x shapes spaces may.
    let enough = may.enough in
    let first = c.in-Ok.ensures.made tables x shapes spaces may.books may.hidden (unowned_file tables shapes c.args.id leader_page 1 (above_reserved c.args.id c.requires.of_file) may.none) (omega (arith, enough)) in
    let one = one_sector _ _ _ c.in-Ok._run c.in-Ok.ensures.run.0 in
    let leads = led_by c.args.id c.args.kind c.in-Ok._run.sector (sectors_of c.in-Ok._run) one c.in-Ok.ensures.stays.runs first in (
      file_sound (view_of c.args.filer.now).layout (accepted c.args.filer.now) c.args.filer.now.runs shapes spaces x _ _ c.args.id c.args.kind c.args.pages c.requires.of_file may c.in-Ok._run.sector _ _ leads c.in-Err-make_up.halt (λ y ss sp f given size. ((rw (c.in-Ok.ensures.stays.layout, c.in-Ok.ensures.stays.runs) at c.in-Err-make_up.ensures.made) tables y ss sp f given size).0),
      pages_broken (view_of c.args.filer.now).layout (accepted c.args.filer.now) c.args.filer.now.runs shapes spaces x _ _ c.args.id c.args.kind c.args.pages c.requires.of_file may c.in-Ok._run.sector _ _ leads _ _ (λ y ss sp f given size. ((rw (c.in-Ok.ensures.stays.layout, c.in-Ok.ensures.stays.runs) at c.in-Err-make_up.ensures.made) tables y ss sp f given size).1),
    )

pub returns-in-Err-make_up-clause-writes : goal.returns-in-Err-make_up-clause-writes
returns-in-Err-make_up-clause-writes g c =
    let one = one_sector _ _ _ c.in-Ok._run c.in-Ok.ensures.run.0 in
    stopped_pages c.args.id c.args.kind c.args.pages (sectors_of c.in-Ok._run) c.in-Ok._run.sector one c.in-Ok.ensures.writes c.in-Err-make_up.ensures.writes

pub returns-clause-made : goal.returns-clause-made
returns-clause-made g c = λ tables x shapes spaces may.
    let enough = may.enough in
    let first = c.in-Ok.ensures.made tables x shapes spaces may.books may.hidden (unowned_file tables shapes c.args.id leader_page 1 (above_reserved c.args.id c.requires.of_file) may.none) (omega (arith, enough)) in
    let one = one_sector _ _ _ c.in-Ok._run c.in-Ok.ensures.run.0 in
    let leads = led_by c.args.id c.args.kind c.in-Ok._run.sector (sectors_of c.in-Ok._run) one c.in-Ok.ensures.stays.runs first in
    file_made (view_of c.args.filer.now).layout (accepted c.args.filer.now) c.args.filer.now.runs shapes spaces x _ _ c.args.id c.args.kind c.args.pages c.requires.of_file may c.in-Ok._run.sector _ _ leads _ _ _
    (c.in-Ok-make_up.ensures.stays.runs ∙ c.in-Ok.ensures.stays.runs) ((rw (c.in-Ok.ensures.stays.layout, c.in-Ok.ensures.stays.runs) at c.in-Ok-make_up.ensures.made) tables)

pub returns-clause-writes : goal.returns-clause-writes
returns-clause-writes g c =
    let one = one_sector _ _ _ c.in-Ok._run c.in-Ok.ensures.run.0 in
    creates_all c.args.id c.args.kind c.args.pages (sectors_of c.in-Ok._run) c.in-Ok._run.sector one c.in-Ok.ensures.writes c.in-Ok-make_up.ensures.writes.0

pub returns-in-Err-make_up-clause-fails : goal.returns-in-Err-make_up-clause-fails
returns-in-Err-make_up-clause-fails g c = record {
  cause =
      let layout = (view_of c.args.filer.now).layout in
      let old = (view_of c.args.filer.now).disk in
      let pool = (view_of c.args.filer.now).slots in
      let run = c.in-Ok._run in
      let below = c.requires.numbers in
      let form = c.in-Ok.ensures.run.0 in
      let sectors = form.form.from_data in
      let first = data_first layout (accepted c.args.filer.now) in
      let old_run = subst (λ (n : ℕ). Makes volume_page (growth c.args.id c.args.kind n (sectors_of run)) old pool (view_of c.make_run.new.filer).disk (view_of c.make_run.new.filer).slots) (sym form.same_first) c.in-Ok.ensures.writes in
      let one : LabelsRun layout c.args.id old pool (view_of c.make_run.new.filer).disk (view_of c.make_run.new.filer).slots = record { prefix = []; kind = c.args.kind; run = run; some = form.form.some; from = omega (arith, sectors, first); makes = old_run; ended = inl form.same_first } in
      let leader = λ (p : ℕ). (4294967295 ≤ p) × (p < 4294967295 + run.pages) in
      let pages = λ (p : ℕ). (0 ≤ p) × (p < c.args.pages) in
      let leaves = leaves_apart layout c.args.id leader pages every_page old pool (λ p own. tt) (λ p own. tt) (λ p own other. let before = own.1 in let from = other.0 in omega (arith, below, before, from)) in
      make_halts_before leader pages every_page c.in-Ok.ensures.writes c.in-Ok.ensures.run.2 leaves pages (IsNewPage c.args.pages) (λ p own. inr own.1) (λ p own other. let before = own.1 in let from = other.0 in omega (arith, below, before, from)) (inr one) (view_of c.make_up.new.filer).disk (view_of c.make_up.new.filer).slots c.in-Err-make_up.halt (rw c.in-Ok.ensures.stays.layout at c.in-Err-make_up.ensures.fails.cause);
  counted = counted_then _ _ _ c.in-Ok.ensures.writes.went.faults c.in-Err-make_up.ensures.fails.counted;
  evidence_seen = search rules;
}

pub returns-in-Err-clause-fails : goal.returns-in-Err-clause-fails
returns-in-Err-clause-fails g c = record {
  cause =
      let leader = λ (p : ℕ). (4294967295 ≤ p) × (p < 4294967295 + 1) in
      make_halts_wider (view_of c.args.filer.now).layout c.args.id leader every_page leader (IsNewPage c.args.pages) (λ p own. tt) (λ p own. let from = own.0 in let last = own.1 in inl (omega (arith, from, last))) (view_of c.args.filer.now).disk (view_of c.make_run.new.filer).disk (view_of c.args.filer.now).slots (view_of c.make_run.new.filer).slots c.in-Err.halt c.in-Err.ensures.fails.cause;
  counted = search rules;
  evidence_seen = search rules;
}

pub returns-in-Err-clause-accounts : goal.returns-in-Err-clause-accounts
returns-in-Err-clause-accounts g c = λ o named h may none. c.in-Err.ensures.accounts o named h (λ p sector own. none p sector tt)

pub returns-in-Err-make_up-clause-accounts : goal.returns-in-Err-make_up-clause-accounts
returns-in-Err-make_up-clause-accounts g c = λ o named h may none.
    let run = c.in-Ok._run in
    let form = c.in-Ok.ensures.run.0 in
    let below = c.requires.numbers in
    let now = c.in-Ok.ensures.accounts o named h (λ p sector own. none p sector tt) may (file_untold o c.args.id c.requires.of_file) in
    rw c.in-Ok.ensures.stays.layout at (c.in-Err-make_up.ensures.accounts o (with_run named run) now may
    (none_with_run run named c.args.id 4294967295 (λ p. (0 ≤ p) × (p < c.args.pages)) form.same_id form.same_first (λ p own other. let last = own.1 in let from = other.0 in omega (arith, last, from, below)) (λ p sector own. none p sector tt)))

pub returns-clause-accounts : goal.returns-clause-accounts
returns-clause-accounts g c = λ o named h may none.
    let run = c.in-Ok._run in
    let form = c.in-Ok.ensures.run.0 in
    let below = c.requires.numbers in
    let now = c.in-Ok.ensures.accounts o named h (λ p sector own. none p sector tt) may (file_untold o c.args.id c.requires.of_file) in
    let later = c.in-Ok-make_up.ensures.accounts o (with_run named run) now may
    (none_with_run run named c.args.id 4294967295 (λ p. (0 ≤ p) × (p < c.args.pages)) form.same_id form.same_first (λ p own other. let last = own.1 in let from = other.0 in omega (arith, last, from, below)) (λ p sector own. none p sector tt)) in
    (later.0, later.1, λ all. later.2 (tables_more named run all))
