use Rattle.std.proofs.Common.{◌≤◌, ◌-◌, sym, ◌∙◌, subst, rules, arith, ◌≡◌, refl, true, Option}
use Rattle.std.proofs.lemmas.Bool.{true≢false}
use Rattle.file_map.specs.FileMap.{IsFound}
use Rattle.file_manager.proofs.FreedRun.{run_part}
use Rattle.file_manager.proofs.Faults.{counted, no_fault}
use Rattle.filer_kernel.specs.EvidenceLaws.{fits, so_of_map}
use Rattle.filer_kernel.specs.Cached.{runs_of}
use Rattle.file_manager.proofs.Keeping.{keeps_none, keeps_read, search_halts_after}
use Rattle.file_manager.proofs.RunCauses.{part_homes}
use Rattle.std.specs.Prelude.{IfSome}
use Rattle.file_map.specs.declared.run.Run.{Run}
use Rattle.file_map.specs.Run.{IsRun, holds}
use Rattle.filer_kernel.specs.Causes.{IsGiven}
use Rattle.file_manager.specs.Grounds.{IsUnframed}
use Rattle.file_manager.specs.ReasonLaws.{map_reasons, lack_reason}
use Rattle.file_manager.proofs.FreedReasons.{found_keeps}
use Rattle.file_manager.proofs.LackLemmas.{search_misses_none}
use Rattle.file_manager.proofs.release.part_of.Goals as goal
use Rattle.filer_kernel.specs.View.{accepted, swapper_of, view_of}

pub returns-in-Ok-Some-clause-named : goal.returns-in-Ok-Some-clause-named
returns-in-Ok-Some-clause-named g c = λ m named stands map kept. (
  λ k below.
      let found = subst (IsFound named c.args.id c.args.page) c.in-Ok-Some.field-0-is (c.in-Ok-Some.ensures.found m named stands map kept) in
      let few : c.min-pages.result ≤ c.in-Ok-Some.run'.pages - (c.args.page - c.in-Ok-Some.run'.first) = search rules in
      run_part named c.args.id c.args.page c.min-pages.result c.in-Ok-Some.run' found few k below,
  c.find.ensures.keeps.runs_are m named stands map kept,
)

pub returns-in-Ok-None-clause-named : goal.returns-in-Ok-None-clause-named
returns-in-Ok-None-clause-named g c = λ m named stands map kept. (tt, c.find.ensures.keeps.runs_are m named stands map kept)

pub returns-in-Err-clause-named : goal.returns-in-Err-clause-named
returns-in-Err-clause-named g c = λ m named stands map kept. (tt, c.find.ensures.keeps.runs_are m named stands map kept)

pub returns-in-Ok-None-clause-sound : goal.returns-in-Ok-None-clause-sound
returns-in-Ok-None-clause-sound g c = λ m named sector stands map labels is.
    let nowhere = c.find.ensures.nowhere m named stands map (search rules) in
    absurd (true≢false (sym is ∙ nowhere sector))

pub returns-in-Err-clause-sound : goal.returns-in-Err-clause-sound
returns-in-Err-clause-sound g c = λ m named sector stands map labels is. c.in-Err.ensures.fails.sound m named stands map labels

pub returns-in-Ok-None-clause-fails : goal.returns-in-Ok-None-clause-fails
returns-in-Ok-None-clause-fails g c = record {
  cause = (refl, refl, λ none m named stands map. c.find.ensures.nowhere m named stands map (search rules));
  counted = no_fault;
  evidence_seen = λ of_file. of_file;
}

pub returns-in-Err-clause-fails : goal.returns-in-Err-clause-fails
returns-in-Err-clause-fails g c =
    let layout = (view_of c.args.filer.now).layout in
    let old = (view_of c.args.filer.now).disk in
    let pool = (view_of c.args.filer.now).slots in
    let kept = runs_of layout.sectors c.args.filer.now.runs in
    let new = (view_of c.find.new.self).disk in
    record {
      cause = search_halts_after (keeps_none (IsUnframed pool c.args.id) layout c.args.id old pool kept (λ none. none)) (λ p. p ≡ c.args.page) new c.in-Err.halt c.in-Err.ensures.fails.cause;
      counted = counted _ _ (view_of c.args.filer.now).disk (view_of c.find.new.self).disk _ (omega arith) c.in-Err.ensures.fails.cause;
      evidence_seen = λ of_file. so_of_map (fits (swapper_of c.args.filer.now) c.requires.size) c.find.ensures.leaves.beside.goes.makes c.in-Err.halt c.in-Err.ensures.fails.cause;
    }

pub returns-in-Ok-Some-clause-part : goal.returns-in-Ok-Some-clause-part
returns-in-Ok-Some-clause-part g c = (
  search rules,
  let layout = (view_of c.args.filer.now).layout in
      let old = (view_of c.args.filer.now).disk in
      let pool = (view_of c.args.filer.now).slots in
      let kept = runs_of layout.sectors c.args.filer.now.runs in
      let is_given = subst (λ (o : Option Run). IfSome o (λ run. IsGiven layout old pool kept run)) c.in-Ok-Some.field-0-is c.in-Ok-Some.ensures.given in
      let held = subst (λ (o : Option Run). IfSome o (λ run. holds run c.args.id c.args.page ≡ true)) c.in-Ok-Some.field-0-is c.in-Ok-Some.ensures.holds in
      let few : c.min-pages.result ≤ c.in-Ok-Some.run'.pages - (c.args.page - c.in-Ok-Some.run'.first) = search rules in
      let form = subst (λ (o : Option Run). IfSome o (λ run. IsRun layout.sectors run)) c.in-Ok-Some.field-0-is c.in-Ok-Some.ensures.form in
      part_homes layout old pool kept c.in-Ok-Some.run' is_given form c.args.id c.args.page c.min-pages.result held few,
)

pub returns-in-Err-clause-keeps : goal.returns-in-Err-clause-keeps
returns-in-Err-clause-keeps g c = λ of_file. keeps_read of_file c.find.ensures.leaves.beside c.find.ensures.leaves.same_bytes c.find.ensures.keeps.runs_given

pub returns-in-Ok-None-clause-keeps : goal.returns-in-Ok-None-clause-keeps
returns-in-Ok-None-clause-keeps g c = λ of_file. keeps_read of_file c.find.ensures.leaves.beside c.find.ensures.leaves.same_bytes c.find.ensures.keeps.runs_given

pub returns-in-Ok-Some-clause-keeps : goal.returns-in-Ok-Some-clause-keeps
returns-in-Ok-Some-clause-keeps g c = λ of_file. keeps_read of_file c.find.ensures.leaves.beside c.find.ensures.leaves.same_bytes c.find.ensures.keeps.runs_given

pub returns-in-Ok-Some-clause-accounts : goal.returns-in-Ok-Some-clause-accounts
returns-in-Ok-Some-clause-accounts g c = λ o named h. found_keeps c.args.filer.now.runs c.find.new.self.runs c.find.ensures.leaves.beside c.find.ensures.leaves.same c.find.ensures.keeps.runs_are h

pub returns-in-Err-clause-accounts : goal.returns-in-Err-clause-accounts
returns-in-Err-clause-accounts g c = λ o named h. (
  λ may. map_reasons h c.find.ensures.leaves.beside.goes.makes (accepted c.args.filer.now) c.in-Err.halt c.in-Err.ensures.fails.cause,
  λ sector is. let filer = c.args.filer.now in search_misses_none (view_of filer).layout (view_of filer).disk (view_of filer).slots (view_of c.find.new.self).disk c.in-Err.halt c.in-Err.ensures.fails.cause,
)

pub returns-in-Ok-None-clause-accounts : goal.returns-in-Ok-None-clause-accounts
returns-in-Ok-None-clause-accounts g c = λ o named h. (
  λ may. lack_reason h c.find.ensures.leaves.beside.goes.makes c.args.id c.args.page may (λ m named stands map. c.find.ensures.nowhere m named stands map (search rules)),
  λ sector is. let nowhere = c.find.ensures.nowhere h.memory named h.stands h.map (search rules) in absurd (true≢false (sym is ∙ nowhere sector)),
)

pub returns-in-Ok-Some-clause-stays : goal.returns-in-Ok-Some-clause-stays
returns-in-Ok-Some-clause-stays g c = record { same = c.find.ensures.leaves.same; beside = c.find.ensures.leaves.beside }

pub returns-in-Ok-None-clause-stays : goal.returns-in-Ok-None-clause-stays
returns-in-Ok-None-clause-stays g c = record { same = c.find.ensures.leaves.same; beside = c.find.ensures.leaves.beside }

pub returns-in-Err-clause-stays : goal.returns-in-Err-clause-stays
returns-in-Err-clause-stays g c = record { same = c.find.ensures.leaves.same; beside = c.find.ensures.leaves.beside }
