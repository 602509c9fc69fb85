use Rattle.std.proofs.Common.{◌≡◌, ◌≤◌, Option, true, subst, sym, ◌∙◌, inr, Ok, ap, refl}
use Rattle.std.specs.Prelude.{IfSome}
use Rattle.std.proofs.lemmas.Bool.{true≢false}
use Rattle.file_map.specs.declared.run.Run.{Run}
use Rattle.file_map.specs.Run.{holds, IsRun}
use Rattle.file_map.specs.FileMap.{IsFound}
use Rattle.filer_kernel.specs.Causes.{IsGiven}
use Rattle.fault_core.specs.Reach.{no_break}
use Rattle.fault_core.specs.ReachLaws.{reach_misses, touch_of_reach}
use Rattle.filer_kernel.specs.View.{kept_by, view_of}
use Rattle.swapper_kernel.specs.Goes.{this_page}
use Rattle.swapper_kernel.specs.HaltLaws.{brings_itself}
use Rattle.fault_core.proofs.ReachLemmas.{reaches_itself}
use Rattle.fault_core.proofs.RoomLemmas.{room_itself}
use Rattle.fault_core.proofs.YieldLemmas.{yield_itself}
use Rattle.fault_core.proofs.search.run_at.Goals as goal

pub returns-in-Ok-Some-clause-holds : goal.returns-in-Ok-Some-clause-holds
returns-in-Ok-Some-clause-holds g c = subst (λ (o : Option Run). IfSome o (λ run. holds run c.args.id c.args.page ≡ true)) c.in-Ok-Some.field-0-is c.in-Ok-Some.ensures.comes.holds

pub returns-in-Ok-Some-clause-which : goal.returns-in-Ok-Some-clause-which
returns-in-Ok-Some-clause-which g c =
    let v = view_of c.args.filer.now in
    inr (record {
      form = subst (λ (o : Option Run). IfSome o (IsRun v.layout.sectors)) c.in-Ok-Some.field-0-is c.in-Ok-Some.ensures.comes.form;
      given = subst (λ (o : Option Run). IfSome o (IsGiven v.layout v.disk v.slots (kept_by v))) c.in-Ok-Some.field-0-is c.in-Ok-Some.ensures.comes.given;
      named = λ m named b known p held. (subst (IsFound named c.args.id c.args.page) c.in-Ok-Some.field-0-is (c.in-Ok-Some.ensures.comes.found m named b known)).1 p held;
    })

pub returns-in-Ok-None-clause-cause : goal.returns-in-Ok-None-clause-cause
returns-in-Ok-None-clause-cause g c =
    (inr c.requires.client, λ m named stands map. c.run_of.ensures.comes.nowhere m named stands map (c.in-Ok-None.is ∙ ap (λ (o : Option Run). Ok o) c.in-Ok-None.field-0-is))

pub returns-in-Ok-None-clause-sound : goal.returns-in-Ok-None-clause-sound
returns-in-Ok-None-clause-sound g c = λ m named b sector known found.
    absurd (true≢false (sym found ∙ subst (IsFound named c.args.id c.args.page) c.in-Ok-None.field-0-is (c.in-Ok-None.ensures.comes.found m named b known) sector))

pub returns-in-Err-clause-cause : goal.returns-in-Err-clause-cause
returns-in-Err-clause-cause g c = touch_of_reach no_break (view_of c.args.filer.now) (view_of c.run_of.new.filer) c.in-Err.halt c.in-Err.ensures.cause

pub returns-in-Err-clause-sound : goal.returns-in-Err-clause-sound
returns-in-Err-clause-sound g c = λ m named b sector known found. c.in-Err.ensures.sound m named b known

pub returns-in-Ok-None-clause-misses : goal.returns-in-Ok-None-clause-misses
returns-in-Ok-None-clause-misses g c = inr (refl, refl)

pub returns-in-Err-clause-misses : goal.returns-in-Err-clause-misses
returns-in-Err-clause-misses g c = reach_misses no_break (view_of c.args.filer.now) (view_of c.run_of.new.filer) (this_page c.args.id c.args.page) c.in-Err.halt c.in-Err.ensures.cause

pub returns-then-holds-clause-brings : goal.returns-then-holds-clause-brings
returns-then-holds-clause-brings g c =
    let v = view_of c.args.filer.now in
    record { reaches = reaches_itself v; came = brings_itself (λ home. (1 ≤ home.id) × (home.id ≤ 3)) v.slots; room = room_itself v.slots; stay = yield_itself v.slots }
