use Rattle.std.proofs.Common.{refl, rules, ℕ, Option, subst, ◌<◌, ◌∙◌, ◌^◌, arith}
use Rattle.std.specs.Prelude.{IfSome}
use Rattle.pilot_engine.proofs.ClearedUpTo.{cleared_all, cleared_more, cleared_none, cleared_paid, cleared_sound, cleared_stops}
use Rattle.pilot_engine.proofs.WroteLemmas.{wrote_then}
use Rattle.fault_core.specs.Core.{state}
use Rattle.labelled_disk.specs.declared.layout.Layout.{Layout}
use Rattle.file_manager.specs.Reasons.{ShowsReason}
use Rattle.pilot_engine.proofs.WritingLemmas.{clears_none, clears_then}
use Rattle.session_words.specs.Volume.{volume_page}
use Rattle.swapper_kernel.specs.GoesLaws.{makes_nothing}
use Rattle.pilot_engine.proofs.FailSteps.{fails_after}
use Rattle.pilot_engine.proofs.session.Session.delete_temporary.Goals as goal
use Rattle.filer_kernel.specs.View.{disk_of}

pub files-init : goal.files-init
files-init g c = (cleared_none _ _ _ _ _ c.requires.set_up.size c.requires.set_up.opened (g.met.D.Disk.in_form (disk_of c.args.self.now.core.filer)), λ o keeps seen. seen, clears_none (makes_nothing volume_page (state c.args.self.now.core).disk (state c.args.self.now.core).slots) refl)

pub delete_next-requires-clause-set_up : goal.delete_next-requires-clause-set_up
delete_next-requires-clause-set_up g c = record { size = c.files.invariant.0.size; opened = c.files.invariant.0.opened }

pub delete_next-requires-clause-client : goal.delete_next-requires-clause-client
delete_next-requires-clause-client g c = c.files.invariant.0.above

pub files-smaller : goal.files-smaller
files-smaller g c =
    let above : c.files.cursor < c.in-Ok-Some.id = subst (λ (o : Option ℕ). IfSome o (λ j. c.files.cursor < j)) c.in-Ok-Some.field-0-is c.in-Ok-Some.ensures.above in
    let fits : c.in-Ok-Some.id < 2 ^ 64 = search rules in
    omega (arith, above, fits)

pub files-preserved : goal.files-preserved
files-preserved g c = (
  cleared_more _ _ _ _ _ _ _ _ _ _ _ c.files.invariant.0 _ _ _ _ _ _ _ c.in-Ok-Some.field-0-is (λ spaces_of m s. (c.in-Ok-Some.ensures.ends spaces_of m s).gives) (λ spaces_of m s. (c.delete_next.ensures.ends spaces_of m s).stops) c.in-Ok-Some.ensures.above c.delete_next.ensures.clears.wrote (λ o k. (c.in-Ok-Some.ensures.accounts o k).keeps_to) c.delete_next.ensures.clears.open_still c.delete_next.ensures.clears.layout c.in-Ok-Some.ensures.paid,
  λ o keeps seen. (c.in-Ok-Some.ensures.accounts o (c.files.invariant.0.keeps o keeps)).sees (c.files.invariant.1 o keeps seen),
  clears_then c.files.invariant.2 c.delete_next.ensures.clears.spares,
)

pub returns-in-Ok-None-clause-ends : goal.returns-in-Ok-None-clause-ends
returns-in-Ok-None-clause-ends g c = λ spaces_of m s. record {
  gives = cleared_all _ _ _ _ _ _ _ _ _ _ _ c.files.invariant.0 _ _ _ _ _ _ c.in-Ok-None.field-0-is (λ spaces_of m s. (c.in-Ok-None.ensures.ends spaces_of m s).gives) spaces_of m s;
  sound = tt;
  stops = cleared_stops _ _ _ _ _ _ _ _ _ _ _ c.files.invariant.0 _ (state c.delete_next.new.self.core).slots (state c.delete_next.new.self.core).layout c.delete_next.new.self.core.filer.runs c.delete_next.new.self.volume (λ spaces_of m s. (c.delete_next.ensures.ends spaces_of m s).stops) spaces_of m s;
}

pub returns-in-Ok-None-clause-clears : goal.returns-in-Ok-None-clause-clears
returns-in-Ok-None-clause-clears g c = record {
  wrote = wrote_then c.files.invariant.0.wrote c.delete_next.ensures.clears.wrote;
  spares = clears_then c.files.invariant.2 c.delete_next.ensures.clears.spares;
  open_still = c.delete_next.ensures.clears.open_still;
  layout = c.delete_next.ensures.clears.layout ∙ c.files.invariant.0.same_layout;
}

pub returns-in-Err-clause-ends : goal.returns-in-Err-clause-ends
returns-in-Err-clause-ends g c = λ spaces_of m s. record {
  gives = tt;
  sound = cleared_sound _ _ _ _ _ _ _ _ _ _ _ c.files.invariant.0 _ (λ spaces_of m s. (c.in-Err.ensures.ends spaces_of m s).sound) spaces_of m s;
  stops = cleared_stops _ _ _ _ _ _ _ _ _ _ _ c.files.invariant.0 _ (state c.delete_next.new.self.core).slots (state c.delete_next.new.self.core).layout c.delete_next.new.self.core.filer.runs c.delete_next.new.self.volume (λ spaces_of m s. (c.delete_next.ensures.ends spaces_of m s).stops) spaces_of m s;
}

pub returns-in-Err-clause-clears : goal.returns-in-Err-clause-clears
returns-in-Err-clause-clears g c = record {
  wrote = wrote_then c.files.invariant.0.wrote c.delete_next.ensures.clears.wrote;
  spares = clears_then c.files.invariant.2 c.delete_next.ensures.clears.spares;
  open_still = c.delete_next.ensures.clears.open_still;
  layout = c.delete_next.ensures.clears.layout ∙ c.files.invariant.0.same_layout;
}

pub returns-in-Ok-None-clause-cost : goal.returns-in-Ok-None-clause-cost
returns-in-Ok-None-clause-cost g c = cleared_paid _ _ _ _ _ _ _ _ _ _ _ c.files.invariant.0 (state c.delete_next.new.self.core).disk.transfers c.delete_next.ensures.cost

pub returns-in-Err-clause-cost : goal.returns-in-Err-clause-cost
returns-in-Err-clause-cost g c = cleared_paid _ _ _ _ _ _ _ _ _ _ _ c.files.invariant.0 (state c.delete_next.new.self.core).disk.transfers c.delete_next.ensures.cost

-- ---- Why it failed.

pub returns-in-Err-clause-fails : goal.returns-in-Err-clause-fails
returns-in-Err-clause-fails g c = fails_after c.files.invariant.0.wrote.makes.went.faults (λ h. (state c.files.self.core, (c.files.invariant.0.wrote, c.files.invariant.0.same_layout), h)) c.in-Err.ensures.fails

-- ---- What began stays a reason.

pub returns-in-Ok-None-clause-accounts : goal.returns-in-Ok-None-clause-accounts
returns-in-Ok-None-clause-accounts g c = λ o k. record {
  keeps_to = ((c.in-Ok-None.ensures.accounts o (c.files.invariant.0.keeps o k)).keeps_to);
  reasons = tt;
  sees = (λ seen. (c.in-Ok-None.ensures.accounts o (c.files.invariant.0.keeps o k)).sees (c.files.invariant.1 o k seen));
}

pub returns-in-Err-clause-accounts : goal.returns-in-Err-clause-accounts
returns-in-Err-clause-accounts g c = λ o k. record {
  keeps_to = tt;
  reasons = (subst (λ (l : Layout). ShowsReason o l (state c.delete_next.new.self.core).disk c.in-Err.halt) c.files.invariant.0.same_layout ((c.in-Err.ensures.accounts o (c.files.invariant.0.keeps o k)).reasons));
  sees = (λ seen. (c.in-Err.ensures.accounts o (c.files.invariant.0.keeps o k)).sees (c.files.invariant.1 o k seen));
}
