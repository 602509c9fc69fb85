use Rattle.std.proofs.Common.{◌≡◌, ◌∙◌, rules, true, false, refl, subst, ap, ℕ, arith}
use Rattle.swapper_kernel.specs.Differs.{Differs}
use Rattle.swapper_kernel.specs.DiffersLaws.{differs_itself}
use Rattle.swapper_kernel.specs.Goes.{no_page}
use Rattle.session_words.specs.CellLaws.{is_killed}
use Rattle.fault_core.specs.Kill.{LeavesCore, is_absent, may_store}
use Rattle.fault_core.specs.Core.{kept, state}
use Rattle.filer_kernel.specs.View.{accepted, view_of}
use Rattle.fault_core.proofs.BeforeLemmas.{touches_of, touches_then}
use Rattle.fault_core.proofs.KilledLemmas.{part_kept, part_left, part_stored}
use Rattle.fault_core.proofs.RevealedLemmas.{interval_of}
use Rattle.fault_core.proofs.NeverBlamesLemmas.{sees_touched}
use Rattle.fault_core.proofs.OutcomeLemmas.{failed_on, stays_seen}
use Rattle.fault_core.proofs.core_over.Core.kill_part.Goals as goal

pub returns-in-Err-clause-left : goal.returns-in-Err-clause-left
returns-in-Err-clause-left g c = λ m named ss range knows from to.
    record { memory = m; changed = differs_itself (is_killed (state c.args.self.now).layout.sectors ss range) m; revealed = c.part_at.ensures.stays.same m named ss knows }

pub returns-in-Err-clause-brings : goal.returns-in-Err-clause-brings
returns-in-Err-clause-brings g c = record {
  touches = touches_of _ c.part_at.ensures.brings.reaches;
  came = search rules;
}

-- ---- Nothing may be stored there.

pub returns-then-not-may_store-clause-comes : goal.returns-then-not-may_store-clause-comes
returns-then-not-may_store-clause-comes g c = record {
  next = search rules;
  part = c.in-Ok.ensures.comes.next;
  gone = λ m named ss knows.
      let r = c.in-Ok.part in
      let bare : may_store r.0 ≡ false = search rules in
      part_kept (accepted c.part_at.new.self.filer) (c.part_at.ensures.stays.same m named ss knows) r.0 (interval_of ss c.args.page r.0 (c.in-Ok.ensures.comes.interval m named ss knows)) c.args.page r.1 c.in-Ok.ensures.comes.form.1 c.in-Ok.ensures.comes.part.inside
      (is_absent (state c.part_at.new.self).slots) bare;
}

pub returns-then-not-may_store-clause-left : goal.returns-then-not-may_store-clause-left
returns-then-not-may_store-clause-left g c = λ m named ss range knows from to.
    record { memory = m; changed = differs_itself (is_killed (state c.args.self.now).layout.sectors ss range) m; revealed = c.part_at.ensures.stays.same m named ss knows }

pub returns-then-not-may_store-clause-brings : goal.returns-then-not-may_store-clause-brings
returns-then-not-may_store-clause-brings g c = record {
  touches = touches_of _ c.part_at.ensures.brings.reaches;
  came = search rules;
}

-- ---- The pages are given up.

pub returns-clause-comes : goal.returns-clause-comes
returns-clause-comes g c = record {
  next = search rules;
  part = c.in-Ok.ensures.comes.next;
  gone = λ m named ss knows.
      let r = c.in-Ok.part in
      let may : may_store r.0 ≡ true = search rules in
      part_stored (accepted c.part_at.new.self.filer) (c.part_at.ensures.stays.same m named ss knows) r.0 (interval_of ss c.args.page r.0 (c.in-Ok.ensures.comes.interval m named ss knows)) c.args.page r.1 c.in-Ok.ensures.comes.form.1 c.in-Ok.ensures.comes.part.inside
      (is_absent (view_of c.discard_shown.new.filer).slots) may c.discard_shown.ensures.gone;
}

pub returns-clause-left : goal.returns-clause-left
returns-clause-left g c = λ m named ss range knows from to.
    let r = c.in-Ok.part in
    let may : may_store r.0 ≡ true = search rules in
    let revealed = c.part_at.ensures.stays.same m named ss knows in
    let last = c.in-Ok.ensures.comes.part.within in
    subst (λ (n : ℕ). LeavesCore (Differs (is_killed n ss range)) m named ss (view_of c.discard_shown.new.filer) (kept c.part_at.new.self) c.part_at.new.self.intervals) (ap (λ l. l.sectors) c.part_at.ensures.brings.reaches.layout)
    (part_left (accepted c.part_at.new.self.filer) revealed r.0 (interval_of ss c.args.page r.0 (c.in-Ok.ensures.comes.interval m named ss knows)) c.args.page r.1 c.in-Ok.ensures.comes.form.1 c.in-Ok.ensures.comes.part.inside may (view_of c.discard_shown.new.filer) range from
    (omega (arith, to, last)) (c.discard_shown.ensures.left m named revealed.bytes revealed.known))

pub returns-clause-brings : goal.returns-clause-brings
returns-clause-brings g c = record {
  touches =
      touches_then (state c.args.self.now) (state c.part_at.new.self) (accepted c.args.self.now.filer) (touches_of _ c.part_at.ensures.brings.reaches) (view_of c.discard_shown.new.filer) c.discard_shown.ensures.touches;
  came = search rules;
}

-- ---- No table was asked.

pub returns-in-Err-clause-idle : goal.returns-in-Err-clause-idle
returns-in-Err-clause-idle g c = λ x found. let e = c.in-Err.ensures.idle x found in (e.0, (λ i. (view_of (e.1 i)).disk), e.2)

pub returns-then-not-may_store-clause-idle : goal.returns-then-not-may_store-clause-idle
returns-then-not-may_store-clause-idle g c = λ x found. let e = c.in-Ok.ensures.idle x found in (refl, (λ i. (view_of (e.1 i)).disk), e.2)

pub returns-clause-idle : goal.returns-clause-idle
returns-clause-idle g c = λ x found.
    let e = c.in-Ok.ensures.idle x found in
    (refl, (λ i. g.D.Disk.state (c.discard_shown.ensures.disk i)) ∙ (λ i. (view_of (e.1 i)).disk), e.2)

-- ---- The tables are revealed.

pub returns-clause-stays : goal.returns-clause-stays
returns-clause-stays g c = record {
  sees = λ ss s. sees_touched (c.part_at.ensures.stays.sees ss s) no_page (view_of c.discard_shown.new.filer) c.discard_shown.ensures.touches;
  intervals = search rules;
}

pub returns-in-Err-clause-fails : goal.returns-in-Err-clause-fails
returns-in-Err-clause-fails g c = failed_on c.in-Err.halt c.in-Err.ensures.fails

pub returns-in-Err-clause-stays : goal.returns-in-Err-clause-stays
returns-in-Err-clause-stays g c = stays_seen c.part_at.ensures.stays

pub returns-then-not-may_store-clause-stays : goal.returns-then-not-may_store-clause-stays
returns-then-not-may_store-clause-stays g c = stays_seen c.part_at.ensures.stays
