use Rattle.std.proofs.Common.{◌≡◌, inl, inr, ℕ, true, false, sym, ◌∙◌, subst, rules}
use Rattle.std.proofs.lemmas.Bool.{true≢false}
use Rattle.labelled_disk.specs.Label.{names, leader_page}
use Rattle.label_calls.specs.Labels.{ones_of}
use Rattle.label_calls.proofs.RelabelLemmas.{in_memory}
use Rattle.filer_kernel.specs.Evidence.{MayBeIn}
use Rattle.filer_kernel.specs.EvidenceLaws.{label_after}
use Rattle.file_manager.proofs.SoLemmas.{fault_shows}
use Rattle.swapper_kernel.specs.Homes.{home_at}
use Rattle.file_manager.specs.LaterLaws.{at_home_later}
use Rattle.file_manager.proofs.KeepSteps.{keeps_at, keeps_revealed}
use Rattle.file_manager.proofs.ReasonCauses.{fault_reason}
use Rattle.file_manager.proofs.finding.read_leader.Goals as goal
use Rattle.filer_kernel.specs.View.{accepted, view_of}

pub returns-then-not-names-clause-sound : goal.returns-then-not-names-clause-sound
returns-then-not-names-clause-sound g c = λ m stands one.
    let named : names c.in-Ok.found (record { id = c.args.id; page = leader_page }) ≡ true =
    in_memory (ones_of (record { id = c.args.id; page = leader_page })) _ _ _ c.in-Ok.found m (rw c.swapper_over-swapper.ensures.value at c.in-Ok.ensures.found) stands one in
    let other : names c.in-Ok.found (record { id = c.args.id; page = leader_page }) ≡ false = search rules in
    absurd (true≢false (sym named ∙ other))

pub returns-in-Err-clause-evidence_seen : goal.returns-in-Err-clause-evidence_seen
returns-in-Err-clause-evidence_seen g c = λ may. fault_shows (g.D.Disk.state c.read_label.new.memory.disk) c.in-Err.halt ((rw c.swapper_over-swapper.ensures.value at c.in-Err.ensures.cause).0)

pub returns-then-not-names-clause-evidence_seen : goal.returns-then-not-names-clause-evidence_seen
returns-then-not-names-clause-evidence_seen g c = λ may.
    let found = rw c.swapper_over-swapper.ensures.value at c.in-Ok.ensures.found in
    let makes = rw c.swapper_over-swapper.ensures.value at c.read_label.ensures.makes in
    let other : names c.in-Ok.found (record { id = c.args.id; page = leader_page }) ≡ false = search rules in
    (label_after makes.wrote c.args.sector c.in-Ok.found found, inr other, subst (λ (n : ℕ). MayBeIn n c.args.sector (record { id = c.args.id; page = leader_page })) (sym makes.went.sectors) may)

-- ---- What it keeps to, and the reasons of its halts.

pub returns-clause-keeps_to : goal.returns-clause-keeps_to
returns-clause-keeps_to g c = λ o named k.
    let same = rw c.swapper_over-swapper.ensures.value at c.read_label.ensures.same in
    let makes = rw c.swapper_over-swapper.ensures.value at c.read_label.ensures.makes in
    let frames = rw c.swapper_over-swapper.ensures.value at c.read_label.ensures.frames in
    let lay = rw c.swapper_over-swapper.ensures.value at c.read_label.ensures.layout in
    keeps_at c.args.filer.now.runs lay (keeps_revealed (accepted c.args.filer.now) k same makes frames)

pub returns-in-Err-clause-reasons : goal.returns-in-Err-clause-reasons
returns-in-Err-clause-reasons g c = λ o named k led.
    fault_reason o (view_of c.args.filer.now).layout (g.D.Disk.state c.read_label.new.memory.disk) c.in-Err.halt ((rw c.swapper_over-swapper.ensures.value at c.in-Err.ensures.cause).0)

pub returns-then-not-names-clause-reasons : goal.returns-then-not-names-clause-reasons
returns-then-not-names-clause-reasons g c = λ o named k led.
    let makes = rw c.swapper_over-swapper.ensures.value at c.read_label.ensures.makes in
    let home = home_at c.args.sector (record { id = c.args.id; page = leader_page }) in
    inr (inl (at_home_later o makes home (k.homes home led)))
