use Rattle.std.proofs.Common.{rules, ◌≡◌, ◌∙◌, ◌/◌, ◌≤◌, true, false, refl, sym, subst, arith}
use Rattle.std.proofs.lemmas.Bool.{true≢false}
use Rattle.descriptor_cache.specs.Cache.{kept_in}
use Rattle.swap_units.specs.declared.interval.Interval.{Interval}
use Rattle.swap_units.specs.Mode.{is_mapped}
use Rattle.filer_kernel.specs.View.{view_of}
use Rattle.fault_core.specs.Access.{is_load_only}
use Rattle.fault_core.specs.Unit.{IsWhole}
use Rattle.fault_core.proofs.KeptLemmas.{looked}
use Rattle.fault_core.proofs.ReadyLemmas.{hand_looked, hand_same}
use Rattle.fault_core.proofs.RowLemmas.{byte_hand, ends_below, here_of}
use Rattle.fault_core.proofs.ShowLemmas.{seen_of}
use Rattle.fault_core.proofs.UnitLemmas.{own_unit, run_of_whole}
use Rattle.fault_core.proofs.ready.load_unit.Goals as goal

pub unit_run-run-requires-clause-formed : goal.unit_run-run-requires-clause-formed
unit_run-run-requires-clause-formed g c = (looked (kept_in c.args.kept.now) (c.args.address / 512) c.in-Some.x c.requires.formed (sym c.look.ensures.found ∙ c.in-Some.is)).formed

pub unit_run-run-requires-clause-holds : goal.unit_run-run-requires-clause-holds
unit_run-run-requires-clause-holds g c = (looked (kept_in c.args.kept.now) (c.args.address / 512) c.in-Some.x c.requires.formed (sym c.look.ensures.found ∙ c.in-Some.is)).holds

pub overflow_sub-page : goal.overflow_sub-page
overflow_sub-page g c = (looked (kept_in c.args.kept.now) (c.args.address / 512) c.in-Some.x c.requires.formed (sym c.look.ensures.found ∙ c.in-Some.is)).holds.0

pub overflow_add-x : goal.overflow_add-x
overflow_add-x g c =
    let own = looked (kept_in c.args.kept.now) (c.args.address / 512) c.in-Some.x c.requires.formed (sym c.look.ensures.found ∙ c.in-Some.is) in
    let lets : c.lets.result ≡ true = search rules in
    let holds = own.holds in
    let fits = (own.formed.shows (c.lets.ensures.mapped lets)).1 in
    omega (arith, holds, fits)

-- the page of the file is one of the unit's
pub bytes_left-requires-clause-among : goal.bytes_left-requires-clause-among
bytes_left-requires-clause-among g c =
    let own = looked (kept_in c.args.kept.now) (c.args.address / 512) c.in-Some.x c.requires.formed (sym c.look.ensures.found ∙ c.in-Some.is) in
    let at = c.unit_run-run.ensures.all (c.args.address / 512) (own_unit c.in-Some.x (c.args.address / 512) own.holds) in
    (omega (arith, at.1, at.2), omega (arith, at.1, at.2))

pub load_parts-requires-clause-formed : goal.load_parts-requires-clause-formed
load_parts-requires-clause-formed g c = (looked (kept_in c.args.kept.now) (c.args.address / 512) c.in-Some.x c.requires.formed (sym c.look.ensures.found ∙ c.in-Some.is)).formed

-- the unit is resident, so all of these pages are
pub load_parts-requires-clause-here : goal.load_parts-requires-clause-here
load_parts-requires-clause-here g c =
    let own = looked (kept_in c.args.kept.now) (c.args.address / 512) c.in-Some.x c.requires.formed (sym c.look.ensures.found ∙ c.in-Some.is) in
    let there : c.is_there.result ≡ true = search rules in
    let few : c.min-count.result ≤ c.bytes_left.result = search rules in
    rw c.is_there.ensures.same
    (here_of c.in-Some.x (c.args.address / 512) c.unit_run-run.result c.unit_run-run.ensures own.holds c.args.address c.min-count.result c.bytes_left.result refl c.bytes_left.ensures few (view_of c.args.filer.now).slots (c.is_there.ensures.there.0 there))

pub load_parts-requires-clause-below : goal.load_parts-requires-clause-below
load_parts-requires-clause-below g c =
    let own = looked (kept_in c.args.kept.now) (c.args.address / 512) c.in-Some.x c.requires.formed (sym c.look.ensures.found ∙ c.in-Some.is) in
    let few : c.min-count.result ≤ c.bytes_left.result = search rules in
    ends_below c.in-Some.x (c.args.address / 512) c.unit_run-run.result c.unit_run-run.ensures own.holds c.args.address c.min-count.result c.bytes_left.result refl c.bytes_left.ensures few own.formed

pub returns-clause-hand : goal.returns-clause-hand
returns-clause-hand g c = λ k below.
    let own = looked (kept_in c.args.kept.now) (c.args.address / 512) c.in-Some.x c.requires.formed (sym c.look.ensures.found ∙ c.in-Some.is) in
    let lets : c.lets.result ≡ true = search rules in
    let there : c.is_there.result ≡ true = search rules in
    let few : c.min-count.result ≤ c.bytes_left.result = search rules in
    byte_hand (view_of c.args.filer.now).slots c.in-Some.x c.args.address c.min-count.result
    (here_of c.in-Some.x (c.args.address / 512) c.unit_run-run.result c.unit_run-run.ensures own.holds c.args.address c.min-count.result c.bytes_left.result refl c.bytes_left.ensures few (view_of c.args.filer.now).slots (c.is_there.ensures.there.0 there))
    (kept_in c.args.kept.now) own.kept own.formed (c.lets.ensures.mapped lets) k below

pub returns-clause-bytes : goal.returns-clause-bytes
returns-clause-bytes g c = λ n m named ss r.
    let own = looked (kept_in c.args.kept.now) (c.args.address / 512) c.in-Some.x c.requires.formed (sym c.look.ensures.found ∙ c.in-Some.is) in
    let lets : c.lets.result ≡ true = search rules in
    (rw c.is_there.ensures.same at c.load_parts.ensures.bytes) m named r.bytes ss r.known (seen_of r.tables c.in-Some.x (r.cached c.in-Some.x own.kept) (c.lets.ensures.mapped lets) named m r.stored)

-- ---- A first byte at hand is among them.

pub returns-in_default-clause-first : goal.returns-in_default-clause-first
returns-in_default-clause-first g c = λ slot h apart some. absurd (c.in_default.not-Some h.interval (c.look.ensures.found ∙ hand_looked h apart))

pub returns-then-not-lets-clause-first : goal.returns-then-not-lets-clause-first
returns-then-not-lets-clause-first g c = λ slot h apart some.
    let same = hand_same h apart c.in-Some.x (sym c.look.ensures.found ∙ c.in-Some.is) in
    let not : c.lets.result ≡ false = search rules in
    let mapped = subst (λ (x : Interval). is_mapped x.mode ≡ true) same h.shows.mapped in
    let allowed = subst (λ (x : Interval). false ≡ true → is_load_only x ≡ false) same h.allowed in
    absurd (true≢false (sym (c.lets.ensures.all mapped allowed) ∙ not))

pub returns-then-not-is_there-clause-first : goal.returns-then-not-is_there-clause-first
returns-then-not-is_there-clause-first g c = λ slot h apart some.
    let slots = (view_of c.args.filer.now).slots in
    let same = hand_same h apart c.in-Some.x (sym c.look.ensures.found ∙ c.in-Some.is) in
    let not : c.is_there.result ≡ false = search rules in
    let whole = subst (λ (x : Interval). IsWhole slots x (c.args.address / 512)) same h.whole in
    absurd (true≢false (sym (c.is_there.ensures.there.1 (run_of_whole c.unit_run-run.ensures slots whole)) ∙ not))

pub returns-clause-first : goal.returns-clause-first
returns-clause-first g c = λ slot h apart some.
    let own = looked (kept_in c.args.kept.now) (c.args.address / 512) c.in-Some.x c.requires.formed (sym c.look.ensures.found ∙ c.in-Some.is) in
    let at = c.unit_run-run.ensures.all (c.args.address / 512) (own_unit c.in-Some.x (c.args.address / 512) own.holds) in
    let left = c.bytes_left.ensures in
    omega (arith, left, at.1, at.2, some)
