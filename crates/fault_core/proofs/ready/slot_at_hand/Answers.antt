use Rattle.std.proofs.Common.{rules, ◌≡◌, ◌∙◌, ◌+◌, ◌/◌, ◌%◌, ◌≤◌, true, sym}
use Rattle.descriptor_cache.specs.Cache.{kept_in}
use Rattle.filer_kernel.specs.View.{view_of}
use Rattle.fault_core.specs.Access.{Shows}
use Rattle.fault_core.proofs.KeptLemmas.{looked}
use Rattle.fault_core.proofs.ReadyLemmas.{at_hand}
use Rattle.fault_core.proofs.ready.slot_at_hand.Goals as goal

pub whole_slot-requires : goal.whole_slot-requires
whole_slot-requires g c =
    let own = looked (kept_in c.args.kept.now) (c.args.address / 512) c.in-Some.x c.requires.formed (sym c.look.ensures.found ∙ c.in-Some.is) in
    let lets : c.lets.result ≡ true = search rules in
    record { shows = record { formed = own.formed; holds = own.holds; mapped = c.lets.ensures.mapped lets } }

pub returns-clause-ready : goal.returns-clause-ready
returns-clause-ready g c =
    let own = looked (kept_in c.args.kept.now) (c.args.address / 512) c.in-Some.x c.requires.formed (sym c.look.ensures.found ∙ c.in-Some.is) in
    let lets : c.lets.result ≡ true = search rules in
    let inside : c.args.address % 512 + c.args.count ≤ 512 = search rules in
    let shows : Shows c.in-Some.x (c.args.address / 512) = record { formed = own.formed; holds = own.holds; mapped = c.lets.ensures.mapped lets } in
    at_hand (kept_in c.args.kept.now) (view_of c.args.filer.now).slots c.args.writes c.args.address c.args.count c.in-Some.x own.kept shows (c.lets.ensures.allowed lets) inside
    c.whole_slot.result c.whole_slot.ensures.slot c.whole_slot.ensures.whole
