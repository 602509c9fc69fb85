use Rattle.std.proofs.Common.{rules, ◌≡◌, ◌∙◌, ◌/◌, refl, sym}
use Rattle.frame_pool.specs.Frames.{HasPage}
use Rattle.fault_core.specs.declared.reference.Access.TheVariants as access
use Rattle.fault_core.specs.Access.{Shows, access_of, last_page}
use Rattle.fault_core.specs.Attempt.{HasClient, IsAbsent, IsHere, IsReferred, IsUnfound}
use Rattle.fault_core.specs.Core.{kept, state}
use Rattle.fault_core.specs.Kept.{IsKept}
use Rattle.fault_core.specs.Unit.{IsSlotOf, IsWhole, file_page}
use Rattle.fault_core.proofs.AccessLemmas.{at_shown, both_seen, came_to}
use Rattle.fault_core.proofs.AttemptLemmas.{absent_wider, access_wider, client_slot, first_away, no_map_unmoved, read_only_unmoved, ready_always, ready_both, ready_wider, settled_unmoved, slot_shown, unfound_never, unfound_referred}
use Rattle.fault_core.proofs.OutcomeLemmas.{failed_on}
use Rattle.fault_core.proofs.KeptLemmas.{looked}
use Rattle.fault_core.proofs.core_over.Core.look_ahead.Goals as goal

-- ---- It is refused.

pub returns-in-Ok-NoMap-clause-comes : goal.returns-in-Ok-NoMap-clause-comes
returns-in-Ok-NoMap-clause-comes g c = record {
  clients = search rules;
  here = search rules;
  slots = search rules;
  granted = search rules;
  access = λ m named ss knows.
      came_to (access_of ss c.args.writes c.args.address c.args.count) c.in-Ok-NoMap.field-0 _ c.in-Ok-NoMap.field-0-is (c.in-Ok-NoMap.ensures.comes.access m named ss knows);
  absent = search rules;
  referred = search rules;
  unmoved = no_map_unmoved c.in-Ok-NoMap.page;
  present = search rules;
}

pub returns-in-Ok-ReadOnly-clause-comes : goal.returns-in-Ok-ReadOnly-clause-comes
returns-in-Ok-ReadOnly-clause-comes g c = record {
  clients = search rules;
  here = search rules;
  slots = search rules;
  granted = search rules;
  access = λ m named ss knows.
      came_to (access_of ss c.args.writes c.args.address c.args.count) c.in-Ok-ReadOnly.field-0 _ c.in-Ok-ReadOnly.field-0-is (c.in-Ok-ReadOnly.ensures.comes.access m named ss knows);
  absent = search rules;
  referred = search rules;
  unmoved = read_only_unmoved c.in-Ok-ReadOnly.page;
  present = search rules;
}

-- ---- Its pages are looked for.

pub look_for-requires-clause-first : goal.look_for-requires-clause-first
look_for-requires-clause-first g c =
    (at_shown (λ x y. Shows x (c.args.address / 512) × Shows y (last_page c.args.address c.args.count)) c.in-Ok-Shown.field-0 c.in-Ok-Shown.first c.in-Ok-Shown.last c.in-Ok-Shown.field-0-is c.in-Ok-Shown.ensures.comes.form).0

pub look_for-requires-clause-last : goal.look_for-requires-clause-last
look_for-requires-clause-last g c =
    (at_shown (λ x y. Shows x (c.args.address / 512) × Shows y (last_page c.args.address c.args.count)) c.in-Ok-Shown.field-0 c.in-Ok-Shown.first c.in-Ok-Shown.last c.in-Ok-Shown.field-0-is c.in-Ok-Shown.ensures.comes.form).1

pub returns-clause-comes : goal.returns-clause-comes
returns-clause-comes g c = record {
  clients =
      let x = c.in-Ok-Shown.first in
      let y = c.in-Ok-Shown.last in
      let p = c.args.address / 512 in
      let q = last_page c.args.address c.args.count in
      let pool = (state c.refer.new.self).slots in
      let form = at_shown (λ x y. Shows x p × Shows y q) c.in-Ok-Shown.field-0 x y c.in-Ok-Shown.field-0-is c.in-Ok-Shown.ensures.comes.form in
      let r = c.look_for.result in
      let first = ready_wider (λ i j. HasPage pool i x.id (file_page x p)) (λ i j. HasClient pool i) r (λ i j has. client_slot pool x p i form.0 has) c.look_for.ensures.first in
      let last = ready_wider (λ i j. HasPage pool j y.id (file_page y q)) (λ i j. HasClient pool j) r (λ i j has. client_slot pool y q j form.1 has) c.look_for.ensures.last in
      rw c.look_for.ensures.same (ready_both (λ i j. HasClient pool i) (λ i j. HasClient pool j) r first last);
  here =
      let x = c.in-Ok-Shown.first in
      let y = c.in-Ok-Shown.last in
      let p = c.args.address / 512 in
      let q = last_page c.args.address c.args.count in
      let pool = (state c.refer.new.self).slots in
      let form = at_shown (λ x y. Shows x p × Shows y q) c.in-Ok-Shown.field-0 x y c.in-Ok-Shown.field-0-is c.in-Ok-Shown.ensures.comes.form in
      let is_kept = at_shown (λ x y. IsKept (kept c.refer.new.self) y) c.in-Ok-Shown.field-0 x y c.in-Ok-Shown.field-0-is c.in-Ok-Shown.ensures.comes.is_kept in
      rw c.look_for.ensures.same (ready_wider (λ i j. HasPage pool j y.id (file_page y q)) (λ i j. IsHere (kept c.refer.new.self) pool q) c.look_for.result
      (λ i j has. record { interval = y; is_kept = is_kept; holds = form.1.holds; mapped = form.1.mapped; resident = (j, has) }) c.look_for.ensures.last);
  slots = λ m named ss knows.
      let x = c.in-Ok-Shown.first in
      let y = c.in-Ok-Shown.last in
      let p = c.args.address / 512 in
      let q = last_page c.args.address c.args.count in
      let pool = (state c.refer.new.self).slots in
      let form = at_shown (λ x y. Shows x p × Shows y q) c.in-Ok-Shown.field-0 x y c.in-Ok-Shown.field-0-is c.in-Ok-Shown.ensures.comes.form in
      let seen = both_seen knows c.in-Ok-Shown.field-0 x y p q c.in-Ok-Shown.field-0-is c.in-Ok-Shown.ensures.comes.form (c.in-Ok-Shown.ensures.comes.intervals_at m named ss knows) in
      let r = c.look_for.result in
      let first = ready_wider (λ i j. HasPage pool i x.id (file_page x p)) (λ i j. IsSlotOf ss pool p i) r (λ i j has. slot_shown pool x p seen.0 form.0 i has) c.look_for.ensures.first in
      let last = ready_wider (λ i j. HasPage pool j y.id (file_page y q)) (λ i j. IsSlotOf ss pool q j) r (λ i j has. slot_shown pool y q seen.1 form.1 j has) c.look_for.ensures.last in
      rw c.look_for.ensures.same (ready_both (λ i j. IsSlotOf ss pool p i) (λ i j. IsSlotOf ss pool q j) r first last);
  granted = λ m named ss knows.
      ready_always (access.Done ≡ access_of ss c.args.writes c.args.address c.args.count) c.look_for.result
      (came_to (access_of ss c.args.writes c.args.address c.args.count) c.in-Ok-Shown.field-0 _ c.in-Ok-Shown.field-0-is (c.in-Ok-Shown.ensures.comes.access m named ss knows));
  access = λ m named ss knows.
      access_wider (λ a. ⊥) (λ a. a ≡ access_of ss c.args.writes c.args.address c.args.count) c.look_for.result (λ a none. absurd none) c.look_for.ensures.no_access;
  absent = λ m named ss knows.
      let x = c.in-Ok-Shown.first in
      let y = c.in-Ok-Shown.last in
      let p = c.args.address / 512 in
      let q = last_page c.args.address c.args.count in
      let pool = (state c.refer.new.self).slots in
      let form = at_shown (λ x y. Shows x p × Shows y q) c.in-Ok-Shown.field-0 x y c.in-Ok-Shown.field-0-is c.in-Ok-Shown.ensures.comes.form in
      let seen = both_seen knows c.in-Ok-Shown.field-0 x y p q c.in-Ok-Shown.field-0-is c.in-Ok-Shown.ensures.comes.form (c.in-Ok-Shown.ensures.comes.intervals_at m named ss knows) in
      let granted = came_to (access_of ss c.args.writes c.args.address c.args.count) c.in-Ok-Shown.field-0 _ c.in-Ok-Shown.field-0-is (c.in-Ok-Shown.ensures.comes.access m named ss knows) in
      rw c.look_for.ensures.same (absent_wider (IsUnfound pool x y c.args.address c.args.count) (IsAbsent ss pool c.args.writes c.args.address c.args.count) c.look_for.result
      (λ page unfound. (sym granted, first_away pool x y c.args.address c.args.count page seen.0 seen.1 form.0 form.1 unfound)) c.look_for.ensures.absent);
  referred =
      let x = c.in-Ok-Shown.first in
      let y = c.in-Ok-Shown.last in
      let pool = (state c.refer.new.self).slots in
      absent_wider (IsUnfound pool x y c.args.address c.args.count) (IsReferred c.args.address c.args.count) c.look_for.result (unfound_referred pool x y c.args.address c.args.count) c.look_for.ensures.absent;
  unmoved = settled_unmoved c.look_for.result c.look_for.ensures.no_access;
  present = λ first last apart.
      let x = c.in-Ok-Shown.first in
      let y = c.in-Ok-Shown.last in
      let p = c.args.address / 512 in
      let q = last_page c.args.address c.args.count in
      let pool = (state c.refer.new.self).slots in
      let form = at_shown (λ x y. Shows x p × Shows y q) c.in-Ok-Shown.field-0 x y c.in-Ok-Shown.field-0-is c.in-Ok-Shown.ensures.comes.form in
      let one = c.in-Ok-Shown.ensures.idle first last apart in
      let whole = at_shown (λ x y. IsWhole (state c.args.self.now).slots x p × IsWhole (state c.args.self.now).slots y q) c.in-Ok-Shown.field-0 x y c.in-Ok-Shown.field-0-is one.0 in
      let x_whole : IsWhole pool x p = rw one.2 whole.0 in
      let y_whole : IsWhole pool y q = rw one.2 whole.1 in
      absent_wider (IsUnfound pool x y c.args.address c.args.count) (λ page. ⊥) c.look_for.result (λ page unfound. unfound_never pool x y c.args.address c.args.count page form.0 form.1 x_whole y_whole unfound) c.look_for.ensures.absent;
}

pub returns-clause-stays : goal.returns-clause-stays
returns-clause-stays g c = rw c.look_for.ensures.same c.refer.ensures.stays

pub returns-clause-idle : goal.returns-clause-idle
returns-clause-idle g c = λ first last apart.
    let one = c.in-Ok-Shown.ensures.idle first last apart in
    (refl, c.look_for.ensures.same ∙ one.2, one.3)

-- ---- Which pages stay.

pub returns-clause-brings : goal.returns-clause-brings
returns-clause-brings g c = rw c.look_for.ensures.same c.refer.ensures.brings

pub returns-in-Err-clause-fails : goal.returns-in-Err-clause-fails
returns-in-Err-clause-fails g c = failed_on c.in-Err.halt c.in-Err.ensures.fails

pub returns-in-Ok-NoMap-clause-fails : goal.returns-in-Ok-NoMap-clause-fails
returns-in-Ok-NoMap-clause-fails g c = record { cause = tt; right = λ ss s. tt; sound = λ m named ss knows. tt }

pub returns-in-Ok-NoMap-clause-stays : goal.returns-in-Ok-NoMap-clause-stays
returns-in-Ok-NoMap-clause-stays g c = c.refer.ensures.stays

pub returns-in-Ok-NoMap-clause-brings : goal.returns-in-Ok-NoMap-clause-brings
returns-in-Ok-NoMap-clause-brings g c = c.refer.ensures.brings

pub returns-in-Ok-NoMap-clause-idle : goal.returns-in-Ok-NoMap-clause-idle
returns-in-Ok-NoMap-clause-idle g c = λ first last apart. let one = c.in-Ok-NoMap.ensures.idle first last apart in (refl, one.2, one.3)

pub returns-in-Ok-NoMap-clause-cost : goal.returns-in-Ok-NoMap-clause-cost
returns-in-Ok-NoMap-clause-cost g c = c.refer.ensures.cost

pub returns-in-Ok-ReadOnly-clause-fails : goal.returns-in-Ok-ReadOnly-clause-fails
returns-in-Ok-ReadOnly-clause-fails g c = record { cause = tt; right = λ ss s. tt; sound = λ m named ss knows. tt }

pub returns-in-Ok-ReadOnly-clause-stays : goal.returns-in-Ok-ReadOnly-clause-stays
returns-in-Ok-ReadOnly-clause-stays g c = c.refer.ensures.stays

pub returns-in-Ok-ReadOnly-clause-brings : goal.returns-in-Ok-ReadOnly-clause-brings
returns-in-Ok-ReadOnly-clause-brings g c = c.refer.ensures.brings

pub returns-in-Ok-ReadOnly-clause-idle : goal.returns-in-Ok-ReadOnly-clause-idle
returns-in-Ok-ReadOnly-clause-idle g c = λ first last apart. let one = c.in-Ok-ReadOnly.ensures.idle first last apart in (refl, one.2, one.3)

pub returns-in-Ok-ReadOnly-clause-cost : goal.returns-in-Ok-ReadOnly-clause-cost
returns-in-Ok-ReadOnly-clause-cost g c = c.refer.ensures.cost

pub returns-in-Err-clause-comes : goal.returns-in-Err-clause-comes
returns-in-Err-clause-comes g c = record {
  clients = tt;
  here = tt;
  slots = λ m named ss knows. tt;
  granted = λ m named ss knows. tt;
  access = λ m named ss knows. tt;
  absent = λ m named ss knows. tt;
  referred = tt;
  unmoved = tt;
  present = λ first last apart. tt;
}

pub returns-in-Err-clause-stays : goal.returns-in-Err-clause-stays
returns-in-Err-clause-stays g c = c.refer.ensures.stays

pub returns-in-Err-clause-brings : goal.returns-in-Err-clause-brings
returns-in-Err-clause-brings g c = c.refer.ensures.brings

pub returns-in-Err-clause-idle : goal.returns-in-Err-clause-idle
returns-in-Err-clause-idle g c = λ first last apart. let one = c.in-Err.ensures.idle first last apart in (one.1, one.2, one.3)

pub returns-in-Err-clause-cost : goal.returns-in-Err-clause-cost
returns-in-Err-clause-cost g c = c.refer.ensures.cost

pub returns-clause-fails : goal.returns-clause-fails
returns-clause-fails g c = record { cause = tt; right = λ ss s. tt; sound = λ m named ss knows. tt }

pub returns-clause-cost : goal.returns-clause-cost
returns-clause-cost g c = rw c.look_for.ensures.same c.refer.ensures.cost
