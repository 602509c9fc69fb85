use Rattle.std.proofs.Common.{◌≡◌, ℕ, ◌<◌, length, refl, sym, ◌∙◌, Some, arith}
use Rattle.space_tables.proofs.ReadBack.{slot_read, none_of, some_of, there}
use Rattle.space_tables.proofs.records.slot.Goals as goal

pub returns-in-Some-clause-slot : goal.returns-in-Some-clause-slot
returns-in-Some-clause-slot g c = λ slots xs h ok.
    let read = slot_read h.bytes slots xs h.are ok c.args.handle c.load.new.into c.requires.inside (c.in_ok-load.ensures.read h.bytes h.revealed) in
    cc (read, c.in-Some.ensures.slot)

pub returns-in-None-clause-slot : goal.returns-in-None-clause-slot
returns-in-None-clause-slot g c = λ slots xs h ok.
    let read = slot_read h.bytes slots xs h.are ok c.args.handle c.load.new.into c.requires.inside (c.in_ok-load.ensures.read h.bytes h.revealed) in
    there slots c.args.handle (omega (arith, c.requires.inside, h.are.handles)) (c.in-None.ensures.slot ∙ read)

pub returns-in-None-clause-malformed : goal.returns-in-None-clause-malformed
returns-in-None-clause-malformed g c = λ b revealed. record {
  handle = c.requires.inside;
  on = refl;
  breaks = rw (c.in_ok-load.ensures.read b revealed) at (none_of _ _ c.in-None.ensures.slot);
}

pub returns-in-Some-clause-read : goal.returns-in-Some-clause-read
returns-in-Some-clause-read g c = λ b revealed. rw (c.in_ok-load.ensures.read b revealed) at (some_of _ _ _ c.in-Some.ensures.slot)
