use Rattle.std.proofs.Common.{◌≡◌, ℕ, refl, sym, ◌∙◌, Some}
use Rattle.std.proofs.lemmas.Option.{same_Some, none-some}
use Rattle.space_tables.proofs.ReadBack.{one_read, none_of, some_of}
use Rattle.space_tables.proofs.records.interval.Goals as goal

pub returns-in-Some-clause-interval : goal.returns-in-Some-clause-interval
returns-in-Some-clause-interval g c = λ slots xs x h e ok.
    let read = one_read h.bytes slots xs h.are c.args.index c.load.new.into x e ok (c.in_ok-load.ensures.read h.bytes h.revealed) in
    same_Some c.in-Some.interval x (c.in-Some.ensures.interval ∙ read)

pub returns-in-None-clause-interval : goal.returns-in-None-clause-interval
returns-in-None-clause-interval g c = λ slots xs x h e ok.
    let read = one_read h.bytes slots xs h.are c.args.index c.load.new.into x e ok (c.in_ok-load.ensures.read h.bytes h.revealed) in
    none-some x (c.in-None.ensures.interval ∙ read)

pub returns-in-None-clause-malformed : goal.returns-in-None-clause-malformed
returns-in-None-clause-malformed g c = λ b count revealed below. record {
  counted = below;
  on = refl;
  breaks = rw (c.in_ok-load.ensures.read b revealed) at (none_of _ _ c.in-None.ensures.interval);
}

pub returns-in-Some-clause-read : goal.returns-in-Some-clause-read
returns-in-Some-clause-read g c = λ b revealed. rw (c.in_ok-load.ensures.read b revealed) at (some_of _ _ _ c.in-Some.ensures.interval)
