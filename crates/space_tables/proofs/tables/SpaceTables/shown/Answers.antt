use Rattle.std.proofs.Common.{rules, ◌≡◌, [], ◌∷◌, Some, None, refl, sym, ◌∙◌, ap}
use Rattle.projection_laws.specs.Tests.{no_space, not_mapped}
use Rattle.space_tables.proofs.Asks.{refuses_first, passed, stopped, window_test}
use Rattle.space_tables.proofs.tables.SpaceTables.shown.Goals as goal

pub returns-in_err-found-clause-answer : goal.returns-in_err-found-clause-answer
returns-in_err-found-clause-answer g c = λ ss t.
    let m = c.in_err-found.ensures.answer c.args.self.now.intervals ss t in
    let k = refuses_first (Unit {0}) (no_space ss c.args.space) (not_mapped ss c.args.space ∷ []) _ m in search (rules, k)

pub returns-in-Some-clause-answer : goal.returns-in-Some-clause-answer
returns-in-Some-clause-answer g c = λ ss t.
    let m = c.in_ok-found.ensures.answer c.args.self.now.intervals ss t in
    (passed _ _ m.0 ∙ passed _ [] (window_test ss c.args.space c.in_ok-found.found (Some c.in-Some.window) m.1 c.in-Some.is), (c.in_ok-found.found, m.1, c.in-Some.is ∙ ap Some (search rules)))

pub returns-in-None-clause-answer : goal.returns-in-None-clause-answer
returns-in-None-clause-answer g c = λ ss t.
    let m = c.in_ok-found.ensures.answer c.args.self.now.intervals ss t in
    (passed _ _ m.0 ∙ stopped _ [] _ (window_test ss c.args.space c.in_ok-found.found None m.1 c.in-None.is), tt)

pub returns-in-Some-clause-read : goal.returns-in-Some-clause-read
returns-in-Some-clause-read g c = λ b revealed.
    record { space = c.in_ok-found.found; there = c.in_ok-found.ensures.read b revealed; window = c.in-Some.is ∙ ap Some (sym c.shown_in.ensures) }
