use Rattle.std.proofs.Common.{rules, ◌≡◌, ◌≢◌, ℕ, ◌-◌, ◌<◌, ◌≤◌, length, Some, None, refl, sym, ◌∙◌, ap, arith}
use Rattle.std.specs.Prelude.{slice_get}
use Rattle.space_tables.specs.Change.{one_before}
use Rattle.space_tables.specs.Form.{BreaksInterval, BreaksProjection}
use Rattle.space_tables.proofs.ReadBack.{get_or_at}
use Rattle.space_tables.proofs.Pieces.{malformed_as}
use Rattle.space_tables.proofs.Rejoined.{before_is}
use Rattle.space_tables.proofs.join.previous.Goals as goal

pub returns-then-index-eq0-clause-previous : goal.returns-then-index-eq0-clause-previous
returns-then-index-eq0-clause-previous g c = λ slots xs h below ok. sym (ap (one_before xs) c.if-index-eq0.true)

pub returns-in_err-x-clause-previous : goal.returns-in_err-x-clause-previous
returns-in_err-x-clause-previous g c = λ slots xs h below ok.
    let x = get_or_at xs (c.args.index - 1) (omega (arith, below)) in
    let m = c.in_err-x.ensures.interval slots xs x.0 h x.1 (ok (c.args.index - 1) x.0 x.1) in search (rules, m)

pub returns-clause-previous : goal.returns-clause-previous
returns-clause-previous g c = λ slots xs h below ok.
    let some : c.args.index ≢ 0 = c.if-index-eq0.false in
    let x = get_or_at xs (c.args.index - 1) (omega (arith, below)) in
    let is : c.in_ok-x.x ≡ x.0 = c.in_ok-x.ensures.interval slots xs x.0 h x.1 (ok (c.args.index - 1) x.0 x.1) in
    ap Some is ∙ sym x.1 ∙ before_is xs c.args.index (omega (arith, some))

pub returns-in_err-x-clause-malformed : goal.returns-in_err-x-clause-malformed
returns-in_err-x-clause-malformed g c = λ b count revealed below.
    let m = malformed_as (λ page. BreaksInterval count b page (c.args.index - 1)) (BreaksProjection count b) (λ page h. (c.args.index - 1, h)) _
    (c.in_err-x.ensures.malformed b count revealed (omega (arith, below))) in search (rules, m)
