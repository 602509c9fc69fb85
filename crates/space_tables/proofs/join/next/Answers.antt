use Rattle.std.proofs.Common.{rules, ◌≡◌, ◌≢◌, ℕ, suc, ◌+◌, ◌<◌, length, Some, sym, ◌∙◌, ap, arith}
use Rattle.std.specs.Prelude.{slice_get}
use Rattle.space_tables.specs.Form.{BreaksInterval, BreaksProjection}
use Rattle.space_tables.proofs.ReadBack.{get_or_at}
use Rattle.space_tables.proofs.Pieces.{malformed_as}
use Rattle.space_tables.proofs.join.next.Goals as goal

pub returns-in_err-x-clause-next : goal.returns-in_err-x-clause-next
returns-in_err-x-clause-next g c = λ slots xs h long ok.
    let more : c.args.index + 1 ≢ c.args.count = c.if-index-count.false in
    let x = get_or_at xs (c.args.index + 1) (omega (arith, more, c.requires.order, long)) in
    let m = c.in_err-x.ensures.interval slots xs x.0 h x.1 (ok (c.args.index + 1) x.0 x.1) in search (rules, m)

pub returns-clause-next : goal.returns-clause-next
returns-clause-next g c = λ slots xs h long ok.
    let more : c.args.index + 1 ≢ c.args.count = c.if-index-count.false in
    let x = get_or_at xs (c.args.index + 1) (omega (arith, more, c.requires.order, long)) in
    let is : c.in_ok-x.x ≡ x.0 = c.in_ok-x.ensures.interval slots xs x.0 h x.1 (ok (c.args.index + 1) x.0 x.1) in
    let at : c.args.index + 1 ≡ suc c.args.index = omega arith in
    ap Some is ∙ sym x.1 ∙ ap (slice_get xs) at

pub returns-in_err-x-clause-malformed : goal.returns-in_err-x-clause-malformed
returns-in_err-x-clause-malformed g c = λ b revealed.
    let more : c.args.index + 1 ≢ c.args.count = c.if-index-count.false in
    let m = malformed_as (λ page. BreaksInterval c.args.count b page (c.args.index + 1)) (BreaksProjection c.args.count b) (λ page h. (c.args.index + 1, h)) _
    (c.in_err-x.ensures.malformed b c.args.count revealed (omega (arith, more, c.requires.order))) in search (rules, m)
