use Rattle.std.proofs.Common.{◌≡◌, ◌+◌, ◌-◌, ◌<◌, length, refl, ◌∙◌, ap, arith}
use Rattle.std.specs.Prelude.{slice_set}
use Rattle.std.proofs.lemmas.List.{length-set}
use Rattle.flat_machine.specs.Space.{end}
use Rattle.projection_laws.specs.Sight.{Interval, end_of}
use Rattle.projection_laws.specs.Edits.{cut, inside, some_pages, pieces, replaced}
use Rattle.space_tables.specs.Change.{put_in}
use Rattle.space_tables.proofs.Pieces.{put_around, parts_more}
use Rattle.space_tables.proofs.Outs.{handed, cause_on, no_page, not_refused, causes_on, any_not_refused, any_no_page}
use Rattle.space_tables.specs.Form.{IsOverfull}
use Rattle.space_tables.proofs.split.split.Goals as goal

pub returns-then-count-more-gt1023-clause-malformed : goal.returns-then-count-more-gt1023-clause-malformed
returns-then-count-more-gt1023-clause-malformed g c =
    let x = c.args.x.now in
    let i = c.args.i.now in
    let long = parts_more x i c.more.result c.more.ensures.most c.more.ensures.no_prefix c.more.ensures.no_back c.more.ensures.neither in
    (refl, omega (arith, c.if-count-more-gt1023.true, long))

pub returns-clause-split : goal.returns-clause-split
returns-clause-split g c = λ slots xs h long there.
    let i = c.args.i.now in
    let x = c.args.x.now in
    let k = c.args.index in
    let mid : Interval = inside x (cut i x.first x.pages) in
    let same : c.inside.result ≡ mid = c.inside.ensures ∙ ap (inside x) c.cut.ensures in
    let below : k < length xs = omega (arith, c.requires.order, long) in
    let one = rw same at (c.in_ok-put_interval.ensures.written slots xs h below) in
    let two = c.in_ok-count.ensures.put slots (slice_set xs k mid) one (length-set xs k mid ∙ long) in
    let three = c.put_part-2.ensures.put slots (put_in (slice_set xs k mid) (k + 1) (some_pages (cut i (end x) (end_of i - end x)))) two.0 two.1 in
    let whole : put_in (put_in (slice_set xs k mid) (k + 1) (some_pages (cut i (end x) (end_of i - end x)))) k (some_pages (cut i i.first (x.first - i.first))) ≡ replaced xs k (pieces x i) =
    put_around xs k i mid (some_pages (cut i i.first (x.first - i.first))) (some_pages (cut i (end x) (end_of i - end x))) there in
    rw whole at three

pub returns-in_err-put_interval-clause-kept : goal.returns-in_err-put_interval-clause-kept
returns-in_err-put_interval-clause-kept g c = c.put_interval.ensures.kept

pub returns-in_err-put_interval-clause-cause : goal.returns-in_err-put_interval-clause-cause
returns-in_err-put_interval-clause-cause g c = handed _ _ _ _ c.from_residual.ensures.1 c.in_err-put_interval.ensures.cause

pub returns-in_err-put_interval-clause-cost : goal.returns-in_err-put_interval-clause-cost
returns-in_err-put_interval-clause-cost g c = omega (arith, c.put_interval.ensures.cost)

pub returns-in_err-put_interval-clause-split : goal.returns-in_err-put_interval-clause-split
returns-in_err-put_interval-clause-split g c = λ slots xs h long there. handed _ _ _ _ c.from_residual.ensures.1 tt

pub returns-in_err-put_interval-clause-memory : goal.returns-in_err-put_interval-clause-memory
returns-in_err-put_interval-clause-memory g c = λ few. handed _ _ _ _ c.from_residual.ensures.1 c.in_err-put_interval.ensures.memory

pub returns-in_err-put_interval-clause-count : goal.returns-in_err-put_interval-clause-count
returns-in_err-put_interval-clause-count g c = handed _ _ _ _ c.from_residual.ensures.1 tt

pub returns-in_err-put_interval-clause-malformed : goal.returns-in_err-put_interval-clause-malformed
returns-in_err-put_interval-clause-malformed g c = handed _ _ _ _ c.from_residual.ensures.1 (no_page (IsOverfull c.args.count c.args.x.now c.args.i.now) _ c.in_err-put_interval.ensures.memory)

pub returns-in_err-put_interval-clause-refused : goal.returns-in_err-put_interval-clause-refused
returns-in_err-put_interval-clause-refused g c = handed _ _ _ _ c.from_residual.ensures.1 (not_refused _ c.in_err-put_interval.ensures.memory)

pub returns-in_err-count-clause-kept : goal.returns-in_err-count-clause-kept
returns-in_err-count-clause-kept g c = g.met.M.FlatMem.beside_through _ _ _ c.put_interval.ensures.kept c.put_part.ensures.kept

pub returns-in_err-count-clause-cause : goal.returns-in_err-count-clause-cause
returns-in_err-count-clause-cause g c = handed _ _ _ _ c.from_residual-in_err-count.ensures.1 (cause_on g.M.FlatMem g.met.M.FlatMem.beside_itself g.met.M.FlatMem.accounted_wider _ _ _ c.put_interval.ensures.kept c.put_part.ensures.kept _ c.in_err-count.ensures.cause)

pub returns-in_err-count-clause-cost : goal.returns-in_err-count-clause-cost
returns-in_err-count-clause-cost g c = omega (arith, c.put_interval.ensures.cost, c.put_part.ensures.cost)

pub returns-in_err-count-clause-split : goal.returns-in_err-count-clause-split
returns-in_err-count-clause-split g c = λ slots xs h long there. handed _ _ _ _ c.from_residual-in_err-count.ensures.1 tt

pub returns-in_err-count-clause-memory : goal.returns-in_err-count-clause-memory
returns-in_err-count-clause-memory g c = λ few. handed _ _ _ _ c.from_residual-in_err-count.ensures.1 c.in_err-count.ensures.memory

pub returns-in_err-count-clause-count : goal.returns-in_err-count-clause-count
returns-in_err-count-clause-count g c = handed _ _ _ _ c.from_residual-in_err-count.ensures.1 tt

pub returns-in_err-count-clause-malformed : goal.returns-in_err-count-clause-malformed
returns-in_err-count-clause-malformed g c = handed _ _ _ _ c.from_residual-in_err-count.ensures.1 (no_page (IsOverfull c.args.count c.args.x.now c.args.i.now) _ c.in_err-count.ensures.memory)

pub returns-in_err-count-clause-refused : goal.returns-in_err-count-clause-refused
returns-in_err-count-clause-refused g c = handed _ _ _ _ c.from_residual-in_err-count.ensures.1 (not_refused _ c.in_err-count.ensures.memory)

pub returns-clause-kept : goal.returns-clause-kept
returns-clause-kept g c = g.met.M.FlatMem.beside_through _ _ _ (g.met.M.FlatMem.beside_through _ _ _ c.put_interval.ensures.kept c.put_part.ensures.kept) c.put_part-2.ensures.kept

pub returns-clause-cost : goal.returns-clause-cost
returns-clause-cost g c = omega (arith, c.put_interval.ensures.cost, c.put_part.ensures.cost, c.put_part-2.ensures.cost)

pub returns-clause-cause : goal.returns-clause-cause
returns-clause-cause g c = causes_on g.M.FlatMem g.met.M.FlatMem.beside_itself g.met.M.FlatMem.accounted_wider _ _ _ (g.met.M.FlatMem.beside_through _ _ _ c.put_interval.ensures.kept c.put_part.ensures.kept) c.put_part-2.ensures.kept _ c.put_part-2.ensures.cause

pub returns-clause-memory : goal.returns-clause-memory
returns-clause-memory g c = λ few. c.put_part-2.ensures.memory

pub returns-clause-refused : goal.returns-clause-refused
returns-clause-refused g c = any_not_refused _ c.put_part-2.ensures.memory

pub returns-clause-malformed : goal.returns-clause-malformed
returns-clause-malformed g c = any_no_page (IsOverfull c.args.count c.args.x.now c.args.i.now) _ c.put_part-2.ensures.memory
