use Rattle.std.proofs.Common.{◌≡◌, ◌<◌, rules}
use Rattle.volume_pair.proofs.CompareLemmas.{same_none, same_one, stopped_at, this_differs}
use Rattle.volume_pair.proofs.CostLemmas.{spends_first}
use Rattle.volume_pair.proofs.SideLemmas.{fits_still, looked_then, side_after}
use Rattle.volume_pair.proofs.comparing.first_difference.Goals as goal

pub loop-page-init : goal.loop-page-init
loop-page-init g c = same_none c.args.id _ _

pub loop-page-preserved : goal.loop-page-preserved
loop-page-preserved g c = same_one c.args.id c.loop-page.page c.loop-page.invariant c.in-Ok-true.field-0-test c.is_same_page.ensures.from_looks c.is_same_page.ensures.to_looks c.is_same_page.ensures.from_cost c.is_same_page.ensures.to_cost c.in-Ok-true.ensures.same

pub returns-in-Ok-false-clause-difference : goal.returns-in-Ok-false-clause-difference
returns-in-Ok-false-clause-difference g c =
    let below : c.loop-page.page < c.args.pages = search rules in
    this_differs c.args.id c.loop-page.page c.loop-page.invariant c.in-Ok-false.field-0-test c.args.pages below c.in-Ok-false.ensures.same

pub returns-in-Ok-false-clause-from_looks : goal.returns-in-Ok-false-clause-from_looks
returns-in-Ok-false-clause-from_looks g c = looked_then c.loop-page.invariant.from_looks c.is_same_page.ensures.from_looks

pub returns-in-Ok-false-clause-to_looks : goal.returns-in-Ok-false-clause-to_looks
returns-in-Ok-false-clause-to_looks g c = looked_then c.loop-page.invariant.to_looks c.is_same_page.ensures.to_looks

pub returns-in-Err-clause-difference : goal.returns-in-Err-clause-difference
returns-in-Err-clause-difference g c =
    let below : c.loop-page.page < c.args.pages = search rules in
    stopped_at c.args.id c.loop-page.page c.loop-page.invariant c.args.pages below c.in-Err.ensures.same

pub returns-in-Err-clause-from_looks : goal.returns-in-Err-clause-from_looks
returns-in-Err-clause-from_looks g c = looked_then c.loop-page.invariant.from_looks c.is_same_page.ensures.from_looks

pub returns-in-Err-clause-to_looks : goal.returns-in-Err-clause-to_looks
returns-in-Err-clause-to_looks g c = looked_then c.loop-page.invariant.to_looks c.is_same_page.ensures.to_looks

pub returns-in-Err-clause-why : goal.returns-in-Err-clause-why
returns-in-Err-clause-why g c = side_after _ _ c.loop-page.invariant.from_looks c.loop-page.invariant.to_looks c.in-Err.halt c.in-Err.ensures.why

pub returns-clause-difference : goal.returns-clause-difference
returns-clause-difference g c = λ fs gs x y from to.
    let all : c.loop-page.page ≡ c.args.pages = search rules in
    (rw all at c.loop-page.invariant.same) fs gs x y from to

pub returns-clause-from_looks : goal.returns-clause-from_looks
returns-clause-from_looks g c = c.loop-page.invariant.from_looks

pub returns-clause-to_looks : goal.returns-clause-to_looks
returns-clause-to_looks g c = c.loop-page.invariant.to_looks

pub is_same_page-requires-clause-from_size : goal.is_same_page-requires-clause-from_size
is_same_page-requires-clause-from_size g c = fits_still c.loop-page.invariant.from_looks c.requires.from_size

pub is_same_page-requires-clause-to_size : goal.is_same_page-requires-clause-to_size
is_same_page-requires-clause-to_size g c = fits_still c.loop-page.invariant.to_looks c.requires.to_size

pub returns-in-Ok-false-clause-from_cost : goal.returns-in-Ok-false-clause-from_cost
returns-in-Ok-false-clause-from_cost g c =
    let below : c.loop-page.page < c.args.pages = search rules in
    spends_first _ _ _ c.loop-page.page c.args.pages c.loop-page.invariant.from_spends c.is_same_page.ensures.from_cost below

pub returns-in-Ok-false-clause-to_cost : goal.returns-in-Ok-false-clause-to_cost
returns-in-Ok-false-clause-to_cost g c =
    let below : c.loop-page.page < c.args.pages = search rules in
    spends_first _ _ _ c.loop-page.page c.args.pages c.loop-page.invariant.to_spends c.is_same_page.ensures.to_cost below

pub returns-in-Err-clause-from_cost : goal.returns-in-Err-clause-from_cost
returns-in-Err-clause-from_cost g c =
    let below : c.loop-page.page < c.args.pages = search rules in
    spends_first _ _ _ c.loop-page.page c.args.pages c.loop-page.invariant.from_spends c.is_same_page.ensures.from_cost below

pub returns-in-Err-clause-to_cost : goal.returns-in-Err-clause-to_cost
returns-in-Err-clause-to_cost g c =
    let below : c.loop-page.page < c.args.pages = search rules in
    spends_first _ _ _ c.loop-page.page c.args.pages c.loop-page.invariant.to_spends c.is_same_page.ensures.to_cost below

pub returns-clause-from_cost : goal.returns-clause-from_cost
returns-clause-from_cost g c =
    let all : c.loop-page.page ≡ c.args.pages = search rules in
    rw all at c.loop-page.invariant.from_spends

pub returns-clause-to_cost : goal.returns-clause-to_cost
returns-clause-to_cost g c =
    let all : c.loop-page.page ≡ c.args.pages = search rules in
    rw all at c.loop-page.invariant.to_spends
