use Rattle.std.proofs.Common.{◌≡◌, min, rules, subst}
use Rattle.pair_machine.specs.declared.call.PairRefusal.TheVariants as why
use Rattle.volume_pair.specs.Comparing.{AreSizes}
use Rattle.volume_pair.proofs.CompareLemmas.{difference_answer, halted_first, lacks_answer}
use Rattle.volume_pair.proofs.SideLemmas.{fits_still, looked_then, side_after}
use Rattle.filer_kernel.specs.View.{view_of}
use Rattle.volume_pair.specs.Costs.{size_in}
use Rattle.volume_pair.proofs.CostLemmas.{compare_spends, spends_little}
use Rattle.volume_pair.proofs.ReplyLemmas.{compare_not_done, refused_not_done}
use Rattle.volume_pair.proofs.comparing.compare.Goals as goal

pub returns-in-Ok-None-clause-not_done : goal.returns-in-Ok-None-clause-not_done
returns-in-Ok-None-clause-not_done g c = refused_not_done why.File

pub returns-in-Ok-clause-not_done : goal.returns-in-Ok-clause-not_done
returns-in-Ok-clause-not_done g c = rw c.answer_of.ensures (compare_not_done c.in-Ok.difference c.in-Ok-Some.found.0 c.in-Ok-Some.found.1)

pub returns-in-Ok-None-clause-compared : goal.returns-in-Ok-None-clause-compared
returns-in-Ok-None-clause-compared g c = λ fs gs x y from to.
    let r = c.in-Ok-None.ensures.sizes fs gs x y from to in
    (r.0, r.1, lacks_answer fs gs c.args.id (subst (AreSizes fs gs c.args.id) c.in-Ok-None.field-0-is r.2))

pub returns-in-Err-clause-compared : goal.returns-in-Err-clause-compared
returns-in-Err-clause-compared g c = c.in-Err.ensures.sizes

pub first_difference-requires-clause-from_size : goal.first_difference-requires-clause-from_size
first_difference-requires-clause-from_size g c = fits_still c.sizes.ensures.from_looks c.requires.from_size

pub first_difference-requires-clause-to_size : goal.first_difference-requires-clause-to_size
first_difference-requires-clause-to_size g c = fits_still c.sizes.ensures.to_looks c.requires.to_size

pub returns-in-Ok-clause-compared : goal.returns-in-Ok-clause-compared
returns-in-Ok-clause-compared g c = λ fs gs x y from to.
    let r = c.in-Ok-Some.ensures.sizes fs gs x y from to in
    let sizes = subst (AreSizes fs gs c.args.id) c.in-Ok-Some.field-0-is r.2 in
    let least : c.min.result ≡ min c.in-Ok-Some.found.0 c.in-Ok-Some.found.1 = search rules in
    let d = c.in-Ok.ensures.difference fs gs x y r.0 r.1 in
    (d.0, d.1, rw c.answer_of.ensures (difference_answer fs gs c.args.id c.in-Ok-Some.found.0 c.in-Ok-Some.found.1 sizes c.min.result least c.in-Ok.difference d.2))

pub returns-in-Ok-clause-from_looks : goal.returns-in-Ok-clause-from_looks
returns-in-Ok-clause-from_looks g c = looked_then c.sizes.ensures.from_looks c.first_difference.ensures.from_looks

pub returns-in-Ok-clause-to_looks : goal.returns-in-Ok-clause-to_looks
returns-in-Ok-clause-to_looks g c = looked_then c.sizes.ensures.to_looks c.first_difference.ensures.to_looks

pub returns-in-Err-first_difference-clause-compared : goal.returns-in-Err-first_difference-clause-compared
returns-in-Err-first_difference-clause-compared g c = λ fs gs x y from to.
    let r = c.in-Ok-Some.ensures.sizes fs gs x y from to in
    let sizes = subst (AreSizes fs gs c.args.id) c.in-Ok-Some.field-0-is r.2 in
    let least : c.min.result ≡ min c.in-Ok-Some.found.0 c.in-Ok-Some.found.1 = search rules in
    let d = c.in-Err-first_difference.ensures.difference fs gs x y r.0 r.1 in
    (d.0, d.1, halted_first fs gs c.args.id c.in-Ok-Some.found.0 c.in-Ok-Some.found.1 sizes c.min.result least d.2)

pub returns-in-Err-first_difference-clause-from_looks : goal.returns-in-Err-first_difference-clause-from_looks
returns-in-Err-first_difference-clause-from_looks g c = looked_then c.sizes.ensures.from_looks c.first_difference.ensures.from_looks

pub returns-in-Err-first_difference-clause-to_looks : goal.returns-in-Err-first_difference-clause-to_looks
returns-in-Err-first_difference-clause-to_looks g c = looked_then c.sizes.ensures.to_looks c.first_difference.ensures.to_looks

pub returns-in-Err-first_difference-clause-why : goal.returns-in-Err-first_difference-clause-why
returns-in-Err-first_difference-clause-why g c = side_after _ _ c.sizes.ensures.from_looks c.sizes.ensures.to_looks c.in-Err-first_difference.halt c.in-Err-first_difference.ensures.why

pub returns-in-Ok-None-clause-cost : goal.returns-in-Ok-None-clause-cost
returns-in-Ok-None-clause-cost g c = λ fs gs x y from to. spends_little (size_in fs c.args.id) 0 (view_of c.args.from.now) (view_of c.args.to.now) (view_of c.sizes.new.from) (view_of c.sizes.new.to) c.sizes.ensures.from_cost c.sizes.ensures.to_cost

pub returns-in-Err-clause-cost : goal.returns-in-Err-clause-cost
returns-in-Err-clause-cost g c = λ fs gs x y from to. spends_little (size_in fs c.args.id) 0 (view_of c.args.from.now) (view_of c.args.to.now) (view_of c.sizes.new.from) (view_of c.sizes.new.to) c.sizes.ensures.from_cost c.sizes.ensures.to_cost

pub returns-in-Ok-clause-cost : goal.returns-in-Ok-clause-cost
returns-in-Ok-clause-cost g c = λ fs gs x y from to.
    let r = c.in-Ok-Some.ensures.sizes fs gs x y from to in
    let sizes = subst (AreSizes fs gs c.args.id) c.in-Ok-Some.field-0-is r.2 in
    let least : c.min.result ≡ min c.in-Ok-Some.found.0 c.in-Ok-Some.found.1 = search rules in
    compare_spends fs gs c.args.id c.in-Ok-Some.found.0 c.in-Ok-Some.found.1 c.min.result (view_of c.args.from.now) (view_of c.args.to.now) (view_of c.sizes.new.from) (view_of c.sizes.new.to) (view_of c.first_difference.new.from) (view_of c.first_difference.new.to) sizes least
    c.sizes.ensures.from_cost c.sizes.ensures.to_cost c.first_difference.ensures.from_cost c.first_difference.ensures.to_cost

pub returns-in-Err-first_difference-clause-cost : goal.returns-in-Err-first_difference-clause-cost
returns-in-Err-first_difference-clause-cost g c = λ fs gs x y from to.
    let r = c.in-Ok-Some.ensures.sizes fs gs x y from to in
    let sizes = subst (AreSizes fs gs c.args.id) c.in-Ok-Some.field-0-is r.2 in
    let least : c.min.result ≡ min c.in-Ok-Some.found.0 c.in-Ok-Some.found.1 = search rules in
    compare_spends fs gs c.args.id c.in-Ok-Some.found.0 c.in-Ok-Some.found.1 c.min.result (view_of c.args.from.now) (view_of c.args.to.now) (view_of c.sizes.new.from) (view_of c.sizes.new.to) (view_of c.first_difference.new.from) (view_of c.first_difference.new.to) sizes least
    c.sizes.ensures.from_cost c.sizes.ensures.to_cost c.first_difference.ensures.from_cost c.first_difference.ensures.to_cost
