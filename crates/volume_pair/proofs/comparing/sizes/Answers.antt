use Rattle.std.proofs.Common.{subst}
use Rattle.volume_pair.specs.Comparing.{IsSizeIn}
use Rattle.filer_kernel.specs.View.{view_of}
use Rattle.volume_pair.proofs.CompareLemmas.{both_have, first_lacks, second_lacks}
use Rattle.volume_pair.proofs.SideLemmas.{looked_nothing}
use Rattle.volume_pair.proofs.comparing.sizes.Goals as goal

pub returns-in-Ok-None-clause-sizes : goal.returns-in-Ok-None-clause-sizes
returns-in-Ok-None-clause-sizes g c = λ fs gs x y from to.
    let r = c.in-Ok-None.ensures.known fs x from in
    (r.0, to, first_lacks fs gs c.args.id (subst (IsSizeIn fs c.args.id) c.in-Ok-None.field-0-is r.1))

pub returns-in-Ok-None-clause-to_looks : goal.returns-in-Ok-None-clause-to_looks
returns-in-Ok-None-clause-to_looks g c = looked_nothing (view_of c.args.to.now)

pub returns-in-Err-clause-sizes : goal.returns-in-Err-clause-sizes
returns-in-Err-clause-sizes g c = λ fs gs x y from to. let r = c.in-Err.ensures.known fs x from in (r.0, to, r.1)

pub returns-in-Err-clause-to_looks : goal.returns-in-Err-clause-to_looks
returns-in-Err-clause-to_looks g c = looked_nothing (view_of c.args.to.now)

pub returns-in-Ok-Some-size_of-clause-sizes : goal.returns-in-Ok-Some-size_of-clause-sizes
returns-in-Ok-Some-size_of-clause-sizes g c = λ fs gs x y from to.
    let first = c.in-Ok-Some.ensures.known fs x from in
    let second = c.in-Ok-Some-size_of.ensures.known gs y to in
    (first.0, second.0, both_have fs gs c.args.id _ _ (subst (IsSizeIn fs c.args.id) c.in-Ok-Some.field-0-is first.1) (subst (IsSizeIn gs c.args.id) c.in-Ok-Some-size_of.field-0-is second.1))

pub returns-in-Ok-None-size_of-clause-sizes : goal.returns-in-Ok-None-size_of-clause-sizes
returns-in-Ok-None-size_of-clause-sizes g c = λ fs gs x y from to.
    let first = c.in-Ok-Some.ensures.known fs x from in
    let second = c.in-Ok-None-size_of.ensures.known gs y to in
    (first.0, second.0, second_lacks fs gs c.args.id (subst (IsSizeIn gs c.args.id) c.in-Ok-None-size_of.field-0-is second.1))

pub returns-in-Err-size_of-clause-sizes : goal.returns-in-Err-size_of-clause-sizes
returns-in-Err-size_of-clause-sizes g c = λ fs gs x y from to.
    let first = c.in-Ok-Some.ensures.known fs x from in
    let second = c.in-Err-size_of.ensures.known gs y to in
    (first.0, second.0, second.1)
