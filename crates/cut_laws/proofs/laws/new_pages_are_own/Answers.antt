use Rattle.cut_laws.proofs.AddedZeroLemmas.{pages_are_added_as_zeros}
use Rattle.cut_laws.proofs.NewPageLemmas.{new_pages_are_own}
use Rattle.cut_laws.proofs.PlainFreeLemmas.{new_is_plain, plain_free_stays}
use Rattle.cut_laws.proofs.laws.new_pages_are_own.Goals as goal

pub returns-clause-fresh : goal.returns-clause-fresh
returns-clause-fresh c = new_is_plain

pub returns-clause-plain : goal.returns-clause-plain
returns-clause-plain c = plain_free_stays

pub returns-clause-own : goal.returns-clause-own
returns-clause-own c with_temporary = new_pages_are_own with_temporary

pub returns-clause-zeros : goal.returns-clause-zeros
returns-clause-zeros c = pages_are_added_as_zeros
