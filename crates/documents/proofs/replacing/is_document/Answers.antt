use Rattle.documents.proofs.StoppedLemmas.{stopped_code}
use Rattle.std.proofs.Common.{◌≡◌, ◌⊎◌, inl, inr, ap, rules}
use Rattle.documents.proofs.ListLemmas.{is_one}
use Rattle.embedded.specs.declared.code.Code.{Code}
use Rattle.documents.specs.declared.fault.Fault.TheVariants as fault
use Rattle.documents.proofs.CauseLemmas.{blamed_code}
use Rattle.documents.proofs.replacing.is_document.Goals as goal

pub returns-in-Err-clause-stopped : goal.returns-in-Err-clause-stopped
returns-in-Err-clause-stopped g c = λ why is.
    stopped_code why _ c.in-Err.code c.describe.new.engine c.describe.ensures.stopped c.in-Err.is (cc is)

pub returns-in-Err-clause-still : goal.returns-in-Err-clause-still
returns-in-Err-clause-still g c = λ m stands. elim (c.in-Err.ensures.listed m stands) [
  | inl bad ↦ inl (ap (λ (x : Code). fault.Call x) bad)
  | inr st ↦ inr st
]

pub returns-in-Ok-clause-still : goal.returns-in-Ok-clause-still
returns-in-Ok-clause-still g c = λ m stands.
    is_one m c.args.id _ _ c.in-Ok.file.head c.describe.new.engine (c.in-Ok.ensures.listed m stands) (search rules) c.in-Ok.ensures.pages

pub returns-in-Err-clause-cause : goal.returns-in-Err-clause-cause
returns-in-Err-clause-cause g c = λ is.
    blamed_code _ c.in-Err.code c.args.engine.now c.describe.new.engine c.describe.ensures.cause c.in-Err.is (cc is)

-- a file without a head is refused
pub returns-in-Ok-2-clause-refused : goal.returns-in-Ok-2-clause-refused
returns-in-Ok-2-clause-refused g c = λ m stands is. c.in-Ok-2.ensures.headless m stands (search rules)
