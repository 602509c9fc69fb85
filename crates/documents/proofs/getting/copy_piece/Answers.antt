use Rattle.documents.proofs.StoppedLemmas.{stopped_code}
use Rattle.std.proofs.Common.{◌≡◌, ◌⊎◌, inl, inr, ap, rules}
use Rattle.embedded.specs.declared.code.Code.{Code}
use Rattle.documents.specs.declared.fault.Fault.TheVariants as fault
use Rattle.documents.proofs.GotLemmas.{sent_one}
use Rattle.documents.proofs.CauseLemmas.{blamed_code}
use Rattle.documents.proofs.getting.copy_piece.Goals as goal

pub returns-in-Err-clause-stopped : goal.returns-in-Err-clause-stopped
returns-in-Err-clause-stopped g c = λ why is.
    stopped_code why _ c.in-Err.code c.load_pages.new.engine c.load_pages.ensures.stopped c.in-Err.is (cc is)

pub returns-in-Ok-put-clause-sent : goal.returns-in-Ok-put-clause-sent
returns-in-Ok-put-clause-sent g c = λ m f stands there.
    sent_one m f c.args.id c.args.page _ c.load_pages.new.into _ _ c.load_pages.new.engine there (c.in-Ok.ensures.read m stands)
    c.load_pages.ensures.width c.in-Ok-put.ensures.ok

pub returns-in-Err-put-clause-sent : goal.returns-in-Err-put-clause-sent
returns-in-Err-put-clause-sent g c = λ m f stands there. inr (c.in-Ok.ensures.read m stands).still

pub returns-in-Err-clause-sent : goal.returns-in-Err-clause-sent
returns-in-Err-clause-sent g c = λ m f stands there. elim (c.in-Err.ensures.read m stands) [
  | inl bad ↦ inl (ap (λ (x : Code). fault.Call x) bad)
  | inr st ↦ inr st
]

pub returns-in-Err-clause-cause : goal.returns-in-Err-clause-cause
returns-in-Err-clause-cause g c = λ is.
    blamed_code _ c.in-Err.code c.args.engine.now c.load_pages.new.engine c.load_pages.ensures.cause c.in-Err.is (cc is)
