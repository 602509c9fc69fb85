use Rattle.documents.proofs.StoppedLemmas.{stopped_code}
use Rattle.std.proofs.Common.{◌≡◌, inr}
use Rattle.documents.proofs.ListLemmas.{head_read}
use Rattle.documents.proofs.CauseLemmas.{blamed_code}
use Rattle.std.proofs.Common.{rules}
use Rattle.documents.proofs.RefusedLemmas.{no_head, not_found}
use Rattle.documents.proofs.listing.head_in.Goals as goal

pub returns-in-Err-clause-stopped : goal.returns-in-Err-clause-stopped
returns-in-Err-clause-stopped g c = λ why is.
    stopped_code why _ c.in-Err.code c.load_pages.new.engine c.load_pages.ensures.stopped c.in-Err.is (cc is)

pub returns-in-Ok-clause-read : goal.returns-in-Ok-clause-read
returns-in-Ok-clause-read g c = λ m stands.
    let read = c.in-Ok.ensures.read m stands in
    (head_read m c.args.id c.load_pages.new.into c.load_pages.new.engine c.of_file.result read c.of_file.ensures.said, read.still)

pub returns-in-Err-clause-cause : goal.returns-in-Err-clause-cause
returns-in-Err-clause-cause g c = λ is.
    blamed_code _ c.in-Err.code c.args.engine.now c.load_pages.new.engine c.load_pages.ensures.cause c.in-Err.is (cc is)

pub returns-in-Ok-clause-headless : goal.returns-in-Ok-clause-headless
returns-in-Ok-clause-headless g c = λ m stands none.
    no_head m c.args.id c.args.pages c.load_pages.new.into c.load_pages.new.engine (search rules) (c.in-Ok.ensures.read m stands)
    (not_found c.of_file.result c.load_pages.new.into c.args.pages c.of_file.ensures.found none)
