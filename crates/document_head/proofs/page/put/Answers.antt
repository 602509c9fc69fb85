use Rattle.std.proofs.Common.{arith}
use Rattle.document_head.proofs.PageLemmas.{written}
use Rattle.document_head.proofs.page.put.Goals as goal

pub returns : goal.returns
returns c = λ front long is.
    rw is (rw c.copy_from_slice.ensures.after (
    written front c.args.bytes.now c.args.place _ long (omega arith)))
