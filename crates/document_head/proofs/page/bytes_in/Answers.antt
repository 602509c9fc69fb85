use Rattle.std.proofs.Common.{◌∙◌, ap, ℕ, List}
use borrow.Rule.Slice.PartMut.{mid_of}
use Rattle.byteorder.specs.Endian.{big_number}
use Rattle.document_head.proofs.PageLemmas.{bytes_found}
use Rattle.document_head.proofs.page.bytes_in.Goals as goal

pub returns : goal.returns
returns c = λ bytes name fits is.
    c.read_u64.ensures ∙ ap (λ (page : List ℕ). big_number 8 (mid_of 8 504 page)) is ∙ bytes_found bytes name fits
