use Rattle.std.proofs.Common.{◌≡◌, ◌∙◌, ◌+◌, ◌-◌, ℕ, List, get_or, sym, IsUtf8, subst}
use borrow.Rule.Slice.PartMut.{mid_of}
use Rattle.document_head.specs.Head.{head_page}
use Rattle.document_head.proofs.PageLemmas.{count_found, name_found}
use Rattle.document_head.proofs.page.name_in.Goals as goal

named : (page name : List ℕ) (bytes count : ℕ) → page ≡ head_page bytes name → count ≡ get_or page 16 0
    → mid_of 17 (17 + count - 17) page ≡ name
named page name bytes count is counted =
    rw counted (rw is (rw (count_found bytes name) (name_found bytes name)))

pub returns-in_default : goal.returns-in_default
returns-in_default c = λ bytes name short text is.
    let same = named c.args.page.now name bytes c.from-count.result is c.from-count.ensures in
    c.in_default.ensures.cases.0 (subst IsUtf8 (sym same) text)

pub returns-in-Ok-from : goal.returns-in-Ok-from
returns-in-Ok-from c = λ bytes name short text is.
    c.in-Ok-from.ensures.ok ∙ c.in-Ok.ensures.cases.0
    ∙ named c.args.page.now name bytes c.from-count.result is c.from-count.ensures
