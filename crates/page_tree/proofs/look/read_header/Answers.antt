use Rattle.std.proofs.Common.{refl}
use Rattle.page_tree.specs.Page.{page_at}
use Rattle.page_tree.specs.Broken.{Breaks}
use Rattle.page_tree.proofs.FormLaws.{tree_form, numbers_form, header_numbers}
use Rattle.page_tree.proofs.look.read_header.Goals as goal

pub returns-then-not-is_in_form-clause-well : goal.returns-then-not-is_in_form-clause-well
returns-then-not-is_in_form-clause-well g c = λ b h records tree.
    let read = c.in_ok-load.ensures.read b h in
    let of = c.header_of-header.ensures in
    let head = header_numbers c.load.new.page b _ _ _ _ _ read of.count of.root of.top of.free of.levels in
    absurd (c.is_in_form.ensures.no c.if-not-is_in_form.true (numbers_form g.row.E _ (page_at b 0) _ _ _ _ _ head (rw c.len.ensures (tree_form g.row.E g.row.K _ b records tree))))

pub returns-then-not-is_in_form-clause-unlike : goal.returns-then-not-is_in_form-clause-unlike
returns-then-not-is_in_form-clause-unlike g c = λ b h form.
    let read = c.in_ok-load.ensures.read b h in
    let of = c.header_of-header.ensures in
    let head = header_numbers c.load.new.page b _ _ _ _ _ read of.count of.root of.top of.free of.levels in
    c.is_in_form.ensures.no c.if-not-is_in_form.true (numbers_form g.row.E _ (page_at b 0) _ _ _ _ _ head (rw c.len.ensures form))

pub returns-then-not-is_in_form-clause-broken : goal.returns-then-not-is_in_form-clause-broken
returns-then-not-is_in_form-clause-broken g c = λ b h. Breaks.header refl (returns-then-not-is_in_form-clause-unlike g c b h)
