use Rattle.std.proofs.Common.{refl, sym}
use Rattle.page_tree.specs.Page.{page_at}
use Rattle.page_tree.specs.Broken.{Breaks}
use Rattle.page_tree.proofs.FormLaws.{tree_form, numbers_form, numbers_read}
use Rattle.page_tree.proofs.look.read_numbers.Goals as goal

pub returns-clause-header : goal.returns-clause-header
returns-clause-header g c = λ b h.
    let of = c.header_of-header.ensures in
    let head = numbers_read c.read.new.into b _ _ _ _ _ (c.in-Ok.ensures.read b h) of.count of.root of.top of.free of.levels in
    (sym head.levels_is, sym head.root_is)

pub returns-clause-fields : goal.returns-clause-fields
returns-clause-fields g c = λ b h.
    let of = c.header_of-header.ensures in
    let head = numbers_read c.read.new.into b _ _ _ _ _ (c.in-Ok.ensures.read b h) of.count of.root of.top of.free of.levels in
    head

pub returns-then-not-is_in_form-clause-well : goal.returns-then-not-is_in_form-clause-well
returns-then-not-is_in_form-clause-well g c = λ b h records tree.
    let of = c.header_of-header.ensures in
    let head = numbers_read c.read.new.into b _ _ _ _ _ (c.in-Ok.ensures.read b h) of.count of.root of.top of.free of.levels in
    absurd (c.is_in_form.ensures.no c.if-not-is_in_form.true (numbers_form g.row.E _ (page_at b 0) _ _ _ _ _ head (rw c.len.ensures (tree_form g.row.E g.row.K _ b records tree))))

pub returns-then-not-is_in_form-clause-broken : goal.returns-then-not-is_in_form-clause-broken
returns-then-not-is_in_form-clause-broken g c = λ b h.
    let of = c.header_of-header.ensures in
    let head = numbers_read c.read.new.into b _ _ _ _ _ (c.in-Ok.ensures.read b h) of.count of.root of.top of.free of.levels in
    Breaks.header refl (λ form. c.is_in_form.ensures.no c.if-not-is_in_form.true (numbers_form g.row.E _ (page_at b 0) _ _ _ _ _ head (rw c.len.ensures form)))
