use Rattle.std.proofs.Common.{◌≡◌, ℕ, ◌/◌, length, arith, sym, ◌∙◌, ap, subst}
use Rattle.page_tree.specs.Tree.{IsTree}
use Rattle.page_tree.specs.Removed.{IsReplaced}
use Rattle.page_tree.proofs.FormLaws.{root_met}
use Rattle.page_tree.proofs.replacing.replace_key.Goals as goal

pub returns-then-header-eq0-clause-answer : goal.returns-then-header-eq0-clause-answer
returns-then-header-eq0-clause-answer g c = λ b h records tree.
    let none : tree.levels ≡ 0 = sym tree.header.levels_is ∙ (c.in-Ok.ensures.fields b h).levels_is ∙ c.if-header-eq0.true in
    (λ j below same. absurd (omega (arith, below, ap length (tree.tower.none none))), c.read_numbers.ensures.looks.unchanged b h)

pub returns-in-Ok-replace_in-clause-answer : goal.returns-in-Ok-replace_in-clause-answer
returns-in-Ok-replace_in-clause-answer g c = λ b h records tree.
    let size = g.met.M.FlatMem.same_size _ _ c.read_numbers.ensures.looks.kept in
    let tree_now = subst (λ (s : ℕ). IsTree g.row.E g.row.K (s / 512) b records) size tree in
    let done = c.in-Ok-replace_in.ensures.replaced b (c.read_numbers.ensures.looks.unchanged b h) records tree_now (c.in-Ok.ensures.fields b h) in
    subst (λ (s : ℕ). IsReplaced g.row.E g.row.K (s / 512) (g.M.FlatMem.reveals c.replace_in.new.mem) b records c.args.entry.now c.in-Ok-replace_in.found) (sym size) done

pub returns-in-Err-replace_in-clause-answer : goal.returns-in-Err-replace_in-clause-answer
returns-in-Err-replace_in-clause-answer g c = λ b h records tree.
    let size = g.met.M.FlatMem.same_size _ _ c.read_numbers.ensures.looks.kept in
    let tree_now = subst (λ (s : ℕ). IsTree g.row.E g.row.K (s / 512) b records) size tree in
    c.in-Err-replace_in.ensures.replaced b (c.read_numbers.ensures.looks.unchanged b h) records tree_now (c.in-Ok.ensures.fields b h)

pub returns-then-header-eq0-clause-absent : goal.returns-then-header-eq0-clause-absent
returns-then-header-eq0-clause-absent g c = λ b h same. c.read_numbers.ensures.looks.unchanged b h

pub returns-in-Ok-replace_in-clause-absent : goal.returns-in-Ok-replace_in-clause-absent
returns-in-Ok-replace_in-clause-absent g c = λ b h same. c.in-Ok-replace_in.ensures.absent b (c.read_numbers.ensures.looks.unchanged b h) same

pub returns-in-Err-replace_in-clause-broken : goal.returns-in-Err-replace_in-clause-broken
returns-in-Err-replace_in-clause-broken g c = λ b h.
    let revealed = c.in-Ok.ensures.header b h in
    let size = g.met.M.FlatMem.same_size _ _ c.read_numbers.ensures.looks.kept in
    rw size (c.in-Err-replace_in.ensures.broken b (c.read_numbers.ensures.looks.unchanged b h) (root_met g.row.K b (g.M.FlatMem.size c.args.mem.now) c.in-Ok.header.levels c.in-Ok.header.root (g.met.M.FlatMem.revealed_length c.args.mem.now b h) c.in-Ok.ensures.form (omega (arith, c.if-header-eq0.false)) revealed.0 revealed.1))
