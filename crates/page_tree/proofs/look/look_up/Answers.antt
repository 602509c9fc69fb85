use Rattle.std.proofs.Common.{◌<◌, ◌/◌, arith}
use Rattle.page_tree.proofs.Descent.{rooted, found_in_leaf, stands_in}
use Rattle.page_tree.proofs.FormLaws.{root_met}
use Rattle.page_tree.proofs.Calls.{looks_as, looks_on}
use Rattle.std.proofs.lemmas.Nat.{mul-le}
use Rattle.page_tree.proofs.look.look_up.Goals as goal

pub returns-in-Err-descend-clause-answer : goal.returns-in-Err-descend-clause-answer
returns-in-Err-descend-clause-answer g c = λ b h records tree.
    let revealed = c.in-Ok.ensures.header b h in
    let some : 0 < c.in-Ok.header.levels = omega (arith, c.if-header-eq0.false) in
    let size = g.met.M.FlatMem.same_size _ _ c.read_numbers.ensures.looks.kept in
    let there = rooted g.row.E g.row.K (g.M.FlatMem.size c.args.mem.now / 512) b records tree c.in-Ok.header.levels c.in-Ok.header.root revealed.0 revealed.1 some in
    c.in-Err-descend.ensures.leaf b (c.read_numbers.ensures.looks.unchanged b h) records tree.nodes (rw (← size) there)

pub returns-then-last_in_page-clause-answer : goal.returns-then-last_in_page-clause-answer
returns-then-last_in_page-clause-answer g c = λ b h records tree.
    let revealed = c.in-Ok.ensures.header b h in
    let some : 0 < c.in-Ok.header.levels = omega (arith, c.if-header-eq0.false) in
    let size = g.met.M.FlatMem.same_size _ _ c.read_numbers.ensures.looks.kept in
    let there = rooted g.row.E g.row.K (g.M.FlatMem.size c.args.mem.now / 512) b records tree c.in-Ok.header.levels c.in-Ok.header.root revealed.0 revealed.1 some in
    let reached = c.in-Ok-descend.ensures.leaf b (c.read_numbers.ensures.looks.unchanged b h) records tree.nodes (rw (← size) there) in
    rw c.if-last_in_page.true at
    (found_in_leaf g.row.E g.row.K b records c.in-Ok.header.levels tree.nodes there.tower some c.args.key.now c.descend.new.page c.last_in_page.new.into c.descend.new.path.pages c.descend.new.path.index c.in-Ok-descend.at reached c.last_in_page.result c.last_in_page.ensures)

pub returns-else-last_in_page-clause-answer : goal.returns-else-last_in_page-clause-answer
returns-else-last_in_page-clause-answer g c = λ b h records tree.
    let revealed = c.in-Ok.ensures.header b h in
    let some : 0 < c.in-Ok.header.levels = omega (arith, c.if-header-eq0.false) in
    let size = g.met.M.FlatMem.same_size _ _ c.read_numbers.ensures.looks.kept in
    let there = rooted g.row.E g.row.K (g.M.FlatMem.size c.args.mem.now / 512) b records tree c.in-Ok.header.levels c.in-Ok.header.root revealed.0 revealed.1 some in
    let reached = c.in-Ok-descend.ensures.leaf b (c.read_numbers.ensures.looks.unchanged b h) records tree.nodes (rw (← size) there) in
    rw c.if-last_in_page.false at
    (found_in_leaf g.row.E g.row.K b records c.in-Ok.header.levels tree.nodes there.tower some c.args.key.now c.descend.new.page c.last_in_page.new.into c.descend.new.path.pages c.descend.new.path.index c.in-Ok-descend.at reached c.last_in_page.result c.last_in_page.ensures)

pub returns-then-last_in_page-clause-home : goal.returns-then-last_in_page-clause-home
returns-then-last_in_page-clause-home g c = λ b h.
    let revealed = c.in-Ok.ensures.header b h in
    let read = c.in-Ok-descend.ensures.read b (c.read_numbers.ensures.looks.unchanged b h) in
    let met = c.in-Ok-descend.ensures.met b (c.read_numbers.ensures.looks.unchanged b h) (root_met g.row.K b (g.M.FlatMem.size c.args.mem.now) c.in-Ok.header.levels c.in-Ok.header.root (g.met.M.FlatMem.revealed_length c.args.mem.now b h) c.in-Ok.ensures.form (omega (arith, c.if-header-eq0.false)) revealed.0 revealed.1) in
    stands_in g.row.E g.row.K b c.descend.new.page c.args.key.now c.last_in_page.new.into c.in-Ok-descend.at c.last_in_page.result c.if-last_in_page.true met.0 read.0 read.1 c.last_in_page.ensures

pub returns-in-Err-descend-clause-broken : goal.returns-in-Err-descend-clause-broken
returns-in-Err-descend-clause-broken g c = λ b h.
    let revealed = c.in-Ok.ensures.header b h in
    let size = g.met.M.FlatMem.same_size _ _ c.read_numbers.ensures.looks.kept in
    rw (size) (c.in-Err-descend.ensures.broken b (c.read_numbers.ensures.looks.unchanged b h) (root_met g.row.K b (g.M.FlatMem.size c.args.mem.now) c.in-Ok.header.levels c.in-Ok.header.root (g.met.M.FlatMem.revealed_length c.args.mem.now b h) c.in-Ok.ensures.form (omega (arith, c.if-header-eq0.false)) revealed.0 revealed.1))

pub returns-in-Err-clause-looks : goal.returns-in-Err-clause-looks
returns-in-Err-clause-looks g c = looks_as g.M.FlatMem c.read_numbers.ensures.looks c.in-Err.ensures.looks.cause (omega (arith, c.read_numbers.ensures.looks.cost))

pub returns-then-header-eq0-clause-looks : goal.returns-then-header-eq0-clause-looks
returns-then-header-eq0-clause-looks g c = looks_as g.M.FlatMem c.read_numbers.ensures.looks tt (omega (arith, c.read_numbers.ensures.looks.cost))

pub returns-in-Err-descend-clause-looks : goal.returns-in-Err-descend-clause-looks
returns-in-Err-descend-clause-looks g c = looks_on g.M.FlatMem g.met.M.FlatMem.beside_through g.met.M.FlatMem.beside_itself g.met.M.FlatMem.accounted_wider g.met.M.FlatMem.only_reads_through c.read_numbers.ensures.looks.unchanged c.read_numbers.ensures.looks.kept c.read_numbers.ensures.looks.looked c.descend.ensures.looks c.in-Err-descend.ensures.looks.cause (omega (arith, c.read_numbers.ensures.looks.cost, c.descend.ensures.looks.cost, mul-le c.in-Ok.header.levels g.M.FlatMem.cost 6 g.M.FlatMem.cost c.in-Ok.ensures.form.levels_most (omega arith)))

pub returns-then-last_in_page-clause-looks : goal.returns-then-last_in_page-clause-looks
returns-then-last_in_page-clause-looks g c = looks_on g.M.FlatMem g.met.M.FlatMem.beside_through g.met.M.FlatMem.beside_itself g.met.M.FlatMem.accounted_wider g.met.M.FlatMem.only_reads_through c.read_numbers.ensures.looks.unchanged c.read_numbers.ensures.looks.kept c.read_numbers.ensures.looks.looked c.descend.ensures.looks tt (omega (arith, c.read_numbers.ensures.looks.cost, c.descend.ensures.looks.cost, mul-le c.in-Ok.header.levels g.M.FlatMem.cost 6 g.M.FlatMem.cost c.in-Ok.ensures.form.levels_most (omega arith)))

pub returns-else-last_in_page-clause-looks : goal.returns-else-last_in_page-clause-looks
returns-else-last_in_page-clause-looks g c = looks_on g.M.FlatMem g.met.M.FlatMem.beside_through g.met.M.FlatMem.beside_itself g.met.M.FlatMem.accounted_wider g.met.M.FlatMem.only_reads_through c.read_numbers.ensures.looks.unchanged c.read_numbers.ensures.looks.kept c.read_numbers.ensures.looks.looked c.descend.ensures.looks tt (omega (arith, c.read_numbers.ensures.looks.cost, c.descend.ensures.looks.cost, mul-le c.in-Ok.header.levels g.M.FlatMem.cost 6 g.M.FlatMem.cost c.in-Ok.ensures.form.levels_most (omega arith)))
