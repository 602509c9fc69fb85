use Rattle.std.proofs.Common.{◌≡◌, ℕ, ◌-◌, ◌/◌, ◌<◌, ◌≤◌, true, false, arith, ◌∙◌, ap, subst}
use Rattle.std.proofs.lemmas.Nat.{mul-le}
use Rattle.page_tree.specs.Page.{filled}
use Rattle.page_tree.specs.Tree.{node_at, IsRooted}
use Rattle.page_tree.proofs.Descent.{rooted, next_here, next_there, none_there}
use Rattle.page_tree.proofs.FormLaws.{root_met}
use Rattle.page_tree.proofs.WalkLaws.{key_part, stands_at}
use Rattle.page_tree.proofs.Calls.{looks_on, looks_as}
use Rattle.page_tree.proofs.after.look_after.Goals as goal

pub returns-in-Err-descend-clause-answer : goal.returns-in-Err-descend-clause-answer
returns-in-Err-descend-clause-answer g c = λ b h records tree.
    let revealed = c.in-Ok.ensures.header b h in
    let some : 0 < c.in-Ok.header.levels = omega (arith, c.if-header-eq0.false) in
    let size = g.met.M.FlatMem.same_size _ _ c.read_numbers.ensures.looks.kept in
    let there = rooted g.row.E g.row.K (g.M.FlatMem.size c.args.mem.now / 512) b records tree c.in-Ok.header.levels c.in-Ok.header.root revealed.0 revealed.1 some in
    c.in-Err-descend.ensures.leaf b (c.read_numbers.ensures.looks.unchanged b h) records tree.nodes (rw (← size) there)

pub returns-in-Err-descend-clause-broken : goal.returns-in-Err-descend-clause-broken
returns-in-Err-descend-clause-broken g c = λ b h.
    let revealed = c.in-Ok.ensures.header b h in
    let size = g.met.M.FlatMem.same_size _ _ c.read_numbers.ensures.looks.kept in
    rw size (c.in-Err-descend.ensures.broken b (c.read_numbers.ensures.looks.unchanged b h) (root_met g.row.K b (g.M.FlatMem.size c.args.mem.now) c.in-Ok.header.levels c.in-Ok.header.root (g.met.M.FlatMem.revealed_length c.args.mem.now b h) c.in-Ok.ensures.form (omega (arith, c.if-header-eq0.false)) revealed.0 revealed.1))

pub returns-then-place-count-clause-answer : goal.returns-then-place-count-clause-answer
returns-then-place-count-clause-answer g c = λ b h records tree.
    let revealed = c.in-Ok.ensures.header b h in
    let some : 0 < c.in-Ok.header.levels = omega (arith, c.if-header-eq0.false) in
    let size = g.met.M.FlatMem.same_size _ _ c.read_numbers.ensures.looks.kept in
    let there = rooted g.row.E g.row.K (g.M.FlatMem.size c.args.mem.now / 512) b records tree c.in-Ok.header.levels c.in-Ok.header.root revealed.0 revealed.1 some in
    let reached = c.in-Ok-descend.ensures.leaf b (c.read_numbers.ensures.looks.unchanged b h) records tree.nodes (rw (← size) there) in
    let within : g.row.K ≤ g.row.E = omega (arith, c.requires.sized.widths.key_most, c.requires.sized.widths.entry_least) in
    let less : c.count_at_most-place.result < filled c.descend.new.page = omega (arith, c.if-place-count.true, c.filled_of-count.ensures) in
    rw c.record_of.ensures (next_here g.row.E g.row.K b records c.in-Ok.header.levels tree.nodes there.tower some c.args.key.now c.descend.new.page c.descend.new.path.pages c.descend.new.path.index c.in-Ok-descend.at reached c.count_at_most-place.result less
    (λ above. key_part g.row.E g.row.K c.descend.new.page c.args.key.now (c.count_at_most-place.result - 1) true within (c.count_at_most-place.ensures.holds above))
    (key_part g.row.E g.row.K c.descend.new.page c.args.key.now c.count_at_most-place.result false within (c.count_at_most-place.ensures.above c.if-place-count.true)))

pub returns-then-place-count-clause-home : goal.returns-then-place-count-clause-home
returns-then-place-count-clause-home g c = λ b h.
    let read = c.in-Ok-descend.ensures.read b (c.read_numbers.ensures.looks.unchanged b h) in
    let revealed = c.in-Ok.ensures.header b h in
    let met = c.in-Ok-descend.ensures.met b (c.read_numbers.ensures.looks.unchanged b h) (root_met g.row.K b (g.M.FlatMem.size c.args.mem.now) c.in-Ok.header.levels c.in-Ok.header.root (g.met.M.FlatMem.revealed_length c.args.mem.now b h) c.in-Ok.ensures.form (omega (arith, c.if-header-eq0.false)) revealed.0 revealed.1) in
    stands_at g.row.E g.row.K b c.descend.new.page c.record_of.new.into c.in-Ok-descend.at c.count_at_most-place.result met.0 read.0 read.1 (omega (arith, c.if-place-count.true, c.filled_of-count.ensures)) c.record_of.ensures

pub returns-in-Err-next_leaf-clause-answer : goal.returns-in-Err-next_leaf-clause-answer
returns-in-Err-next_leaf-clause-answer g c = λ b h records tree.
    let revealed = c.in-Ok.ensures.header b h in
    let some : 0 < c.in-Ok.header.levels = omega (arith, c.if-header-eq0.false) in
    let size = g.met.M.FlatMem.same_size _ _ c.read_numbers.ensures.looks.kept in
    let size_down = g.met.M.FlatMem.same_size _ _ c.descend.ensures.looks.kept in
    let there = rooted g.row.E g.row.K (g.M.FlatMem.size c.args.mem.now / 512) b records tree c.in-Ok.header.levels c.in-Ok.header.root revealed.0 revealed.1 some in
    let reached = c.in-Ok-descend.ensures.leaf b (c.read_numbers.ensures.looks.unchanged b h) records tree.nodes (rw (← size) there) in
    let there_now = subst (λ (s : ℕ). IsRooted g.row.E g.row.K (s / 512) b records c.in-Ok.header.levels c.in-Ok.header.root tree.nodes) (size ∙ size_down) there in
    c.in-Err-next_leaf.ensures.leaf b (c.descend.ensures.looks.unchanged b (c.read_numbers.ensures.looks.unchanged b h)) records c.in-Ok.header.root c.in-Ok-descend.at tree.nodes reached.place there_now reached.path

pub returns-in-Err-next_leaf-clause-broken : goal.returns-in-Err-next_leaf-clause-broken
returns-in-Err-next_leaf-clause-broken g c = λ b h.
    let revealed = c.in-Ok.ensures.header b h in
    let size = g.met.M.FlatMem.same_size _ _ c.read_numbers.ensures.looks.kept in
    let size_down = g.met.M.FlatMem.same_size _ _ c.descend.ensures.looks.kept in
    let met = c.in-Ok-descend.ensures.met b (c.read_numbers.ensures.looks.unchanged b h) (root_met g.row.K b (g.M.FlatMem.size c.args.mem.now) c.in-Ok.header.levels c.in-Ok.header.root (g.met.M.FlatMem.revealed_length c.args.mem.now b h) c.in-Ok.ensures.form (omega (arith, c.if-header-eq0.false)) revealed.0 revealed.1) in
    rw (size ∙ size_down) (c.in-Err-next_leaf.ensures.met b (c.descend.ensures.looks.unchanged b (c.read_numbers.ensures.looks.unchanged b h)) c.in-Ok.header.root met.1)

pub returns-in-Err-next_leaf-clause-looks : goal.returns-in-Err-next_leaf-clause-looks
returns-in-Err-next_leaf-clause-looks g c =
    looks_on g.M.FlatMem g.met.M.FlatMem.beside_through g.met.M.FlatMem.beside_itself g.met.M.FlatMem.accounted_wider g.met.M.FlatMem.only_reads_through (λ b h. c.descend.ensures.looks.unchanged b (c.read_numbers.ensures.looks.unchanged b h)) (g.met.M.FlatMem.beside_through _ _ _ c.read_numbers.ensures.looks.kept c.descend.ensures.looks.kept) (g.met.M.FlatMem.only_reads_through _ _ _ c.read_numbers.ensures.looks.looked c.descend.ensures.looks.looked) c.next_leaf.ensures.looks c.in-Err-next_leaf.ensures.looks.cause (omega (arith, c.read_numbers.ensures.looks.cost, c.descend.ensures.looks.cost, c.next_leaf.ensures.looks.cost, mul-le c.in-Ok.header.levels g.M.FlatMem.cost 6 g.M.FlatMem.cost c.in-Ok.ensures.form.levels_most (omega arith)))

pub returns-in-None-clause-answer : goal.returns-in-None-clause-answer
returns-in-None-clause-answer g c = λ b h records tree.
    let revealed = c.in-Ok.ensures.header b h in
    let some : 0 < c.in-Ok.header.levels = omega (arith, c.if-header-eq0.false) in
    let size = g.met.M.FlatMem.same_size _ _ c.read_numbers.ensures.looks.kept in
    let size_down = g.met.M.FlatMem.same_size _ _ c.descend.ensures.looks.kept in
    let there = rooted g.row.E g.row.K (g.M.FlatMem.size c.args.mem.now / 512) b records tree c.in-Ok.header.levels c.in-Ok.header.root revealed.0 revealed.1 some in
    let reached = c.in-Ok-descend.ensures.leaf b (c.read_numbers.ensures.looks.unchanged b h) records tree.nodes (rw (← size) there) in
    let there_now = subst (λ (s : ℕ). IsRooted g.row.E g.row.K (s / 512) b records c.in-Ok.header.levels c.in-Ok.header.root tree.nodes) (size ∙ size_down) there in
    let within : g.row.K ≤ g.row.E = omega (arith, c.requires.sized.widths.key_most, c.requires.sized.widths.entry_least) in
    let all : c.count_at_most-place.result ≡ filled c.descend.new.page = omega (arith, c.if-place-count.false, c.filled_of-count.ensures, c.count_at_most-place.ensures.below) in
    let low = key_part g.row.E g.row.K c.descend.new.page c.args.key.now (c.count_at_most-place.result - 1) true within (c.count_at_most-place.ensures.holds (omega (arith, all, c.in-Ok-descend.ensures.form.0))) in
    let last = rw c.in-None.is at (c.in-Ok-next_leaf.ensures.leaf b (c.descend.ensures.looks.unchanged b (c.read_numbers.ensures.looks.unchanged b h)) records c.in-Ok.header.root c.in-Ok-descend.at tree.nodes reached.place there_now reached.path) in
    none_there g.row.E g.row.K b records c.in-Ok.header.levels tree.nodes there.tower some c.args.key.now c.descend.new.page c.descend.new.path.pages c.descend.new.path.index c.in-Ok-descend.at reached c.count_at_most-place.result all low last c.args.into.now

pub returns-clause-answer : goal.returns-clause-answer
returns-clause-answer g c = λ b h records tree.
    let revealed = c.in-Ok.ensures.header b h in
    let some : 0 < c.in-Ok.header.levels = omega (arith, c.if-header-eq0.false) in
    let size = g.met.M.FlatMem.same_size _ _ c.read_numbers.ensures.looks.kept in
    let size_down = g.met.M.FlatMem.same_size _ _ c.descend.ensures.looks.kept in
    let there = rooted g.row.E g.row.K (g.M.FlatMem.size c.args.mem.now / 512) b records tree c.in-Ok.header.levels c.in-Ok.header.root revealed.0 revealed.1 some in
    let reached = c.in-Ok-descend.ensures.leaf b (c.read_numbers.ensures.looks.unchanged b h) records tree.nodes (rw (← size) there) in
    let there_now = subst (λ (s : ℕ). IsRooted g.row.E g.row.K (s / 512) b records c.in-Ok.header.levels c.in-Ok.header.root tree.nodes) (size ∙ size_down) there in
    let within : g.row.K ≤ g.row.E = omega (arith, c.requires.sized.widths.key_most, c.requires.sized.widths.entry_least) in
    let all : c.count_at_most-place.result ≡ filled c.descend.new.page = omega (arith, c.if-place-count.false, c.filled_of-count.ensures, c.count_at_most-place.ensures.below) in
    let low = key_part g.row.E g.row.K c.descend.new.page c.args.key.now (c.count_at_most-place.result - 1) true within (c.count_at_most-place.ensures.holds (omega (arith, all, c.in-Ok-descend.ensures.form.0))) in
    let led = rw c.in-Some.is at (c.in-Ok-next_leaf.ensures.leaf b (c.descend.ensures.looks.unchanged b (c.read_numbers.ensures.looks.unchanged b h)) records c.in-Ok.header.root c.in-Ok-descend.at tree.nodes reached.place there_now reached.path) in
    rw c.record_of-2.ensures (next_there g.row.E g.row.K b records c.in-Ok.header.levels tree.nodes there.tower some c.args.key.now c.descend.new.page c.descend.new.path.pages c.descend.new.path.index c.in-Ok-descend.at reached c.count_at_most-place.result all low
    c.next_leaf.new.page c.in-Some.next (omega (arith, led.path.inside 1 (omega arith) (omega (arith, some)), led.home_is)) (led.path.here ∙ ap (λ (i : ℕ). (node_at (tree.nodes 1) i).page) led.home_is) led.bytes)

pub returns-clause-home : goal.returns-clause-home
returns-clause-home g c = λ b h.
    let read = rw c.in-Some.is at (c.in-Ok-next_leaf.ensures.read b (c.descend.ensures.looks.unchanged b (c.read_numbers.ensures.looks.unchanged b h))) in
    let form = rw c.in-Some.is at c.in-Ok-next_leaf.ensures.form in
    let revealed = c.in-Ok.ensures.header b h in
    let met = c.in-Ok-descend.ensures.met b (c.read_numbers.ensures.looks.unchanged b h) (root_met g.row.K b (g.M.FlatMem.size c.args.mem.now) c.in-Ok.header.levels c.in-Ok.header.root (g.met.M.FlatMem.revealed_length c.args.mem.now b h) c.in-Ok.ensures.form (omega (arith, c.if-header-eq0.false)) revealed.0 revealed.1) in
    let next = rw c.in-Some.is at (c.in-Ok-next_leaf.ensures.met b (c.descend.ensures.looks.unchanged b (c.read_numbers.ensures.looks.unchanged b h)) c.in-Ok.header.root met.1) in
    stands_at g.row.E g.row.K b c.next_leaf.new.page c.record_of-2.new.into c.in-Some.next 0 next.0 read form.kind (omega (arith, form.some)) c.record_of-2.ensures

pub returns-then-place-count-clause-looks : goal.returns-then-place-count-clause-looks
returns-then-place-count-clause-looks g c =
    looks_on g.M.FlatMem g.met.M.FlatMem.beside_through g.met.M.FlatMem.beside_itself g.met.M.FlatMem.accounted_wider g.met.M.FlatMem.only_reads_through c.read_numbers.ensures.looks.unchanged c.read_numbers.ensures.looks.kept c.read_numbers.ensures.looks.looked c.descend.ensures.looks tt (omega (arith, c.read_numbers.ensures.looks.cost, c.descend.ensures.looks.cost, mul-le c.in-Ok.header.levels g.M.FlatMem.cost 6 g.M.FlatMem.cost c.in-Ok.ensures.form.levels_most (omega arith)))

pub returns-in-None-clause-looks : goal.returns-in-None-clause-looks
returns-in-None-clause-looks g c =
    looks_on g.M.FlatMem g.met.M.FlatMem.beside_through g.met.M.FlatMem.beside_itself g.met.M.FlatMem.accounted_wider g.met.M.FlatMem.only_reads_through (λ b h. c.descend.ensures.looks.unchanged b (c.read_numbers.ensures.looks.unchanged b h)) (g.met.M.FlatMem.beside_through _ _ _ c.read_numbers.ensures.looks.kept c.descend.ensures.looks.kept) (g.met.M.FlatMem.only_reads_through _ _ _ c.read_numbers.ensures.looks.looked c.descend.ensures.looks.looked) c.next_leaf.ensures.looks tt (omega (arith, c.read_numbers.ensures.looks.cost, c.descend.ensures.looks.cost, c.next_leaf.ensures.looks.cost, mul-le c.in-Ok.header.levels g.M.FlatMem.cost 6 g.M.FlatMem.cost c.in-Ok.ensures.form.levels_most (omega arith)))

pub returns-clause-looks : goal.returns-clause-looks
returns-clause-looks g c =
    looks_on g.M.FlatMem g.met.M.FlatMem.beside_through g.met.M.FlatMem.beside_itself g.met.M.FlatMem.accounted_wider g.met.M.FlatMem.only_reads_through (λ b h. c.descend.ensures.looks.unchanged b (c.read_numbers.ensures.looks.unchanged b h)) (g.met.M.FlatMem.beside_through _ _ _ c.read_numbers.ensures.looks.kept c.descend.ensures.looks.kept) (g.met.M.FlatMem.only_reads_through _ _ _ c.read_numbers.ensures.looks.looked c.descend.ensures.looks.looked) c.next_leaf.ensures.looks tt (omega (arith, c.read_numbers.ensures.looks.cost, c.descend.ensures.looks.cost, c.next_leaf.ensures.looks.cost, mul-le c.in-Ok.header.levels g.M.FlatMem.cost 6 g.M.FlatMem.cost c.in-Ok.ensures.form.levels_most (omega arith)))

pub returns-in-Err-clause-looks : goal.returns-in-Err-clause-looks
returns-in-Err-clause-looks g c = looks_as g.M.FlatMem c.read_numbers.ensures.looks c.in-Err.ensures.looks.cause (omega (arith, c.read_numbers.ensures.looks.cost))

pub returns-then-header-eq0-clause-looks : goal.returns-then-header-eq0-clause-looks
returns-then-header-eq0-clause-looks g c = looks_as g.M.FlatMem c.read_numbers.ensures.looks tt (omega (arith, c.read_numbers.ensures.looks.cost))

pub returns-in-Err-descend-clause-looks : goal.returns-in-Err-descend-clause-looks
returns-in-Err-descend-clause-looks g c = looks_on g.M.FlatMem g.met.M.FlatMem.beside_through g.met.M.FlatMem.beside_itself g.met.M.FlatMem.accounted_wider g.met.M.FlatMem.only_reads_through c.read_numbers.ensures.looks.unchanged c.read_numbers.ensures.looks.kept c.read_numbers.ensures.looks.looked c.descend.ensures.looks c.in-Err-descend.ensures.looks.cause (omega (arith, c.read_numbers.ensures.looks.cost, c.descend.ensures.looks.cost, mul-le c.in-Ok.header.levels g.M.FlatMem.cost 6 g.M.FlatMem.cost c.in-Ok.ensures.form.levels_most (omega arith)))
