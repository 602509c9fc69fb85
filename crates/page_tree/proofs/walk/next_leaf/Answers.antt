use Rattle.std.proofs.Common.{ℕ, ◌+◌, ◌/◌, ◌<◌, get_or, arith, ◌∙◌, ap, subst}
use Rattle.page_tree.specs.Tree.{IsRooted}
use Rattle.page_tree.proofs.WalkLaws.{path_cut, met_cut, leads_after, none_after, led_moved}
use Rattle.page_tree.proofs.Threads.{thread_cut}
use Rattle.page_tree.proofs.WalkedLaws.{all_walked, walked_on}
use Rattle.page_tree.proofs.Calls.{looks_as, looks_on}
use Rattle.std.proofs.lemmas.Nat.{mul-le}
use Rattle.page_tree.proofs.walk.next_leaf.Goals as goal

pub returns-in-Err-clause-leaf : goal.returns-in-Err-clause-leaf
returns-in-Err-clause-leaf g c = λ b h records root at nodes home rooted path. c.in-Err.ensures.turn b h g.row.E records root at nodes home rooted path

pub returns-in-Err-clause-met : goal.returns-in-Err-clause-met
returns-in-Err-clause-met g c = λ b h root path. c.in-Err.ensures.met b h g.row.E root path

pub returns-in-None-clause-leaf : goal.returns-in-None-clause-leaf
returns-in-None-clause-leaf g c = λ b h records root at nodes home rooted path.
    none_after g.row.E g.row.K _ b records c.args.levels root nodes rooted c.requires.way.some c.args.path.now.pages c.args.path.now.index at home path (rw c.in-None.is at (c.in-Ok.ensures.turn b h g.row.E records root at nodes home rooted path))

pub go_down-requires-clause-place : goal.go_down-requires-clause-place
go_down-requires-clause-place g c =
    let form = rw c.in-Some.is at c.in-Ok.ensures.form in
    record {
      some = omega (arith, form.0);
      most = omega (arith, form.1, c.requires.way.few);
      inside = omega (arith, c.requires.way.path c.in-Some.level (omega (arith, form.0)) form.1, g.met.M.FlatMem.same_size _ _ c.turning_level.ensures.looks.kept);
    }

pub returns-in-Err-go_down-clause-leaf : goal.returns-in-Err-go_down-clause-leaf
returns-in-Err-go_down-clause-leaf g c = λ b h records root at nodes home rooted path.
    let form = rw c.in-Some.is at c.in-Ok.ensures.form in
    let turn = rw c.in-Some.is at (c.in-Ok.ensures.turn b h g.row.E records root at nodes home rooted path) in
    let size = g.met.M.FlatMem.same_size _ _ c.turning_level.ensures.looks.kept in
    let rooted_now = subst (λ (s : ℕ). IsRooted g.row.E g.row.K (s / 512) b records c.args.levels root nodes) size rooted in
    c.in-Err-go_down.ensures.leaf b (c.turning_level.ensures.looks.unchanged b h) records c.args.levels root nodes home rooted_now form.1 (path_cut nodes c.args.levels 1 c.in-Some.level _ _ at home path (omega (arith, form.0)) form.1) (λ above. turn.0)

pub returns-clause-leaf : goal.returns-clause-leaf
returns-clause-leaf g c = λ b h records root at nodes home rooted path.
    let form = rw c.in-Some.is at c.in-Ok.ensures.form in
    let turn = rw c.in-Some.is at (c.in-Ok.ensures.turn b h g.row.E records root at nodes home rooted path) in
    let size = g.met.M.FlatMem.same_size _ _ c.turning_level.ensures.looks.kept in
    let rooted_now = subst (λ (s : ℕ). IsRooted g.row.E g.row.K (s / 512) b records c.args.levels root nodes) size rooted in
    let led = c.in-Ok-go_down.ensures.leaf b (c.turning_level.ensures.looks.unchanged b h) records c.args.levels root nodes home rooted_now form.1 (path_cut nodes c.args.levels 1 c.in-Some.level _ _ at home path (omega (arith, form.0)) form.1) (λ above. turn.0) in
    led_moved b c.args.levels nodes c.go_down.new.page c.go_down.new.path.pages c.go_down.new.path.index c.in-Ok-go_down.leaf _ (home 1 + 1) (leads_after nodes c.args.levels _ _ at home path c.in-Some.level form.0 form.1 turn.1) led

pub returns-in-Err-go_down-clause-met : goal.returns-in-Err-go_down-clause-met
returns-in-Err-go_down-clause-met g c = λ b h root path.
    let form = rw c.in-Some.is at c.in-Ok.ensures.form in
    let fits = rw c.in-Some.is at (c.in-Ok.ensures.met b h g.row.E root path) in
    let size = g.met.M.FlatMem.same_size _ _ c.turning_level.ensures.looks.kept in
    let above : 1 < c.in-Some.level = omega (arith, form.0) in
    rw size (c.in-Err-go_down.ensures.met b (c.turning_level.ensures.looks.unchanged b h) c.args.levels root form.1 (path.met c.in-Some.level above form.1) (met_cut g.row.K b c.args.levels 1 c.in-Some.level root _ _ above path) (λ above. fits)
    (λ same. ap (λ (i : ℕ). get_or c.args.path.now.pages i 0) same ∙ path.top (omega (arith, above, form.1))))

pub returns-clause-met : goal.returns-clause-met
returns-clause-met g c = λ b h root path.
    let form = rw c.in-Some.is at c.in-Ok.ensures.form in
    let fits = rw c.in-Some.is at (c.in-Ok.ensures.met b h g.row.E root path) in
    let above : 1 < c.in-Some.level = omega (arith, form.0) in
    c.in-Ok-go_down.ensures.met b (c.turning_level.ensures.looks.unchanged b h) c.args.levels root form.1 (path.met c.in-Some.level above form.1) (met_cut g.row.K b c.args.levels 1 c.in-Some.level root _ _ above path) (λ above. fits)
    (λ same. ap (λ (i : ℕ). get_or c.args.path.now.pages i 0) same ∙ path.top (omega (arith, above, form.1)))

pub returns-clause-path : goal.returns-clause-path
returns-clause-path g c =
    let form = rw c.in-Some.is at c.in-Ok.ensures.form in
    let size = g.met.M.FlatMem.same_size _ _ c.turning_level.ensures.looks.kept in
    rw size (c.in-Ok-go_down.ensures.path c.args.levels (λ n from most. rw (← size) (c.requires.way.path n (omega (arith, from, form.0)) most)))

pub returns-in-Err-clause-walked : goal.returns-in-Err-clause-walked
returns-in-Err-clause-walked g c = λ b h root at passed walked. c.in-Err.ensures.met b h g.row.E root walked.path

pub returns-in-None-clause-walked : goal.returns-in-None-clause-walked
returns-in-None-clause-walked g c = λ b h root at passed walked.
    all_walked g.row.K b c.args.levels root c.args.path.now.pages c.args.path.now.index at passed c.requires.way.some walked (rw c.in-None.is at (c.in-Ok.ensures.last b h root walked.path))

pub returns-in-Err-go_down-clause-walked : goal.returns-in-Err-go_down-clause-walked
returns-in-Err-go_down-clause-walked g c = λ b h root at passed walked. returns-in-Err-go_down-clause-met g c b h root walked.path

pub returns-clause-walked : goal.returns-clause-walked
returns-clause-walked g c = λ b h root at passed walked.
    let form = rw c.in-Some.is at c.in-Ok.ensures.form in
    let fits = rw c.in-Some.is at (c.in-Ok.ensures.met b h g.row.E root walked.path) in
    let last = rw c.in-Some.is at (c.in-Ok.ensures.last b h root walked.path) in
    let above : 1 < c.in-Some.level = omega (arith, form.0) in
    let revealed = c.turning_level.ensures.looks.unchanged b h in
    let met = c.in-Ok-go_down.ensures.met b revealed c.args.levels root form.1 (walked.path.met c.in-Some.level above form.1) (met_cut g.row.K b c.args.levels 1 c.in-Some.level root _ _ above walked.path) (λ above. fits)
    (λ same. ap (λ (i : ℕ). get_or c.args.path.now.pages i 0) same ∙ walked.path.top (omega (arith, above, form.1))) in
    let thread = c.in-Ok-go_down.ensures.thread b revealed c.args.levels root form.1 (thread_cut g.row.K b c.args.levels root c.args.path.now.pages c.args.path.now.index at c.in-Some.level above walked.thread form.1) in
    walked_on g.row.K b c.args.levels root c.args.path.now.pages c.args.path.now.index c.go_down.new.path.pages c.go_down.new.path.index at c.in-Ok-go_down.leaf c.in-Some.level passed form.0 form.1 walked last c.in-Ok-go_down.ensures.down met.0 met.1 thread

pub returns-clause-inside : goal.returns-clause-inside
returns-clause-inside g c = omega (arith, c.in-Ok-go_down.ensures.inside, g.met.M.FlatMem.same_size _ _ c.turning_level.ensures.looks.kept)

pub returns-in-Err-clause-looks : goal.returns-in-Err-clause-looks
returns-in-Err-clause-looks g c = looks_as g.M.FlatMem c.turning_level.ensures.looks c.in-Err.ensures.looks.cause (omega (arith, c.turning_level.ensures.looks.cost))

pub returns-in-None-clause-looks : goal.returns-in-None-clause-looks
returns-in-None-clause-looks g c = looks_as g.M.FlatMem c.turning_level.ensures.looks tt (omega (arith, c.turning_level.ensures.looks.cost))

pub returns-in-Err-go_down-clause-looks : goal.returns-in-Err-go_down-clause-looks
returns-in-Err-go_down-clause-looks g c =
    let form = rw c.in-Some.is at c.in-Ok.ensures.form in
    looks_on g.M.FlatMem g.met.M.FlatMem.beside_through g.met.M.FlatMem.beside_itself g.met.M.FlatMem.accounted_wider g.met.M.FlatMem.only_reads_through c.turning_level.ensures.looks.unchanged c.turning_level.ensures.looks.kept c.turning_level.ensures.looks.looked c.go_down.ensures.looks c.in-Err-go_down.ensures.looks.cause (omega (arith, c.turning_level.ensures.looks.cost, c.go_down.ensures.looks.cost, mul-le c.in-Some.level g.M.FlatMem.cost 6 g.M.FlatMem.cost (omega (arith, form.1, c.requires.way.few)) (omega arith)))

pub returns-clause-looks : goal.returns-clause-looks
returns-clause-looks g c =
    let form = rw c.in-Some.is at c.in-Ok.ensures.form in
    looks_on g.M.FlatMem g.met.M.FlatMem.beside_through g.met.M.FlatMem.beside_itself g.met.M.FlatMem.accounted_wider g.met.M.FlatMem.only_reads_through c.turning_level.ensures.looks.unchanged c.turning_level.ensures.looks.kept c.turning_level.ensures.looks.looked c.go_down.ensures.looks tt (omega (arith, c.turning_level.ensures.looks.cost, c.go_down.ensures.looks.cost, mul-le c.in-Some.level g.M.FlatMem.cost 6 g.M.FlatMem.cost (omega (arith, form.1, c.requires.way.few)) (omega arith)))
