use Rattle.std.proofs.Common.{ℕ, arith, refl}
use Rattle.std.proofs.lemmas.Nat.{mul-le}
use Rattle.page_tree.proofs.Descent.{path_root, none_empty}
use Rattle.page_tree.proofs.MetLaws.{met_root}
use Rattle.page_tree.proofs.WalkLaws.{led_moved}
use Rattle.page_tree.proofs.Threads.{thread_root}
use Rattle.page_tree.proofs.WalkedLaws.{walked_first}
use Rattle.page_tree.proofs.PlacedLaws.{first_from}
use Rattle.page_tree.proofs.Calls.{looks_as}
use Rattle.page_tree.proofs.by_index.first_leaf.Goals as goal

pub returns-in-Ok-clause-leaf : goal.returns-in-Ok-clause-leaf
returns-in-Ok-clause-leaf g c = λ b h records nodes rooted.
    let led = c.in-Ok.ensures.leaf b h records c.args.levels c.args.root nodes (λ (n : ℕ). 0) rooted (omega arith) (path_root nodes c.args.levels _ _ c.args.root rooted.one rooted.root_is)
    (λ above. none_empty g.row.E g.row.K b records c.args.levels nodes rooted.tower c.args.levels (omega (arith, c.requires.place.some)) (omega arith) 0 (omega (arith, rooted.one))) in
    led_moved b c.args.levels nodes c.go_down.new.page c.go_down.new.path.pages c.go_down.new.path.index c.in-Ok.leaf _ 0 (first_from nodes c.args.levels) led

pub returns-in-Err-clause-leaf : goal.returns-in-Err-clause-leaf
returns-in-Err-clause-leaf g c = λ b h records nodes rooted.
    c.in-Err.ensures.leaf b h records c.args.levels c.args.root nodes (λ (n : ℕ). 0) rooted (omega arith) (path_root nodes c.args.levels _ _ c.args.root rooted.one rooted.root_is)
    (λ above. none_empty g.row.E g.row.K b records c.args.levels nodes rooted.tower c.args.levels (omega (arith, c.requires.place.some)) (omega arith) 0 (omega (arith, rooted.one)))

pub returns-in-Ok-clause-walked : goal.returns-in-Ok-clause-walked
returns-in-Ok-clause-walked g c = λ b h top.
    let met = c.in-Ok.ensures.met b h c.args.levels c.args.root (omega arith) top (met_root g.row.K b c.args.levels c.args.root _ _) (λ above. omega arith) (λ same. refl) in
    let thread = c.in-Ok.ensures.thread b h c.args.levels c.args.root (omega arith) (thread_root g.row.K b c.args.levels c.args.root _ _) in
    walked_first g.row.K b c.args.levels c.args.root c.args.root c.args.path.now.pages c.args.path.now.index c.go_down.new.path.pages c.go_down.new.path.index c.in-Ok.leaf c.requires.place.some c.in-Ok.ensures.down met.0 met.1 thread

pub returns-in-Err-clause-walked : goal.returns-in-Err-clause-walked
returns-in-Err-clause-walked g c = λ b h top. c.in-Err.ensures.met b h c.args.levels c.args.root (omega arith) top (met_root g.row.K b c.args.levels c.args.root _ _) (λ above. omega arith) (λ same. refl)

pub returns-in-Ok-clause-path : goal.returns-in-Ok-clause-path
returns-in-Ok-clause-path g c = c.in-Ok.ensures.path c.args.levels (λ n from most. absurd (omega (arith, from, most)))

pub returns-in-Ok-clause-looks : goal.returns-in-Ok-clause-looks
returns-in-Ok-clause-looks g c =
    looks_as g.M.FlatMem c.go_down.ensures.looks tt (omega (arith, c.go_down.ensures.looks.cost, mul-le c.args.levels g.M.FlatMem.cost 6 g.M.FlatMem.cost c.requires.place.most (omega arith)))

pub returns-in-Err-clause-looks : goal.returns-in-Err-clause-looks
returns-in-Err-clause-looks g c =
    looks_as g.M.FlatMem c.go_down.ensures.looks c.in-Err.ensures.looks.cause (omega (arith, c.go_down.ensures.looks.cost, mul-le c.args.levels g.M.FlatMem.cost 6 g.M.FlatMem.cost c.requires.place.most (omega arith)))
