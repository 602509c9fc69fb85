use Rattle.std.proofs.Common.{ℕ, ◌+◌, ◌-◌, ◌/◌, ◌<◌, [], ◌∷◌, ◌++◌, length, arith, refl, sym, ◌∙◌, ap, subst}
use Rattle.page_tree.specs.Page.{page_at, filled}
use Rattle.page_tree.specs.Tree.{node_at, before}
use Rattle.page_tree.specs.Tree.{IsRooted}
use Rattle.page_tree.proofs.FormLaws.{root_met}
use Rattle.page_tree.proofs.PlacedLaws.{placed_leaf, few_leaves, past_last, rest_after, walks}
use Rattle.page_tree.proofs.Calls.{looks_as, looks_on, walk_done, walk_most}
use Rattle.page_tree.proofs.WalkedLaws.{fewer_passed}
use Rattle.page_tree.proofs.MetLaws.{met_after}
use Rattle.page_tree.proofs.IndexedLaws.{walked_indexed, short_of, crowded_by}
use Rattle.page_tree.proofs.WayLaws.{malformed_wider}
use Rattle.page_tree.proofs.CountLaws.{records_more, leaves_more, few_broken, crowd_broken}
use Rattle.page_tree.proofs.by_index.find_place.Goals as goal

pub leaves-preserved : goal.leaves-preserved
leaves-preserved g c = record {
  led = λ b h records nodes rooted start.
      let was = c.leaves.invariant.led b h records nodes rooted start in
      let some : 0 < c.args.header.levels = omega (arith, c.requires.rooted.some) in
      let revealed = c.leaves.invariant.unchanged b h in
      let rooted_now = subst (λ (s : ℕ). IsRooted g.row.E g.row.K (s / 512) b records c.args.header.levels c.args.header.root nodes) (g.met.M.FlatMem.same_size _ _ c.leaves.invariant.kept) rooted in
      let on = rw c.in-Some.is at (c.in-Ok-next_leaf.ensures.leaf b revealed records c.args.header.root c.leaves.at nodes was.0.home rooted_now was.0.path) in
      let home_below = was.0.path.inside 1 (omega arith) (omega (arith, some)) in
      let leaf_here = placed_leaf g.row.E g.row.K b records c.args.header.levels nodes rooted.tower some c.leaves.page c.leaves.path.pages c.leaves.path.index c.leaves.at was.0.home was.0.path (was.0.bytes ∙ ap (page_at b) was.0.path.here) in (
        record { home = on.home; path = on.path; home_is = on.home_is ∙ ap (λ (i : ℕ). i + 1) was.0.home_is; bytes = on.bytes },
        rest_after (nodes 1) c.leaves.passed c.filled_of-count.result c.leaves.rest c.args.index (omega (arith, home_below, was.0.home_is))
            (c.filled_of-count.ensures ∙ leaf_here.count ∙ ap (λ (i : ℕ). length (node_at (nodes 1) i).items) was.0.home_is) (omega (arith, c.if-rest-count.false)) was.1,
      );
  walked = λ b h root start read.
      let was = c.leaves.invariant.walked b h root start read in
      let revealed = c.leaves.invariant.unchanged b h in
      let on = rw c.in-Some.is at (c.in-Ok-next_leaf.ensures.walked b revealed root c.leaves.at was.0 was.1) in
      let here = c.leaves.invariant.read b h read in (
        was.0 ++ c.leaves.at ∷ [],
        on,
        leaves_more was.0 c.leaves.at ∙ ap (λ (n : ℕ). n + 1) was.2,
        omega (arith, records_more b was.0 c.leaves.at, ap filled here, c.filled_of-count.ensures, was.3, c.if-rest-count.false),
      );
  path = rw (g.met.M.FlatMem.same_size _ _ c.leaves.invariant.kept) c.in-Ok-next_leaf.ensures.path;
  inside = let there = rw c.in-Some.is at c.in-Ok-next_leaf.ensures.inside in omega (arith, there, g.met.M.FlatMem.same_size _ _ c.leaves.invariant.kept);
  few = omega (arith, c.leaves-test.true);
  form = rw c.in-Some.is at c.in-Ok-next_leaf.ensures.form;
  read = λ b h read. rw c.in-Some.is at (c.in-Ok-next_leaf.ensures.read b (c.leaves.invariant.unchanged b h));
  unchanged = λ b h. c.next_leaf.ensures.looks.unchanged b (c.leaves.invariant.unchanged b h);
  kept = g.met.M.FlatMem.beside_through _ _ _ c.leaves.invariant.kept c.next_leaf.ensures.looks.kept;
  looked = g.met.M.FlatMem.only_reads_through _ _ _ c.leaves.invariant.looked c.next_leaf.ensures.looks.looked;
  cost = walks _ _ _ g.M.FlatMem.cost c.leaves.passed c.leaves.invariant.cost c.next_leaf.ensures.looks.cost;
}

pub returns-in-Err-clause-placed : goal.returns-in-Err-clause-placed
returns-in-Err-clause-placed g c = λ b h records here below. c.in-Err.ensures.leaf b h records here.nodes here.rooted

pub returns-in-Err-clause-broken : goal.returns-in-Err-clause-broken
returns-in-Err-clause-broken g c = λ b h is less. c.in-Err.ensures.walked b h (root_met g.row.K b (g.M.FlatMem.size c.args.mem.now) c.args.header.levels c.args.header.root (g.met.M.FlatMem.revealed_length c.args.mem.now b h) c.requires.rooted.begins c.requires.rooted.some (sym is.levels_is) (sym is.root_is))

pub returns-then-rest-count-clause-placed : goal.returns-then-rest-count-clause-placed
returns-then-rest-count-clause-placed g c = λ b h records here below.
    let revealed = c.first_leaf.ensures.looks.unchanged b h in
    let size = g.met.M.FlatMem.same_size _ _ c.first_leaf.ensures.looks.kept in
    let was = c.leaves.invariant.led b revealed records here.nodes (subst (λ (s : ℕ). IsRooted g.row.E g.row.K (s / 512) b records c.args.header.levels c.args.header.root here.nodes) size here.rooted) (c.in-Ok.ensures.leaf b h records here.nodes here.rooted) in
    record {
      home = was.0.home;
      path = was.0.path;
      bytes = was.0.bytes ∙ ap (page_at b) was.0.path.here;
      below = omega (arith, c.if-rest-count.true, c.filled_of-count.ensures);
      is = was.1 ∙ ap (λ (i : ℕ). before (here.nodes 1) i + c.leaves.rest) (sym was.0.home_is);
    }

pub returns-in-Err-next_leaf-clause-placed : goal.returns-in-Err-next_leaf-clause-placed
returns-in-Err-next_leaf-clause-placed g c = λ b h records here below.
    let revealed = c.first_leaf.ensures.looks.unchanged b h in
    let size = g.met.M.FlatMem.same_size _ _ c.first_leaf.ensures.looks.kept in
    let size_now = g.met.M.FlatMem.same_size _ _ c.leaves.invariant.kept in
    let was = c.leaves.invariant.led b revealed records here.nodes (subst (λ (s : ℕ). IsRooted g.row.E g.row.K (s / 512) b records c.args.header.levels c.args.header.root here.nodes) size here.rooted) (c.in-Ok.ensures.leaf b h records here.nodes here.rooted) in
    let rooted_now = subst (λ (s : ℕ). IsRooted g.row.E g.row.K (s / 512) b records c.args.header.levels c.args.header.root here.nodes) (size ∙ size_now) here.rooted in
    c.in-Err-next_leaf.ensures.leaf b (c.leaves.invariant.unchanged b revealed) records c.args.header.root c.leaves.at here.nodes was.0.home rooted_now was.0.path

pub returns-in-Err-next_leaf-clause-broken : goal.returns-in-Err-next_leaf-clause-broken
returns-in-Err-next_leaf-clause-broken g c = λ b h is less.
    let revealed = c.first_leaf.ensures.looks.unchanged b h in
    let size = g.met.M.FlatMem.same_size _ _ c.first_leaf.ensures.looks.kept in
    let size_now = g.met.M.FlatMem.same_size _ _ c.leaves.invariant.kept in
    let start = c.in-Ok.ensures.walked b h (root_met g.row.K b (g.M.FlatMem.size c.args.mem.now) c.args.header.levels c.args.header.root (g.met.M.FlatMem.revealed_length c.args.mem.now b h) c.requires.rooted.begins c.requires.rooted.some (sym is.levels_is) (sym is.root_is)) in
    let was = c.leaves.invariant.walked b revealed c.args.header.root start (c.in-Ok.ensures.read b h) in
    rw (size ∙ size_now) (c.in-Err-next_leaf.ensures.walked b (c.leaves.invariant.unchanged b revealed) c.args.header.root c.leaves.at was.0 was.1)

pub returns-in-None-clause-placed : goal.returns-in-None-clause-placed
returns-in-None-clause-placed g c = λ b h records here below.
    let some : 0 < c.args.header.levels = omega (arith, c.requires.rooted.some) in
    let revealed = c.first_leaf.ensures.looks.unchanged b h in
    let size = g.met.M.FlatMem.same_size _ _ c.first_leaf.ensures.looks.kept in
    let size_now = g.met.M.FlatMem.same_size _ _ c.leaves.invariant.kept in
    let was = c.leaves.invariant.led b revealed records here.nodes (subst (λ (s : ℕ). IsRooted g.row.E g.row.K (s / 512) b records c.args.header.levels c.args.header.root here.nodes) size here.rooted) (c.in-Ok.ensures.leaf b h records here.nodes here.rooted) in
    let rooted_now = subst (λ (s : ℕ). IsRooted g.row.E g.row.K (s / 512) b records c.args.header.levels c.args.header.root here.nodes) (size ∙ size_now) here.rooted in
    let last = rw c.in-None.is at (c.in-Ok-next_leaf.ensures.leaf b (c.leaves.invariant.unchanged b revealed) records c.args.header.root c.leaves.at here.nodes was.0.home rooted_now was.0.path) in
    let home_below = was.0.path.inside 1 (omega arith) (omega (arith, some)) in
    let leaf_here = placed_leaf g.row.E g.row.K b records c.args.header.levels here.nodes here.rooted.tower some c.leaves.page c.leaves.path.pages c.leaves.path.index c.leaves.at was.0.home was.0.path (was.0.bytes ∙ ap (page_at b) was.0.path.here) in
    let after = rest_after (here.nodes 1) c.leaves.passed c.filled_of-count.result c.leaves.rest c.args.index (omega (arith, home_below, was.0.home_is))
    (c.filled_of-count.ensures ∙ leaf_here.count ∙ ap (λ (i : ℕ). length (node_at (here.nodes 1) i).items) was.0.home_is) (omega (arith, c.if-rest-count.false)) was.1 in
    absurd (omega (arith, below, past_last g.row.E g.row.K b records c.args.header.levels here.nodes here.rooted.tower some (c.leaves.passed + 1) (c.leaves.rest - c.filled_of-count.result) c.args.index (omega (arith, last, was.0.home_is)) after))

pub returns-in-None-clause-broken : goal.returns-in-None-clause-broken
returns-in-None-clause-broken g c = λ b h is less.
    let revealed = c.first_leaf.ensures.looks.unchanged b h in
    let start = c.in-Ok.ensures.walked b h (root_met g.row.K b (g.M.FlatMem.size c.args.mem.now) c.args.header.levels c.args.header.root (g.met.M.FlatMem.revealed_length c.args.mem.now b h) c.requires.rooted.begins c.requires.rooted.some (sym is.levels_is) (sym is.root_is)) in
    let read = c.in-Ok.ensures.read b h in
    let was = c.leaves.invariant.walked b revealed c.args.header.root start read in
    let all = rw c.in-None.is at (c.in-Ok-next_leaf.ensures.walked b (c.leaves.invariant.unchanged b revealed) c.args.header.root c.leaves.at was.0 was.1) in
    few_broken g.row.K b c.args.header.levels c.args.header.root is.levels_is is.root_is g.row.E _ c.args.header.count c.args.index (c.leaves.rest - c.filled_of-count.result) (was.0 ++ c.leaves.at ∷ []) is.count_is less all
    (omega (arith, records_more b was.0 c.leaves.at, ap filled (c.leaves.invariant.read b revealed read), c.filled_of-count.ensures, was.3, c.if-rest-count.false))

pub returns-clause-placed : goal.returns-clause-placed
returns-clause-placed g c = λ b h records here below.
    let some : 0 < c.args.header.levels = omega (arith, c.requires.rooted.some) in
    let revealed = c.first_leaf.ensures.looks.unchanged b h in
    let size = g.met.M.FlatMem.same_size _ _ c.first_leaf.ensures.looks.kept in
    let was = c.leaves.invariant.led b revealed records here.nodes (subst (λ (s : ℕ). IsRooted g.row.E g.row.K (s / 512) b records c.args.header.levels c.args.header.root here.nodes) size here.rooted) (c.in-Ok.ensures.leaf b h records here.nodes here.rooted) in
    let home_below = was.0.path.inside 1 (omega arith) (omega (arith, some)) in
    absurd (omega (arith, home_below, was.0.home_is, few_leaves c.args.header.levels here.nodes here.free c.args.header.top _ here.shared some here.top_below, c.leaves-test.false, c.len.ensures))

pub returns-clause-broken : goal.returns-clause-broken
returns-clause-broken g c = λ b h is less.
    let revealed = c.first_leaf.ensures.looks.unchanged b h in
    let start = c.in-Ok.ensures.walked b h (root_met g.row.K b (g.M.FlatMem.size c.args.mem.now) c.args.header.levels c.args.header.root (g.met.M.FlatMem.revealed_length c.args.mem.now b h) c.requires.rooted.begins c.requires.rooted.some (sym is.levels_is) (sym is.root_is)) in
    let was = c.leaves.invariant.walked b revealed c.args.header.root start (c.in-Ok.ensures.read b h) in
    crowd_broken g.row.K b c.args.header.levels c.args.header.root is.levels_is is.root_is g.row.E _ was.0 (fewer_passed g.row.K b c.args.header.levels c.args.header.root _ _ c.leaves.at was.0 c.requires.rooted.some was.1) (omega (arith, was.2, c.leaves-test.false, c.len.ensures))

pub returns-then-rest-count-clause-met : goal.returns-then-rest-count-clause-met
returns-then-rest-count-clause-met g c = λ b h is.
    let revealed = c.first_leaf.ensures.looks.unchanged b h in
    let start = c.in-Ok.ensures.walked b h (root_met g.row.K b (g.M.FlatMem.size c.args.mem.now) c.args.header.levels c.args.header.root (g.met.M.FlatMem.revealed_length c.args.mem.now b h) c.requires.rooted.begins c.requires.rooted.some (sym is.levels_is) (sym is.root_is)) in
    let was = c.leaves.invariant.walked b revealed c.args.header.root start (c.in-Ok.ensures.read b h) in
    (was.1.met, was.1.path)

pub returns-then-rest-count-clause-indexed : goal.returns-then-rest-count-clause-indexed
returns-then-rest-count-clause-indexed g c = λ b h is.
    let revealed = c.first_leaf.ensures.looks.unchanged b h in
    let start = c.in-Ok.ensures.walked b h (root_met g.row.K b (g.M.FlatMem.size c.args.mem.now) c.args.header.levels c.args.header.root (g.met.M.FlatMem.revealed_length c.args.mem.now b h) c.requires.rooted.begins c.requires.rooted.some (sym is.levels_is) (sym is.root_is)) in
    let read = c.in-Ok.ensures.read b h in
    let was = c.leaves.invariant.walked b revealed c.args.header.root start read in
    walked_indexed g.row.E g.row.K b c.args.header.levels c.args.header.root c.leaves.path.pages c.leaves.path.index c.leaves.at was.0 c.leaves.page c.leaves.rest c.args.index is.levels_is is.root_is c.requires.rooted.some was.1 was.3
    (c.leaves.invariant.read b revealed read) c.leaves.invariant.form (omega (arith, c.if-rest-count.true, c.filled_of-count.ensures))

pub returns-in-Err-next_leaf-clause-missing : goal.returns-in-Err-next_leaf-clause-missing
returns-in-Err-next_leaf-clause-missing g c = λ b h is.
    let revealed = c.first_leaf.ensures.looks.unchanged b h in
    let start = c.in-Ok.ensures.walked b h (root_met g.row.K b (g.M.FlatMem.size c.args.mem.now) c.args.header.levels c.args.header.root (g.met.M.FlatMem.revealed_length c.args.mem.now b h) c.requires.rooted.begins c.requires.rooted.some (sym is.levels_is) (sym is.root_is)) in
    let read = c.in-Ok.ensures.read b h in
    let was = c.leaves.invariant.walked b revealed c.args.header.root start read in
    let named = c.in-Err-next_leaf.ensures.named (λ n above most. met_after g.row.K b n _ (was.1.path.met n above most)) in
    malformed_wider _ _ c.in-Err-next_leaf.error (λ page some same. absurd (omega (arith, some, same))) named

pub returns-in-None-clause-missing : goal.returns-in-None-clause-missing
returns-in-None-clause-missing g c = λ b h is same.
    let revealed = c.first_leaf.ensures.looks.unchanged b h in
    let start = c.in-Ok.ensures.walked b h (root_met g.row.K b (g.M.FlatMem.size c.args.mem.now) c.args.header.levels c.args.header.root (g.met.M.FlatMem.revealed_length c.args.mem.now b h) c.requires.rooted.begins c.requires.rooted.some (sym is.levels_is) (sym is.root_is)) in
    let read = c.in-Ok.ensures.read b h in
    let was = c.leaves.invariant.walked b revealed c.args.header.root start read in
    let all = rw c.in-None.is at (c.in-Ok-next_leaf.ensures.walked b (c.leaves.invariant.unchanged b revealed) c.args.header.root c.leaves.at was.0 was.1) in
    short_of g.row.K b c.args.header.levels c.args.header.root is.levels_is is.root_is g.row.E _ c.args.index (was.0 ++ c.leaves.at ∷ []) (c.leaves.rest - c.filled_of-count.result) all
    (omega (arith, records_more b was.0 c.leaves.at, ap filled (c.leaves.invariant.read b revealed read), c.filled_of-count.ensures, was.3, c.if-rest-count.false))

pub returns-clause-missing : goal.returns-clause-missing
returns-clause-missing g c = λ b h is same.
    let revealed = c.first_leaf.ensures.looks.unchanged b h in
    let start = c.in-Ok.ensures.walked b h (root_met g.row.K b (g.M.FlatMem.size c.args.mem.now) c.args.header.levels c.args.header.root (g.met.M.FlatMem.revealed_length c.args.mem.now b h) c.requires.rooted.begins c.requires.rooted.some (sym is.levels_is) (sym is.root_is)) in
    let read = c.in-Ok.ensures.read b h in
    let was = c.leaves.invariant.walked b revealed c.args.header.root start read in
    crowded_by g.row.K b c.args.header.levels c.args.header.root is.levels_is is.root_is g.row.E _ c.args.index was.0 (fewer_passed g.row.K b c.args.header.levels c.args.header.root _ _ c.leaves.at was.0 c.requires.rooted.some was.1) (omega (arith, was.2, c.leaves-test.false, c.len.ensures))

pub returns-in-Err-clause-looks : goal.returns-in-Err-clause-looks
returns-in-Err-clause-looks g c =
    looks_as g.M.FlatMem c.first_leaf.ensures.looks c.in-Err.ensures.looks.cause
    (walk_done _ _ _ 0 (g.M.FlatMem.size c.args.mem.now / 512) g.M.FlatMem.cost c.first_leaf.ensures.looks.cost (omega arith) (omega arith))

pub leaves-init : goal.leaves-init
leaves-init g c = record {
  led = λ b h records nodes rooted start. (start, omega arith);
  walked = λ b h root start read. ([], start, refl, omega arith);
  path = rw (g.met.M.FlatMem.same_size _ _ c.first_leaf.ensures.looks.kept) at c.in-Ok.ensures.path;
  inside = rw (g.met.M.FlatMem.same_size _ _ c.first_leaf.ensures.looks.kept) at c.in-Ok.ensures.inside;
  few = omega arith;
  form = c.in-Ok.ensures.form;
  read = λ b h read. read;
  unchanged = λ b h. h;
  kept = g.met.M.FlatMem.beside_itself _;
  looked = g.met.M.FlatMem.only_reads_itself _;
  cost = omega arith;
}

pub returns-then-rest-count-clause-looks : goal.returns-then-rest-count-clause-looks
returns-then-rest-count-clause-looks g c = record {
  unchanged = λ b h. c.leaves.invariant.unchanged b (c.first_leaf.ensures.looks.unchanged b h);
  kept = g.met.M.FlatMem.beside_through _ _ _ c.first_leaf.ensures.looks.kept c.leaves.invariant.kept;
  looked = g.met.M.FlatMem.only_reads_through _ _ _ c.first_leaf.ensures.looks.looked c.leaves.invariant.looked;
  cause = tt;
  cost = walk_done _ _ _ c.leaves.passed (g.M.FlatMem.size c.args.mem.now / 512) g.M.FlatMem.cost c.first_leaf.ensures.looks.cost c.leaves.invariant.cost (omega (arith, c.leaves.invariant.few, c.len.ensures));
}

pub returns-in-Err-next_leaf-clause-looks : goal.returns-in-Err-next_leaf-clause-looks
returns-in-Err-next_leaf-clause-looks g c =
    looks_on g.M.FlatMem g.met.M.FlatMem.beside_through g.met.M.FlatMem.beside_itself g.met.M.FlatMem.accounted_wider g.met.M.FlatMem.only_reads_through (λ b h. c.leaves.invariant.unchanged b (c.first_leaf.ensures.looks.unchanged b h)) (g.met.M.FlatMem.beside_through _ _ _ c.first_leaf.ensures.looks.kept c.leaves.invariant.kept) (g.met.M.FlatMem.only_reads_through _ _ _ c.first_leaf.ensures.looks.looked c.leaves.invariant.looked)
    c.next_leaf.ensures.looks c.in-Err-next_leaf.ensures.looks.cause
    (walk_most _ _ _ c.leaves.passed (g.M.FlatMem.size c.args.mem.now / 512) g.M.FlatMem.cost c.first_leaf.ensures.looks.cost c.leaves.invariant.cost _ c.next_leaf.ensures.looks.cost (omega (arith, c.leaves-test.true, c.len.ensures, c.requires.sized.small)))

pub returns-in-None-clause-looks : goal.returns-in-None-clause-looks
returns-in-None-clause-looks g c =
    looks_on g.M.FlatMem g.met.M.FlatMem.beside_through g.met.M.FlatMem.beside_itself g.met.M.FlatMem.accounted_wider g.met.M.FlatMem.only_reads_through (λ b h. c.leaves.invariant.unchanged b (c.first_leaf.ensures.looks.unchanged b h)) (g.met.M.FlatMem.beside_through _ _ _ c.first_leaf.ensures.looks.kept c.leaves.invariant.kept) (g.met.M.FlatMem.only_reads_through _ _ _ c.first_leaf.ensures.looks.looked c.leaves.invariant.looked)
    c.next_leaf.ensures.looks tt
    (walk_most _ _ _ c.leaves.passed (g.M.FlatMem.size c.args.mem.now / 512) g.M.FlatMem.cost c.first_leaf.ensures.looks.cost c.leaves.invariant.cost _ c.next_leaf.ensures.looks.cost (omega (arith, c.leaves-test.true, c.len.ensures, c.requires.sized.small)))

pub returns-clause-looks : goal.returns-clause-looks
returns-clause-looks g c = record {
  unchanged = λ b h. c.leaves.invariant.unchanged b (c.first_leaf.ensures.looks.unchanged b h);
  kept = g.met.M.FlatMem.beside_through _ _ _ c.first_leaf.ensures.looks.kept c.leaves.invariant.kept;
  looked = g.met.M.FlatMem.only_reads_through _ _ _ c.first_leaf.ensures.looks.looked c.leaves.invariant.looked;
  cause = tt;
  cost = walk_done _ _ _ c.leaves.passed (g.M.FlatMem.size c.args.mem.now / 512) g.M.FlatMem.cost c.first_leaf.ensures.looks.cost c.leaves.invariant.cost (omega (arith, c.leaves.invariant.few, c.len.ensures));
}

pub returns-then-rest-count-clause-inside : goal.returns-then-rest-count-clause-inside
returns-then-rest-count-clause-inside g c = (
  rw (← (g.met.M.FlatMem.same_size _ _ c.first_leaf.ensures.looks.kept)) at c.leaves.invariant.inside,
  omega (arith, c.if-rest-count.true, c.filled_of-count.ensures),
)

pub returns-then-rest-count-clause-path : goal.returns-then-rest-count-clause-path
returns-then-rest-count-clause-path g c = rw (← (g.met.M.FlatMem.same_size _ _ c.first_leaf.ensures.looks.kept)) at c.leaves.invariant.path

pub returns-then-rest-count-clause-read : goal.returns-then-rest-count-clause-read
returns-then-rest-count-clause-read g c = λ b h. c.leaves.invariant.read b (c.first_leaf.ensures.looks.unchanged b h) (c.in-Ok.ensures.read b h)
