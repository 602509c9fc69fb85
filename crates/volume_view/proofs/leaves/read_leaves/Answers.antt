use Rattle.std.proofs.Common.{◌∙◌, ◌<◌, ℕ, Ok, List, take, refl, sym, ap, subst, arith}
use Rattle.std.specs.List.{flat_map}
use Rattle.flat_mem.specs.Vec.{vec_mem_bytes}
use Rattle.page_tree.specs.Page.{page_at, record_at}
use Rattle.volume_view.specs.Level.{item_of, items_of}
use Rattle.volume_view.specs.Walk.{records_in, IsLeafPage}
use Rattle.volume_view.proofs.LevelLemmas.{child_of, item_here, each_more, IsNamedRight, named_more, named_at, leaves_all}
use Rattle.volume_view.proofs.LeafLemmas.{leaf_read, leaf_broken}
use Rattle.volume_view.proofs.leaves.read_leaves.Goals as goal
use Rattle.volume_view.proofs.leaves.read_leaves.Goals.{else-j-gt0-via-then-j-gt0+else-not-is_named_right, else-j-gt0-via-else-j-gt0}

pub returns-in_default-clause-none : goal.returns-in_default-clause-none
returns-in_default-clause-none g c = λ all _ are _.
    let leaves = c.args.leaves.now in
    c.in_default.ensures.none refl
    (subst (λ (b : List ℕ). IsLeafPage b c.args.layout.now.vfm c.args.least (item_of (child_of leaves c.loop-j.j))) (sym c.loop-j.invariant.same) (are.each c.loop-j.j (item_of (child_of leaves c.loop-j.j)) (item_here leaves c.loop-j.j c.loop-j-test.true)))

pub returns-then-not-is_named_right-clause-none : goal.returns-then-not-is_named_right-clause-none
returns-then-not-is_named_right-clause-none g c = λ all _ are _.
    let leaves = c.args.leaves.now in
    let read = c.in-Some.ensures.page ∙ ap (λ (b : List ℕ). page_at b (child_of leaves c.loop-j.j).page) c.loop-j.invariant.same in
    c.is_named_right.ensures.no c.if-not-is_named_right.true
    (named_at (vec_mem_bytes c.args.map.now) c.args.layout.now.vfm c.args.least leaves c.loop-j.j c.if-j-gt0.true c.loop-j-test.true are ∙ ap (λ (p : List ℕ). take 12 (record_at 24 p 0)) (sym read))

pub returns-then-not-branch-clause-none : goal.returns-then-not-branch-clause-none
returns-then-not-branch-clause-none g c = λ all _ are whole.
    let so_far = c.loop-j.invariant in
    let b = vec_mem_bytes c.args.map.now in
    leaf_broken c.args.layout.now.sectors b (vec_mem_bytes c.loop-j.map) c.in-Some.page c.args.leaves.now c.loop-j.j c.loop-j-test.true so_far.same c.in-Some.ensures.page all
    (λ prefix. c.in_ok-add_runs.ensures.broken (flat_map (records_in b) (take c.loop-j.j (items_of c.args.leaves.now))) prefix so_far.read (ap Ok c.if-not-branch.true)) whole

pub loop-j-preserved : goal.loop-j-preserved
loop-j-preserved g c =
    let so_far = c.loop-j.invariant in
    let b = vec_mem_bytes c.args.map.now in
    let leaves = c.args.leaves.now in
    let read = c.in-Some.ensures.page ∙ ap (λ (x : List ℕ). page_at x (child_of leaves c.loop-j.j).page) so_far.same in
    let named : 0 < c.loop-j.j → IsNamedRight b (item_of (child_of leaves c.loop-j.j)) = λ some. elim c.else-j-gt0.branch [
      | else-j-gt0-via-then-j-gt0+else-not-is_named_right w ↦ w.is_named_right.ensures.yes w.if-not-is_named_right.false ∙ ap (λ (p : List ℕ). take 12 (record_at 24 p 0)) read
      | else-j-gt0-via-else-j-gt0 w ↦ absurd (omega (arith, w.if-j-gt0.false, some))
    ] in
    record {
      same = c.leaf_page.ensures.same ∙ so_far.same;
      each =
          each_more (IsLeafPage b c.args.layout.now.vfm c.args.least) leaves c.loop-j.j c.loop-j-test.true so_far.each
          (subst (λ (x : List ℕ). IsLeafPage x c.args.layout.now.vfm c.args.least (item_of (child_of leaves c.loop-j.j))) so_far.same c.in-Some.ensures.leaf);
      keyed = named_more b leaves c.loop-j.j c.loop-j-test.true so_far.keyed named;
      read =
          leaf_read c.args.layout.now.sectors b (vec_mem_bytes c.loop-j.map) c.in-Some.page leaves c.loop-j.j c.loop-j-test.true so_far.same c.in-Some.ensures.page c.add_runs.new.runs.items
          (c.in_ok-add_runs.ensures.read (flat_map (records_in b) (take c.loop-j.j (items_of leaves))) so_far.read (ap Ok c.if-not-branch.false));
    }

pub returns-clause-leaves : goal.returns-clause-leaves
returns-clause-leaves g c =
    let so_far = c.loop-j.invariant in
    leaves_all (vec_mem_bytes c.args.map.now) c.args.layout.now.vfm c.args.least c.args.leaves.now c.loop-j.j (omega (arith, c.loop-j-test.false, c.loop-j.auto.j-end)) so_far.each so_far.keyed
