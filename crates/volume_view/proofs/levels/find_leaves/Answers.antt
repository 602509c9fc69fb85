use Rattle.std.proofs.Common.{◌≡◌, ◌∙◌, ◌++◌, ◌<◌, inl, inr, Ok, ℕ, zero, suc, ◌+◌, ◌-◌, List, map, refl, sym, ap, subst, arith}
use Rattle.std.specs.List.{flat_map}
use Rattle.std.proofs.lemmas.Bool.{cases_eq}
use Rattle.std.proofs.lemmas.List.{append_assoc}
use Rattle.flat_mem.specs.Vec.{vec_mem_bytes}
use Rattle.page_tree.specs.Keys.{Item}
use Rattle.volume_view.specs.Level.{items_of}
use Rattle.volume_view.specs.Walk.{tops, level_at, pages_used, least_children, children_in, AreInner}
use Rattle.volume_view.proofs.RecordedLemmas.{in_some}
use Rattle.volume_view.proofs.LevelLemmas.{inner_level}
use Rattle.volume_view.proofs.levels.find_leaves.Goals as goal

pub loop-depth-preserved : goal.loop-depth-preserved
loop-depth-preserved g c =
    let so_far = c.loop-depth.invariant in
    let b = vec_mem_bytes c.args.map.now in
    let h = c.args.header.now in
    let depth = c.loop-depth.depth in
    let next : suc depth ≡ depth + 1 = omega arith in
    let level = ap items_of c.deref-in-loop-depth.ensures.value ∙ so_far.level in
    let inner = in_some c.in_ok-found.found c.in-Some.children _ c.in-Some.is c.in_ok-found.ensures.inner in
    let children = in_some c.in_ok-found.found c.in-Some.children _ c.in-Some.is c.in_ok-found.ensures.children in
    record {
      same = c.children_of.ensures.same ∙ so_far.same;
      inner = λ s within. elim (cases_eq s depth) [
        | inl equal ↦
            subst (λ (m : ℕ). AreInner b c.args.pages h.top (least_children m) (level_at b (tops h.levels h.root) m)) (sym equal)
            (inner_level b (vec_mem_bytes c.loop-depth.map) c.args.pages h.top _ _ _ _ so_far.same c.least_at-least.ensures level inner)
        | inr other ↦ so_far.inner s (omega (arith, within, other))
      ];
      level =
          children ∙ ap (λ (x : List ℕ). flat_map (children_in x) (items_of c.deref-in-loop-depth.result.now)) so_far.same ∙ ap (flat_map (children_in b)) level ∙ ap (level_at b (tops h.levels h.root)) next;
      used =
          c.in_ok-add_pages.ensures
          ∙ ap (λ (l : List ℕ). l ++ map (λ (x : Item). x.page) (items_of c.deref.result.now)) so_far.used
          ∙ append_assoc c.args.used.now.items (pages_used b (tops h.levels h.root) depth) (map (λ (x : Item). x.page) (items_of c.deref.result.now))
          ∙ ap (λ (l : List Item). c.args.used.now.items ++ (pages_used b (tops h.levels h.root) depth ++ map (λ (x : Item). x.page) l)) (ap items_of c.deref.ensures.value ∙ so_far.level)
          ∙ ap (λ (m : ℕ). c.args.used.now.items ++ pages_used b (tops h.levels h.root) m) next;
    }

pub returns-clause-inner : goal.returns-clause-inner
returns-clause-inner g c = λ s within. c.loop-depth.invariant.inner s (omega (arith, within, c.saturating_sub-depth-end.ensures, c.loop-depth-test.false))

pub returns-clause-leaves : goal.returns-clause-leaves
returns-clause-leaves g c =
    let at : c.loop-depth.depth ≡ c.args.header.now.levels - 1 = omega (arith, c.saturating_sub-depth-end.ensures, c.loop-depth-test.false, c.loop-depth.auto.depth-end) in
    c.loop-depth.invariant.level ∙ ap (level_at (vec_mem_bytes c.args.map.now) (tops c.args.header.now.levels c.args.header.now.root)) at

-- the pages of the last level are used, too
last_used : (b : List ℕ) (levels root depth : ℕ) → depth ≡ levels - 1
    → pages_used b (tops levels root) depth ++ map (λ (x : Item). x.page) (level_at b (tops levels root) depth) ≡ pages_used b (tops levels root) levels
last_used b zero root depth at = let e : depth ≡ 0 = at in rw e refl
last_used b (suc n) root depth at = let e : depth ≡ n = omega (arith, at) in rw e refl

pub returns-clause-used : goal.returns-clause-used
returns-clause-used g c =
    let b = vec_mem_bytes c.args.map.now in
    let h = c.args.header.now in
    let at : c.loop-depth.depth ≡ h.levels - 1 = omega (arith, c.saturating_sub-depth-end.ensures, c.loop-depth-test.false, c.loop-depth.auto.depth-end) in
    c.in_ok-add_pages-2.ensures
    ∙ ap (λ (l : List ℕ). l ++ map (λ (x : Item). x.page) (items_of c.deref-2.result.now)) c.loop-depth.invariant.used
    ∙ append_assoc c.args.used.now.items (pages_used b (tops h.levels h.root) c.loop-depth.depth) (map (λ (x : Item). x.page) (items_of c.deref-2.result.now))
    ∙ ap (λ (l : List Item). c.args.used.now.items ++ (pages_used b (tops h.levels h.root) c.loop-depth.depth ++ map (λ (x : Item). x.page) l)) (ap items_of c.deref-2.ensures.value ∙ c.loop-depth.invariant.level)
    ∙ ap (λ (l : List ℕ). c.args.used.now.items ++ l) (last_used b h.levels h.root c.loop-depth.depth at)

pub returns-in_default-clause-none : goal.returns-in_default-clause-none
returns-in_default-clause-none g c = λ _ all.
    let so_far = c.loop-depth.invariant in
    let h = c.args.header.now in
    let within : suc c.loop-depth.depth < h.levels = omega (arith, c.saturating_sub-depth-end.ensures, c.loop-depth-test.true) in
    let level = ap items_of c.deref-in-loop-depth.ensures.value ∙ so_far.level in
    c.in_ok-found.ensures.none (ap Ok c.in_default.is)
    (inner_level (vec_mem_bytes c.loop-depth.map) (vec_mem_bytes c.args.map.now) c.args.pages h.top _ _ _ _ (sym so_far.same) (sym c.least_at-least.ensures) (sym level) (all c.loop-depth.depth within))
