use Rattle.std.proofs.Common.{◌≢◌, ◌<◌, ◌∙◌, ◌∷◌, ◌++◌, [], ℕ, List, ap, refl, sym, subst, arith, length-append}
use Rattle.std.proofs.lemmas.List.{append_assoc}
use Rattle.flat_mem.specs.Vec.{vec_mem_bytes}
use Rattle.page_tree.specs.Page.{page_at, kind_of, next_in}
use Rattle.volume_view.proofs.FreeLemmas.{followed_more, followed_end, followed_broken, followed_long}
use Rattle.volume_view.proofs.free_pages.follow_free.Goals as goal

pub returns-then-at-eq0-clause-free : goal.returns-then-at-eq0-clause-free
returns-then-at-eq0-clause-free g c = λ _.
    let so_far = c.loop.invariant in
    (so_far.met, followed_end _ _ _ _ so_far.met so_far.followed c.if-at-eq0.true, so_far.used)

pub returns-in_default-clause-broken : goal.returns-in_default-clause-broken
returns-in_default-clause-broken g c = λ free _ list.
    let so_far = c.loop.invariant in
    absurd (followed_broken (vec_mem_bytes c.args.map.now) c.args.pages c.args.first c.loop.at so_far.met free so_far.followed c.if-at-eq0.false
    (subst (λ (b : List ℕ). c.loop.at < c.args.pages → kind_of (page_at b c.loop.at) ≢ 0) so_far.same (c.in_default.ensures.none refl)) list)

pub loop-preserved : goal.loop-preserved
loop-preserved g c =
    let so_far = c.loop.invariant in
    let at = c.loop.at in
    let old = c.args.used.now.items in
    record {
      same = c.in-Some.ensures.same ∙ so_far.same;
      met = so_far.met ++ at ∷ [];
      followed =
          followed_more (vec_mem_bytes c.args.map.now) c.args.pages c.args.first at c.in-Some.next so_far.met so_far.followed c.if-at-eq0.false c.in-Some.ensures.free.0
          (ap (λ (b : List ℕ). kind_of (page_at b at)) (sym so_far.same) ∙ c.in-Some.ensures.free.1)
          (c.in-Some.ensures.next ∙ ap (λ (b : List ℕ). next_in (page_at b at)) so_far.same);
      used = c.in_ok-push.ensures.items ∙ ap (λ (l : List ℕ). l ++ at ∷ []) so_far.used ∙ append_assoc old so_far.met (at ∷ []);
      many = omega (arith, length-append so_far.met (at ∷ []), so_far.many);
    }

pub returns-then-at-ne0-clause-broken : goal.returns-then-at-ne0-clause-broken
returns-then-at-ne0-clause-broken g c = λ free _ list.
    let so_far = c.loop.invariant in
    let long = followed_long (vec_mem_bytes c.args.map.now) c.args.pages c.args.first c.loop.at so_far.met free so_far.followed c.if-at-ne0.true list in
    omega (arith, long, so_far.many, c.loop-test.false)

pub returns-clause-free : goal.returns-clause-free
returns-clause-free g c = λ _.
    let so_far = c.loop.invariant in
    (so_far.met, followed_end _ _ _ _ so_far.met so_far.followed c.if-at-ne0.false, so_far.used)
