-- Pages that a removal meets again.
use Rattle.std.proofs.Common.{◌≡◌, ◌≢◌, ◌⊎◌, inl, inr, ℕ, ◌+◌, ◌-◌, ◌*◌, ◌/◌, ◌<◌, ◌≤◌, Bool, true, false, List, Some, length, get_or, arith, refl, sym, ◌∙◌, ap, subst}
use Rattle.std.proofs.lemmas.Bool.{cases_eq, false≢true}
use Rattle.std.proofs.lemmas.Nat.{mul-le}
use Rattle.byteorder.specs.Endian.{big_number}
use Rattle.flat_mem.specs.Memory.{overwritten}
use Rattle.flat_mem.specs.Parts.{length-overwritten, length-part, part-overwritten_below, part-overwritten_above}
use Rattle.page_tree.specs.Page.{page_at, kind_of, filled, key_room, links_at, link_at, levels_in}
use Rattle.page_tree.specs.Broken.{IsLeafForm, IsInnerForm, Meets, Breaks}
use Rattle.page_tree.specs.Met.{IsMetPath}
use Rattle.page_tree.specs.Named.{IsTurn, CanName, IsNamed}
use Rattle.page_tree.specs.Rebalancing.{IsLike, IsBelow, IsRebalancing, AreNotAbove, IsMetAgain, IsBesideOf, RebalancesOn}
use Rattle.page_tree.proofs.Cells.{kind_kept}
use Rattle.page_tree.proofs.Inner.{links_fit}
use Rattle.page_tree.proofs.Listing.{inner_lists}
use Rattle.page_tree.proofs.Once.{page_same, page_other}
use Rattle.page_tree.proofs.MetLaws.{met_after, met_fits}

pub like_same : (k : ℕ) (page was : List ℕ) → page ≡ was → IsLike k page was
like_same k page was same = record { kind = ap kind_of same; count = ap filled same; links = λ i most. ap (λ (x : List ℕ). link_at k x i) same }

like_through : (k : ℕ) (page mid was : List ℕ) → page ≡ mid → IsLike k mid was → IsLike k page was
like_through k page mid was same like = subst (λ (x : List ℕ). IsLike k x was) (sym same) like

-- a key is written into an inner page
named_like : (k : ℕ) (page key : List ℕ) (slot : ℕ) → 1 ≤ k → k ≤ 12 → length page ≡ 512 → length key ≡ k → slot < key_room k → IsLike k (overwritten page (8 + k * slot) key) page
named_like k page key slot some most long width inside =
    let ends : k * (slot + 1) ≤ k * key_room k = mul-le k (slot + 1) k (key_room k) (omega arith) (omega (arith, inside)) in
    let fits : 8 + k * slot + length key ≤ length page = omega (arith, width, long, ends, (links_fit k some most).0) in
    record {
      kind = kind_kept page key (8 + k * slot) (omega arith) fits;
      count = ap (big_number 2) (part-overwritten_below page key (8 + k * slot) 2 2 (omega arith) fits);
      links = λ i within. ap (big_number 4) (part-overwritten_above page key (8 + k * slot) (links_at k + 4 * i) 4 (omega (arith, width, ends)) fits);
    }

-- at the start, and once a leaf's new first key is named above
module _ (k : ℕ) (b : List ℕ) (pages levels root : ℕ) (paths index : List ℕ) (some_key : 1 ≤ k) (key_most : k ≤ 12) (levels_is : levels ≡ levels_in (page_at b 0)) (met : IsMetPath k b levels 1 root paths index)
    (inside : (l : ℕ) → 1 < l → l ≤ levels → get_or paths l 0 < pages) (long : 512 * pages ≤ length b) where
  rebalancing_like : (c : List ℕ) → length c ≡ length b → ((q : ℕ) → IsLike k (page_at c q) (page_at b q)) → IsRebalancing k b c levels 1 root paths index
  rebalancing_like c same like = record { levels_is = levels_is; long = same; met = met; pages = λ q. inl (like q); path = λ l above most. like (get_or paths l 0) }

  pub rebalancing_begun : IsRebalancing k b b levels 1 root paths index
  rebalancing_begun = rebalancing_like b refl (λ q. like_same k (page_at b q) (page_at b q) refl)

  pub met_can_name : CanName k b pages levels paths index
  met_can_name = record {
    inside = λ l turn. inside l (omega (arith, turn.from)) turn.most;
    inner = λ l turn.
        let form = met.form l (omega (arith, turn.from)) turn.most in
        let lists = inner_lists k (page_at b (get_or paths l 0)) form in
        (lists.0, lists.1, omega (arith, lists.1.count, met.chosen l (omega (arith, turn.from)) turn.most));
  }

  module _ (key : List ℕ) (width : length key ≡ k) (l : ℕ) (turn : IsTurn index levels l) where
    abbrev up : ℕ
    up = get_or paths l 0

    slot_in : get_or index l 0 - 1 < key_room k
    slot_in = omega (arith, turn.turns, met.chosen l (omega (arith, turn.from)) turn.most, (met.form l (omega (arith, turn.from)) turn.most).most)

    up_fits : 512 * up + 512 ≤ length b
    up_fits = omega (arith, inside l (omega (arith, turn.from)) turn.most, long)

    abbrev named : List ℕ
    named = overwritten (page_at b up) (8 + k * (get_or index l 0 - 1)) key

    long_up : length (page_at b up) ≡ 512
    long_up = length-part b (512 * up) 512 up_fits

    long_named : length named ≡ 512
    long_named =
        let ends : k * (get_or index l 0 - 1 + 1) ≤ k * key_room k = mul-le k (get_or index l 0 - 1 + 1) k (key_room k) (omega arith) (omega (arith, slot_in)) in
        length-overwritten (page_at b up) key (8 + k * (get_or index l 0 - 1)) (omega (arith, width, long_up, ends, (links_fit k some_key key_most).0)) ∙ long_up

    rebalancing_turned : IsRebalancing k b (overwritten b (512 * up) named) levels 1 root paths index
    rebalancing_turned = rebalancing_like (overwritten b (512 * up) named) (length-overwritten b named (512 * up) (omega (arith, long_named, up_fits))) (λ q. elim (cases_eq q up) [
      | inl here ↦
          like_through k _ named (page_at b q) (ap (page_at (overwritten b (512 * up) named)) here ∙ page_same b named up long_named up_fits)
          (subst (λ (p : ℕ). IsLike k named (page_at b p)) (sym here) (named_like k (page_at b up) key (get_or index l 0 - 1) some_key key_most long_up width slot_in))
      | inr other ↦ like_same k _ _ (page_other b named up q long_named up_fits other)
    ])

  pub rebalancing_named : (reveals : List ℕ → Type 0) (key : List ℕ) → length key ≡ k → IsNamed k reveals b levels paths index key → (c : List ℕ) × reveals c × IsRebalancing k b c levels 1 root paths index
  rebalancing_named reveals key width named = elim named [
    | inl straight ↦ (b, straight.1, rebalancing_begun)
    | inr turned ↦ (_, turned.2, rebalancing_turned key width turned.0 turned.1)
  ]

below_wider : (k : ℕ) (b : List ℕ) (level next q : ℕ) → level ≤ next → IsBelow k b level q → IsBelow k b next q
below_wider k b level next q up below = (below.0, below.1, omega (arith, below.2, up), below.3)

-- two pages of the level are written, and none of them stands on the path above
module _ (k : ℕ) (b c : List ℕ) (levels level root : ℕ) (paths index : List ℕ) (rebalancing : IsRebalancing k b c levels level root paths index) (some : 1 ≤ level) (left_at right_at : ℕ) (left_met : Meets k b level left_at) (right_met : Meets k b level right_at)
    (apart : AreNotAbove paths level levels left_at right_at) (left right : List ℕ) (long : length left ≡ 512) (long_right : length right ≡ 512) (fits : 512 * left_at + 512 ≤ length c) (right_fits : 512 * right_at + 512 ≤ length c) where
  abbrev half : List ℕ
  half = overwritten c (512 * left_at) left

  abbrev now : List ℕ
  now = overwritten half (512 * right_at) right

  half_fits : 512 * right_at + 512 ≤ length half
  half_fits = omega (arith, length-overwritten c left (512 * left_at) (omega (arith, long, fits)), right_fits)

  other_is : (q : ℕ) → q ≢ left_at → q ≢ right_at → page_at now q ≡ page_at c q
  other_is q not_left not_right = page_other half right right_at q long_right half_fits not_right ∙ page_other c left left_at q long fits not_left

  pub rebalancing_up : IsRebalancing k b (overwritten (overwritten c (512 * left_at) left) (512 * right_at) right) levels (level + 1) root paths index
  rebalancing_up = record {
    levels_is = rebalancing.levels_is;
    long = length-overwritten half right (512 * right_at) (omega (arith, long_right, half_fits)) ∙ length-overwritten c left (512 * left_at) (omega (arith, long, fits)) ∙ rebalancing.long;
    met = rebalancing.met;
    pages = λ q. elim (cases_eq q left_at) [
      | inl is_left ↦ inr (level, some, omega arith, subst (Meets k b level) (sym is_left) left_met)
      | inr not_left ↦ elim (cases_eq q right_at) [
        | inl is_right ↦ inr (level, some, omega arith, subst (Meets k b level) (sym is_right) right_met)
        | inr not_right ↦ elim (rebalancing.pages q) [
          | inl like ↦ inl (like_through k _ (page_at c q) (page_at b q) (other_is q not_left not_right) like)
          | inr below ↦ inr (below_wider k b level (level + 1) q (omega arith) below)
        ]
      ]
    ];
    path = λ l above most.
        let not = apart l (omega (arith, above)) most in
        like_through k _ _ _ (other_is (get_or paths l 0) not.0 not.1) (rebalancing.path l (omega (arith, above)) most);
  }

pub not_above_turned : (paths : List ℕ) (level levels at beside : ℕ) → AreNotAbove paths level levels at beside → AreNotAbove paths level levels beside at
not_above_turned paths level levels at beside apart l above most = ((apart l above most).1, (apart l above most).0)

-- what is like a page in form is in form
pub leaf_like : (e k : ℕ) (page was : List ℕ) → IsLike k page was → IsLeafForm e was → IsLeafForm e page
leaf_like e k page was like form = record { kind = like.kind ∙ form.kind; some = omega (arith, like.count, form.some); most = omega (arith, like.count, form.most) }

pub inner_like : (k : ℕ) (page was : List ℕ) → IsLike k page was → IsInnerForm k was → IsInnerForm k page
inner_like k page was like form = record { kind = like.kind ∙ form.kind; some = omega (arith, like.count, form.some); most = omega (arith, like.count, form.most) }

-- the page above on the path
module _ (k : ℕ) (b c : List ℕ) (levels level root : ℕ) (paths index : List ℕ) (rebalancing : IsRebalancing k b c levels level root paths index) (some : 1 ≤ level) (under : level < levels) (up : ℕ) (up_is : up ≡ get_or paths (level + 1) 0) where
  pub up_met : Meets k b (level + 1) up
  up_met = subst (Meets k b (level + 1)) (sym up_is) (rebalancing.met.met (level + 1) (omega (arith, some)) (omega (arith, under)))

  pub up_form : IsInnerForm k (page_at b up)
  up_form = subst (λ (q : ℕ). IsInnerForm k (page_at b q)) (sym up_is) (rebalancing.met.form (level + 1) (omega (arith, some)) (omega (arith, under)))

  module _ (above : List ℕ) (read : above ≡ page_at c up) where
    pub above_like : IsLike k above (page_at b up)
    above_like = subst (λ (q : ℕ). IsLike k above (page_at b q)) (sym up_is) (like_through k above _ _ (read ∙ ap (page_at c) up_is) (rebalancing.path (level + 1) (omega arith) (omega (arith, under))))

    pub above_form : IsInnerForm k above × (get_or index (level + 1) 0 ≤ filled above)
    above_form =
        let chosen = rebalancing.met.chosen (level + 1) (omega (arith, some)) (omega (arith, under)) in
        (inner_like k above (page_at b up) above_like up_form, omega (arith, chosen, above_like.count, ap (λ (q : ℕ). filled (page_at b q)) up_is))

    pub above_underfull : (e pages : ℕ) → filled above ≡ 1 → level + 1 < levels → 15 ≤ key_room k / 2 → Breaks e k pages b up
    above_underfull e pages one more room = Breaks.underfull (level + 1) up_met (omega arith) (omega (arith, more, rebalancing.levels_is)) (record {
      leaf = λ low. absurd (omega (arith, low, some));
      inner = λ high. omega (arith, one, above_like.count, room);
    })

-- a child of it
pub child_of_like : (k : ℕ) (b : List ℕ) (level up : ℕ) (above : List ℕ) (i child : ℕ) → 1 ≤ level → Meets k b (level + 1) up → IsInnerForm k (page_at b up) → IsLike k above (page_at b up) → i ≤ filled above → child ≡ link_at k above i → 1 ≤ child → 512 * child + 512 ≤ length b → Meets k b level child
child_of_like k b level up above i child some met form like inside is after fits =
    Meets.child (level + 1) up i level child met refl some form (omega (arith, inside, like.count)) (is ∙ like.links i (omega (arith, inside, like.count, form.most))) after fits

-- a page that is met at this level and read: it is as it was, or it was met at a lower level
pub met_like : (e k pages : ℕ) (b c : List ℕ) (levels level root : ℕ) (paths index : List ℕ) → IsRebalancing k b c levels level root paths index → (q : ℕ) (page : List ℕ) → Meets k b level q → page ≡ page_at c q → IsLike k page (page_at b q) ⊎ Breaks e k pages b q
met_like e k pages b c levels level root paths index rebalancing q page met read = elim (rebalancing.pages q) [
  | inl like ↦ inl (like_through k page (page_at c q) (page_at b q) read like)
  | inr below ↦ inr (Breaks.twice below.0 level below.3 met below.2)
]

-- one of two pages of the level stands on the path above
pub again_broken : (e k pages : ℕ) (b c : List ℕ) (levels level root : ℕ) (paths index : List ℕ) → IsRebalancing k b c levels level root paths index → 1 ≤ level → (at beside page : ℕ) → Meets k b level at → (1 ≤ beside → 512 * beside + 512 ≤ length b → Meets k b level beside) → IsMetAgain paths level levels at beside (Some page) → Breaks e k pages b page
again_broken e k pages b c levels level root paths index rebalancing some at beside page at_met beside_met again =
    let l = again.1.0 in
    let there : Meets k b again.1.0 page = subst (Meets k b again.1.0) again.1.3 (rebalancing.met.met again.1.0 (omega (arith, some, again.1.1)) again.1.2) in
    elim again.0 [
      | inl is_at ↦ Breaks.twice level again.1.0 (subst (Meets k b level) (sym is_at) at_met) there again.1.1
      | inr is_beside ↦ Breaks.twice level again.1.0 (subst (Meets k b level) (sym is_beside) (beside_met (omega (arith, is_beside, met_after k b l page there)) (omega (arith, is_beside, met_fits k b l page there)))) there again.1.1
    ]

-- a leaf of one record below the root
pub single_underfull : (e k pages : ℕ) (b : List ℕ) (levels at : ℕ) → Meets k b 1 at → levels ≡ levels_in (page_at b 0) → 1 < levels → filled (page_at b at) ≡ 1 → 15 ≤ 504 / e → Breaks e k pages b at
single_underfull e k pages b levels at met levels_is more one room = Breaks.underfull 1 met (omega arith) (omega (arith, more, levels_is)) (record {
  leaf = λ low. omega (arith, one, room);
  inner = λ high. absurd (high refl);
})

pub rebalances_on : (k : ℕ) (reveals : List ℕ → Type 0) (b : List ℕ) (levels level root : ℕ) (paths index : List ℕ) (done : Bool) → done ≡ false → RebalancesOn k reveals b levels level root paths index done → (d : List ℕ) × reveals d × IsRebalancing k b d levels level root paths index
rebalances_on k reveals b levels level root paths index false is on = on
rebalances_on k reveals b levels level root paths index true is on = absurd (false≢true (sym is))

pub none_again : (paths : List ℕ) (level levels at beside page : ℕ) → AreNotAbove paths level levels at beside → IsMetAgain paths level levels at beside (Some page) → ⊥
none_again paths level levels at beside page apart again =
    let not = apart again.1.0 again.1.1 again.1.2 in
    elim again.0 [
      | inl is_at ↦ not.0 (again.1.3 ∙ is_at)
      | inr is_beside ↦ not.1 (again.1.3 ∙ is_beside)
    ]

pub beside_inside : (i beside n : ℕ) → IsBesideOf i beside → 1 ≤ n → i ≤ n → (beside ≤ n) × (beside ≢ i)
beside_inside i beside n is some most = elim (cases_eq i 0) [
  | inl none ↦ (omega (arith, is.at_first none, some), omega (arith, is.at_first none, none))
  | inr after ↦ let before = is.after (omega (arith, after)) in (omega (arith, before, most), omega (arith, before, after))
]
