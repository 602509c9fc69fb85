-- What the steps of a test of the whole form show.
use Rattle.std.proofs.Common.{◌≡◌, inl, inr, ℕ, suc, ◌-◌, ◌<◌, ◌≤◌, ◌^◌, List, ◌++◌, length, map, refl, sym, ◌∙◌, ap, subst, arith, length-append}
use Rattle.std.specs.List.{flat_map}
use Rattle.std.proofs.lemmas.Bool.{cases_lt}
use Rattle.labelled_disk.specs.Layout.{vfm}
use Rattle.page_tree.specs.Page.{page_at, count_in, root_in, top_in, free_in, levels_in}
use Rattle.page_tree.specs.Tree.{frees, IsChain}
use Rattle.file_map.specs.declared.run.Run.{Run}
use Rattle.page_tree.specs.Page.{record_item}
use Rattle.page_tree.specs.Keys.{Item, AreInKeyOrder}
use Rattle.volume_view.specs.declared.header.Header.{Header}
use Rattle.volume_view.specs.Level.{IsHeaderOf}
use Rattle.volume_view.specs.Form.{HasForm, AreRead, AreCounted, IsFreeList}
use Rattle.volume_view.specs.Walk.{records_in, tops, level_at, pages_used, least_children, least_records, AreInner, AreLeaves, IsHeaderForm, AreUsedOnce}
use Rattle.volume_view.proofs.WalkLemmas.{frees_append}
use Rattle.volume_view.proofs.ReadLemmas.{read_long}
use Rattle.volume_view.proofs.MapFormLemmas.{form_is_met, has_form, items_rise}
use Rattle.volume_view.proofs.FreeLemmas.{in_list, chain_same, inside_some}

-- a walk that a header leads, and what it met
pub record IsLed (n : ℕ) (b page : List ℕ) (pages : ℕ) (h : Header) (runs : List Run) (free : List ℕ) : Type 0 where
  pub header : IsHeaderForm page pages
  pub inner : (s : ℕ) → suc s < h.levels → AreInner b pages h.top (least_children s) (level_at b (tops h.levels h.root) s)
  pub leaves : AreLeaves b pages (least_records h.levels) (level_at b (tops h.levels h.root) (h.levels - 1))
  pub read : AreRead n (flat_map (records_in b) (level_at b (tops h.levels h.root) (h.levels - 1))) runs
  pub counted : AreCounted h.count n (length runs)
  pub chain : IsChain b h.free free
  pub once : AreUsedOnce h.top (pages_used b (tops h.levels h.root) h.levels ++ free)

header_is : (page : List ℕ) (h : Header) → IsHeaderOf page h → h ≡ record { count = count_in page; root = root_in page; top = top_in page; free = free_in page; levels = levels_in page }
header_is page h is = λ i. record { count = is.count i; root = is.root i; top = is.top i; free = is.free i; levels = is.levels i }

abbrev revealed : (b : List ℕ) → Header
revealed b = record { count = count_in (page_at b 0); root = root_in (page_at b 0); top = top_in (page_at b 0); free = free_in (page_at b 0); levels = levels_in (page_at b 0) }

module _ (n : ℕ) (b page : List ℕ) (pages : ℕ) (h : Header) (read_page : page ≡ page_at b 0) (is : IsHeaderOf page h) (pages_are : pages ≡ vfm n) where
  same : h ≡ revealed b
  same = subst (λ (p : List ℕ). h ≡ record { count = count_in p; root = root_in p; top = top_in p; free = free_in p; levels = levels_in p }) read_page (header_is page h is)

  -- what a walk over a map in form meets
  pub led : (runs : List Run) (free : List ℕ) → IsLed n b (page_at b 0) (vfm n) (revealed b) runs free → IsLed n b page pages h runs free
  led runs free walk =
      subst (λ (x : Header). IsLed n b page pages x runs free) (sym same)
      (subst (λ (x : List ℕ). IsLed n b x pages (revealed b) runs free) (sym read_page) (subst (λ (m : ℕ). IsLed n b (page_at b 0) m (revealed b) runs free) (sym pages_are) walk))

  pub followed : (runs : List Run) (free : List ℕ) → IsLed n b page pages h runs free → IsLed n b (page_at b 0) (vfm n) (revealed b) runs free
  followed runs free walk =
      subst (λ (x : Header). IsLed n b (page_at b 0) (vfm n) x runs free) same
      (subst (λ (x : List ℕ). IsLed n b x (vfm n) h runs free) read_page (subst (λ (m : ℕ). IsLed n b page m h runs free) pages_are walk))

-- a map in form leads a walk
pub record HasWalk (n : ℕ) (b page : List ℕ) (pages : ℕ) (h : Header) : Type 0 where
  pub runs : List Run
  pub free : List ℕ
  pub walk : IsLed n b page pages h runs free

pub form_has_walk : (n : ℕ) (b page : List ℕ) (pages : ℕ) (h : Header) → page ≡ page_at b 0 → IsHeaderOf page h → pages ≡ vfm n → n < 2 ^ 32 → HasForm n b → HasWalk n b page pages h
form_has_walk n b page pages h read_page is pages_are few form =
    let met = form_is_met n b few form in
    let long = read_long n met.records met.runs met.read in
    record {
      runs = met.runs;
      free = met.free;
      walk = led n b page pages h read_page is pages_are met.runs met.free (record {
        header = met.walked.header;
        inner = met.walked.passed.inner;
        leaves = met.walked.passed.leaves;
        read = subst (λ (l : List (List ℕ)). AreRead n l met.runs) met.walked.listed met.read;
        counted = record { same = met.walked.count ∙ sym long; capacity = omega (arith, long, met.walked.capacity); most = met.few };
        chain = met.walked.chain;
        once = met.walked.once;
      });
    }

-- and a walk that passed shows a map in form
pub walk_has_form : (n : ℕ) (b page : List ℕ) (pages : ℕ) (h : Header) (runs : List Run) (free : List ℕ) → page ≡ page_at b 0 → IsHeaderOf page h → pages ≡ vfm n → IsLed n b page pages h runs free → HasForm n b
walk_has_form n b page pages h runs free read_page is pages_are walk =
    let at = followed n b page pages h read_page is pages_are runs free walk in
    let records = flat_map (records_in b) (level_at b (tops (levels_in (page_at b 0)) (root_in (page_at b 0))) (levels_in (page_at b 0) - 1)) in
    let long = read_long n records runs at.read in
    has_form n records runs at.read b free (record {
      header = at.header;
      passed = record { inner = at.inner; leaves = at.leaves };
      listed = refl;
      ascending = subst (λ (l : List (List ℕ)). AreInKeyOrder (map (record_item 12) l)) at.read.listed (items_rise n records runs at.read);
      count = at.counted.same ∙ long;
      capacity = omega (arith, long, at.counted.capacity);
      chain = at.chain;
      once = at.once;
    }) at.counted.most

-- the free pages of such a walk are inside
pub free_list : (n : ℕ) (b page : List ℕ) (pages : ℕ) (h : Header) (runs : List Run) (free : List ℕ) → h.top < pages → IsLed n b page pages h runs free → IsFreeList b pages h.free free
free_list n b page pages h runs free below walk = record {
  chain = walk.chain;
  inside = λ k q at.
      let there = in_list free k q at in
      let sum = frees_append q (pages_used b (tops h.levels h.root) h.levels) free in
      elim (cases_lt h.top q) [
        | inl above ↦ absurd (omega (arith, there, sum, walk.once.past q above))
        | inr within ↦ elim (cases_lt 0 q) [
          | inl some ↦ (omega (arith, some), omega (arith, within, below))
          | inr none ↦
              let z : q ≡ 0 = omega (arith, none) in
              let here = ap (λ (p : ℕ). frees p free) z in
              let sum_zero = frees_append 0 (pages_used b (tops h.levels h.root) h.levels) free in
              absurd (omega (arith, there, here, sum_zero, walk.once.header))
        ]
      ];
}

pub free_few : (n : ℕ) (b page : List ℕ) (pages : ℕ) (h : Header) (runs : List Run) (free : List ℕ) → IsLed n b page pages h runs free → length free ≤ h.top
free_few n b page pages h runs free walk = let long = length-append (pages_used b (tops h.levels h.root) h.levels) free in omega (arith, long, walk.once.counted)

-- the free pages that were met are those of the walk
pub free_same : (n : ℕ) (b page : List ℕ) (pages : ℕ) (h : Header) (runs : List Run) (free met : List ℕ) → h.top < pages → IsLed n b page pages h runs free → IsFreeList b pages h.free met → free ≡ met
free_same n b page pages h runs free met below walk list =
    chain_same b h.free free met walk.chain list.chain (inside_some pages free (free_list n b page pages h runs free below walk).inside) (inside_some pages met list.inside)

pub form_has_header : (n : ℕ) (b page : List ℕ) (pages : ℕ) → page ≡ page_at b 0 → pages ≡ vfm n → n < 2 ^ 32 → HasForm n b → IsHeaderForm page pages
form_has_header n b page pages read_page pages_are few form =
    let met = form_is_met n b few form in
    subst (IsHeaderForm page) (sym pages_are) (subst (λ (p : List ℕ). IsHeaderForm p (vfm n)) (sym read_page) met.walked.header)

-- the same over bytes and levels that are the same
pub inner_there : (b c : List ℕ) (pages : ℕ) (h : Header) → c ≡ b → ((s : ℕ) → suc s < h.levels → AreInner b pages h.top (least_children s) (level_at b (tops h.levels h.root) s)) → (s : ℕ) → suc s < h.levels → AreInner c pages h.top (least_children s) (level_at c (tops h.levels h.root) s)
inner_there b c pages h same is = subst (λ (x : List ℕ). (s : ℕ) → suc s < h.levels → AreInner x pages h.top (least_children s) (level_at x (tops h.levels h.root) s)) (sym same) is

pub leaves_there : (b c : List ℕ) (pages least other : ℕ) (hs gs : List Item) → c ≡ b → other ≡ least → gs ≡ hs → AreLeaves b pages least hs → AreLeaves c pages other gs
leaves_there b c pages least other hs gs same least_same level_same is =
    subst (AreLeaves c pages other) (sym level_same) (subst (λ (m : ℕ). AreLeaves c pages m hs) (sym least_same) (subst (λ (x : List ℕ). AreLeaves x pages least hs) (sym same) is))

pub read_there : (n : ℕ) (b c : List ℕ) (hs gs : List Item) (runs : List Run) → c ≡ b → gs ≡ hs → AreRead n (flat_map (records_in b) hs) runs → AreRead n (flat_map (records_in c) gs) runs
read_there n b c hs gs runs same level_same is = subst (λ (l : List Item). AreRead n (flat_map (records_in c) l) runs) (sym level_same) (subst (λ (x : List ℕ). AreRead n (flat_map (records_in x) hs) runs) (sym same) is)
