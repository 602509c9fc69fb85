-- A page in form by itself lists items, so that its halves have its kind.
use Rattle.std.proofs.Common.{◌≡◌, ◌≢◌, ℕ, ◌+◌, ◌-◌, ◌<◌, List, [], length, map, arith, refl, sym, ◌∙◌, ap}
use Rattle.std.specs.List.{range_with_len}
use Rattle.std.proofs.lemmas.List.FromFn.{length-map-range_with_len, get_or-map-range_with_len}
use Rattle.page_tree.specs.Keys.{Item, no_item, item_at}
use Rattle.page_tree.specs.Page.{kind_of, filled, record_at, record_item, key_at, link_at, IsLeaf, IsInner}
use Rattle.page_tree.specs.Climb.{IsHalves}
use Rattle.page_tree.specs.Broken.{IsLeafForm, IsInnerForm}

listing : (ℕ → Item) → ℕ → List Item
listing f n = map f (range_with_len 0 n)

listing_length : (f : ℕ → Item) (n : ℕ) → length (listing f n) ≡ n
unfolding listing
listing_length f n = length-map-range_with_len f 0 n

listing_at : (f : ℕ → Item) (n i : ℕ) → i < n → item_at (listing f n) i ≡ f i
unfolding listing
listing_at f n i below = get_or-map-range_with_len f 0 n i i no_item below (omega arith)

pub leaf_lists : (e k : ℕ) (page : List ℕ) → IsLeafForm e page → (xs : List Item) × IsLeaf e k page xs
leaf_lists e k page form = (
  listing (λ i. record_item k (record_at e page i)) (filled page),
  record {
    kind = form.kind;
    count = sym (listing_length (λ i. record_item k (record_at e page i)) (filled page));
    some = omega (arith, form.some, listing_length (λ i. record_item k (record_at e page i)) (filled page));
    most = omega (arith, form.most, listing_length (λ i. record_item k (record_at e page i)) (filled page));
    lists = λ i below. listing_at (λ j. record_item k (record_at e page j)) (filled page) i (omega (arith, below, listing_length (λ j. record_item k (record_at e page j)) (filled page)));
  },
)

child_of : ℕ → List ℕ → ℕ → Item
child_of k page i = record { key = key_at k page (i - 1); page = link_at k page i; bytes = [] }

pub inner_lists : (k : ℕ) (page : List ℕ) → IsInnerForm k page → (xs : List Item) × IsInner k page xs
unfolding child_of
inner_lists k page form = (
  listing (child_of k page) (filled page + 1),
  record {
    kind = form.kind;
    count = sym (listing_length (child_of k page) (filled page + 1));
    some = omega (arith, form.some, listing_length (child_of k page) (filled page + 1));
    most = omega (arith, form.most, listing_length (child_of k page) (filled page + 1));
    keys = λ i below.
        let before : i + 1 - 1 ≡ i = omega arith in
        ap (λ (x : Item). x.key) (listing_at (child_of k page) (filled page + 1) (i + 1) (omega (arith, below, listing_length (child_of k page) (filled page + 1)))) ∙ ap (key_at k page) before;
    links = λ i below. ap (λ (x : Item). x.page) (listing_at (child_of k page) (filled page + 1) i (omega (arith, below, listing_length (child_of k page) (filled page + 1))));
  },
)

pub leaf_kinds : (e k : ℕ) (ys : List Item) (left right key : List ℕ) → IsHalves e k 1 ys left right key → (kind_of left ≢ 0) × (kind_of right ≢ 0)
leaf_kinds e k ys left right key halves = (λ zero_left. omega (arith, zero_left, (halves.prefix.leaf refl).kind), λ zero_right. omega (arith, zero_right, (halves.back.leaf refl).kind))

pub inner_kinds : (e k l : ℕ) (ys : List Item) (left right key : List ℕ) → 1 < l → IsHalves e k l ys left right key → (kind_of left ≢ 0) × (kind_of right ≢ 0)
inner_kinds e k l ys left right key above halves = (λ zero_left. omega (arith, zero_left, (halves.prefix.inner above).kind), λ zero_right. omega (arith, zero_right, (halves.back.inner above).kind))
