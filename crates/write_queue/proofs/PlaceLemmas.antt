-- Where a page stands among those that wait, by the list of their sectors.
use Rattle.std.proofs.Common.{◌≡◌, ◌≢◌, ℕ, zero, suc, ◌+◌, ◌-◌, ◌%◌, ◌^◌, ◌<◌, ◌≤◌, min, Bool, true, false, eqb, map, List, [], ◌∷◌, ◌++◌, length, take, drop, set, get_or, Some, None, refl, sym, ◌∙◌, ap, subst, arith, inl, inr}
use Rattle.std.specs.Prelude.{slice_get, swap_remove, option_map, nat_lt, if◌then◌else◌}
use Rattle.std.specs.List.{list_any}
use Rattle.std.proofs.Math.Seq.{take-add}
use Rattle.std.proofs.lemmas.Bool.{cases_lt, or_parts}
use Rattle.std.proofs.lemmas.List.{length-map, length-append, length-take-le, take-map, take_all, map-set, get_or-map, get_or-take, get_or_append_left, get_or-append_right}
use Rattle.std.proofs.lemmas.Option.{none-some, same_Some, slice_get-map, slice_get_within, slice_get-get_or, get_or_from_slice_get}
use Rattle.write_queue.specs.declared.entry.Entry.{Entry}
use Rattle.write_queue.specs.Entries.{waiting_at}
use Rattle.write_queue.specs.Finding.{IsFirstAt, IsFirstOf, Misses}
use Rattle.write_queue.specs.Inside.{HasFirst}
use Rattle.write_queue.specs.Sweeps.{sweep_key}
use Rattle.write_queue.proofs.ListLemmas.{nowhere_waits}

-- the sectors of what waits
abbrev pub sectors_of : List Entry → List ℕ
sectors_of es = map (λ e. e.sector) es

-- there are as many
pub sectors_long : (es : List Entry) (ss : List ℕ) → ss ≡ sectors_of es → length ss ≡ length es
sectors_long es ss list = ap (λ (x : List ℕ). length x) list ∙ length-map es (λ (x : Entry). x.sector)

-- where a sector stands in the list, a page waits for it
pub waits_where : (es : List Entry) (j s : ℕ) → slice_get (sectors_of es) j ≡ Some s → (e : Entry) × (slice_get es j ≡ Some e) × (e.sector ≡ s)
waits_where [] j s is = absurd (none-some s is)
waits_where (e ∷ es) zero s is = (e, refl, same_Some e.sector s is)
waits_where (e ∷ es) (suc j) s is = waits_where es j s is

-- the sector stands in neither of two lists
Misses-append : (c : ℕ) (xs ys : List ℕ) → Misses c xs → Misses c ys → Misses c (xs ++ ys)
Misses-append c xs ys first second k l =
    elim (cases_lt k (length xs)) [
      | inl below ↦ rw (get_or_append_left xs ys 0 k below) (first k below)
      | inr past ↦ rw (get_or-append_right xs ys (length xs) k 0 refl past) (second (k - length xs) (omega (arith, length-append xs ys)))
    ]

-- nor in a prefix that the two make up
pub misses_both : (c n m : ℕ) (ss : List ℕ) → Misses c (take n ss) → Misses c (take m (drop n ss)) → Misses c (take (n + m) ss)
misses_both c n m ss first second = rw (take-add n m ss) (Misses-append c (take n ss) (take m (drop n ss)) first second)

-- what passes no test stands nowhere
pub misses_none : (c : ℕ) (xs : List ℕ) → list_any (λ s. eqb s c) xs ≡ false → Misses c xs
misses_none c [] none k l here = absurd (omega arith)
misses_none c (x ∷ xs) none zero l here = let other = (or_parts (eqb x c) (list_any (λ s. eqb s c) xs) none).0 in absurd (grind arith)
misses_none c (x ∷ xs) none (suc k) l here = misses_none c xs (or_parts (eqb x c) (list_any (λ s. eqb s c) xs) none).1 k (omega arith) here

-- a page waits where its sector stands
pub found_where : (es : List Entry) (ss : List ℕ) (sector place : ℕ) → ss ≡ sectors_of es → place < length ss → get_or ss place 0 ≡ sector
    → (e : Entry) × (slice_get es place ≡ Some e) × (e.sector ≡ sector)
found_where es ss sector place list inside stands =
    waits_where es place sector (ap (λ (x : List ℕ). slice_get x place) (sym list) ∙ slice_get-get_or ss place 0 inside ∙ ap (λ (n : ℕ). Some n) stands)

-- and none waits where it stands nowhere
pub found_nowhere : (es : List Entry) (ss : List ℕ) (sector : ℕ) → ss ≡ sectors_of es → Misses sector ss → waiting_at es sector ≡ None
found_nowhere es ss sector list misses =
    nowhere_waits es sector (λ j e is same.
    let at : slice_get ss j ≡ Some e.sector = ap (λ (x : List ℕ). slice_get x j) list ∙ slice_get-map (λ (x : Entry). x.sector) es j ∙ ap (option_map (λ (x : Entry). x.sector)) is in
    misses j (slice_get_within ss j e.sector at) (get_or_from_slice_get ss j e.sector 0 at ∙ same))

-- the least way ahead of the head to those so far, and whose it is
pub record LeastSoFar (head least n : ℕ) (ss : List ℕ) : Type 0 where
  pub place : ℕ
  pub inside : place < length ss
  pub short : get_or ss place 0 < 2 ^ 32
  pub same : least + head ≡ sweep_key head (get_or ss place 0)
  pub so_far : (k : ℕ) → k < n → least + head ≤ sweep_key head (get_or ss k 0)

pub least_first : (head least : ℕ) (ss : List ℕ) → 0 < length ss → get_or ss 0 0 < 2 ^ 32 → least + head ≡ sweep_key head (get_or ss 0 0)
    → LeastSoFar head least 0 ss
least_first head least ss some short same = record { place = 0; inside = some; short = short; same = same; so_far = λ k below. absurd (omega (arith, below)) }

pub least_next : (head least n key : ℕ) (ss : List ℕ) → LeastSoFar head least n ss → n < length ss → get_or ss n 0 < 2 ^ 32
    → key + head ≡ sweep_key head (get_or ss n 0) → LeastSoFar head (min least key) (n + 1) ss
least_next head least n key ss so inside short same =
    elim (cases_lt key least) [
      | inl less ↦ (let is : min least key ≡ key = omega (arith, less) in record {
        place = n;
        inside = inside;
        short = short;
        same = ap (λ (x : ℕ). x + head) is ∙ same;
        so_far = each;
      })
      | inr more ↦ (let is : min least key ≡ least = omega (arith, more) in record {
        place = so.place;
        inside = so.inside;
        short = so.short;
        same = ap (λ (x : ℕ). x + head) is ∙ so.same;
        so_far = each;
      })
    ]
  where
    each : (k : ℕ) → k < n + 1 → min least key + head ≤ sweep_key head (get_or ss k 0)
    each k below = elim (cases_lt k n) [
      | inl before ↦ omega (arith, so.so_far k before)
      | inr here ↦ (let last : k ≡ n = omega (arith, below, here) in subst (λ (x : ℕ). min least key + head ≤ sweep_key head (get_or ss x 0)) (sym last) (omega (arith, same)))
    ]

-- the sector that lies so far ahead
ahead_of : (head least x : ℕ) (b : Bool) → x < 2 ^ 32 → least + head ≡ (if b then 2 ^ 32 + x else x) → (head + least) % 2 ^ 32 ≡ x
ahead_of head least x true short same = omega (arith, short, same)
ahead_of head least x false short same = omega (arith, short, same)

pub least_of_all : (head least n : ℕ) (ss : List ℕ) → LeastSoFar head least n ss → length ss ≤ n → IsFirstOf head ((head + least) % 2 ^ 32) ss
least_of_all head least n ss so all =
    let x = get_or ss so.place 0 in
    let is : (head + least) % 2 ^ 32 ≡ x = ahead_of head least x (nat_lt x head) so.short so.same in
    record {
      place = so.place;
      inside = so.inside;
      there = sym is;
      least = λ k below. subst (λ (n : ℕ). sweep_key head n ≤ sweep_key head (get_or ss k 0)) (sym is)
          (subst (λ (n : ℕ). n ≤ sweep_key head (get_or ss k 0)) so.same (so.so_far k (omega (arith, below, all))));
    }

-- the sector after the head is the first, where the head is none of them
at_next : (head x : ℕ) (b : Bool) → nat_lt x head ≡ b → head + 1 < 2 ^ 32 → x ≢ head → head + 1 ≤ (if b then 2 ^ 32 + x else x)
at_next head x true is short other = omega (arith, short)
at_next head x false is short other = let more : head ≤ x = grind (arith, is) in grind (arith, more, other)

pub next_first : (head place : ℕ) (ss : List ℕ) → head + 1 < 2 ^ 32 → place < length ss → get_or ss place 0 ≡ head + 1 → Misses head ss → IsFirstAt head place ss
next_first head place ss short inside next misses = record {
  below = inside;
  least = λ k below.
      subst (λ (s : ℕ). sweep_key head s ≤ sweep_key head (get_or ss k 0)) (sym next)
      (rw key_next (at_next head (get_or ss k 0) (nat_lt (get_or ss k 0) head) refl short (misses k below)));
}
  where
    key_next : sweep_key head (head + 1) ≡ head + 1
    key_next = grind arith

-- what stands in the list is found
pub found_first : (ss : List ℕ) (s place k : ℕ) → place ≤ length ss → Misses s (take place ss) → k < length ss → get_or ss k 0 ≡ s → place < length ss
found_first ss s place k within misses inside there =
    elim (cases_lt k place) [
      | inl before ↦ absurd (misses k (omega (arith, before, length-take-le place ss within)) (get_or-take place ss k 0 before ∙ there))
      | inr past ↦ omega (arith, past, inside)
    ]

-- one page less is one sector less
pub sectors-removed : (es : List Entry) (ss : List ℕ) (j : ℕ) (e : Entry) (s : ℕ) → ss ≡ sectors_of es → j < length es → swap_remove ss j s ≡ sectors_of (swap_remove es j e)
sectors-removed es ss j e s list below =
    let long : length (sectors_of es) ≡ length es = length-map es (λ (x : Entry). x.sector) in
    let last : get_or (sectors_of es) (length es - 1) s ≡ (get_or es (length es - 1) e).sector = get_or-map (λ (x : Entry). x.sector) es (length es - 1) e s (omega (arith, below)) in
    ap (λ (x : List ℕ). swap_remove x j s) list
    ∙ ap (λ (n : ℕ). take (n - 1) (set (sectors_of es) j (get_or (sectors_of es) (n - 1) s))) long
    ∙ ap (λ (t : ℕ). take (length es - 1) (set (sectors_of es) j t)) last
    ∙ ap (take (length es - 1)) (sym (map-set (λ (x : Entry). x.sector) es j (get_or es (length es - 1) e)))
    ∙ take-map (λ (x : Entry). x.sector) (length es - 1) (set es j (get_or es (length es - 1) e))

-- another page for the same sector
pub sectors-put : (es : List Entry) (j : ℕ) (e f : Entry) → slice_get es j ≡ Some e → f.sector ≡ e.sector → sectors_of (set es j f) ≡ sectors_of es
sectors-put [] j e f is same = absurd (none-some e is)
sectors-put (x ∷ es) zero e f is same = ap (λ (n : ℕ). n ∷ sectors_of es) (same ∙ ap (λ (y : Entry). y.sector) (sym (same_Some x e is)))
sectors-put (x ∷ es) (suc j) e f is same = ap (λ (l : List ℕ). x.sector ∷ l) (sectors-put es j e f is same)

-- the first sector of the sweep is that of its first page
pub first_where : (head : ℕ) (es : List Entry) (ss : List ℕ) (place : ℕ) → ss ≡ sectors_of es → place < length ss
    → ((k : ℕ) → k < length ss → sweep_key head (get_or ss place 0) ≤ sweep_key head (get_or ss k 0)) → HasFirst head es place
first_where head es ss place list inside least =
    let long : length ss ≡ length es = sectors_long es ss list in
    record {
      below = omega (arith, inside, long);
      least = λ e k f at there.
          let here : get_or ss place 0 ≡ e.sector = sector_at e place at in
          let other : get_or ss k 0 ≡ f.sector = sector_at f k there in
          subst (λ (n : ℕ). sweep_key head n ≤ sweep_key head f.sector) here
          (subst (λ (n : ℕ). sweep_key head (get_or ss place 0) ≤ sweep_key head n) other (least k (omega (arith, long, slice_get_within es k f there))));
    }
  where
    sector_at : (e : Entry) (k : ℕ) → slice_get es k ≡ Some e → get_or ss k 0 ≡ e.sector
    sector_at e k at = get_or_from_slice_get ss k e.sector 0
        (ap (λ (x : List ℕ). slice_get x k) list ∙ slice_get-map (λ (x : Entry). x.sector) es k ∙ ap (option_map (λ (x : Entry). x.sector)) at)
