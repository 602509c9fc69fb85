-- Walking a chain.
use Rattle.std.proofs.Common.{◌≡◌, ◌≢◌, ◌<◌, ◌≤◌, ◌+◌, ℕ, Option, Some, None, [], ◌∷◌, true, false, refl, zero, suc, length, get_or, arith, inl, inr, IfSome, ◌⊎◌}
use Rattle.std.proofs.lemmas.Bool.{cases_lt}
use Rattle.std.proofs.lemmas.Option.{none-some}
use Rattle.frame_pool.specs.Frames.{Frame, Slots, frame_at, is_of}
use Rattle.frame_pool.specs.Lists.{Lists}
use Rattle.frame_pool.specs.Index.{bucket_of, bucket_in, bucket_at, IsAtMost, IsAtLeast, IsFirstAbove, IsIndex, steps_left}

-- a slot with a page is one of the slots
pub filled_below : (slots : Slots) (slot : ℕ) (f : Frame) → frame_at slots slot ≡ Some f → slot < length slots
filled_below [] slot f is = absurd (none-some f is)
filled_below (x ∷ xs) zero f is = omega arith
filled_below (x ∷ xs) (suc i) f is = let h = filled_below xs i f is in omega (arith, h)

bucket_below_in : (n bucket : ℕ) (slots : Slots) (slot : ℕ) (x : Option Frame) → frame_at slots slot ≡ x → bucket_in n x ≡ Some bucket → slot < length slots
bucket_below_in n bucket slots slot None at is = absurd (none-some bucket is)
bucket_below_in n bucket slots slot (Some f) at is = filled_below slots slot f at

pub bucket_below : (slots : Slots) (slot bucket : ℕ) → bucket_at slots slot ≡ Some bucket → slot < length slots
bucket_below slots slot bucket is = bucket_below_in (length slots) bucket slots slot (frame_at slots slot) refl is

bucket_of_page_in : (n id page : ℕ) (x : Option Frame) → is_of id page x ≡ true → bucket_in n x ≡ Some (bucket_of n id page)
bucket_of_page_in n id page None is = absurd (cc)
bucket_of_page_in n id page (Some f) is = grind arith

-- a slot with the page is in the page's bucket
pub bucket_of_page : (slots : Slots) (slot id page : ℕ) → is_of id page (frame_at slots slot) ≡ true → bucket_at slots slot ≡ Some (bucket_of (length slots) id page)
bucket_of_page slots slot id page is = bucket_of_page_in (length slots) id page (frame_at slots slot) is

pub widened : (at : ℕ → Option ℕ) (bucket limit n : ℕ) (r : Option ℕ) → limit ≤ n → IfSome r (λ s. (s < limit) × (at s ≡ Some bucket)) → IfSome r (λ s. (s < n) × (at s ≡ Some bucket))
widened at bucket limit n None more within = tt
widened at bucket limit n (Some s) more within = let h = within.0 in (omega (arith, more, h), within.1)

pub nearer : (at : ℕ → Option ℕ) (bucket limit : ℕ) (r : Option ℕ) → IfSome r (λ s. (s < limit) × (at s ≡ Some bucket)) → steps_left r < limit + 1
nearer at bucket limit None within = omega arith
nearer at bucket limit (Some s) within = let h = within.0 in omega (arith, h)

-- one step down a chain, past a slot that does not have the page
pub step_covers : (slots : Slots) (lists : Lists) (id page slot : ℕ) → IsIndex (bucket_at slots) lists → bucket_at slots slot ≡ Some (bucket_of (length slots) id page) → is_of id page (frame_at slots slot) ≡ false
    → (other : ℕ) → is_of id page (frame_at slots other) ≡ true → other ≤ slot → IsAtMost other (get_or lists.nexts slot None)
step_covers slots lists id page slot index at miss other hit most =
    let apart : other ≢ slot = λ same. cc in
    let below : other < slot = omega (arith, apart, most) in
    (index.links slot _ at).covers other below (bucket_of_page slots other id page hit)

pub at_most : (other slot : ℕ) (r : Option ℕ) → r ≡ Some slot → IsAtMost other r → other ≤ slot
at_most other slot r is most = rw is at most

-- where the walk up to a slot ends
pub none_is_no_most : (other : ℕ) (r : Option ℕ) → ((s : ℕ) → r ≡ Some s → ⊥) → IsAtMost other r → ⊥
none_is_no_most other None none most = most
none_is_no_most other (Some s) none most = none s refl

pub over : (other slot : ℕ) (r : Option ℕ) → ((s : ℕ) → r ≡ Some s → s ≤ slot) → slot < other → IsAtMost other r → ⊥
over other slot None low more most = most
over other slot (Some s) low more most = let h = low s refl in omega (arith, h, more, most)

pub first_above_is : (at : ℕ → Option ℕ) (bucket slot n : ℕ) (above cursor : Option ℕ) → ((s : ℕ) → cursor ≡ Some s → s ≤ slot)
    → IfSome above (λ a. (slot < a) × (a < n) × (at a ≡ Some bucket))
    → ((other : ℕ) → other < n → at other ≡ Some bucket → IsAtLeast other above ⊎ IsAtMost other cursor)
    → IsFirstAbove at bucket slot n above
first_above_is at bucket slot n above cursor low within covers = record {
  within = within;
  covers = λ other more below is. elim (covers other below is) [ inl least ↦ least | inr most ↦ absurd (over other slot cursor low more most) ];
}

pub above_or_below : (at : ℕ → Option ℕ) (lists : Lists) (bucket slot : ℕ) → IsIndex at lists → at slot ≡ Some bucket → (other : ℕ) → at other ≡ Some bucket
    → IsAtLeast other (Some slot) ⊎ IsAtMost other (get_or lists.nexts slot None)
above_or_below at lists bucket slot index here other is = elim (cases_lt other slot) [
  | inl below ↦ inr ((index.links slot bucket here).covers other below is)
  | inr least ↦ inl least
]
