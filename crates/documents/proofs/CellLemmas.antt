-- Cells of pages, and pages into which bytes were put.
use Rattle.std.proofs.Common.{◌≡◌, ◌≢◌, ◌⊎◌, inl, inr, ℕ, zero, suc, ◌+◌, ◌-◌, ◌*◌, ◌/◌, ◌%◌, ◌<◌, ◌≤◌, List, [], ◌∷◌, ◌++◌, length, length-append, take, replicate, Option, Some, None, refl, sym, ◌∙◌, ap, subst, arith, get_or-set_same, get_or-set_other, length-set}
use Rattle.std.specs.Prelude.{slice_get, slice_set, slice_index_or}
use Rattle.std.specs.List.{AllByRecursion}
use Rattle.std.proofs.lemmas.Bool.{cases_eq, cases_lt}
use Rattle.std.proofs.lemmas.List.{set_past}
use Rattle.std.proofs.lemmas.Option.{none-some, same_Some}
use Rattle.flat_machine.specs.File.{File, Page, Cell, byte, any, size, zero_page}
use Rattle.documents.specs.Contents.{cell_in}
use Rattle.documents.specs.Pieces.{grown, put_cell, put_cells}

-- each page has 512 cells
abbrev pub AreWhole : List Page → Type 0
AreWhole ps = AllByRecursion (λ p. length p ≡ 512) ps

page_long : (ps : List Page) (k : ℕ) → AreWhole ps → k < length ps → length (slice_index_or ps k []) ≡ 512
page_long [] k all l = absurd (omega arith)
page_long (p ∷ ps) zero all l = all.0
page_long (p ∷ ps) (suc k) all l = page_long ps k all.1 (omega arith)

whole_set : (ps : List Page) (i : ℕ) (c : Page → Page) → ((p : Page) → length (c p) ≡ length p) → AreWhole ps → AreWhole (slice_set ps i (c (slice_index_or ps i [])))
whole_set [] i c k h = tt
whole_set (p ∷ ps) zero c k h = (k p ∙ h.0, h.1)
whole_set (p ∷ ps) (suc i) c k h = (h.0, whole_set ps i c k h.1)

-- One byte.

whole_put : (ps : List Page) (k b : ℕ) → AreWhole ps → AreWhole (put_cell k b ps)
whole_put ps k b h = whole_set ps (k / 512) (λ p. slice_set p (k % 512) (byte b)) (λ p. length-set p (k % 512) (byte b)) h

long_put : (ps : List Page) (k b : ℕ) → length (put_cell k b ps) ≡ length ps
long_put ps k b = length-set ps (k / 512) _

here : (ps : List Page) (k b : ℕ) → AreWhole ps → k < 512 * length ps → cell_in (put_cell k b ps) k ≡ byte b
here ps k b h l =
    let in_page : k / 512 < length ps = omega (arith, l) in
    let in_cell : k % 512 < length (slice_index_or ps (k / 512) []) = omega (arith, page_long ps (k / 512) h in_page) in
    ap (λ (p : Page). slice_index_or p (k % 512) any) (get_or-set_same ps (k / 512) (slice_set (slice_index_or ps (k / 512) []) (k % 512) (byte b)) [] in_page)
    ∙ get_or-set_same (slice_index_or ps (k / 512) []) (k % 512) (byte b) any in_cell

else_at : (ps : List Page) (k b j : ℕ) → j ≢ k → cell_in (put_cell k b ps) j ≡ cell_in ps j
else_at ps k b j n = in_page (cases_eq (j / 512) (k / 512)) (cases_lt (k / 512) (length ps))
  where
    in_page : (j / 512 ≡ k / 512) ⊎ (j / 512 ≢ k / 512) → (k / 512 < length ps) ⊎ (length ps ≤ k / 512) → cell_in (put_cell k b ps) j ≡ cell_in ps j
    in_page (inl e) (inl l) =
        let other : j % 512 ≢ k % 512 = λ q. n (omega (arith, e, q)) in
        ap (λ (p : Page). slice_index_or p (j % 512) any)
        (ap (λ (i : ℕ). slice_index_or (slice_set ps (k / 512) (slice_set (slice_index_or ps (k / 512) []) (k % 512) (byte b))) i []) e ∙ get_or-set_same ps (k / 512) _ [] l)
        ∙ get_or-set_other (slice_index_or ps (k / 512) []) (k % 512) (j % 512) (byte b) any other
        ∙ ap (λ (i : ℕ). slice_index_or (slice_index_or ps i []) (j % 512) any) (sym e)
    in_page (inl e) (inr l) = ap (λ (qs : List Page). slice_index_or (slice_index_or qs (j / 512) []) (j % 512) any) (set_past ps (k / 512) _ l)
    in_page (inr e) l = ap (λ (p : Page). slice_index_or p (j % 512) any) (get_or-set_other ps (k / 512) (j / 512) _ [] e)

-- Bytes in a row.

pub whole_puts : (bytes : List ℕ) (k : ℕ) (ps : List Page) → AreWhole ps → AreWhole (put_cells k bytes ps)
whole_puts [] k ps h = h
whole_puts (b ∷ bs) k ps h = whole_puts bs (k + 1) (put_cell k b ps) (whole_put ps k b h)

pub long_puts : (bytes : List ℕ) (k : ℕ) (ps : List Page) → length (put_cells k bytes ps) ≡ length ps
long_puts [] k ps = refl
long_puts (b ∷ bs) k ps = long_puts bs (k + 1) (put_cell k b ps) ∙ long_put ps k b

-- what stands before them and after them stays
pub left_by : (bytes : List ℕ) (k : ℕ) (ps : List Page) (j : ℕ) → (j < k) ⊎ (k + length bytes ≤ j) → cell_in (put_cells k bytes ps) j ≡ cell_in ps j
left_by [] k ps j o = refl
left_by (b ∷ bs) k ps j o =
    left_by bs (k + 1) (put_cell k b ps) j (past o) ∙ else_at ps k b j (other o)
  where
    past : (j < k) ⊎ (k + suc (length bs) ≤ j) → (j < k + 1) ⊎ (k + 1 + length bs ≤ j)
    past (inl l) = inl (omega (arith, l))
    past (inr l) = inr (omega (arith, l))

    other : (j < k) ⊎ (k + suc (length bs) ≤ j) → j ≢ k
    other (inl l) e = omega (arith, l, e)
    other (inr l) e = omega (arith, l, e)

-- and they are there
pub put_here : (bytes : List ℕ) (k : ℕ) (ps : List Page) → AreWhole ps → k + length bytes ≤ 512 * length ps
    → (j b : ℕ) → slice_get bytes j ≡ Some b → cell_in (put_cells k bytes ps) (k + j) ≡ byte b
put_here [] k ps h l j b is = absurd (none-some b is)
put_here (x ∷ xs) k ps h l zero b is =
    let z : k + 0 ≡ k = omega arith in
    let same : x ≡ b = same_Some x b is in
    subst (λ (i : ℕ). cell_in (put_cells k (x ∷ xs) ps) i ≡ byte b) (sym z)
    (left_by xs (k + 1) (put_cell k x ps) k (inl (omega arith)) ∙ here ps k x h (omega (arith, l)) ∙ ap byte same)
put_here (x ∷ xs) k ps h l (suc j) b is =
    let z : k + 1 + j ≡ k + suc j = omega arith in
    subst (λ (i : ℕ). cell_in (put_cells k (x ∷ xs) ps) i ≡ byte b) z
    (put_here xs (k + 1) (put_cell k x ps) (whole_put ps k x h) (omega (arith, l, long_put ps k x)) j b is)

-- one row after the other
pub puts_both : (xs ys : List ℕ) (k : ℕ) (ps : List Page) → put_cells k (xs ++ ys) ps ≡ put_cells (k + length xs) ys (put_cells k xs ps)
puts_both [] ys k ps = ap (λ (i : ℕ). put_cells i ys ps) (let z : k ≡ k + 0 = omega arith in z)
puts_both (x ∷ xs) ys k ps =
    let z : k + 1 + length xs ≡ k + suc (length xs) = omega arith in
    puts_both xs ys (k + 1) (put_cell k x ps) ∙ ap (λ (i : ℕ). put_cells i ys (put_cells (k + 1) xs (put_cell k x ps))) z

-- Pages of zeros after others.

index_left : (xs ys : List Page) (i : ℕ) → i < length xs → slice_index_or (xs ++ ys) i [] ≡ slice_index_or xs i []
index_left [] ys i l = absurd (omega arith)
index_left (x ∷ xs) ys zero l = refl
index_left (x ∷ xs) ys (suc i) l = index_left xs ys i (omega arith)

index_right : (xs ys : List Page) (i : ℕ) → slice_index_or (xs ++ ys) (length xs + i) [] ≡ slice_index_or ys i []
index_right [] ys i = ap (λ (j : ℕ). slice_index_or ys j []) (let z : 0 + i ≡ i = omega arith in z)
index_right (x ∷ xs) ys i =
    let z : suc (length xs) + i ≡ suc (length xs + i) = omega arith in
    ap (λ (j : ℕ). slice_index_or (x ∷ (xs ++ ys)) j []) z ∙ index_right xs ys i

index_same : {X : Type 0} (n i : ℕ) (x d : X) → i < n → slice_index_or (replicate n x) i d ≡ x
index_same zero i x d l = absurd (omega arith)
index_same (suc n) zero x d l = refl
index_same (suc n) (suc i) x d l = index_same n i x d (omega arith)

zero_cell : (j : ℕ) → j < 512 → slice_index_or zero_page j any ≡ byte 0
unfolding zero_page
zero_cell j l = index_same 512 j (byte 0) any l

zero_long : length zero_page ≡ 512
unfolding zero_page
zero_long = refl

take_all : (n : ℕ) (ps : List Page) → length ps ≤ n → take n ps ≡ ps
take_all zero [] l = refl
take_all (suc n) [] l = refl
take_all zero (p ∷ ps) l = absurd (omega arith)
take_all (suc n) (p ∷ ps) l = ap (λ (qs : List Page). p ∷ qs) (take_all n ps (omega arith))

pub grown_old : (n : ℕ) (ps : List Page) (k : ℕ) → length ps ≤ n → k < 512 * length ps → cell_in (grown n ps) k ≡ cell_in ps k
grown_old n ps k l low =
    let all = take_all n ps l in
    ap (λ (qs : List Page). cell_in (qs ++ replicate (n - length ps) zero_page) k) all
    ∙ ap (λ (p : Page). slice_index_or p (k % 512) any) (index_left ps (replicate (n - length ps) zero_page) (k / 512) (omega (arith, low)))

pub grown_new : (n : ℕ) (ps : List Page) (k : ℕ) → length ps ≤ n → 512 * length ps ≤ k → k < 512 * n → cell_in (grown n ps) k ≡ byte 0
grown_new n ps k l low high =
    let all = take_all n ps l in
    let i : ℕ = k / 512 - length ps in
    let at : k / 512 ≡ length ps + i = omega (arith, low) in
    let within : i < n - length ps = omega (arith, low, high) in
    ap (λ (qs : List Page). cell_in (qs ++ replicate (n - length ps) zero_page) k) all
    ∙ ap (λ (p : Page). slice_index_or p (k % 512) any)
    (ap (λ (j : ℕ). slice_index_or (ps ++ replicate (n - length ps) zero_page) j []) at ∙ index_right ps (replicate (n - length ps) zero_page) i
    ∙ index_same (n - length ps) i zero_page [] within)
    ∙ zero_cell (k % 512) (omega arith)

whole_append : (ps qs : List Page) → AreWhole ps → AreWhole qs → AreWhole (ps ++ qs)
whole_append [] qs h k = k
whole_append (p ∷ ps) qs h k = (h.0, whole_append ps qs h.1 k)

whole_zeros : (n : ℕ) → AreWhole (replicate n zero_page)
whole_zeros zero = tt
whole_zeros (suc n) = (zero_long, whole_zeros n)

long_zeros : (n : ℕ) → length (replicate n zero_page) ≡ n
long_zeros zero = refl
long_zeros (suc n) = ap suc (long_zeros n)

pub grown_whole : (n : ℕ) (ps : List Page) → length ps ≤ n → AreWhole ps → AreWhole (grown n ps)
grown_whole n ps l h =
    subst (λ (qs : List Page). AreWhole (qs ++ replicate (n - length ps) zero_page)) (sym (take_all n ps l))
    (whole_append ps (replicate (n - length ps) zero_page) h (whole_zeros (n - length ps)))

pub grown_long : (n : ℕ) (ps : List Page) → length ps ≤ n → length (grown n ps) ≡ n
grown_long n ps l =
    let all = take_all n ps l in
    let parts : length (grown n ps) ≡ length ps + (n - length ps) =
    ap (λ (qs : List Page). length (qs ++ replicate (n - length ps) zero_page)) all ∙ length-append ps (replicate (n - length ps) zero_page) ∙ ap (λ (k : ℕ). length ps + k) (long_zeros (n - length ps)) in
    omega (arith, parts, l)

pub new_whole : (n : ℕ) → AreWhole (replicate n zero_page)
new_whole n = whole_zeros n
