-- Pages from a number on, up to the first that is missing.
use Rattle.std.proofs.Common.{◌≡◌, ◌≢◌, ◌⊎◌, inl, inr, ℕ, zero, suc, ◌+◌, ◌-◌, ◌<◌, ◌≤◌, List, [], ◌∷◌, ◌++◌, length, take, Option, Some, None, refl, sym, ◌∙◌, ap, subst, arith}
use Rattle.std.specs.Prelude.{slice_get, slice_set}
use Rattle.std.specs.List.{AllByRecursion}
use Rattle.std.proofs.lemmas.Option.{none-some}
use Rattle.std.proofs.lemmas.Bool.{cases_eq}
use Rattle.labelled_disk.specs.File.{Page}
use Rattle.labelled_disk.specs.FilesOn.{pages_from}

take-nil : (i : ℕ) → take {A = Page} i [] ≡ []
take-nil zero = refl
take-nil (suc i) = refl

-- the first page is there
pub pages_more : (page : ℕ → Option Page) (k n : ℕ) (p : Page) → page k ≡ Some p → pages_from page k (suc n) ≡ p ∷ pages_from page (k + 1) n
unfolding pages_from
pages_more page k n p is = rw is refl

-- the first page is missing
pub pages_end : (page : ℕ → Option Page) (k n : ℕ) → page k ≡ None → pages_from page k n ≡ []
unfolding pages_from
pages_end page k zero is = refl
pages_end page k (suc n) is = rw is refl

pub pages_zero : (page : ℕ → Option Page) (k : ℕ) → pages_from page k 0 ≡ []
unfolding pages_from
pages_zero page k = refl

-- the same pages
pub pages_same : (page other : ℕ → Option Page) (k n : ℕ) → ((j : ℕ) → k ≤ j → j < k + n → other j ≡ page j) → pages_from other k n ≡ pages_from page k n
pages_same page other k zero same = pages_zero other k ∙ sym (pages_zero page k)
pages_same page other k (suc n) same = either (page k) refl (pages_same page other (k + 1) n (λ j l m. same j (omega arith) (omega arith)))
  where
    either : (o : Option Page) → page k ≡ o → pages_from other (k + 1) n ≡ pages_from page (k + 1) n → pages_from other k (suc n) ≡ pages_from page k (suc n)
    either None e more = pages_end other k (suc n) (same k (omega arith) (omega arith) ∙ e) ∙ sym (pages_end page k (suc n) e)
    either (Some p) e more = pages_more other k n p (same k (omega arith) (omega arith) ∙ e) ∙ ap (λ (l : List Page). p ∷ l) more ∙ sym (pages_more page k n p e)

-- each of them is the page of its number
pub pages_each : (page : ℕ → Option Page) (k n j : ℕ) → j < length (pages_from page k n) → slice_get (pages_from page k n) j ≡ page (k + j)
pages_each page k zero j below = absurd (omega (arith, ap (λ (l : List Page). length l) (pages_zero page k)))
pages_each page k (suc n) j below = either (page k) refl j below (λ i l. pages_each page (k + 1) n i l)
  where
    either : (o : Option Page) → page k ≡ o → (j : ℕ) → j < length (pages_from page k (suc n))
        → ((i : ℕ) → i < length (pages_from page (k + 1) n) → slice_get (pages_from page (k + 1) n) i ≡ page (k + 1 + i)) → slice_get (pages_from page k (suc n)) j ≡ page (k + j)
    either None e j l more = absurd (omega (arith, ap (λ (l : List Page). length l) (pages_end page k (suc n) e)))
    either (Some p) e zero l more = ap (λ (l : List Page). slice_get l 0) (pages_more page k n p e) ∙ sym e ∙ ap page (let z : k ≡ k + 0 = omega arith in z)
    either (Some p) e (suc j) l more =
        let long : length (pages_from page k (suc n)) ≡ suc (length (pages_from page (k + 1) n)) = ap (λ (l : List Page). length l) (pages_more page k n p e) in
        let z : k + 1 + j ≡ k + suc j = omega arith in
        ap (λ (l : List Page). slice_get l (suc j)) (pages_more page k n p e) ∙ more j (omega arith) ∙ ap page z

-- where they are fewer than n, the next is missing
pub pages_stop : (page : ℕ → Option Page) (k n : ℕ) → length (pages_from page k n) < n → page (k + length (pages_from page k n)) ≡ None
pages_stop page k zero below = absurd (omega arith)
pages_stop page k (suc n) below = either (page k) refl (λ l. pages_stop page (k + 1) n l)
  where
    either : (o : Option Page) → page k ≡ o → (length (pages_from page (k + 1) n) < n → page (k + 1 + length (pages_from page (k + 1) n)) ≡ None)
        → page (k + length (pages_from page k (suc n))) ≡ None
    either None e more =
        let long : k + length (pages_from page k (suc n)) ≡ k = omega (arith, ap (λ (l : List Page). length l) (pages_end page k (suc n) e)) in
        ap page long ∙ e
    either (Some p) e more =
        let long : length (pages_from page k (suc n)) ≡ suc (length (pages_from page (k + 1) n)) = ap (λ (l : List Page). length l) (pages_more page k n p e) in
        let z : k + length (pages_from page k (suc n)) ≡ k + 1 + length (pages_from page (k + 1) n) = omega arith in
        ap page z ∙ more (omega arith)

-- n at most
pub pages_most : (page : ℕ → Option Page) (k n : ℕ) → length (pages_from page k n) ≤ n
pages_most page k zero = omega (arith, ap (λ (l : List Page). length l) (pages_zero page k))
pages_most page k (suc n) = either (page k) refl (pages_most page (k + 1) n)
  where
    either : (o : Option Page) → page k ≡ o → length (pages_from page (k + 1) n) ≤ n → length (pages_from page k (suc n)) ≤ suc n
    either None e more = omega (arith, ap (λ (l : List Page). length l) (pages_end page k (suc n) e))
    either (Some p) e more = omega (arith, ap (λ (l : List Page). length l) (pages_more page k n p e))

-- none from a missing one on
pub pages_below : (page : ℕ → Option Page) (k n t : ℕ) → k ≤ t → page t ≡ None → k + length (pages_from page k n) ≤ t
pages_below page k zero t low none = omega (arith, ap (λ (l : List Page). length l) (pages_zero page k))
pages_below page k (suc n) t low none = either (page k) refl (λ l. pages_below page (k + 1) n t l none)
  where
    either : (o : Option Page) → page k ≡ o → (k + 1 ≤ t → k + 1 + length (pages_from page (k + 1) n) ≤ t) → k + length (pages_from page k (suc n)) ≤ t
    either None e more = omega (arith, ap (λ (l : List Page). length l) (pages_end page k (suc n) e))
    either (Some p) e more =
        let apart : k ≢ t = λ is. none-some p (sym none ∙ ap page (sym is) ∙ e) in
        let rest : k + 1 + length (pages_from page (k + 1) n) ≤ t = more (omega arith) in
        omega (arith, rest, ap (λ (l : List Page). length l) (pages_more page k n p e))

-- one page has other bytes
pub pages_set : (page other : ℕ → Option Page) (k n t : ℕ) (p q : Page) → k ≤ t → page t ≡ Some p → other t ≡ Some q → ((j : ℕ) → j ≢ t → other j ≡ page j)
    → pages_from other k n ≡ slice_set (pages_from page k n) (t - k) q
pages_set page other k zero t p q low old new same = pages_zero other k ∙ ap (λ (l : List Page). slice_set l (t - k) q) (sym (pages_zero page k))
pages_set page other k (suc n) t p q low old new same = here (cases_eq k t) (λ l. pages_set page other (k + 1) n t p q l old new same)
  where
    later : k ≢ t → (o : Option Page) → page k ≡ o → (k + 1 ≤ t → pages_from other (k + 1) n ≡ slice_set (pages_from page (k + 1) n) (t - (k + 1)) q) → pages_from other k (suc n) ≡ slice_set (pages_from page k (suc n)) (t - k) q
    later apart None e more =
        pages_end other k (suc n) (same k apart ∙ e) ∙ ap (λ (l : List Page). slice_set l (t - k) q) (sym (pages_end page k (suc n) e))
    later apart (Some r) e more =
        let z : t - k ≡ suc (t - (k + 1)) = omega arith in
        pages_more other k n r (same k apart ∙ e) ∙ ap (λ (l : List Page). r ∷ l) (more (omega arith))
        ∙ ap (λ (i : ℕ). slice_set (r ∷ pages_from page (k + 1) n) i q) (sym z)
        ∙ ap (λ (l : List Page). slice_set l (t - k) q) (sym (pages_more page k n r e))

    here : (k ≡ t) ⊎ (k ≢ t) → (k + 1 ≤ t → pages_from other (k + 1) n ≡ slice_set (pages_from page (k + 1) n) (t - (k + 1)) q) → pages_from other k (suc n) ≡ slice_set (pages_from page k (suc n)) (t - k) q
    here (inl is) more =
        let z : 0 ≡ t - k = omega arith in
        pages_more other k n q (ap other is ∙ new)
        ∙ ap (λ (l : List Page). q ∷ l) (pages_same page other (k + 1) n (λ j l m. same j (omega arith)))
        ∙ ap (λ (i : ℕ). slice_set (p ∷ pages_from page (k + 1) n) i q) z
        ∙ ap (λ (l : List Page). slice_set l (t - k) q) (sym (pages_more page k n p (ap page is ∙ old)))
    here (inr apart) more = later apart (page k) refl more

-- a page is missing now
pub pages_cut : (page other : ℕ → Option Page) (k n t : ℕ) → k ≤ t → other t ≡ None → ((j : ℕ) → j < t → other j ≡ page j)
    → pages_from other k n ≡ take (t - k) (pages_from page k n)
pages_cut page other k zero t low none same = pages_zero other k ∙ sym (take-nil (t - k)) ∙ ap (λ (l : List Page). take (t - k) l) (sym (pages_zero page k))
pages_cut page other k (suc n) t low none same = here (cases_eq k t) (λ l. pages_cut page other (k + 1) n t l none same)
  where
    later : k ≢ t → (o : Option Page) → page k ≡ o → (k + 1 ≤ t → pages_from other (k + 1) n ≡ take (t - (k + 1)) (pages_from page (k + 1) n)) → pages_from other k (suc n) ≡ take (t - k) (pages_from page k (suc n))
    later apart None e more =
        pages_end other k (suc n) (same k (omega arith) ∙ e) ∙ sym (take-nil (t - k)) ∙ ap (λ (l : List Page). take (t - k) l) (sym (pages_end page k (suc n) e))
    later apart (Some r) e more =
        let z : t - k ≡ suc (t - (k + 1)) = omega arith in
        pages_more other k n r (same k (omega arith) ∙ e) ∙ ap (λ (l : List Page). r ∷ l) (more (omega arith))
        ∙ ap (λ (i : ℕ). take i (r ∷ pages_from page (k + 1) n)) (sym z)
        ∙ ap (λ (l : List Page). take (t - k) l) (sym (pages_more page k n r e))

    here : (k ≡ t) ⊎ (k ≢ t) → (k + 1 ≤ t → pages_from other (k + 1) n ≡ take (t - (k + 1)) (pages_from page (k + 1) n)) → pages_from other k (suc n) ≡ take (t - k) (pages_from page k (suc n))
    here (inl is) more =
        let z : 0 ≡ t - k = omega arith in
        pages_end other k (suc n) (ap other is ∙ none) ∙ ap (λ (i : ℕ). take i (pages_from page k (suc n))) z
    here (inr apart) more = later apart (page k) refl more

-- one page more at the end, and none after it
pub pages_grow : (page other : ℕ → Option Page) (k n : ℕ) (q : Page)
    → length (pages_from page k n) < n
    → other (k + length (pages_from page k n)) ≡ Some q → other (k + length (pages_from page k n) + 1) ≡ None
    → ((j : ℕ) → j < k + length (pages_from page k n) → other j ≡ page j)
    → pages_from other k n ≡ pages_from page k n ++ q ∷ []
pages_grow page other k zero q below new none same = absurd (omega arith)
pages_grow page other k (suc n) q below new none same = at (page k) refl (pages_grow page other (k + 1) n q)
  where
    at : (o : Option Page) → page k ≡ o
        → (length (pages_from page (k + 1) n) < n → other (k + 1 + length (pages_from page (k + 1) n)) ≡ Some q → other (k + 1 + length (pages_from page (k + 1) n) + 1) ≡ None
        → ((j : ℕ) → j < k + 1 + length (pages_from page (k + 1) n) → other j ≡ page j) → pages_from other (k + 1) n ≡ pages_from page (k + 1) n ++ q ∷ [])
        → pages_from other k (suc n) ≡ pages_from page k (suc n) ++ q ∷ []
    at None e more =
        let empty = pages_end page k (suc n) e in
        let z : k + length (pages_from page k (suc n)) ≡ k = omega (arith, ap (λ (l : List Page). length l) empty) in
        let y : k + length (pages_from page k (suc n)) + 1 ≡ k + 1 = omega (arith, z) in
        pages_more other k n q (ap other (sym z) ∙ new)
        ∙ ap (λ (l : List Page). q ∷ l) (pages_end other (k + 1) n (ap other (sym y) ∙ none))
        ∙ ap (λ (l : List Page). l ++ q ∷ []) (sym empty)
    at (Some r) e more =
        let one = pages_more page k n r e in
        let long : length (pages_from page k (suc n)) ≡ suc (length (pages_from page (k + 1) n)) = ap (λ (l : List Page). length l) one in
        let z : k + length (pages_from page k (suc n)) ≡ k + 1 + length (pages_from page (k + 1) n) = omega arith in
        let y : k + length (pages_from page k (suc n)) + 1 ≡ k + 1 + length (pages_from page (k + 1) n) + 1 = omega arith in
        pages_more other k n r (same k (omega arith) ∙ e)
        ∙ ap (λ (l : List Page). r ∷ l) (more (omega arith) (ap other (sym z) ∙ new) (ap other (sym y) ∙ none) (λ j l. same j (omega arith)))
        ∙ ap (λ (l : List Page). l ++ q ∷ []) (sym one)

-- the same pages as far as they go, and at the next
pub pages_stay : (page other : ℕ → Option Page) (k n : ℕ) → ((j : ℕ) → k ≤ j → j ≤ k + length (pages_from page k n) → j < k + n → other j ≡ page j)
    → pages_from other k n ≡ pages_from page k n
pages_stay page other k zero same = pages_zero other k ∙ sym (pages_zero page k)
pages_stay page other k (suc n) same = at (page k) refl (pages_stay page other (k + 1) n)
  where
    at : (o : Option Page) → page k ≡ o → (((j : ℕ) → k + 1 ≤ j → j ≤ k + 1 + length (pages_from page (k + 1) n) → j < k + 1 + n → other j ≡ page j) → pages_from other (k + 1) n ≡ pages_from page (k + 1) n)
        → pages_from other k (suc n) ≡ pages_from page k (suc n)
    at None e more = pages_end other k (suc n) (same k (omega arith) (omega arith) (omega arith) ∙ e) ∙ sym (pages_end page k (suc n) e)
    at (Some r) e more =
        let one = pages_more page k n r e in
        let long : length (pages_from page k (suc n)) ≡ suc (length (pages_from page (k + 1) n)) = ap (λ (l : List Page). length l) one in
        pages_more other k n r (same k (omega arith) (omega arith) (omega arith) ∙ e) ∙ ap (λ (l : List Page). r ∷ l) (more (λ j l m o. same j (omega arith) (omega arith) (omega arith))) ∙ sym one

-- All pages, from page 0 on.

pub set_page : (page other : ℕ → Option Page) (n t : ℕ) (p q : Page) → page t ≡ Some p → other t ≡ Some q → ((j : ℕ) → j ≢ t → other j ≡ page j)
    → pages_from other 0 n ≡ slice_set (pages_from page 0 n) t q
set_page page other n t p q old new same =
    let z : t - 0 ≡ t = omega arith in
    pages_set page other 0 n t p q (omega arith) old new same ∙ ap (λ (i : ℕ). slice_set (pages_from page 0 n) i q) z

pub cut_pages : (page other : ℕ → Option Page) (n t : ℕ) → other t ≡ None → ((j : ℕ) → j < t → other j ≡ page j) → pages_from other 0 n ≡ take t (pages_from page 0 n)
cut_pages page other n t none same =
    let z : t - 0 ≡ t = omega arith in
    pages_cut page other 0 n t (omega arith) none same ∙ ap (λ (i : ℕ). take i (pages_from page 0 n)) z

pub grow_pages : (page other : ℕ → Option Page) (n m : ℕ) (q : Page) → length (pages_from page 0 n) ≡ m → m < n → other m ≡ Some q → other (m + 1) ≡ None
    → ((j : ℕ) → j < m → other j ≡ page j) → pages_from other 0 n ≡ pages_from page 0 n ++ q ∷ []
grow_pages page other n m q size below new none same =
    let z : m ≡ 0 + length (pages_from page 0 n) = omega arith in
    let y : m + 1 ≡ 0 + length (pages_from page 0 n) + 1 = omega arith in
    pages_grow page other 0 n q (omega arith) (ap other (sym z) ∙ new) (ap other (sym y) ∙ none) (λ j l. same j (omega arith))

-- what holds of each page that is there holds of all
pub pages_all : (P : Page → Type 0) (page : ℕ → Option Page) → ((j : ℕ) (p : Page) → page j ≡ Some p → P p) → (k n : ℕ) → AllByRecursion P (pages_from page k n)
pages_all P page each k zero = subst (λ (l : List Page). AllByRecursion P l) (sym (pages_zero page k)) tt
pages_all P page each k (suc n) = at (page k) refl (pages_all P page each (k + 1) n)
  where
    at : (o : Option Page) → page k ≡ o → AllByRecursion P (pages_from page (k + 1) n) → AllByRecursion P (pages_from page k (suc n))
    at None e more = subst (λ (l : List Page). AllByRecursion P l) (sym (pages_end page k (suc n) e)) tt
    at (Some p) e more = subst (λ (l : List Page). AllByRecursion P l) (sym (pages_more page k n p e)) (each k p e, more)
