-- Pages of 512 bytes, joined and cut apart, and the tables that mean some spaces.
use Rattle.std.proofs.Common.{◌≡◌, ℕ, zero, suc, ◌+◌, ◌*◌, ◌<◌, Bool, true, false, List, [], ◌∷◌, ◌++◌, length, take, drop, Some, None, refl, sym, ◌∙◌, ap, arith, length-append, length-drop, drop-drop, take_at, drop_at, take-append-drop}
use Rattle.std.specs.Prelude.{slice_get, if◌then◌else◌, nat_eq}
use Rattle.std.specs.Cmp.Lexicographic.{pointwise, pointwise_decides, bytes_decides}
use Rattle.std.specs.List.{concat}
use Rattle.std.proofs.lemmas.Option.{same_Some, none-some}
use Rattle.flat_mem.specs.Memory.{part}
use Rattle.flat_machine.specs.declared.space.Space.{Space}
use Rattle.running_words.specs.Running.{exactly}

-- each is a page
abbrev pub AreWhole : List (List ℕ) → Type 0
AreWhole pages = (k : ℕ) (p : List ℕ) → slice_get pages k ≡ Some p → length p ≡ 512

pub joined_length : (pages : List (List ℕ)) → AreWhole pages → length (concat pages) ≡ 512 * length pages
joined_length [] whole = refl
joined_length (p ∷ ps) whole =
    let a : length (p ++ concat ps) ≡ length p + length (concat ps) = length-append p (concat ps) in
    let b : length p ≡ 512 = whole zero p refl in
    let c : length (concat ps) ≡ 512 * length ps = joined_length ps (λ k q here. whole (suc k) q here) in
    omega (arith, a, b, c)

-- each page is where it was put
pub part_joined : (pages : List (List ℕ)) → AreWhole pages → (k : ℕ) (p : List ℕ) → slice_get pages k ≡ Some p → part (concat pages) (512 * k) 512 ≡ p
part_joined [] whole k p here = absurd (none-some p here)
part_joined (q ∷ ps) whole zero p here = take_at q (concat ps) 512 (whole zero q refl) ∙ same_Some q p here
part_joined (q ∷ ps) whole (suc k) p here =
    let z : 512 + 512 * k ≡ 512 * suc k = omega arith in
    ap (λ (n : ℕ). take 512 (drop n (q ++ concat ps))) (sym z)
    ∙ ap (λ (l : List ℕ). take 512 l) (sym (drop-drop (512 * k) 512 (q ++ concat ps)) ∙ ap (λ (l : List ℕ). drop (512 * k) l) (drop_at q (concat ps) 512 (whole zero q refl)))
    ∙ part_joined ps (λ j r there. whole (suc j) r there) k p here

-- so many pages of bytes
abbrev pub cut : ℕ → List ℕ → List (List ℕ)
cut zero b = []
cut (suc n) b = take 512 b ∷ cut n (drop 512 b)

pub joined_cut : (n : ℕ) (b : List ℕ) → length b ≡ 512 * n → concat (cut n b) ≡ b
joined_cut zero [] long = refl
joined_cut zero (x ∷ b) long = absurd (omega (arith, long))
joined_cut (suc n) b long =
    let rest : length (drop 512 b) ≡ 512 * n = omega (arith, long, length-drop 512 b) in
    ap (λ (l : List ℕ). take 512 b ++ l) (joined_cut n (drop 512 b) rest) ∙ take-append-drop 512 b

pub cut_length : (n : ℕ) (b : List ℕ) → length (cut n b) ≡ n
cut_length zero b = refl
cut_length (suc n) b = ap suc (cut_length n (drop 512 b))

pub cut_at : (n : ℕ) (b : List ℕ) (k : ℕ) → k < n → slice_get (cut n b) k ≡ Some (part b (512 * k) 512)
cut_at zero b k below = absurd (omega (arith, below))
cut_at (suc n) b zero below = refl
cut_at (suc n) b (suc k) below =
    let z : 512 + 512 * k ≡ 512 * suc k = omega arith in
    cut_at n (drop 512 b) k (omega (arith, below)) ∙ ap (λ (l : List ℕ). Some (take 512 l)) (drop-drop (512 * k) 512 b ∙ ap (λ (m : ℕ). drop m b) z)

-- ---- What the pages mean.

pub only_pages : (pages others : List (List ℕ)) (a b : List Space) → exactly pages a others ≡ Some b → others ≡ pages
only_pages pages others a b revealed = either (pointwise (pointwise nat_eq) others pages) refl revealed
  where
    either : (t : Bool) → pointwise (pointwise nat_eq) others pages ≡ t → (if t then Some a else None) ≡ Some b → others ≡ pages
    either true e h = (pointwise_decides bytes_decides others pages).0 e
    either false e h = absurd (none-some b h)

pub own_pages : (pages : List (List ℕ)) (a : List Space) → exactly pages a pages ≡ Some a
own_pages pages a =
    let e : pointwise (pointwise nat_eq) pages pages ≡ true = (pointwise_decides bytes_decides pages pages).1 refl in
    ap (λ (t : Bool). if t then Some a else None) e
