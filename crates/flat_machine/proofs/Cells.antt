-- Files whose pages change stay files.
use Rattle.std.proofs.Common.{◌≡◌, ℕ, zero, suc, ◌+◌, ◌-◌, ◌<◌, Bool, true, false, cond, List, [], ◌∷◌, ◌++◌, map, length, take, replicate, refl, ◌∙◌, ap, arith, length-set}
use Rattle.std.specs.Prelude.{slice_set, slice_index_or, if◌then◌else◌, Some, None}
use Rattle.std.specs.List.{AllByRecursion, enumerate_from}
use Rattle.std.proofs.lemmas.List.{length-take, length-append, length-replicate}
use Rattle.flat_machine.specs.File.{File, Page, size, zero_page, any_page, byte}
use Rattle.flat_machine.specs.Space.{Space}
use Rattle.flat_machine.specs.Machine.{IsFile, IsByteOrAny}
use Rattle.flat_machine.specs.At.{Spot}
use Rattle.flat_machine.specs.Next.{resized, with_byte, killed_file}

module _ {X : Type 0} (P : X → Type 0) where
  every_replicate : (x : X) → P x → (n : ℕ) → AllByRecursion P (replicate n x)
  every_replicate x h zero = tt
  every_replicate x h (suc n) = (h, every_replicate x h n)

  every_take : (n : ℕ) (xs : List X) → AllByRecursion P xs → AllByRecursion P (take n xs)
  every_take zero xs h = tt
  every_take (suc n) [] h = tt
  every_take (suc n) (x ∷ xs) h = (h.0, every_take n xs h.1)

  pub every_append : (xs ys : List X) → AllByRecursion P xs → AllByRecursion P ys → AllByRecursion P (xs ++ ys)
  every_append [] ys h k = k
  every_append (x ∷ xs) ys h k = (h.0, every_append xs ys h.1 k)

  every_set : (xs : List X) (i : ℕ) (x : X) → P x → AllByRecursion P xs → AllByRecursion P (slice_set xs i x)
  every_set [] i x p h = tt
  every_set (y ∷ ys) zero x p h = (p, h.1)
  every_set (y ∷ ys) (suc i) x p h = (h.0, every_set ys i x p h.1)

  -- the element at a place is changed
  every_changed : (c : X → X) → ((x : X) → P x → P (c x)) → (xs : List X) (i : ℕ) (d : X) → AllByRecursion P xs → AllByRecursion P (slice_set xs i (c (slice_index_or xs i d)))
  every_changed c k [] i d h = tt
  every_changed c k (x ∷ xs) zero d h = (k x h.0, h.1)
  every_changed c k (x ∷ xs) (suc i) d h = (h.0, every_changed c k xs i d h.1)

-- A page of zeros, and one of any.

zero_page_long : length zero_page ≡ 512
unfolding zero_page
zero_page_long = refl

zero_page_formed : AllByRecursion IsByteOrAny zero_page
unfolding zero_page
zero_page_formed = every_replicate IsByteOrAny (Some 0) (omega arith) 512

any_page_long : length any_page ≡ 512
unfolding any_page
any_page_long = refl

any_page_formed : AllByRecursion IsByteOrAny any_page
unfolding any_page
any_page_formed = every_replicate IsByteOrAny None tt 512

pub zero_file : (id kind n : ℕ) → kind < 65536 → IsFile (record { id = id; kind = kind; permanent = false; immutable = false; pages = replicate n zero_page })
zero_file id kind n fits = record {
  kind_fits = fits;
  whole_pages = every_replicate (λ page. length page ≡ 512) zero_page zero_page_long n;
  cells = every_replicate (AllByRecursion IsByteOrAny) zero_page zero_page_formed n;
}

-- Another size.

pub resized_size : (n : ℕ) (f : File) → size (resized n f) ≡ n
resized_size n f =
    let k : ℕ = n - size f in
    omega (arith, length-append (take n f.pages) (replicate k zero_page), length-take n f.pages, length-replicate k zero_page)

pub resized_file : (n : ℕ) (f : File) → IsFile f → IsFile (resized n f)
resized_file n f h = record {
  kind_fits = h.kind_fits;
  whole_pages = every_append (λ page. length page ≡ 512) (take n f.pages) (replicate (n - size f) zero_page)
      (every_take (λ page. length page ≡ 512) n f.pages h.whole_pages) (every_replicate (λ page. length page ≡ 512) zero_page zero_page_long (n - size f));
  cells = every_append (AllByRecursion IsByteOrAny) (take n f.pages) (replicate (n - size f) zero_page)
      (every_take (AllByRecursion IsByteOrAny) n f.pages h.cells) (every_replicate (AllByRecursion IsByteOrAny) zero_page zero_page_formed (n - size f));
}

-- A byte.

pub byte_size : (spot : Spot) (b : ℕ) (f : File) → size (with_byte spot b f) ≡ size f
byte_size spot b f = length-set f.pages spot.page _

pub byte_file : (spot : Spot) (b : ℕ) (f : File) → b < 256 → IsFile f → IsFile (with_byte spot b f)
byte_file spot b f fits h = record {
  kind_fits = h.kind_fits;
  whole_pages = every_changed (λ page. length page ≡ 512) (λ page. slice_set page spot.offset (byte b)) (λ page e. length-set page spot.offset (byte b) ∙ e) f.pages spot.page [] h.whole_pages;
  cells = every_changed (AllByRecursion IsByteOrAny) (λ page. slice_set page spot.offset (byte b)) (λ page e. every_set IsByteOrAny page spot.offset (byte b) fits e) f.pages spot.page [] h.cells;
}

-- Pages that are any.

any_size : (test : ℕ → Bool) (n : ℕ) (ps : List Page) → length (map (λ e. if test e.0 then any_page else e.1) (enumerate_from n ps)) ≡ length ps
any_size test n [] = refl
any_size test n (p ∷ ps) = ap suc (any_size test (n + 1) ps)

every_any : (P : Page → Type 0) → P any_page → (test : ℕ → Bool) (n : ℕ) (ps : List Page) → AllByRecursion P ps
    → AllByRecursion P (map (λ e. if test e.0 then any_page else e.1) (enumerate_from n ps))
every_any P a test n [] h = tt
every_any P a test n (p ∷ ps) h = (either (test n), every_any P a test (n + 1) ps h.1)
  where
    either : (b : Bool) → P (cond b any_page p)
    either true = a
    either false = h.0

pub killed_size : (ss : List Space) (range : Space) (f : File) → size (killed_file ss range f) ≡ size f
killed_size ss range f = any_size _ 0 f.pages

pub killed_is_file : (ss : List Space) (range : Space) (f : File) → IsFile f → IsFile (killed_file ss range f)
killed_is_file ss range f h = record {
  kind_fits = h.kind_fits;
  whole_pages = every_any _ any_page_long _ 0 f.pages h.whole_pages;
  cells = every_any _ any_page_formed _ 0 f.pages h.cells;
}
