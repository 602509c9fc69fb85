-- Files changed one after the other, and one file more among others.
use Rattle.std.proofs.Common.{◌≡◌, ◌≢◌, ℕ, Bool, true, false, not, cond, List, [], ◌∷◌, map, filter, Option, Some, None, refl, sym, ◌∙◌, ap, arith, eqb}
use Rattle.std.specs.Prelude.{nat_lt, find, ◌==◌, if◌then◌else◌}
use Rattle.std.proofs.lemmas.Bool.{eqb-true, eqb-false, eq-eqb, ne_eqb, true≢false}
use Rattle.std.proofs.lemmas.Option.{none-some}
use Rattle.flat_machine.specs.File.{File, file_at, put_file}
use Rattle.flat_machine.specs.Next.{change_file, without_file}

-- two changes of one file
pub change_twice : (id : ℕ) (g f : File → File) → ((x : File) → (f x).id ≡ x.id) → (fs : List File) → change_file id g (change_file id f fs) ≡ change_file id (λ x. g (f x)) fs
change_twice id g f ids [] = refl
change_twice id g f ids (x ∷ xs) =
    let rest = change_twice id g f ids xs in
    λ i. one (x.id == id) refl i ∷ rest i
  where
    one : (b : Bool) → x.id == id ≡ b
        → (if (if x.id == id then f x else x).id == id then g (if x.id == id then f x else x) else (if x.id == id then f x else x)) ≡ (if x.id == id then g (f x) else x)
    one true e =
        ap (λ (b : Bool). if (if b then f x else x).id == id then g (if b then f x else x) else (if b then f x else x)) e
        ∙ ap (λ (n : ℕ). if n == id then g (f x) else f x) (ids x)
        ∙ ap (λ (b : Bool). if b then g (f x) else f x) e
        ∙ sym (ap (λ (b : Bool). if b then g (f x) else x) e)
    one false e =
        ap (λ (b : Bool). if (if b then f x else x).id == id then g (if b then f x else x) else (if b then f x else x)) e
        ∙ ap (λ (b : Bool). if b then g x else x) e
        ∙ sym (ap (λ (b : Bool). if b then g (f x) else x) e)

-- no file is changed that is not there
change_none : (id : ℕ) (g : File → File) (fs : List File) → file_at fs id ≡ None → change_file id g fs ≡ fs
change_none id g [] none = refl
change_none id g (x ∷ xs) none = either (x.id == id) none (change_none id g xs)
  where
    either : (b : Bool) → cond b (Some x) (file_at xs id) ≡ None → (file_at xs id ≡ None → change_file id g xs ≡ xs) → (if b then g x else x) ∷ change_file id g xs ≡ x ∷ xs
    either true q f = absurd (none-some x (sym q))
    either false q f = ap (λ (rest : List File). x ∷ rest) (f q)

without_none : (id : ℕ) (fs : List File) → file_at fs id ≡ None → without_file id fs ≡ fs
without_none id [] none = refl
without_none id (x ∷ xs) none = either (x.id == id) none (without_none id xs)
  where
    either : (b : Bool) → cond b (Some x) (file_at xs id) ≡ None → (file_at xs id ≡ None → without_file id xs ≡ xs) → cond (not b) (x ∷ without_file id xs) (without_file id xs) ≡ x ∷ xs
    either true q f = absurd (none-some x (sym q))
    either false q f = ap (λ (rest : List File). x ∷ rest) (f q)

-- One file more.

module _ (f : File) (id : ℕ) (named : f.id ≡ id) where
  is_it : f.id == id ≡ true
  is_it = eq-eqb f.id id named

  apart : (x : File) → x.id == id ≡ false → f.id == x.id ≡ false
  apart x e = ne_eqb f.id x.id (λ q. eqb-false x.id id e (sym q ∙ named))

  pub change_put : (g : File → File) → ((x : File) → (g x).id ≡ x.id) → (fs : List File) → file_at fs id ≡ None → change_file id g (put_file f fs) ≡ put_file (g f) fs
  change_put g ids [] none = ap (λ (b : Bool). (if b then g f else f) ∷ []) is_it
  change_put g ids (x ∷ xs) none = either (x.id == id) refl none (nat_lt f.id x.id) refl (change_put g ids xs)
    where
      either : (c : Bool) → x.id == id ≡ c → cond c (Some x) (file_at xs id) ≡ None → (b : Bool) → nat_lt f.id x.id ≡ b
          → (file_at xs id ≡ None → change_file id g (put_file f xs) ≡ put_file (g f) xs)
          → change_file id g (if b then f ∷ x ∷ xs else (if f.id == x.id then f ∷ xs else x ∷ put_file f xs)) ≡ put_file (g f) (x ∷ xs)
      either true e q b l more = absurd (none-some x (sym q))
      either false e q true l more =
          ap (λ (d : Bool). (if d then g f else f) ∷ change_file id g (x ∷ xs)) is_it
          ∙ ap (λ (rest : List File). g f ∷ rest) (change_none id g (x ∷ xs) (ap (λ (d : Bool). cond d (Some x) (file_at xs id)) e ∙ q))
          ∙ sym (ap (λ (n : ℕ). if nat_lt n x.id then g f ∷ x ∷ xs else (if (g f).id == x.id then g f ∷ xs else x ∷ put_file (g f) xs)) (ids f)
          ∙ ap (λ (d : Bool). if d then g f ∷ x ∷ xs else (if (g f).id == x.id then g f ∷ xs else x ∷ put_file (g f) xs)) l)
      either false e q false l more =
          ap (λ (d : Bool). change_file id g (if d then f ∷ xs else x ∷ put_file f xs)) (apart x e)
          ∙ ap (λ (d : Bool). (if d then g x else x) ∷ change_file id g (put_file f xs)) e
          ∙ ap (λ (rest : List File). x ∷ rest) (more q)
          ∙ sym (ap (λ (n : ℕ). if nat_lt n x.id then g f ∷ x ∷ xs else (if n == x.id then g f ∷ xs else x ∷ put_file (g f) xs)) (ids f)
          ∙ ap (λ (d : Bool). if d then g f ∷ x ∷ xs else (if f.id == x.id then g f ∷ xs else x ∷ put_file (g f) xs)) l
          ∙ ap (λ (d : Bool). if d then g f ∷ xs else x ∷ put_file (g f) xs) (apart x e))

  pub without_put : (fs : List File) → file_at fs id ≡ None → without_file id (put_file f fs) ≡ fs
  without_put [] none = ap (λ (b : Bool). cond (not b) (f ∷ []) []) is_it
  without_put (x ∷ xs) none = either (x.id == id) refl none (nat_lt f.id x.id) (without_put xs)
    where
      either : (c : Bool) → x.id == id ≡ c → cond c (Some x) (file_at xs id) ≡ None → (b : Bool)
          → (file_at xs id ≡ None → without_file id (put_file f xs) ≡ xs)
          → without_file id (if b then f ∷ x ∷ xs else (if f.id == x.id then f ∷ xs else x ∷ put_file f xs)) ≡ x ∷ xs
      either true e q b more = absurd (none-some x (sym q))
      either false e q true more =
          ap (λ (d : Bool). cond (not d) (f ∷ without_file id (x ∷ xs)) (without_file id (x ∷ xs))) is_it
          ∙ without_none id (x ∷ xs) (ap (λ (d : Bool). cond d (Some x) (file_at xs id)) e ∙ q)
      either false e q false more =
          ap (λ (d : Bool). without_file id (if d then f ∷ xs else x ∷ put_file f xs)) (apart x e)
          ∙ ap (λ (d : Bool). cond (not d) (x ∷ without_file id (put_file f xs)) (without_file id (put_file f xs))) e
          ∙ ap (λ (rest : List File). x ∷ rest) (more q)
