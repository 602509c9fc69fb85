-- What a call on the pages of the projection says of the whole memory.
use Rattle.std.specs.Prelude.{◌≡◌, ℕ, ◌+◌, ◌-◌, ◌*◌, List, ◌++◌, take, drop, Result, Ok, Err, OnOk, IfErr, is_ok, if◌then◌else◌}
use Rattle.flat_mem.specs.declared.error.TableError.{TableError}
use Rattle.record_table.specs.Edits.{IfMem}
use Rattle.std.proofs.Common.{sym, ap, subst, ◌∙◌, rules, arith}
use Rattle.std.proofs.lemmas.List.{same_lists, places}
use Rattle.flat_mem.specs.declared.part.Part.{Part}
use Rattle.flat_mem.specs.Memory.{part}
use Rattle.flat_mem.specs.Part.{IsSameBeside, RevealsPart, IsKept}
use Rattle.flat_mem.specs.PartLaws.{others_kept}

pub lent : {M : Type 0} (P : M → Type 0) (m n : M) → m ≡ n → P n → P m
lent P m n same h = rw same h

pub lent_error : {M T X : Type 0} (r : Result T (TableError X)) (P : M → X → Type 0) (m n : M) → m ≡ n → IfErr r (IfMem (P n)) → IfErr r (IfMem (P m))
lent_error r P m n same h = rw same h

pub counted : {T X : Type 0} (r : Result T X) (n m : ℕ) (P Q : Type 0) → m ≡ (if is_ok r then n + 1 else n) → (m ≡ n + 1 → P → Q) → OnOk r P → OnOk r Q
counted (Ok v) n m P Q is f p = f is p
counted (Err e) n m P Q is f p = p

pub counted_down : {T X : Type 0} (r : Result T X) (n m : ℕ) (P Q : Type 0) → m ≡ (if is_ok r then n - 1 else n) → (m ≡ n - 1 → P → Q) → OnOk r P → OnOk r Q
counted_down (Ok v) n m P Q is f p = f is p
counted_down (Err e) n m P Q is f p = p

-- a list is its prefix, its middle and its back
cut : (b : List ℕ) (at len : ℕ) → b ≡ take at b ++ (part b at len ++ drop (at + len) b)
cut b at len = same_lists _ _ (search (rules, places)) (λ k d h. grind (arith, places))

same_whole : (first pages : ℕ) (w v : List ℕ) → IsSameBeside first pages w v → part v (512 * first) (512 * pages) ≡ part w (512 * first) (512 * pages) → v ≡ w
same_whole first pages w v beside middle =
    let at = 512 * first in
    let len = 512 * pages in
    cut v at len
    ∙ ap (λ (x : List ℕ). x ++ (part v at len ++ drop (at + len) v)) beside.prefix
    ∙ ap (λ (x : List ℕ). take at w ++ (x ++ drop (at + len) v)) middle
    ∙ ap (λ (x : List ℕ). take at w ++ (part w at len ++ x)) beside.back
    ∙ sym (cut w at len)

module _ {M X : Type 0} (reveals : M → List ℕ → Type 0) (beside : M → M → Type 0) (once : (m : M) (w v : List ℕ) → reveals m w → reveals m v → w ≡ v) where
  -- where a part reveals what it revealed, so does the memory
  pub whole_unchanged : (p q : Part M X) (w : List ℕ) → IsKept reveals beside p q → reveals p.mem w → RevealsPart reveals q (part w (512 * p.first) (512 * p.pages)) → reveals q.mem w
  whole_unchanged p q w kept before revealed =
      let others = others_kept reveals beside once p q w revealed.whole kept before revealed.revealed in
      let middle : part revealed.whole (512 * p.first) (512 * p.pages) ≡ part w (512 * p.first) (512 * p.pages) = cc (revealed.is, kept.first, kept.pages) in
      subst (λ (x : List ℕ). reveals q.mem x) (same_whole p.first p.pages w revealed.whole others middle) revealed.revealed
