-- Laws of a part of a memory.
use Rattle.std.specs.Prelude.{◌≡◌, ℕ, ◌*◌, ◌+◌, ◌<◌, ◌≤◌, Bool, List, ◌++◌, length, take, drop, if◌then◌else◌}
use Rattle.std.proofs.Common.{inl, inr, refl, sym, ◌∙◌, ap, subst, arith, rules}
use Rattle.std.proofs.lemmas.List.{same_lists, places}
use Rattle.std.proofs.lemmas.Bool.{le-leb}
use Rattle.std.proofs.lemmas.Bool.Decides.{leb_tells}
use Rattle.flat_mem.specs.Memory.{part, overwritten}
use Rattle.flat_mem.specs.Parts.{length-part, take-overwritten, drop-overwritten}
use Rattle.flat_mem.specs.Part.{IsSameBeside, part_size, RevealsPart, IsKept, IsLooked}
use Rattle.flat_mem.specs.declared.part.Part.{Part}

pub same_beside_through : (f m g n : ℕ) (w v u : List ℕ) → f ≡ g → m ≡ n → IsSameBeside f m w v → IsSameBeside g n v u → IsSameBeside f m w u
same_beside_through f m g n w v u e d h k = record {
  prefix = rw e (k.prefix ∙ (rw e at h.prefix));
  back = rw (e, d) (k.back ∙ (rw (e, d) at h.back));
}

-- a piece that lies within the pages
pub same_beside_written : (first pages at : ℕ) (w piece : List ℕ) → at + length piece ≤ 512 * pages → 512 * first + 512 * pages ≤ length w → IsSameBeside first pages w (overwritten w (512 * first + at) piece)
same_beside_written first pages at w piece inside fits = record {
  prefix = take-overwritten w piece (512 * first + at) (512 * first) (omega arith) (omega (arith, inside));
  back = drop-overwritten w piece (512 * first + at) (512 * first + 512 * pages) (omega (arith, inside)) (omega (arith, inside));
}

-- a list is its prefix, its middle and its back
cut : (b : List ℕ) (at len : ℕ) → b ≡ take at b ++ (part b at len ++ drop (at + len) b)
cut b at len = same_lists _ _ (search (rules, places)) (λ k d h. grind (arith, places))

-- what is the same beside the pages and within them is the same
pub same_whole : (first pages : ℕ) (w v : List ℕ) → IsSameBeside first pages w v → part v (512 * first) (512 * pages) ≡ part w (512 * first) (512 * pages) → v ≡ w
same_whole first pages w v beside middle =
    let at = 512 * first in
    let len = 512 * pages in
    cut v at len
    ∙ ap (λ (x : List ℕ). x ++ (part v at len ++ drop (at + len) v)) beside.prefix
    ∙ ap (λ (x : List ℕ). take at w ++ (x ++ drop (at + len) v)) middle
    ∙ ap (λ (x : List ℕ). take at w ++ (part w at len ++ x)) beside.back
    ∙ sym (cut w at len)

pub part_size_is : (whole first pages : ℕ) → 512 * first + 512 * pages ≤ whole → part_size whole first pages ≡ 512 * pages
part_size_is whole first pages fits = ap (λ (t : Bool). if t then 512 * pages else 0) (le-leb (512 * first + 512 * pages) whole fits)

-- where some byte lies within the pages, they lie within the whole
pub part_inside : (whole first pages n : ℕ) → 0 < n → n ≤ part_size whole first pages → (512 * first + 512 * pages ≤ whole) × (n ≤ 512 * pages)
part_inside whole first pages n some below = elim (leb_tells (512 * first + 512 * pages) whole) [
  | inl (test, fits) ↦ (fits, rw (part_size_is whole first pages fits) at below)
  | inr (test, _) ↦
      let none : part_size whole first pages ≡ 0 = ap (λ (t : Bool). if t then 512 * pages else 0) test in
      absurd (omega (arith, some, below, none))
]

module _ {M X : Type 0} (reveals : M → List ℕ → Type 0) where
  pub revealed_part_once : ((m : M) (w v : List ℕ) → reveals m w → reveals m v → w ≡ v) → (p : Part M X) (b c : List ℕ) → RevealsPart reveals p b → RevealsPart reveals p c → b ≡ c
  revealed_part_once once p b c h k = h.is ∙ ap (λ (x : List ℕ). part x (512 * p.first) (512 * p.pages)) (once p.mem h.whole k.whole h.revealed k.revealed) ∙ sym k.is

  pub part_length : (size : M → ℕ) → ((m : M) (w : List ℕ) → reveals m w → length w ≡ size m) → (p : Part M X) (b : List ℕ) → RevealsPart reveals p b → length b ≡ part_size (size p.mem) p.first p.pages
  part_length size long p b h =
      let fits : 512 * p.first + 512 * p.pages ≤ size p.mem = omega (arith, long p.mem h.whole h.revealed, h.inside) in
      ap length h.is ∙ length-part h.whole (512 * p.first) (512 * p.pages) h.inside ∙ sym (part_size_is (size p.mem) p.first p.pages fits)

  module _ (beside : M → M → Type 0) where
    pub same_part_size : (size : M → ℕ) (a b : Part M X) → size a.mem ≡ size b.mem → IsKept reveals beside a b → part_size (size a.mem) a.first a.pages ≡ part_size (size b.mem) b.first b.pages
    same_part_size size a b same h = rw (same, h.first, h.pages) refl

    pub kept_itself : (p : Part M X) → beside p.mem p.mem → IsKept reveals beside p p
    kept_itself p same = record { mem = same; first = refl; pages = refl; others = λ w revealed. (w, revealed, record { prefix = refl; back = refl }) }

    pub kept_through : (a b c : Part M X) → beside a.mem c.mem → IsKept reveals beside a b → IsKept reveals beside b c → IsKept reveals beside a c
    kept_through a b c through h k = record {
      mem = through;
      first = h.first ∙ k.first;
      pages = h.pages ∙ k.pages;
      others = λ w revealed.
          let mid = h.others w revealed in
          let end = k.others mid.0 mid.1 in
          (end.0, end.1, same_beside_through a.first a.pages b.first b.pages w mid.0 end.0 h.first h.pages mid.2 end.2);
    }

    -- what the memory reveals afterwards has the other pages of what it revealed before
    pub others_kept : ((m : M) (w v : List ℕ) → reveals m w → reveals m v → w ≡ v) → (a b : Part M X) (w v : List ℕ) → IsKept reveals beside a b → reveals a.mem w → reveals b.mem v → IsSameBeside a.first a.pages w v
    others_kept once a b w v kept before after =
        let revealed = kept.others w before in
        rw (once b.mem v revealed.0 after revealed.1) revealed.2

    -- where the part reveals what it revealed, so does the memory
    pub whole_unchanged : ((m : M) (w v : List ℕ) → reveals m w → reveals m v → w ≡ v) → (p q : Part M X) (w : List ℕ) → IsKept reveals beside p q → reveals p.mem w → RevealsPart reveals q (part w (512 * p.first) (512 * p.pages)) → reveals q.mem w
    whole_unchanged once p q w kept before revealed =
        let others = others_kept once p q w revealed.whole kept before revealed.revealed in
        let middle : part revealed.whole (512 * p.first) (512 * p.pages) ≡ part w (512 * p.first) (512 * p.pages) = cc (revealed.is, kept.first, kept.pages) in
        subst (λ (x : List ℕ). reveals q.mem x) (same_whole p.first p.pages w revealed.whole others middle) revealed.revealed

    module _ (only_reads : M → M → Type 0) where
      pub looked_itself : (p : Part M X) → beside p.mem p.mem → only_reads p.mem p.mem → IsLooked reveals beside only_reads p p
      looked_itself p same looked = record { kept = kept_itself p same; mem = looked }

      pub looked_through : (a b c : Part M X) → beside a.mem c.mem → only_reads a.mem c.mem → IsLooked reveals beside only_reads a b → IsLooked reveals beside only_reads b c → IsLooked reveals beside only_reads a c
      looked_through a b c through looked h k = record { kept = kept_through a b c through h.kept k.kept; mem = looked }

      -- the part reveals what it revealed
      pub looked_revealed : ((m n : M) (w : List ℕ) → only_reads m n → reveals m w → reveals n w) → (a b : Part M X) (bytes : List ℕ) → IsLooked reveals beside only_reads a b → RevealsPart reveals a bytes → RevealsPart reveals b bytes
      looked_revealed still a b bytes h revealed = record {
        whole = revealed.whole;
        revealed = still a.mem b.mem revealed.whole h.mem revealed.revealed;
        inside = rw (← h.kept.first, ← h.kept.pages) revealed.inside;
        is = rw (← h.kept.first, ← h.kept.pages) revealed.is;
      }
