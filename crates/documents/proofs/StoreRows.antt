-- Stores in a row through a space that shows a run.
use Rattle.std.proofs.Common.{◌≡◌, ◌≢◌, ◌⊎◌, inl, inr, ℕ, zero, suc, ◌+◌, ◌-◌, ◌*◌, ◌/◌, ◌%◌, ◌<◌, ◌≤◌, Bool, true, false, not, ◌&&◌, cond, List, [], ◌∷◌, ◌++◌, map, filter, length, length-append, Option, Some, None, refl, sym, ◌∙◌, ap, subst, arith, eqb}
use Rattle.std.specs.Prelude.{nat_le, nat_lt, fold, ◌==◌, if◌then◌else◌}
use Rattle.std.specs.Option.{option_map_or}
use Rattle.std.specs.List.{AllByRecursion, concat, list_any}
use Rattle.std.proofs.lemmas.Bool.{eq-eqb, true≢false}
use Rattle.std.proofs.lemmas.Bool.Decides.{nat_tests}
use Rattle.flat_machine.specs.declared.call.Call.TheVariants.{Store}
use Rattle.flat_machine.specs.declared.space.Space.{Space}
use Rattle.flat_machine.specs.declared.space.FilePage.{FilePage}
use Rattle.flat_machine.specs.File.{File, file_at}
use Rattle.flat_machine.specs.Machine.{Machine}
use Rattle.flat_machine.specs.At.{Spot, spot_at, shown_at, pages_of}
use Rattle.flat_machine.specs.Refusal.{refusal}
use Rattle.flat_machine.specs.Next.{next, change, change_file, with_byte, store_byte, store_bytes, mark, mark_page, is_same_page}
use Rattle.flat_machine.proofs.StoreLemmas.{unrefused}
use Rattle.documents.specs.Pieces.{written, forced, is_in_run}
use Rattle.documents.proofs.CellLemmas.{puts_both}
use Rattle.documents.proofs.FileRows.{change_twice}
use Rattle.documents.specs.Windows.{place}
use Rattle.embedded.specs.References.{Lead}
use Rattle.documents.proofs.RunLemmas.{IsShowing, with_run, shown_here, spot_here}

-- a change that changes nothing
change_same : (id : ℕ) (fs : List File) → change_file id (λ f. f) fs ≡ fs
change_same id [] = refl
change_same id (f ∷ fs) = let rest = change_same id fs in λ i. one (f.id == id) i ∷ rest i
  where
    one : (b : Bool) → (if b then f else f) ≡ f
    one true = refl
    one false = refl

-- Marks.

filter_last : (p : FilePage → Bool) (u : FilePage) → p u ≡ false → (us : List FilePage) → filter p (us ++ u ∷ []) ≡ filter p us
filter_last p u e [] = ap (λ (b : Bool). cond b (u ∷ []) []) e
filter_last p u e (v ∷ vs) = ap (λ (rest : List FilePage). cond (p v) (v ∷ rest) rest) (filter_last p u e vs)

filter_mark : (p : FilePage → Bool) (u : FilePage) → p u ≡ false → (us : List FilePage) → filter p (mark u us) ≡ filter p us
filter_mark p u e us = either (list_any (is_same_page u) us)
  where
    either : (b : Bool) → filter p (if b then us else us ++ u ∷ []) ≡ filter p us
    either true = refl
    either false = filter_last p u e us

module _ (m n : Machine) (id page pages : ℕ) (writable : Bool) (s : IsShowing m n id page pages writable) where
  -- pages of the space
  abbrev AreOfSpace : List ℕ → Type 0
  AreOfSpace vs = AllByRecursion (λ v. ((place m pages).first ≤ v) × (v < (place m pages).first + pages)) vs

  in_run : (j : ℕ) → j < pages → is_in_run id page pages (record { file = id; page = page + j }) ≡ true
  in_run j low = three (id == id) (eq-eqb id id refl) (nat_le page (page + j)) (grind (arith, nat_tests)) (nat_lt (page + j) (page + pages)) (grind (arith, nat_tests))
    where
      three : (a : Bool) → a ≡ true → (b : Bool) → b ≡ true → (c : Bool) → c ≡ true → a && b && c ≡ true
      three true e true f true g = refl
      three false e b f c g = absurd (true≢false (sym e))
      three true e false f c g = absurd (true≢false (sym f))
      three true e true f false g = absurd (true≢false (sym g))

  marked : (vs : List ℕ) (us : List FilePage) → AreOfSpace vs → forced id page pages (fold (mark_page (with_run m id page pages writable)) us vs) ≡ forced id page pages us
  marked [] us h = refl
  marked (v ∷ vs) us h =
      let j : ℕ = v - (place m pages).first in
      let at : (place m pages).first + j ≡ v = omega (arith, h.0.0) in
      let low : j < pages = omega (arith, h.0.0, h.0.1) in
      let shown : shown_at (with_run m id page pages writable) v ≡ Some (record { file = id; page = page + j }) =
      ap (λ (i : ℕ). shown_at (with_run m id page pages writable) i) (sym at) ∙ shown_here m n id page pages writable s j low in
      marked vs (mark_page (with_run m id page pages writable) us v) h.1
      ∙ ap (λ (o : Option FilePage). forced id page pages (option_map_or (λ u. mark u us) o us)) shown
      ∙ filter_mark (λ u. not (is_in_run id page pages u)) (record { file = id; page = page + j }) (ap not (in_run j low)) us

  touched : (k count : ℕ) → 1 ≤ count → k + count ≤ 512 * pages → AreOfSpace (pages_of (512 * (place m pages).first + k) count)
  touched k count some low = either (((512 * (place m pages).first + k) / 512) == ((512 * (place m pages).first + k + count - 1) / 512))
    where
      a : ((place m pages).first ≤ (512 * (place m pages).first + k) / 512) × ((512 * (place m pages).first + k) / 512 < (place m pages).first + pages)
      a = (omega (arith, some, low), omega (arith, some, low))

      b : ((place m pages).first ≤ (512 * (place m pages).first + k + count - 1) / 512) × ((512 * (place m pages).first + k + count - 1) / 512 < (place m pages).first + pages)
      b = (omega (arith, some, low), omega (arith, some, low))

      either : (c : Bool) → AreOfSpace (if c then ((512 * (place m pages).first + k) / 512) ∷ [] else ((512 * (place m pages).first + k) / 512) ∷ ((512 * (place m pages).first + k + count - 1) / 512) ∷ [])
      either true = (a, tt)
      either false = (a, (b, tt))

  -- Bytes.

  stored_row : (bytes : List ℕ) (k : ℕ) (files : List File) → k + length bytes ≤ 512 * pages
      → store_bytes (with_run m id page pages writable) (512 * (place m pages).first + k) bytes files ≡ change_file id (written (512 * page + k) bytes) files
  stored_row [] k files low = sym (change_same id files)
  stored_row (b ∷ bs) k files low =
      let at : 512 * (place m pages).first + k + 1 ≡ 512 * (place m pages).first + (k + 1) = omega arith in
      let to : 512 * page + (k + 1) ≡ 512 * page + k + 1 = omega arith in
      let one : Spot = record { file = id; page = (512 * page + k) / 512; offset = (512 * page + k) % 512 } in
      ap (λ (fs : List File). store_bytes (with_run m id page pages writable) (512 * (place m pages).first + k + 1) bs fs)
      (ap (λ (o : Option Spot). option_map_or (λ spot. change_file spot.file (with_byte spot b) files) o files) (spot_here m n id page pages writable s k (omega (arith, low))))
      ∙ ap (λ (a : ℕ). store_bytes (with_run m id page pages writable) a bs (change_file id (with_byte one b) files)) at
      ∙ stored_row bs (k + 1) (change_file id (with_byte one b) files) (omega (arith, low))
      ∙ change_twice id (written (512 * page + (k + 1)) bs) (with_byte one b) (λ x. refl) files
      ∙ ap (λ (i : ℕ). change_file id (λ x. written i bs (with_byte one b x)) files) to

  -- Stores in a row.

  -- what they come to
  pub record Comes (k : ℕ) (bytes : List ℕ) (a b : Machine) : Type 0 where
    pub files : b.files ≡ change_file id (written (512 * page + k) bytes) a.files
    pub forces : forced id page pages b.unforced ≡ forced id page pages a.unforced
    pub same : b ≡ record a { files = b.files; unforced = b.unforced }

  comes_one : (a : Machine) (k : ℕ) (bytes : List ℕ) → a.spaces ≡ with_run m id page pages writable → 1 ≤ length bytes → k + length bytes ≤ 512 * pages
      → refusal a (Store (512 * (place m pages).first + k) bytes) ≡ None → Comes k bytes a (next a (Store (512 * (place m pages).first + k) bytes))
  comes_one a k bytes spaces some low free =
      subst (λ (b : Machine). Comes k bytes a b) (sym (unrefused a (Store (512 * (place m pages).first + k) bytes) free)) (record {
        files = ap (λ (ss : List Space). store_bytes ss (512 * (place m pages).first + k) bytes a.files) spaces ∙ stored_row bytes k a.files low;
        forces = ap (λ (ss : List Space). forced id page pages (fold (mark_page ss) a.unforced (pages_of (512 * (place m pages).first + k) (length bytes)))) spaces
            ∙ marked (pages_of (512 * (place m pages).first + k) (length bytes)) a.unforced (touched k (length bytes) some low);
        same = refl;
      })

  comes_then : (k : ℕ) (xs ys : List ℕ) (a b c : Machine) → Comes k xs a b → Comes (k + length xs) ys b c → Comes k (xs ++ ys) a c
  comes_then k xs ys a b c p q =
      let at : 512 * page + (k + length xs) ≡ 512 * page + k + length xs = omega arith in
      record {
        files = q.files ∙ ap (λ (fs : List File). change_file id (written (512 * page + (k + length xs)) ys) fs) p.files
            ∙ change_twice id (written (512 * page + (k + length xs)) ys) (written (512 * page + k) xs) (λ x. refl) a.files
            ∙ ap (λ (i : ℕ). change_file id (λ x. written i ys (written (512 * page + k) xs x)) a.files) at
            ∙ (λ i. change_file id (λ x. record x { pages = sym (puts_both xs ys (512 * page + k) x.pages) i }) a.files);
        forces = q.forces ∙ p.forces;
        same = q.same ∙ ap (λ (x : Machine). record x { files = c.files; unforced = c.unforced }) p.same;
      }

  pub comes : (pieces : List (List ℕ)) (k : ℕ) (a b : Machine) → a.spaces ≡ with_run m id page pages writable → AllByRecursion (λ piece. 1 ≤ length piece) pieces
      → k + length (concat pieces) ≤ 512 * pages → Lead a (512 * (place m pages).first + k) pieces b → Comes k (concat pieces) a b
  comes [] k a b spaces some low lead =
      subst (λ (x : Machine). Comes k [] a x) (sym lead) (record { files = sym (change_same id a.files); forces = refl; same = refl })
  comes (bytes ∷ rest) k a b spaces some low lead =
      let long = length-append bytes (concat rest) in
      let at : 512 * (place m pages).first + k + length bytes ≡ 512 * (place m pages).first + (k + length bytes) = omega arith in
      let first = comes_one a k bytes spaces some.0 (omega (arith, low, long)) lead.0 in
      let next_one = next a (Store (512 * (place m pages).first + k) bytes) in
      comes_then k bytes (concat rest) a next_one b first
      (comes rest (k + length bytes) next_one b (ap (λ (x : Machine). x.spaces) first.same ∙ spaces) some.1 (omega (arith, low, long))
      (subst (λ (i : ℕ). Lead next_one i rest b) at lead.1))
