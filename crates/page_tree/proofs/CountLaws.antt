-- A header that counts more than its leaves hold.
use Rattle.std.proofs.Common.{◌≡◌, ◌⊎◌, inl, ℕ, ◌+◌, ◌*◌, ◌/◌, ◌<◌, ◌≤◌, List, [], ◌∷◌, ◌++◌, length, arith, refl, sym, ◌∙◌, ap, length-append}
use Rattle.std.proofs.lemmas.Nat.{mul-le}
use Rattle.std.proofs.lemmas.List.Sums.{sum_by-append}
use Rattle.page_tree.specs.Page.{page_at, filled, count_in, root_in, levels_in}
use Rattle.page_tree.specs.Leaves.{leaves_of, leaves_in, records_in}
use Rattle.page_tree.specs.Tree.{IsTree}
use Rattle.page_tree.specs.Answer.{FromMemory, IsPast}
use Rattle.page_tree.specs.Broken.{Breaks, IfMalformed}
use Rattle.page_tree.specs.declared.error.TreeError.{TreeError}
use Rattle.page_tree.specs.declared.error.TreeError.TheVariants.{Full, Malformed, Mem}

pub records_more : (b passed : List ℕ) (at : ℕ) → records_in b (passed ++ at ∷ []) ≡ records_in b passed + filled (page_at b at)
records_more b passed at = omega (arith, sum_by-append (λ (p : ℕ). filled (page_at b p)) passed (at ∷ []))

pub leaves_more : (passed : List ℕ) (at : ℕ) → length (passed ++ at ∷ []) ≡ length passed + 1
leaves_more passed at = length-append passed (at ∷ [])

module _ (k : ℕ) (b : List ℕ) (levels root : ℕ) (levels_is : levels_in (page_at b 0) ≡ levels) (root_is : root_in (page_at b 0) ≡ root) where
  pub named_leaves : leaves_in k b ≡ leaves_of k b levels root
  named_leaves = ap (λ (l : ℕ). leaves_of k b l (root_in (page_at b 0))) levels_is ∙ ap (leaves_of k b levels) root_is

  -- the walk is at its end, and the index is not reached
  pub few_broken : (e pages count i rest : ℕ) (passed : List ℕ) → count_in (page_at b 0) ≡ count → i < count → leaves_of k b levels root ≡ passed → records_in b passed + rest ≡ i → Breaks e k pages b 0
  few_broken e pages count i rest passed count_is less all is = Breaks.few refl (omega (arith, ap (records_in b) (named_leaves ∙ all), count_is, less, is))

  -- there are more leaves than the memory has pages
  pub crowd_broken : (e pages : ℕ) (passed : List ℕ) → length passed < length (leaves_of k b levels root) → pages ≤ length passed → Breaks e k pages b 0
  crowd_broken e pages passed fewer past = Breaks.crowded refl (omega (arith, ap length named_leaves, fewer, past))

-- a tree of no level has no leaf
pub bare_broken : (e k pages : ℕ) (b : List ℕ) (count i : ℕ) → levels_in (page_at b 0) ≡ 0 → count_in (page_at b 0) ≡ count → i < count → Breaks e k pages b 0
bare_broken e k pages b count i none count_is less = Breaks.few refl (omega (arith, ap (λ (l : ℕ). records_in b (leaves_of k b l (root_in (page_at b 0)))) none, count_is, less))

-- why a call by index may be refused
pub past_memory : {X : Type 0} (why : TreeError X) → FromMemory why → IsPast why
past_memory Full h = absurd h
past_memory (Malformed page) h = absurd h
past_memory (Mem error) h = tt

pub broken_or : {X : Type 0} (P Q : ℕ → Type 0) (why : TreeError X) → IfMalformed P why → IfMalformed (λ page. P page ⊎ Q page) why
broken_or P Q Full h = tt
broken_or P Q (Malformed page) h = inl h
broken_or P Q (Mem error) h = tt

-- no record has an index in a tree of no level
pub none_at : (e k pages : ℕ) (b : List ℕ) (records : List (List ℕ)) (levels i : ℕ) → IsTree e k pages b records → levels_in (page_at b 0) ≡ levels → levels ≡ 0 → i < length records → ⊥
none_at e k pages b records levels i tree is none below = omega (arith, below, ap length (tree.tower.none (sym tree.header.levels_is ∙ is ∙ none)))

pub spends_less : (start now m n cost : ℕ) → now ≤ start + m * cost → m ≤ n → now ≤ start + n * cost
spends_less start now m n cost had few = omega (arith, had, mul-le m cost n cost few (omega arith))

-- the header, and a walk over the leaves
pub walk_spends : (start read now size size' steps m cost : ℕ) → read ≤ start + cost → now ≤ read + (steps + 11 * (size' / 512)) * cost → size ≡ size' → steps + 1 + 11 * (size / 512) ≤ m * (size / 512) → now ≤ start + m * (size / 512) * cost
walk_spends start read now size size' steps m cost read_cost walk_cost same few =
    let walk_now : now ≤ read + (steps + 11 * (size / 512)) * cost = rw same walk_cost in
    spends_less start now (steps + 1 + 11 * (size / 512)) (m * (size / 512)) cost (omega (arith, read_cost, walk_now)) few
