-- The leaf at which a walk stands is one of all, and its records have their indices.
use Rattle.std.proofs.Common.{◌≡◌, inl, inr, rules, ℕ, zero, suc, ◌+◌, ◌-◌, ◌*◌, ◌<◌, ◌≤◌, List, [], ◌∷◌, ◌++◌, length, take, drop, get_or, arith, refl, sym, ◌∙◌, ap, subst}
use Rattle.std.proofs.lemmas.Bool.{cases_eq}
use Rattle.std.proofs.lemmas.Nat.{mul-le, div-add-mod'}
use Rattle.std.proofs.lemmas.List.{append-nil, append_assoc, same_lists, places}
use Rattle.flat_mem.specs.Memory.{part, overwritten}
use Rattle.flat_mem.specs.Parts.{length-part, length-overwritten, part-overwritten, take-overwritten, drop-overwritten}
use Rattle.page_tree.specs.Page.{page_at, filled, link_at, root_in, levels_in, leaf_room}
use Rattle.page_tree.specs.Leaves.{gathered, leaves_below, leaves_of, records_in}
use Rattle.page_tree.specs.Broken.{IsLeafForm}
use Rattle.page_tree.specs.Met.{IsMetPath}
use Rattle.page_tree.specs.Walked.{page_on, IsThread, leaves_ahead, IsWalked}
use Rattle.page_tree.specs.Indexed.{IsIndexed, MissesNth}
use Rattle.page_tree.proofs.CountLaws.{named_leaves}
use Rattle.page_tree.proofs.Threads.{on_other}

-- the lists from number n on
gathered_split : (f : ℕ → List ℕ) (n m : ℕ) → n < m → (rest : List ℕ) × (gathered f m ≡ gathered f n ++ f n ++ rest)
gathered_split f n zero below = absurd (omega (arith, below))
gathered_split f n (suc m) below = elim (cases_eq n m) [
  | inl same ↦ ([], subst (λ (i : ℕ). gathered f (suc m) ≡ gathered f i ++ f i ++ []) (sym same) (sym (append-nil (gathered f m ++ f m))))
  | inr other ↦
      let prefix = gathered_split f n m (omega (arith, below, other)) in
      (prefix.0 ++ f m, ap (λ (xs : List ℕ). xs ++ f m) prefix.1 ∙ append_assoc (gathered f n ++ f n) prefix.0 (f m))
]

joined : (xs ys here rest more : List ℕ) (at : ℕ) → here ≡ ys ++ at ∷ rest → xs ++ here ++ more ≡ xs ++ ys ++ at ∷ (rest ++ more)
joined xs ys here rest more at is =
    ap (λ (zs : List ℕ). xs ++ zs ++ more) is
    ∙ append_assoc xs (ys ++ at ∷ rest) more
    ∙ ap (λ (zs : List ℕ). xs ++ zs) (append_assoc ys (at ∷ rest) more)
    ∙ sym (append_assoc xs ys (at ∷ (rest ++ more)))

-- the leaf at the path's end stands below each page of the path, after those before it
leaves_split : (k : ℕ) (b : List ℕ) (levels root : ℕ) (pages index : List ℕ) (at : ℕ) → IsThread k b levels 1 root pages index at → IsMetPath k b levels 1 root pages index → (d : ℕ) → suc d ≤ levels
    → (after : List ℕ) × (leaves_below k b d (page_on pages 1 at (suc d)) ≡ leaves_ahead k b pages index d ++ at ∷ after)
leaves_split k b levels root pages index at thread path zero most = ([], refl)
leaves_split k b levels root pages index at thread path (suc d) most =
    let lower = leaves_split k b levels root pages index at thread path d (omega (arith, most)) in
    let is : page_on pages 1 at (suc (suc d)) ≡ get_or pages (suc (suc d)) 0 = on_other pages 1 at (suc (suc d)) (omega arith) in
    let chosen = path.chosen (suc (suc d)) (omega arith) most in
    let below : leaves_below k b d (link_at k (page_at b (get_or pages (suc (suc d)) 0)) (get_or index (suc (suc d)) 0)) ≡ leaves_ahead k b pages index d ++ at ∷ lower.0 =
    ap (leaves_below k b d) (sym (thread.linked (suc d) (omega arith) (omega (arith, most)))) ∙ lower.1 in
    let split = gathered_split (λ i. leaves_below k b d (link_at k (page_at b (get_or pages (suc (suc d)) 0)) i)) (get_or index (suc (suc d)) 0) (suc (filled (page_at b (get_or pages (suc (suc d)) 0)))) (omega (arith, chosen)) in (
      lower.0 ++ split.0,
      ap (leaves_below k b (suc d)) is
          ∙ split.1
          ∙ joined (gathered (λ i. leaves_below k b d (link_at k (page_at b (get_or pages (suc (suc d)) 0)) i)) (get_or index (suc (suc d)) 0)) (leaves_ahead k b pages index d)
          (leaves_below k b d (link_at k (page_at b (get_or pages (suc (suc d)) 0)) (get_or index (suc (suc d)) 0))) lower.0 split.0 at below,
    )

pub walked_leaves : (k : ℕ) (b : List ℕ) (levels root : ℕ) (pages index : List ℕ) (at : ℕ) (passed : List ℕ) → 1 ≤ levels → IsWalked k b levels root pages index at passed → (after : List ℕ) × (leaves_of k b levels root ≡ passed ++ at ∷ after)
walked_leaves k b zero root pages index at passed some walked = absurd (omega (arith, some))
walked_leaves k b (suc d) root pages index at passed some walked =
    let split = leaves_split k b (suc d) root pages index at walked.thread walked.path d (omega arith) in
    let same : d ≡ suc d - 1 = omega arith in (
      split.0,
      ap (leaves_below k b d) (sym walked.thread.top)
          ∙ split.1
          ∙ ap (λ (n : ℕ). leaves_ahead k b pages index n ++ at ∷ split.0) same
          ∙ ap (λ (xs : List ℕ). xs ++ at ∷ split.0) walked.ahead,
    )

-- the record at which a walk has used up its index
pub walked_indexed : (e k : ℕ) (b : List ℕ) (levels root : ℕ) (pages index : List ℕ) (at : ℕ) (passed page : List ℕ) (rest i : ℕ) → levels_in (page_at b 0) ≡ levels → root_in (page_at b 0) ≡ root → 1 ≤ levels → IsWalked k b levels root pages index at passed
    → records_in b passed + rest ≡ i → page ≡ page_at b at → IsLeafForm e page → rest < filled page → IsIndexed e k b i at rest
walked_indexed e k b levels root pages index at passed page rest i levels_is root_is some walked count read form below =
    let all = walked_leaves k b levels root pages index at passed some walked in record {
      passed = passed;
      after = all.0;
      leaves = named_leaves k b levels root levels_is root_is ∙ all.1;
      count = count;
      met = walked.met;
      form = subst (IsLeafForm e) read form;
      below = subst (λ (p : List ℕ). rest < filled p) read below;
    }

-- why a walk ends without one
module _ (k : ℕ) (b : List ℕ) (levels root : ℕ) (levels_is : levels_in (page_at b 0) ≡ levels) (root_is : root_in (page_at b 0) ≡ root) (e pages i : ℕ) where
  pub short_of : (passed : List ℕ) (rest : ℕ) → leaves_of k b levels root ≡ passed → records_in b passed + rest ≡ i → MissesNth e k pages b i
  short_of passed rest all count = MissesNth.short (omega (arith, ap (records_in b) (named_leaves k b levels root levels_is root_is ∙ all), count))

  pub crowded_by : (passed : List ℕ) → length passed < length (leaves_of k b levels root) → pages ≤ length passed → MissesNth e k pages b i
  crowded_by passed fewer past = MissesNth.crowded (omega (arith, ap length (named_leaves k b levels root levels_is root_is), fewer, past))

-- a tree of no level has no record
pub bare_misses : (e k pages : ℕ) (b : List ℕ) (i : ℕ) → levels_in (page_at b 0) ≡ 0 → MissesNth e k pages b i
bare_misses e k pages b i none = MissesNth.short (omega (arith, ap (λ (l : ℕ). records_in b (leaves_of k b l (root_in (page_at b 0)))) none))

-- the parts of a list, put together again
parts_joined : (w : List ℕ) (from size : ℕ) → from + size ≤ length w → take from w ++ part w from size ++ drop (from + size) w ≡ w
parts_joined w from size fits = same_lists _ _ (search (rules, places)) (λ k x h. grind (arith, places))

-- a page with bytes written over in it is written over the page
pub written_in_page : (b entry : List ℕ) (p d : ℕ) → 512 * p + 512 ≤ length b → d + length entry ≤ 512 → overwritten b (512 * p) (overwritten (page_at b p) d entry) ≡ overwritten b (512 * p + d) entry
written_in_page b entry p d fits inside =
    let ends : 512 * p + d + length entry ≤ length b = omega (arith, fits, inside) in
    let long : length (overwritten b (512 * p + d) entry) ≡ length b = length-overwritten b entry (512 * p + d) ends in
    let page_is : overwritten (page_at b p) d entry ≡ part (overwritten b (512 * p + d) entry) (512 * p) 512 = sym (part-overwritten b entry (512 * p) 512 d fits inside) in
    let size : length (part (overwritten b (512 * p + d) entry) (512 * p) 512) ≡ 512 = length-part (overwritten b (512 * p + d) entry) (512 * p) 512 (omega (arith, fits, long)) in
    ap (overwritten b (512 * p)) page_is
    ∙ ap (λ (n : ℕ). take (512 * p) b ++ part (overwritten b (512 * p + d) entry) (512 * p) 512 ++ drop (512 * p + n) b) size
    ∙ ap (λ (xs : List ℕ). xs ++ part (overwritten b (512 * p + d) entry) (512 * p) 512 ++ drop (512 * p + 512) b) (sym (take-overwritten b entry (512 * p + d) (512 * p) (omega arith) ends))
    ∙ ap (λ (xs : List ℕ). take (512 * p) (overwritten b (512 * p + d) entry) ++ part (overwritten b (512 * p + d) entry) (512 * p) 512 ++ xs) (sym (drop-overwritten b entry (512 * p + d) (512 * p + 512) (omega (arith, inside)) ends))
    ∙ parts_joined (overwritten b (512 * p + d) entry) (512 * p) 512 (omega (arith, fits, long))

-- a record lies within its page
pub record_fits : (e slot : ℕ) (entry : List ℕ) → slot < leaf_room e → length entry ≡ e → 8 + e * slot + length entry ≤ 512
record_fits e slot entry below width = omega (arith, width, mul-le e (slot + 1) e (leaf_room e) (omega arith) (omega (arith, below)), div-add-mod' 504 e)
