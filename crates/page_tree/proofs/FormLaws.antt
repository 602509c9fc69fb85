-- A well-formed tree has a header in form.
use Rattle.std.proofs.Common.{◌≡◌, ℕ, ◌+◌, ◌/◌, ◌<◌, ◌≤◌, List, [], ◌∷◌, length, drop, arith, refl, sym, ◌∙◌, ap, subst}
use Rattle.std.proofs.lemmas.List.{get_or-take}
use Rattle.byteorder.specs.Endian.{big_number}
use Rattle.flat_mem.specs.Memory.{part}
use Rattle.flat_mem.specs.Parts.{part-part}
use Rattle.page_tree.specs.Page.{page_at, count_in, root_in, top_in, free_in, levels_in}
use Rattle.page_tree.specs.Tree.{node_at, frees, IsChain, IsTree}
use Rattle.page_tree.specs.Climb.{IsHead}
use Rattle.page_tree.specs.Answer.{CanBegin}
use Rattle.page_tree.specs.Broken.{AreInForm, IsHeaderForm, Meets}
use Rattle.page_tree.proofs.Once.{frees_cons, mark}
use Rattle.page_tree.proofs.StepLaws.{free_within}
use Rattle.page_tree.proofs.Descent.{within_tree}

first_below : (b : List ℕ) (first top : ℕ) (free : List ℕ) → IsChain b first free → ((q : ℕ) → 1 ≤ frees q free → (1 ≤ q) × (q ≤ top)) → first ≤ top
first_below b first top [] chain inside = omega (arith, chain)
first_below b first top (p ∷ ps) chain inside = omega (arith, chain.0, (inside p (omega (arith, frees_cons p p ps, mark p p refl))).1)

pub tree_form : (e k pages : ℕ) (b : List ℕ) (xs : List (List ℕ)) → IsTree e k pages b xs → IsHeaderForm e pages (page_at b 0)
tree_form e k pages b xs tree = record {
  few_levels = omega (arith, tree.header.levels_is, tree.header.levels_most);
  some_root = λ some. omega (arith, (root some).0, tree.header.root_is (levels some));
  root_inside = λ some. omega (arith, (root some).1, tree.header.root_is (levels some), tree.header.top_below);
  top_inside = omega (arith, tree.header.top_is, tree.header.top_below);
  free_inside = omega (arith, tree.header.free_is, tree.header.top_below, first_below b tree.first tree.top tree.free tree.chain (free_within tree.levels tree.nodes tree.free tree.top tree.shared));
  count_most = omega (arith, tree.header.count_is, tree.capacity);
}
  where
    levels : 0 < levels_in (page_at b 0) → 0 < tree.levels
    levels some = omega (arith, some, tree.header.levels_is)

    root : 0 < levels_in (page_at b 0) → (1 ≤ (node_at (tree.nodes tree.levels) 0).page) × ((node_at (tree.nodes tree.levels) 0).page ≤ tree.top)
    root some = within_tree e k pages b xs tree tree.levels 0 (levels some) (omega arith) (omega (arith, tree.header.one_root (levels some)))

-- numbers that are those of a header are in form where the header is
pub numbers_form : (e pages : ℕ) (page : List ℕ) (count root top free levels : ℕ) → IsHead page count root top free levels → IsHeaderForm e pages page → AreInForm e pages count root top free levels
numbers_form e pages page count root top free levels head form = rw (head.count_is, head.root_is, head.top_is, head.free_is, head.levels_is) at form

-- the root is met
pub root_met : (k : ℕ) (b : List ℕ) (size levels root : ℕ) → length b ≡ size → CanBegin (size / 512) levels root → 1 ≤ levels → levels ≡ levels_in (page_at b 0) → root ≡ root_in (page_at b 0) → Meets k b levels root
root_met k b size levels root long begins some is named = Meets.root levels root is named some (begins.root_some (omega (arith, some))) (omega (arith, long, begins.root_inside (omega (arith, some))))

pub header_numbers : (page b : List ℕ) (count root top free levels : ℕ) → page ≡ page_at b 0 → count ≡ count_in page → root ≡ root_in page → top ≡ top_in page → free ≡ free_in page → levels ≡ levels_in page → IsHead (page_at b 0) count root top free levels
header_numbers page b count root top free levels read count_is root_is top_is free_is levels_is = subst (λ (x : List ℕ). IsHead x count root top free levels) read
    (record { count_is = sym count_is; root_is = sym root_is; top_is = sym top_is; free_is = sym free_is; levels_is = sym levels_is })

-- the same by the first 20 bytes of the memory
pub numbers_read : (bytes b : List ℕ) (count root top free levels : ℕ) → bytes ≡ part b 0 20 → count ≡ count_in bytes → root ≡ root_in bytes → top ≡ top_in bytes → free ≡ free_in bytes → levels ≡ levels_in bytes → IsHead (page_at b 0) count root top free levels
numbers_read bytes b count root top free levels read count_is root_is top_is free_is levels_is = record {
  count_is = same 0 (omega arith) ∙ sym count_is;
  root_is = same 4 (omega arith) ∙ sym root_is;
  top_is = same 8 (omega arith) ∙ sym top_is;
  free_is = same 12 (omega arith) ∙ sym free_is;
  levels_is = get_or-take 512 (drop 0 b) 16 0 (omega arith) ∙ sym (get_or-take 20 (drop 0 b) 16 0 (omega arith)) ∙ ap levels_in (sym read) ∙ sym levels_is;
}
  where
    same : (at : ℕ) → at + 4 ≤ 20 → big_number 4 (part (page_at b 0) at 4) ≡ big_number 4 (part bytes at 4)
    same at low = ap (big_number 4) (part-part b 0 512 at 4 (omega (arith, low)) ∙ sym (part-part b 0 20 at 4 low) ∙ ap (λ (x : List ℕ). part x at 4) (sym read))
