-- The file map of the volume with three files: its tree, and the runs that it lists.
use Rattle.std.proofs.Common.{◌≡◌, inl, inr, ℕ, zero, suc, ◌+◌, ◌<◌, ◌≤◌, Bool, true, List, [], ◌∷◌, map, refl, sym, ap, subst, arith}
use Rattle.std.specs.Prelude.{if◌then◌else◌}
use Rattle.std.specs.List.{AllByRecursion}
use Rattle.std.proofs.lemmas.Bool.{cases_lt, ne_eqb}
use Rattle.std.proofs.lemmas.List.Elements.{All-from_recursion}
use Rattle.flat_mem.specs.Order.{at_most}
use Rattle.flat_mem.specs.OrderLaws.{at_most_itself}
use Rattle.labelled_disk.specs.Layout.{first_data}
use Rattle.page_tree.specs.Keys.{Item, no_item, item_at, AreInKeyOrder}
use Rattle.page_tree.specs.Page.{page_at, record_item, record_at, IsLeaf, IsPageOf, IsBlank, zero_page}
use Rattle.page_tree.specs.Tree.{Node, node_at, items_of, rows, uses, frees, IsHeader, IsTree}
use Rattle.file_map.specs.declared.run.Run.{Run}
use Rattle.file_map.specs.Run.{IsRun, holds, run_bytes}
use Rattle.file_map.specs.FileMap.{AreRuns, run_at, no_run}
use Rattle.file_map.proofs.Runs.{rank_of, has_page, AreSpread}
use Rattle.volume_root.specs.ThreeFiles.{page_of, header_start, leaf_start, runs}

-- The runs.

each_run : AllByRecursion (IsRun 256) runs
unfolding first_data
each_run = (
  record { of_file = inr (omega arith); id_fits = omega arith; some = omega arith; pages_fit = omega arith; from_data = omega arith; inside = omega arith },
  (
    record { of_file = inr (omega arith); id_fits = omega arith; some = omega arith; pages_fit = omega arith; from_data = omega arith; inside = omega arith },
    (
      record { of_file = inr (omega arith); id_fits = omega arith; some = omega arith; pages_fit = omega arith; from_data = omega arith; inside = omega arith },
      (
        record { of_file = inr (omega arith); id_fits = omega arith; some = omega arith; pages_fit = omega arith; from_data = omega arith; inside = omega arith },
        (record { of_file = inr (omega arith); id_fits = omega arith; some = omega arith; pages_fit = omega arith; from_data = omega arith; inside = omega arith }, tt),
      ),
    ),
  ),
)

-- each run ends before those after it begin
abbrev IsSpread : List Run → Type 0
IsSpread [] = Unit {0}
IsSpread (r ∷ rs) = AllByRecursion (λ s. rank_of r + r.pages ≤ rank_of s) rs × IsSpread rs

spread_at : (rs : List Run) → IsSpread rs → AreSpread rs
spread_at [] spread j k order below = absurd (omega (arith, below))
spread_at (r ∷ rs) spread zero zero order below = absurd (omega (arith, order))
spread_at (r ∷ rs) spread zero (suc k) order below = All-from_recursion (λ (s : Run). rank_of r + r.pages ≤ rank_of s) rs spread.0 k no_run (omega (arith, below))
spread_at (r ∷ rs) spread (suc j) zero order below = absurd (omega (arith, order))
spread_at (r ∷ rs) spread (suc j) (suc k) order below = spread_at rs spread.1 j k (omega (arith, order)) (omega (arith, below))

spread : AreSpread runs
spread = spread_at runs (
  (omega arith, (omega arith, (omega arith, (omega arith, tt)))),
  ((omega arith, (omega arith, (omega arith, tt))), ((omega arith, (omega arith, tt)), ((omega arith, tt), (tt, tt)))),
)

apart : (r s : Run) (id page : ℕ) → rank_of r + r.pages ≤ rank_of s → holds r id page ≡ true → holds s id page ≡ true → ⊥
apart r s id page after one other =
    let a = has_page r id page one in
    let b = has_page s id page other in
    omega (arith, after, a.same, a.from, a.below, b.same, b.from, b.below)

pub runs_are : AreRuns 256 runs
runs_are = record {
  each = λ j below. All-from_recursion (IsRun 256) runs each_run j no_run below;
  once = λ j k id page below also held other. elim (cases_lt j k) [
    | inl less ↦ absurd (apart (run_at runs j) (run_at runs k) id page (spread j k less also) held other)
    | inr not ↦ elim (cases_lt k j) [
      | inl more ↦ absurd (apart (run_at runs k) (run_at runs j) id page (spread k j more below) other held)
      | inr neither ↦ omega (arith, not, neither)
    ]
  ];
}

-- The tree.

abbrev items : List Item
items = map (record_item 12) (map run_bytes runs)

-- no key is above those after it
abbrev IsAscendingRow : List Item → Type 0
IsAscendingRow [] = Unit {0}
IsAscendingRow (x ∷ xs) = AllByRecursion (λ y. at_most x.key y.key ≡ true) xs × IsAscendingRow xs

ascending_at : (xs : List Item) → IsAscendingRow xs → AreInKeyOrder xs
ascending_at [] rise i j order below = absurd (omega (arith, below))
ascending_at (x ∷ xs) rise zero zero order below = at_most_itself x.key
ascending_at (x ∷ xs) rise zero (suc j) order below = All-from_recursion (λ (y : Item). at_most x.key y.key ≡ true) xs rise.0 j no_item (omega (arith, below))
ascending_at (x ∷ xs) rise (suc i) zero order below = absurd (omega (arith, order))
ascending_at (x ∷ xs) rise (suc i) (suc j) order below = ascending_at xs rise.1 i j (omega (arith, order)) (omega (arith, below))

ascending : AreInKeyOrder items
unfolding run_bytes at_most
ascending = ascending_at items ((refl, (refl, (refl, (refl, tt)))), ((refl, (refl, (refl, tt))), ((refl, (refl, tt)), ((refl, tt), (tt, tt)))))

leaf : IsLeaf 24 12 (page_of leaf_start) items
unfolding page_of run_bytes
leaf = record { kind = refl; count = refl; some = omega arith; most = omega arith; lists = lists }
  where
    lists : (i : ℕ) → i < 5 → item_at items i ≡ record_item 12 (record_at 24 (page_of leaf_start) i)
    lists zero below = refl
    lists (suc zero) below = refl
    lists (suc (suc zero)) below = refl
    lists (suc (suc (suc zero))) below = refl
    lists (suc (suc (suc (suc zero)))) below = refl
    lists (suc (suc (suc (suc (suc i))))) below = absurd (omega (arith, below))

abbrev node : Node
node = record { page = 1; items = items }

header_rest : IsBlank (page_of header_start)
unfolding page_of zero_page
header_rest = refl

header : IsHeader (page_of header_start) 34 5 1 (node ∷ []) 0 1
unfolding page_of
header = record {
  count_is = refl;
  levels_is = refl;
  levels_most = omega arith;
  no_root = λ none. absurd (omega (arith, none));
  one_root = λ some. refl;
  root_is = λ some. refl;
  free_is = refl;
  top_is = refl;
  top_below = omega arith;
  rest = header_rest;
}

-- one leaf, in page 1
pub tree : (b : List ℕ) → page_at b 0 ≡ page_of header_start → page_at b 1 ≡ page_of leaf_start → IsTree 24 12 34 b (map run_bytes runs)
tree b first second = record {
  levels = 1;
  nodes = λ l. node ∷ [];
  free = [];
  first = 0;
  top = 1;
  header = subst (λ (page : List ℕ). IsHeader page 34 5 1 (node ∷ []) 0 1) (sym first) header;
  tower = record {
    none = λ none. absurd (omega (arith, none));
    ascending = ascending;
    listed = listed;
    stored = stored;
    filled = λ l p some below inside. absurd (omega (arith, some, below));
  };
  chain = refl;
  shared = record {
    once = λ q least most. (let one : 1 ≡ q = omega (arith, least, most) in subst (λ (p : ℕ). uses p (λ l. node ∷ []) 1 + frees p [] ≡ 1) one refl);
    header = refl;
    past = λ q past. ap (λ (b : Bool). 0 + (if b then 1 else 0) + 0 + 0) (ne_eqb 1 q (λ e. omega (arith, e, past)));
    counted = refl;
  };
  capacity = omega arith;
}
  where
    listed : (l : ℕ) → l < 1 → items_of (node ∷ []) ≡ rows 12 (map run_bytes runs) (λ l. node ∷ []) l
    listed zero below = refl
    listed (suc l) below = absurd (omega (arith, below))

    stored : (l p : ℕ) → 0 < l → l ≤ 1 → p < 1 → IsPageOf 24 12 l (page_at b (node_at (node ∷ []) p).page) (node_at (node ∷ []) p).items
    stored l zero some most inside = record {
      leaf = λ one. subst (λ (page : List ℕ). IsLeaf 24 12 page items) (sym second) leaf;
      inner = λ more. absurd (omega (arith, most, more));
    }
    stored l (suc p) some most inside = absurd (omega (arith, inside))
