-- A record that stands in a leaf is one of the well-formed tree's.
use Rattle.std.proofs.Common.{◌≡◌, ℕ, ◌+◌, ◌^◌, ◌<◌, ◌≤◌, List, [], length, map, get_or, arith, refl, sym, ◌∙◌, ap}
use Rattle.std.proofs.lemmas.List.{length-map, get_or-map}
use Rattle.page_tree.specs.Keys.{Item, no_item, item_at}
use Rattle.page_tree.specs.Page.{IsWidths, page_at, filled, record_at, record_item}
use Rattle.page_tree.specs.Tree.{node_at, items_of, before, IsTree}
use Rattle.page_tree.specs.Reveals.{StandsIn}
use Rattle.page_tree.proofs.Levels.{item_of_page, page_fits}
use Rattle.page_tree.proofs.Unbroken.{met_node}

pub recorded : (e k pages : ℕ) (b : List ℕ) (xs : List (List ℕ)) → IsTree e k pages b xs → IsWidths e k → 9 ≤ pages → pages ≤ 2 ^ 18 → (entry : List ℕ) (page : ℕ) → StandsIn e k b entry page
    → (i : ℕ) × (i < length xs) × (entry ≡ get_or xs i [])
recorded e k pages b xs tree widths least few entry page stands =
    let here = met_node e k pages b xs tree widths least few 1 page stands.met (omega arith) in
    let q = here.1 in
    let leaf = (tree.tower.stored 1 q (omega arith) here.0 here.2).leaf refl in
    let below : stands.at < length (node_at (tree.nodes 1) q).items = omega (arith, stands.below, leaf.count, ap (λ (p : ℕ). filled (page_at b p)) here.3) in
    let all : items_of (tree.nodes 1) ≡ map (record_item k) xs = tree.tower.listed 0 (omega (arith, here.0)) in
    let inside : before (tree.nodes 1) q + stands.at < length xs = omega (arith, page_fits (tree.nodes 1) q here.2, ap length all, length-map xs (record_item k), below) in
    let item : record_item k (record_at e (page_at b (node_at (tree.nodes 1) q).page) stands.at) ≡ record_item k (get_or xs (before (tree.nodes 1) q + stands.at) []) =
    sym (leaf.lists stands.at below) ∙ sym (item_of_page (tree.nodes 1) q stands.at here.2 below)
    ∙ ap (λ (l : List Item). item_at l (before (tree.nodes 1) q + stands.at)) all ∙ get_or-map (record_item k) xs (before (tree.nodes 1) q + stands.at) [] no_item inside in
    (before (tree.nodes 1) q + stands.at, inside, stands.is ∙ ap (λ (p : ℕ). record_at e (page_at b p) stands.at) here.3 ∙ ap (λ (x : Item). x.bytes) item)
