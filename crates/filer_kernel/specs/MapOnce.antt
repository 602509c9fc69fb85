-- The records of a file map are revealed by its bytes alone, and so is what it names.
use Rattle.std.proofs.Common.{◌≡◌, ℕ, zero, suc, ◌+◌, ◌<◌, ◌^◌, List, [], ◌∷◌, ◌++◌, map, length, get_or, drop, refl, sym, ◌∙◌, ap, subst, arith}
use Rattle.std.proofs.lemmas.List.{ext_get_or, get_or-map, length-map, map-append}
use Rattle.std.proofs.lemmas.List.Concat.{flat_map-cons}
use Rattle.labelled_disk.specs.Layout.{vfm}
use Rattle.labelled_disk.specs.Sectors.{Sector}
use Rattle.page_tree.specs.Keys.{Item, no_item}
use Rattle.page_tree.specs.Page.{page_at, record_item, IsLeaf, IsInner, IsPageOf}
use Rattle.page_tree.specs.Reveals.{RevealsTree}
use Rattle.page_tree.specs.Tree.{Node, node_at, items_of, head_of, heads, IsTree}
use Rattle.file_map.specs.declared.run.Run.{Run}
use Rattle.file_map.specs.Run.{IsRun, run_bytes, run_in}
use Rattle.file_map.specs.FileMap.{Triples, AreNamed, run_at, names_triple}
use Rattle.file_map.specs.InSectors.{MapNames, map_bytes}
use Rattle.file_map.proofs.Records.{run_back}

-- the pages of nodes, in order
abbrev pages_of : List Node → List ℕ
pages_of ns = map (λ n. n.page) ns

module _ {X : Type 0} (f : Item → X) (R : ℕ → List Item → Type 0) (once : (page : ℕ) (xs ys : List Item) → R page xs → R page ys → map f xs ≡ map f ys) where
  -- pages that list one thing each list one thing together
  same_items : (ns ms : List Node) → ((p : ℕ) → p < length ns → R (node_at ns p).page (node_at ns p).items) → ((p : ℕ) → p < length ms → R (node_at ms p).page (node_at ms p).items)
      → pages_of ns ≡ pages_of ms → map f (items_of ns) ≡ map f (items_of ms)
  same_items [] [] first next same = refl
  same_items [] (m ∷ ms) first next same = absurd (let n = ap (λ (l : List ℕ). length l) same in omega (arith, n))
  same_items (n ∷ ns) [] first next same = absurd (let m = ap (λ (l : List ℕ). length l) same in omega (arith, m))
  same_items (n ∷ ns) (m ∷ ms) first next same =
      let page : n.page ≡ m.page = ap (λ (l : List ℕ). get_or l 0 0) same in
      let here : map f n.items ≡ map f m.items = once m.page n.items m.items (subst (λ (p : ℕ). R p n.items) page (first zero (omega arith))) (next zero (omega arith)) in
      let rest : map f (items_of ns) ≡ map f (items_of ms) = same_items ns ms (λ p below. first (suc p) (omega (arith, below))) (λ p below. next (suc p) (omega (arith, below))) (ap (λ (l : List ℕ). drop 1 l) same) in
      ap (λ (l : List Item). map f l) (flat_map-cons (λ (x : Node). x.items) n ns) ∙ map-append f n.items (items_of ns)
      ∙ (λ i. here i ++ rest i)
      ∙ sym (ap (λ (l : List Item). map f l) (flat_map-cons (λ (x : Node). x.items) m ms) ∙ map-append f m.items (items_of ms))

-- a leaf lists what its bytes say
leaf_once : (e k : ℕ) (page : List ℕ) (xs ys : List Item) → IsLeaf e k page xs → IsLeaf e k page ys → xs ≡ ys
leaf_once e k page xs ys h l = ext_get_or no_item xs ys (sym h.count ∙ l.count) (λ i below.
    let other : i < length ys = let a = h.count in let b = l.count in omega (arith, below, a, b) in
    h.lists i below ∙ sym (l.lists i other))

-- an inner page links the pages that its bytes say
links_once : (k : ℕ) (page : List ℕ) (xs ys : List Item) → IsInner k page xs → IsInner k page ys → map (λ x. x.page) xs ≡ map (λ x. x.page) ys
links_once k page xs ys h l =
    let long : length xs ≡ length ys = sym h.count ∙ l.count in
    ext_get_or 0 (map (λ x. x.page) xs) (map (λ x. x.page) ys) (length-map xs (λ x. x.page) ∙ long ∙ sym (length-map ys (λ x. x.page))) (λ i below.
    let first : i < length xs = let a = length-map xs (λ x. x.page) in omega (arith, below, a) in
    let next : i < length ys = omega (arith, first, long) in
    get_or-map (λ (x : Item). x.page) xs i no_item 0 first ∙ h.links i first ∙ sym (l.links i next) ∙ sym (get_or-map (λ (x : Item). x.page) ys i no_item 0 next))

-- a level is listed above by its pages
head_pages : (ns : List Node) → map (λ x. x.page) (heads ns) ≡ pages_of ns
head_pages [] = refl
head_pages (n ∷ ns) = ap (λ (l : List ℕ). n.page ∷ l) (after ns)
  where
    after : (ns : List Node) → map (λ x. x.page) (map head_of ns) ≡ pages_of ns
    after [] = refl
    after (n ∷ ns) = ap (λ (l : List ℕ). n.page ∷ l) (after ns)

bytes_back : (k : ℕ) (xs : List (List ℕ)) → map (λ x. x.bytes) (map (record_item k) xs) ≡ xs
bytes_back k [] = refl
bytes_back k (x ∷ xs) = ap (λ (l : List (List ℕ)). x ∷ l) (bytes_back k xs)

one_page : (ns : List Node) → length ns ≡ 1 → pages_of ns ≡ (node_at ns 0).page ∷ []
one_page [] one = absurd (omega (arith, one))
one_page (n ∷ []) one = refl
one_page (n ∷ m ∷ ns) one = absurd (omega (arith, one))

module _ (e k pages : ℕ) (b : List ℕ) (xs ys : List (List ℕ)) (t : IsTree e k pages b xs) (u : IsTree e k pages b ys) where
  -- from a level down
  down : (l : ℕ) → l < t.levels → l < u.levels → pages_of (t.nodes (l + 1)) ≡ pages_of (u.nodes (l + 1)) → xs ≡ ys
  down zero below also same =
      let items : map (λ x. x.bytes) (items_of (t.nodes 1)) ≡ map (λ x. x.bytes) (items_of (u.nodes 1)) =
      same_items (λ x. x.bytes) (λ page its. IsPageOf e k 1 (page_at b page) its) (λ page vs ws h l. ap (λ (z : List Item). map (λ x. x.bytes) z) (leaf_once e k (page_at b page) vs ws (h.leaf refl) (l.leaf refl)))
      (t.nodes 1) (u.nodes 1) (λ p inside. t.tower.stored 1 p (omega arith) (omega (arith, below)) inside) (λ p inside. u.tower.stored 1 p (omega arith) (omega (arith, also)) inside) same in
      sym (bytes_back k xs) ∙ ap (λ (z : List Item). map (λ x. x.bytes) z) (sym (t.tower.listed 0 below)) ∙ items ∙ ap (λ (z : List Item). map (λ x. x.bytes) z) (u.tower.listed 0 also) ∙ bytes_back k ys
  down (suc l) below also same =
      let items : map (λ x. x.page) (items_of (t.nodes (suc l + 1))) ≡ map (λ x. x.page) (items_of (u.nodes (suc l + 1))) =
      same_items (λ x. x.page) (λ page its. IsPageOf e k (suc l + 1) (page_at b page) its) (λ page vs ws h m. links_once k (page_at b page) vs ws (h.inner (omega arith)) (m.inner (omega arith)))
      (t.nodes (suc l + 1)) (u.nodes (suc l + 1)) (λ p inside. t.tower.stored (suc l + 1) p (omega arith) (omega (arith, below)) inside) (λ p inside. u.tower.stored (suc l + 1) p (omega arith) (omega (arith, also)) inside) same in
      let under : pages_of (t.nodes (suc l)) ≡ pages_of (u.nodes (suc l)) =
      sym (head_pages (t.nodes (suc l))) ∙ ap (λ (z : List Item). map (λ x. x.page) z) (sym (t.tower.listed (suc l) below)) ∙ items
      ∙ ap (λ (z : List Item). map (λ x. x.page) z) (u.tower.listed (suc l) also) ∙ head_pages (u.nodes (suc l)) in
      let z : suc l ≡ l + 1 = omega arith in
      down l (omega (arith, below)) (omega (arith, also)) (ap (λ (n : ℕ). pages_of (t.nodes n)) (sym z) ∙ under ∙ ap (λ (n : ℕ). pages_of (u.nodes n)) z)

  tree_once : xs ≡ ys
  tree_once = either t.levels refl
    where
      same : u.levels ≡ t.levels
      same = sym u.header.levels_is ∙ t.header.levels_is

      either : (n : ℕ) → t.levels ≡ n → xs ≡ ys
      either zero is = t.tower.none is ∙ sym (u.tower.none (same ∙ is))
      either (suc n) is =
          let some : 0 < t.levels = omega (arith, is) in
          let also : 0 < u.levels = omega (arith, is, same) in
          let top : t.levels ≡ n + 1 = omega (arith, is) in
          let high : u.levels ≡ n + 1 = omega (arith, is, same) in
          down n (omega (arith, is)) (omega (arith, is, same))
          (ap (λ (m : ℕ). pages_of (t.nodes m)) (sym top) ∙ one_page (t.nodes t.levels) (t.header.one_root some)
          ∙ ap (λ (p : ℕ). p ∷ []) (sym (t.header.root_is some) ∙ u.header.root_is also)
          ∙ sym (one_page (u.nodes u.levels) (u.header.one_root also)) ∙ ap (λ (m : ℕ). pages_of (u.nodes m)) high)

-- records of runs are these runs'
runs_back : (n : ℕ) → n < 2 ^ 32 → (rs : List Run) → ((j : ℕ) → j < length rs → IsRun n (run_at rs j)) → map run_in (map run_bytes rs) ≡ rs
runs_back n few [] each = refl
runs_back n few (r ∷ rs) each = λ i. run_back n r few (each zero (omega arith)) i ∷ runs_back n few rs (λ j below. each (suc j) (omega (arith, below))) i

-- maps in form of the same bytes name the same
pub named_by_bytes : (sectors : ℕ) (b c : List ℕ) (named also : Triples) → sectors < 2 ^ 32 → c ≡ b → AreNamed sectors (RevealsTree 24 12 (vfm sectors) (λ x. x ≡ b)) named → AreNamed sectors (RevealsTree 24 12 (vfm sectors) (λ x. x ≡ c)) also
    → (id page sector : ℕ) → also id page sector ≡ named id page sector
named_by_bytes sectors b c named also few same h l id page sector =
    let bytes : l.listed.bytes ≡ h.listed.bytes = l.listed.revealed ∙ same ∙ sym h.listed.revealed in
    let records : map run_bytes h.runs ≡ map run_bytes l.runs = tree_once 24 12 (vfm sectors) h.listed.bytes (map run_bytes h.runs) (map run_bytes l.runs) h.listed.tree
    (subst (λ (b : List ℕ). IsTree 24 12 (vfm sectors) b (map run_bytes l.runs)) bytes l.listed.tree) in
    let runs : h.runs ≡ l.runs = sym (runs_back sectors few h.runs h.form.each) ∙ ap (λ (rs : List (List ℕ)). map run_in rs) records ∙ runs_back sectors few l.runs l.form.each in
    l.are id page sector ∙ ap (λ (rs : List Run). names_triple rs id page sector) (sym runs) ∙ sym (h.are id page sector)

pub named_once : (d : List Sector) (named also : Triples) → length d < 2 ^ 32 → MapNames d named → MapNames d also → (id page sector : ℕ) → also id page sector ≡ named id page sector
named_once d named also few h l = named_by_bytes (length d) (map_bytes d) (map_bytes d) named also few refl h l
