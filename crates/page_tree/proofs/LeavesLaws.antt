-- The leaves of a well-formed tree are the pages of its first level.
use Rattle.std.proofs.Common.{◌≡◌, inl, inr, ℕ, zero, suc, ◌+◌, ◌<◌, ◌≤◌, List, [], ◌∷◌, ◌++◌, length, map, take, arith, refl, sym, ◌∙◌, ap, length-append}
use Rattle.std.specs.List.{flat_map}
use Rattle.std.proofs.lemmas.Bool.{cases_eq}
use Rattle.std.proofs.lemmas.List.Sums.{sum_by-cons}
use Rattle.std.proofs.lemmas.List.{length-map, append-nil, take_more, take_all}
use Rattle.std.proofs.lemmas.List.Concat.{flat_map-append, flat_map_single}
use Rattle.std.proofs.lemmas.List.Folds.{flat_map-map}
use Rattle.page_tree.specs.Keys.{Item, no_item, item_at}
use Rattle.page_tree.specs.Page.{page_at, filled, link_at, record_item, root_in}
use Rattle.page_tree.specs.Tree.{Node, node_at, items_of, head_of, heads, IsTower, IsTree}
use Rattle.page_tree.specs.Leaves.{gathered, leaves_below, leaves_of, leaves_in, records_in}
use Rattle.page_tree.proofs.PlacedLaws.{few_leaves}

-- lists gathered by index, from those of the items
gathered_items : (items : List Item) (f : ℕ → List ℕ) (h : Item → List ℕ) → ((i : ℕ) → i < length items → f i ≡ h (item_at items i)) → (n : ℕ) → n ≤ length items → gathered f n ≡ flat_map h (take n items)
gathered_items items f h same zero most = refl
gathered_items items f h same (suc n) most =
    let next : suc n ≡ n + 1 = omega arith in
    ap (λ (xs : List ℕ). xs ++ f n) (gathered_items items f h same n (omega (arith, most)))
    ∙ ap (λ (xs : List ℕ). flat_map h (take n items) ++ xs) (same n (omega (arith, most)) ∙ sym (append-nil (h (item_at items n))))
    ∙ sym (flat_map-append h (take n items) (item_at items n ∷ []))
    ∙ sym (ap (flat_map h) (ap (λ (m : ℕ). take m items) next ∙ take_more items n no_item (omega (arith, most))))

flat_map_same : (f g : Node → List ℕ) (ns : List Node) → ((q : ℕ) → q < length ns → f (node_at ns q) ≡ g (node_at ns q)) → flat_map f ns ≡ flat_map g ns
flat_map_same f g [] same = refl
flat_map_same f g (n ∷ ns) same =
    ap (λ (xs : List ℕ). xs ++ flat_map f ns) (same 0 (omega arith)) ∙ ap (λ (xs : List ℕ). g n ++ xs) (flat_map_same f g ns (λ (q : ℕ) (below : q < length ns). same (suc q) (omega (arith, below))))

-- what the items of the pages make, page by page
flat_items : (h : Item → List ℕ) (ns : List Node) → flat_map (λ (n : Node). flat_map h n.items) ns ≡ flat_map h (items_of ns)
flat_items h [] = refl
flat_items h (n ∷ ns) = ap (λ (xs : List ℕ). flat_map h n.items ++ xs) (flat_items h ns) ∙ sym (flat_map-append h n.items (items_of ns))

flat_heads : (f : ℕ → List ℕ) (ns : List Node) → flat_map (λ (x : Item). f x.page) (heads ns) ≡ flat_map (λ (n : Node). f n.page) ns
flat_heads f [] = refl
flat_heads f (n ∷ ns) = ap (λ (xs : List ℕ). f n.page ++ xs) (flat_map-map (λ (x : Item). f x.page) head_of ns)

module _ (e k : ℕ) (b : List ℕ) (records : List (List ℕ)) (levels : ℕ) (nodes : ℕ → List Node) (tower : IsTower e k b records levels nodes) where
  -- below the pages of each level stand the same leaves
  leaves_level : (d : ℕ) → suc d ≤ levels → flat_map (λ (n : Node). leaves_below k b d n.page) (nodes (suc d)) ≡ map (λ (n : Node). n.page) (nodes 1)
  leaves_level zero most = flat_map_single (λ (n : Node). n.page) (nodes 1)
  leaves_level (suc d) most =
      let next : suc (suc d) ≡ suc d + 1 = omega arith in
      let items_are : items_of (nodes (suc (suc d))) ≡ heads (nodes (suc d)) = ap (λ (m : ℕ). items_of (nodes m)) next ∙ tower.listed (suc d) (omega (arith, most)) in
      flat_map_same (λ (n : Node). leaves_below k b (suc d) n.page) (λ (n : Node). flat_map (λ (x : Item). leaves_below k b d x.page) n.items) (nodes (suc (suc d))) below
      ∙ flat_items (λ (x : Item). leaves_below k b d x.page) (nodes (suc (suc d)))
      ∙ ap (flat_map (λ (x : Item). leaves_below k b d x.page)) items_are
      ∙ flat_heads (leaves_below k b d) (nodes (suc d))
      ∙ leaves_level d (omega (arith, most))
    where
      below : (q : ℕ) → q < length (nodes (suc (suc d))) → leaves_below k b (suc d) (node_at (nodes (suc (suc d))) q).page ≡ flat_map (λ (x : Item). leaves_below k b d x.page) (node_at (nodes (suc (suc d))) q).items
      below q inside =
          let inner = (tower.stored (suc (suc d)) q (omega arith) most inside).inner (omega arith) in
          let count : suc (filled (page_at b (node_at (nodes (suc (suc d))) q).page)) ≡ length (node_at (nodes (suc (suc d))) q).items = omega (arith, inner.count) in
          ap (gathered (λ i. leaves_below k b d (link_at k (page_at b (node_at (nodes (suc (suc d))) q).page) i))) count
          ∙ gathered_items (node_at (nodes (suc (suc d))) q).items (λ i. leaves_below k b d (link_at k (page_at b (node_at (nodes (suc (suc d))) q).page) i)) (λ (x : Item). leaves_below k b d x.page)
          (λ (i : ℕ) (i_below : i < length (node_at (nodes (suc (suc d))) q).items). ap (leaves_below k b d) (sym (inner.links i i_below))) (length (node_at (nodes (suc (suc d))) q).items) (omega arith)
          ∙ ap (flat_map (λ (x : Item). leaves_below k b d x.page)) (take_all (length (node_at (nodes (suc (suc d))) q).items) (node_at (nodes (suc (suc d))) q).items (omega arith))

flat_one : (f : ℕ → List ℕ) (ns : List Node) → length ns ≡ 1 → flat_map (λ (n : Node). f n.page) ns ≡ f (node_at ns 0).page
flat_one f [] one = absurd (omega (arith, one))
flat_one f (n ∷ []) one = append-nil (f n.page)
flat_one f (n ∷ m ∷ ns) one = absurd (omega (arith, one))

-- how many records a leaf holds is how many items it lists
records_of : (b : List ℕ) (ns : List Node) → ((q : ℕ) → q < length ns → filled (page_at b (node_at ns q).page) ≡ length (node_at ns q).items) → records_in b (map (λ (n : Node). n.page) ns) ≡ length (items_of ns)
records_of b [] same = refl
records_of b (n ∷ ns) same = omega (arith, same 0 (omega arith), records_of b ns (λ (q : ℕ) (below : q < length ns). same (suc q) (omega (arith, below))), sum_by-cons (λ (p : ℕ). filled (page_at b p)) n.page (map (λ (n : Node). n.page) ns), length-append n.items (items_of ns))

module _ (e k pages : ℕ) (b : List ℕ) (xs : List (List ℕ)) (tree : IsTree e k pages b xs) where
  named_leaves : (l : ℕ) → l ≡ tree.levels → leaves_in k b ≡ leaves_of k b l (root_in (page_at b 0))
  named_leaves l same = ap (λ (m : ℕ). leaves_of k b m (root_in (page_at b 0))) (tree.header.levels_is ∙ sym same)

  leaves_are : (l : ℕ) → l ≡ tree.levels → 0 < l → leaves_in k b ≡ map (λ (n : Node). n.page) (tree.nodes 1)
  leaves_are zero same some = absurd (omega (arith, some))
  leaves_are (suc d) same some =
      named_leaves (suc d) same ∙ ap (leaves_below k b d) (tree.header.root_is (omega (arith, same)) ∙ ap (λ (m : ℕ). (node_at (tree.nodes m) 0).page) (sym same))
      ∙ sym (flat_one (leaves_below k b d) (tree.nodes (suc d)) (ap (λ (m : ℕ). length (tree.nodes m)) same ∙ tree.header.one_root (omega (arith, same))))
      ∙ leaves_level e k b xs tree.levels tree.nodes tree.tower d (omega (arith, same))

  pub all_records : records_in b (leaves_in k b) ≡ length xs
  all_records = elim (cases_eq tree.levels 0) [
    | inl none ↦ ap (records_in b) (named_leaves 0 (sym none)) ∙ sym (ap length (tree.tower.none none))
    | inr other ↦
        ap (records_in b) (leaves_are tree.levels refl (omega (arith, other)))
        ∙ records_of b (tree.nodes 1) (λ (q : ℕ) (below : q < length (tree.nodes 1)). ((tree.tower.stored 1 q (omega arith) (omega (arith, other)) below).leaf refl).count)
        ∙ ap length (tree.tower.listed 0 (omega (arith, other))) ∙ length-map xs (record_item k)
  ]

  pub few_all : 9 ≤ pages → length (leaves_in k b) < pages
  few_all least = elim (cases_eq tree.levels 0) [
    | inl none ↦ omega (arith, ap length (named_leaves 0 (sym none)), least)
    | inr other ↦
        omega (
          arith,
          ap length (leaves_are tree.levels refl (omega (arith, other))),
          length-map (tree.nodes 1) (λ (n : Node). n.page),
          few_leaves tree.levels tree.nodes tree.free tree.top pages tree.shared (omega (arith, other)) tree.header.top_below,
        )
  ]
