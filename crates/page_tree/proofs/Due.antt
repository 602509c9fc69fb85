-- An edit goes up: it begins, pages are replaced by as many, fewer or more, it ends, the root goes.
use Rattle.std.proofs.Common.{◌≡◌, ◌≢◌, inl, inr, ℕ, zero, suc, ◌+◌, ◌<◌, ◌≤◌, List, [], ◌∷◌, ◌++◌, length, map, arith, refl, sym, ◌∙◌, ap, subst}
use Rattle.std.proofs.lemmas.Bool.{cases_eq}
use Rattle.std.proofs.lemmas.List.{append-nil, length-map}
use Rattle.page_tree.specs.Keys.{Item}
use Rattle.page_tree.specs.Page.{record_item}
use Rattle.page_tree.specs.Tree.{Node, node_at, items_of, before, head_of, heads, rows, IsSettled}
use Rattle.page_tree.specs.Change.{splice, splice_two, without, with_level}
use Rattle.page_tree.specs.Due.{swapped, IsDue, IsLack}
use Rattle.page_tree.proofs.Splice.{KeepsHead}
use Rattle.page_tree.proofs.Once.{level_same, level_other}
use Rattle.page_tree.proofs.Swapped.{swapped_one, swapped_two, swapped_none, map_swapped, items_from, items_swapped, heads_swapped, heads_kept}

rows_other : (k : ℕ) (records : List (List ℕ)) (nodes : ℕ → List Node) (at : ℕ) (ns : List Node) (m : ℕ) → m ≢ at → rows k records (with_level nodes at ns) m ≡ rows k records nodes m
rows_other k records nodes at ns zero other = refl
rows_other k records nodes at ns (suc m) other = ap heads (level_other nodes at ns (suc m) other)

rows_same : (k : ℕ) (records : List (List ℕ)) (nodes : ℕ → List Node) (at : ℕ) (ns : List Node) (m : ℕ) → 1 ≤ at → m ≡ at → rows k records (with_level nodes at ns) m ≡ heads ns
rows_same k records nodes at ns zero some same = absurd (omega (arith, some, same))
rows_same k records nodes at ns (suc m) some same = ap heads (level_same nodes at ns (suc m) same)

rows_were : (k : ℕ) (records : List (List ℕ)) (nodes : ℕ → List Node) (at m : ℕ) → 1 ≤ at → m ≡ at → rows k records nodes m ≡ heads (nodes at)
rows_were k records nodes at zero some same = absurd (omega (arith, some, same))
rows_were k records nodes at (suc m) some same = ap (λ (l : ℕ). heads (nodes l)) same

-- records that are to be replaced in the leaves
pub begin_due : (k : ℕ) (records : List (List ℕ)) (levels : ℕ) (nodes : ℕ → List Node) (pos less : ℕ) (rs : List (List ℕ)) → IsSettled k records levels nodes
    → IsDue k (swapped records pos less rs) levels nodes 1 pos less (map (record_item k) rs)
begin_due k records levels nodes pos less rs settled = record { listed = listed; due = due }
  where
    listed : (l : ℕ) → l < levels → l + 1 ≢ 1 → items_of (nodes (l + 1)) ≡ rows k (swapped records pos less rs) nodes l
    listed zero below other = absurd (other refl)
    listed (suc l) below other = settled (suc l) below

    due : (l : ℕ) → l < levels → l + 1 ≡ 1 → swapped (items_of (nodes (l + 1))) pos less (map (record_item k) rs) ≡ rows k (swapped records pos less rs) nodes l
    due zero below same = ap (λ (xs : List Item). swapped xs pos less (map (record_item k) rs)) (settled zero below) ∙ sym (map_swapped (record_item k) records pos less rs)
    due (suc l) below same = absurd (omega (arith, same))

-- a record is to be taken out
pub begin_lack : (k : ℕ) (records : List (List ℕ)) (levels : ℕ) (nodes : ℕ → List Node) (pos : ℕ) → pos < length records → IsSettled k records levels nodes → IsLack k (without records pos) levels nodes 1 pos
begin_lack k records levels nodes pos below settled =
    subst (λ (xs : List (List ℕ)). IsLack k xs levels nodes 1 pos) (swapped_one records pos [] below) (begin_due k records levels nodes pos 1 [] settled)

pub one_from : (ns : List Node) (p : ℕ) → p < length ns → items_from ns p 1 ≡ (node_at ns p).items
one_from [] p below = absurd (omega arith)
one_from (n ∷ ns) zero below = append-nil n.items
one_from (n ∷ ns) (suc p) below = one_from ns p (omega arith)

pub two_from : (ns : List Node) (p : ℕ) → p + 1 < length ns → items_from ns p 2 ≡ (node_at ns p).items ++ (node_at ns (suc p)).items
two_from [] p below = absurd (omega arith)
two_from (n ∷ []) p below = absurd (omega arith)
two_from (n ∷ m ∷ ns) zero below = ap (λ (xs : List Item). n.items ++ xs) (append-nil m.items)
two_from (n ∷ m ∷ ns) (suc p) below = two_from (m ∷ ns) p (omega arith)

module _ (k : ℕ) (records : List (List ℕ)) (levels : ℕ) (nodes : ℕ → List Node) (at pos less : ℕ) (its : List Item) (due : IsDue k records levels nodes at pos less its)
    (some : 1 ≤ at) (p n j : ℕ) (below : p < length (nodes at)) (inside : j + less ≤ length (items_from (nodes at) p n)) (place : pos ≡ before (nodes at) p + j)
    (mid : List Node) (is : items_of mid ≡ swapped (items_from (nodes at) p n) j less its) where
  abbrev changed : List Node
  changed = swapped (nodes at) p n mid

  -- the level once the edit is done in n pages of it
  due_at : (l : ℕ) → l < levels → l + 1 ≡ at → items_of (with_level nodes at (swapped (nodes at) p n mid) (l + 1)) ≡ rows k records (with_level nodes at (swapped (nodes at) p n mid)) l
  due_at l l_below here =
      ap items_of (level_same nodes at changed (l + 1) here)
      ∙ items_swapped (nodes at) p n j less mid its (omega arith) inside is
      ∙ ap (λ (i : ℕ). swapped (items_of (nodes at)) i less its) (sym place)
      ∙ ap (λ (m : ℕ). swapped (items_of (nodes m)) pos less its) (sym here)
      ∙ due.due l l_below here
      ∙ sym (rows_other k records nodes at changed l (omega (arith, here)))

  -- what the level above then has to replace
  pub due_next : (pos' less' : ℕ) (its' : List Item) → heads (swapped (nodes at) p n mid) ≡ swapped (heads (nodes at)) pos' less' its'
      → IsDue k records levels (with_level nodes at (swapped (nodes at) p n mid)) (at + 1) pos' less' its'
  due_next pos' less' its' next = record {
    listed = λ m m_below other. elim (cases_eq (m + 1) at) [
      | inl here ↦ due_at m m_below here
      | inr there ↦
          ap items_of (level_other nodes at changed (m + 1) there) ∙ due.listed m m_below there
          ∙ sym (rows_other k records nodes at changed m (λ (same : m ≡ at). other (omega (arith, same))))
    ];
    due = λ m m_below here.
        let same : m ≡ at = omega (arith, here) in
        let there : m + 1 ≢ at = omega (arith, same) in
        ap (λ (ns : List Node). swapped (items_of ns) pos' less' its') (level_other nodes at changed (m + 1) there)
        ∙ ap (λ (xs : List Item). swapped xs pos' less' its') (due.listed m m_below there ∙ rows_were k records nodes at m some same)
        ∙ sym next
        ∙ sym (rows_same k records nodes at changed m some same);
  }

  pub due_done : heads (swapped (nodes at) p n mid) ≡ heads (nodes at) → IsSettled k records levels (with_level nodes at (swapped (nodes at) p n mid))
  due_done next m m_below = elim (cases_eq (m + 1) at) [
    | inl here ↦ due_at m m_below here
    | inr there ↦
        ap items_of (level_other nodes at changed (m + 1) there) ∙ due.listed m m_below there
        ∙ elim (cases_eq m at) [
          | inl same ↦ rows_were k records nodes at m some same ∙ sym next ∙ sym (rows_same k records nodes at changed m some same)
          | inr other ↦ sym (rows_other k records nodes at changed m other)
        ]
  ]

module _ (k : ℕ) (records : List (List ℕ)) (levels : ℕ) (nodes : ℕ → List Node) (at pos less : ℕ) (its : List Item) (due : IsDue k records levels nodes at pos less its)
    (some : 1 ≤ at) (p j : ℕ) (place : pos ≡ before (nodes at) p + j) where
  -- one page in place of one
  module _ (below : p < length (nodes at)) (inside : j + less ≤ length (node_at (nodes at) p).items) (n : Node) (is : n.items ≡ swapped (node_at (nodes at) p).items j less its) where
    within_one : j + less ≤ length (items_from (nodes at) p 1)
    within_one = omega (arith, inside, ap length (one_from (nodes at) p below))

    is_one : items_of (n ∷ []) ≡ swapped (items_from (nodes at) p 1) j less its
    is_one = append-nil n.items ∙ is ∙ ap (λ (xs : List Item). swapped xs j less its) (sym (one_from (nodes at) p below))

    pub put_due : KeepsHead (nodes at) p n → IsSettled k records levels (with_level nodes at (splice (nodes at) p (n ∷ [])))
    put_due keeps = subst (λ (ns : List Node). IsSettled k records levels (with_level nodes at ns)) (swapped_one (nodes at) p (n ∷ []) below)
        (due_done k records levels nodes at pos less its due some p 1 j below within_one place (n ∷ []) is_one (heads_kept (nodes at) p 0 n [] below keeps ∙ swapped_none (heads (nodes at)) (suc p)))

    -- its first key is another, which the level above has to learn
    pub rename_due : 0 < p → IsDue k records levels (with_level nodes at (splice (nodes at) p (n ∷ []))) (at + 1) p 1 (head_of n ∷ [])
    rename_due after = subst (λ (ns : List Node). IsDue k records levels (with_level nodes at ns) (at + 1) p 1 (head_of n ∷ [])) (swapped_one (nodes at) p (n ∷ []) below)
        (due_next k records levels nodes at pos less its due some p 1 j below within_one place (n ∷ []) is_one p 1 (head_of n ∷ []) (heads_swapped (nodes at) p 1 (n ∷ []) after below))

  -- two neighbours
  module _ (below : p + 1 < length (nodes at)) (inside : j + less ≤ length ((node_at (nodes at) p).items ++ (node_at (nodes at) (suc p)).items)) where
    within_two : j + less ≤ length (items_from (nodes at) p 2)
    within_two = omega (arith, inside, ap length (two_from (nodes at) p below))

    first_below : p < length (nodes at)
    first_below = omega (arith, below)

    module _ (n : Node) (is : n.items ≡ swapped ((node_at (nodes at) p).items ++ (node_at (nodes at) (suc p)).items) j less its) where
      is_merged : items_of (n ∷ []) ≡ swapped (items_from (nodes at) p 2) j less its
      is_merged = append-nil n.items ∙ is ∙ ap (λ (xs : List Item). swapped xs j less its) (sym (two_from (nodes at) p below))

      -- one page in place of two: the level above misses the second
      pub merge_due : KeepsHead (nodes at) p n → IsLack k records levels (with_level nodes at (splice_two (nodes at) p (n ∷ []))) (at + 1) (suc p)
      merge_due keeps = subst (λ (ns : List Node). IsLack k records levels (with_level nodes at ns) (at + 1) (suc p)) (swapped_two (nodes at) p (n ∷ []) below)
          (due_next k records levels nodes at pos less its due some p 2 j first_below within_two place (n ∷ []) is_merged (suc p) 1 [] (heads_kept (nodes at) p 1 n [] first_below keeps))

      pub merge_renamed : 0 < p → IsDue k records levels (with_level nodes at (splice_two (nodes at) p (n ∷ []))) (at + 1) p 2 (head_of n ∷ [])
      merge_renamed after = subst (λ (ns : List Node). IsDue k records levels (with_level nodes at ns) (at + 1) p 2 (head_of n ∷ [])) (swapped_two (nodes at) p (n ∷ []) below)
          (due_next k records levels nodes at pos less its due some p 2 j first_below within_two place (n ∷ []) is_merged p 2 (head_of n ∷ []) (heads_swapped (nodes at) p 2 (n ∷ []) after first_below))

    module _ (l r : Node) (is : l.items ++ r.items ≡ swapped ((node_at (nodes at) p).items ++ (node_at (nodes at) (suc p)).items) j less its) where
      is_shifted : items_of (l ∷ r ∷ []) ≡ swapped (items_from (nodes at) p 2) j less its
      is_shifted = ap (λ (xs : List Item). l.items ++ xs) (append-nil r.items) ∙ is ∙ ap (λ (xs : List Item). swapped xs j less its) (sym (two_from (nodes at) p below))

      -- two pages in place of two: the level above has to learn the first key of the second
      pub borrow_due : KeepsHead (nodes at) p l → IsDue k records levels (with_level nodes at (splice_two (nodes at) p (l ∷ r ∷ []))) (at + 1) (suc p) 1 (head_of r ∷ [])
      borrow_due keeps = subst (λ (ns : List Node). IsDue k records levels (with_level nodes at ns) (at + 1) (suc p) 1 (head_of r ∷ [])) (swapped_two (nodes at) p (l ∷ r ∷ []) below)
          (due_next k records levels nodes at pos less its due some p 2 j first_below within_two place (l ∷ r ∷ []) is_shifted (suc p) 1 (head_of r ∷ []) (heads_kept (nodes at) p 1 l (r ∷ []) first_below keeps))

      pub borrow_renamed : 0 < p → IsDue k records levels (with_level nodes at (splice_two (nodes at) p (l ∷ r ∷ []))) (at + 1) p 2 (head_of l ∷ head_of r ∷ [])
      borrow_renamed after = subst (λ (ns : List Node). IsDue k records levels (with_level nodes at ns) (at + 1) p 2 (head_of l ∷ head_of r ∷ [])) (swapped_two (nodes at) p (l ∷ r ∷ []) below)
          (due_next k records levels nodes at pos less its due some p 2 j first_below within_two place (l ∷ r ∷ []) is_shifted p 2 (head_of l ∷ head_of r ∷ []) (heads_swapped (nodes at) p 2 (l ∷ r ∷ []) after first_below))

-- an item is taken out of a page that keeps its head
pub put_lack : (k : ℕ) (records : List (List ℕ)) (levels : ℕ) (nodes : ℕ → List Node) (at pos : ℕ) → IsLack k records levels nodes at pos → 1 ≤ at → (p j : ℕ) → p < length (nodes at) → j < length (node_at (nodes at) p).items
    → pos ≡ before (nodes at) p + j → (n : Node) → n.items ≡ without (node_at (nodes at) p).items j → KeepsHead (nodes at) p n → IsSettled k records levels (with_level nodes at (splice (nodes at) p (n ∷ [])))
put_lack k records levels nodes at pos lack some p j below inside place n is keeps =
    put_due k records levels nodes at pos 1 [] lack some p j place below (omega (arith, inside)) n (is ∙ sym (swapped_one (node_at (nodes at) p).items j [] inside)) keeps

-- an item is taken out of two pages that become one
pub merge_lack : (k : ℕ) (records : List (List ℕ)) (levels : ℕ) (nodes : ℕ → List Node) (at pos : ℕ) → IsLack k records levels nodes at pos → 1 ≤ at → (p j : ℕ) → p + 1 < length (nodes at)
    → j < length ((node_at (nodes at) p).items ++ (node_at (nodes at) (suc p)).items) → pos ≡ before (nodes at) p + j
    → (n : Node) → n.items ≡ without ((node_at (nodes at) p).items ++ (node_at (nodes at) (suc p)).items) j → KeepsHead (nodes at) p n
    → IsLack k records levels (with_level nodes at (splice_two (nodes at) p (n ∷ []))) (at + 1) (suc p)
merge_lack k records levels nodes at pos lack some p j below inside place n is keeps =
    merge_due k records levels nodes at pos 1 [] lack some p j place below (omega (arith, inside)) n (is ∙ sym (swapped_one ((node_at (nodes at) p).items ++ (node_at (nodes at) (suc p)).items) j [] inside)) keeps

length-heads : (ns : List Node) → length (heads ns) ≡ length ns
length-heads [] = refl
length-heads (n ∷ ns) = omega (arith, length-map ns head_of)

-- a root of two children misses one: the other is the root
pub shrink_root : (k : ℕ) (records : List (List ℕ)) (lower : ℕ) (nodes : ℕ → List Node) (pos : ℕ) → IsLack k records (lower + 1) nodes (lower + 1) pos → IsSettled k records lower nodes
shrink_root k records lower nodes pos lack m m_below = lack.listed m (omega (arith, m_below)) (omega (arith, m_below))

one_of_two : (xs : List Item) (pos : ℕ) → pos < 2 → length xs ≡ 2 → length (swapped xs pos 1 []) ≡ 1
one_of_two [] pos less two = absurd (omega (arith, two))
one_of_two (a ∷ []) pos less two = absurd (omega (arith, two))
one_of_two (a ∷ b ∷ []) zero less two = refl
one_of_two (a ∷ b ∷ []) (suc zero) less two = refl
one_of_two (a ∷ b ∷ []) (suc (suc pos)) less two = absurd (omega (arith, less))
one_of_two (a ∷ b ∷ c ∷ xs) pos less two = absurd (omega (arith, two))

pub shrink_one : (k : ℕ) (records : List (List ℕ)) (lower : ℕ) (nodes : ℕ → List Node) (pos : ℕ) → IsLack k records (lower + 1) nodes (lower + 1) pos → 1 ≤ lower → pos < 2 → length (items_of (nodes (lower + 1))) ≡ 2
    → length (nodes lower) ≡ 1
shrink_one k records lower nodes pos lack some less two =
    omega (arith, length-heads (nodes lower), ap length (lack.due lower (omega arith) refl), ap length (rows_were k records nodes lower lower some refl), one_of_two (items_of (nodes (lower + 1))) pos less two)
