-- Some neighbours of a level that are replaced by others, as the level above sees it.
use Rattle.std.proofs.Common.{◌≡◌, ℕ, zero, suc, ◌+◌, ◌<◌, ◌≤◌, List, [], ◌∷◌, ◌++◌, length, map, take, drop, arith, refl, sym, ◌∙◌, ap, append_assoc}
use Rattle.std.proofs.lemmas.List.{map-append, take-map, drop-map, take-append-drop}
use Rattle.std.proofs.lemmas.List.Concat.{flat_map-append}
use Rattle.page_tree.specs.Keys.{Item}
use Rattle.page_tree.specs.Tree.{Node, node_at, items_of, before, head_of, heads}
use Rattle.page_tree.specs.Change.{splice, splice_two}
use Rattle.page_tree.specs.Due.{swapped}
use Rattle.page_tree.proofs.Splice.{KeepsHead, head_kept, length-before}

module _ {X : Type 0} where
  pub swapped_one : (xs : List X) (p : ℕ) (mid : List X) → p < length xs → swapped xs p 1 mid ≡ splice xs p mid
  swapped_one [] p mid below = absurd (omega arith)
  swapped_one (c ∷ xs) zero mid below = refl
  swapped_one (c ∷ xs) (suc p) mid below = ap (λ (zs : List X). c ∷ zs) (swapped_one xs p mid (omega arith))

  pub swapped_two : (xs : List X) (p : ℕ) (mid : List X) → p + 1 < length xs → swapped xs p 2 mid ≡ splice_two xs p mid
  swapped_two [] p mid below = absurd (omega arith)
  swapped_two (c ∷ []) p mid below = absurd (omega arith)
  swapped_two (c ∷ d ∷ xs) zero mid below = refl
  swapped_two (c ∷ d ∷ xs) (suc p) mid below = ap (λ (zs : List X). c ∷ zs) (swapped_two (d ∷ xs) p mid (omega arith))

  pub swapped_none : (xs : List X) (p : ℕ) → swapped xs p 0 [] ≡ xs
  swapped_none xs p = take-append-drop p xs

  drop_prefix : (xs ys : List X) (n : ℕ) → n ≤ length xs → drop n (xs ++ ys) ≡ drop n xs ++ ys
  drop_prefix xs ys zero most = refl
  drop_prefix [] ys (suc n) most = absurd (omega arith)
  drop_prefix (c ∷ xs) ys (suc n) most = drop_prefix xs ys n (omega arith)

  pub swapped_prefix : (xs ys : List X) (j less : ℕ) (mid : List X) → j + less ≤ length xs → swapped (xs ++ ys) j less mid ≡ swapped xs j less mid ++ ys
  swapped_prefix xs ys zero less mid most = ap (λ (zs : List X). mid ++ zs) (drop_prefix xs ys less (omega (arith, most))) ∙ sym (append_assoc mid (drop less xs) ys)
  swapped_prefix [] ys (suc j) less mid most = absurd (omega arith)
  swapped_prefix (c ∷ xs) ys (suc j) less mid most = ap (λ (zs : List X). c ∷ zs) (swapped_prefix xs ys j less mid (omega arith))

  pub swapped_after : (xs ys : List X) (i at less : ℕ) (mid : List X) → at ≡ length xs + i → swapped (xs ++ ys) at less mid ≡ xs ++ swapped ys i less mid
  swapped_after [] ys i at less mid is = let same : at ≡ i = omega (arith, is) in ap (λ (m : ℕ). swapped ys m less mid) same
  swapped_after (c ∷ xs) ys i zero less mid is = absurd (omega (arith, is))
  swapped_after (c ∷ xs) ys i (suc at) less mid is = ap (λ (zs : List X). c ∷ zs) (swapped_after xs ys i at less mid (omega (arith, is)))

pub map_swapped : {X Y : Type 0} (f : X → Y) (xs : List X) (p n : ℕ) (mid : List X) → map f (swapped xs p n mid) ≡ swapped (map f xs) p n (map f mid)
map_swapped f xs p n mid =
    map-append f (take p xs) (mid ++ drop n (drop p xs))
    ∙ ap (λ (ys : List _). map f (take p xs) ++ ys) (map-append f mid (drop n (drop p xs)))
    ∙ ap (λ (ys : List _). ys ++ (map f mid ++ map f (drop n (drop p xs)))) (sym (take-map f p xs))
    ∙ ap (λ (ys : List _). take p (map f xs) ++ (map f mid ++ ys)) (sym (drop-map f n (drop p xs)))
    ∙ ap (λ (ys : List _). take p (map f xs) ++ (map f mid ++ drop n ys)) (sym (drop-map f p xs))

-- what the n pages from p on list
abbrev pub items_from : List Node → ℕ → ℕ → List Item
items_from ns p n = items_of (take n (drop p ns))

-- items of these pages replaced are items of the level replaced
pub items_swapped : (ns : List Node) (p n j less : ℕ) (mid : List Node) (its : List Item) → p ≤ length ns → j + less ≤ length (items_from ns p n) → items_of mid ≡ swapped (items_from ns p n) j less its
    → items_of (swapped ns p n mid) ≡ swapped (items_of ns) (before ns p + j) less its
items_swapped ns zero n j less mid its below inside is =
    let at : 0 + j ≡ j = omega arith in
    let all : items_of (take n ns) ++ items_of (drop n ns) ≡ items_of ns = sym (flat_map-append (λ (m : Node). m.items) (take n ns) (drop n ns)) ∙ ap items_of (take-append-drop n ns) in
    flat_map-append (λ (m : Node). m.items) mid (drop n ns) ∙ ap (λ (ys : List Item). ys ++ items_of (drop n ns)) is
    ∙ sym (swapped_prefix (items_of (take n ns)) (items_of (drop n ns)) j less its inside)
    ∙ ap (λ (ys : List Item). swapped ys j less its) all
    ∙ sym (ap (λ (m : ℕ). swapped (items_of ns) m less its) at)
items_swapped [] (suc p) n j less mid its below inside is = absurd (omega arith)
items_swapped (m ∷ ns) (suc p) n j less mid its below inside is =
    ap (λ (ys : List Item). m.items ++ ys) (items_swapped ns p n j less mid its (omega arith) inside is)
    ∙ sym (swapped_after m.items (items_of ns) (before ns p + j) (before (m ∷ ns) (suc p) + j) less its (omega (arith, length-before m ns p)))

-- pages replaced are heads replaced
pub heads_swapped : (ns : List Node) (p n : ℕ) (mid : List Node) → 0 < p → p < length ns → heads (swapped ns p n mid) ≡ swapped (heads ns) p n (map head_of mid)
heads_swapped [] p n mid some below = absurd (omega arith)
heads_swapped (m ∷ ns) zero n mid some below = absurd (omega arith)
heads_swapped (m ∷ ns) (suc p) n mid some below = ap (λ (hs : List Item). let first : Item = record { key = []; page = m.page; bytes = [] } in first ∷ hs) (map_swapped head_of ns p n mid)

map_kept : (ns : List Node) (p n : ℕ) (one : Node) (mid : List Node) → p < length ns → head_of one ≡ head_of (node_at ns p) → map head_of (swapped ns p (suc n) (one ∷ mid)) ≡ swapped (map head_of ns) (suc p) n (map head_of mid)
map_kept [] p n one mid below same = absurd (omega arith)
map_kept (m ∷ ns) zero n one mid below same =
    ap (λ (h : Item). h ∷ map head_of (mid ++ drop n ns)) same
    ∙ ap (λ (hs : List Item). head_of m ∷ hs) (map-append head_of mid (drop n ns) ∙ ap (λ (hs : List Item). map head_of mid ++ hs) (sym (drop-map head_of n ns)))
map_kept (m ∷ ns) (suc p) n one mid below same = ap (λ (hs : List Item). head_of m ∷ hs) (map_kept ns p n one mid (omega arith) same)

-- the first of them keeps its head
pub heads_kept : (ns : List Node) (p n : ℕ) (one : Node) (mid : List Node) → p < length ns → KeepsHead ns p one → heads (swapped ns p (suc n) (one ∷ mid)) ≡ swapped (heads ns) (suc p) n (map head_of mid)
heads_kept [] p n one mid below keeps = absurd (omega arith)
heads_kept (m ∷ ns) zero n one mid below keeps =
    ap (λ (page : ℕ). let first : Item = record { key = []; page = page; bytes = [] } in first ∷ map head_of (mid ++ drop n ns)) keeps.0
    ∙ ap (λ (hs : List Item). let first : Item = record { key = []; page = m.page; bytes = [] } in first ∷ hs)
    (map-append head_of mid (drop n ns) ∙ ap (λ (hs : List Item). map head_of mid ++ hs) (sym (drop-map head_of n ns)))
heads_kept (m ∷ ns) (suc p) n one mid below keeps =
    ap (λ (hs : List Item). let first : Item = record { key = []; page = m.page; bytes = [] } in first ∷ hs) (map_kept ns p n one mid (omega arith) (head_kept (m ∷ ns) (suc p) one (omega arith) keeps))
