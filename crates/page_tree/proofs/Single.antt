-- A leaf of one record is the whole tree; and the header that is written.
use Rattle.std.proofs.Common.{◌≡◌, ◌≢◌, inl, inr, ℕ, zero, suc, ◌+◌, ◌*◌, ◌<◌, ◌≤◌, ◌⊎◌, Bool, true, false, List, [], ◌∷◌, length, remove, arith, refl, sym, ◌∙◌, ap, subst}
use Rattle.std.proofs.lemmas.Bool.{cases_lt, false≢true}
use Rattle.std.proofs.lemmas.List.{length-map}
use Rattle.flat_mem.specs.Memory.{overwritten}
use Rattle.page_tree.specs.Page.{IsWidths, page_at, kind_of, next_in, filled, record_item, IsLeaf}
use Rattle.page_tree.specs.Tree.{node_at, IsTree}
use Rattle.page_tree.specs.Open.{IsOpen}
use Rattle.page_tree.specs.Path.{IsPath}
use Rattle.page_tree.specs.Removed.{IsLastOf, NoneOf}
use Rattle.page_tree.specs.SectorState.{IsSectorState}
use Rattle.page_tree.specs.Out.{IsBare, IsOut}
use Rattle.page_tree.specs.Climb.{IsClosed}
use Rattle.page_tree.proofs.Once.{page_same, page_other}
use Rattle.page_tree.proofs.PlacedLaws.{placed_leaf}
use Rattle.page_tree.proofs.RebalanceEnds.{items_one}
use Rattle.page_tree.proofs.Neighbours.{leaf_room_least}
use Rattle.page_tree.proofs.PairOpen.{open_shrink}

one_gone : (xs : List (List ℕ)) (i : ℕ) → length xs ≡ 1 → i < length xs → remove xs i ≡ []
one_gone [] i one below = absurd (omega (arith, one))
one_gone (x ∷ []) zero one below = refl
one_gone (x ∷ []) (suc i) one below = absurd (omega (arith, below))
one_gone (x ∷ y ∷ xs) i one below = absurd (omega (arith, one))

module _ (e k pages : ℕ) (b : List ℕ) (records : List (List ℕ)) (levels root first top : ℕ) (here : IsSectorState e k pages b records levels root first top) (widths : IsWidths e k) (some : 0 < levels)
    (page paths index : List ℕ) (at : ℕ) (home : ℕ → ℕ) (path : IsPath here.nodes levels 1 paths index at home) (read : page ≡ page_at b (node_at (here.nodes 1) (home 1)).page) (one : filled page ≡ 1) where
  leaf_here : IsLeaf e k page (node_at (here.nodes 1) (home 1)).items
  leaf_here = placed_leaf e k b records levels here.nodes here.rooted.tower some page paths index at home path read

  pub single_level : levels ≤ 1
  single_level = elim (cases_lt 1 levels) [
    | inl more ↦
        let was = here.rooted.tower.filled 1 (home 1) (omega arith) more (path.inside 1 (omega arith) (omega (arith, some))) in
        absurd (omega (arith, was.leaf refl, leaf_here.count, one, (leaf_room_least e widths.entry_least widths.entry_most).0))
    | inr not ↦ omega (arith, not)
  ]

  is_one : levels ≡ 1
  is_one = omega (arith, single_level, some)

  tops : length (here.nodes 1) ≡ 1
  tops = ap (λ (l : ℕ). length (here.nodes l)) (sym is_one) ∙ here.rooted.one

  at_first : home 1 ≡ 0
  at_first = ap home (sym is_one) ∙ path.top

  at_is : at ≡ (node_at (here.nodes levels) 0).page
  at_is = path.here ∙ ap (λ (i : ℕ). (node_at (here.nodes 1) i).page) at_first ∙ ap (λ (l : ℕ). (node_at (here.nodes l) 0).page) (sym is_one)

  alone : length records ≡ 1
  alone =
      sym (ap length (here.rooted.tower.listed 0 some) ∙ length-map records (record_item k))
      ∙ ap length (items_one (here.nodes 1) tops) ∙ ap (λ (i : ℕ). length (node_at (here.nodes 1) i).items) (sym at_first) ∙ sym leaf_here.count ∙ one

  pub single_bare : (i : ℕ) → i < length records → (bytes : List ℕ) → length bytes ≡ 512 → kind_of bytes ≡ 0 → next_in bytes ≡ first → 512 * pages ≤ length b
      → IsBare e k pages (overwritten b (512 * at) bytes) (remove records i) 0 0 at top
  single_bare i below bytes long kind next size = record {
    none = refl;
    no_root = refl;
    empty = one_gone records i alone below;
    nodes = here.nodes;
    free = (node_at (here.nodes levels) 0).page ∷ here.free;
    opened = subst (λ (q : ℕ). IsOpen e k (overwritten b (512 * at) bytes) 0 here.nodes ((node_at (here.nodes levels) 0).page ∷ here.free) q top) (sym at_is)
        (open_shrink e k b levels here.nodes here.free first top (record { stored = here.rooted.tower.stored; filled = here.rooted.tower.filled; chain = here.chain; shared = here.shared }) 0 (omega (arith, is_one)) here.rooted.one (overwritten b (512 * at) bytes)
        (λ (q : ℕ) (some_q : 1 ≤ q) (other : q ≢ (node_at (here.nodes levels) 0).page). page_other b bytes at q long fits (λ (h : q ≡ at). other (h ∙ at_is)))
        (ap (λ (q : ℕ). kind_of (page_at (overwritten b (512 * at) bytes) q)) (sym at_is) ∙ ap kind_of (page_same b bytes at long fits) ∙ kind)
        (ap (λ (q : ℕ). next_in (page_at (overwritten b (512 * at) bytes) q)) (sym at_is) ∙ ap next_in (page_same b bytes at long fits) ∙ next));
    top_below = here.top_below;
  }
    where
      fits : 512 * at + 512 ≤ length b
      fits =
          let within = here.rooted.within levels 0 some (omega arith) (omega (arith, here.rooted.one)) in
          omega (arith, within.1, at_is, size)

pub out_true : (e k pages : ℕ) (reveals : List ℕ → Type 0) (b : List ℕ) (xs : List (List ℕ)) (key : List ℕ) (levels root first top : ℕ) (found : Bool) → found ≡ true → IsOut e k pages reveals b xs key levels root first top found
    → (i : ℕ) × IsLastOf k xs key i × (c : List ℕ) × reveals c × (((1 ≤ levels) × IsClosed e k pages c (remove xs i) levels root first top) ⊎ IsBare e k pages c (remove xs i) levels root first top)
out_true e k pages reveals b xs key levels root first top true is out = out
out_true e k pages reveals b xs key levels root first top false is out = absurd (false≢true is)

pub out_false : (e k pages : ℕ) (reveals : List ℕ → Type 0) (b : List ℕ) (xs : List (List ℕ)) (key : List ℕ) (levels root first top : ℕ) (found : Bool) → found ≡ false → IsOut e k pages reveals b xs key levels root first top found → NoneOf k xs key × reveals b
out_false e k pages reveals b xs key levels root first top false is out = out
out_false e k pages reveals b xs key levels root first top true is out = absurd (false≢true (sym is))

pub bare_at : (e k pages : ℕ) (c : List ℕ) (records : List (List ℕ)) (levels root first top levels' root' first' top' : ℕ) → levels ≡ levels' → root ≡ root' → first ≡ first' → top ≡ top' → IsBare e k pages c records levels root first top → IsBare e k pages c records levels' root' first' top'
bare_at e k pages c records levels root first top levels' root' first' top' same same_root same_first same_top bare =
    subst (λ (m : ℕ). IsBare e k pages c records m root' first' top') same (subst (λ (m : ℕ). IsBare e k pages c records levels m first' top') same_root
    (subst (λ (m : ℕ). IsBare e k pages c records levels root m top') same_first (subst (λ (m : ℕ). IsBare e k pages c records levels root first m) same_top bare)))

pub empty_revealed : (e k pages : ℕ) (reveals : List ℕ → Type 0) (records : List (List ℕ)) → [] ≡ records → (x : List ℕ) × reveals x × IsTree e k pages x [] → (x : List ℕ) × reveals x × IsTree e k pages x records
empty_revealed e k pages reveals records same empty = (empty.0, empty.1, subst (IsTree e k pages empty.0) same empty.2)
