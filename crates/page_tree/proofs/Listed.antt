-- What a memory reveals of its tree, from one state to the next.
use Rattle.std.proofs.Common.{◌≡◌, ℕ, ◌<◌, ◌/◌, Bool, true, false, List, [], length, map, insert, remove, slice_set, arith, ap, subst}
use Rattle.std.proofs.lemmas.List.{length-map, get_or-map}
use Rattle.std.proofs.lemmas.List.Edits.{length-insert}
use Rattle.flat_mem.specs.Order.{key_at, IsInKeyOrder}
use Rattle.page_tree.specs.Keys.{Item, no_item, item_at}
use Rattle.page_tree.specs.Page.{record_item}
use Rattle.page_tree.specs.Tree.{IsTree}
use Rattle.page_tree.specs.Put.{IsPut, FullOr}
use Rattle.page_tree.specs.Reveals.{RevealsTree, IsInserted, IsFull, IsTakenOut, IsPutOver}
use Rattle.page_tree.specs.Removed.{IsRemoved, IsReplaced}
use Rattle.page_tree.specs.Placed.{IsOutAt, IsSetAt}
use Rattle.page_tree.specs.declared.error.TreeError.{TreeError}
use Rattle.page_tree.specs.declared.error.TreeError.TheVariants.{Full, Malformed, Mem}

-- the entries of a well-formed tree are in ascending order
pub ascending_tree : (e k pages : ℕ) (b : List ℕ) (xs : List (List ℕ)) → IsTree e k pages b xs → IsInKeyOrder k xs
ascending_tree e k pages b xs tree i j order below =
    rw (← key_is i (omega (arith, order, below)), ← key_is j below) (tree.tower.ascending i j order (omega (arith, below, length-map xs (record_item k))))
  where
    key_is : (q : ℕ) → q < length xs → (item_at (map (record_item k) xs) q).key ≡ key_at k xs q
    key_is q inside = ap (λ (x : Item). x.key) (get_or-map (record_item k) xs q [] no_item inside)

pub lists_tree : (e k pages : ℕ) (reveals : List ℕ → Type 0) (b : List ℕ) (xs : List (List ℕ)) → reveals b → IsTree e k pages b xs → RevealsTree e k pages reveals xs
lists_tree e k pages reveals b xs revealed tree = record { bytes = b; revealed = revealed; tree = tree; ascending = ascending_tree e k pages b xs tree }

-- what is revealed stays revealed, in a memory of the same size
pub lists_kept : (e k s s' : ℕ) (reveals reveals' : List ℕ → Type 0) (xs : List (List ℕ)) → s ≡ s' → ((b : List ℕ) → reveals b → reveals' b) → RevealsTree e k (s / 512) reveals xs → RevealsTree e k (s' / 512) reveals' xs
lists_kept e k s s' reveals reveals' xs same kept lists = lists_tree e k (s' / 512) reveals' lists.bytes xs (kept lists.bytes lists.revealed) (subst (λ (n : ℕ). IsTree e k (n / 512) lists.bytes xs) same lists.tree)

module _ (e k s s' : ℕ) (reveals : List ℕ → Type 0) (xs : List (List ℕ)) (same : s ≡ s') where
  -- after an insertion
  pub lists_put : (entry : List ℕ) → IsPut e k (s / 512) reveals xs entry → IsInserted e k (s / 512) (RevealsTree e k (s' / 512) reveals) xs entry
  lists_put entry put = record {
    at = put.at;
    within = put.after.within;
    after = put.after.after;
    listed = lists_tree e k (s' / 512) reveals put.now (insert xs put.at entry) put.revealed (subst (λ (n : ℕ). IsTree e k (n / 512) put.now (insert xs put.at entry)) same put.tree);
    room = omega (arith, put.tree.capacity, length-insert xs put.at entry put.after.within);
  }

  pub lists_full : {X : Type 0} (b : List ℕ) → IsTree e k (s / 512) b xs → (why : TreeError X) → FullOr e (s / 512) reveals b xs why → IsFull e (s / 512) (RevealsTree e k (s' / 512) reveals) xs why
  lists_full b tree Full full = (full.0, lists_tree e k (s' / 512) reveals b xs full.1 (subst (λ (n : ℕ). IsTree e k (n / 512) b xs) same tree))
  lists_full b tree (Malformed page) full = full
  lists_full b tree (Mem error) full = full

  -- after a removal
  pub lists_out : (b key : List ℕ) (found : Bool) → IsTree e k (s / 512) b xs → IsRemoved e k (s / 512) reveals b xs key found → IsTakenOut k (RevealsTree e k (s' / 512) reveals) xs key found
  lists_out b key true tree out = (out.0, out.1, lists_tree e k (s' / 512) reveals out.2 (remove xs out.0) out.3 (subst (λ (n : ℕ). IsTree e k (n / 512) out.2 (remove xs out.0)) same out.4))
  lists_out b key false tree out = (out.0, lists_tree e k (s' / 512) reveals b xs out.1 (subst (λ (n : ℕ). IsTree e k (n / 512) b xs) same tree))

  -- after a removal by index
  pub lists_out_at : (i : ℕ) → IsOutAt e k (s / 512) reveals xs i → RevealsTree e k (s' / 512) reveals (remove xs i)
  lists_out_at i out = lists_tree e k (s' / 512) reveals out.0 (remove xs i) out.1 (subst (λ (n : ℕ). IsTree e k (n / 512) out.0 (remove xs i)) same out.2)

  -- after a replacement by index
  pub lists_set_at : (i : ℕ) (entry : List ℕ) → IsSetAt e k (s / 512) reveals xs i entry → RevealsTree e k (s' / 512) reveals (slice_set xs i entry)
  lists_set_at i entry set = lists_tree e k (s' / 512) reveals set.0 (slice_set xs i entry) set.1 (subst (λ (n : ℕ). IsTree e k (n / 512) set.0 (slice_set xs i entry)) same set.2)

  -- after a replacement
  pub lists_over : (b entry : List ℕ) (found : Bool) → IsTree e k (s / 512) b xs → IsReplaced e k (s / 512) reveals b xs entry found → IsPutOver k (RevealsTree e k (s' / 512) reveals) xs entry found
  lists_over b entry true tree set = (set.0, set.1, lists_tree e k (s' / 512) reveals set.2 (slice_set xs set.0 entry) set.3 (subst (λ (n : ℕ). IsTree e k (n / 512) set.2 (slice_set xs set.0 entry)) same set.4))
  lists_over b entry false tree set = (set.0, lists_tree e k (s' / 512) reveals b xs set.1 (subst (λ (n : ℕ). IsTree e k (n / 512) b xs) same tree))
