-- Two neighbours that were redistributed out, as the page above is to note it.
use Rattle.std.proofs.Common.{◌≡◌, ◌≢◌, inl, inr, arith, ℕ, ◌+◌, ◌*◌, ◌/◌, ◌<◌, ◌≤◌, Bool, true, false, List, [], ◌∷◌, get_or, refl, sym, ap, subst}
use Rattle.page_tree.specs.Keys.{Item}
use Rattle.page_tree.specs.Page.{link_at}
use Rattle.page_tree.specs.Climb.{child_item, IsClosed}
use Rattle.page_tree.specs.Rebalance.{IsRebalance}
use Rattle.page_tree.specs.Underfull.{IsPending, IsSecond, IsRedistribution, IsRedistributed, IsBeside, NeedsKeyUpdate, IsRebalanced}
use Rattle.std.proofs.lemmas.Bool.{false≢true, cases_lt, cases_eq}
use Rattle.flat_mem.specs.Memory.{overwritten}

beside_of : (e k s s' : ℕ) (reveals : List ℕ → Type 0) (b : List ℕ) (records : List (List ℕ)) (levels level : ℕ) (paths index : List ℕ) (left_at right_at slot slot' less : ℕ) (its its' : List Item) (root first top : ℕ) → s ≡ s' → slot ≡ slot' → its ≡ its'
    → 1 ≤ get_or paths (level + 1) 0 → get_or paths (level + 1) 0 ≢ left_at → get_or paths (level + 1) 0 ≢ right_at
    → IsRedistribution e k (s' / 512) reveals b records levels level paths index left_at right_at slot less its root first top → IsBeside e k (s / 512) reveals b records levels level paths index slot' less its' root first top
beside_of e k s s' reveals b records levels level paths index left_at right_at slot slot' less its its' root first top size same same_its some one two redistribute = record {
  now = redistribute.now;
  revealed = redistribute.revealed;
  rebalance = subst (λ (m : ℕ). IsRebalance e k (m / 512) redistribute.now records levels (level + 1) paths index (get_or paths (level + 1) 0) slot' less its' root first top) (sym size)
      (subst (λ (m : ℕ). IsRebalance e k (s' / 512) redistribute.now records levels (level + 1) paths index (get_or paths (level + 1) 0) m less its' root first top) same
      (subst (λ (xs : List Item). IsRebalance e k (s' / 512) redistribute.now records levels (level + 1) paths index (get_or paths (level + 1) 0) slot less xs root first top) same_its redistribute.rebalance));
  above = redistribute.others (get_or paths (level + 1) 0) some one two;
}

pub needs_key_update : (e k s s' : ℕ) (reveals : List ℕ → Type 0) (b : List ℕ) (records : List (List ℕ)) (levels level : ℕ) (paths index above : List ℕ) (left_at right_at slot slot' : ℕ) (key : List ℕ) (root first top : ℕ) (joined : Bool) → s ≡ s' → slot ≡ slot'
    → 1 ≤ get_or paths (level + 1) 0 → get_or paths (level + 1) 0 ≢ left_at → get_or paths (level + 1) 0 ≢ right_at → right_at ≡ link_at k above slot'
    → IsRedistributed e k (s' / 512) reveals b records levels level paths index left_at right_at slot key root first top joined → NeedsKeyUpdate e k (s / 512) reveals b records levels level paths index above slot' key root first top joined
needs_key_update e k s s' reveals b records levels level paths index above left_at right_at slot slot' key root first top true size same some one two linked redistribute =
    beside_of e k s s' reveals b records levels level paths index left_at right_at slot slot' 1 [] [] root first top size same refl some one two redistribute
needs_key_update e k s s' reveals b records levels level paths index above left_at right_at slot slot' key root first top false size same some one two linked redistribute =
    beside_of e k s s' reveals b records levels level paths index left_at right_at slot slot' 1 (child_item key right_at ∷ []) (child_item key (link_at k above slot') ∷ []) root first top size same (ap (λ (q : ℕ). child_item key q ∷ []) linked) some one two redistribute

pub key_updated_joined : (e k pages : ℕ) (reveals : List ℕ → Type 0) (b : List ℕ) (records : List (List ℕ)) (levels level : ℕ) (paths index above : List ℕ) (slot : ℕ) (key : List ℕ) (root first top : ℕ) (joined : Bool) → joined ≡ true
    → NeedsKeyUpdate e k pages reveals b records levels level paths index above slot key root first top joined → IsBeside e k pages reveals b records levels level paths index slot 1 [] root first top
key_updated_joined e k pages reveals b records levels level paths index above slot key root first top true is key_update = key_update
key_updated_joined e k pages reveals b records levels level paths index above slot key root first top false is key_update = absurd (false≢true is)

pub key_updated_shifted : (e k pages : ℕ) (reveals : List ℕ → Type 0) (b : List ℕ) (records : List (List ℕ)) (levels level : ℕ) (paths index above : List ℕ) (slot : ℕ) (key : List ℕ) (root first top : ℕ) (joined : Bool) → joined ≡ false
    → NeedsKeyUpdate e k pages reveals b records levels level paths index above slot key root first top joined → IsBeside e k pages reveals b records levels level paths index slot 1 (child_item key (link_at k above slot) ∷ []) root first top
key_updated_shifted e k pages reveals b records levels level paths index above slot key root first top false is key_update = key_update
key_updated_shifted e k pages reveals b records levels level paths index above slot key root first top true is key_update = absurd (false≢true (sym is))

pub pending_at : (e k pages : ℕ) (b : List ℕ) (records : List (List ℕ)) (levels level : ℕ) (paths index : List ℕ) (at at' : ℕ) (page page' : List ℕ) (root first top top' : ℕ) → at ≡ at' → page ≡ page' → top ≡ top'
    → IsPending e k pages b records levels level paths index at page root first top → IsPending e k pages b records levels level paths index at' page' root first top'
pending_at e k pages b records levels level paths index at at' page page' root first top top' same same_page same_top pending =
    subst (λ (m : ℕ). IsPending e k pages b records levels level paths index m page' root first top') same
    (subst (λ (x : List ℕ). IsPending e k pages b records levels level paths index at x root first top') same_page
    (subst (λ (m : ℕ). IsPending e k pages b records levels level paths index at page root first m) same_top pending))

pub closed_at : (e k pages : ℕ) (b bytes : List ℕ) (records : List (List ℕ)) (at at' levels levels' root root' top top' : ℕ) {first : ℕ} → at ≡ at' → levels ≡ levels' → root ≡ root' → at ≡ first → top ≡ top'
    → IsClosed e k pages (overwritten b (512 * at) bytes) records levels root at top → IsClosed e k pages (overwritten b (512 * at') bytes) records levels' root' first top'
closed_at e k pages b bytes records at at' levels levels' root root' top top' {first} same same_levels same_root same_first same_top closed =
    subst (λ (m : ℕ). IsClosed e k pages (overwritten b (512 * m) bytes) records levels' root' first top') same
    (subst (λ (m : ℕ). IsClosed e k pages (overwritten b (512 * at) bytes) records m root' first top') same_levels
    (subst (λ (m : ℕ). IsClosed e k pages (overwritten b (512 * at) bytes) records levels m first top') same_root
    (subst (λ (m : ℕ). IsClosed e k pages (overwritten b (512 * at) bytes) records levels root m top') same_first
    (subst (λ (m : ℕ). IsClosed e k pages (overwritten b (512 * at) bytes) records levels root at m) same_top closed))))

pub root_level : (level levels count : ℕ) → level < levels → count ≡ 1 → (level + 1 < levels → 2 ≤ count) → levels ≡ level + 1
root_level level levels count under one more = elim (cases_lt (level + 1) levels) [
  | inl below ↦ absurd (omega (arith, more below, one))
  | inr not ↦ omega (arith, not, under)
]

pub second_in : (index count slot : ℕ) → IsSecond index slot → 1 ≤ count → index ≤ count → (1 ≤ slot) × (slot ≤ count)
second_in index count slot second some most = elim (cases_eq index 0) [
  | inl none ↦ (omega (arith, second.at_first none), omega (arith, second.at_first none, some))
  | inr other ↦ (omega (arith, second.after (omega (arith, other)), other), omega (arith, second.after (omega (arith, other)), most))
]

pub pending_moved : (e k s s' : ℕ) (b : List ℕ) (records : List (List ℕ)) (levels levels' level : ℕ) (paths index : List ℕ) (at : ℕ) (page : List ℕ) (root root' first top : ℕ) → s ≡ s' → levels ≡ levels' → root ≡ root'
    → IsPending e k (s / 512) b records levels level paths index at page root first top → IsPending e k (s' / 512) b records levels' level paths index at page root' first top
pending_moved e k s s' b records levels levels' level paths index at page root root' first top size same same_root pending =
    subst (λ (m : ℕ). IsPending e k (m / 512) b records levels' level paths index at page root' first top) size
    (subst (λ (m : ℕ). IsPending e k (s / 512) b records m level paths index at page root' first top) same
    (subst (λ (m : ℕ). IsPending e k (s / 512) b records levels level paths index at page m first top) same_root pending))

pub rebalanced_done : (e k pages : ℕ) (reveals : List ℕ → Type 0) (records : List (List ℕ)) (levels level : ℕ) (paths index : List ℕ) (at : ℕ) (page : List ℕ) (root first top levels' root' : ℕ) (done : Bool) → done ≡ true → IsRebalanced e k pages reveals records levels level paths index at page root first top levels' root' done
    → (c : List ℕ) × reveals c × IsClosed e k pages c records levels' root' first top
rebalanced_done e k pages reveals records levels level paths index at page root first top levels' root' true is rebalanced = rebalanced
rebalanced_done e k pages reveals records levels level paths index at page root first top levels' root' false is rebalanced = absurd (false≢true is)

pub rebalanced_more : (e k pages : ℕ) (reveals : List ℕ → Type 0) (records : List (List ℕ)) (levels level : ℕ) (paths index : List ℕ) (at : ℕ) (page : List ℕ) (root first top levels' root' : ℕ) (done : Bool) → done ≡ false → IsRebalanced e k pages reveals records levels level paths index at page root first top levels' root' done
    → (c : List ℕ) × reveals c × IsPending e k pages c records levels level paths index at page root first top
rebalanced_more e k pages reveals records levels level paths index at page root first top levels' root' false is rebalanced = rebalanced
rebalanced_more e k pages reveals records levels level paths index at page root first top levels' root' true is rebalanced = absurd (false≢true (sym is))
