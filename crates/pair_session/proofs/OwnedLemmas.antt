-- The files that lines copy, and what is written for them.
use Rattle.std.proofs.Common.{◌≡◌, ℕ, zero, suc, ◌<◌, ◌≤◌, List, [], ◌∷◌, ◌++◌, length, take, Option, Some, None, refl, sym, ◌∙◌, ap, arith}
use Rattle.std.specs.Prelude.{option_map, slice_get}
use Rattle.std.proofs.lemmas.Option.{none-some, same_Some, slice_get_within}
use Rattle.labelled_disk.specs.Root.{number_at, page_in, short_at}
use Rattle.labelled_disk.specs.Sectors.{Sector}
use Rattle.labelled_disk.specs.State.{DiskState}
use Rattle.labelled_disk.specs.WriteRuns.{after_writes}
use Rattle.pair_machine.specs.declared.call.PairCall.{PairCall}
use Rattle.pair_machine.specs.declared.call.PairCall.TheVariants as call
use Rattle.swapper_kernel.specs.Goes.{IsDirty, no_page}
use Rattle.filer_kernel.specs.View.{View}
use Rattle.trace_io.specs.PairGrammar.{Ask, Close}
use Rattle.volume_pair.specs.Kept.{StartMade}
use Rattle.volume_pair.specs.Owned.{EachWrite, Files, IsInUseAs, IsWriteFor, RevealsWrites, WritesFor, no_file}
use Rattle.volume_pair.proofs.OwnedLemmas.{each_then, each_wider, reveals_still, root_stays, write_wider, writes_none, writes_then, writes_wider}
use Rattle.volume_pair.proofs.SideLemmas.{looked_nothing}
use Rattle.volume_pair.proofs.StartLemmas.{bare_slots}
use Rattle.pair_session.specs.Lines.{Item}
use Rattle.pair_session.specs.Owned.{copied_by_any, copied_by}
use Rattle.pair_session.specs.Pairs.{PairView}
use Rattle.pair_session.specs.Replicated.{KeepsRoot}

-- ---- Elements of lists in a row.

pub get_first : {X : Type 0} (xs ys : List X) (k : ℕ) (x : X) → slice_get xs k ≡ Some x → slice_get (xs ++ ys) k ≡ Some x
get_first [] ys k x at = absurd (none-some x at)
get_first (y ∷ xs) ys zero x at = at
get_first (y ∷ xs) ys (suc k) x at = get_first xs ys k x at

pub get_last : {X : Type 0} (xs ys : List X) (x : X) → slice_get (xs ++ x ∷ ys) (length xs) ≡ Some x
get_last [] ys x = refl
get_last (y ∷ xs) ys x = get_last xs ys x

pub get_past : {X : Type 0} (xs : List X) → slice_get xs (length xs) ≡ None
get_past [] = refl
get_past (y ∷ xs) = get_past xs

get_taken : {X : Type 0} (n : ℕ) (xs : List X) (k : ℕ) (x : X) → k < n → slice_get xs k ≡ Some x → slice_get (take n xs) k ≡ Some x
get_taken zero xs k x below at = absurd (omega (arith, below))
get_taken (suc n) [] k x below at = absurd (none-some x at)
get_taken (suc n) (y ∷ xs) zero x below at = at
get_taken (suc n) (y ∷ xs) (suc k) x below at = get_taken n xs k x (omega (arith, below)) at

-- ---- The files that lines copy.

copied_first : (items more : List Item) (id : ℕ) → copied_by_any items id → copied_by_any (items ++ more) id
copied_first items more id (k, at) = (k, get_first items more k (Some (Ask (call.Copy id))) at)

copied_last : (items : List Item) (item : Item) (id : ℕ) → copied_by item id → copied_by_any (items ++ item ∷ []) id
copied_last items (Some (Ask (call.Copy file))) id same = (length items, get_last items [] (Some (Ask (call.Copy file))) ∙ ap (λ (i : ℕ). Some (Some (Ask (call.Copy i)))) (sym same))
copied_last items (Some (Ask (call.Compare file))) id none = absurd none
copied_last items (Some Close) id none = absurd none
copied_last items None id none = absurd none

-- they are of the first lines of the text
pub copied_text : (lines more text : List Item) (n : ℕ) → text ≡ lines ++ more → length lines ≤ n → (id : ℕ) → copied_by_any lines id → copied_by_any (take n text) id
copied_text lines more text n all few id (k, at) =
    let within = slice_get_within lines k (Some (Ask (call.Copy id))) at in
    (k, ap (λ (l : List Item). slice_get (take n l) k) all ∙ get_taken n (lines ++ more) k (Some (Ask (call.Copy id))) (omega (arith, few, within)) (get_first lines more k (Some (Ask (call.Copy id))) at))

-- what was written for lines so far
abbrev pub OwnsEach : PairView → PairView → List Item → Type 0
OwnsEach v w items = WritesFor (copied_by_any items) v.to w.to

pub owns_none : (v : PairView) → OwnsEach v v []
owns_none v = writes_none (copied_by_any []) (looked_nothing v.to)

-- one line more
pub owns_more : (u v w : PairView) (items : List Item) (item : Item) → OwnsEach u v items → WritesFor (copied_by item) v.to w.to → OwnsEach u w (items ++ item ∷ [])
owns_more u v w items item first next =
    writes_then (writes_wider (copied_by_any (items ++ item ∷ [])) (λ id is. copied_first items (item ∷ []) id is) first) (writes_wider (copied_by_any (items ++ item ∷ [])) (λ id is. copied_last items item id is) next)

-- and then the end
pub owns_closed : (v w : PairView) (lines : List Item) {to : DiskState} → OwnsEach v w lines → EachWrite (IsWriteFor (IsDirty w.to.slots) no_file) w.to.disk to → RevealsWrites v.to.disk → EachWrite (IsWriteFor (IsDirty v.to.slots) (copied_by_any lines)) v.to.disk to
owns_closed v w lines owns last told =
    each_then (owns.own told) (each_wider (write_wider (IsDirty w.to.slots) (IsDirty v.to.slots) no_file (copied_by_any lines) owns.dirty (λ id none. absurd none)) last)

-- the root is that of before
pub owns_root : (v w : PairView) (lines : List Item) {to : DiskState} → OwnsEach v w lines → to ≡ w.to.disk → KeepsRoot v.to.disk to
owns_root v w lines owns same d e was now = root_stays owns.beside d e was (ap (λ (s : DiskState). s.contents) (sym same) ∙ now)

-- ---- After a start.

-- where none started, for any files
pub none_own : {a b : DiskState} (files : Files) → EachWrite (IsWriteFor (IsDirty []) no_file) a b → EachWrite (IsWriteFor no_page files) a b
none_own files h = each_wider (write_wider (IsDirty []) no_page no_file files (λ id page is. absurd (bare_slots 0 [] refl is.slot is.frame is.has)) (λ id none. absurd none)) h

module _ {old : DiskState} {v : View} (made : StartMade old v) where
  start_own : (items : List Item) → EachWrite (IsWriteFor no_page (copied_by_any items)) old v.disk
  start_own items = none_own (copied_by_any items) made.written.own

  -- each write of a whole replication
  pub all_own : (lines items : List Item) {to : DiskState} → ((id : ℕ) → copied_by_any lines id → copied_by_any items id) → (RevealsWrites v.disk → EachWrite (IsWriteFor (IsDirty v.slots) (copied_by_any lines)) v.disk to) → RevealsWrites old → EachWrite (IsWriteFor no_page (copied_by_any items)) old to
  all_own lines items wider own told =
      each_then (start_own items)
      (each_wider (write_wider (IsDirty v.slots) no_page (copied_by_any lines) (copied_by_any items) (λ id page is. absurd (made.clean id page is)) wider) (own (reveals_still (start_own items) told)))

  -- its volume is in use still
  pub still_in_use : (to : DiskState) → KeepsRoot v.disk to → (d e : List Sector) → old.contents ≡ Some d → to.contents ≡ Some e → IsInUseAs d e
  still_in_use to keeps d e was now =
      let first = start_own [] in
      let x = after_writes first.writes d in
      let mid : v.disk.contents ≡ Some x = first.appended.contents ∙ ap (option_map (after_writes first.writes)) was in
      let same = keeps x e mid now in
      let is = made.in_use d x was mid in
      record {
        open_flag = ap (λ (o : Option Sector). short_at (page_in o) 10) same ∙ is.open_flag;
        same_serial = ap (λ (o : Option Sector). number_at (page_in o) 16) same ∙ is.same_serial;
        same_counter = ap (λ (o : Option Sector). number_at (page_in o) 20) same ∙ is.same_counter;
      }

-- ---- What the text says of the line after those that were replied to.

-- no call is there
pub closed_there : (text items : List Item) (c : PairCall) {A : Type 0} → text ≡ items ++ Some Close ∷ [] → slice_get text (length items) ≡ Some (Some (Ask c)) → A
closed_there text items c all at =
    let both : Some Close ≡ Some (Ask c) = same_Some (Some Close) (Some (Ask c)) (sym (ap (λ (l : List Item). slice_get l (length items)) all ∙ get_last items [] (Some Close)) ∙ at) in
    absurd (cc both)

pub ended_there : (text items : List Item) (c : PairCall) {A : Type 0} → text ≡ items → slice_get text (length items) ≡ Some (Some (Ask c)) → A
ended_there text items c all at = absurd (none-some (Some (Ask c)) (sym (ap (λ (l : List Item). slice_get l (length items)) all ∙ get_past items) ∙ at))
