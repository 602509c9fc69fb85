-- The map that runs make which were read one after the other.
use Rattle.std.proofs.Common.{◌≡◌, inl, inr, ℕ, zero, suc, ◌+◌, ◌<◌, ◌≤◌, ◌^◌, true, List, [], length, map, Some, refl, sym, ◌∙◌, ap, subst, arith}
use Rattle.std.specs.Prelude.{slice_get}
use Rattle.std.proofs.lemmas.Bool.{cases_lt, cases_eq}
use Rattle.std.proofs.lemmas.List.{length-map, get_or-map}
use Rattle.std.proofs.lemmas.Option.{same_Some, slice_get-get_or, slice_get_within}
use Rattle.flat_mem.specs.Order.{at_most, IsInKeyOrder, key_at}
use Rattle.page_tree.specs.Keys.{Item, no_item, item_at, AreInKeyOrder}
use Rattle.page_tree.specs.Page.{record_item}
use Rattle.labelled_disk.specs.Layout.{vfm}
use Rattle.file_map.specs.declared.run.Run.{Run}
use Rattle.file_map.specs.Run.{IsRun, holds, key_bytes, run_bytes}
use Rattle.file_map.specs.FileMap.{AreRuns, run_at, no_run, most_records}
use Rattle.file_map.proofs.Keys.{keys_ordered}
use Rattle.file_map.proofs.Runs.{rank_of, has_page, key_of_entry}
use Rattle.volume_view.specs.Form.{HasForm, AreRead}
use Rattle.volume_view.specs.Walk.{IsWalked}
use Rattle.page_tree.specs.Tree.{IsTree}
use Rattle.volume_view.proofs.RecordLemmas.{step_follows}
use Rattle.volume_view.proofs.WalkLemmas.{tree_of}
use Rattle.volume_view.proofs.FormedLemmas.{walk_of}

module _ (n : ℕ) (records : List (List ℕ)) (runs : List Run) (is : AreRead n records runs) where
  form_at : (j : ℕ) → j < length runs → IsRun n (run_at runs j)
  form_at j below = is.form j (run_at runs j) (slice_get-get_or runs j no_run below)

  apart : (j k : ℕ) → j < k → k < length runs → rank_of (run_at runs j) + (run_at runs j).pages ≤ rank_of (run_at runs k)
  apart j zero order below = absurd (omega (arith, order))
  apart j (suc k) order below =
      let a = form_at k (omega (arith, below)) in
      let c = form_at (suc k) below in
      let step : rank_of (run_at runs k) + (run_at runs k).pages ≤ rank_of (run_at runs (suc k)) = elim (is.follow (suc k) below) [
        | inl less ↦ omega (arith, less, a.pages_fit)
        | inr same ↦ omega (arith, same.0, same.1)
      ] in
      elim (cases_eq j k) [
        | inl equal ↦ let at = ap (λ i. rank_of (run_at runs i) + (run_at runs i).pages) equal in omega (arith, at, step)
        | inr other ↦ let far = apart j k (omega (arith, order, other)) (omega (arith, below)) in omega (arith, far, step)
      ]

  once : (j k id page : ℕ) → j < k → k < length runs → holds (run_at runs j) id page ≡ true → holds (run_at runs k) id page ≡ true → ⊥
  once j k id page order below here there =
      let far = apart j k order below in
      let a = has_page (run_at runs j) id page here in
      let c = has_page (run_at runs k) id page there in
      omega (arith, far, a.same, a.below, c.same, c.from)

  runs_are : AreRuns n runs
  runs_are = record {
    each = form_at;
    once = λ j k id page j_below k_below here there. elim (cases_lt j k) [
      | inl low ↦ absurd (once j k id page low k_below here there)
      | inr high ↦ elim (cases_lt k j) [
        | inl more ↦ absurd (once k j id page more j_below there here)
        | inr equal ↦ omega (arith, high, equal)
      ]
    ];
  }

  up : (j k : ℕ) → j ≤ k → k < length runs → rank_of (run_at runs j) ≤ rank_of (run_at runs k)
  up j k order below = elim (cases_eq j k) [
    | inl equal ↦ let at = ap (λ i. rank_of (run_at runs i)) equal in omega (arith, at)
    | inr other ↦ let far = apart j k (omega (arith, order, other)) below in omega (arith, far)
  ]

  ascending : IsInKeyOrder 12 (map run_bytes runs)
  ascending j k order below =
      let short : k < length runs = omega (arith, below, length-map runs run_bytes) in
      let a = form_at j (omega (arith, order, short)) in
      let c = form_at k short in
      ap (λ x. at_most x (key_at 12 (map run_bytes runs) k)) (key_of_entry runs j (omega (arith, order, short)))
      ∙ ap (at_most (key_bytes (run_at runs j).id (run_at runs j).first)) (key_of_entry runs k short)
      ∙ (keys_ordered _ _ _ _ a.id_fits (omega (arith, a.some, a.pages_fit)) c.id_fits (omega (arith, c.some, c.pages_fit))).low (up j k order short)

  -- the records of these runs are in order
  pub items_rise : AreInKeyOrder (map (record_item 12) (map run_bytes runs))
  items_rise j k order below =
      let long = length-map (map run_bytes runs) (record_item 12) in
      let one = get_or-map (record_item 12) (map run_bytes runs) j [] no_item (omega (arith, order, below, long)) in
      let two = get_or-map (record_item 12) (map run_bytes runs) k [] no_item (omega (arith, below, long)) in
      ap (λ (x : Item). at_most x.key (item_at (map (record_item 12) (map run_bytes runs)) k).key) one ∙ ap (λ (x : Item). at_most (key_at 12 (map run_bytes runs) j) x.key) two ∙ ascending j k order (omega (arith, below, long))

  -- a walk that met them met a map in form
  pub has_form : (bytes : List ℕ) (free : List ℕ) → IsWalked (vfm n) bytes records free → length runs ≤ most_records n → HasForm n bytes
  has_form bytes free walked few = record {
    runs = runs;
    of_map = record {
      listed = record {
        bytes = bytes;
        revealed = refl;
        tree = subst (IsTree 24 12 (vfm n) bytes) (sym is.listed) (tree_of (vfm n) bytes records free walked);
        ascending = ascending;
      };
      form = runs_are;
    };
    few = few;
  }

-- what a walk over a map in form meets
pub record IsMet (n : ℕ) (bytes : List ℕ) : Type 0 where
  pub runs : List Run
  pub records : List (List ℕ)
  pub free : List ℕ
  pub read : AreRead n records runs
  pub walked : IsWalked (vfm n) bytes records free
  pub few : length runs ≤ most_records n

pub form_is_met : (n : ℕ) (bytes : List ℕ) → n < 2 ^ 32 → HasForm n bytes → IsMet n bytes
form_is_met n bytes few form = record {
  runs = form.runs;
  records = map run_bytes form.runs;
  free = (subst (λ (b : List ℕ). IsTree 24 12 (vfm n) b (map run_bytes form.runs)) form.of_map.listed.revealed form.of_map.listed.tree).free;
  read = record {
    listed = refl;
    form = λ j r at. subst (IsRun n) (is_at form.runs j r at) (form.of_map.form.each j (slice_get_within form.runs j r at));
    follow = λ k below. step_follows n bytes form.runs few form.of_map k below;
  };
  walked = walk_of (vfm n) bytes (map run_bytes form.runs) (subst (λ (b : List ℕ). IsTree 24 12 (vfm n) b (map run_bytes form.runs)) form.of_map.listed.revealed form.of_map.listed.tree);
  few = form.few;
}
  where
    is_at : (runs : List Run) (j : ℕ) (r : Run) → slice_get runs j ≡ Some r → run_at runs j ≡ r
    is_at runs j r at = same_Some (run_at runs j) r (sym (slice_get-get_or runs j no_run (slice_get_within runs j r at)) ∙ at)
