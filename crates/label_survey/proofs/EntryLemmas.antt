-- Entries that are collected and sorted.
use Rattle.std.proofs.Common.{◌≡◌, ℕ, zero, suc, ◌+◌, Bool, true, false, cond, List, [], ◌∷◌, ◌++◌, take, Some, refl, sym, ◌∙◌, ap, subst, arith}
use Rattle.std.specs.Prelude.{slice_get, slice_index_or}
use Rattle.std.specs.List.{All}
use Rattle.std.specs.List.Sorted.{IsPermutation}
use Rattle.std.proofs.lemmas.List.Sorted.{All-permutation, Contains-permutation}
use Rattle.std.proofs.lemmas.Option.{same_Some, none-some, slice_get_within, slice_get-get_or, get_or_from_slice_get}
use Rattle.std.proofs.lemmas.Bool.{false≢true}
use Rattle.labelled_disk.specs.declared.label.Label.{Label}
use Rattle.labelled_disk.specs.Label.{is_file}
use Rattle.label_survey.specs.declared.entries.Entry.{Entry}
use Rattle.label_survey.specs.Entries.{place_of, entry_of, entries_from, AreOf}
use Rattle.label_survey.proofs.OnceLemmas.{Rises, rises_earlier, once_moved}
use Rattle.label_survey.proofs.SortLemmas.{append_nil}

-- Collected.

-- the entries of one label
abbrev pub of_one : ℕ → Label → List Entry
of_one i l = cond (is_file l) (entry_of i l ∷ []) []

one_collected : (n : ℕ) (labels : List Label) (k : ℕ) (l : Label) → slice_get labels k ≡ Some l → entries_from n (take (suc k) labels) ≡ entries_from n (take k labels) ++ of_one (n + k) l
one_collected n [] k l here = absurd (none-some l here)
one_collected n (x ∷ xs) zero l here =
    let same : x ≡ l = same_Some x l here in
    let z : n + 0 ≡ n = omega arith in
    either (is_file x) x ∙ ap (λ (y : Label). of_one n y) same ∙ ap (λ (m : ℕ). of_one m l) (sym z)
  where
    either : (b : Bool) (y : Label) → cond b (entry_of n y ∷ []) [] ≡ cond b (entry_of n y ∷ []) []
    either b y = refl
one_collected n (x ∷ xs) (suc k) l here =
    let e : n + 1 + k ≡ n + suc k = omega arith in
    let more = one_collected (n + 1) xs k l here ∙ ap (λ (m : ℕ). entries_from (n + 1) (take k xs) ++ of_one m l) e in
    either (is_file x) more
  where
    either : (b : Bool) → entries_from (n + 1) (take (suc k) xs) ≡ entries_from (n + 1) (take k xs) ++ of_one (n + suc k) l
        → cond b (entry_of n x ∷ entries_from (n + 1) (take (suc k) xs)) (entries_from (n + 1) (take (suc k) xs)) ≡ cond b (entry_of n x ∷ entries_from (n + 1) (take k xs)) (entries_from (n + 1) (take k xs)) ++ of_one (n + suc k) l
    either true e = ap (λ (r : List Entry). entry_of n x ∷ r) e
    either false e = e

-- one label more, of a file or not
pub collected_more : (labels : List Label) (k : ℕ) (l : Label) (b : Bool) → is_file l ≡ b → slice_get labels k ≡ Some l
    → entries_from 0 (take (k + 1) labels) ≡ entries_from 0 (take k labels) ++ cond b (entry_of k l ∷ []) []
collected_more labels k l b is here =
    let s : k + 1 ≡ suc k = omega arith in
    let z : 0 + k ≡ k = omega arith in
    ap (λ (n : ℕ). entries_from 0 (take n labels)) s
    ∙ one_collected 0 labels k l here
    ∙ ap (λ (n : ℕ). entries_from 0 (take k labels) ++ of_one n l) z
    ∙ ap (λ (c : Bool). entries_from 0 (take k labels) ++ cond c (entry_of k l ∷ []) []) is

pub collected_file : (labels : List Label) (k : ℕ) (l : Label) (old new : List Entry) (place sector : ℕ) → old ≡ entries_from 0 (take k labels)
    → new ≡ old ++ record { id = l.id; place = place; sector = sector } ∷ [] → place ≡ place_of l → sector ≡ k → is_file l ≡ true → slice_get labels k ≡ Some l
    → new ≡ entries_from 0 (take (k + 1) labels)
collected_file labels k l old new place sector so_far pushed is_place is_sector file here =
    pushed
    ∙ ap (λ (es : List Entry). es ++ record { id = l.id; place = place; sector = sector } ∷ []) so_far
    ∙ ap (λ (p : ℕ). entries_from 0 (take k labels) ++ record { id = l.id; place = p; sector = sector } ∷ []) is_place
    ∙ ap (λ (n : ℕ). entries_from 0 (take k labels) ++ record { id = l.id; place = place_of l; sector = n } ∷ []) is_sector
    ∙ sym (collected_more labels k l true file here)

pub collected_other : (labels : List Label) (k : ℕ) (l : Label) (old : List Entry) → old ≡ entries_from 0 (take k labels) → is_file l ≡ false → slice_get labels k ≡ Some l
    → old ≡ entries_from 0 (take (k + 1) labels)
collected_other labels k l old so_far other here =
    let nil = append_nil (entries_from 0 (take k labels)) in
    so_far ∙ sym nil ∙ sym (collected_more labels k l false other here)

-- Of the labels.

-- what each entry of a list of labels is, the first label being that of sector n
abbrev IsFrom : ℕ → List Label → Entry → Type 0
IsFrom n labels e = (k : ℕ) × (l : Label) × (slice_get labels k ≡ Some l) × (is_file l ≡ true) × (e ≡ entry_of (n + k) l)

each_from : (n : ℕ) (labels : List Label) (j : ℕ) (e : Entry) → slice_get (entries_from n labels) j ≡ Some e → IsFrom n labels e
each_from n [] j e here = absurd (none-some e here)
each_from n (x ∷ xs) j e here = either (is_file x) refl (λ i at. each_from (n + 1) xs i e at) j here
  where
    later : IsFrom (n + 1) xs e → IsFrom n (x ∷ xs) e
    later is = let same : n + 1 + is.0 ≡ n + suc is.0 = omega arith in (suc is.0, is.1, is.2, is.3, is.4 ∙ ap (λ (m : ℕ). entry_of m is.1) same)

    either : (b : Bool) → is_file x ≡ b → ((i : ℕ) → slice_get (entries_from (n + 1) xs) i ≡ Some e → IsFrom (n + 1) xs e)
        → (i : ℕ) → slice_get (cond b (entry_of n x ∷ entries_from (n + 1) xs) (entries_from (n + 1) xs)) i ≡ Some e → IsFrom n (x ∷ xs) e
    either true is more zero at = let z : n ≡ n + 0 = omega arith in (0, x, refl, is, sym (same_Some (entry_of n x) e at) ∙ ap (λ (m : ℕ). entry_of m x) z)
    either true is more (suc i) at = later (more i at)
    either false is more i at = later (more i at)

all_from : (n : ℕ) (labels : List Label) (k : ℕ) (l : Label) → slice_get labels k ≡ Some l → is_file l ≡ true → (j : ℕ) × (slice_get (entries_from n labels) j ≡ Some (entry_of (n + k) l))
all_from n [] k l here is = absurd (none-some l here)
all_from n (x ∷ xs) zero l here is =
    let same : x ≡ l = same_Some x l here in
    let z : n ≡ n + 0 = omega arith in
    either (is_file x) (ap is_file same ∙ is) (ap (λ (y : Label). entry_of n y) same ∙ ap (λ (m : ℕ). entry_of m l) z)
  where
    either : (b : Bool) → b ≡ true → entry_of n x ≡ entry_of (n + 0) l → (j : ℕ) × (slice_get (cond b (entry_of n x ∷ entries_from (n + 1) xs) (entries_from (n + 1) xs)) j ≡ Some (entry_of (n + 0) l))
    either true e at = (0, ap (λ (y : Entry). Some y) at)
    either false e at = absurd (false≢true e)
all_from n (x ∷ xs) (suc k) l here is =
    let e : n + 1 + k ≡ n + suc k = omega arith in
    let more = all_from (n + 1) xs k l here is in
    either (is_file x) more.0 (more.1 ∙ ap (λ (m : ℕ). Some (entry_of m l)) e)
  where
    either : (b : Bool) (j : ℕ) → slice_get (entries_from (n + 1) xs) j ≡ Some (entry_of (n + suc k) l)
        → (i : ℕ) × (slice_get (cond b (entry_of n x ∷ entries_from (n + 1) xs) (entries_from (n + 1) xs)) i ≡ Some (entry_of (n + suc k) l))
    either true j at = (suc j, at)
    either false j at = (j, at)

-- the sectors of collected entries rise
entries_rise : (n : ℕ) (labels : List Label) → Rises (λ (e : Entry). e.sector) n (entries_from n labels)
entries_rise n [] = tt
entries_rise n (x ∷ xs) = either (is_file x) (entries_rise (n + 1) xs)
  where
    either : (b : Bool) → Rises (λ (e : Entry). e.sector) (n + 1) (entries_from (n + 1) xs)
        → Rises (λ (e : Entry). e.sector) n (cond b (entry_of n x ∷ entries_from (n + 1) xs) (entries_from (n + 1) xs))
    either true up = (omega arith, up)
    either false up = rises_earlier (λ (e : Entry). e.sector) n (n + 1) (entries_from (n + 1) xs) (omega arith) up

-- in any order
pub of_collected : (labels : List Label) (collected sorted : List Entry) → collected ≡ entries_from 0 labels → IsPermutation collected sorted → AreOf labels sorted
of_collected labels collected sorted is moved = record {
  each = λ k e at.
      let from = every k e at in
      let z : 0 + from.0 ≡ from.0 = omega arith in
      let sector : e.sector ≡ from.0 = ap (λ (b : Entry). b.sector) from.4 ∙ z in
      (from.1, ap (slice_get labels) sector ∙ from.2, from.3, from.4 ∙ ap (λ (m : ℕ). entry_of m from.1) (z ∙ sym sector));
  all = λ i l here file.
      let z : 0 + i ≡ i = omega arith in
      let from = all_from 0 labels i l here file in
      let at = ap (λ (es : List Entry). slice_get es from.0) is ∙ from.1 ∙ ap (λ (m : ℕ). Some (entry_of m l)) z in
      let has = Contains-permutation collected sorted (entry_of i l) moved (from.0, slice_get_within collected from.0 (entry_of i l) at, get_or_from_slice_get collected from.0 (entry_of i l) (entry_of i l) at) in
      (has.0, slice_get-get_or sorted has.0 (entry_of i l) has.1 ∙ ap (λ (e : Entry). Some e) has.2);
  once = once_moved (λ (e : Entry). e.sector) 0 (entries_from 0 labels) sorted (entries_rise 0 labels) (subst (λ (es : List Entry). IsPermutation es sorted) is moved);
}
  where
    given : All (IsFrom 0 labels) collected
    given k e l = each_from 0 labels k (slice_index_or collected k e) (ap (λ (es : List Entry). slice_get es k) (sym is) ∙ slice_get-get_or collected k e l)

    every : (k : ℕ) (e : Entry) → slice_get sorted k ≡ Some e → IsFrom 0 labels e
    every k e at = subst (IsFrom 0 labels) (get_or_from_slice_get sorted k e e at) (All-permutation (IsFrom 0 labels) collected sorted moved given k e (slice_get_within sorted k e at))
