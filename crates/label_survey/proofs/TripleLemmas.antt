-- Triples of the sectors that are kept, collected and sorted.
use Rattle.std.proofs.Common.{◌≡◌, ℕ, zero, suc, ◌+◌, ◌-◌, ◌≤◌, Bool, true, false, cond, List, [], ◌∷◌, ◌++◌, map, length, take, Some, refl, sym, ◌∙◌, ap, subst, arith, eqb}
use Rattle.std.specs.Prelude.{slice_get, slice_index_or, option_map}
use Rattle.std.specs.List.{All}
use Rattle.std.specs.List.Sorted.{IsPermutation}
use Rattle.std.proofs.lemmas.List.Sorted.{All-permutation, Contains-permutation}
use Rattle.std.proofs.lemmas.Option.{same_Some, none-some, slice_get-map, slice_get_within, slice_get-get_or, get_or_from_slice_get}
use Rattle.std.proofs.lemmas.Bool.{false≢true}
use Rattle.labelled_disk.specs.declared.label.Label.{Label}
use Rattle.labelled_disk.specs.Label.{is_free, leader_page}
use Rattle.labelled_disk.specs.Sectors.{Sector}
use Rattle.labelled_disk.specs.Layout.{data_sectors, first_data}
use Rattle.labelled_disk.specs.Lowest.{is_needed}
use Rattle.labelled_disk.specs.WriteLaws.{HasData}
use Rattle.label_laws.specs.Counts.{needs_place, is_of_some_file}
use Rattle.label_survey.specs.declared.sector_state.SectorState.{SectorState}
use Rattle.label_survey.specs.declared.sector_state.SectorState.TheVariants.{Free, Orphan, Lost, Leader, Page}
use Rattle.label_survey.specs.declared.triples.Triple.{Triple}
use Rattle.label_survey.specs.SectorStates.{sector_state, AreSectorStates}
use Rattle.label_survey.specs.Survey.{is_kept}
use Rattle.label_survey.specs.Triples.{triple_of, triples_from, AreNeeded}
use Rattle.label_survey.proofs.OnceLemmas.{Rises, rises_earlier, once_moved}
use Rattle.label_survey.proofs.ScanLemmas.{dropped}
use Rattle.label_survey.proofs.SortLemmas.{append_nil}
use Rattle.label_survey.proofs.SectorStateLemmas.{needed_alone}
use Rattle.label_survey.proofs.WalkLemmas.{sector_of}

-- Collected.

one_collected : (n : ℕ) (ls : List Label) (xs : List SectorState) (k : ℕ) (l : Label) (x : SectorState) → slice_get ls k ≡ Some l → slice_get xs k ≡ Some x
    → triples_from n (take (suc k) ls) (take (suc k) xs) ≡ triples_from n (take k ls) (take k xs) ++ cond (is_kept x) (triple_of (n + k) l ∷ []) []
one_collected n [] xs k l x here there = absurd (none-some l here)
one_collected n (m ∷ ls) [] k l x here there = absurd (none-some x there)
one_collected n (m ∷ ls) (y ∷ xs) zero l x here there =
    let z : n ≡ n + 0 = omega arith in
    ap (λ (w : SectorState). cond (is_kept w) (triple_of n m ∷ []) []) (same_Some y x there)
    ∙ ap (λ (w : Label). cond (is_kept x) (triple_of n w ∷ []) []) (same_Some m l here)
    ∙ ap (λ (i : ℕ). cond (is_kept x) (triple_of i l ∷ []) []) z
one_collected n (m ∷ ls) (y ∷ xs) (suc k) l x here there =
    let e : n + 1 + k ≡ n + suc k = omega arith in
    either (is_kept y) (one_collected (n + 1) ls xs k l x here there ∙ ap (λ (i : ℕ). triples_from (n + 1) (take k ls) (take k xs) ++ cond (is_kept x) (triple_of i l ∷ []) []) e)
  where
    either : (b : Bool) → triples_from (n + 1) (take (suc k) ls) (take (suc k) xs) ≡ triples_from (n + 1) (take k ls) (take k xs) ++ cond (is_kept x) (triple_of (n + suc k) l ∷ []) []
        → cond b (triple_of n m ∷ triples_from (n + 1) (take (suc k) ls) (take (suc k) xs)) (triples_from (n + 1) (take (suc k) ls) (take (suc k) xs))
        ≡ cond b (triple_of n m ∷ triples_from (n + 1) (take k ls) (take k xs)) (triples_from (n + 1) (take k ls) (take k xs)) ++ cond (is_kept x) (triple_of (n + suc k) l ∷ []) []
    either true e = ap (λ (r : List Triple). triple_of n m ∷ r) e
    either false e = e

collected_more : (n : ℕ) (ls : List Label) (xs : List SectorState) (k : ℕ) (l : Label) (x : SectorState) (b : Bool) → is_kept x ≡ b → slice_get ls k ≡ Some l → slice_get xs k ≡ Some x
    → triples_from n (take (k + 1) ls) (take (k + 1) xs) ≡ triples_from n (take k ls) (take k xs) ++ cond b (triple_of (n + k) l ∷ []) []
collected_more n ls xs k l x b is here there =
    let s : k + 1 ≡ suc k = omega arith in
    ap (λ (m : ℕ). triples_from n (take m ls) (take m xs)) s
    ∙ one_collected n ls xs k l x here there
    ∙ ap (λ (c : Bool). triples_from n (take k ls) (take k xs) ++ cond c (triple_of (n + k) l ∷ []) []) is

pub collected_kept : (n : ℕ) (ls : List Label) (xs : List SectorState) (k : ℕ) (l : Label) (x : SectorState) (old new : List Triple) (sector : ℕ) → old ≡ triples_from n (take k ls) (take k xs)
    → new ≡ old ++ record { id = l.id; page = l.page; sector = sector } ∷ [] → sector ≡ n + k → is_kept x ≡ true → slice_get ls k ≡ Some l → slice_get xs k ≡ Some x
    → new ≡ triples_from n (take (k + 1) ls) (take (k + 1) xs)
collected_kept n ls xs k l x old new sector so_far pushed at kept here there =
    pushed
    ∙ ap (λ (ts : List Triple). ts ++ triple_of sector l ∷ []) so_far
    ∙ ap (λ (i : ℕ). triples_from n (take k ls) (take k xs) ++ triple_of i l ∷ []) at
    ∙ sym (collected_more n ls xs k l x true kept here there)

pub collected_other : (n : ℕ) (ls : List Label) (xs : List SectorState) (k : ℕ) (l : Label) (x : SectorState) (old : List Triple) → old ≡ triples_from n (take k ls) (take k xs)
    → is_kept x ≡ false → slice_get ls k ≡ Some l → slice_get xs k ≡ Some x → old ≡ triples_from n (take (k + 1) ls) (take (k + 1) xs)
collected_other n ls xs k l x old so_far other here there = so_far ∙ sym (append_nil (triples_from n (take k ls) (take k xs))) ∙ sym (collected_more n ls xs k l x false other here there)

-- What they are of.

record IsFrom (n : ℕ) (ls : List Label) (xs : List SectorState) (t : Triple) : Type 0 where
  k : ℕ
  l : Label
  x : SectorState
  here : slice_get ls k ≡ Some l
  there : slice_get xs k ≡ Some x
  kept : is_kept x ≡ true
  is : t ≡ triple_of (n + k) l

each_from : (n : ℕ) (ls : List Label) (xs : List SectorState) (j : ℕ) (t : Triple) → slice_get (triples_from n ls xs) j ≡ Some t → IsFrom n ls xs t
each_from n [] xs j t at = absurd (none-some t at)
each_from n (l ∷ ls) [] j t at = absurd (none-some t at)
each_from n (l ∷ ls) (x ∷ xs) j t at = either (is_kept x) refl (λ i h. each_from (n + 1) ls xs i t h) j at
  where
    later : IsFrom (n + 1) ls xs t → IsFrom n (l ∷ ls) (x ∷ xs) t
    later f = let same : n + 1 + f.k ≡ n + suc f.k = omega arith in
        record { k = suc f.k; l = f.l; x = f.x; here = f.here; there = f.there; kept = f.kept; is = f.is ∙ ap (λ (i : ℕ). triple_of i f.l) same }

    either : (b : Bool) → is_kept x ≡ b → ((i : ℕ) → slice_get (triples_from (n + 1) ls xs) i ≡ Some t → IsFrom (n + 1) ls xs t)
        → (i : ℕ) → slice_get (cond b (triple_of n l ∷ triples_from (n + 1) ls xs) (triples_from (n + 1) ls xs)) i ≡ Some t → IsFrom n (l ∷ ls) (x ∷ xs) t
    either true e more zero h = let z : n ≡ n + 0 = omega arith in
        record { k = 0; l = l; x = x; here = refl; there = refl; kept = e; is = sym (same_Some (triple_of n l) t h) ∙ ap (λ (i : ℕ). triple_of i l) z }
    either true e more (suc i) h = later (more i h)
    either false e more i h = later (more i h)

all_from : (n : ℕ) (ls : List Label) (xs : List SectorState) (k : ℕ) (l : Label) (x : SectorState) → slice_get ls k ≡ Some l → slice_get xs k ≡ Some x → is_kept x ≡ true
    → (j : ℕ) × (slice_get (triples_from n ls xs) j ≡ Some (triple_of (n + k) l))
all_from n [] xs k l x here there kept = absurd (none-some l here)
all_from n (m ∷ ls) [] k l x here there kept = absurd (none-some x there)
all_from n (m ∷ ls) (y ∷ xs) zero l x here there kept =
    let z : n ≡ n + 0 = omega arith in
    either (is_kept y) (ap is_kept (same_Some y x there) ∙ kept) (ap (λ (w : Label). triple_of n w) (same_Some m l here) ∙ ap (λ (i : ℕ). triple_of i l) z)
  where
    either : (b : Bool) → b ≡ true → triple_of n m ≡ triple_of (n + 0) l → (j : ℕ) × (slice_get (cond b (triple_of n m ∷ triples_from (n + 1) ls xs) (triples_from (n + 1) ls xs)) j ≡ Some (triple_of (n + 0) l))
    either true e at = (0, ap (λ (t : Triple). Some t) at)
    either false e at = absurd (false≢true e)
all_from n (m ∷ ls) (y ∷ xs) (suc k) l x here there kept =
    let e : n + 1 + k ≡ n + suc k = omega arith in
    let more = all_from (n + 1) ls xs k l x here there kept in
    either (is_kept y) more.0 (more.1 ∙ ap (λ (i : ℕ). Some (triple_of i l)) e)
  where
    either : (b : Bool) (j : ℕ) → slice_get (triples_from (n + 1) ls xs) j ≡ Some (triple_of (n + suc k) l)
        → (i : ℕ) × (slice_get (cond b (triple_of n m ∷ triples_from (n + 1) ls xs) (triples_from (n + 1) ls xs)) i ≡ Some (triple_of (n + suc k) l))
    either true j at = (suc j, at)
    either false j at = (j, at)

triples_rise : (n : ℕ) (ls : List Label) (xs : List SectorState) → Rises (λ (t : Triple). t.sector) n (triples_from n ls xs)
triples_rise n [] xs = tt
triples_rise n (l ∷ ls) [] = tt
triples_rise n (l ∷ ls) (x ∷ xs) = either (is_kept x) (triples_rise (n + 1) ls xs)
  where
    either : (b : Bool) → Rises (λ (t : Triple). t.sector) (n + 1) (triples_from (n + 1) ls xs)
        → Rises (λ (t : Triple). t.sector) n (cond b (triple_of n l ∷ triples_from (n + 1) ls xs) (triples_from (n + 1) ls xs))
    either true up = (omega arith, up)
    either false up = rises_earlier (λ (t : Triple). t.sector) n (n + 1) (triples_from (n + 1) ls xs) (omega arith) up

pub kept_stands : (n l f o : Bool) → is_kept (cond n (cond l Leader Page) (cond f Free (cond o Lost Orphan))) ≡ n
kept_stands true true f o = refl
kept_stands true false f o = refl
kept_stands false l true o = refl
kept_stands false l false true = refl
kept_stands false l false false = refl

module _ (d : List Sector) (labels : List Label) (sector_states : List SectorState) (labelled : labels ≡ map (λ s. s.0) (data_sectors d)) (are : AreSectorStates d sector_states) where
  abbrev first : ℕ
  first = first_data (length d)

  kept_is : (k : ℕ) (s : Sector) → is_kept (sector_state d k s) ≡ is_needed false (data_sectors d) k
  kept_is k s = kept_stands (is_needed false (data_sectors d) k) (eqb s.0.page leader_page) (is_free s.0) (is_of_some_file false d s)

  -- from a place among the data sectors
  has_data : (k : ℕ) (s : Sector) → slice_get (data_sectors d) k ≡ Some s → HasData d (first + k) s
  has_data k s here = record { is_data = omega arith; here = sym (dropped d first k) ∙ here }

  needed_there : (t : Triple) → IsFrom first labels sector_states t → (s : Sector) × HasData d t.sector s × (needs_place false d t.sector ≡ true) × (t.id ≡ s.0.id) × (t.page ≡ s.0.page)
  needed_there t f =
      let there = sector_of (data_sectors d) f.k f.l (ap (λ (ls : List Label). slice_get ls f.k) (sym labelled) ∙ f.here) in
      let sector : t.sector ≡ first + f.k = ap (λ (u : Triple). u.sector) f.is in
      let back : first + f.k - first ≡ f.k = omega arith in
      let stands : sector_state d f.k there.0 ≡ f.x = same_Some (sector_state d f.k there.0) f.x (ap (option_map (sector_state d f.k)) (sym there.1) ∙ sym (are f.k) ∙ f.there) in (
        there.0,
        subst (λ (i : ℕ). HasData d i there.0) (sym sector) (has_data f.k there.0 there.1),
        ap (λ (i : ℕ). needs_place false d i) sector ∙ ap (λ (i : ℕ). is_needed false (data_sectors d) i) back ∙ sym (kept_is f.k there.0) ∙ ap is_kept stands ∙ f.kept,
        ap (λ (u : Triple). u.id) f.is ∙ ap (λ (l : Label). l.id) (sym there.2),
        ap (λ (u : Triple). u.page) f.is ∙ ap (λ (l : Label). l.page) (sym there.2),
      )

  pub are_needed : (n : ℕ) (collected sorted : List Triple) → n ≡ first → collected ≡ triples_from n labels sector_states → IsPermutation collected sorted → AreNeeded d sorted
  are_needed n collected sorted at is moved = record {
    each = λ k t here. needed_there t (every k t here);
    all = λ i s has needed.
        let k = i - first in
        let back : first + k ≡ i = omega (arith, has.is_data) in
        let here : slice_get (data_sectors d) k ≡ Some s = dropped d first k ∙ ap (slice_get d) back ∙ has.here in
        let label : slice_get labels k ≡ Some s.0 = ap (λ (ls : List Label). slice_get ls k) labelled ∙ slice_get-map (λ (u : Sector). u.0) (data_sectors d) k ∙ ap (option_map (λ (u : Sector). u.0)) here in
        let stands : slice_get sector_states k ≡ Some (sector_state d k s) = are k ∙ ap (option_map (sector_state d k)) here in
        let from = all_from first labels sector_states k s.0 (sector_state d k s) label stands (kept_is k s ∙ needed) in
        let found = ap (λ (ts : List Triple). slice_get ts from.0) whole ∙ from.1 ∙ ap (λ (m : ℕ). Some (triple_of m s.0)) back in
        let has = Contains-permutation collected sorted (triple_of i s.0) moved (from.0, slice_get_within collected from.0 (triple_of i s.0) found, get_or_from_slice_get collected from.0 (triple_of i s.0) (triple_of i s.0) found) in
        (has.0, slice_get-get_or sorted has.0 (triple_of i s.0) has.1 ∙ ap (λ (t : Triple). Some t) has.2);
    once = only;
    apart = λ j k a b at_j at_k id page.
        let one = needed_there a (every j a at_j) in
        let two = needed_there b (every k b at_k) in
        only j k a b at_j at_k (needed_alone d a.sector b.sector one.0 two.0 one.1 two.1 one.2 two.2 (sym one.3 ∙ id ∙ two.3) (sym one.4 ∙ page ∙ two.4));
  }
    where
      whole : collected ≡ triples_from first labels sector_states
      whole = is ∙ ap (λ (m : ℕ). triples_from m labels sector_states) at

      only : (j k : ℕ) (a b : Triple) → slice_get sorted j ≡ Some a → slice_get sorted k ≡ Some b → a.sector ≡ b.sector → j ≡ k
      only = once_moved (λ (t : Triple). t.sector) first (triples_from first labels sector_states) sorted (triples_rise first labels sector_states) (subst (λ (ts : List Triple). IsPermutation ts sorted) whole moved)

      given : All (IsFrom first labels sector_states) collected
      given k t l = each_from first labels sector_states k (slice_index_or collected k t) (ap (λ (ts : List Triple). slice_get ts k) (sym whole) ∙ slice_get-get_or collected k t l)

      every : (k : ℕ) (t : Triple) → slice_get sorted k ≡ Some t → IsFrom first labels sector_states t
      every k t here = subst (IsFrom first labels sector_states) (get_or_from_slice_get sorted k t t here) (All-permutation (IsFrom first labels sector_states) collected sorted moved given k t (slice_get_within sorted k t here))

-- as many as the labels at most
pub triples_few : (n : ℕ) (ls : List Label) (xs : List SectorState) → length (triples_from n ls xs) ≤ length ls
triples_few n [] xs = omega arith
triples_few n (l ∷ ls) [] = omega arith
triples_few n (l ∷ ls) (x ∷ xs) = either (is_kept x) (triples_few (n + 1) ls xs)
  where
    either : (b : Bool) → length (triples_from (n + 1) ls xs) ≤ length ls → length (cond b (triple_of n l ∷ triples_from (n + 1) ls xs) (triples_from (n + 1) ls xs)) ≤ suc (length ls)
    either true few = omega (arith, few)
    either false few = omega (arith, few)
