-- What is planned from labels is right for each disk that has them.
use Rattle.std.proofs.Common.{◌≡◌, inl, inr, ℕ, zero, suc, ◌+◌, ◌-◌, ◌<◌, ◌≤◌, Bool, true, false, ◌&&◌, ◌||◌, List, [], ◌∷◌, ◌++◌, length, map, take, drop, replicate, Option, Some, None, refl, sym, ◌∙◌, ap, subst, arith, eqb, length-append, Result, Ok, Err, slice_index_or}
use Rattle.std.specs.Prelude.{slice_get, nat_lt, nat_le, option_map, OnOk}
use Rattle.std.specs.List.{AllByRecursion}
use Rattle.std.specs.Option.{option_map_or}
use Rattle.std.proofs.Math.Seq.{drop-append_seam}
use Rattle.std.proofs.lemmas.Bool.{cases_lt, and_parts, and_from, eqb-true, eq-eqb, leb-true, le-leb, lt-ltb, false≢true}
use Rattle.std.proofs.lemmas.List.{length-replicate, length-map}
use Rattle.std.proofs.lemmas.Option.{same_Some, none-some, slice_get-map, slice_get-get_or, slice_get_within}
use Rattle.labelled_disk.specs.declared.label.Label.{Label}
use Rattle.labelled_disk.specs.Layout.{data_sectors, first_data}
use Rattle.labelled_disk.specs.Lowest.{is_needed}
use Rattle.labelled_disk.specs.declared.layout.RootFault.{RootFault}
use Rattle.labelled_disk.specs.Sectors.{Sector, zero_sector, free_label}
use Rattle.volume_root.specs.declared.root.Root.{Root}
use Rattle.volume_root.specs.RootPage.{first_of, judged, root_in, tests}
use Rattle.labelled_disk.proofs.WriteLemmas as writes
use Rattle.label_laws.specs.Counts.{IsLost, needs_place, lost_sectors}
use Rattle.label_laws.proofs.CountLemmas.{list_laws}
use Rattle.label_survey.specs.declared.sector_state.SectorState.{SectorState}
use Rattle.label_survey.specs.declared.triples.Triple.{Triple}
use Rattle.label_survey.specs.Laws.{KeptAreNeeded, NeededAreFiles}
use Rattle.label_survey.specs.SectorStates.{sector_state, AreSectorStates}
use Rattle.label_survey.specs.Survey.{is_kept}
use Rattle.label_survey.specs.Triples.{AreNeeded}
use Rattle.scavenger.specs.declared.report.Lost.{Lost}
use Rattle.scavenger.specs.Marks.{marks}
use Rattle.scavenger.specs.Naming.{among, AreTriples}
use Rattle.scavenger.specs.Reported.{labelled, lost_at}
use Rattle.scavenger.specs.Stays.{HasLabels, stays, staying}
use Rattle.scavenger.proofs.AmongLemmas.{among_is, among_there, same_bools}

-- A disk with these labels.

firsts : (labels : List Label) → labels ≡ map (λ (s : Sector). s.0) (map (λ (l : Label). (l, [])) labels)
firsts [] = refl
firsts (l ∷ labels) = ap (λ (ls : List Label). l ∷ ls) (firsts labels)

pub imagined : ℕ → List Label → List Sector
imagined n labels = replicate (first_data n) zero_sector ++ map (λ (l : Label). (l, [])) labels

pub imagined_has : (n : ℕ) (labels : List Label) → first_data n + length labels ≡ n → HasLabels (imagined n labels) n labels
unfolding imagined
imagined_has n labels all =
    let low : List Sector = replicate (first_data n) zero_sector in
    let high : List Sector = map (λ (l : Label). (l, [])) labels in
    let low_long : length low ≡ first_data n = length-replicate (first_data n) zero_sector in
    let pair : Label → Sector = λ (l : Label). (l, []) in
    let long : length (low ++ high) ≡ n = omega (arith, length-append low high, low_long, length-map labels pair, all) in
    record {
      sectors = long;
      are =
          firsts labels ∙ ap (map (λ (s : Sector). s.0)) (sym (drop-append_seam low high)
          ∙ ap (λ (k : ℕ). drop k (low ++ high)) (low_long ∙ ap first_data (sym long)));
    }

same_long : {X : Type 0} (f : ℕ → Sector → X) (xs : List X) (ys : List Sector) → ((i : ℕ) → slice_get xs i ≡ option_map (f i) (slice_get ys i)) → length xs ≡ length ys
same_long f [] [] each = refl
same_long f [] (y ∷ ys) each = absurd (none-some (f 0 y) (each 0))
same_long f (x ∷ xs) [] each = absurd (none-some x (sym (each 0)))
same_long f (x ∷ xs) (y ∷ ys) each = ap suc (same_long (λ i. f (suc i)) xs ys (λ i. each (suc i)))

-- there is a sector state for each of its labels
pub stand_each : (d : List Sector) (n : ℕ) (labels : List Label) (sector_states : List SectorState) → HasLabels d n labels → AreSectorStates d sector_states → length sector_states ≡ length labels
stand_each d n labels sector_states has are =
    let long = same_long (sector_state d) sector_states (data_sectors d) are in
    omega (arith, long, length-map (data_sectors d) (λ (s : Sector). s.0), ap length has.are)

-- Triples.

pub are_triples : NeededAreFiles → (d : List Sector) (n : ℕ) (triples : List Triple) → length d ≡ n → AreNeeded d triples → AreTriples n triples
are_triples files d n triples long needed = record {
  each = λ k t here.
      let at = needed.each k t here in
      let file = files d t.sector at.0 at.1 at.2 in
      record {
        of_file = let id = (writes.file_id at.0.0 file.0).0 in omega (arith, id, at.3);
        page_fits = omega (arith, file.1, at.4);
        from_data = subst (λ (m : ℕ). first_data m ≤ t.sector) long at.1.is_data;
        inside = let within = slice_get_within d t.sector at.0 at.1.here in omega (arith, within, long);
      };
  once = needed.once;
  apart = needed.apart;
}

abbrev has_page : Option Sector → ℕ → ℕ → Bool
has_page o id page = option_map_or (λ (s : Sector). eqb s.0.id id && eqb s.0.page page) o false

pub names_stay : (d : List Sector) (triples : List Triple) → AreNeeded d triples → (id page sector : ℕ) → staying d id page sector ≡ among triples id page sector
names_stay d triples needed id page sector = same_bools (staying d id page sector) (among triples id page sector) there back
  where
    found : (o : Option Sector) → slice_get d sector ≡ o → first_data (length d) ≤ sector → needs_place false d sector ≡ true → has_page o id page ≡ true → among triples id page sector ≡ true
    found None e from needs has = absurd (false≢true has)
    found (Some s) e from needs has =
        let parts = and_parts (eqb s.0.id id) (eqb s.0.page page) has in
        let same_id = eqb-true s.0.id id parts.0 in
        let same_page = eqb-true s.0.page page parts.1 in
        let at = needed.all sector s (record { is_data = from; here = e }) needs in
        among_there triples at.0 id page sector (at.1 ∙ (λ x. Some (record { id = same_id x; page = same_page x; sector = sector })))

    there : staying d id page sector ≡ true → among triples id page sector ≡ true
    there e =
        let one = and_parts (nat_le (first_data (length d)) sector) (needs_place false d sector && has_page (slice_get d sector) id page) e in
        let two = and_parts (needs_place false d sector) (has_page (slice_get d sector) id page) one.1 in
        found (slice_get d sector) refl (leb-true (first_data (length d)) sector one.0) two.0 two.1

    back : among triples id page sector ≡ true → staying d id page sector ≡ true
    back e =
        let f = among_is triples id page sector e in
        let at = needed.each f.0 (record { id = id; page = page; sector = sector }) f.1 in
        and_from (nat_le (first_data (length d)) sector) (needs_place false d sector && has_page (slice_get d sector) id page) (le-leb (first_data (length d)) sector at.1.is_data)
        (and_from (needs_place false d sector) (has_page (slice_get d sector) id page) at.2
        (ap (λ (o : Option Sector). has_page o id page) at.1.here
        ∙ and_from (eqb at.0.0.id id) (eqb at.0.0.page page) (eq-eqb at.0.0.id id (sym at.3)) (eq-eqb at.0.0.page page (sym at.4))))

-- Marks.

pub none_needed : (xs : List Sector) (j : ℕ) → slice_get xs j ≡ None → is_needed false xs j ≡ false
none_needed xs j none = rw none refl

pub marks_stay : KeptAreNeeded → (d : List Sector) (sector_states : List SectorState) → AreSectorStates d sector_states → (i : ℕ) → marks (first_data (length d)) sector_states i ≡ stays d i
marks_stay kept d sector_states are i = elim (cases_lt i (first_data (length d))) [
  | inl low ↦
      ap (λ (b : Bool). b || option_map_or is_kept (slice_get sector_states (i - first_data (length d))) false) (lt-ltb i (first_data (length d)) low)
      ∙ sym (ap (λ (b : Bool). b || needs_place false d i) (lt-ltb i (first_data (length d)) low))
  | inr from ↦ ap (λ (b : Bool). nat_lt i (first_data (length d)) || b) (at_data from (slice_get sector_states (i - first_data (length d))) refl)
]
  where
    at_data : first_data (length d) ≤ i → (o : Option SectorState) → slice_get sector_states (i - first_data (length d)) ≡ o → option_map_or is_kept (slice_get sector_states (i - first_data (length d))) false ≡ needs_place false d i
    at_data from (Some x) e =
        let back : first_data (length d) + (i - first_data (length d)) ≡ i = omega (arith, from) in
        ap (λ (o : Option SectorState). option_map_or is_kept o false) e ∙ kept d sector_states (i - first_data (length d)) x are e ∙ ap (needs_place false d) back
    at_data from None e =
        ap (λ (o : Option SectorState). option_map_or is_kept o false) e
        ∙ sym (none_needed (data_sectors d) (i - first_data (length d)) (nothing (slice_get (data_sectors d) (i - first_data (length d))) (sym e ∙ are (i - first_data (length d)))))
      where
        nothing : (o : Option Sector) → None ≡ option_map (sector_state d (i - first_data (length d))) o → o ≡ None
        nothing None q = refl
        nothing (Some s) q = absurd (none-some (sector_state d (i - first_data (length d)) s) q)

-- Lost sectors.

pub all_at : {X : Type 0} (P : X → Type 0) (xs : List X) (k : ℕ) (x : X) → AllByRecursion P xs → slice_get xs k ≡ Some x → P x
all_at P [] k x all here = absurd (none-some x here)
all_at P (y ∷ xs) zero x all here = subst P (same_Some y x here) all.0
all_at P (y ∷ xs) (suc k) x all here = all_at P xs k x all.1 here

map_same : (f g : ℕ → Lost) (P : ℕ → Type 0) (xs : List ℕ) → ((i : ℕ) → P i → f i ≡ g i) → AllByRecursion P xs → map f xs ≡ map g xs
map_same f g P [] same all = refl
map_same f g P (x ∷ xs) same all = ap (λ (l : Lost). l ∷ map f xs) (same x all.0) ∙ ap (λ (ls : List Lost). g x ∷ ls) (map_same f g P xs same all.1)

pub one_mapped : (f : ℕ → Lost) (xs : List ℕ) (k x : ℕ) → slice_get xs k ≡ Some x → map f (take (suc k) xs) ≡ map f (take k xs) ++ f x ∷ []
one_mapped f [] k x here = absurd (none-some x here)
one_mapped f (y ∷ ys) zero x here = ap (λ (z : ℕ). f z ∷ []) (same_Some y x here)
one_mapped f (y ∷ ys) (suc k) x here = ap (λ (l : List Lost). f y ∷ l) (one_mapped f ys k x here)

module _ (d : List Sector) (n first : ℕ) (labels : List Label) (has : HasLabels d n labels) (at : first ≡ first_data n) where
  one_lost : (i : ℕ) → IsLost false d i → labelled first labels i ≡ lost_at d i
  one_lost i lost =
      let from : first_data (length d) ≡ first = ap first_data has.sectors ∙ sym at in
      let here : slice_get labels (i - first) ≡ Some lost.s.0 =
      ap (λ (ls : List Label). slice_get ls (i - first)) has.are ∙ slice_get-map (λ (s : Sector). s.0) (data_sectors d) (i - first)
      ∙ ap (option_map (λ (s : Sector). s.0)) (ap (λ (m : ℕ). slice_get (data_sectors d) (i - m)) (sym from) ∙ writes.data_get false 0 0 d i lost.s lost.there.is_data lost.there.here) in
      ap (λ (o : Option Label). option_map_or (λ (l : Label). record { sector = i; id = l.id; page = l.page }) o (record { sector = i; id = 0; page = 0 })) here
      ∙ sym (ap (λ (o : Option Sector). option_map_or (λ (s : Sector). record { sector = i; id = s.0.id; page = s.0.page }) o (record { sector = i; id = 0; page = 0 })) lost.there.here)

  pub all_lost : map (labelled first labels) (lost_sectors false d) ≡ map (lost_at d) (lost_sectors false d)
  all_lost = map_same (labelled first labels) (lost_at d) (IsLost false d) (lost_sectors false d) one_lost ((list_laws false).lost_each d)

  -- each is a data sector
  pub lost_within : (k i : ℕ) → slice_get (lost_sectors false d) k ≡ Some i → (first ≤ i) × (i < n)
  lost_within k i here =
      let lost = all_at (IsLost false d) (lost_sectors false d) k i ((list_laws false).lost_each d) here in
      let from : first_data (length d) ≡ first = ap first_data has.sectors ∙ sym at in
      (omega (arith, from, lost.there.is_data), omega (arith, slice_get_within d i lost.s lost.there.here, has.sectors))

-- one lost sector more is listed
pub listed_more : (first : ℕ) (labels : List Label) (lost : List ℕ) (k : ℕ) (old new : List Lost) (x : ℕ) → slice_get lost k ≡ Some x → x - first < length labels → old ≡ map (labelled first labels) (take k lost)
    → new ≡ old ++ record { sector = x; id = (slice_index_or labels (x - first) free_label).id; page = (slice_index_or labels (x - first) free_label).page } ∷ [] → new ≡ map (labelled first labels) (take (k + 1) lost)
listed_more first labels lost k old new x here within so_far pushed =
    let s : suc k ≡ k + 1 = omega arith in
    let there = slice_get-get_or labels (x - first) free_label within in
    let is : labelled first labels x ≡ record { sector = x; id = (slice_index_or labels (x - first) free_label).id; page = (slice_index_or labels (x - first) free_label).page } =
    ap (λ (o : Option Label). option_map_or (λ (l : Label). record { sector = x; id = l.id; page = l.page }) o (record { sector = x; id = 0; page = 0 })) there in
    pushed ∙ ap (λ (l : List Lost). l ++ record { sector = x; id = (slice_index_or labels (x - first) free_label).id; page = (slice_index_or labels (x - first) free_label).page } ∷ []) so_far ∙ ap (λ (e : Lost). map (labelled first labels) (take k lost) ++ e ∷ []) (sym is)
    ∙ sym (one_mapped (labelled first labels) lost k x here) ∙ ap (λ (m : ℕ). map (labelled first labels) (take m lost)) s

-- what holds anyway
pub ok_anyway : {T E : Type 0} {P : Type 0} (r : Result T E) → P → OnOk r P
ok_anyway (Ok x) p = p
ok_anyway (Err e) p = tt

-- what follows from an Ok
pub ok_then : {T E : Type 0} {P Q : Type 0} (r : Result T E) → OnOk r P → (P → Q) → OnOk r Q
ok_then (Ok x) p more = more p
ok_then (Err e) p more = tt

-- the root that is read where its tests pass
pub judged_root : (n : ℕ) (s : Sector) (root : Root) → judged false n s ≡ Ok root → root ≡ root_in s.1
judged_root n s root is = either (first_of (tests false n s.0 s.1)) is
  where
    root_of : Result Root RootFault → Root → Root
    root_of (Ok r) other = r
    root_of (Err why) other = other

    either : (o : Option RootFault) → option_map_or (λ (why : RootFault). Err why) o (Ok (root_in s.1)) ≡ Ok root → root ≡ root_in s.1
    either None e = sym (ap (λ (r : Result Root RootFault). root_of r root) e)
    either (Some why) e = absurd (cc e)
