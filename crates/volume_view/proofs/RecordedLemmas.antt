-- What searches and a walk show of the records of a map, whatever its form is.
use Rattle.std.proofs.Common.{◌≡◌, inl, inr, ℕ, ◌+◌, ◌-◌, ◌<◌, ◌≤◌, true, false, List, [], ◌∷◌, ◌++◌, length, Option, Some, sym, ◌∙◌, ap, subst, arith, eqb}
use Rattle.std.specs.Prelude.{slice_get, IfSome}
use Rattle.std.proofs.lemmas.Bool.{cases_eq, eq-eqb}
use Rattle.std.proofs.lemmas.Option.{same_Some, slice_get_within}
use Rattle.labelled_disk.specs.declared.label.Label.{Label}
use Rattle.labelled_disk.specs.Label.{is_free}
use Rattle.labelled_disk.specs.Sectors.{Sector}
use Rattle.page_tree.specs.Reveals.{StandsIn}
use Rattle.file_map.specs.declared.run.Run.{Run}
use Rattle.file_map.specs.Run.{IsRun, holds, sector_at, run_bytes}
use Rattle.file_map.specs.FileMap.{Triples}
use Rattle.file_map.specs.InSectors.{label_triples, map_bytes}
use Rattle.file_map.proofs.Runs.{and_both}
use Rattle.volume_view.specs.Names.{labelled}
use Rattle.volume_view.specs.Recorded.{StandsInLeaf, AllStand, IsRecorded, AreRecorded, AreReadAlike}
use Rattle.volume_view.proofs.ListLemmas.{in_pushed}
use Rattle.volume_view.proofs.NameLemmas.{is_labelled}

-- what is so of the value inside
pub in_some : {X : Type 0} (o : Option X) (x : X) (P : X → Type 0) → o ≡ Some x → IfSome o P → P x
in_some o x P is h = subst (λ (p : Option _). IfSome p P) is h

-- the run that a search found, where it has the page in this sector
pub recorded_by : (n m : ℕ) (bytes c : List ℕ) (id page sector : ℕ) (o : Option Run) (r : Run) → o ≡ Some r → m ≡ n → c ≡ bytes → IfSome o (λ q. IsRun m q) → IfSome o (λ q. holds q id page ≡ true)
    → IfSome o (λ q. (leaf : ℕ) × ((b : List ℕ) → b ≡ c → StandsIn 24 12 b (run_bytes q) leaf)) → sector_at r page ≡ sector → IsRecorded n bytes id page sector
recorded_by n m bytes c id page sector o r is count same form has read at =
    let stands = in_some o r (λ q. (leaf : ℕ) × ((b : List ℕ) → b ≡ c → StandsIn 24 12 b (run_bytes q) leaf)) is read in
    record {
      run = r;
      form = subst (λ (k : ℕ). IsRun k r) count (in_some o r (λ q. IsRun m q) is form);
      names = and_both (holds r id page) (eqb sector (sector_at r page)) (in_some o r (λ q. holds q id page ≡ true) is has) (eq-eqb sector (sector_at r page) (sym at));
      stands = (stands.0, stands.1 bytes (sym same));
    }

-- the record that the walk met
pub stands_by : (bytes c entry : List ℕ) (o : Option ℕ) (leaf : ℕ) (r : Run) → o ≡ Some leaf → c ≡ bytes → ((b : List ℕ) → b ≡ c → IfSome o (StandsIn 24 12 b entry)) → entry ≡ run_bytes r → StandsInLeaf bytes r
stands_by bytes c entry o leaf r is same met at = (leaf, subst (λ (e : List ℕ). StandsIn 24 12 bytes e leaf) at (in_some o leaf (StandsIn 24 12 bytes entry) is (met bytes (sym same))))

pub stand_more : (bytes : List ℕ) (runs new : List Run) (r : Run) → AllStand bytes runs → StandsInLeaf bytes r → new ≡ runs ++ r ∷ [] → AllStand bytes new
stand_more bytes runs new r so_far last pushed j x at = elim (in_pushed runs r j x (ap (λ (l : List Run). slice_get l j) (sym pushed) ∙ at)) [
  | inl old ↦ so_far j x old
  | inr same ↦ subst (StandsInLeaf bytes) same last
]

-- the pages of the first k labels are recorded in their sectors
abbrev pub AreRecordedTo : ℕ → List ℕ → ℕ → List Label → ℕ → Type 0
AreRecordedTo n bytes first labels k = (i : ℕ) (l : Label) → i < k → slice_get labels i ≡ Some l → is_free l ≡ false → IsRecorded n bytes l.id l.page (first + i)

module _ (n : ℕ) (bytes : List ℕ) (first : ℕ) (labels : List Label) (k : ℕ) where
  pub recorded_more : (l : Label) (c : List ℕ) (sector : ℕ) → slice_get labels k ≡ Some l → AreRecordedTo n bytes first labels k → c ≡ bytes → sector ≡ first + k
      → (is_free l ≡ false → IsRecorded n c l.id l.page sector) → AreRecordedTo n bytes first labels (k + 1)
  recorded_more l c sector here so_far same at new i m below there used = elim (cases_eq i k) [
    | inl equal ↦
        let it : l ≡ m = same_Some l m (sym here ∙ ap (slice_get labels) (sym equal) ∙ there) in
        let place : sector ≡ first + i = omega (arith, at, equal) in
        subst (λ (q : Label). IsRecorded n bytes q.id q.page (first + i)) it
        (subst (λ (j : ℕ). IsRecorded n bytes l.id l.page j) place (subst (λ (x : List ℕ). IsRecorded n x l.id l.page sector) same (new (ap is_free it ∙ used))))
    | inr apart ↦ so_far i m (omega (arith, below, apart)) there used
  ]

  pub recorded_all : length labels ≤ k → AreRecordedTo n bytes first labels k → AreRecorded n bytes (labelled first labels)
  recorded_all all so_far id page sector h =
      let at = is_labelled first labels id page sector h in
      let place : first + (sector - first) ≡ sector = omega (arith, at.from) in
      let there = so_far (sector - first) at.l (omega (arith, all, slice_get_within labels (sector - first) at.l at.here)) at.here at.used in
      subst (λ (i : ℕ). IsRecorded n bytes i page sector) at.same_id
      (subst (λ (p : ℕ). IsRecorded n bytes at.l.id p sector) at.same_page (subst (λ (s : ℕ). IsRecorded n bytes at.l.id at.l.page s) place there))

-- on a disk
pub alike_on : (d : List Sector) (n : ℕ) (bytes : List ℕ) (said : Triples) → n ≡ length d → bytes ≡ map_bytes d → ((id page sector : ℕ) → said id page sector ≡ label_triples d id page sector) → AreReadAlike n bytes said → AreReadAlike (length d) (map_bytes d) (label_triples d)
alike_on d n bytes said long same says is =
    subst (λ (x : List ℕ). AreReadAlike (length d) x (label_triples d)) same
    (subst (λ (k : ℕ). AreReadAlike k bytes (label_triples d)) long record {
      runs = is.runs;
      counted = is.counted;
      form = is.form;
      stand = is.stand;
      covered = λ id page sector h. sym (says id page sector) ∙ is.covered id page sector h;
      recorded = λ id page sector h. is.recorded id page sector (says id page sector ∙ h);
    })
