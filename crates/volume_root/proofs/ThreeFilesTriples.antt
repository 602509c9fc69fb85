-- The file map of the volume with three files names what its labels name.
use Rattle.std.proofs.Common.{◌≡◌, ◌⊎◌, inl, inr, ℕ, zero, suc, ◌+◌, ◌-◌, ◌<◌, ◌≤◌, Bool, true, false, not, ◌&&◌, List, ◌++◌, length, replicate, map, Option, Some, None, refl, sym, ◌∙◌, ap, subst, arith, eqb, leb}
use Rattle.std.specs.Prelude.{slice_get}
use Rattle.std.specs.Cmp.{both_ways}
use Rattle.std.specs.List.{flat_map}
use Rattle.std.specs.Option.{option_map_or}
use Rattle.std.proofs.lemmas.Bool.{cases_eq, and_parts, eqb-true, leb-true, false≢true}
use Rattle.std.proofs.lemmas.Option.{same_Some, none-some}
use Rattle.labelled_disk.specs.Label.{is_free, leader_page}
use Rattle.labelled_disk.specs.Layout.{first_data, data_sectors, vfm}
use Rattle.labelled_disk.specs.Sectors.{Sector}
use Rattle.labelled_disk.proofs.WriteLemmas.{get_drop}
use Rattle.page_tree.specs.Page.{page_at}
use Rattle.page_tree.specs.Reveals.{RevealsTree}
use Rattle.page_tree.proofs.Listed.{lists_tree}
use Rattle.file_map.specs.Run.{sector_at, run_bytes}
use Rattle.file_map.specs.FileMap.{AreNamed, names_triple, run_at}
use Rattle.file_map.specs.InSectors.{map_bytes, label_triples}
use Rattle.file_map.proofs.Runs.{HasPage}
use Rattle.file_map.proofs.Searches.{named_by}
use Rattle.volume_root.specs.Sound.{HasFileMap}
use Rattle.volume_root.specs.ThreeFiles.{page_of, header_start, leaf_start, runs, unused_pages, free_sector, file_sectors, three_files}
use Rattle.volume_root.proofs.RowLemmas.{in_rows, in_replicate, page_size, first_of_pages, second_of_pages}
use Rattle.volume_root.proofs.ThreeFilesMap.{runs_are, tree}

pub size : length three_files ≡ 256
unfolding three_files
size = refl

pub data_rows : data_sectors three_files ≡ replicate 96 free_sector ++ (file_sectors ++ replicate 118 free_sector)
unfolding three_files first_data
data_rows = refl

pub begins : first_data (length three_files) ≡ 36
unfolding three_files first_data
begins = refl

-- a data sector is free, or one of those of the files
pub record IsOfFiles (i : ℕ) (s : Sector) : Type 0 where
  pub j : ℕ
  pub place : i ≡ 96 + j
  pub is : slice_get file_sectors j ≡ Some s

pub data_sector : (i : ℕ) (s : Sector) → slice_get (data_sectors three_files) i ≡ Some s → (s ≡ free_sector) ⊎ IsOfFiles i s
data_sector i s here = elim (in_rows (replicate 96 free_sector) (file_sectors ++ replicate 118 free_sector) i s (ap (λ (xs : List Sector). slice_get xs i) (sym data_rows) ∙ here)) [
  | inl before ↦ inl (in_replicate 96 free_sector i s before)
  | inr more ↦ elim (in_rows file_sectors (replicate 118 free_sector) more.0 s more.2) [
    | inl own ↦ inr (record { j = more.0; place = more.1; is = own })
    | inr after ↦ inl (in_replicate 118 free_sector after.0 s after.2)
  ]
]

-- What a label names, the runs name.

abbrev carries : ℕ → ℕ → Sector → Bool
carries id page s = not (is_free s.0) && (eqb s.0.id id && eqb s.0.page page)

module _ (id page : ℕ) where
  named_there : (own number place : ℕ) → (eqb own id && eqb number page) ≡ true → names_triple runs own number place ≡ true → names_triple runs id page place ≡ true
  named_there own number place label named =
      let parts = and_parts (eqb own id) (eqb number page) label in
      subst (λ (p : ℕ). names_triple runs id p place ≡ true) (eqb-true number page parts.1) (subst (λ (i : ℕ). names_triple runs i number place ≡ true) (eqb-true own id parts.0) named)

  by_label : (j : ℕ) (s : Sector) → slice_get file_sectors j ≡ Some s → carries id page s ≡ true → names_triple runs id page (132 + j) ≡ true
  by_label zero s here carried = named_there 30064771073 leader_page 132 (ap (carries id page) (same_Some _ s here) ∙ carried) refl
  by_label (suc zero) s here carried = named_there 30064771073 0 133 (ap (carries id page) (same_Some _ s here) ∙ carried) refl
  by_label (suc (suc zero)) s here carried = named_there 30064771073 1 134 (ap (carries id page) (same_Some _ s here) ∙ carried) refl
  by_label (suc (suc (suc zero))) s here carried = named_there 30064771074 0 135 (ap (carries id page) (same_Some _ s here) ∙ carried) refl
  by_label (suc (suc (suc (suc zero)))) s here carried = named_there 30064771074 leader_page 136 (ap (carries id page) (same_Some _ s here) ∙ carried) refl
  by_label (suc (suc (suc (suc (suc zero))))) s here carried = named_there 30064771075 leader_page 137 (ap (carries id page) (same_Some _ s here) ∙ carried) refl
  by_label (suc (suc (suc (suc (suc (suc j)))))) s here carried = absurd (none-some s here)

  there : (o : Option Sector) → option_map_or (carries id page) o false ≡ true → (s : Sector) × (o ≡ Some s) × (carries id page s ≡ true)
  there None carried = absurd (false≢true carried)
  there (Some s) carried = (s, refl, carried)

  names_label : (place : ℕ) → label_triples three_files id page place ≡ true → names_triple runs id page place ≡ true
  names_label place named =
      let parts = and_parts (leb (first_data (length three_files)) place) (option_map_or (carries id page) (slice_get three_files place) false) named in
      let low = leb-true (first_data (length three_files)) place parts.0 in
      let found = there (slice_get three_files place) parts.1 in
      let at : first_data (length three_files) + (place - first_data (length three_files)) ≡ place = omega (arith, low) in
      let here = get_drop (first_data (length three_files)) three_files (place - first_data (length three_files)) ∙ ap (slice_get three_files) at ∙ found.1 in
      elim (data_sector (place - first_data (length three_files)) found.0 here) [
        | inl free ↦ absurd (false≢true (ap (carries id page) (sym free) ∙ found.2))
        | inr own ↦
            let is : 132 + own.j ≡ place = omega (arith, low, begins, own.place) in
            subst (λ (k : ℕ). names_triple runs id page k ≡ true) is (by_label own.j found.0 own.is found.2)
      ]

  -- What a run names, a label names.

  labelled : (own number from place : ℕ) → own ≡ id → number ≡ page → from ≡ place → label_triples three_files own number from ≡ true → label_triples three_files id page place ≡ true
  labelled own number from place same_id same_page same_place named =
      subst (λ (k : ℕ). label_triples three_files id page k ≡ true) same_place
      (subst (λ (p : ℕ). label_triples three_files id p from ≡ true) same_page (subst (λ (i : ℕ). label_triples three_files i number from ≡ true) same_id named))

  by_run : (j place : ℕ) → j < 5 → HasPage (run_at runs j) id page → place ≡ sector_at (run_at runs j) page → label_triples three_files id page place ≡ true
  unfolding three_files first_data
  by_run zero place below has is = elim (cases_eq page 0) [
    | inl first ↦ labelled 30064771073 0 133 place has.same (sym first) (omega (arith, is, first)) refl
    | inr other ↦
        let second : 1 ≡ page = omega (arith, other, has.below) in
        labelled 30064771073 1 134 place has.same second (omega (arith, is, second)) refl
  ]
  by_run (suc zero) place below has is =
      let number : leader_page ≡ page = omega (arith, has.from, has.below) in
      labelled 30064771073 leader_page 132 place has.same number (omega (arith, is, number)) refl
  by_run (suc (suc zero)) place below has is =
      let number : 0 ≡ page = omega (arith, has.below) in
      labelled 30064771074 0 135 place has.same number (omega (arith, is, number)) refl
  by_run (suc (suc (suc zero))) place below has is =
      let number : leader_page ≡ page = omega (arith, has.from, has.below) in
      labelled 30064771074 leader_page 136 place has.same number (omega (arith, is, number)) refl
  by_run (suc (suc (suc (suc zero)))) place below has is =
      let number : leader_page ≡ page = omega (arith, has.from, has.below) in
      labelled 30064771075 leader_page 137 place has.same number (omega (arith, is, number)) refl
  by_run (suc (suc (suc (suc (suc j))))) place below has is = absurd (omega (arith, below))

  names_run : (place : ℕ) → names_triple runs id page place ≡ true → label_triples three_files id page place ≡ true
  names_run place named = let by = named_by runs id page place named in by_run by.index place by.below by.has by.place

-- The pages of the map.

leaf_fits : length leaf_start ≤ 512
unfolding run_bytes
leaf_fits = omega arith

map_is : map_bytes three_files ≡ page_of header_start ++ (page_of leaf_start ++ flat_map (λ (s : Sector). s.1) (unused_pages 2 32))
unfolding three_files
map_is = refl

pub file_map : HasFileMap three_files
file_map =
    let header_size = page_size header_start (omega arith) in
    let leaf_size : length (page_of leaf_start) ≡ 512 = page_size leaf_start leaf_fits in
    let rest : List ℕ = flat_map (λ (s : Sector). s.1) (unused_pages 2 32) in
    let first = ap (λ (b : List ℕ). page_at b 0) map_is ∙ first_of_pages (page_of header_start) (page_of leaf_start ++ rest) header_size in
    let second = ap (λ (b : List ℕ). page_at b 1) map_is ∙ second_of_pages (page_of header_start) (page_of leaf_start) rest header_size leaf_size in
    let names : AreNamed 256 (RevealsTree 24 12 34 (λ b. b ≡ map_bytes three_files)) (label_triples three_files) = record {
      runs = runs;
      listed = lists_tree 24 12 34 (λ b. b ≡ map_bytes three_files) (map_bytes three_files) (map run_bytes runs) refl (tree (map_bytes three_files) first second);
      form = runs_are;
      few = omega arith;
      are = λ id page place. both_ways (label_triples three_files id page place) (names_triple runs id page place) (names_label id page place) (names_run id page place);
    } in
    subst (λ (n : ℕ). AreNamed n (RevealsTree 24 12 (vfm n) (λ b. b ≡ map_bytes three_files)) (label_triples three_files)) (sym size) names
