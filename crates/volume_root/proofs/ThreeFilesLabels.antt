-- The labels of the volume with three files.
use Rattle.std.proofs.Common.{◌≡◌, ◌⊎◌, inl, inr, ℕ, zero, suc, ◌+◌, ◌^◌, ◌<◌, ◌≤◌, true, false, List, [], ◌∷◌, ◌++◌, length, replicate, Option, Some, refl, sym, ◌∙◌, ap, subst, arith}
use Rattle.std.specs.Prelude.{slice_get, IsTrue, IsSomeAnd}
use Rattle.std.specs.List.{AllByRecursion}
use Rattle.std.proofs.lemmas.Bool.{eq-eqb, false≢true}
use Rattle.std.proofs.lemmas.List.Elements.{All-replicate}
use Rattle.std.proofs.lemmas.Option.{same_Some, none-some}
use Rattle.labelled_disk.specs.Label.{is_file, is_free, names, leader_page}
use Rattle.labelled_disk.specs.Layout.{first_data, data_sectors, capacity, vam, vfm}
use Rattle.labelled_disk.specs.Sectors.{Sector, IsSector, AreSectors}
use Rattle.labelled_disk.specs.File.{File, total_room}
use Rattle.labelled_disk.specs.FilesOn.{files_on, pages_from}
use Rattle.labelled_disk.specs.Lowest.{is_needed}
use Rattle.labelled_disk.specs.Right.{IsGiven}
use Rattle.labelled_disk.specs.Root.{IsRoot, HasMaps, LabelsRight, root_page, short_at, serial_of, counter_of}
use Rattle.labelled_disk.proofs.LowestLemmas.{needed_are_whole}
use Rattle.file_map.specs.Run.{run_bytes}
use Rattle.volume_root.specs.ThreeFiles.{page_of, sector, root_start, bits, header_start, leaf_start, unused_pages, free_sector, file_sectors, three_files, files}
use Rattle.volume_root.proofs.RowLemmas.{in_rows, in_replicate, in_unused, are_bytes, page_bytes, page_size}
use Rattle.volume_root.proofs.ThreeFilesTriples.{size, data_sector}

-- The root.

has_root : IsRoot 256 (slice_get three_files 0)
unfolding three_files page_of
has_root = record {
  accepted = (omega arith, omega arith);
  label = refl;
  magic = refl;
  version = refl;
  flag = omega arith;
  count = refl;
  serial = omega arith;
  counter = omega arith;
  rest = All-replicate (λ (b : ℕ). b ≡ 0) 488 0 refl;
}

pub is_clean : short_at (root_page three_files) 10 ≡ 1
unfolding three_files page_of
is_clean = refl

counter_is : counter_of three_files ≡ 4
unfolding three_files page_of
counter_is = refl

-- The maps.

named : (id page : ℕ) → names (sector id page 0 0 []).0 (record { id = id; page = page }) ≡ true
named id page = rw (eq-eqb id id refl, eq-eqb page page refl) refl

has_maps : HasMaps 256 three_files
unfolding three_files
has_maps = record { allocation = allocation; file_map = file_map }
  where
    allocation : (k : ℕ) → k < vam 256 → IsSomeAnd (slice_get three_files (1 + k)) (λ s. IsTrue (names s.0 (record { id = 1; page = k })))
    allocation zero below = refl
    allocation (suc k) below = absurd (omega (arith, below))

    file_map : (k : ℕ) → k < vfm 256 → IsSomeAnd (slice_get three_files (1 + vam 256 + k)) (λ s. IsTrue (names s.0 (record { id = 2; page = k })))
    file_map zero below = refl
    file_map (suc zero) below = refl
    file_map (suc (suc k)) below =
        let place : 1 + vam 256 + suc (suc k) ≡ suc (suc (suc (suc k))) = omega arith in
        let page : 2 + k ≡ suc (suc k) = omega arith in
        let here = ap (slice_get three_files) place ∙ in_unused 2 32 k (replicate 96 free_sector ++ (file_sectors ++ replicate 118 free_sector)) (omega (arith, below)) in
        subst (λ (o : Option Sector). IsSomeAnd o (λ s. IsTrue (names s.0 (record { id = 2; page = suc (suc k) })))) (sym here)
        (subst (λ (p : ℕ). names (sector 2 (2 + k) 0 0 []).0 (record { id = 2; page = p }) ≡ true) page (named 2 (2 + k)))

-- The files.

pub has_files : files_on three_files ≡ files
unfolding three_files first_data pages_from
has_files = refl

-- each sector of a file is needed
need : (j : ℕ) (s : Sector) → slice_get file_sectors j ≡ Some s → is_needed false (data_sectors three_files) (96 + j) ≡ true
unfolding three_files first_data pages_from
need zero s here = refl
need (suc zero) s here = refl
need (suc (suc zero)) s here = refl
need (suc (suc (suc zero))) s here = refl
need (suc (suc (suc (suc zero)))) s here = refl
need (suc (suc (suc (suc (suc zero))))) s here = refl
need (suc (suc (suc (suc (suc (suc j)))))) s here = absurd (none-some s here)

pub free_or_needed : (i : ℕ) (s : Sector) → slice_get (data_sectors three_files) i ≡ Some s → (is_free s.0 ≡ true) ⊎ (is_needed false (data_sectors three_files) i ≡ true)
free_or_needed i s here = elim (data_sector i s here) [
  | inl free ↦ inl (ap (λ (t : Sector). is_free t.0) free)
  | inr own ↦ inr (ap (is_needed false (data_sectors three_files)) own.place ∙ need own.j s own.is)
]

needed : (i : ℕ) (s : Sector) → slice_get (data_sectors three_files) i ≡ Some s → is_file s.0 ≡ true → is_needed false (data_sectors three_files) i ≡ true
needed i s here file = elim (data_sector i s here) [
  | inl free ↦ absurd (false≢true (ap (λ (t : Sector). is_file t.0) (sym free) ∙ file))
  | inr own ↦ ap (is_needed false (data_sectors three_files)) own.place ∙ need own.j s own.is
]

given : (serial counter : ℕ) → 4 ≤ counter → AllByRecursion (IsGiven serial counter) files
given serial counter many = (λ same. omega (arith, many), (λ same. omega (arith, many), (λ same. omega (arith, many), tt)))

pub labels : LabelsRight three_files
labels = record {
  has_root = subst (λ (n : ℕ). IsRoot n (slice_get three_files 0)) (sym size) has_root;
  has_maps = subst (λ (n : ℕ). HasMaps n three_files) (sym size) has_maps;
  files = record {
    accepted = (omega (arith, size), omega (arith, size));
    whole_files = needed_are_whole false three_files needed;
    ids_given = subst (λ (fs : List File). AllByRecursion (IsGiven (serial_of three_files) (counter_of three_files)) fs) (sym has_files) (given (serial_of three_files) (counter_of three_files) (omega (arith, counter_is)));
    room = subst (λ (n : ℕ). total_room (files_on three_files) ≤ capacity n) (sym size) (subst (λ (fs : List File). total_room fs ≤ capacity 256) (sym has_files) (omega arith));
  };
}

-- Each is a sector.

is_sector : (id page kind flags : ℕ) (bytes : List ℕ) → id < 2 ^ 64 → page < 2 ^ 32 → kind < 2 ^ 16 → flags < 256 → length bytes ≤ 512 → are_bytes bytes ≡ true → IsSector (sector id page kind flags bytes)
is_sector id page kind flags bytes id_fits page_fits kind_fits flags_fit few are = record {
  id_fits = id_fits;
  page_fits = page_fits;
  kind_fits = kind_fits;
  flags_fit = flags_fit;
  last_fits = omega arith;
  whole_page = page_size bytes few;
  bytes = page_bytes bytes are;
}

abbrev AreEach : List Sector → Type 0
AreEach xs = (k : ℕ) (s : Sector) → slice_get xs k ≡ Some s → IsSector s

each : (xs : List Sector) → AllByRecursion IsSector xs → AreEach xs
each [] are k s here = absurd (none-some s here)
each (x ∷ xs) are zero s here = subst IsSector (same_Some x s here) are.0
each (x ∷ xs) are (suc k) s here = each xs are.1 k s here

in_both : (xs ys : List Sector) → AreEach xs → AreEach ys → AreEach (xs ++ ys)
in_both xs ys first second k s here = elim (in_rows xs ys k s here) [
  | inl low ↦ first k s low
  | inr high ↦ second high.0 s high.2
]

all_free : (n : ℕ) → AreEach (replicate n free_sector)
all_free n k s here = subst IsSector (sym (in_replicate n free_sector k s here)) (is_sector 0 0 0 0 [] (omega arith) (omega arith) (omega arith) (omega arith) (omega arith) refl)

all_unused : (k n : ℕ) → k + n ≤ 34 → AllByRecursion IsSector (unused_pages k n)
all_unused k zero few = tt
all_unused k (suc n) few = (is_sector 2 k 0 0 [] (omega arith) (omega (arith, few)) (omega arith) (omega arith) (omega arith) refl, all_unused (k + 1) n (omega (arith, few)))

all_of_files : AllByRecursion IsSector file_sectors
all_of_files = (
  is_sector 30064771073 leader_page 9 3 [] (omega arith) (omega arith) (omega arith) (omega arith) (omega arith) refl,
  (
    is_sector 30064771073 0 9 0 (65 ∷ 66 ∷ []) (omega arith) (omega arith) (omega arith) (omega arith) (omega arith) refl,
    (
      is_sector 30064771073 1 9 0 (67 ∷ []) (omega arith) (omega arith) (omega arith) (omega arith) (omega arith) refl,
      (
        is_sector 30064771074 0 5 0 (68 ∷ []) (omega arith) (omega arith) (omega arith) (omega arith) (omega arith) refl,
        (
          is_sector 30064771074 leader_page 5 1 [] (omega arith) (omega arith) (omega arith) (omega arith) (omega arith) refl,
          (is_sector 30064771075 leader_page 0 1 [] (omega arith) (omega arith) (omega arith) (omega arith) (omega arith) refl, tt),
        ),
      ),
    ),
  ),
)

-- root, allocation map, and the two pages of the file map that have a tree
abbrev first_four : List Sector
first_four = sector 4 0 0 0 root_start ∷ sector 1 0 0 0 bits ∷ sector 2 0 0 0 header_start ∷ sector 2 1 0 0 leaf_start ∷ []

all_four : AllByRecursion IsSector first_four
unfolding run_bytes
all_four = (
  is_sector 4 0 0 0 root_start (omega arith) (omega arith) (omega arith) (omega arith) (omega arith) refl,
  (
    is_sector 1 0 0 0 bits (omega arith) (omega arith) (omega arith) (omega arith) (omega arith) refl,
    (
      is_sector 2 0 0 0 header_start (omega arith) (omega arith) (omega arith) (omega arith) (omega arith) refl,
      (is_sector 2 1 0 0 leaf_start (omega arith) (omega arith) (omega arith) (omega arith) (omega arith) refl, tt),
    ),
  ),
)

pub sectors : AreSectors three_files
unfolding three_files
sectors =
    in_both first_four (unused_pages 2 32 ++ (replicate 96 free_sector ++ (file_sectors ++ replicate 118 free_sector))) (each first_four all_four)
    (in_both (unused_pages 2 32) (replicate 96 free_sector ++ (file_sectors ++ replicate 118 free_sector)) (each (unused_pages 2 32) (all_unused 2 32 (omega arith)))
    (in_both (replicate 96 free_sector) (file_sectors ++ replicate 118 free_sector) (all_free 96) (in_both file_sectors (replicate 118 free_sector) (each file_sectors all_of_files) (all_free 118))))
