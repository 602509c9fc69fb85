-- A new volume is sound, and has no file.
use Rattle.std.proofs.Common.{◌≡◌, inl, ℕ, ◌+◌, ◌-◌, ◌*◌, ◌^◌, ◌<◌, ◌≤◌, true, false, not, List, [], map, length, take, drop, replicate, Option, Some, refl, sym, ◌∙◌, ap, subst, arith, length-set}
use Rattle.std.specs.Prelude.{slice_get, slice_index, IsTrue, IsSomeAnd}
use Rattle.std.specs.List.{flat_map, range_with_len, AllByRecursion}
use Rattle.std.proofs.lemmas.Bool.{eq-eqb}
use Rattle.std.proofs.lemmas.List.{get_or-take, get_or-drop, length-take, length-drop}
use Rattle.std.proofs.lemmas.List.FromFn.{length-map-range_with_len, get_or-map-range_with_len, fill_by_all}
use Rattle.std.proofs.lemmas.Option.{same_Some, slice_get_within, slice_get-get_or, get_or_from_slice_get}
use Rattle.labelled_disk.specs.Label.{is_file, is_free, names, root_label, page_label}
use Rattle.labelled_disk.specs.Sectors.{Sector, zero_sector}
use Rattle.labelled_disk.specs.Layout.{IsCount, capacity, data_sectors, first_data, layout_of, vam, vfm}
use Rattle.labelled_disk.specs.File.{File, total_room}
use Rattle.labelled_disk.specs.FilesOn.{files_among}
use Rattle.labelled_disk.specs.Right.{FilesRight, IsWhole, IsGiven}
use Rattle.labelled_disk.specs.Root.{IsRoot, HasMaps, LabelsRight, page_in, root_page, short_at, number_at, serial_of, counter_of}
use Rattle.labelled_disk.proofs.Finds.{get_set_same, get_set_other}
use Rattle.labelled_disk.proofs.LowestLemmas.{empty_has_none}
use Rattle.labelled_disk.proofs.WriteLemmas.{get_drop}
use Rattle.volume_root.specs.Format.{used_byte, used_page, new_sector, new_sectors, new_root, formatted}
use Rattle.volume_root.specs.FormatLaws.{IsEmptyVolume, NewIsEmpty}
use Rattle.volume_root.specs.RootPage.{IsValidRoot, root_bytes}
use Rattle.volume_root.specs.Sound.{map_bytes, HasBits, HasFileMap, Sound}
use Rattle.volume_root.proofs.FileMapLemmas.{zero_file_map}
use Rattle.volume_root.proofs.NewSectors.{in_allocation, in_file_map, in_data}
use Rattle.volume_root.proofs.UsedBits.{is_below, is_past, pages_joined, byte_of}
use Rattle.volume_root.proofs.WrittenLemmas.{is_root, flag_read, serial_read, counter_read}

named : (id page : ℕ) → names (page_label id 0 page) (record { id = id; page = page }) ≡ true
named id page = rw (eq-eqb id id refl, eq-eqb page page refl) refl

-- the sizes of the parts
module _ (n : ℕ) (count : IsCount n) where
  some_vam : 1 ≤ vam n
  some_vam = omega (arith, count)

  vam_fits : n ≤ 4096 * vam n
  vam_fits = omega arith

  first_is : first_data n ≡ 1 + vam n + vfm n
  unfolding first_data
  first_is = refl

  first_fits : first_data n < n
  first_fits = omega (arith, count, first_is)

module _ (n serial counter : ℕ) (count : IsCount n) (some_serial : 1 ≤ serial) (serial_fits : serial < 2 ^ 32) (some_counter : 1 ≤ counter) (counter_fits : counter < 2 ^ 32) where
  abbrev root : Sector
  root = (root_label, root_bytes (new_root n serial counter))

  abbrev fresh : ℕ → Sector
  fresh = new_sector (layout_of n)

  abbrev volume : List Sector
  volume = formatted n serial counter

  valid : IsValidRoot n (new_root n serial counter)
  valid = record { version = refl; accepted = count; count = refl; serial = some_serial; counter = some_counter }

  fresh_size : length (new_sectors (layout_of n) n) ≡ n
  fresh_size = length-map-range_with_len fresh 0 n

  pub size : length volume ≡ n
  size = length-set (new_sectors (layout_of n) n) 0 root ∙ fresh_size

  at_root : slice_get volume 0 ≡ Some root
  at_root = get_set_same (new_sectors (layout_of n) n) 0 root (omega (arith, fresh_size, count))

  at : (i : ℕ) → 1 ≤ i → i < n → slice_get volume i ≡ Some (fresh i)
  at i high low =
      get_set_other (new_sectors (layout_of n) n) 0 i root (λ e. omega (arith, e, high))
      ∙ slice_get-get_or (new_sectors (layout_of n) n) i zero_sector (omega (arith, fresh_size, low))
      ∙ ap (λ (s : Sector). Some s) (get_or-map-range_with_len fresh 0 n i i zero_sector low (omega arith))

  at_allocation : (k : ℕ) → k < vam n → slice_get volume (1 + k) ≡ Some (page_label 1 0 k, used_page (first_data n) k)
  unfolding first_data
  at_allocation k below =
      let e : 1 + k - 1 ≡ k = omega arith in
      at (1 + k) (omega arith) (omega (arith, below, first_fits n count, first_is n count))
      ∙ ap (λ (s : Sector). Some s) (in_allocation (layout_of n) (1 + k) (λ q. omega (arith, q)) (omega (arith, below)))
      ∙ ap (λ (j : ℕ). Some (page_label 1 0 j, used_page (1 + vam n + vfm n) j)) e

  at_file_map : (k : ℕ) → k < vfm n → slice_get volume (1 + vam n + k) ≡ Some (page_label 2 0 k, replicate 512 0)
  at_file_map k below =
      let e : 1 + vam n + k - 1 - vam n ≡ k = omega arith in
      at (1 + vam n + k) (omega arith) (omega (arith, below, first_fits n count, first_is n count))
      ∙ ap (λ (s : Sector). Some s) (in_file_map (layout_of n) (1 + vam n + k) (omega arith) (omega (arith, below)))
      ∙ ap (λ (j : ℕ). Some (page_label 2 0 j, replicate 512 0)) e

  at_data : (i : ℕ) (s : Sector) → first_data n ≤ i → slice_get volume i ≡ Some s → s ≡ zero_sector
  at_data i s high here =
      let below = slice_get_within volume i s here in
      sym (same_Some (fresh i) s (sym (at i (omega (arith, high, first_is n count)) (omega (arith, below, size))) ∙ here))
      ∙ in_data (layout_of n) i (omega (arith, high, first_is n count)) (omega (arith, high, first_is n count))

  in_data_sectors : (i : ℕ) (s : Sector) → slice_get (data_sectors volume) i ≡ Some s → s ≡ zero_sector
  in_data_sectors i s here =
      at_data (first_data n + i) s (omega arith)
      (ap (λ (k : ℕ). slice_get volume (first_data k + i)) (sym size) ∙ sym (get_drop (first_data (length volume)) volume i) ∙ here)

  no_files : files_among false volume ≡ []
  no_files = empty_has_none false volume (λ i s here. ap (λ (t : Sector). is_file t.0) (in_data_sectors i s here))

  has_maps : HasMaps n volume
  has_maps = record {
    allocation = λ k below. subst (λ (o : Option Sector). IsSomeAnd o (λ s. IsTrue (names s.0 (record { id = 1; page = k })))) (sym (at_allocation k below)) (named 1 k);
    file_map = λ k below. subst (λ (o : Option Sector). IsSomeAnd o (λ s. IsTrue (names s.0 (record { id = 2; page = k })))) (sym (at_file_map k below)) (named 2 k);
  }

  has_files : FilesRight false (serial_of volume) (counter_of volume) volume
  has_files = record {
    accepted = subst IsCount (sym size) count;
    whole_files = subst (λ (fs : List File). AllByRecursion (IsWhole (data_sectors volume)) fs) (sym no_files) tt;
    ids_given = subst (λ (fs : List File). AllByRecursion (IsGiven (serial_of volume) (counter_of volume)) fs) (sym no_files) tt;
    room = subst (λ (fs : List File). total_room fs ≤ capacity (length volume)) (sym no_files) (omega arith);
  }

  labels : LabelsRight volume
  labels = record {
    has_root = subst (λ (k : ℕ). IsRoot k (slice_get volume 0)) (sym size)
        (subst (λ (o : Option Sector). IsRoot n o) (sym at_root) (is_root n (new_root n serial counter) valid serial_fits counter_fits));
    has_maps = subst (λ (k : ℕ). HasMaps k volume) (sym size) has_maps;
    files = has_files;
  }

  page_of_root : root_page volume ≡ root_bytes (new_root n serial counter)
  page_of_root = ap page_in at_root

  -- the pages of the allocation map
  allocation : take (vam n) (drop 1 volume) ≡ map (λ k. fresh (1 + k)) (range_with_len 0 (vam n))
  allocation =
      fill_by_all (λ k. fresh (1 + k)) (take (vam n) (drop 1 volume)) (vam n) zero_sector
      (length-take (vam n) (drop 1 volume) ∙ omega (arith, length-drop 1 volume, size, first_fits n count, first_is n count))
      (λ k below. get_or-take (vam n) (drop 1 volume) k zero_sector below ∙ get_or-drop 1 volume k zero_sector
      ∙ get_or_from_slice_get volume (1 + k) (fresh (1 + k)) zero_sector (at (1 + k) (omega arith) (omega (arith, below, first_fits n count, first_is n count))))

  bytes : map_bytes volume ≡ map (used_byte (first_data n)) (range_with_len 0 (512 * vam n))
  bytes =
      ap (λ (k : ℕ). flat_map (λ (s : Sector). s.1) (take (vam k) (drop 1 volume))) size
      ∙ ap (flat_map (λ (s : Sector). s.1)) allocation
      ∙ pages_joined (first_data n) (λ k. fresh (1 + k)) (vam n)
      (λ k below. ap (λ (s : Sector). s.1) (same_Some (fresh (1 + k)) (page_label 1 0 k, used_page (first_data n) k)
      (sym (at (1 + k) (omega arith) (omega (arith, below, first_fits n count, first_is n count))) ∙ at_allocation k below)))

  each_byte : (k : ℕ) → slice_index (map_bytes volume) k ≡ used_byte (first_data n) k
  each_byte k = ap (λ (l : List ℕ). slice_index l k) bytes ∙ byte_of (first_data n) (512 * vam n) k (omega (arith, first_fits n count, vam_fits n count))

  bits : HasBits volume
  bits = record {
    low = λ i below. is_below (first_data n) (map_bytes volume) each_byte i (subst (λ (k : ℕ). i < first_data k) size below);
    by_label = λ i s has.
        let high : first_data n ≤ i = subst (λ (k : ℕ). first_data k ≤ i) size has.is_data in
        is_past (first_data n) (map_bytes volume) each_byte i high ∙ sym (ap (λ (t : Sector). not (is_free t.0)) (at_data i s high has.here));
    past = λ i over. is_past (first_data n) (map_bytes volume) each_byte i (omega (arith, over, size, first_fits n count));
  }

  file_map : HasFileMap volume
  file_map =
      let place : 1 + vam n + 0 ≡ 1 + vam n = omega arith in
      zero_file_map volume (λ i s high here. ap (λ (t : Sector). is_free t.0) (at_data i s (subst (λ (k : ℕ). first_data k ≤ i) size high) here))
      (page_label 2 0 0, replicate 512 0) (subst IsCount (sym size) count)
      (ap (λ (k : ℕ). slice_get volume (1 + vam k)) size ∙ ap (slice_get volume) (sym place) ∙ at_file_map 0 (omega arith)) refl

  sound : Sound volume
  sound = record {
    labels = labels;
    clean = ap (λ (page : List ℕ). short_at page 10) page_of_root ∙ flag_read (new_root n serial counter);
    free_or_needed = λ i s here. inl (ap (λ (t : Sector). is_free t.0) (in_data_sectors i s here));
    bits = bits;
    file_map = file_map;
  }

  pub empty : IsEmptyVolume n serial counter volume
  empty = record {
    sectors = size;
    sound = sound;
    no_files = no_files;
    has_serial = ap (λ (page : List ℕ). number_at page 16) page_of_root ∙ serial_read (new_root n serial counter) serial_fits;
    has_counter = ap (λ (page : List ℕ). number_at page 20) page_of_root ∙ counter_read (new_root n serial counter) counter_fits;
  }

pub new_is_empty : NewIsEmpty
new_is_empty = empty
