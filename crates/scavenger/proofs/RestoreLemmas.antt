-- A disk with a valid root is restored.
use Rattle.std.proofs.Common.{◌≡◌, ◌≢◌, ◌⊎◌, inl, inr, ℕ, zero, suc, ◌+◌, ◌-◌, ◌*◌, ◌/◌, ◌%◌, ◌^◌, ◌<◌, ◌≤◌, Bool, true, false, not, ◌&&◌, ◌||◌, cond, List, [], ◌∷◌, ◌++◌, length, drop, Option, Some, refl, sym, ◌∙◌, ap, subst, arith, leb, eqb, length-set, length-drop}
use Rattle.std.specs.Prelude.{◌↔◌, slice_get, slice_set, IsTrue, IsSomeAnd}
use Rattle.std.specs.Option.{option_map_or}
use Rattle.std.specs.List.{AllByRecursion}
use Rattle.std.proofs.lemmas.Option.{slice_get_past}
use Rattle.std.proofs.lemmas.Bool.{leb-true, le-leb, lt-leb, lt-ltb, true≢false}
use Rattle.labelled_disk.specs.declared.disk.DiskWrite.{DiskWrite}
use Rattle.labelled_disk.specs.declared.label.Label.{Label}
use Rattle.labelled_disk.specs.Label.{is_file, is_free, names, root_label, page_label}
use Rattle.labelled_disk.specs.Layout.{IsCount, capacity, data_sectors, first_data, vam, vfm}
use Rattle.labelled_disk.specs.File.{File, total_room}
use Rattle.labelled_disk.specs.FilesOn.{files_on, files_by, disk_file}
use Rattle.labelled_disk.specs.Lowest.{is_needed}
use Rattle.labelled_disk.specs.CrashState.{written, crash_state}
use Rattle.labelled_disk.specs.Right.{IsGiven}
use Rattle.labelled_disk.specs.Root.{IsRoot, HasMaps, LabelsRight, page_in, root_page, serial_of, counter_of, short_at, number_at}
use Rattle.labelled_disk.specs.Runs.{freeing}
use Rattle.labelled_disk.specs.Sectors.{Sector}
use Rattle.labelled_disk.specs.WriteLaws.{HasData}
use Rattle.labelled_disk.specs.WriteRuns.{after_writes}
use Rattle.labelled_disk.proofs.Finds.{get_set_same, get_set_other}
use Rattle.labelled_disk.proofs.RootLemmas as roots
use Rattle.labelled_disk.proofs.WriteLemmas as writes
use Rattle.labelled_disk.proofs.WriteRunLemmas.{after_writes-append}
use Rattle.alloc_map.specs.Bits.{is_used}
use Rattle.file_map.specs.FileMap.{AreNamed}
use Rattle.file_map.specs.InSectors.{label_triples, map_bytes as file_bytes}
use Rattle.page_tree.specs.Page.{page_at}
use Rattle.page_tree.specs.Reveals.{RevealsTree}
use Rattle.volume_root.specs.declared.root.Root.{Root}
use Rattle.volume_root.specs.RootPage.{IsValidRoot, root_write, root_bytes}
use Rattle.volume_root.specs.Sound.{Sound, HasBits, HasFileMap, map_bytes}
use Rattle.volume_root.proofs.WrittenLemmas.{flag_read, serial_read, counter_read, is_root}
use Rattle.label_laws.specs.Counts.{places, needs_place, unneeded_sectors}
use Rattle.label_laws.specs.MapLabels.{map_page, MapRelabelled}
use Rattle.label_laws.specs.SoundParts.{IsSoundButRoom, SoundByRoom}
use Rattle.label_laws.specs.Unneeded.{IsUnneeded, AreFreeOrNeeded, FreedCrashStates, FreedStayRight}
use Rattle.label_laws.proofs.CountLemmas.{list_laws}
use Rattle.label_laws.proofs.FileLemmas.{free_none}
use Rattle.cut_laws.specs.Restored.{IsRestoring}
use Rattle.label_survey.specs.Counter.{IsRaised}
use Rattle.label_survey.specs.Laws.{NeededAreFiles}
use Rattle.scavenger.specs.Orders.{Orders, AreFor, closed, map_writes, opened as first_root, preparing_writes}
use Rattle.scavenger.specs.Restored.{IsBetween, IsRestored}
use Rattle.scavenger.specs.Stays.{stays, staying}
use Rattle.scavenger.proofs.FoundLemmas.{gathered, taken_as_needed, named_alike}
use Rattle.scavenger.proofs.FreedLemmas.{IsSameVolume, same_volume_then, low_same_volume, freed, freed_crash_states, freed_needs, free_or_needed, needed_stays}
use Rattle.scavenger.proofs.LayoutLemmas.{first_is, first_within}
use Rattle.scavenger.proofs.LowLemmas.{IsLow, IsMapWrite, low_then, low_crash_states, map_writes_are, map_written, map_there, map_other, labelled_so}
use Rattle.scavenger.proofs.CrashStateLemmas.{AtEach, each_then, at_end}

-- the files of g, and labels that are right where those of g were; a crash state whose clean flag is 1 is g or h
pub record IsOnTheWay (g h now : List Sector) : Type 0 where
  pub files : files_on now ≡ files_on g
  pub right : LabelsRight g → LabelsRight now
  pub clean : short_at (root_page now) 10 ≡ 1 → (now ≡ g) ⊎ (now ≡ h)

pub on_way_between : (g h now : List Sector) → IsRestored g h → IsOnTheWay g h now → IsBetween g now
on_way_between g h now restored way = record {
  files = way.files;
  right = way.right;
  clean = λ flag. elim (way.clean flag) [
    | inl same ↦ inl same
    | inr same ↦ inr (subst (IsRestored g) (sym same) restored)
  ];
}

-- The laws of labels that are used.
pub record Laws : Type 0 where
  pub freed_crash_states : FreedCrashStates false
  pub freed_right : FreedStayRight false
  pub relabelled : MapRelabelled false
  pub by_room : SoundByRoom
  pub files : NeededAreFiles

low_page : (n k : ℕ) → k < vam n → map_page n (1 + k) ≡ record { id = 1; page = k }
low_page n k low =
    ap (λ (b : Bool). cond b (record { id = 1; page = 1 + k - 1 }) (record { id = 2; page = 1 + k - 1 - vam n })) (le-leb (1 + k) (vam n) (omega (arith, low)))
    ∙ (let e : 1 + k - 1 ≡ k = omega arith in ap (λ (p : ℕ). record { id = 1; page = p }) e)

high_page : (n k : ℕ) → map_page n (1 + vam n + k) ≡ record { id = 2; page = k }
high_page n k =
    ap (λ (b : Bool). cond b (record { id = 1; page = 1 + vam n + k - 1 }) (record { id = 2; page = 1 + vam n + k - 1 - vam n })) (lt-leb (1 + vam n + k) (vam n) (omega arith))
    ∙ (let e : 1 + vam n + k - 1 - vam n ≡ k = omega arith in ap (λ (p : ℕ). record { id = 2; page = p }) e)

none_needed : (xs : List Sector) (j : ℕ) → length xs ≤ j → is_needed false xs j ≡ false
none_needed xs j over = rw (slice_get_past xs j over) refl

-- what the sectors after the opening have of those before
pub record IsOpened (g e : List Sector) : Type 0 where
  pub sectors : length e ≡ length g
  pub same_data : data_sectors e ≡ data_sectors g
  pub others : (i : ℕ) → i ≢ 0 → slice_get e i ≡ slice_get g i
  pub files : files_on e ≡ files_on g
  pub flag : short_at (root_page e) 10 ≡ 0
  pub right : LabelsRight g → LabelsRight e

pub opened_clear : (g : List Sector) → short_at (root_page g) 10 ≡ 0 → IsOpened g g
opened_clear g flag = record { sectors = refl; same_data = refl; others = λ i other. refl; files = refl; flag = flag; right = λ r. r }

-- the root of a restoration, that is not clean and has the new counter
module _ (g : List Sector) (o : Orders) (has : IsRoot (length g) (slice_get g 0)) (is_for : AreFor g o) where
  abbrev pub open_sector : Sector
  open_sector = (root_label, root_bytes (first_root o))

  abbrev pub open_disk : List Sector
  open_disk = written (root_write (first_root o)) g

  pub open_there : slice_get open_disk 0 ≡ Some open_sector
  open_there = get_set_same g 0 open_sector (omega (arith, has.accepted.0))

  open_valid : IsValidRoot (length g) (first_root o)
  open_valid = record {
    version = ap (λ (r : Root). r.version) is_for.root ∙ has.version;
    accepted = has.accepted;
    count = ap (λ (r : Root). r.sectors) is_for.root ∙ has.count;
    serial = omega (arith, ap (λ (r : Root). r.serial) is_for.root, has.serial);
    counter = omega (arith, is_for.counter.kept, has.counter);
  }

  pub opened_first : IsOpened g open_disk
  opened_first =
      let same : data_sectors open_disk ≡ data_sectors g = writes.data_past false 0 0 g 0 open_sector (writes.first_positive false 0 0 (length g)) in
      record {
        sectors = length-set g 0 open_sector;
        same_data = same;
        others = λ i other. get_set_other g 0 i open_sector other;
        files = ap (λ (xs : List Sector). files_by false xs xs) same;
        flag = ap (λ (s : Option Sector). short_at (page_in s) 10) open_there ∙ flag_read (first_root o);
        right = λ r. (roots.root_written false g open_sector r (is_root (length g) (first_root o) open_valid is_for.serial_fits is_for.counter_fits)
            (serial_read (first_root o) is_for.serial_fits ∙ ap (λ (r : Root). r.serial) is_for.root)
            (subst (λ (n : ℕ). counter_of g ≤ n) (sym (counter_read (first_root o) is_for.counter_fits)) is_for.counter.kept)).right;
      }

-- The unneeded sectors of a disk of so many sectors with these data sectors.
abbrev unneeded_of : ℕ → List Sector → List ℕ
unneeded_of n xs = places (λ i s. not (is_free s.0) && not (is_needed false xs (i - first_data n))) (first_data n) xs

-- the writes after the opening, on a volume of m sectors
abbrev pub after : Orders → ℕ → List ℕ → List DiskWrite
after o m freed = freeing freed ++ (map_writes 1 1 o.bits (vam m) ++ (map_writes 2 (1 + vam m) o.names (vfm m) ++ root_write (closed o) ∷ []))

-- From a disk that is open: its unneeded sectors are freed, both maps are written, and the root is closed.
module _ (laws : Laws) (g e : List Sector) (o : Orders) (has : IsRoot (length g) (slice_get g 0)) (is_for : AreFor g o) (opened : IsOpened g e) where
  abbrev n : ℕ
  n = length g

  same_unneeded : o.freed ≡ unneeded_sectors false e
  same_unneeded =
      is_for.freed ∙ sym (ap (λ (m : ℕ). unneeded_of m (data_sectors e)) opened.sectors ∙ ap (λ (xs : List Sector). unneeded_of n xs) opened.same_data)

  abbrev e2 : List Sector
  e2 = freed laws.freed_crash_states laws.freed_right e

  abbrev e3 : List Sector
  e3 = map_written 1 1 o.bits e2 (vam n)

  abbrev e4 : List Sector
  e4 = map_written 2 (1 + vam n) o.names e3 (vfm n)

  abbrev root_sector : Sector
  root_sector = (root_label, root_bytes (closed o))

  abbrev pub h : List Sector
  h = slice_set e4 0 root_sector

  abbrev bits_writes : List DiskWrite
  bits_writes = map_writes 1 1 o.bits (vam n)

  abbrev names_writes : List DiskWrite
  names_writes = map_writes 2 (1 + vam n) o.names (vfm n)

  abbrev last : DiskWrite
  last = root_write (closed o)

  abbrev row : List DiskWrite
  row = after o n (unneeded_sectors false e)

  same_count : o.root.sectors ≡ n
  same_count = ap (λ (r : Root). r.sectors) is_for.root ∙ has.count

  pub same_row : after o o.root.sectors o.freed ≡ row
  same_row = ap (λ (m : ℕ). after o m o.freed) same_count ∙ ap (after o n) same_unneeded

  pub row_end : after_writes row e ≡ h
  row_end =
      sym (after_writes-append (freeing (unneeded_sectors false e)) (bits_writes ++ (names_writes ++ last ∷ [])) e)
      ∙ sym (after_writes-append bits_writes (names_writes ++ last ∷ []) e2)
      ∙ sym (after_writes-append names_writes (last ∷ []) e3)

  count : IsCount n
  count = has.accepted

  -- lengths
  long2 : length e2 ≡ n
  long2 = (at_end (IsSameVolume e) e (freeing (unneeded_sectors false e)) (freed_crash_states laws.freed_crash_states laws.freed_right e)).sectors ∙ opened.sectors

  bits_low : AtEach (IsLow e2) e2 bits_writes
  bits_low = low_crash_states laws.relabelled n bits_writes (map_writes_are n 1 1 o.bits (vam n) (omega arith) (omega (arith, first_is n)) (low_page n)) e2 long2

  low3 : IsLow e2 e3
  low3 = at_end (IsLow e2) e2 bits_writes bits_low

  names_low : AtEach (IsLow e3) e3 names_writes
  names_low = low_crash_states laws.relabelled n names_writes (map_writes_are n 2 (1 + vam n) o.names (vfm n) (omega arith) (omega (arith, first_is n)) (λ k low. high_page n k)) e3 (low3.sectors ∙ long2)

  low4 : IsLow e2 e4
  low4 = low_then low3 (at_end (IsLow e3) e3 names_writes names_low)

  long4 : length e4 ≡ n
  long4 = low4.sectors ∙ long2

  volume2 : IsSameVolume e e2
  volume2 = at_end (IsSameVolume e) e (freeing (unneeded_sectors false e)) (freed_crash_states laws.freed_crash_states laws.freed_right e)

  -- What comes before the root.
  abbrev pub prep : List DiskWrite
  prep = freeing (unneeded_sectors false e) ++ (bits_writes ++ names_writes)

  pub same_prep : preparing_writes o ≡ prep
  same_prep =
      ap (λ (m : ℕ). freeing o.freed ++ (map_writes 1 1 o.bits (vam m) ++ map_writes 2 (1 + vam m) o.names (vfm m))) same_count
      ∙ ap (λ (is : List ℕ). freeing is ++ (bits_writes ++ names_writes)) same_unneeded

  pub prep_crash_states : AtEach (IsSameVolume e) e prep
  prep_crash_states = each_then (IsSameVolume e) e (freeing (unneeded_sectors false e)) (bits_writes ++ names_writes)
      (λ k. freed_crash_states laws.freed_crash_states laws.freed_right e k)
      (each_then (IsSameVolume e) e2 bits_writes names_writes
      (λ k. same_volume_then volume2 (low_same_volume (bits_low k)))
      (λ k. same_volume_then volume2 (low_same_volume (low_then low3 (names_low k)))))

  -- each write of it frees a sector that no file needs, or is of a map
  pub prep_restoring : AllByRecursion (IsRestoring false e) prep
  prep_restoring =
      all_then (freeing (unneeded_sectors false e)) (bits_writes ++ names_writes)
      (frees_restoring (unneeded_sectors false e) ((list_laws false).each e))
      (all_then bits_writes names_writes
      (maps_restoring bits_writes (map_writes_are n 1 1 o.bits (vam n) (omega arith) (omega (arith, first_is n)) (low_page n)))
      (maps_restoring names_writes (map_writes_are n 2 (1 + vam n) o.names (vfm n) (omega arith) (omega (arith, first_is n)) (λ k low. high_page n k))))
    where
      all_then : (xs ys : List DiskWrite) → AllByRecursion (IsRestoring false e) xs → AllByRecursion (IsRestoring false e) ys → AllByRecursion (IsRestoring false e) (xs ++ ys)
      all_then [] ys one more = more
      all_then (x ∷ xs) ys one more = (one.0, all_then xs ys one.1 more)

      frees_restoring : (is : List ℕ) → AllByRecursion (IsUnneeded false e) is → AllByRecursion (IsRestoring false e) (freeing is)
      frees_restoring [] each = tt
      frees_restoring (i ∷ is) each = (inr (each.0, refl), frees_restoring is each.1)

      maps_restoring : (ws : List DiskWrite) → AllByRecursion (IsMapWrite n) ws → AllByRecursion (IsRestoring false e) ws
      maps_restoring [] each = tt
      maps_restoring (w ∷ ws) each = (
        subst (λ (v : DiskWrite). IsRestoring false e v) (sym each.0.is) (subst (λ (m : ℕ). each.0.place < first_data m) (sym opened.sectors) each.0.below),
        maps_restoring ws each.1,
      )

  -- each crash state is on the way, or the end
  pub row_crash_states : (k : ℕ) → IsSameVolume e (crash_state e row k) ⊎ (crash_state e row k ≡ h)
  row_crash_states = each_then P e (freeing (unneeded_sectors false e)) (bits_writes ++ (names_writes ++ last ∷ []))
      (λ k. inl (freed_crash_states laws.freed_crash_states laws.freed_right e k))
      (each_then P e2 bits_writes (names_writes ++ last ∷ [])
      (λ k. inl (same_volume_then volume2 (low_same_volume (bits_low k))))
      (each_then P e3 names_writes (last ∷ [])
      (λ k. inl (same_volume_then volume2 (low_same_volume (low_then low3 (names_low k)))))
      at_last))
    where
      P : List Sector → Type 0
      P now = IsSameVolume e now ⊎ (now ≡ h)

      at_last : AtEach P e4 (last ∷ [])
      at_last zero = inl (same_volume_then volume2 (low_same_volume low4))
      at_last (suc zero) = inr refl
      at_last (suc (suc k)) = inr refl

  -- What the end holds.

  long_h : length h ≡ n
  long_h = length-set e4 0 root_sector ∙ long4

  first_there : 0 < first_data n
  first_there = omega (arith, first_is n)

  within : first_data n ≤ n
  within = first_within n count

  root_there : slice_get h 0 ≡ Some root_sector
  root_there = get_set_same e4 0 root_sector (omega (arith, long4, count.0))

  same_data : data_sectors h ≡ data_sectors e2
  same_data = writes.data_past false 0 0 e4 0 root_sector (writes.first_positive false 0 0 (length e4)) ∙ low4.same_data

  bits_there : (k : ℕ) → k < vam n → slice_get h (1 + k) ≡ Some (page_label 1 0 k, page_at o.bits k)
  bits_there k low =
      get_set_other e4 0 (1 + k) root_sector (λ q. omega (arith, q))
      ∙ map_other 2 (1 + vam n) o.names e3 (vfm n) (1 + k) (inl (omega (arith, low)))
      ∙ map_there 1 1 o.bits e2 (vam n) k low (omega (arith, long2, within, first_is n))

  names_there : (k : ℕ) → k < vfm n → slice_get h (1 + vam n + k) ≡ Some (page_label 2 0 k, page_at o.names k)
  names_there k low =
      get_set_other e4 0 (1 + vam n + k) root_sector (λ q. omega (arith, q))
      ∙ map_there 2 (1 + vam n) o.names e3 (vfm n) k low (omega (arith, low3.sectors, long2, within, first_is n))

  data_there : (i : ℕ) → first_data n ≤ i → slice_get h i ≡ slice_get e2 i
  data_there i from =
      get_set_other e4 0 i root_sector (λ q. omega (arith, q, from, first_there))
      ∙ map_other 2 (1 + vam n) o.names e3 (vfm n) i (inr (omega (arith, from, first_is n)))
      ∙ map_other 1 1 o.bits e2 (vam n) i (inr (omega (arith, from, first_is n)))

  -- Root and labels.

  now_valid : IsValidRoot n (closed o)
  now_valid = record {
    version = ap (λ (r : Root). r.version) is_for.root ∙ has.version;
    accepted = count;
    count = same_count;
    serial = omega (arith, ap (λ (r : Root). r.serial) is_for.root, has.serial);
    counter = omega (arith, is_for.counter.kept, has.counter);
  }

  has_root : IsRoot (length h) (slice_get h 0)
  has_root =
      subst (λ (s : Option Sector). IsRoot (length h) s) (sym root_there)
      (subst (λ (m : ℕ). IsRoot m (Some root_sector)) (sym long_h) (is_root n (closed o) now_valid is_for.serial_fits is_for.counter_fits))

  same_serial : serial_of h ≡ serial_of g
  same_serial = ap (λ (s : Option Sector). number_at (page_in s) 16) root_there ∙ serial_read (closed o) is_for.serial_fits ∙ ap (λ (r : Root). r.serial) is_for.root

  now_counter : counter_of h ≡ o.counter
  now_counter = ap (λ (s : Option Sector). number_at (page_in s) 20) root_there ∙ counter_read (closed o) is_for.counter_fits

  is_clean : short_at (root_page h) 10 ≡ 1
  is_clean = ap (λ (s : Option Sector). short_at (page_in s) 10) root_there ∙ flag_read (closed o)

  named : (id k : ℕ) (page : List ℕ) (place : ℕ) → slice_get h place ≡ Some (page_label id 0 k, page) → IsSomeAnd (slice_get h place) (λ s. IsTrue (names s.0 (record { id = id; page = k })))
  named id k page place there = subst (λ (s : Option Sector). IsSomeAnd s (λ t. IsTrue (names t.0 (record { id = id; page = k })))) (sym there) (labelled_so id k)

  has_maps : HasMaps (length h) h
  has_maps = subst (λ (m : ℕ). HasMaps m h) (sym long_h) (record {
    allocation = λ k low. named 1 k (page_at o.bits k) (1 + k) (bits_there k low);
    file_map = λ k low. named 2 k (page_at o.names k) (1 + vam n + k) (names_there k low);
  })

  same_files : files_on h ≡ files_on g
  same_files = ap (λ (xs : List Sector). files_by false xs xs) same_data ∙ volume2.files ∙ opened.files

  -- Free, or needed.

  all_settled : AreFreeOrNeeded false h
  all_settled = subst (λ (xs : List Sector). (i : ℕ) (s : Sector) → slice_get xs i ≡ Some s → (is_free s.0 ≡ true) ⊎ (is_needed false xs i ≡ true)) (sym same_data)
      (free_or_needed laws.freed_crash_states laws.freed_right e)

  same_needs : (i : ℕ) → needs_place false h i ≡ needs_place false g i
  same_needs i =
      ap (λ (m : ℕ). is_needed false (data_sectors h) (i - first_data m)) long_h
      ∙ ap (λ (xs : List Sector). is_needed false xs (i - first_data n)) same_data
      ∙ freed_needs laws.freed_crash_states laws.freed_right e (i - first_data n)
      ∙ ap (λ (xs : List Sector). is_needed false xs (i - first_data n)) opened.same_data

  file_not_free : (l : Label) → is_file l ≡ true → is_free l ≡ false
  file_not_free l file = either (is_free l) refl
    where
      either : (b : Bool) → is_free l ≡ b → b ≡ false
      either false q = refl
      either true q = absurd (true≢false (sym file ∙ free_none l q))

  needed_or_free : (i : ℕ) (s : Sector) → HasData h i s → needs_place false g i ≡ not (is_free s.0)
  needed_or_free i s there =
      sym (same_needs i)
      ∙ taken_as_needed (needs_place false h i) s.0 (all_settled (i - first_data (length h)) s (writes.data_get false 0 0 h i s there.is_data there.here))
      (λ needed. (laws.files h i s there needed).0) (file_not_free s.0)

  -- Both maps.

  bits_are : map_bytes h ≡ o.bits
  bits_are = gathered (vam (length h)) (drop 1 h) o.bits (is_for.bits.size ∙ (let q : 512 * vam n ≡ 512 * vam (length h) = ap (λ (m : ℕ). 512 * vam m) (sym long_h) in q))
      (λ k low. (page_label 1 0 k, writes.get_drop 1 h k ∙ bits_there k (omega (arith, low, ap vam long_h))))

  names_are : file_bytes h ≡ o.names
  names_are = gathered (vfm (length h)) (drop (1 + vam (length h)) h) o.names (is_for.names.size ∙ (let q : 512 * vfm n ≡ 512 * vfm (length h) = ap (λ (m : ℕ). 512 * vfm m) (sym long_h) in q))
      (λ k low. (page_label 2 0 k, writes.get_drop (1 + vam (length h)) h k ∙ ap (λ (m : ℕ). slice_get h (1 + vam m + k)) long_h ∙ names_there k (omega (arith, low, ap vfm long_h))))

  used : (i : ℕ) → is_used (map_bytes h) i ≡ stays g i
  used i = ap (λ (b : List ℕ). is_used b i) bits_are ∙ is_for.bits.used i

  at_data : (i : ℕ) → first_data n ≤ i → stays g i ≡ needs_place false g i
  at_data i from = ap (λ (b : Bool). b || needs_place false g i) (lt-leb (suc i) (first_data n) (omega (arith, from)))

  has_bits : HasBits h
  has_bits = record {
    low = λ i low. used i ∙ ap (λ (b : Bool). b || needs_place false g i) (lt-ltb i (first_data n) (subst (λ (m : ℕ). i < first_data m) long_h low));
    by_label = λ i s there. used i ∙ at_data i (subst (λ (m : ℕ). first_data m ≤ i) long_h there.is_data) ∙ needed_or_free i s there;
    past = λ i over.
        let far : n ≤ i = omega (arith, over, long_h) in
        used i ∙ at_data i (omega (arith, far, within)) ∙ none_needed (data_sectors g) (i - first_data n) (omega (arith, far, length-drop (first_data n) g));
  }

  needs_before : (i : ℕ) → needs_place false e i ≡ needs_place false g i
  needs_before i =
      ap (λ (m : ℕ). is_needed false (data_sectors e) (i - first_data m)) opened.sectors ∙ ap (λ (xs : List Sector). is_needed false xs (i - first_data n)) opened.same_data

  stays_there : (i : ℕ) → first_data n ≤ i → needs_place false g i ≡ true → slice_get h i ≡ slice_get g i
  stays_there i from needed =
      data_there i from
      ∙ needed_stays laws.freed_crash_states laws.freed_right e i (needs_before i ∙ needed)
      ∙ opened.others i (λ q. omega (arith, q, from, first_there))

  same_names : (id page sector : ℕ) → label_triples h id page sector ≡ staying g id page sector
  same_names id page sector =
      ap (λ (m : ℕ). leb (first_data m) sector && option_map_or (λ (s : Sector). not (is_free s.0) && (eqb s.0.id id && eqb s.0.page page)) (slice_get h sector) false) long_h
      ∙ named_alike (leb (first_data n) sector) (needs_place false g sector) (slice_get h sector) (slice_get g sector) id page
      (λ from needed. stays_there sector (leb-true (first_data n) sector from) needed)
      (λ from s here. needed_or_free sector s (record { is_data = subst (λ (m : ℕ). first_data m ≤ sector) (sym long_h) (leb-true (first_data n) sector from); here = here }))

  named_at_n : AreNamed n (RevealsTree 24 12 (vfm n) (λ b. b ≡ o.names)) (label_triples h)
  named_at_n = record {
    runs = is_for.names.named.runs;
    listed = is_for.names.named.listed;
    form = is_for.names.named.form;
    few = is_for.names.named.few;
    are = λ id page sector. same_names id page sector ∙ is_for.names.named.are id page sector;
  }

  has_file_map : HasFileMap h
  has_file_map =
      subst (λ (m : ℕ). AreNamed m (RevealsTree 24 12 (vfm m) (λ b. b ≡ file_bytes h)) (label_triples h)) (sym long_h)
      (subst (λ (c : List ℕ). AreNamed n (RevealsTree 24 12 (vfm n) (λ b. b ≡ c)) (label_triples h)) (sym names_are) named_at_n)

  -- All parts.

  ids_given : AllByRecursion (IsGiven (serial_of h) (counter_of h)) (files_on h)
  ids_given =
      subst (λ (m : ℕ). AllByRecursion (IsGiven m (counter_of h)) (files_on h)) (sym same_serial)
      (subst (λ (m : ℕ). AllByRecursion (IsGiven (serial_of g) m) (files_on h)) (sym now_counter)
      (subst (λ (fs : List File). AllByRecursion (IsGiven (serial_of g) o.counter) fs) (sym same_files) is_for.counter.given))

  parts : IsSoundButRoom h
  parts = record {
    has_root = has_root;
    has_maps = has_maps;
    ids_given = ids_given;
    clean = is_clean;
    free_or_needed = all_settled;
    bits = has_bits;
    file_map = has_file_map;
  }

  sound_by_room : Sound h ↔ (total_room (files_on g) ≤ capacity (length g))
  sound_by_room =
      subst (λ (m : ℕ). Sound h ↔ (total_room (files_on g) ≤ capacity m)) long_h
      (subst (λ (fs : List File). Sound h ↔ (total_room fs ≤ capacity (length h))) same_files (laws.by_room h parts))

  no_raise : LabelsRight g → counter_of h ≡ counter_of g
  no_raise right = now_counter ∙ either is_for.counter.least
    where
      either : (o.counter ≡ counter_of g) ⊎ ((f : File) × (disk_file false g f.id ≡ Some f) × (f.id / 2 ^ 32 ≡ serial_of g) × (f.id % 2 ^ 32 + 1 ≡ o.counter)) → o.counter ≡ counter_of g
      either (inl same) = same
      either (inr of) =
          let given = writes.of_file false 0 0 (IsGiven (serial_of g) (counter_of g)) g right.files.ids_given of.0.id of.0 of.1 of.2 in
          omega (arith, given, of.3, is_for.counter.kept)

  pub the_end : IsRestored g h
  the_end = record {
    sectors = long_h;
    files = same_files;
    has_serial = same_serial;
    has_counter = subst (IsRaised g (serial_of g) (counter_of g)) (sym now_counter) is_for.counter;
    parts = parts;
    sound = sound_by_room;
    right = λ right. (sound_by_room.1 right.files.room, no_raise right);
  }

  -- The crash states, as the disk before sees them.

  on_the_way : (now : List Sector) → IsSameVolume e now ⊎ (now ≡ h) → IsOnTheWay g h now
  on_the_way now (inl same) = record {
    files = same.files ∙ opened.files;
    right = λ r. same.right (opened.right r);
    clean = λ flag. absurd (let zero = ap (λ (s : Option Sector). short_at (page_in s) 10) same.root in omega (arith, flag, zero, opened.flag));
  }
  on_the_way now (inr end) = subst (IsOnTheWay g h) (sym end) (record { files = same_files; right = λ r. (sound_by_room.1 r.files.room).labels; clean = λ flag. inr refl })

  pub each_on_the_way : (k : ℕ) → IsOnTheWay g h (crash_state e (after o o.root.sectors o.freed) k)
  each_on_the_way k = subst (λ (ws : List DiskWrite). IsOnTheWay g h (crash_state e ws k)) (sym same_row) (on_the_way (crash_state e row k) (row_crash_states k))

  pub ends_so : after_writes (after o o.root.sectors o.freed) e ≡ h
  ends_so = ap (λ (ws : List DiskWrite). after_writes ws e) same_row ∙ row_end
