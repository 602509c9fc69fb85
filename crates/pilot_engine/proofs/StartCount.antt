-- As many data sectors are marked as the files of a volume have, so the pages of the space tables have room.
use Rattle.std.proofs.Common.{◌≡◌, ℕ, ◌+◌, ◌-◌, ◌/◌, ◌%◌, ◌≤◌, false, not, List, length, Option, Some, sym, ◌∙◌, ap, subst, arith, min}
use Rattle.std.specs.Prelude.{slice_get, count_by}
use Rattle.std.specs.List.{range_with_len}
use Rattle.std.proofs.lemmas.List.{length-drop}
use Rattle.std.proofs.lemmas.List.FromFn.{length-range_with_len}
use Rattle.labelled_disk.specs.declared.layout.Layout.{Layout}
use Rattle.labelled_disk.specs.Label.{is_free}
use Rattle.labelled_disk.specs.File.{total_room}
use Rattle.labelled_disk.specs.FilesOn.{files_on}
use Rattle.labelled_disk.specs.Layout.{capacity, data_sectors, first_data, vam, vfm}
use Rattle.labelled_disk.specs.Root.{page_in}
use Rattle.labelled_disk.specs.Sectors.{Sector}
use Rattle.labelled_disk.proofs.WriteLemmas.{get_drop}
use Rattle.alloc_map.specs.Bits.{is_used}
use Rattle.swapper_kernel.specs.DiffersLaws.{label_here}
use Rattle.swapper_kernel.specs.Homes.{IsLayout}
use Rattle.session_words.specs.Parts.{is_marked}
use Rattle.session_words.specs.OpenLaws.{CanOpen, FlagCleared}
use Rattle.label_laws.proofs.TakenLemmas.{taken_by_files}
use Rattle.file_manager.specs.Making.{free_count}
use Rattle.file_manager.proofs.RunStages.{all_counted}
use Rattle.pilot_engine.proofs.RangeCounts.{placed}
use Rattle.std.proofs.lemmas.List.{length-map}

-- there is room beside what files may have
pub room_beside : (n : ℕ) → 256 ≤ n → (1 + vam n + vfm n + 96 ≤ n) × (capacity n ≡ n - (1 + vam n + vfm n) - 96)
room_beside n least = (omega (arith, least), omega arith)

module _ (layout : Layout) (is : IsLayout layout) (d x : List Sector) (o : CanOpen d) (c : FlagCleared d x) (long : length x ≡ layout.sectors) where
  marks_same : (i : ℕ) → is_marked x i ≡ is_marked d i
  marks_same i = ap (λ (o : Option Sector). is_used (page_in o) (i % 4096)) (c.others (1 + i / 4096) (λ e. omega (arith, e)))

  first_same : layout.first ≡ first_data (length d)
  unfolding first_data
  first_same = ap (λ (l : Layout). l.first) is.1 ∙ ap (λ (n : ℕ). 1 + vam n + vfm n) (sym long ∙ c.long)

  marked_by_files : count_by (is_marked x) (range_with_len layout.first (layout.sectors - layout.first)) ≡ total_room (files_on d)
  marked_by_files =
      let first : ℕ = first_data (length d) in
      let size : layout.sectors - layout.first ≡ length (data_sectors d) = (let a = first_same in let b = long in let l = c.long in let z : layout.sectors - layout.first ≡ length d - first_data (length d) = omega (arith, a, b, l) in z) ∙ sym (length-drop (first_data (length d)) d) in
      let label : (j : ℕ) (s : Sector) → slice_get (data_sectors d) j ≡ Some s → is_marked x (first_data (length d) + j) ≡ not (is_free s.0) = λ j s here. marks_same (first_data (length d) + j)
      ∙ o.bits.bits (first_data (length d) + j) s.0 (record { is_data = subst (λ (n : ℕ). first_data n ≤ first_data (length d) + j) (sym (length-map d (λ s. s.0))) (omega arith); here = label_here d (first_data (length d) + j) s (sym (get_drop (first_data (length d)) d j) ∙ here) }) in
      ap (λ (a : ℕ). count_by (is_marked x) (range_with_len a (layout.sectors - layout.first))) first_same
      ∙ ap (λ (n : ℕ). count_by (is_marked x) (range_with_len (first_data (length d)) n)) size
      ∙ placed (is_marked x) (λ n s. not (is_free s.0)) (first_data (length d)) (data_sectors d) label
      ∙ taken_by_files false d o.free_or_needed

  -- what is free and what files have are all data sectors
  pub free_and_files : total_room (files_on d) + free_count layout x ≡ layout.sectors - layout.first
  free_and_files =
      let all = all_counted (is_marked x) (range_with_len layout.first (layout.sectors - layout.first)) in
      let size = length-range_with_len layout.first (layout.sectors - layout.first) in
      let files = marked_by_files in
      omega (arith, all, size, files)

  parts : (layout.first + 96 ≤ layout.sectors) × (layout.capacity ≡ layout.sectors - layout.first - 96) × (total_room (files_on d) ≤ layout.capacity)
  parts =
      let r = room_beside layout.sectors is.0.0 in
      let beside = r.0 in
      let room = r.1 in
      let first : layout.first ≡ 1 + vam layout.sectors + vfm layout.sectors = ap (λ (l : Layout). l.first) is.1 in
      let most : layout.capacity ≡ capacity layout.sectors = ap (λ (l : Layout). l.capacity) is.1 in
      let fits : total_room (files_on d) ≤ capacity layout.sectors = subst (λ (n : ℕ). total_room (files_on d) ≤ capacity n) (sym c.long ∙ long) o.right.files.room in
      (omega (arith, beside, first), omega (arith, room, first, most), omega (arith, fits, most))

  -- so the pages of the space tables have room
  pub room_for_tables : 96 ≤ free_count layout x
  room_for_tables = let all = free_and_files in let p = parts in let a = p.0 in let b = p.1 in let e = p.2 in omega (arith, all, a, b, e)

  -- and the files have the data sectors that are not free
  pub used_by_files : (free used : ℕ) → free ≡ free_count layout x → used ≡ min ((layout.sectors - layout.first) - free) layout.capacity → used ≡ total_room (files_on d)
  used_by_files free used is_free is_used = let all = free_and_files in let p = parts in let e = p.2 in omega (arith, all, e, is_free, is_used)
