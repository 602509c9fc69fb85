-- The file map of a sound volume names a sector for each page of each file.
use Rattle.std.proofs.Common.{◌≡◌, ℕ, ◌+◌, ◌%◌, ◌^◌, true, false, not, ◌&&◌, List, length, Option, Some, sym, ◌∙◌, ap, arith, eqb, leb, ltb}
use Rattle.std.specs.Prelude.{slice_get}
use Rattle.std.specs.Option.{option_map_or}
use Rattle.std.proofs.lemmas.Bool.{and_parts, and_from, le-leb, leb-true, ne_eqb}
use Rattle.labelled_disk.specs.Label.{is_file, is_file_id, is_free}
use Rattle.labelled_disk.specs.Sectors.{Sector}
use Rattle.labelled_disk.specs.Layout.{data_sectors, first_data}
use Rattle.labelled_disk.specs.FilesOn.{is_of, is_page}
use Rattle.labelled_disk.proofs.LowestLemmas.{files_are_as_revealed}
use Rattle.labelled_disk.proofs.WriteLemmas.{get_drop}
use Rattle.file_map.specs.InSectors.{label_triples}
use Rattle.volume_root.specs.Mapped.{SoundAreMapped}

-- a page of a file is named by its label
names_page : (id k : ℕ) (s : Sector) → is_page id k s ≡ true → (not (is_free s.0) && (eqb s.0.id id && eqb s.0.page k)) ≡ true
names_page id k s passes =
    let page = and_parts (is_of id s) (eqb s.0.page k) passes in
    let own = and_parts (is_file s.0) (eqb s.0.id id) page.0 in
    let label = and_parts (is_file_id s.0.id && ltb s.0.flags 4) (eqb s.0.last 0) own.0 in
    let given = and_parts (leb 16 s.0.id) (not (eqb (s.0.id % 2 ^ 32) 4294967295)) (and_parts (is_file_id s.0.id) (ltb s.0.flags 4) label.0).0 in
    let high = leb-true 16 s.0.id given.0 in
    and_from (not (is_free s.0)) (eqb s.0.id id && eqb s.0.page k) (ap not (ne_eqb s.0.id 0 (λ e. omega (arith, e, high)))) (and_from (eqb s.0.id id) (eqb s.0.page k) own.1 page.1)

names_sector : (d : List Sector) (id k i : ℕ) (s : Sector) → slice_get (data_sectors d) i ≡ Some s → is_page id k s ≡ true → label_triples d id k (first_data (length d) + i) ≡ true
names_sector d id k i s here passes =
    and_from (leb (first_data (length d)) (first_data (length d) + i)) (option_map_or (λ (s : Sector). not (is_free s.0) && (eqb s.0.id id && eqb s.0.page k)) (slice_get d (first_data (length d) + i)) false)
    (le-leb (first_data (length d)) (first_data (length d) + i) (omega arith))
    (ap (λ (o : Option Sector). option_map_or (λ (s : Sector). not (is_free s.0) && (eqb s.0.id id && eqb s.0.page k)) o false) (sym (get_drop (first_data (length d)) d i) ∙ here) ∙ names_page id k s passes)

pub sound_are_mapped : SoundAreMapped
sound_are_mapped d sound = record {
  named = label_triples d;
  revealed = sound.file_map;
  each = λ id k f is below.
      let page = ((files_are_as_revealed false d).revealed id f is).0.page k below in
      record {
        place = first_data (length d) + page.0;
        s = page.1;
        is_named = names_sector d f.id k page.0 page.1 page.2.here page.2.passes;
        there = record { is_data = omega arith; here = sym (get_drop (first_data (length d)) d page.0) ∙ page.2.here };
        bytes = page.3;
      };
}
