-- A deletion.
use Rattle.std.proofs.Common.{◌≡◌, inr, ℕ, ◌≤◌, Bool, true, false, ◌&&◌, ◌||◌, not, List, map, length, Option, Some, None, refl, sym, ◌∙◌, ap, subst, arith}
use Rattle.std.specs.Prelude.{option_map, nat_lt, ◌==◌, if◌then◌else◌}
use Rattle.std.specs.Option.{option_map_or}
use Rattle.std.proofs.lemmas.Option.{none-some}
use Rattle.std.proofs.lemmas.Bool.{eqb-true, ne_eqb}
use Rattle.labelled_disk.specs.declared.label.Label.{Label}
use Rattle.labelled_disk.specs.Label.{leader_page}
use Rattle.labelled_disk.specs.Sectors.{Sector}
use Rattle.labelled_disk.specs.File.{File, file_at}
use Rattle.labelled_disk.proofs.AscendingLemmas.{at_id, each_at}
use Rattle.flat_machine.specs.declared.call.Call.TheVariants.{Delete}
use Rattle.flat_machine.specs.Machine.{Machine, IsFileId}
use Rattle.flat_machine.specs.IsMachine.{IsMachine}
use Rattle.flat_machine.specs.Refusal.{no_file, file_mapped}
use Rattle.flat_machine.specs.Next.{next, without_file}
use Rattle.flat_machine.proofs.NextLemmas.{next_keeps_machine}
use Rattle.flat_machine.proofs.TestLemmas.{two_none, file_there}
use Rattle.swapper_kernel.specs.Stands.{labels_of}
use Rattle.swapper_kernel.specs.Kinds.{the_tables, a_file}
use Rattle.session_words.specs.Volume.{volume_page}
use Rattle.session_words.specs.Parts.{Shape, shape_of, shapes_of, HasLabels, HasMapLabels, TablesMeaning, is_owned, is_marked}
use Rattle.session_words.specs.StandsFor.{IsForBy, IsFor, StandsFor}
use Rattle.session_words.specs.FreeLaws.{AreOfFiles, Frees, free_where}
use Rattle.session_words.specs.DeleteLaws.{all_pages, DeleteStands}
use Rattle.session_words.proofs.KnownLemmas.{frames_brought}
use Rattle.session_words.proofs.CallLemmas.{kind_tables}
use Rattle.session_words.proofs.CellLemmas.{unrefused}
use Rattle.session_words.proofs.FilesLemmas.{at_without}
use Rattle.session_words.proofs.FoundLemmas.{above_reserved, file_id_of}
use Rattle.session_words.proofs.FreeLemmas.{pages_gone, leaders_gone, bits_freed, triples_freed, map_labels_gone, sector_kept, root_kept}
use Rattle.session_words.proofs.LooseLemmas.{volume_loose, kind_file, goes_stands}
use Rattle.session_words.proofs.PlaceLemmas.{same_pages}
use Rattle.session_words.proofs.SettledLemmas.{shape_at}

module _ (spaces_of : TablesMeaning) (x y : List Sector) (id : ℕ) (m : Machine) (high : 16 ≤ id) (d : Frees (all_pages id) x y) (after_machine : IsMachine (record m { files = without_file id m.files }))
    (h : IsFor spaces_of x m) where
  reserved : AreOfFiles (all_pages id)
  reserved i p is = let own = eqb-true i id is in inr (omega (arith, own, high))

  shape_after : (i : ℕ) → shapes_of (without_file id m.files) i ≡ option_map shape_of (if i == id then None else file_at m.files i)
  shape_after i = ap (λ (o : Option File). option_map shape_of o) (at_without id m.files i)

  shape_high : (i : ℕ) (f : Shape) → shapes_of m.files i ≡ Some f → 16 ≤ i
  shape_high i f found =
      let g = shape_at m.files i f found in
      let given = (each_at (λ w. IsFileId m.serial m.counter w.id) m.files h.by.machine.ids_given i g.0 g.1).above_reserved in
      omega (arith, given, at_id m.files i g.0 g.1)

  owned_after : (i p : ℕ) → (not (all_pages id i p) && is_owned (shapes_of m.files) i p) ≡ is_owned (shapes_of (without_file id m.files)) i p
  owned_after i p = by (i == id) refl ∙ sym (ap (λ (o : Option Shape). (i == 3 && nat_lt p 96) || option_map_or (λ f. p == leader_page || nat_lt p f.size) o false) (shape_after i))
    where
      by : (b : Bool) → (i == id) ≡ b
          → (not b && ((i == 3 && nat_lt p 96) || option_map_or (λ f. p == leader_page || nat_lt p f.size) (shapes_of m.files i) false))
          ≡ ((i == 3 && nat_lt p 96) || option_map_or (λ f. p == leader_page || nat_lt p f.size) (option_map shape_of (if b then None else file_at m.files i)) false)
      by true e =
          let own = eqb-true i id e in
          let three : (i == 3) ≡ false = ne_eqb i 3 (λ q. omega (arith, q, own, high)) in
          sym (ap (λ (c : Bool). (c && nat_lt p 96) || false) three)
      by false e = refl

  leaders_from : (i : ℕ) (g : Shape) → shapes_of (without_file id m.files) i ≡ Some g
      → (f : Shape) × (shapes_of m.files i ≡ Some f) × (f.kind ≡ g.kind) × (f.permanent ≡ g.permanent) × (f.immutable ≡ g.immutable)
  leaders_from i g is = by (i == id) (sym (shape_after i) ∙ is)
    where
      by : (b : Bool) → option_map shape_of (if b then None else file_at m.files i) ≡ Some g → (f : Shape) × (shapes_of m.files i ≡ Some f) × (f.kind ≡ g.kind) × (f.permanent ≡ g.permanent) × (f.immutable ≡ g.immutable)
      by true k = absurd (none-some g k)
      by false k = (g, k, refl, refl, refl)

  by_deleted : IsForBy spaces_of (is_marked y) (λ i p s. not (all_pages id i p) && h.named i p s) y (record m { files = without_file id m.files })
  by_deleted = record {
    machine = after_machine;
    sectors = d.sectors;
    root = root_kept (all_pages id) reserved x y d m.serial m.counter m.capacity h.by.root;
    map_labels = subst HasMapLabels (sym d.labels) (map_labels_gone (labels_of x) (all_pages id) reserved h.by.map_labels);
    labels = subst (λ (l : List Label). HasLabels l (shapes_of (without_file id m.files))) (sym d.labels) (record {
      pages = same_pages (map (free_where (all_pages id)) (labels_of x)) (λ i p. not (all_pages id i p) && is_owned (shapes_of m.files) i p) (is_owned (shapes_of (without_file id m.files))) owned_after
          (pages_gone (labels_of x) (all_pages id) (is_owned (shapes_of m.files)) h.by.labels.pages);
      leaders = leaders_gone (labels_of x) (all_pages id) (shapes_of m.files) (shapes_of (without_file id m.files)) leaders_from shape_high h.by.labels.leaders;
    });
    bits = bits_freed (all_pages id) reserved x y d h.by.bits;
    triples = triples_freed (all_pages id) reserved x y d h.named h.by.triples;
    cells = record {
      agrees = λ k t f p has found page firm.
          let low = above_reserved t.0.id (file_id_of t.0 (kind_file (length y) k t.0 has.is)) in
          let was = sector_kept (all_pages id) reserved x y d a_file refl k t has (λ z. omega (arith, z, low)) in
          h.by.cells.agrees k t f p was.0 (sym (at_without id m.files t.0.id ∙ ap (λ (b : Bool). if b then None else file_at m.files t.0.id) was.1) ∙ found) page firm;
    };
    tables = record {
      pages = h.by.tables.pages;
      revealed = h.by.tables.revealed;
      count = h.by.tables.count;
      each = λ k t has.
          let three = kind_tables (length y) k t.0 has.is in
          h.by.tables.each k t (sector_kept (all_pages id) reserved x y d the_tables refl k t has (λ z. omega (arith, z, three))).0;
    };
  }

  deleted : IsFor spaces_of y (record m { files = without_file id m.files })
  deleted = record { named = λ i p s. not (all_pages id i p) && h.named i p s; map = d.triples h.named h.map; by = by_deleted }

pub delete_stands : (spaces_of : TablesMeaning) → DeleteStands spaces_of
delete_stands spaces_of id run old new before after m accepted goes known h =
    let becomes : next m (Delete id) ≡ record m { files = without_file id m.files } = unrefused m (Delete id) accepted in
    let machine : IsMachine (record m { files = without_file id m.files }) = subst IsMachine becomes (next_keeps_machine m (Delete id) tt h.is.by.machine) in
    let tests = two_none (no_file m id) (file_mapped m id (λ w. true)) accepted in
    let there = file_there m id tests.0 in
    let high = (each_at (λ f. IsFileId m.serial m.counter f.id) m.files h.is.by.machine.ids_given id there.0 there.1).above_reserved in
    subst (λ (n : Machine). StandsFor spaces_of new after n) (sym becomes)
    (goes_stands spaces_of (Frees (all_pages id)) volume_page run old new before after m (record m { files = without_file id m.files }) (frames_brought before after m.spaces known)
    (λ x y frees k. deleted spaces_of x y id m (omega (arith, high, at_id m.files id there.0 there.1)) frees machine k)
    (λ i page l. l) (λ i page own. volume_loose m.unforced i page own) goes h)
