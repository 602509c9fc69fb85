-- A volume that can be opened, with its flag cleared.
use Rattle.std.proofs.Common.{◌≡◌, ◌≢◌, ℕ, ◌+◌, ◌*◌, ◌/◌, ◌%◌, ◌<◌, ◌≤◌, false, List, length, Option, Some, None, sym, ◌∙◌, ap, subst, arith}
use Rattle.std.specs.Prelude.{slice_get, option_map, IsTrue, IsSomeAnd}
use Rattle.std.proofs.lemmas.Option.{slice_get-map}
use Rattle.std.proofs.lemmas.List.{length-map}
use Rattle.labelled_disk.specs.declared.label.Label.{Label}
use Rattle.labelled_disk.specs.declared.label.Wanted.{Wanted}
use Rattle.labelled_disk.specs.declared.layout.Layout.{Layout}
use Rattle.labelled_disk.specs.Label.{names}
use Rattle.labelled_disk.specs.Layout.{first_data, vam, vfm}
use Rattle.labelled_disk.specs.FilesOn.{files_on}
use Rattle.labelled_disk.specs.Root.{page_in}
use Rattle.labelled_disk.specs.Sectors.{Sector, AreSectors}
use Rattle.labelled_disk.proofs.WriteLemmas as laws
use Rattle.alloc_map.specs.Bits.{is_used}
use Rattle.file_map.specs.declared.run.Run.{Run}
use Rattle.flat_machine.specs.Start.{start}
use Rattle.flat_machine.proofs.StartMachine.{start_is_machine}
use Rattle.swapper_kernel.specs.Stands.{labels_of}
use Rattle.session_words.specs.Parts.{shapes_of, is_marked, HasLabel, HasLabelsUpto, HasMapLabels, MarksFit, HasTriples}
use Rattle.session_words.specs.OpenLaws.{CanOpen, FlagCleared}
use Rattle.session_words.proofs.MapLemmas.{names_alike}
use Rattle.session_words.proofs.OpenLemmas.{same_map_bytes}
use Rattle.session_words.proofs.SettledLemmas.{machine_shapes}
use Rattle.session_words.proofs.StartLemmas.{start_laws}
use Rattle.file_manager.specs.Book.{IsBookedUpto, AreTrue}

module _ (d x : List Sector) (o : CanOpen d) (c : FlagCleared d x) where
  long : length (labels_of x) ≡ length (labels_of d)
  long = length-map x (λ s. s.0) ∙ c.long ∙ sym (length-map d (λ s. s.0))

  -- after the root the labels are the same
  label_same : (k : ℕ) → k ≢ 0 → slice_get (labels_of x) k ≡ slice_get (labels_of d) k
  label_same k some = slice_get-map (λ (s : Sector). s.0) x k ∙ ap (λ (o : Option Sector). option_map (λ (s : Sector). s.0) o) (c.others k some) ∙ sym (slice_get-map (λ (s : Sector). s.0) d k)

  not_root : (n k : ℕ) → first_data n ≤ k → k ≢ 0
  not_root n k above e = let low = laws.first_positive false 0 0 n in omega (arith, low, above, e)

  back : (k : ℕ) (l : Label) → HasLabel (labels_of x) k l → HasLabel (labels_of d) k l
  back k l has = record {
    is_data = subst (λ (n : ℕ). first_data n ≤ k) long has.is_data;
    here = sym (label_same k (not_root (length (labels_of x)) k has.is_data)) ∙ has.here;
  }

  forth : (k : ℕ) (l : Label) → HasLabel (labels_of d) k l → HasLabel (labels_of x) k l
  forth k l has = record {
    is_data = subst (λ (n : ℕ). first_data n ≤ k) (sym long) has.is_data;
    here = label_same k (not_root (length (labels_of d)) k has.is_data) ∙ has.here;
  }

  labels_then : HasLabelsUpto 0 (labels_of x) (shapes_of (files_on d))
  labels_then =
      let files = start_laws.files d o.right o.free_or_needed in
      record {
        pages = record {
          only = λ k l has taken. files.pages.only k l (back k l has) taken;
          all = λ i p is.
              let place = files.pages.all i p is in
              record { place = place.place; label = place.label; there = forth place.place place.label place.there; taken = place.taken; same_id = place.same_id; same_page = place.same_page };
          once = λ i j a b at_a at_b taken ids pages. files.pages.once i j a b (back i a at_a) (back j b at_b) taken ids pages;
        };
        leaders = record { reveal = λ k l f has found leader. files.leaders.reveal k l f (back k l has) found leader };
      }

  marks_same : (i : ℕ) → is_marked x i ≡ is_marked d i
  marks_same i = ap (λ (o : Option Sector). is_used (page_in o) (i % 4096)) (c.others (1 + i / 4096) (λ e. omega (arith, e)))

  bits_then : MarksFit (is_marked x) (labels_of x)
  bits_then = record {
    low = λ k below. marks_same k ∙ o.bits.low k (subst (λ (n : ℕ). k < first_data n) long below);
    bits = λ k l has. marks_same k ∙ o.bits.bits k l (back k l has);
    past = λ k end below. let n = long in marks_same k ∙ o.bits.past k (omega (arith, end, n)) (subst (λ (n : ℕ). k < 4096 * vam n) long below);
  }

  triples_then : HasTriples o.named (labels_of x)
  triples_then = record {
    only = λ i p s revealed. let t = o.triples.only i p s revealed in record { label = t.label; there = forth s t.label t.there; taken = t.taken; same_id = t.same_id; same_page = t.same_page };
    all = λ i p s t. o.triples.all i p s (record { label = t.label; there = back s t.label t.there; taken = t.taken; same_id = t.same_id; same_page = t.same_page });
  }

  size_same : length (labels_of x) ≡ length d
  size_same = length-map x (λ s. s.0) ∙ c.long

  label_at : (k : ℕ) (w : Wanted) → k ≢ 0 → IsSomeAnd (slice_get d k) (λ s. IsTrue (names s.0 w)) → IsSomeAnd (slice_get (labels_of x) k) (λ l. IsTrue (names l w))
  label_at k w some named = subst (λ (q : Option Label). IsSomeAnd q (λ l. IsTrue (names l w))) (sym (slice_get-map (λ (s : Sector). s.0) x k ∙ ap (λ (q : Option Sector). option_map (λ (s : Sector). s.0) q) (c.others k some))) (either (slice_get d k) named)
    where
      either : (q : Option Sector) → IsSomeAnd q (λ s. IsTrue (names s.0 w)) → IsSomeAnd (option_map (λ (s : Sector). s.0) q) (λ l. IsTrue (names l w))
      either (Some s) is = is
      either None is = absurd is

  map_labels_then : HasMapLabels (labels_of x)
  map_labels_then = record {
    allocation = λ k below. label_at (1 + k) (record { id = 1; page = k }) (λ e. omega (arith, e)) (o.right.has_maps.allocation k (subst (λ (n : ℕ). k < vam n) size_same below));
    file_map = λ k below.
        subst (λ (n : ℕ). IsSomeAnd (slice_get (labels_of x) (1 + vam n + k)) (λ l. IsTrue (names l (record { id = 2; page = k })))) (sym size_same)
        (label_at (1 + vam (length d) + k) (record { id = 2; page = k }) (λ e. omega (arith, e)) (o.right.has_maps.file_map k (subst (λ (n : ℕ). k < vfm n) size_same below)));
  }

  root_then : IsSomeAnd (slice_get (labels_of x) 0) (λ l. IsTrue (names l (record { id = 4; page = 0 })))
  root_then = subst (λ (q : Option Label). IsSomeAnd q (λ l. IsTrue (names l (record { id = 4; page = 0 })))) (sym (slice_get-map (λ (s : Sector). s.0) x 0)) (either (slice_get x 0) c.root_open.valid.label)
    where
      either : (q : Option Sector) → IsSomeAnd q (λ s. IsTrue (names s.0 (record { id = 4; page = 0 }))) → IsSomeAnd (option_map (λ (s : Sector). s.0) q) (λ l. IsTrue (names l (record { id = 4; page = 0 })))
      either (Some s) is = is
      either None is = absurd is

  pub opened_is_booked : (layout : Layout) (runs : List Run) → AreSectors x → length x ≡ layout.sectors → AreTrue (labels_of x) runs → IsBookedUpto 0 layout runs (shapes_of (files_on d)) x
  opened_is_booked layout runs sectors size kept = record {
    sectors = sectors;
    long = size;
    files = machine_shapes (start d) (start_is_machine d o.sectors o.right) (length x) (slice_get x 0) c.root_open;
    root_label = root_then;
    map_labels = map_labels_then;
    labels = labels_then;
    bits = bits_then;
    named = o.named;
    map = names_alike d x c.long (same_map_bytes d x c) o.named o.map;
    triples = triples_then;
    kept = kept;
  }
