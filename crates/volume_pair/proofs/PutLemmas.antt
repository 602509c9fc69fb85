-- Bytes that are put into a page of a file: labels and maps are as they were, and so are all other pages.
use Rattle.std.proofs.Common.{◌≡◌, ◌≢◌, ◌⊎◌, inl, inr, ℕ, ◌≤◌, Bool, true, false, List, length, Some, None, refl, sym, ◌∙◌, ap, subst, arith, length-set}
use Rattle.std.specs.Prelude.{slice_get, slice_set, ◌==◌, if◌then◌else◌, IsSomeAnd, IsTrue}
use Rattle.std.proofs.lemmas.Bool.{cases_eq, ne_eqb, true≢false}
use Rattle.std.proofs.lemmas.Option.{same_Some, slice_get_within}
use Rattle.labelled_disk.specs.declared.label.Label.{Label}
use Rattle.labelled_disk.specs.declared.layout.Layout.{Layout}
use Rattle.labelled_disk.specs.Label.{is_file, names}
use Rattle.labelled_disk.specs.Layout.{first_data}
use Rattle.labelled_disk.specs.Sectors.{AreSectors, Sector}
use Rattle.labelled_disk.proofs.Finds.{get_set_other, get_set_same}
use Rattle.file_map.specs.declared.run.Run.{Run}
use Rattle.swapper_kernel.specs.DiffersLaws.{names_id, set_labels}
use Rattle.swapper_kernel.specs.Kinds.{SameBut, a_file, files_alone, kind_of, the_tables, unused}
use Rattle.swapper_kernel.specs.Stands.{labels_of}
use Rattle.swapper_kernel.proofs.KindLemmas.{data_kind}
use Rattle.session_words.specs.Parts.{HasLabelsUpto, Shapes}
use Rattle.session_words.proofs.StayLemmas.{stays}
use Rattle.label_calls.specs.Bytes.{PutsPage}
use Rattle.file_manager.specs.Book.{AreTrue, IsBookedUpto}

module _ (layout : Layout) (shapes : Shapes) (x y : List Sector) {runs : List Run} (b : IsBookedUpto 0 layout runs shapes x) (id page sector : ℕ) (client : 16 ≤ id) (file : (l : Label) → names l (record { id = id; page = page }) ≡ true → is_file l ≡ true) (bytes : List ℕ)
    (above : first_data (length x) ≤ sector) (put : PutsPage sector (record { id = id; page = page }) bytes x y) (sectors : AreSectors y) where
  s : Sector
  s = put.0

  pub put_labels : labels_of y ≡ labels_of x
  put_labels = ap labels_of put.3 ∙ set_labels x sector put.0 bytes put.1

  pub put_same : SameBut files_alone x y
  put_same = record {
    labels = put_labels;
    pages = λ k t here firm. ap (λ (l : List Sector). slice_get l k) put.3 ∙ either k t here firm (cases_eq k sector);
  }
    where
      either : (k : ℕ) (t : Sector) → slice_get x k ≡ Some t → files_alone (kind_of (length x) k t.0) ≡ false → (k ≡ sector) ⊎ (k ≢ sector) → slice_get (slice_set x sector (put.0.0, bytes)) k ≡ Some t
      either k t here firm (inr other) = get_set_other x sector k (put.0.0, bytes) other ∙ here
      either k t here firm (inl same) =
          let is : put.0 ≡ t = same_Some put.0 t (sym put.1 ∙ ap (slice_get x) (sym same) ∙ here) in
          let named : names t.0 (record { id = id; page = page }) ≡ true = ap (λ (u : Sector). names u.0 (record { id = id; page = page })) (sym is) ∙ put.2 in
          let three : (t.0.id == 3) ≡ false = ne_eqb t.0.id 3 (λ e. let own = names_id t.0 (record { id = id; page = page }) named in omega (arith, e, own, client)) in
          let kind : kind_of (length x) k t.0 ≡ a_file =
          data_kind (length x) k t.0 (subst (λ (n : ℕ). first_data (length x) ≤ n) (sym same) above)
          ∙ ap (λ (c : Bool). if c then the_tables else (if is_file t.0 then a_file else unused)) three ∙ ap (λ (c : Bool). if c then a_file else unused) (file t.0 named) in
          absurd (true≢false (sym (ap files_alone kind) ∙ firm))

  pub put_booked : IsBookedUpto 0 layout runs shapes y
  put_booked =
      let kept = stays (λ pages. None) x y files_alone put_same in
      record {
        sectors = sectors;
        long = ap (λ (l : List Sector). length l) put.3 ∙ length-set x sector (put.0.0, bytes) ∙ b.long;
        files = b.files;
        root_label = subst (λ (l : List Label). IsSomeAnd (slice_get l 0) (λ m. IsTrue (names m (record { id = 4; page = 0 })))) (sym put_labels) b.root_label;
        map_labels = kept.map_labels b.map_labels;
        labels = subst (λ (l : List Label). HasLabelsUpto 0 l shapes) (sym put_labels) b.labels;
        bits = kept.bits refl b.bits;
        named = b.named;
        map = kept.map b.named refl b.map;
        triples = kept.triples b.named b.triples;
        kept = subst (λ (l : List Label). AreTrue l runs) (sym put_labels) b.kept;
      }

  -- the page has the bytes
  pub put_here : slice_get y sector ≡ Some (put.0.0, bytes)
  put_here = ap (λ (l : List Sector). slice_get l sector) put.3 ∙ get_set_same x sector (put.0.0, bytes) (slice_get_within x sector put.0 put.1)

  pub put_other : (k : ℕ) → k ≢ sector → slice_get y k ≡ slice_get x k
  put_other k other = ap (λ (l : List Sector). slice_get l k) put.3 ∙ get_set_other x sector k (put.0.0, bytes) other
