-- The bytes of a resident page change.
use Rattle.std.proofs.Common.{◌≡◌, ⊎_elim, ℕ, zero, suc, ◌+◌, ◌-◌, ◌<◌, ◌≤◌, Bool, true, false, List, [], ◌∷◌, ◌++◌, length, take, drop, Option, Some, sym, ◌∙◌, ap, subst, arith}
use Rattle.std.specs.Prelude.{All, slice_get, option_map, ◌==◌, if◌then◌else◌, IsTrue, IsSomeAnd}
use Rattle.std.specs.List.{AllByRecursion}
use Rattle.std.proofs.lemmas.Bool.{ne_eqb, cases_lt}
use Rattle.std.proofs.lemmas.List.{length-map, length-append, length-take, length-drop}
use Rattle.labelled_disk.specs.declared.label.Label.{Label}
use Rattle.labelled_disk.specs.declared.label.Wanted.{Wanted}
use Rattle.labelled_disk.specs.Label.{is_file, is_file_id, names}
use Rattle.labelled_disk.specs.Layout.{first_data, vam, vfm}
use Rattle.labelled_disk.specs.Sectors.{Sector, IsSector}
use Rattle.labelled_disk.specs.File.{File, file_at}
use Rattle.frame_pool.specs.declared.home.Home.{Home}
use Rattle.flat_mem.specs.Memory.{overwritten}
use Rattle.flat_machine.specs.Machine.{Machine}
use Rattle.flat_machine.proofs.Cells.{every_append}
use Rattle.swapper_kernel.specs.Stands.{labels_of}
use Rattle.swapper_kernel.specs.Kinds.{the_tables, a_file, unused}
use Rattle.session_words.specs.Parts.{shape_of, TablesMeaning}
use Rattle.session_words.specs.StandsFor.{IsFor}
use Rattle.session_words.specs.CellLaws.{StoresAt}
use Rattle.swapper_kernel.specs.Differs.{ChangesAt}
use Rattle.session_words.specs.ChangeLaws.{ChangeLaws}
use Rattle.swapper_kernel.specs.DiffersLaws.{label_here}
use Rattle.swapper_kernel.proofs.KindLemmas.{data_kind}
use Rattle.session_words.proofs.FoundLemmas.{above_reserved, file_label}
use Rattle.session_words.proofs.LooseLemmas.{names_id, names_page}
use Rattle.session_words.proofs.SettledLemmas.{machine_shapes}

every_take : (P : ℕ → Type 0) (n : ℕ) (xs : List ℕ) → AllByRecursion P xs → AllByRecursion P (take n xs)
every_take P zero xs h = tt
every_take P (suc n) [] h = tt
every_take P (suc n) (x ∷ xs) h = (h.0, every_take P n xs h.1)

every_drop : (P : ℕ → Type 0) (n : ℕ) (xs : List ℕ) → AllByRecursion P xs → AllByRecursion P (drop n xs)
every_drop P zero xs h = h
every_drop P (suc n) [] h = tt
every_drop P (suc n) (x ∷ xs) h = every_drop P n xs h.1

every_by_index : (P : ℕ → Type 0) (xs : List ℕ) → All P xs → AllByRecursion P xs
every_by_index P [] h = tt
every_by_index P (x ∷ xs) h = (h 0 x (omega arith), every_by_index P xs (λ k d l. h (suc k) d (omega arith)))

index_by_every : (P : ℕ → Type 0) (xs : List ℕ) → AllByRecursion P xs → All P xs
index_by_every P [] h k d below = absurd (omega arith)
index_by_every P (x ∷ xs) h zero d below = h.0
index_by_every P (x ∷ xs) h (suc k) d below = index_by_every P xs h.1 k d (omega arith)

-- bytes over others are a page
overwritten_fits : (l : Label) (p : List ℕ) (at : ℕ) (bytes : List ℕ) → IsSector (l, p) → at + length bytes ≤ 512 → AllByRecursion (λ b. b < 256) bytes → IsSector (l, overwritten p at bytes)
overwritten_fits l p at bytes fits inside bs =
    let all = every_by_index (λ b. b < 256) p fits.bytes in
    record {
      id_fits = fits.id_fits;
      page_fits = fits.page_fits;
      kind_fits = fits.kind_fits;
      flags_fit = fits.flags_fit;
      last_fits = fits.last_fits;
      whole_page = omega (arith, fits.whole_page, inside, length-append (take at p ++ bytes) (drop (at + length bytes) p), length-append (take at p) bytes, length-append (take at p) (bytes ++ drop (at + length bytes) p), length-append bytes (drop (at + length bytes) p), length-take at p, length-drop (at + length bytes) p);
      bytes = index_by_every (λ b. b < 256) (overwritten p at bytes)
          (every_append (λ b. b < 256) (take at p ++ bytes) (drop (at + length bytes) p) (every_append (λ b. b < 256) (take at p) bytes (every_take (λ b. b < 256) at p all) bs) (every_drop (λ b. b < 256) (at + length bytes) p all));
    }

module _ (spaces_of : TablesMeaning) where
  pub high_is_data : (x : List Sector) (m : Machine) (k : ℕ) (s : Sector) → IsFor spaces_of x m → slice_get x k ≡ Some s → 16 ≤ s.0.id → first_data (length x) ≤ k
  unfolding first_data
  high_is_data x m k s h here high = ⊎_elim
      (λ (low : k < 1).
      let z : k ≡ 0 = omega arith in
      let at : slice_get x 0 ≡ Some s = ap (slice_get x) (sym z) ∙ here in
      let four = names_id s.0 (record { id = 4; page = 0 }) (subst (λ (o : Option Sector). IsSomeAnd o (λ t. IsTrue (names t.0 (record { id = 4; page = 0 })))) at h.by.root.valid.label) in
      absurd (omega (arith, four, high)))
      (λ (above : 1 ≤ k). ⊎_elim
      (λ (low : k - 1 < vam (length x)).
      let z : 1 + (k - 1) ≡ k = omega arith in
      let one = named (1 + (k - 1)) (record { id = 1; page = k - 1 }) (ap (slice_get x) z ∙ here) (h.by.map_labels.allocation (k - 1) (subst (λ (n : ℕ). k - 1 < vam n) (sym long) low)) in
      absurd (omega (arith, one, high)))
      (λ (past : vam (length x) ≤ k - 1). ⊎_elim
      (λ (low : k - 1 - vam (length x) < vfm (length x)).
      let z : 1 + vam (length x) + (k - 1 - vam (length x)) ≡ k = omega (arith, past, above) in
      let two = named (1 + vam (length x) + (k - 1 - vam (length x))) (record { id = 2; page = k - 1 - vam (length x) }) (ap (slice_get x) z ∙ here)
      (subst (λ (n : ℕ). IsSomeAnd (slice_get (labels_of x) (1 + vam n + (k - 1 - vam (length x)))) (λ l. IsTrue (names l (record { id = 2; page = k - 1 - vam (length x) })))) long
      (h.by.map_labels.file_map (k - 1 - vam (length x)) (subst (λ (n : ℕ). k - 1 - vam (length x) < vfm n) (sym long) low))) in
      absurd (omega (arith, two, high)))
      (λ (far : vfm (length x) ≤ k - 1 - vam (length x)). omega (arith, far, past, above))
      (cases_lt (k - 1 - vam (length x)) (vfm (length x))))
      (cases_lt (k - 1) (vam (length x))))
      (cases_lt k 1)
    where
      long : length (labels_of x) ≡ length x
      long = length-map x (λ s. s.0)

      named : (n : ℕ) (w : Wanted) → slice_get x n ≡ Some s → IsSomeAnd (slice_get (labels_of x) n) (λ l. IsTrue (names l w)) → s.0.id ≡ w.id
      named n w at is = names_id s.0 w (subst (λ (o : Option Label). IsSomeAnd o (λ l. IsTrue (names l w))) (label_here x n s at) is)

  pub change_stores : (x y : List Sector) (m : Machine) (home : Home) (f : File) (at : ℕ) (bytes : List ℕ) → IsFor spaces_of x m → file_at m.files home.id ≡ Some f
      → at + length bytes ≤ 512 → AllByRecursion (λ b. b < 256) bytes → ChangesAt home at bytes x y → StoresAt home.id home.page at bytes x y
  change_stores x y m home f at bytes h found inside bs c =
      let w : Wanted = record { id = home.id; page = home.page } in
      let ids : c.s.0.id ≡ home.id = names_id c.s.0 (record { id = home.id; page = home.page }) c.named in
      let pages : c.s.0.page ≡ home.page = names_page c.s.0 (record { id = home.id; page = home.page }) c.named in
      let given : is_file_id c.s.0.id ≡ true = ap is_file_id ids ∙ (machine_shapes m h.by.machine (length x) (slice_get x 0) h.by.root).given home.id (shape_of f) (ap (λ (o : Option File). option_map shape_of o) found) in
      let high = above_reserved c.s.0.id given in
      let file : is_file c.s.0 ≡ true = file_label c.s.0 given ((λ i. names c.s.0 (record { id = ids i; page = pages i })) ∙ c.named) in
      let above = high_is_data x m home.sector c.s h c.here high in
      let three : (c.s.0.id == 3) ≡ false = ne_eqb c.s.0.id 3 (omega arith) in
      record {
        place = home.sector;
        s = c.s;
        there = record {
          here = c.here;
          is = data_kind (length x) home.sector c.s.0 above ∙ ap (λ (b : Bool). if b then the_tables else (if is_file c.s.0 then a_file else unused)) three ∙ ap (λ (b : Bool). if b then a_file else unused) file;
        };
        same_id = ids;
        same_page = pages;
        inside = inside;
        fits = overwritten_fits c.s.0 c.s.1 at bytes (h.by.sectors home.sector c.s c.here) inside bs;
        is = c.is;
      }

  pub change_laws : ChangeLaws spaces_of
  change_laws = record { high = high_is_data; store = change_stores }
