-- The file map of a new volume, and of a volume under another root.
use Rattle.std.proofs.Common.{◌≡◌, ℕ, zero, suc, ◌+◌, ◌*◌, ◌/◌, ◌≤◌, Bool, true, false, not, ◌&&◌, List, [], ◌∷◌, length, take, drop, replicate, Option, Some, None, refl, sym, ◌∙◌, ap, subst, arith, leb, eqb}
use Rattle.std.specs.Prelude.{slice_get}
use Rattle.std.specs.List.{flat_map}
use Rattle.std.specs.Option.{option_map_or}
use Rattle.std.proofs.lemmas.Bool.{lt-leb, leb-true}
use Rattle.std.proofs.lemmas.Option.{same_Some, none-some}
use Rattle.labelled_disk.specs.declared.label.Label.{Label}
use Rattle.labelled_disk.specs.Label.{is_free}
use Rattle.labelled_disk.specs.Layout.{IsCount, first_data, vam, vfm}
use Rattle.labelled_disk.specs.Sectors.{Sector}
use Rattle.labelled_disk.proofs.WriteLemmas.{get_drop, first_positive}
use Rattle.page_tree.specs.Page.{page_at}
use Rattle.page_tree.specs.Reveals.{RevealsTree}
use Rattle.file_map.specs.FileMap.{Triples, AreNamed, no_triples}
use Rattle.file_map.specs.InSectors.{label_triples, map_bytes}
use Rattle.file_map.proofs.Empty.{zero_map}
use Rattle.volume_root.specs.Sound.{HasFileMap}
use Rattle.volume_root.proofs.RowLemmas.{first_of_pages}

-- the same map by triples that are the same ones
named_alike : (n : ℕ) (lists : List (List ℕ) → Type 0) (a b : Triples) → ((id page sector : ℕ) → b id page sector ≡ a id page sector) → AreNamed n lists a → AreNamed n lists b
named_alike n lists a b alike names = record {
  runs = names.runs;
  listed = names.listed;
  form = names.form;
  few = names.few;
  are = λ id page sector. alike id page sector ∙ names.are id page sector;
}

-- A map of zeros.

-- the first page of sectors in a row
first_page : (k : ℕ) (xs : List Sector) (s : Sector) → 1 ≤ k → slice_get xs 0 ≡ Some s → length s.1 ≡ 512 → page_at (flat_map (λ (t : Sector). t.1) (take k xs)) 0 ≡ s.1
first_page zero xs s some here size = absurd (omega (arith, some))
first_page (suc k) [] s some here size = absurd (none-some s here)
first_page (suc k) (x ∷ xs) s some here size =
    let same : x ≡ s = same_Some x s here in
    let long : length x.1 ≡ 512 = ap (λ (t : Sector). length t.1) same ∙ size in
    first_of_pages x.1 (flat_map (λ (t : Sector). t.1) (take k xs)) long ∙ ap (λ (t : Sector). t.1) same

-- a sector whose label is free has no page of a file
free_names : (is_data : Bool) (o : Option Sector) (id page : ℕ) → (is_data ≡ true → (s : Sector) → o ≡ Some s → is_free s.0 ≡ true)
    → (is_data && option_map_or (λ (s : Sector). not (is_free s.0) && (eqb s.0.id id && eqb s.0.page page)) o false) ≡ false
free_names false o id page free = refl
free_names true None id page free = refl
free_names true (Some s) id page free = ap (λ (b : Bool). not b && (eqb s.0.id id && eqb s.0.page page)) (free refl s refl)

module _ (d : List Sector) (free : (i : ℕ) (s : Sector) → first_data (length d) ≤ i → slice_get d i ≡ Some s → is_free s.0 ≡ true) where
  -- where all data sectors are free, no page is named
  nothing_named : (id page sector : ℕ) → label_triples d id page sector ≡ false
  nothing_named id page sector =
      free_names (leb (first_data (length d)) sector) (slice_get d sector) id page (λ e s here. free sector s (leb-true (first_data (length d)) sector e) here)

  -- and a map whose first page is zero says so
  pub zero_file_map : (s : Sector) → IsCount (length d) → slice_get d (1 + vam (length d)) ≡ Some s → s.1 ≡ replicate 512 0 → HasFileMap d
  zero_file_map s count there zeros =
      let some : 1 ≤ vfm (length d) = omega arith in
      let pages : 512 * vfm (length d) / 512 ≡ vfm (length d) = omega arith in
      let place : 1 + vam (length d) + 0 ≡ 1 + vam (length d) = omega arith in
      let here = get_drop (1 + vam (length d)) d 0 ∙ ap (slice_get d) place ∙ there in
      let first = first_page (vfm (length d)) (drop (1 + vam (length d)) d) s some here (ap length zeros) ∙ zeros in
      subst (λ (k : ℕ). AreNamed (length d) (RevealsTree 24 12 k (λ b. b ≡ map_bytes d)) (label_triples d)) pages
      (named_alike (length d) (RevealsTree 24 12 (512 * vfm (length d) / 512) (λ b. b ≡ map_bytes d)) no_triples (label_triples d) nothing_named
      (zero_map (length d) (512 * vfm (length d)) (λ b. b ≡ map_bytes d) (map_bytes d) count refl refl first))

-- Another sector 0.

module _ (s t : Sector) (rest : List Sector) where
  abbrev carries : Label → ℕ → ℕ → Bool
  carries l id page = not (is_free l) && (eqb l.id id && eqb l.page page)

  abbrev n : ℕ
  n = length (s ∷ rest)

  after : (u : Sector) → drop (1 + vam n) (u ∷ rest) ≡ drop (vam n) rest
  after u = let e : 1 + vam n ≡ suc (vam n) = omega arith in ap (λ (k : ℕ). drop k (u ∷ rest)) e

  bytes_kept : map_bytes (t ∷ rest) ≡ map_bytes (s ∷ rest)
  bytes_kept = ap (λ (xs : List Sector). flat_map (λ (u : Sector). u.1) (take (vfm n) xs)) (after t ∙ sym (after s))

  names_kept : (id page sector : ℕ) → label_triples (t ∷ rest) id page sector ≡ label_triples (s ∷ rest) id page sector
  names_kept id page zero =
      let low : leb (first_data n) 0 ≡ false = lt-leb (first_data n) 0 (first_positive false 0 0 n) in
      ap (λ (b : Bool). b && carries t.0 id page) low ∙ sym (ap (λ (b : Bool). b && carries s.0 id page) low)
  names_kept id page (suc sector) = refl

  -- the map names the same, and so do the labels
  pub file_map_kept : HasFileMap (s ∷ rest) → HasFileMap (t ∷ rest)
  file_map_kept names =
      named_alike n (RevealsTree 24 12 (vfm n) (λ b. b ≡ map_bytes (t ∷ rest))) (label_triples (s ∷ rest)) (label_triples (t ∷ rest)) names_kept
      (subst (λ (m : List ℕ). AreNamed n (RevealsTree 24 12 (vfm n) (λ b. b ≡ m)) (label_triples (s ∷ rest))) (sym bytes_kept) names)
