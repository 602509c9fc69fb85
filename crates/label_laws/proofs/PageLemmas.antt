-- Pages of files on disks with the same labels.
use Rattle.std.proofs.Common.{◌≡◌, inl, inr, ℕ, suc, ◌+◌, ◌<◌, Bool, true, false, cond, List, [], ◌∷◌, map, length, drop, Option, Some, None, refl, sym, ◌∙◌, ap, arith}
use Rattle.std.specs.Prelude.{slice_get, option_map, find}
use Rattle.std.specs.Option.{option_map_or}
use Rattle.std.proofs.lemmas.Option.{same_Some, none-some, slice_get_past}
use Rattle.std.proofs.lemmas.Bool.{cases_lt}
use Rattle.labelled_disk.specs.declared.label.Label.{Label}
use Rattle.labelled_disk.specs.Label.{leader_page}
use Rattle.labelled_disk.specs.Sectors.{Sector}
use Rattle.labelled_disk.specs.Layout.{data_sectors, first_data}
use Rattle.labelled_disk.specs.File.{File, Page, byte, size}
use Rattle.labelled_disk.specs.FilesOn.{is_page, page_at, pages_from, disk_file}
use Rattle.labelled_disk.specs.WriteLaws.{HasData}
use Rattle.labelled_disk.proofs.Pages.{pages_each}
use Rattle.labelled_disk.proofs.SectorWrites as w
use Rattle.labelled_disk.proofs.WriteLemmas as laws
use Rattle.label_laws.specs.Mixed.{labels}
use Rattle.label_laws.specs.Shape.{BareFile, bare_file, PagesBySectors}
use Rattle.label_laws.proofs.ShapeLemmas.{data_labels, labels_give_shape}
use Rattle.label_laws.proofs.VolumeLemmas.{long_by}

-- with the same labels, and the same sectors where the test passes, the same one is found
find_same : (test : Label → Bool) (xs ys : List Sector) → labels ys ≡ labels xs → ((j : ℕ) (s : Sector) → slice_get xs j ≡ Some s → test s.0 ≡ true → slice_get ys j ≡ Some s)
    → find (λ s. test s.0) ys ≡ find (λ s. test s.0) xs
find_same test [] [] same alike = refl
find_same test [] (y ∷ ys) same alike = absurd (none-some y.0 (ap (λ (l : List Label). slice_get l 0) (sym same)))
find_same test (x ∷ xs) [] same alike = absurd (none-some x.0 (ap (λ (l : List Label). slice_get l 0) same))
find_same test (x ∷ xs) (y ∷ ys) same alike =
    either (test x.0) refl (find_same test xs ys (ap (λ (l : List Label). drop 1 l) same) (λ j s here passes. alike (suc j) s here passes))
  where
    head : test y.0 ≡ test x.0
    head = ap test (same_Some y.0 x.0 (ap (λ (l : List Label). slice_get l 0) same))

    either : (b : Bool) → test x.0 ≡ b → find (λ s. test s.0) ys ≡ find (λ s. test s.0) xs → find (λ s. test s.0) (y ∷ ys) ≡ cond b (Some x) (find (λ s. test s.0) xs)
    either true e more = ap (λ (b : Bool). cond b (Some y) (find (λ s. test s.0) ys)) (head ∙ e) ∙ alike 0 x refl e
    either false e more = ap (λ (b : Bool). cond b (Some y) (find (λ s. test s.0) ys)) (head ∙ e) ∙ more

-- page p of a file on a disk is the one that is found
page_found : (with_temporary : Bool) (d : List Sector) (id p : ℕ) (f : File) → disk_file with_temporary d id ≡ Some f → p < size f → slice_get f.pages p ≡ page_at (data_sectors d) id p
page_found with_temporary d id p f is low =
    let pages : f.pages ≡ pages_from (page_at (data_sectors d) id) 0 leader_page = w.file_pages with_temporary (data_sectors d) id f is in
    let z : 0 + p ≡ p = omega arith in
    ap (λ (l : List Page). slice_get l p) pages
    ∙ pages_each (page_at (data_sectors d) id) 0 leader_page p (omega (arith, low, ap (λ (l : List Page). length l) pages))
    ∙ ap (page_at (data_sectors d) id) z

module _ (with_temporary : Bool) where
  pub pages_by_sectors : PagesBySectors with_temporary
  pages_by_sectors d e id p same alike = either (disk_file with_temporary e id) refl (disk_file with_temporary d id) refl ((labels_give_shape with_temporary d e same).shapes id)
    where
      page : page_at (data_sectors e) id p ≡ page_at (data_sectors d) id p
      page = ap (λ (o : Option Sector). option_map (λ (s : Sector). map byte s.1) o)
          (find_same (λ (l : Label). is_page id p (l, [])) (data_sectors d) (data_sectors e) (data_labels d e same)
          (λ j s here passes.
          let there : HasData d (first_data (length d) + j) s = record { is_data = omega arith; here = sym (laws.get_drop (first_data (length d)) d j) ∙ here } in
          laws.get_drop (first_data (length e)) e j ∙ ap (λ (n : ℕ). slice_get e (first_data n + j)) long ∙ alike (first_data (length d) + j) s there passes))
        where
          long : length e ≡ length d
          long = long_by d e same

      either : (o : Option File) → disk_file with_temporary e id ≡ o → (q : Option File) → disk_file with_temporary d id ≡ q → option_map bare_file o ≡ option_map bare_file q
          → option_map_or (λ (f : File). slice_get f.pages p) o None ≡ option_map_or (λ (f : File). slice_get f.pages p) q None
      either None a None b shapes = refl
      either None a (Some f) b shapes = absurd (none-some (bare_file f) shapes)
      either (Some g) a None b shapes = absurd (none-some (bare_file g) (sym shapes))
      either (Some g) a (Some f) b shapes =
          let long : size g ≡ size f = ap (λ (s : BareFile). s.pages) (same_Some (bare_file g) (bare_file f) shapes) in
          elim (cases_lt p (size f)) [
            | inl low ↦ page_found with_temporary e id p g a (omega (arith, low, long)) ∙ page ∙ sym (page_found with_temporary d id p f b low)
            | inr high ↦ slice_get_past g.pages p (omega (arith, high, long)) ∙ sym (slice_get_past f.pages p high)
          ]
