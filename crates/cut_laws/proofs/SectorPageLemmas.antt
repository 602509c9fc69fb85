-- The sectors of the pages of a file that is whole.
use Rattle.std.proofs.Common.{◌≡◌, ◌≢◌, inl, inr, ℕ, ◌+◌, ◌-◌, ◌<◌, ◌≤◌, Bool, true, List, [], map, length, Option, Some, sym, ◌∙◌, ap, subst, arith, eqb}
use Rattle.std.specs.Prelude.{slice_get, option_map}
use Rattle.std.proofs.lemmas.Bool.{and_parts, cases_eq, true≢false}
use Rattle.std.proofs.lemmas.Option.{same_Some}
use Rattle.labelled_disk.specs.declared.label.Label.{Label}
use Rattle.labelled_disk.specs.declared.disk.DiskWrite.{DiskWrite}
use Rattle.labelled_disk.specs.declared.disk.DiskWrite.TheVariants.{Whole, LabelOnly, Page}
use Rattle.labelled_disk.specs.File.{File, byte, size}
use Rattle.labelled_disk.specs.FilesOn.{disk_file, is_page}
use Rattle.labelled_disk.specs.Label.{is_file, is_free, leader_page}
use Rattle.labelled_disk.specs.Layout.{data_sectors, first_data}
use Rattle.labelled_disk.specs.Sectors.{Sector}
use Rattle.labelled_disk.specs.WriteLaws.{HasData}
use Rattle.labelled_disk.proofs.Finds.{find_alone}
use Rattle.labelled_disk.proofs.SectorWrites as w
use Rattle.label_laws.specs.Shape.{BareFile, SameShape, bare_file}
use Rattle.label_laws.proofs.FileLemmas.{free_none}
use Rattle.cut_laws.specs.ShapeLaws.{IsWholeOn}
use Rattle.cut_laws.proofs.CrashStateLemmas.{data_at}
use Rattle.cut_laws.proofs.SizeLemmas.{count_on, has_pages}
use Rattle.cut_laws.proofs.StayLemmas.{pages_of_file}
use Rattle.cut_laws.proofs.ThereLemmas.{sized}
use Rattle.cut_laws.proofs.TurnLemmas.{Turn, stays, bytes, fresh, freed, marked}

module _ (x : List Sector) (id : ℕ) (whole : IsWholeOn x id) where
  in_data : (a : ℕ) (s : Sector) → HasData x a s → slice_get (data_sectors x) (a - first_data (length x)) ≡ Some s
  in_data a s holds =
      data_at x (a - first_data (length x)) ∙ ap (λ (n : ℕ). slice_get x n) (let low = holds.is_data in let z : first_data (length x) + (a - first_data (length x)) ≡ a = omega (arith, low) in z)
      ∙ holds.here

  pub one_sector : (a b p : ℕ) (s t : Sector) → HasData x a s → HasData x b t → is_page id p s ≡ true → is_page id p t ≡ true → a ≡ b
  one_sector a b p s t here there is same =
      let z = (has_pages x id whole).once (a - first_data (length x)) (b - first_data (length x)) p s t (in_data a s here) (in_data b t there) is same in
      let low = here.is_data in let other = there.is_data in omega (arith, z, low, other)

  pub sector_of_page : (p : ℕ) → p < count_on x id → (a : ℕ) × (s : Sector) × HasData x a s × (is_page id p s ≡ true)
  sector_of_page p low =
      let one = (has_pages x id whole).there p low in
      (first_data (length x) + one.0, one.1, record { is_data = omega arith; here = sym (data_at x one.0) ∙ one.2 }, one.3)

  pub is_counted : (a p : ℕ) (s : Sector) → HasData x a s → is_page id p s ≡ true → p < leader_page → p < count_on x id
  is_counted a p s holds is low = (has_pages x id whole).below (a - first_data (length x)) p s (in_data a s holds) is low

  pub cells_of : (all : Bool) (f : File) → disk_file all x id ≡ Some f → (a p : ℕ) (s : Sector) → HasData x a s → is_page id p s ≡ true → p < leader_page → slice_get f.pages p ≡ Some (map byte s.1)
  cells_of all f file a p s holds is low =
      pages_of_file all x id p f file (omega (arith, is_counted a p s holds is low, sized all x id f file))
      ∙ ap (λ (o : Option Sector). option_map (λ u. map byte u.1) o)
      (find_alone (is_page id p) (data_sectors x) (a - first_data (length x)) s (in_data a s holds) is
      (λ k t there passes. (has_pages x id whole).once k (a - first_data (length x)) p t s there (in_data a s holds) passes is))

-- Two disks that differ in one sector, with as many pages of a file that is whole on both: what is a page there is the same page on the other.
pub page_stays : (x y : List Sector) (id a p : ℕ) → IsWholeOn x id → IsWholeOn y id → length y ≡ length x → ((i : ℕ) → i ≢ a → slice_get y i ≡ slice_get x i) → count_on y id ≡ count_on x id → p < leader_page
    → (s t : Sector) → slice_get x a ≡ Some s → HasData y a t → is_page id p t ≡ true → is_page id p s ≡ true
page_stays x y id a p whole too long off counts low s t here holds is =
    let b = sector_of_page x id whole p (omega (arith, is_counted y id too a p t holds is low, counts)) in
    elim (cases_eq b.0 a) [
      | inl same ↦ ap (λ (v : Sector). is_page id p v) (same_Some s b.1 (sym here ∙ ap (λ (n : ℕ). slice_get x n) (sym same) ∙ b.2.here)) ∙ b.3
      | inr away ↦
          let moved : HasData y b.0 b.1 = record { is_data = subst (λ (n : ℕ). first_data n ≤ b.0) (sym long) b.2.is_data; here = off b.0 away ∙ b.2.here } in
          absurd (away (one_sector y id too b.0 a p b.1 t moved holds b.3 is))
    ]

-- files of one shape have one size
pub same_size : (all : Bool) (x y : List Sector) (id : ℕ) (f g : File) → SameShape all x y id → disk_file all x id ≡ Some f → disk_file all y id ≡ Some g → size g ≡ size f
same_size all x y id f g same file next =
    ap (λ (b : BareFile). b.pages)
    (same_Some (bare_file g) (bare_file f) (sym (ap (λ (o : Option File). option_map bare_file o) next) ∙ same ∙ ap (λ (o : Option File). option_map bare_file o) file))

-- a page is not free
pub page_not_free : (id p : ℕ) (s : Sector) → is_page id p s ≡ true → is_free s.0 ≡ true → ⊥
page_not_free id p s is free = true≢false (sym (and_parts (is_file s.0) (eqb s.0.id id) (w.page_of true id p s is)).0 ∙ free_none s.0 free)

-- a label alone is written
abbrev pub WritesNoPage : DiskWrite → Type 0
WritesNoPage (Whole sector label page) = ⊥
WritesNoPage (LabelOnly sector label) = Unit {0}
WritesNoPage (Page sector wanted page) = ⊥

-- it makes no page
pub was_page : (id p i : ℕ) (write : DiskWrite) (s t : Sector) → p < leader_page → WritesNoPage write → Turn write i s t → is_page id p t ≡ true → is_page id p s ≡ true
was_page id p i write s t low label (stays e) is = ap (λ (v : Sector). is_page id p v) (sym e) ∙ is
was_page id p i write s t low label (bytes wanted eq named same) is = ap (λ (l : Label). is_page id p (l, [])) (sym same) ∙ is
was_page id p i write s t low label (fresh eq old new page) is = absurd (subst WritesNoPage eq label)
was_page id p i write s t low label (freed eq new) is = absurd (true≢false (sym is ∙ ap (λ (v : Sector). is_page id p (v.0, [])) new))
was_page id p i write s t low label (marked eq same old new page) is = absurd (omega (arith, w.page_number true id p t is, new, low))
