-- A write that adds a page to a file that is there adds zeros.
use Rattle.std.proofs.Common.{◌≡◌, inl, inr, ℕ, suc, ◌<◌, ◌≤◌, Bool, true, List, [], map, length, Some, refl, sym, ◌∙◌, ap, subst, arith}
use Rattle.std.specs.Prelude.{slice_get}
use Rattle.std.proofs.lemmas.Bool.{cases_lt, true≢false}
use Rattle.std.proofs.lemmas.Option.{same_Some, slice_get_within}
use Rattle.labelled_disk.specs.declared.label.Label.{Label}
use Rattle.labelled_disk.specs.declared.disk.DiskWrite.{DiskWrite}
use Rattle.labelled_disk.specs.CrashState.{crash_state}
use Rattle.labelled_disk.specs.File.{File, Page, byte, size, zero_page}
use Rattle.labelled_disk.specs.FilesOn.{disk_file, is_page, page_at}
use Rattle.labelled_disk.specs.Label.{leader_page}
use Rattle.labelled_disk.specs.Layout.{data_sectors, first_data}
use Rattle.labelled_disk.specs.Runs.{zero_bytes}
use Rattle.labelled_disk.specs.Sectors.{Sector}
use Rattle.labelled_disk.specs.WriteLaws.{HasData}
use Rattle.labelled_disk.proofs.Pages.{pages_most}
use Rattle.labelled_disk.proofs.SectorWrites as w
use Rattle.label_laws.specs.PermittedRuns.{ArePermitted}
use Rattle.label_laws.proofs.MixedLemmas.{crash_state_long}
use Rattle.label_laws.proofs.PermittedLemmas.{each_permitted}
use Rattle.cut_laws.specs.NewPages.{PagesAreAddedAsZeros}
use Rattle.cut_laws.specs.OneCrashState.{AreFilesWhole}
use Rattle.cut_laws.proofs.CrashStateLemmas.{crash_state-past, crash_state-step, get_some}
use Rattle.cut_laws.proofs.SectorPageLemmas.{cells_of, is_counted, sector_of_page}
use Rattle.cut_laws.proofs.SizeLemmas.{count_on}
use Rattle.cut_laws.proofs.ThereLemmas.{sized}
use Rattle.cut_laws.proofs.TurnLemmas.{Turn, stays, bytes, fresh, freed, marked, turn}

zero_cells : map byte zero_bytes ≡ zero_page
unfolding zero_bytes zero_page
zero_cells = refl

-- a sector that becomes a page has zeros
becomes_zeros : (id p i : ℕ) (write : DiskWrite) (s t : Sector) → p < leader_page → (is_page id p s ≡ true → ⊥) → is_page id p t ≡ true → Turn write i s t → t.1 ≡ zero_bytes
becomes_zeros id p i write s t low before is (stays e) = absurd (before (ap (λ (v : Sector). is_page id p v) (sym e) ∙ is))
becomes_zeros id p i write s t low before is (bytes wanted eq named same) = absurd (before (ap (λ (l : Label). is_page id p (l, [])) (sym same) ∙ is))
becomes_zeros id p i write s t low before is (fresh eq old new page) = page
becomes_zeros id p i write s t low before is (freed eq new) = absurd (true≢false (sym is ∙ ap (λ (v : Sector). is_page id p (v.0, [])) new))
becomes_zeros id p i write s t low before is (marked eq same old new page) = absurd (omega (arith, w.page_number true id p t is, new, low))

module _ (all : Bool) (d : List Sector) (writes : List DiskWrite) (permitted : ArePermitted d writes) (whole : (j : ℕ) → j ≤ length writes → AreFilesWhole all (crash_state d writes j)) (id j p : ℕ) (f g : File)
    (file : disk_file all (crash_state d writes j) id ≡ Some f) (short : size f ≤ p) (next : disk_file all (crash_state d writes (suc j)) id ≡ Some g) (inside : p < size g) where
  abbrev now : ℕ → List Sector
  now i = crash_state d writes i

  abbrev Result : Type 0
  Result = slice_get g.pages p ≡ Some zero_page

  low : p < leader_page
  low = omega (arith, inside, sized all (now (suc j)) id g next, pages_most (page_at (data_sectors (now (suc j))) id) 0 leader_page)

  -- a sector that is the page before is counted
  had : (a : ℕ) (s : Sector) → HasData (now j) a s → is_page id p s ≡ true → j < length writes → p < count_on (now j) id
  had a s holds is below = is_counted (now j) id (whole j (omega (arith, below)) id f file) a p s holds is low

  -- by a write
  by_write : j < length writes → Result
  by_write below =
      let write = get_some writes j below in
      let page = sector_of_page (now (suc j)) id (whole (suc j) (omega (arith, below)) id g next) p (omega (arith, inside, sized all (now (suc j)) id g next)) in
      let old = get_some (now j) page.0 (omega (arith, slice_get_within (now (suc j)) page.0 page.1 page.2.here, crash_state_long d writes (suc j), crash_state_long d writes j)) in
      let is_data : first_data (length (now j)) ≤ page.0 = subst (λ (n : ℕ). first_data n ≤ page.0) (crash_state_long d writes (suc j) ∙ sym (crash_state_long d writes j)) page.2.is_data in
      let turned = turn (now j) write.0 page.0 old.0 page.1 (each_permitted d writes permitted j write.0 write.1) is_data old.1
      (ap (λ (x : List Sector). slice_get x page.0) (sym (crash_state-step d writes j write.0 write.1)) ∙ page.2.here) in
      let was_none : is_page id p old.0 ≡ true → ⊥ = λ is. omega (arith, had page.0 old.0 (record { is_data = is_data; here = old.1 }) is below, sized all (now j) id f file, short) in
      let zeros = becomes_zeros id p page.0 write.0 old.0 page.1 low was_none page.3 turned in
      cells_of (now (suc j)) id (whole (suc j) (omega (arith, below)) id g next) all g next page.0 p page.1 page.2 page.3 low
      ∙ ap (λ (x : List ℕ). Some (map byte x)) zeros ∙ ap (λ (x : Page). Some x) zero_cells

  -- after the last one nothing changes
  added_zeros : Result
  added_zeros = elim (cases_lt j (length writes)) [
    | inl below ↦ by_write below
    | inr past ↦
        let stays : now (suc j) ≡ now j = crash_state-past d writes (suc j) (omega (arith, past)) ∙ sym (crash_state-past d writes j past) in
        let same : f ≡ g = same_Some f g (sym file ∙ ap (λ (x : List Sector). disk_file all x id) (sym stays) ∙ next) in
        let sizes = ap (λ (h : File). size h) same in
        absurd (omega (arith, sizes, short, inside))
  ]

pub pages_are_added_as_zeros : (all : Bool) → PagesAreAddedAsZeros all
pages_are_added_as_zeros all d writes permitted whole id j p f g file short next inside = added_zeros all d writes permitted whole id j p f g file short next inside
