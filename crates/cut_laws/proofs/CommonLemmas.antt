-- What a file has in each crash state it has in a cut.
use Rattle.std.proofs.Common.{◌≡◌, ℕ, ◌<◌, ◌≤◌, Bool, List, map, length, Option, Some, None, refl, sym, ◌∙◌, ap, arith}
use Rattle.std.specs.Prelude.{option_map}
use Rattle.std.proofs.lemmas.Option.{none-some, same_Some}
use Rattle.labelled_disk.specs.declared.disk.DiskWrite.{DiskWrite}
use Rattle.labelled_disk.specs.CrashState.{crash_state}
use Rattle.labelled_disk.specs.File.{File, Page, byte, size}
use Rattle.labelled_disk.specs.FilesOn.{disk_file, is_page}
use Rattle.labelled_disk.specs.Layout.{data_sectors}
use Rattle.labelled_disk.specs.Sectors.{Sector}
use Rattle.label_laws.specs.Shape.{BareFile, SameShape, bare_file}
use Rattle.cut_laws.specs.Cut.{unit, AtSome, IsCutSince}
use Rattle.cut_laws.specs.Common.{CommonStays, SamePagesStay}
use Rattle.cut_laws.specs.SizeLaws.{IsWholeThroughout}
use Rattle.cut_laws.specs.Windows.{PagesOfCrashStates, disk_page}
use Rattle.cut_laws.proofs.PairLemmas.{lowest as lowest_of, shape_by_count}
use Rattle.cut_laws.proofs.SizeLemmas.{count, count_of_crash_state, count_on, label_of, pages_at}
use Rattle.cut_laws.proofs.SteadyLemmas.{found_page}
use Rattle.cut_laws.proofs.ThereLemmas.{IsPageThen, IsThere, counted as sized_then, leader_stood, page_in, page_stood}
use Rattle.cut_laws.proofs.UnitLemmas.{same_units}

-- the file of a disk that has this shape
pub file_of_shape : (all : Bool) (d : List Sector) (id : ℕ) (b : BareFile) → option_map bare_file (disk_file all d id) ≡ Some b → (g : File) × (disk_file all d id ≡ Some g) × (bare_file g ≡ b)
file_of_shape all d id b shape = either (disk_file all d id) refl
  where
    either : (o : Option File) → disk_file all d id ≡ o → (g : File) × (disk_file all d id ≡ Some g) × (bare_file g ≡ b)
    either None none = absurd (none-some b (sym (ap (λ (o : Option File). option_map bare_file o) none) ∙ shape))
    either (Some g) is = (g, is, same_Some (bare_file g) b (sym (ap (λ (o : Option File). option_map bare_file o) is) ∙ shape))

module _ (all : Bool) (d : List Sector) (writes : List DiskWrite) (e : List Sector) (id : ℕ) (f : File) (cut : IsCutSince d writes e) (whole : IsWholeThroughout d writes id)
    (file : disk_file all d id ≡ Some f) (same : (j : ℕ) → j ≤ length writes → SameShape all d (crash_state d writes j) id) where
  -- the file of a crash state
  file_then : (j : ℕ) → j ≤ length writes → (g : File) × (disk_file all (crash_state d writes j) id ≡ Some g) × (bare_file g ≡ bare_file f)
  file_then j few = file_of_shape all (crash_state d writes j) id (bare_file f) (same j few ∙ ap (λ (o : Option File). option_map bare_file o) file)

  pub there : IsThere all id d writes
  there j few = let g = file_then j few in (g.0, g.1)

  -- it has as many pages in each
  counted : (j : ℕ) → j ≤ length writes → count d writes e id cut whole j ≡ size f
  unfolding there
  counted j few = sized_then all d writes e id cut whole there j few ∙ ap (λ (b : BareFile). b.pages) (file_then j few).2

  shape_stays : SameShape all d e id
  shape_stays =
      let lead = leader_stood all d writes e id cut whole there in
      let some = count_of_crash_state d writes e id cut whole in
      let pages : count_on e id ≡ count d writes e id cut whole lead.0 = sym some.2 ∙ counted some.0 some.1 ∙ sym (counted lead.0 lead.1) in
      shape_by_count all id (data_sectors (crash_state d writes lead.0)) (data_sectors e) lead.2 pages ∙ same lead.0 lead.1

  -- a page of one crash state is one of each
  each_then : (p : ℕ) → p < size f → IsPageThen all d writes e id cut whole there p
  each_then p below j few = let n = counted j few in omega (arith, below, n)

  pages_stood : PagesOfCrashStates d writes e id
  pages_stood p u cells low is =
      let t = found_page d writes e cut id p cells is in
      let at = lowest_of (is_page id p) (data_sectors e) t.0 t.1 in
      let one = label_of d writes e id cut whole at.0 t.0 at.1.here in
      let less = (pages_at d writes e id cut whole one.0 one.2).below at.0 p one.3.0 one.3.1 (ap (λ l. is_page id p (l, t.0.1)) one.3.2 ∙ at.1.passes) low in
      page_stood all d writes e id cut whole there p u cells (each_then p (omega (arith, less, counted one.0 one.2))) is

  same_pages : SamePagesStay d writes e id (size f)
  same_pages p bytes below each =
      let here = page_in all d writes e id cut whole there p (each_then p below) in
      here.1 ∙ ap (λ (c : Page). Some c) (same_units here.0 (map byte bytes) (λ u. one u here.0 (page_stood all d writes e id cut whole there p u here.0 (each_then p below) here.1)))
    where
      one : (u : ℕ) (cells : Page) → AtSome 0 (length writes) (λ j. option_map (unit u) (disk_page (crash_state d writes j) id p) ≡ Some (unit u cells)) → unit u cells ≡ unit u (map byte bytes)
      one u cells some =
          same_Some (unit u cells) (unit u (map byte bytes)) (sym some.3 ∙ ap (λ (o : Option Page). option_map (unit u) o) (each some.0 some.2))

pub common_stays : (all : Bool) → CommonStays all
common_stays all d writes e id f cut whole file same = (
  shape_stays all d writes e id f cut whole file same,
  pages_stood all d writes e id f cut whole file same,
  same_pages all d writes e id f cut whole file same,
)
