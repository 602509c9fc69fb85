-- A file that is there in each crash state has the size of one of them in a cut, and its pages stood there.
use Rattle.std.proofs.Common.{◌≡◌, ℕ, ◌<◌, Bool, List, length, Option, Some, None, refl, sym, ◌∙◌, ap, arith}
use Rattle.std.specs.Prelude.{option_map}
use Rattle.std.proofs.lemmas.Option.{same_Some, none-some}
use Rattle.labelled_disk.specs.declared.label.Label.{Label}
use Rattle.labelled_disk.specs.declared.disk.DiskWrite.{DiskWrite}
use Rattle.labelled_disk.specs.CrashState.{crash_state}
use Rattle.labelled_disk.specs.File.{File, Page as Cells, size}
use Rattle.labelled_disk.specs.FilesOn.{file_among, file_by, leader_among, page_at, pages_from}
use Rattle.labelled_disk.specs.Label.{is_immutable, is_permanent, leader_page}
use Rattle.labelled_disk.specs.Layout.{data_sectors}
use Rattle.labelled_disk.specs.Sectors.{Sector}
use Rattle.labelled_disk.proofs.SectorWrites as w
use Rattle.label_laws.specs.Shape.{BareFile, SameShape, bare_file}
use Rattle.cut_laws.specs.Cut.{unit, AtSome, IsCutSince}
use Rattle.cut_laws.specs.OneCrashState.{HasUnitOf, HasUnitsOfCrashStates, IsResizedAlone, ResizedIsOfOneCrashState}
use Rattle.cut_laws.specs.SizeLaws.{IsWholeThroughout}
use Rattle.cut_laws.specs.Windows.{disk_page}
use Rattle.cut_laws.proofs.CrashStateLemmas.{get_some}
use Rattle.cut_laws.proofs.SizeLemmas.{count_of_crash_state, count_on}
use Rattle.cut_laws.proofs.StayLemmas.{pages_of_file}
use Rattle.cut_laws.proofs.ThereLemmas.{IsPageThen, IsThere, counted, leader_stood, page_in, page_stood, sized}

-- files with the same leader differ in their size alone
pub shape_by_leader : (all : Bool) (id : ℕ) (xs ys : List Sector) (f : File) → leader_among all ys id ≡ leader_among all xs id → file_among all xs id ≡ Some f
    → option_map bare_file (file_among all ys id) ≡ Some (record (bare_file f) { pages = length (pages_from (page_at ys id) 0 leader_page) })
shape_by_leader all id xs ys f leaders file = either (leader_among all xs id) refl
  where
    either : (o : Option Label) → leader_among all xs id ≡ o → option_map bare_file (file_among all ys id) ≡ Some (record (bare_file f) { pages = length (pages_from (page_at ys id) 0 leader_page) })
    either None none = absurd (none-some f (sym (ap (λ (o : Option Label). option_map (file_by xs) o) none) ∙ file))
    either (Some l) is =
        let own : file_by xs l ≡ f = same_Some (file_by xs l) f (sym (ap (λ (o : Option Label). option_map (file_by xs) o) is) ∙ file) in
        ap (λ (o : Option Label). option_map bare_file (option_map (file_by ys) o)) (leaders ∙ is)
        ∙ ap (λ (n : ℕ). Some (record { id = l.id; kind = l.kind; permanent = is_permanent l; immutable = is_immutable l; pages = length (pages_from (page_at ys n) 0 leader_page) }))
        (w.leader_at_id all xs id l is)
        ∙ ap (λ (g : File). Some (record (bare_file g) { pages = length (pages_from (page_at ys id) 0 leader_page) })) own

module _ (all : Bool) (d : List Sector) (writes : List DiskWrite) (e : List Sector) (id : ℕ) (cut : IsCutSince d writes e) (full : IsWholeThroughout d writes id) where
  -- the pages of a file that is there in each crash state
  pub pages_there : IsThere all id d writes → HasUnitsOfCrashStates all id d writes 0 (length writes) e
  pages_there there p g file below =
      let some = count_of_crash_state d writes e id cut full in
      let cells = page_in all d writes e id cut full there p each in
      let low : p < size g = let n = each some.0 some.1 in let m = some.2 in omega (arith, n, m, sized all e id g file) in
      (cells.0, pages_of_file all e id p g file low ∙ cells.1, λ u. shown u cells.0 (page_stood all d writes e id cut full there p u cells.0 each cells.1))
    where
      each : IsPageThen all d writes e id cut full there p
      each j few = let f = there j few in let n = counted all d writes e id cut full there j few in omega (arith, below j f.0 (omega arith) few f.1, n)

      shown : (u : ℕ) (cells : Cells) → AtSome 0 (length writes) (λ j. option_map (unit u) (disk_page (crash_state d writes j) id p) ≡ Some (unit u cells))
          → AtSome 0 (length writes) (λ j. HasUnitOf all id p u cells (crash_state d writes j))
      shown u cells some =
          let f = there some.0 some.2 in
          let low : p < size f.0 = below some.0 f.0 some.1 some.2 f.1 in
          let c = get_some f.0.pages p low in
          let on_disk : disk_page (crash_state d writes some.0) id p ≡ Some c.0 = sym (pages_of_file all (crash_state d writes some.0) id p f.0 f.1 low) ∙ c.1 in
          (some.0, some.1, some.2, (f.0, f.1, c.0, c.1, same_Some (unit u c.0) (unit u cells) (sym (ap (λ (o : Option Cells). option_map (unit u) o) on_disk) ∙ some.3)))

  -- one that gets another size
  module _ (resized : IsResizedAlone all id d writes) where
    pub resized_there : IsThere all id d writes
    resized_there j few = let f = resized.1 j few in (f.0, f.1)

    pub resized_shape : AtSome 0 (length writes) (λ j. SameShape all (crash_state d writes j) e id)
    unfolding resized_there
    resized_shape =
        let lead = leader_stood all d writes e id cut full resized_there in
        let some = count_of_crash_state d writes e id cut full in
        let first = resized.1 lead.0 lead.1 in
        let last = resized.1 some.0 some.1 in
        let pages : count_on e id ≡ size last.0 = sym some.2 ∙ counted all d writes e id cut full resized_there some.0 some.1 in (
          some.0,
          omega arith,
          some.1,
          shape_by_leader all id (data_sectors (crash_state d writes lead.0)) (data_sectors e) first.0 lead.2 first.1
              ∙ ap (λ (b : BareFile). Some (record b { pages = count_on e id })) first.2 ∙ ap (λ (n : ℕ). Some (record resized.0 { pages = n })) pages ∙ ap (λ (b : BareFile). Some b) (sym last.2)
              ∙ sym (ap (λ (o : Option File). option_map bare_file o) last.1),
        )

pub resized_of_one : (all : Bool) → ResizedIsOfOneCrashState all
resized_of_one all d writes e id cut full resized = (
  resized_shape all d writes e id cut full resized,
  pages_there all d writes e id cut full (resized_there all d writes e id cut full resized),
)
