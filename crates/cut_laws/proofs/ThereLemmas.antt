-- A file that is there and whole in each crash state: its leader stands in one place, and so does a page that it has in each.
use Rattle.std.proofs.Common.{◌≡◌, inl, inr, ℕ, zero, suc, ◌+◌, ◌<◌, ◌≤◌, Bool, true, ◌&&◌, ◌||◌, List, map, length, Option, Some, None, refl, sym, ◌∙◌, ap, arith, eqb}
use Rattle.std.specs.Prelude.{slice_get, find, option_map}
use Rattle.std.proofs.lemmas.Bool.{and_parts, cases_eq}
use Rattle.std.proofs.lemmas.Option.{none-some, same_Some, slice_get_within}
use Rattle.labelled_disk.specs.declared.label.Label.{Label}
use Rattle.labelled_disk.specs.declared.disk.DiskWrite.{DiskWrite}
use Rattle.labelled_disk.specs.CrashState.{crash_state}
use Rattle.labelled_disk.specs.File.{File, Page, byte, size}
use Rattle.labelled_disk.specs.FilesOn.{disk_file, file_among, is_page, leads_file, leader_among, page_at, pages_from}
use Rattle.labelled_disk.specs.Label.{is_file, is_permanent, leader_page}
use Rattle.labelled_disk.specs.Layout.{data_sectors, first_data}
use Rattle.labelled_disk.specs.Sectors.{Sector}
use Rattle.labelled_disk.proofs.Finds.{find_alone}
use Rattle.labelled_disk.proofs.Pages.{pages_each}
use Rattle.labelled_disk.proofs.SectorWrites as w
use Rattle.label_laws.proofs.MixedLemmas.{crash_state_long}
use Rattle.cut_laws.specs.Cut.{unit, AtSome, IsCutSince}
use Rattle.cut_laws.specs.SizeLaws.{IsWholeThroughout}
use Rattle.cut_laws.specs.Windows.{disk_page}
use Rattle.cut_laws.proofs.CrashStateLemmas.{data_at, get_some}
use Rattle.cut_laws.proofs.PairLemmas.{lowest as lowest_of}
use Rattle.cut_laws.proofs.SizeLemmas.{always, count, count_of_crash_state, count_on, label_of, pages_at, shown, steps}
use Rattle.cut_laws.proofs.SteadyLemmas.{data_pairs, found_page}
use Rattle.cut_laws.proofs.UnitLemmas.{unit-map}

-- a leader of the file is its sector for the leader
pub leads_page : (all : Bool) (id : ℕ) (s : Sector) → leads_file all id s ≡ true → is_page id leader_page s ≡ true
leads_page all id s is =
    let a = and_parts (is_file s.0 && eqb s.0.page leader_page && (all || is_permanent s.0)) (eqb s.0.id id) is in
    let b = and_parts (is_file s.0 && eqb s.0.page leader_page) (all || is_permanent s.0) a.0 in
    let c = and_parts (is_file s.0) (eqb s.0.page leader_page) b.0 in
    λ i. (c.0 i && a.1 i) && c.1 i

-- a leader that is found
leader_found : (all : Bool) (xs : List Sector) (id : ℕ) (f : File) → file_among all xs id ≡ Some f → (i : ℕ) × (s : Sector) × (slice_get xs i ≡ Some s) × (leads_file all id s ≡ true)
leader_found all xs id f is = either (find (leads_file all id) xs) refl
  where
    either : (o : Option Sector) → find (leads_file all id) xs ≡ o → (i : ℕ) × (s : Sector) × (slice_get xs i ≡ Some s) × (leads_file all id s ≡ true)
    either None none = absurd (none-some f (sym (w.file_none all xs id (ap (λ (o : Option Sector). option_map (λ s. s.0) o) none)) ∙ is))
    either (Some s) found = let low = lowest_of (leads_file all id) xs s found in (low.0, s, low.1.here, low.1.passes)

-- a file has as many pages as follow each other
pub sized : (all : Bool) (d : List Sector) (id : ℕ) (f : File) → disk_file all d id ≡ Some f → size f ≡ count_on d id
sized all d id f is = ap (λ (l : List Page). length l) (w.file_pages all (data_sectors d) id f is)

-- the file is there in each crash state
abbrev pub IsThere : Bool → ℕ → List Sector → List DiskWrite → Type 0
IsThere all id d writes = (j : ℕ) → j ≤ length writes → (f : File) × (disk_file all (crash_state d writes j) id ≡ Some f)

module _ (all : Bool) (d : List Sector) (writes : List DiskWrite) (e : List Sector) (id : ℕ) (cut : IsCutSince d writes e) (whole : IsWholeThroughout d writes id) (there : IsThere all id d writes) where
  abbrev at_data : ℕ → List Sector
  at_data j = data_sectors (crash_state d writes j)

  pub counted : (j : ℕ) (few : j ≤ length writes) → count d writes e id cut whole j ≡ size (there j few).0
  counted j few = sym (sized all (crash_state d writes j) id (there j few).0 (there j few).1)

  pub once : (j : ℕ) → j ≤ length writes → (i k p : ℕ) (s t : Sector) → slice_get (at_data j) i ≡ Some s → slice_get (at_data j) k ≡ Some t → is_page id p s ≡ true → is_page id p t ≡ true → i ≡ k
  once j few = (pages_at d writes e id cut whole j few).once

  -- its leader stands in one place
  pub leader_at : (j : ℕ) → j ≤ length writes → (i : ℕ) × (s : Sector) × (slice_get (at_data j) i ≡ Some s) × (leads_file all id s ≡ true)
  leader_at j few = let g = there j few in leader_found all (at_data j) id g.0 g.1

  next_place : (j : ℕ) (few : suc j ≤ length writes) (i : ℕ) (s : Sector) → slice_get (at_data j) i ≡ Some s → leads_file all id s ≡ true → (leader_at (suc j) few).0 ≡ i
  next_place j few i s at leads =
      let step = steps d writes j few in
      let next = leader_at (suc j) few in
      let early : j ≤ length writes = omega (arith, few) in
      elim (cases_eq i step.0) [
        | inr off ↦ once (suc j) few next.0 i leader_page next.1 s next.2 (step.1.same i off ∙ at) (leads_page all id next.1 next.3) (leads_page all id s leads)
        | inl on ↦ elim (cases_eq next.0 step.0) [
          | inl too ↦ too ∙ sym on
          | inr away ↦ once j early next.0 i leader_page next.1 s (sym (step.1.same next.0 away) ∙ next.2) at (leads_page all id next.1 next.3) (leads_page all id s leads)
        ]
      ]

  pub from_first : 0 ≤ length writes
  from_first = omega arith

  abbrev pub first_place : ℕ
  first_place = (leader_at 0 from_first).0

  leader_place : (j : ℕ) (few : j ≤ length writes) → (s : Sector) × (slice_get (at_data j) first_place ≡ Some s) × (leads_file all id s ≡ true)
  leader_place zero few = let first = leader_at 0 from_first in (first.1, first.2, first.3)
  leader_place (suc j) few =
      let before = leader_place j (omega (arith, few)) in
      let next = leader_at (suc j) few in
      let place : next.0 ≡ first_place = next_place j few first_place before.0 before.1 before.2 in
      (next.1, ap (λ (i : ℕ). slice_get (at_data (suc j)) i) (sym place) ∙ next.2, next.3)

  long : length (data_sectors e) ≡ length (data_sectors d)
  long = (data_pairs (λ s t. Unit {0}) d e cut.sectors (λ i s t low at there. tt)).long

  -- a leader of a crash state, or of the cut, stands there too
  pub leader_then : (j : ℕ) (few : j ≤ length writes) (k : ℕ) (v : Sector) → slice_get (at_data j) k ≡ Some v → leads_file all id v ≡ true → k ≡ first_place
  leader_then j few k v at leads = let here = leader_place j few in once j few k first_place leader_page v here.0 at here.1 (leads_page all id v leads) (leads_page all id here.0 here.2)

  pub leader_only : (k : ℕ) (v : Sector) → slice_get (data_sectors e) k ≡ Some v → leads_file all id v ≡ true → k ≡ first_place
  leader_only k v at leads =
      let one = label_of d writes e id cut whole k v at in
      leader_then one.0 one.2 k one.3.0 one.3.1 (ap (λ (l : Label). leads_file all id (l, v.1)) one.3.2 ∙ leads)

  -- it is that of a crash state
  pub leader_stood : (j : ℕ) × (j ≤ length writes) × (leader_among all (data_sectors e) id ≡ leader_among all (at_data j) id)
  leader_stood =
      let first = leader_at 0 from_first in
      let t = get_some (data_sectors e) first_place (omega (arith, slice_get_within (data_sectors d) first.0 first.1 first.2, long)) in
      let one = label_of d writes e id cut whole first_place t.0 t.1 in
      let here = leader_place one.0 one.2 in
      let is : here.0 ≡ one.3.0 = same_Some here.0 one.3.0 (sym here.1 ∙ one.3.1) in
      let label : here.0.0 ≡ t.0.0 = ap (λ (v : Sector). v.0) is ∙ one.3.2 in
      let leads : leads_file all id t.0 ≡ true = ap (λ (l : Label). leads_file all id (l, t.0.1)) (sym label) ∙ here.2 in
      let in_cut : find (leads_file all id) (data_sectors e) ≡ Some t.0 = find_alone (leads_file all id) (data_sectors e) first_place t.0 t.1 leads (λ k v at passes. leader_only k v at passes) in
      let before : find (leads_file all id) (at_data one.0) ≡ Some here.0 =
      find_alone (leads_file all id) (at_data one.0) first_place here.0 here.1 here.2 (λ k v at passes. leader_then one.0 one.2 k v at passes) in
      (one.0, one.2, ap (λ (o : Option Sector). option_map (λ s. s.0) o) in_cut ∙ ap (λ (l : Label). Some l) (sym label) ∙ sym (ap (λ (o : Option Sector). option_map (λ s. s.0) o) before))

  -- the page is one of the file in each crash state
  abbrev pub IsPageThen : ℕ → Type 0
  IsPageThen p = (j : ℕ) → j ≤ length writes → p < count d writes e id cut whole j

  -- such a page is in the cut
  pub page_in : (p : ℕ) → IsPageThen p → (cells : Page) × (disk_page e id p ≡ Some cells)
  page_in p each =
      let some = count_of_crash_state d writes e id cut whole in
      let many : p < length (pages_from (page_at (data_sectors e) id) 0 leader_page) = let n = some.2 in let m = each some.0 some.1 in omega (arith, n, m) in
      let cells = get_some (pages_from (page_at (data_sectors e) id) 0 leader_page) p many in
      let z : 0 + p ≡ p = omega arith in
      (cells.0, ap (page_at (data_sectors e) id) (sym z) ∙ sym (pages_each (page_at (data_sectors e) id) 0 leader_page p many) ∙ cells.1)

  -- its sector in the cut is that page in each crash state
  page_place : (p i : ℕ) (t : Sector) → IsPageThen p → slice_get (data_sectors e) i ≡ Some t → is_page id p t ≡ true → (j : ℕ) → j ≤ length writes → (s : Sector) × (slice_get (at_data j) i ≡ Some s) × (is_page id p s ≡ true)
  page_place p i t each at is j few =
      let one = label_of d writes e id cut whole i t at in
      let then_is : is_page id p one.3.0 ≡ true = ap (λ (l : Label). is_page id p (l, t.1)) one.3.2 ∙ is in
      let first = (pages_at d writes e id cut whole 0 (omega arith)).there p (each 0 (omega arith)) in
      let here = always d writes e id cut whole p each first.0 first.1 first.2 first.3 one.0 one.2 in
      let place : first.0 ≡ i = once one.0 one.2 first.0 i p here.0 one.3.0 here.1 one.3.1 here.2 then_is in
      let now = always d writes e id cut whole p each first.0 first.1 first.2 first.3 j few in
      (now.0, ap (λ (k : ℕ). slice_get (at_data j) k) (sym place) ∙ now.1, now.2)

  -- and its units stood there
  pub page_stood : (p u : ℕ) (cells : Page) → IsPageThen p → disk_page e id p ≡ Some cells → AtSome 0 (length writes) (λ j. option_map (unit u) (disk_page (crash_state d writes j) id p) ≡ Some (unit u cells))
  page_stood p u cells each is =
      let t = found_page d writes e cut id p cells is in
      let at = lowest_of (is_page id p) (data_sectors e) t.0 t.1 in
      let one = cut.units (first_data (length e) + at.0) u t.0 (sym (data_at e at.0) ∙ at.1.here) in
      let here = page_place p at.0 t.0 each at.1.here at.1.passes one.0 one.2 in
      let stood : slice_get (at_data one.0) at.0 ≡ Some one.3.0 =
      data_at (crash_state d writes one.0) at.0 ∙ ap (λ (n : ℕ). slice_get (crash_state d writes one.0) (first_data n + at.0)) (crash_state_long d writes one.0 ∙ sym cut.sectors) ∙ one.3.1 in
      let own : here.0 ≡ one.3.0 = same_Some here.0 one.3.0 (sym here.1 ∙ stood) in (
        one.0,
        one.1,
        one.2,
        ap (option_map (unit u)) (shown d writes e id cut whole one.0 p at.0 here.0 one.2 here.1 here.2)
            ∙ ap (λ l. Some l) (unit-map byte u here.0.1 ∙ ap (λ (v : Sector). map byte (unit u v.1)) own ∙ ap (λ l. map byte l) one.3.2 ∙ sym (unit-map byte u t.0.1) ∙ ap (unit u) t.2),
      )
