-- Files that get more pages, or fewer, and are whole in each crash state.
use Rattle.std.proofs.Common.{◌≡◌, ◌≢◌, ◌⊎◌, inl, inr, ℕ, zero, suc, ◌+◌, ◌-◌, ◌<◌, ◌≤◌, Bool, true, false, ◌&&◌, List, [], map, length, Option, Some, None, refl, sym, ◌∙◌, ap, subst, arith, eqb}
use Rattle.std.specs.Prelude.{slice_get, option_map}
use Rattle.std.proofs.lemmas.Bool.{cases_eq, cases_lt, true≢false}
use Rattle.std.proofs.lemmas.Option.{same_Some, slice_get_within}
use Rattle.labelled_disk.specs.declared.label.Label.{Label}
use Rattle.labelled_disk.specs.declared.disk.DiskWrite.{DiskWrite}
use Rattle.labelled_disk.specs.File.{Page, byte, size}
use Rattle.labelled_disk.specs.FilesOn.{is_of, is_page, leads_file, page_at, pages_from}
use Rattle.labelled_disk.specs.Label.{is_free, leader_page}
use Rattle.labelled_disk.specs.Layout.{data_sectors, first_data}
use Rattle.labelled_disk.specs.CrashState.{crash_state}
use Rattle.labelled_disk.specs.Runs.{sector_of}
use Rattle.labelled_disk.specs.Sectors.{Sector}
use Rattle.labelled_disk.proofs.Finds.{find_alone, none_passes}
use Rattle.labelled_disk.proofs.LowestLemmas as lowest
use Rattle.labelled_disk.proofs.Pages.{pages_each, pages_most, pages_stop}
use Rattle.labelled_disk.proofs.SectorWrites as w
use Rattle.label_laws.specs.PermittedRuns.{ArePermitted}
use Rattle.label_laws.specs.Mixed.{gives_label}
use Rattle.label_laws.specs.OneFile.{id_of}
use Rattle.label_laws.specs.Shape.{SameShape}
use Rattle.label_laws.proofs.FileLemmas.{free_none}
use Rattle.label_laws.proofs.MixedLemmas.{crash_state_long, written_other}
use Rattle.cut_laws.specs.Cut.{unit, AtSome, IsCutSince}
use Rattle.cut_laws.specs.ShapeLaws.{IsWholeOn}
use Rattle.cut_laws.specs.SizeLaws.{IsOnPage, IsWholeThroughout, PagesAreOwn, SizeOfOneCrashState}
use Rattle.cut_laws.specs.Windows.{EachWrite, IsLabelWriteOf, disk_page}
use Rattle.cut_laws.proofs.UnitLemmas.{unit-map}
use Rattle.cut_laws.proofs.CrashStateLemmas.{get_some, data_at, crash_state-step}
use Rattle.cut_laws.proofs.NumberLemmas.{between_two, some_or_each}
use Rattle.cut_laws.proofs.OwnLemmas.{own_bytes}
use Rattle.cut_laws.proofs.PairLemmas.{Alike, alike_less, leader_pairs, lowest as lowest_of, shape_by_count}
use Rattle.cut_laws.proofs.SteadyLemmas.{Steady, data_pairs, found_page, not_of-not_leader, steady_pairs}
use Rattle.cut_laws.proofs.StayLemmas.{Of, steady_by_turns, turn_alike}
use Rattle.cut_laws.proofs.TurnLemmas.{Turn, stays, bytes, fresh, freed, marked}

-- how many pages follow each other, whether or not a leader counts them
abbrev pub count_on : List Sector → ℕ → ℕ
count_on d id = length (pages_from (page_at (data_sectors d) id) 0 leader_page)

-- the pages of a whole file: each stands once, and no other
pub record HasPages (xs : List Sector) (id n : ℕ) : Type 0 where
  pub there : (p : ℕ) → p < n → (i : ℕ) × (s : Sector) × (slice_get xs i ≡ Some s) × (is_page id p s ≡ true)
  pub below : (i p : ℕ) (s : Sector) → slice_get xs i ≡ Some s → is_page id p s ≡ true → p < leader_page → p < n
  pub once : (i j p : ℕ) (s t : Sector) → slice_get xs i ≡ Some s → slice_get xs j ≡ Some t → is_page id p s ≡ true → is_page id p t ≡ true → i ≡ j
  pub most : n ≤ leader_page

pub has_pages : (d : List Sector) (id : ℕ) → IsWholeOn d id → HasPages (data_sectors d) id (count_on d id)
has_pages d id whole =
    let revealed = (lowest.files_are_as_revealed true d).revealed id whole.0 whole.1 in
    let count : size whole.0 ≡ count_on d id = ap (λ (l : List Page). length l) (w.file_pages true (data_sectors d) id whole.0 whole.1) in
    record {
      there = λ p low.
          let s = revealed.0.page p (omega (arith, low, count)) in
          (s.0, s.1, s.2.here, ap (λ (n : ℕ). is_page n p s.1) (sym revealed.1) ∙ s.2.passes);
      below = λ i p s at is low.
          let of : is_of whole.0.id s ≡ true = ap (λ (n : ℕ). is_of n s) revealed.1 ∙ w.page_of true id p s is in
          let number : s.0.page ≡ p = w.page_number true id p s is in
          elim (whole.2.no_other i s at of) [ inl lead ↦ absurd (omega (arith, lead, number, low)) | inr less ↦ omega (arith, less, number, count) ];
      once = λ i j p s t at there is same.
          whole.2.once i j s t at there (ap (λ (n : ℕ). is_of n s) revealed.1 ∙ w.page_of true id p s is) (ap (λ (n : ℕ). is_of n t) revealed.1 ∙ w.page_of true id p t same)
          (w.page_number true id p s is ∙ sym (w.page_number true id p t same));
      most = pages_most (page_at (data_sectors d) id) 0 leader_page;
    }

-- two lists that differ in one place at most, both with the pages of a file
pub record OneApart (place : ℕ) (xs ys : List Sector) : Type 0 where
  pub same : (i : ℕ) → i ≢ place → slice_get ys i ≡ slice_get xs i

turned : (place : ℕ) (xs ys : List Sector) → OneApart place xs ys → OneApart place ys xs
turned place xs ys apart = record { same = λ i off. sym (apart.same i off) }

module _ (place : ℕ) (xs ys : List Sector) (apart : OneApart place xs ys) (id : ℕ) where
  -- a page more at most
  one_more : (n m : ℕ) → HasPages xs id n → HasPages ys id m → m ≤ suc n
  one_more n m old new = either (cases_lt (suc n) m)
    where
      either : (suc n < m) ⊎ (m ≤ suc n) → m ≤ suc n
      either (inr few) = few
      either (inl many) = two (new.there n (omega (arith, many))) (new.there (suc n) (omega (arith, many)))
        where
          early : (p i : ℕ) (s : Sector) → i ≢ place → slice_get ys i ≡ Some s → is_page id p s ≡ true → n ≤ p → p < leader_page → ⊥
          early p i s off at is past low = omega (arith, old.below i p s (sym (apart.same i off) ∙ at) is low, past)

          two : ((i : ℕ) × (s : Sector) × (slice_get ys i ≡ Some s) × (is_page id n s ≡ true)) → ((i : ℕ) × (s : Sector) × (slice_get ys i ≡ Some s) × (is_page id (suc n) s ≡ true)) → m ≤ suc n
          two a b = which (cases_eq a.0 place) (cases_eq b.0 place)
            where
              which : (a.0 ≡ place) ⊎ (a.0 ≢ place) → (b.0 ≡ place) ⊎ (b.0 ≢ place) → m ≤ suc n
              which (inr off) other = absurd (early n a.0 a.1 off a.2 a.3 (omega arith) (omega (arith, many, new.most)))
              which (inl on) (inr off) = absurd (early (suc n) b.0 b.1 off b.2 b.3 (omega arith) (omega (arith, many, new.most)))
              which (inl on) (inl also) =
                  let same : a.1 ≡ b.1 = same_Some a.1 b.1 (sym a.2 ∙ ap (λ (i : ℕ). slice_get ys i) (on ∙ sym also) ∙ b.2) in
                  absurd (omega (arith, sym (w.page_number true id n a.1 a.3) ∙ ap (λ (v : Sector). v.0.page) same ∙ w.page_number true id (suc n) b.1 b.3))

  -- a page that stands in both stands in one place
  same_place : (n m p i : ℕ) (s : Sector) → HasPages xs id n → HasPages ys id m → slice_get xs i ≡ Some s → is_page id p s ≡ true → p < m → (t : Sector) × (slice_get ys i ≡ Some t) × (is_page id p t ≡ true)
  same_place n m p i s old new at is low = either (new.there p low)
    where
      either : ((j : ℕ) × (t : Sector) × (slice_get ys j ≡ Some t) × (is_page id p t ≡ true)) → (t : Sector) × (slice_get ys i ≡ Some t) × (is_page id p t ≡ true)
      either there = which (cases_eq i place) (cases_eq there.0 i)
        where
          which : (i ≡ place) ⊎ (i ≢ place) → (there.0 ≡ i) ⊎ (there.0 ≢ i) → (t : Sector) × (slice_get ys i ≡ Some t) × (is_page id p t ≡ true)
          which (inr off) other = (s, apart.same i off ∙ at, is)
          which (inl on) (inl e) = (there.1, ap (λ (k : ℕ). slice_get ys k) (sym e) ∙ there.2, there.3)
          which (inl on) (inr off) =
              absurd (off (old.once there.0 i p there.1 s (sym (apart.same there.0 (λ e. off (e ∙ sym on))) ∙ there.2) at there.3 is))

-- two crash states in a row
pub steps : (d : List Sector) (writes : List DiskWrite) (k : ℕ) → k < length writes → (place : ℕ) × OneApart place (data_sectors (crash_state d writes k)) (data_sectors (crash_state d writes (suc k)))
steps d writes k few =
    let write = get_some writes k few in
    let first : ℕ = first_data (length d) in (
      sector_of write.0 - first_data (length d),
      record {
        same = λ i off.
            data_at (crash_state d writes (suc k)) i
            ∙ ap (λ (n : ℕ). slice_get (crash_state d writes (suc k)) (first_data n + i)) (crash_state_long d writes (suc k))
            ∙ ap (λ (e : List Sector). slice_get e (first_data (length d) + i)) (crash_state-step d writes k write.0 write.1)
            ∙ written_other (crash_state d writes k) write.0 (first_data (length d) + i) (λ e. off (let z : i ≡ sector_of write.0 - first_data (length d) = omega (arith, e) in z))
            ∙ ap (λ (n : ℕ). slice_get (crash_state d writes k) (first_data n + i)) (sym (crash_state_long d writes k))
            ∙ sym (data_at (crash_state d writes k) i);
      },
    )

module _ (d : List Sector) (writes : List DiskWrite) (e : List Sector) (id : ℕ) (cut : IsCutSince d writes e) (whole : IsWholeThroughout d writes id) where
  abbrev pub count : ℕ → ℕ
  count j = count_on (crash_state d writes j) id

  pub pages_at : (j : ℕ) → j ≤ length writes → HasPages (data_sectors (crash_state d writes j)) id (count j)
  pages_at j few = has_pages (crash_state d writes j) id (whole j few)

  up : (j : ℕ) → j < length writes → count (suc j) ≤ suc (count j)
  up j few =
      let step = steps d writes j few in
      one_more step.0 (data_sectors (crash_state d writes j)) (data_sectors (crash_state d writes (suc j))) step.1 id (count j) (count (suc j)) (pages_at j (omega (arith, few))) (pages_at (suc j) (omega (arith, few)))

  down : (j : ℕ) → j < length writes → count j ≤ suc (count (suc j))
  down j few =
      let step = steps d writes j few in
      one_more step.0 (data_sectors (crash_state d writes (suc j))) (data_sectors (crash_state d writes j)) (turned step.0 (data_sectors (crash_state d writes j)) (data_sectors (crash_state d writes (suc j))) step.1) id
      (count (suc j)) (count j) (pages_at (suc j) (omega (arith, few))) (pages_at j (omega (arith, few)))

  -- a page that is there in each crash state stands in one place
  pub always : (p : ℕ) → ((j : ℕ) → j ≤ length writes → p < count j) → (i : ℕ) (s : Sector) → slice_get (data_sectors d) i ≡ Some s → is_page id p s ≡ true
      → (j : ℕ) → j ≤ length writes → (t : Sector) × (slice_get (data_sectors (crash_state d writes j)) i ≡ Some t) × (is_page id p t ≡ true)
  always p low i s at is zero few = (s, at, is)
  always p low i s at is (suc j) few =
      let before = always p low i s at is j (omega (arith, few)) in
      let step = steps d writes j (omega (arith, few)) in
      same_place step.0 (data_sectors (crash_state d writes j)) (data_sectors (crash_state d writes (suc j))) step.1 id (count j) (count (suc j)) p i before.0
      (pages_at j (omega (arith, few))) (pages_at (suc j) few) before.1 before.2 (low (suc j) few)

  -- a label of the cut stood in the data in some crash state
  pub label_of : (i : ℕ) (t : Sector) → slice_get (data_sectors e) i ≡ Some t → AtSome 0 (length writes) (λ j. (s : Sector) × (slice_get (data_sectors (crash_state d writes j)) i ≡ Some s) × (s.0 ≡ t.0))
  label_of i t at =
      let one = cut.labels (first_data (length e) + i) t (sym (data_at e i) ∙ at) in (
        one.0,
        one.1,
        one.2,
        (one.3.0, data_at (crash_state d writes one.0) i ∙ ap (λ (n : ℕ). slice_get (crash_state d writes one.0) (first_data n + i)) (crash_state_long d writes one.0 ∙ sym cut.sectors) ∙ one.3.1, one.3.2),
      )

  -- such a page is in the cut
  is_in : (p : ℕ) → ((j : ℕ) → j ≤ length writes → p < count j) → page_at (data_sectors e) id p ≡ None → ⊥
  is_in p low none =
      let first = (pages_at 0 (omega arith)).there p (low 0 (omega arith)) in
      let long : length (data_sectors e) ≡ length (data_sectors d) = (data_pairs (λ s t. Unit {0}) d e cut.sectors (λ i s t low at there. tt)).long in
      let t = get_some (data_sectors e) first.0 (omega (arith, slice_get_within (data_sectors d) first.0 first.1 first.2, long)) in
      let one = label_of first.0 t.0 t.1 in
      let there = always p low first.0 first.1 first.2 first.3 one.0 one.2 in
      let same : there.0 ≡ one.3.0 = same_Some there.0 one.3.0 (sym there.1 ∙ one.3.1) in
      let passes : is_page id p t.0 ≡ true = ap (λ (l : Label). is_page id p (l, [])) (sym one.3.2) ∙ ap (λ (v : Sector). is_page id p v) (sym same) ∙ there.2 in
      true≢false (sym passes ∙ none_passes (is_page id p) (data_sectors e) (w.page_missing true (data_sectors e) id p none) first.0 t.0 t.1)

  -- a page that is there in no crash state is not
  is_out : (p : ℕ) (cells : Page) → p < leader_page → ((j : ℕ) → j ≤ length writes → count j ≤ p) → page_at (data_sectors e) id p ≡ Some cells → ⊥
  is_out p cells low high is =
      let t = found_page d writes e cut id p cells is in
      let at = lowest_of (is_page id p) (data_sectors e) t.0 t.1 in
      let one = label_of at.0 t.0 at.1.here in
      let less = (pages_at one.0 one.2).below at.0 p one.3.0 one.3.1 (ap (λ (l : Label). is_page id p (l, [])) one.3.2 ∙ at.1.passes) low in
      omega (arith, less, high one.0 one.2)

  -- so as many follow each other as in some crash state
  pub count_of_crash_state : (j : ℕ) × (j ≤ length writes) × (count j ≡ count_on e id)
  count_of_crash_state = either (some_or_each (λ j. count j ≤ count_on e id) (λ j. count_on e id < count j) (λ j. turn_around (cases_lt (count_on e id) (count j))) (length writes))
      (some_or_each (λ j. count_on e id ≤ count j) (λ j. count j < count_on e id) (λ j. turn_around (cases_lt (count j) (count_on e id))) (length writes))
    where
      turn_around : {A B : Type 0} → A ⊎ B → B ⊎ A
      turn_around (inl a) = inr a
      turn_around (inr b) = inl b

      most : count_on e id ≤ leader_page
      most = pages_most (page_at (data_sectors e) id) 0 leader_page

      either : ((j : ℕ) × (j ≤ length writes) × (count j ≤ count_on e id)) ⊎ ((j : ℕ) → j ≤ length writes → count_on e id < count j)
          → ((j : ℕ) × (j ≤ length writes) × (count_on e id ≤ count j)) ⊎ ((j : ℕ) → j ≤ length writes → count j < count_on e id)
          → (j : ℕ) × (j ≤ length writes) × (count j ≡ count_on e id)
      either (inl low) (inl high) = between_two count (length writes) (count_on e id) up down low.0 high.0 low.1 high.1 low.2 high.2
      either (inr more) other =
          let end = pages_stop (page_at (data_sectors e) id) 0 leader_page (omega (arith, more 0 (omega arith), (pages_at 0 (omega arith)).most)) in
          absurd (is_in (count_on e id) more (ap (page_at (data_sectors e) id) (let z : count_on e id ≡ 0 + count_on e id = omega arith in z) ∙ end))
      either (inl low) (inr fewer) = last (count_on e id) refl
        where
          last : (n : ℕ) → n ≡ count_on e id → (j : ℕ) × (j ≤ length writes) × (count j ≡ count_on e id)
          last zero is = absurd (omega (arith, is, fewer 0 (omega arith)))
          last (suc p) is =
              let below : p < length (pages_from (page_at (data_sectors e) id) 0 leader_page) = omega (arith, is) in
              let cells = get_some (pages_from (page_at (data_sectors e) id) 0 leader_page) p below in
              let z : 0 + p ≡ p = omega arith in
              absurd (is_out p cells.0 (omega (arith, is, most)) (λ j few. omega (arith, fewer j few, is))
              (ap (page_at (data_sectors e) id) (sym z) ∙ sym (pages_each (page_at (data_sectors e) id) 0 leader_page p below) ∙ cells.1))

  -- the leader's label stays
  leader_stays : (all : Bool) → ArePermitted d writes → EachWrite (λ now write. IsLabelWriteOf id now write → IsOnPage now write) d writes → Steady (λ l. leads_file all id (l, [])) d writes
  leader_stays all permitted only = steady_by_turns (λ l. leads_file all id (l, [])) d writes permitted (λ k write i s t is low now turn. either k write i s t is now (cases_eq id (id_of (crash_state d writes k) write)) turn)
    where
      free_leads : (l : Label) → is_free l ≡ true → leads_file all id (l, []) ≡ false
      free_leads l free = not_of-not_leader all id l (ap (λ (b : Bool). b && eqb l.id id) (free_none l free))

      either : (k : ℕ) (write : DiskWrite) (i : ℕ) (s t : Sector) → slice_get writes k ≡ Some write → slice_get (crash_state d writes k) i ≡ Some s
          → (id ≡ id_of (crash_state d writes k) write) ⊎ (id ≢ id_of (crash_state d writes k) write) → Turn write i s t → Alike (λ l. leads_file all id (l, [])) s.0 t.0
      either k write i s t is now (inr other) turn =
          alike_less (Of id) (λ l. leads_file all id (l, [])) s.0 t.0 (λ l fails. not_of-not_leader all id l fails) (turn_alike id (crash_state d writes k) write i s t now (λ gives. other) turn)
      either k write i s t is now (inl own) (stays eq) = inl (ap (λ (v : Sector). v.0) (sym eq))
      either k write i s t is now (inl own) (bytes wanted eq named label) = inl (sym label)
      either k write i s t is now (inl own) (fresh eq free taken page) =
          let on = subst (λ (v : DiskWrite). IsOnPage (crash_state d writes k) v) eq (only k write is (ap gives_label eq, sym own)) in
          inr (free_leads s.0 free, w.other_than_leader all id t on)
      either k write i s t is now (inl own) (freed eq new) =
          let on = subst (λ (v : DiskWrite). IsOnPage (crash_state d writes k) v) eq (only k write is (ap gives_label eq, sym own)) in
          inr (w.other_than_leader all id s (λ q. on.2 (ap (λ (v : Sector). v.0.page) (same_Some on.0 s (sym on.1 ∙ now)) ∙ q)), ap (λ (v : Sector). leads_file all id (v.0, [])) new)
      either k write i s t is now (inl own) (marked eq same old new page) =
          let on = subst (λ (v : DiskWrite). IsOnPage (crash_state d writes k) v) eq (only k write is (ap gives_label eq, sym own)) in
          absurd (on.2 (ap (λ (v : Sector). v.0.page) (same_Some on.0 s (sym on.1 ∙ now)) ∙ old))

  size_of_crash_state : (all : Bool) → ArePermitted d writes → EachWrite (λ now write. IsLabelWriteOf id now write → IsOnPage now write) d writes → AtSome 0 (length writes) (λ j. SameShape all (crash_state d writes j) e id)
  size_of_crash_state all permitted only =
      let j = count_of_crash_state in (
        j.0,
        omega arith,
        j.1,
        shape_by_count all id (data_sectors (crash_state d writes j.0)) (data_sectors e)
            (leader_pairs all id (data_sectors (crash_state d writes j.0)) (data_sectors e) (steady_pairs d writes e cut (λ l. leads_file all id (l, [])) (leader_stays all permitted only) j.0 j.1)) (sym j.2),
      )

  -- where a page stands, it is the page of the file
  pub shown : (j p i : ℕ) (s : Sector) → j ≤ length writes → slice_get (data_sectors (crash_state d writes j)) i ≡ Some s → is_page id p s ≡ true → disk_page (crash_state d writes j) id p ≡ Some (map byte s.1)
  shown j p i s few at is =
      ap (λ (o : Option Sector). option_map (λ u. map byte u.1) o)
      (find_alone (is_page id p) (data_sectors (crash_state d writes j)) i s at is (λ k t there passes. (pages_at j few).once k i p t s there at passes is))

pub size_of_one_crash_state : (all : Bool) → SizeOfOneCrashState all
size_of_one_crash_state all d writes e id permitted cut whole only = size_of_crash_state d writes e id cut whole all permitted only

pub pages_are_own : PagesAreOwn
pages_are_own d writes e id permitted cut whole unwritten own p u cells low is =
    let t = found_page d writes e cut id p cells is in
    let at = lowest_of (is_page id p) (data_sectors e) t.0 t.1 in
    let some = (own_bytes id).pages p d writes e permitted cut unwritten (own p) (first_data (length e) + at.0) u t.0 (record { is_data = omega arith; here = sym (data_at e at.0) ∙ at.1.here }) at.1.passes in
    let here : slice_get (data_sectors (crash_state d writes some.0)) at.0 ≡ Some some.3.0 =
    data_at (crash_state d writes some.0) at.0 ∙ ap (λ (n : ℕ). slice_get (crash_state d writes some.0) (first_data n + at.0)) (crash_state_long d writes some.0 ∙ sym cut.sectors) ∙ some.3.1 in (
      some.0,
      some.1,
      some.2,
      ap (option_map (unit u)) (shown d writes e id cut whole some.0 p at.0 some.3.0 some.2 here some.3.2)
          ∙ ap (λ l. Some l) (unit-map byte u some.3.0.1 ∙ ap (λ l. map byte l) some.3.3 ∙ sym (unit-map byte u t.0.1) ∙ ap (unit u) t.2),
    )
