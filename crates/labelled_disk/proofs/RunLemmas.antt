-- Runs of writes, crash state by crash state.
use Rattle.std.proofs.Common.{◌≡◌, ◌≢◌, ℕ, zero, suc, ◌+◌, ◌-◌, ◌<◌, ◌≤◌, Bool, true, false, ◌&&◌, ◌||◌, List, [], ◌∷◌, ◌++◌, map, length, Option, Some, None, refl, sym, ◌∙◌, ap, subst, arith, take, append_assoc, append-nil, length-set, eqb}
use Rattle.std.specs.Prelude.{slice_get, slice_set, replicate, option_map, find, nat_lt, if◌then◌else◌}
use Rattle.std.specs.Option.{option_map_or}
use Rattle.std.specs.List.{AllByRecursion}
use Rattle.std.proofs.lemmas.List.{length_push, length-take-le, take_all, take-take}
use Rattle.std.proofs.lemmas.Option.{same_Some, none-some}
use Rattle.std.proofs.lemmas.Bool.{and_parts, and_left, and_from, eq-eqb}
use Rattle.labelled_disk.specs.Label.{is_file, is_file_id, is_permanent, leader_page, names, page_label}
use Rattle.labelled_disk.specs.declared.label.Label.{Label}
use Rattle.labelled_disk.specs.declared.disk.DiskWrite.{DiskWrite}
use Rattle.labelled_disk.specs.declared.disk.DiskWrite.TheVariants as write
use Rattle.labelled_disk.specs.Sectors.{Sector, IsSector, AreSectors, free_label}
use Rattle.labelled_disk.specs.CrashState.{crash_state, written}
use Rattle.labelled_disk.specs.Layout.{capacity, data_sectors, first_data}
use Rattle.labelled_disk.specs.File.{File, Page, byte, size, file_at, total_room, zero_page}
use Rattle.labelled_disk.specs.FilesOn.{is_of, is_page, leads, leads_file, leader_among, files_among, disk_file}
use Rattle.labelled_disk.specs.Right.{FilesRight}
use Rattle.labelled_disk.specs.WriteLaws.{HasData, Changed, Kept}
use Rattle.labelled_disk.specs.Runs.{zero_bytes, growth, freeing, AreUnused, ArePagesDown, ArePagesUp, lengthened, shortened, GrowthCrashStates, CreationCrashStates, ShrinkingCrashStates, DeletionCrashStates, CreationUnseen, DataRuns, SectorsStay, sector_of}
use Rattle.labelled_disk.proofs.Finds.{get_set_other, found_at, find_none}
use Rattle.labelled_disk.proofs.SectorWrites as w
use Rattle.labelled_disk.proofs.WriteLemmas as laws
use Rattle.labelled_disk.proofs.RootLemmas.{only_self, right_still}

-- zero bytes are cells of zero
zero_cells : map byte zero_bytes ≡ zero_page
unfolding zero_bytes zero_page
zero_cells = refl

-- another sector is written
still_there : (d : List Sector) (i j : ℕ) (s t : Sector) → j ≢ i → HasData d j s → HasData (slice_set d i t) j s
still_there d i j s t apart there = record {
  is_data = subst (λ (n : ℕ). first_data n ≤ j) (sym (length-set d i t)) there.is_data;
  here = get_set_other d i j t apart ∙ there.here;
}

unused_still : (d : List Sector) (i : ℕ) (t : Sector) (is : List ℕ) → AllByRecursion (λ j. j ≢ i) is → AreUnused d is → AreUnused (slice_set d i t) is
unused_still d i t [] apart unused = tt
unused_still d i t (j ∷ js) apart unused = (
  record { s = unused.0.s; there = still_there d i j unused.0.s t apart.0 unused.0.there; unused = unused.0.unused },
  unused.1,
  unused_still d i t js apart.1 unused.2,
)

-- a page's sector is another one than a sector with another label
other_sector : (d : List Sector) (id k m : ℕ) (i j : ℕ) (s u : Sector) → HasData d i s → HasData d j u → is_page id k s ≡ true → is_page id m u ≡ true → m ≢ k → j ≢ i
other_sector d id k m i j s u at_i at_j is_k is_m apart same =
    let one : s ≡ u = same_Some s u (sym at_i.here ∙ ap (λ (n : ℕ). slice_get d n) (sym same) ∙ at_j.here) in
    apart (sym (w.page_number true id m u is_m) ∙ ap (λ (v : Sector). v.0.page) (sym one) ∙ w.page_number true id k s is_k)

down_still : (d : List Sector) (id k n : ℕ) (i : ℕ) (s t : Sector) (is : List ℕ) → n ≤ k → HasData d i s → is_page id k s ≡ true → ArePagesDown d id n is → ArePagesDown (slice_set d i t) id n is
down_still d id k n i s t [] low at is pages = tt
down_still d id k zero i s t (j ∷ js) low at is pages = pages
down_still d id k (suc n) i s t (j ∷ js) low at is pages = (
  record {
    s = pages.0.s;
    there = still_there d i j pages.0.s t (other_sector d id k n i j s pages.0.s at pages.0.there is pages.0.passes (λ e. omega (arith, e, low))) pages.0.there;
    passes = pages.0.passes;
  },
  down_still d id k n i s t js (omega (arith, low)) at is pages.1,
)

up_still : (d : List Sector) (id k n : ℕ) (i : ℕ) (s t : Sector) (is : List ℕ) → k < n → HasData d i s → is_page id k s ≡ true → ArePagesUp d id n is → ArePagesUp (slice_set d i t) id n is
up_still d id k n i s t [] high at is pages = tt
up_still d id k n i s t (j ∷ js) high at is pages = (
  pages.0,
  record {
    s = pages.1.s;
    there = still_there d i j pages.1.s t (other_sector d id k n i j s pages.1.s at pages.1.there is pages.1.passes (λ e. omega (arith, e, high))) pages.1.there;
    passes = pages.1.passes;
  },
  up_still d id k (n + 1) i s t js (omega (arith, high)) at is pages.2,
)

-- the leader's sector is another one than a page's
led_still : (d : List Sector) (with_temporary : Bool) (id n : ℕ) (i : ℕ) (s t : Sector) (is : List ℕ) → HasData d i s → leads_file with_temporary id s ≡ true → ArePagesUp d id n is → ArePagesUp (slice_set d i t) id n is
led_still d with_temporary id n i s t [] at is pages = tt
led_still d with_temporary id n i s t (j ∷ js) at is pages = (
  pages.0,
  record {
    s = pages.1.s;
    there = still_there d i j pages.1.s t
        (λ same.
        let one : s ≡ pages.1.s = same_Some s pages.1.s (sym at.here ∙ ap (λ (n : ℕ). slice_get d n) (sym same) ∙ pages.1.there.here) in
        pages.0 (sym (w.page_number true id n pages.1.s pages.1.passes) ∙ ap (λ (v : Sector). v.0.page) (sym one) ∙ w.leader_number with_temporary id s is))
        pages.1.there;
    passes = pages.1.passes;
  },
  led_still d with_temporary id (n + 1) i s t js at is pages.2,
)

free_is_none : is_file free_label ≡ false
free_is_none = refl

module _ (with_temporary : Bool) (serial counter : ℕ) where
  -- one change after another of the same file
  then_changed : (d e g : List Sector) (id : ℕ) (now later : Option File) → Changed with_temporary serial counter d e id now → Changed with_temporary serial counter e g id later → Changed with_temporary serial counter d g id later
  then_changed d e g id now later first second = record {
    file = second.file;
    others = λ other apart. second.others other apart ∙ first.others other apart;
    right = second.right;
  }

  unchanged : (d : List Sector) (id : ℕ) (now : Option File) → FilesRight with_temporary serial counter d → disk_file with_temporary d id ≡ now → Changed with_temporary serial counter d d id now
  unchanged d id now right is = record { file = is; others = λ other apart. refl; right = right }

  -- the room of all files, after one was changed
  room_after : (d e : List Sector) (id : ℕ) (now : Option File) → Changed with_temporary serial counter d e id now
      → total_room (files_among with_temporary e) + laws.room_at with_temporary serial counter (disk_file with_temporary d id) ≡ total_room (files_among with_temporary d) + laws.room_at with_temporary serial counter now
  room_after d e id now change =
      omega (
        arith,
        laws.room_changed with_temporary serial counter (files_among with_temporary d) (files_among with_temporary e) id (laws.files_on_rise with_temporary serial counter d) (laws.files_on_rise with_temporary serial counter e)
            (λ j apart. laws.look_up with_temporary serial counter e j ∙ change.others j apart ∙ sym (laws.look_up with_temporary serial counter d j)),
        ap (λ (o : Option File). laws.room_at with_temporary serial counter o) (laws.look_up with_temporary serial counter d id),
        ap (λ (o : Option File). laws.room_at with_temporary serial counter o) (laws.look_up with_temporary serial counter e id ∙ change.file),
      )

  -- the identifier of a file is one that a file may have
  id_of_file : (d : List Sector) (id : ℕ) (f : File) → disk_file with_temporary d id ≡ Some f → is_file_id id ≡ true
  id_of_file d id f is =
      let lead = w.file_leader with_temporary (data_sectors d) id f is in
      let at = leader_sector (data_sectors d) id lead.0 lead.1 in
      let parts = and_parts (leads with_temporary at.0) (eqb at.0.0.id id) at.1 in
      let marks = and_parts (is_file at.0.0 && eqb at.0.0.page leader_page) (with_temporary || is_permanent at.0.0) parts.0 in
      let form = and_parts (is_file at.0.0) (eqb at.0.0.page leader_page) marks.0 in
      let flags = and_parts (is_file_id at.0.0.id && nat_lt at.0.0.flags 4) (eqb at.0.0.last 0) form.0 in
      subst (λ (n : ℕ). is_file_id n ≡ true) (w.leader_id with_temporary id at.0 at.1) (and_parts (is_file_id at.0.0.id) (nat_lt at.0.0.flags 4) flags.0).0
    where
      leader_sector : (xs : List Sector) (id : ℕ) (l : Label) → leader_among with_temporary xs id ≡ Some l → (s : Sector) × (leads_file with_temporary id s ≡ true)
      leader_sector xs id l is = either (find (leads_file with_temporary id) xs) refl is
        where
          either : (o : Option Sector) → find (leads_file with_temporary id) xs ≡ o → option_map (λ s. s.0) o ≡ Some l → (s : Sector) × (leads_file with_temporary id s ≡ true)
          either None e h = absurd (none-some l h)
          either (Some s) e h = (s, (found_at (leads_file with_temporary id) xs s e).2)

  page_is : (id kind k : ℕ) → is_file_id id ≡ true → is_page id k (page_label id kind k, zero_bytes) ≡ true
  page_is id kind k is =
      and_from (is_of id (page_label id kind k, zero_bytes)) (eqb k k)
      (and_from (is_file (page_label id kind k)) (eqb id id) (rw is refl) (eq-eqb id id refl)) (eq-eqb k k refl)

  growth_from : (d : List Sector) (id kind page : ℕ) (f : File) (is : List ℕ) → page ≡ size f → FilesRight with_temporary serial counter d → disk_file with_temporary d id ≡ Some f → AreUnused d is
      → length is + total_room (files_among with_temporary d) ≤ capacity (length d) → (k : ℕ) → k ≤ length is
      → Changed with_temporary serial counter d (crash_state d (growth id kind page is) k) id (Some (lengthened k f))
  growth_from d id kind page f is start right file unused room zero low =
      let same : f ≡ lengthened 0 f = ap (λ (p : List Page). record f { pages = p }) (sym (append-nil f.pages)) in
      unchanged d id (Some (lengthened 0 f)) right (file ∙ ap (λ (g : File). Some g) same)
  growth_from d id kind page f [] start right file unused room (suc k) low = absurd (omega (arith, low))
  growth_from d id kind page f (i ∷ is) start right file unused room (suc k) low =
      let t : Sector = (page_label id kind page, zero_bytes) in
      let named : is_page id (size f) t ≡ true = subst (λ (n : ℕ). is_page id n t ≡ true) start (page_is id kind page (id_of_file d id f file)) in
      let once = laws.file_grown with_temporary serial counter d i unused.0.s t id f right unused.0.there unused.0.unused named file (omega (arith, room)) in
      let more : File = record f { pages = f.pages ++ map byte zero_bytes ∷ [] } in
      let long : size more ≡ size f + 1 = length_push f.pages (map byte zero_bytes) in
      let rest = growth_from (slice_set d i t) id kind (page + 1) more is (omega (arith, start, long)) once.right once.file (unused_still d i t is unused.1 unused.2)
      (omega (arith, room, long, room_after d (slice_set d i t) id (Some more) once, ap (λ (o : Option File). laws.room_at with_temporary serial counter o) file, ap (λ (n : ℕ). capacity n) (length-set d i t)))
      k (omega (arith, low)) in
      let same : lengthened k more ≡ lengthened (suc k) f =
      ap (λ (p : List Page). record f { pages = p }) (append_assoc f.pages (map byte zero_bytes ∷ []) (replicate k zero_page) ∙ ap (λ (z : Page). f.pages ++ (z ∷ replicate k zero_page)) zero_cells) in
      then_changed d (slice_set d i t) _ id (Some more) (Some (lengthened (suc k) f)) once
      (subst (λ (g : File). Changed with_temporary serial counter (slice_set d i t) (crash_state (slice_set d i t) (growth id kind (page + 1) is) k) id (Some g)) same rest)

  pub growth_crash_states : GrowthCrashStates with_temporary serial counter
  growth_crash_states d id kind f is right file unused room k low = growth_from d id kind (size f) f is refl right file unused room k low

  pub creation_crash_states : CreationCrashStates with_temporary serial counter
  creation_crash_states d id kind leader is right leads nowhere given unused room k low =
      let t : Sector = (page_label id kind leader_page, zero_bytes) in
      let once = laws.file_created with_temporary serial counter d leader unused.0.s t id right unused.0.there unused.0.unused leads nowhere given (omega (arith, room)) in
      let empty : File = record { id = id; kind = kind; permanent = false; immutable = false; pages = [] } in
      let none : disk_file with_temporary d id ≡ None =
      w.file_none with_temporary (data_sectors d) id (ap (λ (o : Option Sector). option_map (λ (u : Sector). u.0) o)
      (find_none (leads_file with_temporary id) (data_sectors d) (λ j u at. w.not_of-not_leader with_temporary id u (nowhere j u at)))) in
      let rest = growth_from (slice_set d leader t) id kind 0 empty is refl once.right once.file (unused_still d leader t is unused.1 unused.2)
      (omega (arith, room, room_after d (slice_set d leader t) id (Some empty) once, ap (λ (o : Option File). laws.room_at with_temporary serial counter o) none, ap (λ (n : ℕ). capacity n) (length-set d leader t)))
      k low in
      then_changed d (slice_set d leader t) _ id (Some empty) _ once rest

  -- a label is freed
  freed : (d : List Sector) (i : ℕ) (s : Sector) (is : List ℕ) (k : ℕ) → slice_get d i ≡ Some s
      → crash_state (slice_set d i (free_label, s.1)) (freeing is) k ≡ crash_state d (freeing (i ∷ is)) (suc k)
  freed d i s is k here = ap (λ (e : List Sector). crash_state e (freeing is) k) (sym (ap (λ (o : Option Sector). option_map_or (λ (old : Sector). slice_set d i (free_label, old.1)) o d) here))

  shrink_from : (d : List Sector) (id n : ℕ) (f : File) (is : List ℕ) → n ≡ size f → FilesRight with_temporary serial counter d → disk_file with_temporary d id ≡ Some f → ArePagesDown d id n is
      → (k : ℕ) → k ≤ length is → Changed with_temporary serial counter d (crash_state d (freeing is) k) id (Some (shortened k f))
  shrink_from d id n f is long right file pages zero low =
      let same : f ≡ shortened 0 f = ap (λ (p : List Page). record f { pages = p }) (sym (take_all (size f - 0) f.pages (omega arith))) in
      unchanged d id (Some (shortened 0 f)) right (file ∙ ap (λ (g : File). Some g) same)
  shrink_from d id n f [] long right file pages (suc k) low = absurd (omega (arith, low))
  shrink_from d id zero f (i ∷ is) long right file pages (suc k) low = absurd pages
  shrink_from d id (suc n) f (i ∷ is) long right file pages (suc k) low =
      let s : Sector = pages.0.s in
      let t : Sector = (free_label, s.1) in
      let less : File = record f { pages = take n f.pages } in
      let short : n ≡ size less = sym (length-take-le n f.pages (omega (arith, long))) in
      let once = laws.last_page_freed with_temporary serial counter d i s t id n f right pages.0.there pages.0.passes free_is_none file (sym long) in
      let rest = shrink_from (slice_set d i t) id n less is short once.right once.file (down_still d id n n i s t is (omega arith) pages.0.there pages.0.passes pages.1) k (omega (arith, low)) in
      let same : shortened k less ≡ shortened (suc k) f = ap (λ (p : List Page). record f { pages = p }) (fewer f n k long short) in
      then_changed d (slice_set d i t) _ id (Some less) (Some (shortened (suc k) f)) once
      (subst (λ (e : List Sector). Changed with_temporary serial counter (slice_set d i t) e id (Some (shortened (suc k) f))) (freed d i s is k pages.0.there.here)
      (subst (λ (g : File). Changed with_temporary serial counter (slice_set d i t) (crash_state (slice_set d i t) (freeing is) k) id (Some g)) same rest))
    where
      fewer : (f : File) (n k : ℕ) → suc n ≡ size f → n ≡ size (record f { pages = take n f.pages }) → take (size (record f { pages = take n f.pages }) - k) (take n f.pages) ≡ take (size f - suc k) f.pages
      fewer f n k long short =
          let e : size (record f { pages = take n f.pages }) - k ≡ n - k = omega (arith, short) in
          let g : size f - suc k ≡ n - k = omega (arith, long) in
          ap (λ (m : ℕ). take m (take n f.pages)) e ∙ take-take (n - k) n f.pages (omega arith) ∙ ap (λ (m : ℕ). take m f.pages) (sym g)

  pub shrinking_crash_states : ShrinkingCrashStates with_temporary serial counter
  shrinking_crash_states d id f is right file pages k low = shrink_from d id (size f) f is refl right file pages k low

  as_changed : (d e : List Sector) (id : ℕ) → disk_file with_temporary d id ≡ None → Kept with_temporary serial counter d e → Changed with_temporary serial counter d e id None
  as_changed d e id none kept = record { file = each id ∙ none; others = λ other apart. each other; right = kept.right }
    where
      each : (other : ℕ) → disk_file with_temporary e other ≡ disk_file with_temporary d other
      each other = sym (laws.look_up with_temporary serial counter e other) ∙ ap (λ (l : List File). file_at l other) kept.files ∙ laws.look_up with_temporary serial counter d other

  gone_from : (d : List Sector) (id n : ℕ) (is : List ℕ) → FilesRight with_temporary serial counter d → disk_file with_temporary d id ≡ None → ArePagesUp d id n is
      → (k : ℕ) → k ≤ length is → Changed with_temporary serial counter d (crash_state d (freeing is) k) id None
  gone_from d id n is right none pages zero low = unchanged d id None right none
  gone_from d id n [] right none pages (suc k) low = absurd (omega (arith, low))
  gone_from d id n (i ∷ is) right none pages (suc k) low =
      let s : Sector = pages.1.s in
      let t : Sector = (free_label, s.1) in
      let kept = laws.temporary_written with_temporary serial counter d i s t id right pages.1.there
      (laws.only_of with_temporary serial counter id s (w.page_of with_temporary id n s pages.1.passes)) (laws.only_none with_temporary serial counter id t free_is_none) none
      (w.not_of-not_leader with_temporary id t (and_left (is_file t.0) (eqb t.0.id id) free_is_none)) in
      let once = as_changed d (slice_set d i t) id none kept in
      let rest = gone_from (slice_set d i t) id (n + 1) is once.right once.file (up_still d id n (n + 1) i s t is (omega arith) pages.1.there pages.1.passes pages.2) k (omega (arith, low)) in
      then_changed d (slice_set d i t) _ id None None once
      (subst (λ (e : List Sector). Changed with_temporary serial counter (slice_set d i t) e id None) (freed d i s is k pages.1.there.here) rest)

  pub deletion_crash_states : DeletionCrashStates with_temporary serial counter
  deletion_crash_states d id leader f is right file led pages k low =
      let s : Sector = led.s in
      let t : Sector = (free_label, s.1) in
      let once = laws.leader_freed with_temporary serial counter d leader s t id f right led.there led.passes free_is_none file in
      let rest = gone_from (slice_set d leader t) id 0 is once.right once.file (led_still d with_temporary id 0 leader s t is led.there led.passes pages) k low in
      then_changed d (slice_set d leader t) _ id None None once
      (subst (λ (e : List Sector). Changed with_temporary serial counter (slice_set d leader t) e id None) (freed d leader s is k led.there.here) rest)

  -- pages of a file that doesn't count
  unseen_from : (d : List Sector) (id kind page : ℕ) (is : List ℕ) → FilesRight with_temporary serial counter d → disk_file with_temporary d id ≡ None → AreUnused d is → page + length is ≤ leader_page
      → (k : ℕ) → k ≤ length is → Changed with_temporary serial counter d (crash_state d (growth id kind page is) k) id None
  unseen_from d id kind page is right none unused few zero low = unchanged d id None right none
  unseen_from d id kind page [] right none unused few (suc k) low = absurd (omega (arith, low))
  unseen_from d id kind page (i ∷ is) right none unused few (suc k) low =
      let t : Sector = (page_label id kind page, zero_bytes) in
      let kept = laws.temporary_written with_temporary serial counter d i unused.0.s t id right unused.0.there
      (laws.only_none with_temporary serial counter id unused.0.s unused.0.unused) (only_self t id refl) none
      (w.other_than_leader with_temporary id t (λ e. omega (arith, e, few))) in
      let once = as_changed d (slice_set d i t) id none kept in
      let rest = unseen_from (slice_set d i t) id kind (page + 1) is once.right once.file (unused_still d i t is unused.1 unused.2) (omega (arith, few)) k (omega (arith, low)) in
      then_changed d (slice_set d i t) _ id None None once rest

  pub creation_unseen : CreationUnseen with_temporary serial counter
  creation_unseen d id kind leader is right none hidden unused few zero low = unchanged d id None right none
  creation_unseen d id kind leader is right none hidden unused few (suc k) low =
      let t : Sector = (page_label id kind leader_page, zero_bytes) in
      let kept = laws.temporary_written with_temporary serial counter d leader unused.0.s t id right unused.0.there
      (laws.only_none with_temporary serial counter id unused.0.s unused.0.unused) (only_self t id refl) none hidden in
      let once = as_changed d (slice_set d leader t) id none kept in
      let rest = unseen_from (slice_set d leader t) id kind 0 is once.right once.file (unused_still d leader t is unused.1 unused.2) (omega (arith, few)) k (omega (arith, low)) in
      then_changed d (slice_set d leader t) _ id None None once rest

-- Writes of data sectors.

set_low : (d : List Sector) (i j : ℕ) (t : Sector) → j < i → slice_get (slice_set d i t) j ≡ slice_get d j
set_low d i j t low = get_set_other d i j t (λ e. omega (arith, e, low))

-- one write changes its own sector alone, and no length
written_apart : (d : List Sector) (one : DiskWrite) (j : ℕ) → j < sector_of one → slice_get (written one d) j ≡ slice_get d j
written_apart d (write.Whole sector label page) j low = set_low d sector j (label, page) low
written_apart d (write.LabelOnly sector label) j low = either (slice_get d sector)
  where
    either : (o : Option Sector) → slice_get (option_map_or (λ old. slice_set d sector (label, old.1)) o d) j ≡ slice_get d j
    either None = refl
    either (Some s) = set_low d sector j (label, s.1) low
written_apart d (write.Page sector wanted page) j low = either (slice_get d sector)
  where
    choice : (b : Bool) (s : Sector) → slice_get (if b then slice_set d sector (s.0, page) else d) j ≡ slice_get d j
    choice true s = set_low d sector j (s.0, page) low
    choice false s = refl

    either : (o : Option Sector) → slice_get (option_map_or (λ old. if names old.0 wanted then slice_set d sector (old.0, page) else d) o d) j ≡ slice_get d j
    either None = refl
    either (Some s) = choice (names s.0 wanted) s

written_long : (d : List Sector) (one : DiskWrite) → length (written one d) ≡ length d
written_long d (write.Whole sector label page) = length-set d sector (label, page)
written_long d (write.LabelOnly sector label) = either (slice_get d sector)
  where
    either : (o : Option Sector) → length (option_map_or (λ old. slice_set d sector (label, old.1)) o d) ≡ length d
    either None = refl
    either (Some s) = length-set d sector (label, s.1)
written_long d (write.Page sector wanted page) = either (slice_get d sector)
  where
    choice : (b : Bool) (s : Sector) → length (if b then slice_set d sector (s.0, page) else d) ≡ length d
    choice true s = length-set d sector (s.0, page)
    choice false s = refl

    either : (o : Option Sector) → length (option_map_or (λ old. if names old.0 wanted then slice_set d sector (old.0, page) else d) o d) ≡ length d
    either None = refl
    either (Some s) = choice (names s.0 wanted) s

-- the sectors before the data, after writes of data sectors
crash_state_long : (d : List Sector) (writes : List DiskWrite) (k : ℕ) → length (crash_state d writes k) ≡ length d
crash_state_long d writes zero = refl
crash_state_long d [] (suc k) = refl
crash_state_long d (one ∷ writes) (suc k) = crash_state_long (written one d) writes k ∙ written_long d one

crash_state_low : (n : ℕ) (d : List Sector) (writes : List DiskWrite) (k j : ℕ) → j < n → AllByRecursion (λ one. n ≤ sector_of one) writes → slice_get (crash_state d writes k) j ≡ slice_get d j
crash_state_low n d writes zero j low all = refl
crash_state_low n d [] (suc k) j low all = refl
crash_state_low n d (one ∷ writes) (suc k) j low all = crash_state_low n (written one d) writes k j low all.1 ∙ written_apart d one j (omega (arith, low, all.0))

pub data_runs : (with_temporary : Bool) → DataRuns with_temporary
data_runs with_temporary d writes k right all files =
    right_still with_temporary d (crash_state d writes k) (crash_state_long d writes k)
    (crash_state_low (first_data (length d)) d writes k 0 (laws.first_positive with_temporary 0 0 (length d)) all)
    (λ i high low. ap (λ (o : Option Sector). option_map (λ s. s.0) o) (crash_state_low (first_data (length d)) d writes k i low all))
    files right

-- Sectors stay sectors.

each_set : (P : Sector → Type 0) (d : List Sector) (i : ℕ) (t : Sector) → ((k : ℕ) (s : Sector) → slice_get d k ≡ Some s → P s) → P t
    → (k : ℕ) (s : Sector) → slice_get (slice_set d i t) k ≡ Some s → P s
each_set P [] i t each new k s is = each k s is
each_set P (x ∷ xs) zero t each new zero s is = subst P (same_Some t s is) new
each_set P (x ∷ xs) zero t each new (suc k) s is = each (suc k) s is
each_set P (x ∷ xs) (suc i) t each new zero s is = each zero s is
each_set P (x ∷ xs) (suc i) t each new (suc k) s is = each_set P xs i t (λ k s is. each (suc k) s is) new k s is

pub sectors_stay : SectorsStay
sectors_stay d (write.Whole sector label page) are form = each_set IsSector d sector (label, page) are form
sectors_stay d (write.LabelOnly sector label) are form = either (slice_get d sector) refl
  where
    either : (o : Option Sector) → slice_get d sector ≡ o → AreSectors (option_map_or (λ old. slice_set d sector (label, old.1)) o d)
    either None e = are
    either (Some s) e = let was = are sector s e in each_set IsSector d sector (label, s.1) are (form s.1 was.whole_page was.bytes)
sectors_stay d (write.Page sector wanted page) are form = either (slice_get d sector) refl
  where
    choice : (b : Bool) (s : Sector) → IsSector s → AreSectors (if b then slice_set d sector (s.0, page) else d)
    choice true s was = each_set IsSector d sector (s.0, page) are
        (record { id_fits = was.id_fits; page_fits = was.page_fits; kind_fits = was.kind_fits; flags_fit = was.flags_fit; last_fits = was.last_fits; whole_page = form.0; bytes = form.1 })
    choice false s was = are

    either : (o : Option Sector) → slice_get d sector ≡ o → AreSectors (option_map_or (λ old. if names old.0 wanted then slice_set d sector (old.0, page) else d) o d)
    either None e = are
    either (Some s) e = choice (names s.0 wanted) s (are sector s e)
