-- What the file map says after calls that leave it, it said before them.
use Rattle.std.proofs.Common.{◌≡◌, ◌⊎◌, inl, inr, ⊎_elim, ℕ, ◌+◌, ◌<◌, ◌≤◌, List, [], Some, refl, sym, ◌∙◌, ap, subst, arith}
use Rattle.std.specs.Prelude.{slice_get}
use Rattle.std.proofs.lemmas.Option.{same_Some}
use Rattle.labelled_disk.specs.declared.evidence.Evidence.{Evidence}
use Rattle.labelled_disk.specs.declared.evidence.Evidence.TheVariants.{Mismatch, Malformed, Missing}
use Rattle.labelled_disk.specs.declared.evidence.Halt.{Halt}
use Rattle.labelled_disk.specs.declared.evidence.Halt.TheVariants.{Disk, Damaged}
use Rattle.labelled_disk.specs.declared.label.Label.{Label}
use Rattle.labelled_disk.specs.declared.label.Wanted.{Wanted}
use Rattle.labelled_disk.specs.declared.layout.Layout.{Layout}
use Rattle.labelled_disk.specs.Calls.{RevealsSame}
use Rattle.labelled_disk.specs.Runs.{freeing}
use Rattle.labelled_disk.specs.Sectors.{Sector}
use Rattle.labelled_disk.specs.State.{DiskState}
use Rattle.frame_pool.specs.declared.home.Home.{Home}
use Rattle.frame_pool.specs.Frames.{Slots}
use Rattle.file_map.specs.declared.run.Run.{Run}
use Rattle.file_map.specs.Run.{run_bytes}
use Rattle.file_map.specs.Entries.{Sight, Entry, Count, Broken}
use Rattle.file_map.specs.Cause.{IsBroken}
use Rattle.swapper_kernel.specs.declared.manager.Manager.{Manager}
use Rattle.swapper_kernel.specs.declared.manager.Manager.TheVariants.{AllocationMap, FileMap}
use Rattle.swapper_kernel.specs.DiffersLaws.{names_id, other_sector}
use Rattle.swapper_kernel.specs.Goes.{Makes, no_page}
use Rattle.swapper_kernel.specs.HaltLaws.{brings_itself, brings_then, brings_wider, rose_wider}
use Rattle.swapper_kernel.specs.Halts.{HasCause, IsMismatch, Halts, held_or}
use Rattle.swapper_kernel.specs.Homes.{IsLayout, Brings, home_at, wanted_at}
use Rattle.swapper_kernel.specs.Maps.{IsMapHome}
use Rattle.swapper_kernel.specs.Stands.{Stands}
use Rattle.swapper_kernel.specs.Window.{Reveals, Beside}
use Rattle.label_calls.specs.Labels.{ones_of}
use Rattle.label_calls.specs.Runs.{AreUncovered, HaveOnes, RelabelsRun, IsOneNotOf}
use Rattle.filer_kernel.specs.Causes.{MapShows, MapEvidence, MapHalts, IsGiven, IsRunHome}
use Rattle.filer_kernel.specs.Triples.{IsOneOf}
use Rattle.file_manager.specs.Causes.{NamesNone}
use Rattle.file_manager.specs.Grounds.{IsMapsHome, IsUnframed, FreeEvidence, FreeHalts, KeepsMap}
use Rattle.file_manager.proofs.FreedSectors.{freed_elsewhere}
use Rattle.file_manager.proofs.FreedRun.{shows_still, after_map, first_is}

-- no page of a map is one of a file's, or of the space tables'
map_apart : (layout : Layout) {id : ℕ} → (id ≡ 3) ⊎ (16 ≤ id) → (home : Home) → IsMapsHome layout home → home.id ≡ id → ⊥
map_apart layout file home (AllocationMap, (page, below, at)) same = let own : home.id ≡ 1 = ap (λ (h : Home). h.id) at in ⊎_elim (λ q. omega (arith, own, same, q)) (λ q. omega (arith, own, same, q)) file
map_apart layout file home (FileMap, (page, below, at)) same = let own : home.id ≡ 2 = ap (λ (h : Home). h.id) at in ⊎_elim (λ q. omega (arith, own, same, q)) (λ q. omega (arith, own, same, q)) file

unframed_then : {layout : Layout} {s t : Slots} {id : ℕ} → (id ≡ 3) ⊎ (16 ≤ id) → Brings (IsMapsHome layout) s t → IsUnframed s id → IsUnframed t id
unframed_then {layout = layout} file brings none page there = elim (brings.homes there.frame.home (record { slot = there.slot; frame = there.frame; has = there.has; at = refl })) [
  | inl was ↦ none page (record { slot = was.slot; frame = was.frame; has = was.has; same_id = ap (λ (h : Home). h.id) was.at ∙ there.same_id; same_page = ap (λ (h : Home). h.page) was.at ∙ there.same_page })
  | inr own ↦ map_apart layout file there.frame.home own there.same_id
]

-- what is shown less of is broken less
pub broken_shown : (p q : Sight → Type 0) → ((sight : Sight) → p sight → q sight) → (n page : ℕ) → IsBroken n p page → IsBroken n q page
broken_shown p q all n page h = elim h [
  | inl broken ↦ inl (all (Broken page) broken)
  | inr (inl (entry, shows, other)) ↦ inr (inl (entry, all (Entry page entry) shows, other))
  | inr (inr (first, (count, shows, many))) ↦ inr (inr (first, (count, all (Count count) shows, many)))
]

-- ---- Calls in a row.

pub keeps_none : (given : Type 0) (layout : Layout) (id : ℕ) (a : DiskState) (s : Slots) (kept : List Run) → (given → IsUnframed s id) → KeepsMap given layout id a s kept a s kept
keeps_none given layout id a s kept none = record {
  faults = omega arith;
  brings = brings_itself (IsMapsHome layout) s;
  unframed = none;
  revealed = λ g b reveals. reveals;
  runs_given = λ g r one. inl one;
}

module _ {given : Type 0} {layout : Layout} {id : ℕ} {a b : DiskState} {s t : Slots} {kept runs : List Run} (h : KeepsMap given layout id a s kept b t runs) where
  pub shown : given → (sight : Sight) → MapShows layout b t sight → MapShows layout a s sight
  shown g sight shows bytes reveals = shows bytes (h.revealed g bytes reveals)

  given_before : given → (r : Run) → IsGiven layout b t runs r → IsGiven layout a s kept r
  given_before g r (inl one) = h.runs_given g r one
  given_before g r (inr (page, shows)) = inr (page, shown g (Entry page (run_bytes r)) shows)

  home_before : given → (home : Home) → IsRunHome layout b t runs home → IsRunHome layout a s kept home
  home_before g home is = record { run = is.run; given = given_before g is.run is.given; form = is.form; has = is.has; at = is.at }

  none_before : given → a.sectors ≡ layout.sectors → (i page : ℕ) → NamesNone layout b t i page → NamesNone layout a s i page
  none_before g size i page none m named stands map =
      let now = h.revealed g map.bytes (record { memory = m; stands = stands; shows = map.shows; size = size }) in
      none now.memory named now.stands (record { bytes = map.bytes; shows = now.shows; names = map.names })

  pub keeps_then : {c : DiskState} {u : Slots} {later : List Run} → KeepsMap (IsUnframed t id) layout id b t runs c u later → KeepsMap given layout id a s kept c u later
  keeps_then k = record {
    faults = let one = h.faults in let two = k.faults in omega (arith, one, two);
    brings = brings_then h.brings k.brings;
    unframed = λ g. k.unframed (h.unframed g);
    revealed = λ g bytes reveals. k.revealed (h.unframed g) bytes (h.revealed g bytes reveals);
    runs_given = λ g r one. given_before g r (k.runs_given (h.unframed g) r one);
  }

  pub free_before : (pages more : ℕ → Type 0) → ((page : ℕ) → pages page → more page) → a.sectors ≡ layout.sectors → (e : Evidence) → FreeEvidence (IsUnframed t id) layout runs id pages b t e → FreeEvidence given layout kept id more a s e
  free_before pages more all size (Mismatch sector wanted found) is = elim is [
    | inl held ↦ elim (h.brings.homes (home_at sector wanted) held) [ inl was ↦ inl was | inr own ↦ inr (inl own) ]
    | inr (inl own) ↦ inr (inl own)
    | inr (inr own) ↦ inr (inr (record { of_file = own.of_file; from = own.from; below = own.below; by_run = λ g. home_before g (home_at sector wanted) (own.by_run (h.unframed g)) }))
  ]
  free_before pages more all size (Malformed structure page) is = (is.0, λ g. broken_shown (MapShows layout b t) (MapShows layout a s) (shown g) layout.sectors page (is.1 (h.unframed g)))
  free_before pages more all size (Missing missing page) is = (is.0, all page is.1, λ g. none_before g size id page (is.2 (h.unframed g)))

  -- the halt of a call after them
  pub free_halts_before : (pages more : ℕ → Type 0) → ((page : ℕ) → pages page → more page) → a.sectors ≡ layout.sectors → (c : DiskState) (halt : Halt) → FreeHalts (IsUnframed t id) layout runs id pages b t c halt → FreeHalts given layout kept id more a s c halt
  free_halts_before pages more all size c Disk is = rose_wider a.faults b.faults c.faults c.faults h.faults (omega arith) is
  free_halts_before pages more all size c (Damaged e) is = free_before pages more all size e is

  -- a map's label, after them
  map_home_before : (which : Manager) (e : Evidence) → (pages : ℕ → Type 0) → IsMismatch (held_or t (IsMapHome which layout)) b e → FreeEvidence given layout kept id pages a s e
  map_home_before which (Mismatch sector wanted found) pages is = elim is.reason [
    | inl held ↦ elim (h.brings.homes (home_at sector wanted) held) [ inl was ↦ inl was | inr own ↦ inr (inl own) ]
    | inr own ↦ inr (inl (which, own))
  ]
  map_home_before which (Malformed structure page) pages is = absurd is
  map_home_before which (Missing missing page) pages is = absurd is

  pub map_halts_after : (which : Manager) (pages : ℕ → Type 0) (c : DiskState) (halt : Halt) → Halts (IsMapHome which layout) b t c halt → FreeHalts given layout kept id pages a s c halt
  map_halts_after which pages c Disk is = rose_wider a.faults b.faults c.faults c.faults h.faults (omega arith) is
  map_halts_after which pages c (Damaged e) is = map_home_before which e pages is

  -- a search of the map, after them
  pub search_before : (e : Evidence) → (pages : ℕ → Type 0) → MapEvidence layout b t e → FreeEvidence given layout kept id pages a s e
  search_before (Mismatch sector wanted found) pages is = elim is.reason [
    | inl held ↦ elim (h.brings.homes (home_at sector wanted) held) [ inl was ↦ inl was | inr own ↦ inr (inl own) ]
    | inr own ↦ inr (inl (FileMap, own))
  ]
  search_before (Malformed structure page) pages is = (is.0, λ g. broken_shown (MapShows layout b t) (MapShows layout a s) (shown g) layout.sectors page is.1)
  search_before (Missing missing page) pages is = absurd is

  pub search_halts_after : (pages : ℕ → Type 0) (c : DiskState) (halt : Halt) → MapHalts layout b t c halt → FreeHalts given layout kept id pages a s c halt
  search_halts_after pages c Disk is = rose_wider a.faults b.faults c.faults c.faults h.faults (omega arith) is
  search_halts_after pages c (Damaged e) is = search_before e pages is

  -- the labels of pages of the file, after them: each is where a run had its page
  row_before : (pages : ℕ → Type 0) (sector count first : ℕ) → layout.first ≤ sector → sector + count ≤ layout.sectors
      → ((k : ℕ) → k < count → given → IsRunHome layout a s kept (home_at (sector + k) (record { id = id; page = first + k })))
      → (e : Evidence) → IsOneNotOf sector count (λ k. record { id = id; page = first + k }) b e → FreeEvidence given layout kept id pages a s e
  row_before pages sector count first from inside homes (Mismatch place wanted found) (k, below, (at, page, has, other)) = inr (inr (record {
    of_file = ap (λ (w : Wanted). w.id) page;
    from = omega (arith, from, at);
    below = omega (arith, inside, below, at);
    by_run = λ g. subst (λ (home : Home). IsRunHome layout a s kept home) (λ i. home_at (sym at i) (sym page i)) (homes k below g);
  }))
  row_before pages sector count first from inside homes (Malformed structure page) (k, below, is) = absurd is
  row_before pages sector count first from inside homes (Missing missing page) (k, below, is) = absurd is

  pub row_halts_after : (pages : ℕ → Type 0) (sector count first : ℕ) → layout.first ≤ sector → sector + count ≤ layout.sectors
      → ((k : ℕ) → k < count → given → IsRunHome layout a s kept (home_at (sector + k) (record { id = id; page = first + k })))
      → (c : DiskState) (halt : Halt) → HasCause (IsOneNotOf sector count (λ k. record { id = id; page = first + k }) b) b c halt → FreeHalts given layout kept id pages a s c halt
  row_halts_after pages sector count first from inside homes c Disk is = rose_wider a.faults b.faults c.faults c.faults h.faults (omega arith) is
  row_halts_after pages sector count first from inside homes c (Damaged e) is = row_before pages sector count first from inside homes e is

-- ---- What single calls keep.

-- a call that reads the map
pub keeps_read : {layout later : Layout} {id : ℕ} {a b : DiskState} {s t : Slots} {kept runs : List Run} → (id ≡ 3) ⊎ (16 ≤ id) → Beside FileMap a s layout b t later
    → ((bytes : List ℕ) → Reveals FileMap a s layout bytes → Reveals FileMap b t layout bytes) → ((r : Run) → IsOneOf r runs → IsGiven layout a s kept r) → KeepsMap (IsUnframed s id) layout id a s kept b t runs
keeps_read {layout = layout} {id = id} {s = s} {t = t} file beside stays runs_given =
    let brings : Brings (IsMapsHome layout) s t = brings_wider (IsMapsHome layout) (λ home own. (FileMap, own)) beside.brings in
    record {
      faults = beside.goes.makes.went.faults;
      brings = brings;
      unframed = λ none. unframed_then file brings none;
      revealed = λ none bytes reveals. stays bytes reveals;
      runs_given = λ none r one. runs_given r one;
    }

-- a label that is read
pub keeps_look : {layout : Layout} {id : ℕ} {a b : DiskState} {s t : Slots} {kept runs : List Run} → RevealsSame a b → Makes no_page [] a s b t → t ≡ s → runs ≡ kept → KeepsMap (IsUnframed s id) layout id a s kept b t runs
keeps_look {layout = layout} {id = id} {a = a} {b = b} {s = s} {kept = kept} {runs = runs} revealed read frames same =
    subst (λ (u : Slots). KeepsMap (IsUnframed s id) layout id a s kept b u runs) (sym frames) (subst (λ (r : List Run). KeepsMap (IsUnframed s id) layout id a s kept b s r) (sym same) (record {
      faults = read.went.faults;
      brings = brings_itself (IsMapsHome layout) s;
      unframed = λ none. none;
      revealed = λ none bytes reveals. record {
        memory = reveals.memory;
        stands = record { sectors = reveals.stands.sectors; revealed = revealed.contents ∙ reveals.stands.revealed; merged = reveals.stands.merged };
        shows = reveals.shows;
        size = read.went.sectors ∙ reveals.size;
      };
      runs_given = λ none r one. inl one;
    }))

-- a call that changes the allocation map
pub keeps_marks : {layout later : Layout} {id : ℕ} {a b : DiskState} {s t : Slots} (kept : List Run) → IsLayout layout → (id ≡ 3) ⊎ (16 ≤ id) → Beside AllocationMap a s layout b t later → KeepsMap (IsUnframed s id) layout id a s kept b t kept
keeps_marks {layout = layout} {id = id} {a = a} {b = b} {s = s} {t = t} kept is file beside =
    let brings : Brings (IsMapsHome layout) s t = brings_wider (IsMapsHome layout) (λ home own. (AllocationMap, own)) beside.brings in
    record {
      faults = beside.goes.makes.went.faults;
      brings = brings;
      unframed = λ none. unframed_then file brings none;
      revealed = λ none bytes reveals.
          let now = beside.goes.memory reveals.memory reveals.stands in
          record {
            memory = now.0;
            stands = now.1;
            shows = shows_still FileMap layout reveals.memory now.0 bytes (λ k x below here. now.2.pages (1 + layout.vam + k) x here (after_map AllocationMap layout (1 + layout.vam + k) x.0 (omega arith))) reveals.shows;
            size = beside.goes.makes.went.sectors ∙ reveals.size;
          };
      runs_given = λ none r one. inl one;
    }

-- Labels that were those of pages of the file, and are free. No frame was over them.
module _ {layout : Layout} {id : ℕ} {a b : DiskState} {s : Slots} (kept : List Run) (is : IsLayout layout) (sector count : ℕ) (page : ℕ → ℕ) (sectors : List ℕ)
    (above : layout.first ≤ sector) (has : (j k : ℕ) → slice_get sectors j ≡ Some k → (i : ℕ) × (i < count) × (k ≡ sector + i))
    (made : RelabelsRun sector count (freeing sectors) a s b)
    (were : (d : List Sector) → a.contents ≡ Some d → HaveOnes (λ k. ones_of (record { id = id; page = page k })) d sector count) where
  uncovered : IsUnframed s id → (m : List Sector) → Stands a s m → AreUncovered s sector count
  uncovered none m stands k below i f in_slot at =
      let disk = were stands.sectors stands.revealed k below in
      let one = other_sector m stands.sectors (sym stands.merged.labels) (sector + k) disk.0 disk.1 in
      let home = stands.merged.frames i f in_slot in
      let label : home.label ≡ one.0.0 = ap (λ (x : Sector). x.0) (same_Some {A = Sector} (home.label, f.bytes) one.0 (sym home.keeps ∙ ap (slice_get m) at ∙ one.1)) in
      let ids : f.home.id ≡ id = sym (names_id home.label (wanted_at f.home) home.named) ∙ ap (λ (l : Label). l.id) (label ∙ one.2) ∙ names_id disk.0.0 (record { id = id; page = page k }) disk.2 in
      none f.home.page (record { slot = i; frame = f; has = in_slot; same_id = ids; same_page = refl })

  pub keeps_labels : KeepsMap (IsUnframed s id) layout id a s kept b s kept
  keeps_labels = record {
    faults = made.makes.went.faults;
    brings = brings_itself (IsMapsHome layout) s;
    unframed = λ none. none;
    revealed = λ none bytes reveals.
        let now = (made.goes (uncovered none reveals.memory reveals.stands)).memory reveals.memory reveals.stands in
        record {
          memory = now.0;
          stands = now.1;
          shows = shows_still FileMap layout reveals.memory now.0 bytes (λ k x below here.
              ap (λ (l : List Sector). slice_get l (1 + layout.vam + k)) now.2
              ∙ freed_elsewhere sectors reveals.memory (1 + layout.vam + k) (λ j at. let r = has j (1 + layout.vam + k) at in let same = r.2 in let f = first_is layout is in omega (arith, f, below, same, above))
              ∙ here) reveals.shows;
          size = made.makes.went.sectors ∙ reveals.size;
        };
    runs_given = λ none r one. inl one;
  }
