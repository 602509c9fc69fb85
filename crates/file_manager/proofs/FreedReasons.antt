-- The freeing of a run keeps to an initial state, and what it reports as evidence has its reason.
use Rattle.std.proofs.Common.{◌≡◌, ◌⊎◌, inl, inr, ℕ, zero, suc, ◌+◌, ◌-◌, ◌<◌, ◌≤◌, Bool, true, false, List, [], ◌∷◌, Some, refl, sym, ◌∙◌, ap, subst, arith}
use Rattle.std.specs.Prelude.{slice_get, nat_le, nat_lt, ◌&&◌, if◌then◌else◌, IfSome}
use Rattle.std.proofs.lemmas.Bool.{and_parts, false≢true, leb-true, ltb-true}
use Rattle.std.proofs.lemmas.Option.{same_Some, none-some}
use Rattle.labelled_disk.specs.declared.disk.DiskWrite.{DiskWrite}
use Rattle.labelled_disk.specs.declared.disk.DiskWrite.TheVariants as write
use Rattle.labelled_disk.specs.declared.evidence.Evidence.TheVariants.{Mismatch, Malformed, Missing}
use Rattle.labelled_disk.specs.declared.evidence.Halt.{Halt}
use Rattle.labelled_disk.specs.declared.evidence.Halt.TheVariants.{Disk, Damaged}
use Rattle.labelled_disk.specs.declared.label.Label.{Label}
use Rattle.labelled_disk.specs.declared.layout.Layout.{Layout}
use Rattle.labelled_disk.specs.Runs.{freeing}
use Rattle.labelled_disk.specs.Sectors.{Sector, free_label}
use Rattle.labelled_disk.specs.State.{DiskState}
use Rattle.frame_pool.specs.declared.home.Home.{Home}
use Rattle.frame_pool.specs.Frames.{Frame, Slots, Has, IsWithin}
use Rattle.file_map.specs.declared.run.Run.{Run}
use Rattle.file_map.specs.FileMap.{Triples}
use Rattle.file_map.specs.Run.{IsRun}
use Rattle.swapper_kernel.specs.declared.manager.Manager.TheVariants.{AllocationMap, FileMap}
use Rattle.swapper_kernel.specs.DiffersLaws.{names_id, names_page, other_sector}
use Rattle.swapper_kernel.specs.Goes.{Makes, Pages}
use Rattle.swapper_kernel.specs.HaltLaws.{brings_wider}
use Rattle.swapper_kernel.specs.Halts.{HasCause, Halts}
use Rattle.swapper_kernel.specs.Homes.{Brings, IsLayout, home_at, wanted_at}
use Rattle.swapper_kernel.specs.Maps.{IsMapHome}
use Rattle.swapper_kernel.specs.Stands.{Stands}
use Rattle.swapper_kernel.specs.Window.{Beside}
use Rattle.label_calls.specs.Labels.{ones_of}
use Rattle.label_calls.specs.Runs.{AreUncovered, HaveOnes, RelabelsRun, IsOneNotOf}
use Rattle.filer_kernel.specs.declared.cached.CachedRuns.{CachedRuns}
use Rattle.filer_kernel.specs.Becomes.{Becomes}
use Rattle.filer_kernel.specs.Cached.{runs_of}
use Rattle.filer_kernel.specs.Marks.{Marks, BitsAre, marked}
use Rattle.filer_kernel.specs.PlaceLaws.{data_first, one_sector}
use Rattle.filer_kernel.specs.Triples.{MapIs, AreOf}
use Rattle.file_manager.specs.Freeing.{NamesAll}
use Rattle.file_manager.specs.Grounds.{IsMapsHome}
use Rattle.file_manager.specs.Reasons.{InitialState, IsReleased, AreReleased, KeepsTo, LeavesTables, ShowsReason, MayBeFree, AreTabled}
use Rattle.file_manager.specs.LaterLaws.{released_later, released_now, at_home_later, free_now}
use Rattle.file_manager.specs.WriteLaws.{GivesNot, RootsBelow, TakesNot, label_gives_not, label_no_root, no_roots, sector_of, takes_not}
use Rattle.file_manager.specs.KeepLaws.{keeps_after, over_left, unframed_still, beside_keeps}
use Rattle.file_manager.specs.TabledLaws.{revealed_beside, revealed_left}
use Rattle.file_manager.proofs.FreedTables.{freed_keeps}
use Rattle.file_manager.proofs.FreedRun.{shows_still, after_map}
use Rattle.file_manager.proofs.FreedSectors.{freed_elsewhere}
use Rattle.file_manager.proofs.ForgottenRun.{SamePrefix, map_stays, bits_stay}
use Rattle.std.proofs.lemmas.Bool.Decides.{nat_tests}
use Rattle.labelled_disk.specs.WriteRuns.{after_writes}
use Rattle.session_words.specs.Volume.{volume_page}
use Rattle.swapper_kernel.specs.GoesLaws.{makes_then, makes_wider}
use Rattle.file_manager.proofs.RunLeads.{append_none, map_makes}

-- ---- A search of the map.

pub found_keeps : {layout later : Layout} {a b : DiskState} {s t : Slots} (kept runs : CachedRuns) {o : InitialState} {named : Triples} → Beside FileMap a s layout b t later
    → ((m : List Sector) (named : Triples) → Stands a s m → MapIs layout named m → Stands b t m)
    → ((m : List Sector) (named : Triples) → Stands a s m → MapIs layout named m → AreOf named (runs_of layout.sectors kept) → AreOf named (runs_of layout.sectors runs))
    → KeepsTo o layout (runs_of layout.sectors kept) a s named → KeepsTo o later (runs_of later.sectors runs) b t named
found_keeps {layout = layout} {b = b} {t = t} kept runs {o = o} {named = named} beside same are h =
    subst (λ (l : Layout). KeepsTo o l (runs_of l.sectors runs) b t named) (sym beside.layout)
    (beside_keeps h FileMap beside (same h.memory named h.stands h.map) (runs_of layout.sectors runs) (are h.memory named h.stands h.map h.kept))

-- ---- Homes that are released.

-- none of these writes gives a sector to a page
pub frees_give_not : (sectors : List ℕ) (home : Home) → GivesNot (freeing sectors) home
frees_give_not [] home turn w at gives = none-some w at
frees_give_not (k ∷ ks) home zero w at (kind, is) = label_gives_not k free_label home (kind, same_Some (write.LabelOnly k free_label) w at ∙ is)
frees_give_not (k ∷ ks) home (suc turn) w at gives = frees_give_not ks home turn w at gives

-- and none has a root
frees_no_root : (next : ℕ) (sectors : List ℕ) → RootsBelow next (freeing sectors)
frees_no_root next [] root turn has = no_roots next root turn has
frees_no_root next (k ∷ ks) root zero has = label_no_root next k free_label root zero has
frees_no_root next (k ∷ ks) root (suc turn) has = frees_no_root next ks root turn has

-- those of a run's pages are those of some pages of its file
pub released_of_run : (o : InitialState) (disk : DiskState) (named : Triples) (run : Run) (id : ℕ) (own : ℕ → Type 0) → run.id ≡ id → ((p : ℕ) → own p → (run.first ≤ p) × (p < run.first + run.pages))
    → AreReleased o disk named run.id (λ p. (run.first ≤ p) × (p < run.first + run.pages)) → AreReleased o disk named id own
released_of_run o disk named run id own same within all page sector is named_so =
    subst (λ (i : ℕ). IsReleased o disk (record { sector = sector; id = i; page = page })) same (all page sector (within page is) (subst (λ (i : ℕ). named i page sector ≡ true) (sym same) named_so))

-- those of the pages up to one, and those after it
pub released_more : (o : InitialState) {d e : DiskState} {s t : Slots} {pages : Pages} (named : Triples) (sectors : List ℕ) (id : ℕ) (before now : ℕ → Type 0) → Makes pages (freeing sectors) d s e t
    → AreReleased o d named id before → AreReleased o e named id now → AreReleased o e named id (λ p. before p ⊎ now p)
released_more o named sectors id before now makes was is page sector own named_so = elim own [
  | inl earlier ↦ released_later o makes _ (frees_give_not sectors _) (was page sector earlier named_so)
  | inr later ↦ is page sector later named_so
]

-- ---- A run that is freed.

-- the write of a turn
freeing_at : (sectors : List ℕ) (j k : ℕ) → slice_get sectors j ≡ Some k → slice_get (freeing sectors) j ≡ Some (write.LabelOnly k free_label)
freeing_at [] j k at = absurd (none-some k at)
freeing_at (i ∷ is) zero k at = ap (λ (n : ℕ). Some (write.LabelOnly n free_label)) (same_Some i k at)
freeing_at (i ∷ is) (suc j) k at = freeing_at is j k at

-- and each write is that of a sector of them
freeing_back : (sectors : List ℕ) (j : ℕ) (w : DiskWrite) → slice_get (freeing sectors) j ≡ Some w → (k : ℕ) × (slice_get sectors j ≡ Some k) × (write.LabelOnly k free_label ≡ w)
freeing_back [] j w at = absurd (none-some w at)
freeing_back (i ∷ is) zero w at = (i, refl, same_Some (write.LabelOnly i free_label) w at)
freeing_back (i ∷ is) (suc j) w at = freeing_back is j w at

-- a sector that the bits say is used then was used
used_before : (first count : ℕ) (marks : Marks) (sector : ℕ) → marked false first count marks sector ≡ true → marks sector ≡ true
used_before first count marks sector is = either (nat_le first sector && nat_lt sector (first + count)) refl
  where
    either : (b : Bool) → (nat_le first sector && nat_lt sector (first + count)) ≡ b → marks sector ≡ true
    either true within = absurd (false≢true (sym (ap (λ (b : Bool). if b then false else marks sector) within) ∙ is))
    either false out = sym (ap (λ (b : Bool). if b then false else marks sector) out) ∙ is

-- one of the row is not
cleared : (first count : ℕ) (marks : Marks) (i sector : ℕ) → i < count → sector ≡ first + i → marked false first count marks sector ≡ false
cleared first count marks i sector below same = ap (λ (b : Bool). if b then false else marks sector) (inside first count i sector below same)
  where
    inside : (first n j k : ℕ) → j < n → k ≡ first + j → (nat_le first k && nat_lt k (first + n)) ≡ true
    inside first n j k below same = grind (arith, nat_tests)

-- the sector of a write of a label
sector_only : {sector other : ℕ} → write.LabelOnly sector free_label ≡ write.LabelOnly other free_label → sector ≡ other
sector_only same = ap sector_of same

-- the sector is one of a row, or the bits say of it what they said
one_of_row : (first count : ℕ) (marks : Marks) (sector : ℕ) → marked false first count marks sector ≡ false → ((i : ℕ) × (i < count) × (sector ≡ first + i)) ⊎ (marks sector ≡ false)
one_of_row first count marks sector is = either (nat_le first sector && nat_lt sector (first + count)) refl
  where
    either : (b : Bool) → (nat_le first sector && nat_lt sector (first + count)) ≡ b → ((i : ℕ) × (i < count) × (sector ≡ first + i)) ⊎ (marks sector ≡ false)
    either true within =
        let parts = and_parts (nat_le first sector) (nat_lt sector (first + count)) within in
        let from : first ≤ sector = leb-true first sector parts.0 in
        let below : sector < first + count = ltb-true sector (first + count) parts.1 in
        inl (sector - first, omega (arith, from, below), omega (arith, from))
    either false out = inr (sym (ap (λ (b : Bool). if b then false else marks sector) out) ∙ is)

module _ {o : InitialState} {layout : Layout} {runs : List Run} {b : DiskState} {t : Slots} {named : Triples} (h : KeepsTo o layout runs b t named) (is : IsLayout layout) (run : Run) (form : IsRun layout.sectors run) where
  on_data : layout.first ≤ run.sector
  on_data = let first = data_first layout is in let from = form.from_data in omega (arith, first, from)

  -- where it stops at a label, the map names the page there
  pub labels_reason : NamesAll named run → {pages : Pages} {writes : List DiskWrite} {c : DiskState} {u : Slots} → Makes pages writes b t c u → (halt : Halt)
      → HasCause (IsOneNotOf run.sector run.pages (λ k. record { id = run.id; page = run.first + k }) b) b c halt → ShowsReason o layout c halt
  labels_reason all makes Disk why = tt
  labels_reason all makes (Damaged (Mismatch place wanted found)) (k, below, (at, page, has, other)) =
      let there : named wanted.id wanted.page place ≡ true = (λ i. named (page i).id (page i).page (at i)) ∙ all k below in
      inr (inl (at_home_later o makes (home_at place wanted) (h.homes (home_at place wanted) there)))
  labels_reason all makes (Damaged (Malformed structure page)) (k, below, why) = absurd why
  labels_reason all makes (Damaged (Missing id page)) (k, below, why) = absurd why

  module _ (sectors : List ℕ) (has : (j k : ℕ) → slice_get sectors j ≡ Some k → (i : ℕ) × (i < run.pages) × (k ≡ run.sector + i)) (each : (i : ℕ) → i < run.pages → (j : ℕ) × (slice_get sectors j ≡ Some (run.sector + i)))
      {c : DiskState} (made : RelabelsRun run.sector run.pages (freeing sectors) b t c)
      (were : (d : List Sector) → b.contents ≡ Some d → HaveOnes (λ k. ones_of (record { id = run.id; page = run.first + k })) d run.sector run.pages)
      (gone : (i : ℕ) (f : Frame) → Has t i f → IsWithin run.id run.first run.pages f.home → ⊥) (never_blames : LeavesTables o run.id) where
    -- no frame is over the run's sectors: its page would be one of the run's
    uncovered : AreUncovered t run.sector run.pages
    uncovered k below i f in_slot at =
        let stands = h.stands in
        let disk = were stands.sectors stands.revealed k below in
        let one = other_sector h.memory stands.sectors (sym stands.merged.labels) (run.sector + k) disk.0 disk.1 in
        let home = stands.merged.frames i f in_slot in
        let label : home.label ≡ disk.0.0 = ap (λ (x : Sector). x.0) (same_Some {A = Sector} (home.label, f.bytes) one.0 (sym home.keeps ∙ ap (slice_get h.memory) at ∙ one.1)) ∙ one.2 in
        let ids : f.home.id ≡ run.id = sym (names_id home.label (wanted_at f.home) home.named) ∙ ap (λ (l : Label). l.id) label ∙ names_id disk.0.0 (record { id = run.id; page = run.first + k }) disk.2 in
        let pages : f.home.page ≡ run.first + k = sym (names_page home.label (wanted_at f.home) home.named) ∙ ap (λ (l : Label). l.page) label ∙ names_page disk.0.0 (record { id = run.id; page = run.first + k }) disk.2 in
        gone i f in_slot (ids, omega (arith, pages), omega (arith, pages, below))

    -- the memory with these labels
    mid : (n : List Sector) × Stands c t n × (n ≡ after_writes (freeing sectors) h.memory)
    mid = (made.goes uncovered).memory h.memory h.stands

    prefix_stays : SamePrefix layout h.memory mid.0
    prefix_stays k x low here =
        ap (λ (l : List Sector). slice_get l k) mid.2
        ∙ freed_elsewhere sectors h.memory k (λ j at. let r = has j k at in let same = r.2 in let above = on_data in omega (arith, low, same, above)) ∙ here

    map_mid : MapIs layout named mid.0
    map_mid = map_stays is prefix_stays h.map

    revealed_mid : IfSome o.tables (AreTabled layout named h.memory) → IfSome o.tables (AreTabled layout named mid.0)
    revealed_mid =
        revealed_left layout named named h.memory mid.0 o run.id is h.map never_blames (λ other. rw mid.2 (freed_keeps layout h.memory h.stands.sectors (sym h.stands.merged.labels) run.sector run.pages run.id (λ k. run.first + k) (were h.stands.sectors h.stands.revealed) sectors has other)) (λ other page sector own. own)

    -- no page got a sector of them
    none_taken : (sector : ℕ) → TakesNot (freeing sectors) sector
    none_taken sector = takes_not (freeing sectors) sector (λ id page. frees_give_not sectors (record { sector = sector; id = id; page = page }))

    -- so each home that the map has of its pages is released
    pub labels_released : NamesAll named run → AreReleased o c named run.id (λ p. (run.first ≤ p) × (p < run.first + run.pages))
    labels_released all page sector own named_so =
        let from = own.0 in
        let below = own.1 in
        let i = page - run.first in
        let inside : i < run.pages = omega (arith, from, below) in
        let of : run.first + i ≡ page = omega (arith, from) in
        let there : named run.id page (run.sector + i) ≡ true = subst (λ (p : ℕ). named run.id p (run.sector + i) ≡ true) of (all i inside) in
        let same : run.sector + i ≡ sector = one_sector layout named h.memory h.map run.id page (run.sector + i) sector there named_so in
        let turn = each i inside in
        let write_at : slice_get (freeing sectors) turn.0 ≡ Some (write.LabelOnly sector free_label) =
        subst (λ (n : ℕ). slice_get (freeing sectors) turn.0 ≡ Some (write.LabelOnly n free_label)) same (freeing_at sectors turn.0 (run.sector + i) turn.1) in
        let home : Home = record { sector = sector; id = run.id; page = page } in
        released_now o made.makes h.since home (frees_give_not sectors home) turn.0 write_at

    -- after accesses to the allocation map too
    pub marks_released : {d : DiskState} {u : Slots} {later : Layout} → Beside AllocationMap c t layout d u later → NamesAll named run → AreReleased o d named run.id (λ p. (run.first ≤ p) × (p < run.first + run.pages))
    marks_released beside all page sector own named_so =
        released_later o beside.goes.makes _ (λ turn w at gives. none-some w at) (labels_released all page sector own named_so)

    pub marks_keep : {d : DiskState} {u : Slots} {later : Layout} → Beside AllocationMap c t layout d u later
        → ((m : List Sector) (marks : Marks) → Stands c t m → BitsAre layout marks m → Becomes AllocationMap layout m (BitsAre layout (marked false run.sector run.pages marks)) d u)
        → KeepsTo o layout runs d u named
    marks_keep {d = d} {u = u} beside given =
        let both : Makes volume_page (freeing sectors) b t d u =
        subst (λ (ws : List DiskWrite). Makes volume_page ws b t d u) (append_none (freeing sectors)) (makes_then (makes_wider volume_page (λ id page none. absurd none) made.makes) (map_makes beside)) in
        let now = given mid.0 h.marks mid.1 (bits_stay is prefix_stays h.bits) in
        let maps : Brings (IsMapsHome layout) t u = brings_wider (IsMapsHome layout) (λ home own. (AllocationMap, own)) beside.brings in
        keeps_after h both now.memory now.stands named
        (record {
          bytes = map_mid.bytes;
          shows = shows_still FileMap layout mid.0 now.memory map_mid.bytes (λ j x below here. now.differs.pages (1 + layout.vam + j) x here (after_map AllocationMap layout (1 + layout.vam + j) x.0 (omega arith))) map_mid.shows;
          names = map_mid.names;
        })
        (λ home is. inl is) runs h.kept
        (λ home held. elim (maps.homes home held) [ inl before ↦ inl before | inr own ↦ inr (inl own) ])
        (unframed_still maps h.unframed) (over_left named named 0 h.over maps (λ zero. absurd (omega (arith, zero))) (λ other page sector is. is))
        (marked false run.sector run.pages h.marks) now.is
        (λ sector from below free. elim (one_of_row run.sector run.pages h.marks sector free) [
          | inl (i, inside, at) ↦
              let turn = each i inside in
              inr (subst (λ (n : ℕ). MayBeFree o d n) (sym at) (free_now o both h.since (run.sector + i) (none_taken (run.sector + i)) turn.0 (freeing_at sectors turn.0 (run.sector + i) turn.1)))
          | inr before ↦ inl (before, none_taken sector)
        ])
        (λ home from may was. inl was) (λ home from may. inr (frees_give_not sectors home))
        (λ sector from below used. inl (
          used_before run.sector run.pages h.marks sector used,
          λ turn w got up.
              let back = freeing_back sectors turn w got in
              let r = has turn back.0 back.1 in
              let same : back.0 ≡ sector = sector_only (back.2 ∙ up) in
              false≢true (sym (cleared run.sector run.pages h.marks r.0 sector r.1 (sym same ∙ r.2)) ∙ used),
        ))
        (frees_no_root o.next sectors) (λ home turn w at gives. absurd (frees_give_not sectors home turn w at gives))
        (λ revealed. revealed_beside layout named mid.0 now.memory o.tables AllocationMap is map_mid now.differs (revealed_mid revealed))

    -- where it stops at the allocation map
    pub marks_reason : {pages : Pages} {writes : List DiskWrite} {d : DiskState} {u : Slots} → Makes pages writes c t d u → (halt : Halt) → Halts (IsMapHome AllocationMap layout) c t d halt → ShowsReason o layout d halt
    marks_reason makes Disk why = tt
    marks_reason makes (Damaged (Mismatch sector wanted found)) why = elim why.reason [
      | inl held ↦ elim (h.frames (home_at sector wanted) held) [
        | inl own ↦ inl own
        | inr here ↦ inr (inl (at_home_later o makes (home_at sector wanted) (at_home_later o made.makes (home_at sector wanted) here)))
      ]
      | inr own ↦ inl (AllocationMap, own)
    ]
    marks_reason makes (Damaged (Malformed structure page)) why = absurd why
    marks_reason makes (Damaged (Missing id page)) why = absurd why
