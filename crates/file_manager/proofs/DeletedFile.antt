-- A file that was deleted: its pages were freed, and the file map cut.
use Rattle.std.proofs.Common.{◌≡◌, ◌⊎◌, inl, inr, ℕ, zero, suc, ◌+◌, ◌-◌, ◌*◌, ◌^◌, ◌<◌, ◌≤◌, Bool, true, false, not, ◌&&◌, List, [], ◌∷◌, ◌++◌, length, filter, Some, refl, sym, ◌∙◌, ap, subst, arith, ⊎_elim}
use Rattle.std.specs.Prelude.{slice_get, ◌==◌}
use Rattle.std.proofs.Math.Nat.{mul-le-mul_right}
use Rattle.std.proofs.lemmas.Option.{same_Some}
use Rattle.std.proofs.lemmas.Bool.{eq-eqb, eqb-true, le-leb, cases_lt}
use Rattle.std.proofs.lemmas.Bool.Decides.{nat_tests}
use Rattle.labelled_disk.specs.declared.disk.DiskWrite.{DiskWrite}
use Rattle.labelled_disk.specs.declared.label.Label.{Label}
use Rattle.labelled_disk.specs.declared.layout.Layout.{Layout}
use Rattle.labelled_disk.specs.Label.{names, is_file_id, leader_page}
use Rattle.labelled_disk.specs.Layout.{first_data}
use Rattle.labelled_disk.specs.FilesOn.{is_page, leads_file}
use Rattle.labelled_disk.specs.Runs.{freeing, IsAt, ArePagesUp}
use Rattle.labelled_disk.specs.Sectors.{Sector, AreSectors}
use Rattle.labelled_disk.specs.State.{DiskState}
use Rattle.frame_pool.specs.Frames.{Slots}
use Rattle.file_map.specs.declared.run.Run.{Run}
use Rattle.file_map.specs.FileMap.{Triples, IsSize, without_from}
use Rattle.flat_machine.specs.declared.space.Space.{Space}
use Rattle.swapper_kernel.specs.declared.manager.Manager.TheVariants.{FileMap}
use Rattle.swapper_kernel.specs.DiffersLaws.{label_here, sector_of_label, same_length, names_id}
use Rattle.swapper_kernel.specs.Goes.{Makes}
use Rattle.swapper_kernel.specs.GoesLaws.{makes_then}
use Rattle.swapper_kernel.specs.HaltLaws.{brings_then}
use Rattle.swapper_kernel.specs.Homes.{IsLayout}
use Rattle.swapper_kernel.specs.Stands.{Stands, labels_of}
use Rattle.swapper_kernel.specs.Window.{Beside}
use Rattle.filer_kernel.specs.declared.cached.CachedRuns.{CachedRuns}
use Rattle.filer_kernel.specs.Becomes.{Becomes}
use Rattle.filer_kernel.specs.Cached.{runs_of}
use Rattle.filer_kernel.specs.Triples.{MapIs, AreOf}
use Rattle.filer_kernel.proofs.LawLemmas.{are_of_fewer}
use Rattle.session_words.specs.DeleteLaws.{all_pages}
use Rattle.session_words.specs.FrameLaws.{is_shown}
use Rattle.session_words.specs.FreeLaws.{Frees, AreOfFiles}
use Rattle.session_words.specs.Parts.{Shape, Shapes, is_owned}
use Rattle.session_words.specs.Volume.{volume_page}
use Rattle.session_words.proofs.FoundLemmas.{owner, owned_by}
use Rattle.file_manager.specs.Book.{AreTrue, IsBooked, Books}
use Rattle.file_manager.specs.Deleting.{AreOfDeleted, DeletedBy, DeletesFirst}
use Rattle.file_manager.specs.Freeing.{AreNamedUp, FreesSectors, HasPageAt, MayFree, MayFreeAll, FreedAll, FreedFirst, MakesFree, MakesSomeFree}
use Rattle.file_manager.proofs.AllFreed.{up_at}
use Rattle.file_manager.proofs.BookLemmas.{known_after}
use Rattle.file_manager.proofs.FreedRun.{hidden_then, one_memory, map_makes, map_brings}
use Rattle.file_manager.proofs.FreesLemmas.{pages_are_gone, runs_are_true}
use Rattle.file_manager.proofs.MayBeFreed.{all_may_be_freed}
use Rattle.file_manager.proofs.RunStages.{there_is, first_is}

append_none : (xs : List DiskWrite) → xs ++ [] ≡ xs
append_none [] = refl
append_none (x ∷ xs) = ap (λ (l : List DiskWrite). x ∷ l) (append_none xs)

-- what the file map says of the file's size
module _ (layout : Layout) (runs : List Run) (shapes : Shapes) (x : List Sector) (booked : IsBooked layout runs shapes x) (id : ℕ) (high : 16 ≤ id) (f : Shape) (found : shapes id ≡ Some f) where
  -- a page of the file that is named is its leader, or one below its size
  pub page_of_file : (page sector : ℕ) → booked.named id page sector ≡ true → (page ≡ leader_page) ⊎ (page < f.size)
  page_of_file page sector named =
      let t = booked.triples.only id page sector named in
      let owned = (booked.labels.pages.only sector t.label t.there t.taken).is in
      let own : is_owned shapes id page ≡ true = (λ i. is_owned shapes (sym t.same_id i) (sym t.same_page i)) ∙ owned in
      let o = owner shapes id page (λ q. omega (arith, q, high)) own in
      let same : o.0 ≡ f = same_Some o.0 f (sym o.1 ∙ found) in
      subst (λ (g : Shape). (page ≡ leader_page) ⊎ (page < g.size)) same o.2

  -- and each of these is named
  pub named_page : (page : ℕ) → (page ≡ leader_page) ⊎ (page < f.size) → (sector : ℕ) × (booked.named id page sector ≡ true)
  named_page page which =
      let place = booked.labels.pages.all id page (owned_by 96 shapes id page f found which) in
      (place.place, booked.triples.all id page place.place (record { label = place.label; there = place.there; taken = place.taken; same_id = place.same_id; same_page = place.same_page }))

  pub size_is : (size : ℕ) → IsSize booked.named id size → size ≡ f.size
  size_is size is = elim (cases_lt size f.size) [
    | inl less ↦
        let n = named_page size (inr less) in
        let below = is.below in
        let short = booked.files.short id f found in
        let high = is.highest size n.0 n.1 (omega (arith, less, short)) in
        absurd (omega (arith, high))
    | inr least ↦ elim (cases_lt f.size size) [
      | inl more ↦
          let last : size - 1 + 1 ≡ size = omega (arith, more) in
          let n = is.reached (size - 1) last in
          let below = is.below in
          ⊎_elim (λ (q : size - 1 ≡ leader_page). absurd (omega (arith, q, below, more))) (λ (q : size - 1 < f.size). absurd (omega (arith, q, more))) (page_of_file (size - 1) n.0 n.1)
      | inr most ↦ omega (arith, least, most)
    ]
  ]

  -- a page stands in one sector
  pub one_place : (page a b : ℕ) → booked.named id page a ≡ true → booked.named id page b ≡ true → a ≡ b
  one_place page a b one two =
      let t = booked.triples.only id page a one in
      let u = booked.triples.only id page b two in
      booked.labels.pages.once a b t.label u.label t.there u.there t.taken (t.same_id ∙ sym u.same_id) (t.same_page ∙ sym u.same_page)

-- labels of a file
file_label : (l : Label) (id page : ℕ) → is_file_id id ≡ true → names l (record { id = id; page = page }) ≡ true → is_page id page (l, []) ≡ true
file_label l id page file named =
    let own : l.id ≡ id = names_id l (record { id = id; page = page }) named in
    let of_file : is_file_id l.id ≡ true = ap is_file_id own ∙ file in
    grind (arith, nat_tests)

lead_label : (l : Label) (id : ℕ) → is_file_id id ≡ true → names l (record { id = id; page = leader_page }) ≡ true → leads_file true id (l, []) ≡ true
lead_label l id file named =
    let own : l.id ≡ id = names_id l (record { id = id; page = leader_page }) named in
    let of_file : is_file_id l.id ≡ true = ap is_file_id own ∙ file in
    grind (arith, nat_tests)

cut_to : (c d : Bool) → (d && not (c && true)) ≡ (not c && d)
cut_to true true = refl
cut_to true false = refl
cut_to false true = refl
cut_to false false = refl

module _ (layout : Layout) (is : IsLayout layout) (kept : CachedRuns) (shapes : Shapes) (spaces : List Space) (x : List Sector) (d0 : DiskState) (s0 : Slots) (books : Books d0 s0 layout kept shapes spaces x)
    (id : ℕ) (high : 16 ≤ id) (f : Shape) (found : shapes id ≡ Some f) (hidden : (page : ℕ) → is_shown spaces id page ≡ false)
    (d1 : DiskState) (s1 : Slots) (l1 : Layout) (same_runs : CachedRuns) (as_kept : same_runs ≡ kept) (beside : Beside FileMap d0 s0 layout d1 s1 l1) (stands : Stands d1 s1 x) where
  -- the size was asked for: the memory is the same, so what might be freed may be so still
  may_later : (from end : ℕ) → MayFree d0 s0 layout kept books.booked.named spaces id from end x → MayFree d1 s1 layout same_runs books.booked.named spaces id from end x
  may_later from end may = record {
    stands = stands;
    long = may.long;
    map = may.map;
    kept = subst (λ (r : CachedRuns). AreOf books.booked.named (runs_of layout.sectors r)) (sym as_kept) may.kept;
    marks = may.marks;
    bits = may.bits;
    map_labels = may.map_labels;
    frames = known_after s0 s1 spaces (map_brings beside) may.frames;
    hidden = hidden_then spaces (inr high) beside may.hidden;
    mapped = may.mapped;
    labelled = may.labelled;
  }

  pub may_free : (size : ℕ) → IsSize books.booked.named id size → MayFreeAll d1 s1 layout same_runs books.booked.named spaces id size x
  may_free size asked =
      let all = all_may_be_freed d0 s0 layout kept shapes spaces x is books id (inl (high, hidden)) f found in
      subst (λ (n : ℕ). MayFreeAll d1 s1 layout same_runs books.booked.named spaces id n x) (sym (size_is layout (runs_of layout.sectors kept) shapes x books.booked id high f found size asked))
      (record { leader = may_later leader_page (leader_page + 1) all.leader; rest = may_later 0 f.size all.rest })

  -- What is freed are the leader and pages of the file.
  module _ (size : ℕ) (asked : IsSize books.booked.named id size) where
    as_asked : size ≡ f.size
    as_asked = size_is layout (runs_of layout.sectors kept) shapes x books.booked id high f found size asked

    -- on a disk with these labels, a sector that is named for a page has it
    page_at : (d : List Sector) → labels_of d ≡ labels_of x → (page k : ℕ) → HasPageAt layout x id page k → (s : Sector) × (first_data (length d) ≤ k) × (slice_get d k ≡ Some s) × (names s.0 (record { id = id; page = page }) ≡ true)
    page_at d labels page k at =
        let one = at.1 in
        let t = sector_of_label d k one.0.0 (ap (λ (l : List Label). slice_get l k) labels ∙ label_here x k one.0 one.1) in
        let first : first_data (length d) ≤ k = subst (λ (n : ℕ). n ≤ k) (first_is layout is (runs_of layout.sectors kept) shapes x books.booked ∙ ap first_data (sym (same_length x d labels))) at.0 in
        (t.0, first, t.1, ap (λ (l : Label). names l (record { id = id; page = page })) t.2 ∙ one.2)

    of_file : is_file_id id ≡ true
    of_file = books.booked.files.given id f found

    pages_up : (d : List Sector) → labels_of d ≡ labels_of x → (page : ℕ) (sectors : List ℕ) → AreNamedUp books.booked.named id page sectors → page + length sectors ≤ size → ArePagesUp d id page sectors
    pages_up d labels page [] up few = tt
    pages_up d labels page (i ∷ more) up few =
        let short = books.booked.files.short id f found in
        let size_as = as_asked in
        let a = page_at d labels page i ((may_free size asked).rest.labelled page i (omega arith) (omega (arith, few)) up.0) in (
          (λ (q : page ≡ leader_page). omega (arith, q, few, size_as, short)),
          record { s = a.0; there = record { is_data = a.1; here = a.2 }; passes = file_label a.0.0 id page of_file a.3 },
          pages_up d labels (page + 1) more up.1 (omega (arith, few)),
        )

    leads_at : (leader : ℕ) → books.booked.named id leader_page leader ≡ true → (d : List Sector) → labels_of d ≡ labels_of x → IsAt (leads_file true id) d leader
    leads_at leader leads d labels =
        let a = page_at d labels leader_page leader ((may_free size asked).leader.labelled leader_page leader (omega arith) (omega arith) leads) in
        record { s = a.0; there = record { is_data = a.1; here = a.2 }; passes = lead_label a.0.0 id of_file a.3 }

    -- the leader, and the first of the pages
    pub of_deleted : (leader : ℕ) (sectors : List ℕ) → books.booked.named id leader_page leader ≡ true → AreNamedUp books.booked.named id 0 sectors → length sectors ≤ size → AreOfDeleted id x leader sectors
    of_deleted leader sectors leads up few d labels = (leads_at leader leads d labels, pages_up d labels 0 sectors up (omega (arith, few)))

    pub deletes_first : {d2 : DiskState} {s2 : Slots} → FreedFirst books.booked.named id size d1 s1 d2 s2 → DeletesFirst id x d0 s0 d2 s2
    deletes_first (inl nothing) = inl (makes_then (map_makes beside) nothing)
    deletes_first (inr some) = inr (record {
      leader = some.leader;
      sectors = some.sectors;
      makes = makes_then (map_makes beside) some.makes;
      stops = of_deleted some.leader some.sectors some.leads some.up some.few;
    })

  -- Then all was freed, and the file map cut.
  module _ (size : ℕ) (asked : IsSize books.booked.named id size) (d2 : DiskState) (s2 : Slots) (runs : CachedRuns) (freed : FreedAll layout books.booked.named spaces id size d1 s1 d2 s2 runs) where
    named : Triples
    named = books.booked.named

    is_size : size ≡ f.size
    is_size = size_is layout (runs_of layout.sectors kept) shapes x books.booked id high f found size asked

    frees : FreesSectors layout (freed.leader ∷ freed.sectors) x freed.memory
    frees = let now = freed.goes.memory x stands in subst (FreesSectors layout (freed.leader ∷ freed.sectors) x) (one_memory d2 s2 now.0 freed.memory now.1 freed.rest.stands) now.2

    reserved : AreOfFiles (all_pages id)
    reserved i p own = let same = eqb-true i id own in inr (omega (arith, same, high))

    only : (j k : ℕ) → slice_get (freed.leader ∷ freed.sectors) j ≡ Some k → (i : ℕ) × (page : ℕ) × (all_pages id i page ≡ true) × (books.booked.named i page k ≡ true)
    only zero k at = (id, leader_page, eq-eqb id id refl, subst (λ (s : ℕ). books.booked.named id leader_page s ≡ true) (same_Some freed.leader k at) freed.leads)
    only (suc j) k at = (id, 0 + j, eq-eqb id id refl, (up_at books.booked.named id 0 freed.sectors freed.up j k at).1)

    all : (i page k : ℕ) → all_pages id i page ≡ true → books.booked.named i page k ≡ true → (j : ℕ) × (slice_get (freed.leader ∷ freed.sectors) j ≡ Some k)
    all i page k own is_named =
        let same : i ≡ id = eqb-true i id own in
        let here : books.booked.named id page k ≡ true = ap (λ (n : ℕ). books.booked.named n page k) (sym same) ∙ is_named in
        either page k here (page_of_file layout (runs_of layout.sectors kept) shapes x books.booked id high f found page k here)
      where
        either : (page k : ℕ) → books.booked.named id page k ≡ true → (page ≡ leader_page) ⊎ (page < f.size) → (j : ℕ) × (slice_get (freed.leader ∷ freed.sectors) j ≡ Some k)
        either page k here (inl lead) =
            let place : freed.leader ≡ k = one_place layout (runs_of layout.sectors kept) shapes x books.booked id high f found leader_page freed.leader k freed.leads
            (subst (λ (p : ℕ). books.booked.named id p k ≡ true) lead here) in
            (zero, ap (λ (n : ℕ). Some n) place)
        either page k here (inr below) =
            let long = freed.long in
            let size_as = is_size in
            let s = there_is freed.sectors page (omega (arith, below, long, size_as)) in
            let up = up_at books.booked.named id 0 freed.sectors freed.up page s.0 s.1 in
            let z : 0 + page ≡ page = omega arith in
            let place : s.0 ≡ k = one_place layout (runs_of layout.sectors kept) shapes x books.booked id high f found page s.0 k (subst (λ (p : ℕ). books.booked.named id p s.0 ≡ true) z up.1) here in
            (suc page, s.1 ∙ ap (λ (n : ℕ). Some n) place)

    -- a stop at the file map
    pub deletes_all : {d3 : DiskState} {s3 : Slots} {l3 : Layout} → Beside FileMap d2 s2 layout d3 s3 l3 → DeletesFirst id x d0 s0 d3 s3
    deletes_all {d3 = d3} {s3 = s3} beside_then = inr (record {
      leader = freed.leader;
      sectors = freed.sectors;
      makes = subst (λ (ws : List DiskWrite). Makes volume_page ws d0 s0 d3 s3) (append_none (freeing (freed.leader ∷ freed.sectors))) (makes_then (map_makes beside) (makes_then freed.goes.makes (map_makes beside_then)));
      stops = of_deleted size asked freed.leader freed.sectors freed.leads freed.up (let long = freed.long in omega (arith, long));
    })

    module _ (d3 : DiskState) (s3 : Slots) (l3 : Layout) (last : CachedRuns) (beside_then : Beside FileMap d2 s2 layout d3 s3 l3)
        (cut : Becomes FileMap layout freed.memory (MapIs layout (without_from books.booked.named id 0)) d3 s3)
        (forgotten : runs_of layout.sectors last ≡ filter (λ r. not (r.id == id)) (runs_of layout.sectors runs)) (in_form : (y : List Sector) → Stands d3 s3 y → AreSectors y) where
      names_less : (i p s : ℕ) → without_from books.booked.named id 0 i p s ≡ (not (all_pages id i p) && books.booked.named i p s)
      names_less i p s = ap (λ (b : Bool). books.booked.named i p s && not ((i == id) && b)) (le-leb 0 p (omega arith)) ∙ cut_to (i == id) (books.booked.named i p s)

      gone : Frees (all_pages id) x cut.memory
      gone = pages_are_gone layout is (runs_of layout.sectors kept) shapes x books.booked (all_pages id) reserved (freed.leader ∷ freed.sectors) only all freed.memory cut.memory frees cut.differs
          (without_from books.booked.named id 0) cut.is names_less (in_form cut.memory cut.stands)

      true_now : AreTrue (labels_of cut.memory) (runs_of layout.sectors last)
      true_now = runs_are_true layout is (runs_of layout.sectors kept) shapes x books.booked (all_pages id) reserved (freed.leader ∷ freed.sectors) only all freed.memory cut.memory frees cut.differs
          (without_from books.booked.named id 0) cut.is names_less (in_form cut.memory cut.stands) (runs_of layout.sectors last)
          (subst (AreOf (without_from books.booked.named id 0)) (sym forgotten) (are_of_fewer books.booked.named (runs_of layout.sectors runs) id 0 freed.rest.kept))

      pub deleted_by : DeletedBy id f.size x d0 s0 layout d3 s3 last
      deleted_by = record {
        leader = freed.leader;
        sectors = freed.sectors;
        long = freed.long ∙ is_size;
        leads = record {
          goes = record {
            makes = subst (λ (ws : List DiskWrite). Makes volume_page ws d0 s0 d3 s3) (append_none (freeing (freed.leader ∷ freed.sectors)))
                (makes_then (map_makes beside) (makes_then freed.goes.makes (map_makes beside_then)));
            memory = λ m stood. (cut.memory, cut.stands, subst (λ (z : List Sector). Frees (all_pages id) z cut.memory) (one_memory d0 s0 x m books.stands stood) gone);
          };
          brings = brings_then (map_brings beside) (brings_then freed.brings (map_brings beside_then));
          true_runs = λ m stood. subst (λ (z : List Sector). AreTrue (labels_of z) (runs_of layout.sectors last)) (one_memory d3 s3 cut.memory m cut.stands stood) true_now;
        };
        stops = of_deleted size asked freed.leader freed.sectors freed.leads freed.up (let long = freed.long in omega (arith, long));
      }

-- over any contents: the size is asked for, all is freed, and the file map cut
pub delete_makes : {layout l1 l3 : Layout} (pages : ℕ) {a b c d : DiskState} {s t u v : Slots} → Beside FileMap a s layout b t l1 → MakesFree (1 + pages) b t c u → Beside FileMap c u layout d v l3 → MakesFree (pages + 1) a s d v
delete_makes pages {a = a} {d = d} {s = s} {v = v} first freed last = record {
  sectors = freed.sectors;
  long = let long = freed.long in omega (arith, long);
  makes = subst (λ (ws : List DiskWrite). Makes volume_page ws a s d v) (append_none (freeing freed.sectors)) (makes_then (map_makes first) (makes_then freed.makes (map_makes last)));
}

pub delete_stops : {layout l1 l3 : Layout} (pages : ℕ) {a b c d : DiskState} {s t u v : Slots} → Beside FileMap a s layout b t l1 → MakesFree (1 + pages) b t c u → Beside FileMap c u layout d v l3 → MakesSomeFree a s d v
delete_stops pages first freed last = let all = delete_makes pages first freed last in record { sectors = all.sectors; makes = all.makes }

pub free_stops : {layout l1 : Layout} {a b c : DiskState} {s t u : Slots} → Beside FileMap a s layout b t l1 → MakesSomeFree b t c u → MakesSomeFree a s c u
free_stops first some = record { sectors = some.sectors; makes = makes_then (map_makes first) some.makes }

-- what all of it costs
pub revealed_cost : (t0 t1 t2 t3 size pages w r : ℕ) → pages ≡ size → t1 ≤ t0 + 14 → t2 ≤ t1 + (1 + pages) * w → t3 ≤ t2 + r → t3 ≤ t0 + (14 + (1 + size) * w + r)
revealed_cost t0 t1 t2 t3 size pages w r same one two three =
    let two_revealed : t2 ≤ t1 + (1 + size) * w = subst (λ (n : ℕ). t2 ≤ t1 + (1 + n) * w) same two in
    omega (arith, one, two_revealed, three)

-- with a cut by the file's size
pub sized_cost : (t0 t1 t2 t3 size pages w : ℕ) → pages ≡ size → t1 ≤ t0 + 14 → t2 ≤ t1 + (1 + pages) * w → t3 ≤ t2 + 2 * (1 + 51 * (pages + 2)) → t3 ≤ t0 + (14 + (1 + size) * w + 2 * (1 + 51 * (size + 2)))
sized_cost t0 t1 t2 t3 size pages w same one two three = revealed_cost t0 t1 t2 t3 size pages w (2 * (1 + 51 * (size + 2))) same one two (omega (arith, same, three))

pub most_cost : (t0 t1 t2 t3 pages w r : ℕ) → pages < 2 ^ 32 → t1 ≤ t0 + 14 → t2 ≤ t1 + (1 + pages) * w → t3 ≤ t2 + r → t3 ≤ t0 + (14 + 2 ^ 32 * w + r)
most_cost t0 t1 t2 t3 pages w r fits one two three =
    let most : (1 + pages) * w ≤ 2 ^ 32 * w = mul-le-mul_right w (omega (arith, fits)) in
    omega (arith, one, two, three, most)
