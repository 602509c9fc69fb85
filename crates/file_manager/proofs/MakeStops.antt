-- Why calls that make pages stop the session, after others.
use Rattle.std.proofs.Common.{◌≡◌, inl, inr, ◌⊎◌, ℕ, zero, suc, ◌+◌, ◌<◌, ◌≤◌, false, List, [], ◌∷◌, ◌++◌, length, Some, refl, sym, ◌∙◌, ap, subst, arith}
use Rattle.std.specs.Prelude.{slice_get}
use Rattle.std.proofs.lemmas.Bool.{true≢false}
use Rattle.std.proofs.lemmas.List.{append_assoc}
use Rattle.std.proofs.lemmas.List.FromFn.{length-range_with_len}
use Rattle.labelled_disk.specs.declared.disk.DiskWrite.{DiskWrite}
use Rattle.labelled_disk.specs.declared.disk.DiskWrite.TheVariants.{Whole}
use Rattle.labelled_disk.specs.declared.evidence.Evidence.{Evidence}
use Rattle.labelled_disk.specs.declared.evidence.Evidence.TheVariants.{Mismatch, Malformed, Missing}
use Rattle.labelled_disk.specs.declared.structure.Structure.{Structure}
use Rattle.labelled_disk.specs.declared.evidence.Halt.{Halt}
use Rattle.labelled_disk.specs.declared.evidence.Halt.TheVariants.{Disk, Damaged}
use Rattle.labelled_disk.specs.declared.layout.Layout.{Layout}
use Rattle.labelled_disk.specs.Runs.{growth, zero_bytes}
use Rattle.labelled_disk.specs.Label.{page_label}
use Rattle.labelled_disk.specs.Sectors.{Sector}
use Rattle.labelled_disk.specs.State.{DiskState}
use Rattle.frame_pool.specs.declared.home.Home.{Home}
use Rattle.frame_pool.specs.Frames.{Slots}
use Rattle.file_map.specs.declared.run.Run.{Run}
use Rattle.file_map.specs.FileMap.{Triples, IsNew}
use Rattle.file_map.specs.Entries.{Sight, Stops}
use Rattle.swapper_kernel.specs.declared.manager.Manager.TheVariants.{AllocationMap, FileMap}
use Rattle.swapper_kernel.specs.Goes.{Makes, this_page}
use Rattle.swapper_kernel.specs.GoesLaws.{makes_nothing, makes_then}
use Rattle.swapper_kernel.specs.HaltLaws.{rose_wider}
use Rattle.swapper_kernel.specs.Halts.{HasCause, Halts, held_or}
use Rattle.swapper_kernel.specs.Homes.{Brings, home_at}
use Rattle.swapper_kernel.specs.Maps.{IsMapHome}
use Rattle.swapper_kernel.specs.Stands.{Stands}
use Rattle.swapper_kernel.specs.Window.{Reveals, Beside}
use Rattle.label_calls.specs.Runs.{IsOneTaken}
use Rattle.filer_kernel.specs.Causes.{MapShows, AddEvidence, AddHalts, IsFaultOrMost}
use Rattle.filer_kernel.specs.Marks.{Marks, BitsAre, AreAll}
use Rattle.filer_kernel.specs.Triples.{MapIs}
use Rattle.session_words.specs.Volume.{volume_page}
use Rattle.file_manager.specs.Grounds.{IsMapsHome, IsUnframed, MakesFor, IsBrokenOrFull, LabelsOne, LabelsRun, EndsAt, HadAdded, IsFilled, StopsInForm, StopsAddition, WasClear, IsToBeFree, TakeEvidence, TakeHalts, MakeEvidence, MakeHalts}
use Rattle.file_manager.specs.Making.{sectors_of}
use Rattle.file_manager.specs.Taking.{TakesSectors, AddsPages, NamesNoneOf, every_page, no_page_of}
use Rattle.file_manager.proofs.ClearedRun.{volume_makes}
use Rattle.file_manager.proofs.Keeping.{broken_shown}
use Rattle.file_manager.proofs.MadeRun.{IsLabelledFor, made_none, unframed_still, new_run}
use Rattle.file_manager.proofs.RoomStops.{room_before}
use Rattle.file_manager.proofs.TakingLemmas.{not_taken, taken_then, taken_before, labels_then, labels_none, adds_none, adds_then, none_later}

-- with the layout that there was
pub beside_here : {layout later : Layout} {a b : DiskState} {s t : Slots} → Beside FileMap a s layout b t later → Beside FileMap a s layout b t layout
beside_here {layout = layout} {a = a} {b = b} {s = s} {t = t} beside = subst (λ (l : Layout). Beside FileMap a s layout b t l) beside.layout beside

-- labels that were written, with the frames as they were
pub labels_there : {run : List DiskWrite} {a b : DiskState} {s t : Slots} → t ≡ s → Makes (this_page 0 0) run a s b s → Makes volume_page run a s b t
labels_there {run = run} {a = a} {b = b} {s = s} same made = subst (λ (u : Slots). Makes volume_page run a s b u) (sym same) (volume_makes made)

-- ---- Labels among writes.

pub growth_labels_one : (id kind page : ℕ) (is : List ℕ) → 1 ≤ length is → LabelsOne id (growth id kind page is)
growth_labels_one id kind page [] some = absurd (omega (arith, some))
growth_labels_one id kind page (i ∷ is) some = (zero, i, kind, page, refl)

get_after : (xs ys : List DiskWrite) (k : ℕ) (w : DiskWrite) → slice_get ys k ≡ Some w → (j : ℕ) × (slice_get (xs ++ ys) j ≡ Some w)
get_after [] ys k w at = (k, at)
get_after (x ∷ xs) ys k w at = let rest = get_after xs ys k w at in (suc rest.0, rest.1)

pub labels_after : (id : ℕ) (xs ys : List DiskWrite) → LabelsOne id ys → LabelsOne id (xs ++ ys)
labels_after id xs ys (k, sector, kind, page, at) = let there = get_after xs ys k (Whole sector (page_label id kind page) zero_bytes) at in (there.0, sector, kind, page, there.1)

-- ---- The bytes of the file map.

module _ (layout : Layout) {a b : DiskState} {s t : Slots} (revealed : (bytes : List ℕ) → Reveals FileMap a s layout bytes → Reveals FileMap b t layout bytes) where
  pub shown_before : (sight : Sight) → MapShows layout b t sight → MapShows layout a s sight
  shown_before sight shows bytes reveals = shows bytes (revealed bytes reveals)

  pub broken_before : (page : ℕ) → IsBrokenOrFull layout page b t → IsBrokenOrFull layout page a s
  broken_before page (inl (inl broken)) = inl (inl (broken_shown (MapShows layout b t) (MapShows layout a s) shown_before layout.sectors page broken))
  broken_before page (inl (inr stops)) = inl (inr (shown_before (Stops page) stops))
  broken_before page (inr (first, most)) = inr (first, λ count counts. most count (counts.0, revealed counts.0 counts.1, counts.2))

-- ---- After other calls: labels and bits.

module _ {layout : Layout} {id : ℕ} {a b : DiskState} {s t : Slots} (come : Brings (IsMapsHome layout) s t)
    (since : IsUnframed s 0 → (m : List Sector) → Stands a s m → (n : List Sector) × Stands b t n × TakesSectors layout id m n) where
  clear_before : (sector : ℕ) → layout.first ≤ sector → WasClear layout b t sector → WasClear layout a s sector
  clear_before sector from clear none m marks stands bits =
      let now = since none m stands in
      let later = now.2.bits marks bits in
      let free = clear (unframed_still come none) now.0 later.0 now.1 later.1 in
      elim (later.2 sector from) [ inl same ↦ sym same ∙ free | inr (used, taken) ↦ absurd (true≢false (sym used ∙ free)) ]

  pub label_home_before : (home : Home) → held_or t (λ home. IsMapsHome layout home ⊎ IsToBeFree layout b t home) home → held_or s (λ home. IsMapsHome layout home ⊎ IsToBeFree layout a s home) home
  label_home_before home (inl held) = elim (come.homes home held) [ inl was ↦ inl was | inr own ↦ inr (inl own) ]
  label_home_before home (inr (inl own)) = inr (inl own)
  label_home_before home (inr (inr free)) = inr (inr (record { free = free.free; from = free.from; below = free.below; was = clear_before home.sector free.from free.was }))

-- ---- And the file map.

filled_before : (layout : Layout) (id : ℕ) (p : ℕ → Type 0) (named later : Triples) (c : DiskState) (u : Slots) → AddsPages id p named later → IsFilled layout id later c u → IsFilled layout id named c u
filled_before layout id p named later c u first h = record {
  disk = h.disk;
  slots = h.slots;
  memory = h.memory;
  stands = h.stands;
  later = h.later;
  map = h.map;
  adds = adds_then id p every_page every_page named later h.later (λ page own. tt) (λ page own. own) first h.adds;
  full = h.full;
  until = h.until;
}

-- What a call that was made before had revealed of the pages of the next one: where none of these pages was named, none of its own
-- was, nor is one of the next.
pub record LeavesUnnamed (layout : Layout) (id : ℕ) (p q r : ℕ → Type 0) (a : DiskState) (s : Slots) : Type 0 where
  pub own : (m : List Sector) (named : Triples) → Stands a s m → MapIs layout named m → NamesNoneOf id r named → NamesNoneOf id p named
  pub next : (m : List Sector) (named later : Triples) → Stands a s m → MapIs layout named m → NamesNoneOf id r named → AddsPages id p named later → NamesNoneOf id q later

pub leaves_apart : (layout : Layout) (id : ℕ) (p q r : ℕ → Type 0) (a : DiskState) (s : Slots) → ((page : ℕ) → p page → r page) → ((page : ℕ) → q page → r page) → ((page : ℕ) → q page → p page → ⊥) → LeavesUnnamed layout id p q r a s
leaves_apart layout id p q r a s of_p of_q apart = record {
  own = λ m named stands map none page sector own. none page sector (of_p page own);
  next = λ m named later stands map none adds. none_later id p q named later adds (λ page sector own. none page sector (of_q page own)) apart;
}

module _ {layout : Layout} {id : ℕ} (p q r : ℕ → Type 0) {run : List DiskWrite} {a b : DiskState} {s t : Slots} (makes : Makes volume_page run a s b t) (since : MakesFor layout id p a s b t) (leaves : LeavesUnnamed layout id p q r a s)
    (before wanted : ℕ → Type 0) (of : (page : ℕ) → before page → wanted page) (apart : (page : ℕ) → before page → p page → ⊥)
    (begun : (IsUnframed s 0 → (bytes : List ℕ) → Reveals FileMap a s layout bytes → Reveals FileMap b t layout bytes) ⊎ LabelsRun layout id a s b t) (c : DiskState) (u : Slots) where
  form_before : (page : ℕ) → StopsInForm layout id q page b t c u → StopsInForm layout id r page a s c u
  form_before page stops none m named stands map nothing =
      let now = since.memory none m stands in
      let names = now.2.names named map (leaves.own m named stands map nothing) in
      let e = stops (unframed_still since.brings none) now.0 names.0 now.1 names.1 (leaves.next m named names.0 stands map nothing names.2) in
      (e.0, filled_before layout id p named names.0 c u names.2 e.1)

  ended_before : {d : DiskState} {v : Slots} (sector : ℕ) → layout.first ≤ sector → (IsUnframed t 0 → (n : List Sector) (marks : Marks) → Stands b t n → BitsAre layout marks n → EndsAt layout id n marks d v sector)
      → IsUnframed s 0 → (m : List Sector) (marks : Marks) → Stands a s m → BitsAre layout marks m → EndsAt layout id m marks d v sector
  ended_before sector from ended none m marks stands bits =
      let now = since.memory none m stands in
      let later = now.2.taken.bits marks bits in
      let e = ended (unframed_still since.brings none) now.0 later.0 now.1 later.1 in
      record {
        memory = e.memory;
        stands = e.stands;
        labels = labels_then now.2.taken.labels e.labels;
        ends = elim e.ends [
          | inl past ↦ inl past
          | inr (inr taken) ↦ inr (inr (taken_before sector from now.2.taken.labels taken))
          | inr (inl used) ↦ elim (later.2 sector from) [
            | inl same ↦ inr (inl (sym same ∙ used))
            | inr (_, taken) ↦ inr (inr (taken_then sector from taken e.labels))
          ]
        ];
      }

  run_before : {d : DiskState} {v : Slots} → LabelsRun layout id b t d v → LabelsRun layout id a s d v
  run_before {d = d} {v = v} h = record {
    prefix = run ++ h.prefix;
    kind = h.kind;
    run = h.run;
    some = h.some;
    from = h.from;
    makes = subst (λ (ws : List DiskWrite). Makes volume_page ws a s d v) (sym (append_assoc run h.prefix (growth id h.kind h.run.first (sectors_of h.run)))) (makes_then makes h.makes);
    ended = elim h.ended [ inl leader ↦ inl leader | inr ended ↦ inr (ended_before (h.run.sector + h.run.pages) (let from = h.from in omega (arith, from)) ended) ];
  }

  had_before : HadAdded layout id b t c u → HadAdded layout id a s c u
  had_before had = record {
    disk = had.disk;
    slots = had.slots;
    added = run_before had.added;
    more = had.more;
    until = had.until;
    labelled = had.labelled;
  }

  stops_before : (page : ℕ) → StopsAddition layout id q page b t c u → StopsAddition layout id r page a s c u
  stops_before page h = record {
    run = run ++ h.run;
    makes = makes_then makes h.makes;
    labelled = labels_after id run h.run h.labelled;
    in_form = form_before page h.in_form;
    bytes = elim begun [
      | inl revealed ↦ elim h.bytes [ inl at ↦ inl (λ none. broken_before layout (revealed none) page (at (unframed_still since.brings none))) | inr had ↦ inr (had_before had) ]
      | inr one ↦ inr (record { disk = b; slots = t; added = one; more = h.run; until = h.makes; labelled = h.labelled })
    ];
  }

  evidence_before : (e : Evidence) → MakeEvidence layout id q before b t c u e → MakeEvidence layout id r wanted a s c u e
  evidence_before (Mismatch sector label found) is = label_home_before since.brings (λ none m stands. let now = since.memory none m stands in (now.0, now.1, now.2.taken)) (home_at sector label) is
  evidence_before (Malformed structure page) is = (is.0, stops_before page is.1)
  evidence_before (Missing missing page) is = (is.0, is.1, room_before p before wanted of apart since.brings (λ none m stands. let now = since.memory none m stands in (now.0, now.1, (now.2.taken, now.2.of))) c u is.2)

  pub make_halts_before : (halt : Halt) → MakeHalts layout id q before b t c u halt → MakeHalts layout id r wanted a s c u halt
  make_halts_before Disk is = rose_wider a.faults b.faults c.faults c.faults makes.went.faults (omega arith) is
  make_halts_before (Damaged e) is = evidence_before e is

-- where more pages are said not to be named, and more are wanted
pub make_halts_wider : (layout : Layout) (id : ℕ) (q r before wanted : ℕ → Type 0) → ((page : ℕ) → q page → r page) → ((page : ℕ) → before page → wanted page) → (a c : DiskState) (s u : Slots) (halt : Halt) → MakeHalts layout id q before a s c u halt → MakeHalts layout id r wanted a s c u halt
make_halts_wider layout id q r before wanted of_q of a c s u halt is =
    make_halts_before no_page_of q r (makes_nothing volume_page a s) (made_none layout id no_page_of a s) (leaves_apart layout id no_page_of q r a s (λ page not. absurd not) of_q (λ page own not. not)) before wanted of (λ page own not. not) (inl (λ none bytes reveals. reveals)) c u halt is

-- ---- Of single calls.

-- a label of the allocation map, or no room
pub taken_halt : (layout : Layout) (a b : DiskState) (s t : Slots) (halt : Halt) → Halts (IsMapHome AllocationMap layout) a s b halt → TakeHalts layout a s b t halt
taken_halt layout a b s t Disk is = is
taken_halt layout a b s t (Damaged (Mismatch sector wanted found)) is = is
taken_halt layout a b s t (Damaged (Malformed structure page)) is = is
taken_halt layout a b s t (Damaged (Missing id page)) is = absurd is

-- sectors are taken
module _ (layout : Layout) (id : ℕ) (pages wanted : ℕ → Type 0) (page : ℕ) (own : wanted page) (a b : DiskState) (s t : Slots) where
  take_evidence : (e : Evidence) → TakeEvidence layout a s b t e → MakeEvidence layout id pages wanted a s b t e
  take_evidence (Mismatch sector label found) is = elim is.reason [ inl held ↦ inl held | inr own ↦ inr (inl (AllocationMap, own)) ]
  take_evidence (Malformed structure broken) is = absurd is
  take_evidence (Missing missing lacked) is = (
    is.0,
    is.1,
    λ none m marks stands bits.
        let full = is.2 m marks stands bits in
        record {
          memory = m;
          stands = full.1;
          labels = labels_none layout id m;
          all = λ sector from below free. absurd (true≢false (sym (full.0 sector from below) ∙ free));
          missing_page = λ other. (page, own, λ sector from taken has. not_taken id m m sector other taken (λ x here. (x, here, refl)));
        },
  )

  pub take_halts : (halt : Halt) → TakeHalts layout a s b t halt → MakeHalts layout id pages wanted a s b t halt
  take_halts Disk is = is
  take_halts (Damaged e) is = take_evidence e is

-- sectors are taken, and labels written
module _ {layout later : Layout} {a b : DiskState} {s t : Slots} (taken : Beside AllocationMap a s layout b t later) (sector count : ℕ) (from : layout.first ≤ sector) (inside : sector + count ≤ layout.sectors)
    (lowest : (m : List Sector) (marks : Marks) → Stands a s m → BitsAre layout marks m → AreAll false marks sector (sector + count)) (id : ℕ) (pages wanted : ℕ → Type 0) (c : DiskState) (u : Slots) where
  taken_label : (e : Evidence) → IsOneTaken sector count b e → MakeEvidence layout id pages wanted a s c u e
  taken_label (Mismatch place label found) (k, below, (at, nobody, has, other)) = inr (inr (record {
    free = ap (home_at place) nobody;
    from = omega (arith, from, at);
    below = omega (arith, inside, below, at);
    was = λ none m marks stands bits. lowest m marks stands bits place (omega (arith, at)) (omega (arith, at, below));
  }))
  taken_label (Malformed structure page) (k, below, is) = absurd is
  taken_label (Missing missing page) (k, below, is) = absurd is

  pub label_halts : (halt : Halt) → HasCause (IsOneTaken sector count b) b c halt → MakeHalts layout id pages wanted a s c u halt
  label_halts Disk is = rose_wider a.faults b.faults c.faults c.faults taken.goes.makes.went.faults (omega arith) is
  label_halts (Damaged e) is = taken_label e is

-- the page of a map that is blamed
abbrev pub page_in : Halt → ℕ
page_in Disk = 0
page_in (Damaged (Mismatch sector wanted found)) = 0
page_in (Damaged (Malformed structure page)) = page
page_in (Damaged (Missing missing page)) = 0

-- A run is added to the map, after its labels.
module _ {layout later : Layout} (run : Run) (kind : ℕ) (pages wanted : ℕ → Type 0) (some : 1 ≤ run.pages) (few : (page : ℕ) → (run.first ≤ page) × (page < run.first + run.pages) → pages page) {a b c : DiskState} {s t u : Slots}
    (come : Brings (IsMapsHome layout) s t) (labels : Makes volume_page (growth run.id kind run.first (sectors_of run)) a s b t) (makes : Makes volume_page (growth run.id kind run.first (sectors_of run)) a s c u)
    (labelled : IsUnframed s 0 → (m : List Sector) → Stands a s m → (n : List Sector) × Stands b t n × IsLabelledFor layout run.id m n)
    (revealed : IsUnframed s 0 → (bytes : List ℕ) → Reveals FileMap a s layout bytes → Reveals FileMap b t layout bytes) (beside : Beside FileMap b t layout c u later) where
  filled : (structure : Structure) (page : ℕ) → ((n : List Sector) (named : Triples) → Stands b t n → MapIs layout named n → IsNew named run → IsFaultOrMost layout b t (Damaged (Malformed structure page))) → StopsInForm layout run.id pages page a s c u
  filled structure page right none m named stands map nothing =
      let now = labelled none m stands in
      let map_now : MapIs layout named now.0 = record { bytes = map.bytes; shows = now.2.map map.bytes map.shows; names = map.names } in
      elim (right now.0 named now.1 map_now (new_run run named (λ p sector own. nothing p sector (few p own)))) [
        | inl not ↦ absurd not
        | inr (same, counts) ↦ (
          ap page_in same,
          record {
            disk = b;
            slots = t;
            memory = now.0;
            stands = now.1;
            later = named;
            map = map_now;
            adds = adds_none run.id every_page named;
            full = counts;
            until = beside_here beside;
          },
        )
      ]

  added_evidence : (e : Evidence) → AddEvidence layout b t e → ((n : List Sector) (named : Triples) → Stands b t n → MapIs layout named n → IsNew named run → IsFaultOrMost layout b t (Damaged e)) → MakeEvidence layout run.id pages wanted a s c u e
  added_evidence (Mismatch sector label found) is right = elim is.reason [
    | inl held ↦ elim (come.homes (home_at sector label) held) [ inl was ↦ inl was | inr own ↦ inr (inl own) ]
    | inr own ↦ inr (inl (FileMap, own))
  ]
  added_evidence (Malformed structure page) is right = (
    is.0,
    record {
      run = growth run.id kind run.first (sectors_of run);
      makes = makes;
      labelled = growth_labels_one run.id kind run.first (sectors_of run) (let long = length-range_with_len run.sector run.pages in omega (arith, long, some));
      in_form = filled structure page right;
      bytes = inl (λ none. broken_before layout (revealed none) page is.1);
    },
  )
  added_evidence (Missing missing page) is right = absurd is

  pub added_halts : (halt : Halt) → AddHalts layout b t c halt → ((n : List Sector) (named : Triples) → Stands b t n → MapIs layout named n → IsNew named run → IsFaultOrMost layout b t halt) → MakeHalts layout run.id pages wanted a s c u halt
  added_halts Disk is right = rose_wider a.faults b.faults c.faults c.faults labels.went.faults (omega arith) is
  added_halts (Damaged e) is right = added_evidence e is right
