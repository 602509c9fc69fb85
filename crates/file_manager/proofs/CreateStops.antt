-- Why a call that makes a file anew stops the session: the root is written, or nothing, the map is cut, and then pages are made.
use Rattle.std.proofs.Common.{◌≡◌, ◌≢◌, ◌⊎◌, inl, inr, ℕ, ◌+◌, Bool, true, false, not, ◌&&◌, List, [], ◌∷◌, ◌++◌, length, refl, sym, ◌∙◌, ap, subst, arith, length-set}
use Rattle.std.specs.Prelude.{slice_get, slice_set, ◌==◌, nat_le}
use Rattle.std.proofs.lemmas.Bool.{true≢false, and_parts, ne_eqb, cases_eq}
use Rattle.labelled_disk.specs.declared.disk.DiskWrite.{DiskWrite}
use Rattle.labelled_disk.specs.declared.evidence.Evidence.{Evidence}
use Rattle.labelled_disk.specs.declared.evidence.Evidence.TheVariants.{Mismatch, Malformed, Missing}
use Rattle.labelled_disk.specs.declared.evidence.Halt.{Halt}
use Rattle.labelled_disk.specs.declared.evidence.Halt.TheVariants.{Disk, Damaged}
use Rattle.labelled_disk.specs.declared.layout.Layout.{Layout}
use Rattle.labelled_disk.specs.CrashState.{written}
use Rattle.labelled_disk.specs.Sectors.{Sector}
use Rattle.labelled_disk.specs.State.{DiskState}
use Rattle.labelled_disk.proofs.Finds.{get_set_other}
use Rattle.frame_pool.specs.Frames.{Slots}
use Rattle.file_map.specs.Run.{run_bytes}
use Rattle.file_map.specs.Cause.{IsToCut}
use Rattle.file_map.specs.Entries.{Entry}
use Rattle.file_map.specs.FileMap.{Triples, without_from}
use Rattle.swapper_kernel.specs.declared.manager.Manager.TheVariants.{AllocationMap, FileMap}
use Rattle.swapper_kernel.specs.DiffersLaws.{other_sector}
use Rattle.swapper_kernel.specs.Goes.{Goes, Makes, no_page}
use Rattle.swapper_kernel.specs.GoesLaws.{makes_then, makes_wider}
use Rattle.swapper_kernel.specs.HaltLaws.{rose_wider}
use Rattle.swapper_kernel.specs.Homes.{IsLayout, home_at}
use Rattle.swapper_kernel.specs.Stands.{Stands}
use Rattle.swapper_kernel.specs.Window.{Shows, Reveals, Beside}
use Rattle.filer_kernel.specs.Becomes.{Becomes}
use Rattle.filer_kernel.specs.Causes.{MapShows, MapHalts, CutHalts}
use Rattle.filer_kernel.specs.Triples.{MapIs}
use Rattle.session_words.specs.Volume.{volume_page}
use Rattle.volume_root.specs.declared.root.Root.{Root}
use Rattle.volume_root.specs.RootPage.{root_bytes, root_write}
use Rattle.labelled_disk.specs.Label.{root_label}
use Rattle.file_manager.specs.Grounds.{IsUnframed, IsFilled, StopsInForm, MakeEvidence, MakeHalts, CreateEvidence, CreateHalts}
use Rattle.file_manager.specs.Taking.{AreOfPages, TakesSectors, NamesNoneOf, every_page, no_page_of}
use Rattle.file_manager.proofs.FreedRun.{first_is, map_makes, shows_still}
use Rattle.file_manager.proofs.Keeping.{broken_shown}
use Rattle.file_manager.proofs.MadeRun.{maps_come, unframed_still, file_map_alone}
use Rattle.file_manager.proofs.MakeStops.{labels_after, shown_before, label_home_before}
use Rattle.file_manager.proofs.RoomStops.{room_before}
use Rattle.file_manager.proofs.TakingLemmas.{not_taken, sectors_then}

-- a map that named none of a file names the same once it is cut of it
cut_kept : (id : ℕ) (named : Triples) → NamesNoneOf id every_page named → (i page sector : ℕ) → named i page sector ≡ true → without_from named id 0 i page sector ≡ true
cut_kept id named nothing i page sector is = elim (cases_eq i id) [
  | inl same ↦ absurd (true≢false (sym is ∙ ap (λ (n : ℕ). named n page sector) same ∙ nothing page sector tt))
  | inr other ↦ let apart : (i == id) ≡ false = ne_eqb i id other in (λ j. is j && not (apart j && nat_le 0 page))
]

cut_only : (id : ℕ) (named : Triples) (i page sector : ℕ) → without_from named id 0 i page sector ≡ true → named i page sector ≡ true
cut_only id named i page sector is = (and_parts (named i page sector) (not ((i == id) && nat_le 0 page)) is).0

cut_none : (id : ℕ) (named : Triples) → NamesNoneOf id every_page named → NamesNoneOf id every_page (without_from named id 0)
cut_none id named nothing page sector own = ap (λ (b : Bool). b && not ((id == id) && nat_le 0 page)) (nothing page sector tt)

cut_filled : (layout : Layout) (id : ℕ) (named : Triples) (c : DiskState) (u : Slots) → NamesNoneOf id every_page named → IsFilled layout id (without_from named id 0) c u → IsFilled layout id named c u
cut_filled layout id named c u nothing h = record {
  disk = h.disk;
  slots = h.slots;
  memory = h.memory;
  stands = h.stands;
  later = h.later;
  map = h.map;
  adds = record {
    kept = λ i page sector is. h.adds.kept i page sector (cut_kept id named nothing i page sector is);
    only = λ i page sector is. elim (h.adds.only i page sector is) [ inl was ↦ inl (cut_only id named i page sector was) | inr own ↦ inr own ];
  };
  full = h.full;
  until = h.until;
}

-- no sector of n but the root's is another than in m
pub record IsSameAfter (m n : List Sector) : Type 0 where
  pub long : length n ≡ length m
  pub each : (k : ℕ) → k ≢ 0 → slice_get n k ≡ slice_get m k

-- where the root was written
pub root_after : (root : Root) {a b : DiskState} {s : Slots} → Goes (λ m n. n ≡ written (root_write root) m) no_page (root_write root ∷ []) a s b s
    → (m : List Sector) → Stands a s m → (n : List Sector) × Stands b s n × IsSameAfter m n
root_after root {b = b} {s = s} rooted m stands =
    let now = rooted.memory m stands in (
      slice_set m 0 (root_label, root_bytes root),
      subst (Stands b s) now.2 now.1,
      record { long = length-set m 0 (root_label, root_bytes root); each = λ k other. get_set_other m 0 k (root_label, root_bytes root) other },
    )

-- where nothing was
pub nothing_after : {a : DiskState} {s : Slots} (m : List Sector) → Stands a s m → (n : List Sector) × Stands a s n × IsSameAfter m n
nothing_after m stands = (m, stands, record { long = refl; each = λ k other. refl })

module _ (layout : Layout) (is : IsLayout layout) (id : ℕ) {prefix : List DiskWrite} {a b : DiskState} {s : Slots} (first : Makes no_page prefix a s b s)
    (after : (m : List Sector) → Stands a s m → (n : List Sector) × Stands b s n × IsSameAfter m n) (wanted : ℕ → Type 0) where
  root_taken : (m n : List Sector) → IsSameAfter m n → TakesSectors layout id m n
  root_taken m n same = record {
    labels = record {
      long = same.long;
      each = λ k t from here. inl (t, same.each k (λ e. let f = first_is layout is in omega (arith, e, f, from)) ∙ here, refl);
    };
    bits = λ marks bits. (
      marks,
      record { bytes = bits.bytes; shows = shows_still AllocationMap layout m n bits.bytes (λ k t below here. same.each (1 + k) (λ e. omega (arith, e)) ∙ here) bits.shows; are = bits.are },
      λ k from. inl refl,
    );
  }

  map_after : (m n : List Sector) → IsSameAfter m n → (bytes : List ℕ) → Shows FileMap m layout bytes → Shows FileMap n layout bytes
  map_after m n same bytes shows = shows_still FileMap layout m n bytes (λ k t below here. same.each (1 + layout.vam + k) (λ e. omega (arith, e)) ∙ here) shows

  root_revealed : (bytes : List ℕ) → Reveals FileMap a s layout bytes → Reveals FileMap b s layout bytes
  root_revealed bytes reveals =
      let now = after reveals.memory reveals.stands in
      record { memory = now.0; stands = now.1; shows = map_after reveals.memory now.0 now.2 bytes reveals.shows; size = first.went.sectors ∙ reveals.size }

  -- where the map is cut
  cut_evidence : (e : Evidence) (c : DiskState) (t : Slots) → MapHalts layout b s c (Damaged e) ⊎ IsToCut id 0 (MapShows layout b s) → CutHalts layout b s c t (Damaged e) → CreateEvidence layout id wanted a s c t e
  cut_evidence (Mismatch sector label found) c t begun why = elim why.reason [ inl held ↦ inl held | inr own ↦ inr (inl (FileMap, own)) ]
  cut_evidence (Malformed structure page) c t begun why = (
    why.0,
    elim begun [
      | inl broken ↦ inl (broken_shown (MapShows layout b s) (MapShows layout a s) (shown_before layout root_revealed) layout.sectors page broken.1)
      | inr cut ↦ inr (inl (record { run = cut.run; page = cut.page; shown = shown_before layout root_revealed (Entry cut.page (run_bytes cut.run)) cut.shown; of_file = cut.of_file; after = cut.after }))
    ],
  )
  cut_evidence (Missing missing page) c t begun why = absurd why

  pub create_of_cut : (c : DiskState) (t : Slots) (halt : Halt) → MapHalts layout b s c halt ⊎ IsToCut id 0 (MapShows layout b s) → CutHalts layout b s c t halt → CreateHalts layout id wanted a s c t halt
  create_of_cut c t Disk begun why = rose_wider a.faults b.faults c.faults c.faults first.went.faults (omega arith) why
  create_of_cut c t (Damaged e) begun why = cut_evidence e c t begun why

  -- and where pages are made
  module _ {c : DiskState} {t : Slots} {later : Layout} (beside : Beside FileMap b s layout c t later)
      (cut : (m : List Sector) (named : Triples) → Stands b s m → MapIs layout named m → Becomes FileMap layout m (MapIs layout (without_from named id 0)) c t) (pages : ℕ → Type 0) (d : DiskState) (u : Slots) where
    since_cut : IsUnframed s 0 → (m : List Sector) → Stands a s m → (n : List Sector) × Stands c t n × TakesSectors layout id m n
    since_cut none m stands =
        let r = after m stands in
        let now = beside.goes.memory r.0 r.1 in
        (now.0, now.1, sectors_then (root_taken m r.0 r.2) (file_map_alone layout id r.0 now.0 now.2))

    -- none was taken
    none_since : IsUnframed s 0 → (m : List Sector) → Stands a s m → (n : List Sector) × Stands c t n × (TakesSectors layout id m n × AreOfPages layout id no_page_of m n)
    none_since none m stands =
        let r = after m stands in
        let now = beside.goes.memory r.0 r.1 in (
          now.0,
          now.1,
          (
            sectors_then (root_taken m r.0 r.2) (file_map_alone layout id r.0 now.0 now.2),
            λ other sector from taken. absurd (not_taken id m now.0 sector other taken (λ x here.
                other_sector now.0 r.0 (sym now.2.labels) sector x (r.2.each sector (λ e. let f = first_is layout is in omega (arith, e, f, from)) ∙ here))),
          ),
        )

    form_after : (page : ℕ) → StopsInForm layout id pages page c t d u → StopsInForm layout id every_page page a s d u
    form_after page stops none m named stands map nothing =
        let r = after m stands in
        let rooted_map : MapIs layout named r.0 = record { bytes = map.bytes; shows = map_after m r.0 r.2 map.bytes map.shows; names = map.names } in
        let now = cut r.0 named r.1 rooted_map in
        let e = stops (unframed_still (maps_come beside) none) now.memory (without_from named id 0) now.stands now.is (λ p sector own. cut_none id named nothing p sector tt) in
        (e.0, cut_filled layout id named d u nothing e.1)

    make_evidence : (e : Evidence) → MakeEvidence layout id pages wanted c t d u e → CreateEvidence layout id wanted a s d u e
    make_evidence (Mismatch sector label found) is = label_home_before (maps_come beside) since_cut (home_at sector label) is
    make_evidence (Malformed structure page) is = (
      is.0,
      inr (inr (record {
        run = prefix ++ is.1.run;
        makes = makes_then (makes_wider volume_page (λ id page none. absurd none) first) (makes_then (map_makes beside) is.1.makes);
        labelled = labels_after id prefix is.1.run is.1.labelled;
        in_form = form_after page is.1.in_form;
      })),
    )
    make_evidence (Missing missing page) is = (is.0, is.1, room_before no_page_of wanted wanted (λ p own. own) (λ p own not. not) (maps_come beside) none_since d u is.2)

    pub create_of_make : (halt : Halt) → MakeHalts layout id pages wanted c t d u halt → CreateHalts layout id wanted a s d u halt
    create_of_make Disk is = let before = first.went.faults in let next = beside.goes.makes.went.faults in rose_wider a.faults c.faults d.faults d.faults (omega (arith, before, next)) (omega arith) is
    create_of_make (Damaged e) is = make_evidence e is
