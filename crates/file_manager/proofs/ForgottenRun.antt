-- A run of a file that was found, and whose frames were given up.
use Rattle.std.proofs.Common.{◌≡◌, ◌≢◌, ◌⊎◌, inl, inr, ℕ, ◌+◌, ◌<◌, ◌≤◌, Bool, true, false, List, [], Some, refl, sym, ◌∙◌, ap, subst, arith}
use Rattle.std.specs.Prelude.{slice_get, nat_le, ◌&&◌, ◌==◌}
use Rattle.std.proofs.lemmas.Bool.{true≢false, ne_eqb}
use Rattle.std.proofs.lemmas.Bool.Decides.{nat_tests}
use Rattle.std.proofs.lemmas.Option.{same_Some}
use Rattle.labelled_disk.specs.declared.layout.Layout.{Layout}
use Rattle.labelled_disk.specs.Sectors.{Sector}
use Rattle.labelled_disk.specs.State.{DiskState}
use Rattle.frame_pool.specs.Frames.{Frame, Slots, Has, IsWithin}
use Rattle.file_map.specs.declared.run.Run.{Run}
use Rattle.file_map.specs.FileMap.{Triples}
use Rattle.flat_machine.specs.declared.space.Space.{Space}
use Rattle.swapper_kernel.specs.declared.manager.Manager.TheVariants.{AllocationMap, FileMap}
use Rattle.swapper_kernel.specs.Differs.{Differs}
use Rattle.swapper_kernel.specs.Goes.{Makes}
use Rattle.swapper_kernel.specs.GoesLaws.{makes_then, makes_wider}
use Rattle.swapper_kernel.specs.Homes.{IsLayout}
use Rattle.swapper_kernel.specs.Stands.{Stands}
use Rattle.swapper_kernel.specs.Window.{Reveals, Beside}
use Rattle.filer_kernel.specs.declared.cached.CachedRuns.{CachedRuns}
use Rattle.filer_kernel.specs.Cached.{runs_of}
use Rattle.filer_kernel.specs.Marks.{Marks, BitsAre}
use Rattle.filer_kernel.specs.Triples.{MapIs}
use Rattle.filer_kernel.proofs.MapLemmas.{same_elements}
use Rattle.session_words.specs.Volume.{volume_page}
use Rattle.file_manager.specs.Forgetting.{Forgets, on_data_of}
use Rattle.file_manager.specs.Freeing.{MayFree}
use Rattle.file_manager.specs.Grounds.{IsUnframed, KeepsMap}
use Rattle.file_manager.specs.Reasons.{InitialState, KeepsTo, LeavesTables}
use Rattle.file_manager.specs.TabledLaws.{KeepsSectors, keeps_undiffering, revealed_left}
use Rattle.file_manager.proofs.BookLemmas.{known_after}
use Rattle.file_manager.proofs.FreedRun.{map_makes, map_brings, hidden_then, shows_still, first_is}

-- ---- Memories that are the same before the data.

-- each sector before the data is as it was
abbrev pub SamePrefix : Layout → List Sector → List Sector → Type 0
SamePrefix layout m n = (k : ℕ) (x : Sector) → k < layout.first → slice_get m k ≡ Some x → slice_get n k ≡ Some x

module _ {layout : Layout} (is : IsLayout layout) {m n : List Sector} (stays : SamePrefix layout m n) where
  pub map_stays : {named : Triples} → MapIs layout named m → MapIs layout named n
  map_stays map = record {
    bytes = map.bytes;
    shows = shows_still FileMap layout m n map.bytes (λ k x below here. stays (1 + layout.vam + k) x (let f = first_is layout is in omega (arith, f, below)) here) map.shows;
    names = map.names;
  }

  pub bits_stay : {marks : Marks} → BitsAre layout marks m → BitsAre layout marks n
  bits_stay bits = record {
    bytes = bits.bytes;
    shows = shows_still AllocationMap layout m n bits.bytes (λ k x below here. stays (1 + k) x (let f = first_is layout is in omega (arith, f, below)) here) bits.shows;
    are = bits.are;
  }

pub data_differ : (layout : Layout) (id : ℕ) (m n : List Sector) → Differs (on_data_of layout id) m n → SamePrefix layout m n
data_differ layout id m n differs k x low here = differs.pages k x here (test layout.first k x.0.id low)
  where
    test : (a b i : ℕ) → b < a → (nat_le a b && (i == id)) ≡ false
    test a b i low = grind (arith, nat_tests)

-- those with labels of the space tables are as they were where another's differ
pub others_differ : (layout : Layout) (id : ℕ) (m n : List Sector) → Differs (on_data_of layout id) m n → id ≢ 3 → KeepsSectors layout m n
others_differ layout id m n differs other = keeps_undiffering layout m n differs (λ sector l from own. test (nat_le layout.first sector) l.id own)
  where
    test : (b : Bool) (i : ℕ) → i ≡ 3 → (b && (i == id)) ≡ false
    test true i own = ne_eqb i id (λ same. other (sym same ∙ own))
    test false i own = refl

-- ---- Frames that were given up.

module _ {id first pages : ℕ} {layout : Layout} {d : DiskState} {t u : Slots} (forgets : Forgets id first pages layout d t u) where
  -- each frame that is left was there, in the same slot
  was_there : (i : ℕ) (f : Frame) → Has u i f → Has t i f
  was_there i f has =
      let old = forgets.run.frames i f has in
      let same = forgets.run.others i (λ g g_has within.
      let own : g ≡ old.0 = same_Some g old.0 (same_Some (Some g) (Some old.0) (sym g_has.is ∙ old.1.is)) in
      forgets.gone i f has (subst (IsWithin id first pages) (ap (λ (x : Frame). x.home) own ∙ old.2) within)) in
      record { is = sym same ∙ has.is }

  -- where no frame had one of these pages, the slots are as they were
  pub slots_stay : ((i : ℕ) (f : Frame) → Has t i f → IsWithin id first pages f.home → ⊥) → u ≡ t
  slots_stay none = same_elements u t (λ i. forgets.run.others i (none i))

  -- what is kept of the map
  pub keeps_forgets : {given : Type 0} {a : DiskState} {s : Slots} {kept runs : List Run} → KeepsMap given layout id a s kept d t runs → KeepsMap given layout id a s kept d u runs
  keeps_forgets h = record {
    faults = h.faults;
    brings = record { homes = λ home held. h.brings.homes home (record { slot = held.slot; frame = held.frame; has = was_there held.slot held.frame held.has; at = held.at }) };
    unframed = λ g page there. h.unframed g page (record { slot = there.slot; frame = there.frame; has = was_there there.slot there.frame there.has; same_id = there.same_id; same_page = there.same_page });
    revealed = λ g bytes reveals. subst (λ (v : Slots). Reveals FileMap d v layout bytes)
        (sym (slots_stay (λ i f has within. h.unframed g f.home.page (record { slot = i; frame = f; has = has; same_id = within.0; same_page = refl })))) (h.revealed g bytes reveals);
    runs_given = h.runs_given;
  }

  -- and of an initial state
  pub keeps_to_forgets : IsLayout layout → {o : InitialState} {named : Triples} {kept : List Run} → LeavesTables o id → KeepsTo o layout kept d t named → KeepsTo o layout kept d u named
  keeps_to_forgets is {o = o} {named = named} never_blames h =
      let now = forgets.goes.memory h.memory h.stands in
      let stays = data_differ layout id h.memory now.0 now.2 in
      record {
        since = h.since;
        memory = now.0;
        stands = now.1;
        size = h.size;
        map = map_stays is stays h.map;
        homes = h.homes;
        kept = h.kept;
        frames = λ home held. h.frames home (record { slot = held.slot; frame = held.frame; has = was_there held.slot held.frame held.has; at = held.at });
        unframed = λ page there. h.unframed page (record { slot = there.slot; frame = there.frame; has = was_there there.slot there.frame there.has; same_id = there.same_id; same_page = there.same_page });
        over = λ home held. h.over home (record { slot = held.slot; frame = held.frame; has = was_there held.slot held.frame held.has; at = held.at });
        marks = h.marks;
        bits = bits_stay is stays h.bits;
        free = h.free;
        rest = h.rest;
        used = h.used;
        roots = h.roots;
        taken = h.taken;
        tabled = revealed_left layout named named h.memory now.0 o id is h.map never_blames (λ other. others_differ layout id h.memory now.0 now.2 other) (λ other page sector own. own) h.tabled;
      }

-- ---- A run that was found, and whose frames were given up.

-- What holds then: nothing was written but for the map's pages, what is kept of the map and of an initial state, and where the pages
-- may be freed no frame was given up.
pub record IsPrefix (layout : Layout) (id : ℕ) (a : DiskState) (s : Slots) (kept : CachedRuns) (run : Run) (d : DiskState) (u : Slots) (later : Layout) (runs : CachedRuns) : Type 0 where
  pub makes : Makes volume_page [] a s d u
  pub same_layout : later ≡ layout
  pub keeps : KeepsMap (IsUnframed s id) layout id a s (runs_of layout.sectors kept) d u (runs_of layout.sectors runs)
  pub gone : (i : ℕ) (f : Frame) → Has u i f → IsWithin run.id run.first run.pages f.home → ⊥
  pub booked : (named : Triples) (spaces : List Space) (from end : ℕ) (m : List Sector) → MayFree a s layout kept named spaces id from end m → Stands d u m × Beside FileMap a s layout d u later
  pub keeps_to : (o : InitialState) (named : Triples) → KeepsTo o layout (runs_of layout.sectors kept) a s named → LeavesTables o id → KeepsTo o layout (runs_of layout.sectors runs) d u named

-- no frame has a page of a file whose pages may be freed
none_there : {layout l1 : Layout} {a d : DiskState} {s t : Slots} {kept : CachedRuns} {named : Triples} {spaces : List Space} {id from end : ℕ} {m : List Sector} → (id ≡ 3) ⊎ (16 ≤ id)
    → MayFree a s layout kept named spaces id from end m → Beside FileMap a s layout d t l1 → IsUnframed t id
none_there {s = s} {t = t} {spaces = spaces} {id = id} file may beside page there = elim (hidden_then spaces file beside may.hidden) [
  | inl (high, hidden) ↦ elim ((known_after s t spaces (map_brings beside) may.frames).known id page there) [
    | inl (some, few) ↦ omega (arith, high, few)
    | inr shown ↦ true≢false (sym shown ∙ hidden page)
  ]
  | inr none ↦ none page there
]

pub prefix : {layout l1 l2 : Layout} {id : ℕ} {a b d : DiskState} {s t u : Slots} {kept mid runs : CachedRuns} {run : Run} → IsLayout layout → (id ≡ 3) ⊎ (16 ≤ id) → run.id ≡ id → Beside FileMap a s layout b t l1
    → ((m : List Sector) (named : Triples) → Stands a s m → MapIs layout named m → Stands b t m)
    → KeepsMap (IsUnframed s id) layout id a s (runs_of layout.sectors kept) b t (runs_of layout.sectors mid)
    → ((o : InitialState) (named : Triples) → KeepsTo o layout (runs_of layout.sectors kept) a s named → KeepsTo o l1 (runs_of l1.sectors mid) b t named)
    → Forgets run.id run.first run.pages l1 b t u → d ≡ b → l2 ≡ l1 → runs ≡ mid → IsPrefix layout id a s kept run d u l2 runs
prefix {layout = layout} {l1 = l1} {l2 = l2} {id = id} {a = a} {b = b} {d = d} {s = s} {t = t} {u = u} {kept = kept} {mid = mid} {runs = runs} {run = run} is file of beside same keeps keeps_to forgets disk place cached =
    let there : Forgets id run.first run.pages layout b t u = subst (λ (l : Layout). Forgets id run.first run.pages l b t u) beside.layout (subst (λ (i : ℕ). Forgets i run.first run.pages l1 b t u) of forgets) in
    subst (λ (x : DiskState). IsPrefix layout id a s kept run x u l2 runs) (sym disk) (subst (λ (l : Layout). IsPrefix layout id a s kept run b u l runs) (sym (place ∙ beside.layout))
    (subst (λ (r : CachedRuns). IsPrefix layout id a s kept run b u layout r) (sym cached) (record {
      makes = makes_then (map_makes beside) (makes_wider volume_page (λ i p none. absurd none) there.goes.makes);
      same_layout = refl;
      keeps = keeps_forgets there keeps;
      gone = forgets.gone;
      booked = λ named spaces from end m may.
          let none = none_there file may beside in
          let still : u ≡ t = slots_stay there (λ i f has within. none f.home.page (record { slot = i; frame = f; has = has; same_id = within.0; same_page = refl })) in (
            subst (λ (v : Slots). Stands b v m) (sym still) (same m named may.stands may.map),
            subst (λ (l : Layout). Beside FileMap a s layout b u l) beside.layout (subst (λ (v : Slots). Beside FileMap a s layout b v l1) (sym still) beside),
          );
      keeps_to = λ o named h never_blames. keeps_to_forgets there is never_blames (subst (λ (l : Layout). KeepsTo o l (runs_of l.sectors mid) b t named) beside.layout (keeps_to o named h));
    })))
