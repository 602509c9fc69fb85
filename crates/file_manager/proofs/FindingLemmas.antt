-- What is revealed of a file, and why a call that asks for it stops the session.
use Rattle.std.proofs.Common.{◌≡◌, ◌≢◌, inl, inr, ℕ, zero, suc, ◌+◌, ◌<◌, ◌≤◌, Bool, true, false, ◌&&◌, ◌||◌, List, [], Some, refl, sym, ◌∙◌, ap, subst, arith}
use Rattle.std.specs.Prelude.{slice_get, ◌==◌, nat_lt}
use Rattle.std.specs.Option.{option_map_or}
use Rattle.std.proofs.lemmas.Bool.{ne_eqb, ltb-true}
use Rattle.std.proofs.lemmas.Bool.Decides.{nat_tests}
use Rattle.std.proofs.lemmas.Option.{same_Some, slice_get-map}
use Rattle.labelled_disk.specs.declared.evidence.Evidence.{Evidence}
use Rattle.labelled_disk.specs.declared.evidence.Evidence.TheVariants.{Mismatch, Malformed, Missing}
use Rattle.labelled_disk.specs.declared.evidence.Halt.{Halt}
use Rattle.labelled_disk.specs.declared.evidence.Halt.TheVariants.{Disk, Damaged}
use Rattle.labelled_disk.specs.declared.label.Label.{Label}
use Rattle.labelled_disk.specs.declared.layout.Layout.{Layout}
use Rattle.labelled_disk.specs.Label.{leader_page}
use Rattle.labelled_disk.specs.Sectors.{Sector}
use Rattle.labelled_disk.specs.State.{DiskState, HasLabel}
use Rattle.frame_pool.specs.Frames.{Slots}
use Rattle.file_map.specs.declared.run.Run.{Run}
use Rattle.file_map.specs.Entries.{Sight, Entry, Count, Broken}
use Rattle.file_map.specs.Cause.{IsBroken}
use Rattle.file_map.specs.FileMap.{IsSize}
use Rattle.swapper_kernel.specs.declared.manager.Manager.TheVariants.{FileMap}
use Rattle.labelled_disk.specs.Calls.{RevealsSame}
use Rattle.flat_machine.specs.declared.space.Space.{Space}
use Rattle.swapper_kernel.specs.Goes.{Makes, Pages, no_page}
use Rattle.swapper_kernel.specs.GoesLaws.{makes_then, makes_wider}
use Rattle.swapper_kernel.specs.HaltLaws.{label_before, rose_wider}
use Rattle.swapper_kernel.specs.Halts.{HasCause}
use Rattle.swapper_kernel.specs.Homes.{Brings, home_at}
use Rattle.swapper_kernel.specs.Maps.{IsMapHome}
use Rattle.swapper_kernel.specs.Stands.{Stands, labels_of}
use Rattle.swapper_kernel.specs.Window.{Reveals, Beside}
use Rattle.filer_kernel.specs.declared.cached.CachedRuns.{CachedRuns}
use Rattle.filer_kernel.specs.Cached.{runs_of}
use Rattle.label_calls.specs.Labels.{IsNotOf}
use Rattle.filer_kernel.specs.Causes.{MapShows, MapEvidence, MapHalts, IsRunHome}
use Rattle.session_words.specs.FrameLaws.{HasFrames}
use Rattle.session_words.specs.Volume.{volume_page}
use Rattle.session_words.specs.Parts.{Shape, Shapes, IsLeader, IsTriple, is_owned_upto}
use Rattle.file_manager.specs.Finding.{FileHalts, shape_of_leader}
use Rattle.file_manager.specs.Book.{IsBookedUpto, BooksUpto, BringsOwn}
use Rattle.file_manager.proofs.BookLemmas.{leader_reveals}
use Rattle.file_manager.proofs.FreedRun.{map_makes, map_brings}

-- the pages of a file are those below its size, and its leader
pub page_below : (tables : ℕ) (shapes : Shapes) (id page : ℕ) (f : Shape) → 16 ≤ id → shapes id ≡ Some f → page ≢ leader_page → is_owned_upto tables shapes id page ≡ true → page < f.size
page_below tables shapes id page f some is other owned =
    let three : (id == 3) ≡ false = ne_eqb id 3 (λ q. omega (arith, q, some)) in
    let last : (page == leader_page) ≡ false = ne_eqb page leader_page other in
    let same : is_owned_upto tables shapes id page ≡ nat_lt page f.size = λ j. (three j && nat_lt page tables) || option_map_or (λ (g : Shape). last j || nat_lt page g.size) (is j) false in
    ltb-true page f.size (sym same ∙ owned)

pub below_owned : (tables : ℕ) (shapes : Shapes) (id page : ℕ) (f : Shape) → shapes id ≡ Some f → page < f.size → is_owned_upto tables shapes id page ≡ true
below_owned tables shapes id page f is below =
    let x : nat_lt page f.size ≡ true = grind (arith, nat_tests) in
    rw (is, x) (either (id == 3 && nat_lt page tables) (page == leader_page))
  where
    either : (a b : Bool) → (a || (b || true)) ≡ true
    either true b = refl
    either false true = refl
    either false false = refl

module _ {tables : ℕ} (layout : Layout) (runs : List Run) (shapes : Shapes) (x : List Sector) (b : IsBookedUpto tables layout runs shapes x) (id : ℕ) (some : 16 ≤ id) where
  -- the map's size of a file is that of its shape
  pub size_is : (f : Shape) → shapes id ≡ Some f → (size : ℕ) → IsSize b.named id size → size ≡ f.size
  size_is f is size found =
      let few = no_more size refl in
      let all = no_fewer f.size refl in
      omega (arith, few, all)
    where
      no_more : (n : ℕ) → n ≡ size → n ≤ f.size
      no_more zero same = omega arith
      no_more (suc p) same =
          let last = found.reached p (let z : p + 1 ≡ size = omega (arith, same) in z) in
          let t = b.triples.only id p last.0 last.1 in
          let o = b.labels.pages.only last.0 t.label t.there t.taken in
          let owned : is_owned_upto tables shapes id p ≡ true = (λ j. is_owned_upto tables shapes (sym t.same_id j) (sym t.same_page j)) ∙ o.is in
          let under = found.below in
          let below = page_below tables shapes id p f some is (λ q. omega (arith, q, same, under)) owned in
          omega (arith, below)

      no_fewer : (n : ℕ) → n ≡ f.size → n ≤ size
      no_fewer zero same = omega arith
      no_fewer (suc p) same =
          let place = b.labels.pages.all id p (below_owned tables shapes id p f is (omega (arith, same))) in
          let named = b.triples.all id p place.place (record { label = place.label; there = place.there; taken = place.taken; same_id = place.same_id; same_page = place.same_page }) in
          let short = b.files.short id f is in
          let below = found.highest p place.place named (omega (arith, same, short)) in
          omega (arith, below)

  -- the label that the disk has in the leader's sector, and the map's size, reveal the file's shape
  pub shape_by_leader : (disk : DiskState) (slots : Slots) (sector : ℕ) (label : Label) (size : ℕ) → Stands disk slots x → IsTriple (labels_of x) id leader_page sector → HasLabel disk sector label → IsSize b.named id size
      → shapes id ≡ Some (shape_of_leader label size)
  shape_by_leader disk slots sector label size stands t there found =
      let reveals = leader_reveals layout runs shapes x b id sector some t in
      let on_disk : slice_get (labels_of stands.sectors) sector ≡ Some label = slice_get-map (λ (s : Sector). s.0) stands.sectors sector ∙ there stands.sectors stands.revealed in
      let same : reveals.label ≡ label = same_Some reveals.label label (sym reveals.here ∙ ap (λ (l : List Label). slice_get l sector) stands.merged.labels ∙ on_disk) in
      let leader : IsLeader label reveals.shape = subst (λ (l : Label). IsLeader l reveals.shape) same reveals.reveals in
      let size_same = size_is reveals.shape reveals.is_shape size found in
      reveals.is_shape ∙ (λ j. Some (record { kind = sym leader.kind j; permanent = sym leader.permanent j; immutable = sym leader.immutable j; size = sym size_same j }))

-- ---- Halts.

module _ (layout : Layout) {pages : Pages} {a b : DiskState} {s t : Slots} (makes : Makes pages [] a s b t) where
  module _ (brings : Brings (IsMapHome FileMap layout) s t) (stays : (bytes : List ℕ) → Reveals FileMap a s layout bytes → Reveals FileMap b t layout bytes) where
    shown_before : (sight : Sight) → MapShows layout b t sight → MapShows layout a s sight
    shown_before sight shows bytes reveals = shows bytes (stays bytes reveals)

    broken_before : (n page : ℕ) → IsBroken n (MapShows layout b t) page → IsBroken n (MapShows layout a s) page
    broken_before n page h = elim h [
      | inl broken ↦ inl (shown_before (Broken page) broken)
      | inr (inl (entry, shows, other)) ↦ inr (inl (entry, shown_before (Entry page entry) shows, other))
      | inr (inr (first, (count, shows, many))) ↦ inr (inr (first, (count, shown_before (Count count) shows, many)))
    ]

    evidence_before : (e : Evidence) → MapEvidence layout b t e → MapEvidence layout a s e
    evidence_before (Mismatch sector wanted found) h = record {
      there = label_before makes.wrote sector found h.there;
      other = h.other;
      reason = elim h.reason [ inl held ↦ brings.homes _ held | inr map ↦ inr map ];
    }
    evidence_before (Malformed structure page) h = (h.0, broken_before layout.sectors page h.1)
    evidence_before (Missing id page) h = absurd h

    -- a halt of a search that comes after reading
    pub map_halts_before : (kept : List Run) (id : ℕ) (c : DiskState) (e : Halt) → MapHalts layout b t c e → FileHalts layout kept id a s c e
    map_halts_before kept id c Disk h = rose_wider a.faults b.faults c.faults c.faults makes.went.faults (omega arith) h
    map_halts_before kept id c (Damaged e) h = inl (evidence_before e h)

  -- another label than the leader's
  pub no_leader_before : (kept : List Run) (id sector : ℕ) → layout.first ≤ sector → sector < layout.sectors → IsRunHome layout a s kept (home_at sector (record { id = id; page = leader_page })) → (c : DiskState) (e : Halt) → HasCause (IsNotOf sector (record { id = id; page = leader_page }) b) b c e → FileHalts layout kept id a s c e
  no_leader_before kept id sector above inside given c Disk h = rose_wider a.faults b.faults c.faults c.faults makes.went.faults (omega arith) h
  no_leader_before kept id sector above inside given c (Damaged e) h = inr (record { sector = sector; is_data = above; inside = inside; other = earlier e h; by_run = given })
    where
      earlier : (e : Evidence) → IsNotOf sector (record { id = id; page = leader_page }) b e → IsNotOf sector (record { id = id; page = leader_page }) a e
      earlier (Mismatch k wanted found) h = (h.0, h.1, label_before makes.wrote sector found h.2, h.3)
      earlier (Malformed structure page) h = absurd h
      earlier (Missing i page) h = absurd h

-- a halt of the search for the leader
pub leader_halts : (layout : Layout) (kept : List Run) (id : ℕ) (a c : DiskState) (s : Slots) (e : Halt) → MapHalts layout a s c e → FileHalts layout kept id a s c e
leader_halts layout kept id a c s Disk h = h
leader_halts layout kept id a c s (Damaged e) h = inl h

-- ---- A label that is read.

-- the disk reveals the same under the same frames
stands_read : {a b : DiskState} {s t : Slots} {m : List Sector} → RevealsSame a b → t ≡ s → Stands a s m → Stands b t m
stands_read {b = b} {m = m} revealed frames h = subst (λ (q : Slots). Stands b q m) (sym frames) (record { sectors = h.sectors; revealed = revealed.contents ∙ h.revealed; merged = h.merged })

pub books_read : {tables : ℕ} {layout : Layout} {runs kept : CachedRuns} {shapes : Shapes} {spaces : List Space} {x : List Sector} {a b : DiskState} {s t : Slots} → RevealsSame a b → t ≡ s → kept ≡ runs
    → BooksUpto tables a s layout runs shapes spaces x → BooksUpto tables b t layout kept shapes spaces x
books_read {tables = tables} {layout = layout} {shapes = shapes} {spaces = spaces} {x = x} revealed frames same books = record {
  stands = stands_read revealed frames books.stands;
  booked = subst (λ (r : CachedRuns). IsBookedUpto tables layout (runs_of layout.sectors r) shapes x) (sym same) books.booked;
  frames = subst (λ (q : Slots). HasFrames q spaces) (sym frames) books.frames;
}

module _ {layout later : Layout} {a b c : DiskState} {s t u : Slots} (beside : Beside FileMap a s layout b t later) (revealed : RevealsSame b c) (read : Makes no_page [] b t c u) (frames : u ≡ t) where
  pub read_makes : Makes volume_page [] a s c u
  read_makes = makes_then (map_makes beside) (makes_wider volume_page (λ i p no. absurd no) read)

  pub read_map_brings : Brings (IsMapHome FileMap layout) s u
  read_map_brings = subst (λ (q : Slots). Brings (IsMapHome FileMap layout) s q) (sym frames) beside.brings

  pub read_bytes : ((bytes : List ℕ) → Reveals FileMap a s layout bytes → Reveals FileMap b t layout bytes) → (bytes : List ℕ) → Reveals FileMap a s layout bytes → Reveals FileMap c u layout bytes
  read_bytes stays bytes reveals =
      let now = stays bytes reveals in
      record { memory = now.memory; stands = stands_read revealed frames now.stands; shows = now.shows; size = read.went.sectors ∙ now.size }

  pub read_brings : BringsOwn s u
  read_brings = subst (BringsOwn s) (sym frames) (map_brings beside)
