-- What is said of a state after pages were touched is said of that before.
use Rattle.std.proofs.Common.{◌≡◌, ◌⊎◌, inl, inr, ℕ, ◌+◌, ◌*◌, ◌<◌, ◌≤◌, false, List, ◌∙◌, subst, arith}
use Rattle.std.specs.Prelude.{[]}
use Rattle.std.proofs.lemmas.Bool.Decides.{nat_tests}
use Rattle.labelled_disk.specs.declared.label.Label.{Label}
use Rattle.labelled_disk.specs.declared.layout.Layout.{Layout}
use Rattle.labelled_disk.specs.declared.evidence.Evidence.{Evidence}
use Rattle.labelled_disk.specs.declared.evidence.Evidence.TheVariants.{Mismatch, Malformed, Missing}
use Rattle.labelled_disk.specs.declared.evidence.Halt.{Halt}
use Rattle.labelled_disk.specs.declared.evidence.Halt.TheVariants.{Disk, Damaged}
use Rattle.labelled_disk.specs.Sectors.{Sector}
use Rattle.labelled_disk.specs.State.{DiskState}
use Rattle.flat_mem.specs.Memory.{part}
use Rattle.frame_pool.specs.declared.home.Home.{Home}
use Rattle.frame_pool.specs.Frames.{Slots}
use Rattle.file_map.specs.declared.run.Run.{Run}
use Rattle.file_map.specs.Run.{run_bytes}
use Rattle.file_map.specs.FileMap.{Triples}
use Rattle.file_map.specs.Entries.{Entry, Count, Broken, Sight}
use Rattle.file_map.specs.Cause.{IsBroken}
use Rattle.swapper_kernel.specs.declared.manager.Manager.TheVariants.{FileMap}
use Rattle.swapper_kernel.specs.Maps.{IsMapHome}
use Rattle.swapper_kernel.specs.Homes.{IsLayout}
use Rattle.swapper_kernel.specs.Differs.{Differs}
use Rattle.swapper_kernel.specs.DiffersLaws.{differs_then, differs_wider}
use Rattle.swapper_kernel.specs.Goes.{Goes, Pages}
use Rattle.swapper_kernel.specs.GoesLaws.{goes_then, goes_wider}
use Rattle.swapper_kernel.specs.Halts.{held_or}
use Rattle.swapper_kernel.specs.HaltLaws.{brings_then, brings_wider, label_before, rose_wider}
use Rattle.swapper_kernel.specs.Window.{IsPage, Shows, Reveals}
use Rattle.swapper_kernel.proofs.PlacedLemmas.{parts}
use Rattle.filer_kernel.specs.Triples.{MapIs}
use Rattle.filer_kernel.specs.Causes.{MapShows, IsGiven}
use Rattle.filer_kernel.specs.Tables.{in_tables}
use Rattle.filer_kernel.specs.View.{View, kept_by}
use Rattle.fault_core.specs.Reach.{IsReachedHome, IsReached, Reaches, FindEvidence, FindHalts}
use Rattle.fault_core.specs.Touch.{on_data, and_own, Touches}

-- ---- Changes on data sectors leave the map.

module _ (layout : Layout) (is : IsLayout layout) where
  of_the_map : (k : ℕ) (l : Label) → k < layout.vfm → on_data layout (1 + layout.vam + k) l ≡ false
  of_the_map k l below =
      let first : layout.first ≡ 1 + layout.vam + layout.vfm = (parts layout is).0 in
      grind (arith, nat_tests)

  shows_still : (m n : List Sector) (b : List ℕ) → Differs (on_data layout) m n → Shows FileMap m layout b → Shows FileMap n layout b
  shows_still m n b differs shows = record {
    count = shows.count;
    page = λ k below.
        let was : IsPage m (1 + layout.vam + k) (part b (512 * k) 512) = shows.page k below in
        record { label = was.label; keeps = differs.pages (1 + layout.vam + k) (was.label, part b (512 * k) 512) was.keeps (of_the_map k was.label below) };
  }

  -- what the map says
  pub map_still : (named : Triples) (m n : List Sector) → Differs (on_data layout) m n → MapIs layout named m → MapIs layout named n
  map_still named m n differs map = record { bytes = map.bytes; shows = shows_still m n map.bytes differs map.shows; names = map.names }

  reveals_still : {pages : Pages} {a b : DiskState} {s t : Slots} → Goes (Differs (on_data layout)) pages [] a s b t → (bytes : List ℕ) → Reveals FileMap a s layout bytes → Reveals FileMap b t layout bytes
  reveals_still goes bytes reveals =
      let now = goes.memory reveals.memory reveals.stands in
      record { memory = now.0; stands = now.1; shows = shows_still reveals.memory now.0 bytes now.2 reveals.shows; size = goes.makes.went.sectors ∙ reveals.size }

  -- what its pages show afterwards they showed before
  sight_before : {pages : Pages} {a b : DiskState} {s t : Slots} → Goes (Differs (on_data layout)) pages [] a s b t → (sight : Sight) → MapShows layout b t sight → MapShows layout a s sight
  sight_before goes sight shows bytes reveals = shows bytes (reveals_still goes bytes reveals)

-- ---- Pages that are found and brought in are touched.

pub touches_of : {v w : View} (pages : Pages) → Reaches v w → Touches pages v w
touches_of {v = v} pages h = record {
  goes = goes_wider (Differs (in_tables v.layout)) (Differs (on_data v.layout)) (and_own pages)
      (λ m n d. differs_wider (in_tables v.layout) (on_data v.layout) m n (λ k s here fails. grind (arith, nat_tests, fails)) d) (λ id page own. inl own) h.goes;
  brings = h.brings;
  layout = h.layout;
  given = h.given;
  runs_are = h.runs_are;
  revealed = h.revealed;
}

module _ (v w : View) (is : IsLayout v.layout) {pages : Pages} (h : Touches pages v w) where
  pub given_before : (r : Run) → IsGiven w.layout w.disk w.slots (kept_by w) r → IsGiven v.layout v.disk v.slots (kept_by v) r
  given_before r g = elim g [
    | inl one ↦ h.given r one
    | inr (page, shows) ↦ inr (page, sight_before v.layout is h.goes (Entry page (run_bytes r)) (subst (λ (l : Layout). MapShows l w.disk w.slots (Entry page (run_bytes r))) h.layout shows))
  ]

  pub found_before : (home : Home) → IsReachedHome w home → IsReachedHome v home
  found_before home g = record {
    on_data = rw (← h.layout) g.on_data;
    by_run = record { run = g.by_run.run; given = given_before g.by_run.run g.by_run.given; form = rw (← h.layout) g.by_run.form; has = g.by_run.has; at = g.by_run.at };
  }

  pub came_before : (home : Home) → IsReached w home → IsReached v home
  came_before home g = elim g [
    | inl map ↦ inl (subst (λ (l : Layout). IsMapHome FileMap l home) h.layout map)
    | inr found ↦ inr (found_before home found)
  ]

  broken_before : (page : ℕ) → IsBroken v.layout.sectors (MapShows v.layout w.disk w.slots) page → IsBroken v.layout.sectors (MapShows v.layout v.disk v.slots) page
  broken_before page g = elim g [
    | inl broken ↦ inl (sight_before v.layout is h.goes (Broken page) broken)
    | inr (inl (entry, shows, other)) ↦ inr (inl (entry, sight_before v.layout is h.goes (Entry page entry) shows, other))
    | inr (inr (first, (count, shows, many))) ↦ inr (inr (first, (count, sight_before v.layout is h.goes (Count count) shows, many)))
  ]

  reason_before : (home : Home) → held_or w.slots (IsMapHome FileMap w.layout) home ⊎ IsReachedHome w home → held_or v.slots (IsMapHome FileMap v.layout) home ⊎ IsReachedHome v home
  reason_before home g = elim g [
    | inl (inl held) ↦ elim (h.brings.homes home held) [
      | inl was ↦ inl (inl was)
      | inr (inl map) ↦ inl (inr map)
      | inr (inr found) ↦ inr found
    ]
    | inl (inr map) ↦ inl (inr (subst (λ (l : Layout). IsMapHome FileMap l home) h.layout map))
    | inr found ↦ inr (found_before home found)
  ]

  module _ (breaks broke : ℕ → Type 0) (earlier : (page : ℕ) → breaks page → broke page) (may : Pages) where
    evidence_before : (e : Evidence) → FindEvidence breaks may w e → FindEvidence broke may v e
    evidence_before (Mismatch sector wanted found) g = record { there = label_before h.goes.makes.wrote sector found g.there; other = g.other; reason = reason_before _ g.reason }
    evidence_before (Malformed structure page) g = elim g [
      | inl (second, broken) ↦ inl (second, broken_before page (subst (λ (l : Layout). IsBroken l.sectors (MapShows l w.disk w.slots) page) h.layout broken))
      | inr (third, broken) ↦ inr (third, earlier page broken)
    ]
    evidence_before (Missing id page) g = (g.0, λ m named stands map. let mid = h.goes.memory m stands in g.1 mid.0 named mid.1 (rw h.layout (map_still v.layout is named m mid.0 mid.2 map)))

    -- the halt of what was done next is one of both
    pub halt_before : (x y : View) → x.disk.faults ≤ y.disk.faults → (e : Halt) → FindHalts breaks may w x e → FindHalts broke may v y e
    halt_before x y later Disk g = rose_wider v.disk.faults w.disk.faults x.disk.faults y.disk.faults h.goes.makes.went.faults later g
    halt_before x y later (Damaged e) g = evidence_before e g

  -- pages are touched, and then others
  pub touches_then : (x : View) → Touches pages w x → Touches pages v x
  touches_then x k = record {
    goes = goes_then (Differs (on_data v.layout)) (Differs (on_data v.layout)) (Differs (on_data v.layout)) (λ m n o first last. differs_then (on_data v.layout) m n o first last) h.goes
        (subst (λ (l : Layout). Goes (Differs (on_data l)) (and_own pages) [] w.disk w.slots x.disk x.slots) h.layout k.goes);
    brings = brings_then h.brings (brings_wider (IsReached v) came_before k.brings);
    layout = k.layout ∙ h.layout;
    given = λ r one. given_before r (k.given r one);
    runs_are = λ m named stands map are. let mid = h.goes.memory m stands in
        k.runs_are mid.0 named mid.1 (rw h.layout (map_still v.layout is named m mid.0 mid.2 map)) (h.runs_are m named stands map are);
    revealed = λ b reveals. k.revealed b (h.revealed b reveals);
  }

-- more pages may be touched
pub touches_wider : {v w : View} (pages more : Pages) → ((id page : ℕ) → pages id page → more id page) → Touches pages v w → Touches more v w
touches_wider {v = v} pages more too h = record {
  goes = goes_wider (Differs (on_data v.layout)) (Differs (on_data v.layout)) (and_own more) (λ m n d. d) (λ id page one. elim one [ inl own ↦ inl own | inr is ↦ inr (too id page is) ]) h.goes;
  brings = h.brings;
  layout = h.layout;
  given = h.given;
  runs_are = h.runs_are;
  revealed = h.revealed;
}
