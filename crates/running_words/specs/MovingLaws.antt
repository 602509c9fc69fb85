-- What goes with calls that write no label: their changes in a row, and that what is seen keeps to the initial state.
use Rattle.std.proofs.Common.{◌≡◌, ◌⊎◌, inl, inr, ℕ, ◌+◌, ◌*◌, ◌<◌, true, false, List, Option, None, refl, sym, ◌∙◌, ap, subst, arith}
use Rattle.std.specs.Prelude.{[], IfSome}
use Rattle.std.proofs.lemmas.Bool.{true≢false}
use Rattle.std.proofs.lemmas.Bool.Decides.{nat_tests}
use Rattle.std.proofs.lemmas.Option.{none-some}
use Rattle.labelled_disk.specs.declared.evidence.Evidence.{Evidence}
use Rattle.labelled_disk.specs.declared.evidence.Evidence.TheVariants.{Mismatch, Malformed, Missing}
use Rattle.labelled_disk.specs.declared.evidence.Halt.{Halt}
use Rattle.labelled_disk.specs.declared.evidence.Halt.TheVariants.{Disk, Damaged}
use Rattle.labelled_disk.specs.declared.label.Label.{Label}
use Rattle.labelled_disk.specs.declared.layout.Layout.{Layout}
use Rattle.labelled_disk.specs.Sectors.{Sector}
use Rattle.labelled_disk.specs.State.{DiskState}
use Rattle.flat_mem.specs.Memory.{part}
use Rattle.frame_pool.specs.declared.home.Home.{Home}
use Rattle.frame_pool.specs.Frames.{Slots}
use Rattle.file_map.specs.declared.run.Run.{Run}
use Rattle.file_map.specs.Entries.{Sight, Entry}
use Rattle.file_map.specs.FileMap.{Triples, IsNowhere}
use Rattle.file_map.specs.Run.{run_bytes}
use Rattle.swapper_kernel.specs.declared.manager.Manager.{Manager}
use Rattle.swapper_kernel.specs.declared.manager.Manager.TheVariants.{AllocationMap, FileMap}
use Rattle.swapper_kernel.specs.Differs.{Differs}
use Rattle.swapper_kernel.specs.DiffersLaws.{differs_then}
use Rattle.swapper_kernel.specs.Goes.{Goes, Makes, Pages, no_page}
use Rattle.swapper_kernel.specs.GoesLaws.{goes_then, goes_wider}
use Rattle.swapper_kernel.specs.HaltLaws.{brings_then, brings_wider}
use Rattle.swapper_kernel.specs.Homes.{Brings, IsHeld, IsLayout, home_at}
use Rattle.swapper_kernel.specs.Maps.{IsMapHome, pages_of, start_of}
use Rattle.swapper_kernel.specs.Stands.{Stands}
use Rattle.swapper_kernel.specs.Window.{IsPage, Shows}
use Rattle.swapper_kernel.proofs.PlacedLemmas.{parts}
use Rattle.filer_kernel.specs.Causes.{IsGiven, MapShows}
use Rattle.filer_kernel.specs.Evidence.{MayBeMissing}
use Rattle.filer_kernel.specs.Marks.{Marks, BitsAre}
use Rattle.filer_kernel.specs.Triples.{MapIs}
use Rattle.file_manager.specs.Grounds.{IsMapsHome, IsUnframed}
use Rattle.file_manager.specs.LaterLaws.{shows_later, shows_before}
use Rattle.file_manager.specs.ShownLaws.{run_home_named, in_form}
use Rattle.file_manager.specs.KeepLaws.{keeps_after, over_after}
use Rattle.file_manager.specs.WriteLaws.{no_roots}
use Rattle.file_manager.specs.Reasons.{InitialState, AreTabled, IsAtHome, KeepsTo, HasReason, ShowsReason}
use Rattle.fault_core.specs.Reach.{IsReached, Reaches, FindEvidence, ReachHalts, TouchHalts}
use Rattle.fault_core.specs.ReachLaws.{touch_of_reach}
use Rattle.fault_core.specs.Touch.{on_data, Touches}
use Rattle.filer_kernel.specs.View.{View, kept_by}
use Rattle.fault_core.proofs.BeforeLemmas.{map_still, touches_of}
use Rattle.fault_core.proofs.ReachLemmas.{reaches_itself}
use Rattle.running_words.specs.Moving.{any_page, Moves, ViewKeepsTo}

-- ---- In a row.

-- pages are brought in, and the bytes of some change
pub moves_of_touches : (v w : View) (pages : Pages) → Touches pages v w → Moves v w
moves_of_touches v w pages h = record {
  goes = goes_wider (Differs (on_data v.layout)) (Differs (on_data v.layout)) any_page (λ m n d. d) (λ id page one. tt) h.goes;
  brings = h.brings;
  layout = h.layout;
  given = h.given;
  runs_are = h.runs_are;
}

-- pages are found and brought in
pub moves_of_reaches : (v w : View) → Reaches v w → Moves v w
moves_of_reaches v w h = moves_of_touches v w no_page (touches_of no_page h)

pub moves_itself : (v : View) → Moves v v
moves_itself v = moves_of_reaches v v (reaches_itself v)

-- ---- What leaves the maps.

module _ (layout : Layout) (is : IsLayout layout) where
  of_maps : (which : Manager) (k : ℕ) (l : Label) → k < pages_of which layout → on_data layout (start_of which layout + k) l ≡ false
  of_maps AllocationMap k l below =
      let first : layout.first ≡ 1 + layout.vam + layout.vfm = (parts layout is).0 in
      grind (arith, nat_tests)
  of_maps FileMap k l below =
      let first : layout.first ≡ 1 + layout.vam + layout.vfm = (parts layout is).0 in
      grind (arith, nat_tests)

  -- the bytes of either map
  shows_still : (which : Manager) (m n : List Sector) (b : List ℕ) → Differs (on_data layout) m n → Shows which m layout b → Shows which n layout b
  shows_still which m n b differs shows = record {
    count = shows.count;
    page = λ k below.
        let place : ℕ = start_of which layout + k in
        let was : IsPage m place (part b (512 * k) 512) = shows.page k below in
        record { label = was.label; keeps = differs.pages place (was.label, part b (512 * k) 512) was.keeps (of_maps which k was.label below) };
  }

  -- which sectors are used
  marks_still : (marks : Marks) (m n : List Sector) → Differs (on_data layout) m n → BitsAre layout marks m → BitsAre layout marks n
  marks_still marks m n differs bits = record { bytes = bits.bytes; shows = shows_still AllocationMap m n bits.bytes differs bits.shows; are = bits.are }

  -- what the pages of the file map show afterwards they showed before
  sight_earlier : {pages : Pages} {a b : DiskState} {s t : Slots} → Goes (Differs (on_data layout)) pages [] a s b t → (sight : Sight) → MapShows layout b t sight → MapShows layout a s sight
  sight_earlier goes sight shows bytes reveals =
      let now = goes.memory reveals.memory reveals.stands in
      shows bytes (record { memory = now.0; stands = now.1; shows = shows_still FileMap reveals.memory now.0 bytes now.2 reveals.shows; size = goes.makes.went.sectors ∙ reveals.size })

-- ---- One call, and then another.

module _ (u v : View) (is : IsLayout u.layout) (h : Moves u v) where
  -- a run that is given afterwards was given before
  given_earlier : (r : Run) → IsGiven v.layout v.disk v.slots (kept_by v) r → IsGiven u.layout u.disk u.slots (kept_by u) r
  given_earlier r g = elim g [
    | inl one ↦ h.given r one
    | inr (page, shows) ↦ inr (page, sight_earlier u.layout is h.goes (Entry page (run_bytes r)) (subst (λ (l : Layout). MapShows l v.disk v.slots (Entry page (run_bytes r))) h.layout shows))
  ]

  -- and a page that is reached was reached
  reached_earlier : (home : Home) → IsReached v home → IsReached u home
  reached_earlier home g = elim g [
    | inl map ↦ inl (subst (λ (l : Layout). IsMapHome FileMap l home) h.layout map)
    | inr found ↦ inr (record {
      on_data = rw (← h.layout) found.on_data;
      by_run = record { run = found.by_run.run; given = given_earlier found.by_run.run found.by_run.given; form = rw (← h.layout) found.by_run.form; has = found.by_run.has; at = found.by_run.at };
    })
  ]

-- one call, and then another
pub moves_then : (u v w : View) → IsLayout u.layout → Moves u v → Moves v w → Moves u w
moves_then u v w is h k = record {
  goes = goes_then (Differs (on_data u.layout)) (Differs (on_data u.layout)) (Differs (on_data u.layout)) (λ m n o first last. differs_then (on_data u.layout) m n o first last) h.goes
      (subst (λ (l : Layout). Goes (Differs (on_data l)) any_page [] v.disk v.slots w.disk w.slots) h.layout k.goes);
  brings = brings_then h.brings (brings_wider (IsReached u) (reached_earlier u v is h) k.brings);
  layout = k.layout ∙ h.layout;
  given = λ r one. given_earlier u v is h r (k.given r one);
  runs_are = λ m named stands map are. let mid = h.goes.memory m stands in
      k.runs_are mid.0 named mid.1 (rw h.layout (map_still u.layout is named m mid.0 mid.2 map)) (h.runs_are m named stands map are);
}

-- ---- The initial state.

module _ (o : InitialState) (v : View) (named : Triples) (is : IsLayout v.layout) (keeps : KeepsTo o v.layout (kept_by v) v.disk v.slots named) where
  -- a page that is reached is one of a map, or is named
  reached_named : (home : Home) → IsReached v home → IsMapsHome v.layout home ⊎ (named home.id home.page home.sector ≡ true)
  reached_named home reached = elim reached [
    | inl own ↦ inl (FileMap, own)
    | inr found ↦ inr (run_home_named is keeps.size keeps.stands keeps.map (kept_by v) keeps.kept home found.by_run)
  ]

  -- so it is at home
  reached_home : (home : Home) → IsReached v home → IsMapsHome v.layout home ⊎ IsAtHome o v.disk home
  reached_home home reached = elim (reached_named home reached) [ inl own ↦ inl own | inr is_named ↦ inr (keeps.homes home is_named) ]

  -- it is none that a free label would name
  reached_some : (home : Home) → IsReached v home → home.id ≡ 0 → ⊥
  reached_some home reached none = elim reached [
    | inl (page, below, at) ↦ let own : home.id ≡ 2 = ap (λ (h : Home). h.id) at in omega (arith, own, none)
    | inr found ↦ elim found.on_data.id [ inl own ↦ omega (arith, own, none) | inr own ↦ omega (arith, own, none) ]
  ]

  unframed_moved : (t : Slots) → Brings (IsReached v) v.slots t → IsUnframed t 0
  unframed_moved t brings page there = elim (brings.homes there.frame.home (record { slot = there.slot; frame = there.frame; has = there.has; at = refl })) [
    | inl was ↦ keeps.unframed page (record { slot = was.slot; frame = was.frame; has = was.has; same_id = ap (λ (h : Home). h.id) was.at ∙ there.same_id; same_page = ap (λ (h : Home). h.page) was.at ∙ there.same_page })
    | inr came ↦ reached_some there.frame.home came there.same_id
  ]

  module _ (w : View) (h : Moves v w) where
    -- each frame was held before, or is of a map's page, or is where the map has its page
    held_named : (home : Home) → IsHeld w.slots home → IsHeld v.slots home ⊎ (IsMapsHome v.layout home ⊎ (named home.id home.page home.sector ≡ true))
    held_named home held = elim (h.brings.homes home held) [ inl was ↦ inl was | inr came ↦ inr (reached_named home came) ]

    keeps_there : o.tables ≡ None → KeepsTo o v.layout (kept_by w) w.disk w.slots named
    keeps_there untold =
        let now = h.goes.memory keeps.memory keeps.stands in
        keeps_after keeps h.goes.makes now.0 now.1 named (map_still v.layout is named keeps.memory now.0 now.2 keeps.map) (λ home one. inl one)
        (kept_by w) (h.runs_are keeps.memory named keeps.stands keeps.map keeps.kept)
        held_named (unframed_moved w.slots h.brings) (over_after {x = v.layout} named named keeps.over held_named (λ page sector is. is)) keeps.marks (marks_still v.layout is keeps.marks keeps.memory now.0 now.2 keeps.bits) (λ sector from below free. inl (free, λ k write at takes. none-some write at))
        (λ home from may one. inl one) (λ home from may. inr (λ k write at gives. none-some write at)) (λ sector from below used. inl (used, λ k write at up. none-some write at))
        (no_roots o.next) (λ home turn write at gives. absurd (none-some write at)) (λ revealed. subst (λ (t : Option (List ℕ)). IfSome t (AreTabled v.layout named now.0)) (sym untold) tt)

module _ (o : InitialState) (v : View) (named : Triples) (is : IsLayout v.layout) (keeps : ViewKeepsTo o v named) where
  -- a page that the file map does not name is missing with reason
  pub unnamed_missing : (id page : ℕ) → MayBeMissing id page → ((m : List Sector) (triples : Triples) → Stands v.disk v.slots m → MapIs v.layout triples m → IsNowhere triples id page) → HasReason o v.layout v.disk (Missing id page)
  unnamed_missing id page (inl (tables, below)) nowhere =
      let at = keeps.1.0 page below in
      absurd (true≢false (sym at.1 ∙ subst (λ (i : ℕ). named i page at.0 ≡ false) tables (nowhere keeps.0.memory named keeps.0.stands keeps.0.map at.0)))
  unnamed_missing id page (inr client) nowhere = inr (
    client,
    λ sector from.
        elim (keeps.0.rest (record { sector = sector; id = id; page = page }) from client) [
          | inl is_named ↦ absurd (true≢false (sym is_named ∙ nowhere keeps.0.memory named keeps.0.stands keeps.0.map sector))
          | inr evict ↦ evict
        ],
  )

  -- what stops a search for pages has a reason before it
  module _ (breaks : ℕ → Type 0) (w : View) where
    evidence_shows : (e : Evidence) → FindEvidence breaks MayBeMissing v e → HasReason o v.layout v.disk e
    evidence_shows (Mismatch sector wanted found) cause = elim cause.reason [
      | inl (inl held) ↦ elim (keeps.0.frames (home_at sector wanted) held) [ inl own ↦ inl own | inr at ↦ inr (inl at) ]
      | inl (inr own) ↦ inl (FileMap, own)
      | inr came ↦ elim (reached_home o v named is keeps.0 (home_at sector wanted) (inr came)) [ inl own ↦ inl own | inr at ↦ inr (inl at) ]
    ]
    evidence_shows (Malformed structure page) cause = elim cause [
      | inl (second, broken) ↦ absurd (in_form is keeps.0.size keeps.0.stands keeps.0.map page broken)
      | inr (third, broken) ↦ inr (third, keeps.1.1)
    ]
    evidence_shows (Missing id page) cause = unnamed_missing id page cause.0 cause.1

    halt_shows : (e : Halt) → TouchHalts breaks v w e → ShowsReason o v.layout v.disk e
    halt_shows Disk cause = tt
    halt_shows (Damaged evidence) cause = evidence_shows evidence cause

-- what is seen afterwards keeps to it too, whether or not the space tables are named
pub keeps_bare : (o : InitialState) (v w : View) (named : Triples) → IsLayout v.layout → o.tables ≡ None → KeepsTo o v.layout (kept_by v) v.disk v.slots named → Moves v w → KeepsTo o w.layout (kept_by w) w.disk w.slots named
keeps_bare o v w named is untold keeps h = subst (λ (l : Layout). KeepsTo o l (kept_by w) w.disk w.slots named) (sym h.layout) (keeps_there o v named is keeps w h untold)

-- and where they are
pub keeps_moved : (o : InitialState) (v w : View) (named : Triples) → IsLayout v.layout → ViewKeepsTo o v named → Moves v w → ViewKeepsTo o w named
keeps_moved o v w named is keeps h = (keeps_bare o v w named is keeps.1.1 keeps.0 h, keeps.1)

-- a reason that stands after it stood before
pub moved_before : (o : InitialState) (v w : View) (named : Triples) → ViewKeepsTo o v named → Moves v w → (halt : Halt) → ShowsReason o v.layout w.disk halt → ShowsReason o v.layout v.disk halt
moved_before o v w named keeps h halt shows = shows_before o h.goes.makes keeps.0.since v.layout halt shows

-- what stops a search for pages has a reason, already before it
pub touch_shows : (o : InitialState) (v w : View) (named : Triples) (breaks : ℕ → Type 0) → IsLayout v.layout → ViewKeepsTo o v named → (halt : Halt) → TouchHalts breaks v w halt → ShowsReason o v.layout v.disk halt
touch_shows o v w named breaks is keeps halt halts = halt_shows o v named is keeps breaks w halt halts

-- and what stops one for pages of the space tables alone
pub reach_shows : (o : InitialState) (v w : View) (named : Triples) (breaks : ℕ → Type 0) → IsLayout v.layout → ViewKeepsTo o v named → (halt : Halt) → ReachHalts breaks v w halt → ShowsReason o v.layout v.disk halt
reach_shows o v w named breaks is keeps halt halts = touch_shows o v w named breaks is keeps halt (touch_of_reach breaks v w halt halts)

-- and after it
pub touch_reasons : (o : InitialState) (v w : View) (named : Triples) (breaks : ℕ → Type 0) {pages : Pages} → IsLayout v.layout → ViewKeepsTo o v named → Makes pages [] v.disk v.slots w.disk w.slots
    → (halt : Halt) → TouchHalts breaks v w halt → ShowsReason o v.layout w.disk halt
touch_reasons o v w named breaks is keeps makes halt halts = shows_later o makes keeps.0.since v.layout halt (touch_shows o v w named breaks is keeps halt halts)

pub reach_reasons : (o : InitialState) (v w : View) (named : Triples) (breaks : ℕ → Type 0) {pages : Pages} → IsLayout v.layout → ViewKeepsTo o v named → Makes pages [] v.disk v.slots w.disk w.slots
    → (halt : Halt) → ReachHalts breaks v w halt → ShowsReason o v.layout w.disk halt
reach_reasons o v w named breaks is keeps makes halt halts = shows_later o makes keeps.0.since v.layout halt (reach_shows o v w named breaks is keeps halt halts)
