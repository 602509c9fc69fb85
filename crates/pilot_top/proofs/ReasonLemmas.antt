-- The reason of what is reported of damage, and what is not revealed, from a session back to the disk at the start.
use Rattle.std.proofs.Common.{◌≡◌, ℕ, List, [], ◌∷◌, ◌++◌, length, Option, Some, Ok, Err, refl, sym, ap, ◌∙◌, subst, arith}
use Rattle.labelled_disk.specs.declared.disk.Disk.{Ghosts}
use Rattle.labelled_disk.specs.declared.disk.DiskWrite.{DiskWrite}
use Rattle.labelled_disk.specs.declared.evidence.Evidence.{Evidence}
use Rattle.labelled_disk.specs.declared.evidence.Halt.{Halt}
use Rattle.labelled_disk.specs.declared.evidence.Halt.TheVariants as halt
use Rattle.labelled_disk.specs.declared.layout.Layout.{Layout}
use Rattle.labelled_disk.specs.Layout.{layout_of}
use Rattle.labelled_disk.specs.Root.{root_page}
use Rattle.labelled_disk.specs.Sectors.{Sector}
use Rattle.labelled_disk.specs.State.{DiskState}
use Rattle.swapper_kernel.specs.Goes.{no_page}
use Rattle.swapper_kernel.specs.Homes.{IsLayout}
use Rattle.file_map.specs.FileMap.{Triples}
use Rattle.fault_core.specs.declared.core_over.Core.{Core}
use Rattle.fault_core.proofs.LackLemmas.{misses_wider}
use Rattle.file_manager.specs.Creating.{IsMonotone, next_id}
use Rattle.file_manager.specs.RetoldLaws.{giving_shows, on_giving}
use Rattle.file_manager.specs.Reasons.{HasReason, IsNotOlder, IsOfFile, KeepsOn, InitialState, ShowsReason, WasBelow, giving, initial_state}
use Rattle.volume_root.specs.declared.root.Root.{Root}
use Rattle.volume_root.specs.RootPage.{root_in, root_write}
use Rattle.space_calls.specs.FilesLaws.{on_wider}
use Rattle.space_calls.specs.Sees.{SeesFiles}
use Rattle.pilot_engine.specs.declared.session.Session.{Session}
use Rattle.pilot_engine.specs.Reasons.{IsBegun, IsBlameless, SeesHome, ShowsReasonAtStart, NeverBlamesFiles, NeverBlamesFilesAtStart}
use Rattle.pilot_engine.specs.Starting.{AccountsAtStart}
use Rattle.pilot_engine.specs.declared.fault.StartFault.{StartFault}
use Rattle.pilot_engine.specs.declared.fault.StartFault.TheVariants as start_fault
use Rattle.pilot_top.specs.Headline.{RevealsDamage}
use Rattle.pilot_top.specs.InitialState.{FromEachInitialState, FromInitialState}
use Rattle.pilot_top.specs.Replied.{Replied}
use Rattle.pilot_top.specs.declared.status.Status.{Status}
use Rattle.pilot_top.specs.declared.status.Status.TheVariants as status
use Rattle.fault_core.specs.Core.{state}

-- ---- From one session to a later one.

-- a root, a later one, and one after it
monotone_then : (r q p : Root) → IsMonotone r q → IsMonotone q p → IsMonotone r p
monotone_then r q p first second = let low = first.0 in let high = second.0 in (omega (arith, low, high), second.1 ∙ first.1)

-- a root that is later than one that is ahead is so too, whatever it has given out
pub not_older_then : (o : InitialState) (q p : Root) → IsNotOlder o q → IsMonotone q p → IsNotOlder (giving o (next_id p)) p
not_older_then o q p not_older on = record { monotone = monotone_then o.root q p not_older.monotone on; next = omega arith }

-- The later session keeps to each initial state to which the first one kept, and its root is ahead of what was given out; it sees the space
-- tables, and the pages that its windows show were there, where that was so of the first one; and the volume's root is a later one.
pub record GoesOn {D A : Type 0} {G : Ghosts D} (first now : Session D A G) : Type 0 where
  pub keeps : (o : InitialState) → KeepsOn o first.core.filer → IsNotOlder o first.volume.root → KeepsOn (giving o (next_id now.volume.root)) now.core.filer
  pub sees : (o : InitialState) → KeepsOn o first.core.filer → IsNotOlder o first.volume.root → SeesHome o first.core → SeesHome o now.core
  pub monotone : IsMonotone first.volume.root now.volume.root

module _ {D A : Type 0} {G : Ghosts D} where
  pub goes_nowhere : (s : Session D A G) → GoesOn s s
  goes_nowhere s = record { keeps = λ o keeps not_older. on_giving o s.core.filer (next_id s.volume.root) keeps not_older.next; sees = λ o keeps not_older seen. seen; monotone = (omega arith, refl) }

  pub goes_then : (first mid last : Session D A G) → GoesOn first mid → GoesOn mid last → GoesOn first last
  goes_then first mid last h then_on = record {
    keeps = λ o keeps not_older. then_on.keeps (giving o (next_id mid.volume.root)) (h.keeps o keeps not_older) (not_older_then o first.volume.root mid.volume.root not_older h.monotone);
    sees = λ o keeps not_older seen. then_on.sees (giving o (next_id mid.volume.root)) (h.keeps o keeps not_older) (not_older_then o first.volume.root mid.volume.root not_older h.monotone) (h.sees o keeps not_older seen);
    monotone = monotone_then first.volume.root mid.volume.root last.volume.root h.monotone then_on.monotone;
  }

  -- in the same layout, a reason in each initial state to which the later one keeps is one in each to which the first one kept
  module _ (first now : Session D A G) (same : (state now.core).layout ≡ (state first.core).layout) (on : GoesOn first now) (disk : DiskState) (e : Evidence) where
    pub reason_before : FromEachInitialState now disk e → FromEachInitialState first disk e
    reason_before from o kept not_older =
        let next = next_id now.volume.root in
        let there = from (giving o next) (on.keeps o kept not_older) (not_older_then o first.volume.root now.volume.root not_older on.monotone) in
        (subst (λ (l : Layout). HasReason o l disk e) same (giving_shows o next (state now.core).layout disk (halt.Damaged e) there.0), λ seen. there.1 (on.sees o kept not_older seen))

    -- what a halt shows has its reason, and is none that is ruled out
    pub reason_halted : (h : Halt) → ((o : InitialState) → KeepsOn o now.core.filer → IsNotOlder o now.volume.root → ShowsReason o (state now.core).layout disk h × (SeesHome o now.core → IsBlameless o disk h))
        → h ≡ halt.Damaged e → FromEachInitialState first disk e
    reason_halted h shows is = reason_before (λ o kept not_older.
        let shown = shows o kept not_older in
        (subst (λ (why : Halt). ShowsReason o (state now.core).layout disk why) is shown.0, λ seen. subst (λ (why : Halt). IsBlameless o disk why) is (shown.1 seen)))

  -- what is revealed of a disk is revealed of the same one
  pub damage_same : (session : Session D A G) {t : List ℕ} {took : Option (List ℕ)} {failed : Type 0} (x y : D) → x ≡ y
      → (revealed : RevealsDamage t took failed (G.state y)) × FromEachInitialState session (G.state y) revealed.evidence → (revealed : RevealsDamage t took failed (G.state x)) × FromEachInitialState session (G.state x) revealed.evidence
  damage_same session {t = t} {took = took} {failed = failed} x y same is = subst (λ (z : D). (revealed : RevealsDamage t took failed (G.state z)) × FromEachInitialState session (G.state z) revealed.evidence) (sym same) is

  -- where no window shows a page of a file, whatever windows show was there
  home_seen : (o : InitialState) (core : Core D A G) → SeesFiles no_page core → SeesHome o core
  home_seen o core (ss, (sees, on)) = (ss, (sees, on_wider no_page (WasBelow o (state core).disk) (λ id page none. absurd none) ss on))

  -- a session that started keeps to what stood when it did, and sees the space tables
  pub reason_started : (session : Session D A G) (before after : DiskState) (e : Evidence) → IsLayout (state session.core).layout → (state session.core).layout.sectors ≡ before.sectors
      → ((d : List Sector) → before.contents ≡ Some d → length d ≡ before.sectors)
      → ((d : List Sector) (named : Triples) (ws : List DiskWrite) → IsBegun d named ws before → AccountsAtStart d named ws (Ok session))
      → ((d : List Sector) → before.contents ≡ Some d → IsMonotone (root_in (root_page d)) session.volume.root)
      → FromEachInitialState session after e → FromInitialState before after e
  reason_started session before after e accepted size whole accounts monotone from d named ws begun =
      let same : (state session.core).layout ≡ layout_of (length d) = accepted.1 ∙ ap layout_of (size ∙ sym (whole d begun.contents)) in
      let kept = (accounts d named ws begun).keeps_to in
      let o = initial_state d named (ws ++ (root_write kept.0 ∷ [])) in
      let on = monotone d begun.contents in
      let there = from o kept.1 (record { monotone = on; next = on.0 }) in
      (kept.0, (subst (λ (l : Layout). HasReason o l after e) same there.0, there.1 (home_seen o session.core ((accounts d named ws begun).sees))))

-- no session started
pub reason_refused : {D A : Type 0} {G : Ghosts D} (before : DiskState) (disk : D) (f : StartFault)
    → ((d : List Sector) (named : Triples) (ws : List DiskWrite) → IsBegun d named ws before → AccountsAtStart {D = D} {A = A} {G = G} d named ws (Err (f, disk)))
    → (e : Evidence) → f ≡ start_fault.Halt (halt.Damaged e) → FromInitialState before (G.state disk) e
reason_refused {G = G} before disk f accounts e is d named ws begun =
    let after = G.state disk in
    let shown = (accounts d named ws begun).reasons in
    let o = initial_state d named (ws ++ (root_write shown.0 ∷ [])) in
    let blameless : NeverBlamesFiles (halt.Damaged e) = subst NeverBlamesFilesAtStart is ((accounts d named ws begun).sees) in (
      shown.0,
      (
        subst (λ (why : StartFault). ShowsReasonAtStart o (layout_of (length d)) after why) is shown.1,
        (blameless.0, misses_wider no_page (IsOfFile o after) (λ id page none. absurd none) (halt.Damaged e) blameless.1),
      ),
    )

-- what was replied, with another word for the reason
pub replied_reasoned : (s : Status) (b t : List ℕ) (left took : Option (List ℕ)) (failed : Type 0) (disk : DiskState) (reasoned wanted : Evidence → Type 0) → ((e : Evidence) → reasoned e → wanted e)
    → Replied s b left t took failed disk reasoned → Replied s b left t took failed disk wanted
replied_reasoned status.Damaged b t left took failed disk reasoned wanted from is = (is.0, is.1, from is.0.evidence is.2)
replied_reasoned status.Done b t left took failed disk reasoned wanted from is = is
replied_reasoned status.DiskFault b t left took failed disk reasoned wanted from is = is
replied_reasoned status.Long b t left took failed disk reasoned wanted from is = is
replied_reasoned status.StreamFault b t left took failed disk reasoned wanted from is = is
replied_reasoned status.NotOpened b t left took failed disk reasoned wanted from is = is
replied_reasoned status.NoMemory b t left took failed disk reasoned wanted from is = is
replied_reasoned status.Usage b t left took failed disk reasoned wanted from is = is
replied_reasoned status.Unfit b t left took failed disk reasoned wanted from is = is
