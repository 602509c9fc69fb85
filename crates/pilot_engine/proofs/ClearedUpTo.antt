-- The temporary files up to one are gone, in a loop over the files.
use Rattle.std.proofs.Common.{◌≡◌, inl, inr, ℕ, ◌+◌, ◌*◌, ◌<◌, ◌≤◌, Option, Some, None, refl, sym, ◌∙◌, ap, subst, arith}
use Rattle.std.specs.Prelude.{IfSome}
use Rattle.std.proofs.lemmas.Bool.{cases_lt}
use Rattle.labelled_disk.specs.declared.evidence.Halt.{Halt}
use Rattle.labelled_disk.specs.declared.evidence.Halt.TheVariants as halt
use Rattle.labelled_disk.specs.declared.layout.Layout.{Layout}
use Rattle.labelled_disk.specs.State.{DiskState}
use Rattle.labelled_disk.proofs.AscendingLemmas.{at_id, each_at}
use Rattle.frame_pool.specs.Frames.{Slots}
use Rattle.flat_machine.specs.Machine.{Machine, IsFileId, used}
use Rattle.filer_kernel.specs.declared.cached.CachedRuns.{CachedRuns}
use Rattle.session_words.specs.Parts.{TablesMeaning}
use Rattle.filer_kernel.specs.Cached.{runs_of}
use Rattle.file_map.specs.FileMap.{Triples}
use Rattle.file_manager.specs.declared.volume.Volume.{Volume}
use Rattle.file_manager.specs.Reasons.{HasTables, KeepsTo, InitialState}
use Rattle.running_words.specs.Bound.{room_above, visit_cost}
use Rattle.pilot_engine.specs.Closing.{IsOpenStop, Shed, Throughout, up_to_next}
use Rattle.running_words.specs.Session.{IsOpen, IsAlone, Wrote}
use Rattle.swapper_kernel.specs.GoesLaws.{makes_nothing}
use Rattle.session_words.specs.Volume.{volume_page}
use Rattle.pilot_engine.proofs.EndCosts.{room_all}
use Rattle.running_words.specs.Session.{AreInForm}
use Rattle.pilot_engine.proofs.StopLemmas.{stops_quiet, stop_less, throughout_less, throughout_then}
use Rattle.pilot_engine.proofs.ShedLemmas.{shed_nothing, shed_then}
use Rattle.pilot_engine.proofs.WroteLemmas.{wrote_nothing, wrote_then}

-- disk, frames and runs keep to the initial state, whatever the file map names, all pages of the space tables among it, whose bytes are not revealed
abbrev pub KeepsSome : InitialState → DiskState → Slots → Layout → CachedRuns → Type 0
KeepsSome o disk slots layout runs = (named : Triples) × (KeepsTo o layout (runs_of layout.sectors runs) disk slots named × HasTables o named)

pub record ClearedUpTo (cursor : ℕ) (d0 : DiskState) (s0 : Slots) (l0 : Layout) (r0 : CachedRuns) (v0 : Volume) (d : DiskState) (s : Slots) (layout : Layout) (runs : CachedRuns) (volume : Volume) : Type 0 where
  pub above : 15 ≤ cursor
  pub size : d.sectors ≡ layout.sectors
  pub opened : IsOpen layout volume
  pub same_layout : layout ≡ l0
  pub wrote : Wrote d0 s0 d s
  pub keeps : (o : InitialState) → KeepsSome o d0 s0 l0 r0 → KeepsSome o d s layout runs
  pub revealed : (spaces_of : TablesMeaning) (m : Machine) → IsAlone spaces_of d0 s0 l0 r0 v0 m → Shed spaces_of (λ id. id ≤ cursor) m d s layout runs volume
  pub stops : (spaces_of : TablesMeaning) (m : Machine) → IsAlone spaces_of d0 s0 l0 r0 v0 m → Throughout (IsOpenStop m) d0 d
  pub paid : (spaces_of : TablesMeaning) (m : Machine) (session : IsAlone spaces_of d0 s0 l0 r0 v0 m) → d.transfers + visit_cost * room_above cursor (revealed spaces_of m session).left.files ≤ d0.transfers + visit_cost * used m

-- no file yet
pub cleared_none : (d0 : DiskState) (s0 : Slots) (l0 : Layout) (r0 : CachedRuns) (v0 : Volume) → d0.sectors ≡ l0.sectors → IsOpen l0 v0 → AreInForm d0 → ClearedUpTo 15 d0 s0 l0 r0 v0 d0 s0 l0 r0 v0
cleared_none d0 s0 l0 r0 v0 size opened form = record {
  stops = λ spaces_of m s. stops_quiet spaces_of d0 d0 s0 s0 m s.session.stands form (makes_nothing volume_page d0 s0);
  above = omega arith;
  size = size;
  opened = opened;
  same_layout = refl;
  wrote = wrote_nothing d0 s0;
  keeps = λ o keeps. keeps;
  revealed = λ spaces_of m s. shed_nothing spaces_of d0 s0 l0 r0 v0 m (λ id. id ≤ 15) s (λ id f low found.
      let high = (each_at (λ w. IsFileId m.serial m.counter w.id) m.files s.session.stands.is.by.machine.ids_given id f found).above_reserved in
      let same = at_id m.files id f found in
      absurd (omega (arith, low, high, same)));
  paid = λ spaces_of m session. let all = room_all 15 m.files in omega (arith, all);
}

module _ (cursor : ℕ) (d0 : DiskState) (s0 : Slots) (l0 : Layout) (r0 : CachedRuns) (v0 : Volume) (d : DiskState) (s : Slots) (layout : Layout) (runs : CachedRuns) (volume : Volume) (up : ClearedUpTo cursor d0 s0 l0 r0 v0 d s layout runs volume)
    (d2 : DiskState) (s2 : Slots) (l2 : Layout) (r2 : CachedRuns) (v2 : Volume) where
  -- each crash state until then
  pub cleared_stops : ((spaces_of : TablesMeaning) (m : Machine) → IsAlone spaces_of d s layout runs volume m → Throughout (IsOpenStop m) d d2) → (spaces_of : TablesMeaning) (m : Machine) → IsAlone spaces_of d0 s0 l0 r0 v0 m
      → Throughout (IsOpenStop m) d0 d2
  cleared_stops quiet spaces_of m session =
      let h = up.revealed spaces_of m session in
      throughout_then (IsOpenStop m) (up.stops spaces_of m session) (throughout_less (IsOpenStop h.left) (IsOpenStop m) (stop_less m h.left h.sheds) (quiet spaces_of h.left h.stands))

  -- a file more
  pub cleared_more : (next : Option ℕ) (id : ℕ) → next ≡ Some id → ((spaces_of : TablesMeaning) (m : Machine) → IsAlone spaces_of d s layout runs volume m → Shed spaces_of (up_to_next cursor next) m d2 s2 l2 r2 v2)
      → ((spaces_of : TablesMeaning) (m : Machine) → IsAlone spaces_of d s layout runs volume m → Throughout (IsOpenStop m) d d2) → IfSome next (λ j. cursor < j) → Wrote d s d2 s2 → ((o : InitialState) → KeepsSome o d s layout runs → KeepsSome o d2 s2 l2 r2) → IsOpen l2 v2 → l2 ≡ layout
      → ((spaces_of : TablesMeaning) (m : Machine) → IsAlone spaces_of d s layout runs volume m → IfSome next (λ j. d2.transfers + visit_cost * room_above j m.files ≤ d.transfers + visit_cost * room_above cursor m.files))
      → ClearedUpTo id d0 s0 l0 r0 v0 d2 s2 l2 r2 v2
  cleared_more next id is shed quiet rises wrote keeps opened same visit = record {
    stops = cleared_stops quiet;
    above = let was = up.above in let above : cursor < id = subst (λ (o : Option ℕ). IfSome o (λ j. cursor < j)) is rises in omega (arith, was, above);
    size = wrote.makes.went.sectors ∙ up.size ∙ ap (λ (l : Layout). l.sectors) (sym same);
    opened = opened;
    same_layout = same ∙ up.same_layout;
    wrote = wrote_then up.wrote wrote;
    keeps = λ o was. keeps o (up.keeps o was);
    revealed = λ spaces_of m session.
        let h = up.revealed spaces_of m session in
        shed_then spaces_of (λ j. j ≤ cursor) (up_to_next cursor (Some id)) (λ j. j ≤ id) m d s layout runs volume d2 s2 l2 r2 v2 h (subst (λ (o : Option ℕ). Shed spaces_of (up_to_next cursor o) h.left d2 s2 l2 r2 v2) is (shed spaces_of h.left h.stands))
        (λ j low. elim (cases_lt cursor j) [ inl over ↦ inr (over, low) | inr under ↦ inl under ]);
    paid = λ spaces_of m session.
        let h = up.revealed spaces_of m session in
        let k = subst (λ (o : Option ℕ). Shed spaces_of (up_to_next cursor o) h.left d2 s2 l2 r2 v2) is (shed spaces_of h.left h.stands) in
        let had = up.paid spaces_of m session in
        let now : d2.transfers + visit_cost * room_above id h.left.files ≤ d.transfers + visit_cost * room_above cursor h.left.files = subst (λ (o : Option ℕ). IfSome o (λ j. d2.transfers + visit_cost * room_above j h.left.files ≤ d.transfers + visit_cost * room_above cursor h.left.files)) is (visit spaces_of h.left h.stands) in
        let less = k.sheds.room id in
        omega (arith, had, now, less);
  }

  -- all of them
  pub cleared_all : (next : Option ℕ) → next ≡ None → ((spaces_of : TablesMeaning) (m : Machine) → IsAlone spaces_of d s layout runs volume m → Shed spaces_of (up_to_next cursor next) m d2 s2 l2 r2 v2)
      → (spaces_of : TablesMeaning) (m : Machine) → IsAlone spaces_of d0 s0 l0 r0 v0 m → Shed spaces_of (λ id. Unit {0}) m d2 s2 l2 r2 v2
  cleared_all next is shed spaces_of m session =
      let h = up.revealed spaces_of m session in
      shed_then spaces_of (λ j. j ≤ cursor) (up_to_next cursor None) (λ j. Unit {0}) m d s layout runs volume d2 s2 l2 r2 v2 h (subst (λ (o : Option ℕ). Shed spaces_of (up_to_next cursor o) h.left d2 s2 l2 r2 v2) is (shed spaces_of h.left h.stands))
      (λ j any. elim (cases_lt cursor j) [ inl over ↦ inr over | inr under ↦ inl under ])

module _ (cursor : ℕ) (d0 : DiskState) (s0 : Slots) (l0 : Layout) (r0 : CachedRuns) (v0 : Volume) (d : DiskState) (s : Slots) (layout : Layout) (runs : CachedRuns) (volume : Volume) (up : ClearedUpTo cursor d0 s0 l0 r0 v0 d s layout runs volume) where
  -- a halt
  pub cleared_sound : (e : Halt) → ((spaces_of : TablesMeaning) (m : Machine) → IsAlone spaces_of d s layout runs volume m → e ≡ halt.Disk) → (spaces_of : TablesMeaning) (m : Machine) → IsAlone spaces_of d0 s0 l0 r0 v0 m → e ≡ halt.Disk
  cleared_sound e sound spaces_of m session = let h = up.revealed spaces_of m session in sound spaces_of h.left h.stands

  -- what is spent once a call more was paid
  pub cleared_paid : (last : ℕ) → ((spaces_of : TablesMeaning) (m : Machine) → IsAlone spaces_of d s layout runs volume m → last ≤ d.transfers + (36 + visit_cost * room_above cursor m.files)) → (spaces_of : TablesMeaning) (m : Machine) → IsAlone spaces_of d0 s0 l0 r0 v0 m
      → last ≤ d0.transfers + (36 + visit_cost * used m)
  cleared_paid last spent spaces_of m session =
      let h = up.revealed spaces_of m session in
      let had = up.paid spaces_of m session in
      let now = spent spaces_of h.left h.stands in
      omega (arith, had, now)
