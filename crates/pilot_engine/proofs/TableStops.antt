-- The pages of the space tables are freed, both maps are written, and then the root: what a stop leaves.
use Rattle.std.proofs.Common.{◌≡◌, ◌⊎◌, inl, inr, ℕ, zero, suc, ◌+◌, ◌-◌, ◌≤◌, Bool, true, false, not, ◌&&◌, ◌||◌, cond, List, [], ◌∷◌, length, Option, Some, None, refl, sym, ◌∙◌, ap, subst, arith, eqb}
use Rattle.std.specs.Prelude.{slice_get, nat_lt}
use Rattle.std.specs.Option.{option_map_or}
use Rattle.std.specs.List.{AllByRecursion, position_or_len}
use Rattle.std.proofs.lemmas.Bool.{and_left, eq-eqb, eqb-true, true≢false}
use Rattle.std.proofs.lemmas.Option.{same_Some, none-some, slice_get_within}
use Rattle.labelled_disk.specs.Calls.{RevealsSame, RevealsWrite}
use Rattle.labelled_disk.specs.declared.label.Label.{Label}
use Rattle.labelled_disk.specs.File.{File, size}
use Rattle.labelled_disk.specs.FilesOn.{is_of, is_page, leads_file, file_among}
use Rattle.labelled_disk.specs.Label.{is_file, is_file_id}
use Rattle.labelled_disk.specs.Layout.{data_sectors, first_data}
use Rattle.labelled_disk.specs.Lowest.{is_first, is_needed}
use Rattle.labelled_disk.specs.CrashState.{crash_state}
use Rattle.labelled_disk.specs.Root.{LabelsRight}
use Rattle.labelled_disk.specs.RootLaws.{StaysRight}
use Rattle.labelled_disk.specs.Runs.{freeing}
use Rattle.labelled_disk.specs.Sectors.{Sector}
use Rattle.labelled_disk.specs.State.{DiskState}
use Rattle.labelled_disk.proofs.SectorWrites as w
use Rattle.labelled_disk.proofs.WriteLemmas.{data_get}
use Rattle.labelled_disk.proofs.WriteRunLemmas.{appended_none, appended_one}
use Rattle.label_laws.specs.Unneeded.{IsUnneeded}
use Rattle.label_laws.proofs.StayLemmas.{stay_laws}
use Rattle.volume_root.specs.declared.root.Root.{Root}
use Rattle.volume_root.specs.RootPage.{IsValidRoot, root_write}
use Rattle.frame_pool.specs.Frames.{Slots}
use Rattle.flat_machine.specs.IsMachine.{IsMachine}
use Rattle.flat_machine.specs.Machine.{Machine}
use Rattle.flat_machine.specs.Settled.{Agrees, settled}
use Rattle.swapper_kernel.specs.DiffersLaws.{names_id}
use Rattle.swapper_kernel.specs.Goes.{Makes, Swaps}
use Rattle.swapper_kernel.specs.GoesLaws.{swaps_wider}
use Rattle.swapper_kernel.specs.Stands.{labels_of}
use Rattle.session_words.specs.Parts.{TablesMeaning, DirtyAreLoose, is_loose}
use Rattle.session_words.specs.StandsFor.{StandsFor}
use Rattle.session_words.specs.Volume.{volume_page}
use Rattle.session_words.proofs.RunStopLemmas.{run_stops}
use Rattle.session_words.proofs.SettledLemmas.{settled_is_revealed}
use Rattle.file_manager.specs.Tables.{AreTablePages}
use Rattle.pilot_engine.specs.Closing.{IsEmptied, IsOpenStop, IsReady, IsStop, Throughout, closed_root}
use Rattle.pilot_engine.proofs.EndLemmas.{shut_stop}
use Rattle.running_words.specs.Session.{AreInForm}
use Rattle.running_words.proofs.StageLemmas.{begun, same_labels}
use Rattle.pilot_engine.proofs.AloneLemmas.{forgotten, stop_more}
use Rattle.pilot_engine.proofs.StopLemmas.{flag_stays, freeing_none, number_stays, open_is_stop, stops_by, throughout_less, throughout_then}

-- No file needs a page of the space tables.

-- the first that passes passes
first_passes : (test : Sector → Bool) (xs : List Sector) (i : ℕ) (s : Sector) → slice_get xs i ≡ Some s → is_first test xs i ≡ true → test s ≡ true
first_passes test [] i s here first = absurd (none-some s here)
first_passes test (x ∷ xs) zero s here first = ap test (sym (same_Some x s here)) ∙ either (test x) refl first
  where
    either : (b : Bool) → test x ≡ b → eqb (cond (not b) (1 + position_or_len test xs) 0) 0 ≡ true → test x ≡ true
    either true e h = e
    either false e h = absurd (omega (arith, eqb-true (1 + position_or_len test xs) 0 h))
first_passes test (x ∷ xs) (suc i) s here first = either (test x) first (λ h. first_passes test xs i s here h)
  where
    either : (b : Bool) → eqb (cond (not b) (1 + position_or_len test xs) 0) (suc i) ≡ true → (is_first test xs i ≡ true → test s ≡ true) → test s ≡ true
    either true h more = absurd (omega (arith, eqb-true 0 (suc i) h))
    either false h more = more (eq-eqb (position_or_len test xs) i (omega (arith, eqb-true (1 + position_or_len test xs) (suc i) h)))

-- what a file needs of a sector with its identifier
abbrev needs : List Sector → ℕ → Sector → File → Bool
needs xs i s f = is_first (leads_file false s.0.id) xs i || (nat_lt s.0.page (size f) && is_first (is_page s.0.id s.0.page) xs i)

plain_unneeded : (xs : List Sector) (i : ℕ) (t : Sector) → slice_get xs i ≡ Some t → is_file t.0 ≡ false → is_needed false xs i ≡ false
plain_unneeded xs i t here plain =
    ap (λ (o : Option Sector). option_map_or (λ s. option_map_or (needs xs i s) (file_among false xs s.0.id) false) o false) here ∙ either (file_among false xs t.0.id)
  where
    not_of : is_of t.0.id t ≡ false
    not_of = and_left (is_file t.0) (eqb t.0.id t.0.id) plain

    not_first : (test : Sector → Bool) → test t ≡ false → (b : Bool) → is_first test xs i ≡ b → b ≡ false
    not_first test fails false e = refl
    not_first test fails true e = absurd (true≢false (sym (first_passes test xs i t here e) ∙ fails))

    both : (a b c : Bool) → a ≡ false → c ≡ false → (a || (b && c)) ≡ false
    both true b c p q = absurd (true≢false p)
    both false true c p q = q
    both false false c p q = refl

    either : (o : Option File) → option_map_or (needs xs i t) o false ≡ false
    either None = refl
    either (Some f) =
        both (is_first (leads_file false t.0.id) xs i) (nat_lt t.0.page (size f)) (is_first (is_page t.0.id t.0.page) xs i)
        (not_first (leads_file false t.0.id) (w.not_of-not_leader false t.0.id t not_of) (is_first (leads_file false t.0.id) xs i) refl)
        (not_first (is_page t.0.id t.0.page) (w.not_of-not_page false t.0.id t.0.page t not_of) (is_first (is_page t.0.id t.0.page) xs i) refl)

no_file : (l : Label) → l.id ≡ 3 → is_file l ≡ false
no_file l three = let none : is_file_id l.id ≡ false = ap is_file_id three in rw none refl

unneeded : (d : List Sector) (page : ℕ) (is : List ℕ) → AreTablePages d page is → AllByRecursion (IsUnneeded false d) is
unneeded d page [] are = tt
unneeded d page (i ∷ is) are =
    let t = are.0 in (
      record {
        is_data = t.there.is_data;
        within = slice_get_within d i t.s t.there.here;
        unneeded = plain_unneeded (data_sectors d) (i - first_data (length d)) t.s (data_get false 0 0 d i t.s t.there.is_data t.there.here) (no_file t.s.0 (names_id t.s.0 (record { id = 3; page = page }) t.passes));
      },
      unneeded d (page + 1) is are.1,
    )

-- the pages of the space tables are freed
pub stops_freeing : (spaces_of : TablesMeaning) (old new : DiskState) (before after : Slots) (m : Machine) (stands : StandsFor spaces_of old before m) → AreInForm old
    → (is : List ℕ) → ((d : List Sector) → labels_of d ≡ labels_of stands.memory → AreTablePages d 0 is) → Makes volume_page (freeing is) old before new after → Throughout (IsOpenStop m) old new
stops_freeing spaces_of old new before after m stands form is were makes = stops_by spaces_of old new before after m stands form (freeing is) (freeing_none is) makes (λ d k revealed.
    let b = begun spaces_of old before m d stands revealed (form d revealed) in
    let free = unneeded d 0 is (were d (same_labels old before stands.memory d stands.stands revealed)) in
    run_stops.quiet_stops m (freeing is) old new before d makes.wrote b (λ j few. stay_laws.freed d is (settled_is_revealed d m b.settled_disk).right free j) k)

-- both maps are written
pub stops_forcing : (m : Machine) (r : Root) (old new : DiskState) (before after : Slots) → IsEmptied m r old before → Swaps old before new after → ((d : List Sector) → old.contents ≡ Some d → IsOpenStop m d) → Throughout (IsOpenStop m) old new
stops_forcing m r old new before after e swaps start = record {
  writes = makes.wrote.writes;
  appended = makes.wrote.appended;
  each = λ d k revealed.
      let stop = start d revealed in
      let stays = run_stops.start_stops [] old new before d makes.wrote loose revealed (λ j few. still d j few stop.revealed.right) k in
      record {
        revealed = record { agrees = subst (λ (fs : List File). Agrees fs (settled m)) (sym stays.files) stop.revealed.agrees; right = stays.right };
        same_serial = number_stays makes.wrote tt d k revealed 16 m.serial stop.same_serial;
        same_counter = number_stays makes.wrote tt d k revealed 20 m.counter stop.same_counter;
        open_flag = flag_stays makes.wrote tt d k revealed stop.open_flag;
      };
}
  where
    makes : Makes volume_page [] old before new after
    makes = (swaps_wider volume_page swaps).makes

    low : (id page : ℕ) → (id ≡ 1) ⊎ (id ≡ 2) → is_loose [] id page ≡ true
    low id page (inl one) = ap (λ (k : ℕ). is_loose [] k page) one
    low id page (inr two) = ap (λ (k : ℕ). is_loose [] k page) two

    loose : DirtyAreLoose before []
    loose id page dirty = low id page (elim (e.maps_alone dirty.slot dirty.frame dirty.has) [ inl one ↦ inl (sym dirty.same_id ∙ one) | inr two ↦ inr (sym dirty.same_id ∙ two) ])

    still : (d : List Sector) (j : ℕ) → j ≤ 0 → LabelsRight d → StaysRight false d (crash_state d [] j)
    still d zero few right = record { files = refl; right = right }
    still d (suc j) few right = absurd (omega (arith, few))

-- the root is written, or it isn't
pub stops_root : (m : Machine) (r : Root) (old new : DiskState) → (ready : IsReady m r old) → IsValidRoot (length ready.sectors) r → ((d : List Sector) → old.contents ≡ Some d → IsOpenStop m d)
    → RevealsSame old new ⊎ RevealsWrite (root_write (closed_root r)) old new → Throughout (IsStop m) old new
stops_root m r old new ready valid start (inl same) = record {
  writes = [];
  appended = appended_none same;
  each = λ d k revealed. none d k (open_is_stop m d (start d revealed));
}
  where
    none : (d : List Sector) (k : ℕ) → IsStop m d → IsStop m (crash_state d [] k)
    none d zero is = is
    none d (suc k) is = is
stops_root m r old new ready valid start (inr wrote) = record {
  writes = root_write (closed_root r) ∷ [];
  appended = appended_one (root_write (closed_root r)) wrote;
  each = λ d k revealed. one d k (open_is_stop m d (start d revealed)) (same_Some ready.sectors d (sym ready.revealed ∙ revealed));
}
  where
    after : IsStop m (crash_state ready.sectors (root_write (closed_root r) ∷ []) 1)
    after = shut_stop m r ready.sectors ready.closed ready.same_serial ready.same_counter valid (start ready.sectors ready.revealed)

    one : (d : List Sector) (k : ℕ) → IsStop m d → ready.sectors ≡ d → IsStop m (crash_state d (root_write (closed_root r) ∷ []) k)
    one d zero is same = is
    one d (suc zero) is same = subst (λ (e : List Sector). IsStop m (crash_state e (root_write (closed_root r) ∷ []) 1)) same after
    one d (suc (suc k)) is same = subst (λ (e : List Sector). IsStop m (crash_state e (root_write (closed_root r) ∷ []) 1)) same after

-- the frames of what windows show were given up, and then the volume was closed
pub stops_closed : (m : Machine) → IsMachine m → {a b c : DiskState} → Throughout (IsOpenStop m) a b → Throughout (IsStop (forgotten m)) b c → Throughout (IsStop m) a c
stops_closed m is first later = throughout_then (IsStop m) (throughout_less (IsOpenStop m) (IsStop m) (open_is_stop m) first) (throughout_less (IsStop (forgotten m)) (IsStop m) (λ d. stop_more d m is) later)
