-- Each crash state of a call on a file reveals the settled files of one of its stages.
use Rattle.std.proofs.Common.{◌≡◌, ◌≢◌, ℕ, zero, suc, ◌+◌, ◌-◌, ◌<◌, ◌≤◌, Bool, true, false, cond, List, [], ◌∷◌, length, take_all, append-nil, Option, Some, None, refl, sym, ◌∙◌, ap, subst, arith}
use Rattle.std.specs.Prelude.{nat_lt, slice_get, ◌==◌, is_none, if◌then◌else◌, option_map}
use Rattle.std.specs.Option.{option_map_or}
use Rattle.std.proofs.lemmas.Bool.Decides.{nat_tests}
use Rattle.labelled_disk.specs.declared.disk.DiskWrite.{DiskWrite}
use Rattle.labelled_disk.specs.declared.disk.DiskWrite.TheVariants.{LabelOnly}
use Rattle.labelled_disk.specs.File.{File, Page, size, file_at}
use Rattle.labelled_disk.specs.FilesOn.{leads_file}
use Rattle.labelled_disk.specs.Label.{names, leader_page, is_file_id}
use Rattle.labelled_disk.specs.CrashState.{crash_state}
use Rattle.labelled_disk.specs.Runs.{growth, freeing, AreUnused, IsAt, ArePagesDown, ArePagesUp, lengthened, shortened}
use Rattle.labelled_disk.specs.Sectors.{Sector}
use Rattle.labelled_disk.specs.State.{DiskState}
use Rattle.label_laws.specs.Marks.{permanent_label, immutable_label}
use Rattle.label_laws.specs.MixedVolumes.{label_count}
use Rattle.label_laws.proofs.MixedRunLemmas.{label_count_rises}
use Rattle.frame_pool.specs.Frames.{Slots}
use Rattle.flat_machine.specs.declared.call.Call.{Call}
use Rattle.flat_machine.specs.declared.call.Call.TheVariants as call
use Rattle.flat_machine.specs.declared.call.Refusal.{Refusal}
use Rattle.flat_machine.specs.Machine.{Machine, used}
use Rattle.flat_machine.specs.Next.{change_file, without_file}
use Rattle.flat_machine.specs.Refusal.{refusal}
use Rattle.flat_machine.proofs.StoreLemmas.{unrefused}
use Rattle.swapper_kernel.specs.Goes.{Makes}
use Rattle.swapper_kernel.specs.Stands.{labels_of}
use Rattle.session_words.specs.Parts.{TablesMeaning, shape_of}
use Rattle.session_words.specs.RunStops.{with_change, deleted_after, changed_after}
use Rattle.session_words.specs.StandsFor.{StandsFor, RevealsSettled}
use Rattle.session_words.specs.Volume.{volume_page}
use Rattle.session_words.proofs.FoundLemmas.{above_reserved}
use Rattle.session_words.proofs.CrashStateLemmas.{few_labels}
use Rattle.session_words.proofs.RunStopLemmas.{run_stops}
use Rattle.session_words.proofs.SettledLemmas.{machine_shapes}
use Rattle.session_words.proofs.SizeLemmas.{changed_alike}
use Rattle.running_words.specs.Stages.{Passes, stage, last_step, towards}
use Rattle.running_words.specs.Session.{AreInForm, AreOpen}
use Rattle.running_words.proofs.FlagLemmas.{flag_open, flag_at, freeing_open, growth_open}
use Rattle.running_words.proofs.RootLemmas.{PageNumbers, RootsHave, freeing_have, growth_have, numbers_stay}
use Rattle.running_words.proofs.StageLemmas.{begun, on_disk, leads_here, same_labels}

pub growth_long : (id kind page : ℕ) (is : List ℕ) → length (growth id kind page is) ≡ length is
growth_long id kind page [] = refl
growth_long id kind page (i ∷ is) = ap suc (growth_long id kind (page + 1) is)

freeing_long : (is : List ℕ) → length (freeing is) ≡ length is
freeing_long [] = refl
freeing_long (i ∷ is) = ap suc (freeing_long is)

-- At most one step, at the first label that was written.
abbrev one_step : ℕ → ℕ
one_step zero = 0
one_step (suc n) = 1

one_rises : (j k : ℕ) → j ≤ k → one_step j ≤ one_step k
one_rises zero k le = omega arith
one_rises (suc j) zero le = absurd (omega (arith, le))
one_rises (suc j) (suc k) le = omega arith

one_most : (n : ℕ) → one_step n ≤ 1
one_most zero = omega arith
one_most (suc n) = omega arith

-- the stage of a call that is whole or absent
whole_stage : (m n : Machine) (c : Call) → stage m c 1 ≡ n → (f : ℕ → Machine) → (f 0 ≡ m) → ((j : ℕ) → f (suc j) ≡ n) → (k : ℕ) → f k ≡ stage m c (one_step k)
whole_stage m n c after f none some zero = none
whole_stage m n c after f none some (suc k) = some k ∙ sym after

module _ (spaces_of : TablesMeaning) (old new : DiskState) (before after : Slots) (m : Machine) (stands : StandsFor spaces_of old before m) (form : AreInForm old) where
  -- a call that is whole or absent, whose stages are revealed
  whole : (c : Call) (n : Machine) → stage m c 1 ≡ n → last_step m c ≡ 1 → (run : List DiskWrite) (makes : Makes volume_page run old before new after) (f : ℕ → Machine) → f 0 ≡ m → ((j : ℕ) → f (suc j) ≡ n)
      → AreOpen run → RootsHave (PageNumbers m c) run → ((d : List Sector) (k : ℕ) → old.contents ≡ Some d → RevealsSettled (crash_state d makes.wrote.writes k) (f (label_count makes.wrote.writes k))) → Passes m c old new
  whole c n after_one last run makes f none some opens have reveals = record {
    writes = makes.wrote.writes;
    appended = makes.wrote.appended;
    steps = λ k. one_step (label_count makes.wrote.writes k);
    rise = λ j k le. one_rises _ _ (label_count_rises makes.wrote.writes j k le);
    within = λ k. omega (arith, last, one_most (label_count makes.wrote.writes k));
    reveals = λ d k revealed. subst (RevealsSettled (crash_state d makes.wrote.writes k)) (whole_stage m n c after_one f none some (label_count makes.wrote.writes k)) (reveals d k revealed);
    open_flag = λ d k revealed. flag_open makes.wrote opens d k revealed (flag_at spaces_of old before m stands d revealed (form d revealed));
    numbers = numbers_stay spaces_of old new before m c stands form makes.wrote have;
  }

  module _ (id leader : ℕ) (f : File) (s : Sector) (found : file_at m.files id ≡ Some f) (of_file : is_file_id id ≡ true) (same : s.0.id ≡ id) (client : 16 ≤ s.0.id) (here : slice_get stands.memory leader ≡ Some s)
      (named : names s.0 (record { id = id; page = leader_page }) ≡ true) where
    pub permanent_passes : refusal m (call.MakePermanent id) ≡ None → Makes volume_page (LabelOnly leader (permanent_label s.0) ∷ []) old before new after → Passes m (call.MakePermanent id) old new
    permanent_passes free makes =
        whole (call.MakePermanent id) (with_change id (λ f. record f { permanent = true }) m) (unrefused m (call.MakePermanent id) free) refl (LabelOnly leader (permanent_label s.0) ∷ []) makes
        (λ k. changed_after id (λ f. record f { permanent = true }) k m) refl (λ j. refl) tt tt
        (λ d k revealed.
        let at = on_disk spaces_of old before m stands d revealed leader s here client in
        run_stops.permanent_stops m id leader f (s.0, at.0) old new before d makes.wrote (begun spaces_of old before m d stands revealed (form d revealed)) found at.1 (leads_here id s.0 at.0 of_file named) k)

    pub immutable_passes : refusal m (call.MakeImmutable id) ≡ None → Makes volume_page (LabelOnly leader (immutable_label s.0) ∷ []) old before new after → Passes m (call.MakeImmutable id) old new
    immutable_passes free makes =
        whole (call.MakeImmutable id) (with_change id (λ f. record f { immutable = true }) m) (unrefused m (call.MakeImmutable id) free) refl (LabelOnly leader (immutable_label s.0) ∷ []) makes
        (λ k. changed_after id (λ f. record f { immutable = true }) k m) refl (λ j. refl) tt tt
        (λ d k revealed.
        let at = on_disk spaces_of old before m stands d revealed leader s here client in
        run_stops.immutable_stops m id leader f (s.0, at.0) old new before d makes.wrote (begun spaces_of old before m d stands revealed (form d revealed)) found at.1 (leads_here id s.0 at.0 of_file named) k)

  -- what is freed of a file that goes, as any disk with the memory's labels has it
  abbrev pub FreesAll : ℕ → ℕ → List ℕ → Type 0
  FreesAll id leader is = (d : List Sector) → labels_of d ≡ labels_of stands.memory → IsAt (leads_file true id) d leader × ArePagesUp d id 0 is

  pub delete_passes : (id leader : ℕ) (f : File) (is : List ℕ) → file_at m.files id ≡ Some f → refusal m (call.Delete id) ≡ None → FreesAll id leader is → Makes volume_page (freeing (leader ∷ is)) old before new after
      → Passes m (call.Delete id) old new
  delete_passes id leader f is found free frees makes =
      whole (call.Delete id) (record m { files = without_file id m.files }) (unrefused m (call.Delete id) free) refl (freeing (leader ∷ is)) makes (λ k. deleted_after id k m) refl (λ j. refl) (freeing_open (leader ∷ is))
      (freeing_have (PageNumbers m (call.Delete id)) (leader ∷ is))
      (λ d k revealed.
      let facts = frees d (same_labels old before stands.memory d stands.stands revealed) in
      run_stops.deletion_stops m id leader f is old new before d makes.wrote (begun spaces_of old before m d stands revealed (form d revealed)) found facts.0 facts.1 k)

  -- Another size, which is not refused: as many steps as labels were written.
  module _ (id pages : ℕ) (f : File) (found : file_at m.files id ≡ Some f) (free : refusal m (call.SetSize id pages) ≡ None) where
    -- one file is changed as it is towards its new size
    sized : (c : ℕ → File → File) → ((k : ℕ) (w : File) → (c k w).id ≡ w.id) → ((k : ℕ) → c k f ≡ towards pages k f) → c 0 f ≡ f → (k : ℕ) → with_change id (c k) m ≡ stage m (call.SetSize id pages) k
    sized c ids same none zero =
        ap (λ (fs : List File). record m { files = fs })
        (changed_alike id f (c 0) (λ w. w) (ids 0) (λ w. refl) none m.files stands.is.by.machine.ids_rise found ∙ unchanged_files m.files)
      where
        unchanged_files : (fs : List File) → change_file id (λ w. w) fs ≡ fs
        unchanged_files [] = refl
        unchanged_files (w ∷ ws) = λ i. one (w.id == id) i ∷ unchanged_files ws i
          where
            one : (b : Bool) → cond b w w ≡ w
            one true = refl
            one false = refl
    sized c ids same none (suc k) =
        ap (λ (fs : List File). record m { files = fs }) (changed_alike id f (c (suc k)) (towards pages (suc k)) (ids (suc k)) (towards_id (suc k)) (same (suc k)) m.files stands.is.by.machine.ids_rise found)
        ∙ sym (ap (λ (o : Option Refusal). if is_none o then record m { files = change_file id (towards pages (suc k)) m.files } else m) free)
      where
        towards_id : (n : ℕ) (w : File) → (towards pages n w).id ≡ w.id
        towards_id n w = by (nat_lt pages (size w))
          where
            by : (b : Bool) → (cond b (shortened n w) (lengthened n w)).id ≡ w.id
            by true = refl
            by false = refl

    stepwise : (run : List DiskWrite) (makes : Makes volume_page run old before new after) (c : ℕ → File → File) → ((k : ℕ) (w : File) → (c k w).id ≡ w.id) → ((k : ℕ) → c k f ≡ towards pages k f) → c 0 f ≡ f
        → length run ≤ (pages - size f) + (size f - pages) → AreOpen run → RootsHave (PageNumbers m (call.SetSize id pages)) run
        → ((d : List Sector) (k : ℕ) → old.contents ≡ Some d → RevealsSettled (crash_state d makes.wrote.writes k) (with_change id (c (label_count makes.wrote.writes k)) m)) → Passes m (call.SetSize id pages) old new
    stepwise run makes c ids same none few opens have reveals = record {
      writes = makes.wrote.writes;
      appended = makes.wrote.appended;
      steps = λ k. label_count makes.wrote.writes k;
      rise = λ j k le. label_count_rises makes.wrote.writes j k le;
      within = λ k.
          let at : last_step m (call.SetSize id pages) ≡ (pages - size f) + (size f - pages) =
          ap (λ (o : Option Refusal). if is_none o then option_map_or (λ w. (pages - size w) + (size w - pages)) (file_at m.files id) 0 else 0) free
          ∙ ap (λ (o : Option File). option_map_or (λ w. (pages - size w) + (size w - pages)) o 0) found in
          let count = few_labels run old new before makes.wrote k in
          omega (arith, at, count, few);
      reveals = λ d k revealed. subst (RevealsSettled (crash_state d makes.wrote.writes k)) (sized c ids same none (label_count makes.wrote.writes k)) (reveals d k revealed);
      open_flag = λ d k revealed. flag_open makes.wrote opens d k revealed (flag_at spaces_of old before m stands d revealed (form d revealed));
      numbers = numbers_stay spaces_of old new before m (call.SetSize id pages) stands form makes.wrote have;
    }

    -- its identifier is not that of the root
    no_root : id ≢ 4
    no_root four =
        let shapes = machine_shapes m stands.is.by.machine (length stands.memory) (slice_get stands.memory 0) stands.is.by.root in
        let high = above_reserved id (shapes.given id (shape_of f) (ap (λ (o : Option File). option_map shape_of o) found)) in
        omega (arith, four, high)

    pub grow_passes : (is : List ℕ) → size f ≤ pages → size f + length is ≤ pages → length is + used m ≤ m.capacity → ((d : List Sector) → labels_of d ≡ labels_of stands.memory → AreUnused d is)
        → Makes volume_page (growth id f.kind (size f) is) old before new after → Passes m (call.SetSize id pages) old new
    grow_passes is more few room unused makes =
        stepwise (growth id f.kind (size f) is) makes lengthened (λ k w. refl) longer refl_long (omega (arith, few, growth_long id f.kind (size f) is)) (growth_open id f.kind (size f) is)
        (growth_have (PageNumbers m (call.SetSize id pages)) id f.kind (size f) is no_root)
        (λ d k revealed. run_stops.growth_stops m id f is old new before d makes.wrote (begun spaces_of old before m d stands revealed (form d revealed)) found (unused d (same_labels old before stands.memory d stands.stands revealed)) room k)
      where
        longer : (k : ℕ) → lengthened k f ≡ towards pages k f
        longer k = let a : nat_lt pages (size f) ≡ false = grind (arith, nat_tests) in rw a refl

        refl_long : lengthened 0 f ≡ f
        refl_long = ap (λ (ps : List Page). record f { pages = ps }) (append-nil f.pages)

    pub shrink_passes : (is : List ℕ) → pages < size f → length is ≤ size f - pages → ((d : List Sector) → labels_of d ≡ labels_of stands.memory → ArePagesDown d id (size f) is)
        → Makes volume_page (freeing is) old before new after → Passes m (call.SetSize id pages) old new
    shrink_passes is fewer few down makes =
        stepwise (freeing is) makes shortened (λ k w. refl) shorter refl_short (omega (arith, few, freeing_long is)) (freeing_open is) (freeing_have (PageNumbers m (call.SetSize id pages)) is)
        (λ d k revealed. run_stops.shrinking_stops m id f is old new before d makes.wrote (begun spaces_of old before m d stands revealed (form d revealed)) found (down d (same_labels old before stands.memory d stands.stands revealed)) k)
      where
        shorter : (k : ℕ) → shortened k f ≡ towards pages k f
        shorter k = let a : nat_lt pages (size f) ≡ true = grind (arith, nat_tests) in rw a refl

        refl_short : shortened 0 f ≡ f
        refl_short = ap (λ (ps : List Page). record f { pages = ps }) (take_all (size f - 0) f.pages (omega arith))
