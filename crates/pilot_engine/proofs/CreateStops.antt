-- What a stop among the writes of a creation leaves: a temporary file is no settled one.
use Rattle.std.proofs.Common.{◌≡◌, ◌≢◌, inr, ℕ, zero, suc, ◌+◌, ◌*◌, ◌^◌, ◌<◌, ◌≤◌, true, false, List, [], ◌∷◌, ◌++◌, length, take, Option, Some, None, refl, sym, ◌∙◌, ap, subst, arith}
use Rattle.std.proofs.lemmas.List.{length-map}
use Rattle.labelled_disk.specs.declared.disk.DiskWrite.{DiskWrite}
use Rattle.labelled_disk.specs.declared.label.Label.{Label}
use Rattle.labelled_disk.specs.declared.layout.Layout.{Layout}
use Rattle.labelled_disk.specs.File.{File, file_at}
use Rattle.labelled_disk.specs.FilesOn.{disk_file}
use Rattle.labelled_disk.specs.Label.{leader_page, root_label}
use Rattle.labelled_disk.specs.CrashState.{crash_state}
use Rattle.labelled_disk.specs.Ascending.{BothBy}
use Rattle.labelled_disk.specs.Root.{IsRoot, LabelsRight, number_at, serial_of, counter_of}
use Rattle.labelled_disk.specs.RootLaws.{StaysRight}
use Rattle.labelled_disk.specs.Runs.{creation, AreUnused}
use Rattle.labelled_disk.specs.Sectors.{Sector}
use Rattle.labelled_disk.specs.State.{DiskState}
use Rattle.labelled_disk.specs.WriteRuns.{after_writes}
use Rattle.labelled_disk.proofs.RootLemmas.{root_written}
use Rattle.label_laws.specs.AllPermanent.{if_permanent}
use Rattle.label_laws.specs.PermittedOrders.{AreApart}
use Rattle.label_laws.proofs.PermanentLemmas.{one}
use Rattle.label_laws.proofs.StayLemmas.{stay_laws}
use Rattle.volume_root.specs.RootPage.{IsValidRoot, root_bytes, root_write}
use Rattle.volume_root.proofs.WrittenLemmas.{is_root, serial_read, counter_read}
use Rattle.frame_pool.specs.Frames.{Slots}
use Rattle.flat_machine.specs.declared.call.Call.{Call}
use Rattle.flat_machine.specs.declared.call.Call.TheVariants as call
use Rattle.flat_machine.specs.Machine.{Machine}
use Rattle.flat_machine.specs.Next.{new_id}
use Rattle.flat_machine.specs.Refusal.{refusal}
use Rattle.flat_machine.proofs.KeepNew.{none_new}
use Rattle.flat_machine.proofs.StoreLemmas.{unrefused}
use Rattle.swapper_kernel.specs.Goes.{Makes}
use Rattle.swapper_kernel.specs.Stands.{labels_of}
use Rattle.filer_kernel.specs.declared.cached.CachedRuns.{CachedRuns}
use Rattle.session_words.specs.GrowLaws.{IsFree}
use Rattle.session_words.specs.Parts.{TablesMeaning}
use Rattle.session_words.specs.StandsFor.{StandsFor, IsSettled}
use Rattle.session_words.specs.Volume.{volume_page}
use Rattle.session_words.proofs.LooseLemmas.{stands_is_settled}
use Rattle.session_words.proofs.RunStopLemmas.{run_stops}
use Rattle.session_words.proofs.SettledLemmas.{Reveals, both, right_all, settled_is_revealed}
use Rattle.file_manager.specs.declared.volume.Volume.{Volume}
use Rattle.file_manager.specs.CreateBroken.{CreatedSome, file_in}
use Rattle.file_manager.specs.Creating.{CreatedAs, next_id, counted}
use Rattle.file_manager.proofs.CreateBroken.{created_unused}
use Rattle.file_manager.proofs.GrowBroken.{unused_first}
use Rattle.file_manager.proofs.RootForm.{counted_valid}
use Rattle.running_words.specs.Session.{AreInForm, AreOpen, IsSession}
use Rattle.running_words.specs.Stages.{Passes}
use Rattle.running_words.proofs.FlagLemmas.{creation_open, flag_at, flag_open, root_open, take_open}
use Rattle.running_words.proofs.PassLemmas.{growth_long}
use Rattle.running_words.proofs.RootLemmas.{PageNumbers, RootsHave, creation_have, numbers_stay, root_have, take_have}
use Rattle.running_words.proofs.StageLemmas.{begun, same_labels}

-- ---- The first of some writes.

take_prefix : {X : Type 0} (n k : ℕ) (xs : List X) → k ≤ length (take n xs) → take k (take n xs) ≡ take k xs
take_prefix zero zero xs few = refl
take_prefix zero (suc k) xs few = absurd (omega (arith, few))
take_prefix (suc n) k [] few = refl
take_prefix (suc n) zero (x ∷ xs) few = refl
take_prefix (suc n) (suc k) (x ∷ xs) few = ap (λ (l : List _). x ∷ l) (take_prefix n k xs (omega (arith, few)))

prefix_long : {X : Type 0} (n : ℕ) (xs : List X) → length (take n xs) ≤ length xs
prefix_long zero xs = omega arith
prefix_long (suc n) [] = omega arith
prefix_long (suc n) (x ∷ xs) = let rest = prefix_long n xs in omega (arith, rest)

-- what holds in each crash state of a row of writes does in each crash state of its first ones
prefix_stays : (d : List Sector) (order : List DiskWrite) (n : ℕ) → ((k : ℕ) → k ≤ length order → StaysRight false d (crash_state d order k)) → (k : ℕ) → k ≤ length (take n order) → StaysRight false d (crash_state d (take n order) k)
prefix_stays d order n stays k low =
    let long = prefix_long n order in
    subst (λ (l : List DiskWrite). StaysRight false d (after_writes l d)) (sym (take_prefix n k order low)) (stays k (omega (arith, low, long)))

-- ---- Label writes that keep the permanent files.

-- the call stays where it is
quiet_step : (spaces_of : TablesMeaning) (old new : DiskState) (before after : Slots) (m : Machine) (c : Call) → StandsFor spaces_of old before m → AreInForm old → (order : List DiskWrite) → Makes volume_page order old before new after
    → AreOpen order → RootsHave (PageNumbers m c) order → ((d : List Sector) → old.contents ≡ Some d → (k : ℕ) → k ≤ length order → StaysRight false d (crash_state d order k)) → Passes m c old new
quiet_step spaces_of old new before after m c stands form order makes opens have stays = record {
  writes = makes.wrote.writes;
  appended = makes.wrote.appended;
  steps = λ k. 0;
  rise = λ j k le. omega arith;
  within = λ k. omega arith;
  reveals = λ d k revealed. run_stops.quiet_stops m order old new before d makes.wrote (begun spaces_of old before m d stands revealed (form d revealed)) (stays d revealed) k;
  open_flag = λ d k revealed. flag_open makes.wrote opens d k revealed (flag_at spaces_of old before m stands d revealed (form d revealed));
  numbers = numbers_stay spaces_of old new before m c stands form makes.wrote have;
}

file_open : (id kind : ℕ) (is : List ℕ) → AreOpen (file_in id kind is)
file_open id kind [] = tt
file_open id kind (leader ∷ is) = creation_open id kind leader is

file_have : (P : List ℕ → Type 0) (id kind : ℕ) (is : List ℕ) → id ≢ 4 → RootsHave P (file_in id kind is)
file_have P id kind [] other = tt
file_have P id kind (leader ∷ is) other = creation_have P id kind leader is other

no_file : (R : File → File → Type 0) (o : Option File) → BothBy R o None → o ≡ None
no_file R None b = refl
no_file R (Some f) b = absurd b

-- ---- A creation on a session's disk.

module _ (spaces_of : TablesMeaning) (old : DiskState) (before : Slots) (layout : Layout) (runs : CachedRuns) (volume : Volume) (m : Machine) (s : IsSession spaces_of old before layout runs volume m) (form : AreInForm old)
    (valid : IsValidRoot layout.sectors volume.root) (unspent : volume.root.counter < 4294967295) where
  serial_fits : volume.root.serial < 2 ^ 32
  serial_fits = let most = s.stands.is.by.machine.serial_fits.1 in omega (arith, most, s.same_serial)

  module _ (d : List Sector) (revealed : old.contents ≡ Some d) where
    settled : IsSettled d m
    settled = stands_is_settled spaces_of old before m d s.stands revealed (form d revealed)

    right : LabelsRight d
    right = (settled_is_revealed d m settled).right

    labels : labels_of d ≡ labels_of s.stands.memory
    labels = same_labels old before s.stands.memory d s.stands.stands revealed

    long : length d ≡ layout.sectors
    long = sym (length-map d (λ (t : Sector). t.0)) ∙ ap length labels ∙ length-map s.stands.memory (λ (t : Sector). t.0) ∙ (s.kept s.stands.memory s.stands.stands).long

    root_right : IsRoot (length d) (Some (root_label, root_bytes (counted volume.root)))
    root_right = subst (λ (n : ℕ). IsRoot n (Some (root_label, root_bytes (counted volume.root)))) (sym long)
        (is_root layout.sectors (counted volume.root) (counted_valid layout.sectors volume.root valid) serial_fits (omega (arith, unspent)))

    serials : number_at (root_bytes (counted volume.root)) 16 ≡ serial_of d
    serials = serial_read (counted volume.root) serial_fits ∙ s.same_serial ∙ sym settled.root.has_serial

    counters : counter_of d ≤ number_at (root_bytes (counted volume.root)) 20
    counters =
        let read = counter_read (counted volume.root) (omega (arith, unspent)) in
        let was : counter_of d ≡ m.counter = settled.root.has_counter in
        omega (arith, read, was, s.same_counter)

    -- there is no such file yet
    absent : disk_file false d (next_id volume.root) ≡ None
    absent =
        let id : next_id volume.root ≡ new_id m = λ i. s.same_serial i * 2 ^ 32 + s.same_counter i in
        let none : file_at m.files (next_id volume.root) ≡ None = ap (file_at m.files) id ∙ none_new m s.stands.is.by.machine in
        let gone : disk_file true d (next_id volume.root) ≡ None = no_file (Reveals d m settled) (disk_file true d (next_id volume.root)) (subst (λ (o : Option File). BothBy (Reveals d m settled) (disk_file true d (next_id volume.root)) o) none (both d m settled (next_id volume.root))) in
        one m.serial m.counter d (right_all d m settled) (next_id volume.root) ∙ ap if_permanent gone

    -- the root alone
    rooted_stays : (k : ℕ) → k ≤ 1 → StaysRight false d (crash_state d (root_write (counted volume.root) ∷ []) k)
    rooted_stays zero low = record { files = refl; right = right }
    rooted_stays (suc zero) low = root_written false d (root_label, root_bytes (counted volume.root)) right root_right serials counters
    rooted_stays (suc (suc k)) low = absurd (omega (arith, low))

    -- the root, and then the file
    created_stays : (kind : ℕ) (is : List ℕ) → AreUnused d is → length is ≤ leader_page → (k : ℕ) → k ≤ length ((root_write (counted volume.root) ∷ []) ++ file_in (next_id volume.root) kind is)
        → StaysRight false d (crash_state d ((root_write (counted volume.root) ∷ []) ++ file_in (next_id volume.root) kind is) k)
    created_stays kind [] unused few k low = rooted_stays k low
    created_stays kind (leader ∷ is) unused few k low =
        let size = growth_long (next_id volume.root) kind 0 is in
        stay_laws.created d root_label (root_bytes (counted volume.root)) (next_id volume.root) kind leader is right root_right serials counters absent unused (omega (arith, few)) k (omega (arith, low, size))

  -- no file has the identifier of the root
  no_root : next_id volume.root ≢ 4
  no_root four = let some = valid.serial in omega (arith, four, some)

  -- the root has the next counter, and then the file is made
  all_have : (kind pages : ℕ) (is : List ℕ) → refusal m (call.Create pages kind) ≡ None → RootsHave (PageNumbers m (call.Create pages kind)) (root_write (counted volume.root) ∷ file_in (next_id volume.root) kind is)
  all_have kind pages is free =
      root_have (PageNumbers m (call.Create pages kind)) (counted volume.root) (file_in (next_id volume.root) kind is)
      (record {
        same_serial = serial_read (counted volume.root) serial_fits ∙ s.same_serial;
        counter = inr (counter_read (counted volume.root) (omega (arith, unspent)) ∙ ap (λ (n : ℕ). n + 1) s.same_counter ∙ sym (ap (λ (n : Machine). n.counter) (unrefused m (call.Create pages kind) free)));
      }) (file_have (PageNumbers m (call.Create pages kind)) (next_id volume.root) kind is no_root)

  -- the file was made
  pub create_passed : (kind pages : ℕ) (new : DiskState) (after : Slots) (later : CachedRuns) → pages < 4294967295 → refusal m (call.Create pages kind) ≡ None → CreatedAs volume.root kind pages old before layout new after later → Passes m (call.Create pages kind) old new
  create_passed kind pages new after later small free made =
      quiet_step spaces_of old new before after m (call.Create pages kind) s.stands form (root_write (counted volume.root) ∷ creation (next_id volume.root) kind made.leader made.sectors) made.leads.goes.makes
      (root_open (counted volume.root) (creation (next_id volume.root) kind made.leader made.sectors) refl (creation_open (next_id volume.root) kind made.leader made.sectors))
      (all_have kind pages (made.leader ∷ made.sectors) free)
      (λ d revealed.
      let now = made.leads.goes.memory s.stands.memory s.stands.stands in
      let size = made.long in
      let some = valid.serial in
      created_stays d revealed kind (made.leader ∷ made.sectors)
      (created_unused _ _ _ (next_id volume.root) kind made.leader made.sectors s.stands.memory now.0 d (omega (arith, some)) (labels d revealed) now.2) (omega (arith, size, small)))

  -- the creation stopped
  pub create_broken : (kind pages : ℕ) (new : DiskState) (after : Slots) → pages < 4294967295 → refusal m (call.Create pages kind) ≡ None → CreatedSome (root_write (counted volume.root) ∷ []) (next_id volume.root) kind pages s.stands.memory old before new after → Passes m (call.Create pages kind) old new
  create_broken kind pages new after small free some =
      quiet_step spaces_of old new before after m (call.Create pages kind) s.stands form (take some.count ((root_write (counted volume.root) ∷ []) ++ file_in (next_id volume.root) kind some.sectors)) some.makes
      (take_open some.count ((root_write (counted volume.root) ∷ []) ++ file_in (next_id volume.root) kind some.sectors) (root_open (counted volume.root) (file_in (next_id volume.root) kind some.sectors) refl (file_open (next_id volume.root) kind some.sectors)))
      (take_have (PageNumbers m (call.Create pages kind)) some.count ((root_write (counted volume.root) ∷ []) ++ file_in (next_id volume.root) kind some.sectors) (all_have kind pages some.sectors free))
      (λ d revealed.
      let few = some.few in
      prefix_stays d ((root_write (counted volume.root) ∷ []) ++ file_in (next_id volume.root) kind some.sectors) some.count
      (created_stays d revealed kind some.sectors (unused_first d some.sectors (subst (λ (l : List Label). AreApart (IsFree l) some.sectors) (sym (labels d revealed)) some.free)) (omega (arith, few, small))))
