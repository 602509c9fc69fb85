-- A file that is made is temporary: in each crash state the permanent files are those of before.
use Rattle.std.proofs.Common.{◌≡◌, ◌≢◌, inl, inr, ℕ, zero, suc, ◌+◌, ◌<◌, ◌≤◌, true, false, ◌&&◌, ◌||◌, List, [], ◌∷◌, length, take, Some, None, refl, sym, ◌∙◌, ap, subst, arith, eqb}
use Rattle.std.specs.Prelude.{slice_set}
use Rattle.std.specs.List.{AllByRecursion}
use Rattle.std.proofs.lemmas.Bool.{and_left, and_right, cases_eq, ne_eqb}
use Rattle.std.proofs.lemmas.Option.{same_Some}
use Rattle.labelled_disk.specs.declared.disk.DiskWrite.{DiskWrite}
use Rattle.labelled_disk.specs.declared.label.Label.{Label}
use Rattle.labelled_disk.specs.CrashState.{crash_state}
use Rattle.labelled_disk.specs.File.{File, file_at}
use Rattle.labelled_disk.specs.FilesOn.{disk_file, files_among}
use Rattle.labelled_disk.specs.Label.{is_file, is_file_id, is_free, is_permanent, leader_page, page_label}
use Rattle.labelled_disk.specs.Layout.{first_data}
use Rattle.labelled_disk.specs.Root.{LabelsRight, counter_of, serial_of}
use Rattle.labelled_disk.specs.Runs.{AreUnused, creation, growth, sector_of}
use Rattle.labelled_disk.specs.Sectors.{Sector}
use Rattle.labelled_disk.specs.WriteLaws.{Changed}
use Rattle.labelled_disk.specs.WriteRuns.{after_writes}
use Rattle.labelled_disk.proofs.AscendingLemmas.{same_by_look_up}
use Rattle.labelled_disk.proofs.RunLemmas as run
use Rattle.labelled_disk.proofs.WriteLemmas as laws
use Rattle.label_laws.specs.PermittedOrders.{AreApart}
use Rattle.label_laws.proofs.MixedLemmas.{sector_stays}
use Rattle.swapper_kernel.specs.Stands.{labels_of}
use Rattle.filer_kernel.specs.View.{View}
use Rattle.session_words.specs.GrowLaws.{AreFree, IsFree}
use Rattle.session_words.proofs.FoundLemmas.{above_reserved}
use Rattle.session_words.proofs.LooseLemmas.{merged_differs}
use Rattle.file_manager.specs.CreateBroken.{CreatedSome, file_in}
use Rattle.file_manager.specs.Making.{CreatedBy, LedAndGrown}
use Rattle.file_manager.proofs.GrowBroken.{all_back, free_first, unused_first}
use Rattle.volume_pair.specs.CrashStates.{CrashStatesOf, KeepsVolume}
use Rattle.volume_pair.specs.Sides.{IsSide}
use Rattle.volume_pair.proofs.CrashStateLemmas.{quiet_on}
use Rattle.volume_pair.proofs.KeepLemmas.{frames_loose, loose_keeps, run_keeps, volume_itself}

-- ---- The first of some writes.

take_prefix : {X : Type 0} (n k : ℕ) (xs : List X) → k ≤ length (take n xs) → take k (take n xs) ≡ take k xs
take_prefix zero zero xs few = refl
take_prefix zero (suc k) xs few = absurd (omega (arith, few))
take_prefix (suc n) k [] few = refl
take_prefix (suc n) zero (x ∷ xs) few = refl
take_prefix (suc n) (suc k) (x ∷ xs) few = ap (λ (l : List _). x ∷ l) (take_prefix n k xs (omega (arith, few)))

prefix_long : {X : Type 0} (n : ℕ) (xs : List X) → length (take n xs) ≤ length xs
prefix_long zero xs = omega arith
prefix_long (suc n) [] = omega arith
prefix_long (suc n) (x ∷ xs) = let rest = prefix_long n xs in omega (arith, rest)

prefix_keeps : (d : List Sector) (order : List DiskWrite) (n : ℕ) → ((k : ℕ) → k ≤ length order → KeepsVolume d (crash_state d order k)) → (k : ℕ) → k ≤ length (take n order) → KeepsVolume d (crash_state d (take n order) k)
prefix_keeps d order n keeps k low =
    let long = prefix_long n order in
    subst (λ (l : List DiskWrite). KeepsVolume d (after_writes l d)) (sym (take_prefix n k order low)) (keeps k (omega (arith, low, long)))

take_each : (P : DiskWrite → Type 0) (k : ℕ) (ws : List DiskWrite) → AllByRecursion P ws → AllByRecursion P (take k ws)
take_each P zero ws all = tt
take_each P (suc k) [] all = tt
take_each P (suc k) (w ∷ ws) all = (all.0, take_each P k ws all.1)

-- ---- A temporary file.

growth_long : (id kind page : ℕ) (is : List ℕ) → length (growth id kind page is) ≡ length is
growth_long id kind page [] = refl
growth_long id kind page (i ∷ is) = ap suc (growth_long id kind (page + 1) is)

grown_data : (d : List Sector) (id kind page : ℕ) (is : List ℕ) → AreUnused d is → AllByRecursion (λ one. first_data (length d) ≤ sector_of one) (growth id kind page is)
grown_data d id kind page [] unused = tt
grown_data d id kind page (i ∷ is) unused = (unused.0.there.is_data, grown_data d id kind (page + 1) is unused.2)

not_first : (n : ℕ) → 0 < n → (ws : List DiskWrite) → AllByRecursion (λ one. n ≤ sector_of one) ws → AllByRecursion (λ one. sector_of one ≢ 0) ws
not_first n some [] all = tt
not_first n some (w ∷ ws) all = ((λ e. let above = all.0 in omega (arith, above, some, e)), not_first n some ws all.1)

-- a file that is not there, before and after
files_stay : (serial counter : ℕ) (d e : List Sector) (id : ℕ) → disk_file false d id ≡ None → Changed false serial counter d e id None → files_among false e ≡ files_among false d
files_stay serial counter d e id none change =
    same_by_look_up (files_among false e) (files_among false d) (laws.files_on_rise false 0 0 e) (laws.files_on_rise false 0 0 d)
    (λ i. laws.look_up false 0 0 e i ∙ elim (cases_eq i id) [
      | inl q ↦ ap (disk_file false e) q ∙ change.file ∙ sym (ap (disk_file false d) q ∙ none)
      | inr q ↦ change.others i q
    ] ∙ sym (laws.look_up false 0 0 d i))

module _ (d : List Sector) (id kind : ℕ) (right : LabelsRight d) (none : disk_file false d id ≡ None) where
  created_keeps : (leader : ℕ) (is : List ℕ) → AreUnused d (leader ∷ is) → length is < leader_page → (k : ℕ) → k ≤ suc (length is) → KeepsVolume d (crash_state d (creation id kind leader is) k)
  created_keeps leader is unused few k low =
      let change = run.creation_unseen false (serial_of d) (counter_of d) d id kind leader is right.files none
      (and_left (is_file (page_label id kind leader_page) && eqb leader_page leader_page && (false || is_permanent (page_label id kind leader_page))) (eqb id id)
      (and_right (is_file (page_label id kind leader_page) && eqb leader_page leader_page) (false || is_permanent (page_label id kind leader_page)) refl))
      unused few k low in
      let above : AllByRecursion (λ one. first_data (length d) ≤ sector_of one) (creation id kind leader is) = (unused.0.there.is_data, grown_data d id kind 0 is unused.2) in
      record {
        stays = record {
          files = files_stay (serial_of d) (counter_of d) d (crash_state d (creation id kind leader is) k) id none change;
          right = run.data_runs false d (creation id kind leader is) k right above change.right;
        };
        root = sector_stays d (creation id kind leader is) k 0 (take_each (λ one. sector_of one ≢ 0) k (creation id kind leader is) (not_first (first_data (length d)) (laws.first_positive false 0 0 (length d)) (creation id kind leader is) above));
      }

  file_keeps : (is : List ℕ) → AreUnused d is → length is ≤ leader_page → (k : ℕ) → k ≤ length (file_in id kind is) → KeepsVolume d (crash_state d (file_in id kind is) k)
  file_keeps [] unused few zero low = volume_itself d right
  file_keeps [] unused few (suc k) low = absurd (omega (arith, low))
  file_keeps (leader ∷ is) unused few k low = let long = growth_long id kind 0 is in created_keeps leader is unused (omega (arith, few)) k (omega (arith, low, long))

-- ---- It is made on the second volume.

module _ (v w : View) (gs : List File) (x : List Sector) (side : IsSide v gs x) (id kind pages : ℕ) (of_file : is_file_id id ≡ true) (none : file_at gs id ≡ None) (short : pages < leader_page) (d : List Sector) (revealed : v.disk.contents ≡ Some d) where
  same : side.stands.sectors ≡ d
  same = same_Some side.stands.sectors d (sym side.stands.revealed ∙ revealed)

  below : KeepsVolume x d
  below = subst (KeepsVolume x) same (loose_keeps x side.stands.sectors (merged_differs [] side.stands.sectors v.slots x side.stands.merged (frames_loose v.slots side.frames)) side.can_open.right)

  absent : disk_file false d id ≡ None
  absent = sym (laws.look_up false 0 0 d id) ∙ ap (λ (fs : List File). file_at fs id) (below.stays.files ∙ side.files_are) ∙ none

  labels : labels_of d ≡ labels_of x
  labels = ap labels_of (sym same) ∙ sym side.stands.merged.labels

  -- different sectors that were free
  apart : (leader : ℕ) (is : List ℕ) (y : List Sector) → LedAndGrown id kind leader is x y → AreApart (IsFree (labels_of x)) (leader ∷ is)
  apart leader is y made =
      let high = above_reserved id of_file in
      let first = made.led.grown.free.0 in
      let taken : is_free (page_label id kind leader_page) ≡ false = ne_eqb id 0 (omega (arith, high)) in
      let rest = free_first id kind 0 is (slice_set (labels_of x) leader (page_label id kind leader_page)) high (subst (AreFree id kind 0 is) made.led.grown.labels made.grown.grown.free) in
      let back = all_back (labels_of x) leader (page_label id kind leader_page) is first taken rest in
      (first, back.0, back.1)

  unused : (is : List ℕ) → AreApart (IsFree (labels_of x)) is → AreUnused d is
  unused is free = unused_first d is (subst (λ (l : List Label). AreApart (IsFree l) is) (sym labels) free)

  -- all of it
  pub created_states : CreatedBy id kind pages v.disk v.slots v.layout w.disk w.slots w.runs → CrashStatesOf (λ k. KeepsVolume d) 0 v.disk w.disk
  created_states made =
      let wrote = made.leads.goes.makes.wrote in
      let after = made.leads.goes.memory x side.stands in
      let long = made.long in
      quiet_on d revealed wrote.writes wrote.appended
      (run_keeps (creation id kind made.leader made.sectors) v.disk w.disk v.slots d wrote (frames_loose v.slots side.frames) revealed
      (file_keeps d id kind below.stays.right absent (made.leader ∷ made.sectors) (unused (made.leader ∷ made.sectors) (apart made.leader made.sectors after.0 after.2)) (omega (arith, long, short))))

  -- or some
  pub broken_states : CreatedSome [] id kind pages x v.disk v.slots w.disk w.slots → CrashStatesOf (λ k. KeepsVolume d) 0 v.disk w.disk
  broken_states some =
      let wrote = some.makes.wrote in
      let few = some.few in
      quiet_on d revealed wrote.writes wrote.appended
      (run_keeps (take some.count (file_in id kind some.sectors)) v.disk w.disk v.slots d wrote (frames_loose v.slots side.frames) revealed
      (prefix_keeps d (file_in id kind some.sectors) some.count (file_keeps d id kind below.stays.right absent some.sectors (unused some.sectors some.free) (omega (arith, few, short)))))
