-- A copy gets its marks: in each crash state the permanent files are those of before, or the copy is whole.
use Rattle.std.proofs.Common.{◌≡◌, inl, inr, ℕ, zero, suc, ◌≤◌, Bool, true, false, ◌&&◌, ◌||◌, List, [], ◌∷◌, length, Some, None, refl, sym, ◌∙◌, ap, subst, arith}
use Rattle.std.specs.Prelude.{slice_get, slice_set, nat_le, nat_lt, ◌==◌}
use Rattle.std.proofs.lemmas.Bool.{and_from, and_left, and_right, cases_eq, eq-eqb, ne_eqb}
use Rattle.std.proofs.lemmas.List.{length-map, map-set}
use Rattle.std.proofs.lemmas.Option.{same_Some, slice_get_within}
use Rattle.labelled_disk.specs.declared.disk.DiskWrite.{DiskWrite}
use Rattle.labelled_disk.specs.declared.disk.DiskWrite.TheVariants as write
use Rattle.labelled_disk.specs.declared.label.Label.{Label}
use Rattle.labelled_disk.specs.declared.layout.Layout.{Layout}
use Rattle.labelled_disk.specs.CrashState.{crash_state, written}
use Rattle.labelled_disk.specs.Calls.{RevealsSame}
use Rattle.labelled_disk.specs.File.{File, file_at, size}
use Rattle.labelled_disk.specs.FilesOn.{disk_file, files_on, is_of, leads, leads_file}
use Rattle.labelled_disk.specs.Label.{is_file, is_file_id, is_permanent, leader_page, names}
use Rattle.labelled_disk.specs.Layout.{first_data}
use Rattle.labelled_disk.specs.Right.{FilesRight}
use Rattle.labelled_disk.specs.Root.{LabelsRight, counter_of, serial_of}
use Rattle.labelled_disk.specs.Sectors.{Sector}
use Rattle.labelled_disk.specs.State.{DiskState}
use Rattle.labelled_disk.specs.WriteLaws.{HasData}
use Rattle.labelled_disk.proofs.Finds.{get_set_other, get_set_same}
use Rattle.labelled_disk.proofs.RunLemmas as run
use Rattle.labelled_disk.proofs.WriteLemmas as laws
use Rattle.label_calls.specs.declared.page.Mark.TheVariants.{Permanent}
use Rattle.label_laws.specs.Marks.{immutable_label, permanent_label}
use Rattle.label_laws.specs.MixedVolumes.{label_count}
use Rattle.label_laws.proofs.FileLemmas.{label_written, marks_are_added}
use Rattle.label_laws.proofs.MixedLemmas.{written_other}
use Rattle.frame_pool.specs.Frames.{Slots}
use Rattle.swapper_kernel.specs.Differs.{Differs}
use Rattle.swapper_kernel.specs.DiffersLaws.{differs_then, label_here, names_id, names_page}
use Rattle.swapper_kernel.specs.Stands.{labels_of}
use Rattle.filer_kernel.specs.declared.cached.CachedRuns.{CachedRuns}
use Rattle.filer_kernel.specs.View.{View, kept_by}
use Rattle.session_words.specs.MarkLaws.{Marks}
use Rattle.session_words.specs.Parts.{DirtyAreLoose, HasLabel, IsTriple, Shapes, is_loose, is_loose_at, shapes_of}
use Rattle.session_words.specs.PlaceLaws.{with_shape}
use Rattle.session_words.proofs.CrashStateLemmas.{crash_states_are_like, few_labels}
use Rattle.session_words.proofs.FoundLemmas.{above_reserved, file_label}
use Rattle.session_words.proofs.GrownLemmas.{with_here}
use Rattle.session_words.proofs.LooseLemmas.{merged_differs}
use Rattle.file_manager.specs.Answer.{IsMarked}
use Rattle.file_manager.specs.Broken.{MarkedSome, MarksFirst}
use Rattle.file_manager.specs.Stays.{FramesStay}
use Rattle.file_manager.proofs.MarkLemmas.{marks_written}
use Rattle.volume_pair.specs.Copied.{HasCopy, IsCopying, IsSealing, shape_with}
use Rattle.volume_pair.specs.CrashStates.{CrashStatesOf, KeepsVolume}
use Rattle.volume_pair.proofs.CrashStateLemmas.{last_state, none_states, quiet_on, quiet_then, quiet_wider, same_first, states_on}
use Rattle.volume_pair.proofs.KeepLemmas.{data_of, frames_loose, loose_keeps, run_keeps, volume_itself, volume_then}
use Rattle.volume_pair.proofs.StepLemmas.{permanent_memory, swapped_copying}

-- ---- The same label on a memory and on the disk under it.

label_differs : (m d : List Sector) (k : ℕ) (s : Sector) (l : Label) → Differs (is_loose_at []) m d → slice_get m k ≡ Some s → is_loose [] s.0.id s.0.page ≡ false
    → Differs (is_loose_at []) (written (write.LabelOnly k l) m) (written (write.LabelOnly k l) d)
label_differs m d k s l differs here firm =
    let also : slice_get d k ≡ Some s = differs.pages k s here firm in
    subst (λ (x : List Sector). Differs (is_loose_at []) x (written (write.LabelOnly k l) d)) (sym (label_written m k s l here))
    (subst (λ (y : List Sector). Differs (is_loose_at []) (slice_set m k (l, s.1)) y) (sym (label_written d k s l also)) (both also))
  where
    both : slice_get d k ≡ Some s → Differs (is_loose_at []) (slice_set m k (l, s.1)) (slice_set d k (l, s.1))
    both also = record {
      labels = map-set (λ (x : Sector). x.0) d k (l, s.1) ∙ ap (λ (ls : List Label). slice_set ls k l) differs.labels ∙ sym (map-set (λ (x : Sector). x.0) m k (l, s.1));
      pages = λ j u at fails. elim (cases_eq j k) [
        | inl same ↦
            ap (slice_get (slice_set d k (l, s.1))) same ∙ get_set_same d k (l, s.1) (slice_get_within d k s also)
            ∙ sym (get_set_same m k (l, s.1) (slice_get_within m k s here)) ∙ ap (slice_get (slice_set m k (l, s.1))) (sym same) ∙ at
        | inr apart ↦ get_set_other d k j (l, s.1) apart ∙ differs.pages j u (sym (get_set_other m k j (l, s.1) apart) ∙ at) fails
      ];
    }

-- no more labels were written before
count_rises : (ws : List DiskWrite) (j k : ℕ) → j ≤ k → label_count ws j ≤ label_count ws k
count_rises ws zero k le = omega arith
count_rises ws (suc j) zero le = absurd (omega (arith, le))
count_rises [] (suc j) (suc k) le = omega arith
count_rises (write.Whole sector label bytes ∷ ws) (suc j) (suc k) le = let rest = count_rises ws j k (omega (arith, le)) in omega (arith, rest)
count_rises (write.LabelOnly sector label ∷ ws) (suc j) (suc k) le = let rest = count_rises ws j k (omega (arith, le)) in omega (arith, rest)
count_rises (write.Page sector wanted bytes ∷ ws) (suc j) (suc k) le = count_rises ws j k (omega (arith, le))

-- ---- The file that is copied, on the disk under the frames.

module _ (v w : View) (x : List Sector) (fs : List File) (f : File) (p q : Bool) (done : ℕ) (c : IsCopying v x fs f p q done) (d : List Sector) (revealed : v.disk.contents ≡ Some d) (right : LabelsRight d) where
  abbrev shapes : Shapes
  shapes = with_shape (shapes_of fs) f.id (shape_with f p q)

  same : c.books.stands.sectors ≡ d
  same = same_Some c.books.stands.sectors d (sym c.books.stands.revealed ∙ revealed)

  loose : DirtyAreLoose v.slots []
  loose = frames_loose v.slots c.books.frames

  under : Differs (is_loose_at []) c.memory d
  under = subst (Differs (is_loose_at []) c.memory) same (merged_differs [] c.books.stands.sectors v.slots c.memory c.books.stands.merged loose)

  high : 16 ≤ f.id
  high = above_reserved f.id (c.books.booked.files.given f.id (shape_with f p q) (with_here (shapes_of fs) f.id (shape_with f p q)))

  none_keep : (k : ℕ) → k ≤ 0 → KeepsVolume d (crash_state d [] k)
  none_keep zero low = volume_itself d right
  none_keep (suc k) low = absurd (omega (arith, low))

  -- its leader
  module _ (leader : ℕ) (s : Sector) (here : slice_get c.memory leader ≡ Some s) (named : names s.0 (record { id = f.id; page = leader_page }) ≡ true) where
    own : s.0.id ≡ f.id
    own = names_id s.0 (record { id = f.id; page = leader_page }) named

    number : s.0.page ≡ leader_page
    number = names_page s.0 (record { id = f.id; page = leader_page }) named

    file : is_file s.0 ≡ true
    file =
        file_label s.0 (subst (λ (i : ℕ). is_file_id i ≡ true) (sym own) (c.books.booked.files.given f.id (shape_with f p q) (with_here (shapes_of fs) f.id (shape_with f p q))))
        (subst (λ (i : ℕ). names s.0 (record { id = i; page = s.0.page }) ≡ true) (sym own) (subst (λ (n : ℕ). names s.0 (record { id = f.id; page = n }) ≡ true) (sym number) named))

    firm : is_loose [] s.0.id s.0.page ≡ false
    firm = firm_file s.0 (let h = high in omega (arith, own, h))
      where
        firm_file : (l : Label) → 16 ≤ l.id → is_loose [] l.id l.page ≡ false
        firm_file l some =
            let a : nat_lt l.id 4 ≡ false = grind arith in
            let b : nat_le 16 l.id ≡ true = grind arith in
            rw (a, b) refl

    on_disk : slice_get d leader ≡ Some s
    on_disk = under.pages leader s here firm

    there : HasData d leader s
    there = record { is_data = data_of d right leader s on_disk (let h = high in omega (arith, own, h)); here = on_disk }

    labelled : HasLabel (labels_of c.memory) leader s.0
    labelled = record {
      is_data = subst (λ (n : ℕ). first_data n ≤ leader) (sym (length-map d (λ (u : Sector). u.0)) ∙ ap (λ (ls : List Label). length ls) under.labels) there.is_data;
      here = label_here c.memory leader s here;
    }

    not_permanent : p ≡ false → is_permanent s.0 ≡ false
    not_permanent is =
        let found : shapes s.0.id ≡ Some (shape_with f p q) = ap shapes own ∙ with_here (shapes_of fs) f.id (shape_with f p q) in
        (c.books.booked.labels.leaders.reveal leader s.0 (shape_with f p q) labelled found number).permanent ∙ is

    triple : IsTriple (labels_of c.memory) f.id leader_page leader
    triple = record {
      label = s.0;
      there = labelled;
      taken = ne_eqb s.0.id 0 (let h = high in λ e. omega (arith, own, h, e));
      same_id = own;
      same_page = number;
    }

    of_file : (l : Label) → is_file l ≡ true → l.id ≡ s.0.id → is_of f.id (l, s.1) ≡ true
    of_file l is id = and_from (is_file l) (l.id == f.id) is (eq-eqb l.id f.id (id ∙ own))

    -- it gets the immutable mark, and is temporary still
    immutable_keeps : p ≡ false → disk_file false d f.id ≡ None → (k : ℕ) → k ≤ 1 → KeepsVolume d (crash_state d (write.LabelOnly leader (immutable_label s.0) ∷ []) k)
    immutable_keeps temporary none zero low = volume_itself d right
    immutable_keeps temporary none (suc zero) low =
        let l = immutable_label s.0 in
        let marks = marks_are_added s.0 file in
        let hidden : leads_file false f.id (l, s.1) ≡ false =
        and_left (leads false (l, s.1)) (l.id == f.id) (and_right (is_file l && l.page == leader_page) (false || is_permanent l) (marks.permanent_as_before ∙ not_permanent temporary)) in
        let kept = laws.temporary_written false (serial_of d) (counter_of d) d leader s (l, s.1) f.id right.files there (laws.only_of false (serial_of d) (counter_of d) f.id s (of_file s.0 file refl))
        (laws.only_of false (serial_of d) (counter_of d) f.id (l, s.1) (of_file l marks.file_too refl)) none hidden in
        let is : written (write.LabelOnly leader l) d ≡ slice_set d leader (l, s.1) = label_written d leader s l on_disk in
        let some = laws.first_positive false 0 0 (length d) in
        let above = there.is_data in
        record {
          stays = record {
            files = subst (λ (e : List Sector). files_on e ≡ files_on d) (sym is) kept.files;
            right = run.data_runs false d (write.LabelOnly leader l ∷ []) 1 right (there.is_data, tt) (subst (FilesRight false (serial_of d) (counter_of d)) (sym is) kept.right);
          };
          root = written_other d (write.LabelOnly leader l) 0 (λ e. omega (arith, some, above, e));
        }
    immutable_keeps temporary none (suc (suc k)) low = absurd (omega (arith, low))

  pub immutable_states : p ≡ false → disk_file false d f.id ≡ None → MarksFirst f.id immutable_label c.memory v.disk v.slots w.disk w.slots → CrashStatesOf (λ k. KeepsVolume d) 0 v.disk w.disk
  immutable_states temporary none (inl makes) =
      quiet_on d revealed makes.wrote.writes makes.wrote.appended (run_keeps [] v.disk w.disk v.slots d makes.wrote loose revealed none_keep)
  immutable_states temporary none (inr some) =
      quiet_on d revealed some.makes.wrote.writes some.makes.wrote.appended
      (run_keeps (write.LabelOnly some.leader (immutable_label some.s.0) ∷ []) v.disk w.disk v.slots d some.makes.wrote loose revealed (immutable_keeps some.leader some.s some.here some.named temporary none))

-- ---- It gets the permanent mark.

module _ (v w : View) (x : List Sector) (fs : List File) (f : File) (c : IsCopying v x fs f false true (size f)) (d : List Sector) (revealed : v.disk.contents ≡ Some d) (right : LabelsRight d) where
  module _ (some : MarkedSome f.id permanent_label c.memory v.disk v.slots w.disk w.slots) where
    like : (k : ℕ) → Differs (is_loose_at []) (crash_state d (write.LabelOnly some.leader (permanent_label some.s.0) ∷ []) (label_count some.makes.wrote.writes k)) (crash_state d some.makes.wrote.writes k)
    like k = crash_states_are_like [] (write.LabelOnly some.leader (permanent_label some.s.0) ∷ []) v.disk w.disk v.slots d some.makes.wrote (loose v w x fs f false true (size f) c d revealed right) revealed k

    -- the memory that it makes
    now : Marks f.id permanent_label c.memory (written (write.LabelOnly some.leader (permanent_label some.s.0)) c.memory)
    now =
        marks_written v.layout (kept_by v) (with_shape (shapes_of fs) f.id (shape_with f false true)) c.memory c.books.booked f.id (high v w x fs f false true (size f) c d revealed right) Permanent some.leader some.s some.here
        (triple v w x fs f false true (size f) c d revealed right some.leader some.s some.here some.named)

    sealed : (e : List Sector) → Differs (is_loose_at []) (written (write.LabelOnly some.leader (permanent_label some.s.0)) d) e → HasCopy x fs f v.layout e
    sealed e differs =
        let n = written (write.LabelOnly some.leader (permanent_label some.s.0)) c.memory in
        let memory = permanent_memory v.layout fs x f c.memory n c.books.booked c.keeps c.cells now in
        record {
          memory = n;
          booked = memory.0;
          keeps = memory.1;
          cells = memory.2;
          differs = differs_then (is_loose_at []) n (written (write.LabelOnly some.leader (permanent_label some.s.0)) d) e
              (label_differs c.memory d some.leader some.s (permanent_label some.s.0) (under v w x fs f false true (size f) c d revealed right) some.here
              (firm v w x fs f false true (size f) c d revealed right some.leader some.s some.here some.named)) differs;
        }

    at : (k n : ℕ) → label_count some.makes.wrote.writes k ≡ n → n ≤ 1 → IsSealing x fs f v.layout d n (crash_state d some.makes.wrote.writes k)
    at k zero count few =
        loose_keeps d (crash_state d some.makes.wrote.writes k) (subst (λ (n : ℕ). Differs (is_loose_at []) (crash_state d (write.LabelOnly some.leader (permanent_label some.s.0) ∷ []) n) (crash_state d some.makes.wrote.writes k)) count (like k)) right
    at k (suc zero) count few =
        sealed (crash_state d some.makes.wrote.writes k) (subst (λ (n : ℕ). Differs (is_loose_at []) (crash_state d (write.LabelOnly some.leader (permanent_label some.s.0) ∷ []) n) (crash_state d some.makes.wrote.writes k)) count (like k))
    at k (suc (suc n)) count few = absurd (omega (arith, few))

    few : (k : ℕ) → label_count some.makes.wrote.writes k ≤ 1
    few k = few_labels (write.LabelOnly some.leader (permanent_label some.s.0) ∷ []) v.disk w.disk v.slots some.makes.wrote k

    marked_states : CrashStatesOf (IsSealing x fs f v.layout d) 1 v.disk w.disk
    marked_states =
        states_on d revealed some.makes.wrote.writes some.makes.wrote.appended (label_count some.makes.wrote.writes) (count_rises some.makes.wrote.writes) few
        (λ k. at k (label_count some.makes.wrote.writes k) refl (few k))

  pub permanent_states : MarksFirst f.id permanent_label c.memory v.disk v.slots w.disk w.slots → CrashStatesOf (IsSealing x fs f v.layout d) 1 v.disk w.disk
  permanent_states (inl makes) =
      quiet_on d revealed makes.wrote.writes makes.wrote.appended
      (run_keeps [] v.disk w.disk v.slots d makes.wrote (loose v w x fs f false true (size f) c d revealed right) revealed (none_keep v w x fs f false true (size f) c d revealed right))
  permanent_states (inr some) = marked_states some

-- ---- All of it.

-- a mark that was made
pub marked_first : {id : ℕ} {mark : Label → Label} {m : List Sector} {a b : DiskState} {before after : Slots} {layout : Layout} {runs : CachedRuns} → IsMarked id mark m a before layout b after runs → MarksFirst id mark m a before b after
marked_first made = inr (record { leader = made.leader; s = made.s; here = made.here; named = made.named; makes = made.leads.goes.makes })

sealing_then : (x : List Sector) (fs : List File) (f : File) (layout : Layout) (d e : List Sector) → KeepsVolume d e → (k : ℕ) (g : List Sector) → IsSealing x fs f layout e k g → IsSealing x fs f layout d k g
sealing_then x fs f layout d e keeps zero g more = volume_then keeps more
sealing_then x fs f layout d e keeps (suc k) g copy = copy

-- the disk had all that it has
module _ (v : View) (fs : List File) (x : List Sector) (f : File) (id : ℕ) (same_id : f.id ≡ id) (c : IsCopying v x fs f false false (size f)) (d : List Sector) (revealed : v.disk.contents ≡ Some d) (right : LabelsRight d) (none : file_at (files_on d) id ≡ None)
    (w : View) (synced : RevealsSame v.disk w.disk) (stays : FramesStay v w) where
  pub none_sealed : CrashStatesOf (IsSealing x fs f v.layout d) 1 v.disk w.disk
  none_sealed = none_states synced (λ e here. subst (KeepsVolume d) (same_Some d e (sym revealed ∙ here)) (volume_itself d right))

  pub synced_copying : IsCopying w x fs f false false (size f)
  synced_copying = swapped_copying v w fs x f false false (size f) c synced stays

  -- it got the immutable mark, or not
  module _ (u : View) (marks : MarksFirst id immutable_label synced_copying.memory w.disk w.slots u.disk u.slots) where
    first : CrashStatesOf (λ k. KeepsVolume d) 0 v.disk u.disk
    first =
        same_first synced (immutable_states w u x fs f false false (size f) synced_copying d (synced.contents ∙ revealed) right refl (sym (laws.look_up false 0 0 d f.id) ∙ ap (file_at (files_on d)) same_id ∙ none)
        (subst (λ (i : ℕ). MarksFirst i immutable_label synced_copying.memory w.disk w.slots u.disk u.slots) (sym same_id) marks))

    pub immutable_sealed : CrashStatesOf (IsSealing x fs f v.layout d) 1 v.disk u.disk
    immutable_sealed = quiet_wider first (λ i e keeps. keeps)

    -- and the permanent one
    module _ (layout : u.layout ≡ v.layout) (two : IsCopying u x fs f false true (size f)) (t : View) (more : MarksFirst id permanent_label two.memory u.disk u.slots t.disk t.slots) where
      pub permanent_sealed : CrashStatesOf (IsSealing x fs f v.layout d) 1 v.disk t.disk
      permanent_sealed =
          let last = last_state first d revealed in
          quiet_then first (permanent_states u t x fs f two last.0 last.1 last.2.stays.right (subst (λ (i : ℕ). MarksFirst i permanent_label two.memory u.disk u.slots t.disk t.slots) (sym same_id) more)) (λ i e keeps. keeps)
          (λ i e sealing. subst (λ (l : Layout). IsSealing x fs f l d i e) layout (sealing_then x fs f u.layout d last.0 last.2 i e sealing))
