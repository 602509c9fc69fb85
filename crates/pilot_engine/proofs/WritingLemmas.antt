-- What calls write, whatever a volume holds.
use Rattle.std.proofs.Common.{◌≡◌, ◌⊎◌, inl, inr, ℕ, zero, suc, ◌+◌, ◌^◌, ◌<◌, ◌≤◌, Bool, true, false, List, [], ◌∷◌, ◌++◌, length, take, Some, None, Result, Ok, Err, refl, sym, ◌∙◌, ap, subst, arith, bit_or}
use Rattle.std.specs.Prelude.{OnOk, filter, not, option_map, slice_get}
use Rattle.std.proofs.lemmas.Bool.{true≢false}
use Rattle.std.proofs.lemmas.Nat.{le_or_r}
use Rattle.std.proofs.lemmas.Option.{none-some, same_Some}
use Rattle.labelled_disk.specs.declared.disk.DiskWrite.{DiskWrite}
use Rattle.labelled_disk.specs.declared.disk.DiskWrite.TheVariants as write
use Rattle.labelled_disk.specs.declared.evidence.Halt.{Halt}
use Rattle.labelled_disk.specs.declared.label.Label.{Label}
use Rattle.labelled_disk.specs.declared.label.Wanted.{Wanted}
use Rattle.labelled_disk.specs.declared.disk.Disk.{Ghosts}
use Rattle.labelled_disk.specs.Calls.{OnlyReads, RevealsSame, RevealsWrite}
use Rattle.labelled_disk.specs.CrashState.{crash_state}
use Rattle.labelled_disk.specs.Permitted.{IsLabelWrite}
use Rattle.labelled_disk.specs.Runs.{creation, freeing, growth}
use Rattle.labelled_disk.specs.Sectors.{Sector, free_label}
use Rattle.labelled_disk.specs.State.{DiskState}
use Rattle.labelled_disk.specs.WriteRuns.{after_writes}
use Rattle.labelled_disk.proofs.WriteRunLemmas.{appended_none, appended_one, appended_then, crash_state-earlier, crash_state-later}
use Rattle.frame_pool.specs.Frames.{Slots}
use Rattle.swapper_kernel.specs.Goes.{Makes, Pages, is_page_write}
use Rattle.flat_machine.specs.declared.call.Call.{Call}
use Rattle.flat_machine.specs.declared.call.Call.TheVariants as call
use Rattle.flat_machine.specs.declared.call.Reply.{Reply}
use Rattle.label_calls.specs.declared.page.Mark.{Mark}
use Rattle.label_calls.specs.declared.page.Mark.TheVariants.{Permanent, Immutable}
use Rattle.label_calls.specs.Labels.{with_mark}
use Rattle.label_calls.specs.Own.{RelabelsOwn}
use Rattle.label_calls.specs.OwnLaws.{place_in, revealed_after}
use Rattle.volume_root.specs.declared.root.Root.{Root}
use Rattle.volume_root.specs.RootPage.{root_bytes, root_write}
use Rattle.volume_root.proofs.WrittenLemmas.{counter_read, serial_read}
use Rattle.file_manager.specs.Answer.{WritesMark}
use Rattle.file_manager.specs.Creating.{NewMade, NewSome, counted, next_id}
use Rattle.file_manager.specs.Freeing.{MakesFree, MakesSomeFree}
use Rattle.file_manager.specs.Resizing.{Resizes, ResizesSome}
use Rattle.pilot_engine.specs.Labels.{WritesPagesAlone}
use Rattle.pilot_engine.specs.Trying.{replied_as}
use Rattle.fault_core.specs.Core.{state}
use Rattle.pilot_engine.specs.declared.session.Session.{Session}
use Rattle.pilot_engine.specs.Closing.{closed_root}
use Rattle.pilot_engine.specs.Opening.{StartsSome, in_use}
use Rattle.pilot_engine.specs.Writing.{BeginMay, CallMay, Clears, EndMay, FileMay, FreeMay, GrowMay, HasNumbers, IsOfFile, LabelMay, WholeMay, Written}
use Rattle.pilot_engine.proofs.SparedCalls.{all_then, over_own, spares_quiet}
use Rattle.pilot_engine.proofs.StartWrites.{appended_later}

-- ---- Calls in a row.

pub only_then : {may : List Sector → DiskWrite → Type 0} {a b c : DiskState} → Written may a b → Written may b c → Written may a c
only_then {may = may} one more = record {
  writes = one.writes ++ more.writes;
  appended = appended_then one.writes more.writes one.appended more.appended;
  each = λ d earlier k w revealed was at. elim (place_in one.writes more.writes k w at) [
    | inl (below, there) ↦ subst (λ (now : List Sector). may now w) (sym (crash_state-earlier d one.writes more.writes k (omega (arith, below)))) (one.each d earlier k w revealed was there)
    | inr (j, past, there) ↦ subst (λ (now : List Sector). may now w) (sym (ap (crash_state d (one.writes ++ more.writes)) past ∙ crash_state-later d one.writes more.writes j))
        (more.each (after_writes one.writes d) (earlier ++ one.writes) j w (one.appended.contents ∙ ap (option_map (after_writes one.writes)) revealed) (revealed_after one.writes earlier one.appended was) there)
  ];
}

pub only_same : (may : List Sector → DiskWrite → Type 0) {a b : DiskState} → RevealsSame a b → Written may a b
only_same may same = record { writes = []; appended = appended_none same; each = λ d earlier k w revealed was at. absurd (none-some w at) }

pub only_wider : (may more : List Sector → DiskWrite → Type 0) {a b : DiskState} → ((d : List Sector) (w : DiskWrite) → may d w → more d w) → Written may a b → Written more a b
only_wider may more wider only = record {
  writes = only.writes;
  appended = only.appended;
  each = λ d earlier k w revealed was at. wider (crash_state d only.writes k) w (only.each d earlier k w revealed was at);
}

-- ---- What the labels of a call are.

-- each of these writes is such
abbrev pub AreAll : (DiskWrite → Type 0) → List DiskWrite → Type 0
AreAll P [] = Unit {0}
AreAll P (w ∷ ws) = P w × AreAll P ws

pub all_take : (P : DiskWrite → Type 0) (n : ℕ) (ws : List DiskWrite) → AreAll P ws → AreAll P (take n ws)
all_take P zero ws are = tt
all_take P (suc n) [] are = tt
all_take P (suc n) (w ∷ ws) are = (are.0, all_take P n ws are.1)

-- where the writes of labels are such, so is each one of a label
all_among : (P : DiskWrite → Type 0) (ws : List DiskWrite) → AreAll P (filter (λ w. not (is_page_write w)) ws) → (k : ℕ) (w : DiskWrite) → slice_get ws k ≡ Some w → is_page_write w ≡ false → P w
all_among P [] are k w at label = absurd (none-some w at)
all_among P (write.Whole i l page ∷ ws) are zero w at label = subst P (same_Some (write.Whole i l page) w at) are.0
all_among P (write.Whole i l page ∷ ws) are (suc k) w at label = all_among P ws are.1 k w at label
all_among P (write.LabelOnly i l ∷ ws) are zero w at label = subst P (same_Some (write.LabelOnly i l) w at) are.0
all_among P (write.LabelOnly i l ∷ ws) are (suc k) w at label = all_among P ws are.1 k w at label
all_among P (write.Page i wanted page ∷ ws) are zero w at label = absurd (true≢false (ap is_page_write (same_Some (write.Page i wanted page) w at) ∙ label))
all_among P (write.Page i wanted page ∷ ws) are (suc k) w at label = all_among P ws are k w at label

pub labels_are : (P : DiskWrite → Type 0) {pages : Pages} {run : List DiskWrite} {a b : DiskState} {s t : Slots} → AreAll P run → (makes : Makes pages run a s b t)
    → (k : ℕ) (w : DiskWrite) → slice_get makes.wrote.writes k ≡ Some w → is_page_write w ≡ false → P w
labels_are P are makes = all_among P makes.wrote.writes (subst (AreAll P) (sym makes.wrote.labels) are)

-- free labels
abbrev pub IsFreeing : DiskWrite → Type 0
IsFreeing (write.Whole sector label page) = ⊥
IsFreeing (write.LabelOnly sector label) = label ≡ free_label
IsFreeing (write.Page sector wanted page) = Unit {0}

pub all_freeing : (is : List ℕ) → AreAll IsFreeing (freeing is)
all_freeing [] = tt
all_freeing (i ∷ is) = (refl, all_freeing is)

-- a label with a mark more
abbrev IsMarking : Mark → DiskWrite → Type 0
IsMarking mark (write.Whole sector label page) = ⊥
IsMarking mark (write.LabelOnly sector label) = (was : Label) × (label ≡ with_mark mark was)
IsMarking mark (write.Page sector wanted page) = Unit {0}

-- labels with their pages, of this file, and the root with these numbers
abbrev IsMaking : ℕ → Root → DiskWrite → Type 0
IsMaking id next (write.Whole sector label page) = ((sector ≡ 0) × HasNumbers next page) ⊎ (label.id ≡ id)
IsMaking id next (write.LabelOnly sector label) = ⊥
IsMaking id next (write.Page sector wanted page) = Unit {0}

-- of this file alone
abbrev IsGrowing : ℕ → DiskWrite → Type 0
IsGrowing id (write.Whole sector label page) = label.id ≡ id
IsGrowing id (write.LabelOnly sector label) = ⊥
IsGrowing id (write.Page sector wanted page) = Unit {0}

all_growing : (id kind page : ℕ) (is : List ℕ) → AreAll (IsGrowing id) (growth id kind page is)
all_growing id kind page [] = tt
all_growing id kind page (i ∷ is) = (refl, all_growing id kind (page + 1) is)

making_growth : (id : ℕ) (next : Root) (kind page : ℕ) (is : List ℕ) → AreAll (IsMaking id next) (growth id kind page is)
making_growth id next kind page [] = tt
making_growth id next kind page (i ∷ is) = (inr refl, making_growth id next kind (page + 1) is)

making_file : (root next : Root) → HasNumbers next (root_bytes (counted root)) → (kind leader : ℕ) (is : List ℕ) → AreAll (IsMaking (next_id root) next) (root_write (counted root) ∷ creation (next_id root) kind leader is)
making_file root next numbers kind leader is = (inl (refl, numbers), (inr refl, making_growth (next_id root) next kind 0 is))

-- the page of a root has its numbers
pub own_numbers : (root : Root) → root.serial < 2 ^ 32 → root.counter < 2 ^ 32 → HasNumbers root (root_bytes root)
own_numbers root serial counter = (serial_read root serial, counter_read root counter)

-- a mark is no free label
marked_not_free : (mark : Mark) (was : Label) → with_mark mark was ≡ free_label → ⊥
marked_not_free Permanent was is = let flags : bit_or was.flags 1 ≡ 0 = ap (λ (l : Label). l.flags) is in let most = le_or_r was.flags 1 in omega (arith, flags, most)
marked_not_free Immutable was is = let flags : bit_or was.flags 2 ≡ 0 = ap (λ (l : Label). l.flags) is in let most = le_or_r was.flags 2 in omega (arith, flags, most)

-- so it is one of the file whose label it is written over
marked_own_id : (id : ℕ) (mark : Mark) (d : List Sector) (sector : ℕ) (label was : Label) → label ≡ with_mark mark was → IsLabelWrite d sector label → IsOfFile id d sector → label.id ≡ id
marked_own_id id mark d sector label was is permitted own =
    let s = permitted.old.0 in
    let of_file : s.0.id ≡ id = own s permitted.old.1.here in
    elim permitted.old.3 [
      | inl free ↦ absurd (marked_not_free mark was (sym is ∙ free))
      | inr (leads, either) ↦ elim either [
        | inl permanent ↦ ap (λ (l : Label). l.id) permanent ∙ of_file
        | inr immutable ↦ ap (λ (l : Label). l.id) immutable ∙ of_file
      ]
    ]

-- ---- Calls.

-- labels of this run, each of which may be written
only_run : (may : List Sector → DiskWrite → Type 0) (P : DiskWrite → Type 0) {pages : Pages} {run : List DiskWrite} {a b : DiskState} {s t : Slots} → AreAll P run → (makes : Makes pages run a s b t)
    → ((d : List Sector) (sector : ℕ) (label : Label) (page : List ℕ) → P (write.Whole sector label page) → may d (write.Whole sector label page))
    → ((d : List Sector) (earlier : List DiskWrite) → a.contents ≡ Some d → a.writes ≡ Some earlier → (k sector : ℕ) (label : Label) → slice_get makes.wrote.writes k ≡ Some (write.LabelOnly sector label)
    → P (write.LabelOnly sector label) → may (crash_state d makes.wrote.writes k) (write.LabelOnly sector label))
    → ((d : List Sector) (sector : ℕ) (wanted : Wanted) (page : List ℕ) → may d (write.Page sector wanted page)) → Written may a b
only_run may P {a = a} are makes whole label_only page_only = record {
  writes = makes.wrote.writes;
  appended = makes.wrote.appended;
  each = by;
}
  where
    by : (d : List Sector) (earlier : List DiskWrite) (k : ℕ) (w : DiskWrite) → a.contents ≡ Some d → a.writes ≡ Some earlier → slice_get makes.wrote.writes k ≡ Some w → may (crash_state d makes.wrote.writes k) w
    by d earlier k (write.Whole sector label page) revealed was at = whole (crash_state d makes.wrote.writes k) sector label page (labels_are P are makes k (write.Whole sector label page) at refl)
    by d earlier k (write.LabelOnly sector label) revealed was at = label_only d earlier revealed was k sector label at (labels_are P are makes k (write.LabelOnly sector label) at refl)
    by d earlier k (write.Page sector wanted page) revealed was at = page_only (crash_state d makes.wrote.writes k) sector wanted page

-- of a call that makes no file
module _ (c : Call) where
  -- no label
  pub only_quiet : {pages : Pages} {a b : DiskState} {s t : Slots} → Makes pages [] a s b t → Written (FileMay c) a b
  only_quiet makes = only_run (FileMay c) (λ w. ⊥) tt makes (λ d sector label page none. absurd none) (λ d earlier revealed was k sector label at none. absurd none) (λ d sector wanted page. tt)

  pub only_itself : (disk : DiskState) → Written (FileMay c) disk disk
  only_itself disk = only_same (FileMay c) (record { contents = refl; writes = refl })

  -- labels of this file that are freed
  only_freed : (id : ℕ) (is : List ℕ) {pages : Pages} {a b : DiskState} {s t : Slots} → ((d : List Sector) (sector : ℕ) (label : Label) → IsOfFile id d sector → label ≡ free_label → LabelMay c d sector label)
      → Makes pages (freeing is) a s b t → RelabelsOwn id a b → Written (FileMay c) a b
  only_freed id is may makes own = only_run (FileMay c) IsFreeing (all_freeing is) makes (λ d sector label page none. absurd none)
      (λ d earlier revealed was k sector label at free. may (crash_state d makes.wrote.writes k) sector label (over_own id makes.wrote own d earlier revealed was k sector label at) free) (λ d sector wanted page. tt)

  -- a mark of this file
  only_marked : (id : ℕ) (mark : Mark) {a b : DiskState} {s t : Slots} → ((d : List Sector) (sector : ℕ) (label : Label) → IsOfFile id d sector → label.id ≡ id → LabelMay c d sector label)
      → WritesMark mark a s b t → RelabelsOwn id a b → Written (FileMay c) a b
  only_marked id mark may (inl nothing) own = only_quiet nothing
  only_marked id mark may (inr made) own =
      let makes = made.2 in
      only_run (FileMay c) (IsMarking mark) ((made.1, refl), tt) makes (λ d sector label page none. absurd none)
      (λ d earlier revealed was k sector label at marks.
      let now = crash_state d makes.wrote.writes k in
      let of_file = over_own id makes.wrote own d earlier revealed was k sector label at in
      may now sector label of_file (marked_own_id id mark now sector label marks.0 marks.1 (makes.wrote.permitted d k (write.LabelOnly sector label) revealed at) of_file))
      (λ d sector wanted page. tt)

-- another size
module _ (id pages : ℕ) (client : 16 ≤ id) where
  only_grown : {run : List DiskWrite} {of : Pages} {a b : DiskState} {s t : Slots} → AreAll (IsGrowing id) run → Makes of run a s b t → Written (FileMay (call.SetSize id pages)) a b
  only_grown are makes = only_run (FileMay (call.SetSize id pages)) (IsGrowing id) are makes (λ d sector label page own. (own, client)) (λ d earlier revealed was k sector label at none. absurd none) (λ d sector wanted page. tt)

  only_cut : (is : List ℕ) {of : Pages} {a b : DiskState} {s t : Slots} → Makes of (freeing is) a s b t → RelabelsOwn id a b → Written (FileMay (call.SetSize id pages)) a b
  only_cut is makes own = only_freed (call.SetSize id pages) id is (λ d sector label of_file free. (of_file, free)) makes own

  pub only_resized : {a b : DiskState} {s t : Slots} → Resizes id pages a s b t → RelabelsOwn id a b → Written (FileMay (call.SetSize id pages)) a b
  only_resized (inl grown) own = only_grown (all_growing id grown.0 grown.1 grown.3.sectors) grown.3.makes
  only_resized (inr shrunk) own = only_cut shrunk.2.sectors shrunk.2.makes own

  pub only_resizing : {a b : DiskState} {s t : Slots} → ResizesSome id pages a s b t → RelabelsOwn id a b → Written (FileMay (call.SetSize id pages)) a b
  only_resizing (inl grew) own = only_grown (all_take (IsGrowing id) grew.2.count (growth id grew.0 grew.1 grew.2.sectors) (all_growing id grew.0 grew.1 grew.2.sectors)) grew.2.makes
  only_resizing (inr freed) own = only_cut freed.sectors freed.makes own

module _ (id : ℕ) where
  -- a file that is deleted
  pub only_deleted : {pages : ℕ} {a b : DiskState} {s t : Slots} → MakesFree pages a s b t → RelabelsOwn id a b → Written (FileMay (call.Delete id)) a b
  only_deleted freed own = only_freed (call.Delete id) id freed.sectors (λ d sector label of_file free. (of_file, free)) freed.makes own

  pub only_deleting : {a b : DiskState} {s t : Slots} → MakesSomeFree a s b t → RelabelsOwn id a b → Written (FileMay (call.Delete id)) a b
  only_deleting freed own = only_freed (call.Delete id) id freed.sectors (λ d sector label of_file free. (of_file, free)) freed.makes own

  -- marks
  pub only_permanent : {a b : DiskState} {s t : Slots} → WritesMark Permanent a s b t → RelabelsOwn id a b → Written (FileMay (call.MakePermanent id)) a b
  only_permanent marks own = only_marked (call.MakePermanent id) id Permanent (λ d sector label of_file is. (of_file, is)) marks own

  pub only_immutable : {a b : DiskState} {s t : Slots} → WritesMark Immutable a s b t → RelabelsOwn id a b → Written (FileMay (call.MakeImmutable id)) a b
  only_immutable marks own = only_marked (call.MakeImmutable id) id Immutable (λ d sector label of_file is. (of_file, is)) marks own

-- a file goes with the window that showed it
pub only_unmapped : (id space : ℕ) {a b : DiskState} → Written (FileMay (call.Delete id)) a b → Written (FileMay (call.Unmap space)) a b
only_unmapped id space only = only_wider (FileMay (call.Delete id)) (FileMay (call.Unmap space)) by only
  where
    by : (d : List Sector) (w : DiskWrite) → FileMay (call.Delete id) d w → FileMay (call.Unmap space) d w
    by d (write.Whole sector label page) may = may
    by d (write.LabelOnly sector label) may = may.1
    by d (write.Page sector wanted page) may = tt

-- ---- Any call.

module _ (new : ℕ) (next : Root) where
  -- what a call writes that makes no file
  pub only_call : (c : Call) {d : Call} {a b : DiskState} → c ≡ d → Written (FileMay d) a b → Written (CallMay new next c) a b
  only_call c {d = d} {a = a} {b = b} is only = subst (λ (e : Call). Written (CallMay new next e) a b) (sym is) (only_wider (FileMay d) (CallMay new next d) (by d) only)
    where
      whole : (e : Call) (sector : ℕ) (label : Label) (page : List ℕ) → GrowMay e label → WholeMay new next e sector label page
      whole (call.Create pages kind) sector label page may = absurd may
      whole (call.MapAnonymous space) sector label page may = absurd may
      whole other sector label page may = may

      by : (e : Call) (x : List Sector) (w : DiskWrite) → FileMay e x w → CallMay new next e x w
      by e x (write.Whole sector label page) may = whole e sector label page may
      by e x (write.LabelOnly sector label) may = may
      by e x (write.Page sector wanted page) may = tt

  -- no label
  pub only_alone : (c : Call) {pages : Pages} {run : List DiskWrite} {a b : DiskState} {s t : Slots} → Makes pages run a s b t → WritesPagesAlone a b → Written (CallMay new next c) a b
  only_alone c makes alone = record {
    writes = makes.wrote.writes;
    appended = makes.wrote.appended;
    each = λ d earlier k w revealed was at. by (crash_state d makes.wrote.writes k) w (alone.pages earlier makes.wrote.writes was (revealed_after makes.wrote.writes earlier makes.wrote.appended was) k w at);
  }
    where
      by : (d : List Sector) (w : DiskWrite) → is_page_write w ≡ true → CallMay new next c d w
      by d (write.Whole sector label page) is = absurd (true≢false (sym is))
      by d (write.LabelOnly sector label) is = absurd (true≢false (sym is))
      by d (write.Page sector wanted page) is = tt

  pub only_asked : (c : Call) {pages : Pages} {a b : DiskState} {s t : Slots} → Makes pages [] a s b t → Written (CallMay new next c) a b
  only_asked c makes = only_run (CallMay new next c) (λ w. ⊥) tt makes (λ d sector label page none. absurd none) (λ d earlier revealed was k sector label at none. absurd none) (λ d sector wanted page. tt)

  pub only_still : (c : Call) (disk : DiskState) → Written (CallMay new next c) disk disk
  only_still c disk = only_same (CallMay new next c) (record { contents = refl; writes = refl })

  -- the same of a call by its name
  pub only_named : (c : Call) {d : Call} {a b : DiskState} → c ≡ d → Written (CallMay new next d) a b → Written (CallMay new next c) a b
  only_named c {a = a} {b = b} is only = subst (λ (e : Call). Written (CallMay new next e) a b) (sym is) only

  -- a new file in a window
  pub only_mapped : (pages kind space : ℕ) {a b : DiskState} → Written (CallMay new next (call.Create pages kind)) a b → Written (CallMay new next (call.MapAnonymous space)) a b
  only_mapped pages kind space only = only_wider (CallMay new next (call.Create pages kind)) (CallMay new next (call.MapAnonymous space)) by only
    where
      by : (d : List Sector) (w : DiskWrite) → CallMay new next (call.Create pages kind) d w → CallMay new next (call.MapAnonymous space) d w
      by d (write.Whole sector label page) may = may
      by d (write.LabelOnly sector label) may = may
      by d (write.Page sector wanted page) may = tt

  -- after a call that looks at the space
  pub mapped_after : (pages kind space : ℕ) {of : Pages} {a b e : DiskState} {s t : Slots} → Makes of [] a s b t → Written (CallMay new next (call.Create pages kind)) b e
      → Written (CallMay new next (call.MapAnonymous space)) a e
  mapped_after pages kind space looks only = only_then (only_asked (call.MapAnonymous space) looks) (only_mapped pages kind space only)

-- what holds after an Ok
pub where_ok : {T P : Type 0} (result : Result T Halt) → P → OnOk result P
where_ok (Ok x) holds = holds
where_ok (Err e) holds = tt

-- of a call that makes no file
pub allowed_call : {T : Type 0} (result : Result T Halt) (new : ℕ) (next later : Root) (c : Call) {d : Call} {a b : DiskState} → c ≡ d → Written (FileMay d) a b → Written (CallMay new next c) a b × OnOk result (Written (CallMay new later c) a b)
allowed_call result new next later c is only = (only_call new next c is only, where_ok result (only_call new later c is only))

pub allowed_alone : {T : Type 0} (result : Result T Halt) (new : ℕ) (next later : Root) (c : Call) {pages : Pages} {run : List DiskWrite} {a b : DiskState} {s t : Slots} → Makes pages run a s b t → WritesPagesAlone a b
    → Written (CallMay new next c) a b × OnOk result (Written (CallMay new later c) a b)
allowed_alone result new next later c makes alone = (only_alone new next c makes alone, where_ok result (only_alone new later c makes alone))

pub allowed_asked : {T : Type 0} (result : Result T Halt) (new : ℕ) (next later : Root) (c : Call) {pages : Pages} {a b : DiskState} {s t : Slots} → Makes pages [] a s b t → Written (CallMay new next c) a b × OnOk result (Written (CallMay new later c) a b)
allowed_asked result new next later c makes = (only_asked new next c makes, where_ok result (only_asked new later c makes))

-- the same of a call by its name, and of what it comes to
pub allowed_named : {T : Type 0} (result : Result T Halt) (new : ℕ) (next later : Root) (c : Call) {d : Call} {a b : DiskState} → c ≡ d → Written (CallMay new next d) a b × OnOk result (Written (CallMay new later d) a b)
    → Written (CallMay new next c) a b × OnOk result (Written (CallMay new later c) a b)
allowed_named result new next later c {a = a} {b = b} is allowed = subst (λ (e : Call). Written (CallMay new next e) a b × OnOk result (Written (CallMay new later e) a b)) (sym is) allowed

pub allowed_tried : (result : Result Reply Halt) {O : Type 0} (P : Type 0) → O × OnOk result P → O × OnOk (replied_as result) P
allowed_tried (Ok reply) P allowed = allowed
allowed_tried (Err e) P allowed = allowed

-- ---- A file that is created.

-- the root of the volume is counted
pub counted_numbers : (root next : Root) → next ≡ counted root → root.serial < 2 ^ 32 → root.counter < 4294967295 → HasNumbers next (root_bytes (counted root))
counted_numbers root next is serial counter = subst (λ (r : Root). HasNumbers r (root_bytes (counted root))) (sym is) (own_numbers (counted root) serial (omega (arith, counter)))

module _ (root next : Root) (some : 1 ≤ root.serial) (numbers : HasNumbers next (root_bytes (counted root))) (pages kind : ℕ) where
  only_making : {run : List DiskWrite} {of : Pages} {a b : DiskState} {s t : Slots} → AreAll (IsMaking (next_id root) next) run → Makes of run a s b t → Written (CallMay (next_id root) next (call.Create pages kind)) a b
  only_making are makes = only_run (CallMay (next_id root) next (call.Create pages kind)) (IsMaking (next_id root) next) are makes whole (λ d earlier revealed was k sector label at none. absurd none) (λ d sector wanted page. tt)
    where
      whole : (d : List Sector) (sector : ℕ) (label : Label) (page : List ℕ) → IsMaking (next_id root) next (write.Whole sector label page) → WholeMay (next_id root) next (call.Create pages kind) sector label page
      whole d sector label page (inl is) = inl is
      whole d sector label page (inr own) = inr (own, omega (arith, some))

  pub only_created : {a b : DiskState} {s t : Slots} → NewMade root kind pages a s b t → Written (CallMay (next_id root) next (call.Create pages kind)) a b
  only_created made = only_making (making_file root next numbers kind made.leader made.sectors) made.makes

  pub only_creating : {a b : DiskState} {s t : Slots} → NewSome root kind pages a s b t → Written (CallMay (next_id root) next (call.Create pages kind)) a b
  only_creating made = only_making (all_take (IsMaking (next_id root) next) made.count (root_write (counted root) ∷ creation (next_id root) kind made.leader made.sectors) (making_file root next numbers kind made.leader made.sectors)) made.makes

-- ---- A start.

abbrev IsBeginning : Root → DiskWrite → Type 0
IsBeginning root (write.Whole sector label page) = ((sector ≡ 0) × HasNumbers root page) ⊎ (label.id ≡ 3)
IsBeginning root (write.LabelOnly sector label) = ⊥
IsBeginning root (write.Page sector wanted page) = Unit {0}

beginning_growth : (root : Root) (page : ℕ) (is : List ℕ) → AreAll (IsBeginning root) (growth 3 0 page is)
beginning_growth root page [] = tt
beginning_growth root page (i ∷ is) = (inr refl, beginning_growth root (page + 1) is)

-- after calls that wrote nothing, on a disk whose root was read
pub only_begun : {o a b : DiskState} {s t : Slots} {root : Root} → OnlyReads o a → StartsSome root a s b t → root.serial < 2 ^ 32 → root.counter < 2 ^ 32 → (read : Root) → root ≡ read → Written (BeginMay read) o b
only_begun {root = root} reads starts serial counter read is =
    let run = root_write (in_use root) ∷ growth 3 0 0 starts.sectors in
    let numbers : HasNumbers read (root_bytes (in_use root)) = subst (λ (r : Root). HasNumbers r (root_bytes (in_use root))) is (own_numbers (in_use root) serial counter) in
    let on = only_run (BeginMay read) (IsBeginning read) (all_take (IsBeginning read) starts.count run (inl (refl, numbers), beginning_growth read 0 starts.sectors)) starts.makes
    (λ d sector label page may. may) (λ d earlier revealed was k sector label at none. absurd none) (λ d sector wanted page. tt) in
    record {
      writes = on.writes;
      appended = appended_later reads on.writes on.appended;
      each = λ d earlier k w revealed was at. on.each d earlier k w (reads.contents ∙ revealed) (reads.writes ∙ was) at;
    }

pub only_read : (read : Root) {o a : DiskState} → OnlyReads o a → Written (BeginMay read) o a
only_read read reads = only_same (BeginMay read) (record { contents = reads.contents; writes = reads.writes })

-- ---- An end.

free_end : (root : Root) (d : List Sector) (w : DiskWrite) → FreeMay d w → EndMay root d w
free_end root d (write.Whole sector label page) may = absurd may
free_end root d (write.LabelOnly sector label) may = may
free_end root d (write.Page sector wanted page) may = tt

pub frees_end : (root : Root) {a b : DiskState} → Written FreeMay a b → Written (EndMay root) a b
frees_end root frees = only_wider FreeMay (EndMay root) (free_end root) frees

-- no label
pub frees_none : {pages : Pages} {a b : DiskState} {s t : Slots} → Makes pages [] a s b t → Written FreeMay a b
frees_none makes = only_run FreeMay (λ w. ⊥) tt makes (λ d sector label page none. absurd none) (λ d earlier revealed was k sector label at none. absurd none) (λ d sector wanted page. tt)

pub frees_run : (is : List ℕ) {pages : Pages} {a b : DiskState} {s t : Slots} → Makes pages (freeing is) a s b t → Written FreeMay a b
frees_run is makes = only_run FreeMay IsFreeing (all_freeing is) makes (λ d sector label page none. absurd none) (λ d earlier revealed was k sector label at free. free) (λ d sector wanted page. tt)

-- the root of the closed volume
pub closes_end : (root : Root) → root.serial < 2 ^ 32 → root.counter < 2 ^ 32 → {a b : DiskState} → RevealsSame a b ⊎ RevealsWrite (root_write (closed_root root)) a b → Written (EndMay root) a b
closes_end root serial counter (inl same) = only_same (EndMay root) same
closes_end root serial counter {a = a} (inr made) = record {
  writes = root_write (closed_root root) ∷ [];
  appended = appended_one (root_write (closed_root root)) made;
  each = by;
}
  where
    by : (d : List Sector) (earlier : List DiskWrite) (k : ℕ) (w : DiskWrite) → a.contents ≡ Some d → a.writes ≡ Some earlier → slice_get (root_write (closed_root root) ∷ []) k ≡ Some w → EndMay root (crash_state d (root_write (closed_root root) ∷ []) k) w
    by d earlier zero w revealed was at = subst (EndMay root d) (same_Some (root_write (closed_root root)) w at) (refl, own_numbers (closed_root root) serial counter)
    by d earlier (suc k) w revealed was at = absurd (none-some w at)

module _ {D A : Type 0} {G : Ghosts D} where
  pub clears_none : {old new : Session D A G} {pages : Pages} {s t : Slots} → Makes pages [] (state old.core).disk s (state new.core).disk t → new.volume.root ≡ old.volume.root → Clears old new
  clears_none makes root = record { spares = spares_quiet makes; frees = frees_none makes; root = root }

  pub clears_then : {old mid new : Session D A G} → Clears old mid → Clears mid new → Clears old new
  clears_then one more = record { spares = all_then one.spares more.spares; frees = only_then one.frees more.frees; root = more.root ∙ one.root }
