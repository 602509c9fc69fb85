-- What stops a call on spaces, or a look at a file, has a reason, where disk and frames keep to the initial state.
use Rattle.std.proofs.Common.{◌⊎◌, inl, inr, ℕ, true, false, Option, sym, subst, arith}
use Rattle.std.proofs.lemmas.Bool.Decides.{nat_tests}
use Rattle.std.specs.Prelude.{Bool, []}
use Rattle.labelled_disk.specs.declared.evidence.Evidence.{Evidence}
use Rattle.labelled_disk.specs.declared.evidence.Evidence.TheVariants.{Mismatch, Malformed, Missing}
use Rattle.labelled_disk.specs.declared.evidence.Halt.{Halt}
use Rattle.labelled_disk.specs.declared.evidence.Halt.TheVariants.{Disk, Damaged}
use Rattle.labelled_disk.specs.declared.layout.Layout.{Layout}
use Rattle.labelled_disk.specs.Label.{leader_page}
use Rattle.frame_pool.specs.declared.home.Home.{Home}
use Rattle.file_map.specs.FileMap.{Triples}
use Rattle.swapper_kernel.specs.declared.manager.Manager.TheVariants.{FileMap}
use Rattle.swapper_kernel.specs.Goes.{Makes, Pages}
use Rattle.swapper_kernel.specs.GoesLaws.{goes_wider}
use Rattle.swapper_kernel.specs.Differs.{Differs}
use Rattle.swapper_kernel.specs.DiffersLaws.{differs_wider}
use Rattle.swapper_kernel.specs.Homes.{IsLayout, home_at}
use Rattle.filer_kernel.specs.Causes.{MapEvidence}
use Rattle.filer_kernel.specs.Tables.{in_tables}
use Rattle.file_manager.specs.Finding.{IsNoLeader}
use Rattle.file_manager.specs.LaterLaws.{shows_later}
use Rattle.file_manager.specs.ShownLaws.{run_home_named, in_form}
use Rattle.file_manager.specs.Reasons.{InitialState, IsAtHome, HasReason, ShowsReason}
use Rattle.fault_core.specs.Reach.{Reaches, ReachHalts, TouchHalts}
use Rattle.fault_core.specs.Touch.{on_data}
use Rattle.filer_kernel.specs.View.{View, kept_by}
use Rattle.running_words.specs.Moving.{any_page, Moves, ViewKeepsTo}
use Rattle.running_words.specs.MovingLaws.{moves_of_reaches, keeps_moved, moved_before, reach_shows, touch_shows}
use Rattle.space_tables.specs.Form.{first_in_slot, Breaks, BreaksAt, BreaksFor, BreaksHierarchy, BreaksSlot, MakesTooMany}
use Rattle.table_calls.specs.Answers.{TablesBreak}
use Rattle.space_calls.specs.Halts.{After, MakeSpaceHalts, RemoveSpaceHalts, PlaceHalts, ChangeHalts, SlotHalts, PathHalts, TakeWindowHalts, BreaksSight, SightHalts, LookHalts, NamedHalts, OnFileHalts, OnNamedHalts, MapFileHalts, WritableHalts, ShownHalts, ProtectHalts}
use Rattle.space_calls.specs.Ranges.{BreaksWindow}
use Rattle.space_calls.specs.Unmapping.{Reshapes}

-- a halt of a call has its reason already before the call, where what is seen keeps to the initial state
abbrev pub HasReasonBefore : (View → View → Halt → Type 0) → Type 0
HasReasonBefore P = (o : InitialState) (v w : View) (named : Triples) → IsLayout v.layout → ViewKeepsTo o v named → (halt : Halt) → P v w halt → ShowsReason o v.layout v.disk halt

-- after the call, which wrote no label, it has one
abbrev pub HasReasonAfter : (View → View → Halt → Type 0) → Type 1
HasReasonAfter P = (o : InitialState) (v w : View) (named : Triples) (pages : Pages) → IsLayout v.layout → ViewKeepsTo o v named → Makes pages [] v.disk v.slots w.disk w.slots
    → (halt : Halt) → P v w halt → ShowsReason o v.layout w.disk halt

-- ---- Calls in a row.

-- pages of the space tables are found, brought in and changed
pub moves_of_reshapes : (v w : View) → Reshapes v w → Moves v w
moves_of_reshapes v w h = record {
  goes = goes_wider (Differs (in_tables v.layout)) (Differs (on_data v.layout)) any_page
      (λ m n d. differs_wider (in_tables v.layout) (on_data v.layout) m n (λ k s here fails. grind (arith, nat_tests, fails)) d) (λ id page own. tt) h.goes;
  brings = h.brings;
  layout = h.layout;
  given = h.given;
  runs_are = h.runs_are;
}

-- what has a reason before a call has it after it
pub after_it : (P : View → View → Halt → Type 0) → HasReasonBefore P → HasReasonAfter P
after_it P reasons o v w named pages is keeps makes halt halts = shows_later o makes keeps.0.since v.layout halt (reasons o v w named is keeps halt halts)

-- a call went before that wrote no label
moved_shows : (leaves : View → View → Type 0) (P : View → View → Halt → Type 0) (o : InitialState) (v w : View) (named : Triples) → IsLayout v.layout → ViewKeepsTo o v named
    → ((u : View) → leaves v u → Moves v u) → (halt : Halt) → ((u : View) → leaves v u → ViewKeepsTo o u named → P u w halt → ShowsReason o v.layout u.disk halt)
    → After leaves P v w halt → ShowsReason o v.layout v.disk halt
moved_shows leaves P o v w named is keeps moves halt reasons (u, left, halts) =
    let moved = moves u left in
    moved_before o v u named keeps moved halt (reasons u left (keeps_moved o v u named is keeps moved) halts)

pub moved_reasons : (leaves : View → View → Type 0) (P : View → View → Halt → Type 0) (o : InitialState) (v w : View) (named : Triples) {pages : Pages} → IsLayout v.layout → ViewKeepsTo o v named
    → Makes pages [] v.disk v.slots w.disk w.slots → ((u : View) → leaves v u → Moves v u) → (halt : Halt) → ((u : View) → leaves v u → ViewKeepsTo o u named → P u w halt → ShowsReason o v.layout u.disk halt)
    → After leaves P v w halt → ShowsReason o v.layout w.disk halt
moved_reasons leaves P o v w named is keeps makes moves halt reasons halts = shows_later o makes keeps.0.since v.layout halt (moved_shows leaves P o v w named is keeps moves halt reasons halts)

-- pages were found before
pub after_reasons : (P : View → View → Halt → Type 0) (o : InitialState) (v w : View) (named : Triples) {pages : Pages} → IsLayout v.layout → ViewKeepsTo o v named
    → Makes pages [] v.disk v.slots w.disk w.slots → (halt : Halt) → ((u : View) → Reaches v u → ViewKeepsTo o u named → P u w halt → ShowsReason o v.layout u.disk halt)
    → After Reaches P v w halt → ShowsReason o v.layout w.disk halt
after_reasons P o v w named is keeps makes halt reasons halts = moved_reasons Reaches P o v w named is keeps makes (λ u h. moves_of_reaches v u h) halt reasons halts

-- so it is where what stops the second call has its reason before that one
pub after_before : (leaves : View → View → Type 0) (P : View → View → Halt → Type 0) → ((v u : View) → leaves v u → Moves v u) → HasReasonBefore P → HasReasonBefore (After leaves P)
after_before leaves P moves reasons o v w named is keeps halt halts =
    moved_shows leaves P o v w named is keeps (moves v) halt (λ u left kept stops. let same = (moves v u left).layout in
    subst (λ (l : Layout). ShowsReason o l u.disk halt) same (reasons o u w named (subst IsLayout (sym same) is) kept halt stops)) halts

-- one of two
pub either_before : (P Q : View → View → Halt → Type 0) → HasReasonBefore P → HasReasonBefore Q → HasReasonBefore (λ v w e. P v w e ⊎ Q v w e)
either_before P Q first next o v w named is keeps halt (inl stops) = first o v w named is keeps halt stops
either_before P Q first next o v w named is keeps halt (inr stops) = next o v w named is keeps halt stops

-- pages were found before the second
then_before : (P : View → View → Halt → Type 0) → HasReasonBefore P → HasReasonBefore (After Reaches P)
then_before P reasons = after_before Reaches P moves_of_reaches reasons

-- ---- What has its reason before.

pub reach_before : (breaks : View → ℕ → Type 0) → HasReasonBefore (λ v w e. ReachHalts (breaks v) v w e)
reach_before breaks o v w named is keeps halt halts = reach_shows o v w named (breaks v) is keeps halt halts

-- where pages of clients' files are looked for as well
pub touch_before : (breaks : View → ℕ → Type 0) → HasReasonBefore (λ v w e. TouchHalts (breaks v) v w e)
touch_before breaks o v w named is keeps halt halts = touch_shows o v w named (breaks v) is keeps halt halts

module _ (o : InitialState) (v : View) (named : Triples) (is : IsLayout v.layout) (keeps : ViewKeepsTo o v named) (id : ℕ) where
  searched : (e : Evidence) → MapEvidence v.layout v.disk v.slots e → HasReason o v.layout v.disk e
  searched (Mismatch sector wanted found) cause = elim cause.reason [
    | inl held ↦ elim (keeps.0.frames (home_at sector wanted) held) [ inl own ↦ inl own | inr at ↦ inr (inl at) ]
    | inr own ↦ inl (FileMap, own)
  ]
  searched (Malformed structure page) cause = absurd (in_form is keeps.0.size keeps.0.stands keeps.0.map page cause.1)
  searched (Missing missing page) cause = absurd cause

  no_leader : (e : Evidence) → IsNoLeader v.layout (kept_by v) id v.disk v.slots e → HasReason o v.layout v.disk e
  no_leader (Mismatch sector wanted found) cause =
      let home : Home = home_at cause.sector (record { id = id; page = leader_page }) in
      let at : IsAtHome o v.disk home = keeps.0.homes home (run_home_named is keeps.0.size keeps.0.stands keeps.0.map (kept_by v) keeps.0.kept home cause.by_run) in
      inr (inl (subst (λ (h : Home). IsAtHome o v.disk h) (λ i. home_at (sym cause.other.0 i) (sym cause.other.1 i)) at))
  no_leader (Malformed structure page) cause = absurd cause.other
  no_leader (Missing missing page) cause = absurd cause.other

pub look_before : (id : ℕ) → HasReasonBefore (LookHalts id)
look_before id o v w named is keeps Disk halts = tt
look_before id o v w named is keeps (Damaged evidence) (inl map) = searched o v named is keeps id evidence map
look_before id o v w named is keeps (Damaged evidence) (inr none) = no_leader o v named is keeps id evidence none

sight_before : (count : ℕ) → HasReasonBefore (SightHalts count)
sight_before count = reach_before (λ v. BreaksSight v count)

slot_before : (space : ℕ) → HasReasonBefore (SlotHalts space)
slot_before space = reach_before (λ v. TablesBreak v (λ b page. BreaksSlot b page space))

change_before : (count : ℕ) → HasReasonBefore (ChangeHalts count)
change_before count = reach_before (λ v. TablesBreak v (Breaks count))

take_before : (space count : ℕ) → HasReasonBefore (TakeWindowHalts space count)
take_before space count = reach_before (λ v. BreaksWindow v count space)

pub named_before : (id count : ℕ) → HasReasonBefore (NamedHalts id count)
named_before id count = either_before (SightHalts count) (After Reaches (LookHalts id)) (sight_before count) (then_before (LookHalts id) (look_before id))

pub on_file_before : (id : ℕ) (P : View → View → Halt → Type 0) → HasReasonBefore P → HasReasonBefore (OnFileHalts id P)
on_file_before id P reasons = either_before (LookHalts id) (After Reaches P) (look_before id) (then_before P reasons)

pub on_named_before : (id count : ℕ) (P : View → View → Halt → Type 0) → HasReasonBefore P → HasReasonBefore (OnNamedHalts id count P)
on_named_before id count P reasons = either_before (SightHalts count) (After Reaches (OnFileHalts id P)) (sight_before count) (then_before (OnFileHalts id P) (on_file_before id P reasons))

pub map_file_before : (space id count : ℕ) → HasReasonBefore (MapFileHalts space id count)
map_file_before space id count =
    either_before (SlotHalts space) (After Reaches (OnNamedHalts id count (ChangeHalts count))) (slot_before space)
    (then_before (OnNamedHalts id count (ChangeHalts count)) (on_named_before id count (ChangeHalts count) (change_before count)))

pub writable_before : (id count : ℕ) → HasReasonBefore (WritableHalts id count)
writable_before id count = on_file_before id (ChangeHalts count) (change_before count)

pub shown_before : (space count : ℕ) → HasReasonBefore (ShownHalts space count)
shown_before space count o v w named is keeps halt (shown, says, halts) = then_before (WritableHalts shown.id count) (writable_before shown.id count) o v w named is keeps halt halts

pub protect_before : (space : ℕ) (writable : Bool) (count : ℕ) → HasReasonBefore (ProtectHalts space writable count)
protect_before space true count = either_before (SlotHalts space) (ShownHalts space count) (slot_before space) (shown_before space count)
protect_before space false count = take_before space count

-- ---- Each of them after it.

pub touch_reasons : (breaks : View → ℕ → Type 0) → HasReasonAfter (λ v w e. TouchHalts (breaks v) v w e)
touch_reasons breaks = after_it (λ v w e. TouchHalts (breaks v) v w e) (touch_before breaks)

pub make_space_reasons : (parent pages : ℕ) (first : Option ℕ) (count : ℕ) → HasReasonAfter (MakeSpaceHalts parent pages first count)
make_space_reasons parent pages first count =
    after_it (MakeSpaceHalts parent pages first count) (reach_before (λ v. TablesBreak v (λ b page. BreaksHierarchy b page ⊎ (BreaksAt first count b page ⊎ MakesTooMany count b parent pages first page))))

pub remove_space_reasons : (space count : ℕ) → HasReasonAfter (RemoveSpaceHalts space count)
remove_space_reasons space count = after_it (RemoveSpaceHalts space count) (reach_before (λ v. TablesBreak v (λ b page. BreaksFor (first_in_slot b space) count b page)))

pub place_reasons : (page count : ℕ) → HasReasonAfter (PlaceHalts page count)
place_reasons page count = after_it (PlaceHalts page count) (reach_before (λ v. TablesBreak v (λ b broken. BreaksFor page count b broken)))

pub change_reasons : (count : ℕ) → HasReasonAfter (ChangeHalts count)
change_reasons count = after_it (ChangeHalts count) (change_before count)

pub slot_reasons : (space : ℕ) → HasReasonAfter (SlotHalts space)
slot_reasons space = after_it (SlotHalts space) (slot_before space)

pub path_reasons : HasReasonAfter PathHalts
path_reasons = after_it PathHalts (reach_before (λ v. TablesBreak v BreaksHierarchy))

pub take_window_reasons : (space count : ℕ) → HasReasonAfter (TakeWindowHalts space count)
take_window_reasons space count = after_it (TakeWindowHalts space count) (take_before space count)

pub sight_reasons : (count : ℕ) → HasReasonAfter (SightHalts count)
sight_reasons count = after_it (SightHalts count) (sight_before count)

pub look_reasons : (id : ℕ) → HasReasonAfter (LookHalts id)
look_reasons id = after_it (LookHalts id) (look_before id)

pub named_reasons : (id count : ℕ) → HasReasonAfter (NamedHalts id count)
named_reasons id count = after_it (NamedHalts id count) (named_before id count)

pub on_file_reasons : (id : ℕ) (P : View → View → Halt → Type 0) → HasReasonBefore P → HasReasonAfter (OnFileHalts id P)
on_file_reasons id P reasons = after_it (OnFileHalts id P) (on_file_before id P reasons)

pub on_named_reasons : (id count : ℕ) (P : View → View → Halt → Type 0) → HasReasonBefore P → HasReasonAfter (OnNamedHalts id count P)
on_named_reasons id count P reasons = after_it (OnNamedHalts id count P) (on_named_before id count P reasons)

pub map_file_reasons : (space id count : ℕ) → HasReasonAfter (MapFileHalts space id count)
map_file_reasons space id count = after_it (MapFileHalts space id count) (map_file_before space id count)

pub writable_reasons : (id count : ℕ) → HasReasonAfter (WritableHalts id count)
writable_reasons id count = after_it (WritableHalts id count) (writable_before id count)

pub shown_reasons : (space count : ℕ) → HasReasonAfter (ShownHalts space count)
shown_reasons space count = after_it (ShownHalts space count) (shown_before space count)

pub protect_reasons : (space : ℕ) (writable : Bool) (count : ℕ) → HasReasonAfter (ProtectHalts space writable count)
protect_reasons space writable count = after_it (ProtectHalts space writable count) (protect_before space writable count)
