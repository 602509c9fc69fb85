-- What a call leaves of the initial state, and why it stops, where other calls are made in it.
use Rattle.std.proofs.Common.{◌≡◌, ℕ, ◌≤◌, [], Result, Ok, Err, sym, subst, arith}
use Rattle.std.specs.Prelude.{IfErr, OnOk}
use Rattle.labelled_disk.specs.declared.evidence.Halt.{Halt}
use Rattle.labelled_disk.specs.declared.evidence.Halt.TheVariants as halt
use Rattle.labelled_disk.specs.declared.layout.Layout.{Layout}
use Rattle.labelled_disk.specs.State.{DiskState}
use Rattle.file_map.specs.FileMap.{Triples}
use Rattle.swapper_kernel.specs.Goes.{Makes, Pages}
use Rattle.swapper_kernel.specs.Homes.{IsLayout}
use Rattle.volume_root.specs.declared.root.Root.{Root}
use Rattle.file_manager.specs.Creating.{next_id}
use Rattle.file_manager.specs.Reasons.{IsNotOlder, InitialState, ShowsReason, giving}
use Rattle.file_manager.specs.RetoldLaws.{giving_more, giving_shows}
use Rattle.fault_core.specs.Reach.{Reaches, ReachHalts, TouchHalts}
use Rattle.filer_kernel.specs.View.{View}
use Rattle.running_words.specs.Moving.{Moves, ViewKeepsTo}
use Rattle.running_words.specs.MovingLaws.{moves_of_reaches, keeps_moved}
use Rattle.space_calls.specs.ReasonLaws.{HasReasonAfter, after_it, moves_of_reshapes, reach_before, touch_before}
use Rattle.space_calls.specs.Unmapping.{Reshapes}

-- what is seen keeps to the initial state, whatever the file map names
abbrev pub ViewKeepsOn : InitialState → View → Type 0
ViewKeepsOn o v = (named : Triples) × ViewKeepsTo o v named

-- it does so after a call that writes no label
pub moved_on : (o : InitialState) (v w : View) → IsLayout v.layout → Moves v w → ViewKeepsOn o v → ViewKeepsOn o w
moved_on o v w is moves k = (k.0, keeps_moved o v w k.0 is k.1 moves)

-- and after pages were found
pub reached_on : (o : InitialState) (v w : View) → IsLayout v.layout → Reaches v w → ViewKeepsOn o v → ViewKeepsOn o w
reached_on o v w is reaches k = moved_on o v w is (moves_of_reaches v w reaches) k

-- and after pages of the space tables changed
pub reshaped_on : (o : InitialState) (v w : View) → IsLayout v.layout → Reshapes v w → ViewKeepsOn o v → ViewKeepsOn o w
reshaped_on o v w is reshapes k = moved_on o v w is (moves_of_reshapes v w reshapes) k

-- why a call stopped shows its reason
pub shows_after : (P : View → View → Halt → Type 0) → HasReasonAfter P → (o : InitialState) (v w : View) {pages : Pages} → IsLayout v.layout → Makes pages [] v.disk v.slots w.disk w.slots → ViewKeepsOn o v
    → (e : Halt) → P v w e → ShowsReason o v.layout w.disk e
shows_after P reasons o v w {pages = pages} is makes k e halts = reasons o v w k.0 pages is k.1 makes e halts

-- ---- The last call, which writes no label.

-- what is seen keeps to the initial state where it went well
pub moving_keeps : {X : Type 0} (v w : View) (r : Result X Halt) → IsLayout v.layout → Moves v w → (o : InitialState) → ViewKeepsOn o v → OnOk r (ViewKeepsOn o w)
moving_keeps v w (Ok x) is moves o k = moved_on o v w is moves k
moving_keeps v w (Err e) is moves o k = tt

-- where it stopped, its evidence has a reason
pub moving_reasons : {X : Type 0} (P : View → View → Halt → Type 0) → HasReasonAfter P → (v w : View) (r : Result X Halt) → IsLayout v.layout → Moves v w → IfErr r (P v w) → (o : InitialState) → ViewKeepsOn o v → IfErr r (ShowsReason o v.layout w.disk)
moving_reasons P reasons v w (Ok x) is moves halts o k = tt
moving_reasons P reasons v w (Err e) is moves halts o k = shows_after P reasons o v w is moves.goes.makes k e halts

-- so it is where pages of the space tables broke their form
pub reaching_reasons : {X : Type 0} (breaks : View → ℕ → Type 0) (v w : View) (r : Result X Halt) → IsLayout v.layout → Moves v w → IfErr r (ReachHalts (breaks v) v w) → (o : InitialState) → ViewKeepsOn o v → IfErr r (ShowsReason o v.layout w.disk)
reaching_reasons breaks v w r is moves halts = moving_reasons (λ v w e. ReachHalts (breaks v) v w e) (after_it (λ v w e. ReachHalts (breaks v) v w e) (reach_before breaks)) v w r is moves halts

-- or the pages of clients that it looked for were not there
pub touching_reasons : {X : Type 0} (breaks : View → ℕ → Type 0) (v w : View) (r : Result X Halt) → IsLayout v.layout → Moves v w → IfErr r (TouchHalts (breaks v) v w) → (o : InitialState) → ViewKeepsOn o v → IfErr r (ShowsReason o v.layout w.disk)
touching_reasons breaks v w r is moves halts = moving_reasons (λ v w e. TouchHalts (breaks v) v w e) (after_it (λ v w e. TouchHalts (breaks v) v w e) (touch_before breaks)) v w r is moves halts

-- ---- After an earlier call.

-- a reason is one with the layout of the state before
pub shows_since : (o : InitialState) (disk : DiskState) (e : Halt) {before layout : Layout} → layout ≡ before → ShowsReason o layout disk e → ShowsReason o before disk e
shows_since o disk e same shows = subst (λ (l : Layout). ShowsReason o l disk e) same shows

-- so it is where a call stopped
pub reasons_since : {X : Type 0} (r : Result X Halt) (o : InitialState) (disk : DiskState) {before layout : Layout} → layout ≡ before → IfErr r (ShowsReason o layout disk) → IfErr r (ShowsReason o before disk)
reasons_since r o disk same shows = subst (λ (l : Layout). IfErr r (ShowsReason o l disk)) same shows

-- a fault of the disk needs none
pub fault_shows : (o : InitialState) (layout : Layout) (disk : DiskState) (e : Halt) → e ≡ halt.Disk → ShowsReason o layout disk e
fault_shows o layout disk e is = subst (λ (x : Halt). ShowsReason o layout disk x) (sym is) tt

-- ---- Identifiers that are given out.

-- what is seen keeps to the initial state where none is given out from a later one on
pub given_on : (o : InitialState) (v : View) (next : ℕ) → o.next ≤ next → ViewKeepsOn o v → ViewKeepsOn (giving o next) v
given_on o v next more k = (k.0, (giving_more next more k.1.0, k.1.1))

-- so it does after the last call, which gave none out
pub not_older_on : {X : Type 0} (r : Result X Halt) (o : InitialState) (w : View) (old new : Root) → IsNotOlder o old → next_id old ≤ next_id new → OnOk r (ViewKeepsOn o w) → OnOk r (ViewKeepsOn (giving o (next_id new)) w)
not_older_on (Ok x) o w old new up monotone k = let from = up.next in given_on o w (next_id new) (omega (arith, from, monotone)) k
not_older_on (Err e) o w old new up monotone k = tt

-- one on spaces, which leaves the root
pub moving_ahead : {X : Type 0} (v w : View) (r : Result X Halt) → IsLayout v.layout → Moves v w → (o : InitialState) (root : Root) → ViewKeepsOn o v → IsNotOlder o root → OnOk r (ViewKeepsOn (giving o (next_id root)) w)
moving_ahead v w r is moves o root k up = not_older_on r o w root root up (omega arith) (moving_keeps v w r is moves o k)

-- a reason in that initial state is one in this
pub given_reasons : {X : Type 0} (r : Result X Halt) (o : InitialState) (next : ℕ) (layout : Layout) (disk : DiskState) → IfErr r (ShowsReason (giving o next) layout disk) → IfErr r (ShowsReason o layout disk)
given_reasons (Ok x) o next layout disk shows = tt
given_reasons (Err e) o next layout disk shows = giving_shows o next layout disk e shows
