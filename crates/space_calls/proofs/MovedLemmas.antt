-- Steps of a call that change cells, or what is unforced: the core stands for the machine after it.
use Rattle.std.proofs.Common.{◌≡◌, ℕ, ◌+◌, true, List, [], length, Some, None, sym, subst}
use Rattle.labelled_disk.specs.Sectors.{Sector}
use Rattle.flat_machine.specs.declared.call.Call.TheVariants as call
use Rattle.flat_machine.specs.declared.space.Space.{Space}
use Rattle.flat_machine.specs.Form.{IsTyped}
use Rattle.flat_machine.specs.Machine.{Machine}
use Rattle.flat_machine.specs.Next.{next}
use Rattle.flat_machine.specs.Refusal.{refusal}
use Rattle.flat_machine.specs.Space.{space_at}
use Rattle.swap_units.specs.declared.interval.Interval.{Interval}
use Rattle.projection_laws.specs.Spaces.{AreSpaces}
use Rattle.swapper_kernel.specs.Goes.{Goes}
use Rattle.swapper_kernel.specs.Stands.{Stands}
use Rattle.session_words.specs.CellLaws.{IsTouchedOrOwn, Kills}
use Rattle.session_words.specs.FrameLaws.{BringsKnown}
use Rattle.session_words.specs.StandsFor.{StandsFor}
use Rattle.session_words.specs.Volume.{volume_page}
use Rattle.session_words.proofs.CallLemmas.{force_stands}
use Rattle.session_words.proofs.CellLemmas.{kill_stands}
use Rattle.file_manager.specs.declared.volume.Volume.{Volume}
use Rattle.fault_core.specs.declared.reference.Access.TheVariants.{Done}
use Rattle.fault_core.specs.Access.{access_of}
use Rattle.fault_core.specs.Moves.{StoresAs}
use Rattle.fault_core.specs.Range.{AreClean}
use Rattle.fault_core.specs.Reach.{BringsOwn}
use Rattle.fault_core.specs.Revealed.{Revealed}
use Rattle.filer_kernel.specs.View.{View}
use Rattle.fault_core.proofs.AnswerLemmas.{stores_lead}
use Rattle.fault_core.proofs.ForcedLemmas.{forced_ranges}
use Rattle.fault_core.proofs.ReachLemmas.{reaches_searches, same_memory}
use Rattle.fault_core.proofs.ShowLemmas.{own_came}
use Rattle.running_words.specs.Running.{IsRunning, exactly}
use Rattle.running_words.specs.RunningLaws.{IsWhole, RunningLaws}
use Rattle.space_calls.proofs.CameLemmas.{Came, knows}
use Rattle.space_calls.proofs.SameBooks.{KeepsBooks, force_keeps, kill_keeps, store_keeps}

module _ (laws : RunningLaws) {v w : View} {kept later : List Interval} {count now : ℕ} (whole : IsWhole v) {volume : Volume} {m : Machine} (r : IsRunning v kept count volume m) (same : now ≡ count) (layout : w.layout ≡ v.layout) where
  moved_to : (n : Machine) → KeepsBooks m n → StandsFor (exactly r.pages m.spaces) w.disk w.slots n → ((x : List Sector) → Stands w.disk w.slots x → Revealed w later now x r.session.stands.is.named m.spaces) → IsRunning w later now volume n
  moved_to n keeps stands known =
      subst (λ (c : ℕ). IsRunning w later c volume n) (sym same)
      (laws.moved v w kept later count volume m n whole r keeps.spaces keeps.serial keeps.counter keeps.room stands
      (λ x is. subst (λ (c : ℕ). Revealed w later c x r.session.stands.is.named m.spaces) same (known x is)) layout)

  pub store_runs : (address : ℕ) (bytes : List ℕ) → IsTyped (call.Store address bytes) → Done ≡ access_of m.spaces true address (length bytes)
      → Goes (StoresAs Done m.spaces address bytes) (IsTouchedOrOwn m.spaces address (length bytes)) [] v.disk v.slots w.disk w.slots → BringsKnown m.spaces v.slots w.slots
      → ((x : List Sector) → Stands w.disk w.slots x → Revealed w later now x r.session.stands.is.named m.spaces) → IsRunning w later now volume (next m (call.Store address bytes))
  store_runs address bytes typed done goes came known =
      moved_to (next m (call.Store address bytes)) (store_keeps m address bytes)
      (stores_lead (exactly r.pages m.spaces) address bytes v.disk w.disk v.slots w.slots m typed done goes came r.session.stands) known

  pub kill_runs : (space : ℕ) (s : Space) → refusal m (call.Kill space) ≡ None → space_at m.spaces space ≡ Some s → Goes (Kills m.spaces s) volume_page [] v.disk v.slots w.disk w.slots → BringsOwn v.slots w.slots
      → ((x : List Sector) → Stands w.disk w.slots x → Revealed w later now x r.session.stands.is.named m.spaces) → IsRunning w later now volume (next m (call.Kill space))
  kill_runs space s free there goes came known =
      moved_to (next m (call.Kill space)) (kill_keeps m space)
      (kill_stands (exactly r.pages m.spaces) space s v.disk w.disk v.slots w.slots m free there goes (own_came m.spaces v.slots w.slots came) r.session.stands) known

module _ (laws : RunningLaws) {v w : View} {kept later : List Interval} {count now : ℕ} (whole : IsWhole v) {volume : Volume} {m : Machine} (r : IsRunning v kept count volume m) (came : Came v w kept later count now) where
  pub flush_runs : (space : ℕ) (s : Space) → refusal m (call.ForceOut space) ≡ None → space_at m.spaces space ≡ Some s → AreClean m.spaces w.slots s.first (s.first + s.pages)
      → IsRunning w later now volume (next m (call.ForceOut space))
  flush_runs space s free there rest =
      let x = r.session.stands.memory in
      let named = r.session.stands.is.named in
      let revealed = knows laws whole r in
      let after = came.known x named m.spaces revealed in
      let are : AreSpaces m.spaces = subst AreSpaces revealed.tables.spaces revealed.tables.right.spaces in
      moved_to laws whole r came.same_count came.reaches.layout (next m (call.ForceOut space)) (force_keeps m space)
      (force_stands (exactly r.pages m.spaces) space s v.disk w.disk v.slots w.slots m free there (reaches_searches v w x named revealed.bytes whole.layout came.reaches revealed.known)
      (forced_ranges m.spaces s w.slots are rest) (came.brings x named m.spaces revealed) r.session.stands)
      (λ y is. subst (λ (z : List Sector). Revealed w later now z named m.spaces) (same_memory w.disk w.slots x y after.known.stands is) after)

-- the range that the tables gave is that of the space
pub range_is : (P : ℕ → ℕ → Type 0) (s : Space) (run : ℕ × ℕ) → run ≡ (s.first, s.pages) → P run.0 (run.0 + run.1) → P s.first (s.first + s.pages)
range_is P s run is rest = subst (λ (q : ℕ × ℕ). P q.0 (q.0 + q.1)) is rest
