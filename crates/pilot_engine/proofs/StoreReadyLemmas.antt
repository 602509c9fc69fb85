-- Stores in a row to pages that are at hand, said of the machine that a session stands for.
use Rattle.std.proofs.Common.{◌≡◌, ◌∙◌, ℕ, zero, suc, ◌+◌, ◌≤◌, List, [], ◌∷◌, ◌++◌, length, refl, sym, ap, subst}
use Rattle.std.specs.Prelude.{take}
use Rattle.std.specs.List.{AllByRecursion, concat}
use Rattle.labelled_disk.specs.declared.layout.Layout.{Layout}
use Rattle.labelled_disk.specs.Sectors.{Sector}
use Rattle.labelled_disk.specs.State.{DiskState}
use Rattle.flat_machine.specs.declared.call.Call.TheVariants as call
use Rattle.flat_machine.specs.Bytes.{AreBytes}
use Rattle.flat_machine.specs.Machine.{Machine}
use Rattle.flat_machine.specs.Next.{next}
use Rattle.swap_units.specs.declared.interval.Interval.{Interval}
use Rattle.swapper_kernel.specs.Homes.{IsLayout}
use Rattle.session_words.specs.StandsFor.{RevealsSettled}
use Rattle.file_manager.specs.declared.volume.Volume.{Volume}
use Rattle.fault_core.specs.ReferenceLaws.{word_of}
use Rattle.fault_core.specs.Ready.{IsChanged}
use Rattle.fault_core.specs.StoreReady.{AreChanged}
use Rattle.filer_kernel.specs.View.{View}
use Rattle.fault_core.proofs.AllowedLemmas.{stores_tested}
use Rattle.fault_core.proofs.ReachLemmas.{reaches_itself}
use Rattle.fault_core.proofs.ReadyLemmas.{changed_goes, changed_known, hand_granted}
use Rattle.fault_core.proofs.ShowLemmas.{own_came}
use Rattle.running_words.specs.Running.{IsRunning}
use Rattle.running_words.specs.RunningLaws.{IsWhole}
use Rattle.running_words.specs.Session.{AreInForm}
use Rattle.running_words.specs.Stages.{stage}
use Rattle.running_words.proofs.RunningLemmas.{running_laws}
use Rattle.space_calls.proofs.CameLemmas.{knows}
use Rattle.space_calls.proofs.MovedLemmas.{store_runs}
use Rattle.space_calls.proofs.RunLemmas.{reached_makes}
use Rattle.pilot_engine.specs.Closing.{Throughout}
use Rattle.pilot_engine.specs.StoreReady.{Lead}

-- ---- Bytes.

bytes_first : (xs ys : List ℕ) → AreBytes (xs ++ ys) → AreBytes xs
bytes_first [] ys typed = tt
bytes_first (x ∷ xs) ys typed = (typed.0, bytes_first xs ys typed.1)

bytes_rest : (xs ys : List ℕ) → AreBytes (xs ++ ys) → AreBytes ys
bytes_rest [] ys typed = typed
bytes_rest (x ∷ xs) ys typed = bytes_rest xs ys typed.1

pub bytes_take : (n : ℕ) (xs : List ℕ) → AreBytes xs → AreBytes (take n xs)
bytes_take zero [] typed = tt
bytes_take zero (x ∷ xs) typed = tt
bytes_take (suc n) [] typed = tt
bytes_take (suc n) (x ∷ xs) typed = (typed.0, bytes_take n xs typed.1)

-- ---- Machines.

-- each is of some bytes
pub row_some : (kept : List Interval) (pieces : List (List ℕ)) (address : ℕ) (v w : View) → AreChanged kept address pieces v w → AllByRecursion (λ piece. 1 ≤ length piece) pieces
row_some kept [] address v w row = tt
row_some kept (p ∷ ps) address v w row = (row.1, row_some kept ps (address + length p) row.0 w row.3)

whole_then : {kept : List Interval} {address : ℕ} {bytes : List ℕ} {v w : View} → IsChanged kept address bytes v w → IsWhole v → IsWhole w
whole_then did whole = record {
  layout = subst (λ (l : Layout). IsLayout l) (sym did.touches.layout) whole.layout;
  size = ap (λ (d : DiskState). d.sectors) did.disk ∙ whole.size ∙ ap (λ (l : Layout). l.sectors) (sym did.touches.layout);
}

-- they lead to a machine, for which the session stands
pub row_runs : (kept : List Interval) (count : ℕ) (volume : Volume) (pieces : List (List ℕ)) (address : ℕ) (v w : View) (m : Machine) → IsWhole v → IsRunning v kept count volume m → AreBytes (concat pieces)
    → AreChanged kept address pieces v w → (n : Machine) × Lead m address pieces n × IsRunning w kept count volume n
row_runs kept count volume [] address v w m whole r typed row = (m, refl, subst (λ (x : View). IsRunning x kept count volume m) (sym row) r)
row_runs kept count volume (p ∷ ps) address v w m whole r typed row =
    let did = row.2 in
    let revealed = knows running_laws whole r in
    let granted = hand_granted did.hand row.1 revealed in
    let runs : IsRunning row.0 kept count volume (next m (call.Store address p)) =
    store_runs running_laws whole r refl did.touches.layout address p (bytes_first p (concat ps) typed) granted (changed_goes did row.1 revealed)
    (own_came m.spaces v.slots row.0.slots did.came) (λ y is. changed_known did revealed y is) in
    let more = row_runs kept count volume ps (address + length p) row.0 w (next m (call.Store address p)) (whole_then did whole) runs (bytes_rest p (concat ps) typed) row.3 in
    (more.0, (stores_tested m address p ∙ ap word_of (sym granted), more.1), more.2)

-- the disk is as it was: it has the settled files of the machine
pub settled_still : {v : View} {kept : List Interval} {count : ℕ} {volume : Volume} {m : Machine} → IsRunning v kept count volume m → AreInForm v.disk → (d : DiskState) → d ≡ v.disk
    → Throughout (λ s. RevealsSettled s m) v.disk d
settled_still {v} {kept} {count} {volume} {m} r form d is =
    let passes = running_laws.quiet call.Volume v v kept count volume m form r (reached_makes (reaches_itself v)) in
    subst (λ (x : DiskState). Throughout (λ s. RevealsSettled s m) v.disk x) (sym is) (record {
      writes = passes.writes;
      appended = passes.appended;
      each = λ s k revealed. still _ (passes.steps k) (passes.reveals s k revealed);
    })
  where
    still : (s : List Sector) (k : ℕ) → RevealsSettled s (stage m call.Volume k) → RevealsSettled s m
    still s zero settled = settled
    still s (suc k) settled = settled
