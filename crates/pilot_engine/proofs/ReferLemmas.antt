-- What the core says of a load or a store, said of the machine that a session stands for, and of what a halt means.
use Rattle.std.proofs.Common.{◌≡◌, ◌≢◌, ◌+◌, ◌<◌, ◌≤◌, ℕ, true, List, [], ◌∷◌, length, Result, Ok, Err, refl, subst}
use Rattle.std.specs.Prelude.{IfErr, IfOk, OnErr, OnOk, false}
use Rattle.labelled_disk.specs.Sectors.{Sector}
use Rattle.labelled_disk.specs.declared.evidence.Halt.{Halt}
use Rattle.file_map.specs.FileMap.{Triples}
use Rattle.swapper_kernel.specs.Goes.{Goes, Makes, Pages}
use Rattle.swapper_kernel.specs.Stands.{Stands}
use Rattle.filer_kernel.specs.Evidence.{ShowsEvidence}
use Rattle.filer_kernel.specs.EvidenceLaws.{Fits}
use Rattle.filer_kernel.specs.Fails.{Fails}
use Rattle.filer_kernel.specs.FailsLaws.{if_fails}
use Rattle.filer_kernel.proofs.Outcomes.{err_wider}
use Rattle.flat_machine.specs.declared.call.Call.TheVariants as call
use Rattle.flat_machine.specs.declared.call.Refusal.TheVariants as why
use Rattle.flat_machine.specs.declared.call.Reply.TheVariants as reply
use Rattle.flat_machine.specs.declared.space.Space.{Space}
use Rattle.flat_machine.specs.Allows.{Allows}
use Rattle.flat_machine.specs.Form.{IsTyped}
use Rattle.flat_machine.specs.Machine.{Machine}
use Rattle.flat_machine.specs.Next.{next}
use Rattle.swap_units.specs.declared.interval.Interval.{Interval}
use Rattle.session_words.specs.CellLaws.{IsTouchedOrOwn}
use Rattle.session_words.specs.FrameLaws.{BringsKnown}
use Rattle.file_manager.specs.declared.volume.Volume.{Volume}
use Rattle.fault_core.specs.declared.reference.Access.{Access}
use Rattle.fault_core.specs.declared.reference.Access.TheVariants.{Done, NoMap, ReadOnly}
use Rattle.fault_core.specs.Access.{access_of}
use Rattle.fault_core.specs.Moves.{Loads, StoresAs, StoresSome}
use Rattle.fault_core.specs.Reach.{Reaches, TouchHalts}
use Rattle.fault_core.specs.Ready.{AreLoaded}
use Rattle.fault_core.specs.ReferenceLaws.{reply_to}
use Rattle.fault_core.specs.Revealed.{Revealed}
use Rattle.filer_kernel.specs.View.{View}
use Rattle.fault_core.proofs.AnswerLemmas.{stores_answered}
use Rattle.fault_core.proofs.EvidenceLemmas.{touch_so}
use Rattle.running_words.specs.Running.{IsRunning, exactly}
use Rattle.running_words.specs.RunningLaws.{IsWhole}
use Rattle.running_words.specs.Session.{AreInForm}
use Rattle.running_words.specs.Stages.{Passes}
use Rattle.running_words.proofs.RunningLemmas.{running_laws}
use Rattle.pilot_engine.specs.Referring.{AreReplied}
use Rattle.space_calls.proofs.CameLemmas.{Came, knows, still_runs}
use Rattle.space_calls.proofs.LoadLemmas.{load_allowed, load_stays}
use Rattle.space_calls.proofs.MovedLemmas.{store_runs}
use Rattle.space_calls.proofs.StoreLemmas.{refused_came, stays_where, store_reveals, store_stays, store_word}

-- ---- Outcomes.

-- where both hold of what it came to, so does what follows from them
pub ok_of : {T E : Type 0} (r : Result T E) (P Q R : T → Type 0) → ((x : T) → P x → Q x → R x) → IfOk r P → IfOk r Q → IfOk r R
ok_of (Ok x) P Q R f p q = f x p q
ok_of (Err e) P Q R f p q = tt

-- what holds anyway holds of an Ok
pub ok_always : {T E : Type 0} (r : Result T E) (P : Type 0) → P → OnOk r P
ok_always (Ok x) P p = p
ok_always (Err e) P p = tt

-- ---- Halts.

-- how a call fails that writes no label, by its cause
pub fails_of : {X : Type 0} (r : Result X Halt) (breaks : ℕ → Type 0) (v w : View) {pages : Pages} → Fits v.layout v.disk v.slots → Makes pages [] v.disk v.slots w.disk w.slots
    → IfErr r (TouchHalts breaks v w) → IfErr r (Fails (TouchHalts breaks v w) v w)
fails_of {X = X} r breaks v w is_fit makes halts =
    if_fails (TouchHalts breaks v w) v w r halts (λ is. subst (λ (x : Result X Halt). IfErr x (TouchHalts breaks v w)) is halts)
    (err_wider r (TouchHalts breaks v w) (ShowsEvidence w.disk) (λ e one. touch_so breaks v w is_fit makes e one) halts)

-- ---- Machines.

module _ {v : View} {kept : List Interval} {count : ℕ} (whole : IsWhole v) {volume : Volume} {m : Machine} (r : IsRunning v kept count volume m) where
  -- the machine allows each byte of a page that was ready
  pub bytes_answered : (address n : ℕ) (bytes : List ℕ)
      → ((x : List Sector) (named : Triples) (ss : List Space) → Revealed v kept count x named ss → (k : ℕ) → k < n → Done ≡ access_of ss false (address + k) 1)
      → ((x : List Sector) (named : Triples) (ss : List Space) → Revealed v kept count x named ss → AreLoaded ss address n bytes x)
      → AreReplied m address n bytes
  bytes_answered address n bytes access loads k b below got =
      let x = r.session.stands.memory in
      let named = r.session.stands.is.named in
      let revealed = knows running_laws whole r in
      load_allowed (exactly r.pages m.spaces) x m (address + k) 1 (b ∷ []) Done r.session.stands.is refl (access x named m.spaces revealed k below) (λ done. loads x named m.spaces revealed k b below got)

module _ {v w : View} {kept later : List Interval} {count now : ℕ} (whole : IsWhole v) {volume : Volume} {m : Machine} (r : IsRunning v kept count volume m) where
  -- the machine allows what a load came to, and stays as it is
  pub load_answered : (address n : ℕ) (bytes : List ℕ) (result : Result Access Halt) → length bytes ≡ n → Came v w kept later count now
      → ((x : List Sector) (named : Triples) (ss : List Space) → Revealed v kept count x named ss → IfOk result (λ a. a ≡ access_of ss false address n))
      → ((x : List Sector) (named : Triples) (ss : List Space) → Revealed v kept count x named ss → IfOk result (λ a. a ≡ Done → Loads ss address bytes x))
      → IfOk result (λ a. Allows m (call.Load address n) (reply_to (reply.Bytes bytes) a) × IsRunning w later now volume (next m (call.Load address n)))
  load_answered address n bytes result long came access loads =
      let x = r.session.stands.memory in
      let named = r.session.stands.is.named in
      let revealed = knows running_laws whole r in
      let runs = subst (λ (k : Machine). IsRunning w later now volume k) (load_stays m address n) (still_runs running_laws whole r came) in
      ok_of result (λ a. a ≡ access_of m.spaces false address n) (λ a. a ≡ Done → Loads m.spaces address bytes x)
      (λ a. Allows m (call.Load address n) (reply_to (reply.Bytes bytes) a) × IsRunning w later now volume (next m (call.Load address n)))
      (λ a is loaded. (load_allowed (exactly r.pages m.spaces) x m address n bytes a r.session.stands.is long is loaded, runs))
      (access x named m.spaces revealed) (loads x named m.spaces revealed)

  -- the machine allows what a store came to, and goes on to its next
  pub store_answered : (address : ℕ) (bytes : List ℕ) (result : Result Access Halt) → IsTyped (call.Store address bytes) → now ≡ count → w.layout ≡ v.layout
      → ((x : List Sector) (named : Triples) (ss : List Space) → Revealed v kept count x named ss → IfOk result (λ a. a ≡ access_of ss true address (length bytes)))
      → ((x : List Sector) (named : Triples) (ss : List Space) → Revealed v kept count x named ss
      → IfOk result (λ a. Goes (StoresAs a ss address bytes) (IsTouchedOrOwn ss address (length bytes)) [] v.disk v.slots w.disk w.slots))
      → IfOk result (λ a. a ≢ Done → Reaches v w)
      → ((x : List Sector) (named : Triples) (ss : List Space) → Revealed v kept count x named ss → BringsKnown ss v.slots w.slots)
      → ((x n : List Sector) (named : Triples) (ss : List Space) → Revealed v kept count x named ss → Stands w.disk w.slots n → Revealed w later now n named ss)
      → IfOk result (λ a. Allows m (call.Store address bytes) (reply_to reply.Done a) × IsRunning w later now volume (next m (call.Store address bytes)))
  store_answered address bytes (Err e) typed same layout access stored reaches came known = tt
  store_answered address bytes (Ok a) typed same layout access stored reaches came known =
      let x = r.session.stands.memory in
      let named = r.session.stands.is.named in
      (stores_answered m address bytes a (access x named m.spaces (knows running_laws whole r)), by a access stored reaches)
    where
      by : (a : Access) → ((x : List Sector) (named : Triples) (ss : List Space) → Revealed v kept count x named ss → a ≡ access_of ss true address (length bytes))
          → ((x : List Sector) (named : Triples) (ss : List Space) → Revealed v kept count x named ss
          → Goes (StoresAs a ss address bytes) (IsTouchedOrOwn ss address (length bytes)) [] v.disk v.slots w.disk w.slots)
          → (a ≢ Done → Reaches v w) → IsRunning w later now volume (next m (call.Store address bytes))
      by Done access stored reaches =
          let x = r.session.stands.memory in
          let named = r.session.stands.is.named in
          let revealed = knows running_laws whole r in
          store_runs running_laws whole r same layout address bytes typed (access x named m.spaces revealed) (stored x named m.spaces revealed)
          (came x named m.spaces revealed) (λ y is. known x y named m.spaces revealed is)
      by (NoMap page) access stored reaches =
          store_stays running_laws whole r address bytes (why.NoMap page) (store_word running_laws whole r address bytes (NoMap page) (NoMap page) refl access)
          (refused_came (reaches (λ is. cc is)) came
          (λ x named ss revealed. stays_where v w (NoMap page) (NoMap page) ss address bytes x refl (λ none. none) revealed.known.stands (stored x named ss revealed)) known same)
      by (ReadOnly page) access stored reaches =
          store_stays running_laws whole r address bytes (why.ReadOnly page) (store_word running_laws whole r address bytes (ReadOnly page) (ReadOnly page) refl access)
          (refused_came (reaches (λ is. cc is)) came
          (λ x named ss revealed. stays_where v w (ReadOnly page) (ReadOnly page) ss address bytes x refl (λ none. none) revealed.known.stands (stored x named ss revealed)) known same)

module _ {v w : View} {kept : List Interval} {count : ℕ} (whole : IsWhole v) {volume : Volume} {m : Machine} (r : IsRunning v kept count volume m) where
  -- each crash state of a store's writes has the settled files of before or of after
  pub store_passed : AreInForm v.disk → (address : ℕ) (bytes : List ℕ) (result : Result Access Halt) → IsTyped (call.Store address bytes) → length bytes ≤ 512
      → ((x : List Sector) (named : Triples) (ss : List Space) → Revealed v kept count x named ss
      → IfOk result (λ a. Goes (StoresAs a ss address bytes) (IsTouchedOrOwn ss address (length bytes)) [] v.disk v.slots w.disk w.slots))
      → ((x : List Sector) (named : Triples) (ss : List Space) → Revealed v kept count x named ss
      → OnErr result (Goes (StoresSome ss address bytes) (IsTouchedOrOwn ss address (length bytes)) [] v.disk v.slots w.disk w.slots))
      → ((x : List Sector) (named : Triples) (ss : List Space) → Revealed v kept count x named ss → access_of ss true address (length bytes) ≢ Done → Reaches v w)
      → Passes m (call.Store address bytes) v.disk w.disk
  store_passed form address bytes result typed few stored halted tested =
      let x = r.session.stands.memory in
      let named = r.session.stands.is.named in
      let revealed = knows running_laws whole r in
      store_reveals running_laws whole r form w address bytes typed few (made result (stored x named m.spaces revealed) (halted x named m.spaces revealed)) (tested x named m.spaces revealed)
    where
      made : (result : Result Access Halt)
          → IfOk result (λ a. Goes (StoresAs a m.spaces address bytes) (IsTouchedOrOwn m.spaces address (length bytes)) [] v.disk v.slots w.disk w.slots)
          → OnErr result (Goes (StoresSome m.spaces address bytes) (IsTouchedOrOwn m.spaces address (length bytes)) [] v.disk v.slots w.disk w.slots)
          → Makes (IsTouchedOrOwn m.spaces address (length bytes)) [] v.disk v.slots w.disk w.slots
      made (Ok a) stored halted = stored.makes
      made (Err e) stored halted = halted.makes
