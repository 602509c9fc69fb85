-- What a call comes to that brings in no page of a client's file, said of the machine that a session stands for.
use Rattle.std.proofs.Common.{◌≡◌, ◌≢◌, ◌≤◌, inl, ℕ, Bool, true, false, List, [], length, Result, Ok, Err, refl, sym, ◌∙◌, ap, subst}
use Rattle.std.specs.Prelude.{IfOk, if◌then◌else◌, is_none}
use Rattle.std.proofs.lemmas.Option.{same_Some}
use Rattle.labelled_disk.specs.declared.evidence.Halt.{Halt}
use Rattle.labelled_disk.specs.Sectors.{Sector}
use Rattle.file_map.specs.FileMap.{Triples}
use Rattle.frame_pool.specs.Frames.{Slots, HasPage}
use Rattle.swapper_kernel.specs.Goes.{Goes}
use Rattle.swapper_kernel.specs.Stands.{Stands}
use Rattle.filer_kernel.specs.View.{View}
use Rattle.flat_machine.specs.declared.call.Call.{Call}
use Rattle.flat_machine.specs.declared.call.Call.TheVariants as call
use Rattle.flat_machine.specs.declared.call.Reply.{Reply}
use Rattle.flat_machine.specs.declared.call.Reply.TheVariants as reply
use Rattle.flat_machine.specs.declared.space.FilePage.{FilePage}
use Rattle.flat_machine.specs.declared.space.Space.{Space}
use Rattle.flat_machine.specs.After.{ends_trace}
use Rattle.flat_machine.specs.Form.{IsTyped}
use Rattle.flat_machine.specs.Machine.{Machine}
use Rattle.flat_machine.specs.Next.{change, next}
use Rattle.flat_machine.specs.Refusal.{refusal}
use Rattle.swap_units.specs.declared.interval.Interval.{Interval}
use Rattle.session_words.specs.CellLaws.{IsTouchedOrOwn}
use Rattle.file_manager.specs.declared.volume.Volume.{Volume}
use Rattle.fault_core.specs.declared.attempt.Attempt.{Attempt}
use Rattle.fault_core.specs.declared.attempt.Attempt.TheVariants.{Access as Came, Absent}
use Rattle.fault_core.specs.declared.reference.Access.{Access}
use Rattle.fault_core.specs.declared.reference.Access.TheVariants.{Done, NoMap, ReadOnly}
use Rattle.fault_core.specs.Access.{access_of}
use Rattle.fault_core.specs.Attempt.{ArePresent, IfAbsent, IfAccess, IsAbsent, IsAway, IsPresent, StoresTried, moved}
use Rattle.fault_core.specs.Moves.{Loads}
use Rattle.fault_core.specs.Reach.{BringsOwn, Reaches}
use Rattle.fault_core.specs.ReferenceLaws.{word_of}
use Rattle.fault_core.specs.Revealed.{Revealed}
use Rattle.fault_core.proofs.AllowedLemmas.{loads_tested, stores_tested}
use Rattle.fault_core.proofs.ShowLemmas.{own_came}
use Rattle.flight_core.specs.Tried.{ComesBy, IsTried, after_tried}
use Rattle.running_words.specs.Running.{IsRunning, exactly}
use Rattle.running_words.specs.RunningLaws.{IsWhole}
use Rattle.running_words.specs.Session.{AreInForm}
use Rattle.running_words.specs.Stages.{Passes}
use Rattle.running_words.proofs.RunningLemmas.{running_laws}
use Rattle.space_calls.proofs.CameLemmas.{Came as CameTo, knows, still_reveals, still_runs}
use Rattle.space_calls.proofs.LoadLemmas.{IsDone, load_allowed, load_is_done, load_stays, store_is_done}
use Rattle.space_calls.proofs.RunLemmas.{reached_makes}
use Rattle.space_calls.proofs.StoreLemmas.{refused_came, store_reveals}
use Rattle.pilot_engine.specs.Trying.{tried_as}
use Rattle.pilot_engine.proofs.QuietLemmas.{present_next, present_same}
use Rattle.pilot_engine.proofs.ReferLemmas.{store_answered}

-- a page that is away is not present
away_absent : (ss : List Space) (slots : Slots) (page : ℕ) → IsAway ss slots page → ¬ IsPresent ss slots page
away_absent ss slots page away (slot, there) =
    let same : there.shown ≡ away.shown = same_Some there.shown away.shown (sym there.is_shown ∙ away.is_shown) in
    away.absent (slot, subst (λ (u : FilePage). HasPage slots slot u.file u.page) same there.has)

-- a store changes no window
store_spaces : (m : Machine) (address : ℕ) (bytes : List ℕ) → m.spaces ≡ (next m (call.Store address bytes)).spaces
store_spaces m address bytes = either (is_none (refusal m (call.Store address bytes)))
  where
    either : (b : Bool) → m.spaces ≡ (if b then change m (call.Store address bytes) else m).spaces
    either true = refl
    either false = refl

-- all bytes were moved only where the access came to that
only_done : (a : Access) → Came a ≡ moved → a ≡ Done
only_done Done is = refl
only_done (NoMap page) is = absurd (cc is)
only_done (ReadOnly page) is = absurd (cc is)

-- where it was not refused, they were
is_done : (a : Access) → IsDone a → a ≡ Done
is_done Done done = refl
is_done (NoMap page) done = absurd done
is_done (ReadOnly page) done = absurd done

-- Resident pages, where those of the maps and of the space tables alone came into frames.
module _ {v : View} {kept : List Interval} {count : ℕ} {volume : Volume} {m : Machine} (r : IsRunning v kept count volume m) (t : Slots) (came : BringsOwn v.slots t) where
  -- after a call that was carried out
  pub quiet_next : (c : Call) → ends_trace c ≡ false → ComesBy m c (λ page. IsPresent m.spaces v.slots page) (λ page. IsPresent (next m c).spaces t page)
  quiet_next c more page there = present_next m r.session.stands.is.by.machine v.slots t r.session.stands.frames came c more page there

  -- after an attempt
  pub quiet_tried : (c : Call) → ends_trace c ≡ false → (plain : Reply) (a : Attempt)
      → ComesBy m c (λ page. IsPresent m.spaces v.slots page) (λ page. IsPresent (after_tried m c (tried_as plain a)).spaces t page)
  quiet_tried c more plain (Came access) page there = quiet_next c more page there
  quiet_tried c more plain (Absent absent) page there = inl (present_same m r.session.stands.is.by.machine v.slots t r.session.stands.frames came page there)

module _ {v w : View} {kept later : List Interval} {count now : ℕ} (whole : IsWhole v) {volume : Volume} {m : Machine} (r : IsRunning v kept count volume m) where
  -- the machine allows what a load comes to, and stays as it is
  pub load_tried : (address n : ℕ) (bytes : List ℕ) (a : Attempt) → length bytes ≡ n → CameTo v w kept later count now
      → ((x : List Sector) (named : Triples) (ss : List Space) → Revealed v kept count x named ss → IfAccess (λ b. b ≡ access_of ss false address n) a)
      → ((x : List Sector) (named : Triples) (ss : List Space) → Revealed v kept count x named ss → IfAbsent (IsAbsent ss w.slots false address n) a)
      → ((x : List Sector) (named : Triples) (ss : List Space) → Revealed v kept count x named ss → a ≡ moved → ArePresent ss w.slots address n)
      → ((x : List Sector) (named : Triples) (ss : List Space) → Revealed v kept count x named ss → a ≡ moved → Loads ss address bytes x)
      → IsTried m (call.Load address n) (tried_as (reply.Bytes bytes) a) (λ k. IsRunning w later now volume k) (λ k page. IsPresent k.spaces w.slots page)
  load_tried address n bytes a long came access absent present loads = by a access absent present loads
    where
      by : (a : Attempt) → ((x : List Sector) (named : Triples) (ss : List Space) → Revealed v kept count x named ss → IfAccess (λ b. b ≡ access_of ss false address n) a)
          → ((x : List Sector) (named : Triples) (ss : List Space) → Revealed v kept count x named ss → IfAbsent (IsAbsent ss w.slots false address n) a)
          → ((x : List Sector) (named : Triples) (ss : List Space) → Revealed v kept count x named ss → a ≡ moved → ArePresent ss w.slots address n)
          → ((x : List Sector) (named : Triples) (ss : List Space) → Revealed v kept count x named ss → a ≡ moved → Loads ss address bytes x)
          → IsTried m (call.Load address n) (tried_as (reply.Bytes bytes) a) (λ k. IsRunning w later now volume k) (λ k page. IsPresent k.spaces w.slots page)
      by (Came b) access absent present loads =
          let x = r.session.stands.memory in
          let named = r.session.stands.is.named in
          let revealed = knows running_laws whole r in
          let same = load_stays m address n in
          let is = access x named m.spaces revealed in (
            record {
              allowed = load_allowed (exactly r.pages m.spaces) x m address n bytes b r.session.stands.is long is (λ done. loads x named m.spaces revealed (ap (λ (e : Access). Came e) done));
              next = subst (λ (k : Machine). IsRunning w later now volume k) same (still_runs running_laws whole r came);
            },
            λ one free. subst (λ (k : Machine). ArePresent k.spaces w.slots address n) same
                (present x named m.spaces revealed (ap (λ (e : Access). Came e) (is_done b (load_is_done m address n b is free)))),
          )
      by (Absent page) access absent present loads =
          let x = r.session.stands.memory in
          let named = r.session.stands.is.named in
          let revealed = knows running_laws whole r in
          let gone = absent x named m.spaces revealed in
          let first = gone.1 in (
            refl,
            loads_tested m address n ∙ ap word_of gone.0,
            still_runs running_laws whole r came,
            record { k = first.k; touches = first.touched; away = away_absent m.spaces w.slots page first.away; before = first.before },
          )

  -- the machine allows what a store comes to, and goes on to its next
  pub store_tried : (address : ℕ) (bytes : List ℕ) (a : Attempt) → IsTyped (call.Store address bytes) → now ≡ count → w.layout ≡ v.layout → BringsOwn v.slots w.slots
      → ((x : List Sector) (named : Triples) (ss : List Space) → Revealed v kept count x named ss → IfAccess (λ b. b ≡ access_of ss true address (length bytes)) a)
      → ((x : List Sector) (named : Triples) (ss : List Space) → Revealed v kept count x named ss → IfAbsent (IsAbsent ss w.slots true address (length bytes)) a)
      → ((x : List Sector) (named : Triples) (ss : List Space) → Revealed v kept count x named ss → a ≡ moved → ArePresent ss w.slots address (length bytes))
      → ((x : List Sector) (named : Triples) (ss : List Space) → Revealed v kept count x named ss
      → Goes (StoresTried a ss address bytes) (IsTouchedOrOwn ss address (length bytes)) [] v.disk v.slots w.disk w.slots)
      → (a ≢ moved → Reaches v w)
      → ((x n : List Sector) (named : Triples) (ss : List Space) → Revealed v kept count x named ss → Stands w.disk w.slots n → Revealed w later now n named ss)
      → IsTried m (call.Store address bytes) (tried_as reply.Done a) (λ k. IsRunning w later now volume k) (λ k page. IsPresent k.spaces w.slots page)
  store_tried address bytes a typed same layout came access absent present stored unmoved known = by a access absent present stored unmoved
    where
      by : (a : Attempt) → ((x : List Sector) (named : Triples) (ss : List Space) → Revealed v kept count x named ss → IfAccess (λ b. b ≡ access_of ss true address (length bytes)) a)
          → ((x : List Sector) (named : Triples) (ss : List Space) → Revealed v kept count x named ss → IfAbsent (IsAbsent ss w.slots true address (length bytes)) a)
          → ((x : List Sector) (named : Triples) (ss : List Space) → Revealed v kept count x named ss → a ≡ moved → ArePresent ss w.slots address (length bytes))
          → ((x : List Sector) (named : Triples) (ss : List Space) → Revealed v kept count x named ss
          → Goes (StoresTried a ss address bytes) (IsTouchedOrOwn ss address (length bytes)) [] v.disk v.slots w.disk w.slots)
          → (a ≢ moved → Reaches v w)
          → IsTried m (call.Store address bytes) (tried_as reply.Done a) (λ k. IsRunning w later now volume k) (λ k page. IsPresent k.spaces w.slots page)
      by (Came b) access absent present stored unmoved =
          let x = r.session.stands.memory in
          let named = r.session.stands.is.named in
          let revealed = knows running_laws whole r in
          let is = access x named m.spaces revealed in
          let answered = store_answered whole r address bytes (Ok b) typed same layout access stored (λ other. unmoved (λ done. other (only_done b done))) (λ y triples ss known_so. own_came ss v.slots w.slots came) known in (
            record { allowed = answered.0; next = answered.1 },
            λ one free. subst (λ (ss : List Space). ArePresent ss w.slots address (length bytes)) (store_spaces m address bytes)
                (present x named m.spaces revealed (ap (λ (e : Access). Came e) (is_done b (store_is_done m address bytes b is free)))),
          )
      by (Absent page) access absent present stored unmoved =
          let x = r.session.stands.memory in
          let named = r.session.stands.is.named in
          let revealed = knows running_laws whole r in
          let gone = absent x named m.spaces revealed in
          let first = gone.1 in (
            refl,
            stores_tested m address bytes ∙ ap word_of gone.0,
            still_runs running_laws whole r
                (refused_came (unmoved (λ is. cc is)) (λ y triples ss known_so. own_came ss v.slots w.slots came)
                (λ y triples ss known_so. let after = (stored y triples ss known_so).memory y known_so.known.stands in subst (λ (n : List Sector). Stands w.disk w.slots n) after.2 after.1) known same),
            record { k = first.k; touches = first.touched; away = away_absent m.spaces w.slots page first.away; before = first.before },
          )

module _ {v w : View} {kept : List Interval} {count : ℕ} (whole : IsWhole v) {volume : Volume} {m : Machine} (r : IsRunning v kept count volume m) where
  -- each crash state of such a store's writes has the settled files of before or of after
  pub store_tried_passes : AreInForm v.disk → (address : ℕ) (bytes : List ℕ) (result : Result Attempt Halt) → IsTyped (call.Store address bytes) → length bytes ≤ 512
      → ((x : List Sector) (named : Triples) (ss : List Space) → Revealed v kept count x named ss → IfOk result (IfAccess (λ b. b ≡ access_of ss true address (length bytes))))
      → ((x : List Sector) (named : Triples) (ss : List Space) → Revealed v kept count x named ss
      → IfOk result (λ a. Goes (StoresTried a ss address bytes) (IsTouchedOrOwn ss address (length bytes)) [] v.disk v.slots w.disk w.slots))
      → (result ≢ Ok moved → Reaches v w) → Passes m (call.Store address bytes) v.disk w.disk
  store_tried_passes form address bytes (Err e) typed few access stored unmoved = still_reveals running_laws whole r w form (call.Store address bytes) (reached_makes (unmoved (λ is. cc is)))
  store_tried_passes form address bytes (Ok (Absent page)) typed few access stored unmoved = still_reveals running_laws whole r w form (call.Store address bytes) (reached_makes (unmoved (λ is. cc is)))
  store_tried_passes form address bytes (Ok (Came b)) typed few access stored unmoved =
      let x = r.session.stands.memory in
      let named = r.session.stands.is.named in
      let revealed = knows running_laws whole r in
      store_reveals running_laws whole r form w address bytes typed few (stored x named m.spaces revealed).makes
      (λ refused. unmoved (λ is. refused (sym (access x named m.spaces revealed) ∙ only_done b (cc is))))
