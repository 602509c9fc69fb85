-- What a start, a line and an end of a run change of files, apart from each other.
use Rattle.std.proofs.Common.{◌≡◌, ℕ, zero, suc, Bool, true, false, [], Some, refl, subst}
use Rattle.std.proofs.lemmas.Bool.{true≢false}
use Rattle.labelled_disk.specs.Calls.{RevealsSame}
use Rattle.labelled_disk.specs.CrashState.{crash_state}
use Rattle.labelled_disk.specs.File.{File, file_at}
use Rattle.labelled_disk.specs.State.{DiskState}
use Rattle.labelled_disk.proofs.WriteRunLemmas.{appended_none}
use Rattle.frame_pool.specs.Frames.{Slots}
use Rattle.label_calls.specs.Synced.{SyncsAround}
use Rattle.flat_machine.specs.declared.call.Call.{Call}
use Rattle.flat_machine.specs.declared.call.Call.TheVariants as call
use Rattle.flat_machine.specs.After.{ends_trace}
use Rattle.flat_machine.specs.IsMachine.{IsMachine}
use Rattle.flat_machine.specs.Machine.{Machine}
use Rattle.swapper_kernel.specs.Goes.{Pages, Went}
use Rattle.file_manager.specs.Synced.{LabelsAfterSync}
use Rattle.session_words.specs.StandsFor.{RevealsSettled}
use Rattle.running_words.specs.Session.{WroteIn}
use Rattle.running_words.specs.Stages.{Passes}
use Rattle.pilot_engine.specs.Closing.{IsStop, Throughout}
use Rattle.pilot_engine.specs.Labels.{WritesPagesAlone, keeps_labels}
use Rattle.pilot_engine.specs.Stepping.{resizes, writes_leader}
use Rattle.pilot_top.specs.CrashStates.{CrashStates, Openly, staged}
use Rattle.pilot_top.specs.OnePlace.{ChangesApart}
use Rattle.pilot_top.proofs.ApartRuns.{apart_after, apart_none, apart_of_any, pages_apart, passes_keep, passes_mark, passes_size, settled_apart, settled_is_there}
use Rattle.pilot_top.proofs.SettledShapes.{next_create, next_delete, next_immutable, next_map_anonymous, next_permanent, next_unmap}
use Rattle.pilot_top.proofs.StageShapes.{stage_resizes, stages_keep, stages_mark}

-- A call that does not end the trace. One that fails may end with a label by which a file goes.
pub call_apart : (m : Machine) (c : Call) (failed : Bool) {pages : Pages} {a b : DiskState} {s t : Slots} → IsMachine m → ends_trace c ≡ false → Passes m c a b → WroteIn pages a s b t → (writes_leader c ≡ true → SyncsAround failed a b)
    → ((id : ℕ) (f : File) → resizes c ≡ Some id → file_at m.files id ≡ Some f → f.permanent ≡ true → LabelsAfterSync a b) → (keeps_labels c ≡ true → WritesPagesAlone a b) → ChangesApart failed a b
call_apart m (call.Create pages kind) failed h more passes wrote around sizes alone =
    apart_of_any failed (passes_keep m (call.Create pages kind) passes (stages_keep m (call.Create pages kind) (λ i. refl) (next_create m pages kind h)))
call_apart m (call.MapAnonymous space) failed h more passes wrote around sizes alone =
    apart_of_any failed (passes_keep m (call.MapAnonymous space) passes (stages_keep m (call.MapAnonymous space) (λ i. refl) (next_map_anonymous m space h)))
call_apart m (call.Unmap space) failed h more passes wrote around sizes alone = apart_of_any failed (passes_keep m (call.Unmap space) passes (stages_keep m (call.Unmap space) (λ i. refl) (next_unmap m space h)))
call_apart m (call.Delete id) failed h more passes wrote around sizes alone =
    let made = wrote.makes.wrote in
    passes_mark m (call.Delete id) passes made.writes made.appended made.permitted failed id (stages_mark m (call.Delete id) (λ i. refl) id (next_delete m id h)) (around refl)
call_apart m (call.MakePermanent id) failed h more passes wrote around sizes alone =
    let made = wrote.makes.wrote in
    passes_mark m (call.MakePermanent id) passes made.writes made.appended made.permitted failed id (stages_mark m (call.MakePermanent id) (λ i. refl) id (next_permanent m id h)) (around refl)
call_apart m (call.MakeImmutable id) failed h more passes wrote around sizes alone =
    let made = wrote.makes.wrote in
    passes_mark m (call.MakeImmutable id) passes made.writes made.appended made.permitted failed id (stages_mark m (call.MakeImmutable id) (λ i. refl) id (next_immutable m id h)) (around refl)
call_apart m (call.SetSize id pages) failed h more passes wrote around sizes alone =
    let made = wrote.makes.wrote in
    apart_of_any failed
    (passes_size m (call.SetSize id pages) passes made.writes made.appended made.permitted id (stage_resizes m h id pages) (λ b is. let f = settled_is_there m h id b is in sizes id f.0 refl f.1 f.2))
call_apart m call.Close failed h more passes wrote around sizes alone = absurd (true≢false more)
call_apart m call.Halt failed h more passes wrote around sizes alone = absurd (true≢false more)
call_apart m c failed h more passes wrote around sizes alone =
    let made = wrote.makes.wrote in
    apart_of_any failed (pages_apart made.writes made.appended m c passes made.permitted (alone refl).pages)

-- calls that were answered, and then more
pub openly_apart : (failed : Bool) {a b c : DiskState} → Openly a b → Openly b c → Went a b → Went b c → ChangesApart false a b → ChangesApart failed b c → ChangesApart failed a c
openly_apart failed h k went later changes more = apart_after failed h.writes k.writes h.appended k.appended went.syncs later.syncs changes more

-- and then an end
pub ended_apart : (m : Machine) {a b c : DiskState} → Openly a b → Throughout (IsStop m) b c → Went a b → Went b c → ChangesApart false a b → ChangesApart false a c
ended_apart m h stops went later changes =
    apart_after false h.writes stops.writes h.appended stops.appended went.syncs later.syncs changes (settled_apart m stops.writes stops.appended (λ d k revealed. (stops.each d k revealed).revealed))

-- and then nothing
pub still_apart : {a b c : DiskState} → Openly a b → RevealsSame b c → Went a b → Went b c → ChangesApart false a b → ChangesApart false a c
still_apart h same went later changes = apart_after false h.writes [] h.appended (appended_none same) went.syncs later.syncs changes (apart_none same)

-- no line is carried out
staged_none : (m : Machine) (j i : ℕ) → staged m [] j i ≡ m
staged_none m zero i = refl
staged_none m (suc j) i = refl

-- a start
pub start_apart : (m : Machine) {a b : DiskState} → CrashStates m [] a b → ChangesApart false a b
start_apart m on = settled_apart m on.writes on.appended (λ d k revealed. subst (RevealsSettled (crash_state d on.writes k)) (staged_none m (on.line k) (on.step k)) (on.each d k revealed).revealed)
