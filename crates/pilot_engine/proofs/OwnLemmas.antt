-- The syncs around the labels that calls write over leaders of permanent files.
use Rattle.std.proofs.Common.{◌≡◌, inl, inr, ℕ, Bool, true, false, List, Some, None, Result, Ok, Err, refl, sym, ◌∙◌}
use Rattle.std.proofs.lemmas.Bool.{true≢false}
use Rattle.std.proofs.lemmas.Option.{none-some}
use Rattle.labelled_disk.specs.declared.disk.DiskWrite.{DiskWrite}
use Rattle.labelled_disk.specs.declared.evidence.Halt.{Halt}
use Rattle.labelled_disk.specs.State.{DiskState}
use Rattle.frame_pool.specs.Frames.{Slots}
use Rattle.swapper_kernel.specs.Goes.{Makes, Pages}
use Rattle.label_calls.specs.declared.page.Mark.{Mark}
use Rattle.flat_machine.specs.declared.call.Call.{Call}
use Rattle.flat_machine.specs.declared.call.Call.TheVariants as call
use Rattle.label_calls.specs.Synced.{SyncsAround, SyncsLeaders}
use Rattle.label_calls.specs.SyncedLaws.{WroteSynced, around_after, wrote_synced}
use Rattle.file_manager.specs.Answer.{WritesMark}
use Rattle.pilot_engine.specs.Stepping.{is_on_spaces, resizes, writes_leader}

-- calls on spaces write no leader
pub no_leader : (c : Call) → is_on_spaces c ≡ true → writes_leader c ≡ false
no_leader (call.MakeSpace parent pages first) revealed = refl
no_leader (call.RemoveSpace space) revealed = refl
no_leader (call.Place page) revealed = refl
no_leader (call.Units space pages) revealed = refl
no_leader (call.Map space id page writable) revealed = refl
no_leader (call.MapAnonymous space) revealed = refl
no_leader (call.Unmap space) revealed = refl
no_leader (call.Protect space writable) revealed = refl
no_leader (call.Load address count) revealed = refl
no_leader (call.Store address bytes) revealed = refl
no_leader (call.Activate space) revealed = refl
no_leader (call.Deactivate space) revealed = refl
no_leader (call.Kill space) revealed = refl
no_leader (call.ForceOut space) revealed = refl
no_leader other revealed = absurd (true≢false (sym revealed))

-- another call
pub around_other : (c : Call) {R : Type 0} → writes_leader c ≡ false → writes_leader c ≡ true → R
around_other c isnt is = absurd (true≢false (sym is ∙ isnt))

-- a mark
pub marked_synced : {failed : Bool} (mark : Mark) {a b : DiskState} {s t : Slots} → WritesMark mark a s b t → SyncsAround failed a b → WroteSynced failed a b
marked_synced mark (inl nothing) around = wrote_synced nothing around
marked_synced mark (inr made) around = wrote_synced made.2 around

-- a call after others that wrote no label
pub around_of : {T : Type 0} (result : Result T Halt) {pages : Pages} {run : List DiskWrite} {a b c : DiskState} {s t : Slots} → WroteSynced false a b → Makes pages run b s c t → SyncsLeaders result b c → SyncsLeaders result a c
around_of (Ok x) first makes around = around_after first (wrote_synced makes around)
around_of (Err e) first makes around = around_after first (wrote_synced makes around)

-- a call on spaces gives no file another size, and nor does another call
pub no_resize : (c : Call) → is_on_spaces c ≡ true → resizes c ≡ None
no_resize (call.MakeSpace parent pages first) revealed = refl
no_resize (call.RemoveSpace space) revealed = refl
no_resize (call.Place page) revealed = refl
no_resize (call.Units space pages) revealed = refl
no_resize (call.Map space id page writable) revealed = refl
no_resize (call.MapAnonymous space) revealed = refl
no_resize (call.Unmap space) revealed = refl
no_resize (call.Protect space writable) revealed = refl
no_resize (call.Load address count) revealed = refl
no_resize (call.Store address bytes) revealed = refl
no_resize (call.Activate space) revealed = refl
no_resize (call.Deactivate space) revealed = refl
no_resize (call.Kill space) revealed = refl
no_resize (call.ForceOut space) revealed = refl
no_resize other revealed = absurd (true≢false (sym revealed))

pub resizes_none : (c : Call) {R : Type 0} (id : ℕ) → resizes c ≡ None → resizes c ≡ Some id → R
resizes_none c id isnt is = absurd (none-some id (sym isnt ∙ is))
