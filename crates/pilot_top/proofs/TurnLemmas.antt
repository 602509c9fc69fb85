-- What one line of a trace is answered, and what it writes.
use Rattle.std.proofs.Common.{◌≡◌, ◌≢◌, ◌⊎◌, inl, inr, ℕ, false, [], Option, Some, None, refl, sym, ◌∙◌, ap}
use Rattle.std.specs.Prelude.{IfSome}
use Rattle.std.proofs.lemmas.Option.{same_Some, none-some}
use Rattle.labelled_disk.specs.State.{DiskState}
use Rattle.labelled_disk.specs.declared.evidence.Halt.{Halt}
use Rattle.flat_machine.specs.declared.call.Call.{Call}
use Rattle.flat_machine.specs.declared.call.Call.TheVariants as call
use Rattle.flat_machine.specs.declared.call.Reply.{Reply}
use Rattle.flat_machine.specs.declared.call.Reply.TheVariants as reply
use Rattle.flat_machine.specs.declared.call.Refusal.TheVariants as why
use Rattle.flat_machine.specs.Allows.{Allows}
use Rattle.flat_machine.specs.Machine.{Machine}
use Rattle.flat_machine.specs.Next.{next}
use Rattle.trace_io.specs.declared.progress.Line.{Line}
use Rattle.trace_io.specs.declared.progress.Line.TheVariants as line
use Rattle.trace_io.specs.declared.progress.Stop.{Stop}
use Rattle.trace_io.specs.declared.progress.Stop.TheVariants as stop
use Rattle.trace_io.specs.Lines.{answer_of}
use Rattle.trace_io.specs.Reading.{is_last}
use Rattle.frame_pool.specs.Frames.{Slots}
use Rattle.swapper_kernel.specs.GoesLaws.{makes_nothing, makes_wider}
use Rattle.running_words.specs.Session.{WroteIn}
use Rattle.running_words.specs.Stages.{client_or_own, may_dirty}
use Rattle.pilot_top.specs.Turn.{Answers}
use Rattle.pilot_top.specs.declared.turn.Turn.TheVariants as turn
use Rattle.pilot_top.proofs.SuitLemmas.{call_suits}

-- a reading that gave a line was not at its end
pub goes_on : (stopped : Option Stop) (result : Line) (X Y : Type 0) → (stopped ≡ None) ⊎ (stopped ≡ Some stop.End) → IfSome stopped (λ why. (result ≡ answer_of why) × X × Y) → result ≢ line.End → stopped ≡ None
goes_on None result X Y begun again other = refl
goes_on (Some why) result X Y (inl none) again other = absurd (none-some why (sym none))
goes_on (Some why) result X Y (inr is) again other = absurd (other (again.0 ∙ ap answer_of (same_Some why stop.End is)))

pub call_not_end : (c : Call) → line.Call c ≢ line.End
call_not_end c same = cc same

pub bad_not_end : line.Bad ≢ line.End
bad_not_end same = cc same

pub same_halt : (h k : Halt) → turn.Halts h ≡ turn.Halts k → h ≡ k
same_halt h k same = cc same

-- the reply to a call
pub answers_call : (old new : Machine → Type 0) (c : Call) (r : Reply) → is_last (Some c) ≡ false → ((m : Machine) → old m → Allows m c r × new (next m c)) → Answers old new (Some c) r
answers_call old new c r more carried = record { suits = call_suits c r more; allowed = λ m is. (carried m is).0; next = λ m is going. (carried m is).1 }

-- Which pages it makes dirty.

may_be : (c : Call) (id page : ℕ) → may_dirty c id page → client_or_own id page
may_be (call.Store address bytes) id page is = is
may_be c id page is = inl is

pub call_wrote : (c : Call) {a b : DiskState} {s t : Slots} → WroteIn (may_dirty c) a s b t → WroteIn client_or_own a s b t
call_wrote c h = record { labels = h.labels; makes = makes_wider client_or_own (may_be c) h.makes; opens = h.opens }

pub nothing_wrote : (a : DiskState) (s : Slots) → WroteIn client_or_own a s a s
nothing_wrote a s = record { labels = []; makes = makes_nothing client_or_own a s; opens = tt }

-- a bad line
pub answers_bad : (old : Machine → Type 0) → Answers old old None (reply.Refused why.Syntax)
answers_bad old = record { suits = refl; allowed = λ m is. refl; next = λ m is going. is }
