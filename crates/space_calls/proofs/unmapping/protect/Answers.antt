use Rattle.std.proofs.Common.{false, true, ℕ, sym, ◌∙◌}
use Rattle.std.proofs.lemmas.Bool.{true≢false}
use Rattle.std.proofs.lemmas.Option.{none-some}
use Rattle.flat_machine.specs.declared.call.Call.TheVariants as call
use Rattle.swapper_kernel.specs.GoesLaws.{makes_then}
use Rattle.space_calls.proofs.FileLemmas.{found_refused, found_revealed}
use Rattle.space_calls.proofs.RunLemmas.{quiet_passes}
use Rattle.space_calls.proofs.TakeLemmas.{row_refused}
use Rattle.space_tables.specs.declared.shown.Shown.{Shown}
use Rattle.space_tables.specs.Shows.{IsRunAt, IsShownAt}
use Rattle.table_calls.specs.Answers.{TablesSay}
use Rattle.space_calls.proofs.RangeLemmas.{given_so}
use Rattle.fault_core.specs.Core.{state}
use Rattle.space_calls.proofs.WindowHalts.{window_halt}
use Rattle.space_calls.proofs.HaltLemmas.{slot_protect, writable_protect}
use Rattle.space_calls.specs.FilesLaws.{shown_here}
use Rattle.space_calls.proofs.OnLemmas.{each_still_on}
use Rattle.space_calls.proofs.unmapping.protect.Goals as goal
use Rattle.space_calls.proofs.OutcomeLemmas.{halts_wider, if_halts_after, made_looked, made_then, own_looked, own_made}
use Rattle.space_calls.proofs.LookLemmas.{answers_of, looked_fault, looked_word}
use Rattle.filer_kernel.specs.View.{accepted, disk_of}

pub returns-in-Ok-Err-clause-answers : goal.returns-in-Ok-Err-clause-answers
returns-in-Ok-Err-clause-answers g c = λ volume m r.
    let is = row_refused m c.args.space c.args.writable c.in-Ok-Err.word (found_refused m.spaces c.args.space c.in-Ok-Err.field-0 (c.in-Ok-Err.ensures.answer volume m r) c.in-Ok-Err.word c.in-Ok-Err.field-0-is) in
    looked_word c.find_window.ensures.looks (g.met.D.Disk.in_form (disk_of c.args.core.now.filer)) r (call.Protect c.args.space c.args.writable) c.in-Ok-Err.word is

pub returns-in-Err-clause-answers : goal.returns-in-Err-clause-answers
returns-in-Err-clause-answers g c = λ volume m r.
    looked_fault c.find_window.ensures.looks (g.met.D.Disk.in_form (disk_of c.args.core.now.filer)) r (call.Protect c.args.space c.args.writable) c.in-Err.halt (c.in-Err.ensures.answer volume m r)

pub returns-then-writable-clause-answers : goal.returns-then-writable-clause-answers
returns-then-writable-clause-answers g c = λ volume m r.
    let old = c.args.core.now in
    let r1 = c.find_window.ensures.looks.runs volume m r in
    let w = (found_revealed m.spaces c.args.space c.in-Ok-Ok.field-0 (c.in-Ok-Ok.ensures.answer volume m r) c.in-Ok-Ok.found c.in-Ok-Ok.field-0-is).1 in
    let passes = quiet_passes old c.protect_writable.new.core volume m (call.Protect c.args.space true) (g.met.D.Disk.in_form (disk_of old.filer)) r (makes_then c.find_window.ensures.looks.makes c.protect_writable.ensures.went.makes) in
    rw c.if-writable.true (answers_of c.protect_writable.result (c.protect_writable.ensures.carried volume m w.0 r1 w.1 w.2) passes)

pub returns-clause-answers : goal.returns-clause-answers
returns-clause-answers g c = λ volume m r.
    let old = c.args.core.now in
    let r1 = c.find_window.ensures.looks.runs volume m r in
    let w = (found_revealed m.spaces c.args.space c.in-Ok-Ok.field-0 (c.in-Ok-Ok.ensures.answer volume m r) c.in-Ok-Ok.found c.in-Ok-Ok.field-0-is).1 in
    let passes = quiet_passes old c.protect_read_only.new.core volume m (call.Protect c.args.space false) (g.met.D.Disk.in_form (disk_of old.filer)) r (makes_then c.find_window.ensures.looks.makes c.protect_read_only.ensures.went.makes) in
    rw c.if-writable.false (answers_of c.protect_read_only.result (c.protect_read_only.ensures.carried volume m w.0 r1 w.1 w.2 w.3 w.4) passes)

pub returns-in-Ok-Err-clause-synced : goal.returns-in-Ok-Err-clause-synced
returns-in-Ok-Err-clause-synced g c = λ volume m r read_only none. absurd (none-some c.in-Ok-Err.word (sym none ∙ row_refused m c.args.space c.args.writable c.in-Ok-Err.word (found_refused m.spaces c.args.space c.in-Ok-Err.field-0 (c.in-Ok-Err.ensures.answer volume m r) c.in-Ok-Err.word c.in-Ok-Err.field-0-is)))

pub returns-then-writable-clause-synced : goal.returns-then-writable-clause-synced
returns-then-writable-clause-synced g c = λ volume m r read_only none. absurd (true≢false (sym c.if-writable.true ∙ read_only))

pub returns-clause-synced : goal.returns-clause-synced
returns-clause-synced g c = λ volume m r read_only none.
    let r1 = c.find_window.ensures.looks.runs volume m r in
    let w = (found_revealed m.spaces c.args.space c.in-Ok-Ok.field-0 (c.in-Ok-Ok.ensures.answer volume m r) c.in-Ok-Ok.found c.in-Ok-Ok.field-0-is).1 in
    c.protect_read_only.ensures.synced volume m w.0 r1 w.1 w.2 w.3 w.4

pub returns-then-writable-clause-settled : goal.returns-then-writable-clause-settled
returns-then-writable-clause-settled g c = λ read_only. absurd (true≢false (sym c.if-writable.true ∙ read_only))

-- ---- Why it failed.

pub returns-in-Err-clause-fails : goal.returns-in-Err-clause-fails
returns-in-Err-clause-fails g c =
    let old = c.args.core.now in
    halts_wider c.in-Err.ensures.fails (slot_protect (state old) (accepted old.filer) c.args.space c.args.writable old.intervals (state c.find_window.new.core) c.in-Err.halt c.in-Err.ensures.fails.cause)

pub returns-then-writable-clause-fails : goal.returns-then-writable-clause-fails
returns-then-writable-clause-fails g c =
    let old = c.args.core.now in
    let u = c.find_window.new.core in
    let looks = c.find_window.ensures.looks in
    let found : Shown × ℕ × ℕ = c.in-Ok-Ok.found in
    let read = given_so (λ (f : Shown × ℕ × ℕ). TablesSay (state old) (λ b. IsShownAt b c.args.space) f.0) found c.in-Ok-Ok.field-0 c.in-Ok-Ok.field-0-is c.in-Ok-Ok.ensures.read in
    rw c.if-writable.true
    (if_halts_after looks c.protect_writable.result c.protect_writable.ensures.fails (writable_protect (state old) (state u) (state c.protect_writable.new.core) c.args.space old.intervals u.intervals found.0 read looks.reaches looks.intervals))

pub returns-clause-fails : goal.returns-clause-fails
returns-clause-fails g c =
    let old = c.args.core.now in
    let u = c.find_window.new.core in
    let looks = c.find_window.ensures.looks in
    let found : Shown × ℕ × ℕ = c.in-Ok-Ok.found in
    let read = given_so (λ (f : Shown × ℕ × ℕ). TablesSay (state old) (λ b. IsRunAt b c.args.space) (f.1, f.2)) found c.in-Ok-Ok.field-0 c.in-Ok-Ok.field-0-is c.in-Ok-Ok.ensures.range in
    rw c.if-writable.false
    (if_halts_after looks c.protect_read_only.result c.protect_read_only.ensures.fails (window_halt (state old) (state u) (accepted old.filer) c.args.space looks.reaches old.intervals u.intervals looks.intervals (state c.protect_read_only.new.core) (found.1, found.2) read))

-- ---- What was written.

pub returns-in-Ok-Err-clause-went : goal.returns-in-Ok-Err-clause-went
returns-in-Ok-Err-clause-went g c = own_looked c.find_window.ensures.looks

pub returns-in-Err-clause-went : goal.returns-in-Err-clause-went
returns-in-Err-clause-went g c = own_looked c.find_window.ensures.looks

pub returns-then-writable-clause-went : goal.returns-then-writable-clause-went
returns-then-writable-clause-went g c = own_made (made_then (accepted c.args.core.now.filer) (made_looked c.find_window.ensures.looks) c.protect_writable.ensures.went)

pub returns-clause-went : goal.returns-clause-went
returns-clause-went g c = own_made (made_then (accepted c.args.core.now.filer) (made_looked c.find_window.ensures.looks) c.protect_read_only.ensures.went)

-- ---- The tables are revealed.

pub returns-in-Ok-Err-clause-sees : goal.returns-in-Ok-Err-clause-sees
returns-in-Ok-Err-clause-sees g c = λ ss s. (ss, (c.find_window.ensures.looks.still ss s, shown_here ss))

pub returns-then-writable-clause-sees : goal.returns-then-writable-clause-sees
returns-then-writable-clause-sees g c = each_still_on c.args.core.now c.protect_writable.new.core c.protect_writable.result (λ ss s.
    let w = (found_revealed ss c.args.space c.in-Ok-Ok.field-0 (c.in-Ok-Ok.ensures.seen ss s) c.in-Ok-Ok.found c.in-Ok-Ok.field-0-is).1 in
    c.protect_writable.ensures.sees ss w.0 (c.find_window.ensures.looks.still ss s) w.1 w.2)

pub returns-clause-sees : goal.returns-clause-sees
returns-clause-sees g c = each_still_on c.args.core.now c.protect_read_only.new.core c.protect_read_only.result (λ ss s.
    let w = (found_revealed ss c.args.space c.in-Ok-Ok.field-0 (c.in-Ok-Ok.ensures.seen ss s) c.in-Ok-Ok.found c.in-Ok-Ok.field-0-is).1 in
    c.protect_read_only.ensures.sees ss w.0 (c.find_window.ensures.looks.still ss s) w.1 w.2)
