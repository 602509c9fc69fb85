use Rattle.space_calls.proofs.FileLemmas.{window_found, window_lost}
use Rattle.space_calls.proofs.RunLemmas.{asked_makes, asked_runs, knows, size_kept}
use Rattle.space_calls.proofs.TableAnswers.{shown_refused}
use Rattle.fault_core.specs.Core.{state}
use Rattle.std.proofs.Common.{ℕ, Err}
use Rattle.space_tables.specs.Shows.{IsRunAt, IsShownAt}
use Rattle.table_calls.specs.Answers.{TablesSay}
use Rattle.space_calls.proofs.RangeLemmas.{given_so}
use Rattle.space_calls.proofs.WindowHalts.{slot_halt}
use Rattle.space_calls.proofs.windows.find_window.Goals as goal
use Rattle.filer_kernel.specs.View.{accepted}
use Rattle.space_calls.proofs.OutcomeLemmas.{halts_after, halts_at, halts_reached}
use Rattle.space_calls.proofs.LookLemmas.{looks_asked, looks_asked_then, looks_fits}

pub returns-in-Ok-Err-clause-answer : goal.returns-in-Ok-Err-clause-answer
returns-in-Ok-Err-clause-answer g c = λ volume m r.
    let old = c.args.core.now in
    let known = knows old (accepted old.filer) c.requires.size volume m r in
    (shown_refused m.spaces c.args.space c.in-Ok-Err.field-0 c.in-Ok-Err.word c.in-Ok-Err.field-0-is (c.in-Ok-Err.ensures.answer _ _ m.spaces known), tt)

pub returns-in-Ok-Err-clause-looks : goal.returns-in-Ok-Err-clause-looks
returns-in-Ok-Err-clause-looks g c = looks_asked c.requires.size c.shown.ensures.asked c.shown.ensures.sees

pub returns-in-Err-clause-looks : goal.returns-in-Err-clause-looks
returns-in-Err-clause-looks g c = looks_asked c.requires.size c.shown.ensures.asked c.shown.ensures.sees

pub returns-in-Err-clause-answer : goal.returns-in-Err-clause-answer
returns-in-Err-clause-answer g c = λ volume m r.
    let old = c.args.core.now in
    let known = knows old (accepted old.filer) c.requires.size volume m r in
    c.in-Err.ensures.sound _ _ m.spaces known

pub returns-in-Ok-Ok-bounds-clause-answer : goal.returns-in-Ok-Ok-bounds-clause-answer
returns-in-Ok-Ok-bounds-clause-answer g c = λ volume m r.
    let old = c.args.core.now in
    let r1 = asked_runs old (accepted old.filer) c.requires.size c.shown.new.core volume m c.shown.ensures.asked r in
    let seen = c.shown.new.core in
    let size = size_kept old seen (asked_makes old seen c.shown.ensures.asked) c.shown.ensures.asked.reaches.layout c.requires.size in
    let next = knows seen (accepted seen.filer) size volume m r1 in
    window_found m.spaces c.args.space c.in-Ok-Ok.field-0 c.in-Ok-Ok.shows c.in-Ok-Ok.field-0-is (c.in-Ok-Ok.ensures.answer _ _ m.spaces (knows old (accepted old.filer) c.requires.size volume m r)) c.in-Ok-Ok-bounds.field-0 (c.in-Ok-Ok-bounds.ensures.answer _ _ m.spaces next) c.in-Ok-Ok-bounds.first c.in-Ok-Ok-bounds.pages c.in-Ok-Ok-bounds.field-0-is

pub returns-in-Ok-Err-bounds-clause-answer : goal.returns-in-Ok-Err-bounds-clause-answer
returns-in-Ok-Err-bounds-clause-answer g c = λ volume m r.
    let old = c.args.core.now in
    let r1 = asked_runs old (accepted old.filer) c.requires.size c.shown.new.core volume m c.shown.ensures.asked r in
    let seen = c.shown.new.core in
    let size = size_kept old seen (asked_makes old seen c.shown.ensures.asked) c.shown.ensures.asked.reaches.layout c.requires.size in
    let next = knows seen (accepted seen.filer) size volume m r1 in
    absurd (window_lost m.spaces c.args.space c.in-Ok-Ok.field-0 c.in-Ok-Ok.shows c.in-Ok-Ok.field-0-is (c.in-Ok-Ok.ensures.answer _ _ m.spaces (knows old (accepted old.filer) c.requires.size volume m r)) c.in-Ok-Err-bounds.field-0 (c.in-Ok-Err-bounds.ensures.answer _ _ m.spaces next) c.in-Ok-Err-bounds.word c.in-Ok-Err-bounds.field-0-is)

pub returns-in-Err-bounds-clause-answer : goal.returns-in-Err-bounds-clause-answer
returns-in-Err-bounds-clause-answer g c = λ volume m r.
    let old = c.args.core.now in
    let r1 = asked_runs old (accepted old.filer) c.requires.size c.shown.new.core volume m c.shown.ensures.asked r in
    let seen = c.shown.new.core in
    let size = size_kept old seen (asked_makes old seen c.shown.ensures.asked) c.shown.ensures.asked.reaches.layout c.requires.size in
    let next = knows seen (accepted seen.filer) size volume m r1 in
    c.in-Err-bounds.ensures.sound _ _ m.spaces next

pub returns-in-Ok-Ok-bounds-clause-looks : goal.returns-in-Ok-Ok-bounds-clause-looks
returns-in-Ok-Ok-bounds-clause-looks g c = looks_asked_then c.requires.size (looks_asked c.requires.size c.shown.ensures.asked c.shown.ensures.sees) c.bounds.ensures.asked c.bounds.ensures.sees

pub returns-in-Ok-Err-bounds-clause-looks : goal.returns-in-Ok-Err-bounds-clause-looks
returns-in-Ok-Err-bounds-clause-looks g c = looks_asked_then c.requires.size (looks_asked c.requires.size c.shown.ensures.asked c.shown.ensures.sees) c.bounds.ensures.asked c.bounds.ensures.sees

pub returns-in-Err-bounds-clause-looks : goal.returns-in-Err-bounds-clause-looks
returns-in-Err-bounds-clause-looks g c = looks_asked_then c.requires.size (looks_asked c.requires.size c.shown.ensures.asked c.shown.ensures.sees) c.bounds.ensures.asked c.bounds.ensures.sees

-- ---- What the tables say.

pub returns-in-Ok-Ok-bounds-clause-read : goal.returns-in-Ok-Ok-bounds-clause-read
returns-in-Ok-Ok-bounds-clause-read g c = given_so (TablesSay (state c.args.core.now) (λ b. IsShownAt b c.args.space)) c.in-Ok-Ok.shows c.in-Ok-Ok.field-0 c.in-Ok-Ok.field-0-is c.in-Ok-Ok.ensures.read

pub returns-in-Ok-Ok-bounds-clause-range : goal.returns-in-Ok-Ok-bounds-clause-range
returns-in-Ok-Ok-bounds-clause-range g c =
    let seen = state c.shown.new.core in
    let run : ℕ × ℕ = (c.in-Ok-Ok-bounds.first, c.in-Ok-Ok-bounds.pages) in
    let later = given_so (TablesSay seen (λ b. IsRunAt b c.args.space)) run c.in-Ok-Ok-bounds.field-0 c.in-Ok-Ok-bounds.field-0-is c.in-Ok-Ok-bounds.ensures.read in
    λ b revealed. later b (c.shown.ensures.asked.reaches.revealed b revealed)

-- ---- The tables are revealed.

pub returns-in-Ok-Err-clause-seen : goal.returns-in-Ok-Err-clause-seen
returns-in-Ok-Err-clause-seen g c = λ ss s. (shown_refused ss c.args.space c.in-Ok-Err.field-0 c.in-Ok-Err.word c.in-Ok-Err.field-0-is (c.in-Ok-Err.ensures.seen ss s), tt)

pub returns-in-Ok-Ok-bounds-clause-seen : goal.returns-in-Ok-Ok-bounds-clause-seen
returns-in-Ok-Ok-bounds-clause-seen g c = λ ss s.
    window_found ss c.args.space c.in-Ok-Ok.field-0 c.in-Ok-Ok.shows c.in-Ok-Ok.field-0-is (c.in-Ok-Ok.ensures.seen ss s) c.in-Ok-Ok-bounds.field-0 (c.in-Ok-Ok-bounds.ensures.seen ss (c.shown.ensures.sees ss s)) c.in-Ok-Ok-bounds.first c.in-Ok-Ok-bounds.pages c.in-Ok-Ok-bounds.field-0-is

pub returns-in-Ok-Err-bounds-clause-seen : goal.returns-in-Ok-Err-bounds-clause-seen
returns-in-Ok-Err-bounds-clause-seen g c = λ ss s.
    absurd (window_lost ss c.args.space c.in-Ok-Ok.field-0 c.in-Ok-Ok.shows c.in-Ok-Ok.field-0-is (c.in-Ok-Ok.ensures.seen ss s) c.in-Ok-Err-bounds.field-0 (c.in-Ok-Err-bounds.ensures.seen ss (c.shown.ensures.sees ss s)) c.in-Ok-Err-bounds.word c.in-Ok-Err-bounds.field-0-is)

-- ---- Why it failed.

pub returns-in-Err-clause-fails : goal.returns-in-Err-clause-fails
returns-in-Err-clause-fails g c = halts_reached c.requires.size c.shown.ensures.asked.reaches.goes.makes (Err c.in-Err.halt) c.in-Err.ensures.cause c.in-Err.ensures.right

pub returns-in-Err-bounds-clause-fails : goal.returns-in-Err-bounds-clause-fails
returns-in-Err-bounds-clause-fails g c =
    let looks = looks_asked c.requires.size c.shown.ensures.asked c.shown.ensures.sees in
    let fails = halts_at (looks_fits looks c.requires.size) c.bounds.ensures.asked.reaches.goes.makes c.in-Err-bounds.halt c.in-Err-bounds.ensures.cause c.in-Err-bounds.ensures.right in
    halts_after looks fails (slot_halt (state c.args.core.now) (state c.shown.new.core) (accepted c.args.core.now.filer) c.args.space c.shown.ensures.asked.reaches (state c.bounds.new.core) c.in-Err-bounds.halt c.in-Err-bounds.ensures.cause)
