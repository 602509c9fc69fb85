use Rattle.std.proofs.Common.{refl}
use Rattle.filer_kernel.specs.View.{accepted}
use Rattle.fault_core.specs.Core.{state}
use Rattle.fault_core.proofs.ReachLemmas.{reaches_itself}
use Rattle.space_calls.proofs.BareLemmas.{none_windowed}
use Rattle.space_calls.proofs.HaltLemmas.{first_sight, search_sight}
use Rattle.space_calls.proofs.LookLemmas.{looks_asked_then, looks_fits}
use Rattle.space_calls.proofs.OutcomeLemmas.{given_or_not, halts_reached, halts_wider, if_halts_after}
use Rattle.space_calls.proofs.RunLemmas.{knows}
use Rattle.space_calls.proofs.naming.window_on.Goals as goal

pub returns-in-Ok-true-clause-answer : goal.returns-in-Ok-true-clause-answer
returns-in-Ok-true-clause-answer g c = λ volume m r. none_windowed _ m.spaces (c.in-Ok-true.ensures.answer volume m r c.in-Ok-true.field-0-test)

pub returns-clause-answer : goal.returns-clause-answer
returns-clause-answer g c =
    let u = c.shows_nothing.new.core in
    let size = looks_fits c.shows_nothing.ensures.looks c.requires.size in
    λ volume m r.
    let known = knows u (accepted u.filer) size volume m (c.shows_nothing.ensures.looks.runs volume m r) in
    given_or_not _ _ c.shows_file.result (c.shows_file.ensures.answer _ _ m.spaces known) (c.shows_file.ensures.sound _ _ m.spaces known)

pub returns-clause-looks : goal.returns-clause-looks
returns-clause-looks g c = looks_asked_then c.requires.size c.shows_nothing.ensures.looks c.shows_file.ensures.asked c.shows_file.ensures.sees

-- ---- Why it failed.

pub returns-in-Err-clause-fails : goal.returns-in-Err-clause-fails
returns-in-Err-clause-fails g c =
    let v = state c.args.core.now in
    let count = c.args.core.now.intervals in
    halts_wider c.in-Err.ensures.fails (first_sight v v (accepted c.args.core.now.filer) (reaches_itself v) count count refl (state c.shows_nothing.new.core) c.in-Err.halt c.in-Err.ensures.fails.cause)

pub returns-clause-fails : goal.returns-clause-fails
returns-clause-fails g c =
    let old = c.args.core.now in
    let u = c.shows_nothing.new.core in
    let w = state c.shows_file.new.core in
    let looks = c.shows_nothing.ensures.looks in
    let fails = halts_reached (looks_fits looks c.requires.size) c.shows_file.ensures.asked.reaches.goes.makes c.shows_file.result c.shows_file.ensures.cause c.shows_file.ensures.right in
    if_halts_after looks c.shows_file.result fails (search_sight (state old) (state u) (accepted old.filer) looks.reaches old.intervals u.intervals looks.intervals w)
