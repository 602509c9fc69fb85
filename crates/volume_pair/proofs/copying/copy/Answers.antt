use Rattle.std.proofs.Common.{◌≡◌, ◌∙◌, None, true, false, refl, subst, sym, rules}
use Rattle.filer_kernel.specs.View.{view_of}
use Rattle.label_calls.specs.SyncedLaws.{quiet_synced, syncs_around}
use Rattle.volume_pair.specs.Copying.{IsOriginal}
use Rattle.volume_pair.specs.Costs.{making, size_in}
use Rattle.volume_pair.proofs.AroundLemmas.{looked_first}
use Rattle.volume_pair.proofs.CostLemmas.{copy_spends, spends_little, stays_little}
use Rattle.volume_pair.proofs.CopyStateLemmas.{asked_states, asked_then, copy_states, untouched_states}
use Rattle.volume_pair.proofs.CopyLemmas.{judged_refused, keeps_numbers, paired_then, replies_done, replies_refused, room_refused}
use Rattle.volume_pair.proofs.DoneLemmas.{none_there}
use Rattle.volume_pair.proofs.ReplyLemmas.{refused_not_done}
use Rattle.volume_pair.proofs.SideLemmas.{fits_still, looked_nothing, looked_then}
use Rattle.volume_pair.proofs.WriteLemmas.{copied_after, looked_written, written_then}
use Rattle.volume_pair.proofs.copying.copy.Goals as goal

-- ---- The first volume has no such file, or one that may still change.

pub returns-in-Ok-Err-clause-replies : goal.returns-in-Ok-Err-clause-replies
returns-in-Ok-Err-clause-replies g c = λ p h.
    let first = c.in-Ok-Err.ensures.known p.from h.first h.from_is in
    replies_refused p c.args.id _ _ _ c.args.volume.now (judged_refused p c.args.id _ (subst (IsOriginal p.from c.args.id) c.in-Ok-Err.field-0-is first.1)) (paired_then c.args.volume.now p _ _ h first.0 h.to_is)

pub returns-in-Ok-Err-clause-to_writes : goal.returns-in-Ok-Err-clause-to_writes
returns-in-Ok-Err-clause-to_writes g c = looked_written c.args.id (looked_nothing (view_of c.args.to.now))

pub returns-in-Ok-Err-clause-volume : goal.returns-in-Ok-Err-clause-volume
returns-in-Ok-Err-clause-volume g c = keeps_numbers c.args.volume.now

pub returns-in-Err-clause-to_writes : goal.returns-in-Err-clause-to_writes
returns-in-Err-clause-to_writes g c = looked_written c.args.id (looked_nothing (view_of c.args.to.now))

pub returns-in-Err-clause-volume : goal.returns-in-Err-clause-volume
returns-in-Err-clause-volume g c = keeps_numbers c.args.volume.now

-- ---- The second takes no such file.

pub returns-in-Err-refusal-clause-to_writes : goal.returns-in-Err-refusal-clause-to_writes
returns-in-Err-refusal-clause-to_writes g c = looked_written c.args.id c.refusal.ensures.looks

pub returns-in-Err-refusal-clause-volume : goal.returns-in-Err-refusal-clause-volume
returns-in-Err-refusal-clause-volume g c = keeps_numbers c.args.volume.now

pub returns-in-Some-clause-replies : goal.returns-in-Some-clause-replies
returns-in-Some-clause-replies g c = λ p h.
    let first = c.in-Ok-Ok.ensures.known p.from h.first h.from_is in
    let original = subst (IsOriginal p.from c.args.id) c.in-Ok-Ok.field-0-is first.1 in
    let second = c.in-Ok.ensures.known p.to h.second h.to_is in
    replies_refused p c.args.id _ _ _ c.args.volume.now (room_refused p c.args.id c.in-Ok-Ok.file original c.args.volume.now h ∙ sym second.1 ∙ c.in-Some.is) (paired_then c.args.volume.now p _ _ h first.0 second.0)

pub returns-in-Some-clause-to_writes : goal.returns-in-Some-clause-to_writes
returns-in-Some-clause-to_writes g c = looked_written c.args.id c.refusal.ensures.looks

pub returns-in-Some-clause-volume : goal.returns-in-Some-clause-volume
returns-in-Some-clause-volume g c = keeps_numbers c.args.volume.now

-- ---- A copy is made.

pub make_copy-requires-clause-sizes : goal.make_copy-requires-clause-sizes
make_copy-requires-clause-sizes g c = (fits_still c.original.ensures.looks c.requires.from_size, fits_still c.refusal.ensures.looks c.requires.to_size)

pub returns-in-Ok-make_copy-clause-replies : goal.returns-in-Ok-make_copy-clause-replies
returns-in-Ok-make_copy-clause-replies g c = λ p h.
    let first = c.in-Ok-Ok.ensures.known p.from h.first h.from_is in
    let original = subst (IsOriginal p.from c.args.id) c.in-Ok-Ok.field-0-is first.1 in
    let second = c.in-Ok.ensures.known p.to h.second h.to_is in
    let none : c.in-Ok.refused ≡ None = search rules in
    let taken = sym second.1 ∙ none in
    replies_done p c.args.id _ _ c.make_copy.new.volume (room_refused p c.args.id c.in-Ok-Ok.file original c.args.volume.now h ∙ taken)
    (c.in-Ok-make_copy.ensures.copies p (paired_then c.args.volume.now p _ _ h first.0 second.0) original (none_there p.to c.args.volume.now c.args.id c.in-Ok-Ok.file.pages taken)).0

pub returns-in-Err-make_copy-clause-replies : goal.returns-in-Err-make_copy-clause-replies
returns-in-Err-make_copy-clause-replies g c = λ p h.
    let first = c.in-Ok-Ok.ensures.known p.from h.first h.from_is in
    let original = subst (IsOriginal p.from c.args.id) c.in-Ok-Ok.field-0-is first.1 in
    let second = c.in-Ok.ensures.known p.to h.second h.to_is in
    let none : c.in-Ok.refused ≡ None = search rules in
    (c.in-Err-make_copy.ensures.copies p (paired_then c.args.volume.now p _ _ h first.0 second.0) original (none_there p.to c.args.volume.now c.args.id c.in-Ok-Ok.file.pages (sym second.1 ∙ none))).0

pub returns-in-Err-clause-replies : goal.returns-in-Err-clause-replies
returns-in-Err-clause-replies g c = λ p h. (c.in-Err.ensures.known p.from h.first h.from_is).1

pub returns-in-Err-refusal-clause-replies : goal.returns-in-Err-refusal-clause-replies
returns-in-Err-refusal-clause-replies g c = λ p h. (c.in-Err-refusal.ensures.known p.to h.second h.to_is).1

pub returns-in-Ok-make_copy-clause-from_looks : goal.returns-in-Ok-make_copy-clause-from_looks
returns-in-Ok-make_copy-clause-from_looks g c = looked_then c.original.ensures.looks c.make_copy.ensures.from_looks

pub returns-in-Ok-make_copy-clause-to_writes : goal.returns-in-Ok-make_copy-clause-to_writes
returns-in-Ok-make_copy-clause-to_writes g c = written_then (looked_written c.args.id c.refusal.ensures.looks) c.make_copy.ensures.to_writes

pub returns-in-Err-make_copy-clause-from_looks : goal.returns-in-Err-make_copy-clause-from_looks
returns-in-Err-make_copy-clause-from_looks g c = looked_then c.original.ensures.looks c.make_copy.ensures.from_looks

pub returns-in-Err-make_copy-clause-to_writes : goal.returns-in-Err-make_copy-clause-to_writes
returns-in-Err-make_copy-clause-to_writes g c = written_then (looked_written c.args.id c.refusal.ensures.looks) c.make_copy.ensures.to_writes

pub returns-in-Err-make_copy-clause-why : goal.returns-in-Err-make_copy-clause-why
returns-in-Err-make_copy-clause-why g c = copied_after _ _ c.original.ensures.looks (looked_written c.args.id c.refusal.ensures.looks) c.in-Err-make_copy.halt c.in-Err-make_copy.ensures.why

-- ---- In each crash state.

pub returns-in-Ok-Err-clause-crash_states : goal.returns-in-Ok-Err-clause-crash_states
returns-in-Ok-Err-clause-crash_states g c = λ p h. untouched_states (view_of c.args.from.now) (view_of c.args.to.now) c.args.volume.now p h _

pub returns-in-Err-clause-crash_states : goal.returns-in-Err-clause-crash_states
returns-in-Err-clause-crash_states g c = λ p h. untouched_states (view_of c.args.from.now) (view_of c.args.to.now) c.args.volume.now p h _

pub returns-in-Err-refusal-clause-crash_states : goal.returns-in-Err-refusal-clause-crash_states
returns-in-Err-refusal-clause-crash_states g c = λ p h. asked_states (view_of c.args.from.now) (view_of c.args.to.now) c.args.volume.now p h (view_of c.refusal.new.to) _ c.refusal.ensures.looks

pub returns-in-Some-clause-crash_states : goal.returns-in-Some-clause-crash_states
returns-in-Some-clause-crash_states g c = λ p h. asked_states (view_of c.args.from.now) (view_of c.args.to.now) c.args.volume.now p h (view_of c.refusal.new.to) _ c.refusal.ensures.looks

pub returns-in-Ok-make_copy-clause-crash_states : goal.returns-in-Ok-make_copy-clause-crash_states
returns-in-Ok-make_copy-clause-crash_states g c = λ p h.
    let first = c.in-Ok-Ok.ensures.known p.from h.first h.from_is in
    let original = subst (IsOriginal p.from c.args.id) c.in-Ok-Ok.field-0-is first.1 in
    let second = c.in-Ok.ensures.known p.to h.second h.to_is in
    let none : c.in-Ok.refused ≡ None = search rules in
    let taken = sym second.1 ∙ none in
    copy_states p c.args.id c.args.volume.now.root _ _ (room_refused p c.args.id c.in-Ok-Ok.file original c.args.volume.now h ∙ taken)
    (asked_then (view_of c.args.from.now) (view_of c.args.to.now) c.args.volume.now p h (view_of c.refusal.new.to) (view_of c.make_copy.new.to) _ c.refusal.ensures.looks
    (c.make_copy.ensures.copies p (paired_then c.args.volume.now p _ _ h first.0 second.0) original (none_there p.to c.args.volume.now c.args.id c.in-Ok-Ok.file.pages taken)).1)

pub returns-in-Err-make_copy-clause-crash_states : goal.returns-in-Err-make_copy-clause-crash_states
returns-in-Err-make_copy-clause-crash_states g c = λ p h.
    let first = c.in-Ok-Ok.ensures.known p.from h.first h.from_is in
    let original = subst (IsOriginal p.from c.args.id) c.in-Ok-Ok.field-0-is first.1 in
    let second = c.in-Ok.ensures.known p.to h.second h.to_is in
    let none : c.in-Ok.refused ≡ None = search rules in
    let taken = sym second.1 ∙ none in
    copy_states p c.args.id c.args.volume.now.root _ _ (room_refused p c.args.id c.in-Ok-Ok.file original c.args.volume.now h ∙ taken)
    (asked_then (view_of c.args.from.now) (view_of c.args.to.now) c.args.volume.now p h (view_of c.refusal.new.to) (view_of c.make_copy.new.to) _ c.refusal.ensures.looks
    (c.make_copy.ensures.copies p (paired_then c.args.volume.now p _ _ h first.0 second.0) original (none_there p.to c.args.volume.now c.args.id c.in-Ok-Ok.file.pages taken)).1)

-- ---- What is answered is on the medium.

pub returns-in-Ok-Err-clause-leaves : goal.returns-in-Ok-Err-clause-leaves
returns-in-Ok-Err-clause-leaves g c = record { on_medium = λ is. absurd (refused_not_done c.in-Ok-Err.why is); looked = λ none. looked_nothing (view_of c.args.to.now) }

pub returns-in-Some-clause-leaves : goal.returns-in-Some-clause-leaves
returns-in-Some-clause-leaves g c = record { on_medium = λ is. absurd (refused_not_done c.in-Some.why is); looked = λ none. c.refusal.ensures.looks }

pub returns-in-Ok-make_copy-clause-leaves : goal.returns-in-Ok-make_copy-clause-leaves
returns-in-Ok-make_copy-clause-leaves g c = record { on_medium = λ is. c.in-Ok-make_copy.ensures.synced; looked = λ other. absurd (other refl) }

-- ---- What it costs.

pub returns-in-Ok-Err-clause-cost : goal.returns-in-Ok-Err-clause-cost
returns-in-Ok-Err-clause-cost g c = λ p h.
    let to = view_of c.args.to.now in
    spends_little (size_in p.from c.args.id) (making to.layout (size_in p.from c.args.id)) (view_of c.args.from.now) to (view_of c.original.new.from) to c.original.ensures.cost (stays_little to.disk.transfers)

pub returns-in-Err-clause-cost : goal.returns-in-Err-clause-cost
returns-in-Err-clause-cost g c = λ p h.
    let to = view_of c.args.to.now in
    spends_little (size_in p.from c.args.id) (making to.layout (size_in p.from c.args.id)) (view_of c.args.from.now) to (view_of c.original.new.from) to c.original.ensures.cost (stays_little to.disk.transfers)

pub returns-in-Err-refusal-clause-cost : goal.returns-in-Err-refusal-clause-cost
returns-in-Err-refusal-clause-cost g c = λ p h.
    let to = view_of c.args.to.now in
    spends_little (size_in p.from c.args.id) (making to.layout (size_in p.from c.args.id)) (view_of c.args.from.now) to (view_of c.original.new.from) (view_of c.refusal.new.to) c.original.ensures.cost c.refusal.ensures.cost

pub returns-in-Some-clause-cost : goal.returns-in-Some-clause-cost
returns-in-Some-clause-cost g c = λ p h.
    let to = view_of c.args.to.now in
    spends_little (size_in p.from c.args.id) (making to.layout (size_in p.from c.args.id)) (view_of c.args.from.now) to (view_of c.original.new.from) (view_of c.refusal.new.to) c.original.ensures.cost c.refusal.ensures.cost

pub returns-in-Ok-make_copy-clause-cost : goal.returns-in-Ok-make_copy-clause-cost
returns-in-Ok-make_copy-clause-cost g c = λ p h.
    let first = c.in-Ok-Ok.ensures.known p.from h.first h.from_is in
    let original = subst (IsOriginal p.from c.args.id) c.in-Ok-Ok.field-0-is first.1 in
    copy_spends p c.args.id c.in-Ok-Ok.file original (view_of c.args.from.now) (view_of c.args.to.now) (view_of c.original.new.from) (view_of c.refusal.new.to) (view_of c.make_copy.new.from) (view_of c.make_copy.new.to) c.refusal.ensures.looks.layout
    c.original.ensures.cost c.refusal.ensures.cost c.make_copy.ensures.from_cost c.make_copy.ensures.to_cost

pub returns-in-Err-make_copy-clause-cost : goal.returns-in-Err-make_copy-clause-cost
returns-in-Err-make_copy-clause-cost g c = λ p h.
    let first = c.in-Ok-Ok.ensures.known p.from h.first h.from_is in
    let original = subst (IsOriginal p.from c.args.id) c.in-Ok-Ok.field-0-is first.1 in
    copy_spends p c.args.id c.in-Ok-Ok.file original (view_of c.args.from.now) (view_of c.args.to.now) (view_of c.original.new.from) (view_of c.refusal.new.to) (view_of c.make_copy.new.from) (view_of c.make_copy.new.to) c.refusal.ensures.looks.layout
    c.original.ensures.cost c.refusal.ensures.cost c.make_copy.ensures.from_cost c.make_copy.ensures.to_cost

-- ---- The syncs around the marks.

pub returns-in-Ok-Err-clause-around : goal.returns-in-Ok-Err-clause-around
returns-in-Ok-Err-clause-around g c = syncs_around (quiet_synced false (looked_nothing (view_of c.args.to.now)).makes)

pub returns-in-Err-clause-around : goal.returns-in-Err-clause-around
returns-in-Err-clause-around g c = syncs_around (quiet_synced true (looked_nothing (view_of c.args.to.now)).makes)

pub returns-in-Err-refusal-clause-around : goal.returns-in-Err-refusal-clause-around
returns-in-Err-refusal-clause-around g c = syncs_around (quiet_synced true c.refusal.ensures.looks.makes)

pub returns-in-Some-clause-around : goal.returns-in-Some-clause-around
returns-in-Some-clause-around g c = syncs_around (quiet_synced false c.refusal.ensures.looks.makes)

pub returns-in-Ok-make_copy-clause-around : goal.returns-in-Ok-make_copy-clause-around
returns-in-Ok-make_copy-clause-around g c = looked_first (view_of c.args.to.now) (view_of c.refusal.new.to) (view_of c.make_copy.new.to) c.refusal.ensures.looks c.make_copy.ensures.to_writes c.in-Ok-make_copy.ensures.around

pub returns-in-Err-make_copy-clause-around : goal.returns-in-Err-make_copy-clause-around
returns-in-Err-make_copy-clause-around g c = looked_first (view_of c.args.to.now) (view_of c.refusal.new.to) (view_of c.make_copy.new.to) c.refusal.ensures.looks c.make_copy.ensures.to_writes c.in-Err-make_copy.ensures.around
