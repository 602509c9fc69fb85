use Rattle.std.proofs.Common.{[], ◌∙◌, false, refl, true}
use Rattle.labelled_disk.specs.File.{size}
use Rattle.label_calls.specs.declared.page.Mark.TheVariants.{Immutable, Permanent}
use Rattle.session_words.specs.Parts.{shapes_of}
use Rattle.session_words.specs.PlaceLaws.{with_shape}
use Rattle.volume_pair.specs.Copied.{shape_with}
use Rattle.volume_pair.proofs.CopyLemmas.{written_fits}
use Rattle.volume_pair.proofs.CrashStateLemmas.{same_then}
use Rattle.volume_pair.proofs.SealLemmas.{immutable_sealed, marked_first, none_sealed, permanent_sealed, synced_copying}
use Rattle.volume_pair.proofs.StepLemmas.{copied_here, immutable_made, permanent_made, swapped_copying}
use Rattle.filer_kernel.specs.View.{view_of}
use Rattle.label_calls.specs.SyncedLaws.{around_after, quiet_synced, synced_then, syncs_around}
use Rattle.volume_pair.proofs.AroundLemmas.{marked_around, there_still}
use Rattle.volume_pair.proofs.SideLemmas.{why_after, why_of}
use Rattle.volume_pair.proofs.WriteLemmas.{mark_written, swaps_for, written_then}
use Rattle.volume_pair.proofs.copying.seal.Goals as goal

pub make_immutable-requires-clause-size : goal.make_immutable-requires-clause-size
make_immutable-requires-clause-size g c = written_fits (swaps_for c.args.id (view_of c.args.to.now) (view_of c.sync_disk.new.filer) c.sync_disk.ensures.swaps c.sync_disk.ensures.stays.layout) c.requires.size

pub make_permanent-requires-clause-size : goal.make_permanent-requires-clause-size
make_permanent-requires-clause-size g c =
    written_fits (written_then (swaps_for c.args.id (view_of c.args.to.now) (view_of c.sync_disk.new.filer) c.sync_disk.ensures.swaps c.sync_disk.ensures.stays.layout) (mark_written c.args.id Immutable (view_of c.sync_disk.new.filer) (view_of c.make_immutable.new.filer) c.make_immutable.ensures.makes c.make_immutable.ensures.labels.own c.make_immutable.ensures.stays.layout)) c.requires.size

pub returns-in-Err-clause-writes : goal.returns-in-Err-clause-writes
returns-in-Err-clause-writes g c = swaps_for c.args.id (view_of c.args.to.now) (view_of c.sync_disk.new.filer) c.sync_disk.ensures.swaps c.sync_disk.ensures.stays.layout

pub returns-in-Err-make_immutable-clause-writes : goal.returns-in-Err-make_immutable-clause-writes
returns-in-Err-make_immutable-clause-writes g c =
    written_then (swaps_for c.args.id (view_of c.args.to.now) (view_of c.sync_disk.new.filer) c.sync_disk.ensures.swaps c.sync_disk.ensures.stays.layout) (mark_written c.args.id Immutable (view_of c.sync_disk.new.filer) (view_of c.make_immutable.new.filer) c.make_immutable.ensures.makes c.make_immutable.ensures.labels.own c.make_immutable.ensures.stays.layout)

pub returns-in-Err-make_immutable-clause-why : goal.returns-in-Err-make_immutable-clause-why
returns-in-Err-make_immutable-clause-why g c = why_after c.sync_disk.ensures.swaps.makes.went.faults (why_of c.in-Err-make_immutable.ensures.fails)

pub returns-in-Err-make_permanent-clause-writes : goal.returns-in-Err-make_permanent-clause-writes
returns-in-Err-make_permanent-clause-writes g c =
    written_then (written_then (swaps_for c.args.id (view_of c.args.to.now) (view_of c.sync_disk.new.filer) c.sync_disk.ensures.swaps c.sync_disk.ensures.stays.layout) (mark_written c.args.id Immutable (view_of c.sync_disk.new.filer) (view_of c.make_immutable.new.filer) c.make_immutable.ensures.makes c.make_immutable.ensures.labels.own c.make_immutable.ensures.stays.layout))
    (mark_written c.args.id Permanent (view_of c.make_immutable.new.filer) (view_of c.make_permanent.new.filer) c.make_permanent.ensures.makes c.make_permanent.ensures.labels.own c.make_permanent.ensures.stays.layout)

pub returns-in-Err-make_permanent-clause-why : goal.returns-in-Err-make_permanent-clause-why
returns-in-Err-make_permanent-clause-why g c =
    why_after (written_then (swaps_for c.args.id (view_of c.args.to.now) (view_of c.sync_disk.new.filer) c.sync_disk.ensures.swaps c.sync_disk.ensures.stays.layout) (mark_written c.args.id Immutable (view_of c.sync_disk.new.filer) (view_of c.make_immutable.new.filer) c.make_immutable.ensures.makes c.make_immutable.ensures.labels.own c.make_immutable.ensures.stays.layout)).makes.went.faults (why_of c.in-Err-make_permanent.ensures.fails)

pub returns-in-Ok-sync_disk-clause-writes : goal.returns-in-Ok-sync_disk-clause-writes
returns-in-Ok-sync_disk-clause-writes g c =
    written_then (written_then (written_then (swaps_for c.args.id (view_of c.args.to.now) (view_of c.sync_disk.new.filer) c.sync_disk.ensures.swaps c.sync_disk.ensures.stays.layout) (mark_written c.args.id Immutable (view_of c.sync_disk.new.filer) (view_of c.make_immutable.new.filer) c.make_immutable.ensures.makes c.make_immutable.ensures.labels.own c.make_immutable.ensures.stays.layout))
    (mark_written c.args.id Permanent (view_of c.make_immutable.new.filer) (view_of c.make_permanent.new.filer) c.make_permanent.ensures.makes c.make_permanent.ensures.labels.own c.make_permanent.ensures.stays.layout)) (swaps_for c.args.id (view_of c.make_permanent.new.filer) (view_of c.sync_disk-2.new.filer) c.sync_disk-2.ensures.swaps c.sync_disk-2.ensures.stays.layout)

pub returns-in-Err-sync_disk-clause-writes : goal.returns-in-Err-sync_disk-clause-writes
returns-in-Err-sync_disk-clause-writes g c =
    written_then (written_then (written_then (swaps_for c.args.id (view_of c.args.to.now) (view_of c.sync_disk.new.filer) c.sync_disk.ensures.swaps c.sync_disk.ensures.stays.layout) (mark_written c.args.id Immutable (view_of c.sync_disk.new.filer) (view_of c.make_immutable.new.filer) c.make_immutable.ensures.makes c.make_immutable.ensures.labels.own c.make_immutable.ensures.stays.layout))
    (mark_written c.args.id Permanent (view_of c.make_immutable.new.filer) (view_of c.make_permanent.new.filer) c.make_permanent.ensures.makes c.make_permanent.ensures.labels.own c.make_permanent.ensures.stays.layout)) (swaps_for c.args.id (view_of c.make_permanent.new.filer) (view_of c.sync_disk-2.new.filer) c.sync_disk-2.ensures.swaps c.sync_disk-2.ensures.stays.layout)

pub returns-in-Err-sync_disk-clause-why : goal.returns-in-Err-sync_disk-clause-why
returns-in-Err-sync_disk-clause-why g c =
    why_after (written_then (written_then (swaps_for c.args.id (view_of c.args.to.now) (view_of c.sync_disk.new.filer) c.sync_disk.ensures.swaps c.sync_disk.ensures.stays.layout) (mark_written c.args.id Immutable (view_of c.sync_disk.new.filer) (view_of c.make_immutable.new.filer) c.make_immutable.ensures.makes c.make_immutable.ensures.labels.own c.make_immutable.ensures.stays.layout))
    (mark_written c.args.id Permanent (view_of c.make_immutable.new.filer) (view_of c.make_permanent.new.filer) c.make_permanent.ensures.makes c.make_permanent.ensures.labels.own c.make_permanent.ensures.stays.layout)).makes.went.faults c.in-Err-sync_disk.ensures.why

-- ---- The copy, from call to call.

pub returns-in-Err-clause-seals : goal.returns-in-Err-clause-seals
returns-in-Err-clause-seals g c = λ gs y f same copying. c.in-Err.ensures.fault

pub returns-in-Err-make_immutable-clause-seals : goal.returns-in-Err-make_immutable-clause-seals
returns-in-Err-make_immutable-clause-seals g c = λ gs y f same copying.
    let one = swapped_copying (view_of c.args.to.now) (view_of c.sync_disk.new.filer) gs y f false false (size f) copying c.sync_disk.ensures.same c.sync_disk.ensures.stays in
    (c.in-Err-make_immutable.ensures.revealed 0 one.memory (with_shape (shapes_of gs) f.id (shape_with f false false)) [] (shape_with f false false) one.books (copied_here gs f c.args.id false false same)).0

pub returns-in-Err-make_permanent-clause-seals : goal.returns-in-Err-make_permanent-clause-seals
returns-in-Err-make_permanent-clause-seals g c = λ gs y f same copying.
    let one = swapped_copying (view_of c.args.to.now) (view_of c.sync_disk.new.filer) gs y f false false (size f) copying c.sync_disk.ensures.same c.sync_disk.ensures.stays in
    let made = c.in-Ok-make_immutable.ensures.revealed 0 one.memory (with_shape (shapes_of gs) f.id (shape_with f false false)) [] (shape_with f false false) one.books (copied_here gs f c.args.id false false same) in
    let two = immutable_made (view_of c.sync_disk.new.filer) (view_of c.make_immutable.new.filer) gs y f c.args.id same c.make_immutable.ensures.stays.layout one (made refl) in
    (c.in-Err-make_permanent.ensures.revealed 0 two.memory (with_shape (shapes_of gs) f.id (shape_with f false true)) [] (shape_with f false true) two.books (copied_here gs f c.args.id false true same)).0

pub returns-in-Ok-sync_disk-clause-seals : goal.returns-in-Ok-sync_disk-clause-seals
returns-in-Ok-sync_disk-clause-seals g c = λ gs y f same copying.
    let one = swapped_copying (view_of c.args.to.now) (view_of c.sync_disk.new.filer) gs y f false false (size f) copying c.sync_disk.ensures.same c.sync_disk.ensures.stays in
    let made = c.in-Ok-make_immutable.ensures.revealed 0 one.memory (with_shape (shapes_of gs) f.id (shape_with f false false)) [] (shape_with f false false) one.books (copied_here gs f c.args.id false false same) in
    let two = immutable_made (view_of c.sync_disk.new.filer) (view_of c.make_immutable.new.filer) gs y f c.args.id same c.make_immutable.ensures.stays.layout one (made refl) in
    let marked = c.in-Ok-make_permanent.ensures.revealed 0 two.memory (with_shape (shapes_of gs) f.id (shape_with f false true)) [] (shape_with f false true) two.books (copied_here gs f c.args.id false true same) in
    let three = permanent_made (view_of c.make_immutable.new.filer) (view_of c.make_permanent.new.filer) gs y f c.args.id same c.make_permanent.ensures.stays.layout two (marked refl) in
    swapped_copying (view_of c.make_permanent.new.filer) (view_of c.sync_disk-2.new.filer) gs y f true true (size f) three c.sync_disk-2.ensures.same c.sync_disk-2.ensures.stays

pub returns-in-Err-sync_disk-clause-seals : goal.returns-in-Err-sync_disk-clause-seals
returns-in-Err-sync_disk-clause-seals g c = λ gs y f same copying. c.in-Err-sync_disk.ensures.fault

pub returns-in-Ok-sync_disk-clause-synced : goal.returns-in-Ok-sync_disk-clause-synced
returns-in-Ok-sync_disk-clause-synced g c = c.in-Ok-sync_disk.ensures.synced

-- ---- In each crash state.

pub returns-in-Err-clause-crash_states : goal.returns-in-Err-clause-crash_states
returns-in-Err-clause-crash_states g c = λ gs y d f same copying revealed right none. none_sealed (view_of c.args.to.now) gs y f c.args.id same copying d revealed right none (view_of c.sync_disk.new.filer) c.sync_disk.ensures.same c.sync_disk.ensures.stays

pub returns-in-Err-make_immutable-clause-crash_states : goal.returns-in-Err-make_immutable-clause-crash_states
returns-in-Err-make_immutable-clause-crash_states g c = λ gs y d f same copying revealed right none.
    let one = synced_copying (view_of c.args.to.now) gs y f c.args.id same copying d revealed right none (view_of c.sync_disk.new.filer) c.sync_disk.ensures.same c.sync_disk.ensures.stays in
    let broken = (c.in-Err-make_immutable.ensures.revealed 0 one.memory (with_shape (shapes_of gs) f.id (shape_with f false false)) [] (shape_with f false false) one.books (copied_here gs f c.args.id false false same)).1 in
    immutable_sealed (view_of c.args.to.now) gs y f c.args.id same copying d revealed right none (view_of c.sync_disk.new.filer) c.sync_disk.ensures.same c.sync_disk.ensures.stays (view_of c.make_immutable.new.filer) broken

pub returns-in-Err-make_permanent-clause-crash_states : goal.returns-in-Err-make_permanent-clause-crash_states
returns-in-Err-make_permanent-clause-crash_states g c = λ gs y d f same copying revealed right none.
    let one = synced_copying (view_of c.args.to.now) gs y f c.args.id same copying d revealed right none (view_of c.sync_disk.new.filer) c.sync_disk.ensures.same c.sync_disk.ensures.stays in
    let made = c.in-Ok-make_immutable.ensures.revealed 0 one.memory (with_shape (shapes_of gs) f.id (shape_with f false false)) [] (shape_with f false false) one.books (copied_here gs f c.args.id false false same) in
    let two = immutable_made (view_of c.sync_disk.new.filer) (view_of c.make_immutable.new.filer) gs y f c.args.id same c.make_immutable.ensures.stays.layout one (made refl) in
    let broken = (c.in-Err-make_permanent.ensures.revealed 0 two.memory (with_shape (shapes_of gs) f.id (shape_with f false true)) [] (shape_with f false true) two.books (copied_here gs f c.args.id false true same)).1 in
    permanent_sealed (view_of c.args.to.now) gs y f c.args.id same copying d revealed right none (view_of c.sync_disk.new.filer) c.sync_disk.ensures.same c.sync_disk.ensures.stays (view_of c.make_immutable.new.filer) (marked_first (made refl)) (c.make_immutable.ensures.stays.layout ∙ c.sync_disk.ensures.stays.layout) two (view_of c.make_permanent.new.filer) broken

pub returns-in-Ok-sync_disk-clause-crash_states : goal.returns-in-Ok-sync_disk-clause-crash_states
returns-in-Ok-sync_disk-clause-crash_states g c = λ gs y d f same copying revealed right none.
    let one = synced_copying (view_of c.args.to.now) gs y f c.args.id same copying d revealed right none (view_of c.sync_disk.new.filer) c.sync_disk.ensures.same c.sync_disk.ensures.stays in
    let made = c.in-Ok-make_immutable.ensures.revealed 0 one.memory (with_shape (shapes_of gs) f.id (shape_with f false false)) [] (shape_with f false false) one.books (copied_here gs f c.args.id false false same) in
    let two = immutable_made (view_of c.sync_disk.new.filer) (view_of c.make_immutable.new.filer) gs y f c.args.id same c.make_immutable.ensures.stays.layout one (made refl) in
    let marked = c.in-Ok-make_permanent.ensures.revealed 0 two.memory (with_shape (shapes_of gs) f.id (shape_with f false true)) [] (shape_with f false true) two.books (copied_here gs f c.args.id false true same) in
    same_then (permanent_sealed (view_of c.args.to.now) gs y f c.args.id same copying d revealed right none (view_of c.sync_disk.new.filer) c.sync_disk.ensures.same c.sync_disk.ensures.stays (view_of c.make_immutable.new.filer) (marked_first (made refl)) (c.make_immutable.ensures.stays.layout ∙ c.sync_disk.ensures.stays.layout) two (view_of c.make_permanent.new.filer) (marked_first (marked refl))) c.sync_disk-2.ensures.same

pub returns-in-Err-sync_disk-clause-crash_states : goal.returns-in-Err-sync_disk-clause-crash_states
returns-in-Err-sync_disk-clause-crash_states g c = λ gs y d f same copying revealed right none.
    let one = synced_copying (view_of c.args.to.now) gs y f c.args.id same copying d revealed right none (view_of c.sync_disk.new.filer) c.sync_disk.ensures.same c.sync_disk.ensures.stays in
    let made = c.in-Ok-make_immutable.ensures.revealed 0 one.memory (with_shape (shapes_of gs) f.id (shape_with f false false)) [] (shape_with f false false) one.books (copied_here gs f c.args.id false false same) in
    let two = immutable_made (view_of c.sync_disk.new.filer) (view_of c.make_immutable.new.filer) gs y f c.args.id same c.make_immutable.ensures.stays.layout one (made refl) in
    let marked = c.in-Ok-make_permanent.ensures.revealed 0 two.memory (with_shape (shapes_of gs) f.id (shape_with f false true)) [] (shape_with f false true) two.books (copied_here gs f c.args.id false true same) in
    same_then (permanent_sealed (view_of c.args.to.now) gs y f c.args.id same copying d revealed right none (view_of c.sync_disk.new.filer) c.sync_disk.ensures.same c.sync_disk.ensures.stays (view_of c.make_immutable.new.filer) (marked_first (made refl)) (c.make_immutable.ensures.stays.layout ∙ c.sync_disk.ensures.stays.layout) two (view_of c.make_permanent.new.filer) (marked_first (marked refl))) c.sync_disk-2.ensures.same

-- ---- The syncs around the marks.

pub returns-in-Err-clause-around : goal.returns-in-Err-clause-around
returns-in-Err-clause-around g c = syncs_around (quiet_synced true c.sync_disk.ensures.swaps.makes)

pub returns-in-Err-make_immutable-clause-around : goal.returns-in-Err-make_immutable-clause-around
returns-in-Err-make_immutable-clause-around g c = around_after (quiet_synced false c.sync_disk.ensures.swaps.makes) (marked_around Immutable c.make_immutable.ensures.makes c.in-Err-make_immutable.ensures.labels.around)

pub returns-in-Err-make_permanent-clause-around : goal.returns-in-Err-make_permanent-clause-around
returns-in-Err-make_permanent-clause-around g c = around_after (synced_then (quiet_synced false c.sync_disk.ensures.swaps.makes) (marked_around Immutable c.make_immutable.ensures.makes c.in-Ok-make_immutable.ensures.labels.around)) (marked_around Permanent c.make_permanent.ensures.makes c.in-Err-make_permanent.ensures.labels.around)

pub returns-in-Ok-sync_disk-clause-around : goal.returns-in-Ok-sync_disk-clause-around
returns-in-Ok-sync_disk-clause-around g c =
    around_after (synced_then (synced_then (quiet_synced false c.sync_disk.ensures.swaps.makes) (marked_around Immutable c.make_immutable.ensures.makes c.in-Ok-make_immutable.ensures.labels.around)) (marked_around Permanent c.make_permanent.ensures.makes c.in-Ok-make_permanent.ensures.labels.around))
    (quiet_synced false c.sync_disk-2.ensures.swaps.makes)

pub returns-in-Err-sync_disk-clause-around : goal.returns-in-Err-sync_disk-clause-around
returns-in-Err-sync_disk-clause-around g c =
    around_after (synced_then (synced_then (quiet_synced false c.sync_disk.ensures.swaps.makes) (marked_around Immutable c.make_immutable.ensures.makes c.in-Ok-make_immutable.ensures.labels.around)) (marked_around Permanent c.make_permanent.ensures.makes c.in-Ok-make_permanent.ensures.labels.around))
    (quiet_synced true c.sync_disk-2.ensures.swaps.makes)

pub returns-in-Ok-sync_disk-clause-pages_first : goal.returns-in-Ok-sync_disk-clause-pages_first
returns-in-Ok-sync_disk-clause-pages_first g c =
    let marks =
    written_then (mark_written c.args.id Immutable (view_of c.sync_disk.new.filer) (view_of c.make_immutable.new.filer) c.make_immutable.ensures.makes c.make_immutable.ensures.labels.own c.make_immutable.ensures.stays.layout)
    (mark_written c.args.id Permanent (view_of c.make_immutable.new.filer) (view_of c.make_permanent.new.filer) c.make_permanent.ensures.makes c.make_permanent.ensures.labels.own c.make_permanent.ensures.stays.layout) in
    let later = written_then marks (swaps_for c.args.id (view_of c.make_permanent.new.filer) (view_of c.sync_disk-2.new.filer) c.sync_disk-2.ensures.swaps c.sync_disk-2.ensures.stays.layout) in
    there_still (view_of c.args.to.now).disk (view_of c.sync_disk.new.filer).disk (view_of c.sync_disk-2.new.filer).disk c.sync_disk.ensures.swaps.makes.went.syncs later.makes.went.syncs c.in-Ok.ensures.there
