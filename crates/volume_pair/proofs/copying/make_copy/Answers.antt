use Rattle.std.proofs.Common.{[], true, false, ap, subst, sym, ℕ}
use Rattle.file_manager.specs.declared.volume.Volume.{Volume}
use Rattle.session_words.proofs.FoundLemmas.{above_reserved}
use Rattle.filer_kernel.specs.View.{accepted, view_of}
use Rattle.label_calls.specs.SyncedLaws.{around_after, quiet_synced, synced_then, syncs_around}
use Rattle.session_words.specs.Parts.{shapes_of}
use Rattle.volume_pair.specs.Copied.{IsCopying}
use Rattle.volume_pair.proofs.AroundLemmas.{all_around, some_around, written_around}
use Rattle.volume_pair.proofs.CostLemmas.{filled_spends, made_spends, sealed_spends}
use Rattle.volume_pair.proofs.CopyLemmas.{written_fits}
use Rattle.volume_pair.proofs.CopyStateLemmas.{all_states, filled_broken, made_broken}
use Rattle.volume_pair.proofs.DoneLemmas.{begun, copy_done, may_create, same_id}
use Rattle.volume_pair.proofs.SideLemmas.{looked_nothing, why_after, why_of}
use Rattle.volume_pair.proofs.WriteLemmas.{all_written, copied_after, pages_written, some_written, written_then}
use Rattle.volume_pair.proofs.copying.make_copy.Goals as goal

pub returns-in-Err-clause-from_looks : goal.returns-in-Err-clause-from_looks
returns-in-Err-clause-from_looks g c = looked_nothing (view_of c.args.from.now)

pub returns-in-Err-clause-to_writes : goal.returns-in-Err-clause-to_writes
returns-in-Err-clause-to_writes g c = some_written c.args.id _ _ (view_of c.args.to.now) (view_of c.create_as.new.filer) c.requires.of_file c.in-Err.ensures.writes c.create_as.ensures.stays.layout

pub returns-in-Err-clause-why : goal.returns-in-Err-clause-why
returns-in-Err-clause-why g c = why_of c.in-Err.ensures.fails

pub copy_pages-requires-clause-to_size : goal.copy_pages-requires-clause-to_size
copy_pages-requires-clause-to_size g c = written_fits (all_written c.args.id _ _ (view_of c.args.to.now) (view_of c.create_as.new.filer) c.requires.of_file c.in-Ok.ensures.writes c.create_as.ensures.stays.layout) c.requires.sizes.1

pub returns-in-Err-copy_pages-clause-to_writes : goal.returns-in-Err-copy_pages-clause-to_writes
returns-in-Err-copy_pages-clause-to_writes g c = written_then (all_written c.args.id _ _ (view_of c.args.to.now) (view_of c.create_as.new.filer) c.requires.of_file c.in-Ok.ensures.writes c.create_as.ensures.stays.layout) (pages_written c.copy_pages.ensures.to_writes)

pub returns-in-Err-copy_pages-clause-why : goal.returns-in-Err-copy_pages-clause-why
returns-in-Err-copy_pages-clause-why g c = copied_after _ _ (looked_nothing (view_of c.args.from.now)) (all_written c.args.id _ _ (view_of c.args.to.now) (view_of c.create_as.new.filer) c.requires.of_file c.in-Ok.ensures.writes c.create_as.ensures.stays.layout) c.in-Err-copy_pages.halt c.in-Err-copy_pages.ensures.why

pub seal-requires-clause-size : goal.seal-requires-clause-size
seal-requires-clause-size g c = written_fits (written_then (all_written c.args.id _ _ (view_of c.args.to.now) (view_of c.create_as.new.filer) c.requires.of_file c.in-Ok.ensures.writes c.create_as.ensures.stays.layout) (pages_written c.copy_pages.ensures.to_writes)) c.requires.sizes.1

pub returns-in-Ok-seal-clause-to_writes : goal.returns-in-Ok-seal-clause-to_writes
returns-in-Ok-seal-clause-to_writes g c = written_then (written_then (all_written c.args.id _ _ (view_of c.args.to.now) (view_of c.create_as.new.filer) c.requires.of_file c.in-Ok.ensures.writes c.create_as.ensures.stays.layout) (pages_written c.copy_pages.ensures.to_writes)) c.seal.ensures.writes

pub returns-in-Ok-seal-clause-volume : goal.returns-in-Ok-seal-clause-volume
returns-in-Ok-seal-clause-volume g c = record { root = ap (λ (v : Volume). v.root) c.in-Ok.ensures.volume; layout = ap (λ (v : Volume). v.layout) c.in-Ok.ensures.volume }

pub returns-in-Err-copy_pages-clause-volume : goal.returns-in-Err-copy_pages-clause-volume
returns-in-Err-copy_pages-clause-volume g c = record { root = ap (λ (v : Volume). v.root) c.in-Ok.ensures.volume; layout = ap (λ (v : Volume). v.layout) c.in-Ok.ensures.volume }

pub returns-in-Err-seal-clause-volume : goal.returns-in-Err-seal-clause-volume
returns-in-Err-seal-clause-volume g c = record { root = ap (λ (v : Volume). v.root) c.in-Ok.ensures.volume; layout = ap (λ (v : Volume). v.layout) c.in-Ok.ensures.volume }

pub returns-in-Err-clause-volume : goal.returns-in-Err-clause-volume
returns-in-Err-clause-volume g c = record { root = ap (λ (v : Volume). v.root) c.in-Err.ensures.volume; layout = ap (λ (v : Volume). v.layout) c.in-Err.ensures.volume }

pub returns-in-Err-seal-clause-to_writes : goal.returns-in-Err-seal-clause-to_writes
returns-in-Err-seal-clause-to_writes g c = written_then (written_then (all_written c.args.id _ _ (view_of c.args.to.now) (view_of c.create_as.new.filer) c.requires.of_file c.in-Ok.ensures.writes c.create_as.ensures.stays.layout) (pages_written c.copy_pages.ensures.to_writes)) c.seal.ensures.writes

pub returns-in-Err-seal-clause-why : goal.returns-in-Err-seal-clause-why
returns-in-Err-seal-clause-why g c =
    why_after (written_then (all_written c.args.id _ _ (view_of c.args.to.now) (view_of c.create_as.new.filer) c.requires.of_file c.in-Ok.ensures.writes c.create_as.ensures.stays.layout) (pages_written c.copy_pages.ensures.to_writes)).makes.went.faults c.in-Err-seal.ensures.why

pub create_as-requires-clause-other : goal.create_as-requires-clause-other
create_as-requires-clause-other g c = c.requires.takes.other

pub create_as-requires-clause-room : goal.create_as-requires-clause-room
create_as-requires-clause-room g c = c.requires.takes.room

pub copy_pages-requires-clause-client : goal.copy_pages-requires-clause-client
copy_pages-requires-clause-client g c = above_reserved c.args.id c.requires.of_file

pub seal-requires-clause-client : goal.seal-requires-clause-client
seal-requires-clause-client g c = above_reserved c.args.id c.requires.of_file

-- ---- The copy, from call to call.

pub returns-in-Err-clause-copies : goal.returns-in-Err-clause-copies
returns-in-Err-clause-copies g c = λ p h original none.
    let is = accepted c.args.to.now in
    let may = may_create (view_of c.args.from.now) (view_of c.args.to.now) c.args.volume.now p h is c.args.id c.args.file.pages c.requires.takes none in
    let created = c.in-Err.ensures.created 0 h.second (shapes_of p.to) [] may in
    (created.0, made_broken (view_of c.args.from.now) (view_of c.args.to.now) c.args.volume.now p h c.args.id c.args.file original none c.requires.takes c.requires.of_file (view_of c.create_as.new.filer) created.1)

pub returns-in-Err-copy_pages-clause-copies : goal.returns-in-Err-copy_pages-clause-copies
returns-in-Err-copy_pages-clause-copies g c = λ p h original none.
    let is = accepted c.args.to.now in
    let may = may_create (view_of c.args.from.now) (view_of c.args.to.now) c.args.volume.now p h is c.args.id c.args.file.pages c.requires.takes none in
    let created = c.in-Ok.ensures.created 0 h.second (shapes_of p.to) [] may in
    let zero = begun (view_of c.args.from.now) (view_of c.args.to.now) c.args.volume.now p h c.args.id c.args.file original none c.requires.takes (view_of c.create_as.new.filer) is c.create_as.ensures.stays.layout c.requires.of_file created in (
      (c.in-Err-copy_pages.ensures.copies p.from p.to h.first h.second original.0 h.from_is original.1 (sym original.3) zero).1,
      filled_broken (view_of c.args.from.now) (view_of c.args.to.now) c.args.volume.now p h c.args.id c.args.file original none c.requires.takes c.requires.of_file (view_of c.create_as.new.filer) created zero (view_of c.copy_pages.new.to) c.copy_pages.ensures.to_writes,
    )

pub returns-in-Err-seal-clause-copies : goal.returns-in-Err-seal-clause-copies
returns-in-Err-seal-clause-copies g c = λ p h original none.
    let is = accepted c.args.to.now in
    let may = may_create (view_of c.args.from.now) (view_of c.args.to.now) c.args.volume.now p h is c.args.id c.args.file.pages c.requires.takes none in
    let created = c.in-Ok.ensures.created 0 h.second (shapes_of p.to) [] may in
    let zero = begun (view_of c.args.from.now) (view_of c.args.to.now) c.args.volume.now p h c.args.id c.args.file original none c.requires.takes (view_of c.create_as.new.filer) is c.create_as.ensures.stays.layout c.requires.of_file created in
    let all = c.in-Ok-copy_pages.ensures.copies p.from p.to h.first h.second original.0 h.from_is original.1 (sym original.3) zero in
    let whole = subst (λ (n : ℕ). IsCopying (view_of c.copy_pages.new.to) h.second p.to original.0 false false n) (sym original.3) all.1 in
    let same = same_id (view_of c.args.from.now) (view_of c.args.to.now) c.args.volume.now p h c.args.id c.args.file original none c.requires.takes in (
      c.in-Err-seal.ensures.seals p.to h.second original.0 same whole,
      all_states (view_of c.args.from.now) (view_of c.args.to.now) c.args.volume.now p h c.args.id c.args.file original none c.requires.takes c.requires.of_file (view_of c.create_as.new.filer) created zero (view_of c.copy_pages.new.to) c.copy_pages.ensures.to_writes
          (view_of c.seal.new.to) (λ d revealed right none. c.seal.ensures.crash_states p.to h.second d original.0 same whole revealed right none),
    )

pub returns-in-Ok-seal-clause-copies : goal.returns-in-Ok-seal-clause-copies
returns-in-Ok-seal-clause-copies g c = λ p h original none.
    let is = accepted c.args.to.now in
    let may = may_create (view_of c.args.from.now) (view_of c.args.to.now) c.args.volume.now p h is c.args.id c.args.file.pages c.requires.takes none in
    let created = c.in-Ok.ensures.created 0 h.second (shapes_of p.to) [] may in
    let zero = begun (view_of c.args.from.now) (view_of c.args.to.now) c.args.volume.now p h c.args.id c.args.file original none c.requires.takes (view_of c.create_as.new.filer) is c.create_as.ensures.stays.layout c.requires.of_file created in
    let all = c.in-Ok-copy_pages.ensures.copies p.from p.to h.first h.second original.0 h.from_is original.1 (sym original.3) zero in
    let whole = subst (λ (n : ℕ). IsCopying (view_of c.copy_pages.new.to) h.second p.to original.0 false false n) (sym original.3) all.1 in
    let same = same_id (view_of c.args.from.now) (view_of c.args.to.now) c.args.volume.now p h c.args.id c.args.file original none c.requires.takes in
    let sealed = c.in-Ok-seal.ensures.seals p.to h.second original.0 same whole in (
      copy_done (view_of c.args.from.now) (view_of c.args.to.now) c.args.volume.now p h c.args.id c.args.file original none c.requires.takes (view_of c.copy_pages.new.from) (view_of c.seal.new.to) all.0 sealed c.create_as.new.volume c.in-Ok.ensures.volume,
      all_states (view_of c.args.from.now) (view_of c.args.to.now) c.args.volume.now p h c.args.id c.args.file original none c.requires.takes c.requires.of_file (view_of c.create_as.new.filer) created zero (view_of c.copy_pages.new.to) c.copy_pages.ensures.to_writes
          (view_of c.seal.new.to) (λ d revealed right none. c.seal.ensures.crash_states p.to h.second d original.0 same whole revealed right none),
    )

pub returns-in-Ok-seal-clause-synced : goal.returns-in-Ok-seal-clause-synced
returns-in-Ok-seal-clause-synced g c = c.in-Ok-seal.ensures.synced

-- ---- What it costs.

pub returns-in-Err-clause-to_cost : goal.returns-in-Err-clause-to_cost
returns-in-Err-clause-to_cost g c = made_spends _ _ _ c.args.file.pages c.create_as.ensures.cost

pub returns-in-Err-copy_pages-clause-to_cost : goal.returns-in-Err-copy_pages-clause-to_cost
returns-in-Err-copy_pages-clause-to_cost g c = filled_spends _ _ _ _ c.args.file.pages c.create_as.ensures.cost c.copy_pages.ensures.to_cost

pub returns-in-Err-seal-clause-to_cost : goal.returns-in-Err-seal-clause-to_cost
returns-in-Err-seal-clause-to_cost g c = sealed_spends _ _ _ _ _ c.args.file.pages c.create_as.ensures.cost c.copy_pages.ensures.to_cost c.seal.ensures.cost

pub returns-in-Ok-seal-clause-to_cost : goal.returns-in-Ok-seal-clause-to_cost
returns-in-Ok-seal-clause-to_cost g c = sealed_spends _ _ _ _ _ c.args.file.pages c.create_as.ensures.cost c.copy_pages.ensures.to_cost c.seal.ensures.cost

-- ---- The syncs around the marks.

pub returns-in-Err-clause-around : goal.returns-in-Err-clause-around
returns-in-Err-clause-around g c = syncs_around (some_around c.args.id _ _ (view_of c.args.to.now) (view_of c.create_as.new.filer) c.in-Err.ensures.writes)

pub returns-in-Err-copy_pages-clause-around : goal.returns-in-Err-copy_pages-clause-around
returns-in-Err-copy_pages-clause-around g c = around_after (all_around c.args.id _ _ (view_of c.args.to.now) (view_of c.create_as.new.filer) c.in-Ok.ensures.writes) (quiet_synced true c.copy_pages.ensures.to_writes.makes)

pub returns-in-Err-seal-clause-around : goal.returns-in-Err-seal-clause-around
returns-in-Err-seal-clause-around g c =
    around_after (synced_then (all_around c.args.id _ _ (view_of c.args.to.now) (view_of c.create_as.new.filer) c.in-Ok.ensures.writes) (quiet_synced false c.copy_pages.ensures.to_writes.makes))
    (written_around (view_of c.copy_pages.new.to) (view_of c.seal.new.to) c.seal.ensures.writes c.in-Err-seal.ensures.around)

pub returns-in-Ok-seal-clause-around : goal.returns-in-Ok-seal-clause-around
returns-in-Ok-seal-clause-around g c =
    around_after (synced_then (all_around c.args.id _ _ (view_of c.args.to.now) (view_of c.create_as.new.filer) c.in-Ok.ensures.writes) (quiet_synced false c.copy_pages.ensures.to_writes.makes))
    (written_around (view_of c.copy_pages.new.to) (view_of c.seal.new.to) c.seal.ensures.writes c.in-Ok-seal.ensures.around)
