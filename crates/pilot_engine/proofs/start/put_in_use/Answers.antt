use Rattle.std.proofs.Common.{◌≡◌, ℕ, List, [], ◌∷◌, ◌++◌, length, true, Some, option_map, inr, rules, ◌∙◌, ap, subst, length-append}
use Rattle.labelled_disk.specs.declared.disk.DiskWrite.{DiskWrite}
use Rattle.labelled_disk.specs.Calls.{Syncs}
use Rattle.labelled_disk.specs.CrashState.{written}
use Rattle.labelled_disk.specs.WriteRuns.{Appended}
use Rattle.volume_root.specs.RootPage.{root_write}
use Rattle.swapper_kernel.specs.Goes.{no_page}
use Rattle.swapper_kernel.specs.GoesLaws.{goes_swapping, swaps_itself, swaps_stands}
use Rattle.swapper_kernel.specs.HaltLaws.{brings_itself}
use Rattle.swapper_kernel.specs.SyncLaws.{HasSync, synced_has, synced_swaps}
use Rattle.file_manager.specs.KeepLaws.{keeps_same}
use Rattle.pilot_engine.proofs.StartWrites.{alone}
use Rattle.pilot_engine.proofs.start.put_in_use.Goals as goal
use Rattle.filer_kernel.specs.View.{view_of}

pub returns-in-Ok-sync-clause-writes : goal.returns-in-Ok-sync-clause-writes
returns-in-Ok-sync-clause-writes g c =
    let filer = c.args.filer.now in
    let syncs : Syncs (view_of c.write_over.new.filer).disk c.sync.result (g.D.Disk.state c.sync.new.self) = search rules in
    let write = root_write c.args.root in
    goes_swapping (λ m n. n ≡ written write m) no_page (write ∷ []) (swaps_itself (view_of filer).disk (view_of filer).slots) c.in-Ok.ensures.writes
    (synced_swaps (view_of c.write_over.new.filer).disk (g.D.Disk.state c.sync.new.self) c.sync.result (view_of filer).slots syncs)

pub returns-in-Err-sync-clause-writes : goal.returns-in-Err-sync-clause-writes
returns-in-Err-sync-clause-writes g c =
    let filer = c.args.filer.now in
    let syncs : Syncs (view_of c.write_over.new.filer).disk c.sync.result (g.D.Disk.state c.sync.new.self) = search rules in
    let write = root_write c.args.root in
    inr (goes_swapping (λ m n. n ≡ written write m) no_page (write ∷ []) (swaps_itself (view_of filer).disk (view_of filer).slots) c.in-Ok.ensures.writes
    (synced_swaps (view_of c.write_over.new.filer).disk (g.D.Disk.state c.sync.new.self) c.sync.result (view_of filer).slots syncs)).makes

pub returns-in-Ok-sync-clause-synced : goal.returns-in-Ok-sync-clause-synced
returns-in-Ok-sync-clause-synced g c = λ writes is.
    let filer = c.args.filer.now in
    let syncs : Syncs (view_of c.write_over.new.filer).disk c.sync.result (g.D.Disk.state c.sync.new.self) = search rules in
    let write = root_write c.args.root in
    let made = c.in-Ok.ensures.writes.makes in
    let appended = subst (λ (ws : List DiskWrite). Appended ws (view_of filer).disk (view_of c.write_over.new.filer).disk) (alone c.args.root (view_of filer).disk (view_of filer).slots c.requires.bare made) made.wrote.appended in
    let now : (g.D.Disk.state c.sync.new.self).writes ≡ Some (writes ++ write ∷ []) = syncs.same.writes ∙ appended.revealed ∙ ap (option_map (λ (earlier : List DiskWrite). earlier ++ write ∷ [])) is in
    let synced : (g.D.Disk.state c.sync.new.self).synced ≡ true = search rules in
    subst (λ (n : ℕ). HasSync (g.D.Disk.state c.sync.new.self) n) (length-append writes (write ∷ []))
    (synced_has (g.D.Disk.state c.sync.new.self) (g.met.D.Disk.sync_counts c.sync.new.self) synced (writes ++ write ∷ []) now)

pub returns-in-Ok-sync-clause-keeps_to : goal.returns-in-Ok-sync-clause-keeps_to
returns-in-Ok-sync-clause-keeps_to g c = λ o named keeps below.
    let syncs : Syncs (view_of c.write_over.new.filer).disk c.sync.result (g.D.Disk.state c.sync.new.self) = search rules in
    let h = c.in-Ok.ensures.keeps_to o named keeps below in
    let pool = (view_of c.write_over.new.filer).slots in
    let swaps = synced_swaps (view_of c.write_over.new.filer).disk (g.D.Disk.state c.sync.new.self) c.sync.result pool syncs in
    keeps_same h swaps.makes (swaps_stands swaps h.memory h.stands) _ h.kept (brings_itself _ pool)
