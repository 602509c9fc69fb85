use Rattle.std.proofs.Common.{◌≡◌, ◌≤◌, refl, ap, arith}
use Rattle.labelled_disk.specs.declared.layout.Layout.{Layout}
use Rattle.labelled_disk.specs.declared.disk.DiskError.TheVariants.{Failed}
use Rattle.labelled_disk.specs.Layout.{IsCount, layout_of}
use Rattle.labelled_disk.proofs.WriteRunLemmas.{appended_one}
use Rattle.cut_words.proofs.BarrierCallLemmas as calls
use Rattle.cut_words.proofs.KeepLemmas.{keeps_same, moved_keeps}
use Rattle.volume_root.specs.RootPage.{root_write}
use Rattle.volume_root.proofs.MakeLemmas.{any_err, ok_then, err_then, one_part, w1, w2, w3, as_part, as_all}
use Rattle.volume_root.proofs.formatting.make_volume.Given as given
use Rattle.volume_root.proofs.formatting.make_volume.Goals as goal
use Rattle.volume_root.proofs.formatting.make_volume.Goals.{After-write_root}

-- there is a sector
some : (layout : Layout) (n : _) → layout ≡ layout_of n → IsCount n → 1 ≤ layout.sectors
some layout n laid count = omega (arith, ap (λ (l : Layout). l.sectors) laid, count)

pub returns-in_err-write_sectors-clause-part : goal.returns-in_err-write_sectors-clause-part
returns-in_err-write_sectors-clause-part g c =
    let l = c.args.layout.now in
    let r = c.args.root.now in
    any_err c.from_residual.result (as_part l r _ _ (some l _ c.requires.layout c.requires.root.accepted)
    (calls.first_failed (w1 l r) (w2 l r) (w3 l r) refl refl _ _ c.in_err-write_sectors.ensures.part))

pub returns-in_err-sync-clause-part : goal.returns-in_err-sync-clause-part
returns-in_err-sync-clause-part g c =
    let l = c.args.layout.now in
    let r = c.args.root.now in
    any_err c.from_residual-in_err-sync.result (as_part l r _ _ (some l _ c.requires.layout c.requires.root.accepted)
    (calls.first_unsynced (w1 l r) (w2 l r) (w3 l r) refl refl _ _ _ Failed c.in_ok-write_sectors.ensures.made c.in_err-sync.ensures.err))

pub returns-in_err-write_sectors-2-clause-part : goal.returns-in_err-write_sectors-2-clause-part
returns-in_err-write_sectors-2-clause-part g c =
    let l = c.args.layout.now in
    let r = c.args.root.now in
    let first = calls.first_synced (w1 l r) (w2 l r) (w3 l r) refl refl _ _ _ c.in_ok-write_sectors.ensures.made c.in_ok-sync.ensures.ok in
    any_err c.from_residual-in_err-write_sectors-2.result (as_part l r _ _ (some l _ c.requires.layout c.requires.root.accepted)
    (calls.middle_failed (w1 l r) (w2 l r) (w3 l r) refl refl _ _ _ first c.in_err-write_sectors-2.ensures.part (keeps_same (g.D.Disk.state c.sync.new.disk) (g.D.Disk.state c.write_sectors-2.new.disk) c.in_err-write_sectors-2.ensures.syncs)))

pub returns-in_err-sync-2-clause-part : goal.returns-in_err-sync-2-clause-part
returns-in_err-sync-2-clause-part g c =
    let l = c.args.layout.now in
    let r = c.args.root.now in
    let first = calls.first_synced (w1 l r) (w2 l r) (w3 l r) refl refl _ _ _ c.in_ok-write_sectors.ensures.made c.in_ok-sync.ensures.ok in
    any_err c.from_residual-in_err-sync-2.result (as_part l r _ _ (some l _ c.requires.layout c.requires.root.accepted)
    (calls.middle_unsynced (w1 l r) (w2 l r) (w3 l r) refl refl _ _ _ first c.in_ok-write_sectors-2.ensures.made (keeps_same (g.D.Disk.state c.sync.new.disk) (g.D.Disk.state c.write_sectors-2.new.disk) c.in_ok-write_sectors-2.ensures.syncs)
    _ Failed c.in_err-sync-2.ensures.err))

-- all but the root is on the medium
ready : (g : given.Over) (c : After-write_root g) → calls.AreTwoSynced (w1 c.args.layout.now c.args.root.now) (w2 c.args.layout.now c.args.root.now) (w3 c.args.layout.now c.args.root.now) refl refl
    (g.D.Disk.state c.args.disk.now) (g.D.Disk.state c.sync-2.new.disk)
ready g c =
    let l = c.args.layout.now in
    let r = c.args.root.now in
    let first = calls.first_synced (w1 l r) (w2 l r) (w3 l r) refl refl _ _ _ c.in_ok-write_sectors.ensures.made c.in_ok-sync.ensures.ok in
    calls.middle_synced (w1 l r) (w2 l r) (w3 l r) refl refl _ _ _ first c.in_ok-write_sectors-2.ensures.made (keeps_same (g.D.Disk.state c.sync.new.disk) (g.D.Disk.state c.write_sectors-2.new.disk) c.in_ok-write_sectors-2.ensures.syncs) _ c.in_ok-sync-2.ensures.ok

pub returns-in_err-write_root-clause-part : goal.returns-in_err-write_root-clause-part
returns-in_err-write_root-clause-part g c =
    let l = c.args.layout.now in
    let r = c.args.root.now in
    any_err c.from_residual-in_err-write_root.result (as_part l r _ _ (some l _ c.requires.layout c.requires.root.accepted)
    (calls.last_failed (w1 l r) (w2 l r) (w3 l r) refl refl _ _ _ (ready g (goal.at.returns-in_err-write_root-clause-part g c).After-write_root)
    (moved_keeps (g.D.Disk.state c.sync-2.new.disk) (g.D.Disk.state c.write_root.new.disk) c.in_err-write_root.ensures.moves) (one_part (root_write r) (g.D.Disk.state c.sync-2.new.disk) (g.D.Disk.state c.write_root.new.disk) c.in_err-write_root.ensures.err)))

pub returns-clause-made : goal.returns-clause-made
returns-clause-made g c =
    let l = c.args.layout.now in
    let r = c.args.root.now in
    ok_then c.sync-3.result c.sync-3.ensures.ok (λ call. as_all l r _ _ (some l _ c.requires.layout c.requires.root.accepted)
    (calls.last_synced (w1 l r) (w2 l r) (w3 l r) refl refl _ _ _ (ready g (goal.at.returns-clause-made g c).After-write_root)
    (moved_keeps (g.D.Disk.state c.sync-2.new.disk) (g.D.Disk.state c.write_root.new.disk) c.in_ok-write_root.ensures.moves) (appended_one (root_write r) c.in_ok-write_root.ensures.ok) _ call))

pub returns-clause-part : goal.returns-clause-part
returns-clause-part g c =
    let l = c.args.layout.now in
    let r = c.args.root.now in
    err_then c.sync-3.result c.sync-3.ensures.err (λ call. as_part l r _ _ (some l _ c.requires.layout c.requires.root.accepted)
    (calls.last_unsynced (w1 l r) (w2 l r) (w3 l r) refl refl _ _ _ (ready g (goal.at.returns-clause-part g c).After-write_root)
    (moved_keeps (g.D.Disk.state c.sync-2.new.disk) (g.D.Disk.state c.write_root.new.disk) c.in_ok-write_root.ensures.moves) (appended_one (root_write r) c.in_ok-write_root.ensures.ok) _ Failed call))
