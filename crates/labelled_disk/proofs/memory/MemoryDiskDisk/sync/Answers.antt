use Rattle.std.proofs.Common.{◌≡◌, ℕ, ◌<◌, ◌≤◌, true, false, List, [], ◌∷◌, ◌++◌, length, is_ok, vec_capacity, vec_len, if◌then◌else◌, Bool, ◌∙◌, ap, subst, sym, rules, arith}
use Rattle.labelled_disk.specs.Syncing.{is_last, synced_at, AreSyncs}
use Rattle.labelled_disk.proofs.SyncLemmas.{settled_more, room_for_one, takes_one, one_added}
use Rattle.labelled_disk.proofs.memory.MemoryDiskDisk.sync.Given as given
use Rattle.labelled_disk.proofs.memory.MemoryDiskDisk.sync.Goals as goal
use Rattle.labelled_disk.proofs.memory.MemoryDiskDisk.sync.Goals.{After-push}

-- the list after a sync that adds one
added_one : (g : given.Over) (c : goal.After-push g) → c.args.self.now.recording ≡ true
    → c.push.new.self.items ≡ synced_at (length c.args.self.now.writes.items) c.args.self.now.syncs.items
added_one g c =
    let syncs = c.args.self.now.syncs.items in
    let n = length c.args.self.now.writes.items in
    let made : c.len-made.result ≡ length c.args.self.now.writes.items = search rules in
    let not_yet : is_last c.len-made.result c.args.self.now.syncs.items ≡ false = cc (c.ends_with.ensures, c.deref.ensures.value, c.if-ends_with.false) in
    let held : vec_len c.args.self.now.syncs ≡ length c.args.self.now.syncs.items = search rules in
    let other = subst (λ (m : ℕ). is_last m c.args.self.now.syncs.items ≡ false) made not_yet in
    λ keeps.
    let few = room_for_one n c.args.self.now.synced syncs (c.args.self.now.sync_counts keeps) other in
    let ok = takes_one c.push.result (vec_capacity c.args.self.now.syncs) (vec_len c.args.self.now.syncs) c.push.ensures.full
    (omega (arith, few, held, c.args.self.now.in_room keeps, c.args.self.now.room_to_sync keeps)) in
    one_added n syncs c.push.new.self.items other
    (c.push.ensures.items ∙ ap (λ (b : Bool). if b then syncs ++ c.len-made.result ∷ [] else syncs) ok ∙ ap (λ (m : ℕ). syncs ++ m ∷ []) made)

pub invariant_of-self-2-clause-sync_counts : goal.invariant_of-self-2-clause-sync_counts
invariant_of-self-2-clause-sync_counts g c = λ keeps.
    subst (λ (xs : List ℕ). AreSyncs (length c.args.self.now.writes.items) true xs) (sym (added_one g (goal.at.invariant_of-self-2-clause-sync_counts g c).After-push keeps))
    (settled_more (length c.args.self.now.writes.items) c.args.self.now.synced c.args.self.now.syncs.items (c.args.self.now.sync_counts keeps))
