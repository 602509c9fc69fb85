use Rattle.std.proofs.Common.{rules, ◌≡◌, ◌⊎◌, ◌≤◌, inl, refl, ap}
use Rattle.swapper_kernel.specs.HaltLaws.{brings_then, brings_wider}
use Rattle.fault_core.specs.Unit.{IsOfInterval, KeepsResident, file_page}
use Rattle.filer_kernel.specs.View.{accepted, view_of}
use Rattle.fault_core.proofs.AttemptLemmas.{client_slot}
use Rattle.fault_core.proofs.BeforeLemmas.{touches_of, touches_then}
use Rattle.fault_core.proofs.ReachLemmas.{known_after}
use Rattle.fault_core.proofs.store.store_in.Goals as goal

-- ---- The page could not be brought in.

pub returns-in-Err-clause-moves : goal.returns-in-Err-clause-moves
returns-in-Err-clause-moves g c = record {
  stored = search rules;
  halted = λ m named b known.
      record { memory = m; changed = refl; known = known_after (view_of c.args.filer.now) (view_of c.touch.new.filer) m named b (accepted c.args.filer.now) c.touch.ensures.brings.reaches known; labels = refl };
  dirty = search rules;
}

pub returns-in-Err-clause-brings : goal.returns-in-Err-clause-brings
returns-in-Err-clause-brings g c = record {
  touches = touches_of _ c.touch.ensures.brings.reaches;
  came = search rules;
}

-- ---- Its frame changes.

pub change_in-requires-clause-slot : goal.change_in-requires-clause-slot
change_in-requires-clause-slot g c = client_slot (view_of c.touch.new.filer).slots c.args.x.now c.args.page c.in-Ok.slot c.requires.shows c.in-Ok.ensures.comes.slot

pub returns-clause-moves : goal.returns-clause-moves
returns-clause-moves g c = record {
  stored = λ m named b known stored.
      let after = known_after (view_of c.args.filer.now) (view_of c.touch.new.filer) m named b (accepted c.args.filer.now) c.touch.ensures.brings.reaches known in
      c.change_in.ensures.stored m named b c.args.x.now.id (file_page c.args.x.now c.args.page) after c.in-Ok.ensures.comes.slot (stored c.args.page c.requires.shows.holds).of_file;
  halted = search rules;
  dirty = c.change_in.ensures.dirty c.args.x.now.id (file_page c.args.x.now c.args.page) c.in-Ok.ensures.comes.slot;
}

pub returns-clause-whole : goal.returns-clause-whole
returns-clause-whole g c = λ other own.
    let there = c.in-Ok.ensures.comes.whole other own in
    (there.0, c.change_in.ensures.slots there.0 c.args.x.now.id (file_page c.args.x.now other) there.1)

pub returns-clause-brings : goal.returns-clause-brings
returns-clause-brings g c = record {
  touches =
      touches_then (view_of c.args.filer.now) (view_of c.touch.new.filer) (accepted c.args.filer.now) (touches_of _ c.touch.ensures.brings.reaches) (view_of c.change_in.new.filer)
      (c.change_in.ensures.touches c.args.x.now.id (file_page c.args.x.now c.args.page) c.in-Ok.ensures.comes.slot (c.requires.shows.formed.shows c.requires.shows.mapped).0);
  came =
      brings_then c.touch.ensures.brings.came (brings_wider (λ home. ((1 ≤ home.id) × (home.id ≤ 3)) ⊎ IsOfInterval c.args.x.now home) (λ home own. inl own) c.change_in.ensures.came);
}

pub returns-clause-idle : goal.returns-clause-idle
returns-clause-idle g c = λ whole.
    let one = c.in-Ok.ensures.idle whole in
    let same : (view_of c.change_in.new.filer).disk ≡ (view_of c.touch.new.filer).disk = ap g.D.Disk.state c.change_in.ensures.disk in
    let stays : KeepsResident (view_of c.touch.new.filer).slots (view_of c.change_in.new.filer).slots = λ id page there. (there.0, c.change_in.ensures.slots there.0 id page there.1) in
    (refl, rw (← one.1) same, rw (← one.1) stays)

pub returns-in-Err-clause-whole : goal.returns-in-Err-clause-whole
returns-in-Err-clause-whole g c = tt

pub returns-in-Err-clause-fails : goal.returns-in-Err-clause-fails
returns-in-Err-clause-fails g c = record { cause = c.in-Err.ensures.fails.cause; misses = c.in-Err.ensures.fails.misses; sound = c.in-Err.ensures.fails.sound }

pub returns-in-Err-clause-cost : goal.returns-in-Err-clause-cost
returns-in-Err-clause-cost g c = c.touch.ensures.cost

pub returns-clause-fails : goal.returns-clause-fails
returns-clause-fails g c = record { cause = tt; misses = tt; sound = λ m named b known stored. tt }
