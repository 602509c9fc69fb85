-- Files that an anonymous window shows are passed over, in a loop.
use Rattle.std.proofs.Common.{◌≡◌, ℕ, ◌+◌, ◌*◌, ◌≤◌, Bool, true, false, not, [], Option, Some, None, refl, sym, ◌∙◌, ap, subst, arith}
use Rattle.labelled_disk.specs.declared.layout.Layout.{Layout}
use Rattle.labelled_disk.specs.File.{size}
use Rattle.labelled_disk.specs.State.{DiskState}
use Rattle.frame_pool.specs.Frames.{Slots}
use Rattle.flat_machine.specs.Allows.{next_file}
use Rattle.flat_machine.specs.Machine.{Machine, used}
use Rattle.flat_machine.specs.IsMachine.{IsMachine}
use Rattle.swapper_kernel.specs.Goes.{Makes}
use Rattle.swapper_kernel.specs.GoesLaws.{makes_nothing, makes_then}
use Rattle.session_words.specs.Volume.{volume_page}
use Rattle.file_manager.specs.declared.volume.Volume.{Volume}
use Rattle.running_words.specs.Bound.{room_above}
use Rattle.pilot_engine.specs.declared.order.Passed.{Passed}
use Rattle.pilot_engine.specs.Order.{IsTurn, turn_cost}
use Rattle.pilot_engine.proofs.EndCosts.{next_there, room_step, room_all}
use Rattle.pilot_engine.proofs.OrderLemmas.{next_hit, next_none, next_skip}

-- no file from one identifier up to another may be named, and the same machine is stood for
pub record NextUpTo (id cursor : ℕ) (first now : Machine → Type 0) (d0 : DiskState) (s0 : Slots) (l0 : Layout) (v0 : Volume) (run0 : Bool) (d : DiskState) (s : Slots) (layout : Layout) (volume : Volume) (run : Bool) : Type 0 where
  pub size : d.sectors ≡ layout.sectors
  pub runs : (m : Machine) → first m → now m
  pub same : (m : Machine) → first m → next_file m cursor ≡ next_file m id
  pub paid : (m : Machine) → first m → d.transfers + turn_cost * room_above cursor m.files ≤ d0.transfers + turn_cost * room_above id m.files
  pub makes : Makes volume_page [] d0 s0 d s
  pub same_layout : layout ≡ l0
  pub same_volume : volume ≡ v0
  pub same_running : run ≡ run0

-- none yet
pub up_to_none : (id : ℕ) (first : Machine → Type 0) (d0 : DiskState) (s0 : Slots) (l0 : Layout) (v0 : Volume) (run0 : Bool) → d0.sectors ≡ l0.sectors → NextUpTo id id first first d0 s0 l0 v0 run0 d0 s0 l0 v0 run0
up_to_none id first d0 s0 l0 v0 run0 size = record {
  size = size;
  runs = λ m is. is;
  same = λ m is. refl;
  paid = λ m is. omega arith;
  makes = makes_nothing volume_page d0 s0;
  same_layout = refl;
  same_volume = refl;
  same_running = refl;
}

module _ (id cursor : ℕ) (first now : Machine → Type 0) (d0 : DiskState) (s0 : Slots) (l0 : Layout) (v0 : Volume) (run0 : Bool) (d : DiskState) (s : Slots) (layout : Layout) (volume : Volume) (run : Bool)
    (up : NextUpTo id cursor first now d0 s0 l0 v0 run0 d s layout volume run) (machine : (m : Machine) → first m → IsMachine m) where
  module _ (answer : Option Passed) (passed : Passed) (is : answer ≡ Some passed) (turned : (m : Machine) → now m → IsTurn m cursor answer) where
    turn : (m : Machine) → first m → IsTurn m cursor (Some passed)
    turn m was = subst (λ (o : Option Passed). IsTurn m cursor o) is (turned m (up.runs m was))

    -- a file more
    pub up_to_more : (later : Machine → Type 0) (d2 : DiskState) (s2 : Slots) (l2 : Layout) (v2 : Volume) (run2 : Bool) → passed.named ≡ false → ((m : Machine) → now m → later m) → Makes volume_page [] d s d2 s2 → l2 ≡ layout → v2 ≡ volume → run2 ≡ run → d2.transfers ≤ d.transfers + turn_cost
        → NextUpTo id passed.id first later d0 s0 l0 v0 run0 d2 s2 l2 v2 run2
    up_to_more later d2 s2 l2 v2 run2 unnamed on makes same_layout same_volume same_running spent = record {
      size = makes.went.sectors ∙ up.size ∙ ap (λ (l : Layout). l.sectors) (sym same_layout);
      runs = λ m was. on m (up.runs m was);
      same = λ m was. next_skip m (machine m was).ids_rise cursor passed.id (turn m was).0 ((turn m was).1 ∙ ap not unnamed) ∙ up.same m was;
      paid = λ m was.
          let there = next_there m cursor passed.id (turn m was).0 in
          let step = room_step m.files cursor passed.id there.0 (turn m was).0.0 there.1 in
          let had = up.paid m was in
          omega (arith, step, had, spent);
      makes = makes_then up.makes makes;
      same_layout = same_layout ∙ up.same_layout;
      same_volume = same_volume ∙ up.same_volume;
      same_running = same_running ∙ up.same_running;
    }

    -- one that may be named
    pub up_to_found : passed.named ≡ true → (m : Machine) → first m → next_file m id ≡ Some passed.id
    up_to_found named m was = sym (up.same m was) ∙ next_hit m (machine m was).ids_rise cursor passed.id (turn m was).0 ((turn m was).1 ∙ ap not named)

  -- no further file
  pub up_to_end : (answer : Option Passed) → answer ≡ None → ((m : Machine) → now m → IsTurn m cursor answer) → (m : Machine) → first m → next_file m id ≡ None
  up_to_end answer is turned m was = sym (up.same m was) ∙ next_none m (machine m was).ids_rise cursor (subst (λ (o : Option Passed). IsTurn m cursor o) is (turned m (up.runs m was)))

  -- what is spent once another turn was paid
  pub up_to_paid : (last : ℕ) → last ≤ d.transfers + turn_cost → (m : Machine) → first m → last ≤ d0.transfers + (turn_cost + turn_cost * used m)
  up_to_paid last spent m was =
      let had = up.paid m was in
      let all = room_all id m.files in
      omega (arith, had, all, spent)
