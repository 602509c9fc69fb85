use Rattle.std.proofs.Common.{rules, ◌≡◌, ◌<◌, ◌^◌, ℕ, [], refl, sym, ◌∙◌, ap, subst, arith}
use Rattle.flat_machine.specs.declared.call.Call.TheVariants as call
use Rattle.flat_machine.specs.declared.call.Reply.TheVariants as reply
use Rattle.flat_machine.specs.declared.call.Refusal.TheVariants as why
use Rattle.session_words.specs.Parts.{shapes_of}
use Rattle.session_words.specs.Volume.{volume_page}
use Rattle.swapper_kernel.specs.Goes.{Same}
use Rattle.swapper_kernel.specs.GoesLaws.{goes_itself}
use Rattle.running_words.specs.Session.{Carries}
use Rattle.pilot_engine.proofs.BoundLemmas.{create_bounded, inside_layout}
use Rattle.pilot_engine.proofs.CallLemmas.{carries_at}
use Rattle.pilot_engine.proofs.CreateStops.{create_passed, create_broken}
use Rattle.pilot_engine.proofs.CreateLemmas.{may_create, create_done, create_refused}
use Rattle.pilot_engine.proofs.NewWindow.{none_named, one_named}
use Rattle.pilot_engine.proofs.RefusalLemmas.{create_full, create_ids, create_there}
use Rattle.running_words.proofs.SessionLemmas.{room_is}
use Rattle.running_words.proofs.StageLemmas.{no_step}
use Rattle.pilot_engine.proofs.WroteLemmas.{wrote_file, wrote_some}
use Rattle.file_manager.specs.Creating.{counted, next_id}
use Rattle.file_manager.specs.Reasons.{WasBelow, giving, telling}
use Rattle.file_manager.specs.declared.volume.Volume.{Volume}
use Rattle.fault_core.specs.Core.{state}
use Rattle.filer_kernel.specs.View.{accepted, disk_of, view_of}
use Rattle.pilot_engine.proofs.HomeLemmas.{file_pages}
use Rattle.pilot_engine.proofs.HomeSteps.{new_file, same_given}
use Rattle.file_manager.specs.Grounds.{IsNewPage}
use Rattle.pilot_engine.proofs.LackLemmas.{new_misses}
use Rattle.pilot_engine.proofs.ReasonSteps.{given_on}
use Rattle.pilot_engine.proofs.SeesLemmas.{counted_next, same_next, seen_blameless}
use Rattle.pilot_engine.proofs.SparedCalls.{all_but, spares_itself}
use Rattle.pilot_engine.proofs.SparedFiles.{spares_made, spares_making}
use Rattle.pilot_engine.proofs.CameOwn.{own_itself}
use Rattle.pilot_engine.proofs.WritingLemmas.{counted_numbers, only_created, only_creating, only_still}
use Rattle.pilot_engine.proofs.AskedSteps.{remains_itself}
use Rattle.pilot_engine.proofs.session.Session.create.Goals as goal

pub returns-then-pages-free-clause-answers : goal.returns-then-pages-free-clause-answers
returns-then-pages-free-clause-answers g c = λ spaces_of m s.
    let left = room_is spaces_of _ _ _ _ _ m s (accepted c.args.self.now.core.filer) c.requires.set_up.opened.same_layout in
    let over = c.if-pages-free.true in
    record {
      carried = create_refused spaces_of _ _ _ _ _ m s (call.Create c.args.pages c.args.kind) why.Full (create_full m c.args.pages c.args.kind (omega (arith, over, left, s.same_used)));
      passes = no_step spaces_of _ _ _ _ m (call.Create c.args.pages c.args.kind) s.stands (goes_itself Same volume_page (state c.args.self.now.core).disk (state c.args.self.now.core).slots (λ x. refl)).makes (g.met.D.Disk.in_form (disk_of c.args.self.now.core.filer));
      came = own_itself (state c.args.self.now.core).slots;
    }

pub returns-then-pages-free-clause-writes : goal.returns-then-pages-free-clause-writes
returns-then-pages-free-clause-writes g c =
    let root = c.args.self.now.volume.root in
    let what = call.Create c.args.pages c.args.kind in
    record {
      wrote = record { labels = []; makes = (goes_itself Same volume_page (state c.args.self.now.core).disk (state c.args.self.now.core).slots (λ x. refl)).makes; opens = tt };
      own = (only_still (next_id root) (counted root) what (state c.args.self.now.core).disk, only_still (next_id root) root what (state c.args.self.now.core).disk);
      spares = all_but (spares_itself (state c.args.self.now.core).disk);
    }

pub returns-then-self-clause-answers : goal.returns-then-self-clause-answers
returns-then-self-clause-answers g c = λ spaces_of m s.
    let left = room_is spaces_of _ _ _ _ _ m s (accepted c.args.self.now.core.filer) c.requires.set_up.opened.same_layout in
    let under = c.if-pages-free.false in
    record {
      carried = create_refused spaces_of _ _ _ _ _ m s (call.Create c.args.pages c.args.kind) why.Ids (create_ids m c.args.pages c.args.kind (omega (arith, under, left, s.same_used)) (sym s.same_counter ∙ c.if-self.true));
      passes = no_step spaces_of _ _ _ _ m (call.Create c.args.pages c.args.kind) s.stands (goes_itself Same volume_page (state c.args.self.now.core).disk (state c.args.self.now.core).slots (λ x. refl)).makes (g.met.D.Disk.in_form (disk_of c.args.self.now.core.filer));
      came = own_itself (state c.args.self.now.core).slots;
    }

pub returns-then-self-clause-writes : goal.returns-then-self-clause-writes
returns-then-self-clause-writes g c =
    let root = c.args.self.now.volume.root in
    let what = call.Create c.args.pages c.args.kind in
    record {
      wrote = record { labels = []; makes = (goes_itself Same volume_page (state c.args.self.now.core).disk (state c.args.self.now.core).slots (λ x. refl)).makes; opens = tt };
      own = (only_still (next_id root) (counted root) what (state c.args.self.now.core).disk, only_still (next_id root) root what (state c.args.self.now.core).disk);
      spares = all_but (spares_itself (state c.args.self.now.core).disk);
    }

pub returns-in-Ok-clause-answers : goal.returns-in-Ok-clause-answers
returns-in-Ok-clause-answers g c = λ spaces_of m s.
    let is = (accepted c.args.self.now.core.filer) in
    let left = room_is spaces_of _ _ _ _ _ m s is c.requires.set_up.opened.same_layout in
    let same_room : c.args.self.now.volume.layout.capacity ≡ (state c.args.self.now.core).layout.capacity = ap (λ l. l.capacity) c.requires.set_up.opened.same_layout in
    let under = c.if-pages-free.false in
    let other : c.args.self.now.volume.root.counter < 4294967295 = search rules in
    let made = c.in-Ok.ensures.created s.stands.memory (shapes_of m.files) m.spaces (may_create spaces_of _ _ _ _ _ m s is c.args.pages (omega (arith, under, same_room))) in
    let free = create_there m c.args.pages c.args.kind (omega (arith, under, left, s.same_used)) (omega (arith, other, s.same_counter)) in
    let small = c.ranges.kind.fits in
    record {
      carried = (subst (λ (id : ℕ). Carries spaces_of m (call.Create c.args.pages c.args.kind) (reply.File id) (view_of c.create.new.filer).disk (view_of c.create.new.filer).slots (view_of c.create.new.filer).layout c.create.new.filer.runs c.create.new.volume)
          (sym c.in-Ok.ensures.volume.0)
          (carries_at spaces_of m (call.Create c.args.pages c.args.kind) _ _ _ _ _ _ _
          (create_done spaces_of _ _ _ _ _ m s is c.args.pages c.args.kind small _ _ _ _ free c.in-Ok.ensures.volume.1 made) c.create.ensures.stays.layout));
      passes = (let is = (accepted c.args.self.now.core.filer) in
          let same_room : c.args.self.now.volume.layout.capacity ≡ (state c.args.self.now.core).layout.capacity = ap (λ l. l.capacity) c.requires.set_up.opened.same_layout in
          let under = c.if-pages-free.false in
          let other : c.args.self.now.volume.root.counter < 4294967295 = search rules in
          let small : c.args.pages < 4294967295 = search rules in
          let made = c.in-Ok.ensures.created s.stands.memory (shapes_of m.files) m.spaces (may_create spaces_of _ _ _ _ _ m s is c.args.pages (omega (arith, under, same_room))) in
          let left = room_is spaces_of _ _ _ _ _ m s is c.requires.set_up.opened.same_layout in
          let free = create_there m c.args.pages c.args.kind (omega (arith, under, left, s.same_used)) (omega (arith, other, s.same_counter)) in
          create_passed spaces_of _ _ _ _ _ m s (g.met.D.Disk.in_form (disk_of c.args.self.now.core.filer)) c.requires.set_up.opened.valid other c.args.kind c.args.pages _ _ _ small free made);
      came = (c.in-Ok.ensures.created s.stands.memory (shapes_of m.files) m.spaces (may_create spaces_of _ _ _ _ _ m s is c.args.pages (omega (arith, under, same_room)))).leads.brings;
    }

pub returns-in-Ok-clause-writes : goal.returns-in-Ok-clause-writes
returns-in-Ok-clause-writes g c =
    let root = c.args.self.now.volume.root in
    let serial : root.serial < 2 ^ 32 = search rules in
    let counter : root.counter < 4294967295 = search rules in
    let some = c.requires.set_up.opened.valid.serial in
    record {
      wrote = wrote_file c.args.self.now.volume.root c.args.kind c.args.pages c.in-Ok.ensures.writes;
      own = (let now = ap (λ (v : Volume). v.root) c.in-Ok.ensures.volume.1 in (
        (only_created root (counted root) some (counted_numbers root (counted root) refl serial counter) c.args.pages c.args.kind c.in-Ok.ensures.writes),
        (only_created root c.create.new.volume.root some (counted_numbers root c.create.new.volume.root now serial counter) c.args.pages c.args.kind c.in-Ok.ensures.writes),
      ));
      spares = spares_made c.args.self.now.volume.root c.args.kind c.args.pages c.in-Ok.ensures.writes;
    }

pub returns-in-Err-clause-sound : goal.returns-in-Err-clause-sound
returns-in-Err-clause-sound g c = λ spaces_of m s.
    let is = (accepted c.args.self.now.core.filer) in
    let same_room : c.args.self.now.volume.layout.capacity ≡ (state c.args.self.now.core).layout.capacity = ap (λ l. l.capacity) c.requires.set_up.opened.same_layout in
    let under = c.if-pages-free.false in
    (c.in-Err.ensures.created s.stands.memory (shapes_of m.files) m.spaces (may_create spaces_of _ _ _ _ _ m s is c.args.pages (omega (arith, under, same_room)))).0

pub returns-in-Err-clause-writes : goal.returns-in-Err-clause-writes
returns-in-Err-clause-writes g c =
    let root = c.args.self.now.volume.root in
    let serial : root.serial < 2 ^ 32 = search rules in
    let counter : root.counter < 4294967295 = search rules in
    record {
      wrote = wrote_some c.args.self.now.volume.root c.args.kind c.args.pages c.in-Err.ensures.writes;
      own = ((only_creating root (counted root) c.requires.set_up.opened.valid.serial (counted_numbers root (counted root) refl serial counter) c.args.pages c.args.kind c.in-Err.ensures.writes), tt);
      spares = spares_making c.args.self.now.volume.root c.args.kind c.args.pages c.in-Err.ensures.writes;
    }

pub returns-in-Err-clause-answers : goal.returns-in-Err-clause-answers
returns-in-Err-clause-answers g c = λ spaces_of m s.
    let is = (accepted c.args.self.now.core.filer) in
    let same_room : c.args.self.now.volume.layout.capacity ≡ (state c.args.self.now.core).layout.capacity = ap (λ l. l.capacity) c.requires.set_up.opened.same_layout in
    let under = c.if-pages-free.false in
    let other : c.args.self.now.volume.root.counter < 4294967295 = search rules in
    let small : c.args.pages < 4294967295 = search rules in
    let some = (c.in-Err.ensures.created s.stands.memory (shapes_of m.files) m.spaces (may_create spaces_of _ _ _ _ _ m s is c.args.pages (omega (arith, under, same_room)))).1 in
    let left = room_is spaces_of _ _ _ _ _ m s is c.requires.set_up.opened.same_layout in
    let free = create_there m c.args.pages c.args.kind (omega (arith, under, left, s.same_used)) (omega (arith, other, s.same_counter)) in
    record {
      carried = tt;
      passes = create_broken spaces_of _ _ _ _ _ m s (g.met.D.Disk.in_form (disk_of c.args.self.now.core.filer)) c.requires.set_up.opened.valid other c.args.kind c.args.pages _ _ small free some;
      came = tt;
    }

pub returns-in-Ok-clause-bounded : goal.returns-in-Ok-clause-bounded
returns-in-Ok-clause-bounded g c =
    let layout = (state c.args.self.now.core).layout in
    let same_room : c.args.self.now.volume.layout.capacity ≡ layout.capacity = ap (λ l. l.capacity) c.requires.set_up.opened.same_layout in
    let under = c.if-pages-free.false in
    inside_layout layout (state c.args.self.now.core).disk (view_of c.create.new.filer).disk c.requires.set_up.size
    (create_bounded layout (accepted c.args.self.now.core.filer) _ _ c.args.pages (omega (arith, under, same_room)) c.create.ensures.cost)

pub returns-in-Err-clause-bounded : goal.returns-in-Err-clause-bounded
returns-in-Err-clause-bounded g c =
    let layout = (state c.args.self.now.core).layout in
    let same_room : c.args.self.now.volume.layout.capacity ≡ layout.capacity = ap (λ l. l.capacity) c.requires.set_up.opened.same_layout in
    let under = c.if-pages-free.false in
    inside_layout layout (state c.args.self.now.core).disk (view_of c.create.new.filer).disk c.requires.set_up.size
    (create_bounded layout (accepted c.args.self.now.core.filer) _ _ c.args.pages (omega (arith, under, same_room)) c.create.ensures.cost)

-- ---- The file that the reply names.

pub returns-then-pages-free-clause-next : goal.returns-then-pages-free-clause-next
returns-then-pages-free-clause-next g c = λ id is. absurd (none_named why.Full id is)

pub returns-then-self-clause-next : goal.returns-then-self-clause-next
returns-then-self-clause-next g c = λ id is. absurd (none_named why.Ids id is)

pub returns-in-Ok-clause-next : goal.returns-in-Ok-clause-next
returns-in-Ok-clause-next g c = λ id is. sym (one_named c.in-Ok.id id is) ∙ c.in-Ok.ensures.volume.0

-- each of its pages was given a sector
pub returns-then-pages-free-clause-home : goal.returns-then-pages-free-clause-home
returns-then-pages-free-clause-home g c = λ o k id is. absurd (none_named why.Full id is)

pub returns-then-self-clause-home : goal.returns-then-self-clause-home
returns-then-self-clause-home g c = λ o k id is. absurd (none_named why.Ids id is)

pub returns-in-Ok-clause-home : goal.returns-in-Ok-clause-home
returns-in-Ok-clause-home g c =
    let small : c.args.pages < 2 ^ 32 = search rules in
    λ o k id is page below.
    let same : id ≡ next_id c.args.self.now.volume.root = sym (one_named c.in-Ok.id id is) ∙ c.in-Ok.ensures.volume.0 in
    subst (λ (n : ℕ). WasBelow o (view_of c.create.new.filer).disk n page) (sym same) (new_file o c.args.self.now.volume.root c.args.kind c.args.pages k.1.0.since c.in-Ok.ensures.writes small page below)

-- ---- The initial state.

pub returns-then-pages-free-clause-accounts : goal.returns-then-pages-free-clause-accounts
returns-then-pages-free-clause-accounts g c = λ o k up. record {
  keeps_to = given_on o (state c.args.self.now.core) (next_id c.args.self.now.volume.root) up.next k;
  reasons = tt;
  sees = λ ss sees. sees;
}

pub returns-then-self-clause-accounts : goal.returns-then-self-clause-accounts
returns-then-self-clause-accounts g c = λ o k up. record {
  keeps_to = given_on o (state c.args.self.now.core) (next_id c.args.self.now.volume.root) up.next k;
  reasons = tt;
  sees = λ ss sees. sees;
}

pub returns-in-Ok-clause-accounts : goal.returns-in-Ok-clause-accounts
returns-in-Ok-clause-accounts g c = λ o k up.
    let old = c.args.self.now.core in
    record {
      keeps_to = let from = c.in-Ok.ensures.accounts o k.0 k.1.0 up in (from.0, (from.1, (from.2 k.1.1.0, k.1.1.1)));
      reasons = tt;
      sees = (same_given o (giving o (next_id c.create.new.volume.root)) (state old) (view_of c.create.new.filer) (accepted old.filer) k
          (λ b h. c.in-Ok.ensures.accounts (telling o b) k.0 h (record { monotone = up.monotone; next = up.next })));
    }

pub returns-in-Err-clause-accounts : goal.returns-in-Err-clause-accounts
returns-in-Err-clause-accounts g c = λ o k up. record {
  keeps_to = tt;
  reasons = c.in-Err.ensures.accounts o k.0 k.1.0 up;
  sees = (λ seen.
      let old = c.args.self.now.core in
      let disk = (view_of c.create.new.filer).disk in
      seen_blameless o (state old) (accepted old.filer) k (state old).layout disk c.in-Err.halt (λ b h. c.in-Err.ensures.accounts (telling o b) k.0 h (record { monotone = up.monotone; next = up.next }))
      (new_misses (file_pages o disk) (next_id c.args.self.now.volume.root) (IsNewPage c.args.pages) (state old) (view_of c.create.new.filer) c.in-Err.halt c.in-Err.ensures.fails.cause) seen);
}

-- ---- The next identifier.

pub returns-in-Ok-clause-remains : goal.returns-in-Ok-clause-remains
returns-in-Ok-clause-remains g c = record {
  stays = record {
    open_still = (search rules);
    monotone = (counted_next c.args.self.now.volume.root c.create.new.volume.root (ap (λ (v : Volume). v.root) c.in-Ok.ensures.volume.1));
    serial = (ap (λ (v : Volume). v.root.serial) c.in-Ok.ensures.volume.1);
    layout = (search rules);
  };
  running = refl;
  kept = refl;
  intervals = refl;
}

pub returns-in-Err-clause-remains : goal.returns-in-Err-clause-remains
returns-in-Err-clause-remains g c = record {
  stays = record {
    open_still = (search rules);
    monotone = (same_next c.args.self.now.volume.root c.create.new.volume.root (ap (λ (v : Volume). v.root) c.in-Err.ensures.volume));
    serial = (ap (λ (v : Volume). v.root.serial) c.in-Err.ensures.volume);
    layout = (search rules);
  };
  running = refl;
  kept = refl;
  intervals = refl;
}

-- ---- What is written.

pub returns-in-Err-clause-fails : goal.returns-in-Err-clause-fails
returns-in-Err-clause-fails g c = c.in-Err.ensures.fails

pub returns-then-pages-free-clause-remains : goal.returns-then-pages-free-clause-remains
returns-then-pages-free-clause-remains g c = remains_itself c.requires.set_up.opened

pub returns-then-self-clause-remains : goal.returns-then-self-clause-remains
returns-then-self-clause-remains g c = remains_itself c.requires.set_up.opened
