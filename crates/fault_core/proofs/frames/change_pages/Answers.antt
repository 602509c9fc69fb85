use Rattle.std.proofs.Common.{◌∙◌, ◌/◌, ◌%◌, ◌+◌, ◌-◌, inl, inr, ℕ, List, length, take, subst, arith}
use Rattle.swapper_kernel.specs.Goes.{this_page}
use Rattle.swapper_kernel.specs.HaltLaws.{brings_then}
use Rattle.session_words.specs.CellLaws.{StoresAt}
use Rattle.fault_core.specs.Moves.{Leaves}
use Rattle.fault_core.specs.Attempt.{either}
use Rattle.fault_core.specs.Unit.{IsSlotOf}
use Rattle.filer_kernel.specs.View.{accepted, view_of}
use Rattle.fault_core.proofs.BeforeLemmas.{touches_then, touches_wider}
use Rattle.fault_core.proofs.MovedLemmas.{client_stays, of_a_file, written_both, written_one}
use Rattle.fault_core.proofs.PieceLemmas.{last_is_next, one_page}
use Rattle.fault_core.proofs.frames.change_pages.Goals as goal

-- ---- On one page.

pub returns-then-bytes-room-clause-stored : goal.returns-then-bytes-room-clause-stored
returns-then-bytes-room-clause-stored g c = λ m named b ss known stored first last.
    let small = c.if-bytes-room.true in
    written_one c.args.address c.args.bytes.now first (omega (arith, small)) (c.change_in.ensures.stored m named b first.shown.file first.shown.page known first.has (of_a_file stored first))

pub returns-then-bytes-room-clause-dirty : goal.returns-then-bytes-room-clause-dirty
returns-then-bytes-room-clause-dirty g c = λ ss first last.
    let small = c.if-bytes-room.true in
    let page = one_page c.args.address (length c.args.bytes.now) c.requires.some (omega (arith, small)) in
    record { shown = first.shown; is_shown = rw (← page) first.is_shown; dirty = c.change_in.ensures.dirty first.shown.file first.shown.page first.has }

pub returns-then-bytes-room-clause-touches : goal.returns-then-bytes-room-clause-touches
returns-then-bytes-room-clause-touches g c = λ i p j q first last high also.
    touches_wider (this_page i p) (either i p j q) (λ id page own. inl own) (c.change_in.ensures.touches i p first high)

-- ---- On two pages.

pub change_in-requires-3-clause-slot : goal.change_in-requires-3-clause-slot
change_in-requires-3-clause-slot g c = client_stays c.change_in-2.ensures.slots c.requires.last

pub returns-clause-stored : goal.returns-clause-stored
returns-clause-stored g c = λ m named b ss known stored first last.
    let past = c.if-bytes-room.false in
    let page = last_is_next c.args.address (length c.args.bytes.now) c.requires.few (omega (arith, past)) in
    let next : IsSlotOf ss (view_of c.args.filer.now).slots (c.args.address / 512 + 1) c.args.last = rw page last in
    let low = c.change_in-2.ensures.stored m named b first.shown.file first.shown.page known first.has (of_a_file stored first) in
    let l : Leaves (StoresAt first.shown.file first.shown.page (c.args.address % 512) (take (512 - c.args.address % 512) c.args.bytes.now)) m named b (view_of c.change_in-2.new.filer) =
    subst (λ (bs : List ℕ). Leaves (StoresAt first.shown.file first.shown.page (c.args.address % 512) bs) m named b (view_of c.change_in-2.new.filer)) c.split_at.ensures.front low in
    let high = c.change_in-3.ensures.stored l.memory named b next.shown.file next.shown.page l.known (c.change_in-2.ensures.slots c.args.last next.shown.file next.shown.page next.has) (of_a_file stored next) in
    written_both c.args.address c.args.bytes.now first next (omega (arith, past)) l
    (subst (λ (bs : List ℕ). Leaves (StoresAt next.shown.file next.shown.page 0 bs) l.memory named b (view_of c.change_in-3.new.filer)) c.split_at.ensures.back high)

pub returns-clause-dirty : goal.returns-clause-dirty
returns-clause-dirty g c = λ ss first last. record {
  shown = last.shown;
  is_shown = last.is_shown;
  dirty = c.change_in-3.ensures.dirty last.shown.file last.shown.page (c.change_in-2.ensures.slots c.args.last last.shown.file last.shown.page last.has);
}

pub returns-clause-touches : goal.returns-clause-touches
returns-clause-touches g c = λ i p j q first last high also.
    touches_then (view_of c.args.filer.now) (view_of c.change_in-2.new.filer) (accepted c.args.filer.now) (touches_wider (this_page i p) (either i p j q) (λ id page own. inl own) (c.change_in-2.ensures.touches i p first high))
    (view_of c.change_in-3.new.filer) (touches_wider (this_page j q) (either i p j q) (λ id page own. inr own) (c.change_in-3.ensures.touches j q (c.change_in-2.ensures.slots c.args.last j q last) also))

pub returns-clause-came : goal.returns-clause-came
returns-clause-came g c = brings_then c.change_in-2.ensures.came c.change_in-3.ensures.came

pub returns-clause-slots : goal.returns-clause-slots
returns-clause-slots g c = λ i id page has. c.change_in-3.ensures.slots i id page (c.change_in-2.ensures.slots i id page has)

pub returns-clause-disk : goal.returns-clause-disk
returns-clause-disk g c = c.change_in-3.ensures.disk ∙ c.change_in-2.ensures.disk
