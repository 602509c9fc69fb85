use Rattle.std.proofs.Common.{◌≡◌, ◌<◌, ℕ, [], Some, arith, refl, subst}
use Rattle.std.specs.Prelude.{All, get_or, slice_set}
use Rattle.std.proofs.lemmas.List.{get_or_default}
use Rattle.frame_pool.specs.Frames.{Frame, Has, changed}
use Rattle.frame_pool.specs.FrameLaws.{filled_of, has_below}
use Rattle.session_words.proofs.FoundLemmas.{above_reserved}
use Rattle.swapper_kernel.specs.Differs.{ChangesAt}
use Rattle.swapper_kernel.specs.Goes.{Goes, this_page}
use Rattle.filer_kernel.specs.View.{accepted, placed, View, view_of}
use Rattle.fault_core.proofs.StoreLemmas.{changed_brings, changed_leaves, changed_slots, changed_touches, dirty_set}
use Rattle.fault_core.proofs.frames.change_in.Given as given
use Rattle.fault_core.proofs.frames.change_in.Goals as goal

pub change-requires-clause-below : goal.change-requires-clause-below
change-requires-clause-below g c =
    let slot = c.requires.slot.has in
    rw c.swapper_over.ensures.value (has_below (view_of c.args.filer.now).slots c.args.slot slot.0 slot.1)

pub change-requires-clause-filled : goal.change-requires-clause-filled
change-requires-clause-filled g c =
    let slot = c.requires.slot.has in
    rw c.swapper_over.ensures.value (filled_of (view_of c.args.filer.now).slots c.args.slot slot.0 slot.1)

abbrev first_view : (g : given.Over) (c : goal.After-filer-1 g) → View
first_view g c = view_of c.args.filer.now

abbrev last_view : (g : given.Over) (c : goal.After-filer-1 g) → View
last_view g c = record { disk = g.D.Disk.state c.change.new.self.disk; slots = c.change.new.self.pool; layout = c.change.new.self.layout; runs = c.args.filer.now.runs }

same_layout : (g : given.Over) (c : goal.After-filer-1 g) → (last_view g c).layout ≡ (first_view g c).layout
same_layout g c = (rw c.swapper_over.ensures.value at c.change.ensures.layout)

new_slots : (g : given.Over) (c : goal.After-filer-1 g) (f : Frame) → Has (view_of c.args.filer.now).slots c.args.slot f → (last_view g c).slots ≡ slice_set (first_view g c).slots c.args.slot (Some (changed f c.args.from c.args.bytes.now))
new_slots g c f has = (rw c.swapper_over.ensures.value at c.change.ensures.frame) f has

change_goes : (g : given.Over) (c : goal.After-filer-1 g) (f : Frame) → Has (view_of c.args.filer.now).slots c.args.slot f
    → Goes (ChangesAt f.home c.args.from c.args.bytes.now) (this_page f.home.id f.home.page) [] (first_view g c).disk (first_view g c).slots (last_view g c).disk (last_view g c).slots
change_goes g c f has = (rw c.swapper_over.ensures.value at c.change.ensures.goes) f has

are_bytes : (g : given.Over) (c : goal.After-filer-1 g) → All (λ b. b < 256) c.args.bytes.now
are_bytes g c k d below =
    let fits = c.type_inv.bytes k in
    let small : get_or c.args.bytes.now k 0 < 256 = omega (arith, fits) in
    subst (λ (n : ℕ). n < 256) (get_or_default c.args.bytes.now k 0 d below) small

pub returns-clause-stored : goal.returns-clause-stored
returns-clause-stored g c = λ m named b id page known has given.
    let now = c.args.filer.now in
    changed_leaves (first_view g c) (last_view g c) (accepted now) (placed now) c.args.slot has.0 has.1 id page has.2 (above_reserved id given) c.args.from c.args.bytes.now
    (same_layout g c) refl (change_goes g c has.0 has.1) (new_slots g c has.0 has.1) m named b known given c.requires.inside (are_bytes g c)

pub returns-clause-dirty : goal.returns-clause-dirty
returns-clause-dirty g c = λ id page has. dirty_set (view_of c.args.filer.now).slots (last_view g c).slots c.args.slot has.0 has.1 c.args.from c.args.bytes.now (new_slots g c has.0 has.1) id page has.2

pub returns-clause-touches : goal.returns-clause-touches
returns-clause-touches g c = λ id page has client.
    let now = c.args.filer.now in
    changed_touches (first_view g c) (last_view g c) (accepted now) (placed now) c.args.slot has.0 has.1 id page has.2 client c.args.from c.args.bytes.now
    (same_layout g c) refl (change_goes g c has.0 has.1) (new_slots g c has.0 has.1)

pub returns-clause-came : goal.returns-clause-came
returns-clause-came g c =
    let own = c.requires.slot in
    let now = c.args.filer.now in
    changed_brings (first_view g c) (last_view g c) (accepted now) (placed now) c.args.slot own.has.0 own.has.1 own.id own.page own.has.2 own.client c.args.from c.args.bytes.now
    (same_layout g c) refl (change_goes g c own.has.0 own.has.1) (new_slots g c own.has.0 own.has.1) _

pub returns-clause-slots : goal.returns-clause-slots
returns-clause-slots g c =
    let own = c.requires.slot in
    let now = c.args.filer.now in
    changed_slots (first_view g c) (last_view g c) (accepted now) (placed now) c.args.slot own.has.0 own.has.1 own.id own.page own.has.2 own.client c.args.from c.args.bytes.now
    (same_layout g c) refl (change_goes g c own.has.0 own.has.1) (new_slots g c own.has.0 own.has.1)
