-- Spaces that are made, removed, divided and looked at.
use Rattle.std.proofs.Common.{◌≡◌, ℕ, [], ◌∷◌, Option, Some, Result, Ok, Err, refl, sym, ◌∙◌, ap}
use Rattle.std.specs.Option.{option_map_or}
use Rattle.labelled_disk.specs.declared.disk.Disk.{Ghosts}
use Rattle.frame_pool.specs.Frames.{ArePages}
use Rattle.flat_machine.specs.declared.call.Call.TheVariants as call
use Rattle.flat_machine.specs.declared.call.Refusal.{Refusal}
use Rattle.flat_machine.specs.declared.call.Reply.TheVariants as reply
use Rattle.flat_machine.specs.declared.space.Space.{Space}
use Rattle.flat_machine.specs.Allows.{place_reply}
use Rattle.flat_machine.specs.Machine.{Machine}
use Rattle.flat_machine.specs.Next.{change_space, put_space, without_space}
use Rattle.flat_machine.specs.Refusal.{first_of, is_root, past_root}
use Rattle.flat_machine.specs.Space.{innermost}
use Rattle.flat_machine.proofs.Keep.{spaces_of}
use Rattle.flat_machine.proofs.KeepSpaces.{make_keeps, remove_keeps}
use Rattle.flat_machine.proofs.KeepWindows.{units_keeps}
use Rattle.flat_machine.proofs.TestLemmas.{four_none, space_there, window_free}
use Rattle.projection_laws.specs.Tests.{add_row, has_children, made, no_space, remove_row, self_mapped, unit_row}
use Rattle.swapper_kernel.specs.Homes.{IsLayout}
use Rattle.space_tables.specs.Stored.{RevealSpaces}
use Rattle.file_manager.specs.declared.volume.Volume.{Volume}
use Rattle.fault_core.specs.declared.core_over.Core.{Core}
use Rattle.fault_core.specs.Core.{state}
use Rattle.filer_kernel.specs.View.{TablesAre, view_of}
use Rattle.table_calls.specs.Answers.{Changes, Retabled, Reveals}
use Rattle.running_words.specs.Running.{Carried, Runs}
use Rattle.running_words.specs.Session.{AreInForm}
use Rattle.space_calls.proofs.CarryLemmas.{answered, declined, done_carried, refused_carried, tables_done, tables_refused}
use Rattle.space_calls.proofs.ShownLemmas.{left_shown, put_shown, refitted_shown, unmapped_bare}

module _ {D A : Type 0} {G : Ghosts D} (c d e : Core D A G) (layout : IsLayout (view_of c.filer).layout) (size : (view_of c.filer).disk.sectors ≡ (view_of c.filer).layout.sectors)
    (form : AreInForm (view_of d.filer).disk) (pages : ArePages (view_of e.filer).slots) (same : e ≡ d) (retabled : Retabled c d) (volume : Volume) (m : Machine) (r : Runs c volume m) where
  module _ (parent long : ℕ) (first : Option ℕ) (answer : Result (ℕ × ℕ) Refusal) where
    -- what the tables answer to a call for a space
    abbrev pub Made : Type 0
    Made = Changes (first_of (add_row m.spaces parent long first))
        (λ at. RevealSpaces (TablesAre (state d)) d.intervals (put_space (made m.spaces parent long first) m.spaces) × (at.0 ≡ (made m.spaces parent long first).handle) × (at.1 ≡ (made m.spaces parent long first).first))
        (RevealSpaces (TablesAre (state d)) d.intervals m.spaces) answer

    pub space_made : (handle at : ℕ) → answer ≡ Ok (handle, at) → Made → Carried m (call.MakeSpace parent long first) e volume (reply.Space handle at)
    space_made handle at is revealed =
        let done = answered (first_of (add_row m.spaces parent long first))
        (λ at. RevealSpaces (TablesAre (state d)) d.intervals (put_space (made m.spaces parent long first) m.spaces) × (at.0 ≡ (made m.spaces parent long first).handle) × (at.1 ≡ (made m.spaces parent long first).first))
        (RevealSpaces (TablesAre (state d)) d.intervals m.spaces) answer (handle, at) is revealed in
        tables_done c d e layout size form pages same retabled volume m r (call.MakeSpace parent long first) (reply.Space handle at) (put_space (made m.spaces parent long first) m.spaces)
        done.0 (λ i. reply.Space (done.1.1 i) (done.1.2 i)) refl (make_keeps parent long first m r.session.stands.is.by.machine)
        (λ id page shown. put_shown m.spaces id page shown (made m.spaces parent long first)) done.1.0

    pub make_refused : (word : Refusal) → answer ≡ Err word → Made → Carried m (call.MakeSpace parent long first) e volume (reply.Refused word)
    make_refused word is revealed =
        let no = declined (first_of (add_row m.spaces parent long first))
        (λ at. RevealSpaces (TablesAre (state d)) d.intervals (put_space (made m.spaces parent long first) m.spaces) × (at.0 ≡ (made m.spaces parent long first).handle) × (at.1 ≡ (made m.spaces parent long first).first))
        (RevealSpaces (TablesAre (state d)) d.intervals m.spaces) answer word is revealed in
        tables_refused c d e layout size form pages same retabled volume m r (call.MakeSpace parent long first) word no.0 no.1

  module _ (handle : ℕ) (answer : Result Unit Refusal) where
    -- what they answer to a call that removes one
    abbrev pub Removed : Type 0
    Removed = Changes (first_of (remove_row m.spaces handle)) (λ u. RevealSpaces (TablesAre (state d)) d.intervals (without_space handle m.spaces)) (RevealSpaces (TablesAre (state d)) d.intervals m.spaces) answer

    pub space_removed : answer ≡ Ok tt → Removed → Carried m (call.RemoveSpace handle) e volume reply.Done
    space_removed is revealed =
        let done = answered (first_of (remove_row m.spaces handle)) (λ u. RevealSpaces (TablesAre (state d)) d.intervals (without_space handle m.spaces)) (RevealSpaces (TablesAre (state d)) d.intervals m.spaces) answer tt is revealed in
        let tests = four_none (no_space m.spaces handle) (is_root handle) (has_children m.spaces handle) (self_mapped m.spaces handle) done.0 in
        let x = space_there m.spaces handle tests.0 in
        let free = window_free m.spaces handle x.0 x.1 tests.3 in
        tables_done c d e layout size form pages same retabled volume m r (call.RemoveSpace handle) reply.Done (without_space handle m.spaces) done.0 refl refl (remove_keeps handle m r.session.stands.is.by.machine)
        (λ id page shown.
        left_shown m.spaces id page shown (spaces_of m r.session.stands.is.by.machine) handle x.0 x.1
        (unmapped_bare m.spaces id page shown (spaces_of m r.session.stands.is.by.machine) handle x.0 x.1 free)) done.1

    pub remove_refused : (word : Refusal) → answer ≡ Err word → Removed → Carried m (call.RemoveSpace handle) e volume (reply.Refused word)
    remove_refused word is revealed =
        let no = declined (first_of (remove_row m.spaces handle)) (λ u. RevealSpaces (TablesAre (state d)) d.intervals (without_space handle m.spaces)) (RevealSpaces (TablesAre (state d)) d.intervals m.spaces) answer word is revealed in
        tables_refused c d e layout size form pages same retabled volume m r (call.RemoveSpace handle) word no.0 no.1

  module _ (handle unit : ℕ) (answer : Result Unit Refusal) where
    -- what they answer to a call that sets a unit
    abbrev pub Refitted : Type 0
    Refitted = Changes (first_of (unit_row m.spaces handle unit)) (λ u. RevealSpaces (TablesAre (state d)) d.intervals (change_space handle (λ s. record s { unit = unit }) m.spaces)) (RevealSpaces (TablesAre (state d)) d.intervals m.spaces) answer

    pub unit_set : answer ≡ Ok tt → Refitted → Carried m (call.Units handle unit) e volume reply.Done
    unit_set is revealed =
        let done = answered (first_of (unit_row m.spaces handle unit)) (λ u. RevealSpaces (TablesAre (state d)) d.intervals (change_space handle (λ s. record s { unit = unit }) m.spaces)) (RevealSpaces (TablesAre (state d)) d.intervals m.spaces) answer tt is revealed in
        tables_done c d e layout size form pages same retabled volume m r (call.Units handle unit) reply.Done (change_space handle (λ s. record s { unit = unit }) m.spaces) done.0 refl refl
        (units_keeps handle unit m r.session.stands.is.by.machine) (λ id page shown. refitted_shown m.spaces id page shown handle unit) done.1

    pub unit_refused : (word : Refusal) → answer ≡ Err word → Refitted → Carried m (call.Units handle unit) e volume (reply.Refused word)
    unit_refused word is revealed =
        let no = declined (first_of (unit_row m.spaces handle unit)) (λ u. RevealSpaces (TablesAre (state d)) d.intervals (change_space handle (λ s. record s { unit = unit }) m.spaces)) (RevealSpaces (TablesAre (state d)) d.intervals m.spaces) answer word is revealed in
        tables_refused c d e layout size form pages same retabled volume m r (call.Units handle unit) word no.0 no.1

-- ---- The innermost space.

module _ {D A : Type 0} {G : Ghosts D} (d : Core D A G) (volume : Volume) (m : Machine) (r : Runs d volume m) (page : ℕ) (answer : Result (ℕ × ℕ × ℕ) Refusal) where
  -- what the tables answer to a call that asks for it
  abbrev pub Placed : Type 0
  Placed = Reveals (first_of (past_root page ∷ [])) (λ at. (s : Space) × (innermost m.spaces page ≡ Some s) × (at ≡ (s.handle, s.first, s.pages))) answer

  pub space_placed : (handle first pages : ℕ) → answer ≡ Ok (handle, first, pages) → Placed → Carried m (call.Place page) d volume (reply.Place handle first pages)
  space_placed handle first pages is revealed =
      let done = answered (first_of (past_root page ∷ [])) (λ at. (s : Space) × (innermost m.spaces page ≡ Some s) × (at ≡ (s.handle, s.first, s.pages))) (Unit {0}) answer (handle, first, pages) is revealed in
      let same : (handle, first, pages) ≡ (done.1.0.handle, done.1.0.first, done.1.0.pages) = done.1.2 in
      let revealed : reply.Place handle first pages ≡ place_reply done.1.0 = ap (λ (at : ℕ × ℕ × ℕ). reply.Place at.0 at.1 at.2) same in
      done_carried d volume m (call.Place page) (reply.Place handle first pages) done.0
      (revealed ∙ sym (ap (λ (o : Option Space). option_map_or place_reply o reply.Nothing) done.1.1)) r

  pub place_refused : (word : Refusal) → answer ≡ Err word → Placed → Carried m (call.Place page) d volume (reply.Refused word)
  place_refused word is revealed =
      refused_carried d volume m (call.Place page) word
      (declined (first_of (past_root page ∷ [])) (λ at. (s : Space) × (innermost m.spaces page ≡ Some s) × (at ≡ (s.handle, s.first, s.pages))) (Unit {0}) answer word is revealed).0 r
