-- A reference to a page that is at hand.
use Rattle.std.proofs.Common.{◌≡◌, ◌≢◌, ◌∙◌, inl, ℕ, ◌+◌, ◌/◌, ◌%◌, ◌≤◌, Bool, true, false, List, [], length, Some, Option, refl, sym, subst}
use Rattle.std.specs.Prelude.{IfSome, None, find, if◌then◌else◌}
use Rattle.std.proofs.lemmas.Bool.{true≢false}
use Rattle.std.proofs.lemmas.Option.{none-some, same_Some}
use Rattle.labelled_disk.specs.Sectors.{Sector}
use Rattle.file_map.specs.FileMap.{Triples}
use Rattle.frame_pool.specs.Frames.{Slots, HasPage}
use Rattle.flat_machine.specs.declared.space.Space.{Space}
use Rattle.swap_units.specs.declared.interval.Interval.{Interval}
use Rattle.swap_units.specs.declared.mode.Mode.{Mode}
use Rattle.swap_units.specs.declared.mode.Mode.TheVariants.{Unmapped, Mapped}
use Rattle.swap_units.specs.Mode.{is_mapped, is_read_only, is_writable}
use Rattle.swap_units.specs.Unit.{has_page}
use Rattle.fault_core.specs.declared.reference.Access.TheVariants as access
use Rattle.fault_core.specs.Access.{Shows, access_of, is_load_only, last_page, refused_by}
use Rattle.fault_core.specs.Attempt.{ArePresent, IsHere}
use Rattle.fault_core.specs.Kept.{AreApart, IsKept}
use Rattle.swapper_kernel.specs.Goes.{IsDirty, this_page}
use Rattle.session_words.specs.CellLaws.{IsTouched, IsTouchedOrOwn, Stores}
use Rattle.fault_core.specs.Lack.{Sees}
use Rattle.fault_core.specs.Moves.{AreSeen, Leaves, StoresAs, client_page, of_reference}
use Rattle.fault_core.specs.Ready.{IsAtHand, IsChanged}
use Rattle.fault_core.specs.Revealed.{Revealed}
use Rattle.fault_core.specs.Touch.{Touches}
use Rattle.fault_core.specs.Unit.{IsReady, IsResident, IsShownDirty, IsSlotOf, IsWhole, file_page}
use Rattle.filer_kernel.specs.View.{GoesTo, HasMemory, View}
use Rattle.fault_core.proofs.AccessLemmas.{access_shown, first_touched}
use Rattle.fault_core.proofs.AttemptLemmas.{all_present, here_stays, slot_shown, slot_stays}
use Rattle.fault_core.proofs.BeforeLemmas.{touches_wider}
use Rattle.fault_core.proofs.KeptLemmas.{ready_found}
use Rattle.fault_core.proofs.LeaveLemmas.{goes_revealed, revealed_leaves, revealed_stands, stored_on_one, touched_or_own}
use Rattle.fault_core.proofs.NeverBlamesLemmas.{sees_touched}
use Rattle.fault_core.proofs.PieceLemmas.{one_page}
use Rattle.fault_core.proofs.ShowLemmas.{seen_of, shown_is}

-- ---- What an interval lets through.

pub writable_mapped : (m : Mode) → is_writable m ≡ true → is_mapped m ≡ true
writable_mapped Unmapped is = absurd (true≢false (sym is))
writable_mapped (Mapped writable anonymous) is = refl

pub writable_stored : (m : Mode) → is_writable m ≡ true → is_read_only m ≡ false
writable_stored Unmapped is = refl
writable_stored (Mapped writable anonymous) is = rw is refl

-- ---- A slot that was found is that of a page at hand.

pub at_hand : (kept : List Interval) (slots : Slots) (writes : Bool) (address count : ℕ) (x : Interval) → IsKept kept x → Shows x (address / 512) → (writes ≡ true → is_load_only x ≡ false) → address % 512 + count ≤ 512
    → (found : Option ℕ) → IfSome found (λ i. HasPage slots i x.id (file_page x (address / 512))) → (found ≢ None → IsWhole slots x (address / 512)) → IfSome found (IsAtHand kept slots writes address count)
at_hand kept slots writes address count x is_kept shows allowed inside None has whole = tt
at_hand kept slots writes address count x is_kept shows allowed inside (Some i) has whole = record {
  interval = x;
  is_kept = is_kept;
  shows = shows;
  allowed = allowed;
  whole = whole (λ none. none-some i (sym none));
  has = has;
  inside = inside;
}

pub let_writable : (m : Mode) → is_mapped m ≡ true → is_read_only m ≡ false → is_writable m ≡ true
let_writable Unmapped is allowed = is
let_writable (Mapped true anonymous) is allowed = refl
let_writable (Mapped false anonymous) is allowed = absurd (true≢false allowed)

-- ---- What is known of it.

module _ {kept : List Interval} {slots : Slots} {writes : Bool} {address count slot : ℕ} (h : IsAtHand kept slots writes address count slot) where
  -- where no two kept intervals share a page, its interval is the one that is looked up
  pub hand_looked : AreApart kept → find (has_page (address / 512)) kept ≡ Some h.interval
  hand_looked apart =
      let ready : IsReady kept slots (address / 512) = record { interval = h.interval; is_kept = h.is_kept; holds = h.shows.holds; mapped = h.shows.mapped; whole = h.whole } in
      ready_found kept slots (address / 512) ready apart

  pub hand_same : AreApart kept → (x : Interval) → find (has_page (address / 512)) kept ≡ Some x → h.interval ≡ x
  hand_same apart x found = same_Some h.interval x (sym (hand_looked apart) ∙ found)

  pub hand_seen : {v : View} {n : ℕ} {m : List Sector} {named : Triples} {ss : List Space} → Revealed v kept n m named ss → AreSeen ss named m h.interval
  hand_seen {m = m} {named = named} r = seen_of r.tables h.interval (r.cached h.interval h.is_kept) h.shows.mapped named m r.stored

  module _ (some : 1 ≤ count) where
    pub hand_last : address / 512 ≡ last_page address count
    hand_last = one_page address count some h.inside

    pub shows_last : Shows h.interval (last_page address count)
    shows_last = subst (Shows h.interval) hand_last h.shows

    pub hand_ready : IsReady kept slots (last_page address count)
    hand_ready = record {
      interval = h.interval;
      is_kept = h.is_kept;
      holds = shows_last.holds;
      mapped = h.shows.mapped;
      whole = subst (IsWhole slots h.interval) hand_last h.whole;
    }

    pub hand_here : IsHere kept slots (last_page address count)
    hand_here = record {
      interval = h.interval;
      is_kept = h.is_kept;
      holds = shows_last.holds;
      mapped = h.shows.mapped;
      resident = subst (λ (page : ℕ). IsResident slots h.interval.id (file_page h.interval page)) hand_last (slot, h.has);
    }

    pub hand_present : {v : View} {n : ℕ} {m : List Sector} {named : Triples} {ss : List Space} → Revealed v kept n m named ss → ArePresent ss slots address count
    hand_present {ss = ss} r =
        let own = slot_shown slots h.interval (address / 512) (hand_seen r) h.shows slot h.has in
        all_present ss slots address count slot slot own (subst (λ (page : ℕ). IsSlotOf ss slots page slot) hand_last own)

    not_refused : (w : Bool) → (w ≡ true → is_load_only h.interval ≡ false)
        → access.Done ≡ refused_by None (if w then (if is_load_only h.interval then Some (address / 512) else (if is_load_only h.interval then Some (last_page address count) else None)) else None)
    not_refused false allowed = refl
    not_refused true allowed = rw (allowed refl) refl

    pub hand_granted : {v : View} {n : ℕ} {m : List Sector} {named : Triples} {ss : List Space} → Revealed v kept n m named ss → access.Done ≡ access_of ss writes address count
    hand_granted {ss = ss} r =
        let of = r.cached h.interval h.is_kept in
        access_shown ss writes address count r.tables h.interval h.interval of of h.shows shows_last access.Done (not_refused writes h.allowed)

-- ---- A store to it.

module _ {kept : List Interval} {address : ℕ} {bytes : List ℕ} {v w : View} (h : IsChanged kept address bytes v w) where
  pub changed_clients : Touches client_page v w
  changed_clients =
      let client = (h.hand.shows.formed.shows h.hand.shows.mapped).0 in
      touches_wider (this_page h.hand.interval.id (file_page h.hand.interval (address / 512))) client_page (λ id page own. rw own.0 client) h.touches

  pub changed_sees : {n : ℕ} {ss : List Space} → Sees v kept n ss → Sees w kept n ss
  changed_sees s = sees_touched s (this_page h.hand.interval.id (file_page h.hand.interval (address / 512))) w h.touches

  -- the page is one that a window shows where the bytes are stored
  pub changed_shown : {n : ℕ} {ss : List Space} → Sees v kept n ss → Touches (IsTouched ss address (length bytes)) v w
  changed_shown {ss = ss} s =
      let x = h.hand.interval in
      let page = address / 512 in
      let shown = shown_is s.tables x (s.cached x h.hand.is_kept) page h.hand.shows.holds h.hand.shows.mapped in
      touches_wider (this_page x.id (file_page x page)) (IsTouched ss address (length bytes))
      (λ id own_page own. record { k = 0; virtual = page; touched = first_touched page (last_page address (length bytes)); shown = rw (own.0, own.1) shown }) h.touches

  module _ {n : ℕ} {m : List Sector} {named : Triples} {ss : List Space} (r : Revealed v kept n m named ss) where
    pub changed_leaves : Leaves (Stores ss address bytes) m named r.bytes w
    changed_leaves =
        let seen = hand_seen h.hand r in
        let own = seen.stored (address / 512) h.hand.shows.holds in
        stored_on_one address bytes h.hand.interval seen h.hand.shows.holds h.hand.inside (h.stored m named r.bytes r.known own.of_file)

    pub changed_known : (k : List Sector) → HasMemory w k → Revealed w kept n k named ss
    changed_known k stands = revealed_stands (revealed_leaves r changed_leaves) k stands

  module _ (some : 1 ≤ length bytes) where
    pub changed_ready : IsReady kept w.slots (last_page address (length bytes))
    changed_ready =
        let ready = hand_ready h.hand some in
        record {
          interval = ready.interval;
          is_kept = ready.is_kept;
          holds = ready.holds;
          mapped = ready.mapped;
          whole = λ other own. let there = ready.whole other own in (there.0, h.slots there.0 ready.interval.id (file_page ready.interval other) there.1);
        }

    pub changed_here : IsHere kept w.slots (last_page address (length bytes))
    changed_here = here_stays h.slots (hand_here h.hand some)

    pub changed_present : {n : ℕ} {m : List Sector} {named : Triples} {ss : List Space} → Revealed v kept n m named ss → ArePresent ss w.slots address (length bytes)
    changed_present r = λ k page here. let own = hand_present h.hand some r k page here in (own.0, slot_stays h.slots own.1)

    module _ {n : ℕ} {m : List Sector} {named : Triples} {ss : List Space} (r : Revealed v kept n m named ss) where
      pub changed_dirty : IsShownDirty ss w.slots (last_page address (length bytes))
      changed_dirty =
          let x = h.hand.interval in
          let seen = hand_seen h.hand r in
          record {
            shown = record { file = x.id; page = file_page x (last_page address (length bytes)) };
            is_shown = seen.shown (last_page address (length bytes)) (shows_last h.hand some).holds;
            dirty = subst (λ (q : ℕ). IsDirty w.slots x.id (file_page x q)) (hand_last h.hand some) h.dirty;
          }

      pub changed_goes : GoesTo (StoresAs access.Done ss address bytes) (IsTouchedOrOwn ss address (length bytes)) [] v w
      changed_goes =
          let x = h.hand.interval in
          let count = length bytes in
          let seen = hand_seen h.hand r in
          let l = changed_leaves r in
          goes_revealed (StoresAs access.Done ss address bytes) (of_reference x x address count) (IsTouchedOrOwn ss address count)
          (touches_wider (this_page x.id (file_page x (address / 512))) (of_reference x x address count) (λ id page own. inl own) h.touches)
          (touched_or_own ss named m x x address count seen seen h.hand.shows.holds (shows_last h.hand some).holds) r.known.stands l.memory l.known.stands l.changed
