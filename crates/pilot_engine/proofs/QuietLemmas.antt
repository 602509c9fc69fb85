-- Pages that are resident after a call that brings in no page of a client's file.
use Rattle.std.proofs.Common.{◌≡◌, ◌⊎◌, inl, inr, ℕ, ◌+◌, ◌<◌, ◌≤◌, false, true, ◌&&◌, Option, Some, None, refl, ◌∙◌, ap, subst, arith}
use Rattle.std.specs.Prelude.{◌==◌, nat_le, nat_lt, IsSomeAnd}
use Rattle.std.proofs.lemmas.Bool.{and_parts, eqb-true, false≢true}
use Rattle.labelled_disk.specs.File.{File, file_at, size}
use Rattle.frame_pool.specs.Frames.{Slots, HasPage}
use Rattle.flat_machine.specs.declared.call.Call.{Call}
use Rattle.flat_machine.specs.declared.space.FilePage.{FilePage}
use Rattle.flat_machine.specs.declared.space.Space.{Space}
use Rattle.flat_machine.specs.declared.space.Window.{Window}
use Rattle.flat_machine.specs.After.{ends_trace}
use Rattle.flat_machine.specs.At.{shown_at}
use Rattle.flat_machine.specs.IsMachine.{IsMachine}
use Rattle.flat_machine.specs.Machine.{Machine}
use Rattle.flat_machine.specs.Next.{new_id, next}
use Rattle.flat_machine.specs.Space.{shows}
use Rattle.flat_machine.proofs.FileLemmas.{window_file}
use Rattle.flat_machine.proofs.Keep.{window_at}
use Rattle.flat_machine.proofs.KeepNew.{not_new}
use Rattle.flat_machine.proofs.Lists.{In, all_in, any_in, looked_up}
use Rattle.flat_machine.proofs.MoreLaws.{shown_is_there}
use Rattle.session_words.specs.FrameLaws.{HasFrames}
use Rattle.fault_core.specs.Attempt.{IsPresent}
use Rattle.fault_core.specs.Reach.{BringsOwn}
use Rattle.flight_core.specs.Tried.{IsMapped}
use Rattle.pilot_engine.proofs.ShownBefore.{was_shown}

-- a page of a client's file had a frame
was_there : (s t : Slots) → BringsOwn s t → (slot id page : ℕ) → 16 ≤ id → HasPage t slot id page → (was : ℕ) × HasPage s was id page
was_there s t came slot id page client (f, has, (same_id, same_page)) = elim (came.homes f.home (record { slot = slot; frame = f; has = has; at = refl })) [
  | inl held ↦ (held.slot, (held.frame, held.has, (ap (λ h. h.id) held.at ∙ same_id, ap (λ h. h.page) held.at ∙ same_page)))
  | inr own ↦ let last = own.1 in absurd (omega (arith, last, same_id, client))
]

module _ (m : Machine) (h : IsMachine m) where
  -- what a window shows is of a client's file
  shown_client : (page : ℕ) (u : FilePage) → shown_at m.spaces page ≡ Some u → 16 ≤ u.file
  shown_client page u is = by (file_at m.files u.file) refl (shown_is_there m h page u is)
    where
      by : (o : Option File) → file_at m.files u.file ≡ o → IsSomeAnd o (λ f. u.page < size f) → 16 ≤ u.file
      by None at there = absurd there
      by (Some f) at there =
          let found = looked_up (λ x. x.id) m.files u.file f at in
          subst (λ (n : ℕ). 16 ≤ n) found.1 (all_in _ m.files h.ids_given f found.0).above_reserved

  -- no frame has a page of a file that is to come
  new_unframed : (s : Slots) → HasFrames s m.spaces → (slot page : ℕ) → HasPage s slot (new_id m) page → ⊥
  new_unframed s frames slot page (f, has, (same_id, same_page)) =
      elim (frames.known (new_id m) page (record { slot = slot; frame = f; has = has; same_id = same_id; same_page = same_page })) [
        | inl own ↦ let last = own.1 in let first = h.serial_fits.0 in absurd (omega (arith, last, first))
        | inr shown ↦
            let found = any_in (shows (new_id m) page) m.spaces shown in
            by found.0 found.1 found.0.window refl found.2
      ]
    where
      by : (t : Space) → In t m.spaces → (o : Option Window) → t.window ≡ o → shows (new_id m) page (record t { window = o }) ≡ true → ⊥
      by t there None has is = false≢true is
      by t there (Some w) has is =
          let same = eqb-true w.file (new_id m) (and_parts (w.file == new_id m) (nat_le w.first page) (and_parts ((w.file == new_id m) && nat_le w.first page) (nat_lt page (w.first + t.pages)) is).0).0 in
          let file = window_file m.files t.pages w (window_at m.files m.spaces h.whole_windows t w there has) in
          let at = looked_up (λ x. x.id) m.files w.file file.0 file.1 in
          not_new m h file.0 at.0 (at.1 ∙ same)

  module _ (s t : Slots) (frames : HasFrames s m.spaces) (came : BringsOwn s t) where
    -- the windows are those of before
    pub present_same : (page : ℕ) → IsPresent m.spaces t page → IsPresent m.spaces s page
    present_same page (slot, there) =
        let was = was_there s t came slot there.shown.file there.shown.page (shown_client page there.shown there.is_shown) there.has in
        (was.0, record { shown = there.shown; is_shown = there.is_shown; has = was.1 })

    -- they are those after the call
    pub present_next : (c : Call) → ends_trace c ≡ false → (page : ℕ) → IsPresent (next m c).spaces t page → IsPresent m.spaces s page ⊎ IsMapped m c page
    present_next c more page (slot, there) = elim (was_shown m h page there.shown c more there.is_shown) [
      | inl before ↦ inl (present_same page (slot, record { shown = there.shown; is_shown = before; has = there.has }))
      | inr (inl windowed) ↦ inr windowed
      | inr (inr new) ↦
          let first = h.serial_fits.0 in
          let has = subst (λ (n : ℕ). HasPage t slot n there.shown.page) new there.has in
          let was = was_there s t came slot (new_id m) there.shown.page (omega (arith, first)) has in
          absurd (new_unframed s frames was.0 there.shown.page was.1)
    ]
