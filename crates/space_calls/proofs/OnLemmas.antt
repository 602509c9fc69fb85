-- The last pages of files that windows show, where spaces are made, removed and changed.
use Rattle.std.proofs.Common.{◌≡◌, ◌⊎◌, inl, inr, ℕ, Bool, true, false, not, List, Option, Some, None, Result, Ok, Err, refl, sym, ◌∙◌, ap, subst}
use Rattle.std.specs.Prelude.{◌==◌, IfOk, IfSome, OnOk, if◌then◌else◌}
use Rattle.std.proofs.lemmas.Bool.{eqb-true}
use Rattle.labelled_disk.specs.declared.disk.Disk.{Ghosts}
use Rattle.labelled_disk.specs.declared.evidence.Halt.{Halt}
use Rattle.flat_machine.specs.declared.call.Reply.{Reply}
use Rattle.flat_machine.specs.declared.call.Reply.TheVariants.{Done}
use Rattle.flat_machine.specs.declared.space.Space.{Space}
use Rattle.flat_machine.specs.declared.space.Window.{Window}
use Rattle.flat_machine.specs.Next.{change_space, put_space, set_window, with_mode, without_space}
use Rattle.flat_machine.specs.Space.{space_at}
use Rattle.flat_machine.specs.Spaces.{AreSpaces}
use Rattle.flat_machine.proofs.Lists.{In, in_all, in_filter, in_map, looked_up, one_key}
use Rattle.flat_machine.proofs.SpaceEdits.{in_put}
use Rattle.swapper_kernel.specs.Goes.{Pages}
use Rattle.space_tables.specs.declared.shown.Shown.{Shown}
use Rattle.space_tables.specs.Shows.{window_of}
use Rattle.fault_core.specs.declared.core_over.Core.{Core}
use Rattle.fault_core.specs.Core.{kept, state}
use Rattle.fault_core.specs.Lack.{Sees}
use Rattle.space_calls.specs.FilesLaws.{on_wider, shown_here, shown_or, window_of_one, window_on_file}
use Rattle.space_calls.specs.Mapping.{IsLastFrom}
use Rattle.space_calls.specs.Unmapping.{ShowsIn}
use Rattle.space_calls.specs.Sees.{AreOn, IsShown, SeesFiles, StillOn, StillOnOr, last_shown}

module _ (pages : Pages) where
  -- the last page that its window shows is one of these
  abbrev IsOn : Space → Type 0
  IsOn s = IfSome s.window (λ w. pages w.file (last_shown s w))

  module _ (ss : List Space) (on : AreOn pages ss) where
    -- a space more, which has no window
    pub put_on : (x : Space) → x.window ≡ None → AreOn pages (put_space x ss)
    put_on x bare = in_all IsOn (put_space x ss) (λ s there. elim (in_put x ss s there) [
      | inl same ↦ subst IsOn same (subst (λ (o : Option Window). IfSome o (λ w. pages w.file (last_shown x w))) (sym bare) tt)
      | inr was ↦ window_of_one pages ss on s was
    ])

    -- one fewer
    pub without_on : (handle : ℕ) → AreOn pages (without_space handle ss)
    without_on handle = in_all IsOn (without_space handle ss) (λ s there. window_of_one pages ss on s (in_filter (λ t. not (t.handle == handle)) ss s there).0)

    -- one of them is changed
    one_changed : (handle : ℕ) (change : Space → Space) → ((s : Space) → In s ss → s.handle ≡ handle → IsOn s → IsOn (change s)) → AreOn pages (change_space handle change ss)
    one_changed handle change still = in_all IsOn (change_space handle change ss) (λ t there.
        let was = in_map (λ s. if s.handle == handle then change s else s) ss t there in
        subst IsOn was.2 (by was.0 was.1 (was.0.handle == handle) refl (window_of_one pages ss on was.0 was.1)))
      where
        by : (s : Space) → In s ss → (b : Bool) → s.handle == handle ≡ b → IsOn s → IsOn (if b then change s else s)
        by s there true is one = still s there (eqb-true s.handle handle is) one
        by s there false is one = one

    -- another unit
    pub unit_still_on : (handle unit : ℕ) → AreOn pages (change_space handle (λ s. record s { unit = unit }) ss)
    unit_still_on handle unit = one_changed handle (λ s. record s { unit = unit }) (λ s there same one. one)

    -- another window, whose last page is one of these, or none
    pub window_set_on : (handle : ℕ) (o : Option Window) → ((s : Space) → In s ss → s.handle ≡ handle → IfSome o (λ w. pages w.file (last_shown s w))) → AreOn pages (set_window handle o ss)
    window_set_on handle o is = one_changed handle (λ s. record s { window = o }) (λ s there same one. is s there same)

-- one space alone has that handle
pub is_at : (ss : List Space) → AreSpaces ss → (handle : ℕ) (x : Space) → space_at ss handle ≡ Some x → (s : Space) → In s ss → s.handle ≡ handle → x ≡ s
is_at ss are handle x at s there same = let one = looked_up (λ t. t.handle) ss handle x at in one_key (λ t. t.handle) ss are.rise x s one.0 there (one.1 ∙ sym same)

-- the same window in another mode
pub mode_on : (ss : List Space) → AreSpaces ss → (space : ℕ) (shown : Shown) → ShowsIn ss space shown → (writable : Bool) → AreOn (IsShown ss) (set_window space (Some (with_mode writable (window_of shown))) ss)
mode_on ss are space shown (x, at, has) writable =
    window_set_on (IsShown ss) ss (shown_here ss) space (Some (with_mode writable (window_of shown))) (λ s there same.
    subst (λ (t : Space). IsShown ss shown.id (last_shown t (window_of shown))) (is_at ss are space x at s there same) (window_on_file (IsShown ss) ss (shown_here ss) space shown (x, at, has)))

-- a window that shows this file from that page on
pub window_given_on : (ss : List Space) → AreSpaces ss → (space : ℕ) (shown : Shown) (x : Space) → space_at ss space ≡ Some x
    → AreOn (λ file last. IsShown ss file last ⊎ ((file ≡ shown.id) × IsLastFrom ss space shown.page last)) (set_window space (Some (window_of shown)) ss)
window_given_on ss are space shown x at =
    let pages : Pages = λ file last. IsShown ss file last ⊎ ((file ≡ shown.id) × IsLastFrom ss space shown.page last) in
    window_set_on pages ss (shown_or (λ file last. (file ≡ shown.id) × IsLastFrom ss space shown.page last) ss) space (Some (window_of shown)) (λ s there same.
    inr (refl, (x, at, ap (λ (t : Space). last_shown t (window_of shown)) (sym (is_at ss are space x at s there same)))))

-- ---- Answers.

module _ {D A : Type 0} {G : Ghosts D} (old new : Core D A G) where
  -- what is so for whatever spaces are seen
  pub each_still_on : {R : Type 0} (result : Result R Halt) → ((ss : List Space) → Sees (state old) (kept old) old.intervals ss → OnOk result (SeesFiles (IsShown ss) new)) → OnOk result (StillOn old new)
  each_still_on (Ok answer) each = each
  each_still_on (Err e) each = tt

  -- a window on this file was given, from that page on
  pub given_still_on : (space id page : ℕ) (result : Result Reply Halt)
      → ((ss : List Space) → Sees (state old) (kept old) old.intervals ss → IfOk result (λ reply. (reply ≡ Done) × SeesFiles (λ file last. IsShown ss file last ⊎ ((file ≡ id) × IsLastFrom ss space page last)) new))
      → IfOk result (λ reply. StillOnOr (λ ss file last. (reply ≡ Done) × (file ≡ id) × IsLastFrom ss space page last) old new)
  given_still_on space id page (Ok reply) each = λ ss s.
      let given = each ss s in
      let now : List Space = given.1.0 in
      let set : Pages = λ file last. IsShown ss file last ⊎ ((file ≡ id) × IsLastFrom ss space page last) in
      let revealed : Pages = λ file last. IsShown ss file last ⊎ ((reply ≡ Done) × (file ≡ id) × IsLastFrom ss space page last) in
      (now, (given.1.1.0, on_wider set revealed (λ file last one. elim one [ inl was ↦ inl was | inr new ↦ inr (given.0, new.0, new.1) ]) now given.1.1.1))
  given_still_on space id page (Err e) each = tt
