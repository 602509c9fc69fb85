-- A machine without a window of one of its spaces.
use Rattle.std.proofs.Common.{◌≡◌, ℕ, Bool, true, false, not, List, Option, Some, None, refl, sym, ◌∙◌, ap, subst}
use Rattle.std.specs.Prelude.{◌==◌, if◌then◌else◌}
use Rattle.std.specs.Option.{option_map_or}
use Rattle.std.proofs.lemmas.Bool.{and_parts, eqb-true}
use Rattle.std.proofs.lemmas.Option.{none-some, same_Some}
use Rattle.flat_machine.specs.declared.call.Call.TheVariants as call
use Rattle.flat_machine.specs.declared.space.FilePage.{FilePage}
use Rattle.flat_machine.specs.declared.space.Space.{Space}
use Rattle.flat_machine.specs.declared.space.Window.{Window}
use Rattle.flat_machine.specs.IsMachine.{IsMachine}
use Rattle.flat_machine.specs.Machine.{IsWindow, Machine}
use Rattle.flat_machine.specs.Next.{is_same_page, next, set_window, unmapped, without_window_of}
use Rattle.flat_machine.specs.Refusal.{first_of}
use Rattle.flat_machine.specs.Settled.{is_unforced}
use Rattle.flat_machine.specs.Space.{shows, space_at}
use Rattle.flat_machine.proofs.Keep.{files_of, join, linked_by, spaces_of, window_at}
use Rattle.flat_machine.proofs.KeepUnmap.{unmap_keeps}
use Rattle.flat_machine.proofs.Lists.{In, any_in, filter_in, in_any, in_map, looked_up}
use Rattle.projection_laws.specs.Spaces.{MayHaveWindow}
use Rattle.projection_laws.specs.Tests.{window_row}
use Rattle.projection_laws.proofs.Passes.{window_passes}
use Rattle.space_calls.specs.Unmapping.{without_window}
use Rattle.space_calls.proofs.CarryLemmas.{next_done}

-- ---- The space.

pub row_passed : (ss : List Space) (k : ℕ) (s : Space) (w : Window) → space_at ss k ≡ Some s → s.window ≡ Some w → first_of (window_row ss k) ≡ None
row_passed ss k s w at has = rw (at, has) refl

module _ (m : Machine) (is : IsMachine m) (k : ℕ) (s : Space) (w : Window) (at : space_at m.spaces k ≡ Some s) (has : s.window ≡ Some w) where
  pub named : s.handle ≡ k
  named = (looked_up (λ t. t.handle) m.spaces k s at).1

  pub may_have : MayHaveWindow m.spaces s
  may_have =
      let may = window_passes m.spaces k (spaces_of m is) (row_passed m.spaces k s w at has) in
      let same : may.0 ≡ s = same_Some may.0 s (sym (subst (λ (n : ℕ). space_at m.spaces n ≡ Some may.0) may.1 may.2.there) ∙ at) in
      subst (MayHaveWindow m.spaces) same may.2

  -- ---- The machine.

  gone_is : next m (call.Unmap k) ≡ unmapped m s
  gone_is = next_done m (call.Unmap k) (row_passed m.spaces k s w at has) ∙ ap (λ (o : Option Space). option_map_or (unmapped m) o m) at

  gone : IsMachine (record (unmapped m s) { spaces = set_window k None m.spaces })
  gone = subst (λ (n : ℕ). IsMachine (record (unmapped m s) { spaces = set_window n None m.spaces })) named (subst IsMachine gone_is (unmap_keeps k m is))

  -- the file stays: each window that is left is on it as it was
  pub taken_machine : IsMachine (without_window k s m)
  taken_machine =
      let kept = record (unmapped m s) { spaces = set_window k None m.spaces } in
      join (without_window k s m) is.serial_fits is.counter_fits (files_of m is) (spaces_of kept gone) gone.anonymous_alone
      (linked_by m.files (set_window k None m.spaces) (λ x v i e.
      let r = in_map (λ t. if t.handle == k then record t { window = None } else t) m.spaces x i in
      by r.0 (r.0.handle == k) x v r.1 r.2 e)) gone.unforced_shown gone.unforced_once
    where
      by : (y : Space) (b : Bool) (x : Space) (v : Window) → In y m.spaces → (if b then record y { window = None } else y) ≡ x → x.window ≡ Some v → IsWindow m.files x.pages v
      by y true x v i same e = absurd (none-some v (ap (λ (t : Space). t.window) same ∙ e))
      by y false x v i same e = subst (λ (t : Space). IsWindow m.files t.pages v) same (window_at m.files m.spaces is.whole_windows y v i (ap (λ (t : Space). t.window) same ∙ e))

-- ---- What is unforced.

-- a page that the window doesn't show stays unforced
pub still_unforced : (s : Space) (us : List FilePage) (id page : ℕ) → is_unforced us id page ≡ true → shows id page s ≡ false → is_unforced (without_window_of s us) id page ≡ true
still_unforced s us id page is bare =
    let u : FilePage = record { file = id; page = page } in
    let r = any_in (is_same_page u) us is in
    let v : FilePage = r.0 in
    let both = and_parts (id == v.file) (page == v.page) r.2 in
    let file : id ≡ v.file = eqb-true id v.file both.0 in
    let number : page ≡ v.page = eqb-true page v.page both.1 in
    let hidden : shows v.file v.page s ≡ false = sym (λ i. shows (file i) (number i) s) ∙ bare in
    in_any (is_same_page u) (without_window_of s us) v (filter_in (λ x. not (shows x.file x.page s)) us v r.1 (ap not hidden)) r.2
