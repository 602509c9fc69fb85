-- Mapping an anonymous file keeps a machine.
use Rattle.std.proofs.Common.{◌≡◌, ◌≢◌, ℕ, ◌+◌, ◌≤◌, Bool, true, false, ◌&&◌, cond, List, map, Option, Some, None, refl, sym, ◌∙◌, ap, subst, arith, eqb}
use Rattle.std.specs.Prelude.{IfSome, IsSomeAnd, IsFalse}
use Rattle.std.specs.Option.{option_map_or}
use Rattle.std.proofs.lemmas.Bool.{eq-eqb, ne_eqb}
use Rattle.std.proofs.lemmas.List.{length-replicate}
use Rattle.labelled_disk.proofs.AscendingLemmas.{at_put}
use Rattle.flat_machine.specs.declared.call.Call.TheVariants.{MapAnonymous}
use Rattle.flat_machine.specs.File.{File, size, file_at, put_file, zero_page}
use Rattle.flat_machine.specs.Space.{Space, Window, space_at}
use Rattle.flat_machine.specs.Machine.{Machine, IsWindow}
use Rattle.flat_machine.specs.IsMachine.{IsMachine}
use Rattle.flat_machine.specs.Refusal.{refusal, no_space, is_root, path_mapped, no_room, no_room_for_space, no_ids}
use Rattle.flat_machine.specs.Next.{next, set_window, mapped_anonymous, new_id, new_file}
use Rattle.flat_machine.proofs.Lists.{In, looked_up}
use Rattle.flat_machine.proofs.TestLemmas.{five_none, of_space_none, path_free, not_root}
use Rattle.flat_machine.proofs.FileLemmas.{window_file}
use Rattle.flat_machine.proofs.KeepNew.{not_new, linked_by_new, files_with_new, next_counter}
use Rattle.flat_machine.proofs.SpaceLemmas.{fitted}
use Rattle.flat_machine.proofs.KeepWindows.{own, win, win_is_set, shares, shares_none, given_spaces, given_alone, given_linked, given_shown, own_free}
use Rattle.flat_machine.proofs.Keep.{join, spaces_of, refused_or, at_there, window_at}

-- the window on a new anonymous file
abbrev given : Machine → Window
given m = record { file = new_id m; first = 0; writable = true; anonymous = true }

module _ (m : Machine) (h : IsMachine m) where
  -- no window shows the new file
  not_shown_new : (t : Space) (v : Window) → In t m.spaces → t.window ≡ Some v → v.file ≢ new_id m
  not_shown_new t v i q e =
      let f = window_file m.files t.pages v (window_at m.files m.spaces h.whole_windows t v i q) in
      let at = looked_up (λ x. x.id) m.files v.file f.0 f.1 in
      not_new m h f.0 at.0 (at.1 ∙ e)

  given_first : (t : Space) → In t m.spaces → (o : Option Window) → t.window ≡ o → shares (Some (given m)) o ≡ false
  given_first t i None q = refl
  given_first t i (Some v) q = ne_eqb v.file (new_id m) (not_shown_new t v i q)

  given_second : (t : Space) → In t m.spaces → (o : Option Window) → t.window ≡ o → shares o (Some (given m)) ≡ false
  given_second t i None q = refl
  given_second t i (Some v) q =
      let a : eqb (new_id m) v.file ≡ false = ne_eqb (new_id m) v.file (λ e. not_shown_new t v i q (sym e)) in
      ap (λ (b : Bool). v.anonymous && b) a ∙ shares_none (Some v)

  given_window : (pages : ℕ) → IsWindow (put_file (new_file m pages 0) m.files) pages (given m)
  given_window pages =
      let f = new_file m pages 0 in
      let here : file_at (put_file f m.files) (new_id m) ≡ Some f =
      at_put f m.files (new_id m) ∙ ap (λ (b : Bool). cond b (Some f) (file_at m.files (new_id m))) (eq-eqb (new_id m) (new_id m) refl) in
      record {
        inside_file = subst (λ (o : Option File). IsSomeAnd o (λ x. 0 + pages ≤ size x)) (sym here) (omega (arith, length-replicate pages zero_page));
        writable_mutable = λ t. subst (λ (o : Option File). IfSome o (λ x. IsFalse x.immutable)) (sym here) refl;
        anonymous_temporary = λ t. subst (λ (o : Option File). IfSome o (λ x. IsFalse x.permanent)) (sym here) refl;
      }

  given_machine : (k : ℕ) (s : Space) → space_at m.spaces k ≡ Some s → k ≢ 0 → path_mapped m.spaces k ≡ None → no_room m (s.pages + 1) ≡ None → no_ids m ≡ None
      → IsMachine (record (mapped_anonymous m s) { spaces = set_window k (Some (given m)) m.spaces })
  given_machine k s is n free room ids =
      let spaces = spaces_of m h in
      let fs = put_file (new_file m s.pages 0) m.files in
      let w = given m in
      let new = map (fitted own (win k (Some w))) m.spaces in
      subst (λ (ss : List Space). IsMachine (record (mapped_anonymous m s) { spaces = ss })) (win_is_set k (Some w) m.spaces)
      (join (record (mapped_anonymous m s) { spaces = new }) h.serial_fits (next_counter m h ids) (files_with_new m h s.pages 0 (omega arith) room ids)
      (given_spaces m.spaces k s w is n (path_free m.spaces k s is free) spaces)
      (given_alone m.spaces k w (λ t i d. given_first t i t.window refl) (λ t i d. given_second t i t.window refl) h.anonymous_alone)
      (given_linked fs m.spaces k s w spaces is (linked_by_new m h s.pages 0 m.spaces h.whole_windows) (given_window s.pages))
      (given_shown m.spaces m.unforced k s w spaces is (own_free m k s h is free) h.unforced_shown) h.unforced_once)

pub map_anonymous_keeps : (space : ℕ) (m : Machine) → IsMachine m → IsMachine (next m (MapAnonymous space))
map_anonymous_keeps space m h = refused_or m (MapAnonymous space) h kept
  where
    kept : refusal m (MapAnonymous space) ≡ None → IsMachine (option_map_or (mapped_anonymous m) (space_at m.spaces space) m)
    kept e =
        let tests = five_none (no_space m.spaces space) (is_root space) (path_mapped m.spaces space) (no_room_for_space m space) (no_ids m) e in
        at_there m (space_at m.spaces space) (mapped_anonymous m) h (λ s is.
        let at = looked_up (λ t. t.handle) m.spaces space s is in
        let room = of_space_none m.spaces space (λ t. no_room m (t.pages + 1)) s is tests.3 in
        subst (λ (k : ℕ). IsMachine (record (mapped_anonymous m s) { spaces = set_window k (Some (given m)) m.spaces })) (sym at.1)
        (given_machine m h space s is (not_root space tests.1) tests.2 room tests.4))
