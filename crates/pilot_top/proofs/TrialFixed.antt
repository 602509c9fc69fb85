-- A trial gets one list of replies.
use Rattle.std.proofs.Common.{◌≡◌, ℕ, zero, suc, true, List, [], ◌∷◌, ◌++◌, length, map, replicate, Some, None, refl, sym, ◌∙◌, arith, false, ◌+◌, ◌≤◌, ap, subst}
use Rattle.std.specs.Prelude.{fold, nat_lt, ◌==◌, if◌then◌else◌}
use Rattle.std.specs.List.{AllByRecursion, range_with_len}
use Rattle.std.proofs.lemmas.List.FromFn.{length-range_with_len}
use Rattle.labelled_disk.specs.FilesOn.{put_file}
use Rattle.labelled_disk.specs.Layout.{IsCount, capacity}
use Rattle.flat_machine.specs.declared.call.Call.{Call}
use Rattle.flat_machine.specs.declared.call.Call.TheVariants.{Create, MakeSpace, Map}
use Rattle.flat_machine.specs.declared.call.Reply.{Reply}
use Rattle.flat_machine.specs.After.{AllowsAll}
use Rattle.flat_machine.specs.File.{File, byte, zero_page}
use Rattle.flat_machine.specs.Form.{IsTyped}
use Rattle.flat_machine.specs.IsMachine.{IsMachine}
use Rattle.flat_machine.specs.Machine.{Machine, used}
use Rattle.flat_machine.specs.Next.{change, new_file, next}
use Rattle.flat_machine.specs.Start.{opened}
use Rattle.flat_machine.proofs.NextLemmas.{next_keeps_machine}
use Rattle.flat_machine.proofs.StartLemmas.{opened_is_machine}
use Rattle.trace_maker.specs.Fixed.{AreKnown, IsKnown, with_room}
use Rattle.trace_maker.proofs.FixedLemmas.{Keeps, chosen, keeps, replies_fixed}
use Rattle.trace_maker.proofs.RoomLemmas.{InAnyRoom, after_room, allowed_room, in_any_room}
use Rattle.pilot_top.specs.Trial.{IsTrial, after_calls, drawn_calls, empty_volume, first_calls}

-- the replies after those to some calls
allowed_rest : (m : Machine) (xs ys : List Call) (rs ss : List Reply) → length rs ≡ length xs → AllowsAll m (map Some (xs ++ ys)) (rs ++ ss) → AllowsAll (after_calls m xs) (map Some ys) ss
allowed_rest m [] ys [] ss long all = all
allowed_rest m [] ys (r ∷ rs) ss long all = absurd (omega (arith, long))
allowed_rest m (x ∷ xs) ys [] ss long all = absurd (omega (arith, long))
allowed_rest m (x ∷ xs) ys (r ∷ rs) ss long all = allowed_rest (next m x) xs ys rs ss (omega (arith, long)) all.1

-- a new file has zeros alone
zeros_known : (n : ℕ) → AllByRecursion IsKnown (replicate n (byte 0))
zeros_known zero = tt
zeros_known (suc n) = ((0, refl), zeros_known n)

page_known : AllByRecursion IsKnown zero_page
unfolding zero_page
page_known = zeros_known 512

pages_known : (n : ℕ) → AllByRecursion (AllByRecursion IsKnown) (replicate n zero_page)
pages_known zero = tt
pages_known (suc n) = (page_known, pages_known n)

put_known : (f : File) (files : List File) → AllByRecursion (AllByRecursion IsKnown) f.pages → AreKnown files → AreKnown (put_file f files)
put_known f [] own known = (own, tt)
put_known f (g ∷ gs) own known =
    chosen AreKnown (nat_lt f.id g.id) (f ∷ g ∷ gs) (if f.id == g.id then f ∷ gs else g ∷ put_file f gs) (own, known)
    (chosen AreKnown (f.id == g.id) (f ∷ gs) (g ∷ put_file f gs) (own, known.1) (known.0, put_known f gs own known.1))

record IsFit (c : Call) : Type 0 where
  typed : IsTyped c
  keeps : Keeps c

ready : (calls : List Call) → AllByRecursion IsFit calls → (m : Machine) → IsMachine m → AreKnown m.files → IsMachine (after_calls m calls) × AreKnown (after_calls m calls).files
ready [] fit m is known = (is, known)
ready (c ∷ cs) fit m is known = ready cs fit.1 (next m c) (next_keeps_machine m c fit.0.typed is) (fit.0.keeps m known)

first_fit : AllByRecursion IsFit first_calls
first_fit = (create, (create, (create, (create, (space, (space, (space, (space, (window 1 4294967297, (window 2 4294967298, (window 3 4294967299, (window 4 4294967300, tt))))))))))))
  where
    create : IsFit (Create 16 0)
    create = record { typed = omega arith; keeps = keeps (Create 16 0) (λ m known. put_known (new_file m 16 0) m.files (pages_known 16) known) }

    space : IsFit (MakeSpace 0 16 None)
    space = record { typed = tt; keeps = keeps (MakeSpace 0 16 None) (λ m known. known) }

    window : (s id : ℕ) → IsFit (Map s id 0 true)
    window s id = record { typed = tt; keeps = keeps (Map s id 0 true) (λ m known. known) }

-- The capacity has no part in it.

abbrev made : Machine → Machine
made m = next m (Create 16 0)

-- where there is room, the file is made
step : (m : Machine) → nat_lt m.capacity (used m + 17) ≡ false → (m.counter == 4294967295) ≡ false → made m ≡ change m (Create 16 0)
step m room ids = rw (room, ids) refl

-- the machine with four files
abbrev four : ℕ → Machine
four room = change (change (change (change (opened 1 1 room) (Create 16 0)) (Create 16 0)) (Create 16 0)) (Create 16 0)

four_made : (room : ℕ) → 68 ≤ room → made (made (made (made (opened 1 1 room)))) ≡ four room
four_made room enough =
    let m0 = opened 1 1 room in
    let m1 = change m0 (Create 16 0) in
    let m2 = change m1 (Create 16 0) in
    let m3 = change m2 (Create 16 0) in
    ap (λ (m : Machine). made (made (made m))) (step m0 (below 17 (omega (arith, enough))) refl) ∙ ap (λ (m : Machine). made (made m)) (step m1 (below 34 (omega (arith, enough))) refl)
    ∙ ap made (step m2 (below 51 (omega (arith, enough))) refl) ∙ step m3 (below 68 enough) refl
  where
    below : (k : ℕ) → k ≤ room → nat_lt room k ≡ false
    below k least = let a : nat_lt room k ≡ false = grind (arith, least) in a

-- the calls after those
abbrev rest_calls : List Call
rest_calls =
    MakeSpace 0 16 None ∷ MakeSpace 0 16 None ∷ MakeSpace 0 16 None ∷ MakeSpace 0 16 None
    ∷ Map 1 4294967297 0 true ∷ Map 2 4294967298 0 true ∷ Map 3 4294967299 0 true ∷ Map 4 4294967300 0 true ∷ []

rest_room : AllByRecursion InAnyRoom rest_calls
rest_room = (space, (space, (space, (space, (window 1 4294967297, (window 2 4294967298, (window 3 4294967299, (window 4 4294967300, tt))))))))
  where
    space : InAnyRoom (MakeSpace 0 16 None)
    space = in_any_room (MakeSpace 0 16 None) (λ m room r a. a) (λ m room. refl) (λ m room. refl)

    window : (s id : ℕ) → InAnyRoom (Map s id 0 true)
    window s id = in_any_room (Map s id 0 true) (λ m room r a. a) (λ m room. refl) (λ m room. refl)

prepared : (room : ℕ) → 68 ≤ room → after_calls (opened 1 1 room) first_calls ≡ with_room room (fold next (four 0) rest_calls)
prepared room enough = ap (λ (m : Machine). fold next m rest_calls) (four_made room enough) ∙ after_room rest_calls rest_room (four 0) room

same_prepared : (n k : ℕ) → IsCount n → IsCount k → after_calls (empty_volume k) first_calls ≡ with_room (capacity k) (after_calls (empty_volume n) first_calls)
same_prepared n k count other = prepared (capacity k) (enough k other) ∙ ap (with_room (capacity k)) (sym (prepared (capacity n) (enough n count)))
  where
    enough : (n : ℕ) → IsCount n → 68 ≤ capacity n
    enough n count = omega (arith, count)

pub one_list : (n k seed calls : ℕ) (rs ss : List Reply) → IsCount n → IsCount k → IsTrial n seed calls rs → IsTrial k seed calls ss → rs ≡ ss
one_list n k seed calls rs ss count other one two =
    let m = empty_volume k in
    let begun = ready first_calls first_fit m (opened_is_machine 1 1 (capacity k) (omega arith) (omega arith) (omega arith) (omega arith)) tt in
    let long : length (range_with_len 0 calls) ≡ calls = length-range_with_len 0 calls in
    let first = allowed_rest (empty_volume n) first_calls (drawn_calls seed calls) one.before rs one.before_count one.allowed in
    let moved = subst (λ (x : Machine). AllowsAll x (map Some (drawn_calls seed calls)) rs) (sym (same_prepared n k count other)) (allowed_room (after_calls (empty_volume n) first_calls) (capacity k) seed (range_with_len 0 calls) rs first) in
    replies_fixed (after_calls m first_calls) seed (range_with_len 0 calls) rs ss begun.0 begun.1 (one.count ∙ sym long) (two.count ∙ sym long) moved
    (allowed_rest m first_calls (drawn_calls seed calls) two.before ss two.before_count two.allowed)
