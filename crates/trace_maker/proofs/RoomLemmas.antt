-- Calls that don't ask for the capacity.
use Rattle.std.proofs.Common.{◌≡◌, ℕ, ◌+◌, ◌*◌, ◌%◌, Bool, true, false, List, [], ◌∷◌, map, Option, Some, None, refl, sym, ◌∙◌, ap, subst}
use Rattle.std.specs.Prelude.{fold, nat_lt, ◌==◌, is_none, if◌then◌else◌}
use Rattle.std.specs.List.{AllByRecursion}
use Rattle.std.specs.Option.{option_map_or}
use Rattle.flat_machine.specs.declared.call.Call.{Call}
use Rattle.flat_machine.specs.declared.call.Call.TheVariants.{Units, Load, Store, Activate, Deactivate, ForceOut}
use Rattle.flat_machine.specs.declared.call.Reply.{Reply}
use Rattle.flat_machine.specs.declared.call.Refusal.{Refusal}
use Rattle.flat_machine.specs.declared.space.Space.{Space}
use Rattle.flat_machine.specs.After.{AllowsAll}
use Rattle.flat_machine.specs.Allows.{Allows}
use Rattle.flat_machine.specs.Machine.{Machine}
use Rattle.flat_machine.specs.Next.{change, next, without_shown_within}
use Rattle.flat_machine.specs.Refusal.{refusal}
use Rattle.flat_machine.specs.Space.{space_at}
use Rattle.trace_maker.specs.Calls.{address_by, advice_by, bytes_by, call_by, call_of, count_by, space_by}
use Rattle.trace_maker.specs.Drawn.{value}
use Rattle.trace_maker.specs.Fixed.{AllowedInAnyRoom, with_room}
use Rattle.trace_maker.proofs.FixedLemmas.{chosen}

-- in any room, the call gets the same replies, and the machine after it is the same
pub record InAnyRoom (c : Call) : Type 0 where
  pub allows : (m : Machine) (room : ℕ) (r : Reply) → Allows m c r → Allows (with_room room m) c r
  pub next : (m : Machine) (room : ℕ) → next (with_room room m) c ≡ with_room room (next m c)

-- so it is of a call whose tests, replies and changes don't ask
pub in_any_room : (c : Call) → ((m : Machine) (room : ℕ) (r : Reply) → Allows m c r → Allows (with_room room m) c r) → ((m : Machine) (room : ℕ) → refusal (with_room room m) c ≡ refusal m c)
    → ((m : Machine) (room : ℕ) → change (with_room room m) c ≡ with_room room (change m c)) → InAnyRoom c
in_any_room c allows refuses changes = record {
  allows = allows;
  next = λ m room.
      ap (λ (o : Option Refusal). if is_none o then change (with_room room m) c else with_room room m) (refuses m room)
      ∙ ap (λ (n : Machine). if is_none (refusal m c) then n else with_room room m) (changes m room) ∙ either room (is_none (refusal m c)) (change m c) m;
}
  where
    either : (room : ℕ) (b : Bool) (x y : Machine) → (if b then with_room room x else with_room room y) ≡ with_room room (if b then x else y)
    either room true x y = refl
    either room false x y = refl

forced : (m : Machine) (room space : ℕ) → change (with_room room m) (ForceOut space) ≡ with_room room (change m (ForceOut space))
forced m room space = one (space_at m.spaces space)
  where
    one : (s : Option Space) → option_map_or (λ (x : Space). record (with_room room m) { unforced = without_shown_within m.spaces x m.unforced }) s (with_room room m)
        ≡ with_room room (option_map_or (λ (x : Space). record m { unforced = without_shown_within m.spaces x m.unforced }) s m)
    one None = refl
    one (Some s) = refl

room_by : (v w u : ℕ) → InAnyRoom (call_by v w u)
room_by v w u =
    chosen InAnyRoom (nat_lt (v % 8) 3) (Load (address_by w) (count_by u)) (if nat_lt (v % 8) 6 then Store (address_by w) (bytes_by u) else (if v % 8 == 6 then advice_by u (space_by w) else Units (space_by w) (1 + u % 16)))
    (in_any_room (Load (address_by w) (count_by u)) (λ m room r a. a) (λ m room. refl) (λ m room. refl))
    (chosen InAnyRoom (nat_lt (v % 8) 6) (Store (address_by w) (bytes_by u)) (if v % 8 == 6 then advice_by u (space_by w) else Units (space_by w) (1 + u % 16))
    (in_any_room (Store (address_by w) (bytes_by u)) (λ m room r a. a) (λ m room. refl) (λ m room. refl))
    (chosen InAnyRoom (v % 8 == 6) (advice_by u (space_by w)) (Units (space_by w) (1 + u % 16))
    (chosen InAnyRoom (u % 3 == 0) (Activate (space_by w)) (if u % 3 == 1 then Deactivate (space_by w) else ForceOut (space_by w))
    (in_any_room (Activate (space_by w)) (λ m room r a. a) (λ m room. refl) (λ m room. refl))
    (chosen InAnyRoom (u % 3 == 1) (Deactivate (space_by w)) (ForceOut (space_by w)) (in_any_room (Deactivate (space_by w)) (λ m room r a. a) (λ m room. refl) (λ m room. refl))
    (in_any_room (ForceOut (space_by w)) (λ m room r a. a) (λ m room. refl) (λ m room. forced m room (space_by w)))))
    (in_any_room (Units (space_by w) (1 + u % 16)) (λ m room r a. a) (λ m room. refl) (λ m room. refl))))

pub after_room : (calls : List Call) → AllByRecursion InAnyRoom calls → (m : Machine) (room : ℕ) → fold next (with_room room m) calls ≡ with_room room (fold next m calls)
after_room [] all m room = refl
after_room (c ∷ cs) all m room = ap (λ (n : Machine). fold next n cs) (all.0.next m room) ∙ after_room cs all.1 (next m c) room

pub allowed_room : AllowedInAnyRoom
allowed_room m room seed is [] all = tt
allowed_room m room seed [] (r ∷ rs) all = all
allowed_room m room seed (i ∷ is) (r ∷ rs) all =
    let this = room_by (value seed (3 * i)) (value seed (3 * i + 1)) (value seed (3 * i + 2)) in
    let c = call_of seed i in
    (this.allows m room r all.0, subst (λ (n : Machine). AllowsAll n (map Some (map (call_of seed) is)) rs) (sym (this.next m room)) (allowed_room (next m c) room seed is rs all.1))
