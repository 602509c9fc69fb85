-- What holds of every pair holds after every call.
use Rattle.std.proofs.Common.{◌≡◌, ℕ, ◌+◌, ◌≤◌, ◌/◌, ◌^◌, Bool, true, false, not, cond, List, Option, Some, None, refl, sym, ◌∙◌, ap, subst, arith, eqb}
use Rattle.std.specs.Prelude.{nat_lt, if◌then◌else◌}
use Rattle.std.specs.Option.{option_map_or}
use Rattle.std.specs.List.{AllByRecursion}
use Rattle.std.proofs.lemmas.Option.{none-some, same_Some}
use Rattle.std.proofs.lemmas.Bool.{ne_eqb, eq-eqb, ltb-false}
use Rattle.labelled_disk.specs.File.{File, file_at, size, room_of, total_room}
use Rattle.labelled_disk.specs.FilesOn.{put_file}
use Rattle.labelled_disk.specs.Ascending.{AreAscending}
use Rattle.labelled_disk.proofs.AscendingLemmas.{at_put, ascending_put, each_at, each_by_look_up}
use Rattle.labelled_disk.proofs.WriteLemmas as laws
use Rattle.pair_machine.specs.declared.call.PairCall.{PairCall}
use Rattle.pair_machine.specs.declared.call.PairCall.TheVariants.{Copy, Compare}
use Rattle.pair_machine.specs.declared.call.PairRefusal.{PairRefusal}
use Rattle.pair_machine.specs.declared.call.PairRefusal.TheVariants as why
use Rattle.pair_machine.specs.Pair.{Pair, IsPair, next_pair, pair_refusal, copy_refusal, with_copy}
use Rattle.pair_machine.specs.Laws.{PairsStay}
use Rattle.pair_machine.proofs.ReplyLemmas.{some}

-- what is so of a copy that is not refused
record MayCopy (p : Pair) (f : File) : Type 0 where
  absent : file_at p.to f.id ≡ None
  room : total_room p.to + size f + 1 ≤ p.capacity

-- the tests of a copy, one after the other
tested : Bool → Option File → Bool → Bool → Option PairRefusal
tested a o b c = if not a then Some why.Mutable else (option_map_or (λ g. Some why.Exists) o (if b then Some why.Serial else (if c then Some why.Full else None)))

may_copy : (p : Pair) (f : File) → copy_refusal p f ≡ None → MayCopy p f
unfolding tested
may_copy p f free = by f.immutable (file_at p.to f.id) refl (eqb (f.id / 2 ^ 32) p.serial) (nat_lt p.capacity (total_room p.to + size f + 1)) refl free
  where
    by : (a : Bool) (o : Option File) → file_at p.to f.id ≡ o → (b c : Bool) → nat_lt p.capacity (total_room p.to + size f + 1) ≡ c → tested a o b c ≡ None → MayCopy p f
    by false o e b c l h = absurd (none-some why.Mutable (sym h))
    by true (Some g) e b c l h = absurd (none-some why.Exists (sym h))
    by true None e true c l h = absurd (none-some why.Serial (sym h))
    by true None e false true l h = absurd (none-some why.Full (sym h))
    by true None e false false l h = record { absent = e; room = ltb-false p.capacity (total_room p.to + size f + 1) l }

refused : (p : Pair) (c : PairCall) (w : PairRefusal) → pair_refusal p c ≡ Some w → next_pair p c ≡ p
refused p (Copy id) w is = ap (λ (o : Option PairRefusal). option_map_or (λ v. p) o (with_copy p id)) is
refused p (Compare id) w is = refl

-- what is so of the file that is put and of all others is so of each
each_put : (P : File → Type 0) (f : File) (fs : List File) → AreAscending fs → P f → AllByRecursion P fs → AllByRecursion P (put_file f fs)
each_put P f fs ascends one rest = each_by_look_up P (put_file f fs) (ascending_put f fs ascends) (λ id g at. by id g (eqb f.id id) (sym (at_put f fs id) ∙ at))
  where
    by : (id : ℕ) (g : File) (b : Bool) → cond b (Some f) (file_at fs id) ≡ Some g → P g
    by id g true at = subst P (same_Some f g at) one
    by id g false at = each_at P fs rest id g at

copied : (p : Pair) (f : File) → IsPair p → f.permanent ≡ true → MayCopy p f → IsPair (record p { to = put_file f p.to })
copied p f is permanent may = record {
  from_ascends = is.from_ascends;
  to_ascends = ascending_put f p.to is.to_ascends;
  from_permanent = is.from_permanent;
  to_permanent = each_put (λ g. g.permanent ≡ true) f p.to is.to_ascends permanent is.to_permanent;
  room = omega (
    arith,
    laws.room_changed false 0 0 p.to (put_file f p.to) f.id is.to_ascends (ascending_put f p.to is.to_ascends) (λ j apart. at_put f p.to j ∙ ap (λ (b : Bool). cond b (Some f) (file_at p.to j)) (ne_eqb f.id j (λ e. apart (sym e)))),
    ap (λ (o : Option File). option_map_or room_of o 0) may.absent,
    ap (λ (o : Option File). option_map_or room_of o 0) (at_put f p.to f.id ∙ ap (λ (b : Bool). cond b (Some f) (file_at p.to f.id)) (eq-eqb f.id f.id refl)),
    may.room,
  );
}

stays : (p : Pair) (c : PairCall) → IsPair p → IsPair (next_pair p c)
stays p (Compare id) is = is
stays p (Copy id) is = by (file_at p.from id) refl
  where
    by : (o : Option File) → file_at p.from id ≡ o → IsPair (option_map_or (λ w. p) (option_map_or (copy_refusal p) o (Some why.File)) (option_map_or (λ f. record p { to = put_file f p.to }) o p))
    by None e = is
    by (Some f) e = may (copy_refusal p f) refl
      where
        may : (o : Option PairRefusal) → copy_refusal p f ≡ o → IsPair (option_map_or (λ w. p) o (record p { to = put_file f p.to }))
        may None free = copied p f is (each_at (λ g. g.permanent ≡ true) p.from is.from_permanent id f e) (may_copy p f free)
        may (Some w) e = is

pub pairs_stay : PairsStay
pairs_stay = record { stays = stays; refused = refused; some = some }
