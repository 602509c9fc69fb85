-- Drawn calls are in form, and no one of them makes a cell any; so there is one list of replies.
use Rattle.std.proofs.Common.{◌≡◌, ℕ, zero, suc, ◌+◌, ◌*◌, ◌%◌, ◌<◌, Bool, true, false, List, [], ◌∷◌, length, map, Option, Some, None, refl, arith}
use Rattle.std.specs.Prelude.{nat_lt, ◌==◌, is_none, if◌then◌else◌, slice_index_or, slice_set}
use Rattle.std.specs.List.{AllByRecursion, range_with_len}
use Rattle.std.specs.Option.{option_map_or}
use Rattle.std.proofs.lemmas.List.FromFn.{length-map-range_with_len}
use Rattle.flat_machine.specs.declared.call.Call.{Call}
use Rattle.flat_machine.specs.declared.call.Call.TheVariants.{Units, Load, Store, Activate, Deactivate, ForceOut}
use Rattle.flat_machine.specs.declared.space.Space.{Space}
use Rattle.flat_machine.specs.At.{Spot, spot_at}
use Rattle.flat_machine.specs.File.{File, byte}
use Rattle.flat_machine.specs.Form.{IsInForm, IsTyped}
use Rattle.flat_machine.specs.Machine.{Machine}
use Rattle.flat_machine.specs.Next.{change, change_file, next, store_byte, store_bytes, with_byte, without_shown_within}
use Rattle.flat_machine.specs.Refusal.{refusal}
use Rattle.flat_machine.specs.Space.{space_at}
use Rattle.flat_machine.proofs.NextLemmas.{next_keeps_machine}
use Rattle.trace_maker.specs.Calls.{address_by, advice_by, bytes_by, call_by, call_of, count_by, space_by}
use Rattle.trace_maker.specs.Drawn.{value}
use Rattle.trace_maker.specs.Fixed.{AreKnown, IsKnown, RepliesAreFixed}
use Rattle.trace_maker.proofs.KnownLemmas.{same_reply}

-- each cell is a byte after the call, where each was one before
abbrev pub Keeps : Call → Type 0
Keeps c = (m : Machine) → AreKnown m.files → AreKnown (next m c).files

pub chosen : {X : Type 0} (P : X → Type 0) (b : Bool) (x y : X) → P x → P y → P (if b then x else y)
chosen P true x y p q = p
chosen P false x y p q = q

-- a call that changes the files so
pub keeps : (c : Call) → ((m : Machine) → AreKnown m.files → AreKnown (change m c).files) → Keeps c
keeps c so m known = chosen (λ (n : Machine). AreKnown n.files) (is_none (refusal m c)) (change m c) m (so m known) known

all_set : {X : Type 0} (Q : X → Type 0) (xs : List X) (k : ℕ) (y : X) → AllByRecursion Q xs → Q y → AllByRecursion Q (slice_set xs k y)
all_set Q [] k y all so = tt
all_set Q (x ∷ xs) zero y all so = (so, all.1)
all_set Q (x ∷ xs) (suc k) y all so = (all.0, all_set Q xs k y all.1 so)

at_or : {X : Type 0} (Q : X → Type 0) (xs : List X) (k : ℕ) (d : X) → AllByRecursion Q xs → Q d → Q (slice_index_or xs k d)
at_or Q [] k d all so = so
at_or Q (x ∷ xs) zero d all so = all.0
at_or Q (x ∷ xs) (suc k) d all so = at_or Q xs k d all.1 so

changed : (s : Spot) (b : ℕ) (files : List File) → AreKnown files → AreKnown (change_file s.file (with_byte s b) files)
changed s b [] known = tt
changed s b (f ∷ fs) known = (
  chosen (λ (g : File). AllByRecursion (AllByRecursion IsKnown) g.pages) (f.id == s.file) (with_byte s b f) f
      (all_set (AllByRecursion IsKnown) f.pages s.page (slice_set (slice_index_or f.pages s.page []) s.offset (byte b)) known.0
      (all_set IsKnown (slice_index_or f.pages s.page []) s.offset (byte b) (at_or (AllByRecursion IsKnown) f.pages s.page [] known.0 tt) (b, refl))) known.0,
  changed s b fs known.1,
)

stored : (spaces : List Space) (address : ℕ) (bytes : List ℕ) (files : List File) → AreKnown files → AreKnown (store_bytes spaces address bytes files)
stored spaces address [] files known = known
stored spaces address (b ∷ bs) files known = stored spaces (address + 1) bs (store_byte spaces address b files) (one (spot_at spaces address))
  where
    one : (spot : Option Spot) → AreKnown (option_map_or (λ (s : Spot). change_file s.file (with_byte s b) files) spot files)
    one None = known
    one (Some s) = changed s b files known

forced : (m : Machine) (space : ℕ) → AreKnown m.files → AreKnown (change m (ForceOut space)).files
forced m space known = one (space_at m.spaces space)
  where
    one : (s : Option Space) → AreKnown (option_map_or (λ (x : Space). record m { unforced = without_shown_within m.spaces x m.unforced }) s m).files
    one None = known
    one (Some s) = known

-- what is so of each drawn call
record IsFit (c : Call) : Type 0 where
  form : IsInForm c
  typed : IsTyped c
  keeps : Keeps c

bytes_fit : (ns : List ℕ) → AllByRecursion (λ b. b < 256) (map (λ n. n % 256) ns)
bytes_fit [] = tt
bytes_fit (n ∷ ns) = (omega arith, bytes_fit ns)

fit_by : (v w u : ℕ) → IsFit (call_by v w u)
fit_by v w u =
    let long : length (bytes_by u) ≡ count_by u = length-map-range_with_len (λ n. n % 256) u (count_by u) in
    chosen IsFit (nat_lt (v % 8) 3) (Load (address_by w) (count_by u)) (if nat_lt (v % 8) 6 then Store (address_by w) (bytes_by u) else (if v % 8 == 6 then advice_by u (space_by w) else Units (space_by w) (1 + u % 16)))
    (record { form = (omega arith, omega arith); typed = tt; keeps = keeps (Load (address_by w) (count_by u)) (λ m known. known) })
    (chosen IsFit (nat_lt (v % 8) 6) (Store (address_by w) (bytes_by u)) (if v % 8 == 6 then advice_by u (space_by w) else Units (space_by w) (1 + u % 16))
    (record {
      form = (omega (arith, long), omega (arith, long));
      typed = bytes_fit (range_with_len u (count_by u));
      keeps = keeps (Store (address_by w) (bytes_by u)) (λ m known. stored m.spaces (address_by w) (bytes_by u) m.files known);
    })
    (chosen IsFit (v % 8 == 6) (advice_by u (space_by w)) (Units (space_by w) (1 + u % 16))
    (chosen IsFit (u % 3 == 0) (Activate (space_by w)) (if u % 3 == 1 then Deactivate (space_by w) else ForceOut (space_by w))
    (record { form = tt; typed = tt; keeps = keeps (Activate (space_by w)) (λ m known. known) })
    (chosen IsFit (u % 3 == 1) (Deactivate (space_by w)) (ForceOut (space_by w)) (record { form = tt; typed = tt; keeps = keeps (Deactivate (space_by w)) (λ m known. known) })
    (record { form = tt; typed = tt; keeps = keeps (ForceOut (space_by w)) (λ m known. forced m (space_by w) known) })))
    (record { form = tt; typed = tt; keeps = keeps (Units (space_by w) (1 + u % 16)) (λ m known. known) })))

fit : (seed index : ℕ) → IsFit (call_of seed index)
fit seed index = fit_by (value seed (3 * index)) (value seed (3 * index + 1)) (value seed (3 * index + 2))

pub replies_fixed : RepliesAreFixed
replies_fixed m seed [] [] [] h known long short one two = refl
replies_fixed m seed [] [] (s ∷ ss) h known long short one two = absurd (omega (arith, short))
replies_fixed m seed [] (r ∷ rs) ss h known long short one two = absurd (omega (arith, long))
replies_fixed m seed (i ∷ is) [] ss h known long short one two = absurd (omega (arith, long))
replies_fixed m seed (i ∷ is) (r ∷ rs) [] h known long short one two = absurd (omega (arith, short))
replies_fixed m seed (i ∷ is) (r ∷ rs) (s ∷ ss) h known long short one two =
    let this = fit seed i in
    let same : r ≡ s = same_reply m h known (call_of seed i) r s this.form one.0 two.0 in
    let rest : rs ≡ ss = replies_fixed (next m (call_of seed i)) seed is rs ss (next_keeps_machine m (call_of seed i) this.typed h) (this.keeps m known) (omega (arith, long)) (omega (arith, short)) one.1 two.1 in
    λ k. same k ∷ rest k
