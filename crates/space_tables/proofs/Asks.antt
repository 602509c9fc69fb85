-- What a call that asks answers, test by test.
use Rattle.std.proofs.Common.{◌≡◌, ◌≢◌, ◌⊎◌, inl, inr, ℕ, ◌<◌, ◌≤◌, Bool, true, false, List, [], ◌∷◌, Option, Some, None, Result, Ok, Err, refl, sym, ◌∙◌, ap, subst, arith, eqb, ◌==◌}
use Rattle.std.specs.Prelude.{IfErr, MatchResult, nat_lt, ◌||◌, slice_get, option_and_then, option_map, is_none, find, nat_le, ◌&&◌}
use Rattle.std.specs.Bool.{then_some}
use Rattle.std.proofs.lemmas.Option.{same_Some, none-some, slice_get_past}
use Rattle.std.proofs.lemmas.Bool.{ne_eqb, false≢true}
use Rattle.std.proofs.lemmas.Bool.Decides.{nat_tests}
use Rattle.flat_machine.specs.declared.call.Refusal.{Refusal}
use Rattle.flat_machine.specs.declared.call.Refusal.TheVariants as why
use Rattle.flat_machine.specs.declared.space.Space.{Space}
use Rattle.flat_machine.specs.declared.space.Window.{Window}
use Rattle.flat_machine.specs.Space.{root_pages, space_at, innermost, overlap, is_mapped}
use Rattle.flat_machine.specs.Refusal.{Test, first_of, is_root, past_root, no_unit}
use Rattle.flat_machine.proofs.Lists.{find_in, look_up}
use Rattle.swap_units.specs.Unit.{Holds, has_page}
use Rattle.projection_laws.specs.Sight.{Interval}
use Rattle.projection_laws.specs.Slots.{listed}
use Rattle.projection_laws.specs.Tests.{no_space, path_mapped, not_mapped}
use Rattle.projection_laws.proofs.SlotLemmas.{slot_found}
use Rattle.projection_laws.proofs.RevealLemmas.{intervals_reveal}
use Rattle.space_tables.specs.declared.error.SpaceError.{SpaceError}
use Rattle.space_tables.specs.declared.error.SpaceError.TheVariants.{Refused, Malformed, Mem}
use Rattle.space_tables.specs.Answer.{FromMemory, IfMalformed, Refuses, Answers, Replies}
use Rattle.space_tables.specs.Form.{interval_record, is_interval_record, BreaksInterval, BreaksProjection, Breaks}
use Rattle.space_tables.specs.Stored.{HoldTables, RevealSpaces}

-- ---- tests in a row

pub stopped : (t : Test) (ts : List Test) (word : Refusal) → t ≡ Some word → first_of (t ∷ ts) ≡ Some word
stopped t ts word e = ap (λ (t : Test). first_of (t ∷ ts)) e

pub passed : (t : Test) (ts : List Test) → t ≡ None → first_of (t ∷ ts) ≡ first_of ts
passed t ts e = ap (λ (t : Test). first_of (t ∷ ts)) e

module _ {X : Type 0} (stays : Type 0) where
  -- the error of the first test is that of the row
  pub refuses_first : (t : Test) (ts : List Test) (e : SpaceError X) → Refuses t stays e → Refuses (first_of (t ∷ ts)) stays e
  refuses_first t ts (Refused word) h = (stopped t ts word h.0, h.1)
  refuses_first t ts (Malformed page) h = absurd h
  refuses_first t ts (Mem error) h = tt

  pub refuses_by : (r s : Option Refusal) (e : SpaceError X) → s ≡ r → Refuses r stays e → Refuses s stays e
  refuses_by r s e same h = subst (λ (o : Option Refusal). Refuses o stays e) (sym same) h

  pub from_memory : (r : Option Refusal) (e : SpaceError X) → FromMemory e → Refuses r stays e
  from_memory r (Refused word) h = absurd h
  from_memory r (Malformed page) h = absurd h
  from_memory r (Mem error) h = tt

-- the same, where what stays is said
pub refuses_with : {X : Type 0} (stays : Type 0) → stays → (t : Test) (ts : List Test) (e : SpaceError X) → Refuses t (Unit {0}) e → Refuses (first_of (t ∷ ts)) stays e
refuses_with stays s t ts (Refused word) h = (stopped t ts word h.0, s)
refuses_with stays s t ts (Malformed page) h = absurd h
refuses_with stays s t ts (Mem error) h = tt

pub answers_from : {T X : Type 0} (r : Result T (SpaceError X)) (A B stays : Type 0) (refusal : Option Refusal) → refusal ≡ None → (A → B) → MatchResult r (λ _. A) FromMemory → Answers refusal (λ _. B) stays r
answers_from (Ok v) A B stays refusal none f h = (none, f h)
answers_from (Err (Refused word)) A B stays refusal none f h = absurd h
answers_from (Err (Malformed page)) A B stays refusal none f h = absurd h
answers_from (Err (Mem error)) A B stays refusal none f h = tt

pub matches_from : {T X : Type 0} (r : Result T (SpaceError X)) (A B : Type 0) → (A → B) → MatchResult r (λ _. A) FromMemory → MatchResult r (λ _. B) FromMemory
matches_from (Ok v) A B f h = f h
matches_from (Err e) A B f h = h

-- the space is there, so the error is the memory's
pub memory_alone : {X : Type 0} (r : Option Refusal) (e : SpaceError X) → r ≡ None → Refuses r (Unit {0}) e → FromMemory e
memory_alone r (Refused word) none h = none-some word (sym none ∙ h.0)
memory_alone r (Malformed page) none h = absurd h
memory_alone r (Mem error) none h = tt

-- ---- single tests

pub bad_unit : (u : ℕ) → (u ≡ 0) ⊎ (16 < u) → no_unit u ≡ Some why.Size
bad_unit u h = let t : (u == 0 || nat_lt 16 u) ≡ true = by h in ap (λ (b : Bool). then_some b why.Size) t
  where
    by : (u ≡ 0) ⊎ (16 < u) → (u == 0 || nat_lt 16 u) ≡ true
    by (inl z) = grind (arith, nat_tests)
    by (inr l) = grind (arith, nat_tests)

pub good_unit : (u : ℕ) → u ≢ 0 → u ≤ 16 → no_unit u ≡ None
good_unit u n l = let t : (u == 0 || nat_lt 16 u) ≡ false = grind (arith, nat_tests) in ap (λ (b : Bool). then_some b why.Size) t

pub no_space_is : (ss : List Space) (h : ℕ) → space_at ss h ≡ None → no_space ss h ≡ Some why.Space
no_space_is ss h e = ap (λ (o : Option Space). then_some (is_none o) why.Space) e

pub space_is : (ss : List Space) (h : ℕ) (s : Space) → space_at ss h ≡ Some s → no_space ss h ≡ None
space_is ss h s e = ap (λ (o : Option Space). then_some (is_none o) why.Space) e

pub root_is : (h : ℕ) → h ≡ 0 → is_root h ≡ Some why.Root
root_is h e = ap is_root e

pub not_root : (h : ℕ) → h ≢ 0 → is_root h ≡ None
not_root h n = ap (λ (b : Bool). then_some b why.Root) (ne_eqb h 0 n)

pub path_is : (ss : List Space) (h : ℕ) (s : Space) (o : Option Space) → space_at ss h ≡ Some s → o ≡ find (λ t. is_mapped t && overlap s t) ss → path_mapped ss h ≡ option_map (λ t. why.Mapped t.handle) o
path_is ss h s o e f =
    ap (λ (q : Option Space). option_and_then (λ (s : Space). option_map why.Mapped (option_map (λ (t : Space). t.handle) (find (λ t. is_mapped t && overlap s t) ss))) q) e
    ∙ ap (λ (q : Option Space). option_map why.Mapped (option_map (λ (t : Space). t.handle) q)) (sym f) ∙ both o
  where
    both : (q : Option Space) → option_map why.Mapped (option_map (λ (t : Space). t.handle) q) ≡ option_map (λ t. why.Mapped t.handle) q
    both None = refl
    both (Some t) = refl

pub window_test : (ss : List Space) (h : ℕ) (s : Space) (o : Option Window) → space_at ss h ≡ Some s → s.window ≡ o → not_mapped ss h ≡ then_some (is_none o) why.NotMapped
window_test ss h s o e f = ap (λ (q : Option Space). option_and_then (λ (s : Space). then_some (is_none s.window) why.NotMapped) q) e ∙ ap (λ (w : Option Window). then_some (is_none w) why.NotMapped) f

pub inside_root : (page : ℕ) → page < root_pages → past_root page ≡ None
inside_root page l = let t : nat_le root_pages page ≡ false = grind (arith, nat_tests) in ap (λ (b : Bool). then_some b why.Range) t

-- ---- what the tables reveal

pub still_reveal : {M : Type 0} (reveals : M → List ℕ → Type 0) (m n : M) → ((b : List ℕ) → reveals m b → reveals n b) → (count : ℕ) (ss : List Space) → RevealSpaces (reveals m) count ss → RevealSpaces (reveals n) count ss
still_reveal reveals m n stay count ss t = record {
  slots = t.slots;
  xs = t.xs;
  hold = record { bytes = t.hold.bytes; revealed = stay t.hold.bytes t.hold.revealed; are = t.hold.are };
  right = t.right;
  counted = t.counted;
  spaces = t.spaces;
}

module _ (reveals : List ℕ → Type 0) (n : ℕ) (ss : List Space) (t : RevealSpaces reveals n ss) where
  pub found_at : (h : ℕ) (o : Option Space) → slice_get t.slots h ≡ Some o → space_at ss h ≡ o
  found_at h o e = ap (λ (rs : List Space). space_at rs h) (sym t.spaces) ∙ slot_found t.slots h t.right.numbered ∙ ap (λ (q : Option (Option Space)). option_and_then (λ r. r) q) e

  pub none_past : (h : ℕ) → 511 < h → space_at ss h ≡ None
  none_past h l =
      ap (λ (rs : List Space). space_at rs h) (sym t.spaces) ∙ slot_found t.slots h t.right.numbered
      ∙ ap (λ (q : Option (Option Space)). option_and_then (λ r. r) q) (slice_get_past t.slots h (omega (arith, l, t.hold.are.handles)))

  -- the interval that holds a page names its innermost space
  pub names_innermost : (k page : ℕ) (x : Interval) → slice_get t.xs k ≡ Some x → Holds x page → (s : Space) × (innermost ss page ≡ Some s) × (space_at ss x.space ≡ Some s)
  names_innermost k page x e holds =
      let reveal = (intervals_reveal (listed t.slots) t.xs k page x t.right.spaces t.right.intervals e holds).innermost_is in
      let there = find_in _ (listed t.slots) reveal.0 reveal.1 in
      let at = look_up (λ s. s.handle) (listed t.slots) t.right.spaces.rise reveal.0 there.0 x.space (sym reveal.2) in (
        reveal.0,
        ap (λ (rs : List Space). innermost rs page) (sym t.spaces) ∙ reveal.1,
        ap (λ (rs : List Space). space_at rs x.space) (sym t.spaces) ∙ at,
      )

pub place_replies : {X : Type 0} (ss : List Space) (h page : ℕ) (s : Space) → innermost ss page ≡ Some s → space_at ss h ≡ Some s → page < root_pages → (r : Result Space (SpaceError X))
    → Replies (no_space ss h) (λ q. space_at ss h ≡ Some q) r → Replies (first_of (past_root page ∷ [])) (λ q. innermost ss page ≡ Some q) r
place_replies ss h page s inner at inside (Ok q) a = (passed (past_root page) [] (inside_root page inside), inner ∙ sym at ∙ a.1)
place_replies ss h page s inner at inside (Err (Refused word)) a = absurd (none-some word (sym (space_is ss h s at) ∙ a.0))
place_replies ss h page s inner at inside (Err (Malformed p)) a = absurd a
place_replies ss h page s inner at inside (Err (Mem error)) a = tt

-- ---- where a page is malformed

module _ {X : Type 0} (count : ℕ) (b bytes : List ℕ) where
  -- a record that is still as it was breaks its form before
  pub broken_still : (k : ℕ) → interval_record bytes k ≡ interval_record b k → (e : SpaceError X) → IfMalformed (λ page. BreaksInterval count bytes page k) e → IfMalformed (BreaksProjection count b) e
  broken_still k same (Refused word) h = tt
  broken_still k same (Malformed page) h = (k, record { counted = h.counted; on = h.on; breaks = ap is_interval_record (sym same) ∙ h.breaks })
  broken_still k same (Mem error) h = tt

  -- where all are as they were
  pub broken_before : {T : Type 0} → ((k : ℕ) → 0 ≤ k → interval_record bytes k ≡ interval_record b k) → (r : Result T (SpaceError X)) → IfErr r (IfMalformed (BreaksProjection count bytes)) → IfErr r (IfMalformed (Breaks count b))
  broken_before same (Ok v) h = tt
  broken_before same (Err (Refused word)) h = tt
  broken_before same (Err (Malformed page)) h =
      inr (h.0, record { counted = h.1.counted; on = h.1.on; breaks = ap is_interval_record (sym (same h.0 (omega arith))) ∙ h.1.breaks })
  broken_before same (Err (Mem error)) h = tt
