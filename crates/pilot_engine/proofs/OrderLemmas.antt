-- The file with the least identifier above one that a call may name: files that an anonymous window shows are passed over.
use Rattle.std.proofs.Common.{◌≡◌, inl, inr, ℕ, ◌<◌, ◌≤◌, Bool, true, false, ◌&&◌, cond, List, [], ◌∷◌, Option, Some, None, refl, sym, ◌∙◌, ap, subst, arith}
use Rattle.std.specs.Prelude.{find, nat_lt, option_map}
use Rattle.std.specs.Option.{option_map_or, is_some}
use Rattle.std.proofs.lemmas.Bool.Decides.{nat_tests}
use Rattle.std.proofs.lemmas.Bool.{and_parts, cases_eq, cases_lt, true≢false}
use Rattle.std.proofs.lemmas.Option.{none-some, same_Some}
use Rattle.labelled_disk.specs.File.{File, file_at}
use Rattle.labelled_disk.specs.Ascending.{AreAscending}
use Rattle.labelled_disk.proofs.AscendingLemmas.{at_id}
use Rattle.flat_machine.specs.declared.call.Call.TheVariants as call
use Rattle.flat_machine.specs.declared.call.Reply.TheVariants as reply
use Rattle.flat_machine.specs.Machine.{Machine, nameable, is_anonymous}
use Rattle.flat_machine.specs.Allows.{next_file, plain_reply}
use Rattle.flat_machine.proofs.Lists.{In, find_in, look_up, not_found}
use Rattle.session_words.specs.Parts.{shapes_of}
use Rattle.file_manager.specs.Answer.{IsNextFile}
use Rattle.pilot_engine.proofs.AskLemmas.{first_above, has_shape}

module _ {X : Type 0} where
  -- a test that each element passes or fails like another one
  find_alike : (p q : X → Bool) (xs : List X) → ((x : X) → In x xs → p x ≡ q x) → find p xs ≡ find q xs
  find_alike p q [] same = refl
  find_alike p q (x ∷ xs) same = λ i. cond (same x (inl refl) i) (Some x) (find_alike p q xs (λ y is. same y (inr is)) i)

  -- one that fewer pass, and the first that passed too
  find_stronger : (p q : X → Bool) → ((x : X) → q x ≡ true → p x ≡ true) → (xs : List X) (x : X) → find p xs ≡ Some x → q x ≡ true → find q xs ≡ Some x
  find_stronger p q less [] x e t = absurd (none-some x e)
  find_stronger p q less (y ∷ ys) x e t = either (p y) refl (q y) refl e (find_stronger p q less ys x)
    where
      either : (a : Bool) → p y ≡ a → (b : Bool) → q y ≡ b → cond a (Some y) (find p ys) ≡ Some x → (find p ys ≡ Some x → q x ≡ true → find q ys ≡ Some x) → cond b (Some y) (find q ys) ≡ Some x
      either true pe true qe e f = e
      either true pe false qe e f = absurd (true≢false (sym t ∙ ap q (sym (same_Some y x e)) ∙ qe))
      either false pe true qe e f = absurd (true≢false (sym (less y qe) ∙ pe))
      either false pe false qe e f = f e t

  find_fewer : (p q : X → Bool) → ((x : X) → q x ≡ true → p x ≡ true) → (xs : List X) → find p xs ≡ None → find q xs ≡ None
  find_fewer p q less xs e = either (find q xs) refl
    where
      either : (o : Option X) → find q xs ≡ o → find q xs ≡ None
      either None is = is
      either (Some x) is = let at = find_in q xs x is in absurd (true≢false (sym (less x at.1) ∙ not_found p xs e x at.0))

some_of : {X Y : Type 0} (f : X → Y) (o : Option X) (y : Y) → option_map f o ≡ Some y → (x : X) × (o ≡ Some x) × (f x ≡ y)
some_of f None y e = absurd (none-some y e)
some_of f (Some x) y e = (x, refl, same_Some (f x) y e)

none_of : {X Y : Type 0} (f : X → Y) (o : Option X) → option_map f o ≡ None → o ≡ None
none_of f None e = refl
none_of f (Some x) e = absurd (none-some (f x) (sym e))

module _ (m : Machine) (ascending : AreAscending m.files) where
  abbrev named : ℕ → File → Bool
  named id f = nat_lt id f.id && is_some (nameable m f.id)

  abbrev any : ℕ → File → Bool
  any id f = nat_lt id f.id && is_some (file_at m.files f.id)

  there : (id : ℕ) (b : Bool) → is_some (cond b None (file_at m.files id)) ≡ true → is_some (file_at m.files id) ≡ true
  there id true is = absurd (true≢false (sym is))
  there id false is = is

  named_any : (id : ℕ) (f : File) → named id f ≡ true → any id f ≡ true
  named_any id f is =
      let parts = and_parts (nat_lt id f.id) (is_some (nameable m f.id)) is in
      let a = parts.0 in
      let b = there f.id (is_anonymous m.spaces f.id) parts.1 in
      rw (a, b) refl

  first_any : (id : ℕ) (found : Option ℕ) → IsNextFile (shapes_of m.files) id found → option_map (λ (f : File). f.id) (find (any id) m.files) ≡ found
  first_any id found next = first_above m.files id m.files ascending (λ j f is. subst (λ (k : ℕ). is_some (file_at m.files k) ≡ true) (sym (at_id m.files j f is)) (ap is_some is)) found next

  -- there is none
  pub next_none : (id : ℕ) → IsNextFile (shapes_of m.files) id None → next_file m id ≡ None
  next_none id next =
      let none = none_of (λ (f : File). f.id) (find (any id) m.files) (first_any id None next) in
      ap (option_map (λ (f : File). f.id)) (find_fewer (any id) (named id) (named_any id) m.files none)

  -- it has a name
  pub next_hit : (id n : ℕ) → IsNextFile (shapes_of m.files) id (Some n) → is_anonymous m.spaces n ≡ false → next_file m id ≡ Some n
  next_hit id n next shown =
      let first = some_of (λ (f : File). f.id) (find (any id) m.files) n (first_any id (Some n) next) in
      let at = find_in (any id) m.files first.0 first.1 in
      let parts = and_parts (nat_lt id first.0.id) (is_some (file_at m.files first.0.id)) at.1 in
      let above = parts.0 in
      let visible : is_anonymous m.spaces first.0.id ≡ false = ap (is_anonymous m.spaces) first.2 ∙ shown in
      let name : is_some (nameable m first.0.id) ≡ true = rw visible parts.1 in
      let passes : named id first.0 ≡ true = rw (above, name) refl in
      ap (option_map (λ (f : File). f.id)) (find_stronger (any id) (named id) (named_any id) m.files first.0 first.1 passes) ∙ ap Some first.2

  -- or none
  pub next_skip : (id n : ℕ) → IsNextFile (shapes_of m.files) id (Some n) → is_anonymous m.spaces n ≡ true → next_file m n ≡ next_file m id
  next_skip id n next hidden = sym (ap (option_map (λ (f : File). f.id)) (find_alike (named id) (named n) m.files each))
    where
      low : (k : ℕ) (f : File) → f.id ≤ k → named k f ≡ false
      low k f under = let a : nat_lt k f.id ≡ false = grind (arith, nat_tests) in rw a refl

      high : (k : ℕ) (f : File) → k < f.id → named k f ≡ is_some (nameable m f.id)
      high k f over = let a : nat_lt k f.id ≡ true = grind (arith, nat_tests) in rw a refl

      each : (f : File) → In f m.files → named id f ≡ named n f
      each f is = elim (cases_lt id f.id) [
        | inl above ↦
            let least : n ≤ f.id = next.2 f.id above (has_shape m.files f.id f (look_up (λ (x : File). x.id) m.files ascending f is f.id refl)) in
            elim (cases_eq f.id n) [
              | inl same ↦
                  let unseen : is_anonymous m.spaces f.id ≡ true = ap (is_anonymous m.spaces) same ∙ hidden in
                  let none : is_some (nameable m f.id) ≡ false = rw unseen refl in
                  high id f above ∙ none ∙ sym (low n f (omega (arith, same)))
              | inr apart ↦ high id f above ∙ sym (high n f (omega (arith, least, apart)))
            ]
        | inr under ↦ let more = next.0 in low id f under ∙ sym (low n f (omega (arith, under, more)))
      ]

-- The replies.

pub next_replied : (m : Machine) (id n : ℕ) → next_file m id ≡ Some n → reply.File n ≡ plain_reply m (call.Next id)
next_replied m id n is = ap (λ (o : Option ℕ). option_map_or reply.File o reply.Nothing) (sym is)

pub nothing_replied : (m : Machine) (id : ℕ) → next_file m id ≡ None → reply.Nothing ≡ plain_reply m (call.Next id)
nothing_replied m id is = ap (λ (o : Option ℕ). option_map_or reply.File o reply.Nothing) (sym is)
