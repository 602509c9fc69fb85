-- What the machine replies to calls that ask.
use Rattle.std.proofs.Common.{◌≡◌, ◌≢◌, ◌⊎◌, inl, inr, ℕ, ◌-◌, ◌<◌, ◌≤◌, Bool, true, false, ◌&&◌, List, [], ◌∷◌, Option, Some, None, refl, sym, ◌∙◌, ap, arith}
use Rattle.std.specs.Prelude.{find, nat_lt, option_map}
use Rattle.std.specs.Option.{is_some}
use Rattle.std.proofs.lemmas.Bool.Decides.{nat_tests}
use Rattle.std.proofs.lemmas.Bool.{cases_lt}
use Rattle.std.proofs.lemmas.Option.{none-some}
use Rattle.labelled_disk.specs.File.{File, file_at}
use Rattle.labelled_disk.specs.Ascending.{AreAscending}
use Rattle.labelled_disk.proofs.AscendingLemmas.{at_low, at_head, at_tail}
use Rattle.flat_machine.specs.declared.call.Call.TheVariants as call
use Rattle.flat_machine.specs.declared.call.Reply.TheVariants as reply
use Rattle.flat_machine.specs.Machine.{Machine, used}
use Rattle.flat_machine.specs.Allows.{plain_reply}
use Rattle.session_words.specs.Parts.{shapes_of, shape_of}
use Rattle.file_manager.specs.Answer.{IsNextFile}

-- a file that is there has a shape
pub has_shape : (files : List File) (id : ℕ) (f : File) → file_at files id ≡ Some f → shapes_of files id ≢ None
has_shape files id f is no_shape = none-some (shape_of f) (sym no_shape ∙ ap (option_map shape_of) is)

-- the first file above, in ascending order
module _ (all : List File) (id : ℕ) where
  abbrev test : File → Bool
  test f = nat_lt id f.id && is_some (file_at all f.id)

  passes : (f : File) → is_some (file_at all f.id) ≡ true → id < f.id → test f ≡ true
  passes f there above = let a : nat_lt id f.id ≡ true = grind (arith, nat_tests) in rw (a, there) refl

  fails : (f : File) → f.id ≤ id → test f ≡ false
  fails f low = let a : nat_lt id f.id ≡ false = grind (arith, nat_tests) in rw a refl

  module _ (f : File) (fs : List File) (ascending : AreAscending (f ∷ fs)) where
    head : test f ≡ true → option_map (λ (g : File). g.id) (find test (f ∷ fs)) ≡ Some f.id
    head is = rw is refl

    tail : test f ≡ false → option_map (λ (g : File). g.id) (find test (f ∷ fs)) ≡ option_map (λ (g : File). g.id) (find test fs)
    tail is = rw is refl

    -- a file that is above the first one is among the others
    among : (o : Option ℕ) → IsNextFile (shapes_of (f ∷ fs)) id o → f.id ≤ id → IsNextFile (shapes_of fs) id o
    among None next low = λ other above. ap (option_map shape_of) (sym (at_tail f fs other (λ e. omega (arith, e, low, above)))) ∙ next other above
    among (Some n) next low = (
      next.0,
      λ is. next.1 (ap (option_map shape_of) (at_tail f fs n (λ e. omega (arith, e, next.0, low))) ∙ is),
      λ other above is. next.2 other above (λ e. is (ap (option_map shape_of) (sym (at_tail f fs other (λ s. omega (arith, s, above, low)))) ∙ e)),
    )

    least : (o : Option ℕ) → IsNextFile (shapes_of (f ∷ fs)) id o → id < f.id → Some f.id ≡ o
    least None next above = absurd (has_shape (f ∷ fs) f.id f (at_head f fs) (next f.id above))
    least (Some n) next above =
        let low : n ≤ f.id = next.2 f.id above (has_shape (f ∷ fs) f.id f (at_head f fs)) in
        elim (cases_lt n f.id) [
          | inl under ↦ absurd (next.1 (ap (option_map shape_of) (at_tail f fs n (λ e. omega (arith, e, under)) ∙ at_low fs f.id n ascending.0 (omega (arith, under)))))
          | inr over ↦ ap Some (let e : f.id ≡ n = omega (arith, low, over) in e)
        ]

    -- a file of the others is not the first one
    apart : (j : ℕ) (g : File) → file_at fs j ≡ Some g → f.id ≡ j → ⊥
    apart j g is e = none-some g (sym (at_low fs f.id j ascending.0 (omega (arith, e))) ∙ is)

  pub first_above : (fs : List File) → AreAscending fs → ((j : ℕ) (f : File) → file_at fs j ≡ Some f → is_some (file_at all f.id) ≡ true)
      → (found : Option ℕ) → IsNextFile (shapes_of fs) id found → option_map (λ (f : File). f.id) (find test fs) ≡ found
  first_above [] ascending there None next = refl
  first_above [] ascending there (Some n) next = absurd (next.1 refl)
  first_above (f ∷ fs) ascending there found next =
      either (cases_lt id f.id)
      (λ low. first_above fs ascending.1 (λ j g is. there j g (at_tail f fs j (λ e. absurd (apart f fs ascending j g is e)) ∙ is)) found (among f fs ascending found next low))
    where
      either : (id < f.id) ⊎ (f.id ≤ id) → (f.id ≤ id → option_map (λ (g : File). g.id) (find test fs) ≡ found) → option_map (λ (g : File). g.id) (find test (f ∷ fs)) ≡ found
      either (inl above) rest = head f fs ascending (passes f (there f.id f (at_head f fs)) above) ∙ least f fs ascending found next above
      either (inr low) rest = tail f fs ascending (fails f low) ∙ rest low

-- the machine's room is the volume's
pub volume_replied : (m : Machine) (capacity used_now : ℕ) → capacity ≡ m.capacity → used_now ≡ used m → reply.Volume capacity (capacity - used_now) ≡ plain_reply m call.Volume
volume_replied m capacity used_now one two = λ i. reply.Volume (one i) (one i - two i)
