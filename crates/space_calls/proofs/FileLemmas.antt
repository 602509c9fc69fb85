-- Whether a file is immutable, and what a space shows in which pages, by what was revealed.
use Rattle.std.proofs.Common.{◌≡◌, ℕ, List, Option, Some, None, Result, Ok, Err, refl, sym, ◌∙◌, ap, subst}
use Rattle.std.specs.Prelude.{option_and_then, option_map}
use Rattle.std.specs.Bool.{then_some}
use Rattle.std.proofs.lemmas.Option.{none-some, same_Some}
use Rattle.labelled_disk.specs.File.{File, file_at}
use Rattle.flat_machine.specs.declared.call.Refusal.{Refusal}
use Rattle.flat_machine.specs.declared.call.Refusal.TheVariants as why
use Rattle.flat_machine.specs.declared.space.Space.{Space}
use Rattle.flat_machine.specs.Machine.{Machine}
use Rattle.flat_machine.specs.Refusal.{first_of, is_immutable}
use Rattle.flat_machine.proofs.TestLemmas.{two_none}
use Rattle.projection_laws.specs.Tests.{no_space, not_mapped, window_row}
use Rattle.session_words.specs.Parts.{Shape, shape_of, shapes_of}
use Rattle.space_tables.specs.declared.shown.Shown.{Shown}
use Rattle.file_manager.specs.declared.attributes.Attributes.{Attributes}
use Rattle.file_manager.specs.Attributes.{IsAttributesOf, shape_revealed}
use Rattle.table_calls.specs.Answers.{Reveals}
use Rattle.space_calls.specs.Unmapping.{IsWindowIn}
use Rattle.space_calls.proofs.CarryLemmas.{answered, declined}
use Rattle.space_calls.proofs.TableAnswers.{IsRunOf, IsShownBy, bounds_refused, bounds_revealed, shown_revealed}

-- ---- The file.

marked : (o : Option File) (a : Attributes) → option_map shape_of o ≡ Some (shape_revealed a) → option_and_then (λ f. then_some f.immutable why.Immutable) o ≡ then_some a.immutable why.Immutable
marked None a same = absurd (none-some (shape_revealed a) same)
marked (Some f) a same = ap (λ (s : Shape). then_some s.immutable why.Immutable) (same_Some (shape_of f) (shape_revealed a) same)

unmarked : (o : Option File) → option_map shape_of o ≡ None → option_and_then (λ f. then_some f.immutable why.Immutable) o ≡ None
unmarked None same = refl
unmarked (Some f) same = absurd (none-some (shape_of f) (sym same))

pub immutable_revealed : (m : Machine) (id : ℕ) (o : Option Attributes) (a : Attributes) → o ≡ Some a → IsAttributesOf (shapes_of m.files id) o → is_immutable m id ≡ then_some a.immutable why.Immutable
immutable_revealed m id o a is revealed = marked (file_at m.files id) a (subst (λ (o : Option Attributes). IsAttributesOf (shapes_of m.files id) o) is revealed)

pub missing_revealed : (m : Machine) (id : ℕ) (o : Option Attributes) → o ≡ None → IsAttributesOf (shapes_of m.files id) o → is_immutable m id ≡ None
missing_revealed m id o is revealed = unmarked (file_at m.files id) (subst (λ (o : Option Attributes). IsAttributesOf (shapes_of m.files id) o) is revealed)

-- ---- The window.

module _ (ss : List Space) (handle : ℕ) (o : Result Shown Refusal) (shown : Shown) (is : o ≡ Ok shown) (revealed : Reveals (first_of (window_row ss handle)) (IsShownBy ss handle) o) (p : Result (ℕ × ℕ) Refusal) (also : Reveals (no_space ss handle) (IsRunOf ss handle) p) where
  seen : (first_of (window_row ss handle) ≡ None) × IsShownBy ss handle shown
  seen = shown_revealed ss handle o shown is revealed

  pub window_found : (first pages : ℕ) → p ≡ Ok (first, pages) → (first_of (window_row ss handle) ≡ None) × IsWindowIn ss handle (shown, first, pages)
  window_found first pages run =
      let at = (bounds_revealed ss handle p (first, pages) run also).1 in
      let same : at.0 ≡ seen.1.0 = same_Some at.0 seen.1.0 (sym at.1 ∙ seen.1.1) in
      let both : (first, pages) ≡ (at.0.first, at.0.pages) = at.2 in (
        seen.0,
        (
          seen.1.0,
          seen.1.1,
          seen.1.2,
          ap (λ (x : ℕ × ℕ). x.0) both ∙ ap (λ (s : Space). s.first) same,
          ap (λ (x : ℕ × ℕ). x.1) both ∙ ap (λ (s : Space). s.pages) same,
        ),
      )

  -- a space that shows something is there
  pub window_lost : (word : Refusal) → p ≡ Err word → ⊥
  window_lost word no_run = none-some word (sym (two_none (no_space ss handle) (not_mapped ss handle) seen.0).0 ∙ bounds_refused ss handle p word no_run also)

module _ (ss : List Space) (handle : ℕ) (o : Result (Shown × ℕ × ℕ) Refusal) (revealed : Reveals (first_of (window_row ss handle)) (IsWindowIn ss handle) o) where
  pub found_revealed : (found : Shown × ℕ × ℕ) → o ≡ Ok found → (first_of (window_row ss handle) ≡ None) × IsWindowIn ss handle found
  found_revealed found is = answered (first_of (window_row ss handle)) (IsWindowIn ss handle) (Unit {0}) o found is revealed

  pub found_refused : (word : Refusal) → o ≡ Err word → first_of (window_row ss handle) ≡ Some word
  found_refused word is = (declined (first_of (window_row ss handle)) (IsWindowIn ss handle) (Unit {0}) o word is revealed).0
