-- `clap` takes plain words, and finds the numbers that they say.
use Rattle.std.proofs.Common.{◌≡◌, ◌∙◌, ◌<◌, ◌^◌, ◌==◌, ap, sym, subst, refl, ◌++◌, unwrap_or, Bool, true, false, List, [], ◌∷◌, drop, Option, Some, None, arith, cond, find, map}
use Rattle.std.proofs.lemmas.Bool.{ne_eqb}
use Rattle.std.proofs.lemmas.Slice.Eq.{bytes_eq-Decides}
use Rattle.std.proofs.lemmas.Str.Parse.{digit_from_value}
use Rattle.std.specs.Option.{option_map_or}
use Rattle.std.specs.Str.{bytes_eq}
use Rattle.std.specs.Str.Parse.{IsNumeral, digits_value, without_leading_plus}
use Rattle.clap.proofs.ValueTestLemmas.{Accepts-accepts}
use Rattle.clap.specs.Facts.{parser_of_value}
use Rattle.clap.specs.Faults.{is_simple_and_free}
use Rattle.clap.specs.Simple.{built, filled, matches_of, with_index}
use Rattle.clap.specs.Takes.{value_passes}
use Rattle.clap.specs.ValueTests.{accepts}
use Rattle.clap.specs.Values.{IsUnsignedIn}
use Rattle.clap.specs.Walk.{Rule, Text, one_of}
use Rattle.clap.specs.Words.{new_rule}
use Rattle.clap.specs.declared.builder.value_parser.ValueParser.TheVariants as vp
use Rattle.command_words.specs.Meaning.{number_in, number_of}
use Rattle.command_words.specs.Options.{NumberOption, option_named, parser_with, rule_for}
use Rattle.command_words.specs.Plain.{ArePairs, Fits, IsNumberFor, flat, said}
use Rattle.command_words.proofs.Walks.{AreUses, IsOption, IsPlainApp, IsTaken, IsValue, one_text_is, pair_row, taken, text_of, uses_of, said_is}

pub no_plus : (ds : Text) → IsNumeral 10 ds → without_leading_plus ds ≡ ds
no_plus [] h = refl
no_plus (d ∷ ds) h =
    let plus : (d == 43) ≡ false = ne_eqb _ _ (λ e. omega (arith, digit_from_value d h.1.0)) in
    ap (λ (b : Bool). drop (cond b 1 0) (d ∷ ds)) plus

number_passes : (a : Rule) (o : NumberOption) (text : Text) → parser_of_value a.parser ≡ vp.Unsigned o.least o.most → o.most < 2 ^ 32 → IsNumberFor o text
    → value_passes a text ≡ true
number_passes a o text is small h =
    let same = no_plus text h.0 in
    let low_ok = h.1 in
    let high_ok = h.2 in
    let accepted : IsUnsignedIn o.least o.most text = (rw same h.0, rw same (omega arith), rw same low_ok, rw same high_ok) in
    ap (λ p. accepts a.ignore_case p text) is ∙ Accepts-accepts a.ignore_case (vp.Unsigned o.least o.most) text accepted

-- a number for an option is a value of its rule
number_is_value : (a : Rule) (o : NumberOption) (text : Text) → parser_of_value a.parser ≡ vp.Unsigned o.least o.most → o.most < 2 ^ 32 → IsNumberFor o text
    → IsValue a text
number_is_value a o [] is small h = absurd (omega (arith, h.0.0))
number_is_value a o (d ∷ ds) is small h =
    let minus : (d == 45) ≡ false = ne_eqb _ _ (λ e. omega (arith, digit_from_value d h.0.1.0)) in
    record {
      no_long = rw minus refl;
      no_short = rw minus refl;
      dashes = rw minus refl;
      passes = number_passes a o (d ∷ ds) is small h;
    }

-- the rule of a name, as the built command has it
abbrev pub rule_named : List NumberOption → Text → Rule
rule_named options name = with_index 1 (filled (option_map_or rule_for (option_named options name) (new_rule name)))

-- of the name of each option this holds, and its numbers have 32 bits
abbrev pub OfEach : (Text → Type 0) → List NumberOption → Type 0
OfEach P [] = Unit {0}
OfEach P (o ∷ os) = P o.name × (o.most < 2 ^ 32) × OfEach P os

of_named : (P : Text → Type 0) (options : List NumberOption) (name : Text) (o : NumberOption) → OfEach P options → option_named options name ≡ Some o
    → P name × (o.most < 2 ^ 32)
of_named P [] name o each e = cc
of_named P (x ∷ xs) name o each e = go (bytes_eq x.name name) refl e (of_named P xs name o each.2)
  where
    go : (b : Bool) → bytes_eq x.name name ≡ b → cond b (Some x) (find (λ y. bytes_eq y.name name) xs) ≡ Some o
        → (option_named xs name ≡ Some o → P name × (o.most < 2 ^ 32)) → P name × (o.most < 2 ^ 32)
    go true same e ih = (
      subst P ((bytes_eq-Decides x.name name).0 same) each.0,
      subst (λ (y : NumberOption). y.most < 2 ^ 32) (ap (λ (p : Option NumberOption). unwrap_or p x) e) each.1,
    )
    go false same e ih = ih e

-- a command of these options, with what its plain pairs are
pub record HasOptions (name : Text) (options : List NumberOption) : Type 0 where
  pub plain : IsPlainApp (parser_with name options)
  pub free : is_simple_and_free (parser_with name options) ≡ true
  pub each : OfEach (λ n. IsOption (built (parser_with name options)).top n (rule_named options n)) options

module _ (name : Text) (options : List NumberOption) (has : HasOptions name options) where
  fit : (n text : Text) → Fits options n text → IsOption (built (parser_with name options)).top n (rule_named options n) × IsValue (rule_named options n) text
  fit n text h =
      let known = of_named (λ m. IsOption (built (parser_with name options)).top m (rule_named options m)) options n h.0 has.each h.1 in
      let is : parser_of_value (rule_named options n).parser ≡ vp.Unsigned h.0.least h.0.most =
      ap (λ (p : Option NumberOption). parser_of_value (with_index 1 (filled (option_map_or rule_for p (new_rule n)))).parser) h.1 in
      (known.0, number_is_value (rule_named options n) h.0 text is known.1 h.2)

  used : (pairs : List (Text × Text)) → ArePairs options [] pairs → AreUses (built (parser_with name options)).top (rule_named options) [] pairs
  used pairs h = uses_of (built (parser_with name options)).top (rule_named options) options fit pairs [] [] (λ n. refl) h

  pub pairs_taken : (pairs : List (Text × Text)) → ArePairs options [] pairs → (first : Text)
      → IsTaken (parser_with name options) (first ∷ flat pairs) (map (pair_row (rule_named options)) pairs)
  pairs_taken pairs h first = taken (parser_with name options) (rule_named options) pairs first has.plain (used pairs h)

  text_fits : (seen : List Text) (pairs : List (Text × Text)) (n text : Text) → ArePairs options seen pairs → text_of pairs n ≡ Some text → Fits options n text
  text_fits seen [] n text h e = cc
  text_fits seen (p ∷ ps) n text h e = go (bytes_eq p.0 n) refl e (text_fits (seen ++ p.0 ∷ []) ps n text h.2)
    where
      go : (b : Bool) → bytes_eq p.0 n ≡ b → cond b (Some p.1) (text_of ps n) ≡ Some text → (text_of ps n ≡ Some text → Fits options n text) → Fits options n text
      go true same e ih =
          subst (Fits options n) (ap (λ (o : Option Text). unwrap_or o p.1) e)
          (subst (λ (m : Text). Fits options m p.1) ((bytes_eq-Decides p.0 n).0 same) h.0)
      go false same e ih = ih e

  -- the number that `clap` finds is the one that the pairs say
  pub number_said : (pairs : List (Text × Text)) → ArePairs options [] pairs → (first : Text) (o : NumberOption)
      → number_in (matches_of (parser_with name options) (first ∷ flat pairs)) o ≡ said pairs o
  number_said pairs h first o =
      let is : one_of o.name (matches_of (parser_with name options) (first ∷ flat pairs)) ≡ text_of pairs o.name =
      ap (one_of o.name) (pairs_taken pairs h first).rows_are ∙ one_text_is (built (parser_with name options)).top (rule_named options) [] pairs o.name (used pairs h) in
      ap (λ (t : Option Text). option_map_or number_of t o.otherwise) is ∙ go (text_of pairs o.name) refl ∙ sym (said_is pairs o)
    where
      go : (t : Option Text) → text_of pairs o.name ≡ t → option_map_or number_of (text_of pairs o.name) o.otherwise ≡ option_map_or (digits_value 10) (text_of pairs o.name) o.otherwise
      go None e = rw e refl
      go (Some text) e = rw e (ap (digits_value 10) (no_plus text (text_fits [] pairs o.name text h e).2.0))
