-- What a parse makes of words.
use Rattle.std.proofs.Common.{◌≡◌, ◌∙◌, ◌≤◌, ap, sym, subst, refl, ℕ, true, false, List, [], Option, Some, None, arith, length, get_or}
use Rattle.std.specs.Option.{option_map_or}
use Rattle.clap.proofs.WalkLemmas.{one_text-rows}
use Rattle.clap.specs.Built.{IsParsedFrom}
use Rattle.clap.specs.Faults.{fault_of, is_simple_and_free}
use Rattle.clap.specs.Matches.{found_of, one_text}
use Rattle.clap.specs.Simple.{App, HasMatchesOf, app_of, matches_of}
use Rattle.clap.specs.Takes.{takes}
use Rattle.clap.specs.Values.{IsUnsignedIn}
use Rattle.clap.specs.Walk.{Text, one_of, rows_of}
use Rattle.clap.specs.declared.builder.command.Command.{Command as Parser}
use Rattle.clap.specs.declared.parser.matches.ArgMatches.{ArgMatches}
use Rattle.command_words.specs.Meaning.{AreMeant, AreNamed, number_in, number_of}
use Rattle.command_words.specs.Options.{NumberOption, name_of, parser_of, parser_with}
use Rattle.command_words.specs.declared.words.Command.{Command}
use Rattle.command_words.specs.declared.words.Command.TheVariants as command
use Rattle.command_words.proofs.FaultLemmas.{faultless_taken}
use Rattle.command_words.proofs.MeaningLemmas.{same_name}
use Rattle.command_words.proofs.OptionLemmas.{IsOf}
use Rattle.command_words.proofs.PlainLemmas.{HasOptions}
use Rattle.command_words.proofs.RangeLemmas.{found_in_range}

module _ (parser : Parser) (m : ArgMatches) (texts : List Text) (name : Text) (options : List NumberOption) (has : HasOptions name options) (is : app_of parser ≡ parser_with name options)
    (parsed : IsParsedFrom parser m) where
  -- the words are taken
  pub words_taken : (is_simple_and_free (app_of parser) ≡ true → fault_of (app_of parser) texts ≡ []) → takes (parser_with name options) texts ≡ true
  words_taken faultless = faultless_taken (parser_with name options) texts has.plain (subst (λ (a : App). is_simple_and_free a ≡ true → fault_of a texts ≡ []) is faultless has.free)

  -- the text of an option is a number of 32 bits
  pub fits : (o : NumberOption) → IsOf options o → (text : Text) → one_text (found_of m) o.name ≡ Some text → IsUnsignedIn 0 4294967295 text
  fits o of text found =
      let h = found_in_range parser m parsed name options is o of.one of.own text found in
      let most = h.3 in
      let small = of.small in
      (h.0, h.1, omega arith, omega (arith, most, small))

  -- the number is the one that `clap` finds
  pub number_found : HasMatchesOf (app_of parser) texts m → (o : NumberOption) (n : ℕ) → n ≡ option_map_or number_of (one_text (found_of m) o.name) o.otherwise
      → n ≡ number_in (matches_of (parser_with name options) texts) o
  number_found matches o n e =
      let rows : rows_of (found_of m) ≡ matches_of (parser_with name options) texts = (subst (λ (a : App). HasMatchesOf a texts m) is matches has.plain.simple).0 in
      e ∙ ap (λ (t : Option Text). option_map_or number_of t o.otherwise) (one_text-rows (found_of m) o.name ∙ ap (one_of o.name) rows)

  -- and it is in its range
  pub number_in_range : (o : NumberOption) → IsOf options o → (n : ℕ) → n ≡ option_map_or number_of (one_text (found_of m) o.name) o.otherwise → (o.least ≤ n) × (n ≤ o.most)
  number_in_range o of n e = go (one_text (found_of m) o.name) refl
    where
      go : (t : Option Text) → one_text (found_of m) o.name ≡ t → (o.least ≤ n) × (n ≤ o.most)
      go None found =
          let same : n ≡ o.otherwise = e ∙ ap (λ (t : Option Text). option_map_or number_of t o.otherwise) found in
          (subst (λ k. o.least ≤ k) (sym same) of.low, subst (λ k. k ≤ o.most) (sym same) of.high)
      go (Some text) found =
          let h = found_in_range parser m parsed name options is o of.one of.own text found in
          let same : n ≡ number_of text = e ∙ ap (λ (t : Option Text). option_map_or number_of t o.otherwise) found in
          (subst (λ k. o.least ≤ k) (sym same) h.2, subst (λ k. k ≤ o.most) (sym same) h.3)

-- commands with one name are one to `clap`
same_parser : (c d : Command) → name_of c ≡ name_of d → parser_of c ≡ parser_of d
same_parser (command.Run n q) (command.Run m r) e = refl
same_parser (command.Processes n) (command.Processes m) e = refl
same_parser (command.Replicate n) (command.Replicate m) e = refl
same_parser (command.Processes n) (command.Replicate m) e = let l = ap (λ (t : Text). get_or t 0 0) e in absurd (omega (arith, l))
same_parser (command.Replicate n) (command.Processes m) e = let l = ap (λ (t : Text). get_or t 0 0) e in absurd (omega (arith, l))
same_parser (command.Format s k) (command.Format t l) e = refl
same_parser command.Scavenge command.Scavenge e = refl
same_parser command.Convert command.Convert e = refl
same_parser (command.Trial s n f) (command.Trial t m g) e = refl
same_parser c d e = let l = ap length e in absurd (omega (arith, l))

-- texts that are not taken mean no command
pub none_meant : (texts : List Text) (c : Command) → AreNamed texts c → takes (parser_of c) texts ≡ false → (d : Command) → AreMeant texts d → ⊥
none_meant texts c named refused d meant =
    let same = same_parser d c (same_name texts (name_of d) (name_of c) meant.named.0 named.0 meant.named.1 named.1) in
    let bad : true ≡ false = sym meant.taken ∙ (ap (λ (a : App). takes a texts) same ∙ refused) in
    cc
