-- What a parse finds for an option is a number in its range.
use Rattle.std.proofs.Common.{◌≡◌, ◌∙◌, ◌<◌, ap, sym, subst, refl, inl, inr, unwrap_or, ℕ, true, zero, suc, List, [], ◌∷◌, length, Option, Some, None, arith, codes, map, option_map}
use Rattle.std.specs.List.{All, list_all, slice_index_or}
use Rattle.std.specs.Prelude.{slice_get}
use Rattle.std.specs.Borrow.{Bor}
use Rattle.std.specs.Str.{bytes_eq}
use Rattle.std.proofs.lemmas.Bool.{cases_lt}
use Rattle.std.proofs.lemmas.List.Elements.{All-get_or}
use Rattle.std.proofs.lemmas.Slice.Eq.{bytes_eq-Decides}
use Rattle.clap.proofs.CallerLemmas.{entry_by_id}
use Rattle.clap.proofs.SimpleLemmas.{plain_fields, simple_groups}
use Rattle.clap.specs.Built.{IsAuto, IsParsedFrom, SameRules}
use Rattle.clap.specs.Facts.{Entry, EntryPasses, PassesArg, args_of, groups_of, parser_of, parser_of_value}
use Rattle.clap.specs.Matches.{found_of, matched_of, one_text}
use Rattle.clap.specs.Simple.{App, app_of}
use Rattle.clap.specs.Values.{Accepts, IsUnsignedIn, read_as, reading_of}
use Rattle.clap.specs.Walk.{Rule, Text, rule_of}
use Rattle.clap.specs.declared.builder.arg.Arg.{Arg}
use Rattle.clap.specs.declared.builder.command.Command.{Command}
use Rattle.clap.specs.declared.builder.value_parser.Reading.TheVariants.{AsWritten}
use Rattle.clap.specs.declared.builder.value_parser.ValueParser.{ValueParser}
use Rattle.clap.specs.declared.builder.value_parser.ValueParser.TheVariants as vp
use Rattle.clap.specs.declared.parser.matches.ArgMatches.{ArgMatches}
use Rattle.clap.specs.declared.parser.matches.MatchedArg.{MatchedArg}
use Rattle.command_words.specs.Options.{NumberOption, parser_with, rule_for}

-- each of the options that has the name of o has its bounds
abbrev pub OnlyOne : List NumberOption → NumberOption → Type 0
OnlyOne [] o = Unit {0}
OnlyOne (x ∷ xs) o = (x.name ≡ o.name → (x.least ≡ o.least) × (x.most ≡ o.most)) × OnlyOne xs o

all_are_simple : (options : List NumberOption) → list_all (λ (r : Rule). r.is_simple) (map rule_for options) ≡ true
all_are_simple [] = refl
all_are_simple (o ∷ os) = all_are_simple os

-- so has each argument with these rules
parser_at : (xs : List Arg) (options : List NumberOption) (o : NumberOption) → map rule_of xs ≡ map rule_for options → OnlyOne options o → (k : ℕ) (d : Arg) → k < length xs
    → (slice_index_or xs k d).id.now ≡ o.name → (slice_index_or xs k d).value_parser ≡ Some (vp.Unsigned o.least o.most)
parser_at [] options o is one k d low named = absurd (omega (arith, low))
parser_at (x ∷ xs) [] o is one k d low named = let e = ap length is in absurd (omega (arith, e))
parser_at (x ∷ xs) (p ∷ ps) o is one zero d low named =
    let rule : rule_of x ≡ rule_for p = ap (λ (l : List Rule). slice_index_or l 0 (rule_of x)) is in
    let same = one.0 (sym (ap (λ (r : Rule). r.id) rule) ∙ named) in
    ap (λ (r : Rule). r.parser) rule ∙ (λ i. Some (vp.Unsigned (same.0 i) (same.1 i)))
parser_at (x ∷ xs) (p ∷ ps) o is one (suc k) d low named = parser_at xs ps o (ap (λ (l : List Rule). rest_of l) is) one.1 k d (omega (arith, low)) named
  where
    rest_of : List Rule → List Rule
    rest_of [] = []
    rest_of (r ∷ rs) = rs

module _ (old : Command) (m : ArgMatches) (p : IsParsedFrom old m) (name : Text) (options : List NumberOption) (is : app_of old ≡ parser_with name options) (o : NumberOption)
    (one : OnlyOne options o) (own : (o.name ≡ codes "help" → ⊥) × (o.name ≡ codes "version" → ⊥) × (o.name ≡ [] → ⊥)) where
  -- the argument of the name has the bounds, as it was built
  built_parser : (j : ℕ) (x : Arg) → j < length (args_of p.built) → slice_index_or (args_of p.built) j x ≡ x → bytes_eq x.id.now o.name ≡ true → parser_of x ≡ vp.Unsigned o.least o.most
  built_parser j x high is_x same =
      let x_id : x.id.now ≡ o.name = (bytes_eq-Decides x.id.now o.name).0 same in
      elim (cases_lt j (length (args_of old))) [
        | inl under ↦
            let s = subst (λ w. SameRules (slice_index_or (args_of old) j x) w) is_x (p.from.kept j x under).1 in
            let old_id : (slice_index_or (args_of old) j x).id.now ≡ o.name = sym (ap (λ y. y.now) s.id) ∙ x_id in
            ap parser_of_value (s.parser (vp.Unsigned o.least o.most) (parser_at (args_of old) options o (ap (λ (a : App). a.top.rules) is) one j x under old_id))
        | inr over ↦
            let flag = subst IsAuto is_x (p.from.extra j x over high) in
            absurd (elim flag [ inl h ↦ own.0 (sym x_id ∙ h) | inr h ↦ own.1 (sym x_id ∙ h) ])
      ]

  no_groups : groups_of p.built ≡ []
  no_groups =
      let plain = plain_fields old (ap (λ (a : App). a.top.is_plain) is) in
      let simple = ap (λ (a : App). list_all (λ (r : Rule). r.is_simple) a.top.rules) is ∙ all_are_simple options in
      (p.from.same_groups (simple_groups old simple)).1 ∙ plain.groups

  value_in : (v : Bor (List ℕ)) → PassesArg p.built o.name v.now → IsUnsignedIn o.least o.most v.now
  value_in v pass =
      let parser = built_parser pass.0 pass.1 pass.2 pass.3 pass.4.0 in
      subst (λ (q : ValueParser). Accepts pass.1.ignore_case q v.now) parser pass.4.1

  first_in : (x : MatchedArg) (text : Text) → All (λ v. PassesArg p.built o.name v.now) x.vals.items → x.reading ≡ AsWritten
      → option_map (λ s. read_as x.reading s.now) (slice_get x.vals.items 0) ≡ Some text → IsUnsignedIn o.least o.most text
  first_in x text all reading has = go x.vals.items all (ap (λ r. option_map (λ s. read_as r s.now) (slice_get x.vals.items 0)) (sym reading) ∙ has)
    where
      go : (vs : List (Bor (List ℕ))) → All (λ v. PassesArg p.built o.name v.now) vs → option_map (λ s. read_as AsWritten s.now) (slice_get vs 0) ≡ Some text → IsUnsignedIn o.least o.most text
      go [] all e = cc
      go (v ∷ vs) all e =
          subst (IsUnsignedIn o.least o.most) (ap (λ (t : Option Text). unwrap_or t v.now) e) (value_in v (All-get_or (λ w. PassesArg p.built o.name w.now) (v ∷ vs) 0 v (omega arith) all))

  entry_in : (x : MatchedArg) (text : Text) (e : Entry) → e.1 ≡ x → bytes_eq e.0.now o.name ≡ true → EntryPasses p.built e
      → option_map (λ s. read_as x.reading s.now) (slice_get x.vals.items 0) ≡ Some text → IsUnsignedIn o.least o.most text
  entry_in x text e same key pass has =
      let key_id : e.0.now ≡ o.name = (bytes_eq-Decides e.0.now o.name).0 key in
      let no_group : e.1.is_group ≡ true → ⊥ = λ g. elim (pass.3 g) [
        | inl empty ↦ own.2 (sym key_id ∙ empty)
        | inr lots ↦
            let bad : 0 < 0 = rw no_groups at lots in
            absurd (omega arith)
      ] in
      let all : All (λ v. PassesArg p.built o.name v.now) x.vals.items = elim pass.0 [
        | inl g ↦ absurd (no_group g)
        | inr vals ↦ subst (λ (w : List ℕ). All (λ v. PassesArg p.built w v.now) x.vals.items) key_id (rw same at vals)
      ] in
      let reading : e.1.reading ≡ AsWritten = elim pass.4 [
        | inl g ↦ absurd (no_group g)
        | inr h ↦
            let parser = built_parser h.0 h.1 h.2 h.3 (subst (λ (w : List ℕ). bytes_eq h.1.id.now w ≡ true) key_id h.4.0) in
            sym h.4.1 ∙ ap reading_of parser
      ] in
      first_in x text all (ap (λ (y : MatchedArg). y.reading) (sym same) ∙ reading) has

  -- the text that was found for the option is a number in its range
  pub found_in_range : (text : Text) → one_text (found_of m) o.name ≡ Some text → IsUnsignedIn o.least o.most text
  found_in_range text found = go (matched_of (found_of m) o.name) refl found
    where
      go : (x : Option MatchedArg) → matched_of (found_of m) o.name ≡ x → one_text (found_of m) o.name ≡ Some text → IsUnsignedIn o.least o.most text
      go None e found = let bad : ◌≡◌ {A = Option Text} None (Some text) = rw e at found in cc
      go (Some x) e found =
          let plain = plain_fields old (ap (λ (a : App). a.top.is_plain) is) in
          let parsed = p.parsed (p.from.globals ∙ plain.globals) in
          let got = entry_by_id (EntryPasses p.built) (found_of m).entries.items o.name x parsed.values e in
          entry_in x text got.0 got.1 got.2 got.3 (rw e at found)
