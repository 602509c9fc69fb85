-- Words at which `clap` finds no fault are taken.
use Rattle.std.proofs.Common.{◌≡◌, ◌∙◌, ◌&&◌, ◌||◌, ◌==◌, sym, refl, ℕ, Bool, true, false, not, zero, suc, List, [], ◌∷◌, length, drop, Option, Some, None, arith, cond, codes, nat_lt, nat_le, is_some, encode_utf8, slice_get}
use Rattle.std.proofs.lemmas.Bool.{eqb-true, le-leb, ltb-false}
use Rattle.std.specs.List.{list_all}
use Rattle.std.specs.Option.{option_map_or}
use Rattle.std.specs.Str.{bytes_eq, chars}
use Rattle.clap.proofs.FaultLemmas.{leaf_fault}
use Rattle.clap.proofs.TakesLemmas.{leaf_takes}
use Rattle.clap.specs.Facts.{parser_of_value, unwrap_or_range}
use Rattle.clap.specs.Faults.{action_fault, bundle_fault, bundle_step_fault, count_fault, fault_of, flag_word_fault, flags_fault, long_fault, option_fault, other_fault, positional_fault, react_fault, set_fault, settle_fault, short_fault, step_fault, turn_fault, use_fault, walk_fault, word_fault}
use Rattle.clap.specs.Kinds.{Kinds, or_else, range_kinds, values_kinds}
use Rattle.clap.specs.Lexer.{long_of, short_of}
use Rattle.clap.specs.Simple.{App, Shape, argument_words, built}
use Rattle.clap.specs.Takes.{action_passes, bundle_passes, bundle_step_passes, count_passes, flag_word_passes, flags_pass, level_passes, long_passes, option_passes, other_passes, positional_passes, react_passes, set_passes, settle_passes, short_passes, step_passes, takes, turn_passes, use_passes, walk_passes, word_passes}
use Rattle.clap.specs.ValueTests.{accepts}
use Rattle.clap.specs.Walk.{Held, Names, Row, Rule, Step, Text, Waiting, Walk, action_of, arg_by_id, arg_by_index, arg_by_long, arg_by_short, attached_value, finished, has_row, is_pending, most_values, next, nothing_held, reacted, settled, subcommand, subcommand_met, takes_several, takes_values, trailing, value, values_or_missing, walk, walk_from, walked, word_met}
use Rattle.clap.specs.declared.builder.action.ArgAction.{ArgAction}
use Rattle.clap.specs.declared.builder.action.ArgAction.TheVariants as action
use Rattle.clap.specs.declared.builder.value_parser.ValueParser.{ValueParser}
use Rattle.clap.specs.declared.error.kind.ErrorKind.{ErrorKind}
use Rattle.clap.specs.declared.error.kind.ErrorKind.TheVariants as kind
use Rattle.command_words.proofs.Walks.{IsPlainApp}

neither : (a b : Kinds) → or_else a b ≡ [] → (a ≡ []) × (b ≡ [])
neither [] b e = (refl, e)
neither (k ∷ ks) b e = cc

passed : (b : Bool) (k : ErrorKind) → cond b [] (k ∷ []) ≡ [] → b ≡ true
passed true k e = refl
passed false k e = cc

values_ok : (i : Bool) (p : ValueParser) (vs : List Text) → values_kinds i p vs ≡ [] → list_all (accepts i p) vs ≡ true
values_ok i p [] e = refl
values_ok i p (v ∷ vs) e =
    let both = neither _ _ e in
    rw (passed (accepts i p v) _ both.0, values_ok i p vs both.1) refl

unless : (a b : Bool) (ks : Kinds) (k : ErrorKind) → cond (a && not b) (k ∷ ks) [] ≡ [] → (not a || b) ≡ true
unless true true ks k e = refl
unless true false ks k e = cc
unless false b ks k e = refl

set_ok : (again : Bool) (a : Rule) (values : List Text) (rows : List Row) → set_fault again a values rows ≡ [] → set_passes again a values rows ≡ true
set_ok again a values rows e =
    let both = neither _ _ e in
    rw (unless (has_row a.id rows) again [] _ both.0, values_ok a.ignore_case (parser_of_value a.parser) values both.1) refl

count_ok : (a : Rule) (values : List Text) (rows : List Row) → count_fault a values rows ≡ [] → count_passes a values rows ≡ true
count_ok a [] rows e = passed _ _ e
count_ok a (v ∷ vs) rows e = values_ok a.ignore_case (parser_of_value a.parser) (v ∷ vs) e

action_ok : (x : ArgAction) (again : Bool) (a : Rule) (values : List Text) (rows : List Row) → action_fault x again a values rows ≡ [] → action_passes x again a values rows ≡ true
action_ok action.Set again a values rows e = set_ok again a values rows e
action_ok action.SetTrue again a values rows e = set_ok again a values rows e
action_ok action.SetFalse again a values rows e = set_ok again a values rows e
action_ok action.Append again a values rows e = values_ok a.ignore_case (parser_of_value a.parser) values e
action_ok action.Count again a values rows e = count_ok a values rows e
action_ok action.Help again a values rows e = cc
action_ok action.HelpShort again a values rows e = cc
action_ok action.HelpLong again a values rows e = cc
action_ok action.Version again a values rows e = cc

range_ok : (least most n : ℕ) → range_kinds least most n ≡ [] → (nat_le least n ≡ true) × (nat_le n most ≡ true)
range_ok least most n e = go (nat_lt 0 least && n == 0) (least == most) (least == n) (nat_lt n least) (nat_lt most n) refl refl refl refl e
  where
    go : (z a b x y : Bool) → (least == most) ≡ a → (least == n) ≡ b → nat_lt n least ≡ x → nat_lt most n ≡ y
        → cond z (kind.InvalidValue ∷ []) (cond a (cond b [] (kind.WrongNumberOfValues ∷ [])) (cond x (kind.TooFewValues ∷ []) (cond y (kind.TooManyValues ∷ []) []))) ≡ []
        → (nat_le least n ≡ true) × (nat_le n most ≡ true)
    go true a b x y is_a is_b is_x is_y e = cc
    go false true true x y is_a is_b is_x is_y e =
        let one = eqb-true least most is_a in
        let other = eqb-true least n is_b in
        (le-leb least n (omega (arith, other)), le-leb n most (omega (arith, one, other)))
    go false true false x y is_a is_b is_x is_y e = cc
    go false false b true y is_a is_b is_x is_y e = cc
    go false false b false true is_a is_b is_x is_y e = cc
    go false false b false false is_a is_b is_x is_y e = (le-leb least n (ltb-false n least is_x), le-leb n most (ltb-false most n is_y))

use_ok : (again : Bool) (a : Rule) (values : List Text) (rows : List Row) → use_fault again a values rows ≡ [] → use_passes again a values rows ≡ true
use_ok again a values rows e =
    let both = neither _ _ e in
    let range = range_ok (unwrap_or_range a.range).start_inclusive (most_values a) (length values) both.0 in
    rw (range.0, range.1, action_ok (action_of a) again a (values_or_missing a values) rows both.1) refl

sync_ok : (c : List Rule) (again : Bool) (h : Held) → settle_fault c again h ≡ [] → settle_passes c again h ≡ true
sync_ok c again h e = go h.pending e
  where
    given : (p : Text × List Text) (o : Option Rule) → option_map_or (λ a. use_fault again a p.1 h.rows) o [] ≡ [] → option_map_or (λ a. use_passes again a p.1 h.rows) o true ≡ true
    given p None e = refl
    given p (Some a) e = use_ok again a p.1 h.rows e

    go : (o : Option (Text × List Text)) → option_map_or (λ p. option_map_or (λ a. use_fault again a p.1 h.rows) (arg_by_id c p.0) []) o [] ≡ []
        → option_map_or (λ p. option_map_or (λ a. use_passes again a p.1 h.rows) (arg_by_id c p.0) true) o true ≡ true
    go None e = refl
    go (Some p) e = given p (arg_by_id c p.0) e

react_ok : (c : List Rule) (again : Bool) (a : Rule) (values : List Text) (h : Held) → react_fault c again a values h ≡ [] → react_passes c again a values h ≡ true
react_ok c again a values h e =
    let both = neither _ _ e in
    rw (sync_ok c again h both.0, use_ok again a values (settled c h).rows both.1) refl

option_ok : (c : List Rule) (again : Bool) (a : Rule) (v : Option Text) (h : Held) → option_fault c again a v h ≡ [] → option_passes c again a v h ≡ true
option_ok c again a (Some v) h e = react_ok c again a (v ∷ []) h e
option_ok c again a None h e = sync_ok c again h e

long_ok : (c : List Rule) (again : Bool) (o : Option Rule) (v : Option Text) (h : Held) → long_fault c again o v h ≡ [] → long_passes c again o v h ≡ true
long_ok c again None v h e = cc
long_ok c again (Some a) v h e = go (takes_values a) (is_some v) e
  where
    go : (t s : Bool) → cond t (option_fault c again a v h) (cond s (kind.TooManyValues ∷ []) (react_fault c again a [] h)) ≡ [] → cond t (option_passes c again a v h) (not s && react_passes c again a [] h) ≡ true
    go true s e = option_ok c again a v h e
    go false true e = cc
    go false false e = react_ok c again a [] h e

short_ok : (c : List Rule) (again : Bool) (o : Option Rule) (rest : Text) (h : Held) (faults : Held → Kinds) (passes : Held → Bool) → ((g : Held) → faults g ≡ [] → passes g ≡ true)
    → short_fault c again o rest h faults ≡ [] → short_passes c again o rest h passes ≡ true
short_ok c again None rest h faults passes each e = cc
short_ok c again (Some a) rest h faults passes each e = go (takes_values a) e
  where
    go : (t : Bool) → cond t (option_fault c again a (attached_value rest) h) (or_else (react_fault c again a [] h) (faults (reacted c a [] h))) ≡ []
        → cond t (option_passes c again a (attached_value rest) h) (react_passes c again a [] h && passes (reacted c a [] h)) ≡ true
    go true e = option_ok c again a (attached_value rest) h e
    go false e =
        let both = neither _ _ e in
        rw (react_ok c again a [] h both.0, each (reacted c a [] h) both.1) refl

bundle_step_ok : (c : List Rule) (again : Bool) (o : Option ℕ) (flags : Text) (skip : ℕ) (h : Held) (faults : Text → ℕ → Held → Kinds) (passes : Text → ℕ → Held → Bool)
    → ((t : Text) (n : ℕ) (g : Held) → faults t n g ≡ [] → passes t n g ≡ true)
    → bundle_step_fault c again o flags skip h faults ≡ [] → bundle_step_passes c again o flags skip h passes ≡ true
bundle_step_ok c again None flags skip h faults passes each e = refl
bundle_step_ok c again (Some x) flags zero h faults passes each e =
    let rest = drop (length (encode_utf8 x)) flags in
    short_ok c again (arg_by_short c x) rest h (faults rest 0) (passes rest 0) (each rest 0) e
bundle_step_ok c again (Some x) flags (suc skip) h faults passes each e = each (drop (length (encode_utf8 x)) flags) skip h e

flags_ok : (c : List Rule) (again : Bool) (k : ℕ) (flags : Text) (skip : ℕ) (h : Held) → flags_fault c again k flags skip h ≡ [] → flags_pass c again k flags skip h ≡ true
unfolding flags_fault flags_pass
flags_ok c again zero flags skip h e = refl
flags_ok c again (suc k) flags skip h e =
    bundle_step_ok c again (slice_get (chars flags) 0) flags skip h (flags_fault c again k) (flags_pass c again k) (flags_ok c again k) e

flag_word_ok : (c : List Rule) (again : Bool) (o : Option (Text × Option Text)) (word : Text) (h : Held) → flag_word_fault c again o word h ≡ [] → flag_word_passes c again o word h ≡ true
flag_word_ok c again (Some p) word h e = long_ok c again (arg_by_long c p.0) p.1 h e
flag_word_ok c again None word h e = go (short_of word) e
  where
    go : (o : Option Text) → option_map_or (λ flags. bundle_fault c again flags h) o [] ≡ [] → option_map_or (λ flags. bundle_passes c again flags h) o true ≡ true
    go None e = refl
    go (Some flags) e = flags_ok c again (length flags) flags h.skip (record h { skip = 0 }) e

other_ok : (s : Shape) (o : Option Text) (word : Text) (h : Held) → other_fault s o word h ≡ [] → other_passes s o word h ≡ true
other_ok s (Some name) word h e = unless (bytes_eq name (codes "help")) s.disable_help_subcommand _ _ e
other_ok s None word h e = go (bytes_eq word (45 ∷ 45 ∷ [])) e
  where
    go : (b : Bool) → cond b [] (flag_word_fault s.rules s.args_override_self (long_of word) word h) ≡ [] → (b || flag_word_passes s.rules s.args_override_self (long_of word) word h) ≡ true
    go true e = refl
    go false e = flag_word_ok s.rules s.args_override_self (long_of word) word h e

word_ok : (s : Shape) (names : Names) (is_trailing : Bool) (waiting : Waiting) (word : Text) (h : Held) → word_fault s names is_trailing waiting word h ≡ []
    → word_passes s names is_trailing waiting word h ≡ true
word_ok s names true waiting word h e = refl
word_ok s names false waiting word h e = other_ok s (subcommand_met names waiting word) word h e

positional_ok : (c : List Rule) (again : Bool) (a : Rule) (h : Held) → positional_fault c again a h ≡ [] → positional_passes c again a h ≡ true
positional_ok c again a h e = go (is_pending a h.pending && takes_several a) e
  where
    go : (b : Bool) → cond b [] (settle_fault c again h) ≡ [] → (b || settle_passes c again h) ≡ true
    go true e = refl
    go false e = sync_ok c again h e

step_ok : (s : Shape) (position : ℕ) (h : Held) (step : Step) → step_fault s position h step ≡ [] → step_passes s position h step ≡ true
step_ok s position h value e = go (arg_by_index s.rules position) s.is_leaf e
  where
    go : (o : Option Rule) (leaf : Bool) → option_map_or (λ a. positional_fault s.rules s.args_override_self a h) o (cond leaf (kind.UnknownArgument ∷ []) (kind.UnknownArgument ∷ kind.InvalidSubcommand ∷ [])) ≡ []
        → option_map_or (λ a. positional_passes s.rules s.args_override_self a h) o false ≡ true
    go None true e = cc
    go None false e = cc
    go (Some a) leaf e = positional_ok s.rules s.args_override_self a h e
step_ok s position h (next waiting) e = refl
step_ok s position h (trailing n) e = refl
step_ok s position h (subcommand name) e = refl

turn_ok : (s : Shape) (names : Names) (w : Walk) (word : Text) → turn_fault s names w word ≡ [] → turn_passes s names w word ≡ true
turn_ok s names w word e = go (is_some w.stopped) e
  where
    met : Held × Step
    met = word_met s.rules names w.is_trailing w.waiting w.position word w.held

    go : (b : Bool) → cond b [] (or_else (word_fault s names w.is_trailing w.waiting word w.held) (step_fault s w.position met.0 met.1)) ≡ []
        → (b || (word_passes s names w.is_trailing w.waiting word w.held && step_passes s w.position met.0 met.1)) ≡ true
    go true e = refl
    go false e =
        let both = neither _ _ e in
        rw (word_ok s names w.is_trailing w.waiting word w.held both.0, step_ok s w.position met.0 met.1 both.1) refl

walk_ok : (s : Shape) (names : Names) (w : Walk) (words : List Text) → walk_fault s names w words ≡ [] → walk_passes s names w words ≡ true
unfolding walk_fault walk_passes
walk_ok s names w [] e = refl
walk_ok s names w (word ∷ rest) e =
    let both = neither _ _ e in
    rw (turn_ok s names w word both.0, walk_ok s names (walked s.rules names w word) rest both.1) refl

-- words at which no fault is found are taken by a command of plain options
pub faultless_taken : (a : App) (words : List Text) → IsPlainApp a → fault_of a words ≡ [] → takes a words ≡ true
faultless_taken a words app e =
    let s = (built a).top in
    let texts = argument_words a words in
    let end = (walk s.rules [] nothing_held texts).held in
    let walk_and = neither _ _ (sym (leaf_fault (built a) nothing_held texts app.leaf) ∙ e) in
    let sync_and = neither _ _ walk_and.1 in
    let level : level_passes s [] nothing_held texts false ≡ true =
    rw (walk_ok s [] (walk_from nothing_held) texts walk_and.0, sync_ok s.rules s.args_override_self end sync_and.0, app.defaults_pass, app.valid (finished s.rules end)) refl in
    rw app.simple (leaf_takes (built a) nothing_held texts app.leaf level)
