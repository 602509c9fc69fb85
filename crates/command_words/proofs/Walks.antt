-- A simple command with options of one value takes plain pairs, and finds their values.
use Rattle.std.proofs.Common.{◌≡◌, ◌∙◌, ◌&&◌, ◌||◌, ◌++◌, ap, sym, refl, Bool, true, false, List, [], ◌∷◌, Option, Some, None, cond, find, fold, map}
use Rattle.std.specs.List.{list_all, list_any}
use Rattle.std.specs.Str.{bytes_eq}
use Rattle.std.proofs.lemmas.Slice.Eq.{bytes_eq-Decides}
use Rattle.clap.specs.Lexer.{long_of, short_of}
use Rattle.clap.specs.Facts.{unwrap_or_range}
use Rattle.clap.specs.Walk.{Held, Row, Rule, Text, action_of, arg_by_id, arg_by_long, at_row, has_row, is_empty, more_values, most_values, option, row_text, reading_by, settled_rows, takes_values, used, walk, walk_from, walked, with_default, without}
use Rattle.clap.specs.Takes.{settle_passes, turn_passes, value_passes, walk_passes}
use Rattle.clap.proofs.SimpleLemmas.{is_nil}
use Rattle.clap.proofs.WalkLemmas.{both}
use Rattle.std.proofs.lemmas.List.{append-nil, append_assoc}
use Rattle.clap.specs.Simple.{Shape}
use Rattle.clap.specs.declared.builder.action.ArgAction.TheVariants.{Set}
use Rattle.clap.specs.declared.parser.matches.ValueSource.TheVariants.{CommandLine}
use Rattle.clap.specs.declared.builder.value_parser.Reading.TheVariants.{AsWritten}
use Rattle.clap.specs.Walk.{finished, nothing_held, one_of, rows_after}
use Rattle.clap.specs.Takes.{built_takes, default_passes, is_valid, level_passes, takes}
use Rattle.clap.specs.Simple.{App, argument_words, built, is_simple, label_of, matches_of, names_of}
use Rattle.clap.proofs.TakesLemmas.{leaf_takes}
use Rattle.command_words.specs.Options.{NumberOption}
use Rattle.command_words.specs.Plain.{ArePairs, Fits, flat, said}
use Rattle.std.specs.Option.{option_map_or}
use Rattle.std.proofs.Common.{option_and_then}
use Rattle.std.proofs.lemmas.List.Folds.{list_any-append}
use Rattle.std.specs.Str.Parse.{digits_value}

-- the rule is the option of this name, with one value
pub record IsOption (s : Shape) (name : Text) (a : Rule) : Type 0 where
  pub by_long : arg_by_long s.rules name ≡ Some a
  pub by_id : arg_by_id s.rules name ≡ Some a
  pub id : a.id ≡ name
  pub values : takes_values a ≡ true
  pub most : most_values a ≡ 1
  pub least : (unwrap_or_range a.range).start_inclusive ≡ 1
  pub set : action_of a ≡ Set
  pub reading : reading_by a ≡ AsWritten
  pub word : long_of (45 ∷ 45 ∷ name) ≡ Some (name, None)
  pub dashes : bytes_eq (45 ∷ 45 ∷ name) (45 ∷ 45 ∷ []) ≡ false

-- the word is no flag, and passes the rule's parser
pub record IsValue (a : Rule) (v : Text) : Type 0 where
  pub no_long : long_of v ≡ None
  pub no_short : short_of v ≡ None
  pub dashes : bytes_eq v (45 ∷ 45 ∷ []) ≡ false
  pub passes : value_passes a v ≡ true

abbrev pub named_held : Shape → Rule → Held → Held
named_held s a h = record h { rows = settled_rows s.rules h.pending h.rows; pending = Some (a.id, []) }

abbrev pub next_held : Shape → Rule → Text → Held → Held
next_held s a v h = record h { rows = settled_rows s.rules h.pending h.rows; pending = Some (a.id, v ∷ []) }

pub first_word : (s : Shape) (name : Text) (a : Rule) (h : Held) → IsOption s name a
    → walked s.rules [] (walk_from h) (45 ∷ 45 ∷ name) ≡ record (walk_from h) { held = named_held s a h; waiting = option a.id }
unfolding walked
first_word s name a h o = rw (o.dashes, o.word, o.by_long, o.values) refl

pub same_id : (a : Text) → bytes_eq a a ≡ true
same_id a = (bytes_eq-Decides a a).1 refl

pub second_word : (s : Shape) (name : Text) (a : Rule) (h : Held) (v : Text) → IsOption s name a → IsValue a v
    → walked s.rules [] (record (walk_from h) { held = named_held s a h; waiting = option a.id }) v ≡ walk_from (next_held s a v h)
unfolding walked
second_word s name a h v o i =
    let found : arg_by_id s.rules a.id ≡ Some a = ap (arg_by_id s.rules) o.id ∙ o.by_id in
    rw (i.dashes, i.no_long, i.no_short, found, same_id a.id, o.most) refl

pub first_turn : (s : Shape) (name : Text) (a : Rule) (h : Held) → IsOption s name a → settle_passes s.rules s.args_override_self h ≡ true
    → turn_passes s [] (walk_from h) (45 ∷ 45 ∷ name) ≡ true
first_turn s name a h o ok = rw (o.dashes, o.word, o.by_long, o.values, ok) refl

pub second_turn : (s : Shape) (name : Text) (a : Rule) (h : Held) (v : Text) → IsOption s name a → IsValue a v
    → turn_passes s [] (record (walk_from h) { held = named_held s a h; waiting = option a.id }) v ≡ true
second_turn s name a h v o i = rw (i.dashes, i.no_long, i.no_short) refl

pub no_row : (id : Text) (change : Row → List Row) (missing rows : List Row) → has_row id rows ≡ false → at_row id change missing rows ≡ rows ++ missing
no_row id change missing [] h = refl
no_row id change missing (r ∷ rs) h = go (bytes_eq r.id id) h (no_row id change missing rs)
  where
    go : (b : Bool) → (b || has_row id rs) ≡ false → (has_row id rs ≡ false → at_row id change missing rs ≡ rs ++ missing)
        → cond b (change r ++ rs) (r ∷ at_row id change missing rs) ≡ (r ∷ rs) ++ missing
    go true h ih = cc
    go false h ih = ap (λ t. r ∷ t) (ih h)

abbrev pub use_row : Rule → Text → Row
use_row a v = record { id = a.id; values = v ∷ []; count = None; source = Some CommandLine; reading = reading_by a }

pub used_row : (a : Rule) (v : Text) (rows : List Row) → action_of a ≡ Set → has_row a.id rows ≡ false → used a (v ∷ []) rows ≡ rows ++ use_row a v ∷ []
used_row a v rows set fresh =
    let gone : without a.id rows ≡ rows = no_row a.id (λ _. []) [] rows fresh ∙ append-nil rows in
    rw (set, gone) (no_row a.id (more_values CommandLine (v ∷ [])) (use_row a v ∷ []) rows fresh)

pub sync_next : (s : Shape) (name : Text) (a : Rule) (h : Held) (v : Text) → IsOption s name a → IsValue a v
    → has_row a.id (settled_rows s.rules h.pending h.rows) ≡ false → settle_passes s.rules s.args_override_self (next_held s a v h) ≡ true
sync_next s name a h v o i fresh =
    let found : arg_by_id s.rules a.id ≡ Some a = ap (arg_by_id s.rules) o.id ∙ o.by_id in
    rw (found, o.least, o.most, o.set, fresh, i.passes) refl

pub rows_next : (s : Shape) (name : Text) (a : Rule) (h : Held) (v : Text) → IsOption s name a
    → has_row a.id (settled_rows s.rules h.pending h.rows) ≡ false
    → settled_rows s.rules (Some (a.id, v ∷ [])) (settled_rows s.rules h.pending h.rows) ≡ settled_rows s.rules h.pending h.rows ++ use_row a v ∷ []
rows_next s name a h v o fresh =
    let found : arg_by_id s.rules a.id ≡ Some a = ap (arg_by_id s.rules) o.id ∙ o.by_id in
    rw found (used_row a v (settled_rows s.rules h.pending h.rows) o.set fresh)

-- each pair names an option of the command that no row has, with a value that passes
abbrev pub AreUses : Shape → (Text → Rule) → List Row → List (Text × Text) → Type 0
AreUses s f rows [] = Unit {0}
AreUses s f rows (p ∷ ps) = IsOption s p.0 (f p.0) × IsValue (f p.0) p.1 × (has_row (f p.0).id rows ≡ false)
    × AreUses s f (rows ++ use_row (f p.0) p.1 ∷ []) ps

abbrev pub pair_row : (Text → Rule) → Text × Text → Row
pair_row f p = use_row (f p.0) p.1

pub record Ends (s : Shape) (h : Held) (words : List Text) (rows : List Row) : Type 0 where
  pub passes : walk_passes s [] (walk_from h) words ≡ true
  pub held : Held
  pub ends : walk s.rules [] h words ≡ walk_from held
  pub settles : settle_passes s.rules s.args_override_self held ≡ true
  pub rows_are : settled_rows s.rules held.pending held.rows ≡ rows

pub walks : (s : Shape) (f : Text → Rule) (ps : List (Text × Text)) (h : Held) (rows : List Row) → settled_rows s.rules h.pending h.rows ≡ rows
    → settle_passes s.rules s.args_override_self h ≡ true → AreUses s f rows ps → Ends s h (flat ps) (rows ++ map (pair_row f) ps)
unfolding walk_passes
walks s f [] h rows is ok uses = record { passes = refl; held = h; ends = refl; settles = ok; rows_are = is ∙ sym (append-nil rows) }
walks s f (p ∷ ps) h rows is ok uses =
    let a = f p.0 in
    let fresh : has_row a.id (settled_rows s.rules h.pending h.rows) ≡ false = rw is uses.2 in
    let two : walked s.rules [] (walked s.rules [] (walk_from h) (45 ∷ 45 ∷ p.0)) p.1 ≡ walk_from (next_held s a p.1 h) =
    ap (λ w. walked s.rules [] w p.1) (first_word s p.0 a h uses.0) ∙ second_word s p.0 a h p.1 uses.0 uses.1 in
    let next_rows : settled_rows s.rules (Some (a.id, p.1 ∷ [])) (settled_rows s.rules h.pending h.rows) ≡ rows ++ use_row a p.1 ∷ [] =
    rows_next s p.0 a h p.1 uses.0 fresh ∙ ap (λ t. t ++ use_row a p.1 ∷ []) is in
    let rest = walks s f ps (next_held s a p.1 h) (rows ++ use_row a p.1 ∷ []) next_rows (sync_next s p.0 a h p.1 uses.0 uses.1 fresh) uses.3 in
    record {
      passes = rw (first_turn s p.0 a h uses.0 ok, first_word s p.0 a h uses.0, second_turn s p.0 a h p.1 uses.0 uses.1, second_word s p.0 a h p.1 uses.0 uses.1) rest.passes;
      held = rest.held;
      ends = ap (λ w. fold (walked s.rules []) w (flat ps)) two ∙ rest.ends;
      settles = rest.settles;
      rows_are = rest.rows_are ∙ append_assoc rows (use_row a p.1 ∷ []) (map (pair_row f) ps);
    }

pub no_defaults : (c : List Rule) (rows : List Row) → list_all (λ a. is_empty a.defaults) c ≡ true → fold with_default rows c ≡ rows
no_defaults [] rows h = refl
no_defaults (a ∷ c) rows h =
    let b = both (is_empty a.defaults) (list_all (λ x. is_empty x.defaults) c) h in
    let none : a.defaults ≡ [] = is_nil a.defaults b.0 in
    let same : with_default rows a ≡ rows = rw none (go (has_row a.id rows)) in
    ap (λ t. fold with_default t c) same ∙ no_defaults c rows b.1
  where
    go : (t : Bool) → cond t rows rows ≡ rows
    go true = refl
    go false = refl

-- a command with plain options alone
pub record IsPlainApp (a : App) : Type 0 where
  pub simple : is_simple a ≡ true
  pub leaf : (built a).subs ≡ []
  pub named : a.top.no_binary_name ≡ false
  pub defaults_pass : list_all default_passes (built a).top.rules ≡ true
  pub no_defaults : list_all (λ r. is_empty r.defaults) (built a).top.rules ≡ true
  pub valid : (rows : List Row) → is_valid (built a).top rows false ≡ true

pub record IsTaken (a : App) (words : List Text) (rows : List Row) : Type 0 where
  pub takes : takes a words ≡ true
  pub rows_are : matches_of a words ≡ rows

pub taken : (a : App) (f : Text → Rule) (ps : List (Text × Text)) (first : Text) → IsPlainApp a → AreUses (built a).top f [] ps
    → IsTaken a (first ∷ flat ps) (map (pair_row f) ps)
taken a f ps first app uses =
    let s = (built a).top in
    let end = walks s f ps nothing_held [] refl refl uses in
    let names : names_of (built a) ≡ [] = ap (map label_of) app.leaf in
    let held : (walk s.rules [] nothing_held (flat ps)).held ≡ end.held = ap (λ w. w.held) end.ends in
    let level : level_passes s [] nothing_held (flat ps) false ≡ true =
    rw (end.passes, held, end.settles, app.defaults_pass, app.valid (finished s.rules end.held)) refl in
    let cut : argument_words a (first ∷ flat ps) ≡ flat ps = ap (λ b. cond b (first ∷ flat ps) (flat ps)) app.named in
    record {
      takes = ap (λ t. is_simple a && built_takes (built a) nothing_held t) cut
          ∙ (ap (λ b. b && built_takes (built a) nothing_held (flat ps)) app.simple ∙ leaf_takes (built a) nothing_held (flat ps) app.leaf level);
      rows_are = ap (λ t. rows_after s.rules (names_of (built a)) t) cut
          ∙ (ap (λ n. rows_after s.rules n (flat ps)) names
          ∙ (ap (finished s.rules) held ∙ (no_defaults s.rules _ app.no_defaults ∙ end.rows_are)));
    }

-- the text given for a name
abbrev pub text_of : List (Text × Text) → Text → Option Text
text_of [] name = None
text_of (p ∷ ps) name = cond (bytes_eq p.0 name) (Some p.1) (text_of ps name)

pub one_text_is : (s : Shape) (f : Text → Rule) (rows : List Row) (ps : List (Text × Text)) (name : Text) → AreUses s f rows ps
    → one_of name (map (pair_row f) ps) ≡ text_of ps name
one_text_is s f rows [] name uses = refl
one_text_is s f rows (p ∷ ps) name uses =
    rw (uses.0.id, uses.0.reading) (go (bytes_eq p.0 name) (one_text_is s f (rows ++ use_row (f p.0) p.1 ∷ []) ps name uses.3))
  where
    go : (b : Bool) → one_of name (map (pair_row f) ps) ≡ text_of ps name
        → option_and_then row_text (cond b (Some (record { id = p.0; values = p.1 ∷ []; count = None; source = Some CommandLine; reading = AsWritten }))
        (find (λ r. bytes_eq r.id name) (map (pair_row f) ps))) ≡ cond b (Some p.1) (text_of ps name)
    go true ih = refl
    go false ih = ih

pub said_is : (ps : List (Text × Text)) (o : NumberOption) → said ps o ≡ option_map_or (digits_value 10) (text_of ps o.name) o.otherwise
said_is [] o = refl
said_is (p ∷ ps) o = go (bytes_eq p.0 o.name) (said_is ps o)
  where
    go : (b : Bool) → said ps o ≡ option_map_or (digits_value 10) (text_of ps o.name) o.otherwise
        → cond b (digits_value 10 p.1) (said ps o) ≡ option_map_or (digits_value 10) (cond b (Some p.1) (text_of ps o.name)) o.otherwise
    go true ih = refl
    go false ih = ih

pub uses_of : (s : Shape) (f : Text → Rule) (options : List NumberOption) → ((name text : Text) → Fits options name text → IsOption s name (f name) × IsValue (f name) text)
    → (ps : List (Text × Text)) (rows : List Row) (seen : List Text) → ((n : Text) → has_row n rows ≡ list_any (λ m. bytes_eq m n) seen)
    → ArePairs options seen ps → AreUses s f rows ps
uses_of s f options each [] rows seen same pairs = tt
uses_of s f options each (p ∷ ps) rows seen same pairs =
    let known = each p.0 p.1 pairs.0 in
    let more : (n : Text) → has_row n (rows ++ use_row (f p.0) p.1 ∷ []) ≡ list_any (λ m. bytes_eq m n) (seen ++ p.0 ∷ []) =
    λ n. rw (list_any-append (λ r. bytes_eq r.id n) rows (use_row (f p.0) p.1 ∷ []), list_any-append (λ m. bytes_eq m n) seen (p.0 ∷ []), same n, known.0.id) refl in (
      known.0,
      known.1,
      ap (λ i. has_row i rows) known.0.id ∙ (same p.0 ∙ pairs.1),
      uses_of s f options each ps (rows ++ use_row (f p.0) p.1 ∷ []) (seen ++ p.0 ∷ []) more pairs.2,
    )
