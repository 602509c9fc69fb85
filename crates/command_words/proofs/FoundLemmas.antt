-- What `clap` finds for an option, in words that it takes, has passed the option's bounds.
use Rattle.std.proofs.Common.{◌≡◌, ◌∙◌, ◌++◌, ◌&&◌, ◌||◌, sym, refl, ap, subst, ◌≤◌, ℕ, Bool, true, false, not, zero, suc, List, [], ◌∷◌, length, drop, find, fold, map, Option, Some, None, cond, encode_utf8, slice_get, is_some, option_map}
use Rattle.std.proofs.lemmas.Bool.{and_from, and_parts, leb-true}
use Rattle.std.proofs.lemmas.List.Folds.{list_all-append}
use Rattle.std.proofs.lemmas.Slice.Eq.{bytes_eq-Decides}
use Rattle.std.specs.List.{list_all}
use Rattle.std.specs.Option.{option_map_or}
use Rattle.std.specs.Str.{bytes_eq, chars}
use Rattle.clap.specs.Facts.{parser_of_value}
use Rattle.clap.specs.Lexer.{long_of, short_of}
use Rattle.clap.specs.Simple.{Shape, argument_words, built, entered, filled_from, matches_of, names_of}
use Rattle.clap.specs.Takes.{action_passes, bundle_passes, bundle_step_passes, flag_word_passes, flags_pass, level_passes, long_passes, option_passes, other_passes, positional_passes, react_passes, set_passes, settle_passes, short_passes, step_passes, takes, turn_passes, use_passes, values_pass, walk_passes, word_passes}
use Rattle.clap.specs.ValueTests.{accepts, is_unsigned_in}
use Rattle.clap.specs.Values.{read_as, reading_of}
use Rattle.clap.specs.Walk.{Held, Names, Outcome, Row, Rule, Step, Text, Waiting, Walk, action_of, after_flag, after_step, arg_by_id, arg_by_index, arg_by_long, arg_by_short, attached_value, bundle_met, bundle_step, done, flag_met, idle, is_pending, long_met, long_or_other, next, option, option_met, option_word, nothing_held, plain, plain_word, positional, reacted, reading_by, refused, row_text, settled, settled_rows, short_met, short_or_plain, subcommand, subcommand_met, subcommand_or_other, takes_several, takes_values, to_positional, trailing, used, used_by_id, value, values_or_missing, waits, walk, walk_from, walked, walked_from, with_values, without, word_met}
use Rattle.clap.specs.declared.builder.action.ArgAction.TheVariants.{Set}
use Rattle.clap.specs.declared.builder.value_parser.Reading.TheVariants.{AsWritten}
use Rattle.clap.specs.declared.builder.value_parser.ValueParser.TheVariants as vp
use Rattle.clap.specs.declared.parser.matches.ValueSource.TheVariants.{CommandLine}
use Rattle.command_words.specs.Meaning.{number_in, number_of}
use Rattle.command_words.specs.Options.{NumberOption, parser_with, rule_for}
use Rattle.command_words.proofs.RangeLemmas.{OnlyOne}
use Rattle.command_words.proofs.Walks.{IsPlainApp, no_defaults}

-- a row of the option has values in the option's bounds alone
abbrev pub IsBounded : NumberOption → Row → Type 0
IsBounded o r = r.id ≡ o.name → (list_all (is_unsigned_in o.least o.most) r.values ≡ true) × (r.reading ≡ AsWritten)

-- so has each row
abbrev pub AreBounded : NumberOption → List Row → Type 0
AreBounded o [] = Unit {0}
AreBounded o (r ∷ rs) = IsBounded o r × AreBounded o rs

-- a rule sets values, and the option's rule has its bounds
abbrev pub Bounds : NumberOption → Rule → Type 0
Bounds o a = (action_of a ≡ Set) × (a.id ≡ o.name → parser_of_value a.parser ≡ vp.Unsigned o.least o.most)

-- so does each rule
abbrev pub AllBound : NumberOption → List Rule → Type 0
AllBound o [] = Unit {0}
AllBound o (a ∷ c) = Bounds o a × AllBound o c

-- so does the rule that was found
abbrev FoundBounds : NumberOption → Option Rule → Type 0
FoundBounds o None = Unit {0}
FoundBounds o (Some a) = Bounds o a

module _ (o : NumberOption) where
  removed : (id : Text) (rows : List Row) → AreBounded o rows → AreBounded o (without id rows)
  removed id [] ok = tt
  removed id (r ∷ rs) ok = go (bytes_eq r.id id) (removed id rs ok.1)
    where
      go : (b : Bool) → AreBounded o (without id rs) → AreBounded o (cond b ([] ++ rs) (r ∷ without id rs))
      go true rest = ok.1
      go false rest = (ok.0, rest)

  added : (a : Rule) (vs : List Text) → Bounds o a → values_pass a vs ≡ true → (rows : List Row) → AreBounded o rows
      → AreBounded o (with_values a.id (reading_by a) CommandLine vs rows)
  added a vs bounds passes rows ok = go rows ok
    where
      fresh : a.id ≡ o.name → (list_all (is_unsigned_in o.least o.most) vs ≡ true) × (reading_by a ≡ AsWritten)
      fresh named = (ap (λ p. list_all (accepts a.ignore_case p) vs) (sym (bounds.1 named)) ∙ passes, ap reading_of (bounds.1 named))

      more : (r : Row) → IsBounded o r → bytes_eq r.id a.id ≡ true → r.id ≡ o.name
          → (list_all (is_unsigned_in o.least o.most) (r.values ++ vs) ≡ true) × (r.reading ≡ AsWritten)
      more r bounded same named =
          let here = bounded named in
          let own = fresh (sym ((bytes_eq-Decides r.id a.id).0 same) ∙ named) in
          (list_all-append (is_unsigned_in o.least o.most) r.values vs ∙ and_from _ _ here.0 own.0, here.1)

      go : (rows : List Row) → AreBounded o rows → AreBounded o (with_values a.id (reading_by a) CommandLine vs rows)
      go [] ok = (fresh, tt)
      go (r ∷ rs) ok = by_id (bytes_eq r.id a.id) refl (go rs ok.1)
        where
          by_id : (b : Bool) → bytes_eq r.id a.id ≡ b → AreBounded o (with_values a.id (reading_by a) CommandLine vs rs)
              → AreBounded o (with_values a.id (reading_by a) CommandLine vs (r ∷ rs))
          by_id true same rest = rw same (more r ok.0 same, ok.1)
          by_id false other rest = rw other (ok.0, rest)

  use_bounds : (again : Bool) (a : Rule) (values : List Text) (rows : List Row) → Bounds o a → use_passes again a values rows ≡ true → AreBounded o rows → AreBounded o (used a values rows)
  use_bounds again a values rows bounds passes ok =
      let action : action_passes (action_of a) again a (values_or_missing a values) rows ≡ true = (and_parts _ _ (and_parts _ _ passes).1).1 in
      let set : set_passes again a (values_or_missing a values) rows ≡ true = rw bounds.0 at action in
      rw bounds.0 (added a (values_or_missing a values) bounds (and_parts _ _ set).1 (without a.id rows) (removed a.id rows ok))

  found_bounds : (p : Rule → Bool) (c : List Rule) → AllBound o c → FoundBounds o (find p c)
  found_bounds p [] all = tt
  found_bounds p (a ∷ c) all = go (p a) (found_bounds p c all.1)
    where
      go : (b : Bool) → FoundBounds o (find p c) → FoundBounds o (cond b (Some a) (find p c))
      go true rest = all.0
      go false rest = rest

  module _ (c : List Rule) (all : AllBound o c) (again : Bool) where
    sync_bounds : (h : Held) → settle_passes c again h ≡ true → AreBounded o h.rows → AreBounded o (settled c h).rows
    sync_bounds h passes ok = go h.pending passes
      where
        by_rule : (p : Text × List Text) (x : Option Rule) → FoundBounds o x → option_map_or (λ a. use_passes again a p.1 h.rows) x true ≡ true → AreBounded o (used_by_id x p.1 h.rows)
        by_rule p None bounds e = ok
        by_rule p (Some a) bounds e = use_bounds again a p.1 h.rows bounds e ok

        go : (x : Option (Text × List Text)) → option_map_or (λ p. option_map_or (λ a. use_passes again a p.1 h.rows) (arg_by_id c p.0) true) x true ≡ true → AreBounded o (settled_rows c x h.rows)
        go None e = ok
        go (Some p) e = by_rule p (arg_by_id c p.0) (found_bounds (λ a. bytes_eq a.id p.0) c all) e

    react_bounds : (a : Rule) (values : List Text) (h : Held) → Bounds o a → react_passes c again a values h ≡ true → AreBounded o h.rows → AreBounded o (reacted c a values h).rows
    react_bounds a values h bounds passes ok =
        let two = and_parts _ _ passes in
        use_bounds again a values (settled c h).rows bounds two.1 (sync_bounds h two.0 ok)

    option_bounds : (a : Rule) (v : Option Text) (h : Held) → Bounds o a → option_passes c again a v h ≡ true → AreBounded o h.rows → AreBounded o (option_met c a v h).0.rows
    option_bounds a (Some v) h bounds passes ok = react_bounds a (v ∷ []) h bounds passes ok
    option_bounds a None h bounds passes ok = sync_bounds h passes ok

    long_bounds : (x : Option Rule) (v : Option Text) (h : Held) → FoundBounds o x → long_passes c again x v h ≡ true → AreBounded o h.rows → AreBounded o (long_met c x v h).0.rows
    long_bounds None v h bounds passes ok = ok
    long_bounds (Some a) v h bounds passes ok = go (takes_values a) v passes
      where
        go : (t : Bool) (v : Option Text) → cond t (option_passes c again a v h) (not (is_some v) && react_passes c again a [] h) ≡ true
            → AreBounded o (cond t (option_met c a v h) (flag_met c a v h)).0.rows
        go true v e = option_bounds a v h bounds e ok
        go false (Some v) e = ok
        go false None e = react_bounds a [] h bounds e ok

    short_bounds : (x : Option Rule) (rest : Text) (h : Held) (monotone : Held → Held × Outcome) (passes : Held → Bool)
        → ((g : Held) → passes g ≡ true → AreBounded o g.rows → AreBounded o (monotone g).0.rows)
        → FoundBounds o x → short_passes c again x rest h passes ≡ true → AreBounded o h.rows → AreBounded o (short_met c x rest h monotone).0.rows
    short_bounds None rest h monotone passes each bounds e ok = ok
    short_bounds (Some a) rest h monotone passes each bounds e ok = go (takes_values a) e
      where
        go : (t : Bool) → cond t (option_passes c again a (attached_value rest) h) (react_passes c again a [] h && passes (reacted c a [] h)) ≡ true
            → AreBounded o (cond t (option_met c a (attached_value rest) h) (monotone (reacted c a [] h))).0.rows
        go true e = option_bounds a (attached_value rest) h bounds e ok
        go false e =
            let two = and_parts _ _ e in
            each (reacted c a [] h) two.1 (react_bounds a [] h bounds two.0 ok)

    step_bounds : (x : Option ℕ) (flags : Text) (skip : ℕ) (so_far : Outcome) (h : Held) (monotone : Text → ℕ → Outcome → Held → Held × Outcome) (passes : Text → ℕ → Held → Bool)
        → ((t : Text) (n : ℕ) (s : Outcome) (g : Held) → passes t n g ≡ true → AreBounded o g.rows → AreBounded o (monotone t n s g).0.rows)
        → bundle_step_passes c again x flags skip h passes ≡ true → AreBounded o h.rows → AreBounded o (bundle_step c x flags skip so_far h monotone).0.rows
    step_bounds None flags skip so_far h monotone passes each e ok = ok
    step_bounds (Some x) flags zero so_far h monotone passes each e ok =
        let rest = drop (length (encode_utf8 x)) flags in
        short_bounds (arg_by_short c x) rest h (monotone rest 0 done) (passes rest 0) (each rest 0 done) (found_bounds _ c all) e ok
    step_bounds (Some x) flags (suc skip) so_far h monotone passes each e ok = each (drop (length (encode_utf8 x)) flags) skip so_far h e ok

    flags_bounds : (k : ℕ) (flags : Text) (skip : ℕ) (so_far : Outcome) (h : Held) → flags_pass c again k flags skip h ≡ true → AreBounded o h.rows
        → AreBounded o (bundle_met c k flags skip so_far h).0.rows
    unfolding flags_pass bundle_met
    flags_bounds zero flags skip so_far h e ok = ok
    flags_bounds (suc k) flags skip so_far h e ok =
        step_bounds (slice_get (chars flags) 0) flags skip so_far h (bundle_met c k) (flags_pass c again k) (flags_bounds k) e ok

    -- a word that is no flag changes no row
    plain_bounds : (waiting : Waiting) (word : Text) (h : Held) → AreBounded o h.rows → AreBounded o (plain_word c waiting word h).0.rows
    plain_bounds (option id) word h ok = go (arg_by_id c id)
      where
        go : (x : Option Rule) → AreBounded o (option_word x id word h).0.rows
        go None = ok
        go (Some a) = ok
    plain_bounds idle word h ok = ok
    plain_bounds positional word h ok = ok

    after_bounds : (waiting : Waiting) (word : Text) (h : Held) (x : Outcome) → AreBounded o h.rows → AreBounded o (after_flag c waiting word h x).0.rows
    after_bounds waiting word h done ok = ok
    after_bounds waiting word h (waits id) ok = ok
    after_bounds waiting word h plain ok = plain_bounds waiting word h ok
    after_bounds waiting word h refused ok = plain_bounds waiting word h ok

    flag_word_bounds : (waiting : Waiting) (word : Text) (x : Option (Text × Option Text)) (h : Held) → flag_word_passes c again x word h ≡ true → AreBounded o h.rows
        → AreBounded o (long_or_other c waiting word x h).0.rows
    flag_word_bounds waiting word (Some p) h e ok = after_bounds waiting word _ _ (long_bounds (arg_by_long c p.0) p.1 h (found_bounds _ c all) e ok)
    flag_word_bounds waiting word None h e ok = go (short_of word) e
      where
        go : (x : Option Text) → option_map_or (λ flags. bundle_passes c again flags h) x true ≡ true → AreBounded o (short_or_plain c waiting word x h).0.rows
        go None e = plain_bounds waiting word h ok
        go (Some flags) e = after_bounds waiting word _ _ (flags_bounds (length flags) flags h.skip plain (record h { skip = 0 }) e ok)

  module _ (s : Shape) (all : AllBound o s.rules) (names : Names) where
    word_bounds : (is_trailing : Bool) (waiting : Waiting) (position : ℕ) (word : Text) (h : Held) → word_passes s names is_trailing waiting word h ≡ true → AreBounded o h.rows
        → AreBounded o (word_met s.rules names is_trailing waiting position word h).0.rows
    word_bounds true waiting position word h e ok = ok
    word_bounds false waiting position word h e ok = go (subcommand_met names waiting word) e
      where
        none : (b : Bool) → (b || flag_word_passes s.rules s.args_override_self (long_of word) word h) ≡ true
            → AreBounded o (cond b (h, trailing position) (long_or_other s.rules waiting word (long_of word) h)).0.rows
        none true e = ok
        none false e = flag_word_bounds s.rules all s.args_override_self waiting word (long_of word) h e ok

        go : (x : Option Text) → other_passes s x word h ≡ true → AreBounded o (subcommand_or_other s.rules x waiting position word h).0.rows
        go (Some name) e = ok
        go None e = none (bytes_eq word (45 ∷ 45 ∷ [])) e

    step_ends : (word : Text) (w : Walk) (h : Held) (x : Step) → step_passes s w.position h x ≡ true → AreBounded o h.rows → AreBounded o (after_step s.rules word w h x).held.rows
    step_ends word w h (next waiting) e ok = ok
    step_ends word w h (trailing n) e ok = ok
    step_ends word w h (subcommand name) e ok = ok
    step_ends word w h value e ok = go (arg_by_index s.rules w.position) e
      where
        pushed_rows : (b : Bool) → (b || settle_passes s.rules s.args_override_self h) ≡ true → AreBounded o (cond b h (settled s.rules h)).rows
        pushed_rows true e = ok
        pushed_rows false e = sync_bounds s.rules all s.args_override_self h e ok

        go : (x : Option Rule) → option_map_or (λ a. positional_passes s.rules s.args_override_self a h) x false ≡ true → AreBounded o (to_positional s.rules x word w h).held.rows
        go None e = ok
        go (Some a) e = pushed_rows (is_pending a h.pending && takes_several a) e

    turn_bounds : (w : Walk) (word : Text) → turn_passes s names w word ≡ true → AreBounded o w.held.rows → AreBounded o (walked s.rules names w word).held.rows
    unfolding walked
    turn_bounds w word e ok = go w.stopped e
      where
        met : Held × Step
        met = word_met s.rules names w.is_trailing w.waiting w.position word w.held

        go : (x : Option (Text × List Text)) → (is_some x || (word_passes s names w.is_trailing w.waiting word w.held && step_passes s w.position met.0 met.1)) ≡ true
            → AreBounded o (walked_from s.rules names x w word).held.rows
        go (Some p) e = ok
        go None e =
            let two = and_parts _ _ e in
            step_ends word w met.0 met.1 two.1 (word_bounds w.is_trailing w.waiting w.position word w.held two.0 ok)

    walk_bounds : (w : Walk) (words : List Text) → walk_passes s names w words ≡ true → AreBounded o w.held.rows → AreBounded o (fold (walked s.rules names) w words).held.rows
    unfolding walk_passes
    walk_bounds w [] e ok = ok
    walk_bounds w (word ∷ rest) e ok =
        let two = and_parts _ _ e in
        walk_bounds (walked s.rules names w word) rest two.1 (turn_bounds w word two.0 ok)

  -- the number that is found for the option is in its bounds
  value_in : (text : Text) → is_unsigned_in o.least o.most text ≡ true → (o.least ≤ number_of text) × (number_of text ≤ o.most)
  value_in text e =
      let bounds = (and_parts _ _ (and_parts _ _ e).1).1 in
      (leb-true _ _ (and_parts _ _ bounds).0, leb-true _ _ (and_parts _ _ bounds).1)

  first_in : (r : Row) → (list_all (is_unsigned_in o.least o.most) r.values ≡ true) × (r.reading ≡ AsWritten) → (o.least ≤ o.otherwise) → (o.otherwise ≤ o.most)
      → (o.least ≤ option_map_or number_of (row_text r) o.otherwise) × (option_map_or number_of (row_text r) o.otherwise ≤ o.most)
  first_in r ok low high = rw ok.1 (go r.values ok.0)
    where
      go : (vs : List Text) → list_all (is_unsigned_in o.least o.most) vs ≡ true
          → (o.least ≤ option_map_or number_of (option_map (read_as AsWritten) (slice_get vs 0)) o.otherwise) × (option_map_or number_of (option_map (read_as AsWritten) (slice_get vs 0)) o.otherwise ≤ o.most)
      go [] e = (low, high)
      go (v ∷ vs) e = value_in v (and_parts _ _ e).0

  pub number_bounded : (rows : List Row) → AreBounded o rows → o.least ≤ o.otherwise → o.otherwise ≤ o.most → (o.least ≤ number_in rows o) × (number_in rows o ≤ o.most)
  number_bounded [] ok low high = (low, high)
  number_bounded (r ∷ rs) ok low high = go (bytes_eq r.id o.name) refl (number_bounded rs ok.1 low high)
    where
      go : (b : Bool) → bytes_eq r.id o.name ≡ b → (o.least ≤ number_in rs o) × (number_in rs o ≤ o.most) → (o.least ≤ number_in (r ∷ rs) o) × (number_in (r ∷ rs) o ≤ o.most)
      go true same rest = rw same (first_in r (ok.0 ((bytes_eq-Decides r.id o.name).0 same)) low high)
      go false other rest = rw other rest

  -- each rule of a command with these options has its option's bounds
  rules_bound : (i : ℕ) (options : List NumberOption) → OnlyOne options o → AllBound o (filled_from i (map rule_for options))
  rules_bound i [] one = tt
  rules_bound i (x ∷ xs) one =
      ((refl, λ named. let same = one.0 named in λ j. vp.Unsigned (same.0 j) (same.1 j)), rules_bound i xs one.1)

  -- what is found in words that a command with these options takes is in bounds
  pub taken_bounded : (name : Text) (options : List NumberOption) → IsPlainApp (parser_with name options) → OnlyOne options o → (words : List Text)
      → takes (parser_with name options) words ≡ true → AreBounded o (matches_of (parser_with name options) words)
  taken_bounded name options app one words e =
      let a = parser_with name options in
      let s = (built a).top in
      let texts = argument_words a words in
      let all : AllBound o s.rules = rules_bound 1 options one in
      let level : level_passes s (names_of (built a)) nothing_held texts (is_some (entered (built a) (walk s.rules (names_of (built a)) nothing_held texts).stopped)) ≡ true = (and_parts _ _ (and_parts _ _ e).1).1 in
      let two = and_parts _ _ level in
      let end = (walk s.rules (names_of (built a)) nothing_held texts).held in
      let ok = walk_bounds s all (names_of (built a)) (walk_from nothing_held) texts two.0 tt in
      let settled_ok = sync_bounds s.rules all s.args_override_self end (and_parts _ _ two.1).0 ok in
      subst (AreBounded o) (sym (no_defaults s.rules (settled s.rules end).rows app.no_defaults)) settled_ok
