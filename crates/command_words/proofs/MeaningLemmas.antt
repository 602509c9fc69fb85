-- Plain words mean what they say, words mean one command at most, and its numbers are in range.
use Rattle.std.proofs.Common.{◌≡◌, ◌∙◌, ◌≤◌, ap, sym, refl, subst, true, codes, List, [], ◌∷◌, arith, length, map, get_or}
use Rattle.clap.specs.Words.{Row, Text, matches_of, takes}
use Rattle.command_words.specs.Meaning.{AreMeant, number_in}
use Rattle.command_words.specs.Options.{AreInRange, IsInRange, NumberOption, calls, counter, frames, name_of, options_of, parser_of, parser_with, queue, seed, serial}
use Rattle.command_words.specs.Plain.{ArePlain, flat, said}
use Rattle.command_words.specs.declared.words.Command.{Command}
use Rattle.command_words.specs.declared.words.Command.TheVariants as command
use Rattle.command_words.proofs.FoundLemmas.{number_bounded, taken_bounded}
use Rattle.command_words.proofs.OptionLemmas.{IsOf, calls_of_trial, counter_of_format, frames_alone, frames_of_run, frames_of_trial, has_options, queue_of_run, seed_of_trial, serial_of_format}
use Rattle.command_words.proofs.PlainLemmas.{number_said, pairs_taken}
use Rattle.command_words.proofs.Walks.{IsPlainApp}

same_numbers : (rows : List Row) (pairs : List (Text × Text)) → ((o : NumberOption) → number_in rows o ≡ said pairs o) → (options : List NumberOption)
    → map (number_in rows) options ≡ map (said pairs) options
same_numbers rows pairs same [] = refl
same_numbers rows pairs same (o ∷ os) = let first = same o in let rest = same_numbers rows pairs same os in cc

-- plain texts are taken, with the numbers that they say
pub plain_means : (texts : List Text) (c : Command) → ArePlain texts c → AreMeant texts c
plain_means texts c plain =
    let has = has_options c in
    let is = plain.texts_are in
    record {
      named = (flat plain.pairs, is);
      taken = ap (takes (parser_of c)) is ∙ (pairs_taken (name_of c) (options_of c) has plain.pairs plain.fit (name_of c)).takes;
      numbers = plain.numbers ∙ sym (ap (λ (t : List Text). map (number_in (matches_of (parser_of c) t)) (options_of c)) is
          ∙ same_numbers _ plain.pairs (number_said (name_of c) (options_of c) has plain.pairs plain.fit (name_of c)) (options_of c));
    }

-- the name that texts begin with is one
pub same_name : (texts : List Text) (first second : Text) (rest other : List Text) → texts ≡ first ∷ rest → texts ≡ second ∷ other → first ≡ second
same_name texts first second rest other is also = ap (λ (l : List Text). get_or l 0 []) (sym is ∙ also)

-- names that differ in their first letter are not both the name that texts begin with
other_first : {A : Type 0} (texts : List Text) (first second : Text) (rest other : List Text) → texts ≡ first ∷ rest → texts ≡ second ∷ other
    → ¬ get_or first 0 0 ≡ get_or second 0 0 → A
other_first texts first second rest other is also apart = absurd (apart (ap (λ (t : Text). get_or t 0 0) (same_name texts first second rest other is also)))

-- texts mean one command
pub one_meaning : (texts : List Text) (c d : Command) → AreMeant texts c → AreMeant texts d → c ≡ d
one_meaning texts (command.Run n q) (command.Run m r) a b = let e : n ∷ q ∷ [] ≡ m ∷ r ∷ [] = a.numbers ∙ sym b.numbers in cc
one_meaning texts (command.Processes n) (command.Processes m) a b = let e : n ∷ [] ≡ m ∷ [] = a.numbers ∙ sym b.numbers in cc
one_meaning texts (command.Replicate n) (command.Replicate m) a b = let e : n ∷ [] ≡ m ∷ [] = a.numbers ∙ sym b.numbers in cc
one_meaning texts (command.Processes n) (command.Replicate m) a b = other_first texts _ _ a.named.0 b.named.0 a.named.1 b.named.1 (λ e. omega (arith, e))
one_meaning texts (command.Replicate n) (command.Processes m) a b = other_first texts _ _ a.named.0 b.named.0 a.named.1 b.named.1 (λ e. omega (arith, e))
one_meaning texts (command.Format s k) (command.Format t l) a b = let e : s ∷ k ∷ [] ≡ t ∷ l ∷ [] = a.numbers ∙ sym b.numbers in cc
one_meaning texts command.Scavenge command.Scavenge a b = refl
one_meaning texts command.Convert command.Convert a b = refl
one_meaning texts (command.Trial s n f) (command.Trial t m g) a b = let e : s ∷ n ∷ f ∷ [] ≡ t ∷ m ∷ g ∷ [] = a.numbers ∙ sym b.numbers in cc
one_meaning texts c d a b = let e = ap length (same_name texts (name_of c) (name_of d) a.named.0 b.named.0 a.named.1 b.named.1) in absurd (omega (arith, e))

-- the number of an option, in texts that are taken
number_in_range : (name : Text) (options : List NumberOption) (o : NumberOption) → IsPlainApp (parser_with name options) → IsOf options o → (texts : List Text)
    → takes (parser_with name options) texts ≡ true
    → (o.least ≤ number_in (matches_of (parser_with name options) texts) o) × (number_in (matches_of (parser_with name options) texts) o ≤ o.most)
number_in_range name options o app of texts taken = number_bounded o _ (taken_bounded o name options app of.one texts taken) of.low of.high

-- each number of a command that texts mean is in its range
pub meant_in_range : (texts : List Text) (c : Command) → AreMeant texts c → IsInRange c
meant_in_range texts (command.Run n q) meant =
    let app = (has_options (command.Run n q)).plain in
    let a = number_in_range (codes "run") (frames ∷ queue ∷ []) frames app frames_of_run texts meant.taken in
    let b = number_in_range (codes "run") (frames ∷ queue ∷ []) queue app queue_of_run texts meant.taken in
    subst (AreInRange (frames ∷ queue ∷ [])) (sym meant.numbers) (a.0, a.1, (b.0, b.1, tt))
meant_in_range texts (command.Processes n) meant =
    let app = (has_options (command.Processes n)).plain in
    let a = number_in_range (codes "processes") (frames ∷ []) frames app frames_alone texts meant.taken in
    subst (AreInRange (frames ∷ [])) (sym meant.numbers) (a.0, a.1, tt)
meant_in_range texts (command.Replicate n) meant =
    let app = (has_options (command.Replicate n)).plain in
    let a = number_in_range (codes "replicate") (frames ∷ []) frames app frames_alone texts meant.taken in
    subst (AreInRange (frames ∷ [])) (sym meant.numbers) (a.0, a.1, tt)
meant_in_range texts (command.Format s k) meant =
    let app = (has_options (command.Format s k)).plain in
    let a = number_in_range (codes "format") (serial ∷ counter ∷ []) serial app serial_of_format texts meant.taken in
    let b = number_in_range (codes "format") (serial ∷ counter ∷ []) counter app counter_of_format texts meant.taken in
    subst (AreInRange (serial ∷ counter ∷ [])) (sym meant.numbers) (a.0, a.1, (b.0, b.1, tt))
meant_in_range texts command.Scavenge meant = tt
meant_in_range texts command.Convert meant = tt
meant_in_range texts (command.Trial s n f) meant =
    let app = (has_options (command.Trial s n f)).plain in
    let options = seed ∷ calls ∷ frames ∷ [] in
    let a = number_in_range (codes "trial") options seed app seed_of_trial texts meant.taken in
    let b = number_in_range (codes "trial") options calls app calls_of_trial texts meant.taken in
    let d = number_in_range (codes "trial") options frames app frames_of_trial texts meant.taken in
    subst (AreInRange options) (sym meant.numbers) (a.0, a.1, (b.0, b.1, (d.0, d.1, tt)))
