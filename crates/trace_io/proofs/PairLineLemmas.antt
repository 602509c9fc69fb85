-- The line for a pair that was taken, by what the reader holds.
use Rattle.std.proofs.Common.{◌≡◌, ℕ, ◌<◌, ◌≤◌, true, false, nat_le, List, length, take, Option, Some, None, Ok, refl, sym, ap, ◌∙◌, subst, arith}
use Rattle.trace_io.specs.Grammar.{words_of}
use Rattle.trace_io.specs.PairGrammar.{PairItem, Ask, Close, pair_item_of, pair_item_of_words}
use Rattle.trace_io.specs.Progress.{Progress}
use Rattle.trace_io.specs.PairLines.{TakesPairLine, TakesNextPair, pair_line_at}
use Rattle.trace_io.specs.Held.{Holds}
use Rattle.trace_io.specs.declared.pair_line.PairLine.{PairLine}
use Rattle.trace_io.proofs.HeldLemmas.{TakesSaid-text}

pub pair_item_of-short : (line : List ℕ) → length line ≤ 255 → pair_item_of line ≡ pair_item_of_words (words_of line)
unfolding pair_item_of
pair_item_of-short line short = let fits : nat_le (length line) 255 ≡ true = grind arith in rw fits refl

pair_item_of-long : (line : List ℕ) → 255 < length line → None ≡ pair_item_of line
unfolding pair_item_of
pair_item_of-long line long = let past : nat_le (length line) 255 ≡ false = grind arith in rw past refl

module _ (a c : Option (List ℕ)) (p now q : Progress) (buffer : List ℕ) where
  said : (item : Option PairItem) → TakesPairLine item a c p q → TakesNextPair (pair_line_at item) a c p q
  said None takes = takes
  said (Some (Ask call)) takes = takes
  said (Some Close) takes = takes

  -- what the reader holds, from where the reading goes on
  held_by : (held known : Option ℕ) → held ≡ known → p ≡ now → (p.stopped ≡ None → Holds (Ok held) buffer a c p q) → now.stopped ≡ None → Holds (Ok known) buffer a c p q
  held_by held known is same holds going = subst (λ (h : Option ℕ). Holds (Ok h) buffer a c p q) is (holds (ap (λ (x : Progress). x.stopped) same ∙ going))

  -- a line that is held
  pub TakesNextPair-held : (held : Option ℕ) (size : ℕ) (line : List ℕ) (e : PairLine) → held ≡ Some size → line ≡ take size buffer → e ≡ pair_line_at (pair_item_of line) → p ≡ now
      → (p.stopped ≡ None → Holds (Ok held) buffer a c p q) → now.stopped ≡ None → TakesNextPair e a c now q
  TakesNextPair-held held size line e is text says same holds going =
      let takes = held_by held (Some size) is same holds going in
      let item = pair_item_of (take size buffer) in
      let e_is : e ≡ pair_line_at item = says ∙ ap (λ (l : List ℕ). pair_line_at (pair_item_of l)) text in
      let next = said item (TakesSaid-text pair_item_of (take size buffer) item a c p q refl takes) in
      subst (λ (x : Progress). TakesNextPair e a c x q) same (subst (λ (x : PairLine). TakesNextPair x a c p q) (sym e_is) next)

  -- a line that is too long
  pub TakesPairLine-long : (held : Option ℕ) → held ≡ None → p ≡ now → (p.stopped ≡ None → Holds (Ok held) buffer a c p q) → now.stopped ≡ None → TakesPairLine None a c now q
  TakesPairLine-long held is same holds going =
      let long = held_by held None is same holds going in
      subst (λ (x : Progress). TakesPairLine None a c x q) same (TakesSaid-text pair_item_of long.0 None a c p q (pair_item_of-long long.0 long.1) long.2)
