-- How a run ends.
use Rattle.std.proofs.Common.{◌≡◌, ◌≢◌, ◌⊎◌, inl, inr, ℕ, ◌^◌, Bool, true, false, ◌||◌, List, [], ◌∷◌, ◌++◌, length, Option, Some, None, refl, sym, ap, ◌∙◌, subst, append-nil}
use Rattle.std.proofs.lemmas.Bool.{true≢false}
use Rattle.std.specs.List.{list_any}
use Rattle.std.proofs.lemmas.List.Folds.{list_any-append}
use Rattle.std.proofs.KnownBytes.{Appends-trans}
use Rattle.std.specs.Io.KnownBytes.{Appends}
use Rattle.flat_machine.specs.declared.call.Call.TheVariants as call
use Rattle.flat_machine.specs.declared.call.Reply.TheVariants as reply
use Rattle.flat_machine.specs.Machine.{Machine}
use Rattle.flat_machine.specs.After.{TraceLine}
use Rattle.trace_io.specs.Course.{HasReadAll}
use Rattle.trace_io.specs.Lines.{TakesLine}
use Rattle.trace_io.specs.Progress.{Progress}
use Rattle.trace_io.specs.Reading.{is_last, reading, rest_of, IsShort}
use Rattle.trace_io.specs.Stream.{IsPrefixOf}
use Rattle.trace_io.proofs.CourseLemmas.{HasRead-last, HasRead-end}
use Rattle.pilot_top.specs.Headline.{Answering}
use Rattle.pilot_top.specs.Last.{last_line, Puts}
use Rattle.pilot_top.specs.Ending.{is_halt, halts, is_halted, is_close, closes, is_closed, end_text}
use Rattle.pilot_top.specs.Turn.{Answers, EndsTrace}
use Rattle.pilot_top.specs.declared.last.Cause.TheVariants as cause
use Rattle.pilot_top.specs.declared.status.Status.{Status}
use Rattle.pilot_top.specs.declared.status.Status.TheVariants as status
use Rattle.pilot_top.specs.declared.turn.End.{End}
use Rattle.pilot_top.specs.declared.turn.End.TheVariants as end
use Rattle.pilot_top.proofs.TopLemmas.{Going, done_all, Run-last, Run-disk, Run-write_fault, short_at_last, short_at_end, wrote_last, before_last, revealed_prefix}

-- the reply to a line that ends the trace
close_answers : (now later : Machine → Type 0) → Answers now later (Some call.Close) reply.Done
close_answers now later = record {
  suits = refl;
  allowed = λ m stands. refl;
  next = λ m stands going. absurd (true≢false going);
}

halt_answers : (now later : Machine → Type 0) → Answers now later (Some call.Halt) reply.Done
halt_answers now later = record {
  suits = refl;
  allowed = λ m stands. refl;
  next = λ m stands going. absurd (true≢false going);
}

-- a line that others may follow is no `close`
not_close : (line : TraceLine) → is_last line ≡ false → is_close line ≡ false
not_close (Some call.Close) last = absurd (true≢false last)
not_close line last = refl

pub none_close : (lines : List TraceLine) → list_any is_last lines ≡ false → closes lines ≡ false
none_close [] none = refl
none_close (line ∷ lines) none = rw (not_close line (or_parts (is_last line) (list_any is_last lines) none).0, none_close lines (or_parts (is_last line) (list_any is_last lines) none).1) refl
  where
    or_parts : (p q : Bool) → p || q ≡ false → (p ≡ false) × (q ≡ false)
    or_parts false q e = (refl, e)
    or_parts true q e = absurd (true≢false e)

-- what was read, where the source reveals its bytes
module _ (x : List ℕ) (b t u : Option (List ℕ)) (p : Progress) (first now : Machine → Type 0) (going : Going (Some x) b t u p first now) where
  halts_with : (line : TraceLine) (h : Bool) → is_halt line ≡ h → halts (going.lines ++ line ∷ []) ≡ h
  halts_with line true is = list_any-append is_halt going.lines (line ∷ []) ∙ rw (going.none_halts, is) refl
  halts_with line false is = list_any-append is_halt going.lines (line ∷ []) ∙ rw (going.none_halts, is) refl

  pub End-halts : (how : End) (c : Option (List ℕ)) (q : Progress) → EndsTrace how b c p q → halts (reading x) ≡ is_halted how
  End-halts end.Close c q ended =
      let all = HasRead-last (Some x) b c p q going.lines (Some call.Close) going.read ended.0 ended.1 refl in
      ap halts all.items_are ∙ halts_with (Some call.Close) false refl
  End-halts end.Halt c q ended =
      let all = HasRead-last (Some x) b c p q going.lines (Some call.Halt) going.read ended.0 ended.1 refl in
      ap halts all.items_are ∙ halts_with (Some call.Halt) true refl
  End-halts end.Trace c q (inl ended) =
      let all = HasRead-end (Some x) b c p going.lines going.read ended.0 ended.1 ended.2 ended.3 in
      ap halts all.items_are ∙ going.none_halts
  End-halts end.Trace c q (inr ended) = let all = rw ended.0 at going.read.goes_on in ap halts all.0.items_are ∙ going.none_halts

  closes_with : (line : TraceLine) (h : Bool) → is_close line ≡ h → closes (going.lines ++ line ∷ []) ≡ h
  closes_with line true is = list_any-append is_close going.lines (line ∷ []) ∙ rw (none_close going.lines going.none_last, is) refl
  closes_with line false is = list_any-append is_close going.lines (line ∷ []) ∙ rw (none_close going.lines going.none_last, is) refl

  pub End-closes : (how : End) (c : Option (List ℕ)) (q : Progress) → EndsTrace how b c p q → closes (reading x) ≡ is_closed how
  End-closes end.Close c q ended =
      let all = HasRead-last (Some x) b c p q going.lines (Some call.Close) going.read ended.0 ended.1 refl in
      ap closes all.items_are ∙ closes_with (Some call.Close) true refl
  End-closes end.Halt c q ended =
      let all = HasRead-last (Some x) b c p q going.lines (Some call.Halt) going.read ended.0 ended.1 refl in
      ap closes all.items_are ∙ closes_with (Some call.Halt) false refl
  End-closes end.Trace c q (inl ended) =
      let all = HasRead-end (Some x) b c p going.lines going.read ended.0 ended.1 ended.2 ended.3 in
      ap closes all.items_are ∙ none_close going.lines going.none_last
  End-closes end.Trace c q (inr ended) = let all = rw ended.0 at going.read.goes_on in ap closes all.0.items_are ∙ none_close going.lines going.none_last

  -- the lines that were answered are the first of the trace
  pub End-prefix : (how : End) (c : Option (List ℕ)) (q : Progress) → EndsTrace how b c p q → (more : List TraceLine) × (reading x ≡ going.lines ++ more)
  End-prefix end.Close c q ended = revealed_prefix x b p going.lines going.read ended.0
  End-prefix end.Halt c q ended = revealed_prefix x b p going.lines going.read ended.0
  End-prefix end.Trace c q (inl ended) = revealed_prefix x b p going.lines going.read ended.0
  End-prefix end.Trace c q (inr ended) = let all = rw ended.0 at going.read.goes_on in ([], all.0.items_are ∙ sym (append-nil going.lines))

  -- all lines were taken
  pub End-rest : (how : End) (c : Option (List ℕ)) (q : Progress) → EndsTrace how b c p q → c ≡ Some (rest_of x)
  End-rest end.Close c q ended = let all = HasRead-last (Some x) b c p q going.lines (Some call.Close) going.read ended.0 ended.1 refl in all.rest_is
  End-rest end.Halt c q ended = let all = HasRead-last (Some x) b c p q going.lines (Some call.Halt) going.read ended.0 ended.1 refl in all.rest_is
  End-rest end.Trace c q (inl ended) = let all = HasRead-end (Some x) b c p going.lines going.read ended.0 ended.1 ended.2 ended.3 in all.rest_is
  End-rest end.Trace c q (inr ended) = let all = rw ended.0 at going.read.goes_on in ended.1 ∙ all.0.rest_is

  pub End-short : (how : End) (c : Option (List ℕ)) (q : Progress) → EndsTrace how b c p q → p.limit ≡ 2 ^ 32 → IsShort (2 ^ 32) x
  End-short end.Close c q ended limit = short_at_last x b t u p first now going c q (Some call.Close) ended.0 ended.1 refl limit
  End-short end.Halt c q ended limit = short_at_last x b t u p first now going c q (Some call.Halt) ended.0 ended.1 refl limit
  End-short end.Trace c q ended limit = short_at_end x b t u p first now going c ended limit

-- what was written, where source and sink reveal their bytes
module _ (m : Machine) (x t : List ℕ) (b u : Option (List ℕ)) (p : Progress) (first now : Machine → Type 0) (going : Going (Some x) b (Some t) u p first now) (is : first m) (failed : Type 0) (has : ℕ → ℕ → Type 0) where
  wrote_nothing : (v : Option (List ℕ)) → Appends u v [] → Appends (Some t) v going.out
  wrote_nothing v wrote = subst (λ out. Appends (Some t) v out) (append-nil going.out) (Appends-trans (Some t) u v going.out [] going.wrote wrote)

  End-done : (how : End) (c v : Option (List ℕ)) (q : Progress) → EndsTrace how b c p q → Appends u v (end_text how) → has (length (reading x)) 0 → Answering status.Done m x c t v failed has
  End-done end.Close c v q ended wrote there = Run-last m x t b u p first now going is failed has c v q now (Some call.Close) reply.Done ended.0 ended.1 (close_answers now now) refl wrote there
  End-done end.Halt c v q ended wrote there = Run-last m x t b u p first now going is failed has c v q now (Some call.Halt) reply.Done ended.0 ended.1 (halt_answers now now) refl wrote there
  End-done end.Trace c v q (inl ended) wrote there =
      done_all m x t b u p first now going is failed has c v p.taken p.limit going.lines going.out (HasRead-end (Some x) b c p going.lines going.read ended.0 ended.1 ended.2 ended.3) (going.script m is) (wrote_nothing v wrote) there
  End-done end.Trace c v q (inr ended) wrote there =
      let all = rw ended.0 at going.read.goes_on in
      done_all m x t b u p first now going is failed has c v p.taken p.limit going.lines going.out (subst (λ e. HasReadAll (Some x) e p.taken p.limit going.lines) (sym ended.1) all.0) (going.script m is) (wrote_nothing v wrote) there

  after : (c : Option (List ℕ)) (q : Progress) (line : TraceLine) → p.stopped ≡ None → TakesLine line b c p q → is_last line ≡ true → has (length (reading x)) 0 → has (length (going.lines ++ line ∷ [])) 0
  after c q line none takes last there =
      let all = HasRead-last (Some x) b c p q going.lines line going.read none takes last in
      subst (λ (lines : List TraceLine). has (length lines) 0) all.items_are there

  End-part : (how : End) (c v : Option (List ℕ)) (q : Progress) → EndsTrace how b c p q → how ≢ end.Trace → failed → (prefix : List ℕ) → IsPrefixOf prefix (end_text how) → Appends u v prefix
      → has (length (reading x)) 0 → Answering status.StreamFault m x c t v failed has
  End-part end.Close c v q ended other rose prefix is_prefix wrote there =
      Run-write_fault m x t b u p first now going is failed has c v q now (Some call.Close) reply.Done ended.0 ended.1 (close_answers now now) rose prefix is_prefix wrote (after c q (Some call.Close) ended.0 ended.1 refl there)
  End-part end.Halt c v q ended other rose prefix is_prefix wrote there =
      Run-write_fault m x t b u p first now going is failed has c v q now (Some call.Halt) reply.Done ended.0 ended.1 (halt_answers now now) rose prefix is_prefix wrote (after c q (Some call.Halt) ended.0 ended.1 refl there)
  End-part end.Trace c v q ended other rose prefix is_prefix wrote there = absurd (other refl)

  End-disk : (how : End) (c v : Option (List ℕ)) (q : Progress) → EndsTrace how b c p q → Puts failed u v (last_line cause.DiskFault) → has (length going.lines) 0 → Answering status.DiskFault m x c t v failed has
  End-disk end.Close c v q ended more there = Run-disk m x t b u p first now going is failed has c v ended.0 more 0 there
  End-disk end.Halt c v q ended more there = Run-disk m x t b u p first now going is failed has c v ended.0 more 0 there
  End-disk end.Trace c v q (inl ended) more there = Run-disk m x t b u p first now going is failed has c v ended.0 more 0 there
  End-disk end.Trace c v q (inr ended) more there =
      let all = rw ended.0 at going.read.goes_on in (
        length going.lines,
        going.out,
        rw all.0.items_are (going.script m is),
        before_last going.lines [] (reading x) (all.0.items_are ∙ sym (append-nil going.lines)) going.none_last,
        wrote_last failed t u v going.out (last_line cause.DiskFault) going.wrote more,
        0,
        there,
      )

  pub End-answering : (s : Status) (how : End) (c v : Option (List ℕ)) (q : Progress) → EndsTrace how b c p q
      → (s ≡ status.Done) ⊎ (s ≡ status.StreamFault) ⊎ (s ≡ status.DiskFault)
      → (s ≡ status.Done → Appends u v (end_text how))
      → (s ≡ status.StreamFault → (prefix : List ℕ) × IsPrefixOf prefix (end_text how) × Appends u v prefix)
      → (s ≡ status.StreamFault → failed × (how ≢ end.Trace))
      → (s ≡ status.DiskFault → Puts failed u v (last_line cause.DiskFault))
      → ((s ≡ status.Done) ⊎ (s ≡ status.StreamFault) → has (length (reading x)) 0) → has (length going.lines) 0
      → Answering s m x c t v failed has
  End-answering s how c v q ended (inl done) on_done on_part cause_is on_disk there stopped = rw done (End-done how c v q ended (on_done done) (there (inl done)))
  End-answering s how c v q ended (inr (inl part)) on_done on_part cause_is on_disk there stopped =
      let prefix = on_part part in
      let why = cause_is part in
      rw part (End-part how c v q ended why.1 why.0 prefix.0 prefix.1 prefix.2 (there (inr part)))
  End-answering s how c v q ended (inr (inr disk)) on_done on_part cause_is on_disk there stopped = rw disk (End-disk how c v q ended (on_disk disk) stopped)
