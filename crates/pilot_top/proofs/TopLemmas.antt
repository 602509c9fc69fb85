-- A run, turn by turn.
use Rattle.std.proofs.Common.{◌≡◌, ◌⊎◌, inl, inr, ℕ, ◌^◌, ◌<◌, ◌≤◌, Bool, true, false, List, [], ◌∷◌, ◌++◌, length, Option, Some, None, refl, sym, ap, ◌∙◌, subst, arith, append_assoc, append-nil, length-append}
use Rattle.std.specs.Prelude.{flat_map}
use Rattle.labelled_disk.specs.declared.evidence.Evidence.{Evidence}
use Rattle.std.specs.Io.KnownBytes.{Consumes, Appends, IsAtEnd}
use Rattle.std.proofs.KnownBytes.{Appends-trans, Appends-nil}
use Rattle.std.specs.List.{list_any}
use Rattle.std.proofs.lemmas.Bool.{true≢false}
use Rattle.std.proofs.lemmas.List.{flat_map_more, length_push}
use Rattle.std.proofs.lemmas.List.Folds.{list_any-append}
use Rattle.labelled_disk.specs.Calls.{Rose}
use Rattle.flat_machine.specs.declared.call.Reply.{Reply}
use Rattle.flat_machine.specs.Text.{text}
use Rattle.flat_machine.specs.Machine.{Machine}
use Rattle.flat_machine.specs.After.{TraceLine, AllowsLine, AllowsAll, after, next_line, Transcript}
use Rattle.flat_machine.specs.declared.call.Call.TheVariants as call
use Rattle.trace_io.specs.Stream.{IsPrefixOf}
use Rattle.trace_io.specs.Progress.{Progress}
use Rattle.trace_io.specs.Lines.{TakesLine, TakesPart}
use Rattle.trace_io.specs.Reading.{is_last, reading, whole_reading, IsShort}
use Rattle.trace_io.specs.Course.{AreLines, HasRead, HasReadAll}
use Rattle.trace_io.specs.declared.progress.Stop.TheVariants as stop
use Rattle.trace_io.proofs.CourseLemmas.{HasRead-none, HasRead-line, HasRead-last, HasRead-end, HasRead-part, HasRead-item, HasRead-long}
use Rattle.pilot_top.specs.Ending.{is_halt, halts}
use Rattle.pilot_top.specs.Queued.{WroteChange}
use Rattle.pilot_top.specs.Replied.{AreTo}
use Rattle.pilot_top.specs.Turn.{Answers}
use Rattle.pilot_top.specs.Last.{last_line, Puts}
use Rattle.filer_kernel.specs.Evidence.{IsEvident}
use Rattle.labelled_disk.specs.State.{DiskState}
use Rattle.pilot_top.specs.Headline.{Answered, HasWritten, IsLeftOpen, Taken, Unheard, Answering, RevealsDamage}
use Rattle.pilot_top.specs.declared.last.Cause.TheVariants as cause
use Rattle.pilot_top.specs.declared.status.Status.TheVariants as status
use Rattle.pilot_top.proofs.StagedLemmas.{after_then}
use Rattle.pilot_top.proofs.SuitLemmas.{to_more}

-- the machine after lines
abbrev pub last_of : Machine → List TraceLine → Machine
last_of m lines = after m lines (length lines)

allowed_push : (m : Machine) (lines : List TraceLine) (rs : List Reply) (line : TraceLine) (r : Reply) → length rs ≡ length lines → AllowsAll m lines rs
    → AllowsLine (last_of m lines) line r → AllowsAll m (lines ++ line ∷ []) (rs ++ r ∷ [])
allowed_push m [] [] line r same all allowed = (allowed, tt)
allowed_push m [] (s ∷ rs) line r same all allowed = absurd all
allowed_push m (l ∷ lines) [] line r same all allowed = absurd (omega (arith, same))
allowed_push m (l ∷ lines) (s ∷ rs) line r same all allowed = (all.0, allowed_push (next_line m l) lines rs line r (omega (arith, same)) all.1 allowed)

allowed_more : (m : Machine) (lines more : List TraceLine) (rs : List Reply) → AllowsAll m lines rs → AllowsAll m (lines ++ more) rs
allowed_more m lines more [] all = tt
allowed_more m [] more (r ∷ rs) all = absurd all
allowed_more m (l ∷ lines) more (r ∷ rs) all = (all.0, allowed_more (next_line m l) lines more rs all.1)

-- one reply more
answered_push : (m : Machine) (lines : List TraceLine) (out : List ℕ) (line : TraceLine) (r : Reply) → Answered m lines out → AllowsLine (last_of m lines) line r
    → Answered m (lines ++ line ∷ []) (out ++ text r)
answered_push m lines out line r script allowed = record {
  replies = script.replies ++ r ∷ [];
  one_a_line = omega (arith, length_push script.replies r, length_push lines line, script.one_a_line);
  allowed = allowed_push m lines script.replies line r script.one_a_line script.allowed allowed;
  text_is = ap (λ b. b ++ text r) script.text_is ∙ flat_map_more text [] script.replies r;
}

-- replies to the first of more lines
answered_more : (m : Machine) (lines more : List TraceLine) (out : List ℕ) → Answered m lines out → Transcript m (lines ++ more) (length lines) out
answered_more m lines more out script = record {
  replies = script.replies;
  one_a_line = script.one_a_line;
  allowed = allowed_more m lines more script.replies script.allowed;
  text_is = script.text_is;
}

-- a line that others may follow is no `halt`
not_halt : (line : TraceLine) → is_last line ≡ false → is_halt line ≡ false
not_halt (Some call.Halt) last = absurd (true≢false last)
not_halt line last = refl

pub none-push : (test : TraceLine → Bool) (lines : List TraceLine) (line : TraceLine) → list_any test lines ≡ false → test line ≡ false → list_any test (lines ++ line ∷ []) ≡ false
none-push test lines line none last = let here : list_any test (line ∷ []) ≡ false = rw last refl in list_any-append test lines (line ∷ []) ∙ rw (none, here) refl

-- where none of the first lines ends the trace, but one does, there are more
pub before_last : (lines more all : List TraceLine) → all ≡ lines ++ more → list_any is_last lines ≡ false → list_any is_last all ≡ true → length lines < length all
before_last lines [] all are none some =
    let same : list_any is_last all ≡ false = ap (list_any is_last) (are ∙ append-nil lines) ∙ none in
    absurd (true≢false (sym some ∙ same))
before_last lines (line ∷ more) all are none some = omega (arith, ap length are, length-append lines (line ∷ more))

-- So many lines are answered: for each machine for which the first state stands, and the state now stands for the machine after them.
pub record Going (a c t u : Option (List ℕ)) (p : Progress) (first now : Machine → Type 0) : Type 0 where
  pub lines : List TraceLine
  pub out : List ℕ
  pub read : HasRead a c p lines
  pub wrote : Appends t u out
  pub replies : List Reply
  pub said : out ≡ flat_map text replies
  pub each : AreTo replies lines
  pub script : (m : Machine) → first m → Answered m lines out
  pub stands : (m : Machine) → first m → now (last_of m lines)
  pub none_halts : halts lines ≡ false
  pub none_last : list_any is_last lines ≡ false

abbrev pub Going-start : (a t : Option (List ℕ)) (p : Progress) (first : Machine → Type 0) → p.taken ≡ 0 → p.stopped ≡ None → Going a a t t p first first
Going-start a t p first zero none = record {
  lines = [];
  out = [];
  read = HasRead-none a p zero none;
  wrote = Appends-nil t;
  replies = [];
  said = refl;
  each = tt;
  script = λ m is. record { replies = []; one_a_line = refl; allowed = tt; text_is = refl };
  stands = λ m is. is;
  none_halts = refl;
  none_last = refl;
}

-- the steps of a run, whether or not source and sink reveal anything
module _ (a b t u : Option (List ℕ)) (p : Progress) (first now : Machine → Type 0) (going : Going a b t u p first now) where
  more_script : (then : Machine → Type 0) (line : TraceLine) (r : Reply) → Answers now then line r → (m : Machine) → first m → Answered m (going.lines ++ line ∷ []) (going.out ++ text r)
  more_script then line r answers m is = answered_push m going.lines going.out line r (going.script m is) (answers.allowed (last_of m going.lines) (going.stands m is))

  pub Going-reply : (c v : Option (List ℕ)) (q : Progress) (then : Machine → Type 0) (line : TraceLine) (r : Reply) → p.stopped ≡ None → TakesLine line b c p q → Answers now then line r
      → is_last line ≡ false → Appends u v (text r) → Going a c t v q first then
  Going-reply c v q then line r none takes answers goes wrote = record {
    lines = going.lines ++ line ∷ [];
    out = going.out ++ text r;
    read = HasRead-line a b c p q going.lines line going.read none takes goes;
    wrote = Appends-trans t u v going.out (text r) going.wrote wrote;
    replies = going.replies ++ r ∷ [];
    said = ap (λ b. b ++ text r) going.said ∙ flat_map_more text [] going.replies r;
    each = to_more going.lines going.replies line r going.each answers.suits;
    script = more_script then line r answers;
    stands = λ m is.
        subst then (sym (after_then m going.lines (line ∷ []))) (answers.next (last_of m going.lines) (going.stands m is) goes);
    none_halts = none-push is_halt going.lines line going.none_halts (not_halt line goes);
    none_last = none-push is_last going.lines line going.none_last goes;
  }

  pub reply_lines : (c v : Option (List ℕ)) (q : Progress) (then : Machine → Type 0) (line : TraceLine) (r : Reply) (none : p.stopped ≡ None) (takes : TakesLine line b c p q) (answers : Answers now then line r)
      (goes : is_last line ≡ false) (wrote : Appends u v (text r)) → (Going-reply c v q then line r none takes answers goes wrote).lines ≡ going.lines ++ line ∷ []
  unfolding Going-reply
  reply_lines c v q then line r none takes answers goes wrote = refl

pub revealed_bytes : (t : List ℕ) (u : Option (List ℕ)) (out : List ℕ) → Appends (Some t) u out → u ≡ Some (t ++ out)
revealed_bytes t None out wrote = absurd wrote
revealed_bytes t (Some y) out wrote = ap Some wrote

pub revealed_end : (x : List ℕ) (c : Option (List ℕ)) (bytes : List ℕ) → Consumes (Some x) c bytes → IsAtEnd c → c ≡ Some []
revealed_end x None bytes took end = absurd took
revealed_end x (Some s) bytes took end = ap Some end

pub revealed_taken : (b : List ℕ) (c : Option (List ℕ)) (bytes : List ℕ) → Consumes (Some b) c bytes → (taken : Taken b c) × (taken.bytes ≡ bytes)
revealed_taken b None bytes took = absurd took
revealed_taken b (Some s) bytes took = (record { bytes = bytes; rest = s; all = took; left_is = refl }, refl)

-- the lines read are the first of the trace's
pub revealed_prefix : (b : List ℕ) (c : Option (List ℕ)) (p : Progress) (lines : List TraceLine) → HasRead (Some b) c p lines → p.stopped ≡ None → (more : List TraceLine) × (reading b ≡ lines ++ more)
revealed_prefix b None p lines read none = absurd read.took
revealed_prefix b (Some s) p lines read none =
    let are : AreLines read.bytes lines = rw none at read.goes_on in
    (reading s, ap reading read.took ∙ are.reads s)

-- a last line after what was written
pub wrote_last : (failed : Type 0) (t : List ℕ) (u v : Option (List ℕ)) (out last : List ℕ) → Appends (Some t) u out → Puts failed u v last → HasWritten failed (t ++ out) v last
wrote_last failed t u v out last wrote (inl more) = inl (revealed_bytes t v (out ++ last) (Appends-trans (Some t) u v out last wrote more) ∙ ap Some (sym (append_assoc t out last)))
wrote_last failed t u v out last wrote (inr more) =
    inr (more.0, more.1, more.2, revealed_bytes t v (out ++ more.1) (Appends-trans (Some t) u v out more.1 wrote more.3) ∙ ap Some (sym (append_assoc t out more.1)))

-- the ways out of a run from the machine m, whose source has the bytes x and whose sink has the bytes t
module _ (m : Machine) (x t : List ℕ) (b u : Option (List ℕ)) (p : Progress) (first now : Machine → Type 0) (going : Going (Some x) b (Some t) u p first now) (is : first m) (failed : Type 0) (has : ℕ → ℕ → Type 0) where
  pub done_all : (c v : Option (List ℕ)) (taken limit : ℕ) (lines : List TraceLine) (out : List ℕ) → HasReadAll (Some x) c taken limit lines → Answered m lines out → Appends (Some t) v out
      → has (length (reading x)) 0 → Answering status.Done m x c t v failed has
  done_all c v taken limit lines out all script wrote there = (out, rw all.items_are script, revealed_bytes t v out wrote, all.rest_is, there)

  -- the line that ends the trace was answered
  pub Run-last : (c v : Option (List ℕ)) (q : Progress) (then : Machine → Type 0) (line : TraceLine) (r : Reply) → p.stopped ≡ None → TakesLine line b c p q → Answers now then line r
      → is_last line ≡ true → Appends u v (text r) → has (length (reading x)) 0 → Answering status.Done m x c t v failed has
  Run-last c v q then line r none takes answers last wrote there =
      done_all c v q.taken q.limit (going.lines ++ line ∷ []) (going.out ++ text r) (HasRead-last (Some x) b c p q going.lines line going.read none takes last)
      (more_script (Some x) b (Some t) u p first now going then line r answers m is) (Appends-trans (Some t) u v going.out (text r) going.wrote wrote) there

  -- a line was read, and the disk failed
  pub Run-disk : (c v : Option (List ℕ)) → p.stopped ≡ None → Puts failed u v (last_line cause.DiskFault) → (i : ℕ) → has (length going.lines) i → Answering status.DiskFault m x c t v failed has
  Run-disk c v none more i there =
      let prefix = revealed_prefix x b p going.lines going.read none in (
        length going.lines,
        going.out,
        rw prefix.1 (answered_more m going.lines prefix.0 going.out (going.script m is)),
        before_last going.lines prefix.0 (reading x) prefix.1 going.none_last,
        wrote_last failed t u v going.out (last_line cause.DiskFault) going.wrote more,
        i,
        there,
      )

  -- as many bytes as the limit were taken
  pub Run-long : (c v : Option (List ℕ)) (q : Progress) → p.stopped ≡ None → TakesPart stop.Long b c p q → q.taken ≡ 2 ^ 32 → Puts failed u v (last_line cause.Long)
      → has (length going.lines) 0 → Answering status.Long m x c t v failed has
  Run-long c v q none takes full more there =
      let read = HasRead-part (Some x) b c p q stop.Long going.lines going.read none takes in
      let taken = revealed_taken x c read.bytes read.took in (
        taken.0,
        ap length taken.1 ∙ sym read.count ∙ full,
        going.out,
        rw (taken.1, read.items_are) (going.script m is),
        wrote_last failed t u v going.out (last_line cause.Long) going.wrote more,
        rw (taken.1, read.items_are) there,
      )

  -- the source failed
  pub Run-read_fault : (c : Option (List ℕ)) (q : Progress) → p.stopped ≡ None → TakesPart stop.ReadFault b c p q → has (length going.lines) 0 → Answering status.StreamFault m x c t u failed has
  Run-read_fault c q none takes there =
      let read = HasRead-part (Some x) b c p q stop.ReadFault going.lines going.read none takes in
      let taken = revealed_taken x c read.bytes read.took in
      inl (taken.0, going.out, rw (taken.1, read.items_are) (going.script m is), revealed_bytes t u going.out going.wrote, rw (taken.1, read.items_are) there)

  -- the sink failed on a reply
  pub Run-write_fault : (c v : Option (List ℕ)) (q : Progress) (then : Machine → Type 0) (line : TraceLine) (r : Reply) → p.stopped ≡ None → TakesLine line b c p q → Answers now then line r
      → failed → (prefix : List ℕ) → IsPrefixOf prefix (text r) → Appends u v prefix → has (length (going.lines ++ line ∷ [])) 0 → Answering status.StreamFault m x c t v failed has
  Run-write_fault c v q then line r none takes answers rose prefix is_prefix wrote there =
      elim (HasRead-item (Some x) b c p q going.lines line going.read none takes) [
        | inl read ↦
            let taken = revealed_taken x c read.bytes read.took in
            inr (inl (rose, taken.0, unheard (whole_reading taken.0.bytes) (ap whole_reading taken.1 ∙ read.items_are), rw (taken.1, read.items_are) there))
        | inr read ↦ inr (inr (rose, revealed_end x c read.0.bytes read.0.took read.1, unheard (reading x) read.0.items_are, rw read.0.items_are there))
      ]
    where
      unheard : (all : List TraceLine) → all ≡ going.lines ++ line ∷ [] → Unheard m all t v
      unheard all are = record {
        before = going.lines;
        line = line;
        all = are;
        out = going.out;
        answered = going.script m is;
        reply = r;
        allowed = answers.allowed (last_of m going.lines) (going.stands m is);
        prefix = prefix;
        is_prefix = is_prefix;
        took_is = revealed_bytes t v (going.out ++ prefix) (Appends-trans (Some t) u v going.out prefix going.wrote wrote) ∙ ap Some (sym (append_assoc t going.out prefix));
      }

-- where the source reveals its bytes
pub Going-source : (a b t u : Option (List ℕ)) (p : Progress) (first now : Machine → Type 0) (x : List ℕ) → Going a b t u p first now → a ≡ Some x → Going (Some x) b t u p first now
Going-source a b t u p first now x going source = subst (λ r. Going r b t u p first now) source going

-- where the sink reveals its bytes
pub Going-sink : (a b t u : Option (List ℕ)) (p : Progress) (first now : Machine → Type 0) (y : List ℕ) → Going a b t u p first now → t ≡ Some y → Going a b (Some y) u p first now
Going-sink a b t u p first now y going sink = subst (λ s. Going a b s u p first now) sink going

-- where source and sink reveal their bytes
pub Going-revealed : (a b t u : Option (List ℕ)) (p : Progress) (first now : Machine → Type 0) (x y : List ℕ) → Going a b t u p first now → a ≡ Some x → t ≡ Some y
    → Going (Some x) b (Some y) u p first now
Going-revealed a b t u p first now x y going source sink = subst (λ s. Going (Some x) b s u p first now) sink (subst (λ r. Going r b t u p first now) source going)

-- Replies were written, and then what shows that the volume is damaged.
module _ (a b u v : Option (List ℕ)) (t : List ℕ) (p : Progress) (first now : Machine → Type 0) (failed : Type 0) (e : Evidence) (disk : DiskState) (evidence_seen : IsEvident disk e) (open_still : IsLeftOpen disk) (going : Going a b (Some t) u p first now)
    (put : Puts failed u v (last_line (cause.Damaged e))) where
  abbrev pub damage_revealed : RevealsDamage t v failed disk
  damage_revealed = record {
    replies = going.replies;
    evidence = e;
    evidence_seen = evidence_seen;
    left_open = open_still;
    written = rw (sym going.said) (wrote_last failed t u v going.out (last_line (cause.Damaged e)) going.wrote put);
  }

-- replies were written, and then the line of a label that had changed
pub change_revealed : (a b u v : Option (List ℕ)) (t : List ℕ) (p : Progress) (first now : Machine → Type 0) (failed : Type 0) (e : Evidence) → Going a b (Some t) u p first now → Puts failed u v (last_line (cause.Damaged e)) → WroteChange t v failed e
change_revealed a b u v t p first now failed e going put = (going.replies, rw (sym going.said) (wrote_last failed t u v going.out (last_line (cause.Damaged e)) going.wrote put))

-- a trace that was read to its end is short enough, and one of which as many bytes as the limit were taken is not
module _ (x : List ℕ) (b t u : Option (List ℕ)) (p : Progress) (first now : Machine → Type 0) (going : Going (Some x) b t u p first now) where
  pub short_at_last : (c : Option (List ℕ)) (q : Progress) (line : TraceLine) → p.stopped ≡ None → TakesLine line b c p q → is_last line ≡ true → p.limit ≡ 2 ^ 32 → IsShort (2 ^ 32) x
  short_at_last c q line none takes last limit =
      let all = HasRead-last (Some x) b c p q going.lines line going.read none takes last in
      subst (λ (n : ℕ). IsShort n x) (takes.limit ∙ limit) all.short

  pub short_at_end : (c : Option (List ℕ)) → ((p.stopped ≡ None) × Consumes b c [] × IsAtEnd c × (p.taken < p.limit)) ⊎ ((p.stopped ≡ Some stop.End) × (c ≡ b)) → p.limit ≡ 2 ^ 32 → IsShort (2 ^ 32) x
  short_at_end c (inl ended) limit =
      let all = HasRead-end (Some x) b c p going.lines going.read ended.0 ended.1 ended.2 ended.3 in
      subst (λ (n : ℕ). IsShort n x) limit all.short
  short_at_end c (inr ended) limit = let all = rw ended.0 at going.read.goes_on in subst (λ (n : ℕ). IsShort n x) limit all.0.short

  pub not_short : (c : Option (List ℕ)) (q : Progress) → p.stopped ≡ None → TakesPart stop.Long b c p q → q.taken ≡ q.limit → p.limit ≡ 2 ^ 32 → IsShort (2 ^ 32) x → ⊥
  not_short c q none takes met limit short =
      HasRead-long x b c p q going.lines going.read none takes met (subst (λ (n : ℕ). IsShort n x) (sym (takes.limit ∙ limit)) short)

pub rose_later : (a b c : ℕ) → a ≤ b → Rose b c → Rose a c
rose_later a b c le rose = omega (arith, le, rose)

pub Puts-later : (P Q : Type 0) (u v : Option (List ℕ)) (last : List ℕ) → (P → Q) → Puts P u v last → Puts Q u v last
Puts-later P Q u v last f (inl all) = inl all
Puts-later P Q u v last f (inr some) = inr (f some.0, some.1, some.2, some.3)
