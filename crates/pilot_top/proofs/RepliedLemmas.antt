-- The ways out of a run, whatever the disk holds.
use Rattle.std.proofs.Common.{◌≡◌, ◌≢◌, ◌⊎◌, inl, inr, ℕ, ◌^◌, true, List, [], ◌∷◌, ◌++◌, length, Option, Some, None, refl, sym, ap, ◌∙◌, subst, append_assoc, append-nil}
use Rattle.std.specs.Prelude.{flat_map}
use Rattle.std.specs.Io.KnownBytes.{Appends}
use Rattle.std.proofs.KnownBytes.{Appends-trans}
use Rattle.std.proofs.lemmas.List.{flat_map_more}
use Rattle.labelled_disk.specs.declared.evidence.Evidence.{Evidence}
use Rattle.labelled_disk.specs.declared.evidence.Halt.{Halt}
use Rattle.labelled_disk.specs.declared.evidence.Halt.TheVariants as halt
use Rattle.labelled_disk.specs.State.{DiskState}
use Rattle.flat_machine.specs.declared.call.Call.TheVariants as call
use Rattle.flat_machine.specs.declared.call.Reply.{Reply}
use Rattle.flat_machine.specs.declared.call.Reply.TheVariants as reply
use Rattle.flat_machine.specs.After.{TraceLine}
use Rattle.flat_machine.specs.Machine.{Machine}
use Rattle.flat_machine.specs.Text.{text}
use Rattle.trace_io.specs.Course.{HasReadAll}
use Rattle.trace_io.specs.Lines.{TakesLine, TakesPart}
use Rattle.trace_io.specs.Progress.{Progress}
use Rattle.trace_io.specs.Reading.{is_last, reading, whole_reading}
use Rattle.trace_io.specs.Stream.{IsPrefixOf}
use Rattle.trace_io.specs.declared.progress.Stop.TheVariants as stop
use Rattle.trace_io.proofs.CourseLemmas.{HasRead-last, HasRead-end, HasRead-part, HasRead-item}
use Rattle.filer_kernel.specs.Evidence.{IsEvident, ShowsEvidence}
use Rattle.pilot_top.specs.Ending.{end_text}
use Rattle.pilot_top.specs.Headline.{HasWritten, IsLeftOpen}
use Rattle.pilot_top.specs.Last.{last_line, Puts}
use Rattle.pilot_top.specs.Queued.{RepliesChange}
use Rattle.pilot_top.specs.Replied.{AreTo, AreToFirst, IsCutShort, Replied, Suits}
use Rattle.pilot_top.specs.Stopping.{status_of, cause_of}
use Rattle.pilot_top.specs.Turn.{EndsTrace}
use Rattle.pilot_top.specs.declared.last.Cause.TheVariants as cause
use Rattle.pilot_top.specs.declared.status.Status.{Status}
use Rattle.pilot_top.specs.declared.status.Status.TheVariants as status
use Rattle.pilot_top.specs.declared.turn.End.{End}
use Rattle.pilot_top.specs.declared.turn.End.TheVariants as end
use Rattle.pilot_top.proofs.EndLemmas.{End-prefix}
use Rattle.pilot_top.proofs.SuitLemmas.{to_more}
use Rattle.pilot_top.proofs.TopLemmas.{Going, damage_revealed, revealed_bytes, revealed_end, revealed_taken, wrote_last}

-- Source and sink reveal their bytes.
module _ (x t : List ℕ) {b u : Option (List ℕ)} {p : Progress} {first now : Machine → Type 0} (going : Going (Some x) b (Some t) u p first now) (failed : Type 0) (disk : DiskState) (reasoned : Evidence → Type 0) where
  abbrev texts : List ℕ
  texts = flat_map text going.replies

  wrote_texts : Appends (Some t) u texts
  wrote_texts = subst (λ (o : List ℕ). Appends (Some t) u o) going.said going.wrote

  -- the session stopped after the replies
  stopped_line : (v : Option (List ℕ)) (last : List ℕ) → Puts failed u v last → HasWritten failed (t ++ texts) v last
  stopped_line v last put = wrote_last failed t u v texts last wrote_texts put

  to_first : (more : List TraceLine) → reading x ≡ going.lines ++ more → AreToFirst going.replies (reading x)
  to_first more are = record { first = going.lines; rest = more; all = are; each = going.each; none_last = going.none_last }

  Replied-disk : (c v : Option (List ℕ)) (more : List TraceLine) → reading x ≡ going.lines ++ more → Puts failed u v (last_line cause.DiskFault) → Replied status.DiskFault x c t v failed disk reasoned
  Replied-disk c v more are put = (going.replies, to_first more are, stopped_line v (last_line cause.DiskFault) put)

  Replied-damaged : (c v : Option (List ℕ)) (more : List TraceLine) → reading x ≡ going.lines ++ more → (e : Evidence) → IsEvident disk e → reasoned e → IsLeftOpen disk → Puts failed u v (last_line (cause.Damaged e))
      → Replied status.Damaged x c t v failed disk reasoned
  Replied-damaged c v more are e evidence_seen reason open_still put = (damage_revealed (Some x) b u v t p first now failed e disk evidence_seen open_still going put, to_first more are, reason)

  pub Replied-halted : (s : Status) (why : Halt) (c v : Option (List ℕ)) (more : List TraceLine) → reading x ≡ going.lines ++ more → s ≡ status_of why → ShowsEvidence disk why → ((e : Evidence) → why ≡ halt.Damaged e → reasoned e) → IsLeftOpen disk
      → Puts failed u v (last_line (cause_of why)) → Replied s x c t v failed disk reasoned
  Replied-halted s halt.Disk c v more are is evidence_seen reason open_still put = subst (λ (z : Status). Replied z x c t v failed disk reasoned) (sym is) (Replied-disk c v more are put)
  Replied-halted s (halt.Damaged e) c v more are is evidence_seen reason open_still put = subst (λ (z : Status). Replied z x c t v failed disk reasoned) (sym is) (Replied-damaged c v more are e evidence_seen (reason e refl) open_still put)

  -- the session stopped, and a label had changed
  pub Replied-changed : (v : Option (List ℕ)) (more : List TraceLine) → reading x ≡ going.lines ++ more → (e : Evidence) → Puts failed u v (last_line (cause.Damaged e)) → RepliesChange x t v failed e
  Replied-changed v more are e put = (going.replies, to_first more are, stopped_line v (last_line (cause.Damaged e)) put)

  -- as many bytes as the limit were taken
  pub Replied-long : (c v : Option (List ℕ)) (q : Progress) → p.stopped ≡ None → TakesPart stop.Long b c p q → q.taken ≡ 2 ^ 32 → Puts failed u v (last_line cause.Long)
      → Replied status.Long x c t v failed disk reasoned
  Replied-long c v q none takes full put =
      let read = HasRead-part (Some x) b c p q stop.Long going.lines going.read none takes in
      let taken = revealed_taken x c read.bytes read.took in (
        taken.0,
        ap length taken.1 ∙ sym read.count ∙ full,
        going.replies,
        subst (λ (ls : List TraceLine). AreTo going.replies ls) (sym (ap whole_reading taken.1 ∙ read.items_are)) going.each,
        stopped_line v (last_line cause.Long) put,
      )

  -- the source failed
  pub Replied-read_fault : (c : Option (List ℕ)) (q : Progress) → p.stopped ≡ None → TakesPart stop.ReadFault b c p q → Replied status.StreamFault x c t u failed disk reasoned
  Replied-read_fault c q none takes =
      let read = HasRead-part (Some x) b c p q stop.ReadFault going.lines going.read none takes in
      let taken = revealed_taken x c read.bytes read.took in
      inl (
        taken.0,
        going.replies,
        subst (λ (ls : List TraceLine). AreTo going.replies ls) (sym (ap whole_reading taken.1 ∙ read.items_are)) going.each,
        revealed_bytes t u texts wrote_texts,
      )

  -- the sink failed on a reply
  pub Replied-write_fault : (c v : Option (List ℕ)) (q : Progress) (line : TraceLine) (r : Reply) → p.stopped ≡ None → TakesLine line b c p q → Suits line r
      → failed → (prefix : List ℕ) → IsPrefixOf prefix (text r) → Appends u v prefix → Replied status.StreamFault x c t v failed disk reasoned
  Replied-write_fault c v q line r none takes suits rose prefix is_prefix wrote =
      elim (HasRead-item (Some x) b c p q going.lines line going.read none takes) [
        | inl read ↦
            let taken = revealed_taken x c read.bytes read.took in
            inr (inl (rose, taken.0, cut (whole_reading taken.0.bytes) (ap whole_reading taken.1 ∙ read.items_are)))
        | inr read ↦ inr (inr (rose, revealed_end x c read.0.bytes read.0.took read.1, cut (reading x) read.0.items_are))
      ]
    where
      cut : (all : List TraceLine) → all ≡ going.lines ++ line ∷ [] → IsCutShort all t v
      cut all are = record {
        replies = going.replies;
        reply = r;
        each = subst (λ (ls : List TraceLine). AreTo (going.replies ++ r ∷ []) ls) (sym are) (to_more going.lines going.replies line r going.each suits);
        prefix = prefix;
        is_prefix = is_prefix;
        took_is = revealed_bytes t v (texts ++ prefix) (Appends-trans (Some t) u v texts prefix wrote_texts wrote) ∙ ap Some (sym (append_assoc t texts prefix));
      }

  -- all lines were read and answered
  done_all : (c v : Option (List ℕ)) (taken limit : ℕ) (lines : List TraceLine) (replies : List Reply) → HasReadAll (Some x) c taken limit lines → AreTo replies lines
      → Appends (Some t) v (flat_map text replies) → Replied status.Done x c t v failed disk reasoned
  done_all c v taken limit lines replies all each wrote =
      (replies, subst (λ (ls : List TraceLine). AreTo replies ls) (sym all.items_are) each, revealed_bytes t v (flat_map text replies) wrote, all.rest_is)

  done_last : (c v : Option (List ℕ)) (q : Progress) (line : TraceLine) (r : Reply) → p.stopped ≡ None → TakesLine line b c p q → Suits line r → is_last line ≡ true → Appends u v (text r)
      → Replied status.Done x c t v failed disk reasoned
  done_last c v q line r none takes suits last wrote =
      done_all c v q.taken q.limit (going.lines ++ line ∷ []) (going.replies ++ r ∷ []) (HasRead-last (Some x) b c p q going.lines line going.read none takes last)
      (to_more going.lines going.replies line r going.each suits)
      (subst (λ (o : List ℕ). Appends (Some t) v o) (flat_map_more text [] going.replies r) (Appends-trans (Some t) u v texts (text r) wrote_texts wrote))

  nothing_more : (v : Option (List ℕ)) → Appends u v [] → Appends (Some t) v texts
  nothing_more v wrote = subst (λ (o : List ℕ). Appends (Some t) v o) (append-nil texts) (Appends-trans (Some t) u v texts [] wrote_texts wrote)

  -- at the trace's end
  Replied-done : (how : End) (c v : Option (List ℕ)) (q : Progress) → EndsTrace how b c p q → Appends u v (end_text how) → Replied status.Done x c t v failed disk reasoned
  Replied-done end.Close c v q ended wrote = done_last c v q (Some call.Close) reply.Done ended.0 ended.1 refl refl wrote
  Replied-done end.Halt c v q ended wrote = done_last c v q (Some call.Halt) reply.Done ended.0 ended.1 refl refl wrote
  Replied-done end.Trace c v q (inl ended) wrote =
      done_all c v p.taken p.limit going.lines going.replies (HasRead-end (Some x) b c p going.lines going.read ended.0 ended.1 ended.2 ended.3) going.each (nothing_more v wrote)
  Replied-done end.Trace c v q (inr ended) wrote =
      let all = rw ended.0 at going.read.goes_on in
      done_all c v p.taken p.limit going.lines going.replies (subst (λ e. HasReadAll (Some x) e p.taken p.limit going.lines) (sym ended.1) all.0) going.each (nothing_more v wrote)

  Replied-part : (how : End) (c v : Option (List ℕ)) (q : Progress) → EndsTrace how b c p q → how ≢ end.Trace → failed → (prefix : List ℕ) → IsPrefixOf prefix (end_text how) → Appends u v prefix
      → Replied status.StreamFault x c t v failed disk reasoned
  Replied-part end.Close c v q ended other rose prefix is_prefix wrote = Replied-write_fault c v q (Some call.Close) reply.Done ended.0 ended.1 refl rose prefix is_prefix wrote
  Replied-part end.Halt c v q ended other rose prefix is_prefix wrote = Replied-write_fault c v q (Some call.Halt) reply.Done ended.0 ended.1 refl rose prefix is_prefix wrote
  Replied-part end.Trace c v q ended other rose prefix is_prefix wrote = absurd (other refl)

  pub Replied-end : (s : Status) (how : End) (c v : Option (List ℕ)) (q : Progress) → EndsTrace how b c p q
      → (s ≡ status.Done) ⊎ (s ≡ status.StreamFault) ⊎ (s ≡ status.DiskFault) ⊎ (s ≡ status.Damaged)
      → (s ≡ status.Done → Appends u v (end_text how))
      → (s ≡ status.StreamFault → (prefix : List ℕ) × IsPrefixOf prefix (end_text how) × Appends u v prefix)
      → (s ≡ status.StreamFault → failed × (how ≢ end.Trace))
      → (s ≡ status.DiskFault → Puts failed u v (last_line cause.DiskFault))
      → (s ≡ status.Damaged → (e : Evidence) × IsEvident disk e × reasoned e × Puts failed u v (last_line (cause.Damaged e)))
      → (s ≡ status.Damaged → IsLeftOpen disk)
      → Replied s x c t v failed disk reasoned
  Replied-end s how c v q ended (inl done) on_done on_part cause_is on_disk on_damage open_still = subst (λ (z : Status). Replied z x c t v failed disk reasoned) (sym done) (Replied-done how c v q ended (on_done done))
  Replied-end s how c v q ended (inr (inl part)) on_done on_part cause_is on_disk on_damage open_still =
      let prefix = on_part part in
      let why = cause_is part in
      subst (λ (z : Status). Replied z x c t v failed disk reasoned) (sym part) (Replied-part how c v q ended why.1 why.0 prefix.0 prefix.1 prefix.2)
  Replied-end s how c v q ended (inr (inr (inl fault))) on_done on_part cause_is on_disk on_damage open_still =
      let prefix = End-prefix x b (Some t) u p first now going how c q ended in
      subst (λ (z : Status). Replied z x c t v failed disk reasoned) (sym fault) (Replied-disk c v prefix.0 prefix.1 (on_disk fault))
  Replied-end s how c v q ended (inr (inr (inr damaged))) on_done on_part cause_is on_disk on_damage open_still =
      let prefix = End-prefix x b (Some t) u p first now going how c q ended in
      let line = on_damage damaged in
      subst (λ (z : Status). Replied z x c t v failed disk reasoned) (sym damaged) (Replied-damaged c v prefix.0 prefix.1 line.0 line.1 line.2 (open_still damaged) line.3)
