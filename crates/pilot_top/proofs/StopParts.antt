-- In which part of a run its last write is, by its status, whatever the disk holds.
use Rattle.std.proofs.Common.{◌≡◌, ◌≢◌, ◌⊎◌, inl, inr, ℕ, suc, ◌+◌, ◌≤◌, Bool, true, false, List, [], ◌∷◌, ◌++◌, length, Option, Some, None, refl, sym, ◌∙◌, ap, subst, arith, append-nil, length-append}
use Rattle.std.specs.Prelude.{flat_map, if◌then◌else◌, slice_get}
use Rattle.std.specs.List.{list_any}
use Rattle.std.specs.Io.KnownBytes.{Appends}
use Rattle.std.specs.Io.KnownBytes.{Consumes, IsAtEnd}
use Rattle.std.proofs.lemmas.List.Folds.{list_any-append}
use Rattle.std.proofs.lemmas.Option.{same_Some}
use Rattle.labelled_disk.specs.declared.disk.DiskWrite.{DiskWrite}
use Rattle.labelled_disk.specs.declared.evidence.Evidence.{Evidence}
use Rattle.labelled_disk.specs.declared.evidence.Halt.{Halt}
use Rattle.labelled_disk.specs.declared.evidence.Halt.TheVariants as halt
use Rattle.labelled_disk.specs.Calls.{RevealsSame}
use Rattle.labelled_disk.specs.Sectors.{Sector}
use Rattle.labelled_disk.specs.State.{DiskState}
use Rattle.frame_pool.specs.Frames.{Slots}
use Rattle.flat_machine.specs.declared.call.Call.TheVariants as call
use Rattle.flat_machine.specs.declared.call.Reply.{Reply}
use Rattle.flat_machine.specs.After.{TraceLine}
use Rattle.flat_machine.specs.Machine.{Machine}
use Rattle.flat_machine.specs.Text.{text}
use Rattle.trace_io.specs.Items.{whole_items_of}
use Rattle.trace_io.specs.Lines.{TakesLine, TakesPart}
use Rattle.trace_io.specs.Progress.{Progress}
use Rattle.trace_io.specs.Reading.{is_last, reading, whole_reading}
use Rattle.trace_io.specs.declared.progress.Stop.{Stop}
use Rattle.trace_io.specs.declared.progress.Stop.TheVariants as stop
use Rattle.trace_io.proofs.CourseLemmas.{HasRead-end, HasRead-item, HasRead-last, HasRead-part}
use Rattle.pilot_engine.specs.Closing.{WroteOn}
use Rattle.pilot_engine.specs.declared.fault.StartFault.{StartFault}
use Rattle.volume_root.specs.declared.root.Root.{Root}
use Rattle.pilot_top.specs.Headline.{HasWritten}
use Rattle.pilot_top.specs.Last.{last_line, Puts}
use Rattle.pilot_top.specs.Parts.{InParts, IsUntaken, NextMay, PartMay, Stops, last_part}
use Rattle.pilot_top.specs.Replied.{AreTo}
use Rattle.pilot_top.specs.Stopping.{StopsAs, status_of, cause_of}
use Rattle.pilot_top.specs.Turn.{EndsTrace}
use Rattle.pilot_top.specs.declared.last.Cause.TheVariants as cause
use Rattle.pilot_top.specs.declared.status.Status.{Status}
use Rattle.pilot_top.specs.declared.status.Status.TheVariants as status
use Rattle.pilot_top.specs.declared.turn.End.{End}
use Rattle.pilot_top.specs.declared.turn.End.TheVariants as end
use Rattle.pilot_top.proofs.LineParts.{get_end, get_next, parts_end, parts_of_trace}
use Rattle.pilot_top.proofs.PartLemmas.{parts_still}
use Rattle.pilot_top.proofs.PutLemmas.{put_alone}
use Rattle.pilot_top.proofs.RunLemmas.{how}
use Rattle.pilot_top.proofs.TopLemmas.{Going, revealed_end, revealed_taken, wrote_last}

-- as many replies as lines
as_many : (lines : List TraceLine) (replies : List Reply) → AreTo replies lines → length replies ≡ length lines
as_many [] [] each = refl
as_many [] (r ∷ replies) each = absurd each
as_many (line ∷ lines) [] each = absurd each
as_many (line ∷ lines) (r ∷ replies) each = ap suc (as_many lines replies each.1)

-- the last part of a trace that a line ends, and of one that none does
ended_by_line : (lines : List TraceLine) (line : TraceLine) → list_any is_last lines ≡ false → is_last line ≡ true → last_part (lines ++ line ∷ []) ≡ suc (length lines)
ended_by_line lines line none last =
    let some : list_any is_last (lines ++ line ∷ []) ≡ true = list_any-append is_last lines (line ∷ []) ∙ rw (none, last) refl in
    ap (λ (h : Bool). if h then length (lines ++ line ∷ []) else suc (length (lines ++ line ∷ []))) some ∙ (let e = length-append lines (line ∷ []) in omega (arith, e))

ended_by_none : (lines : List TraceLine) → list_any is_last lines ≡ false → last_part lines ≡ suc (length lines)
ended_by_none lines none = ap (λ (h : Bool). if h then length lines else suc (length lines)) none

-- a line more
suc_more : (lines : List TraceLine) (line : TraceLine) → length (lines ++ line ∷ []) ≡ suc (length lines)
suc_more lines line = let e = length-append lines (line ∷ []) in omega (arith, e)

-- where the source has what it had, no byte was taken
none_taken : (x : List ℕ) (c : Option (List ℕ)) (bytes : List ℕ) → Consumes (Some x) c bytes → c ≡ Some x → length bytes ≡ 0
none_taken x c bytes took still =
    let taken = revealed_taken x c bytes took in
    let rest : taken.0.rest ≡ x = same_Some taken.0.rest x (sym taken.0.left_is ∙ still) in
    let all : length x ≡ length taken.0.bytes + length taken.0.rest = ap length taken.0.all ∙ length-append taken.0.bytes taken.0.rest in
    let same : length taken.0.rest ≡ length x = ap length rest in
    let bytes_are : length taken.0.bytes ≡ length bytes = ap length taken.1 in
    omega (arith, all, same, bytes_are)

-- no byte is no item
no_items : whole_reading [] ≡ []
unfolding whole_items_of
no_items = refl

-- no item is whole in no byte
none_whole : (bytes : List ℕ) (items : List TraceLine) (item : TraceLine) → length bytes ≡ 0 → whole_reading bytes ≡ items ++ item ∷ [] → ⊥
none_whole [] items item none are = let some = length-append items (item ∷ []) in let same : 0 ≡ length (items ++ item ∷ []) = ap length (sym no_items ∙ are) in omega (arith, some, same)
none_whole (b ∷ bytes) items item none are = omega (arith, none)

-- at its end a source with some bytes is not what it was
end_taken : (x : List ℕ) (c : Option (List ℕ)) (bytes : List ℕ) → Consumes (Some x) c bytes → IsAtEnd c → IsUntaken x c → ⊥
end_taken x c bytes took end none = none.1 (same_Some x [] (sym none.0 ∙ revealed_end x c bytes took end))

-- Source and sink reveal their bytes.
module _ (x t : List ℕ) {b u : Option (List ℕ)} {p : Progress} {first now : Machine → Type 0} (going : Going (Some x) b (Some t) u p first now) (failed : Type 0) (wrote : ℕ → Type 0) where
  written_then : (v : Option (List ℕ)) (last : List ℕ) → Puts failed u v last → HasWritten failed (t ++ flat_map text going.replies) v last
  written_then v last put = wrote_last failed t u v (flat_map text going.replies) last (subst (λ (o : List ℕ). Appends (Some t) u o) going.said going.wrote) put

  next_part : wrote (suc (length going.lines)) → wrote (suc (length going.replies))
  next_part there = subst (λ (n : ℕ). wrote (suc n)) (sym (as_many going.lines going.replies going.each)) there

  -- a line was taken
  pub line_taken : (c : Option (List ℕ)) (q : Progress) (line : TraceLine) → p.stopped ≡ None → TakesLine line b c p q → IsUntaken x c → ⊥
  line_taken c q line none takes still = elim (HasRead-item (Some x) b c p q going.lines line going.read none takes) [
    | inl read ↦ none_whole read.bytes going.lines line (none_taken x c read.bytes read.took still.0) read.items_are
    | inr read ↦ end_taken x c read.0.bytes read.0.took read.1 still
  ]

  -- so many bytes were taken
  pub bytes_taken : (c : Option (List ℕ)) (q : Progress) (why : Stop) → p.stopped ≡ None → TakesPart why b c p q → 1 ≤ q.taken → IsUntaken x c → ⊥
  bytes_taken c q why none takes some still =
      let read = HasRead-part (Some x) b c p q why going.lines going.read none takes in
      let count = read.count in
      let zero = none_taken x c read.bytes read.took still.0 in
      omega (arith, count, zero, some)

  -- the trace is at its end
  pub trace_taken : (way : End) (c : Option (List ℕ)) (q : Progress) → EndsTrace way b c p q → IsUntaken x c → ⊥
  trace_taken end.Close c q ended still = line_taken c q (Some call.Close) ended.0 ended.1 still
  trace_taken end.Halt c q ended still = line_taken c q (Some call.Halt) ended.0 ended.1 still
  trace_taken end.Trace c q (inl ended) still =
      let all = HasRead-end (Some x) b c p going.lines going.read ended.0 ended.1 ended.2 ended.3 in
      end_taken x c all.bytes all.took ended.2 still
  trace_taken end.Trace c q (inr ended) still =
      let all = rw ended.0 at going.read.goes_on in
      end_taken x b all.0.bytes all.0.took all.1 (sym ended.1 ∙ still.0, still.1)

  -- the session stopped after the replies, once something was taken
  pub Stops-halted : (s : Status) (why : Halt) (c v : Option (List ℕ)) → s ≡ status_of why → Puts failed u v (last_line (cause_of why)) → wrote (suc (length going.lines)) → (IsUntaken x c → ⊥) → Stops s x c t v failed wrote
  Stops-halted s halt.Disk c v is put there some =
      subst (λ (z : Status). Stops z x c t v failed wrote) (sym is) (going.replies, written_then v (last_line cause.DiskFault) put, next_part there, λ none. absurd (some none))
  Stops-halted s (halt.Damaged e) c v is put there some =
      subst (λ (z : Status). Stops z x c t v failed wrote) (sym is) (going.replies, e, written_then v (last_line (cause.Damaged e)) put, next_part there, λ none. absurd (some none))

  -- as many bytes as the limit were taken
  pub Stops-long : (c v : Option (List ℕ)) (q : Progress) → p.stopped ≡ None → TakesPart stop.Long b c p q → wrote (length going.lines) → Stops status.Long x c t v failed wrote
  Stops-long c v q none takes there =
      let read = HasRead-part (Some x) b c p q stop.Long going.lines going.read none takes in
      let taken = revealed_taken x c read.bytes read.took in
      (taken.0, rw (taken.1, read.items_are) there)

  -- the source failed
  pub Stops-read_fault : (c v : Option (List ℕ)) (q : Progress) → p.stopped ≡ None → TakesPart stop.ReadFault b c p q → wrote (length going.lines) → Stops status.StreamFault x c t v failed wrote
  Stops-read_fault c v q none takes there =
      let read = HasRead-part (Some x) b c p q stop.ReadFault going.lines going.read none takes in
      let taken = revealed_taken x c read.bytes read.took in
      inl (taken.0, rw (taken.1, read.items_are) there)

  -- the sink failed on a reply
  pub Stops-write_fault : (c v : Option (List ℕ)) (q : Progress) (line : TraceLine) → p.stopped ≡ None → TakesLine line b c p q → wrote (suc (length going.lines)) → Stops status.StreamFault x c t v failed wrote
  Stops-write_fault c v q line none takes there =
      let more : wrote (length (going.lines ++ line ∷ [])) = subst wrote (sym (suc_more going.lines line)) there in
      elim (HasRead-item (Some x) b c p q going.lines line going.read none takes) [
        | inl read ↦ let taken = revealed_taken x c read.bytes read.took in inl (taken.0, rw (taken.1, read.items_are) more)
        | inr read ↦ inr (revealed_end x c read.0.bytes read.0.took read.1, rw read.0.items_are more)
      ]

  -- the trace is at its end
  module _ (c v : Option (List ℕ)) (q : Progress) where
    end_part : (way : End) → EndsTrace way b c p q → last_part (reading x) ≡ suc (length going.lines)
    end_part end.Close ended =
        let all = HasRead-last (Some x) b c p q going.lines (Some call.Close) going.read ended.0 ended.1 refl in
        ap last_part all.items_are ∙ ended_by_line going.lines (Some call.Close) going.none_last refl
    end_part end.Halt ended =
        let all = HasRead-last (Some x) b c p q going.lines (Some call.Halt) going.read ended.0 ended.1 refl in
        ap last_part all.items_are ∙ ended_by_line going.lines (Some call.Halt) going.none_last refl
    end_part end.Trace (inl ended) =
        let all = HasRead-end (Some x) b c p going.lines going.read ended.0 ended.1 ended.2 ended.3 in
        ap last_part all.items_are ∙ ended_by_none going.lines going.none_last
    end_part end.Trace (inr ended) = let all = rw ended.0 at going.read.goes_on in ap last_part all.0.items_are ∙ ended_by_none going.lines going.none_last

    end_unheard : (way : End) → EndsTrace way b c p q → way ≢ end.Trace → wrote (suc (length going.lines)) → Stops status.StreamFault x c t v failed wrote
    end_unheard end.Close ended other there = Stops-write_fault c v q (Some call.Close) ended.0 ended.1 there
    end_unheard end.Halt ended other there = Stops-write_fault c v q (Some call.Halt) ended.0 ended.1 there
    end_unheard end.Trace ended other there = absurd (other refl)

    pub Stops-end : (s : Status) (way : End) → EndsTrace way b c p q → (s ≡ status.Done) ⊎ (s ≡ status.StreamFault) ⊎ (s ≡ status.DiskFault) ⊎ (s ≡ status.Damaged)
        → (s ≡ status.StreamFault → way ≢ end.Trace)
        → (s ≡ status.DiskFault → Puts failed u v (last_line cause.DiskFault))
        → (s ≡ status.Damaged → (e : Evidence) × Puts failed u v (last_line (cause.Damaged e)))
        → wrote (suc (length going.lines)) → Stops s x c t v failed wrote
    Stops-end s way ended (inl done) heard on_disk on_damage there = subst (λ (z : Status). Stops z x c t v failed wrote) (sym done) (subst wrote (sym (end_part way ended)) there)
    Stops-end s way ended (inr (inl unheard)) heard on_disk on_damage there = subst (λ (z : Status). Stops z x c t v failed wrote) (sym unheard) (end_unheard way ended (heard unheard) there)
    Stops-end s way ended (inr (inr (inl fault))) heard on_disk on_damage there = Stops-halted s halt.Disk c v fault (on_disk fault) there (trace_taken way c q ended)
    Stops-end s way ended (inr (inr (inr damaged))) heard on_disk on_damage there = let line = on_damage damaged in Stops-halted s (halt.Damaged line.0) c v damaged line.1 there (trace_taken way c q ended)

-- all may be written where no line is left
none_more : (lines : List TraceLine) (d : List Sector) (w : DiskWrite) → NextMay (slice_get (lines ++ []) (length lines)) d w
none_more lines d w = subst (λ (l : Option TraceLine). NextMay l d w) (sym (ap (λ (ls : List TraceLine). slice_get ls (length lines)) (append-nil lines) ∙ get_end lines)) tt

-- What an end wrote is in the part after the last line that was answered.
module _ (x : List ℕ) {b t u : Option (List ℕ)} {p : Progress} {first now : Machine → Type 0} (going : Going (Some x) b t u p first now) where
  ended_parts : {root : Root} {old mid new : DiskState} {before : Slots} (more : List TraceLine) → reading x ≡ going.lines ++ more → ((d : List Sector) (w : DiskWrite) → NextMay (slice_get (going.lines ++ more) (length going.lines)) d w)
      → InParts (PartMay going.lines) (length going.lines) old mid → WroteOn root before mid new → InParts (PartMay (reading x)) (suc (length going.lines)) old new
  ended_parts more are may on wrote = parts_end going.lines more (reading x) are (λ d w. subst (λ (ls : List TraceLine). NextMay (slice_get ls (length going.lines)) d w) (sym are) (may d w)) on wrote

  pub end_parts : {root : Root} {old mid new : DiskState} {before : Slots} (way : End) (c : Option (List ℕ)) (q : Progress) → EndsTrace way b c p q → (way ≡ end.Halt → RevealsSame mid new)
      → InParts (PartMay going.lines) (length going.lines) old mid → WroteOn root before mid new → InParts (PartMay (reading x)) (suc (length going.lines)) old new
  end_parts end.Close c q ended same on wrote =
      let all = HasRead-last (Some x) b c p q going.lines (Some call.Close) going.read ended.0 ended.1 refl in
      ended_parts (Some call.Close ∷ []) all.items_are (λ d w. subst (λ (l : Option TraceLine). NextMay l d w) (sym (get_next going.lines (Some call.Close) [])) tt) on wrote
  end_parts end.Halt c q ended same on wrote =
      let all = HasRead-last (Some x) b c p q going.lines (Some call.Halt) going.read ended.0 ended.1 refl in
      parts_of_trace going.lines (Some call.Halt ∷ []) (reading x) (suc (length going.lines)) all.items_are (omega arith) (parts_still (PartMay going.lines) (length going.lines) on (same refl))
  end_parts end.Trace c q (inl ended) same on wrote =
      let all = HasRead-end (Some x) b c p going.lines going.read ended.0 ended.1 ended.2 ended.3 in
      ended_parts [] (all.items_are ∙ sym (append-nil going.lines)) (none_more going.lines) on wrote
  end_parts end.Trace c q (inr ended) same on wrote =
      let all = rw ended.0 at going.read.goes_on in
      ended_parts [] (all.0.items_are ∙ sym (append-nil going.lines)) (none_more going.lines) on wrote

-- No session started.
module _ {K : Type 0} (f : StartFault) (s : Status) (old new : K) (took : K → Option (List ℕ)) (failed : Type 0) (stops : StopsAs f s old new (Puts failed (took old) (took new))) where
  written_alone : (t : List ℕ) (last : List ℕ) → took old ≡ Some t → Puts failed (took old) (took new) last → HasWritten failed (t ++ []) (took new) last
  written_alone t last sink put = subst (λ (u : List ℕ). HasWritten failed u (took new) last) (sym (append-nil t)) (put_alone failed t (took old) (took new) last sink put)

  pub Stops-refused : (b t : List ℕ) (left : Option (List ℕ)) (wrote : ℕ → Type 0) → took old ≡ Some t → ((k : ℕ) → wrote k) → Stops s b left t (took new) failed wrote
  Stops-refused b t left wrote sink all = elim (how f s old new (Puts failed (took old) (took new)) stops) [
    | inl refusal ↦ subst (λ (x : Status). Stops x b left t (took new) failed wrote) (sym refusal.3) (all 0)
    | inr (inl fault) ↦ subst (λ (x : Status). Stops x b left t (took new) failed wrote) (sym fault.1) ([], written_alone t (last_line cause.DiskFault) sink fault.2, all 1, λ none. all 0)
    | inr (inr (inl memory)) ↦ subst (λ (x : Status). Stops x b left t (took new) failed wrote) (sym memory.1) (all 0)
    | inr (inr (inr damage)) ↦ subst (λ (x : Status). Stops x b left t (took new) failed wrote) (sym damage.2) ([], damage.0, written_alone t (last_line (cause.Damaged damage.0)) sink damage.3, all 1, λ none. all 0)
  ]
