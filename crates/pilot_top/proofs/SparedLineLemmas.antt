-- What spares a file, line by line of a trace, up to its end.
use Rattle.std.proofs.Common.{◌≡◌, ◌≢◌, ◌⊎◌, inl, inr, ℕ, suc, ◌<◌, ◌≤◌, Bool, true, false, List, [], ◌∷◌, ◌++◌, length, take, Option, Some, None, refl, sym, ◌∙◌, ap, subst, arith, append-nil, length-append}
use Rattle.std.specs.Prelude.{◌==◌, slice_get}
use Rattle.std.specs.List.{list_any}
use Rattle.std.specs.Option.{option_map_or}
use Rattle.std.proofs.lemmas.Bool.{eq-eqb, true≢false}
use Rattle.std.proofs.lemmas.List.{take_all}
use Rattle.labelled_disk.specs.declared.disk.DiskWrite.{DiskWrite}
use Rattle.labelled_disk.specs.declared.disk.DiskWrite.TheVariants as write
use Rattle.labelled_disk.specs.declared.label.Wanted.{Wanted}
use Rattle.labelled_disk.specs.Calls.{RevealsSame}
use Rattle.labelled_disk.specs.CrashState.{crash_state}
use Rattle.labelled_disk.specs.Sectors.{Sector}
use Rattle.labelled_disk.specs.State.{DiskState}
use Rattle.labelled_disk.proofs.WriteRunLemmas.{appended_no_more}
use Rattle.frame_pool.specs.Frames.{Slots}
use Rattle.flat_machine.specs.declared.call.Call.{Call}
use Rattle.flat_machine.specs.declared.call.Call.TheVariants as call
use Rattle.flat_machine.specs.After.{TraceLine}
use Rattle.swapper_kernel.specs.Goes.{IsDirty, Makes, Pages, Wrote}
use Rattle.swapper_kernel.specs.GoesLaws.{makes_nothing, makes_then, makes_wider}
use Rattle.session_words.specs.Volume.{volume_page}
use Rattle.trace_io.specs.Course.{HasRead}
use Rattle.trace_io.specs.Lines.{TakesLine}
use Rattle.trace_io.specs.Progress.{Progress}
use Rattle.trace_io.specs.Reading.{is_last, reading}
use Rattle.trace_io.proofs.CourseLemmas.{HasRead-end, HasRead-last, HasRead-line}
use Rattle.volume_root.specs.declared.root.Root.{Root}
use Rattle.file_manager.specs.Creating.{IsMonotone, next_id}
use Rattle.running_words.specs.Session.{WroteIn}
use Rattle.running_words.specs.Stages.{may_dirty}
use Rattle.pilot_engine.specs.Closing.{WroteOn}
use Rattle.pilot_engine.specs.Sparing.{Spares, SparesAll}
use Rattle.pilot_engine.specs.Stepping.{relabels}
use Rattle.pilot_engine.proofs.SparingLemmas.{spares_same, spares_still, spares_then}
use Rattle.pilot_top.specs.Parts.{LineWrote, NextMay}
use Rattle.pilot_top.specs.Sparing.{LineDone, OfShown, RunSpares, SparesInParts, maps_file, names_file, other_file, stores}
use Rattle.pilot_top.specs.Turn.{EndsTrace}
use Rattle.pilot_top.specs.declared.turn.End.{End}
use Rattle.pilot_top.specs.declared.turn.End.TheVariants as end
use Rattle.pilot_top.proofs.LineParts.{get_end, get_next, same_list}
use Rattle.pilot_top.proofs.PartSpareLemmas.{none_first, none_last, none_of, spares_later, spares_longer, spares_none, spares_part, spares_rest}
use Rattle.pilot_top.proofs.PrefixLemmas.{read_prefix}

-- ---- One call.

-- a call that stores nothing makes pages of the volume's own dirty alone
quiet_call : (c : Call) {a b : DiskState} {s t : Slots} → stores (Some c) ≡ false → WroteIn (may_dirty c) a s b t → (run : List DiskWrite) × Makes volume_page run a s b t
quiet_call (call.Store address bytes) none wrote = absurd (true≢false none)
quiet_call c none wrote = (wrote.labels, wrote.makes)

unnamed : (id : ℕ) (c : Call) → names_file id (Some c) ≡ false → relabels c ≢ Some id
unnamed id c none is = true≢false (sym (ap (λ (o : Option ℕ). option_map_or (λ (n : ℕ). n == id) o false) is ∙ eq-eqb id id refl) ∙ none)

pub call_done : (root : Root) (c : Call) {a b : DiskState} {s t : Slots} {hid hides : ℕ → Type 0} → LineWrote (Some c) a b → WroteIn (may_dirty c) a s b t
    → ((id : ℕ) → 16 ≤ id → relabels c ≢ Some id → next_id root ≢ id → Spares id a b)
    → ((id : ℕ) → 16 ≤ id → next_id root ≢ id → maps_file id (Some c) ≡ false → hid id → hides id × ((run : List DiskWrite) × Makes (other_file id) run a s b t)) → LineDone root (Some c) a s b t hid hides
call_done root c line wrote spares apart = record {
  wrote = line;
  spares = λ id client other none. spares id client (unnamed id c none) other;
  quiet = λ none. quiet_call c none wrote;
  apart = apart;
}

pub bad_done : (root : Root) (a : DiskState) (s : Slots) {hid hides : ℕ → Type 0} → LineWrote None a a → ((id : ℕ) → hid id → hides id) → LineDone root None a s a s hid hides
bad_done root a s line still = record {
  wrote = line;
  spares = λ id client other none. spares_same id (record { contents = refl; writes = refl });
  quiet = λ none. ([], makes_nothing volume_page a s);
  apart = λ id client other none hid. (still id hid, ([], makes_nothing (other_file id) a s));
}

-- ---- Lines in a row.

-- These lines were read, and so much was written in them.
pub record SparedLines (a c : Option (List ℕ)) (q : Progress) (root : Root) (old : DiskState) (before : Slots) (new : DiskState) (after : Slots) (hid hides : ℕ → Type 0) : Type 0 where
  pub lines : List TraceLine
  pub read : HasRead a c q lines
  pub spares : (id : ℕ) → 16 ≤ id → id < next_id root → list_any (names_file id) lines ≡ false → Spares id old new
  pub quiet : list_any stores lines ≡ false → (run : List DiskWrite) × Makes volume_page run old before new after
  pub apart : (id : ℕ) → 16 ≤ id → id < next_id root → list_any (maps_file id) lines ≡ false → hid id → hides id × ((run : List DiskWrite) × Makes (other_file id) run old before new after)
  pub in_parts : SparesInParts (next_id root) lines (length lines) old before new hid

pub lines_none : (a : Option (List ℕ)) (p : Progress) (root : Root) (disk : DiskState) (slots : Slots) (hid : ℕ → Type 0) → HasRead a a p [] → SparedLines a a p root disk slots disk slots hid hid
lines_none a p root disk slots hid read = record {
  lines = [];
  read = read;
  spares = λ id client low none. spares_same id (record { contents = refl; writes = refl });
  quiet = λ none. ([], makes_nothing volume_page disk slots);
  apart = λ id client low none is. (is, ([], makes_nothing (other_file id) disk slots));
  in_parts = spares_none (next_id root) disk slots hid;
}

-- what a line more wrote
line_in_parts : {a b : Option (List ℕ)} {p : Progress} {root now : Root} {line : TraceLine} {old mid new : DiskState} {s t u : Slots} {hid mids hides : ℕ → Type 0} (on : SparedLines a b p root old s mid t hid mids)
    → IsMonotone root now → LineDone now line mid t new u mids hides → SparesInParts (next_id root) (on.lines ++ line ∷ []) (length (on.lines ++ line ∷ [])) old s new hid
line_in_parts {root = root} {now = now} {line = line} {old = old} {mid = mid} {new = new} {s = s} {t = t} {hid = hid} on later done =
    subst (λ (n : ℕ). SparesInParts (next_id root) all n old s new hid) (let e = length-append on.lines (line ∷ []) in omega (arith, e))
    (spares_part (next_id root) all (length on.lines) (suc (length on.lines)) (omega arith) (spares_longer (next_id root) on.lines (line ∷ []) all (length on.lines) refl (omega arith) on.in_parts)
    (record {
      writes = done.wrote.writes;
      appended = done.wrote.appended;
      each = λ d earlier k w revealed made at.
          let is = done.wrote.each d earlier k w revealed made at in
          ((is.0, subst (λ (l : Option TraceLine). NextMay l (crash_state d done.wrote.writes k) w) (sym (get_next on.lines line [])) is.1), shown earlier k w made at);
    })
    (λ id client low none. done.spares id client (given id low) (sym (ap (λ (o : Option TraceLine). option_map_or (names_file id) o false) (get_next on.lines line [])) ∙ none)))
  where
    all : List TraceLine
    all = on.lines ++ line ∷ []

    given : (id : ℕ) → id < next_id root → next_id now ≢ id
    given id low is = let up = later.0 in omega (arith, low, up, is)

    none_all : (test : TraceLine → Bool) → list_any test (take (suc (length on.lines)) all) ≡ false → (list_any test on.lines ≡ false) × (test line ≡ false)
    none_all test none = none_last test on.lines line (sym (ap (list_any test) (take_all (suc (length on.lines)) all (let e = length-append on.lines (line ∷ []) in omega (arith, e)))) ∙ none)

    moved : {pages : Pages} {run : List DiskWrite} (earlier : List DiskWrite) (k sector : ℕ) (wanted : Wanted) (bytes : List ℕ) → mid.writes ≡ Some earlier → slice_get done.wrote.writes k ≡ Some (write.Page sector wanted bytes)
        → (wrote : Wrote pages run mid t new) → IsDirty t wanted.id wanted.page ⊎ pages wanted.id wanted.page
    moved earlier k sector wanted bytes made at wrote =
        let same = same_list earlier wrote.writes done.wrote.writes made wrote.appended done.wrote.appended in
        wrote.of_dirty k sector wanted bytes (subst (λ (ws : List DiskWrite). slice_get ws k ≡ Some (write.Page sector wanted bytes)) (sym same) at)

    shown : (earlier : List DiskWrite) (k : ℕ) (w : DiskWrite) → mid.writes ≡ Some earlier → slice_get done.wrote.writes k ≡ Some w → OfShown (next_id root) all s hid (suc (length on.lines)) w
    shown earlier k (write.Whole sector label bytes) made at = tt
    shown earlier k (write.LabelOnly sector label) made at = tt
    shown earlier k (write.Page sector wanted bytes) made at = (
      λ none.
          let parts = none_all stores none in
          let first = on.quiet parts.0 in
          let next = done.quiet parts.1 in
          elim (moved earlier k sector wanted bytes made at next.1.wrote) [ inl dirty ↦ first.1.dirty wanted.id wanted.page dirty | inr own ↦ inr own ],
      λ id client low none is.
          let parts = none_all (maps_file id) none in
          let first = on.apart id client low parts.0 is in
          let next = done.apart id client (given id low) parts.1 first.0 in
          elim (moved earlier k sector wanted bytes made at next.1.1.wrote) [ inl dirty ↦ first.1.1.dirty wanted.id wanted.page dirty | inr other ↦ inr other ],
    )

pub lines_more : {a b c : Option (List ℕ)} {p q : Progress} {root now : Root} {line : TraceLine} {old mid new : DiskState} {s t u : Slots} {hid mids hides : ℕ → Type 0} → SparedLines a b p root old s mid t hid mids
    → p.stopped ≡ None → TakesLine line b c p q → is_last line ≡ false → IsMonotone root now → LineDone now line mid t new u mids hides → SparedLines a c q root old s new u hid hides
lines_more {a = a} {b = b} {c = c} {p = p} {q = q} {root = root} {now = now} {line = line} on none takes goes later done = record {
  lines = on.lines ++ line ∷ [];
  read = HasRead-line a b c p q on.lines line on.read none takes goes;
  spares = λ id client low free.
      let parts = none_last (names_file id) on.lines line free in
      spares_then (on.spares id client low parts.0) (done.spares id client (λ is. let up = later.0 in omega (arith, low, up, is)) parts.1);
  quiet = λ free.
      let parts = none_last stores on.lines line free in
      let first = on.quiet parts.0 in
      let next = done.quiet parts.1 in
      (first.0 ++ next.0, makes_then first.1 next.1);
  apart = λ id client low free is.
      let parts = none_last (maps_file id) on.lines line free in
      let first = on.apart id client low parts.0 is in
      let next = done.apart id client (λ same. let up = later.0 in omega (arith, low, up, same)) parts.1 first.0 in
      (next.0, (first.1.0 ++ next.1.0, makes_then first.1.1 next.1.1));
  in_parts = line_in_parts on later done;
}

-- where what was hidden is said otherwise
pub lines_hide : {a c : Option (List ℕ)} {q : Progress} {root : Root} {old new : DiskState} {s t : Slots} {hid some hides : ℕ → Type 0} → ((id : ℕ) → some id → hides id)
    → SparedLines a c q root old s new t hid some → SparedLines a c q root old s new t hid hides
lines_hide too on = record {
  lines = on.lines;
  read = on.read;
  spares = on.spares;
  quiet = on.quiet;
  apart = λ id client low free is. let all = on.apart id client low free is in (too id all.0, all.1);
  in_parts = on.in_parts;
}

-- the same session under another name
pub lines_same : {S : Type 0} (disk : S → DiskState) (slots : S → Slots) (hides : S → ℕ → Type 0) {s r : S} {a c : Option (List ℕ)} {q : Progress} {root : Root} {old : DiskState} {before : Slots} {hid : ℕ → Type 0} → r ≡ s
    → SparedLines a c q root old before (disk s) (slots s) hid (hides s) → SparedLines a c q root old before (disk r) (slots r) hid (hides r)
lines_same disk slots hides {a = a} {c = c} {q = q} {root = root} {old = old} {before = before} {hid = hid} same on = subst (λ z. SparedLines a c q root old before (disk z) (slots z) hid (hides z)) (sym same) on

pub lines_source : {a c : Option (List ℕ)} {q : Progress} {root : Root} {old new : DiskState} {s t : Slots} {hid hides : ℕ → Type 0} {x : List ℕ} → a ≡ Some x → SparedLines a c q root old s new t hid hides
    → SparedLines (Some x) c q root old s new t hid hides
lines_source {c = c} {q = q} {root = root} {old = old} {new = new} {s = s} {t = t} {hid = hid} {hides = hides} source on = subst (λ r. SparedLines r c q root old s new t hid hides) source on

-- of all lines of the trace
some_of : (lines more all : List TraceLine) → all ≡ lines ++ more → length lines ≤ length all
some_of lines more all are =
    let long = ap length are in
    let e = length-append lines more in
    omega (arith, long, e)

pub lines_run : {x : List ℕ} {c : Option (List ℕ)} {q : Progress} {root : Root} {old new : DiskState} {s t : Slots} {hid hides : ℕ → Type 0} → SparedLines (Some x) c q root old s new t hid hides → RunSpares root (reading x) old s new hid
lines_run {x = x} {c = c} {q = q} {root = root} on =
    let prefix = read_prefix x c q on.lines on.read in
    record {
      spares = λ id client low none. on.spares id client low (none_of (names_file id) on.lines prefix.0 (sym (ap (list_any (names_file id)) prefix.1) ∙ none)).0;
      quiet = λ none. let all = on.quiet (none_of stores on.lines prefix.0 (sym (ap (list_any stores) prefix.1) ∙ none)).0 in (all.0, all.1.wrote);
      apart = λ id client low none is.
          let all = on.apart id client low (none_of (maps_file id) on.lines prefix.0 (sym (ap (list_any (maps_file id)) prefix.1) ∙ none)).0 is in
          (all.1.0, all.1.1.wrote);
      in_parts = spares_longer (next_id root) on.lines prefix.0 (reading x) (suc (length (reading x))) prefix.1 (let few = some_of on.lines prefix.0 (reading x) prefix.1 in omega (arith, few)) on.in_parts;
    }

-- writes of an end, as a call that leaves the frames alone
end_makes : {root : Root} {a b : DiskState} {s : Slots} (wrote : WroteOn root s a b) → Makes volume_page wrote.labels a s b s
end_makes wrote = record { went = wrote.went; dirty = λ id page is. inl is; wrote = wrote.wrote; count = refl }

-- pages of the volume's own are other files'
pub own_other : (id : ℕ) → 16 ≤ id → (file page : ℕ) → volume_page file page → other_file id file page
own_other id client file page own = λ is. omega (arith, own, client, is)

-- the part after the lines that were read
end_in_parts : {a b : Option (List ℕ)} {p : Progress} {root now : Root} {old mid new : DiskState} {s t : Slots} {hid hides : ℕ → Type 0} (on : SparedLines a b p root old s mid t hid hides) (more all : List TraceLine) → all ≡ on.lines ++ more
    → ((d : List Sector) (w : DiskWrite) → NextMay (slice_get (on.lines ++ more) (length on.lines)) d w) → SparesAll mid new → WroteOn now t mid new → SparesInParts (next_id root) all (suc (length all)) old s new hid
end_in_parts {root = root} {old = old} {mid = mid} {new = new} {s = s} {hid = hid} on more all are may spares wrote =
    subst (λ (ls : List TraceLine). SparesInParts (next_id root) ls (suc (length ls)) old s new hid) (sym are)
    (spares_later (let few = some_of on.lines more (on.lines ++ more) refl in omega (arith, few))
    (spares_part (next_id root) (on.lines ++ more) (length on.lines) (suc (length on.lines)) (omega arith) (spares_longer (next_id root) on.lines more (on.lines ++ more) (length on.lines) refl (omega arith) on.in_parts)
    (record {
      writes = wrote.wrote.writes;
      appended = wrote.wrote.appended;
      each = λ d earlier k w revealed made at. ((wrote.wrote.permitted d k w revealed at, may (crash_state d wrote.wrote.writes k) w), shown k w at);
    })
    (λ id client low none. spares id client)))
  where
    shown : (k : ℕ) (w : DiskWrite) → slice_get wrote.wrote.writes k ≡ Some w → OfShown (next_id root) (on.lines ++ more) s hid (suc (length on.lines)) w
    shown k (write.Whole sector label bytes) at = tt
    shown k (write.LabelOnly sector label) at = tt
    shown k (write.Page sector wanted bytes) at = (
      λ none.
          let first = on.quiet (none_first stores on.lines more (suc (length on.lines)) (omega arith) none) in
          elim (wrote.wrote.of_dirty k sector wanted bytes at) [ inl dirty ↦ first.1.dirty wanted.id wanted.page dirty | inr own ↦ inr own ],
      λ id client low none is.
          let first = on.apart id client low (none_first (maps_file id) on.lines more (suc (length on.lines)) (omega arith) none) is in
          elim (wrote.wrote.of_dirty k sector wanted bytes at) [ inl dirty ↦ first.1.1.dirty wanted.id wanted.page dirty | inr own ↦ inr (own_other id client wanted.id wanted.page own) ],
    )

-- nothing comes after the lines
none_after : (lines : List TraceLine) (d : List Sector) (w : DiskWrite) → NextMay (slice_get (lines ++ []) (length lines)) d w
none_after lines d w = subst (λ (l : Option TraceLine). NextMay l d w) (sym (ap (λ (ls : List TraceLine). slice_get ls (length lines)) (append-nil lines) ∙ get_end lines)) tt

-- by how the trace ended
ended_in_parts : {x : List ℕ} {b : Option (List ℕ)} {p : Progress} {root now : Root} {old mid new : DiskState} {s t : Slots} {hid hides : ℕ → Type 0} (on : SparedLines (Some x) b p root old s mid t hid hides) (way : End) (c : Option (List ℕ)) (q : Progress)
    → EndsTrace way b c p q → (way ≡ end.Halt → RevealsSame mid new) → SparesAll mid new → WroteOn now t mid new → SparesInParts (next_id root) (reading x) (suc (length (reading x))) old s new hid
ended_in_parts {x = x} {b = b} {p = p} on end.Close c q ended same spares wrote =
    let all = HasRead-last (Some x) b c p q on.lines (Some call.Close) on.read ended.0 ended.1 refl in
    end_in_parts on (Some call.Close ∷ []) (reading x) all.items_are (λ d w. subst (λ (l : Option TraceLine). NextMay l d w) (sym (get_next on.lines (Some call.Close) [])) tt) spares wrote
ended_in_parts {x = x} {b = b} {p = p} {root = root} on end.Halt c q ended same spares wrote =
    let all = HasRead-last (Some x) b c p q on.lines (Some call.Halt) on.read ended.0 ended.1 refl in
    spares_rest (spares_longer (next_id root) on.lines (Some call.Halt ∷ []) (reading x) (suc (length (reading x))) all.items_are (let few = some_of on.lines (Some call.Halt ∷ []) (reading x) all.items_are in omega (arith, few)) on.in_parts) (same refl)
ended_in_parts {x = x} {b = b} {p = p} on end.Trace c q (inl ended) same spares wrote =
    let all = HasRead-end (Some x) b c p on.lines on.read ended.0 ended.1 ended.2 ended.3 in
    end_in_parts on [] (reading x) (all.items_are ∙ sym (append-nil on.lines)) (none_after on.lines) spares wrote
ended_in_parts {x = x} {b = b} {p = p} on end.Trace c q (inr ended) same spares wrote =
    let all = rw ended.0 at on.read.goes_on in
    end_in_parts on [] (reading x) (all.0.items_are ∙ sym (append-nil on.lines)) (none_after on.lines) spares wrote

-- and then the session ended
pub lines_end : {x : List ℕ} {b : Option (List ℕ)} {p : Progress} {root now : Root} {old mid new : DiskState} {s t : Slots} {hid hides : ℕ → Type 0} (way : End) (c : Option (List ℕ)) (q : Progress) → EndsTrace way b c p q → (way ≡ end.Halt → RevealsSame mid new)
    → SparedLines (Some x) b p root old s mid t hid hides → SparesAll mid new → WroteOn now t mid new → RunSpares root (reading x) old s new hid
lines_end {x = x} {b = b} {p = p} way c q ended same on all wrote =
    let prefix = read_prefix x b p on.lines on.read in
    record {
      spares = λ id client low none. spares_then (on.spares id client low (none_of (names_file id) on.lines prefix.0 (sym (ap (list_any (names_file id)) prefix.1) ∙ none)).0) (all id client);
      quiet = λ none.
          let first = on.quiet (none_of stores on.lines prefix.0 (sym (ap (list_any stores) prefix.1) ∙ none)).0 in
          (first.0 ++ wrote.labels, (makes_then first.1 (end_makes wrote)).wrote);
      apart = λ id client low none is.
          let first = (on.apart id client low (none_of (maps_file id) on.lines prefix.0 (sym (ap (list_any (maps_file id)) prefix.1) ∙ none)).0 is).1 in
          (first.0 ++ wrote.labels, (makes_then first.1 (makes_wider (other_file id) (own_other id client) (end_makes wrote))).wrote);
      in_parts = ended_in_parts on way c q ended same all wrote;
    }

-- and then nothing was written
wrote_still : {pages : Pages} {run : List DiskWrite} {old mid new : DiskState} {s : Slots} → Wrote pages run old s mid → RevealsSame mid new → Wrote pages run old s new
wrote_still wrote same = record {
  writes = wrote.writes;
  appended = appended_no_more wrote.writes wrote.appended same;
  form = wrote.form;
  permitted = wrote.permitted;
  labels = wrote.labels;
  of_dirty = wrote.of_dirty;
}

pub run_still : {root : Root} {lines : List TraceLine} {old mid new : DiskState} {s : Slots} {hid : ℕ → Type 0} → RunSpares root lines old s mid hid → RevealsSame mid new → RunSpares root lines old s new hid
run_still on same = record {
  spares = λ id client low none. spares_still (on.spares id client low none) same;
  quiet = λ none. let all = on.quiet none in (all.0, wrote_still all.1 same);
  apart = λ id client low none is. let all = on.apart id client low none is in (all.0, wrote_still all.1 same);
  in_parts = spares_rest on.in_parts same;
}
