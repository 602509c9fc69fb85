-- What the parts of a run write: a start, lines, and an end.
use Rattle.std.proofs.Common.{◌≡◌, ◌⊎◌, inl, inr, ℕ, zero, suc, ◌+◌, ◌<◌, ◌≤◌, true, false, List, [], ◌∷◌, ◌++◌, length, take, Option, Some, None, refl, sym, ◌∙◌, ap, subst, arith, length-append}
use Rattle.std.specs.Prelude.{filter, not, option_map, slice_get}
use Rattle.std.proofs.lemmas.Bool.{true≢false}
use Rattle.std.proofs.lemmas.List.{append_cancel_left}
use Rattle.std.proofs.lemmas.Option.{none-some, same_Some}
use Rattle.labelled_disk.specs.declared.disk.DiskWrite.{DiskWrite}
use Rattle.labelled_disk.specs.declared.disk.DiskWrite.TheVariants as write
use Rattle.labelled_disk.specs.declared.label.Label.{Label}
use Rattle.labelled_disk.specs.CrashState.{crash_state}
use Rattle.labelled_disk.specs.Runs.{growth}
use Rattle.labelled_disk.specs.Sectors.{Sector}
use Rattle.labelled_disk.specs.State.{DiskState}
use Rattle.frame_pool.specs.Frames.{Slots}
use Rattle.flat_machine.specs.declared.call.Call.{Call}
use Rattle.flat_machine.specs.declared.call.Call.TheVariants as call
use Rattle.flat_machine.specs.After.{TraceLine}
use Rattle.labelled_disk.specs.Permitted.{Permitted}
use Rattle.labelled_disk.specs.WriteRuns.{Appended}
use Rattle.swapper_kernel.specs.Goes.{Pages, Wrote, is_page_write}
use Rattle.trace_io.specs.Reading.{is_last}
use Rattle.file_manager.specs.Creating.{counted, next_id}
use Rattle.volume_root.specs.declared.root.Root.{Root}
use Rattle.volume_root.specs.RootPage.{root_write}
use Rattle.running_words.specs.Session.{WroteIn}
use Rattle.pilot_engine.specs.Closing.{WroteOn}
use Rattle.pilot_engine.specs.Opening.{WroteFirst, in_use}
use Rattle.pilot_engine.specs.Writing.{CallMay, Written}
use Rattle.pilot_top.specs.LineWrites.{LineMay, StartMay}
use Rattle.pilot_top.specs.Parts.{InParts, LineWrote, NextMay, PartMay}
use Rattle.pilot_top.proofs.PartLemmas.{parts_one, parts_then, parts_wider}

-- ---- Lines.

pub get_first : (lines more : List TraceLine) (j : ℕ) → j < length lines → slice_get (lines ++ more) j ≡ slice_get lines j
get_first [] more j below = absurd (omega (arith, below))
get_first (line ∷ lines) more zero below = refl
get_first (line ∷ lines) more (suc j) below = get_first lines more j (omega (arith, below))

pub get_next : (lines : List TraceLine) (line : TraceLine) (more : List TraceLine) → slice_get (lines ++ line ∷ more) (length lines) ≡ Some line
get_next [] line more = refl
get_next (l ∷ lines) line more = get_next lines line more

pub get_end : (lines : List TraceLine) → slice_get lines (length lines) ≡ None
get_end [] = refl
get_end (line ∷ lines) = get_end lines

-- later lines change nothing of the parts before them
pub may_longer : (lines more : List TraceLine) (j : ℕ) (d : List Sector) (w : DiskWrite) → j ≤ length lines → PartMay lines j d w → PartMay (lines ++ more) j d w
may_longer lines more zero d w few may = may
may_longer lines more (suc j) d w few may = (may.0, subst (λ (line : Option TraceLine). NextMay line d w) (sym (get_first lines more j (omega (arith, few)))) may.1)

-- some first lines of a trace
pub parts_of_trace : (lines more all : List TraceLine) (last : ℕ) {a b : DiskState} → all ≡ lines ++ more → length lines ≤ last → InParts (PartMay lines) (length lines) a b → InParts (PartMay all) last a b
parts_of_trace lines more all last {a = a} {b = b} are le on =
    subst (λ (ls : List TraceLine). InParts (PartMay ls) last a b) (sym are)
    (parts_wider (PartMay lines) (PartMay (lines ++ more)) (length lines) last le (λ j d w few may. may_longer lines more j d w few may) on)

-- a line more
pub parts_line : (lines : List TraceLine) (line : TraceLine) {a b c : DiskState} → InParts (PartMay lines) (length lines) a b → LineWrote line b c → InParts (PartMay (lines ++ line ∷ [])) (length (lines ++ line ∷ [])) a c
parts_line lines line {a = a} {b = b} {c = c} on wrote =
    let may = PartMay (lines ++ line ∷ []) in
    let next : Written (may (suc (length lines))) b c = record {
      writes = wrote.writes;
      appended = wrote.appended;
      each = λ d earlier k w revealed made at.
          let is = wrote.each d earlier k w revealed made at in
          (is.0, subst (λ (l : Option TraceLine). NextMay l (crash_state d wrote.writes k) w) (sym (get_next lines line [])) is.1);
    } in
    subst (λ (n : ℕ). InParts may n a c) (let e = length-append lines (line ∷ []) in omega (arith, e))
    (parts_then may (length lines) (suc (length lines)) (parts_of_trace lines (line ∷ []) (lines ++ line ∷ []) (length lines) refl (omega arith) on) (parts_one may (suc (length lines)) next) (λ n. omega arith))

-- the end of a trace, where nothing or a `close` comes after these lines
pub parts_end : (lines more all : List TraceLine) {root : Root} {a b c : DiskState} {before : Slots} → all ≡ lines ++ more → ((d : List Sector) (w : DiskWrite) → NextMay (slice_get all (length lines)) d w)
    → InParts (PartMay lines) (length lines) a b → WroteOn root before b c → InParts (PartMay all) (suc (length lines)) a c
parts_end lines more all {b = b} {c = c} are may on wrote =
    let next : Written (PartMay all (suc (length lines))) b c = record {
      writes = wrote.wrote.writes;
      appended = wrote.wrote.appended;
      each = λ d earlier k w revealed made at. (wrote.wrote.permitted d k w revealed at, may (crash_state d wrote.wrote.writes k) w);
    } in
    parts_then (PartMay all) (length lines) (suc (length lines)) (parts_of_trace lines more all (length lines) are (omega arith) on) (parts_one (PartMay all) (suc (length lines)) next) (λ n. omega arith)

-- ---- What a call writes.

line_may : (c : Call) (d : List Sector) (w : DiskWrite) → is_last (Some c) ≡ false → (root : Root) × CallMay (next_id root) (counted root) c d w → LineMay (Some c) d w
line_may call.Close d w more may = absurd (true≢false more)
line_may call.Halt d w more may = absurd (true≢false more)
line_may c d w more may = may

-- two lists of the writes between two states are the same
pub same_list : {a b : DiskState} (earlier one other : List DiskWrite) → a.writes ≡ Some earlier → Appended one a b → Appended other a b → one ≡ other
same_list earlier one other made first second =
    append_cancel_left earlier one other (same_Some (earlier ++ one) (earlier ++ other)
    (sym (first.revealed ∙ ap (option_map (λ (l : List DiskWrite). l ++ one)) made) ∙ (second.revealed ∙ ap (option_map (λ (l : List DiskWrite). l ++ other)) made)))

-- each write of one of them is permitted
pub permitted_there : {pages : Pages} {run : List DiskWrite} {a b : DiskState} {s : Slots} (wrote : Wrote pages run a s b) (other : List DiskWrite) → Appended other a b
    → (d : List Sector) (earlier : List DiskWrite) (k : ℕ) (w : DiskWrite) → a.contents ≡ Some d → a.writes ≡ Some earlier → slice_get other k ≡ Some w → Permitted (crash_state d other k) w
permitted_there wrote other appended d earlier k w revealed told at =
    subst (λ (ws : List DiskWrite). (j : ℕ) (v : DiskWrite) → slice_get ws j ≡ Some v → Permitted (crash_state d ws j) v) (same_list earlier wrote.writes other told wrote.appended appended) (λ j v there. wrote.permitted d j v revealed there) k w at

pub line_wrote : (root : Root) (c : Call) {pages : Pages} {a b : DiskState} {before after : Slots} → is_last (Some c) ≡ false → WroteIn pages a before b after → Written (CallMay (next_id root) (counted root) c) a b → LineWrote (Some c) a b
line_wrote root c more wrote allowed = record {
  writes = allowed.writes;
  appended = allowed.appended;
  each = λ d earlier k w revealed told at. (
    permitted_there wrote.makes.wrote allowed.writes allowed.appended d earlier k w revealed told at,
    line_may c (crash_state d allowed.writes k) w more (root, allowed.each d earlier k w revealed told at),
  );
}

-- ---- What a start writes.

-- the labels among some writes are those of a start
abbrev AreOfStart : List DiskWrite → Type 0
AreOfStart [] = Unit {0}
AreOfStart (write.Whole sector label bytes ∷ ws) = ((sector ≡ 0) ⊎ (label.id ≡ 3)) × AreOfStart ws
AreOfStart (write.LabelOnly sector label ∷ ws) = ⊥
AreOfStart (write.Page sector wanted bytes ∷ ws) = AreOfStart ws

start_labels : (ws : List DiskWrite) → AreOfStart (filter (λ w. not (is_page_write w)) ws) → AreOfStart ws
start_labels [] are = tt
start_labels (write.Whole sector label bytes ∷ ws) are = (are.0, start_labels ws are.1)
start_labels (write.LabelOnly sector label ∷ ws) are = absurd are
start_labels (write.Page sector wanted bytes ∷ ws) are = start_labels ws are

start_take : (n : ℕ) (ws : List DiskWrite) → AreOfStart ws → AreOfStart (take n ws)
start_take zero ws are = tt
start_take (suc n) [] are = tt
start_take (suc n) (write.Whole sector label bytes ∷ ws) are = (are.0, start_take n ws are.1)
start_take (suc n) (write.LabelOnly sector label ∷ ws) are = absurd are
start_take (suc n) (write.Page sector wanted bytes ∷ ws) are = start_take n ws are

start_growth : (page : ℕ) (sectors : List ℕ) → AreOfStart (growth 3 0 page sectors)
start_growth page [] = tt
start_growth page (i ∷ sectors) = (inr refl, start_growth (page + 1) sectors)

-- one of them
start_whole : (ws : List DiskWrite) → AreOfStart ws → (k sector : ℕ) (label : Label) (bytes : List ℕ) → slice_get ws k ≡ Some (write.Whole sector label bytes) → (sector ≡ 0) ⊎ (label.id ≡ 3)
start_whole [] are k sector label bytes at = absurd (none-some _ at)
start_whole (write.Whole s l b ∷ ws) are zero sector label bytes at =
    let same = same_Some (write.Whole s l b) (write.Whole sector label bytes) at in
    let place : s ≡ sector = cc same in
    let named : l ≡ label = cc same in
    subst (λ (n : ℕ). (n ≡ 0) ⊎ (label.id ≡ 3)) place (subst (λ (x : Label). (s ≡ 0) ⊎ (x.id ≡ 3)) named are.0)
start_whole (write.Whole s l b ∷ ws) are (suc k) sector label bytes at = start_whole ws are.1 k sector label bytes at
start_whole (write.LabelOnly s l ∷ ws) are k sector label bytes at = absurd are
start_whole (write.Page s w b ∷ ws) are zero sector label bytes at = absurd (let same = same_Some (write.Page s w b) (write.Whole sector label bytes) at in cc same)
start_whole (write.Page s w b ∷ ws) are (suc k) sector label bytes at = start_whole ws are k sector label bytes at

start_only : (ws : List DiskWrite) → AreOfStart ws → (k sector : ℕ) (label : Label) → slice_get ws k ≡ Some (write.LabelOnly sector label) → ⊥
start_only [] are k sector label at = absurd (none-some _ at)
start_only (write.Whole s l b ∷ ws) are zero sector label at = let same = same_Some (write.Whole s l b) (write.LabelOnly sector label) at in absurd (cc same)
start_only (write.Whole s l b ∷ ws) are (suc k) sector label at = start_only ws are.1 k sector label at
start_only (write.LabelOnly s l ∷ ws) are k sector label at = are
start_only (write.Page s w b ∷ ws) are zero sector label at = let same = same_Some (write.Page s w b) (write.LabelOnly sector label) at in absurd (cc same)
start_only (write.Page s w b ∷ ws) are (suc k) sector label at = start_only ws are k sector label at

pub start_wrote : (lines : List TraceLine) {a b : DiskState} → WroteFirst a b → Written (PartMay lines 0) a b
start_wrote lines {a = a} {b = b} wrote = record {
  writes = wrote.wrote.writes;
  appended = wrote.wrote.appended;
  each = λ d earlier k w revealed told at. (wrote.wrote.permitted d k w revealed at, may k w at);
}
  where
    labels : AreOfStart wrote.wrote.writes
    labels = start_labels wrote.wrote.writes (subst AreOfStart (sym wrote.wrote.labels) (start_take wrote.count (root_write (in_use wrote.root) ∷ growth 3 0 0 wrote.sectors) (inl refl, start_growth 0 wrote.sectors)))

    may : (k : ℕ) (w : DiskWrite) → slice_get wrote.wrote.writes k ≡ Some w → StartMay w
    may k (write.Whole sector label bytes) at = start_whole wrote.wrote.writes labels k sector label bytes at
    may k (write.LabelOnly sector label) at = start_only wrote.wrote.writes labels k sector label at
    may k (write.Page sector wanted bytes) at = elim (wrote.wrote.of_dirty k sector wanted bytes at) [
      | inl dirty ↦ absurd (none-some _ dirty.has.is)
      | inr own ↦ own
    ]

-- the start, and then a session
pub parts_started : (lines : List TraceLine) (last : ℕ) {a b c : DiskState} → WroteFirst a b → InParts (PartMay lines) last b c → InParts (PartMay lines) last a c
parts_started lines last wrote on = parts_then (PartMay lines) 0 last (parts_one (PartMay lines) 0 (start_wrote lines wrote)) on (λ n. omega arith)

pub parts_refused : (lines : List TraceLine) (last : ℕ) {a b : DiskState} → WroteFirst a b → InParts (PartMay lines) last a b
parts_refused lines last wrote = parts_wider (PartMay lines) (PartMay lines) 0 last (omega arith) (λ j d w few may. may) (parts_one (PartMay lines) 0 (start_wrote lines wrote))
