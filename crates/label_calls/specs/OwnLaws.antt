-- Labels that are written over those of one file alone: calls in a row, calls that write no label without its page, and one
-- label over another that was read.
use Rattle.std.proofs.Common.{◌≡◌, ◌⊎◌, inl, inr, ℕ, zero, suc, ◌+◌, ◌<◌, Bool, true, false, List, [], ◌∷◌, ◌++◌, length, take, Some, None, Option, sym, ◌∙◌, ap, subst, arith}
use Rattle.std.specs.Prelude.{slice_get, option_map, filter, not}
use Rattle.std.proofs.lemmas.Bool.{true≢false}
use Rattle.std.proofs.lemmas.List.{append_cancel_left}
use Rattle.std.proofs.lemmas.Option.{same_Some, none-some}
use Rattle.labelled_disk.specs.declared.label.Label.{Label}
use Rattle.labelled_disk.specs.declared.disk.DiskWrite.{DiskWrite}
use Rattle.labelled_disk.specs.declared.disk.DiskWrite.TheVariants as write
use Rattle.labelled_disk.specs.Calls.{RevealsSame, RevealsWrite}
use Rattle.labelled_disk.specs.CrashState.{crash_state}
use Rattle.labelled_disk.specs.Runs.{growth, creation}
use Rattle.labelled_disk.specs.Sectors.{Sector}
use Rattle.labelled_disk.specs.State.{DiskState, HasLabel}
use Rattle.labelled_disk.specs.WriteRuns.{Appended, after_writes}
use Rattle.labelled_disk.proofs.WriteRunLemmas.{appended_none, appended_one, appended_then, crash_state-earlier, crash_state-later}
use Rattle.frame_pool.specs.Frames.{Slots}
use Rattle.swapper_kernel.specs.Goes.{Pages, Makes, is_page_write, no_page}
use Rattle.label_calls.specs.Labels.{MayHaveWritten}
use Rattle.label_calls.specs.Own.{RelabelsOwn}

-- each of these writes that is of a label without its page stands, where it is made, over a label of this identifier
abbrev pub AreOverOwn : ℕ → List Sector → List DiskWrite → Type 0
AreOverOwn id d writes =
    (k sector : ℕ) (label : Label) → slice_get writes k ≡ Some (write.LabelOnly sector label) → (s : Sector) → slice_get (crash_state d writes k) sector ≡ Some s → s.0.id ≡ id

-- the writes that were made are such
pub record WroteOwn (id : ℕ) (old new : DiskState) : Type 0 where
  pub writes : List DiskWrite
  pub appended : Appended writes old new
  pub over : (d : List Sector) (before : List DiskWrite) → old.contents ≡ Some d → old.writes ≡ Some before → AreOverOwn id d writes

pub revealed_after : {a b : DiskState} (writes : List DiskWrite) (before : List DiskWrite) → Appended writes a b → a.writes ≡ Some before → b.writes ≡ Some (before ++ writes)
revealed_after writes before appended was = appended.revealed ∙ ap (option_map (λ (earlier : List DiskWrite). earlier ++ writes)) was

pub relabels_own : {id : ℕ} {a b : DiskState} → WroteOwn id a b → RelabelsOwn id a b
relabels_own {id = id} wrote = record {
  own = λ d before writes revealed was now.
      subst (AreOverOwn id d) (append_cancel_left before wrote.writes writes (same_Some (before ++ wrote.writes) (before ++ writes) (sym (revealed_after wrote.writes before wrote.appended was) ∙ now))) (wrote.over d before revealed was);
}

appended_own : {id : ℕ} {a b : DiskState} (writes : List DiskWrite) → Appended writes a b → RelabelsOwn id a b → WroteOwn id a b
appended_own writes appended relabels = record {
  writes = writes;
  appended = appended;
  over = λ d before revealed was. relabels.own d before writes revealed was (revealed_after writes before appended was);
}

-- what a call says of its writes
pub wrote_own : {id : ℕ} {pages : Pages} {run : List DiskWrite} {a b : DiskState} {s t : Slots} → Makes pages run a s b t → RelabelsOwn id a b → WroteOwn id a b
wrote_own makes relabels = appended_own makes.wrote.writes makes.wrote.appended relabels

-- a place in two lists in a row
pub place_in : {X : Type 0} (xs ys : List X) (k : ℕ) (x : X) → slice_get (xs ++ ys) k ≡ Some x
    → ((k < length xs) × (slice_get xs k ≡ Some x)) ⊎ ((j : ℕ) × (k ≡ length xs + j) × (slice_get ys j ≡ Some x))
place_in [] ys k x is = inr (k, let z : k ≡ 0 + k = omega arith in z, is)
place_in (y ∷ xs) ys zero x is = inl (omega arith, is)
place_in (y ∷ xs) ys (suc k) x is = elim (place_in xs ys k x is) [
  | inl (below, here) ↦ inl (omega arith, here)
  | inr (j, past, here) ↦ inr (j, let z : suc k ≡ suc (length xs) + j = omega arith in z, here)
]

-- writes in a row
pub over_then : (id : ℕ) (d : List Sector) (first next : List DiskWrite) → AreOverOwn id d first → AreOverOwn id (after_writes first d) next → AreOverOwn id d (first ++ next)
over_then id d first next one more k sector label at s here = elim (place_in first next k (write.LabelOnly sector label) at) [
  | inl (below, there) ↦ one k sector label there s (sym (ap (λ (l : List Sector). slice_get l sector) (crash_state-earlier d first next k (omega (arith, below)))) ∙ here)
  | inr (j, past, there) ↦ more j sector label there s (sym (ap (λ (l : List Sector). slice_get l sector) (ap (crash_state d (first ++ next)) past ∙ crash_state-later d first next j)) ∙ here)
]

-- one call, and then another
pub own_then : {id : ℕ} {a b c : DiskState} → WroteOwn id a b → WroteOwn id b c → WroteOwn id a c
own_then {id = id} one more = record {
  writes = one.writes ++ more.writes;
  appended = appended_then one.writes more.writes one.appended more.appended;
  over = λ d before revealed was. over_then id d one.writes more.writes (one.over d before revealed was)
      (more.over (after_writes one.writes d) (before ++ one.writes) (one.appended.contents ∙ ap (option_map (after_writes one.writes)) revealed) (revealed_after one.writes before one.appended was));
}

-- the write is of a label without its page
abbrev is_label_write : DiskWrite → Bool
is_label_write (write.Whole sector label bytes) = false
is_label_write (write.LabelOnly sector label) = true
is_label_write (write.Page sector wanted bytes) = false

-- each label is written with its page
abbrev pub AreWhole : List DiskWrite → Type 0
AreWhole [] = Unit {0}
AreWhole (write.Whole sector label bytes ∷ run) = AreWhole run
AreWhole (write.LabelOnly sector label ∷ run) = ⊥
AreWhole (write.Page sector wanted bytes ∷ run) = AreWhole run

pub none_alone : (run : List DiskWrite) → AreWhole run → (k sector : ℕ) (label : Label) → slice_get run k ≡ Some (write.LabelOnly sector label) → ⊥
none_alone [] whole k sector label at = none-some (write.LabelOnly sector label) at
none_alone (write.Whole i l bytes ∷ run) whole zero sector label at = true≢false (ap is_label_write (sym (same_Some (write.Whole i l bytes) (write.LabelOnly sector label) at)))
none_alone (write.Whole i l bytes ∷ run) whole (suc k) sector label at = none_alone run whole k sector label at
none_alone (write.LabelOnly i l ∷ run) whole k sector label at = whole
none_alone (write.Page i w bytes ∷ run) whole zero sector label at = true≢false (ap is_label_write (sym (same_Some (write.Page i w bytes) (write.LabelOnly sector label) at)))
none_alone (write.Page i w bytes ∷ run) whole (suc k) sector label at = none_alone run whole k sector label at

-- where the writes of labels are such, so are all writes
pub whole_among : (writes : List DiskWrite) → AreWhole (filter (λ w. not (is_page_write w)) writes) → AreWhole writes
whole_among [] whole = tt
whole_among (write.Whole i l bytes ∷ writes) whole = whole_among writes whole
whole_among (write.LabelOnly i l ∷ writes) whole = absurd whole
whole_among (write.Page i w bytes ∷ writes) whole = whole_among writes whole

-- a call that wrote labels with their pages alone
pub whole_own : (id : ℕ) {pages : Pages} {run : List DiskWrite} {a b : DiskState} {s t : Slots} → AreWhole run → Makes pages run a s b t → WroteOwn id a b
whole_own id whole makes = record {
  writes = makes.wrote.writes;
  appended = makes.wrote.appended;
  over = λ d before revealed was k sector label at s here. absurd (none_alone makes.wrote.writes (whole_among makes.wrote.writes (subst AreWhole (sym makes.wrote.labels) whole)) k sector label at);
}

-- a call that wrote no label
pub quiet_own : (id : ℕ) {pages : Pages} {a b : DiskState} {s t : Slots} → Makes pages [] a s b t → WroteOwn id a b
quiet_own id makes = whole_own id tt makes

pub same_own : (id : ℕ) {a b : DiskState} → RevealsSame a b → WroteOwn id a b
same_own id same = record { writes = []; appended = appended_none same; over = λ d before revealed was k sector label at s here. absurd (none-some (write.LabelOnly sector label) at) }

-- the first of such writes are such
pub first_whole : (n : ℕ) (run : List DiskWrite) → AreWhole run → AreWhole (take n run)
first_whole zero run whole = tt
first_whole (suc n) [] whole = tt
first_whole (suc n) (write.Whole i l bytes ∷ run) whole = first_whole n run whole
first_whole (suc n) (write.LabelOnly i l ∷ run) whole = absurd whole
first_whole (suc n) (write.Page i w bytes ∷ run) whole = first_whole n run whole

-- pages that are made are written with their labels
pub growth_whole : (id kind page : ℕ) (is : List ℕ) → AreWhole (growth id kind page is)
growth_whole id kind page [] = tt
growth_whole id kind page (i ∷ is) = growth_whole id kind (page + 1) is

pub creation_whole : (id kind leader : ℕ) (is : List ℕ) → AreWhole (creation id kind leader is)
creation_whole id kind leader is = growth_whole id kind 0 is

-- one label, over another of this identifier
pub one_over : (id sector : ℕ) (label : Label) (d : List Sector) → ((s : Sector) → slice_get d sector ≡ Some s → s.0.id ≡ id) → AreOverOwn id d (write.LabelOnly sector label ∷ [])
one_over id sector label d own zero place next at s here = own s (ap (slice_get d) (place_is (same_Some _ _ at)) ∙ here)
  where
    sector_in : DiskWrite → ℕ
    sector_in (write.Whole i l bytes) = i
    sector_in (write.LabelOnly i l) = i
    sector_in (write.Page i w bytes) = i

    place_is : write.LabelOnly sector label ≡ write.LabelOnly place next → sector ≡ place
    place_is same = ap sector_in same
one_over id sector label d own (suc k) place next at s here = absurd (none-some (write.LabelOnly place next) at)

-- a label that was read
read_id : {id : ℕ} {found : Label} (o : Option Sector) → option_map (λ s. s.0) o ≡ Some found → found.id ≡ id → (s : Sector) → o ≡ Some s → s.0.id ≡ id
read_id None there is s here = absurd (none-some s here)
read_id {id = id} {found = found} (Some x) there is s here =
    ap (λ (l : Label). l.id) (ap (λ (z : Sector). z.0) (sym (same_Some x s here)) ∙ same_Some x.0 found there) ∙ is

-- A label was read and found to be of this identifier. One was written over it, or nothing was.
pub read_own : {id : ℕ} {a b c : DiskState} (sector : ℕ) (found label : Label) → HasLabel a sector found → found.id ≡ id → RevealsSame a b → RevealsSame b c ⊎ RevealsWrite (write.LabelOnly sector label) b c → RelabelsOwn id a c
read_own {id = id} sector found label there is same (inl nothing) = relabels_own (own_then (same_own id same) (same_own id nothing))
read_own {id = id} sector found label there is same (inr made) = relabels_own (record {
  writes = write.LabelOnly sector label ∷ [];
  appended = appended_then [] (write.LabelOnly sector label ∷ []) (appended_none same) (appended_one (write.LabelOnly sector label) made);
  over = λ d before revealed was. one_over id sector label d (read_id (slice_get d sector) (there d revealed) is);
})

-- a page was written with its label, or nothing was
pub fresh_own : (id : ℕ) {a b c : DiskState} (sector : ℕ) (label : Label) (bytes : List ℕ) → RevealsSame a b → RevealsSame b c ⊎ RevealsWrite (write.Whole sector label bytes) b c → RelabelsOwn id a c
fresh_own id sector label bytes same (inl nothing) = relabels_own (own_then (same_own id same) (same_own id nothing))
fresh_own id sector label bytes same (inr made) = relabels_own (record {
  writes = write.Whole sector label bytes ∷ [];
  appended = appended_then [] (write.Whole sector label bytes ∷ []) (appended_none same) (appended_one (write.Whole sector label bytes) made);
  over = λ d before revealed was k place next at s here. absurd (none_alone (write.Whole sector label bytes ∷ []) tt k place next at);
})

-- a write that may have been made
pub may_own : {id : ℕ} {w : DiskWrite} {a b : DiskState} {slots : Slots} → MayHaveWritten w a slots b → RelabelsOwn id a b → WroteOwn id a b
may_own (inl nothing) relabels = wrote_own nothing relabels
may_own (inr made) relabels = wrote_own made relabels

-- a write that may have been made, and what it was made over
pub relabelled : {had : Type 0} {w : DiskWrite} {a b : DiskState} {slots : Slots} → Makes no_page [] a slots b slots ⊎ (had × MayHaveWritten w a slots b) → MayHaveWritten w a slots b
relabelled (inl nothing) = inl nothing
relabelled (inr may) = may.1
