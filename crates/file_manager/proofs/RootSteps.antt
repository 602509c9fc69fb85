-- The sector of the root, in each crash state of writes.
use Rattle.std.proofs.Common.{◌≡◌, ◌≢◌, inl, inr, ℕ, zero, suc, ◌+◌, ◌^◌, ◌<◌, ◌≤◌, Bool, true, false, List, [], ◌∷◌, ◌++◌, length, take, Option, Some, None, refl, sym, ◌∙◌, ap, subst, arith}
use Rattle.std.specs.Prelude.{slice_get, slice_set, option_map, filter, not, if◌then◌else◌}
use Rattle.std.specs.Option.{option_map_or}
use Rattle.std.proofs.lemmas.Bool.{true≢false}
use Rattle.std.proofs.lemmas.List.{append_cancel_left}
use Rattle.std.proofs.lemmas.Option.{same_Some, none-some, slice_get_within}
use Rattle.labelled_disk.specs.declared.label.Label.{Label}
use Rattle.labelled_disk.specs.declared.label.Wanted.{Wanted}
use Rattle.labelled_disk.specs.declared.disk.DiskWrite.{DiskWrite}
use Rattle.labelled_disk.specs.declared.disk.DiskWrite.TheVariants as write
use Rattle.labelled_disk.specs.Label.{names, root_label}
use Rattle.labelled_disk.specs.Permitted.{Permitted}
use Rattle.labelled_disk.specs.Layout.{first_data}
use Rattle.labelled_disk.specs.CrashState.{crash_state, written}
use Rattle.labelled_disk.specs.Root.{serial_of, counter_of, page_in, number_at}
use Rattle.labelled_disk.specs.Runs.{growth, creation, freeing}
use Rattle.labelled_disk.specs.Sectors.{Sector}
use Rattle.labelled_disk.specs.State.{DiskState}
use Rattle.labelled_disk.specs.WriteRuns.{Appended}
use Rattle.labelled_disk.proofs.Finds.{get_set_same, get_set_other}
use Rattle.frame_pool.specs.Frames.{Slots}
use Rattle.swapper_kernel.specs.Goes.{Pages, Makes, is_page_write}
use Rattle.volume_root.specs.declared.root.Root.{Root}
use Rattle.volume_root.specs.RootPage.{root_bytes, root_write}
use Rattle.volume_root.proofs.WrittenLemmas.{serial_read, counter_read}
use Rattle.file_manager.specs.Creating.{counted}
use Rattle.file_manager.specs.Roots.{RootStays, CountsOnce, RootCounts}
use Rattle.file_manager.proofs.RunStages.{there_is}

-- ---- Writes of other sectors.

-- no label of a root is written
abbrev pub AreNoRoots : List DiskWrite → Type 0
AreNoRoots [] = Unit {0}
AreNoRoots (write.Whole sector label bytes ∷ run) = (label.id ≢ 4) × AreNoRoots run
AreNoRoots (write.LabelOnly sector label ∷ run) = AreNoRoots run
AreNoRoots (write.Page sector wanted bytes ∷ run) = AreNoRoots run

-- where the writes of labels are none of a root, no write is
none_among : (writes : List DiskWrite) → AreNoRoots (filter (λ w. not (is_page_write w)) writes) → AreNoRoots writes
none_among [] none = tt
none_among (write.Whole i l bytes ∷ writes) none = (none.0, none_among writes none.1)
none_among (write.LabelOnly i l ∷ writes) none = none_among writes none
none_among (write.Page i w bytes ∷ writes) none = none_among writes none

pub first_none : (n : ℕ) (run : List DiskWrite) → AreNoRoots run → AreNoRoots (take n run)
first_none zero run none = tt
first_none (suc n) [] none = tt
first_none (suc n) (write.Whole i l bytes ∷ run) none = (none.0, first_none n run none.1)
first_none (suc n) (write.LabelOnly i l ∷ run) none = first_none n run none
first_none (suc n) (write.Page i w bytes ∷ run) none = first_none n run none

pub growth_none : (id kind page : ℕ) (is : List ℕ) → id ≢ 4 → AreNoRoots (growth id kind page is)
growth_none id kind page [] other = tt
growth_none id kind page (i ∷ is) other = (other, growth_none id kind (page + 1) is other)

pub freeing_none : (is : List ℕ) → AreNoRoots (freeing is)
freeing_none [] = tt
freeing_none (i ∷ is) = freeing_none is

-- data sectors are after the root
data_after : (n k : ℕ) → first_data n ≤ k → 0 < k
unfolding first_data
data_after n k from = omega (arith, from)

label_alone : (sector : ℕ) (label : Label) (d : List Sector) → 0 < sector → slice_get (written (write.LabelOnly sector label) d) 0 ≡ slice_get d 0
label_alone sector label d above = either (slice_get d sector)
  where
    either : (o : Option Sector) → slice_get (option_map_or (λ old. slice_set d sector (label, old.1)) o d) 0 ≡ slice_get d 0
    either None = refl
    either (Some old) = get_set_other d sector 0 (label, old.1) (λ same. omega (arith, same, above))

page_alone : (sector : ℕ) (wanted : Wanted) (bytes : List ℕ) (d : List Sector) → 0 < sector → slice_get (written (write.Page sector wanted bytes) d) 0 ≡ slice_get d 0
page_alone sector wanted bytes d above = either (slice_get d sector)
  where
    tested : (old : Sector) (b : Bool) → slice_get (if b then slice_set d sector (old.0, bytes) else d) 0 ≡ slice_get d 0
    tested old false = refl
    tested old true = get_set_other d sector 0 (old.0, bytes) (λ same. omega (arith, same, above))

    either : (o : Option Sector) → slice_get (option_map_or (λ (old : Sector). if names old.0 wanted then slice_set d sector (old.0, bytes) else d) o d) 0 ≡ slice_get d 0
    either None = refl
    either (Some old) = tested old (names old.0 wanted)

-- one permitted write
pub one_alone : (w : DiskWrite) (d : List Sector) → AreNoRoots (w ∷ []) → Permitted d w → slice_get (written w d) 0 ≡ slice_get d 0
one_alone (write.Whole sector label bytes) d none (inl root) = absurd (none.0 (ap (λ (l : Label). l.id) root.root_label))
one_alone (write.Whole sector label bytes) d none (inr fresh) = let above = data_after (length d) sector fresh.old.1.is_data in get_set_other d sector 0 (label, bytes) (λ same. omega (arith, same, above))
one_alone (write.LabelOnly sector label) d none is = label_alone sector label d (data_after (length d) sector is.old.1.is_data)
one_alone (write.Page sector wanted bytes) d none is = page_alone sector wanted bytes d is.not_root

-- each write is permitted where it is made
abbrev pub ArePermitted : List Sector → List DiskWrite → Type 0
ArePermitted d writes = (k : ℕ) (w : DiskWrite) → slice_get writes k ≡ Some w → Permitted (crash_state d writes k) w

permitted_rest : (w : DiskWrite) (writes : List DiskWrite) (d : List Sector) → ArePermitted d (w ∷ writes) → ArePermitted (written w d) writes
permitted_rest w writes d permitted k v at = permitted (suc k) v at

no_roots_first : (w : DiskWrite) (writes : List DiskWrite) → AreNoRoots (w ∷ writes) → AreNoRoots (w ∷ [])
no_roots_first (write.Whole i l bytes) writes none = (none.0, tt)
no_roots_first (write.LabelOnly i l) writes none = tt
no_roots_first (write.Page i w bytes) writes none = tt

no_roots_rest : (w : DiskWrite) (writes : List DiskWrite) → AreNoRoots (w ∷ writes) → AreNoRoots writes
no_roots_rest (write.Whole i l bytes) writes none = none.1
no_roots_rest (write.LabelOnly i l) writes none = none
no_roots_rest (write.Page i w bytes) writes none = none

-- writes in a row
pub all_alone : (writes : List DiskWrite) (d : List Sector) → AreNoRoots writes → ArePermitted d writes → (k : ℕ) → slice_get (crash_state d writes k) 0 ≡ slice_get d 0
all_alone [] d none permitted zero = refl
all_alone [] d none permitted (suc k) = refl
all_alone (w ∷ writes) d none permitted zero = refl
all_alone (w ∷ writes) d none permitted (suc k) =
    all_alone writes (written w d) (no_roots_rest w writes none) (permitted_rest w writes d permitted) k
    ∙ one_alone w d (no_roots_first w writes none) (permitted zero w refl)

revealed_writes : {a b : DiskState} (writes before more : List DiskWrite) → Appended writes a b → a.writes ≡ Some before → b.writes ≡ Some (before ++ more) → writes ≡ more
revealed_writes writes before more appended was now =
    append_cancel_left before writes more (same_Some (before ++ writes) (before ++ more) (sym (appended.revealed ∙ ap (option_map (λ (earlier : List DiskWrite). earlier ++ writes)) was) ∙ now))

-- a call that writes no root
pub root_stays : {pages : Pages} {run : List DiskWrite} {a b : DiskState} {s t : Slots} → AreNoRoots run → Makes pages run a s b t → RootStays a b
root_stays {a = a} none makes = record {
  stays = λ d before writes revealed was now k.
      let w = makes.wrote in
      let same = revealed_writes w.writes before writes w.appended was now in
      ap (λ (ws : List DiskWrite). slice_get (crash_state d ws k) 0) (sym same)
      ∙ all_alone w.writes d (none_among w.writes (subst AreNoRoots (sym w.labels) none)) (λ j v at. w.permitted d j v revealed at) k;
}

-- ---- A root that is written once, before all labels.

root_page_is : (root : Root) (d : List Sector) → 0 < length d → slice_get (slice_set d 0 (root_label, root_bytes root)) 0 ≡ Some (root_label, root_bytes root)
root_page_is root d some = get_set_same d 0 (root_label, root_bytes root) some

serial_same : (d e : List Sector) → slice_get e 0 ≡ slice_get d 0 → serial_of e ≡ serial_of d
serial_same d e same = ap (λ (o : Option Sector). number_at (page_in o) 16) same

counter_same : (d e : List Sector) → slice_get e 0 ≡ slice_get d 0 → counter_of e ≡ counter_of d
counter_same d e same = ap (λ (o : Option Sector). number_at (page_in o) 20) same

-- nothing is left to be counted
never_counts : (serial counter : ℕ) (d : List Sector) (writes : List DiskWrite) → serial_of d ≡ serial → counter_of d ≡ counter → (k : ℕ) → k ≡ length writes → ((j : ℕ) → slice_get (crash_state d writes j) 0 ≡ slice_get d 0)
    → ((j : ℕ) (w : DiskWrite) → slice_get writes j ≡ Some w → is_page_write w ≡ true) → CountsOnce serial counter d writes
never_counts serial counter d writes is_serial is_counter k same stays quiet = record {
  at = k;
  same_serial = λ j. serial_same d (crash_state d writes j) (stays j) ∙ is_serial;
  before = λ j below. counter_same d (crash_state d writes j) (stays j) ∙ is_counter;
  after = λ j above within. absurd (omega (arith, above, within, same));
  quiet = λ j w below at. quiet j w at;
}

-- the write of the root comes first
counts_here : (root : Root) (serial counter : ℕ) (d : List Sector) (writes : List DiskWrite) → 0 < length d → serial_of d ≡ serial → counter_of d ≡ counter → root.serial ≡ serial → root.counter ≡ counter + 1 → root.serial < 2 ^ 32 → root.counter < 2 ^ 32
    → ((j : ℕ) → slice_get (crash_state (written (root_write root) d) writes j) 0 ≡ slice_get (written (root_write root) d) 0) → CountsOnce serial counter d (root_write root ∷ writes)
counts_here root serial counter d writes some is_serial is_counter same_serial next fits_serial fits_counter stays = record {
  at = 0;
  same_serial = each;
  before = λ k below. none k below;
  after = λ k above within. after k above;
  quiet = λ k w below at. absurd (omega (arith, below));
}
  where
    new_serial : (j : ℕ) → serial_of (crash_state (written (root_write root) d) writes j) ≡ serial
    new_serial j = ap (λ (o : Option Sector). number_at (page_in o) 16) (stays j ∙ root_page_is root d some) ∙ serial_read root fits_serial ∙ same_serial

    each : (k : ℕ) → serial_of (crash_state d (root_write root ∷ writes) k) ≡ serial
    each zero = is_serial
    each (suc k) = new_serial k

    none : (k : ℕ) → k ≤ 0 → counter_of (crash_state d (root_write root ∷ writes) k) ≡ counter
    none zero below = is_counter
    none (suc k) below = absurd (omega (arith, below))

    after : (k : ℕ) → 0 < k → counter_of (crash_state d (root_write root ∷ writes) k) ≡ counter + 1
    after zero above = absurd (omega (arith, above))
    after (suc k) above = ap (λ (o : Option Sector). number_at (page_in o) 20) (stays k ∙ root_page_is root d some) ∙ counter_read root fits_counter ∙ next

-- a page is written first
counts_later : (serial counter : ℕ) (d : List Sector) (w : DiskWrite) (writes : List DiskWrite) → is_page_write w ≡ true → serial_of d ≡ serial → counter_of d ≡ counter → CountsOnce serial counter (written w d) writes → CountsOnce serial counter d (w ∷ writes)
counts_later serial counter d w writes page is_serial is_counter h = record {
  at = suc h.at;
  same_serial = each;
  before = before;
  after = after;
  quiet = quiet;
}
  where
    each : (k : ℕ) → serial_of (crash_state d (w ∷ writes) k) ≡ serial
    each zero = is_serial
    each (suc k) = h.same_serial k

    before : (k : ℕ) → k ≤ suc h.at → counter_of (crash_state d (w ∷ writes) k) ≡ counter
    before zero below = is_counter
    before (suc k) below = h.before k (omega (arith, below))

    after : (k : ℕ) → suc h.at < k → k ≤ length (w ∷ writes) → counter_of (crash_state d (w ∷ writes) k) ≡ counter + 1
    after zero above within = absurd (omega (arith, above))
    after (suc k) above within = h.after k (omega (arith, above)) (omega (arith, within))

    quiet : (k : ℕ) (v : DiskWrite) → k < suc h.at → slice_get (w ∷ writes) k ≡ Some v → is_page_write v ≡ true
    quiet zero v below at = subst (λ (x : DiskWrite). is_page_write x ≡ true) (same_Some w v at) page
    quiet (suc k) v below at = h.quiet k v (omega (arith, below)) at

abbrev after_first : List DiskWrite → List DiskWrite
after_first [] = []
after_first (w ∷ writes) = writes

abbrev is_whole : DiskWrite → Bool
is_whole (write.Whole sector label bytes) = true
is_whole (write.LabelOnly sector label) = false
is_whole (write.Page sector wanted bytes) = false

same_first : (v w : DiskWrite) (vs ws : List DiskWrite) → v ∷ vs ≡ w ∷ ws → v ≡ w
same_first v w vs ws same = same_Some v w (ap (λ (l : List DiskWrite). slice_get l 0) same)

none_first : (v : DiskWrite) (vs : List DiskWrite) → v ∷ vs ≡ [] → ⊥
none_first v vs same = none-some v (sym (ap (λ (l : List DiskWrite). slice_get l 0) same))

module _ (root : Root) (serial counter : ℕ) (same_serial : root.serial ≡ serial) (next : root.counter ≡ counter + 1) (fits_serial : root.serial < 2 ^ 32) (fits_counter : root.counter < 2 ^ 32) (rest : List DiskWrite) (none : AreNoRoots rest) where
  counts_run : (n : ℕ) (writes : List DiskWrite) (d : List Sector) → filter (λ w. not (is_page_write w)) writes ≡ take n (root_write root ∷ rest) → ArePermitted d writes → 0 < length d → serial_of d ≡ serial → counter_of d ≡ counter → CountsOnce serial counter d writes
  counts_run n [] d labels permitted some is_serial is_counter = never_counts serial counter d [] is_serial is_counter 0 refl (all_alone [] d tt permitted) (λ j w at. absurd (none-some w at))
  counts_run n (write.Page i w bytes ∷ writes) d labels permitted some is_serial is_counter =
      let stays = one_alone (write.Page i w bytes) d tt (permitted zero (write.Page i w bytes) refl) in
      let one = there_is d 0 some in
      let now = slice_get_within (written (write.Page i w bytes) d) 0 one.0 (stays ∙ one.1) in
      counts_later serial counter d (write.Page i w bytes) writes refl is_serial is_counter
      (counts_run n writes (written (write.Page i w bytes) d) labels (permitted_rest (write.Page i w bytes) writes d permitted) now
      (serial_same d (written (write.Page i w bytes) d) stays ∙ is_serial) (counter_same d (written (write.Page i w bytes) d) stays ∙ is_counter))
  counts_run zero (write.Whole i l bytes ∷ writes) d labels permitted some is_serial is_counter = absurd (none_first (write.Whole i l bytes) (filter (λ w. not (is_page_write w)) writes) labels)
  counts_run (suc n) (write.Whole i l bytes ∷ writes) d labels permitted some is_serial is_counter =
      let head : write.Whole i l bytes ≡ root_write root = same_first (write.Whole i l bytes) (root_write root) (filter (λ w. not (is_page_write w)) writes) (take n rest) labels in
      let tail : filter (λ w. not (is_page_write w)) writes ≡ take n rest = ap after_first labels in
      let nones = none_among writes (subst AreNoRoots (sym tail) (first_none n rest none)) in
      let after : ArePermitted (written (root_write root) d) writes = subst (λ (w : DiskWrite). ArePermitted (written w d) writes) head (permitted_rest (write.Whole i l bytes) writes d permitted) in
      subst (λ (w : DiskWrite). CountsOnce serial counter d (w ∷ writes)) (sym head)
      (counts_here root serial counter d writes some is_serial is_counter same_serial next fits_serial fits_counter (all_alone writes (written (root_write root) d) nones after))
  counts_run zero (write.LabelOnly i l ∷ writes) d labels permitted some is_serial is_counter = absurd (none_first (write.LabelOnly i l) (filter (λ w. not (is_page_write w)) writes) labels)
  counts_run (suc n) (write.LabelOnly i l ∷ writes) d labels permitted some is_serial is_counter =
      absurd (true≢false (ap is_whole (sym (same_first (write.LabelOnly i l) (root_write root) (filter (λ w. not (is_page_write w)) writes) (take n rest) labels))))

-- a call that writes the next root before all labels
pub root_counts : (root : Root) (rest : List DiskWrite) → AreNoRoots rest → root.serial < 2 ^ 32 → root.counter < 4294967295 → {pages : Pages} {a b : DiskState} {s t : Slots} (n : ℕ)
    → ((d : List Sector) → a.contents ≡ Some d → 0 < length d) → Makes pages (take n (root_write (counted root) ∷ rest)) a s b t → RootCounts root a b
root_counts root rest none serial counter n there makes = record {
  counts = λ d before writes revealed was now is_serial is_counter.
      let w = makes.wrote in
      let same = revealed_writes w.writes before writes w.appended was now in
      subst (CountsOnce root.serial root.counter d) same
      (counts_run (counted root) root.serial root.counter refl refl serial (omega (arith, counter)) rest none n w.writes d w.labels (λ k v at. w.permitted d k v revealed at) (there d revealed) is_serial is_counter);
}

pub creation_none : (id kind leader : ℕ) (is : List ℕ) → id ≢ 4 → AreNoRoots (creation id kind leader is)
creation_none id kind leader is other = (other, growth_none id kind 0 is other)
