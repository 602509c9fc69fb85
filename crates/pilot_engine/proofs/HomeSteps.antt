-- What is seen after the last call of a step, and what it never blames: each page that a window shows is below the end of what its file is or was.
use Rattle.std.proofs.Common.{◌≡◌, inr, ℕ, zero, suc, ◌+◌, ◌^◌, ◌<◌, ◌≤◌, List, [], ◌∷◌, length, Some, Result, Ok, Err, sym, ◌∙◌, ap, subst, arith}
use Rattle.std.specs.Prelude.{IfErr, IfOk, MatchResult, OnOk, slice_get}
use Rattle.std.proofs.lemmas.Option.{same_Some}
use Rattle.labelled_disk.specs.declared.disk.Disk.{Ghosts}
use Rattle.labelled_disk.specs.declared.disk.DiskWrite.{DiskWrite}
use Rattle.labelled_disk.specs.declared.disk.DiskWrite.TheVariants.{Whole}
use Rattle.labelled_disk.specs.declared.evidence.Halt.{Halt}
use Rattle.labelled_disk.specs.declared.evidence.Halt.TheVariants as halt
use Rattle.labelled_disk.specs.Label.{page_label}
use Rattle.labelled_disk.specs.Runs.{growth, zero_bytes}
use Rattle.labelled_disk.specs.State.{DiskState}
use Rattle.frame_pool.specs.Frames.{Slots}
use Rattle.file_map.specs.FileMap.{Triples}
use Rattle.flat_machine.specs.declared.call.Reply.{Reply}
use Rattle.flat_machine.specs.declared.call.Reply.TheVariants.{Done}
use Rattle.flat_machine.specs.declared.space.Space.{Space}
use Rattle.flat_machine.specs.Machine.{IsSpace}
use Rattle.flat_machine.specs.Space.{space_at}
use Rattle.flat_machine.specs.Spaces.{AreSpaces}
use Rattle.flat_machine.proofs.Lists.{all_in, looked_up}
use Rattle.swap_units.specs.declared.interval.Interval.{Interval}
use Rattle.swapper_kernel.specs.Goes.{Makes, Pages, no_page}
use Rattle.swapper_kernel.specs.Homes.{IsLayout}
use Rattle.volume_root.specs.declared.root.Root.{Root}
use Rattle.file_manager.specs.Creating.{NewMade, next_id}
use Rattle.file_manager.specs.LaterLaws.{made_now}
use Rattle.file_manager.specs.Reasons.{IsOfFile, IsSince, KeepsTo, NamesTables, InitialState, WasBelow, telling}
use Rattle.file_manager.specs.RevealedLaws.{keeps_telling, tables_of}
use Rattle.fault_core.specs.declared.core_over.Core.{Core}
use Rattle.fault_core.specs.Lack.{MissesPage, Sees}
use Rattle.fault_core.specs.NeverBlames.{NeverBlamesTables}
use Rattle.filer_kernel.specs.View.{View, kept_by}
use Rattle.running_words.specs.Blameless.{NeverBlamesForm}
use Rattle.running_words.specs.BlamelessLaws.{never_blames_form}
use Rattle.space_calls.specs.FilesLaws.{for_files, map_for_files}
use Rattle.space_calls.specs.Mapping.{IsLastFrom}
use Rattle.space_calls.specs.Sees.{SeesFiles, SeesOn, StillOn, StillOnOr, StillSees}
use Rattle.pilot_engine.specs.Reasons.{IsBlameless, SeesHome}
use Rattle.pilot_engine.proofs.HomeLemmas.{file_later, files_blameless, home_on, home_still, of_file_later}
use Rattle.pilot_engine.proofs.ReasonSteps.{ViewKeepsOn}
use Rattle.fault_core.specs.Core.{state}

-- a fault of the disk reveals nothing
pub fault_blameless : (o : InitialState) (disk : DiskState) (e : Halt) → e ≡ halt.Disk → IsBlameless o disk e
fault_blameless o disk e is = subst (λ (x : Halt). IsBlameless o disk x) (sym is) (tt, tt)

-- ---- Calls on spaces.

module _ {D A : Type 0} {G : Ghosts D} (o : InitialState) (old new : Core D A G) {pages : Pages} {run : List DiskWrite}
    (makes : Makes pages run (state old).disk (state old).slots (state new).disk (state new).slots) where
  -- where each page that it may report as missing was one of what a file is or was
  blameless_after : (may : Pages) → ((id page : ℕ) → may id page → IsOfFile o (state old).disk id page) → (e : Halt) → NeverBlamesForm e → MissesPage may e → IsBlameless o (state new).disk e
  blameless_after may were e form misses = files_blameless o (state new).disk may
      (λ id page one. of_file_later o (state old).disk (state new).disk (file_later o makes) id page (were id page one)) e form misses

  -- and where windows show what was below the ends of their files before it
  pub on_or_blameless : {X : Type 0} (r : Result X Halt) → OnOk r (SeesFiles (WasBelow o (state old).disk) new) → IfErr r NeverBlamesTables
      → (may : Pages) → IfErr r (MissesPage may) → ((id page : ℕ) → may id page → IsOfFile o (state old).disk id page) → MatchResult r (λ _. SeesHome o new) (IsBlameless o (state new).disk)
  on_or_blameless (Ok x) seen right may misses were = home_on o old new makes seen
  on_or_blameless (Err e) seen right may misses were = blameless_after may were e (never_blames_form e right) misses

  -- where they show what windows showed
  pub still_or_blameless : {X : Type 0} (r : Result X Halt) → OnOk r (StillOn old new) → (SeesOn old → IfErr r NeverBlamesTables)
      → (may : Pages) → IfErr r (MissesPage may) → ((id page : ℕ) → may id page → WasBelow o (state old).disk id page) → SeesHome o old → MatchResult r (λ _. SeesHome o new) (IsBlameless o (state new).disk)
  still_or_blameless r still right may misses were seen = on_or_blameless r (for_files old new r still (WasBelow o (state old).disk) seen) (right (seen.0, seen.1.0)) may misses (λ id page one. inr (were id page one))

  -- and none but pages of the space tables are missing
  pub none_or_blameless : {X : Type 0} (r : Result X Halt) → OnOk r (StillOn old new) → (SeesOn old → IfErr r NeverBlamesTables) → IfErr r (MissesPage no_page) → SeesHome o old
      → MatchResult r (λ _. SeesHome o new) (IsBlameless o (state new).disk)
  none_or_blameless r still right misses seen = still_or_blameless r still right no_page misses (λ id page none. absurd none) seen

  -- or this file too from this page on, up to the last of the space, which was below the file's end if the answer is that it is done
  pub map_or_blameless : (space id page : ℕ) (r : Result Reply Halt) → IfOk r (λ reply. StillOnOr (λ ss file last. (reply ≡ Done) × (file ≡ id) × IsLastFrom ss space page last) old new)
      → (seen : SeesHome o old) → IfOk r (λ reply. reply ≡ Done → (last : ℕ) → IsLastFrom seen.0 space page last → WasBelow o (state old).disk id last)
      → (SeesOn old → IfErr r NeverBlamesTables) → IfErr r (MissesPage no_page) → MatchResult r (λ _. SeesHome o new) (IsBlameless o (state new).disk)
  map_or_blameless space id page r still seen was right misses =
      on_or_blameless r (given r (map_for_files old new space id page r still (WasBelow o (state old).disk) seen) was) (right (seen.0, seen.1.0)) no_page misses (λ file other none. absurd none)
    where
      given : (r : Result Reply Halt) → IfOk r (λ reply. (reply ≡ Done → (last : ℕ) → IsLastFrom seen.0 space page last → WasBelow o (state old).disk id last) → SeesFiles (WasBelow o (state old).disk) new)
          → IfOk r (λ reply. reply ≡ Done → (last : ℕ) → IsLastFrom seen.0 space page last → WasBelow o (state old).disk id last) → OnOk r (SeesFiles (WasBelow o (state old).disk) new)
      given (Ok reply) sees was = sees was
      given (Err e) sees was = tt

  -- or whatever spaces are seen before it, they are seen after it
  pub same_or_blameless : {X : Type 0} (r : Result X Halt) → MatchResult r (λ _. StillSees old new) (λ e. SeesOn old → IsBlameless o (state new).disk e) → SeesHome o old
      → MatchResult r (λ _. SeesHome o new) (IsBlameless o (state new).disk)
  same_or_blameless (Ok x) still seen = home_still o old new makes still seen
  same_or_blameless (Err e) never_blames seen = never_blames (seen.0, seen.1.0)

-- ---- A file is created.

-- the label of each page stands among the writes
growth_write : (id kind first : ℕ) (sectors : List ℕ) (k : ℕ) → k < length sectors → (sector : ℕ) × (slice_get (growth id kind first sectors) k ≡ Some (Whole sector (page_label id kind (first + k)) zero_bytes))
growth_write id kind first [] k below = absurd (omega (arith, below))
growth_write id kind first (i ∷ is) zero below = (i, ap (λ (n : ℕ). Some (Whole i (page_label id kind n) zero_bytes)) (omega arith))
growth_write id kind first (i ∷ is) (suc k) below =
    let later = growth_write id kind (first + 1) is k (omega (arith, below)) in
    (later.0, later.1 ∙ ap (λ (n : ℕ). Some (Whole later.0 (page_label id kind n) zero_bytes)) (omega arith))

-- each of its pages was given a sector
pub new_file : (o : InitialState) {a b : DiskState} {s t : Slots} (root : Root) (kind pages : ℕ) → IsSince o a → NewMade root kind pages a s b t → pages < 2 ^ 32 → (page : ℕ) → page < pages → WasBelow o b (next_id root) page
new_file o root kind pages since made small page below =
    let long = made.long in
    let at = growth_write (next_id root) kind 0 made.sectors page (omega (arith, below, long)) in
    let sector : ℕ = at.0 in
    let is = at.1 ∙ ap (λ (n : ℕ). Some (Whole sector (page_label (next_id root) kind n) zero_bytes)) (omega arith) in
    (page, omega arith, omega (arith, small, below), (sector, inr (kind, made_now o made.makes since (suc (suc page)) (Whole sector (page_label (next_id root) kind page) zero_bytes) is)))

-- the same spaces are seen where it keeps to another initial state, whatever bytes of the tables are revealed
pub same_given : (o later : InitialState) (v w : View) → IsLayout v.layout → (k : ViewKeepsOn o v)
    → ((b : List ℕ) → KeepsTo (telling o b) v.layout (kept_by v) v.disk v.slots k.0 → (named : Triples) × KeepsTo (telling later b) w.layout (kept_by w) w.disk w.slots named × (NamesTables k.0 → NamesTables named))
    → {kept : List Interval} {count : ℕ} (ss : List Space) → Sees v kept count ss → Sees w kept count ss
same_given o later v w is k call ss sees =
    let from = call sees.bytes (keeps_telling is v.runs sees.bytes sees.revealed k.1.0) in
    record { bytes = sees.bytes; revealed = tables_of later sees.bytes sees.revealed.count from.1; tables = sees.tables; cached = sees.cached }

-- a space has a page at least, so that its window shows no more pages of a file from its first one on than it has
pub last_within : (ss : List Space) → AreSpaces ss → (space : ℕ) (x : Space) → space_at ss space ≡ Some x → (pages : ℕ) → pages ≡ x.pages → (last : ℕ) → IsLastFrom ss space 0 last → last < pages
last_within ss are space x at pages long last (s, there, is) =
    let same : x ≡ s = same_Some x s (sym at ∙ there) in
    let some : 1 ≤ s.pages = (all_in (IsSpace ss) ss are.whole s (looked_up (λ t. t.handle) ss space s there).0).not_empty in
    let as_many : pages ≡ s.pages = long ∙ ap (λ (y : Space). y.pages) same in
    omega (arith, is, as_many, some)
