-- The crash states of lines in a row.
use Rattle.std.proofs.Common.{◌≡◌, ◌⊎◌, ℕ, zero, suc, ◌+◌, ◌≤◌, List, [], ◌∷◌, ◌++◌, length, take, Some, None, refl, sym, ◌∙◌, ap, subst, arith, length-append}
use Rattle.std.proofs.lemmas.Option.{none-some, same_Some}
use Rattle.labelled_disk.specs.CrashState.{crash_state}
use Rattle.labelled_disk.specs.File.{File}
use Rattle.labelled_disk.specs.Root.{counter_of, serial_of}
use Rattle.labelled_disk.specs.Sectors.{Sector}
use Rattle.labelled_disk.specs.State.{DiskState}
use Rattle.pair_machine.specs.Pair.{Pair}
use Rattle.pair_machine.specs.declared.call.PairReply.{PairReply}
use Rattle.swapper_kernel.specs.Goes.{KeepsSyncs}
use Rattle.volume_root.specs.declared.root.Root.{Root}
use Rattle.volume_pair.specs.CrashStates.{ChangesFiles, CrashStatesOf, HasFilesHonestly, HasFilesInUse, IsSyncedNow, KeepsFiles, SyncedStatesOf, list_after}
use Rattle.volume_pair.specs.Kept.{IsRootOf}
use Rattle.volume_pair.proofs.CrashStateLemmas.{last_state, none_states, quiet_wider}
use Rattle.volume_pair.proofs.SyncedLemmas.{synced_after_quiet, synced_more, synced_then_quiet}
use Rattle.pair_session.specs.Lines.{Item, after_lines, next_line}
use Rattle.pair_session.specs.Pairs.{PairView, StandsFor}
use Rattle.pair_session.specs.Second.{EndsAfter, IsAfter, IsCopied}
use Rattle.pair_session.specs.Turn.{ChangesByLine}
use Rattle.pair_session.proofs.LeftLemmas.{left_files, of_counter, of_serial}
use Rattle.pair_session.proofs.LineLemmas.{after_more}

-- ---- First lines.

take_first : {X : Type 0} (k : ℕ) (xs ys : List X) → k ≤ length xs → take k (xs ++ ys) ≡ take k xs
take_first zero xs ys few = refl
take_first (suc k) [] ys few = absurd (omega (arith, few))
take_first (suc k) (x ∷ xs) ys few = ap (λ (l : List _). x ∷ l) (take_first k xs ys (omega (arith, few)))

take_all : {X : Type 0} (xs : List X) → take (length xs) xs ≡ xs
take_all [] = refl
take_all (x ∷ xs) = ap (λ (l : List _). x ∷ l) (take_all xs)

-- ---- The numbers of the volume.

-- in use, with the root's numbers, it is so with those of the sectors that it had
honest : (d : List Sector) (root : Root) → IsRootOf d root → (files : List File) (e : List Sector) → HasFilesInUse files root.serial root.counter e → HasFilesHonestly files (serial_of d) (counter_of d) e
honest d root is files e h = (
  record { files_are = h.0.files_are; right = h.0.right; same_serial = h.0.same_serial ∙ of_serial d root is; same_counter = h.0.same_counter ∙ of_counter d root is },
  λ closed. absurd (omega (arith, closed, h.1)),
)

honest_still : (d : List Sector) (root : Root) → IsRootOf d root → (files : List File) (e : List Sector) → HasFilesHonestly files root.serial root.counter e → HasFilesHonestly files (serial_of d) (counter_of d) e
honest_still d root is files e h = (
  record { files_are = h.0.files_are; right = h.0.right; same_serial = h.0.same_serial ∙ of_serial d root is; same_counter = h.0.same_counter ∙ of_counter d root is },
  h.1,
)

-- ---- Lines.

-- with the bound of its steps
abbrev bounded : {P : ℕ → List Sector → Type 0} {most : ℕ} {a b : DiskState} → CrashStatesOf P most a b → CrashStatesOf (λ k e. (k ≤ most) × P k e) most a b
bounded h = record {
  writes = h.writes;
  appended = h.appended;
  steps = h.steps;
  rise = h.rise;
  within = h.within;
  each = λ d k revealed. (h.within k, h.each d k revealed);
}

abbrev bounded_synced : {P : ℕ → List Sector → Type 0} {numbers : ℕ → Type 0} {most : ℕ} {a b : DiskState} → SyncedStatesOf P most numbers a b → SyncedStatesOf (λ k e. (k ≤ most) × P k e) most numbers a b
bounded_synced h = record { states = bounded h.states; synced = h.synced }

-- after the lines of such a list
at_list : (d : List Sector) (p : Pair) (e : List Sector) (xs ys : List Item) → ys ≡ xs → HasFilesHonestly (after_lines p xs).to (serial_of d) (counter_of d) e → HasFilesHonestly (after_lines p ys).to (serial_of d) (counter_of d) e
at_list d p e xs ys same h = subst (λ (l : List Item). HasFilesHonestly (after_lines p l).to (serial_of d) (counter_of d) e) (sym same) h

-- what each call of a pair so far has left in each crash state
abbrev pub KeepsEach : PairView → PairView → List Item → List Item → List PairReply → Type 0
KeepsEach v w lines items replies = (p : Pair) → StandsFor v p → (d : List Sector) → IsRootOf d v.volume.root → SyncedStatesOf (IsAfter d p lines) (length lines) (IsCopied items replies) v.to.disk w.to.disk

-- no line yet
pub keeps_none : (v : PairView) → KeepsEach v v [] [] []
keeps_none v p stands d is = record {
  states = none_states (record { contents = refl; writes = refl }) (λ e revealed. honest d v.volume.root is p.to e (left_files v.from v.to v.volume p stands e revealed));
  synced = λ j copied. absurd (none-some _ copied.1);
}

-- one line more
module _ (u v w : PairView) (items : List Item) (item : Item) (p : Pair) (d : List Sector) (is : IsRootOf d v.volume.root) where
  abbrev before : Pair
  before = after_lines p items

  early : (k : ℕ) (e : List Sector) → (k ≤ length items) × IsAfter d p items k e → IsAfter d p (items ++ item ∷ []) k e
  early k e h = at_list d p e (take k items) (take k (items ++ item ∷ [])) (take_first k items (item ∷ []) h.0) h.1

  late : (k : ℕ) (e : List Sector) → (k ≤ 1) × HasFilesInUse (list_after before.to (next_line before item).to k) v.volume.root.serial v.volume.root.counter e → IsAfter d p (items ++ item ∷ []) (length items + k) e
  late zero e h =
      let at : length items + 0 ≡ length items = omega arith in
      let same : take (length items + 0) (items ++ item ∷ []) ≡ items = ap (λ (n : ℕ). take n (items ++ item ∷ [])) at ∙ take_first (length items) items (item ∷ []) (omega arith) ∙ take_all items in
      at_list d p e items (take (length items + 0) (items ++ item ∷ [])) same (honest d v.volume.root is before.to e h.1)
  late (suc zero) e h =
      let at : length items + 1 ≡ length (items ++ item ∷ []) = omega (arith, length-append items (item ∷ [])) in
      let same : take (length items + 1) (items ++ item ∷ []) ≡ items ++ item ∷ [] = ap (λ (n : ℕ). take n (items ++ item ∷ [])) at ∙ take_all (items ++ item ∷ []) in
      at_list d p e (items ++ item ∷ []) (take (length items + 1) (items ++ item ∷ [])) same
      (subst (λ (q : Pair). HasFilesHonestly q.to (serial_of d) (counter_of d) e) (sym (after_more p items item)) (honest d v.volume.root is (next_line before item).to e h.1))
  late (suc (suc k)) e h = absurd (omega (arith, h.0))

  pub keeps_more : {numbers more : ℕ → Type 0} → KeepsSyncs u.to.disk v.to.disk → KeepsSyncs v.to.disk w.to.disk → SyncedStatesOf (IsAfter d p items) (length items) numbers u.to.disk v.to.disk → (next : ChangesByLine v w before item)
      → ((j : ℕ) → more j → numbers j ⊎ ((j ≡ length items) × IsSyncedNow w.to.disk × (next.steps (length next.writes) ≡ 1))) → SyncedStatesOf (IsAfter d p (items ++ item ∷ [])) (length (items ++ item ∷ [])) more u.to.disk w.to.disk
  keeps_more {more = more} kept kept_too first next last =
      let at : length items + 1 ≡ length (items ++ item ∷ []) = omega (arith, length-append items (item ∷ [])) in
      subst (λ (n : ℕ). SyncedStatesOf (IsAfter d p (items ++ item ∷ [])) n more u.to.disk w.to.disk) at (synced_more {R = IsAfter d p (items ++ item ∷ [])} kept kept_too (bounded_synced first) (bounded next) last early late)

  -- it ends with the list of before the line or of after it
  pub ends_more : (x : List Sector) → v.to.disk.contents ≡ Some x → ChangesByLine v w before item → EndsAfter d p (items ++ item ∷ []) (length items) (length (items ++ item ∷ [])) w.to.disk
  ends_more x revealed next y now =
      let last = last_state next x revealed in
      let n = next.steps (length next.writes) in
      let few = next.within (length next.writes) in
      let same : last.0 ≡ y = same_Some last.0 y (sym last.1 ∙ now) in (
        length items + n,
        omega arith,
        omega (arith, few, length-append items (item ∷ [])),
        subst (λ (e : List Sector). IsAfter d p (items ++ item ∷ []) (length items + n) e) same (late n last.0 (few, last.2)),
      )

-- with the last write of a line that was answered, the files are those after it
pub ends_with : (v w : PairView) (p : Pair) (item : Item) → StandsFor w (next_line p item) → w.volume.root ≡ v.volume.root → (e : List Sector) → w.to.disk.contents ≡ Some e → HasFilesInUse (list_after p.to (next_line p item).to 1) v.volume.root.serial v.volume.root.counter e
ends_with v w p item stands same e now = subst (λ (r : Root). HasFilesInUse (next_line p item).to r.serial r.counter e) same (left_files w.from w.to w.volume (next_line p item) stands e now)

-- a bad line changes nothing
pub keeps_bad : (v : PairView) (p : Pair) → StandsFor v p → ChangesByLine v v p None
keeps_bad v p stands = none_states (record { contents = refl; writes = refl }) (λ e revealed. left_files v.from v.to v.volume p stands e revealed)

-- ---- A start, an end, and the text.

-- the volume is closed after these lines
pub keeps_closed : (d : List Sector) (p : Pair) (root : Root) (lines : List Item) {numbers : ℕ → Type 0} {a b c : DiskState} → IsRootOf d root → KeepsSyncs a b → KeepsSyncs b c → SyncedStatesOf (IsAfter d p lines) (length lines) numbers a b
    → KeepsFiles (after_lines p lines).to root.serial root.counter b c → SyncedStatesOf (IsAfter d p lines) (length lines) numbers a c
keeps_closed d p root lines is kept kept_too first last =
    synced_then_quiet {R = IsAfter d p lines} kept kept_too first last (λ k e h. h)
    (λ k e h. at_list d p e lines (take (length lines) lines) (take_all lines) (honest_still d root is (after_lines p lines).to e h))

-- or was to be
pub ends_closed : (d : List Sector) (p : Pair) (root : Root) (lines : List Item) {b c : DiskState} → IsRootOf d root → (x : List Sector) → b.contents ≡ Some x → KeepsFiles (after_lines p lines).to root.serial root.counter b c
    → EndsAfter d p lines (length lines) (length lines) c
ends_closed d p root lines is x revealed keeps y now =
    let last = last_state keeps x revealed in
    let same : last.0 ≡ y = same_Some last.0 y (sym last.1 ∙ now) in (
      length lines,
      omega arith,
      omega arith,
      subst (λ (e : List Sector). IsAfter d p lines (length lines) e) same (at_list d p last.0 lines (take (length lines) lines) (take_all lines) (honest_still d root is (after_lines p lines).to last.0 last.2)),
    )

-- a pair was started before them
pub keeps_started : (d : List Sector) (p : Pair) (lines : List Item) {numbers : ℕ → Type 0} {a b c : DiskState} → KeepsSyncs a b → KeepsSyncs b c → KeepsFiles p.to (serial_of d) (counter_of d) a b → SyncedStatesOf (IsAfter d p lines) (length lines) numbers b c
    → SyncedStatesOf (IsAfter d p lines) (length lines) numbers a c
keeps_started d p lines kept kept_too first later = synced_after_quiet {R = IsAfter d p lines} kept kept_too first later (λ k e h. h) (λ k e h. h)

-- none was
pub keeps_start : (d : List Sector) (p : Pair) (lines : List Item) {a b : DiskState} → KeepsFiles p.to (serial_of d) (counter_of d) a b → SyncedStatesOf (IsAfter d p lines) 0 (IsCopied [] []) a b
keeps_start d p lines first = record { states = quiet_wider {Q = IsAfter d p lines} first (λ k e h. h); synced = λ j copied. absurd (none-some _ copied.1) }

-- it ends so by the lines of a text
pub ends_text : (d : List Sector) (p : Pair) (lines more text : List Item) (least most : ℕ) (disk : DiskState) → text ≡ lines ++ more → length lines ≤ most → EndsAfter d p lines least (length lines) disk → EndsAfter d p text least most disk
ends_text d p lines more text least most disk all few ends x now =
    let e = ends x now in
    let low = e.2 in
    (e.0, e.1, omega (arith, few, low), at_list d p x (take e.0 lines) (take e.0 text) (ap (λ (l : List Item). take e.0 l) all ∙ take_first e.0 lines more e.2) e.3)

-- they are the first lines of a text
pub keeps_text : (d : List Sector) (p : Pair) (lines more text : List Item) (most : ℕ) {numbers : ℕ → Type 0} {a b : DiskState} → text ≡ lines ++ more → length lines ≤ most → SyncedStatesOf (IsAfter d p lines) (length lines) numbers a b → SyncedStatesOf (IsAfter d p text) most numbers a b
keeps_text d p lines more text most all few h = record {
  states = record {
    writes = h.states.writes;
    appended = h.states.appended;
    steps = h.states.steps;
    rise = h.states.rise;
    within = λ k. let low = h.states.within k in omega (arith, few, low);
    each = λ x k revealed.
        let n = h.states.steps k in
        at_list d p (crash_state x h.states.writes k) (take n lines) (take n text) (ap (λ (l : List Item). take n l) all ∙ take_first n lines more (h.states.within k)) (h.states.each x k revealed);
  };
  synced = h.synced;
}

-- fewer numbers are asked for
pub keeps_fewer : {P : ℕ → List Sector → Type 0} {most : ℕ} {numbers fewer : ℕ → Type 0} {a b : DiskState} → ((j : ℕ) → fewer j → numbers j) → SyncedStatesOf P most numbers a b → SyncedStatesOf P most fewer a b
keeps_fewer few h = record { states = h.states; synced = λ j is. h.synced j (few j is) }
