-- The intervals of a range, one after the other.
use Rattle.std.proofs.Common.{◌≡◌, ◌⊎◌, inl, inr, ℕ, ◌+◌, ◌-◌, ◌*◌, ◌<◌, ◌≤◌, List, length, Some, refl, sym, ◌∙◌, ap, subst, arith}
use Rattle.std.specs.Prelude.{slice_get, find}
use Rattle.std.proofs.lemmas.Bool.{cases_lt, cases_eq}
use Rattle.std.proofs.lemmas.Option.{same_Some, none-some}
use Rattle.labelled_disk.specs.Sectors.{Sector}
use Rattle.labelled_disk.specs.declared.evidence.Halt.{Halt}
use Rattle.file_map.specs.FileMap.{Triples}
use Rattle.frame_pool.specs.ListLaws.{below_of}
use Rattle.flat_machine.specs.declared.space.Space.{Space}
use Rattle.flat_machine.specs.Space.{root_pages}
use Rattle.swap_units.specs.declared.interval.Interval.{Interval}
use Rattle.swap_units.specs.Unit.{Holds, has_page}
use Rattle.swapper_kernel.specs.Homes.{IsLayout}
use Rattle.swapper_kernel.specs.HaltLaws.{brings_itself, brings_then}
use Rattle.projection_laws.specs.Sight.{AreIntervals}
use Rattle.projection_laws.proofs.Finds.{firsts_are_ascending}
use Rattle.projection_laws.proofs.OneLemmas.{intervals_are_one}
use Rattle.space_tables.specs.Stored.{RevealSpaces}
use Rattle.fault_core.specs.declared.range.WriteBack.{WriteBack}
use Rattle.frame_pool.specs.Frames.{Slots}
use Rattle.fault_core.specs.declared.range.WriteBack.TheVariants.{Flush}
use Rattle.fault_core.specs.Kill.{BreaksWithin}
use Rattle.fault_core.specs.Lack.{Sees}
use Rattle.fault_core.specs.Range.{AreWrittenBack, IsNextPart, LeavesFrames}
use Rattle.fault_core.specs.Unit.{file_page}
use Rattle.fault_core.specs.Reach.{Reaches, ReachHalts, BringsOwn, StayOrYield}
use Rattle.fault_core.specs.Revealed.{BreaksTables, Revealed}
use Rattle.filer_kernel.specs.View.{View}
use Rattle.fault_core.proofs.AccessLemmas.{breaks_before}
use Rattle.fault_core.specs.Kept.{AreFormed}
use Rattle.fault_core.proofs.KeptLemmas.{find_is}
use Rattle.fault_core.proofs.ReachLemmas.{reaches_itself, reaches_then, halts_before}
use Rattle.fault_core.proofs.RestLemmas.{rests_stay, rest_then, rest_nowhere, leaves_same}
use Rattle.fault_core.proofs.ShowLemmas.{none_past}
use Rattle.fault_core.proofs.YieldLemmas.{yield_itself, yield_then}

-- all was passed, or each interval that has the page has at least so many before it
abbrev pub IsNotOlder : List Interval → ℕ → ℕ → ℕ → ℕ → Type 0
IsNotOlder xs count stop page k = (stop ≤ page) ⊎ ((k ≤ count) × ((j : ℕ) (x : Interval) → slice_get xs j ≡ Some x → Holds x page → k ≤ j))

-- after one of them is the next
pub ahead_next : (ss : List Space) (xs : List Interval) (count stop page k next : ℕ) → AreIntervals ss xs → length xs ≡ count → page < stop → IsNotOlder xs count stop page k → IsNextPart ss page stop next → IsNotOlder xs count stop next (k + 1)
ahead_next ss xs count stop page k next are counted below ahead part = elim ahead [
  | inl past ↦ absurd (omega (arith, past, below))
  | inr (few, after) ↦ elim part [
    | inl is ↦ inl (omega (arith, is))
    | inr (x, at, is) ↦
        let one : at.xs ≡ xs = intervals_are_one ss at.xs xs at.projection are in
        let there : slice_get xs at.index ≡ Some x = ap (λ (l : List Interval). slice_get l at.index) (sym one) ∙ at.there in
        let from = after at.index x there at.holds in
        let inside = below_of xs at.index x there in
        inr (
          omega (arith, from, inside, counted),
          λ j y here held. elim (cases_lt at.index j) [
            | inl later ↦ omega (arith, from, later)
            | inr not_later ↦ elim (cases_eq j at.index) [
              | inl same ↦
                  let same_one : y ≡ x = same_Some y x (sym here ∙ ap (slice_get xs) same ∙ there) in
                  let ends : y.first + y.pages ≡ x.first + x.pages = ap (λ (z : Interval). z.first + z.pages) same_one in
                  let low = held.1 in
                  absurd (omega (arith, low, ends, is))
              | inr other ↦
                  let earlier : j < at.index = omega (arith, not_later, other) in
                  let before = (firsts_are_ascending ss xs are).rises j at.index y x earlier here there in
                  let low = held.1 in
                  absurd (omega (arith, before, low, is))
            ]
          ],
        )
  ]
]

-- the intervals that the tables have
pub tables_are : {reveals : List ℕ → Type 0} {count : ℕ} {ss : List Space} (t : RevealSpaces reveals count ss) → AreIntervals ss t.xs
tables_are t = subst (λ (ss : List Space). AreIntervals ss t.xs) t.spaces t.right.intervals

more_cost : (k a b c d e : ℕ) → b ≡ a → c ≤ e + k * (196 + a) → d ≤ c + (196 + b) → d ≤ e + (k + 1) * (196 + a)
more_cost k a b c d e same low high =
    let product : (k + 1) * (196 + a) ≡ k * (196 + a) + (196 + a) = omega arith in
    omega (arith, same, low, high, product)

-- a range that one kept interval has ends in the root
ends_at : (kept : List Interval) (first pages stop : ℕ) (x : Interval) → AreFormed kept → find (has_page first) kept ≡ Some x → first + pages ≤ x.first + x.pages → stop ≤ first + pages
    → ((p : ℕ) → p < first + pages → p < root_pages → p < stop) → stop ≡ first + pages
ends_at kept first pages stop x formed found inside upto each =
    let is = find_is (has_page first) kept x found in
    let root = (formed is.0 x is.1).in_root in
    elim (cases_lt stop (first + pages)) [
      | inl less ↦ let below = each stop less (omega (arith, less, inside, root)) in absurd (omega (arith, below))
      | inr from ↦ omega (arith, from, upto)
    ]

-- in a range that one kept interval has, nothing was done, or all was, and other frames stayed
abbrev pub IsWritingBackIn : Interval → View → List Interval → WriteBack → ℕ → ℕ → View → List Interval → ℕ → Type 0
IsWritingBackIn x v kept write_back first stop w now page = ((page ≡ first) × (w.slots ≡ v.slots) × (now ≡ kept)) ⊎ ((stop ≤ page) × LeavesFrames write_back x.id (file_page x first) (stop - first) v.slots w.slots)

-- The pages from the first one on, up to this one, are flushed or evicted, after so many intervals.
pub record IsWritingBack (v : View) (kept : List Interval) (count : ℕ) (write_back : WriteBack) (first stop : ℕ) (w : View) (now : List Interval) (still page k : ℕ) : Type 0 where
  pub size : w.disk.sectors ≡ w.layout.sectors
  pub reaches : Reaches v w
  pub came : BringsOwn v.slots w.slots
  pub sees : (ss : List Space) → Sees v kept count ss → Sees w now still ss
  pub stay : write_back ≡ Flush → StayOrYield v.slots w.slots
  pub from : first ≤ page
  pub same_count : still ≡ count
  pub cost : w.disk.transfers ≤ v.disk.transfers + k * (196 + length v.slots)
  pub frames : (x : Interval) → find (has_page first) kept ≡ Some x → stop ≤ x.first + x.pages → IsWritingBackIn x v kept write_back first stop w now page
  pub revealed : (m : List Sector) (named : Triples) (ss : List Space) (h : Revealed v kept count m named ss) → Revealed w now still m named ss × AreWrittenBack write_back ss w.slots first page × IsNotOlder h.tables.xs count stop page k

pub writing_back_none : (v : View) (kept : List Interval) (count : ℕ) (write_back : WriteBack) (first stop : ℕ) → v.disk.sectors ≡ v.layout.sectors → IsWritingBack v kept count write_back first stop v kept count first 0
writing_back_none v kept count write_back first stop size = record {
  size = size;
  reaches = reaches_itself v;
  came = brings_itself (λ home. (1 ≤ home.id) × (home.id ≤ 3)) v.slots;
  sees = λ ss s. s;
  stay = λ is. yield_itself v.slots;
  from = omega arith;
  same_count = refl;
  cost = omega arith;
  frames = λ x found inside. inl (refl, refl, refl);
  revealed = λ m named ss h. (h, rest_nowhere write_back ss v.slots first, inr (omega arith, λ j x here held. omega arith));
}

module _ {v : View} {kept : List Interval} {count : ℕ} {write_back : WriteBack} {first stop : ℕ} {w : View} {now : List Interval} {still page k : ℕ} (is : IsLayout v.layout) (h : IsWritingBack v kept count write_back first stop w now still page k) where
  -- one part more
  resting_frames : (x : View) → page < stop → ((y : Interval) → find (has_page page) now ≡ Some y → stop ≤ y.first + y.pages → LeavesFrames write_back y.id (file_page y page) (stop - page) w.slots x.slots)
      → (y : Interval) → find (has_page first) kept ≡ Some y → stop ≤ y.first + y.pages → LeavesFrames write_back y.id (file_page y first) (stop - first) v.slots x.slots
  resting_frames x below frames y found inside = elim (h.frames y found inside) [
    | inl (same_page, same_slots, same_kept) ↦
        let now_found : find (has_page page) now ≡ Some y = rw (same_page, same_kept) found in
        let left = frames y now_found inside in
        subst (λ (p : ℕ). LeavesFrames write_back y.id (file_page y p) (stop - p) v.slots x.slots) same_page (subst (λ (s : Slots). LeavesFrames write_back y.id (file_page y page) (stop - page) s x.slots) same_slots left)
    | inr (past, left) ↦ absurd (omega (arith, past, below))
  ]

  module _ (formed : AreFormed kept) (pages : ℕ) (upto : stop ≤ first + pages) (each : (p : ℕ) → p < first + pages → p < root_pages → p < stop) where
    -- a part could not be brought to rest
    pub frames_stopped : (x : View) → page < stop → ((y : Interval) → find (has_page page) now ≡ Some y → stop ≤ y.first + y.pages → LeavesFrames write_back y.id (file_page y page) (stop - page) w.slots x.slots)
        → (y : Interval) → find (has_page first) kept ≡ Some y → first + pages ≤ y.first + y.pages → LeavesFrames write_back y.id (file_page y first) pages v.slots x.slots
    frames_stopped x below frames y found inside =
        let ends = ends_at kept first pages stop y formed found inside upto each in
        let all : stop - first ≡ pages = omega (arith, ends) in
        subst (λ (n : ℕ). LeavesFrames write_back y.id (file_page y first) n v.slots x.slots) all (resting_frames x below frames y found (omega (arith, ends, inside)))

    -- all was
    pub frames_done : (y : Interval) → find (has_page first) kept ≡ Some y → first + pages ≤ y.first + y.pages → LeavesFrames write_back y.id (file_page y first) pages v.slots w.slots
    frames_done y found inside =
        let ends = ends_at kept first pages stop y formed found inside upto each in
        let all : stop - first ≡ pages = omega (arith, ends) in
        elim (h.frames y found (omega (arith, ends, inside))) [
          | inl (same_page, same_slots, same_kept) ↦ leaves_same write_back y.id (file_page y first) pages v.slots w.slots same_slots
          | inr (past, left) ↦ subst (λ (n : ℕ). LeavesFrames write_back y.id (file_page y first) n v.slots w.slots) all left
        ]

  pub resting_more : (x : View) (later : List Interval) (left next : ℕ) → page < stop → page < next
      → ((m : List Sector) (named : Triples) (ss : List Space) → Revealed w now still m named ss → AreWrittenBack write_back ss x.slots page next)
      → ((m : List Sector) (named : Triples) (ss : List Space) → Revealed w now still m named ss → IsNextPart ss page stop next)
      → ((m : List Sector) (named : Triples) (ss : List Space) → Revealed w now still m named ss → Revealed x later left m named ss)
      → ((y : Interval) → find (has_page page) now ≡ Some y → stop ≤ y.first + y.pages → LeavesFrames write_back y.id (file_page y page) (stop - page) w.slots x.slots)
      → ((y : Interval) → find (has_page page) now ≡ Some y → stop ≤ y.first + y.pages → next ≡ stop) → (write_back ≡ Flush → StayOrYield w.slots x.slots)
      → ((ss : List Space) → Sees w now still ss → Sees x later left ss) → Reaches w x → BringsOwn w.slots x.slots → left ≡ still → x.disk.transfers ≤ w.disk.transfers + (196 + length w.slots) → IsWritingBack v kept count write_back first stop x later left next (k + 1)
  resting_more x later left next below further rest part same frames all stay next_sees next_reaches came same_left cost = record {
    size = next_reaches.goes.makes.went.sectors ∙ h.size ∙ ap (λ l. l.sectors) (sym next_reaches.layout);
    reaches = reaches_then v w is h.reaches x next_reaches;
    came = brings_then h.came came;
    sees = λ ss s. next_sees ss (h.sees ss s);
    stay = λ forced. yield_then (h.stay forced) (stay forced);
    from = let prefix = h.from in omega (arith, prefix, further);
    same_count = same_left ∙ h.same_count;
    cost = more_cost k (length v.slots) (length w.slots) w.disk.transfers x.disk.transfers v.disk.transfers h.reaches.goes.makes.count h.cost cost;
    frames = λ y found inside. inr (
      elim (h.frames y found inside) [
        | inl (same_page, same_slots, same_kept) ↦ let end = all y (rw (same_page, same_kept) found) inside in omega (arith, end)
        | inr (past, left) ↦ absurd (omega (arith, past, below))
      ],
      resting_frames x below frames y found inside,
    );
    revealed = λ m named ss revealed.
        let was = h.revealed m named ss revealed in (
          same m named ss was.0,
          rest_then write_back ss x.slots first page next (rests_stay was.0 next_reaches came write_back first page was.1) (rest m named ss was.0),
          ahead_next ss revealed.tables.xs count stop page k next (tables_are revealed.tables) revealed.tables.counted below was.2 (part m named ss was.0),
        );
  }

  pub resting_halt : (to : ℕ) → page < to → (x : View) (e : Halt) → ReachHalts (BreaksTables w still page) w x e → ReachHalts (BreaksWithin v count first to) v x e
  resting_halt to below x e halts =
      halts_before v w is h.reaches (BreaksTables w still page) (BreaksWithin v count first to)
      (λ broken breaks. record { asked = page; from = h.from; below = below; breaks = breaks_before v w h.reaches count still page broken h.same_count breaks }) x x (omega arith) e halts

  pub resting_stopped : (x : View) → Reaches w x → Reaches v x
  resting_stopped x next = reaches_then v w is h.reaches x next

  -- the last page up to this one, or of the root, is reached
  module _ (to : ℕ) (all : (p : ℕ) → p < to → p < root_pages → p < stop) where
    pub resting_done : stop ≤ page → (m : List Sector) (named : Triples) (ss : List Space) → Revealed v kept count m named ss → AreWrittenBack write_back ss w.slots first to
    resting_done past m named ss revealed p u from below shown = elim (cases_lt p page) [
      | inl prefix ↦ (h.revealed m named ss revealed).1 p u from prefix shown
      | inr after ↦ elim (cases_lt p root_pages) [
        | inl inside ↦ let before = all p below inside in absurd (omega (arith, before, past, after))
        | inr outside ↦ absurd (none-some u (sym (none_past revealed.tables p outside) ∙ shown))
      ]
    ]

    -- so many steps reach it
    pub resting_all : count < k → (m : List Sector) (named : Triples) (ss : List Space) → Revealed v kept count m named ss → AreWrittenBack write_back ss w.slots first to
    resting_all most m named ss revealed = elim (h.revealed m named ss revealed).2 [ inl past ↦ resting_done past m named ss revealed | inr (few, after) ↦ absurd (omega (arith, few, most)) ]

  more_steps : (i d a t u : ℕ) → t ≤ u + i * a → t ≤ u + (i + d) * a
  more_steps i d a t u low = omega (arith, low)

  pub resting_cost : (n : ℕ) → k ≤ n → w.disk.transfers ≤ v.disk.transfers + n * (196 + length v.slots)
  resting_cost n most =
      let d : ℕ = n - k in
      let sum : k + d ≡ n = omega (arith, most) in
      subst (λ (m : ℕ). w.disk.transfers ≤ v.disk.transfers + m * (196 + length v.slots)) sum (more_steps k d (196 + length v.slots) w.disk.transfers v.disk.transfers h.cost)

  pub stopped_cost : (x : View) (n : ℕ) → k < n → x.disk.transfers ≤ w.disk.transfers + (196 + length w.slots) → x.disk.transfers ≤ v.disk.transfers + n * (196 + length v.slots)
  stopped_cost x n most cost =
      let d : ℕ = n - (k + 1) in
      let sum : k + 1 + d ≡ n = omega (arith, most) in
      subst (λ (m : ℕ). x.disk.transfers ≤ v.disk.transfers + m * (196 + length v.slots)) sum
      (more_steps (k + 1) d (196 + length v.slots) x.disk.transfers v.disk.transfers (more_cost k (length v.slots) (length w.slots) w.disk.transfers x.disk.transfers v.disk.transfers h.reaches.goes.makes.count h.cost cost))
