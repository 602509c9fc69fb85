-- Swap units of a range, brought in one after the other.
use Rattle.std.proofs.Common.{◌≡◌, ◌≢◌, inl, inr, ℕ, zero, suc, ◌+◌, ◌-◌, ◌*◌, ◌<◌, ◌≤◌, List, Some, Option, refl, sym, ◌∙◌, ap, subst, arith}
use Rattle.std.specs.Prelude.{None, IfSome, slice_get}
use Rattle.std.proofs.lemmas.Bool.{cases_lt}
use Rattle.std.proofs.lemmas.Option.{none-some}
use Rattle.labelled_disk.specs.Sectors.{Sector}
use Rattle.labelled_disk.specs.declared.evidence.Halt.{Halt}
use Rattle.file_map.specs.FileMap.{Triples}
use Rattle.frame_pool.specs.Frames.{Slots, IsEmpty}
use Rattle.flat_machine.specs.declared.space.Space.{Space}
use Rattle.flat_machine.specs.Space.{root_pages}
use Rattle.flat_machine.specs.At.{shown_at}
use Rattle.swap_units.specs.declared.interval.Interval.{Interval}
use Rattle.swapper_kernel.specs.Homes.{IsLayout}
use Rattle.swapper_kernel.specs.HaltLaws.{brings_itself, brings_then}
use Rattle.session_words.specs.FrameLaws.{BringsKnown, IsKnown}
use Rattle.projection_laws.specs.Sight.{AreIntervals}
use Rattle.projection_laws.proofs.Finds.{firsts_are_ascending}
use Rattle.projection_laws.proofs.OneLemmas.{intervals_are_one}
use Rattle.space_tables.specs.SpaceTables.{IsIntervalAt}
use Rattle.fault_core.specs.declared.activate.Progress.{Progress}
use Rattle.fault_core.specs.Activate.{AreBare, AreUnits, AreWhole, HasWholeUnit, IsActive, IsFurther, IsNextUnit, IsShownAt, IsTooLong, IsTurn, IsUnitAt, IsWholeAt, start_at}
use Rattle.fault_core.specs.Kill.{BreaksWithin}
use Rattle.filer_kernel.specs.Evidence.{MayBeMissing}
use Rattle.fault_core.specs.Reach.{Reaches, TouchHalts}
use Rattle.fault_core.specs.Revealed.{BreaksTables, Revealed}
use Rattle.fault_core.specs.Unit.{IsReady, IsTouched}
use Rattle.fault_core.specs.Room.{KeepsWhileEmpty}
use Rattle.filer_kernel.specs.View.{View}
use Rattle.fault_core.proofs.AccessLemmas.{breaks_before}
use Rattle.fault_core.proofs.RangeLemmas.{IsNotOlder, ahead_next, tables_are}
use Rattle.fault_core.proofs.ReachLemmas.{reaches_itself, reaches_then, finds_before}
use Rattle.fault_core.proofs.RevealedLemmas.{interval_at}
use Rattle.fault_core.proofs.WholeLemmas.{bare_nowhere, bare_past, bare_then, shown_here, whole_stays, whole_then}
use Rattle.fault_core.specs.Lack.{Sees}

pub some_is : {X : Type 0} (P : X → Type 0) (o : Option X) (x : X) → o ≡ Some x → IfSome o P → P x
some_is {X = X} P o x is holds = subst (λ (o : Option X). IfSome o P) is holds

-- ---- The units that are left.

next_passed : (ss : List Space) (from next to page after pages : ℕ) → from ≤ next → AreBare ss from next → IsNextUnit ss next to page after pages → IsNextUnit ss from to page after pages
next_passed ss from next to page after pages up bare h = record {
  above = let above = h.above in omega (arith, above, up);
  below = h.below;
  bare = bare_then ss from next page bare h.bare;
  unit = h.unit;
}

-- pages that no window shows may stand before them
units_passed : (ss : List Space) (to next : ℕ) (so_far : Progress) (n last : ℕ) → so_far.page ≤ next → AreBare ss so_far.page next → AreUnits ss to (record so_far { page = next }) n last → AreUnits ss to so_far n last
units_passed ss to next so_far zero last up bare are = (
  are.0,
  elim are.1 [
    | inl none ↦ inl (bare_then ss so_far.page next to bare none)
    | inr (some, page, after, pages, unit, more) ↦ inr (some, page, after, pages, next_passed ss so_far.page next to page after pages up bare unit, more)
  ],
)
units_passed ss to next so_far (suc n) last up bare (page, after, pages, unit, few, rest) = (page, after, pages, next_passed ss so_far.page next to page after pages up bare unit, few, rest)

-- the unit is the next one
unit_next : (ss : List Space) (to page after pages : ℕ) → page < to → IsUnitAt ss page after pages → IsNextUnit ss page to page after pages
unit_next ss to page after pages below unit = record { above = omega arith; below = below; bare = bare_nowhere ss page; unit = unit }

-- one more was brought in
abbrev progress_of : ℕ → ℕ → ℕ → ℕ → Progress
progress_of page last units left = record { page = page; last = last; units = units; left = left }

pub unit_brought : (ss : List Space) (end : ℕ) (was : Progress) (after pages left : ℕ) → left ≡ was.left - pages → IsUnitAt ss was.page after pages → (was.units ≢ 0 → pages ≤ was.left)
    → IsFurther ss end was (record { page = after; last = was.page; units = was.units + 1; left = left })
unit_brought ss end was after pages left is unit few = inl (pages, ap (progress_of after was.page (was.units + 1)) is, unit, few)

-- ---- Intervals that were passed.

-- after a page are no intervals but its own and those after it
ahead_stays : (ss : List Space) (xs : List Interval) (count stop page k next : ℕ) (x : Interval) → AreIntervals ss xs → IsIntervalAt ss page x → page ≤ next → IsNotOlder xs count stop page k → IsNotOlder xs count stop next k
ahead_stays ss xs count stop page k next x are at up ahead = elim ahead [
  | inl past ↦ inl (omega (arith, past, up))
  | inr (few, after) ↦
      let one : at.xs ≡ xs = intervals_are_one ss at.xs xs at.projection are in
      let there : slice_get xs at.index ≡ Some x = ap (λ (l : List Interval). slice_get l at.index) (sym one) ∙ at.there in
      let from = after at.index x there at.holds in
      inr (
        few,
        λ j y here held. elim (cases_lt j at.index) [
          | inl earlier ↦
              let before = (firsts_are_ascending ss xs are).rises j at.index y x earlier here there in
              let low = held.1 in
              let high = at.holds.0 in
              absurd (omega (arith, before, low, high, up))
          | inr later ↦ omega (arith, from, later)
        ],
      )
]

-- ---- So many turns.

-- what is known of the range then
pub record IsTracked (ss : List Space) (xs : List Interval) (count first to stop half : ℕ) (so_far : Progress) (k : ℕ) : Type 0 where
  pub ahead : IsNotOlder xs count stop so_far.page (k - so_far.units)
  pub shown : so_far.units ≢ 0 → IsShownAt ss so_far.last
  pub rest : (n last : ℕ) → AreUnits ss to so_far n last → AreUnits ss to (start_at first half) (so_far.units + n) last

-- The range from the first page on was brought in as far as this, after so many turns.
pub record IsActivating (v : View) (kept : List Interval) (count first to stop half : ℕ) (w : View) (now : List Interval) (still : ℕ) (so_far : Progress) (k : ℕ) : Type 0 where
  pub from : first ≤ so_far.page
  pub last : so_far.units ≢ 0 → (first ≤ so_far.last) × (so_far.last < to)
  pub after : so_far.units ≢ 0 → so_far.last < so_far.page
  pub some : 1 ≤ so_far.units + so_far.left
  pub few : so_far.units + so_far.left ≤ half
  pub units : so_far.units ≤ k
  pub size : w.disk.sectors ≡ w.layout.sectors
  pub reaches : Reaches v w
  pub sees : (ss : List Space) → Sees v kept count ss → Sees w now still ss
  pub same_count : still ≡ count
  pub cost : w.disk.transfers ≤ v.disk.transfers + k * 840
  pub revealed : (m : List Sector) (named : Triples) (ss : List Space) (h : Revealed v kept count m named ss) → Revealed w now still m named ss × BringsKnown ss v.slots w.slots × IsTracked ss h.tables.xs count first to stop half so_far k
      × ((slot : ℕ) → IsEmpty w.slots slot → AreWhole ss w.slots first so_far.page)

pub activating_none : (v : View) (kept : List Interval) (count first to stop half : ℕ) → v.disk.sectors ≡ v.layout.sectors → 1 ≤ half → IsActivating v kept count first to stop half v kept count (start_at first half) 0
activating_none v kept count first to stop half size some = record {
  from = omega arith;
  last = λ none. absurd (none refl);
  after = λ none. absurd (none refl);
  some = omega (arith, some);
  few = omega arith;
  units = omega arith;
  size = size;
  reaches = reaches_itself v;
  sees = λ ss s. s;
  same_count = refl;
  cost = omega arith;
  revealed = λ m named ss h. (
    h,
    brings_itself (λ home. IsKnown ss home.id home.page) v.slots,
    record {
      ahead = inr (omega arith, λ j x here held. omega arith);
      shown = λ none. absurd (none refl);
      rest = λ n last are. subst (λ (j : ℕ). AreUnits ss to (start_at first half) j last) (none_more n) are;
    },
    λ slot empty page x from below at mapped. absurd (omega (arith, from, below)),
  );
}
  where
    none_more : (n : ℕ) → n ≡ 0 + n
    none_more n = omega arith

module _ {v : View} {kept : List Interval} {count first to stop half : ℕ} {w : View} {now : List Interval} {still : ℕ} {so_far : Progress} {k : ℕ} (is : IsLayout v.layout) (h : IsActivating v kept count first to stop half w now still so_far k) where
  tracked_further : (m : List Sector) (named : Triples) (ss : List Space) (revealed : Revealed v kept count m named ss) (further : Progress) → stop ≤ to → so_far.page < stop → so_far.page < further.page → IsFurther ss stop so_far further
      → IsTracked ss revealed.tables.xs count first to stop half further (k + 1)
  tracked_further m named ss revealed further upto below more step = elim step [
    | inl (pages, same, unit, few) ↦
        subst (λ (p : Progress). IsTracked ss revealed.tables.xs count first to stop half p (k + 1)) (sym same) (record {
          ahead = subst (IsNotOlder revealed.tables.xs count stop further.page) left
              (ahead_stays ss revealed.tables.xs count stop so_far.page (k - so_far.units) further.page unit.interval (tables_are revealed.tables) unit.projected (omega (arith, more)) was.ahead);
          shown = λ some. shown_here revealed.tables unit.interval so_far.page unit.projected unit.mapped;
          rest = λ n last are. subst (λ (j : ℕ). AreUnits ss to (start_at first half) j last) (more_units n)
              (was.rest (suc n) last (so_far.page, further.page, pages, unit_next ss to so_far.page further.page pages (omega (arith, upto, below)) unit, few, are));
        })
    | inr (same, bare, part) ↦
        subst (λ (p : Progress). IsTracked ss revealed.tables.xs count first to stop half p (k + 1)) (sym same) (record {
          ahead = subst (IsNotOlder revealed.tables.xs count stop further.page) one_more
              (ahead_next ss revealed.tables.xs count stop so_far.page (k - so_far.units) further.page (tables_are revealed.tables) revealed.tables.counted below was.ahead part);
          shown = was.shown;
          rest = λ n last are. was.rest n last (units_passed ss to further.page so_far n last (omega (arith, more)) bare are);
        })
  ]
    where
      was : IsTracked ss revealed.tables.xs count first to stop half so_far k
      was = (h.revealed m named ss revealed).2

      left : k - so_far.units ≡ k + 1 - (so_far.units + 1)
      left = omega arith

      one_more : k - so_far.units + 1 ≡ k + 1 - so_far.units
      one_more = let units = h.units in omega (arith, units)

      more_units : (n : ℕ) → so_far.units + suc n ≡ so_far.units + 1 + n
      more_units n = omega arith

  pub activating_more : (x : View) (later : List Interval) (left : ℕ) (further : Progress) → stop ≤ to → so_far.page < stop → IsTurn so_far further
      → ((m : List Sector) (named : Triples) (ss : List Space) → Revealed w now still m named ss → IsFurther ss stop so_far further)
      → ((m : List Sector) (named : Triples) (ss : List Space) → Revealed w now still m named ss → Revealed x later left m named ss)
      → ((m : List Sector) (named : Triples) (ss : List Space) → Revealed w now still m named ss → BringsKnown ss w.slots x.slots)
      → ((m : List Sector) (named : Triples) (ss : List Space) → Revealed w now still m named ss → AreWhole ss x.slots so_far.page further.page) → KeepsWhileEmpty w.slots x.slots → ((ss : List Space) → Sees w now still ss → Sees x later left ss)
      → Reaches w x → left ≡ still → x.disk.transfers ≤ w.disk.transfers + 840 → IsActivating v kept count first to stop half x later left further (k + 1)
  activating_more x later left further upto below turn step same came whole room next_sees next_reaches same_left cost = record {
    from = let prefix = h.from in let more = turn.further in omega (arith, prefix, more);
    last = λ some. elim turn.last [
      | inl (same_units, same_last) ↦
          let was = h.last (λ none. some (same_units ∙ none)) in
          let prefix = was.0 in
          let back = was.1 in
          (omega (arith, prefix, same_last), omega (arith, back, same_last))
      | inr brought ↦ let prefix = h.from in (omega (arith, prefix, brought), omega (arith, below, upto, brought))
    ];
    after = λ some. let more = turn.further in elim turn.last [
      | inl (same_units, same_last) ↦ let was = h.after (λ none. some (same_units ∙ none)) in omega (arith, was, more, same_last)
      | inr brought ↦ omega (arith, more, brought)
    ];
    some = turn.some;
    few = let fewer = turn.fewer in let few = h.few in omega (arith, fewer, few);
    units = let units = h.units in let one = turn.one in omega (arith, units, one);
    size = next_reaches.goes.makes.went.sectors ∙ h.size ∙ ap (λ l. l.sectors) (sym next_reaches.layout);
    reaches = reaches_then v w is h.reaches x next_reaches;
    sees = λ ss s. next_sees ss (h.sees ss s);
    same_count = same_left ∙ h.same_count;
    cost = let was = h.cost in omega (arith, was, cost);
    revealed = λ m named ss revealed.
        let was = h.revealed m named ss revealed in (
          same m named ss was.0,
          brings_then was.1 (came m named ss was.0),
          tracked_further m named ss revealed further upto below turn.further (step m named ss was.0),
          λ slot empty. whole_then ss w.slots x.slots first so_far.page further.page slot room empty (was.3 slot (room.empty slot empty)) (whole m named ss was.0),
        );
  }

  pub activating_halt : (x : View) → so_far.page < to → (e : Halt) → TouchHalts (BreaksTables w still so_far.page) w x e → TouchHalts (BreaksWithin v count first to) v x e
  activating_halt x below e halts =
      finds_before v w is h.reaches MayBeMissing (BreaksTables w still so_far.page) (BreaksWithin v count first to) (λ broken breaks. record {
        asked = so_far.page;
        from = h.from;
        below = below;
        breaks = breaks_before v w h.reaches count still so_far.page broken h.same_count breaks;
      }) x x (omega arith) e halts

  pub activating_reaches : (x : View) → Reaches w x → Reaches v x
  activating_reaches x next = reaches_then v w is h.reaches x next

  pub activating_known : (m : List Sector) (named : Triples) (ss : List Space) → Revealed v kept count m named ss → Revealed w now still m named ss
  activating_known m named ss revealed = (h.revealed m named ss revealed).0

  pub activating_came : (m : List Sector) (named : Triples) (ss : List Space) → Revealed v kept count m named ss → BringsKnown ss v.slots w.slots
  activating_came m named ss revealed = (h.revealed m named ss revealed).1

  pub activating_shown : (m : List Sector) (named : Triples) (ss : List Space) → Revealed v kept count m named ss → so_far.units ≢ 0 → IsShownAt ss so_far.last
  activating_shown m named ss revealed = (h.revealed m named ss revealed).2.shown

  -- up to the page that was brought in last
  pub activating_whole : (s : Slots) → KeepsWhileEmpty w.slots s → (m : List Sector) (named : Triples) (ss : List Space) → Revealed v kept count m named ss → (slot : ℕ) → IsEmpty s slot → so_far.units ≢ 0 → AreWhole ss s first (so_far.last + 1)
  activating_whole s room m named ss revealed slot empty some page x from upto at mapped =
      let after = h.after some in
      whole_stays ss w.slots s first so_far.page slot room empty ((h.revealed m named ss revealed).3 slot (room.empty slot empty)) page x from (omega (arith, after, upto)) at mapped

  -- ---- The range was brought in.

  module _ (m : List Sector) (named : Triples) (ss : List Space) (revealed : Revealed v kept count m named ss) where
    brought : AreUnits ss to so_far 0 so_far.last → AreUnits ss to (start_at first half) so_far.units so_far.last
    brought are =
        let none : so_far.units + 0 ≡ so_far.units = omega arith in
        subst (λ (n : ℕ). AreUnits ss to (start_at first half) n so_far.last) none ((h.revealed m named ss revealed).2.rest 0 so_far.last are)

    -- the end is reached
    pub activated_all : ((p : ℕ) → p < to → p < root_pages → p < stop) → stop ≤ so_far.page → AreUnits ss to (start_at first half) so_far.units so_far.last
    activated_all all past = brought (refl, inl (bare_past revealed.tables so_far.page stop to all past))

    -- so many turns reach it
    pub activated_most : ((p : ℕ) → p < to → p < root_pages → p < stop) → count + half < k → AreUnits ss to (start_at first half) so_far.units so_far.last
    activated_most all most = elim (h.revealed m named ss revealed).2.ahead [
      | inl past ↦ activated_all all past
      | inr (few, after) ↦ let units = h.few in absurd (omega (arith, few, most, units))
    ]

    -- the next unit has more pages than may still be brought in
    pub activated_some : so_far.page < to → IsTooLong ss so_far → AreUnits ss to (start_at first half) so_far.units so_far.last
    activated_some below (some, after, pages, unit, more) = brought (refl, inr (some, so_far.page, after, pages, unit_next ss to so_far.page after pages below unit, more))

-- ---- The page that was brought in last is touched.

-- a page that is shown was touched
pub touched_ready : (ss : List Space) (kept : List Interval) (slots : Slots) (page : ℕ) (o : Option ℕ) → IsShownAt ss page → (o ≡ None → shown_at ss page ≡ None) → IfSome o (IsTouched kept slots page) → IsReady kept slots page
touched_ready ss kept slots page None (shown, is) none touched = absurd (none-some shown (sym (none refl) ∙ is))
touched_ready ss kept slots page (Some slot) shown none touched = touched.ready

pub touched_whole : {v : View} {kept : List Interval} {count : ℕ} {m : List Sector} {named : Triples} {ss : List Space} → Revealed v kept count m named ss → (slots : Slots) (page : ℕ) (o : Option ℕ) → IsShownAt ss page → (o ≡ None → shown_at ss page ≡ None)
    → IfSome o (IsTouched kept slots page) → IsWholeAt ss kept slots page
touched_whole {kept = kept} {ss = ss} revealed slots page o shown none touched =
    let ready = touched_ready ss kept slots page o shown none touched in
    record { ready = ready; projected = interval_at ss page ready.interval (revealed.cached ready.interval ready.is_kept) ready.holds }

-- where no unit was brought in, no page is shown
pub none_active : (ss : List Space) (kept : List Interval) (slots : Slots) (from to half units last : ℕ) → units ≡ 0 → AreUnits ss to (start_at from half) units last → IsActive ss kept slots from to
none_active ss kept slots from to half units last none are page above below shown = by (subst (λ (n : ℕ). AreUnits ss to (start_at from half) n last) none are)
  where
    by : AreUnits ss to (start_at from half) 0 last → HasWholeUnit ss kept slots from to
    by are = elim are.1 [
      | inl bare ↦ absurd (none-some shown.0 (sym (bare page above below) ∙ shown.1))
      | inr (some, next, after, pages, unit, more) ↦ absurd (some refl)
    ]
