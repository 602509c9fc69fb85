-- Pages of a range that may be stored to are given up, one interval after the other.
use Rattle.std.proofs.Common.{◌≡◌, inl, inr, ◌≤◌, ◌<◌, ℕ, ◌+◌, ◌*◌, List, [], refl, sym, ◌∙◌, ap, subst, arith}
use Rattle.std.specs.Prelude.{None, Some, find}
use Rattle.std.proofs.lemmas.Bool.{cases_lt}
use Rattle.std.proofs.lemmas.Option.{none-some}
use Rattle.labelled_disk.specs.declared.evidence.Halt.{Halt}
use Rattle.labelled_disk.specs.declared.evidence.Halt.TheVariants as halt
use Rattle.labelled_disk.specs.Sectors.{Sector}
use Rattle.file_map.specs.FileMap.{Triples}
use Rattle.flat_machine.specs.declared.space.Space.{Space}
use Rattle.flat_machine.specs.Space.{root_pages}
use Rattle.frame_pool.specs.Frames.{Slots}
use Rattle.swap_units.specs.declared.interval.Interval.{Interval}
use Rattle.space_tables.specs.Form.{BreaksLookUp}
use Rattle.swapper_kernel.specs.Differs.{Differs}
use Rattle.swapper_kernel.specs.DiffersLaws.{differs_itself, differs_then}
use Rattle.swapper_kernel.specs.Goes.{Goes, no_page}
use Rattle.swapper_kernel.specs.Homes.{IsLayout}
use Rattle.swapper_kernel.specs.HaltLaws.{brings_itself, brings_then}
use Rattle.swapper_kernel.specs.Stands.{Stands}
use Rattle.session_words.specs.CellLaws.{Kills, is_killed}
use Rattle.session_words.specs.Volume.{volume_page}
use Rattle.session_words.proofs.FoundLemmas.{above_reserved}
use Rattle.swap_units.specs.Unit.{has_page}
use Rattle.fault_core.specs.Kept.{AreFound}
use Rattle.fault_core.specs.Kill.{AreWritableSo, BreaksWithin, LeavesCore, is_absent}
use Rattle.fault_core.specs.Lack.{Sees}
use Rattle.fault_core.specs.Range.{IsNextPart}
use Rattle.fault_core.specs.Reach.{BringsOwn, ReachHalts, table_page}
use Rattle.fault_core.specs.Revealed.{BreaksTables, Revealed}
use Rattle.fault_core.specs.Touch.{Touches}
use Rattle.filer_kernel.specs.View.{View}
use Rattle.fault_core.proofs.BeforeLemmas.{halt_before, touches_of, touches_then}
use Rattle.fault_core.proofs.LeaveLemmas.{goes_revealed, revealed_stands}
use Rattle.fault_core.proofs.ReachLemmas.{reaches_itself}
use Rattle.fault_core.proofs.ShowLemmas.{none_past}
use Rattle.fault_core.proofs.RangeLemmas.{IsNotOlder, ahead_next, tables_are}

-- a page of a client that has no frame has none while pages of the maps and of the space tables come
pub absent_after : (s t : Slots) → BringsOwn s t → (id page : ℕ) → 16 ≤ id → is_absent s id page → is_absent t id page
absent_after s t came id page client absent (i, (f, has, (same_id, same_page))) = elim (came.homes f.home (record { slot = i; frame = f; has = has; at = refl })) [
  | inl held ↦ absent (held.slot, (held.frame, held.has, (ap (λ h. h.id) held.at ∙ same_id, ap (λ h. h.page) held.at ∙ same_page)))
  | inr own ↦ let last = own.1 in absurd (omega (arith, last, same_id, client))
]

-- a range of so many pages
abbrev pub range_of : ℕ → ℕ → Space
range_of first pages = record { handle = 0; parent = 0; first = first; pages = pages; unit = 1; window = None }

-- what a kill of the range leaves
abbrev pub LeavesKilled : View → List Sector → Triples → List Space → Space → View → List Interval → ℕ → Type 0
LeavesKilled v m named ss range w kept count = LeavesCore (Differs (is_killed v.layout.sectors ss range)) m named ss w kept count

module _ {v w : View} {kept now : List Interval} {count later : ℕ} {m : List Sector} {named : Triples} {ss : List Space} (range : Space) (revealed : Revealed v kept count m named ss) (l : LeavesKilled v m named ss range w now later) where
  pub killed_goes : Touches no_page v w → Goes (Kills ss range) volume_page [] v.disk v.slots w.disk w.slots
  killed_goes touches = goes_revealed (Kills ss range) no_page volume_page touches (λ id page own. elim own [
    | inl (inl three) ↦ omega (arith, three)
    | inl (inr two) ↦ omega (arith, two)
    | inr none ↦ absurd none
  ]) revealed.known.stands l.memory l.revealed.known.stands (record {
    differs = subst (λ (n : ℕ). Differs (is_killed n ss range) m l.memory) (sym revealed.known.long) l.changed;
    sectors = l.revealed.known.sectors;
  })

  pub killed_known : (n : List Sector) → Stands w.disk w.slots n → Revealed w now later n named ss
  killed_known n stands = revealed_stands l.revealed n stands

-- The pages from the first one on up to this one are given up, after so many intervals.
pub record IsKilling (v : View) (kept : List Interval) (count first pages stop : ℕ) (w : View) (now : List Interval) (later page k : ℕ) : Type 0 where
  pub from : first ≤ page
  pub size : w.disk.sectors ≡ w.layout.sectors
  pub touches : Touches no_page v w
  pub came : BringsOwn v.slots w.slots
  pub sees : (ss : List Space) → Sees v kept count ss → Sees w now later ss
  pub left : (m : List Sector) (named : Triples) (ss : List Space) (range : Space) → Revealed v kept count m named ss → range.first ≡ first → range.pages ≡ pages → LeavesKilled v m named ss range w now later
  pub intervals : later ≡ count
  pub gone : (m : List Sector) (named : Triples) (ss : List Space) → Revealed v kept count m named ss → AreWritableSo (is_absent w.slots) ss first page
  pub ahead : (m : List Sector) (named : Triples) (ss : List Space) (t : Revealed v kept count m named ss) → IsNotOlder t.tables.xs count stop page k
  pub idle : AreFound kept first (first + pages) → (w.disk ≡ v.disk) × (now ≡ kept)
  pub cost : w.disk.transfers ≤ v.disk.transfers + k * 196

pub killing_none : (v : View) (kept : List Interval) (count first pages stop : ℕ) → v.disk.sectors ≡ v.layout.sectors → IsKilling v kept count first pages stop v kept count first 0
killing_none v kept count first pages stop size = record {
  from = omega arith;
  size = size;
  touches = touches_of no_page (reaches_itself v);
  came = brings_itself (λ home. (1 ≤ home.id) × (home.id ≤ 3)) v.slots;
  sees = λ ss s. s;
  left = λ m named ss range revealed from_first so_many. record { memory = m; changed = differs_itself (is_killed v.layout.sectors ss range) m; revealed = revealed };
  intervals = refl;
  gone = λ m named ss revealed p from below. absurd (omega (arith, from, below));
  ahead = λ m named ss revealed. inr (omega arith, λ j x here held. omega arith);
  idle = λ found. (refl, refl);
  cost = omega arith;
}

module _ {v : View} {kept : List Interval} {count first pages stop : ℕ} {w : View} {now : List Interval} {later page k : ℕ} (is : IsLayout v.layout) (h : IsKilling v kept count first pages stop w now later page k) where
  -- what is known of the core then
  revealed_now : (m : List Sector) (named : Triples) (ss : List Space) → Revealed v kept count m named ss → (n : List Sector) × Revealed w now later n named ss
  revealed_now m named ss revealed = let l = h.left m named ss (range_of first pages) revealed refl refl in (l.memory, l.revealed)

  pub killing_sound : (m : List Sector) (named : Triples) (ss : List Space) (e : Halt) → Revealed v kept count m named ss → ((n : List Sector) (named : Triples) (ss : List Space) → Revealed w now later n named ss → e ≡ halt.Disk) → e ≡ halt.Disk
  killing_sound m named ss e revealed sound = let n = revealed_now m named ss revealed in sound n.0 named ss n.1

  -- the interval that has the page was kept, and is
  pub killing_found : page < first + pages → AreFound kept first (first + pages) → (y : Interval) × (find (has_page page) now ≡ Some y)
  killing_found below found =
      let one = found page h.from below in
      (one.0, ap (find (has_page page)) (h.idle found).1 ∙ one.1)

  module _ (x : View) (after : List Interval) (last : ℕ) (upto : stop ≤ first + pages)
      (left : (m : List Sector) (named : Triples) (ss : List Space) (range : Space) → Revealed w now later m named ss → range.first ≤ page → stop ≤ range.first + range.pages → LeavesKilled w m named ss range x after last) where
    pub killing_left : (m : List Sector) (named : Triples) (ss : List Space) (range : Space) → Revealed v kept count m named ss → range.first ≡ first → range.pages ≡ pages → LeavesKilled v m named ss range x after last
    killing_left m named ss range revealed from_first so_many =
        let l = h.left m named ss range revealed from_first so_many in
        let from = h.from in
        let k = left l.memory named ss range l.revealed (omega (arith, from, from_first)) (omega (arith, upto, from_first, so_many)) in
        let changed : Differs (is_killed v.layout.sectors ss range) l.memory k.memory = subst (λ (n : ℕ). Differs (is_killed n ss range) l.memory k.memory) (ap (λ y. y.sectors) h.touches.layout) k.changed in
        record { memory = k.memory; changed = differs_then (is_killed v.layout.sectors ss range) m l.memory k.memory l.changed changed; revealed = k.revealed }

    pub killing_more : (next : ℕ) → page < stop → page < next → Touches no_page w x → BringsOwn w.slots x.slots → ((ss : List Space) → Sees w now later ss → Sees x after last ss) → last ≡ later
        → ((m : List Sector) (named : Triples) (ss : List Space) → Revealed w now later m named ss → AreWritableSo (is_absent x.slots) ss page next)
        → ((m : List Sector) (named : Triples) (ss : List Space) → Revealed w now later m named ss → IsNextPart ss page stop next)
        → ((y : Interval) → find (has_page page) now ≡ Some y → (x.disk ≡ w.disk) × (after ≡ now))
        → x.disk.transfers ≤ w.disk.transfers + 196 → IsKilling v kept count first pages stop x after last next (k + 1)
    killing_more next inside more touches came next_sees intervals gone part idle cost = record {
      from = let from = h.from in omega (arith, from, more);
      size = touches.goes.makes.went.sectors ∙ h.size ∙ ap (λ l. l.sectors) (sym touches.layout);
      touches = touches_then v w is h.touches x touches;
      came = brings_then h.came came;
      sees = λ ss s. next_sees ss (h.sees ss s);
      left = killing_left;
      intervals = intervals ∙ h.intervals;
      gone = λ m named ss revealed p from below u shown writable. elim (cases_lt p page) [
        | inl prefix ↦ absent_after w.slots x.slots came u.file u.page (above_reserved u.file (revealed.stored p u shown).of_file) (h.gone m named ss revealed p from prefix u shown writable)
        | inr beyond ↦ let n = revealed_now m named ss revealed in gone n.0 named ss n.1 p beyond below u shown writable
      ];
      ahead = λ m named ss revealed.
          let n = revealed_now m named ss revealed in
          ahead_next ss revealed.tables.xs count stop page k next (tables_are revealed.tables) revealed.tables.counted inside (h.ahead m named ss revealed) (part n.0 named ss n.1);
      idle = λ found.
          let was = h.idle found in
          let one = killing_found (omega (arith, inside, upto)) found in
          let step = idle one.0 one.1 in
          (step.0 ∙ was.0, step.1 ∙ was.1);
      cost = let was = h.cost in omega (arith, was, cost);
    }

  pub killing_halt : (x : View) → page < first + pages → (e : Halt) → ReachHalts (BreaksTables w later page) w x e → ReachHalts (BreaksWithin v count first (first + pages)) v x e
  killing_halt x below e halts =
      halt_before v w is h.touches (BreaksTables w later page) (BreaksWithin v count first (first + pages))
      (λ broken breaks. record {
        asked = page;
        from = h.from;
        below = below;
        breaks = record {
          in_root = breaks.in_root;
          breaks = λ b revealed. subst (λ (j : ℕ). BreaksLookUp page j b broken) h.intervals (breaks.breaks b (h.touches.revealed b revealed));
        };
      }) table_page x x (omega arith) e halts

  pub killing_cost : (x : View) (n : ℕ) → k < n → x.disk.transfers ≤ w.disk.transfers + 196 → x.disk.transfers ≤ v.disk.transfers + n * 196
  killing_cost x n most cost = let was = h.cost in omega (arith, most, was, cost)

  pub killed_cost : (n : ℕ) → k ≤ n → w.disk.transfers ≤ v.disk.transfers + n * 196
  killed_cost n most = let was = h.cost in omega (arith, most, was)

  -- the last page of the range, or of the root, is reached
  pub killed_all : ((p : ℕ) → p < first + pages → p < root_pages → p < stop) → stop ≤ page → (m : List Sector) (named : Triples) (ss : List Space) → Revealed v kept count m named ss → AreWritableSo (is_absent w.slots) ss first (first + pages)
  killed_all all past m named ss revealed p from below u shown writable = elim (cases_lt p page) [
    | inl prefix ↦ h.gone m named ss revealed p from prefix u shown writable
    | inr beyond ↦ elim (cases_lt p root_pages) [
      | inl inside ↦ let before = all p below inside in absurd (omega (arith, before, past, beyond))
      | inr outside ↦ absurd (none-some u (sym (none_past revealed.tables p outside) ∙ shown))
    ]
  ]

  -- so many steps reach it
  pub killed_most : ((p : ℕ) → p < first + pages → p < root_pages → p < stop) → count < k → (m : List Sector) (named : Triples) (ss : List Space) → Revealed v kept count m named ss → AreWritableSo (is_absent w.slots) ss first (first + pages)
  killed_most all most m named ss revealed = elim (h.ahead m named ss revealed) [ inl past ↦ killed_all all past m named ss revealed | inr (few, beyond) ↦ absurd (omega (arith, few, most)) ]
