-- A run that is taken, labelled and added keeps to an initial state, and what the calls report as evidence has its reason.
use Rattle.std.proofs.Common.{◌≡◌, ◌⊎◌, inl, inr, ℕ, zero, suc, ◌+◌, ◌-◌, ◌<◌, ◌≤◌, Bool, true, false, ◌&&◌, ◌||◌, List, Option, Some, None, refl, sym, ◌∙◌, ap, subst, arith, [], ◌∷◌, take}
use Rattle.std.specs.Prelude.{slice_get, nat_le, nat_lt, ◌==◌, if◌then◌else◌, IfSome, option_map}
use Rattle.std.specs.List.{range_with_len}
use Rattle.std.proofs.lemmas.Bool.{and_parts, leb-true, ltb-true, eqb-true, eq-eqb, le-leb, lt-ltb, true≢false, cases_eq}
use Rattle.std.proofs.lemmas.Option.{same_Some, none-some}
use Rattle.labelled_disk.specs.declared.disk.DiskWrite.{DiskWrite}
use Rattle.labelled_disk.specs.declared.disk.DiskWrite.TheVariants.{Whole, LabelOnly, Page}
use Rattle.labelled_disk.specs.declared.evidence.Evidence.TheVariants.{Mismatch, Malformed, Missing}
use Rattle.labelled_disk.specs.declared.evidence.Halt.{Halt}
use Rattle.labelled_disk.specs.declared.evidence.Halt.TheVariants.{Disk, Damaged}
use Rattle.labelled_disk.specs.declared.label.Label.{Label}
use Rattle.labelled_disk.specs.declared.layout.Layout.{Layout}
use Rattle.labelled_disk.specs.Label.{page_label, is_free}
use Rattle.labelled_disk.specs.Runs.{growth, zero_bytes}
use Rattle.labelled_disk.specs.Sectors.{Sector}
use Rattle.labelled_disk.specs.State.{DiskState, HasLabel}
use Rattle.frame_pool.specs.declared.home.Home.{Home}
use Rattle.frame_pool.specs.Frames.{Slots}
use Rattle.alloc_map.specs.Runs.{IsDataRun}
use Rattle.file_map.specs.declared.run.Run.{Run}
use Rattle.file_map.specs.Run.{holds, sector_at}
use Rattle.file_map.specs.FileMap.{Triples, IsNew, with_run, run_names}
use Rattle.swapper_kernel.specs.declared.manager.Manager.TheVariants.{AllocationMap, FileMap}
use Rattle.swapper_kernel.specs.Differs.{Differs}
use Rattle.swapper_kernel.specs.Goes.{Makes, Pages}
use Rattle.swapper_kernel.specs.HaltLaws.{brings_then}
use Rattle.swapper_kernel.specs.Halts.{Halts, HasCause}
use Rattle.swapper_kernel.specs.Homes.{IsLayout, IsHeld, Brings}
use Rattle.swapper_kernel.specs.Maps.{IsMapHome}
use Rattle.swapper_kernel.specs.Stands.{Stands}
use Rattle.swapper_kernel.specs.Window.{Beside, in_map}
use Rattle.label_calls.specs.Labels.{free_ones}
use Rattle.label_calls.specs.Clearing.{NamedCleared, RelabelsCleared}
use Rattle.label_calls.specs.Runs.{IsOneTaken}
use Rattle.filer_kernel.specs.Becomes.{Becomes}
use Rattle.filer_kernel.specs.Causes.{AddHalts, IsFaultOrMost}
use Rattle.filer_kernel.specs.Marks.{Marks, BitsAre, AreAll, marked}
use Rattle.filer_kernel.specs.Triples.{MapIs, AreOf}
use Rattle.session_words.specs.Volume.{volume_page}
use Rattle.file_manager.specs.Grounds.{IsMapsHome}
use Rattle.file_manager.specs.Making.{sectors_of}
use Rattle.file_manager.specs.Reasons.{InitialState, AreTabled, Gives, IsAtHome, KeepsTo, MayTake, ShowsReason, IsUsed}
use Rattle.file_manager.specs.LaterLaws.{at_home_later, made_now, may_be_free_later, used_now}
use Rattle.file_manager.specs.WriteLaws.{GivesNot, RootsBelow, TakesNot, UpNot, sector_of, takes_not, whole_not_up}
use Rattle.file_manager.specs.KeepLaws.{keeps_after, home_later, over_left, unframed_still}
use Rattle.file_manager.specs.ReasonLaws.{label_reasons, room_reason}
use Rattle.file_manager.specs.TabledLaws.{prefix_only, keeps_sectors_then, keeps_undiffering, tables_revealed}
use Rattle.file_manager.specs.Taking.{NamesNoneOf}
use Rattle.file_manager.proofs.AddReasons.{add_at}
use Rattle.file_manager.proofs.FreedRun.{first_is}
use Rattle.file_manager.proofs.KeepSteps.{bits_beside}
use Rattle.file_manager.proofs.MadeRun.{IsLabelledFor, maps_come, labelled, labelled_bits, map_then, new_run, run_adds}
use Rattle.file_manager.proofs.TakingLemmas.{none_later}
use Rattle.std.proofs.lemmas.Bool.Decides.{nat_tests}

-- ---- What is named with a run more.

-- the writes of a growth, page by page
growth_at : (id kind page first n j : ℕ) → j < n → slice_get (growth id kind page (range_with_len first n)) j ≡ Some (Whole (first + j) (page_label id kind (page + j)) zero_bytes)
growth_at id kind page first zero j below = absurd (omega (arith, below))
growth_at id kind page first (suc n) zero below =
    let at : first ≡ first + 0 = omega arith in
    let of : page ≡ page + 0 = omega arith in
    λ i. Some (Whole (at i) (page_label id kind (of i)) zero_bytes)
growth_at id kind page first (suc n) (suc j) below =
    let rest = growth_at id kind (page + 1) (first + 1) n j (omega (arith, below)) in
    let at : first + 1 + j ≡ first + suc j = omega arith in
    let of : page + 1 + j ≡ page + suc j = omega arith in
    rest ∙ (λ i. Some (Whole (at i) (page_label id kind (of i)) zero_bytes))

-- it is that of its turn
growth_turn : (id kind page first n turn : ℕ) (w : DiskWrite) → slice_get (growth id kind page (range_with_len first n)) turn ≡ Some w → turn < n
growth_turn id kind page first zero turn w at = absurd (none-some w at)
growth_turn id kind page first (suc n) zero w at = omega arith
growth_turn id kind page first (suc n) (suc turn) w at = let rest = growth_turn id kind (page + 1) (first + 1) n turn w at in omega (arith, rest)

-- the label that it gives
abbrev label_of : DiskWrite → Label
label_of (Whole sector label bytes) = label
label_of (LabelOnly sector label) = label
label_of (Page sector wanted bytes) = page_label 0 0 0

-- a run names the page of each turn
pub names_turn : (run : Run) (id page sector j : ℕ) → run.id ≡ id → run.first + j ≡ page → j < run.pages → run.sector + j ≡ sector → run_names run id page sector ≡ true
names_turn run id page sector j same of below at =
    let place : sector ≡ sector_at run page = omega (arith, of, at) in
    (λ i. (eq-eqb run.id id same i && (le-leb run.first page (omega (arith, of)) i && lt-ltb page (run.first + run.pages) (omega (arith, of, below)) i)) && eq-eqb sector (sector_at run page) place i)

-- so the writes of its growth give sectors to the pages that it names
growth_names : (run : Run) (kind turn : ℕ) (w : DiskWrite) (home : Home) → slice_get (growth run.id kind run.first (sectors_of run)) turn ≡ Some w → Gives home w → run_names run home.id home.page home.sector ≡ true
growth_names run kind turn w home at (other, is) =
    let below = growth_turn run.id kind run.first run.sector run.pages turn w at in
    let same : Whole (run.sector + turn) (page_label run.id kind (run.first + turn)) zero_bytes ≡ Whole home.sector (page_label home.id other home.page) zero_bytes =
    same_Some (Whole (run.sector + turn) (page_label run.id kind (run.first + turn)) zero_bytes) w (sym (growth_at run.id kind run.first run.sector run.pages turn below) ∙ at) ∙ is in
    names_turn run home.id home.page home.sector turn (ap (λ (v : DiskWrite). (label_of v).id) same) (ap (λ (v : DiskWrite). (label_of v).page) same) below (ap sector_of same)

or_true : (b : Bool) → (b || true) ≡ true
or_true true = refl
or_true false = refl

pub either_named : (a b : Bool) → (a || b) ≡ true → (a ≡ true) ⊎ (b ≡ true)
either_named true b is = inl refl
either_named false b is = inr is

-- what a run names
pub run_parts : (run : Run) (id page sector : ℕ) → run_names run id page sector ≡ true → (run.id ≡ id) × (run.first ≤ page) × (page < run.first + run.pages) × (sector ≡ run.sector + (page - run.first))
run_parts run id page sector is =
    let both = and_parts (holds run id page) (sector == sector_at run page) is in
    let parts = and_parts (run.id == id) (nat_le run.first page && nat_lt page (run.first + run.pages)) both.0 in
    let more = and_parts (nat_le run.first page) (nat_lt page (run.first + run.pages)) parts.1 in
    (eqb-true run.id id parts.0, leb-true run.first page more.0, ltb-true page (run.first + run.pages) more.1, eqb-true sector (sector_at run page) both.1)

are_more : (named : Triples) (run : Run) (k : List Run) → AreOf named k → AreOf (with_run named run) k
are_more named run k are j r at page held = ap (λ (b : Bool). b || run_names run r.id page (sector_at r page)) (are j r at page held)

-- other pages are named no more than before
pub none_with_run : (run : Run) (named : Triples) (id first : ℕ) (q : ℕ → Type 0) → run.id ≡ id → run.first ≡ first → ((page : ℕ) → q page → (first ≤ page) × (page < first + run.pages) → ⊥) → NamesNoneOf id q named → NamesNoneOf id q (with_run named run)
none_with_run run named id first q same_id same_first apart none =
    subst (λ (i : ℕ). NamesNoneOf i q (with_run named run)) same_id
    (none_later run.id (λ page. (run.first ≤ page) × (page < run.first + run.pages)) q named (with_run named run) (run_adds run named) (subst (λ (i : ℕ). NamesNoneOf i q named) (sym same_id) none)
    (λ page own other. apart page own (let from = other.0 in omega (arith, from, same_first), let below = other.1 in omega (arith, below, same_first))))

-- of a run of at most so many pages, where none of as many was named
pub few_none : (run : Run) (named : Triples) (most : ℕ) → run.pages ≤ most → NamesNoneOf run.id (λ page. (run.first ≤ page) × (page < run.first + most)) named → NamesNoneOf run.id (λ page. (run.first ≤ page) × (page < run.first + run.pages)) named
few_none run named most few none page sector (from, below) = none page sector (from, omega (arith, below, few))

-- the first of some writes
get_taken : (n : ℕ) (ws : List DiskWrite) (k : ℕ) (w : DiskWrite) → slice_get (take n ws) k ≡ Some w → (k < n) × (slice_get ws k ≡ Some w)
get_taken zero ws k w at = absurd (none-some w at)
get_taken (suc n) [] k w at = absurd (none-some w at)
get_taken (suc n) (v ∷ ws) zero w at = (omega arith, at)
get_taken (suc n) (v ∷ ws) (suc k) w at = let rest = get_taken n ws k w at in let below = rest.0 in (omega (arith, below), rest.1)

-- ---- Sectors are taken.

in_row : (first n j k : ℕ) → j < n → k ≡ first + j → (nat_le first k && nat_lt k (first + n)) ≡ true
in_row first n j k below same = grind (arith, nat_tests)

-- a sector that is free then was free
free_before : (first count k : ℕ) (marks : Marks) → marked true first count marks k ≡ false → marks k ≡ false
free_before first count k marks is = either (nat_le first k && nat_lt k (first + count)) is
  where
    either : (b : Bool) → (if b then true else marks k) ≡ false → marks k ≡ false
    either true e = absurd (true≢false e)
    either false e = e

-- one that is used then was used, or is one of them
used_before : (first count k : ℕ) (marks : Marks) → marked true first count marks k ≡ true → (marks k ≡ true) ⊎ ((first ≤ k) × (k < first + count))
used_before first count k marks is = either (nat_le first k && nat_lt k (first + count)) refl
  where
    either : (b : Bool) → (nat_le first k && nat_lt k (first + count)) ≡ b → (marks k ≡ true) ⊎ ((first ≤ k) × (k < first + count))
    either true within = let parts = and_parts (nat_le first k) (nat_lt k (first + count)) within in inr (leb-true first k parts.0, ltb-true k (first + count) parts.1)
    either false out = inl (sym (ap (λ (b : Bool). if b then true else marks k) out) ∙ is)

module _ {o : InitialState} {x l1 : Layout} {k : List Run} {a b : DiskState} {s t : Slots} {named : Triples} (h : KeepsTo o x k a s named) (taken : Beside AllocationMap a s x b t l1) where
  pub take_reasons : (e : Halt) → Halts (IsMapHome AllocationMap x) a s b e → ShowsReason o x b e
  take_reasons e why = label_reasons h taken.goes.makes (IsMapHome AllocationMap x) (λ home own. inl (AllocationMap, own)) e why

  -- no sector is free
  pub room_reasons : ((m : List Sector) (marks : Marks) → Stands a s m → BitsAre x marks m → AreAll true marks x.first x.sectors) → ShowsReason o x b (Damaged (Missing 3 0))
  room_reasons all = room_reason h taken.goes.makes (all h.memory h.marks h.stands h.bits)

  -- ---- Labels are written.

  module _ (run : Run) (kind : ℕ) {c : DiskState} (some : NamedCleared (λ k. run.sector + k) (λ k. free_ones) (growth run.id kind run.first (sectors_of run)) b t c) where
    -- a sector whose label wasn't free got none in the writes that were made
    unwritten : (j : ℕ) (place : ℕ) (found : Label) → place ≡ run.sector + j → HasLabel b (run.sector + j) found → is_free found ≡ false → TakesNot (take some.count (growth run.id kind run.first (sectors_of run))) place
    unwritten j place found at has other = takes_not (take some.count (growth run.id kind run.first (sectors_of run))) place (λ id page turn w got gives.
        let taken_at = get_taken some.count (growth run.id kind run.first (sectors_of run)) turn w got in
        let below = growth_turn run.id kind run.first run.sector run.pages turn w taken_at.1 in
        let there = growth_at run.id kind run.first run.sector run.pages turn below in
        let same : run.sector + turn ≡ place = ap sector_of (same_Some (Whole (run.sector + turn) (page_label run.id kind (run.first + turn)) zero_bytes) w (sym there ∙ taken_at.1) ∙ gives.1) in
        let is_turn : turn ≡ j = omega (arith, at, same) in
        let stands = (taken.goes.memory h.memory h.stands).1 in
        let one = some.found stands.sectors stands.revealed turn taken_at.0 in
        let label : one.0.0 ≡ found = same_Some one.0.0 found (sym (ap (λ (q : Option Sector). option_map (λ (y : Sector). y.0) q) one.1)
        ∙ ap (λ (n : ℕ). option_map (λ (y : Sector). y.0) (slice_get stands.sectors (run.sector + n))) is_turn ∙ has stands.sectors stands.revealed) in
        true≢false (sym one.2 ∙ ap is_free label ∙ other))

    pub label_reasons_taken : {pages : Pages} {u : Slots} → x.first ≤ run.sector → run.sector + run.pages ≤ x.sectors
        → ((m : List Sector) (marks : Marks) → Stands a s m → BitsAre x marks m → (j : ℕ) → run.sector ≤ j → j < run.sector + run.pages → marks j ≡ false) → Makes pages (take some.count (growth run.id kind run.first (sectors_of run))) a s c u
        → (e : Halt) → HasCause (IsOneTaken run.sector run.pages b) b c e → ShowsReason o x c e
    label_reasons_taken from inside free makes Disk is = tt
    label_reasons_taken from inside free makes (Damaged (Mismatch place wanted found)) (j, below, (at, nobody, has, other)) =
        let first : run.sector ≤ place = omega (arith, at) in
        let last : place < run.sector + run.pages = omega (arith, at, below) in
        inr (inr (nobody, may_be_free_later o makes place (unwritten j place found at has other) (h.free place (omega (arith, from, first)) (omega (arith, inside, last)) (free h.memory h.marks h.stands h.bits place first last))))
    label_reasons_taken from inside free makes (Damaged (Malformed structure page)) (j, below, is) = absurd is
    label_reasons_taken from inside free makes (Damaged (Missing id page)) (j, below, is) = absurd is

-- ---- And a run of them is added.

module _ {o : InitialState} {x l1 l3 : Layout} {k : List Run} {a b c d : DiskState} {s t u : Slots} {named : Triples} (h : KeepsTo o x k a s named) (is : IsLayout x) (run : Run) (kind most : ℕ) (form : IsDataRun x.first x.sectors most (run.sector, run.pages))
    (taken : Beside AllocationMap a s x b t l1) (marked_so : (m : List Sector) (marks : Marks) → Stands a s m → BitsAre x marks m → Becomes AllocationMap x m (BitsAre x (marked true run.sector run.pages marks)) b t)
    (made : RelabelsCleared run.sector run.pages (growth run.id kind run.first (sectors_of run)) b t c)
    (beside : Beside FileMap c t x d u l3) (makes : Makes volume_page (growth run.id kind run.first (sectors_of run)) a s d u) (nothing : NamesNoneOf run.id (λ page. (run.first ≤ page) × (page < run.first + run.pages)) named) where
  mid : (n : List Sector) × Stands c t n × IsLabelledFor x run.id h.memory n
  mid = labelled is run kind most form taken marked_so made h.unframed h.memory h.stands

  map_mid : MapIs x named mid.0
  map_mid = map_then is run kind most form taken marked_so made h.memory mid.0 named mid.2 h.map

  come : Brings (IsMapsHome x) s u
  come = brings_then (maps_come taken) (maps_come beside)

  -- each page of the run was given its sector
  given : (home : Home) → with_run named run home.id home.page home.sector ≡ true → (named home.id home.page home.sector ≡ true) ⊎ IsAtHome o d home
  given home one = elim (either_named (named home.id home.page home.sector) (run_names run home.id home.page home.sector) one) [
    | inl was ↦ inl was
    | inr own ↦
        let p = run_parts run home.id home.page home.sector own in
        let j = home.page - run.first in
        let from = p.1 in
        let below = p.2 in
        let of : run.first + j ≡ home.page = omega (arith, from) in
        let at = growth_at run.id kind run.first run.sector run.pages j (omega (arith, from, below)) in
        inr (inr (kind, made_now o makes h.since j (Whole home.sector (page_label home.id kind home.page) zero_bytes) (at ∙ (λ i. Some (Whole (sym p.3 i) (page_label (p.0 i) kind (of i)) zero_bytes)))))
  ]

  -- no other page was
  others : (home : Home) → (with_run named run home.id home.page home.sector ≡ true) ⊎ GivesNot (growth run.id kind run.first (sectors_of run)) home
  others home = either (run_names run home.id home.page home.sector) refl
    where
      either : (b : Bool) → run_names run home.id home.page home.sector ≡ b → (with_run named run home.id home.page home.sector ≡ true) ⊎ GivesNot (growth run.id kind run.first (sectors_of run)) home
      either true own = inl (ap (λ (b : Bool). named home.id home.page home.sector || b) own ∙ or_true (named home.id home.page home.sector))
      either false out = inr (λ turn w at gives. true≢false (sym (growth_names run kind turn w home at gives) ∙ out))

  -- none is given up
  none_up : (sector : ℕ) → UpNot (growth run.id kind run.first (sectors_of run)) sector
  none_up sector turn w at up =
      let below = growth_turn run.id kind run.first run.sector run.pages turn w at in
      let there = growth_at run.id kind run.first run.sector run.pages turn below in
      whole_not_up (run.sector + turn) (page_label run.id kind (run.first + turn)) zero_bytes sector (same_Some (Whole (run.sector + turn) (page_label run.id kind (run.first + turn)) zero_bytes) w (sym there ∙ at) ∙ up)

  -- none is in the sector of the root
  no_root : RootsBelow o.next (growth run.id kind run.first (sectors_of run))
  no_root root turn (label, (page, (at, own))) =
      let below = growth_turn run.id kind run.first run.sector run.pages turn (Whole 0 label page) at in
      let there = growth_at run.id kind run.first run.sector run.pages turn below in
      let place : run.sector + turn ≡ 0 = ap sector_of (same_Some (Whole (run.sector + turn) (page_label run.id kind (run.first + turn)) zero_bytes) (Whole 0 label page) (sym there ∙ at)) in
      let from = form.above in
      let first = first_is x is in
      absurd (omega (arith, place, from, first))

  -- each sector that is used besides was given to a page
  used_then : (sector : ℕ) → marked true run.sector run.pages h.marks sector ≡ true → ((h.marks sector ≡ true) × UpNot (growth run.id kind run.first (sectors_of run)) sector) ⊎ IsUsed o d sector
  used_then sector is = elim (used_before run.sector run.pages sector h.marks is) [
    | inl was ↦ inl (was, none_up sector)
    | inr (from, below) ↦
        let j = sector - run.sector in
        let of : run.sector + j ≡ sector = omega (arith, from) in
        let at = growth_at run.id kind run.first run.sector run.pages j (omega (arith, from, below)) in
        inr (used_now o makes h.since sector (none_up sector) j run.id kind (run.first + j) (at ∙ (λ i. Some (Whole (of i) (page_label run.id kind (run.first + j)) zero_bytes))))
  ]

  -- a sector that is free then was given to no page
  untaken : (sector : ℕ) → marked true run.sector run.pages h.marks sector ≡ false → TakesNot (growth run.id kind run.first (sectors_of run)) sector
  untaken sector free = takes_not (growth run.id kind run.first (sectors_of run)) sector (λ id page turn w at gives.
      let p = run_parts run id page sector (growth_names run kind turn w (record { sector = sector; id = id; page = page }) at gives) in
      let from = p.1 in
      let below = p.2 in
      let within = in_row run.sector run.pages (page - run.first) sector (omega (arith, from, below)) p.3 in
      true≢false (sym (ap (λ (b : Bool). if b then true else h.marks sector) within) ∙ free))

  -- what is revealed of the space tables
  run_revealed : (run.id ≡ 3 → o.tables ≡ None) → (n : List Sector) → Differs (in_map FileMap x) mid.0 n → IfSome o.tables (AreTabled x named h.memory) → IfSome o.tables (AreTabled x (with_run named run) n)
  run_revealed untold n differs revealed = elim (cases_eq run.id 3) [
    | inl own ↦ subst (λ (tables : Option (List ℕ)). IfSome tables (AreTabled x (with_run named run) n)) (sym (untold own)) tt
    | inr other ↦
        tables_revealed x named (with_run named run) h.memory n o.tables is h.map (keeps_sectors_then x h.memory mid.0 n mid.2.keeps (keeps_undiffering x mid.0 n differs (λ sector l from own. prefix_only FileMap x sector l is from)))
        (λ page sector was. ap (λ (b : Bool). b || run_names run 3 page sector) was) revealed
  ]

  -- each page that was given a sector is one of the file
  takes : MayTake o run.id → (home : Home) (turn : ℕ) (w : DiskWrite) → slice_get (growth run.id kind run.first (sectors_of run)) turn ≡ Some w → Gives home w → MayTake o home.id
  takes may home turn w at gives = subst (λ (i : ℕ). MayTake o i) (run_parts run home.id home.page home.sector (growth_names run kind turn w home at gives)).0 may

  pub run_keeps : MayTake o run.id → (run.id ≡ 3 → o.tables ≡ None) → ((m : List Sector) (named : Triples) → Stands c t m → MapIs x named m → IsNew named run → Becomes FileMap x m (MapIs x (with_run named run)) d u) → KeepsTo o x k d u (with_run named run)
  run_keeps may_take untold added =
      let more = added mid.0 named mid.1 map_mid (new_run run named nothing) in
      let later = marked true run.sector run.pages h.marks in
      let bits = labelled_bits is run kind most form taken marked_so made h.unframed h.memory h.stands h.marks h.bits mid.0 mid.1 in
      keeps_after h makes more.memory more.stands (with_run named run) more.is given k (are_more named run k h.kept) (λ home held. elim (come.homes home held) [ inl was ↦ inl was | inr own ↦ inr (inl own) ])
      (unframed_still come h.unframed) (over_left named (with_run named run) 0 h.over come (λ zero. absurd (omega (arith, zero))) (λ other page sector was. ap (λ (b : Bool). b || run_names run 3 page sector) was)) later (bits_beside x later mid.0 more.memory more.differs bits) (λ sector from below free. inl (free_before run.sector run.pages sector h.marks free, untaken sector free))
      (λ home from may was. inl (ap (λ (b : Bool). b || run_names run home.id home.page home.sector) was)) (λ home from may. others home) (λ sector from below is. used_then sector is) no_root (takes may_take)
      (λ revealed. run_revealed untold more.memory more.differs revealed)

  held_home : (home : Home) → IsHeld t home → IsMapsHome x home ⊎ IsAtHome o d home
  held_home home held = elim ((maps_come taken).homes home held) [ inl was ↦ home_later h makes home was | inr own ↦ inl own ]

  -- its first page is at home
  first_at : IsAtHome o d (record { sector = run.sector; id = run.id; page = run.first })
  first_at =
      let some = form.some in
      let at = growth_at run.id kind run.first run.sector run.pages 0 (omega (arith, some)) in
      let page : run.first + 0 ≡ run.first = omega arith in
      let place : run.sector + 0 ≡ run.sector = omega arith in
      inr (kind, made_now o makes h.since 0 (Whole run.sector (page_label run.id kind run.first) zero_bytes) (at ∙ (λ i. Some (Whole (place i) (page_label run.id kind (page i)) zero_bytes))))

  pub add_reasons : (e : Halt) → AddHalts x c t d e → ((m : List Sector) (named : Triples) → Stands c t m → MapIs x named m → IsNew named run → IsFaultOrMost x c t e) → ShowsReason o x d e
  add_reasons e cause right =
      let some = form.some in
      add_at o d is (made.makes.went.sectors ∙ taken.goes.makes.went.sectors ∙ h.size) mid.0 mid.1 map_mid (λ home named_so. at_home_later o makes home (h.homes home named_so)) held_home
      (record { sector = run.sector; id = run.id; page = run.first }) first_at (λ sector. nothing run.first sector (omega arith, omega (arith, some)))
      e cause (right mid.0 named mid.1 map_mid (new_run run named nothing))
