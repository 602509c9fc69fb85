-- Sectors cleared one after the other.
use Rattle.std.proofs.Common.{◌≡◌, ◌≢◌, ◌⊎◌, inl, inr, ℕ, zero, suc, ◌+◌, ◌-◌, ◌≤◌, ◌<◌, false, List, [], ◌∷◌, Option, Some, None, refl, sym, ◌∙◌, ap, subst, arith}
use Rattle.std.specs.Prelude.{slice_get, slice_set, option_map}
use Rattle.std.specs.List.{range_with_len}
use Rattle.std.proofs.lemmas.Bool.{cases_eq, true≢false}
use Rattle.std.proofs.lemmas.List.Elements.{All-replicate}
use Rattle.std.proofs.lemmas.Option.{same_Some, none-some, slice_get_within}
use Rattle.labelled_disk.specs.declared.layout.Layout.{Layout}
use Rattle.labelled_disk.specs.declared.disk.DiskWrite.{DiskWrite}
use Rattle.labelled_disk.specs.declared.disk.DiskWrite.TheVariants as write
use Rattle.labelled_disk.specs.Calls.{RevealsSame}
use Rattle.labelled_disk.specs.CrashState.{written}
use Rattle.labelled_disk.specs.Label.{names, page_label}
use Rattle.labelled_disk.specs.Layout.{vam, vfm}
use Rattle.labelled_disk.specs.Runs.{IsWriteInForm, growth, zero_bytes}
use Rattle.labelled_disk.specs.Sectors.{Sector}
use Rattle.labelled_disk.specs.State.{DiskState, NamesThere}
use Rattle.labelled_disk.specs.WriteRuns.{after_writes}
use Rattle.labelled_disk.proofs.Finds.{get_set_other, get_set_same}
use Rattle.frame_pool.specs.Frames.{Slots}
use Rattle.swapper_kernel.specs.Goes.{Goes, Makes, Pages, Same, Went, this_page}
use Rattle.swapper_kernel.specs.GoesLaws.{goes_itself, goes_then, goes_wider, makes_nothing, makes_then}
use Rattle.swapper_kernel.specs.Homes.{IsLayout}
use Rattle.label_calls.specs.Bytes.{PutsPage, WritesPage}
use Rattle.label_calls.specs.Clearing.{Clears, ClearsOne, ClearsPages, HaveSameLabels, IsZeros, PutsZeros}
use Rattle.label_calls.specs.Labels.{IsUncovered, nobody}
use Rattle.label_calls.specs.Runs.{AreUncovered}
use Rattle.label_calls.proofs.BytesLemmas.{named_sector, put_is, was_written}
use Rattle.label_calls.proofs.RelabelLemmas.{same_swaps}

-- ---- A sector that is set before it is set again.

set_twice : {X : Type 0} (xs : List X) (i : ℕ) (a b : X) → slice_set (slice_set xs i a) i b ≡ slice_set xs i b
set_twice [] i a b = refl
set_twice (x ∷ xs) zero a b = refl
set_twice (x ∷ xs) (suc i) a b = ap (λ (l : _). x ∷ l) (set_twice xs i a b)

set_apart : {X : Type 0} (xs : List X) (i k : ℕ) (a b : X) → i ≢ k → slice_set (slice_set xs i a) k b ≡ slice_set (slice_set xs k b) i a
set_apart [] i k a b other = refl
set_apart (x ∷ xs) zero zero a b other = absurd (other refl)
set_apart (x ∷ xs) zero (suc k) a b other = refl
set_apart (x ∷ xs) (suc i) zero a b other = refl
set_apart (x ∷ xs) (suc i) (suc k) a b other = ap (λ (l : _). x ∷ l) (set_apart xs i k a b (omega arith))

-- pages that are made leave nothing of what was set in one of their sectors
lost_under : (id kind page sector pages i : ℕ) (s : Sector) (m : List Sector) → sector ≤ i → i < sector + pages
    → after_writes (growth id kind page (range_with_len sector pages)) (slice_set m i s) ≡ after_writes (growth id kind page (range_with_len sector pages)) m
lost_under id kind page sector zero i s m from to = absurd (omega (arith, from, to))
lost_under id kind page sector (suc pages) i s m from to = elim (cases_eq i sector) [
  | inl same ↦ rw same (ap (after_writes (growth id kind (page + 1) (range_with_len (sector + 1) pages))) (set_twice m sector s (page_label id kind page, zero_bytes)))
  | inr other ↦
      ap (after_writes (growth id kind (page + 1) (range_with_len (sector + 1) pages))) (set_apart m i sector s (page_label id kind page, zero_bytes) other)
      ∙ lost_under id kind (page + 1) (sector + 1) pages i s (slice_set m sector (page_label id kind page, zero_bytes)) (omega (arith, from, other)) (omega (arith, to))
]

-- ---- One sector.

-- a sector that gets other bytes keeps its label
label_stays : (m : List Sector) (i : ℕ) (s : Sector) (bytes : List ℕ) → slice_get m i ≡ Some s → HaveSameLabels m (slice_set m i (s.0, bytes))
label_stays m i s bytes here j = elim (cases_eq j i) [
  | inl same ↦ rw same (ap (option_map (λ (t : Sector). t.0)) (get_set_same m i (s.0, bytes) (slice_get_within m i s here)) ∙ sym (ap (option_map (λ (t : Sector). t.0)) here))
  | inr other ↦ ap (option_map (λ (t : Sector). t.0)) (get_set_other m i j (s.0, bytes) other)
]

-- it has zeros then, and other sectors stay
module _ (d : List Sector) (sector : ℕ) (s : Sector) (here : slice_get d sector ≡ Some s) where
  put_zeros : IsZeros (slice_set d sector (s.0, zero_bytes)) sector
  put_zeros t at plain = ap (λ (x : Sector). x.1) (sym (same_Some (s.0, zero_bytes) t (sym (get_set_same d sector (s.0, zero_bytes) (slice_get_within d sector s here)) ∙ at)))

  put_others : (j : ℕ) → IsZeros d j → IsZeros (slice_set d sector (s.0, zero_bytes)) j
  put_others j zeros t at plain = elim (cases_eq j sector) [
    | inl same ↦ put_zeros t (ap (slice_get (slice_set d sector (s.0, zero_bytes))) (sym same) ∙ at) plain
    | inr other ↦ zeros t (sym (get_set_other d sector j (s.0, zero_bytes) other) ∙ at) plain
  ]

-- what was there before something was made of it
pub was_there : {X Y : Type 0} (f : X → Y) (o : Option X) (y : Y) → option_map f o ≡ Some y → (x : X) × (o ≡ Some x)
was_there f None y is = absurd (none-some y is)
was_there f (Some x) y is = (x, refl)

-- zeros are a page
zero_form : IsWriteInForm (write.Page 0 nobody zero_bytes)
unfolding zero_bytes
zero_form = (refl, All-replicate (λ b. b < 256) 512 0 (omega arith))

-- what clearing one sector makes of the disk
record ClearedOne (sector : ℕ) (old : DiskState) (slots : Slots) (new : DiskState) : Type 0 where
  makes : Makes (this_page 0 0) [] old slots new slots
  labels : (d e : List Sector) → old.contents ≡ Some d → new.contents ≡ Some e → HaveSameLabels d e
  zeros : (e : List Sector) → new.contents ≡ Some e → IsZeros e sector
  others : (d e : List Sector) → old.contents ≡ Some d → new.contents ≡ Some e → (j : ℕ) → IsZeros d j → IsZeros e j
  goes : (first pages : ℕ) → first ≤ sector → sector < first + pages → AreUncovered slots first pages → Goes (ClearsPages first pages) (this_page 0 0) [] old slots new slots

-- nothing was written
quiet_goes : {old new : DiskState} (slots : Slots) (first pages : ℕ) → RevealsSame old new → Went old new → Goes (ClearsPages first pages) (this_page 0 0) [] old slots new slots
quiet_goes slots first pages same went =
    goes_wider Same (ClearsPages first pages) (this_page 0 0) (λ m n is. subst (ClearsPages first pages m) (sym is) (λ j. refl, λ id kind page. refl)) (λ id page none. absurd none) (same_swaps slots same went)

not_plain : (o : Option Sector) (s : Sector) → o ≡ Some s → option_map (λ s. names s.0 nobody) o ≡ Some false → names s.0 nobody ≡ false
not_plain o s here is = same_Some (names s.0 nobody) false (sym (ap (option_map (λ (t : Sector). names t.0 nobody)) here) ∙ is)

left_alone : (sector : ℕ) {old new : DiskState} (slots : Slots) → RevealsSame old new → NamesThere old sector nobody false → Went old new → ClearedOne sector old slots new
left_alone sector {old = old} {new = new} slots same other went = record {
  makes = (quiet_goes slots 0 0 same went).makes;
  labels = λ d e was now. subst (HaveSameLabels d) (stays d e was now) (λ j. refl);
  zeros = λ e now s here plain. absurd (true≢false (sym plain ∙ not_plain (slice_get e sector) s here (other e (sym same.contents ∙ now))));
  others = λ d e was now j zeros. subst (λ (l : List Sector). IsZeros l j) (stays d e was now) zeros;
  goes = λ first pages from to free. quiet_goes slots first pages same went;
}
  where
    stays : (d e : List Sector) → old.contents ≡ Some d → new.contents ≡ Some e → d ≡ e
    stays d e was now = same_Some d e (sym was ∙ sym same.contents ∙ now)

module _ (sector : ℕ) (old new : DiskState) (slots : Slots) (some : 0 < sector) (puts : PutsZeros sector old new) (went : Went old new) where
  did : WritesPage sector nobody zero_bytes old slots new
  did = was_written sector nobody zero_bytes old new slots some zero_form puts.0 puts.1 went

  after : (d e : List Sector) → old.contents ≡ Some d → new.contents ≡ Some e → (s : Sector) × (slice_get d sector ≡ Some s) × (e ≡ slice_set d sector (s.0, zero_bytes))
  after d e was now =
      let s = named_sector (slice_get d sector) nobody (puts.1 d was) in (
        s.0,
        s.1,
        same_Some e (slice_set d sector (s.0.0, zero_bytes)) (sym now ∙ puts.0.contents ∙ ap (option_map (written (write.Page sector nobody zero_bytes))) was
            ∙ ap (λ (l : List Sector). Some l) (put_is sector nobody zero_bytes d s.0 s.1 s.2)),
      )

  put_goes : (first pages : ℕ) → first ≤ sector → sector < first + pages → AreUncovered slots first pages → Goes (ClearsPages first pages) (this_page 0 0) [] old slots new slots
  put_goes first pages from to free =
      let place : first + (sector - first) ≡ sector = omega (arith, from) in
      goes_wider (PutsPage sector nobody zero_bytes) (ClearsPages first pages) (this_page 0 0)
      (λ m n is. subst (ClearsPages first pages m) (sym is.3) (label_stays m sector is.0 zero_bytes is.1, λ id kind page. lost_under id kind page first pages sector (is.0.0, zero_bytes) m from to)) (λ id page is. is)
      (did.goes (subst (IsUncovered slots) place (free (sector - first) (omega (arith, from, to)))))

  zeros_put : ClearedOne sector old slots new
  zeros_put = record {
    makes = did.makes;
    labels = λ d e was now. let p = after d e was now in subst (HaveSameLabels d) (sym p.2) (label_stays d sector p.0 zero_bytes p.1);
    zeros = λ e now.
        let d = was_there (written (write.Page sector nobody zero_bytes)) old.contents e (sym puts.0.contents ∙ now) in
        let p = after d.0 e d.1 now in
        subst (λ (l : List Sector). IsZeros l sector) (sym p.2) (put_zeros d.0 sector p.0 p.1);
    others = λ d e was now j zeros. let p = after d e was now in subst (λ (l : List Sector). IsZeros l j) (sym p.2) (put_others d sector p.0 p.1 j zeros);
    goes = put_goes;
  }

cleared_one : (sector : ℕ) (old new : DiskState) (slots : Slots) → 0 < sector → Went old new → ClearsOne sector old new → ClearedOne sector old slots new
cleared_one sector old new slots some went (inl (same, other)) = left_alone sector slots same other went
cleared_one sector old new slots some went (inr puts) = zeros_put sector old new slots some puts went

-- ---- Sectors in a row.

pub record IsClearing (sector pages k : ℕ) (old : DiskState) (slots : Slots) (layout : Layout) (new : DiskState) (after : Slots) (later : Layout) : Type 0 where
  pub clears : Clears sector pages k old slots new
  pub same_pool : after ≡ slots
  pub same_layout : later ≡ layout
  pub size : new.sectors ≡ later.sectors
  pub cost : new.transfers ≤ old.transfers + k

pub clearing_none : (sector pages : ℕ) (old : DiskState) (slots : Slots) (layout : Layout) → old.sectors ≡ layout.sectors → IsClearing sector pages 0 old slots layout old slots layout
clearing_none sector pages old slots layout size = record {
  clears = record {
    makes = makes_nothing (this_page 0 0) old slots;
    labels = λ d e was now. subst (HaveSameLabels d) (same_Some d e (sym was ∙ now)) (λ j. refl);
    zeros = λ e now k below. absurd (omega (arith, below));
    goes = λ free. goes_itself (ClearsPages sector pages) (this_page 0 0) old slots (λ m. (λ j. refl, λ id kind page. refl));
  };
  same_pool = refl;
  same_layout = refl;
  size = size;
  cost = omega arith;
}

-- two calls in a row clear what both do
clears_both : (sector pages : ℕ) (m n o : List Sector) → ClearsPages sector pages m n → ClearsPages sector pages n o → ClearsPages sector pages m o
clears_both sector pages m n o one more = (λ j. more.0 j ∙ one.0 j, λ id kind page. more.1 id kind page ∙ one.1 id kind page)

-- what a disk held before a call that wrote no label
pub held_before : {pages : Pages} {run : List DiskWrite} {a b : DiskState} {s t : Slots} → Makes pages run a s b t → (e : List Sector) → b.contents ≡ Some e → (d : List Sector) × (a.contents ≡ Some d)
held_before {a = a} makes e now = was_there (after_writes makes.wrote.writes) a.contents e (sym makes.wrote.appended.contents ∙ now)

-- what it holds after it
pub holds_after : {pages : Pages} {run : List DiskWrite} {a b : DiskState} {s t : Slots} (makes : Makes pages run a s b t) (d : List Sector) → a.contents ≡ Some d → b.contents ≡ Some (after_writes makes.wrote.writes d)
holds_after makes d was = makes.wrote.appended.contents ∙ ap (option_map (after_writes makes.wrote.writes)) was

-- one sector more
pub clearing_more : (sector pages k : ℕ) (old : DiskState) (slots : Slots) (layout : Layout) (mid : DiskState) (pool : Slots) (later : Layout) → IsClearing sector pages k old slots layout mid pool later → 0 < sector → k < pages
    → (new : DiskState) (after : Slots) (last : Layout) → ClearsOne (sector + k) mid new → Went mid new → after ≡ pool → last ≡ later → new.transfers ≤ mid.transfers + 1 → IsClearing sector pages (k + 1) old slots layout new after last
clearing_more sector pages k old slots layout mid pool later so_far some below new after last cleared went frames stays cost =
    let one = cleared_one (sector + k) mid new slots (omega (arith, some)) went cleared in
    let first = so_far.clears in
    record {
      clears = record {
        makes = makes_then first.makes one.makes;
        labels = λ d e was now j. let between = holds_after first.makes d was in one.labels _ e between now j ∙ first.labels d _ was between j;
        zeros = λ e now i less.
            let between = held_before one.makes e now in
            elim (cases_eq i k) [
              | inl same ↦ rw same (one.zeros e now)
              | inr other ↦ one.others between.0 e between.1 now (sector + i) (first.zeros between.0 between.1 i (omega (arith, less, other)))
            ];
        goes = λ free. goes_then (ClearsPages sector pages) (ClearsPages sector pages) (ClearsPages sector pages) (clears_both sector pages) (first.goes free) (one.goes sector pages (omega arith) (omega (arith, below)) free);
      };
      same_pool = frames ∙ so_far.same_pool;
      same_layout = stays ∙ so_far.same_layout;
      size = went.sectors ∙ so_far.size ∙ ap (λ (l : Layout). l.sectors) (sym stays);
      cost = let before = so_far.cost in omega (arith, before, cost);
    }

-- what was written of the next one
may_put : (sector : ℕ) (old new : DiskState) (slots : Slots) → 0 < sector → Went old new → RevealsSame old new ⊎ PutsZeros sector old new → Makes (this_page 0 0) [] old slots new slots
may_put sector old new slots some went (inl same) = (quiet_goes slots 0 0 same went).makes
may_put sector old new slots some went (inr puts) = (did sector old new slots some puts went).makes

pub clearing_stopped : (sector pages k : ℕ) (old : DiskState) (slots : Slots) (layout : Layout) (mid : DiskState) (pool : Slots) (later : Layout) → IsClearing sector pages k old slots layout mid pool later → 0 < sector
    → (new : DiskState) → RevealsSame mid new ⊎ PutsZeros (sector + k) mid new → Went mid new → Makes (this_page 0 0) [] old slots new slots
clearing_stopped sector pages k old slots layout mid pool later so_far some new either went = makes_then so_far.clears.makes (may_put (sector + k) mid new slots (omega (arith, some)) went either)

-- data sectors are not the root
pub after_root : (layout : Layout) (sector : ℕ) → IsLayout layout → layout.first ≤ sector → 0 < sector
after_root layout sector is after =
    let first : layout.first ≡ 1 + vam layout.sectors + vfm layout.sectors = ap (λ (l : Layout). l.first) is.1 in
    omega (arith, first, after)
