-- A file that is shortened or lengthened, from its writes alone.
use Rattle.std.proofs.Common.{◌≡◌, ◌≢◌, ◌⊎◌, inl, inr, ℕ, zero, suc, ◌+◌, ◌<◌, ◌≤◌, Bool, true, false, ◌&&◌, List, [], map, length, Option, Some, None, refl, sym, ◌∙◌, ap, subst, arith, eqb}
use Rattle.std.specs.Prelude.{slice_get, slice_set, find}
use Rattle.std.proofs.lemmas.Bool.{cases_eq, cases_lt, true≢false, eqb-true}
use Rattle.std.proofs.lemmas.Option.{same_Some, none-some, slice_get_within}
use Rattle.labelled_disk.specs.declared.label.Label.{Label}
use Rattle.labelled_disk.specs.declared.label.Wanted.{Wanted}
use Rattle.labelled_disk.specs.declared.disk.DiskWrite.{DiskWrite}
use Rattle.labelled_disk.specs.declared.disk.DiskWrite.TheVariants as kind
use Rattle.labelled_disk.specs.File.{File, Page, byte, size}
use Rattle.labelled_disk.specs.FilesOn.{is_page, disk_file}
use Rattle.labelled_disk.specs.Label.{is_free, names, leader_page}
use Rattle.labelled_disk.specs.Permitted.{Permitted}
use Rattle.labelled_disk.specs.Layout.{data_sectors, first_data}
use Rattle.labelled_disk.specs.CrashState.{crash_state, written}
use Rattle.labelled_disk.specs.Runs.{sector_of, zero_bytes}
use Rattle.labelled_disk.specs.Sectors.{Sector}
use Rattle.labelled_disk.proofs.Finds.{get_set_same}
use Rattle.labelled_disk.proofs.LowestLemmas.{files_are_as_revealed}
use Rattle.labelled_disk.proofs.SectorWrites as w
use Rattle.label_laws.specs.PermittedRuns.{ArePermitted}
use Rattle.label_laws.specs.Mixed.{gives_label}
use Rattle.label_laws.specs.OneFile.{id_of}
use Rattle.label_laws.proofs.FileLemmas.{free_none, label_written, named_id}
use Rattle.label_laws.proofs.PermittedLemmas.{each_permitted}
use Rattle.label_laws.proofs.MixedLemmas.{crash_state_long}
use Rattle.cut_laws.specs.Cut.{unit, IsCutSince}
use Rattle.cut_laws.specs.OwnBytes.{AreOwnOrFree, IsOwnOrFree, of_page}
use Rattle.cut_laws.specs.ResizeLaws.{AddsNextPage, FreesLastPage, IsResized, ResizedHasSizeBetween}
use Rattle.cut_laws.specs.ShapeLaws.{IsWholeOn}
use Rattle.cut_laws.specs.SizeLaws.{IsOnPage, IsWholeThroughout}
use Rattle.cut_laws.specs.Windows.{EachWrite, IsLabelWriteOf, IsPageWriteOf, IsUnwritten, disk_page}
use Rattle.cut_laws.proofs.UnitLemmas.{same_units}
use Rattle.cut_laws.proofs.CrashStateLemmas.{get_some, data_at, crash_state-step}
use Rattle.cut_laws.proofs.NumberLemmas.{some_or_each}
use Rattle.cut_laws.proofs.PairLemmas.{Alike, alike_passes, alike_test, alike_then, lowest as lowest_of}
use Rattle.cut_laws.proofs.SizeLemmas.{pages_are_own, shown, size_of_one_crash_state}
use Rattle.cut_laws.proofs.SteadyLemmas.{before, found_page, same_alike}
use Rattle.cut_laws.proofs.StayLemmas.{Of, named_page, of_id, turn_same}
use Rattle.cut_laws.proofs.TurnLemmas.{Turn, stays, bytes, fresh, freed, marked, turns, id_of_page}
use Rattle.cut_laws.proofs.WholeWriteLemmas.{whole_step}

-- of a label that passes no free one does
page_not_free : (id p : ℕ) (l : Label) → is_page id p (l, []) ≡ true → is_free l ≡ true → ⊥
page_not_free id p l is free = true≢false (sym (w.page_of true id p (l, []) is) ∙ ap (λ (b : Bool). b && eqb l.id id) (free_none l free))

module _ (d : List Sector) (writes : List DiskWrite) (id : ℕ) (permitted : ArePermitted d writes) (resized : IsResized d writes id) where
  whole_throughout : IsWholeThroughout d writes id
  whole_throughout zero few = resized.whole
  whole_throughout (suc k) few =
      let write = get_some writes k (omega (arith, few)) in
      subst (λ (e : List Sector). IsWholeOn e id) (sym (crash_state-step d writes k write.0 write.1))
      (whole_step id (crash_state d writes k) write.0 (each_permitted d writes permitted k write.0 write.1) (resized.at_end k write.0 write.1) (whole_throughout k (omega (arith, few))))

  only_pages : EachWrite (λ now write. IsLabelWriteOf id now write → IsOnPage now write) d writes
  only_pages k write is of = either write (resized.at_end k write is of)
    where
      either : (write : DiskWrite) → FreesLastPage id (crash_state d writes k) write ⊎ AddsNextPage id (crash_state d writes k) write → IsOnPage (crash_state d writes k) write
      either (kind.Whole sector label page) (inl last) = absurd last
      either (kind.Whole sector label page) (inr next) = λ e. omega (arith, e, w.page_number true id (size next.0) (label, page) next.2, next.3)
      either (kind.LabelOnly sector label) (inl last) = (last.3, last.4, λ e. absurd (omega (arith, e, w.page_number true id last.5 last.3 last.7, last.6, numbered last.1 last.2)))
        where
          numbered : (f : File) → disk_file true (crash_state d writes k) id ≡ Some f → size f ≤ leader_page
          numbered f at = ((files_are_as_revealed true (crash_state d writes k)).revealed id f at).0.numbered
      either (kind.LabelOnly sector label) (inr next) = absurd next
      either (kind.Page sector wanted page) (inl last) = absurd last
      either (kind.Page sector wanted page) (inr next) = absurd next

  -- Sector i of the data.
  module _ (i : ℕ) (low : first_data (length d) ≤ i) where
    -- write k gives or takes a label of the file here; or it doesn't
    abbrev LabelledAt : ℕ → Type 0
    LabelledAt k = (write : DiskWrite) × (slice_get writes k ≡ Some write) × IsLabelWriteOf id (crash_state d writes k) write × (sector_of write ≡ i)

    decide : (k : ℕ) → LabelledAt k ⊎ (LabelledAt k → ⊥)
    decide k = either (slice_get writes k) refl
      where
        given : (write : DiskWrite) → slice_get writes k ≡ Some write → (b : Bool) → gives_label write ≡ b → (id_of (crash_state d writes k) write ≡ id) ⊎ (id_of (crash_state d writes k) write ≢ id)
            → (sector_of write ≡ i) ⊎ (sector_of write ≢ i) → LabelledAt k ⊎ (LabelledAt k → ⊥)
        given write is true f (inl of) (inl at) = inl (write, is, (f, of), at)
        given write is false f own at = inr (λ l. true≢false (sym l.2.0 ∙ ap gives_label (same_Some l.0 write (sym l.1 ∙ is)) ∙ f))
        given write is true f (inr apart) at = inr (λ l. apart (ap (id_of (crash_state d writes k)) (sym (same_Some l.0 write (sym l.1 ∙ is))) ∙ l.2.1))
        given write is true f (inl of) (inr off) = inr (λ l. off (ap sector_of (sym (same_Some l.0 write (sym l.1 ∙ is))) ∙ l.3))

        either : (o : Option DiskWrite) → slice_get writes k ≡ o → LabelledAt k ⊎ (LabelledAt k → ⊥)
        either None f = inr (λ l. none-some l.0 (sym f ∙ l.1))
        either (Some write) f = given write f (gives_label write) refl (cases_eq (id_of (crash_state d writes k) write) id) (cases_eq (sector_of write) i)

    -- with no such write the sector is of the file throughout, or not
    steady : ((k : ℕ) → k ≤ length writes → LabelledAt k → ⊥) → (s : Sector) → slice_get d i ≡ Some s → (k : ℕ) → k ≤ length writes → (t : Sector) → slice_get (crash_state d writes k) i ≡ Some t → Alike (Of id) s.0 t.0
    steady none s here =
        turns (λ k t. Alike (Of id) s.0 t.0) d writes i permitted low (λ t there. inl (ap (λ (v : Sector). v.0) (same_Some s t (sym here ∙ there))))
        (λ k write u t few is now then turned so. alike_then (Of id) s.0 u.0 t.0 so (one k write u t is now (none k (omega (arith, few))) turned))
      where
        one : (k : ℕ) (write : DiskWrite) (u t : Sector) → slice_get writes k ≡ Some write → slice_get (crash_state d writes k) i ≡ Some u → (LabelledAt k → ⊥) → Turn write i u t → Alike (Of id) u.0 t.0
        one k write u t is now none (stays e) = inl (ap (λ (v : Sector). v.0) (sym e))
        one k write u t is now none (bytes wanted eq named label) = inl (sym label)
        one k write u t is now none (fresh eq free taken page) =
            same_alike (Of id) u t (turn_same id (crash_state d writes k) write i u t now (λ e. none (write, is, (ap gives_label eq, sym e), ap sector_of eq)) (fresh eq free taken page))
        one k write u t is now none (freed eq new) = same_alike (Of id) u t (turn_same id (crash_state d writes k) write i u t now (λ e. none (write, is, (ap gives_label eq, sym e), ap sector_of eq)) (freed eq new))
        one k write u t is now none (marked eq same old new page) =
            same_alike (Of id) u t (turn_same id (crash_state d writes k) write i u t now (λ e. none (write, is, (ap gives_label eq, sym e), ap sector_of eq)) (marked eq same old new page))

    -- with one, the label stays before it and after it
    around : (k0 : ℕ) → LabelledAt k0 → (s u : Sector) → slice_get d i ≡ Some s → slice_get (crash_state d writes (suc k0)) i ≡ Some u
        → (k : ℕ) → k ≤ length writes → (t : Sector) → slice_get (crash_state d writes k) i ≡ Some t → (k ≤ k0 → t.0 ≡ s.0) × (k0 < k → t.0 ≡ u.0)
    around k0 at s u here after =
        turns (λ k t. (k ≤ k0 → t.0 ≡ s.0) × (k0 < k → t.0 ≡ u.0)) d writes i permitted low
        (λ t there. (λ early. ap (λ (v : Sector). v.0) (same_Some t s (sym there ∙ here)), λ late. absurd (omega (arith, late))))
        (λ k write v t few is now then turned so. (
          λ early. one k write v t is now turned (λ e. omega (arith, early, e)) ∙ so.0 (omega (arith, early)),
          λ late. late_label k write v t is now then turned so.1 late (cases_eq k k0),
        ))
      where
        one : (k : ℕ) (write : DiskWrite) (v t : Sector) → slice_get writes k ≡ Some write → slice_get (crash_state d writes k) i ≡ Some v → Turn write i v t → k ≢ k0 → t.0 ≡ v.0
        one k write v t is now (stays e) off = ap (λ (x : Sector). x.0) e
        one k write v t is now (bytes wanted eq named label) off = label
        one k write v t is now (fresh eq free taken page) off = absurd (off (resized.one_label k0 k at.0 write at.1 at.2 is (ap gives_label eq) (ap sector_of eq ∙ sym at.3)))
        one k write v t is now (freed eq new) off = absurd (off (resized.one_label k0 k at.0 write at.1 at.2 is (ap gives_label eq) (ap sector_of eq ∙ sym at.3)))
        one k write v t is now (marked eq same old new page) off = absurd (off (resized.one_label k0 k at.0 write at.1 at.2 is (ap gives_label eq) (ap sector_of eq ∙ sym at.3)))

        late_label : (k : ℕ) (write : DiskWrite) (v t : Sector) → slice_get writes k ≡ Some write → slice_get (crash_state d writes k) i ≡ Some v → slice_get (crash_state d writes (suc k)) i ≡ Some t
            → Turn write i v t → (k0 < k → v.0 ≡ u.0) → k0 < suc k → (k ≡ k0) ⊎ (k ≢ k0) → t.0 ≡ u.0
        late_label k write v t is now then turned so late (inl e) = ap (λ (x : Sector). x.0) (same_Some t u (sym then ∙ ap (λ (n : ℕ). slice_get (crash_state d writes (suc n)) i) e ∙ after))
        late_label k write v t is now then turned so late (inr off) = one k write v t is now turned off ∙ so (omega (arith, late, off))

    -- that write frees a page of the file, or makes a free sector one
    abbrev Freed : Sector → Sector → Type 0
    Freed a u = ((p : ℕ) × (is_page id p a ≡ true)) × (is_free u.0 ≡ true)

    abbrev Made : Sector → Sector → Type 0
    Made a u = (is_free a.0 ≡ true) × ((p : ℕ) × (is_page id p u ≡ true))

    at_write : (k0 : ℕ) → LabelledAt k0 → (a u : Sector) → slice_get (crash_state d writes k0) i ≡ Some a → slice_get (crash_state d writes (suc k0)) i ≡ Some u → Freed a u ⊎ Made a u
    at_write k0 at a u here after =
        either at.0 at.3 (each_permitted d writes permitted k0 at.0 at.1) (resized.at_end k0 at.0 at.1 at.2) (ap (λ (e : List Sector). slice_get e i) (sym (crash_state-step d writes k0 at.0 at.1)) ∙ after)
      where
        either : (write : DiskWrite) → sector_of write ≡ i → Permitted (crash_state d writes k0) write → FreesLastPage id (crash_state d writes k0) write ⊎ AddsNextPage id (crash_state d writes k0) write
            → slice_get (written write (crash_state d writes k0)) i ≡ Some u → Freed a u ⊎ Made a u
        either (kind.Page sector wanted page) on may (inl last) there = absurd last
        either (kind.Page sector wanted page) on may (inr next) there = absurd next
        either (kind.Whole sector label page) on may (inl last) there = absurd last
        either (kind.LabelOnly sector label) on may (inr next) there = absurd next
        either (kind.LabelOnly sector label) on may (inl last) there =
            let old : last.3 ≡ a = same_Some last.3 a (sym last.4 ∙ ap (λ (n : ℕ). slice_get (crash_state d writes k0) n) on ∙ here) in
            let new : (label, a.1) ≡ u =
            same_Some (label, a.1) u (sym (get_set_same (crash_state d writes k0) i (label, a.1) (slice_get_within (crash_state d writes k0) i a here))
            ∙ ap (λ (e : List Sector). slice_get e i) (sym (label_written (crash_state d writes k0) i a label here)) ∙ ap (λ (n : ℕ). slice_get (written (kind.LabelOnly n label) (crash_state d writes k0)) i) (sym on) ∙ there) in
            inl ((last.5, ap (λ (v : Sector). is_page id last.5 v) (sym old) ∙ last.7), ap (λ (v : Sector). is_free v.0) (sym new) ∙ ap is_free last.0)
        either (kind.Whole sector label page) on (inl root) (inr next) there = absurd (true≢false (sym next.2 ∙ ap (λ (l : Label). is_page id (size next.0) (l, page)) root.root_label))
        either (kind.Whole sector label page) on (inr may) (inr next) there =
            let old : may.old.0 ≡ a = same_Some may.old.0 a (sym may.old.1.here ∙ ap (λ (n : ℕ). slice_get (crash_state d writes k0) n) on ∙ here) in
            let new : (label, page) ≡ u =
            same_Some (label, page) u (sym (get_set_same (crash_state d writes k0) i (label, page) (slice_get_within (crash_state d writes k0) i a here))
            ∙ ap (λ (n : ℕ). slice_get (slice_set (crash_state d writes k0) n (label, page)) i) (sym on) ∙ there) in
            inr (ap (λ (v : Sector). is_free v.0) (sym old) ∙ may.old.2, (size next.0, ap (λ (v : Sector). is_page id (size next.0) v) (sym new) ∙ next.2))

    sector_at : (k : ℕ) (j : ℕ) (v : Sector) → slice_get (crash_state d writes j) i ≡ Some v → (s : Sector) × (slice_get (crash_state d writes k) i ≡ Some s)
    sector_at k j v there = get_some (crash_state d writes k) i (omega (arith, slice_get_within (crash_state d writes j) i v there, crash_state_long d writes j, crash_state_long d writes k))

    -- a sector that is a page of the file in some crash state is that or free at each
    own_page : (p j : ℕ) (v : Sector) → j ≤ length writes → slice_get (crash_state d writes j) i ≡ Some v → is_page id p v ≡ true → IsOwnOrFree (of_page id p) d writes i
    own_page p j v few there passes = either (some_or_each LabelledAt (λ k. LabelledAt k → ⊥) decide (length writes))
      where
        first : (s : Sector) × (slice_get (crash_state d writes 0) i ≡ Some s)
        first = sector_at 0 j v there

        as_v : (l : Label) → v.0 ≡ l → is_page id p (l, []) ≡ true
        as_v l e = ap (λ (m : Label). is_page id p (m, [])) (sym e) ∙ passes

        none : ((k : ℕ) → k ≤ length writes → LabelledAt k → ⊥) → IsOwnOrFree (of_page id p) d writes i
        none never = record {
          own_or_free = λ k s k_few at.
              let mine : Of id first.0.0 ≡ true = sym (alike_test (Of id) first.0.0 v.0 (steady never first.0 first.1 j few v there)) ∙ w.page_of true id p v passes in
              let a : first.0.0 ≡ v.0 = alike_passes (Of id) first.0.0 v.0 (steady never first.0 first.1 j few v there) mine in
              inl (as_v s.0 (sym a ∙ alike_passes (Of id) first.0.0 s.0 (steady never first.0 first.1 k k_few s at) mine));
          zeros = λ s here free.
              let mine : Of id s.0 ≡ true = sym (alike_test (Of id) s.0 v.0 (steady never s here j few v there)) ∙ w.page_of true id p v passes in
              absurd (true≢false (sym mine ∙ ap (λ (b : Bool). b && eqb s.0.id id) (free_none s.0 free)));
        }

        some : (k0 : ℕ) → LabelledAt k0 → IsOwnOrFree (of_page id p) d writes i
        some k0 at = by (sector_at k0 j v there) (sector_at (suc k0) j v there)
          where
            freed_case : (u : Sector) → is_free u.0 ≡ true → ((k : ℕ) → k ≤ length writes → (t : Sector) → slice_get (crash_state d writes k) i ≡ Some t → (k ≤ k0 → t.0 ≡ first.0.0) × (k0 < k → t.0 ≡ u.0))
                → (k0 < j) ⊎ (j ≤ k0) → IsOwnOrFree (of_page id p) d writes i
            freed_case u free kept (inl late) = absurd (page_not_free id p v.0 passes (ap is_free ((kept j few v there).1 late) ∙ free))
            freed_case u free kept (inr early) =
                let same : v.0 ≡ first.0.0 = (kept j few v there).0 early in
                record {
                  own_or_free = λ k s k_few at. elim (cases_lt k0 k) [
                    | inl after ↦ inr (ap is_free ((kept k k_few s at).1 after) ∙ free)
                    | inr up_to ↦ inl (as_v s.0 (same ∙ sym ((kept k k_few s at).0 up_to)))
                  ];
                  zeros = λ s here free. absurd (page_not_free id p s.0 (as_v s.0 (same ∙ ap (λ (x : Sector). x.0) (same_Some first.0 s (sym first.1 ∙ here)))) free);
                }

            made_case : (u : Sector) → is_free first.0.0 ≡ true → ((k : ℕ) → k ≤ length writes → (t : Sector) → slice_get (crash_state d writes k) i ≡ Some t → (k ≤ k0 → t.0 ≡ first.0.0) × (k0 < k → t.0 ≡ u.0))
                → (k0 < j) ⊎ (j ≤ k0) → IsOwnOrFree (of_page id p) d writes i
            made_case u free kept (inr early) = absurd (page_not_free id p v.0 passes (ap is_free ((kept j few v there).0 early) ∙ free))
            made_case u free kept (inl late) =
                let same : v.0 ≡ u.0 = (kept j few v there).1 late in
                record {
                  own_or_free = λ k s k_few at. elim (cases_lt k0 k) [
                    | inl after ↦ inl (as_v s.0 (same ∙ sym ((kept k k_few s at).1 after)))
                    | inr up_to ↦ inr (ap is_free ((kept k k_few s at).0 up_to) ∙ free)
                  ];
                  zeros = λ s here free. resized.zeros k0 at.0 s at.1 at.2 (ap (λ (n : ℕ). slice_get d n) at.3 ∙ here) free;
                }

            by : (a : Sector) × (slice_get (crash_state d writes k0) i ≡ Some a) → (u : Sector) × (slice_get (crash_state d writes (suc k0)) i ≡ Some u) → IsOwnOrFree (of_page id p) d writes i
            by a u =
                let kept = around k0 at first.0 u.0 first.1 u.1 in
                let old : a.0.0 ≡ first.0.0 = (kept k0 (omega (arith, slice_get_within writes k0 at.0 at.1)) a.0 a.1).0 (omega arith) in
                elim (at_write k0 at a.0 u.0 a.1 u.1) [
                  | inl given_up ↦ freed_case u.0 given_up.1 kept (cases_lt k0 j)
                  | inr made ↦ made_case u.0 (ap is_free (sym old) ∙ made.0) kept (cases_lt k0 j)
                ]

        either : ((k : ℕ) × (k ≤ length writes) × LabelledAt k) ⊎ ((k : ℕ) → k ≤ length writes → LabelledAt k → ⊥) → IsOwnOrFree (of_page id p) d writes i
        either (inl one) = some one.0 one.2
        either (inr never) = none never

    -- A page that is not written: a sector that was this page at first keeps its bytes, and one that was free keeps its zeros.
    module _ (p : ℕ) (own : IsOwnOrFree (of_page id p) d writes i) (same : IsUnwritten id p d writes) where
      not_written : (k : ℕ) (write : DiskWrite) (s : Sector) (wanted : Wanted) (page : List ℕ) → k < length writes → slice_get writes k ≡ Some write → slice_get (crash_state d writes k) i ≡ Some s
          → write ≡ kind.Page i wanted page → names s.0 wanted ≡ true → ⊥
      not_written k write s wanted page few is now eq named = elim (own.own_or_free k s (omega (arith, few)) now) [
        | inl mine ↦ same k write is (subst (λ (v : DiskWrite). IsPageWriteOf id p v) (sym eq)
            (sym (named_id s.0 wanted named) ∙ of_id id s (w.page_of true id p s mine), sym (named_page s.0 wanted named) ∙ w.page_number true id p s mine))
        | inr free ↦ resized.free_unwritten k write is (ap gives_label eq) (id_of_page (crash_state d writes k) write i wanted page s.0 eq named ∙ eqb-true s.0.id 0 free)
      ]

      -- a sector that was free keeps its zeros
      zeros_stay : (s : Sector) → slice_get d i ≡ Some s → is_free s.0 ≡ true → (k : ℕ) → k ≤ length writes → (t : Sector) → slice_get (crash_state d writes k) i ≡ Some t → t.1 ≡ zero_bytes
      zeros_stay s here free =
          turns (λ k t. t.1 ≡ zero_bytes) d writes i permitted low (λ t there. ap (λ (v : Sector). v.1) (same_Some t s (sym there ∙ here)) ∙ own.zeros s here free)
          (λ k write u t few is now then turned so. one k write u t few is now so turned)
        where
          one : (k : ℕ) (write : DiskWrite) (u t : Sector) → k < length writes → slice_get writes k ≡ Some write → slice_get (crash_state d writes k) i ≡ Some u → u.1 ≡ zero_bytes → Turn write i u t → t.1 ≡ zero_bytes
          one k write u t few is now so (stays e) = ap (λ (v : Sector). v.1) e ∙ so
          one k write u t few is now so (bytes wanted eq named label) = absurd (not_written k write u wanted t.1 few is now eq named)
          one k write u t few is now so (fresh eq free taken page) = page
          one k write u t few is now so (freed eq new) = ap (λ (v : Sector). v.1) new ∙ so
          one k write u t few is now so (marked eq old first last page) = page ∙ so

      -- a sector that was this page keeps its bytes
      bytes_stay : (s : Sector) → slice_get d i ≡ Some s → is_page id p s ≡ true → (k : ℕ) → k ≤ length writes → (t : Sector) → slice_get (crash_state d writes k) i ≡ Some t → t.1 ≡ s.1
      bytes_stay s here is_this =
          turns (λ k t. t.1 ≡ s.1) d writes i permitted low (λ t there. ap (λ (v : Sector). v.1) (same_Some t s (sym there ∙ here)))
          (λ k write u t few is now then turned so. one k write u t few is now then so turned)
        where
          -- it is made no page again
          again : (k : ℕ) (write : DiskWrite) (u t : Sector) → k < length writes → slice_get writes k ≡ Some write → slice_get (crash_state d writes k) i ≡ Some u → slice_get (crash_state d writes (suc k)) i ≡ Some t
              → write ≡ kind.Whole i t.0 t.1 → is_free u.0 ≡ true → is_free t.0 ≡ false → ⊥
          again k write u t few is now then eq free taken = elim (own.own_or_free (suc k) t (omega (arith, few)) then) [
            | inl mine ↦ (
                let at : LabelledAt k = (write, is, (ap gives_label eq, ap (id_of (crash_state d writes k)) eq ∙ of_id id t (w.page_of true id p t mine)), ap sector_of eq) in
                let old : u.0 ≡ s.0 = (around k at s t here then k (omega (arith, few)) u now).0 (omega arith) in
                page_not_free id p s.0 is_this (ap is_free (sym old) ∙ free))
            | inr none ↦ true≢false (sym none ∙ taken)
          ]

          one : (k : ℕ) (write : DiskWrite) (u t : Sector) → k < length writes → slice_get writes k ≡ Some write → slice_get (crash_state d writes k) i ≡ Some u → slice_get (crash_state d writes (suc k)) i ≡ Some t
              → u.1 ≡ s.1 → Turn write i u t → t.1 ≡ s.1
          one k write u t few is now then so (stays e) = ap (λ (v : Sector). v.1) e ∙ so
          one k write u t few is now then so (bytes wanted eq named label) = absurd (not_written k write u wanted t.1 few is now eq named)
          one k write u t few is now then so (fresh eq free taken page) = absurd (again k write u t few is now then eq free taken)
          one k write u t few is now then so (freed eq new) = ap (λ (v : Sector). v.1) new ∙ so
          one k write u t few is now then so (marked eq old first last page) = page ∙ so

  each_own : (p : ℕ) → AreOwnOrFree (of_page id p) d writes
  each_own p i j v low few there passes = own_page i low p j v few there passes

  module _ (e : List Sector) (cut : IsCutSince d writes e) where
    unwritten : (p : ℕ) (cells : Page) → p < leader_page → IsUnwritten id p d writes → disk_page e id p ≡ Some cells → (disk_page d id p ≡ Some cells) ⊎ (cells ≡ map byte zero_bytes)
    unwritten p cells p_low same is = either (first.own_or_free 0 old.0 (omega arith) old.1)
      where
        t : (t : Sector) × (find (is_page id p) (data_sectors e) ≡ Some t) × (map byte t.1 ≡ cells)
        t = found_page d writes e cut id p cells is

        place : (i : ℕ) × (t : Sector) × (slice_get (data_sectors e) i ≡ Some t) × (is_page id p t ≡ true) × (map byte t.1 ≡ cells)
        place = let at = lowest_of (is_page id p) (data_sectors e) t.0 t.1 in (at.0, t.0, at.1.here, at.1.passes, t.2)

        here : slice_get e (first_data (length d) + place.0) ≡ Some place.1
        here = ap (λ (n : ℕ). slice_get e (first_data n + place.0)) (sym cut.sectors) ∙ sym (data_at e place.0) ∙ place.2

        old : (s : Sector) × (slice_get (crash_state d writes 0) (first_data (length d) + place.0) ≡ Some s)
        old = before d writes e cut (first_data (length d) + place.0) place.1 0 here

        first : IsOwnOrFree (of_page id p) d writes (first_data (length d) + place.0)
        first =
            let label = cut.labels (first_data (length d) + place.0) place.1 here in
            own_page (first_data (length d) + place.0) (omega arith) p label.0 label.3.0 label.2 label.3.1 (ap (λ (l : Label). is_page id p (l, [])) label.3.2 ∙ place.3)

        -- bytes that stood throughout stand
        same_page : (page : List ℕ) → ((k : ℕ) → k ≤ length writes → (s : Sector) → slice_get (crash_state d writes k) (first_data (length d) + place.0) ≡ Some s → s.1 ≡ page) → place.1.1 ≡ page
        same_page page all = same_units place.1.1 page (λ u.
            let part = cut.units (first_data (length d) + place.0) u place.1 here in
            sym part.3.2 ∙ ap (unit u) (all part.0 part.2 part.3.0 part.3.1))

        either : (is_page id p old.0 ≡ true) ⊎ (is_free old.0.0 ≡ true) → (disk_page d id p ≡ Some cells) ⊎ (cells ≡ map byte zero_bytes)
        either (inl mine) =
            let page = same_page old.0.1 (bytes_stay (first_data (length d) + place.0) (omega arith) p first same old.0 old.1 mine) in
            inl (shown d writes e id cut whole_throughout 0 p place.0 old.0 (omega arith) (data_at d place.0 ∙ old.1) mine ∙ ap (λ (l : List ℕ). Some (map byte l)) (sym page) ∙ ap (λ (c : Page). Some c) place.4)
        either (inr free) =
            inr (sym place.4 ∙ ap (λ (l : List ℕ). map byte l) (same_page zero_bytes (zeros_stay (first_data (length d) + place.0) (omega arith) p first same old.0 old.1 free)))

pub resized_has_size_between : (all : Bool) → ResizedHasSizeBetween all
resized_has_size_between all d writes e id permitted cut resized = record {
  shape = size_of_one_crash_state all d writes e id permitted cut (whole_throughout d writes id permitted resized) (only_pages d writes id permitted resized);
  pages = pages_are_own d writes e id permitted cut (whole_throughout d writes id permitted resized) resized.free_unwritten (λ p. each_own d writes id permitted resized p);
  unwritten = λ p cells low same is. unwritten d writes id permitted resized e cut p cells low same is;
}
