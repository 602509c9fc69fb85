-- One walk over the entries in order: what each says of its sector.
use Rattle.std.proofs.Common.{◌≡◌, ◌≢◌, ◌⊎◌, inl, inr, ℕ, ◌+◌, ◌^◌, ◌<◌, ◌≤◌, true, false, List, map, Option, Some, None, refl, sym, ◌∙◌, ap, subst, arith}
use Rattle.std.specs.Prelude.{slice_get, option_map}
use Rattle.std.proofs.lemmas.Option.{same_Some, none-some, slice_get-map}
use Rattle.std.proofs.lemmas.Bool.{cases_lt, cases_eq}
use Rattle.labelled_disk.specs.declared.label.Label.{Label}
use Rattle.labelled_disk.specs.Label.{is_file}
use Rattle.labelled_disk.specs.Sectors.{Sector}
use Rattle.labelled_disk.specs.Layout.{data_sectors}
use Rattle.labelled_disk.specs.Lowest.{is_needed}
use Rattle.label_survey.specs.declared.entries.Entry.{Entry}
use Rattle.label_survey.specs.declared.sector_state.SectorState.{SectorState}
use Rattle.label_survey.specs.declared.sector_state.SectorState.TheVariants.{Orphan, Lost, Leader, Page}
use Rattle.label_survey.specs.declared.walk.Progress.{Progress}
use Rattle.label_survey.specs.Entries.{place_of, entry_of, Precedes, AreInOrder, AreOf}
use Rattle.label_survey.specs.Progress.{IsSeen, HasCome, Takes}
use Rattle.label_survey.specs.SectorStates.{sector_state}
use Rattle.label_survey.proofs.SectorStateLemmas.{Is, IsSomewhere, file_id_above, twin_below, place_missing, place_past, lowest_needed, is_leader, is_a_page, is_lost, is_orphan}

-- truly before it
abbrev pub IsBefore : Entry → Entry → Type 0
IsBefore a b = (a.id < b.id) ⊎ ((a.id ≡ b.id) × ((a.place < b.place) ⊎ ((a.place ≡ b.place) × (a.sector < b.sector))))

never_both : (a b : Entry) → Precedes a b → IsBefore b a → ⊥
never_both a b (inl l) (inl m) = omega (arith, l, m)
never_both a b (inl l) (inr m) = omega (arith, l, m.0)
never_both a b (inr l) (inl m) = omega (arith, l.0, m)
never_both a b (inr (same, inl l)) (inr (back, inl m)) = omega (arith, l, m)
never_both a b (inr (same, inl l)) (inr (back, inr m)) = omega (arith, l, m.0)
never_both a b (inr (same, inr l)) (inr (back, inl m)) = omega (arith, l.0, m)
never_both a b (inr (same, inr l)) (inr (back, inr m)) = omega (arith, l.1, m.1)

id_rises : (a b : Entry) → Precedes a b → a.id ≤ b.id
id_rises a b (inl l) = omega (arith, l)
id_rises a b (inr l) = omega (arith, l.0)

place_rises : (a b : Entry) → Precedes a b → a.id ≡ b.id → a.place ≤ b.place
place_rises a b (inl l) same = absurd (omega (arith, l, same))
place_rises a b (inr (is, inl l)) same = omega (arith, l)
place_rises a b (inr (is, inr l)) same = omega (arith, l.0)

sector_rises : (a b : Entry) → Precedes a b → a.id ≡ b.id → a.place ≡ b.place → a.sector ≤ b.sector
sector_rises a b (inl l) same at = absurd (omega (arith, l, same))
sector_rises a b (inr (is, inl l)) same at = absurd (omega (arith, l, at))
sector_rises a b (inr (is, inr l)) same at = l.1

seen_still : (entries : List Entry) (k id place : ℕ) → IsSeen entries k id place → IsSeen entries (k + 1) id place
seen_still entries k id place seen = (seen.0, seen.1, omega (arith, seen.2), seen.3, seen.4, seen.5)

pub sector_of : (xs : List Sector) (i : ℕ) (l : Label) → slice_get (map (λ s. s.0) xs) i ≡ Some l → (s : Sector) × (slice_get xs i ≡ Some s) × (s.0 ≡ l)
sector_of xs i l is = either (slice_get xs i) refl
  where
    either : (o : Option Sector) → slice_get xs i ≡ o → (s : Sector) × (slice_get xs i ≡ Some s) × (s.0 ≡ l)
    either None e = absurd (none-some l (ap (option_map (λ (s : Sector). s.0)) (sym e) ∙ sym (slice_get-map (λ (s : Sector). s.0) xs i) ∙ is))
    either (Some s) e = (s, e, same_Some s.0 l (ap (option_map (λ (s : Sector). s.0)) (sym e) ∙ sym (slice_get-map (λ (s : Sector). s.0) xs i) ∙ is))

module _ (d : List Sector) (entries : List Entry) (of : AreOf (map (λ s. s.0) (data_sectors d)) entries) where
  pub entry_is : (j : ℕ) (a : Entry) → slice_get entries j ≡ Some a → Is d a.sector a.id a.place
  entry_is j a at =
      let own = of.each j a at in
      let there = sector_of (data_sectors d) a.sector own.0 own.1 in
      record {
        s = there.0;
        here = there.1;
        file = ap is_file there.2 ∙ own.2;
        named = ap (λ (l : Label). l.id) there.2 ∙ sym (ap (λ (b : Entry). b.id) own.3);
        placed = ap place_of there.2 ∙ sym (ap (λ (b : Entry). b.place) own.3);
      }

  -- the entry of such a sector
  record HasEntry (i id place : ℕ) : Type 0 where
    j : ℕ
    a : Entry
    at : slice_get entries j ≡ Some a
    id_is : a.id ≡ id
    place_is : a.place ≡ place
    sector_is : a.sector ≡ i

  entry_there : (i id place : ℕ) → Is d i id place → HasEntry i id place
  entry_there i id place is =
      let found = of.all i is.s.0 (slice_get-map (λ (s : Sector). s.0) (data_sectors d) i ∙ ap (option_map (λ (s : Sector). s.0)) is.here) is.file in
      record { j = found.0; a = entry_of i is.s.0; at = found.1; id_is = is.named; place_is = is.placed; sector_is = refl }

  module _ (order : AreInOrder entries) (k : ℕ) (e : Entry) (at : slice_get entries k ≡ Some e) (old : Progress) (come : HasCome entries k old) where
    is_entry : Is d e.sector e.id e.place
    is_entry = entry_is k e at

    -- one that is truly before it has come
    has_come : (j : ℕ) (a : Entry) → slice_get entries j ≡ Some a → IsBefore a e → j < k
    has_come j a here before = either (cases_lt j k)
      where
        either : (j < k) ⊎ (k ≤ j) → j < k
        either (inl l) = l
        either (inr l) = absurd (never_both e a (order k j e a l at here) before)

    -- one of those that have come with it is not after it
    not_after : (j : ℕ) (a : Entry) → j < k + 1 → slice_get entries j ≡ Some a → Precedes a e
    not_after j a l here = order j k a e (omega (arith, l)) here at

    id_above : e.id ≢ old.id → old.id < e.id
    id_above apart = elim come.begun [
      | inl none ↦ omega (arith, none, apart)
      | inr seen ↦ let first = seen 0 (omega (arith, come.above)) in omega (arith, apart, first.4, id_rises first.1 e (not_after first.0 first.1 (omega (arith, first.2)) first.3))
    ]

    begun : e.id ≡ old.id → (place : ℕ) → place < old.next → IsSeen entries k old.id place
    begun same = elim come.begun [
      | inl none ↦ absurd (omega (arith, none, same, file_id_above d e.sector e.id e.place is_entry))
      | inr seen ↦ seen
    ]

    said : (says : SectorState) → sector_state d e.sector is_entry.s ≡ says → (s : Sector) → slice_get (data_sectors d) e.sector ≡ Some s → sector_state d e.sector s ≡ says
    said says is s here = subst (λ (t : Sector). sector_state d e.sector t ≡ says) (same_Some is_entry.s s (sym is_entry.here ∙ here)) is

    begun_still : (next : ℕ) → next ≤ old.next → (old.id ≡ 0) ⊎ ((place : ℕ) → place < next → IsSeen entries (k + 1) old.id place)
    begun_still next few = elim come.begun [
      | inl none ↦ inl none
      | inr seen ↦ inr (λ place l. seen_still entries k old.id place (seen place (omega (arith, l, few))))
    ]

    -- with this one, or earlier
    or_this : (P : Entry → Type 0) → (j : ℕ) (a : Entry) → j < k + 1 → slice_get entries j ≡ Some a → (j < k → P a) → P e → P a
    or_this P j a l here earlier this = either (cases_lt j k)
      where
        either : (j < k) ⊎ (k ≤ j) → P a
        either (inl m) = earlier m
        either (inr m) = let same : k ≡ j = omega (arith, l, m) in subst P (same_Some e a (sym at ∙ ap (slice_get entries) same ∙ here)) this

    pub takes_leader : e.id ≢ old.id → e.place ≡ 0 → Takes d entries k e Leader (record { id = e.id; next = 1 })
    takes_leader apart first = record {
      said = said Leader (is_leader d e.sector e.id (subst (λ (n : ℕ). Is d e.sector e.id n) first is_entry) needed);
      come = record {
        begun = inr (λ place l. (k, e, omega arith, at, refl, omega (arith, first, l)));
        above = omega arith;
        bounded = omega arith;
        misses = λ j a l here same next. absurd (omega (arith, next, first, place_rises a e (not_after j a l here) same));
        last = λ j a l here lead. id_rises a e (not_after j a l here);
      };
    }
      where
        lower : (j : ℕ) → j < e.sector → Is d j e.id 0 → ⊥
        lower j l is =
            let own = entry_there j e.id 0 is in
            let m = has_come own.j own.a own.at (inr (own.id_is, inr (own.place_is ∙ sym first, omega (arith, l, own.sector_is)))) in
            omega (arith, id_above apart, own.id_is, come.last own.j own.a m own.at own.place_is)

        needed : is_needed false (data_sectors d) e.sector ≡ true
        needed = lowest_needed d e.sector e.id 0 (subst (λ (n : ℕ). Is d e.sector e.id n) first is_entry) (omega arith) lower (λ r l. absurd (omega (arith, l)))

    pub takes_page : e.id ≡ old.id → e.place ≡ old.next → (e.place ≡ 2 ^ 32 → ⊥) → Takes d entries k e Page (record { id = old.id; next = old.next + 1 })
    takes_page same next few = record {
      said = said Page (is_a_page d e.sector e.id e.place is_entry (omega (arith, next, come.above)) below needed);
      come = record {
        begun = inr (λ place l. one place (cases_lt place old.next) l);
        above = omega arith;
        bounded = omega (arith, below, next);
        misses = λ j a l here is more. absurd (omega (arith, more, next, place_rises a e (not_after j a l here) (is ∙ sym same)));
        last = λ j a l here lead. or_this (λ (b : Entry). b.id ≤ old.id) j a l here (λ m. come.last j a m here lead) (omega (arith, same));
      };
    }
      where
        below : e.place < 2 ^ 32
        below = omega (arith, next, come.bounded, few)

        one : (place : ℕ) → (place < old.next) ⊎ (old.next ≤ place) → place < old.next + 1 → IsSeen entries (k + 1) old.id place
        one place (inl l) m = seen_still entries k old.id place (begun same place l)
        one place (inr l) m = (k, e, omega arith, at, same, omega (arith, next, l, m))

        lower : (j : ℕ) → j < e.sector → Is d j e.id e.place → ⊥
        lower j l is =
            let own = entry_there j e.id e.place is in
            let m = has_come own.j own.a own.at (inr (own.id_is, inr (own.place_is, omega (arith, l, own.sector_is)))) in
            few (sym own.place_is ∙ come.misses own.j own.a m own.at (own.id_is ∙ same) (own.place_is ∙ next))

        each : (r : ℕ) → r < e.place → IsSomewhere d e.id r
        each r l =
            let seen = begun same r (omega (arith, l, next)) in
            let is = entry_is seen.0 seen.1 seen.3 in
            (seen.1.sector, record { s = is.s; here = is.here; file = is.file; named = is.named ∙ seen.4 ∙ sym same; placed = is.placed ∙ seen.5 })

        needed : is_needed false (data_sectors d) e.sector ≡ true
        needed = lowest_needed d e.sector e.id e.place is_entry below lower each

    -- the file goes on as it is known
    come_still : (e.id ≡ old.id → e.place ≡ old.next → e.place ≡ 2 ^ 32) → (e.place ≡ 0 → e.id ≤ old.id) → HasCome entries (k + 1) old
    come_still misses last = record {
      begun = begun_still old.next (omega arith);
      above = come.above;
      bounded = come.bounded;
      misses = λ j a l here. or_this (λ (b : Entry). b.id ≡ old.id → b.place ≡ old.next → b.place ≡ 2 ^ 32) j a l here (λ m. come.misses j a m here) misses;
      last = λ j a l here. or_this (λ (b : Entry). b.place ≡ 0 → b.id ≤ old.id) j a l here (λ m. come.last j a m here) last;
    }

    pub takes_lost : e.id ≡ old.id → (e.place ≡ old.next → e.place ≡ 2 ^ 32) → Takes d entries k e Lost old
    takes_lost same other = record {
      said = said Lost (is_lost d e.sector e.id e.place is_entry (lead (begun same 0 (omega (arith, come.above)))) unneeded);
      come = come_still (λ own. other) (λ first. omega (arith, same));
    }
      where
        lead : IsSeen entries k old.id 0 → IsSomewhere d e.id 0
        lead seen =
            let is = entry_is seen.0 seen.1 seen.3 in
            (seen.1.sector, record { s = is.s; here = is.here; file = is.file; named = is.named ∙ seen.4 ∙ sym same; placed = is.placed ∙ seen.5 })

        twin : IsSeen entries k old.id e.place → is_needed false (data_sectors d) e.sector ≡ false
        twin seen =
            let is = entry_is seen.0 seen.1 seen.3 in
            let most = sector_rises seen.1 e (not_after seen.0 seen.1 (omega (arith, seen.2)) seen.3) (seen.4 ∙ sym same) seen.5 in
            twin_below d e.sector seen.1.sector e.id e.place is_entry
            (record { s = is.s; here = is.here; file = is.file; named = is.named ∙ seen.4 ∙ sym same; placed = is.placed ∙ seen.5 })
            (least (cases_eq seen.1.sector e.sector) most)
          where
            least : (seen.1.sector ≡ e.sector) ⊎ (seen.1.sector ≡ e.sector → ⊥) → seen.1.sector ≤ e.sector → seen.1.sector < e.sector
            least (inl is) most = absurd (omega (arith, seen.2, of.once seen.0 k seen.1 e seen.3 at is))
            least (inr apart) most = omega (arith, apart, most)

        missing : old.next < e.place → e.place < 2 ^ 32 → IsSomewhere d e.id old.next → ⊥
        missing l below there =
            let own = entry_there there.0 e.id old.next there.1 in
            let m = has_come own.j own.a own.at (inr (own.id_is, inl (omega (arith, l, own.place_is)))) in
            omega (arith, l, below, own.place_is, come.misses own.j own.a m own.at (own.id_is ∙ same) own.place_is)

        unneeded : is_needed false (data_sectors d) e.sector ≡ false
        unneeded = either (cases_lt e.place (2 ^ 32)) (cases_lt e.place old.next)
          where
            more : old.next ≤ e.place → e.place < 2 ^ 32 → (e.place ≡ old.next) ⊎ (e.place ≡ old.next → ⊥) → old.next < e.place
            more l below (inl is) = absurd (omega (arith, below, other is))
            more l below (inr apart) = omega (arith, l, apart)

            either : (e.place < 2 ^ 32) ⊎ (2 ^ 32 ≤ e.place) → (e.place < old.next) ⊎ (old.next ≤ e.place) → is_needed false (data_sectors d) e.sector ≡ false
            either (inr past) seen = place_past d e.sector e.id e.place is_entry past
            either (inl below) (inl l) = twin (begun same e.place l)
            either (inl below) (inr l) =
                let above : old.next < e.place = more l below (cases_eq e.place old.next) in
                place_missing d e.sector e.id e.place old.next is_entry above (missing above below)

    pub takes_orphan : e.id ≢ old.id → e.place ≢ 0 → Takes d entries k e Orphan old
    takes_orphan apart page = record {
      said = said Orphan (is_orphan d e.sector e.id e.place is_entry none);
      come = come_still (λ same. absurd (apart same)) (λ first. absurd (page first));
    }
      where
        none : IsSomewhere d e.id 0 → ⊥
        none there =
            let own = entry_there there.0 e.id 0 there.1 in
            let m = has_come own.j own.a own.at (inr (own.id_is, inl (omega (arith, page, own.place_is)))) in
            omega (arith, id_above apart, own.id_is, come.last own.j own.a m own.at own.place_is)
