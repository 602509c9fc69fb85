-- Sectors that are claimed, entry by entry.
use Rattle.std.proofs.Common.{◌≡◌, ◌≢◌, ◌⊎◌, inl, inr, ℕ, ◌+◌, ◌<◌, ◌≤◌, Bool, true, false, List, map, length, Option, Some, None, refl, sym, ◌∙◌, ap, arith}
use Rattle.std.specs.Prelude.{slice_get, slice_set, option_map}
use Rattle.std.proofs.lemmas.Option.{same_Some, none-some, slice_get-map, slice_get_within}
use Rattle.std.proofs.lemmas.Bool.{cases_lt, cases_eq, true≢false}
use Rattle.labelled_disk.specs.Label.{is_file}
use Rattle.labelled_disk.specs.Sectors.{Sector}
use Rattle.labelled_disk.specs.Layout.{data_sectors}
use Rattle.labelled_disk.proofs.Finds.{get_set_same, get_set_other}
use Rattle.label_survey.specs.declared.entries.Entry.{Entry}
use Rattle.label_survey.specs.declared.sector_state.SectorState.{SectorState}
use Rattle.label_survey.specs.Entries.{AreOf}
use Rattle.label_survey.specs.Progress.{HasCome}
use Rattle.label_survey.specs.SectorStates.{sector_state, AreSectorStates, unclaimed}
use Rattle.label_survey.proofs.SectorStateLemmas.{plain_sector_state}
use Rattle.label_survey.proofs.WalkLemmas.{sector_of}

-- before any entry
pub none_come : (entries : List Entry) → HasCome entries 0 (record { id = 0; next = 1 })
none_come entries = record {
  begun = inl refl;
  above = omega arith;
  bounded = omega arith;
  misses = λ j a l. absurd (omega (arith, l));
  last = λ j a l. absurd (omega (arith, l));
}

module _ (d : List Sector) (entries : List Entry) where
  -- the sectors of the first k entries stand as they do at the end, and the others as their labels alone say
  pub record AreClaimed (k : ℕ) (sector_states : List SectorState) : Type 0 where
    pub claimed : (j : ℕ) (e : Entry) (s : Sector) → j < k → slice_get entries j ≡ Some e → slice_get (data_sectors d) e.sector ≡ Some s → slice_get sector_states e.sector ≡ Some (sector_state d e.sector s)
    pub others : (i : ℕ) → ((j : ℕ) (e : Entry) → j < k → slice_get entries j ≡ Some e → e.sector ≢ i) → slice_get sector_states i ≡ option_map (λ (s : Sector). unclaimed s.0) (slice_get (data_sectors d) i)

  pub none_claimed : (sector_states : List SectorState) → sector_states ≡ map unclaimed (map (λ (s : Sector). s.0) (data_sectors d)) → AreClaimed 0 sector_states
  none_claimed sector_states is = record {
    claimed = λ j e s l. absurd (omega (arith, l));
    others = λ i none. at i (slice_get (data_sectors d) i) refl;
  }
    where
      at : (i : ℕ) (o : Option Sector) → slice_get (data_sectors d) i ≡ o → slice_get sector_states i ≡ option_map (λ (s : Sector). unclaimed s.0) (slice_get (data_sectors d) i)
      at i o e =
          ap (λ (l : List SectorState). slice_get l i) is
          ∙ slice_get-map unclaimed (map (λ (s : Sector). s.0) (data_sectors d)) i
          ∙ ap (option_map unclaimed) (slice_get-map (λ (s : Sector). s.0) (data_sectors d) i ∙ ap (option_map (λ (s : Sector). s.0)) e)
          ∙ both o
          ∙ ap (option_map (λ (s : Sector). unclaimed s.0)) (sym e)
        where
          both : (p : Option Sector) → option_map unclaimed (option_map (λ (s : Sector). s.0) p) ≡ option_map (λ (s : Sector). unclaimed s.0) p
          both None = refl
          both (Some s) = refl

  pub claimed_more : (k : ℕ) (sector_states : List SectorState) (e : Entry) (says : SectorState) → AreClaimed k sector_states → slice_get entries k ≡ Some e → e.sector < length sector_states
      → ((s : Sector) → slice_get (data_sectors d) e.sector ≡ Some s → sector_state d e.sector s ≡ says) → AreClaimed (k + 1) (slice_set sector_states e.sector says)
  claimed_more k sector_states e says so_far at within said = record {
    claimed = λ j a s l here there. one j a s l here there (cases_eq a.sector e.sector) (cases_lt j k);
    others = λ i none. get_set_other sector_states e.sector i says (λ same. none k e (omega arith) at (sym same)) ∙ so_far.others i (λ j a l. none j a (omega (arith, l)));
  }
    where
      one : (j : ℕ) (a : Entry) (s : Sector) → j < k + 1 → slice_get entries j ≡ Some a → slice_get (data_sectors d) a.sector ≡ Some s → (a.sector ≡ e.sector) ⊎ (a.sector ≡ e.sector → ⊥) → (j < k) ⊎ (k ≤ j)
          → slice_get (slice_set sector_states e.sector says) a.sector ≡ Some (sector_state d a.sector s)
      one j a s l here there (inl same) either =
          ap (slice_get (slice_set sector_states e.sector says)) same
          ∙ get_set_same sector_states e.sector says within
          ∙ ap (λ (x : SectorState). Some x) (sym (said s (ap (slice_get (data_sectors d)) (sym same) ∙ there)))
          ∙ ap (λ (i : ℕ). Some (sector_state d i s)) (sym same)
      one j a s l here there (inr apart) (inl m) = get_set_other sector_states e.sector a.sector says apart ∙ so_far.claimed j a s m here there
      one j a s l here there (inr apart) (inr m) =
          let same : k ≡ j = omega (arith, l, m) in
          absurd (apart (ap (λ (b : Entry). b.sector) (sym (same_Some e a (sym at ∙ ap (slice_get entries) same ∙ here)))))

  pub all_claimed : AreOf (map (λ s. s.0) (data_sectors d)) entries → (k : ℕ) (sector_states : List SectorState) → length entries ≤ k → AreClaimed k sector_states → AreSectorStates d sector_states
  all_claimed of k sector_states full claimed i = either (slice_get (data_sectors d) i) refl
    where
      none_at : (o : Option Sector) → slice_get (data_sectors d) i ≡ o → ((s : Sector) → o ≡ Some s → is_file s.0 ≡ false) → (j : ℕ) (e : Entry) → j < k → slice_get entries j ≡ Some e → e.sector ≢ i
      none_at o is plain j e l at same =
          let own = of.each j e at in
          let there = sector_of (data_sectors d) e.sector own.0 own.1 in
          let fails = plain there.0 (sym is ∙ ap (slice_get (data_sectors d)) (sym same) ∙ there.1) in
          true≢false (sym (ap is_file there.2 ∙ own.2) ∙ fails)

      file : (s : Sector) → slice_get (data_sectors d) i ≡ Some s → (b : Bool) → is_file s.0 ≡ b → slice_get sector_states i ≡ Some (sector_state d i s)
      file s here true is =
          let found = of.all i s.0 (slice_get-map (λ (s : Sector). s.0) (data_sectors d) i ∙ ap (option_map (λ (s : Sector). s.0)) here) is in
          claimed.claimed found.0 _ s (omega (arith, full, slice_get_within entries found.0 _ found.1)) found.1 here
      file s here false is =
          claimed.others i (none_at (Some s) here (λ t same. ap (λ (u : Sector). is_file u.0) (sym (same_Some s t same)) ∙ is))
          ∙ ap (option_map (λ (u : Sector). unclaimed u.0)) here
          ∙ ap (λ (x : SectorState). Some x) (sym (plain_sector_state d i s here is))

      either : (o : Option Sector) → slice_get (data_sectors d) i ≡ o → slice_get sector_states i ≡ option_map (sector_state d i) o
      either None e = claimed.others i (none_at None e (λ s same. absurd (none-some s same))) ∙ ap (option_map (λ (u : Sector). unclaimed u.0)) e
      either (Some s) e = file s e (is_file s.0) refl
