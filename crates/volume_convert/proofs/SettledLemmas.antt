-- The labels and the sector states of a volume whose leaders stand.
use Rattle.std.proofs.Common.{◌≡◌, ◌⊎◌, inl, inr, ℕ, zero, suc, ◌+◌, ◌<◌, ◌≤◌, Bool, true, false, not, ◌&&◌, ◌||◌, List, [], ◌∷◌, ◌++◌, length, map, take, drop, Option, Some, None, refl, sym, ◌∙◌, ap, subst, arith, eqb, length-append}
use Rattle.std.specs.Prelude.{slice_get, slice_index_or, option_map, nat_lt, replicate, if◌then◌else◌}
use Rattle.std.specs.List.{range_with_len}
use Rattle.std.specs.Option.{option_map_or}
use Rattle.std.proofs.lemmas.Bool.{lt-ltb, le-ltb, ne_eqb, eq-eqb, true≢false}
use Rattle.std.proofs.lemmas.List.{length-map, length-take-le, take-append-drop}
use Rattle.std.proofs.lemmas.Option.{same_Some, none-some, slice_get-map, slice_get_within, get_or_from_slice_get}
use Rattle.std.proofs.Math.Seq.{drop-append_seam}
use Rattle.labelled_disk.specs.declared.label.Label.{Label}
use Rattle.labelled_disk.specs.Label.{is_file, is_free, is_permanent, leader_page}
use Rattle.labelled_disk.specs.File.{File, size, total_room}
use Rattle.labelled_disk.specs.FilesOn.{file_among, leads_file, is_page}
use Rattle.labelled_disk.specs.Layout.{IsCount, capacity, data_sectors, first_data}
use Rattle.labelled_disk.specs.Lowest.{is_first, is_needed}
use Rattle.labelled_disk.specs.Sectors.{Sector, free_label}
use Rattle.labelled_disk.specs.WriteRuns.{after_writes}
use Rattle.labelled_disk.proofs.WriteLemmas as laws
use Rattle.volume_root.specs.OldRoot.{IsOldCount}
use Rattle.label_survey.specs.declared.sector_state.SectorState.{SectorState}
use Rattle.label_survey.specs.declared.sector_state.SectorState.TheVariants.{Free, Leader, Page}
use Rattle.label_survey.specs.SectorStates.{sector_state, AreSectorStates}
use Rattle.label_survey.specs.Survey.{is_freed, is_kept}
use Rattle.scavenger.specs.Stays.{HasLabels}
use Rattle.scavenger.proofs.LayoutLemmas.{first_within}
use Rattle.old_files.specs.OldFiles.{files_old, is_old_needed}
use Rattle.old_files.specs.Placing.{old_leaders, spare_below, IsPlaced}
use Rattle.old_files.specs.Reread.{reread, all_reread}
use Rattle.old_files.specs.Arranging.{IsSettled}
use Rattle.old_files.proofs.LeaderLemmas.{old_leaders_are}
use Rattle.old_files.proofs.NeedLemmas.{settled_are_needed}
use Rattle.old_files.proofs.PlacingLemmas.{placed_are_settled, free_is_none}
use Rattle.old_files.proofs.ArrangeLemmas.{page_of_needed}
use Rattle.old_files.proofs.StayLemmas.{not_first, get_some}
use Rattle.convert_laws.specs.Orders.{first_writes}
use Rattle.convert_laws.proofs.ForLemmas.{enough, needed_is_file, leader_file}
use Rattle.convert_laws.proofs.WriteLemmas.{then_at, then_get}
use Rattle.volume_convert.specs.declared.heads.Head.{Head}
use Rattle.volume_convert.specs.Heads.{AreHeads, leaders_by, leader_by}
use Rattle.volume_convert.specs.Settled.{gaps_in, settled_label, settled_label_at, settled_labels, settled_sector_state, settled_sector_state_at, settled_sector_states}
use Rattle.volume_convert.proofs.HeadLemmas.{leaders_are}
use Rattle.volume_convert.proofs.StandLemmas.{stands, kept_is, freed_is}

-- Lists.

pub get_made : {X : Type 0} (f : ℕ → X) (a n i : ℕ) → i < n → slice_get (map f (range_with_len a n)) i ≡ Some (f (a + i))
get_made f a zero i l = absurd (omega (arith, l))
get_made f a (suc n) zero l = let z : a ≡ a + 0 = omega arith in ap (λ (k : ℕ). Some (f k)) z
get_made f a (suc n) (suc i) l = let z : a + 1 + i ≡ a + suc i = omega arith in get_made f (a + 1) n i (omega (arith, l)) ∙ ap (λ (k : ℕ). Some (f k)) z

pub made_long : {X : Type 0} (f : ℕ → X) (a n : ℕ) → length (map f (range_with_len a n)) ≡ n
made_long f a zero = refl
made_long f a (suc n) = ap (λ (k : ℕ). suc k) (made_long f (a + 1) n)

past_none : {X : Type 0} (xs : List X) (i : ℕ) → length xs ≤ i → slice_get xs i ≡ None
past_none [] i l = refl
past_none (x ∷ xs) zero l = absurd (omega (arith, l))
past_none (x ∷ xs) (suc i) l = past_none xs i (omega (arith, l))

-- what lies past the end
pub past_end : {X : Type 0} (xs : List X) (i : ℕ) → slice_get xs i ≡ None → length xs ≤ i
past_end [] i e = omega arith
past_end (x ∷ xs) zero e = absurd (none-some x (sym e))
past_end (x ∷ xs) (suc i) e = let more = past_end xs i e in omega (arith, more)

-- sectors with these labels and the pages of those
abbrev relabelled : List Label → List Sector → List Sector
relabelled [] ss = []
relabelled (l ∷ ls) [] = []
relabelled (l ∷ ls) (s ∷ ss) = (l, s.1) ∷ relabelled ls ss

relabelled_labels : (ls : List Label) (ss : List Sector) → length ls ≡ length ss → map (λ (s : Sector). s.0) (relabelled ls ss) ≡ ls
relabelled_labels [] ss long = refl
relabelled_labels (l ∷ ls) [] long = absurd (omega (arith, long))
relabelled_labels (l ∷ ls) (s ∷ ss) long = ap (λ (ms : List Label). l ∷ ms) (relabelled_labels ls ss (omega (arith, long)))

relabelled_long : (ls : List Label) (ss : List Sector) → length ls ≡ length ss → length (relabelled ls ss) ≡ length ss
relabelled_long [] [] long = refl
relabelled_long [] (s ∷ ss) long = absurd (omega (arith, long))
relabelled_long (l ∷ ls) [] long = absurd (omega (arith, long))
relabelled_long (l ∷ ls) (s ∷ ss) long = ap (λ (n : ℕ). suc n) (relabelled_long ls ss (omega (arith, long)))

-- where the label is the same, so is the sector
relabelled_same : (ls : List Label) (ss : List Sector) (i : ℕ) (l : Label) (y : Sector) → slice_get ls i ≡ Some l → slice_get ss i ≡ Some y → y.0 ≡ l → slice_get (relabelled ls ss) i ≡ Some y
relabelled_same [] ss i l y at there same = absurd (none-some l at)
relabelled_same (m ∷ ls) [] i l y at there same = absurd (none-some y there)
relabelled_same (m ∷ ls) (s ∷ ss) zero l y at there same =
    let label : m ≡ y.0 = same_Some m l at ∙ sym same in
    let sector : s ≡ y = same_Some s y there in
    λ j. Some (label j, (sector j).1)
relabelled_same (m ∷ ls) (s ∷ ss) (suc i) l y at there same = relabelled_same ls ss i l y at there same

-- what is no file's is not needed
not_needed : (ys : List Sector) (i : ℕ) (y : Sector) → slice_get ys i ≡ Some y → is_file y.0 ≡ false → is_needed false ys i ≡ false
not_needed ys i y at none =
    ap (λ (o : Option Sector). option_map_or (λ s. option_map_or (λ f. is_first (leads_file false s.0.id) ys i || (nat_lt s.0.page (size f) && is_first (is_page s.0.id s.0.page) ys i)) (file_among false ys s.0.id) false) o false) at
    ∙ by (file_among false ys y.0.id)
  where
    leads : is_first (leads_file false y.0.id) ys i ≡ false
    leads = not_first (leads_file false y.0.id) ys i y at (ap (λ (b : Bool). b && eqb y.0.page leader_page && (false || is_permanent y.0) && eqb y.0.id y.0.id) none)

    page : is_first (is_page y.0.id y.0.page) ys i ≡ false
    page = not_first (is_page y.0.id y.0.page) ys i y at (ap (λ (b : Bool). b && eqb y.0.id y.0.id && eqb y.0.page y.0.page) none)

    none_of : (a b c : Bool) → a ≡ false → c ≡ false → (a || (b && c)) ≡ false
    none_of false true c p q = q
    none_of false false c p q = refl
    none_of true b c p q = absurd (true≢false p)

    by : (o : Option File) → option_map_or (λ f. is_first (leads_file false y.0.id) ys i || (nat_lt y.0.page (size f) && is_first (is_page y.0.id y.0.page) ys i)) o false ≡ false
    by None = refl
    by (Some f) = none_of (is_first (leads_file false y.0.id) ys i) (nat_lt y.0.page (size f)) (is_first (is_page y.0.id y.0.page) ys i) leads page

-- An old volume with these labels.
module _ (n : ℕ) (labels : List Label) (sector_states : List SectorState) (hs : List Head) (accepted : IsOldCount n) (same : length sector_states ≡ length labels) (sorted : AreHeads labels sector_states hs)
    (d : List Sector) (has : HasLabels d n labels) (are : AreSectorStates (all_reread d) sector_states) where
  abbrev xs : List Sector
  xs = data_sectors d

  pub few : length d < leader_page
  few = omega (arith, has.sectors, accepted.1)

  pub xs_long : length labels ≡ length xs
  xs_long = ap (λ (l : List Label). length l) has.are ∙ length-map xs (λ (s : Sector). s.0)

  pub leaders : leaders_by hs ≡ old_leaders d
  leaders = leaders_are d few labels sector_states has.are are hs sorted

  sector_state_at : (i : ℕ) (s : Sector) → slice_get xs i ≡ Some s → slice_index_or sector_states i Free ≡ sector_state (all_reread d) i (reread s)
  sector_state_at i s at = get_or_from_slice_get sector_states i (sector_state (all_reread d) i (reread s)) Free (stands d few sector_states are i ∙ ap (option_map (λ (t : Sector). sector_state (all_reread d) i (reread t))) at)

  label_at : (i : ℕ) (s : Sector) → slice_get xs i ≡ Some s → slice_index_or labels i free_label ≡ s.0
  label_at i s at = get_or_from_slice_get labels i s.0 free_label (ap (λ (ls : List Label). slice_get ls i) has.are ∙ slice_get-map (λ (t : Sector). t.0) xs i ∙ ap (option_map (λ (t : Sector). t.0)) at)

  kept_at : (i : ℕ) (s : Sector) → slice_get xs i ≡ Some s → is_kept (slice_index_or sector_states i Free) ≡ is_old_needed xs i
  kept_at i s at = ap is_kept (sector_state_at i s at) ∙ kept_is d few sector_states are i s

  pub gaps_are : (i : ℕ) → i ≤ length xs → gaps_in sector_states i ≡ spare_below xs i
  gaps_are zero l = refl
  gaps_are (suc i) l =
      let s = get_some xs i (omega (arith, l)) in
      ap (λ (k : ℕ). k + (if is_kept (slice_index_or sector_states i Free) then 0 else 1)) (gaps_are i (omega (arith, l)))
      ∙ ap (λ (b : Bool). spare_below xs i + (if b then 0 else 1)) (kept_at i s.0 s.1)

  -- the label of a sector then
  pub label_is : (i : ℕ) (s : Sector) → slice_get xs i ≡ Some s
      → settled_label_at labels sector_states (leaders_by hs) i ≡ (if is_old_needed xs i then s.0 else option_map_or (λ h. h) (slice_get (old_leaders d) (spare_below xs i)) (if is_free s.0 then s.0 else free_label))
  label_is i s at =
      let within = slice_get_within xs i s at in
      ap (λ (m : Label). settled_label (slice_get (leaders_by hs) (gaps_in sector_states i)) (slice_index_or sector_states i Free) m) (label_at i s at)
      ∙ ap (λ (x : SectorState). settled_label (slice_get (leaders_by hs) (gaps_in sector_states i)) x s.0) (sector_state_at i s at)
      ∙ ap (λ (k : ℕ). settled_label (slice_get (leaders_by hs) k) (sector_state (all_reread d) i (reread s)) s.0) (gaps_are i (omega (arith, within)))
      ∙ ap (λ (ls : List Label). settled_label (slice_get ls (spare_below xs i)) (sector_state (all_reread d) i (reread s)) s.0) leaders
      ∙ ap (λ (b : Bool). if b then s.0 else option_map_or (λ h. h) (slice_get (old_leaders d) (spare_below xs i)) (if is_freed (sector_state (all_reread d) i (reread s)) then free_label else s.0)) (kept_is d few sector_states are i s)
      ∙ ap (λ (b : Bool). if is_old_needed xs i then s.0 else option_map_or (λ h. h) (slice_get (old_leaders d) (spare_below xs i)) (if b then free_label else s.0)) (freed_is d few sector_states are i s)
      ∙ turn (is_old_needed xs i) (is_free s.0)
    where
      turn : (b f : Bool) → (if b then s.0 else option_map_or (λ h. h) (slice_get (old_leaders d) (spare_below xs i)) (if not f && not b then free_label else s.0))
          ≡ (if b then s.0 else option_map_or (λ h. h) (slice_get (old_leaders d) (spare_below xs i)) (if f then s.0 else free_label))
      turn true f = refl
      turn false true = refl
      turn false false = refl

  -- what a sector is then
  pub sector_state_is : (i : ℕ) (s : Sector) → slice_get xs i ≡ Some s
      → settled_sector_state_at sector_states (length hs) i ≡ (if is_old_needed xs i then Page else (if nat_lt (spare_below xs i) (length hs) then Leader else Free))
  sector_state_is i s at =
      let within = slice_get_within xs i s at in
      ap (λ (k : ℕ). settled_sector_state (nat_lt k (length hs)) (slice_index_or sector_states i Free)) (gaps_are i (omega (arith, within)))
      ∙ ap (λ (b : Bool). if b then Page else (if nat_lt (spare_below xs i) (length hs) then Leader else Free)) (kept_at i s at)

  -- of a disk with the new labels, of which these are kept
  module _ (d2 : List Sector) (has2 : HasLabels d2 n (settled_labels labels sector_states (leaders_by hs))) where
    abbrev ys : List Sector
    ys = data_sectors d2

    new_at : (i : ℕ) (y : Sector) → slice_get ys i ≡ Some y → (s : Sector) × (slice_get xs i ≡ Some s)
        × (y.0 ≡ (if is_old_needed xs i then s.0 else option_map_or (λ h. h) (slice_get (old_leaders d) (spare_below xs i)) (if is_free s.0 then s.0 else free_label)))
    new_at i y at =
        let within : i < length labels = (let w = slice_get_within ys i y at in let l = ap (λ (ls : List Label). length ls) has2.are in
        omega (arith, w, l, made_long (settled_label_at labels sector_states (leaders_by hs)) 0 (length labels), length-map ys (λ (s : Sector). s.0))) in
        let s = get_some xs i (omega (arith, within, xs_long)) in
        let made = get_made (settled_label_at labels sector_states (leaders_by hs)) 0 (length labels) i within in
        let z : 0 + i ≡ i = omega arith in
        let label : slice_get (settled_labels labels sector_states (leaders_by hs)) i ≡ Some y.0 = ap (λ (ls : List Label). slice_get ls i) has2.are ∙ slice_get-map (λ (t : Sector). t.0) ys i ∙ ap (option_map (λ (t : Sector). t.0)) at in
        (s.0, s.1, same_Some y.0 (settled_label_at labels sector_states (leaders_by hs) (0 + i)) (sym label ∙ made) ∙ ap (settled_label_at labels sector_states (leaders_by hs)) z ∙ label_is i s.0 s.1)

    pub ys_long : length ys ≡ length xs
    ys_long = omega (arith, ap (λ (ls : List Label). length ls) has2.are, made_long (settled_label_at labels sector_states (leaders_by hs)) 0 (length labels), length-map ys (λ (s : Sector). s.0), xs_long)

    pub placed : ((i : ℕ) (y : Sector) → slice_get ys i ≡ Some y → is_old_needed xs i ≡ true → slice_get xs i ≡ Some y) → total_room (files_old d) ≤ capacity (length d) → IsPlaced xs ys (old_leaders d)
    placed kept room = record {
      same_length = ys_long;
      kept = λ i needs. here i needs (slice_get ys i) refl;
      gaps = λ i y gap at. (let w = new_at i y at in which i y gap (slice_get (old_leaders d) (spare_below xs i)) refl w.0
          (w.2 ∙ ap (λ (b : Bool). if b then w.0.0 else option_map_or (λ h. h) (slice_get (old_leaders d) (spare_below xs i)) (if is_free w.0.0 then w.0.0 else free_label)) gap));
      leaders_are = old_leaders_are d;
      enough = enough d count small room;
    }
      where
        count : IsCount (length d)
        count = (omega (arith, has.sectors, accepted.0), omega (arith, has.sectors, accepted.1))

        small : length d ≤ 65536
        small = omega (arith, has.sectors, accepted.1)

        here : (i : ℕ) → is_old_needed xs i ≡ true → (o : Option Sector) → slice_get ys i ≡ o → slice_get ys i ≡ slice_get xs i
        here i needs (Some y) e = e ∙ sym (kept i y e needs)
        here i needs None e = e ∙ sym (past_none xs i (omega (arith, past_end ys i e, ys_long)))

        which : (i : ℕ) (y : Sector) → is_old_needed xs i ≡ false → (o : Option Label) → slice_get (old_leaders d) (spare_below xs i) ≡ o → (s : Sector)
            → y.0 ≡ option_map_or (λ h. h) (slice_get (old_leaders d) (spare_below xs i)) (if is_free s.0 then s.0 else free_label)
            → (slice_get (old_leaders d) (spare_below xs i) ≡ Some y.0) ⊎ ((length (old_leaders d) ≤ spare_below xs i) × (is_free y.0 ≡ true))
        which i y gap (Some h) e s is = inl (e ∙ ap (λ (l : Label). Some l) (sym (is ∙ ap (λ (o : Option Label). option_map_or (λ h. h) o (if is_free s.0 then s.0 else free_label)) e)))
        which i y gap None e s is = inr (past_end (old_leaders d) (spare_below xs i) e, ap is_free (is ∙ ap (λ (o : Option Label). option_map_or (λ h. h) o (if is_free s.0 then s.0 else free_label)) e) ∙ free (is_free s.0) refl)
          where
            free : (b : Bool) → is_free s.0 ≡ b → is_free (if b then s.0 else free_label) ≡ true
            free true f = f
            free false f = refl

    -- the sector states of the settled labels
    pub settled_stand : IsPlaced xs ys (old_leaders d) → AreSectorStates d2 (settled_sector_states sector_states (length hs))
    settled_stand is i = by (slice_get ys i) refl
      where
        settled : IsSettled xs ys
        settled = placed_are_settled xs ys (old_leaders d) is

        same_disks : length d2 ≡ length d
        same_disks = has2.sectors ∙ sym has.sectors

        needs : (y : Sector) → slice_get ys i ≡ Some y → is_file y.0 ≡ true → is_needed false ys i ≡ true
        needs y at file = settled_are_needed d d2 same_disks settled i y at file

        count_same : length (old_leaders d) ≡ length hs
        count_same = ap (λ (ls : List Label). length ls) (sym leaders) ∙ length-map hs leader_by

        says : (y : Sector) → slice_get ys i ≡ Some y → (b : Bool) → is_old_needed xs i ≡ b → (if b then Page else (if nat_lt (spare_below xs i) (length hs) then Leader else Free)) ≡ sector_state d2 i y
        says y at true e =
            let here = sym (is.kept i e) ∙ at in
            let n = needs y at (needed_is_file xs i y here e) in
            let page = page_of_needed xs i y here e in
            let apart : eqb y.0.page leader_page ≡ false = ne_eqb y.0.page leader_page (λ s. omega (arith, s, page)) in
            rw (n, apart) refl
        says y at false e = elim (is.gaps i y e at) [
          | inl leads ↦
              let f = leader_file d y.0 (spare_below xs i) leads in
              let file : is_file y.0 ≡ true = ap is_file f.4 ∙ f.3 in
              let n = needs y at file in
              let page : eqb y.0.page leader_page ≡ true = eq-eqb y.0.page leader_page (ap (λ (l : Label). l.page) f.4) in
              let within = slice_get_within (old_leaders d) (spare_below xs i) y.0 leads in
              let lt : nat_lt (spare_below xs i) (length hs) ≡ true = lt-ltb (spare_below xs i) (length hs) (omega (arith, within, count_same)) in
              rw (lt, n, page) refl
          | inr free ↦
              let n = not_needed ys i y at (free_is_none y.0 free.1) in
              let ge : nat_lt (spare_below xs i) (length hs) ≡ false = le-ltb (spare_below xs i) (length hs) (omega (arith, free.0, count_same)) in
              rw (ge, n, free.1) refl
        ]

        by : (o : Option Sector) → slice_get ys i ≡ o → slice_get (settled_sector_states sector_states (length hs)) i ≡ option_map (sector_state d2 i) (slice_get ys i)
        by None e =
            let l = made_long (settled_sector_state_at sector_states (length hs)) 0 (length sector_states) in
            past_none (settled_sector_states sector_states (length hs)) i (omega (arith, l, same, xs_long, ys_long, past_end ys i e)) ∙ sym (ap (option_map (sector_state d2 i)) e)
        by (Some y) e =
            let s = (new_at i y e) in
            let within = slice_get_within ys i y e in
            let made = get_made (settled_sector_state_at sector_states (length hs)) 0 (length sector_states) i (omega (arith, within, same, xs_long, ys_long)) in
            let z : 0 + i ≡ i = omega arith in
            made ∙ ap (λ (k : ℕ). Some (settled_sector_state_at sector_states (length hs) k)) z ∙ ap (λ (x : SectorState). Some x) (sector_state_is i s.0 s.1 ∙ says y e (is_old_needed xs i) refl) ∙ sym (ap (option_map (sector_state d2 i)) e)

  -- the labels that the first writes leave
  pub labels_then : first_data (length d) ≤ length d → map (λ (s : Sector). s.0) (data_sectors (after_writes (first_writes d) d)) ≡ settled_labels labels sector_states (leaders_by hs)
  labels_then within = laws.same_elements false 0 0 (map (λ (s : Sector). s.0) (data_sectors (after_writes (first_writes d) d))) (settled_labels labels sector_states (leaders_by hs)) (λ i.
      slice_get-map (λ (s : Sector). s.0) (data_sectors (after_writes (first_writes d) d)) i ∙ ap (option_map (λ (s : Sector). s.0)) (then_get d within i) ∙ by i (slice_get xs i) refl)
    where
      first_of : (b f : Bool) (o : Option Label) (s : Sector)
          → (if b then s else option_map_or (λ h. (h, replicate 512 0)) o (if f then s else (free_label, s.1))).0 ≡ (if b then s.0 else option_map_or (λ h. h) o (if f then s.0 else free_label))
      first_of true f o s = refl
      first_of false f (Some h) s = refl
      first_of false true None s = refl
      first_of false false None s = refl

      by : (i : ℕ) (o : Option Sector) → slice_get xs i ≡ o → option_map (λ (s : Sector). s.0) (option_map (then_at d within i) (slice_get xs i)) ≡ slice_get (settled_labels labels sector_states (leaders_by hs)) i
      by i None e =
          ap (λ (o : Option Sector). option_map (λ (s : Sector). s.0) (option_map (then_at d within i) o)) e
          ∙ sym (past_none (settled_labels labels sector_states (leaders_by hs)) i (let l = made_long (settled_label_at labels sector_states (leaders_by hs)) 0 (length labels) in omega (arith, l, xs_long, past_end xs i e)))
      by i (Some s) e =
          let l = slice_get_within xs i s e in
          let made = get_made (settled_label_at labels sector_states (leaders_by hs)) 0 (length labels) i (omega (arith, l, xs_long)) in
          let z : 0 + i ≡ i = omega arith in
          ap (λ (o : Option Sector). option_map (λ (s : Sector). s.0) (option_map (then_at d within i) o)) e
          ∙ ap (λ (m : Label). Some m) (first_of (is_old_needed xs i) (is_free s.0) (slice_get (old_leaders d) (spare_below xs i)) s ∙ sym (label_is i s e))
          ∙ sym (ap (λ (k : ℕ). Some (settled_label_at labels sector_states (leaders_by hs) k)) z) ∙ sym made

-- Any disk with the settled labels.
module _ (n : ℕ) (labels : List Label) (sector_states : List SectorState) (hs : List Head) (accepted : IsOldCount n) (same : length sector_states ≡ length labels) (sorted : AreHeads labels sector_states hs)
    (stand : (d : List Sector) → HasLabels d n labels → AreSectorStates (all_reread d) sector_states) (room : (d : List Sector) → HasLabels d n labels → total_room (files_old d) ≤ capacity n)
    (d2 : List Sector) (has2 : HasLabels d2 n (settled_labels labels sector_states (leaders_by hs))) where
  -- the one with the labels before
  abbrev before : List Sector
  before = take (first_data (length d2)) d2 ++ relabelled labels (data_sectors d2)

  long : length labels ≡ length (data_sectors d2)
  long = omega (arith, ap (λ (ls : List Label). length ls) has2.are, made_long (settled_label_at labels sector_states (leaders_by hs)) 0 (length labels), length-map (data_sectors d2) (λ (s : Sector). s.0))

  within : first_data (length d2) ≤ length d2
  within = first_within (length d2) (omega (arith, has2.sectors, accepted.0), omega (arith, has2.sectors, accepted.1))

  low_long : length (take (first_data (length d2)) d2) ≡ first_data (length d2)
  low_long = length-take-le (first_data (length d2)) d2 within

  before_long : length (take (first_data (length d2)) d2 ++ relabelled labels (data_sectors d2)) ≡ length d2
  before_long = length-append (take (first_data (length d2)) d2) (relabelled labels (data_sectors d2))
      ∙ ap (λ (k : ℕ). length (take (first_data (length d2)) d2) + k) (relabelled_long labels (data_sectors d2) long)
      ∙ sym (length-append (take (first_data (length d2)) d2) (data_sectors d2)) ∙ ap (λ (l : List Sector). length l) (take-append-drop (first_data (length d2)) d2)

  before_data : data_sectors (take (first_data (length d2)) d2 ++ relabelled labels (data_sectors d2)) ≡ relabelled labels (data_sectors d2)
  before_data =
      ap (λ (k : ℕ). drop (first_data k) (take (first_data (length d2)) d2 ++ relabelled labels (data_sectors d2))) before_long
      ∙ ap (λ (k : ℕ). drop k (take (first_data (length d2)) d2 ++ relabelled labels (data_sectors d2))) (sym low_long)
      ∙ drop-append_seam (take (first_data (length d2)) d2) (relabelled labels (data_sectors d2))

  before_has : HasLabels (take (first_data (length d2)) d2 ++ relabelled labels (data_sectors d2)) n labels
  before_has = record {
    sectors = before_long ∙ has2.sectors;
    are = sym (ap (map (λ (s : Sector). s.0)) before_data ∙ relabelled_labels labels (data_sectors d2) long);
  }

  pub settled_stand_all : AreSectorStates d2 (settled_sector_states sector_states (length hs))
  settled_stand_all =
      settled_stand n labels sector_states hs accepted same sorted (take (first_data (length d2)) d2 ++ relabelled labels (data_sectors d2)) before_has (stand (take (first_data (length d2)) d2 ++ relabelled labels (data_sectors d2)) before_has) d2 has2
      (placed n labels sector_states hs accepted same sorted (take (first_data (length d2)) d2 ++ relabelled labels (data_sectors d2)) before_has (stand (take (first_data (length d2)) d2 ++ relabelled labels (data_sectors d2)) before_has) d2 has2 kept
      (subst (λ (k : ℕ). total_room (files_old (take (first_data (length d2)) d2 ++ relabelled labels (data_sectors d2))) ≤ capacity k) (sym before_has.sectors) (room (take (first_data (length d2)) d2 ++ relabelled labels (data_sectors d2)) before_has)))
    where
      kept : (i : ℕ) (y : Sector) → slice_get (data_sectors d2) i ≡ Some y → is_old_needed (data_sectors (take (first_data (length d2)) d2 ++ relabelled labels (data_sectors d2))) i ≡ true
          → slice_get (data_sectors (take (first_data (length d2)) d2 ++ relabelled labels (data_sectors d2))) i ≡ Some y
      kept i y at needs =
          let w = new_at n labels sector_states hs accepted same sorted (take (first_data (length d2)) d2 ++ relabelled labels (data_sectors d2)) before_has (stand (take (first_data (length d2)) d2 ++ relabelled labels (data_sectors d2)) before_has) d2 has2 i y at in
          let own : y.0 ≡ w.0.0 = w.2 ∙ ap (λ (b : Bool). if b then w.0.0 else option_map_or (λ h. h) (slice_get (old_leaders (take (first_data (length d2)) d2 ++ relabelled labels (data_sectors d2))) (spare_below (data_sectors (take (first_data (length d2)) d2 ++ relabelled labels (data_sectors d2))) i)) (if is_free w.0.0 then w.0.0 else free_label)) needs in
          let label : slice_get labels i ≡ Some w.0.0 = ap (λ (ls : List Label). slice_get ls i) before_has.are ∙ slice_get-map (λ (t : Sector). t.0) (data_sectors (take (first_data (length d2)) d2 ++ relabelled labels (data_sectors d2))) i ∙ ap (option_map (λ (t : Sector). t.0)) w.1 in
          ap (λ (l : List Sector). slice_get l i) before_data ∙ relabelled_same labels (data_sectors d2) i w.0.0 y label at own
