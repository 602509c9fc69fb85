-- The writes of a loop: one more, or a stop.
use Rattle.std.proofs.Common.{◌≡◌, ℕ, zero, suc, ◌+◌, ◌<◌, ◌≤◌, Bool, true, false, cond, List, [], ◌∷◌, ◌++◌, length, map, take, drop, Option, Some, Result, Ok, Err, refl, sym, ◌∙◌, ap, subst, arith, append_assoc}
use Rattle.std.specs.Prelude.{slice_get}
use Rattle.std.specs.List.{range_with_len}
use Rattle.std.proofs.lemmas.List.{take-append-drop, drop_all}
use Rattle.std.proofs.lemmas.List.FromFn.{map-range_with_len_more, take-map-range_with_len}
use Rattle.std.proofs.lemmas.Option.{same_Some, none-some}
use Rattle.labelled_disk.specs.Label.{page_label}
use Rattle.labelled_disk.specs.declared.disk.DiskError.{DiskError}
use Rattle.labelled_disk.specs.declared.disk.DiskWrite.{DiskWrite}
use Rattle.labelled_disk.specs.declared.disk.DiskWrite.TheVariants.{Whole, LabelOnly}
use Rattle.labelled_disk.specs.declared.label.Label.{Label}
use Rattle.labelled_disk.specs.Calls.{Writes}
use Rattle.labelled_disk.specs.Runs.{freeing}
use Rattle.labelled_disk.specs.Sectors.{free_label}
use Rattle.labelled_disk.specs.State.{DiskState}
use Rattle.page_tree.specs.Page.{page_at}
use Rattle.label_survey.specs.declared.sector_state.SectorState.{SectorState}
use Rattle.label_survey.specs.Survey.{is_freed, places_by}
use Rattle.scavenger.specs.Carries.{Carries}
use Rattle.scavenger.specs.Orders.{map_writes}
use Rattle.scavenger.proofs.RowLemmas.{carries_one, carries_then, carries_stopped, carries_as}

-- The pages of a map.

module _ (id first : ℕ) (bytes : List ℕ) where
  abbrev one : ℕ → DiskWrite
  one i = Whole (first + i) (page_label id 0 i) (page_at bytes i)

  more_writes : (i : ℕ) → map_writes id first bytes i ++ one i ∷ [] ≡ map_writes id first bytes (i + 1)
  more_writes i = sym (map-range_with_len_more one 0 i i (omega arith))

  rest_writes : (i pages : ℕ) → i ≤ pages → map_writes id first bytes i ++ drop i (map_writes id first bytes pages) ≡ map_writes id first bytes pages
  rest_writes i pages few =
      ap (λ (ws : List DiskWrite). ws ++ drop i (map_writes id first bytes pages)) (sym (take-map-range_with_len one 0 pages i few)) ∙ take-append-drop i (map_writes id first bytes pages)

  module _ (a b c : DiskState) (i : ℕ) (label : Label) (page : List ℕ) (labelled : label ≡ page_label id 0 i) (paged : page ≡ page_at bytes i) where
    as_one : (r : Result (Unit {0}) DiskError) → Writes (Whole (first + i) label page) b r c → Carries (one i ∷ []) b r c
    as_one r writes =
        carries_as (Whole (first + i) label page ∷ []) (one i ∷ []) b c r
        (ap (λ (l : Label). Whole (first + i) l page ∷ []) labelled ∙ ap (λ (p : List ℕ). Whole (first + i) (page_label id 0 i) p ∷ []) paged)
        (carries_one (Whole (first + i) label page) b c r writes)

    pub page_more : Carries {E = DiskError} (map_writes id first bytes i) a (Ok tt) b → Writes (Whole (first + i) label page) b (Ok tt) c → Carries {E = DiskError} (map_writes id first bytes (i + 1)) a (Ok tt) c
    page_more so_far writes =
        carries_as (map_writes id first bytes i ++ one i ∷ []) (map_writes id first bytes (i + 1)) a c (Ok tt) (more_writes i)
        (carries_then (map_writes id first bytes i) (one i ∷ []) a b c (Ok tt) so_far (as_one (Ok tt) writes))

    pub page_stopped : (pages : ℕ) (e f : DiskError) → i < pages → Carries {E = DiskError} (map_writes id first bytes i) a (Ok tt) b → Writes (Whole (first + i) label page) b (Err e) c
        → Carries (map_writes id first bytes pages) a (Err f) c
    page_stopped pages e f low so_far writes =
        let now = carries_then (map_writes id first bytes i) (one i ∷ []) a b c (Err e) so_far (as_one (Err e) writes) in
        let longer = carries_as (map_writes id first bytes i ++ one i ∷ []) (map_writes id first bytes (i + 1)) a c (Err e) (more_writes i) now in
        carries_as (map_writes id first bytes (i + 1) ++ drop (i + 1) (map_writes id first bytes pages)) (map_writes id first bytes pages) a c (Err f) (rest_writes (i + 1) pages (omega (arith, low)))
        (carries_stopped (map_writes id first bytes (i + 1)) (drop (i + 1) (map_writes id first bytes pages)) a c e f longer)

-- The sectors that are freed.

dropped_one : (xs : List SectorState) (i : ℕ) (x : SectorState) → slice_get xs i ≡ Some x → drop i xs ≡ x ∷ drop (i + 1) xs
dropped_one [] i x here = absurd (none-some x here)
dropped_one (y ∷ xs) zero x here = ap (λ (z : SectorState). z ∷ xs) (same_Some y x here)
dropped_one (y ∷ xs) (suc i) x here = let s : suc i + 1 ≡ suc (i + 1) = omega arith in dropped_one xs i x here ∙ ap (λ (m : ℕ). x ∷ drop m (y ∷ xs)) (sym s)

-- the writes so far and those for the sector states from i on are all
pub record IsSoFar (first : ℕ) (sector_states : List SectorState) (a b : DiskState) (i : ℕ) : Type 0 where
  pub done : List DiskWrite
  pub made : Carries {E = DiskError} done a (Ok tt) b
  pub all : done ++ freeing (places_by is_freed (first + i) (drop i sector_states)) ≡ freeing (places_by is_freed first sector_states)

module _ (first : ℕ) (sector_states : List SectorState) where
  pub none_so_far : (a : DiskState) → Carries {E = DiskError} [] a (Ok tt) a → IsSoFar first sector_states a a 0
  none_so_far a none = record { done = []; made = none; all = let z : first + 0 ≡ first = omega arith in ap (λ (m : ℕ). freeing (places_by is_freed m sector_states)) z }

  module _ (a b : DiskState) (i : ℕ) (x : SectorState) (here : slice_get sector_states i ≡ Some x) (so_far : IsSoFar first sector_states a b i) where
    abbrev ahead : List DiskWrite
    ahead = freeing (places_by is_freed (first + (i + 1)) (drop (i + 1) sector_states))

    next : (t : Bool) → is_freed x ≡ t → freeing (places_by is_freed (first + i) (drop i sector_states)) ≡ freeing (cond t ((first + i) ∷ places_by is_freed (first + (i + 1)) (drop (i + 1) sector_states)) (places_by is_freed (first + (i + 1)) (drop (i + 1) sector_states)))
    next t is =
        let s : first + i + 1 ≡ first + (i + 1) = omega arith in
        ap (λ (xs : List SectorState). freeing (places_by is_freed (first + i) xs)) (dropped_one sector_states i x here)
        ∙ ap (λ (u : Bool). freeing (cond u ((first + i) ∷ places_by is_freed (first + i + 1) (drop (i + 1) sector_states)) (places_by is_freed (first + i + 1) (drop (i + 1) sector_states)))) is
        ∙ ap (λ (m : ℕ). freeing (cond t ((first + i) ∷ places_by is_freed m (drop (i + 1) sector_states)) (places_by is_freed m (drop (i + 1) sector_states)))) s

    pub passed_one : is_freed x ≡ false → IsSoFar first sector_states a b (i + 1)
    passed_one is = record { done = so_far.done; made = so_far.made; all = ap (λ (ws : List DiskWrite). so_far.done ++ ws) (sym (next false is)) ∙ so_far.all }

    abbrev frees : DiskWrite
    frees = LabelOnly (first + i) free_label

    with_one : is_freed x ≡ true → (so_far.done ++ frees ∷ []) ++ ahead ≡ freeing (places_by is_freed first sector_states)
    with_one is = append_assoc so_far.done (frees ∷ []) ahead ∙ ap (λ (ws : List DiskWrite). so_far.done ++ ws) (sym (next true is)) ∙ so_far.all

    pub freed_one : (c : DiskState) → is_freed x ≡ true → Writes frees b (Ok tt) c → IsSoFar first sector_states a c (i + 1)
    freed_one c is writes = record {
      done = so_far.done ++ frees ∷ [];
      made = carries_then so_far.done (frees ∷ []) a b c (Ok tt) so_far.made (carries_one frees b c (Ok tt) writes);
      all = with_one is;
    }

    pub freed_stopped : (c : DiskState) (e f : DiskError) → is_freed x ≡ true → Writes frees b (Err e) c → Carries (freeing (places_by is_freed first sector_states)) a (Err f) c
    freed_stopped c e f is writes =
        carries_as ((so_far.done ++ frees ∷ []) ++ ahead) (freeing (places_by is_freed first sector_states)) a c (Err f) (with_one is)
        (carries_stopped (so_far.done ++ frees ∷ []) ahead a c e f (carries_then so_far.done (frees ∷ []) a b c (Err e) so_far.made (carries_one frees b c (Err e) writes)))

  pub all_freed : (a b : DiskState) (i : ℕ) → length sector_states ≤ i → IsSoFar first sector_states a b i → Carries {E = DiskError} (freeing (places_by is_freed first sector_states)) a (Ok tt) b
  all_freed a b i full so_far =
      carries_as so_far.done (freeing (places_by is_freed first sector_states)) a b (Ok tt)
      (sym (nothing so_far.done) ∙ ap (λ (xs : List SectorState). so_far.done ++ freeing (places_by is_freed (first + i) xs)) (sym (drop_all i sector_states full)) ∙ so_far.all) so_far.made
    where
      nothing : (ws : List DiskWrite) → ws ++ [] ≡ ws
      nothing [] = refl
      nothing (w ∷ ws) = ap (λ (vs : List DiskWrite). w ∷ vs) (nothing ws)
