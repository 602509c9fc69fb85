-- The writes of leaders, one by one: those so far, and those for the sectors and the leaders from here on, are all.
use Rattle.std.proofs.Common.{◌≡◌, ℕ, zero, suc, ◌+◌, ◌<◌, ◌≤◌, Bool, true, false, not, cond, List, [], ◌∷◌, ◌++◌, length, drop, replicate, Some, Result, Ok, Err, refl, sym, ◌∙◌, ap, subst, arith, append_assoc}
use Rattle.std.specs.Prelude.{slice_get}
use Rattle.std.proofs.lemmas.List.{drop_all}
use Rattle.std.proofs.lemmas.Option.{same_Some, none-some}
use Rattle.labelled_disk.specs.declared.disk.DiskError.{DiskError}
use Rattle.labelled_disk.specs.declared.disk.DiskWrite.{DiskWrite}
use Rattle.labelled_disk.specs.declared.disk.DiskWrite.TheVariants.{Whole}
use Rattle.labelled_disk.specs.declared.label.Label.{Label}
use Rattle.labelled_disk.specs.Calls.{Writes}
use Rattle.labelled_disk.specs.State.{DiskState}
use Rattle.label_survey.specs.declared.sector_state.SectorState.{SectorState}
use Rattle.label_survey.specs.Survey.{is_kept, places_by}
use Rattle.label_survey.proofs.SortLemmas.{append_nil}
use Rattle.scavenger.specs.Carries.{Carries}
use Rattle.scavenger.proofs.RowLemmas.{carries_one, carries_then, carries_stopped, carries_as, carries_none}
use Rattle.convert_laws.specs.Orders.{leader_writes}
use Rattle.volume_convert.specs.declared.heads.Head.{Head}
use Rattle.volume_convert.specs.Heads.{leader_by, leaders_by}
use Rattle.volume_convert.specs.Settled.{is_spare}

-- where there is no head
abbrev pub no_head : Head
no_head = record { id = 0; kind = 0; flags = 0 }

-- what is left of a list
dropped_one : {X : Type 0} (xs : List X) (i : ℕ) (x : X) → slice_get xs i ≡ Some x → drop i xs ≡ x ∷ drop (i + 1) xs
dropped_one [] i x here = absurd (none-some x here)
dropped_one {X} (y ∷ xs) zero x here = ap (λ (z : X). z ∷ xs) (same_Some y x here)
dropped_one {X} (y ∷ xs) (suc i) x here = let s : suc i + 1 ≡ suc (i + 1) = omega arith in dropped_one xs i x here ∙ ap (λ (m : ℕ). x ∷ drop m (y ∷ xs)) (sym s)

no_leaders : (places : List ℕ) → leader_writes places [] ≡ []
no_leaders [] = refl
no_leaders (p ∷ places) = refl

module _ (first : ℕ) (sector_states : List SectorState) (heads : List Head) where
  abbrev pub all_writes : List DiskWrite
  all_writes = leader_writes (places_by is_spare first sector_states) (leaders_by heads)

  -- the writes that are left from this sector and this leader on
  abbrev left : ℕ → ℕ → List DiskWrite
  left i placed = leader_writes (places_by is_spare (first + i) (drop i sector_states)) (leaders_by (drop placed heads))

  pub record IsSoFar (a b : DiskState) (i placed : ℕ) : Type 0 where
    pub done : List DiskWrite
    pub made : Carries {E = DiskError} done a (Ok tt) b
    pub all : done ++ left i placed ≡ all_writes
    pub few : placed ≤ length heads

  pub none_so_far : (a : DiskState) → IsSoFar a a 0 0
  none_so_far a = record {
    done = [];
    made = carries_none a;
    all = let z : first + 0 ≡ first = omega arith in ap (λ (m : ℕ). leader_writes (places_by is_spare m sector_states) (leaders_by heads)) z;
    few = omega arith;
  }

  module _ (a b : DiskState) (i placed : ℕ) (x : SectorState) (here : slice_get sector_states i ≡ Some x) (so_far : IsSoFar a b i placed) where
    abbrev ahead : List ℕ
    ahead = places_by is_spare (first + (i + 1)) (drop (i + 1) sector_states)

    next : (t : Bool) → is_kept x ≡ t → places_by is_spare (first + i) (drop i sector_states) ≡ cond (not t) ((first + i) ∷ ahead) ahead
    next t is =
        let s : first + i + 1 ≡ first + (i + 1) = omega arith in
        ap (λ (xs : List SectorState). places_by is_spare (first + i) xs) (dropped_one sector_states i x here)
        ∙ ap (λ (u : Bool). cond (not u) ((first + i) ∷ places_by is_spare (first + i + 1) (drop (i + 1) sector_states)) (places_by is_spare (first + i + 1) (drop (i + 1) sector_states))) is
        ∙ ap (λ (m : ℕ). cond (not t) ((first + i) ∷ places_by is_spare m (drop (i + 1) sector_states)) (places_by is_spare m (drop (i + 1) sector_states))) s

    -- a sector that is kept
    pub passed_kept : is_kept x ≡ true → IsSoFar a b (i + 1) placed
    passed_kept is = record {
      done = so_far.done;
      made = so_far.made;
      all = ap (λ (ps : List ℕ). so_far.done ++ leader_writes ps (leaders_by (drop placed heads))) (sym (next true is)) ∙ so_far.all;
      few = so_far.few;
    }

    none_left : length heads ≤ placed → (places : List ℕ) → leader_writes places (leaders_by (drop placed heads)) ≡ []
    none_left full places = ap (λ (hs : List Head). leader_writes places (leaders_by hs)) (drop_all placed heads full) ∙ no_leaders places

    -- each file has its leader
    pub passed_full : length heads ≤ placed → IsSoFar a b (i + 1) placed
    passed_full full = record {
      done = so_far.done;
      made = so_far.made;
      all = ap (λ (ws : List DiskWrite). so_far.done ++ ws) (none_left full ahead ∙ sym (none_left full (places_by is_spare (first + i) (drop i sector_states)))) ∙ so_far.all;
      few = so_far.few;
    }

    module _ (h : Head) (there : slice_get heads placed ≡ Some h) (spare : is_kept x ≡ false) where
      abbrev one : DiskWrite
      one = Whole (first + i) (leader_by h) (replicate 512 0)

      with_one : left i placed ≡ one ∷ left (i + 1) (placed + 1)
      with_one =
          ap (λ (ps : List ℕ). leader_writes ps (leaders_by (drop placed heads))) (next false spare)
          ∙ ap (λ (hs : List Head). leader_writes ((first + i) ∷ ahead) (leaders_by hs)) (dropped_one heads placed h there)

      all_with : (so_far.done ++ one ∷ []) ++ left (i + 1) (placed + 1) ≡ all_writes
      all_with = append_assoc so_far.done (one ∷ []) (left (i + 1) (placed + 1)) ∙ ap (λ (ws : List DiskWrite). so_far.done ++ ws) (sym with_one) ∙ so_far.all

      as_one : (l : Label) → l ≡ leader_by h → (r : Result (Unit {0}) DiskError) (c : DiskState) → Writes (Whole (first + i) l (replicate 512 0)) b r c → Carries (one ∷ []) b r c
      as_one l is r c writes = carries_one one b c r (subst (λ (k : Label). Writes (Whole (first + i) k (replicate 512 0)) b r c) is writes)

      pub led_one : (l : Label) → l ≡ leader_by h → (c : DiskState) → placed < length heads → Writes (Whole (first + i) l (replicate 512 0)) b (Ok tt) c → IsSoFar a c (i + 1) (placed + 1)
      led_one l is c low writes = record {
        done = so_far.done ++ one ∷ [];
        made = carries_then so_far.done (one ∷ []) a b c (Ok tt) so_far.made (as_one l is (Ok tt) c writes);
        all = all_with;
        few = omega (arith, low);
      }

      pub led_stopped : (l : Label) → l ≡ leader_by h → (c : DiskState) (e f : DiskError) → Writes (Whole (first + i) l (replicate 512 0)) b (Err e) c → Carries all_writes a (Err f) c
      led_stopped l is c e f writes =
          carries_as ((so_far.done ++ one ∷ []) ++ left (i + 1) (placed + 1)) all_writes a c (Err f) all_with
          (carries_stopped (so_far.done ++ one ∷ []) (left (i + 1) (placed + 1)) a c e f (carries_then so_far.done (one ∷ []) a b c (Err e) so_far.made (as_one l is (Err e) c writes)))

  pub all_led : (a b : DiskState) (i placed : ℕ) → length sector_states ≤ i → IsSoFar a b i placed → Carries {E = DiskError} all_writes a (Ok tt) b
  all_led a b i placed full so_far =
      carries_as so_far.done all_writes a b (Ok tt)
      (sym (append_nil so_far.done) ∙ ap (λ (xs : List SectorState). so_far.done ++ leader_writes (places_by is_spare (first + i) xs) (leaders_by (drop placed heads))) (sym (drop_all i sector_states full)) ∙ so_far.all) so_far.made
