-- Sector states that are counted and listed.
use Rattle.std.proofs.Common.{◌≡◌, ℕ, zero, suc, ◌+◌, ◌-◌, ◌≤◌, Bool, true, false, not, ◌&&◌, cond, List, [], ◌∷◌, ◌++◌, length, take, Some, refl, sym, ◌∙◌, ap, subst, arith, eqb}
use Rattle.std.specs.Prelude.{slice_get, option_map}
use Rattle.std.specs.Option.{option_map_or}
use Rattle.std.proofs.lemmas.Option.{same_Some, none-some}
use Rattle.std.proofs.lemmas.Bool.{and_parts, true≢false}
use Rattle.labelled_disk.specs.Label.{is_file, is_free, leader_page}
use Rattle.labelled_disk.specs.Sectors.{Sector}
use Rattle.labelled_disk.specs.Layout.{data_sectors, first_data}
use Rattle.labelled_disk.specs.FilesOn.{disk_file}
use Rattle.label_laws.specs.Counts.{places, needs_place, needed_leaders, needed_pages, unneeded_sectors, lost_sectors, is_of_some_file}
use Rattle.label_laws.proofs.CountLemmas.{count_laws}
use Rattle.label_survey.specs.declared.sector_state.SectorState.{SectorState}
use Rattle.label_survey.specs.declared.sector_state.SectorState.TheVariants.{Free, Orphan, Lost, Leader, Page}
use Rattle.label_survey.specs.declared.tally.Tally.{Tally}
use Rattle.label_survey.specs.SectorStates.{sector_state, AreSectorStates}
use Rattle.label_survey.specs.Survey.{is_leader, is_kept_page, is_freed, is_lost, places_by, IsTally, Tallies, counted, Reveals}
use Rattle.label_survey.proofs.SectorStateLemmas.{file_not_free}

-- One more.

module _ (test : SectorState → Bool) where
  one_more : (n : ℕ) (xs : List SectorState) (k : ℕ) (x : SectorState) → slice_get xs k ≡ Some x → places_by test n (take (suc k) xs) ≡ places_by test n (take k xs) ++ cond (test x) ((n + k) ∷ []) []
  one_more n [] k x here = absurd (none-some x here)
  one_more n (y ∷ ys) zero x here =
      let z : n ≡ n + 0 = omega arith in
      ap (λ (s : SectorState). cond (test s) (n ∷ []) []) (same_Some y x here) ∙ ap (λ (m : ℕ). cond (test x) (m ∷ []) []) z
  one_more n (y ∷ ys) (suc k) x here =
      let e : n + 1 + k ≡ n + suc k = omega arith in
      either (test y) (one_more (n + 1) ys k x here ∙ ap (λ (m : ℕ). places_by test (n + 1) (take k ys) ++ cond (test x) (m ∷ []) []) e)
    where
      either : (b : Bool) → places_by test (n + 1) (take (suc k) ys) ≡ places_by test (n + 1) (take k ys) ++ cond (test x) ((n + suc k) ∷ []) []
          → cond b (n ∷ places_by test (n + 1) (take (suc k) ys)) (places_by test (n + 1) (take (suc k) ys)) ≡ cond b (n ∷ places_by test (n + 1) (take k ys)) (places_by test (n + 1) (take k ys)) ++ cond (test x) ((n + suc k) ∷ []) []
      either true e = ap (λ (r : List ℕ). n ∷ r) e
      either false e = e

  append_nil : (ns : List ℕ) → ns ++ [] ≡ ns
  append_nil [] = refl
  append_nil (n ∷ ns) = ap (λ (r : List ℕ). n ∷ r) (append_nil ns)

  append_one : (ns : List ℕ) (m : ℕ) → length (ns ++ m ∷ []) ≡ length ns + 1
  append_one [] m = refl
  append_one (n ∷ ns) m = let more = append_one ns m in omega (arith, more)

  pub place_more : (n : ℕ) (xs : List SectorState) (k : ℕ) (x : SectorState) → slice_get xs k ≡ Some x → test x ≡ true → places_by test n (take (k + 1) xs) ≡ places_by test n (take k xs) ++ (n + k) ∷ []
  place_more n xs k x here passes =
      let s : k + 1 ≡ suc k = omega arith in
      ap (λ (m : ℕ). places_by test n (take m xs)) s ∙ one_more n xs k x here ∙ ap (λ (b : Bool). places_by test n (take k xs) ++ cond b ((n + k) ∷ []) []) passes

  pub place_same : (n : ℕ) (xs : List SectorState) (k : ℕ) (x : SectorState) → slice_get xs k ≡ Some x → test x ≡ false → places_by test n (take (k + 1) xs) ≡ places_by test n (take k xs)
  place_same n xs k x here fails =
      let s : k + 1 ≡ suc k = omega arith in
      ap (λ (m : ℕ). places_by test n (take m xs)) s ∙ one_more n xs k x here ∙ ap (λ (b : Bool). places_by test n (take k xs) ++ cond b ((n + k) ∷ []) []) fails ∙ append_nil (places_by test n (take k xs))

  length_more : (n : ℕ) (xs : List SectorState) (k : ℕ) (x : SectorState) → slice_get xs k ≡ Some x → test x ≡ true → length (places_by test n (take (k + 1) xs)) ≡ length (places_by test n (take k xs)) + 1
  length_more n xs k x here passes = ap (λ (l : List ℕ). length l) (place_more n xs k x here passes) ∙ append_one (places_by test n (take k xs)) (n + k)

  length_same : (n : ℕ) (xs : List SectorState) (k : ℕ) (x : SectorState) → slice_get xs k ≡ Some x → test x ≡ false → length (places_by test n (take (k + 1) xs)) ≡ length (places_by test n (take k xs))
  length_same n xs k x here fails = ap (λ (l : List ℕ). length l) (place_same n xs k x here fails)

  length_most : (n k : ℕ) (xs : List SectorState) → length (places_by test n (take k xs)) ≤ k
  length_most n zero xs = omega arith
  length_most n (suc k) [] = omega arith
  length_most n (suc k) (x ∷ xs) = either (test x) (length_most (n + 1) k xs)
    where
      either : (b : Bool) → length (places_by test (n + 1) (take k xs)) ≤ k → length (cond b (n ∷ places_by test (n + 1) (take k xs)) (places_by test (n + 1) (take k xs))) ≤ suc k
      either true l = omega (arith, l)
      either false l = omega (arith, l)

  -- where each stands as a function of its place and sector reveals
  pub places_agree : (g : ℕ → Sector → SectorState) (own : ℕ → Sector → Bool) (n : ℕ) (sector_states : List SectorState) (sectors : List Sector)
      → ((j : ℕ) → slice_get sector_states j ≡ option_map (g (n + j)) (slice_get sectors j)) → ((m : ℕ) (s : Sector) → test (g m s) ≡ own m s) → places_by test n sector_states ≡ places own n sectors
  places_agree g own n [] [] stand same = refl
  places_agree g own n [] (s ∷ ss) stand same = absurd (none-some (g (n + 0) s) (stand 0))
  places_agree g own n (x ∷ xs) [] stand same = absurd (none-some x (sym (stand 0)))
  places_agree g own n (x ∷ xs) (s ∷ ss) stand same =
      let z : n + 0 ≡ n = omega arith in
      let first : x ≡ g n s = same_Some x (g (n + 0) s) (stand 0) ∙ ap (λ (m : ℕ). g m s) z in
      let rest = places_agree g own (n + 1) xs ss (λ j. stand (suc j) ∙ (let e : n + suc j ≡ n + 1 + j = omega arith in ap (λ (m : ℕ). option_map (g m) (slice_get ss j)) e)) same in
      ap (λ (b : Bool). cond b (n ∷ places_by test (n + 1) xs) (places_by test (n + 1) xs)) (ap test first ∙ same n s)
      ∙ ap (λ (r : List ℕ). cond (own n s) (n ∷ r) r) rest

-- Counts.

pub none_counted : (sector_states : List SectorState) → IsTally (take 0 sector_states) (record { files = 0; pages = 0; freed = 0 })
none_counted sector_states = record { files = λ n. refl; pages = λ n. refl; freed = λ n. refl }

pub one_counted : (xs : List SectorState) (k : ℕ) (x : SectorState) (t : Tally) → slice_get xs k ≡ Some x → IsTally (take k xs) t → IsTally (take (k + 1) xs) (counted x t)
one_counted xs k Leader t here is = record {
  files = λ n. let l = length_more is_leader n xs k Leader here refl in omega (arith, is.files n, l);
  pages = λ n. is.pages n ∙ sym (length_same is_kept_page n xs k Leader here refl);
  freed = λ n. is.freed n ∙ sym (length_same is_freed n xs k Leader here refl);
}
one_counted xs k Page t here is = record {
  files = λ n. is.files n ∙ sym (length_same is_leader n xs k Page here refl);
  pages = λ n. let l = length_more is_kept_page n xs k Page here refl in omega (arith, is.pages n, l);
  freed = λ n. is.freed n ∙ sym (length_same is_freed n xs k Page here refl);
}
one_counted xs k Free t here is = record {
  files = λ n. is.files n ∙ sym (length_same is_leader n xs k Free here refl);
  pages = λ n. is.pages n ∙ sym (length_same is_kept_page n xs k Free here refl);
  freed = λ n. is.freed n ∙ sym (length_same is_freed n xs k Free here refl);
}
one_counted xs k Lost t here is = record {
  files = λ n. is.files n ∙ sym (length_same is_leader n xs k Lost here refl);
  pages = λ n. is.pages n ∙ sym (length_same is_kept_page n xs k Lost here refl);
  freed = λ n. let l = length_more is_freed n xs k Lost here refl in omega (arith, is.freed n, l);
}
one_counted xs k Orphan t here is = record {
  files = λ n. is.files n ∙ sym (length_same is_leader n xs k Orphan here refl);
  pages = λ n. is.pages n ∙ sym (length_same is_kept_page n xs k Orphan here refl);
  freed = λ n. let l = length_more is_freed n xs k Orphan here refl in omega (arith, is.freed n, l);
}

pub few_counted : (xs : List SectorState) (k : ℕ) (t : Tally) → IsTally (take k xs) t → (t.files ≤ k) × (t.pages ≤ k) × (t.freed ≤ k)
few_counted xs k t is = (
  (let l = length_most is_leader 0 k xs in omega (arith, l, is.files 0)),
  (let l = length_most is_kept_page 0 k xs in omega (arith, l, is.pages 0)),
  (let l = length_most is_freed 0 k xs in omega (arith, l, is.freed 0)),
)

take_whole : (k : ℕ) (xs : List SectorState) → length xs ≤ k → take k xs ≡ xs
take_whole zero [] long = refl
take_whole zero (x ∷ xs) long = absurd (omega (arith, long))
take_whole (suc k) [] long = refl
take_whole (suc k) (x ∷ xs) long = ap (λ (l : List SectorState). x ∷ l) (take_whole k xs (omega (arith, long)))

-- all are counted
pub all_counted : (xs : List SectorState) (k : ℕ) (t : Tally) → length xs ≤ k → IsTally (take k xs) t → IsTally xs t
all_counted xs k t long is = subst (λ (l : List SectorState). IsTally l t) (take_whole k xs long) is

-- each sector is counted once at most
pub each_once : (n : ℕ) (xs : List SectorState) → length (places_by is_leader n xs) + length (places_by is_kept_page n xs) + length (places_by is_freed n xs) ≤ length xs
each_once n [] = omega arith
each_once n (Leader ∷ xs) = let rest = each_once (n + 1) xs in omega (arith, rest)
each_once n (Page ∷ xs) = let rest = each_once (n + 1) xs in omega (arith, rest)
each_once n (Free ∷ xs) = let rest = each_once (n + 1) xs in omega (arith, rest)
each_once n (Lost ∷ xs) = let rest = each_once (n + 1) xs in omega (arith, rest)
each_once n (Orphan ∷ xs) = let rest = each_once (n + 1) xs in omega (arith, rest)

pub within : (xs : List SectorState) (t : Tally) → IsTally xs t → t.files + t.pages + t.freed ≤ length xs
within xs t is = let once = each_once 0 xs in omega (arith, once, is.files 0, is.pages 0, is.freed 0)

-- What they count.

leader_stands : (n l f o : Bool) → is_leader (cond n (cond l Leader Page) (cond f Free (cond o Lost Orphan))) ≡ (n && l)
leader_stands true true f o = refl
leader_stands true false f o = refl
leader_stands false l true o = refl
leader_stands false l false true = refl
leader_stands false l false false = refl

page_stands : (n l f o : Bool) → is_kept_page (cond n (cond l Leader Page) (cond f Free (cond o Lost Orphan))) ≡ (n && not l)
page_stands true true f o = refl
page_stands true false f o = refl
page_stands false l true o = refl
page_stands false l false true = refl
page_stands false l false false = refl

freed_stands : (n l f o : Bool) → is_freed (cond n (cond l Leader Page) (cond f Free (cond o Lost Orphan))) ≡ (not f && not n)
freed_stands true true true o = refl
freed_stands true true false o = refl
freed_stands true false true o = refl
freed_stands true false false o = refl
freed_stands false l true o = refl
freed_stands false l false true = refl
freed_stands false l false false = refl

lost_stands : (n l f o : Bool) → (o ≡ true → f ≡ false) → is_lost (cond n (cond l Leader Page) (cond f Free (cond o Lost Orphan))) ≡ (not n && o)
lost_stands true true f o apart = refl
lost_stands true false f o apart = refl
lost_stands false l true true apart = absurd (true≢false (apart refl))
lost_stands false l true false apart = refl
lost_stands false l false true apart = refl
lost_stands false l false false apart = refl

module _ (d : List Sector) (sector_states : List SectorState) (are : AreSectorStates d sector_states) where
  by_place : (j : ℕ) → slice_get sector_states j ≡ option_map (λ (s : Sector). sector_state d (first_data (length d) + j - first_data (length d)) s) (slice_get (data_sectors d) j)
  by_place j = let e : j ≡ first_data (length d) + j - first_data (length d) = omega arith in are j ∙ ap (λ (k : ℕ). option_map (sector_state d k) (slice_get (data_sectors d) j)) e

  leaders : places_by is_leader (first_data (length d)) sector_states ≡ needed_leaders false d
  leaders = places_agree is_leader (λ m s. sector_state d (m - first_data (length d)) s) (λ i s. needs_place false d i && eqb s.0.page leader_page) (first_data (length d)) sector_states (data_sectors d) by_place
      (λ m s. leader_stands (needs_place false d m) (eqb s.0.page leader_page) (is_free s.0) (is_of_some_file false d s))

  pages : places_by is_kept_page (first_data (length d)) sector_states ≡ needed_pages false d
  pages = places_agree is_kept_page (λ m s. sector_state d (m - first_data (length d)) s) (λ i s. needs_place false d i && not (eqb s.0.page leader_page)) (first_data (length d)) sector_states (data_sectors d) by_place
      (λ m s. page_stands (needs_place false d m) (eqb s.0.page leader_page) (is_free s.0) (is_of_some_file false d s))

  pub freed : places_by is_freed (first_data (length d)) sector_states ≡ unneeded_sectors false d
  freed = places_agree is_freed (λ m s. sector_state d (m - first_data (length d)) s) (λ i s. not (is_free s.0) && not (needs_place false d i)) (first_data (length d)) sector_states (data_sectors d) by_place
      (λ m s. freed_stands (needs_place false d m) (eqb s.0.page leader_page) (is_free s.0) (is_of_some_file false d s))

  lost : places_by is_lost (first_data (length d)) sector_states ≡ lost_sectors false d
  lost = places_agree is_lost (λ m s. sector_state d (m - first_data (length d)) s) (λ i s. not (needs_place false d i) && is_of_some_file false d s) (first_data (length d)) sector_states (data_sectors d) by_place
      (λ m s. lost_stands (needs_place false d m) (eqb s.0.page leader_page) (is_free s.0) (is_of_some_file false d s)
      (λ some. file_not_free d s.0 (and_parts (is_file s.0) (option_map_or (λ f. true) (disk_file false d s.0.id) false) some).0))

  pub tallies : (tally : Tally) → IsTally sector_states tally → Tallies d tally
  tallies tally is = record {
    files = is.files (first_data (length d)) ∙ ap (λ (l : List ℕ). length l) leaders ∙ (count_laws false).files d;
    pages = is.pages (first_data (length d)) ∙ ap (λ (l : List ℕ). length l) pages ∙ (count_laws false).pages d;
    freed = is.freed (first_data (length d)) ∙ ap (λ (l : List ℕ). length l) freed;
  }

  pub reveals : (tally : Tally) (first : ℕ) (found : List ℕ) → Tallies d tally → first ≡ first_data (length d) → found ≡ places_by is_lost first sector_states → Reveals d sector_states tally found
  reveals tally first found counts at listed = record {
    sector_states = are;
    tallies = counts;
    lost = listed ∙ ap (λ (n : ℕ). places_by is_lost n sector_states) at ∙ lost;
  }

-- the next sector is lost, or is not
pub lost_more : (n : ℕ) (xs : List SectorState) (k : ℕ) (x : SectorState) (old new : List ℕ) (place : ℕ) → old ≡ places_by is_lost n (take k xs) → new ≡ old ++ place ∷ [] → place ≡ n + k → slice_get xs k ≡ Some x → is_lost x ≡ true
    → new ≡ places_by is_lost n (take (k + 1) xs)
lost_more n xs k x old new place so_far pushed at here passes =
    pushed
    ∙ ap (λ (l : List ℕ). l ++ place ∷ []) so_far
    ∙ ap (λ (m : ℕ). places_by is_lost n (take k xs) ++ m ∷ []) at
    ∙ sym (place_more is_lost n xs k x here passes)
