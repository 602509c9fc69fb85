-- Runs that are read one after the other from records, and the map that they make.
use Rattle.std.proofs.Common.{◌≡◌, inl, inr, ℕ, zero, suc, ◌+◌, ◌<◌, ◌≤◌, ◌^◌, List, [], ◌∷◌, ◌++◌, length, map, take, get_or, Some, refl, sym, ◌∙◌, ap, subst, arith, length-append}
use Rattle.std.specs.Prelude.{slice_get}
use Rattle.std.proofs.lemmas.Bool.{cases_lt}
use Rattle.std.proofs.lemmas.List.{length-map, map-append, get_or-map, get_or_push}
use Rattle.std.proofs.lemmas.Option.{none-some, slice_get-get_or}
use Rattle.file_map.specs.declared.run.Run.{Run}
use Rattle.file_map.specs.Run.{IsRun, run_bytes, run_in}
use Rattle.file_map.specs.FileMap.{run_at, no_run}
use Rattle.file_map.proofs.Records.{run_back}
use Rattle.volume_view.specs.Records.{AreAllInForm, Follows, last_of}
use Rattle.volume_view.specs.Form.{AreRead}
use Rattle.volume_view.specs.Walk.{values}
use Rattle.volume_view.proofs.ListLemmas.{in_pushed}

-- records reveal their runs
rest : {A : Type 0} → List A → List A
rest [] = []
rest (x ∷ xs) = xs

same_runs : (n : ℕ) → n < 2 ^ 32 → (rs qs : List Run) → AreAllInForm n rs → AreAllInForm n qs → map run_bytes rs ≡ map run_bytes qs → rs ≡ qs
unfolding rest
same_runs n few [] [] r_form q_form same = refl
same_runs n few [] (q ∷ qs) r_form q_form same = let long = ap length same in absurd (omega (arith, long))
same_runs n few (r ∷ rs) [] r_form q_form same = let long = ap length same in absurd (omega (arith, long))
same_runs n few (r ∷ rs) (q ∷ qs) r_form q_form same =
    let prefix : run_bytes r ≡ run_bytes q = ap (λ (l : List (List ℕ)). get_or l 0 []) same in
    let one : r ≡ q = sym (run_back n r few (r_form 0 r refl)) ∙ ap run_in prefix ∙ run_back n q few (q_form 0 q refl) in
    ap (λ (x : Run). x ∷ rs) one ∙ ap (λ (l : List Run). q ∷ l) (same_runs n few rs qs (λ j x at. r_form (suc j) x at) (λ j x at. q_form (suc j) x at) (ap rest same))

pub read_same : (n : ℕ) → n < 2 ^ 32 → (records : List (List ℕ)) (rs qs : List Run) → AreRead n records rs → AreRead n records qs → rs ≡ qs
read_same n few records rs qs a c = same_runs n few rs qs a.form c.form (a.listed ∙ sym c.listed)

pub read_long : (n : ℕ) (records : List (List ℕ)) (rs : List Run) → AreRead n records rs → length rs ≡ length records
read_long n records rs is = sym (length-map rs run_bytes) ∙ ap length is.listed

pub read_none : (n : ℕ) → AreRead n [] []
read_none n = record { listed = refl; form = λ j r at. absurd (none-some r at); follow = λ k below. absurd (omega (arith, below)) }

-- the first of a list with one more
prefix_at : {A : Type 0} (xs ys : List A) (k : ℕ) (d : A) → k < length xs → get_or (xs ++ ys) k d ≡ get_or xs k d
prefix_at [] ys k d below = absurd (omega (arith, below))
prefix_at (x ∷ xs) ys zero d below = refl
prefix_at (x ∷ xs) ys (suc k) d below = prefix_at xs ys k d (omega (arith, below))

last_prefix : (rs : List Run) (r : Run) (k : ℕ) → k ≤ length rs → last_of (rs ++ r ∷ []) k ≡ last_of rs k
last_prefix rs r zero below = refl
last_prefix rs r (suc k) below = prefix_at rs (r ∷ []) k no_run (omega (arith, below))

-- one record more
pub read_more : (n : ℕ) (records : List (List ℕ)) (rs : List Run) (x : List ℕ) (r : Run) → AreRead n records rs → IsRun n r → x ≡ run_bytes r → Follows (last_of rs (length rs)) r → AreRead n (records ++ x ∷ []) (rs ++ r ∷ [])
read_more n records rs x r is form same follows = record {
  listed = map-append run_bytes rs (r ∷ []) ∙ ap (λ (l : List (List ℕ)). l ++ run_bytes r ∷ []) is.listed ∙ ap (λ (y : List ℕ). records ++ y ∷ []) (sym same);
  form = λ j q at. elim (in_pushed rs r j q at) [
    | inl old ↦ is.form j q old
    | inr last ↦ subst (IsRun n) last form
  ];
  follow = λ k below. elim (cases_lt k (length rs)) [
    | inl low ↦
        subst (λ (p : Run). Follows p (run_at (rs ++ r ∷ []) k)) (sym (last_prefix rs r k (omega (arith, low))))
        (subst (Follows (last_of rs k)) (sym (prefix_at rs (r ∷ []) k no_run low)) (is.follow k low))
    | inr high ↦
        let long = length-append rs (r ∷ []) in
        let at : length rs ≡ k = omega (arith, high, below, long) in
        subst (λ (p : Run). Follows p (run_at (rs ++ r ∷ []) k)) (sym (last_prefix rs r k (omega (arith, at))))
        (subst (Follows (last_of rs k)) (sym (get_or_push rs r no_run k at)) (subst (λ (m : ℕ). Follows (last_of rs m) r) at follows))
  ];
}

-- the first of them
take_at : {A : Type 0} (xs : List A) (m k : ℕ) (d : A) → k < m → get_or (take m xs) k d ≡ get_or xs k d
take_at xs zero k d below = absurd (omega (arith, below))
take_at [] (suc m) k d below = refl
take_at (x ∷ xs) (suc m) zero d below = refl
take_at (x ∷ xs) (suc m) (suc k) d below = take_at xs m k d (omega (arith, below))

taken_some : {A : Type 0} (xs : List A) (m k : ℕ) (y : A) → slice_get (take m xs) k ≡ Some y → slice_get xs k ≡ Some y
taken_some xs zero k y at = absurd (none-some y at)
taken_some [] (suc m) k y at = at
taken_some (x ∷ xs) (suc m) zero y at = at
taken_some (x ∷ xs) (suc m) (suc k) y at = taken_some xs m k y at

map_taken : {A B : Type 0} (f : A → B) (xs : List A) (m : ℕ) → map f (take m xs) ≡ take m (map f xs)
map_taken f xs zero = refl
map_taken f [] (suc m) = refl
map_taken f (x ∷ xs) (suc m) = ap (λ l. f x ∷ l) (map_taken f xs m)

taken_short : {A : Type 0} (xs : List A) (m : ℕ) → length (take m xs) ≤ m
taken_short xs zero = omega arith
taken_short [] (suc m) = omega arith
taken_short (x ∷ xs) (suc m) = let more = taken_short xs m in omega (arith, more)

taken_within : {A : Type 0} (xs : List A) (m : ℕ) → length (take m xs) ≤ length xs
taken_within xs zero = omega arith
taken_within [] (suc m) = omega arith
taken_within (x ∷ xs) (suc m) = let more = taken_within xs m in omega (arith, more)

last_taken : (rs : List Run) (m k : ℕ) → k ≤ m → last_of (take m rs) k ≡ last_of rs k
last_taken rs m zero below = refl
last_taken rs m (suc k) below = take_at rs m k no_run (omega (arith, below))

pub read_prefix : (n : ℕ) (records : List (List ℕ)) (rs : List Run) (m : ℕ) → AreRead n records rs → AreRead n (take m records) (take m rs)
read_prefix n records rs m is = record {
  listed = map_taken run_bytes rs m ∙ ap (take m) is.listed;
  form = λ j r at. is.form j r (taken_some rs m j r at);
  follow = λ k below.
      let short = taken_short rs m in
      let within = taken_within rs m in
      subst (λ (p : Run). Follows p (run_at (take m rs) k)) (sym (last_taken rs m k (omega (arith, below, short))))
      (subst (Follows (last_of rs k)) (sym (take_at rs m k no_run (omega (arith, below, short)))) (is.follow k (omega (arith, below, within))));
}

take_append : {A : Type 0} (xs ys : List A) (m : ℕ) → take (length xs + m) (xs ++ ys) ≡ xs ++ take m ys
take_append [] ys m = let z : 0 + m ≡ m = omega arith in ap (λ k. take k ys) z
take_append (x ∷ xs) ys m = let s : suc (length xs) + m ≡ suc (length xs + m) = omega arith in ap (λ k. take k (x ∷ xs ++ ys)) s ∙ ap (λ l. x ∷ l) (take_append xs ys m)

-- what the last of them says
pub record IsLastRead (n : ℕ) (records : List (List ℕ)) (x : List ℕ) : Type 0 where
  pub runs : List Run
  pub read : AreRead n records runs
  pub run : Run
  pub form : IsRun n run
  pub same : x ≡ run_bytes run
  pub follows : Follows (last_of runs (length runs)) run

pub read_less : (n : ℕ) (records : List (List ℕ)) (x : List ℕ) (all : List Run) → AreRead n (records ++ x ∷ []) all → IsLastRead n records x
read_less n records x all is =
    let m = length records in
    let long = read_long n (records ++ x ∷ []) all is ∙ length-append records (x ∷ []) in
    let below : m < length all = omega (arith, long) in
    let prefix : take m (records ++ x ∷ []) ≡ records = let z : m + 0 ≡ m = omega arith in ap (λ k. take k (records ++ x ∷ [])) (sym z) ∙ take_append records (x ∷ []) 0 ∙ append_none records in
    let read = subst (λ (l : List (List ℕ)). AreRead n l (take m all)) prefix (read_prefix n (records ++ x ∷ []) all m is) in
    let count = read_long n records (take m all) read in
    record {
      runs = take m all;
      read = read;
      run = run_at all m;
      form = is.form m (run_at all m) (slice_get-get_or all m no_run below);
      same = sym (get_or_push records x [] m refl) ∙ ap (λ (l : List (List ℕ)). get_or l m []) (sym is.listed) ∙ get_or-map run_bytes all m no_run [] below;
      follows = subst (λ (p : Run). Follows p (run_at all m)) (sym (ap (last_of (take m all)) count ∙ last_taken all m m (omega arith))) (is.follow m below);
    }
  where
    append_none : (xs : List (List ℕ)) → xs ++ [] ≡ xs
    append_none [] = refl
    append_none (y ∷ ys) = ap (λ l. y ∷ l) (append_none ys)

take_values : {A : Type 0} (f : ℕ → A) (n m : ℕ) → m ≤ n → take m (values f n) ≡ values f m
take_values f n zero most = refl
take_values f zero (suc m) most = absurd (omega (arith, most))
take_values f (suc n) (suc m) most = ap (λ l. f 0 ∷ l) (take_values (λ i. f (suc i)) n m (omega (arith, most)))

-- of records after these, the first so many
pub read_values : (n : ℕ) (records : List (List ℕ)) (f : ℕ → List ℕ) (count m : ℕ) (all : List Run) → m ≤ count → AreRead n (records ++ values f count) all → AreRead n (records ++ values f m) (take (length records + m) all)
read_values n records f count m all most is =
    subst (λ (l : List (List ℕ)). AreRead n l (take (length records + m) all)) (take_append records (values f count) m ∙ ap (λ l. records ++ l) (take_values f count m most)) (read_prefix n (records ++ values f count) all (length records + m) is)

pub read_part : (n : ℕ) (xs ys : List (List ℕ)) (all : List Run) → AreRead n (xs ++ ys) all → AreRead n xs (take (length xs + 0) all)
read_part n xs ys all is = subst (λ (l : List (List ℕ)). AreRead n l (take (length xs + 0) all)) (take_append xs ys 0 ∙ append_none xs) (read_prefix n (xs ++ ys) all (length xs + 0) is)
  where
    append_none : (xs : List (List ℕ)) → xs ++ [] ≡ xs
    append_none [] = refl
    append_none (y ∷ ys) = ap (λ l. y ∷ l) (append_none ys)
