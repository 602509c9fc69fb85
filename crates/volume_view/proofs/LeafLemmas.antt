-- Records that are read leaf by leaf.
use Rattle.std.proofs.Common.{◌≡◌, ℕ, suc, ◌+◌, ◌<◌, ◌^◌, List, [], ◌∷◌, ◌++◌, length, take, drop, sym, ◌∙◌, ap, subst, arith}
use Rattle.std.specs.List.{flat_map}
use Rattle.std.proofs.lemmas.Grind.{flat_map-append}
use Rattle.std.proofs.lemmas.List.{append_assoc, take-append-drop}
use Rattle.page_tree.specs.Page.{page_at, filled, record_at}
use Rattle.file_map.specs.declared.run.Run.{Run}
use Rattle.file_map.specs.Run.{IsRun, IsRecord, run_bytes, run_in}
use Rattle.file_map.proofs.Records.{run_back, record_of_run}
use Rattle.volume_view.specs.declared.levels.Child.{Child}
use Rattle.volume_view.specs.Level.{items_of}
use Rattle.volume_view.specs.Form.{AreRead}
use Rattle.volume_view.specs.Records.{Follows, last_of}
use Rattle.volume_view.specs.Walk.{values, records_in}
use Rattle.volume_view.proofs.WalkLemmas.{values_more}
use Rattle.volume_view.proofs.ReadLemmas.{read_same, read_more, read_less, read_values, read_part}
use Rattle.volume_view.proofs.LevelLemmas.{child_of, flat_more}

-- one value more, after the records before
value_more : (records : List (List ℕ)) (f : ℕ → List ℕ) (i : ℕ) → records ++ values f (suc i) ≡ (records ++ values f i) ++ f i ∷ []
value_more records f i = ap (λ l. records ++ l) (values_more f i) ∙ sym (append_assoc records (values f i) (f i ∷ []))

module _ (n : ℕ) (few : n < 2 ^ 32) (records : List (List ℕ)) (f : ℕ → List ℕ) (i : ℕ) (runs : List Run) (last : Run) (bytes : List ℕ) (so_far : AreRead n (records ++ values f i) runs) (last_is : last ≡ last_of runs (length runs))
    (bytes_are : bytes ≡ f i) where
  pub read_one : (new : List Run) (r : Run) → IsRun n r → bytes ≡ run_bytes r → Follows last r → new ≡ runs ++ r ∷ [] → AreRead n (records ++ values f (i + 1)) new
  read_one new r form same follows pushed =
      let next : suc i ≡ i + 1 = omega arith in
      let more = read_more n (records ++ values f i) runs (f i) r so_far form (sym bytes_are ∙ same) (subst (λ (q : Run). Follows q r) last_is follows) in
      subst (λ (l : List Run). AreRead n (records ++ values f (i + 1)) l) (sym pushed)
      (subst (λ (m : ℕ). AreRead n (records ++ values f m) (runs ++ r ∷ [])) next (subst (λ (l : List (List ℕ)). AreRead n l (runs ++ r ∷ [])) (sym (value_more records f i)) more))

  pub read_broken : (count : ℕ) (all : List Run) → i < count → (Follows last (run_in bytes) → IsRecord n bytes → ⊥) → AreRead n (records ++ values f count) all → ⊥
  read_broken count all below broken whole =
      let prefix = read_values n records f count (suc i) all (omega (arith, below)) whole in
      let less = read_less n (records ++ values f i) (f i) _ (subst (λ (l : List (List ℕ)). AreRead n l (take (length records + suc i) all)) (value_more records f i) prefix) in
      let same = read_same n few (records ++ values f i) less.runs runs less.read so_far in
      let is : bytes ≡ run_bytes less.run = bytes_are ∙ less.same in
      let back : run_in bytes ≡ less.run = ap run_in is ∙ run_back n less.run few less.form in
      let before : last_of less.runs (length less.runs) ≡ last = ap (λ (l : List Run). last_of l (length l)) same ∙ sym last_is in
      broken (subst (Follows last) (sym back) (subst (λ (q : Run). Follows q less.run) before less.follows)) (subst (IsRecord n) (sym is) (record_of_run n less.run few less.form))

-- the records of one leaf more, read from bytes that are the same
module _ (n : ℕ) (b c page : List ℕ) (level : List Child) (j : ℕ) (below : j < length level) (same : c ≡ b) (read_page : page ≡ page_at c (child_of level j).page) where
  here : page ≡ page_at b (child_of level j).page
  here = read_page ∙ ap (λ (x : List ℕ). page_at x (child_of level j).page) same

  level_more : flat_map (records_in b) (take j (items_of level)) ++ values (record_at 24 page) (filled page) ≡ flat_map (records_in b) (take (j + 1) (items_of level))
  level_more = ap (λ (p : List ℕ). flat_map (records_in b) (take j (items_of level)) ++ values (record_at 24 p) (filled p)) here ∙ sym (flat_more (records_in b) level j below)

  pub leaf_read : (new : List Run) → AreRead n (flat_map (records_in b) (take j (items_of level)) ++ values (record_at 24 page) (filled page)) new → AreRead n (flat_map (records_in b) (take (j + 1) (items_of level))) new
  leaf_read new is = subst (λ (l : List (List ℕ)). AreRead n l new) level_more is

  pub leaf_broken : (all : List Run) → ((prefix : List Run) → AreRead n (flat_map (records_in b) (take j (items_of level)) ++ values (record_at 24 page) (filled page)) prefix → ⊥) → AreRead n (flat_map (records_in b) (items_of level)) all → ⊥
  leaf_broken all broken whole =
      let parts : flat_map (records_in b) (items_of level) ≡ flat_map (records_in b) (take (j + 1) (items_of level)) ++ flat_map (records_in b) (drop (j + 1) (items_of level)) =
      ap (flat_map (records_in b)) (sym (take-append-drop (j + 1) (items_of level))) ∙ flat_map-append (records_in b) (take (j + 1) (items_of level)) (drop (j + 1) (items_of level)) in
      let prefix = read_part n _ _ all (subst (λ (l : List (List ℕ)). AreRead n l all) parts whole) in
      broken _ (subst (λ (l : List (List ℕ)). AreRead n l (take (length (flat_map (records_in b) (take (j + 1) (items_of level))) + 0) all)) (sym level_more) prefix)
