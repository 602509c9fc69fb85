-- Labels and sector states as the loops make them, one by one.
use Rattle.std.proofs.Common.{◌≡◌, ℕ, zero, suc, ◌+◌, Bool, true, false, cond, List, [], ◌∷◌, ◌++◌, drop, length, map, Option, Some, None, Result, Ok, Err, refl, sym, ◌∙◌, ap, arith, ltb, slice_index_or}
use Rattle.std.specs.Prelude.{IfOk, IfSome, is_some, option_map, slice_get}
use Rattle.std.specs.List.{range_with_len}
use Rattle.std.proofs.lemmas.List.{length-map}
use Rattle.std.proofs.lemmas.List.FromFn.{map-range_with_len_more}
use Rattle.std.proofs.lemmas.Bool.{ltb-true, ltb-false}
use Rattle.std.proofs.lemmas.Option.{slice_get-get_or, slice_get-map, slice_get_past}
use Rattle.labelled_disk.specs.declared.label.Label.{Label}
use Rattle.labelled_disk.specs.Layout.{data_sectors, first_data}
use Rattle.labelled_disk.specs.Sectors.{Sector}
use Rattle.label_survey.specs.declared.sector_state.SectorState.{SectorState}
use Rattle.label_survey.specs.declared.sector_state.SectorState.TheVariants.{Free}
use Rattle.label_survey.specs.Survey.{is_kept}
use Rattle.old_files.specs.Reread.{all_reread, label_before, reread}
use Rattle.volume_convert.specs.declared.heads.Head.{Head}
use Rattle.volume_convert.specs.Heads.{leader_by, leaders_by}
use Rattle.volume_convert.specs.Settled.{gaps_in}

-- The labels of a disk that is read so.

labels_before : (xs : List Sector) → map label_before (map (λ (s : Sector). s.0) xs) ≡ map (λ (s : Sector). s.0) (all_reread xs)
labels_before [] = refl
labels_before (s ∷ xs) = ap (λ (ls : List Label). label_before s.0 ∷ ls) (labels_before xs)

drop_reread : (k : ℕ) (xs : List Sector) → all_reread (drop k xs) ≡ drop k (all_reread xs)
drop_reread zero xs = refl
drop_reread (suc k) [] = refl
drop_reread (suc k) (x ∷ xs) = drop_reread k xs

pub reread_labels_are : (d : List Sector) → map label_before (map (λ (s : Sector). s.0) (data_sectors d)) ≡ map (λ (s : Sector). s.0) (data_sectors (all_reread d))
reread_labels_are d =
    labels_before (data_sectors d)
    ∙ ap (map (λ (s : Sector). s.0)) (drop_reread (first_data (length d)) d ∙ ap (λ (n : ℕ). drop (first_data n) (all_reread d)) (sym (length-map d reread)))

-- what follows of an answer
pub if_ok_then : {T E : Type 0} {P Q : T → Type 0} (r : Result T E) → IfOk r P → ((x : T) → P x → Q x) → IfOk r Q
if_ok_then (Ok x) p more = more x p
if_ok_then (Err e) p more = tt

-- One more.

pub one_mapped : {X : Type 0} (f : ℕ → X) (i : ℕ) (old new : List X) (x : X) → old ≡ map f (range_with_len 0 i) → new ≡ old ++ x ∷ [] → x ≡ f i → new ≡ map f (range_with_len 0 (i + 1))
one_mapped {X} f i old new x so_far pushed is =
    pushed ∙ ap (λ (xs : List X). xs ++ x ∷ []) so_far ∙ ap (λ (y : X). map f (range_with_len 0 i) ++ y ∷ []) is ∙ sym (map-range_with_len_more f 0 i i (omega arith))

gap_by : (xs : List SectorState) (i : ℕ) (b : Bool) → is_kept (slice_index_or xs i Free) ≡ b → gaps_in xs (i + 1) ≡ gaps_in xs i + cond b 0 1
gap_by xs i b is = let s : i + 1 ≡ suc i = omega arith in ap (gaps_in xs) s ∙ ap (λ (t : Bool). gaps_in xs i + cond t 0 1) is

pub gap_more : (xs : List SectorState) (i gaps next : ℕ) → gaps ≡ gaps_in xs i → next ≡ gaps + 1 → is_kept (slice_index_or xs i Free) ≡ false → next ≡ gaps_in xs (i + 1)
gap_more xs i gaps next was is kept = let more = gap_by xs i false kept in omega (arith, was, is, more)

pub gap_same : (xs : List SectorState) (i gaps next : ℕ) → gaps ≡ gaps_in xs i → next ≡ gaps → is_kept (slice_index_or xs i Free) ≡ true → next ≡ gaps_in xs (i + 1)
gap_same xs i gaps next was is kept = let more = gap_by xs i true kept in omega (arith, was, is, more)

-- The head that is read, as the leader that is wanted.
pub read_leader : {B : Type 0} (v : B → Head) (heads : List Head) (k : ℕ) (o : Option B) → is_some o ≡ ltb k (length heads) → IfSome o (λ x. v x ≡ slice_index_or heads k (v x))
    → option_map (λ x. leader_by (v x)) o ≡ slice_get (leaders_by heads) k
read_leader v heads k None some is = sym (slice_get-map leader_by heads k ∙ ap (option_map leader_by) (slice_get_past heads k (ltb-false k (length heads) (sym some))))
read_leader v heads k (Some x) some is =
    sym (slice_get-map leader_by heads k ∙ ap (option_map leader_by) (slice_get-get_or heads k (v x) (ltb-true k (length heads) (sym some)) ∙ ap (λ (h : Head). Some h) (sym is)))
