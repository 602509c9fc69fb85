-- The first pages of files, collected one by one.
use Rattle.std.proofs.Common.{◌≡◌, ℕ, zero, suc, ◌+◌, Bool, true, false, cond, List, [], ◌∷◌, ◌++◌, take, Some, sym, ◌∙◌, ap, arith}
use Rattle.std.specs.Prelude.{slice_get}
use Rattle.std.proofs.lemmas.Option.{same_Some, none-some}
use Rattle.labelled_disk.specs.declared.label.Label.{Label}
use Rattle.label_survey.specs.declared.sector_state.SectorState.{SectorState}
use Rattle.label_survey.specs.Survey.{is_leader}
use Rattle.label_survey.proofs.SortLemmas.{append_nil}
use Rattle.volume_convert.specs.declared.heads.Head.{Head}
use Rattle.volume_convert.specs.Heads.{head_of, heads_from}

one_more : (ls : List Label) (xs : List SectorState) (k : ℕ) (l : Label) (x : SectorState) → slice_get ls k ≡ Some l → slice_get xs k ≡ Some x
    → heads_from (take (suc k) ls) (take (suc k) xs) ≡ heads_from (take k ls) (take k xs) ++ cond (is_leader x) (head_of l ∷ []) []
one_more [] xs k l x here there = absurd (none-some l here)
one_more (m ∷ ls) [] k l x here there = absurd (none-some x there)
one_more (m ∷ ls) (y ∷ xs) zero l x here there =
    ap (λ (z : SectorState). cond (is_leader z) (head_of m ∷ []) []) (same_Some y x there) ∙ ap (λ (n : Label). cond (is_leader x) (head_of n ∷ []) []) (same_Some m l here)
one_more (m ∷ ls) (y ∷ xs) (suc k) l x here there = either (is_leader y) (one_more ls xs k l x here there)
  where
    either : (b : Bool) → heads_from (take (suc k) ls) (take (suc k) xs) ≡ heads_from (take k ls) (take k xs) ++ cond (is_leader x) (head_of l ∷ []) []
        → cond b (head_of m ∷ heads_from (take (suc k) ls) (take (suc k) xs)) (heads_from (take (suc k) ls) (take (suc k) xs)) ≡ cond b (head_of m ∷ heads_from (take k ls) (take k xs)) (heads_from (take k ls) (take k xs)) ++ cond (is_leader x) (head_of l ∷ []) []
    either true e = ap (λ (hs : List Head). head_of m ∷ hs) e
    either false e = e

pub collected_head : (ls : List Label) (xs : List SectorState) (k : ℕ) (l : Label) (x : SectorState) (old new : List Head) (head : Head) → old ≡ heads_from (take k ls) (take k xs) → new ≡ old ++ head ∷ [] → head ≡ head_of l → is_leader x ≡ true
    → slice_get ls k ≡ Some l → slice_get xs k ≡ Some x → new ≡ heads_from (take (k + 1) ls) (take (k + 1) xs)
collected_head ls xs k l x old new head so_far pushed is leads here there =
    let s : suc k ≡ k + 1 = omega arith in
    pushed
    ∙ ap (λ (hs : List Head). hs ++ head ∷ []) so_far
    ∙ ap (λ (h : Head). heads_from (take k ls) (take k xs) ++ h ∷ []) is
    ∙ sym (ap (λ (b : Bool). heads_from (take k ls) (take k xs) ++ cond b (head_of l ∷ []) []) leads)
    ∙ sym (one_more ls xs k l x here there)
    ∙ ap (λ (m : ℕ). heads_from (take m ls) (take m xs)) s

pub collected_none : (ls : List Label) (xs : List SectorState) (k : ℕ) (l : Label) (x : SectorState) (old : List Head) → old ≡ heads_from (take k ls) (take k xs) → is_leader x ≡ false → slice_get ls k ≡ Some l → slice_get xs k ≡ Some x
    → old ≡ heads_from (take (k + 1) ls) (take (k + 1) xs)
collected_none ls xs k l x old so_far other here there =
    let s : suc k ≡ k + 1 = omega arith in
    so_far
    ∙ sym (append_nil (heads_from (take k ls) (take k xs)))
    ∙ sym (ap (λ (b : Bool). heads_from (take k ls) (take k xs) ++ cond b (head_of l ∷ []) []) other)
    ∙ sym (one_more ls xs k l x here there)
    ∙ ap (λ (m : ℕ). heads_from (take m ls) (take m xs)) s
