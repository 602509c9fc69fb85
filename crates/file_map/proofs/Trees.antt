-- What a tree of pages answers, in the words of a sorted list of entries.
use Rattle.std.proofs.Common.{◌≡◌, ℕ, ◌/◌, Bool, true, false, List, Option, Some, None, Ok, Err, MatchResult, IfOk, IfErr, is_some, arith, sym, subst}
use Rattle.std.specs.declared.result.Result.{Result}
use Rattle.page_tree.specs.declared.error.TreeError.{TreeError}
use Rattle.page_tree.specs.declared.error.TreeError.TheVariants.{Full, Malformed, Mem}
use Rattle.page_tree.specs.Answer.{IsNextEntry, FromMemory, IfMemNotFull, IfMemory, IfFull}
use Rattle.page_tree.specs.Broken.{IfMalformed}
use Rattle.page_tree.specs.Reveals.{IsInserted, IsFull, IsTakenOut, IsPutOver}
use Rattle.page_tree.specs.Put.{capacity_of}
use Rattle.page_tree.specs.Page.{page_at, count_in}
use Rattle.file_map.specs.Shown.{IsShown}
use Rattle.file_map.specs.Entries.{Sight, Broken, Stops, IsFirst, IsPut, IsReplaced, IsTakenOut as IsOut, IsFullOr, IsCause, IsPutCause}

pub from_memory : {T X : Type 0} (r : Result T (TreeError X)) (P : T → Type 0) → MatchResult r P FromMemory → IfErr r FromMemory
from_memory (Ok x) P h = tt
from_memory (Err e) P h = h

first_above : (xs : List (List ℕ)) (key into : List ℕ) (page : Option ℕ) → IsNextEntry 12 xs key into (is_some page) → IsFirst 12 xs key into page
first_above xs key into (Some page) (i, below, after, is) = (i, record { below = below; above = after.above i (omega arith) below; before = after.below }, is)
first_above xs key into None h = h

pub first_entry : {X : Type 0} (r : Result (Option ℕ) (TreeError X)) (xs : List (List ℕ)) (key into : List ℕ) → MatchResult r (λ page. IsNextEntry 12 xs key into (is_some page)) FromMemory → MatchResult r (IsFirst 12 xs key into) FromMemory
first_entry (Ok page) xs key into h = first_above xs key into page h
first_entry (Err e) xs key into h = h

full : {X : Type 0} (pages : ℕ) (lists : List (List ℕ) → Type 0) (xs : List (List ℕ)) (e : TreeError X) → IsFull 24 pages lists xs e → IsFullOr (capacity_of 24 pages) lists xs e
full pages lists xs Full h = h
full pages lists xs (Malformed page) h = h
full pages lists xs (Mem error) h = h

pub put : {T X : Type 0} (r : Result T (TreeError X)) (pages : ℕ) (lists : List (List ℕ) → Type 0) (xs : List (List ℕ)) (entry : List ℕ) → MatchResult r (λ _. IsInserted 24 12 pages lists xs entry) (IsFull 24 pages lists xs)
    → MatchResult r (λ _. IsPut 12 lists xs entry) (IsFullOr (capacity_of 24 pages) lists xs)
put (Ok x) pages lists xs entry h = record { at = h.at; within = h.within; after = h.after; listed = h.listed }
put (Err e) pages lists xs entry h = full pages lists xs e h

pub cause : {T X : Type 0} (r : Result T (TreeError X)) (reveals : List ℕ → Type 0) (breaks : List ℕ → ℕ → Type 0) (shows : Sight → Type 0) (accounted : X → Type 0)
    → ((page : ℕ) → ((b : List ℕ) → reveals b → breaks b page) → shows (Broken page)) → ((b : List ℕ) → reveals b → IfErr r (IfMalformed (breaks b))) → IfErr r (IfMemNotFull accounted) → IfErr r (IsCause ⊥ shows accounted)
cause (Ok x) reveals breaks shows accounted shown broken known = tt
cause (Err Full) reveals breaks shows accounted shown broken known = known
cause (Err (Malformed page)) reveals breaks shows accounted shown broken known = shown page broken
cause (Err (Mem error)) reveals breaks shows accounted shown broken known = known

pub put_cause : {T X : Type 0} (r : Result T (TreeError X)) (full : List ℕ → Type 0) (whole : Type 0) (reveals : List ℕ → Type 0) (breaks : List ℕ → ℕ → Type 0) (shows : Sight → Type 0) (accounted : X → Type 0) → (((b : List ℕ) → reveals b → full b) → whole)
    → ((page : ℕ) → ((b : List ℕ) → reveals b → breaks b page) → shows (Stops page)) → ((b : List ℕ) → reveals b → IfErr r (IfFull (full b))) → ((b : List ℕ) → reveals b → IfErr r (IfMalformed (breaks b))) → IfErr r (IfMemory accounted) → IfErr r (IsPutCause whole shows accounted)
put_cause (Ok x) full whole reveals breaks shows accounted is shown most broken known = tt
put_cause (Err Full) full whole reveals breaks shows accounted is shown most broken known = is most
put_cause (Err (Malformed page)) full whole reveals breaks shows accounted is shown most broken known = shown page broken
put_cause (Err (Mem error)) full whole reveals breaks shows accounted is shown most broken known = known

taken : (lists : List (List ℕ) → Type 0) (xs : List (List ℕ)) (key : List ℕ) (done : Bool) → IsTakenOut 12 lists xs key done → IsOut 12 lists xs key done
taken lists xs key true (i, last, listed) = (i, record { below = last.below; same = last.holds; others = last.above }, listed)
taken lists xs key false h = h

pub taken_out : {X : Type 0} (r : Result Bool (TreeError X)) (lists : List (List ℕ) → Type 0) (xs : List (List ℕ)) (key : List ℕ) → MatchResult r (IsTakenOut 12 lists xs key) FromMemory → MatchResult r (IsOut 12 lists xs key) FromMemory
taken_out (Ok done) lists xs key h = taken lists xs key done h
taken_out (Err e) lists xs key h = h

over : (lists : List (List ℕ) → Type 0) (xs : List (List ℕ)) (entry : List ℕ) (done : Bool) → IsPutOver 12 lists xs entry done → IsReplaced 12 lists xs entry done
over lists xs entry true (i, last, listed) = (i, record { below = last.below; same = last.holds; others = last.above }, listed)
over lists xs entry false h = h

pub put_over : {X : Type 0} (r : Result Bool (TreeError X)) (lists : List (List ℕ) → Type 0) (xs : List (List ℕ)) (entry : List ℕ) → MatchResult r (IsPutOver 12 lists xs entry) FromMemory → MatchResult r (IsReplaced 12 lists xs entry) FromMemory
put_over (Ok done) lists xs entry h = over lists xs entry done h
put_over (Err e) lists xs entry h = h

-- where nothing was written, the count and what the pages show stay
pub kept_count : {X : Type 0} (r : Result Bool X) (revealed now : List ℕ → Type 0) → ((b : List ℕ) → revealed b → IfOk r (λ done. done ≡ false → now b))
    → IfOk r (λ done. done ≡ false → (n : ℕ) → ((b : List ℕ) × revealed b × (n ≡ count_in (page_at b 0))) → ((b : List ℕ) × now b × (n ≡ count_in (page_at b 0))))
kept_count (Ok done) revealed now kept = λ none n counted. (counted.0, kept counted.0 counted.1 none, counted.2)
kept_count (Err e) revealed now kept = tt

pub kept_sights : {X : Type 0} (r : Result Bool X) (revealed now : List ℕ → Type 0) (s s' : ℕ) → s ≡ s' → ((b : List ℕ) → revealed b → IfOk r (λ done. done ≡ false → now b))
    → IfOk r (λ done. done ≡ false → (sight : Sight) → ((b : List ℕ) → now b → IsShown (s' / 512) b sight) → (b : List ℕ) → revealed b → IsShown (s / 512) b sight)
kept_sights (Ok done) revealed now s s' same kept = λ none sight shown b h. subst (λ (n : ℕ). IsShown (n / 512) b sight) (sym same) (shown b (kept b h none))
kept_sights (Err e) revealed now s s' same kept = tt
