-- An error of the list of records is passed on as one of the map.
use Rattle.std.proofs.Common.{◌≡◌, inl, inr, ℕ, sym, subst, Ok, Err, MatchResult, IfErr}
use Rattle.std.specs.declared.result.Result.{Result}
use Rattle.std.specs.Result.{IsErr, IsErrAnd}
use Rattle.page_tree.specs.declared.error.TreeError.{TreeError}
use Rattle.page_tree.specs.declared.error.TreeError.TheVariants.{Full as TreeFull, Malformed as TreeMalformed, Mem as TreeMem}
use Rattle.file_map.specs.declared.error.MapError.{MapError}
use Rattle.file_map.specs.declared.error.MapError.TheVariants.{Full, Malformed, Mem}
use Rattle.file_map.specs.Entries.{Sight, Entry, Count, Broken, Stops, IsCause as IsCauseTree, IsPutCause}
use Rattle.page_tree.specs.Answer.{FromMemory as FromTreeMemory}
use Rattle.file_map.specs.Cause.{of_tree, IsBroken, IsCause, IsAddCause, FromMemory, IsFullOr, IfFull}

pub passed : {T E : Type 0} (r : Result T E) (P : T → Type 0) (Q : E → Type 0) (e : E) → IsErr r → IsErrAnd r (λ x. x ≡ e) → Q e → MatchResult r P Q
passed (Ok x) P Q e is_err is q = absurd is
passed (Err x) P Q e is_err is q = subst Q (sym is) q

pub passed_cause : {T E : Type 0} (r : Result T E) (Q : E → Type 0) (e : E) → IsErrAnd r (λ x. x ≡ e) → Q e → IfErr r Q
passed_cause (Ok x) Q e is q = absurd is
passed_cause (Err x) Q e is q = subst Q (sym is) q

pub own : {X : Type 0} (e : TreeError X) → FromTreeMemory e → FromMemory (of_tree e)
own TreeFull h = h
own (TreeMalformed page) h = h
own (TreeMem error) h = h

pub cause : {X : Type 0} (n : ℕ) (full : Type 0) (shows : Sight → Type 0) (accounted : X → Type 0) (e : TreeError X) → IsCauseTree full shows accounted e → IsCause n full shows accounted (of_tree e)
cause n full shows accounted TreeFull h = h
cause n full shows accounted (TreeMalformed page) h = inl h
cause n full shows accounted (TreeMem error) h = h

pub full_or : {T X : Type 0} (r : Result T (MapError X)) (P : T → Type 0) (full stays : Type 0) → MatchResult r P FromMemory → MatchResult r P (IsFullOr full stays)
full_or (Ok x) P full stays h = h
full_or (Err Full) P full stays h = absurd h
full_or (Err (Malformed page)) P full stays h = h
full_or (Err (Mem error)) P full stays h = h

broken_wider : (n : ℕ) (shows earlier : Sight → Type 0) (page : ℕ) → ((s : Sight) → shows s → earlier s) → IsBroken n shows page → IsBroken n earlier page
broken_wider n shows earlier page h is = elim is [
  | inl why ↦ inl (h (Broken page) why)
  | inr other ↦ elim other [
    | inl (entry, at, broken) ↦ inr (inl (entry, h (Entry page entry) at, broken))
    | inr (zero_is, (count, at, more)) ↦ inr (inr (zero_is, (count, h (Count count) at, more)))
  ]
]

pub cause_wider : {X : Type 0} (n : ℕ) (full whole : Type 0) (shows earlier : Sight → Type 0) (accounted wider : X → Type 0) (e : MapError X) → (full → whole) → ((s : Sight) → shows s → earlier s) → ((x : X) → accounted x → wider x)
    → IsCause n full shows accounted e → IsCause n whole earlier wider e
cause_wider n full whole shows earlier accounted wider Full k h f is = k is
cause_wider n full whole shows earlier accounted wider (Malformed page) k h f is = broken_wider n shows earlier page h is
cause_wider n full whole shows earlier accounted wider (Mem error) k h f is = f error is

pub put_cause : {X : Type 0} (n : ℕ) (full : Type 0) (shows : Sight → Type 0) (accounted : X → Type 0) (e : TreeError X) → IsPutCause full shows accounted e → IsAddCause n full shows accounted (of_tree e)
put_cause n full shows accounted TreeFull h = h
put_cause n full shows accounted (TreeMalformed page) h = inr h
put_cause n full shows accounted (TreeMem error) h = h

-- what stops a search stops an addition
pub add_cause : {X : Type 0} (n : ℕ) (full whole : Type 0) (shows : Sight → Type 0) (accounted : X → Type 0) (e : MapError X) → (full → whole) → IsCause n full shows accounted e → IsAddCause n whole shows accounted e
add_cause n full whole shows accounted Full k is = k is
add_cause n full whole shows accounted (Malformed page) k is = inl is
add_cause n full whole shows accounted (Mem error) k is = is

pub add_cause_wider : {X : Type 0} (n : ℕ) (full whole : Type 0) (shows earlier : Sight → Type 0) (accounted wider : X → Type 0) (e : MapError X) → (full → whole) → ((s : Sight) → shows s → earlier s) → ((x : X) → accounted x → wider x)
    → IsAddCause n full shows accounted e → IsAddCause n whole earlier wider e
add_cause_wider n full whole shows earlier accounted wider Full k h f is = k is
add_cause_wider n full whole shows earlier accounted wider (Malformed page) k h f is = elim is [
  | inl broken ↦ inl (broken_wider n shows earlier page h broken)
  | inr stops ↦ inr (h (Stops page) stops)
]
add_cause_wider n full whole shows earlier accounted wider (Mem error) k h f is = f error is

pub err_weaker : {T E : Type 0} (r : Result T E) (P Q : E → Type 0) → IfErr r P → ((e : E) → P e → Q e) → IfErr r Q
err_weaker (Ok x) P Q is h = tt
err_weaker (Err e) P Q is h = h e is

-- an error that is not `Full`
pub if_not_full : {X : Type 0} (n : ℕ) (full : Type 0) (shows : Sight → Type 0) (accounted : X → Type 0) (e : MapError X) (P : Type 0) → (full → ⊥) → IsAddCause n full shows accounted e → IfFull P e
if_not_full n full shows accounted Full P none is = absurd (none is)
if_not_full n full shows accounted (Malformed page) P none is = tt
if_not_full n full shows accounted (Mem error) P none is = tt
