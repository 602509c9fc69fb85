-- What a `?` hands on, and what a call that comes after others does to the memory.
use Rattle.std.proofs.Common.{◌≡◌, ℕ, Ok, Err, MatchResult, IfErr, sym, subst}
use Rattle.std.specs.declared.result.Result.{Result}
use Rattle.std.specs.Result.{IsErrAnd}
use Rattle.flat_mem.specs.declared.memory.FlatMem.{Ghosts}
use Rattle.space_tables.specs.declared.error.SpaceError.{SpaceError}
use Rattle.space_tables.specs.declared.error.SpaceError.TheVariants.{Refused, Malformed, Mem}
use Rattle.space_tables.specs.Answer.{FromMemory, NotRefused, IfMem, IfMalformed}

pub handed : {T E : Type 0} (r : Result T E) (P : T → Type 0) (Q : E → Type 0) (e : E) → IsErrAnd r (λ x. x ≡ e) → Q e → MatchResult r P Q
handed (Ok x) P Q e is q = absurd is
handed (Err x) P Q e is q = subst Q (sym is) q

-- an error of the memory names no page
pub no_page : {X : Type 0} (P : ℕ → Type 0) (e : SpaceError X) → FromMemory e → IfMalformed P e
no_page P (Refused word) h = absurd h
no_page P (Malformed page) h = absurd h
no_page P (Mem error) h = tt

-- what stands beside the memory was kept before the call that failed
pub cause_on : {M X : Type 0} (G : Ghosts M X) → ((a : M) → G.beside a a)
    → ((a b c d : M) (e : X) → G.beside a b → G.beside b c → G.beside c d → G.accounted b c e → G.accounted a d e)
    → (a b c : M) → G.beside a b → G.beside b c → (e : SpaceError X) → IfMem (G.accounted b c) e → IfMem (G.accounted a c) e
cause_on G itself wider a b c first next (Refused word) h = tt
cause_on G itself wider a b c first next (Malformed page) h = tt
cause_on G itself wider a b c first next (Mem error) h = wider a b c c error first next (itself c) h

-- and refuses nothing
pub not_refused : {X : Type 0} (e : SpaceError X) → FromMemory e → NotRefused e
not_refused (Refused word) h = absurd h
not_refused (Malformed page) h = absurd h
not_refused (Mem error) h = tt

-- the same of answers
pub causes_on : {M X T : Type 0} (G : Ghosts M X) → ((a : M) → G.beside a a)
    → ((a b c d : M) (e : X) → G.beside a b → G.beside b c → G.beside c d → G.accounted b c e → G.accounted a d e)
    → (a b c : M) → G.beside a b → G.beside b c → (r : Result T (SpaceError X)) → IfErr r (IfMem (G.accounted b c)) → IfErr r (IfMem (G.accounted a c))
causes_on G itself wider a b c first next (Ok v) h = tt
causes_on G itself wider a b c first next (Err e) h = cause_on G itself wider a b c first next e h

pub any_no_page : {T X : Type 0} (P : ℕ → Type 0) (r : Result T (SpaceError X)) → IfErr r FromMemory → IfErr r (IfMalformed P)
any_no_page P (Ok v) h = tt
any_no_page P (Err e) h = no_page P e h

pub any_not_refused : {T X : Type 0} (r : Result T (SpaceError X)) → IfErr r FromMemory → IfErr r NotRefused
any_not_refused (Ok v) h = tt
any_not_refused (Err e) h = not_refused e h
