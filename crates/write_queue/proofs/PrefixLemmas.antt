-- Each row of pages that were written out is a prefix of a sweep of all that waited.
use Rattle.std.proofs.Common.{◌≡◌, ◌⊎◌, inl, inr, ℕ, zero, suc, ◌+◌, ◌-◌, ◌<◌, ◌≤◌, leb, List, [], ◌∷◌, ◌++◌, length, get_or, Option, Some, None, refl, sym, ◌∙◌, ap, subst, arith, true, false}
use Rattle.std.specs.Prelude.{slice_get, slice_set, swap_remove}
use Rattle.std.proofs.Common.{length-take, length-set}
use Rattle.std.proofs.lemmas.Option.{same_Some, none-some, slice_get-get_or}
use Rattle.std.proofs.lemmas.Bool.Decides.{leb_tells}
use Rattle.write_queue.specs.declared.entry.Entry.{Entry}
use Rattle.write_queue.specs.Entries.{IsOnce}
use Rattle.write_queue.specs.Inside.{HasFirst}
use Rattle.write_queue.specs.QueueLaws.{waits_there}
use Rattle.write_queue.specs.SweepLaws.{FrontsGoOn}
use Rattle.write_queue.specs.Sweeps.{IsFirst, Sweeps, head_after, sweep_key}
use Rattle.write_queue.proofs.ListLemmas.{less-fewer, once-fewer, stands_waiting}

-- the page at that index is the first
pub is_first : (head : ℕ) (es : List Entry) (place : ℕ) (e : Entry) → IsOnce es → HasFirst head es place → slice_get es place ≡ Some e → IsFirst head es e
is_first head es place e once has is = record {
  there = stands_waiting es once place e is e.sector refl;
  least = λ k f other. let w = waits_there es k f other in has.least e w.0 f is w.1;
}

-- where pages wait one is the first
has_first : (head : ℕ) (e : Entry) (es : List Entry) → (place : ℕ) × HasFirst head (e ∷ es) place
has_first head e [] = (0, record { below = omega arith; least = least })
  where
    least : (x : Entry) (k : ℕ) (f : Entry) → slice_get (e ∷ []) 0 ≡ Some x → slice_get (e ∷ []) k ≡ Some f → sweep_key head x.sector ≤ sweep_key head f.sector
    least x zero f is at =
        let same : x ≡ f = same_Some x f (sym is ∙ at) in
        let key : sweep_key head x.sector ≡ sweep_key head f.sector = ap (λ (y : Entry). sweep_key head y.sector) same in
        omega (arith, key)
    least x (suc k) f is at = absurd (none-some f at)
has_first head e (d ∷ es) = either (has_first head d es)
  where
    either : (place : ℕ) × HasFirst head (d ∷ es) place → (place : ℕ) × HasFirst head (e ∷ d ∷ es) place
    either p = which (slice_get (d ∷ es) p.0) refl
      where
        which : (o : Option Entry) → slice_get (d ∷ es) p.0 ≡ o → (place : ℕ) × HasFirst head (e ∷ d ∷ es) place
        which None none = absurd (none-some (get_or (d ∷ es) p.0 d) (sym none ∙ slice_get-get_or (d ∷ es) p.0 d p.1.below))
        which (Some g) some = less (leb_tells (sweep_key head e.sector) (sweep_key head g.sector))
          where
            less : ((leb (sweep_key head e.sector) (sweep_key head g.sector) ≡ true) × (sweep_key head e.sector ≤ sweep_key head g.sector))
                ⊎ ((leb (sweep_key head e.sector) (sweep_key head g.sector) ≡ false) × (sweep_key head g.sector < sweep_key head e.sector))
                → (place : ℕ) × HasFirst head (e ∷ d ∷ es) place
            less (inl at) = (0, record { below = omega arith; least = least })
              where
                least : (x : Entry) (k : ℕ) (f : Entry) → Some e ≡ Some x → slice_get (e ∷ d ∷ es) k ≡ Some f → sweep_key head x.sector ≤ sweep_key head f.sector
                least x zero f is there =
                    let key : sweep_key head x.sector ≡ sweep_key head f.sector = ap (λ (y : Entry). sweep_key head y.sector) (same_Some x f (sym is ∙ there)) in
                    omega (arith, key)
                least x (suc k) f is there =
                    let key : sweep_key head e.sector ≡ sweep_key head x.sector = ap (λ (y : Entry). sweep_key head y.sector) (same_Some e x is) in
                    omega (arith, key, at.1, p.1.least g k f some there)
            less (inr at) = (suc p.0, record { below = omega (arith, p.1.below); least = least })
              where
                least : (x : Entry) (k : ℕ) (f : Entry) → slice_get (d ∷ es) p.0 ≡ Some x → slice_get (e ∷ d ∷ es) k ≡ Some f → sweep_key head x.sector ≤ sweep_key head f.sector
                least x zero f is there =
                    let first : sweep_key head e.sector ≡ sweep_key head f.sector = ap (λ (y : Entry). sweep_key head y.sector) (same_Some e f there) in
                    let key : sweep_key head g.sector ≡ sweep_key head x.sector = ap (λ (y : Entry). sweep_key head y.sector) (same_Some g x (sym some ∙ is)) in
                    omega (arith, first, key, at.1)
                least x (suc k) f is there = p.1.least x k f is there

long_fewer : (es : List Entry) (j : ℕ) (d : Entry) → j < length es → length (swap_remove es j d) + 1 ≡ length es
long_fewer es j d below = omega (arith, length-take (length es - 1) (slice_set es j (get_or es (length es - 1) d)), length-set es j (get_or es (length es - 1) d))

-- a sweep goes on to its end
sweeps_all : (n head : ℕ) (es : List Entry) → length es ≡ n → IsOnce es → (rest : List Entry) × Sweeps head es rest []
sweeps_all n head [] long once = ([], refl)
sweeps_all zero head (e ∷ es) long once = absurd (omega (arith, long))
sweeps_all (suc n) head (e ∷ es) long once =
    let p = has_first head e es in
    let f : Entry = get_or (e ∷ es) p.0 e in
    let at : slice_get (e ∷ es) p.0 ≡ Some f = slice_get-get_or (e ∷ es) p.0 e p.1.below in
    let fewer : length (swap_remove (e ∷ es) p.0 f) + 1 ≡ length (e ∷ es) = long_fewer (e ∷ es) p.0 f p.1.below in
    let more = sweeps_all n f.sector (swap_remove (e ∷ es) p.0 f) (omega (arith, fewer, long)) (once-fewer (e ∷ es) p.0 p.1.below f once) in
    (f ∷ more.0, (swap_remove (e ∷ es) p.0 f, is_first head (e ∷ es) p.0 f once p.1 at, less-fewer (e ∷ es) p.0 p.1.below f once f at, fewer, more.1))

sweeps_on : (head : ℕ) (es swept left rest : List Entry) → Sweeps head es swept left → Sweeps (head_after head swept) left rest [] → Sweeps head es (swept ++ rest) []
sweeps_on head es [] left rest is more = subst (λ (x : List Entry). Sweeps head x rest []) is more
sweeps_on head es (e ∷ swept) left rest is more = (is.0, is.1, is.2, is.3, sweeps_on e.sector is.0 swept left rest is.4 more)

pub fronts_go_on : FrontsGoOn
fronts_go_on head es swept left once is =
    let more = sweeps_all (length left) (head_after head swept) left refl once in
    (more.0, sweeps_on head es swept left more.0 is more.1)
