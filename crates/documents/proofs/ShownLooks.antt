-- A window on a file that is temporary yet, and stores through it: a stop does not see them.
use Rattle.std.proofs.Common.{◌≡◌, ◌≢◌, ◌∙◌, ℕ, ◌+◌, ◌*◌, ◌≤◌, Bool, true, not, ◌&&◌, refl, sym, ap, subst, arith, List, length}
use Rattle.std.specs.List.{concat}
use Rattle.std.specs.Prelude.{nat_le, nat_lt}
use Rattle.std.proofs.lemmas.Bool.{ne_eqb}
use Rattle.std.proofs.lemmas.List.{length-take-le}
use Rattle.flat_machine.specs.declared.space.FilePage.{FilePage}
use Rattle.flat_machine.specs.File.{File}
use Rattle.flat_machine.specs.IsMachine.{IsMachine}
use Rattle.flat_machine.specs.Machine.{Machine}
use Rattle.flat_machine.specs.Settled.{is_unforced}
use Rattle.embedded.specs.References.{Lead}
use Rattle.embedded.specs.Stops.{IsPartway}
use Rattle.documents.specs.Pieces.{forced, is_in_run, written}
use Rattle.documents.specs.Stops.{LooksLike}
use Rattle.documents.specs.Windows.{IsShown, place, showing}
use Rattle.documents.proofs.BesideLemmas.{kept}
use Rattle.documents.proofs.LooksLemmas.{changed_looks, others, same_looks}
use Rattle.documents.proofs.ShowLemmas.{is_over}
use Rattle.documents.proofs.StoreRows.{comes}

pub showing_looks : (m : Machine) (id : ℕ) (n : Machine) (file page pages : ℕ) (writable : Bool) (space address : ℕ) → IsMachine n → LooksLike m id n → IsShown n file page pages writable space address
    → LooksLike m id (showing n file page pages writable)
showing_looks m id n file page pages writable space address h like shown =
    let over = is_over n file page pages writable space address h shown in
    same_looks m id n (showing n file page pages writable) (ap (λ (x : Machine). x.files) over.after) (ap (λ (x : Machine). x.unforced) over.after) like

-- the first of some bytes are in the file
pub looks_stored : (m : Machine) (id : ℕ) (n : Machine) (page pages space address : ℕ) (bytes : List ℕ) (o : Machine) → IsMachine n → LooksLike m id n → IsShown n id page pages true space address
    → length bytes ≤ 512 * pages → IsPartway (showing n id page pages true) address bytes o → LooksLike m id o
looks_stored m id n page pages space address bytes o h like shown fits p =
    let over = is_over n id page pages true space address h shown in
    let x = showing n id page pages true in
    let long : length (concat p.pieces) ≡ p.done = ap (λ (l : List ℕ). length l) p.whole ∙ length-take-le p.done bytes p.part in
    let part = p.part in
    let at : address ≡ 512 * (place n pages).first + 0 = omega (arith, shown.begins) in
    let came = comes n x id page pages true over p.pieces 0 x o (ap (λ (y : Machine). y.spaces) over.after) p.some (omega (arith, long, part, fits))
    (subst (λ (a : ℕ). Lead x a p.pieces o) at p.lead) in
    let first = showing_looks m id n id page pages true space address h like shown in
    let changed = changed_looks m id x (written (512 * page + 0) (concat p.pieces)) (λ f. refl) first in
    record {
      whole = like.whole;
      none = like.none;
      files = ap (λ (fs : List File). kept fs) came.files ∙ changed.files;
      unforced = λ g k other is.
          first.unforced g k other
          (sym (others (λ u. not (is_in_run id page pages u)) id passes x.unforced g k other)
          ∙ ap (λ (us : List FilePage). is_unforced us g k) (sym came.forces)
          ∙ others (λ u. not (is_in_run id page pages u)) id passes o.unforced g k other
          ∙ is);
    }
  where
    passes : (u : FilePage) → u.file ≢ id → not (is_in_run id page pages u) ≡ true
    passes u apart = ap (λ (b : Bool). not (b && nat_le page u.page && nat_lt u.page (page + pages))) (ne_eqb id u.file (λ e. apart (sym e)))
