-- Windows fit after each edit of the spaces.
use Rattle.std.proofs.Common.{◌≡◌, ℕ, Bool, true, false, cond, Option, Some, None, refl, sym, subst}
use Rattle.std.specs.Prelude.{IfSome, not, ◌==◌, if◌then◌else◌}
use Rattle.std.proofs.lemmas.Bool.{eqb-true}
use Rattle.flat_machine.specs.declared.space.Space.{Space}
use Rattle.flat_machine.specs.declared.space.Window.{Window}
use Rattle.flat_machine.specs.Space.{space_at}
use Rattle.flat_machine.proofs.Lists.{In, all_in, in_all, in_filter, in_map, find_in}
use Rattle.flat_machine.proofs.HandleLemmas.{every_put}
use Rattle.projection_laws.specs.Laws.{WindowFits}
use Rattle.projection_laws.specs.Fits.{WindowsStayFit}
use Rattle.projection_laws.proofs.Inside.{same}

abbrev Fit : Space → Type 0
Fit s = IfSome s.window (WindowFits s.pages)

bare : (o : Option Window) (n : ℕ) → o ≡ None → IfSome o (WindowFits n)
bare o n e = subst (λ (p : Option Window). IfSome p (WindowFits n)) (sym e) tt

pub windows_stay_fit : WindowsStayFit
windows_stay_fit ss h fit = record {
  put = λ x e. every_put Fit x ss (bare x.window x.pages e) fit;
  taken = λ k. in_all Fit _ (λ s i. all_in Fit ss fit s (in_filter (λ s. not (s.handle == k)) ss s i).0);
  refitted = λ k u. in_all Fit _ (λ s i. let r = in_map (λ (s : Space). if s.handle == k then record s { unit = u } else s) ss s i in subst Fit r.2 (refit k u r.0 (all_in Fit ss fit r.0 r.1) (r.0.handle == k)));
  shown = λ x w e f. in_all Fit _ (λ s i. let r = in_map (λ (s : Space). if s.handle == x.handle then record s { window = w } else s) ss s i in
      subst Fit r.2 (reshow x w f r.0 r.1 (all_in Fit ss fit r.0 r.1) (find_there x e) (r.0.handle == x.handle) refl));
}
  where
    refit : (k u : ℕ) (s : Space) → Fit s → (b : Bool) → Fit (cond b (record s { unit = u }) s)
    refit k u s f true = f
    refit k u s f false = f

    find_there : (x : Space) → space_at ss x.handle ≡ Some x → In x ss
    find_there x e = (find_in (λ s. s.handle == x.handle) ss x e).0

    reshow : (x : Space) (w : Option Window) → IfSome w (WindowFits x.pages) → (s : Space) → In s ss → Fit s → In x ss → (b : Bool) → s.handle == x.handle ≡ b → Fit (cond b (record s { window = w }) s)
    reshow x w f s i g j false e = g
    reshow x w f s i g j true e = subst (λ (t : Space). IfSome w (WindowFits t.pages)) (sym (same ss h s x i j (eqb-true s.handle x.handle e))) f
