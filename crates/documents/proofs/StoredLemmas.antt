-- An engine after stores into a shown run.
use Rattle.std.proofs.Common.{◌≡◌, ◌∙◌, ℕ, ◌+◌, ◌*◌, ◌≤◌, true, List, length, refl, sym, ap, subst, arith}
use Rattle.std.proofs.lemmas.List.{length-take-le}
use Rattle.std.specs.List.{concat}
use Rattle.std.specs.Prelude.{take}
use Rattle.labelled_disk.specs.declared.disk.Disk.{Ghosts}
use Rattle.flat_machine.specs.declared.space.FilePage.{FilePage}
use Rattle.flat_machine.specs.File.{File}
use Rattle.flat_machine.specs.Machine.{Machine}
use Rattle.flat_machine.specs.IsMachine.{IsMachine}
use Rattle.flat_machine.specs.Next.{change_file}
use Rattle.embedded.specs.declared.engine.Engine.{Engine}
use Rattle.embedded.specs.References.{Lead, Stored}
use Rattle.documents.specs.Pieces.{after_store, forced, written}
use Rattle.documents.specs.Windows.{IsHidden, IsShown, place, showing}
use Rattle.documents.proofs.RunLemmas.{is_hidden}
use Rattle.documents.proofs.ShowLemmas.{is_over}
use Rattle.documents.proofs.StoreRows.{comes}

module _ {D A : Type 0} {G : Ghosts D} where
  -- the first bytes, so many, are in the file
  pub store_hides : (m : Machine) (id page pages space address done : ℕ) (bytes : List ℕ) (e : Engine D A G) → IsMachine m
      → IsShown m id page pages true space address → (s : Stored (showing m id page pages true) address done bytes e) → done ≤ length bytes → length bytes ≤ 512 * pages
      → IsHidden s.after space (after_store id page pages (take done bytes) m)
  store_hides m id page pages space address done bytes e h shown s part fits =
      let over = is_over m id page pages true space address h shown in
      let n = showing m id page pages true in
      let long : length (concat s.pieces) ≡ done = ap (λ (l : List ℕ). length l) s.whole ∙ length-take-le done bytes part in
      let at : address ≡ 512 * (place m pages).first + 0 = omega (arith, shown.begins) in
      let came = comes m n id page pages true over s.pieces 0 n s.after (ap (λ (x : Machine). x.spaces) over.after) s.some (omega (arith, long, part, fits))
      (subst (λ (a : ℕ). Lead n a s.pieces s.after) at s.lead) in
      let zero_more : 512 * page + 0 ≡ 512 * page = omega arith in
      let files : s.after.files ≡ change_file id (written (512 * page) (take done bytes)) m.files =
      came.files ∙ ap (λ (x : Machine). change_file id (written (512 * page + 0) (concat s.pieces)) x.files) over.after
      ∙ (λ i. change_file id (written (zero_more i) (s.whole i)) m.files) in
      let left : forced id page pages s.after.unforced ≡ forced id page pages m.unforced =
      came.forces ∙ ap (λ (x : Machine). forced id page pages x.unforced) over.after in
      let last : record s.after { spaces = m.spaces; unforced = forced id page pages s.after.unforced } ≡ after_store id page pages (take done bytes) m =
      ap (λ (x : Machine). record x { spaces = m.spaces; unforced = forced id page pages s.after.unforced }) came.same
      ∙ ap (λ (x : Machine). record x { files = s.after.files; spaces = m.spaces; unforced = forced id page pages s.after.unforced }) over.after
      ∙ (λ i. record m { files = files i; unforced = left i }) in
      let hides = is_hidden m s.after id page pages true h over.made (ap (λ (x : Machine). x.spaces) came.same ∙ ap (λ (x : Machine). x.spaces) over.after) in
      subst (λ (k : ℕ). IsHidden s.after k (after_store id page pages (take done bytes) m)) (sym shown.handle)
      (subst (λ (x : Machine). IsHidden s.after (place m pages).handle x) last hides)
