-- A read and then a write of what was read are a copy.
use Rattle.std.proofs.Common.{◌≡◌, ◌⊎◌, inl, inr, ⊎_elim, ℕ, Bool, true, List, ◌++◌, ◌∷◌, [], Option, Some, None, Result, Ok, Err, refl, sym, ◌∙◌, ap}
use Rattle.std.specs.Prelude.{slice_get, slice_set, option_map, if◌then◌else◌, OnOk}
use Rattle.std.specs.Option.{option_map_or}
use Rattle.std.proofs.lemmas.Option.{same_Some}
use Rattle.labelled_disk.specs.declared.label.Label.{Label}
use Rattle.labelled_disk.specs.declared.label.Wanted.{Wanted}
use Rattle.labelled_disk.specs.declared.disk.DiskError.{DiskError}
use Rattle.labelled_disk.specs.declared.disk.DiskError.TheVariants.{Failed, Wrong}
use Rattle.labelled_disk.specs.declared.disk.DiskWrite.{DiskWrite}
use Rattle.labelled_disk.specs.declared.disk.DiskWrite.TheVariants.{Page}
use Rattle.labelled_disk.specs.Calls.{OnFailed, RevealsSame, RevealsWrite}
use Rattle.labelled_disk.specs.Label.{names}
use Rattle.labelled_disk.specs.CrashState.{written}
use Rattle.labelled_disk.specs.Sectors.{Sector}
use Rattle.labelled_disk.specs.State.{DiskState, Holds, NamesThere}
use Rattle.disk_callers.specs.Copies.{copied, RevealsCopy}

-- where the label names the page, the write changes the page
page_set : (d : List Sector) (to : ℕ) (wanted : Wanted) (page : List ℕ) (o : Option Sector) → option_map (λ (s : Sector). names s.0 wanted) o ≡ Some true
    → option_map_or (λ (s : Sector). if names s.0 wanted then slice_set d to (s.0, page) else d) o d ≡ option_map_or (λ (s : Sector). slice_set d to (s.0, page)) o d
page_set d to wanted page None named = refl
page_set d to wanted page (Some s) named = ap (λ (b : Bool). if b then slice_set d to (s.0, page) else d) (same_Some (names s.0 wanted) true named)

same_on : {X Y : Type 0} (f g : X → Y) (o : Option X) → ((x : X) → o ≡ Some x → f x ≡ g x) → option_map f o ≡ option_map g o
same_on f g None each = refl
same_on f g (Some x) each = ap (λ (y : _). Some y) (each x refl)

module _ (old now new : DiskState) (from to : ℕ) (wanted : Wanted) (label : Label) (page : List ℕ) (read : Holds old from (label, page)) (same : RevealsSame old now) where
  written_copied : NamesThere now to wanted true → (d : List Sector) → old.contents ≡ Some d → written (Page to wanted page) d ≡ copied from to d
  written_copied named d revealed =
      page_set d to wanted page (slice_get d to) (named d (same.contents ∙ revealed))
      ∙ sym (ap (λ (o : Option Sector). option_map_or (λ (source : Sector). option_map_or (λ (target : Sector). slice_set d to (target.0, source.1)) (slice_get d to) d) o d) (read d revealed))

  copy : NamesThere now to wanted true → RevealsWrite (Page to wanted page) now new → RevealsCopy from to wanted old new
  copy named made = record {
    contents = made.contents ∙ ap (option_map (written (Page to wanted page))) same.contents
        ∙ same_on (written (Page to wanted page)) (copied from to) old.contents (written_copied named);
    page = page;
    is_source = λ d revealed. ap (option_map (λ (s : Sector). s.1)) (read d revealed);
    writes = made.writes ∙ ap (option_map (λ (writes : List DiskWrite). writes ++ Page to wanted page ∷ [])) same.writes;
  }

  pub copied_if_ok : (result : Result (Unit {0}) DiskError) → OnOk result (RevealsWrite (Page to wanted page) now new) → OnOk result (NamesThere now to wanted true)
      → OnOk result (RevealsCopy from to wanted old new)
  copied_if_ok (Ok x) made named = copy named made
  copied_if_ok (Err e) made named = tt

  pub whole_or_absent : (result : Result (Unit {0}) DiskError) → OnFailed result (RevealsSame now new ⊎ (RevealsWrite (Page to wanted page) now new × NamesThere now to wanted true))
      → OnFailed result (RevealsSame old new ⊎ RevealsCopy from to wanted old new)
  whole_or_absent (Ok x) either = tt
  whole_or_absent (Err Failed) either =
      ⊎_elim (λ (absent : RevealsSame now new). inl (record { contents = absent.contents ∙ same.contents; writes = absent.writes ∙ same.writes }))
      (λ (whole : RevealsWrite (Page to wanted page) now new × NamesThere now to wanted true). inr (copy whole.1 whole.0))
      either
  whole_or_absent (Err (Wrong found)) either = tt
