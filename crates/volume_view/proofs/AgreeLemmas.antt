-- A map that is in form and names what the labels name is that of a sound volume, and the other way round.
use Rattle.std.proofs.Common.{◌≡◌, ℕ, Bool, true, false, List, length, refl, sym, subst}
use Rattle.std.specs.Prelude.{◌↔◌}
use Rattle.labelled_disk.specs.Sectors.{Sector}
use Rattle.file_map.specs.FileMap.{Triples, names_triple}
use Rattle.file_map.specs.InSectors.{MapNames, label_triples, map_bytes}
use Rattle.volume_root.specs.Sound.{HasFileMap}
use Rattle.volume_view.specs.declared.differences.NameDifferences.{NameDifferences}
use Rattle.volume_view.specs.Form.{HasForm}
use Rattle.volume_view.specs.Names.{AreNone, IsComparison}

yes_or_no : (b : Bool) → (b ≡ false → ⊥) → b ≡ true
yes_or_no true never = refl
yes_or_no false never = absurd (never refl)

-- a map in form names what its runs name
pub form_named : (d : List Sector) (form : HasForm (length d) (map_bytes d)) → MapNames d (names_triple form.runs)
form_named d form = record { runs = form.runs; listed = form.of_map.listed; form = form.of_map.form; few = form.few; are = λ id page sector. refl }

-- what is revealed of the form in memory holds of it on the disk
pub form_as_revealed : (d : List Sector) (n : ℕ) (bytes : List ℕ) (in_form : Bool) → n ≡ length d → bytes ≡ map_bytes d → (in_form ≡ true → HasForm n bytes) → (in_form ≡ false → HasForm n bytes → ⊥) → (in_form ≡ true) ↔ HasForm (length d) (map_bytes d)
form_as_revealed d n bytes in_form long same right wrong = (
  λ is. subst (HasForm (length d)) same (subst (λ (m : ℕ). HasForm m bytes) long (right is)),
  λ form. yes_or_no in_form (λ is. wrong is (subst (HasForm n) (sym same) (subst (λ (m : ℕ). HasForm m (map_bytes d)) (sym long) form))),
)

pub agrees_as_revealed : {A : Type 0} (d : List Sector) (n : ℕ) (bytes : List ℕ) (in_form : Bool) (differences : NameDifferences A) → n ≡ length d → bytes ≡ map_bytes d → (in_form ≡ true → HasForm n bytes) → (in_form ≡ false → HasForm n bytes → ⊥)
    → ((named : Triples) → MapNames d named → IsComparison (length d) named (label_triples d) differences) → ((in_form ≡ true) × AreNone differences) ↔ HasFileMap d
agrees_as_revealed d n bytes in_form differences long same right wrong revealed = (
  λ says.
      let form = on_disk (right says.0) in
      let alike = (revealed (names_triple form.runs) (form_named d form)).agrees.0 says.1 in
      record { runs = form.runs; listed = form.of_map.listed; form = form.of_map.form; few = form.few; are = λ id page sector. sym (alike id page sector) },
  λ has.
      let form : HasForm (length d) (map_bytes d) = record { runs = has.runs; of_map = record { listed = has.listed; form = has.form }; few = has.few } in
      (yes_or_no in_form (λ is. wrong is (in_memory form)), (revealed (label_triples d) has).agrees.1 (λ id page sector. refl)),
)
  where
    on_disk : HasForm n bytes → HasForm (length d) (map_bytes d)
    on_disk form = subst (HasForm (length d)) same (subst (λ (m : ℕ). HasForm m bytes) long form)

    in_memory : HasForm (length d) (map_bytes d) → HasForm n bytes
    in_memory form = subst (HasForm n) (sym same) (subst (λ (m : ℕ). HasForm m (map_bytes d)) (sym long) form)
