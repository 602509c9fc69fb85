-- A disk that reveals the settled files of a machine has their shapes.
use Rattle.std.proofs.Common.{◌≡◌, ◌&&◌, true, false, ℕ, List, filter, length, Option, Some, None, refl, sym, ◌∙◌, ap, eqb}
use Rattle.std.specs.Prelude.{find, option_map, ◌==◌}
use Rattle.std.proofs.lemmas.Bool.{and_parts}
use Rattle.std.proofs.lemmas.Option.{none-some, same_Some}
use Rattle.labelled_disk.specs.Ascending.{BothBy}
use Rattle.labelled_disk.specs.File.{File, file_at}
use Rattle.labelled_disk.specs.FilesOn.{disk_file, file_by, files_on, leads, leads_file}
use Rattle.labelled_disk.specs.Label.{is_file, is_permanent, leader_page}
use Rattle.labelled_disk.specs.Layout.{data_sectors}
use Rattle.labelled_disk.specs.Sectors.{Sector}
use Rattle.labelled_disk.proofs.WriteLemmas as laws
use Rattle.label_laws.specs.Shape.{bare_file}
use Rattle.cut_laws.proofs.PairLemmas.{lowest}
use Rattle.flat_machine.specs.Machine.{Machine}
use Rattle.flat_machine.specs.Settled.{FileAgrees, PageAgrees, settled, settled_file}
use Rattle.flat_machine.proofs.Lists.{find_in, in_filter, in_map}
use Rattle.session_words.specs.StandsFor.{RevealsSettled}
use Rattle.session_words.proofs.SameLabelLemmas.{zip_long, zip_looked}
use Rattle.pilot_top.specs.OnePlace.{HasShapesOf}

-- a file that counts is permanent
pub permanent_there : (d : List Sector) (id : ℕ) (g : File) → disk_file false d id ≡ Some g → g.permanent ≡ true
permanent_there d id g is = either (find (leads_file false id) (data_sectors d)) refl is
  where
    either : (o : Option Sector) → find (leads_file false id) (data_sectors d) ≡ o → option_map (file_by (data_sectors d)) (option_map (λ s. s.0) o) ≡ Some g → g.permanent ≡ true
    either None found there = absurd (none-some g there)
    either (Some s) found there =
        let low = lowest (leads_file false id) (data_sectors d) s found in
        let counts = and_parts (leads false s) (eqb s.0.id id) low.1.passes in
        let marked = and_parts (is_file s.0 && eqb s.0.page leader_page) (is_permanent s.0) counts.0 in
        ap (λ (f : File). f.permanent) (sym (same_Some (file_by (data_sectors d) s.0) g there)) ∙ marked.1

-- and so is a settled one
settled_permanent : (m : Machine) (id : ℕ) (f : File) → file_at (settled m) id ≡ Some f → f.permanent ≡ true
settled_permanent m id f is =
    let there = find_in (λ g. g.id == id) (settled m) f is in
    let from = in_map (settled_file m.unforced) (filter (λ g. g.permanent) m.files) f there.0 in
    ap (λ (g : File). g.permanent) (sym from.2) ∙ (in_filter (λ g. g.permanent) m.files from.0 from.1).1

pub reveals_shapes : (e : List Sector) (m : Machine) → RevealsSettled e m → HasShapesOf e m
reveals_shapes e m reveals id =
    ap (λ (o : Option File). option_map bare_file o) (sym (laws.look_up false 0 0 e id))
    ∙ by (file_at (files_on e) id) refl (file_at (settled m) id) refl (zip_looked FileAgrees (λ g h agree. agree.same_id) (files_on e) (settled m) reveals.agrees id)
  where
    by : (o : Option File) → file_at (files_on e) id ≡ o → (p : Option File) → file_at (settled m) id ≡ p → BothBy FileAgrees o p → option_map bare_file o ≡ option_map bare_file p
    by None none None absent both = refl
    by None none (Some f) found both = absurd both
    by (Some g) there None absent both = absurd both
    by (Some g) there (Some f) found both =
        let kinds = both.same_kind in
        let marks : g.permanent ≡ f.permanent = permanent_there e id g (sym (laws.look_up false 0 0 e id) ∙ there) ∙ sym (settled_permanent m id f found) in
        let fixed = both.same_immutable in
        let sizes : length g.pages ≡ length f.pages = zip_long PageAgrees g.pages f.pages both.pages_agree in
        λ n. Some (record { id = both.same_id n; kind = kinds n; permanent = marks n; immutable = fixed n; pages = sizes n })
