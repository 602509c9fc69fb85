-- How much of a volume its files use, after each call.
use Rattle.std.proofs.Common.{◌≡◌, ◌≢◌, ℕ, ◌+◌, Bool, true, false, not, cond, Option, Some, None, refl, ◌∙◌, ap, arith}
use Rattle.std.specs.Prelude.{◌==◌, if◌then◌else◌}
use Rattle.std.specs.Option.{option_map_or}
use Rattle.std.proofs.lemmas.Bool.{ne_eqb, eq-eqb}
use Rattle.labelled_disk.specs.File.{File, size, room_of, total_room, file_at}
use Rattle.labelled_disk.specs.Ascending.{AreAscending}
use Rattle.labelled_disk.proofs.WriteLemmas.{room_changed}
use Rattle.flat_machine.specs.Machine.{Machine, used}
use Rattle.flat_machine.specs.Next.{change_file, without_file, resized}
use Rattle.flat_machine.proofs.Cells.{resized_size}
use Rattle.flat_machine.proofs.FileLemmas.{same_room, room_of_one}
use Rattle.flat_machine.proofs.Lists.{ascending_filter}
use Rattle.session_words.proofs.FilesLemmas.{at_without}

module _ (m : Machine) (ascending : AreAscending m.files) (id : ℕ) (f : File) (there : file_at m.files id ≡ Some f) where
  -- a file gone
  pub used_without : total_room (without_file id m.files) + (size f + 1) ≡ used m
  used_without =
      let same = room_changed false 0 0 m.files (without_file id m.files) id ascending (ascending_filter (λ x. x.id) (λ x. not (x.id == id)) m.files ascending) (λ j apart. at_without id m.files j ∙ other j apart) in
      let old : option_map_or room_of (file_at m.files id) 0 ≡ room_of f = ap (λ (o : Option File). option_map_or room_of o 0) there in
      let now : option_map_or room_of (file_at (without_file id m.files) id) 0 ≡ 0 = ap (λ (o : Option File). option_map_or room_of o 0) (at_without id m.files id ∙ ap (λ (b : Bool). cond b None (file_at m.files id)) (eq-eqb id id refl)) in
      omega (arith, same, old, now)
    where
      other : (j : ℕ) → j ≢ id → cond (j == id) None (file_at m.files j) ≡ file_at m.files j
      other j apart = ap (λ (b : Bool). cond b None (file_at m.files j)) (ne_eqb j id apart)

  -- a file of another size
  pub used_resized : (pages : ℕ) → used (record m { files = change_file id (resized pages) m.files }) + size f ≡ used m + pages
  used_resized pages = let one = room_of_one id (resized pages) (λ x. refl) m.files f ascending there in let long = resized_size pages f in omega (arith, one, long)

-- a file with a mark
pub used_marked : (m : Machine) (id : ℕ) (c : File → File) → ((x : File) → size (c x) ≡ size x) → used (record m { files = change_file id c m.files }) ≡ used m
used_marked m id c same = same_room (λ x. if x.id == id then c x else x) each m.files
  where
    each : (x : File) → size (if x.id == id then c x else x) ≡ size x
    each x = by (x.id == id)
      where
        by : (b : Bool) → size (cond b (c x) x) ≡ size x
        by true = same x
        by false = refl
