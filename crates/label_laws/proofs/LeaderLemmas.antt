-- A leader for pages that had none.
use Rattle.std.proofs.Common.{◌≡◌, inl, ℕ, ◌-◌, Bool, true, false, List, length, Option, Some, None, refl, sym, ◌∙◌, ap, arith}
use Rattle.std.specs.Prelude.{slice_get, option_map}
use Rattle.std.proofs.lemmas.Option.{slice_get_within}
use Rattle.labelled_disk.specs.Label.{leader_page}
use Rattle.labelled_disk.specs.Sectors.{Sector}
use Rattle.labelled_disk.specs.Layout.{data_sectors, first_data}
use Rattle.labelled_disk.specs.File.{File}
use Rattle.labelled_disk.specs.FilesOn.{is_of, leads_file, file_by, file_among, disk_file}
use Rattle.labelled_disk.proofs.Finds.{find_none}
use Rattle.labelled_disk.proofs.SectorWrites as w
use Rattle.labelled_disk.proofs.WriteLemmas as laws
use Rattle.label_laws.specs.AnyDisk.{LeaderAdded}
use Rattle.label_laws.proofs.FileLemmas.{leader_added}

module _ (with_temporary : Bool) (serial counter : ℕ) where
  pub leader_right : LeaderAdded with_temporary serial counter
  leader_right d i s t id right holds plain led leaderless whole given room =
      let xs : List Sector = data_sectors d in
      let j : ℕ = i - first_data (length d) in
      let f : File = file_by xs t.0 in
      let own : t.0.id ≡ id = w.leader_id with_temporary id t led in
      let number : t.0.page ≡ leader_page = w.leader_number with_temporary id t led in
      let within = slice_get_within xs j s (laws.data_get with_temporary serial counter d i s holds.is_data holds.here) in
      let none : disk_file with_temporary d id ≡ None =
      w.file_none with_temporary xs id (ap (λ (o : Option Sector). option_map (λ (u : Sector). u.0) o) (find_none (leads_file with_temporary id) xs (λ k u at. fails k u at (leads_file with_temporary id u) refl))) in
      laws.file_changed with_temporary serial counter d i s t id right holds (laws.only_none with_temporary 0 0 id s plain) (laws.only_of with_temporary 0 0 id t (laws.leader_of with_temporary 0 0 id t led)) f
      (ap (λ (ys : List Sector). file_among with_temporary ys id) (sym (laws.data_set with_temporary 0 0 d i t holds.is_data)) ∙ (leader_added with_temporary d i s t id holds plain led none).file)
      (laws.whole_set with_temporary serial counter xs j t f f within whole refl
      (λ of_t. (inl number, λ k u apart at of pages. leaderless k u at (ap (λ (n : ℕ). is_of n u) (sym own) ∙ of) (pages ∙ number)))
      (λ k u apart at of low. low))
      given
      (omega (arith, room))
    where
      fails : (k : ℕ) (u : Sector) → slice_get (data_sectors d) k ≡ Some u → (b : Bool) → leads_file with_temporary id u ≡ b → leads_file with_temporary id u ≡ false
      fails k u at false e = e
      fails k u at true e = absurd (leaderless k u at (laws.leader_of with_temporary 0 0 id u e) (w.leader_number with_temporary id u e))
