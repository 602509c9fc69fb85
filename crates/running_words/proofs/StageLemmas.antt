-- What a stop among the writes of a call leaves.
use Rattle.std.proofs.Common.{◌≡◌, ℕ, zero, suc, ◌≤◌, true, false, List, [], length, Some, refl, sym, ◌∙◌, ap, subst, arith}
use Rattle.std.specs.Prelude.{slice_get, ◌==◌}
use Rattle.std.proofs.lemmas.Bool.{eq-eqb}
use Rattle.std.proofs.lemmas.Option.{same_Some}
use Rattle.std.proofs.lemmas.List.{length-map}
use Rattle.labelled_disk.specs.declared.label.Label.{Label}
use Rattle.labelled_disk.specs.FilesOn.{leads_file}
use Rattle.labelled_disk.specs.Label.{names, leader_page, is_file, is_file_id}
use Rattle.labelled_disk.specs.Layout.{first_data}
use Rattle.labelled_disk.specs.WriteLaws.{HasData}
use Rattle.labelled_disk.specs.CrashState.{crash_state}
use Rattle.labelled_disk.specs.Root.{LabelsRight}
use Rattle.labelled_disk.specs.RootLaws.{StaysRight}
use Rattle.labelled_disk.specs.Sectors.{Sector, AreSectors}
use Rattle.labelled_disk.specs.State.{DiskState}
use Rattle.frame_pool.specs.Frames.{Slots}
use Rattle.flat_machine.specs.declared.call.Call.{Call}
use Rattle.flat_machine.specs.Machine.{Machine}
use Rattle.swapper_kernel.specs.DiffersLaws.{label_here, sector_of_label}
use Rattle.swapper_kernel.specs.Goes.{Makes, Wrote}
use Rattle.swapper_kernel.specs.Stands.{Stands, labels_of}
use Rattle.session_words.specs.Parts.{DirtyAreLoose, TablesMeaning}
use Rattle.session_words.specs.RunStops.{Begins}
use Rattle.session_words.specs.StandsFor.{IsSettled, StandsFor, RevealsSettled}
use Rattle.session_words.specs.Volume.{volume_page}
use Rattle.session_words.proofs.ChangeLemmas.{change_laws}
use Rattle.session_words.proofs.FoundLemmas.{file_label}
use Rattle.session_words.proofs.LooseLemmas.{stands_is_settled, names_id, names_page}
use Rattle.session_words.proofs.RunStopLemmas.{run_stops}
use Rattle.session_words.proofs.SettledLemmas.{settled_is_revealed}
use Rattle.running_words.specs.Stages.{Passes}
use Rattle.running_words.proofs.FlagLemmas.{flag_open}
use Rattle.running_words.proofs.RootLemmas.{numbers_stay}

-- a disk in form that reveals what it holds
pub begun : (spaces_of : TablesMeaning) (old : DiskState) (before : Slots) (m : Machine) (d : List Sector) → StandsFor spaces_of old before m → old.contents ≡ Some d → AreSectors d → Begins before old d m
begun spaces_of old before m d stands revealed are = record { settled_disk = stands_is_settled spaces_of old before m d stands revealed are; dirty = stands.dirty; revealed = revealed }

-- where no label is written, and each page that is written is loose, each crash state reveals the settled files
pub quiet_at : (m : Machine) (old new : DiskState) (before : Slots) (d : List Sector) (wrote : Wrote volume_page [] old before new) → IsSettled d m → DirtyAreLoose before m.unforced → old.contents ≡ Some d → (k : ℕ)
    → RevealsSettled (crash_state d wrote.writes k) m
quiet_at m old new before d wrote settled loose revealed k =
    run_stops.quiet_stops m [] old new before d wrote (record { settled_disk = settled; dirty = loose; revealed = revealed }) (λ j few. still j few (settled_is_revealed d m settled).right) k
  where
    still : (j : ℕ) → j ≤ 0 → LabelsRight d → StaysRight false d (crash_state d [] j)
    still zero few right = record { files = refl; right = right }
    still (suc j) few right = absurd (omega (arith, few))

-- a call that writes no label stays where it is
pub no_step : (spaces_of : TablesMeaning) (old new : DiskState) (before after : Slots) (m : Machine) (call : Call) → StandsFor spaces_of old before m → Makes volume_page [] old before new after
    → ((d : List Sector) → old.contents ≡ Some d → AreSectors d) → Passes m call old new
no_step spaces_of old new before after m call stands makes form = record {
  writes = makes.wrote.writes;
  appended = makes.wrote.appended;
  steps = λ k. 0;
  rise = λ j k le. omega arith;
  within = λ k. omega arith;
  reveals = λ d k revealed. quiet_at m old new before d makes.wrote (stands_is_settled spaces_of old before m d stands revealed (form d revealed)) stands.dirty revealed k;
  open_flag = λ d k revealed. flag_open makes.wrote tt d k revealed (stands_is_settled spaces_of old before m d stands revealed (form d revealed)).root.open_flag;
  numbers = numbers_stay spaces_of old new before m call stands form makes.wrote tt;
}

-- the labels of the memory are the disk's
pub same_labels : (old : DiskState) (before : Slots) (x d : List Sector) → Stands old before x → old.contents ≡ Some d → labels_of d ≡ labels_of x
same_labels old before x d stands revealed = ap labels_of (same_Some d stands.sectors (sym revealed ∙ stands.revealed)) ∙ sym stands.merged.labels

-- the label of a page of the file is its leader's
pub leads_here : (id : ℕ) (l : Label) (page : List ℕ) → is_file_id id ≡ true → names l (record { id = id; page = leader_page }) ≡ true → leads_file true id (l, page) ≡ true
leads_here id l page of_file named =
    let same : l.id ≡ id = names_id l (record { id = id; page = leader_page }) named in
    let at : l.page ≡ leader_page = names_page l (record { id = id; page = leader_page }) named in
    let file : is_file l ≡ true = file_label l (ap is_file_id same ∙ of_file) (subst (λ (i : ℕ). names l (record { id = i; page = l.page }) ≡ true) (sym same) (subst (λ (p : ℕ). names l (record { id = id; page = p }) ≡ true) (sym at) named)) in
    let a : (l.page == leader_page) ≡ true = eq-eqb l.page leader_page at in
    let b : (l.id == id) ≡ true = eq-eqb l.id id same in
    rw (file, a, b) refl

-- the data sector of the disk where the memory has a file's label
module _ (spaces_of : TablesMeaning) (old : DiskState) (before : Slots) (m : Machine) (stands : StandsFor spaces_of old before m) (d : List Sector) (revealed : old.contents ≡ Some d) (k : ℕ) (s : Sector) (here : slice_get stands.memory k ≡ Some s) (client : 16 ≤ s.0.id) where
  pub on_disk : (page : List ℕ) × HasData d k (s.0, page)
  on_disk =
      let x = stands.memory in
      let same = same_labels old before x d stands.stands revealed in
      let t = sector_of_label d k s.0 (ap (λ (ls : List Label). slice_get ls k) same ∙ label_here x k s here) in
      let long : length d ≡ length x = sym (length-map d (λ (u : Sector). u.0)) ∙ ap length same ∙ length-map x (λ (u : Sector). u.0) in (
        t.0.1,
        record {
          is_data = subst (λ (n : ℕ). first_data n ≤ k) (sym long) ((change_laws spaces_of).high x m k s stands.is here client);
          here = t.1 ∙ ap Some (let e : t.0 ≡ (s.0, t.0.1) = λ i. (t.2 i, t.0.1) in e);
        },
      )
