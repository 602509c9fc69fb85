-- A volume whose maps were lost is restored.
use Rattle.std.proofs.Common.{false, List, sym, ◌∙◌, subst}
use Rattle.labelled_disk.specs.File.{File}
use Rattle.labelled_disk.specs.Right.{OnlyMaps}
use Rattle.labelled_disk.specs.Root.{LabelsRight}
use Rattle.labelled_disk.specs.Sectors.{Sector}
use Rattle.labelled_disk.proofs.RootLemmas.{maps_differ}
use Rattle.flat_machine.specs.Machine.{Machine}
use Rattle.flat_machine.specs.Settled.{Agrees, settled}
use Rattle.session_words.specs.StandsFor.{RevealsSettled}
use Rattle.volume_root.specs.Sound.{Sound}
use Rattle.scavenger.specs.Restored.{IsRestored}
use Rattle.pilot_top.specs.Scavenging.{HasFilesOf}

pub has_files_of : (e g h : List Sector) → LabelsRight e → OnlyMaps e g → IsRestored g h → HasFilesOf e h
has_files_of e g h right only restored =
    let stays = maps_differ false e g only right in
    record { sound = (restored.right stays.right).0; files = restored.files ∙ stays.files }

pub settled_stay : (m : Machine) (e g h : List Sector) → RevealsSettled e m → OnlyMaps e g → IsRestored g h → Sound h × RevealsSettled h m
settled_stay m e g h revealed only restored =
    let has = has_files_of e g h revealed.right only restored in (
      has.sound,
      record {
        agrees = subst (λ (files : List File). Agrees files (settled m)) (sym has.files) revealed.agrees;
        right = has.sound.labels;
      },
    )
