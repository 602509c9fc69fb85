-- A machine that was closed, closed again.
use Rattle.std.proofs.Common.{◌≡◌, Bool, true, false, cond, List, [], ◌∷◌, refl, sym, ◌∙◌, ap, subst}
use Rattle.std.specs.Prelude.{filter}
use Rattle.labelled_disk.specs.File.{File}
use Rattle.labelled_disk.specs.State.{DiskState}
use Rattle.flat_machine.specs.declared.call.Call.TheVariants.{Close}
use Rattle.flat_machine.specs.Machine.{Machine}
use Rattle.flat_machine.specs.Next.{next}
use Rattle.session_words.specs.StandsFor.{RevealsSettled}
use Rattle.pilot_engine.specs.Closing.{HasShut}

permanent_again : (files : List File) → filter (λ f. f.permanent) (filter (λ f. f.permanent) files) ≡ filter (λ f. f.permanent) files
permanent_again [] = refl
permanent_again (f ∷ files) = by f.permanent refl (permanent_again files)
  where
    by : (b : Bool) → f.permanent ≡ b → filter (λ g. g.permanent) (filter (λ g. g.permanent) files) ≡ filter (λ g. g.permanent) files
        → filter (λ g. g.permanent) (cond b (f ∷ filter (λ g. g.permanent) files) (filter (λ g. g.permanent) files)) ≡ cond b (f ∷ filter (λ g. g.permanent) files) (filter (λ g. g.permanent) files)
    by true is again = ap (λ (b : Bool). cond b (f ∷ filter (λ g. g.permanent) (filter (λ g. g.permanent) files)) (filter (λ g. g.permanent) (filter (λ g. g.permanent) files))) is ∙ ap (λ (fs : List File). f ∷ fs) again
    by false is again = again

pub close_twice : (m : Machine) → next (next m Close) Close ≡ next m Close
close_twice m = ap (λ (fs : List File). record (next m Close) { files = fs }) (permanent_again m.files)

-- a volume that is shut for a machine is so for the machine after its close
pub shut_again : (m : Machine) (disk : DiskState) → HasShut m disk → HasShut (next m Close) disk
shut_again m disk shut = record {
  reveals = record {
    sectors = shut.reveals.sectors;
    revealed = shut.reveals.revealed;
    shut = record {
      sound = shut.reveals.shut.sound;
      same_serial = shut.reveals.shut.same_serial;
      same_counter = shut.reveals.shut.same_counter;
      same_room = shut.reveals.shut.same_room;
      revealed = subst (RevealsSettled shut.reveals.sectors) (sym (close_twice m)) shut.reveals.shut.revealed;
    };
  };
  synced = shut.synced;
}
