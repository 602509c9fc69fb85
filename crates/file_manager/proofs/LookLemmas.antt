-- A look at files: searches of the map, and a label that is read between them.
use Rattle.std.proofs.Common.{◌≡◌, inl, List, [], refl, sym, ◌∙◌, subst}
use Rattle.labelled_disk.specs.declared.layout.Layout.{Layout}
use Rattle.labelled_disk.specs.Calls.{RevealsSame}
use Rattle.labelled_disk.specs.Sectors.{Sector}
use Rattle.labelled_disk.specs.State.{DiskState}
use Rattle.frame_pool.specs.Frames.{Slots}
use Rattle.file_map.specs.declared.run.Run.{Run}
use Rattle.file_map.specs.FileMap.{Triples}
use Rattle.swapper_kernel.specs.declared.manager.Manager.TheVariants.{FileMap}
use Rattle.swapper_kernel.specs.Maps.{IsMapHome}
use Rattle.swapper_kernel.specs.Stands.{Stands}
use Rattle.swapper_kernel.specs.CourseLaws.{steps_none}
use Rattle.swapper_kernel.specs.Goes.{Makes, no_page}
use Rattle.swapper_kernel.specs.GoesLaws.{swaps_itself}
use Rattle.swapper_kernel.specs.HaltLaws.{brings_itself}
use Rattle.swapper_kernel.specs.Window.{Beside, Looked}
use Rattle.swapper_kernel.specs.WindowLaws.{beside_then, looked_beside, looked_then}
use Rattle.filer_kernel.specs.Causes.{IsGiven}
use Rattle.filer_kernel.specs.Triples.{MapIs, AreOf, IsOneOf}
use Rattle.file_manager.specs.Looking.{Looks}

-- a label that is read
pub looked_label : {layout later : Layout} {a b : DiskState} {s t : Slots} → RevealsSame a b → Makes no_page [] a s b t → t ≡ s → later ≡ layout → Looked FileMap a s layout b t later
looked_label {layout = layout} {later = later} {a = a} {b = b} {s = s} revealed read frames same =
    subst (λ (u : Slots). Looked FileMap a s layout b u later) (sym frames) (record {
      swaps = record {
        makes = subst (λ (u : Slots). Makes no_page [] a s b u) frames read;
        memory = λ m stands. (m, record { sectors = stands.sectors; revealed = revealed.contents ∙ stands.revealed; merged = stands.merged }, refl);
      };
      brings = brings_itself (IsMapHome FileMap layout) s;
      steps = steps_none s revealed;
      layout = same;
    })

-- a label that is read after a search
pub beside_read : {layout mid later : Layout} {a b c : DiskState} {s t u : Slots} → Beside FileMap a s layout b t mid → RevealsSame b c → Makes no_page [] b t c u → u ≡ t → later ≡ mid → Beside FileMap a s layout c u later
beside_read beside revealed read frames same = beside_then refl beside (looked_beside (looked_label revealed read frames same))

pub looked_read : {layout mid later : Layout} {a b c : DiskState} {s t u : Slots} → Looked FileMap a s layout b t mid → RevealsSame b c → Makes no_page [] b t c u → u ≡ t → later ≡ mid → Looked FileMap a s layout c u later
looked_read looked revealed read frames same = looked_then refl looked (looked_label revealed read frames same)

-- nothing is looked at
pub looks_nothing : (layout : Layout) (disk : DiskState) (slots : Slots) (kept : List Run) → Looks layout disk slots kept disk slots kept
looks_nothing layout disk slots kept = record {
  goes = swaps_itself disk slots;
  brings = brings_itself (IsMapHome FileMap layout) slots;
  given = λ r one. inl one;
  runs_are = λ m named stands map are. are;
}

-- searches of the map
pub looks_searched : {layout later : Layout} {a b : DiskState} {s t : Slots} {kept runs : List Run} → Looked FileMap a s layout b t later → ((r : Run) → IsOneOf r runs → IsGiven layout a s kept r)
    → ((m : List Sector) (named : Triples) → Stands a s m → MapIs layout named m → AreOf named kept → AreOf named runs) → Looks layout a s kept b t runs
looks_searched looked given are = record { goes = looked.swaps; brings = looked.brings; given = given; runs_are = are }
