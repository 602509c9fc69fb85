-- The machine that a core stands for after pages were brought in, and after bytes of clients' pages changed.
use Rattle.std.proofs.Common.{◌≡◌, inl, inr, ℕ, ◌<◌, ◌^◌, List, [], length, refl, sym, ◌∙◌, subst, arith}
use Rattle.std.specs.List.{concat}
use Rattle.labelled_disk.specs.Sectors.{Sector}
use Rattle.file_map.specs.FileMap.{Triples}
use Rattle.file_map.specs.InSectors.{MapNames}
use Rattle.flat_machine.specs.declared.call.Call.{Call}
use Rattle.flat_machine.specs.declared.space.Space.{Space}
use Rattle.flat_machine.specs.Machine.{Machine, used}
use Rattle.swap_units.specs.declared.interval.Interval.{Interval}
use Rattle.swapper_kernel.specs.Goes.{Makes}
use Rattle.swapper_kernel.specs.GoesLaws.{makes_wider}
use Rattle.swapper_kernel.specs.Homes.{IsLayout}
use Rattle.swapper_kernel.specs.Stands.{Stands, labels_of}
use Rattle.filer_kernel.specs.Tables.{table_pages}
use Rattle.space_tables.specs.Stored.{RevealSpaces}
use Rattle.session_words.specs.FrameLaws.{BringsKnown}
use Rattle.session_words.specs.Parts.{HasTriples}
use Rattle.session_words.specs.StandsFor.{StandsFor}
use Rattle.session_words.specs.Volume.{Searches, volume_page}
use Rattle.session_words.proofs.LooseLemmas.{swap_stands}
use Rattle.session_words.proofs.ShownLemmas.{shown_laws}
use Rattle.file_manager.specs.declared.volume.Volume.{Volume}
use Rattle.file_manager.proofs.BookLemmas.{true_by_map}
use Rattle.filer_kernel.specs.MapOnce.{named_once}
use Rattle.fault_core.specs.Reach.{Reaches}
use Rattle.fault_core.specs.Revealed.{IsIntervalOf, Known, Revealed}
use Rattle.filer_kernel.specs.View.{View}
use Rattle.running_words.specs.Running.{IsRunning, exactly}
use Rattle.running_words.specs.RunningLaws.{IsWhole}
use Rattle.running_words.specs.Session.{AreInForm, IsKept}
use Rattle.running_words.specs.Stages.{Passes}
use Rattle.running_words.proofs.SessionLemmas.{one_memory}
use Rattle.running_words.proofs.StageLemmas.{no_step}

-- pages of the space tables and of the file map are the volume's own
pub tables_own : (id page : ℕ) → table_pages id page → volume_page id page
tables_own id page own = elim own [ inl three ↦ omega (arith, three) | inr two ↦ omega (arith, two) ]

-- runs that are the map's are true
known_kept : (w : View) (x y : List Sector) (named : Triples) (b : List ℕ) → Known w x named b → HasTriples named (labels_of x) → Stands w.disk w.slots y → IsKept w.layout w.runs y
known_kept w x y named b k triples stands =
    subst (λ (z : List Sector). IsKept w.layout w.runs z) (one_memory w.disk w.slots x y k.stands stands)
    (record { long = k.long; true_runs = true_by_map (labels_of x) named _ triples k.runs })

pub asked : (v w : View) (kept later : List Interval) (count : ℕ) (volume : Volume) (m : Machine) → IsWhole v → (r : IsRunning v kept count volume m) → Reaches v w → BringsKnown m.spaces v.slots w.slots
    → Revealed w later count r.session.stands.memory r.session.stands.is.named m.spaces → IsRunning w later count volume m
asked v w kept later count volume m whole r h brings revealed =
    let s = r.session in
    let x : List Sector = s.stands.memory in
    let searched : Searches v.disk v.slots w.disk w.slots = record {
      makes = makes_wider volume_page tables_own h.goes.makes;
      memory = λ n stands.
          let same : n ≡ x = one_memory v.disk v.slots n x stands s.stands.stands in
          (n, subst (Stands w.disk w.slots) (sym same) revealed.known.stands, refl);
    } in
    record {
      pages = r.pages;
      tables = r.tables;
      session = record {
        stands = swap_stands (exactly r.pages m.spaces) v.disk w.disk v.slots w.slots m searched brings s.stands;
        kept = λ y stands. known_kept w x y s.stands.is.named revealed.bytes revealed.known s.stands.is.by.triples stands;
        same_serial = s.same_serial;
        same_counter = s.same_counter;
        same_used = s.same_used;
      };
      cached = revealed.cached;
    }

-- where no label was written
pub quiet : (call : Call) (v w : View) (kept : List Interval) (count : ℕ) (volume : Volume) (m : Machine) → AreInForm v.disk → IsRunning v kept count volume m → Makes volume_page [] v.disk v.slots w.disk w.slots
    → Passes m call v.disk w.disk
quiet call v w kept count volume m form r makes = no_step (exactly r.pages m.spaces) v.disk w.disk v.slots w.slots m call r.session.stands makes form

-- a revealed map names what the memory's does
revealed_names : (w : View) (y : List Sector) (named also : Triples) (b : List ℕ) → IsLayout w.layout → Known w y named b → MapNames y also → also ≡ named
revealed_names w y named also b is k map =
    let mine : MapNames y named = (shown_laws.names w.layout y k.map.bytes named is k.long k.sectors k.map.shows).0 k.map.names in
    let few : length y < 2 ^ 32 = let small = is.0.1 in omega (arith, small, k.long) in
    λ i id page sector. named_once y named also few mine map id page sector i

pub moved : (v w : View) (kept later : List Interval) (count : ℕ) (volume : Volume) (m n : Machine) → IsWhole v → (r : IsRunning v kept count volume m) → n.spaces ≡ m.spaces
    → n.serial ≡ m.serial → n.counter ≡ m.counter → used n ≡ used m → StandsFor (exactly r.pages m.spaces) w.disk w.slots n
    → ((x : List Sector) → Stands w.disk w.slots x → Revealed w later count x r.session.stands.is.named m.spaces) → w.layout ≡ v.layout → IsRunning w later count volume n
moved v w kept later count volume m n whole r spaces serial counter room stands reveals layout =
    let s = r.session in
    let y : List Sector = stands.memory in
    let revealed = reveals y stands.stands in
    let is : IsLayout w.layout = subst IsLayout (sym layout) whole.layout in
    let same : stands.is.named ≡ s.stands.is.named = revealed_names w y s.stands.is.named stands.is.named revealed.bytes is revealed.known stands.is.map in
    record {
      pages = r.pages;
      tables = subst (λ (ss : List Space). RevealSpaces (λ b. b ≡ concat r.pages) count ss) (sym spaces) r.tables;
      session = record {
        stands = subst (λ (ss : List Space). StandsFor (exactly r.pages ss) w.disk w.slots n) (sym spaces) stands;
        kept = λ z there. known_kept w y z s.stands.is.named revealed.bytes revealed.known (subst (λ (t : Triples). HasTriples t (labels_of y)) same stands.is.by.triples) there;
        same_serial = s.same_serial ∙ sym serial;
        same_counter = s.same_counter ∙ sym counter;
        same_used = s.same_used ∙ sym room;
      };
      cached = λ x one. subst (λ (ss : List Space). IsIntervalOf ss x) (sym spaces) (revealed.cached x one);
    }
