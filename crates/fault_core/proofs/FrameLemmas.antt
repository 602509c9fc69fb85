-- The frame of a page of a file, and the sector that is its home.
use Rattle.std.proofs.Common.{◌≡◌, ◌≢◌, ℕ, ◌+◌, ◌≤◌, Bool, true, false, List, length, sym, ◌∙◌, ap, subst, arith}
use Rattle.std.specs.Prelude.{◌==◌, if◌then◌else◌}
use Rattle.std.proofs.lemmas.Bool.{ne_eqb}
use Rattle.labelled_disk.specs.Label.{is_file, is_file_id, names}
use Rattle.labelled_disk.specs.Layout.{first_data}
use Rattle.labelled_disk.specs.Sectors.{Sector}
use Rattle.flat_mem.specs.Memory.{part}
use Rattle.frame_pool.specs.declared.home.Home.{Home}
use Rattle.frame_pool.specs.Frames.{Frame, Has, IsOf}
use Rattle.file_map.specs.FileMap.{Triples}
use Rattle.swapper_kernel.specs.declared.manager.Manager.{Manager}
use Rattle.swapper_kernel.specs.declared.manager.Manager.TheVariants.{AllocationMap, FileMap}
use Rattle.swapper_kernel.specs.Maps.{id_of}
use Rattle.swapper_kernel.specs.Homes.{ArePlaced, IsLayout, IsPlaced, wanted_at}
use Rattle.swapper_kernel.specs.Kinds.{HasKind, the_tables, a_file, unused}
use Rattle.swapper_kernel.specs.Stands.{IsHome}
use Rattle.swapper_kernel.specs.DiffersLaws.{names_id, names_page}
use Rattle.swapper_kernel.proofs.KindLemmas.{data_kind}
use Rattle.session_words.proofs.FoundLemmas.{above_reserved, file_label}
use Rattle.filer_kernel.specs.PlaceLaws.{data_first}
use Rattle.fault_core.specs.Moves.{HasBytes}
use Rattle.fault_core.specs.Revealed.{Known}
use Rattle.filer_kernel.specs.View.{View}

of_no_map : (id : ℕ) → 16 ≤ id → (which : Manager) → id ≢ id_of which
of_no_map id client AllocationMap same = absurd (omega (arith, client, same))
of_no_map id client FileMap same = absurd (omega (arith, client, same))

-- a page of a client's file is at home on a data sector
pub client_on_data : (v : View) (home : Home) → IsPlaced v.layout home → 16 ≤ home.id → v.layout.first ≤ home.sector
client_on_data v home placed client = (placed.of_file (of_no_map home.id client)).0

module _ {v : View} {m : List Sector} {named : Triples} {b : List ℕ} (is : IsLayout v.layout) (k : Known v m named b) (placed : ArePlaced v.slots v.layout)
    (i : ℕ) (f : Frame) (has : Has v.slots i f) (id page : ℕ) (of : IsOf f id page) (given : is_file_id id ≡ true) where
  abbrev pub home_of_frame : IsHome m f
  home_of_frame = k.stands.merged.frames i f has

  pub frame_id : home_of_frame.label.id ≡ id
  frame_id = names_id home_of_frame.label (wanted_at f.home) home_of_frame.named ∙ of.0

  pub frame_page : home_of_frame.label.page ≡ page
  frame_page = names_page home_of_frame.label (wanted_at f.home) home_of_frame.named ∙ of.1

  pub frame_on_data : v.layout.first ≤ f.home.sector
  frame_on_data =
      let client = above_reserved id given in
      let own = of.0 in
      client_on_data v f.home (placed i f has) (omega (arith, client, own))

  pub frame_kind : HasKind m f.home.sector (home_of_frame.label, f.bytes) a_file
  frame_kind =
      let h = home_of_frame in
      let client = above_reserved id given in
      let own = frame_id in
      let label_id : is_file_id h.label.id ≡ true = ap is_file_id own ∙ given in
      let ids : h.label.id ≡ f.home.id = names_id h.label (wanted_at f.home) h.named in
      let pages : h.label.page ≡ f.home.page = names_page h.label (wanted_at f.home) h.named in
      let file : is_file h.label ≡ true = file_label h.label label_id ((λ j. names h.label (record { id = ids j; page = pages j })) ∙ h.named) in
      let from = frame_on_data in
      let first = data_first v.layout is in
      let above : first_data v.layout.sectors ≤ f.home.sector = omega (arith, from, first) in
      let three : (h.label.id == 3) ≡ false = ne_eqb h.label.id 3 (omega (arith, client, own)) in
      record {
        here = h.keeps;
        is = data_kind (length m) f.home.sector h.label (subst (λ (n : ℕ). first_data n ≤ f.home.sector) (sym k.long) above)
            ∙ ap (λ (b : Bool). if b then the_tables else (if is_file h.label then a_file else unused)) three ∙ ap (λ (b : Bool). if b then a_file else unused) file;
      }

  -- the bytes of the frame are those of the page
  pub frame_bytes : (at : ℕ) (bytes : List ℕ) → at + length bytes ≤ 512 → bytes ≡ part f.bytes at (length bytes) → HasBytes id page at bytes m
  frame_bytes at bytes inside are = record {
    place = f.home.sector;
    s = (home_of_frame.label, f.bytes);
    there = frame_kind;
    same_id = frame_id;
    same_page = frame_page;
    inside = inside;
    are = are;
  }
