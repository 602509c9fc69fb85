-- The bytes of a page of a client's file change in its frame.
use Rattle.std.proofs.Common.{◌≡◌, ◌≢◌, ◌⊎◌, inl, inr, ℕ, ◌+◌, ◌*◌, ◌<◌, ◌≤◌, true, List, [], ◌++◌, length, take, drop, Some, refl, sym, ◌∙◌, ap, subst, arith}
use Rattle.std.specs.Prelude.{All, slice_get, slice_set}
use Rattle.std.proofs.lemmas.Bool.{cases_eq, true≢false}
use Rattle.std.proofs.lemmas.Bool.Decides.{nat_tests}
use Rattle.std.proofs.lemmas.List.{length-append, length-take, length-drop}
use Rattle.std.proofs.lemmas.List.Elements.{All-append, All-take, All-drop}
use Rattle.std.proofs.lemmas.Option.{same_Some}
use Rattle.labelled_disk.specs.declared.label.Label.{Label}
use Rattle.labelled_disk.specs.Label.{names, is_file_id}
use Rattle.labelled_disk.specs.Sectors.{Sector, IsSector}
use Rattle.flat_mem.specs.Memory.{part, overwritten}
use Rattle.frame_pool.specs.declared.home.Home.{Home}
use Rattle.frame_pool.specs.Frames.{Frame, Slots, Has, IsOf, changed}
use Rattle.frame_pool.specs.FrameLaws.{has_set, has_below}
use Rattle.frame_pool.specs.ListLaws.{get_same, get_other}
use Rattle.file_map.specs.FileMap.{Triples}
use Rattle.swapper_kernel.specs.Homes.{ArePlaced, Brings, Homes, IsHeld, IsLayout, IsNamed, wanted_at}
use Rattle.swapper_kernel.specs.Differs.{ChangesAt, Differs}
use Rattle.swapper_kernel.specs.DiffersLaws.{set_labels, same_length, other_sector, sector_of_label, label_here, names_id, names_page}
use Rattle.swapper_kernel.specs.Goes.{Goes, IsDirty, this_page}
use Rattle.swapper_kernel.specs.GoesLaws.{goes_wider}
use Rattle.swapper_kernel.specs.Kinds.{HasKind, a_file}
use Rattle.swapper_kernel.specs.Stands.{Stands, labels_of}
use Rattle.session_words.specs.CellLaws.{StoresAt}
use Rattle.session_words.proofs.PageLemmas.{set_sectors}
use Rattle.filer_kernel.specs.Tables.{IsTablePage}
use Rattle.fault_core.specs.Moves.{Leaves}
use Rattle.fault_core.specs.Revealed.{IsStored, Known}
use Rattle.fault_core.specs.Touch.{and_own, on_data, Touches}
use Rattle.fault_core.specs.Room.{KeepsSlots}
use Rattle.filer_kernel.specs.View.{View}
use Rattle.fault_core.proofs.BeforeLemmas.{map_still}
use Rattle.fault_core.proofs.FrameLemmas.{client_on_data, frame_kind}

-- ---- The labels stay.

pub named_still : (m n : List Sector) → labels_of n ≡ labels_of m → (home : Home) → IsNamed m home → IsNamed n home
named_still m n labels home is =
    let now = sector_of_label n home.sector is.sector.0 (ap (λ (ls : List Label). slice_get ls home.sector) labels ∙ label_here m home.sector is.sector is.here) in
    record { sector = now.0; here = now.1; named = ap (λ (l : Label). names l (wanted_at home)) now.2 ∙ is.named }

pub stored_still : (m n : List Sector) (named : Triples) → labels_of n ≡ labels_of m → {id page : ℕ} → IsStored named m (record { file = id; page = page }) → IsStored named n (record { file = id; page = page })
stored_still m n named labels is = record { sector = is.sector; found = is.found; is_named = named_still m n labels _ is.is_named; of_file = is.of_file }

-- bytes over others are a page
overwritten_fits : (l : Label) (p : List ℕ) (at : ℕ) (bytes : List ℕ) → IsSector (l, p) → at + length bytes ≤ 512 → All (λ b. b < 256) bytes → IsSector (l, overwritten p at bytes)
overwritten_fits l p at bytes fits inside all = record {
  id_fits = fits.id_fits;
  page_fits = fits.page_fits;
  kind_fits = fits.kind_fits;
  flags_fit = fits.flags_fit;
  last_fits = fits.last_fits;
  whole_page = omega (arith, fits.whole_page, inside, length-append (take at p ++ bytes) (drop (at + length bytes) p), length-append (take at p) bytes, length-take at p, length-drop (at + length bytes) p);
  bytes = All-append (λ b. b < 256) (take at p ++ bytes) (drop (at + length bytes) p)
      (All-append (λ b. b < 256) (take at p) bytes (All-take (λ b. b < 256) at p fits.bytes) all) (All-drop (λ b. b < 256) (at + length bytes) p fits.bytes);
}

-- ---- In the memory, the bytes change in the sector of a home.

module _ (v : View) (is : IsLayout v.layout) (home : Home) (client : 16 ≤ home.id) (first : v.layout.first ≤ home.sector) (from : ℕ) (bytes : List ℕ) (m n : List Sector) (c : ChangesAt home from bytes m n) where
  change_labels : labels_of n ≡ labels_of m
  change_labels = rw c.is (set_labels m home.sector c.s (overwritten c.s.1 from bytes) c.here)

  elsewhere : (k : ℕ) → k ≢ home.sector → slice_get n k ≡ slice_get m k
  elsewhere k other = rw c.is (get_other m home.sector k (c.s.0, overwritten c.s.1 from bytes) other)

  pub change_on_data : Differs (on_data v.layout) m n
  change_on_data = record {
    labels = change_labels;
    pages = λ k s here fails. elim (cases_eq k home.sector) [
      | inl own ↦ let test : on_data v.layout k s.0 ≡ true = grind (arith, nat_tests, own, first) in absurd (true≢false (sym test ∙ fails))
      | inr other ↦ elsewhere k other ∙ here
    ];
  }

  change_id : c.s.0.id ≡ home.id
  change_id = names_id c.s.0 (wanted_at home) c.named

  pub table_still : (named : Triples) (k : ℕ) (page : List ℕ) → IsTablePage v.layout named m k page → IsTablePage v.layout named n k page
  table_still named k page p = record {
    sector = p.sector;
    label = p.label;
    found = p.found;
    keeps = elsewhere p.sector (λ same.
        let one : c.s ≡ (p.label, page) = same_Some {A = Sector} c.s (p.label, page) (sym c.here ∙ ap (slice_get m) (sym same) ∙ p.keeps) in
        let three : p.label.id ≡ 3 = names_id p.label (record { id = 3; page = k }) p.named_so in
        let high : c.s.0.id ≡ home.id = change_id in
        let also : c.s.0.id ≡ p.label.id = ap (λ (s : Sector). s.0.id) one in
        absurd (omega (arith, three, high, also, client))) ∙ p.keeps;
    named_so = p.named_so;
  }

  -- what was known of the memory is known
  pub known_changed : (x : View) (named : Triples) (b : List ℕ) → Known v m named b → x.layout ≡ v.layout → x.runs ≡ v.runs → x.disk.sectors ≡ v.disk.sectors → IsSector (c.s.0, overwritten c.s.1 from bytes)
      → Stands x.disk x.slots n → ((home : Home) → IsHeld x.slots home → IsHeld v.slots home) → Known x n named b
  known_changed x named b k layout runs sectors fits stands before = record {
    stands = stands;
    size = sectors ∙ k.size ∙ ap (λ l. l.sectors) (sym layout);
    long = same_length m n change_labels ∙ k.long ∙ ap (λ l. l.sectors) (sym layout);
    sectors = rw c.is (set_sectors m home.sector (c.s.0, overwritten c.s.1 from bytes) k.sectors fits);
    map = rw layout (map_still v.layout is named m n change_on_data k.map);
    map_labels = λ h of. named_still m n change_labels h (k.map_labels h (rw (← layout) of));
    runs = rw (layout, runs) k.runs;
    tabled = λ j s from_data here three.
        let was = other_sector m n change_labels j s here in
        let own = k.tabled j was.0 (rw (← layout) from_data) was.1 (ap (λ (l : Label). l.id) was.2 ∙ three) in
        subst (λ (l : Label). (l.page < 96) × (named 3 l.page j ≡ true)) was.2 own;
    count = k.count;
    page = λ j below. rw layout (table_still named j (part b (512 * j) 512) (k.page j below));
    held = λ home held three below. k.held home (before home held) three below;
  }

-- ---- A frame of the page was changed.

-- it is dirty
pub dirty_set : (s t : Slots) (i : ℕ) (f : Frame) → Has s i f → (from : ℕ) (bytes : List ℕ) → t ≡ slice_set s i (Some (changed f from bytes)) → (id page : ℕ) → IsOf f id page → IsDirty t id page
dirty_set s t i f has from bytes slots id page of = record {
  slot = i;
  frame = changed f from bytes;
  has = record { is = ap (λ (l : Slots). slice_get l i) slots ∙ get_same s i (Some (changed f from bytes)) (has_below s i f has) };
  dirty = refl;
  same_id = of.0;
  same_page = of.1;
}

module _ (w x : View) (is : IsLayout w.layout) (placed : ArePlaced w.slots w.layout) (i : ℕ) (f : Frame) (has : Has w.slots i f) (id page : ℕ) (of : IsOf f id page) (client : 16 ≤ id) (from : ℕ) (bytes : List ℕ)
    (layout : x.layout ≡ w.layout) (runs : x.runs ≡ w.runs) (goes : Goes (ChangesAt f.home from bytes) (this_page f.home.id f.home.page) [] w.disk w.slots x.disk x.slots)
    (slots : x.slots ≡ slice_set w.slots i (Some (changed f from bytes))) where
  high : 16 ≤ f.home.id
  high = let own = of.0 in omega (arith, client, own)

  far : w.layout.first ≤ f.home.sector
  far = client_on_data w f.home (placed i f has) high

  has_now : (j : ℕ) (g : Frame) → Has x.slots j g → ((j ≡ i) × (changed f from bytes ≡ g)) ⊎ ((j ≢ i) × Has w.slots j g)
  has_now j g there = elim (has_set w.slots i j (Some (changed f from bytes)) g (has_below w.slots i f has) (subst (λ s. Has s j g) slots there)) [
    | inl (same, own) ↦ inl (same, same_Some (changed f from bytes) g own)
    | inr (other, was) ↦ inr (other, was)
  ]

  changed_there : Has x.slots i (changed f from bytes)
  changed_there = record { is = ap (λ s. slice_get s i) slots ∙ get_same w.slots i (Some (changed f from bytes)) (has_below w.slots i f has) }

  -- its home was held
  changed_held : (home : Home) → IsHeld x.slots home → IsHeld w.slots home
  changed_held home held = elim (has_now held.slot held.frame held.has) [
    | inl (_, own) ↦ record { slot = i; frame = f; has = has; at = ap (λ (g : Frame). g.home) own ∙ held.at }
    | inr (_, was) ↦ record { slot = held.slot; frame = held.frame; has = was; at = held.at }
  ]

  pub changed_brings : (come : Homes) → Brings come w.slots x.slots
  changed_brings come = record { homes = λ home held. inl (changed_held home held) }

  pub changed_slots : KeepsSlots w.slots x.slots
  changed_slots j other number (g, there, own) = elim (cases_eq j i) [
    | inl same ↦
        let one : g ≡ f = same_Some g f (same_Some (Some g) (Some f) (sym there.is ∙ ap (slice_get w.slots) same ∙ has.is)) in
        (changed f from bytes, subst (λ (k : ℕ). Has x.slots k (changed f from bytes)) (sym same) changed_there, subst (λ (h : Frame). IsOf h other number) one own)
    | inr apart ↦ (g, record { is = ap (λ s. slice_get s j) slots ∙ get_other w.slots i j (Some (changed f from bytes)) apart ∙ there.is }, own)
  ]

  pub changed_touches : Touches (this_page id page) w x
  changed_touches = record {
    goes = goes_wider (ChangesAt f.home from bytes) (Differs (on_data w.layout)) (and_own (this_page id page)) (λ m n c. change_on_data w is f.home high far from bytes m n c)
        (λ j p own. inr (own.0 ∙ of.0, own.1 ∙ of.1)) goes;
    brings = changed_brings _;
    layout = layout;
    given = λ r one. inl (rw (← layout, ← runs) one);
    runs_are = λ m named stands map are. rw (layout, runs) are;
    revealed = λ b t.
        let now = goes.memory t.memory t.stands in
        rw (layout, runs) (record {
          memory = now.0;
          stands = now.1;
          triples = t.triples;
          map = map_still w.layout is t.triples t.memory now.0 (change_on_data w is f.home high far from bytes t.memory now.0 now.2) t.map;
          kept = t.kept;
          size = goes.makes.went.sectors ∙ t.size;
          count = t.count;
          page = λ k below. table_still w is f.home high far from bytes t.memory now.0 now.2 t.triples k (part b (512 * k) 512) (t.page k below);
          held = λ home held three below. t.held home (changed_held home held) three below;
        });
  }

  -- it is a store to the page, after which the same is known
  pub changed_leaves : (m : List Sector) (named : Triples) (b : List ℕ) → Known w m named b → is_file_id id ≡ true → from + length bytes ≤ 512 → All (λ b. b < 256) bytes → Leaves (StoresAt id page from bytes) m named b x
  changed_leaves m named b k given inside all =
      let now = goes.memory m k.stands in
      let c = now.2 in
      let kind = frame_kind is k placed i f has id page of given in
      let same : (c.s ≡ _) = same_Some {A = Sector} c.s _ (sym c.here ∙ kind.here) in
      let fits = overwritten_fits c.s.0 c.s.1 from bytes (k.sectors f.home.sector c.s c.here) inside all in
      record {
        memory = now.0;
        changed = record {
          place = f.home.sector;
          s = c.s;
          there = subst (λ (s : Sector). HasKind m f.home.sector s a_file) (sym same) kind;
          same_id = names_id c.s.0 (wanted_at f.home) c.named ∙ of.0;
          same_page = names_page c.s.0 (wanted_at f.home) c.named ∙ of.1;
          inside = inside;
          fits = fits;
          is = c.is;
        };
        known = known_changed w is f.home high far from bytes m now.0 c x named b k layout runs goes.makes.went.sectors fits now.1 changed_held;
        labels = (change_on_data w is f.home high far from bytes m now.0 c).labels;
      }
