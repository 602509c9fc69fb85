-- Maps that frames show.
use Rattle.std.proofs.Common.{◌≡◌, ℕ, ◌+◌, ◌-◌, ◌*◌, ◌/◌, ◌%◌, ◌^◌, ◌<◌, Bool, true, false, List, length, get_or, take, drop, refl, sym, ◌∙◌, ap, subst, arith}
use Rattle.std.specs.Prelude.{slice_get, nat_le, nat_lt, ◌==◌}
use Rattle.std.proofs.lemmas.List.{ext_get_or, get_or-take, get_or-drop}
use Rattle.std.proofs.lemmas.Bool.{and_parts, leb-true, ltb-true, true≢false}
use Rattle.std.proofs.lemmas.Option.{same_Some}
use Rattle.labelled_disk.specs.declared.layout.Layout.{Layout}
use Rattle.labelled_disk.specs.declared.label.Label.{Label}
use Rattle.labelled_disk.specs.Layout.{vam, vfm, first_data, layout_of}
use Rattle.labelled_disk.specs.Root.{page_in}
use Rattle.labelled_disk.specs.Sectors.{Sector, AreSectors}
use Rattle.alloc_map.specs.Bits.{is_used}
use Rattle.page_tree.specs.Reveals.{RevealsTree}
use Rattle.file_map.specs.FileMap.{Triples, AreNamed}
use Rattle.file_map.specs.InSectors.{map_bytes, MapNames}
use Rattle.swapper_kernel.specs.declared.manager.Manager.{Manager}
use Rattle.swapper_kernel.specs.declared.manager.Manager.TheVariants.{AllocationMap, FileMap}
use Rattle.swapper_kernel.specs.Homes.{IsLayout}
use Rattle.swapper_kernel.specs.Maps.{pages_of, start_of}
use Rattle.swapper_kernel.specs.ThereLaws.{shows_there}
use Rattle.swapper_kernel.specs.Window as window
use Rattle.swapper_kernel.specs.Window.{IsPage, Shows, in_map}
use Rattle.swapper_kernel.specs.Differs.{Differs}
use Rattle.swapper_kernel.specs.Kinds.{Kind, SameBut, kind_of, of_kinds, the_allocation_map, the_file_map}
use Rattle.swapper_kernel.proofs.KindLemmas.{allocation_kind, map_kind}
use Rattle.session_words.specs.Parts.{is_marked}
use Rattle.session_words.specs.ShownLaws.{map_alone, ShownLaws}

-- the kind of the sectors of a map
abbrev kind_of_map : Manager → Kind
kind_of_map AllocationMap = the_allocation_map
kind_of_map FileMap = the_file_map

-- a byte of a piece
byte_in_part : (b : List ℕ) (from n i : ℕ) → i < n → get_or (take n (drop from b)) i 0 ≡ get_or b (from + i) 0
byte_in_part b from n i below = get_or-take n (drop from b) i 0 below ∙ get_or-drop from b i 0

-- the pages of a map are one list of bytes
shown_once : (which : Manager) (layout : Layout) (m : List Sector) (a b : List ℕ) → Shows which m layout a → Shows which m layout b → a ≡ b
shown_once which layout m a b h k = ext_get_or 0 a b (h.count ∙ sym k.count) (λ i below.
    let page : i / 512 < pages_of which layout = omega (arith, below, h.count) in
    let p : IsPage m (start_of which layout + i / 512) (take 512 (drop (512 * (i / 512)) a)) = h.page (i / 512) page in
    let q : IsPage m (start_of which layout + i / 512) (take 512 (drop (512 * (i / 512)) b)) = k.page (i / 512) page in
    let same : take 512 (drop (512 * (i / 512)) a) ≡ take 512 (drop (512 * (i / 512)) b) =
    ap (λ (s : Sector). s.1) (same_Some {A = Sector} (p.label, take 512 (drop (512 * (i / 512)) a)) (q.label, take 512 (drop (512 * (i / 512)) b)) (sym p.keeps ∙ q.keeps)) in
    let small : i % 512 < 512 = omega arith in
    let place : 512 * (i / 512) + i % 512 ≡ i = omega arith in
    ap (λ (j : ℕ). get_or a j 0) (sym place) ∙ sym (byte_in_part a (512 * (i / 512)) 512 (i % 512) small)
    ∙ ap (λ (l : List ℕ). get_or l (i % 512) 0) same
    ∙ byte_in_part b (512 * (i / 512)) 512 (i % 512) small ∙ ap (λ (j : ℕ). get_or b j 0) place)

module _ (layout : Layout) (m : List Sector) (is : IsLayout layout) (size : length m ≡ layout.sectors) (sectors : AreSectors m) where
  -- the layout is that of as many sectors
  laid : layout ≡ layout_of (length m)
  laid = is.1 ∙ ap layout_of (sym size)

  same_bytes : window.map_bytes FileMap layout m ≡ map_bytes m
  same_bytes = ap (λ (l : Layout). window.map_bytes FileMap l m) laid

  map_shown : Shows FileMap m layout (map_bytes m)
  map_shown = subst (Shows FileMap m layout) same_bytes (shows_there FileMap layout m is size sectors)

  only_bytes : (shown : List ℕ) → Shows FileMap m layout shown → shown ≡ map_bytes m
  only_bytes shown h = shown_once FileMap layout m shown (map_bytes m) h map_shown

  -- what is named by the bytes that are shown
  same_names : (shown : List ℕ) (named : Triples) → Shows FileMap m layout shown → AreNamed layout.sectors (RevealsTree 24 12 layout.vfm (λ b. b ≡ shown)) named ≡ MapNames m named
  same_names shown named h = λ i. AreNamed (laid i).sectors (RevealsTree 24 12 (laid i).vfm (λ b. b ≡ only_bytes shown h i)) named

-- a sector of a map is of its kind
in_kind : (which : Manager) (n k : ℕ) (l : Label) → in_map which (layout_of n) k l ≡ true → kind_of n k l ≡ kind_of_map which
unfolding first_data
in_kind AllocationMap n k l is =
    let both = and_parts (nat_le 1 k) (nat_lt k (1 + vam n)) is in
    allocation_kind n k l (leb-true 1 k both.0) (let below = ltb-true k (1 + vam n) both.1 in omega (arith, below))
in_kind FileMap n k l is =
    let both = and_parts (nat_le (1 + vam n) k) (nat_lt k (1 + vam n + vfm n)) is in
    map_kind n k l (let above = leb-true (1 + vam n) k both.0 in omega (arith, above)) (ltb-true k (1 + vam n + vfm n) both.1)

kind_alone : (which : Manager) → map_alone which (kind_of_map which) ≡ true
kind_alone AllocationMap = refl
kind_alone FileMap = refl

other_kinds : (which : Manager) (layout : Layout) (m n : List Sector) → IsLayout layout → length m ≡ layout.sectors → Differs (in_map which layout) m n → SameBut (map_alone which) m n
other_kinds which layout m n is size differs = record {
  labels = differs.labels;
  pages = λ k s here fails. differs.pages k s here (outside k s fails (in_map which layout k s.0) refl);
}
  where
    outside : (k : ℕ) (s : Sector) → of_kinds (length m) (map_alone which) k s.0 ≡ false → (b : Bool) → in_map which layout k s.0 ≡ b → in_map which layout k s.0 ≡ false
    outside k s fails false e = e
    outside k s fails true e =
        let there : in_map which (layout_of (length m)) k s.0 ≡ true = ap (λ (n : ℕ). in_map which (layout_of n) k s.0) size ∙ ap (λ (l : Layout). in_map which l k s.0) (sym is.1) ∙ e in
        absurd (true≢false (sym (ap (map_alone which) (in_kind which (length m) k s.0 there) ∙ kind_alone which) ∙ fails))

-- a bit of the map is that of its page
bit_shown : (layout : Layout) (m : List Sector) (shown : List ℕ) (k : ℕ) → Shows AllocationMap m layout shown → k < 4096 * layout.vam → is_used shown k ≡ is_marked m k
unfolding is_used
bit_shown layout m shown k h below =
    let p : IsPage m (1 + k / 4096) (take 512 (drop (512 * (k / 4096)) shown)) = h.page (k / 4096) (omega (arith, below)) in
    let page : page_in (slice_get m (1 + k / 4096)) ≡ take 512 (drop (512 * (k / 4096)) shown) = ap page_in p.keeps in
    let small : k % 4096 / 8 < 512 = omega arith in
    let place : 512 * (k / 4096) + k % 4096 / 8 ≡ k / 8 = omega arith in
    let bit : k % 4096 % 8 ≡ k % 8 = omega arith in
    let byte : get_or shown (k / 8) 0 ≡ get_or (page_in (slice_get m (1 + k / 4096))) (k % 4096 / 8) 0 =
    ap (λ (j : ℕ). get_or shown j 0) (sym place) ∙ sym (byte_in_part shown (512 * (k / 4096)) 512 (k % 4096 / 8) small) ∙ ap (λ (l : List ℕ). get_or l (k % 4096 / 8) 0) (sym page) in
    λ i. byte i / 2 ^ (7 - sym bit i) % 2 == 1

pub shown_laws : ShownLaws
shown_laws = record {
  kinds = other_kinds;
  bytes = λ layout m shown is size sectors. (only_bytes layout m is size sectors shown, λ same. subst (Shows FileMap m layout) (sym same) (map_shown layout m is size sectors));
  names = λ layout m shown named is size sectors h. (
    λ a. subst (λ (t : Type 0). t) (same_names layout m is size sectors shown named h) a,
    λ b. subst (λ (t : Type 0). t) (sym (same_names layout m is size sectors shown named h)) b,
  );
  bits = bit_shown;
}
