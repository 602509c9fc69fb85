-- Where a disk reveals its contents, the pages of a map are revealed.
use Rattle.std.specs.Prelude.{◌≡◌, ℕ, ◌<◌, ◌≤◌, ◌+◌, ◌*◌, ◌-◌, List, [], ◌∷◌, ◌++◌, length, take, drop, Some, slice_get, get_or}
use Rattle.std.proofs.Common.{refl, sym, ◌∙◌, ap, arith, zero, suc}
use Rattle.std.proofs.Math.Seq.{drop-append-add}
use Rattle.std.proofs.lemmas.List.{length-append, length-drop, length-take-le, take_at, get_or-take, get_or-drop}
use Rattle.std.proofs.lemmas.List.Concat.{flat_map-cons}
use Rattle.std.proofs.lemmas.Option.{same_Some, slice_get-get_or, slice_get_within}
use Rattle.labelled_disk.specs.declared.layout.Layout.{Layout}
use Rattle.labelled_disk.specs.Layout.{vam, vfm}
use Rattle.labelled_disk.specs.Sectors.{Sector, AreSectors, zero_sector}
use Rattle.labelled_disk.specs.State.{DiskState}
use Rattle.frame_pool.specs.Frames.{Slots}
use Rattle.flat_mem.specs.Memory.{part}
use Rattle.swapper_kernel.specs.declared.manager.Manager.{Manager}
use Rattle.swapper_kernel.specs.declared.manager.Manager.TheVariants.{AllocationMap, FileMap}
use Rattle.swapper_kernel.specs.Maps.{pages_of, start_of}
use Rattle.swapper_kernel.specs.Homes.{IsLayout}
use Rattle.swapper_kernel.specs.Stands.{Stands}
use Rattle.swapper_kernel.specs.Window.{Shows, Reveals, map_bytes, bytes_of}

-- the page of each sector is 512 bytes
abbrev AreWhole : List Sector → Type 0
AreWhole xs = (k : ℕ) (s : Sector) → slice_get xs k ≡ Some s → length s.1 ≡ 512

bytes_more : (x : Sector) (xs : List Sector) → bytes_of (x ∷ xs) ≡ x.1 ++ bytes_of xs
bytes_more x xs = flat_map-cons (λ (s : Sector). s.1) x xs

bytes_length : (xs : List Sector) → AreWhole xs → length (bytes_of xs) ≡ 512 * length xs
bytes_length [] whole = refl
bytes_length (x ∷ xs) whole =
    let first : length x.1 ≡ 512 = whole zero x refl in
    let rest = bytes_length xs (λ k s is. whole (suc k) s is) in
    ap length (bytes_more x xs) ∙ length-append x.1 (bytes_of xs) ∙ omega (arith, first, rest)

bytes_part : (xs : List Sector) → AreWhole xs → (k : ℕ) (s : Sector) → slice_get xs k ≡ Some s → part (bytes_of xs) (512 * k) 512 ≡ s.1
bytes_part [] whole k s is = absurd (none_there s is)
  where
    none_there : (s : Sector) → slice_get {X = Sector} [] k ≡ Some s → ⊥
    none_there s is = let below = slice_get_within {A = Sector} [] k s is in omega (arith, below)
bytes_part (x ∷ xs) whole zero s is = ap (λ (b : List ℕ). part b (512 * zero) 512) (bytes_more x xs) ∙ take_at x.1 (bytes_of xs) 512 (whole zero x refl) ∙ ap (λ (t : Sector). t.1) (same_Some x s is)
bytes_part (x ∷ xs) whole (suc k) s is =
    let first : length x.1 ≡ 512 = whole zero x refl in
    let place : 512 * suc k ≡ length x.1 + 512 * k = omega (arith, first) in
    ap (λ (b : List ℕ). part b (512 * suc k) 512) (bytes_more x xs)
    ∙ ap (λ (n : ℕ). part (x.1 ++ bytes_of xs) n 512) place
    ∙ ap (take 512) (drop-append-add x.1 (bytes_of xs) (512 * k))
    ∙ bytes_part xs (λ j t there. whole (suc j) t there) k s is

-- a sector of a run is that of the whole
run_get : (m : List Sector) (from n k : ℕ) → from + n ≤ length m → k < n → slice_get (take n (drop from m)) k ≡ slice_get m (from + k)
run_get m from n k fits below =
    let rest : length (drop from m) ≡ length m - from = length-drop from m in
    let room : n ≤ length (drop from m) = omega (arith, rest, fits) in
    let long : length (take n (drop from m)) ≡ n = length-take-le n (drop from m) room in
    slice_get-get_or (take n (drop from m)) k zero_sector (omega (arith, long, below))
    ∙ ap (λ (s : Sector). Some s) (get_or-take n (drop from m) k zero_sector below ∙ get_or-drop from m k zero_sector)
    ∙ sym (slice_get-get_or m (from + k) zero_sector (omega (arith, fits, below)))

-- a map lies on the disk
map_fits : (which : Manager) (layout : Layout) → IsLayout layout → start_of which layout + pages_of which layout ≤ layout.sectors
map_fits which layout is = fits which
  where
    first : layout.vam ≡ vam layout.sectors
    first = ap (λ (l : Layout). l.vam) is.1

    second : layout.vfm ≡ vfm layout.sectors
    second = ap (λ (l : Layout). l.vfm) is.1

    room : 1 + vam layout.sectors + vfm layout.sectors ≤ layout.sectors
    room = omega (arith, is.0.0, is.0.1)

    fits : (w : Manager) → start_of w layout + pages_of w layout ≤ layout.sectors
    fits AllocationMap = omega (arith, first, room)
    fits FileMap = omega (arith, first, second, room)

-- a memory of whole sectors shows the pages of a map, one after the other
pub shows_there : (which : Manager) (layout : Layout) (m : List Sector) → IsLayout layout → length m ≡ layout.sectors → AreSectors m → Shows which m layout (map_bytes which layout m)
shows_there which layout m is size sectors = record {
  count = bytes_length run whole ∙ ap (λ (n : ℕ). 512 * n) long;
  page = λ k below.
      let s = get_or m (from + k) zero_sector in
      let here : slice_get m (from + k) ≡ Some s = slice_get-get_or m (from + k) zero_sector (omega (arith, fits, below)) in
      record {
        label = s.0;
        keeps = here ∙ ap (λ (b : List ℕ). Some (s.0, b)) (sym (bytes_part run whole k s (run_get m from n k fits below ∙ here)));
      };
}
  where
    from : ℕ
    from = start_of which layout

    n : ℕ
    n = pages_of which layout

    run : List Sector
    run = take n (drop from m)

    fits : from + n ≤ length m
    fits = let on = map_fits which layout is in omega (arith, on, size)

    long : length run ≡ n
    long =
        let rest : length (drop from m) ≡ length m - from = length-drop from m in
        length-take-le n (drop from m) (omega (arith, rest, fits))

    whole : AreWhole run
    whole k s there =
        let below = slice_get_within run k s there in
        let inside : k < n = omega (arith, below, long) in
        (sectors (from + k) s (sym (run_get m from n k fits inside) ∙ there)).whole_page

-- a disk of the layout's size that reveals its contents, with the frames over it, reveals the pages of a map
pub reveals_there : (which : Manager) (disk : DiskState) (slots : Slots) (layout : Layout) (m : List Sector) → IsLayout layout → disk.sectors ≡ layout.sectors → Stands disk slots m
    → length m ≡ layout.sectors → AreSectors m → Reveals which disk slots layout (map_bytes which layout m)
reveals_there which disk slots layout m is size stands long sectors = record { memory = m; stands = stands; shows = shows_there which layout m is long sectors; size = size }
