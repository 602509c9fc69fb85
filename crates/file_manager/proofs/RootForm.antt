-- The page of a root is in form, and no frame is over its sector.
use Rattle.std.proofs.Common.{◌≡◌, ◌≢◌, ◌⊎◌, inl, inr, ℕ, zero, suc, ◌+◌, ◌%◌, ◌^◌, ◌<◌, ◌≤◌, ◌*◌, Bool, true, false, not, ◌&&◌, ◌++◌, List, [], ◌∷◌, length, Some, refl, sym, ◌∙◌, ap, subst, arith}
use Rattle.std.specs.Prelude.{All, ◌==◌, nat_le, nat_lt, replicate, codes, if◌then◌else◌}
use Rattle.std.specs.List.{list_all}
use Rattle.std.specs.Int.{byte_at, bytes_high_first}
use Rattle.std.proofs.lemmas.Bool.{and_parts, ltb-true, le-leb, ne_eqb, cases_eq}
use Rattle.std.proofs.lemmas.List.Elements.{All-nil, All-cons, All-append, All-replicate}
use Rattle.labelled_disk.specs.declared.layout.Layout.{Layout}
use Rattle.labelled_disk.specs.Calls.{Moves, RevealsSame, RevealsWrite}
use Rattle.labelled_disk.specs.Label.{is_file_id, root_label}
use Rattle.labelled_disk.specs.Permitted.{Permitted}
use Rattle.labelled_disk.specs.Layout.{capacity}
use Rattle.labelled_disk.specs.CrashState.{written}
use Rattle.labelled_disk.specs.Root.{IsRoot}
use Rattle.labelled_disk.specs.Sectors.{Sector, IsSector}
use Rattle.labelled_disk.specs.State.{DiskState}
use Rattle.frame_pool.specs.declared.home.Home.{Home}
use Rattle.frame_pool.specs.Frames.{Slots}
use Rattle.label_calls.specs.Labels.{MayHaveWritten}
use Rattle.swapper_kernel.specs.Goes.{Goes, no_page}
use Rattle.swapper_kernel.proofs.StepLemmas.{step_laws}
use Rattle.swapper_kernel.specs.declared.manager.Manager.{Manager}
use Rattle.swapper_kernel.specs.declared.manager.Manager.TheVariants.{AllocationMap, FileMap}
use Rattle.swapper_kernel.specs.Homes.{IsLayout, IsPlaced, ArePlaced}
use Rattle.swapper_kernel.specs.Maps.{id_of}
use Rattle.session_words.specs.Parts.{HasRoot}
use Rattle.volume_root.specs.declared.root.Root.{Root}
use Rattle.volume_root.specs.RootPage.{IsValidRoot, number_bytes, root_fields, root_bytes, root_write}
use Rattle.volume_root.proofs.WrittenLemmas.{flag_read, serial_read, counter_read, is_root}
use Rattle.file_manager.specs.Creating.{next_id, counted}
use Rattle.file_manager.proofs.FreedRun.{first_is}
use Rattle.file_manager.proofs.RunStages.{there_is}

byte_fits : (k n : ℕ) → byte_at k n < 256
byte_fits zero n = omega arith
byte_fits (suc k) n = omega arith

big_fit : (k n : ℕ) → All (λ b. b < 256) (bytes_high_first k n)
big_fit zero n = All-nil (λ (b : ℕ). b < 256)
big_fit (suc k) n = All-cons (λ (b : ℕ). b < 256) (byte_at k n) (bytes_high_first k n) (byte_fits k n) (big_fit k n)

all_fit : (bytes : List ℕ) → list_all (λ b. nat_lt b 256) bytes ≡ true → All (λ b. b < 256) bytes
all_fit [] is = All-nil (λ (b : ℕ). b < 256)
all_fit (b ∷ bytes) is =
    let parts = and_parts (nat_lt b 256) (list_all (λ b. nat_lt b 256) bytes) is in
    All-cons (λ (b : ℕ). b < 256) b bytes (ltb-true b 256 parts.0) (all_fit bytes parts.1)

numbers_fit : (root : Root) → All (λ b. b < 256) (number_bytes root)
numbers_fit root =
    All-append (λ (b : ℕ). b < 256) (bytes_high_first 4 root.sectors ++ bytes_high_first 4 root.serial) (bytes_high_first 4 root.counter)
    (All-append (λ (b : ℕ). b < 256) (bytes_high_first 4 root.sectors) (bytes_high_first 4 root.serial) (big_fit 4 root.sectors) (big_fit 4 root.serial)) (big_fit 4 root.counter)

fields_fit : (root : Root) → All (λ b. b < 256) (root_fields root)
fields_fit root =
    All-append (λ (b : ℕ). b < 256) (codes "PILOTVOL" ++ bytes_high_first 2 root.version ++ bytes_high_first 2 (if root.clean then 1 else 0)) (number_bytes root)
    (All-append (λ (b : ℕ). b < 256) (codes "PILOTVOL" ++ bytes_high_first 2 root.version) (bytes_high_first 2 (if root.clean then 1 else 0))
    (All-append (λ (b : ℕ). b < 256) (codes "PILOTVOL") (bytes_high_first 2 root.version) (all_fit (codes "PILOTVOL") refl) (big_fit 2 root.version))
    (big_fit 2 (if root.clean then 1 else 0)))
    (numbers_fit root)

pub root_in_form : (root : Root) → IsSector (root_label, root_bytes root)
root_in_form root = record {
  id_fits = omega arith;
  page_fits = omega arith;
  kind_fits = omega arith;
  flags_fit = omega arith;
  last_fits = omega arith;
  whole_page = refl;
  bytes = All-append (λ (b : ℕ). b < 256) (root_fields root) (replicate 488 0) (fields_fit root) (All-replicate (λ b. b < 256) 488 0 (omega arith));
}

-- a root of the volume in use, as its sector has it
pub root_has : (n : ℕ) (root : Root) → IsValidRoot n root → root.clean ≡ false → root.serial < 2 ^ 32 → root.counter < 2 ^ 32 → HasRoot n (Some (root_label, root_bytes root)) root.serial root.counter (capacity n)
root_has n root valid unclean serial counter = record {
  valid = is_root n root valid serial counter;
  has_serial = serial_read root serial;
  has_counter = counter_read root counter;
  has_room = refl;
  open_flag = flag_read root ∙ ap (λ (b : Bool). if b then 1 else 0) unclean;
}

-- no home is the root's sector
pub home_not_root : (layout : Layout) (home : Home) → IsLayout layout → IsPlaced layout home → home.sector ≢ 0
home_not_root layout home is placed = elim (cases_eq home.id 1) [
  | inl one ↦ λ q. let at = (placed.of_map AllocationMap one).1 in omega (arith, q, at)
  | inr other ↦ elim (cases_eq home.id 2) [
    | inl two ↦ λ q. let at = (placed.of_map FileMap two).1 in omega (arith, q, at)
    | inr more ↦ λ q. let at = (placed.of_file (neither other more)).0 in let first = first_is layout is in omega (arith, q, at, first)
  ]
]
  where
    neither : home.id ≢ 1 → home.id ≢ 2 → (which : Manager) → home.id ≢ id_of which
    neither a b AllocationMap = a
    neither a b FileMap = b

-- the root is written, whatever stands in frames
module _ (old new : DiskState) (slots : Slots) (layout : Layout) (root : Root) (is : IsLayout layout) (placed : ArePlaced slots layout) (valid : IsValidRoot layout.sectors root) (serial : root.serial < 2 ^ 32) (counter : root.counter < 2 ^ 32)
    (whole : (d : List Sector) → old.contents ≡ Some d → length d ≡ layout.sectors) (moves : Moves old new) where
  permitted : (d : List Sector) → old.contents ≡ Some d → Permitted d (root_write root)
  permitted d revealed = inl (record {
    place = refl;
    root_label = refl;
    valid = subst (λ (n : ℕ). IsRoot n (Some (root_label, root_bytes root))) (sym (whole d revealed)) (is_root layout.sectors root valid serial counter);
  })

  pub root_goes : RevealsWrite (root_write root) old new → Goes (λ m n. n ≡ written (root_write root) m) no_page (root_write root ∷ []) old slots new slots
  root_goes made = step_laws.beside_frames old new slots (root_write root) 0 refl (root_in_form root) made moves
      (λ d revealed. (permitted d revealed, there_is d 0 (let long = whole d revealed in let least = is.0.0 in omega (arith, long, least))))
      (λ i f has. home_not_root layout f.home is (placed i f has))

  pub root_may : RevealsSame old new ⊎ RevealsWrite (root_write root) old new → MayHaveWritten (root_write root) old slots new
  root_may (inl same) = inl (step_laws.read old new slots same moves).makes
  root_may (inr made) = inr (step_laws.label_written old new slots (root_write root) 0 refl (root_in_form root) made moves permitted)

-- the next identifier is one that a file may have
pub next_is_file : (root : Root) → 1 ≤ root.serial → root.counter < 4294967295 → is_file_id (next_id root) ≡ true
next_is_file root serial counter =
    let low : (root.serial * 2 ^ 32 + root.counter) % 2 ^ 32 ≡ root.counter = omega (arith, counter) in
    let high : 16 ≤ root.serial * 2 ^ 32 + root.counter = omega (arith, serial) in
    let a : nat_le 16 (root.serial * 2 ^ 32 + root.counter) ≡ true = le-leb 16 (root.serial * 2 ^ 32 + root.counter) high in
    let b : ((root.serial * 2 ^ 32 + root.counter) % 2 ^ 32 == 4294967295) ≡ false = ne_eqb ((root.serial * 2 ^ 32 + root.counter) % 2 ^ 32) 4294967295 (λ q. omega (arith, q, low, counter)) in
    (λ i. a i && not (b i))

-- with the next counter it is a valid root
pub counted_valid : (n : ℕ) (root : Root) → IsValidRoot n root → IsValidRoot n (counted root)
counted_valid n root valid = record { version = valid.version; accepted = valid.accepted; count = valid.count; serial = valid.serial; counter = omega arith }

pub counted_has : (n : ℕ) (root : Root) → IsValidRoot n root → root.serial < 2 ^ 32 → root.counter < 4294967295 → HasRoot n (Some (root_label, root_bytes (counted root))) root.serial (root.counter + 1) (capacity n)
counted_has n root valid serial counter = root_has n (counted root) (counted_valid n root valid) refl serial (omega (arith, counter))
