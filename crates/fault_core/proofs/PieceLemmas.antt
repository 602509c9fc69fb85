-- The pages of a reference, one or two, and the bytes on each.
use Rattle.std.proofs.Common.{◌≡◌, ℕ, ◌+◌, ◌-◌, ◌/◌, ◌%◌, ◌<◌, ◌≤◌, Bool, true, false, List, [], ◌∷◌, ◌++◌, length, take, drop, refl, sym, ap, subst, arith}
use Rattle.std.specs.Prelude.{nat_le, if◌then◌else◌}
use Rattle.std.proofs.lemmas.Bool.Decides.{nat_tests}
use Rattle.std.proofs.lemmas.List.{length-append}
use Rattle.std.proofs.Math.Seq.{take-append_seam, drop-append_seam}
use Rattle.labelled_disk.specs.Sectors.{Sector}
use Rattle.file_map.specs.FileMap.{Triples}
use Rattle.flat_machine.specs.declared.space.Space.{Space}
use Rattle.swap_units.specs.declared.interval.Interval.{Interval}
use Rattle.swap_units.specs.Unit.{Holds}
use Rattle.session_words.specs.CellLaws.{pieces}
use Rattle.fault_core.specs.Access.{last_page}
use Rattle.fault_core.specs.Moves.{AreSeen, HasBytes, Loads, LoadsIn, LoadsPieces}
use Rattle.fault_core.specs.Unit.{file_page}

pub one_page : (address count : ℕ) → 1 ≤ count → address % 512 + count ≤ 512 → address / 512 ≡ last_page address count
one_page address count some fits = omega (arith, some, fits)

pub last_is_next : (address count : ℕ) → count ≤ 512 → 512 < address % 512 + count → address / 512 + 1 ≡ last_page address count
last_is_next address count few past = omega (arith, few, past)

pub next_address : (address : ℕ) → (address + (512 - address % 512)) / 512 ≡ address / 512 + 1
next_address address = omega arith

pub next_offset : (address : ℕ) → (address + (512 - address % 512)) % 512 ≡ 0
next_offset address = omega arith

-- ---- The pieces of bytes at an address.

pub one_piece : (address : ℕ) (bytes : List ℕ) → address % 512 + length bytes ≤ 512 → pieces address bytes ≡ (address, bytes) ∷ []
one_piece address bytes fits =
    let test : nat_le (address % 512 + length bytes) 512 ≡ true = grind (arith, nat_tests, fits) in
    ap (λ (t : Bool). if t then (address, bytes) ∷ []
    else (address, take (512 - address % 512) bytes) ∷ (address + (512 - address % 512), drop (512 - address % 512) bytes) ∷ []) test

pub two_pieces : (address : ℕ) (low high : List ℕ) → length low ≡ 512 - address % 512 → 1 ≤ length high
    → pieces address (low ++ high) ≡ (address, low) ∷ (address + (512 - address % 512), high) ∷ []
two_pieces address low high room some =
    let sum : length (low ++ high) ≡ length low + length high = length-append low high in
    let test : nat_le (address % 512 + length (low ++ high)) 512 ≡ false = grind (arith, nat_tests, room, some, sum) in
    let prefix : take (512 - address % 512) (low ++ high) ≡ low = subst (λ (n : ℕ). take n (low ++ high) ≡ low) room (take-append_seam low high) in
    let back : drop (512 - address % 512) (low ++ high) ≡ high = subst (λ (n : ℕ). drop n (low ++ high) ≡ high) room (drop-append_seam low high) in
    rw (test, prefix, back) refl

-- ---- Loads.

module _ (ss : List Space) (named : Triples) (m : List Sector) (address : ℕ) where
  pub loads_first : (x : Interval) (bytes : List ℕ) → AreSeen ss named m x → Holds x (address / 512) → HasBytes x.id (file_page x (address / 512)) (address % 512) bytes m → LoadsIn ss address bytes m
  loads_first x bytes seen holds has = record { shown = record { file = x.id; page = file_page x (address / 512) }; is_shown = seen.shown (address / 512) holds; has = has }

  pub loads_next : (x : Interval) (bytes : List ℕ) → AreSeen ss named m x → Holds x (address / 512 + 1) → HasBytes x.id (file_page x (address / 512 + 1)) 0 bytes m → LoadsIn ss (address + (512 - address % 512)) bytes m
  loads_next x bytes seen holds has = record {
    shown = record { file = x.id; page = file_page x (address / 512 + 1) };
    is_shown = rw (next_address address) (seen.shown (address / 512 + 1) holds);
    has = rw (next_offset address) has;
  }

  pub one_loaded : (bytes : List ℕ) → address % 512 + length bytes ≤ 512 → LoadsIn ss address bytes m → Loads ss address bytes m
  one_loaded bytes fits own = subst (λ (ps : List (ℕ × List ℕ)). LoadsPieces ss ps m) (sym (one_piece address bytes fits)) (own, tt)

  pub two_loaded : (low high : List ℕ) → length low ≡ 512 - address % 512 → 1 ≤ length high → LoadsIn ss address low m → LoadsIn ss (address + (512 - address % 512)) high m → Loads ss address (low ++ high) m
  two_loaded low high room some first next = subst (λ (ps : List (ℕ × List ℕ)). LoadsPieces ss ps m) (sym (two_pieces address low high room some)) (first, (next, tt))
