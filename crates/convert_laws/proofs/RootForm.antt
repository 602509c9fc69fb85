-- The sector of a root is in form.
use Rattle.std.proofs.Common.{◌≡◌, ℕ, zero, suc, ◌<◌, true, ◌++◌, List, [], ◌∷◌, refl, arith}
use Rattle.std.specs.Prelude.{All, nat_lt, replicate, codes, if◌then◌else◌}
use Rattle.std.specs.List.{list_all}
use Rattle.std.specs.Int.{byte_at, bytes_high_first}
use Rattle.std.proofs.lemmas.Bool.{and_parts, ltb-true}
use Rattle.std.proofs.lemmas.List.Elements.{All-nil, All-cons, All-append, All-replicate}
use Rattle.labelled_disk.specs.Label.{root_label}
use Rattle.labelled_disk.specs.Sectors.{IsSector}
use Rattle.volume_root.specs.declared.root.Root.{Root}
use Rattle.volume_root.specs.RootPage.{number_bytes, root_fields, root_bytes}

byte_fits : (k n : ℕ) → byte_at k n < 256
byte_fits zero n = omega arith
byte_fits (suc k) n = omega arith

big_fit : (k n : ℕ) → All (λ b. b < 256) (bytes_high_first k n)
big_fit zero n = All-nil (λ (b : ℕ). b < 256)
big_fit (suc k) n = All-cons (λ (b : ℕ). b < 256) (byte_at k n) (bytes_high_first k n) (byte_fits k n) (big_fit k n)

all_fit : (bytes : List ℕ) → list_all (λ b. nat_lt b 256) bytes ≡ true → All (λ b. b < 256) bytes
all_fit [] is = All-nil (λ (b : ℕ). b < 256)
all_fit (b ∷ bytes) is =
    let parts = and_parts (nat_lt b 256) (list_all (λ b. nat_lt b 256) bytes) is in
    All-cons (λ (b : ℕ). b < 256) b bytes (ltb-true b 256 parts.0) (all_fit bytes parts.1)

numbers_fit : (root : Root) → All (λ b. b < 256) (number_bytes root)
numbers_fit root =
    All-append (λ (b : ℕ). b < 256) (bytes_high_first 4 root.sectors ++ bytes_high_first 4 root.serial) (bytes_high_first 4 root.counter)
    (All-append (λ (b : ℕ). b < 256) (bytes_high_first 4 root.sectors) (bytes_high_first 4 root.serial) (big_fit 4 root.sectors) (big_fit 4 root.serial)) (big_fit 4 root.counter)

fields_fit : (root : Root) → All (λ b. b < 256) (root_fields root)
fields_fit root =
    All-append (λ (b : ℕ). b < 256) (codes "PILOTVOL" ++ bytes_high_first 2 root.version ++ bytes_high_first 2 (if root.clean then 1 else 0)) (number_bytes root)
    (All-append (λ (b : ℕ). b < 256) (codes "PILOTVOL" ++ bytes_high_first 2 root.version) (bytes_high_first 2 (if root.clean then 1 else 0))
    (All-append (λ (b : ℕ). b < 256) (codes "PILOTVOL") (bytes_high_first 2 root.version) (all_fit (codes "PILOTVOL") refl) (big_fit 2 root.version))
    (big_fit 2 (if root.clean then 1 else 0)))
    (numbers_fit root)

pub root_in_form : (root : Root) → IsSector (root_label, root_bytes root)
root_in_form root = record {
  id_fits = omega arith;
  page_fits = omega arith;
  kind_fits = omega arith;
  flags_fit = omega arith;
  last_fits = omega arith;
  whole_page = refl;
  bytes = All-append (λ (b : ℕ). b < 256) (root_fields root) (replicate 488 0) (fields_fit root) (All-replicate (λ b. b < 256) 488 0 (omega arith));
}
