-- A root that is written is valid, and is read back.
use Rattle.std.proofs.Common.{◌≡◌, ℕ, ◌<◌, ◌≤◌, ◌^◌, Bool, true, false, Some, Ok, refl, ◌∙◌, ap, arith, eqb, drop}
use Rattle.std.specs.Prelude.{if◌then◌else◌}
use Rattle.std.proofs.lemmas.List.Elements.{All-replicate}
use Rattle.byteorder.specs.Numbers.{big_number-reads_back}
use Rattle.labelled_disk.specs.Root.{IsRoot, short_at, number_at}
use Rattle.volume_root.specs.declared.root.Root.{Root}
use Rattle.volume_root.specs.RootPage.{IsValidRoot, root_bytes, root_in}
use Rattle.labelled_disk.specs.Label.{root_label}
use Rattle.volume_root.specs.RootLaws.{WrittenIsRead}
use Rattle.volume_root.proofs.RootLemmas.{passes}

abbrev pub flag_of : Bool → ℕ
flag_of b = if b then 1 else 0

flag_fits : (b : Bool) → flag_of b ≤ 1
flag_fits true = let e : flag_of true ≡ 1 = refl in omega (arith, e)
flag_fits false = let e : flag_of false ≡ 0 = refl in omega (arith, e)

is_flag : (b : Bool) → eqb (flag_of b) 1 ≡ b
is_flag true = refl
is_flag false = refl

module _ (root : Root) where
  version_read : root.version < 2 ^ 16 → short_at (root_bytes root) 8 ≡ root.version
  version_read fits = big_number-reads_back 2 root.version (drop 10 (root_bytes root)) (omega (arith, fits))

  pub flag_read : short_at (root_bytes root) 10 ≡ flag_of root.clean
  flag_read = big_number-reads_back 2 (flag_of root.clean) (drop 12 (root_bytes root)) (omega (arith, flag_fits root.clean))

  count_read : root.sectors < 2 ^ 32 → number_at (root_bytes root) 12 ≡ root.sectors
  count_read fits = big_number-reads_back 4 root.sectors (drop 16 (root_bytes root)) (omega (arith, fits))

  pub serial_read : root.serial < 2 ^ 32 → number_at (root_bytes root) 16 ≡ root.serial
  serial_read fits = big_number-reads_back 4 root.serial (drop 20 (root_bytes root)) (omega (arith, fits))

  pub counter_read : root.counter < 2 ^ 32 → number_at (root_bytes root) 20 ≡ root.counter
  counter_read fits = big_number-reads_back 4 root.counter (drop 24 (root_bytes root)) (omega (arith, fits))

pub is_root : (n : ℕ) (root : Root) → IsValidRoot n root → root.serial < 2 ^ 32 → root.counter < 2 ^ 32 → IsRoot n (Some (root_label, root_bytes root))
is_root n root valid serial counter =
    let v = version_read root (omega (arith, valid.version)) in
    let f = flag_read root in
    let b = flag_fits root.clean in
    let k = count_read root (omega (arith, valid.count, valid.accepted)) in
    let s = serial_read root serial in
    let c = counter_read root counter in
    record {
      accepted = valid.accepted;
      label = refl;
      magic = refl;
      version = v ∙ valid.version;
      flag = omega (arith, f, b);
      count = k ∙ valid.count;
      serial = omega (arith, s, valid.serial);
      counter = omega (arith, c, valid.counter);
      rest = All-replicate (λ b. b ≡ 0) 488 0 refl;
    }

abbrev root_with : ℕ → Bool → ℕ → ℕ → ℕ → Root
root_with v f k s c = record { version = v; clean = f; sectors = k; serial = s; counter = c }

pub root_read : (n : ℕ) (root : Root) → IsValidRoot n root → root.serial < 2 ^ 32 → root.counter < 2 ^ 32 → root_in (root_bytes root) ≡ root
root_read n root valid serial counter =
    let v = version_read root (omega (arith, valid.version)) in
    let f = ap (λ (k : ℕ). eqb k 1) (flag_read root) ∙ is_flag root.clean in
    let k = count_read root (omega (arith, valid.count, valid.accepted)) in
    let s = serial_read root serial in
    let c = counter_read root counter in
    same root (root_in (root_bytes root)) v f k s c
  where
    same : (a b : Root) → b.version ≡ a.version → b.clean ≡ a.clean → b.sectors ≡ a.sectors → b.serial ≡ a.serial → b.counter ≡ a.counter → b ≡ a
    same a b v f k s c = let parts : root_with b.version b.clean b.sectors b.serial b.counter ≡ root_with a.version a.clean a.sectors a.serial a.counter = rw (v, f, k, s, c) refl in parts

pub read_back : WrittenIsRead
read_back n root valid serial counter =
    let r = is_root n root valid serial counter in
    record { valid = r; read = passes n (root_label, root_bytes root) r ∙ ap (λ (x : Root). Ok x) (root_read n root valid serial counter) }
