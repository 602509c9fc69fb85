-- What the windows of a document spend, put together.
use Rattle.std.proofs.Common.{◌≡◌, ◌∙◌, ◌≤◌, ◌<◌, ◌+◌, ◌-◌, ◌*◌, ◌/◌, ◌%◌, ◌^◌, ℕ, min, ap, sym, subst, refl, arith, List, ◌++◌, length, length-append, Option, Some, None, add-mul, mul_comm, mul-add, mul-le-mul_left, lt_of_mul-lt-mul_right}
use Rattle.std.specs.Int.{div_ceil}
use Rattle.std.specs.Io.KnownBytes.{Consumes}
use Rattle.std.proofs.lemmas.Grind.{div_ceil_times}
use Rattle.labelled_disk.specs.declared.disk.Disk.{Ghosts}
use Rattle.embedded.specs.declared.engine.Engine.{Engine}
use Rattle.embedded.specs.Spending.{Spends, SpendsOn}
use Rattle.embedded.proofs.SpendLemmas.{spends_none, spends_then, spends_within}
use Rattle.documents.specs.Spent.{windows}

-- Numbers.

-- an address of a page
pub even_address : (n : ℕ) → (n * 512) % 2 ^ 32 % 512 ≡ 0
even_address n = omega arith

-- pages that so many bytes fill, or begin
pub pages_up : (pieces bytes : ℕ) → 512 * pieces ≤ bytes + 511 → pieces ≤ div_ceil bytes 512
pages_up pieces bytes few = omega (arith, few)

pub pages_most : (bytes : ℕ) → 512 * div_ceil bytes 512 ≤ bytes + 511
pages_most bytes = omega arith

pub pages_whole : (bytes : ℕ) → bytes % 512 ≡ 0 → 512 * div_ceil bytes 512 ≡ bytes
pages_whole bytes whole = omega (arith, whole)

-- as many as do not begin behind the end are no more than fill it
few_up : (w b r d : ℕ) → r * w < b + r → b ≤ d * r → w ≤ d
few_up w b r d below most =
    let less : w * r < (d + 1) * r = omega (arith, below, most, mul_comm r w, add-mul d 1 r) in
    omega (arith, lt_of_mul-lt-mul_right r less)

pub windows_up : (w bytes room : ℕ) → 0 < room → room * w < bytes + room → w ≤ div_ceil bytes room
windows_up w bytes room some below = few_up w bytes room (div_ceil bytes room) below (div_ceil_times bytes room some).0

one_more : (each w : ℕ) → each * (w + 1) ≡ each * w + each
one_more each w = omega (arith, mul-add each w 1)

-- Engines.

module _ {D A : Type 0} {G : Ghosts D} where
  -- pages of a file were shown, and loaded or stored, and hidden
  pub window_spends : (address bytes : ℕ) (a b c d : Engine D A G) → address % 512 ≡ 0 → Spends 2 0 a b → SpendsOn (address % 512 + bytes) b c → Spends 2 0 c d
      → Spends 4 (div_ceil bytes 512) a d
  window_spends address bytes a b c d even first moved last =
      let few = pages_up moved.0 bytes (omega (arith, moved.1, even)) in
      spends_then 2 moved.0 2 0 4 (div_ceil bytes 512) a c d (omega arith) (omega (arith, few))
      (spends_then 2 0 0 moved.0 2 moved.0 a b c (omega arith) (omega arith) first moved.2) last

  -- So many bytes went through windows as long as this room, which is of whole pages, and so many are left. Each window took so
  -- many calls.
  pub record SpentWindows (each room done left : ℕ) (old new : Engine D A G) : Type 0 where
    pub count : ℕ
    pub pieces : ℕ
    pub even_count : 0 < left → room * count ≤ done
    pub even_pieces : 0 < left → 512 * pieces ≤ done
    pub few_count : room * count < done + room
    pub few_pieces : 512 * pieces ≤ done + 511
    pub spends : Spends (each * count) pieces old new

  pub windows_none : (each room left : ℕ) (a : Engine D A G) → 0 < room → SpentWindows each room 0 left a a
  windows_none each room left a some = record {
    count = 0;
    pieces = 0;
    even_count = λ more. omega arith;
    even_pieces = λ more. omega arith;
    few_count = omega (arith, some);
    few_pieces = omega arith;
    spends = spends_none (each * 0) 0 a;
  }

  one_window : (each count pieces bytes : ℕ) (a b c : Engine D A G) → Spends (each * count) pieces a b → Spends each (div_ceil bytes 512) b c
      → Spends (each * (count + 1)) (pieces + div_ceil bytes 512) a c
  one_window each count pieces bytes a b c had one =
      spends_then (each * count) pieces each (div_ceil bytes 512) (each * (count + 1)) (pieces + div_ceil bytes 512) a b c
      (omega (arith, one_more each count)) (omega arith) had one

  -- one window more, which is full where bytes are left after it
  pub windows_then : (each room done left n : ℕ) (a b c : Engine D A G) → room % 512 ≡ 0 → 1 ≤ n → n ≤ left → n ≤ room → (n < left → n ≡ room)
      → SpentWindows each room done left a b → Spends each (div_ceil n 512) b c → SpentWindows each room (done + n) (left - n) a c
  windows_then each room done left n a b c whole some within fits full had one =
      let more : 0 < left = omega (arith, some, within) in
      record {
        count = had.count + 1;
        pieces = had.pieces + div_ceil n 512;
        even_count = λ rest. omega (arith, one_more room had.count, had.even_count more, full (omega (arith, rest)));
        even_pieces = λ rest.
            let is = full (omega (arith, rest)) in
            omega (arith, had.even_pieces more, pages_whole n (omega (arith, is, whole)));
        few_count = omega (arith, one_more room had.count, had.even_count more, some);
        few_pieces = omega (arith, had.even_pieces more, pages_most n);
        spends = one_window each had.count had.pieces n a b c had.spends one;
      }

  -- so much was spent on bytes that are no more than these
  pub windows_end : (each room done left most : ℕ) (a b : Engine D A G) → 0 < room → done ≤ most → SpentWindows each room done left a b
      → Spends (each * div_ceil most room) (div_ceil most 512) a b
  windows_end each room done left most a b some within had =
      let few = windows_up had.count most room some (omega (arith, had.few_count, within)) in
      spends_within (each * had.count) had.pieces (each * div_ceil most room) (div_ceil most 512) a b
      (mul-le-mul_left each few) (pages_up had.pieces most (omega (arith, had.few_pieces, within))) had.spends

  -- the same after one window more
  pub windows_stop : (each room done left n most : ℕ) (a b c : Engine D A G) → 0 < room → 1 ≤ n → n ≤ left → done + n ≤ most
      → SpentWindows each room done left a b → Spends each (div_ceil n 512) b c → Spends (each * div_ceil most room) (div_ceil most 512) a c
  windows_stop each room done left n most a b c some one within fits had last =
      let more : 0 < left = omega (arith, one, within) in
      let few = windows_up (had.count + 1) most room some (omega (arith, one_more room had.count, had.even_count more, one, fits)) in
      spends_within (each * (had.count + 1)) (had.pieces + div_ceil n 512) (each * div_ceil most room) (div_ceil most 512) a c
      (mul-le-mul_left each few) (pages_up (had.pieces + div_ceil n 512) most (omega (arith, had.even_pieces more, pages_most n, fits)))
      (one_window each had.count had.pieces n a b c had.spends last)

-- Sources.

-- what a source that tells has left after bytes were taken
pub left_told : (xs bs : List ℕ) (o : Option (List ℕ)) → Consumes (Some xs) o bs → (ys : List ℕ) × (o ≡ Some ys) × (length bs + length ys ≡ length xs)
left_told xs bs None taken = absurd taken
left_told xs bs (Some ys) taken = (ys, refl, sym (ap length taken ∙ length-append bs ys))

module _ {D A : Type 0} {G : Ghosts D} where
  -- Where the source told what it had left: so many bytes of it were appended, so many are at hand, and it tells the rest.
  abbrev pub AppendedSoFar : ℕ → ℕ → ℕ → Option (List ℕ) → Option (List ℕ) → Engine D A G → Engine D A G → Type 0
  AppendedSoFar room done count was now old new = (xs : List ℕ) → was ≡ Some xs
      → (ys : List ℕ) × (now ≡ Some ys) × (done + count + length ys ≡ length xs) × SpentWindows 5 room done (count + length ys) old new

  pub appended_first : (room count : ℕ) (was now : Option (List ℕ)) (bs : List ℕ) (a : Engine D A G) → 0 < room → length bs ≡ count → Consumes was now bs
      → AppendedSoFar room 0 count was now a a
  appended_first room count was now bs a some long taken = λ xs is.
      let rest = left_told xs bs now (subst (λ (o : Option (List ℕ)). Consumes o now bs) is taken) in
      (rest.0, rest.1, omega (arith, rest.2, long), windows_none 5 room (count + length rest.0) a some)

  pub appended_then : (room done count next : ℕ) (was between now : Option (List ℕ)) (bs : List ℕ) (a b c : Engine D A G) → room % 512 ≡ 0 → 1 ≤ count
      → count ≡ room → length bs ≡ next → AppendedSoFar room done count was between a b → Spends 5 (div_ceil count 512) b c → Consumes between now bs
      → AppendedSoFar room (done + count) next was now a c
  appended_then room done count next was between now bs a b c whole some full long had one taken = λ xs is.
      let h = had xs is in
      let rest = left_told h.0 bs now (subst (λ (o : Option (List ℕ)). Consumes o now bs) h.1 taken) in
      let left : count + length h.0 - count ≡ next + length rest.0 = omega (arith, rest.2, long) in (
        rest.0,
        rest.1,
        omega (arith, h.2, rest.2, long),
        subst (λ (n : ℕ). SpentWindows 5 room (done + count) n a c) left
            (windows_then 5 room done (count + length h.0) count a b c whole some (omega arith) (omega (arith, full)) (λ more. full) h.3 one),
      )

  pub appended_end : (room done count : ℕ) (was now : Option (List ℕ)) (a b : Engine D A G) → 0 < room → AppendedSoFar room done count was now a b
      → (xs : List ℕ) → was ≡ Some xs → Spends (5 * div_ceil (length xs) room) (div_ceil (length xs) 512) a b
  appended_end room done count was now a b some had xs is =
      let h = had xs is in
      windows_end 5 room done (count + length h.0) (length xs) a b some (omega (arith, h.2)) h.3

  pub appended_stop : (room done count : ℕ) (was now : Option (List ℕ)) (a b c : Engine D A G) → 0 < room → 1 ≤ count → AppendedSoFar room done count was now a b
      → Spends 5 (div_ceil count 512) b c → (xs : List ℕ) → was ≡ Some xs → Spends (5 * div_ceil (length xs) room) (div_ceil (length xs) 512) a c
  appended_stop room done count was now a b c some one had last xs is =
      let h = had xs is in
      windows_stop 5 room done (count + length h.0) count (length xs) a b c some one (omega arith) (omega (arith, h.2)) h.3 last
