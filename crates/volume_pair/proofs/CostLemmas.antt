-- How many transfers a call takes.
use Rattle.std.proofs.Common.{◌≡◌, ℕ, ◌+◌, ◌*◌, ◌≤◌, ◌<◌, min, List, Option, Some, Ok, sym, ◌∙◌, ap, subst, arith}
use Rattle.std.specs.Option.{option_map_or}
use Rattle.labelled_disk.specs.declared.layout.Layout.{Layout}
use Rattle.labelled_disk.specs.File.{File, size}
use Rattle.filer_kernel.specs.View.{View}
use Rattle.file_manager.specs.declared.attributes.Attributes.{Attributes}
use Rattle.pair_machine.specs.Pair.{Pair}
use Rattle.volume_pair.specs.Comparing.{AreSizes}
use Rattle.volume_pair.specs.Copying.{IsOriginal}
use Rattle.volume_pair.specs.Costs.{Spends, SpendsOnFile, making, size_in}

-- where the file was looked for alone
pub spends_little : (pages more : ℕ) (from to v w : View) → v.disk.transfers ≤ from.disk.transfers + 29 → w.disk.transfers ≤ to.disk.transfers + 29 → Spends pages more from to v w
spends_little pages more from to v w first second = record { from_spends = wide _ _ (15 * pages) first; to_spends = wider _ _ (15 * pages) more second }
  where
    wide : (a b n : ℕ) → b ≤ a + 29 → b ≤ a + (29 + n)
    wide a b n less = omega (arith, less)

    wider : (a b n m : ℕ) → b ≤ a + 29 → b ≤ a + (29 + n + m)
    wider a b n m less = omega (arith, less)

pub stays_little : (a : ℕ) → a ≤ a + 29
stays_little a = omega arith

-- so many pages more
after_pages : (a b d p n : ℕ) → b ≤ a + 29 → d ≤ b + 15 * p → p ≤ n → d ≤ a + (29 + 15 * n)
after_pages a b d p n first next few = omega (arith, first, next, few)

beside_pages : (a b d p n m : ℕ) → b ≤ a + 29 → d ≤ b + 15 * p → p ≤ n → d ≤ a + (29 + 15 * n + m)
beside_pages a b d p n m first next few = omega (arith, first, next, few)

least : (n a b : ℕ) → n ≡ min a b → n ≤ a
least n a b is = omega (arith, is)

pub compare_spends : (fs gs : List File) (id here there n : ℕ) (from to from1 to1 v w : View) → AreSizes fs gs id (Some (here, there)) → n ≡ min here there → from1.disk.transfers ≤ from.disk.transfers + 29 → to1.disk.transfers ≤ to.disk.transfers + 29
    → v.disk.transfers ≤ from1.disk.transfers + 15 * n → w.disk.transfers ≤ to1.disk.transfers + 15 * n → Spends (size_in fs id) 0 from to v w
compare_spends fs gs id here there n from to from1 to1 v w sizes is a b c d =
    let own : size_in fs id ≡ size sizes.0 = ap (λ (o : Option File). option_map_or size o 0) sizes.2.from in
    let few : n ≤ size_in fs id = subst (λ (k : ℕ). n ≤ k) (sizes.3 ∙ sym own) (least n here there is) in
    record {
      from_spends = after_pages from.disk.transfers from1.disk.transfers v.disk.transfers n (size_in fs id) a c few;
      to_spends = beside_pages to.disk.transfers to1.disk.transfers w.disk.transfers n (size_in fs id) 0 b d few;
    }

-- a comparison takes no more than a copy might
pub compare_less : (p : Pair) (id : ℕ) (from to v w : View) → Spends (size_in p.from id) 0 from to v w → SpendsOnFile p id from to v w
compare_less p id from to v w h = record { from_spends = h.from_spends; to_spends = more to.disk.transfers w.disk.transfers (15 * size_in p.from id) (making to.layout (size_in p.from id)) h.to_spends }
  where
    more : (a b n m : ℕ) → b ≤ a + (29 + n + 0) → b ≤ a + (29 + n + m)
    more a b n m less = omega (arith, less)

-- ---- A copy.

-- the pages of the original
pub copy_spends : (p : Pair) (id : ℕ) (file : Attributes) → IsOriginal p.from id (Ok file) → (from to from1 to1 v w : View) → to1.layout ≡ to.layout → from1.disk.transfers ≤ from.disk.transfers + 29 → to1.disk.transfers ≤ to.disk.transfers + 29
    → v.disk.transfers ≤ from1.disk.transfers + 15 * file.pages → w.disk.transfers ≤ to1.disk.transfers + (making to1.layout file.pages + 15 * file.pages) → SpendsOnFile p id from to v w
copy_spends p id file original from to from1 to1 v w layout a b c d =
    let own : file.pages ≡ size_in p.from id = sym original.3 ∙ sym (ap (λ (o : Option File). option_map_or size o 0) original.1) in
    let made : w.disk.transfers ≤ to1.disk.transfers + (making to.layout file.pages + 15 * file.pages) = subst (λ (l : Layout). w.disk.transfers ≤ to1.disk.transfers + (making l file.pages + 15 * file.pages)) layout d in
    subst (λ (n : ℕ). Spends n (making to.layout n) from to v w) own (record {
      from_spends = pages from.disk.transfers from1.disk.transfers v.disk.transfers (15 * file.pages) a c;
      to_spends = all to.disk.transfers to1.disk.transfers w.disk.transfers (15 * file.pages) (making to.layout file.pages) b made;
    })
  where
    pages : (a b d n : ℕ) → b ≤ a + 29 → d ≤ b + n → d ≤ a + (29 + n)
    pages a b d n first next = omega (arith, first, next)

    all : (a b d n m : ℕ) → b ≤ a + 29 → d ≤ b + (m + n) → d ≤ a + (29 + n + m)
    all a b d n m first next = omega (arith, first, next)

-- the file is made, gets so many pages, and is sealed
pub made_spends : (a b n p : ℕ) → b ≤ a + n → b ≤ a + (n + 32 + 15 * p)
made_spends a b n p first = omega (arith, first)

pub filled_spends : (a b d n p : ℕ) → b ≤ a + n → d ≤ b + 15 * p → d ≤ a + (n + 32 + 15 * p)
filled_spends a b d n p first next = omega (arith, first, next)

pub sealed_spends : (a b d e n p : ℕ) → b ≤ a + n → d ≤ b + 15 * p → e ≤ d + 32 → e ≤ a + (n + 32 + 15 * p)
sealed_spends a b d e n p first next last = omega (arith, first, next, last)

-- ---- Page by page.

pub spends_none : (a : ℕ) → a ≤ a + 15 * 0
spends_none a = omega arith

pub spends_page : (a b d p : ℕ) → b ≤ a + 15 * p → d ≤ b + 15 → d ≤ a + 15 * (p + 1)
spends_page a b d p first next = omega (arith, first, next)

pub spends_first : (a b d p n : ℕ) → b ≤ a + 15 * p → d ≤ b + 15 → p < n → d ≤ a + 15 * n
spends_first a b d p n first next few = omega (arith, first, next, few)
