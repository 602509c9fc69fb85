use Rattle.std.proofs.Common.{◌+◌, ◌≤◌, ℕ, arith, refl, ◌≡◌, ◌⊎◌, ◌<◌, ◌-◌, inl, inr, List, true, false, sym, ◌∙◌, ap}
use Rattle.alloc_map.specs.Pages.{pages_to, pages_between}
use Rattle.alloc_map.proofs.Spending.{pages_of_part, spent_taken}
use Rattle.std.proofs.lemmas.Bool.{cases_lt, false≢true}
use Rattle.alloc_map.specs.Bits.{is_used, AreAll}
use Rattle.alloc_map.proofs.map.AllocMap.take.Goals as goal

first_and_rest : (b : List ℕ) (from end : ℕ) → is_used b from ≡ false → AreAll false b (from + 1) end → AreAll false b from end
first_and_rest b from end first rest = λ s above below. elim (cases_lt from s) [
  | inl more ↦ rest s (omega (arith, more)) below
  | inr not ↦ let here : s ≡ from = omega (arith, not, above) in ap (is_used b) here ∙ first
]

still_used : (b now : List ℕ) (from end : ℕ) → AreAll false b from end → ((s : ℕ) → (s < from) ⊎ (end ≤ s) → is_used now s ≡ is_used b s) → (s : ℕ) → is_used b s ≡ true → is_used now s ≡ true
still_used b now from end free same s is = elim (cases_lt s from) [
  | inl low ↦ same s (inl low) ∙ is
  | inr above ↦ elim (cases_lt s end) [
    | inl below ↦ absurd (false≢true (sym (free s above below) ∙ is))
    | inr high ↦ same s (inr high) ∙ is
  ]
]

pub returns-in-Err-find-clause-cost : goal.returns-in-Err-find-clause-cost
returns-in-Err-find-clause-cost g c =
    let sectors = c.args.self.now.sectors in
    let limit : ℕ = c.in-Ok.sector + c.min.result in
    let inside : limit ≤ sectors = omega (arith, c.min.ensures, c.in-Ok.ensures.range.1) in
    spent_taken (pages_to sectors) (pages_between (c.in-Ok.sector + 1) limit) 0 (pages_to sectors) g.M.FlatMem.cost _ _ _ _
    (omega arith) (pages_of_part _ limit sectors inside) (omega arith) c.find_free.ensures.cost c.find.ensures.cost (omega arith)

pub returns-in-Ok-set_range-clause-cost : goal.returns-in-Ok-set_range-clause-cost
returns-in-Ok-set_range-clause-cost g c =
    let sectors = c.args.self.now.sectors in
    let end = c.in-Ok-find.end in
    let limit : ℕ = c.in-Ok.sector + c.min.result in
    let inside : limit ≤ sectors = omega (arith, c.min.ensures, c.in-Ok.ensures.range.1) in
    spent_taken (pages_to sectors) (pages_between (c.in-Ok.sector + 1) limit) (pages_between c.in-Ok.sector end) (pages_to sectors) g.M.FlatMem.cost _ _ _ _
    (omega arith) (pages_of_part _ limit sectors inside) (pages_of_part _ end sectors (omega (arith, inside, c.in-Ok-find.ensures.range.1)))
    c.find_free.ensures.cost c.find.ensures.cost c.set_range.ensures.cost

pub returns-in-Err-set_range-clause-cost : goal.returns-in-Err-set_range-clause-cost
returns-in-Err-set_range-clause-cost g c =
    let sectors = c.args.self.now.sectors in
    let end = c.in-Ok-find.end in
    let limit : ℕ = c.in-Ok.sector + c.min.result in
    let inside : limit ≤ sectors = omega (arith, c.min.ensures, c.in-Ok.ensures.range.1) in
    spent_taken (pages_to sectors) (pages_between (c.in-Ok.sector + 1) limit) (pages_between c.in-Ok.sector end) (pages_to sectors) g.M.FlatMem.cost _ _ _ _
    (omega arith) (pages_of_part _ limit sectors inside) (pages_of_part _ end sectors (omega (arith, inside, c.in-Ok-find.ensures.range.1)))
    c.find_free.ensures.cost c.find.ensures.cost c.set_range.ensures.cost

pub returns-in-Err-clause-cost : goal.returns-in-Err-clause-cost
returns-in-Err-clause-cost g c = spent_taken (pages_to c.args.self.now.sectors) 0 0 (pages_to c.args.self.now.sectors) g.M.FlatMem.cost _ _ (g.M.FlatMem.spent c.find_free.new.mem) _ (omega arith) (omega arith) (omega arith) c.find_free.ensures.cost (omega arith) (omega arith)

pub returns-then-sector-self-clause-cost : goal.returns-then-sector-self-clause-cost
returns-then-sector-self-clause-cost g c = spent_taken (pages_to c.args.self.now.sectors) 0 0 (pages_to c.args.self.now.sectors) g.M.FlatMem.cost _ _ (g.M.FlatMem.spent c.find_free.new.mem) _ (omega arith) (omega arith) (omega arith) c.find_free.ensures.cost (omega arith) (omega arith)

pub returns-in-Err-find-clause-kept : goal.returns-in-Err-find-clause-kept
returns-in-Err-find-clause-kept g c = g.met.M.FlatMem.beside_through _ _ _ c.find_free.ensures.kept c.find.ensures.kept

pub returns-in-Ok-set_range-clause-kept : goal.returns-in-Ok-set_range-clause-kept
returns-in-Ok-set_range-clause-kept g c = g.met.M.FlatMem.beside_through _ _ _ (g.met.M.FlatMem.beside_through _ _ _ c.find_free.ensures.kept c.find.ensures.kept) c.set_range.ensures.kept

pub returns-in-Err-set_range-clause-kept : goal.returns-in-Err-set_range-clause-kept
returns-in-Err-set_range-clause-kept g c = g.met.M.FlatMem.beside_through _ _ _ (g.met.M.FlatMem.beside_through _ _ _ c.find_free.ensures.kept c.find.ensures.kept) c.set_range.ensures.kept

pub returns-in-Err-find-clause-cause : goal.returns-in-Err-find-clause-cause
returns-in-Err-find-clause-cause g c = g.met.M.FlatMem.accounted_wider _ _ _ _ c.in-Err-find.error c.find_free.ensures.kept c.find.ensures.kept (g.met.M.FlatMem.beside_itself _) c.in-Err-find.ensures.cause

pub returns-in-Err-set_range-clause-cause : goal.returns-in-Err-set_range-clause-cause
returns-in-Err-set_range-clause-cause g c = g.met.M.FlatMem.accounted_wider _ _ _ _ c.in-Err-set_range.error (g.met.M.FlatMem.beside_through _ _ _ c.find_free.ensures.kept c.find.ensures.kept) c.set_range.ensures.kept (g.met.M.FlatMem.beside_itself _) c.in-Err-set_range.ensures.cause

pub returns-in-Err-clause-others : goal.returns-in-Err-clause-others
returns-in-Err-clause-others g c = λ b h. record { now = b; revealed = c.find_free.ensures.unchanged b h; same_length = refl; outside = λ s out. refl; used = λ s is. is }

pub returns-then-sector-self-clause-others : goal.returns-then-sector-self-clause-others
returns-then-sector-self-clause-others g c = λ b h. record { now = b; revealed = c.find_free.ensures.unchanged b h; same_length = refl; outside = λ s out. refl; used = λ s is. is }

pub returns-in-Err-find-clause-others : goal.returns-in-Err-find-clause-others
returns-in-Err-find-clause-others g c = λ b h. record { now = b; revealed = c.find.ensures.unchanged b (c.find_free.ensures.unchanged b h); same_length = refl; outside = λ s out. refl; used = λ s is. is }

pub find-requires-clause-order : goal.find-requires-clause-order
find-requires-clause-order g c = omega (arith, c.min.ensures, c.in-Ok.ensures.range.1, c.if-sector-self.false, c.requires)

pub find-requires-clause-inside : goal.find-requires-clause-inside
find-requires-clause-inside g c = omega (arith, g.met.M.FlatMem.same_size _ _ c.find_free.ensures.kept, c.args.self.now.fits, c.min.ensures, c.in-Ok.ensures.range.1)

pub set_range-requires-clause-order : goal.set_range-requires-clause-order
set_range-requires-clause-order g c = omega (arith, c.in-Ok-find.ensures.range.0)

pub set_range-requires-clause-inside : goal.set_range-requires-clause-inside
set_range-requires-clause-inside g c = omega (arith, g.met.M.FlatMem.same_size _ _ c.find_free.ensures.kept, g.met.M.FlatMem.same_size _ _ c.find.ensures.kept, c.args.self.now.fits, c.min.ensures, c.in-Ok.ensures.range.1, c.in-Ok-find.ensures.range.1)

pub returns-then-sector-self-clause-no_room : goal.returns-then-sector-self-clause-no_room
returns-then-sector-self-clause-no_room g c = λ b h is. (c.in-Ok.ensures.free b h).none c.if-sector-self.true

pub returns-in-Ok-set_range-clause-form : goal.returns-in-Ok-set_range-clause-form
returns-in-Ok-set_range-clause-form g c = record {
  some = omega (arith, c.in-Ok-find.ensures.range.0);
  few = omega (arith, c.in-Ok-find.ensures.range, c.min.ensures);
  above = c.in-Ok.ensures.range.0;
  inside = omega (arith, c.in-Ok-find.ensures.range, c.min.ensures, c.in-Ok.ensures.range.1);
}

pub returns-in-Ok-set_range-clause-lowest : goal.returns-in-Ok-set_range-clause-lowest
returns-in-Ok-set_range-clause-lowest g c = λ b h all.
    let from = c.in-Ok.ensures.free b h in
    let inside : c.in-Ok.sector < c.args.self.now.sectors = omega (arith, c.in-Ok.ensures.range.1, c.if-sector-self.false) in
    record { above = c.in-Ok.ensures.range.0; inside = inside; free = from.free inside; before = from.lowest all }

pub returns-in-Ok-set_range-clause-longest : goal.returns-in-Ok-set_range-clause-longest
returns-in-Ok-set_range-clause-longest g c = λ b h.
    let from = c.in-Ok.ensures.free b h in
    let free : AreAll false b c.in-Ok.sector c.in-Ok-find.end = first_and_rest b c.in-Ok.sector c.in-Ok-find.end (from.free (omega (arith, c.in-Ok.ensures.range.1, c.if-sector-self.false))) (c.in-Ok-find.ensures.before b (c.find_free.ensures.unchanged b h)) in
    let there : c.in-Ok.sector + (c.in-Ok-find.end - c.in-Ok.sector) ≡ c.in-Ok-find.end = omega (arith, c.in-Ok-find.ensures.range.0) in
    record {
      free = rw there free;
      longest = λ few inside. rw there (c.in-Ok-find.ensures.found b (c.find_free.ensures.unchanged b h) (omega (arith, few, inside, c.in-Ok-find.ensures.range, c.min.ensures)));
    }

pub returns-in-Ok-set_range-clause-taken : goal.returns-in-Ok-set_range-clause-taken
returns-in-Ok-set_range-clause-taken g c = λ b h.
    let there : c.in-Ok.sector + (c.in-Ok-find.end - c.in-Ok.sector) ≡ c.in-Ok-find.end = omega (arith, c.in-Ok-find.ensures.range.0) in
    rw there (c.in-Ok-set_range.ensures.marked b (c.find.ensures.unchanged b (c.find_free.ensures.unchanged b h)))

pub returns-in-Err-set_range-clause-others : goal.returns-in-Err-set_range-clause-others
returns-in-Err-set_range-clause-others g c = λ b h.
    let from = c.in-Ok.ensures.free b h in
    let free : AreAll false b c.in-Ok.sector c.in-Ok-find.end = first_and_rest b c.in-Ok.sector c.in-Ok-find.end (from.free (omega (arith, c.in-Ok.ensures.range.1, c.if-sector-self.false))) (c.in-Ok-find.ensures.before b (c.find_free.ensures.unchanged b h)) in
    let o = c.in-Err-set_range.ensures.others b (c.find.ensures.unchanged b (c.find_free.ensures.unchanged b h)) in
    let most : c.in-Ok-find.end ≤ c.args.self.now.sectors = omega (arith, c.in-Ok-find.ensures.range.1, c.min.ensures, c.in-Ok.ensures.range.1) in
    record {
      now = o.now;
      revealed = o.revealed;
      same_length = o.same_length;
      outside = λ s out. o.others s (elim out [
        | inl low ↦ inl (omega (arith, low, c.in-Ok.ensures.range.0))
        | inr high ↦ inr (omega (arith, high, most))
      ]);
      used = still_used b o.now c.in-Ok.sector c.in-Ok-find.end free o.others;
    }
