-- A cut in a loop over the records: what is left after so many steps, and what they cost.
use Rattle.std.proofs.Common.{◌≡◌, ◌⊎◌, inl, inr, ℕ, ◌+◌, ◌-◌, ◌*◌, ◌<◌, ◌≤◌, true, List, length, map, refl, sym, ◌∙◌, ap, subst, arith}
use Rattle.std.proofs.lemmas.Bool.{cases_lt}
use Rattle.std.proofs.lemmas.List.{length-map}
use Rattle.std.proofs.lemmas.Nat.{mul-le}
use Rattle.std.proofs.Math.Nat.{add-mul, mul_assoc}
use Rattle.file_map.specs.Edits.{IsShorter}
use Rattle.file_map.specs.FileMap.{AreNamed, IsSize, Triples, without_from}
use Rattle.file_map.specs.Run.{run_bytes}
use Rattle.file_map.proofs.Cutting.{none_to_cut, renamed}
use Rattle.file_map.proofs.Searches.{named_by}

-- After so many steps no page of the file is named from this end on: with each step the end comes nearer to 0, and the
-- first one may have taken the leader.
abbrev pub Ends : Triples → ℕ → ℕ → ℕ → Type 0
Ends now file size steps = (steps ≡ 0) ⊎ ((end : ℕ) × ((page sector : ℕ) → now file page sector ≡ true → page < end) × (steps + end ≤ size + 1))

-- So many records are left of those at the start, and the same triples would be left by a cut of what there is now.
pub record IsCutting (n : ℕ) (lists : List (List ℕ) → Type 0) (counts : ℕ → Type 0) (named : Triples) (file from start left : ℕ) : Type 0 where
  pub now : Triples
  pub map_is : AreNamed n lists now
  pub same : (id page sector : ℕ) → without_from now file from id page sector ≡ without_from named file from id page sector
  pub counted : counts left
  pub among : (page sector : ℕ) → now file page sector ≡ true → named file page sector ≡ true
  pub ends : (size : ℕ) → IsSize named file size → Ends now file size (start - left)

pub begin_cutting : (n : ℕ) (lists : List (List ℕ) → Type 0) (counts : ℕ → Type 0) (named : Triples) (file from left : ℕ) → AreNamed n lists named → counts left → IsCutting n lists counts named file from left left
begin_cutting n lists counts named file from left map_is counted = record {
  now = named;
  map_is = map_is;
  same = λ id page sector. refl;
  counted = counted;
  among = λ page sector h. h;
  ends = λ size is. inl (omega arith);
}

-- a step nearer
nearer : (now later named : Triples) (file size steps page sector : ℕ) → IsSize named file size → ((p s : ℕ) → now file p s ≡ true → named file p s ≡ true) → ((p s : ℕ) → later file p s ≡ true → now file p s ≡ true)
    → now file page sector ≡ true → page ≤ 4294967295 → ((p s : ℕ) → later file p s ≡ true → p < page) → Ends now file size steps → Ends later file size (steps + 1)
nearer now later named file size steps page sector is among fewer was high before (inl none) = elim (cases_lt page 4294967295) [
  | inl low ↦ let less = is.highest page sector (among page sector was) low in inr (page, before, omega (arith, less, none))
  | inr leader ↦
      inr (size, λ p s h. let less = before p s h in is.highest p s (among p s (fewer p s h)) (omega (arith, less, high)), omega (arith, none))
]
nearer now later named file size steps page sector is among fewer was high before (inr (end, past, few)) = let less = past page sector was in inr (page, before, omega (arith, less, few))

pub cut_more : (n : ℕ) (lists : List (List ℕ) → Type 0) (counts : ℕ → Type 0) {earlier : List (List ℕ) → Type 0} {counted : ℕ → Type 0} (named : Triples) (file from start left : ℕ) → left ≤ start → (at : IsCutting n earlier counted named file from start left)
    → IsShorter n lists counts at.now file from left → IsCutting n lists counts named file from start (left - 1)
cut_more n lists counts named file from start left some at short = record {
  now = short.now;
  map_is = short.map_is;
  same = λ id page sector. short.same id page sector ∙ at.same id page sector;
  counted = let is : short.left ≡ left - 1 = omega (arith, short.fewer) in subst counts is short.counted;
  among = λ page sector h. at.among page sector (short.among page sector h);
  ends = λ size is.
      let steps : (start - left) + 1 ≡ start - (left - 1) = omega (arith, some, short.fewer) in
      subst (Ends short.now file size) steps (nearer at.now short.now named file size (start - left) short.page short.sector is at.among short.among short.was short.high short.before (at.ends size is));
}

-- so there are few steps
pub few_steps : (now : Triples) (file size steps : ℕ) → Ends now file size steps → steps ≤ size + 1
few_steps now file size steps (inl none) = omega (arith, none)
few_steps now file size steps (inr (end, past, few)) = omega (arith, few)

-- a map without records names nothing
pub cut_all : (n : ℕ) (lists : List (List ℕ) → Type 0) (counts : ℕ → Type 0) (named : Triples) (file from : ℕ) → ((xs : List (List ℕ)) → lists xs → counts (length xs)) → ((i j : ℕ) → counts i → counts j → i ≡ j)
    → (start : ℕ) → IsCutting n lists counts named file from start 0 → AreNamed n lists (without_from named file from)
cut_all n lists counts named file from count once start at = renamed n lists at.now (without_from named file from) at.map_is (λ id page sector.
    sym (at.same id page sector) ∙ none_to_cut at.now file from (λ p s low h.
    let by = named_by at.map_is.runs file p s (sym (at.map_is.are file p s) ∙ h) in
    let none : length (map run_bytes at.map_is.runs) ≡ 0 = once _ _ (count (map run_bytes at.map_is.runs) at.map_is.listed) at.counted in
    omega (arith, none, length-map at.map_is.runs run_bytes, by.below)) id page sector)

pub cut_paid : (cost left most spent after start : ℕ) → 0 < left → after ≤ spent + cost → spent + left * cost ≤ start + most * cost → after + (left - 1) * cost ≤ start + most * cost
cut_paid cost left most spent after start some paid had =
    let split : left * cost ≡ (left - 1) * cost + cost = turn in
    omega (arith, split, paid, had)
  where
    turn : left * cost ≡ (left - 1) * cost + cost
    turn = let is : left ≡ (left - 1) + 1 = omega (arith, some) in ap (λ (x : ℕ). x * cost) is ∙ add-mul (left - 1) 1 cost ∙ omega arith

pub begin_paid : (cost left most start : ℕ) → left ≤ most → start + left * cost ≤ start + most * cost
begin_paid cost left most start few = omega (arith, mul-le left cost most cost few (omega arith))

-- in accesses of a tree
pub cut_spent : (most c before after : ℕ) → after ≤ before + c + most * (7 * c + 8 * c + 36 * c) → after ≤ before + (1 + most * (7 + 8 + 36)) * c
cut_spent most c before after paid =
    let each : most * (7 * c + 8 * c + 36 * c) ≡ most * 51 * c = ap (λ (x : ℕ). most * x) (omega arith) ∙ sym (mul_assoc most 51 c) in
    omega (arith, paid, each)

-- a step was paid
pub step_paid : (cost start left spent after began : ℕ) → 0 < left → left ≤ start → after ≤ spent + cost → spent ≤ began + (start - left) * cost → after ≤ began + (start - (left - 1)) * cost
step_paid cost start left spent after began some few paid had =
    let turn : (start - (left - 1)) * cost ≡ (start - left) * cost + cost = (let is : start - (left - 1) ≡ (start - left) + 1 = omega (arith, some, few) in ap (λ (x : ℕ). x * cost) is ∙ add-mul (start - left) 1 cost ∙ omega arith) in
    omega (arith, turn, paid, had)

-- what few steps and one more cost
pub steps_paid : (cost steps size spent after began : ℕ) → steps ≤ size + 1 → after ≤ spent + cost → spent ≤ began + steps * cost → after ≤ began + (size + 2) * cost
steps_paid cost steps size spent after began few paid had =
    let most : steps * cost ≤ (size + 1) * cost = mul-le steps cost (size + 1) cost few (omega arith) in
    let more : (size + 2) * cost ≡ (size + 1) * cost + cost = (let is : size + 2 ≡ (size + 1) + 1 = omega arith in ap (λ (x : ℕ). x * cost) is ∙ add-mul (size + 1) 1 cost ∙ omega arith) in
    omega (arith, most, more, paid, had)
