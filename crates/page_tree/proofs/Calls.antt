-- Two calls in a row are one call, and a call may be said to spend more.
use Rattle.std.proofs.Common.{ℕ, ◌+◌, ◌*◌, ◌<◌, ◌≤◌, List, Result, Ok, Err, IfErr, arith}
use Rattle.std.proofs.lemmas.Nat.{mul-le}
use Rattle.flat_mem.specs.declared.memory.FlatMem.{Ghosts}
use Rattle.page_tree.specs.Answer.{IfMemNotFull}
use Rattle.page_tree.specs.Calls.{Looks, Works}
use Rattle.page_tree.specs.declared.error.TreeError.{TreeError}
use Rattle.page_tree.proofs.WalkLaws.{mem_wider}

pub cause_wider : {X T : Type 0} (P Q : X → Type 0) (answer : Result T (TreeError X)) → ((x : X) → P x → Q x) → IfErr answer (IfMemNotFull P) → IfErr answer (IfMemNotFull Q)
cause_wider P Q (Ok x) wider h = tt
cause_wider P Q (Err why) wider h = mem_wider P Q why wider h

pub looks_works : {M X : Type 0} (G : Ghosts M X) {T : Type 0} {a b : M} {m : ℕ} {first : Result T (TreeError X)} → Looks G m a b first → Works G m a b first
looks_works G looks = record { kept = looks.kept; cause = looks.cause; cost = looks.cost }

module _ {M X : Type 0} (G : Ghosts M X) {T U : Type 0} {a b : M} {m most : ℕ} {first : Result T (TreeError X)} {answer : Result U (TreeError X)} where
  pub looks_as : Looks G m a b first → IfErr answer (IfMemNotFull (G.accounted a b)) → G.spent b ≤ G.spent a + most → Looks G most a b answer
  looks_as looks cause cost = record { unchanged = looks.unchanged; kept = looks.kept; looked = looks.looked; cause = cause; cost = cost }

  pub works_as : Works G m a b first → IfErr answer (IfMemNotFull (G.accounted a b)) → G.spent b ≤ G.spent a + most → Works G most a b answer
  works_as works cause cost = record { kept = works.kept; cause = cause; cost = cost }

module _ {M X : Type 0} (G : Ghosts M X) (through : (a b c : M) → G.beside a b → G.beside b c → G.beside a c) (itself : (a : M) → G.beside a a)
    (wider : (a b c d : M) (e : X) → G.beside a b → G.beside b c → G.beside c d → G.accounted b c e → G.accounted a d e) {U V : Type 0} {a b c : M} {n most : ℕ} {second : Result U (TreeError X)} {answer : Result V (TreeError X)} where
  -- the memory was only read so far, and then comes another call that only reads
  pub looks_on : ((a b c : M) → G.only_reads a b → G.only_reads b c → G.only_reads a c) → ((x : List ℕ) → G.reveals a x → G.reveals b x) → G.beside a b → G.only_reads a b
      → Looks G n b c second → IfErr answer (IfMemNotFull (G.accounted b c)) → G.spent c ≤ G.spent a + most → Looks G most a c answer
  looks_on reads unchanged kept looked looks cause cost = record {
    unchanged = λ x h. looks.unchanged x (unchanged x h);
    kept = through a b c kept looks.kept;
    looked = reads a b c looked looks.looked;
    cause = cause_wider _ _ answer (λ x from. wider a b c c x kept looks.kept (itself c) from) cause;
    cost = cost;
  }

  -- what stands beside the bytes was kept so far, and then comes another call
  pub works_on : G.beside a b → Works G n b c second → IfErr answer (IfMemNotFull (G.accounted b c)) → G.spent c ≤ G.spent a + most → Works G most a c answer
  works_on kept works cause cost = record {
    kept = through a b c kept works.kept;
    cause = cause_wider _ _ answer (λ x from. wider a b c c x kept works.kept (itself c) from) cause;
    cost = cost;
  }

-- what the way down left over
pub within : (spent rest most : ℕ) → spent + rest ≤ most → spent ≤ most
within spent rest most had = omega (arith, had)

-- the first leaf, so many leaves after it, and perhaps one more
module _ (start first here passed pages cost : ℕ) (first_cost : first ≤ start + 6 * cost) (here_cost : here ≤ first + passed * (11 * cost)) where
  pub walk_done : passed ≤ pages → here ≤ start + (6 + 11 * pages) * cost
  walk_done few = omega (arith, first_cost, here_cost, mul-le passed (11 * cost) pages (11 * cost) few (omega arith))

  pub walk_most : (now : ℕ) → now ≤ here + 11 * cost → passed < pages → now ≤ start + (6 + 11 * pages) * cost
  walk_most now last few = omega (arith, first_cost, here_cost, last, mul-le (passed + 1) (11 * cost) pages (11 * cost) (omega (arith, few)) (omega arith))
