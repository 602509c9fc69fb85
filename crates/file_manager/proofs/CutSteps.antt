-- A file is cut in the map, and its leader added again.
use Rattle.std.proofs.Common.{◌≡◌, inl, inr, ℕ, zero, suc, ◌+◌, ◌-◌, ◌^◌, ◌<◌, ◌≤◌, Bool, true, false, cond, not, ◌&&◌, refl, sym, ◌∙◌, ap, arith}
use Rattle.std.specs.Prelude.{◌==◌, nat_le, nat_lt, count_by}
use Rattle.std.specs.List.{range_with_len}
use Rattle.std.proofs.lemmas.Bool.{and_parts, eqb-true, eq-eqb, leb-true, true≢false, cases_lt}
use Rattle.std.proofs.lemmas.Bool.Decides.{nat_tests}
use Rattle.std.proofs.lemmas.List.FromFn.{length-range_with_len}
use Rattle.labelled_disk.specs.declared.layout.Layout.{Layout}
use Rattle.labelled_disk.specs.Label.{leader_page}
use Rattle.labelled_disk.specs.Layout.{first_data}
use Rattle.file_map.specs.Run.{IsRun}
use Rattle.file_map.specs.FileMap.{Triples, IsNew, without_from, most_records}
use Rattle.file_map.specs.Laws.{AreOnce, AreAmong, data_count}
use Rattle.swapper_kernel.specs.Homes.{IsLayout}
use Rattle.filer_kernel.specs.PlaceLaws.{data_first}
use Rattle.file_manager.specs.Shrinking.{IsLeaderAlone, leader_run}
use Rattle.file_manager.proofs.RunStages.{count_more, all_counted}

-- the leader's run
pub leader_in_form : (layout : Layout) (id leader : ℕ) → IsLayout layout → 16 ≤ id → id < 2 ^ 64 → layout.first ≤ leader → leader < layout.sectors → IsRun layout.sectors (leader_run id leader)
leader_in_form layout id leader is high fits above below =
    let first = data_first layout is in
    record {
      of_file = inr high;
      id_fits = fits;
      some = omega arith;
      pages_fit = omega arith;
      from_data = omega (arith, above, first);
      inside = omega (arith, below);
    }

-- one that is counted
some_counted : (p : ℕ → Bool) (a n k : ℕ) → a ≤ k → k < a + n → p k ≡ true → 1 ≤ count_by p (range_with_len a n)
some_counted p a zero k above below is = absurd (omega (arith, above, below))
some_counted p a (suc n) k above below is = here (p a) refl (λ past. some_counted p (a + 1) n k past (omega (arith, below)) is)
  where
    here : (b : Bool) → p a ≡ b → (a + 1 ≤ k → 1 ≤ count_by p (range_with_len (a + 1) n)) → 1 ≤ count_by p (range_with_len a (suc n))
    here true e after =
        let all = count_more p a (range_with_len (a + 1) n) in
        let one : ◌≡◌ {A = ℕ} (cond (p a) 1 0) 1 = ap (λ (b : Bool). cond b 1 0) e in
        omega (arith, all, one)
    here false e after =
        let all = count_more p a (range_with_len (a + 1) n) in
        let past : a + 1 ≤ k = elim (cases_lt a k) [
          | inl less ↦ omega (arith, less)
          | inr more ↦ let same : k ≡ a = omega (arith, above, more) in absurd (true≢false (sym is ∙ ap p same ∙ e))
        ] in
        let rest = after past in
        omega (arith, all, rest)

-- without the leader's sector the data sectors are fewer than the map may have records
pub few_left : (n leader : ℕ) → first_data n ≤ leader → leader < n → data_count n (λ k. not (k == leader)) < most_records n
unfolding first_data
few_left n leader above below =
    let all = all_counted (λ k. k == leader) (range_with_len (first_data n) (n - first_data n)) in
    let long = length-range_with_len (first_data n) (n - first_data n) in
    let one = some_counted (λ k. k == leader) (first_data n) (n - first_data n) leader above (omega (arith, above, below)) (eq-eqb leader leader refl) in
    omega (arith, all, long, one, above, below)

module _ (named : Triples) (id from leader : ℕ) where
  and_false : (b : Bool) → (b && false) ≡ false
  and_false true = refl
  and_false false = refl

  gone_false : (i p s : ℕ) → i ≡ id → from ≤ p → without_from named id from i p s ≡ false
  gone_false i p s own above =
      let a : (i == id) ≡ true = eq-eqb i id own in
      let b : nat_le from p ≡ true = grind (arith, nat_tests) in
      (λ j. named i p s && not (a j && b j)) ∙ and_false (named i p s)

  -- the leader was cut
  pub leader_new : from ≤ leader_page → IsNew (without_from named id from) (leader_run id leader)
  leader_new few = λ p s has.
      let both = and_parts (id == id) (nat_le leader_page p && nat_lt p (leader_page + 1)) has in
      let more = and_parts (nat_le leader_page p) (nat_lt p (leader_page + 1)) both.1 in
      let above = leb-true leader_page p more.0 in
      gone_false id p s refl (omega (arith, few, above))

  pub once_left : AreOnce named → AreOnce (without_from named id from)
  once_left once = λ i p j q s one two.
      once i p j q s (and_parts (named i p s) (not ((i == id) && nat_le from p)) one).0 (and_parts (named j q s) (not ((j == id) && nat_le from q)) two).0

  -- and no other page has its sector
  pub others_left : from ≤ leader_page → IsLeaderAlone named id leader → AreAmong (without_from named id from) (λ k. not (k == leader))
  others_left few alone = λ i p s is. either i p s is (s == leader) refl
    where
      either : (i p s : ℕ) → without_from named id from i p s ≡ true → (b : Bool) → (s == leader) ≡ b → not (s == leader) ≡ true
      either i p s is false e = ap not e
      either i p s is true e =
          let same : s ≡ leader = eqb-true s leader e in
          let there : named i p leader ≡ true = ap (named i p) (sym same) ∙ (and_parts (named i p s) (not ((i == id) && nat_le from p)) is).0 in
          let own = alone i p there in
          let last = own.1 in
          absurd (true≢false (sym is ∙ gone_false i p s own.0 (omega (arith, few, last))))
