-- What the bytes of a map in form show: records of its runs alone, and no page that breaks its form.
use Rattle.std.proofs.Common.{◌≡◌, inl, inr, ℕ, ◌<◌, ◌≤◌, ◌^◌, true, List, length, map, sym, ◌∙◌, ap, subst, arith}
use Rattle.std.proofs.lemmas.List.{get_or-map, length-map}
use Rattle.page_tree.specs.Broken.{StopsInsertion}
use Rattle.page_tree.specs.Page.{IsWidths}
use Rattle.page_tree.specs.Reveals.{RevealsTree}
use Rattle.page_tree.specs.Tree.{IsTree}
use Rattle.page_tree.proofs.Recorded.{recorded}
use Rattle.page_tree.proofs.Unbroken.{unstopped}
use Rattle.file_map.specs.declared.run.Run.{Run}
use Rattle.file_map.specs.Cause.{IsBroken}
use Rattle.file_map.specs.Entries.{Sight, Entry, Broken, Count}
use Rattle.file_map.specs.FileMap.{Triples, AreNamed, run_at, no_run, names_triple}
use Rattle.file_map.specs.Run.{IsRun, IsRecord, holds, sector_at, run_bytes, run_in}
use Rattle.file_map.specs.Shown.{IsShown}
use Rattle.file_map.proofs.Records.{run_back, record_of_run}
use Rattle.file_map.proofs.Searches.{names_at}

widths : IsWidths 24 12
widths = record { some_key = omega arith; key_most = omega arith; entry_least = omega arith; entry_most = omega arith }

module _ (n pages : ℕ) (b : List ℕ) (named : Triples) (is : AreNamed n (RevealsTree 24 12 pages (λ c. c ≡ b)) named) (few : n < 2 ^ 32) (least : 9 ≤ pages) (most : pages ≤ 2 ^ 18) where
  tree : IsTree 24 12 pages b (map run_bytes is.runs)
  tree = subst (λ (c : List ℕ). IsTree 24 12 pages c (map run_bytes is.runs)) is.listed.revealed is.listed.tree

  -- a record that is shown is that of one of its runs
  pub shown_record : (page : ℕ) (entry : List ℕ) → IsShown pages b (Entry page entry) → (j : ℕ) × (j < length is.runs) × (entry ≡ run_bytes (run_at is.runs j))
  shown_record page entry shows =
      let at = recorded 24 12 pages b (map run_bytes is.runs) tree widths least most entry page shows in
      let below : at.0 < length is.runs = omega (arith, at.1, length-map is.runs run_bytes) in
      (at.0, below, at.2 ∙ get_or-map run_bytes is.runs at.0 no_run _ below)

  -- a run in form whose record is shown is named
  pub shown_run : (page : ℕ) (r : Run) → IsRun n r → IsShown pages b (Entry page (run_bytes r)) → (id p : ℕ) → holds r id p ≡ true → named id p (sector_at r p) ≡ true
  shown_run page r form shows id p held =
      let at = shown_record page (run_bytes r) shows in
      let same : r ≡ run_at is.runs at.0 = sym (run_back n r few form) ∙ ap run_in at.2 ∙ run_back n (run_at is.runs at.0) few (is.form.each at.0 at.1) in
      is.are id p (sector_at r p)
      ∙ subst (λ (q : Run). names_triple is.runs id p (sector_at q p) ≡ true) (sym same) (names_at is.runs at.0 id p at.1 (ap (λ (q : Run). holds q id p) (sym same) ∙ held))

  pub shown_unbroken : (shows : Sight → Type 0) → ((sight : Sight) → shows sight → IsShown pages b sight) → (page : ℕ) → IsBroken n shows page → ⊥
  shown_unbroken shows here page (inl broken) = unstopped 24 12 pages b (map run_bytes is.runs) tree widths least most page (StopsInsertion.broken (here (Broken page) broken))
  shown_unbroken shows here page (inr (inl (entry, shown, not_record))) =
      let at = shown_record page entry (here (Entry page entry) shown) in
      not_record (subst (λ (x : List ℕ). IsRecord n x) (sym at.2) (record_of_run n (run_at is.runs at.0) few (is.form.each at.0 at.1)))
  shown_unbroken shows here page (inr (inr (first, (count, shown, more)))) =
      omega (arith, more, here (Count count) shown, tree.header.count_is, length-map is.runs run_bytes, is.few)
