-- The pages of a file from one on are cut off, run by run from the end.
use Rattle.std.proofs.Common.{◌≡◌, ◌≢◌, ◌⊎◌, inl, inr, ℕ, ◌+◌, ◌-◌, ◌<◌, ◌≤◌, ◌^◌, Bool, true, false, not, ◌&&◌, ◌||◌, ◌==◌, nat_le, List, length, map, take, set, remove, Some, None, refl, sym, ◌∙◌, ap, subst, arith}
use Rattle.std.proofs.lemmas.Bool.{cases_lt, false≢true, eqb-true, eq-eqb, leb-true, le-leb}
use Rattle.std.proofs.lemmas.List.{length-map, map-set, length-set}
use Rattle.std.proofs.lemmas.List.Edits.{length-remove}
use Rattle.flat_mem.specs.Order.{IsInKeyOrder, key_at}
use Rattle.file_map.specs.declared.run.Run.{Run}
use Rattle.file_map.specs.Run.{IsRun, holds, sector_at, key_bytes, run_bytes}
use Rattle.file_map.specs.FileMap.{AreNamed, Triples, run_names, names_triple, run_at, without_from}
use Rattle.file_map.specs.Entries.{IsLastOf, NoneOf, IsReplaced, IsTakenOut}
use Rattle.file_map.specs.Searches.{IsLastRun}
use Rattle.file_map.specs.Edits.{IsStep}
use Rattle.file_map.proofs.Runs.{rank_of, HasPage, has_page, page_held, and_parts, and_both, key_of_entry}
use Rattle.file_map.proofs.Keys.{rank}
use Rattle.file_map.proofs.Records.{key_of_run}
use Rattle.file_map.proofs.Searches.{named_by, run_named, in_last, in_none, last_rank}
use Rattle.file_map.proofs.Named.{sorted, by_run, not_named}
use Rattle.file_map.proofs.Edits.{same_truth, names_split, names_set, map_remove, form_remove, form_set, rest_apart, same_index, relisted}

-- other triples that are the same
pub renamed : (n : ℕ) (lists : List (List ℕ) → Type 0) (a b : Triples) → AreNamed n lists a → ((id page sector : ℕ) → b id page sector ≡ a id page sector) → AreNamed n lists b
renamed n lists a b map_is same = record {
  runs = map_is.runs;
  listed = map_is.listed;
  form = map_is.form;
  few = map_is.few;
  are = λ id page sector. same id page sector ∙ map_is.are id page sector;
}

kept_or_not : (x t : Bool) → (x ≡ true → t ≡ false) → (x && not t) ≡ x
kept_or_not true true h = sym (h refl)
kept_or_not true false h = refl
kept_or_not false t h = refl

or_second : (x y : Bool) → y ≡ true → (x || y) ≡ true
or_second true y h = refl
or_second false y h = h

-- where no page from there on is named, the cut changes nothing
pub none_to_cut : (named : Triples) (file from : ℕ) → ((page sector : ℕ) → from ≤ page → named file page sector ≡ true → ⊥) → (id page sector : ℕ) → without_from named file from id page sector ≡ named id page sector
none_to_cut named file from none id page sector = kept_or_not _ _ (λ h. not_named _ (λ t.
    let parts = and_parts (id == file) (nat_le from page) t in
    let here = eqb-true id file parts.0 in
    none page sector (leb-true from page parts.1) (subst (λ (x : ℕ). named x page sector ≡ true) here h)))

-- nothing is left to cut
pub uncut : (n : ℕ) (lists now : List (List ℕ) → Type 0) (named : Triples) (map_is : AreNamed n lists named) (file from : ℕ) → now (map run_bytes map_is.runs) → ((page sector : ℕ) → from ≤ page → named file page sector ≡ true → ⊥) → AreNamed n now (without_from named file from)
uncut n lists now named map_is file from listed none = renamed n now named (without_from named file from) (relisted n lists now named map_is listed) (none_to_cut named file from none)

module _ (n : ℕ) (lists : List (List ℕ) → Type 0) (named : Triples) (map_is : AreNamed n lists named) (ascending : (xs : List (List ℕ)) → lists xs → IsInKeyOrder 12 xs) (file from : ℕ) (file_fits : file < 2 ^ 64) where
  abbrev runs : List Run
  runs = map_is.runs

  long : length (map run_bytes runs) ≡ length runs
  long = length-map runs run_bytes

  fits : (j : ℕ) → j < length runs → (page : ℕ) → HasPage (run_at runs j) file page → page ≤ 4294967295
  fits j below page has = omega (arith, has.below, (map_is.form.each j below).pages_fit)

  pub done_none : IsLastRun map_is.runs file 4294967295 None → (page sector : ℕ) → from ≤ page → named file page sector ≡ true → ⊥
  done_none none page sector low h =
      let by = by_run n lists named map_is ascending file page sector h in
      in_none n runs (sorted n lists named map_is ascending) file 4294967295 file_fits (omega arith) by.index page none by.below (fits by.index by.below page by.has) by.has

  module _ (r : Run) (last : IsLastRun map_is.runs file 4294967295 (Some r)) where
    below : last.0 < length runs
    below = omega (arith, last.1.below, long)

    form : IsRun n r
    form = subst (λ (x : Run). IsRun n x) (sym last.2) (map_is.form.each last.0 below)

    -- a page of the file from there on is one of the last run, where that begins before or is none of the file
    in_run : (page sector : ℕ) → named file page sector ≡ true → (holds r file page ≡ true) ⊎ (rank file page < rank_of r)
    in_run page sector h =
        let by = by_run n lists named map_is ascending file page sector h in
        elim (in_last n runs (sorted n lists named map_is ascending) file 4294967295 file_fits (omega arith) last.0 by.index page last.1 by.below (fits by.index by.below page by.has) by.has) [
          | inl here ↦ inl (subst (λ (x : Run). holds x file page ≡ true) (ap (run_at runs) here ∙ sym last.2) by.held)
          | inr low ↦ inr (subst (λ (x : Run). rank file page < rank_of x) (sym last.2) low)
        ]

    low_last : rank_of r ≤ rank file 4294967295
    low_last = subst (λ (x : Run). rank_of x ≤ rank file 4294967295) (sym last.2) (last_rank n runs (sorted n lists named map_is ascending) file 4294967295 file_fits (omega arith) last.0 last.1)

    pub done_other : r.id ≢ file → (page sector : ℕ) → from ≤ page → named file page sector ≡ true → ⊥
    done_other other page sector low h = elim (in_run page sector h) [
      | inl held ↦ other (has_page r file page held).same
      | inr before ↦
          let by = by_run n lists named map_is ascending file page sector h in
          let small = fits by.index by.below page by.has in
          other (omega (arith, before, low_last, form.pages_fit, form.some, small))
    ]

    pub done_before : r.first + r.pages ≤ from → (page sector : ℕ) → from ≤ page → named file page sector ≡ true → ⊥
    done_before ends page sector low h = elim (in_run page sector h) [
      | inl held ↦ let has = has_page r file page held in omega (arith, has.below, ends, low)
      | inr before ↦
          let by = by_run n lists named map_is ascending file page sector h in
          let small = fits by.index by.below page by.has in
          omega (arith, before, low_last, form.pages_fit, form.some, small, ends, low)
    ]

    key_is : key_at 12 (map run_bytes runs) last.0 ≡ key_bytes r.id r.first
    key_is = key_of_entry runs last.0 below ∙ ap (λ (x : Run). key_bytes x.id x.first) (sym last.2)

    pub none_of_last : (key : List ℕ) → key ≡ key_bytes r.id r.first → NoneOf 12 (map run_bytes map_is.runs) key → ⊥
    none_of_last key is none = none last.0 last.1.below (key_is ∙ sym is)

    names_is : (id page sector : ℕ) → named id page sector ≡ (run_names r id page sector || names_triple (remove runs last.0) id page sector)
    names_is id page sector = map_is.are id page sector ∙ names_split runs id page sector last.0 below ∙ ap (λ (x : Run). run_names x id page sector || names_triple (remove runs last.0) id page sector) (sym last.2)

    -- where all pages of a run are cut, the rest is cut to the same triples
    cut_out : (x rest t : Bool) → (x ≡ true → t ≡ true) → ((x || rest) && not t) ≡ (rest && not t)
    cut_out true rest true h = no_more rest
      where
        no_more : (b : Bool) → false ≡ (b && false)
        no_more true = refl
        no_more false = refl
    cut_out true rest false h = absurd (false≢true (h refl))
    cut_out false rest t h = refl

    -- what the other runs name of the file is named, and before this run
    module _ (same : r.id ≡ file) where
      others_named : (page sector : ℕ) → names_triple (remove runs last.0) file page sector ≡ true → named file page sector ≡ true
      others_named page sector h = names_is file page sector ∙ or_second (run_names r file page sector) _ h

      others_before : (page sector : ℕ) → names_triple (remove runs last.0) file page sector ≡ true → page < r.first
      others_before page sector h = elim (in_run page sector (others_named page sector h)) [
        | inl held ↦ absurd (rest_apart n runs map_is.form last.0 file page sector below h (subst (λ (x : Run). holds x file page ≡ true) last.2 held))
        | inr before ↦ omega (arith, before, same)
      ]

      first_named : named file r.first (sector_at r r.first) ≡ true
      first_named =
          let held : holds r file r.first ≡ true = page_held r file r.first record { same = same; from = omega arith; below = omega (arith, form.some) } in
          let own : run_names r file r.first (sector_at r r.first) ≡ true = and_both (holds r file r.first) (sector_at r r.first == sector_at r r.first) held (eq-eqb (sector_at r r.first) (sector_at r r.first) refl) in
          names_is file r.first (sector_at r r.first) ∙ ap (λ (x : Bool). x || names_triple (remove runs last.0) file r.first (sector_at r r.first)) own

      first_high : r.first ≤ 4294967295
      first_high = omega (arith, form.pages_fit, form.some)

    module _ (now : List (List ℕ) → Type 0) where
      pub removed_named : (key : List ℕ) → key ≡ key_bytes r.id r.first → (i : ℕ) → IsLastOf 12 (map run_bytes map_is.runs) key i → now (remove (map run_bytes map_is.runs) i) → AreNamed n now (names_triple (remove map_is.runs last.0))
      removed_named key is i meant listed = record {
        runs = remove runs last.0;
        listed = subst now (ap (remove (map run_bytes runs)) (same_index 12 (map run_bytes runs) (key_bytes file 4294967295) key last.0 i last.1 (key_is ∙ sym is) meant) ∙ sym (map_remove runs last.0)) listed;
        form = form_remove n runs map_is.form last.0 below;
        few = omega (arith, length-remove runs last.0 below, map_is.few);
        are = λ id page sector. refl;
      }

      pub removed_same : r.id ≡ file → from ≤ r.first → (id page sector : ℕ) → without_from (names_triple (remove map_is.runs last.0)) file from id page sector ≡ without_from named file from id page sector
      removed_same same after id page sector =
          sym (ap (λ (x : Bool). x && not ((id == file) && nat_le from page)) (names_is id page sector)
          ∙ cut_out (run_names r id page sector) (names_triple (remove runs last.0) id page sector) ((id == file) && nat_le from page) (λ h.
          let has = has_page r id page (run_named r id page sector h).0 in
          and_both (id == file) (nat_le from page) (eq-eqb id file (sym has.same ∙ same)) (le-leb from page (omega (arith, after, has.from)))))

      pub removed_count : length (remove map_is.runs last.0) + 1 ≡ length map_is.runs
      removed_count = omega (arith, length-remove runs last.0 below, below)

      pub removed_step : (counts : ℕ → Type 0) → ((xs : List (List ℕ)) → now xs → counts (length xs)) → (key : List ℕ) → key ≡ key_bytes r.id r.first → r.id ≡ file → from ≤ r.first → (count : ℕ) → count ≡ length (map run_bytes map_is.runs)
          → (done : Bool) → IsTakenOut 12 now (map run_bytes map_is.runs) key done → IsStep n now counts named file from count done
      unfolding removed_named
      removed_step counts counted key is same after count count_is true (i, meant, listed) =
          let map_now = removed_named key is i meant listed in
          record {
            now = names_triple (remove runs last.0);
            map_is = map_now;
            same = removed_same same after;
            left = length (remove runs last.0);
            counted = subst counts (length-map (remove runs last.0) run_bytes) (counted (map run_bytes (remove runs last.0)) map_now.listed);
            fewer = removed_count ∙ sym long ∙ sym count_is;
            page = r.first;
            sector = sector_at r r.first;
            was = first_named same;
            high = first_high same;
            before = others_before same;
            among = others_named same;
          }
      removed_step counts counted key is same after count count_is false answer = absurd (none_of_last key is answer.0)

      -- where it began at the page from which on is cut, no page is left to cut
      pub removed_all : (key : List ℕ) → key ≡ key_bytes r.id r.first → r.id ≡ file → r.first ≡ from → IsTakenOut 12 now (map run_bytes map_is.runs) key true → AreNamed n now (without_from named file from)
      removed_all key is same here (i, meant, listed) =
          renamed n now (names_triple (remove map_is.runs last.0)) (without_from named file from) (removed_named key is i meant listed)
          (λ id page sector. sym (removed_same same (omega (arith, here)) id page sector)
          ∙ none_to_cut (names_triple (remove map_is.runs last.0)) file from (λ page sector low h. let before = others_before same page sector h in omega (arith, before, low, here)) id page sector)

      pub taken_step : (counts : ℕ → Type 0) → ((xs : List (List ℕ)) → now xs → counts (length xs)) → (key : List ℕ) → key ≡ key_bytes r.id r.first → r.id ≡ file → from ≤ r.first → (count : ℕ) → count ≡ length (map run_bytes map_is.runs)
          → (taken more : Bool) → (more ≡ true → taken ≡ true) → (more ≡ false → taken ≡ true → r.first ≤ from) → IsTakenOut 12 now (map run_bytes map_is.runs) key taken → IsStep n now counts named file from count more
      taken_step counts counted key is same after count count_is true true gone ends answer = removed_step counts counted key is same after count count_is true answer
      taken_step counts counted key is same after count count_is true false gone ends answer = let end = ends refl refl in removed_all key is same (omega (arith, after, end)) answer
      taken_step counts counted key is same after count count_is false more gone ends answer = absurd (none_of_last key is answer.0)

      module _ (short : Run) (short_id : short.id ≡ file) (short_first : short.first ≡ r.first) (short_pages : short.pages ≡ from - r.first) (short_sector : short.sector ≡ r.sector) (same : r.id ≡ file) (early : r.first < from) (late : from < r.first + r.pages) where
        short_form : IsRun n short
        short_form = record {
          of_file = subst (λ (x : ℕ). (x ≡ 3) ⊎ (16 ≤ x)) (same ∙ sym short_id) form.of_file;
          id_fits = omega (arith, form.id_fits, same, short_id);
          some = omega (arith, short_pages, early);
          pages_fit = omega (arith, short_first, short_pages, late, early, form.pages_fit);
          from_data = omega (arith, short_sector, form.from_data);
          inside = omega (arith, short_sector, short_pages, form.inside, late);
        }

        widens : (id page : ℕ) → HasPage short id page → HasPage r id page
        widens id page h = record { same = same ∙ sym short_id ∙ h.same; from = omega (arith, h.from, short_first); below = omega (arith, h.below, short_first, short_pages, late) }

        -- the shortened run names what the run names before the cut
        short_names : (id page sector : ℕ) → run_names short id page sector ≡ (run_names r id page sector && not ((id == file) && nat_le from page))
        short_names id page sector = same_truth _ _
            (λ h.
            let parts = run_named short id page sector h in
            let has = has_page short id page parts.0 in
            let wide = widens id page has in
            and_both _ _ (and_both (holds r id page) (sector == sector_at r page) (page_held r id page wide) (eq-eqb sector _ (omega (arith, parts.1, short_sector, short_first))))
            (not_true _ (λ t. let cut = leb-true from page (and_parts (id == file) (nat_le from page) t).1 in omega (arith, cut, has.below, short_first, short_pages, early))))
            (λ h.
            let both = and_parts _ _ h in
            let parts = run_named r id page sector both.0 in
            let has = has_page r id page parts.0 in
            and_both (holds short id page) (sector == sector_at short page)
            (page_held short id page record { same = short_id ∙ sym same ∙ has.same; from = omega (arith, has.from, short_first); below = before id page has both.1 })
            (eq-eqb sector _ (omega (arith, parts.1, short_sector, short_first))))
          where
            not_true : (b : Bool) → (b ≡ true → ⊥) → not b ≡ true
            not_true true h = absurd (h refl)
            not_true false h = refl

            not_both : (b : Bool) → not b ≡ true → b ≡ true → ⊥
            not_both true h k = false≢true h
            not_both false h k = false≢true k

            before : (id page : ℕ) → HasPage r id page → not ((id == file) && nat_le from page) ≡ true → page < short.first + short.pages
            before id page has free = elim (cases_lt page from) [
              | inl low ↦ omega (arith, low, short_first, short_pages, early)
              | inr high ↦ absurd (not_both _ free (and_both (id == file) (nat_le from page) (eq-eqb id file (sym has.same ∙ same)) (le-leb from page high)))
            ]

        -- what the other runs name is not cut
        rest_stays : (id page sector : ℕ) → names_triple (remove runs last.0) id page sector ≡ true → ((id == file) && nat_le from page) ≡ false
        rest_stays id page sector h = not_named _ (λ t.
            let parts = and_parts (id == file) (nat_le from page) t in
            let here = eqb-true id file parts.0 in
            let low = leb-true from page parts.1 in
            let by = named_by (remove runs last.0) id page sector h in
            other page sector low (subst (λ (x : ℕ). names_triple (remove runs last.0) x page sector ≡ true) here h))
          where
            other : (page sector : ℕ) → from ≤ page → names_triple (remove runs last.0) file page sector ≡ true → ⊥
            other page sector low h = elim (in_run page sector (names_is file page sector ∙ or_second (run_names r file page sector) _ h)) [
              | inl held ↦ rest_apart n runs map_is.form last.0 file page sector below h (subst (λ (x : Run). holds x file page ≡ true) last.2 held)
              | inr before ↦ omega (arith, before, same, low, early)
            ]

        key_same : take 12 (run_bytes short) ≡ key_bytes r.id r.first
        key_same = key_of_run short ∙ (λ i. key_bytes ((short_id ∙ sym same) i) (short_first i))

        pub short_named : (key : List ℕ) → key ≡ key_bytes r.id r.first → (i : ℕ) → IsLastOf 12 (map run_bytes map_is.runs) key i → now (set (map run_bytes map_is.runs) i (run_bytes short)) → AreNamed n now (without_from named file from)
        short_named key is i meant listed = record {
          runs = set runs last.0 short;
          listed = subst now (ap (λ (j : ℕ). set (map run_bytes runs) j (run_bytes short)) (same_index 12 (map run_bytes runs) (key_bytes file 4294967295) key last.0 i last.1 (key_is ∙ sym is) meant) ∙ sym (map-set run_bytes runs last.0 short)) listed;
          form = form_set n runs map_is.form last.0 short below short_form (λ j id page j_below held old.
              map_is.form.once j last.0 id page j_below below old (subst (λ (x : Run). holds x id page ≡ true) last.2 (page_held r id page (widens id page (has_page short id page held)))));
          few = omega (arith, length-set runs last.0 short, map_is.few);
          are = λ id page sector.
              ap (λ (x : Bool). x && not ((id == file) && nat_le from page)) (names_is id page sector)
              ∙ cut_each (run_names r id page sector) (names_triple (remove runs last.0) id page sector) ((id == file) && nat_le from page) (rest_stays id page sector)
              ∙ ap (λ (x : Bool). x || names_triple (remove runs last.0) id page sector) (sym (short_names id page sector)) ∙ sym (names_set runs id page sector last.0 short below);
        }
          where
            cut_each : (x rest t : Bool) → (rest ≡ true → t ≡ false) → ((x || rest) && not t) ≡ ((x && not t) || rest)
            cut_each true true true h = sym (h refl)
            cut_each true true false h = refl
            cut_each true false true h = refl
            cut_each true false false h = refl
            cut_each false true true h = sym (h refl)
            cut_each false true false h = refl
            cut_each false false t h = refl

        pub short_step : (entry : List ℕ) → entry ≡ run_bytes short → (done : Bool) → IsReplaced 12 now (map run_bytes map_is.runs) entry done → AreNamed n now (without_from named file from)
        short_step entry is true answer =
            let revealed = subst (λ (x : List ℕ). IsReplaced 12 now (map run_bytes runs) x true) is answer in
            short_named (take 12 (run_bytes short)) key_same revealed.0 revealed.1 revealed.2
        short_step entry is false answer =
            let revealed = subst (λ (x : List ℕ). IsReplaced 12 now (map run_bytes runs) x false) is answer in
            absurd (none_of_last (take 12 (run_bytes short)) key_same revealed.0)
