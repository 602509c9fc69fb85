-- What a file map names beside what labels name.
use Rattle.std.proofs.Common.{◌≡◌, ◌≢◌, ◌⊎◌, inl, inr, ℕ, zero, suc, ◌+◌, ◌-◌, ◌*◌, ◌/◌, ◌<◌, ◌≤◌, Bool, true, false, not, ◌&&◌, ◌||◌, List, [], ◌∷◌, ◌++◌, length, map, take, Option, Some, None, refl, sym, ◌∙◌, ap, subst, arith, eqb}
use Rattle.std.specs.Prelude.{slice_get, nat_le, option_map, ◌==◌}
use Rattle.std.specs.Option.{option_map_or}
use Rattle.std.proofs.lemmas.Bool.{cases_lt, cases_eq, le-leb, leb-true, true≢false, false≢true, eqb-true, eq-eqb}
use Rattle.std.proofs.lemmas.List.{length-append, length-take-le, get_or-take}
use Rattle.std.proofs.lemmas.Option.{same_Some, none-some, slice_get-map, slice_get_within}
use Rattle.labelled_disk.specs.declared.label.Label.{Label}
use Rattle.labelled_disk.specs.Label.{is_free}
use Rattle.labelled_disk.specs.Sectors.{Sector}
use Rattle.labelled_disk.specs.Layout.{first_data, data_sectors, vfm}
use Rattle.page_tree.specs.Reveals.{RevealsTree}
use Rattle.file_map.specs.declared.run.Run.{Run as MapRun}
use Rattle.file_map.specs.Run.{holds, sector_at}
use Rattle.file_map.specs.FileMap.{Triples, AreNamed, AreRuns, IsFound, IsNowhere, names_triple, run_names, run_at, no_run}
use Rattle.file_map.specs.InSectors.{label_triples, map_bytes, MapNames}
use Rattle.file_map.specs.Cause.{FromMemory}
use Rattle.file_map.specs.declared.error.MapError.{MapError}
use Rattle.file_map.specs.declared.error.MapError.TheVariants.{Malformed}
use Rattle.file_map.proofs.Runs.{has_page, and_parts}
use Rattle.file_map.proofs.Searches.{named_by}
use Rattle.label_survey.specs.declared.runs.Run.{Run}
use Rattle.label_survey.specs.declared.triples.Triple.{Triple}
use Rattle.label_survey.specs.Runs.{triples_in_row, all_triples}
use Rattle.volume_view.specs.declared.differences.NameDifferences.{NameDifferences}
use Rattle.volume_view.specs.Names.{labelled, NamesIn, IsDifferenceAt, IsOnlyIn, AllOnlyIn, IsListed, AreOnce, StayOnce, Covers, IsUnmapped, IsUnlabelled, AddsUnlabelled, IsComparison}
use Rattle.volume_view.specs.Rows.{AreJoined}
use Rattle.volume_view.specs.Records.{IsNoMemory}
use Rattle.volume_view.specs.declared.stop.Stop.{Stop}
use Rattle.volume_view.specs.declared.stop.Stop.TheVariants.{Broken}
use Rattle.volume_view.proofs.ListLemmas.{dropped, in_pushed, pushed_prefix, pushed_last, pushed_below, one_more}

-- ---- what a map in form names

module _ (n : ℕ) (lists : List (List ℕ) → Type 0) (named : Triples) (is : AreNamed n lists named) where
  -- a page has one sector
  pub named_once : (id page sector other : ℕ) → named id page sector ≡ true → named id page other ≡ true → sector ≡ other
  named_once id page sector other a b =
      let x = named_by is.runs id page sector (sym (is.are id page sector) ∙ a) in
      let y = named_by is.runs id page other (sym (is.are id page other) ∙ b) in
      let same = is.form.once x.index y.index id page x.below y.below x.held y.held in
      x.place ∙ ap (λ (j : ℕ). sector_at (run_at is.runs j) page) same ∙ sym y.place

  -- a run that was found reveals whether the page stands in this sector
  pub found_reveals : (id page sector : ℕ) (r : MapRun) (answer : Bool) → IsFound named id page (Some r) → (answer ≡ true → sector_at r page ≡ sector) → (answer ≡ false → sector_at r page ≢ sector) → answer ≡ named id page sector
  found_reveals id page sector r true found hit miss = sym (ap (named id page) (sym (hit refl)) ∙ found.1 page found.0)
  found_reveals id page sector r false found hit miss = either (named id page sector) refl
    where
      either : (b : Bool) → named id page sector ≡ b → false ≡ b
      either false e = refl
      either true e = absurd (miss refl (named_once id page (sector_at r page) sector (found.1 page found.0) e))

-- ---- pages that only one of two names

module _ (one other : Triples) where
  pub only_none : AllOnlyIn one other []
  only_none k t at = absurd (none-some t at)

  pub only_more : (ts new : List Triple) (t : Triple) → AllOnlyIn one other ts → IsOnlyIn one other t → new ≡ ts ++ t ∷ [] → AllOnlyIn one other new
  only_more ts new t so_far is pushed k u at = elim (in_pushed ts t k u (ap (λ (l : List Triple). slice_get l k) (sym pushed) ∙ at)) [
    | inl old ↦ so_far k u old
    | inr last ↦ subst (IsOnlyIn one other) last is
  ]

module _ (ts new : List Triple) (t : Triple) (pushed : new ≡ ts ++ t ∷ []) where
  pub listed_more : (u : Triple) → IsListed ts u → IsListed new u
  listed_more u old = (old.0, ap (λ (l : List Triple). slice_get l old.0) pushed ∙ pushed_prefix ts t old.0 u old.1)

  pub listed_last : IsListed new t
  listed_last = (length ts, ap (λ (l : List Triple). slice_get l (length ts)) pushed ∙ pushed_last ts t)

once_more : (ts new : List Triple) (t : Triple) → AreOnce ts → (IsListed ts t → ⊥) → new ≡ ts ++ t ∷ [] → AreOnce new
once_more ts new t so_far fresh pushed j k u at_j at_k = elim (cases_lt j (length ts)) [
  | inl low_j ↦ elim (cases_lt k (length ts)) [
    | inl low_k ↦ so_far j k u (pushed_below ts t j u low_j a) (pushed_below ts t k u low_k b)
    | inr high_k ↦ absurd (fresh (j, pushed_below ts t j u low_j a ∙ ap (λ (x : Triple). Some x) (sym (at_end k high_k b))))
  ]
  | inr high_j ↦ elim (cases_lt k (length ts)) [
    | inl low_k ↦ absurd (fresh (k, pushed_below ts t k u low_k b ∙ ap (λ (x : Triple). Some x) (sym (at_end j high_j a))))
    | inr high_k ↦
        let long = length-append ts (t ∷ []) in
        omega (arith, high_j, high_k, slice_get_within (ts ++ t ∷ []) j u a, slice_get_within (ts ++ t ∷ []) k u b, long)
  ]
]
  where
    a : slice_get (ts ++ t ∷ []) j ≡ Some u
    a = ap (λ (l : List Triple). slice_get l j) (sym pushed) ∙ at_j

    b : slice_get (ts ++ t ∷ []) k ≡ Some u
    b = ap (λ (l : List Triple). slice_get l k) (sym pushed) ∙ at_k

    at_end : (i : ℕ) → length ts ≤ i → slice_get (ts ++ t ∷ []) i ≡ Some u → t ≡ u
    at_end i high at = elim (in_pushed ts t i u at) [
      | inl old ↦ absurd (omega (arith, high, slice_get_within ts i u old))
      | inr last ↦ last
    ]

abbrev AreAscending : List Triple → Type 0
AreAscending ts = (j k : ℕ) (a b : Triple) → j < k → slice_get ts j ≡ Some a → slice_get ts k ≡ Some b → a.sector < b.sector

ascending_more : (ts new : List Triple) (t : Triple) → AreAscending ts → ((j : ℕ) (u : Triple) → slice_get ts j ≡ Some u → u.sector < t.sector) → new ≡ ts ++ t ∷ [] → AreAscending new
ascending_more ts new t so_far above pushed j k a b before at_j at_k =
    let there = ap (λ (l : List Triple). slice_get l k) (sym pushed) ∙ at_k in
    let within = slice_get_within (ts ++ t ∷ []) k b there in
    let low = pushed_below ts t j a (omega (arith, before, within, length-append ts (t ∷ []))) (ap (λ (l : List Triple). slice_get l j) (sym pushed) ∙ at_j) in
    elim (in_pushed ts t k b there) [
      | inl old ↦ so_far j k a b before low old
      | inr last ↦ subst (λ (u : Triple). a.sector < u.sector) last (above j a low)
    ]

-- the first k labels, of which each names its own page in its own sector, if any
pub record IsUnmappedTo (first : ℕ) (labels : List Label) (k : ℕ) (named : Triples) (ts : List Triple) : Type 0 where
  pub each : AllOnlyIn (labelled first labels) named ts
  pub all : (i : ℕ) (l : Label) → i < k → slice_get labels i ≡ Some l → is_free l ≡ false → named l.id l.page (first + i) ≡ false → IsListed ts (record { id = l.id; page = l.page; sector = first + i })
  pub ascending : AreAscending ts
  pub below : (j : ℕ) (t : Triple) → slice_get ts j ≡ Some t → t.sector < first + k

and_true : (a b : Bool) → a ≡ true → b ≡ true → (a && b) ≡ true
and_true true b h k = k
and_true false b h k = absurd (false≢true h)

not_free : (b : Bool) → not b ≡ true → b ≡ false
not_free true h = absurd (false≢true h)
not_free false h = refl

free_not : (b : Bool) → b ≡ false → not b ≡ true
free_not true h = absurd (true≢false h)
free_not false h = refl

eqb_itself : (n : ℕ) → eqb n n ≡ true
eqb_itself n = eq-eqb n n refl

-- the label of a sector names its page
pub labelled_own : (first : ℕ) (labels : List Label) (i : ℕ) (l : Label) → slice_get labels i ≡ Some l → is_free l ≡ false → labelled first labels l.id l.page (first + i) ≡ true
labelled_own first labels i l here used =
    let back : first + i - first ≡ i = omega arith in
    and_true (nat_le first (first + i)) _ (le-leb first (first + i) (omega arith))
    (ap (λ (o : Option Label). option_map_or (λ m. not (is_free m) && (m.id == l.id && m.page == l.page)) o false) (ap (slice_get labels) back ∙ here)
    ∙ and_true (not (is_free l)) _ (free_not (is_free l) used) (and_true (l.id == l.id) _ (eqb_itself l.id) (eqb_itself l.page)))

-- a sector that is labelled so has such a label
pub record IsLabelled (first : ℕ) (labels : List Label) (id page sector : ℕ) : Type 0 where
  pub l : Label
  pub from : first ≤ sector
  pub here : slice_get labels (sector - first) ≡ Some l
  pub used : is_free l ≡ false
  pub same_id : l.id ≡ id
  pub same_page : l.page ≡ page

pub is_labelled : (first : ℕ) (labels : List Label) (id page sector : ℕ) → labelled first labels id page sector ≡ true → IsLabelled first labels id page sector
is_labelled first labels id page sector h =
    let parts = and_parts (nat_le first sector) _ h in
    some (slice_get labels (sector - first)) refl parts.1 (leb-true first sector parts.0)
  where
    some : (o : Option Label) → slice_get labels (sector - first) ≡ o → option_map_or (λ m. not (is_free m) && (m.id == id && m.page == page)) o false ≡ true → first ≤ sector → IsLabelled first labels id page sector
    some None here k from = absurd (false≢true k)
    some (Some l) here k from =
        let outer = and_parts (not (is_free l)) _ k in
        let inner = and_parts (l.id == id) (l.page == page) outer.1 in
        record { l = l; from = from; here = here; used = not_free (is_free l) outer.0; same_id = eqb-true l.id id inner.0; same_page = eqb-true l.page page inner.1 }

module _ (first : ℕ) (labels : List Label) where
  pub unmapped_none : (named : Triples) → IsUnmappedTo first labels 0 named []
  unmapped_none named = record {
    each = only_none (labelled first labels) named;
    all = λ i l below. absurd (omega (arith, below));
    ascending = λ j k a b before at. absurd (none-some a at);
    below = λ j t at. absurd (none-some t at);
  }

  module _ (named : Triples) (k : ℕ) (l : Label) (here : slice_get labels k ≡ Some l) (ts : List Triple) (so_far : IsUnmappedTo first labels k named ts) where
    -- the label is free, or the map names its page
    unmapped_same : (is_free l ≡ true) ⊎ (named l.id l.page (first + k) ≡ true) → IsUnmappedTo first labels (k + 1) named ts
    unmapped_same fine = record {
      each = so_far.each;
      all = λ i m below at used missing. elim (cases_eq i k) [
        | inl same ↦
            let it : l ≡ m = same_Some l m (sym here ∙ ap (slice_get labels) (sym same) ∙ at) in
            elim fine [
              | inl free ↦ absurd (true≢false (sym free ∙ ap is_free it ∙ used))
              | inr there ↦ absurd (true≢false (sym (ap (λ (q : Label). named q.id q.page (first + i)) (sym it) ∙ ap (λ (j : ℕ). named l.id l.page (first + j)) same ∙ there) ∙ missing))
            ]
        | inr apart ↦ so_far.all i m (omega (arith, below, apart)) at used missing
      ];
      ascending = so_far.ascending;
      below = λ j t at. omega (arith, so_far.below j t at);
    }

    unmapped_more : (t : Triple) (new : List Triple) → t ≡ record { id = l.id; page = l.page; sector = first + k } → is_free l ≡ false → named l.id l.page (first + k) ≡ false → new ≡ ts ++ t ∷ [] → IsUnmappedTo first labels (k + 1) named new
    unmapped_more t new is used missing pushed =
        let at_sector : t.sector ≡ first + k = ap (λ (q : Triple). q.sector) is in
        record {
          each = only_more (labelled first labels) named ts new t so_far.each
              (ap (λ (q : Triple). labelled first labels q.id q.page q.sector) is ∙ labelled_own first labels k l here used, ap (λ (q : Triple). named q.id q.page q.sector) is ∙ missing) pushed;
          all = λ i m below at free absent. elim (cases_eq i k) [
            | inl same ↦
                let it : l ≡ m = same_Some l m (sym here ∙ ap (slice_get labels) (sym same) ∙ at) in
                let page : t ≡ record { id = m.id; page = m.page; sector = first + i } = is ∙ ap (λ (q : Label). record { id = q.id; page = q.page; sector = first + k }) it ∙ ap (λ (j : ℕ). record { id = m.id; page = m.page; sector = first + j }) (sym same) in
                subst (IsListed new) page (listed_last ts new t pushed)
            | inr apart ↦ listed_more ts new t pushed _ (so_far.all i m (omega (arith, below, apart)) at free absent)
          ];
          ascending = ascending_more ts new t so_far.ascending (λ j u at. omega (arith, so_far.below j u at, at_sector)) pushed;
          below = λ j u at. elim (in_pushed ts t j u (ap (λ (q : List Triple). slice_get q j) (sym pushed) ∙ at)) [
            | inl old ↦ omega (arith, so_far.below j u old)
            | inr last ↦ omega (arith, at_sector, ap (λ (q : Triple). q.sector) last)
          ];
        }

    -- the answer for a label, as it stands in the list
    pub unmapped_at : (sector : ℕ) (t : Triple) (new : List Triple) → sector ≡ first + k → IsDifferenceAt named l sector (Some t) → new ≡ ts ++ t ∷ [] → IsUnmappedTo first labels (k + 1) named new
    unmapped_at sector t new at is pushed =
        unmapped_more t new (is.2 ∙ ap (λ (i : ℕ). record { id = l.id; page = l.page; sector = i }) at) is.0 (ap (named l.id l.page) (sym at) ∙ is.1) pushed

    pub unmapped_not : (sector : ℕ) → sector ≡ first + k → IsDifferenceAt named l sector None → IsUnmappedTo first labels (k + 1) named ts
    unmapped_not sector at is = unmapped_same (elim is [ inl free ↦ inl free | inr there ↦ inr (ap (named l.id l.page) (sym at) ∙ there) ])

  pub unmapped_all : (named : Triples) (k : ℕ) (runs : List Run) → length labels ≤ k → AreJoined runs → IsUnmappedTo first labels k named (all_triples runs) → IsUnmapped named (labelled first labels) runs
  unmapped_all named k runs all joined so_far = record {
    joined = joined;
    each = so_far.each;
    all = λ t only.
        let at = is_labelled first labels t.id t.page t.sector only.0 in
        let place : first + (t.sector - first) ≡ t.sector = omega (arith, at.from) in
        let missing : named at.l.id at.l.page (first + (t.sector - first)) ≡ false =
        ap (λ (i : ℕ). named i at.l.page (first + (t.sector - first))) at.same_id ∙ ap (λ (p : ℕ). named t.id p (first + (t.sector - first))) at.same_page ∙ ap (named t.id t.page) place ∙ only.1 in
        let page : record { id = at.l.id; page = at.l.page; sector = first + (t.sector - first) } ≡ t = λ x. record { id = at.same_id x; page = at.same_page x; sector = place x } in
        subst (IsListed (all_triples runs)) page (so_far.all (t.sector - first) at.l (omega (arith, all, slice_get_within labels (t.sector - first) at.l at.here)) at.here at.used missing);
    ascending = so_far.ascending;
  }

-- ---- pages of the map without a label

-- of the pages of a run before page k of it
pub record IsAddedTo (r : MapRun) (said : Triples) (k left now : ℕ) (old new : List Triple) : Type 0 where
  pub differ : (named : Triples) → Covers named (names_triple (r ∷ [])) → AllOnlyIn named said old → AllOnlyIn named said new
  pub counted : now + length new ≡ left + length old
  pub fewer : now ≤ left
  pub kept : (t : Triple) → IsListed old t → IsListed new t
  pub from : (t : Triple) → IsListed new t → IsListed old t ⊎ (t.page < r.first + k)
  pub once : StayOnce r old new
  pub all : (m : ℕ) → m < k → said r.id (r.first + m) (r.sector + m) ≡ false → IsListed new (record { id = r.id; page = r.first + m; sector = r.sector + m })

or_first : (a b : Bool) → a ≡ true → (a || b) ≡ true
or_first true b h = refl
or_first false b h = absurd (false≢true h)

run_names_own : (r : MapRun) (m : ℕ) → m < r.pages → names_triple (r ∷ []) r.id (r.first + m) (r.sector + m) ≡ true
run_names_own r m below =
    let place : r.sector + m ≡ sector_at r (r.first + m) = omega arith in
    or_first (run_names r r.id (r.first + m) (r.sector + m)) false
    (and_true (holds r r.id (r.first + m)) _
    (and_true (r.id == r.id) _ (eqb_itself r.id) (and_true (nat_le r.first (r.first + m)) _ (le-leb r.first (r.first + m) (omega arith)) (le-leb (suc (r.first + m)) (r.first + r.pages) (omega (arith, below)))))
    (ap (eqb (r.sector + m)) (sym place) ∙ eqb_itself (r.sector + m)))

module _ (r : MapRun) (said : Triples) where
  pub added_none : (left : ℕ) (old : List Triple) → IsAddedTo r said 0 left left old old
  added_none left old = record { differ = λ named covers h. h; counted = refl; fewer = omega arith; kept = λ t h. h; from = λ t h. inl h; once = λ apart h. h; all = λ m below. absurd (omega (arith, below)) }

  module _ (k left now : ℕ) (old ts : List Triple) (so_far : IsAddedTo r said k left now old ts) where
    pub added_same : said r.id (r.first + k) (r.sector + k) ≡ true → IsAddedTo r said (k + 1) left now old ts
    added_same there = record {
      differ = so_far.differ;
      counted = so_far.counted;
      fewer = so_far.fewer;
      kept = so_far.kept;
      from = λ t h. elim (so_far.from t h) [ inl old ↦ inl old | inr low ↦ inr (omega (arith, low)) ];
      once = so_far.once;
      all = λ m below missing. elim (cases_eq m k) [
        | inl same ↦ absurd (false≢true (sym missing ∙ ap (λ (j : ℕ). said r.id (r.first + j) (r.sector + j)) same ∙ there))
        | inr apart ↦ so_far.all m (omega (arith, below, apart)) missing
      ];
    }

    pub added_more : (after : ℕ) (new : List Triple) → after + 1 ≡ now → k < r.pages → said r.id (r.first + k) (r.sector + k) ≡ false → new ≡ ts ++ record { id = r.id; page = r.first + k; sector = r.sector + k } ∷ []
        → IsAddedTo r said (k + 1) left after old new
    added_more after new one_less below missing pushed =
        let t : Triple = record { id = r.id; page = r.first + k; sector = r.sector + k } in
        record {
          differ = λ named covers h. only_more named said ts new t (so_far.differ named covers h) (covers r.id (r.first + k) (r.sector + k) (run_names_own r k below), missing) pushed;
          counted = omega (arith, so_far.counted, one_less, ap (λ (l : List Triple). length l) pushed, length-append ts (t ∷ []));
          fewer = omega (arith, so_far.fewer, one_less);
          kept = λ u h. listed_more ts new t pushed u (so_far.kept u h);
          from = λ u h. elim (in_pushed ts t h.0 u (ap (λ (l : List Triple). slice_get l h.0) (sym pushed) ∙ h.1)) [
            | inl old ↦ elim (so_far.from u (h.0, old)) [ inl older ↦ inl older | inr low ↦ inr (omega (arith, low)) ]
            | inr last ↦ inr (omega (arith, ap (λ (x : Triple). x.page) last))
          ];
          once = λ apart before. once_more ts new t (so_far.once apart before) (λ there. elim (so_far.from t there) [
            | inl old ↦ true≢false (sym (run_names_own r k below) ∙ apart t old)
            | inr low ↦ absurd (omega (arith, low))
          ]) pushed;
          all = λ m before absent. elim (cases_eq m k) [
            | inl same ↦ subst (λ (j : ℕ). IsListed new (record { id = r.id; page = r.first + j; sector = r.sector + j })) (sym same) (listed_last ts new t pushed)
            | inr apart ↦ listed_more ts new t pushed _ (so_far.all m (omega (arith, before, apart)) absent)
          ];
        }

    -- no more may come
    pub added_enough : now ≡ 0 → AddsUnlabelled (r ∷ []) said left 0 old ts
    added_enough none = record {
      differ = so_far.differ;
      counted = omega (arith, so_far.counted, none);
      fewer = omega arith;
      kept = so_far.kept;
      all = λ some. absurd (omega (arith, some));
    }

    pub added_all : r.pages ≤ k → AddsUnlabelled (r ∷ []) said left now old ts
    added_all all = record {
      differ = so_far.differ;
      counted = so_far.counted;
      fewer = so_far.fewer;
      kept = so_far.kept;
      all = λ some t only.
          let by = named_by (r ∷ []) t.id t.page t.sector only.0 in
          let at : run_at (r ∷ []) by.index ≡ r = one by.index by.below in
          let has = has_page r t.id t.page (subst (λ (q : MapRun). holds q t.id t.page ≡ true) at by.held) in
          let page : r.first + (t.page - r.first) ≡ t.page = omega (arith, has.from) in
          let sector : r.sector + (t.page - r.first) ≡ t.sector = sym (by.place ∙ ap (λ (q : MapRun). sector_at q t.page) at) in
          let is : record { id = r.id; page = r.first + (t.page - r.first); sector = r.sector + (t.page - r.first) } ≡ t = λ x. record { id = has.same x; page = page x; sector = sector x } in
          let missing : said r.id (r.first + (t.page - r.first)) (r.sector + (t.page - r.first)) ≡ false = ap (λ (q : Triple). said q.id q.page q.sector) is ∙ only.1 in
          subst (IsListed ts) is (so_far.all (t.page - r.first) (omega (arith, all, has.from, has.below)) missing);
    }
      where
        one : (j : ℕ) → j < length (r ∷ []) → run_at (r ∷ []) j ≡ r
        one zero below = refl
        one (suc j) below = absurd (omega (arith, below))

or_split : (a b : Bool) → (a || b) ≡ true → (a ≡ true) ⊎ (b ≡ true)
or_split true b h = inl refl
or_split false b h = inr h

or_second : (a b : Bool) → b ≡ true → (a || b) ≡ true
or_second true b h = refl
or_second false b h = h

names_split : (xs : List MapRun) (r : MapRun) (id page sector : ℕ) → names_triple (xs ++ r ∷ []) id page sector ≡ true → (names_triple xs id page sector ≡ true) ⊎ (names_triple (r ∷ []) id page sector ≡ true)
names_split [] r id page sector h = inr h
names_split (x ∷ xs) r id page sector h = elim (or_split (run_names x id page sector) _ h) [
  | inl here ↦ inl (or_first (run_names x id page sector) _ here)
  | inr there ↦ elim (names_split xs r id page sector there) [
    | inl prefix ↦ inl (or_second (run_names x id page sector) _ prefix)
    | inr last ↦ inr last
  ]
]

names_prefix : (xs : List MapRun) (r : MapRun) (id page sector : ℕ) → names_triple xs id page sector ≡ true → names_triple (xs ++ r ∷ []) id page sector ≡ true
names_prefix [] r id page sector h = absurd (false≢true h)
names_prefix (x ∷ xs) r id page sector h = elim (or_split (run_names x id page sector) _ h) [
  | inl here ↦ or_first (run_names x id page sector) _ here
  | inr there ↦ or_second (run_names x id page sector) _ (names_prefix xs r id page sector there)
]

names_last : (xs : List MapRun) (r : MapRun) (id page sector : ℕ) → names_triple (r ∷ []) id page sector ≡ true → names_triple (xs ++ r ∷ []) id page sector ≡ true
names_last [] r id page sector h = h
names_last (x ∷ xs) r id page sector h = or_second (run_names x id page sector) _ (names_last xs r id page sector h)

pub unlabelled_none : (said : Triples) (left : ℕ) → AddsUnlabelled [] said left left [] []
unlabelled_none said left = record { differ = λ named covers h. h; counted = refl; fewer = omega arith; kept = λ t h. h; all = λ some t only. absurd (false≢true only.0) }

-- a run more
pub unlabelled_more : (runs : List MapRun) (j : ℕ) (r : MapRun) (said : Triples) (left then_left now : ℕ) (a b c : List Triple) → slice_get runs j ≡ Some r → AddsUnlabelled (take j runs) said left then_left a b
    → AddsUnlabelled (r ∷ []) said then_left now b c → AddsUnlabelled (take (j + 1) runs) said left now a c
unlabelled_more runs j r said left then_left now a b c here prefix last =
    let s : j + 1 ≡ suc j = omega arith in
    let longer : take (j + 1) runs ≡ take j runs ++ r ∷ [] = ap (λ (m : ℕ). take m runs) s ∙ one_more runs j r here in
    subst (λ (l : List MapRun). AddsUnlabelled l said left now a c) (sym longer) record {
      differ = λ named covers h. last.differ named (λ id page sector k. covers id page sector (names_last (take j runs) r id page sector k)) (prefix.differ named (λ id page sector k. covers id page sector (names_prefix (take j runs) r id page sector k)) h);
      counted = omega (arith, prefix.counted, last.counted);
      fewer = omega (arith, prefix.fewer, last.fewer);
      kept = λ t h. last.kept t (prefix.kept t h);
      all = λ some t only. elim (names_split (take j runs) r t.id t.page t.sector only.0) [
        | inl k ↦ last.kept t (prefix.all (omega (arith, some, last.fewer)) t (k, only.1))
        | inr k ↦ last.all some t (k, only.1)
      ];
    }

pub unlabelled_all : (n now : ℕ) (map_runs : List MapRun) (said : Triples) (runs : List Run) → AreJoined runs → AddsUnlabelled map_runs said n now [] (all_triples runs) → IsUnlabelled n (names_triple map_runs) said runs
unlabelled_all n now map_runs said runs joined adds = record {
  joined = joined;
  each = adds.differ (names_triple map_runs) (λ id page sector h. h) (only_none (names_triple map_runs) said);
  most = omega (arith, adds.counted);
  all = λ few t only. adds.all (omega (arith, few, adds.counted)) t only;
}

true_or_false : (a : Bool) → (a ≡ true) ⊎ (a ≡ false)
true_or_false true = inl refl
true_or_false false = inr refl

-- the pages of the first j runs are none of run j
pub next_apart : (n : ℕ) (runs : List MapRun) (j left now : ℕ) (said : Triples) (ts : List Triple) → AreRuns n runs → j < length runs → AddsUnlabelled (take j runs) said left now [] ts → (t : Triple) → IsListed ts t → names_triple (run_at runs j ∷ []) t.id t.page t.sector ≡ false
next_apart n runs j left now said ts are within adds t listed = elim (true_or_false (names_triple (run_at runs j ∷ []) t.id t.page t.sector)) [
  | inr none ↦ none
  | inl some ↦
      let only = adds.differ (names_triple (take j runs)) (λ id page sector h. h) (only_none (names_triple (take j runs)) said) listed.0 t listed.1 in
      let a = named_by (take j runs) t.id t.page t.sector only.0 in
      let b = named_by (run_at runs j ∷ []) t.id t.page t.sector some in
      let long = length-take-le j runs (omega (arith, within)) in
      let low : a.index < j = omega (arith, a.below, long, within) in
      let held_a : holds (run_at runs a.index) t.id t.page ≡ true = ap (λ (q : MapRun). holds q t.id t.page) (sym (get_or-take j runs a.index no_run low)) ∙ a.held in
      let held_b : holds (run_at runs j) t.id t.page ≡ true = subst (λ (q : MapRun). holds q t.id t.page ≡ true) (alone (run_at runs j) b.index b.below) b.held in
      let same = are.once a.index j t.id t.page (omega (arith, low, within)) within held_a held_b in
      absurd (omega (arith, same, low))
]
  where
    alone : (r : MapRun) (i : ℕ) → i < length (r ∷ []) → run_at (r ∷ []) i ≡ r
    alone r zero below = refl
    alone r (suc i) below = absurd (omega (arith, below))

-- ---- both

-- no page stands in no run
no_page : (t : Triple) → IsListed [] t → ⊥
no_page t listed = none-some t listed.1

row_first : (id page sector n : ℕ) (rest : List Triple) → 1 ≤ n → slice_get (triples_in_row id page sector n ++ rest) 0 ≡ Some (record { id = id; page = page; sector = sector })
row_first id page sector zero rest some = absurd (omega (arith, some))
row_first id page sector (suc n) rest some = refl

no_runs : (runs : List Run) → AreJoined runs → ((t : Triple) → IsListed (all_triples runs) t → ⊥) → runs ≡ []
no_runs [] joined never = refl
no_runs (r ∷ runs) joined never = absurd (never (record { id = r.id; page = r.first; sector = r.sector }) (0, row_first r.id r.first r.sector r.pages (all_triples runs) joined.long.0))

both_same : (a b : Bool) → (a ≡ true → b ≡ true) → (b ≡ true → a ≡ true) → a ≡ b
both_same true b h k = sym (h refl)
both_same false true h k = k refl
both_same false false h k = refl

-- where no page is only in the first, the second covers it
pub none_only : (one other : Triples) → ((t : Triple) → IsOnlyIn one other t → ⊥) → Covers other one
none_only one other never id page sector h = elim (true_or_false (other id page sector)) [
  | inl there ↦ there
  | inr missing ↦ absurd (never (record { id = id; page = page; sector = sector }) (h, missing))
]

-- nothing is unlabelled: the labels name all that the map names
pub unlabelled_covers : (n : ℕ) (named said : Triples) (runs : List Run) → 1 ≤ n → IsUnlabelled n named said runs → runs ≡ [] → Covers said named
unlabelled_covers n named said runs some is none =
    let empty : all_triples runs ≡ [] = ap all_triples none in
    none_only named said (λ t only. no_page t (subst (λ (l : List Triple). IsListed l t) empty (is.all (omega (arith, some, ap (λ (l : List Triple). length l) empty)) t only)))

pub unmapped_covers : (named said : Triples) (runs : List Run) → IsUnmapped named said runs → runs ≡ [] → Covers named said
unmapped_covers named said runs is none = none_only said named (λ t only. no_page t (subst (λ (l : List Triple). IsListed l t) (ap all_triples none) (is.all t only)))

module _ {A : Type 0} (n : ℕ) (some : 1 ≤ n) (named said : Triples) (ds : NameDifferences A) where
  pub compared : IsUnmapped named said ds.unmapped.items → IsUnlabelled n named said ds.unlabelled.items → AreOnce (all_triples ds.unlabelled.items) → IsComparison n named said ds
  compared first second once = record {
    unmapped = first;
    unlabelled = second;
    once = once;
    agrees = (
      λ none id page sector.
          both_same (named id page sector) (said id page sector) (unlabelled_covers n named said ds.unlabelled.items some second none.1 id page sector) (unmapped_covers named said ds.unmapped.items first none.0 id page sector),
      λ alike. (
        no_runs ds.unmapped.items first.joined (λ t listed. let only = first.each listed.0 t listed.1 in true≢false (sym only.0 ∙ sym (alike t.id t.page t.sector) ∙ only.1)),
        no_runs ds.unlabelled.items second.joined (λ t listed. let only = second.each listed.0 t listed.1 in true≢false (sym only.0 ∙ alike t.id t.page t.sector ∙ only.1)),
      ),
    );
  }

module _ (named other : Triples) (same : (id page sector : ℕ) → named id page sector ≡ other id page sector) where
  only_first : (said : Triples) (t : Triple) → IsOnlyIn named said t → IsOnlyIn other said t
  only_first said t only = (sym (same t.id t.page t.sector) ∙ only.0, only.1)

  back_first : (said : Triples) (t : Triple) → IsOnlyIn other said t → IsOnlyIn named said t
  back_first said t only = (same t.id t.page t.sector ∙ only.0, only.1)

  only_second : (said : Triples) (t : Triple) → IsOnlyIn said named t → IsOnlyIn said other t
  only_second said t only = (only.0, sym (same t.id t.page t.sector) ∙ only.1)

  back_second : (said : Triples) (t : Triple) → IsOnlyIn said other t → IsOnlyIn said named t
  back_second said t only = (only.0, same t.id t.page t.sector ∙ only.1)

  -- the same, said of what names the same
  pub unlabelled_named : (n : ℕ) (said : Triples) (runs : List Run) → IsUnlabelled n named said runs → IsUnlabelled n other said runs
  unlabelled_named n said runs is = record { joined = is.joined; each = λ k t at. only_first said t (is.each k t at); most = is.most; all = λ few t only. is.all few t (back_first said t only) }

  unlabelled_said : (n : ℕ) (map_names : Triples) (runs : List Run) → IsUnlabelled n map_names named runs → IsUnlabelled n map_names other runs
  unlabelled_said n map_names runs is = record { joined = is.joined; each = λ k t at. only_second map_names t (is.each k t at); most = is.most; all = λ few t only. is.all few t (back_second map_names t only) }

  unmapped_said : (map_names : Triples) (runs : List Run) → IsUnmapped map_names named runs → IsUnmapped map_names other runs
  unmapped_said map_names runs is = record { joined = is.joined; each = λ k t at. only_first map_names t (is.each k t at); all = λ t only. is.all t (back_first map_names t only); ascending = is.ascending }

  pub comparison_alike : {A : Type 0} (n : ℕ) (map_names : Triples) (ds : NameDifferences A) → IsComparison n map_names named ds → IsComparison n map_names other ds
  comparison_alike n map_names ds is = record {
    unmapped = unmapped_said map_names ds.unmapped.items is.unmapped;
    unlabelled = unlabelled_said n map_names ds.unlabelled.items is.unlabelled;
    once = is.once;
    agrees = (λ none id page sector. is.agrees.0 none id page sector ∙ same id page sector, λ alike. is.agrees.1 (λ id page sector. alike id page sector ∙ sym (same id page sector)));
  }

-- the labels of a disk name what the disk says
pub labels_say : (d : List Sector) (labels : List Label) (n : ℕ) → n ≡ first_data (length d) → labels ≡ map (λ s. s.0) (data_sectors d) → (id page sector : ℕ) → labelled n labels id page sector ≡ label_triples d id page sector
labels_say d labels n from are id page sector = ap (λ (m : ℕ). labelled m labels id page sector) from ∙ elim (cases_lt sector (first_data (length d))) [
  | inl below ↦ and_false _ _ (lt_leb below) ∙ sym (and_false _ _ (lt_leb below))
  | inr not_below ↦
      let at : first_data (length d) + (sector - first_data (length d)) ≡ sector = omega (arith, not_below) in
      let there : slice_get labels (sector - first_data (length d)) ≡ option_map (λ (s : Sector). s.0) (slice_get d sector) =
      ap (λ (l : List Label). slice_get l (sector - first_data (length d))) are ∙ slice_get-map (λ (s : Sector). s.0) (data_sectors d) (sector - first_data (length d)) ∙ ap (option_map (λ (s : Sector). s.0)) (dropped d (first_data (length d)) (sector - first_data (length d)) ∙ ap (slice_get d) at) in
      ap (λ (o : Option Label). nat_le (first_data (length d)) sector && option_map_or (λ l. not (is_free l) && (l.id == id && l.page == page)) o false) there ∙ ap (λ (b : Bool). nat_le (first_data (length d)) sector && b) (through (slice_get d sector))
]
  where
    and_false : (a b : Bool) → a ≡ false → (a && b) ≡ false
    and_false true b h = absurd (true≢false h)
    and_false false b h = refl

    lt_leb : sector < first_data (length d) → nat_le (first_data (length d)) sector ≡ false
    lt_leb below = either (nat_le (first_data (length d)) sector) refl
      where
        either : (b : Bool) → nat_le (first_data (length d)) sector ≡ b → b ≡ false
        either false e = refl
        either true e = let up = leb-true (first_data (length d)) sector e in absurd (omega (arith, up, below))

    through : (o : Option Sector) → option_map_or (λ l. not (is_free l) && (l.id == id && l.page == page)) (option_map (λ (s : Sector). s.0) o) false ≡ option_map_or (λ (s : Sector). not (is_free s.0) && (s.0.id == id && s.0.page == page)) o false
    through None = refl
    through (Some s) = refl

-- ---- the map as a memory reveals it

pub to_map : (n m : ℕ) (bytes c : List ℕ) (named : Triples) → m ≡ n → c ≡ bytes → length c ≡ 512 * vfm n → NamesIn n bytes named → AreNamed m (RevealsTree 24 12 (length c / 512) (λ b. b ≡ c)) named
to_map n m bytes c named same_count same size is =
    let pages : vfm n ≡ length c / 512 = omega (arith, size) in
    subst (λ (k : ℕ). AreNamed k (RevealsTree 24 12 (length c / 512) (λ b. b ≡ c)) named) (sym same_count)
    (subst (λ (k : ℕ). AreNamed n (RevealsTree 24 12 k (λ b. b ≡ c)) named) pages
    (subst (λ (x : List ℕ). AreNamed n (RevealsTree 24 12 (vfm n) (λ b. b ≡ x)) named) (sym same) is))

pub found_some : (named : Triples) (id page : ℕ) (o : Option MapRun) (r : MapRun) → o ≡ Some r → IsFound named id page o → IsFound named id page (Some r)
found_some named id page o r is found = subst (IsFound named id page) is found

pub found_none : (named : Triples) (id page : ℕ) (o : Option MapRun) → o ≡ None → IsFound named id page o → IsNowhere named id page
found_none named id page o is found = subst (IsFound named id page) is found

pub never_broken : {X : Type 0} (e : MapError X) (page : ℕ) → e ≡ Malformed page → FromMemory e → ⊥
never_broken {X} e page is says = subst (λ (x : MapError X). FromMemory x) is says

-- the map of a disk, in the memory that it was read into
pub names_in : (d : List Sector) (n : ℕ) (bytes : List ℕ) (named : Triples) → length d ≡ n → bytes ≡ map_bytes d → MapNames d named → NamesIn n bytes named
names_in d n bytes named long same is =
    subst (λ (k : ℕ). AreNamed k (RevealsTree 24 12 (vfm k) (λ b. b ≡ bytes)) named) long
    (subst (λ (x : List ℕ). AreNamed (length d) (RevealsTree 24 12 (vfm (length d)) (λ b. b ≡ x)) named) (sym same) is)

pub never_stopped : (e : Stop) (page : ℕ) → e ≡ Broken page → IsNoMemory e → ⊥
never_stopped e page is says = subst IsNoMemory is says
