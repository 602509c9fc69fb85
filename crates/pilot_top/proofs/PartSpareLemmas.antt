-- What spares a file, part by part of a run.
use Rattle.std.proofs.Common.{◌≡◌, inl, inr, ℕ, zero, suc, ◌+◌, ◌-◌, ◌<◌, ◌≤◌, Bool, false, List, [], ◌∷◌, ◌++◌, length, take, Option, Some, refl, sym, ◌∙◌, ap, subst, arith, length-append}
use Rattle.std.specs.Prelude.{option_map}
use Rattle.std.specs.List.{list_any}
use Rattle.std.specs.Option.{option_map_or}
use Rattle.std.proofs.lemmas.Bool.{cases_eq, cases_lt, or_from, or_parts}
use Rattle.std.proofs.lemmas.List.{take-append-le}
use Rattle.std.proofs.lemmas.List.Folds.{list_any-append}
use Rattle.labelled_disk.specs.declared.disk.DiskWrite.{DiskWrite}
use Rattle.labelled_disk.specs.declared.disk.DiskWrite.TheVariants as write
use Rattle.labelled_disk.specs.Calls.{RevealsSame}
use Rattle.labelled_disk.specs.CrashState.{crash_state}
use Rattle.labelled_disk.specs.Sectors.{Sector}
use Rattle.labelled_disk.specs.State.{DiskState}
use Rattle.labelled_disk.specs.WriteRuns.{after_writes}
use Rattle.labelled_disk.proofs.WriteRunLemmas.{crash_state-earlier, crash_state-later}
use Rattle.frame_pool.specs.Frames.{Slots}
use Rattle.flat_machine.specs.After.{TraceLine}
use Rattle.swapper_kernel.specs.Goes.{IsDirty}
use Rattle.session_words.specs.Volume.{volume_page}
use Rattle.pilot_engine.specs.Sparing.{HasSameLabels, IsLasting, Spares, SparesAll}
use Rattle.pilot_engine.proofs.SparingLemmas.{labels_then, lasting_still, same_labels}
use Rattle.pilot_engine.specs.Writing.{Written}
use Rattle.pilot_top.specs.Parts.{InParts}
use Rattle.pilot_top.specs.Sparing.{IsUnnamed, KeepsUnnamed, OfShown, PartMakes, SparesInParts, maps_file, names_file, part_names, stores}
use Rattle.pilot_top.proofs.LineParts.{get_first, may_longer, same_list}
use Rattle.pilot_top.proofs.PartLemmas.{part_early, part_late, parts_none, parts_one, parts_still, parts_then, parts_wider}

-- ---- Lines.

pub none_of : (p : TraceLine → Bool) (lines more : List TraceLine) → list_any p (lines ++ more) ≡ false → (list_any p lines ≡ false) × (list_any p more ≡ false)
none_of p lines more none = or_parts (list_any p lines) (list_any p more) (sym (list_any-append p lines more) ∙ none)

pub none_last : (p : TraceLine → Bool) (lines : List TraceLine) (line : TraceLine) → list_any p (lines ++ line ∷ []) ≡ false → (list_any p lines ≡ false) × (p line ≡ false)
none_last p lines line none = let parts = none_of p lines (line ∷ []) none in (parts.0, (or_parts (p line) false parts.1).0)

-- none of the lines of a part and before it, so none of the first lines
pub none_first : (p : TraceLine → Bool) (lines more : List TraceLine) (part : ℕ) → length lines ≤ part → list_any p (take part (lines ++ more)) ≡ false → list_any p lines ≡ false
none_first p [] more part past none = refl
none_first p (line ∷ lines) more zero past none = absurd (omega (arith, past))
none_first p (line ∷ lines) more (suc n) past none =
    let parts = or_parts (p line) (list_any p (take n (lines ++ more))) none in
    or_from (p line) (list_any p lines) parts.0 (none_first p lines more n (omega (arith, past)) parts.1)

names_longer : (id : ℕ) (lines more : List TraceLine) (part : ℕ) → part ≤ length lines → part_names id (lines ++ more) part ≡ part_names id lines part
names_longer id lines more zero few = refl
names_longer id lines more (suc j) few = ap (λ (o : Option TraceLine). option_map_or (names_file id) o false) (get_first lines more j (omega (arith, few)))

none_longer : (p : TraceLine → Bool) (lines more : List TraceLine) (part : ℕ) → part ≤ length lines → list_any p (take part (lines ++ more)) ≡ false → list_any p (take part lines) ≡ false
none_longer p lines more part few none = sym (ap (list_any p) (take-append-le part lines more few)) ∙ none

shown_longer : (limit : ℕ) (lines more : List TraceLine) (before : Slots) (hid : ℕ → Type 0) (part : ℕ) (w : DiskWrite) → part ≤ length lines → OfShown limit lines before hid part w → OfShown limit (lines ++ more) before hid part w
shown_longer limit lines more before hid part (write.Whole sector label bytes) few is = tt
shown_longer limit lines more before hid part (write.LabelOnly sector label) few is = tt
shown_longer limit lines more before hid part (write.Page sector wanted bytes) few is = (
  λ none. is.0 (none_longer stores lines more part few none),
  λ id client low none hides. is.1 id client low (none_longer (maps_file id) lines more part few none) hides,
)

-- ---- The labels of one file.

less_same : (a b c d : ℕ) → a ≡ c → b ≡ d → a < b → c < d
less_same a b c d one other less = omega (arith, one, other, less)

same_moment : (id : ℕ) (d : List Sector) (writes : List DiskWrite) (j k : ℕ) → j ≡ k → HasSameLabels id (crash_state d writes j) (crash_state d writes k)
same_moment id d writes j k same = subst (λ (n : ℕ). HasSameLabels id (crash_state d writes j) (crash_state d writes n)) same (same_labels id (crash_state d writes j))

-- other words for the same lines, and more of them
keeps_longer : (id : ℕ) (lines more : List TraceLine) (part : ℕ → ℕ) (writes : List DiskWrite) (old : DiskState) → ((n : ℕ) → part n ≤ length lines) → KeepsUnnamed id lines part writes old → KeepsUnnamed id (lines ++ more) part writes old
keeps_longer id lines more part writes old by_last keeps d earlier j k revealed made un lasts le few =
    keeps d earlier j k revealed made (record { begins = un.begins; unnamed = λ n from to. sym (names_longer id lines more (part n) (by_last n)) ∙ un.unnamed n from to }) lasts le few

-- one part
keeps_one : (id : ℕ) (lines : List TraceLine) (may : ℕ → List Sector → DiskWrite → Type 0) (part : ℕ) {a b : DiskState} (wrote : Written (may part) a b) → (part_names id lines part ≡ false → Spares id a b)
    → KeepsUnnamed id lines (λ n. part) wrote.writes a
keeps_one id lines may part wrote spares d earlier (suc j) k revealed made un lasts le few = absurd (let less = un.begins 0 (omega arith) in omega (arith, less))
keeps_one id lines may part wrote spares d earlier zero zero revealed made un lasts le few = same_labels id d
keeps_one id lines may part wrote spares d earlier zero (suc k) revealed made un lasts le few =
    let is = spares (un.unnamed 0 (omega arith) (omega arith)) in
    let same = same_list earlier is.writes wrote.writes made is.appended wrote.appended in
    subst (λ (ws : List DiskWrite). HasSameLabels id d (crash_state d ws (suc k))) same (is.same d earlier revealed made lasts (suc k))

-- some parts and then others
module _ (id : ℕ) (lines : List TraceLine) (may : ℕ → List Sector → DiskWrite → Type 0) (mid last : ℕ) {a b c : DiskState} (one : InParts may mid a b) (two : InParts may last b c) (low : (n : ℕ) → mid ≤ two.part n)
    (first : KeepsUnnamed id lines one.part one.writes a) (next : KeepsUnnamed id lines two.part two.writes b) where
  abbrev part : ℕ → ℕ
  part = (parts_then may mid last one two low).part

  abbrev all : List DiskWrite
  all = one.writes ++ two.writes

  module _ (d : List Sector) (earlier : List DiskWrite) (revealed : a.contents ≡ Some d) (made : a.writes ≡ Some earlier) where
    abbrev now : ℕ → List Sector
    now n = crash_state d all n

    abbrev then_d : List Sector
    then_d = after_writes one.writes d

    in_first : (j k : ℕ) → IsUnnamed id lines part j k → IsLasting id (now j) → j < k → k ≤ length one.writes → HasSameLabels id (now j) (now k)
    in_first j k un lasts less few =
        let from : now j ≡ crash_state d one.writes j = crash_state-earlier d one.writes two.writes j (omega (arith, less, few)) in
        let to : now k ≡ crash_state d one.writes k = crash_state-earlier d one.writes two.writes k few in
        subst (λ (x : List Sector). HasSameLabels id x (now k)) (sym from) (subst (λ (x : List Sector). HasSameLabels id (crash_state d one.writes j) x) (sym to)
        (first d earlier j k revealed made (record {
          begins = λ n below. less_same (part n) (part j) (one.part n) (one.part j) (part_early may mid last one two low n (omega (arith, below, less, few))) (part_early may mid last one two low j (omega (arith, less, few))) (un.begins n below);
          unnamed = λ n from to. ap (part_names id lines) (sym (part_early may mid last one two low n (omega (arith, to, few)))) ∙ un.unnamed n from to;
        }) (subst (IsLasting id) from lasts) (omega (arith, less)) few))

    in_next : (j k : ℕ) → IsUnnamed id lines two.part j k → IsLasting id (now (length one.writes + j)) → j ≤ k → k ≤ length two.writes → HasSameLabels id (now (length one.writes + j)) (now (length one.writes + k))
    in_next j k un lasts le few =
        let from : now (length one.writes + j) ≡ crash_state then_d two.writes j = crash_state-later d one.writes two.writes j in
        let to : now (length one.writes + k) ≡ crash_state then_d two.writes k = crash_state-later d one.writes two.writes k in
        subst (λ (x : List Sector). HasSameLabels id x (now (length one.writes + k))) (sym from) (subst (λ (x : List Sector). HasSameLabels id (crash_state then_d two.writes j) x) (sym to)
        (next then_d (earlier ++ one.writes) j k (one.appended.contents ∙ ap (option_map (after_writes one.writes)) revealed) (one.appended.revealed ∙ ap (option_map (λ (l : List DiskWrite). l ++ one.writes)) made)
        un (subst (IsLasting id) from lasts) le few))

    unnamed_later : (j k : ℕ) → ((n : ℕ) → j ≤ n → n < k → part_names id lines (part n) ≡ false) → (n : ℕ) → j ≤ length one.writes + n → length one.writes + n < k → part_names id lines (two.part n) ≡ false
    unnamed_later j k un n from to = ap (part_names id lines) (sym (part_late may mid last one two low n)) ∙ un (length one.writes + n) from to

    -- from a moment of the other parts on
    after_first : (j k : ℕ) → IsUnnamed id lines part (length one.writes + j) (length one.writes + k) → IsLasting id (now (length one.writes + j)) → j ≤ k → k ≤ length two.writes → HasSameLabels id (now (length one.writes + j)) (now (length one.writes + k))
    after_first j k un lasts le few = in_next j k (record {
      begins = λ n below. less_same (part (length one.writes + n)) (part (length one.writes + j)) (two.part n) (two.part j) (part_late may mid last one two low n) (part_late may mid last one two low j) (un.begins (length one.writes + n) (omega (arith, below)));
      unnamed = λ n from to. unnamed_later (length one.writes + j) (length one.writes + k) un.unnamed n (omega (arith, from)) (omega (arith, to));
    }) lasts le few

    -- from a moment of the first ones on into the others
    through : (j k : ℕ) → IsUnnamed id lines part j (length one.writes + k) → IsLasting id (now j) → j < length one.writes → k ≤ length two.writes → HasSameLabels id (now j) (now (length one.writes + k))
    through j k un lasts below few =
        let half = in_first j (length one.writes) (record { begins = un.begins; unnamed = λ n from to. un.unnamed n from (omega (arith, to)) }) lasts below (omega arith) in
        let place : length one.writes ≡ length one.writes + 0 = omega arith in
        let there : HasSameLabels id (now j) (now (length one.writes + 0)) = subst (λ (n : ℕ). HasSameLabels id (now j) (now n)) place half in
        labels_then id (now j) (now (length one.writes + 0)) (now (length one.writes + k)) there
        (in_next 0 k (record { begins = λ n none. absurd (omega (arith, none)); unnamed = λ n from to. unnamed_later j (length one.writes + k) un.unnamed n (omega (arith, below)) (omega (arith, to)) })
        (lasting_still id (now j) (now (length one.writes + 0)) there lasts) (omega arith) few)

  pub keeps_then : KeepsUnnamed id lines (parts_then may mid last one two low).part (one.writes ++ two.writes) a
  keeps_then d earlier j k revealed made un lasts le few = elim (cases_eq j k) [
    | inl same ↦ same_moment id d all j k same
    | inr other ↦ elim (cases_lt j (length one.writes)) [
      | inr past ↦
          let first_place : length one.writes + (j - length one.writes) ≡ j = omega (arith, past) in
          let last_place : length one.writes + (k - length one.writes) ≡ k = omega (arith, past, le) in
          at j k (j - length one.writes) (k - length one.writes) first_place last_place un lasts le few
      | inl below ↦ elim (cases_lt (length one.writes) k) [
        | inr short ↦ in_first d earlier revealed made j k un lasts (omega (arith, le, other)) short
        | inl beyond ↦ let place : length one.writes + (k - length one.writes) ≡ k = omega (arith, beyond) in over k (k - length one.writes) place un few below
      ]
    ]
  ]
    where
      long : (n : ℕ) → length one.writes + n ≤ length (one.writes ++ two.writes) → n ≤ length two.writes
      long n few = let all = length-append one.writes two.writes in omega (arith, all, few)

      at : (j k m n : ℕ) → length one.writes + m ≡ j → length one.writes + n ≡ k → IsUnnamed id lines part j k → IsLasting id (crash_state d all j) → j ≤ k → k ≤ length all → HasSameLabels id (crash_state d all j) (crash_state d all k)
      at j k m n from to = subst (λ (x : ℕ). IsUnnamed id lines part x k → IsLasting id (crash_state d all x) → x ≤ k → k ≤ length all → HasSameLabels id (crash_state d all x) (crash_state d all k)) from
          (subst (λ (y : ℕ). IsUnnamed id lines part (length one.writes + m) y → IsLasting id (crash_state d all (length one.writes + m)) → length one.writes + m ≤ y → y ≤ length all → HasSameLabels id (crash_state d all (length one.writes + m)) (crash_state d all y)) to
          (λ un lasts le few. after_first d earlier revealed made m n un lasts (omega (arith, le)) (long n few)))

      over : (k n : ℕ) → length one.writes + n ≡ k → IsUnnamed id lines part j k → k ≤ length all → j < length one.writes → HasSameLabels id (crash_state d all j) (crash_state d all k)
      over k n to = subst (λ (y : ℕ). IsUnnamed id lines part j y → y ≤ length all → j < length one.writes → HasSameLabels id (crash_state d all j) (crash_state d all y)) to
          (λ un few below. through d earlier revealed made j n un lasts below (long n few))

-- ---- The parts of some lines.

-- no write
pub spares_none : (limit : ℕ) (disk : DiskState) (slots : Slots) (hid : ℕ → Type 0) → SparesInParts limit [] 0 disk slots disk hid
spares_none limit disk slots hid = record {
  parts = parts_none (PartMakes limit [] slots hid) 0 (record { contents = refl; writes = refl });
  keeps = λ id client low d earlier j k revealed made un lasts le few. same_moment id d [] j k (omega (arith, le, few));
}

-- some first lines of a trace
pub spares_longer : (limit : ℕ) (lines more whole : List TraceLine) (last : ℕ) {old new : DiskState} {before : Slots} {hid : ℕ → Type 0} → whole ≡ lines ++ more → length lines ≤ last
    → SparesInParts limit lines (length lines) old before new hid → SparesInParts limit whole last old before new hid
spares_longer limit lines more whole last {old = old} {new = new} {before = before} {hid = hid} are le on =
    subst (λ (ls : List TraceLine). SparesInParts limit ls last old before new hid) (sym are) (record {
      parts = parts_wider (PartMakes limit lines before hid) (PartMakes limit (lines ++ more) before hid) (length lines) last le
          (λ j d w few is. (may_longer lines more j d w few is.0, shown_longer limit lines more before hid j w few is.1)) on.parts;
      keeps = λ id client low. keeps_longer id lines more on.parts.part on.parts.writes old on.parts.by_last (on.keeps id client low);
    })

pub spares_later : {limit : ℕ} {lines : List TraceLine} {last later : ℕ} {a b : DiskState} {before : Slots} {hid : ℕ → Type 0} → last ≤ later → SparesInParts limit lines last a before b hid → SparesInParts limit lines later a before b hid
spares_later {limit = limit} {lines = lines} {last = last} {later = later} {before = before} {hid = hid} le on = record {
  parts = parts_wider (PartMakes limit lines before hid) (PartMakes limit lines before hid) last later le (λ j d w few is. is) on.parts;
  keeps = on.keeps;
}

-- one part more
pub spares_part : (limit : ℕ) (lines : List TraceLine) (mid part : ℕ) {a b c : DiskState} {before : Slots} {hid : ℕ → Type 0} → mid ≤ part → SparesInParts limit lines mid a before b hid
    → Written (PartMakes limit lines before hid part) b c → ((id : ℕ) → 16 ≤ id → id < limit → part_names id lines part ≡ false → Spares id b c) → SparesInParts limit lines part a before c hid
spares_part limit lines mid part {before = before} {hid = hid} le on wrote spares = record {
  parts = parts_then (PartMakes limit lines before hid) mid part on.parts (parts_one (PartMakes limit lines before hid) part wrote) (λ n. le);
  keeps = λ id client low.
      keeps_then id lines (PartMakes limit lines before hid) mid part on.parts (parts_one (PartMakes limit lines before hid) part wrote) (λ n. le) (on.keeps id client low)
      (keeps_one id lines (PartMakes limit lines before hid) part wrote (spares id client low));
}

-- and then nothing was written
pub spares_rest : {limit : ℕ} {lines : List TraceLine} {last : ℕ} {a b c : DiskState} {before : Slots} {hid : ℕ → Type 0} → SparesInParts limit lines last a before b hid → RevealsSame b c → SparesInParts limit lines last a before c hid
spares_rest {limit = limit} {lines = lines} {last = last} {before = before} {hid = hid} on same = record {
  parts = parts_still (PartMakes limit lines before hid) last on.parts same;
  keeps = on.keeps;
}

-- a start, and then the lines
module _ (limit fewer : ℕ) (lines : List TraceLine) (last : ℕ) {a b c : DiskState} (before : Slots) (some hid : ℕ → Type 0) (low : fewer ≤ limit) (clean : (id page : ℕ) → IsDirty before id page → volume_page id page) (too : (id : ℕ) → some id → hid id)
    (wrote : Written (PartMakes fewer lines [] some 0) a b) (all : SparesAll a b) (on : SparesInParts limit lines last b before c hid) where
  narrow : (part : ℕ) (w : DiskWrite) → OfShown limit lines before hid part w → OfShown fewer lines [] some part w
  narrow part (write.Whole sector label bytes) is = tt
  narrow part (write.LabelOnly sector label) is = tt
  narrow part (write.Page sector wanted bytes) is = (
    λ none. elim (is.0 none) [ inl dirty ↦ inr (clean wanted.id wanted.page dirty) | inr own ↦ inr own ],
    λ id client less none hides. elim (is.1 id client (omega (arith, less, low)) none (too id hides)) [
      | inl dirty ↦ inr (λ same. let own = clean wanted.id wanted.page dirty in omega (arith, own, client, same))
      | inr other ↦ inr other
    ],
  )

  abbrev begun : InParts (PartMakes fewer lines [] some) 0 a b
  begun = parts_one (PartMakes fewer lines [] some) 0 wrote

  abbrev rest : InParts (PartMakes fewer lines [] some) last b c
  rest = parts_wider (PartMakes limit lines before hid) (PartMakes fewer lines [] some) last last (omega arith) (λ j d w few is. (is.0, narrow j w is.1)) on.parts

  pub spares_started : SparesInParts fewer lines last a [] c some
  spares_started = record {
    parts = parts_then (PartMakes fewer lines [] some) 0 last begun rest (λ n. omega arith);
    keeps = λ id client less.
        keeps_then id lines (PartMakes fewer lines [] some) 0 last begun rest (λ n. omega arith) (keeps_one id lines (PartMakes fewer lines [] some) 0 wrote (λ none. all id client)) (on.keeps id client (omega (arith, less, low)));
  }
