-- The lines of files beside the files of a disk.
use Rattle.std.proofs.Common.{◌≡◌, ◌⊎◌, inl, inr, ℕ, zero, suc, ◌+◌, ◌-◌, ◌<◌, ◌≤◌, Bool, true, false, not, ◌&&◌, ◌||◌, cond, List, [], ◌∷◌, ◌++◌, length, map, Option, Some, None, refl, sym, ◌∙◌, ap, subst, arith, eqb}
use Rattle.std.specs.Prelude.{slice_get, nat_lt, option_map}
use Rattle.std.specs.List.{position_or_len, AllByRecursion}
use Rattle.std.specs.Option.{option_map_or}
use Rattle.std.proofs.lemmas.Option.{same_Some, none-some, slice_get-map, slice_get_within}
use Rattle.std.proofs.lemmas.Bool.{cases_lt, cases_eq, and_parts, eqb-true, eq-eqb, lt-ltb, ltb-true, false≢true}
use Rattle.labelled_disk.specs.declared.label.Label.{Label}
use Rattle.labelled_disk.specs.Label.{is_file, is_permanent, is_immutable, leader_page}
use Rattle.labelled_disk.specs.Sectors.{Sector}
use Rattle.labelled_disk.specs.Layout.{data_sectors, first_data}
use Rattle.labelled_disk.specs.File.{File, file_at, size}
use Rattle.labelled_disk.specs.FilesOn.{leads, leads_file, is_page, file_among, files_on, disk_file}
use Rattle.labelled_disk.specs.Lowest.{FilesAreAsRevealed, is_first, is_needed}
use Rattle.labelled_disk.specs.Ascending.{IsAscending, AreAscending}
use Rattle.labelled_disk.specs.WriteLaws.{HasData, FilesAreThose}
use Rattle.labelled_disk.proofs.AscendingLemmas.{at_low, at_head, at_tail}
use Rattle.label_laws.specs.Counts.{needs_place}
use Rattle.label_survey.specs.declared.triples.Triple.{Triple}
use Rattle.label_survey.specs.Triples.{IsUpTo, triple_of}
use Rattle.volume_view.specs.declared.files.FileLine.{FileLine}
use Rattle.volume_view.specs.Files.{IsLineOf, AreLinesOf}
use Rattle.volume_view.specs.Listed.{AreSorted, IsLineAt, IsPages, AreLinesTo}
use Rattle.volume_view.proofs.ListLemmas.{dropped, in_pushed, pushed_prefix, pushed_last}

-- ---- the lowest sector that passes

first_if : (test : Sector → Bool) (xs : List Sector) (i : ℕ) (s : Sector) → slice_get xs i ≡ Some s → test s ≡ true → ((j : ℕ) (t : Sector) → j < i → slice_get xs j ≡ Some t → test t ≡ false)
    → is_first test xs i ≡ true
first_if test [] i s here passes lower = absurd (none-some s here)
first_if test (x ∷ xs) zero s here passes lower = let e : test x ≡ true = ap test (same_Some x s here) ∙ passes in rw e refl
first_if test (x ∷ xs) (suc i) s here passes lower =
    let e : test x ≡ false = lower 0 x (omega arith) refl in
    let more = first_if test xs i s here passes (λ j t l at. lower (suc j) t (omega (arith, l)) at) in
    rw e (eq-eqb (1 + position_or_len test xs) (suc i) (omega (arith, eqb-true (position_or_len test xs) i more)))

first_passes : (test : Sector → Bool) (xs : List Sector) (i : ℕ) (s : Sector) → slice_get xs i ≡ Some s → is_first test xs i ≡ true → test s ≡ true
first_passes test [] i s here first = absurd (none-some s here)
first_passes test (x ∷ xs) zero s here first = ap test (sym (same_Some x s here)) ∙ either (test x) refl first
  where
    either : (b : Bool) → test x ≡ b → eqb (cond (not b) (1 + position_or_len test xs) 0) 0 ≡ true → test x ≡ true
    either true e h = e
    either false e h = absurd (omega (arith, eqb-true (1 + position_or_len test xs) 0 h))
first_passes test (x ∷ xs) (suc i) s here first = either (test x) first (λ h. first_passes test xs i s here h)
  where
    either : (b : Bool) → eqb (cond (not b) (1 + position_or_len test xs) 0) (suc i) ≡ true → (is_first test xs i ≡ true → test s ≡ true) → test s ≡ true
    either true h more = absurd (omega (arith, eqb-true 0 (suc i) h))
    either false h more = more (eq-eqb (position_or_len test xs) i (omega (arith, eqb-true (1 + position_or_len test xs) (suc i) h)))

or_left : (a b : Bool) → a ≡ true → (a || b) ≡ true
or_left true b e = refl
or_left false b e = absurd (false≢true e)

or_right : (a b : Bool) → b ≡ true → (a || b) ≡ true
or_right true b e = refl
or_right false b e = e

or_split : (a b : Bool) → (a || b) ≡ true → (a ≡ true) ⊎ (b ≡ true)
or_split true b h = inl refl
or_split false b h = inr h

and_both : (a b : Bool) → a ≡ true → b ≡ true → (a && b) ≡ true
and_both true b h k = k
and_both false b h k = absurd (false≢true h)

leads_parts : (id : ℕ) (s : Sector) → leads_file false id s ≡ true → (s.0.page ≡ leader_page) × (is_permanent s.0 ≡ true) × (s.0.id ≡ id)
leads_parts id s h =
    let outer = and_parts (leads false s) (eqb s.0.id id) h in
    let mid = and_parts (is_file s.0 && eqb s.0.page leader_page) (false || is_permanent s.0) outer.0 in
    let inner = and_parts (is_file s.0) (eqb s.0.page leader_page) mid.0 in
    (eqb-true s.0.page leader_page inner.1, mid.1, eqb-true s.0.id id outer.1)

page_parts : (id k : ℕ) (s : Sector) → is_page id k s ≡ true → (s.0.id ≡ id) × (s.0.page ≡ k)
page_parts id k s h =
    let outer = and_parts (is_file s.0 && eqb s.0.id id) (eqb s.0.page k) h in
    let inner = and_parts (is_file s.0) (eqb s.0.id id) outer.0 in
    (eqb-true s.0.id id inner.1, eqb-true s.0.page k outer.1)

module _ (d : List Sector) (revealed : FilesAreAsRevealed false d) where
  abbrev first : ℕ
  first = first_data (length d)

  needed_by : (i : ℕ) (s : Sector) (o : Option File) → slice_get (data_sectors d) i ≡ Some s → disk_file false d s.0.id ≡ o
      → is_needed false (data_sectors d) i ≡ option_map_or (λ f. is_first (leads_file false s.0.id) (data_sectors d) i || (nat_lt s.0.page (size f) && is_first (is_page s.0.id s.0.page) (data_sectors d) i)) o false
  needed_by i s o here is =
      ap (λ (p : Option Sector). option_map_or (λ s. option_map_or (λ f. is_first (leads_file false s.0.id) (data_sectors d) i || (nat_lt s.0.page (size f) && is_first (is_page s.0.id s.0.page) (data_sectors d) i)) (file_among false (data_sectors d) s.0.id) false) p false) here
      ∙ ap (λ (p : Option File). option_map_or (λ f. is_first (leads_file false s.0.id) (data_sectors d) i || (nat_lt s.0.page (size f) && is_first (is_page s.0.id s.0.page) (data_sectors d) i)) p false) is

  at_place : (i : ℕ) → needs_place false d (first + i) ≡ is_needed false (data_sectors d) i
  at_place i = let back : first + i - first ≡ i = omega arith in ap (is_needed false (data_sectors d)) back

  has_data : (i : ℕ) (s : Sector) → slice_get (data_sectors d) i ≡ Some s → HasData d (first + i) s
  has_data i s here = record { is_data = omega arith; here = sym (dropped d first i) ∙ here }

  module _ (triples : List Triple) (sorted : AreSorted d triples) where
    -- the leader of each file is among the triples
    leader_listed : (id : ℕ) (f : File) → disk_file false d id ≡ Some f → (k : ℕ) × (t : Triple) × (slice_get triples k ≡ Some t) × (t.id ≡ id) × (t.page ≡ leader_page)
    leader_listed id f is =
        let as_revealed = revealed.revealed id f is in
        let l = as_revealed.0.leader in
        let parts = leads_parts f.id l.1 l.2.passes in
        let same : l.1.0.id ≡ id = parts.2 ∙ as_revealed.1 in
        let lowest = first_if (leads_file false f.id) (data_sectors d) l.0 l.1 l.2.here l.2.passes l.2.none_below in
        let moved : is_first (leads_file false l.1.0.id) (data_sectors d) l.0 ≡ true = subst (λ (n : ℕ). is_first (leads_file false n) (data_sectors d) l.0 ≡ true) (sym parts.2) lowest in
        let needs = at_place l.0 ∙ needed_by l.0 l.1 (Some f) l.2.here (ap (disk_file false d) same ∙ is) ∙ or_left (is_first (leads_file false l.1.0.id) (data_sectors d) l.0) _ moved in
        let listed = sorted.needed.all (first + l.0) l.1 (has_data l.0 l.1 l.2.here) needs in
        (listed.0, triple_of (first + l.0) l.1.0, listed.1, same, parts.0)

    -- and so is each page
    page_listed : (id m : ℕ) (f : File) → disk_file false d id ≡ Some f → m < size f → (k : ℕ) × (t : Triple) × (slice_get triples k ≡ Some t) × (t.id ≡ id) × (t.page ≡ m)
    page_listed id m f is below =
        let as_revealed = revealed.revealed id f is in
        let p = as_revealed.0.page m below in
        let parts = page_parts f.id m p.1 p.2.passes in
        let same : p.1.0.id ≡ id = parts.0 ∙ as_revealed.1 in
        let lowest = first_if (is_page f.id m) (data_sectors d) p.0 p.1 p.2.here p.2.passes p.2.none_below in
        let moved : is_first (is_page p.1.0.id p.1.0.page) (data_sectors d) p.0 ≡ true =
        subst (λ (n : ℕ). is_first (is_page n p.1.0.page) (data_sectors d) p.0 ≡ true) (sym parts.0) (subst (λ (n : ℕ). is_first (is_page f.id n) (data_sectors d) p.0 ≡ true) (sym parts.1) lowest) in
        let small : nat_lt p.1.0.page (size f) ≡ true = lt-ltb p.1.0.page (size f) (omega (arith, parts.1, below)) in
        let needs = at_place p.0 ∙ needed_by p.0 p.1 (Some f) p.2.here (ap (disk_file false d) same ∙ is) ∙ or_right (is_first (leads_file false p.1.0.id) (data_sectors d) p.0) _ (and_both (nat_lt p.1.0.page (size f)) _ small moved) in
        let listed = sorted.needed.all (first + p.0) p.1 (has_data p.0 p.1 p.2.here) needs in
        (listed.0, triple_of (first + p.0) p.1.0, listed.1, same, parts.1)

    -- a triple is of a file: its lowest leader, or a page of it
    record IsOfFile (t : Triple) : Type 0 where
      f : File
      there : disk_file false d t.id ≡ Some f
      s : Sector
      data_is : HasData d t.sector s
      same_id : t.id ≡ s.0.id
      same_page : t.page ≡ s.0.page
      kind : (leads_file false t.id s ≡ true) × (is_first (leads_file false t.id) (data_sectors d) (t.sector - first) ≡ true) ⊎ (t.page < size f)

    of_file : (k : ℕ) (t : Triple) → slice_get triples k ≡ Some t → IsOfFile t
    of_file k t at = some (disk_file false d t.id) refl
      where
        has : (s : Sector) × HasData d t.sector s × (needs_place false d t.sector ≡ true) × (t.id ≡ s.0.id) × (t.page ≡ s.0.page)
        has = sorted.needed.each k t at

        there : slice_get (data_sectors d) (t.sector - first) ≡ Some has.0
        there = let from : first + (t.sector - first) ≡ t.sector = omega (arith, has.1.is_data) in dropped d first (t.sector - first) ∙ ap (slice_get d) from ∙ has.1.here

        some : (o : Option File) → disk_file false d t.id ≡ o → IsOfFile t
        some None e = absurd (false≢true (sym (needed_by (t.sector - first) has.0 None there (ap (disk_file false d) (sym has.3) ∙ e)) ∙ has.2))
        some (Some f) e =
            let needs = sym (needed_by (t.sector - first) has.0 (Some f) there (ap (disk_file false d) (sym has.3) ∙ e)) ∙ has.2 in
            record {
              f = f;
              there = e;
              s = has.0;
              data_is = has.1;
              same_id = has.3;
              same_page = has.4;
              kind = elim (or_split (is_first (leads_file false has.0.0.id) (data_sectors d) (t.sector - first)) _ needs) [
                | inl lead ↦
                    let moved : is_first (leads_file false t.id) (data_sectors d) (t.sector - first) ≡ true = subst (λ (n : ℕ). is_first (leads_file false n) (data_sectors d) (t.sector - first) ≡ true) (sym has.3) lead in
                    inl (first_passes (leads_file false t.id) (data_sectors d) (t.sector - first) has.0 there moved, moved)
                | inr page ↦
                    let parts = and_parts (nat_lt has.0.0.page (size f)) _ page in
                    inr (omega (arith, ltb-true has.0.0.page (size f) parts.0, has.4))
              ];
            }

    numbered : (id : ℕ) (f : File) → disk_file false d id ≡ Some f → size f ≤ leader_page
    numbered id f is = (revealed.revealed id f is).0.numbered

    -- a page of the file stands before its leader
    page_before : (j k : ℕ) (u t : Triple) → slice_get triples j ≡ Some u → slice_get triples k ≡ Some t → u.id ≡ t.id → t.page ≡ leader_page → u.page < leader_page → j < k
    page_before j k u t at there same lead low = elim (cases_lt j k) [
      | inl before ↦ before
      | inr not_before ↦ elim (sorted.up k j t u not_before there at) [
        | inl less ↦ absurd (omega (arith, less, same))
        | inr (_, inl less) ↦ absurd (omega (arith, less, lead, low))
        | inr (_, inr (equal, _)) ↦ absurd (omega (arith, equal, lead, low))
      ]
    ]

    pub size_first : (t : Triple) (f : File) → slice_get triples 0 ≡ Some t → t.page ≡ leader_page → disk_file false d t.id ≡ Some f → size f ≡ 0
    size_first t f at lead is = elim (cases_lt 0 (size f)) [
      | inl some ↦
          let p = page_listed t.id 0 f is some in
          let before = page_before p.0 0 p.1 t p.2 at p.3 lead (omega (arith, p.4)) in
          absurd (omega (arith, before))
      | inr none ↦ omega (arith, none)
    ]

    -- the leader is the one that follows this triple
    module _ (k : ℕ) (last t : Triple) (f : File) (before : slice_get triples k ≡ Some last) (at : slice_get triples (k + 1) ≡ Some t) (lead : t.page ≡ leader_page) (is : disk_file false d t.id ≡ Some f) where
      upto : (j : ℕ) (u : Triple) → slice_get triples j ≡ Some u → u.id ≡ t.id → u.page < leader_page → IsUpTo u last
      upto j u here same low = let less = page_before j (k + 1) u t here at same lead low in sorted.up j k u last (omega (arith, less)) here before

      pub size_after : last.id ≡ t.id → last.page < leader_page → last.page + 1 ≡ size f
      size_after same low =
          let own = of_file k last before in
          let equal : own.f ≡ f = same_Some own.f f (sym own.there ∙ ap (disk_file false d) same ∙ is) in
          let below : last.page < size f = elim own.kind [
            | inl lead_too ↦ absurd (omega (arith, own.same_page, (leads_parts last.id own.s lead_too.0).0, low))
            | inr less ↦ omega (arith, less, ap size equal)
          ] in
          elim (cases_lt (last.page + 1) (size f)) [
            | inl more ↦
                let p = page_listed t.id (last.page + 1) f is more in
                elim (upto p.0 p.1 p.2 p.3 (omega (arith, p.4, more, numbered t.id f is))) [
                  | inl less ↦ absurd (omega (arith, less, p.3, same))
                  | inr (_, inl less) ↦ absurd (omega (arith, less, p.4))
                  | inr (_, inr (page, _)) ↦ absurd (omega (arith, page, p.4))
                ]
            | inr not_more ↦ omega (arith, not_more, below)
          ]

      pub size_none : (last.id ≡ t.id → last.page < leader_page → ⊥) → size f ≡ 0
      size_none other = elim (cases_lt 0 (size f)) [
        | inl some ↦
            let p = page_listed t.id 0 f is some in
            let up = upto p.0 p.1 p.2 p.3 (omega (arith, p.4)) in
            let down = sorted.up k (k + 1) last t (omega arith) before at in
            let low_id : t.id ≤ last.id = elim up [ inl less ↦ omega (arith, less, p.3) | inr both ↦ omega (arith, both.0, p.3) ] in
            let high_id : last.id ≤ t.id = elim down [ inl less ↦ omega (arith, less) | inr both ↦ omega (arith, both.0) ] in
            let same : last.id ≡ t.id = omega (arith, low_id, high_id) in
            elim (of_file k last before).kind [
              | inl lead_too ↦
                  let page : last.page ≡ leader_page = (of_file k last before).same_page ∙ (leads_parts last.id (of_file k last before).s lead_too.0).0 in
                  let twice = sorted.needed.apart k (k + 1) last t before at same (page ∙ sym lead) in
                  absurd (omega (arith, twice))
              | inr less ↦ absurd (other same (omega (arith, less, numbered last.id (of_file k last before).f (of_file k last before).there)))
            ]
        | inr none ↦ omega (arith, none)
      ]

    -- the same by the place of the leader

    pub pages_none : (k : ℕ) → k ≡ 0 → IsPages d triples k 0
    pages_none k none t f at lead is = sym (size_first t f (ap (slice_get triples) (sym none) ∙ at) lead is)

    module _ (k : ℕ) (last here : Triple) (some : 1 ≤ k) (before : slice_get triples (k - 1) ≡ Some last) (at : slice_get triples k ≡ Some here) where
      after : (t : Triple) → slice_get triples k ≡ Some t → slice_get triples (k - 1 + 1) ≡ Some t
      after t there = let e : k - 1 + 1 ≡ k = omega (arith, some) in ap (slice_get triples) e ∙ there

      pub pages_after : last.id ≡ here.id → last.page < leader_page → IsPages d triples k (last.page + 1)
      pages_after same low t f there lead is =
          let it = same_Some here t (sym at ∙ there) in
          size_after (k - 1) last t f before (after t there) lead is (same ∙ ap (λ (u : Triple). u.id) it) low

      pub pages_other : (last.id ≡ here.id → last.page < leader_page → ⊥) → IsPages d triples k 0
      pages_other other t f there lead is =
          let it = same_Some here t (sym at ∙ there) in
          sym (size_none (k - 1) last t f before (after t there) lead is (λ same low. other (same ∙ ap (λ (u : Triple). u.id) (sym it)) low))

    -- ---- a line

    module _ (labels : List Label) (n : ℕ) (from : n ≡ first) (are : labels ≡ map (λ s. s.0) (data_sectors d)) where
      -- the line of the leader
      pub line_there : (k : ℕ) (t : Triple) (line : FileLine) (label : Label) → slice_get triples k ≡ Some t → t.page ≡ leader_page → slice_get labels (t.sector - n) ≡ Some label
          → line.id ≡ t.id → ((f : File) → disk_file false d t.id ≡ Some f → line.pages ≡ size f) → line.kind ≡ label.kind → line.immutable ≡ is_immutable label → line.leader ≡ t.sector → IsLineAt d triples k (Some line)
      line_there k t line label at lead labelled_so id pages kind immutable leader =
          let own = of_file k t at in
          let as_revealed = revealed.revealed t.id own.f own.there in
          let l = as_revealed.0.leader in
          let lowest : is_first (leads_file false t.id) (data_sectors d) l.0 ≡ true = subst (λ (i : ℕ). is_first (leads_file false i) (data_sectors d) l.0 ≡ true) as_revealed.1 (first_if (leads_file false own.f.id) (data_sectors d) l.0 l.1 l.2.here l.2.passes l.2.none_below) in
          elim own.kind [
            | inr less ↦ absurd (omega (arith, less, lead, numbered t.id own.f own.there))
            | inl leading ↦
                let same_at : t.sector - first ≡ l.0 = sym (eqb-true _ _ leading.1) ∙ eqb-true _ _ lowest in
                let there : slice_get (data_sectors d) (t.sector - first) ≡ Some l.1 = ap (slice_get (data_sectors d)) same_at ∙ l.2.here in
                let by_disk : slice_get labels (t.sector - n) ≡ Some l.1.0 =
                ap (λ (m : List Label). slice_get m (t.sector - n)) are ∙ slice_get-map (λ (s : Sector). s.0) (data_sectors d) (t.sector - n) ∙ ap (λ (m : ℕ). option_map (λ (s : Sector). s.0) (slice_get (data_sectors d) (t.sector - m))) from ∙ ap (option_map (λ (s : Sector). s.0)) there in
                let label_is : label ≡ l.1.0 = same_Some label l.1.0 (sym labelled_so ∙ by_disk) in
                let passes : leads_file false own.f.id own.s ≡ true = subst (λ (i : ℕ). leads_file false i own.s ≡ true) (sym as_revealed.1) leading.0 in (
                  t,
                  at,
                  lead,
                  id,
                  record {
                    f = own.f;
                    there = ap (disk_file false d) id ∙ own.there;
                    is = record {
                      id = id ∙ sym as_revealed.1;
                      pages = pages own.f own.there;
                      kind = kind ∙ ap (λ (m : Label). m.kind) label_is ∙ sym l.3;
                      permanent = l.4 ∙ (leads_parts own.f.id l.1 l.2.passes).1;
                      immutable = immutable ∙ ap is_immutable label_is ∙ sym l.5;
                      leader = (own.s, subst (λ (i : ℕ). HasData d i own.s) (sym leader) own.data_is, passes);
                    };
                  },
                )
          ]

      -- the sector of a triple has a label
      pub label_there : (k : ℕ) (t : Triple) → slice_get triples k ≡ Some t → (n ≤ t.sector) × ((label : Label) × (slice_get labels (t.sector - n) ≡ Some label))
      label_there k t at =
          let own = of_file k t at in
          let place : first + (t.sector - first) ≡ t.sector = omega (arith, own.data_is.is_data) in (
            omega (arith, from, own.data_is.is_data),
            (
              own.s.0,
              ap (λ (m : List Label). slice_get m (t.sector - n)) are ∙ slice_get-map (λ (s : Sector). s.0) (data_sectors d) (t.sector - n) ∙ ap (λ (m : ℕ). option_map (λ (s : Sector). s.0) (slice_get (data_sectors d) (t.sector - m))) from
                  ∙ ap (option_map (λ (s : Sector). s.0)) (dropped d first (t.sector - first) ∙ ap (slice_get d) place ∙ own.data_is.here),
            ),
          )

    -- ---- the lines so far

    pub lines_none : AreLinesTo d triples 0 []
    lines_none = record { each = λ j line at. absurd (none-some line at); all = λ i t below. absurd (omega (arith, below)); ascending = tt }

    module _ (k : ℕ) (lines : List FileLine) (so_far : AreLinesTo d triples k lines) where
      pub lines_same : IsLineAt d triples k None → AreLinesTo d triples (k + 1) lines
      lines_same no_leader = record {
        each = λ j line at. let old = so_far.each j line at in (old.0, omega (arith, old.1), old.2);
        all = λ i t below at lead. elim (cases_eq i k) [
          | inl same ↦ absurd (no_leader t (ap (slice_get triples) (sym same) ∙ at) lead)
          | inr apart ↦ so_far.all i t (omega (arith, below, apart)) at lead
        ];
        ascending = so_far.ascending;
      }

      pub lines_more : (line : FileLine) (new : List FileLine) → IsLineAt d triples k (Some line) → new ≡ lines ++ line ∷ [] → AreLinesTo d triples (k + 1) new
      lines_more line new is pushed = record {
        each = λ j other at. elim (in_pushed lines line j other (ap (λ (l : List FileLine). slice_get l j) (sym pushed) ∙ at)) [
          | inl old ↦ let was = so_far.each j other old in (was.0, omega (arith, was.1), was.2)
          | inr last ↦ (k, omega arith, subst (λ (x : FileLine). IsLineAt d triples k (Some x)) last is)
        ];
        all = λ i t below at lead. elim (cases_eq i k) [
          | inl same ↦
              let it : is.0 ≡ t = same_Some is.0 t (sym is.1 ∙ ap (slice_get triples) (sym same) ∙ at) in
              (length lines, line, ap (λ (l : List FileLine). slice_get l (length lines)) pushed ∙ pushed_last lines line, is.3 ∙ ap (λ (u : Triple). u.id) it)
          | inr apart ↦
              let old = so_far.all i t (omega (arith, below, apart)) at lead in
              (old.0, old.1, ap (λ (l : List FileLine). slice_get l old.0) pushed ∙ pushed_prefix lines line old.0 old.1 old.2, old.3)
        ];
        ascending = subst (λ (l : List FileLine). IsAscending (map (λ x. x.id) l)) (sym pushed) (rises lines line so_far.ascending (λ j other at. above j other at));
      }
        where
          above : (j : ℕ) (other : FileLine) → slice_get lines j ≡ Some other → other.id < line.id
          above j other at =
              let was = so_far.each j other at in
              elim (sorted.up was.0 k was.2.0 is.0 (omega (arith, was.1)) was.2.1 is.1) [
                | inl less ↦ omega (arith, less, was.2.3, is.3)
                | inr both ↦
                    let twice = sorted.needed.apart was.0 k was.2.0 is.0 was.2.1 is.1 both.0 (was.2.2 ∙ sym is.2) in
                    absurd (omega (arith, twice, was.1))
              ]

          rises : (xs : List FileLine) (x : FileLine) → IsAscending (map (λ l. l.id) xs) → ((j : ℕ) (other : FileLine) → slice_get xs j ≡ Some other → other.id < x.id) → IsAscending (map (λ l. l.id) (xs ++ x ∷ []))
          rises [] x up below = (tt, tt)
          rises (y ∷ xs) x up below = (all_more xs up.0, rises xs x up.1 (λ j other at. below (suc j) other at))
            where
              all_more : (zs : List FileLine) → AllByRecursion (λ m. y.id < m) (map (λ l. l.id) zs) → AllByRecursion (λ m. y.id < m) (map (λ l. l.id) (zs ++ x ∷ []))
              all_more [] h = (below 0 y refl, tt)
              all_more (z ∷ zs) h = (h.0, all_more zs h.1)

-- ---- all lines

-- a line for each file, and a file for each line
record AreBoth (d : List Sector) (lines : List FileLine) (files : List File) : Type 0 where
  up : IsAscending (map (λ l. l.id) lines)
  rise : AreAscending files
  each : (j : ℕ) (line : FileLine) → slice_get lines j ≡ Some line → (f : File) × (file_at files line.id ≡ Some f) × IsLineOf d line f
  all : (id : ℕ) (f : File) → file_at files id ≡ Some f → (j : ℕ) × (line : FileLine) × (slice_get lines j ≡ Some line) × (line.id ≡ id)

above_first : (x : FileLine) (xs : List FileLine) → AllByRecursion (λ m. x.id < m) (map (λ l. l.id) xs) → (j : ℕ) (line : FileLine) → slice_get xs j ≡ Some line → x.id < line.id
above_first x [] h j line at = absurd (none-some line at)
above_first x (y ∷ xs) h zero line at = let it = same_Some y line at in omega (arith, h.0, ap (λ (l : FileLine). l.id) it)
above_first x (y ∷ xs) h (suc j) line at = above_first x xs h.1 j line at

upto_first : (x : FileLine) (xs : List FileLine) → AllByRecursion (λ m. x.id < m) (map (λ l. l.id) xs) → (j : ℕ) (line : FileLine) → slice_get (x ∷ xs) j ≡ Some line → x.id ≤ line.id
upto_first x xs h zero line at = let it = same_Some x line at in omega (arith, ap (λ (l : FileLine). l.id) it)
upto_first x xs h (suc j) line at = let more = above_first x xs h j line at in omega (arith, more)

-- what is looked up is not below the first
found_from : (f : File) (fs : List File) (id : ℕ) (g : File) → AreAscending (f ∷ fs) → file_at (f ∷ fs) id ≡ Some g → f.id ≤ id
found_from f fs id g rise at = elim (cases_lt id f.id) [
  | inl less ↦
      let none = at_tail f fs id (λ e. omega (arith, e, less)) ∙ at_low fs f.id id rise.0 (omega (arith, less)) in
      absurd (none-some g (sym none ∙ at))
  | inr not_less ↦ not_less
]

lines_of : (d : List Sector) (lines : List FileLine) (files : List File) → AreBoth d lines files → AreLinesOf d lines files
lines_of d [] [] both = tt
lines_of d [] (f ∷ fs) both = let l = both.all f.id f (at_head f fs) in none-some l.1 l.2
lines_of d (x ∷ xs) [] both = let f = both.each 0 x refl in none-some f.0 f.1
lines_of d (x ∷ xs) (f ∷ fs) both = (head, lines_of d xs fs tail)
  where
    own : (g : File) × (file_at (f ∷ fs) x.id ≡ Some g) × IsLineOf d x g
    own = both.each 0 x refl

    of_f : (j : ℕ) × (line : FileLine) × (slice_get (x ∷ xs) j ≡ Some line) × (line.id ≡ f.id)
    of_f = both.all f.id f (at_head f fs)

    same : x.id ≡ f.id
    same =
        let low = found_from f fs x.id own.0 both.rise own.1 in
        let high = upto_first x xs both.up.0 of_f.0 of_f.1 of_f.2 in
        omega (arith, low, high, of_f.3)

    head : IsLineOf d x f
    head = subst (IsLineOf d x) (same_Some own.0 f (sym own.1 ∙ ap (file_at (f ∷ fs)) same ∙ at_head f fs)) own.2

    tail : AreBoth d xs fs
    tail = record {
      up = both.up.1;
      rise = both.rise.1;
      each = λ j line at.
          let more = both.each (suc j) line at in
          let above = above_first x xs both.up.0 j line at in
          (more.0, sym (at_tail f fs line.id (λ e. omega (arith, e, above, same))) ∙ more.1, more.2);
      all = λ id g at. later id g at (both.all id g (at_tail f fs id (λ e. none-some g (sym (at_low fs f.id id both.rise.0 (omega (arith, e))) ∙ at)) ∙ at));
    }
      where
        later : (id : ℕ) (g : File) → file_at fs id ≡ Some g → (j : ℕ) × (line : FileLine) × (slice_get (x ∷ xs) j ≡ Some line) × (line.id ≡ id) → (j : ℕ) × (line : FileLine) × (slice_get xs j ≡ Some line) × (line.id ≡ id)
        later id g at (suc j, line, here, is) = (j, line, here, is)
        later id g at (zero, line, here, is) =
            let it = same_Some x line here in
            let low : id ≤ f.id = omega (arith, is, ap (λ (l : FileLine). l.id) it, same) in
            absurd (none-some g (sym (at_low fs f.id id both.rise.0 low) ∙ at))

-- the lines of all leaders are those of the files
pub all_lines : (d : List Sector) (revealed : FilesAreAsRevealed false d) (those : FilesAreThose false d) (triples : List Triple) (sorted : AreSorted d triples) (k : ℕ) (lines : List FileLine) → length triples ≤ k → AreLinesTo d triples k lines → AreLinesOf d lines (files_on d)
all_lines d revealed those triples sorted k lines long are = lines_of d lines (files_on d) record {
  up = are.ascending;
  rise = those.rise;
  each = λ j line at. let is = (are.each j line at).2.4 in (is.f, those.each line.id ∙ is.there, is.is);
  all = λ id f at.
      let leader = leader_listed d revealed triples sorted id f (sym (those.each id) ∙ at) in
      let found = are.all leader.0 leader.1 (omega (arith, long, slice_get_within triples leader.0 leader.1 leader.2)) leader.2 leader.4 in
      (found.0, found.1, found.2, found.3 ∙ leader.3);
}
