-- A file that is shortened or lengthened at its end stays whole.
use Rattle.std.proofs.Common.{◌≡◌, ◌≢◌, ◌⊎◌, inl, inr, ℕ, suc, ◌+◌, ◌<◌, ◌≤◌, Bool, true, false, List, [], ◌∷◌, ◌++◌, map, length, take, Option, Some, None, refl, sym, ◌∙◌, ap, subst, arith, ◌&&◌, ◌||◌, eqb}
use Rattle.std.specs.Prelude.{slice_get, slice_set, option_map}
use Rattle.std.proofs.lemmas.Bool.{cases_eq, true≢false}
use Rattle.std.proofs.lemmas.List.{length_push, length-take-le}
use Rattle.std.proofs.lemmas.Option.{same_Some, none-some, slice_get_within}
use Rattle.labelled_disk.specs.declared.label.Label.{Label}
use Rattle.labelled_disk.specs.File.{File, Page, byte, size}
use Rattle.labelled_disk.specs.FilesOn.{is_of, is_page, leads_file, page_at, file_among, disk_file}
use Rattle.labelled_disk.specs.Label.{is_file, is_permanent, leader_page}
use Rattle.labelled_disk.specs.Layout.{data_sectors}
use Rattle.labelled_disk.specs.Right.{IsWhole}
use Rattle.labelled_disk.specs.Sectors.{Sector}
use Rattle.labelled_disk.proofs.Finds.{IsAlone, find_none, get_set_same, get_set_other}
use Rattle.labelled_disk.proofs.LowestLemmas as lowest
use Rattle.labelled_disk.proofs.Pages.{pages_most}
use Rattle.labelled_disk.proofs.SectorWrites as w
use Rattle.labelled_disk.proofs.WriteLemmas as laws
use Rattle.label_laws.specs.Shape.{bare_file, BareFile}
use Rattle.cut_laws.specs.ShapeLaws.{IsWholeOn}
use Rattle.cut_laws.specs.SizeLaws.{RightIsWhole}
use Rattle.cut_laws.proofs.CrashStateLemmas.{get_some}
use Rattle.cut_laws.proofs.PairLemmas.{Pairs, Alike, alike_passes, alike_sym, alike_test}
use Rattle.cut_laws.proofs.StayLemmas.{Of, shape_pairs}

-- Over lists of sectors.
abbrev pub IsWholeAmong : List Sector → ℕ → Type 0
IsWholeAmong xs id = (f : File) × (file_among true xs id ≡ Some f) × (f.id ≡ id) × IsWhole xs f

-- and it has so many pages
abbrev pub IsSizedAmong : List Sector → ℕ → ℕ → Type 0
IsSizedAmong xs id n = (whole : IsWholeAmong xs id) × (size whole.0 ≡ n)

abbrev pub whole_among : (d : List Sector) (id : ℕ) → IsWholeOn d id → IsWholeAmong (data_sectors d) id
whole_among d id whole = (whole.0, whole.1, ((lowest.files_are_as_revealed true d).revealed id whole.0 whole.1).1, whole.2)

abbrev pub IsSizedOn : List Sector → ℕ → ℕ → Type 0
IsSizedOn d id n = (whole : IsWholeOn d id) × (size whole.0 ≡ n)

pub whole_on : (d : List Sector) (id n : ℕ) → IsSizedAmong (data_sectors d) id n → IsSizedOn d id n
whole_on d id n sized = ((sized.0.0, sized.0.1, sized.0.3), sized.1)

-- by the labels of the file
pub whole_alike : (id : ℕ) (xs ys : List Sector) → Pairs (λ s t. Alike (Of id) s.0 t.0) xs ys → (whole : IsWholeAmong xs id) → IsSizedAmong ys id (size whole.0)
whole_alike id xs ys pairs whole =
    let g = there (file_among true ys id) refl (shape_pairs true id xs ys pairs ∙ ap (λ (o : Option File). option_map bare_file o) whole.1) in
    let ids : g.0.id ≡ id = ap (λ (b : BareFile). b.id) g.2 ∙ whole.2 in (
      (
        g.0,
        g.1,
        ids,
        record {
          no_other = λ i t at of.
              let s = back i t at (ap (λ (n : ℕ). is_of n t) (sym ids) ∙ of) in
              elim (whole.3.no_other i s.0 s.1 (ap (λ (n : ℕ). is_of n s.0) whole.2 ∙ s.3)) [
                | inl lead ↦ inl (ap (λ (l : Label). l.page) (sym s.2) ∙ lead)
                | inr less ↦ inr (omega (arith, less, ap (λ (l : Label). l.page) s.2, ap (λ (b : BareFile). b.pages) g.2))
              ];
          once = λ i j t u at there of also same.
              let s = back i t at (ap (λ (n : ℕ). is_of n t) (sym ids) ∙ of) in
              let v = back j u there (ap (λ (n : ℕ). is_of n u) (sym ids) ∙ also) in
              whole.3.once i j s.0 v.0 s.1 v.1 (ap (λ (n : ℕ). is_of n s.0) whole.2 ∙ s.3) (ap (λ (n : ℕ). is_of n v.0) whole.2 ∙ v.3)
              (ap (λ (l : Label). l.page) s.2 ∙ same ∙ ap (λ (l : Label). l.page) (sym v.2));
        },
      ),
      ap (λ (b : BareFile). b.pages) g.2,
    )
  where
    there : (o : Option File) → file_among true ys id ≡ o → option_map bare_file (file_among true ys id) ≡ Some (bare_file whole.0) → (g : File) × (file_among true ys id ≡ Some g) × (bare_file g ≡ bare_file whole.0)
    there None e h = absurd (none-some (bare_file whole.0) (sym (ap (λ (o : Option File). option_map bare_file o) e) ∙ h))
    there (Some g) e h = (g, e, same_Some (bare_file g) (bare_file whole.0) (sym (ap (λ (o : Option File). option_map bare_file o) e) ∙ h))

    -- the sector that was there had the same label
    back : (i : ℕ) (t : Sector) → slice_get ys i ≡ Some t → is_of id t ≡ true → (s : Sector) × (slice_get xs i ≡ Some s) × (s.0 ≡ t.0) × (is_of id s ≡ true)
    back i t at of =
        let s = get_some xs i (omega (arith, slice_get_within ys i t at, pairs.long)) in
        let alike = pairs.each i s.0 t s.1 at in
        (s.0, s.1, sym (alike_passes (Of id) t.0 s.0.0 (alike_sym (Of id) s.0.0 t.0 alike) of), sym (alike_test (Of id) s.0.0 t.0 alike) ∙ of)

module _ (id : ℕ) (xs : List Sector) (i : ℕ) (s t : Sector) (here : slice_get xs i ≡ Some s) (whole : IsWholeAmong xs id) where
  within : i < length xs
  within = slice_get_within xs i s here

  -- a sector of the list that was written
  after : (j : ℕ) (u : Sector) → slice_get (slice_set xs i t) j ≡ Some u → ((j ≡ i) × (u ≡ t)) ⊎ ((j ≢ i) × (slice_get xs j ≡ Some u))
  after j u at = elim (cases_eq j i) [
    | inl e ↦ inl (e, same_Some u t (sym at ∙ ap (λ (k : ℕ). slice_get (slice_set xs i t) k) e ∙ get_set_same xs i t within))
    | inr off ↦ inr (off, sym (get_set_other xs i j t off) ∙ at)
  ]

  mine : (u : Sector) → is_of whole.0.id u ≡ true → is_of id u ≡ true
  mine u of = ap (λ (n : ℕ). is_of n u) (sym whole.2) ∙ of

  -- page p of the file alone
  alone : (p : ℕ) → is_page id p s ≡ true → IsAlone (is_page id p) xs i
  alone p is j u at passes =
      whole.3.once j i u s at here (ap (λ (n : ℕ). is_of n u) whole.2 ∙ w.page_of true id p u passes) (ap (λ (n : ℕ). is_of n s) whole.2 ∙ w.page_of true id p s is)
      (w.page_number true id p u passes ∙ sym (w.page_number true id p s is))

  -- the last page is freed
  pub whole_shorter : (p : ℕ) → size whole.0 ≡ suc p → is_page id p s ≡ true → is_of id t ≡ false → IsSizedAmong (slice_set xs i t) id p
  whole_shorter p count is new =
      let numbered : size whole.0 ≤ leader_page = omega (arith, many) in
      let less : p ≤ length whole.0.pages = omega (arith, count) in
      let long : length (take p whole.0.pages) ≡ p = length-take-le p whole.0.pages less in (
        (
          record whole.0 { pages = take p whole.0.pages },
          w.cut true xs i s t here id p is (alone p is) (omega (arith, count, many)) new ∙ ap (λ (o : Option File). option_map (λ (f : File). record f { pages = take p f.pages }) o) whole.1,
          whole.2,
          record {
            no_other = λ j u at of. elim (after j u at) [
              | inl e ↦ absurd (true≢false (sym (mine u of) ∙ ap (λ (v : Sector). is_of id v) e.1 ∙ new))
              | inr old ↦ elim (whole.3.no_other j u old.1 of) [
                | inl lead ↦ inl lead
                | inr low ↦ inr (omega (arith, low, count, long, other j u old.0 old.1 of))
              ]
            ];
            once = λ j k u v at there of also same. elim (after j u at) [
              | inl e ↦ absurd (true≢false (sym (mine u of) ∙ ap (λ (v : Sector). is_of id v) e.1 ∙ new))
              | inr old ↦ elim (after k v there) [
                | inl e ↦ absurd (true≢false (sym (mine v also) ∙ ap (λ (v : Sector). is_of id v) e.1 ∙ new))
                | inr too ↦ whole.3.once j k u v old.1 too.1 of also same
              ]
            ];
          },
        ),
        long,
      )
    where
      many : size whole.0 ≤ leader_page
      many = subst (λ (n : ℕ). n ≤ leader_page) (sym (ap (λ (l : List Page). length l) (w.file_pages true xs id whole.0 whole.1)))
          (pages_most (page_at xs id) 0 leader_page)

      other : (j : ℕ) (u : Sector) → j ≢ i → slice_get xs j ≡ Some u → is_of whole.0.id u ≡ true → u.0.page ≢ p
      other j u off at of e =
          off (whole.3.once j i u s at here of (ap (λ (n : ℕ). is_of n s) whole.2 ∙ w.page_of true id p s is) (e ∙ sym (w.page_number true id p s is)))

  -- a page after the last one
  pub whole_longer : is_of id s ≡ false → is_page id (size whole.0) t ≡ true → suc (size whole.0) < leader_page → IsSizedAmong (slice_set xs i t) id (suc (size whole.0))
  whole_longer old is room = (
    (
      record whole.0 { pages = whole.0.pages ++ map byte t.1 ∷ [] },
      w.grown true xs i s t here id whole.0 whole.1 old is (none (size whole.0) (omega arith) (omega (arith, room))) (none (size whole.0 + 1) (omega arith) (omega (arith, room))) (omega (arith, room)),
      whole.2,
      record {
        no_other = λ j u at of. elim (after j u at) [
          | inl e ↦ inr (omega (arith, length_push whole.0.pages (map byte t.1), ap (λ (v : Sector). v.0.page) e.1, number))
          | inr before ↦ elim (whole.3.no_other j u before.1 of) [
            | inl lead ↦ inl lead
            | inr low ↦ inr (omega (arith, low, length_push whole.0.pages (map byte t.1)))
          ]
        ];
        once = λ j k u v at there of also same. one j k u v of also same (after j u at) (after k v there);
      },
    ),
    let long : length (whole.0.pages ++ map byte t.1 ∷ []) ≡ suc (size whole.0) = omega (arith, length_push whole.0.pages (map byte t.1)) in long,
  )
    where
      number : t.0.page ≡ size whole.0
      number = w.page_number true id (size whole.0) t is

      -- no page at or after the end
      beyond : (p : ℕ) → size whole.0 ≤ p → p < leader_page → (j : ℕ) (u : Sector) → slice_get xs j ≡ Some u → (b : Bool) → is_page id p u ≡ b → is_page id p u ≡ false
      beyond p past low j u at false f = f
      beyond p past low j u at true f =
          let page : u.0.page ≡ p = w.page_number true id p u f in
          elim (whole.3.no_other j u at (ap (λ (n : ℕ). is_of n u) whole.2 ∙ w.page_of true id p u f)) [
            | inl lead ↦ absurd (omega (arith, lead, page, low))
            | inr less ↦ absurd (omega (arith, less, page, past))
          ]

      none : (p : ℕ) → size whole.0 ≤ p → p < leader_page → page_at xs id p ≡ None
      none p past low = ap (λ (o : Option Sector). option_map (λ u. map byte u.1) o) (find_none (is_page id p) xs (λ j u at. beyond p past low j u at (is_page id p u) refl))

      -- an old sector has another number
      apart : (j : ℕ) (u : Sector) → slice_get xs j ≡ Some u → is_of whole.0.id u ≡ true → u.0.page ≢ size whole.0
      apart j u at of e = elim (whole.3.no_other j u at of) [ inl lead ↦ omega (arith, lead, e, room) | inr less ↦ omega (arith, less, e) ]

      one : (j k : ℕ) (u v : Sector) → is_of whole.0.id u ≡ true → is_of whole.0.id v ≡ true → u.0.page ≡ v.0.page → ((j ≡ i) × (u ≡ t)) ⊎ ((j ≢ i) × (slice_get xs j ≡ Some u))
          → ((k ≡ i) × (v ≡ t)) ⊎ ((k ≢ i) × (slice_get xs k ≡ Some v)) → j ≡ k
      one j k u v of also same (inl a) (inl b) = a.0 ∙ sym b.0
      one j k u v of also same (inr a) (inr b) = whole.3.once j k u v a.1 b.1 of also same
      one j k u v of also same (inl a) (inr b) = absurd (apart k v b.1 also (sym same ∙ ap (λ (w : Sector). w.0.page) a.1 ∙ number))
      one j k u v of also same (inr a) (inl b) = absurd (apart j u a.1 of (same ∙ ap (λ (w : Sector). w.0.page) b.1 ∙ number))

-- With right labels a file that counts has one leader, and so is the file whether or not temporary ones count.
pub right_is_whole : (all : Bool) → RightIsWhole all
right_is_whole all serial counter d id f right is =
    let revealed = (lowest.files_are_as_revealed all d).revealed id f is in
    let whole = laws.of_file all 0 0 (IsWhole (data_sectors d)) d right.whole_files id f is in
    let l = revealed.0.leader in
    let own : is_of f.id l.1 ≡ true = laws.leader_of all 0 0 f.id l.1 l.2.passes in
    let same : disk_file true d f.id ≡ Some f =
    (lowest.files_are_as_revealed true d).all f (record {
      leader = (
        l.0,
        l.1,
        record {
          here = l.2.here;
          passes = leads_more (is_file l.1.0) (eqb l.1.0.page leader_page) (all || is_permanent l.1.0) (eqb l.1.0.id f.id) l.2.passes;
          none_below = λ j t below at. other whole l.0 l.1 l.2.here own (w.leader_number all f.id l.1 l.2.passes) j t below at (leads_file true f.id t) refl;
        },
        l.3,
        l.4,
        l.5,
      );
      page = revealed.0.page;
      numbered = revealed.0.numbered;
      ends = revealed.0.ends;
    }) in
    (f, ap (disk_file true d) (sym revealed.1) ∙ same, whole)
  where
    leads_more : (a b c e : Bool) → ((a && b && c) && e) ≡ true → ((a && b && true) && e) ≡ true
    leads_more true true true e h = h
    leads_more true true false e h = absurd (true≢false (sym h))
    leads_more true false c e h = absurd (true≢false (sym h))
    leads_more false b c e h = absurd (true≢false (sym h))

    -- no other sector is a leader of it
    other : IsWhole (data_sectors d) f → (i : ℕ) (s : Sector) → slice_get (data_sectors d) i ≡ Some s → is_of f.id s ≡ true → s.0.page ≡ leader_page
        → (j : ℕ) (t : Sector) → j < i → slice_get (data_sectors d) j ≡ Some t → (b : Bool) → leads_file true f.id t ≡ b → leads_file true f.id t ≡ false
    other whole i s here own page j t below at false e = e
    other whole i s here own page j t below at true e =
        absurd (omega (arith, below, whole.once j i t s at here (laws.leader_of true 0 0 f.id t e) own (w.leader_number true f.id t e ∙ sym page)))
