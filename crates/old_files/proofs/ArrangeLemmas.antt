-- Where each old file has its leader.
use Rattle.std.proofs.Common.{◌≡◌, ◌⊎◌, inl, inr, ℕ, zero, suc, ◌+◌, ◌<◌, ◌≤◌, Bool, true, false, not, ◌&&◌, ◌||◌, cond, List, [], ◌∷◌, Option, Some, None, refl, sym, ◌∙◌, ap, subst, arith, eqb}
use Rattle.std.specs.Prelude.{slice_get, find, option_map, nat_lt}
use Rattle.std.specs.Option.{option_map_or}
use Rattle.std.specs.List.{position_or_len}
use Rattle.std.proofs.lemmas.Option.{same_Some, none-some, slice_get_within}
use Rattle.std.proofs.lemmas.Bool.{and_parts, eqb-true, eq-eqb, ltb-true, false≢true, true≢false, and_from}
use Rattle.labelled_disk.specs.declared.label.Label.{Label}
use Rattle.labelled_disk.specs.Label.{is_file, is_permanent, leader_page}
use Rattle.labelled_disk.specs.Sectors.{Sector}
use Rattle.labelled_disk.specs.Layout.{data_sectors}
use Rattle.labelled_disk.specs.File.{File, size}
use Rattle.labelled_disk.specs.FilesOn.{is_page, is_of, leads_file, leads, leader_among}
use Rattle.labelled_disk.specs.Lowest.{is_first}
use Rattle.labelled_disk.proofs.Finds.{find_none, find_alone, found_at}
use Rattle.labelled_disk.proofs.Pages.{pages_most}
use Rattle.old_files.specs.OldFiles.{heads, heads_file, head_among, old_page_at, old_file_by, old_file_among, is_old_needed}
use Rattle.old_files.specs.Laws.{OnlyUnneeded, IsNoPage, HaveLeaders, as_leader}
use Rattle.old_files.specs.Arranging.{IsSettled, SettledHasFiles}
use Rattle.old_files.proofs.OldLemmas.{leaders_make_files}
use Rattle.old_files.proofs.StayLemmas.{old_files_stay, get_some, heads_stay}

-- two tests that agree on each element find the same one
find_agrees : (test other : Sector → Bool) (xs : List Sector) → ((i : ℕ) (x : Sector) → slice_get xs i ≡ Some x → test x ≡ other x) → find test xs ≡ find other xs
find_agrees test other [] same = refl
find_agrees test other (x ∷ xs) same = rw (same 0 x refl) (ap (λ (o : Option Sector). cond (other x) (Some x) o) (find_agrees test other xs (λ i y at. same (suc i) y at)))

pub first_passes : (test : Sector → Bool) (xs : List Sector) (i : ℕ) (s : Sector) → slice_get xs i ≡ Some s → is_first test xs i ≡ true → test s ≡ true
first_passes test [] i s here first = absurd (none-some s here)
first_passes test (x ∷ xs) zero s here first = ap test (sym (same_Some x s here)) ∙ either (test x) refl first
  where
    either : (b : Bool) → test x ≡ b → eqb (cond (not b) (1 + position_or_len test xs) 0) 0 ≡ true → test x ≡ true
    either true e h = e
    either false e h = absurd (omega (arith, eqb-true (1 + position_or_len test xs) 0 h))
first_passes test (x ∷ xs) (suc i) s here first = either (test x) first (λ h. first_passes test xs i s here h)
  where
    either : (b : Bool) → eqb (cond (not b) (1 + position_or_len test xs) 0) (suc i) ≡ true → (is_first test xs i ≡ true → test s ≡ true) → test s ≡ true
    either true h more = absurd (omega (arith, eqb-true 0 (suc i) h))
    either false h more = more (eq-eqb (position_or_len test xs) i (omega (arith, eqb-true (1 + position_or_len test xs) (suc i) h)))

-- What a sector is that an old file needs: the head of its file, or a page that is not page 0.
pub record IsPart (xs : List Sector) (i : ℕ) (s : Sector) : Type 0 where
  pub file : File
  pub is : old_file_among xs s.0.id ≡ Some file
  pub what : (is_first (heads_file s.0.id) xs i ≡ true) ⊎ ((0 < s.0.page) × (s.0.page < size file) × (is_first (is_page s.0.id s.0.page) xs i ≡ true))

pub part_of : (xs : List Sector) (i : ℕ) (s : Sector) → slice_get xs i ≡ Some s → is_old_needed xs i ≡ true → IsPart xs i s
part_of xs i s here needs = by (old_file_among xs s.0.id) refl (sym (ap (λ (o : Option Sector). option_map_or (λ s. option_map_or (λ f. is_first (heads_file s.0.id) xs i || (nat_lt 0 s.0.page && (nat_lt s.0.page (size f) && is_first (is_page s.0.id s.0.page) xs i))) (old_file_among xs s.0.id) false) o false) here) ∙ needs)
  where
    or_true : (a b : Bool) → (a || b) ≡ true → (a ≡ true) ⊎ (b ≡ true)
    or_true true b h = inl refl
    or_true false b h = inr h

    by : (o : Option File) → old_file_among xs s.0.id ≡ o → option_map_or (λ f. is_first (heads_file s.0.id) xs i || (nat_lt 0 s.0.page && (nat_lt s.0.page (size f) && is_first (is_page s.0.id s.0.page) xs i))) o false ≡ true → IsPart xs i s
    by None e h = absurd (false≢true h)
    by (Some f) e h = record {
      file = f;
      is = e;
      what = elim (or_true (is_first (heads_file s.0.id) xs i) (nat_lt 0 s.0.page && (nat_lt s.0.page (size f) && is_first (is_page s.0.id s.0.page) xs i)) h) [
        | inl a ↦ inl a
        | inr b ↦ let p = and_parts (nat_lt 0 s.0.page) (nat_lt s.0.page (size f) && is_first (is_page s.0.id s.0.page) xs i) b in
            let q = and_parts (nat_lt s.0.page (size f)) (is_first (is_page s.0.id s.0.page) xs i) p.1 in
            inr (ltb-true 0 s.0.page p.0, ltb-true s.0.page (size f) q.0, q.1)
      ];
    }

-- no file has more pages than there are numbers
pub size_most : (xs : List Sector) (id : ℕ) (f : File) → old_file_among xs id ≡ Some f → size f ≤ leader_page
size_most xs id f is = by (head_among xs id) is
  where
    by : (o : Option Sector) → option_map (old_file_by xs) (option_map (λ s. s.0) o) ≡ Some f → size f ≤ leader_page
    by None e = absurd (none-some f e)
    by (Some s) e = subst (λ (g : File). size g ≤ leader_page) (same_Some (old_file_by xs s.0) f e) (pages_most (old_page_at xs s.0.id) 0 leader_page)

pub head_page : (id : ℕ) (s : Sector) → heads_file id s ≡ true → (is_of id s ≡ true) × (s.0.page ≡ 0)
head_page id s h =
    let a = and_parts (heads s) (eqb s.0.id id) h in
    let b = and_parts (is_file s.0 && eqb s.0.page 0) (is_permanent s.0) a.0 in
    let c = and_parts (is_file s.0) (eqb s.0.page 0) b.0 in
    (and_from (is_file s.0) (eqb s.0.id id) c.0 a.1, eqb-true s.0.page 0 c.1)

-- a page of an old file is no leader
pub page_of_needed : (xs : List Sector) (i : ℕ) (y : Sector) → slice_get xs i ≡ Some y → is_old_needed xs i ≡ true → y.0.page < leader_page
page_of_needed xs i y at needs =
    let p = part_of xs i y at needs in
    elim p.what [
      | inl first ↦ let h = head_page y.0.id y (first_passes (heads_file y.0.id) xs i y at first) in omega (arith, h.1)
      | inr q ↦ omega (arith, q.1, size_most xs y.0.id p.file p.is)
    ]

module _ (xs ys : List Sector) (settled : IsSettled xs ys) where
  at_x : (i : ℕ) (y : Sector) → slice_get ys i ≡ Some y → (x : Sector) × (slice_get xs i ≡ Some x)
  at_x i y at = get_some xs i (omega (arith, slice_get_within ys i y at, settled.same_length))

  cases_bool : (b : Bool) → (b ≡ true) ⊎ (b ≡ false)
  cases_bool true = inl refl
  cases_bool false = inr refl

  pub leads_page : (y h : Sector) → y.0 ≡ as_leader h.0 → y.0.page ≡ leader_page
  leads_page y h is = ap (λ (l : Label). l.page) is

  pub only : OnlyUnneeded xs ys
  only = record {
    same_length = settled.same_length;
    each = λ i. elim (cases_bool (is_old_needed xs i)) [
      | inl e ↦ inl (settled.kept i e)
      | inr e ↦ by i e (slice_get ys i) refl
    ];
  }
    where
      past : (i : ℕ) → slice_get ys i ≡ None → slice_get xs i ≡ None
      past i none = by (slice_get xs i) refl
        where
          by : (o : Option Sector) → slice_get xs i ≡ o → slice_get xs i ≡ None
          by None e = e
          by (Some x) e = let y = get_some ys i (omega (arith, slice_get_within xs i x e, settled.same_length)) in absurd (none-some y.0 (sym none ∙ y.1))

      by : (i : ℕ) → is_old_needed xs i ≡ false → (o : Option Sector) → slice_get ys i ≡ o
          → (slice_get ys i ≡ slice_get xs i) ⊎ ((is_old_needed xs i ≡ false) × (t : Sector) × (slice_get ys i ≡ Some t) × IsNoPage t)
      by i e None at = inl (at ∙ sym (past i at))
      by i e (Some y) at = inr (e, y, at, elim (settled.rest i y e at) [ inl none ↦ inl none | inr h ↦ inr (leads_page y h.0 h.2) ])

  -- what each sector is
  pub what_is : (i : ℕ) (y : Sector) → slice_get ys i ≡ Some y → is_file y.0 ≡ true
      → ((is_old_needed xs i ≡ true) × (slice_get xs i ≡ Some y)) ⊎ ((h : Sector) × (head_among xs y.0.id ≡ Some h) × (y.0 ≡ as_leader h.0))
  what_is i y at file = elim (cases_bool (is_old_needed xs i)) [
    | inl e ↦ inl (e, sym (settled.kept i e) ∙ at)
    | inr e ↦ elim (settled.rest i y e at) [ inl none ↦ absurd (true≢false (sym file ∙ none)) | inr h ↦ inr h ]
  ]

  same_head : (id : ℕ) → head_among ys id ≡ head_among xs id
  same_head id = heads_stay xs ys only id

  -- a page of an old file is no leader
  pub below_leader : (i : ℕ) (y : Sector) → slice_get xs i ≡ Some y → is_old_needed xs i ≡ true → y.0.page < leader_page
  below_leader i y at needs =
      let p = part_of xs i y at needs in
      elim p.what [
        | inl first ↦ let h = head_page y.0.id y (first_passes (heads_file y.0.id) xs i y at first) in omega (arith, h.1)
        | inr q ↦ omega (arith, q.1, size_most xs y.0.id p.file p.is)
      ]

  -- page 0 of an old file is its head
  pub zero_heads : (i : ℕ) (y : Sector) → slice_get xs i ≡ Some y → is_old_needed xs i ≡ true → y.0.page ≡ 0 → heads_file y.0.id y ≡ true
  zero_heads i y at needs zero_ = elim (part_of xs i y at needs).what [
    | inl first ↦ first_passes (heads_file y.0.id) xs i y at first
    | inr q ↦ absurd (omega (arith, q.0, zero_))
  ]

  pub leader_parts : (id : ℕ) (y : Sector) → leads_file false id y ≡ true → (is_file y.0 ≡ true) × (y.0.page ≡ leader_page) × (y.0.id ≡ id)
  leader_parts id y h =
      let a = and_parts (leads false y) (eqb y.0.id id) h in
      let b = and_parts (is_file y.0 && eqb y.0.page leader_page) (is_permanent y.0) a.0 in
      let c = and_parts (is_file y.0) (eqb y.0.page leader_page) b.0 in
      (c.0, eqb-true y.0.page leader_page c.1, eqb-true y.0.id id a.1)

  pub leads_as : (id : ℕ) (h y : Sector) → y.0 ≡ as_leader h.0 → heads_file id h ≡ true → leads_file false id y ≡ true
  leads_as id h y is passes =
      let a = and_parts (heads h) (eqb h.0.id id) passes in
      let b = and_parts (is_file h.0 && eqb h.0.page 0) (is_permanent h.0) a.0 in
      let c = and_parts (is_file h.0) (eqb h.0.page 0) b.0 in
      ap (λ (l : Label). is_file l && eqb l.page leader_page && is_permanent l && eqb l.id id) is
      ∙ and_from (is_file h.0 && eqb leader_page leader_page && is_permanent h.0) (eqb h.0.id id) (and_from (is_file h.0 && eqb leader_page leader_page) (is_permanent h.0) (and_from (is_file h.0) (eqb leader_page leader_page) c.0 refl) b.1) a.1

  leaders : (id : ℕ) → leader_among false ys id ≡ option_map (λ s. as_leader s.0) (head_among ys id)
  leaders id = by (head_among xs id) refl ∙ ap (λ (o : Option Sector). option_map (λ s. as_leader s.0) o) (sym (same_head id))
    where
      label : (o : Option Sector) → Option Label
      label o = option_map (λ s. as_leader s.0) o

      none : head_among xs id ≡ None → (i : ℕ) (y : Sector) → slice_get ys i ≡ Some y → (b : Bool) → leads_file false id y ≡ b → b ≡ false
      none e i y at false l = refl
      none e i y at true l =
          let p = leader_parts id y l in
          elim (what_is i y at p.0) [
            | inl k ↦ absurd (omega (arith, p.1, below_leader i y k.1 k.0))
            | inr h ↦ absurd (none-some h.0 (sym e ∙ ap (λ (n : ℕ). head_among xs n) (sym p.2) ∙ h.1))
          ]

      by : (o : Option Sector) → head_among xs id ≡ o → leader_among false ys id ≡ option_map (λ s. as_leader s.0) (head_among xs id)
      by None e =
          ap (λ (o : Option Sector). option_map (λ (s : Sector). s.0) o) (find_none (leads_file false id) ys (λ i y at. none e i y at (leads_file false id y) refl))
          ∙ sym (ap (λ (o : Option Sector). option_map (λ (s : Sector). as_leader s.0) o) e)
      by (Some h) e =
          let f = found_at (heads_file id) xs h e in
          let p = settled.placed id h e in
          let passes : leads_file false id p.1 ≡ true = leads_as id h p.1 p.3 f.2 in
          let q = leader_parts id p.1 passes in
          ap (λ (o : Option Sector). option_map (λ (s : Sector). s.0) o)
          (find_alone (leads_file false id) ys p.0 p.1 p.2 passes (λ j t at t_passes. let r = leader_parts id t t_passes in settled.once j p.0 t p.1 at p.2 r.0 r.1 q.1 (r.2 ∙ sym q.2)))
          ∙ ap (λ (l : Label). Some l) p.3
          ∙ sym (ap (λ (o : Option Sector). option_map (λ (s : Sector). as_leader s.0) o) e)

  first_pages : (id : ℕ) → find (is_page id 0) ys ≡ head_among ys id
  first_pages id = find_agrees (is_page id 0) (heads_file id) ys (λ i y at. by i y at (is_page id 0 y) refl)
    where
      by : (i : ℕ) (y : Sector) → slice_get ys i ≡ Some y → (b : Bool) → is_page id 0 y ≡ b → is_page id 0 y ≡ heads_file id y
      by i y at true e =
          let a = and_parts (is_of id y) (eqb y.0.page 0) e in
          let b = and_parts (is_file y.0) (eqb y.0.id id) a.0 in
          let zero_ : y.0.page ≡ 0 = eqb-true y.0.page 0 a.1 in
          elim (what_is i y at b.0) [
            | inl k ↦ e ∙ sym (ap (λ (n : ℕ). heads_file n y) (sym (eqb-true y.0.id id b.1)) ∙ zero_heads i y k.1 k.0 zero_)
            | inr h ↦ absurd (omega (arith, zero_, leads_page y h.0 h.2))
          ]
      by i y at false e = e ∙ sym (not_head (heads_file id y) refl)
        where
          not_head : (b : Bool) → heads_file id y ≡ b → heads_file id y ≡ false
          not_head false h = h
          not_head true h = let p = head_page id y h in absurd (true≢false (sym (and_from (is_of id y) (eqb y.0.page 0) p.0 (eq-eqb y.0.page 0 p.1)) ∙ e))

  pub have_leaders : HaveLeaders ys
  have_leaders = record { leaders = leaders; first_pages = first_pages }

pub settled_has_files : SettledHasFiles
settled_has_files d e long settled =
    leaders_make_files e (have_leaders (data_sectors d) (data_sectors e) settled) ∙ old_files_stay d e long (only (data_sectors d) (data_sectors e) settled)
