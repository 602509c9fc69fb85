-- Which sectors the files of a disk need, by the places of its sectors in their files.
use Rattle.std.proofs.Common.{◌≡◌, ◌≢◌, ◌⊎◌, inl, inr, ℕ, zero, suc, ◌+◌, ◌-◌, ◌^◌, ◌<◌, ◌≤◌, Bool, true, false, not, ◌&&◌, ◌||◌, List, length, Option, Some, None, refl, sym, ◌∙◌, ap, subst, arith, eqb}
use Rattle.std.specs.Prelude.{slice_get, nat_lt, nat_le, ◌%◌}
use Rattle.std.specs.Option.{option_map_or}
use Rattle.std.specs.List.{position_or_len}
use Rattle.std.proofs.lemmas.Bool.{cases_lt, and_parts, and_from, eqb-true, eq-eqb, ne_eqb, lt-ltb, ltb-true, leb-true, false≢true, true≢false}
use Rattle.labelled_disk.specs.declared.label.Label.{Label}
use Rattle.labelled_disk.specs.Label.{is_file, is_file_id, is_free, is_permanent, leader_page}
use Rattle.labelled_disk.specs.Sectors.{Sector}
use Rattle.labelled_disk.specs.Layout.{data_sectors, first_data}
use Rattle.labelled_disk.specs.File.{File, size}
use Rattle.labelled_disk.specs.FilesOn.{leads_file, is_page, file_among, disk_file}
use Rattle.labelled_disk.specs.Lowest.{IsFileOn, is_first, is_needed}
use Rattle.labelled_disk.proofs.Finds.{none_passes}
use Rattle.labelled_disk.proofs.SectorWrites as w
use Rattle.labelled_disk.proofs.LowestLemmas as lowest
use Rattle.labelled_disk.specs.WriteLaws.{HasData}
use Rattle.label_laws.specs.Counts.{needs_place}
use Rattle.label_survey.proofs.ScanLemmas.{dropped}
use Rattle.label_survey.specs.declared.sector_state.SectorState.TheVariants.{Orphan, Lost, Leader, Page}
use Rattle.label_survey.specs.Entries.{place_of}
use Rattle.label_survey.specs.SectorStates.{sector_state, unclaimed}
use Rattle.label_survey.proofs.PlaceLemmas.{first_if, not_first, first_passes, leader_bits, page_bits, leads_by_place, page_by_place, place_of_leader, place_of_page}

module _ (d : List Sector) where
  -- data sector i stands at this place of this file
  pub record Is (i id place : ℕ) : Type 0 where
    pub s : Sector
    pub here : slice_get (data_sectors d) i ≡ Some s
    pub file : is_file s.0 ≡ true
    pub named : s.0.id ≡ id
    pub placed : place_of s.0 ≡ place

  abbrev pub IsSomewhere : ℕ → ℕ → Type 0
  IsSomewhere id place = (i : ℕ) × Is i id place

  -- Files by places.

  revealed : (id : ℕ) (f : File) → disk_file false d id ≡ Some f → IsFileOn false (data_sectors d) f × (f.id ≡ id)
  revealed = (lowest.files_are_as_revealed false d).revealed

  pub file_there : (id i : ℕ) → Is i id 0 → (f : File) × (disk_file false d id ≡ Some f)
  file_there id i at = either (file_among false (data_sectors d) id) refl
    where
      either : (o : Option File) → file_among false (data_sectors d) id ≡ o → (f : File) × (disk_file false d id ≡ Some f)
      either (Some f) e = (f, e)
      either None e =
          let fails = none_passes (leads_file false id) (data_sectors d) (w.none_leads false (data_sectors d) id e) i at.s at.here in
          absurd (true≢false (sym (leads_by_place id at.s at.file at.named at.placed) ∙ fails))

  pub leader_there : (id : ℕ) (f : File) → disk_file false d id ≡ Some f → IsSomewhere id 0
  leader_there id f is =
      let as_revealed = revealed id f is in
      let l = as_revealed.0.leader in
      let own = place_of_leader f.id l.1 l.2.passes in
      (l.0, record { s = l.1; here = l.2.here; file = own.0; named = own.1 ∙ as_revealed.1; placed = own.2 })

  pub no_file : (id : ℕ) → ((i : ℕ) → Is i id 0 → ⊥) → disk_file false d id ≡ None
  no_file id none = either (file_among false (data_sectors d) id) refl
    where
      either : (o : Option File) → file_among false (data_sectors d) id ≡ o → disk_file false d id ≡ None
      either None e = e
      either (Some f) e = let l = leader_there id f e in absurd (none l.0 l.1)

  pub page_there : (id k : ℕ) (f : File) → disk_file false d id ≡ Some f → k < size f → IsSomewhere id (suc k)
  page_there id k f is below =
      let as_revealed = revealed id f is in
      let p = as_revealed.0.page k below in
      let own = place_of_page f.id k p.1 p.2.passes (omega (arith, below, as_revealed.0.numbered)) in
      (p.0, record { s = p.1; here = p.2.here; file = own.0; named = own.1 ∙ as_revealed.1; placed = own.2 })

  pub short_of : (id : ℕ) (f : File) → disk_file false d id ≡ Some f → size f ≤ leader_page
  short_of id f is = (revealed id f is).0.numbered

  pub long_by : (id p : ℕ) (f : File) → disk_file false d id ≡ Some f → p < leader_page → ((r : ℕ) → r ≤ p → IsSomewhere id (suc r)) → p < size f
  long_by id p f is below each = either (cases_lt p (size f))
    where
      either : (p < size f) ⊎ (size f ≤ p) → p < size f
      either (inl l) = l
      either (inr l) = elim ((revealed id f is).0.ends) [
        | inl full ↦ absurd (omega (arith, full, l, below))
        | inr nowhere ↦
            let at = each (size f) l in
            let same : at.1.s.0.id ≡ f.id = at.1.named ∙ sym (revealed id f is).1 in
            absurd (true≢false (sym (page_by_place f.id (size f) at.1.s at.1.file same at.1.placed (omega (arith, l, below))) ∙ nowhere at.0 at.1.s at.1.here))
      ]

  -- Needed, and not needed.

  pub needed_by : (i : ℕ) (s : Sector) (f : File) → slice_get (data_sectors d) i ≡ Some s → disk_file false d s.0.id ≡ Some f
      → is_needed false (data_sectors d) i ≡ (is_first (leads_file false s.0.id) (data_sectors d) i || (nat_lt s.0.page (size f) && is_first (is_page s.0.id s.0.page) (data_sectors d) i))
  needed_by i s f here is =
      ap (λ (o : Option Sector). option_map_or (λ s. option_map_or (λ f. is_first (leads_file false s.0.id) (data_sectors d) i || (nat_lt s.0.page (size f) && is_first (is_page s.0.id s.0.page) (data_sectors d) i)) (file_among false (data_sectors d) s.0.id) false) o false) here
      ∙ ap (λ (o : Option File). option_map_or (λ f. is_first (leads_file false s.0.id) (data_sectors d) i || (nat_lt s.0.page (size f) && is_first (is_page s.0.id s.0.page) (data_sectors d) i)) o false) is

  needed_none : (i : ℕ) (s : Sector) → slice_get (data_sectors d) i ≡ Some s → disk_file false d s.0.id ≡ None → is_needed false (data_sectors d) i ≡ false
  needed_none i s here is =
      ap (λ (o : Option Sector). option_map_or (λ s. option_map_or (λ f. is_first (leads_file false s.0.id) (data_sectors d) i || (nat_lt s.0.page (size f) && is_first (is_page s.0.id s.0.page) (data_sectors d) i)) (file_among false (data_sectors d) s.0.id) false) o false) here
      ∙ ap (λ (o : Option File). option_map_or (λ f. is_first (leads_file false s.0.id) (data_sectors d) i || (nat_lt s.0.page (size f) && is_first (is_page s.0.id s.0.page) (data_sectors d) i)) o false) is

  neither : (a b c : Bool) → (a ≡ true → ⊥) → (b ≡ true → c ≡ true → ⊥) → (a || (b && c)) ≡ false
  neither true b c no_a no_bc = absurd (no_a refl)
  neither false true true no_a no_bc = absurd (no_bc refl refl)
  neither false true false no_a no_bc = refl
  neither false false c no_a no_bc = refl

  or_left : (a b : Bool) → a ≡ true → (a || b) ≡ true
  or_left true b e = refl
  or_left false b e = absurd (false≢true e)

  or_right : (a b : Bool) → b ≡ true → (a || b) ≡ true
  or_right true b e = refl
  or_right false b e = e

  -- neither the lowest leader of its file, nor a lowest page below its size
  not_needed : (i : ℕ) (s : Sector) → slice_get (data_sectors d) i ≡ Some s
      → (IsSomewhere s.0.id 0 → place_of s.0 ≡ 0 → is_first (leads_file false s.0.id) (data_sectors d) i ≡ true → ⊥)
      → ((f : File) → disk_file false d s.0.id ≡ Some f → s.0.page < size f → is_file s.0 ≡ true → place_of s.0 ≡ suc s.0.page → suc s.0.page < 2 ^ 32 → is_first (is_page s.0.id s.0.page) (data_sectors d) i ≡ true → ⊥)
      → is_needed false (data_sectors d) i ≡ false
  not_needed i s here leader page = either (file_among false (data_sectors d) s.0.id) refl
    where
      either : (o : Option File) → file_among false (data_sectors d) s.0.id ≡ o → is_needed false (data_sectors d) i ≡ false
      either None e = needed_none i s here e
      either (Some f) e =
          needed_by i s f here e
          ∙ neither (is_first (leads_file false s.0.id) (data_sectors d) i) (nat_lt s.0.page (size f)) (is_first (is_page s.0.id s.0.page) (data_sectors d) i)
          (λ first. leader (leader_there s.0.id f e) (place_of_leader s.0.id s (first_passes (leads_file false s.0.id) (data_sectors d) i s here first)).2 first)
          (λ short first.
          let below = ltb-true s.0.page (size f) short in
          let few = short_of s.0.id f e in
          let own = place_of_page s.0.id s.0.page s (first_passes (is_page s.0.id s.0.page) (data_sectors d) i s here first) (omega (arith, below, few)) in
          page f e below own.0 own.2 (omega (arith, below, few)) first)

  -- a lower sector stands at its place
  pub twin_below : (i j id place : ℕ) → Is i id place → Is j id place → j < i → is_needed false (data_sectors d) i ≡ false
  twin_below i j id place a b l = not_needed i a.s a.here
      (λ there at first. not_first (leads_file false a.s.0.id) (data_sectors d) i j b.s l b.here (leads_by_place a.s.0.id b.s b.file (b.named ∙ sym a.named) (b.placed ∙ sym a.placed ∙ at)) first)
      (λ f is below file at few first. not_first (is_page a.s.0.id a.s.0.page) (data_sectors d) i j b.s l b.here
      (page_by_place a.s.0.id a.s.0.page b.s b.file (b.named ∙ sym a.named) (b.placed ∙ sym a.placed ∙ at) few) first)

  -- an earlier place is nowhere
  pub place_missing : (i id place r : ℕ) → Is i id place → r < place → (IsSomewhere id r → ⊥) → is_needed false (data_sectors d) i ≡ false
  place_missing i id place zero a l none = not_needed i a.s a.here
      (λ there at first. omega (arith, l, a.placed, at))
      (λ f is below file at few first. none (subst (λ (n : ℕ). IsSomewhere n 0) a.named (leader_there a.s.0.id f is)))
  place_missing i id place (suc r) a l none = not_needed i a.s a.here
      (λ there at first. omega (arith, l, a.placed, at))
      (λ f is below file at few first. none (subst (λ (n : ℕ). IsSomewhere n (suc r)) a.named (page_there a.s.0.id r f is (omega (arith, below, l, a.placed, at)))))

  -- no page has so high a place
  pub place_past : (i id place : ℕ) → Is i id place → 2 ^ 32 ≤ place → is_needed false (data_sectors d) i ≡ false
  place_past i id place a l = not_needed i a.s a.here
      (λ there at first. omega (arith, l, a.placed, at))
      (λ f is below file at few first. omega (arith, l, a.placed, at, few))

  -- the lowest at its place, and each earlier place is there
  pub lowest_needed : (i id place : ℕ) → Is i id place → place < 2 ^ 32 → ((j : ℕ) → j < i → Is j id place → ⊥) → ((r : ℕ) → r < place → IsSomewhere id r) → is_needed false (data_sectors d) i ≡ true
  lowest_needed i id zero a few lowest each =
      let f = file_there a.s.0.id i (record { s = a.s; here = a.here; file = a.file; named = refl; placed = a.placed }) in
      needed_by i a.s f.0 a.here f.1
      ∙ or_left (is_first (leads_file false a.s.0.id) (data_sectors d) i) (nat_lt a.s.0.page (size f.0) && is_first (is_page a.s.0.id a.s.0.page) (data_sectors d) i)
      (first_if (leads_file false a.s.0.id) (data_sectors d) i a.s a.here (leads_by_place a.s.0.id a.s a.file refl a.placed)
      (λ j t l at. either j t l at (leads_file false a.s.0.id t) refl))
    where
      either : (j : ℕ) (t : Sector) → j < i → slice_get (data_sectors d) j ≡ Some t → (b : Bool) → leads_file false a.s.0.id t ≡ b → b ≡ false
      either j t l at false e = refl
      either j t l at true e = let own = place_of_leader a.s.0.id t e in absurd (lowest j l (record { s = t; here = at; file = own.0; named = own.1 ∙ a.named; placed = own.2 }))
  lowest_needed i id (suc k) a few lowest each =
      let lead = each 0 (omega arith) in
      let f = file_there a.s.0.id lead.0 (record { s = lead.1.s; here = lead.1.here; file = lead.1.file; named = lead.1.named ∙ sym a.named; placed = lead.1.placed }) in
      let page : a.s.0.page ≡ k = (page_bits (eqb a.s.0.page leader_page) (is_permanent a.s.0) a.s.0.page k a.placed few).1 in
      let below : k < size f.0 = long_by a.s.0.id k f.0 f.1 (omega (arith, few)) (λ r l. there r (cases_lt r k) l) in
      needed_by i a.s f.0 a.here f.1
      ∙ or_right (is_first (leads_file false a.s.0.id) (data_sectors d) i) (nat_lt a.s.0.page (size f.0) && is_first (is_page a.s.0.id a.s.0.page) (data_sectors d) i)
      (and_from (nat_lt a.s.0.page (size f.0)) (is_first (is_page a.s.0.id a.s.0.page) (data_sectors d) i) (lt-ltb a.s.0.page (size f.0) (omega (arith, page, below)))
      (first_if (is_page a.s.0.id a.s.0.page) (data_sectors d) i a.s a.here (page_by_place a.s.0.id a.s.0.page a.s a.file refl (a.placed ∙ ap suc (sym page)) (omega (arith, few, page)))
      (λ j t l at. either page j t l at (is_page a.s.0.id a.s.0.page t) refl)))
    where
      there : (r : ℕ) → (r < k) ⊎ (k ≤ r) → r ≤ k → IsSomewhere a.s.0.id (suc r)
      there r (inl l) m = subst (λ (n : ℕ). IsSomewhere n (suc r)) (sym a.named) (each (suc r) (omega (arith, l)))
      there r (inr l) m = (i, record { s = a.s; here = a.here; file = a.file; named = refl; placed = omega (arith, a.placed, l, m) })

      either : a.s.0.page ≡ k → (j : ℕ) (t : Sector) → j < i → slice_get (data_sectors d) j ≡ Some t → (b : Bool) → is_page a.s.0.id a.s.0.page t ≡ b → b ≡ false
      either page j t l at false e = refl
      either page j t l at true e =
          let own = place_of_page a.s.0.id a.s.0.page t e (omega (arith, few, page)) in
          absurd (lowest j l (record { s = t; here = at; file = own.0; named = own.1 ∙ a.named; placed = omega (arith, own.2, page) }))

  -- Sector states.

  pub file_not_free : (l : Label) → is_file l ≡ true → is_free l ≡ false
  file_not_free l is =
      let own = and_parts (is_file_id l.id && nat_lt l.flags 4) (eqb l.last 0) is in
      let id = and_parts (is_file_id l.id) (nat_lt l.flags 4) own.0 in
      let above = leb-true 16 l.id (and_parts (nat_le 16 l.id) (not (eqb (l.id % 2 ^ 32) 4294967295)) id.0).0 in
      ne_eqb l.id 0 (λ e. omega (arith, above, e))

  pub file_id_above : (i id place : ℕ) → Is i id place → 1 ≤ id
  file_id_above i id place a =
      let own = and_parts (is_file_id a.s.0.id && nat_lt a.s.0.flags 4) (eqb a.s.0.last 0) a.file in
      let it = and_parts (is_file_id a.s.0.id) (nat_lt a.s.0.flags 4) own.0 in
      omega (arith, a.named, leb-true 16 a.s.0.id (and_parts (nat_le 16 a.s.0.id) (not (eqb (a.s.0.id % 2 ^ 32) 4294967295)) it.0).0)

  pub is_leader : (i id : ℕ) (a : Is i id 0) → is_needed false (data_sectors d) i ≡ true → sector_state d i a.s ≡ Leader
  is_leader i id a needed =
      let page = (leader_bits (eqb a.s.0.page leader_page) (is_permanent a.s.0) a.s.0.page a.placed).0 in
      rw (needed, page) refl

  is_page_of : (i id k : ℕ) (a : Is i id (suc k)) → suc k < 2 ^ 32 → is_needed false (data_sectors d) i ≡ true → sector_state d i a.s ≡ Page
  is_page_of i id k a few needed =
      let page = (page_bits (eqb a.s.0.page leader_page) (is_permanent a.s.0) a.s.0.page k a.placed few).0 in
      rw (needed, page) refl

  pub is_a_page : (i id place : ℕ) (a : Is i id place) → 1 ≤ place → place < 2 ^ 32 → is_needed false (data_sectors d) i ≡ true → sector_state d i a.s ≡ Page
  is_a_page i id zero a page few needed = absurd (omega (arith, page))
  is_a_page i id (suc k) a page few needed = is_page_of i id k a few needed

  pub is_lost : (i id place : ℕ) (a : Is i id place) → IsSomewhere id 0 → is_needed false (data_sectors d) i ≡ false → sector_state d i a.s ≡ Lost
  is_lost i id place a lead unneeded =
      let free = file_not_free a.s.0 a.file in
      let f = file_there a.s.0.id lead.0 (record { s = lead.1.s; here = lead.1.here; file = lead.1.file; named = lead.1.named ∙ sym a.named; placed = lead.1.placed }) in
      rw (unneeded, free, a.file, f.1) refl

  pub is_orphan : (i id place : ℕ) (a : Is i id place) → (IsSomewhere id 0 → ⊥) → sector_state d i a.s ≡ Orphan
  is_orphan i id place a none =
      let free = file_not_free a.s.0 a.file in
      let file : disk_file false d a.s.0.id ≡ None = no_file a.s.0.id (λ j at. none (j, record { s = at.s; here = at.here; file = at.file; named = at.named ∙ a.named; placed = at.placed })) in
      let unneeded = needed_none i a.s a.here file in
      rw (unneeded, free, a.file, file) refl

  -- no file has it
  pub plain_sector_state : (i : ℕ) (s : Sector) → slice_get (data_sectors d) i ≡ Some s → is_file s.0 ≡ false → sector_state d i s ≡ unclaimed s.0
  plain_sector_state i s here plain =
      let unneeded = not_needed i s here
      (λ there at first. false≢true (sym plain ∙ (place_of_leader s.0.id s (first_passes (leads_file false s.0.id) (data_sectors d) i s here first)).0))
      (λ f is below file at few first. false≢true (sym plain ∙ file))
      in
      rw (unneeded, plain) refl

  -- Files of needed sectors.

  -- at its place on the disk
  pub data_here : (i : ℕ) (s : Sector) → HasData d i s → slice_get (data_sectors d) (i - first_data (length d)) ≡ Some s
  data_here i s has =
      let back : first_data (length d) + (i - first_data (length d)) ≡ i = omega (arith, has.is_data) in
      dropped d (first_data (length d)) (i - first_data (length d)) ∙ ap (slice_get d) back ∙ has.here

  -- the file that needs a sector
  pub needed_file : (i : ℕ) (s : Sector) → HasData d i s → needs_place false d i ≡ true → (f : File) × (disk_file false d f.id ≡ Some f) × (f.id ≡ s.0.id)
  needed_file i s has needed = either (file_among false (data_sectors d) s.0.id) refl
    where
      either : (o : Option File) → file_among false (data_sectors d) s.0.id ≡ o → (f : File) × (disk_file false d f.id ≡ Some f) × (f.id ≡ s.0.id)
      either None e = absurd (true≢false (sym needed ∙ needed_none (i - first_data (length d)) s (data_here i s has) e))
      either (Some f) e = let same = (revealed s.0.id f e).1 in (f, ap (disk_file false d) same ∙ e, same)

  -- the leader of a file, which it needs
  pub file_leader : (id : ℕ) (f : File) → disk_file false d id ≡ Some f → (i : ℕ) × (s : Sector) × HasData d i s × (needs_place false d i ≡ true) × (s.0.id ≡ f.id) × (f.id ≡ id)
  file_leader id f is =
      let as_revealed = revealed id f is in
      let l = as_revealed.0.leader in
      let own = place_of_leader f.id l.1 l.2.passes in
      let back : first_data (length d) + l.0 - first_data (length d) ≡ l.0 = omega arith in
      let needed = lowest_needed l.0 f.id 0 (record { s = l.1; here = l.2.here; file = own.0; named = own.1; placed = own.2 }) (omega arith)
      (λ j m at. true≢false (sym (leads_by_place f.id at.s at.file at.named at.placed) ∙ l.2.none_below j at.s m at.here)) (λ r m. absurd (omega (arith, m)))
      in (
        first_data (length d) + l.0,
        l.1,
        record { is_data = omega arith; here = sym (dropped d (first_data (length d)) l.0) ∙ l.2.here },
        ap (is_needed false (data_sectors d)) back ∙ needed,
        own.1,
        as_revealed.1,
      )

  -- the greatest low half is no file's
  pub file_low : (f : File) → disk_file false d f.id ≡ Some f → f.id % 2 ^ 32 + 1 < 2 ^ 32
  file_low f is =
      let l = leader_there f.id f is in
      let own = and_parts (is_file_id l.1.s.0.id && nat_lt l.1.s.0.flags 4) (eqb l.1.s.0.last 0) l.1.file in
      let it = and_parts (is_file_id l.1.s.0.id) (nat_lt l.1.s.0.flags 4) own.0 in
      let low = not_last (l.1.s.0.id % 2 ^ 32) (and_parts (nat_le 16 l.1.s.0.id) (not (eqb (l.1.s.0.id % 2 ^ 32) 4294967295)) it.0).1 in
      omega (arith, low, ap (λ (n : ℕ). n % 2 ^ 32) l.1.named)
    where
      not_last : (n : ℕ) → not (eqb n 4294967295) ≡ true → n ≢ 4294967295
      not_last n e same = true≢false (sym e ∙ ap not (eq-eqb n 4294967295 same))

  -- two needed sectors of one page are the same
  pub needed_alone : (i j : ℕ) (s t : Sector) → HasData d i s → HasData d j t → needs_place false d i ≡ true → needs_place false d j ≡ true → s.0.id ≡ t.0.id → s.0.page ≡ t.0.page → i ≡ j
  needed_alone i j s t has_s has_t needed_s needed_t id page =
      let f = needed_file i s has_s needed_s in
      let is_s : disk_file false d s.0.id ≡ Some f.0 = ap (disk_file false d) (sym f.2) ∙ f.1 in
      let is_t : disk_file false d t.0.id ≡ Some f.0 = ap (disk_file false d) (sym id) ∙ is_s in
      let a = sym (needed_by (i - first_data (length d)) s f.0 (data_here i s has_s) is_s) ∙ needed_s in
      let b = sym (needed_by (j - first_data (length d)) t f.0 (data_here j t has_t) is_t) ∙ needed_t in
      let few = short_of s.0.id f.0 is_s in
      let same = both f.0 few
      (part (is_first (leads_file false s.0.id) (data_sectors d) (i - first_data (length d))) (nat_lt s.0.page (size f.0)) (is_first (is_page s.0.id s.0.page) (data_sectors d) (i - first_data (length d))) a)
      (part (is_first (leads_file false t.0.id) (data_sectors d) (j - first_data (length d))) (nat_lt t.0.page (size f.0)) (is_first (is_page t.0.id t.0.page) (data_sectors d) (j - first_data (length d))) b)
      in
      omega (arith, same, has_s.is_data, has_t.is_data)
    where
      part : (a b c : Bool) → (a || (b && c)) ≡ true → (a ≡ true) ⊎ ((b ≡ true) × (c ≡ true))
      part true b c e = inl refl
      part false true true e = inr (refl, refl)
      part false true false e = absurd (false≢true e)
      part false false c e = absurd (false≢true e)

      leader_page_of : (k : ℕ) (u : Sector) → slice_get (data_sectors d) k ≡ Some u → is_first (leads_file false u.0.id) (data_sectors d) k ≡ true → u.0.page ≡ leader_page
      leader_page_of k u here first = w.leader_number false u.0.id u (first_passes (leads_file false u.0.id) (data_sectors d) k u here first)

      both : (f : File) → size f ≤ leader_page
          → (is_first (leads_file false s.0.id) (data_sectors d) (i - first_data (length d)) ≡ true) ⊎ ((nat_lt s.0.page (size f) ≡ true) × (is_first (is_page s.0.id s.0.page) (data_sectors d) (i - first_data (length d)) ≡ true))
          → (is_first (leads_file false t.0.id) (data_sectors d) (j - first_data (length d)) ≡ true) ⊎ ((nat_lt t.0.page (size f) ≡ true) × (is_first (is_page t.0.id t.0.page) (data_sectors d) (j - first_data (length d)) ≡ true))
          → i - first_data (length d) ≡ j - first_data (length d)
      both f few (inl a) (inl b) =
          sym (eqb-true (position_or_len (leads_file false s.0.id) (data_sectors d)) (i - first_data (length d)) a)
          ∙ ap (λ (n : ℕ). position_or_len (leads_file false n) (data_sectors d)) id
          ∙ eqb-true (position_or_len (leads_file false t.0.id) (data_sectors d)) (j - first_data (length d)) b
      both f few (inr a) (inr b) =
          sym (eqb-true (position_or_len (is_page s.0.id s.0.page) (data_sectors d)) (i - first_data (length d)) a.1)
          ∙ ap (λ (n : ℕ). position_or_len (is_page n s.0.page) (data_sectors d)) id
          ∙ ap (λ (n : ℕ). position_or_len (is_page t.0.id n) (data_sectors d)) page
          ∙ eqb-true (position_or_len (is_page t.0.id t.0.page) (data_sectors d)) (j - first_data (length d)) b.1
      both f few (inl a) (inr b) = absurd (omega (arith, few, page, leader_page_of (i - first_data (length d)) s (data_here i s has_s) a, ltb-true t.0.page (size f) b.0))
      both f few (inr a) (inl b) = absurd (omega (arith, few, page, leader_page_of (j - first_data (length d)) t (data_here j t has_t) b, ltb-true s.0.page (size f) a.0))
