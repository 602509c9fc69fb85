-- What keeps to an initial state does so where a file is cut out of the map, and its leader is put in again; and where a leader gets a mark.
use Rattle.std.proofs.Common.{◌≡◌, ◌≢◌, ◌⊎◌, inl, inr, ℕ, zero, suc, ◌<◌, ◌≤◌, ◌^◌, true, false, Bool, not, ◌&&◌, ◌||◌, List, [], ◌∷◌, refl, sym, ◌∙◌, ap, subst, arith}
use Rattle.std.specs.Prelude.{filter, slice_get, ◌==◌, nat_le}
use Rattle.std.proofs.lemmas.Bool.{and_parts, cases_eq, cases_lt, eqb-true, leb-true}
use Rattle.std.proofs.lemmas.Bool.Decides.{nat_tests}
use Rattle.std.proofs.lemmas.Option.{same_Some, none-some}
use Rattle.labelled_disk.specs.declared.disk.DiskWrite.{DiskWrite}
use Rattle.labelled_disk.specs.declared.disk.DiskWrite.TheVariants.{LabelOnly, Page, Whole}
use Rattle.labelled_disk.specs.declared.label.Label.{Label}
use Rattle.labelled_disk.specs.declared.label.Wanted.{Wanted}
use Rattle.labelled_disk.specs.declared.layout.Layout.{Layout}
use Rattle.labelled_disk.specs.Label.{leader_page, names}
use Rattle.labelled_disk.specs.Sectors.{Sector}
use Rattle.labelled_disk.specs.State.{DiskState}
use Rattle.frame_pool.specs.declared.home.Home.{Home}
use Rattle.frame_pool.specs.Frames.{Slots}
use Rattle.file_map.specs.declared.run.Run.{Run}
use Rattle.file_map.specs.FileMap.{Triples, IsSize, with_run, without_from, run_names}
use Rattle.file_map.proofs.Searches.{named_by}
use Rattle.swapper_kernel.specs.declared.manager.Manager.TheVariants.{FileMap}
use Rattle.swapper_kernel.specs.Homes.{IsLayout}
use Rattle.swapper_kernel.specs.Stands.{Stands}
use Rattle.swapper_kernel.specs.Window.{Beside}
use Rattle.label_calls.specs.declared.page.Mark.{Mark}
use Rattle.label_calls.specs.Labels.{Relabels, ones_of, with_mark}
use Rattle.filer_kernel.specs.Becomes.{Becomes}
use Rattle.filer_kernel.specs.Triples.{MapIs, AreOf}
use Rattle.filer_kernel.proofs.LawLemmas.{are_of_fewer, are_of_more}
use Rattle.filer_kernel.specs.PlaceLaws.{one_sector}
use Rattle.file_manager.specs.Reasons.{InitialState, AreReleased, IsReleased, KeepsTo, LeavesTables, NamesTables}
use Rattle.file_manager.specs.KeepLaws.{IsUntabled, over_left}
use Rattle.file_manager.specs.TabledLaws.{StaysNamed, tables_revealed, revealed_renamed}
use Rattle.file_manager.specs.Taking.{NamesNoneOf}
use Rattle.file_manager.specs.Shrinking.{leader_run, cut_triples}
use Rattle.file_manager.proofs.MadeReasons.{either_named, run_parts}
use Rattle.file_manager.proofs.MadeRun.{maps_come}
use Rattle.file_manager.proofs.KeepSteps.{GivesNone, keeps_changed, keeps_prefix, UpNone}
use Rattle.file_manager.proofs.MarkStands.{marked_ids, marked_stands, mark_names}
use Rattle.file_manager.specs.WriteLaws.{label_gives_not, label_no_root}
use Rattle.swapper_kernel.specs.DiffersLaws.{names_id}

-- ---- Triples that are left.

-- without pages of a file there are fewer
pub less_named : (named : Triples) (id from : ℕ) (i page sector : ℕ) → without_from named id from i page sector ≡ true → named i page sector ≡ true
less_named named id from i page sector is = (and_parts (named i page sector) (not ((i == id) && nat_le from page)) is).0

-- the leader's triple
leader_named : (id leader : ℕ) → run_names (leader_run id leader) id leader_page leader ≡ true
leader_named id leader = grind (arith, nat_tests)

pub or_right : (a b : Bool) → b ≡ true → (a || b) ≡ true
or_right true b is = refl
or_right false b is = is

-- the one triple of the leader
leader_alone : (id leader i page sector : ℕ) → run_names (leader_run id leader) i page sector ≡ true → (id ≡ i) × (leader_page ≡ page) × (leader ≡ sector)
leader_alone id leader i page sector is =
    let at = run_parts (leader_run id leader) i page sector is in
    let from = at.1 in
    let below = at.2 in
    let place = at.3 in
    (at.0, omega (arith, from, below), omega (arith, from, below, place))

-- a triple that was named is still, or is one of those pages
cut_rest : (named : Triples) (id from i page sector : ℕ) → named i page sector ≡ true → (without_from named id from i page sector ≡ true) ⊎ ((i ≡ id) × (from ≤ page))
cut_rest named id from i page sector is = either ((i == id) && nat_le from page) refl
  where
    either : (b : Bool) → ((i == id) && nat_le from page) ≡ b → (without_from named id from i page sector ≡ true) ⊎ ((i ≡ id) × (from ≤ page))
    either true e = let parts = and_parts (i == id) (nat_le from page) e in inr (eqb-true i id parts.0, leb-true from page parts.1)
    either false e = inl (λ j. is j && not (e j))

-- a page that is named has a number below 4,294,967,296
pub few_pages_named : (layout : Layout) (named : Triples) (m : List Sector) → MapIs layout named m → (id page sector : ℕ) → named id page sector ≡ true → page < 2 ^ 32
few_pages_named layout named m map id page sector is =
    let a = named_by map.names.runs id page sector (sym (map.names.are id page sector) ∙ is) in
    let below = a.has.below in
    let fits = (map.names.form.each a.index a.below).pages_fit in
    omega (arith, below, fits)

-- where the leader was named in its sector, the cut map with it names nothing else
pub cut_named : (named : Triples) (id from leader : ℕ) → named id leader_page leader ≡ true → (i page sector : ℕ) → cut_triples named id from leader i page sector ≡ true → named i page sector ≡ true
cut_named named id from leader led i page sector is = elim (either_named (without_from named id from i page sector) (run_names (leader_run id leader) i page sector) is) [
  | inl left ↦ less_named named id from i page sector left
  | inr own ↦ let at = leader_alone id leader i page sector own in (λ j. named (sym at.0 j) (sym at.1 j) (sym at.2 j)) ∙ led
]

-- pages from the size of a file on have no sector
pub none_above : (named : Triples) (id size pages : ℕ) → pages ≤ 4294967295 → IsSize named id size → NamesNoneOf id (λ p. (size ≤ p) × (p < pages)) named
none_above named id size pages few sized page sector own = either (named id page sector) refl
  where
    either : (b : Bool) → named id page sector ≡ b → named id page sector ≡ false
    either false e = e
    either true e = let from = own.0 in let below = own.1 in let within = sized.highest page sector e (omega (arith, below, few)) in absurd (omega (arith, within, from))

-- without pages of a client's file the pages of the space tables are named still
pub tables_left : (named : Triples) (id from : ℕ) → 16 ≤ id → NamesTables named → NamesTables (without_from named id from)
tables_left named id from client all page below =
    let at = all page below in
    elim (cut_rest named id from 3 page at.0 at.1) [
      | inl left ↦ (at.0, left)
      | inr (same, above) ↦ absurd (omega (arith, client, same))
    ]

-- and with a run more
pub tables_more : (named : Triples) (run : Run) → NamesTables named → NamesTables (with_run named run)
tables_more named run all page below = let at = all page below in (at.0, ap (λ (b : Bool). b || run_names run 3 page at.0) at.1)

-- ---- The map is cut.

module _ {o : InitialState} {layout last : Layout} {kept runs : List Run} {a b : DiskState} {s t : Slots} {named : Triples} (k : KeepsTo o layout kept a s named) (beside : Beside FileMap a s layout b t last) (id from : ℕ)
    (fewer : runs ≡ filter (λ r. not (r.id == id)) kept) (is : IsLayout layout) (never_blames : LeavesTables o id) (bare : id ≡ 3 → IsUntabled s) where
  -- pages of the space tables are named where they were
  tables_stay : (page sector : ℕ) → id ≢ 3 → named 3 page sector ≡ true → without_from named id from 3 page sector ≡ true
  tables_stay page sector other was = elim (cut_rest named id from 3 page sector was) [ inl left ↦ left | inr (same, above) ↦ absurd (other (sym same)) ]

  -- so they are where the leader is put in again
  led_stay : (leader : ℕ) → id ≢ 3 → StaysNamed named (cut_triples named id from leader)
  led_stay leader other page sector was = ap (λ (b : Bool). b || run_names (leader_run id leader) 3 page sector) (tables_stay page sector other was)

  -- runs of others are the map's still
  runs_left : AreOf (without_from named id from) runs
  runs_left = subst (AreOf (without_from named id from)) (sym fewer) (are_of_fewer named kept id from k.kept)

  -- it has no page of the file from one on
  pub keeps_cut : ((page sector : ℕ) → 16 ≤ id → from ≤ page → named id page sector ≡ true → IsReleased o a (record { sector = sector; id = id; page = page })) → ((m : List Sector) (named : Triples) → Stands a s m → MapIs layout named m → Becomes FileMap layout m (MapIs layout (without_from named id from)) b t) → KeepsTo o layout runs b t (without_from named id from)
  keeps_cut evict cut = keeps_changed k beside (over_left named (without_from named id from) id k.over (maps_come beside) bare (λ other page sector was. tables_stay page sector other was)) (cut k.memory named k.stands k.map) (less_named named id from) runs_left
      (λ home first may is. elim (cut_rest named id from home.id home.page home.sector is) [
        | inl left ↦ inl left
        | inr (same, above) ↦ inr (subst (λ (i : ℕ). IsReleased o a (record { sector = home.sector; id = i; page = home.page })) (sym same)
            (evict home.page home.sector (subst (λ (i : ℕ). 16 ≤ i) same may) above (subst (λ (i : ℕ). named i home.page home.sector ≡ true) same is)))
      ])
      (revealed_renamed layout named (without_from named id from) k.memory (cut k.memory named k.stands k.map).memory o id is k.map never_blames (cut k.memory named k.stands k.map).differs (λ other page sector was. tables_stay page sector other was))

  -- and has the leader again
  pub keeps_led : (leader : ℕ) → named id leader_page leader ≡ true → AreReleased o a named id (λ p. (from ≤ p) × (p < 4294967295)) → ((m : List Sector) (named : Triples) → Stands a s m → MapIs layout named m → Becomes FileMap layout m (MapIs layout (cut_triples named id from leader)) b t)
      → KeepsTo o layout runs b t (cut_triples named id from leader)
  keeps_led leader led evict cut = keeps_changed k beside (over_left named (cut_triples named id from leader) id k.over (maps_come beside) bare (led_stay leader)) (cut k.memory named k.stands k.map) (cut_named named id from leader led) (are_of_more (without_from named id from) runs (leader_run id leader) runs_left)
      (λ home first may is. elim (cut_rest named id from home.id home.page home.sector is) [
        | inl left ↦ inl (ap (λ (b : Bool). b || run_names (leader_run id leader) home.id home.page home.sector) left)
        | inr (same, above) ↦ led_or_released home is same above (cases_lt home.page 4294967295)
      ])
      (revealed_renamed layout named (cut_triples named id from leader) k.memory (cut k.memory named k.stands k.map).memory o id is k.map never_blames (cut k.memory named k.stands k.map).differs
      (led_stay leader))
    where
      led_or_released : (home : Home) → named home.id home.page home.sector ≡ true → home.id ≡ id → from ≤ home.page → (home.page < 4294967295) ⊎ (4294967295 ≤ home.page)
          → (cut_triples named id from leader home.id home.page home.sector ≡ true) ⊎ IsReleased o a home
      led_or_released home is same above (inl low) = inr (subst (λ (i : ℕ). IsReleased o a (record { sector = home.sector; id = i; page = home.page })) (sym same)
          (evict home.page home.sector (above, low) (subst (λ (i : ℕ). named i home.page home.sector ≡ true) same is)))
      led_or_released home is same above (inr high) =
          let few = few_pages_named layout named k.memory k.map home.id home.page home.sector is in
          let leads : home.page ≡ leader_page = omega (arith, few, high) in
          let there : named id leader_page home.sector ≡ true = subst (λ (p : ℕ). named id p home.sector ≡ true) leads (subst (λ (i : ℕ). named i home.page home.sector ≡ true) same is) in
          let place : home.sector ≡ leader = one_sector layout named k.memory k.map id leader_page home.sector leader there led in
          inl (or_right (without_from named id from home.id home.page home.sector) (run_names (leader_run id leader) home.id home.page home.sector)
          ((λ j. run_names (leader_run id leader) (same j) (leads j) (place j)) ∙ leader_named id leader))

-- of a file of this size the leader is named, and pages below it
pub all_pages : {layout : Layout} {named : Triples} {m : List Sector} {id size : ℕ} → IsSize named id size → MapIs layout named m → (page sector : ℕ) → named id page sector ≡ true → (page ≡ leader_page) ⊎ (page < size)
all_pages {layout = layout} {named = named} {m = m} {id = id} sized map page sector is =
    let few = few_pages_named layout named m map id page sector is in
    elim (cases_lt page 4294967295) [
      | inl low ↦ inr (sized.highest page sector is low)
      | inr high ↦ inl (omega (arith, few, high))
    ]

-- ---- A leader gets a mark.

-- such a write gives no page a sector
mark_gives_not : (sector : ℕ) (label : Label) → GivesNone (LabelOnly sector label ∷ [])
mark_gives_not sector label home zero w at (kind, is) = label_gives_not sector label home (kind, same_Some (LabelOnly sector label) w at ∙ is)
mark_gives_not sector label home (suc turn) w at gives = none-some w at

-- nor gives it up one, where its label is none that is free
mark_not_up : (sector : ℕ) (label : Label) → label.id ≢ 0 → UpNone (LabelOnly sector label ∷ [])
mark_not_up sector label other place zero w at up = other (ap id_only (same_Some (LabelOnly sector label) w at ∙ up))
  where
    id_only : DiskWrite → ℕ
    id_only (LabelOnly sector label) = label.id
    id_only (Whole sector label bytes) = label.id
    id_only (Page sector wanted bytes) = 0
mark_not_up sector label other place (suc turn) w at up = none-some w at

-- the label with the mark names the page that it named before
pub keeps_marked : {o : InitialState} {layout : Layout} {kept : List Run} {a b : DiskState} {s t : Slots} {named : Triples} → IsLayout layout → KeepsTo o layout kept a s named → (w : Wanted) (sector : ℕ) (mark : Mark) → layout.first ≤ sector
    → 16 ≤ w.id → (label : Label) × Relabels (λ l. (l ≡ label) × ones_of w l) sector (LabelOnly sector (with_mark mark label)) a s b → t ≡ s → KeepsTo o layout kept b t named
keeps_marked {o = o} {layout = layout} {kept = kept} {a = a} {b = b} {s = s} {named = named} is k w sector mark above client (label, made) frames =
    let other : w.id ≢ 3 = λ same. omega (arith, client, same) in
    let y = made.found k.stands.sectors k.stands.revealed in
    let id_is = names_id (with_mark mark label) w (mark_names mark label w (ap (λ (t : Label). names t w) (sym y.2.0) ∙ y.2.1)) in
    let now = marked_stands a b s k.memory w sector mark label made.appended made.found k.stands in
    let ids = marked_ids a b s k.memory w sector mark label made.appended made.found k.stands in
    subst (λ (u : Slots). KeepsTo o layout kept b u named) (sym frames) (keeps_prefix is k made.makes (λ home held. held) now.0 now.1 (λ i x low here. now.2 i (λ same. omega (arith, same, low, above)) ∙ here) (mark_gives_not sector (with_mark mark label)) (mark_not_up sector (with_mark mark label) (λ none. omega (arith, client, id_is, none)))
    (label_no_root o.next sector (with_mark mark label))
    (tables_revealed layout named named k.memory now.0 o.tables is k.map
    (λ place y from here own. elim (cases_eq place sector) [
      | inl same ↦ absurd (other (sym (ids.1 y (ap (slice_get k.memory) (sym same) ∙ here)) ∙ own))
      | inr apart ↦ now.2 place apart ∙ here
    ])
    (λ page place was. was)))
