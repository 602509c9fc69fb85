-- What keeps to an initial state does so where a root is written, and where the file map is cut of a whole file.
use Rattle.std.proofs.Common.{◌≡◌, ◌≢◌, ◌⊎◌, inl, inr, ℕ, zero, suc, ◌+◌, ◌<◌, ◌≤◌, ◌^◌, Bool, true, false, not, ◌&&◌, ◌==◌, nat_le, List, [], ◌∷◌, Some, refl, sym, ◌∙◌, ap, subst, arith}
use Rattle.std.specs.Prelude.{slice_get, filter}
use Rattle.std.proofs.lemmas.Bool.{and_parts, cases_eq, eq-eqb, le-leb, ne_eqb}
use Rattle.std.proofs.lemmas.Option.{same_Some, none-some}
use Rattle.labelled_disk.specs.declared.disk.DiskWrite.{DiskWrite}
use Rattle.labelled_disk.specs.declared.disk.DiskWrite.TheVariants.{LabelOnly, Page, Whole}
use Rattle.labelled_disk.specs.declared.label.Label.{Label}
use Rattle.labelled_disk.specs.declared.layout.Layout.{Layout}
use Rattle.labelled_disk.specs.Label.{root_label}
use Rattle.labelled_disk.specs.CrashState.{written}
use Rattle.labelled_disk.specs.Sectors.{Sector}
use Rattle.labelled_disk.specs.State.{DiskState}
use Rattle.frame_pool.specs.declared.home.Home.{Home}
use Rattle.frame_pool.specs.Frames.{Slots}
use Rattle.frame_pool.specs.ListLaws.{get_other}
use Rattle.file_map.specs.declared.run.Run.{Run}
use Rattle.file_map.specs.FileMap.{Triples, without_from}
use Rattle.swapper_kernel.specs.declared.manager.Manager.TheVariants.{AllocationMap, FileMap}
use Rattle.swapper_kernel.specs.Goes.{Goes, Makes, no_page}
use Rattle.swapper_kernel.specs.Homes.{IsLayout}
use Rattle.swapper_kernel.specs.Stands.{Stands}
use Rattle.swapper_kernel.specs.Window.{Beside}
use Rattle.filer_kernel.specs.Becomes.{Becomes}
use Rattle.filer_kernel.specs.Marks.{BitsAre}
use Rattle.filer_kernel.specs.Triples.{MapIs, AreOf}
use Rattle.filer_kernel.proofs.LawLemmas.{are_of_fewer}
use Rattle.volume_root.specs.declared.root.Root.{Root}
use Rattle.volume_root.specs.RootPage.{IsValidRoot, root_bytes, root_in, root_write}
use Rattle.volume_root.proofs.WrittenLemmas.{root_read}
use Rattle.file_manager.specs.Creating.{counted, next_id}
use Rattle.file_manager.specs.Reasons.{HasRoot, Gives, IsNotOlder, IsReleased, KeepsTo, LeavesTables, MayTake, InitialState}
use Rattle.file_manager.specs.TabledLaws.{StaysNamed, tables_revealed, revealed_renamed}
use Rattle.file_manager.specs.LaterLaws.{released_counted}
use Rattle.file_manager.specs.WriteLaws.{GivesNot, UpNot, sector_of, takes_not, whole_not_up}
use Rattle.file_manager.specs.KeepLaws.{IsUntabled, keeps_after, over_left}
use Rattle.file_manager.specs.Taking.{NamesNoneOf, every_page}
use Rattle.file_manager.proofs.FreedRun.{first_is, shows_still}
use Rattle.file_manager.proofs.KeepSteps.{keeps_changed}
use Rattle.file_manager.proofs.MadeRun.{maps_come}

-- the root gives no data sector to a page
pub root_gives_not : (x : Layout) → IsLayout x → (root : Root) (home : Home) → x.first ≤ home.sector → GivesNot (root_write root ∷ []) home
root_gives_not x is root home from zero w at (kind, gives) =
    let here : 0 ≡ home.sector = ap sector_of (same_Some (root_write root) w at ∙ gives) in
    let first = first_is x is in
    absurd (omega (arith, from, here, first))
root_gives_not x is root home from (suc turn) w at gives = none-some w at

-- and gives none up
root_not_up : (root : Root) (sector : ℕ) → UpNot (root_write root ∷ []) sector
root_not_up root sector zero w at up = whole_not_up 0 root_label (root_bytes root) sector (same_Some (root_write root) w at ∙ up)
root_not_up root sector (suc turn) w at up = none-some w at

-- the label that a write has
abbrev label_in : DiskWrite → Label
label_in (Whole sector label bytes) = label
label_in (LabelOnly sector label) = label
label_in (Page sector wanted bytes) = root_label

-- a page that the root's write gives a sector to is none of a client's file
root_takes : (o : InitialState) (root : Root) (home : Home) (turn : ℕ) (w : DiskWrite) → slice_get (root_write root ∷ []) turn ≡ Some w → Gives home w → MayTake o home.id
root_takes o root home zero w at (kind, gives) client =
    let own : 4 ≡ home.id = ap (λ (v : DiskWrite). (label_in v).id) (same_Some (root_write root) w at ∙ gives) in
    absurd (omega (arith, own, client))
root_takes o root home (suc turn) w at gives client = absurd (none-some w at)

-- the bytes that a write has
abbrev page_in : DiskWrite → List ℕ
page_in (Whole sector label bytes) = bytes
page_in (LabelOnly sector label) = []
page_in (Page sector wanted bytes) = bytes

-- a page in sector 0 has one root
one_root : (label : Label) (bytes : List ℕ) (root : Root) → root_in bytes ≡ root → (other : Root) (turn : ℕ) → HasRoot other (Whole 0 label bytes ∷ []) turn → other ≡ root
one_root label bytes root is other zero (l, (page, (at, own))) =
    let same : bytes ≡ page = ap page_in (same_Some (Whole 0 label bytes) (Whole 0 l page) at) in
    sym own ∙ ap (λ (b : List ℕ). root_in b) (sym same) ∙ is
one_root label bytes root is other (suc turn) (l, (page, (at, own))) = absurd (none-some (Whole 0 l page) at)

-- the root that counts a file lets each home that pages of this file have, where it is valid: none that was written before gives it out
pub root_releases : {o : InitialState} {x : Layout} {k : List Run} {a b : DiskState} {s : Slots} {named : Triples} (root : Root) → IsLayout x → IsValidRoot x.sectors (counted root) → root.serial < 2 ^ 32 → root.counter < 4294967295 → KeepsTo o x k a s named → IsNotOlder o root
    → Makes no_page (root_write (counted root) ∷ []) a s b s → (home : Home) → x.first ≤ home.sector → 16 ≤ home.id → home.id ≡ next_id root → IsReleased o b home
root_releases {o = o} {x = x} root is valid serial counter h not_older makes home from may same =
    let monotone = not_older.monotone.0 in
    let read = root_read x.sectors (counted root) valid serial (omega (arith, counter)) in
    released_counted o makes h.since home (root_gives_not x is (counted root) home from) 0
    (record {
      root = counted root;
      is = (root_label, (root_bytes (counted root), (refl, read)));
      counts = record { serial = not_older.monotone.1; last = omega (arith, same); since = omega (arith, monotone, same) };
      first = λ earlier other before has. absurd (omega (arith, before));
    })
    (λ other made. let was = h.roots other made in let next = not_older.next in omega (arith, was, next, same))
    (λ given. elim (h.taken home given may) [ inl below ↦ let next = not_older.next in absurd (omega (arith, below, next, same)) | inr had ↦ had ])

-- a root is written: no page of a map is in its sector
pub root_keeps : {o : InitialState} {x : Layout} {k : List Run} {a b : DiskState} {s : Slots} {named : Triples} (root : Root) → IsLayout x → root_in (root_bytes root) ≡ root → KeepsTo o x k a s named → next_id root ≤ o.next
    → Goes (λ m n. n ≡ written (root_write root) m) no_page (root_write root ∷ []) a s b s → KeepsTo o x k b s named
root_keeps {o = o} {x = x} {k = k} {b = b} {s = s} {named = named} root is read h below goes =
    keeps_after h goes.makes now.0 now.1 named map (λ home is. inl is) k h.kept (λ home held. inl held) h.unframed h.over h.marks bits (λ sector from inside clear. inl (clear, takes_not (root_write root ∷ []) sector (λ id page. root_gives_not x is root (record { sector = sector; id = id; page = page }) from)))
    (λ home from may was. inl was) (λ home from may. inr (root_gives_not x is root home from)) (λ sector from inside was. inl (was, root_not_up root sector))
    (λ other turn has. subst (λ (r : Root). next_id r ≤ o.next) (sym (one_root root_label (root_bytes root) root read other turn has)) below) (root_takes o root)
    (tables_revealed x named named h.memory now.0 o.tables is h.map (λ sector y from here own. data_stays sector from ∙ here) (λ page sector was. was))
  where
    now : (n : List Sector) × Stands b s n × (n ≡ written (root_write root) h.memory)
    now = goes.memory h.memory h.stands

    stays : (j : ℕ) (y : Sector) → 1 ≤ j → slice_get h.memory j ≡ Some y → slice_get now.0 j ≡ Some y
    stays j y after here =
        let other : j ≢ 0 = λ same. omega (arith, same, after) in
        ap (λ (l : List Sector). slice_get l j) now.2 ∙ get_other h.memory 0 j (root_label, root_bytes root) other ∙ here

    -- a data sector is as it was
    data_stays : (j : ℕ) → x.first ≤ j → slice_get now.0 j ≡ slice_get h.memory j
    data_stays j from =
        let first = first_is x is in
        ap (λ (l : List Sector). slice_get l j) now.2 ∙ get_other h.memory 0 j (root_label, root_bytes root) (λ same. omega (arith, same, from, first))

    map : MapIs x named now.0
    map = record { bytes = h.map.bytes; shows = shows_still FileMap x h.memory now.0 h.map.bytes (λ j y below here. stays (1 + x.vam + j) y (omega arith) here) h.map.shows; names = h.map.names }

    bits : BitsAre x h.marks now.0
    bits = record { bytes = h.bits.bytes; shows = shows_still AllocationMap x h.memory now.0 h.bits.bytes (λ j y below here. stays (1 + j) y (omega arith) here) h.bits.shows; are = h.bits.are }

-- a file that was cut off from its first page on has no page
pub none_left : (named : Triples) (id : ℕ) → NamesNoneOf id every_page (without_from named id 0)
none_left named id page sector own =
    let of : id == id ≡ true = eq-eqb id id refl in
    let from : nat_le 0 page ≡ true = le-leb 0 page (omega arith) in
    (λ i. named id page sector && not (of i && from i)) ∙ nowhere (named id page sector)
  where
    nowhere : (b : Bool) → (b && false) ≡ false
    nowhere true = refl
    nowhere false = refl

-- The map is cut of a whole file, each home of which was released.
module _ {o : InitialState} {x last : Layout} {k l : List Run} {a b : DiskState} {s t : Slots} {named : Triples} (h : KeepsTo o x k a s named) (beside : Beside FileMap a s x b t last) (id : ℕ) (fewer : l ≡ filter (λ r. not (r.id == id)) k)
    (evict : (home : Home) → x.first ≤ home.sector → 16 ≤ home.id → home.id ≡ id → named home.id home.page home.sector ≡ true → IsReleased o a home) (is : IsLayout x) (never_blames : LeavesTables o id) (bare : id ≡ 3 → IsUntabled s) where
  -- a home is named then, or was released
  still : (home : Home) → x.first ≤ home.sector → 16 ≤ home.id → named home.id home.page home.sector ≡ true → (without_from named id 0 home.id home.page home.sector ≡ true) ⊎ IsReleased o a home
  still home from may was = elim (cases_eq home.id id) [
    | inl same ↦ inr (evict home from may same was)
    | inr other ↦ let apart : (home.id == id) ≡ false = ne_eqb home.id id other in inl (λ j. was j && not (apart j && nat_le 0 home.page))
  ]

  -- pages of the space tables are named where they were
  tables_stay : id ≢ 3 → StaysNamed named (without_from named id 0)
  tables_stay other page sector was = let apart : (3 == id) ≡ false = ne_eqb 3 id (λ same. other (sym same)) in (λ j. was j && not (apart j && nat_le 0 page))

  pub whole_cut : ((m : List Sector) (named : Triples) → Stands a s m → MapIs x named m → Becomes FileMap x m (MapIs x (without_from named id 0)) b t) → KeepsTo o x l b t (without_from named id 0)
  whole_cut cut =
      keeps_changed h beside (over_left named (without_from named id 0) id h.over (maps_come beside) bare tables_stay) (cut h.memory named h.stands h.map) (λ i page sector is. (and_parts (named i page sector) (not ((i == id) && nat_le 0 page)) is).0)
      (subst (AreOf (without_from named id 0)) (sym fewer) (are_of_fewer named k id 0 h.kept)) still
      (revealed_renamed x named (without_from named id 0) h.memory (cut h.memory named h.stands h.map).memory o id is h.map never_blames (cut h.memory named h.stands h.map).differs tables_stay)
