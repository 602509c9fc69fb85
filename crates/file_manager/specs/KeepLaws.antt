-- What keeps to an initial state does so after a call.
use Rattle.std.proofs.Common.{◌≡◌, ◌≢◌, ◌⊎◌, inl, inr, ℕ, ◌<◌, ◌≤◌, true, false, List, [], Some, map, refl, sym, ◌∙◌, ap, subst, arith}
use Rattle.std.specs.Prelude.{IfSome, slice_get}
use Rattle.std.proofs.lemmas.Bool.{cases_eq}
use Rattle.std.proofs.lemmas.Option.{none-some}
use Rattle.labelled_disk.specs.declared.disk.Disk.{Ghosts}
use Rattle.labelled_disk.specs.declared.disk.DiskWrite.{DiskWrite}
use Rattle.labelled_disk.specs.declared.layout.Layout.{Layout}
use Rattle.labelled_disk.specs.Sectors.{Sector}
use Rattle.labelled_disk.specs.State.{DiskState}
use Rattle.frame_pool.specs.declared.home.Home.{Home}
use Rattle.frame_pool.specs.Frames.{Slots}
use Rattle.file_map.specs.declared.run.Run.{Run}
use Rattle.file_map.specs.FileMap.{Triples}
use Rattle.swapper_kernel.specs.declared.manager.Manager.{Manager}
use Rattle.swapper_kernel.specs.declared.manager.Manager.TheVariants.{AllocationMap, FileMap}
use Rattle.swapper_kernel.specs.Goes.{Makes, Pages}
use Rattle.swapper_kernel.specs.HaltLaws.{brings_wider}
use Rattle.swapper_kernel.specs.Homes.{Brings, IsHeld}
use Rattle.swapper_kernel.specs.Maps.{IsMapHome}
use Rattle.swapper_kernel.specs.Stands.{Stands}
use Rattle.swapper_kernel.specs.Window.{Beside}
use Rattle.filer_kernel.specs.declared.cached.CachedRuns.{CachedRuns}
use Rattle.filer_kernel.specs.declared.filer.Filer.{Filer}
use Rattle.filer_kernel.specs.Cached.{runs_of}
use Rattle.filer_kernel.specs.Marks.{Marks, BitsAre}
use Rattle.filer_kernel.specs.Tables.{AreOverTables}
use Rattle.filer_kernel.specs.Triples.{MapIs, AreOf}
use Rattle.file_manager.specs.Grounds.{IsMapsHome, IsUnframed}
use Rattle.file_manager.specs.Looking.{Looks}
use Rattle.file_manager.specs.Reasons.{InitialState, AreTabled, HasTables, MayBeFree, IsAtHome, IsReleased, KeepsTo, KeepsFrom, KeepsOn, IsUsed, Gives, MayTake}
use Rattle.file_manager.specs.TabledLaws.{StaysNamed}
use Rattle.file_manager.specs.LaterLaws.{at_home_later, given_either, released_later, may_be_free_later, root_either, since_later, used_later}
use Rattle.file_manager.specs.WriteLaws.{GivesNot, RootsBelow, TakesNot, UpNot, no_roots}

-- ---- Pages of the maps in frames.

map_no_free : (x : Layout) (home : Home) → IsMapsHome x home → home.id ≡ 0 → ⊥
map_no_free x home (AllocationMap, (page, below, at)) none = let own : home.id ≡ 1 = ap (λ (h : Home). h.id) at in omega (arith, own, none)
map_no_free x home (FileMap, (page, below, at)) none = let own : home.id ≡ 2 = ap (λ (h : Home). h.id) at in omega (arith, own, none)

-- where they alone came in, no page that a free label would name did
pub unframed_still : {x : Layout} {s t : Slots} → Brings (IsMapsHome x) s t → IsUnframed s 0 → IsUnframed t 0
unframed_still {x = x} brings none page there = elim (brings.homes there.frame.home (record { slot = there.slot; frame = there.frame; has = there.has; at = refl })) [
  | inl was ↦ none page (record { slot = was.slot; frame = was.frame; has = was.has; same_id = ap (λ (h : Home). h.id) was.at ∙ there.same_id; same_page = ap (λ (h : Home). h.page) was.at ∙ there.same_page })
  | inr own ↦ map_no_free x there.frame.home own there.same_id
]

-- nor is one of the space tables one of a map's
map_no_table : (x : Layout) (home : Home) → IsMapsHome x home → home.id ≡ 3 → ⊥
map_no_table x home (AllocationMap, (page, below, at)) own = let is : home.id ≡ 1 = ap (λ (h : Home). h.id) at in omega (arith, is, own)
map_no_table x home (FileMap, (page, below, at)) own = let is : home.id ≡ 2 = ap (λ (h : Home). h.id) at in omega (arith, is, own)

maps_brought : (which : Manager) {x : Layout} {s t : Slots} → Brings (IsMapHome which x) s t → Brings (IsMapsHome x) s t
maps_brought which {x = x} brings = brings_wider (IsMapsHome x) (λ home own. (which, own)) brings

-- ---- Frames of pages of the space tables.

-- no frame has one of the 96
abbrev pub IsUntabled : Slots → Type 0
IsUntabled slots = (home : Home) → IsHeld slots home → home.id ≡ 3 → home.page < 96 → ⊥

pub unframed_untabled : {s : Slots} → IsUnframed s 3 → IsUntabled s
unframed_untabled none home held own few = none home.page (record { slot = held.slot; frame = held.frame; has = held.has; same_id = ap (λ (h : Home). h.id) held.at ∙ own; same_page = ap (λ (h : Home). h.page) held.at })

pub client_untabled : {s : Slots} (id : ℕ) → 16 ≤ id → id ≡ 3 → IsUntabled s
client_untabled id client same = absurd (omega (arith, client, same))

-- where pages of the maps alone came in, none has one still
pub untabled_still : {x : Layout} {s t : Slots} → Brings (IsMapsHome x) s t → IsUntabled s → IsUntabled t
untabled_still {x = x} brings none home held own few = elim (brings.homes home held) [ inl was ↦ none home was own few | inr map ↦ map_no_table x home map own ]

-- they are where the map has these: where it has those that it had, and each other page that came in
pub over_after : {x : Layout} {s t : Slots} (named later : Triples) → AreOverTables s named → ((home : Home) → IsHeld t home → IsHeld s home ⊎ (IsMapsHome x home ⊎ (named home.id home.page home.sector ≡ true))) → StaysNamed named later → AreOverTables t later
over_after {x = x} named later over frames stays home held own few = stays home.page home.sector (elim (frames home held) [
  | inl was ↦ over home was own few
  | inr (inl map) ↦ absurd (map_no_table x home map own)
  | inr (inr is) ↦ (λ i. named (sym own i) home.page home.sector) ∙ is
])

-- and where file 3 alone may lose pages, and no frame has one of these then
pub over_left : {x : Layout} {s t : Slots} (named later : Triples) (id : ℕ) → AreOverTables s named → Brings (IsMapsHome x) s t → (id ≡ 3 → IsUntabled s) → (id ≢ 3 → StaysNamed named later) → AreOverTables t later
over_left {x = x} named later id over brings none stays = elim (cases_eq id 3) [
  | inl own ↦ λ home held of few. absurd (untabled_still brings (none own) home held of few)
  | inr other ↦ over_after {x = x} named later over (λ home held. elim (brings.homes home held) [ inl was ↦ inl was | inr map ↦ inr (inl map) ]) (stays other)
]

-- ---- What keeps to an initial state.

module _ {o : InitialState} {x : Layout} {k : List Run} {a : DiskState} {s : Slots} {named : Triples} (h : KeepsTo o x k a s named) {pages : Pages} {run : List DiskWrite} {b : DiskState} {t : Slots} (makes : Makes pages run a s b t) where
  -- a home that a frame had is at home after a call
  pub home_later : (home : Home) → IsHeld s home → IsMapsHome x home ⊎ IsAtHome o b home
  home_later home held = elim (h.frames home held) [ inl own ↦ inl own | inr at ↦ inr (at_home_later o makes home at) ]

  -- a home is named after a call, or let: where this is so of those that were named, and where each page that the call gave a
  -- sector is named there
  rest_after : (later : Triples) → ((home : Home) → x.first ≤ home.sector → 16 ≤ home.id → named home.id home.page home.sector ≡ true → (later home.id home.page home.sector ≡ true) ⊎ IsReleased o b home)
      → ((home : Home) → x.first ≤ home.sector → 16 ≤ home.id → (later home.id home.page home.sector ≡ true) ⊎ GivesNot run home)
      → (home : Home) → x.first ≤ home.sector → 16 ≤ home.id → (later home.id home.page home.sector ≡ true) ⊎ IsReleased o b home
  rest_after later still given home from may = elim (given home from may) [
    | inl is ↦ inl is
    | inr none ↦ elim (h.rest home from may) [ inl is ↦ still home from may is | inr evict ↦ inr (released_later o makes home none evict) ]
  ]

  -- after a call of which this is known
  pub keeps_after : (n : List Sector) → Stands b t n → (later : Triples) → MapIs x later n
      → ((home : Home) → later home.id home.page home.sector ≡ true → (named home.id home.page home.sector ≡ true) ⊎ IsAtHome o b home) → (l : List Run) → AreOf later l
      → ((home : Home) → IsHeld t home → IsHeld s home ⊎ (IsMapsHome x home ⊎ (named home.id home.page home.sector ≡ true))) → IsUnframed t 0 → AreOverTables t later
      → (marks : Marks) → BitsAre x marks n → ((sector : ℕ) → x.first ≤ sector → sector < x.sectors → marks sector ≡ false → ((h.marks sector ≡ false) × TakesNot run sector) ⊎ MayBeFree o b sector)
      → ((home : Home) → x.first ≤ home.sector → 16 ≤ home.id → named home.id home.page home.sector ≡ true → (later home.id home.page home.sector ≡ true) ⊎ IsReleased o b home)
      → ((home : Home) → x.first ≤ home.sector → 16 ≤ home.id → (later home.id home.page home.sector ≡ true) ⊎ GivesNot run home)
      → ((sector : ℕ) → x.first ≤ sector → sector < x.sectors → marks sector ≡ true → ((h.marks sector ≡ true) × UpNot run sector) ⊎ IsUsed o b sector)
      → RootsBelow o.next run → ((home : Home) (turn : ℕ) (w : DiskWrite) → slice_get run turn ≡ Some w → Gives home w → MayTake o home.id)
      → (IfSome o.tables (AreTabled x named h.memory) → IfSome o.tables (AreTabled x later n)) → KeepsTo o x l b t later
  keeps_after n stands later map homes l are frames unframed over marks bits free still given used below taken tables = record {
    since = since_later o makes h.since;
    memory = n;
    stands = stands;
    size = makes.went.sectors ∙ h.size;
    map = map;
    homes = λ home is. elim (homes home is) [ inl was ↦ at_home_later o makes home (h.homes home was) | inr now ↦ now ];
    kept = are;
    frames = λ home held. elim (frames home held) [
      | inl was ↦ home_later home was
      | inr (inl own) ↦ inl own
      | inr (inr is) ↦ inr (at_home_later o makes home (h.homes home is))
    ];
    unframed = unframed;
    over = over;
    marks = marks;
    bits = bits;
    free = λ sector from below is. elim (free sector from below is) [ inl was ↦ may_be_free_later o makes sector was.1 (h.free sector from below was.0) | inr now ↦ now ];
    rest = rest_after later still given;
    used = λ sector from below is. elim (used sector from below is) [ inl was ↦ used_later o makes sector was.1 (h.used sector from below was.0) | inr now ↦ now ];
    roots = λ root made. elim (root_either o makes h.since root made) [ inl was ↦ h.roots root was | inr (turn, now) ↦ below root turn now ];
    taken = λ home made. elim (given_either o makes h.since home made) [ inl was ↦ h.taken home was | inr (turn, (w, (here, gives))) ↦ taken home turn w here gives ];
    tabled = tables h.tabled;
  }

-- ---- Files that may be given pages.

module _ {o : InitialState} {x : Layout} {k : List Run} {a : DiskState} {s : Slots} {named : Triples} (h : KeepsTo o x k a s named) where
  -- a file of which the map names a page may be given others
  pub named_takes : (id page sector : ℕ) → named id page sector ≡ true → MayTake o id
  named_takes id page sector is client =
      let home : Home = record { sector = sector; id = id; page = page } in
      elim (h.homes home is) [ inl had ↦ inr (page, sector, had) | inr given ↦ h.taken home given client ]

-- ---- After a call that wrote no label.

module _ {o : InitialState} {x : Layout} {k : List Run} {a : DiskState} {s : Slots} {named : Triples} (h : KeepsTo o x k a s named) {pages : Pages} {b : DiskState} {t : Slots} (makes : Makes pages [] a s b t) where
  -- the memory stays, and pages of the maps alone came into frames
  pub keeps_same : Stands b t h.memory → (l : List Run) → AreOf named l → Brings (IsMapsHome x) s t → KeepsTo o x l b t named
  keeps_same stands l are brings =
      keeps_after h makes h.memory stands named h.map (λ home is. inl is) l are (λ home held. elim (brings.homes home held) [ inl was ↦ inl was | inr own ↦ inr (inl own) ])
      (unframed_still brings h.unframed) (over_left named named 0 h.over brings (λ same. absurd (omega (arith, same))) (λ other page sector own. own)) h.marks h.bits (λ sector from below is. inl (is, λ k w at takes. none-some w at))
      (λ home from may is. inl is) (λ home from may. inr (λ k w at gives. none-some w at)) (λ sector from below is. inl (is, λ k w at up. none-some w at)) (no_roots o.next) (λ home turn w at gives. absurd (none-some w at)) (λ tables. tables)

module _ {o : InitialState} {x : Layout} {k : List Run} {a : DiskState} {s : Slots} {named : Triples} (h : KeepsTo o x k a s named) {b : DiskState} {t : Slots} where
  -- a look at files
  pub looks_keep : {l : List Run} → Looks x a s k b t l → KeepsTo o x l b t named
  looks_keep {l = l} looks =
      let now = looks.goes.memory h.memory h.stands in
      keeps_same h looks.goes.makes (subst (Stands b t) now.2 now.1) l (looks.runs_are h.memory named h.stands h.map h.kept) (maps_brought FileMap looks.brings)

  -- accesses to a map under which the memory stays
  pub beside_keeps : (which : Manager) {y : Layout} → Beside which a s x b t y → Stands b t h.memory → (l : List Run) → AreOf named l → KeepsTo o x l b t named
  beside_keeps which beside stands l are = keeps_same h beside.goes.makes stands l are (maps_brought which beside.brings)

-- by the layout and the runs that a filer has, where they are the same
pub keeps_as : {o : InitialState} {x y : Layout} {k l : CachedRuns} {b : DiskState} {t : Slots} {named : Triples} → y ≡ x → l ≡ k → KeepsTo o x (runs_of x.sectors k) b t named → KeepsTo o y (runs_of y.sectors l) b t named
keeps_as {o = o} {x = x} {l = l} {b = b} {t = t} {named = named} place same h =
    subst (λ (z : Layout). KeepsTo o z (runs_of z.sectors l) b t named) (sym place) (subst (λ (r : CachedRuns). KeepsTo o x (runs_of x.sectors r) b t named) (sym same) h)

-- ---- What a filer keeps to, all pages of the space tables named.

module _ {D A : Type 0} {G : Ghosts D} where
  -- after a call that names what it will, the pages of the space tables among it
  pub on_from : (o : InitialState) (named : Triples) (f : Filer D A G) → HasTables o named → KeepsFrom o named f → KeepsOn o f
  on_from o named f tables from = (from.0, (from.1, (from.2 tables.0, tables.1)))
