-- Accesses to the pages of the space tables in a row.
use Rattle.std.specs.Prelude.{◌≡◌, ◌⊎◌, ℕ, ◌<◌, ◌≤◌, ◌*◌, if◌then◌else◌, Bool, List, [], length}
use Rattle.std.proofs.lemmas.Bool.Decides.{eqb_tells}
use Rattle.std.proofs.lemmas.Bool.{eq-eqb}
use Rattle.std.proofs.Common.{refl, sym, ◌∙◌, ap, subst, arith, inl, inr}
use Rattle.labelled_disk.specs.declared.layout.Layout.{Layout}
use Rattle.labelled_disk.specs.declared.evidence.Evidence.{Evidence}
use Rattle.labelled_disk.specs.declared.evidence.Evidence.TheVariants.{Mismatch, Malformed, Missing}
use Rattle.labelled_disk.specs.declared.evidence.Halt.{Halt}
use Rattle.labelled_disk.specs.declared.evidence.Halt.TheVariants.{Disk, Damaged}
use Rattle.labelled_disk.specs.State.{DiskState}
use Rattle.frame_pool.specs.declared.home.Home.{Home}
use Rattle.frame_pool.specs.Frames.{Slots}
use Rattle.file_map.specs.declared.run.Run.{Run}
use Rattle.file_map.specs.Run.{run_bytes}
use Rattle.file_map.specs.Entries.{Entry, Count, Broken}
use Rattle.file_map.specs.Cause.{IsBroken}
use Rattle.swapper_kernel.specs.declared.manager.Manager.TheVariants.{FileMap}
use Rattle.swapper_kernel.specs.Maps.{IsMapHome}
use Rattle.swapper_kernel.specs.Homes.{IsLayout, Brings, no_home}
use Rattle.swapper_kernel.specs.Differs.{Differs}
use Rattle.swapper_kernel.specs.DiffersLaws.{differs_itself, differs_then}
use Rattle.swapper_kernel.specs.Goes.{Goes, Same}
use Rattle.swapper_kernel.specs.GoesLaws.{goes_itself, goes_then, goes_wider, swaps_itself, swaps_then, swaps_stands}
use Rattle.swapper_kernel.specs.Halts.{held_or}
use Rattle.swapper_kernel.specs.HaltLaws.{brings_itself, brings_then, brings_wider, label_before, rose_wider}
use Rattle.swapper_kernel.specs.CourseLaws.{steps_itself, steps_then, steps_wider}
use Rattle.swapper_kernel.specs.WindowLaws.{named_kept}
use Rattle.filer_kernel.specs.declared.cached.CachedRuns.{CachedRuns}
use Rattle.filer_kernel.specs.Cached.{runs_of}
use Rattle.filer_kernel.specs.Triples.{IsOneOf}
use Rattle.filer_kernel.specs.Causes.{MapShows, IsGiven, IsRunHome}
use Rattle.filer_kernel.specs.PlaceLaws.{map_kept, shown_before}
use Rattle.filer_kernel.specs.Tables.{in_tables, table_pages, IsFoundHome, FoundEvidence, FoundHalts, IsComing, IsChanging, TablesReveal, BesideTables, LookedTables, IsTableAccounted, tables_size}

-- ---- How many bytes are revealed.

pub tables_size_is : (sectors : ℕ) (layout : Layout) → sectors ≡ layout.sectors → tables_size sectors layout ≡ 512 * 96
tables_size_is sectors layout same = ap (λ (b : Bool). if b then 512 * 96 else 0) (eq-eqb sectors layout.sectors same)

-- where there are bytes, the disk has its size
pub tables_size_right : (sectors : ℕ) (layout : Layout) (n : ℕ) → 0 < n → n ≤ tables_size sectors layout → (sectors ≡ layout.sectors) × (n ≤ 512 * 96)
tables_size_right sectors layout n some below = elim (eqb_tells sectors layout.sectors) [
  | inl (_, same) ↦ (same, let all = tables_size_is sectors layout same in omega (arith, all, below))
  | inr (test, _) ↦ absurd (let none : tables_size sectors layout ≡ 0 = ap (λ (b : Bool). if b then 512 * 96 else 0) test in omega (arith, none, some, below))
]

pub revealed_tables_size : {disk : DiskState} {slots : Slots} {layout : Layout} {runs : CachedRuns} {b : List ℕ} → TablesReveal disk slots layout runs b → length b ≡ tables_size disk.sectors layout
revealed_tables_size {disk = disk} {layout = layout} reveals = reveals.count ∙ sym (tables_size_is disk.sectors layout reveals.size)

pub same_tables_size : {a b : DiskState} {s t : Slots} {x y : Layout} {k l : CachedRuns} → BesideTables a s x k b t y l → tables_size a.sectors x ≡ tables_size b.sectors y
same_tables_size {b = b} {x = x} h = ap (λ (n : ℕ). tables_size n x) (sym h.goes.makes.went.sectors) ∙ ap (tables_size b.sectors) (sym h.layout)

-- ---- What is said of a state after an access is said of that before it.

module _ (layout : Layout) (is : IsLayout layout) {a b : DiskState} {s t : Slots} (kept now : List Run) (goes : Goes (Differs (in_tables layout)) table_pages [] a s b t)
    (given : (r : Run) → IsOneOf r now → IsGiven layout a s kept r) where
  given_before : (r : Run) → IsGiven layout b t now r → IsGiven layout a s kept r
  given_before r h = elim h [
    | inl one ↦ given r one
    | inr (page, shows) ↦ inr (page, shown_before layout is goes (Entry page (run_bytes r)) shows)
  ]

  run_home_before : (home : Home) → IsRunHome layout b t now home → IsRunHome layout a s kept home
  run_home_before home h = record { run = h.run; given = given_before h.run h.given; form = h.form; has = h.has; at = h.at }

  found_home_before : (home : Home) → IsFoundHome layout b t now home → IsFoundHome layout a s kept home
  found_home_before home h = record { table = h.table; by_run = run_home_before home h.by_run }

  pub coming_before : (home : Home) → IsComing layout b t now home → IsComing layout a s kept home
  coming_before home h = elim h [
    | inl map ↦ inl map
    | inr found ↦ inr (found_home_before home found)
  ]

  broken_before : (n page : ℕ) → IsBroken n (MapShows layout b t) page → IsBroken n (MapShows layout a s) page
  broken_before n page h = elim h [
    | inl broken ↦ inl (shown_before layout is goes (Broken page) broken)
    | inr (inl (entry, shows, other)) ↦ inr (inl (entry, shown_before layout is goes (Entry page entry) shows, other))
    | inr (inr (first, (count, shows, many))) ↦ inr (inr (first, (count, shown_before layout is goes (Count count) shows, many)))
  ]

  module _ (brings : Brings (IsComing layout a s kept) s t) where
    reason_before : (home : Home) → held_or t (IsMapHome FileMap layout) home ⊎ IsFoundHome layout b t now home → held_or s (IsMapHome FileMap layout) home ⊎ IsFoundHome layout a s kept home
    reason_before home h = elim h [
      | inl (inl held) ↦ elim (brings.homes home held) [
        | inl was ↦ inl (inl was)
        | inr (inl map) ↦ inl (inr map)
        | inr (inr found) ↦ inr found
      ]
      | inl (inr map) ↦ inl (inr map)
      | inr found ↦ inr (found_home_before home found)
    ]

    evidence_before : (e : Evidence) → FoundEvidence layout b t now e → FoundEvidence layout a s kept e
    evidence_before (Mismatch sector wanted found) h = record { there = label_before goes.makes.wrote sector found h.there; other = h.other; reason = reason_before _ h.reason }
    evidence_before (Malformed structure page) h = (h.0, broken_before layout.sectors page h.1)
    evidence_before (Missing id page) h = (h.0, h.1, λ m named stands map. let mid = goes.memory m stands in h.2 mid.0 named mid.1 (map_kept layout named m mid.0 is mid.2 map))

    pub found_halts_before : (c d : DiskState) → c.faults ≤ d.faults → (e : Halt) → FoundHalts layout b t now c e → FoundHalts layout a s kept d e
    found_halts_before c d later Disk h = rose_wider a.faults b.faults c.faults d.faults goes.makes.went.faults later h
    found_halts_before c d later (Damaged e) h = evidence_before e h

-- ---- In a row.

pub beside_tables_itself : (d : DiskState) (s : Slots) (layout : Layout) (runs : CachedRuns) → BesideTables d s layout runs d s layout runs
beside_tables_itself d s layout runs = record {
  goes = goes_itself (Differs (in_tables layout)) table_pages d s (λ m. differs_itself (in_tables layout) m);
  brings = brings_itself (IsComing layout d s (runs_of layout.sectors runs)) s;
  steps = steps_itself (IsComing layout d s (runs_of layout.sectors runs)) (IsChanging layout) d s;
  layout = refl;
  given = λ r one. inl one;
  runs_are = λ m named stands map are. are;
  revealed = λ b reveals. (b, reveals);
}

-- the second is said of the layout that the first left
moved : {a b : DiskState} {s t : Slots} {x y z : Layout} {k l : CachedRuns} → y ≡ x → BesideTables a s y k b t z l → BesideTables a s x k b t z l
moved layout h = rw (← layout) h

reveals_moved : {d : DiskState} {s : Slots} {x y : Layout} {k : CachedRuns} → y ≡ x → (b : List ℕ) → TablesReveal d s y k b → TablesReveal d s x k b
reveals_moved layout b h = rw (← layout) h

pub beside_tables_then : {a b c : DiskState} {s t u : Slots} {x y z : Layout} {k l m : CachedRuns} → IsLayout x → BesideTables a s x k b t y l → BesideTables b t y l c u z m → BesideTables a s x k c u z m
beside_tables_then {a = a} {s = s} {x = x} {k = k} {l = l} is h next =
    let after = moved h.layout next in
    let kept = runs_of x.sectors k in
    let now = runs_of x.sectors l in
    let coming = coming_before x is kept now h.goes h.given in
    record {
      goes = goes_then (Differs (in_tables x)) (Differs (in_tables x)) (Differs (in_tables x)) (λ m n o first last. differs_then (in_tables x) m n o first last) h.goes after.goes;
      brings = brings_then h.brings (brings_wider (IsComing x a s kept) coming after.brings);
      steps = steps_then h.steps (steps_wider (IsComing x a s kept) (IsChanging x) coming (λ home is. is) after.steps);
      layout = after.layout;
      given = λ r one. given_before x is kept now h.goes h.given r (after.given r one);
      runs_are = λ m named stands map are.
          let mid = h.goes.memory m stands in
          after.runs_are mid.0 named mid.1 (map_kept x named m mid.0 is mid.2 map) (h.runs_are m named stands map are);
      revealed = λ b reveals. let mid = h.revealed b reveals in after.revealed mid.0 (reveals_moved h.layout mid.0 mid.1);
    }

pub tables_accounted_then : {a b c d : DiskState} {s t u v : Slots} {w x y z : Layout} {k l m n : CachedRuns} {e : Halt} → IsLayout w
    → BesideTables a s w k b t x l → BesideTables b t x l c u y m → BesideTables c u y m d v z n → IsTableAccounted b t x l c e → IsTableAccounted a s w k d e
tables_accounted_then {c = c} {d = d} {w = w} {k = k} {l = l} {e = e} is h next last accounted =
    let acc = rw (h.layout) at accounted in
    record {
      cause = found_halts_before w is (runs_of w.sectors k) (runs_of w.sectors l) h.goes h.given h.brings c d last.goes.makes.went.faults e acc.cause;
      sound = λ m b stands named reveals.
          let mid = h.goes.memory m stands in
          let revealed = h.revealed b reveals in
          acc.sound mid.0 revealed.0 mid.1 (named_kept (IsMapHome FileMap w) m mid.0 mid.2.labels named) (reveals_moved h.layout revealed.0 revealed.1);
    }

-- ---- Looks in a row.

-- a look is an access
pub looked_tables_beside : {a b : DiskState} {s t : Slots} {x y : Layout} {k l : CachedRuns} → LookedTables a s x k b t y l → BesideTables a s x k b t y l
looked_tables_beside {a = a} {s = s} {x = x} {k = k} h = record {
  goes = goes_wider Same (Differs (in_tables x)) table_pages (λ m n is. subst (Differs (in_tables x) m) (sym is) (differs_itself (in_tables x) m)) (λ id p no. absurd no) h.swaps;
  brings = h.brings;
  steps = steps_wider (IsComing x a s (runs_of x.sectors k)) (IsChanging x) (λ home is. is) (λ home no. absurd no) h.steps;
  layout = h.layout;
  given = h.given;
  runs_are = h.runs_are;
  revealed = λ b reveals. (b, h.revealed b reveals);
}

pub looked_tables_itself : (d : DiskState) (s : Slots) (layout : Layout) (runs : CachedRuns) → LookedTables d s layout runs d s layout runs
looked_tables_itself d s layout runs = record {
  swaps = swaps_itself d s;
  brings = brings_itself (IsComing layout d s (runs_of layout.sectors runs)) s;
  steps = steps_itself (IsComing layout d s (runs_of layout.sectors runs)) no_home d s;
  layout = refl;
  given = λ r one. inl one;
  runs_are = λ m named stands map are. are;
  revealed = λ b reveals. reveals;
}

pub looked_tables_then : {a b c : DiskState} {s t u : Slots} {x y z : Layout} {k l m : CachedRuns} → IsLayout x → LookedTables a s x k b t y l → LookedTables b t y l c u z m → LookedTables a s x k c u z m
looked_tables_then {a = a} {b = b} {c = c} {s = s} {t = t} {u = u} {x = x} {z = z} {k = k} {l = l} {m = m} is h next =
    let after : LookedTables b t x l c u z m = rw (← h.layout) next in
    let kept = runs_of x.sectors k in
    let now = runs_of x.sectors l in
    let goes = (looked_tables_beside h).goes in
    let coming = coming_before x is kept now goes h.given in
    record {
      swaps = swaps_then h.swaps after.swaps;
      brings = brings_then h.brings (brings_wider (IsComing x a s kept) coming after.brings);
      steps = steps_then h.steps (steps_wider (IsComing x a s kept) no_home coming (λ home no. no) after.steps);
      layout = after.layout;
      given = λ r one. given_before x is kept now goes h.given r (after.given r one);
      runs_are = λ m named stands map are. after.runs_are m named (swaps_stands h.swaps m stands) map (h.runs_are m named stands map are);
      revealed = λ b reveals. after.revealed b (reveals_moved h.layout b (h.revealed b reveals));
    }
