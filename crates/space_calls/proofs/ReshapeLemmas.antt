-- The space tables are changed, after pages were found and before the disk is waited for.
use Rattle.std.proofs.Common.{◌≡◌, inl, inr, [], sym, ◌∙◌, subst}
use Rattle.labelled_disk.specs.declared.layout.Layout.{Layout}
use Rattle.frame_pool.specs.declared.home.Home.{Home}
use Rattle.frame_pool.specs.Frames.{Slots}
use Rattle.swapper_kernel.specs.Differs.{Differs}
use Rattle.swapper_kernel.specs.DiffersLaws.{differs_then}
use Rattle.swapper_kernel.specs.Goes.{Goes, no_page}
use Rattle.swapper_kernel.specs.GoesLaws.{goes_then}
use Rattle.swapper_kernel.specs.HaltLaws.{brings_then, brings_wider}
use Rattle.swapper_kernel.specs.Homes.{Brings, IsLayout}
use Rattle.filer_kernel.specs.Cached.{runs_of}
use Rattle.filer_kernel.specs.PlaceLaws.{map_kept}
use Rattle.filer_kernel.specs.Tables.{in_tables, table_pages, IsComing, BesideTables}
use Rattle.filer_kernel.specs.Triples.{AreOf, IsOneOf}
use Rattle.fault_core.specs.Reach.{BringsOwn, IsReached, Reaches}
use Rattle.filer_kernel.specs.View.{View, kept_by}
use Rattle.fault_core.proofs.BeforeLemmas.{touches_of, given_before, came_before}
use Rattle.fault_core.proofs.TurnLemmas.{own_tables}
use Rattle.space_calls.specs.Unmapping.{Reshapes}

-- pages are found alone
pub reshapes_reached : {v w : View} → Reaches v w → BringsOwn v.slots w.slots → Reshapes v w
reshapes_reached h came = record { goes = h.goes; brings = h.brings; came = came; layout = h.layout; given = h.given; runs_are = h.runs_are }

coming_reached : (v : View) (home : Home) → IsComing v.layout v.disk v.slots (kept_by v) home → IsReached v home
coming_reached v home coming = elim coming [ inl map ↦ inl map | inr found ↦ inr (record { on_data = found.table.on_data; by_run = found.by_run }) ]

-- the tables are accessed alone
pub reshapes_tables : (v w : View) → BesideTables v.disk v.slots v.layout v.runs w.disk w.slots w.layout w.runs → Reshapes v w
reshapes_tables v w h = record {
  goes = h.goes;
  brings = brings_wider (IsReached v) (coming_reached v) h.brings;
  came = own_tables v w.slots h.brings;
  layout = h.layout;
  given = λ r one. h.given r (subst (λ (l : Layout). IsOneOf r (runs_of l.sectors w.runs)) h.layout one);
  runs_are = λ m named stands map are. subst (λ (l : Layout). AreOf named (runs_of l.sectors w.runs)) (sym h.layout) (h.runs_are m named stands map are);
}

-- after pages were found
pub reshapes_after : (v w x : View) → IsLayout v.layout → Reaches v w → BringsOwn v.slots w.slots → Reshapes w x → Reshapes v x
reshapes_after v w x is h came k = record {
  goes = goes_then (Differs (in_tables v.layout)) (Differs (in_tables v.layout)) (Differs (in_tables v.layout)) (λ m n o first last. differs_then (in_tables v.layout) m n o first last) h.goes
      (subst (λ (l : Layout). Goes (Differs (in_tables l)) table_pages [] w.disk w.slots x.disk x.slots) h.layout k.goes);
  brings = brings_then h.brings (brings_wider (IsReached v) (came_before v w is (touches_of no_page h)) k.brings);
  came = brings_then came k.came;
  layout = k.layout ∙ h.layout;
  given = λ r one. given_before v w is (touches_of no_page h) r (k.given r one);
  runs_are = λ m named stands map are. let mid = h.goes.memory m stands in
      k.runs_are mid.0 named mid.1 (rw h.layout (map_kept v.layout named m mid.0 is mid.2 map)) (h.runs_are m named stands map are);
}

-- before the disk is waited for
pub reshapes_settled : (v w x : View) → Reshapes v w → Reaches w x → x.slots ≡ w.slots → x.layout ≡ w.layout → x.runs ≡ w.runs → Reshapes v x
reshapes_settled v w x h k frames layout runs = record {
  goes = goes_then (Differs (in_tables v.layout)) (Differs (in_tables v.layout)) (Differs (in_tables v.layout)) (λ m n o first last. differs_then (in_tables v.layout) m n o first last) h.goes
      (subst (λ (l : Layout). Goes (Differs (in_tables l)) table_pages [] w.disk w.slots x.disk x.slots) h.layout k.goes);
  brings = subst (λ (s : Slots). Brings (IsReached v) v.slots s) (sym frames) h.brings;
  came = subst (λ (s : Slots). BringsOwn v.slots s) (sym frames) h.came;
  layout = layout ∙ h.layout;
  given = λ r one. h.given r (rw (← layout, ← runs) one);
  runs_are = λ m named stands map are. rw (layout, runs) (h.runs_are m named stands map are);
}
