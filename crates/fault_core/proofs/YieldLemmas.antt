-- Frames that stay, and frames whose slots pages of the maps and of the space tables take.
use Rattle.std.proofs.Common.{◌≡◌, ◌⊎◌, inl, inr, ℕ, ◌<◌, List, [], ◌∷◌, length, Some, refl, sym, ◌∙◌, ap, subst}
use Rattle.std.specs.Prelude.{slice_get, slice_set}
use Rattle.std.proofs.lemmas.Bool.{cases_eq}
use Rattle.std.proofs.lemmas.Option.{same_Some}
use Rattle.labelled_disk.specs.declared.layout.Layout.{Layout}
use Rattle.labelled_disk.specs.State.{DiskState}
use Rattle.frame_pool.specs.declared.home.Home.{Home}
use Rattle.frame_pool.specs.Frames.{Frame, Slots, Has}
use Rattle.frame_pool.specs.FrameLaws.{has_below}
use Rattle.frame_pool.specs.ListLaws.{get_same, get_other}
use Rattle.force_calls.specs.Run.{Stay}
use Rattle.swapper_kernel.specs.declared.manager.Manager.TheVariants.{FileMap}
use Rattle.swapper_kernel.specs.Maps.{IsMapHome}
use Rattle.swapper_kernel.specs.Homes.{Homes}
use Rattle.swapper_kernel.specs.Steps.{Step, Steps, IsStep, IsCourse, fills, writes_out, alters}
use Rattle.filer_kernel.specs.Tables.{BesideTables, IsComing, IsChanging}
use Rattle.fault_core.specs.Reach.{IsManagersPage, StayOrYield}
use Rattle.fault_core.specs.Room.{KeepsSlots, PagesStayOrYield}
use Rattle.filer_kernel.specs.View.{View, kept_by}

pub yield_itself : (s : Slots) → StayOrYield s s
yield_itself s i f has = (f, has, inl (refl, refl))

pub yield_same : (s t : Slots) → t ≡ s → StayOrYield s t
yield_same s t same = subst (StayOrYield s) (sym same) (yield_itself s)

pub stay_yields : {s t : Slots} → Stay s t → StayOrYield s t
stay_yields stay i f has = let g = stay i f has in (g.0, g.1, inl (g.2, g.3))

pub yield_then : {s t u : Slots} → StayOrYield s t → StayOrYield t u → StayOrYield s u
yield_then h k i f has =
    let mid = h i f has in
    let new = k i mid.0 mid.1 in (
      new.0,
      new.1,
      elim new.2 [
        | inl same ↦ elim mid.2 [ inl was ↦ inl (same.0 ∙ was.0, same.1 ∙ was.1) | inr own ↦ inr (subst IsManagersPage (sym same.0) own) ]
        | inr own ↦ inr own
      ],
    )

-- one slot is filled: its frame stays, or the new one is of the volume's own
put_yields : (s t : Slots) (i : ℕ) (x : Frame) → i < length s → t ≡ slice_set s i (Some x) → ((f : Frame) → Has s i f → ((x.home ≡ f.home) × (x.bytes ≡ f.bytes)) ⊎ IsManagersPage x.home) → StayOrYield s t
put_yields s t i x below is here j f has = elim (cases_eq j i) [
  | inl same ↦ (
    x,
    record { is = ap (λ (l : Slots). slice_get l j) is ∙ ap (slice_get (slice_set s i (Some x))) same ∙ get_same s i (Some x) below },
    here f (record { is = ap (slice_get s) (sym same) ∙ has.is }),
  )
  | inr other ↦ (f, record { is = ap (λ (l : Slots). slice_get l j) is ∙ get_other s i j (Some x) other ∙ has.is }, inl (refl, refl))
]

-- a slot has one frame
one_frame : (s : Slots) (i : ℕ) (f g : Frame) → Has s i f → Has s i g → f ≡ g
one_frame s i f g first last = same_Some f g (same_Some (Some f) (Some g) (sym first.is ∙ last.is))

module _ (come change : Homes) (comes : (home : Home) → come home → IsManagersPage home) (changes : (home : Home) → change home → IsManagersPage home) where
  step_yields : (k : Step) (a : DiskState) (s : Slots) (b : DiskState) (t : Slots) → IsStep come change k a s b t → StayOrYield s t
  step_yields (fills i f) a s b t h = put_yields s t i f h.below h.is (λ g has. inr (comes f.home h.may))
  step_yields (writes_out i f g) a s b t h = put_yields s t i g (has_below s i f h.has) h.is (λ x has.
      let own = one_frame s i f x h.has has in
      inl (h.home ∙ ap (λ (y : Frame). y.home) own, h.bytes ∙ ap (λ (y : Frame). y.bytes) own))
  step_yields (alters i f g) a s b t h = put_yields s t i g (has_below s i f h.has) h.is (λ x has. inr (subst IsManagersPage (sym h.home) (changes f.home h.may)))

  course_yields : (ks : List Step) (a : DiskState) (s : Slots) (b : DiskState) (t : Slots) → IsCourse come change ks a s b t → StayOrYield s t
  course_yields [] a s b t h = yield_same s t h.1
  course_yields (k ∷ ks) a s b t (m, u, first, rest) = yield_then (step_yields k a s m u first) (course_yields ks m u b t rest)

-- whatever steps a call takes by which pages of these come, and none changes but such pages
pub steps_yield : (come change : Homes) → ((home : Home) → come home → IsManagersPage home) → ((home : Home) → change home → IsManagersPage home) → {a b : DiskState} {s t : Slots} → Steps come change a s b t → StayOrYield s t
steps_yield come change comes changes {a = a} {b = b} {s = s} {t = t} h = course_yields come change comes changes h.steps a s b t h.course

-- ---- The tables were asked, or changed.

map_own : (layout : Layout) (home : Home) → IsMapHome FileMap layout home → IsManagersPage home
map_own layout home map = inl (ap (λ (h : Home). h.id) map.2)

pub tables_yield : (v w : View) → BesideTables v.disk v.slots v.layout v.runs w.disk w.slots w.layout w.runs → StayOrYield v.slots w.slots
tables_yield v w beside =
    course_yields (IsComing v.layout v.disk v.slots (kept_by v)) (IsChanging v.layout)
    (λ home coming. elim coming [ inl map ↦ map_own v.layout home map | inr found ↦ inr found.table.of_tables ])
    (λ home changing. elim changing [ inl map ↦ map_own v.layout home map | inr table ↦ inr table.of_tables ])
    beside.steps.steps v.disk v.slots w.disk w.slots beside.steps.course

-- ---- The file map was asked.

pub map_yields : {a b : DiskState} {s t : Slots} (layout : Layout) → Steps (IsMapHome FileMap layout) (IsMapHome FileMap layout) a s b t → StayOrYield s t
map_yields layout steps = steps_yield (IsMapHome FileMap layout) (IsMapHome FileMap layout) (map_own layout) (map_own layout) steps

-- of pages, which stay where their frames do
pub pages_yield : {s t : Slots} → StayOrYield s t → PagesStayOrYield s t
pages_yield stays i id page (f, has, (same_id, same_page)) =
    let after = stays i f has in
    elim after.2 [
      | inl same ↦ inl (after.0, after.1, (ap (λ h. h.id) same.0 ∙ same_id, ap (λ h. h.page) same.0 ∙ same_page))
      | inr own ↦ inr (after.0, after.1, own)
    ]

-- and then all stay in their slots
pub pages_kept : {s t u : Slots} → PagesStayOrYield s t → KeepsSlots t u → PagesStayOrYield s u
pages_kept stays keeps i id page there = elim (stays i id page there) [
  | inl still ↦ inl (keeps i id page still)
  | inr (g, has, own) ↦
      let after = keeps i g.home.id g.home.page (g, has, (refl, refl)) in
      inr (after.0, after.1, elim own [ inl map ↦ inl (after.2.0 ∙ map) | inr table ↦ inr (after.2.0 ∙ table) ])
]
