-- Steps in a row.
use Rattle.std.specs.Prelude.{◌≡◌, ℕ, List, [], ◌∷◌, ◌++◌, Some, slice_set, option_map}
use Rattle.std.proofs.Common.{refl, ◌∙◌, ap}
use Rattle.labelled_disk.specs.declared.disk.DiskWrite.{DiskWrite}
use Rattle.labelled_disk.specs.declared.disk.DiskWrite.TheVariants.{Page}
use Rattle.labelled_disk.specs.Calls.{RevealsSame}
use Rattle.labelled_disk.specs.CrashState.{written}
use Rattle.labelled_disk.specs.State.{DiskState}
use Rattle.frame_pool.specs.declared.home.Home.{Home}
use Rattle.frame_pool.specs.Frames.{Frame, Slots}
use Rattle.swapper_kernel.specs.Homes.{Homes, wanted_at}
use Rattle.swapper_kernel.specs.Steps.{Step, Fills, WritesOut, Alters, IsStep, IsCourse, Steps, fills, writes_out, alters}

same_step : (come change : Homes) (k : Step) (a b m : DiskState) (s t u : Slots) → RevealsSame a b → t ≡ s → IsStep come change k b t m u → IsStep come change k a s m u
same_step come change (fills i f) a b m s t u same is h = record {
  may = h.may;
  same = record { contents = h.same.contents ∙ same.contents; writes = h.same.writes ∙ same.writes };
  clean = h.clean;
  page = (h.page.0, (λ sectors revealed. h.page.1 sectors (same.contents ∙ revealed)), h.page.2);
  fresh = rw (← is) h.fresh;
  below = rw (← is) h.below;
  leaves = rw (← is) h.leaves;
  is = h.is ∙ ap (λ (l : Slots). slice_set l i (Some f)) is;
}
same_step come change (writes_out i f g) a b m s t u same is h = record {
  has = rw (← is) h.has;
  dirty = h.dirty;
  home = h.home;
  bytes = h.bytes;
  reveals = record {
    contents = h.reveals.contents ∙ ap (option_map (written (Page f.home.sector (wanted_at f.home) f.bytes))) same.contents;
    writes = h.reveals.writes ∙ ap (option_map (λ (l : List DiskWrite). l ++ Page f.home.sector (wanted_at f.home) f.bytes ∷ [])) same.writes;
  };
  named = λ sectors revealed. h.named sectors (same.contents ∙ revealed);
  is = h.is ∙ ap (λ (l : Slots). slice_set l i (Some g)) is;
}
same_step come change (alters i f g) a b m s t u same is h = record {
  may = h.may;
  has = rw (← is) h.has;
  home = h.home;
  dirty = h.dirty;
  same = record { contents = h.same.contents ∙ same.contents; writes = h.same.writes ∙ same.writes };
  is = h.is ∙ ap (λ (l : Slots). slice_set l i (Some g)) is;
}

course-append : (come change : Homes) (ks ls : List Step) (a b c : DiskState) (s t u : Slots) → IsCourse come change ks a s b t → IsCourse come change ls b t c u → IsCourse come change (ks ++ ls) a s c u
course-append come change [] [] a b c s t u h k = (record { contents = k.0.contents ∙ h.0.contents; writes = k.0.writes ∙ h.0.writes }, k.1 ∙ h.1)
course-append come change [] (l ∷ ls) a b c s t u h k = (k.0, k.1, same_step come change l a b k.0 s t k.1 h.0 h.1 k.2, k.3)
course-append come change (x ∷ ks) ls a b c s t u h k = (h.0, h.1, h.2, course-append come change ks ls h.0 b c h.1 t u h.3 k)

step_wider : (come change more also : Homes) → ((h : Home) → come h → more h) → ((h : Home) → change h → also h) → (k : Step) (a b : DiskState) (s t : Slots) → IsStep come change k a s b t → IsStep more also k a s b t
step_wider come change more also c d (fills i f) a b s t h = record { may = c f.home h.may; same = h.same; clean = h.clean; page = h.page; fresh = h.fresh; below = h.below; leaves = h.leaves; is = h.is }
step_wider come change more also c d (writes_out i f g) a b s t h = h
step_wider come change more also c d (alters i f g) a b s t h = record { may = d f.home h.may; has = h.has; home = h.home; dirty = h.dirty; same = h.same; is = h.is }

course_wider : (come change more also : Homes) → ((h : Home) → come h → more h) → ((h : Home) → change h → also h) → (ks : List Step) (a b : DiskState) (s t : Slots)
    → IsCourse come change ks a s b t → IsCourse more also ks a s b t
course_wider come change more also c d [] a b s t h = h
course_wider come change more also c d (k ∷ ks) a b s t h = (h.0, h.1, step_wider come change more also c d k a h.0 s h.1 h.2, course_wider come change more also c d ks h.0 b h.1 t h.3)

pub steps_itself : (come change : Homes) (a : DiskState) (s : Slots) → Steps come change a s a s
steps_itself come change a s = record { steps = []; course = (record { contents = refl; writes = refl }, refl) }

pub steps_then : {come change : Homes} {a b c : DiskState} {s t u : Slots} → Steps come change a s b t → Steps come change b t c u → Steps come change a s c u
steps_then {come = come} {change = change} {a = a} {b = b} {c = c} {s = s} {t = t} {u = u} h k =
    record { steps = h.steps ++ k.steps; course = course-append come change h.steps k.steps a b c s t u h.course k.course }

-- more pages may come, and more may change
pub steps_wider : {come change : Homes} (more also : Homes) {a b : DiskState} {s t : Slots} → ((h : Home) → come h → more h) → ((h : Home) → change h → also h) → Steps come change a s b t → Steps more also a s b t
steps_wider {come = come} {change = change} more also {a = a} {b = b} {s = s} {t = t} c d h =
    record { steps = h.steps; course = course_wider come change more also c d h.steps a b s t h.course }

one_step : (come change : Homes) (k : Step) (a b : DiskState) (s t : Slots) → IsStep come change k a s b t → Steps come change a s b t
one_step come change k a b s t h = record { steps = k ∷ []; course = (b, t, h, (record { contents = refl; writes = refl }, refl)) }

-- nothing but counts
pub steps_none : {come change : Homes} {a b : DiskState} (s : Slots) → RevealsSame a b → Steps come change a s b s
steps_none s same = record { steps = []; course = (same, refl) }

pub steps_filled : {come change : Homes} {a b : DiskState} (s t : Slots) (i : ℕ) (f : Frame) → Fills come i f a s b t → Steps come change a s b t
steps_filled {come = come} {change = change} {a = a} {b = b} s t i f h = one_step come change (fills i f) a b s t h

pub steps_out : {come change : Homes} {a b : DiskState} (s t : Slots) (i : ℕ) (f g : Frame) → WritesOut i f g a s b t → Steps come change a s b t
steps_out {come = come} {change = change} {a = a} {b = b} s t i f g h = one_step come change (writes_out i f g) a b s t h

pub steps_altered : {come change : Homes} {a b : DiskState} (s t : Slots) (i : ℕ) (f g : Frame) → Alters change i f g a s b t → Steps come change a s b t
steps_altered {come = come} {change = change} {a = a} {b = b} s t i f g h = one_step come change (alters i f g) a b s t h
