-- Runs of pages that are there.
use Rattle.std.proofs.Common.{◌≡◌, ◌≢◌, ◌<◌, ◌≤◌, ◌+◌, ◌∙◌, ◌↔◌, ◌⊎◌, ℕ, List, Option, Some, None, true, false, refl, ap, sym, subst, inl, inr, zero, suc, length, set, arith, get_or-set_same, get_or-set_other, length-set}
use Rattle.std.specs.Prelude.{◌^◌, IsSome, option_map, replicate}
use Rattle.std.proofs.lemmas.Bool.{cases_eq, cases_lt, true≢false}
use Rattle.std.proofs.lemmas.List.{get_or_past}
use Rattle.std.proofs.lemmas.Option.{same_Some, none-some}
use Rattle.frame_pool.specs.declared.found.FoundRun.{FoundRun}
use Rattle.frame_pool.specs.declared.home.Home.{Home}
use Rattle.frame_pool.specs.Frames.{Frame, Slots, Has, HasPage, IsNowhere, IsOf, frame_at, is_of}
use Rattle.frame_pool.specs.FrameLaws.{frame_of_has, has_below, has_other, has_of_frame, has_set}
use Rattle.frame_pool.specs.ListLaws.{get_same}
use Rattle.frame_pool.specs.Lists.{nothing, found_at}
use Rattle.frame_pool.specs.Runs.{IsThere, HasRun, IsFresh, HasRuns}

-- ---- Runs.

-- nothing is said of no pages
no_pages : (slots : Slots) (id first : ℕ) → HasRun slots id first 0
no_pages slots id first j below = absurd (omega (arith, below))

-- a shorter run from the same page on is there
begins : (slots : Slots) (i j first page more pages : ℕ) → HasRun slots i page more → i ≡ j → page ≡ first → pages ≤ more → HasRun slots j first pages
begins slots i j first page more pages there ids firsts less k below =
    subst (λ (n : ℕ). IsThere slots j (n + k)) firsts (subst (λ (n : ℕ). IsThere slots n (page + k)) ids (there k (omega (arith, below, less))))

-- a run stays where each frame has one of the same home in its place
run_kept : (s after : Slots) (id first pages : ℕ) → ((i : ℕ) (f : Frame) → Has s i f → (g : Frame) × Has after i g × (g.home ≡ f.home)) → HasRun s id first pages → HasRun after id first pages
run_kept s after id first pages kept all j under =
    let old = all j under in
    let new = kept old.0 old.1.0 old.1.1 in
    (old.0, (new.0, new.1, (ap (λ (h : Home). h.id) new.2 ∙ old.1.2.0, ap (λ (h : Home). h.page) new.2 ∙ old.1.2.1)))

page_of_hit : (id page : ℕ) (f : Frame) → is_of id page (Some f) ≡ true → IsOf f id page
page_of_hit id page f hit = (grind (arith, hit), grind (arith, hit))

hit_in : (slots : Slots) (slot id page : ℕ) (x : Option Frame) → slot < length slots → frame_at slots slot ≡ x → is_of id page x ≡ true → HasPage slots slot id page
hit_in slots slot id page None below is hit = absurd cc
hit_in slots slot id page (Some f) below is hit = (f, has_of_frame slots slot f below is, page_of_hit id page f hit)

-- a slot whose frame is that of the page has it
frame_of_hit : (slots : Slots) (slot id page : ℕ) → slot < length slots → is_of id page (frame_at slots slot) ≡ true → HasPage slots slot id page
frame_of_hit slots slot id page below hit = hit_in slots slot id page (frame_at slots slot) below refl hit

hit_filled : (id page : ℕ) (x : Option Frame) → is_of id page x ≡ true → IsSome x
hit_filled id page None hit = absurd cc
hit_filled id page (Some f) hit = refl

pub hit_some : (slots : Slots) (slot id page : ℕ) → is_of id page (frame_at slots slot) ≡ true → IsSome (frame_at slots slot)
hit_some slots slot id page hit = hit_filled id page (frame_at slots slot) hit

pub hit_there : (slots : Slots) (slot id page : ℕ) → slot < length slots → is_of id page (frame_at slots slot) ≡ true → IsThere slots id page
hit_there slots slot id page below hit = (slot, frame_of_hit slots slot id page below hit)

-- ---- Pages that are looked for one after the other.

pub record IsThereUpto (s : Slots) (id first pages k : ℕ) : Type 0 where
  pub below : k ≤ pages
  pub there : HasRun s id first k

pub upto_none : (s : Slots) (id first pages : ℕ) → IsThereUpto s id first pages 0
upto_none s id first pages = record { below = omega arith; there = λ j below. absurd (omega (arith, below)) }

pub upto_more : {s : Slots} {id first pages k : ℕ} → IsThereUpto s id first pages k → k < pages → IsThere s id (first + k) → IsThereUpto s id first pages (k + 1)
upto_more {s = s} {id = id} {first = first} {k = k} h below one = record {
  below = omega (arith, below);
  there = λ j under. elim (cases_lt j k) [
    | inl less ↦ h.there j less
    | inr from ↦ let same : k ≡ j = omega (arith, from, under) in subst (λ (n : ℕ). IsThere s id (first + n)) same one
  ];
}

pub upto_stopped : (s : Slots) (id first pages k : ℕ) → k < pages → IsNowhere s id (first + k) → false ≡ true ↔ HasRun s id first pages
upto_stopped s id first pages k below nowhere = (λ e. absurd (true≢false (sym e)), λ all. let at = all k below in absurd (nowhere at.0 at.1.0 at.1.1 at.1.2.0 at.1.2.1))

pub upto_all : {s : Slots} {id first pages k : ℕ} → IsThereUpto s id first pages k → pages ≤ k → true ≡ true ↔ HasRun s id first pages
upto_all {s = s} {id = id} {first = first} h past =
    let below = h.below in
    (λ e. subst (HasRun s id first) (omega (arith, below, past)) h.there, λ all. refl)

-- where the first page is nowhere, no run from it on is there
pub first_nowhere : (s : Slots) (id first pages : ℕ) → pages ≢ 0 → IsNowhere s id first → false ≡ true ↔ HasRun s id first pages
first_nowhere s id first pages some nowhere =
    let own : first ≡ first + 0 = omega arith in
    upto_stopped s id first pages 0 (omega (arith, some)) (subst (IsNowhere s id) own nowhere)

-- ---- Runs that are remembered.

nothing_there : (n i : ℕ) → found_at (replicate n nothing) i ≡ nothing
nothing_there zero i = refl
nothing_there (suc n) zero = refl
nothing_there (suc n) (suc i) = nothing_there n i

pub fresh_runs : (slots : Slots) (n : ℕ) → HasRuns slots (replicate n nothing) 0
fresh_runs slots n = record {
  past = λ i. rw (nothing_there n i) (omega arith);
  there = λ i f _ _. rw (nothing_there n i) (no_pages slots f.home.id f.home.page);
}

-- a slot that is set remembers this, or nothing where it isn't there
found_own : (founds : List FoundRun) (i : ℕ) (x : FoundRun) → (found_at (set founds i x) i ≡ x) ⊎ (found_at (set founds i x) i ≡ nothing)
found_own founds i x = elim (cases_lt i (length founds)) [
  | inl below ↦ inl (get_or-set_same founds i x nothing below)
  | inr past ↦ inr (get_or_past (set founds i x) i nothing (rw (length-set founds i x) past))
]

-- one slot is set, and no run is lost
runs_set : (s after : Slots) (founds : List FoundRun) (time i : ℕ) (x : FoundRun) → HasRuns s founds time
    → ((id first pages : ℕ) → HasRun s id first pages → HasRun after id first pages)
    → ((j : ℕ) (f : Frame) → j ≢ i → Has after j f → Has s j f)
    → x.time ≤ time → ((f : Frame) → Has after i f → HasRun after f.home.id f.home.page x.pages)
    → HasRuns after (set founds i x) time
runs_set s after founds time i x runs kept elsewhere early own = record {
  past = λ j. elim (cases_eq j i) [
    | inl same ↦ elim (found_own founds i x) [
      | inl is ↦ rw (same, is) early
      | inr is ↦ rw (same, is) (omega arith)
    ]
    | inr apart ↦ rw (get_or-set_other founds i j x nothing apart) (runs.past j)
  ];
  there = λ j f has fresh. elim (cases_eq j i) [
    | inl same ↦
        let here : Has after i f = subst (λ (n : ℕ). Has after n f) same has in
        elim (found_own founds i x) [
          | inl is ↦ rw (same, is) (own f here)
          | inr is ↦ rw (same, is) (no_pages after f.home.id f.home.page)
        ]
    | inr apart ↦
        let is : found_at (set founds i x) j ≡ found_at founds j = get_or-set_other founds i j x nothing apart in
        rw is (kept f.home.id f.home.page _ (runs.there j f (elsewhere j f apart has) (subst (λ (r : FoundRun). IsFresh r time) is fresh)))
  ];
}

-- an empty slot is filled, and remembers nothing
pub runs_filled : (s : Slots) (founds : List FoundRun) (time i : ℕ) (f : Frame) → i < length s → frame_at s i ≡ None → HasRuns s founds time → HasRuns (set s i (Some f)) (set founds i nothing) time
runs_filled s founds time i f below empty runs =
    let kept : (j : ℕ) (g : Frame) → Has s j g → (h : Frame) × Has (set s i (Some f)) j h × (h.home ≡ g.home) = λ j g has.
    let apart : j ≢ i = λ same. none-some g (sym empty ∙ ap (frame_at s) (sym same) ∙ frame_of_has s j g has) in
    (g, has_other s i j (Some f) g apart has, refl) in
    runs_set s (set s i (Some f)) founds time i nothing runs (λ id first pages. run_kept s (set s i (Some f)) id first pages kept)
    (λ j g apart has. elim (has_set s i j (Some f) g below has) [ inl (same, _) ↦ absurd (apart same) | inr (_, was) ↦ was ])
    (omega arith) (λ g _. no_pages (set s i (Some f)) g.home.id g.home.page)

-- after a slot was emptied it remembers nothing, and nothing is of the time that it is
pub runs_cleared : (s after : Slots) (founds : List FoundRun) (time later i : ℕ) → time ≤ later → (later + 1 < 2 ^ 32 → later ≡ time + 1) → HasRuns s founds time → HasRuns after (set founds i nothing) later
runs_cleared s after founds time later i least more runs =
    let all : HasRuns after founds later = record {
      past = λ j. let was = runs.past j in omega (arith, was, least);
      there = λ j f _ (same, low).
          let was = runs.past j in
          let is = more low in
          absurd (omega (arith, was, is, same));
    } in
    runs_set after after founds later i nothing all (λ _ _ _ h. h) (λ _ _ _ h. h) (omega arith) (λ f _. no_pages after f.home.id f.home.page)

has_changed : (g : Frame → Frame) (s : Slots) (i j : ℕ) (f : Frame) → ((h : Frame) → (g h).home ≡ h.home) → Has s j f → (h : Frame) × Has (set s i (option_map g (frame_at s i))) j h × (h.home ≡ f.home)
has_changed g s i j f homes has = elim (cases_eq j i) [
  | inl same ↦
      let here : frame_at s i ≡ Some f = ap (frame_at s) (sym same) ∙ frame_of_has s j f has in
      let new : option_map g (frame_at s i) ≡ Some (g f) = ap (option_map g) here in
      let below : i < length s = subst (λ (n : ℕ). n < length s) same (has_below s j f has) in
      (g f, record { is = rw (same, new) (get_same s i (Some (g f)) below) }, homes f)
  | inr apart ↦ (f, has_other s i j (option_map g (frame_at s i)) f apart has, refl)
]

-- a frame that was changed is that of one with the same home
changed_of : (g : Frame → Frame) (o : Option Frame) (h : Frame) → ((f : Frame) → (g f).home ≡ f.home) → option_map g o ≡ Some h → (f : Frame) × (o ≡ Some f) × (h.home ≡ f.home)
changed_of g None h homes is = absurd (none-some h is)
changed_of g (Some f) h homes is = (f, refl, ap (λ (x : Frame). x.home) (sym (same_Some (g f) h is)) ∙ homes f)

has_before : (g : Frame → Frame) (s : Slots) (i j : ℕ) (h : Frame) → ((f : Frame) → (g f).home ≡ f.home) → i < length s → Has (set s i (option_map g (frame_at s i))) j h → (f : Frame) × Has s j f × (h.home ≡ f.home)
has_before g s i j h homes below has = elim (has_set s i j (option_map g (frame_at s i)) h below has) [
  | inl (same, is) ↦
      let old = changed_of g (frame_at s i) h homes is in
      (old.0, rw same (has_of_frame s i old.0 below old.1), old.2)
  | inr (_, was) ↦ (h, was, refl)
]

-- a frame changes and its home stays
pub runs_changed : (g : Frame → Frame) (s : Slots) (founds : List FoundRun) (time i : ℕ) → ((h : Frame) → (g h).home ≡ h.home) → i < length s → HasRuns s founds time → HasRuns (set s i (option_map g (frame_at s i))) founds time
runs_changed g s founds time i homes below runs =
    let after = set s i (option_map g (frame_at s i)) in
    record {
      past = runs.past;
      there = λ j h has fresh.
          let old = has_before g s i j h homes below has in
          let was = run_kept s after old.0.home.id old.0.home.page _ (λ k f. has_changed g s i k f homes) (runs.there j old.0 old.1 fresh) in
          begins after old.0.home.id h.home.id h.home.page old.0.home.page _ _ was (ap (λ (x : Home). x.id) (sym old.2)) (ap (λ (x : Home). x.page) (sym old.2)) (omega arith);
    }

hit_of : (s : Slots) (i id page : ℕ) (f : Frame) → Has s i f → is_of id page (frame_at s i) ≡ true → IsOf f id page
hit_of s i id page f has hit = page_of_hit id page f (ap (is_of id page) (sym (frame_of_has s i f has)) ∙ hit)

-- the run of the slot's page was found whole
pub runs_found : (s : Slots) (founds : List FoundRun) (time i id first pages : ℕ) → is_of id first (frame_at s i) ≡ true → HasRun s id first pages → HasRuns s founds time
    → HasRuns s (set founds i (record { pages = pages; time = time })) time
runs_found s founds time i id first pages hit there runs =
    runs_set s s founds time i (record { pages = pages; time = time }) runs (λ _ _ _ h. h) (λ _ _ _ h. h) (omega arith)
    (λ f has.
    let own = hit_of s i id first f has hit in
    begins s id f.home.id f.home.page first pages pages there (sym own.0) (sym own.1) (omega arith))

-- what the slot of the first page remembers of this time is there
pub runs_revealed : (s : Slots) (founds : List FoundRun) (time i id first pages : ℕ) → i < length s → is_of id first (frame_at s i) ≡ true → HasRuns s founds time
    → IsFresh (found_at founds i) time → pages ≤ (found_at founds i).pages → HasRun s id first pages
runs_revealed s founds time i id first pages below hit runs fresh less =
    let at = frame_of_hit s i id first below hit in
    let own = at.2 in
    begins s at.0.home.id id first at.0.home.page _ pages (runs.there i at.0 at.1 fresh) own.0 own.1 less
