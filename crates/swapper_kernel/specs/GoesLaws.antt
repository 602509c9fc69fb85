-- Calls of any layer in a row.
use Rattle.std.proofs.Common.{◌≡◌, ◌⊎◌, inl, inr, ℕ, zero, suc, ◌+◌, ◌<◌, List, [], ◌∷◌, ◌++◌, length, take, Some, refl, sym, ◌∙◌, ap, subst, arith}
use Rattle.std.specs.Prelude.{slice_get, option_map, not}
use Rattle.std.proofs.lemmas.List.Elements.{filter-append}
use Rattle.std.proofs.lemmas.Option.{none-some}
use Rattle.labelled_disk.specs.declared.disk.DiskWrite.{DiskWrite}
use Rattle.labelled_disk.specs.declared.disk.DiskWrite.TheVariants as write
use Rattle.labelled_disk.specs.Sectors.{Sector}
use Rattle.labelled_disk.specs.State.{DiskState}
use Rattle.labelled_disk.specs.Calls.{RevealsSame}
use Rattle.labelled_disk.specs.CrashState.{crash_state}
use Rattle.labelled_disk.specs.Permitted.{Permitted}
use Rattle.labelled_disk.specs.WriteRuns.{after_writes}
use Rattle.labelled_disk.proofs.WriteRunLemmas.{appended_none, appended_then, crash_state-earlier, after_writes-append, crash_state-later}
use Rattle.frame_pool.specs.Frames.{Slots}
use Rattle.swapper_kernel.specs.Stands.{Stands}
use Rattle.swapper_kernel.specs.Goes.{Change, Pages, IsDirty, KeepsSyncs, Went, Wrote, Makes, Goes, Same, no_page, Swaps, is_page_write}

-- no sync was made
pub same_syncs : (a b : DiskState) → b.syncs ≡ a.syncs → KeepsSyncs a b
same_syncs a b same syncs is = (syncs, same ∙ is, λ s has. has)

pub went_itself : (a : DiskState) → Went a a
went_itself a = record { sectors = refl; lent = refl; syncs = same_syncs a a refl; faults = omega arith; transfers = omega arith }

pub went_then : {a b c : DiskState} → Went a b → Went b c → Went a c
went_then h k = record {
  sectors = k.sectors ∙ h.sectors;
  lent = k.lent ∙ h.lent;
  syncs = λ syncs is.
      let between = h.syncs syncs is in
      let later = k.syncs between.0 between.1 in
      (later.0, later.1, λ s has. later.2 s (between.2 s has));
  faults = omega (arith, h.faults, k.faults);
  transfers = omega (arith, h.transfers, k.transfers);
}

-- an element of two lists in a row
get_append : {X : Type 0} (xs ys : List X) (k : ℕ) (x : X) → slice_get (xs ++ ys) k ≡ Some x
    → ((k < length xs) × (slice_get xs k ≡ Some x)) ⊎ ((j : ℕ) × (k ≡ length xs + j) × (slice_get ys j ≡ Some x))
get_append [] ys k x is = inr (k, let z : k ≡ 0 + k = omega arith in z, is)
get_append (y ∷ xs) ys zero x is = inl (omega arith, is)
get_append (y ∷ xs) ys (suc k) x is = elim (get_append xs ys k x is) [
  | inl (below, here) ↦ inl (omega arith, here)
  | inr (j, past, here) ↦ inr (j, let z : suc k ≡ suc (length xs) + j = omega arith in z, here)
]

wrote_then : {pages : Pages} {run more : List DiskWrite} {a b c : DiskState} {s t : Slots} → ((id page : ℕ) → IsDirty t id page → IsDirty s id page ⊎ pages id page)
    → Wrote pages run a s b → Wrote pages more b t c → Wrote pages (run ++ more) a s c
wrote_then {a = a} dirty h k = record {
  writes = h.writes ++ k.writes;
  appended = appended_then h.writes k.writes h.appended k.appended;
  form = λ i w at. elim (get_append h.writes k.writes i w at) [
    | inl (_, here) ↦ h.form i w here
    | inr (j, _, here) ↦ k.form j w here
  ];
  permitted = λ d i w revealed at. elim (get_append h.writes k.writes i w at) [
    | inl (below, here) ↦ subst (λ (now : List Sector). Permitted now w) (sym (crash_state-earlier d h.writes k.writes i (omega arith))) (h.permitted d i w revealed here)
    | inr (j, past, here) ↦ subst (λ (now : List Sector). Permitted now w) (sym (ap (crash_state d (h.writes ++ k.writes)) past ∙ crash_state-later d h.writes k.writes j))
        (k.permitted (after_writes h.writes d) j w (h.appended.contents ∙ ap (option_map (after_writes h.writes)) revealed) here)
  ];
  labels = filter-append (λ w. not (is_page_write w)) h.writes k.writes ∙ (λ i. h.labels i ++ k.labels i);
  of_dirty = λ i sector wanted bytes at. elim (get_append h.writes k.writes i (write.Page sector wanted bytes) at) [
    | inl (_, here) ↦ h.of_dirty i sector wanted bytes here
    | inr (j, _, here) ↦ elim (k.of_dirty j sector wanted bytes here) [
      | inl was ↦ dirty wanted.id wanted.page was
      | inr new ↦ inr new
    ]
  ];
}

-- nothing was written
pub wrote_none : {old new : DiskState} (pages : Pages) (slots : Slots) → RevealsSame old new → Wrote pages [] old slots new
wrote_none pages slots same = record {
  writes = [];
  appended = appended_none same;
  form = λ k w at. absurd (none-some w at);
  permitted = λ d k w revealed at. absurd (none-some w at);
  labels = refl;
  of_dirty = λ k sector wanted bytes at. absurd (none-some (write.Page sector wanted bytes) at);
}

-- nothing happens
pub makes_nothing : (pages : Pages) (disk : DiskState) (slots : Slots) → Makes pages [] disk slots disk slots
makes_nothing pages disk slots = record {
  went = went_itself disk;
  dirty = λ id page is. inl is;
  wrote = wrote_none pages slots (record { contents = refl; writes = refl });
  count = refl;
}

pub goes_itself : (P : Change) (pages : Pages) (disk : DiskState) (slots : Slots) → ((m : List Sector) → P m m) → Goes P pages [] disk slots disk slots
goes_itself P pages disk slots stays = record { makes = makes_nothing pages disk slots; memory = λ m stands. (m, stands, stays m) }

-- one call, and then another
pub makes_then : {pages : Pages} {run more : List DiskWrite} {a b c : DiskState} {s t u : Slots} → Makes pages run a s b t → Makes pages more b t c u → Makes pages (run ++ more) a s c u
makes_then h k = record {
  went = went_then h.went k.went;
  dirty = λ id page is. elim (k.dirty id page is) [ inl was ↦ h.dirty id page was | inr new ↦ inr new ];
  wrote = wrote_then h.dirty h.wrote k.wrote;
  count = k.count ∙ h.count;
}

pub goes_then : (P Q R : Change) {pages : Pages} {run more : List DiskWrite} {a b c : DiskState} {s t u : Slots} → ((m n o : List Sector) → P m n → Q n o → R m o)
    → Goes P pages run a s b t → Goes Q pages more b t c u → Goes R pages (run ++ more) a s c u
goes_then P Q R joins h k = record {
  makes = makes_then h.makes k.makes;
  memory = λ m stands. let x = h.memory m stands in let y = k.memory x.0 x.1 in (y.0, y.1, joins m x.0 y.0 x.2 y.2);
}

-- less is said
pub makes_wider : {pages : Pages} {run : List DiskWrite} {a b : DiskState} {s t : Slots} (more : Pages) → ((id page : ℕ) → pages id page → more id page) → Makes pages run a s b t → Makes more run a s b t
makes_wider more pages_too h = record {
  went = h.went;
  dirty = λ id page is. elim (h.dirty id page is) [ inl was ↦ inl was | inr new ↦ inr (pages_too id page new) ];
  wrote = record {
    writes = h.wrote.writes;
    appended = h.wrote.appended;
    form = h.wrote.form;
    permitted = h.wrote.permitted;
    labels = h.wrote.labels;
    of_dirty = λ k sector wanted bytes at. elim (h.wrote.of_dirty k sector wanted bytes at) [ inl was ↦ inl was | inr new ↦ inr (pages_too wanted.id wanted.page new) ];
  };
  count = h.count;
}

pub goes_wider : (P Q : Change) {pages : Pages} (more : Pages) {run : List DiskWrite} {a b : DiskState} {s t : Slots} → ((m n : List Sector) → P m n → Q m n)
    → ((id page : ℕ) → pages id page → more id page) → Goes P pages run a s b t → Goes Q more run a s b t
goes_wider P Q more less pages_too h = record {
  makes = makes_wider more pages_too h.makes;
  memory = λ m stands. let x = h.memory m stands in (x.0, x.1, less m x.0 x.2);
}

append_none : (xs : List DiskWrite) → xs ++ [] ≡ xs
append_none [] = refl
append_none (x ∷ xs) = ap (λ (l : List DiskWrite). x ∷ l) (append_none xs)

-- swapping, among pages that may become dirty
pub swaps_wider : {a b : DiskState} {s t : Slots} (pages : Pages) → Swaps a s b t → Goes Same pages [] a s b t
swaps_wider pages h = goes_wider Same Same pages (λ m n is. is) (λ id page no. absurd no) h

-- swapping before a call, and after it, is part of it
pub goes_swapping : (P : Change) (pages : Pages) (run : List DiskWrite) {a b c d : DiskState} {s t u v : Slots} → Swaps a s b t → Goes P pages run b t c u → Swaps c u d v → Goes P pages run a s d v
goes_swapping P pages run {a = a} {d = d} {s = s} {v = v} first middle last =
    subst (λ (r : List DiskWrite). Goes P pages r a s d v) (append_none run)
    (goes_then Same P P (λ m n o same is. subst (λ (x : List Sector). P x o) same is) (swaps_wider pages first)
    (goes_then P Same P (λ m n o is same. subst (λ (x : List Sector). P m x) (sym same) is) middle (swaps_wider pages last)))

pub swaps_itself : (disk : DiskState) (slots : Slots) → Swaps disk slots disk slots
swaps_itself disk slots = goes_itself Same no_page disk slots (λ m. refl)

pub swaps_then : {a b c : DiskState} {s t u : Slots} → Swaps a s b t → Swaps b t c u → Swaps a s c u
swaps_then first second = goes_then Same Same Same (λ m n o is also. also ∙ is) first second

-- a memory that stood before swapping stands after it
pub swaps_stands : {a b : DiskState} {s t : Slots} → Swaps a s b t → (m : List Sector) → Stands a s m → Stands b t m
swaps_stands {b = b} {t = t} swaps m stands = let now = swaps.memory m stands in subst (Stands b t) now.2 now.1
