-- Runs of permitted writes, one after the other.
use Rattle.std.proofs.Common.{◌≡◌, ◌⊎◌, inl, inr, ℕ, zero, suc, ◌+◌, ◌-◌, ◌<◌, ◌≤◌, List, [], ◌∷◌, ◌++◌, length, Some, refl, sym, ◌∙◌, ap, subst, arith, append_assoc, length-append}
use Rattle.std.proofs.lemmas.Bool.{cases_lt}
use Rattle.std.specs.Prelude.{option_map, slice_get}
use Rattle.std.proofs.lemmas.Option.{none-some}
use Rattle.labelled_disk.specs.declared.disk.DiskWrite.{DiskWrite}
use Rattle.labelled_disk.specs.Calls.{RevealsSame}
use Rattle.labelled_disk.specs.Permitted.{Permitted}
use Rattle.labelled_disk.specs.CrashState.{crash_state}
use Rattle.labelled_disk.specs.Sectors.{Sector}
use Rattle.labelled_disk.specs.State.{DiskState}
use Rattle.labelled_disk.specs.WriteRuns.{Appended, after_writes}
use Rattle.labelled_disk.proofs.WriteRunLemmas.{appended_none, appended_then, crash_state-earlier, crash_state-later}
use Rattle.labelled_disk.specs.Root.{root_page, short_at}
use Rattle.labelled_disk.specs.Runs.{growth}
use Rattle.frame_pool.specs.Frames.{Slots}
use Rattle.swapper_kernel.specs.Goes.{Pages}
use Rattle.running_words.specs.Session.{AreOpen, WroteIn}
use Rattle.running_words.proofs.FlagLemmas.{append_open, growth_open, open_writes, root_open, rows_flag, take_open}
use Rattle.volume_root.specs.RootPage.{root_write}
use Rattle.pilot_engine.specs.Closing.{ShutLast, WroteOn, closed_root}
use Rattle.pilot_engine.specs.Opening.{IsUnset, WroteFirst, in_use}
use Rattle.pilot_engine.proofs.ShutLemmas.{writes_open}
use Rattle.pilot_engine.proofs.UnsetLemmas.{begun_flag}
use Rattle.pilot_top.specs.CrashStates.{Lawfully, Openly, ShutsLast}
use Rattle.volume_root.specs.declared.root.Root.{Root}

-- an element of two lists in a row
pub get_append : {X : Type 0} (xs ys : List X) (k : ℕ) (x : X) → slice_get (xs ++ ys) k ≡ Some x
    → ((k < length xs) × (slice_get xs k ≡ Some x)) ⊎ ((j : ℕ) × (k ≡ length xs + j) × (slice_get ys j ≡ Some x))
get_append [] ys k x is = inr (k, let z : k ≡ 0 + k = omega arith in z, is)
get_append (y ∷ xs) ys zero x is = inl (omega arith, is)
get_append (y ∷ xs) ys (suc k) x is = elim (get_append xs ys k x is) [
  | inl (below, here) ↦ inl (omega arith, here)
  | inr (j, past, here) ↦ inr (j, let z : suc k ≡ suc (length xs) + j = omega arith in z, here)
]

-- an element of the first list is there in both
get_prefix : {X : Type 0} (xs ys : List X) (k : ℕ) (x : X) → slice_get xs k ≡ Some x → slice_get (xs ++ ys) k ≡ Some x
get_prefix [] ys k x is = absurd (none-some x is)
get_prefix (y ∷ xs) ys zero x is = is
get_prefix (y ∷ xs) ys (suc k) x is = get_prefix xs ys k x is

-- each of some writes is permitted where it is made, where the disk reveals its sectors
abbrev ArePermitted : List DiskWrite → DiskState → Type 0
ArePermitted writes old = (d : List Sector) (k : ℕ) (w : DiskWrite) → old.contents ≡ Some d → slice_get writes k ≡ Some w → Permitted (crash_state d writes k) w

-- one list of writes and then another
permitted_then : {a b : DiskState} (first next : List DiskWrite) → Appended first a b → ArePermitted first a → ArePermitted next b → ArePermitted (first ++ next) a
permitted_then first next appended early late d i w revealed at = elim (get_append first next i w at) [
  | inl (below, here) ↦ subst (λ (now : List Sector). Permitted now w) (sym (crash_state-earlier d first next i (omega arith))) (early d i w revealed here)
  | inr (j, past, here) ↦ subst (λ (now : List Sector). Permitted now w) (sym (ap (crash_state d (first ++ next)) past ∙ crash_state-later d first next j))
      (late (after_writes first d) j w (appended.contents ∙ ap (option_map (after_writes first)) revealed) here)
]

-- no write
pub openly_none : {a b : DiskState} → RevealsSame a b → Openly a b
openly_none same = record { writes = []; appended = appended_none same; permitted = λ d k w revealed at. absurd (none-some w at); opens = tt }

pub openly_itself : (a : DiskState) → Openly a a
openly_itself a = openly_none (record { contents = refl; writes = refl })

-- nothing was written
pub lawfully_none : {a b : DiskState} → RevealsSame a b → Lawfully a b
lawfully_none same = record { writes = []; appended = appended_none same; permitted = λ d k w revealed at. absurd (none-some w at); open_flag = λ d k revealed some below. absurd (omega (arith, some, below)) }

-- one call and then another
pub openly_then : {a b c : DiskState} → Openly a b → Openly b c → Openly a c
openly_then h k = record {
  writes = h.writes ++ k.writes;
  appended = appended_then h.writes k.writes h.appended k.appended;
  permitted = permitted_then h.writes k.writes h.appended h.permitted k.permitted;
  opens = append_open h.writes k.writes h.opens k.opens;
}

-- what a call of a session writes
pub called_openly : {pages : Pages} {old new : DiskState} {before after : Slots} → WroteIn pages old before new after → Openly old new
called_openly wrote = record { writes = wrote.makes.wrote.writes; appended = wrote.makes.wrote.appended; permitted = wrote.makes.wrote.permitted; opens = writes_open wrote }

-- no end, or one, after calls
pub openly_last : {a b : DiskState} → Openly a b → ShutsLast a b
openly_last h = record { writes = h.writes; appended = h.appended; permitted = h.permitted; shut = inl h.opens }

shut_after : (ws more : List DiskWrite) → AreOpen ws → ShutLast more → ShutLast (ws ++ more)
shut_after ws more opens (inl others) = inl (append_open ws more opens others)
shut_after ws more opens (inr (earlier, root, is, others)) =
    inr (ws ++ earlier, root, ap (λ (l : List DiskWrite). ws ++ l) is ∙ sym (append_assoc ws earlier (root_write (closed_root root) ∷ [])), append_open ws earlier opens others)

pub ended_last : {root : Root} {a b c : DiskState} {before : Slots} → Openly a b → WroteOn root before b c → ShutsLast a c
ended_last h k = record {
  writes = h.writes ++ k.wrote.writes;
  appended = appended_then h.writes k.wrote.writes h.appended k.wrote.appended;
  permitted = permitted_then h.writes k.wrote.writes h.appended h.permitted k.wrote.permitted;
  shut = shut_after h.writes k.wrote.writes h.opens k.shut;
}

-- What a start writes.
module _ {a b : DiskState} (wrote : WroteFirst a b) where
  first_open : AreOpen wrote.wrote.writes
  first_open = open_writes wrote.wrote.writes (subst AreOpen (sym wrote.wrote.labels)
      (take_open wrote.count (root_write (in_use wrote.root) ∷ growth 3 0 0 wrote.sectors) (root_open (in_use wrote.root) (growth 3 0 0 wrote.sectors) refl (growth_open 3 0 0 wrote.sectors))))

  pub first_flag : (d : List Sector) (k : ℕ) → a.contents ≡ Some d → 1 ≤ k → k ≤ length wrote.wrote.writes → short_at (root_page (crash_state d wrote.wrote.writes k)) 10 ≡ 0
  first_flag d k revealed some few = begun_flag wrote.wrote.writes (in_use wrote.root) refl wrote.first first_open d (λ j w here. wrote.wrote.permitted d j w revealed here) k some few

  -- no session started
  pub started_lawfully : Lawfully a b
  started_lawfully = record {
    writes = wrote.wrote.writes;
    appended = wrote.wrote.appended;
    permitted = wrote.wrote.permitted;
    open_flag = λ d k revealed some few. first_flag d k revealed some (omega (arith, few));
  }

  -- and then a session
  module _ {c : DiskState} (unset : IsUnset b) (h : ShutsLast b c) where
    later_flag : (d : List Sector) (k : ℕ) → b.contents ≡ Some d → k < length h.writes → short_at (root_page (crash_state d h.writes k)) 10 ≡ 0
    later_flag d k revealed few = either h.shut
      where
        either : ShutLast h.writes → short_at (root_page (crash_state d h.writes k)) 10 ≡ 0
        either (inl opens) = rows_flag h.writes d k opens (λ j w here. h.permitted d j w revealed here) (unset d revealed)
        either (inr (earlier, root, is, opens)) =
            let last = root_write (closed_root root) ∷ [] in
            let long : length h.writes ≡ length earlier + 1 = ap length is ∙ length-append earlier last in
            subst (λ (ws : List DiskWrite). short_at (root_page (crash_state d ws k)) 10 ≡ 0) (sym is)
            (subst (λ (now : List Sector). short_at (root_page now) 10 ≡ 0) (sym (crash_state-earlier d earlier last k (omega (arith, few, long))))
            (rows_flag earlier d k opens (λ j w here. subst (λ (now : List Sector). Permitted now w) (crash_state-earlier d earlier last j (below earlier j w here))
            (subst (λ (ws : List DiskWrite). Permitted (crash_state d ws j) w) is (h.permitted d j w revealed (subst (λ (ws : List DiskWrite). slice_get ws j ≡ Some w) (sym is) (get_prefix earlier last j w here))))) (unset d revealed)))
          where
            below : (ws : List DiskWrite) (j : ℕ) (w : DiskWrite) → slice_get ws j ≡ Some w → j ≤ length ws
            below [] j w here = absurd (none-some w here)
            below (v ∷ ws) zero w here = omega arith
            below (v ∷ ws) (suc j) w here = let rest = below ws j w here in omega (arith, rest)

    all_flag : (d : List Sector) (k : ℕ) → a.contents ≡ Some d → 1 ≤ k → k < length (wrote.wrote.writes ++ h.writes) → short_at (root_page (crash_state d (wrote.wrote.writes ++ h.writes) k)) 10 ≡ 0
    all_flag d k revealed some few = elim (cases_lt (length wrote.wrote.writes) k) [
      | inl past ↦
          let at : k ≡ length wrote.wrote.writes + (k - length wrote.wrote.writes) = omega (arith, past) in
          let long = length-append wrote.wrote.writes h.writes in
          subst (λ (now : List Sector). short_at (root_page now) 10 ≡ 0) (sym (ap (crash_state d (wrote.wrote.writes ++ h.writes)) at ∙ crash_state-later d wrote.wrote.writes h.writes (k - length wrote.wrote.writes)))
          (later_flag (after_writes wrote.wrote.writes d) (k - length wrote.wrote.writes) (wrote.wrote.appended.contents ∙ ap (option_map (after_writes wrote.wrote.writes)) revealed) (omega (arith, past, few, long)))
      | inr early ↦ subst (λ (now : List Sector). short_at (root_page now) 10 ≡ 0) (sym (crash_state-earlier d wrote.wrote.writes h.writes k early)) (first_flag d k revealed some early)
    ]

    pub ran_lawfully : Lawfully a c
    ran_lawfully = record {
      writes = wrote.wrote.writes ++ h.writes;
      appended = appended_then wrote.wrote.writes h.writes wrote.wrote.appended h.appended;
      permitted = permitted_then wrote.wrote.writes h.writes wrote.wrote.appended wrote.wrote.permitted h.permitted;
      open_flag = all_flag;
    }
