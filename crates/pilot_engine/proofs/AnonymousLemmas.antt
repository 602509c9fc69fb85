-- A window is taken away, and an anonymous one's file goes with it.
use Rattle.std.proofs.Common.{◌≡◌, inl, inr, ℕ, zero, suc, Bool, true, false, ◌&&◌, not, List, Option, Some, None, Result, Ok, Err, refl, sym, ◌∙◌, ap, subst, eqb}
use Rattle.std.specs.Prelude.{find, IfOk, IfSome, IsFalse, OnOk, MatchOption, option_map, ◌==◌, if◌then◌else◌}
use Rattle.std.specs.Option.{option_map_or}
use Rattle.std.proofs.lemmas.Bool.{and_parts, eq-eqb, eqb-true, true≢false}
use Rattle.labelled_disk.specs.declared.disk.Disk.{Ghosts}
use Rattle.labelled_disk.specs.declared.evidence.Halt.{Halt}
use Rattle.labelled_disk.specs.File.{file_at, size}
use Rattle.flat_machine.specs.declared.call.Call.{Call}
use Rattle.flat_machine.specs.declared.call.Call.TheVariants as call
use Rattle.flat_machine.specs.declared.call.Refusal.{Refusal}
use Rattle.flat_machine.specs.declared.call.Refusal.TheVariants as why
use Rattle.flat_machine.specs.declared.call.Reply.{Reply}
use Rattle.flat_machine.specs.declared.call.Reply.TheVariants as reply
use Rattle.flat_machine.specs.declared.space.FilePage.{FilePage}
use Rattle.flat_machine.specs.declared.space.Space.{Space}
use Rattle.flat_machine.specs.declared.space.Window.{Window}
use Rattle.flat_machine.specs.Allows.{Allows, Answers}
use Rattle.flat_machine.specs.IsMachine.{IsMachine}
use Rattle.flat_machine.specs.Machine.{Machine, shares_anonymous}
use Rattle.flat_machine.specs.Next.{next, is_same_page, set_window, unmapped, without_anonymous, without_file, without_window_of}
use Rattle.flat_machine.specs.Refusal.{first_of, refusal, file_mapped}
use Rattle.projection_laws.specs.Tests.{window_row}
use Rattle.table_calls.specs.Answers.{Reveals}
use Rattle.flat_machine.specs.Settled.{is_unforced}
use Rattle.flat_machine.specs.Space.{has_window, shows, space_at}
use Rattle.flat_machine.proofs.FileLemmas.{window_file}
use Rattle.flat_machine.proofs.Keep.{window_at}
use Rattle.flat_machine.proofs.Lists.{In, any_in, find_in, in_any, in_filter, in_map}
use Rattle.flat_machine.proofs.SpaceLemmas.{two_at}
use Rattle.flat_machine.proofs.StoreLemmas.{unrefused}
use Rattle.flat_machine.proofs.TestLemmas.{window_test}
use Rattle.space_tables.specs.declared.shown.Shown.{Shown}
use Rattle.space_tables.specs.Shows.{window_of}
use Rattle.space_calls.specs.Unmapping.{IsTaken, without_window}
use Rattle.file_manager.specs.declared.volume.Volume.{Volume}
use Rattle.fault_core.specs.declared.core_over.Core.{Core}
use Rattle.running_words.specs.Running.{Carried, Runs}
use Rattle.running_words.specs.Stages.{HasNumbers, Passes, stage}
use Rattle.labelled_disk.specs.Calls.{RevealsSame}
use Rattle.labelled_disk.specs.State.{DiskState}
use Rattle.labelled_disk.proofs.WriteRunLemmas.{appended_no_more}
use Rattle.file_map.specs.FileMap.{Triples}
use Rattle.frame_pool.specs.Frames.{Slots}
use Rattle.swapper_kernel.specs.Homes.{IsLayout}
use Rattle.fault_core.specs.Core.{Knows, state}
use Rattle.fault_core.specs.Reach.{BringsOwn, Reaches}
use Rattle.space_calls.proofs.RunLemmas.{knows, reached_runs}
use Rattle.labelled_disk.specs.Sectors.{Sector}
use Rattle.session_words.specs.StandsFor.{RevealsSettled}
use Rattle.pilot_engine.proofs.CarryLemmas.{answers}
use Rattle.pilot_engine.proofs.RefusalLemmas.{delete_free}
use Rattle.pilot_engine.proofs.SeenLemmas.{unseen_named}
use Rattle.pilot_engine.proofs.SettledWider.{reveals_wider}

-- what none of a list passes is not found in it
none_passes : {X : Type 0} (p : X → Bool) (xs : List X) → ((x : X) → In x xs → p x ≡ false) → find p xs ≡ None
none_passes {X} p xs fails = by (find p xs) refl
  where
    by : (o : Option X) → find p xs ≡ o → find p xs ≡ None
    by None is = is
    by (Some x) is = let at = find_in p xs x is in absurd (true≢false (sym at.1 ∙ fails x at.0))

-- Tests that are turned.

pub unset : (b : Bool) → not b ≡ true → b ≡ false
unset true revealed = absurd (true≢false (sym revealed))
unset false revealed = refl

pub is_set : (b : Bool) → not b ≡ false → b ≡ true
is_set true revealed = refl
is_set false revealed = absurd (true≢false revealed)

-- what the taking of a window reveals
pub record Took (m : Machine) (space : ℕ) (shown : Shown) (stands : Machine → Type 0) : Type 0 where
  pub free : refusal m (call.Unmap space) ≡ None
  pub s : Space
  pub here : space_at m.spaces space ≡ Some s
  pub window : s.window ≡ Some (window_of shown)
  pub left : stands (without_window space s m)

pub took : (m : Machine) (space : ℕ) (shown : Shown) (stands : Machine → Type 0) → Reveals (first_of (window_row m.spaces space)) (IsTaken m space stands) (Ok shown) → Took m space shown stands
took m space shown stands (free, t) = record { free = free; s = t.0; here = t.1; window = t.2; left = t.3 }

-- or that it was refused
pub not_taken : (m : Machine) (space : ℕ) (word : Refusal) (stands : Machine → Type 0) → Reveals (first_of (window_row m.spaces space)) (IsTaken m space stands) (Err word) → refusal m (call.Unmap space) ≡ Some word
not_taken m space word stands (is, any) = is

-- the reply to a call that is not refused
pub replied : (n : Machine) (c : Call) (r : Reply) → refusal n c ≡ None → Allows n c r → Answers n c r
replied n c r free allowed = subst (λ o. MatchOption o (Answers n c r) (λ word. r ≡ reply.Refused word)) free allowed

module _ (m : Machine) (h : IsMachine m) (space : ℕ) (s : Space) (here : space_at m.spaces space ≡ Some s) (shown : Shown) (window : s.window ≡ Some (window_of shown)) (free : refusal m (call.Unmap space) ≡ None) where
  abbrev left : Machine
  left = without_window space s m

  own_handle : s.handle ≡ space
  own_handle = eqb-true s.handle space (find_in (λ t. t.handle == space) m.spaces s here).1

  there : In s m.spaces
  there = (find_in (λ t. t.handle == space) m.spaces s here).0

  is_unmapped : next m (call.Unmap space) ≡ unmapped m s
  is_unmapped = unrefused m (call.Unmap space) free ∙ ap (λ (o : Option Space). option_map_or (unmapped m) o m) here

  files_left : (b : Bool) → shown.anonymous ≡ b → option_map_or (λ w. without_anonymous w m.files) s.window m.files ≡ (if b then without_file shown.id m.files else m.files)
  files_left b is = ap (λ (o : Option Window). option_map_or (λ w. without_anonymous w m.files) o m.files) window ∙ ap (λ (a : Bool). if a then without_file shown.id m.files else m.files) is

  -- the file stays
  pub plain_left : shown.anonymous ≡ false → next m (call.Unmap space) ≡ left
  plain_left plain = is_unmapped ∙ (λ i. record m { files = files_left false plain i; spaces = set_window (own_handle i) None m.spaces; unforced = without_window_of s m.unforced })

  -- fewer pages are unforced
  pub forced_wider : (d : List Sector) → RevealsSettled d left → RevealsSettled d m
  forced_wider d revealed = reveals_wider m left h refl fewer d revealed
    where
      fewer : (id page : ℕ) → is_unforced left.unforced id page ≡ true → is_unforced m.unforced id page ≡ true
      fewer id page is =
          let u : FilePage = record { file = id; page = page } in
          let at = any_in (is_same_page u) left.unforced is in
          in_any (is_same_page u) m.unforced at.0 (in_filter (λ v. not (shows v.file v.page s)) m.unforced at.0 at.1).0 at.2

  module _ (anonymous : shown.anonymous ≡ true) where
    -- no other window shows it
    pub left_unseen : file_mapped left shown.id (λ w. true) ≡ None
    left_unseen = ap (λ (o : Option Space). option_map why.FileMapped (option_map (λ (t : Space). t.handle) o)) (none_passes (has_window (λ w. w.file == shown.id && true)) left.spaces each)
      where
        test : Window → Bool
        test w = w.file == shown.id && true

        none : (t u : Space) (b : Bool) → (if b then record u { window = None } else u) ≡ t → eqb u.handle space ≡ b → In u m.spaces → (c : Bool) → has_window (λ w. w.file == shown.id && true) t ≡ c → c ≡ false
        none t u true is same i c passes = sym (ap (has_window (λ w. w.file == shown.id && true)) is ∙ passes)
        none t u false is other i false passes = refl
        none t u false is other i true passes =
            let alone : shares_anonymous s u ≡ false = two_at _ m.spaces h.anonymous_alone s u there i (λ e. true≢false (sym (eq-eqb u.handle space (sym e ∙ own_handle)) ∙ other)) in
            let seen : has_window (λ w. w.file == shown.id && true) u ≡ true = ap (has_window (λ w. w.file == shown.id && true)) is ∙ passes in
            let sees : has_window (λ v. v.file == shown.id) u ≡ true = weaker u.window seen in
            let shares : shares_anonymous s u ≡ true = window_test (λ w. w.anonymous && has_window (λ v. v.file == w.file) u) s (window_of shown) window ∙ rw (anonymous, sees) refl in
            absurd (true≢false (sym shares ∙ alone))
          where
            weaker : (o : Option Window) → option_map_or (λ w. w.file == shown.id && true) o false ≡ true → option_map_or (λ v. v.file == shown.id) o false ≡ true
            weaker None is = is
            weaker (Some w) is = (and_parts (eqb w.file shown.id) true is).0

        each : (t : Space) → In t left.spaces → has_window (λ w. w.file == shown.id && true) t ≡ false
        each t i = let u = in_map (λ x. if x.handle == space then record x { window = None } else x) m.spaces t i in none t u.0 (eqb u.0.handle space) u.2 refl u.1 (has_window (λ w. w.file == shown.id && true) t) refl

    -- and it is temporary
    pub left_temporary : IfSome (file_at left.files shown.id) (λ f. IsFalse f.permanent)
    left_temporary = (window_at m.files m.spaces h.whole_windows s (window_of shown) there window).anonymous_temporary anonymous

    -- so it may be deleted
    pub left_free : refusal left (call.Delete shown.id) ≡ None
    left_free =
        let f = window_file m.files s.pages (window_of shown) (window_at m.files m.spaces h.whole_windows s (window_of shown) there window) in
        delete_free left shown.id f.0 f.1 (unseen_named left shown.id left_unseen) left_unseen

    -- and that is all
    pub hidden_left : next left (call.Delete shown.id) ≡ next m (call.Unmap space)
    hidden_left =
        unrefused left (call.Delete shown.id) left_free
        ∙ sym (is_unmapped ∙ (λ i. record m { files = files_left true anonymous i; spaces = set_window (own_handle i) None m.spaces; unforced = without_window_of s m.unforced }))

    -- in each crash state
    pub hidden_alike : (d : List Sector) (k : ℕ) → RevealsSettled d (stage left (call.Delete shown.id) k) → RevealsSettled d (stage m (call.Unmap space) k)
    hidden_alike d zero revealed = forced_wider d revealed
    hidden_alike d (suc k) revealed = subst (λ (n : Machine). RevealsSettled d n) hidden_left revealed

    -- and the numbers are the same
    pub hidden_numbers : (d : List Sector) → HasNumbers left (call.Delete shown.id) d → HasNumbers m (call.Unmap space) d
    hidden_numbers d is = record {
      same_serial = is.same_serial;
      counter = elim is.counter [ inl before ↦ inl before | inr after ↦ inr (after ∙ ap (λ (n : Machine). n.counter) hidden_left) ];
    }

    module _ {D A : Type 0} {G : Ghosts D} (core : Core D A G) (volume : Volume) where
      pub hidden_carried : (result : Result Reply Halt) → IfOk result (Carried left (call.Delete shown.id) core volume) → IfOk result (Carried m (call.Unmap space) core volume)
      hidden_carried (Err e) carried = tt
      hidden_carried (Ok r) carried = record {
        allowed = answers m (call.Unmap space) r free (replied left (call.Delete shown.id) r left_free carried.allowed);
        runs = subst (λ (n : Machine). Runs core volume n) hidden_left carried.runs;
      }

  pub plain_carried : {D A : Type 0} {G : Ghosts D} (core : Core D A G) (volume : Volume) → shown.anonymous ≡ false → Runs core volume left → Carried m (call.Unmap space) core volume reply.Done
  plain_carried core volume plain runs = record { allowed = answers m (call.Unmap space) reply.Done free refl; runs = subst (λ (n : Machine). Runs core volume n) (sym (plain_left plain)) runs }

-- ---- What was written is waited for.

module _ {D A : Type 0} {G : Ghosts D} where
  -- a core of which as much is known stands for the same machine
  pub waited_running : (old new : Core D A G) → IsLayout (state old).layout → (state old).disk.sectors ≡ (state old).layout.sectors → (volume : Volume) (m : Machine) → Runs old volume m
      → Reaches (state old) (state new) → (state new).slots ≡ (state old).slots → new.intervals ≡ old.intervals → ((x : List Sector) (named : Triples) (ss : List Space) → Knows old x named ss → Knows new x named ss) → Runs new volume m
  waited_running old new layout size volume m r reaches pools count known =
      reached_runs old layout size new volume m r reaches (subst (λ (slots : Slots). BringsOwn (state old).slots slots) (sym pools) (record { homes = λ home held. inl held })) count (known _ _ m.spaces (knows old layout size volume m r))

  pub waited_carried : (old new : Core D A G) → IsLayout (state old).layout → (state old).disk.sectors ≡ (state old).layout.sectors → (volume : Volume) (m : Machine) (c : Call) (r : Reply) → Carried m c old volume r
      → Reaches (state old) (state new) → (state new).slots ≡ (state old).slots → new.intervals ≡ old.intervals → ((x : List Sector) (named : Triples) (ss : List Space) → Knows old x named ss → Knows new x named ss) → Carried m c new volume r
  waited_carried old new layout size volume m c r carried reaches pools count known =
      record { allowed = carried.allowed; runs = waited_running old new layout size volume (next m c) carried.runs reaches pools count known }

-- and nothing more is written
pub passes_still : {old mid new : DiskState} (m : Machine) (c : Call) → Passes m c old mid → RevealsSame mid new → Passes m c old new
passes_still m c h same = record {
  writes = h.writes;
  appended = appended_no_more h.writes h.appended same;
  steps = h.steps;
  rise = h.rise;
  within = h.within;
  reveals = h.reveals;
  open_flag = h.open_flag;
  numbers = h.numbers;
}

-- A reply of a call that was not refused.

abbrev is_done_reply : Reply → Bool
is_done_reply reply.Done = true
is_done_reply other = false

pub refused_undone : (word : Refusal) → reply.Refused word ≡ reply.Done → ⊥
refused_undone word same = true≢false (sym (ap is_done_reply same))

module _ {D A : Type 0} {G : Ghosts D} where
  pub done_then : (m : Machine) (space : ℕ) (core : Core D A G) (volume : Volume) (P : Type 0) (result : Result Reply Halt) → refusal m (call.Unmap space) ≡ None → IfOk result (Carried m (call.Unmap space) core volume)
      → IfOk result (λ answer. answer ≡ reply.Done → P) → OnOk result P
  done_then m space core volume P (Err e) free carried synced = tt
  done_then m space core volume P (Ok r) free carried synced = synced (replied m (call.Unmap space) r free carried.allowed)
