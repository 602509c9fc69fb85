-- In each cut of a run the clean flag is right.
use Rattle.std.proofs.Common.{◌≡◌, ◌⊎◌, inl, inr, ℕ, zero, suc, ◌+◌, ◌<◌, ◌≤◌, List, [], ◌∷◌, ◌++◌, length, Some, refl, sym, ◌∙◌, ap, subst, arith, append-nil, length-append}
use Rattle.std.specs.Prelude.{Contains, option_map, slice_get}
use Rattle.std.proofs.lemmas.List.{append_cancel_left}
use Rattle.std.proofs.lemmas.Option.{same_Some}
use Rattle.labelled_disk.specs.declared.disk.DiskWrite.{DiskWrite}
use Rattle.labelled_disk.specs.CrashState.{crash_state}
use Rattle.labelled_disk.specs.Label.{root_label}
use Rattle.labelled_disk.specs.Permitted.{Permitted}
use Rattle.labelled_disk.specs.Root.{IsRoot, counter_of, root_page, serial_of, short_at}
use Rattle.labelled_disk.specs.Sectors.{Sector}
use Rattle.labelled_disk.specs.State.{DiskState}
use Rattle.labelled_disk.specs.WriteRuns.{after_writes}
use Rattle.labelled_disk.proofs.WriteRunLemmas.{appended_then, crash_state-earlier, crash_state-end, crash_state-later}
use Rattle.label_laws.proofs.MixedLemmas.{crash_state_long}
use Rattle.cut_laws.specs.Honest.{ClosesAfterSync, OpensAndCloses, RewritesRoot}
use Rattle.cut_laws.specs.Roots.{flag_of}
use Rattle.cut_laws.proofs.HonestLemmas.{cuts_are_honest}
use Rattle.flat_machine.specs.After.{TraceLine}
use Rattle.flat_machine.specs.Start.{start}
use Rattle.swapper_kernel.specs.Goes.{Went}
use Rattle.swapper_kernel.specs.SyncLaws.{HasSync, has_sync_later}
use Rattle.volume_root.specs.RootPage.{root_bytes, root_write}
use Rattle.volume_root.specs.Sound.{Sound}
use Rattle.running_words.specs.Session.{AreOpen}
use Rattle.running_words.proofs.FlagLemmas.{rows_flag}
use Rattle.pilot_engine.specs.Closing.{ShutAfterSync, ShutsBySync, closed_root}
use Rattle.pilot_engine.specs.Opening.{IsUnset, KeepsFiles, SyncsFirst, WroteFirst, in_use}
use Rattle.pilot_top.specs.CrashStates.{CrashStates, Lawfully, ShutsLast}
use Rattle.pilot_top.specs.Cuts.{HonestCuts}
use Rattle.pilot_top.proofs.ApartRuns.{same_writes}
use Rattle.pilot_top.proofs.PermittedRuns.{first_flag}

-- a sync that is revealed
contains_sync : (c : DiskState) (syncs : List ℕ) (n : ℕ) → c.syncs ≡ Some syncs → HasSync c n → Contains syncs n
contains_sync c syncs n is has = subst (λ (xs : List ℕ). Contains xs n) (same_Some has.0 syncs (sym has.1 ∙ is)) has.2

module _ {a b : DiskState} (d : List Sector) (revealed : a.contents ≡ Some d) (wrote : WroteFirst a b) (keeps : KeepsFiles d a b) where
  abbrev first : List DiskWrite
  first = wrote.wrote.writes

  module _ (made : List DiskWrite) (is : a.writes ≡ Some made) where
    now_made : b.writes ≡ Some (made ++ first)
    now_made = wrote.wrote.appended.revealed ∙ ap (option_map (λ (earlier : List DiskWrite). earlier ++ first)) is

    -- the first write is a root with the counter of the one that stood there
    first_turn : 1 ≤ length first → (more : List DiskWrite) → RewritesRoot d (first ++ more) 0
    first_turn some more = elim wrote.first [
      | inl none ↦ absurd (let long = ap length none in omega (arith, some, long))
      | inr begun ↦ record {
        label = root_label;
        page = root_bytes (in_use wrote.root);
        here = ap (λ (ws : List DiskWrite). slice_get (ws ++ more) 0) begun.1;
        same_counter =
            let same = same_writes keeps.writes made first keeps.appended is now_made in
            let count : counter_of (crash_state d first 1) ≡ counter_of d = subst (λ (ws : List DiskWrite). counter_of (crash_state d ws 1) ≡ counter_of d) same (keeps.same_counter 1) in
            let none : counter_of (crash_state d first 0) ≡ counter_of d = subst (λ (ws : List DiskWrite). counter_of (crash_state d ws 0) ≡ counter_of d) same (keeps.same_counter 0) in
            ap counter_of (crash_state-earlier d first more 1 some) ∙ count ∙ sym none ∙ sym (ap counter_of (crash_state-earlier d first more 0 (omega arith)));
      }
    ]

    -- what is so of each crash state
    module _ {c : DiskState} (lines : List TraceLine) (states : CrashStates (start d) lines a c) (lawful : Lawfully a c) (writes : List DiskWrite) (now : c.writes ≡ Some (made ++ writes)) where
      same_states : states.writes ≡ writes
      same_states = same_writes states.writes made writes states.appended is now

      at_state : (P : List Sector → Type 0) (j : ℕ) → P (crash_state d states.writes j) → P (crash_state d writes j)
      at_state P j = subst (λ (ws : List DiskWrite). P (crash_state d ws j)) same_states

      valid_at : (j : ℕ) → IsRoot (length d) (slice_get (crash_state d writes j) 0)
      valid_at j = at_state (λ x. IsRoot (length d) (slice_get x 0)) j
          (subst (λ (n : ℕ). IsRoot n (slice_get (crash_state d states.writes j) 0)) (crash_state_long d states.writes j) (states.each d j revealed).revealed.right.has_root)

      serial_at : (j : ℕ) → serial_of (crash_state d writes j) ≡ serial_of d
      serial_at j = at_state (λ x. serial_of x ≡ serial_of d) j (states.each d j revealed).same_serial

      honest_at : (j : ℕ) → flag_of (crash_state d writes j) ≡ 1 → Sound (crash_state d writes j)
      honest_at j = at_state (λ x. flag_of x ≡ 1 → Sound x) j (states.each d j revealed).honest

      open_at : (j : ℕ) → 1 ≤ j → j < length writes → flag_of (crash_state d writes j) ≡ 0
      open_at j some below =
          let same = same_writes lawful.writes made writes lawful.appended is now in
          subst (λ (ws : List DiskWrite). j < length ws → flag_of (crash_state d ws j) ≡ 0) same (λ less. lawful.open_flag d j revealed some less) below

  -- no session started
  pub started_honest : (lines : List TraceLine) → CrashStates (start d) lines a b → Lawfully a b → HonestCuts d a b
  started_honest lines states lawful made writes syncs is now have =
      let same : first ≡ writes = same_writes first made writes wrote.wrote.appended is now in
      cuts_are_honest d (length made) writes syncs (record {
        valid = valid_at made is lines states lawful writes now;
        same_serial = serial_at made is lines states lawful writes now;
        honest = honest_at made is lines states lawful writes now;
        open_flag = open_at made is lines states lawful writes now;
        opens = subst (λ (ws : List DiskWrite). 1 ≤ length ws → RewritesRoot d ws 0) same (λ some. subst (λ (ws : List DiskWrite). RewritesRoot d ws 0) (append-nil first) (first_turn made is some []));
        synced = elim wrote.syncs [
          | inl few ↦ inl (let long = ap length same in omega (arith, few, long))
          | inr synced ↦ inr (contains_sync b syncs (length made + 1) have (synced made is))
        ];
        closes = inl (subst (λ (ws : List DiskWrite). 1 ≤ length ws → flag_of (crash_state d ws (length ws)) ≡ 0) same (λ some. first_flag wrote d (length first) revealed some (omega arith)));
      })

  -- a session started, and ended
  module _ {c : DiskState} (sound : Sound d) (unset : IsUnset b) (synced : SyncsFirst a b) (went : Went b c) (shuts : ShutsBySync b c) (last : ShutsLast b c) where
    some_first : 1 ≤ length first
    some_first = elim wrote.first [
      | inl none ↦
          let same : after_writes first d ≡ d = ap (λ (ws : List DiskWrite). after_writes ws d) none in
          let clear = unset (after_writes first d) (wrote.wrote.appended.contents ∙ ap (option_map (after_writes first)) revealed) in
          let open_still : short_at (root_page d) 10 ≡ 0 = ap (λ (x : List Sector). short_at (root_page x) 10) (sym same) ∙ clear in
          let closed = sound.clean in
          absurd (omega (arith, open_still, closed))
      | inr begun ↦ let long = ap length begun.1 in omega (arith, long)
    ]

    abbrev then_d : List Sector
    then_d = after_writes first d

    then_revealed : b.contents ≡ Some then_d
    then_revealed = wrote.wrote.appended.contents ∙ ap (option_map (after_writes first)) revealed

    -- the flag stays clear where no write sets it
    open_end : AreOpen shuts.writes → (made : List DiskWrite) → b.writes ≡ Some made → c.writes ≡ Some (made ++ shuts.writes) → flag_of (crash_state d (first ++ shuts.writes) (length (first ++ shuts.writes))) ≡ 0
    open_end opens made is now =
        let same = same_writes last.writes made shuts.writes last.appended is now in
        let permitted = subst (λ (ws : List DiskWrite). (j : ℕ) (w : DiskWrite) → slice_get ws j ≡ Some w → Permitted (crash_state then_d ws j) w) same (λ j w here. last.permitted then_d j w then_revealed here) in
        ap (λ (n : ℕ). flag_of (crash_state d (first ++ shuts.writes) n)) (length-append first shuts.writes) ∙ ap flag_of (crash_state-later d first shuts.writes (length shuts.writes))
        ∙ rows_flag shuts.writes then_d (length shuts.writes) opens permitted (unset then_d then_revealed)

    module _ (made : List DiskWrite) (is : a.writes ≡ Some made) (syncs : List ℕ) (have : c.syncs ≡ Some syncs) where
      -- or it is set by the last, after a sync
      shut_end : ShutAfterSync shuts.writes b c → ClosesAfterSync d (length made) (first ++ shuts.writes) syncs
      shut_end shut = subst (λ (ws : List DiskWrite). ClosesAfterSync d (length made) (first ++ ws) syncs) (sym shut.is) (record {
        earlier = length first + length shut.earlier;
        last = length-append first (shut.earlier ++ last_write ∷ []) ∙ ap (λ (n : ℕ). length first + n) (length-append shut.earlier (last_write ∷ [])) ∙ suc_last (length first) (length shut.earlier);
        turn = record {
          label = root_label;
          page = root_bytes (closed_root shut.root);
          here = get_after first (shut.earlier ++ last_write ∷ []) (length shut.earlier) ∙ get_last shut.earlier last_write;
          same_counter =
              ap counter_of (ap (crash_state d all) (sym (suc_last (length first) (length shut.earlier))) ∙ crash_state-later d first (shut.earlier ++ last_write ∷ []) (length shut.earlier + 1)
              ∙ crash_state-later then_d shut.earlier (last_write ∷ []) 1)
              ∙ shut.same_counter then_d then_revealed
              ∙ sym (ap counter_of (crash_state-later d first (shut.earlier ++ last_write ∷ []) (length shut.earlier) ∙ crash_state-earlier then_d shut.earlier (last_write ∷ []) (length shut.earlier) (omega arith) ∙ crash_state-end then_d shut.earlier));
        };
        synced = contains_sync c syncs (length made + (length first + length shut.earlier)) have (subst (HasSync c) (long_made (length first) (length shut.earlier)) (shut.synced (made ++ first) (now_made made is)));
      })
        where
          last_write : DiskWrite
          last_write = root_write (closed_root shut.root)

          all : List DiskWrite
          all = first ++ (shut.earlier ++ last_write ∷ [])

          suc_last : (m n : ℕ) → m + (n + 1) ≡ suc (m + n)
          suc_last m n = omega arith

          long_made : (m n : ℕ) → length (made ++ first) + n ≡ length made + (length first + n)
          long_made m n = let long = length-append made first in omega (arith, long)

          get_after : (xs ys : List DiskWrite) (j : ℕ) → slice_get (xs ++ ys) (length xs + j) ≡ slice_get ys j
          get_after [] ys j = let z : 0 + j ≡ j = omega arith in ap (λ (n : ℕ). slice_get ys n) z
          get_after (x ∷ xs) ys j =
              let z : suc (length xs) + j ≡ suc (length xs + j) = omega arith in
              ap (λ (n : ℕ). slice_get (x ∷ (xs ++ ys)) n) z ∙ get_after xs ys j

          get_last : (xs : List DiskWrite) (w : DiskWrite) → slice_get (xs ++ w ∷ []) (length xs) ≡ Some w
          get_last [] w = refl
          get_last (x ∷ xs) w = get_last xs w

    pub ran_honest : (lines : List TraceLine) → CrashStates (start d) lines a c → Lawfully a c → HonestCuts d a c
    ran_honest lines states lawful made writes syncs is now have =
        let all = appended_then first shuts.writes wrote.wrote.appended shuts.appended in
        let same : first ++ shuts.writes ≡ writes = same_writes (first ++ shuts.writes) made writes all is now in
        let there : c.writes ≡ Some ((made ++ first) ++ shuts.writes) = shuts.appended.revealed ∙ ap (option_map (λ (earlier : List DiskWrite). earlier ++ shuts.writes)) (now_made made is) in
        cuts_are_honest d (length made) writes syncs (record {
          valid = valid_at made is lines states lawful writes now;
          same_serial = serial_at made is lines states lawful writes now;
          honest = honest_at made is lines states lawful writes now;
          open_flag = open_at made is lines states lawful writes now;
          opens = λ some. subst (λ (ws : List DiskWrite). RewritesRoot d ws 0) same (first_turn made is some_first shuts.writes);
          synced = inr (contains_sync c syncs (length made + 1) have (has_sync_later (length made + 1) went (synced made is)));
          closes = subst (λ (ws : List DiskWrite). (1 ≤ length ws → flag_of (crash_state d ws (length ws)) ≡ 0) ⊎ ClosesAfterSync d (length made) ws syncs) same (elim shuts.shut [
            | inl opens ↦ inl (λ some. open_end opens (made ++ first) (now_made made is) there)
            | inr shut ↦ inr (shut_end made is syncs have shut)
          ]);
        })

-- nothing was written
pub nothing_honest : (d : List Sector) (disk : DiskState) → Sound d → HonestCuts d disk disk
nothing_honest d disk sound made writes syncs is now have =
    let none : [] ≡ writes = append_cancel_left made [] writes (append-nil made ∙ same_Some made (made ++ writes) (sym is ∙ now)) in
    cuts_are_honest d (length made) writes syncs (subst (λ (ws : List DiskWrite). OpensAndCloses d (length made) ws syncs) none (record {
      valid = λ j. subst (λ (x : List Sector). IsRoot (length d) (slice_get x 0)) (sym (still j)) sound.labels.has_root;
      same_serial = λ j. ap serial_of (still j);
      honest = λ j flag. subst Sound (sym (still j)) sound;
      open_flag = λ j some below. absurd (omega (arith, below));
      opens = λ some. absurd (omega (arith, some));
      synced = inl (omega arith);
      closes = inl (λ some. absurd (omega (arith, some)));
    }))
  where
    still : (j : ℕ) → crash_state d [] j ≡ d
    still zero = refl
    still (suc j) = refl
