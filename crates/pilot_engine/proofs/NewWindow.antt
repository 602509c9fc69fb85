-- A new file is shown in a space, and no call names it.
use Rattle.std.proofs.Common.{◌≡◌, ◌⊎◌, inl, inr, ℕ, zero, suc, ◌+◌, ◌<◌, ◌≤◌, ◌^◌, Bool, true, false, cond, List, [], ◌∷◌, Option, Some, None, Result, Ok, Err, refl, sym, ◌∙◌, ap, subst, arith}
use Rattle.std.specs.Prelude.{IfOk, MatchOption, option_and_then, ◌==◌}
use Rattle.std.specs.Option.{option_map_or}
use Rattle.std.proofs.lemmas.Bool.{eq-eqb, eqb-true, true≢false}
use Rattle.labelled_disk.specs.declared.disk.Disk.{Ghosts}
use Rattle.labelled_disk.specs.declared.evidence.Halt.{Halt}
use Rattle.labelled_disk.specs.File.{File, file_at}
use Rattle.labelled_disk.specs.Root.{counter_of}
use Rattle.labelled_disk.specs.Sectors.{Sector}
use Rattle.labelled_disk.proofs.AscendingLemmas.{at_put, each_at}
use Rattle.flat_machine.specs.declared.call.Call.TheVariants as call
use Rattle.flat_machine.specs.declared.call.Refusal.{Refusal}
use Rattle.flat_machine.specs.declared.call.Reply.{Reply}
use Rattle.flat_machine.specs.declared.call.Reply.TheVariants as reply
use Rattle.flat_machine.specs.declared.space.Space.{Space}
use Rattle.flat_machine.specs.declared.space.Window.{Window}
use Rattle.flat_machine.specs.Allows.{Answers}
use Rattle.flat_machine.specs.File.{put_file}
use Rattle.flat_machine.specs.IsMachine.{IsMachine}
use Rattle.flat_machine.specs.Machine.{Machine, IsFileId}
use Rattle.flat_machine.specs.Next.{next, new_file, new_id, mapped_anonymous, set_window, with_new_file}
use Rattle.flat_machine.specs.Refusal.{first_of, refusal, no_ids, no_room, no_room_for_space, is_root}
use Rattle.flat_machine.specs.Space.{is_mapped, overlap, space_at}
use Rattle.flat_machine.proofs.KeepAnonymous.{map_anonymous_keeps}
use Rattle.flat_machine.proofs.KeepNew.{create_keeps}
use Rattle.flat_machine.proofs.KeepWindows.{own_free}
use Rattle.flat_machine.proofs.Lists.{find_in, in_all}
use Rattle.flat_machine.proofs.StoreLemmas.{unrefused}
use Rattle.flat_machine.proofs.TestLemmas.{not_root, path_free, three_none}
use Rattle.projection_laws.specs.Laws.{WindowFits}
use Rattle.projection_laws.specs.Spaces.{MayHaveWindow}
use Rattle.projection_laws.specs.Tests.{map_row, no_space, path_mapped}
use Rattle.projection_laws.proofs.Passes.{tests_on_spaces}
use Rattle.table_calls.specs.Answers.{Reveals}
use Rattle.session_words.specs.StandsFor.{RevealsSettled}
use Rattle.file_manager.specs.declared.volume.Volume.{Volume}
use Rattle.fault_core.specs.declared.core_over.Core.{Core}
use Rattle.running_words.specs.Running.{Carried, Runs}
use Rattle.running_words.specs.Stages.{HasNumbers, stage}
use Rattle.pilot_engine.proofs.AnonymousLemmas.{replied}
use Rattle.pilot_engine.proofs.CarryLemmas.{answers, stays_refused}
use Rattle.pilot_engine.proofs.LiftLemmas.{refused_running}
use Rattle.pilot_engine.proofs.PassThen.{quiet_numbers}

-- the space may be mapped, as far as spaces reveal
pub record CanMap (m : Machine) (space : ℕ) (run : ℕ × ℕ) : Type 0 where
  pub row : first_of (map_row m.spaces space) ≡ None
  pub s : Space
  pub here : space_at m.spaces space ≡ Some s
  pub pages : run.1 ≡ s.pages

pub can_be_mapped : (m : Machine) (space : ℕ) (run : ℕ × ℕ) → Reveals (first_of (map_row m.spaces space)) (λ at. (s : Space) × (space_at m.spaces space ≡ Some s) × (at ≡ (s.first, s.pages))) (Ok run) → CanMap m space run
can_be_mapped m space run (row, t) = record { row = row; s = t.0; here = t.1; pages = ap (λ (at : ℕ × ℕ). at.1) t.2 }

-- or not
pub map_refused : (m : Machine) (space : ℕ) (word : Refusal) (P : ℕ × ℕ → Type 0) → Reveals (first_of (map_row m.spaces space)) P (Err word) → refusal m (call.MapAnonymous space) ≡ Some word
map_refused m space word P (is, any) = (tests_on_spaces m).map_anonymous space ∙ ap (λ (o : Option Refusal). first_of (o ∷ no_room_for_space m space ∷ no_ids m ∷ [])) is

-- the machines' settled files are the same
same_settled : (m n : Machine) → n.files ≡ m.files → n.unforced ≡ m.unforced → (d : List Sector) → RevealsSettled d m → RevealsSettled d n
same_settled m n files unforced d revealed =
    let t = subst (λ (us : List _). RevealsSettled d (record m { unforced = us })) (sym unforced) (record { agrees = revealed.agrees; right = revealed.right }) in
    let u = subst (λ (fs : List File). RevealsSettled d (record m { unforced = n.unforced; files = fs })) (sym files) (record { agrees = t.agrees; right = t.right }) in
    record { agrees = u.agrees; right = u.right }

-- pages of a run are numbers of 32 bits
pub few_pages : (n pages : ℕ) → n ≡ pages → n < 2 ^ 32 → pages ≤ 2 ^ 32
few_pages n pages same few = omega (arith, same, few)

abbrev is_file_reply : Reply → Bool
is_file_reply (reply.File id) = true
is_file_reply other = false

abbrev revealed_id : Reply → ℕ
revealed_id (reply.File id) = id
revealed_id other = 0

-- a reply names one file
pub one_named : (id other : ℕ) → reply.File id ≡ reply.File other → id ≡ other
one_named id other same = ap revealed_id same

-- a refusal names none
pub none_named : (word : Refusal) (id : ℕ) → reply.Refused word ≡ reply.File id → ⊥
none_named word id same = true≢false (sym (ap is_file_reply same))

module _ (m : Machine) (h : IsMachine m) (space : ℕ) (run : ℕ × ℕ) (can : CanMap m space run) where
  abbrev s : Space
  s = can.s

  own_handle : s.handle ≡ space
  own_handle = eqb-true s.handle space (find_in (λ t. t.handle == space) m.spaces s can.here).1

  tests : (no_space m.spaces space ≡ None) × (is_root space ≡ None) × (path_mapped m.spaces space ≡ None)
  tests = three_none (no_space m.spaces space) (is_root space) (path_mapped m.spaces space) can.row

  -- the tests that are left are those of the file
  pub same_refusal : refusal m (call.MapAnonymous space) ≡ refusal m (call.Create run.1 0)
  same_refusal =
      (tests_on_spaces m).map_anonymous space
      ∙ ap (λ (o : Option Refusal). first_of (o ∷ no_room_for_space m space ∷ no_ids m ∷ [])) can.row
      ∙ ap (λ (o : Option Space). first_of (option_and_then (λ t. no_room m (t.pages + 1)) o ∷ no_ids m ∷ [])) can.here
      ∙ ap (λ (n : ℕ). first_of (no_room m (n + 1) ∷ no_ids m ∷ [])) (sym can.pages)

  -- the file may not be made
  module _ {D A : Type 0} {G : Ghosts D} (core : Core D A G) (volume : Volume) where
    pub not_created : (r : Reply) → Carried m (call.Create run.1 0) core volume r → ((id : ℕ) → r ≡ reply.File id → ⊥) → Carried m (call.MapAnonymous space) core volume r
    not_created r carried other = by (refusal m (call.Create run.1 0)) refl
      where
        by : (o : Option Refusal) → refusal m (call.Create run.1 0) ≡ o → Carried m (call.MapAnonymous space) core volume r
        by None is = absurd (other (new_id m) (replied m (call.Create run.1 0) r is carried.allowed))
        by (Some word) is =
            let same : r ≡ reply.Refused word = subst (λ o. MatchOption o (Answers m (call.Create run.1 0) r) (λ w. r ≡ reply.Refused w)) is carried.allowed in
            subst (λ (a : Reply). Carried m (call.MapAnonymous space) core volume a) (sym same)
            (refused_running core volume m (call.MapAnonymous space) word (subst (λ (n : Machine). Runs core volume n) (sym (stays_refused m (call.Create run.1 0) word is)) carried.runs) (same_refusal ∙ is))

    -- or it was
    pub record Made (id : ℕ) : Type 0 where
      pub free : refusal m (call.MapAnonymous space) ≡ None
      pub same_id : id ≡ new_id m
      pub runs : Runs core volume (with_new_file m run.1 0)

    pub created : (id : ℕ) → Carried m (call.Create run.1 0) core volume (reply.File id) → Made id
    created id carried = by (refusal m (call.Create run.1 0)) refl
      where
        by : (o : Option Refusal) → refusal m (call.Create run.1 0) ≡ o → Made id
        by None is = record {
          free = same_refusal ∙ is;
          same_id = ap revealed_id (replied m (call.Create run.1 0) (reply.File id) is carried.allowed);
          runs = subst (λ (n : Machine). Runs core volume n) (unrefused m (call.Create run.1 0) is) carried.runs;
        }
        by (Some word) is =
            let same : reply.File id ≡ reply.Refused word = subst (λ o. MatchOption o (Answers m (call.Create run.1 0) (reply.File id)) (λ w. reply.File id ≡ reply.Refused w)) is carried.allowed in
            absurd (true≢false (ap is_file_reply same))

  module _ (free : refusal m (call.MapAnonymous space) ≡ None) where
    is_free : refusal m (call.Create run.1 0) ≡ None
    is_free = sym same_refusal ∙ free

    abbrev middle : Machine
    middle = with_new_file m run.1 0

    is_middle : next m (call.Create run.1 0) ≡ middle
    is_middle = unrefused m (call.Create run.1 0) is_free

    pub may_have : MayHaveWindow m.spaces s
    may_have = record {
      there = subst (λ (k : ℕ). space_at m.spaces k ≡ Some s) (sym own_handle) can.here;
      not_root = λ e. not_root space tests.1 (sym own_handle ∙ e);
      clear = inr (in_all (λ t. is_mapped t ≡ true → overlap s t ≡ false) m.spaces (λ t i mapped. path_free m.spaces space s can.here tests.2 t i mapped));
    }

    pub own_space : s.handle ≡ space
    own_space = own_handle

    pub unmapped_yet : s.window ≡ None
    unmapped_yet = own_free m space s h can.here tests.2

    module _ (id : ℕ) (same_id : id ≡ new_id m) where
      abbrev window : Window
      window = record { file = id; first = 0; writable = true; anonymous = true }

      pub window_fits : s.pages ≤ 2 ^ 32 → WindowFits s.pages window
      window_fits few =
          let keeps : IsMachine middle = subst IsMachine is_middle (create_keeps run.1 0 m (omega arith) h) in
          let f = new_file m run.1 0 in
          let found : file_at (put_file f m.files) (new_id m) ≡ Some f = at_put f m.files (new_id m) ∙ ap (λ (b : Bool). cond b (Some f) (file_at m.files (new_id m))) (eq-eqb (new_id m) (new_id m) refl) in
          let given = each_at (λ (x : File). IsFileId m.serial (m.counter + 1) x.id) (put_file f m.files) keeps.ids_given (new_id m) f found in
          let high = given.above_reserved in
          let low = given.fits in
          record { above_reserved = omega (arith, high, same_id); small = omega (arith, low, same_id); pages_fit = omega (arith, few) }

      pub mapped_is : record middle { spaces = set_window space (Some window) m.spaces } ≡ next m (call.MapAnonymous space)
      mapped_is =
          sym (unrefused m (call.MapAnonymous space) free ∙ ap (λ (o : Option Space). option_map_or (mapped_anonymous m) o m) can.here
          ∙ (λ i. record (with_new_file m (sym can.pages i) 0) { spaces = set_window (own_handle i) (Some (record { file = sym same_id i; first = 0; writable = true; anonymous = true })) m.spaces }))

      pub mapped_machine : IsMachine (record middle { spaces = set_window space (Some window) m.spaces })
      mapped_machine = subst IsMachine (sym mapped_is) (map_anonymous_keeps space m h)

      pub window_carried : {D A : Type 0} {G : Ghosts D} (core : Core D A G) (volume : Volume) (result : Result Reply Halt)
          → IfOk result (λ r. (r ≡ reply.Done) × Runs core volume (record middle { spaces = set_window space (Some window) m.spaces })) → IfOk result (Carried m (call.MapAnonymous space) core volume)
      window_carried core volume (Err e) given = tt
      window_carried core volume (Ok r) given = record { allowed = answers m (call.MapAnonymous space) r free given.0; runs = subst (λ (n : Machine). Runs core volume n) mapped_is given.1 }

  -- What is revealed in each crash state.

  pub created_alike : (d : List Sector) (k : ℕ) → RevealsSettled d (stage m (call.Create run.1 0) k) → RevealsSettled d (stage m (call.MapAnonymous space) k)
  created_alike d zero revealed = revealed
  created_alike d (suc k) revealed = by (refusal m (call.Create run.1 0)) refl
    where
      by : (o : Option Refusal) → refusal m (call.Create run.1 0) ≡ o → RevealsSettled d (next m (call.MapAnonymous space))
      by (Some word) is =
          subst (λ (n : Machine). RevealsSettled d n) (stays_refused m (call.MapAnonymous space) word (same_refusal ∙ is)) (subst (λ (n : Machine). RevealsSettled d n) (sym (stays_refused m (call.Create run.1 0) word is)) revealed)
      by None is =
          subst (λ (n : Machine). RevealsSettled d n) (mapped_is (same_refusal ∙ is) (new_id m) refl)
          (same_settled (with_new_file m run.1 0) _ refl refl d (subst (λ (n : Machine). RevealsSettled d n) (unrefused m (call.Create run.1 0) is) revealed))

  pub mapped_alike : refusal m (call.MapAnonymous space) ≡ None → (d : List Sector) → RevealsSettled d (with_new_file m run.1 0) → RevealsSettled d (stage m (call.MapAnonymous space) 1)
  mapped_alike free d revealed = subst (λ (n : Machine). RevealsSettled d n) (mapped_is free (new_id m) refl) (same_settled (with_new_file m run.1 0) _ refl refl d revealed)

  -- and which numbers the root has
  pub created_numbers : (d : List Sector) → HasNumbers m (call.Create run.1 0) d → HasNumbers m (call.MapAnonymous space) d
  created_numbers d is = record { same_serial = is.same_serial; counter = either is.counter }
    where
      either : (counter_of d ≡ m.counter) ⊎ (counter_of d ≡ (next m (call.Create run.1 0)).counter) → (counter_of d ≡ m.counter) ⊎ (counter_of d ≡ (next m (call.MapAnonymous space)).counter)
      either (inl before) = inl before
      either (inr after) = by (refusal m (call.Create run.1 0)) refl
        where
          by : (o : Option Refusal) → refusal m (call.Create run.1 0) ≡ o → (counter_of d ≡ m.counter) ⊎ (counter_of d ≡ (next m (call.MapAnonymous space)).counter)
          by (Some word) is = inl (after ∙ sym (ap (λ (n : Machine). n.counter) (stays_refused m (call.Create run.1 0) word is)))
          by None is = inr (after ∙ ap (λ (n : Machine). n.counter) (unrefused m (call.Create run.1 0) is) ∙ ap (λ (n : Machine). n.counter) (mapped_is (same_refusal ∙ is) (new_id m) refl))

  pub mapped_numbers : refusal m (call.MapAnonymous space) ≡ None → (d : List Sector) → HasNumbers (with_new_file m run.1 0) call.Volume d → HasNumbers m (call.MapAnonymous space) d
  mapped_numbers free = quiet_numbers m (with_new_file m run.1 0) (call.MapAnonymous space) refl (inr (ap (λ (n : Machine). n.counter) (mapped_is free (new_id m) refl)))
