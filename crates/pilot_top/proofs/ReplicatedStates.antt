-- What stands on the second disk after each write of a `replicate`, where it was looked at before, or not written at all.
use Rattle.std.proofs.Common.{◌≡◌, ◌+◌, ℕ, zero, suc, List, [], ◌∷◌, ◌++◌, length, Option, Some, refl, sym, ◌∙◌, subst, arith}
use Rattle.std.proofs.lemmas.Option.{none-some, same_Some}
use Rattle.labelled_disk.proofs.WriteRunLemmas.{appended_none}
use Rattle.labelled_disk.specs.declared.disk.DiskWrite.{DiskWrite}
use Rattle.labelled_disk.specs.CrashState.{crash_state}
use Rattle.labelled_disk.specs.FilesOn.{files_on}
use Rattle.labelled_disk.specs.Root.{counter_of, serial_of}
use Rattle.labelled_disk.specs.Calls.{OnlyReads}
use Rattle.labelled_disk.specs.Sectors.{Sector}
use Rattle.labelled_disk.specs.State.{DiskState}
use Rattle.pair_machine.specs.declared.call.PairReply.{PairReply}
use Rattle.volume_root.specs.Sound.{Sound}
use Rattle.volume_pair.specs.CrashStates.{CrashStatesOf, HasFilesHonestly}
use Rattle.volume_pair.specs.Kept.{StartKeeps}
use Rattle.volume_pair.specs.Owned.{EachWrite}
use Rattle.volume_pair.specs.Ends.{IsOutside, pair_of}
use Rattle.volume_pair.specs.declared.fault.PairStart.{PairStart}
use Rattle.pair_session.specs.Ended.{Ended, HasReplies}
use Rattle.pair_session.specs.Lines.{Item}
use Rattle.pair_session.specs.Owned.{RepliesTo, begun}
use Rattle.pair_session.specs.Second.{IsAfter, Replicates}
use Rattle.pair_session.specs.declared.outcome.Outcome.{Outcome}
use Rattle.pair_session.specs.declared.outcome.Outcome.TheVariants as outcome

-- crash states of writes are so too where the disk was looked at before
abbrev states_before : (P : ℕ → List Sector → Type 0) (most : ℕ) (a b c : DiskState) → OnlyReads a b → CrashStatesOf P most b c → CrashStatesOf P most a c
states_before P most a b c h k = record {
  writes = k.writes;
  appended = record { contents = rw (sym h.contents) k.appended.contents; revealed = rw (sym h.writes) k.appended.revealed };
  steps = k.steps;
  rise = k.rise;
  within = k.within;
  each = λ d i revealed. k.each d i (h.contents ∙ revealed);
}

pub replicates_before : (how : Outcome) (d e : List Sector) (text : List Item) (a b c : DiskState) → OnlyReads a b → (items : List Item) (replies : List PairReply)
    → Replicates how d e text b c items replies → Replicates how d e text a c items replies
replicates_before how d e text a b c h items replies k = record {
  answers = k.answers;
  leaves = k.leaves;
  crash_states = record {
    states = states_before (IsAfter e (pair_of d e) text) (length items + begun how) a b c h k.crash_states.states;
    synced = λ j copied.
        let s = k.crash_states.synced j copied in
        (s.0, s.1, s.2, λ earlier before later wrote had now. s.3 earlier before later (h.writes ∙ wrote) (h.syncs ∙ had) now);
  };
  halted = k.halted;
}

-- a sound volume on which nothing was written has the files of before
still : (d e : List Sector) (text : List Item) (k : ℕ) → Sound e → IsAfter e (pair_of d e) text 0 (crash_state e [] k)
still d e [] zero sound = (record { files_are = refl; right = sound.labels; same_serial = refl; same_counter = refl }, λ closed. sound)
still d e [] (suc k) sound = (record { files_are = refl; right = sound.labels; same_serial = refl; same_counter = refl }, λ closed. sound)
still d e (item ∷ items) zero sound = (record { files_are = refl; right = sound.labels; same_serial = refl; same_counter = refl }, λ closed. sound)
still d e (item ∷ items) (suc k) sound = (record { files_are = refl; right = sound.labels; same_serial = refl; same_counter = refl }, λ closed. sound)

-- no pair started, and nothing was written
pub none_replied : (d e : List Sector) (text : List Item) (why : PairStart) (a b : DiskState) → OnlyReads a b → a.contents ≡ Some e → Sound e → IsOutside why
    → Replicates (outcome.NotStarted why) d e text a b [] []
none_replied d e text why a b h there sound outside = record {
  answers = record { one_a_line = refl; allowed = tt };
  leaves = outside;
  crash_states = record {
    states = record {
      writes = [];
      appended = appended_none (record { contents = h.contents; writes = h.writes });
      steps = λ k. 0;
      rise = λ j k le. omega arith;
      within = λ k. omega arith;
      each = λ x k revealed. subst (λ (y : List Sector). IsAfter e (pair_of d e) text 0 (crash_state y [] k)) (same_Some e x (sym there ∙ revealed)) (still d e text k sound);
    };
    synced = λ j copied. absurd (none-some _ copied.1);
  };
  halted = tt;
}

-- each write is such where the disk was looked at before
each_before : {P : List Sector → DiskWrite → Type 0} {a b c : DiskState} → OnlyReads a b → EachWrite P b c → EachWrite P a c
each_before h k = record {
  writes = k.writes;
  appended = record { contents = rw (sym h.contents) k.appended.contents; revealed = rw (sym h.writes) k.appended.revealed };
  each = λ d i w revealed at. k.each d i w (h.contents ∙ revealed) at;
}

pub replies_before : (how : Outcome) (text : List Item) (a b c : DiskState) → OnlyReads a b → (items : List Item) (replies : List PairReply) → RepliesTo how text b c items replies → RepliesTo how text a c items replies
replies_before how text a b c h items replies k = record {
  suit = k.suit;
  own = λ told. each_before h (k.own (told.0, h.writes ∙ told.1));
  left_open = λ is d e was now. k.left_open is d e (h.contents ∙ was) now;
}

-- nothing was taken, and nothing written
pub none_taken : (why : PairStart) (text : List Item) (a b : DiskState) → OnlyReads a b → RepliesTo (outcome.NotStarted why) text a b [] []
none_taken why text a b h = record {
  suit = tt;
  own = λ told. record { writes = []; appended = appended_none (record { contents = h.contents; writes = h.writes }); each = λ d k w revealed at. absurd (none-some w at) };
  left_open = λ is. absurd is;
}

-- a sound second volume keeps its files
pub keeps_read : {a b : DiskState} → OnlyReads a b → StartKeeps a b
keeps_read {a = a} {b = b} h e there sound = record {
  writes = [];
  appended = appended_none (record { contents = h.contents; writes = h.writes });
  steps = λ k. 0;
  rise = λ j k le. omega arith;
  within = λ k. omega arith;
  each = λ x k revealed. subst (λ (y : List Sector). HasFilesHonestly (files_on e) (serial_of e) (counter_of e) (crash_state y [] k)) (same_Some e x (sym there ∙ revealed)) (still e e [] k sound);
}

pub keeps_before : {a b c : DiskState} → OnlyReads a b → StartKeeps b c → StartKeeps a c
keeps_before {a = a} {b = b} {c = c} h k e there sound = states_before (λ n. HasFilesHonestly (files_on e) (serial_of e) (counter_of e)) 0 a b c h (k e (h.contents ∙ there) sound)

module _ (each other : List Item → List PairReply → Type 0) (less : (items : List Item) (replies : List PairReply) → each items replies → other items replies) where
  has_less : (t : List ℕ) (took : Option (List ℕ)) (items : List Item) → HasReplies t took (each items) → HasReplies t took (other items)
  has_less t took items h = record { replies = h.replies; are = less items h.replies h.are; took_is = h.took_is }

  -- what more says of lines and replies says less
  pub ended_less : (how : Outcome) (b : List ℕ) (left : Option (List ℕ)) (t : List ℕ) (took : Option (List ℕ)) → Ended how b left t took each → Ended how b left t took other
  ended_less outcome.Done b left t took h = (h.0, has_less t took _ h.1)
  ended_less (outcome.NotStarted why) b left t took h = (h.0, h.1, less [] [] h.2)
  ended_less (outcome.Halted why) b left t took (items, halts, has) = (items, halts, has_less t took items has)
  ended_less outcome.Long b left t took (items, takes, has) = (items, takes, has_less t took items has)
  ended_less outcome.ReadFault b left t took (items, takes, has) = (items, takes, has_less t took items has)
  ended_less outcome.SinkFault b left t took (items, takes, has) =
      (items, takes, record { replies = has.replies; last = has.last; are = less items (has.replies ++ has.last ∷ []) has.are; prefix = has.prefix; is_prefix = has.is_prefix; took_is = has.took_is })
