-- Calls of a session, and then an end that sets the clean flag after a sync, or no end.
use Rattle.std.proofs.Common.{◌≡◌, inl, inr, ◌+◌, List, [], ◌∷◌, ◌++◌, length, sym, ◌∙◌, ap, subst, arith, append_assoc, length-append}
use Rattle.std.specs.Prelude.{option_map}
use Rattle.labelled_disk.specs.declared.disk.DiskWrite.{DiskWrite}
use Rattle.labelled_disk.specs.Calls.{RevealsSame}
use Rattle.labelled_disk.specs.CrashState.{written}
use Rattle.labelled_disk.specs.Root.{counter_of}
use Rattle.labelled_disk.specs.Sectors.{Sector}
use Rattle.labelled_disk.specs.State.{DiskState}
use Rattle.labelled_disk.specs.WriteRuns.{after_writes}
use Rattle.labelled_disk.proofs.WriteRunLemmas.{after_writes-append, appended_none, appended_then}
use Rattle.swapper_kernel.specs.SyncLaws.{HasSync}
use Rattle.volume_root.specs.RootPage.{root_write}
use Rattle.running_words.proofs.FlagLemmas.{append_open}
use Rattle.pilot_engine.specs.Closing.{ShutAfterSync, ShutsBySync, closed_root}
use Rattle.pilot_top.specs.CrashStates.{Openly}

-- nothing was written
pub none_shuts : {a b : DiskState} → RevealsSame a b → ShutsBySync a b
none_shuts same = record { writes = []; appended = appended_none same; shut = inl tt }

-- no end
pub openly_shuts : {a b : DiskState} → Openly a b → ShutsBySync a b
openly_shuts h = record { writes = h.writes; appended = h.appended; shut = inl h.opens }

-- calls, and then an end
pub shuts_after : {a b c : DiskState} → Openly a b → ShutsBySync b c → ShutsBySync a c
shuts_after {a = a} {b = b} {c = c} h k = record {
  writes = h.writes ++ k.writes;
  appended = appended_then h.writes k.writes h.appended k.appended;
  shut = elim k.shut [ inl opens ↦ inl (append_open h.writes k.writes h.opens opens) | inr shut ↦ inr (later shut) ];
}
  where
    later : ShutAfterSync k.writes b c → ShutAfterSync (h.writes ++ k.writes) a c
    later s = record {
      earlier = h.writes ++ s.earlier;
      root = s.root;
      is = ap (λ (ws : List DiskWrite). h.writes ++ ws) s.is ∙ sym (append_assoc h.writes s.earlier (root_write (closed_root s.root) ∷ []));
      opens = append_open h.writes s.earlier h.opens s.opens;
      synced = λ made is.
          let long : length (made ++ h.writes) + length s.earlier ≡ length made + length (h.writes ++ s.earlier) =
          let first = length-append made h.writes in let next = length-append h.writes s.earlier in omega (arith, first, next) in
          subst (HasSync c) long (s.synced (made ++ h.writes) (h.appended.revealed ∙ ap (option_map (λ (earlier : List DiskWrite). earlier ++ h.writes)) is));
      same_counter = λ d revealed.
          subst (λ (x : List Sector). counter_of (written (root_write (closed_root s.root)) x) ≡ counter_of x) (after_writes-append h.writes s.earlier d)
          (s.same_counter (after_writes h.writes d) (h.appended.contents ∙ ap (option_map (after_writes h.writes)) revealed));
    }
