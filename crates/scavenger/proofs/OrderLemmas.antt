-- All writes of a restoration, part after part, and a stop in each.
use Rattle.std.proofs.Common.{◌≡◌, ℕ, ◌+◌, List, [], ◌∷◌, ◌++◌, Result, Ok, Err, refl, ◌∙◌, ap}
use Rattle.labelled_disk.specs.declared.disk.DiskError.{DiskError}
use Rattle.labelled_disk.specs.declared.disk.DiskWrite.{DiskWrite}
use Rattle.labelled_disk.specs.Calls.{Syncs}
use Rattle.labelled_disk.specs.Layout.{vam, vfm}
use Rattle.labelled_disk.specs.Runs.{freeing}
use Rattle.labelled_disk.specs.State.{DiskState}
use Rattle.cut_words.proofs.BarrierCallLemmas as calls
use Rattle.volume_root.specs.RootPage.{root_write}
use Rattle.scavenger.specs.Carries.{Carries, MakesWithBarriers}
use Rattle.scavenger.specs.Orders.{Orders, closed, closing_writes, map_writes, opened, preparing_writes, scavenge_writes}
use Rattle.scavenger.proofs.RowLemmas.{carries_as, carries_then, carries_stopped, carries_settled, carries_unsettled}

-- The sectors that are freed, and both maps.
module _ (o : Orders) (v w : ℕ) (bits_are : v ≡ vam o.root.sectors) (names_are : w ≡ vfm o.root.sectors) where
  abbrev frees : List DiskWrite
  frees = freeing o.freed

  abbrev bits : List DiskWrite
  bits = map_writes 1 1 o.bits v

  abbrev names : List DiskWrite
  names = map_writes 2 (1 + v) o.names w

  same : frees ++ (bits ++ names) ≡ preparing_writes o
  same =
      ap (λ (k : ℕ). frees ++ (map_writes 1 1 o.bits k ++ map_writes 2 (1 + k) o.names w)) bits_are
      ∙ ap (λ (k : ℕ). frees ++ (map_writes 1 1 o.bits (vam o.root.sectors) ++ map_writes 2 (1 + vam o.root.sectors) o.names k)) names_are

  as_all : (a b : DiskState) (r : Result (Unit {0}) DiskError) → Carries (frees ++ (bits ++ names)) a r b → Carries (preparing_writes o) a r b
  as_all a b r = carries_as (frees ++ (bits ++ names)) (preparing_writes o) a b r same

  pub stopped_frees : (a b : DiskState) (e f : DiskError) → Carries frees a (Err e) b → Carries (preparing_writes o) a (Err f) b
  stopped_frees a b e f failed = as_all a b (Err f) (carries_stopped frees (bits ++ names) a b e f failed)

  module _ (a b c : DiskState) (one : Carries {E = DiskError} frees a (Ok tt) b) where
    pub stopped_bits : (e f : DiskError) → Carries bits b (Err e) c → Carries (preparing_writes o) a (Err f) c
    stopped_bits e f failed = as_all a c (Err f) (carries_then frees (bits ++ names) a b c (Err f) one (carries_stopped bits names b c e f failed))

    pub prepared : (d : DiskState) (r : Result (Unit {0}) DiskError) → Carries {E = DiskError} bits b (Ok tt) c → Carries names c r d → Carries (preparing_writes o) a r d
    prepared d r two end = as_all a d r (carries_then frees (bits ++ names) a b d r one (carries_then bits names b c d r two end))

-- These on the medium, and then the root.
module _ (o : Orders) where
  abbrev first : List DiskWrite
  first = root_write (opened o) ∷ []

  abbrev middle : List DiskWrite
  middle = preparing_writes o

  abbrev last : List DiskWrite
  last = root_write (closed o) ∷ []

  abbrev rest : List DiskWrite
  rest = closing_writes o

  abbrev all : List DiskWrite
  all = scavenge_writes o

  pub unprepared : (a b : DiskState) (e f : DiskError) → Carries middle a (Err e) b → Carries rest a (Err f) b
  unprepared a b e f failed = carries_stopped middle last a b e f failed

  module _ (a b c : DiskState) (made : Carries {E = DiskError} middle a (Ok tt) b) where
    pub prepared_unsynced : (e f : DiskError) → Syncs b (Err e) c → Carries rest a (Err f) c
    prepared_unsynced e f call = carries_stopped middle last a c f f (carries_unsettled f e middle a b c made call)

    pub closes : (d : DiskState) (r : Result (Unit {0}) DiskError) → Syncs b (Ok tt) c → Carries last c r d → Carries rest a r d
    closes d r call end = carries_then middle last a c d r (carries_settled {F = DiskError} middle a b c made call) end

  -- The root first, and all of it on the medium.
  pub unopened : (a b : DiskState) (e f : DiskError) → Carries first a (Err e) b → Carries all a (Err f) b
  unopened a b e f failed = carries_stopped first rest a b e f failed

  pub unopened_barriers : (a b : DiskState) (e f : DiskError) → Carries first a (Err e) b → MakesWithBarriers all a (Err f) b
  unopened_barriers a b e f failed = calls.first_failed first middle last refl refl a b failed.part

  module _ (a b c : DiskState) (one : Carries {E = DiskError} first a (Ok tt) b) where
    pub opened_unsynced : (e f : DiskError) → Syncs b (Err e) c → Carries all a (Err f) c
    opened_unsynced e f call = carries_stopped first rest a c f f (carries_unsettled f e first a b c one call)

    pub opened_unsynced_barriers : (e f : DiskError) → Syncs b (Err e) c → MakesWithBarriers all a (Err f) c
    opened_unsynced_barriers e f call = calls.first_unsynced first middle last refl refl a b c e one.all call

    module _ (synced : Syncs b (Ok tt) c) where
      pub on : (d : DiskState) (r : Result (Unit {0}) DiskError) → Carries rest c r d → Carries all a r d
      on d r more = carries_then first rest a c d r (carries_settled {F = DiskError} first a b c one synced) more

      abbrev ready : calls.IsFirstSynced first middle last refl refl a c
      ready = calls.first_synced first middle last refl refl a b c one.all synced

      pub unprepared_barriers : (d : DiskState) (e f : DiskError) → Carries middle c (Err e) d → MakesWithBarriers all a (Err f) d
      unprepared_barriers d e f failed = calls.middle_failed first middle last refl refl a c d ready failed.part failed.syncs

      module _ (d i : DiskState) (two : Carries {E = DiskError} middle c (Ok tt) d) where
        pub prepared_unsynced_barriers : (e f : DiskError) → Syncs d (Err e) i → MakesWithBarriers all a (Err f) i
        prepared_unsynced_barriers e f call = calls.middle_unsynced first middle last refl refl a c d ready two.all two.syncs i e call

        module _ (again : Syncs d (Ok tt) i) (j : DiskState) where
          abbrev both : calls.AreTwoSynced first middle last refl refl a i
          both = calls.middle_synced first middle last refl refl a c d ready two.all two.syncs i again

          pub unclosed_barriers : (e f : DiskError) → Carries last i (Err e) j → MakesWithBarriers all a (Err f) j
          unclosed_barriers e f failed = calls.last_failed first middle last refl refl a i j both failed.syncs failed.part

          module _ (three : Carries {E = DiskError} last i (Ok tt) j) (k : DiskState) where
            made : Carries {E = DiskError} all a (Ok tt) j
            made = on j (Ok tt) (closes c d i two j (Ok tt) again three)

            pub ended : (r : Result (Unit {0}) DiskError) → Syncs j r k → Carries all a r k
            ended (Ok x) call = carries_settled all a j k made call
            ended (Err e) call = carries_unsettled e e all a j k made call

            pub ended_barriers : (r : Result (Unit {0}) DiskError) → Syncs j r k → MakesWithBarriers all a r k
            ended_barriers (Ok x) call = calls.last_synced first middle last refl refl a i j both three.syncs three.all k call
            ended_barriers (Err e) call = calls.last_unsynced first middle last refl refl a i j both three.syncs three.all k e call
