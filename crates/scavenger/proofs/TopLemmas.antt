-- What the writes of a restoration leave, after calls that wrote nothing.
use Rattle.std.proofs.Common.{◌≡◌, ℕ, ◌+◌, List, [], ◌++◌, length, take, Some, Result, Ok, Err, sym, ◌∙◌, ap, subst, arith, append-nil}
use Rattle.std.proofs.lemmas.List.{append_cancel_left}
use Rattle.std.proofs.lemmas.Option.{same_Some}
use Rattle.std.specs.Prelude.{slice_get, option_map, IfErr, OnErr}
use Rattle.labelled_disk.specs.declared.disk.DiskWrite.{DiskWrite}
use Rattle.labelled_disk.specs.Calls.{OnlyReads}
use Rattle.labelled_disk.specs.Root.{IsRoot}
use Rattle.labelled_disk.specs.Sectors.{Sector, AreSectors}
use Rattle.labelled_disk.specs.State.{DiskState}
use Rattle.labelled_disk.specs.WriteRuns.{Appended, after_writes}
use Rattle.labelled_disk.specs.declared.layout.RootFault.{RootFault}
use Rattle.cut_words.specs.Barriers.{HasBarriers}
use Rattle.cut_words.specs.Between.{IsCutBetween, EachCutFromFirstSync}
use Rattle.cut_words.proofs.BarrierLemmas.{two_windows}
use Rattle.cut_words.proofs.LastSyncLemmas.{sync_laws}
use Rattle.volume_root.specs.declared.root.Root.{Root}
use Rattle.volume_root.specs.Format.{PartMade}
use Rattle.scavenger.specs.declared.fault.ScavengeFault.{ScavengeFault}
use Rattle.scavenger.specs.declared.fault.ScavengeFault.TheVariants.{Disk}
use Rattle.scavenger.specs.Opening.{Accords}
use Rattle.scavenger.specs.Orders.{Orders, AreFor, scavenge_writes}
use Rattle.scavenger.specs.Carries.{MakesWithBarriers}
use Rattle.scavenger.specs.Restored.{IsRestored, RestoresEach, ScavengingRestores, Survives}

-- writes after calls that wrote nothing
pub appended_after : (ws : List DiskWrite) (a b c : DiskState) → OnlyReads a b → Appended ws b c → Appended ws a c
appended_after ws a b c only made = record {
  contents = made.contents ∙ ap (option_map (after_writes ws)) only.contents;
  revealed = made.revealed ∙ ap (option_map (λ (earlier : List DiskWrite). earlier ++ ws)) only.writes;
}

-- the disk afterwards is restored
pub restored_by : RestoresEach → (a c : DiskState) (g : List Sector) (o : Orders) → a.contents ≡ Some g → AreSectors g → IsRoot (length g) (slice_get g 0) → AreFor g o → Appended (scavenge_writes o) a c
    → (h : List Sector) × (c.contents ≡ Some h) × IsRestored g h
restored_by law a c g o revealed are has is_for made =
    (after_writes (scavenge_writes o) g, made.contents ∙ ap (option_map (after_writes (scavenge_writes o))) revealed, (law g o are has is_for).restored)

pub part_after : (ws : List DiskWrite) (a b c : DiskState) → OnlyReads a b → PartMade ws b c → PartMade ws a c
part_after ws a b c only part = (part.0, part.1, appended_after (take part.0 ws) a b c only part.2)

-- what holds of an error
pub on_err : {T E : Type 0} {P : Type 0} (r : Result T E) (e : E) → r ≡ Err e → OnErr r P → P
on_err {T} {E} {P} r e same holds = subst (λ (x : Result T E). OnErr x P) same holds

-- an Ok, or a fault of the disk, where the root is accepted
pub accords_by : {T : Type 0} (r : Result T ScavengeFault) (right : Result Root RootFault) → IfErr r (λ w. w ≡ Disk) → (root : Root) × (right ≡ Ok root) → Accords r right
accords_by (Ok x) right err accepted = accepted
accords_by (Err e) right err accepted = subst (λ (w : ScavengeFault). Accords {T = Root} (Err w) right) (sym err) tt

-- where nothing was written there is no cut after a first write
pub none_cut : (P : List Sector → List Sector → Type 0) (a c : DiskState) → OnlyReads a c → EachCutFromFirstSync P a c
none_cut P a c only d e s k cut from =
    let same : cut.writes ≡ [] =
    append_cancel_left cut.earlier cut.writes []
    (same_Some (cut.earlier ++ cut.writes) (cut.earlier ++ []) (sym cut.wrote ∙ only.writes ∙ cut.wrote_before ∙ ap (λ (l : List DiskWrite). Some l) (sym (append-nil cut.earlier)))) in
    let last = ((sync_laws cut.syncs (length cut.earlier + k)).revealed (length cut.earlier + s)).0 cut.last in
    absurd (omega (arith, ap (λ (l : List DiskWrite). length l) same, cut.made, last.by_then, from))

-- calls that wrote nothing, and then others
later_cut : (a b c : DiskState) (d e : List Sector) (s k : ℕ) → OnlyReads a b → IsCutBetween a c d s k e → IsCutBetween b c d s k e
later_cut a b c d e s k only cut = record {
  earlier = cut.earlier;
  writes = cut.writes;
  syncs = cut.syncs;
  held = only.contents ∙ cut.held;
  wrote_before = only.writes ∙ cut.wrote_before;
  wrote = cut.wrote;
  settled = cut.settled;
  made = cut.made;
  last = cut.last;
  cut = cut.cut;
}

pub cuts_after : (P : List Sector → List Sector → Type 0) (a b c : DiskState) → OnlyReads a b → EachCutFromFirstSync P b c → EachCutFromFirstSync P a c
cuts_after P a b c only each d e s k cut from = each d e s k (later_cut a b c d e s k only cut) from

some_made : {E : Type 0} (writes : List DiskWrite) (b c : DiskState) (r : Result (Unit {0}) E) → MakesWithBarriers writes b r c → (made : ℕ) × HasBarriers writes made b c
some_made writes b c (Ok x) has = (length writes, has)
some_made writes b c (Err e) has = has

-- the cuts of a restoration
pub survives_made : {E : Type 0} (o : Orders) (a b c : DiskState) (r : Result (Unit {0}) E) → OnlyReads a b → MakesWithBarriers (scavenge_writes o) b r c
    → ((g : List Sector) → a.contents ≡ Some g → ScavengingRestores g o) → EachCutFromFirstSync Survives a c
survives_made o a b c r only makes laws d e s k cut from =
    let has = some_made (scavenge_writes o) b c r makes in
    (laws d cut.held).cuts e (two_windows (scavenge_writes o) has.0 b c has.1 d e s k (later_cut a b c d e s k only cut) from)
