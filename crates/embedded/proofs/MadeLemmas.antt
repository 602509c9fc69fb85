-- A volume that was made or restored, and one that was not.
use Rattle.std.proofs.Common.{◌≡◌, ◌∙◌, ◌⊎◌, ◌≤◌, inl, inr, refl, sym, ap, subst, arith, ℕ, true, List, length, Some, None, Result, Ok, Err, IfErr, OnOk}
use Rattle.labelled_disk.specs.Calls.{OnlyReads, Rose}
use Rattle.labelled_disk.specs.Layout.{IsCount}
use Rattle.labelled_disk.specs.Sectors.{Sector}
use Rattle.labelled_disk.specs.declared.disk.Disk.{Ghosts}
use Rattle.labelled_disk.specs.State.{DiskState}
use Rattle.labelled_disk.specs.declared.layout.Layout.{Layout}
use Rattle.labelled_disk.specs.declared.layout.RootFault.{RootFault}
use Rattle.labelled_disk.specs.declared.layout.RootFault.TheVariants as fault
use Rattle.labelled_disk.proofs.CallLemmas.{only_reads_itself}
use Rattle.volume_root.specs.declared.root.Root.{Root}
use Rattle.volume_root.specs.Format.{IsFormatFault, PartMade, format_writes, formatted}
use Rattle.volume_root.specs.Later as root
use Rattle.scavenger.specs.declared.fault.ScavengeFault.{ScavengeFault}
use Rattle.scavenger.specs.declared.report.Report.{Report}
use Rattle.scavenger.specs.declared.fault.ScavengeFault.TheVariants as scavenging
use Rattle.scavenger.specs.Opening.{Accords}
use Rattle.scavenger.proofs.BetweenLemmas.{crash_states_of_none, reads_same}
use Rattle.embedded.specs.declared.code.Code.{Code}
use Rattle.embedded.specs.declared.code.Code.TheVariants as code
use Rattle.embedded.specs.Later.{Later}
use Rattle.embedded.specs.declared.engine.Engine.{Engine}
use Rattle.embedded.specs.declared.held.Held.TheVariants as held
use Rattle.embedded.specs.Made.{Formats, IsScavenged, Makes, Restores, Scavenges}
use Rattle.embedded.specs.Taking.{HasFree, MissesFree, free_disk}
use Rattle.embedded.proofs.TakeLemmas.{not_taken, taken, takes_alike}

-- an error is that error under another type of answer
pub other_error : {T S E : Type 0} {a b : E} → ◌≡◌ {A = Result T E} (Err a) (Err b) → ◌≡◌ {A = Result S E} (Err a) (Err b)
other_error {T} {S} {E} {a} {b} is =
    let same : a ≡ b = cc is in
    ap (λ (x : E). Err x) same

pub accords_error : (T S : Type 0) (w : ScavengeFault) (right : Result Root RootFault) → Accords {T = T} (Err w) right → Accords {T = S} (Err w) right
accords_error T S (scavenging.Root why) right so = so
accords_error T S scavenging.Disk right so = so
accords_error T S scavenging.NoMemory right so = so

pub later_of : {old new : DiskState} → root.IsLater old new → Later old new
later_of is = record { sectors = is.sectors; faults = is.faults }

-- without memory nothing is done
pub not_restored : {A : Type 0} (disk : DiskState) → Restores {A = A} disk (Err scavenging.NoMemory) disk
not_restored disk = record {
  restored = λ g revealed. tt;
  report = λ g revealed. tt;
  synced = tt;
  crash_states = λ g before writes revealed earlier later k. crash_states_of_none g disk disk before writes earlier later k (reads_same (only_reads_itself disk));
  count = λ not. inl refl;
  bad_count = λ n is. absurd (cc is);
  accords = λ count g revealed s here. inl refl;
  refused = λ why is. absurd (cc is);
  unwritten = λ is. only_reads_itself disk;
  cause = λ is. absurd (cc is);
  later = record { sectors = refl; faults = omega arith };
}

pub none_zero : {a b : ℕ} → ¬ (a ≡ 0) → ¬ (b ≡ 0) → ¬ ((a ≡ 0) ⊎ (b ≡ 0))
none_zero first second (inl is) = first is
none_zero first second (inr is) = second is

-- what keeps a volume from being made is the count of sectors, or the disk
only_disk : (why : RootFault) → IsFormatFault why → ((n : ℕ) → why ≡ fault.BadCount n → ⊥) → why ≡ fault.Disk
only_disk fault.Disk is not = refl
only_disk (fault.BadCount n) is not = absurd (not n refl)
only_disk other is not = absurd is

of_root : (why : RootFault) → ◌≡◌ {A = Result (Unit {0}) Code} (Err (code.Root why)) (Err (code.Root fault.Disk)) → ◌≡◌ {A = Result Layout RootFault} (Err why) (Err fault.Disk)
of_root why failed =
    let same : why ≡ fault.Disk = cc failed in
    ap (λ (x : RootFault). Err x) same

module _ (serial counter : ℕ) (disk left : DiskState) (r : Result Layout RootFault) where
  -- a volume was made
  pub makes : (layout : Layout) → r ≡ Ok layout → OnOk r ((d : List Sector) → disk.contents ≡ Some d → left.contents ≡ Some (formatted (length d) serial counter))
      → OnOk r (left.synced ≡ true) → (¬ IsCount disk.sectors → r ≡ Err (fault.BadCount disk.sectors)) → root.IsLater disk left
      → Makes serial counter disk (Ok tt) left
  makes layout is made synced count later = record {
    made = λ d revealed. (subst (λ (x : Result Layout RootFault). OnOk x ((d : List Sector) → disk.contents ≡ Some d → left.contents ≡ Some (formatted (length d) serial counter))) is made) d revealed;
    synced = subst (λ (x : Result Layout RootFault). OnOk x (left.synced ≡ true)) is synced;
    count = λ not. absurd (cc (is, count not));
    failed = λ counted. tt;
    part = λ failed. absurd (cc failed);
    cause = λ failed. absurd (cc failed);
    later = later_of later;
  }

  -- none was
  pub makes_none : (why : RootFault) → r ≡ Err why → (¬ IsCount disk.sectors → r ≡ Err (fault.BadCount disk.sectors))
      → ((n : ℕ) → r ≡ Err (fault.BadCount n) → ¬ IsCount disk.sectors × (n ≡ disk.sectors)) → (¬ IsCount disk.sectors → OnlyReads disk left)
      → (r ≡ Err fault.Disk → PartMade (format_writes disk.sectors serial counter) disk left) → (r ≡ Err fault.Disk → Rose disk.faults left.faults)
      → IfErr r IsFormatFault → root.IsLater disk left → Makes serial counter disk (Err (code.Root why)) left
  makes_none why is count bad_count unwritten part cause kind later =
      record {
        made = λ d revealed. tt;
        synced = tt;
        count = λ not.
            let same : why ≡ fault.BadCount disk.sectors = cc (is, count not) in
            (ap (λ (x : RootFault). Err (code.Root x)) same, unwritten not);
        failed = λ counted.
            ap (λ (x : RootFault). code.Root x)
            (only_disk why (subst (λ (x : Result Layout RootFault). IfErr x IsFormatFault) is kind) (λ n bad. (bad_count n (cc (is, bad))).0 counted));
        part = λ failed. part (is ∙ of_root why failed);
        cause = λ failed. cause (is ∙ of_root why failed);
        later = later_of later;
      }

module _ {D A : Type 0} {G : Ghosts D} where
  -- no disk without a session was found to make a volume on, and one was taken
  pub not_formatted : (serial counter : ℕ) (old new : Engine D A G) (e : Code) → ¬ ((serial ≡ 0) ⊎ (counter ≡ 0)) → MissesFree old.held e → new ≡ old
      → Formats serial counter old (Err e) new
  not_formatted serial counter old new e some misses same = record {
    argument = λ none. absurd (some none);
    makes = λ s c. not_taken (Unit {0}) (λ disk. HasFree (Makes serial counter disk (Err e)) new) old new e misses same;
    same_halt = ap (λ (x : Engine D A G). x.halt) same;
  }

  pub formats : (serial counter : ℕ) (old new : Engine D A G) (answer : Result (Unit {0}) Code) (disk left : D) → ¬ ((serial ≡ 0) ⊎ (counter ≡ 0))
      → old.held ≡ held.Disk disk → new ≡ record old { held = held.Disk left } → Makes serial counter (G.state disk) answer (G.state left)
      → Formats serial counter old answer new
  formats serial counter old new answer disk left some is now made = record {
    argument = λ none. absurd (some none);
    makes = λ s c.
        taken (λ d. HasFree (Makes serial counter d answer) new) old new answer disk is
        (G.state left, ap (λ (x : Engine D A G). free_disk x) now, made);
    same_halt = ap (λ (x : Engine D A G). x.halt) now;
  }

  -- the same of a restoration
  pub not_scavenged : (old new : Engine D A G) (e : Code) → MissesFree old.held e → new ≡ old → Scavenges old (Err e) new
  not_scavenged old new e misses same = record {
    restores = not_taken (Report A) (λ disk. IsScavenged disk (Err e) new) old new e misses same;
    same_halt = ap (λ (x : Engine D A G). x.halt) same;
  }

  pub scavenges : (old new : Engine D A G) (answer : Result (Report A) Code) (disk left : D) → old.held ≡ held.Disk disk
      → new ≡ record old { held = held.Disk left } → IsScavenged (G.state disk) answer new → Scavenges old answer new
  scavenges old new answer disk left is now restored = record {
    restores = taken (λ d. IsScavenged d answer new) old new answer disk is restored;
    same_halt = ap (λ (x : Engine D A G). x.halt) now;
  }

  pub scavenges_alike : (old middle new : Engine D A G) (answer : Result (Report A) Code) → free_disk middle ≡ free_disk old → (free_disk old ≡ None → middle ≡ old)
      → middle.halt ≡ old.halt → Scavenges middle answer new → Scavenges old answer new
  scavenges_alike old middle new answer free same halt scavenged = record {
    restores = takes_alike (λ d. IsScavenged d answer new) old middle new answer free same scavenged.restores;
    same_halt = scavenged.same_halt ∙ halt;
  }
