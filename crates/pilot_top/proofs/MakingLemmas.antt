-- A volume that was made.
use Rattle.std.proofs.Common.{◌≡◌, ◌≢◌, inl, inr, ℕ, ◌^◌, ◌<◌, ◌≤◌, List, length, Some, true, Result, Ok, Err, IfErr, refl, sym, ◌∙◌, ap, subst, arith}
use Rattle.std.proofs.lemmas.Bool.{cases_lt}
use Rattle.std.proofs.lemmas.Option.{same_Some}
use Rattle.labelled_disk.specs.declared.layout.Layout.{Layout}
use Rattle.labelled_disk.specs.declared.layout.RootFault.{RootFault}
use Rattle.labelled_disk.specs.declared.layout.RootFault.TheVariants as fault
use Rattle.labelled_disk.specs.Layout.{IsCount}
use Rattle.labelled_disk.specs.Sectors.{Sector}
use Rattle.labelled_disk.specs.State.{DiskState}
use Rattle.labelled_disk.specs.WriteRuns.{Appended}
use Rattle.volume_root.specs.Format.{format_writes, formatted, IsFormatFault}
use Rattle.volume_root.specs.FormatLaws.{IsEmptyVolume}
use Rattle.volume_root.proofs.NewVolume.{new_is_empty}
use Rattle.pilot_top.specs.Making.{IsMade}

-- a count is one that a volume has, where it can't be otherwise
is_count : (n : ℕ) → (¬ IsCount n → ⊥) → IsCount n
is_count n not = (
  elim (cases_lt n 256) [ inl h ↦ absurd (not (λ c. omega (arith, h, c.0))) | inr h ↦ h ],
  elim (cases_lt 1048576 n) [ inl h ↦ absurd (not (λ c. omega (arith, h, c.1))) | inr h ↦ h ],
)

module _ (serial counter : ℕ) (some_serial : 1 ≤ serial) (serial_fits : serial < 2 ^ 32) (some_counter : 1 ≤ counter) (counter_fits : counter < 2 ^ 32) where
  pub made : (old new : DiskState) (result : Result Layout RootFault) (layout : Layout) → result ≡ Ok layout → (¬ IsCount old.sectors → result ≡ Err (fault.BadCount old.sectors))
      → ((d : List Sector) → old.contents ≡ Some d → length d ≡ old.sectors)
      → ((d : List Sector) → old.contents ≡ Some d → new.contents ≡ Some (formatted (length d) serial counter))
      → Appended (format_writes old.sectors serial counter) old new → new.synced ≡ true → IsMade serial counter old new
  made old new result layout ok count whole contents writes synced = record {
    empty = λ d e revealed then.
        subst (λ (x : List Sector). IsEmptyVolume old.sectors serial counter x)
        (ap (λ (n : ℕ). formatted n serial counter) (sym (whole d revealed)) ∙ same_Some (formatted (length d) serial counter) e (sym (contents d revealed) ∙ then))
        (new_is_empty old.sectors serial counter (is_count old.sectors (λ none. absurd (let bad = count none in cc))) some_serial serial_fits some_counter counter_fits);
    writes = writes;
    synced = synced;
  }

-- a fault that is not the disk's is a count of sectors that no volume has
pub bad_count : (n : ℕ) (result : Result Layout RootFault) (why : RootFault) → result ≡ Err why → why ≢ fault.Disk → IfErr result IsFormatFault
    → ((k : ℕ) → result ≡ Err (fault.BadCount k) → ¬ IsCount n × (k ≡ n)) → ¬ IsCount n × (why ≡ fault.BadCount n)
bad_count n result why is other faults count = of_fault why other (rw is at faults) (λ k same. count k (is ∙ ap (λ (f : RootFault). Err f) same))
  where
    of_fault : (why : RootFault) → why ≢ fault.Disk → IsFormatFault why → ((k : ℕ) → why ≡ fault.BadCount k → ¬ IsCount n × (k ≡ n)) → ¬ IsCount n × (why ≡ fault.BadCount n)
    of_fault fault.Disk other is count = absurd (other refl)
    of_fault (fault.BadCount k) other is count = let bad = count k refl in (bad.0, ap (λ (m : ℕ). fault.BadCount m) bad.1)
    of_fault (fault.NotVolume what) other is count = absurd is
    of_fault fault.Unclean other is count = absurd is
    of_fault (fault.Version v) other is count = absurd is
