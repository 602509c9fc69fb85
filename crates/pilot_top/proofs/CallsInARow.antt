-- Calls of clients in a row, each tried or carried out by a session.
use Rattle.std.proofs.Common.{◌≡◌, inl, inr, ℕ, ◌+◌, ◌≤◌, Bool, true, false, List, [], ◌∷◌, refl, sym, ap, ◌∙◌, subst, arith}
use Rattle.std.specs.Prelude.{sum_by, if◌then◌else◌}
use Rattle.std.proofs.lemmas.List.Sums.{sum_by-cons}
use Rattle.labelled_disk.specs.declared.disk.Disk.{Ghosts}
use Rattle.flat_machine.specs.Machine.{Machine}
use Rattle.flat_machine.specs.Next.{next}
use Rattle.flat_machine.specs.References.{is_reference}
use Rattle.swapper_kernel.specs.Goes.{Went}
use Rattle.swapper_kernel.specs.GoesLaws.{went_itself, went_then}
use Rattle.flight_core.specs.Carrying.{Carried, LedInARow}
use Rattle.fault_core.specs.Core.{state}
use Rattle.running_words.specs.Bound.{other_bound}
use Rattle.pilot_engine.specs.declared.session.Session.{Session}
use Rattle.pilot_engine.specs.Leading.{Leads, call_of, reference_bound}
use Rattle.pilot_engine.specs.Opening.{IsUnset}
use Rattle.pilot_engine.specs.Trying.{StandsAs}
use Rattle.pilot_engine.proofs.UnsetLemmas.{unset_then}
use Rattle.pilot_top.specs.Clients.{carried_bound}
use Rattle.pilot_top.specs.CrashStates.{Openly}
use Rattle.pilot_top.proofs.PermittedRuns.{called_openly, openly_itself, openly_then}
use Rattle.pilot_top.proofs.ReasonLemmas.{GoesOn, goes_nowhere, goes_then}

module _ {D A : Type 0} {G : Ghosts D} where
  -- where calls led from one session to the other: what was written, and what stays
  pub record HasLed (old new : Session D A G) : Type 0 where
    pub openly : Openly (state old.core).disk (state new.core).disk
    pub went : Went (state old.core).disk (state new.core).disk
    pub unset : IsUnset (state old.core).disk → IsUnset (state new.core).disk
    pub layout : (state new.core).layout ≡ (state old.core).layout
    pub goes : new.running ≡ true → GoesOn old new

  -- a session that calls led to one that runs ran
  ran_before : (mid : Session D A G) (calls : List Carried) (new : Session D A G) → LedInARow Leads mid calls new → new.running ≡ true → mid.running ≡ true
  ran_before mid [] new is running = ap (λ (s : Session D A G). s.running) (sym is) ∙ running
  ran_before mid (one ∷ calls) new row running = row.1.ran.running

  goes_one : (old : Session D A G) (one : Carried) (new : Session D A G) → Leads old one new → new.running ≡ true → GoesOn old new
  goes_one old one new led running = record {
    keeps = λ o keeps not_older. (led.keeps_to running o keeps not_older).0;
    sees = λ o keeps not_older seen. (led.keeps_to running o keeps not_older).1 seen;
    monotone = (led.stays.monotone, led.stays.serial);
  }

  pub has_led : (old : Session D A G) (calls : List Carried) (new : Session D A G) → LedInARow Leads old calls new → HasLed old new
  has_led old [] new is = subst (HasLed old) (sym is) (record {
    openly = openly_itself (state old.core).disk;
    went = went_itself (state old.core).disk;
    unset = λ unset. unset;
    layout = refl;
    goes = λ running. goes_nowhere old;
  })
  has_led old (one ∷ calls) new row =
      let led = row.1 in
      let more = has_led row.0 calls new row.2 in
      record {
        openly = openly_then (called_openly led.wrote) more.openly;
        went = went_then led.wrote.makes.went more.went;
        unset = λ unset. more.unset (unset_then unset led.wrote);
        layout = more.layout ∙ led.stays.layout;
        goes = λ running. goes_then old row.0 new (goes_one old one row.0 led (ran_before row.0 calls new row.2 running)) (more.goes running);
      }

  -- a session that runs stands for a machine where the first one did
  pub row_stands : (m : Machine) (old : Session D A G) (calls : List Carried) (new : Session D A G) → StandsAs old m → LedInARow Leads old calls new → new.running ≡ true → (n : Machine) × StandsAs new n
  row_stands m old [] new stands is running = (m, subst (λ (s : Session D A G). StandsAs s m) (sym is) stands)
  row_stands m old (one ∷ calls) new stands row running = elim (row.1.stands m stands (ran_before row.0 calls new row.2 running)) [
    | inl same ↦ row_stands m row.0 calls new same row.2 running
    | inr after ↦ row_stands (next m (call_of one)) row.0 calls new after row.2 running
  ]

  -- one call is within its bound
  one_costs : (m : Machine) (old : Session D A G) (one : Carried) (new : Session D A G) → StandsAs old m → Leads old one new
      → (state new.core).disk.transfers ≤ (state old.core).disk.transfers + carried_bound (state old.core).disk.sectors one
  one_costs m old one new stands led = by (is_reference (call_of one)) refl
    where
      by : (b : Bool) → is_reference (call_of one) ≡ b
          → (state new.core).disk.transfers ≤ (state old.core).disk.transfers + (if b then reference_bound one else other_bound (state old.core).disk.sectors)
      by true is = led.few is
      by false is = led.cost m stands

  -- so are calls in a row, where a machine is stood for
  pub row_costs : (old : Session D A G) (calls : List Carried) (new : Session D A G) → (old.running ≡ true → (m : Machine) × StandsAs old m) → LedInARow Leads old calls new
      → (state new.core).disk.transfers ≤ (state old.core).disk.transfers + sum_by (carried_bound (state old.core).disk.sectors) calls
  row_costs old [] new any is =
      subst (λ (s : Session D A G). (state s.core).disk.transfers ≤ (state old.core).disk.transfers + 0) (sym is) (omega arith)
  row_costs old (one ∷ calls) new any row =
      let mid = row.0 in
      let led = row.1 in
      let here = any led.ran.running in
      let first = one_costs here.0 old one mid here.1 led in
      let later : mid.running ≡ true → (m : Machine) × StandsAs mid m = λ running. elim (led.stands here.0 here.1 running) [
        | inl same ↦ (here.0, same)
        | inr after ↦ (next here.0 (call_of one), after)
      ] in
      let more = row_costs mid calls new later row.2 in
      let same : (state mid.core).disk.sectors ≡ (state old.core).disk.sectors = led.wrote.makes.went.sectors in
      let rest : (state new.core).disk.transfers ≤ (state mid.core).disk.transfers + sum_by (carried_bound (state old.core).disk.sectors) calls =
      subst (λ (n : ℕ). (state new.core).disk.transfers ≤ (state mid.core).disk.transfers + sum_by (carried_bound n) calls) same more in
      omega (arith, first, rest, sum_by-cons (carried_bound (state old.core).disk.sectors) one calls)
