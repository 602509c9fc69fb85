-- A volume that is restored, or has no root.
use Rattle.std.proofs.Common.{◌≡◌, ◌⊎◌, inl, inr, ℕ, ◌<◌, false, List, [], ◌∷◌, length, take, Option, Some, Result, Ok, Err, refl, sym, ◌∙◌, ap, subst, arith}
use Rattle.std.specs.Prelude.{slice_get}
use Rattle.std.proofs.lemmas.Bool.{cases_lt}
use Rattle.labelled_disk.specs.declared.disk.DiskWrite.{DiskWrite}
use Rattle.labelled_disk.specs.declared.layout.RootFault.{RootFault}
use Rattle.labelled_disk.specs.declared.layout.RootFault.TheVariants as fault
use Rattle.labelled_disk.specs.Calls.{OnlyReads, RevealsSame}
use Rattle.labelled_disk.specs.Layout.{IsCount}
use Rattle.labelled_disk.specs.Root.{IsRoot}
use Rattle.labelled_disk.specs.Sectors.{Sector}
use Rattle.labelled_disk.specs.State.{DiskState}
use Rattle.labelled_disk.specs.WriteRuns.{Appended}
use Rattle.labelled_disk.proofs.CallLemmas.{reveals_same_then}
use Rattle.labelled_disk.proofs.WriteRunLemmas.{appended_none, appended_then}
use Rattle.volume_root.specs.declared.root.Root.{Root}
use Rattle.volume_root.specs.Format.{PartMade}
use Rattle.volume_root.specs.RootPage.{judged}
use Rattle.volume_root.proofs.RootLemmas.{passes}
use Rattle.scavenger.specs.declared.fault.ScavengeFault.{ScavengeFault}
use Rattle.scavenger.specs.declared.fault.ScavengeFault.TheVariants as why
use Rattle.scavenger.specs.Opening.{Accords}
use Rattle.scavenger.specs.Orders.{Orders, AreFor, scavenge_writes}
use Rattle.scavenger.proofs.BetweenLemmas.{reads_same}
use Rattle.pilot_top.specs.Scavenging.{IsNoVolume}
use Rattle.pilot_top.specs.declared.status.Status.{Status}
use Rattle.pilot_top.specs.declared.status.Status.TheVariants as status

is_count_or : (n : ℕ) → IsCount n ⊎ (IsCount n → ⊥)
is_count_or n = elim (cases_lt n 256) [
  | inl few ↦ inr (λ c. omega (arith, few, c.0))
  | inr enough ↦ elim (cases_lt 1048576 n) [
    | inl many ↦ inr (λ c. omega (arith, many, c.1))
    | inr not_many ↦ inl (enough, not_many)
  ]
]

first_sector : (g : List Sector) → 0 < length g → (s : Sector) × (slice_get g 0 ≡ Some s)
first_sector [] some = absurd (omega (arith, some))
first_sector (s ∷ rest) some = (s, refl)

-- the root is judged to be refused
refused_so : {T : Type 0} (f : RootFault) (result : Result T ScavengeFault) (right : Result Root RootFault) → Accords result right → right ≡ Err f
    → (result ≡ Err (why.Root f)) ⊎ (result ≡ Err why.Disk)
refused_so f (Ok x) right accords is = absurd (let e = sym accords.1 ∙ is in cc e)
refused_so f (Err (why.Root other)) right accords is = inl (let e = sym accords ∙ is in ap (λ (x : RootFault). Err (why.Root x)) (cc e))
refused_so f (Err why.NoMemory) right accords is = absurd (let e = sym accords.1 ∙ is in cc e)
refused_so f (Err why.Disk) right accords is = inr refl

-- an answer on a disk of n sectors that holds g, which fits how its root is judged
module _ {T : Type 0} (n : ℕ) (g : List Sector) (whole : length g ≡ n) (result : Result T ScavengeFault) (count : (IsCount n → ⊥) → result ≡ Err (why.Root (fault.BadCount n)))
    (judges : IsCount n → (s : Sector) → slice_get g 0 ≡ Some s → Accords result (judged false (length g) s)) where
  sector_of : IsCount n → (s : Sector) × (slice_get g 0 ≡ Some s)
  sector_of is_count = first_sector g (omega (arith, is_count.0, whole))

  counted : IsCount n → IsCount (length g)
  counted is_count = subst (λ (m : ℕ). IsCount m) (sym whole) is_count

  pub no_volume : (f : RootFault) → result ≡ Err (why.Root f) → IsNoVolume g f
  no_volume f is = elim (is_count_or n) [
    | inl is_count ↦
        let s = sector_of is_count in
        inr (counted is_count, s.0, s.1, subst (λ (r : Result T ScavengeFault). Accords r (judged false (length g) s.0)) is (judges is_count s.0 s.1))
    | inr none ↦
        let e = sym is ∙ count none in
        inl (λ is_count. none (subst (λ (m : ℕ). IsCount m) whole is_count), cc e ∙ ap (λ (m : ℕ). fault.BadCount m) (sym whole))
  ]

  pub refuses : (f : RootFault) → IsNoVolume g f → (result ≡ Err (why.Root f)) ⊎ (result ≡ Err why.Disk)
  refuses f (inl none) =
      inl (count (λ is_count. none.0 (counted is_count)) ∙ ap (λ (x : RootFault). Err (why.Root x)) (ap (λ (m : ℕ). fault.BadCount m) (sym whole) ∙ sym none.1))
  refuses f (inr is) = refused_so f result (judged false (length g) is.1) (judges (subst (λ (m : ℕ). IsCount m) whole is.0) is.1 is.2) is.3

  pub no_other : (x : T) (f : RootFault) → IsNoVolume g f → result ≡ Ok x → ⊥
  no_other x f none is = elim (refuses f none) [
    | inl root ↦ absurd (let e = sym is ∙ root in cc e)
    | inr disk ↦ absurd (let e = sym is ∙ disk in cc e)
  ]

-- writes after calls that wrote nothing
pub made_after : (a b c : DiskState) (writes : List DiskWrite) → OnlyReads a b → Appended writes b c → Appended writes a c
made_after a b c writes reads made = appended_then [] writes (appended_none (reads_same reads)) made

pub part_after : (g : List Sector) (a b c : DiskState) → OnlyReads a b → RevealsSame b c ⊎ ((o : Orders) × AreFor g o × PartMade (scavenge_writes o) b c)
    → RevealsSame a c ⊎ ((o : Orders) × AreFor g o × PartMade (scavenge_writes o) a c)
part_after g a b c reads (inl same) = inl (reveals_same_then (reads_same reads) same)
part_after g a b c reads (inr some) = inr (some.0, some.1, (some.2.0, some.2.1, made_after a b c (take some.2.0 (scavenge_writes some.0)) reads some.2.2))

-- a fault that is handed on
pub carried : {T U : Type 0} (e f : ScavengeFault) (a : Result T ScavengeFault) (b : Result U ScavengeFault) → a ≡ Err e → b ≡ Err e → a ≡ Err f → b ≡ Err f
carried e f a b was same is = same ∙ ap (λ (x : ScavengeFault). Err x) (let both = sym was ∙ is in cc both)

-- what comes of a root that is refused, and what does not
module _ {T : Type 0} (result : Result T ScavengeFault) (f : RootFault) (refused : (result ≡ Err (why.Root f)) ⊎ (result ≡ Err why.Disk)) where
  pub not_restored : (x : T) → result ≡ Ok x → ⊥
  not_restored x is = elim refused [
    | inl root ↦ absurd (let e = sym is ∙ root in cc e)
    | inr disk ↦ absurd (let e = sym is ∙ disk in cc e)
  ]

  pub not_memory : (e : ScavengeFault) → result ≡ Err e → e ≡ why.NoMemory → ⊥
  not_memory e is memory = elim refused [
    | inl root ↦ absurd (let both = sym is ∙ root in cc (both, memory))
    | inr disk ↦ absurd (let both = sym is ∙ disk in cc (both, memory))
  ]

-- the fault is one
pub same_root : {T : Type 0} (result : Result T ScavengeFault) (e : ScavengeFault) (f k : RootFault) → result ≡ Err e → e ≡ why.Root f → result ≡ Err (why.Root k) → f ≡ k
same_root result e f k is root count = let both : why.Root f ≡ why.Root k = sym root ∙ (let both = sym is ∙ count in cc both) in cc both

-- a valid root is not refused
pub root_is_accepted : (g : List Sector) → IsRoot (length g) (slice_get g 0) → (f : RootFault) → IsNoVolume g f → ⊥
root_is_accepted g root f (inl none) = none.0 root.accepted
root_is_accepted g root f (inr is) =
    let passed = passes (length g) is.1 (subst (λ (o : Option Sector). IsRoot (length g) o) is.2 root) in
    absurd (let e = sym passed ∙ is.3 in cc e)

-- how a restoration ends
abbrev Ends : Status → Type 0
Ends s = (s ≡ status.Done) ⊎ (s ≡ status.StreamFault) ⊎ (s ≡ status.DiskFault) ⊎ (s ≡ status.NotOpened) ⊎ (s ≡ status.NoMemory)

pub is_restored : (s : Status) (disk sink : Type 0) → Ends s → (s ≡ status.DiskFault → disk) → (s ≡ status.StreamFault → sink) → (s ≡ status.NotOpened → ⊥) → (disk → ⊥) → (sink → ⊥)
    → (s ≡ status.Done) ⊎ (s ≡ status.NoMemory)
is_restored s disk sink (inl done) on_disk on_stream opened no_disk no_sink = inl done
is_restored s disk sink (inr (inl stream)) on_disk on_stream opened no_disk no_sink = absurd (no_sink (on_stream stream))
is_restored s disk sink (inr (inr (inl failed))) on_disk on_stream opened no_disk no_sink = absurd (no_disk (on_disk failed))
is_restored s disk sink (inr (inr (inr (inl refused)))) on_disk on_stream opened no_disk no_sink = absurd (opened refused)
is_restored s disk sink (inr (inr (inr (inr memory)))) on_disk on_stream opened no_disk no_sink = inr memory

pub opened_ends : (s : Status) → Ends s → (s ≡ status.NotOpened → ⊥) → (s ≡ status.Done) ⊎ (s ≡ status.StreamFault) ⊎ (s ≡ status.DiskFault) ⊎ (s ≡ status.NoMemory)
opened_ends s (inl done) opened = inl done
opened_ends s (inr (inl stream)) opened = inr (inl stream)
opened_ends s (inr (inr (inl failed))) opened = inr (inr (inl failed))
opened_ends s (inr (inr (inr (inl refused)))) opened = absurd (opened refused)
opened_ends s (inr (inr (inr (inr memory)))) opened = inr (inr (inr memory))
