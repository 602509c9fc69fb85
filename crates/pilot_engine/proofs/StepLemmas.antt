-- Which calls are on spaces, and what the frames show after them.
use Rattle.std.proofs.Common.{◌≡◌, ℕ, ◌+◌, Bool, true, false, List, Option, Some, Result, Ok, Err, refl, sym}
use Rattle.std.specs.Prelude.{OnOk}
use Rattle.labelled_disk.specs.declared.evidence.Halt.{Halt}
use Rattle.flat_machine.specs.declared.call.Reply.{Reply}
use Rattle.flat_machine.specs.declared.space.Space.{Space}
use Rattle.flat_machine.specs.Space.{space_at}
use Rattle.pilot_engine.specs.Advised.{OfPages}
use Rattle.std.proofs.lemmas.Bool.{true≢false}
use Rattle.flat_machine.specs.declared.call.Call.{Call}
use Rattle.flat_machine.specs.declared.call.Call.TheVariants as call
use Rattle.flat_machine.specs.After.{ends_trace}
use Rattle.pilot_engine.specs.Stepping.{is_on_spaces}

-- one that does not end the trace and is none on files
pub on_spaces : (c : Call) → ends_trace c ≡ false → ((pages kind : ℕ) → c ≡ call.Create pages kind → ⊥) → ((id : ℕ) → c ≡ call.Delete id → ⊥) → ((id : ℕ) → c ≡ call.Attributes id → ⊥)
    → ((id pages : ℕ) → c ≡ call.SetSize id pages → ⊥) → ((id : ℕ) → c ≡ call.MakePermanent id → ⊥) → ((id : ℕ) → c ≡ call.MakeImmutable id → ⊥)
    → ((id : ℕ) → c ≡ call.Next id → ⊥) → (c ≡ call.Volume → ⊥) → is_on_spaces c ≡ true
on_spaces (call.Create pages kind) more n1 n2 n3 n4 n5 n6 n7 n8 = absurd (n1 pages kind refl)
on_spaces (call.Delete id) more n1 n2 n3 n4 n5 n6 n7 n8 = absurd (n2 id refl)
on_spaces (call.Attributes id) more n1 n2 n3 n4 n5 n6 n7 n8 = absurd (n3 id refl)
on_spaces (call.SetSize id pages) more n1 n2 n3 n4 n5 n6 n7 n8 = absurd (n4 id pages refl)
on_spaces (call.MakePermanent id) more n1 n2 n3 n4 n5 n6 n7 n8 = absurd (n5 id refl)
on_spaces (call.MakeImmutable id) more n1 n2 n3 n4 n5 n6 n7 n8 = absurd (n6 id refl)
on_spaces (call.Next id) more n1 n2 n3 n4 n5 n6 n7 n8 = absurd (n7 id refl)
on_spaces call.Volume more n1 n2 n3 n4 n5 n6 n7 n8 = absurd (n8 refl)
on_spaces (call.MakeSpace parent pages first) more n1 n2 n3 n4 n5 n6 n7 n8 = refl
on_spaces (call.RemoveSpace space) more n1 n2 n3 n4 n5 n6 n7 n8 = refl
on_spaces (call.Place page) more n1 n2 n3 n4 n5 n6 n7 n8 = refl
on_spaces (call.Units space pages) more n1 n2 n3 n4 n5 n6 n7 n8 = refl
on_spaces (call.Map space id page writable) more n1 n2 n3 n4 n5 n6 n7 n8 = refl
on_spaces (call.MapAnonymous space) more n1 n2 n3 n4 n5 n6 n7 n8 = refl
on_spaces (call.Unmap space) more n1 n2 n3 n4 n5 n6 n7 n8 = refl
on_spaces (call.Protect space writable) more n1 n2 n3 n4 n5 n6 n7 n8 = refl
on_spaces (call.Load address count) more n1 n2 n3 n4 n5 n6 n7 n8 = refl
on_spaces (call.Store address bytes) more n1 n2 n3 n4 n5 n6 n7 n8 = refl
on_spaces (call.Activate space) more n1 n2 n3 n4 n5 n6 n7 n8 = refl
on_spaces (call.Deactivate space) more n1 n2 n3 n4 n5 n6 n7 n8 = refl
on_spaces (call.Kill space) more n1 n2 n3 n4 n5 n6 n7 n8 = refl
on_spaces (call.ForceOut space) more n1 n2 n3 n4 n5 n6 n7 n8 = refl
on_spaces other more n1 n2 n3 n4 n5 n6 n7 n8 = absurd (true≢false more)

-- none on spaces is left
pub none_on_spaces : (c : Call) → is_on_spaces c ≡ true → ((parent pages : ℕ) (first : Option ℕ) → c ≡ call.MakeSpace parent pages first → ⊥) → ((space : ℕ) → c ≡ call.RemoveSpace space → ⊥)
    → ((page : ℕ) → c ≡ call.Place page → ⊥) → ((space pages : ℕ) → c ≡ call.Units space pages → ⊥) → ((space id page : ℕ) (writable : Bool) → c ≡ call.Map space id page writable → ⊥)
    → ((space : ℕ) → c ≡ call.MapAnonymous space → ⊥) → ((space : ℕ) → c ≡ call.Unmap space → ⊥) → ((space : ℕ) (writable : Bool) → c ≡ call.Protect space writable → ⊥)
    → ((address count : ℕ) → c ≡ call.Load address count → ⊥) → ((address : ℕ) (bytes : List ℕ) → c ≡ call.Store address bytes → ⊥) → ((space : ℕ) → c ≡ call.Activate space → ⊥)
    → ((space : ℕ) → c ≡ call.Deactivate space → ⊥) → ((space : ℕ) → c ≡ call.Kill space → ⊥) → ((space : ℕ) → c ≡ call.ForceOut space → ⊥) → ⊥
none_on_spaces (call.MakeSpace parent pages first) revealed n1 n2 n3 n4 n5 n6 n7 n8 n9 n10 n11 n12 n13 n14 = n1 parent pages first refl
none_on_spaces (call.RemoveSpace space) revealed n1 n2 n3 n4 n5 n6 n7 n8 n9 n10 n11 n12 n13 n14 = n2 space refl
none_on_spaces (call.Place page) revealed n1 n2 n3 n4 n5 n6 n7 n8 n9 n10 n11 n12 n13 n14 = n3 page refl
none_on_spaces (call.Units space pages) revealed n1 n2 n3 n4 n5 n6 n7 n8 n9 n10 n11 n12 n13 n14 = n4 space pages refl
none_on_spaces (call.Map space id page writable) revealed n1 n2 n3 n4 n5 n6 n7 n8 n9 n10 n11 n12 n13 n14 = n5 space id page writable refl
none_on_spaces (call.MapAnonymous space) revealed n1 n2 n3 n4 n5 n6 n7 n8 n9 n10 n11 n12 n13 n14 = n6 space refl
none_on_spaces (call.Unmap space) revealed n1 n2 n3 n4 n5 n6 n7 n8 n9 n10 n11 n12 n13 n14 = n7 space refl
none_on_spaces (call.Protect space writable) revealed n1 n2 n3 n4 n5 n6 n7 n8 n9 n10 n11 n12 n13 n14 = n8 space writable refl
none_on_spaces (call.Load address count) revealed n1 n2 n3 n4 n5 n6 n7 n8 n9 n10 n11 n12 n13 n14 = n9 address count refl
none_on_spaces (call.Store address bytes) revealed n1 n2 n3 n4 n5 n6 n7 n8 n9 n10 n11 n12 n13 n14 = n10 address bytes refl
none_on_spaces (call.Activate space) revealed n1 n2 n3 n4 n5 n6 n7 n8 n9 n10 n11 n12 n13 n14 = n11 space refl
none_on_spaces (call.Deactivate space) revealed n1 n2 n3 n4 n5 n6 n7 n8 n9 n10 n11 n12 n13 n14 = n12 space refl
none_on_spaces (call.Kill space) revealed n1 n2 n3 n4 n5 n6 n7 n8 n9 n10 n11 n12 n13 n14 = n13 space refl
none_on_spaces (call.ForceOut space) revealed n1 n2 n3 n4 n5 n6 n7 n8 n9 n10 n11 n12 n13 n14 = n14 space refl
none_on_spaces other revealed n1 n2 n3 n4 n5 n6 n7 n8 n9 n10 n11 n12 n13 n14 = absurd (true≢false (sym revealed))

-- What the frames show.

-- where nothing is revealed
pub nothing_revealed : (result : Result Reply Halt) → OnOk result (Unit {0})
nothing_revealed (Ok reply) = tt
nothing_revealed (Err halt) = tt

-- of the space's pages
pub of_pages : (P : ℕ → ℕ → Type 0) (spaces : List Space) (handle : ℕ) (result : Result Reply Halt) → ((s : Space) → space_at spaces handle ≡ Some s → OnOk result (P s.first (s.first + s.pages))) → OnOk result (OfPages P spaces handle)
of_pages P spaces handle (Ok reply) each = each
of_pages P spaces handle (Err halt) each = tt
