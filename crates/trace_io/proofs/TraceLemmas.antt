-- A whole trace that was read line by line.
use Rattle.std.proofs.Common.{◌≡◌, ℕ, true, inl, inr, Ok, Err, List, [], ◌∷◌, ◌++◌, ◌+◌, ◌<◌, length, Option, Some, None, refl, sym, ap, ◌∙◌, ◌≤◌, arith, append_assoc, length-append, IfSome}
use Rattle.std.specs.Io.KnownBytes.{IsAtEnd}
use Rattle.std.proofs.KnownBytes.{Consumes-trans}
use Rattle.flat_machine.specs.declared.call.Call.{Call}
use Rattle.trace_io.specs.Reading.{is_last}
use Rattle.trace_io.specs.Progress.{Progress}
use Rattle.trace_io.specs.Course.{HasRead, HasReadAll, HasReadWhole}
use Rattle.trace_io.specs.Trace.{TakesPrefix, Reads, TakesItem, TakesSomeLines}
use Rattle.trace_io.specs.Lines.{TakesLine}
use Rattle.trace_io.specs.declared.progress.Stop.{Stop}
use Rattle.trace_io.specs.declared.progress.Stop.TheVariants as stop
use Rattle.trace_io.proofs.CourseLemmas.{HasRead-last, HasRead-end, HasRead-part, HasRead-long}

-- all lines
pub Reads-all : (a c : Option (List ℕ)) (taken limit : ℕ) (items : List (Option Call)) → HasReadAll a c taken limit items → IfSome a (λ b. Reads stop.End limit b c items)
Reads-all None c taken limit items all = tt
Reads-all (Some b) c taken limit items all = (sym all.items_are, all.rest_is, all.short)

pub Reads-prefix : (b : List ℕ) (c : Option (List ℕ)) (taken : ℕ) (items : List (Option Call)) → HasReadWhole (Some b) c taken items → (prefix : TakesPrefix b c items) × (length prefix.bytes ≡ taken)
Reads-prefix b None taken items whole = absurd whole.took
Reads-prefix b (Some s) taken items whole =
    (record { bytes = whole.bytes; rest = s; all = whole.took; left_is = refl; items_are = sym whole.items_are }, sym whole.count)

-- what was read when no more lines come
pub Reads-stop : (a b c : Option (List ℕ)) (p q : Progress) (items : List (Option Call)) (why : Stop) (limit : ℕ) → HasRead a b p items → TakesItem (Err why) b c p q → p.limit ≡ limit
    → IfSome a (λ bytes. Reads why limit bytes c items)
Reads-stop None b c p q items why limit read takes is = tt
Reads-stop (Some bytes) b c p q items stop.End limit read (inl ended) is =
    rw (sym is) (Reads-all (Some bytes) c p.taken p.limit items (HasRead-end (Some bytes) b c p items read ended.0 ended.1 ended.2 ended.3))
Reads-stop (Some bytes) b c p q items stop.End limit read (inr ended) is =
    let all : HasReadAll (Some bytes) b p.taken p.limit items × IsAtEnd b = rw ended.0 at read.goes_on in
    rw (sym is, ended.1) (Reads-all (Some bytes) b p.taken p.limit items all.0)
Reads-stop (Some bytes) b c p q items stop.ReadFault limit read takes is =
    let prefix = Reads-prefix bytes c q.taken items (HasRead-part (Some bytes) b c p q stop.ReadFault items read takes.0 takes.1) in
    (prefix.0, omega (arith, prefix.1, takes.2, takes.1.limit, is))
Reads-stop (Some bytes) b c p q items stop.Long limit read takes is =
    let prefix = Reads-prefix bytes c q.taken items (HasRead-part (Some bytes) b c p q stop.Long items read takes.0 takes.1) in
    let same : limit ≡ q.limit = sym is ∙ sym takes.1.limit in
    (prefix.0, prefix.1 ∙ (takes.2 ∙ sym same), rw same (HasRead-long bytes b c p q items read takes.0 takes.1 takes.2))

-- what was read with the line that ends the trace
pub Reads-last : (a b c : Option (List ℕ)) (p q : Progress) (items all : List (Option Call)) (item : Option Call) (limit : ℕ) → HasRead a b p items → TakesItem (Ok item) b c p q → p.limit ≡ limit
    → is_last item ≡ true → all ≡ items ++ item ∷ [] → IfSome a (λ bytes. Reads stop.End limit bytes c all)
Reads-last a b c p q items all item limit read takes is last made =
    let same : limit ≡ q.limit = sym is ∙ sym takes.1.limit in
    rw (same, made) (Reads-all a c q.taken q.limit (items ++ item ∷ []) (HasRead-last a b c p q items item read takes.0 takes.1 last))

-- the lines that were taken, with one that has no place
pub TakesSomeLines-line : (a b c : Option (List ℕ)) (p q : Progress) (items : List (Option Call)) (item : Option Call) (limit : ℕ) → HasRead a b p items → TakesLine item b c p q → p.limit ≡ limit
    → IfSome a (λ bytes. TakesSomeLines limit bytes c)
TakesSomeLines-line None b c p q items item limit read takes is = tt
TakesSomeLines-line (Some bytes) b None p q items item limit read takes is = absurd (Consumes-trans (Some bytes) b None read.bytes takes.bytes read.took takes.took)
TakesSomeLines-line (Some bytes) b (Some s) p q items item limit read takes is =
    let taken = read.bytes ++ takes.bytes in
    let size : length taken ≡ length read.bytes + length takes.bytes = length-append read.bytes takes.bytes in
    let all : bytes ≡ taken ++ s = Consumes-trans (Some bytes) b (Some s) read.bytes takes.bytes read.took takes.took in
    let within : length taken ≤ limit = omega (arith, size, takes.taken, read.count, takes.within, takes.limit, is) in
    elim takes.ends [
      | inl fed ↦
          let some : 0 < length taken = omega (arith, size, ap length fed.0, length-append takes.line (10 ∷ [])) in
          let feed : taken ≡ (read.bytes ++ takes.line) ++ 10 ∷ [] = ap (λ r. read.bytes ++ r) fed.0 ∙ sym (append_assoc read.bytes takes.line (10 ∷ [])) in
          record { bytes = taken; rest = s; all = all; left_is = refl; some = some; within = within; ends = inl (read.bytes ++ takes.line, feed) }
      | inr ended ↦
          let some : 0 < length taken = omega (arith, size, ap length ended.0, ended.1) in
          record { bytes = taken; rest = s; all = all; left_is = refl; some = some; within = within; ends = inr ended.2 }
    ]
