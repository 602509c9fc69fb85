-- What a scan of one line leads to, by how it ended.
use Rattle.std.proofs.Common.{◌≡◌, ◌≢◌, inl, inr, ℕ, ◌+◌, ◌-◌, ◌<◌, ◌≤◌, true, false, nat_le, List, [], ◌∷◌, ◌++◌, length, take, Option, Some, None, Ok, refl, sym, ap, ◌∙◌, subst, arith}
use Rattle.std.proofs.lemmas.List.{get_or-take, length-take-le, length_push}
use Rattle.std.proofs.lemmas.Bool.{cases_lt}
use Rattle.std.proofs.lemmas.Grind.{same_number_lists}
use Rattle.trace_io.specs.Scan.{Keeps255, Scans, EndsBy}
use Rattle.trace_io.specs.Progress.{Progress}
use Rattle.trace_io.specs.Taken.{TakesSaid}
use Rattle.trace_io.specs.Held.{TakesText, Holds, held_size}
use Rattle.trace_io.specs.declared.progress.Stop.{Stop}
use Rattle.trace_io.specs.declared.progress.Stop.TheVariants as stop
use Rattle.trace_io.specs.declared.scan.Ending.TheVariants as ending
use Rattle.trace_io.specs.declared.scan.Scan.{Scan}

-- the buffer has the line
take-held : (buffer line : List ℕ) (size : ℕ) → length buffer ≡ 255 → length line ≡ size → size ≤ 255 → Keeps255 buffer line → take size buffer ≡ line
take-held buffer line size room is fits keeps =
    let long : length (take size buffer) ≡ size = length-take-le size buffer (omega arith) in
    same_number_lists _ line (long ∙ sym is) (λ k l. let below : k < size = omega arith in rw (get_or-take size buffer k 0 below) (keeps k (omega arith) (omega arith)))

-- a line that was taken, by whether it is held
Holds-line : (buffer line : List ℕ) (size : ℕ) (a c : Option (List ℕ)) (p q : Progress) → length buffer ≡ 255 → length line ≡ size → Keeps255 buffer line → TakesText line a c p q
    → Holds (Ok (held_size size)) buffer a c p q
Holds-line buffer line size a c p q room is keeps takes =
    elim (cases_lt 255 size) [
      | inl long ↦ let past : nat_le size 255 ≡ false = grind arith in rw past (line, omega arith, takes)
      | inr short ↦
          let fits : nat_le size 255 ≡ true = grind arith in
          let same = take-held buffer line size room is short keeps in
          rw fits (subst (λ (l : List ℕ). TakesText l a c p q) (sym same) takes)
    ]

abbrev progress : ℕ → ℕ → Option Stop → Progress
progress taken limit stopped = record { taken = taken; limit = limit; stopped = stopped }

module _ (buffer : List ℕ) (scan : Scan) (a c : Option (List ℕ)) (p q : Progress) (room : length buffer ≡ 255) (scans : Scans a c buffer (p.limit - p.taken) scan) (within : p.taken ≤ p.limit) where
  -- at its line feed
  pub Holds-feed : scan.end ≡ ending.Feed → q ≡ progress (p.taken + (scan.size + 1)) p.limit None → Holds (Ok (held_size scan.size)) buffer a c p q
  Holds-feed end is =
      let ends : EndsBy ending.Feed scans.line (p.limit - p.taken) a c = rw end at scans.ends in
      let taken : q.taken ≡ p.taken + (scan.size + 1) = ap (λ (x : Progress). x.taken) is in
      let limit : q.limit ≡ p.limit = ap (λ (x : Progress). x.limit) is in
      let stopped : q.stopped ≡ None = ap (λ (x : Progress). x.stopped) is in
      let longer : length (scans.line ++ 10 ∷ []) ≡ scan.size + 1 = omega (arith, length_push scans.line 10, scans.size) in
      Holds-line buffer scans.line scan.size a c p q room scans.size scans.keeps record {
        misses = scans.misses;
        bytes = scans.line ++ 10 ∷ [];
        took = ends.0;
        ends = inl (refl, stopped);
        taken = omega (arith, taken, longer);
        within = omega (arith, taken, limit, ends.1, scans.size, within);
        limit = limit;
      }

  -- at the source's end, with a byte
  pub Holds-last : scan.end ≡ ending.Source → scan.size ≢ 0 → q ≡ progress (p.taken + scan.size) p.limit (Some stop.End) → Holds (Ok (held_size scan.size)) buffer a c p q
  Holds-last end some is =
      let ends : EndsBy ending.Source scans.line (p.limit - p.taken) a c = rw end at scans.ends in
      let taken : q.taken ≡ p.taken + scan.size = ap (λ (x : Progress). x.taken) is in
      let limit : q.limit ≡ p.limit = ap (λ (x : Progress). x.limit) is in
      let stopped : q.stopped ≡ Some stop.End = ap (λ (x : Progress). x.stopped) is in
      Holds-line buffer scans.line scan.size a c p q room scans.size scans.keeps record {
        misses = scans.misses;
        bytes = scans.line;
        took = ends.0;
        ends = inr (refl, omega (arith, scans.size, some), ends.1, stopped, omega (arith, taken, limit, ends.2, scans.size, within));
        taken = omega (arith, taken, scans.size);
        within = omega (arith, taken, limit, ends.2, scans.size, within);
        limit = limit;
      }

-- a line that was taken, and what it says
pub TakesSaid-text : {A : Type 0} (meaning : List ℕ → Option A) (line : List ℕ) (item : Option A) (a c : Option (List ℕ)) (p q : Progress) → item ≡ meaning line → TakesText line a c p q
    → TakesSaid meaning item a c p q
TakesSaid-text meaning line item a c p q is takes = record {
  line = line;
  says = is;
  misses = takes.misses;
  bytes = takes.bytes;
  took = takes.took;
  ends = takes.ends;
  taken = takes.taken;
  within = takes.within;
  limit = takes.limit;
}
