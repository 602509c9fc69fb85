-- What was put into a sink.
use Rattle.std.proofs.Common.{◌≡◌, inl, inr, ℕ, List, [], ◌++◌, Option, Some, None, Result, Ok, Err, OnOk, OnErr, ap, sym, subst, append-nil}
use Rattle.std.specs.Io.KnownBytes.{Appends}
use Rattle.trace_io.specs.Stream.{IsPrefixOf}
use Rattle.trace_io.specs.declared.stream.SinkFault.{SinkFault}
use Rattle.labelled_disk.specs.declared.evidence.Evidence.{Evidence}
use Rattle.labelled_disk.specs.State.{DiskState}
use Rattle.filer_kernel.specs.Evidence.{IsEvident}
use Rattle.pilot_top.specs.Headline.{HasWritten, IsLeftOpen, RevealsDamage}
use Rattle.pilot_top.specs.Last.{last_line, Puts}
use Rattle.pilot_top.specs.declared.last.Cause.TheVariants as cause

-- a text was put, or a prefix of it
pub puts : (result : Result (Unit {0}) SinkFault) (failed : Type 0) (u v : Option (List ℕ)) (line last : List ℕ) → line ≡ last
    → OnOk result (Appends u v line) → OnErr result ((prefix : List ℕ) × IsPrefixOf prefix line × Appends u v prefix) → OnErr result failed → Puts failed u v last
puts (Ok done) failed u v line last same ok err cause = inl (subst (λ l. Appends u v l) same ok)
puts (Err fault) failed u v line last same ok err cause = inr (cause, err.0, subst (λ l. IsPrefixOf err.0 l) same err.1, err.2)

revealed_bytes : (t : List ℕ) (u : Option (List ℕ)) (out : List ℕ) → Appends (Some t) u out → u ≡ Some (t ++ out)
revealed_bytes t None out wrote = absurd wrote
revealed_bytes t (Some y) out wrote = ap Some wrote

-- a last line that was put where the sink reveals what it took
pub put_alone : (failed : Type 0) (t : List ℕ) (u v : Option (List ℕ)) (last : List ℕ) → u ≡ Some t → Puts failed u v last → HasWritten failed t v last
put_alone failed t u v last revealed put = wrote (subst (λ (o : Option (List ℕ)). Puts failed o v last) revealed put)
  where
    wrote : Puts failed (Some t) v last → HasWritten failed t v last
    wrote (inl all) = inl (revealed_bytes t v last all)
    wrote (inr some) = inr (some.0, some.1, some.2, revealed_bytes t v some.1 some.3)

-- the damage was revealed before any reply
abbrev pub damage_alone : (failed : Type 0) (t : List ℕ) (u v : Option (List ℕ)) (e : Evidence) (disk : DiskState) → IsEvident disk e → IsLeftOpen disk → u ≡ Some t → Puts failed u v (last_line (cause.Damaged e)) → RevealsDamage t v failed disk
damage_alone failed t u v e disk evidence_seen open_still revealed put = record {
  replies = [];
  evidence = e;
  evidence_seen = evidence_seen;
  left_open = open_still;
  written = subst (λ (x : List ℕ). HasWritten failed x v (last_line (cause.Damaged e))) (sym (append-nil t)) (put_alone failed t u v (last_line (cause.Damaged e)) revealed put);
}
