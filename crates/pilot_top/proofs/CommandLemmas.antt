-- A command is one command.
use Rattle.std.proofs.Common.{◌≡◌, ℕ, List, Result, Ok, IfOk, ap, length, map, string_bytes, subst}
use Rattle.std.specs.Prelude.{String}
use Rattle.std.specs.declared.alloc.Global.{Global}
use Rattle.command_words.proofs.MeaningLemmas.{one_meaning}
use Rattle.command_words.specs.Meaning.{Means}
use Rattle.command_words.specs.Options.{IsInRange, name_of}
use Rattle.command_words.specs.declared.refusal.Refused.{Refused}
use Rattle.command_words.specs.declared.words.Command.{Command}
use Rattle.command_words.specs.declared.words.Command.TheVariants as command

-- words that mean `processes` mean no `run`
pub no_run : (words : List (String Global)) (frames n queue : ℕ) → Means words (command.Processes frames) → Means words (command.Run n queue) → ⊥
no_run words frames n queue means other = let e = one_meaning (map string_bytes words) (command.Processes frames) (command.Run n queue) means other in cc e

module _ (words : List (String Global)) (result : Result Command Refused) (c : Command) (is : result ≡ Ok c) where
  -- the command is in range
  pub in_range : IfOk result IsInRange → IsInRange c
  in_range range = subst (λ (r : Result Command Refused). IfOk r IsInRange) is range

  module _ (meant : IfOk result (Means words)) where
    -- the words mean it
    pub is_meant : Means words c
    is_meant = subst (λ (r : Result Command Refused). IfOk r (Means words)) is meant

    -- and no other
    pub same_command : (d : Command) → Means words d → c ≡ d
    same_command d means = one_meaning (map string_bytes words) c d is_meant means

    pub same_name : (d : Command) → Means words d → length (name_of c) ≡ length (name_of d)
    same_name d means = ap (λ (e : Command). length (name_of e)) (same_command d means)
