-- What is said of the command that was found is said of the one that the words mean.
use Rattle.std.proofs.Common.{◌≡◌, ℕ, subst}
use Rattle.command_words.specs.declared.words.Command.{Command}
use Rattle.command_words.specs.declared.words.Command.TheVariants as command
use Rattle.pilot_top.specs.Making.{Formatted}
use Rattle.pilot_top.specs.Trying.{Tried}
use Rattle.pilot_top.specs.World.{World}
use Rattle.pilot_top.specs.declared.status.Status.{Status}

module _ (status : Status) (before after : World) where
  pub formatted_same : {s k t l : ℕ} → ◌≡◌ {A = Command} (command.Format s k) (command.Format t l) → Formatted s k status before after → Formatted t l status before after
  formatted_same {s} {k} {t} {l} same makes =
      let serial : s ≡ t = cc same in
      let counter : k ≡ l = cc same in
      subst (λ (n : ℕ). Formatted n l status before after) serial (subst (λ (n : ℕ). Formatted s n status before after) counter makes)

  pub tried_same : {s n f t m h : ℕ} → ◌≡◌ {A = Command} (command.Trial s n f) (command.Trial t m h) → Tried s n status before after → Tried t m status before after
  tried_same {s} {n} {f} {t} {m} {h} same tries =
      let seed : s ≡ t = cc same in
      let calls : n ≡ m = cc same in
      subst (λ (k : ℕ). Tried k m status before after) seed (subst (λ (k : ℕ). Tried s k status before after) calls tries)
