-- Words that `clap` refuses.
use Rattle.std.proofs.Common.{◌≡◌, refl, Bool, true, false, Result, Err, sym, ◌∙◌}
use Rattle.clap.specs.declared.error.kind.ErrorKind.{ErrorKind}
use Rattle.clap.specs.declared.error.kind.ErrorKind.TheVariants.{OutOfMemory}
use Rattle.command_words.specs.declared.refusal.Refused.{Refused}
use Rattle.command_words.specs.declared.refusal.Refused.TheVariants as refused

-- words that are refused for another reason than running out of memory are not taken
pub not_taken : {X : Type 0} (kind : ErrorKind) (why : Refused) (taken : Bool) → (taken ≡ true → kind ≡ OutOfMemory) → (kind ≡ OutOfMemory → why ≡ refused.NoMemory)
    → ◌≡◌ {A = Result X Refused} (Err why) (Err refused.Usage) → taken ≡ false
not_taken kind why false passes memory usage = refl
not_taken kind why true passes memory usage =
    let e : refused.NoMemory ≡ why = sym (memory (passes refl)) in
    let f : why ≡ refused.Usage = cc in
    let g : refused.NoMemory ≡ refused.Usage = e ∙ f in
    absurd (cc g)
