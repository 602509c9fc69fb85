-- A root that is written over a root with the same serial and counter.
use Rattle.std.proofs.Common.{◌≡◌, ℕ, false, List, drop, refl, sym, ◌∙◌}
use Rattle.volume_root.specs.declared.root.Root.{Root}
use Rattle.volume_root.specs.RootPage.{root_bytes}
use Rattle.cut_laws.specs.RootWrites.{RootIsWhole}
use Rattle.cut_laws.proofs.RootLemmas.{one_root}

-- what stands after the first unit
rest : ℕ → ℕ → List ℕ
rest serial counter = drop 16 (root_bytes (record { version = 0; clean = false; sectors = 0; serial = serial; counter = counter }))

rest_of : (root : Root) → drop 16 (root_bytes root) ≡ rest root.serial root.counter
unfolding rest
rest_of root = refl

pub root_is_whole : RootIsWhole
root_is_whole d old new e here serials counters cut =
    one_root d (root_bytes old) (root_bytes new) e here (rest_of new ∙ (λ x. rest (serials x) (counters x)) ∙ sym (rest_of old)) cut
