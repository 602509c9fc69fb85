-- What follows from a fact for each outcome.
use Rattle.std.proofs.Common.{Ok, Err, IfOk, IfErr, OnOk}
use Rattle.std.specs.declared.result.Result.{Result}
use Rattle.alloc_map.specs.declared.error.AllocError.{AllocError}
use Rattle.alloc_map.specs.declared.error.AllocError.TheVariants.{NoRoom, Mem}
use Rattle.alloc_map.specs.Runs.{IfMem}

pub ok_wider : {T E : Type 0} (r : Result T E) (P Q : T → Type 0) → ((x : T) → P x → Q x) → IfOk r P → IfOk r Q
ok_wider (Ok x) P Q f p = f x p
ok_wider (Err e) P Q f p = p

pub on_ok_wider : {T E : Type 0} (r : Result T E) (P Q : Type 0) → (P → Q) → OnOk r P → OnOk r Q
on_ok_wider (Ok x) P Q f p = f p
on_ok_wider (Err e) P Q f p = p

pub err_wider : {T E : Type 0} (r : Result T E) (P Q : E → Type 0) → ((e : E) → P e → Q e) → IfErr r P → IfErr r Q
err_wider (Ok x) P Q f p = p
err_wider (Err e) P Q f p = f e p

pub mem_wider : {E : Type 0} (P Q : E → Type 0) → ((e : E) → P e → Q e) → (e : AllocError E) → IfMem P e → IfMem Q e
mem_wider P Q f NoRoom p = p
mem_wider P Q f (Mem e) p = f e p
