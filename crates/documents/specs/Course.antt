-- Calls in a row, which lead from one engine to another.
use Rattle.std.specs.Prelude.{◌≡◌, Bool, true, false, not, List, [], ◌∷◌}
use Rattle.std.specs.List.{AllByRecursion}
use Rattle.labelled_disk.specs.declared.disk.Disk.{Ghosts}
use Rattle.flat_machine.specs.declared.call.Call.{Call}
use Rattle.flat_machine.specs.declared.call.Call.TheVariants as call
use Rattle.flat_machine.specs.Machine.{Machine}
use Rattle.flat_machine.specs.Next.{next}
use Rattle.embedded.specs.declared.engine.Engine.{Engine}
use Rattle.embedded.specs.Engine.{StandsFor}

-- the call asks, or shows pages that are not written to
abbrev pub is_look : Call → Bool
is_look (call.Attributes id) = true
is_look (call.Next id) = true
is_look (call.MakeSpace parent pages first) = true
is_look (call.RemoveSpace space) = true
is_look (call.Map space id page writable) = not writable
is_look (call.Unmap space) = true
is_look other = false

-- the call marks no file, and deletes none
abbrev pub is_quiet : Call → Bool
is_quiet (call.Create pages kind) = true
is_quiet (call.SetSize id pages) = true
is_quiet (call.Map space id page writable) = true
is_quiet (call.Store address bytes) = true
is_quiet other = is_look other

-- the machine after calls in a row
abbrev pub after : Machine → List Call → Machine
after m [] = m
after m (call ∷ rest) = after (next m call) rest

module _ {D A : Type 0} {G : Ghosts D} where
  -- an engine stands for the machine after calls in a row that pass the test
  pub record Came (test : Call → Bool) (m : Machine) (new : Engine D A G) : Type 0 where
    pub calls : List Call
    pub passed : AllByRecursion (λ call. test call ≡ true) calls
    pub stands : StandsFor new (after m calls)

  -- where an engine stood for a machine, the other stands for that after calls in a row that pass the test
  abbrev pub Led : (Call → Bool) → Engine D A G → Engine D A G → Type 0
  Led test old new = (m : Machine) → StandsFor old m → Came test m new
