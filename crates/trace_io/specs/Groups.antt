-- The verbs in groups, by what their calls are about.
use Rattle.trace_io.specs.declared.calls.Verb.{Verb}
use Rattle.trace_io.specs.declared.calls.Verb.TheVariants as verb

-- files
abbrev pub IsOfFiles : Verb → Type 0
IsOfFiles verb.Create = Unit {0}
IsOfFiles verb.Delete = Unit {0}
IsOfFiles verb.Attr = Unit {0}
IsOfFiles verb.SetSize = Unit {0}
IsOfFiles verb.Permanent = Unit {0}
IsOfFiles verb.Immutable = Unit {0}
IsOfFiles verb.Next = Unit {0}
IsOfFiles verb.Volume = Unit {0}
IsOfFiles other = ⊥

-- spaces
abbrev pub IsOfSpaces : Verb → Type 0
IsOfSpaces verb.Space = Unit {0}
IsOfSpaces verb.Remove = Unit {0}
IsOfSpaces verb.Where = Unit {0}
IsOfSpaces verb.Units = Unit {0}
IsOfSpaces verb.Activate = Unit {0}
IsOfSpaces verb.Deactivate = Unit {0}
IsOfSpaces verb.Kill = Unit {0}
IsOfSpaces verb.Force = Unit {0}
IsOfSpaces other = ⊥

-- windows and their bytes
abbrev pub IsOfWindows : Verb → Type 0
IsOfWindows verb.Map = Unit {0}
IsOfWindows verb.MapData = Unit {0}
IsOfWindows verb.Unmap = Unit {0}
IsOfWindows verb.Protect = Unit {0}
IsOfWindows verb.Load = Unit {0}
IsOfWindows verb.Store = Unit {0}
IsOfWindows other = ⊥
