-- Windows fit after each edit of the spaces.
use Rattle.std.specs.Prelude.{◌≡◌, ℕ, List, Option, Some, None, IfSome}
use Rattle.flat_machine.specs.declared.space.Window.{Window}
use Rattle.flat_machine.specs.declared.space.Space.{Space}
use Rattle.flat_machine.specs.Space.{space_at}
use Rattle.flat_machine.specs.Next.{put_space, without_space, change_space, set_window}
use Rattle.projection_laws.specs.Spaces.{AreSpaces}
use Rattle.projection_laws.specs.Laws.{WindowFits, WindowsFit}

pub record FitsStay (ss : List Space) : Type 0 where
  pub put : (x : Space) → x.window ≡ None → WindowsFit (put_space x ss)
  pub taken : (handle : ℕ) → WindowsFit (without_space handle ss)
  pub refitted : (handle unit : ℕ) → WindowsFit (change_space handle (λ s. record s { unit = unit }) ss)
  pub shown : (x : Space) (window : Option Window) → space_at ss x.handle ≡ Some x → IfSome window (WindowFits x.pages) → WindowsFit (set_window x.handle window ss)

abbrev pub WindowsStayFit : Type 0
WindowsStayFit = (ss : List Space) → AreSpaces ss → WindowsFit ss → FitsStay ss
