-- Each call keeps a machine.
use Rattle.flat_machine.specs.declared.call.Call.TheVariants.{Create, Delete, Attributes, SetSize, MakePermanent, MakeImmutable, Next, Volume, MakeSpace, RemoveSpace, Place, Units, Map, MapAnonymous, Unmap, Protect, Load, Store, Activate, Deactivate, Kill, ForceOut, Close, Halt}
use Rattle.flat_machine.specs.Laws.{NextKeepsMachine}
use Rattle.flat_machine.proofs.Keep.{refused_or}
use Rattle.flat_machine.proofs.KeepFiles.{delete_keeps, permanent_keeps, immutable_keeps, size_keeps, kill_keeps}
use Rattle.flat_machine.proofs.KeepNew.{create_keeps}
use Rattle.flat_machine.proofs.KeepSpaces.{make_keeps, remove_keeps}
use Rattle.flat_machine.proofs.KeepWindows.{units_keeps, map_keeps}
use Rattle.flat_machine.proofs.KeepAnonymous.{map_anonymous_keeps}
use Rattle.flat_machine.proofs.KeepUnmap.{unmap_keeps, protect_keeps}
use Rattle.flat_machine.proofs.KeepPages.{force_keeps, store_keeps, close_keeps}

pub next_keeps_machine : NextKeepsMachine
next_keeps_machine m (Create pages kind) typed h = create_keeps pages kind m typed h
next_keeps_machine m (Delete id) typed h = delete_keeps id m h
next_keeps_machine m (Attributes id) typed h = refused_or m (Attributes id) h (λ e. h)
next_keeps_machine m (SetSize id pages) typed h = size_keeps id pages m h
next_keeps_machine m (MakePermanent id) typed h = permanent_keeps id m h
next_keeps_machine m (MakeImmutable id) typed h = immutable_keeps id m h
next_keeps_machine m (Next id) typed h = h
next_keeps_machine m Volume typed h = h
next_keeps_machine m (MakeSpace parent pages first) typed h = make_keeps parent pages first m h
next_keeps_machine m (RemoveSpace space) typed h = remove_keeps space m h
next_keeps_machine m (Place page) typed h = refused_or m (Place page) h (λ e. h)
next_keeps_machine m (Units space pages) typed h = units_keeps space pages m h
next_keeps_machine m (Map space id page writable) typed h = map_keeps space id page writable m h
next_keeps_machine m (MapAnonymous space) typed h = map_anonymous_keeps space m h
next_keeps_machine m (Unmap space) typed h = unmap_keeps space m h
next_keeps_machine m (Protect space writable) typed h = protect_keeps space writable m h
next_keeps_machine m (Load address count) typed h = refused_or m (Load address count) h (λ e. h)
next_keeps_machine m (Store address bytes) typed h = store_keeps address bytes m typed h
next_keeps_machine m (Activate space) typed h = refused_or m (Activate space) h (λ e. h)
next_keeps_machine m (Deactivate space) typed h = refused_or m (Deactivate space) h (λ e. h)
next_keeps_machine m (Kill space) typed h = kill_keeps space m h
next_keeps_machine m (ForceOut space) typed h = force_keeps space m h
next_keeps_machine m Close typed h = close_keeps m h
next_keeps_machine m Halt typed h = h
