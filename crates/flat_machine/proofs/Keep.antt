-- A machine in parts: its files, its spaces, the windows on the files, and the unforced pages.
use Rattle.std.proofs.Common.{◌≡◌, ◌≤◌, Bool, true, false, cond, List, [], ◌∷◌, filter, Option, Some, None, refl, subst}
use Rattle.std.specs.Prelude.{IfSome, IsTrue, is_none, if◌then◌else◌}
use Rattle.std.specs.Option.{option_map_or}
use Rattle.std.specs.List.{list_any, AllByRecursion}
use Rattle.flat_machine.specs.declared.call.Call.{Call}
use Rattle.flat_machine.specs.declared.call.Refusal.{Refusal}
use Rattle.flat_machine.specs.File.{File, file_at}
use Rattle.flat_machine.specs.Space.{Space, Window, FilePage}
use Rattle.flat_machine.specs.Machine.{Machine, IsWindow, is_shown_writable}
use Rattle.flat_machine.specs.IsMachine.{IsMachine, AreOnce}
use Rattle.flat_machine.specs.Refusal.{refusal}
use Rattle.flat_machine.specs.Next.{change, is_same_page}
use Rattle.flat_machine.proofs.Lists.{In, all_in, in_all, in_filter, any_not, not_any}
use Rattle.flat_machine.proofs.FileLemmas.{AreFiles, Follows, window_kept}
use Rattle.flat_machine.specs.Spaces.{AreAlone}
use Rattle.flat_machine.proofs.SpaceLemmas.{AreSpaces}

-- each window is one on its file
abbrev pub Linked : List File → List Space → Type 0
Linked fs ss = AllByRecursion (λ s. IfSome s.window (IsWindow fs s.pages)) ss

-- each of the pages is shown by a writable window
abbrev pub Shown : List Space → List FilePage → Type 0
Shown ss us = AllByRecursion (λ u. IsTrue (is_shown_writable ss u)) us

pub join : (m : Machine) → (1 ≤ m.serial) × (m.serial ≤ 4294967295) → (1 ≤ m.counter) × (m.counter ≤ 4294967295)
    → AreFiles m.serial m.counter m.capacity m.files → AreSpaces m.spaces → AreAlone m.spaces → Linked m.files m.spaces → Shown m.spaces m.unforced → AreOnce m.unforced → IsMachine m
join m serial counter files spaces alone linked shown once = record {
  serial_fits = serial;
  counter_fits = counter;
  ids_rise = files.rise;
  ids_given = files.given;
  whole_files = files.whole;
  room = files.room;
  has_root = spaces.has_root;
  handles_rise = spaces.rise;
  whole_spaces = spaces.whole;
  siblings_apart = spaces.apart;
  one_mapped_on_a_path = spaces.path;
  whole_windows = linked;
  anonymous_alone = alone;
  unforced_shown = shown;
  unforced_once = once;
}

pub files_of : (m : Machine) → IsMachine m → AreFiles m.serial m.counter m.capacity m.files
files_of m h = record { rise = h.ids_rise; given = h.ids_given; whole = h.whole_files; room = h.room }

pub spaces_of : (m : Machine) → IsMachine m → AreSpaces m.spaces
spaces_of m h = record {
  has_root = h.has_root;
  rise = h.handles_rise;
  whole = h.whole_spaces;
  apart = h.siblings_apart;
  path = h.one_mapped_on_a_path;
}

-- a refused call changes nothing
pub refused_or : (m : Machine) (call : Call) → IsMachine m → (refusal m call ≡ None → IsMachine (change m call))
    → IsMachine (if is_none (refusal m call) then change m call else m)
refused_or m call h f = either (refusal m call) refl
  where
    either : (o : Option Refusal) → refusal m call ≡ o → IsMachine (if is_none o then change m call else m)
    either None e = f e
    either (Some word) e = h

-- a change at a space that is there
pub at_there : (m : Machine) (o : Option Space) (f : Space → Machine) → IsMachine m → ((s : Space) → o ≡ Some s → IsMachine (f s)) → IsMachine (option_map_or f o m)
at_there m None f h k = h
at_there m (Some s) f h k = k s refl

-- Windows.

pub if_window : (P : Window → Type 0) (o : Option Window) → ((w : Window) → o ≡ Some w → P w) → IfSome o P
if_window P None f = tt
if_window P (Some w) f = f w refl

pub window_at : (fs : List File) (ss : List Space) → Linked fs ss → (s : Space) (w : Window) → In s ss → s.window ≡ Some w → IsWindow fs s.pages w
window_at fs ss h s w i e = subst (λ (o : Option Window). IfSome o (IsWindow fs s.pages)) e (all_in _ ss h s i)

pub linked_by : (fs : List File) (ss : List Space) → ((s : Space) (w : Window) → In s ss → s.window ≡ Some w → IsWindow fs s.pages w) → Linked fs ss
linked_by fs ss f = in_all _ ss (λ s i. if_window (IsWindow fs s.pages) s.window (λ w e. f s w i e))

-- the windows on some files are windows on others
pub relinked : (fs gs : List File) (ss : List Space) → Linked fs ss
    → ((s : Space) (w : Window) → In s ss → s.window ≡ Some w → (f : File) → file_at fs w.file ≡ Some f → (g : File) × (file_at gs w.file ≡ Some g) × Follows w f g)
    → Linked gs ss
relinked fs gs ss h follow = linked_by gs ss (λ s w i e. window_kept fs gs s.pages w (window_at fs ss h s w i e) (λ f is. follow s w i e f is))

-- Other files, the same spaces.
pub with_files : (m : Machine) (fs : List File) → AreFiles m.serial m.counter m.capacity fs → Linked fs m.spaces → IsMachine m → IsMachine (record m { files = fs })
with_files m fs files linked h = join (record m { files = fs }) h.serial_fits h.counter_fits files (spaces_of m h) h.anonymous_alone linked h.unforced_shown h.unforced_once

-- Other spaces, the same files.
pub with_spaces : (m : Machine) (ss : List Space) → AreSpaces ss → AreAlone ss → Linked m.files ss → Shown ss m.unforced → IsMachine m → IsMachine (record m { spaces = ss })
with_spaces m ss spaces alone linked shown h = join (record m { spaces = ss }) h.serial_fits h.counter_fits (files_of m h) spaces alone linked shown h.unforced_once

-- Other unforced pages.
pub with_unforced : (m : Machine) (us : List FilePage) → Shown m.spaces us → AreOnce us → IsMachine m → IsMachine (record m { unforced = us })
with_unforced m us shown once h = join (record m { unforced = us }) h.serial_fits h.counter_fits (files_of m h) (spaces_of m h) h.anonymous_alone h.whole_windows shown once

-- some pages are forced
pub shown_filter : (ss : List Space) (p : FilePage → Bool) (us : List FilePage) → Shown ss us → Shown ss (filter p us)
shown_filter ss p us h = in_all _ (filter p us) (λ u i. all_in _ us h u (in_filter p us u i).0)

fewer_any : (q p : FilePage → Bool) (us : List FilePage) → list_any q us ≡ false → list_any q (filter p us) ≡ false
fewer_any q p us e = any_not q (filter p us) (λ u i. not_any q us e u (in_filter p us u i).0)

pub once_filter : (p : FilePage → Bool) (us : List FilePage) → AreOnce us → AreOnce (filter p us)
once_filter p [] h = tt
once_filter p (u ∷ us) h = either (p u) (once_filter p us h.1)
  where
    either : (b : Bool) → AreOnce (filter p us) → AreOnce (cond b (u ∷ filter p us) (filter p us))
    either true more = (fewer_any (is_same_page u) p us h.0, more)
    either false more = more
