-- No call of a trial makes a file permanent.
use Rattle.std.proofs.Common.{◌≡◌, ℕ, ◌+◌, ◌*◌, ◌%◌, Bool, true, false, List, [], ◌∷◌, ◌++◌, map, filter, Option, Some, None, refl, sym, ◌∙◌, subst}
use Rattle.std.specs.Prelude.{nat_lt, ◌==◌, is_none, if◌then◌else◌}
use Rattle.std.specs.List.{AllByRecursion, range_with_len}
use Rattle.std.specs.Option.{option_map_or}
use Rattle.std.proofs.lemmas.List.Sums.{fold-append}
use Rattle.labelled_disk.specs.FilesOn.{put_file}
use Rattle.flat_machine.specs.declared.call.Call.{Call}
use Rattle.flat_machine.specs.declared.call.Call.TheVariants.{Create, MakeSpace, Units, Map, Load, Store, Activate, Deactivate, ForceOut}
use Rattle.flat_machine.specs.At.{Spot, spot_at}
use Rattle.flat_machine.specs.File.{File}
use Rattle.flat_machine.specs.Machine.{Machine}
use Rattle.flat_machine.specs.Next.{change, change_file, new_file, next, store_byte, store_bytes, with_byte, without_shown_within}
use Rattle.flat_machine.specs.Refusal.{refusal}
use Rattle.flat_machine.specs.declared.space.Space.{Space}
use Rattle.flat_machine.specs.Space.{space_at}
use Rattle.trace_maker.specs.Calls.{address_by, advice_by, bytes_by, call_by, call_of, count_by, space_by}
use Rattle.trace_maker.specs.Drawn.{value}
use Rattle.pilot_top.specs.Trial.{after_calls, drawn_calls, empty_volume, first_calls}

-- no file is permanent
abbrev AreTemporary : List File → Type 0
AreTemporary files = AllByRecursion (λ f. f.permanent ≡ false) files

-- so it is after the call, where it was before
abbrev Keeps : Call → Type 0
Keeps c = (m : Machine) → AreTemporary m.files → AreTemporary (next m c).files

chosen : {X : Type 0} (P : X → Type 0) (b : Bool) (x y : X) → P x → P y → P (if b then x else y)
chosen P true x y p q = p
chosen P false x y p q = q

-- a call that changes the files so
keeps : (c : Call) → ((m : Machine) → AreTemporary m.files → AreTemporary (change m c).files) → Keeps c
keeps c evidence_seen m temps = chosen (λ (n : Machine). AreTemporary n.files) (is_none (refusal m c)) (change m c) m (evidence_seen m temps) temps

put : (f : File) (files : List File) → f.permanent ≡ false → AreTemporary files → AreTemporary (put_file f files)
put f [] temp temps = (temp, tt)
put f (g ∷ gs) temp temps =
    chosen AreTemporary (nat_lt f.id g.id) (f ∷ g ∷ gs) (if f.id == g.id then f ∷ gs else g ∷ put_file f gs) (temp, temps)
    (chosen AreTemporary (f.id == g.id) (f ∷ gs) (g ∷ put_file f gs) (temp, temps.1) (temps.0, put f gs temp temps.1))

changed : (id : ℕ) (to : File → File) → ((f : File) → (to f).permanent ≡ f.permanent) → (files : List File) → AreTemporary files → AreTemporary (change_file id to files)
changed id to same [] temps = tt
changed id to same (f ∷ fs) temps = (
  chosen (λ (g : File). g.permanent ≡ false) (f.id == id) (to f) f (same f ∙ temps.0) temps.0,
  changed id to same fs temps.1,
)

stored : (spaces : List Space) (address : ℕ) (bytes : List ℕ) (files : List File) → AreTemporary files → AreTemporary (store_bytes spaces address bytes files)
stored spaces address [] files temps = temps
stored spaces address (b ∷ bs) files temps = stored spaces (address + 1) bs (store_byte spaces address b files) (one (spot_at spaces address))
  where
    one : (spot : Option Spot) → AreTemporary (option_map_or (λ (s : Spot). change_file s.file (with_byte s b) files) spot files)
    one None = temps
    one (Some s) = changed s.file (with_byte s b) (λ f. refl) files temps

forced : (m : Machine) (space : ℕ) → AreTemporary m.files → AreTemporary (change m (ForceOut space)).files
forced m space temps = one (space_at m.spaces space)
  where
    one : (s : Option Space) → AreTemporary (option_map_or (λ (x : Space). record m { unforced = without_shown_within m.spaces x m.unforced }) s m).files
    one None = temps
    one (Some s) = temps

kept_by : (v w u : ℕ) → Keeps (call_by v w u)
kept_by v w u =
    chosen Keeps (nat_lt (v % 8) 3) (Load (address_by w) (count_by u)) (if nat_lt (v % 8) 6 then Store (address_by w) (bytes_by u) else (if v % 8 == 6 then advice_by u (space_by w) else Units (space_by w) (1 + u % 16)))
    (keeps (Load (address_by w) (count_by u)) (λ m temps. temps))
    (chosen Keeps (nat_lt (v % 8) 6) (Store (address_by w) (bytes_by u)) (if v % 8 == 6 then advice_by u (space_by w) else Units (space_by w) (1 + u % 16))
    (keeps (Store (address_by w) (bytes_by u)) (λ m temps. stored m.spaces (address_by w) (bytes_by u) m.files temps))
    (chosen Keeps (v % 8 == 6) (advice_by u (space_by w)) (Units (space_by w) (1 + u % 16))
    (chosen Keeps (u % 3 == 0) (Activate (space_by w)) (if u % 3 == 1 then Deactivate (space_by w) else ForceOut (space_by w))
    (keeps (Activate (space_by w)) (λ m temps. temps))
    (chosen Keeps (u % 3 == 1) (Deactivate (space_by w)) (ForceOut (space_by w)) (keeps (Deactivate (space_by w)) (λ m temps. temps)) (keeps (ForceOut (space_by w)) (λ m temps. forced m (space_by w) temps))))
    (keeps (Units (space_by w) (1 + u % 16)) (λ m temps. temps))))

kept_of : (seed : ℕ) (is : List ℕ) (m : Machine) → AreTemporary m.files → AreTemporary (after_calls m (map (call_of seed) is)).files
kept_of seed [] m temps = temps
kept_of seed (i ∷ is) m temps = kept_of seed is (next m (call_of seed i)) (kept_by (value seed (3 * i)) (value seed (3 * i + 1)) (value seed (3 * i + 2)) m temps)

kept_all : (calls : List Call) → AllByRecursion Keeps calls → (m : Machine) → AreTemporary m.files → AreTemporary (after_calls m calls).files
kept_all [] all m temps = temps
kept_all (c ∷ cs) all m temps = kept_all cs all.1 (next m c) (all.0 m temps)

first_kept : AllByRecursion Keeps first_calls
first_kept = (create, (create, (create, (create, (space, (space, (space, (space, (window 1 4294967297, (window 2 4294967298, (window 3 4294967299, (window 4 4294967300, tt))))))))))))
  where
    create : Keeps (Create 16 0)
    create = keeps (Create 16 0) (λ m temps. put (new_file m 16 0) m.files refl temps)

    space : Keeps (MakeSpace 0 16 None)
    space = keeps (MakeSpace 0 16 None) (λ m temps. temps)

    window : (s id : ℕ) → Keeps (Map s id 0 true)
    window s id = keeps (Map s id 0 true) (λ m temps. temps)

none_permanent : (files : List File) → AreTemporary files → filter (λ (f : File). f.permanent) files ≡ []
none_permanent [] temps = refl
none_permanent (f ∷ fs) temps = out f.permanent temps.0 (none_permanent fs temps.1)
  where
    out : (b : Bool) → b ≡ false → filter (λ (g : File). g.permanent) fs ≡ [] → (if b then f ∷ filter (λ (g : File). g.permanent) fs else filter (λ (g : File). g.permanent) fs) ≡ []
    out true is none = absurd (cc is)
    out false is none = none

-- a trial leaves no permanent file
pub none_left : (sectors seed calls : ℕ) → filter (λ (f : File). f.permanent) (after_calls (empty_volume sectors) (first_calls ++ drawn_calls seed calls)).files ≡ []
none_left sectors seed calls =
    let m = empty_volume sectors in
    none_permanent (after_calls m (first_calls ++ drawn_calls seed calls)).files
    (subst (λ (n : Machine). AreTemporary n.files) (sym (fold-append next m first_calls (drawn_calls seed calls)))
    (kept_of seed (range_with_len 0 calls) (after_calls m first_calls) (kept_all first_calls first_kept m tt)))
