-- The clean flag of a disk is 0, and stays so.
use Rattle.std.proofs.Common.{◌≡◌, inl, inr, ℕ, zero, suc, ◌≤◌, false, List, [], ◌∷◌, length, Option, Some, None, refl, sym, ◌∙◌, ap, subst, arith}
use Rattle.std.specs.Prelude.{slice_get, option_map}
use Rattle.std.proofs.lemmas.Option.{same_Some, none-some}
use Rattle.labelled_disk.specs.declared.disk.DiskWrite.{DiskWrite}
use Rattle.labelled_disk.specs.declared.evidence.Halt.{Halt}
use Rattle.labelled_disk.specs.declared.evidence.Halt.TheVariants as halt
use Rattle.labelled_disk.specs.Permitted.{Permitted}
use Rattle.labelled_disk.specs.CrashState.{crash_state, written}
use Rattle.labelled_disk.specs.Root.{root_page, short_at}
use Rattle.labelled_disk.specs.Sectors.{Sector}
use Rattle.labelled_disk.specs.State.{DiskState}
use Rattle.labelled_disk.specs.WriteRuns.{Appended, after_writes}
use Rattle.labelled_disk.proofs.WriteRunLemmas.{crash_state-end}
use Rattle.frame_pool.specs.Frames.{Slots}
use Rattle.swapper_kernel.specs.Goes.{Pages, Wrote}
use Rattle.volume_root.specs.declared.root.Root.{Root}
use Rattle.volume_root.specs.RootPage.{root_write}
use Rattle.running_words.specs.Session.{AreOpen, BeginWith, WroteIn}
use Rattle.running_words.proofs.FlagLemmas.{open_writes, root_flag, rows_flag}
use Rattle.pilot_engine.specs.Opening.{IsUnset, LeavesOpen, in_use}

-- the sectors that writes have made
made_of : (P : List Sector → Type 0) (a b : DiskState) (writes : List DiskWrite) → Appended writes a b → ((d : List Sector) → a.contents ≡ Some d → P (after_writes writes d)) → (e : List Sector) → b.contents ≡ Some e → P e
made_of P a b writes appended each e revealed = from a.contents refl
  where
    from : (o : Option (List Sector)) → a.contents ≡ o → P e
    from None is = absurd (none-some e (sym (appended.contents ∙ ap (option_map (after_writes writes)) is) ∙ revealed))
    from (Some d) is = subst P (same_Some (after_writes writes d) e (sym (appended.contents ∙ ap (option_map (after_writes writes)) is) ∙ revealed)) (each d is)

-- the root of a volume in use was written
pub unset_root : (root : Root) (a b : DiskState) → Appended (root_write (in_use root) ∷ []) a b → IsUnset b
unset_root root a b appended e revealed = made_of (λ d. short_at (root_page d) 10 ≡ 0) a b (root_write (in_use root) ∷ []) appended (λ d is. root_flag d (in_use root) refl) e revealed

-- writes after each other, of which none sets the flag
pub unset_open : {pages : Pages} {run : List DiskWrite} {a b : DiskState} {s : Slots} → IsUnset a → Wrote pages run a s b → AreOpen run → IsUnset b
unset_open {a = a} {b = b} unset wrote opens e revealed =
    made_of (λ d. short_at (root_page d) 10 ≡ 0) a b wrote.writes wrote.appended (λ d is.
    subst (λ (x : List Sector). short_at (root_page x) 10 ≡ 0) (crash_state-end d wrote.writes)
    (rows_flag wrote.writes d (length wrote.writes) (open_writes wrote.writes (subst AreOpen (sym wrote.labels) opens)) (λ j w here. wrote.permitted d j w is here) (unset d is))) e revealed

-- a call of a session
pub unset_then : {pages : Pages} {a b : DiskState} {s t : Slots} → IsUnset a → WroteIn pages a s b t → IsUnset b
unset_then unset h = unset_open unset h.makes.wrote h.opens

-- a session that halts leaves the volume open
pub leaves_open : (disk : DiskState) → IsUnset disk → (h : Halt) → LeavesOpen disk h
leaves_open disk unset halt.Disk = tt
leaves_open disk unset (halt.Damaged evidence) = unset

-- where the root of a volume in use is the first of some writes, the flag is 0 from then on, whatever stood there
pub begun_flag : (ws : List DiskWrite) (root : Root) → root.clean ≡ false → BeginWith (root_write root) ws → AreOpen ws → (d : List Sector) → ((j : ℕ) (w : DiskWrite) → slice_get ws j ≡ Some w → Permitted (crash_state d ws j) w)
    → (k : ℕ) → 1 ≤ k → k ≤ length ws → short_at (root_page (crash_state d ws k)) 10 ≡ 0
begun_flag ws root clear (inl none) opens d permitted k some few = absurd (let long = ap length none in omega (arith, some, few, long))
begun_flag ws root clear (inr begun) opens d permitted k some few =
    subst (λ (xs : List DiskWrite). short_at (root_page (crash_state d xs k)) 10 ≡ 0) (sym begun.1)
    (from (subst AreOpen begun.1 opens) (subst (λ (xs : List DiskWrite). (j : ℕ) (w : DiskWrite) → slice_get xs j ≡ Some w → Permitted (crash_state d xs j) w) begun.1 permitted) k some)
  where
    from : AreOpen (root_write root ∷ begun.0) → ((j : ℕ) (w : DiskWrite) → slice_get (root_write root ∷ begun.0) j ≡ Some w → Permitted (crash_state d (root_write root ∷ begun.0) j) w) → (k : ℕ) → 1 ≤ k
        → short_at (root_page (crash_state d (root_write root ∷ begun.0) k)) 10 ≡ 0
    from opens permitted zero some = absurd (omega (arith, some))
    from opens permitted (suc k) some = rows_flag begun.0 (written (root_write root) d) k opens.1 (λ j v here. permitted (suc j) v here) (root_flag d root clear)
