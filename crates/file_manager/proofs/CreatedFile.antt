-- A file that was created under an identifier from outside: the file map was cut of it, and then it was made.
use Rattle.std.proofs.Common.{◌≡◌, ◌≢◌, ℕ, ◌≤◌, not, List, [], filter, sym, ◌∙◌, subst, arith, true}
use Rattle.std.specs.Prelude.{◌==◌}
use Rattle.std.proofs.lemmas.Option.{none-some}
use Rattle.labelled_disk.specs.declared.evidence.Halt.{Halt}
use Rattle.labelled_disk.specs.declared.layout.Layout.{Layout}
use Rattle.labelled_disk.specs.Label.{is_file_id}
use Rattle.labelled_disk.specs.Runs.{creation}
use Rattle.labelled_disk.specs.Sectors.{Sector, AreSectors}
use Rattle.labelled_disk.specs.State.{DiskState}
use Rattle.label_laws.specs.PermittedOrders.{AreApart}
use Rattle.frame_pool.specs.Frames.{Slots}
use Rattle.file_map.specs.FileMap.{without_from}
use Rattle.flat_machine.specs.declared.space.Space.{Space}
use Rattle.swapper_kernel.specs.declared.manager.Manager.TheVariants.{FileMap}
use Rattle.swapper_kernel.specs.GoesLaws.{makes_then}
use Rattle.swapper_kernel.specs.HaltLaws.{brings_then}
use Rattle.swapper_kernel.specs.Homes.{IsLayout}
use Rattle.swapper_kernel.specs.Stands.{Stands}
use Rattle.swapper_kernel.specs.Window.{Beside}
use Rattle.filer_kernel.specs.declared.cached.CachedRuns.{CachedRuns}
use Rattle.filer_kernel.specs.Becomes.{Becomes}
use Rattle.filer_kernel.specs.Cached.{runs_of}
use Rattle.filer_kernel.specs.Evidence.{ShowsEvidence}
use Rattle.filer_kernel.specs.Fails.{Fails}
use Rattle.filer_kernel.specs.Triples.{MapIs}
use Rattle.filer_kernel.specs.View.{View}
use Rattle.session_words.specs.GrowLaws.{IsFree}
use Rattle.session_words.specs.Parts.{Shapes, is_owned_upto}
use Rattle.session_words.proofs.FoundLemmas.{owner_upto, above_reserved}
use Rattle.file_manager.specs.CreateBroken.{CreatedSome}
use Rattle.file_manager.specs.Grounds.{CreateHalts}
use Rattle.file_manager.specs.Making.{MayCreateUpto, LedAndGrown, CreatedBy, CreatesAll, CreatesSome}
use Rattle.file_manager.specs.Roots.{RootStays}
use Rattle.file_manager.proofs.FreedRun.{map_brings, map_makes}
use Rattle.file_manager.proofs.RootCalls.{file_no_root}
use Rattle.file_manager.proofs.RootSteps.{creation_none, first_none, root_stays}
use Rattle.file_manager.proofs.RunLeads.{one_memory}
use Rattle.file_manager.proofs.TablesCut.{books_cut, file_after, free_cut}

module _ {tables : ℕ} (layout : Layout) (is : IsLayout layout) (kept : CachedRuns) (shapes : Shapes) (spaces : List Space) (x : List Sector) (d0 : DiskState) (s0 : Slots) (id pages : ℕ) (high : 16 ≤ id)
    (may : MayCreateUpto tables d0 s0 layout kept shapes spaces id pages x) where
  -- no page of the file is named
  none_named : (i p s : ℕ) → may.books.booked.named i p s ≡ true → i ≢ id
  none_named i p s named same =
      let b = may.books.booked in
      let t = b.triples.only i p s named in
      let owned = (b.labels.pages.only s t.label t.there t.taken).is in
      let own : is_owned_upto tables shapes id p ≡ true = (λ j. is_owned_upto tables shapes (sym (t.same_id ∙ same) j) (sym t.same_page j)) ∙ owned in
      let o = owner_upto tables shapes id p (λ q. omega (arith, q, high)) own in
      none-some o.0 (sym may.none ∙ o.1)

  module _ (d2 : DiskState) (s2 : Slots) (l2 : Layout) (beside : Beside FileMap d0 s0 layout d2 s2 l2) (last : CachedRuns) (cut : Becomes FileMap layout x (MapIs layout (without_from may.books.booked.named id 0)) d2 s2)
      (forgotten : runs_of layout.sectors last ≡ filter (λ r. not (r.id == id)) (runs_of layout.sectors kept)) (in_form : (y : List Sector) → Stands d2 s2 y → AreSectors y) where
    -- it may be made still
    pub may_create_cut : MayCreateUpto tables d2 s2 layout last shapes spaces id pages cut.memory
    may_create_cut = record {
      books = books_cut layout is kept shapes spaces x d0 s0 may.books id none_named d2 s2 l2 beside last cut forgotten in_form;
      hidden = may.hidden;
      are = may.are;
      none = may.none;
      enough =
          let free = free_cut layout is kept shapes spaces x d0 s0 may.books id none_named d2 s2 l2 beside last cut forgotten in_form in
          let enough = may.enough in
          omega (arith, free, enough);
    }

    -- and where it is, that is so from before the cut
    pub created_after : (kind : ℕ) (d3 : DiskState) (s3 : Slots) (runs : CachedRuns) → CreatedBy id kind pages d2 s2 layout d3 s3 runs → CreatedBy id kind pages d0 s0 layout d3 s3 runs
    created_after kind d3 s3 runs made = record {
      leader = made.leader;
      sectors = made.sectors;
      long = made.long;
      leads = record {
        goes = record {
          makes = makes_then (map_makes beside) made.leads.goes.makes;
          memory = λ m stood.
              let now = made.leads.goes.memory cut.memory cut.stands in (
                now.0,
                now.1,
                subst (λ (z : List Sector). LedAndGrown id kind made.leader made.sectors z now.0) (one_memory d0 s0 x m may.books.stands stood)
                    (file_after layout is kept shapes spaces x d0 s0 may.books id none_named d2 s2 l2 beside last cut forgotten in_form kind made.leader made.sectors now.0 now.2),
              );
        };
        brings = brings_then (map_brings beside) made.leads.brings;
        true_runs = made.leads.true_runs;
      };
    }

    -- and where it stopped
    pub broken_after : (kind : ℕ) (d3 : DiskState) (s3 : Slots) → CreatedSome [] id kind pages cut.memory d2 s2 d3 s3 → CreatedSome [] id kind pages x d0 s0 d3 s3
    broken_after kind d3 s3 some = record {
      sectors = some.sectors;
      few = some.few;
      free = subst (λ l. AreApart (IsFree l) some.sectors) cut.differs.labels some.free;
      count = some.count;
      makes = makes_then (map_makes beside) some.makes;
    }

-- over any contents
module _ {layout l2 : Layout} {a b : DiskState} {s t : Slots} (id kind pages : ℕ) (beside : Beside FileMap a s layout b t l2) where
  -- a stop at the file map
  pub uncut_broken : (x : List Sector) → CreatedSome [] id kind pages x a s b t
  uncut_broken x = record { sectors = []; few = omega arith; free = tt; count = 0; makes = map_makes beside }

  pub uncut_stops : CreatesSome id kind pages a s b t
  uncut_stops = record { leader = 0; sectors = []; few = omega arith; count = 0; makes = map_makes beside }

  -- after it
  pub cut_stops : {c : DiskState} {u : Slots} → CreatesSome id kind pages b t c u → CreatesSome id kind pages a s c u
  cut_stops some = record { leader = some.leader; sectors = some.sectors; few = some.few; count = some.count; makes = makes_then (map_makes beside) some.makes }

  pub cut_makes : {c : DiskState} {u : Slots} → CreatesAll id kind pages b t c u → CreatesAll id kind pages a s c u
  cut_makes all = record { leader = all.leader; sectors = all.sectors; long = all.long; makes = makes_then (map_makes beside) all.makes }

-- no root was written
pub made_root : {kind pages : ℕ} {a b : DiskState} {s t : Slots} (id : ℕ) → is_file_id id ≡ true → CreatesAll id kind pages a s b t → RootStays a b
made_root {kind = kind} id of_file h = root_stays (creation_none id kind h.leader h.sectors (file_no_root id (above_reserved id of_file))) h.makes

pub made_some_root : {kind pages : ℕ} {a b : DiskState} {s t : Slots} (id : ℕ) → is_file_id id ≡ true → CreatesSome id kind pages a s b t → RootStays a b
made_some_root {kind = kind} id of_file h =
    root_stays (first_none h.count (creation id kind h.leader h.sectors) (creation_none id kind h.leader h.sectors (file_no_root id (above_reserved id of_file)))) h.makes

-- a halt that has its cause fails so
pub create_fails : (layout : Layout) (id : ℕ) (wanted : ℕ → Type 0) (v w : View) (halt : Halt) → CreateHalts layout id wanted v.disk v.slots w.disk w.slots halt → ShowsEvidence w.disk halt
    → Fails (CreateHalts layout id wanted v.disk v.slots w.disk w.slots) v w halt
create_fails layout id wanted v w halt cause evidence = record {
  cause = cause;
  counted = λ is. subst (CreateHalts layout id wanted v.disk v.slots w.disk w.slots) is cause;
  evidence_seen = evidence;
}
