-- What a creation that stopped has written, and that its sectors were no file's.
use Rattle.std.proofs.Common.{◌≡◌, inl, inr, ℕ, suc, ◌-◌, ◌≤◌, true, false, List, [], ◌∷◌, length, take, refl, sym, subst, arith}
use Rattle.std.specs.Prelude.{slice_set}
use Rattle.std.proofs.lemmas.Bool.{ne_eqb}
use Rattle.labelled_disk.specs.declared.label.Label.{Label}
use Rattle.labelled_disk.specs.declared.layout.Layout.{Layout}
use Rattle.labelled_disk.specs.Label.{is_free, is_file_id, leader_page, root_label, page_label}
use Rattle.labelled_disk.specs.Runs.{growth, AreUnused}
use Rattle.labelled_disk.specs.Sectors.{Sector}
use Rattle.labelled_disk.specs.State.{DiskState}
use Rattle.label_laws.specs.PermittedOrders.{AreApart}
use Rattle.frame_pool.specs.Frames.{Slots}
use Rattle.flat_machine.specs.declared.space.Space.{Space}
use Rattle.label_calls.specs.Labels.{MayHaveWritten}
use Rattle.swapper_kernel.specs.declared.manager.Manager.TheVariants.{FileMap}
use Rattle.swapper_kernel.specs.Goes.{Makes, no_page}
use Rattle.swapper_kernel.specs.GoesLaws.{makes_then, makes_wider}
use Rattle.swapper_kernel.specs.Homes.{IsLayout}
use Rattle.swapper_kernel.specs.Stands.{labels_of}
use Rattle.swapper_kernel.specs.Window.{Beside}
use Rattle.filer_kernel.specs.declared.cached.CachedRuns.{CachedRuns}
use Rattle.session_words.specs.CreateLaws.{Creates}
use Rattle.session_words.specs.GrowLaws.{IsFree, AreFree, Grows}
use Rattle.session_words.specs.Parts.{Shape, Shapes}
use Rattle.session_words.specs.Volume.{volume_page}
use Rattle.session_words.proofs.FoundLemmas.{above_reserved}
use Rattle.session_words.proofs.RootLabelLemmas.{free_then, free_before}
use Rattle.volume_root.specs.declared.root.Root.{Root}
use Rattle.volume_root.specs.RootPage.{root_write}
use Rattle.file_manager.specs.Book.{Leads}
use Rattle.file_manager.specs.Broken.{GrewSome}
use Rattle.file_manager.specs.CreateBroken.{CreatedSome}
use Rattle.file_manager.specs.Creating.{next_id, counted}
use Rattle.file_manager.specs.Making.{MayCreateUpto, MayGrowUpto}
use Rattle.file_manager.proofs.GrowBroken.{all_back, free_first, unused_first}
use Rattle.file_manager.proofs.LeaderLemmas.{led, may_then}
use Rattle.file_manager.proofs.NewFile.{began}

-- ---- Sectors that were free.

each_so : (P Q : ℕ → Type 0) → ((i : ℕ) → P i → Q i) → (is : List ℕ) → AreApart P is → AreApart Q is
each_so P Q evidence_seen [] are = tt
each_so P Q evidence_seen (i ∷ is) are = (evidence_seen i are.0, are.1, each_so P Q evidence_seen is are.2)

-- one for the leader, and then others in turn, are different ones that were all free
apart_created : (labels : List Label) (id kind leader : ℕ) (is : List ℕ) → 16 ≤ id → IsFree labels leader → AreFree id kind 0 is (slice_set labels leader (page_label id kind leader_page)) → AreApart (IsFree labels) (leader ∷ is)
apart_created labels id kind leader is high first free =
    let taken : is_free (page_label id kind leader_page) ≡ false = ne_eqb id 0 (omega (arith, high)) in
    let back = all_back labels leader (page_label id kind leader_page) is first taken (free_first id kind 0 is (slice_set labels leader (page_label id kind leader_page)) high free) in
    (first, back.0, back.1)

-- the root's label is no matter
before_root : (labels : List Label) (is : List ℕ) → AreApart (IsFree (slice_set labels 0 root_label)) is → AreApart (IsFree labels) is
before_root labels is free = each_so (IsFree (slice_set labels 0 root_label)) (IsFree labels) (free_before labels root_label) is free

-- those of a file that was made
pub created_unused : (serial counter room id kind leader : ℕ) (is : List ℕ) (x y d : List Sector) → 16 ≤ id → labels_of d ≡ labels_of x → Creates serial counter room id kind leader is x y → AreUnused d (leader ∷ is)
created_unused serial counter room id kind leader is x y d high same made =
    let free = apart_created (slice_set (labels_of x) 0 root_label) id kind leader is high (free_then (labels_of x) root_label leader made.led.free) (subst (AreFree id kind 0 is) made.led.labels made.grown.free) in
    unused_first d (leader ∷ is) (subst (λ (l : List Label). AreApart (IsFree l) (leader ∷ is)) (sym same) (before_root (labels_of x) (leader ∷ is) free))

-- ---- Leader and pages.

-- a stop at the leader
pub leader_broken : {a b : DiskState} {s t : Slots} (id kind pages : ℕ) (x : List Sector) → GrewSome id kind leader_page 1 x a s b t → CreatedSome [] id kind pages x a s b t
leader_broken {a = a} {b = b} {s = s} {t = t} id kind pages x some = either some.sectors some.few some.free some.count some.makes
  where
    either : (is : List ℕ) → length is ≤ 1 → AreFree id kind leader_page is (labels_of x) → (n : ℕ) → Makes volume_page (take n (growth id kind leader_page is)) a s b t → CreatedSome [] id kind pages x a s b t
    either [] few free n makes = record { sectors = []; few = omega arith; free = tt; count = n; makes = makes }
    either (i ∷ []) few free n makes = record { sectors = i ∷ []; few = omega arith; free = (free.0, tt, tt); count = n; makes = makes }
    either (i ∷ j ∷ is) few free n makes = absurd (omega (arith, few))

-- a stop after it
pub pages_broken : {tables : ℕ} (layout : Layout) (is_layout : IsLayout layout) (kept : CachedRuns) (shapes : Shapes) (spaces : List Space) (x : List Sector) (d0 : DiskState) (s0 : Slots) (id kind pages : ℕ)
    (of_file : is_file_id id ≡ true) (may : MayCreateUpto tables d0 s0 layout kept shapes spaces id pages x) (leader : ℕ) (d : DiskState) (s : Slots) (leads : Leads (Grows id kind leader_page (leader ∷ [])) (growth id kind leader_page (leader ∷ [])) d0 s0 layout d s kept)
    (d2 : DiskState) (s2 : Slots) → ((y : List Sector) (ss : Shapes) (sp : List Space) (f : Shape) → MayGrowUpto tables d s layout kept ss sp id f pages y → f.size ≡ 0 → GrewSome id kind 0 (pages - 0) y d s d2 s2) → CreatedSome [] id kind pages x d0 s0 d2 s2
pages_broken layout is_layout kept shapes spaces x d0 s0 id kind pages of_file may leader d s leads d2 s2 broken =
    let y = led layout is_layout kept shapes spaces x d0 s0 id kind pages of_file may leader d s leads in
    let rest = broken y.0 _ spaces _ (may_then layout is_layout kept shapes spaces x d0 s0 id kind pages of_file may leader d s leads) refl in
    record {
      sectors = leader ∷ rest.sectors;
      few = let few = rest.few in omega (arith, few);
      free = apart_created (labels_of x) id kind leader rest.sectors (above_reserved id of_file) y.2.grown.free.0 (subst (AreFree id kind 0 rest.sectors) y.2.grown.labels rest.free);
      count = suc rest.count;
      makes = makes_then leads.goes.makes rest.makes;
    }

-- ---- The root before.

module _ {a b : DiskState} {s : Slots} (root : Root) (kind pages : ℕ) (x : List Sector) where
  -- a stop at the root
  pub root_broken : MayHaveWritten (root_write (counted root)) a s b → CreatedSome (root_write (counted root) ∷ []) (next_id root) kind pages x a s b s
  root_broken (inl nothing) = record { sectors = []; few = omega arith; free = tt; count = 0; makes = makes_wider volume_page (λ id page n. absurd n) nothing }
  root_broken (inr made) = record { sectors = []; few = omega arith; free = tt; count = 1; makes = makes_wider volume_page (λ id page n. absurd n) made }

  module _ (first : Makes no_page (root_write (counted root) ∷ []) a s b s) {c : DiskState} {t : Slots} {layout l2 : Layout} (beside : Beside FileMap b s layout c t l2) where
    -- at the file map
    pub map_broken : CreatedSome (root_write (counted root) ∷ []) (next_id root) kind pages x a s c t
    map_broken = record { sectors = []; few = omega arith; free = tt; count = 1; makes = began root kind pages first beside }

    -- at the leader or the pages
    pub file_broken : {d : DiskState} {u : Slots} (y : List Sector) → labels_of y ≡ slice_set (labels_of x) 0 root_label → CreatedSome [] (next_id root) kind pages y c t d u → CreatedSome (root_write (counted root) ∷ []) (next_id root) kind pages x a s d u
    file_broken y same some = record {
      sectors = some.sectors;
      few = some.few;
      free = before_root (labels_of x) some.sectors (subst (λ (l : List Label). AreApart (IsFree l) some.sectors) same some.free);
      count = suc some.count;
      makes = makes_then (began root kind pages first beside) some.makes;
    }
