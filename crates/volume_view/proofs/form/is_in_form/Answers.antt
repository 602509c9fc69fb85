use Rattle.std.proofs.Common.{◌≡◌, ◌∙◌, ◌++◌, ◌-◌, ◌<◌, ◌^◌, ℕ, Ok, List, length, sym, ap, subst, arith}
use Rattle.flat_mem.specs.Vec.{vec_mem_bytes}
use Rattle.volume_view.specs.Level.{items_of}
use Rattle.volume_view.specs.Form.{AreCounted, IsFreeList}
use Rattle.volume_view.specs.Walk.{tops, level_at, pages_used, least_records, AreUsedOnce}
use Rattle.volume_view.proofs.LayoutLemmas.{of_layout}
use Rattle.volume_view.proofs.RecordedLemmas.{in_some}
use Rattle.volume_view.proofs.ReadLemmas.{read_same}
use Rattle.volume_view.proofs.FormLemmas.{form_has_header, form_has_walk, walk_has_form, free_list, free_few, free_same, inner_there, leaves_there, read_there}
use Rattle.volume_view.proofs.form.is_in_form.Goals as goal

pub returns-then-not-is_header-clause-no : goal.returns-then-not-is_header-clause-no
returns-then-not-is_header-clause-no g c = λ _ form.
    let n = c.args.layout.now.sectors in
    let names = (of_layout c.args.layout.now n c.requires.layout).names in
    c.is_header.ensures.no c.if-not-is_header.true (form_has_header n (vec_mem_bytes c.args.map.now) c.load_page-page.result c.args.layout.now.vfm c.load_page-page.ensures.page names (omega (arith, c.requires.counted.1)) form)

pub returns-in_default-clause-no : goal.returns-in_default-clause-no
returns-in_default-clause-no g c = λ _ form.
    let n = c.args.layout.now.sectors in
    let b = vec_mem_bytes c.args.map.now in
    let names = (of_layout c.args.layout.now n c.requires.layout).names in
    let walk = form_has_walk n b c.load_page-page.result c.args.layout.now.vfm c.header_of-header.result c.load_page-page.ensures.page c.header_of-header.ensures names (omega (arith, c.requires.counted.1)) form in
    c.in_ok-leaves.ensures.none (ap Ok c.in_default.is) (inner_there b (vec_mem_bytes c.load_page-page.new.map) c.args.layout.now.vfm c.header_of-header.result c.load_page-page.ensures.same walk.walk.inner)

pub returns-in_default-2-clause-no : goal.returns-in_default-2-clause-no
returns-in_default-2-clause-no g c = λ _ form.
    let n = c.args.layout.now.sectors in
    let b = vec_mem_bytes c.args.map.now in
    let h = c.header_of-header.result in
    let names = (of_layout c.args.layout.now n c.requires.layout).names in
    let walk = form_has_walk n b c.load_page-page.result c.args.layout.now.vfm h c.load_page-page.ensures.page c.header_of-header.ensures names (omega (arith, c.requires.counted.1)) form in
    let same = c.find_leaves.ensures.same ∙ c.load_page-page.ensures.same in
    let level = ap items_of c.deref.ensures.value ∙ in_some c.in_ok-leaves.field-0 c.in-Some.leaves _ c.in-Some.is c.in_ok-leaves.ensures.leaves ∙ ap (λ (x : List ℕ). level_at x (tops h.levels h.root) (h.levels - 1)) c.load_page-page.ensures.same in
    c.in_ok-runs.ensures.none walk.runs (ap Ok c.in_default-2.is)
    (leaves_there b (vec_mem_bytes c.find_leaves.new.map) c.args.layout.now.vfm (least_records h.levels) c.least_of-least.result (level_at b (tops h.levels h.root) (h.levels - 1)) (items_of c.deref.result.now) same c.least_of-least.ensures level walk.walk.leaves)
    (read_there n b (vec_mem_bytes c.find_leaves.new.map) (level_at b (tops h.levels h.root) (h.levels - 1)) (items_of c.deref.result.now) walk.runs same level walk.walk.read)

pub returns-then-not-are_counted-clause-no : goal.returns-then-not-are_counted-clause-no
returns-then-not-are_counted-clause-no g c = λ _ form.
    let n = c.args.layout.now.sectors in
    let b = vec_mem_bytes c.args.map.now in
    let h = c.header_of-header.result in
    let few : n < 2 ^ 32 = omega (arith, c.requires.counted.1) in
    let names = (of_layout c.args.layout.now n c.requires.layout).names in
    let walk = form_has_walk n b c.load_page-page.result c.args.layout.now.vfm h c.load_page-page.ensures.page c.header_of-header.ensures names few form in
    let same = c.find_leaves.ensures.same ∙ c.load_page-page.ensures.same in
    let level = ap items_of c.deref.ensures.value ∙ in_some c.in_ok-leaves.field-0 c.in-Some.leaves _ c.in-Some.is c.in_ok-leaves.ensures.leaves ∙ ap (λ (x : List ℕ). level_at x (tops h.levels h.root) (h.levels - 1)) c.load_page-page.ensures.same in
    let read = read_there n (vec_mem_bytes c.find_leaves.new.map) b (items_of c.deref.result.now) (level_at b (tops h.levels h.root) (h.levels - 1)) c.in-Some-2.runs.items (sym same) (sym level)
    (in_some c.in_ok-runs.field-0 c.in-Some-2.runs _ c.in-Some-2.is c.in_ok-runs.ensures.read) in
    let runs = read_same n few _ walk.runs c.in-Some-2.runs.items walk.walk.read read in
    let long : length c.in-Some-2.runs.items ≡ c.len.result = omega (arith, c.len.ensures) in
    c.are_counted.ensures.no c.if-not-are_counted.true (subst (AreCounted h.count n) (ap length runs ∙ long) walk.walk.counted)

pub returns-then-not-branch-clause-no : goal.returns-then-not-branch-clause-no
returns-then-not-branch-clause-no g c = λ _ form.
    let n = c.args.layout.now.sectors in
    let b = vec_mem_bytes c.args.map.now in
    let h = c.header_of-header.result in
    let names = (of_layout c.args.layout.now n c.requires.layout).names in
    let walk = form_has_walk n b c.load_page-page.result c.args.layout.now.vfm h c.load_page-page.ensures.page c.header_of-header.ensures names (omega (arith, c.requires.counted.1)) form in
    let same = c.read_leaves.ensures.same ∙ c.find_leaves.ensures.same ∙ c.load_page-page.ensures.same in
    let below : h.top < c.args.layout.now.vfm = omega (arith, c.header_of-header.ensures.top, walk.walk.header.top_below) in
    let list = subst (λ (x : List ℕ). IsFreeList x c.args.layout.now.vfm h.free walk.free) (sym same) (free_list n b c.load_page-page.result c.args.layout.now.vfm h walk.runs walk.free below walk.walk) in
    let long = c.in_ok-follow_free.ensures.broken walk.free (ap Ok c.if-not-branch.true) list in
    let short = free_few n b c.load_page-page.result c.args.layout.now.vfm h walk.runs walk.free walk.walk in
    omega (arith, long, short)

pub returns-clause-yes : goal.returns-clause-yes
returns-clause-yes g c = λ ok.
    let n = c.args.layout.now.sectors in
    let b = vec_mem_bytes c.args.map.now in
    let h = c.header_of-header.result in
    let names = (of_layout c.args.layout.now n c.requires.layout).names in
    let same = c.find_leaves.ensures.same ∙ c.load_page-page.ensures.same in
    let level = ap items_of c.deref.ensures.value ∙ in_some c.in_ok-leaves.field-0 c.in-Some.leaves _ c.in-Some.is c.in_ok-leaves.ensures.leaves ∙ ap (λ (x : List ℕ). level_at x (tops h.levels h.root) (h.levels - 1)) c.load_page-page.ensures.same in
    let inner = in_some c.in_ok-leaves.field-0 c.in-Some.leaves _ c.in-Some.is c.in_ok-leaves.ensures.inner in
    let leaves = in_some c.in_ok-runs.field-0 c.in-Some-2.runs _ c.in-Some-2.is c.in_ok-runs.ensures.leaves in
    let read = in_some c.in_ok-runs.field-0 c.in-Some-2.runs _ c.in-Some-2.is c.in_ok-runs.ensures.read in
    let free = c.in_ok-follow_free.ensures.free (ap Ok c.if-not-branch.false) in
    let list = subst (λ (x : List ℕ). IsFreeList x c.args.layout.now.vfm h.free free.0) (c.read_leaves.ensures.same ∙ same) free.1 in
    let used =
    c.deref-2.ensures.value ∙ free.2
    ∙ ap (λ (l : List ℕ). l ++ free.0)
    (in_some c.in_ok-leaves.field-0 c.in-Some.leaves _ c.in-Some.is c.in_ok-leaves.ensures.used
    ∙ ap (λ (l : List ℕ). l ++ pages_used (vec_mem_bytes c.load_page-page.new.map) (tops h.levels h.root) h.levels) c.new-used.ensures.items
    ∙ ap (λ (x : List ℕ). pages_used x (tops h.levels h.root) h.levels) c.load_page-page.ensures.same) in
    let long : length c.in-Some-2.runs.items ≡ c.len.result = omega (arith, c.len.ensures) in
    walk_has_form n b c.load_page-page.result c.args.layout.now.vfm h c.in-Some-2.runs.items free.0 c.load_page-page.ensures.page c.header_of-header.ensures names (record {
      header = c.is_header.ensures.yes c.if-not-is_header.false;
      inner = inner_there (vec_mem_bytes c.load_page-page.new.map) b c.args.layout.now.vfm h (sym c.load_page-page.ensures.same) inner;
      leaves =
          leaves_there (vec_mem_bytes c.find_leaves.new.map) b c.args.layout.now.vfm c.least_of-least.result (least_records h.levels) (items_of c.deref.result.now) (level_at b (tops h.levels h.root) (h.levels - 1)) (sym same)
          (sym c.least_of-least.ensures) (sym level) leaves;
      read = read_there n (vec_mem_bytes c.find_leaves.new.map) b (items_of c.deref.result.now) (level_at b (tops h.levels h.root) (h.levels - 1)) c.in-Some-2.runs.items (sym same) (sym level) read;
      counted = subst (AreCounted h.count n) (sym long) (c.are_counted.ensures.yes c.if-not-are_counted.false);
      chain = list.chain;
      once = subst (AreUsedOnce h.top) used (c.are_used_once.ensures.yes ok);
    })

pub returns-clause-no : goal.returns-clause-no
returns-clause-no g c = λ ok form.
    let n = c.args.layout.now.sectors in
    let b = vec_mem_bytes c.args.map.now in
    let h = c.header_of-header.result in
    let names = (of_layout c.args.layout.now n c.requires.layout).names in
    let walk = form_has_walk n b c.load_page-page.result c.args.layout.now.vfm h c.load_page-page.ensures.page c.header_of-header.ensures names (omega (arith, c.requires.counted.1)) form in
    let same = c.read_leaves.ensures.same ∙ c.find_leaves.ensures.same ∙ c.load_page-page.ensures.same in
    let below : h.top < c.args.layout.now.vfm = omega (arith, c.header_of-header.ensures.top, walk.walk.header.top_below) in
    let free = c.in_ok-follow_free.ensures.free (ap Ok c.if-not-branch.false) in
    let list = subst (λ (x : List ℕ). IsFreeList x c.args.layout.now.vfm h.free free.0) same free.1 in
    let equal = free_same n b c.load_page-page.result c.args.layout.now.vfm h walk.runs walk.free free.0 below walk.walk list in
    let used =
    c.deref-2.ensures.value ∙ free.2
    ∙ ap (λ (l : List ℕ). l ++ free.0)
    (in_some c.in_ok-leaves.field-0 c.in-Some.leaves _ c.in-Some.is c.in_ok-leaves.ensures.used
    ∙ ap (λ (l : List ℕ). l ++ pages_used (vec_mem_bytes c.load_page-page.new.map) (tops h.levels h.root) h.levels) c.new-used.ensures.items
    ∙ ap (λ (x : List ℕ). pages_used x (tops h.levels h.root) h.levels) c.load_page-page.ensures.same) in
    c.are_used_once.ensures.no ok (subst (AreUsedOnce h.top) (ap (λ (l : List ℕ). pages_used b (tops h.levels h.root) h.levels ++ l) equal ∙ sym used) walk.walk.once)
