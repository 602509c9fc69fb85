-- What is planned from labels is the conversion of each disk that has them.
use Rattle.std.proofs.Common.{◌≡◌, ℕ, ◌+◌, ◌-◌, ◌<◌, ◌≤◌, ◌^◌, false, List, [], ◌∷◌, ◌++◌, length, map, take, drop, Result, Ok, Err, refl, sym, ◌∙◌, ap, subst, arith, append_assoc, length-set}
use Rattle.labelled_disk.specs.declared.disk.DiskError.{DiskError}
use Rattle.labelled_disk.specs.declared.disk.DiskWrite.{DiskWrite}
use Rattle.labelled_disk.specs.declared.label.Label.{Label}
use Rattle.labelled_disk.specs.declared.layout.Layout.{Layout}
use Rattle.labelled_disk.specs.Label.{root_label, leader_page}
use Rattle.flat_mem.specs.Vec.{vec_mem_bytes}
use Rattle.labelled_disk.specs.File.{total_room}
use Rattle.labelled_disk.specs.FilesOn.{files_on}
use Rattle.labelled_disk.specs.Layout.{IsCount, capacity, data_sectors, first_data, layout_of, vam, vfm}
use Rattle.labelled_disk.specs.Root.{root_page, page_in}
use Rattle.labelled_disk.specs.Runs.{freeing}
use Rattle.labelled_disk.specs.Sectors.{Sector, AreSectors}
use Rattle.labelled_disk.specs.State.{DiskState}
use Rattle.labelled_disk.specs.WriteRuns.{after_writes}
use Rattle.labelled_disk.proofs.Finds.{get_set_same}
use Rattle.labelled_disk.proofs.WriteLemmas as laws
use Rattle.volume_root.specs.declared.root.Root.{Root}
use Rattle.volume_root.specs.OldRoot.{IsOldCount, IsValidOldRoot}
use Rattle.volume_root.specs.RootPage.{IsValidRoot, root_in, root_bytes, root_write}
use Rattle.volume_root.proofs.WrittenLemmas.{root_read}
use Rattle.label_laws.specs.Counts.{total_pages}
use Rattle.label_laws.proofs.CountLemmas.{rooms}
use Rattle.label_survey.specs.declared.sector_state.SectorState.{SectorState}
use Rattle.label_survey.proofs.SortLemmas.{refilled}
use Rattle.label_survey.specs.Counter.{IsRaised}
use Rattle.label_survey.specs.SectorStates.{AreSectorStates}
use Rattle.label_survey.specs.Survey.{is_freed, places_by}
use Rattle.scavenger.specs.Carries.{Carries}
use Rattle.scavenger.specs.Orders.{AreFor, map_writes}
use Rattle.scavenger.specs.Plan.{orders}
use Rattle.scavenger.specs.Stays.{HasLabels}
use Rattle.scavenger.proofs.LayoutLemmas.{first_within, of_layout}
use Rattle.scavenger.proofs.RowLemmas.{carries_stopped, carries_then}
use Rattle.old_files.specs.OldFiles.{files_old}
use Rattle.old_files.specs.Reread.{all_reread}
use Rattle.convert_laws.specs.Converted.{today, closed_today, both_maps, convert_writes, settled_disk}
use Rattle.convert_laws.specs.Conversions.{IsFor}
use Rattle.convert_laws.specs.Orders.{first_writes, leader_writes, old_unneeded, old_spare}
use Rattle.convert_laws.proofs.ConvertedLemmas.{none_unneeded}
use Rattle.convert_laws.proofs.ForLemmas.{is_conversion}
use Rattle.convert_laws.proofs.RereadCounts.{files_same, pages_same}
use Rattle.convert_laws.proofs.WriteLemmas.{written_long}
use Rattle.volume_convert.specs.declared.converting.Converted.{Converted}
use Rattle.volume_convert.specs.declared.fault.ConvertFault.{ConvertFault}
use Rattle.volume_convert.specs.declared.fault.ConvertFault.TheVariants as why
use Rattle.volume_convert.specs.declared.heads.Head.{Head}
use Rattle.volume_convert.specs.declared.plan.Conversion.{Conversion}
use Rattle.volume_convert.specs.Heads.{AreHeads, leaders_by}
use Rattle.volume_convert.specs.Leaves.{IsRevealed}
use Rattle.volume_convert.specs.Planned.{arranging, orders_of, all_writes, IsPlannedFor}
use Rattle.volume_convert.specs.Settled.{is_spare, settled_label_at, settled_labels, settled_sector_states}
use Rattle.volume_convert.proofs.SettledLemmas.{leaders, labels_then, made_long, settled_stand_all}
use Rattle.volume_convert.proofs.StandLemmas.{unneeded_are, spare_are}

-- there is room for what is revealed
pub revealed_room : (d : List Sector) (revealed : Converted) → IsRevealed d revealed → total_room (files_old d) ≡ revealed.files + revealed.pages
revealed_room d revealed is = let r = rooms (files_old d) in omega (arith, r, is.files, is.pages)

-- what is revealed, from the counts
pub revealed_by : (d : List Sector) → length d ≤ 65536 → (sector_states : List SectorState) → AreSectorStates (all_reread d) sector_states → (files pages freed : ℕ)
    → files ≡ length (files_on (all_reread d)) → pages ≡ total_pages (files_on (all_reread d)) → freed ≡ length (places_by is_freed (first_data (length d)) sector_states)
    → IsRevealed d (record { files = files; pages = files + pages; freed = freed })
revealed_by d small sector_states are files pages freed files_are pages_are freed_are =
    let few : length d < leader_page = omega (arith, small) in
    record {
      files = files_are ∙ files_same d few;
      pages = (let p = pages_same d few in omega (arith, files_are, pages_are, p));
      freed = freed_are ∙ ap (λ (l : List ℕ). length l) (unneeded_are d few sector_states are (first_data (length d)) refl);
    }

module _ {A : Type 0} (n : ℕ) (labels : List Label) (root : Root) (first : ℕ) (c : Conversion A) (accepted : IsOldCount n) (valid : IsValidOldRoot n root)
    (same : length c.sector_states.items ≡ length labels) (sorted : AreHeads labels c.sector_states.items c.heads.items) (at : first ≡ first_data n)
    (d : List Sector) (has : HasLabels d n labels) (form : AreSectors d) (are : AreSectorStates (all_reread d) c.sector_states.items) (revealed : IsRevealed d c.revealed) (room : c.revealed.files + c.revealed.pages ≤ capacity n)
    (read : root ≡ root_in (root_page d))
    (for : (g : List Sector) → HasLabels g n (settled_labels labels c.sector_states.items (leaders_by c.heads.items)) → today root ≡ root_in (root_page g) → AreFor g (orders (today root) first c.maps)) (serial : root.serial < 2 ^ 32) where
  few : length d < leader_page
  few = omega (arith, has.sectors, accepted.1)

  count : IsCount (length d)
  count = (omega (arith, has.sectors, accepted.0), omega (arith, has.sectors, accepted.1))

  within : first_data (length d) ≤ length d
  within = first_within (length d) count

  at_d : first ≡ first_data (length d)
  at_d = at ∙ ap first_data (sym has.sectors)

  arrange_is : arranging first c ≡ first_writes d
  arrange_is =
      ap (λ (is : List ℕ). freeing is ++ leader_writes (places_by is_spare first c.sector_states.items) (leaders_by c.heads.items)) (unneeded_are d few c.sector_states.items are first at_d)
      ∙ ap (λ (is : List ℕ). freeing (old_unneeded d) ++ leader_writes is (leaders_by c.heads.items)) (spare_are d few c.sector_states.items are first at_d)
      ∙ ap (λ (ls : List Label). freeing (old_unneeded d) ++ leader_writes (old_spare d) ls) (leaders n labels c.sector_states.items c.heads.items accepted same sorted d has are)

  after_is : after_writes (first_writes d) d ≡ after_writes (arranging first c) d
  after_is = ap (λ (ws : List DiskWrite). after_writes ws d) (sym arrange_is)

  abbrev g : List Sector
  g = settled_disk d (orders_of root first c)

  long_after : length (after_writes (arranging first c) d) ≡ length d
  long_after = ap (λ (l : List Sector). length l) (sym after_is) ∙ written_long d within

  g_long : length (settled_disk d (orders_of root first c)) ≡ length d
  g_long = length-set (after_writes (arranging first c) d) 0 (root_label, root_bytes (today root)) ∙ long_after

  g_data : data_sectors (settled_disk d (orders_of root first c)) ≡ data_sectors (after_writes (first_writes d) d)
  g_data = laws.data_past false 0 0 (after_writes (arranging first c) d) 0 (root_label, root_bytes (today root)) (laws.first_positive false 0 0 (length (after_writes (arranging first c) d)))
      ∙ ap (λ (l : List Sector). data_sectors l) (sym after_is)

  g_has : HasLabels (settled_disk d (orders_of root first c)) n (settled_labels labels c.sector_states.items (leaders_by c.heads.items))
  g_has = record {
    sectors = g_long ∙ has.sectors;
    are = sym (ap (map (λ (s : Sector). s.0)) g_data ∙ labels_then n labels c.sector_states.items c.heads.items accepted same sorted d has are within);
  }

  now_valid : IsValidRoot n (today root)
  now_valid = record { version = refl; accepted = (accepted.0, omega (arith, accepted.1)); count = valid.count; serial = valid.serial; counter = valid.counter }

  g_page : root_page (settled_disk d (orders_of root first c)) ≡ root_bytes (today root)
  g_page = ap page_in (get_set_same (after_writes (arranging first c) d) 0 (root_label, root_bytes (today root)) (let a = count.0 in omega (arith, long_after, a)))

  module _ (counter : root.counter < 2 ^ 32) where
    g_root : today root ≡ root_in (root_page (settled_disk d (orders_of root first c)))
    g_root = sym (ap root_in g_page ∙ root_read n (today root) now_valid serial counter)

    is_for_g : AreFor (settled_disk d (orders_of root first c)) (orders (today root) first c.maps)
    is_for_g = for (settled_disk d (orders_of root first c)) g_has g_root

    for_d : IsFor d (orders_of root first c)
    for_d = record {
      root = read;
      arrange = arrange_is;
      bits = is_for_g.bits;
      names = is_for_g.names;
      counter = subst (λ (r : Root). IsRaised (settled_disk d (orders_of root first c)) r.serial r.counter c.maps.counter) (sym g_root) is_for_g.counter;
      serial_fits = serial;
      counter_fits = is_for_g.counter_fits;
    }

    has_room : total_room (files_old d) ≤ capacity (length d)
    has_room = subst (λ (k : ℕ). total_room (files_old d) ≤ capacity k) (sym has.sectors) (let t = revealed_room d c.revealed revealed in omega (arith, t, room))

    none_freed : places_by is_freed first c.maps.sector_states.items ≡ []
    none_freed = is_for_g.freed ∙ none_unneeded d (orders_of root first c) (is_conversion d (orders_of root first c) form (subst (λ (k : ℕ). IsValidOldRoot k root) (sym has.sectors) valid) has_room for_d)

    writes_are : all_writes root first c ≡ convert_writes (orders_of root first c)
    writes_are =
        ap (λ (is : List ℕ). arranging first c ++ ((freeing is ++ (map_writes 1 1 (vec_mem_bytes c.maps.bits) (vam root.sectors) ++ map_writes 2 (1 + vam root.sectors) (vec_mem_bytes c.maps.names) (vfm root.sectors))) ++ root_write (closed_today (orders_of root first c)) ∷ [])) none_freed
        ∙ sym (append_assoc (arranging first c) (both_maps (orders_of root first c)) (root_write (closed_today (orders_of root first c)) ∷ []))

    pub planned_for : IsPlannedFor d root first c
    planned_for = record { for_it = for_d; writes = writes_are; revealed = revealed }

-- any disk with the labels that are planned for has the sector states that are planned for
pub stand_for : (n : ℕ) (labels : List Label) (sector_states : List SectorState) (hs : List Head) → IsOldCount n → length sector_states ≡ length labels → AreHeads labels sector_states hs
    → ((d : List Sector) → HasLabels d n labels → AreSectorStates (all_reread d) sector_states) → (revealed : Converted) → ((d : List Sector) → HasLabels d n labels → IsRevealed d revealed) → revealed.files + revealed.pages ≤ capacity n
    → (relabelled : List Label) (settled : List SectorState) (count : ℕ) → relabelled ≡ settled_labels labels sector_states (leaders_by hs) → settled ≡ settled_sector_states sector_states count → count ≡ length hs
    → (d : List Sector) → HasLabels d n relabelled → AreSectorStates d settled
stand_for n labels sector_states hs accepted same sorted stand revealed reveals room relabelled settled count labels_are sector_states_are count_is d has =
    subst (λ (xs : List SectorState). AreSectorStates d xs) (sym (sector_states_are ∙ ap (settled_sector_states sector_states) count_is))
    (settled_stand_all n labels sector_states hs accepted same sorted stand (λ e h. (let t = revealed_room e revealed (reveals e h) in omega (arith, t, room))) d
    (subst (λ (ls : List Label). HasLabels d n ls) labels_are has))

-- Three rows of writes.
module _ (f l s : List DiskWrite) (a b : DiskState) where
  pub stopped_first : (e x : DiskError) → Carries f a (Err e) b → Carries ((f ++ l) ++ s) a (Err x) b
  stopped_first e x failed = carries_stopped (f ++ l) s a b e x (carries_stopped f l a b e e failed)

  pub stopped_second : (c : DiskState) (e x : DiskError) → Carries {E = DiskError} f a (Ok tt) b → Carries l b (Err e) c → Carries ((f ++ l) ++ s) a (Err x) c
  stopped_second c e x made failed = carries_stopped (f ++ l) s a c e x (carries_then f l a b c (Err e) made failed)

  pub all_three : (c e : DiskState) (r : Result (Unit {0}) DiskError) → Carries {E = DiskError} f a (Ok tt) b → Carries {E = DiskError} l b (Ok tt) c → Carries s c r e → Carries ((f ++ l) ++ s) a r e
  all_three c e r one two three = carries_then (f ++ l) s a c e r (carries_then f l a b c (Ok tt) one two) three

-- What is said of slices of these vectors.

pub heads_moved : (ls ms : List Label) (xs ys : List SectorState) (hs : List Head) → ms ≡ ls → ys ≡ xs → AreHeads ms ys hs → AreHeads ls xs hs
heads_moved ls ms xs ys hs labels sector_states are = subst (λ (l : List Label). AreHeads l xs hs) labels (subst (λ (x : List SectorState). AreHeads ms x hs) sector_states are)

pub relabelled_moved : (r ls ms : List Label) (xs ys : List SectorState) (hs ks : List Head) → ms ≡ ls → ys ≡ xs → ks ≡ hs → r ≡ settled_labels ms ys (leaders_by ks) → r ≡ settled_labels ls xs (leaders_by hs)
relabelled_moved r ls ms xs ys hs ks labels sector_states heads is =
    is ∙ ap (λ (l : List Label). settled_labels l ys (leaders_by ks)) labels ∙ ap (λ (x : List SectorState). settled_labels ls x (leaders_by ks)) sector_states ∙ ap (λ (h : List Head). settled_labels ls xs (leaders_by h)) heads

pub freed_moved : (first : ℕ) (xs ys : List SectorState) (a b : DiskState) (r : Result (Unit {0}) DiskError) → ys ≡ xs → Carries (freeing (places_by is_freed first ys)) a r b → Carries (freeing (places_by is_freed first xs)) a r b
freed_moved first xs ys a b r same carries = subst (λ (x : List SectorState). Carries (freeing (places_by is_freed first x)) a r b) same carries

pub led_moved : (first : ℕ) (xs ys : List SectorState) (hs ks : List Head) (a b : DiskState) (r : Result (Unit {0}) DiskError) → ys ≡ xs → ks ≡ hs
    → Carries (leader_writes (places_by is_spare first ys) (leaders_by ks)) a r b → Carries (leader_writes (places_by is_spare first xs) (leaders_by hs)) a r b
led_moved first xs ys hs ks a b r sector_states heads carries =
    subst (λ (h : List Head). Carries (leader_writes (places_by is_spare first xs) (leaders_by h)) a r b) heads (subst (λ (x : List SectorState). Carries (leader_writes (places_by is_spare first x) (leaders_by ks)) a r b) sector_states carries)

-- the data sectors lie on the disk
pub data_fits : (l : Layout) (n m : ℕ) → l ≡ layout_of n → IsOldCount n → m ≡ n - first_data n → l.first + m ≤ n
data_fits l n m is accepted long =
    let parts = of_layout l n is in
    let within = first_within n (accepted.0, omega (arith, accepted.1)) in
    omega (arith, parts.first, within, long)

-- what is revealed of a disk with these labels
pub revealed_moved : (d : List Sector) (n : ℕ) → IsOldCount n → (labels ls : List Label) (sector_states xs : List SectorState) (revealed : Converted) → HasLabels d n labels → ls ≡ labels → xs ≡ sector_states
    → (ls ≡ map (λ s. s.0) (data_sectors d) → AreSectorStates (all_reread d) sector_states) → (length d ≤ 65536 → AreSectorStates (all_reread d) xs → IsRevealed d revealed) → IsRevealed d revealed
revealed_moved d n accepted labels ls sector_states xs revealed has labels_are sector_states_are stand reveals =
    reveals (omega (arith, has.sectors, accepted.1)) (subst (λ (x : List SectorState). AreSectorStates (all_reread d) x) (sym sector_states_are) (stand (labels_are ∙ has.are)))

-- Which numbers an error has.

wanted_in : {T : Type 0} → Result T ConvertFault → ℕ
wanted_in (Err (why.Unfit wanted room)) = wanted
wanted_in r = 0

room_in : {T : Type 0} → Result T ConvertFault → ℕ
room_in (Err (why.Unfit wanted room)) = room
room_in r = 0

pub unfit_is : {T : Type 0} (r : Result T ConvertFault) (e : ConvertFault) (wanted room v k : ℕ) → r ≡ Err e → e ≡ why.Unfit v k → r ≡ Err (why.Unfit wanted room) → (wanted ≡ v) × (room ≡ k)
unfolding wanted_in room_in
unfit_is {T} r e wanted room v k is unfit same =
    let both : ◌≡◌ {A = Result T ConvertFault} (Err (why.Unfit wanted room)) (Err (why.Unfit v k)) = sym same ∙ is ∙ ap (λ (f : ConvertFault). Err f) unfit in
    (ap (λ (x : Result T ConvertFault). wanted_in x) both, ap (λ (x : Result T ConvertFault). room_in x) both)

-- what a vector of labels holds that was settled in its place
pub settled_items : (n : ℕ) (ls ms new : List Label) (xs ys : List SectorState) (hs ks : List Head) → n ≡ length ms → ms ≡ ls → ys ≡ xs → ks ≡ hs → new ≡ settled_labels ms ys (leaders_by ks)
    → take n (new ++ drop (length new) ls) ≡ settled_labels ls xs (leaders_by hs)
settled_items n ls ms new xs ys hs ks full labels sector_states heads is =
    let moved = relabelled_moved new ls ms xs ys hs ks labels sector_states heads is in
    let long : length new ≡ length ls = ap (λ (l : List Label). length l) moved ∙ made_long (settled_label_at ls xs (leaders_by hs)) 0 (length ls) in
    refilled n ls new (omega (arith, full, ap (λ (l : List Label). length l) labels)) long ∙ moved
