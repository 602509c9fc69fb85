-- Frames of a run of a file's pages are given up without a write.
use Rattle.std.proofs.Common.{◌≡◌, ◌⊎◌, inl, inr, ℕ, ◌+◌, ◌*◌, ◌<◌, ◌≤◌, Bool, true, List, [], Some, sym, ◌∙◌, ap, subst, arith}
use Rattle.std.specs.Prelude.{◌&&◌, nat_le, slice_get}
use Rattle.std.proofs.lemmas.Bool.{cases_eq, cases_lt, true≢false}
use Rattle.std.proofs.lemmas.Bool.Decides.{nat_tests}
use Rattle.std.proofs.lemmas.Option.{same_Some}
use Rattle.labelled_disk.specs.declared.label.Label.{Label}
use Rattle.labelled_disk.specs.Label.{names}
use Rattle.labelled_disk.specs.Sectors.{Sector, AreSectors}
use Rattle.labelled_disk.specs.State.{DiskState}
use Rattle.flat_mem.specs.Memory.{part}
use Rattle.frame_pool.specs.declared.home.Home.{Home}
use Rattle.frame_pool.specs.Frames.{Frame, Slots, Has, IsWithin}
use Rattle.file_map.specs.FileMap.{Triples}
use Rattle.swapper_kernel.specs.Homes.{ArePlaced, IsHeld, IsLayout, wanted_at}
use Rattle.swapper_kernel.specs.Differs.{Differs, of_run}
use Rattle.swapper_kernel.specs.DiffersLaws.{same_length, other_sector, label_here, names_id, names_page}
use Rattle.swapper_kernel.specs.Goes.{Goes, no_page}
use Rattle.swapper_kernel.specs.GoesLaws.{makes_wider}
use Rattle.swapper_kernel.specs.HaltLaws.{brings_same}
use Rattle.swapper_kernel.specs.OnceLaws.{over_or_clean}
use Rattle.swapper_kernel.specs.Stands.{IsClean, IsHome, Stands, labels_of}
use Rattle.filer_kernel.specs.Tables.{IsTablePage}
use Rattle.force_calls.specs.Run.{OnlyRun}
use Rattle.fault_core.specs.Moves.{Leaves}
use Rattle.fault_core.specs.Revealed.{Known}
use Rattle.fault_core.specs.Touch.{and_own, on_data, Touches}
use Rattle.filer_kernel.specs.View.{View}
use Rattle.fault_core.proofs.BeforeLemmas.{map_still}
use Rattle.fault_core.proofs.FrameLemmas.{client_on_data}
use Rattle.fault_core.proofs.StoreLemmas.{named_still}

within_or_not : (id first pages : ℕ) (h : Home) → IsWithin id first pages h ⊎ (IsWithin id first pages h → ⊥)
within_or_not id first pages h = elim (cases_eq h.id id) [
  | inr other ↦ inr (λ within. other within.0)
  | inl same ↦ elim (cases_lt h.page first) [
    | inl prefix ↦ inr (λ within. let from = within.1 in absurd (omega (arith, prefix, from)))
    | inr from ↦ elim (cases_lt h.page (first + pages)) [
      | inl below ↦ inl (same, from, below)
      | inr past ↦ inr (λ within. let below = within.2 in absurd (omega (arith, past, below)))
    ]
  ]
]

-- a frame of the run was over the sector
pub record IsLost (id first pages : ℕ) (s : Slots) (k : ℕ) : Type 0 where
  pub slot : ℕ
  pub frame : Frame
  pub has : Has s slot frame
  pub at : frame.home.sector ≡ k
  pub within : IsWithin id first pages frame.home

-- ---- The memories before and after.

module _ (id first pages : ℕ) (d : DiskState) (s t : Slots) (left : (i : ℕ) (f : Frame) → Has t i f → Has s i f) (run : OnlyRun id first pages s t) (m n : List Sector) (before : Stands d s m) (after : Stands d t n) where
  same_disk : after.sectors ≡ before.sectors
  same_disk = same_Some {A = List Sector} after.sectors before.sectors (sym after.revealed ∙ before.revealed)

  pub same_labels : labels_of n ≡ labels_of m
  same_labels = after.merged.labels ∙ ap labels_of same_disk ∙ sym before.merged.labels

  -- a frame that stays
  stays_there : (i : ℕ) (f : Frame) → Has t i f → slice_get n f.home.sector ≡ slice_get m f.home.sector
  stays_there i f has =
      let a : IsHome n f = after.merged.frames i f has in
      let b : IsHome m f = before.merged.frames i f (left i f has) in
      let labels : Some a.label ≡ Some b.label =
      sym (label_here n f.home.sector (a.label, f.bytes) a.keeps) ∙ ap (λ (ls : List Label). slice_get ls f.home.sector) same_labels ∙ label_here m f.home.sector (b.label, f.bytes) b.keeps in
      a.keeps ∙ ap (λ (x : Label). Some (x, f.bytes)) (same_Some a.label b.label labels) ∙ sym b.keeps

  bare : (k : ℕ) → IsClean t k → slice_get n k ≡ slice_get before.sectors k
  bare k clean = after.merged.clean k clean ∙ ap (λ (l : List Sector). slice_get l k) same_disk

  stays_or_of : (i : ℕ) (f : Frame) → Has s i f → Has t i f ⊎ IsWithin id first pages f.home
  stays_or_of i f has = elim (within_or_not id first pages f.home) [
    | inl within ↦ inr within
    | inr outside ↦ inl (record {
      is = run.others i (λ g there within.
          let same : g ≡ f = same_Some g f (same_Some (Some g) (Some f) (sym there.is ∙ has.is)) in
          outside (subst (λ (h : Frame). IsWithin id first pages h.home) same within)) ∙ has.is;
    })
  ]

  -- a sector is as it was, or is the home of a frame of the run
  pub same_or_lost : (k : ℕ) → (slice_get n k ≡ slice_get m k) ⊎ IsLost id first pages s k
  same_or_lost k = elim (over_or_clean s k) [
    | inr clean ↦ inl (bare k (λ i f has dirty. clean i f (left i f has) dirty) ∙ sym (before.merged.clean k clean))
    | inl over ↦ elim (stays_or_of over.slot over.frame over.has) [
      | inl stays ↦ inl (ap (slice_get n) (sym over.at) ∙ stays_there over.slot over.frame stays ∙ ap (slice_get m) over.at)
      | inr within ↦ inr (record { slot = over.slot; frame = over.frame; has = over.has; at = over.at; within = within })
    ]
  ]

  pub still_in_form : AreSectors m → AreSectors before.sectors → AreSectors n
  still_in_form sectors own k x here = elim (over_or_clean t k) [
    | inl over ↦ sectors k x (sym (ap (slice_get n) (sym over.at) ∙ stays_there over.slot over.frame over.has ∙ ap (slice_get m) over.at) ∙ here)
    | inr clean ↦ own k x (sym (bare k clean) ∙ here)
  ]

  -- the label of such a sector names a page of the run
  lost_label : (k : ℕ) (l : IsLost id first pages s k) (x : Sector) → slice_get m k ≡ Some x → names x.0 (wanted_at l.frame.home) ≡ true
  lost_label k l x here =
      let h : IsHome m l.frame = before.merged.frames l.slot l.frame l.has in
      let same : (h.label, l.frame.bytes) ≡ x = same_Some {A = Sector} (h.label, l.frame.bytes) x (sym h.keeps ∙ ap (slice_get m) l.at ∙ here) in
      subst (λ (y : Sector). names y.0 (wanted_at l.frame.home) ≡ true) same h.named

  pub lost_id : (k : ℕ) → IsLost id first pages s k → (x : Sector) → slice_get m k ≡ Some x → x.0.id ≡ id
  lost_id k l x here = names_id x.0 (wanted_at l.frame.home) (lost_label k l x here) ∙ l.within.0

  pub lost_page : (k : ℕ) (l : IsLost id first pages s k) (x : Sector) → slice_get m k ≡ Some x → x.0.page ≡ l.frame.home.page
  lost_page k l x here = names_page x.0 (wanted_at l.frame.home) (lost_label k l x here)

  pub lost_names : (k : ℕ) → IsLost id first pages s k → (x : Sector) → slice_get m k ≡ Some x → names x.0 (record { id = x.0.id; page = x.0.page }) ≡ true
  lost_names k l x here =
      let named = lost_label k l x here in
      let same_id = names_id x.0 (wanted_at l.frame.home) named in
      let same_page = lost_page k l x here in
      (λ j. names x.0 (record { id = same_id j; page = same_page j })) ∙ named

  pub differs_lost : (test : ℕ → Label → Bool) → ((k : ℕ) (x : Sector) → IsLost id first pages s k → slice_get m k ≡ Some x → test k x.0 ≡ true) → Differs test m n
  differs_lost test passes = record {
    labels = same_labels;
    pages = λ k x here fails. elim (same_or_lost k) [
      | inl same ↦ same ∙ here
      | inr lost ↦ absurd (true≢false (sym (passes k x lost here) ∙ fails))
    ];
  }

-- ---- What was known of a filer.

-- whether a data sector's label names a page of the run
abbrev pub of_data_run : ℕ → ℕ → ℕ → ℕ → ℕ → Label → Bool
of_data_run from id first pages place l = nat_le from place && of_run id first pages place l && names l (record { id = l.id; page = l.page })

module _ (v x : View) (is : IsLayout v.layout) (id first pages : ℕ) (client : 16 ≤ id) (placed : ArePlaced v.slots v.layout) (disk : x.disk ≡ v.disk) (layout : x.layout ≡ v.layout) (runs : x.runs ≡ v.runs)
    (left : (i : ℕ) (f : Frame) → Has x.slots i f → Has v.slots i f) (run : OnlyRun id first pages v.slots x.slots) (goes : Goes (Differs (of_run id first pages)) no_page [] v.disk v.slots x.disk x.slots) where
  lost_on_data : (k : ℕ) → IsLost id first pages v.slots k → v.layout.first ≤ k
  lost_on_data k l =
      let own = l.within.0 in
      subst (λ (j : ℕ). v.layout.first ≤ j) l.at (client_on_data v l.frame.home (placed l.slot l.frame l.has) (omega (arith, own, client)))

  module _ (m n : List Sector) (before : Stands v.disk v.slots m) (after : Stands x.disk x.slots n) where
    here_too : Stands v.disk x.slots n
    here_too = subst (λ (d : DiskState). Stands d x.slots n) disk after

    differs_on_data : Differs (on_data v.layout) m n
    differs_on_data = differs_lost id first pages v.disk v.slots x.slots left run m n before here_too (on_data v.layout) (λ k s lost here. let from = lost_on_data k lost in grind (arith, nat_tests, from))

    differs_in_run : Differs (of_data_run v.layout.first id first pages) m n
    differs_in_run = differs_lost id first pages v.disk v.slots x.slots left run m n before here_too (of_data_run v.layout.first id first pages) (λ k s lost here.
        let from = lost_on_data k lost in
        let same_id = lost_id id first pages v.disk v.slots x.slots left run m n before here_too k lost s here in
        let same_page = lost_page id first pages v.disk v.slots x.slots left run m n before here_too k lost s here in
        let named = lost_names id first pages v.disk v.slots x.slots left run m n before here_too k lost s here in
        let a = lost.within.1 in
        let b = lost.within.2 in
        grind (arith, nat_tests, from, same_id, same_page, named, a, b))

    table_there : (named : Triples) (k : ℕ) (page : List ℕ) → IsTablePage v.layout named m k page → IsTablePage v.layout named n k page
    table_there named k page p = record {
      sector = p.sector;
      label = p.label;
      found = p.found;
      keeps = elim (same_or_lost id first pages v.disk v.slots x.slots left run m n before here_too p.sector) [
        | inl same ↦ same ∙ p.keeps
        | inr lost ↦
            let three : p.label.id ≡ 3 = names_id p.label (record { id = 3; page = k }) p.named_so in
            let high : p.label.id ≡ id = lost_id id first pages v.disk v.slots x.slots left run m n before here_too p.sector lost (p.label, page) p.keeps in
            absurd (omega (arith, three, high, client))
      ];
      named_so = p.named_so;
    }

  -- frames that are left were there
  held_before : (home : Home) → IsHeld x.slots home → IsHeld v.slots home
  held_before home held = record { slot = held.slot; frame = held.frame; has = left held.slot held.frame held.has; at = held.at }

  pub forgot_touches : Touches no_page v x
  forgot_touches = record {
    goes = record {
      makes = makes_wider (and_own no_page) (λ id page no. absurd no) goes.makes;
      memory = λ m stands. let now = goes.memory m stands in (now.0, now.1, differs_on_data m now.0 stands now.1);
    };
    brings = brings_same _ run.frames;
    layout = layout;
    given = λ r one. inl (rw (← layout, ← runs) one);
    runs_are = λ m named stands map are. rw (layout, runs) are;
    revealed = λ b t.
        let now = goes.memory t.memory t.stands in
        rw (layout, runs) (record {
          memory = now.0;
          stands = now.1;
          triples = t.triples;
          map = map_still v.layout is t.triples t.memory now.0 (differs_on_data t.memory now.0 t.stands now.1) t.map;
          kept = t.kept;
          size = goes.makes.went.sectors ∙ t.size;
          count = t.count;
          page = λ k below. table_there t.memory now.0 t.stands now.1 t.triples k (part b (512 * k) 512) (t.page k below);
          held = λ home held three below. t.held home (held_before home held) three below;
        });
  }

  pub forgot_leaves : ((all : List Sector) → v.disk.contents ≡ Some all → AreSectors all) → (m : List Sector) (named : Triples) (b : List ℕ) → Known v m named b → Leaves (Differs (of_data_run v.layout.first id first pages)) m named b x
  forgot_leaves form m named b k =
      let now = goes.memory m k.stands in
      let n = now.0 in
      let labels = (differs_on_data m n k.stands now.1).labels in
      record {
        memory = n;
        changed = differs_in_run m n k.stands now.1;
        labels = labels;
        known = record {
          stands = now.1;
          size = goes.makes.went.sectors ∙ k.size ∙ ap (λ l. l.sectors) (sym layout);
          long = same_length m n labels ∙ k.long ∙ ap (λ l. l.sectors) (sym layout);
          sectors = still_in_form id first pages v.disk v.slots x.slots left run m n k.stands (here_too m n k.stands now.1) k.sectors (form k.stands.sectors k.stands.revealed);
          map = rw layout (map_still v.layout is named m n (differs_on_data m n k.stands now.1) k.map);
          map_labels = λ h of. named_still m n labels h (k.map_labels h (rw (← layout) of));
          runs = rw (layout, runs) k.runs;
          tabled = λ j s from_data here three.
              let was = other_sector m n labels j s here in
              let own = k.tabled j was.0 (rw (← layout) from_data) was.1 (ap (λ (l : Label). l.id) was.2 ∙ three) in
              subst (λ (l : Label). (l.page < 96) × (named 3 l.page j ≡ true)) was.2 own;
          count = k.count;
          page = λ j below. rw layout (table_there m n k.stands now.1 named j (part b (512 * j) 512) (k.page j below));
          held = λ home held three below. k.held home (held_before home held) three below;
        };
      }
