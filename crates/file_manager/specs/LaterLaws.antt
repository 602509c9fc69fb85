-- What was so since an initial state before a call is so after it, and after a call that wrote no label the other way.
use Rattle.std.proofs.Common.{◌≡◌, ◌⊎◌, inl, inr, ℕ, ◌<◌, ◌≤◌, false, List, [], ◌++◌, length, Some, refl, sym, ◌∙◌, ap, subst, arith, append_assoc}
use Rattle.std.specs.Prelude.{slice_get, option_map}
use Rattle.std.proofs.lemmas.Option.{same_Some, none-some, slice_get_within}
use Rattle.labelled_disk.specs.declared.disk.DiskWrite.{DiskWrite}
use Rattle.labelled_disk.specs.declared.disk.DiskWrite.TheVariants as write
use Rattle.labelled_disk.specs.declared.evidence.Evidence.{Evidence}
use Rattle.labelled_disk.specs.declared.evidence.Evidence.TheVariants.{Mismatch, Malformed, Missing}
use Rattle.labelled_disk.specs.declared.evidence.Halt.{Halt}
use Rattle.labelled_disk.specs.declared.evidence.Halt.TheVariants as halt
use Rattle.labelled_disk.specs.declared.layout.Layout.{Layout}
use Rattle.labelled_disk.specs.Label.{page_label}
use Rattle.labelled_disk.specs.Runs.{zero_bytes}
use Rattle.labelled_disk.specs.Sectors.{free_label}
use Rattle.labelled_disk.specs.State.{DiskState}
use Rattle.frame_pool.specs.declared.home.Home.{Home}
use Rattle.frame_pool.specs.Frames.{Slots}
use Rattle.swapper_kernel.specs.Goes.{Makes, Pages, is_page_write}
use Rattle.swapper_kernel.specs.Homes.{home_at}
use Rattle.volume_root.specs.declared.root.Root.{Root}
use Rattle.file_manager.specs.Creating.{next_id}
use Rattle.file_manager.specs.Reasons.{InitialState, AnsweredSince, GivesOut, Gives, GivesUp, HadNamed, HasMade, HasReason, HasRoot, IsAt, IsAtHome, IsFilledUp, IsReleased, IsOne, IsSince, IsUsed, Releases, MayBeFree, ShowsReason, Takes, WasGiven, WasMade}
use Rattle.file_manager.specs.WriteLaws.{GivesNot, Stays, TakesNot, UpNot, WasSo, at_stays, at_was, get_either, get_end, get_prefix, gives_label, gives_up_label, label_among, label_back, releases_stays, releases_was, one_stays, one_was, same_end, takes_label}

-- ---- What was so before a call is so after it.

module _ (o : InitialState) {pages : Pages} {run : List DiskWrite} {a b : DiskState} {s t : Slots} (makes : Makes pages run a s b t) where
  revealed_later : (more : List DiskWrite) → a.writes ≡ Some (o.writes ++ more) → b.writes ≡ Some (o.writes ++ (more ++ makes.wrote.writes))
  revealed_later more revealed =
      makes.wrote.appended.revealed ∙ ap (option_map (λ (earlier : List DiskWrite). earlier ++ makes.wrote.writes)) revealed
      ∙ ap (λ (ws : List DiskWrite). Some ws) (append_assoc o.writes more makes.wrote.writes)

  pub since_later : IsSince o a → IsSince o b
  since_later (more, revealed) = (more ++ makes.wrote.writes, revealed_later more revealed)

  -- what is revealed since then are the writes before the call, and those of the call
  revealed_now : (since : IsSince o a) (more : List DiskWrite) → b.writes ≡ Some (o.writes ++ more) → more ≡ since.0 ++ makes.wrote.writes
  revealed_now since more revealed = same_end o.writes more (since.0 ++ makes.wrote.writes) (same_Some (o.writes ++ more) (o.writes ++ (since.0 ++ makes.wrote.writes)) (sym revealed ∙ revealed_later since.0 since.1))

  has_later : (is : List DiskWrite → ℕ → Type 0) → Stays is → HasMade o.writes a.writes is → HasMade o.writes b.writes is
  has_later is stays made = record {
    more = made.more ++ makes.wrote.writes;
    revealed = revealed_later made.more made.revealed;
    turn = made.turn;
    evidence_seen = stays made.more makes.wrote.writes made.turn made.evidence_seen;
  }

  pub made_later : {w : DiskWrite} → WasMade o a w → WasMade o b w
  made_later {w = w} made = has_later (IsAt w) (at_stays w) made

  pub at_home_later : (home : Home) → IsAtHome o a home → IsAtHome o b home
  at_home_later home (inl named) = inl named
  at_home_later home (inr (kind, made)) = inr (kind, made_later made)

  filled_up_later : (x : Layout) → IsFilledUp o x a → IsFilledUp o x b
  filled_up_later x h = record { homes = h.homes; counted = h.counted; each = λ k home at. at_home_later home (h.each k home at); apart = h.apart }

  -- Each label that the call wrote stands after all that was written before; before it stand labels that had been written, and
  -- those that the call wrote before it.
  place_now : (since : IsSince o a) (k : ℕ) (w : DiskWrite) → slice_get run k ≡ Some w
      → (later : ℕ) × (length since.0 ≤ later) × (slice_get (since.0 ++ makes.wrote.writes) later ≡ Some w)
      × ((i : ℕ) (v : DiskWrite) → i < later → slice_get (since.0 ++ makes.wrote.writes) i ≡ Some v → is_page_write v ≡ false → (slice_get since.0 i ≡ Some v) ⊎ ((m : ℕ) × (m < k) × (slice_get run m ≡ Some v)))
  place_now since k w at =
      let among = label_among makes.wrote.writes k w (ap (λ (ws : List DiskWrite). slice_get ws k) makes.wrote.labels ∙ at) in
      let there = get_end since.0 makes.wrote.writes among.0 w among.1 in
      let same = there.1 in (
        there.0,
        omega (arith, same),
        there.2,
        λ i v below here label. elim (get_either since.0 makes.wrote.writes i v here) [
          | inl was ↦ inl was
          | inr (j, place, now) ↦
              let m = among.2 j v (omega (arith, below, same, place)) now label in
              inr (m.0, m.1, ap (λ (ws : List DiskWrite). slice_get ws m.0) (sym makes.wrote.labels) ∙ m.2)
        ],
      )

  -- so it was written since
  pub made_now : IsSince o a → (k : ℕ) (w : DiskWrite) → slice_get run k ≡ Some w → WasMade o b w
  made_now since k w at =
      let there = place_now since k w at in
      record { more = since.0 ++ makes.wrote.writes; revealed = revealed_later since.0 since.1; turn = there.0; evidence_seen = there.2 }

  -- and what the writes of the call are of labels the call wrote
  written_back : (j : ℕ) (w : DiskWrite) → slice_get makes.wrote.writes j ≡ Some w → is_page_write w ≡ false → (k : ℕ) × (slice_get run k ≡ Some w)
  written_back j w here label =
      let back = label_back makes.wrote.writes j w here label in
      (back.0, ap (λ (ws : List DiskWrite). slice_get ws back.0) (sym makes.wrote.labels) ∙ back.1)

  -- a root that was written since had been before the call, or the call wrote it
  pub root_either : IsSince o a → (root : Root) → HasMade o.writes b.writes (HasRoot root) → HasMade o.writes a.writes (HasRoot root) ⊎ ((k : ℕ) × HasRoot root run k)
  root_either since root made =
      let label = made.evidence_seen.0 in
      let page = made.evidence_seen.1.0 in
      let same = revealed_now since made.more made.revealed in
      elim (get_either since.0 makes.wrote.writes made.turn (write.Whole 0 label page) (ap (λ (ws : List DiskWrite). slice_get ws made.turn) (sym same) ∙ made.evidence_seen.1.1.0)) [
        | inl was ↦ inl (record { more = since.0; revealed = since.1; turn = made.turn; evidence_seen = (label, (page, (was, made.evidence_seen.1.1.1))) })
        | inr (j, place, here) ↦ let back = written_back j (write.Whole 0 label page) here refl in inr (back.0, (label, (page, (back.1, made.evidence_seen.1.1.1))))
      ]

  -- where a page was given a sector, it had been before the call, or the call did so
  pub given_either : IsSince o a → (home : Home) → WasGiven o b home → WasGiven o a home ⊎ ((k : ℕ) × ((w : DiskWrite) × ((slice_get run k ≡ Some w) × Gives home w)))
  given_either since home (kind, made) =
      let w = write.Whole home.sector (page_label home.id kind home.page) zero_bytes in
      elim (get_either since.0 makes.wrote.writes made.turn w (ap (λ (ws : List DiskWrite). slice_get ws made.turn) (sym (revealed_now since made.more made.revealed)) ∙ made.evidence_seen)) [
        | inl was ↦ inl (kind, record { more = since.0; revealed = since.1; turn = made.turn; evidence_seen = was })
        | inr (j, place, here) ↦ let back = written_back j w here refl in inr (back.0, (w, (back.1, (kind, refl))))
      ]

  -- writes are answered still where the call made none of the one kind
  answered_later : (gives : DiskWrite → Type 0) (releases : List DiskWrite → ℕ → Type 0) → ((w : DiskWrite) → gives w → is_page_write w ≡ false) → Stays releases → ((turn : ℕ) (w : DiskWrite) → slice_get run turn ≡ Some w → gives w → ⊥)
      → AnsweredSince o.writes a.writes gives releases → AnsweredSince o.writes b.writes gives releases
  answered_later gives releases label stays none h = (
    h.0 ++ makes.wrote.writes,
    revealed_later h.0 h.1,
    λ turn w at given. elim (get_either h.0 makes.wrote.writes turn w at) [
      | inl was ↦ let l = h.2 turn w was given in (l.0, l.1, stays h.0 makes.wrote.writes l.0 l.2)
      | inr (j, place, here) ↦ let back = written_back j w here (label w given) in absurd (none back.0 w back.1 given)
    ],
  )

  -- and where it made one of the other kind besides, all are
  answered_now : (gives : DiskWrite → Type 0) (releases : List DiskWrite → ℕ → Type 0) → ((w : DiskWrite) → gives w → is_page_write w ≡ false) → (since : IsSince o a) → ((turn : ℕ) (w : DiskWrite) → slice_get run turn ≡ Some w → gives w → ⊥)
      → (later : ℕ) → length since.0 ≤ later → ((turn : ℕ) (w : DiskWrite) → slice_get since.0 turn ≡ Some w → gives w → releases (since.0 ++ makes.wrote.writes) later) → AnsweredSince o.writes b.writes gives releases
  answered_now gives releases label since none later after released_so = (
    since.0 ++ makes.wrote.writes,
    revealed_later since.0 since.1,
    λ turn w at given. elim (get_either since.0 makes.wrote.writes turn w at) [
      | inl was ↦ let below : turn < length since.0 = slice_get_within since.0 turn w was in (later, omega (arith, below, after), released_so turn w was given)
      | inr (j, place, here) ↦ let back = written_back j w here (label w given) in absurd (none back.0 w back.1 given)
    ],
  )

  -- a home that was released stays so where the call gave its sector to its page in no write
  pub released_later : (home : Home) → GivesNot run home → IsReleased o a home → IsReleased o b home
  released_later home none h = record {
    initial_state = λ is. has_later (Releases (HadNamed o home.id) o.root home) (releases_stays (HadNamed o home.id) o.root home) (h.initial_state is);
    since = answered_later (Gives home) (Releases (HadNamed o home.id) o.root home) (gives_label home) (releases_stays (HadNamed o home.id) o.root home) none h.since;
  }

  -- a home is released where a write of the call let it, if it had been one, and none gave its sector to its page
  released_after : (since : IsSince o a) (home : Home) → GivesNot run home → (later : ℕ) → length since.0 ≤ later → (IsAtHome o a home → Releases (HadNamed o home.id) o.root home (since.0 ++ makes.wrote.writes) later) → IsReleased o b home
  released_after since home none later after releases = record {
    initial_state = λ is. record { more = since.0 ++ makes.wrote.writes; revealed = revealed_later since.0 since.1; turn = later; evidence_seen = releases (inl is) };
    since = answered_now (Gives home) (Releases (HadNamed o home.id) o.root home) (gives_label home) since none later after
        (λ turn w was given. releases (inr (given.0, record { more = since.0; revealed = since.1; turn = turn; evidence_seen = was ∙ ap (λ (v : DiskWrite). Some v) given.1 })));
  }

  -- so it is where the call gave the sector up
  pub released_now : IsSince o a → (home : Home) → GivesNot run home → (k : ℕ) → slice_get run k ≡ Some (write.LabelOnly home.sector free_label) → IsReleased o b home
  released_now since home none k at =
      let there = place_now since k (write.LabelOnly home.sector free_label) at in
      released_after since home none there.0 there.1 (λ was. inl there.2)

  -- and where it gave out the identifier of the page's file, and no root that had been written had: the file map lied of it, if the
  -- page had been given the sector
  pub released_counted : IsSince o a → (home : Home) → GivesNot run home → (k : ℕ) → GivesOut o.root home.id run k → ((root : Root) → HasMade o.writes a.writes (HasRoot root) → next_id root ≤ home.id) → (WasGiven o a home → HadNamed o home.id) → IsReleased o b home
  released_counted since home none k out before lied =
      let label = out.is.0 in
      let page = out.is.1.0 in
      let there = place_now since k (write.Whole 0 label page) out.is.1.1.0 in
      released_after since home none there.0 there.1 (λ was. inr (
        elim was [ inl is ↦ (home.page, home.sector, is) | inr given ↦ lied given ],
        record {
          root = out.root;
          is = (label, (page, (there.2, out.is.1.1.1)));
          counts = out.counts;
          first = λ earlier other below has. elim (there.3 earlier (write.Whole 0 has.0 has.1.0) below has.1.1.0 refl) [
            | inl was ↦ before other (record { more = since.0; revealed = since.1; turn = earlier; evidence_seen = (has.0, (has.1.0, (was, has.1.1.1))) })
            | inr (m, prefix, now) ↦ out.first m other prefix (has.0, (has.1.0, (now, has.1.1.1)))
          ];
        },
      ))

  -- a sector may be free as before where the call gave it to no page
  pub may_be_free_later : (sector : ℕ) → TakesNot run sector → MayBeFree o a sector → MayBeFree o b sector
  may_be_free_later sector none h = record {
    initial_state = elim h.initial_state [ inl free ↦ inl free | inr made ↦ inr (has_later (IsAt (write.LabelOnly sector free_label)) (at_stays (write.LabelOnly sector free_label)) made) ];
    since = answered_later (Takes sector) (IsOne (GivesUp sector)) (takes_label sector) (one_stays (GivesUp sector)) none h.since;
  }

  -- and where the call gave it up, and to no page
  pub free_now : IsSince o a → (sector : ℕ) → TakesNot run sector → (k : ℕ) → slice_get run k ≡ Some (write.LabelOnly sector free_label) → MayBeFree o b sector
  free_now since sector none k at =
      let w = write.LabelOnly sector free_label in
      let there = place_now since k w at in
      record {
        initial_state = inr (made_now since k w at);
        since = answered_now (Takes sector) (IsOne (GivesUp sector)) (takes_label sector) since none there.0 there.1 (λ turn v was takes. (w, refl, there.2));
      }

  -- one that is used stays so where the call did not give it up
  pub used_later : (sector : ℕ) → UpNot run sector → IsUsed o a sector → IsUsed o b sector
  used_later sector none h = record {
    initial_state = elim h.initial_state [ inl used ↦ inl used | inr taken ↦ inr (has_later (IsOne (Takes sector)) (one_stays (Takes sector)) taken) ];
    since = answered_later (GivesUp sector) (IsOne (Takes sector)) (gives_up_label sector) (one_stays (Takes sector)) none h.since;
  }

  -- and where the call gave it to a page, and did not give it up
  pub used_now : IsSince o a → (sector : ℕ) → UpNot run sector → (k id kind page : ℕ) → slice_get run k ≡ Some (write.Whole sector (page_label id kind page) zero_bytes) → IsUsed o b sector
  used_now since sector none k id kind page at =
      let w = write.Whole sector (page_label id kind page) zero_bytes in
      let there = place_now since k w at in
      let taken : IsOne (Takes sector) (since.0 ++ makes.wrote.writes) there.0 = (w, (id, page, (kind, refl)), there.2) in
      record {
        initial_state = inr (record { more = since.0 ++ makes.wrote.writes; revealed = revealed_later since.0 since.1; turn = there.0; evidence_seen = taken });
        since = answered_now (GivesUp sector) (IsOne (Takes sector)) (gives_up_label sector) since none there.0 there.1 (λ turn v was up. taken);
      }

-- ---- What is so after a call that wrote no label was so before.

module _ (o : InitialState) {pages : Pages} {a b : DiskState} {s t : Slots} (makes : Makes pages [] a s b t) (since : IsSince o a) where
  has_before : (is : List DiskWrite → ℕ → Type 0) → WasSo is → HasMade o.writes b.writes is → HasMade o.writes a.writes is
  has_before is was made = record {
    more = since.0;
    revealed = since.1;
    turn = made.turn;
    evidence_seen = was since.0 makes.wrote.writes made.turn makes.wrote.labels (subst (λ (ws : List DiskWrite). is ws made.turn) (revealed_now o makes since made.more made.revealed) made.evidence_seen);
  }

  pub at_home_before : (home : Home) → IsAtHome o b home → IsAtHome o a home
  at_home_before home (inl named) = inl named
  at_home_before home (inr (kind, made)) = let w = write.Whole home.sector (page_label home.id kind home.page) zero_bytes in inr (kind, has_before (IsAt w) (at_was w refl) made)

  answered_before : (gives : DiskWrite → Type 0) (releases : List DiskWrite → ℕ → Type 0) → WasSo releases → AnsweredSince o.writes b.writes gives releases → AnsweredSince o.writes a.writes gives releases
  answered_before gives releases were h = (
    since.0,
    since.1,
    λ turn w at given.
        let same = revealed_now o makes since h.0 h.1 in
        let l = h.2 turn w (ap (λ (ws : List DiskWrite). slice_get ws turn) same ∙ get_prefix since.0 makes.wrote.writes turn w at) given in
        (l.0, l.1, were since.0 makes.wrote.writes l.0 makes.wrote.labels (subst (λ (ws : List DiskWrite). releases ws l.0) same l.2)),
  )

  released_before : (home : Home) → IsReleased o b home → IsReleased o a home
  released_before home h = record {
    initial_state = λ is. has_before (Releases (HadNamed o home.id) o.root home) (releases_was (HadNamed o home.id) o.root home) (h.initial_state is);
    since = answered_before (Gives home) (Releases (HadNamed o home.id) o.root home) (releases_was (HadNamed o home.id) o.root home) h.since;
  }

  pub may_be_free_before : (sector : ℕ) → MayBeFree o b sector → MayBeFree o a sector
  may_be_free_before sector h = record {
    initial_state = elim h.initial_state [ inl free ↦ inl free | inr made ↦ inr (has_before (IsAt (write.LabelOnly sector free_label)) (at_was (write.LabelOnly sector free_label) refl) made) ];
    since = answered_before (Takes sector) (IsOne (GivesUp sector)) (one_was (GivesUp sector) (gives_up_label sector)) h.since;
  }

  used_before : (sector : ℕ) → IsUsed o b sector → IsUsed o a sector
  used_before sector h = record {
    initial_state = elim h.initial_state [ inl used ↦ inl used | inr taken ↦ inr (has_before (IsOne (Takes sector)) (one_was (Takes sector) (takes_label sector)) taken) ];
    since = answered_before (GivesUp sector) (IsOne (Takes sector)) (one_was (Takes sector) (takes_label sector)) h.since;
  }

  reason_before : (x : Layout) (e : Evidence) → HasReason o x b e → HasReason o x a e
  reason_before x (Mismatch sector wanted found) (inl own) = inl own
  reason_before x (Mismatch sector wanted found) (inr (inl home)) = inr (inl (at_home_before (home_at sector wanted) home))
  reason_before x (Mismatch sector wanted found) (inr (inr (none, free))) = inr (inr (none, may_be_free_before sector free))
  reason_before x (Malformed structure page) (inl (second, first, full)) =
      inl (second, first, record { homes = full.homes; counted = full.counted; each = λ k home at. at_home_before home (full.each k home at); apart = full.apart })
  reason_before x (Malformed structure page) (inr third) = inr third
  reason_before x (Missing id page) (inl (tables, first, up)) = inl (tables, first, λ sector from below. used_before sector (up sector from below))
  reason_before x (Missing id page) (inr (may, gone)) = inr (may, λ sector from. released_before _ (gone sector from))

  pub shows_before : (x : Layout) (e : Halt) → ShowsReason o x b e → ShowsReason o x a e
  shows_before x halt.Disk is = is
  shows_before x (halt.Damaged evidence) is = reason_before x evidence is

  reason_later : (x : Layout) (e : Evidence) → HasReason o x a e → HasReason o x b e
  reason_later x (Mismatch sector wanted found) (inl own) = inl own
  reason_later x (Mismatch sector wanted found) (inr (inl home)) = inr (inl (at_home_later o makes (home_at sector wanted) home))
  reason_later x (Mismatch sector wanted found) (inr (inr (none, free))) = inr (inr (none, may_be_free_later o makes sector (λ k w at takes. none-some w at) free))
  reason_later x (Malformed structure page) (inl (second, first, full)) = inl (second, first, filled_up_later o makes x full)
  reason_later x (Malformed structure page) (inr third) = inr third
  reason_later x (Missing id page) (inl (tables, first, up)) = inl (tables, first, λ sector from below. used_later o makes sector (λ k w at up_so. none-some w at) (up sector from below))
  reason_later x (Missing id page) (inr (may, gone)) = inr (may, λ sector from. released_later o makes _ (λ k w at gives. none-some w at) (gone sector from))

  pub shows_later : (x : Layout) (e : Halt) → ShowsReason o x a e → ShowsReason o x b e
  shows_later x halt.Disk is = is
  shows_later x (halt.Damaged evidence) is = reason_later x evidence is
