-- A conversion that ended so, by what was answered and what was put.
use Rattle.std.proofs.Common.{◌≡◌, ◌≢◌, ◌⊎◌, inl, inr, ℕ, ◌<◌, ◌≤◌, true, List, [], ◌∷◌, length, Option, Some, Result, Ok, Err, IfOk, OnOk, refl, sym, ◌∙◌, ap, subst, arith}
use Rattle.std.specs.Prelude.{slice_get, String}
use Rattle.std.specs.Io.KnownBytes.{Appends}
use Rattle.std.specs.declared.alloc.Global.{Global}
use Rattle.std.proofs.lemmas.Bool.{cases_lt}
use Rattle.labelled_disk.specs.declared.layout.RootFault.{RootFault}
use Rattle.labelled_disk.specs.declared.layout.RootFault.TheVariants as fault
use Rattle.labelled_disk.specs.Calls.{OnlyReads, Rose}
use Rattle.labelled_disk.specs.File.{total_room}
use Rattle.labelled_disk.specs.Layout.{IsCount, capacity}
use Rattle.labelled_disk.specs.Sectors.{Sector}
use Rattle.labelled_disk.specs.State.{DiskState}
use Rattle.trace_io.specs.Stream.{IsPrefixOf}
use Rattle.command_words.specs.Meaning.{Means}
use Rattle.command_words.specs.declared.words.Command.TheVariants as command
use Rattle.volume_root.specs.declared.root.Root.{Root}
use Rattle.volume_root.specs.Later.{IsLater}
use Rattle.volume_root.specs.OldRoot.{IsOldCount, judged_old}
use Rattle.old_files.specs.OldFiles.{files_old}
use Rattle.volume_convert.specs.declared.converting.Converted.{Converted}
use Rattle.volume_convert.specs.declared.fault.ConvertFault.{ConvertFault}
use Rattle.volume_convert.specs.declared.fault.ConvertFault.TheVariants as why
use Rattle.volume_convert.specs.Answers.{AccordsOld, HasNoRoom, IsNoOldVolume, LeavesOthers, Refuses}
use Rattle.volume_convert.specs.Leaves.{AreMade, ArePartMade, CostsAtMost, IsConverted, IsRevealed, StaysConvertible}
use Rattle.pilot_top.specs.Causes.{HasReason}
use Rattle.pilot_top.specs.Converting.{ConvertedBy, IsConversionLine, IsOldVolume, conversion_line, converted_text}
use Rattle.pilot_top.specs.Last.{last_line, Puts}
use Rattle.pilot_top.specs.World.{World, world}
use Rattle.pilot_top.specs.declared.last.Cause.TheVariants as cause
use Rattle.pilot_top.specs.declared.status.Status.TheVariants as status

is_old_count_or : (n : ℕ) → IsOldCount n ⊎ (IsOldCount n → ⊥)
is_old_count_or n = elim (cases_lt n 256) [
  | inl few ↦ inr (λ c. omega (arith, few, c.0))
  | inr enough ↦ elim (cases_lt 65536 n) [
    | inl many ↦ inr (λ c. omega (arith, many, c.1))
    | inr not_many ↦ inl (enough, not_many)
  ]
]

first_sector : (d : List Sector) → 0 < length d → (s : Sector) × (slice_get d 0 ≡ Some s)
first_sector [] some = absurd (omega (arith, some))
first_sector (s ∷ rest) some = (s, refl)

-- the root is judged to be refused
refused_so : (f : RootFault) (result : Result Converted ConvertFault) (right : Result Root RootFault) → AccordsOld result right → right ≡ Err f → (result ≡ Err (why.Root f)) ⊎ (result ≡ Err why.Disk)
refused_so f (Ok x) right accords is = absurd (let e = sym accords.1 ∙ is in cc e)
refused_so f (Err (why.Root other)) right accords is = inl (let e = sym accords ∙ is in ap (λ (x : RootFault). Err (why.Root x)) (cc e))
refused_so f (Err why.NoMemory) right accords is = absurd (let e = sym accords.1 ∙ is in cc e)
refused_so f (Err (why.Unfit wanted room)) right accords is = absurd (let e = sym accords.1 ∙ is in cc e)
refused_so f (Err why.Disk) right accords is = inr refl

-- the line about a conversion is that of the disk
line_is : (d : List Sector) (found : Converted) → IsRevealed d found → conversion_line found.files found.pages found.freed ≡ converted_text d
line_is d found revealed = rw (revealed.files, revealed.pages, revealed.freed) refl

-- what `convert` says of its answer
abbrev pub IsAnswered : Result Converted ConvertFault → DiskState → DiskState → Type 0
IsAnswered result old new = record {
  converted : OnOk result (IsConverted old new);
  revealed : IfOk result (λ found. (d : List Sector) → old.contents ≡ Some d → IsRevealed d found);
  synced : OnOk result (new.synced ≡ true);
  made : OnOk result (AreMade old new);
  part : result ≡ Err why.Disk → ArePartMade old new;
  crash_states : StaysConvertible old new;
  refuses : Refuses old new result;
  others : LeavesOthers old new;
  cause : result ≡ Err why.Disk → Rose old.faults new.faults;
  later : IsLater old new;
  cost : CostsAtMost old new;
}

module _ (result : Result Converted ConvertFault) (old new : DiskState) (all : IsAnswered result old new) (whole : (d : List Sector) → old.contents ≡ Some d → length d ≡ old.sectors) where
  counted : (d : List Sector) → old.contents ≡ Some d → IsOldCount old.sectors → IsOldCount (length d)
  counted d revealed is = subst (λ (n : ℕ). IsOldCount n) (sym (whole d revealed)) is

  -- a root that is refused has no old volume after it, and the other way round
  no_volume : (d : List Sector) → old.contents ≡ Some d → (f : RootFault) → result ≡ Err (why.Root f) → IsNoOldVolume d f
  no_volume d revealed f is = elim (is_old_count_or old.sectors) [
    | inl count ↦
        let s = first_sector d (omega (arith, count.0, whole d revealed)) in
        inr (counted d revealed count, s.0, s.1, subst (λ (r : Result Converted ConvertFault). AccordsOld r (judged_old (length d) s.0)) is (all.refuses.root.judged count d revealed s.0 s.1))
    | inr none ↦
        let e = sym is ∙ all.refuses.root.count none in
        inl (λ count. none (subst (λ (n : ℕ). IsOldCount n) (whole d revealed) count), cc e ∙ ap (λ (n : ℕ). fault.BadCount n) (sym (whole d revealed)))
  ]

  refuses : (d : List Sector) → old.contents ≡ Some d → (f : RootFault) → IsNoOldVolume d f → (result ≡ Err (why.Root f)) ⊎ (result ≡ Err why.Disk)
  refuses d revealed f (inl none) =
      inl (all.refuses.root.count (λ count. none.0 (counted d revealed count)) ∙ ap (λ (x : RootFault). Err (why.Root x)) (ap (λ (n : ℕ). fault.BadCount n) (sym (whole d revealed)) ∙ sym none.1))
  refuses d revealed f (inr is) = refused_so f result (judged_old (length d) is.1) (all.refuses.root.judged (subst (λ (n : ℕ). IsOldCount n) (whole d revealed) is.0) d revealed is.1 is.2) is.3

  -- an answer that is no refusal of the root comes of an old volume
  is_old : (r : Result Converted ConvertFault) → result ≡ r → ((f : RootFault) → r ≢ Err (why.Root f)) → r ≢ Err why.Disk → (d : List Sector) → old.contents ≡ Some d → IsOldVolume d
  is_old r is no_root no_disk d revealed f none = elim (refuses d revealed f none) [
    | inl root ↦ no_root f (sym is ∙ root)
    | inr disk ↦ no_disk (sym is ∙ disk)
  ]

  -- files for which an answer shows room have it
  has_room : (found : Converted) → result ≡ Ok found → (d : List Sector) → old.contents ≡ Some d → HasNoRoom d → ⊥
  has_room found is d revealed none =
      let fits = subst (λ (r : Result Converted ConvertFault). OnOk r (total_room (files_old d) ≤ capacity (length d))) is (all.refuses.room.fits d revealed) in
      omega (arith, fits, none)

  -- an old volume's count of sectors is a volume's
  is_count : IsOldCount old.sectors → IsCount old.sectors
  is_count count = (count.0, omega (arith, count.1))

  module _ (left : Option (List ℕ)) (faults : ℕ) (t u : Option (List ℕ)) (m n : ℕ) where
    abbrev before : World
    before = world old left faults t m

    abbrev after : World
    after = world new left faults u n

    -- the volume is converted
    module _ (found : Converted) (is : result ≡ Ok found) where
      ok : (T : Type 0) → OnOk result T → T
      ok T on = subst (λ (r : Result Converted ConvertFault). OnOk r T) is on

      volume_is_old : (d : List Sector) → old.contents ≡ Some d → IsOldVolume d
      volume_is_old = is_old (Ok found) is (λ f e. cc e) (λ e. cc e)

      abbrev text : List ℕ
      text = conversion_line found.files found.pages found.freed

      is_line : IsConversionLine text
      is_line = record { files = found.files; pages = found.pages; freed = found.freed; text_is = refl }

      same_line : (d : List Sector) → old.contents ≡ Some d → text ≡ converted_text d
      same_line d revealed = line_is d found (subst (λ (r : Result Converted ConvertFault). IfOk r (λ x. (e : List Sector) → old.contents ≡ Some e → IsRevealed e x)) is all.revealed d revealed)

      pub converted_done : (piece line : List ℕ) → piece ≡ line → line ≡ text → Appends t u piece → ConvertedBy status.Done before after
      converted_done piece line as_line as_text took = let put = subst (λ (x : List ℕ). Appends t u x) (as_line ∙ as_text) took in record {
        restored = λ ends. ok (IsConverted old new) all.converted;
        synced = λ ends. ok (new.synced ≡ true) all.synced;
        line = λ done d revealed. subst (λ (x : List ℕ). Appends t u x) (same_line d revealed) put;
        part_of_line = λ failed d revealed. absurd (cc failed);
        some_line = λ done. (text, is_line, put);
        some_prefix = λ failed. absurd (cc failed);
        by = λ ends. ok (AreMade old new) all.made;
        part = λ failed. absurd (cc failed);
        part_line = λ failed. absurd (cc failed);
        crash_states = all.crash_states;
        count = λ none. absurd (let e = sym is ∙ all.refuses.root.count none in cc e);
        no_volume = λ d revealed opened. absurd (cc opened);
        no_volume_refused = λ d f revealed none. absurd (volume_is_old d revealed f none);
        no_volume_unwritten = λ d f revealed none. absurd (volume_is_old d revealed f none);
        unfit = λ d revealed unfit. absurd (cc unfit);
        unfit_refused = λ d revealed volume none. absurd (has_room found is d revealed none);
        no_room_unwritten = λ d revealed none. absurd (has_room found is d revealed none);
        complete = λ d revealed volume room disk_held sink_held. inl refl;
      }

      pub converted_unheard : (piece line prefix : List ℕ) → piece ≡ line → line ≡ text → IsPrefixOf prefix piece → Appends t u prefix → Rose m n → ConvertedBy status.StreamFault before after
      converted_unheard piece line prefix as_line as_text begins put rose = let is_prefix = subst (λ (x : List ℕ). IsPrefixOf prefix x) (as_line ∙ as_text) begins in record {
        restored = λ ends. ok (IsConverted old new) all.converted;
        synced = λ ends. ok (new.synced ≡ true) all.synced;
        line = λ done d revealed. absurd (cc done);
        part_of_line = λ failed d revealed. (prefix, subst (λ (x : List ℕ). IsPrefixOf prefix x) (same_line d revealed) is_prefix, put);
        some_line = λ done. absurd (cc done);
        some_prefix = λ failed. (text, is_line, (prefix, is_prefix, put));
        by = λ ends. ok (AreMade old new) all.made;
        part = λ failed. absurd (cc failed);
        part_line = λ failed. absurd (cc failed);
        crash_states = all.crash_states;
        count = λ none. absurd (let e = sym is ∙ all.refuses.root.count none in cc e);
        no_volume = λ d revealed opened. absurd (cc opened);
        no_volume_refused = λ d f revealed none. absurd (volume_is_old d revealed f none);
        no_volume_unwritten = λ d f revealed none. absurd (volume_is_old d revealed f none);
        unfit = λ d revealed unfit. absurd (cc unfit);
        unfit_refused = λ d revealed volume none. absurd (has_room found is d revealed none);
        no_room_unwritten = λ d revealed none. absurd (has_room found is d revealed none);
        complete = λ d revealed volume room disk_held sink_held. absurd (sink_held rose);
      }

    -- the root is refused
    module _ (f : RootFault) (is : result ≡ Err (why.Root f)) where
      reads : OnlyReads old new
      reads = all.refuses.unwritten (why.Root f) is (λ e. cc e)

      names_count : (IsOldCount old.sectors → ⊥) → Puts (Rose m n) t u (last_line (cause.Root f)) → Puts (Rose m n) t u (last_line (cause.Root (fault.BadCount old.sectors)))
      names_count none put =
          let both : why.Root f ≡ why.Root (fault.BadCount old.sectors) = let e = sym is ∙ all.refuses.root.count none in cc e in
          let same : f ≡ fault.BadCount old.sectors = cc both in
          subst (λ (x : RootFault). Puts (Rose m n) t u (last_line (cause.Root x))) same put

      pub converted_refused : Puts (Rose m n) t u (last_line (cause.Root f)) → ConvertedBy status.NotOpened before after
      converted_refused put = record {
        restored = λ ends. absurd (elim ends [ inl done ↦ cc done | inr failed ↦ cc failed ]);
        synced = λ ends. absurd (elim ends [ inl done ↦ cc done | inr failed ↦ cc failed ]);
        line = λ done d revealed. absurd (cc done);
        part_of_line = λ failed d revealed. absurd (cc failed);
        some_line = λ done. absurd (cc done);
        some_prefix = λ failed. absurd (cc failed);
        by = λ ends. absurd (elim ends [ inl done ↦ cc done | inr failed ↦ cc failed ]);
        part = λ failed. absurd (cc failed);
        part_line = λ failed. absurd (cc failed);
        crash_states = all.crash_states;
        count = λ none. inr (refl, names_count none put);
        no_volume = λ d revealed opened. (f, no_volume d revealed f is, put);
        no_volume_refused = λ d g revealed none. inl refl;
        no_volume_unwritten = λ d g revealed none. reads;
        unfit = λ d revealed unfit. absurd (cc unfit);
        unfit_refused = λ d revealed volume none. absurd (volume f (no_volume d revealed f is));
        no_room_unwritten = λ d revealed none. reads;
        complete = λ d revealed volume room disk_held sink_held. absurd (volume f (no_volume d revealed f is));
      }

      pub reason_refused : (words : List (String Global)) → Puts (Rose m n) t u (last_line (cause.Root f)) → HasReason words status.NotOpened before after
      reason_refused words put = record {
        disk = λ e. absurd (cc e);
        stream = λ e. absurd (cc e);
        not_opened = λ e. (reads, f, put);
        count = λ some none. inr (refl, names_count (λ count. none (is_count count)) put);
        long = λ frames queue b other source e. absurd (cc e);
        long_events = λ frames b other source e. absurd (cc e);
        long_read = λ e. absurd (cc e);
        memory = λ e. absurd (cc e);
        damaged = λ e. absurd (cc e);
        unfit = λ e. absurd (cc e);
      }

    -- the files have no room
    module _ (wanted room : ℕ) (is : result ≡ Err (why.Unfit wanted room)) where
      pub converted_unfit : Puts (Rose m n) t u (last_line (cause.Unfit wanted room)) → ConvertedBy status.Unfit before after
      converted_unfit put = record {
        restored = λ ends. absurd (elim ends [ inl done ↦ cc done | inr failed ↦ cc failed ]);
        synced = λ ends. absurd (elim ends [ inl done ↦ cc done | inr failed ↦ cc failed ]);
        line = λ done d revealed. absurd (cc done);
        part_of_line = λ failed d revealed. absurd (cc failed);
        some_line = λ done. absurd (cc done);
        some_prefix = λ failed. absurd (cc failed);
        by = λ ends. absurd (elim ends [ inl done ↦ cc done | inr failed ↦ cc failed ]);
        part = λ failed. absurd (cc failed);
        part_line = λ failed. absurd (cc failed);
        crash_states = all.crash_states;
        count = λ none. absurd (let e = sym is ∙ all.refuses.root.count none in cc e);
        no_volume = λ d revealed opened. absurd (cc opened);
        no_volume_refused = λ d f revealed none. absurd (volume_is_old d revealed f none);
        no_volume_unwritten = λ d f revealed none. absurd (volume_is_old d revealed f none);
        unfit = λ d revealed unfit.
            let wants = subst (λ (k : ℕ). Puts (Rose m n) t u (last_line (cause.Unfit k room))) (all.refuses.room.unfit wanted room is d revealed) put in (
              volume_is_old d revealed,
              too_many d revealed,
              all.refuses.unwritten (why.Unfit wanted room) is (λ e. cc e),
              subst (λ (k : ℕ). Puts (Rose m n) t u (last_line (cause.Unfit (total_room (files_old d)) k))) (room_is d revealed) wants,
            );
        unfit_refused = λ d revealed volume none. inl refl;
        no_room_unwritten = λ d revealed none. all.refuses.unwritten (why.Unfit wanted room) is (λ e. cc e);
        complete = λ d revealed volume fits disk_held sink_held. absurd (fits (too_many d revealed));
      }
        where
          volume_is_old : (d : List Sector) → old.contents ≡ Some d → IsOldVolume d
          volume_is_old = is_old (Err (why.Unfit wanted room)) is (λ f e. cc e) (λ e. cc e)

          room_is : (d : List Sector) → old.contents ≡ Some d → room ≡ capacity (length d)
          room_is d revealed = (all.refuses.room.wants wanted room is).0 ∙ ap capacity (sym (whole d revealed))

          too_many : (d : List Sector) → old.contents ≡ Some d → HasNoRoom d
          too_many d revealed = omega (arith, all.refuses.room.unfit wanted room is d revealed, room_is d revealed, (all.refuses.room.wants wanted room is).1)

      pub reason_unfit : (words : List (String Global)) → Means words command.Convert → Puts (Rose m n) t u (last_line (cause.Unfit wanted room)) → HasReason words status.Unfit before after
      reason_unfit words means put = record {
        disk = λ e. absurd (cc e);
        stream = λ e. absurd (cc e);
        not_opened = λ e. absurd (cc e);
        count = λ some none. absurd (let e = sym is ∙ all.refuses.root.count (λ count. none (is_count count)) in cc e);
        long = λ frames queue b other source e. absurd (cc e);
        long_events = λ frames b other source e. absurd (cc e);
        long_read = λ e. absurd (cc e);
        memory = λ e. absurd (cc e);
        damaged = λ e. absurd (cc e);
        unfit = λ e.
            let says = all.refuses.room.wants wanted room is in (
              all.refuses.unwritten (why.Unfit wanted room) is (λ e. cc e),
              means,
              wanted,
              omega (arith, says.0, says.1),
              subst (λ (k : ℕ). Puts (Rose m n) t u (last_line (cause.Unfit wanted k))) says.0 put,
            );
      }

    -- the disk failed
    pub converted_failed : result ≡ Err why.Disk → Puts (Rose m n) t u (last_line cause.DiskFault) → ConvertedBy status.DiskFault before after
    converted_failed is put = record {
      restored = λ ends. absurd (elim ends [ inl done ↦ cc done | inr failed ↦ cc failed ]);
      synced = λ ends. absurd (elim ends [ inl done ↦ cc done | inr failed ↦ cc failed ]);
      line = λ done d revealed. absurd (cc done);
      part_of_line = λ failed d revealed. absurd (cc failed);
      some_line = λ done. absurd (cc done);
      some_prefix = λ failed. absurd (cc failed);
      by = λ ends. absurd (elim ends [ inl done ↦ cc done | inr failed ↦ cc failed ]);
      part = λ failed. all.part is;
      part_line = λ failed. put;
      crash_states = all.crash_states;
      count = λ none. absurd (let e = sym is ∙ all.refuses.root.count none in cc e);
      no_volume = λ d revealed opened. absurd (cc opened);
      no_volume_refused = λ d f revealed none. inr (inl refl);
      no_volume_unwritten = λ d f revealed none. all.others d revealed (inl (f, none));
      unfit = λ d revealed unfit. absurd (cc unfit);
      unfit_refused = λ d revealed volume none. inr (inl refl);
      no_room_unwritten = λ d revealed none. all.others d revealed (inr none);
      complete = λ d revealed volume room disk_held sink_held. absurd (disk_held (all.cause is));
    }

    -- there is no memory
    pub converted_without : result ≡ Err why.NoMemory → ConvertedBy status.NoMemory before after
    converted_without is = record {
      restored = λ ends. absurd (elim ends [ inl done ↦ cc done | inr failed ↦ cc failed ]);
      synced = λ ends. absurd (elim ends [ inl done ↦ cc done | inr failed ↦ cc failed ]);
      line = λ done d revealed. absurd (cc done);
      part_of_line = λ failed d revealed. absurd (cc failed);
      some_line = λ done. absurd (cc done);
      some_prefix = λ failed. absurd (cc failed);
      by = λ ends. absurd (elim ends [ inl done ↦ cc done | inr failed ↦ cc failed ]);
      part = λ failed. absurd (cc failed);
      part_line = λ failed. absurd (cc failed);
      crash_states = all.crash_states;
      count = λ none. inl refl;
      no_volume = λ d revealed opened. absurd (cc opened);
      no_volume_refused = λ d f revealed none. inr (inr refl);
      no_volume_unwritten = λ d f revealed none. all.refuses.unwritten why.NoMemory is (λ e. cc e);
      unfit = λ d revealed unfit. absurd (cc unfit);
      unfit_refused = λ d revealed volume none. inr (inr refl);
      no_room_unwritten = λ d revealed none. all.refuses.unwritten why.NoMemory is (λ e. cc e);
      complete = λ d revealed volume room disk_held sink_held. inr refl;
    }

    pub reason_without : result ≡ Err why.NoMemory → (words : List (String Global)) → Means words command.Convert → HasReason words status.NoMemory before after
    reason_without is words means = record {
      disk = λ e. absurd (cc e);
      stream = λ e. absurd (cc e);
      not_opened = λ e. absurd (cc e);
      count = λ some none. inl refl;
      long = λ frames queue b other source e. absurd (cc e);
      long_events = λ frames b other source e. absurd (cc e);
      long_read = λ e. absurd (cc e);
      memory = λ e. (all.refuses.unwritten why.NoMemory is (λ e. cc e), command.Convert, means.named);
      damaged = λ e. absurd (cc e);
      unfit = λ e. absurd (cc e);
    }
