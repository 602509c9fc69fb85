-- Making a file keeps a machine.
use Rattle.std.proofs.Common.{◌≡◌, ◌≢◌, ℕ, ◌+◌, ◌*◌, ◌/◌, ◌%◌, ◌^◌, ◌<◌, ◌≤◌, Bool, false, cond, List, Some, None, sym, ◌∙◌, ap, arith, eqb}
use Rattle.std.specs.Prelude.{◌==◌}
use Rattle.std.proofs.lemmas.Bool.{eqb-false, ne_eqb}
use Rattle.std.proofs.lemmas.List.{length-replicate}
use Rattle.labelled_disk.proofs.AscendingLemmas.{at_put, ascending_put}
use Rattle.flat_machine.specs.declared.call.Call.TheVariants.{Create}
use Rattle.flat_machine.specs.declared.call.Refusal.TheVariants as why
use Rattle.flat_machine.specs.File.{File, file_at, put_file, zero_page}
use Rattle.flat_machine.specs.Space.{Space}
use Rattle.flat_machine.specs.Machine.{Machine, IsFileId, IsFile}
use Rattle.flat_machine.specs.IsMachine.{IsMachine}
use Rattle.flat_machine.specs.Refusal.{refusal, no_room, no_ids}
use Rattle.flat_machine.specs.Next.{next, new_id, new_file, with_new_file}
use Rattle.flat_machine.proofs.Lists.{In, all_in, in_all, looked_up, look_up_none}
use Rattle.flat_machine.proofs.TestLemmas.{two_none, then_none, room_there}
use Rattle.flat_machine.proofs.FileLemmas.{AreFiles, each_put, room_put}
use Rattle.flat_machine.proofs.Cells.{zero_file}
use Rattle.flat_machine.proofs.KeepFiles.{follows_self}
use Rattle.flat_machine.proofs.Keep.{Linked, spaces_of, refused_or, relinked, join}

-- the halves of an identifier
id_halves : (serial counter : ℕ) → counter < 4294967296 → ((serial * 2 ^ 32 + counter) / 2 ^ 32 ≡ serial) × ((serial * 2 ^ 32 + counter) % 2 ^ 32 ≡ counter)
id_halves serial counter fits = (omega (arith, fits), omega (arith, fits))

module _ (m : Machine) (h : IsMachine m) where
  fits : m.counter < 4294967296
  fits = omega (arith, h.counter_fits.1)

  -- no file has the new identifier
  pub not_new : (f : File) → In f m.files → f.id ≢ new_id m
  not_new f i e =
      let given = (all_in (λ f. IsFileId m.serial m.counter f.id) m.files h.ids_given f i).given_out in
      let halves = id_halves m.serial m.counter fits in
      let low : f.id % 2 ^ 32 < m.counter = given (ap (λ (n : ℕ). n / 2 ^ 32) e ∙ halves.0) in
      let same : f.id % 2 ^ 32 ≡ m.counter = ap (λ (n : ℕ). n % 2 ^ 32) e ∙ halves.1 in
      absurd (omega (arith, low, same))

  pub none_new : file_at m.files (new_id m) ≡ None
  none_new = look_up_none (λ f. f.id) m.files (new_id m) not_new

  pub left_by_new : (pages kind id : ℕ) (f : File) → file_at m.files id ≡ Some f → file_at (put_file (new_file m pages kind) m.files) id ≡ Some f
  left_by_new pages kind id f is =
      let at = looked_up (λ x. x.id) m.files id f is in
      let other : eqb (new_id m) id ≡ false = ne_eqb (new_id m) id (λ e. not_new f at.0 (at.1 ∙ sym e)) in
      at_put (new_file m pages kind) m.files id ∙ ap (λ (b : Bool). cond b (Some (new_file m pages kind)) (file_at m.files id)) other ∙ is

  pub linked_by_new : (pages kind : ℕ) (ss : List Space) → Linked m.files ss → Linked (put_file (new_file m pages kind) m.files) ss
  linked_by_new pages kind ss linked =
      relinked m.files (put_file (new_file m pages kind) m.files) ss linked (λ s w i e f is. (f, left_by_new pages kind w.file f is, follows_self w f))

  pub files_with_new : (pages kind : ℕ) → kind < 65536 → no_room m (pages + 1) ≡ None → no_ids m ≡ None
      → AreFiles m.serial (m.counter + 1) m.capacity (put_file (new_file m pages kind) m.files)
  files_with_new pages kind typed room ids =
      let f = new_file m pages kind in
      let halves = id_halves m.serial m.counter fits in
      let last : m.counter ≢ 4294967295 = eqb-false m.counter 4294967295 (then_none (m.counter == 4294967295) why.Ids ids) in
      let there = room_there m (pages + 1) room in
      record {
        rise = ascending_put f m.files h.ids_rise;
        given = each_put (λ x. IsFileId m.serial (m.counter + 1) x.id) f m.files
            (record {
              above_reserved = omega (arith, h.serial_fits.0);
              fits = omega (arith, h.serial_fits.1, h.counter_fits.1);
              low_half = λ e. last (sym halves.1 ∙ e);
              given_out = λ e. omega (arith, halves.1);
            })
            (in_all _ m.files (λ x i. let old = all_in (λ x. IsFileId m.serial m.counter x.id) m.files h.ids_given x i in record {
              above_reserved = old.above_reserved;
              fits = old.fits;
              low_half = old.low_half;
              given_out = λ e. omega (arith, old.given_out e);
            }));
        whole = each_put IsFile f m.files (zero_file (new_id m) kind pages typed) h.whole_files;
        room = omega (arith, room_put f m.files h.ids_rise none_new, length-replicate pages zero_page, there);
      }

  pub next_counter : no_ids m ≡ None → (1 ≤ m.counter + 1) × (m.counter + 1 ≤ 4294967295)
  next_counter ids =
      let last : m.counter ≢ 4294967295 = eqb-false m.counter 4294967295 (then_none (m.counter == 4294967295) why.Ids ids) in
      (omega arith, omega (arith, last, h.counter_fits.1))

pub create_keeps : (pages kind : ℕ) (m : Machine) → kind < 65536 → IsMachine m → IsMachine (next m (Create pages kind))
create_keeps pages kind m typed h = refused_or m (Create pages kind) h kept
  where
    kept : refusal m (Create pages kind) ≡ None → IsMachine (with_new_file m pages kind)
    kept e =
        let tests = two_none (no_room m (pages + 1)) (no_ids m) e in
        join (with_new_file m pages kind) h.serial_fits (next_counter m h tests.1) (files_with_new m h pages kind typed tests.0 tests.1)
        (spaces_of m h) h.anonymous_alone (linked_by_new m h pages kind m.spaces h.whole_windows) h.unforced_shown h.unforced_once
