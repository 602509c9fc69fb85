-- When a machine refuses a call on files.
use Rattle.std.proofs.Common.{◌≡◌, ℕ, ◌+◌, ◌-◌, ◌<◌, ◌≤◌, Bool, true, false, cond, Option, Some, None, refl, ap, arith}
use Rattle.std.specs.Prelude.{nat_lt, ◌==◌, is_none}
use Rattle.std.specs.Bool.{then_some}
use Rattle.std.proofs.lemmas.Bool.Decides.{nat_tests}
use Rattle.labelled_disk.specs.File.{File, size, file_at}
use Rattle.flat_machine.specs.declared.call.Call.TheVariants as call
use Rattle.flat_machine.specs.declared.call.Refusal.{Refusal}
use Rattle.flat_machine.specs.declared.call.Refusal.TheVariants as why
use Rattle.flat_machine.specs.Machine.{Machine, used, is_anonymous}
use Rattle.flat_machine.specs.Refusal.{refusal, no_file, is_immutable, file_mapped, cut_while_mapped, no_room_as}

module _ (m : Machine) (id : ℕ) where
  -- what isn't there has no name
  pub no_file_missing : file_at m.files id ≡ None → no_file m id ≡ Some why.File
  no_file_missing none = by (is_anonymous m.spaces id) (file_at m.files id) none
    where
      by : (b : Bool) (o : Option File) → o ≡ None → then_some (is_none (cond b None o)) why.File ≡ Some why.File
      by true o is = refl
      by false o is = ap (λ (p : Option File). then_some (is_none p) why.File) is

  -- nor has what an anonymous window shows
  pub no_file_hidden : is_anonymous m.spaces id ≡ true → no_file m id ≡ Some why.File
  no_file_hidden hidden = rw hidden refl

  module _ (gone : no_file m id ≡ Some why.File) where
    pub delete_gone : refusal m (call.Delete id) ≡ Some why.File
    delete_gone = rw gone refl

    pub attributes_gone : refusal m (call.Attributes id) ≡ Some why.File
    attributes_gone = rw gone refl

    pub size_gone : (pages : ℕ) → refusal m (call.SetSize id pages) ≡ Some why.File
    size_gone pages = rw gone refl

    pub permanent_gone : refusal m (call.MakePermanent id) ≡ Some why.File
    permanent_gone = rw gone refl

    pub immutable_gone : refusal m (call.MakeImmutable id) ≡ Some why.File
    immutable_gone = rw gone refl

  module _ (f : File) (some : file_at m.files id ≡ Some f) (named : is_anonymous m.spaces id ≡ false) where
    pub is_there : no_file m id ≡ None
    is_there = rw (named, some) refl

    pub delete_free : file_mapped m id (λ w. true) ≡ None → refusal m (call.Delete id) ≡ None
    delete_free unseen = rw (is_there, unseen) refl

    pub delete_mapped : (word : Refusal) → file_mapped m id (λ w. true) ≡ Some word → refusal m (call.Delete id) ≡ Some word
    delete_mapped word seen = rw (is_there, seen) refl

    pub permanent_free : refusal m (call.MakePermanent id) ≡ None
    permanent_free = rw is_there refl

    pub immutable_free : file_mapped m id (λ w. w.writable) ≡ None → refusal m (call.MakeImmutable id) ≡ None
    immutable_free unwritten = rw (is_there, unwritten) refl

    pub immutable_mapped : (word : Refusal) → file_mapped m id (λ w. w.writable) ≡ Some word → refusal m (call.MakeImmutable id) ≡ Some word
    immutable_mapped word seen = rw (is_there, seen) refl

    pub size_immutable : (pages : ℕ) → f.immutable ≡ true → refusal m (call.SetSize id pages) ≡ Some why.Immutable
    size_immutable pages is = rw (is_there, some, is) refl

    module _ (pages : ℕ) where
      -- nothing that a window shows would be cut
      not_cut : (pages < size f → file_mapped m id (λ w. true) ≡ None) → cut_while_mapped m id pages ≡ None
      not_cut unseen = rw some (by (nat_lt pages (size f)) refl)
        where
          by : (b : Bool) → nat_lt pages (size f) ≡ b → cond b (file_mapped m id (λ w. true)) None ≡ None
          by true is = unseen (let less : pages < size f = grind (arith, nat_tests) in less)
          by false is = refl

      module _ (is : f.immutable ≡ false) where
        mutable : is_immutable m id ≡ None
        mutable = rw (some, is) refl

        pub size_cut : pages < size f → (word : Refusal) → file_mapped m id (λ w. true) ≡ Some word → refusal m (call.SetSize id pages) ≡ Some word
        size_cut fewer word seen =
            let cut : cut_while_mapped m id pages ≡ Some word = let a : nat_lt pages (size f) ≡ true = grind (arith, nat_tests) in rw (some, a) seen in
            rw (is_there, mutable, cut) refl

        pub size_full : (pages < size f → file_mapped m id (λ w. true) ≡ None) → m.capacity < used m + pages - size f → refusal m (call.SetSize id pages) ≡ Some why.Full
        size_full unseen over =
            let full : no_room_as m id pages ≡ Some why.Full = let a : nat_lt m.capacity (used m + pages - size f) ≡ true = grind (arith, nat_tests) in rw (some, a) refl in
            rw (is_there, mutable, not_cut unseen, full) refl

        pub size_free : (pages < size f → file_mapped m id (λ w. true) ≡ None) → used m + pages - size f ≤ m.capacity → refusal m (call.SetSize id pages) ≡ None
        size_free unseen fits =
            let room : no_room_as m id pages ≡ None = let a : nat_lt m.capacity (used m + pages - size f) ≡ false = grind (arith, nat_tests) in rw (some, a) refl in
            rw (is_there, mutable, not_cut unseen, room) refl

module _ (m : Machine) (pages kind : ℕ) where
  pub create_full : m.capacity < used m + (pages + 1) → refusal m (call.Create pages kind) ≡ Some why.Full
  create_full over = let a : nat_lt m.capacity (used m + (pages + 1)) ≡ true = grind (arith, nat_tests) in rw a refl

  pub create_ids : used m + (pages + 1) ≤ m.capacity → m.counter ≡ 4294967295 → refusal m (call.Create pages kind) ≡ Some why.Ids
  create_ids fits last = let a : nat_lt m.capacity (used m + (pages + 1)) ≡ false = grind (arith, nat_tests) in rw (a, last) refl

  pub create_there : used m + (pages + 1) ≤ m.capacity → m.counter < 4294967295 → refusal m (call.Create pages kind) ≡ None
  create_there fits more =
      let a : nat_lt m.capacity (used m + (pages + 1)) ≡ false = grind (arith, nat_tests) in
      let b : (m.counter == 4294967295) ≡ false = grind (arith, nat_tests) in
      rw (a, b) refl
