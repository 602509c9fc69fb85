-- Each call of a pair has an allowed reply.
use Rattle.std.proofs.Common.{◌≡◌, ◌≢◌, ◌⊎◌, inl, inr, ℕ, zero, suc, ◌<◌, List, [], ◌∷◌, Option, Some, None, refl, sym, ap, true, false, eqb, arith}
use Rattle.std.specs.Prelude.{slice_get}
use Rattle.std.specs.Option.{option_map_or}
use Rattle.std.proofs.lemmas.Option.{none-some, same_Some}
use Rattle.std.proofs.lemmas.Bool.Decides.{eqb_tells}
use Rattle.labelled_disk.specs.File.{File, Cell, Page, file_at}
use Rattle.pair_machine.specs.declared.call.PairCall.{PairCall}
use Rattle.pair_machine.specs.declared.call.PairCall.TheVariants.{Copy, Compare}
use Rattle.pair_machine.specs.declared.call.PairRefusal.{PairRefusal}
use Rattle.pair_machine.specs.declared.call.PairRefusal.TheVariants as why
use Rattle.pair_machine.specs.declared.call.PairReply.{PairReply}
use Rattle.pair_machine.specs.declared.call.PairReply.TheVariants as reply
use Rattle.pair_machine.specs.Pair.{Pair, AllowsPair, Compares, IsRefusedOr, Replies, pair_refusal}

-- the two are the same, or they are not
abbrev IsKnown : {A : Type 0} → A → A → Type 0
IsKnown x y = (x ≡ y) ⊎ (x ≢ y)

known_number : (m n : ℕ) → IsKnown m n
known_number m n = by (eqb_tells m n)
  where
    by : ((eqb m n ≡ true) × (m ≡ n)) ⊎ ((eqb m n ≡ false) × (m ≢ n)) → IsKnown m n
    by (inl same) = inl same.1
    by (inr apart) = inr apart.1

known_cell : (c d : Cell) → IsKnown c d
known_cell None None = inl refl
known_cell None (Some b) = inr (λ e. none-some b e)
known_cell (Some a) None = inr (λ e. none-some a (sym e))
known_cell (Some a) (Some b) = by (known_number a b)
  where
    by : IsKnown a b → IsKnown (Some a) (Some b)
    by (inl same) = inl (ap (λ x. Some x) same)
    by (inr apart) = inr (λ e. apart (same_Some a b e))

-- this is the first place at which the lists are not the same
record PartsAt {A : Type 0} (xs ys : List A) : Type 0 where
  place : ℕ
  differs : slice_get xs place ≢ slice_get ys place
  below : (j : ℕ) → j < place → slice_get xs j ≡ slice_get ys j

-- the lists are the same, or they part somewhere
abbrev Parted : {A : Type 0} → List A → List A → Type 0
Parted xs ys = (xs ≡ ys) ⊎ PartsAt xs ys

-- they part at once
at_once : {A : Type 0} → (xs ys : List A) → slice_get xs 0 ≢ slice_get ys 0 → Parted xs ys
at_once xs ys differs = inr (record { place = 0; differs = differs; below = λ j h. absurd (omega (arith, h)) })

module _ {A : Type 0} (known : (x y : A) → IsKnown x y) where
  behind : (x y : A) (xs ys : List A) → x ≡ y → Parted xs ys → Parted (x ∷ xs) (y ∷ ys)
  behind x y xs ys same (inl rest) = inl (λ i. same i ∷ rest i)
  behind x y xs ys same (inr apart) = inr (record { place = suc apart.place; differs = apart.differs; below = below })
    where
      below : (j : ℕ) → j < suc apart.place → slice_get (x ∷ xs) j ≡ slice_get (y ∷ ys) j
      below zero h = ap (λ a. Some a) same
      below (suc j) h = apart.below j (omega (arith, h))

  parted : (xs ys : List A) → Parted xs ys
  parted [] [] = inl refl
  parted [] (y ∷ ys) = at_once [] (y ∷ ys) (λ e. none-some y e)
  parted (x ∷ xs) [] = at_once (x ∷ xs) [] (λ e. none-some x (sym e))
  parted (x ∷ xs) (y ∷ ys) = by (parted xs ys) (known x y)
    where
      by : Parted xs ys → IsKnown x y → Parted (x ∷ xs) (y ∷ ys)
      by rest (inl same) = behind x y xs ys same rest
      by rest (inr apart) = at_once (x ∷ xs) (y ∷ ys) (λ e. apart (same_Some x y e))

  known_list : (xs ys : List A) → IsKnown xs ys
  known_list xs ys = by (parted xs ys)
    where
      by : Parted xs ys → IsKnown xs ys
      by (inl same) = inl same
      by (inr apart) = inr (λ e. apart.differs (ap (λ l. slice_get l apart.place) e))

known_page : (p q : Page) → IsKnown p q
known_page = known_list known_cell

compared : (f g : File) → (r : PairReply) × Compares f g r
compared f g = by (parted known_page f.pages g.pages)
  where
    by : Parted f.pages g.pages → (r : PairReply) × Compares f g r
    by (inl same) = (reply.Same, same)
    by (inr apart) = (reply.Differs apart.place, record { differs = apart.differs; below = apart.below })

-- a reply that is allowed where the call is refused for this reason, or not at all
answered : (otherwise : PairReply → Type 0) → (refused : Option PairRefusal) → ((refused ≡ None) → (r : PairReply) × otherwise r)
    → (r : PairReply) × IsRefusedOr refused r (otherwise r)
answered otherwise None reply_of = reply_of refl
answered otherwise (Some w) reply_of = (reply.Refused w, refl)

abbrev refusal_of_compare : Option File → Option File → Option PairRefusal
refusal_of_compare a b = option_map_or (λ f. option_map_or (λ g. None) b (Some why.File)) a (Some why.File)

pub some : (p : Pair) (c : PairCall) → (r : PairReply) × AllowsPair p c r
some p (Copy id) = answered (λ r. r ≡ reply.Done) (pair_refusal p (Copy id)) (λ free. (reply.Done, refl))
some p (Compare id) = answered (λ r. Replies p (Compare id) r) (pair_refusal p (Compare id)) (λ free. by (file_at p.from id) (file_at p.to id) refl refl free)
  where
    by : (a b : Option File) → file_at p.from id ≡ a → file_at p.to id ≡ b → refusal_of_compare a b ≡ None → (r : PairReply) × Replies p (Compare id) r
    by None b from to free = absurd (none-some why.File (sym free))
    by (Some f) None from to free = absurd (none-some why.File (sym free))
    by (Some f) (Some g) from to free = let c = compared f g in (c.0, (f, g, from, to, c.1))
