-- Where the first writes of a conversion put free labels and leaders.
use Rattle.std.proofs.Common.{◌≡◌, ◌⊎◌, inl, inr, ℕ, zero, suc, ◌+◌, ◌-◌, ◌≤◌, Bool, true, false, not, ◌&&◌, List, [], ◌∷◌, ◌++◌, length, take, drop, Option, Some, None, refl, sym, ◌∙◌, ap, arith, length-append, append_assoc}
use Rattle.std.specs.Prelude.{slice_get, slice_set, option_map, replicate, if◌then◌else◌}
use Rattle.std.specs.Option.{option_map_or}
use Rattle.std.proofs.lemmas.List.{take-append-drop, length-take}
use Rattle.std.proofs.lemmas.Option.{same_Some, none-some}
use Rattle.std.proofs.Math.Seq.{drop-append_seam}
use Rattle.labelled_disk.specs.declared.disk.DiskWrite.{DiskWrite}
use Rattle.labelled_disk.specs.declared.disk.DiskWrite.TheVariants.{Whole, LabelOnly}
use Rattle.labelled_disk.specs.declared.label.Label.{Label}
use Rattle.labelled_disk.specs.Label.{is_free}
use Rattle.labelled_disk.specs.Layout.{data_sectors, first_data}
use Rattle.labelled_disk.specs.Runs.{freeing}
use Rattle.labelled_disk.specs.Sectors.{Sector, free_label}
use Rattle.labelled_disk.specs.WriteRuns.{after_writes}
use Rattle.labelled_disk.proofs.WriteRunLemmas.{after_writes-append}
use Rattle.label_laws.specs.Counts.{places}
use Rattle.old_files.specs.OldFiles.{is_old_needed}
use Rattle.old_files.specs.Placing.{old_leaders, spare_below, IsPlaced}
use Rattle.old_files.proofs.LeaderLemmas.{old_leaders_are}
use Rattle.convert_laws.specs.Orders.{needs_old, old_unneeded, old_spare, leader_writes, first_writes, FirstWritesPlace}

-- One sector at the seam of two lists.

seam_get : (pre : List Sector) (s : Sector) (ss : List Sector) → slice_get (pre ++ s ∷ ss) (length pre) ≡ Some s
seam_get [] s ss = refl
seam_get (p ∷ pre) s ss = seam_get pre s ss

seam_set : (pre : List Sector) (s t : Sector) (ss : List Sector) → slice_set (pre ++ s ∷ ss) (length pre) t ≡ (pre ++ t ∷ []) ++ ss
seam_set [] s t ss = refl
seam_set (p ∷ pre) s t ss = ap (λ (l : List Sector). p ∷ l) (seam_set pre s t ss)

seam_on : (pre : List Sector) (s : Sector) (ss : List Sector) → pre ++ s ∷ ss ≡ (pre ++ s ∷ []) ++ ss
seam_on pre s ss = sym (append_assoc pre (s ∷ []) ss)

longer : (pre : List Sector) (s : Sector) (n : ℕ) → length pre ≡ n → length (pre ++ s ∷ []) ≡ n + 1
longer pre s n long = omega (arith, length-append pre (s ∷ []), long)

-- Free labels.

abbrev pub freed_at : (ℕ → Sector → Bool) → ℕ → List Sector → List Sector
freed_at test n [] = []
freed_at test n (s ∷ ss) = (if test n s then (free_label, s.1) else s) ∷ freed_at test (n + 1) ss

free_one : (pre : List Sector) (s : Sector) (ss : List Sector) (n : ℕ) → length pre ≡ n → (ws : List DiskWrite)
    → after_writes (LabelOnly n free_label ∷ ws) (pre ++ s ∷ ss) ≡ after_writes ws ((pre ++ (free_label, s.1) ∷ []) ++ ss)
free_one pre s ss n long ws =
    let here : slice_get (pre ++ s ∷ ss) n ≡ Some s = ap (slice_get (pre ++ s ∷ ss)) (sym long) ∙ seam_get pre s ss in
    let there : slice_set (pre ++ s ∷ ss) n (free_label, s.1) ≡ (pre ++ (free_label, s.1) ∷ []) ++ ss = ap (λ (k : ℕ). slice_set (pre ++ s ∷ ss) k (free_label, s.1)) (sym long) ∙ seam_set pre s (free_label, s.1) ss in
    ap (λ (o : Option Sector). after_writes ws (option_map_or (λ old. slice_set (pre ++ s ∷ ss) n (free_label, old.1)) o (pre ++ s ∷ ss))) here ∙ ap (after_writes ws) there

pub free_all : (test : ℕ → Sector → Bool) (pre ss : List Sector) (n : ℕ) → length pre ≡ n → after_writes (freeing (places test n ss)) (pre ++ ss) ≡ pre ++ freed_at test n ss
free_all test pre [] n long = refl
free_all test pre (s ∷ ss) n long = either (test n s) (λ (t : Sector). free_all test (pre ++ t ∷ []) ss (n + 1) (longer pre t n long))
  where
    either : (b : Bool) → ((t : Sector) → after_writes (freeing (places test (n + 1) ss)) ((pre ++ t ∷ []) ++ ss) ≡ (pre ++ t ∷ []) ++ freed_at test (n + 1) ss)
        → after_writes (freeing (if b then n ∷ places test (n + 1) ss else places test (n + 1) ss)) (pre ++ s ∷ ss)
        ≡ pre ++ (if b then (free_label, s.1) else s) ∷ freed_at test (n + 1) ss
    either true more =
        free_one pre s ss n long (freeing (places test (n + 1) ss))
        ∙ more (free_label, s.1)
        ∙ sym (seam_on pre (free_label, s.1) (freed_at test (n + 1) ss))
    either false more =
        ap (after_writes (freeing (places test (n + 1) ss))) (seam_on pre s ss)
        ∙ more s
        ∙ sym (seam_on pre s (freed_at test (n + 1) ss))

pub freed_get : (test : ℕ → Sector → Bool) (n : ℕ) (ss : List Sector) (i : ℕ) → slice_get (freed_at test n ss) i ≡ option_map (λ s. if test (n + i) s then (free_label, s.1) else s) (slice_get ss i)
freed_get test n [] i = refl
freed_get test n (s ∷ ss) zero = let z : n ≡ n + 0 = omega arith in ap (λ (k : ℕ). Some (if test k s then (free_label, s.1) else s)) z
freed_get test n (s ∷ ss) (suc i) = let z : n + 1 + i ≡ n + suc i = omega arith in
    freed_get test (n + 1) ss i ∙ ap (λ (k : ℕ). option_map (λ s. if test k s then (free_label, s.1) else s) (slice_get ss i)) z

pub freed_long : (test : ℕ → Sector → Bool) (n : ℕ) (ss : List Sector) → length (freed_at test n ss) ≡ length ss
freed_long test n [] = refl
freed_long test n (s ∷ ss) = ap (λ (k : ℕ). suc k) (freed_long test (n + 1) ss)

-- Leaders, in sectors that are gaps by their place.

abbrev zeros : List ℕ
zeros = replicate 512 0

abbrev pub led_at : (ℕ → Bool) → ℕ → List Sector → List Label → List Sector
led_at gap n [] hs = []
led_at gap n (s ∷ ss) [] = s ∷ led_at gap (n + 1) ss []
led_at gap n (s ∷ ss) (h ∷ hs) = if gap n then (h, replicate 512 0) ∷ led_at gap (n + 1) ss hs else s ∷ led_at gap (n + 1) ss (h ∷ hs)

lead_one : (pre : List Sector) (s : Sector) (ss : List Sector) (n : ℕ) → length pre ≡ n → (h : Label) (ws : List DiskWrite)
    → after_writes (Whole n h (replicate 512 0) ∷ ws) (pre ++ s ∷ ss) ≡ after_writes ws ((pre ++ (h, replicate 512 0) ∷ []) ++ ss)
lead_one pre s ss n long h ws = ap (after_writes ws) (ap (λ (k : ℕ). slice_set (pre ++ s ∷ ss) k (h, replicate 512 0)) (sym long) ∙ seam_set pre s (h, replicate 512 0) ss)

no_leaders : (is : List ℕ) → leader_writes is [] ≡ []
no_leaders [] = refl
no_leaders (i ∷ is) = refl

led_none : (gap : ℕ → Bool) (n : ℕ) (ss : List Sector) → led_at gap n ss [] ≡ ss
led_none gap n [] = refl
led_none gap n (s ∷ ss) = ap (λ (l : List Sector). s ∷ l) (led_none gap (n + 1) ss)

pub lead_all : (gap : ℕ → Bool) (pre xs ss : List Sector) (n : ℕ) (hs : List Label) → length pre ≡ n → length ss ≡ length xs
    → after_writes (leader_writes (places (λ i s. gap i) n xs) hs) (pre ++ ss) ≡ pre ++ led_at gap n ss hs
lead_all gap pre xs ss n [] long same =
    ap (λ (ws : List DiskWrite). after_writes ws (pre ++ ss)) (no_leaders (places (λ i s. gap i) n xs)) ∙ ap (λ (l : List Sector). pre ++ l) (sym (led_none gap n ss))
lead_all gap pre [] [] n (h ∷ hs) long same = refl
lead_all gap pre [] (s ∷ ss) n (h ∷ hs) long same = absurd (omega (arith, same))
lead_all gap pre (x ∷ xs) [] n (h ∷ hs) long same = absurd (omega (arith, same))
lead_all gap pre (x ∷ xs) (s ∷ ss) n (h ∷ hs) long same =
    either (gap n) (λ (t : Sector) (ls : List Label). lead_all gap (pre ++ t ∷ []) xs ss (n + 1) ls (longer pre t n long) (omega (arith, same)))
  where
    either : (b : Bool) → ((t : Sector) (ls : List Label) → after_writes (leader_writes (places (λ i s. gap i) (n + 1) xs) ls) ((pre ++ t ∷ []) ++ ss) ≡ (pre ++ t ∷ []) ++ led_at gap (n + 1) ss ls)
        → after_writes (leader_writes (if b then n ∷ places (λ i s. gap i) (n + 1) xs else places (λ i s. gap i) (n + 1) xs) (h ∷ hs)) (pre ++ s ∷ ss)
        ≡ pre ++ (if b then (h, replicate 512 0) ∷ led_at gap (n + 1) ss hs else s ∷ led_at gap (n + 1) ss (h ∷ hs))
    either true more =
        lead_one pre s ss n long h (leader_writes (places (λ i s. gap i) (n + 1) xs) hs)
        ∙ more (h, replicate 512 0) hs
        ∙ sym (seam_on pre (h, replicate 512 0) (led_at gap (n + 1) ss hs))
    either false more =
        ap (after_writes (leader_writes (places (λ i s. gap i) (n + 1) xs) (h ∷ hs))) (seam_on pre s ss)
        ∙ more s (h ∷ hs)
        ∙ sym (seam_on pre s (led_at gap (n + 1) ss (h ∷ hs)))

pub led_long : (gap : ℕ → Bool) (n : ℕ) (ss : List Sector) (hs : List Label) → length (led_at gap n ss hs) ≡ length ss
led_long gap n [] hs = refl
led_long gap n (s ∷ ss) [] = ap (λ (k : ℕ). suc k) (led_long gap (n + 1) ss [])
led_long gap n (s ∷ ss) (h ∷ hs) = either (gap n) (λ (ls : List Label). led_long gap (n + 1) ss ls)
  where
    either : (b : Bool) → ((ls : List Label) → length (led_at gap (n + 1) ss ls) ≡ length ss)
        → length (if b then (h, replicate 512 0) ∷ led_at gap (n + 1) ss hs else s ∷ led_at gap (n + 1) ss (h ∷ hs)) ≡ suc (length ss)
    either true more = ap (λ (k : ℕ). suc k) (more hs)
    either false more = ap (λ (k : ℕ). suc k) (more (h ∷ hs))

-- how many of the places n, n + 1, .. are gaps, so many of them
abbrev gaps_from : (ℕ → Bool) → ℕ → ℕ → ℕ
gaps_from gap n zero = 0
gaps_from gap n (suc i) = if gap n then suc (gaps_from gap (n + 1) i) else gaps_from gap (n + 1) i

-- what stands at a place that is no gap
pub led_other : (gap : ℕ → Bool) (n : ℕ) (ss : List Sector) (hs : List Label) (i : ℕ) → gap (n + i) ≡ false → slice_get (led_at gap n ss hs) i ≡ slice_get ss i
led_other gap n [] hs i e = refl
led_other gap n (s ∷ ss) [] i e = ap (λ (l : List Sector). slice_get l i) (led_none gap n (s ∷ ss))
led_other gap n (s ∷ ss) (h ∷ hs) zero e = let z : n + 0 ≡ n = omega arith in by (gap n) (sym (ap gap z) ∙ e)
  where
    by : (b : Bool) → b ≡ false → slice_get (if b then (h, replicate 512 0) ∷ led_at gap (n + 1) ss hs else s ∷ led_at gap (n + 1) ss (h ∷ hs)) 0 ≡ Some s
    by false q = refl
    by true q = absurd (cc q)
led_other gap n (s ∷ ss) (h ∷ hs) (suc i) e = by (gap n) (λ (ls : List Label). led_other gap (n + 1) ss ls i (let z : n + 1 + i ≡ n + suc i = omega arith in ap gap z ∙ e))
  where
    by : (b : Bool) → ((ls : List Label) → slice_get (led_at gap (n + 1) ss ls) i ≡ slice_get ss i)
        → slice_get (if b then (h, replicate 512 0) ∷ led_at gap (n + 1) ss hs else s ∷ led_at gap (n + 1) ss (h ∷ hs)) (suc i) ≡ slice_get ss i
    by true more = more hs
    by false more = more (h ∷ hs)

-- and at one that is: the leader of that number, or what stood there
abbrev led_or : Option Label → Sector → Sector
led_or o s = option_map_or (λ h. (h, replicate 512 0)) o s

pub led_gap : (gap : ℕ → Bool) (n : ℕ) (ss : List Sector) (hs : List Label) (i : ℕ) → gap (n + i) ≡ true
    → slice_get (led_at gap n ss hs) i ≡ option_map (λ s. option_map_or (λ h. (h, replicate 512 0)) (slice_get hs (gaps_from gap n i)) s) (slice_get ss i)
led_gap gap n [] hs i e = refl
led_gap gap n (s ∷ ss) [] i e = ap (λ (l : List Sector). slice_get l i) (led_none gap n (s ∷ ss)) ∙ by (slice_get (s ∷ ss) i)
  where
    by : (o : Option Sector) → o ≡ option_map (λ s. s) o
    by None = refl
    by (Some t) = refl
led_gap gap n (s ∷ ss) (h ∷ hs) zero e = let z : n + 0 ≡ n = omega arith in by (gap n) (sym (ap gap z) ∙ e)
  where
    by : (b : Bool) → b ≡ true → slice_get (if b then (h, replicate 512 0) ∷ led_at gap (n + 1) ss hs else s ∷ led_at gap (n + 1) ss (h ∷ hs)) 0 ≡ Some (h, replicate 512 0)
    by true q = refl
    by false q = absurd (cc q)
led_gap gap n (s ∷ ss) (h ∷ hs) (suc i) e = by (gap n) (λ (ls : List Label). led_gap gap (n + 1) ss ls i (let z : n + 1 + i ≡ n + suc i = omega arith in ap gap z ∙ e))
  where
    by : (b : Bool) → ((ls : List Label) → slice_get (led_at gap (n + 1) ss ls) i ≡ option_map (λ s. option_map_or (λ h. (h, replicate 512 0)) (slice_get ls (gaps_from gap (n + 1) i)) s) (slice_get ss i))
        → slice_get (if b then (h, replicate 512 0) ∷ led_at gap (n + 1) ss hs else s ∷ led_at gap (n + 1) ss (h ∷ hs)) (suc i)
        ≡ option_map (λ s. option_map_or (λ h. (h, replicate 512 0)) (slice_get (h ∷ hs) (if b then suc (gaps_from gap (n + 1) i) else gaps_from gap (n + 1) i)) s) (slice_get ss i)
    by true more = more hs
    by false more = more (h ∷ hs)

-- The gaps of an old volume.

-- one place more at the end
gaps_more : (gap : ℕ → Bool) (n i : ℕ) → gaps_from gap n (suc i) ≡ gaps_from gap n i + (if gap (n + i) then 1 else 0)
gaps_more gap n zero = let z : n ≡ n + 0 = omega arith in ap (λ (k : ℕ). if gap k then 1 else 0) z ∙ omega arith
gaps_more gap n (suc i) =
    let z : n + 1 + i ≡ n + suc i = omega arith in
    by (gap n) (gaps_more gap (n + 1) i ∙ ap (λ (k : ℕ). gaps_from gap (n + 1) i + (if gap k then 1 else 0)) z)
  where
    by : (b : Bool) → gaps_from gap (n + 1) (suc i) ≡ gaps_from gap (n + 1) i + (if gap (n + suc i) then 1 else 0)
        → (if b then suc (gaps_from gap (n + 1) (suc i)) else gaps_from gap (n + 1) (suc i)) ≡ (if b then suc (gaps_from gap (n + 1) i) else gaps_from gap (n + 1) i) + (if gap (n + suc i) then 1 else 0)
    by true more = omega (arith, more)
    by false more = more

module _ (d : List Sector) (first_within : first_data (length d) ≤ length d) where
  abbrev first : ℕ
  first = first_data (length d)

  abbrev xs : List Sector
  xs = data_sectors d

  abbrev gap : ℕ → Bool
  gap i = not (needs_old d i)

  gap_is : (i : ℕ) → gap (first + i) ≡ not (is_old_needed xs i)
  gap_is i = let z : first + i - first ≡ i = omega arith in ap (λ (k : ℕ). not (is_old_needed xs k)) z

  gaps_are : (i : ℕ) → gaps_from gap first i ≡ spare_below xs i
  gaps_are zero = refl
  gaps_are (suc i) = gaps_more gap first i ∙ ap (λ (k : ℕ). k + (if gap (first + i) then 1 else 0)) (gaps_are i) ∙ ap (λ (b : Bool). spare_below xs i + (if b then 1 else 0)) (gap_is i) ∙ by (is_old_needed xs i)
    where
      by : (b : Bool) → spare_below xs i + (if not b then 1 else 0) ≡ spare_below xs i + (if b then 0 else 1)
      by true = refl
      by false = refl

  abbrev unneeded : ℕ → Sector → Bool
  unneeded i s = not (is_free s.0) && not (needs_old d i)

  abbrev freed : List Sector
  freed = freed_at unneeded first xs

  low : length (take first d) ≡ first
  low = omega (arith, length-take first d, first_within)

  pub written_is : after_writes (first_writes d) d ≡ take first d ++ led_at gap first freed (old_leaders d)
  written_is =
      ap (after_writes (first_writes d)) (sym (take-append-drop first d))
      ∙ sym (after_writes-append (freeing (old_unneeded d)) (leader_writes (old_spare d) (old_leaders d)) (take first d ++ xs))
      ∙ ap (after_writes (leader_writes (old_spare d) (old_leaders d))) (free_all unneeded (take first d) xs first low)
      ∙ lead_all gap (take first d) xs freed first (old_leaders d) low (freed_long unneeded first xs)

  pub written_long : length (after_writes (first_writes d) d) ≡ length d
  written_long = ap (λ (l : List Sector). length l) written_is ∙ length-append (take first d) (led_at gap first freed (old_leaders d))
      ∙ ap (λ (n : ℕ). length (take first d) + n) (led_long gap first freed (old_leaders d) ∙ freed_long unneeded first xs)
      ∙ sym (length-append (take first d) xs) ∙ ap (λ (l : List Sector). length l) (take-append-drop first d)

  pub data_is : data_sectors (after_writes (first_writes d) d) ≡ led_at gap first freed (old_leaders d)
  data_is =
      ap (λ (n : ℕ). drop (first_data n) (after_writes (first_writes d) d)) written_long
      ∙ ap (λ (l : List Sector). drop first l) written_is
      ∙ ap (λ (n : ℕ). drop n (take first d ++ led_at gap first freed (old_leaders d))) (sym low)
      ∙ drop-append_seam (take first d) (led_at gap first freed (old_leaders d))

  -- what stands in each data sector then
  abbrev pub then_at : ℕ → Sector → Sector
  then_at i s = if is_old_needed xs i then s else option_map_or (λ h. (h, replicate 512 0)) (slice_get (old_leaders d) (spare_below xs i)) (if is_free s.0 then s else (free_label, s.1))

  pub then_get : (i : ℕ) → slice_get (data_sectors (after_writes (first_writes d) d)) i ≡ option_map (then_at i) (slice_get xs i)
  then_get i = ap (λ (l : List Sector). slice_get l i) data_is ∙ by (is_old_needed xs i) refl
    where
      not_gap : is_old_needed xs i ≡ true → gap (first + i) ≡ false
      not_gap e = gap_is i ∙ ap not e

      kept : (o : Option Sector) → option_map (λ s. if not (is_free s.0) && false then (free_label, s.1) else s) o ≡ option_map (λ s. s) o
      kept None = refl
      kept (Some s) = ap (λ (b : Bool). Some (if b then (free_label, s.1) else s)) (none (not (is_free s.0)))
        where
          none : (b : Bool) → (b && false) ≡ false
          none true = refl
          none false = refl

      test_is : slice_get freed i ≡ option_map (λ s. if not (is_free s.0) && not (is_old_needed xs i) then (free_label, s.1) else s) (slice_get xs i)
      test_is = freed_get unneeded first xs i ∙ (let z : first + i - first ≡ i = omega arith in ap (λ (k : ℕ). option_map (λ (s : Sector). if not (is_free s.0) && not (is_old_needed xs k) then (free_label, s.1) else s) (slice_get xs i)) z)

      gap_freed : (o : Option Sector) (p : Option Label) → option_map (λ s. option_map_or (λ h. (h, replicate 512 0)) p s) (option_map (λ s. if not (is_free s.0) && true then (free_label, s.1) else s) o)
          ≡ option_map (λ s. option_map_or (λ h. (h, replicate 512 0)) p (if is_free s.0 then s else (free_label, s.1))) o
      gap_freed None p = refl
      gap_freed (Some s) p = ap (λ (t : Sector). Some (option_map_or (λ h. (h, replicate 512 0)) p t)) (turn (is_free s.0))
        where
          turn : (b : Bool) → (if not b && true then (free_label, s.1) else s) ≡ (if b then s else (free_label, s.1))
          turn true = refl
          turn false = refl

      by : (b : Bool) → is_old_needed xs i ≡ b → slice_get (led_at gap first freed (old_leaders d)) i
          ≡ option_map (λ s. if b then s else option_map_or (λ h. (h, replicate 512 0)) (slice_get (old_leaders d) (spare_below xs i)) (if is_free s.0 then s else (free_label, s.1))) (slice_get xs i)
      by true e =
          led_other gap first freed (old_leaders d) i (not_gap e)
          ∙ test_is
          ∙ ap (λ (b : Bool). option_map (λ (s : Sector). if not (is_free s.0) && not b then (free_label, s.1) else s) (slice_get xs i)) e
          ∙ kept (slice_get xs i)
      by false e =
          led_gap gap first freed (old_leaders d) i (gap_is i ∙ ap not e)
          ∙ ap (λ (n : ℕ). option_map (λ s. option_map_or (λ h. (h, replicate 512 0)) (slice_get (old_leaders d) n) s) (slice_get freed i)) (gaps_are i)
          ∙ ap (λ (o : Option Sector). option_map (λ s. option_map_or (λ h. (h, replicate 512 0)) (slice_get (old_leaders d) (spare_below xs i)) s) o) (test_is ∙ ap (λ (b : Bool). option_map (λ (s : Sector). if not (is_free s.0) && not b then (free_label, s.1) else s) (slice_get xs i)) e)
          ∙ gap_freed (slice_get xs i) (slice_get (old_leaders d) (spare_below xs i))

  placed : length (old_leaders d) ≤ spare_below xs (length xs) → IsPlaced xs (data_sectors (after_writes (first_writes d) d)) (old_leaders d)
  placed enough = record {
    same_length = ap (λ (l : List Sector). length l) data_is ∙ led_long gap first freed (old_leaders d) ∙ freed_long unneeded first xs;
    kept = λ i e. then_get i ∙ ap (λ (b : Bool). option_map (λ (s : Sector). if b then s else option_map_or (λ h. (h, replicate 512 0)) (slice_get (old_leaders d) (spare_below xs i)) (if is_free s.0 then s else (free_label, s.1))) (slice_get xs i)) e ∙ itself (slice_get xs i);
    gaps = λ i y e at. by i y (slice_get xs i) (sym (then_get i ∙ ap (λ (b : Bool). option_map (λ (s : Sector). if b then s else option_map_or (λ h. (h, replicate 512 0)) (slice_get (old_leaders d) (spare_below xs i)) (if is_free s.0 then s else (free_label, s.1))) (slice_get xs i)) e) ∙ at);
    leaders_are = old_leaders_are d;
    enough = enough;
  }
    where
      itself : (o : Option Sector) → option_map (λ s. s) o ≡ o
      itself None = refl
      itself (Some s) = refl

      past : (hs : List Label) (n : ℕ) → slice_get hs n ≡ None → length hs ≤ n
      past [] n e = omega arith
      past (h ∷ hs) zero e = absurd (none-some h (sym e))
      past (h ∷ hs) (suc n) e = let more = past hs n e in omega (arith, more)

      by : (i : ℕ) (y : Sector) (o : Option Sector) → option_map (λ (s : Sector). option_map_or (λ h. (h, replicate 512 0)) (slice_get (old_leaders d) (spare_below xs i)) (if is_free s.0 then s else (free_label, s.1))) o ≡ Some y
          → (slice_get (old_leaders d) (spare_below xs i) ≡ Some y.0) ⊎ ((length (old_leaders d) ≤ spare_below xs i) × (is_free y.0 ≡ true))
      by i y None e = absurd (none-some y e)
      by i y (Some s) e = which (slice_get (old_leaders d) (spare_below xs i)) refl (same_Some _ y e)
        where
          free : (b : Bool) → is_free s.0 ≡ b → is_free (if b then s else (free_label, s.1)).0 ≡ true
          free true f = f
          free false f = refl

          which : (p : Option Label) → slice_get (old_leaders d) (spare_below xs i) ≡ p → option_map_or (λ h. (h, replicate 512 0)) p (if is_free s.0 then s else (free_label, s.1)) ≡ y
              → (p ≡ Some y.0) ⊎ ((length (old_leaders d) ≤ spare_below xs i) × (is_free y.0 ≡ true))
          which (Some h) q is = inl (ap (λ (t : Sector). Some t.0) is)
          which None q is = inr (past (old_leaders d) (spare_below xs i) q, ap (λ (t : Sector). is_free t.0) (sym is) ∙ free (is_free s.0) refl)

pub first_writes_place : FirstWritesPlace
first_writes_place d within enough = placed d within enough
