-- The last elements of a list, and its element at a place. Assumes nothing.
use mathlib.Core.Path.{◌≡◌, ap, ◌∙◌}
use mathlib.Core.List.{List}
use Prim.Native.Nat.{ℕ, ◌+◌, ◌-◌, ◌≤◌}
use native.Mathlib.Nat.{add-zero}
use native.Mathlib.Omega.{arith}
use lib.ListN.{length, drop, get_or, length-drop}
use lib.Seq.{drop-drop, get_or-drop}
use Rattle.text_recogniser.specs.Readers.{last_ones}

module _ {A : Type 0} where
  pub length_last : (n : ℕ) (xs : List A) → n ≤ length xs → length (last_ones n xs) ≡ n
  length_last n xs h = rw (length-drop (length xs - n) xs) (omega arith)

  -- the last of the last
  pub last-of-last : (m n : ℕ) (xs : List A) {ys : List A} → ys ≡ last_ones n xs → m ≤ length ys
      → last_ones m ys ≡ last_ones m xs
  last-of-last m n xs {ys} e h =
      let l : length ys ≡ length xs - (length xs - n) = rw e (length-drop (length xs - n) xs) in
      let f : length xs - n + (length ys - m) ≡ length xs - m = omega arith in
      rw (← f) (rw (← drop-drop (length ys - m) (length xs - n) xs) (ap (drop (length ys - m)) e))

pub first-at : (s : List ℕ) (i : ℕ) → get_or (drop i s) 0 0 ≡ get_or s i 0
first-at s i = get_or-drop i s 0 0 ∙ ap (λ (k : ℕ). get_or s k 0) (add-zero i)
