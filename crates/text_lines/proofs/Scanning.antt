-- What one more byte adds to a count, to a line's length and to a line's brackets: the turns of the loops over bytes.
-- Assumes nothing.
use Prim.Native.Nat.{ℕ, zero, suc, ◌+◌, ◌≤◌, ◌<◌}
use mathlib.Core.Path.{◌≡◌, refl}
use mathlib.Core.Bool.{Bool, true, false, cond, not, ◌||◌, true≢false}
use mathlib.Core.List.{List, [], ◌∷◌}
use native.Mathlib.Numerals.{add-one}
use native.Mathlib.Omega.{arith}
use lib.ListN.{length, get_or, take, drop, drop_of_length-le, length-take}
use lib.Seq.{drop-cons}
use lib.Dec.{eqb}
use borrow.Author.Tests.{eqb-true, eqb-false, ne_eqb}
use borrow.Author.Count.{below_more}
use Rattle.std.specs.List.{filter, prefix_len}
use Rattle.text_lines.specs.Lines.{times, NoLf, length_with_lf, line_opens}

module _ (s : List ℕ) (i : ℕ) (inside : i < length s) where
  -- a byte more is counted
  pub times_more : (b n one : ℕ) → n + times b (drop i s) ≡ times b s → one ≡ cond (eqb (get_or s i 0) b) 1 0
      → n + one + times b (drop (i + 1) s) ≡ times b s
  times_more b n one h e =
      let d : times b (drop i s) ≡ cond (eqb (get_or s i 0) b) 1 0 + times b (drop (i + 1) s) =
      rw (add-one, drop-cons s i 0) in
      omega arith

  pub length_last : get_or s i 0 ≡ 10 → i + length_with_lf (drop i s) ≡ length_with_lf s → i + 1 ≡ length_with_lf s
  length_last e h = let d : length_with_lf (drop i s) ≡ 1 = rw (drop-cons s i 0, e) in omega arith

  pub length_more : (get_or s i 0 ≡ 10 → ⊥) → i + length_with_lf (drop i s) ≡ length_with_lf s
      → i + 1 + length_with_lf (drop (i + 1) s) ≡ length_with_lf s
  length_more e h =
      let d : length_with_lf (drop i s) ≡ suc (length_with_lf (drop (i + 1) s)) =
      rw (add-one, drop-cons s i 0, ne_eqb (get_or s i 0) 10 e) in
      omega arith

-- ---- the invariant of a loop over bytes: n of what a function counts stands before byte i

pub record CountedTo (total : List ℕ → ℕ) (s : List ℕ) (i n : ℕ) : Type 0 where
  pub within : i ≤ length s
  pub few : n ≤ i
  pub left : n + total (drop i s) ≡ total s

-- ---- a part without an LF

-- one byte more
pub no_more : (s : List ℕ) (at i : ℕ) (found : Bool) → (found ≡ false → NoLf s at i)
    → found || eqb (get_or s (at + i) 0) 10 ≡ false
    → NoLf s at (i + 1)
no_more s at i true none e = absurd (true≢false e)
no_more s at i false none e =
    below_more (λ k. get_or s (at + k) 0 ≡ 10 → ⊥) i (none refl) (eqb-false (get_or s (at + i) 0) 10 e)

pub length-skip : (s : List ℕ) (at n : ℕ) → at + n ≤ length s → NoLf s at n
    → at + length_with_lf (drop at s) ≡ length_with_lf s
    → at + n + length_with_lf (drop (at + n) s) ≡ length_with_lf s
length-skip s at zero l none h = let e : at + 0 ≡ at = omega arith in rw e h
length-skip s at (suc n) l none h =
    let e : at + n + 1 ≡ at + suc n = omega arith in
    rw e at (length_more s (at + n) (omega arith) (none n (omega arith))
    (length-skip s at n (omega arith) (λ k i. none k (omega arith)) h))

-- at the end nothing is left to count
module _ (s : List ℕ) (i n : ℕ) (end : length s ≤ i) where
  nothing_left : drop i s ≡ []
  nothing_left = drop_of_length-le s end

  pub times-end : (b : ℕ) → n + times b (drop i s) ≡ times b s → n ≡ times b s
  times-end b h = let d : times b (drop i s) ≡ 0 = rw nothing_left in omega arith

  pub length-end : n + length_with_lf (drop i s) ≡ length_with_lf s → n ≡ length_with_lf s
  length-end h = let d : length_with_lf (drop i s) ≡ 0 = rw nothing_left in omega arith

-- a count of one byte is at most 1
pub one-le : (b : Bool) → cond b 1 0 ≤ 1
one-le true = omega arith
one-le false = omega arith

-- no line is longer than the text, and none has more brackets than bytes
pub line_length-le : (s : List ℕ) → length_with_lf s ≤ length s
line_length-le [] = omega arith
line_length-le (x ∷ xs) = go (eqb x 10) (line_length-le xs)
  where
    go : (b : Bool) → length_with_lf xs ≤ length xs → suc (cond b 0 (length_with_lf xs)) ≤ suc (length xs)
    go true h = omega arith
    go false h = omega arith

pub line_opens-le : (s : List ℕ) → line_opens s ≤ length_with_lf s
line_opens-le [] = omega arith
line_opens-le (x ∷ xs) = go (eqb x 10) (eqb x 40) (line_opens-le xs)
  where
    go : (b d : Bool) → line_opens xs ≤ length_with_lf xs
        → cond b 0 (cond d 1 0 + line_opens xs) ≤ suc (cond b 0 (length_with_lf xs))
    go true d h = omega arith
    go false true h = omega arith
    go false false h = omega arith

-- the brackets among the bytes before the first LF
pub opens-taken : (s : List ℕ)
    → length (filter (λ x. eqb x 40) (take (prefix_len (λ x. not (eqb x 10)) s) s)) ≡ line_opens s
opens-taken [] = refl
opens-taken (x ∷ xs) = go (eqb x 10) (opens-taken xs)
  where
    one : (d : Bool) (ys : List ℕ) → length ys ≡ line_opens xs
        → length (cond d (x ∷ ys) ys) ≡ cond d 1 0 + line_opens xs
    one true ys h = omega (arith, h)
    one false ys h = omega (arith, h)

    go : (b : Bool) → length (filter (λ x. eqb x 40) (take (prefix_len (λ x. not (eqb x 10)) xs) xs)) ≡ line_opens xs
        → length (filter (λ x. eqb x 40) (take (cond (not b) (1 + prefix_len (λ x. not (eqb x 10)) xs) 0) (x ∷ xs)))
        ≡ cond b 0 (cond (eqb x 40) 1 0 + line_opens xs)
    go true h = refl
    go false h =
        let n = prefix_len (λ x. not (eqb x 10)) xs in
        let e : 1 + n ≡ suc n = omega arith in
        rw e (one (eqb x 40) (filter (λ x. eqb x 40) (take n xs)) h)

-- a line at the front is a part of so many bytes
pub line-part : (s : List ℕ) {end : ℕ} → end ≡ length_with_lf s → end ≡ length (take end s)
line-part s {end} e = let l = line_length-le s in rw (length-take end s) (omega arith)

-- the brackets of a line are those among its bytes: its LF is none
pub opens-within : (s : List ℕ) → times 40 (take (length_with_lf s) s) ≡ line_opens s
opens-within [] = refl
opens-within (x ∷ xs) = go (eqb x 10) refl (opens-within xs)
  where
    go : (b : Bool) → eqb x 10 ≡ b → times 40 (take (length_with_lf xs) xs) ≡ line_opens xs
        → times 40 (take (suc (cond b 0 (length_with_lf xs))) (x ∷ xs)) ≡ cond b 0 (cond (eqb x 40) 1 0 + line_opens xs)
    go true e h = rw (eqb-true x 10 e)
    go false e h = rw h
