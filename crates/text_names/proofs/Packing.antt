-- The name at the front of a text, byte by byte, and its number. Assumes nothing.
use Prim.Native.Nat.{ℕ, zero, suc, ◌+◌, ◌-◌, ◌*◌, ◌≤◌, ◌<◌}
use mathlib.Core.Path.{◌≡◌, refl, ap, ap₂, ◌∙◌}
use mathlib.Core.Bool.{Bool, true, false, cond}
use mathlib.Core.List.{List, [], ◌∷◌}
use native.Mathlib.Omega.{arith}
use lib.ListN.{length, get_or, take, drop}
use lib.Seq.{drop-cons, get_or-drop}
use Rattle.std.specs.List.{prefix_len}
use Rattle.prelude.specs.Lists.{all}
use Rattle.prelude.proofs.Tests.{and_left, and_right, and_intro}
use Rattle.netlist.specs.Names.{is_name_byte}
pub use Rattle.theory_encoding.proofs.Names.{name_byte-range as name-byte-range}
use Rattle.prelude.specs.Lists.{tab}
use Rattle.prelude.proofs.Tab.{tab-cut}
use Rattle.text_names.specs.Packed.{packed, name_front, packed_at, packed_through}

-- ---- the front of a list

pub front_bytes : (most : ℕ) (xs : List ℕ) → all is_name_byte (name_front most xs) ≡ true
unfolding name_front
front_bytes zero xs = refl
front_bytes (suc most) [] = refl
front_bytes (suc most) (x ∷ xs) = go (is_name_byte x) refl (front_bytes most xs)
  where
    go : (b : Bool) → is_name_byte x ≡ b → all is_name_byte (name_front most xs) ≡ true
        → all is_name_byte (cond b (x ∷ name_front most xs) []) ≡ true
    go true e h = and_intro (is_name_byte x) (all is_name_byte (name_front most xs)) e h
    go false e h = refl

pub front_length : (most : ℕ) (xs : List ℕ) → length (name_front most xs) ≤ most
unfolding name_front
front_length zero xs = omega arith
front_length (suc most) [] = omega arith
front_length (suc most) (x ∷ xs) = go (is_name_byte x) (front_length most xs)
  where
    go : (b : Bool) → length (name_front most xs) ≤ most → length (cond b (x ∷ name_front most xs) []) ≤ suc most
    go true h = omega arith
    go false h = omega arith

pub front-shorter : (most : ℕ) (xs : List ℕ) → length (name_front most xs) ≤ length xs
unfolding name_front
front-shorter zero xs = omega arith
front-shorter (suc most) [] = omega arith
front-shorter (suc most) (x ∷ xs) = go (is_name_byte x) (front-shorter most xs)
  where
    go : (b : Bool) → length (name_front most xs) ≤ length xs
        → length (cond b (x ∷ name_front most xs) []) ≤ suc (length xs)
    go true h = omega arith
    go false h = omega arith

-- the front is a part of the list
pub front-is : (most : ℕ) (xs : List ℕ) → take (length (name_front most xs)) xs ≡ name_front most xs
unfolding name_front
front-is zero xs = refl
front-is (suc most) [] = refl
front-is (suc most) (x ∷ xs) = go (is_name_byte x) (front-is most xs)
  where
    go : (b : Bool) → take (length (name_front most xs)) xs ≡ name_front most xs
        → take (length (cond b (x ∷ name_front most xs) [])) (x ∷ xs) ≡ cond b (x ∷ name_front most xs) []
    go true h = ap (λ r. x ∷ r) h
    go false h = refl

-- the bytes that `take_while` takes of the first so many
pub front-taken : (most : ℕ) (xs : List ℕ) → prefix_len is_name_byte (take most xs) ≡ length (name_front most xs)
unfolding name_front
front-taken zero xs = refl
front-taken (suc most) [] = refl
front-taken (suc most) (x ∷ xs) = go (is_name_byte x) (front-taken most xs)
  where
    go : (b : Bool) → prefix_len is_name_byte (take most xs) ≡ length (name_front most xs)
        → cond b (1 + prefix_len is_name_byte (take most xs)) 0 ≡ length (cond b (x ∷ name_front most xs) [])
    go true h = omega (arith, h)
    go false h = refl

-- ---- numbers of names

-- 256 to the power k
abbrev room : ℕ → ℕ
room zero = 1
room (suc k) = 256 * room k

-- each number is a byte
abbrev pub AreBytes : List ℕ → Type 0
AreBytes xs = (i : ℕ) → get_or xs i 0 < 256

packed-room : (k : ℕ) (xs : List ℕ) → AreBytes xs → length xs ≤ k → packed xs < room k
packed-room zero [] b l = omega arith
packed-room (suc k) [] b l = let h = packed-room k [] (λ i. omega arith) (omega arith) in omega arith
packed-room zero (x ∷ xs) b l = absurd (omega arith)
packed-room (suc k) (x ∷ xs) b l =
    let h = packed-room k xs (λ i. b (suc i)) (omega arith) in let c : x < 256 = b 0 in omega arith

length-drop-le : (i : ℕ) (xs : List ℕ) → length (drop i xs) ≤ length xs
length-drop-le zero xs = omega arith
length-drop-le (suc i) [] = omega arith
length-drop-le (suc i) (x ∷ xs) = let h = length-drop-le i xs in omega arith

-- a name of 8 bytes fits a word of 64 bits, and so does its end
pub packed-fits : (xs : List ℕ) (i : ℕ) → AreBytes xs → length xs ≤ 8 → packed (drop i xs) < 18446744073709551616
packed-fits xs i b l =
    packed-room 8 (drop i xs) (λ j. rw (get_or-drop i xs j 0) (b (i + j))) (omega (arith, length-drop-le i xs))

-- the loop from the last byte down: one byte more in front
module _ (s : List ℕ) (i r : ℕ) (some : 0 < i) (inside : i ≤ length s) (known : r ≡ packed (drop i s)) where
  pub packed_more : get_or s (i - 1) 0 + 256 * r ≡ packed (drop (i - 1) s)
  packed_more =
      let l : i - 1 < length s = omega arith in
      let e : i ≡ suc (i - 1) = omega arith in
      let k : r ≡ packed (drop (suc (i - 1)) s) = known ∙ ap (λ j. packed (drop j s)) e in
      rw (k, drop-cons s (i - 1) 0 l)

  pub packed-more-fits : AreBytes s → length s ≤ 8 → get_or s (i - 1) 0 + 256 * r < 18446744073709551616
  packed-more-fits b few = rw packed_more (packed-fits s (i - 1) b few)

-- two names with one number are one name
pub packed-injective : (xs ys : List ℕ) → all is_name_byte xs ≡ true → all is_name_byte ys ≡ true → packed xs ≡ packed ys
    → xs ≡ ys
packed-injective [] [] a b e = refl
packed-injective [] (y ∷ ys) a b e =
    absurd (omega (arith, name-byte-range y (and_left (is_name_byte y) (all is_name_byte ys) b)))
packed-injective (x ∷ xs) [] a b e =
    absurd (omega (arith, name-byte-range x (and_left (is_name_byte x) (all is_name_byte xs) a)))
packed-injective (x ∷ xs) (y ∷ ys) a b e =
    let p = name-byte-range x (and_left (is_name_byte x) (all is_name_byte xs) a) in
    let q = name-byte-range y (and_left (is_name_byte y) (all is_name_byte ys) b) in
    let h : x ≡ y = omega (arith, p.1, q.1) in
    let g : packed xs ≡ packed ys = omega (arith, p.1, q.1) in
    ap₂ ◌∷◌ h (packed-injective xs ys (and_right (is_name_byte x) (all is_name_byte xs) a)
    (and_right (is_name_byte y) (all is_name_byte ys) b) g)

-- the numbers of the names at the first places, cut or not
pub through-cut : (text places : List ℕ) (n : ℕ) → n ≤ length places
    → tab (packed_through text (take n places)) (length (take n places)) ≡ tab (packed_through text places) n
unfolding packed_through
through-cut text places n l = tab-cut (packed_at text) places n 0 l
