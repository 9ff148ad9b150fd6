-- Words and names along a text: what one byte more tells, and where the bytes of a name end. `scan::word` and
-- `scan::name_bytes` go by these. Assumes nothing.
use mathlib.Core.Path.{◌≡◌, refl, sym, ap, ◌∙◌}
use mathlib.Core.Bool.{Bool, true, false, not}
use mathlib.Core.Logic.{⊎_elim}
use mathlib.Core.List.{List, ◌∷◌}
use Prim.Native.Nat.{ℕ, zero, suc, ◌+◌, ◌-◌, ◌≤◌, ◌<◌}
use native.Mathlib.Omega.{arith}
use lib.ListN.{length, drop, get_or, length-drop, drop_of_length-le}
use lib.Seq.{drop-cons, drop-drop}
use lib.Dec.{eqb}
use borrow.Author.Tests.{eq-eqb, ne_eqb, not-true, not-false}
use Rattle.std.specs.Prelude.{Result, Ok, Err}
use Rattle.prelude.specs.Lists.{least}
use Rattle.prelude.proofs.Tests.{lt-or-le}
use Rattle.prelude.proofs.Least.{least-le, least-below, least_at}
use Rattle.netlist.specs.Names.{is_name_byte, is_letter, is_digit, is_underscore}
use Rattle.netlist.specs.Parse.{pure, stop, on_test, if_next, expect, name_bytes}
use Rattle.text_recogniser.specs.Readers.{scan_of, word_reader}
use Rattle.text_recogniser.proofs.ListFacts.{first-at}
use Rattle.text_recogniser.proofs.Continues.{scan-map}
use Rattle.text_recogniser.proofs.First.{there, if-taken, if-left}

-- what is left of a word w and of a text s behind i bytes
abbrev pub word_from : List ℕ → List ℕ → ℕ → Result ℕ ℕ
word_from w s i = scan_of (word_reader (drop i w) (drop i s))

module _ (w s : List ℕ) (i : ℕ) where
  pub word_over : length w ≤ i → i ≤ length w → i ≤ length s → word_from w s i ≡ Ok (length s - length w)
  unfolding word_reader expect pure
  word_over h e g =
      let q : i ≡ length w = omega arith in
      rw (drop_of_length-le w h) (ap Ok (length-drop i s ∙ ap (λ (k : ℕ). length s - k) q))

  pub word-short : i < length w → length s ≤ i → word_from w s i ≡ Err (length s - i)
  unfolding word_reader expect pure if_next stop
  word-short h g = let z : length s - i ≡ 0 = omega arith in rw (drop_of_length-le s g, drop-cons w i 0 h, z)

  pub word_same : i < length w → i < length s → get_or s i 0 ≡ get_or w i 0 → word_from w s i ≡ word_from w s (suc i)
  unfolding word_reader expect if_next on_test
  word_same h g e =
      let t : eqb (get_or w i 0) (get_or s i 0) ≡ true = eq-eqb (get_or w i 0) (get_or s i 0) (sym e) in
      rw (drop-cons s i 0 g, drop-cons w i 0 h, t)

  pub word-other : i < length w → i < length s → (get_or s i 0 ≡ get_or w i 0 → ⊥) → word_from w s i ≡ Err (length s - i)
  unfolding word_reader expect if_next on_test stop
  word-other h g e =
      let t : eqb (get_or w i 0) (get_or s i 0) ≡ false = ne_eqb (get_or w i 0) (get_or s i 0) (λ z. e (sym z)) in
      let l : suc (length (drop (suc i) s)) ≡ length s - i = rw (length-drop (suc i) s) (omega arith) in
      rw (drop-cons s i 0 g, drop-cons w i 0 h, t) (ap Err l)

-- at most `most` name bytes of a text s, behind i of them
abbrev pub name_from : ℕ → List ℕ → ℕ → Result ℕ ℕ
name_from most s i = scan_of (name_bytes (most - i) (drop i s))

none-past : is_name_byte 0 ≡ false
unfolding is_name_byte is_letter is_digit is_underscore
none-past = refl

-- is there no name byte at this place?
abbrev pub no_name_byte : List ℕ → ℕ → Bool
no_name_byte s i = not (is_name_byte (get_or s i 0))

module _ (most : ℕ) (s : List ℕ) (i : ℕ) where
  pub name-byte-there : is_name_byte (get_or s i 0) ≡ true → i < length s
  name-byte-there h =
      let l : 0 < length (drop i s) = there is_name_byte (drop i s) none-past (ap is_name_byte (first-at s i) ∙ h) in
      omega (arith, l, length-drop i s)

  pub name-more : i < most → is_name_byte (get_or s i 0) ≡ true → name_from most s i ≡ name_from most s (suc i)
  unfolding name_bytes
  name-more l h =
      let m : most - i ≡ suc (most - suc i) = omega arith in
      let q : i + 1 ≡ suc i = omega arith in
      rw m
      (ap scan_of (if-taken _ _ is_name_byte (drop i s) none-past (ap is_name_byte (first-at s i) ∙ h))
      ∙ scan-map (name_bytes (most - suc i)) (λ cs. get_or (drop i s) 0 0 ∷ cs) (drop 1 (drop i s))
      ∙ ap (λ (t : List ℕ). scan_of (name_bytes (most - suc i) t)) (drop-drop 1 i s ∙ ap (λ (k : ℕ). drop k s) q))

  pub name-over : i ≤ length s → most ≤ i → name_from most s i ≡ Ok (length s - i)
  unfolding name_bytes pure
  name-over g h = let m : most - i ≡ 0 = omega arith in rw m (ap Ok (length-drop i s))

  pub name-other : i < most → is_name_byte (get_or s i 0) ≡ false → name_from most s i ≡ Ok (length s - i)
  unfolding name_bytes pure
  name-other l h =
      let m : most - i ≡ suc (most - suc i) = omega arith in
      rw m (ap scan_of (if-left _ _ is_name_byte (drop i s) (ap is_name_byte (first-at s i) ∙ h))
      ∙ ap Ok (length-drop i s))

module _ (most : ℕ) (s : List ℕ) where
  -- where none of them but names' bytes stand before a place, it is in the text, and the answer is the one behind it
  before : (i : ℕ) → i ≤ most → ((j : ℕ) → j < i → no_name_byte s j ≡ false)
      → (i ≤ length s) × (name_from most s 0 ≡ name_from most s i)
  before zero l h = (omega arith, refl)
  before (suc i) l h =
      let b : is_name_byte (get_or s i 0) ≡ true = not-false _ (h i (omega arith)) in
      let r = before i (omega arith) (λ j k. h j (omega arith)) in
      (name-byte-there most s i b, r.1 ∙ name-more most s i (omega arith) b)

  abbrev first : ℕ
  first = least (no_name_byte s) most

  known : (first ≤ length s) × (name_from most s 0 ≡ name_from most s first)
  known = before first (least-le (no_name_byte s) most) (λ j k. least-below (no_name_byte s) most j k)

  pub names-within : least (no_name_byte s) most ≤ length s
  names-within = known.0

  pub names-end : Ok (length s - least (no_name_byte s) most) ≡ scan_of (name_bytes most s)
  names-end = sym (whole ∙ known.1 ∙ ⊎_elim other over (lt-or-le first most))
    where
      whole : scan_of (name_bytes most s) ≡ name_from most s 0
      whole = let z : most - 0 ≡ most = omega arith in rw z

      other : first < most → name_from most s first ≡ Ok (length s - first)
      other l = name-other most s first l (not-true _ (least_at (no_name_byte s) most l))

      over : most ≤ first → name_from most s first ≡ Ok (length s - first)
      over l = name-over most s first known.0 l
