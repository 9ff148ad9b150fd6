-- Lines with one letter: the turns of the loop that passes them. Assumes nothing.
--   lettered-byte: the letter as the code reads it
--   RunLeft, run-next, run-done: the lines that are left
--   Running: what holds before each turn
use Prim.Native.Nat.{ℕ, ◌+◌, ◌≤◌, ◌<◌}
use mathlib.Core.Path.{◌≡◌, refl, sym, ◌∙◌}
use mathlib.Core.Bool.{true, false, false≢true, true≢false}
use mathlib.Core.List.{List, [], ◌∷◌, ◌++◌, append_assoc}
use native.Mathlib.Omega.{arith}
use lib.ListN.{length, get_or, drop, length-append, length-drop}
use lib.Seq.{drop_at, drop-drop, get_or-drop}
use lib.Dec.{eqb}
use borrow.Author.Tests.{eq-eqb, ne_eqb}
use Rattle.prelude.specs.Lists.{all, joined}
use Rattle.prelude.proofs.Tests.{and_left, and_right}
use Rattle.text_lines.specs.Lines.{length_with_lf}
use Rattle.text_lines.specs.Trees.{is_line}
use Rattle.text_lines.proofs.Scanning.{line_length-le}
use Rattle.text_lines.proofs.JoinedLines.{one_line}
use Rattle.text_constraints.specs.Runs.{lettered, RunAt}

-- ---- the letter of a line

lettered-byte : (letter : ℕ) (s : List ℕ) → 0 < letter → lettered letter s ≡ eqb (get_or s 1 0) letter
lettered-byte letter [] l = sym (ne_eqb 0 letter (λ e. omega arith))
lettered-byte letter (x ∷ []) l = sym (ne_eqb 0 letter (λ e. omega arith))
lettered-byte letter (x ∷ y ∷ s) l = refl

-- what follows a line does not change its letter
lettered-append : (letter : ℕ) (l rest : List ℕ) → lettered letter l ≡ true → lettered letter (l ++ rest) ≡ true
lettered-append letter [] rest h = absurd (false≢true h)
lettered-append letter (x ∷ []) rest h = absurd (false≢true h)
lettered-append letter (x ∷ y ∷ s) rest h = h

lettered-long : (letter : ℕ) (s : List ℕ) → lettered letter s ≡ true → 2 ≤ length s
lettered-long letter [] h = absurd (false≢true h)
lettered-long letter (x ∷ []) h = absurd (false≢true h)
lettered-long letter (x ∷ y ∷ s) h = omega arith

-- by the byte that the code reads
module _ (letter : ℕ) (text : List ℕ) (at : ℕ) (some : 0 < letter) {byte : ℕ} (read : byte ≡ get_or text (at + 1) 0) where
  byte-here : lettered letter (drop at text) ≡ eqb byte letter
  byte-here = lettered-byte letter (drop at text) some ∙ rw (get_or-drop, read)

  pub letter-there : byte ≡ letter → lettered letter (drop at text) ≡ true
  letter-there e = byte-here ∙ eq-eqb byte letter e

  pub no-letter : (byte ≡ letter → ⊥) → lettered letter (drop at text) ≡ false
  no-letter e = byte-here ∙ ne_eqb byte letter e

-- a line with a letter is there, and its end is in the text
module _ (letter : ℕ) (text : List ℕ) (at : ℕ) (there : lettered letter (drop at text) ≡ true) where
  pub line-there : at + 2 ≤ length text
  line-there = omega (arith, lettered-long letter (drop at text) there, length-drop at text)

  pub next-inside : at + length_with_lf (drop at text) ≤ length text
  next-inside = omega (arith, line-there, line_length-le (drop at text), length-drop at text)

  pub next-further : 1 ≤ length_with_lf (drop at text)
  next-further = go (drop at text) there
    where
      go : (s : List ℕ) → lettered letter s ≡ true → 1 ≤ length_with_lf s
      go [] h = absurd (false≢true h)
      go (x ∷ s) h = omega arith

-- ---- the lines that are left

pub record RunLeft (letter from : ℕ) (text : List ℕ) (ls : List (List ℕ)) (end count : ℕ) : Type 0 where
  pub left : List (List ℕ)
  pub is : RunAt letter end left text
  pub bytes : end + length (joined left) ≡ from + length (joined ls)
  pub lines : count + length left ≡ length ls

-- the loop has passed `count` lines, up to the place `end`
pub record Running (letter from : ℕ) (text : List ℕ) (end count : ℕ) : Type 0 where
  pub inside : end ≤ length text
  pub few : count ≤ end
  pub left : (ls : List (List ℕ)) → RunAt letter from ls text → RunLeft letter from text ls end count

module _ {letter from : ℕ} {text : List ℕ} {ls : List (List ℕ)} where
  module _ {end count : ℕ} where
    pub run-next : RunLeft letter from text ls end count → lettered letter (drop end text) ≡ true → {next : ℕ}
        → next ≡ end + length_with_lf (drop end text)
        → RunLeft letter from text ls next (count + 1)
    run-next r there e = rw e (go r.left r.is r.bytes r.lines)
      where
        go : (left : List (List ℕ)) → RunAt letter end left text
            → end + length (joined left) ≡ from + length (joined ls) → count + length left ≡ length ls
            → RunLeft letter from text ls (end + length_with_lf (drop end text)) (count + 1)
        go [] a b c = absurd (true≢false (sym there ∙ rw a.stand a.ended))
        go (l ∷ more) a b c =
            let line : is_line l ≡ true = and_left (is_line l) (all is_line more) a.lines in
            let s : drop end text ≡ l ++ (joined more ++ a.rest) = a.stand ∙ append_assoc l (joined more) a.rest in
            let size : length_with_lf (drop end text) ≡ length l =
            rw s (one_line l (joined more ++ a.rest) line).size in
            rw size
            (record {
              left = more;
              is = record {
                lines = and_right (is_line l) (all is_line more) a.lines;
                letters = and_right (lettered letter l) (all (lettered letter) more) a.letters;
                rest = a.rest;
                stand = sym (drop-drop (length l) end text) ∙ rw s (drop_at l (joined more ++ a.rest) (length l) refl);
                ended = a.ended;
              };
              bytes = omega (arith, length-append l (joined more));
              lines = omega arith;
            })

    -- none is left
    none_left : (r : RunLeft letter from text ls end count) → lettered letter (drop end text) ≡ false → r.left ≡ []
    none_left r none = go r.left r.is
      where
        go : (left : List (List ℕ)) → RunAt letter end left text → left ≡ []
        go [] a = refl
        go (l ∷ more) a =
            let there =
            lettered-append letter l (joined more ++ a.rest)
            (and_left (lettered letter l) (all (lettered letter) more) a.letters) in
            absurd (true≢false (sym there ∙ rw (← append_assoc l (joined more) a.rest, ← a.stand) none))

    pub run_ends : RunLeft letter from text ls end count → lettered letter (drop end text) ≡ false
        → end ≡ from + length (joined ls)
    run_ends r none = let z : length (joined r.left) ≡ 0 = rw (none_left r none) in omega (arith, r.bytes)

    pub run-counts : RunLeft letter from text ls end count → lettered letter (drop end text) ≡ false → count ≡ length ls
    run-counts r none = let z : length r.left ≡ 0 = rw (none_left r none) in omega (arith, r.lines)
