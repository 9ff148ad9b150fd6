-- Which line comes, by its letter and the phase: one law for each way through the code. Assumes nothing.
use mathlib.Core.Path.{◌≡◌, refl, sym, ap, ◌∙◌}
use mathlib.Core.Logic.{⊎_elim}
use mathlib.Core.Bool.{Bool, true, false, cond, ◌&&◌}
use mathlib.Core.List.{List}
use Prim.Native.Nat.{ℕ, ◌-◌, ◌≤◌, ◌<◌}
use native.Mathlib.Omega.{arith}
use lib.ListN.{length, take, drop, get_or, length-drop}
use lib.Seq.{get_or-drop}
use lib.Dec.{eqb, leb}
use borrow.Author.Tests.{eq-eqb, ne_eqb, eqb-true, le-leb, leb-true}
use Rattle.std.specs.Prelude.{Ok, Err}
use Rattle.prelude.proofs.Tests.{not-true-false, and_left, and_right, and_intro, eq-or-ne}
use Rattle.prelude.proofs.Elements.{rest-is-drop}
use Rattle.prelude.specs.Lists.{ascii, is}
use Rattle.netlist.specs.Parse.{stuck, stop, expect}
use Rattle.text_recogniser.specs.Readers.{scan_of, first_byte}
use Rattle.text_recogniser.proofs.First.{byte-taken, byte_left}
use Rattle.text_recogniser.proofs.Shortens.{Leaves, Shortens, shortens-expect, shortens-bind, shortens-name}
use Rattle.text_recogniser.proofs.Shortens.{shortens-word}
use Rattle.text_recogniser.proofs.Continues.{left-short}
use Rattle.text_recogniser.specs.Scan.{input_name, input_reader, never_end, never_reader, gate_expression, gate_bracket}
use Rattle.text_recogniser.specs.Scan.{gate_naming, gate_reader, output_shown, output_space, output_port, output_reader}
use Rattle.text_recogniser.specs.Scan.{line_behind, line_reader}
use Rattle.text_recogniser.proofs.LineSteps.{shortens-never-pairs, shortens-expression}

-- ---- by the letter

module _ (phase : ℕ) (t : List ℕ) {c : ℕ} (e : c ≡ get_or t 0 0) where
  pub chosen-input : c ≡ 105 → phase ≡ 0 → line_behind phase t ≡ input_reader t
  unfolding line_behind
  chosen-input i p =
      rw (and_intro (is "i" (get_or t 0 0)) (eqb phase 0) (eq-eqb 105 (get_or t 0 0) (sym i ∙ e)) (eq-eqb phase 0 p))

  module _ (n : c ≡ 105 → phase ≡ 0 → ⊥) where
    no-input : is "i" (get_or t 0 0) && eqb phase 0 ≡ false
    no-input =
        not-true-false (is "i" (get_or t 0 0) && eqb phase 0)
        (λ h. n (e ∙ sym (eqb-true 105 (get_or t 0 0) (and_left (is "i" (get_or t 0 0)) (eqb phase 0) h)))
        (eqb-true phase 0 (and_right (is "i" (get_or t 0 0)) (eqb phase 0) h)))

    pub chosen-never : c ≡ 110 → phase ≤ 1 → line_behind phase t ≡ never_reader t
    unfolding line_behind
    chosen-never g p =
        rw (
          no-input,
          and_intro (is "n" (get_or t 0 0)) (leb phase 1) (eq-eqb 110 (get_or t 0 0) (sym g ∙ e))
              (le-leb phase 1 p),
        )

    module _ (m : c ≡ 110 → phase ≤ 1 → ⊥) where
      no_never : is "n" (get_or t 0 0) && leb phase 1 ≡ false
      no_never =
          not-true-false (is "n" (get_or t 0 0) && leb phase 1)
          (λ h. m (e ∙ sym (eqb-true 110 (get_or t 0 0) (and_left (is "n" (get_or t 0 0)) (leb phase 1) h)))
          (leb-true phase 1 (and_right (is "n" (get_or t 0 0)) (leb phase 1) h)))

      pub chosen-gate : c ≡ 103 → phase ≤ 2 → line_behind phase t ≡ gate_reader t
      unfolding line_behind
      chosen-gate g p =
          rw (
            no-input,
            no_never,
            and_intro (is "g" (get_or t 0 0)) (leb phase 2) (eq-eqb 103 (get_or t 0 0) (sym g ∙ e))
                (le-leb phase 2 p),
          )

      pub chosen-output : (c ≡ 103 → phase ≤ 2 → ⊥) → line_behind phase t ≡ output_reader t
      unfolding line_behind
      chosen-output g =
          let k : is "g" (get_or t 0 0) && leb phase 2 ≡ false =
          not-true-false (is "g" (get_or t 0 0) && leb phase 2)
          (λ h. g (e ∙ sym (eqb-true 103 (get_or t 0 0) (and_left (is "g" (get_or t 0 0)) (leb phase 2) h)))
          (leb-true phase 2 (and_right (is "g" (get_or t 0 0)) (leb phase 2) h)))
          in
          rw (no-input, no_never, k)

-- where a line of the phase's own sort does not come, it is one of the next phase's
module _ (t : List ℕ) where
  pub behind-inputs : (get_or t 0 0 ≡ 105 → ⊥) → line_behind 0 t ≡ line_behind 1 t
  unfolding line_behind
  behind-inputs n = rw (ne_eqb 105 (get_or t 0 0) (λ h. n (sym h)))

  pub behind-nevers : (get_or t 0 0 ≡ 110 → ⊥) → line_behind 1 t ≡ line_behind 2 t
  unfolding line_behind
  behind-nevers n = rw (ne_eqb 110 (get_or t 0 0) (λ h. n (sym h)))

  pub behind-gates : (get_or t 0 0 ≡ 103 → ⊥) → line_behind 2 t ≡ line_behind 3 t
  unfolding line_behind
  behind-gates n = rw (ne_eqb 103 (get_or t 0 0) (λ h. n (sym h)))

-- ---- by the opening bracket

module _ (phase : ℕ) (s : List ℕ) {b : ℕ} (e : b ≡ get_or s 0 0) where
  pub line-bracket : b ≡ 40 → line_reader phase s ≡ line_behind phase (drop 1 s)
  unfolding line_reader expect
  line-bracket f = byte-taken _ _ s 40 e f (omega arith)

  pub line-none : (b ≡ 40 → ⊥) → line_reader phase s ≡ stuck (length s)
  unfolding line_reader expect stop
  line-none f = byte_left _ _ s 40 e f

-- what is lent to the line's reader, behind the bracket
abbrev pub rest_of : List ℕ → List ℕ
rest_of s = take (length s - 1) (drop 1 s)

pub line-rest : (phase : ℕ) (s : List ℕ) {b : ℕ} → b ≡ get_or s 0 0 → b ≡ 40
    → line_reader phase s ≡ line_behind phase (rest_of s)
line-rest phase s e f = line-bracket phase s e f ∙ ap (line_behind phase) (sym (rest-is-drop s 1))

-- the letter
pub letter_at : (s : List ℕ) → get_or (drop 1 s) 0 0 ≡ get_or s 1 0
letter_at s = get_or-drop 1 s 0 0

-- ---- a line leaves the end of the text, and less of it

shortens-input-line : Shortens input_reader
unfolding input_reader input_name
shortens-input-line =
    shortens-expect (ascii "in ") (shortens-bind (shortens-name (first_byte false)) (λ _. shortens-word (ascii ")\n")))

shortens-never-line : Shortens never_reader
unfolding never_reader never_end
shortens-never-line =
    shortens-expect (ascii "never") (shortens-bind shortens-never-pairs (λ _. shortens-word (ascii "\n")))

shortens-gate-line : Shortens gate_reader
unfolding gate_reader gate_naming gate_bracket gate_expression
shortens-gate-line =
    shortens-expect (ascii "gate ")
    (shortens-bind (shortens-name (first_byte true)) (λ _. shortens-expect (ascii " (")
    (shortens-bind shortens-expression (λ _. shortens-word (ascii ")\n")))))

shortens-output-line : Shortens output_reader
unfolding output_reader output_port output_space output_shown
shortens-output-line =
    shortens-expect (ascii "out ")
    (shortens-bind (shortens-name (first_byte false)) (λ _. shortens-expect (ascii " ")
    (shortens-bind (shortens-name (first_byte true)) (λ _. shortens-word (ascii ")\n")))))

shortens-behind : (phase : ℕ) → Shortens (line_behind phase)
unfolding line_behind
shortens-behind phase = record {
  leaves =
      λ s. go s (is "i" (get_or s 0 0) && eqb phase 0) (is "n" (get_or s 0 0) && leb phase 1)
      (is "g" (get_or s 0 0) && leb phase 2);
}
  where
    go : (s : List ℕ) (i n g : Bool)
        → Leaves s (cond i (input_reader s) (cond n (never_reader s) (cond g (gate_reader s) (output_reader s))))
    go s true n g = shortens-input-line.leaves s
    go s false true g = shortens-never-line.leaves s
    go s false false true = shortens-gate-line.leaves s
    go s false false false = shortens-output-line.leaves s

pub shortens-line : (phase : ℕ) → Shortens (line_reader phase)
unfolding line_reader
shortens-line phase = shortens-expect (ascii "(") (shortens-behind phase)

pub line-shorter : (phase : ℕ) (s : List ℕ) {n : ℕ} → 0 < length s → Ok n ≡ scan_of (line_reader phase s) → n < length s
line-shorter phase s {n} h e = ⊎_elim read refused (eq-or-ne (get_or s 0 0) 40)
  where
    read : get_or s 0 0 ≡ 40 → n < length s
    read f =
        let l : n ≤ length (drop 1 s) = left-short (shortens-behind phase) (drop 1 s)
        (e ∙ ap scan_of (line-bracket phase s refl f)) in
        omega (arith, l, length-drop 1 s)

    refused : (get_or s 0 0 ≡ 40 → ⊥) → n < length s
    refused f =
        let q : Ok n ≡ Err (length s) = e ∙ ap scan_of (line-none phase s refl f) in
        let z : ◌≡◌ {A = ℕ} 0 1 = cc in
        absurd (omega arith)
