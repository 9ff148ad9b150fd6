-- The counts that the bytes of a tree's text give are the tree's, and so are the limits. Assumes nothing.
use Prim.Native.Nat.{ℕ, ◌+◌, ◌-◌, ◌≤◌}
use mathlib.Core.Path.{◌≡◌, refl, ◌∙◌}
use mathlib.Core.Bool.{Bool, true}
use mathlib.Core.List.{List, [], ◌∷◌, map, map-append}
use native.Mathlib.Omega.{arith}
use lib.ListN.{length, drop, length-append, length-map}
use Rattle.prelude.specs.Lists.{all, sum}
use Rattle.prelude.proofs.Tests.{and_left, and_right}
use Rattle.prelude.proofs.Lists.{sum-append}
use Rattle.netlist.specs.Syntax.{GateLine, Tree, is_legal_gate, is_legal_output}
use Rattle.netlist.specs.Reading.{line_gates, gate_lines_at, is_over_limit}
use Rattle.text_lines.specs.Lines.{times}
use Rattle.text_lines.specs.Trees.{input_line_text, gate_line_text, output_line_text, input_lines, lines_behind, TextOf}
use Rattle.text_lines.specs.Counting.{counts_of, tree_counts, is_over}
use Rattle.text_lines.specs.declared.counts.Counts.{Counts}
use Rattle.text_lines.proofs.JoinedLines.{line-count, times-joined}
use Rattle.text_lines.proofs.TreeLines.{TreeLine, legal-parts, gate-line, output-line, behind-lines}
use Rattle.text_lines.proofs.TreeLines.{behind-stand}
use Rattle.text_lines.proofs.Behind.{named-are}

pub inputs-total : (t : Tree) → length (input_lines t) ≡ length t.inputs
unfolding input_lines
inputs-total t = length-map t.inputs input_line_text

pub behind-total : (t : Tree) → length (lines_behind t) ≡ length t.gates + length t.outputs
unfolding lines_behind
behind-total t = simp (length-append, length-map)

-- ---- lines

module _ {t : Tree} {text : List ℕ} (p : TextOf t text) where
  lines_are : times 10 (drop (gate_lines_at t) text) ≡ length t.gates + length t.outputs
  lines_are = rw (behind-stand p) (line-count (lines_behind t) (behind-lines p) ∙ behind-total t)

-- ---- gates: each line has one bracket of its own, each gate one more

opens-are : {A : Type 0} (legal : A → Bool) (line : A → List ℕ) (gates : A → ℕ)
    → ((x : A) → legal x ≡ true → TreeLine (line x) (gates x)) → (xs : List A)
    → all legal xs ≡ true
    → sum (map (times 40) (map line xs)) ≡ length xs + sum (map gates xs)
opens-are legal line gates f [] h = refl
opens-are legal line gates f (x ∷ xs) h =
    let a = (f x (and_left (legal x) (all legal xs) h)).opens in
    let b = opens-are legal line gates f xs (and_right (legal x) (all legal xs) h) in
    omega arith

pub sum-none : {A : Type 0} (xs : List A) → sum (map (λ x. 0) xs) ≡ 0
sum-none [] = refl
sum-none (x ∷ xs) = let h = sum-none xs in omega arith

module _ {t : Tree} {text : List ℕ} (p : TextOf t text) where
  abbrev rest : List ℕ
  rest = drop (gate_lines_at t) text

  all-opens : times 40 rest ≡ (length t.gates + sum (map line_gates t.gates)) + length t.outputs
  unfolding lines_behind
  all-opens =
      let q = legal-parts t p.legal in
      let b = opens-are is_legal_gate gate_line_text line_gates gate-line t.gates q.gates in
      let c = opens-are is_legal_output output_line_text (λ x. 0) output-line t.outputs q.outputs in
      let e = sum-none t.outputs in
      rw (
        behind-stand p,
        times-joined 40 (lines_behind t),
        map-append (times 40) (map gate_line_text t.gates),
        sum-append,
      ) (omega arith)

  gates-are : times 40 rest - times 10 rest ≡ sum (map line_gates t.gates)
  gates-are = omega (arith, all-opens, lines_are p)

  outputs-are : times 10 rest - length t.gates ≡ length t.outputs
  outputs-are = omega (arith, lines_are p)

  -- The counts of the bytes are the counts of the tree.
  pub counts-are : (inputs nevers : ℕ) (s : List ℕ) → inputs ≡ length t.inputs → nevers ≡ length t.nevers
      → s ≡ rest
      → counts_of inputs nevers s ≡ tree_counts t
  unfolding counts_of tree_counts
  counts-are inputs nevers s e f g = rw (e, f, g, named-are p, outputs-are, gates-are)

-- 3: the limits, from the counts
pub limits-are : (t : Tree) → (c : Counts) → c ≡ tree_counts t → is_over c ≡ is_over_limit t
unfolding is_over tree_counts is_over_limit
limits-are t c e = rw e refl

-- a named gate is a gate
pub named-le : (gs : List GateLine) → length gs ≤ sum (map line_gates gs)
unfolding line_gates
named-le [] = omega arith
named-le (g ∷ gs) = let h = named-le gs in omega arith
