-- How many lines and gates a text has: from its bytes, and from its tree (SPECIFICATION 1.5); and refusal 3 from these
-- counts. Assumes nothing.
use Rattle.std.specs.Prelude.{ℕ, ◌+◌, ◌-◌, Bool, false, cond, not, ◌&&◌, List, [], ◌∷◌, map, length, eqb, leb}
use Rattle.prelude.specs.Lists.{sum}
use Rattle.netlist.specs.Limits.{max_inputs, max_nevers, max_gates, max_outputs}
use Rattle.netlist.specs.Syntax.{Tree}
use Rattle.netlist.specs.Reading.{line_gates}
use Rattle.text_lines.specs.Lines.{times}
use Rattle.text_lines.specs.declared.counts.Counts.{Counts}

-- the first of a list is this number
abbrev pub is_first : ℕ → List ℕ → Bool
is_first b [] = false
is_first b (x ∷ xs) = eqb x b

-- how often b stands right behind a
abbrev pub times_behind : ℕ → ℕ → List ℕ → ℕ
times_behind a b [] = 0
times_behind a b (x ∷ xs) = cond (eqb x a && is_first b xs) 1 0 + times_behind a b xs

-- the counts as the bytes of the lines behind never lines give them: each line has one bracket of its own, each gate
-- one more; `g` stands behind those of named gates alone. The lines before are counted already
unfoldable pub counts_of : ℕ → ℕ → List ℕ → Counts
counts_of inputs nevers rest =
    record {
      inputs = inputs;
      nevers = nevers;
      named = times_behind 40 103 rest;
      outputs = times 10 rest - times_behind 40 103 rest;
      gates = times 40 rest - times 10 rest;
    }

-- the counts as the tree gives them
unfoldable pub tree_counts : Tree → Counts
tree_counts t =
    record {
      inputs = length t.inputs;
      nevers = length t.nevers;
      named = length t.gates;
      outputs = length t.outputs;
      gates = sum (map line_gates t.gates);
    }

-- refusal 3, from the counts
unfoldable pub is_over : Counts → Bool
is_over c =
    not (leb c.inputs max_inputs && leb c.nevers max_nevers && leb c.gates max_gates && leb c.outputs
    max_outputs)
