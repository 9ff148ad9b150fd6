-- SPECIFICATION 1.5: every limit, once.
use Rattle.std.specs.Prelude.{ℕ, ◌+◌, ◌*◌}

-- bytes of a text
abbrev pub max_text : ℕ
max_text = 61440

-- inputs, gates (inner ones too) and outputs of a block
abbrev pub max_inputs : ℕ
max_inputs = 12

abbrev pub max_gates : ℕ
max_gates = 1024

abbrev pub max_outputs : ℕ
max_outputs = 16

-- never lines of a block
abbrev pub max_nevers : ℕ
max_nevers = 8

-- gates of a rendering, which is a block
abbrev pub max_copies : ℕ
max_copies = max_gates

-- bytes of a name or a port
abbrev pub max_name : ℕ
max_name = 8

-- expressions inside each other
abbrev pub max_depth : ℕ
max_depth = 8

-- ---- what follows from them

-- words of the largest block (2.1): four counts, four words a name, two a never line, five a gate and five an output
abbrev pub max_block : ℕ
max_block = 4 + 4 * max_inputs + 2 * max_nevers + 5 * max_gates + 5 * max_outputs

-- bytes of the names `_0` to `_1023`
abbrev pub max_gate_names : ℕ
max_gate_names = 4010

-- bytes of a never line that names every input: `(never`, a pair ` (NAME VALUE)` for each, and `)` with its LF
abbrev pub max_never_line : ℕ
max_never_line = 8 + (5 + max_name) * max_inputs

-- bytes of the longest written text (7.11): `(in NAME)`, never lines, `(gate `, a name, ` (nand` with four names and
-- `))`, and `(out PORT NAME)`, each with its LF
abbrev pub max_written : ℕ
max_written = (6 + max_name) * max_inputs + max_never_line * max_nevers + (15 + 4 * (1 + max_name)) * max_gates + max_gate_names
    + (8 + 2 * max_name) * max_outputs
