-- The show line as the words give it is the definition's, and short. Assumes nothing.
use Prim.Native.Nat.{ℕ, zero, suc, ◌+◌, ◌*◌, ◌≤◌, ◌<◌}
use mathlib.Core.Path.{◌≡◌, refl, sym, ap, ◌∙◌}
use mathlib.Core.Bool.{true, false}
use mathlib.Core.List.{List, [], ◌∷◌, ◌++◌, map}
use native.Mathlib.Omega.{arith}
use lib.ListN.{length, get_or, length-append}
use Rattle.prelude.specs.Lists.{ascii, tab, joined}
use Rattle.prelude.proofs.Tab.{map-tab, tab-ext}
use Rattle.theory_encoding.proofs.ListFacts.{length-trimmed}
use Rattle.theory_encoding.proofs.Decoded.{decode-output}
use Rattle.theory_encoding.proofs.Readers.{whole_parts}
use Rattle.netlist.specs.Values.{Value, undefined, val, value_of}
use Rattle.netlist.specs.StoredBlock.{name_size, output_size, nevers_at, gates_at, outputs_at, bytes_at, name_at, output_at}
use Rattle.netlist.specs.StoredBlock.{operand_of, decode, is_malformed}
use Rattle.netlist.specs.Netlist.{Operand, Output}
use Rattle.netlist.specs.Rounds.{operand_value, settled, output_value}
use Rattle.netlist.specs.Syntax.{value_text, pair_text}
use Rattle.netlist.specs.Bench.{port_text, show_line}
use Rattle.graph_gates.specs.Places.{place_of}
use Rattle.graph_gates.specs.Graph.{Decoded}
use Rattle.graph_simulation.specs.State.{Coded, inputs_in, state_in, ShownAt}
use Rattle.graph_simulation.proofs.Outputs.{shown-ready, shown-code}
use Rattle.graph_simulation.specs.Rounded.{Starting, SettledIn}
use Rattle.graph_simulation.proofs.Rounds.{operands_same, starting-inputs, settled-of}
use Rattle.theory_fixpoint.proofs.Values.{value_of-code}
use Rattle.text_pieces.specs.Pieces.{Short, pieces}
use Rattle.text_pieces.proofs.Appending.{pieces_more, pieces_none}
use Rattle.bench_set_line.specs.Shown.{PortOf, port_piece, show_text}

-- the byte of a value
pub byte-0 : (v : ℕ) → v ≡ 0 → 48 ∷ [] ≡ value_text (value_of v)
unfolding value_text value_of
byte-0 zero e = refl
byte-0 (suc v) e = absurd (omega arith)

pub byte-1 : (v : ℕ) → v ≡ 1 → 49 ∷ [] ≡ value_text (value_of v)
unfolding value_text value_of
byte-1 zero e = absurd (omega arith)
byte-1 (suc zero) e = refl
byte-1 (suc (suc v)) e = absurd (omega arith)

pub byte-u : (v : ℕ) → (v ≡ 0 → ⊥) → (v ≡ 1 → ⊥) → 117 ∷ [] ≡ value_text (value_of v)
unfolding value_text value_of
byte-u zero n m = absurd (n refl)
byte-u (suc zero) n m = absurd (m refl)
byte-u (suc (suc v)) n m = refl

pub value-bytes : (v : Value) → length (value_text v) ≡ 1
unfolding value_text
value-bytes (val true) = refl
value-bytes (val false) = refl
value-bytes undefined = refl

name-short : (ws : List ℕ) (at : ℕ) → length (name_at ws at) ≤ 8
unfolding name_at bytes_at
name-short ws at = length-trimmed (bytes_at ws at)

port-length : (ws : List ℕ) (from : ℕ) (values : List ℕ) (o : ℕ) → length (port_piece ws from values o) ≤ 13
unfolding port_piece pair_text
port-length ws from values o =
    let s = name_at ws (from + output_size * o) in
    let v = value_of (get_or values (place_of (operand_of (get_or ws 0 0) (get_or ws (from + output_size * o + name_size) 0)))
    0) in
    let a = length-append s (ascii " " ++ (value_text v ++ (ascii ")" ++ []))) in
    let b = length-append (value_text v) (ascii ")" ++ []) in
    let d = value-bytes v in
    let n = name-short ws (from + output_size * o) in
    omega arith

ports-length : (ws : List ℕ) (from : ℕ) (values : List ℕ) (k : ℕ)
    → length (pieces (port_piece ws from values) k) ≤ 13 * k
ports-length ws from values zero = rw (pieces_none (port_piece ws from values)) (omega arith)
ports-length ws from values (suc k) =
    let f = port_piece ws from values in
    let a = port-length ws from values k in
    let b = ports-length ws from values k in
    rw (pieces_more f k, length-append (pieces f k) (f k)) (omega arith)

pub show-short : (ws values : List ℕ) → is_malformed ws ≡ false → Short (show_text ws values) 0
unfolding show_text
show-short ws values whole =
    let from = outputs_at (get_or ws 0 0) (get_or ws 3 0) (get_or ws 1 0) in
    let p = pieces (port_piece ws from values) (get_or ws 2 0) in
    let a = ports-length ws from values (get_or ws 2 0) in
    let b = length-append p (ascii ")\n") in
    let k = (whole_parts ws whole).few_outputs in
    record { small = omega arith }

-- the line from the header's words
pub show-of : (ws values : List ℕ) {k from : ℕ} → k ≡ get_or ws 2 0
    → from ≡ outputs_at (get_or ws 0 0) (get_or ws 3 0) (get_or ws 1 0)
    → show_text ws values ≡ ascii "(show" ++ (pieces (port_piece ws from values) k ++ ascii ")\n")
unfolding show_text
show-of ws values ek ef = rw (ef, ek) refl

-- where the outputs' words stand
pub ports-near : (ws : List ℕ) → is_malformed ws ≡ false → {from : ℕ}
    → from ≡ outputs_at (get_or ws 0 0) (get_or ws 3 0) (get_or ws 1 0)
    → (from ≤ 600000) × (get_or ws 2 0 ≤ 65535)
unfolding nevers_at gates_at outputs_at
ports-near ws whole e =
    let w = whole_parts ws whole in
    (omega (arith, w.few_inputs, w.few_nevers, w.few_gates), omega (arith, w.few_outputs))

pub port-ready : {ws : List ℕ} {from o n : ℕ} → PortOf ws from o → n ≡ get_or ws 0 0
    → ShownAt ws n (from + output_size * o)
port-ready {ws} {from} {o} h e = rw (h.start, e) (shown-ready ws h.whole o h.below)

-- port by port
module _ (ws : List ℕ) (whole : is_malformed ws ≡ false) {values : List ℕ} (c : Coded values) where
  abbrev from : ℕ
  from = outputs_at (get_or ws 0 0) (get_or ws 3 0) (get_or ws 1 0)

  abbrev x : List Value
  x = inputs_in values

  abbrev state : List Value
  state = state_in (get_or ws 1 0) values

  abbrev output_of : ℕ → Output
  output_of o = output_at (get_or ws 0 0) ws (from + output_size * o)

  port-is : (o : ℕ) → o < get_or ws 2 0 → port_piece ws from values o ≡ port_text x state (output_of o)
  unfolding port_piece port_text output_at
  port-is o l =
      let d : Output = output_of o in
      let shows = shown-code ws whole o l d c in
      let shown : value_of (get_or values (place_of (operand_of (get_or ws 0 0) (get_or ws
      (from + output_size * o + name_size) 0))) 0) ≡ output_value x state (output_of o) =
      ap value_of shows ∙ value_of-code (output_value x state (get_or (decode ws).outputs o d))
      ∙ ap (output_value x state) (decode-output ws o d l) in
      ap (λ (v : Value). pair_text (name_at ws (from + output_size * o)) v []) shown

  show-ports : tab (port_piece ws from values) (get_or ws 2 0) ≡ map (port_text x state) (decode ws).outputs
  unfolding decode
  show-ports =
      tab-ext (port_piece ws from values) (λ o. port_text x state (output_of o)) (get_or ws 2 0) port-is ∙ sym (map-tab
      (port_text x state) output_of (get_or ws 2 0))

  -- the line from what the places hold
  pub show-shown : show_text ws values ≡ ascii "(show" ++ (joined (map (port_text x state) (decode ws).outputs)
      ++ ascii ")\n")
  unfolding show_text pieces
  show-shown = ap (λ (r : List ℕ). ascii "(show" ++ (r ++ ascii ")\n")) (ap joined show-ports)

-- with the settled values the line is the definition's
pub show-is : (ws : List ℕ) → is_malformed ws ≡ false → {graph start values : List ℕ} {m count : ℕ} {x : List Value}
    → Decoded (decode ws) (get_or ws 1 0) graph
    → Starting x start → m ≡ get_or ws 1 0 → SettledIn m graph start values count
    → show_text ws values ≡ show_line (decode ws) x
unfolding show_line port_text output_value
show-is ws whole {graph} {start} {values} {m} {count} {x} d s e r =
    let t : SettledIn (get_or ws 1 0) graph start values count = rw e at r in
    let st : List Value = settled (decode ws) x in
    let found : state_in (get_or ws 1 0) values ≡ st = t.state ∙ settled-of d s in
    let same : operand_value (inputs_in values) st ≡ operand_value x st = rw t.inputs (operands_same (inputs_in start) x
    (starting-inputs s) st st (λ j. refl)) in
    show-shown ws whole r.coded
    ∙ ap (λ (f : Operand → Value). ascii "(show"
    ++ (joined (map (λ (o : Output). pair_text o.port (f o.node) []) (decode ws).outputs) ++ ascii ")\n"))
    (ap (operand_value (inputs_in values)) found ∙ same)
