-- `text_constraints::read::read_nevers` meets its contract: the names of the inputs, and then all lines. Assumes
-- nothing.
use Prim.Native.Nat.{ℕ, ◌*◌, ◌≤◌}
use mathlib.Core.Path.{◌≡◌, ap, ◌∙◌}
use mathlib.Core.List.{List}
use native.Mathlib.Omega.{arith}
use lib.ListN.{length}
use Rattle.netlist.specs.Syntax.{Tree}
use Rattle.netlist.specs.Reading.{excluded_names}
use Rattle.text_lines.specs.Trees.{TextOf}
use Rattle.text_symbols.specs.Results.{InputNames}
use Rattle.text_pairs.specs.Tables.{InputsAre}
use Rattle.text_constraints.specs.declared.NeverLines.{NeverLines}
use Rattle.text_constraints.specs.Places.{never_lines}
use Rattle.text_constraints.proofs.LineWalk.{none_told, words_placed}
use Rattle.text_constraints.proofs.TreePlaces.{inputs_are, nevers-stand, none-counted}
use Rattle.text_constraints.proofs.read.read_nevers.Goals as goal

-- the table is that of the tree's inputs
table_of : {text : List ℕ} {lines : NeverLines} {inputs : List ℕ} → InputNames text lines.inputs inputs → (t : Tree)
    → TextOf t text → lines ≡ never_lines t
    → InputsAre t.inputs lines.inputs inputs
unfolding never_lines
table_of {text} {lines} i t is e =
    let n : lines.inputs ≡ length t.inputs = ap (λ (l : NeverLines). l.inputs) e in
    inputs_are is n (i.numbers t is n)

pub returns-then-count-eq0 : goal.returns-then-count-eq0
returns-then-count-eq0 c = λ t is e. none_told t _ (none-counted t e c.if-count-eq0.true)

pub read_lines-requires : goal.read_lines-requires
read_lines-requires c =
    let named = c in
    let p = named.requires in
    let r = p.ready in
    record {
      lines = r.tree.nevers;
      is = nevers-stand r.is r.stand;
      short = r.short;
      few = r.few_lines;
      inputs_ready =
          record {
            known = r.tree.inputs;
            are = table_of named.input_names.ensures r.tree r.is r.stand;
            few = r.few_inputs;
          };
      name_room = omega arith;
      mask_room = p.room;
    }

pub returns : goal.returns
unfolding never_lines excluded_names
returns c =
    let named = c in
    let s = named in
    λ t is e.
    let stand = nevers-stand is e in
    let told =
    c.read_lines.ensures.say t.nevers t.inputs stand (table_of named.input_names.ensures t is e) in
    let room : 2 * length t.nevers ≤ length s.args.masks.now =
    omega (arith, stand.counted, s.requires.room, s.requires.ready.few_lines) in
    record {
      repeats = rw e at told.repeats;
      outsides = rw e at told.outsides;
      words = told.words ∙ words_placed t.inputs t.nevers s.args.masks.now room;
    }
