-- `graph_gates::decode_gates` meets its contract: gate after gate is put.
use mathlib.Core.Path.{◌≡◌}
use Prim.Native.Nat.{◌≤◌}
use native.Mathlib.Omega.{arith}
use Rattle.netlist.specs.Limits.{max_gates}
use Rattle.words_layout.specs.Nodes.{nodes_of}
use Rattle.graph_gates.proofs.Decoding.{words_of, putting-more, graph-decoded}
use Rattle.graph_gates.proofs.decode_gates.Goals as goal

pub put_node-requires : goal.put_node-requires
put_node-requires c =
    (rw c.nodes_of-nodes.ensures (words_of c.args.block.now.words.now c.args.block.now.well_formed), c.loop-j-test.true)

pub loop-j-preserved : goal.loop-j-preserved
loop-j-preserved c =
    let most : c.nodes_of-nodes.result.gates ≤ max_gates =
    rw c.nodes_of-nodes.ensures (words_of c.args.block.now.words.now c.args.block.now.well_formed).few_gates in
    putting-more c.loop-j.invariant (omega arith) c.put_node.ensures

pub returns : goal.returns
unfolding nodes_of
returns c =
    let all : c.loop-j.j ≡ c.nodes_of-nodes.result.gates = omega arith in
    graph-decoded c.args.block.now.words.now c.args.block.now.well_formed (rw (all, c.nodes_of-nodes.ensures) at
    c.loop-j.invariant)
