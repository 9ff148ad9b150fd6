-- `text_block::put_name` meets its contract.
use Prim.Native.Nat.{◌/◌, ◌%◌}
use Rattle.text_names.specs.Ports.{port_words}
use Rattle.text_block.proofs.BlockParts.{four-stores}
use Rattle.text_block.proofs.put_name.Goals as goal

pub returns : goal.returns
unfolding port_words
returns c =
    let a = c.args in
    four-stores a.block.now a.at (a.name % 65536) (a.name / 65536 % 65536) (a.name / 4294967296 % 65536)
    (a.name / 281474976710656 % 65536)
