-- `text_pieces::put_name` meets its contract: a name is its eight bytes without the zeros at the end.
use Rattle.netlist.specs.StoredBlock.{name_at}
use Rattle.text_pieces.proofs.put_name.Goals as goal

pub put_trimmed-requires : goal.put_trimmed-requires
unfolding name_at
put_trimmed-requires c =
    let start = c in
    rw c.name_bytes-bytes.ensures start.requires.short

pub returns : goal.returns
unfolding name_at
returns c =
    let after-name-bytes = c in
    rw after-name-bytes.name_bytes-bytes.ensures at c.put_trimmed.ensures
