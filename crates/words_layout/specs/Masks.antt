-- The masks of values in a row, as crates/words_layout/src/value_masks.rt answers them. Assumes nothing.
use Rattle.std.specs.Prelude.{ℕ, List}
use Rattle.netlist.specs.Values.{Value, is_defined}
use Rattle.netlist.specs.Assignments.{mask_of, is_one}
use Rattle.words_layout.specs.declared.value_masks.Masks.{Masks}

-- a mask has as many bits as a word
abbrev pub mask_bits : ℕ
mask_bits = 16

unfoldable pub masks_of : List Value → Masks
masks_of vs = record { defined = mask_of is_defined vs; ones = mask_of is_one vs }
