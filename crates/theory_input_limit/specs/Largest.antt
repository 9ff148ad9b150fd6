-- A block at every limit: 12 inputs with names of eight bytes, 8 never lines that name them all, 1,024 gates of four
-- operands and 16 outputs. Its words and its written text are as long as any can be: 5,268 words and 58,098 bytes
-- (proofs/Largest.antt).
use Rattle.std.specs.Prelude.{ℕ, ◌+◌, List, [], ◌∷◌, ◌++◌, replicate}
use Rattle.prelude.specs.Lists.{ascii, tab}
use Rattle.netlist.specs.Assignments.{Assignment}
use Rattle.netlist.specs.Netlist.{Name, Operand, input, Gate, Output, Block}

unfoldable pub long_name : ℕ → Name
long_name i = ascii "abcdefg" ++ ((97 + i) ∷ [])

unfoldable pub long_never : Assignment
long_never = record { fixed = 4095; ones = 0 }

unfoldable pub long_gate : Gate
long_gate = record { kind = 3; operands = input 0 ∷ input 0 ∷ input 0 ∷ input 0 ∷ [] }

unfoldable pub long_output : ℕ → Output
long_output i = record { port = long_name i; node = input 0 }

unfoldable pub largest : Block
largest = record {
  inputs = tab long_name 12;
  nevers = replicate 8 long_never;
  gates = replicate 1024 long_gate;
  outputs = tab long_output 16;
}
