-- Words copied while a rendering is written: which are mapped through the table of newest copies, and what copying asks
-- of its slices. The contracts of this crate cite it. Assumes nothing.
use Rattle.std.specs.Prelude.{ℕ, zero, suc, ◌+◌, ◌*◌, ◌/◌, ◌≤◌, ◌<◌, ◌≡◌, false, cond, ◌&&◌, List, length, get_or, set, take, leb, ltb}
use Rattle.prelude.specs.Lists.{tab}
use Rattle.words_layout.specs.declared.nodes.Nodes.{Nodes}
use Rattle.words_layout.specs.Nodes.{gate_named}
use Rattle.netlist.specs.Limits.{max_copies}
use Rattle.netlist.specs.StoredBlock.{output_size, gate_size, decode, encode, is_malformed}
use Rattle.netlist.specs.Rendering.{schedule, rendering}
use Rattle.words_layout.specs.Bounds.{node_room, max_word}
use Rattle.unroll_emission.specs.declared.entry.Entry.{Entry}

-- a gate's word gives its entry in the table, any other word itself
unfoldable pub mapped_word : Nodes → List ℕ → ℕ → ℕ
mapped_word nodes newest w =
    cond (ltb (gate_named nodes.inputs nodes.gates w) nodes.gates)
    (get_or newest (gate_named nodes.inputs nodes.gates w) 0) w

-- word i of the five words of an entry, a gate or an output: mapped from `first` on and below `last`, else kept
unfoldable pub entry_word : List ℕ → Nodes → Entry → List ℕ → ℕ → ℕ
entry_word ws nodes e newest i =
    cond (leb e.first i && ltb i e.last) (mapped_word nodes newest (get_or ws (e.from + i) 0))
    (get_or ws (e.from + i) 0)

unfoldable pub entry_words : List ℕ → Nodes → Entry → List ℕ → List ℕ
entry_words ws nodes e newest = tab (entry_word ws nodes e newest) 5

-- the entry of the gate at `at`, whose operands are mapped; and of an output, whose node behind its name is
abbrev pub gate_entry : List ℕ → ℕ → Entry
gate_entry ws at = record { from = at; first = 1; last = 1 + get_or ws at 0 / 8 }

abbrev pub output_entry : ℕ → Entry
output_entry at = record { from = at; first = 4; last = 5 }

-- the word at `from + i`
unfoldable pub word_from : List ℕ → ℕ → ℕ → ℕ
word_from ws from i = get_or ws (from + i) 0

-- the table of newest copies after t copies
unfoldable pub table_after : ℕ → List ℕ → List ℕ → ℕ → List ℕ
table_after n order newest zero = newest
table_after n order newest (suc t) = set (table_after n order newest t) (get_or order t 0) (n + t)

-- the words of a copy of gate j
unfoldable pub copy_words : List ℕ → Nodes → ℕ → List ℕ → List ℕ
copy_words ws nodes j newest = entry_words ws nodes (gate_entry ws (nodes.start + gate_size * j)) newest

-- the words of copy t
unfoldable pub copy_at : List ℕ → Nodes → List ℕ → List ℕ → ℕ → List ℕ
copy_at ws nodes order newest t = copy_words ws nodes (get_or order t 0) (table_after nodes.inputs order newest t)

-- the words of output o
unfoldable pub shown_at : List ℕ → Nodes → List ℕ → ℕ → List ℕ
shown_at ws nodes newest o =
    entry_words ws nodes (output_entry (nodes.start + gate_size * nodes.gates + output_size * o)) newest

-- what copying `count` entries of five words asks of the slices
pub record EntryRoom (ws : List ℕ) (from : ℕ) (out : List ℕ) (to count : ℕ) : Type 0 where
  pub words : from + output_size * count ≤ length ws
  pub room : to + output_size * count ≤ length out

-- what writing the copies of `total` gates asks of the slices
pub record GateRoom (ws : List ℕ) (nodes : Nodes) (total : ℕ) (newest out : List ℕ) : Type 0 where
  pub few : nodes.inputs + nodes.gates ≤ node_room
  pub copies : nodes.inputs + total ≤ max_word
  pub words : nodes.start + gate_size * nodes.gates ≤ length ws
  pub table : nodes.gates ≤ length newest
  pub room : nodes.start + gate_size * total ≤ length out

-- the gates that are to be copied are there
pub record Order (m total : ℕ) (order : List ℕ) : Type 0 where
  pub listed : total ≤ length order
  pub inside : (t : ℕ) → t < total → get_or order t 0 < m

-- what writing the rendering asks: whole words, the schedule, and room for the table of newest copies and the result
pub record CopyReady (ws order : List ℕ) (total : ℕ) (newest out : List ℕ) : Type 0 where
  pub whole : is_malformed ws ≡ false
  pub total_is : total ≡ length (schedule (decode ws))
  pub few_copies : total ≤ max_copies
  pub scheduled : take total order ≡ schedule (decode ws)
  pub table : get_or ws 1 0 ≤ length newest
  pub room : length (encode (rendering (decode ws))) ≤ length out
