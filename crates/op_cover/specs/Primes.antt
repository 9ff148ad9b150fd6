-- The words of theory_cover's Entries of a table and its weights as one value. Cited by the contracts of `entries`.
-- Assumes nothing.
--   entries_of, is_entry_of          the entries that the table shows, and whether a pair of masks is one of them
--   pair_of                          the number of a pair of masks
--   HasRow, Reaches, ListsRow        the assignments with one first mask; the entries before a pair are counted; those
--                                    with one first mask are written
use Rattle.std.specs.Prelude.{ℕ, Bool, List, ◌+◌, ◌*◌, ◌^◌}
use Rattle.netlist.specs.Assignments.{Assignment}
use Rattle.theory_cover.specs.Entries.{entry_by, entries_by, Row, EntriesReached, RowListed}
use Rattle.op_cover.specs.declared.entries.Primes.{Primes}

abbrev pub entries_of : Primes → List Assignment
entries_of p = entries_by p.marks.now p.inputs

abbrev pub is_entry_of : Primes → ℕ → Bool
is_entry_of p q = entry_by p.marks.now p.inputs q

abbrev pub pair_of : Primes → ℕ → ℕ → ℕ
pair_of p fixed ones = fixed * 2 ^ p.inputs + ones

abbrev pub HasRow : Primes → ℕ → ℕ → Type 0
HasRow p base fixed = Row p.marks.now p.weights.now p.inputs base fixed

abbrev pub Reaches : Primes → ℕ → ℕ → Type 0
Reaches p q count = EntriesReached p.marks.now p.inputs q count

abbrev pub ListsRow : Primes → List ℕ → List ℕ → ℕ → ℕ → Type 0
ListsRow p entry exit fixed count = RowListed p.marks.now entry exit p.inputs fixed count
