-- The parts in which a text is searched for an LF. Assumes nothing.
use Rattle.std.specs.Prelude.{ℕ}

-- the code's PART: the bytes of a part
abbrev pub part_size : ℕ
part_size = 64
