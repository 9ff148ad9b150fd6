-- What the readers in code answer of the readers in `netlist`: bytes left, and no tree. Assumes nothing: these are
-- definitions.
use Rattle.std.specs.Prelude.{ℕ, ◌-◌, Bool, true, false, List, length, drop, Result, Ok, Err}
use Rattle.std.proofs.Math.Option.{Option, none, some}
use Rattle.netlist.specs.Names.{is_letter, is_name_start}
use Rattle.netlist.specs.Parse.{Parsed, got, stuck, Reader, pure, expect}

-- the place that a reader tells of a bad text: the number of bytes before the bad one
abbrev pub bad_of : {A : Type 0} → List ℕ → Parsed A → Option ℕ
bad_of text (got t rest) = none
bad_of text (stuck left) = some (length text - left)

-- the bytes left of what a reader answers, and where it is stuck, those from the bad one on
abbrev pub scan_of : {A : Type 0} → Parsed A → Result ℕ ℕ
scan_of (got a rest) = Ok (length rest)
scan_of (stuck left) = Err left

-- the last n elements
abbrev pub last_ones : {A : Type 0} → ℕ → List A → List A
last_ones n xs = drop (length xs - n) xs

-- a reader of exactly these bytes
unfoldable pub word_reader : List ℕ → Reader ℕ
word_reader w = expect w (pure 0)

-- may this byte begin a name, where `_` is allowed or not?
unfoldable pub first_byte : Bool → ℕ → Bool
first_byte true = is_name_start
first_byte false = is_letter
