-- The index of a table of names: a hash table by open addressing with linear probing (Knuth, The Art of Computer
-- Programming 3, 6.4). An entry is 0, or one more than the number of a name of the table. The walk of a name begins at
-- its hash and goes on by one to the first entry that is 0 or that name's own. Assumes nothing.
use Rattle.std.specs.Prelude.{ℕ, zero, suc, ◌+◌, ◌%◌, ◌≤◌, ◌<◌, ◌≡◌, Bool, true, false, List, length, get_or}
use Rattle.std.specs.declared.option.Option.{Option}
use Rattle.std.specs.declared.option.Option.TheVariants.{None}
use Rattle.std.specs.Option.{MatchOption}
use Rattle.prelude.specs.Lists.{least, IfBelow}
use Rattle.text_names.specs.Search.{is_at, repeats_at}

-- a prime, above the number of different names that a text has room for in a never line
abbrev pub hashes : ℕ
hashes = 8101

-- the most pairs of a line: max_text / 6, as a pair has at least 6 bytes
abbrev pub max_pairs : ℕ
max_pairs = 10240

unfoldable pub hash_of : ℕ → ℕ
hash_of name = name % hashes

-- a name's walk stops at this entry
unfoldable pub stops_at : List ℕ → ℕ → ℕ → Bool
stops_at names name zero = true
stops_at names name (suc i) = is_at names name i

-- a name's walk ends at this place
pub record WalkEnds (names index : List ℕ) (name at : ℕ) : Type 0 where
  pub from : hash_of name ≤ at
  pub passed : (j : ℕ) → hash_of name ≤ j → j < at → stops_at names name (get_or index j 0) ≡ false
  pub stops : stops_at names name (get_or index at 0) ≡ true

-- a name's walk ends at this entry of the index, or behind all of them
abbrev pub WalkTo : List ℕ → List ℕ → ℕ → Option ℕ → Type 0
WalkTo names index name r =
    MatchOption r ((at : ℕ) × (length index ≤ at) × WalkEnds names index name at)
    (λ at. (at < length index) × WalkEnds names index name at)

-- the walk of name i ends at its own entry
pub record Stored (names index : List ℕ) (i : ℕ) : Type 0 where
  pub at : ℕ
  pub ends : WalkEnds names index (get_or names i 0) at
  pub entry : get_or index at 0 ≡ suc i

-- the index holds the first `count` names, of which none repeats another
pub record Held (names : List ℕ) (count : ℕ) (index : List ℕ) : Type 0 where
  pub few : length names < 65536
  pub within : count ≤ length names
  pub entries : (j : ℕ) → get_or index j 0 ≤ count
  pub stored : (i : ℕ) → i < count → Stored names index i

-- the index holds the first `count` names, of which none repeats another. No entry stands further behind the last hash
-- than there are names
pub record Indexed (names : List ℕ) (count : ℕ) (index : List ℕ) : Type 0 where
  pub few : length names < 65536
  pub room : hashes + length names < length index
  pub within : count ≤ length names
  pub entries : (j : ℕ) → get_or index j 0 ≤ count
  pub beyond : (j : ℕ) → hashes + count ≤ j → get_or index j 0 ≡ 0
  pub stored : (i : ℕ) → i < count → Stored names index i

-- an index that may be full holds the names before name i
pub record EnterReady (names : List ℕ) (i : ℕ) (index : List ℕ) : Type 0 where
  pub held : Held names i index
  pub inside : i < length names

-- name i is in the index, which keeps its length, or is told to repeat one before it or to have no room. An index with
-- room for all has room for this one, and then it is told whether the name repeats one
pub record NameEntered (names : List ℕ) (i : ℕ) (index after : List ℕ) (r : Bool) : Type 0 where
  pub sized : length after ≡ length index
  pub new : r ≡ false → repeats_at names i ≡ false
  pub stored : r ≡ false → Held names (i + 1) after
  pub answer : Indexed names i index → r ≡ repeats_at names i
  pub indexed : Indexed names i index → r ≡ false → Indexed names (i + 1) after

-- the first name that repeats one before it is told by r, or all names are in the index
pub record AllEntered (names after : List ℕ) (r : Option ℕ) : Type 0 where
  pub answer : IfBelow (least (repeats_at names) (length names)) (length names) r
  pub indexed : r ≡ None → Indexed names (length names) after
