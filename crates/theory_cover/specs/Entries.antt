-- The entries of a cover, which are prime implicants, as the code finds them: pairs of masks, tested against a table in
-- which only sound and minimal assignments are left. Cited by the contracts of crates/op_cover. Assumes nothing.
use Rattle.std.specs.Prelude.{ℕ, ◌+◌, ◌-◌, ◌*◌, ◌/◌, ◌%◌, ◌^◌, ◌≤◌, ◌<◌, ◌≡◌, Bool, true, false, cond, not, ◌&&◌, ◌||◌, List, map, length, get_or, eqb, leb}
use Rattle.prelude.specs.Lists.{all, up_to, keep, placed}
use Rattle.netlist.specs.Assignments.{Assignment, is_within}
use Rattle.theory_cover.specs.Over.{sound_over, minimal_over, assignment_words}
use Rattle.theory_cover.specs.Digits.{ternary_digit}
use Rattle.theory_cover.specs.Tables.{ternary_number, weight_of, Weighed}

-- pair number q of two masks of n bits
unfoldable pub mask_pair_at : ℕ → ℕ → Assignment
mask_pair_at n q = record { fixed = q / 2 ^ n; ones = q % 2 ^ n }

-- in pair number q the inputs at 1 are fixed ones, so the pair is an assignment
unfoldable pub within_at : ℕ → ℕ → Bool
within_at n q = is_within n (mask_pair_at n q).fixed (mask_pair_at n q).ones

-- a pair that is an assignment
pub record PairBelow (n q : ℕ) : Type 0 where
  pub below : q < 2 ^ n * 2 ^ n
  pub within : within_at n q ≡ true

-- r is the first pair behind q that is an assignment, or the end of all pairs
pub record NextPair (n q r : ℕ) : Type 0 where
  pub above : q < r
  pub least : (x : ℕ) → q < x → x < r → within_at n x ≡ false
  pub end : r ≤ 2 ^ n * 2 ^ n
  pub legal : r < 2 ^ n * 2 ^ n → within_at n r ≡ true

-- an assignment is an entry of the cover of this test of settings: sound and minimal
unfoldable pub is_entry : (ℕ → Bool) → ℕ → Assignment → Bool
is_entry p n a = is_within n a.fixed a.ones && (sound_over p n a && minimal_over p n a)

unfoldable pub entry_at : (ℕ → Bool) → ℕ → ℕ → Bool
entry_at p n q = is_entry p n (mask_pair_at n q)

-- assignment number k is sound, by a table with a byte for each assignment
unfoldable pub sound_at : List ℕ → ℕ → Bool
sound_at table k = eqb (get_or table k 0) 1

-- input i of assignment k is free, or cannot be dropped: with it free the number is greater by 2 or 1 times 3^i
unfoldable pub needed_at : List ℕ → ℕ → ℕ → Bool
needed_at table k i = eqb (ternary_digit 3 k i) 2 || not (sound_at table (k + (2 - ternary_digit 3 k i) * 3 ^ i))

unfoldable pub minimal_at : List ℕ → ℕ → ℕ → Bool
minimal_at table n k = all (needed_at table k) (up_to n)

unfoldable pub is_left : List ℕ → ℕ → ℕ → Bool
is_left sound n k = sound_at sound k && minimal_at sound n k

-- of the first m assignments only those are left that are sound and minimal, and these are counted
pub record OnlyMinimal (sound marks : List ℕ) (n m count : ℕ) : Type 0 where
  pub left : (k : ℕ) → k < m → sound_at marks k ≡ is_left sound n k
  pub rest : (k : ℕ) → m ≤ k → get_or marks k 0 ≡ get_or sound k 0
  pub counted : count ≡ length (keep (is_left sound n) (up_to m))

-- pair number q is an assignment that is left in the table of marks
unfoldable pub entry_by : List ℕ → ℕ → ℕ → Bool
entry_by marks n q = within_at n q && sound_at marks (ternary_number n (mask_pair_at n q))

-- the entries among the first q pairs
unfoldable pub entries_below : List ℕ → ℕ → ℕ → List Assignment
entries_below marks n q = map (mask_pair_at n) (keep (entry_by marks n) (up_to q))

unfoldable pub entries_by : List ℕ → ℕ → List Assignment
entries_by marks n = entries_below marks n (2 ^ n * 2 ^ n)

-- the assignments with one first mask, a row of the table: `base` is the number of the one with no input at 1
pub record Row (marks weights : List ℕ) (n base fixed : ℕ) : Type 0 where
  pub weighed : Weighed weights n
  pub room : 3 ^ n ≤ length marks
  pub legal : fixed < 2 ^ n
  pub base-is : base + 2 * weight_of n fixed + 1 ≡ 3 ^ n

-- pair q is an assignment or the end, and the entries before it are counted
pub record EntriesReached (marks : List ℕ) (n q count : ℕ) : Type 0 where
  pub within : q ≤ 2 ^ n * 2 ^ n
  pub legal : q < 2 ^ n * 2 ^ n → within_at n q ≡ true
  pub counted : count ≡ length (entries_below marks n q)

-- the slice `out` begins with the words of the entries before pair q, and goes on as it was at first
pub record Words (marks first out : List ℕ) (n q : ℕ) : Type 0 where
  pub same_length : length out ≡ length first
  pub words : out ≡ placed (assignment_words (entries_below marks n q)) first

-- the entries with this first mask are written behind those before it
pub record RowListed (marks entry exit : List ℕ) (n fixed count : ℕ) : Type 0 where
  pub reached : EntriesReached marks n ((fixed + 1) * 2 ^ n) count
  pub row : (first : List ℕ) → Words marks first entry n (fixed * 2 ^ n)
      → Words marks first exit n ((fixed + 1) * 2 ^ n)

-- the number of entries, and their words where there is room for them
pub record EntriesWritten (entries : List Assignment) (entry exit : List ℕ) (count : ℕ) : Type 0 where
  pub counted : count ≡ length entries
  pub written : exit ≡ cond (leb (2 * length entries) (length entry)) (placed (assignment_words entries) entry) entry
