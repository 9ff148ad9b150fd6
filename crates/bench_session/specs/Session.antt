-- Which run a state and the lent buffers stand for, what must hold of them, and what the functions give: in terms of
-- the run of specs/Runs.antt, which is the bench. Assumes nothing.
use Rattle.std.specs.Prelude.{ℕ, ◌+◌, ◌*◌, ◌≤◌, ◌<◌, ◌≡◌, Bool, true, false, ◌⊎◌, List, length, take}
use Rattle.netlist.specs.Limits.{max_text, max_outputs, max_name, max_block}
use Rattle.netlist.specs.StoredBlock.{is_malformed}
use Rattle.graph_gates.specs.Graph.{graph_size}
use Rattle.graph_gates.specs.Fanout.{Empty}
use Rattle.graph_simulation.specs.Rounded.{PreparedFor}
use Rattle.bench_session.specs.Runs.{held_bytes, Run, in_netlist, in_lines, over, Turn, start, held_front, after}
use Rattle.bench_session.specs.Runs.{outputs}
use Rattle.bench_session.specs.declared.state.State.{State}
use Rattle.bench_session.specs.declared.state.State.TheVariants.{Netlist, Lines, Ended}

-- room for an answer: the longest show line, `(show`, a pair for each output, `)` and LF; a refusal's line is shorter
abbrev pub max_answer : ℕ
max_answer = 5 + (max_name + 5) * max_outputs + 2

-- the run that a state stands for, with the text, the words and the line that it holds
unfoldable pub run_of : State → List ℕ → List ℕ → List ℕ → Run
run_of (Netlist kept fresh) text words line = in_netlist fresh (take kept text)
run_of (Lines count kept) text words line = in_lines (take count words) (take kept line)
run_of Ended text words line = over

-- arrays for a graph and its fan-out, as they are before a block is read
pub record Unprepared (graph fanout : List ℕ) : Type 0 where
  pub long : length graph ≡ graph_size
  pub empty : Empty fanout

-- a state is sound: what it holds is in the buffers, and its block is not malformed and prepared
unfoldable pub Sound : State → List ℕ → List ℕ → List ℕ → Type 0
Sound (Netlist kept fresh) words graph fanout = (kept ≤ max_text) × Unprepared graph fanout
Sound (Lines count kept) words graph fanout =
    (kept ≤ held_bytes) × (count ≤ length words) × (is_malformed (take count words) ≡ false)
    × PreparedFor (take count words) graph fanout
Sound Ended words graph fanout = Unit {0}

-- a state behind a refused netlist
unfoldable pub has_ended : State → Bool
has_ended (Netlist kept fresh) = false
has_ended (Lines count kept) = false
has_ended Ended = true

-- the buffers are long enough
pub record SessionRoom (text words line out : List ℕ) : Type 0 where
  pub text_room : max_text ≤ length text
  pub word_room : max_block ≤ length words
  pub line_room : held_bytes ≤ length line
  pub out_room : max_answer ≤ length out

-- What every step keeps.
pub record SessionReady (state : State) (text words graph fanout line out : List ℕ) : Type 0 where
  pub room : SessionRoom text words line out
  pub sound : Sound state words graph fanout

-- the first state: ready in all buffers that are long enough, and at the start of the run
pub record Fresh (state : State) : Type 0 where
  pub is_sound : (words graph fanout : List ℕ) → Unprepared graph fanout → Sound state words graph fanout
  pub is_start : (text words line : List ℕ) → run_of state text words line ≡ start

-- `written` bytes in front of `out` are this output
pub record AnswerWritten (output out : List ℕ) (written : ℕ) : Type 0 where
  pub count_is : written ≡ length output
  pub within : written ≤ length out
  pub bytes_are : take written out ≡ output

-- one byte: the next state stands for the turn's next run, and its output is written
pub record SessionStepped (t : Turn) (state : State) (text words graph fanout line out : List ℕ) (written : ℕ) : Type 0
  where
    pub sound : Sound state words graph fanout
    pub next : run_of state text words line ≡ t.next
    pub output : AnswerWritten t.output out written

-- What was taken of a piece led the run from `r` to where the state stands, and the answers to it are written.
pub record Progressed (r : Run) (piece : List ℕ) (state : State) (text words graph fanout line out : List ℕ)
    (taken written : ℕ) : Type 0 where
  pub ready : SessionReady state text words graph fanout line out
  pub within : taken ≤ length piece
  pub next : run_of state text words line ≡ after r (take taken piece)
  pub output : AnswerWritten (outputs r (take taken piece)) out written

-- Advanced is Progressed, and something is taken of a piece that isn't empty: all of it, or up to a byte that is
-- answered. Left free: what stands in `out` behind the answer, in `text` and `line` behind the bytes that are held, and
-- in `words` behind the block's.
pub record Advanced (r : Run) (piece : List ℕ) (state : State) (text words graph fanout line out : List ℕ)
    (taken written : ℕ) : Type 0 where
  pub progress : Progressed r piece state text words graph fanout line out taken written
  pub moves : 0 < length piece → 0 < taken
  pub stops : (length piece ≤ taken) ⊎ (written ≡ 0 → ⊥)

-- the buffer of a line holds these bytes, and one byte more as far as it is held
pub record TextHeld (before : List ℕ) (c : ℕ) (line : List ℕ) (r : ℕ) : Type 0 where
  pub bytes_are : take r line ≡ held_front before c
  pub few : r ≤ held_bytes
  pub within : r ≤ length line

-- a block and a line that are held, and room for an answer
pub record LineRoom (count kept : ℕ) (words graph fanout line out : List ℕ) : Type 0 where
  pub words_there : count ≤ length words
  pub whole : is_malformed (take count words) ≡ false
  pub prepared : PreparedFor (take count words) graph fanout
  pub few : kept ≤ held_bytes
  pub line_room : held_bytes ≤ length line
  pub out_room : max_answer ≤ length out
