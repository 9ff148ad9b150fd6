-- Render's promise (SPECIFICATION 6 and 7.9), as one record over every slice of words and every slice for the result.
-- `promise-holds` in proofs/Promise.antt shows that the definition of Render meets it.
use Rattle.std.specs.Prelude.{ℕ, ◌<◌, ◌≡◌, true, false, cond, not, List, map, length, take, eqb, ltb}
use Rattle.netlist.specs.Answers.{Answer}
use Rattle.netlist.specs.Limits.{max_copies}
use Rattle.netlist.specs.Netlist.{Name, Output, Block, input_count, gate_count}
use Rattle.netlist.specs.StoredBlock.{encode, decode, is_malformed}
use Rattle.netlist.specs.Rounds.{setting_of, setting_count, settled_under, is_settled, is_excluded, lowest_unsettled}
use Rattle.netlist.specs.Rounds.{output_value}
use Rattle.netlist.specs.Cover.{is_sound}
use Rattle.netlist.specs.Passes.{copy_count}
use Rattle.netlist.specs.Rendering.{rendering, is_straight, sweep}
use Rattle.netlist.specs.Answers.{number_of, count_of, detail_of, Promise}
use Rattle.netlist.specs.Operations.{render}

unfoldable pub port_of : Output → Name
port_of o = o.port

-- The words `out` render the block of the words `ws`: they are the rendering's, word for word; what they hold is
-- straight, has as many gates as there are copies, the original's input names, never lines and ports, and under every
-- setting that isn't excluded the outputs' values, read from one sweep, are those of the settled original, output by
-- output.
pub record Renders (ws out : List ℕ) : Type 0 where
  pub word_for_word : out ≡ encode (rendering (decode ws))
  pub not_torn : is_malformed out ≡ false
  pub straightened : is_straight (decode out) ≡ true
  pub gates_are_the_sum : gate_count (decode out) ≡ copy_count (decode ws)
  pub same_inputs : (decode out).inputs ≡ (decode ws).inputs
  pub same_nevers : (decode out).nevers ≡ (decode ws).nevers
  pub same_ports : map port_of (decode out).outputs ≡ map port_of (decode ws).outputs
  pub same_outputs : (s : ℕ) → s < setting_count (decode ws) → is_excluded (decode ws) s ≡ false
      → let x = setting_of (input_count (decode ws)) s in
      map (output_value x (sweep (decode out) x)) (decode out).outputs
      ≡ map (output_value x (settled_under (decode ws) s)) (decode ws).outputs

-- the number of Render's answer: torn words, too many copies, a setting that is not settled, a slice that is too short,
-- or a result
unfoldable pub render_number : List ℕ → ℕ → ℕ
render_number ws room =
    cond (is_malformed ws) 6
    (cond (ltb max_copies (copy_count (decode ws))) 8
    (cond (not (is_sound (decode ws))) 9
    (cond (ltb room (length (encode (rendering (decode ws))))) 11
    0)))

-- s is the lowest setting that may come and is not settled
pub record LowestOf (b : Block) (s : ℕ) : Type 0 where
  pub within : s < setting_count b
  pub comes : is_excluded b s ≡ false
  pub unsettled : is_settled b s ≡ false
  pub below : (t : ℕ) → t < s → is_excluded b t ≡ false → is_settled b t ≡ true

-- The answer r and what the slice holds at exit, from the words and the slice at entry.
pub record RenderPromise (ws entry : List ℕ) (r : Answer) (exit : List ℕ) : Type 0 where
  -- the one definition, for torn words too
  pub promise : Promise (render ws (length entry)) entry r exit
  pub number : number_of r ≡ render_number ws (length entry)
  -- 9 tells the lowest setting that may come and is not settled
  pub detail : detail_of r ≡ cond (eqb (number_of r) 9) (lowest_unsettled (decode ws)) 0
  pub lowest : is_sound (decode ws) ≡ false → LowestOf (decode ws) (lowest_unsettled (decode ws))
  -- the words of the result, 0 where it is refused
  pub count : count_of r ≡ cond (eqb (number_of r) 0) (length (encode (rendering (decode ws)))) 0
  pub renders : number_of r ≡ 0 → Renders ws (take (count_of r) exit)
