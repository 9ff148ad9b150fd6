-- SPECIFICATION 7.3 and 7.5 to 7.11: one definition for each operation. Its conditions stand in the order in which they
-- are tested, each is over the whole input, and the first that holds is answered. Where an operation has a slice for
-- its result, `room` is the slice's length, and 11 is the last condition.
use Rattle.std.specs.Prelude.{ℕ, ◌-◌, Bool, not, ◌||◌, List, [], map, length, eqb, leb, ltb}
use Rattle.prelude.specs.Lists.{all}
use Rattle.netlist.specs.declared.Refusal.TheVariants.{TextTooLong, SyntaxError, OverLimit, DuplicateDeclaration}
use Rattle.netlist.specs.declared.Refusal.TheVariants.{UndeclaredName, MalformedBlock, BadSetting, TooManyCopies}
use Rattle.netlist.specs.declared.Refusal.TheVariants.{NotSettled, NotStraight}
use Rattle.netlist.specs.Limits.{max_text, max_copies}
use Rattle.netlist.specs.Values.{Value, code, value_of}
use Rattle.netlist.specs.Netlist.{Block, input_count, gate_count}
use Rattle.netlist.specs.StoredBlock.{encode, decode, is_malformed}
use Rattle.netlist.specs.Rounds.{rounds, settled, settled_settings, lowest_unsettled}
use Rattle.netlist.specs.Cover.{is_sound, cover, cover_entries}
use Rattle.netlist.specs.Groups.{groups, group_numbers}
use Rattle.netlist.specs.Passes.{copy_count}
use Rattle.netlist.specs.Rendering.{rendering, is_straight, sweep}
use Rattle.netlist.specs.Syntax.{Tree}
use Rattle.netlist.specs.Parse.{Parsed, got, stuck, parse}
use Rattle.netlist.specs.Reading.{is_over_limit, first_duplicate, first_undeclared, block_of}
use Rattle.netlist.specs.Writing.{written_text}
use Rattle.netlist.specs.Answers.{Outcome, done, refused, refuse_if, refuse_at, in_room}

-- ---- 7.3 Read (1, 2, 3, 4, 5, 11): the block of a text; count: words

-- words with their number as the count
unfoldable pub counted : List ℕ → Outcome
counted ws = done ws (length ws) 0

unfoldable pub read_tree : Tree → Outcome
read_tree t =
    refuse_if (is_over_limit t) OverLimit
    (refuse_at (first_duplicate t) DuplicateDeclaration
    (refuse_at (first_undeclared t) UndeclaredName
    (counted (encode (block_of t)))))

-- refusal 2 of Read: the place is the number of bytes before the bad one
unfoldable pub read_parsed : List ℕ → Parsed Tree → Outcome
read_parsed text (stuck left) = refused (SyntaxError (length text - left))
read_parsed text (got t rest) = read_tree t

unfoldable pub read_text : List ℕ → Outcome
read_text text =
    refuse_if (ltb max_text (length text)) TextTooLong
    (read_parsed text (parse text))

unfoldable pub read : List ℕ → ℕ → Outcome
read text room = in_room room (read_text text)

-- ---- 7.5 Settle (6, 7, 11): the codes of the settled values; count: rounds

-- refusal 7: another length than n, or a byte that is no value's code
unfoldable pub is_bad_setting : Block → List ℕ → Bool
is_bad_setting b setting = not (eqb (length setting) (input_count b)) || not (all (λ v. leb v 2) setting)

unfoldable pub settle_block : Block → List Value → Outcome
settle_block b x = done (map code (settled b x)) (rounds b x) 0

unfoldable pub settle : List ℕ → List ℕ → ℕ → Outcome
settle ws setting room =
    in_room room
    (refuse_if (is_malformed ws) MalformedBlock
    (refuse_if (is_bad_setting (decode ws) setting) BadSetting
    (settle_block (decode ws) (map value_of setting))))

-- ---- 7.6 Verdict (6): nothing is written; count: settled settings; detail: the lowest other

unfoldable pub verdict : List ℕ → Outcome
verdict ws =
    refuse_if (is_malformed ws) MalformedBlock
    (done [] (settled_settings (decode ws)) (lowest_unsettled (decode ws)))

-- ---- 7.7 Cover (6, 11): the cover's masks; count: entries

unfoldable pub cover_block : Block → Outcome
cover_block b = done (cover_entries b) (length (cover b)) 0

unfoldable pub cover_of : List ℕ → ℕ → Outcome
cover_of ws room =
    in_room room
    (refuse_if (is_malformed ws) MalformedBlock
    (cover_block (decode ws)))

-- ---- 7.8 Groups (6, 11): the number of each gate's group; count: groups

unfoldable pub groups_block : Block → Outcome
groups_block b = done (group_numbers b) (length (groups b)) 0

unfoldable pub groups_of : List ℕ → ℕ → Outcome
groups_of ws room =
    in_room room
    (refuse_if (is_malformed ws) MalformedBlock
    (groups_block (decode ws)))

-- ---- 7.9 Render (6, 8, 9, 11): the rendered block; count: words

-- Render's refusals: 8 where there are too many copies, else 9 where some setting is not settled, with the lowest such
unfoldable pub render_block : Block → Outcome
render_block b =
    refuse_if (ltb max_copies (copy_count b)) TooManyCopies
    (refuse_if (not (is_sound b)) (NotSettled (lowest_unsettled b))
    (counted (encode (rendering b))))

unfoldable pub render_words : List ℕ → Outcome
render_words ws =
    refuse_if (is_malformed ws) MalformedBlock
    (render_block (decode ws))

unfoldable pub render : List ℕ → ℕ → Outcome
render ws room = in_room room (render_words ws)

-- ---- 7.10 Pass (6, 10, 7, 11): the codes of a sweep's values, which are Settle's; count: gates

unfoldable pub pass_block : Block → List Value → Outcome
pass_block b x = done (map code (sweep b x)) (gate_count b) 0

unfoldable pub pass : List ℕ → List ℕ → ℕ → Outcome
pass ws setting room =
    in_room room
    (refuse_if (is_malformed ws) MalformedBlock
    (refuse_if (not (is_straight (decode ws))) NotStraight
    (refuse_if (is_bad_setting (decode ws) setting) BadSetting
    (pass_block (decode ws) (map value_of setting)))))

-- ---- 7.11 Write (6, 11): the text of a block; count: bytes

unfoldable pub write_words : List ℕ → Outcome
write_words ws =
    refuse_if (is_malformed ws) MalformedBlock
    (counted (written_text (decode ws)))

unfoldable pub write : List ℕ → ℕ → Outcome
write ws room = in_room room (write_words ws)
