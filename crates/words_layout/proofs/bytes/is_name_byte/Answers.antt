-- `words_layout::bytes::is_name_byte` meets its contract: a digit, or else what a name may start with.
use mathlib.Core.Path.{◌≡◌, refl, sym, ◌∙◌}
use mathlib.Core.Bool.{Bool, true, false, ◌||◌}
use Rattle.netlist.specs.Names.{is_name_byte, is_name_start, is_letter, is_digit, is_underscore}
use Rattle.words_layout.proofs.bytes.is_name_byte.Goals as goal

-- the middle one of three alternatives holds, or does not
or-middle : (a b c : Bool) → b ≡ true → a || b || c ≡ true
or-middle true b c h = refl
or-middle false b c h = rw h

or-without : (a b c : Bool) → b ≡ false → a || b || c ≡ a || c
or-without true b c h = refl
or-without false b c h = rw h

pub returns-then-is_digit : goal.returns-then-is_digit
unfolding is_name_byte
returns-then-is_digit c = let x = c.args.c in
    sym (or-middle (is_letter x) (is_digit x) (is_underscore x) (sym c.is_digit.ensures ∙ c.if-is_digit.true))

pub returns-else-is_digit : goal.returns-else-is_digit
unfolding is_name_byte is_name_start
returns-else-is_digit c = let x = c.args.c in
    c.is_name_start.ensures ∙ sym (or-without (is_letter x) (is_digit x) (is_underscore x)
    (sym c.is_digit.ensures ∙ c.if-is_digit.false))
