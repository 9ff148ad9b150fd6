-- `text_pairs::numbers::place_in_text` meets its contract: no place is far behind the first. Assumes nothing.
use native.Mathlib.Omega.{arith}
use Rattle.text_pairs.proofs.NumberLaws.{place-far}
use Rattle.text_pairs.proofs.numbers.place_in_text.Goals as goal

pub overflow_add-result : goal.overflow_add-result
overflow_add-result c =
    let a = c.args in omega (arith, c.pair_place.ensures, place-far a.s.now a.at a.i, c.requires)
