-- `text_pairs::numbers::fill_values` meets its contract: the value behind a name is read again. Assumes nothing.
use borrow.Author.Rules.{rules}
use mathlib.Core.Path.{◌≡◌, sym, ◌∙◌}
use lib.ListN.{length}
use Rattle.prelude.proofs.Tab.{get_d-tab}
use Rattle.text_pairs.specs.PairBytes.{code_at, pair_place, pair_code, pair_codes}
use Rattle.text_pairs.proofs.numbers.fill_values.Goals as goal

pub returns : goal.returns
unfolding pair_codes pair_code
returns c =
    let a = c.args in
    let count = length a.names.now in
    c.fill_given.ensures (pair_codes a.s.now a.at count) (λ i v l h.
    let e : v ≡ code_at a.s.now (pair_place a.s.now a.at i) = search rules in
    e ∙ sym (get_d-tab (pair_code a.s.now a.at) count i 0 l))
