-- `words_block::is_intact` meets its contract: the header's rule, and once it holds the rules of the parts.
use mathlib.Core.Path.{sym, ◌∙◌}
use lib.ListN.{get_or}
use Rattle.theory_encoding.specs.Rules.{intact}
use Rattle.words_block.proofs.HeaderLaws.{Limits, header-limits, header-length}
use Rattle.words_block.proofs.is_intact.Goals as goal

pub returns-then-not-fits : goal.returns-then-not-fits
unfolding intact
returns-then-not-fits c = rw (sym c.fits.ensures ∙ c.if-not-fits.true)

pub parts_fit-requires : goal.parts_fit-requires
parts_fit-requires c =
    let start = c in
    let after-fits2 = c in
    let else1 = c in
    let after-inputs-of = c in
    let ws = start.args.words.now in
    let h = sym after-fits2.fits.ensures ∙ else1.if-not-fits.false in
    let l : Limits (get_or ws 0 0) (get_or ws 1 0) (get_or ws 2 0) (get_or ws 3 0) = header-limits ws h in
    rw (
      after-inputs-of.inputs_of-n.ensures,
      c.gates_of-m.ensures,
      c.outputs_of-k.ensures,
      c.nevers_of-l.ensures,
    )
    record {
      n_le_max_inputs = l.inputs;
      l_le_max_nevers = l.nevers;
      m_le_max_gates = l.gates;
      k_le_max_outputs = l.outputs;
      words_len = header-length ws h;
    }

pub returns : goal.returns
unfolding intact
returns c =
    let after-fits2 = c in
    let else1 = c in
    let after-inputs-of = c in
    rw (
      sym after-fits2.fits.ensures ∙ else1.if-not-fits.false,
      ← after-inputs-of.inputs_of-n.ensures,
      ← c.gates_of-m.ensures,
      ← c.outputs_of-k.ensures,
      ← c.nevers_of-l.ensures,
    )
    c.parts_fit.ensures
