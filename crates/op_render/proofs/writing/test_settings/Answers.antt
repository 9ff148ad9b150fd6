-- `op_render::writing::test_settings` meets its contract: what is lowest among 2 ^ n settings tells whether the block
-- is sound.
use native.Mathlib.Omega.{arith}
use Rattle.theory_encoding.proofs.Readers.{whole_parts}
use Rattle.op_render.proofs.Told.{settings-tested}
use Rattle.op_render.proofs.writing.test_settings.Goals as goal

pub setting_count-count-requires : goal.setting_count-count-requires
setting_count-count-requires c =
    let s = c in
    omega (arith, c.inputs_of.ensures, (whole_parts s.args.block.now.words.now s.args.block.now.well_formed).few_inputs)

pub returns : goal.returns
returns c =
    let counted = c in
    let n = counted in
    let s = n in
    settings-tested s.args.block.now.words.now n.inputs_of.ensures s.requires counted.setting_count-count.ensures
    c.refuse_if.ensures
