-- `op_settle::setting::test_setting` meets its contract: the bytes of a block's inputs, in three values.
use Rattle.op_settle.proofs.Settings.{bad-setting}
use Rattle.op_settle.proofs.setting.test_setting.Goals as goal

pub returns : goal.returns
returns c =
    let start = c in
    let a = start.args in
    rw (bad-setting a.words.now a.setting.now, ← c.inputs_of.ensures) c.test_bytes.ensures
