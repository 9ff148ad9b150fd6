-- `op_settle::setting::test_bytes` meets its contract: the length is tested, and then the bytes.
use mathlib.Core.Path.{◌≡◌}
use mathlib.Core.Bool.{not}
use Rattle.words_refusals.specs.Tests.{test_of}
use Rattle.op_settle.specs.Tests.{is_bad_bytes}
use Rattle.op_settle.proofs.Settings.{bad-length, bad-bytes}
use Rattle.op_settle.proofs.setting.test_bytes.Goals.{After-none_above}
use Rattle.op_settle.proofs.setting.test_bytes.Goals as goal

-- once the length fits, the bytes decide
bytes : (c : After-none_above) → let a = c.args in
    is_bad_bytes a.n a.most a.setting.now ≡ not c.none_above.result
bytes c =
    let a = c.args in
    rw c.none_above.ensures (bad-bytes a.n a.most a.setting.now c.if-setting-n.false)

pub returns-then-setting-n : goal.returns-then-setting-n
unfolding test_of
returns-then-setting-n c = let a = c.args in rw (bad-length a.n a.most a.setting.now c.if-setting-n.true)

pub returns : goal.returns
returns c = rw (bytes (goal.at.returns c).After-none_above) c.refuse_if.ensures
