-- `tables::add_setting` meets its contract: while the setting's inputs are at 1 (`Joining`), both halves stand right
-- below `end`.
use mathlib.Core.Path.{◌≡◌, refl, sym, ◌∙◌}
use Rattle.theory_cover.specs.Tables.{settled_by, byte_of}
use native.Mathlib.Omega.{arith}
use Rattle.op_cover.proofs.Bounds.{three-fits}
use Rattle.op_cover.proofs.Joining.{byte_one, byte-none, setting-below, joining-start}
use Rattle.op_cover.proofs.Joining.{joining-room, joining-next, joining-end}
use Rattle.op_cover.proofs.tables.add_setting.Goals.{then-settings-setting-eq1, else-settings-setting-eq1}
use Rattle.op_cover.proofs.tables.add_setting.Goals as goal

pub bounds-sound-k : goal.bounds-sound-k
bounds-sound-k c =
    let entry = c in
    let pre = entry.requires in
    omega (arith, setting-below pre.0 pre.1, pre.0.room)

pub overflow_add-end : goal.overflow_add-end
overflow_add-end c =
    let entry = c in
    let pre = entry.requires in
    let n = entry.args.settings.now.inputs in
    omega (arith, setting-below pre.0 pre.1, three-fits {i = n} {n = n} (omega arith) pre.0.few)

pub loop-i-init : goal.loop-i-init
loop-i-init c =
    let start = c in
    let settled = start.args.settings.now.settled.now in
    let s = start.args.setting in
    let v : c.if-settings-setting-eq1.sound ≡ byte_of (settled_by settled s) =
    elim c.if-settings-setting-eq1.branch [
      | then-settings-setting-eq1 w ↦ w.sound-is ∙ sym (byte_one settled s w.if-settings-setting-eq1.true)
      | else-settings-setting-eq1 w ↦ w.sound-is ∙ sym (byte-none settled s w.if-settings-setting-eq1.false)
    ] in
    record { same_length = refl; joining = joining-start start.requires.0 start.requires.1 v }

pub join_halves-requires : goal.join_halves-requires
join_halves-requires c =
    let inv = c.loop-i.invariant.joining in
    let r = joining-room inv c.loop-i-test.true in
    (r.0, omega (arith, r.1, inv.room))

pub overflow_add-end-in-loop-i : goal.overflow_add-end-in-loop-i
overflow_add-end-in-loop-i c =
    let head = c in
    let entry = c in
    let turn = c in
    let inv = head.loop-i.invariant.joining in
    let n = entry.args.settings.now.inputs in
    omega (arith, joining-room inv turn.loop-i-test.true, three-fits {i = n} {n = n} (omega arith) inv.few)

pub overflow_mul-power : goal.overflow_mul-power
overflow_mul-power c =
    let head = c in
    let entry = c in
    let turn = c in
    let inv = head.loop-i.invariant.joining in
    let n = entry.args.settings.now.inputs in
    omega (arith, joining-room inv turn.loop-i-test.true, three-fits {i = n} {n = n} (omega arith) inv.few)

pub loop-i-preserved : goal.loop-i-preserved
loop-i-preserved c =
    let head = c in
    let turn = c in
    let loop = head.loop-i in
    let joined = c.join_halves.ensures in
    record {
      same_length = joined.same_length ∙ loop.invariant.same_length;
      joining = joining-next loop.invariant.joining turn.loop-i-test.true joined;
    }

pub returns : goal.returns
returns c = search joining-end
