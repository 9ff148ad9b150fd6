-- `graph_simulation::values::put_setting` meets its contract: the inputs' bytes are copied as they stand.
use Rattle.std.proofs.Common.{◌≡◌, ◌+◌, ◌-◌, refl, arith, length, take}
use Rattle.std.proofs.lemmas.Slice.{put_mid-paste}
use lib.Seq.{take_all}
use Rattle.graph_gates.specs.Places.{first_input}
use Rattle.graph_simulation.proofs.Starts.{starting-copied}
use Rattle.graph_simulation.proofs.values.put_setting.Goals as goal

pub returns : goal.returns
returns c =
    let setting = c.args.setting.now in
    let n = length setting in
    let all : take n setting ≡ setting = take_all n setting (omega arith) in
    rw (
      put_mid-paste first_input (first_input + n - first_input) c.put_constants.new.values c.copy_from_slice.new.self
          setting n c.copy_from_slice.ensures.after (omega arith) refl,
      all,
    )
    (rw all at (starting-copied setting c.requires.1 c.put_constants.ensures n (omega arith)))
