-- `cover_entries` meets its contract: where every setting is settled the cover is one entry; else it is found with
-- tables for few inputs, or for the most.
use mathlib.Core.Path.{sym, ◌∙◌}
use native.Mathlib.Nat.{pow-le-pow_right}
use native.Mathlib.Omega.{arith}
use Rattle.theory_cover.specs.Tables.{few_inputs}
use Rattle.op_cover.proofs.Bounds.{three-fits, two_fits}
use Rattle.op_cover.proofs.TableCover.{everywhere-written}
use Rattle.op_cover.proofs.implicants.cover_entries.Goals as goal

pub returns-then-are_all_settled : goal.returns-then-are_all_settled
returns-then-are_all_settled c =
    everywhere-written c.args.settings.now.settled.now c.args.settings.now.inputs
    (sym c.are_all_settled.ensures ∙ c.if-are_all_settled.true) c.write_nothing.ensures

pub cover_with-requires : goal.cover_with-requires
cover_with-requires c =
    let n = c.args.settings.now.inputs in record {
      many = (
        pow-le-pow_right {n = 3} (omega arith) {i = n} {j = few_inputs} c.if-settings-le-FEW_INPUTS.true,
        pow-le-pow_right {n = 2} (omega arith) {i = n} {j = few_inputs} c.if-settings-le-FEW_INPUTS.true,
      );
      fits = (omega arith, omega arith);
    }

pub cover_with-requires-2 : goal.cover_with-requires-2
cover_with-requires-2 c =
    let settings = c.args.settings.now in
    let n = settings.inputs in
    record {
      many = (three-fits {i = n} {n = n} (omega arith) settings.few, two_fits {i = n} {n = n} (omega arith) settings.few);
      fits = (omega arith, omega arith);
    }
