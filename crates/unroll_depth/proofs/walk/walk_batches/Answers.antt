-- `unroll_depth::walk::walk_batches` meets its contract: one pass for each group, which is all that groups of one gate
-- need, and then every batch.
use mathlib.Core.Path.{refl, sym}
use Prim.Native.Nat.{◌≤◌}
use native.Mathlib.Omega.{arith}
use lib.ListN.{length, get_or}
use Rattle.netlist.specs.StoredBlock.{decode}
use Rattle.netlist.specs.Rounds.{setting_count}
use Rattle.theory_encoding.proofs.Decoded.{decode-gate_count}
use Rattle.unroll_depth.specs.Counting.{Counting, SameRest}
use Rattle.unroll_depth.proofs.CountLaws.{counting-first, counting-full, counting-all, rest-first}
use Rattle.unroll_depth.proofs.CountLaws.{rest_then}
use Rattle.unroll_depth.proofs.walk.walk_batches.Goals.{After-fill_words}
use Rattle.unroll_depth.proofs.walk.walk_batches.Goals as goal

room : (f : After-fill_words) → f.args.count ≤ length f.args.passes.now
room f = omega (arith, f.requires.few_groups)

-- one pass for each group
same : (f : After-fill_words) → SameRest f.args.count f.args.passes.now f.fill_words.new.words
same f = rest-first f.requires f.args.passes.now (room f) _ f.fill_words.ensures

first : (f : After-fill_words) → let ws = f.args.block.words.now in
    Counting (decode ws) f.args.count 0 0 0 f.fill_words.new.words (get_or ws 1 0)
first f =
    counting-first f.requires f.args.passes.now (room f) _ f.fill_words.ensures (omega arith)
    (sym (decode-gate_count f.args.block.words.now))

pub returns-then-are_full : goal.returns-then-are_full
returns-then-are_full c =
    let o = goal.at.returns-then-are_full c in
    let b = decode c.args.block.words.now in
    let e = c.walk_settings.ensures in
    let made : Counting b c.args.count 0 0 0 c.fill_words.new.words c.walk_settings.result.total =
    rw e.0 (first o.After-fill_words) in
    record {
      counted =
          counting-all
          (counting-full (setting_count b) c.requires made (c.are_full.ensures c.if-are_full.true))
          c.requires.count_is (λ few. refl) (room o.After-fill_words) (same o.After-fill_words);
      lowest = λ few. e.1;
    }

pub walk_loops-requires : goal.walk_loops-requires
walk_loops-requires c =
    let p = c.requires in
    let o = goal.at.walk_loops-requires c in
    record {
      listing = p;
      counting = first o.After-fill_words;
    }

pub returns : goal.returns
returns c =
    let o = goal.at.returns c in
    let e = c.walk_loops.ensures in
    record {
      counted =
          counting-all e.counting c.requires.count_is e.all (room o.After-fill_words)
          (rest_then (same o.After-fill_words) e.same);
      lowest = e.lowest;
    }
