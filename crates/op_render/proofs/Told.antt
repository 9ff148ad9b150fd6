-- What Render's tests tell, and what its inner functions need. Assumes nothing.
use mathlib.Core.Path.{◌≡◌, refl, sym, ap, ◌∙◌}
use mathlib.Core.Logic.{⊎_elim}
use mathlib.Core.Bool.{Bool, true, false, not}
use mathlib.Core.List.{List, [], map}
use Prim.Native.Nat.{ℕ, ◌+◌, ◌*◌, ◌^◌, ◌≤◌, ◌<◌}
use native.Mathlib.Nat.{le_antisymm}
use native.Mathlib.Omega.{arith}
use lib.ListN.{length, get_or, take, length-map, get_or-append}
use lib.Seq.{take_at}
use lib.Dec.{ltb}
use borrow.Author.Tests.{lt-ltb, le-ltb}
use Rattle.prelude.specs.Lists.{placed}
use Rattle.prelude.proofs.Lists.{length-joined}
use Rattle.prelude.proofs.Tests.{lt-or-le, not-both}
use Rattle.prelude.proofs.Least.{least-le}
use Rattle.words_refusals.specs.Tests.{Test}
use Rattle.netlist.specs.declared.Refusal.TheVariants.{NotSettled}
use Rattle.netlist.specs.Limits.{max_gates}
use Rattle.netlist.specs.Netlist.{Block}
use Rattle.netlist.specs.StoredBlock.{outputs_at, encode, decode}
use Rattle.netlist.specs.Rounds.{setting_count, is_sound_at, lowest_unsettled}
use Rattle.netlist.specs.Cover.{is_sound}
use Rattle.netlist.specs.Groups.{groups}
use Rattle.netlist.specs.Passes.{pass_count, copy_count}
use Rattle.netlist.specs.Rendering.{rendering, schedule}
use Rattle.words_refusals.specs.Tests.{test_of}
use Rattle.theory_encoding.proofs.ListFacts.{get_d_map}
use Rattle.theory_encoding.proofs.Encoded.{length-encode}
use Rattle.theory_encoding.proofs.Decoded.{decode-input_count, decode-output_count, decode-never_count}
use Rattle.theory_unrolling.proofs.Block.{rendering-count, rendering-inputs, rendering-nevers, length-rendering-outputs}
use Rattle.theory_unrolling.proofs.Block.{length-schedule-is}
use Rattle.theory_cover.proofs.Blocks.{sound-lowest, lowest-sound}
use Rattle.lanes_batch.specs.Batch.{place_of}
use Rattle.lanes_batch.specs.Layered.{part}
use Rattle.unroll_order.specs.declared.GroupPasses.{GroupPasses}
use Rattle.unroll_order.specs.GroupPasses.{gates_in}
use Rattle.unroll_order.specs.Listing.{Numbers, PassesAre, GatesAppended, members_of, part_of, ListReady}
use Rattle.unroll_order.specs.Listing.{GroupsListed}
use Rattle.unroll_order.proofs.Listing.{front}
use Rattle.unroll_order.proofs.Blocks.{count-few, members-groups, members-long, group-part, group-bounds}
use Rattle.unroll_order.proofs.Blocks.{parts-schedule}
use Rattle.op_render.specs.Steps.{Listed, CopiesReady}

-- ---- the settings

settings-count : (ws : List ℕ) (n : ℕ) → n ≡ get_or ws 0 0 → setting_count (decode ws) ≡ 2 ^ n
unfolding setting_count
settings-count ws n e = rw (decode-input_count ws, e) refl

lowest-within : (b : Block) → lowest_unsettled b ≤ setting_count b
unfolding lowest_unsettled
lowest-within b = least-le (λ s. not (is_sound_at b s)) (setting_count b)

-- a setting below 2 ^ n was found, exactly where the block is not sound
pub settings-tested : (ws : List ℕ) {n lowest count : ℕ} {t : Test} → n ≡ get_or ws 0 0
    → lowest ≡ lowest_unsettled (decode ws) → count ≡ 2 ^ n
    → t ≡ test_of (ltb lowest count) (NotSettled lowest)
    → t ≡ test_of (not (is_sound (decode ws))) (NotSettled (lowest_unsettled (decode ws)))
settings-tested ws {n} {lowest} {count} e is c h = h ∙ rw (go (is_sound (decode ws)) refl, is) refl
  where
    all : count ≡ setting_count (decode ws)
    all = c ∙ sym (settings-count ws n e)

    go : (s : Bool) → is_sound (decode ws) ≡ s → ltb lowest count ≡ not s
    go true s = le-ltb lowest count (omega (arith, all, sound-lowest (decode ws) s))
    go false s =
        ⊎_elim (lt-ltb lowest count)
        (λ l. not-both (lowest-sound (decode ws) (le_antisymm (lowest-within (decode ws)) (omega (arith, all)))) s)
        (lt-or-le lowest count)

-- ---- writing

-- the rendered block's length
pub rendered-size : (ws : List ℕ) (n lines k total size : ℕ) → n ≡ get_or ws 0 0 → lines ≡ get_or ws 3 0 → k ≡ get_or ws 2 0
    → total ≡ copy_count (decode ws)
    → size ≡ outputs_at n lines total → length (encode (rendering (decode ws))) ≡ size + 5 * k
rendered-size ws n lines k total size en el ek et es =
    length-encode (rendering (decode ws))
    ∙ rw (
      ap {B = ℕ} length (rendering-inputs (decode ws)),
      decode-input_count ws,
      ap {B = ℕ} length (rendering-nevers (decode ws)),
      decode-never_count ws,
      rendering-count (decode ws),
      length-rendering-outputs (decode ws),
      decode-output_count ws,
      es,
      en,
      el,
      ek,
      et,
    ) refl

pub schedule-length : (ws : List ℕ) (total : ℕ) → total ≡ copy_count (decode ws) → length (schedule (decode ws)) ≡ total
schedule-length ws total et = length-schedule-is (decode ws) ∙ rendering-count (decode ws) ∙ sym et

-- the copies written one behind the other are the schedule
pub scheduled : (ws : List ℕ) {passes : GroupPasses} {entry order : List ℕ} {total at : ℕ}
    → CopiesReady ws passes total
    → max_gates ≤ length entry → GatesAppended (gates_in passes) entry 0 order at
    → take total order ≡ schedule (decode ws)
scheduled ws {passes} {entry} {order} {total} r room e =
    let len : length (schedule (decode ws)) ≡ total = schedule-length ws total r.total_is in
    let few = r.fits in
    let fits : length (gates_in passes) ≤ length entry = rw (r.copies, len) (omega arith) in
    rw (front e fits, r.copies) (take_at (schedule (decode ws)) _ total len)

-- the passes that are counted, group by group
pub passes-placed : (b : Block) (count : ℕ) (entry passes : List ℕ) → count ≡ length (groups b)
    → passes ≡ placed (map (pass_count b) (groups b)) entry
    → PassesAre b count passes
passes-placed b count entry passes c e g l =
    let k : g < length (groups b) = omega arith in
    rw e
    (get_or-append (map (pass_count b) (groups b)) _ 0 g (rw (length-map (groups b) (pass_count b)) k)
    ∙ get_d_map (pass_count b) (groups b) g [] 0 k)

-- room for the groups one after the other,
pub groups-room : (ws : List ℕ) {m count : ℕ} {numbers members starts : List ℕ} → m ≡ get_or ws 1 0
    → Numbers (decode ws) (get_or ws 1 0) count numbers
    → length members ≡ max_gates → length starts ≡ max_gates + 1 → ListReady numbers m count members starts
groups-room ws {m} {count} {numbers} e a members starts =
    let long : length (members_of numbers m count) ≡ get_or ws 1 0 =
    rw e (ap length (members-groups a) ∙ members-long a) in
    let few = a.few in
    let groups = count-few a in
    record {
      few = rw e a.few;
      few_groups = groups;
      few_members = rw long a.few;
      member_room = rw (long, members)
          a.few;
      start_room = omega arith;
    }

-- and what stands there then
pub groups-listed : (ws : List ℕ) {m count r : ℕ} {numbers entry members starts : List ℕ} → m ≡ get_or ws 1 0
    → Numbers (decode ws) (get_or ws 1 0) count numbers → length entry ≡ max_gates
    → GroupsListed numbers m count entry members starts r
    → Listed (decode ws) count members starts
unfolding part place_of part_of
groups-listed ws {m} {count} {r} {numbers} {entry} {members} {starts} e a room h =
    let l : GroupsListed numbers (get_or ws 1 0) count entry members starts r = rw (← e) h in
    let few = a.few in
    let fits : get_or ws 1 0 ≤ length entry = rw room few in
    let gates = a.gates_are in
    record {
      listing =
          record {
            count_is = a.count_is;
            members_long = sym gates ∙ sym (members-long a) ∙ length-joined (groups (decode ws));
            few = omega arith;
            few_groups = count-few a;
            ordered = λ g k. (group-bounds a l fits g k).0;
            within = λ g k. rw (← gates) (group-bounds a l fits g k).1;
            group_is = λ g k. group-part a l fits g k;
          };
      copies = λ passes p. parts-schedule a l fits passes p;
    }
