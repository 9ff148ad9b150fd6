-- The definition of Render meets its whole promise: from the theory of rendering (crate `theory_unrolling`) and of the
-- stored block (`theory_encoding`). Assumes nothing.
use mathlib.Core.Path.{◌≡◌, refl, sym}
use mathlib.Core.Logic.{⊎_elim}
use mathlib.Core.Bool.{Bool, true, false, cond, not, ◌||◌, false≢true}
use mathlib.Core.List.{List}
use Prim.Native.Nat.{ℕ, ◌≤◌, ◌<◌}
use native.Mathlib.Nat.{le_antisymm}
use native.Mathlib.Omega.{arith}
use lib.ListN.{length, take, drop}
use lib.Seq.{take-append_seam}
use lib.Dec.{eqb, ltb}
use borrow.Author.Tests.{ltb-false, not-true, not-false}
use Rattle.prelude.specs.Lists.{least}
use Rattle.prelude.proofs.Tests.{lt-or-le, not-both}
use Rattle.prelude.proofs.Least.{least-le, least-below, least_at}
use Rattle.netlist.specs.Answers.{Answer}
use Rattle.netlist.specs.Limits.{max_copies}
use Rattle.netlist.specs.Netlist.{Block}
use Rattle.netlist.specs.StoredBlock.{encode, decode, is_malformed, is_well_formed}
use Rattle.netlist.specs.Rounds.{setting_count, is_settled, is_excluded, is_sound_at, lowest_unsettled}
use Rattle.netlist.specs.Cover.{is_sound}
use Rattle.netlist.specs.Passes.{copy_count}
use Rattle.netlist.specs.Rendering.{rendering}
use Rattle.netlist.specs.Answers.{Outcome, refusal_number, refusal_detail, number_of, count_of, detail_of, answer_of, left_in}
use Rattle.netlist.specs.Answers.{Promise}
use Rattle.netlist.specs.Operations.{render}
use Rattle.words_refusals.proofs.Promised.{promise, promise-answer}
use Rattle.theory_encoding.proofs.RoundTrip.{whole-well_formed, decode-encode, encode-whole}
use Rattle.theory_unrolling.proofs.Block.{rendering-straight, rendering-count, rendering-inputs, rendering-nevers}
use Rattle.theory_unrolling.proofs.Block.{rendering-ports, rendering-well_formed}
use Rattle.theory_unrolling.proofs.Agreement.{sound-outputs-agree}
use Rattle.theory_cover.proofs.Blocks.{lowest-sound}
use Rattle.op_render.specs.Promise.{port_of, Renders, LowestOf, render_number, RenderPromise}
use Rattle.op_render.proofs.Cases.{render_by, render-by}

-- what is rendered when the block is whole, sound, and has few enough copies
pub rendered-so : (ws : List ℕ) → is_malformed ws ≡ false → copy_count (decode ws) ≤ max_copies
    → is_sound (decode ws) ≡ true
    → Renders ws (encode (rendering (decode ws)))
unfolding port_of
rendered-so ws t m s =
    let w : is_well_formed (decode ws) ≡ true = whole-well_formed ws t in
    let w' : is_well_formed (rendering (decode ws)) ≡ true = rendering-well_formed (decode ws) w m in
    let back : decode (encode (rendering (decode ws))) ≡ rendering (decode ws) =
    decode-encode (rendering (decode ws)) w' in
    record {
      word_for_word = refl;
      not_torn = encode-whole (rendering (decode ws)) w';
      straightened = rw back (rendering-straight (decode ws));
      gates_are_the_sum = rw back (rendering-count (decode ws));
      same_inputs = rw back (rendering-inputs (decode ws));
      same_nevers = rw back (rendering-nevers (decode ws));
      same_ports = rw back (rendering-ports (decode ws));
      same_outputs = λ n l e. rw back (sound-outputs-agree (decode ws) w s n l e);
    }

-- the lowest setting that may come and is not settled
module _ (b : Block) where
  unsettled : ℕ → Bool
  unsettled s = not (is_sound_at b s)

  -- the two parts of the test
  unsound : (s : ℕ) → is_sound_at b s ≡ false → (is_excluded b s ≡ false) × (is_settled b s ≡ false)
  unfolding is_sound_at
  unsound s = go (is_excluded b s) (is_settled b s)
    where
      go : (e t : Bool) → e || t ≡ false → (e ≡ false) × (t ≡ false)
      go true t h = (h, absurd (false≢true (sym h)))
      go false t h = (refl, h)

  sound-settled : (s : ℕ) → is_sound_at b s ≡ true → is_excluded b s ≡ false → is_settled b s ≡ true
  unfolding is_sound_at
  sound-settled s h e = rw e at h

  lowest-so : is_sound b ≡ false → LowestOf b (lowest_unsettled b)
  unfolding lowest_unsettled unsettled
  lowest-so h =
      let all : setting_count b ≤ least unsettled (setting_count b)
      → is_sound b ≡ true = λ ge. lowest-sound b (le_antisymm (least-le unsettled (setting_count b)) ge) in
      let lt : least unsettled (setting_count b) < setting_count b =
      ⊎_elim (λ l. l) (λ ge. not-both (all ge) h) (lt-or-le (least unsettled (setting_count b)) (setting_count b)) in
      let found = unsound _
      (not-true (is_sound_at b (least unsettled (setting_count b))) (least_at unsettled (setting_count b) lt)) in
      record {
        within = lt;
        comes = found.0;
        unsettled = found.1;
        below = λ s l e. sound-settled s (not-false (is_sound_at b s) (least-below unsettled (setting_count b) s l)) e;
      }

no_number : {A : Type 0} (n : ℕ) → n ≡ 0 → 0 < n → A
no_number n e l = absurd (omega arith)

-- what the outcome that the four tests tell promises
record Told-by (ws entry : List ℕ) (number : ℕ) (o : Outcome) : Type 0 where
  number_is : number_of (answer_of o) ≡ number
  detail_is : detail_of (answer_of o) ≡ cond (eqb (number_of (answer_of o)) 9) (lowest_unsettled (decode ws)) 0
  count_is : count_of (answer_of o) ≡ cond (eqb (number_of (answer_of o)) 0) (length (encode (rendering (decode ws)))) 0
  renders_it : number_of (answer_of o) ≡ 0 → Renders ws (take (count_of (answer_of o)) (left_in o entry))

by_tests : (ws entry : List ℕ) (t m s r : Bool) → is_malformed ws ≡ t → ltb max_copies (copy_count (decode ws)) ≡ m
    → is_sound (decode ws) ≡ s
    → Told-by ws entry (cond t 6 (cond m 8 (cond (not s) 9 (cond r 11 0)))) (render_by ws t m s r)
unfolding render_by number_of count_of detail_of answer_of left_in refusal_number refusal_detail
by_tests ws entry true m s r et em es =
    record { number_is = refl; detail_is = refl; count_is = refl; renders_it = λ z. no_number 6 z (omega arith) }
by_tests ws entry false true s r et em es =
    record { number_is = refl; detail_is = refl; count_is = refl; renders_it = λ z. no_number 8 z (omega arith) }
by_tests ws entry false false false r et em es =
    record { number_is = refl; detail_is = refl; count_is = refl; renders_it = λ z. no_number 9 z (omega arith) }
by_tests ws entry false false true true et em es =
    record { number_is = refl; detail_is = refl; count_is = refl; renders_it = λ z. no_number 11 z (omega arith) }
by_tests ws entry false false true false et em es =
    record {
      number_is = refl;
      detail_is = refl;
      count_is = refl;
      renders_it = λ z.
          rw (take-append_seam (encode (rendering (decode ws))) (drop (length (encode (rendering (decode ws)))) entry))
          (rendered-so ws et (ltb-false max_copies (copy_count (decode ws)) em) es);
    }

-- every part of the promise follows from the definition
pub promise-holds : (ws entry : List ℕ)
    → RenderPromise ws entry (answer_of (render ws (length entry))) (left_in (render ws (length entry)) entry)
unfolding render_number
promise-holds ws entry =
    let short = ltb (length entry) (length (encode (rendering (decode ws)))) in
    let p : Told-by ws entry (render_number ws (length entry)) (render ws (length entry)) =
    rw (render-by ws (length entry))
    (by_tests ws entry (is_malformed ws) (ltb max_copies (copy_count (decode ws))) (is_sound (decode ws)) short refl refl
    refl) in
    record {
      promise = promise refl refl;
      number = p.number_is;
      detail = p.detail_is;
      lowest = lowest-so (decode ws);
      count = p.count_is;
      renders = p.renders_it;
    }

-- and so from the first part
pub whole-promise : {ws entry exit : List ℕ} {r : Answer} → Promise (render ws (length entry)) entry r exit
    → RenderPromise ws entry r exit
whole-promise {ws} {entry} p = rw (promise-answer p, p.leaves) (promise-holds ws entry)
