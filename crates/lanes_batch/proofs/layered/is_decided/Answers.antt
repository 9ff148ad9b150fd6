-- `lanes_batch::layered::is_decided` meets its contract: every gate of the part passes the test.
use Rattle.std.proofs.Common.{◌≡◌, refl, ℕ, ◌+◌, ◌-◌, ◌<◌, ◌≤◌, ◌∙◌, List, Bool, true, sym, arith, rules}
use Rattle.std.proofs.Common.{length, get_or, take, drop, length-drop}
use Rattle.std.proofs.lemmas.List.{get_or-take, get_or-drop, get_or_read_under}
use Rattle.std.proofs.lemmas.Iterator.{YieldsList-from_slice}
use Rattle.std.proofs.lemmas.Iterator.Adapters.{serves_from_places}
use Rattle.std.proofs.lemmas.Iterator.Search.{all_from_yields_List}
use lib.Seq.{length-take-le}
use borrow.Author.Tests.{tests, eqb-true}
use Rattle.prelude.specs.Lists.{all}
use Rattle.prelude.proofs.Quantifiers.{all-at}
use Rattle.prelude.proofs.Ranges.{list_all-all}
use Rattle.lanes_batch.specs.Layered.{PartDecided, is_decided_at}
use Rattle.lanes_batch.proofs.layered.is_decided.Goals as goal

-- the gates at some positions, as a list of their own
gates : List ℕ → ℕ → ℕ → List ℕ
gates order from end = take (end - from) (drop from order)

gate-at : (order : List ℕ) (from end k : ℕ) → k < end - from → get_or (gates order from end) k 0 ≡ get_or order (from + k) 0
unfolding gates
gate-at order from end k h = get_or-take (end - from) (drop from order) k 0 h ∙ get_or-drop from order k 0

gates-long : (order : List ℕ) (from end : ℕ) → end ≤ length order → length (gates order from end) ≡ end - from
unfolding gates
gates-long order from end h = length-take-le (end - from) (drop from order) (rw length-drop (omega arith))

decided : (used : ℕ) (order : List ℕ) (from end : ℕ) (w : List ℕ) → end ≤ length order
    → all (is_decided_at used w) (gates order from end) ≡ true
    → PartDecided used order from end w
unfolding is_decided_at
decided used order from end w h passed =
    record {
      each =
          λ i lo hi.
          let k : i - from < end - from = omega arith in
          let at : from + (i - from) ≡ i = omega arith in
          let here : get_or (gates order from end) (i - from) 0 ≡ get_or order i 0 =
          rw at at (gate-at order from end (i - from) k) in
          eqb-true _ _ (rw here at (all-at (is_decided_at used w) (gates order from end) (i - from) 0 passed
          (rw (gates-long order from end h) k)));
    }

pub all-requires-clause-callable : goal.all-requires-clause-callable
unfolding gates
all-requires-clause-callable c =
    let a = c.args in
    let js = gates a.order.now a.from a.end in
    let long : length js ≡ a.end - a.from = gates-long a.order.now a.from a.end (omega arith) in
    serves_from_places (YieldsList-from_slice js c.iter.ensures.rest) (λ x q r. search rules)
    (λ x k l e.
    let at : k < a.end - a.from = rw long at l in
    let is : x.now ≡ get_or js k 0 = get_or_read_under js k (length js) x.now 0 e l refl in
    let inside = c.requires.inside (a.from + k) (omega arith) (omega arith) in
    λ t p n s f g h. rw (is, gate-at a.order.now a.from a.end k at) inside)

pub returns : goal.returns
unfolding gates
returns c = λ e.
    let a = c.args in
    let js = gates a.order.now a.from a.end in
    let test : ℕ → Bool = is_decided_at a.used a.lanes.now in
    let r = all_from_yields_List test _ _ c.all.result c.all.ensures.ran (YieldsList-from_slice js c.iter.ensures.rest)
    (λ x b q h. search (rules, tests)) in
    decided a.used a.order.now a.from a.end a.lanes.now (omega arith) (sym (r ∙ list_all-all test js) ∙ e)
