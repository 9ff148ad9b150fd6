-- The run is the bench: the outputs of the pieces, joined, with what is written at the end, are `bench` of the pieces
-- joined, however the input is cut. Assumes nothing.
use Prim.Native.Nat.{ℕ, zero, suc, ◌≤◌, ◌<◌}
use mathlib.Core.Path.{◌≡◌, refl, sym, ap, ◌∙◌}
use mathlib.Core.Bool.{Bool, true, false, cond, ◌&&◌}
use mathlib.Core.List.{List, [], ◌∷◌, ◌++◌, append_assoc, append-nil}
use native.Mathlib.Omega.{arith}
use lib.ListN.{length, take, length-append}
use lib.Dec.{eqb, ltb}
use borrow.Author.Tests.{lt-ltb, ltb-false}
use Rattle.prelude.specs.Lists.{joined}
use Rattle.netlist.specs.declared.Refusal.TheVariants.{TextTooLong}
use Rattle.netlist.specs.Limits.{max_text, max_inputs}
use Rattle.netlist.specs.Netlist.{input_count}
use Rattle.netlist.specs.StoredBlock.{decode}
use Rattle.netlist.specs.Answers.{Outcome, done, refused, refuse_if}
use Rattle.netlist.specs.Operations.{read_text}
use Rattle.netlist.specs.Program.{refusal_line}
use Rattle.netlist.specs.Line.{lf}
use Rattle.netlist.specs.Bench.{line_answer, line_answers, last_line, lines_from, lines_of, netlist_from, settings_from}
use Rattle.netlist.specs.Bench.{netlist_part, settings_part, bench_after, bench}
use Rattle.bench_session.specs.Runs.{held_bytes, Run, in_netlist, in_lines, over, start, Turn, silent, ended, opened}
use Rattle.bench_session.specs.Runs.{turn, after, outputs, ending}
use Rattle.bench_session.specs.Runs.{after_all, outputs_all}
use Rattle.bench_session.proofs.LongLines.{held-answer}
use Rattle.bench_session.proofs.ReadBlocks.{read-few-inputs}

-- ---- a piece and what follows it

pub after-append : (r : Run) (p s : List ℕ) → after r (p ++ s) ≡ after (after r p) s
unfolding after
after-append r [] s = refl
after-append r (c ∷ p) s = after-append (turn r c).next p s

pub outputs-append : (r : Run) (p s : List ℕ) → outputs r (p ++ s) ≡ outputs r p ++ outputs (after r p) s
unfolding after outputs
outputs-append r [] s = refl
outputs-append r (c ∷ p) s = ap (λ (l : List ℕ). (turn r c).output ++ l) (outputs-append (turn r c).next p s)
    ∙ sym (append_assoc (turn r c).output (outputs (turn r c).next p) (outputs (after (turn r c).next p) s))

-- all that a run writes from here on
from : Run → List ℕ → List ℕ
from r s = outputs r s ++ ending (after r s)

from_byte : (r : Run) (c : ℕ) (s : List ℕ) → from r (c ∷ s) ≡ (turn r c).output ++ from (turn r c).next s
unfolding from outputs after
from_byte r c s = append_assoc (turn r c).output (outputs (turn r c).next s) (ending (after (turn r c).next s))

from-over : (s : List ℕ) → from over s ≡ []
unfolding from outputs after ending turn
from-over [] = refl
from-over (c ∷ s) = from-over s

-- ---- the set lines

-- holding a byte more of what is held is holding a byte more
held-held : (h : ℕ) (line : List ℕ) (c : ℕ) → take h (take h line ++ (c ∷ [])) ≡ take h (line ++ (c ∷ []))
held-held zero line c = refl
held-held (suc h) [] c = refl
held-held (suc h) (x ∷ line) c = ap (x ∷◌) (held-held h line c)

module _ (ws : List ℕ) (few : input_count (decode ws) ≤ max_inputs) where
  last-answer : (line : List ℕ) → line_answers (decode ws) (last_line (take held_bytes line))
      ≡ line_answers (decode ws) (last_line line)
  unfolding line_answers last_line
  last-answer [] = refl
  last-answer (c ∷ line) = ap (λ (l : List ℕ). l ++ []) (held-answer (decode ws) few (c ∷ line))

  lines-from : (s line : List ℕ) → from (in_lines ws (take held_bytes line)) s
      ≡ line_answers (decode ws) (lines_from line s)
  unfolding from lines_from ending outputs after turn line_answers
  lines-from [] line = last-answer line
  lines-from (c ∷ s) line = from_byte (in_lines ws (take held_bytes line)) c s ∙ go (lines-from s) (eqb c lf) refl
    where
      step : Turn
      step = turn (in_lines ws (take held_bytes line)) c

      go : ((l : List ℕ) → from (in_lines ws (take held_bytes l)) s ≡ line_answers (decode ws) (lines_from l s))
          → (t : Bool) → eqb c lf ≡ t
          → step.output ++ from step.next s ≡ line_answers (decode ws)
          (cond (eqb c lf) ((line ++ (c ∷ [])) ∷ lines_from [] s) (lines_from (line ++ (c ∷ [])) s))
      go rec true e =
          rw (e, held-held held_bytes line c, held-answer (decode ws) few (line ++ (c ∷ [])))
          (ap (λ (l : List ℕ). line_answer (decode ws) (line ++ (c ∷ [])) ++ l) (rec []))
      go rec false e = rw (e, held-held held_bytes line c) (rec (line ++ (c ∷ [])))

-- ---- the netlist

too_long : (text : List ℕ) → max_text < length text → read_text text ≡ refused TextTooLong
unfolding read_text refuse_if
too_long text l = rw (lt-ltb max_text (length text) l) refl

netlist-from : (s : List ℕ) (fresh : Bool) (text : List ℕ)
    → from (in_netlist fresh text) s ≡ bench_after (read_text (text ++ netlist_from fresh s))
    (lines_of (settings_from fresh s))
unfolding from netlist_from settings_from outputs after ending lines_of lines_from last_line opened bench_after turn
netlist-from [] fresh text = rw append-nil refl
netlist-from (c ∷ s) fresh text =
    from_byte (in_netlist fresh text) c s ∙ go (netlist-from s (eqb c lf) (text ++ (c ∷ []))) (fresh && eqb c lf) refl
  where
    step : Turn
    step = turn (in_netlist fresh text) c

    Goal : Bool → Type 0
    Goal t =
        step.output ++ from step.next s
        ≡ bench_after (read_text (text ++ cond t [] (c ∷ netlist_from (eqb c lf) s)))
        (lines_from [] (cond t s (settings_from (eqb c lf) s)))

    opens : (o : Outcome) → read_text text ≡ o
        → (opened o).output ++ from (opened o).next s ≡ bench_after o (lines_from [] s)
    opens (done ws count detail) e = lines-from ws (read-few-inputs text ws count detail e) s []
    opens (refused r) e = rw (from-over s) (append-nil (refusal_line r))

    Further : Type 0
    Further =
        from (in_netlist (eqb c lf) (text ++ (c ∷ []))) s
        ≡ bench_after (read_text ((text ++ (c ∷ [])) ++ netlist_from (eqb c lf) s))
        (lines_from [] (settings_from (eqb c lf) s))

    go : Further → (t : Bool) → fresh && eqb c lf ≡ t → Goal t
    go rec true e = rw (e, append-nil) (opens (read_text text) refl)
    go rec false e = rw e (keeps (ltb (length text) max_text) refl)
      where
        keeps : (t : Bool) → ltb (length text) max_text ≡ t
            → (cond t (silent (in_netlist (eqb c lf) (text ++ (c ∷ [])))) (ended TextTooLong)).output
            ++ from (cond t (silent (in_netlist (eqb c lf) (text ++ (c ∷ [])))) (ended TextTooLong)).next s
            ≡ bench_after (read_text (text ++ (c ∷ netlist_from (eqb c lf) s))) (lines_from [] (settings_from (eqb c lf) s))
        keeps true f = rw append_assoc at rec
        keeps false f =
            let l = ltb-false (length text) max_text f in
            rw (
              too_long (text ++ (c ∷ netlist_from (eqb c lf) s))
                  (omega (arith, length-append text (c ∷ netlist_from (eqb c lf) s))),
              from-over s,
            )
            (append-nil (refusal_line TextTooLong))

-- ---- the theorems

-- All that a run writes for an input is the bench's output.
pub bench-run : (input : List ℕ) → bench input ≡ outputs start input ++ ending (after start input)
unfolding bench netlist_part settings_part from
bench-run input = sym (netlist-from input true [])

pub joined-outputs : (r : Run) (ps : List (List ℕ)) → joined (outputs_all r ps) ≡ outputs r (joined ps)
unfolding outputs_all outputs
joined-outputs r [] = refl
joined-outputs r (p ∷ ps) =
    ap (λ (l : List ℕ). outputs r p ++ l) (joined-outputs (after r p) ps) ∙ sym (outputs-append r p (joined ps))

pub after_all-joined : (r : Run) (ps : List (List ℕ)) → after_all r ps ≡ after r (joined ps)
unfolding after_all after
after_all-joined r [] = refl
after_all-joined r (p ∷ ps) = after_all-joined (after r p) ps ∙ sym (after-append r p (joined ps))

-- However the input is cut into pieces: their outputs, joined, and what is written at the end are the bench's output of
-- the pieces joined.
pub pieces-bench : (ps : List (List ℕ)) → bench (joined ps) ≡ joined (outputs_all start ps) ++ ending (after_all start ps)
pieces-bench ps = bench-run (joined ps) ∙ rw (joined-outputs start ps, after_all-joined start ps) refl
