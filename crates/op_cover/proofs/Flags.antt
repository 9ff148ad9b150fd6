-- A byte for each setting, written batch by batch, and the table that these bytes are. Assumes nothing.
use mathlib.Core.Path.{◌≡◌, refl, sym, ap, ◌∙◌}
use mathlib.Core.Bool.{Bool, true, false, cond, ◌&&◌}
use mathlib.Core.List.{List, [], ◌∷◌}
use Prim.Native.Nat.{ℕ, zero, suc, ◌+◌, ◌^◌, ◌≤◌, ◌<◌}
use native.Mathlib.Nat.{add-zero, add-suc}
use native.Mathlib.Omega.{arith}
use lib.ListN.{length, get_or, take}
use lib.Dec.{eqb}
use lib.Seq.{take-suc}
use Rattle.std.specs.List.{list_all}
use Rattle.prelude.specs.Lists.{tab, placed, all, up_to}
use Rattle.prelude.proofs.Quantifiers.{all_append}
use Rattle.prelude.proofs.Ranges.{list_all-all}
use Rattle.prelude.proofs.Tab.{set-placed-tab}
use Rattle.netlist.specs.Netlist.{Block, input_count}
use Rattle.netlist.specs.Assignments.{bit}
use Rattle.netlist.specs.Rounds.{setting_count, is_sound_at}
use Rattle.theory_cover.specs.Tables.{settled_by}
use Rattle.theory_cover.proofs.ListFacts.{placed_at_lem}
use Rattle.lanes_dual_rail.specs.Words.{Tells}
use Rattle.lanes_dual_rail.proofs.WordLaws.{lane-bit}
use Rattle.op_cover.specs.Table.{Tabulated, sound_flag, flagged}

pub flagged-placed : {lanes base w step : ℕ} (b : Block) {flags : List ℕ} (entry : List ℕ) → step ≡ lanes
    → Tells lanes base (is_sound_at b) w
    → base + lanes ≤ length entry → flags ≡ placed (tab (sound_flag b) base) entry
    → flagged w base step flags ≡ placed (tab (sound_flag b) (base + step)) entry
unfolding sound_flag flagged
flagged-placed {lanes} {base} {w} b {flags} entry is t room e = rw is (go lanes (omega arith))
  where
    flag : (s : ℕ) → s < lanes → bit w s ≡ sound_flag b (base + s)
    flag s l = lane-bit w s ∙ rw (t.each s l)

    go : (k : ℕ) → k ≤ lanes → flagged w base k flags ≡ placed (tab (sound_flag b) (base + k)) entry
    go zero l = rw (add-zero base) e
    go (suc k) l =
        rw (go k (omega arith), add-suc base k, flag k (omega arith))
        (set-placed-tab (sound_flag b) (base + k) entry (omega arith))

flag-is-1 : (b : Bool) → eqb (cond b 1 0) 1 ≡ b
flag-is-1 true = refl
flag-is-1 false = refl

-- flags in the first places, one for each setting
pub tabulated : (b : Block) (n : ℕ) (entry table : List ℕ) → n ≡ input_count b → 2 ^ n ≤ length table
    → table ≡ placed (tab (sound_flag b) (2 ^ n)) entry → Tabulated b table
unfolding setting_count settled_by sound_flag
tabulated b n entry table e r t =
    record {
      long = rw (← e) r;
      right = λ s l.
          let l' : s < 2 ^ n = rw e l in
          ap (λ (x : ℕ). eqb x 1) (ap (λ (xs : List ℕ). get_or xs s 0) t ∙ placed_at_lem (sound_flag b) (2 ^ n) entry s 0 l')
          ∙ flag-is-1 (is_sound_at b s);
    }

-- it is long enough for the settings of n inputs
pub table-room : {b : Block} {table : List ℕ} {n : ℕ} → Tabulated b table → n ≡ input_count b → 2 ^ n ≤ length table
unfolding setting_count
table-room t e = rw e t.long

-- a test of the first n items, by their places
all-front : (p : ℕ → Bool) (xs : List ℕ) (n : ℕ) → n ≤ length xs
    → all p (take n xs) ≡ all (λ k. p (get_or xs k 0)) (up_to n)
all-front p xs zero h = refl
all-front p xs (suc n) h =
    ap (all p) (take-suc xs n 0 (omega arith)) ∙ all_append p (take n xs) (get_or xs n 0 ∷ [])
    ∙ ap (λ (b : Bool). b && all p (get_or xs n 0 ∷ [])) (all-front p xs n (omega arith))
    ∙ sym (all_append (λ k. p (get_or xs k 0)) (up_to n) (n ∷ []))

pub settled-front : (settled : List ℕ) (n : ℕ) → n ≤ length settled
    → list_all (λ byte. eqb byte 1) (take n settled) ≡ all (settled_by settled) (up_to n)
unfolding settled_by
settled-front settled n h =
    list_all-all (λ byte. eqb byte 1) (take n settled) ∙ all-front (λ byte. eqb byte 1) settled n h
