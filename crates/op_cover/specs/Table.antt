-- The table of settings that never come or are settled. Cited by the contracts of this crate. Assumes nothing.
use Rattle.std.specs.Prelude.{◌≡◌, List, cond, ℕ, zero, suc, ◌+◌, ◌≤◌, ◌<◌, length, set}
use Rattle.netlist.specs.Netlist.{Block}
use Rattle.netlist.specs.Assignments.{bit}
use Rattle.netlist.specs.Rounds.{setting_count, is_sound_at}
use Rattle.theory_cover.specs.Tables.{settled_by}

-- the table has a byte for each setting, 1 exactly where it never comes or is settled
pub record Tabulated (b : Block) (table : List ℕ) : Type 0 where
  pub long : setting_count b ≤ length table
  pub right : (s : ℕ) → s < setting_count b → settled_by table s ≡ is_sound_at b s

-- 1 for a setting that is settled or never comes, 0 for another
unfoldable pub sound_flag : Block → ℕ → ℕ
sound_flag b s = cond (is_sound_at b s) 1 0

-- a row of bytes that has, from `base` on, the first bits of a word, a byte each
unfoldable pub flagged : ℕ → ℕ → ℕ → List ℕ → List ℕ
flagged word base zero flags = flags
flagged word base (suc s) flags = set (flagged word base s flags) (base + s) (bit word s)
