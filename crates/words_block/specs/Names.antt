-- The rules of names in a row, as one value. Cited by the contracts of this crate alone. Assumes nothing.
--   is_other, are_others    a name is another than one before it, and than all of them
--   is_new_name             it is legal, too
--   keeps_rule              the first names are legal, and no two are the same
use Rattle.std.specs.Prelude.{Bool, ℕ}
use Rattle.theory_encoding.specs.Rules.{names_rule}
use Rattle.words_block.specs.declared.names.Names.{Names}
use Rattle.words_block.specs.NameSteps.{other_name, others_before, new_name}

abbrev pub is_other : Names → ℕ → ℕ → Bool
is_other n j i = other_name n.words.now n.at n.size j i

abbrev pub are_others : Names → ℕ → Bool
are_others n j = others_before n.words.now n.at n.size j

abbrev pub is_new_name : Names → ℕ → Bool
is_new_name n j = new_name n.words.now n.at n.size j

abbrev pub keeps_rule : Names → ℕ → Bool
keeps_rule n count = names_rule n.words.now n.at n.size count
