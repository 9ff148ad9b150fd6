-- The claims of specs/Claim.antt hold. Assumes nothing.
use Prim.Native.Nat.{ℕ}
use mathlib.Core.Path.{◌≡◌}
use mathlib.Core.Bool.{true}
use lib.ListN.{length}
use Rattle.netlist.specs.Netlist.{Block, input_count}
use Rattle.netlist.specs.Groups.{group_of}
use Rattle.theory_replacement.specs.Placing.{is_complete}
use Rattle.theory_replacement.specs.Group.{boundary, cut_of, own_block}
use Rattle.theory_replacement.specs.Claim.{ReplacedUnderOneSetting, ReplacedGates, ReplacedGroup, NoNewLoop}
use Rattle.theory_replacement.specs.Claim.{AcceptedAgrees, FitsAt}
use Rattle.theory_replacement.proofs.Values.{one-setting}
use Rattle.theory_replacement.proofs.Loops.{was-on-loop}
use Rattle.theory_replacement.proofs.Own.{own-stands-at}
use Rattle.theory_replacement.proofs.Connected.{connected-free}
use Rattle.theory_replacement.proofs.Settings.{allowed-agree, sound-accepted}

pub replaced-under-one-setting : ReplacedUnderOneSetting
replaced-under-one-setting b cut own new whole stands fits x agree = one-setting b cut own new whole stands fits x agree

pub replaced-gates : ReplacedGates
unfolding cut_of
replaced-gates b group input_names port_names nevers new whole fits agree x allowed =
    let own : Block = own_block b group input_names port_names nevers in
    let stands = own-stands-at b group input_names port_names nevers whole in
    one-setting b (cut_of b group) own new whole stands fits x
    (allowed-agree b x (boundary b group) own new stands.inputs fits.inputs agree allowed)

-- what the group's own block needs, a strongly connected group has
connected-fits : (b : Block) (j : ℕ) (new : Block) → is_complete b ≡ true → is_complete new ≡ true
    → input_count new ≡ length (boundary b (group_of b j)) → FitsAt b (cut_of b (group_of b j)) new
unfolding cut_of
connected-fits b j new whole complete inputs =
    record { complete = complete; inputs = inputs; independent = λ i k u e. connected-free b j whole i k e }

pub replaced-group : ReplacedGroup
replaced-group b j input_names port_names nevers new whole complete inputs agree x allowed =
    replaced-gates b (group_of b j) input_names port_names nevers new whole
    (connected-fits b j new whole complete inputs) agree x allowed

pub accepted-agrees : AcceptedAgrees
accepted-agrees = sound-accepted

pub no-new-loop : NoNewLoop
no-new-loop b cut own new whole stands fits long straight n loop =
    was-on-loop b cut own new whole stands fits long straight n loop
