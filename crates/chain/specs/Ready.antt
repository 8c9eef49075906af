-- A chain from its bytes for a call that serves: where its bytes, its check and its sizes pass, it is prepared. Where
-- one of them refuses it is `None`, and the call's list of checks has the refusal.
use Rattle.std.specs.Prelude.{◌&&◌, cond, List, ℕ, Err, None, Ok, Option, Result, Some, is_ok}
use Rattle.refusal.specs.declared.Refusal.{Refusal}
use Rattle.chain.specs.declared.Prepared.{Prepared}
use Rattle.chain.specs.declared.Kinematics.{Kinematics}
use Rattle.chain.specs.Check.{chain_check, chain_within}
use Rattle.chain.specs.ChainBytes.{read_chain}
use Rattle.chain.specs.Prepared.{prepared}

unfoldable pub ready_of : Kinematics → Option Prepared
ready_of k = cond (is_ok (chain_check k) && chain_within k) (Some (prepared k)) None

abbrev pub ready_read : Result Kinematics Refusal → Option Prepared
ready_read (Ok k) = ready_of k
ready_read (Err r) = None

unfoldable pub ready : List ℕ → Option Prepared
ready bytes = ready_read (read_chain bytes)
