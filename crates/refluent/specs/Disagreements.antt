-- The least pair of logs that no value suits, over the nodes of a table.
use Rattle.std.specs.Prelude.{◌≡◌, ℕ, ◌<◌, Bool, true, false, List, length, slice_get, Option, Some, None, if◌then◌else◌}
use Rattle.sync_path.specs.Paths.{Node}
use Rattle.sync_command.specs.Changes.{Change}
use Rattle.refluent.specs.Needs.{are_incompatible}
use Rattle.refluent.specs.FirstDisagreements.{log_at, pair_before}
use Rattle.refluent.specs.Tables.{wanted, node_of}
use Rattle.refluent.specs.declared.claims.Claim.{Claim}
use Rattle.refluent.specs.declared.table.Group.{Group}
use Rattle.refluent.specs.declared.table.Disagreement.{Disagreement}

-- no value at the node suits both logs
abbrev pub are_incompatible_at : List (List Change) → ℕ → ℕ → Node → Bool
are_incompatible_at logs k l p = are_incompatible (wanted (log_at logs k) p) (wanted (log_at logs l) p)

-- no pair is incompatible at the first so many nodes
abbrev pub NoDisagreement : List (List Change) → List Claim → List Group → ℕ → Type 0
NoDisagreement logs claims groups upto =
    (k l i : ℕ) (s : Group) → k < l → l < length logs → i < upto → slice_get groups i ≡ Some s →
    are_incompatible_at logs k l (node_of claims s) ≡ false

-- the least pair that is incompatible at one of the first so many nodes, and the first node at which it is
pub record IsLeastDisagreement (logs : List (List Change)) (claims : List Claim) (groups : List Group) (upto : ℕ) (d : Disagreement) : Type 0 where
  pub pair : d.first < d.second
  pub low : d.second < length logs
  pub within : d.place < upto
  pub group : Group
  pub at : slice_get groups d.place ≡ Some group
  pub here : are_incompatible_at logs d.first d.second (node_of claims group) ≡ true
  pub pairs : (k l i : ℕ) (s : Group) → k < l → l < length logs → i < upto → slice_get groups i ≡ Some s →
      pair_before k l d.first d.second ≡ true → are_incompatible_at logs k l (node_of claims s) ≡ false
  pub nodes : (i : ℕ) (s : Group) → i < d.place → slice_get groups i ≡ Some s →
      are_incompatible_at logs d.first d.second (node_of claims s) ≡ false

abbrev pub IsDisagreementSoFar : List (List Change) → List Claim → List Group → ℕ → Option Disagreement → Type 0
IsDisagreementSoFar logs claims groups upto None = NoDisagreement logs claims groups upto
IsDisagreementSoFar logs claims groups upto (Some d) = IsLeastDisagreement logs claims groups upto d

-- the better of the best pair so far and that of a further node
abbrev pub better_of : Option Disagreement → Option (ℕ × ℕ) → ℕ → Option Disagreement
better_of best None place = best
better_of None (Some pair) place = Some (record { first = pair.0; second = pair.1; place = place })
better_of (Some d) (Some pair) place =
    if pair_before pair.0 pair.1 d.first d.second then Some (record { first = pair.0; second = pair.1; place = place })
    else Some d

pub record IsInRange (d : Disagreement) (places logs : ℕ) : Type 0 where
  pub pair : d.first < d.second
  pub low : d.second < logs
  pub place : d.place < places

-- the pair is of so many logs, at one of so many places
abbrev pub IsWithin : ℕ → ℕ → Option Disagreement → Type 0
IsWithin places logs None = Unit {0}
IsWithin places logs (Some d) = IsInRange d places logs
