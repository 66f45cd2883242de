-- The disagreement of logs that a refusal names.
use Rattle.std.specs.Prelude.{◌≡◌, ◌<◌, ◌-◌, ◌&&◌, ◌||◌, ◌==◌, nat_lt, ℕ, Bool, true, false, List, [], length, slice_index_or}
use Rattle.sync_path.specs.Paths.{Node, comes_before}
use Rattle.sync_command.specs.Changes.{Change}
use Rattle.refluent.specs.Needs.{disagree}
use Rattle.refluent.specs.CommonTrees.{HasCommonTree}

-- the log of this number, counted from 0; one without commands past the last
abbrev pub log_at : List (List Change) → ℕ → List Change
log_at logs i = slice_index_or logs i []

-- the pair i, j comes before the pair k, l: by the first number, and then by the second
abbrev pub pair_before : ℕ → ℕ → ℕ → ℕ → Bool
pair_before i j k l = nat_lt i k || ((i == k) && nat_lt j l)

-- the least pair of logs that disagree, counted from 0, and its first node of disagreement in path order
pub record IsFirstDisagreement (logs : List (List Change)) (i j : ℕ) (p : Node) : Type 0 where
  pub pair : i < j
  pub in_range : j < length logs
  pub here : disagree (log_at logs i) (log_at logs j) p ≡ true
  pub least_pair : (k l : ℕ) (q : Node) → k < l → pair_before k l i j ≡ true →
      disagree (log_at logs k) (log_at logs l) q ≡ false
  pub first_node : (q : Node) → comes_before q p ≡ true → disagree (log_at logs i) (log_at logs j) q ≡ false

-- no tree takes all the logs, and this is their first disagreement
pub record IsDisagreement (logs : List (List Change)) (i j : ℕ) (p : Node) : Type 0 where
  pub disagreement : IsFirstDisagreement logs i j p
  pub none : HasCommonTree logs → ⊥

-- the same for two logs that are counted from 1
pub record IsRefused (logs : List (List Change)) (first second : ℕ) (p : Node) : Type 0 where
  pub counted : 0 < first
  pub disagreement : IsDisagreement logs (first - 1) (second - 1) p
