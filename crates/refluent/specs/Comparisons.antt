-- How logs compare, once their claims are sorted.
use Rattle.std.specs.Prelude.{◌≡◌, ℕ, ◌<◌, false, List}
use Rattle.sync_path.specs.Paths.{Node}
use Rattle.sync_command.specs.Changes.{Change}
use Rattle.refluent.specs.Needs.{disagree}
use Rattle.refluent.specs.FirstDisagreements.{IsDisagreement, log_at}
use Rattle.refluent.specs.Tables.{AreClaims, AreOrdered, AreSorted, IsTable}
use Rattle.refluent.specs.declared.joining.Comparison.{Comparison}
use Rattle.refluent.specs.declared.joining.Comparison.TheVariants.{Agreed, Disagreed}
use Rattle.refluent.specs.declared.claims.Claim.{Claim}
use Rattle.refluent.specs.declared.table.Group.{Group}

-- no two logs disagree, and the table is that of the claims
pub record IsAgreed (logs : List (List Change)) (claims : List Claim) (groups : List Group) : Type 0 where
  pub are : AreClaims claims logs
  pub sorted : AreSorted claims
  pub table : IsTable claims groups
  pub agree : (k l : ℕ) (p : Node) → k < l → disagree (log_at logs k) (log_at logs l) p ≡ false

abbrev pub IsComparison : List (List Change) → Comparison → Type 0
IsComparison logs (Agreed claims groups) = IsAgreed logs claims.items groups.items
IsComparison logs (Disagreed first second path) = IsDisagreement logs first second path

-- the claims are in order, in their table; or the numbers of two logs that disagree are below that of the logs
abbrev pub IsComparisonOf : ℕ → Comparison → Type 0
IsComparisonOf count (Agreed claims groups) = AreOrdered claims.items × IsTable claims.items groups.items
IsComparisonOf count (Disagreed first second path) = (first < second) × (second < count)
