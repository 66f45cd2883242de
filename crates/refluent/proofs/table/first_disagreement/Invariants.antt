use Rattle.std.proofs.Common.{◌≡◌, List, length}
use Rattle.sync_command.specs.Changes.{Change}
use Rattle.refluent.specs.Tables.{AreClaims}
use Rattle.refluent.specs.Disagreements.{IsDisagreementSoFar, IsWithin}
use Rattle.refluent.proofs.table.first_disagreement.Given as goal

abbrev pub invariant-nodes : goal.invariant-nodes
invariant-nodes l = record {
  many : length l.demands.items ≡ l.count;
  within : IsWithin l.place l.count l.best;
  best : (logs : List (List Change)) → AreClaims l.claims logs → length logs ≡ l.count → IsDisagreementSoFar logs l.claims l.groups l.place l.best;
}
