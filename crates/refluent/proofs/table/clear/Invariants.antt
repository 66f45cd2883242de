use Rattle.std.proofs.Common.{◌≡◌, ◌<◌, ℕ, Some}
use Rattle.std.specs.List.{slice_get}
use Rattle.refluent.specs.Demands.{demanded}
use Rattle.refluent.specs.Needs.{Anything}
use Rattle.refluent.specs.declared.demands.Demand.{Demand}
use Rattle.refluent.proofs.table.clear.Given as goal

abbrev pub invariant-demands : goal.invariant-demands
invariant-demands l = (k : ℕ) (d : Demand) → k < l.place → slice_get l.demands k ≡ Some d → demanded d ≡ Anything
