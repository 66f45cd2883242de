use Rattle.std.proofs.Common.{◌≡◌, map, take}
use Rattle.refluent.specs.Demands.{demanded}
use Rattle.refluent.specs.Tables.{write_absent}
use Rattle.refluent.proofs.table.write_absent.Given as goal

abbrev pub invariant-claims : goal.invariant-claims
invariant-claims l = map demanded l.demands ≡ write_absent (take l.claim-index l.claims) (map demanded l.initial.demands)
