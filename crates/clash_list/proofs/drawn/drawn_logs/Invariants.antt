use Rattle.std.proofs.Common.{◌≡◌, ◌≤◌, length, take}
use Rattle.std.specs.List.{filter}
use Rattle.clash_list.specs.DrawnAt.{picked, first_of_each, logs_of, is_kept}
use Rattle.clash_list.proofs.drawn.drawn_logs.Given as goal

abbrev pub invariant-picks : goal.invariant-picks
invariant-picks l = record {
  few : length l.logs.items ≤ l.at;
  logs : l.logs.items ≡ logs_of (filter (λ d. is_kept l.kept d.change) (first_of_each (picked l.joint.sets (take l.at l.picks))));
}
