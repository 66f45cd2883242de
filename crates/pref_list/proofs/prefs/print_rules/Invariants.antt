use Rattle.std.proofs.Common.{◌≡◌, ◌++◌, length, take}
use Rattle.std.specs.List.{flat_map}
use Rattle.pref_list.specs.Prefs.{rule_text}
use Rattle.log_text.specs.Frame.{ended}
use Rattle.pref_list.proofs.prefs.print_rules.Given as goal

abbrev pub invariant-loop-rule : goal.invariant-loop-rule
invariant-loop-rule l = record {
  text : l.out.items ≡ l.fn.out.items ++ flat_map (λ rule. ended (rule_text rule)) (take l.rule-index l.rules);
  kept : take (length l.fn.out.items) l.out.items ≡ l.fn.out.items;
}
