-- The rules of a list that is read.
use Rattle.std.specs.Prelude.{◌≡◌, List}
use Rattle.pref_list.specs.declared.rules.Rule.{Rule}
use Rattle.pref_list.specs.declared.rule_list.RuleList.{RuleList}

-- these rules were read
abbrev pub IsRuleList : RuleList → Unit {0} → Unit {0} × List Rule → Type 0
IsRuleList list past found = list.rules.items ≡ found.1
