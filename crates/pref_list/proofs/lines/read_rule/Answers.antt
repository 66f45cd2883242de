use Rattle.pref_list.proofs.RuleLines.{two_fields, three_fields, other_fields}
use Rattle.pref_list.proofs.lines.read_rule.Goals as goal

pub returns-in-Two-clause-gives : goal.returns-in-Two-clause-gives
returns-in-Two-clause-gives c before ps count wide fields other =
    two_fields before c.args.fields ps c.in-Two.word c.in-Two.log c.read_of_log.result c.in-Two.is fields (c.read_of_log.ensures.gives before count wide)

pub returns-in-Three-clause-gives : goal.returns-in-Three-clause-gives
returns-in-Three-clause-gives c before ps count wide fields other =
    three_fields before c.args.fields ps c.in-Three.word c.in-Three.log c.in-Three.path c.read_of_place.result c.in-Three.is fields (c.read_of_place.ensures.gives before count wide)

pub returns-in_default-clause-gives : goal.returns-in_default-clause-gives
returns-in_default-clause-gives c before ps count wide fields other = other_fields before c.args.fields ps fields other c.in_default.not-Two c.in_default.not-Three
