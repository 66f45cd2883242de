use Rattle.record_core.proofs.ScriptLines.{no_op, op_of_three, op_of_two, three_gives, two_gives}
use Rattle.record_core.proofs.script.read_op.Goals as goal

pub returns-in-Some-clause-gives : goal.returns-in-Some-clause-gives
returns-in-Some-clause-gives c = λ ps are none.
    two_gives c.args.version c.args.count c.args.fields ps c.in-Two.word c.in-Two.path _ c.read_short.result are c.in-Two.is c.in-Some.ensures c.read_short.ensures.gives

pub returns-in-None-clause-gives : goal.returns-in-None-clause-gives
returns-in-None-clause-gives c = λ ps are none. op_of_two c.args.version c.args.count c.args.fields ps c.in-Two.word c.in-Two.path _ are c.in-Two.is c.in-None.ensures

pub returns-in-Some-long_word-clause-gives : goal.returns-in-Some-long_word-clause-gives
returns-in-Some-long_word-clause-gives c = λ ps are none.
    three_gives c.args.version c.args.count c.args.fields ps c.in-Three.word c.in-Three.first c.in-Three.second _ c.read_long.result are c.in-Three.is c.in-Some-long_word.ensures c.read_long.ensures.gives

pub returns-in-None-long_word-clause-gives : goal.returns-in-None-long_word-clause-gives
returns-in-None-long_word-clause-gives c = λ ps are none.
    op_of_three c.args.version c.args.count c.args.fields ps c.in-Three.word c.in-Three.first c.in-Three.second _ are c.in-Three.is c.in-None-long_word.ensures

pub returns-in_default-clause-gives : goal.returns-in_default-clause-gives
returns-in_default-clause-gives c = λ ps are none. no_op c.args.version c.args.count c.args.fields ps are none c.in_default.not-Two c.in_default.not-Three
