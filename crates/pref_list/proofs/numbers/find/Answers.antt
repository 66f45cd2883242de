use Rattle.pref_list.proofs.Numbering.{walk_start, walk_pick, walk_found, walk_same, walk_smaller, walk_next}
use Rattle.pref_list.proofs.OldValues.{same_command}
use Rattle.pref_list.proofs.numbers.find.Goals as goal

pub chain-init : goal.chain-init
chain-init c = walk_start _ _ _ _ c.requires.head

pub command_at-other-requires : goal.command_at-other-requires
command_at-other-requires c = walk_pick _ _ _ c.requires.linked _ _ c.chain.invariant _ c.in-Some.is _

pub returns-then-same-clause-some : goal.returns-then-same-clause-some
returns-then-same-clause-some c = walk_found _ _ _ c.requires.linked _ _ c.chain.invariant _ c.in-Some.is _ _ _ c.command_at-other.ensures
    (walk_same _ _ _ c.requires.linked _ _ c.chain.invariant _ c.in-Some.is _ _ _ _ _ c.command_at-other.ensures (same_command _ c.requires.joint _ _ _ _ c.command_at-other.ensures c.requires.net.1) c.new_value.ensures c.new_value-in-Some.ensures c.same.ensures.equal) c.if-same.true

pub chain-smaller : goal.chain-smaller
chain-smaller c = walk_smaller _ _ _ c.requires.linked _ _ c.chain.invariant _ c.in-Some.is

pub chain-preserved : goal.chain-preserved
chain-preserved c = walk_next _ _ _ c.requires.linked _ _ c.chain.invariant _ c.in-Some.is _ _ _ c.command_at-other.ensures
    (walk_same _ _ _ c.requires.linked _ _ c.chain.invariant _ c.in-Some.is _ _ _ _ _ c.command_at-other.ensures (same_command _ c.requires.joint _ _ _ _ c.command_at-other.ensures c.requires.net.1) c.new_value.ensures c.new_value-in-Some.ensures c.same.ensures.equal) c.if-same.false
