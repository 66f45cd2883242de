use Rattle.std.proofs.Common.{subst}
use Rattle.log_text.specs.Logs.{log_text}
use Rattle.rounds.specs.Rebasing.{IsRebasedOf}
use Rattle.treesync.specs.Rebase.{round_side, side_number}
use Rattle.treesync.specs.Transition.{IsTransitioned}
use Rattle.treesync.proofs.Jobs.{same_text}
use Rattle.treesync.proofs.Rebasing.{side_printable, side_transitioned}
use Rattle.treesync.proofs.rebase.side_text.Goals as goal

pub set_text-requires : goal.set_text-requires
set_text-requires c =
    let of : IsRebasedOf c.args.logs.now.joint c.args.wanted.now.rules.items (round_side c.args.wanted.now.side) c.in-Ok.set =
    subst (λ r. IsRebasedOf c.args.logs.now.joint r (round_side c.args.wanted.now.side) c.in-Ok.set) c.deref.ensures.value (subst (λ s. IsRebasedOf c.args.logs.now.joint c.deref.result.now s c.in-Ok.set) c.round_side.ensures c.in-Ok.ensures.rebased) in
    side_printable c.args.logs.now c.args.wanted.now.rules.items c.args.wanted.now.side c.in-Ok.set of c.requires.logs.0 c.requires.logs.1 c.requires.two

pub returns-in-Ok : goal.returns-in-Ok
returns-in-Ok c = λ reads h.
    let of : IsRebasedOf c.args.logs.now.joint c.args.wanted.now.rules.items (round_side c.args.wanted.now.side) c.in-Ok.set =
    subst (λ r. IsRebasedOf c.args.logs.now.joint r (round_side c.args.wanted.now.side) c.in-Ok.set) c.deref.ensures.value (subst (λ s. IsRebasedOf c.args.logs.now.joint c.deref.result.now s c.in-Ok.set) c.round_side.ensures c.in-Ok.ensures.rebased) in
    let none = rw c.deref.ensures.value at c.in-Ok.ensures.faultless in
    same_text (IsTransitioned (side_number c.args.wanted.now.side) c.args.wanted.now.word c.args.wanted.now.rules.items reads) (log_text c.args.logs.now.version c.in-Ok.set) c.set_text.result
    (side_transitioned c.args.logs.now c.args.wanted.now.rules.items c.args.wanted.now.side c.in-Ok.set of reads h c.args.wanted.now.word none) c.set_text.ensures
