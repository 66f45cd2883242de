use Rattle.std.proofs.Common.{arith, rules}
use Rattle.rounds.specs.Compositions.{StopsAt}
use Rattle.treesync.proofs.Catching.{stop_within}
use Rattle.treesync.proofs.catchup.composed.Goals as goal

pub overflow_sub-set : goal.overflow_sub-set
overflow_sub-set c =
    let stop : StopsAt c.args.sets.now c.in-Err-NoFollow.set c.in-Err-NoFollow.path = c.in-Err-NoFollow.ensures.stops c.in-Err-NoFollow.set c.in-Err-NoFollow.path (search rules) in
    omega (arith, (stop_within _ _ _ stop).0)

pub place-requires : goal.place-requires
place-requires c =
    let stop : StopsAt c.args.sets.now c.in-Err-NoFollow.set c.in-Err-NoFollow.path = c.in-Err-NoFollow.ensures.stops c.in-Err-NoFollow.set c.in-Err-NoFollow.path (search rules) in
    let within = stop_within _ _ _ stop in
    omega (arith, within, c.requires)

pub returns-in-Err-NoFollow : goal.returns-in-Err-NoFollow
returns-in-Err-NoFollow c =
    let stop : StopsAt c.args.sets.now c.in-Err-NoFollow.set c.in-Err-NoFollow.path = c.in-Err-NoFollow.ensures.stops c.in-Err-NoFollow.set c.in-Err-NoFollow.path (search rules) in
    record { number = c.in-Err-NoFollow.set; word = c.place.result; node = c.in-Err-NoFollow.path; named = c.place.ensures.operand; refusal = cc; stops = stop }
