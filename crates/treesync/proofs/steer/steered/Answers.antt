use Rattle.std.proofs.Common.{◌≡◌, subst}
use Rattle.treesync.specs.Checks.{HasItems, IsJudged, Next}
use Rattle.treesync.specs.Joining.{AreJoined, IsJoined}
use Rattle.treesync.specs.Steer.{IsNetSet, IsSteered}
use Rattle.treesync.proofs.CheckLemmas.{judged_handed_on, judged_next}
use Rattle.treesync.proofs.steer.steered.Goals as goal

pub returns-in_err-net : goal.returns-in_err-net
returns-in_err-net c = λ read reads h hs.
    judged_handed_on (λ set cs. set ≡ cs) HasItems (IsNetSet c.args.word read) (λ set. Next (IsJoined c.args.names.now reads) (IsSteered c.args.word set))
    c.in_err-net.field-0.0 c.from_residual.result c.from_residual.ensures.1 (c.in_err-net.ensures read h)

pub returns-in_err-joined : goal.returns-in_err-joined
returns-in_err-joined c = λ read reads h hs.
    judged_next (λ set cs. set ≡ cs) HasItems (IsNetSet c.args.word read) (λ set. Next (IsJoined c.args.names.now reads) (IsSteered c.args.word set)) c.in_ok-net.net c.from_residual-in_err-joined.result (c.in_ok-net.ensures read h) (λ cs e p.
    judged_handed_on AreJoined HasItems (IsJoined c.args.names.now reads) (IsSteered c.args.word cs) c.in_err-joined.field-0.0 c.from_residual-in_err-joined.result c.from_residual-in_err-joined.ensures.1 (c.in_err-joined.ensures reads hs))

pub returns : goal.returns
returns c = λ read reads h hs.
    judged_next (λ set cs. set ≡ cs) HasItems (IsNetSet c.args.word read) (λ set. Next (IsJoined c.args.names.now reads) (IsSteered c.args.word set)) c.in_ok-net.net c.steering_text.result (c.in_ok-net.ensures read h) (λ cs e p.
    judged_next AreJoined HasItems (IsJoined c.args.names.now reads) (IsSteered c.args.word cs) c.in_ok-joined.joined c.steering_text.result (c.in_ok-joined.ensures reads hs) (λ rs s q.
    subst (λ x. IsJudged HasItems (IsSteered c.args.word x rs) c.steering_text.result) e (c.steering_text.ensures rs s)))
