use Rattle.std.proofs.Common.{◌≡◌, ◌∷◌, []}
use Rattle.std.proofs.lemmas.Result.{err_from_is_err_and}
use Rattle.treesync.proofs.Sending.{line_sent, path_stops, sends_stop}
use Rattle.treesync.proofs.report.send_line_at.Goals as goal

pub returns-in_err-send_all-clause-contents : goal.returns-in_err-send_all-clause-contents
returns-in_err-send_all-clause-contents g c =
    let p = err_from_is_err_and c.from_residual.result c.from_residual.ensures.1 in
    rw p.1 (sends_stop _ _ _ _ p.0 c.in_err-send_all.ensures.contents)

pub returns-in_err-send_path-clause-contents : goal.returns-in_err-send_path-clause-contents
returns-in_err-send_path-clause-contents g c =
    let p = err_from_is_err_and c.from_residual-in_err-send_path.result c.from_residual-in_err-send_path.ensures.1 in
    rw p.1 (path_stops _ _ _ _ _ _ _ p.0 c.in_ok-send_all.ensures.contents c.in_err-send_path.ensures.contents)

pub returns-clause-contents : goal.returns-clause-contents
returns-clause-contents g c =
    let e : c.as_bytes.result.now ≡ 10 ∷ [] = c.as_bytes.ensures.value in
    line_sent _ _ _ _ _ _ _ _ _ _ c.in_ok-send_all.ensures.contents c.in_ok-send_path.ensures.contents (rw e at c.send.ensures.contents)
