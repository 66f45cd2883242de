use Rattle.std.proofs.Common.{arith, ◌∙◌, ◌<◌, ◌≤◌, length}
use Rattle.std.proofs.lemmas.Result.{err_from_is_err_and}
use Rattle.treesync.proofs.Sending.{begins, goes_on, stops, ends}
use Rattle.treesync.proofs.report.send_all.Goals as goal

pub texts-init : goal.texts-init
texts-init g c = record { faults = omega arith; sent = begins _ c.args.texts.now }

pub texts-preserved : goal.texts-preserved
texts-preserved g c =
    let here : c.texts.text-index < length c.args.texts.now = omega arith in
    record {
      faults = c.in_ok-send.ensures.faults.done ∙ c.texts.invariant.faults;
      sent = goes_on _ _ _ c.args.texts.now c.texts.text-index _ here c.texts.invariant.sent c.in_ok-send.ensures.contents;
    }

pub returns-in_err-send-clause-contents : goal.returns-in_err-send-clause-contents
returns-in_err-send-clause-contents g c =
    let here : c.texts.text-index < length c.args.texts.now = omega arith in
    let p = err_from_is_err_and c.from_residual.result c.from_residual.ensures.1 in
    rw p.1 (stops _ _ _ c.args.texts.now c.texts.text-index _ p.0 here c.texts.invariant.sent c.in_err-send.ensures.contents)

pub returns-clause-contents : goal.returns-clause-contents
returns-clause-contents g c =
    let past : length c.args.texts.now ≤ c.texts.text-index = omega arith in
    ends _ _ c.args.texts.now c.texts.text-index past c.texts.invariant.sent
