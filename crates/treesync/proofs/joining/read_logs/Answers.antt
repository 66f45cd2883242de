use Rattle.std.proofs.Common.{◌∷◌, [], ap, arith, length, length-append, refl, rules, add-one}
use Rattle.treesync.specs.Joining.{IsLogs, log_limits}
use Rattle.treesync.proofs.JoinLemmas.{all_done, all_dropped, log_read, log_refused, memory_out, none_done}
use Rattle.treesync.proofs.joining.read_logs.Goals as goal

pub names-init : goal.names-init
names-init g c = record {
  many = search rules;
  within = c.requires;
  leads = none_done c.args.names.now c.args.allowance (g.F.Files.files c.args.files.now) c.new-logs.result.items c.new-logs.ensures.items;
}

pub returns-in_err-log-clause-answer : goal.returns-in_err-log-clause-answer
returns-in_err-log-clause-answer g c =
    log_refused (IsLogs c.args.allowance c.args.names.now) (log_limits c.args.names.now) (g.F.Files.files c.args.files.now) c.names.logs.items c.names.left (g.F.Files.files c.names.files)
    c.args.names.now c.names.at c.place.result c.name.result.now (g.F.Files.files c.read_sum.new.files) c.place.ensures.operand c.name.ensures c.names.invariant.within c.names.invariant.leads
    c.in_err-log.field-0.0 c.from_residual.result c.from_residual.ensures.1 c.in_err-log.ensures

pub returns-in_err-push_log-clause-answer : goal.returns-in_err-push_log-clause-answer
returns-in_err-push_log-clause-answer g c =
    memory_out (IsLogs c.args.allowance c.args.names.now) (log_limits c.args.names.now) (g.F.Files.files c.args.files.now) c.names.logs.items c.names.left (g.F.Files.files c.names.files)
    c.args.names.now c.names.at c.place.result c.name.result.now (g.F.Files.files c.read_sum.new.files) c.place.ensures.operand c.name.ensures c.names.invariant.within c.names.invariant.leads
    c.in_ok-log.log c.from_residual-in_err-push_log.result c.from_residual-in_err-push_log.ensures.1 c.in_ok-log.ensures

pub names-preserved : goal.names-preserved
names-preserved g c = record {
  many = omega (arith, ap length c.in_ok-push_log.ensures, length-append c.names.logs.items (c.in_ok-log.log ∷ []));
  within = omega (arith, ap (λ a. a.bytes) c.left_after-left.ensures);
  leads = rw (add-one, c.in_ok-push_log.ensures) (
      log_read (IsLogs c.args.allowance c.args.names.now) (log_limits c.args.names.now) (g.F.Files.files c.args.files.now) c.names.logs.items c.names.left (g.F.Files.files c.names.files)
      c.args.names.now c.names.at c.place.result c.name.result.now (g.F.Files.files c.read_sum.new.files) c.place.ensures.operand c.name.ensures c.names.invariant.within c.names.invariant.leads
      c.in_ok-log.log c.left_after-left.result c.left_after-left.ensures c.in_ok-log.ensures);
}

pub returns-clause-answer : goal.returns-clause-answer
returns-clause-answer g c =
    all_done (IsLogs c.args.allowance c.args.names.now) (log_limits c.args.names.now) (g.F.Files.files c.args.files.now) c.names.logs.items c.names.left (g.F.Files.files c.names.files)
    _ c.names.logs (all_dropped c.args.names.now c.names.at (omega arith)) refl c.names.invariant.leads
