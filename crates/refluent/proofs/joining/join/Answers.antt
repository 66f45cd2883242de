use Rattle.std.proofs.Common.{arith, sym, ◌∙◌, ap, Err}
use Rattle.refluent.specs.declared.faults.JoinFault.TheVariants.{NoCommonTree}
use Rattle.refluent.proofs.Assembling.{have_nets, stands_for, held, rows_here, logs_here, err_by, linked_here, numbered_here}
use Rattle.refluent.proofs.FamilyPaths.{has_families, up_low_here}
use Rattle.refluent.proofs.joining.join.Goals as goal

pub sets_of-requires : goal.sets_of-requires
sets_of-requires c = have_nets c.args.sums.items c.in_ok-claims.claims.items c.in_ok-claims.groups.items c.in_ok-claims.ensures.agreed c.in_ok-claims.ensures.table.0.unique c.len-count.result (omega (arith, c.len-count.ensures, c.args.sums.ok)) c.in_ok-claims.ensures.sums

pub number_commands-requires-clause-logs : goal.number_commands-requires-clause-logs
number_commands-requires-clause-logs c = logs_here _ _ _ c.as_slice-3.ensures.value (have_nets c.args.sums.items c.in_ok-claims.claims.items c.in_ok-claims.groups.items c.in_ok-claims.ensures.agreed c.in_ok-claims.ensures.table.0.unique c.len-count.result (omega (arith, c.len-count.ensures, c.args.sums.ok)) c.in_ok-claims.ensures.sums)

pub invariant_of-result : goal.invariant_of-result
invariant_of-result c = let h = held c.args.sums.items c.in_ok-claims.claims.items c.in_ok-claims.groups.items c.in_ok-claims.ensures.agreed c.in_ok-claims.ensures.table.0.unique c.len-count.result (omega (arith, c.len-count.ensures, c.args.sums.ok)) c.in_ok-claims.ensures.table.0 c.in_ok-claims.ensures.sums (omega (arith, c.len-count.ensures, c.args.sums.ok, c.requires))
    c.in_ok-nodes.nodes.items (rows_here _ _ _ _ _ c.as_slice.ensures.value c.as_slice-2.ensures.value c.in_ok-nodes.ensures) c.in_ok-sets.sets.items c.in_ok-sets.ensures
    c.in_ok-links.links.items (linked_here _ _ _ _ _ c.as_slice-3.ensures.value c.as_slice-4.ensures.value c.in_ok-links.ensures.links) c.in_ok-links.numbering (numbered_here _ _ _ c.as_slice-3.ensures.value c.in_ok-links.ensures.numbered) in
    (h, has_families _ _ _ _ _ h _ c.as_slice-5.ensures.value _ _ c.in_ok-families.ensures)

pub families_of-requires-clause-up : goal.families_of-requires-clause-up
families_of-requires-clause-up c = up_low_here _ _ _ _ _ _ c.as_slice-3.ensures.value c.as_slice-4.ensures.value c.as_slice-5.ensures.value c.in_ok-claims.ensures.table.1 c.in_ok-links.ensures.links

pub returns-clause-joined : goal.returns-clause-joined
returns-clause-joined c logs stand = stands_for c.args.sums.items c.in_ok-claims.claims.items c.in_ok-claims.groups.items c.in_ok-claims.ensures.agreed c.in_ok-claims.ensures.table.0.unique c.len-count.result (omega (arith, c.len-count.ensures, c.args.sums.ok))
    c.in_ok-nodes.nodes.items (rows_here _ _ _ _ _ c.as_slice.ensures.value c.as_slice-2.ensures.value c.in_ok-nodes.ensures) c.in_ok-sets.sets.items c.in_ok-sets.ensures logs stand

pub returns-in_err-claims-clause-refused : goal.returns-in_err-claims-clause-refused
returns-in_err-claims-clause-refused c logs first second path stand is = c.compare_logs.ensures.refused logs first second path stand (c.in_err-claims.was ∙ ap Err (sym (err_by c.from_residual.result c.in_err-claims.field-0.0 (NoCommonTree first second path) is c.from_residual.ensures.1)))
