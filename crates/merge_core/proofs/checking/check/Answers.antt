use Rattle.std.proofs.Common.{not, Some, ap, sym, subst, ◌∙◌}
use Rattle.std.specs.Prelude.{find}
use Rattle.std.specs.Option.{option_copied}
use Rattle.refluent.specs.Sets.{is_in}
use Rattle.refluent.specs.Drawn.{in_turn}
use Rattle.merge_core.specs.Parents.{AreParentsOf}
use Rattle.merge_core.specs.Afterwards.{AreAfter}
use Rattle.merge_core.proofs.CheckedSets.{first_misfit_is}
use Rattle.merge_core.proofs.VerdictLaws.{undrawn_is, all_drawn, same_node, set_fits, first_addable_is, merger_is, pick_of}
use Rattle.merge_core.proofs.checking.check.Goals as goal

pub returns-in-Some : goal.returns-in-Some
returns-in-Some c logs stands = (
  c.in-Some.command.now,
  sym (undrawn_is c.args.joint.now logs stands c.args.set.now) ∙ ap (find (λ d. not (is_in (in_turn c.args.joint.now.sets) d))) (sym c.commands.ensures.commands) ∙ sym c.first_undrawn.ensures ∙ ap option_copied c.in-Some.is,
  c.in_ok-path.ensures ∙ c.path.ensures,
)

pub returns-in-Some-first_misfit : goal.returns-in-Some-first_misfit
returns-in-Some-first_misfit c logs stands =
    let part = all_drawn c.args.joint.now logs stands c.args.set.now (ap (find (λ d. not (is_in (in_turn c.args.joint.now.sets) d))) (sym c.commands.ensures.commands) ∙ sym c.first_undrawn.ensures ∙ ap option_copied c.in_default.is) in
    let first = rw (c.deref.ensures.value, c.deref-2.ensures.value) at c.in-Some-first_misfit.ensures in (
      part,
      first_misfit_is c.args.joint.now logs stands c.args.set.now c.commands.ensures.fitting.fits.one part c.in_ok-parents.parents.items c.in_ok-seen.seen.items c.in_ok-parents.ensures c.in_ok-seen.ensures
          c.in-Some-first_misfit.place c.in_ok-path-2.path (c.node.ensures ∙ ap Some (sym c.in_ok-path-2.ensures)) first,
    )

pub command_at-requires : goal.command_at-requires
command_at-requires c = pick_of c.args.joint.now.sets c.in-Some-first_addable.pick c.in-Some-first_addable.ensures.0 c.in-Some-first_addable.ensures.1.there

pub returns-in-Some-first_addable : goal.returns-in-Some-first_addable
returns-in-Some-first_addable c logs stands =
    let part = all_drawn c.args.joint.now logs stands c.args.set.now (ap (find (λ d. not (is_in (in_turn c.args.joint.now.sets) d))) (sym c.commands.ensures.commands) ∙ sym c.first_undrawn.ensures ∙ ap option_copied c.in_default.is) in
    let one = c.commands.ensures.fitting.fits.one in
    let ups = subst (AreParentsOf c.args.joint.now.nodes) (sym c.deref-6.ensures.value) c.in_ok-parents.ensures in
    let are = subst (AreAfter c.args.joint.now.nodes c.args.set.now) (sym c.deref-7.ensures.value) c.in_ok-seen.ensures in
    let tree = rw (c.deref.ensures.value ∙ sym c.deref-6.ensures.value, c.deref-2.ensures.value ∙ sym c.deref-7.ensures.value) at c.in_default-first_misfit.ensures in
    let fills = rw (c.deref-3.ensures.value ∙ sym c.deref-6.ensures.value, c.deref-4.ensures.value ∙ sym c.deref-7.ensures.value, sym c.deref-8.ensures.value) at c.in_ok-filled.ensures in
    let first = c.in-Some-first_addable.ensures in
    let pick = c.in-Some-first_addable.pick in (
      pick.place,
      first.0,
      part,
      set_fits c.args.joint.now logs stands c.args.set.now one part c.deref-6.result.now c.deref-7.result.now ups are tree c.deref-8.result.now fills,
      first_addable_is c.args.joint.now logs stands c.args.set.now one part c.deref-6.result.now c.deref-7.result.now ups are tree c.deref-8.result.now fills pick.log pick.place first.0 first.1,
      c.in_ok-path-in-Some-first_addable.ensures ∙ c.path-in-Some-first_addable.ensures ∙ same_node (sym c.command_at.ensures ∙ first.1.there),
    )

pub returns : goal.returns
returns c logs stands =
    let part = all_drawn c.args.joint.now logs stands c.args.set.now (ap (find (λ d. not (is_in (in_turn c.args.joint.now.sets) d))) (sym c.commands.ensures.commands) ∙ sym c.first_undrawn.ensures ∙ ap option_copied c.in_default.is) in
    let one = c.commands.ensures.fitting.fits.one in
    let ups = subst (AreParentsOf c.args.joint.now.nodes) (sym c.deref-6.ensures.value) c.in_ok-parents.ensures in
    let are = subst (AreAfter c.args.joint.now.nodes c.args.set.now) (sym c.deref-7.ensures.value) c.in_ok-seen.ensures in
    let tree = rw (c.deref.ensures.value ∙ sym c.deref-6.ensures.value, c.deref-2.ensures.value ∙ sym c.deref-7.ensures.value) at c.in_default-first_misfit.ensures in
    let fills = rw (c.deref-3.ensures.value ∙ sym c.deref-6.ensures.value, c.deref-4.ensures.value ∙ sym c.deref-7.ensures.value, sym c.deref-8.ensures.value) at c.in_ok-filled.ensures in
    merger_is c.args.joint.now logs stands c.args.set.now one part c.deref-6.result.now c.deref-7.result.now ups are tree c.deref-8.result.now fills c.in-None.ensures
