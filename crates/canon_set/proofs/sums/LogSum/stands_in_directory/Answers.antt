use Rattle.std.proofs.Common.{refl, sym, ap, ◌∙◌}
use Rattle.canon_set.specs.Touches.{lent_touch}
use Rattle.canon_set.specs.Entries.{place_in}
use Rattle.canon_set.proofs.Tables.{place_low, lent_at, not_placed}
use Rattle.canon_set.proofs.Checks.{call_parent, call_parent_none, call_parent_root, always}
use Rattle.canon_set.proofs.sums.LogSum.stands_in_directory.Goals as goal

pub returns-then-not-pop : goal.returns-then-not-pop
returns-then-not-pop c cs st = always (call_parent_root _ cs st c.args.command.now c.args.way.now c.requires.way (sym c.if-not-pop.ensures.root.0))

pub returns-in_default : goal.returns-in_default
returns-in_default c cs st = always (call_parent_none _ cs st c.args.command.now c.args.way.now c.requires.way c.pop.new.self (sym c.if-not-pop.ensures.up) (sym (not_placed _ _ (sym c.entry.ensures.place ∙ ap place_in c.in_default.is))))

pub touch-requires : goal.touch-requires
touch-requires c = place_low _ _ _ c.in-Some-place.place refl (sym c.entry.ensures.place ∙ ap place_in c.in-Some.is ∙ c.in-Some-place.is)

pub returns-in-Some-place : goal.returns-in-Some-place
returns-in-Some-place c cs st = call_parent _ cs st c.args.command.now c.args.way.now c.requires.way c.pop.new.self (lent_touch c.touch.result) c.is_dir.result (sym c.if-not-pop.ensures.up) c.requires.makes
    (sym (lent_at _ _ c.in-Some-place.place _ (sym c.entry.ensures.place ∙ ap place_in c.in-Some.is ∙ c.in-Some-place.is) c.touch.ensures)) c.is_dir.ensures

pub returns-in-None : goal.returns-in-None
returns-in-None c cs st = always (call_parent_none _ cs st c.args.command.now c.args.way.now c.requires.way c.pop.new.self (sym c.if-not-pop.ensures.up) (sym (not_placed _ _ (sym c.entry.ensures.place ∙ ap place_in c.in-Some.is ∙ c.in-None.is))))
