use Rattle.std.proofs.Common.{◌≡◌, Bool, true, false, None, refl, sym, ap, subst}
use Rattle.std.specs.Bool.{OnTrue, OnFalse}
use Rattle.canon_set.specs.declared.table.Table.{Table}
use Rattle.canon_set.specs.Tables.{entry_at}
use Rattle.canon_set.specs.Entries.{Counts, Recounts}
use Rattle.canon_set.proofs.Entering.{recount_same, recount_root, recount_none}
use Rattle.canon_set.proofs.TableCounts.{same_fullness, recount_counted}
use Rattle.canon_set.proofs.table.Table.recount.Goals as goal

pub returns-then-was_full-is_full-clause-ok : goal.returns-then-was_full-is_full-clause-ok
returns-then-was_full-is_full-clause-ok c = recount_same _ _ c.args.way.now c.args.was_full c.args.is_full (same_fullness c.args.was_full c.args.is_full c.if-was_full-is_full.true) c.requires.known (λ p. refl)

pub returns-then-not-pop-clause-ok : goal.returns-then-not-pop-clause-ok
returns-then-not-pop-clause-ok c = recount_root _ _ c.args.way.now c.args.was_full c.args.is_full c.if-not-pop.ensures.root.0 (λ p. refl)

pub returns-clause-ok : goal.returns-clause-ok
returns-clause-ok c = go c.count.result refl
  where
    go : (b : Bool) → c.count.result ≡ b → Recounts (entry_at c.args.self.now) (entry_at c.count.new.self) c.args.way.now c.args.was_full c.args.is_full
    go true e = recount_counted _ _ c.args.way.now c.pop.new.self c.args.was_full c.args.is_full c.from.result c.from-2.result c.if-not-pop.ensures.up c.requires.known c.if-was_full-is_full.false c.from.ensures c.from-2.ensures
        (subst (λ b. OnTrue b (Counts (entry_at c.args.self.now) (entry_at c.count.new.self) c.pop.new.self c.from.result c.from-2.result)) e c.count.ensures.known)
    go false e = let u = subst (λ b. OnFalse b ((entry_at c.args.self.now c.pop.new.self ≡ None) × (c.count.new.self ≡ c.args.self.now))) e c.count.ensures.unknown in
        recount_none _ _ c.args.way.now c.pop.new.self c.args.was_full c.args.is_full c.if-not-pop.ensures.up c.requires.known (sym u.0) (λ p. ap (λ (m : Table). entry_at m p) u.1)
