use Rattle.std.proofs.Common.{◌≡◌, ◌<◌, ◌≤◌, ◌+◌, ◌^◌, ℕ, length, true, false, refl, sym, ap, subst, ◌∙◌, arith, Some, None}
use Rattle.std.specs.Prelude.{is_some}
use Rattle.std.specs.HashMap.{spare}
use Rattle.sync_path.specs.Paths.{Node, parent}
use Rattle.sync_path.proofs.CallerLemmas.{parent_shorter}
use Rattle.canon_set.specs.declared.table.Table.{Table}
use Rattle.canon_set.specs.Entries.{children_in, Raises}
use Rattle.canon_set.specs.Tables.{touches_in, entry_at}
use Rattle.canon_set.proofs.Entering.{raise_root}
use Rattle.canon_set.proofs.TableCounts.{raise_counted, raise_parent}
use Rattle.canon_set.proofs.table.Table.+raise.Goals as goal

pub returns-then-not-pop-clause-ok : goal.returns-then-not-pop-clause-ok
returns-then-not-pop-clause-ok t c = raise_root _ _ c.args.way.now c.args.is_full c.if-not-pop.ensures.root.0 (λ p. refl)

pub returns-then-count-clause-ok : goal.returns-then-count-clause-ok
returns-then-count-clause-ok t c = raise_counted _ _ c.args.way.now c.pop.new.self c.args.is_full c.from.result c.if-not-pop.ensures.up c.requires.unknown c.requires.closed c.from.ensures c.if-count.ensures.known

pub returns-then-count-clause-space : goal.returns-then-count-clause-space
returns-then-count-clause-space t c = (c.if-count.ensures.space.0, let e : spare c.count.new.self.above ≡ spare c.args.self.now.above = c.if-count.ensures.space.1 in omega arith)

pub raise-requires : goal.raise-requires
raise-requires t c =
    let short : length c.pop.new.self < length c.args.way.now = parent_shorter c.pop.new.self c.args.way.now c.if-not-pop.ensures.up in
    let k = c.decreases in
    let u = c.if-count.ensures.unknown in (
      omega (arith, short, k),
      (
        subst (λ (m : Table). entry_at m c.pop.new.self ≡ None) (sym u.1) u.0,
        (
          subst (λ (m : Table). (q p : Node) → parent p ≡ Some q → is_some (entry_at m p) ≡ true → is_some (entry_at m q) ≡ true) (sym u.1) c.requires.closed,
          (
            subst (λ (m : Table). length c.pop.new.self ≤ spare m.above) (sym u.1) (let r : length c.args.way.now ≤ spare c.args.self.now.above = c.requires.space in omega arith),
            subst (λ (m : Table). (q : Node) → children_in (entry_at m q) + 1 < 2 ^ 64) (sym u.1) c.requires.few,
          ),
        ),
      ),
    )

-- what is left of the space for the parent
used : (old mid n k : ℕ) → old ≤ mid + k → k < n → n ≤ old → 0 < mid
used old mid n k up short space = omega arith

entered : (old mid new n k : ℕ) → old ≤ mid + k → mid ≤ new + 1 → k < n → old ≤ new + n
entered old mid new n k up last short = omega arith

pub unreachable-requires : goal.unreachable-requires
unreachable-requires t c = let u = c.if-count.ensures.unknown in
    let up : spare c.args.self.now.above ≤ spare c.raise.new.self.above + length c.pop.new.self = subst (λ (m : Table). spare m.above ≤ spare c.raise.new.self.above + length c.pop.new.self) u.1 c.in_ok-raise.ensures.space.1 in
    let some : 0 < spare c.raise.new.self.above = used _ _ _ _ up (parent_shorter c.pop.new.self c.args.way.now c.if-not-pop.ensures.up) c.requires.space in let made : false ≡ true = c.in-Err.ensures.succeeds some in cc (made)

pub returns-clause-ok : goal.returns-clause-ok
returns-clause-ok t c = let u = c.if-count.ensures.unknown in
    raise_parent c.args.self.now c.raise.new.self (record { touched = c.raise.new.self.touched; above = c.insert.new.self }) c.args.way.now c.pop.new.self c.in_ok-parent.parent c.args.is_full c.from-2.result c.if-not-pop.ensures.up c.requires.unknown u.0
    (subst (λ (m : Table). Raises (entry_at m) (entry_at c.raise.new.self) c.pop.new.self true) u.1 c.in_ok-raise.ensures.ok) (c.in_ok-raise.ensures.touched ∙ ap touches_in u.1) refl c.in_ok-parent.ensures c.from-2.ensures c.in-Ok.ensures.updates.0

pub returns-clause-space : goal.returns-clause-space
returns-clause-space t c = let u = c.if-count.ensures.unknown in
    let up : spare c.args.self.now.above ≤ spare c.raise.new.self.above + length c.pop.new.self = subst (λ (m : Table). spare m.above ≤ spare c.raise.new.self.above + length c.pop.new.self) u.1 c.in_ok-raise.ensures.space.1 in (
      c.in_ok-raise.ensures.space.0 ∙ ap (λ (m : Table). spare m.touched) u.1,
      entered _ _ _ _ _ up c.in-Ok.ensures.spare (parent_shorter c.pop.new.self c.args.way.now c.if-not-pop.ensures.up),
    )
