use Rattle.std.proofs.Common.{◌≡◌, ℕ, Bool, true, false, Some, sym, ap, ◌∙◌}
use Rattle.std.specs.Prelude.{if◌then◌else◌}
use Rattle.std.specs.Ordering.{is_lt}
use Rattle.sync_path.specs.Paths.{Node, comes_before, path_cmp}
use Rattle.canon_set.specs.declared.touches.Touch.{Touch}
use Rattle.record_core.proofs.sealing.first_of.Goals as goal

same_path_of : {a b : Touch} → Some a ≡ Some b → a.path ≡ b.path
same_path_of {a} {b} h = ap (λ (x : Touch). x.path) (some_is h)
  where
    some_is : Some a ≡ Some b → a ≡ b
    some_is e = cc

-- the test of the two paths
is_test : (r : Bool) (p q p' q' : Node) → r ≡ is_lt (path_cmp p q) → p ≡ p' → q ≡ q' → r ≡ comes_before p' q'
unfolding comes_before
is_test r p q p' q' h e f = h ∙ ap (λ n. is_lt (path_cmp n q)) e ∙ ap (λ n. is_lt (path_cmp p' n)) f

chosen : (r b : Bool) (place kept : ℕ) → r ≡ true → r ≡ b → place ≡ (if b then place else kept)
chosen r b place kept was e = ap (λ c. if c then place else kept) (sym was ∙ e)

kept_on : (r b : Bool) (place kept : ℕ) → r ≡ false → r ≡ b → kept ≡ (if b then place else kept)
kept_on r b place kept was e = ap (λ c. if c then place else kept) (sym was ∙ e)

pub returns-then-is_lt-clause-first : goal.returns-then-is_lt-clause-first
returns-then-is_lt-clause-first c x y e f =
    chosen c.is_lt.result (comes_before x.path y.path) c.args.place c.args.kept c.if-is_lt.true
    (is_test c.is_lt.result c.touch.result.path.now c.touch-2.result.path.now x.path y.path (c.is_lt.ensures ∙ ap is_lt c.cmp.ensures) (same_path_of (sym c.touch.ensures ∙ e)) (same_path_of (sym c.touch-2.ensures ∙ f)))

pub returns-else-is_lt-clause-first : goal.returns-else-is_lt-clause-first
returns-else-is_lt-clause-first c x y e f =
    kept_on c.is_lt.result (comes_before x.path y.path) c.args.place c.args.kept c.if-is_lt.false
    (is_test c.is_lt.result c.touch.result.path.now c.touch-2.result.path.now x.path y.path (c.is_lt.ensures ∙ ap is_lt c.cmp.ensures) (same_path_of (sym c.touch.ensures ∙ e)) (same_path_of (sym c.touch-2.ensures ∙ f)))
