-- What the crates above need of applying a set: a step of one command leaves a tree ready, with the same target and less
-- work, and a tree that a set fits is ready for it.
use Rattle.std.proofs.Common.{◌||◌, ◌≡◌, ℕ, ◌+◌, Bool, true, false, not, ◌&&◌, List, [], ◌∷◌, Option, Some, None, refl, sym, ap, subst, ◌∙◌, arith, ◌⊎◌, inl, inr}
use mathlib.Core.Path.{fun_ext}
use Rattle.std.specs.Prelude.{if◌then◌else◌, is_none}
use Rattle.sync_path.proofs.CallerLemmas.{both, same_path_is, same_path_at, same_path_comm}
use Rattle.sync_command.proofs.CallerLemmas.{list_all-at, same_tree, same_value_at, same_value_is}
use Rattle.resume_apply.specs.Ready.{changes_kind, is_ready_value, IsReady, work_units, work_at, work, IsStep}
use Rattle.sync_command.specs.Changes.{Change, is_change}
use Rattle.canon_set.specs.Logs.{all_change}
use Rattle.sync_command.specs.Trees.{Holding, put, command_at, after, one_each, Fits}
use Rattle.sync_command.specs.Values.{is_empty, is_dir, same_value}
use Rattle.sync_command.specs.declared.values.Value.{Value}
use Rattle.sync_command.specs.declared.values.Value.TheVariants.{Empty, Dir, File}
use Rattle.sync_path.specs.Paths.{Node, same_path}

is_or_not : (b : Bool) → (b ≡ true) ⊎ (b ≡ false)
is_or_not true = inl refl
is_or_not false = inr refl

-- a step leaves the node ready
pub ready_at : (c : Change) (v w : Value) → IsStep c v w → is_ready_value c w ≡ true
ready_at c v w (inl (old, new, s)) = go (same_value_at w c.new new)
  where
    go : same_value w c.new ≡ true → is_ready_value c w ≡ true
    go e = grind arith
ready_at c v w (inr (inl (old, new))) = go (same_value_at w c.new new)
  where
    go : same_value w c.new ≡ true → is_ready_value c w ≡ true
    go e = grind arith
ready_at c v w (inr (inr (old, new, s))) = rw new (go s)
  where
    go : changes_kind c ≡ true → is_ready_value c Empty ≡ true
    go s = grind arith

-- a step does one unit of work
pub work_step : (c : Change) (v w : Value) → same_value c.old c.new ≡ false → same_value v w ≡ false → IsStep c v w → work_at c v ≡ work_at c w + 1
work_step c v w changes moves (inl (old, new, s)) =
    units_one _ _ (changes_kind c) _ _ (ap (λ x. same_value x c.new) old ∙ changes) s (same_value_at w c.new new)
  where
    units_one : (a b s a' b' : Bool) → a ≡ false → s ≡ false → a' ≡ true → work_units a b s ≡ work_units a' b' s + 1
    units_one a b s a' b' x y z = grind arith
work_step c v w changes moves (inr (inl (old, new))) =
    units_empty _ _ (changes_kind c) _ _ (ap (same_value v) (sym new) ∙ moves) (ap (λ x. same_value x c.old && changes_kind c) old ∙ no_swap c.old c.new) (same_value_at w c.new new)
  where
    units_empty : (a b s a' b' : Bool) → a ≡ false → (b && s) ≡ false → a' ≡ true → work_units a b s ≡ work_units a' b' s + 1
    units_empty a b s a' b' x y z = grind arith

    no_swap : (v w : Value) → (same_value Empty v && (not (is_empty v) && (not (is_empty w) && (if is_dir v then not (is_dir w) else is_dir w)))) ≡ false
    no_swap Empty w = refl
    no_swap (Dir l) w = refl
    no_swap (File b) w = refl
work_step c v w changes moves (inr (inr (old, new, s))) =
    units_two _ _ (changes_kind c) _ _ (ap (λ x. same_value x c.new) old ∙ changes) (same_value_at v c.old old) s (ap (λ x. same_value x c.new) new ∙ full c.old c.new s) (ap (λ x. same_value x c.old) new ∙ full' c.old c.new s)
  where
    units_two : (a b s a' b' : Bool) → a ≡ false → b ≡ true → s ≡ true → a' ≡ false → b' ≡ false → work_units a b s ≡ work_units a' b' s + 1
    units_two a b s a' b' x y z u t = grind arith

    full : (v w : Value) → (not (is_empty v) && (not (is_empty w) && (if is_dir v then not (is_dir w) else is_dir w))) ≡ true → same_value Empty w ≡ false
    full v w s = grind arith

    full' : (v w : Value) → (not (is_empty v) && (not (is_empty w) && (if is_dir v then not (is_dir w) else is_dir w))) ≡ true → same_value Empty v ≡ false
    full' v w s = grind arith

-- the work at other nodes stays
work_apart : (t : Holding) (p : Node) (w : Value) (cs : List Change) → command_at cs p ≡ None → work cs (put t p w) ≡ work cs t
work_apart t p w [] none = refl
work_apart t p w (c ∷ cs) none = go (work_apart t p w cs) none
  where
    go : (command_at cs p ≡ None → work cs (put t p w) ≡ work cs t) → command_at (c ∷ cs) p ≡ None → work (c ∷ cs) (put t p w) ≡ work (c ∷ cs) t
    go ih none = grind (arith, same_path_is, same_path_at)

-- one step makes one unit of work less
pub work_less : (t : Holding) (p : Node) (c : Change) (w : Value) (cs : List Change) → one_each cs ≡ true → command_at cs p ≡ Some c → work_at c (t p) ≡ work_at c w + 1 → work cs t ≡ work cs (put t p w) + 1
work_less t p c w [] one at less = cc
work_less t p c w (d ∷ cs) one at less = go (is_or_not (same_path p d.node)) (λ h. work_less t p c w cs h)
  where
    rest_one : (is_none (command_at cs d.node) ≡ true) × (one_each cs ≡ true)
    rest_one = both _ _ one

    moved : (x y m n : ℕ) → x ≡ y + 1 → m ≡ n → x + n ≡ y + m + 1
    moved x y m n e f = omega arith

    stays : (x y m n : ℕ) → x ≡ y → m ≡ n + 1 → x + m ≡ y + n + 1
    stays x y m n e f = omega arith

    go : (same_path p d.node ≡ true) ⊎ (same_path p d.node ≡ false) → (one_each cs ≡ true → command_at cs p ≡ Some c → work_at c (t p) ≡ work_at c w + 1 → work cs t ≡ work cs (put t p w) + 1) →
        work (d ∷ cs) t ≡ work (d ∷ cs) (put t p w) + 1
    go (inl same) ih = moved _ _ _ _ here (work_apart t p w cs (none_is _ (ap (λ q. is_none (command_at cs q)) is ∙ rest_one.0)))
      where
        is : p ≡ d.node
        is = same_path_is p d.node same

        one_is : d ≡ c
        one_is = some_is (sym (ap (λ b. if b then Some d else command_at cs p) same) ∙ at)
          where
            some_is : Some d ≡ Some c → d ≡ c
            some_is e = cc

        none_is : (o : Option Change) → is_none o ≡ true → o ≡ None
        none_is None e = refl
        none_is (Some x) e = cc

        here : work_at d (t d.node) ≡ work_at d (put t p w d.node) + 1
        here = ap (λ q. work_at d (t q)) (sym is) ∙ subst (λ x. work_at x (t p) ≡ work_at x w + 1) (sym one_is) less ∙ ap (λ b. work_at d (if b then w else t d.node) + 1) (sym (same_path_at d.node p (sym is)))
    go (inr apart) ih = stays _ _ _ _ (ap (λ b. work_at d (if b then w else t d.node)) (sym (same_path_comm d.node p ∙ apart))) (ih rest_one.1 (sym (ap (λ b. if b then Some d else command_at cs p) apart) ∙ at) less)

-- another value at one node changes the work by that node's
pub work_moved : (t : Holding) (p : Node) (c : Change) (w : Value) (cs : List Change) → one_each cs ≡ true → command_at cs p ≡ Some c → work cs t + work_at c w ≡ work cs (put t p w) + work_at c (t p)
work_moved t p c w [] one at = cc
work_moved t p c w (d ∷ cs) one at = go (is_or_not (same_path p d.node)) (λ h. work_moved t p c w cs h)
  where
    rest_one : (is_none (command_at cs d.node) ≡ true) × (one_each cs ≡ true)
    rest_one = both _ _ one

    moved : (x y u v m n : ℕ) → x ≡ u → y ≡ v → m ≡ n → x + n + v ≡ y + m + u
    moved x y u v m n e f k = omega arith

    stays : (x y u v m n : ℕ) → x ≡ y → m + v ≡ n + u → x + m + v ≡ y + n + u
    stays x y u v m n e f = omega arith

    go : (same_path p d.node ≡ true) ⊎ (same_path p d.node ≡ false) → (one_each cs ≡ true → command_at cs p ≡ Some c → work cs t + work_at c w ≡ work cs (put t p w) + work_at c (t p)) →
        work (d ∷ cs) t + work_at c w ≡ work (d ∷ cs) (put t p w) + work_at c (t p)
    go (inl same) ih = moved _ _ _ _ _ _ here there (work_apart t p w cs (none_is _ (ap (λ q. is_none (command_at cs q)) is ∙ rest_one.0)))
      where
        is : p ≡ d.node
        is = same_path_is p d.node same

        one_is : d ≡ c
        one_is = some_is (sym (ap (λ b. if b then Some d else command_at cs p) same) ∙ at)
          where
            some_is : Some d ≡ Some c → d ≡ c
            some_is e = cc

        none_is : (o : Option Change) → is_none o ≡ true → o ≡ None
        none_is None e = refl
        none_is (Some x) e = cc

        here : work_at d (t d.node) ≡ work_at c (t p)
        here = subst (λ x. work_at x (t d.node) ≡ work_at c (t p)) (sym one_is) (ap (λ q. work_at c (t q)) (sym is))

        there : work_at d (put t p w d.node) ≡ work_at c w
        there = ap (λ b. work_at d (if b then w else t d.node)) (same_path_at d.node p (sym is)) ∙ subst (λ x. work_at x w ≡ work_at c w) (sym one_is) refl
    go (inr apart) ih = stays _ _ _ _ _ _ (ap (λ b. work_at d (if b then w else t d.node)) (sym (same_path_comm d.node p ∙ apart))) (ih rest_one.1 (sym (ap (λ b. if b then Some d else command_at cs p) apart) ∙ at))

-- A value at which one command of a set is ready, put at its node, leaves a tree that was ready ready, with the same target.
pub move_ready : (t : Holding) (cs : List Change) (p : Node) (c : Change) (w : Value) → IsReady t cs → command_at cs p ≡ Some c → is_ready_value c w ≡ true →
    IsReady (put t p w) cs × ((q : Node) → after cs (put t p w) q ≡ after cs t q)
move_ready t cs p c w ready at is_ready = (record { values = λ q d e. values q d (ready.values q d) is_ready e; tree = same_tree _ _ (λ q. sym (same q)) ready.tree }, same)
  where
    values : (q : Node) (d : Change) → (command_at cs q ≡ Some d → is_ready_value d (t q) ≡ true) → is_ready_value c w ≡ true → command_at cs q ≡ Some d → is_ready_value d (put t p w q) ≡ true
    values q d h g e = go (same_path q p) (same_path_is q p)
      where
        one_is : q ≡ p → c ≡ d
        one_is is = let both : command_at cs q ≡ Some c = ap (command_at cs) is ∙ at in some_is (sym both ∙ e)
          where
            some_is : Some c ≡ Some d → c ≡ d
            some_is e = cc

        go : (b : Bool) → (b ≡ true → q ≡ p) → is_ready_value d (if b then w else t q) ≡ true
        go true is = subst (λ x. is_ready_value x w ≡ true) (one_is (is refl)) g
        go false is = h e

    same : (q : Node) → after cs (put t p w) q ≡ after cs t q
    same q = grind (arith, same_path_is, at)

-- A step of one command of a set leaves a tree that was ready ready, with the same target.
pub step_ready : (t : Holding) (cs : List Change) (p : Node) (c : Change) (w : Value) → IsReady t cs → command_at cs p ≡ Some c → IsStep c (t p) w →
    IsReady (put t p w) cs × ((q : Node) → after cs (put t p w) q ≡ after cs t q)
step_ready t cs p c w ready at step = move_ready t cs p c w ready at (ready_at c (t p) w step)

-- A tree that a set fits is ready for it.
pub fits_ready : (t : Holding) (cs : List Change) → Fits t cs → IsReady t cs
fits_ready t cs fits = record { values = λ p c e. first _ _ (same_value_at (t p) c.old (fits.olds p c e)); tree = fits.tree }
  where
    first : (a b : Bool) → a ≡ true → (a || b) ≡ true
    first a b e = grind arith

not_true : (b : Bool) → not b ≡ true → b ≡ false
not_true true e = cc
not_true false e = refl

-- The law of one step: the tree is ready still, with the same target, and one unit of work less is left.
pub step_law : (x y : Holding) (cs : List Change) → one_each cs ≡ true → all_change cs ≡ true → IsReady x cs → (p : Node) (c : Change) → command_at cs p ≡ Some c →
    ((q : Node) → same_path q p ≡ false → y q ≡ x q) → (x p ≡ y p → ⊥) → IsStep c (x p) (y p) →
    IsReady y cs × (after cs y ≡ after cs x) × (work cs x ≡ work cs y + 1)
step_law x y cs one change ready p c at elsewhere moves step = (
  subst (λ u. IsReady u cs) same done.0,
  sym (ap (after cs) same) ∙ fun_ext done.1,
  work_less x p c (y p) cs one at (work_step c (x p) (y p) changes apart step) ∙ ap (λ u. work cs u + 1) same,
)
  where
    same : put x p (y p) ≡ y
    same = fun_ext (λ q. go q (same_path q p) (same_path_is q p) refl)
      where
        go : (q : Node) (b : Bool) → (b ≡ true → q ≡ p) → same_path q p ≡ b → (if b then y p else x q) ≡ y q
        go q true is e = ap y (sym (is refl))
        go q false is e = sym (elsewhere q e)

    done : IsReady (put x p (y p)) cs × ((q : Node) → after cs (put x p (y p)) q ≡ after cs x q)
    done = step_ready x cs p c (y p) ready at step

    changes : same_value c.old c.new ≡ false
    changes = not_true (same_value c.old c.new) (list_all-at is_change cs change p c at)

    apart : same_value (x p) (y p) ≡ false
    apart = go (same_value (x p) (y p)) (same_value_is (x p) (y p))
      where
        go : (b : Bool) → (b ≡ true → x p ≡ y p) → b ≡ false
        go true f = absurd (moves (f refl))
        go false f = refl
