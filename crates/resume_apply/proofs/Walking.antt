-- The walk over a whole set: what holds before each command, and that each command can be done.
use Rattle.std.proofs.Common.{◌≡◌, ◌≤◌, ◌<◌, ◌⊎◌, inl, inr, ℕ, zero, suc, ◌+◌, Bool, true, false, not, ◌&&◌, ◌||◌, List, [], ◌∷◌, Option, Some, None, Ok, Err, refl, sym, ap, subst, ◌∙◌, arith, IfOk, IsErrOf, drop, length, get_or}
use mathlib.Core.Path.{fun_ext}
use Rattle.std.specs.Prelude.{if◌then◌else◌, is_none}
use Rattle.std.specs.List.{list_all}
use Rattle.std.specs.declared.result.Result.{Result}
use Rattle.sync_path.specs.Paths.{Node, comes_before, parent, same_path}
use Rattle.sync_command.specs.declared.values.Value.{Value}
use Rattle.sync_command.specs.declared.values.Value.TheVariants.{Empty, Dir, File}
use Rattle.sync_command.specs.Values.{is_dir, is_empty, same_value}
use Rattle.sync_command.specs.Changes.{Change, goes_before, is_canonical, is_down}
use Rattle.sync_command.specs.Trees.{Holding, IsTree, after, command_at, new_or, one_each, put}
use Rattle.sync_command.specs.Maps.{IsTreeMap, Store, at}
use Rattle.canon_set.specs.Sets.{IsFitting}
use Rattle.sync_path.proofs.CallerLemmas.{before_asym, both, parent_apart, parent_before, same_path_comm, same_path_is, same_path_refl}
use Rattle.sync_command.proofs.CallerLemmas.{command_at-node, full_from_dir, list_all-at, same_value_at, same_value_is}
use Rattle.apply_model.specs.Parents.{IsBelowDir}
use Rattle.tree_port.specs.Conditions.{HasNoChild}
use Rattle.resume_apply.specs.Ready.{IsOnItsWay, IsReady, changes_kind, is_ready_value, work, work_at, work_units}
use Rattle.resume_apply.specs.Finishing.{CanDo, IsMoved}
use Rattle.resume_apply.proofs.CallerLemmas.{move_ready, work_moved}

-- ---- a set and what is left of it

-- a command of what is left of a set is one of the set
pub of_rest : (i : ℕ) (cs : List Change) → one_each cs ≡ true → (p : Node) (d : Change) → command_at (drop i cs) p ≡ Some d → command_at cs p ≡ Some d
of_rest zero cs one p d e = e
of_rest (suc i) [] one p d e = e
of_rest (suc i) (c ∷ cs) one p d e = step (of_rest i cs (both _ _ one).1 p d e) (same_path p c.node) (same_path_is p c.node)
  where
    none_is : (o : Option Change) → is_none o ≡ true → o ≡ None
    none_is None e = refl
    none_is (Some x) e = cc

    step : command_at cs p ≡ Some d → (b : Bool) → (b ≡ true → p ≡ c.node) → (if b then Some c else command_at cs p) ≡ Some d
    step h false is = h
    step h true is = let gone : command_at cs c.node ≡ None = none_is _ (both _ _ one).0 in let here : command_at cs p ≡ None = ap (command_at cs) (is refl) ∙ gone in cc (here, h)

pub canonical_rest : (i : ℕ) (cs : List Change) → is_canonical cs ≡ true → is_canonical (drop i cs) ≡ true
canonical_rest zero cs order = order
canonical_rest (suc i) [] order = order
canonical_rest (suc i) (c ∷ cs) order = canonical_rest i cs (both _ _ order).1

command_here : (c : Change) (cs : List Change) → command_at (c ∷ cs) c.node ≡ Some c
command_here c cs = ap (λ b. if b then Some c else command_at cs c.node) (same_path_refl c.node)

command_on : (c : Change) (cs : List Change) (p : Node) → same_path p c.node ≡ false → command_at (c ∷ cs) p ≡ command_at cs p
command_on c cs p apart = ap (λ b. if b then Some c else command_at cs p) apart

after_at : (cs : List Change) (t : Holding) (p : Node) (c : Change) → command_at cs p ≡ Some c → after cs t p ≡ c.new
after_at cs t p c e = ap (λ o. new_or o (t p)) e

after_none : (cs : List Change) (t : Holding) (p : Node) → command_at cs p ≡ None → after cs t p ≡ t p
after_none cs t p e = ap (λ o. new_or o (t p)) e

-- ---- the next command can be done

no_both : (b : Bool) → b ≡ true → b ≡ false → ⊥
no_both b e f = cc

-- where a directory becomes a directory, a ready node holds one
ready_dir : (d : Change) (v : Value) → is_dir d.old ≡ true → is_dir d.new ≡ true → is_ready_value d v ≡ true → is_dir v ≡ true
ready_dir d v old new ready = go (same_value v d.old) (same_value v d.new) (changes_kind d) (same_value_is v d.old) (same_value_is v d.new) flat ready
  where
    flat_of : (a b e f : Bool) → b ≡ true → f ≡ true → (not a && (not e && (if b then not f else f))) ≡ false
    flat_of a b e f h g = grind arith

    flat : changes_kind d ≡ false
    flat = flat_of (is_empty d.old) (is_dir d.old) (is_empty d.new) (is_dir d.new) old new

    go : (a b k : Bool) → (a ≡ true → v ≡ d.old) → (b ≡ true → v ≡ d.new) → k ≡ false → (a || (b || (k && is_empty v))) ≡ true → is_dir v ≡ true
    go true b k f g flat h = ap is_dir (f refl) ∙ old
    go false true k f g flat h = ap is_dir (g refl) ∙ new
    go false false k f g flat h = absurd (no_both (k && is_empty v) h (ap (λ b. b && is_empty v) flat))

down_not_dir : (c : Change) → is_down c ≡ true → is_dir c.new ≡ false
down_not_dir c down = go c.new (is_dir c.old) down
  where
    go : (v : Value) (a : Bool) → (is_empty v || (a && not (is_dir v))) ≡ true → is_dir v ≡ false
    go Empty a e = refl
    go (Dir l) a e = grind arith
    go (File b) a e = refl

dir_not_down : (d : Change) → is_dir d.new ≡ true → is_down d ≡ false
dir_not_down d dir = go d.new (is_dir d.old) dir
  where
    go : (v : Value) (a : Bool) → is_dir v ≡ true → (is_empty v || (a && not (is_dir v))) ≡ false
    go Empty a e = cc
    go (Dir l) a e = grind arith
    go (File b) a e = cc

down_from_dir : (c : Change) → is_down c ≡ true → is_empty c.new ≡ false → is_dir c.old ≡ true
down_from_dir c down some = go (is_empty c.new) (is_dir c.old) (is_dir c.new) down some
  where
    go : (e a b : Bool) → (e || (a && not b)) ≡ true → e ≡ false → a ≡ true
    go e a b h f = grind arith

-- of two commands one of which goes before the other
order_flat : (c d : Change) → goes_before c d ≡ true → is_down c ≡ false → is_down d ≡ false → comes_before c.node d.node ≡ true
order_flat c d h e f = go (is_down c) (is_down d) (comes_before d.node c.node) (comes_before c.node d.node) h e f
  where
    go : (a b x y : Bool) → (if a then (if b then x else true) else (if b then false else y)) ≡ true → a ≡ false → b ≡ false → y ≡ true
    go a b x y h e f = grind arith

order_down : (c d : Change) → goes_before c d ≡ true → is_down c ≡ true → is_down d ≡ true → comes_before d.node c.node ≡ true
order_down c d h e f = go (is_down c) (is_down d) (comes_before d.node c.node) (comes_before c.node d.node) h e f
  where
    go : (a b x y : Bool) → (if a then (if b then x else true) else (if b then false else y)) ≡ true → a ≡ true → b ≡ true → x ≡ true
    go a b x y h e f = grind arith

pub can_do : (cs rest : List Change) (c : Change) (n : Holding) → IsTree n → IsReady n cs → IsFitting cs → ((p : Node) (d : Change) → command_at (c ∷ rest) p ≡ Some d → command_at cs p ≡ Some d) →
    list_all (goes_before c) rest ≡ true → ((p : Node) → command_at (c ∷ rest) p ≡ None → n p ≡ after cs n p) → CanDo c n
can_do cs rest c n tree ready fitting sub order done = record { value = ready.values c.node c at_c; below = below; last = last }
  where
    at_c : command_at cs c.node ≡ Some c
    at_c = sub c.node c (command_here c rest)

    -- a command that is left at another node goes behind
    later : (p : Node) (d : Change) → same_path p c.node ≡ false → command_at (c ∷ rest) p ≡ Some d → (p ≡ d.node) × (goes_before c d ≡ true)
    later p d apart e = let r : command_at rest p ≡ Some d = sym (command_on c rest p apart) ∙ e in (command_at-node rest p d r, list_all-at (goes_before c) rest order p d r)

    below : is_empty c.new ≡ false → IsBelowDir n c.node
    below some q e = go (command_at (c ∷ rest) q) refl
      where
        dir : is_dir (after cs n q) ≡ true
        dir = ready.tree q c.node e (ap is_empty (after_at cs n c.node c at_c) ∙ some)

        go : (o : Option Change) → command_at (c ∷ rest) q ≡ o → is_dir (n q) ≡ true
        go None h = ap is_dir (done q h) ∙ dir
        go (Some d) h = kind (is_down c) refl
          where
            new : is_dir d.new ≡ true
            new = sym (ap is_dir (after_at cs n q d (sub q d h))) ∙ dir

            behind : (q ≡ d.node) × (goes_before c d ≡ true)
            behind = later q d (parent_apart q c.node e) h

            kind : (b : Bool) → is_down c ≡ b → is_dir (n q) ≡ true
            kind true down = ready_dir d (n q) old new (ready.values q d (sub q d h))
              where
                old : is_dir d.old ≡ true
                old = sym (ap is_dir (fitting.fits.olds q d (sub q d h))) ∙
                    fitting.tree.tree q c.node e (ap is_empty (fitting.fits.olds c.node c at_c) ∙ full_from_dir c.old (down_from_dir c down some))
            kind false flat = absurd (no_both (comes_before c.node q) (ap (comes_before c.node) behind.0 ∙ order_flat c d behind.1 flat (dir_not_down d new)) (before_asym q c.node (parent_before q c.node e)))

    last : is_down c ≡ true → HasNoChild n c.node
    last down p e = go (command_at (c ∷ rest) p) refl
      where
        bare : (b : Bool) → is_empty (after cs n p) ≡ b → b ≡ true
        bare true h = refl
        bare false h = absurd (no_both (is_dir c.new) (sym (ap is_dir (after_at cs n c.node c at_c)) ∙ ready.tree c.node p e h) (down_not_dir c down))

        empty : is_empty (after cs n p) ≡ true
        empty = bare (is_empty (after cs n p)) refl

        go : (o : Option Change) → command_at (c ∷ rest) p ≡ o → is_empty (n p) ≡ true
        go None h = ap is_empty (done p h) ∙ empty
        go (Some d) h = absurd (no_both (comes_before p c.node) (ap (λ q. comes_before q c.node) behind.0 ∙ order_down c d behind.1 down down_too) (before_asym c.node p (parent_before c.node p e)))
          where
            behind : (p ≡ d.node) × (goes_before c d ≡ true)
            behind = later p d (same_path_comm p c.node ∙ parent_apart c.node p e) h

            down_too : is_down d ≡ true
            down_too = ap (λ b. b || (is_dir d.old && not (is_dir d.new))) (sym (ap is_empty (after_at cs n p d (sub p d h))) ∙ empty)

-- ---- one command done, or refused

-- between two commands: on its way, and outside what is left of the set the tree is the target
pub record IsWalking (cs rest : List Change) (changes : ℕ) (m n : Holding) : Type 0 where
  pub way : IsOnItsWay cs m n
  pub left : changes + work cs n ≡ work cs m
  pub done : (p : Node) → command_at rest p ≡ None → n p ≡ after cs n p

pub begins : (cs : List Change) (m : Holding) → IsReady m cs → IsWalking cs cs 0 m m
begins cs m ready = record {
  way = record { ready = ready; target = refl; elsewhere = λ p e. refl };
  left = nothing (work cs m);
  done = λ p e. sym (after_none cs m p e);
}
  where
    nothing : (x : ℕ) → 0 + x ≡ x
    nothing x = omega arith

-- a move at the node of one command of the set
pub moved_way : (cs : List Change) (c : Change) (m n o : Holding) → command_at cs c.node ≡ Some c → IsOnItsWay cs m n → IsMoved c n o → IsOnItsWay cs m o
moved_way cs c m n o at_c way moved = record {
  ready = subst (λ t. IsReady t cs) (sym moved.there) next.0;
  target = ap (after cs) moved.there ∙ fun_ext next.1 ∙ way.target;
  elsewhere = λ p e. ap (λ t. t p) moved.there ∙ apart p e (same_path p c.node) (same_path_is p c.node) ∙ way.elsewhere p e;
}
  where
    next : IsReady (put n c.node (o c.node)) cs × ((q : Node) → after cs (put n c.node (o c.node)) q ≡ after cs n q)
    next = move_ready n cs c.node c (o c.node) way.ready at_c moved.value

    apart : (p : Node) → command_at cs p ≡ None → (b : Bool) → (b ≡ true → p ≡ c.node) → (if b then o c.node else n p) ≡ n p
    apart p e false is = refl
    apart p e true is = let here : command_at cs p ≡ Some c = ap (command_at cs) (is refl) ∙ at_c in cc (here, e)

pub moved_work : (cs : List Change) (c : Change) (n o : Holding) → one_each cs ≡ true → command_at cs c.node ≡ Some c → IsMoved c n o → work cs n + work_at c (o c.node) ≡ work cs o + work_at c (n c.node)
moved_work cs c n o one at_c moved = work_moved n c.node c (o c.node) cs one at_c ∙ ap (λ t. work cs t + work_at c (n c.node)) (sym moved.there)

-- the command done
pub walks : (cs rest : List Change) (c : Change) (changes k : ℕ) (m n o : Holding) → one_each cs ≡ true → command_at cs c.node ≡ Some c → IsWalking cs (c ∷ rest) changes m n → IsMoved c n o →
    o c.node ≡ c.new → k ≡ work_at c (n c.node) → work_at c (o c.node) ≡ 0 → IsWalking cs rest (changes + k) m o
walks cs rest c changes k m n o one at_c walk moved new all none = record {
  way = way;
  left = counted _ _ _ _ _ _ _ (moved_work cs c n o one at_c moved) walk.left all none;
  done = λ p e. go p e (same_path p c.node) refl;
}
  where
    way : IsOnItsWay cs m o
    way = moved_way cs c m n o at_c walk.way moved

    counted : (wn wo a b z x y : ℕ) → wn + a ≡ wo + b → x + wn ≡ z → y ≡ b → a ≡ 0 → (x + y) + wo ≡ z
    counted wn wo a b z x y e f g h = omega arith

    same_after : after cs o ≡ after cs n
    same_after = way.target ∙ sym walk.way.target

    go : (p : Node) → command_at rest p ≡ None → (b : Bool) → same_path p c.node ≡ b → o p ≡ after cs o p
    go p e true s = let is : p ≡ c.node = same_path_is p c.node s in ap o is ∙ new ∙ sym (after_at cs o c.node c at_c) ∙ ap (after cs o) (sym is)
    go p e false s = ap (λ t. t p) moved.there ∙ ap (λ b. if b then o c.node else n p) s ∙ walk.done p (command_on c rest p s ∙ e) ∙ ap (λ t. t p) (sym same_after)

-- nothing left: the target, and no work
pub arrived : (cs : List Change) (changes : ℕ) (m n : Holding) → one_each cs ≡ true → IsWalking cs [] changes m n → (n ≡ after cs m) × (changes ≡ work cs m)
arrived cs changes m n one walk = (target, counted _ _ _ (no_work cs one (λ p d e. e)) walk.left)
  where
    counted : (w x y : ℕ) → w ≡ 0 → x + w ≡ y → x ≡ y
    counted w x y e f = omega arith

    target : n ≡ after cs m
    target = fun_ext (λ p. walk.done p refl) ∙ walk.way.target

    done_at : (d : Change) → command_at cs d.node ≡ Some d → work_at d (n d.node) ≡ 0
    done_at d e = ap (λ b. work_units b (same_value (n d.node) d.old) (changes_kind d)) (same_value_at (n d.node) d.new (walk.done d.node refl ∙ after_at cs n d.node d e))

    no_work : (ds : List Change) → one_each ds ≡ true → ((p : Node) (d : Change) → command_at ds p ≡ Some d → command_at cs p ≡ Some d) → work ds n ≡ 0
    no_work [] one sub = refl
    no_work (d ∷ ds) one sub = both_nothing _ _ (done_at d (sub d.node d (command_here d ds))) (no_work ds (both _ _ one).1 (λ p x e. sub p x (of_rest 1 (d ∷ ds) one p x e)))
      where
        both_nothing : (x y : ℕ) → x ≡ 0 → y ≡ 0 → x + y ≡ 0
        both_nothing x y e f = omega arith
