-- What the log did and the merger does not, and what the merger does and the log did not, are the transition.
use Rattle.std.proofs.Common.{◌≡◌, Bool, true, false, not, List, [], ◌∷◌, ◌++◌, append_assoc, Option, Some, None, refl, sym, ap, ◌∙◌, arith}
use Rattle.std.specs.Prelude.{if◌then◌else◌, is_some, is_none}
use Rattle.std.specs.List.{filter, flat_map}
use Rattle.sync_path.specs.Paths.{Node, same_path}
use Rattle.sync_path.proofs.CallerLemmas.{both, same_path_is, same_path_refl}
use Rattle.sync_command.specs.declared.values.Value.{Value}
use Rattle.sync_command.specs.Values.{same_value}
use Rattle.sync_command.specs.Changes.{Change, is_change}
use Rattle.sync_command.specs.Trees.{Holding, command_at, new_or, one_each, Fits}
use Rattle.sync_command.proofs.CallerLemmas.{command_at-node, passing, command_at-filter, one_each-filter}
use Rattle.transition.specs.Transitions.{transition}
use Rattle.transition.specs.Parts.{difference, undone, is_missing}
use Rattle.transition.proofs.TransitionLaws.{difference_by, transition_by}

-- ---- one node's command before others

abbrev pub change_unless : Node → Value → Value → Option Change → Option Change
change_unless p v w o = if same_value v w then o else Some (record { node = p; old = v; new = w })

command_at-difference : (q : Node) (v w : Value) (rest : List Change) (p : Node) → command_at (difference q v w ++ rest) p ≡ if same_path p q then change_unless q v w (command_at rest p) else command_at rest p
command_at-difference q v w rest p = go (same_value v w) (same_path p q)
  where
    go : (s b : Bool) → command_at ((if s then [] else record { node = q; old = v; new = w } ∷ []) ++ rest) p ≡ if same_path p q then (if s then command_at rest p else Some (record { node = q; old = v; new = w })) else command_at rest p
    go s b = grind arith

one_each-difference : (q : Node) (v w : Value) (rest : List Change) → is_none (command_at rest q) ≡ true → one_each rest ≡ true → one_each (difference q v w ++ rest) ≡ true
one_each-difference q v w rest none one = go (same_value v w)
  where
    go : (s : Bool) → one_each ((if s then [] else record { node = q; old = v; new = w } ∷ []) ++ rest) ≡ true
    go s = grind arith

-- ---- the two parts

module _ (ms : List Change) where
  abbrev pub undone_or : Option Change → Option Change → Option Change
  undone_or None o = o
  undone_or (Some c) o = change_unless c.node c.new (new_or (command_at ms c.node) c.old) o

  -- the command at a node of what is undone, before a rest
  pub command_at-undone : (ns rest : List Change) → one_each ns ≡ true → (p : Node) → command_at (flat_map (undone ms) ns ++ rest) p ≡ undone_or (command_at ns p) (command_at rest p)
  command_at-undone [] rest one p = refl
  command_at-undone (c ∷ ns) rest one p =
      let h = both (is_none (command_at ns c.node)) (one_each ns) one in
      ap (λ l. command_at l p) (append_assoc (undone ms c) (flat_map (undone ms) ns) rest)
      ∙ command_at-difference c.node c.new (new_or (command_at ms c.node) c.old) (flat_map (undone ms) ns ++ rest) p
      ∙ go (same_path p c.node) (same_path_is p c.node) h.0 (command_at-undone ns rest h.1 p)
    where
      none_is : (o : Option Change) → is_none o ≡ true → o ≡ None
      none_is None e = refl
      none_is (Some d) e = cc (e)

      go : (b : Bool) → (b ≡ true → p ≡ c.node) → is_none (command_at ns c.node) ≡ true → command_at (flat_map (undone ms) ns ++ rest) p ≡ undone_or (command_at ns p) (command_at rest p) →
          (if b then change_unless c.node c.new (new_or (command_at ms c.node) c.old) (command_at (flat_map (undone ms) ns ++ rest) p) else command_at (flat_map (undone ms) ns ++ rest) p) ≡
          undone_or (if b then Some c else command_at ns p) (command_at rest p)
      go false is none ih = ih
      go true is none ih = ap (change_unless c.node c.new (new_or (command_at ms c.node) c.old)) (ih ∙ ap (λ o. undone_or o (command_at rest p)) (ap (command_at ns) (is refl) ∙ none_is _ none))

  pub one_each-undone : (ns rest : List Change) → one_each ns ≡ true → one_each rest ≡ true → ((p : Node) → is_some (command_at ns p) ≡ true → is_none (command_at rest p) ≡ true) → one_each (flat_map (undone ms) ns ++ rest) ≡ true
  one_each-undone [] rest one other apart = other
  one_each-undone (c ∷ ns) rest one other apart =
      let h = both (is_none (command_at ns c.node)) (one_each ns) one in
      ap one_each (append_assoc (undone ms c) (flat_map (undone ms) ns) rest)
      ∙ one_each-difference c.node c.new (new_or (command_at ms c.node) c.old) (flat_map (undone ms) ns ++ rest)
      (ap is_none (command_at-undone ns rest h.1 c.node) ∙ none_or (command_at ns c.node) (command_at rest c.node) h.0 (apart c.node own))
      (one_each-undone ns rest h.1 other (λ p e. apart p (later p (command_at ns p) (same_path p c.node) e)))
    where
      own : is_some (command_at (c ∷ ns) c.node) ≡ true
      own = ap (λ b. is_some (if b then Some c else command_at ns c.node)) (same_path_refl c.node)

      none_or : (o r : Option Change) → is_none o ≡ true → is_none r ≡ true → is_none (undone_or o r) ≡ true
      none_or None r e f = f
      none_or (Some d) r e f = cc (e)

      later : (p : Node) (o : Option Change) (b : Bool) → is_some o ≡ true → is_some (if b then Some c else o) ≡ true
      later p o true e = refl
      later p o false e = e

-- what the body puts together
abbrev pub parts : List Change → List Change → List Change
parts ns ms = flat_map (undone ms) ns ++ filter (is_missing ns) ms

missing_at : (ns ms : List Change) → one_each ms ≡ true → (p : Node) → command_at (filter (is_missing ns) ms) p ≡ if is_none (command_at ns p) then command_at ms p else None
missing_at ns ms one p = command_at-filter (is_missing ns) ms one p ∙ go (command_at ms p) (command_at-node ms p)
  where
    go : (o : Option Change) → ((d : Change) → o ≡ Some d → p ≡ d.node) → passing (is_missing ns) o ≡ if is_none (command_at ns p) then o else None
    go None is = none (is_none (command_at ns p))
      where
        none : (b : Bool) → ◌≡◌ {A = Option Change} None (if b then None else None)
        none true = refl
        none false = refl
    go (Some d) is = ap (λ q. if is_none (command_at ns q) then Some d else None) (sym (is d refl))

module _ (t : Holding) (ns ms : List Change) (first : one_each ns ≡ true) (held : (n : Node) (c : Change) → command_at ns n ≡ Some c → t n ≡ c.old) (fits : Fits t ms)
    (change : (n : Node) (d : Change) → command_at ms n ≡ Some d → is_change d ≡ true) where
  pub one_each-parts : one_each (parts ns ms) ≡ true
  one_each-parts = one_each-undone ms ns (filter (is_missing ns) ms) first (one_each-filter (is_missing ns) ms fits.one)
      (λ p e. ap is_none (missing_at ns ms fits.one p) ∙ go (command_at ns p) (command_at ms p) e)
    where
      go : (o r : Option Change) → is_some o ≡ true → is_none (if is_none o then r else None) ≡ true
      go None r e = cc (e)
      go (Some c) r e = refl

  pub parts_at : (p : Node) → command_at (parts ns ms) p ≡ command_at (transition t ns ms) p
  parts_at p = command_at-undone ms ns (filter (is_missing ns) ms) first p ∙ ap (undone_or ms (command_at ns p)) (missing_at ns ms fits.one p)
      ∙ go (command_at ns p) (command_at ms p) (λ c e. (command_at-node ns p c e, held p c e)) (λ d e. (command_at-node ms p d e, fits.olds p d e)) (change p) refl
      ∙ sym (transition_by t ns ms p)
    where
      if_kept : (s : Bool) (c : Change) → (if s then None else Some c) ≡ (if not s then Some c else None)
      if_kept true c = refl
      if_kept false c = refl

      added : (d : Change) → p ≡ d.node → t p ≡ d.old → is_change d ≡ true → Some d ≡ difference_by t p None (Some d)
      added d here old changed = sym ((λ i. if not (same_value (old i) d.new) then Some (record { node = here i; old = old i; new = d.new }) else None) ∙ ap (λ b. if b then Some d else None) changed)

      turned : (c : Change) (r : Option Change) → p ≡ c.node → t p ≡ c.old → command_at ms p ≡ r → undone_or ms (Some c) None ≡ difference_by t p (Some c) r
      turned c r here old is =
          (λ i. change_unless (sym here i) c.new (goal i) None) ∙ if_kept (same_value c.new (new_or r (t p))) (record { node = p; old = c.new; new = new_or r (t p) })
        where
          goal : new_or (command_at ms c.node) c.old ≡ new_or r (t p)
          goal = ap (λ q. new_or (command_at ms q) c.old) (sym here) ∙ ap (new_or (command_at ms p)) (sym old) ∙ ap (λ o. new_or o (t p)) is

      go : (o r : Option Change) → ((c : Change) → o ≡ Some c → (p ≡ c.node) × (t p ≡ c.old)) → ((d : Change) → r ≡ Some d → (p ≡ d.node) × (t p ≡ d.old)) → ((d : Change) → r ≡ Some d → is_change d ≡ true) → command_at ms p ≡ r →
          undone_or ms o (if is_none o then r else None) ≡ difference_by t p o r
      go None None own other changed is = refl
      go None (Some d) own other changed is = let h = other d refl in added d h.0 h.1 (changed d refl)
      go (Some c) r own other changed is = let h = own c refl in turned c r h.0 h.1 is
