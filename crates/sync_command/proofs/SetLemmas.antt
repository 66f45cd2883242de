-- Lists and sets of commands: what they name, what is left of them, and their inverses.
use Rattle.std.proofs.Common.{◌≡◌, Bool, true, false, not, List, [], ◌∷◌, Option, Some, None, refl, sym, ap, ◌∙◌, arith}
use Rattle.std.specs.Prelude.{if◌then◌else◌, map}
use Rattle.std.specs.List.{filter, list_all}
use Rattle.std.specs.Option.{option_map}
use Rattle.sync_path.specs.Paths.{Node, same_path}
use Rattle.sync_path.proofs.CallerLemmas.{same_path_at, same_path_is, same_path_refl}
use Rattle.sync_command.specs.Changes.{Change, inverse, is_change}
use Rattle.sync_command.specs.Trees.{Fits, Holding, IsTree, after, command_at, is_apart, new_or, one_each}
use Rattle.sync_command.specs.Values.{same_value}
use Rattle.sync_command.proofs.TreeLemmas.{same_tree}
use Rattle.sync_command.proofs.ValueLemmas.{same_value_is}

-- ---- the command at a node

-- what is found at a node is a command of that node
pub command_at-node : (cs : List Change) (p : Node) (d : Change) → command_at cs p ≡ Some d → p ≡ d.node
command_at-node [] p d e = cc
command_at-node (c ∷ cs) p d e = step (command_at-node cs p d) e
  where
    step : (command_at cs p ≡ Some d → p ≡ d.node) → command_at (c ∷ cs) p ≡ Some d → p ≡ d.node
    step ih e = grind (arith, same_path_is)

pub here : (c : Change) (cs : List Change) → command_at (c ∷ cs) c.node ≡ Some c
here c cs = ap (λ b. if b then Some c else command_at cs c.node) (same_path_refl c.node)

-- what holds of all commands holds of the one at a node
pub list_all-at : (f : Change → Bool) (cs : List Change) → list_all f cs ≡ true → (p : Node) (d : Change) → command_at cs p ≡ Some d → f d ≡ true
list_all-at f [] all p d e = cc
list_all-at f (c ∷ cs) all p d e = step (λ h. list_all-at f cs h p d) all e
  where
    step : (list_all f cs ≡ true → command_at cs p ≡ Some d → f d ≡ true) → list_all f (c ∷ cs) ≡ true → command_at (c ∷ cs) p ≡ Some d → f d ≡ true
    step ih all e = grind arith

both_none : (b : Bool) → ◌≡◌ {A = Option Change} None (if b then None else None)
both_none true = refl
both_none false = refl

-- without the commands of one node
pub command_at-apart : (q : Node) (cs : List Change) (p : Node) → command_at (filter (is_apart q) cs) p ≡ if same_path p q then None else command_at cs p
command_at-apart q [] p = both_none (same_path p q)
command_at-apart q (c ∷ cs) p = let ih = command_at-apart q cs p in step q c (filter (is_apart q) cs) cs p ih
  where
    step : (q : Node) (c : Change) (ks cs : List Change) (p : Node) → command_at ks p ≡ (if same_path p q then None else command_at cs p) →
        command_at (if not (same_path q c.node) then c ∷ ks else ks) p ≡ if same_path p q then None else command_at (c ∷ cs) p
    step q c ks cs p ih = grind (arith, same_path_is, same_path_at)

-- ---- the commands that pass a test

-- what is left of a look-up where the test passes
abbrev pub passing : (Change → Bool) → Option Change → Option Change
passing f None = None
passing f (Some c) = if f c then Some c else None

pub passing-is : (f : Change → Bool) (o : Option Change) (d : Change) → passing f o ≡ Some d → o ≡ Some d
passing-is f o d e = grind arith

pub command_at-filter : (f : Change → Bool) (cs : List Change) → one_each cs ≡ true → (p : Node) → command_at (filter f cs) p ≡ passing f (command_at cs p)
command_at-filter f [] one p = refl
command_at-filter f (c ∷ cs) one p = step (filter f cs) (λ h. command_at-filter f cs h) one
  where
    step : (ks : List Change) → (one_each cs ≡ true → (q : Node) → command_at ks q ≡ passing f (command_at cs q)) → one_each (c ∷ cs) ≡ true →
        command_at (if f c then c ∷ ks else ks) p ≡ passing f (command_at (c ∷ cs) p)
    step ks ih one = grind (arith, same_path_is, same_path_at)

pub one_each-filter : (f : Change → Bool) (cs : List Change) → one_each cs ≡ true → one_each (filter f cs) ≡ true
one_each-filter f [] one = refl
one_each-filter f (c ∷ cs) one = step (filter f cs) (one_each-filter f cs) (λ h. command_at-filter f cs h c.node) one
  where
    step : (ks : List Change) → (one_each cs ≡ true → one_each ks ≡ true) → (one_each cs ≡ true → command_at ks c.node ≡ passing f (command_at cs c.node)) → one_each (c ∷ cs) ≡ true →
        one_each (if f c then c ∷ ks else ks) ≡ true
    step ks ih none one = grind arith

-- a command that leaves what it found need not be there
pub after-changes : (t : Holding) (p : Node) (o : Option Change) → ((d : Change) → o ≡ Some d → t p ≡ d.old) → new_or (passing is_change o) (t p) ≡ new_or o (t p)
after-changes t p None olds = refl
after-changes t p (Some d) olds = step (same_value d.old d.new) (same_value_is d.old d.new) (olds d refl)
  where
    step : (b : Bool) → (b ≡ true → d.old ≡ d.new) → t p ≡ d.old → new_or (if not b then Some d else None) (t p) ≡ d.new
    step true is old = old ∙ is refl
    step false is old = refl

-- ---- sets that fit

-- of two lists with the same commands each fits where the other does
pub same_fits : (t : Holding) (cs ds : List Change) → one_each ds ≡ true → ((p : Node) → command_at cs p ≡ command_at ds p) → Fits t cs → Fits t ds
same_fits t cs ds one same fits = record {
  one = one;
  olds = λ n c e. fits.olds n c (same n ∙ e);
  tree = same_tree _ _ (λ p. ap (λ o. new_or o (t p)) (same p)) fits.tree;
}

-- ---- inverses

pub command_at-inverse : (cs : List Change) (p : Node) → command_at (map inverse cs) p ≡ option_map inverse (command_at cs p)
command_at-inverse [] p = refl
command_at-inverse (c ∷ cs) p = step (command_at-inverse cs p)
  where
    step : command_at (map inverse cs) p ≡ option_map inverse (command_at cs p) → command_at (map inverse (c ∷ cs)) p ≡ option_map inverse (command_at (c ∷ cs) p)
    step ih = grind arith

pub one_each-inverse : (cs : List Change) → one_each (map inverse cs) ≡ one_each cs
one_each-inverse [] = refl
one_each-inverse (c ∷ cs) = step (one_each-inverse cs) (command_at-inverse cs c.node)
  where
    step : one_each (map inverse cs) ≡ one_each cs → command_at (map inverse cs) c.node ≡ option_map inverse (command_at cs c.node) → one_each (map inverse (c ∷ cs)) ≡ one_each (c ∷ cs)
    step ih at = grind arith

-- with all the old values again, the set's result is what it was
pub back_again : (t : Holding) (cs : List Change) → Fits t cs → (p : Node) → after (map inverse cs) (after cs t) p ≡ t p
back_again t cs fits p = ap (λ o. new_or o (new_or (command_at cs p) (t p))) (command_at-inverse cs p) ∙ go (command_at cs p) (λ c. fits.olds p c)
  where
    go : (o : Option Change) → ((c : Change) → o ≡ Some c → t p ≡ c.old) → new_or (option_map inverse o) (new_or o (t p)) ≡ t p
    go None olds = refl
    go (Some c) olds = sym (olds c refl)

-- the inverse of a set fits the set's result
pub inverse_fits : (t : Holding) (cs : List Change) → IsTree t → Fits t cs → Fits (after cs t) (map inverse cs)
inverse_fits t cs tree fits = record {
  one = one_each-inverse cs ∙ fits.one;
  olds = λ n c e. olds n c (command_at cs n) (sym (command_at-inverse cs n) ∙ e);
  tree = same_tree t _ (λ p. sym (back_again t cs fits p)) tree;
}
  where
    olds : (n : Node) (c : Change) (o : Option Change) → option_map inverse o ≡ Some c → new_or o (t n) ≡ c.old
    olds n c None e = cc
    olds n c (Some d) e = go e
      where
        go : Some (inverse d) ≡ Some c → d.new ≡ c.old
        go e = cc
