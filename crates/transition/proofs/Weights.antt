-- Sums over commands, as of the bytes of their lines: what subsets, net sets and commands at the nodes of others weigh.
use Rattle.std.proofs.Common.{◌≡◌, ℕ, ◌+◌, ◌≤◌, Bool, true, false, not, ◌&&◌, ◌||◌, List, [], ◌∷◌, ◌++◌, Option, Some, None, refl, sym, ap, subst, ◌∙◌, arith, length, map}
use Rattle.std.specs.Prelude.{if◌then◌else◌, is_none}
use Rattle.std.specs.List.{filter, sum_by}
use Rattle.std.proofs.lemmas.List.Sums.{sum_by-cons}
use Rattle.sync_path.specs.Paths.{Node, same_path}
use Rattle.sync_path.proofs.CallerLemmas.{both, same_path_is}
use Rattle.sync_command.specs.declared.values.Value.{Value}
use Rattle.sync_command.specs.Changes.{Change, inverse, is_change, same_change, goes_before}
use Rattle.sync_command.specs.Trees.{command_at, new_or, is_apart, one_each}
use Rattle.sync_command.proofs.CallerLemmas.{command_at-node, command_at-apart}
use Rattle.canon_set.specs.Logs.{net, touches}
use Rattle.canon_set.specs.Sets.{canonical, put_in}
use Rattle.refluent.specs.Sets.{is_in, IsSubset, differs_from}
use Rattle.refluent.specs.Drawn.{nets_in_turn}
use Rattle.refluent.proofs.CallerLemmas.{same_change_is, same_change_at, at_from_in, fewer, is_in-filter}

-- ---- sums

abbrev pub weigh : {X : Type 0} → (X → ℕ) → List X → ℕ
weigh f [] = 0
weigh f (x ∷ xs) = f x + weigh f xs

pub weigh_is : {X : Type 0} (f : X → ℕ) (xs : List X) → weigh f xs ≡ sum_by f xs
weigh_is f [] = refl
weigh_is f (x ∷ xs) = ap (λ n. f x + n) (weigh_is f xs) ∙ sym (sum_by-cons f x xs)

pub weigh-one : {X : Type 0} (xs : List X) → weigh (λ x. 1) xs ≡ length xs
weigh-one [] = refl
weigh-one (x ∷ xs) = omega (arith, weigh-one xs)

pub weigh-map : {X A : Type 0} (g : X → A) (f : A → ℕ) (xs : List X) → weigh f (map g xs) ≡ weigh (λ x. f (g x)) xs
weigh-map g f [] = refl
weigh-map g f (x ∷ xs) = ap (λ n. f (g x) + n) (weigh-map g f xs)

pub weigh-add : {X : Type 0} (f g : X → ℕ) (xs : List X) → weigh (λ x. f x + g x) xs ≡ weigh f xs + weigh g xs
weigh-add f g [] = refl
weigh-add f g (x ∷ xs) = omega (arith, weigh-add f g xs)

module _ (f : Change → ℕ) where
  weigh-append : (cs ds : List Change) → weigh f (cs ++ ds) ≡ weigh f cs + weigh f ds
  weigh-append [] ds = omega arith
  weigh-append (c ∷ cs) ds = omega (arith, weigh-append cs ds)

  pub weigh-both : (g : Change → Bool) (cs : List Change) → weigh f (filter g cs) + weigh f (filter (λ c. not (g c)) cs) ≡ weigh f cs
  weigh-both g [] = refl
  weigh-both g (c ∷ cs) = go (g c) (weigh-both g cs)
    where
      go : (b : Bool) → weigh f (filter g cs) + weigh f (filter (λ c. not (g c)) cs) ≡ weigh f cs →
          weigh f (if b then c ∷ filter g cs else filter g cs) + weigh f (if not b then c ∷ filter (λ c. not (g c)) cs else filter (λ c. not (g c)) cs) ≡ f c + weigh f cs
      go true ih = omega arith
      go false ih = omega arith

  weigh-filter : (g : Change → Bool) (cs : List Change) → weigh f (filter g cs) ≤ weigh f cs
  weigh-filter g cs = omega (arith, weigh-both g cs)

  abbrev pub weight : Option Change → ℕ
  weight None = 0
  weight (Some c) = f c

  -- what is left beside the command at a node, or beside a command, weighs as much less
  apart_from : (p : Node) (cs : List Change) → weight (command_at cs p) + weigh f (filter (is_apart p) cs) ≤ weigh f cs
  apart_from p [] = omega arith
  apart_from p (c ∷ cs) = go (same_path p c.node) (apart_from p cs) (weigh-filter (is_apart p) cs)
    where
      go : (b : Bool) → weight (command_at cs p) + weigh f (filter (is_apart p) cs) ≤ weigh f cs → weigh f (filter (is_apart p) cs) ≤ weigh f cs →
          weight (if b then Some c else command_at cs p) + weigh f (if not b then c ∷ filter (is_apart p) cs else filter (is_apart p) cs) ≤ f c + weigh f cs
      go true ih less = omega arith
      go false ih less = omega arith

  take_out : (c : Change) (ds : List Change) → is_in ds c ≡ true → f c + weigh f (filter (differs_from c) ds) ≤ weigh f ds
  take_out c [] e = cc (e)
  take_out c (d ∷ ds) e = go (same_change c d) (same_change d c) (same_change_is c d) (λ h. same_change_at d c (sym (same_change_is c d h))) (take_out c ds) (weigh-filter (differs_from c) ds) e
    where
      go : (b r : Bool) → (b ≡ true → c ≡ d) → (b ≡ true → r ≡ true) → (is_in ds c ≡ true → f c + weigh f (filter (differs_from c) ds) ≤ weigh f ds) → weigh f (filter (differs_from c) ds) ≤ weigh f ds →
          (b || is_in ds c) ≡ true → f c + weigh f (if not r then d ∷ filter (differs_from c) ds else filter (differs_from c) ds) ≤ f d + weigh f ds
      go true true same turn ih less e = let h = ap f (same refl) in omega arith
      go true false same turn ih less e = cc (turn refl)
      go false true same turn ih less e = let h = ih e in omega arith
      go false false same turn ih less e = let h = ih e in omega arith

  -- ---- sets

  -- one command per node, and each of them among the others
  pub subset_weighs : (cs ds : List Change) → one_each cs ≡ true → IsSubset cs ds → weigh f cs ≤ weigh f ds
  subset_weighs [] ds one part = omega arith
  subset_weighs (c ∷ cs) ds one part =
      let h = both (is_none (command_at cs c.node)) (one_each cs) one in
      let has = fewer c cs ds part in
      let rest = subset_weighs cs (filter (differs_from c) ds) h.1
      (λ x e. is_in-filter (differs_from c) ds x ∙ passes (is_in ds x) (same_change x c) (has.1 x e) (λ s. absent x (same_change_is x c s) e h.1 h.0)) in
      omega (arith, take_out c ds has.0)
    where
      passes : (a b : Bool) → a ≡ true → (b ≡ true → ⊥) → (a && not b) ≡ true
      passes true true e none = absurd (none refl)
      passes true false e none = refl
      passes false b e none = e

      absent : (x : Change) → x ≡ c → is_in cs x ≡ true → one_each cs ≡ true → is_none (command_at cs c.node) ≡ true → ⊥
      absent x same e one none = let at = at_from_in cs one x e in let there = ap (λ (y : Change). command_at cs y.node) (sym same) ∙ at in let g = sym (ap is_none there) ∙ none in cc (g)

  -- the admissible order changes no weight
  weigh-put_in : (c : Change) (ds : List Change) → weigh f (put_in c ds) ≡ f c + weigh f ds
  weigh-put_in c [] = refl
  weigh-put_in c (d ∷ ds) = go (goes_before c d) (weigh-put_in c ds)
    where
      go : (b : Bool) → weigh f (put_in c ds) ≡ f c + weigh f ds → weigh f (if b then c ∷ (d ∷ ds) else d ∷ put_in c ds) ≡ f c + (f d + weigh f ds)
      go true ih = refl
      go false ih = omega arith

  pub weigh-canonical : (cs : List Change) → weigh f (canonical cs) ≡ weigh f cs
  weigh-canonical [] = refl
  weigh-canonical (c ∷ cs) = weigh-put_in c (canonical cs) ∙ ap (λ n. f c + n) (weigh-canonical cs)

-- ---- weights of commands

-- One from a first value to a last weighs no more than one from the first and one to the last together, and an inverse
-- as much as the command.
pub record IsWeight (f : Change → ℕ) : Type 0 where
  pub joins : (p : Node) (first second third last : Value) →
      f (record { node = p; old = first; new = last }) ≤ f (record { node = p; old = first; new = second }) + f (record { node = p; old = third; new = last })
  pub back : (c : Change) → f (inverse c) ≡ f c

module _ (f : Change → ℕ) (weights : IsWeight f) where
  -- a log's touches weigh no more than the log
  touches_weigh : (cs : List Change) → weigh f (touches cs) ≤ weigh f cs
  touches_weigh [] = omega arith
  touches_weigh (c ∷ cs) =
      let h : f (record { node = c.node; old = c.old; new = new_or (command_at (touches cs) c.node) c.new }) ≤ f c + weight f (command_at (touches cs) c.node) = go (command_at (touches cs) c.node) (command_at-node (touches cs) c.node) in
      omega (arith, apart_from f c.node (touches cs), touches_weigh cs)
    where
      go : (o : Option Change) → ((d : Change) → o ≡ Some d → c.node ≡ d.node) → f (record { node = c.node; old = c.old; new = new_or o c.new }) ≤ f c + weight f o
      go None node = omega arith
      go (Some d) node = subst (λ p. f (record { node = c.node; old = c.old; new = d.new }) ≤ f c + f (record { node = p; old = d.old; new = d.new })) (node d refl) (weights.joins c.node c.old c.new d.old d.new)

  net_weighs : (cs : List Change) → weigh f (net cs) ≤ weigh f cs
  net_weighs cs = omega (arith, weigh-filter f is_change (touches cs), touches_weigh cs)

  pub nets_weigh : (logs : List (List Change)) → weigh f (nets_in_turn logs) ≤ weigh (weigh f) logs
  nets_weigh [] = omega arith
  nets_weigh (log ∷ logs) = omega (arith, weigh-append f (canonical (net log)) (nets_in_turn logs), weigh-canonical f (net log), net_weighs log, nets_weigh logs)

-- ---- commands against those of a set at their nodes

module _ (f : Change → ℕ) where
  pub weigh_members : (g h : Change → ℕ) (cs : List Change) → ((c : Change) → is_in cs c ≡ true → g c ≤ h c) → weigh g cs ≤ weigh h cs
  weigh_members g h [] le = omega arith
  weigh_members g h (c ∷ cs) le =
      omega (arith, le c (ap (λ b. b || is_in cs c) (same_change_at c c refl)), weigh_members g h cs (λ d e. le d (later (same_change d c) (is_in cs d) e)))
    where
      later : (a b : Bool) → b ≡ true → (a || b) ≡ true
      later true b e = refl
      later false b e = e

  -- what a set has at the nodes of commands with one per node weighs no more than the set
  pub nodes_weigh : (cs ds : List Change) → one_each cs ≡ true → weigh (λ c. weight f (command_at ds c.node)) cs ≤ weigh f ds
  nodes_weigh [] ds one = omega arith
  nodes_weigh (c ∷ cs) ds one =
      let h = both (is_none (command_at cs c.node)) (one_each cs) one in
      let rest = nodes_weigh cs (filter (is_apart c.node) ds) h.1 in
      let same = weigh_members (λ d. weight f (command_at ds d.node)) (λ d. weight f (command_at (filter (is_apart c.node) ds) d.node)) cs
      (λ d e. stays d (same_path d.node c.node) (λ s. absent d (same_path_is d.node c.node s) (at_from_in cs h.1 d e) h.0) (command_at-apart c.node ds d.node)) in
      omega (arith, apart_from f c.node ds)
    where
      absent : (d : Change) → d.node ≡ c.node → command_at cs d.node ≡ Some d → is_none (command_at cs c.node) ≡ true → ⊥
      absent d same at none = let g = ap (λ p. is_none (command_at cs p)) same in let k = ap is_none at in cc (g, none)

      stays : (d : Change) (b : Bool) → (b ≡ true → ⊥) → command_at (filter (is_apart c.node) ds) d.node ≡ (if b then None else command_at ds d.node) →
          weight f (command_at ds d.node) ≤ weight f (command_at (filter (is_apart c.node) ds) d.node)
      stays d true not e = absurd (not refl)
      stays d false not e = let g = ap (weight f) e in omega arith
