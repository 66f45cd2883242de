-- The number of the command with which a log has no tree is one.
use Rattle.std.proofs.Common.{◌≡◌, ◌-◌, ◌<◌, ◌≤◌, ℕ, zero, suc, List, [], ◌∷◌, take, take-take, subst, arith}
use Rattle.sync_command.specs.Changes.{Change}
use Rattle.sync_command.specs.Maps.{at}
use Rattle.sync_command.specs.Trees.{Holding, Takes, put}
use Rattle.canon_set.specs.Logs.{IsBrokenAt, IsTaken}

-- what holds of every shorter prefix fails first at one number
module _ (P : ℕ → Type 0) (shorter : (k l : ℕ) → k ≤ l → P l → P k) where
  not_before : (i j : ℕ) → (P i → ⊥) → P (j - 1) → i < j → ⊥
  not_before i j fails holds l = fails (shorter i (j - 1) (omega arith) holds)

  pub first_failing : (i j : ℕ) → P (i - 1) → (P i → ⊥) → P (j - 1) → (P j → ⊥) → i ≡ j
  first_failing i j holds_i fails_i holds_j fails_j =
      let up : i < j → ⊥ = not_before i j fails_i holds_j in
      let down : j < i → ⊥ = not_before j i fails_j holds_i in
      omega arith

-- a tree that takes a log takes each prefix of it
pub takes_prefix : (t : Holding) (k : ℕ) (cs : List Change) → Takes t cs → Takes t (take k cs)
takes_prefix t zero cs takes = tt
takes_prefix t (suc k) [] takes = tt
takes_prefix t (suc k) (c ∷ cs) takes = (takes.0, takes_prefix (put t c.node c.new) k cs takes.1)

pub takes_shorter : (t : Holding) (cs : List Change) (k l : ℕ) → k ≤ l → Takes t (take l cs) → Takes t (take k cs)
takes_shorter t cs k l le takes = subst (Takes t) (take-take k l cs le) (takes_prefix t k (take l cs) takes)

-- ---- logs that a tree takes

pub taken_prefix : (k : ℕ) (cs : List Change) → IsTaken cs → IsTaken (take k cs)
taken_prefix k cs taken = record { map = taken.map; tree = taken.tree; takes = takes_prefix (at taken.map) k cs taken.takes }

pub taken_shorter : (cs : List Change) (k l : ℕ) → k ≤ l → IsTaken (take l cs) → IsTaken (take k cs)
taken_shorter cs k l le taken = subst IsTaken (take-take k l cs le) (taken_prefix k (take l cs) taken)

-- ---- logs that none takes

pub broken_once : (cs : List Change) (i j : ℕ) → IsBrokenAt cs i → IsBrokenAt cs j → i ≡ j
broken_once cs i j p q = first_failing (λ k. IsTaken (take k cs)) (taken_shorter cs) i j p.2 p.3 q.2 q.3

pub not_broken : (cs : List Change) (number : ℕ) → IsBrokenAt cs number → IsTaken cs → ⊥
not_broken cs number broken taken = broken.3 (taken_prefix number cs taken)
