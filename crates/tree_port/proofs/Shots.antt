-- The first shot that names a call.
use Rattle.std.proofs.Common.{◌≡◌, ℕ, zero, suc, ◌+◌, ◌<◌, ◌≤◌, ◌==◌, true, false, List, [], ◌∷◌, length, drop, get_or, Some, None, refl, ap, add-one, arith}
use Rattle.std.specs.Prelude.{if◌then◌else◌}
use Rattle.tree_port.specs.InMemory.{shot_at}
use Rattle.tree_port.specs.declared.fuse.Shot.{Shot}

pub shot_here : (shots : List Shot) (i n : ℕ) (d : Shot) → i < length shots → ((get_or shots i d).call == n) ≡ true → shot_at (drop i shots) n ≡ Some (get_or shots i d).done
shot_here [] i n d low is = absurd (omega arith)
shot_here (s ∷ rest) zero n d low is = ap (λ b. if b then Some s.done else shot_at rest n) is
shot_here (s ∷ rest) (suc i) n d low is = shot_here rest i n d (omega arith) is

next : (shots : List Shot) (i n : ℕ) (d : Shot) → i < length shots → ((get_or shots i d).call == n) ≡ false → shot_at (drop i shots) n ≡ shot_at (drop (suc i) shots) n
next [] i n d low is = absurd (omega arith)
next (s ∷ rest) zero n d low is = ap (λ b. if b then Some s.done else shot_at rest n) is
next (s ∷ rest) (suc i) n d low is = next rest i n d (omega arith) is

pub shot_next : (shots : List Shot) (i n : ℕ) (d : Shot) → i < length shots → ((get_or shots i d).call == n) ≡ false → shot_at (drop i shots) n ≡ shot_at (drop (i + 1) shots) n
shot_next shots i n d low is = rw add-one (next shots i n d low is)

pub shot_end : (shots : List Shot) (i n : ℕ) → length shots ≤ i → shot_at (drop i shots) n ≡ None
shot_end [] zero n high = refl
shot_end [] (suc i) n high = refl
shot_end (s ∷ rest) zero n high = absurd (omega arith)
shot_end (s ∷ rest) (suc i) n high = shot_end rest i n (omega arith)
