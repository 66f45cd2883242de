-- Claims that say once what a log touches.
use Rattle.std.specs.Prelude.{◌≡◌, ℕ, Bool, true, false, List, slice_get, Some}
use Rattle.refluent.specs.declared.claims.Statement.{Statement}
use Rattle.refluent.specs.declared.claims.Statement.TheVariants.{Above, Touches}
use Rattle.refluent.specs.declared.claims.Claim.{Claim}

abbrev pub is_touching : Statement → Bool
is_touching Above = false
is_touching (Touches first last left) = true

-- a log claims only once that it touches a node
abbrev pub AreUnique : List Claim → Type 0
AreUnique claims =
    (i j : ℕ) (c d : Claim) → slice_get claims i ≡ Some c → slice_get claims j ≡ Some d →
    c.log ≡ d.log → c.path ≡ d.path → is_touching c.says ≡ true → i ≡ j
