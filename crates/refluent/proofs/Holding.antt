-- What the calls of a joint read in its tables.
use Rattle.std.proofs.Common.{◌≡◌, ◌<◌, ◌≤◌, ◌+◌, ℕ, zero, suc, List, [], ◌∷◌, length, Option, Some, None, refl, sym, ap, ◌∙◌, arith}
use Rattle.std.specs.List.{slice_get, slice_range}
use Rattle.sync_path.specs.Paths.{Node}
use Rattle.sync_command.specs.declared.commands.Row.{Row}
use Rattle.sync_command.specs.Changes.{Change}
use Rattle.refluent.specs.Joints.{path_at}
use Rattle.refluent.specs.JointTables.{IsHeld, start_at}
use Rattle.refluent.specs.Picks.{net_commands}
use Rattle.refluent.specs.declared.joint.Link.{Link}
use Rattle.refluent.specs.declared.joint.Pick.{Pick}

row_at : (rows : List Row) (place : ℕ) → place < length rows → (row : Row) × (slice_get rows place ≡ Some row)
row_at [] place low = absurd (omega arith)
row_at (row ∷ rows) zero low = (row, refl)
row_at (row ∷ rows) (suc place) low = row_at rows place (omega arith)

path_of : (rows : List Row) (place : ℕ) (row : Row) (p : Node) → slice_get rows place ≡ Some row → path_at rows place ≡ Some p → row.path ≡ p
path_of rows place row p at is = same (sym (ap (λ o. path_in o) at) ∙ is)
  where
    path_in : Option Row → Option Node
    path_in None = None
    path_in (Some r) = Some r.path

    same : Some row.path ≡ Some p → row.path ≡ p
    same e = cc

module _ (sets : List (List Change)) (nodes : List Row) (links : List Link) (picks : List Pick) (drawn : ℕ) (held : IsHeld sets nodes links picks drawn) (place : ℕ) (low : place < length nodes)
    (l : List Link) (ps : List Pick) (same : l ≡ links) (all : ps ≡ picks) (a b : ℕ) (start : a ≡ start_at l ps place) (end' : b ≡ start_at l ps (place + 1)) where
  begins : a ≡ start_at links picks place
  begins = start ∙ ap (λ x. start_at x ps place) same ∙ ap (λ x. start_at links x place) all

  ends : b ≡ start_at links picks (place + 1)
  ends = end' ∙ ap (λ x. start_at x ps (place + 1)) same ∙ ap (λ x. start_at links x (place + 1)) all

  pub in_bounds : (a ≤ b) × (b ≤ length ps)
  in_bounds = let r = row_at nodes place low in let h = held.bounds place r.0 r.1 in let n : length ps ≡ length picks = ap length all in let x = begins in let y = ends in
      let p : start_at links picks place ≤ start_at links picks (place + 1) = h.0 in let q : start_at links picks (place + 1) ≤ length picks = h.1 in (omega arith, omega arith)

  pub are_commands : (p : Node) → path_at nodes place ≡ Some p → slice_range ps a b ≡ net_commands sets p
  are_commands p is = let r = row_at nodes place low in
      ap (λ x. slice_range x a b) all ∙ ap (λ x. slice_range picks x b) begins ∙ ap (λ x. slice_range picks (start_at links picks place) x) ends ∙ held.commands place r.0 r.1 ∙ ap (net_commands sets) (path_of nodes place r.0 p r.1 is)
