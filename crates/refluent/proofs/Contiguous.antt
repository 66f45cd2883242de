-- The groups of a table follow one another without a gap.
use Rattle.std.proofs.Common.{◌≡◌, ◌<◌, ◌≤◌, ◌+◌, ℕ, zero, suc, true, false, List, [], ◌∷◌, length, Some, refl, sym, ap, ◌∙◌, arith, ◌⊎◌, inl, inr}
use Rattle.std.specs.List.{slice_get}
use Rattle.std.proofs.lemmas.Option.{slice_get_within}
use Rattle.std.proofs.lemmas.Bool.{cases_lt}
use Rattle.sync_path.specs.Paths.{Node, comes_before}
use Rattle.refluent.specs.Tables.{AreSorted, IsTable, IsGroup, HasGroup, node_of, node_in}
use Rattle.refluent.specs.declared.claims.Claim.{Claim}
use Rattle.refluent.specs.declared.table.Group.{Group}
use Rattle.sync_path.proofs.CallerLemmas.{before_irrefl}

-- the claims of the group at a place begin at k, or all claims end there where it is the place past the last
abbrev pub StartsAt : List Claim → List Group → ℕ → ℕ → Type 0
StartsAt claims groups place k = ((s : Group) → slice_get groups place ≡ Some s → s.start ≡ k) × (place ≡ length groups → k ≡ length claims)

item_of : {X : Type 0} (xs : List X) (k : ℕ) → k < length xs → (x : X) × (slice_get xs k ≡ Some x)
item_of [] k low = absurd (omega arith)
item_of (x ∷ xs) zero low = (x, refl)
item_of (x ∷ xs) (suc k) low = item_of xs k (omega arith)

module _ (claims : List Claim) (groups : List Group) (sorted : AreSorted claims) (table : IsTable claims groups) where
  same_group : {a b : Group} → Some a ≡ Some b → a ≡ b
  same_group e = cc

  -- the claim at which a group begins is of the group's node
  begin : (i : ℕ) (s : Group) → slice_get groups i ≡ Some s → (x : Claim) × (slice_get claims s.start ≡ Some x) × (x.path ≡ node_of claims s)
  begin i s at = let g = (table.each i s at).0 in let a : s.start < s.end = g.some in let b : s.end ≤ length claims = g.high in
      let x = item_of claims s.start (omega arith) in (x.0, x.1, sym (ap node_in x.1))

  clash : (a b p q : Node) → a ≡ p → b ≡ q → comes_before a b ≡ false → comes_before p q ≡ true → ⊥
  clash a b p q e f g h = let k : comes_before p q ≡ false = sym (ap (λ x. comes_before x b) e ∙ ap (comes_before p) f) ∙ g in cc (k, h)

  -- claims past the end of a group are of later groups
  after_end : (i : ℕ) (s : Group) → slice_get groups i ≡ Some s → (k : ℕ) (c : Claim) → s.end ≤ k → slice_get claims k ≡ Some c → (j : ℕ) → HasGroup claims groups c.path j → i < j
  after_end i s at k c past there j g = go (cases_lt i j)
    where
      of : IsGroup claims s
      of = (table.each i s at).0

      late : (j < i) ⊎ (i ≤ j) → j ≤ i → ⊥
      late (inl less) le = let b = begin i s at in let some : s.start < s.end = of.some in
          clash c.path b.0.path (node_of claims g.group) (node_of claims s) (sym g.node) b.2 (sorted s.start k b.0 c (omega arith) b.1 there) (table.order j i g.group s less g.at at)
      late (inr more) le = let e : j ≡ i = omega arith in let same : g.group ≡ s = same_group (sym g.at ∙ ap (slice_get groups) e ∙ at) in
          let r = of.outside k c there (sym g.node ∙ ap (node_of claims) same) in let x : k < s.end = r.1 in absurd (omega arith)

      go : (i < j) ⊎ (j ≤ i) → i < j
      go (inl less) = less
      go (inr more) = absurd (late (cases_lt j i) more)

  -- and those before its beginning of earlier ones
  before_start : (i : ℕ) (s : Group) → slice_get groups i ≡ Some s → (k : ℕ) (c : Claim) → k < s.start → slice_get claims k ≡ Some c → (j : ℕ) → HasGroup claims groups c.path j → j < i
  before_start i s at k c early there j g = go (cases_lt j i)
    where
      of : IsGroup claims s
      of = (table.each i s at).0

      late : (i < j) ⊎ (j ≤ i) → i ≤ j → ⊥
      late (inl less) le = let b = begin i s at in
          clash b.0.path c.path (node_of claims s) (node_of claims g.group) b.2 (sym g.node) (sorted k s.start c b.0 early there b.1) (table.order i j s g.group less at g.at)
      late (inr more) le = let e : j ≡ i = omega arith in let same : g.group ≡ s = same_group (sym g.at ∙ ap (slice_get groups) e ∙ at) in
          let r = of.outside k c there (sym g.node ∙ ap (node_of claims) same) in let x : s.start ≤ k = r.0 in absurd (omega arith)

      go : (j < i) ⊎ (i ≤ j) → j < i
      go (inl less) = less
      go (inr more) = absurd (late (cases_lt i j) more)

  pub starts_first : StartsAt claims groups 0 0
  starts_first = (λ s at. first s at (cases_lt 0 s.start), λ none. empty none (cases_lt 0 (length claims)))
    where
      first : (s : Group) → slice_get groups 0 ≡ Some s → (0 < s.start) ⊎ (s.start ≤ 0) → s.start ≡ 0
      first s at (inl more) = let g = (table.each 0 s at).0 in let a : s.start < s.end = g.some in let b : s.end ≤ length claims = g.high in
          let c = item_of claims 0 (omega arith) in let h = table.all 0 c.0 c.1 in let x : h.0 < 0 = before_start 0 s at 0 c.0 more c.1 h.0 h.1 in absurd (omega arith)
      first s at (inr none) = omega arith

      empty : 0 ≡ length groups → (0 < length claims) ⊎ (length claims ≤ 0) → 0 ≡ length claims
      empty none (inl more) = let c = item_of claims 0 more in let h = table.all 0 c.0 c.1 in let x : h.0 < length groups = slice_get_within groups h.0 h.1.group h.1.at in absurd (omega arith)
      empty none (inr most) = omega arith

  pub starts_next : (i : ℕ) (s : Group) → slice_get groups i ≡ Some s → StartsAt claims groups (i + 1) s.end
  starts_next i s at = (λ t there. equal t there (cases_lt s.end t.start) (cases_lt t.start s.end), λ last. whole last (cases_lt s.end (length claims)))
    where
      of : IsGroup claims s
      of = (table.each i s at).0

      low : (t : Group) → slice_get groups (i + 1) ≡ Some t → t.start < s.end → (s.start ≤ t.start) ⊎ (t.start < s.start) → ⊥
      low t there less (inl inside) = let b = begin (i + 1) t there in let same : node_of claims t ≡ node_of claims s = sym b.2 ∙ of.inside t.start b.0 inside less b.1 in
          let x : comes_before (node_of claims s) (node_of claims t) ≡ true = table.order i (i + 1) s t (omega arith) at there in let y : comes_before (node_of claims s) (node_of claims t) ≡ false = ap (comes_before (node_of claims s)) same ∙ before_irrefl (node_of claims s) in cc (x, y)
      low t there less (inr before) = let b = begin (i + 1) t there in let a = begin i s at in
          clash a.0.path b.0.path (node_of claims s) (node_of claims t) a.2 b.2 (sorted t.start s.start b.0 a.0 before b.1 a.1) (table.order i (i + 1) s t (omega arith) at there)

      turn : (a b : ℕ) → (a < b) ⊎ (b ≤ a) → (b ≤ a) ⊎ (a < b)
      turn a b (inl x) = inr x
      turn a b (inr x) = inl x

      equal : (t : Group) → slice_get groups (i + 1) ≡ Some t → (s.end < t.start) ⊎ (t.start ≤ s.end) → (t.start < s.end) ⊎ (s.end ≤ t.start) → t.start ≡ s.end
      equal t there (inl gap) e = let g = (table.each (i + 1) t there).0 in let a : t.start < t.end = g.some in let b : t.end ≤ length claims = g.high in
          let c = item_of claims s.end (omega arith) in let h = table.all s.end c.0 c.1 in
          let x : i < h.0 = after_end i s at s.end c.0 (omega arith) c.1 h.0 h.1 in let y : h.0 < i + 1 = before_start (i + 1) t there s.end c.0 gap c.1 h.0 h.1 in absurd (omega arith)
      equal t there (inr none) (inl less) = absurd (low t there less (turn t.start s.start (cases_lt t.start s.start)))
      equal t there (inr none) (inr more) = omega arith

      whole : i + 1 ≡ length groups → (s.end < length claims) ⊎ (length claims ≤ s.end) → s.end ≡ length claims
      whole last (inl gap) = let c = item_of claims s.end gap in let h = table.all s.end c.0 c.1 in let x : i < h.0 = after_end i s at s.end c.0 (omega arith) c.1 h.0 h.1 in
          let y : h.0 < length groups = slice_get_within groups h.0 h.1.group h.1.at in absurd (omega arith)
      whole last (inr none) = let b : s.end ≤ length claims = of.high in omega arith
