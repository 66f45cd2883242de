-- The links and the picks of a joint, made of the groups of its claims.
use Rattle.std.proofs.Common.{◌≡◌, ◌<◌, ◌≤◌, ◌+◌, ◌-◌, ℕ, zero, suc, List, [], ◌∷◌, ◌++◌, take, drop, length, Option, Some, None, refl, sym, ap, subst, ◌∙◌, arith, length-append, append_assoc, ◌⊎◌, inl, inr}
use Rattle.std.specs.Option.{option_map}
use Rattle.std.specs.List.{slice_get, slice_range}
use Rattle.std.proofs.lemmas.Option.{slice_get_within}
use Rattle.std.proofs.lemmas.Bool.{cases_lt}
use Rattle.sync_path.specs.Paths.{Node, parent}
use Rattle.sync_command.specs.declared.commands.Row.{Row}
use Rattle.refluent.specs.JointTables.{start_at, start_or}
use Rattle.refluent.specs.JointParts.{AreRowsOf, row_of, sets_by}
use Rattle.refluent.specs.Numberings.{AreLinks, IsNumbered, link_of, picks_of}
use Rattle.refluent.specs.Picks.{IsParentPlace, net_commands}
use Rattle.refluent.specs.Tables.{AreOrdered, IsGroup, IsParentGroup, IsTable, node_of}
use Rattle.refluent.specs.declared.joint.Link.{Link}
use Rattle.refluent.specs.declared.joint.Pick.{Pick}
use Rattle.refluent.specs.declared.numbering.Numbering.{Numbering}
use Rattle.refluent.specs.declared.claims.Claim.{Claim}
use Rattle.refluent.specs.declared.table.Group.{Group}
use Rattle.refluent.proofs.ClaimChanges.{take_range}
use Rattle.refluent.proofs.Contiguous.{StartsAt, starts_next}
use Rattle.refluent.proofs.GroupPicks.{group_picks}
use Rattle.refluent.proofs.Numbered.{picks-append}

pub take_all : {X : Type 0} (xs : List X) → take (length xs) xs ≡ xs
take_all [] = refl
take_all (x ∷ xs) = ap (λ l. x ∷ l) (take_all xs)

pub all_picks : (claims : List Claim) (n : Numbering) → IsNumbered claims (length claims) n → n.picks.items ≡ picks_of claims claims
all_picks claims n h = h.picks ∙ ap (picks_of claims) (take_all claims)

item_of : {X : Type 0} (xs : List X) (k : ℕ) → k < length xs → (x : X) × (slice_get xs k ≡ Some x)
item_of [] k low = absurd (omega arith)
item_of (x ∷ xs) zero low = (x, refl)
item_of (x ∷ xs) (suc k) low = item_of xs k (omega arith)

none_past : {X : Type 0} (xs : List X) (k : ℕ) → length xs ≤ k → slice_get xs k ≡ None
none_past [] k low = refl
none_past (x ∷ xs) zero low = absurd (omega arith)
none_past (x ∷ xs) (suc k) low = none_past xs k (omega arith)

-- a part of three joined lists
drop_first : {X : Type 0} (xs ys : List X) → drop (length xs) (xs ++ ys) ≡ ys
drop_first [] ys = refl
drop_first (x ∷ xs) ys = drop_first xs ys

take_first : {X : Type 0} (xs ys : List X) → take (length xs) (xs ++ ys) ≡ xs
take_first [] ys = refl
take_first (x ∷ xs) ys = ap (λ l. x ∷ l) (take_first xs ys)

middle : {X : Type 0} (xs ys zs : List X) (a b : ℕ) → a ≡ length xs → b ≡ length (xs ++ ys) → slice_range (xs ++ (ys ++ zs)) a b ≡ ys
middle xs ys zs a b first last =
    let many : length (xs ++ ys) ≡ length xs + length ys = length-append xs ys in
    let size : b - a ≡ length ys = omega arith in
    ap (λ n. take n (drop a (xs ++ (ys ++ zs)))) size ∙ ap (λ n. take (length ys) (drop n (xs ++ (ys ++ zs)))) first ∙ ap (take (length ys)) (drop_first xs (ys ++ zs)) ∙ take_first ys zs

module _ (claims : List Claim) (groups : List Group) (table : IsTable claims groups) (rows : List Row) (made : AreRowsOf claims groups rows) (links : List Link) (linked : AreLinks claims groups links (length groups)) where
  -- the group of a row
  of_row : (i : ℕ) (row : Row) → slice_get rows i ≡ Some row → (s : Group) × (slice_get groups i ≡ Some s) × (row ≡ row_of claims s)
  of_row i row at = let low : i < length rows = slice_get_within rows i row at in let s = item_of groups i (let m : length rows ≡ length groups = made.many in omega arith) in (s.0, s.1, same (sym at ∙ made.each i s.0 s.1))
    where
      same : {a b : Row} → Some a ≡ Some b → a ≡ b
      same e = cc

  pub parents_of : (i : ℕ) (row : Row) (link : Link) → slice_get rows i ≡ Some row → slice_get links i ≡ Some link → IsParentPlace rows (parent row.path) link.parent
  parents_of i row link at there = let s = of_row i row at in
      let low : i < length groups = slice_get_within groups i s.0 s.1 in
      let is : link ≡ link_of claims s.0 = same (sym there ∙ linked.each i s.0 low s.1) in
      subst (λ p. IsParentPlace rows (parent p) link.parent) (sym (ap (λ r. r.path) s.2)) (subst (λ f. IsParentPlace rows (parent (node_of claims s.0)) f) (sym (ap (λ l. l.parent) is)) (by (parent (node_of claims s.0)) s.0.parent (table.each i s.0 s.1).1))
    where
      same : {a b : Link} → Some a ≡ Some b → a ≡ b
      same e = cc

      by : (o : Option Node) (f : Option ℕ) → IsParentGroup claims groups o f → IsParentPlace rows o f
      by None f h = h
      by (Some q) f h = (h.0, h.1, ap (option_map (λ r. r.path)) (made.each h.0 h.2.group h.2.at) ∙ ap Some h.2.node)

  module _ (ordered : AreOrdered claims) (picks : List Pick) (all : picks ≡ picks_of claims claims) where
    whole : (k : ℕ) → k ≤ length claims → (ks : List Claim) × (claims ≡ take k claims ++ ks)
    whole k low = (slice_range claims k (length claims), sym (take_all claims) ∙ take_range claims k (length claims) low)

    start_here : (i : ℕ) (s : Group) → slice_get groups i ≡ Some s → start_at links picks i ≡ length (picks_of claims (take s.start claims))
    start_here i s at = ap (λ o. start_or o (length picks)) (linked.each i s (slice_get_within groups i s at) at)

    start_next : (i : ℕ) (s : Group) → slice_get groups i ≡ Some s → start_at links picks (i + 1) ≡ length (picks_of claims (take s.end claims))
    start_next i s at = go (cases_lt (i + 1) (length groups))
      where
        next : StartsAt claims groups (i + 1) s.end
        next = starts_next claims groups ordered.sorted table i s at

        go : (i + 1 < length groups) ⊎ (length groups ≤ i + 1) → start_at links picks (i + 1) ≡ length (picks_of claims (take s.end claims))
        go (inl low) = let t = item_of groups (i + 1) low in start_here (i + 1) t.0 t.1 ∙ ap (λ k. length (picks_of claims (take k claims))) (next.0 t.0 t.1)
        go (inr past) =
            let low : i < length groups = slice_get_within groups i s at in
            let last : s.end ≡ length claims = next.1 (omega arith) in
            ap (λ o. start_or o (length picks)) (none_past links (i + 1) (let m : length links ≡ length groups = linked.many in omega arith)) ∙ ap length all ∙ ap (λ l. length (picks_of claims l)) (sym (ap (λ k. take k claims) last ∙ take_all claims))

    -- the picks before a group, its own, and those after it
    parts : (s : Group) → IsGroup claims s → (later : List Pick) × (picks ≡ picks_of claims (take s.start claims) ++ (picks_of claims (slice_range claims s.start s.end) ++ later)) ×
        (picks_of claims (take s.end claims) ≡ picks_of claims (take s.start claims) ++ picks_of claims (slice_range claims s.start s.end))
    parts s group =
        let some : s.start < s.end = group.some in
        let rest = whole s.end group.high in
        let upto = take_range claims s.start s.end (omega arith) in
        let up : picks_of claims (take s.end claims) ≡ picks_of claims (take s.start claims) ++ picks_of claims (slice_range claims s.start s.end) = ap (picks_of claims) upto ∙ picks-append claims (take s.start claims) (slice_range claims s.start s.end) in (
          picks_of claims rest.0,
          all ∙ ap (picks_of claims) rest.1 ∙ picks-append claims (take s.end claims) rest.0 ∙ ap (λ l. l ++ picks_of claims rest.0) up ∙ append_assoc (picks_of claims (take s.start claims)) (picks_of claims (slice_range claims s.start s.end)) (picks_of claims rest.0),
          up,
        )

    pub bounds_of : (i : ℕ) (row : Row) → slice_get rows i ≡ Some row → (start_at links picks i ≤ start_at links picks (i + 1)) × (start_at links picks (i + 1) ≤ length picks)
    bounds_of i row at = let s = of_row i row at in let p = parts s.0 (table.each i s.0 s.1).0 in
        let a = start_here i s.0 s.1 in let b = start_next i s.0 s.1 in
        let x = picks_of claims (take s.0.start claims) in let y = picks_of claims (slice_range claims s.0.start s.0.end) in
        let m : length (picks_of claims (take s.0.end claims)) ≡ length x + length y = ap length p.2 ∙ length-append x y in
        let n : length picks ≡ length x + (length y + length p.0) = ap length p.1 ∙ length-append x (y ++ p.0) ∙ ap (λ k. length x + k) (length-append y p.0) in (omega arith, omega arith)

    pub commands_of : (i : ℕ) (row : Row) → slice_get rows i ≡ Some row → (count : ℕ) → ((k : ℕ) (c : Claim) → slice_get claims k ≡ Some c → c.log < count) →
        slice_range picks (start_at links picks i) (start_at links picks (i + 1)) ≡ net_commands (sets_by claims count) row.path
    commands_of i row at count logs = let s = of_row i row at in let g = (table.each i s.0 s.1).0 in let p = parts s.0 g in
        ap (λ l. slice_range l (start_at links picks i) (start_at links picks (i + 1))) p.1 ∙
        middle (picks_of claims (take s.0.start claims)) (picks_of claims (slice_range claims s.0.start s.0.end)) p.0 (start_at links picks i) (start_at links picks (i + 1)) (start_here i s.0 s.1) (start_next i s.0 s.1 ∙ ap length p.2) ∙
        group_picks claims ordered s.0 g count logs ∙ ap (net_commands (sets_by claims count)) (sym (ap (λ r. r.path) s.2))
