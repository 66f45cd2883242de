-- How the demands of one node are written, log by log.
use Rattle.std.proofs.Common.{◌≡◌, ◌<◌, ◌+◌, ℕ, Bool, true, false, List, [], ◌∷◌, ◌++◌, map, take, length, get_or, refl, sym, ap, ◌∙◌}
use Rattle.std.specs.Prelude.{slice_set, if◌then◌else◌}
use Rattle.std.proofs.lemmas.List.{map-set, take_more}
use Rattle.refluent.specs.Needs.{Need}
use Rattle.refluent.specs.Demands.{demanded}
use Rattle.refluent.specs.Tables.{write_own, write_absent, write_if, need_said, leaves_by}
use Rattle.refluent.specs.declared.claims.Claim.{Claim}
use Rattle.refluent.specs.declared.demands.Demand.{Demand}
use Rattle.refluent.specs.declared.demands.Demand.TheVariants as demand

own_append : (cs : List Claim) (c : Claim) (ns : List Need) → write_own (cs ++ c ∷ []) ns ≡ slice_set (write_own cs ns) c.log (need_said c.says)
own_append [] c ns = refl
own_append (d ∷ cs) c ns = own_append cs c (slice_set ns d.log (need_said d.says))

left_append : (cs : List Claim) (c : Claim) (ns : List Need) → write_absent (cs ++ c ∷ []) ns ≡ write_if (leaves_by c.says) (write_absent cs ns) c.log
left_append [] c ns = refl
left_append (d ∷ cs) c ns = left_append cs c (write_if (leaves_by d.says) ns d.log)

pub own_more : (cs : List Claim) (i : ℕ) (c : Claim) (ds : List Demand) (d : Demand) (ns : List Need) → i < length cs → c ≡ get_or cs i c → map demanded ds ≡ write_own (take i cs) ns → demanded d ≡ need_said c.says →
    map demanded (slice_set ds c.log d) ≡ write_own (take (i + 1) cs) ns
own_more cs i c ds d ns low is so here = map-set demanded ds c.log d ∙ ap (λ l. slice_set l c.log (demanded d)) so ∙ ap (slice_set (write_own (take i cs) ns) c.log) here ∙ sym (own_append (take i cs) c ns) ∙ ap (λ l. write_own l ns) (sym (take_more cs i c low ∙ ap (λ x. take i cs ++ x ∷ []) (sym is)))

left_by : (b : Bool) (ds : List Demand) (l : ℕ) → map demanded (if b then slice_set ds l demand.Absent else ds) ≡ write_if b (map demanded ds) l
left_by true ds l = map-set demanded ds l demand.Absent
left_by false ds l = refl

pub left_more : (cs : List Claim) (i : ℕ) (c : Claim) (ds es : List Demand) (b : Bool) (ns : List Need) → i < length cs → c ≡ get_or cs i c → map demanded ds ≡ write_absent (take i cs) ns → b ≡ leaves_by c.says → es ≡ (if b then slice_set ds c.log demand.Absent else ds) →
    map demanded es ≡ write_absent (take (i + 1) cs) ns
left_more cs i c ds es b ns low is so leaves made = ap (map demanded) made ∙ left_by b ds c.log ∙ ap (λ x. write_if x (map demanded ds) c.log) leaves ∙ ap (λ l. write_if (leaves_by c.says) l c.log) so ∙ sym (left_append (take i cs) c ns) ∙
    ap (λ l. write_absent l ns) (sym (take_more cs i c low ∙ ap (λ x. take i cs ++ x ∷ []) (sym is)))

pub left_more_then : (cs : List Claim) (i : ℕ) (c : Claim) (ds es : List Demand) (ns : List Need) → i < length cs → c ≡ get_or cs i c → map demanded ds ≡ write_absent (take i cs) ns → leaves_by c.says ≡ true → es ≡ slice_set ds c.log demand.Absent →
    map demanded es ≡ write_absent (take (i + 1) cs) ns
left_more_then cs i c ds es ns low is so leaves made = left_more cs i c ds es true ns low is so (sym leaves) made

pub left_more_else : (cs : List Claim) (i : ℕ) (c : Claim) (ds es : List Demand) (ns : List Need) → i < length cs → c ≡ get_or cs i c → map demanded ds ≡ write_absent (take i cs) ns → leaves_by c.says ≡ false → es ≡ ds →
    map demanded es ≡ write_absent (take (i + 1) cs) ns
left_more_else cs i c ds es ns low is so leaves made = left_more cs i c ds es false ns low is so (sym leaves) made
