-- No merger is a proper part of a drawn set that fits, and a merger is the first one where its commands rank first.
use Rattle.std.proofs.Common.{◌≡◌, true, List, [], ◌∷◌, ◌++◌, refl, arith}
use Rattle.refluent.specs.Mergers.{IsMerger}
use Rattle.merge_core.specs.FirstMergers.{is_preferred, IsFirstMerger}
use Rattle.refluent.specs.Sets.{is_in, IsSubset}
use Rattle.sync_command.specs.Changes.{Change}
use Rattle.sync_command.specs.Trees.{Holding}
use Rattle.refluent.proofs.CallerLemmas.{merger_whole, fewer, more}

alike_preferred : (cs ms ss : List Change) → IsSubset ms ss → IsSubset ss ms → is_preferred cs ms ss ≡ true
alike_preferred [] ms ss to from = refl
alike_preferred (c ∷ cs) ms ss to from = go (alike_preferred cs ms ss to from) (to c) (from c)
  where
    go : is_preferred cs ms ss ≡ true → (is_in ms c ≡ true → is_in ss c ≡ true) → (is_in ss c ≡ true → is_in ms c ≡ true) → is_preferred (c ∷ cs) ms ss ≡ true
    go rest to from = grind arith

prefix_preferred : (ps rest ms ss : List Change) → IsSubset ps ms → (IsSubset ps ss → is_preferred rest ms ss ≡ true) → is_preferred (ps ++ rest) ms ss ≡ true
prefix_preferred [] rest ms ss part last = last (λ c e. cc (e))
prefix_preferred (c ∷ ps) rest ms ss part last = go (λ h. prefix_preferred ps rest ms ss (fewer c ps ms part).1 (λ has. last (more c ps ss h has))) (fewer c ps ms part).0
  where
    go : (is_in ss c ≡ true → is_preferred (ps ++ rest) ms ss ≡ true) → is_in ms c ≡ true → is_preferred ((c ∷ ps) ++ rest) ms ss ≡ true
    go ih there = grind arith

-- Under a ranking that begins with a merger's commands, that merger is the first one.
pub steered_first : (t : Holding) (drawn ps rest ms : List Change) → IsMerger t drawn ms → IsSubset ps ms → IsSubset ms ps → IsFirstMerger t drawn (ps ++ rest) ms
steered_first t drawn ps rest ms merger to from = record {
  merger = merger;
  first = λ ss other. prefix_preferred ps rest ms ss to (λ has. alike_preferred rest ms ss (λ c e. has c (from c e)) (merger_whole t drawn ms ss merger other.within other.fits (λ c e. has c (from c e))));
}
