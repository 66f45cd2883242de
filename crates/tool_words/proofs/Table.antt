-- The table of commands, entry by entry.
use Rattle.std.proofs.Common.{◌≡◌, ◌∙◌, ◌<◌, ◌++◌, ◌+◌, refl, sym, ap, List, ℕ, suc, [], ◌∷◌, Option, Some, None, cond, length, map, drop, get_or, drop-cons, arith}
use Rattle.std.specs.Str.{bytes_eq}
use Rattle.tool_words.specs.Words.{Text}
use Rattle.tool_words.specs.Commands.{shape_of, verb_in}
use Rattle.tool_words.specs.Help.{help_line, help_lines}
use Rattle.tool_words.specs.declared.commands.CommandShape.{CommandShape}

-- the entry at hand, and those that follow it
entry : (shapes : List CommandShape) (at : ℕ) (shape : CommandShape) → at < length shapes → shape ≡ get_or shapes at shape
    → drop at shapes ≡ shape ∷ drop (at + 1) shapes
entry shapes at shape within is =
    drop-cons shapes at shape within ∙ ap (λ x. x ∷ drop (suc at) shapes) (sym is)
    ∙ ap (λ n. shape ∷ drop n shapes) (let e : suc at ≡ at + 1 = omega arith in e)

-- a name is looked up in them
pub verb_here : (shapes : List CommandShape) (at : ℕ) (shape : CommandShape) (name : Text) → at < length shapes → shape ≡ get_or shapes at shape
    → verb_in (map shape_of (drop at shapes)) name
    ≡ cond (bytes_eq shape.name.now name) (Some shape.verb) (verb_in (map shape_of (drop (at + 1) shapes)) name)
verb_here shapes at shape name within is = ap (λ rest. verb_in (map shape_of rest) name) (entry shapes at shape within is)

-- their lines
pub lines_here : (shapes : List CommandShape) (at : ℕ) (shape : CommandShape) → at < length shapes → shape ≡ get_or shapes at shape
    → help_lines (map shape_of (drop at shapes)) ≡ help_line (shape_of shape) ++ help_lines (map shape_of (drop (at + 1) shapes))
lines_here shapes at shape within is = ap (λ rest. help_lines (map shape_of rest)) (entry shapes at shape within is)
