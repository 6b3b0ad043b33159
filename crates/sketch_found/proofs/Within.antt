-- Lines that aren't within the limits.
use Rattle.std.proofs.Common.{ℕ, ◌≡◌, Bool, true, false, List, length, ◌∙◌, sym, subst}
use Rattle.std.proofs.lemmas.Bool.{both_ways}
use Rattle.std.specs.List.{list_all}
use Rattle.sketch_checker.specs.Seen.{line_of}
use Rattle.sketch_checker.specs.SketchLine.{SketchLine}
use Rattle.sketch_found.specs.Found.{IsWithin, is_line}
use Rattle.sketch_found.specs.declared.found.FoundSketch.{FoundSketch}

pub not-within : (most : ℕ) (f : FoundSketch) (n : ℕ) (ls : List SketchLine) (answer : Bool) → n ≡ length f.prices.items → ls ≡ f.lines.items → answer ≡ list_all (λ l. is_line n most (line_of l)) ls → answer ≡ false → IsWithin most f → ⊥
not-within most f n ls answer size lines told refused within =
    let those : list_all (λ (l : SketchLine). is_line (length f.prices.items) most (line_of l)) ls ≡ true = subst (λ (xs : List SketchLine). list_all (λ (l : SketchLine). is_line (length f.prices.items) most (line_of l)) xs ≡ true) (sym lines) within.lines in
    let all : list_all (λ (l : SketchLine). is_line n most (line_of l)) ls ≡ true = subst (λ (k : ℕ). list_all (λ (l : SketchLine). is_line k most (line_of l)) ls ≡ true) (sym size) those in
    both_ways answer refused (told ∙ all)
