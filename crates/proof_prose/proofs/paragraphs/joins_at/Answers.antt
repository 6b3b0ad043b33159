use Rattle.std.proofs.Common.{◌≡◌, ◌-◌, ◌<◌, ℕ, length, get_or, ◌∷◌, List, arith, ap, sym, ◌∙◌}
use Rattle.std.proofs.lemmas.List.{get_or_default}
use Rattle.proof_prose.specs.Paragraphs.{joins}
use Rattle.proof_prose.specs.declared.bodies.Spoken.{Spoken}
use Rattle.proof_prose.proofs.Runs.{get-before}
use Rattle.proof_prose.proofs.paragraphs.joins_at.Goals as goal

pub returns-then-i-eq0 : goal.returns-then-i-eq0
returns-then-i-eq0 c =
    let first : Spoken = c.args.first.now in
    let rest : List Spoken = c.args.rest.now in
    let some : 0 < length rest = omega (arith, c.requires, c.if-i-eq0.true) in
    let second : c.index-rest-0.result ≡ get_or rest 0 first = c.index-rest-0.is ∙ get_or_default rest 0 c.index-rest-0.result first some in
    c.joins.ensures
    ∙ ap (λ (s : Spoken). joins first s) second
    ∙ ap (λ (k : ℕ). joins (get_or (first ∷ rest) k first) (get_or rest k first)) (sym c.if-i-eq0.true)

pub returns-else-i-eq0 : goal.returns-else-i-eq0
returns-else-i-eq0 c =
    let first : Spoken = c.args.first.now in
    let rest : List Spoken = c.args.rest.now in
    let low : c.args.i - 1 < length rest = omega (arith, c.requires) in
    let before : c.index-rest-i.result ≡ get_or (first ∷ rest) c.args.i first =
    c.index-rest-i.is ∙ get_or_default rest (c.args.i - 1) c.index-rest-i.result first low ∙ sym (get-before first rest c.args.i first c.if-i-eq0.false) in
    let second : c.index-rest-i-else-i-eq0.result ≡ get_or rest c.args.i first =
    c.index-rest-i-else-i-eq0.is ∙ get_or_default rest c.args.i c.index-rest-i-else-i-eq0.result first c.requires in
    c.joins-else-i-eq0.ensures
    ∙ ap (λ (s : Spoken). joins s c.index-rest-i-else-i-eq0.result) before
    ∙ ap (λ (s : Spoken). joins (get_or (first ∷ rest) c.args.i first) s) second
